-- What is told of each queue after a harvest.
use Rattle.std.proofs.Common.{◌≡◌, ◌≢◌, ℕ, ◌*◌, if◌then◌else◌, ◌==◌, List, ◌++◌, slice_get, Some, None, ap, sym, ◌∙◌, ⊎_elim, arith, false}
use Rattle.std.proofs.lemmas.Bool.{cases_eq}
use Rattle.std.proofs.lemmas.Option.{same_Some}
use Rattle.std.proofs.lemmas.List.{append_assoc}
use Rattle.word_mem.specs.Memory.{Mem}
use Rattle.law_structures.specs.lent_structures.Structures.{StructureSets}
use Rattle.law_ring.specs.Hand.{Hand}
use Rattle.drv_table.specs.declared.content.Endpoint.{Endpoint}
use Rattle.drv_table.specs.declared.content.Transfer.{Transfer}
use Rattle.drv_table.specs.declared.content.Command.TheVariants as unfinished
use Rattle.drv_table.specs.declared.rows.Found.{Found}
use Rattle.drv_table.specs.DriverContent.{DriverContent}
use Rattle.drv_table.specs.Harvesting.{found_of, after_harvest}
use Rattle.law_driver.specs.chained_transfers.Out.{out_now}
use Rattle.law_queues.specs.harvest_laws.Row.{HadQueue}
use Rattle.law_queues.specs.harvest_laws.RowLaws.{IsReadNext, CanBeRead, HarvestGoesOn}
use Rattle.law_queues.proofs.lemmas.harvest_laws.RowRows.{grown_at}
use Rattle.law_queues.proofs.lemmas.harvest_laws.RowHarvesting.{harvest_is_told}
use Rattle.law_controller.specs.controlled_streams.Reported.{IsReported}
use Rattle.law_queues.specs.harvest_laws.Told.{ToldStands}
use Rattle.law_queues.specs.harvest_laws.ToldLaws.{HarvestReports}
use Rattle.law_driver_ring.specs.fed_queues.Places.{IsThere}

pub harvested_is_told : (order : ℕ → ℕ) (d : DriverContent) (m : Mem) (parts : StructureSets) (hand : Hand) (e t : ℕ) (x : Endpoint) (y : Transfer) (found : Found) (acc : List (List ℕ)) (reported : ℕ → List ℕ)
    → IsReadNext d e t x y → CanBeRead d m parts hand e t x y → ((k : ℕ) (z : Endpoint) → slice_get d.endpoints k ≡ Some z → z.gone ≡ false → z.queue ≡ x.queue → k ≡ e)
    → found ≡ found_of d m y y.sort → ToldStands d hand parts reported → IsReported order (out_now d e) hand parts (32 * x.queue) acc (reported (32 * x.queue))
    → HarvestReports order d (after_harvest d m e t found (Some x) (Some y)) hand parts e x acc reported
harvested_is_told order d m parts hand e t x y found acc reported n c alone is k r = record {
  bytes = h.bytes;
  stands = λ now here beside. record {
    held = h.tells.later;
    told = told_now;
    holds = h.tells.holds;
    tells = h.tells.tells told_now (grown_at e h.bytes k.told);
    met = λ f z at meets.
        let had : HadQueue d f z = h.tells.queues f z at in
        ⊎_elim (λ (own : f ≡ e).
        let x_is : had.endpoint ≡ x = same_Some had.endpoint x (sym had.here ∙ ap (slice_get d.endpoints) own ∙ n.next.endpoint) in
        let kept : x.gone ≡ false = ap (λ (v : Endpoint). v.gone) (sym x_is) ∙ sym had.gone ∙ meets.kept in
        let q_is : z.queue ≡ x.queue = had.same ∙ ap (λ (v : Endpoint). v.queue) x_is in
        ap told_now own ∙ (grown_at e h.bytes k.told).here ∙ ap (λ (xs : List ℕ). xs ++ h.bytes) (k.met e x n.next.endpoint (idle x kept)) ∙ sym here ∙ ap (λ (q : ℕ). now (32 * q)) (sym q_is))
        (λ (differs : f ≢ e).
        (grown_at e h.bytes k.told).beside f differs ∙ k.met f had.endpoint had.here (idle had.endpoint (sym had.gone ∙ meets.kept)) ∙ ap (λ (q : ℕ). reported (32 * q)) (sym had.same)
        ∙ sym (beside (32 * z.queue) (λ same. differs (alone f had.endpoint had.here (sym had.gone ∙ meets.kept) (sym had.same ∙ (let q : z.queue ≡ x.queue = omega (arith, same) in q)))))) (cases_eq f e);
    opening = λ f z at kept opens. absurd (no_open z.queue (sym n.command ∙ sym h.tells.command ∙ opens));
  };
  right = record {
    place = r.place;
    told = h.others;
    accounts = h.accounts;
    sum = append_assoc (reported (32 * x.queue)) h.bytes h.others ∙ ap (λ (xs : List ℕ). reported (32 * x.queue) ++ xs) (sym h.sum) ∙ r.sum;
  };
  beside = h.beside;
}
  where
    h : HarvestGoesOn order r.place d (after_harvest d m e t found (Some x) (Some y)) hand parts e t x y r.told k.held k.told
    h = harvest_is_told order r.place d m parts hand e t x y r.told k.held k.told found n c k.holds k.tells r.accounts is

    told_now : ℕ → List ℕ
    told_now f = if f == e then k.told f ++ h.bytes else k.told f

    no_open : (b : ℕ) → None ≡ Some (unfinished.Open b) → ⊥
    no_open b is_open = cc

    idle : (z : Endpoint) → z.gone ≡ false → IsThere d z
    idle z kept = record { linked = λ opens. no_open z.queue (sym n.command ∙ opens); kept = kept }
