-- What a harvest tells anew of a driver's content, whatever endpoints it has: one endpoint goes on with another transfer, or has ended; the ring stays.
use Rattle.std.proofs.Common.{◌≡◌, ◌≢◌, ℕ, zero, suc, ◌-◌, Bool, true, false, cond, List, [], ◌∷◌, ◌++◌, length, set, slice_get, Option, Some, None, ap, refl, sym, subst, ◌∙◌, ⊎_elim}
use Rattle.std.proofs.lemmas.Bool.{cases_eq}
use Rattle.std.proofs.lemmas.Option.{same_Some}
use Rattle.law_common.proofs.Lists.{set_self, set_here, set_there}
use Rattle.usb_base.specs.declared.endpoints.EndCause.{EndCause}
use Rattle.usb_base.specs.declared.endpoints.EndCause.TheVariants as causes
use Rattle.usb_base.specs.declared.endpoints.EpName.{EpName}
use Rattle.usb_base.specs.declared.reports.What.TheVariants as lines
use Rattle.word_mem.specs.Memory.{Mem}
use Rattle.drv_table.specs.declared.content.Endpoint.{Endpoint}
use Rattle.drv_table.specs.declared.content.Transfer.{Transfer}
use Rattle.drv_table.specs.declared.rows.DriverRow.TheVariants as rows
use Rattle.drv_table.specs.declared.rows.Found.{Found}
use Rattle.drv_table.specs.declared.rows.Found.TheVariants as founds
use Rattle.drv_table.specs.DriverContent.{DriverContent, waits_for}
use Rattle.drv_table.specs.Harvests.{noted, end_of, is_stall, reported}
use Rattle.drv_table.specs.Parts.{Parts}
use Rattle.drv_table.specs.Harvesting.{told_with, mends_of, behind_one, behind, after_end, harvested_as, served, after_harvest}
use Rattle.drv_table.specs.Rows.{after_driver_row}
use Rattle.law_driver.specs.run_owners.Due.{IsHarvestDue}
use Rattle.law_queues.proofs.lemmas.fed_lends.Asked.{set_which}
use Rattle.law_driver_ring.proofs.lemmas.fed_queues.Places.{SameQueues}

-- ---- the driver's content

-- command and ring stay
record Same (d f : DriverContent) : Type 0 where
  endpoints : f.endpoints ≡ d.endpoints
  command : f.command ≡ d.command
  waiting : f.waiting ≡ d.waiting
  rung : f.rung ≡ d.rung

same_both : (d f g : DriverContent) → Same d f → Same f g → Same d g
same_both d f g a b = record { endpoints = b.endpoints ∙ a.endpoints; command = b.command ∙ a.command; waiting = b.waiting ∙ a.waiting; rung = b.rung ∙ a.rung }

one_same : (d : DriverContent) (e : ℕ) (name : EpName) (k : ℕ) (o : Option Transfer) → Same d (behind_one d e name k o)
one_same d e name k None = record { endpoints = refl; command = refl; waiting = refl; rung = refl }
one_same d e name k (Some y) = by (waits_for e y)
  where
    by : (b : Bool) → Same d (cond b (record (reported d (lines.Halt causes.Stall) name []) { transfers = set d.transfers k (record y { reported = true }); harvested = d.harvested ++ k ∷ [] }) d)
    by true = record { endpoints = refl; command = refl; waiting = refl; rung = refl }
    by false = record { endpoints = refl; command = refl; waiting = refl; rung = refl }

behind_same : (d : DriverContent) (e : ℕ) (name : EpName) (k n : ℕ) → Same d (behind d e name k n)
unfolding behind
behind_same d e name k zero = record { endpoints = refl; command = refl; waiting = refl; rung = refl }
behind_same d e name k (suc n) =
    let f = behind_one d e name k (slice_get d.transfers k) in same_both d f (behind f e name (suc k) n) (one_same d e name k (slice_get d.transfers k)) (behind_same f e name (suc k) n)

-- endpoint e, which is x, is told anew: it goes on with another transfer, or has ended
pub record ToldAnew (d f : DriverContent) (e : ℕ) (x : Endpoint) : Type 0 where
  pub new : Endpoint
  pub endpoints : f.endpoints ≡ set d.endpoints e new
  pub queue : new.queue ≡ x.queue
  pub gone : new.gone ≡ x.gone
  pub linked : new.linked ≡ x.linked
  pub desc : new.desc ≡ x.desc
  pub command : f.command ≡ d.command
  pub waiting : f.waiting ≡ d.waiting
  pub rung : f.rung ≡ d.rung

end_told : (d : DriverContent) (e t : ℕ) (x : Endpoint) (stall : Bool) (o : Option EndCause) → ToldAnew d (after_end d e t x stall o) e x
end_told d e t x stall (Some cause) = record { new = record x { ended = Some cause }; endpoints = refl; queue = refl; gone = refl; linked = refl; desc = refl; command = refl; waiting = refl; rung = refl }
end_told d e t x false None = record { new = record x { next = _ }; endpoints = refl; queue = refl; gone = refl; linked = refl; desc = refl; command = refl; waiting = refl; rung = refl }
end_told d e t x true None =
    let s = behind_same (record d { harvested = d.harvested ++ t ∷ []; endpoints = set d.endpoints e (record x { next = None }); mends = d.mends ++ mends_of x }) e x.desc.name (suc t) (length d.transfers - suc t) in
    record { new = record x { next = None }; endpoints = s.endpoints; queue = refl; gone = refl; linked = refl; desc = refl; command = s.command; waiting = s.waiting; rung = s.rung }

read_told : (d : DriverContent) (m : Mem) (e t : ℕ) (x : Endpoint) (y : Transfer) (found : Found) → slice_get d.endpoints e ≡ Some x → ToldAnew d (harvested_as d m e t x y found) e x
read_told d m e t x y (founds.Served errors) here = record { new = record x { next = _ }; endpoints = refl; queue = refl; gone = refl; linked = refl; desc = refl; command = refl; waiting = refl; rung = refl }
read_told d m e t x y (founds.Ended n what) here =
    let k = end_told (told_with d m t y what x.desc.name (noted d.notes y.place n)) e t x (is_stall what) (end_of x.desc.kind what) in
    record { new = k.new; endpoints = k.endpoints; queue = k.queue; gone = k.gone; linked = k.linked; desc = k.desc; command = k.command; waiting = k.waiting; rung = k.rung }
read_told d m e t x y _ here = record { new = x; endpoints = set_self d.endpoints e x here; queue = refl; gone = refl; linked = refl; desc = refl; command = refl; waiting = refl; rung = refl }

pub harvest_told : (d : DriverContent) (m : Mem) (e t : ℕ) (found : Found) (x : Endpoint) (y : Transfer) → slice_get d.endpoints e ≡ Some x → ToldAnew d (after_harvest d m e t found (Some x) (Some y)) e x
harvest_told d m e t found x y here = by (waits_for e y)
  where
    by : (b : Bool) → ToldAnew d (cond b (served (harvested_as d m e t x y found) e) d) e x
    by true =
        let k = read_told d m e t x y found here in
        record { new = k.new; endpoints = k.endpoints; queue = k.queue; gone = k.gone; linked = k.linked; desc = k.desc; command = k.command; waiting = k.waiting; rung = k.rung }
    by false = record { new = x; endpoints = set_self d.endpoints e x here; queue = refl; gone = refl; linked = refl; desc = refl; command = refl; waiting = refl; rung = refl }

-- the harvest that is due
pub due_told : (p : Parts) (e t : ℕ) (found : Found) → (due : IsHarvestDue p e t found) → ToldAnew p.driver (after_driver_row (rows.Harvest e t found) p).driver e due.endpoint
due_told p e t found due =
    let d = p.driver in
    subst (λ (o : Option Endpoint). ToldAnew d (after_harvest d p.memory e t found o (slice_get d.transfers t)) e due.endpoint) (sym due.here)
    (subst (λ (o : Option Transfer). ToldAnew d (after_harvest d p.memory e t found (Some due.endpoint) o) e due.endpoint) (sym due.there) (harvest_told d p.memory e t found due.endpoint due.transfer due.here))

-- the same queue heads are met
pub same_queues : (d f : DriverContent) (e : ℕ) (x : Endpoint) → slice_get d.endpoints e ≡ Some x → ToldAnew d f e x → SameQueues d f
same_queues d f e x here k = record {
  ring = record { waiting = k.waiting; rung = k.rung; opens = λ c is. sym k.command ∙ is };
  back = record { waiting = sym k.waiting; rung = sym k.rung; opens = λ c is. k.command ∙ is };
  was = λ i z at.
      ⊎_elim
      (λ (own : (i ≡ e) × (z ≡ k.new)).
      record {
        endpoint = x;
        here = ap (slice_get d.endpoints) own.0 ∙ here;
        life = record {
          desc = ap (λ (r : Endpoint). r.desc) own.1 ∙ k.desc;
          queue = ap (λ (r : Endpoint). r.queue) own.1 ∙ k.queue;
          linked = ap (λ (r : Endpoint). r.linked) own.1 ∙ k.linked;
          gone = ap (λ (r : Endpoint). r.gone) own.1 ∙ k.gone;
        };
      })
      (λ (other : (i ≢ e) × (slice_get d.endpoints i ≡ Some z)). record { endpoint = z; here = other.1; life = record { desc = refl; queue = refl; linked = refl; gone = refl } })
      (set_which d.endpoints e i x k.new z here (ap (λ (xs : List Endpoint). slice_get xs i) (sym k.endpoints) ∙ at));
  is = λ i z at.
      ⊎_elim
      (λ (own : i ≡ e).
      let same : z ≡ x = same_Some z x (sym at ∙ ap (slice_get d.endpoints) own ∙ here) in
      record {
        endpoint = k.new;
        here = ap (slice_get f.endpoints) own ∙ ap (λ (xs : List Endpoint). slice_get xs e) k.endpoints
            ∙ set_here d.endpoints e x k.new here;
        life = record {
          desc = ap (λ (r : Endpoint). r.desc) same ∙ sym k.desc;
          queue = ap (λ (r : Endpoint). r.queue) same ∙ sym k.queue;
          linked = ap (λ (r : Endpoint). r.linked) same ∙ sym k.linked;
          gone = ap (λ (r : Endpoint). r.gone) same ∙ sym k.gone;
        };
      })
      (λ (other : i ≢ e).
      record { endpoint = z; here = ap (λ (xs : List Endpoint). slice_get xs i) k.endpoints ∙ set_there d.endpoints e i k.new other ∙ at; life = record { desc = refl; queue = refl; linked = refl; gone = refl } })
      (cases_eq i e);
}
