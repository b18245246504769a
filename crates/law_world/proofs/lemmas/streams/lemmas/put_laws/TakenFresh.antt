-- Of the qTDs that are out nothing was moved yet, where they aren't done.
use Rattle.std.proofs.Common.{◌≡◌, ℕ, zero, suc, ◌+◌, ◌-◌, ◌*◌, ◌==◌, ◌&&◌, not, Bool, true, false, if◌then◌else◌, List, [], ◌∷◌, drop, length, slice_get, Option, Some, None, ap, refl, sym, subst, ◌∙◌, ⊎_elim, inr, arith}
use Rattle.std.specs.Prelude.{nat_eq}
use Rattle.std.proofs.lemmas.Bool.{eqb-true}
use Rattle.law_ring.proofs.Common.{among_either}
use Rattle.law_queues.proofs.Common.{piece_more}
use Rattle.qh_qtd.specs.declared.qtd.Qtd.{Qtd}
use Rattle.drv_table.specs.declared.content.Command.{Command}
use Rattle.drv_table.specs.declared.content.Command.TheVariants as unfinished
use Rattle.drv_table.specs.declared.content.Endpoint.{Endpoint}
use Rattle.drv_table.specs.declared.content.Transfer.{Transfer}
use Rattle.drv_table.specs.DriverContent.{DriverContent}
use Rattle.drv_table.specs.Harvests.{note_at}
use Rattle.claims_driver.specs.Owners.{NoteRuns, note_in}
use Rattle.law_driver.specs.chained_transfers.Chains.{piece_at}
use Rattle.law_driver.specs.chained_transfers.AsynchronousTurns.{AsynchronousTakesTurns}
use Rattle.law_driver.specs.chained_transfers.Out.{pieces_from, passed, unpublished, if_last, out_of_transfer, out_of, out_now}
use Rattle.law_driver.specs.chained_transfers.Turns.{IsAtPlace}
use Rattle.law_structures.specs.lent_structures.Structures.{StructureSets}
use Rattle.law_structures.proofs.lemmas.lent_structures.Altering.{found_element}
use Rattle.law_ring.specs.Order.{IsFresh, IsAmong}
use Rattle.law_driver_ring.specs.fed_queues.Fed.{AreFed, IsPieceFed, unpublished_of, sized}
use Rattle.law_queues.proofs.lemmas.released_queues.Outs.{IsOutIn, out_of_one}
use Rattle.law_queues.specs.whole_sends.Laws.{AreFresh}
use Rattle.law_world.specs.streams.put_laws.Buffers.{IsPublishingTo}

-- ---- which is out

among_dropped : (a i : ℕ) (ys : List ℕ) → IsAmong a (drop i ys) → IsAmong a ys
among_dropped a zero ys among = among
among_dropped a (suc i) [] among = absurd among
among_dropped a (suc i) (y ∷ ys) among = inr (among_dropped a i ys among)

dropped_fewer : (a i k : ℕ) (xs : List ℕ) → IsAmong a (drop (i + k) xs) → IsAmong a (drop k xs)
dropped_fewer a i zero xs among = among_dropped a (i + 0) xs among
dropped_fewer a i (suc k) [] among = absurd (subst (λ (n : ℕ). IsAmong a (drop n [])) (let e : i + suc k ≡ suc (i + k) = omega arith in e) among)
dropped_fewer a i (suc k) (x ∷ xs) among = dropped_fewer a i k xs (subst (λ (n : ℕ). IsAmong a (drop n (x ∷ xs))) (let e : i + suc k ≡ suc (i + k) = omega arith in e) among)

transfer_fewer : (note : ℕ → NoteRuns) (e first : ℕ) (y : Transfer) (a : ℕ) → IsAmong a (out_of_transfer note e first y) → IsAmong a (out_of_transfer note e 0 y)
transfer_fewer note e first y a among = by (y.endpoint == e && not y.released) among
  where
    by : (c : Bool) → IsAmong a (if c then drop (first + passed y.reported) (pieces_from note y.place y.left) else []) → IsAmong a (if c then drop (0 + passed y.reported) (pieces_from note y.place y.left) else [])
    by true there =
        subst (λ (n : ℕ). IsAmong a (drop n (pieces_from note y.place y.left))) (let e : passed y.reported ≡ 0 + passed y.reported = omega arith in e) (dropped_fewer a first (passed y.reported) (pieces_from note y.place y.left) there)
    by false there = there

out_any : (note : ℕ → NoteRuns) (e : ℕ) (c : Option Command) (made : ℕ) (ts : List Transfer) (a : ℕ) → IsAmong a (out_of note e c made ts) → IsOutIn note e ts a
out_any note e c made [] a among = absurd among
out_any note e c made (y ∷ ys) a among =
    let first = if_last ys (unpublished c made y.qtds) in
    ⊎_elim (λ (own : IsAmong a (out_of_transfer note e first y)). record { number = 0; transfer = y; here = refl; is = out_of_one note e y a (transfer_fewer note e first y a own) })
    (λ (rest : IsAmong a (out_of note e c made ys)). let k = out_any note e c made ys a rest in record { number = suc k.number; transfer = k.transfer; here = k.here; is = k.is })
    (among_either a (out_of_transfer note e first y) (out_of note e c made ys) among)

-- ---- while nothing is published

module _ (d : DriverContent) (parts : StructureSets) (e : ℕ) (x : Endpoint) (turns : AsynchronousTakesTurns d) (fed : AreFed d parts) (here : slice_get d.endpoints e ≡ Some x) (none : (b : ℕ) → IsPublishingTo d e b → ⊥) where
  all_published : (t : ℕ) (y : Transfer) → slice_get d.transfers t ≡ Some y → y.endpoint ≡ e → unpublished_of d t y ≡ 0
  all_published t y there own = by (nat_eq (suc t) (length d.transfers)) refl d.command refl
    where
      by : (b : Bool) → nat_eq (suc t) (length d.transfers) ≡ b → (o : Option Command) → d.command ≡ o → (if b then unpublished o d.made y.qtds else 0) ≡ 0
      by false is o command = refl
      by true is None command = refl
      by true is (Some (unfinished.Open queue)) command = refl
      by true is (Some (unfinished.Publish b words)) command =
          absurd (none b (record { words = words; command = command; number = t; transfer = y; newest = eqb-true (suc t) (length d.transfers) is; there = there; its_endpoint = own }))
      by true is (Some (unfinished.Unlink i b link)) command = refl
      by true is (Some unfinished.Chain) command = refl
      by true is (Some (unfinished.Iso i u count)) command = refl
      by true is (Some (unfinished.Unchain i)) command = refl

  pub out_fresh : AreFresh (out_now d e) (parts (32 * x.queue))
  out_fresh a t among at active =
      let n = 32 * x.queue in
      let note = note_in d.notes in
      let k : IsOutIn note e d.transfers a = out_any note e d.command d.made d.transfers a among in
      let y = k.transfer in
      let place : IsAtPlace note y = turns.turns.places k.number y k.here k.is.held in
      let number = k.is.dropped.number in
      let i = (y.qtds - y.left) + number in
      let all = all_published k.number y k.here k.is.endpoint in
      let below = k.is.dropped.below in
      let most = place.most in
      let piece : IsPieceFed y.sort (parts n) (sized y.sort i (note_at d.notes (piece_at note y.first i))) (piece_at note y.first i) (piece_at note y.first y.qtds) =
      fed.pieces k.number i y x k.here k.is.held (ap (slice_get d.endpoints) k.is.endpoint ∙ here) (omega (arith, all)) (omega (arith, below, most)) in
      let address : a ≡ 32 * piece_at note y.first i =
      k.is.dropped.at ∙ ap (λ (b : ℕ). 32 * b) (ap (λ (b : ℕ). piece_at note b number) place.place ∙ piece_more note y.first (y.qtds - y.left) number) in
      let same : t ≡ piece.qtd = found_element (parts n a) t piece.qtd at (ap (parts n) address ∙ piece.here) in
      subst (λ (u : Qtd). IsFresh (parts n) u) (sym same) (piece.fresh (ap (λ (u : Qtd). u.token.active) (sym same) ∙ active) ∙ sym piece.long)
