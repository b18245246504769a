-- Of what a short packet passed over no bytes are told.
use Rattle.std.proofs.Common.{◌≡◌, ℕ, zero, suc, ◌+◌, ◌-◌, ◌*◌, ◌<◌, ◌≤◌, ◌==◌, ◌&&◌, not, Bool, true, false, if◌then◌else◌, List, [], ◌∷◌, drop, slice_get, Option, Some, None, option_map, ap, refl, sym, subst, ◌∙◌, inl, inr, arith}
use Rattle.std.proofs.lemmas.Bool.{eqb-true}
use Rattle.std.proofs.lemmas.Option.{same_Some}
use Rattle.law_queues.proofs.Common.{among_left, among_right, piece_more, all_out}
use Rattle.law_common.proofs.Booleans.{waits_by}
use Rattle.qh_qtd.specs.declared.qtd.Qtd.{Qtd}
use Rattle.law_structures.specs.lent_structures.Structures.{StructureSets}
use Rattle.law_structures.proofs.lemmas.lent_structures.Altering.{found_element}
use Rattle.law_ring.specs.Hand.{Hand}
use Rattle.law_ring.specs.Told.{Told}
use Rattle.law_ring.specs.Order.{IsAmong}
use Rattle.drv_table.specs.declared.content.Endpoint.{Endpoint}
use Rattle.drv_table.specs.declared.content.Transfer.{Transfer}
use Rattle.drv_table.specs.declared.content.Command.{Command}
use Rattle.drv_table.specs.DriverContent.{DriverContent}
use Rattle.claims_driver.specs.Owners.{NoteRuns, note_in}
use Rattle.law_driver.proofs.lemmas.endpoint_lives.Lives.{none_told}
use Rattle.law_driver.specs.chained_transfers.Chains.{piece_at}
use Rattle.law_driver.specs.chained_transfers.Turns.{IsAtPlace, turn_of, turn_in, IsInList, AreReportedTo, AreInTurn}
use Rattle.law_driver.specs.chained_transfers.Out.{pieces_from, passed, unpublished, if_last, out_of_transfer, out_of}
use Rattle.law_driver_ring.specs.fed_queues.Places.{IsMet, AreStillOut}
use Rattle.law_ring.specs.Front.{IsPassed}
use Rattle.law_controller.proofs.lemmas.controlled_streams.Returning.{passed_has_none}
use Rattle.law_queues.specs.released_queues.Fronts.{StandsAt, FrontsStand}
use Rattle.law_queues.specs.harvest_laws.Outs.{IsOutEarlier}

-- ---- it is one of the later qTDs of an earlier, reported transfer

among_by : (b : Bool) (p : ℕ) (xs : List ℕ) → IsAmong p (if b then xs else []) → (b ≡ true) × IsAmong p xs
among_by true p xs k = (refl, k)
among_by false p xs k = absurd k

record IsLater (note : ℕ → NoteRuns) (b n i p : ℕ) : Type 0 where
  at : ℕ
  from : i ≤ at
  below : at < n
  is : p ≡ 32 * piece_at note b at

later_of : (note : ℕ → NoteRuns) (b n i p : ℕ) → IsAmong p (drop i (pieces_from note b n)) → IsLater note b n i p
later_of note b zero zero p k = absurd k
later_of note b zero (suc i) p k = absurd k
later_of note b (suc n) zero p (inl is) = record { at = 0; from = omega arith; below = omega arith; is = is }
later_of note b (suc n) zero p (inr k) =
    let l : IsLater note (note b).next n 0 p = later_of note (note b).next n 0 p k in
    let less = l.below in
    record { at = suc l.at; from = omega arith; below = omega (arith, less); is = l.is }
later_of note b (suc n) (suc i) p k =
    let l : IsLater note (note b).next n i p = later_of note (note b).next n i p k in
    let less = l.below in
    let from = l.from in
    record { at = suc l.at; from = omega (arith, from); below = omega (arith, less); is = l.is }

-- ---- it is out

is_out : (note : ℕ → NoteRuns) (e made n p : ℕ) (ts : List Transfer) (z : Transfer) → slice_get ts n ≡ Some z → IsAmong p (out_of_transfer note e 0 z) → IsAmong p (out_of note e None made ts)
is_out note e made n p [] z here k = absurd (none n here)
  where
    none : (i : ℕ) → slice_get [] i ≡ Some z → ⊥
    none zero is = cc
    none (suc i) is = cc
is_out note e made zero p (y ∷ ys) z here k =
    among_left p (out_of_transfer note e (if_last ys (unpublished None made y.qtds)) y) (out_of note e None made ys)
    (subst (λ (i : ℕ). IsAmong p (out_of_transfer note e i y)) (sym (all_out ys made y.qtds)) (subst (λ (v : Transfer). IsAmong p (out_of_transfer note e 0 v)) (sym (same_Some y z here)) k))
is_out note e made (suc n) p (y ∷ ys) z here k = among_right p (out_of_transfer note e (if_last ys (unpublished None made y.qtds)) y) (out_of note e None made ys) (is_out note e made n p ys z here k)

pub passed_are_untold : (d : DriverContent) (parts : StructureSets) (hand : Hand) (order : ℕ → ℕ → ℕ) (out : ℕ → List ℕ) (e t : ℕ) (x : Endpoint) (a : ℕ) (z : List ℕ) → d.command ≡ None → AreInTurn d → AreStillOut d out → FrontsStand d parts order out
    → slice_get d.endpoints e ≡ Some x → IsMet d e x → x.ended ≡ None → x.next ≡ Some t → IsOutEarlier (note_in d.notes) e t d.transfers a → Told hand parts (32 * x.queue) a z → z ≡ []
passed_are_untold d parts hand order out e t x a z idle turns still fronts here met going next k told =
    passed_has_none (order (32 * x.queue)) stand.front (out (32 * x.queue)) hand parts (32 * x.queue) a z stand.has among over.before told
    (ap (λ (q : Qtd). q.token.active) (found_element (parts (32 * x.queue) a) told.qtd over.qtd told.here over.here) ∙ over.published)
  where
    y : Transfer
    y = k.transfer

    split : ((k.transfer.endpoint == e && not k.transfer.released) ≡ true) × IsAmong a (drop (0 + passed k.transfer.reported) (pieces_from (note_in d.notes) k.transfer.place k.transfer.left))
    split = among_by (k.transfer.endpoint == e && not k.transfer.released) a (drop (0 + passed k.transfer.reported) (pieces_from (note_in d.notes) k.transfer.place k.transfer.left)) k.among

    own : (k.transfer.endpoint ≡ e) × (k.transfer.released ≡ false)
    own = let both = waits_by (k.transfer.endpoint == e) k.transfer.released split.0 in (eqb-true k.transfer.endpoint e both.0, both.1)

    stand : StandsAt d (parts (32 * x.queue)) (order (32 * x.queue)) (out (32 * x.queue)) e x
    stand = fronts e x here met

    turn : turn_in d.transfers k.number ≡ Some (turn_of k.transfer)
    turn = ap (option_map turn_of) k.here

    reported : k.transfer.reported ≡ true
    reported =
        let n = subst (AreReportedTo (turn_in d.transfers) e) next (turns.turns.next e x here (none_told x going)) in
        n.before k.number (turn_of k.transfer) k.earlier turn own.0

    owed : IsInList d.harvested k.number
    owed = turns.turns.owed k.number (turn_of k.transfer) x turn (ap (slice_get d.endpoints) own.0 ∙ here) (none_told x going) reported own.1

    at : IsAtPlace (note_in d.notes) k.transfer
    at = turns.places k.number k.transfer k.here own.1

    later : IsLater (note_in d.notes) k.transfer.place k.transfer.left 1 a
    later = later_of (note_in d.notes) k.transfer.place k.transfer.left 1 a (subst (λ (b : Bool). IsAmong a (drop (0 + passed b) (pieces_from (note_in d.notes) k.transfer.place k.transfer.left))) reported split.1)

    address : a ≡ 32 * piece_at (note_in d.notes) k.transfer.first (k.transfer.qtds - k.transfer.left + later.at)
    address =
        later.is ∙ ap (λ (b : ℕ). 32 * piece_at (note_in d.notes) b later.at) at.place
        ∙ ap (λ (b : ℕ). 32 * b) (piece_more (note_in d.notes) k.transfer.first (k.transfer.qtds - k.transfer.left) later.at)

    over : IsPassed (order (32 * x.queue)) stand.front (parts (32 * x.queue)) a
    over =
        let from = later.from in
        let below = later.below in
        let most = at.most in
        subst (IsPassed (order (32 * x.queue)) stand.front (parts (32 * x.queue))) (sym address)
        (stand.passed owed.at k.number (k.transfer.qtds - k.transfer.left + later.at) k.transfer owed.here k.here own.1 own.0 (omega (arith, from)) (omega (arith, below, most)))

    among : IsAmong a (out (32 * x.queue))
    among =
        subst (IsAmong a) (sym (still e x here met.there ∙ ap (λ (c : Option Command). out_of (note_in d.notes) e c d.made d.transfers) idle)) (is_out (note_in d.notes) e d.made k.number a d.transfers k.transfer k.here k.among)
