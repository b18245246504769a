-- A STALL was found, so the queue is halted, and what is out of it yet is published.
use Rattle.std.proofs.Common.{◌≡◌, ℕ, suc, ◌+◌, ◌-◌, ◌*◌, Bool, true, List, [], ◌∷◌, ◌++◌, length, slice_get, Option, Some, option_map, ap, sym, subst, ◌∙◌, ⊎_elim, inr, arith}
use Rattle.std.specs.Prelude.{nat_eq}
use Rattle.law_queues.proofs.Common.{behind_less}
use Rattle.law_controller.proofs.Common.{here_among}
use Rattle.law_driver.proofs.Common.{waits_is}
use Rattle.law_ring.proofs.Common.{among_either}
use Rattle.law_queues.proofs.Common.{piece_more}
use Rattle.qh_qtd.specs.declared.qtd.Qtd.{Qtd}
use Rattle.drv_table.specs.declared.content.Endpoint.{Endpoint}
use Rattle.drv_table.specs.declared.content.Transfer.{Transfer}
use Rattle.drv_table.specs.declared.rows.Found.{Found}
use Rattle.drv_table.specs.declared.rows.DriverRow.TheVariants as rows
use Rattle.drv_table.specs.DriverContent.{DriverContent}
use Rattle.drv_table.specs.Harvests.{note_at}
use Rattle.drv_table.specs.Parts.{Parts}
use Rattle.drv_table.specs.Rows.{after_driver_row}
use Rattle.law_driver.specs.run_owners.Due.{IsHarvestDue}
use Rattle.claims_driver.specs.Leaving.{HasOwners}
use Rattle.claims_driver.specs.Owners.{NoteRuns, note_in}
use Rattle.law_driver.proofs.lemmas.endpoint_lives.Lives.{none_told}
use Rattle.law_structures.specs.lent_structures.Structures.{Element, Structures, StructureSets, Tells}
use Rattle.law_structures.proofs.lemmas.lent_structures.Altering.{found_element}
use Rattle.law_ring.specs.Told.{Endpoint as Told}
use Rattle.law_ring.specs.Order.{IsSorted, IsAmong}
use Rattle.law_ring.specs.Halted.{IsHalted, HaltStops}
use Rattle.law_frames.specs.Met.{IsQueuePart}
use Rattle.law_frames.proofs.Queues.{a_members_part_is_linked}
use Rattle.law_driver.specs.chained_transfers.AsynchronousTurns.{AsynchronousTakesTurns}
use Rattle.law_driver.specs.chained_transfers.Chains.{piece_at}
use Rattle.law_driver.specs.chained_transfers.Turns.{IsAtPlace, turn_of, turn_in, IsNext, AreReportedTo}
use Rattle.law_driver.specs.chained_transfers.Out.{passed, out_now}
use Rattle.law_driver_ring.specs.fed_queues.Fed.{IsPieceFed, unpublished_of, sized}
use Rattle.law_driver_ring.specs.fed_queues.Places.{IsMet}
use Rattle.law_queues.specs.mended_heads.Stalling.{IsStall, HaltsQueue}
use Rattle.law_queues.proofs.lemmas.mended_heads.Stalling.{stall_is_halted}
use Rattle.law_queues.specs.fed_lends.Commands.{QueuesStand}
use Rattle.law_queues.specs.fed_harvests.Harvests.{IsPassed}
use Rattle.law_queues.specs.fed_harvests.Stalls.{StallLeaves}
use Rattle.law_queues.proofs.lemmas.fed_harvests.Harvests.{held}
use Rattle.law_queues.proofs.lemmas.fed_harvests.Stalls.{stall_leaves}
use Rattle.law_queues.specs.released_queues.Fronts.{piece_address, FrontsStand}
use Rattle.law_queues.proofs.lemmas.released_queues.Queues.{none_yet}
use Rattle.law_queues.proofs.lemmas.released_queues.Outs.{out_of_one}
use Rattle.law_queues.specs.stalled_fronts.Stalled.{StallStopsQueue, StallHaltsQueue}

-- ---- what stands behind one in the order

behind_among : (h a : ℕ) (before behind : List ℕ) → IsAmong a behind → IsAmong a (before ++ h ∷ behind)
behind_among h a [] behind among = inr among
behind_among h a (x ∷ before) behind among = inr (behind_among h a before behind among)

module _ (p : Parts) (e t : ℕ) (found : Found) (due : IsHarvestDue p e t found) (owners : HasOwners p.driver) (turns : AsynchronousTakesTurns p.driver) (member streams : ℕ → Bool) (ends : ℕ → Told) (parts : StructureSets) (order : ℕ → ℕ → ℕ) (out : ℕ → List ℕ) (old : QueuesStand p.driver member streams ends parts order out)
    (stall : IsStall due.endpoint.desc.kind found) (tells : Tells p.memory parts) (met : IsMet p.driver e due.endpoint) (on : IsQueuePart (32 * due.endpoint.queue) (parts (32 * due.endpoint.queue)))
    (stops : HaltStops (order (32 * due.endpoint.queue)) (out (32 * due.endpoint.queue)) (32 * due.endpoint.queue) (parts (32 * due.endpoint.queue))) (sorted : IsSorted (order (32 * due.endpoint.queue)) (out (32 * due.endpoint.queue))) (fronts : FrontsStand p.driver parts order out) where
  abbrev d : DriverContent
  d = p.driver

  abbrev x : Endpoint
  x = due.endpoint

  abbrev y : Transfer
  y = due.transfer

  abbrev n : ℕ
  n = 32 * due.endpoint.queue

  abbrev part : Structures
  part = parts (32 * due.endpoint.queue)

  abbrev note : ℕ → NoteRuns
  note = note_in p.driver.notes

  leaves : StallLeaves p e t found due member streams ends parts order out
  leaves = stall_leaves p e t found due owners turns member streams ends parts order out old stall

  out_was : out n ≡ leaves.stalled.before ++ 32 * y.place ∷ leaves.stalled.behind
  out_was = old.out_are e x due.here met.there ∙ leaves.stalled.was

  place : IsAtPlace note y
  place = turns.turns.places t y due.there (held p e t found due owners turns member streams ends parts order out old)

  fed_here : IsPieceFed y.sort part (sized y.sort (y.qtds - y.left) (note_at d.notes (piece_at note y.first (y.qtds - y.left)))) (piece_at note y.first (y.qtds - y.left)) (piece_at note y.first y.qtds)
  fed_here =
      let none : unpublished_of d t y ≡ 0 = none_yet d.command d.made y.qtds (nat_eq (suc t) (length d.transfers)) due.idle in
      let some = place.some in
      let most = place.most in
      old.fed.pieces t (y.qtds - y.left) y x due.there (held p e t found due owners turns member streams ends parts order out old) (ap (slice_get d.endpoints) (waits_is e y due.waits).0 ∙ due.here) (omega (arith, none)) (omega (arith, some, most))

  here : part (32 * y.place) ≡ Some (Element fed_here.qtd)
  here = ap (λ (b : ℕ). part (32 * b)) place.place ∙ fed_here.here

  halted : IsHalted fed_here.qtd
  halted = stall_is_halted p e t found parts fed_here.qtd due stall tells here

  among : IsAmong (32 * y.place) (out n)
  among = subst (IsAmong (32 * y.place)) (sym out_was) (here_among (32 * y.place) leaves.stalled.before leaves.stalled.behind)

  is_next : IsNext (turn_in d.transfers) e t
  is_next = subst (λ (o : Option ℕ). AreReportedTo (turn_in d.transfers) e o) due.next (turns.turns.turns.next e x due.here (none_told x due.goes_on))

  -- it was passed over
  before_active : (a : ℕ) (u : Qtd) → part a ≡ Some (Element u) → IsPassed d e t a → u.token.active ≡ true
  before_active a u at k =
      let z = k.transfer in
      let i = out_of_one note e z a k.among in
      let told : z.reported ≡ true = is_next.before k.number (turn_of z) k.earlier (ap (option_map turn_of) k.here) i.endpoint in
      let owed = turns.turns.turns.owed k.number (turn_of z) x (ap (option_map turn_of) k.here) (ap (slice_get d.endpoints) i.endpoint ∙ due.here) (none_told x due.goes_on) told i.held in
      let at_place : IsAtPlace note z = turns.turns.places k.number z k.here i.held in
      let one : passed z.reported ≡ 1 = ap passed told in
      let from = i.dropped.from in
      let below = i.dropped.below in
      let most = at_place.most in
      let j : ℕ = z.qtds - z.left + i.dropped.number in
      let address : a ≡ piece_address d z j = i.dropped.at ∙ ap (λ (b : ℕ). 32 * piece_at note b i.dropped.number) at_place.place ∙ ap (λ (b : ℕ). 32 * b) (piece_more note z.first (z.qtds - z.left) i.dropped.number) in
      let g = (fronts e x due.here met).passed owed.at k.number j z owed.here k.here i.held i.endpoint (omega (arith, one, from)) (omega (arith, below, most)) in
      ap (λ (q : Qtd). q.token.active) (found_element (part a) u g.qtd at (ap part address ∙ g.here)) ∙ g.published

  pub halts : HaltsQueue (out_now (after_driver_row (rows.Harvest e t found) p).driver e) parts n
  halts = record {
    queue = on.queue;
    here = on.here;
    halted = stops.head (32 * y.place) fed_here.qtd on.queue among here halted on.here;
    published = λ a u is at.
        let s = leaves.stalled in
        ⊎_elim (λ (before : IsAmong a s.before). before_active a u at (s.passed a before))
        (λ (later : IsAmong a s.later).
        let behind = s.fewer a later in
        stops.later (32 * y.place) a fed_here.qtd u among here halted (subst (IsAmong a) (sym out_was) (behind_among (32 * y.place) a s.before s.behind behind))
        (behind_less (order n) (32 * y.place) a s.before s.behind (subst (IsSorted (order n)) out_was sorted) behind) at)
        (among_either a s.before s.later (subst (IsAmong a) s.now is));
  }

pub stall_stops_queue : StallStopsQueue
stall_stops_queue p e t found member streams ends parts order out due stall owners turns tells old met on stops sorted fronts =
    halts p e t found due owners turns member streams ends parts order out old stall tells met on stops sorted fronts

pub stall_halts_queue : StallHaltsQueue
stall_halts_queue p e t found member streams ends parts order out due stall owners turns tells old met on stops sorted fronts =
    let n = 32 * due.endpoint.queue in
    stall_stops_queue p e t found member streams ends parts order out due stall owners turns tells old met (a_members_part_is_linked member n (parts n) on).part_is stops sorted fronts
