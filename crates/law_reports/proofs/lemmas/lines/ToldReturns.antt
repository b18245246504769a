-- The blocks of a harvested transfer are given back, and what is told of each queue stays: what is held back is of the next transfers, and
-- these aren't reported yet.
use Rattle.std.proofs.Common.{◌≡◌, ◌≢◌, ℕ, ◌-◌, ◌*◌, Bool, true, false, slice_get, Option, Some, ap, refl, sym, subst, ◌∙◌, ⊎_elim, arith}
use Rattle.std.proofs.lemmas.Bool.{cases_eq, true≢false}
use Rattle.std.proofs.lemmas.Option.{same_Some}
use Rattle.law_common.proofs.Numbers.{other_number}
use Rattle.law_controller.proofs.Common.{same_hand}
use Rattle.mem_runs.specs.Book.{holding, slot_of}
use Rattle.drv_table.specs.declared.content.Endpoint.{Endpoint}
use Rattle.drv_table.specs.declared.content.Transfer.{Transfer}
use Rattle.drv_table.specs.declared.rows.DriverRow.TheVariants as rows
use Rattle.drv_table.specs.DriverContent.{DriverContent}
use Rattle.drv_table.specs.Harvests.{note_at}
use Rattle.drv_table.specs.Parts.{Parts}
use Rattle.drv_table.specs.Releases.{freed_by, after_transfer}
use Rattle.drv_table.specs.Rows.{after_driver_row}
use Rattle.claims_driver.specs.Owners.{Element}
use Rattle.law_structures.specs.lent_structures.Structures.{Structures, StructureSets}
use Rattle.law_driver.specs.chained_transfers.AsynchronousTurns.{AsynchronousTakesTurns}
use Rattle.law_driver.specs.queued_drivers.Queued.{queued}
use Rattle.law_ring.specs.Effects.{buffer_of}
use Rattle.law_ring.specs.Fewer.{without_those}
use Rattle.law_ring.proofs.Returning.{those_beside}
use Rattle.law_ring.specs.Sparing.{SparesElement}
use Rattle.law_controller.specs.controlled_streams.Returned.{staying_of}
use Rattle.law_controller.proofs.lemmas.controlled_streams.Returning.{spares_head, spares_element, reported_are_returned}
use Rattle.law_driver_ring.specs.Released.{goes_of}
use Rattle.law_driver_ring.proofs.Blocks.{mine}
use Rattle.law_driver_ring.specs.told_harvests.Held.{IsOneFrom}
use Rattle.law_queues.specs.harvest_laws.Holds.{IsNextOf}
use Rattle.law_queues.specs.harvest_laws.Told.{ToldStands}
use Rattle.law_queues.specs.harvest_laws.ToldLaws.{SparesDone}
use Rattle.law_queues.proofs.lemmas.harvest_laws.Places.{one_sooner, owner_is}
use Rattle.law_queues.proofs.lemmas.harvest_laws.Standing.{spared_is_told, returned_is_told}
use Rattle.law_queues.specs.released_queues.Released.{IsReturning}
use Rattle.law_queues.specs.released_queues.Staying.{QueuesAreTold, ReleaseLeaves}
use Rattle.law_queues.proofs.lemmas.released_queues.Staying.{release_stays}
use Rattle.law_queues.proofs.lemmas.released_queues.StayingQueues.{pieces_of, goes_off, met}
use Rattle.law_world.specs.streams.Feeding.{there_of}
use Rattle.law_world.proofs.lemmas.streams.There.{there_now, next_waits}
use Rattle.law_world.proofs.lemmas.streams.Told.{there_same}
use Rattle.law_world.specs.memory.Mixed.{Standing, IsMixedAt}
use Rattle.law_world.specs.memory.Steps.{told_parts, IsToldRow}
use Rattle.law_world.proofs.lemmas.memory.HarvestKept.{owners_of, driven_of, runs_of, fronts_of}
use Rattle.bus_world.specs.World.{World}
use Rattle.law_reports.specs.lines.Lined.{in_hand, Lines, IsTelling}

module _ (s : Standing) (m : Lines) (w new : World) (k : IsMixedAt s w) (g : IsTelling s m w) (t : ℕ) (y : Transfer) (x : Endpoint)
    (r : IsReturning (queued w.driver) t y x) where
  abbrev d : DriverContent
  d = queued w.driver

  abbrev n : ℕ
  n = 32 * x.queue

  abbrev goes : ℕ → Bool
  goes = goes_of w.driver y

  abbrev now : StructureSets
  now = without_those s.parts n goes

  turns : AsynchronousTakesTurns (queued w.driver)
  turns = k.turns.turns

  pub told_all : QueuesAreTold s.parts (told_parts w) s.order s.out
  told_all = record {
    driven = driven_of s w k;
    owners = owners_of s w k;
    in_runs = runs_of s w k;
    asynchronous = k.turns.turns.asynchronous;
    chained = k.turns.turns.chained;
    turns = k.turns.turns.turns;
    fed = k.queues.queues.fed;
    last = k.queues.queues.last;
    still_out = k.queues.queues.out_are;
    fronts = fronts_of s w k;
    rise = k.queues.controls.rises;
  }

  pub leaves : ReleaseLeaves s.parts (told_parts w) s.order s.out t y x (32 * x.queue) (goes_of w.driver y)
  leaves =
      release_stays s.parts (told_parts w) s.order s.out t y x told_all r
      (k.queues.sound y.endpoint x r.endpoint (met s.parts (told_parts w) s.order s.out t y x told_all r))

  -- ---- the qTDs of the next transfers stay

  next_stays : (e u : ℕ) (z : Endpoint) (v : Transfer) (a : ℕ) → IsNextOf (queued w.driver) e u z v
      → IsOneFrom (note_at w.driver.notes) v.first (v.qtds - v.left) a → goes_of w.driver y (32 * a) ≡ false
  next_stays e u z v a is one =
      let one_next = next_waits (queued w.driver) e u z v turns is in
      let owned : told_all.owners.owner a ≡ Element u =
      owner_is (slot_of w.driver.book.slots) told_all.owners.owner w.driver.notes u v.first v.qtds a
      (pieces_of s.parts (told_parts w) s.order s.out t y x told_all r u v is.transfer one_next.1)
      (one_sooner (note_at w.driver.notes) v.first (v.qtds - v.left) v.qtds a (omega arith) one) in
      goes_off s.parts (told_parts w) s.order s.out t y x told_all r a
      (ap (mine t) owned ∙ other_number u t (λ same. differs same one_next.0))
    where
      differs : u ≡ t → v.reported ≡ false → ⊥
      differs same waits =
          let one_transfer : v ≡ y = same_Some v y (sym is.transfer ∙ ap (slice_get (queued w.driver).transfers) same ∙ r.here) in
          true≢false (sym r.reported ∙ ap (λ (q : Transfer). q.reported) (sym one_transfer) ∙ waits)

  pub spares_at : (i a : ℕ) → goes_of w.driver y a ≡ false → SparesElement s.parts (without_those s.parts (32 * x.queue) (goes_of w.driver y))
      i a
  spares_at i a stays =
      ⊎_elim (λ (same : i ≡ n).
      subst (λ (j : ℕ). SparesElement s.parts now j a) (sym same) (spares_element s.parts n goes leaves.head leaves.buffers a stays))
      (λ (differs : i ≢ n).
      let same : now i ≡ s.parts i = those_beside s.parts n goes i differs in
      record {
        element = λ q here. ap (λ (part : Structures). part a) same ∙ here;
        bytes = λ q here. ap (λ (part : Structures). buffer_of part q) same;
      }) (cases_eq i n)

  spares : SparesDone (queued w.driver) s.parts (without_those s.parts (32 * x.queue) (goes_of w.driver y))
  spares = record {
    heads = λ e z here on. spares_head s.parts n goes leaves.head (32 * z.queue);
    done = λ e u z v a is on one. spares_at (32 * z.queue) (32 * a) (next_stays e u z v a is one);
  }

  -- ---- the row

  abbrev after : Parts
  after = after_transfer (told_parts w) t (Some y) (freed_by (queued w.driver) (holding w.driver.book w.memory) (Some y))

  row_is : after_driver_row (rows.ReleaseTransfer t) (told_parts w) ≡ after
  row_is = ap (λ (o : Option Transfer). after_transfer (told_parts w) t o (freed_by (queued w.driver) (holding w.driver.book w.memory) o))
      r.here

  pub return_telling : IsToldRow w new (rows.ReleaseTransfer t)
      → IsTelling (record s {
        parts = without_those s.parts (32 * x.queue) (goes_of w.driver y);
        out = staying_of (32 * x.queue) (goes_of w.driver y) s.out;
      }) m new
  return_telling is =
      let tells : queued new.driver ≡ after.driver = is.told ∙ ap (λ (q : Parts). q.driver) row_is in
      let was : (i : ℕ) → there_of (queued new.driver) i ≡ true → there_of (queued w.driver) i ≡ true =
      λ i on. sym (there_same (queued w.driver) after.driver i refl refl) ∙ (ap (λ (c : DriverContent). there_of c i) (sym tells) ∙ on) in
      record {
        told = subst (λ (c : DriverContent). ToldStands c (in_hand s) now m.reported) (sym tells)
            (returned_is_told (queued w.driver) after.driver t y (in_hand s) now m.reported r.here r.reported
            (there_now (queued w.driver) turns)
            refl refl refl refl refl refl
            (spared_is_told (queued w.driver) (in_hand s) (in_hand s) s.parts now m.reported (same_hand (in_hand s)) spares g.told));
        moved = λ i on.
            reported_are_returned (there_of (queued w.driver)) s.order s.out (in_hand s) s.parts m.acc m.reported n goes leaves.head
            leaves.buffers
            (leaves.untold (in_hand s)) g.moved i (was i on);
        sound = λ i on. leaves.part i (g.sound i (was i on));
      }
