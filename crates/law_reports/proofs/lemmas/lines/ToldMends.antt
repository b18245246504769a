-- The next store that a stalled control endpoint is owed leaves what is told of each bulk and interrupt endpoint's queue.
use Rattle.std.proofs.Common.{◌≡◌, ◌≢◌, ℕ, ◌*◌, true, false, List, slice_get, None, Some, ap, refl, sym, subst, ◌∙◌}
use Rattle.std.proofs.lemmas.Bool.{false_from_ne_true, false≢true}
use Rattle.law_world.proofs.Common.{none_some}
use Rattle.law_driver.proofs.Common.{control_told, control_kind}
use Rattle.drv_table.specs.declared.content.Command.TheVariants as unfinished
use Rattle.drv_table.specs.declared.content.Endpoint.{Endpoint}
use Rattle.drv_table.specs.declared.content.Transfer.{Transfer}
use Rattle.drv_table.specs.declared.rows.DriverRow.TheVariants as rows
use Rattle.drv_table.specs.DriverContent.{DriverContent}
use Rattle.drv_table.specs.Rows.{after_driver_row}
use Rattle.drv_table.specs.Words.{is_control}
use Rattle.claims_report.specs.Streams.{has_stream}
use Rattle.law_driver.proofs.lemmas.chained_transfers.Staying.{told_stands_alive}
use Rattle.law_driver.specs.queued_drivers.Queued.{with_queue, queued}
use Rattle.law_driver.proofs.lemmas.queued_drivers.RowLists.{queue_at}
use Rattle.law_driver.proofs.lemmas.queued_drivers.RowEvents.{idle_told}
use Rattle.law_structures.specs.lent_structures.Structures.{Structures, StructureSets, QueueHead}
use Rattle.law_structures.proofs.lemmas.lent_structures.Names.{put_beside}
use Rattle.law_ring.specs.Hand.{Hand}
use Rattle.law_ring.specs.QueueParts.{IsQueuePart}
use Rattle.law_ring.specs.Order.{IsOrdered, Accounts}
use Rattle.law_ring.specs.Sparing.{SameHand}
use Rattle.law_ring.proofs.SparedSparing.{accounts_are_spared}
use Rattle.law_controller.specs.frame_control.Joined.{joined}
use Rattle.law_queues.specs.harvest_laws.Told.{ToldStands}
use Rattle.law_driver_ring.proofs.lemmas.told_harvests.Keeping.{spared_is_done}
use Rattle.law_queues.specs.harvest_laws.Holds.{IsNextOf}
use Rattle.law_queues.proofs.lemmas.harvest_laws.Standing.{alike_is_told, still_told}
use Rattle.law_queues.specs.mended_heads.Mended.{IsAtMend, head_at, mended, parts_then, hand_then}
use Rattle.law_queues.specs.mended_heads.Owed.{IsOwed, store_due}
use Rattle.law_queues.proofs.lemmas.mended_heads.Row.{mend_spares_heads, mend_spares_elements, mend_spares_hand}
use Rattle.law_world.specs.streams.Feeding.{there_of}
use Rattle.law_world.proofs.lemmas.streams.Told.{there_on, there_same}
use Rattle.law_world.specs.memory.Mixed.{Standing, IsMixedAt}
use Rattle.law_world.specs.memory.Steps.{told_parts, IsToldRow}
use Rattle.law_world.proofs.lemmas.memory.HarvestKept.{owners_of}
use Rattle.bus_world.specs.World.{World, driver_parts}
use Rattle.law_reports.specs.lines.Lined.{in_hand, Lines, IsTelling}
use Rattle.law_reports.proofs.lemmas.lines.Heads.{there_alone}
use Rattle.law_reports.proofs.lemmas.lines.Same.{ring_hand}

module _ (s : Standing) (m : Lines) (w new : World) (k : IsMixedAt s w) (g : IsTelling s m w)
    (at : IsAtMend (driver_parts w) s.parts s.out) where
  abbrev d : DriverContent
  d = queued w.driver

  abbrev n : ℕ
  n = 32 * at.stalled.queue

  abbrev now : StructureSets
  now = parts_then at

  abbrev later : Hand
  later = hand_then at s.hand

  owed : IsOwed w.driver at.stalled
  owed = at.are.owed.0

  -- the endpoint as the queues tell it
  here : slice_get (queued w.driver).endpoints owed.number ≡ Some (with_queue owed.endpoint)
  here = queue_at w.driver.endpoints owed.number owed.endpoint owed.here (control_kind owed.endpoint.desc.kind owed.control)

  control : is_control (with_queue owed.endpoint).desc.kind ≡ true
  control =
      control_told owed.endpoint.desc.name.way owed.endpoint.desc.kind (k.turns.kinds_fit owed.number owed.endpoint owed.here) owed.control

  uncounted : there_of (queued w.driver) (32 * at.stalled.queue) ≡ false
  uncounted =
      false_from_ne_true (there_of (queued w.driver) (32 * at.stalled.queue))
      (λ on.
      there_alone (queued w.driver) owed.number (with_queue owed.endpoint) (owners_of s w k) k.turns.turns.asynchronous here owed.kept
      control
      (ap (λ (b : ℕ). there_of (queued w.driver) (32 * b)) owed.queue ∙ on))

  apart : (i : ℕ) → there_of (queued w.driver) i ≡ true → i ≢ 32 * at.stalled.queue
  apart i on same = false≢true (sym uncounted ∙ ap (there_of (queued w.driver)) (sym same) ∙ on)

  tells : SameHand (in_hand s) (joined (hand_then at s.hand) s.frame)
  tells = ring_hand s.hand later s.frame (mend_spares_hand s.hand (driver_parts w) s.parts s.out at)

  idle : (queued w.driver).command ≡ None
  idle = idle_told w.driver at.idle

  -- one that goes on and has a stream has another queue head
  next_apart : (e u : ℕ) (x : Endpoint) (y : Transfer) → IsNextOf (queued w.driver) e u x y → has_stream x.desc.kind ≡ true
      → 32 * x.queue ≢ 32 * at.stalled.queue
  next_apart e u x y is stream =
      apart (32 * x.queue)
      (there_on (queued w.driver) e x is.endpoint
      (record {
        linked = λ opens. none_some (unfinished.Open x.queue) (sym idle ∙ opens);
        kept = told_stands_alive x (k.turns.turns.asynchronous.endpoints e x is.endpoint) is.going;
      }) stream)

  -- ---- the row

  pub mend_telling : IsToldRow w new (rows.Mend (store_due at.stalled))
      → IsTelling (record s { parts = parts_then at; hand = hand_then at s.hand }) m new
  mend_telling is =
      let f : DriverContent = (after_driver_row (rows.Mend (store_due at.stalled)) (told_parts w)).driver in
      let was : (i : ℕ) → there_of (queued new.driver) i ≡ true → there_of (queued w.driver) i ≡ true =
      λ i on. sym (there_same (queued w.driver) f i refl refl) ∙ (ap (λ (c : DriverContent). there_of c i) (sym is.told) ∙ on) in
      record {
        told = subst (λ (c : DriverContent). ToldStands c (joined later s.frame) now m.reported) (sym is.told)
            (alike_is_told (queued w.driver) f (joined later s.frame) now m.reported
            (record { reports = refl; store = refl; endpoints = refl; transfers = refl; notes = refl })
            (λ x there. record { linked = there.linked; kept = there.kept }) (λ x opens. opens)
            (still_told (queued w.driver) (in_hand s) (joined later s.frame) s.parts now m.reported
            (λ e u x y a i z next on one done.
            spared_is_done (in_hand s) (joined later s.frame) s.parts now (32 * x.queue) a i z tells
            (mend_spares_heads (driver_parts w) s.parts s.out at (32 * x.queue) (next_apart e u x y next on))
            (mend_spares_elements (driver_parts w) s.parts s.out at (32 * x.queue) (32 * a)) done) g.told));
        moved = λ i on.
            let r = g.moved i (was i on) in
            record {
              place = r.place;
              told = r.told;
              accounts = mended_accounts i (apart i (was i on)) r.accounts;
              sum = r.sum;
            };
        sound = λ i on.
            subst (IsQueuePart i) (sym (put_beside s.parts n n (QueueHead (mended at.stalled (head_at at))) i (apart i (was i on))))
            (g.sound i (was i on));
      }
    where
      mended_accounts : (i : ℕ) → i ≢ 32 * at.stalled.queue → {place : ℕ} {xs : List ℕ}
          → Accounts (s.order i) place (s.out i) (in_hand s) s.parts i xs
          → Accounts (s.order i) place (s.out i) (joined (hand_then at s.hand) s.frame) (parts_then at) i xs
      mended_accounts i differs {place} {xs} a =
          accounts_are_spared (s.order i) (s.order i) place place (s.out i) (in_hand s) (joined later s.frame) s.parts now i xs tells
          (mend_spares_heads (driver_parts w) s.parts s.out at i differs)
          (λ e among. mend_spares_elements (driver_parts w) s.parts s.out at i e)
          (subst (IsOrdered (s.order i) place i) (sym (put_beside s.parts n n (QueueHead (mended at.stalled (head_at at))) i differs))
          a.ordered) a.sorted
          (λ b u among here from. a.published b u among (ap (λ (part : Structures). part b)
          (sym (put_beside s.parts n n (QueueHead (mended at.stalled (head_at at))) i differs)) ∙ here) from)
          (λ b u here on. a.complete b u (ap (λ (part : Structures). part b)
          (sym (put_beside s.parts n n (QueueHead (mended at.stalled (head_at at))) i differs)) ∙ here) on) a
