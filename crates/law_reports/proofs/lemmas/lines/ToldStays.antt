-- Events of the driver that change nothing of what is told of a queue but links and places: none of a queue, the doorbell and its answer,
-- the store by which a queue head leaves the ring, and the clear of Async Advance.
use Rattle.std.proofs.Common.{◌≡◌, ℕ, ◌*◌, Bool, true, List, ap, sym, subst, ◌∙◌}
use Rattle.drv_table.specs.declared.rows.DriverRow.{DriverRow}
use Rattle.drv_table.specs.declared.rows.DriverRow.TheVariants as rows
use Rattle.drv_table.specs.DriverContent.{DriverContent}
use Rattle.drv_table.specs.Rows.{after_driver_row}
use Rattle.drv_table.specs.Words.{queue_head_link, to_queue_head}
use Rattle.law_driver.specs.queued_drivers.Queued.{queued}
use Rattle.law_driver.specs.queued_drivers.Rows.{QueuesAlike, TellsAlike}
use Rattle.law_driver.proofs.lemmas.queued_drivers.RowEvents.{idle_told}
use Rattle.law_structures.specs.lent_structures.Structures.{StructureSets}
use Rattle.law_ring.specs.Hand.{Hand}
use Rattle.law_controller.specs.controlled_streams.Reported.{IsReported}
use Rattle.law_controller.specs.frame_control.Joined.{joined}
use Rattle.law_queues.specs.harvest_laws.Told.{ToldStands}
use Rattle.law_queues.specs.harvest_laws.ToldLaws.{IsAlike}
use Rattle.law_queues.proofs.lemmas.harvest_laws.Standing.{alike_is_told}
use Rattle.law_queues.specs.leaving_drivers.Before.{IsAsBefore}
use Rattle.law_queues.proofs.lemmas.leaving_drivers.Leaving.{unlink_is_as_before, bell_is_as_before, status_is_as_before, clear_is_as_before}
use Rattle.law_world.specs.steps.unlinked_streams.Unlinks.{IsAtUnlink, parts_unlinked, hand_unlinked}
use Rattle.law_world.proofs.lemmas.steps.lemmas.unlinked_streams.Streams.{unlink_spares_hand}
use Rattle.law_world.specs.streams.Feeding.{there_of}
use Rattle.law_world.proofs.lemmas.streams.Told.{there_same}
use Rattle.law_world.proofs.lemmas.streams.lemmas.left_reports.Before.{leaves_are_told}
use Rattle.law_world.specs.memory.Mixed.{Standing, IsMixedAt}
use Rattle.law_world.specs.memory.Steps.{told_parts, IsToldRow, AreStill}
use Rattle.law_world.proofs.lemmas.memory.Alike.{queue_part}
use Rattle.law_world.proofs.lemmas.memory.RingBasis.{due_is}
use Rattle.bus_world.specs.World.{World}
use Rattle.law_reports.specs.lines.Lined.{in_hand, Lines, counted, IsTelling}
use Rattle.law_reports.proofs.lemmas.lines.Heads.{before_there}
use Rattle.law_reports.proofs.lemmas.lines.Same.{ring_hand, hands_tell, relinked_reported, relinked_told, relinked_put}

-- ---- the standing tells the same of each queue

pub still_telling : (s t : Standing) (m : Lines) (w new : World) → AreStill s t
    → ToldStands (queued new.driver) (in_hand s) s.parts m.reported
    → ((n : ℕ) → counted new.driver n ≡ true → counted w.driver n ≡ true) → IsTelling s m w → IsTelling t m new
still_telling s t m w new k told was g = record {
  told = relinked_told (queued new.driver) (in_hand s) (in_hand t) s.parts t.parts m.reported (hands_tell s t k.told)
      (λ e x here on. k.told.parts (32 * x.queue)) told;
  moved = λ n on.
      subst (λ (o : ℕ → ℕ → ℕ). IsReported (o n) (t.out n) (in_hand t) t.parts n (m.acc n) (m.reported n)) (sym k.order)
      (subst (λ (o : ℕ → List ℕ). IsReported (s.order n) (o n) (in_hand t) t.parts n (m.acc n) (m.reported n)) (sym k.out)
      (relinked_reported s.parts t.parts n (k.told.parts n) (s.order n) (s.out n) (in_hand s) (in_hand t) (m.acc n) (m.reported n)
      (hands_tell s t k.told) (g.moved n (was n on))));
  sound = λ n on. queue_part n (s.parts n) (t.parts n) (k.told.parts n) (g.sound n (was n on));
}

-- ---- the driver has the same queues, and the same report

pub alike_there : (d f : DriverContent) → QueuesAlike d f → (n : ℕ) → there_of f n ≡ true → there_of d n ≡ true
alike_there d f k n on = sym (there_same d f n k.endpoints k.command) ∙ on

pub alike_is : (d f : DriverContent) → QueuesAlike d f → TellsAlike d f → IsAlike d f
alike_is d f k r = record { reports = r.reports; store = r.store; endpoints = k.endpoints; transfers = k.transfers; notes = k.notes }

pub same_told : (d f : DriverContent) (hand : Hand) (parts : StructureSets) (reported : ℕ → List ℕ) → QueuesAlike d f → TellsAlike d f
    → ToldStands d hand parts reported → ToldStands f hand parts reported
same_told d f hand parts reported k r told =
    alike_is_told d f hand parts reported (alike_is d f k r) (λ x there. record {
      linked = λ is. there.linked (k.command ∙ is);
      kept = there.kept;
    })
    (λ x is. sym k.command ∙ is) told

pub still_tells : (s t : Standing) (m : Lines) (w new : World) → AreStill s t → QueuesAlike (queued w.driver) (queued new.driver)
    → TellsAlike (queued w.driver) (queued new.driver) → IsTelling s m w → IsTelling t m new
still_tells s t m w new still k r g =
    still_telling s t m w new still (same_told (queued w.driver) (queued new.driver) (in_hand s) s.parts m.reported k r g.told)
    (alike_there (queued w.driver) (queued new.driver) k) g

-- ---- the driver is as before, but for who leaves

module _ (s : Standing) (m : Lines) (w new : World) (row : DriverRow) (is : IsToldRow w new row)
    (k : IsAsBefore (queued w.driver) (after_driver_row row (told_parts w)).driver) (g : IsTelling s m w) where
  pub before_was : (n : ℕ) → counted new.driver n ≡ true → counted w.driver n ≡ true
  before_was n on =
      before_there (queued w.driver) (after_driver_row row (told_parts w)).driver n k
      (ap (λ (c : DriverContent). there_of c n) (sym is.told) ∙ on)

  pub told_before : ToldStands (queued new.driver) (in_hand s) s.parts m.reported
  told_before =
      subst (λ (c : DriverContent). ToldStands c (in_hand s) s.parts m.reported) (sym is.told)
      (leaves_are_told (queued w.driver) (after_driver_row row (told_parts w)).driver (in_hand s) s.parts m.reported k g.told)

module _ (s : Standing) (m : Lines) (w new : World) (k : IsMixedAt s w) (g : IsTelling s m w) where
  pub bell_telling : (t : Standing) → AreStill s t → IsToldRow w new rows.RingBell → IsTelling t m new
  bell_telling t still is =
      let b = (bell_is_as_before (told_parts w) (idle_told w.driver (due_is s w k rows.RingBell is.next).0)).0 in
      still_telling s t m w new still (told_before s m w new rows.RingBell is b g) (before_was s m w new rows.RingBell is b g) g

  pub status_telling : (t : Standing) (heard : Bool) → AreStill s t → IsToldRow w new (rows.ReadStatus heard) → IsTelling t m new
  status_telling t heard still is =
      let b = (status_is_as_before (told_parts w) heard (idle_told w.driver (due_is s w k (rows.ReadStatus heard) is.next).0)).0 in
      still_telling s t m w new still (told_before s m w new (rows.ReadStatus heard) is b g)
      (before_was s m w new (rows.ReadStatus heard) is b g) g

  -- whom a walk may meet doesn't matter
  pub narrow_telling : (member near streams : ℕ → Bool) → IsToldRow w new rows.ClearAdvance
      → IsTelling (record s { member = member; near = near; streams = streams }) m new
  narrow_telling member near streams is =
      let b = (clear_is_as_before (told_parts w) (idle_told w.driver (due_is s w k rows.ClearAdvance is.next).0)).0 in
      record {
        told = told_before s m w new rows.ClearAdvance is b g;
        moved = λ n on. g.moved n (before_was s m w new rows.ClearAdvance is b g n on);
        sound = λ n on. g.sound n (before_was s m w new rows.ClearAdvance is b g n on);
      }

  -- a queue head leaves the ring; a walk may meet it still
  pub unlink_telling : (at : IsAtUnlink (queued w.driver) s.near s.parts)
      → IsToldRow w new (rows.Store at.before (32 * at.before) (queue_head_link at.after))
      → IsTelling (record s { parts = parts_unlinked s.parts at.before at.queue at.after; hand = hand_unlinked s.hand at.before at.after })
      m new
  unlink_telling at is =
      let row : DriverRow = rows.Store at.before (32 * at.before) (queue_head_link at.after) in
      let b = (unlink_is_as_before (told_parts w) at.number at.before (queue_head_link at.after) at.before (32 * at.before)
      (queue_head_link at.after) at.command).0 in
      let later : Hand = hand_unlinked s.hand at.before at.after in
      let now : StructureSets = parts_unlinked s.parts at.before at.queue at.after in
      let tells = ring_hand s.hand later s.frame (unlink_spares_hand s.hand (queued w.driver) s.near s.parts at) in
      let same = relinked_put s.parts (32 * at.before) at.queue (to_queue_head at.after) at.head in
      record {
        told = relinked_told (queued new.driver) (in_hand s) (joined later s.frame) s.parts now m.reported tells
            (λ e x here on. same (32 * x.queue))
            (told_before s m w new row is b g);
        moved = λ n on.
            relinked_reported s.parts now n (same n) (s.order n) (s.out n) (in_hand s) (joined later s.frame) (m.acc n) (m.reported n) tells
            (g.moved n (before_was s m w new row is b g n on));
        sound = λ n on. queue_part n (s.parts n) (now n) (same n) (g.sound n (before_was s m w new row is b g n on));
      }
