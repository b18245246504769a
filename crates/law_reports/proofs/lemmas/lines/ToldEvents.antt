-- Each event of the controller leaves what is told of the queues; what it moved of a queue head is behind what was moved before.
use Rattle.std.proofs.Common.{◌≡◌, ℕ, ◌*◌, true, List, ◌++◌, ap, sym, ◌∙◌}
use Rattle.std.proofs.lemmas.List.{append_assoc}
use Rattle.bus_wire.specs.Bus.{Fixed}
use Rattle.claims_base.specs.Controller.{opening_base}
use Rattle.law_structures.specs.lent_structures.Structures.{StructureSets}
use Rattle.law_ring.specs.Hand.{Hand}
use Rattle.law_ring.specs.Order.{GoesOnInOrder}
use Rattle.law_controller.specs.controlled_streams.Kept.{KeepsEach}
use Rattle.law_controller.specs.controlled_streams.Reported.{IsReported}
use Rattle.law_controller.specs.frame_control.Both.{RunsBoth}
use Rattle.law_controller.specs.frame_control.Joined.{joined, begun, moved}
use Rattle.law_driver.specs.queued_drivers.Queued.{queued}
use Rattle.law_driver_ring.specs.told_harvests.Held.{IsDone}
use Rattle.law_driver_ring.proofs.lemmas.told_harvests.Keeping.{events_keep_what_is_done}
use Rattle.law_queues.proofs.lemmas.harvest_laws.Standing.{still_told}
use Rattle.law_descriptors.specs.Both.{both, parts_now}
use Rattle.law_descriptors.specs.Meeting.{met}
use Rattle.law_descriptors.specs.queue_events.Streams.{bytes_of_both}
use Rattle.law_descriptors.proofs.lemmas.queue_events.Events.{both_keeps_structures}
use Rattle.law_descriptors.proofs.lemmas.queue_events.Streams.{both_adds}
use Rattle.law_world.specs.steps.Streaming.{begins_by, transacts_by, wired}
use Rattle.law_world.specs.memory.Mixed.{Standing, IsMixedAt}
use Rattle.law_world.specs.memory.Steps.{IsEventOf, standing_then}
use Rattle.law_world.proofs.lemmas.memory.ControllerParts.{sound_then}
use Rattle.bus_world.specs.World.{World, controller_parts, controller_next}
use Rattle.law_reports.specs.lines.Lined.{in_hand, Lines, counted, IsTelling, Adds}
use Rattle.law_reports.specs.lines.TellingLaws.{EventOfQueues, ControllerKeepsTelling}

module _ (fixed : Fixed) (s : Standing) (m : Lines) (w : World) (k : IsMixedAt s w) (a : IsEventOf fixed s w)
    (z : EventOfQueues fixed s w a)
    (g : IsTelling s m w) where
  abbrev new : World
  new = controller_next fixed w

  abbrev now : StructureSets
  now = parts_now s.descs s.parts a.now

  abbrev later : Hand
  later = joined a.later a.frame_later

  runs : RunsBoth opening_base s.member (met w.driver s.recent) (both s.descs s.parts) s.hand s.frame (controller_parts w)
  runs = k.now.framed.runs

  keeps : KeepsEach s.parts (parts_now s.descs s.parts a.now)
  keeps =
      both_keeps_structures begins_by transacts_by opening_base s.member (met w.driver s.recent) s.descs s.parts s.hand s.frame
      (controller_parts w)
      (wired fixed w) (wired fixed (controller_next fixed w)) a.now a.later a.frame_later runs a.effect

  done_by : (n b i : ℕ) (xs : List ℕ) → EventOfQueues fixed s w a → IsDone (in_hand s) s.parts n b i xs
      → IsDone (joined a.later a.frame_later) (parts_now s.descs s.parts a.now) n b i xs
  done_by n b i xs (begun index allowed asked told) d = record {
    qtd = d.qtd;
    here = (keeps n).idle (32 * b) d.qtd d.here d.off;
    off = d.off;
    told = told.bytes n (32 * b) xs d.told;
    count = d.count;
  }
  done_by n b i xs (moved effect) d =
      events_keep_what_is_done transacts_by s.parts (in_hand s) (wired fixed w) (wired fixed new) now later n b i xs
      (λ c t there off. (keeps n).idle c t there off) effect d

  -- what was moved of the queue head at n, with what this event moved of it
  added : (acc : ℕ → List (List ℕ)) → Adds m acc z → (n : ℕ) → counted w.driver n ≡ true
      → IsReported (s.order n) (s.out n) (joined a.later a.frame_later) (parts_now s.descs s.parts a.now) n (acc n) (m.reported n)
  added acc adds n on =
      let r = g.moved n on in
      let goes : GoesOnInOrder (s.order n) (s.out n) later now n r.told (bytes_of_both n z) =
      both_adds begins_by transacts_by opening_base s.member (met w.driver s.recent) s.descs s.parts s.hand s.frame (controller_parts w)
      (wired fixed w)
      (wired fixed new) a.now a.later a.frame_later runs a.effect z (s.order n) r.place (s.out n) n r.told (g.sound n on) r.accounts in
      record {
        place = goes.place;
        told = r.told ++ bytes_of_both n z;
        accounts = goes.accounts;
        sum = sym (append_assoc (m.reported n) r.told (bytes_of_both n z)) ∙ ap (λ (xs : List ℕ). xs ++ bytes_of_both n z) r.sum
            ∙ sym (adds n);
      }

  pub event_telling : (acc : ℕ → List (List ℕ)) → Adds m acc z → IsTelling (standing_then s w a) (record m { acc = acc })
      (controller_next fixed w)
  event_telling acc adds = record {
    told = still_told (queued w.driver) (in_hand s) later s.parts now m.reported
        (λ e t x y b i xs next on one done. done_by (32 * x.queue) b i xs z done) g.told;
    moved = λ n on. added acc adds n on;
    sound = λ n on.
        sound_then begins_by transacts_by opening_base s.member s.recent s.descs s.parts s.hand s.frame (controller_parts w) w.driver
        (wired fixed w)
        (wired fixed new) (controller_parts new) k.now a n (g.sound n on);
  }

pub controller_keeps_telling : ControllerKeepsTelling
controller_keeps_telling fixed s m w k c z acc adds g = event_telling fixed s m w k c.event z g acc adds
