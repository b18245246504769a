-- Whom the walk of the frames may meet stays, where the members of the frame list stay and each descriptor stays what it is.
use Rattle.std.proofs.Common.{◌≡◌, ℕ, ◌/◌, Bool, Option, ap, sym, ◌∙◌}
use Rattle.std.specs.List.{list_any}
use Rattle.drv_periodic.specs.Periodic.{Periodic}
use Rattle.drv_periodic_table.specs.Periodic.{PeriodicContent, note_at}
use Rattle.drv_table.specs.DriverContent.{DriverContent}
use Rattle.hc_core.specs.Controller.{Content}
use Rattle.law_structures.specs.lent_structures.Structures.{StructureSets}
use Rattle.law_ring.specs.Hand.{Hand}
use Rattle.claims_base.specs.Controller.{Base}
use Rattle.law_frames.specs.Met.{Kind}
use Rattle.law_frames.specs.FrameHand.{FrameHand}
use Rattle.law_controller.specs.frame_control.Both.{RunsBoth}
use Rattle.law_controller.proofs.lemmas.frame_stores.Beside.{more_are_met_beside_ring}
use Rattle.claims_driver.specs.Unlinked.{led_by}
use Rattle.law_descriptors.specs.Meeting.{kind_of_descriptor, queue_begins, descriptor_begins, kind_by, standing_in, standing, or_recent, met}
use Rattle.law_descriptors.proofs.Returning.{none_some}

pub alike_standing : (q r : PeriodicContent) → r.list ≡ q.list → ((b : ℕ) → (note_at r.notes b).split ≡ (note_at q.notes b).split) → (n : ℕ) → standing_in r n ≡ standing_in q n
alike_standing q r list split n =
    ap (λ (p : Periodic). kind_by (list_any (queue_begins n) (led_by p.members.schedule p.work).queues) (list_any (descriptor_begins n) (led_by p.members.schedule p.work).descriptors)
    (kind_of_descriptor (note_at r.notes (n / 32)).split)) list
    ∙ ap (λ (b : Bool). kind_by (list_any (queue_begins n) (led_by q.list.members.schedule q.list.work).queues)
    (list_any (descriptor_begins n) (led_by q.list.members.schedule q.list.work).descriptors) (kind_of_descriptor b)) (split (n / 32))

-- both walks go on, over the same that is met
pub alike_runs : (base : Base) (member : ℕ → Bool) (recent : ℕ → Option Kind) (parts : StructureSets) (hand : Hand) (frame : FrameHand) (c : Content) (d f : DriverContent)
    → ((n : ℕ) → standing f n ≡ standing d n) → RunsBoth base member (met d recent) parts hand frame c → RunsBoth base member (met f recent) parts hand frame c
alike_runs base member recent parts hand frame c d f same k =
    more_are_met_beside_ring base member (met d recent) (met f recent) parts hand frame c k (λ n kind on. alike n ∙ on) (λ n kind on none. absurd (none_some kind (sym none ∙ (sym (alike n) ∙ on))))
  where
    alike : (n : ℕ) → met f recent n ≡ met d recent n
    alike n = ap (λ (o : Option Kind). or_recent o (recent n)) (same n)
