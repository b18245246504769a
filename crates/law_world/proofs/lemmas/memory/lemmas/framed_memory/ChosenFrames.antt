-- The descriptors of a command get their frames by a reading of FRINDEX: what stands in the frame list is what it was, and what was unlinked in this microframe
-- is recent still.
use Rattle.std.proofs.Common.{◌≡◌, ℕ, suc, Bool, cond, nat_lt, take, drop, Option, Some, ap, refl, sym, subst, ◌∙◌}
use Rattle.std.specs.Prelude.{slice_get}
use Rattle.law_frame_list.proofs.Common.{frames_first}
use Rattle.hc_core.specs.Controller.{Content}
use Rattle.drv_table.specs.declared.content.Command.{Command}
use Rattle.drv_table.specs.declared.content.Command.TheVariants as unfinished
use Rattle.drv_table.specs.declared.rows.DriverRow.{DriverRow}
use Rattle.drv_table.specs.declared.rows.DriverRow.TheVariants as rows
use Rattle.drv_table.specs.DriverContent.{DriverContent}
use Rattle.drv_table.specs.Parts.{Parts}
use Rattle.drv_table.specs.Commands.{events_of, linked_on, advanced_by}
use Rattle.drv_table.specs.FrameChoice.{framed_notes, with_notes, placement_at, framed_by}
use Rattle.claims_driver.specs.Owners.{DescriptorRuns}
use Rattle.law_driver.specs.run_owners.Due.{IsDue, IsNextOf}
use Rattle.law_driver.proofs.lemmas.run_owners.Reasons.{each_event_is_due}
use Rattle.law_driver.proofs.lemmas.run_owners.Stays.{framed}
use Rattle.law_structures.specs.lent_structures.Structures.{StructureSets}
use Rattle.law_ring.specs.Hand.{Hand}
use Rattle.claims_base.specs.Controller.{Base}
use Rattle.law_queues.specs.shared_memory.Shared.{parts_of}
use Rattle.law_frames.specs.Met.{Kind}
use Rattle.law_frames.specs.FrameHand.{FrameHand}
use Rattle.law_descriptors.specs.Both.{both}
use Rattle.law_descriptors.specs.Meeting.{standing}
use Rattle.law_descriptors.specs.Recent.{AreRecent, driver_after}
use Rattle.law_descriptors.proofs.Others.{rows_told}
use Rattle.law_descriptors.proofs.Storing.{read_frame_drives}
use Rattle.law_world.specs.memory.framed_memory.Now.{IsFramedNow}
use Rattle.law_world.specs.memory.framed_memory.IsochronousLaws.{FramesKeepNow}
use Rattle.law_world.proofs.lemmas.memory.lemmas.framed_memory.Now.{RowLeaves, next_now, told_now, drives_now}
use Rattle.law_world.proofs.lemmas.memory.lemmas.framed_memory.Alike.{alike_standing, alike_runs}

-- the members of the frame list are the same, and so is what is recent
record LeavesList (index : ℕ) (recent : ℕ → Option Kind) (d f : DriverContent) : Type 0 where
  list : f.periodic.list ≡ d.periodic.list
  recent_are : AreRecent f index recent

frames_leave : (c : Content) (d : DriverContent) (recent : ℕ → Option Kind) (cmd : Command) → d.command ≡ Some cmd → slice_get (events_of cmd) d.made ≡ Some rows.Frames
    → AreRecent d c.registers.frame_index recent → AreRecent (driver_after (rows.ReadFrame c.registers.frame_index) c d) c.registers.frame_index recent
    → LeavesList c.registers.frame_index recent d (framed_by d c.registers.frame_index (Some cmd))
frames_leave c d recent (unfinished.Open queue) is next old read = record { list = refl; recent_are = old }
frames_leave c d recent (unfinished.Publish b words) is next old read = record { list = refl; recent_are = old }
frames_leave c d recent (unfinished.Unlink e b link) is next old read = record { list = refl; recent_are = old }
frames_leave c d recent unfinished.Chain is next old read = record { list = refl; recent_are = old }
frames_leave c d recent (unfinished.Unchain e) is next old read = record { list = refl; recent_are = old }
frames_leave c d recent (unfinished.Iso e t count) is next old read =
    subst (λ (o : Option Command). LeavesList index recent d (advanced_by f o)) (sym is)
    (subst (λ (b : Bool). LeavesList index recent d (cond b g (linked_on f (unfinished.Iso e t count)))) (sym (ap (λ (k : ℕ). nat_lt (suc k) 2) (frames_first e t count d.made next)))
    (record { list = refl; recent_are = read }))
  where
    index : ℕ
    index = c.registers.frame_index

    f : DriverContent
    f = with_notes d index (take count (drop t d.transfers)) (framed_notes d index e t count (placement_at d e))

    g : DriverContent
    g = record f { made = suc d.made }

frames_leave_now : (base : Base) (member : ℕ → Bool) (recent : ℕ → Option Kind) (descs parts : StructureSets) (hand : Hand) (frame : FrameHand) (c : Content) (d : DriverContent)
    → IsFramedNow base member recent descs parts hand frame c d → IsNextOf (parts_of c d) rows.Frames → RowLeaves base member recent descs parts hand frame c d rows.Frames
frames_leave_now base member recent descs parts hand frame c d k due =
    let p : Parts = parts_of c d in
    let index : ℕ = c.registers.frame_index in
    let f : DriverContent = driver_after rows.Frames c d in
    let l : LeavesList index recent d f
    = subst (λ (o : Option Command). LeavesList index recent d (framed_by d index o)) (sym due.unfinished)
    (frames_leave c d recent due.command due.unfinished due.next k.recent_are
    (read_frame_drives base member recent descs parts hand frame c d
    (drives_now base member recent descs parts hand frame c d k)).recent_are) in
    let same : (n : ℕ) → standing f n ≡ standing d n
    = alike_standing d.periodic f.periodic l.list (λ b. ap (λ (r : DescriptorRuns). r.split) ((framed d index d.command).same.buffers b)) in
    record {
      runs = alike_runs base member recent (both descs parts) hand frame c d f same k.framed.runs;
      told = rows_told p descs parts rows.Frames refl (told_now base member recent descs parts hand frame c d k);
      recent_are = l.recent_are;
      apart = λ n kind on. same n ∙ k.apart n kind on;
    }

pub frames_keep_now : FramesKeepNow
frames_keep_now base member recent descs parts hand frame c d k is =
    let p : Parts = parts_of c d in
    let due : IsNextOf p rows.Frames = subst (IsDue p) is (each_event_is_due p) in
    next_now base member recent recent descs parts descs parts hand hand frame frame c d k
    (subst (λ (row : DriverRow). RowLeaves base member recent descs parts hand frame c d row) (sym is) (frames_leave_now base member recent descs parts hand frame c d k due))
