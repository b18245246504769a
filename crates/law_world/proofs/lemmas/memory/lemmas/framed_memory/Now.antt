-- A driver and a controller that are framed with what was unlinked in this microframe: the opening, and rows that read or write a register alone.
use Rattle.std.proofs.Common.{◌≡◌, ℕ, ◌*◌, ◌%◌, Bool, true, false, Option, ap, refl, sym, subst, ◌∙◌}
use Rattle.std.proofs.lemmas.Bool.{true≢false}
use Rattle.law_frames.proofs.Common.{none_some}
use Rattle.hc_core.specs.Controller.{Content}
use Rattle.law_controller.specs.aligned_copies.Aligned.{AreAligned}
use Rattle.drv_table.specs.declared.rows.DriverRow.{DriverRow}
use Rattle.drv_table.specs.declared.rows.DriverRow.TheVariants as rows
use Rattle.drv_table.specs.DriverContent.{DriverContent}
use Rattle.drv_table.specs.Parts.{Parts}
use Rattle.drv_table.specs.Rows.{driver_row, after_driver_row}
use Rattle.claims_driver.specs.Owners.{views_of}
use Rattle.law_driver.specs.run_owners.Due.{IsDue}
use Rattle.law_driver.proofs.lemmas.run_owners.Reasons.{each_event_is_due}
use Rattle.law_structures.specs.lent_structures.Structures.{StructureSets}
use Rattle.law_ring.specs.Hand.{Hand}
use Rattle.claims_base.specs.Controller.{Base, base_of}
use Rattle.law_driver.proofs.lemmas.planned_endpoints.Laws.{opening_plan_is_of_its_endpoints, events_keep_the_plan}
use Rattle.law_driver.proofs.lemmas.iso_frames.Due.{opening_frames, events_keep_the_frames}
use Rattle.law_driver.proofs.lemmas.in_place.Laws.{events_keep_all_in_place}
use Rattle.law_frame_list.proofs.lemmas.list_spread.Spreading.{members_share_no_block}
use Rattle.law_frame_list.proofs.lemmas.list_driver.Rows.{events_keep_the_list}
use Rattle.law_queues.specs.shared_memory.Shared.{parts_of, next_parts, after_driver}
use Rattle.law_frames.specs.Met.{Kind}
use Rattle.law_frames.specs.FrameHand.{FrameHand}
use Rattle.law_controller.specs.frame_control.Both.{RunsBoth}
use Rattle.law_descriptors.specs.Both.{both}
use Rattle.law_descriptors.specs.Told.{IsToldBy}
use Rattle.law_descriptors.specs.CommandLaws.{keeps_runs}
use Rattle.law_descriptors.specs.Meeting.{standing, met}
use Rattle.law_descriptors.specs.Growing.{AreApartFrom}
use Rattle.law_descriptors.specs.Recent.{AreRecent, DrivesFrames, driver_after, content_after}
use Rattle.law_descriptors.specs.Rows.{DrivesAfter}
use Rattle.law_descriptors.proofs.Others.{rows_told}
use Rattle.law_descriptors.proofs.Storing.{read_frame_drives, read_status_drives, advance_drives, bell_drives}
use Rattle.law_world.specs.memory.framed_memory.Framed.{IsFramed}
use Rattle.law_world.specs.memory.framed_memory.Now.{IsFramedNow, NowHasFrames, NewIsFramedNow, reads_alone, RegistersKeepNow}
use Rattle.law_world.proofs.lemmas.memory.lemmas.framed_memory.Opening.{new_is_framed}
use Rattle.law_descriptors.proofs.Chained.{new_driver_leaves_chained, events_leave_chained}
use Rattle.law_descriptors.proofs.Queued.{new_driver_links_queued, events_link_queued}

-- ---- the frame list

pub now_has_frames : NowHasFrames
now_has_frames base member recent descs parts hand frame c d k =
    let sound = k.framed.place.sound in
    record {
      list = k.framed.list.list;
      spread = members_share_no_block d c.memory sound.stands sound.owners sound.listed;
      listed =
          sound.listed;
    }

pub begins_there : (base : Base) (member : ℕ → Bool) (recent : ℕ → Option Kind) (descs parts : StructureSets) (hand : Hand) (frame : FrameHand) (c : Content) (d : DriverContent)
    → IsFramedNow base member recent descs parts hand frame c d → base.periodic_list_base ≡ 32 * d.periodic.list.list
begins_there base member recent descs parts hand frame c d k = k.framed.start ∙ sym (ap (λ (b : ℕ). 32 * b) k.framed.place.sound.listed.list.list)

-- ---- the opening

pub new_is_framed_now : NewIsFramedNow
new_is_framed_now n room many few whole = record {
  framed = new_is_framed n room many few whole;
  recent_are = λ a kind is. absurd (none_some kind is);
  apart = λ a kind is. absurd (none_some kind is);
  chained = new_driver_leaves_chained n room;
  queued = new_driver_links_queued n room;
  planned = opening_plan_is_of_its_endpoints n room;
  in_frames = opening_frames n room;
}

-- ---- what a row leaves

-- what is told of the driver after a row, beside what it has to find again
pub record RowLeaves (base : Base) (member : ℕ → Bool) (later : ℕ → Option Kind) (descs parts : StructureSets) (hand : Hand) (frame : FrameHand) (c : Content) (d : DriverContent) (row : DriverRow) : Type 0 where
  pub runs : RunsBoth base member (met (driver_after row c d) later) (both descs parts) hand frame (content_after row c d)
  pub told : IsToldBy (views_of (driver_after row c d)) descs parts
  pub recent_are : AreRecent (driver_after row c d) (content_after row c d).registers.frame_index later
  pub apart : AreApartFrom (driver_after row c d) later

-- the ring begins where it began
still_aligned : (base : Base) (c : Content) (d : DriverContent) → base_of c.registers ≡ base → base_of (after_driver c d).registers ≡ base → AreAligned c → AreAligned (after_driver c d)
still_aligned base c d old new k = record { frame = k.frame; ring = k.ring; start = ap (λ (b : Base). b.async_list_address % 32) (new ∙ sym old) ∙ k.start }

pub next_now : (base : Base) (member : ℕ → Bool) (recent later : ℕ → Option Kind) (descs parts descs_then parts_then : StructureSets) (hand hand_then : Hand) (frame frame_then : FrameHand) (c : Content) (d : DriverContent)
    → IsFramedNow base member recent descs parts hand frame c d → RowLeaves base member later descs_then parts_then hand_then frame_then c d (driver_row (parts_of c d))
    → IsFramedNow base member later descs_then parts_then hand_then frame_then (after_driver c d) (next_parts c d).driver
next_now base member recent later descs parts descs_then parts_then hand hand_then frame frame_then c d k s =
    let p : Parts = parts_of c d in
    let f : IsFramed base member (met d recent) descs parts hand frame c d = k.framed in
    let sound = f.place.sound in
    record {
      framed = record {
        operating = f.operating;
        start = f.start;
        aligned = still_aligned base c d f.runs.ring.registers s.runs.ring.registers f.aligned;
        runs = s.runs;
        place = events_keep_all_in_place p f.place;
        list = events_keep_the_list p sound k.in_frames f.list;
        driven = s.told.driven;
        described = s.told.described;
        extents = s.told.extents;
      };
      recent_are = s.recent_are;
      apart = s.apart;
      chained = events_leave_chained p k.chained;
      queued = events_link_queued p sound.listed k.queued;
      planned = events_keep_the_plan p sound.owners k.planned;
      in_frames = events_keep_the_frames p sound.owners sound.listed k.planned k.in_frames;
    }

pub told_now : (base : Base) (member : ℕ → Bool) (recent : ℕ → Option Kind) (descs parts : StructureSets) (hand : Hand) (frame : FrameHand) (c : Content) (d : DriverContent)
    → IsFramedNow base member recent descs parts hand frame c d → IsToldBy (views_of d) descs parts
told_now base member recent descs parts hand frame c d k = record { driven = k.framed.driven; extents = k.framed.extents; described = k.framed.described }

pub drives_now : (base : Base) (member : ℕ → Bool) (recent : ℕ → Option Kind) (descs parts : StructureSets) (hand : Hand) (frame : FrameHand) (c : Content) (d : DriverContent)
    → IsFramedNow base member recent descs parts hand frame c d → DrivesFrames base member recent descs parts hand frame c d
drives_now base member recent descs parts hand frame c d k = record { runs = k.framed.runs; recent_are = k.recent_are; described = k.framed.described }

-- ---- rows that read or write a register alone

-- what such a row leaves
record RegistersAlone (base : Base) (member : ℕ → Bool) (recent : ℕ → Option Kind) (descs parts : StructureSets) (hand : Hand) (frame : FrameHand) (c : Content) (d : DriverContent) (row : DriverRow) : Type 0 where
  drives : DrivesAfter row base member recent descs parts hand frame c d
  keeps : keeps_runs row ≡ true
  standing_stays : (n : ℕ) → standing (after_driver_row row (parts_of c d)).driver n ≡ standing d n

by_row : (base : Base) (member : ℕ → Bool) (recent : ℕ → Option Kind) (descs parts : StructureSets) (hand : Hand) (frame : FrameHand) (c : Content) (d : DriverContent) (row : DriverRow)
    → IsFramedNow base member recent descs parts hand frame c d → IsDue (parts_of c d) row → reads_alone row ≡ true → RegistersAlone base member recent descs parts hand frame c d row
by_row base member recent descs parts hand frame c d (rows.ReadFrame n) k due on =
    subst (λ (i : ℕ). RegistersAlone base member recent descs parts hand frame c d (rows.ReadFrame i)) (sym due.1)
    (record {
      drives = read_frame_drives base member recent descs parts hand frame c d (drives_now base member recent descs parts hand frame c d k);
      keeps = refl;
      standing_stays = λ a. refl;
    })
by_row base member recent descs parts hand frame c d (rows.ReadStatus heard) k due on = record {
  drives = read_status_drives base member recent descs parts hand frame c d heard
      (drives_now base member recent descs parts hand frame c d k);
  keeps = refl;
  standing_stays = status_stands heard;
}
  where
    status_stands : (b : Bool) (n : ℕ) → standing (after_driver_row (rows.ReadStatus b) (parts_of c d)).driver n ≡ standing d n
    status_stands true n = refl
    status_stands false n = refl
by_row base member recent descs parts hand frame c d rows.ClearAdvance k due on = record {
  drives = advance_drives base member recent descs parts hand frame c d (drives_now base member recent descs parts hand frame c d k);
  keeps = refl;
  standing_stays = λ a. refl;
}
by_row base member recent descs parts hand frame c d rows.RingBell k due on = record {
  drives = bell_drives base member recent descs parts hand frame c d k.framed.operating (drives_now base member recent descs parts hand frame c d k);
  keeps = refl;
  standing_stays = λ a. refl;
}
by_row base member recent descs parts hand frame c d rows.Rest k due on = record {
  drives = drives_now base member recent descs parts hand frame c d k;
  keeps = refl;
  standing_stays = λ a. refl;
}
by_row base member recent descs parts hand frame c d row k due on = absurd (true≢false (sym on))

pub registers_keep_now : RegistersKeepNow
registers_keep_now base member recent descs parts hand frame c d k on =
    let p : Parts = parts_of c d in
    let r : RegistersAlone base member recent descs parts hand frame c d (driver_row p) = by_row base member recent descs parts hand frame c d (driver_row p) k (each_event_is_due p) on in
    next_now base member recent recent descs parts descs parts hand hand frame frame c d k
    (record {
      runs = r.drives.runs;
      told = rows_told p descs parts (driver_row p) r.keeps (told_now base member recent descs parts hand frame c d k);
      recent_are = r.drives.recent_are;
      apart = λ n kind is. r.standing_stays n ∙ k.apart n kind is;
    })
