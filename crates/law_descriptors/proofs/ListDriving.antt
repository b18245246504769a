-- The driver with its descriptors goes on beside both walks, once a member was linked or unlinked.
use Rattle.std.proofs.Common.{ℕ, ◌*◌, List, Option, Some, None, ap, sym, subst, ◌∙◌}
use Rattle.std.specs.Prelude.{slice_get}
use Rattle.law_descriptors.proofs.Common.{unlink_registers}
use Rattle.drv_table.specs.declared.content.Transfer.{Transfer}
use Rattle.drv_table.specs.declared.rows.DriverRow.{DriverRow}
use Rattle.drv_table.specs.declared.rows.DriverRow.TheVariants as rows
use Rattle.drv_table.specs.DriverContent.{DriverContent}
use Rattle.drv_table.specs.Parts.{Parts}
use Rattle.drv_table.specs.Removals.{after_unlink}
use Rattle.drv_table.specs.Commands.{advance}
use Rattle.op_registers.specs.RegisterFile.{RegisterFile}
use Rattle.drv_periodic_table.specs.Periodic.{note_at}
use Rattle.mem_runs.specs.declared.slots.Slot.{Slot}
use Rattle.claims_driver.specs.Owners.{SlotHas, Views, descriptor_in, views_of}
use Rattle.law_driver_ring.specs.Inventory.{IsLent}
use Rattle.law_driver_ring.proofs.Viewing.{SameViews, advance_views}
use Rattle.drv_periodic.specs.declared.work.Store.{Store}
use Rattle.drv_periodic_table.specs.declared.content.DescriptorNote.{DescriptorNote}
use Rattle.hc_core.specs.Controller.{Content}
use Rattle.law_structures.specs.lent_structures.Structures.{StructureSets}
use Rattle.law_frames.specs.Met.{Kind}
use Rattle.law_controller.specs.frame_control.Both.{RunsBoth}
use Rattle.law_descriptors.specs.Described.{AreDescribed}
use Rattle.law_descriptors.specs.Both.{both, descs_now, SameDescriptors}
use Rattle.law_descriptors.specs.PartLaws.{AreStill}
use Rattle.law_descriptors.specs.Meeting.{kind_of_descriptor, met}
use Rattle.law_descriptors.specs.Recent.{AreRecent, parts_of, driver_after, content_after}
use Rattle.law_descriptors.specs.Staying.{also}
use Rattle.law_descriptors.specs.ListRows.{leaves_now, recent_with, ListStored, UnlinkStored, UnlinkDrives, LinkDrives}
use Rattle.law_descriptors.proofs.RowStaying.{unlink_is_recent}
use Rattle.law_descriptors.proofs.Stays.{described_stay, described_follow}
use Rattle.law_descriptors.proofs.ListRowsKeeping.{store_keeps_parts}
use Rattle.law_descriptors.proofs.ListUnlinks.{unlink_rows_leave_both}
use Rattle.law_descriptors.proofs.ListRows.{step_stays, link_rows_leave_both}
use Rattle.law_descriptors.proofs.ListRecent.{link_recent}

-- what the driver tells of its descriptors is the same
unlink_described : (p : Parts) (t : ℕ) (o : Option Transfer) (descs : StructureSets) → AreDescribed (views_of p.driver) descs → AreDescribed (views_of (after_unlink p t o).driver) descs
unlink_described p t None descs k = k
unlink_described p t (Some y) descs k = k

-- ---- a harvested descriptor

pub unlink_drives : UnlinkDrives
unlink_drives base member recent descs parts hand frame c d t y k is frames apart stands shape has due there =
    let p : Parts = parts_of c d in
    let kind : Kind = kind_of_descriptor (note_at d.periodic.notes y.first).split in
    let later : ℕ → Option Kind = also (32 * y.first) kind recent in
    let new : DriverContent = driver_after (rows.Unlink t) c d in
    let after : Content = content_after (rows.Unlink t) c d in
    let e : UnlinkStored base member recent (both descs parts) hand frame c d t y = unlink_rows_leave_both base member recent (both descs parts) hand frame c d t y k.runs is frames apart stands shape has due there in
    let now : StructureSets = e.stored.now in
    let still : AreStill (views_of d) descs parts now
    = described_stay (views_of d) descs parts now k.described (store_keeps_parts base (both descs parts) now frame e.stored.frame_later e.store.at e.store.value e.stored.stored) in
    record {
      event = e;
      drives = record {
        runs = subst (λ (ps : StructureSets). RunsBoth base member (met new later) ps hand e.stored.frame_later after) still.same e.stored.runs;
        recent_are = subst (λ (r : RegisterFile). AreRecent new r.frame_index later) (sym (unlink_registers p t (slice_get d.transfers t)))
            (unlink_is_recent p recent c.registers.frame_index t y kind there k.recent_are);
        described = unlink_described p t (slice_get d.transfers t) (descs_now descs now) still.described;
      };
    }

-- ---- a command

step_slots : (v w : Views) → SameViews v w → (c k : ℕ) → SlotHas (v.slot c) k → SlotHas (w.slot c) k
step_slots v w same c k has = subst (λ (s : Slot). SlotHas s k) (sym (same.slot c)) has

step_same : (d : DriverContent) → SameDescriptors (views_of d) (views_of (advance d))
step_same d =
    let v : Views = views_of d in
    let w : Views = views_of (advance d) in
    let same : SameViews v w = advance_views d in
    record {
      slots = step_slots v w same;
      stay = λ t y is. record { here = same.transfer t ∙ is.here; held = is.held; isochronous = is.isochronous; lent = subst IsLent (sym (same.slot y.first)) is.lent };
      were = λ t y is. record { here = sym (same.transfer t) ∙ is.here; held = is.held; isochronous = is.isochronous; lent = subst IsLent (same.slot y.first) is.lent };
      notes = λ t y is. ap (λ (notes : List DescriptorNote). descriptor_in notes y.first) (step_stays d).notes;
    }

pub link_drives : LinkDrives
link_drives base member recent descs parts hand frame c d row k is frames apart stands shape has why leads comes chained =
    let st : Store = why.store in
    let later : ℕ → Option Kind = recent_with d.periodic (leaves_now d.periodic.list) recent in
    let e : ListStored base member later (both descs parts) hand frame st (driver_after row c d) (content_after row c d)
    = link_rows_leave_both base member recent (both descs parts) hand frame c d row k.runs is frames apart stands shape has why leads comes
    in
    let still : AreStill (views_of d) descs parts e.now
    = described_stay (views_of d) descs parts e.now k.described (store_keeps_parts base (both descs parts) e.now frame e.frame_later st.at st.value e.stored) in
    record {
      event = e;
      drives = record {
        runs = subst (λ (ps : StructureSets). RunsBoth base member (met (driver_after row c d) later) ps hand e.frame_later (content_after row c d)) still.same e.runs;
        recent_are = subst (λ (r : DriverRow). AreRecent (driver_after r c d) (content_after r c d).registers.frame_index later) (sym why.is)
            (link_recent c.memory d recent c.registers.frame_index why.command why.unfinished why.links why.late frames.listed chained k.recent_are);
        described = subst (λ (r : DriverRow). AreDescribed (views_of (driver_after r c d)) (descs_now descs e.now)) (sym why.is)
            (described_follow (views_of d) (views_of (advance d)) (descs_now descs e.now) (step_same d) still.described);
      };
    }
