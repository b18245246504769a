-- Rows that store the frame list, or give back what was unlinked, keep a driver framed with what was unlinked in this microframe.
use Rattle.std.proofs.Common.{◌≡◌, ℕ, ◌*◌, Bool, true, Option, Some, None, ap, refl, sym, subst, ◌∙◌}
use Rattle.std.specs.Prelude.{slice_get}
use Rattle.std.proofs.lemmas.Bool.{true≢false}
use Rattle.law_world.proofs.Common.{descriptor_index, placed_index}
use Rattle.op_registers.specs.RegisterFile.{RegisterFile}
use Rattle.hc_core.specs.Controller.{Content}
use Rattle.drv_periodic_table.specs.Periodic.{PeriodicContent, note_at}
use Rattle.drv_periodic_table.specs.declared.content.Removed.TheVariants as removed
use Rattle.drv_table.specs.declared.content.Endpoint.{Endpoint}
use Rattle.drv_table.specs.declared.content.Transfer.{Transfer}
use Rattle.drv_table.specs.declared.content.Command.{Command}
use Rattle.drv_table.specs.declared.content.Command.TheVariants as unfinished
use Rattle.drv_table.specs.declared.rows.DriverRow.{DriverRow}
use Rattle.drv_table.specs.declared.rows.DriverRow.TheVariants as rows
use Rattle.drv_table.specs.DriverContent.{DriverContent}
use Rattle.drv_table.specs.Parts.{Parts}
use Rattle.drv_table.specs.Commands.{links}
use Rattle.drv_table.specs.Rows.{driver_row, after_driver_row}
use Rattle.drv_table.specs.Removals.{after_descriptor, after_placed}
use Rattle.claims_driver.specs.Owners.{views_of}
use Rattle.law_driver.specs.run_owners.Due.{IsDue, IsUnlinkDue}
use Rattle.law_driver.proofs.lemmas.run_owners.Reasons.{each_event_is_due}
use Rattle.law_driver.proofs.lemmas.run_owners.Released.{cancel_same}
use Rattle.law_structures.specs.lent_structures.Structures.{StructureSets}
use Rattle.law_ring.specs.Hand.{Hand}
use Rattle.claims_base.specs.Controller.{Base}
use Rattle.law_driver_ring.proofs.Sorts.{driven_same}
use Rattle.law_queues.specs.shared_memory.Shared.{parts_of}
use Rattle.law_frames.specs.Met.{Kind}
use Rattle.law_frames.specs.FrameHand.{FrameHand}
use Rattle.law_controller.specs.frame_control.Both.{RunsBoth}
use Rattle.law_descriptors.specs.Both.{both, descs_now, parts_now}
use Rattle.law_descriptors.specs.Told.{IsToldBy}
use Rattle.law_descriptors.specs.PartLaws.{AreStill}
use Rattle.law_descriptors.specs.Meeting.{kind_of_descriptor, standing, standing_in, met}
use Rattle.law_descriptors.specs.Recent.{AreRecent, driver_after}
use Rattle.law_descriptors.specs.Returned.{IsGivenBack}
use Rattle.law_descriptors.specs.Staying.{also}
use Rattle.law_descriptors.specs.ListRows.{ComesFirst, leaves_now, recent_with, IsStoredIn, UnlinkDriven, LinkDriven}
use Rattle.law_descriptors.specs.Given.{without_owners, begins_at, waiting_at}
use Rattle.law_descriptors.proofs.Stays.{described_stay}
use Rattle.law_descriptors.proofs.Others.{rows_told}
use Rattle.law_descriptors.proofs.ListRowsKeeping.{store_keeps_parts}
use Rattle.law_descriptors.proofs.ListDriving.{unlink_drives, link_drives}
use Rattle.law_descriptors.proofs.RowStaying.{release_leaves_recent}
use Rattle.law_descriptors.proofs.GivenRow.{row_gives_back_passed}
use Rattle.law_descriptors.proofs.GivenBoth.{release_told, release_runs_both}
use Rattle.law_descriptors.proofs.GivenWaiting.{waiting_told, waiting_runs_both}
use Rattle.law_descriptors.proofs.GivenRecent.{endpoint_leaves_recent}
use Rattle.law_descriptors.proofs.Queued.{descriptors_come_first, leaving_come_first}
use Rattle.law_world.specs.memory.framed_memory.Now.{IsFramedNow}
use Rattle.law_world.specs.memory.framed_memory.NowRows.{UnlinkKeepsNow, LinkKeepsNow, ReleaseKeepsNow, WaitingKeepsNow}
use Rattle.law_world.proofs.lemmas.memory.lemmas.framed_memory.Framing.{stay_in_runs}
use Rattle.law_world.proofs.lemmas.memory.lemmas.framed_memory.Leading.{command_leads}
use Rattle.law_world.proofs.lemmas.memory.lemmas.framed_memory.Now.{now_has_frames, begins_there, RowLeaves, next_now, told_now, drives_now}

-- ---- stores

-- what a store leaves of what the driver has
stored_told : (base : Base) (member : ℕ → Bool) (recent : ℕ → Option Kind) (descs parts : StructureSets) (hand : Hand) (frame : FrameHand) (c : Content) (d : DriverContent) (at v : ℕ) (now : StructureSets) (later : FrameHand)
    → IsFramedNow base member recent descs parts hand frame c d → IsStoredIn base (both descs parts) frame at v now later → IsToldBy (views_of d) (descs_now descs now) (parts_now descs parts now)
stored_told base member recent descs parts hand frame c d at v now later k stored =
    let still : AreStill (views_of d) descs parts now = described_stay (views_of d) descs parts now k.framed.described (store_keeps_parts base (both descs parts) now frame later at v stored) in
    record {
      driven = driven_same (views_of d) parts (parts_now descs parts now) still.sorts k.framed.driven;
      extents = stay_in_runs (views_of d) parts (parts_now descs parts now) still.extents k.framed.extents;
      described = still.described;
    }

pub unlink_keeps_now : UnlinkKeepsNow
unlink_keeps_now base member recent descs parts hand frame c d t y k is there =
    let p : Parts = parts_of c d in
    let sound = k.framed.place.sound in
    let later : ℕ → Option Kind = also (32 * y.first) (kind_of_descriptor (note_at d.periodic.notes y.first).split) recent in
    let due : IsUnlinkDue p t = subst (IsDue p) is (each_event_is_due p) in
    let u : UnlinkDriven base member recent descs parts hand frame c d t y
    = unlink_drives base member recent descs parts hand frame c d t y (drives_now base member recent descs parts hand frame c d k) (begins_there base member recent descs parts hand frame c d k)
    (now_has_frames base member recent descs parts hand frame c d k) k.apart sound.stands sound.shape sound.owners due there in
    let descs_then : StructureSets = descs_now descs u.event.stored.now in
    let parts_then : StructureSets = parts_now descs parts u.event.stored.now in
    let told : IsToldBy (views_of d) descs_then parts_then
    = stored_told base member recent descs parts hand frame c d u.event.store.at u.event.store.value u.event.stored.now u.event.stored.frame_later k u.event.stored.stored in
    record {
      event = u.event;
      framed = next_now base member recent later descs parts descs_then parts_then hand hand frame u.event.stored.frame_later c d k
          (subst (RowLeaves base member later descs_then parts_then hand u.event.stored.frame_later c d) (sym is)
          (record {
            runs = u.drives.runs;
            told = rows_told p descs_then parts_then (rows.Unlink t) refl told;
            recent_are = u.drives.recent_are;
            apart = u.event.stored.apart;
          }));
    }

store_told : (p : Parts) (descs parts : StructureSets) (row : DriverRow) (b at v : ℕ) → row ≡ rows.Store b at v → IsToldBy (views_of p.driver) descs parts → IsToldBy (views_of (after_driver_row row p).driver) descs parts
store_told p descs parts row b at v is told =
    subst (λ (r : DriverRow). IsToldBy (views_of (after_driver_row r p).driver) descs parts) (sym is) (rows_told p descs parts (rows.Store b at v) refl told)

-- an endpoint's queue head apart, what a command links next is lent and isn't recent, and one that unlinks members links none
comes_first : (base : Base) (member : ℕ → Bool) (recent : ℕ → Option Kind) (descs parts : StructureSets) (hand : Hand) (frame : FrameHand) (c : Content) (d : DriverContent) (cmd : Command)
    → IsFramedNow base member recent descs parts hand frame c d → d.command ≡ Some cmd → links cmd ≡ true → (cmd ≡ unfinished.Chain → ComesFirst member recent (both descs parts) d d.periodic.list)
    → ComesFirst member recent (both descs parts) d d.periodic.list
comes_first base member recent descs parts hand frame c d unfinished.Chain k is on chain = chain refl
comes_first base member recent descs parts hand frame c d (unfinished.Iso e t count) k is on chain =
    descriptors_come_first base member (met d recent) recent descs parts hand frame c d c.registers.frame_index e t count k.framed.runs k.framed.described k.recent_are k.framed.place.sound.owners
    k.framed.place.lent k.queued is
comes_first base member recent descs parts hand frame c d (unfinished.Unchain e) k is on chain = leaving_come_first member recent (both descs parts) d e k.framed.place.sound.listed is
comes_first base member recent descs parts hand frame c d _ k is on chain = absurd (true≢false (sym on))

pub link_keeps_now : LinkKeepsNow
link_keeps_now base member recent descs parts hand frame c d k why comes =
    let p : Parts = parts_of c d in
    let sound = k.framed.place.sound in
    let later : ℕ → Option Kind = recent_with d.periodic (leaves_now d.periodic.list) recent in
    let l : LinkDriven base member recent descs parts hand frame c d (driver_row p) why.store
    = link_drives base member recent descs parts hand frame c d (driver_row p) (drives_now base member recent descs parts hand frame c d k)
    (begins_there base member recent descs parts hand frame c d k) (now_has_frames base member recent descs parts hand frame c d k) k.apart sound.stands sound.shape sound.owners why
    (command_leads p why.command (record { unfinished = why.unfinished; links = why.links; late = why.late }) sound k.framed.list) (comes_first base member recent descs parts hand frame c d why.command k why.unfinished why.links comes)
    k.chained in
    let descs_then : StructureSets = descs_now descs l.event.now in
    let parts_then : StructureSets = parts_now descs parts l.event.now in
    let told : IsToldBy (views_of d) descs_then parts_then
    = stored_told base member recent descs parts hand frame c d why.store.at why.store.value l.event.now l.event.frame_later k l.event.stored in
    record {
      event = l.event;
      framed = next_now base member recent later descs parts descs_then parts_then hand hand frame l.event.frame_later c d k
          (record {
            runs = l.drives.runs;
            told = store_told p descs_then parts_then (driver_row p) why.store.block why.store.at why.store.value why.is told;
            recent_are = l.drives.recent_are;
            apart = l.event.apart;
          });
    }

-- ---- what was unlinked is given back

descriptor_stands : (p : Parts) (t : ℕ) (o : Option Transfer) (n : ℕ) → standing (after_descriptor p t o).driver n ≡ standing p.driver n
descriptor_stands p t None n = refl
descriptor_stands p t (Some y) n = refl

pub release_keeps_now : ReleaseKeepsNow
release_keeps_now base member recent descs parts hand frame c d t y k is there =
    let p : Parts = parts_of c d in
    let row : DriverRow = rows.ReleaseRemoved (removed.Descriptor t) in
    let sound = k.framed.place.sound in
    let given : IsGivenBack p (removed.Descriptor t) = row_gives_back_passed p (removed.Descriptor t) is in
    let fewer : StructureSets = without_owners descs (begins_at y.first) in
    let told : IsToldBy (views_of d) descs parts = told_now base member recent descs parts hand frame c d k in
    let registers : (after_driver_row row p).registers ≡ c.registers = descriptor_index p t (slice_get d.transfers t) in
    next_now base member recent recent descs parts fewer parts hand hand frame frame c d k
    (subst (RowLeaves base member recent fewer parts hand frame c d) (sym is)
    (record {
      runs = subst (λ (r : RegisterFile). RunsBoth base member (met (driver_after row c d) recent) (both fewer parts) hand frame (record c { registers = r; memory = (after_driver_row row p).memory }))
          (sym registers)
          (release_runs_both base member recent descs parts hand frame c c.registers.frame_index d t y sound.owners sound.listed sound.stands k.recent_are given there told k.framed.runs);
      told = release_told p t y descs parts sound.owners given there told;
      recent_are = subst (λ (r : RegisterFile). AreRecent (driver_after row c d) r.frame_index recent) (sym registers)
          (release_leaves_recent p recent c.registers.frame_index t y given there k.recent_are);
      apart = λ n kind on. descriptor_stands p t (slice_get d.transfers t) n ∙ k.apart n kind on;
    }))

placed_stands : (p : Parts) (e : ℕ) (o : Option Endpoint) (n : ℕ) → standing (after_placed p e o).driver n ≡ standing p.driver n
placed_stands p e None n = refl
placed_stands p e (Some x) n = ap (λ (q : PeriodicContent). standing_in q n) (cancel_same p.driver p.memory e x).periodic

pub waiting_keeps_now : WaitingKeepsNow
waiting_keeps_now base member recent descs parts hand frame c d e x k is there iso =
    let p : Parts = parts_of c d in
    let row : DriverRow = rows.ReleaseRemoved (removed.Endpoint e) in
    let sound = k.framed.place.sound in
    let given : IsGivenBack p (removed.Endpoint e) = row_gives_back_passed p (removed.Endpoint e) is in
    let fewer : StructureSets = without_owners descs (waiting_at d e) in
    let told : IsToldBy (views_of d) descs parts = told_now base member recent descs parts hand frame c d k in
    let registers : (after_driver_row row p).registers ≡ c.registers = placed_index p e (slice_get d.endpoints e) in
    next_now base member recent recent descs parts fewer parts hand hand frame frame c d k
    (subst (RowLeaves base member recent fewer parts hand frame c d) (sym is)
    (record {
      runs = subst (λ (r : RegisterFile). RunsBoth base member (met (driver_after row c d) recent) (both fewer parts) hand frame (record c { registers = r; memory = (after_driver_row row p).memory }))
          (sym registers)
          (waiting_runs_both base member recent descs parts hand frame c c.registers.frame_index d e x sound.owners sound.listed sound.stands k.recent_are given there iso told k.framed.runs);
      told = waiting_told p e x descs parts sound.owners given there iso told;
      recent_are = subst (λ (r : RegisterFile). AreRecent (driver_after row c d) r.frame_index recent) (sym registers)
          (endpoint_leaves_recent p recent c.registers.frame_index e x sound.owners given there k.recent_are);
      apart = λ n kind on. placed_stands p e (slice_get d.endpoints e) n ∙ k.apart n kind on;
    }))
