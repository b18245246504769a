-- An event of the driver leaves its reserve as it was, and each line of the report keeps its bytes.
use Rattle.std.proofs.Common.{◌≡◌, ℕ, zero, suc, ◌+◌, ◌-◌, ◌≤◌, Bool, true, false, List, [], ◌∷◌, ◌++◌, length, slice_get, slice_set, Option, Some, None, refl, ◌∙◌, arith, length-append}
use Rattle.std.specs.Prelude.{if◌then◌else◌, nat_lt, is_none, take, drop}
use Rattle.usb_base.specs.declared.endpoints.EpName.{EpName}
use Rattle.usb_base.specs.declared.endpoints.EndCause.{EndCause}
use Rattle.usb_base.specs.declared.endpoints.EndCause.TheVariants as causes
use Rattle.usb_base.specs.declared.reports.What.{What}
use Rattle.usb_base.specs.declared.reports.What.TheVariants as lines
use Rattle.usb_base.specs.declared.reports.Report.{Report}
use Rattle.report_text.specs.ReportText.{AreStored}
use Rattle.word_mem.specs.Memory.{Mem}
use Rattle.mem_runs.specs.Book.{Book, Holding, holding, lend_taken}
use Rattle.drv_periodic_table.specs.declared.content.Removed.{Removed}
use Rattle.drv_periodic_table.specs.declared.content.Removed.TheVariants as removed
use Rattle.drv_periodic_table.specs.Linking.{begun_next}
use Rattle.drv_table.specs.declared.content.Endpoint.{Endpoint}
use Rattle.drv_table.specs.declared.content.Transfer.{Transfer}
use Rattle.drv_table.specs.declared.content.QtdNote.{QtdNote}
use Rattle.drv_table.specs.declared.content.Command.{Command}
use Rattle.drv_table.specs.declared.content.Command.TheVariants as unfinished
use Rattle.drv_table.specs.declared.rows.DriverRow.{DriverRow}
use Rattle.drv_table.specs.declared.rows.DriverRow.TheVariants as rows
use Rattle.drv_table.specs.declared.rows.Found.{Found}
use Rattle.drv_table.specs.declared.rows.Found.TheVariants as founds
use Rattle.drv_table.specs.DriverContent.{DriverContent, waits_for}
use Rattle.drv_table.specs.Harvests.{reported, noted, end_of, is_stall}
use Rattle.drv_table.specs.Parts.{Parts}
use Rattle.drv_table.specs.Rows.{after_driver_row}
use Rattle.drv_table.specs.Commands.{advance, advanced_by, finished, no_command, leave_ring, leave_frames, events_of, links, removes_members, list_after, linked_on}
use Rattle.drv_table.specs.FrameChoice.{framed_by, with_notes, framed_notes, placement_at, linked_by}
use Rattle.drv_table.specs.Releases.{after_transfer, freed_by, after_endpoint, cancel_told, is_told, gone_with}
use Rattle.drv_table.specs.Removals.{after_unlink, after_descriptor, after_placed, after_removed, removed_with}
use Rattle.drv_table.specs.Harvesting.{after_harvest, harvested_as, after_end, told_with, stalled, goes_on, behind, behind_one, mends_of, served}

-- the reserve stays, and lines keep their bytes
pub record Keeps (d e : DriverContent) : Type 0 where
  pub room : e.room ≡ d.room
  pub stored : AreStored d.reports (length d.store) → AreStored e.reports (length e.store)

keeps_all : (d : DriverContent) → Keeps d d
keeps_all d = record { room = refl; stored = λ h. h }

keeps_join : (a b c : DriverContent) → Keeps a b → Keeps b c → Keeps a c
keeps_join a b c h k = record { room = k.room ∙ h.room; stored = λ s. k.stored (h.stored s) }

keeps_if : (d : DriverContent) (b : Bool) (x y : DriverContent) → Keeps d x → Keeps d y → Keeps d (if b then x else y)
keeps_if d true x y h k = h
keeps_if d false x y h k = k

-- ---- the report

stored_more : (rs : List Report) (n m : ℕ) → n ≤ m → AreStored rs n → AreStored rs m
stored_more [] n m le h = tt
stored_more (r ∷ rs) n m le h = (let e : r.from + r.len ≤ n = h.0 in omega (arith, e, le), stored_more rs n m le h.1)

pub line_stored : (rs : List Report) (r : Report) (n : ℕ) → AreStored rs n → r.from + r.len ≤ n → AreStored (rs ++ r ∷ []) n
line_stored [] r n h k = (k, tt)
line_stored (x ∷ rs) r n h k = (h.0, line_stored rs r n h.1 k)

pub reported_keeps : (d : DriverContent) (what : What) (name : EpName) (bytes : List ℕ) → Keeps d (reported d what name bytes)
reported_keeps d what name bytes =
    let long : length (d.store ++ bytes) ≡ length d.store + length bytes = length-append d.store bytes in
    record {
      room = refl;
      stored = λ h.
          line_stored d.reports _ (length (d.store ++ bytes)) (stored_more d.reports (length d.store) (length (d.store ++ bytes)) (omega (arith, long)) h) (omega (arith, long));
    }

-- ---- commands

left_keeps : (d : DriverContent) (e : ℕ) (x : Option Endpoint) → Keeps d (leave_ring d e x)
left_keeps d e None = keeps_all d
left_keeps d e (Some x) = keeps_if d x.linked _ d (record { room = refl; stored = λ h. h }) (keeps_all d)

frames_left_keeps : (d : DriverContent) (e : ℕ) (x : Option Endpoint) → Keeps d (leave_frames d e x)
frames_left_keeps d e None = keeps_all d
frames_left_keeps d e (Some x) = keeps_if d x.chained _ d (record { room = refl; stored = λ h. h }) (keeps_all d)

finished_keeps : (d : DriverContent) (c : Command) → Keeps d (finished d c)
finished_keeps d (unfinished.Unlink e b link) = keeps_join d (no_command d) _ (record { room = refl; stored = λ h. h }) (left_keeps (no_command d) e (slice_get d.endpoints e))
finished_keeps d (unfinished.Unchain e) =
    keeps_join d (no_command d) _ (record { room = refl; stored = λ h. h }) (frames_left_keeps (no_command d) e (slice_get d.endpoints e))
finished_keeps d _ = record { room = refl; stored = λ h. h }

linked_keeps : (d : DriverContent) (c : Command) → Keeps d (linked_on d c)
linked_keeps d c =
    let on : DriverContent = record d { made = length (events_of c); periodic = begun_next (removes_members c) (record d.periodic { list = list_after d c }) } in
    keeps_join d on _ (record { room = refl; stored = λ h. h }) (keeps_if on (is_none on.periodic.list.work) (finished on c) on (finished_keeps on c) (keeps_all on))

advanced_keeps : (d : DriverContent) (c : Option Command) → Keeps d (advanced_by d c)
advanced_keeps d None = keeps_all d
advanced_keeps d (Some c) =
    keeps_if d (nat_lt (suc d.made) (length (events_of c))) _ (if links c then linked_on d c else finished d c) (record { room = refl; stored = λ h. h })
    (keeps_if d (links c) (linked_on d c) (finished d c) (linked_keeps d c) (finished_keeps d c))

advance_keeps : (d : DriverContent) → Keeps d (advance d)
advance_keeps d = advanced_keeps d d.command

-- the descriptors of a command have their frames
framed_keeps : (d : DriverContent) (n : ℕ) (c : Option Command) → Keeps d (framed_by d n c)
framed_keeps d n (Some (unfinished.Iso e t count)) =
    let with : DriverContent = with_notes d n (take count (drop t d.transfers)) (framed_notes d n e t count (placement_at d e)) in
    keeps_join d with _ (record { room = refl; stored = λ h. h }) (advance_keeps with)
framed_keeps d n _ = keeps_all d

-- ---- leaving work

transfer_keeps : (p : Parts) (t : ℕ) (x : Option Transfer) (h : Holding) → Keeps p.driver (after_transfer p t x h).driver
transfer_keeps p t None h = keeps_all p.driver
transfer_keeps p t (Some x) h = record { room = refl; stored = λ s. s }

told_keeps : (d : DriverContent) (m : Mem) (e : ℕ) (x : Endpoint) → Keeps d (cancel_told d m e x)
told_keeps d m e x = keeps_if d (is_told x) _ d (reported_keeps d lines.Cancel x.desc.name _) (keeps_all d)

gone_keeps : (d : DriverContent) (e : ℕ) (x : Endpoint) (told : Bool) (book : Book) → Keeps d (gone_with d e x told book)
gone_keeps d e x told book = record { room = refl; stored = λ s. s }

endpoint_keeps : (p : Parts) (e : ℕ) (x : Option Endpoint) → Keeps p.driver (after_endpoint p e x).driver
endpoint_keeps p e None = keeps_all p.driver
endpoint_keeps p e (Some x) =
    keeps_join p.driver (cancel_told p.driver p.memory e x) _
    (told_keeps p.driver p.memory e x)
    (gone_keeps (cancel_told p.driver p.memory e x) e x (is_told x) _)

unlink_keeps : (p : Parts) (t : ℕ) (x : Option Transfer) → Keeps p.driver (after_unlink p t x).driver
unlink_keeps p t None = keeps_all p.driver
unlink_keeps p t (Some x) = record { room = refl; stored = λ s. s }

descriptor_keeps : (p : Parts) (t : ℕ) (x : Option Transfer) → Keeps p.driver (after_descriptor p t x).driver
descriptor_keeps p t None = keeps_all p.driver
descriptor_keeps p t (Some x) = record { room = refl; stored = λ s. s }

removed_keeps : (d : DriverContent) (e : ℕ) (x : Endpoint) (told : Bool) (book : Book) → Keeps d (removed_with d e x told book)
removed_keeps d e x told book = record { room = refl; stored = λ s. s }

placed_keeps : (p : Parts) (e : ℕ) (x : Option Endpoint) → Keeps p.driver (after_placed p e x).driver
placed_keeps p e None = keeps_all p.driver
placed_keeps p e (Some x) =
    keeps_join p.driver (cancel_told p.driver p.memory e x) _
    (told_keeps p.driver p.memory e x)
    (removed_keeps (cancel_told p.driver p.memory e x) e x (is_told x) _)

what_keeps : (p : Parts) (what : Removed) → Keeps p.driver (after_removed p what).driver
what_keeps p (removed.Descriptor t) = descriptor_keeps p t (slice_get p.driver.transfers t)
what_keeps p (removed.Endpoint e) = placed_keeps p e (slice_get p.driver.endpoints e)

-- ---- harvests

one_behind_keeps : (d : DriverContent) (e : ℕ) (name : EpName) (k : ℕ) (x : Option Transfer) → Keeps d (behind_one d e name k x)
one_behind_keeps d e name k None = keeps_all d
one_behind_keeps d e name k (Some x) =
    keeps_if d (waits_for e x) _ d
    (keeps_join d (reported d (lines.Halt causes.Stall) name []) _ (reported_keeps d (lines.Halt causes.Stall) name []) (record { room = refl; stored = λ s. s }))
    (keeps_all d)

behind_keeps : (d : DriverContent) (e : ℕ) (name : EpName) (k n : ℕ) → Keeps d (behind d e name k n)
unfolding behind
behind_keeps d e name k zero = keeps_all d
behind_keeps d e name k (suc n) =
    keeps_join d (behind_one d e name k (slice_get d.transfers k)) _
    (one_behind_keeps d e name k (slice_get d.transfers k))
    (behind_keeps (behind_one d e name k (slice_get d.transfers k)) e name (suc k) n)

stalled_keeps : (d : DriverContent) (e t : ℕ) (x : Endpoint) → Keeps d (stalled d e t x)
stalled_keeps d e t x =
    let first : DriverContent = record d {
      harvested = d.harvested ++ t ∷ [];
      endpoints = slice_set d.endpoints e (record x { next = None });
      mends = d.mends ++ mends_of x;
    } in
    keeps_join d first _ (record { room = refl; stored = λ s. s }) (behind_keeps first e x.desc.name (suc t) (length d.transfers - suc t))

end_keeps : (d : DriverContent) (e t : ℕ) (x : Endpoint) (stall : Bool) (cause : Option EndCause) → Keeps d (after_end d e t x stall cause)
end_keeps d e t x stall (Some cause) = record { room = refl; stored = λ s. s }
end_keeps d e t x stall None = keeps_if d stall (stalled d e t x) (goes_on d e t x) (stalled_keeps d e t x) (record { room = refl; stored = λ s. s })

told_with_keeps : (d : DriverContent) (m : Mem) (t : ℕ) (x : Transfer) (what : What) (name : EpName) (notes : List QtdNote) → Keeps d (told_with d m t x what name notes)
told_with_keeps d m t x what name notes =
    keeps_join d (reported d what name _) _ (reported_keeps d what name _) (record { room = refl; stored = λ s. s })

found_keeps : (d : DriverContent) (m : Mem) (e t : ℕ) (x : Endpoint) (y : Transfer) (found : Found) → Keeps d (harvested_as d m e t x y found)
found_keeps d m e t x y founds.Active = keeps_all d
found_keeps d m e t x y (founds.Moved n) = record { room = refl; stored = λ s. s }
found_keeps d m e t x y (founds.Served errors) =
    keeps_join d (reported d (lines.Iso errors) x.desc.name _) _ (reported_keeps d (lines.Iso errors) x.desc.name _) (record { room = refl; stored = λ s. s })
found_keeps d m e t x y (founds.Ended n what) =
    keeps_join d (told_with d m t y what x.desc.name (noted d.notes y.place n)) _
    (told_with_keeps d m t y what x.desc.name (noted d.notes y.place n))
    (end_keeps (told_with d m t y what x.desc.name (noted d.notes y.place n)) e t x (is_stall what) (end_of x.desc.kind what))

harvest_keeps : (d : DriverContent) (m : Mem) (e t : ℕ) (found : Found) (x : Option Endpoint) (y : Option Transfer) → Keeps d (after_harvest d m e t found x y)
harvest_keeps d m e t found (Some x) (Some y) =
    keeps_if d (waits_for e y) (served (harvested_as d m e t x y found) e) d
    (keeps_join d (harvested_as d m e t x y found) _ (found_keeps d m e t x y found) (record { room = refl; stored = λ s. s }))
    (keeps_all d)
harvest_keeps d m e t found None y = keeps_all d
harvest_keeps d m e t found (Some x) None = keeps_all d

-- ---- any event

pub row_keeps : (row : DriverRow) (p : Parts) → Keeps p.driver (after_driver_row row p).driver
row_keeps rows.Lend p =
    let lent : DriverContent = record p.driver { book = (lend_taken (holding p.driver.book p.memory)).book } in
    keeps_join p.driver lent _ (record { room = refl; stored = λ s. s }) (advance_keeps lent)
row_keeps (rows.Store b at v) p = advance_keeps p.driver
row_keeps (rows.ReleaseTransfer t) p =
    transfer_keeps p t (slice_get p.driver.transfers t) (freed_by p.driver (holding p.driver.book p.memory) (slice_get p.driver.transfers t))
row_keeps (rows.ReleaseEndpoint e) p = endpoint_keeps p e (slice_get p.driver.endpoints e)
row_keeps rows.Frames p = framed_keeps p.driver p.registers.frame_index p.driver.command
row_keeps rows.LendDescriptors p =
    let lent : DriverContent = record p.driver { book = (lend_taken (holding p.driver.book (linked_by p.driver p.memory p.driver.command))).book } in
    keeps_join p.driver lent _ (record { room = refl; stored = λ s. s }) (advance_keeps lent)
row_keeps (rows.Unlink t) p = unlink_keeps p t (slice_get p.driver.transfers t)
row_keeps (rows.ReleaseRemoved what) p = what_keeps p what
row_keeps (rows.Harvest e t found) p = harvest_keeps p.driver p.memory e t found (slice_get p.driver.endpoints e) (slice_get p.driver.transfers t)
row_keeps rows.Rest p = keeps_all p.driver
row_keeps _ p = record { room = refl; stored = λ s. s }
