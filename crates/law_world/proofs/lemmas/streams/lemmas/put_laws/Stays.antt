-- An event of the driver changes no endpoint's description and no transfer's endpoint, and refuses no command.
use Rattle.std.proofs.Common.{◌≡◌, ℕ, zero, suc, ◌-◌, Bool, true, false, ◌||◌, List, [], ◌∷◌, ◌++◌, length, map, slice_get, slice_set, Option, Some, None, ap, sym, subst, refl, ◌∙◌}
use Rattle.std.specs.Prelude.{if◌then◌else◌, nat_eq, nat_le, nat_lt, is_none, take, drop}
use Rattle.std.specs.List.{list_any}
use Rattle.std.proofs.lemmas.Bool.{cond_both}
use Rattle.std.proofs.lemmas.List.Folds.{list_any-append}
use Rattle.law_driver.proofs.Common.{let_go_same}
use Rattle.law_common.proofs.Booleans.{or_false}
use Rattle.law_common.proofs.Lists.{map_set_same}
use Rattle.usb_base.specs.declared.endpoints.EpDesc.{EpDesc}
use Rattle.usb_base.specs.declared.endpoints.EpName.{EpName}
use Rattle.usb_base.specs.declared.endpoints.EndCause.{EndCause}
use Rattle.usb_base.specs.declared.endpoints.EndCause.TheVariants as causes
use Rattle.usb_base.specs.declared.reports.Report.{Report}
use Rattle.usb_base.specs.declared.reports.What.{What}
use Rattle.usb_base.specs.declared.reports.What.TheVariants as lines
use Rattle.word_mem.specs.Memory.{Mem}
use Rattle.mem_runs.specs.Book.{Book, Holding, holding, lend_taken}
use Rattle.drv_periodic_table.specs.declared.content.Removed.{Removed}
use Rattle.drv_periodic_table.specs.declared.content.Removed.TheVariants as removed
use Rattle.drv_periodic_table.specs.Linking.{begun_next}
use Rattle.drv_periodic_table.specs.Periodic.{note_at as periodic_note}
use Rattle.drv_periodic_table.specs.Descriptors.{is_served, errors_in}
use Rattle.drv_periodic_table.specs.declared.content.DescriptorNote.{DescriptorNote}
use Rattle.qh_qtd.specs.declared.token.Token.{Token}
use Rattle.drv_table.specs.declared.content.Endpoint.{Endpoint}
use Rattle.drv_table.specs.declared.content.Transfer.{Transfer}
use Rattle.drv_table.specs.declared.content.QtdNote.{QtdNote}
use Rattle.drv_table.specs.declared.content.Sort.{Sort}
use Rattle.drv_table.specs.declared.content.Sort.TheVariants as sorts
use Rattle.drv_table.specs.declared.content.Command.{Command}
use Rattle.drv_table.specs.declared.content.Command.TheVariants as unfinished
use Rattle.drv_table.specs.declared.rows.DriverRow.{DriverRow}
use Rattle.drv_table.specs.declared.rows.DriverRow.TheVariants as rows
use Rattle.drv_table.specs.declared.rows.Found.{Found}
use Rattle.drv_table.specs.declared.rows.Found.TheVariants as founds
use Rattle.drv_table.specs.DriverContent.{DriverContent, waits_for}
use Rattle.drv_table.specs.Harvests.{reported, noted, note_at, token_in, end_of, is_stall, halt_of, done_of, moved_of, ends_by, found_in}
use Rattle.drv_table.specs.Parts.{Parts}
use Rattle.drv_table.specs.Rows.{driver_row, after_driver_row}
use Rattle.drv_table.specs.Commands.{advance, advanced_by, finished, no_command, leave_ring, leave_frames, events_of, links, removes_members, list_after, linked_on, or_finished}
use Rattle.drv_table.specs.FrameChoice.{framed_by, with_notes, framed_notes, placement_at, linked_by}
use Rattle.drv_table.specs.Releases.{after_transfer, freed_by, after_endpoint, cancel_told, cancelled_bytes, let_go, free_endpoint, is_told, gone_with}
use Rattle.drv_table.specs.Removals.{let_go_waiting, let_go_placed, after_unlink, after_descriptor, after_placed, after_removed, removed_with, free_placed}
use Rattle.drv_table.specs.Kinds.{is_iso}
use Rattle.drv_table.specs.Harvesting.{descriptor_found, found_of, after_harvest, harvested_as, after_end, told_with, stalled, goes_on, behind, behind_one, mends_of, served}
use Rattle.law_driver.specs.run_owners.Due.{IsDue}
use Rattle.law_driver.proofs.lemmas.run_owners.Reasons.{each_event_is_due}
use Rattle.claims_report.specs.Reports.{is_refusal}
use Rattle.claims_report.specs.Streams.{refuses_in}
use Rattle.law_world.proofs.lemmas.streams.lemmas.put_laws.Mapped.{map_same}

abbrev pub desc_at : Endpoint → EpDesc
desc_at x = x.desc

abbrev pub owner_at : Transfer → ℕ
owner_at y = y.endpoint

abbrev pub descs_in : DriverContent → List EpDesc
descs_in d = map desc_at d.endpoints

abbrev pub owners_in : DriverContent → List ℕ
owners_in d = map owner_at d.transfers

abbrev pub refuses : ℕ → List Report → Bool
refuses n reports = list_any (λ (line : Report). refuses_in n line.what) reports

pub record Stays (d c : DriverContent) : Type 0 where
  pub descs : descs_in c ≡ descs_in d
  pub owners : owners_in c ≡ owners_in d
  pub refusals : (n : ℕ) → refuses n c.reports ≡ refuses n d.reports

pub stays_all : (d : DriverContent) → Stays d d
stays_all d = record { descs = refl; owners = refl; refusals = λ n. refl }

-- what has the same of these three
stays_so : (d c : DriverContent) → descs_in c ≡ descs_in d → owners_in c ≡ owners_in d → c.reports ≡ d.reports → Stays d c
stays_so d c descs owners reports = record { descs = descs; owners = owners; refusals = λ n. ap (refuses n) reports }

pub stays_join : (a b c : DriverContent) → Stays a b → Stays b c → Stays a c
stays_join a b c h k = record { descs = k.descs ∙ h.descs; owners = k.owners ∙ h.owners; refusals = λ n. k.refusals n ∙ h.refusals n }

stays_if : (d : DriverContent) (b : Bool) (x y : DriverContent) → Stays d x → Stays d y → Stays d (if b then x else y)
stays_if d true x y h k = h
stays_if d false x y h k = k

-- ---- the report

refuses_none : (n : ℕ) (what : What) → is_refusal what ≡ false → refuses_in n what ≡ false
refuses_none n (lines.Refused line why) is = absurd (cc)
refuses_none n _ is = refl

pub refuses_more : (n : ℕ) (reports : List Report) (line : Report) → refuses n (reports ++ line ∷ []) ≡ (refuses n reports || refuses_in n line.what)
refuses_more n reports line =
    list_any-append (λ (z : Report). refuses_in n z.what) reports (line ∷ []) ∙ ap (λ (b : Bool). refuses n reports || b) (or_false (refuses_in n line.what))

reported_stays : (d : DriverContent) (what : What) (name : EpName) (bytes : List ℕ) → is_refusal what ≡ false → Stays d (reported d what name bytes)
reported_stays d what name bytes plain = record {
  descs = refl;
  owners = refl;
  refusals = λ n. refuses_more n d.reports _ ∙ ap (λ (b : Bool). refuses n d.reports || b) (refuses_none n what plain) ∙ or_false (refuses n d.reports);
}

-- ---- commands

left_stays : (d : DriverContent) (e : ℕ) (o : Option Endpoint) → slice_get d.endpoints e ≡ o → Stays d (leave_ring d e o)
left_stays d e None here = stays_all d
left_stays d e (Some x) here = stays_if d x.linked _ d (stays_so d _ (map_set_same desc_at d.endpoints e x (record x { linked = false }) here refl) refl refl) (stays_all d)

frames_left_stays : (d : DriverContent) (e : ℕ) (o : Option Endpoint) → slice_get d.endpoints e ≡ o → Stays d (leave_frames d e o)
frames_left_stays d e None here = stays_all d
frames_left_stays d e (Some x) here = stays_if d x.chained _ d (stays_so d _ (map_set_same desc_at d.endpoints e x (record x { chained = false }) here refl) refl refl) (stays_all d)

finished_stays : (d : DriverContent) (c : Command) → Stays d (finished d c)
finished_stays d (unfinished.Unlink e b link) = stays_join d (no_command d) _ (stays_so d _ refl refl refl) (left_stays (no_command d) e (slice_get d.endpoints e) refl)
finished_stays d (unfinished.Unchain e) = stays_join d (no_command d) _ (stays_so d _ refl refl refl) (frames_left_stays (no_command d) e (slice_get d.endpoints e) refl)
finished_stays d _ = stays_so d _ refl refl refl

pub or_finished_stays : (d : DriverContent) (c : Command) → Stays d (or_finished d c)
or_finished_stays d c = stays_if d (is_none d.periodic.list.work) (finished d c) d (finished_stays d c) (stays_all d)

linked_stays : (d : DriverContent) (c : Command) → Stays d (linked_on d c)
linked_stays d c =
    let on : DriverContent = record d { made = length (events_of c); periodic = begun_next (removes_members c) (record d.periodic { list = list_after d c }) } in
    stays_join d on _ (stays_so d on refl refl refl) (or_finished_stays on c)

advanced_stays : (d : DriverContent) (c : Option Command) → Stays d (advanced_by d c)
advanced_stays d None = stays_all d
advanced_stays d (Some c) =
    stays_if d (nat_lt (suc d.made) (length (events_of c))) _ (if links c then linked_on d c else finished d c) (stays_so d _ refl refl refl)
    (stays_if d (links c) (linked_on d c) (finished d c) (linked_stays d c) (finished_stays d c))

advance_stays : (d : DriverContent) → Stays d (advance d)
advance_stays d = advanced_stays d d.command

framed_stays : (d : DriverContent) (n : ℕ) (c : Option Command) → Stays d (framed_by d n c)
framed_stays d n (Some (unfinished.Iso e t count)) =
    let with : DriverContent = with_notes d n (take count (drop t d.transfers)) (framed_notes d n e t count (placement_at d e)) in
    stays_join d with _ (stays_so d with refl refl refl) (advance_stays with)
framed_stays d n _ = stays_all d

-- ---- leaving work

transfer_stays : (p : Parts) (t : ℕ) (o : Option Transfer) (h : Holding) → slice_get p.driver.transfers t ≡ o → Stays p.driver (after_transfer p t o h).driver
transfer_stays p t None h here = stays_all p.driver
transfer_stays p t (Some y) h here = stays_so p.driver _ refl (map_set_same owner_at p.driver.transfers t y (record y { released = true }) here refl) refl

let_go_waiting_same : (e : ℕ) (told : Bool) (y : Transfer) → (let_go_waiting e told y).endpoint ≡ y.endpoint
let_go_waiting_same e told y = cond_both (waits_for e y) _ y (λ (z : Transfer). z.endpoint ≡ y.endpoint) (λ _. refl) (λ _. refl)

let_go_placed_same : (iso : Bool) (e : ℕ) (told : Bool) (y : Transfer) → (let_go_placed iso e told y).endpoint ≡ y.endpoint
let_go_placed_same true e told y = let_go_waiting_same e told y
let_go_placed_same false e told y = let_go_same e told y

gone_stays : (d : DriverContent) (e : ℕ) (x : Endpoint) (told : Bool) (book : Book) → slice_get d.endpoints e ≡ Some x → Stays d (gone_with d e x told book)
gone_stays d e x told book here =
    stays_so d _ (map_set_same desc_at d.endpoints e x (record x { gone = true }) here refl)
    (map_same owner_at (let_go e told) d.transfers (let_go_same e told)) refl

removed_stays : (d : DriverContent) (e : ℕ) (x : Endpoint) (told : Bool) (book : Book) → slice_get d.endpoints e ≡ Some x → Stays d (removed_with d e x told book)
removed_stays d e x told book here =
    stays_so d _ (map_set_same desc_at d.endpoints e x (record x { gone = true }) here refl)
    (map_same owner_at (let_go_placed (is_iso x.desc.kind) e told) d.transfers (let_go_placed_same (is_iso x.desc.kind) e told)) refl

-- told or not, and then changed
told_then : (P : DriverContent → Type 0) (d : DriverContent) (b : Bool) (name : EpName) (bytes : List ℕ) → P (reported d lines.Cancel name bytes) → P d
    → P (if b then reported d lines.Cancel name bytes else d)
told_then P d true name bytes h k = h
told_then P d false name bytes h k = k

module _ (p : Parts) (e : ℕ) (x : Endpoint) (here : slice_get p.driver.endpoints e ≡ Some x) where
  bytes : List ℕ
  bytes = cancelled_bytes p.driver.notes p.memory e x.queue p.driver.transfers

  last : Stays p.driver (reported p.driver lines.Cancel x.desc.name bytes)
  last = reported_stays p.driver lines.Cancel x.desc.name bytes refl

  one_gone : (book : Book) → Stays p.driver (gone_with (cancel_told p.driver p.memory e x) e x (is_told x) book)
  unfolding bytes
  one_gone book =
      told_then (λ (d : DriverContent). Stays p.driver (gone_with d e x (is_told x) book)) p.driver (is_told x) x.desc.name bytes
      (stays_join p.driver (reported p.driver lines.Cancel x.desc.name bytes) _ last (gone_stays (reported p.driver lines.Cancel x.desc.name bytes) e x (is_told x) book here))
      (gone_stays p.driver e x (is_told x) book here)

  one_removed : (book : Book) → Stays p.driver (removed_with (cancel_told p.driver p.memory e x) e x (is_told x) book)
  unfolding bytes
  one_removed book =
      told_then (λ (d : DriverContent). Stays p.driver (removed_with d e x (is_told x) book)) p.driver (is_told x) x.desc.name bytes
      (stays_join p.driver (reported p.driver lines.Cancel x.desc.name bytes) _ last (removed_stays (reported p.driver lines.Cancel x.desc.name bytes) e x (is_told x) book here))
      (removed_stays p.driver e x (is_told x) book here)

endpoint_stays : (p : Parts) (e : ℕ) (o : Option Endpoint) → slice_get p.driver.endpoints e ≡ o → Stays p.driver (after_endpoint p e o).driver
endpoint_stays p e None here = stays_all p.driver
endpoint_stays p e (Some x) here = one_gone p e x here (free_endpoint p.driver e x (holding p.driver.book p.memory)).book

placed_stays : (p : Parts) (e : ℕ) (o : Option Endpoint) → slice_get p.driver.endpoints e ≡ o → Stays p.driver (after_placed p e o).driver
placed_stays p e None here = stays_all p.driver
placed_stays p e (Some x) here = one_removed p e x here (free_placed p.driver e x (holding p.driver.book p.memory)).book

unlink_stays : (p : Parts) (t : ℕ) (o : Option Transfer) → Stays p.driver (after_unlink p t o).driver
unlink_stays p t None = stays_all p.driver
unlink_stays p t (Some y) = stays_so p.driver _ refl refl refl

descriptor_stays : (p : Parts) (t : ℕ) (o : Option Transfer) → slice_get p.driver.transfers t ≡ o → Stays p.driver (after_descriptor p t o).driver
descriptor_stays p t None here = stays_all p.driver
descriptor_stays p t (Some y) here = stays_so p.driver _ refl (map_set_same owner_at p.driver.transfers t y (record y { released = true }) here refl) refl

what_stays : (p : Parts) (what : Removed) → Stays p.driver (after_removed p what).driver
what_stays p (removed.Descriptor t) = descriptor_stays p t (slice_get p.driver.transfers t) refl
what_stays p (removed.Endpoint e) = placed_stays p e (slice_get p.driver.endpoints e) refl

-- ---- harvests

one_behind_stays : (d : DriverContent) (e : ℕ) (name : EpName) (k : ℕ) (o : Option Transfer) → slice_get d.transfers k ≡ o → Stays d (behind_one d e name k o)
one_behind_stays d e name k None here = stays_all d
one_behind_stays d e name k (Some y) here =
    stays_if d (waits_for e y) _ d
    (stays_join d (reported d (lines.Halt causes.Stall) name []) _ (reported_stays d (lines.Halt causes.Stall) name [] refl)
    (stays_so (reported d (lines.Halt causes.Stall) name []) _ refl (map_set_same owner_at d.transfers k y (record y { reported = true }) here refl) refl))
    (stays_all d)

behind_stays : (d : DriverContent) (e : ℕ) (name : EpName) (k n : ℕ) → Stays d (behind d e name k n)
unfolding behind
behind_stays d e name k zero = stays_all d
behind_stays d e name k (suc n) =
    stays_join d (behind_one d e name k (slice_get d.transfers k)) _
    (one_behind_stays d e name k (slice_get d.transfers k) refl)
    (behind_stays (behind_one d e name k (slice_get d.transfers k)) e name (suc k) n)

stalled_stays : (d : DriverContent) (e t : ℕ) (x : Endpoint) → slice_get d.endpoints e ≡ Some x → Stays d (stalled d e t x)
stalled_stays d e t x here =
    let first : DriverContent = record d {
      harvested = d.harvested ++ t ∷ [];
      endpoints = slice_set d.endpoints e (record x { next = None });
      mends = d.mends ++ mends_of x;
    } in
    stays_join d first _ (stays_so d first (map_set_same desc_at d.endpoints e x (record x { next = None }) here refl) refl refl) (behind_stays first e x.desc.name (suc t) (length d.transfers - suc t))

end_stays : (d : DriverContent) (e t : ℕ) (x : Endpoint) (stall : Bool) (cause : Option EndCause) → slice_get d.endpoints e ≡ Some x → Stays d (after_end d e t x stall cause)
end_stays d e t x stall (Some cause) here = stays_so d _ (map_set_same desc_at d.endpoints e x (record x { ended = Some cause }) here refl) refl refl
end_stays d e t x stall None here =
    stays_if d stall (stalled d e t x) (goes_on d e t x) (stalled_stays d e t x here) (stays_so d _ (map_set_same desc_at d.endpoints e x _ here refl) refl refl)

told_with_stays : (d : DriverContent) (m : Mem) (t : ℕ) (y : Transfer) (what : What) (name : EpName) (notes : List QtdNote) → is_refusal what ≡ false → slice_get d.transfers t ≡ Some y
    → Stays d (told_with d m t y what name notes)
told_with_stays d m t y what name notes plain there =
    stays_join d (reported d what name _) _ (reported_stays d what name _ plain) (stays_so (reported d what name _) _ refl (map_set_same owner_at d.transfers t y (record y { reported = true }) there refl) refl)

abbrev IsPlainFound : Found → Type 0
IsPlainFound (founds.Ended n what) = is_refusal what ≡ false
IsPlainFound _ = Unit {0}

found_stays : (d : DriverContent) (m : Mem) (e t : ℕ) (x : Endpoint) (y : Transfer) (found : Found) → IsPlainFound found → slice_get d.endpoints e ≡ Some x → slice_get d.transfers t ≡ Some y
    → Stays d (harvested_as d m e t x y found)
found_stays d m e t x y founds.Active plain here there = stays_all d
found_stays d m e t x y (founds.Moved n) plain here there = stays_so d _ refl (map_set_same owner_at d.transfers t y _ there refl) refl
found_stays d m e t x y (founds.Served errors) plain here there =
    stays_join d (reported d (lines.Iso errors) x.desc.name _) _ (reported_stays d (lines.Iso errors) x.desc.name _ refl)
    (stays_so (reported d (lines.Iso errors) x.desc.name _) _ (map_set_same desc_at d.endpoints e x _ here refl) (map_set_same owner_at d.transfers t y (record y { reported = true }) there refl) refl)
found_stays d m e t x y (founds.Ended n what) plain here there =
    stays_join d (told_with d m t y what x.desc.name (noted d.notes y.place n)) _
    (told_with_stays d m t y what x.desc.name (noted d.notes y.place n) plain there)
    (end_stays (told_with d m t y what x.desc.name (noted d.notes y.place n)) e t x (is_stall what) (end_of x.desc.kind what) here)

harvest_stays : (d : DriverContent) (m : Mem) (e t : ℕ) (found : Found) (x : Option Endpoint) (y : Option Transfer) → IsPlainFound found → slice_get d.endpoints e ≡ x → slice_get d.transfers t ≡ y
    → Stays d (after_harvest d m e t found x y)
harvest_stays d m e t found (Some x) (Some y) plain here there =
    stays_if d (waits_for e y) (served (harvested_as d m e t x y found) e) d
    (stays_join d (harvested_as d m e t x y found) _ (found_stays d m e t x y found plain here there) (stays_so (harvested_as d m e t x y found) _ refl refl refl))
    (stays_all d)
harvest_stays d m e t found None y plain here there = stays_all d
harvest_stays d m e t found (Some x) None plain here there = stays_all d

-- ---- what is found refuses nothing

halt_plain : (t : Token) → is_refusal (halt_of t) ≡ false
halt_plain t =
    cond_both t.missed lines.Miss _ (λ (w : What). is_refusal w ≡ false) (λ _. refl)
    (λ _. cond_both t.babble (lines.Halt causes.Babble) _ (λ (w : What). is_refusal w ≡ false) (λ _. refl)
    (λ _. cond_both (nat_eq t.cerr 0) (lines.Halt causes.Error) (lines.Halt causes.Stall) (λ (w : What). is_refusal w ≡ false) (λ _. refl) (λ _. refl)))

done_plain : (last : Bool) (n : ℕ) → IsPlainFound (done_of last n)
done_plain true n = refl
done_plain false n = tt

found_plain : (sort : Sort) (last : Bool) (note : QtdNote) (t : Token) → IsPlainFound (found_in sort last note t)
found_plain sort last note t =
    cond_both t.active founds.Active _ IsPlainFound (λ _. tt)
    (λ _. cond_both t.halted (founds.Ended (moved_of note.told t.total) (halt_of t)) (done_of (ends_by sort last t.total) (moved_of note.told t.total)) IsPlainFound (λ _. halt_plain t)
    (λ _. done_plain (ends_by sort last t.total) (moved_of note.told t.total)))

descriptor_plain : (note : DescriptorNote) (m : Mem) (b : ℕ) → IsPlainFound (descriptor_found note m b)
descriptor_plain note m b = cond_both (is_served note m b) (founds.Served (errors_in note m b)) founds.Active IsPlainFound (λ _. tt) (λ _. tt)

of_plain : (d : DriverContent) (m : Mem) (y : Transfer) (sort : Sort) → IsPlainFound (found_of d m y sort)
of_plain d m y sorts.Descriptor = descriptor_plain (periodic_note d.periodic.notes y.first) m y.first
of_plain d m y sorts.Get = found_plain sorts.Get (nat_le y.left 1) (note_at d.notes y.place) (token_in m y.place)
of_plain d m y sorts.Put = found_plain sorts.Put (nat_le y.left 1) (note_at d.notes y.place) (token_in m y.place)
of_plain d m y sorts.Request = found_plain sorts.Request (nat_le y.left 1) (note_at d.notes y.place) (token_in m y.place)

abbrev IsPlainRow : DriverRow → Type 0
IsPlainRow (rows.Harvest e t found) = IsPlainFound found
IsPlainRow _ = Unit {0}

due_plain : (p : Parts) (row : DriverRow) → IsDue p row → IsPlainRow row
due_plain p (rows.Harvest e t found) due = subst IsPlainFound (sym due.tells) (of_plain p.driver p.memory due.transfer due.transfer.sort)
due_plain p _ due = tt

-- ---- any event

row_stays : (row : DriverRow) (p : Parts) → IsPlainRow row → Stays p.driver (after_driver_row row p).driver
row_stays rows.Lend p plain =
    let lent : DriverContent = record p.driver { book = (lend_taken (holding p.driver.book p.memory)).book } in
    stays_join p.driver lent _ (stays_so p.driver lent refl refl refl) (advance_stays lent)
row_stays (rows.Store b at v) p plain = advance_stays p.driver
row_stays (rows.ReleaseTransfer t) p plain =
    transfer_stays p t (slice_get p.driver.transfers t) (freed_by p.driver (holding p.driver.book p.memory) (slice_get p.driver.transfers t)) refl
row_stays (rows.ReleaseEndpoint e) p plain = endpoint_stays p e (slice_get p.driver.endpoints e) refl
row_stays rows.Frames p plain = framed_stays p.driver p.registers.frame_index p.driver.command
row_stays rows.LendDescriptors p plain =
    let lent : DriverContent = record p.driver { book = (lend_taken (holding p.driver.book (linked_by p.driver p.memory p.driver.command))).book } in
    stays_join p.driver lent _ (stays_so p.driver lent refl refl refl) (advance_stays lent)
row_stays (rows.Unlink t) p plain = unlink_stays p t (slice_get p.driver.transfers t)
row_stays (rows.ReleaseRemoved what) p plain = what_stays p what
row_stays (rows.Harvest e t found) p plain = harvest_stays p.driver p.memory e t found (slice_get p.driver.endpoints e) (slice_get p.driver.transfers t) plain refl refl
row_stays rows.Rest p plain = stays_all p.driver
row_stays _ p plain = stays_so p.driver _ refl refl refl

pub event_stays : (p : Parts) → Stays p.driver (after_driver_row (driver_row p) p).driver
event_stays p = row_stays (driver_row p) p (due_plain p (driver_row p) (each_event_is_due p))
