-- Each row changes no field but those of its footprint.
use Rattle.std.proofs.Common.{◌≡◌, ℕ, zero, suc, ◌-◌, Bool, true, false, cond, List, [], ◌∷◌, length, take, drop, slice_get, nat_lt, is_none, Option, Some, None, refl, ap, sym, subst, ◌∙◌}
use Rattle.usb_base.specs.declared.endpoints.EndCause.{EndCause}
use Rattle.usb_base.specs.declared.endpoints.EpName.{EpName}
use Rattle.word_mem.specs.Memory.{Mem}
use Rattle.mem_runs.specs.Book.{Holding, holding, lend_taken, store}
use Rattle.drv_chains.specs.declared.members.Member.{Member}
use Rattle.drv_periodic_table.specs.declared.content.Removed.{Removed}
use Rattle.drv_periodic_table.specs.declared.content.Removed.TheVariants as removed
use Rattle.drv_periodic_table.specs.Periodic.{PeriodicContent}
use Rattle.drv_periodic_table.specs.Linking.{with_first, begun_next}
use Rattle.drv_table.specs.declared.content.Command.{Command}
use Rattle.drv_table.specs.declared.content.Command.TheVariants as unfinished
use Rattle.drv_table.specs.declared.content.Endpoint.{Endpoint}
use Rattle.drv_table.specs.declared.content.Transfer.{Transfer}
use Rattle.drv_table.specs.declared.rows.DriverRow.{DriverRow}
use Rattle.drv_table.specs.declared.rows.DriverRow.TheVariants as rows
use Rattle.drv_table.specs.declared.rows.Found.{Found}
use Rattle.drv_table.specs.declared.rows.Found.TheVariants as founds
use Rattle.drv_table.specs.Commands.{events_of, links, removes_members, no_command, leave_ring, leave_frames, finished, list_after, linked_on, advanced_by}
use Rattle.drv_table.specs.DriverContent.{DriverContent, waits_for}
use Rattle.drv_table.specs.FrameChoice.{framed_by, with_notes, framed_notes, placement_at, linked_by}
use Rattle.drv_table.specs.Harvests.{noted, end_of, is_stall}
use Rattle.drv_table.specs.Harvesting.{told_with, behind_one, behind, stalled, after_end, harvested_as, served, after_harvest}
use Rattle.drv_table.specs.Parts.{Parts}
use Rattle.drv_table.specs.Releases.{after_transfer, freed_by, is_told, cancel_told, free_endpoint, gone_with, after_endpoint}
use Rattle.drv_table.specs.Removals.{after_unlink, after_descriptor, free_placed, removed_with, after_placed, after_removed}
use Rattle.drv_table.specs.Rows.{after_driver_row}
use Rattle.law_footprints.specs.Footprint.{Footprint, nothing, merged_periodic, merged_driver, merged, DriverStays, Stays, command_footprint, framed_footprint, harvest_footprint, removed_footprint, footprint}

-- ---- three rules: the same in another form; either of two; one after the other. Their last premises are `refl` where m's footprint
-- computes

module _ {S : Type 0} (m : S → S → S) where
  pub same_as : (old x y : S) → x ≡ y → y ≡ m old y → x ≡ m old x
  same_as old x y e q = e ∙ (q ∙ ap (m old) (sym e))

  pub either : (old x y : S) (b : Bool) → x ≡ m old x → y ≡ m old y → cond b x y ≡ m old (cond b x y)
  either old x y true one two = one
  either old x y false one two = two

  pub after : (old mid x : S) → x ≡ m mid x → mid ≡ m old mid → m (m old mid) x ≡ m old x → x ≡ m old x
  after old mid x e before q = e ∙ (ap (λ (s : S). m s x) before ∙ q)

-- ---- the command goes on

abbrev pub linking : Footprint
linking = record nothing { list = true; queued = true }

pub begun_stays : (r : Bool) (q : PeriodicContent) → begun_next r q ≡ merged_periodic linking q (begun_next r q)
begun_stays r q = by (is_none q.list.work) q.queued
  where
    by : (b : Bool) (ms : List Member) → cond b (with_first r q ms) q ≡ merged_periodic linking q (cond b (with_first r q ms) q)
    by true [] = refl
    by true (m ∷ ms) = refl
    by false ms = refl

abbrev off_ring : Footprint
off_ring = record nothing { waiting = true; endpoints = true }

ring_stays : (d : DriverContent) (e : ℕ) (o : Option Endpoint) → DriverStays off_ring d (leave_ring d e o)
ring_stays d e None = refl
ring_stays d e (Some x) = either (merged_driver off_ring) d _ d x.linked refl refl

abbrev off_frames : Footprint
off_frames = record nothing { removals = true; endpoints = true }

frames_stay : (d : DriverContent) (e : ℕ) (o : Option Endpoint) → DriverStays off_frames d (leave_frames d e o)
frames_stay d e None = refl
frames_stay d e (Some x) = either (merged_driver off_frames) d _ d x.chained refl refl

-- with what one more event of the command may change of the driver
abbrev by_command : Command → DriverContent → DriverContent → DriverContent
by_command c = merged_driver (command_footprint (Some c))

pub done_stays : (d : DriverContent) (c : Command) → DriverStays (command_footprint (Some c)) d (finished d c)
done_stays d (unfinished.Unlink e b link) =
    same_as (by_command (unfinished.Unlink e b link)) d _ _ (ring_stays (no_command d) e (slice_get d.endpoints e)) refl
done_stays d (unfinished.Unchain e) =
    same_as (by_command (unfinished.Unchain e)) d _ _ (frames_stay (no_command d) e (slice_get d.endpoints e)) refl
done_stays d c = refl

-- with the list after a store of it, and the next member begun
abbrev pub listed : DriverContent → Command → DriverContent
listed d c =
    record d { made = length (events_of c); periodic = begun_next (removes_members c) (record d.periodic { list = list_after d c }) }

listed_stays : (d : DriverContent) (c : Command) → DriverStays (record linking { made = true }) d (listed d c)
listed_stays d c =
    let begun = begun_stays (removes_members c) (record d.periodic { list = list_after d c }) in
    same_as (merged_driver (record linking { made = true })) d (listed d c) _
    (ap (λ (q : PeriodicContent). record d { made = length (events_of c); periodic = q }) begun) refl

linked_stays : (d : DriverContent) (c : Command) → links c ≡ true → DriverStays (command_footprint (Some c)) d (linked_on d c)
linked_stays d (unfinished.Open queue) is = absurd (cc)
linked_stays d (unfinished.Publish b words) is = absurd (cc)
linked_stays d (unfinished.Unlink e b link) is = absurd (cc)
linked_stays d c is =
    let m = by_command c in
    let l = listed d c in
    let first = same_as m d l _ (listed_stays d c) refl in
    either m d (finished l c) l (is_none l.periodic.list.work) (after m d l (finished l c) (done_stays l c) first refl) first

abbrev one_more : DriverContent → DriverContent
one_more d = record d { made = suc d.made }

-- one event more, or the last
moves : (d : DriverContent) (c : Command) (x : DriverContent) → one_more d ≡ by_command c d (one_more d) → x ≡ by_command c d x
    → DriverStays (command_footprint (Some c)) d (cond (nat_lt (suc d.made) (length (events_of c))) (one_more d) x)
moves d c x one two = either (by_command c) d (one_more d) x (nat_lt (suc d.made) (length (events_of c))) one two

pub advanced_stays : (d : DriverContent) (o : Option Command) → DriverStays (command_footprint o) d (advanced_by d o)
advanced_stays d None = refl
advanced_stays d (Some (unfinished.Open queue)) = moves d (unfinished.Open queue) (finished d (unfinished.Open queue)) refl refl
advanced_stays d (Some (unfinished.Publish b words)) =
    moves d (unfinished.Publish b words) (finished d (unfinished.Publish b words)) refl refl
advanced_stays d (Some (unfinished.Unlink e b link)) =
    let c = unfinished.Unlink e b link in
    moves d c (finished d c) refl (done_stays d c)
advanced_stays d (Some c) = moves d c (linked_on d c) refl (linked_stays d c refl)

abbrev lending : Option Command → Footprint
lending o = record (command_footprint o) { book = true; memory = true }

abbrev lent : Parts → Holding → Option Command → Parts
lent p h o = record p { driver = advanced_by (record p.driver { book = h.book }) o; memory = h.memory }

stepped : (p : Parts) (h : Holding) (o : Option Command) → Stays (lending o) p (lent p h o)
stepped p h (Some (unfinished.Open queue)) =
    same_as (merged (lending (Some (unfinished.Open queue)))) p _ _
    (ap (λ (x : DriverContent). record p { driver = x; memory = h.memory })
    (advanced_stays (record p.driver { book = h.book }) (Some (unfinished.Open queue)))) refl
stepped p h o =
    same_as (merged (lending o)) p _ _
    (ap (λ (x : DriverContent). record p { driver = x; memory = h.memory }) (advanced_stays (record p.driver { book = h.book }) o)) refl

abbrev storing : Option Command → Footprint
storing o = record (command_footprint o) { memory = true }

abbrev stored_with : Parts → Mem → Option Command → Parts
stored_with p m o = record p { driver = advanced_by p.driver o; memory = m }

stored : (p : Parts) (m : Mem) (o : Option Command) → Stays (storing o) p (stored_with p m o)
stored p m (Some (unfinished.Open queue)) =
    same_as (merged (storing (Some (unfinished.Open queue)))) p _ _
    (ap (λ (x : DriverContent). record p { driver = x; memory = m }) (advanced_stays p.driver (Some (unfinished.Open queue)))) refl
stored p m o =
    same_as (merged (storing o)) p _ _ (ap (λ (x : DriverContent). record p { driver = x; memory = m }) (advanced_stays p.driver o)) refl

abbrev with_driver : Parts → DriverContent → Parts
with_driver p d = record p { driver = d }

-- the command's descriptors get their frames
framed : (p : Parts) (o : Option Command) → p.driver.command ≡ o
    → Stays (framed_footprint o) p (with_driver p (framed_by p.driver p.registers.frame_index o))
framed p (Some (unfinished.Iso e t count)) is =
    let d = p.driver in
    let f = framed_footprint (Some (unfinished.Iso e t count)) in
    let n = p.registers.frame_index in
    let w = with_notes d n (take count (drop t d.transfers)) (framed_notes d n e t count (placement_at d e)) in
    subst (λ (c : Option Command). Stays f p (with_driver p (advanced_by w c))) (sym is)
    (same_as (merged f) p _ _ (ap (with_driver p) (advanced_stays w (Some (unfinished.Iso e t count)))) refl)
framed p o is = refl

-- ---- what is given back

abbrev pub telling : Footprint
telling = record nothing { reports = true; store = true }

pub cancel_stays : (d : DriverContent) (m : Mem) (e : ℕ) (x : Endpoint) → DriverStays telling d (cancel_told d m e x)
cancel_stays d m e x = either (merged_driver telling) d _ d (is_told x) refl refl

transfer_stays : (p : Parts) (t : ℕ) (o : Option Transfer) (h : Holding)
    → Stays (footprint (rows.ReleaseTransfer t) None) p (after_transfer p t o h)
transfer_stays p t None h = refl
transfer_stays p t (Some x) h = refl

unlink_stays : (p : Parts) (t : ℕ) (o : Option Transfer) → Stays (footprint (rows.Unlink t) None) p (after_unlink p t o)
unlink_stays p t None = refl
unlink_stays p t (Some x) = refl

descriptor_stays : (p : Parts) (t : ℕ) (o : Option Transfer) → Stays (removed_footprint (removed.Descriptor t)) p (after_descriptor p t o)
descriptor_stays p t None = refl
descriptor_stays p t (Some x) = refl

endpoint_stays : (p : Parts) (e : ℕ) (o : Option Endpoint) → Stays (footprint (rows.ReleaseEndpoint e) None) p (after_endpoint p e o)
endpoint_stays p e None = refl
endpoint_stays p e (Some x) =
    let h = free_endpoint p.driver e x (holding p.driver.book p.memory) in
    same_as (merged (footprint (rows.ReleaseEndpoint e) None)) p _ _
    (ap (λ (d : DriverContent). record p { driver = gone_with d e x (is_told x) h.book; memory = h.memory })
    (cancel_stays p.driver p.memory e x)) refl

placed_stays : (p : Parts) (e : ℕ) (o : Option Endpoint) → Stays (removed_footprint (removed.Endpoint e)) p (after_placed p e o)
placed_stays p e None = refl
placed_stays p e (Some x) =
    let h = free_placed p.driver e x (holding p.driver.book p.memory) in
    same_as (merged (removed_footprint (removed.Endpoint e))) p _ _
    (ap (λ (d : DriverContent). record p { driver = removed_with d e x (is_told x) h.book; memory = h.memory })
    (cancel_stays p.driver p.memory e x)) refl

removed_stays : (p : Parts) (what : Removed) → Stays (removed_footprint what) p (after_removed p what)
removed_stays p (removed.Descriptor t) = descriptor_stays p t (slice_get p.driver.transfers t)
removed_stays p (removed.Endpoint e) = placed_stays p e (slice_get p.driver.endpoints e)

-- ---- a harvest

abbrev ends_behind : Footprint
ends_behind = record nothing { reports = true; store = true; transfers = true; harvested = true }

one_behind : (d : DriverContent) (e : ℕ) (name : EpName) (k : ℕ) (o : Option Transfer) → DriverStays ends_behind d (behind_one d e name k o)
one_behind d e name k None = refl
one_behind d e name k (Some x) = either (merged_driver ends_behind) d _ d (waits_for e x) refl refl

pub all_behind : (d : DriverContent) (e : ℕ) (name : EpName) (k n : ℕ) → DriverStays ends_behind d (behind d e name k n)
unfolding behind
all_behind d e name k zero = refl
all_behind d e name k (suc n) =
    let next = behind_one d e name k (slice_get d.transfers k) in
    after (merged_driver ends_behind) d next (behind next e name (suc k) n) (all_behind next e name (suc k) n)
    (one_behind d e name k (slice_get d.transfers k)) refl

abbrev ending : Footprint
ending = record nothing { reports = true; store = true; transfers = true; endpoints = true; harvested = true; mends = true }

end_stays : (d : DriverContent) (e t : ℕ) (x : Endpoint) (stall : Bool) (o : Option EndCause)
    → DriverStays ending d (after_end d e t x stall o)
end_stays d e t x stall (Some cause) = refl
end_stays d e t x true None =
    same_as (merged_driver ending) d (stalled d e t x) _ (all_behind _ e x.desc.name (suc t) (length d.transfers - suc t)) refl
end_stays d e t x false None = refl

abbrev Reads : Found → DriverContent → DriverContent → Type 0
Reads found old new = DriverStays (harvest_footprint found) old new

pub read_stays : (d : DriverContent) (m : Mem) (e t : ℕ) (x : Endpoint) (y : Transfer) (found : Found)
    → Reads found d (harvested_as d m e t x y found)
read_stays d m e t x y (founds.Ended n what) =
    same_as (merged_driver (harvest_footprint (founds.Ended n what))) d (harvested_as d m e t x y (founds.Ended n what)) _
    (end_stays (told_with d m t y what x.desc.name (noted d.notes y.place n)) e t x (is_stall what) (end_of x.desc.kind what)) refl
read_stays d m e t x y found = refl

-- one of two contents, beside the registers and the memory as they were
waits : (p : Parts) (found : Found) (b : Bool) (new : DriverContent) → Reads found p.driver new → Reads found p.driver p.driver
    → with_driver p (merged_driver (harvest_footprint found) p.driver (cond b new p.driver))
    ≡ merged (harvest_footprint found) p (with_driver p (cond b new p.driver))
    → Stays (harvest_footprint found) p (with_driver p (cond b new p.driver))
waits p found b new stays same lifts =
    ap (with_driver p) (either (merged_driver (harvest_footprint found)) p.driver new p.driver b stays same) ∙ lifts

abbrev read_by : Parts → ℕ → ℕ → Found → Endpoint → Transfer → DriverContent
read_by p e t found x y = served (harvested_as p.driver p.memory e t x y found) e

harvested : (p : Parts) (e t : ℕ) (found : Found) (x : Endpoint) (y : Transfer) → Reads found p.driver (read_by p e t found x y)
    → Stays (harvest_footprint found) p (with_driver p (cond (waits_for e y) (read_by p e t found x y) p.driver))
harvested p e t founds.Active x y stays = waits p founds.Active (waits_for e y) (served p.driver e) stays refl refl
harvested p e t found x y stays = waits p found (waits_for e y) (read_by p e t found x y) stays refl refl

harvest_stays : (p : Parts) (e t : ℕ) (found : Found) (o : Option Endpoint) (q : Option Transfer)
    → Stays (harvest_footprint found) p (with_driver p (after_harvest p.driver p.memory e t found o q))
harvest_stays p e t founds.Active (Some x) (Some y) =
    harvested p e t founds.Active x y (same_as (merged_driver (harvest_footprint founds.Active)) p.driver _ _ refl refl)
harvest_stays p e t found (Some x) (Some y) =
    harvested p e t found x y
    (same_as (merged_driver (harvest_footprint found)) p.driver (read_by p e t found x y) _
    (ap (λ (d : DriverContent). served d e) (read_stays p.driver p.memory e t x y found)) refl)
harvest_stays p e t founds.Active o q = refl
harvest_stays p e t found o q = refl

-- ---- any event

pub frame : (row : DriverRow) (p : Parts) (o : Option Command) → p.driver.command ≡ o
    → Stays (footprint row o) p (after_driver_row row p)
frame rows.Lend p o is =
    let h = lend_taken (holding p.driver.book p.memory) in
    subst (λ (c : Option Command). Stays (lending o) p (lent p h c)) (sym is) (stepped p h o)
frame (rows.Store b at v) p o is =
    let m = store p.driver.book p.memory b at v in
    subst (λ (c : Option Command). Stays (storing o) p (stored_with p m c)) (sym is) (stored p m o)
frame rows.Frames p o is =
    let n = p.registers.frame_index in
    subst (λ (c : Option Command). Stays (framed_footprint o) p (with_driver p (framed_by p.driver n c))) (sym is) (framed p o is)
frame rows.LendDescriptors p o is =
    let h = lend_taken (holding p.driver.book (linked_by p.driver p.memory p.driver.command)) in
    subst (λ (c : Option Command). Stays (lending o) p (lent p h c)) (sym is) (stepped p h o)
frame (rows.Unlink t) p o is = unlink_stays p t (slice_get p.driver.transfers t)
frame (rows.ReleaseRemoved what) p o is = removed_stays p what
frame (rows.ReleaseTransfer t) p o is =
    let x = slice_get p.driver.transfers t in
    transfer_stays p t x (freed_by p.driver (holding p.driver.book p.memory) x)
frame (rows.ReleaseEndpoint e) p o is = endpoint_stays p e (slice_get p.driver.endpoints e)
frame (rows.Harvest e t found) p o is = harvest_stays p e t found (slice_get p.driver.endpoints e) (slice_get p.driver.transfers t)
frame row p o is = refl

-- .. and so none but those of a wider footprint g; `refl` for the last premise where row and g are given
pub wider : (g : Footprint) (row : DriverRow) (p : Parts) (o : Option Command) → p.driver.command ≡ o
    → merged (footprint row o) p (after_driver_row row p) ≡ merged g p (merged (footprint row o) p (after_driver_row row p))
    → Stays g p (after_driver_row row p)
wider g row p o is within =
    same_as (merged g) p (after_driver_row row p) (merged (footprint row o) p (after_driver_row row p)) (frame row p o is) within
