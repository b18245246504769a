-- What each event of the driver and each accepted command leaves of those that wait, are rung or cleared, of the bell, and of what left the frame list.
use Rattle.std.proofs.Common.{◌≡◌, ℕ, zero, suc, Bool, true, false, List, [], ◌∷◌, ◌++◌, length, take, drop, map, slice_get, set, Option}
use Rattle.std.proofs.Common.{Some, None, cond, is_none, nat_lt, nat_le, ◌&&◌, ap, refl, sym, subst, ◌∙◌}
use Rattle.std.specs.List.{AllByRecursion}
use Rattle.std.specs.Prelude.{if◌then◌else◌, slice_set}
use Rattle.law_descriptors.proofs.Common.{next_removals}
use Rattle.law_common.proofs.Lists.{all_both, all_more, set_here}
use Rattle.usb_base.specs.declared.commands.Cmd.{Cmd}
use Rattle.usb_base.specs.declared.commands.Cmd.TheVariants as commands
use Rattle.usb_base.specs.declared.reports.What.TheVariants as lines
use Rattle.word_mem.specs.Memory.{Mem}
use Rattle.mem_runs.specs.Book.{Book, Holding, holding, lend_taken}
use Rattle.drv_periodic.specs.Periodic.{Periodic}
use Rattle.drv_chains.specs.declared.members.Member.{Member}
use Rattle.bandwidth.specs.declared.placements.Placement.{Placement}
use Rattle.drv_periodic_table.specs.declared.content.DescriptorNote.{DescriptorNote}
use Rattle.drv_periodic_table.specs.declared.content.Removal.{Removal}
use Rattle.drv_periodic_table.specs.declared.content.Removed.{Removed}
use Rattle.drv_periodic_table.specs.declared.content.Removed.TheVariants as removed
use Rattle.drv_periodic_table.specs.Linking.{begun_next}
use Rattle.drv_periodic_table.specs.Periodic.{PeriodicContent, read_once, read_again}
use Rattle.drv_table.specs.declared.content.Bell.{Bell}
use Rattle.drv_table.specs.declared.content.Bell.TheVariants as bells
use Rattle.drv_table.specs.declared.content.Command.{Command}
use Rattle.drv_table.specs.declared.content.Command.TheVariants as unfinished
use Rattle.drv_table.specs.declared.content.Endpoint.{Endpoint}
use Rattle.drv_table.specs.declared.content.Transfer.{Transfer}
use Rattle.drv_table.specs.declared.rows.DriverRow.{DriverRow}
use Rattle.drv_table.specs.declared.rows.DriverRow.TheVariants as rows
use Rattle.drv_table.specs.DriverContent.{DriverContent}
use Rattle.drv_table.specs.Accepting.{Offered}
use Rattle.drv_table.specs.CancelOffers.{with_cancel, accepted_unchain, first_end}
use Rattle.drv_table.specs.Commands.{events_of, links, finished, no_command, leave_ring, leave_frames, linked_on, list_after, or_finished}
use Rattle.drv_table.specs.Commands.{advanced_by, advance, removal_of, removes_members}
use Rattle.drv_table.specs.FrameChoice.{framed_by, framed_notes, linked_by, with_notes, placement_at}
use Rattle.drv_table.specs.Parts.{Parts}
use Rattle.drv_table.specs.Harvests.{reported}
use Rattle.drv_table.specs.Releases.{after_endpoint, cancel_told, cancelled_bytes, is_told}
use Rattle.drv_table.specs.Removals.{after_unlink, after_descriptor, after_placed}
use Rattle.drv_table.specs.Rows.{after_driver_row}
use Rattle.law_footprints.specs.Footprint.{footprint, offer_footprint}
use Rattle.law_footprints.proofs.Fields.{waiting_stays, rung_stays, cleared_stays, bell_stays, removals_stays}
use Rattle.claims_world.specs.Releases.{LeavesRing, LeavesFrames, frindex_read}

abbrev All : {X : Type 0} → (X → Type 0) → List X → Type 0
All P xs = AllByRecursion P xs

all_less : {X : Type 0} (P : X → Type 0) (xs : List X) → All P xs → All P (drop 1 xs)
all_less P [] all = tt
all_less P (x ∷ xs) all = all.1

-- ---- those that wait for a doorbell

module _ (P : ℕ → Type 0) where
  left_by : (d : DriverContent) (e : ℕ) (x : Endpoint) (on : Bool) → x.linked ≡ on → slice_get d.endpoints e ≡ Some x
      → (LeavesRing d.endpoints (if on then record d {
        waiting = d.waiting ++ e ∷ [];
        endpoints = slice_set d.endpoints e
            (record x { linked = false });
      } else d).endpoints e → P e)
      → All P d.waiting
      → All P (if on then record d {
        waiting = d.waiting ++ e ∷ [];
        endpoints = slice_set d.endpoints e
            (record x { linked = false });
      } else d).waiting
  left_by d e x true is here new w =
      all_both P d.waiting (e ∷ []) w (
        new
            (record {
              before = x;
              after = record x { linked = false };
              here = here;
              linked = is;
              there = set_here d.endpoints e x
                  (record x { linked = false }) here;
              unlinked = refl;
            }),
        tt,
      )
  left_by d e x false is here new w = w

  left_ring : (d : DriverContent) (e : ℕ) (o : Option Endpoint) → slice_get d.endpoints e ≡ o
      → (LeavesRing d.endpoints (leave_ring d e o).endpoints e → P e) → All P d.waiting → All P (leave_ring d e o).waiting
  left_ring d e None here new w = w
  left_ring d e (Some x) here new w = left_by d e x x.linked refl here new w

  unlink_by : (d : DriverContent) (e b link : ℕ) (more : Bool)
      → (LeavesRing d.endpoints (if more then record d { made = suc d.made } else finished d (unfinished.Unlink e b link)).endpoints e
      → P e)
      → All P d.waiting → All P (if more then record d { made = suc d.made } else finished d (unfinished.Unlink e b link)).waiting
  unlink_by d e b link true new w = w
  unlink_by d e b link false new w = left_ring (no_command d) e (slice_get d.endpoints e) refl new w

  unlinked : (d : DriverContent) (e b link : ℕ) → d.command ≡ Some (unfinished.Unlink e b link)
      → ((f : ℕ) → LeavesRing d.endpoints (advance d).endpoints f → P f) → All P d.waiting → All P (advance d).waiting
  unlinked d e b link is =
      subst (λ (o : Option Command). ((f : ℕ) → LeavesRing d.endpoints (advanced_by d o).endpoints f → P f) → All P d.waiting
      → All P (advanced_by d o).waiting) (sym is)
      (λ new w. unlink_by d e b link (nat_lt (suc d.made) (length (events_of (unfinished.Unlink e b link)))) (new e) w)

  lent_unlinked : (d : DriverContent) (k : Book) (e b link : ℕ) → d.command ≡ Some (unfinished.Unlink e b link)
      → ((f : ℕ) → LeavesRing d.endpoints (advance (record d { book = k })).endpoints f → P f)
      → All P d.waiting → All P (advance (record d { book = k })).waiting
  lent_unlinked d k e b link is new w =
      unlinked (record d { book = k }) e b link is new w

  pub waiting_then : (row : DriverRow) (p : Parts) (o : Option Command) → p.driver.command ≡ o
      → ((f : ℕ) → LeavesRing p.driver.endpoints (after_driver_row row p).driver.endpoints f → P f)
      → All P p.driver.waiting → All P (after_driver_row row p).driver.waiting
  waiting_then rows.Lend p (Some (unfinished.Unlink e b link)) is new w = lent_unlinked p.driver
      (lend_taken (holding p.driver.book p.memory)).book e b link is new w
  waiting_then (rows.Store c at v) p (Some (unfinished.Unlink e b link)) is new w = unlinked p.driver e b link is new w
  waiting_then rows.LendDescriptors p (Some (unfinished.Unlink e b link)) is new w =
      lent_unlinked p.driver (lend_taken (holding p.driver.book (linked_by p.driver p.memory p.driver.command))).book e b link is new w
  waiting_then rows.RingBell p o is new w = tt
  waiting_then row p o is new w = subst (All P) (sym (waiting_stays row p o is refl)) w

  -- ---- those for which it was rung

  pub rung_then : (row : DriverRow) (p : Parts) → (row ≡ rows.RingBell → All P p.driver.waiting) → All P p.driver.rung
      → All P (after_driver_row row p).driver.rung
  rung_then rows.RingBell p rings rung = all_both P p.driver.rung p.driver.waiting rung (rings refl)
  rung_then rows.ClearAdvance p rings rung = tt
  rung_then row p rings rung = subst (All P) (sym (rung_stays row p p.driver.command refl refl)) rung

  -- ---- those whose Async Advance was cleared

  told_by : (b : Bool) (d told : DriverContent) → told.cleared ≡ d.cleared → (if b then told else d).cleared ≡ d.cleared
  told_by true d told same = same
  told_by false d told same = refl

  told_cleared : (d : DriverContent) (m : Mem) (e : ℕ) (x : Endpoint) → (cancel_told d m e x).cleared ≡ d.cleared
  told_cleared d m e x = told_by (is_told x) d (reported d lines.Cancel x.desc.name (cancelled_bytes d.notes m e x.queue d.transfers)) refl

  endpoint_cleared : (p : Parts) (e : ℕ) (o : Option Endpoint) → All P p.driver.cleared → All P (after_endpoint p e o).driver.cleared
  endpoint_cleared p e None cleared = cleared
  endpoint_cleared p e (Some x) cleared = subst (λ (xs : List ℕ). All P (drop 1 xs)) (sym (told_cleared p.driver p.memory e x))
      (all_less P p.driver.cleared cleared)

  pub cleared_then : (row : DriverRow) (p : Parts) → (row ≡ rows.ClearAdvance → All P p.driver.rung) → All P p.driver.cleared
      → All P (after_driver_row row p).driver.cleared
  cleared_then rows.ClearAdvance p clears cleared = all_both P p.driver.cleared p.driver.rung cleared (clears refl)
  cleared_then (rows.ReleaseEndpoint e) p clears cleared = endpoint_cleared p e (slice_get p.driver.endpoints e) cleared
  cleared_then row p clears cleared = subst (All P) (sym (cleared_stays row p p.driver.command refl refl)) cleared

-- ---- the bell

-- it is heard where it was, with the same rung, or where Async Advance was just read
pub heard_then : (row : DriverRow) (p : Parts) (P Q : ℕ → Type 0) → ((e : ℕ) → P e → Q e)
    → (p.driver.bell ≡ bells.Heard → All P p.driver.rung) → (row ≡ rows.ReadStatus true → All Q p.driver.rung)
    → (after_driver_row row p).driver.bell ≡ bells.Heard → All Q (after_driver_row row p).driver.rung
heard_then rows.RingBell p P Q more was now is = cc is
heard_then rows.ClearAdvance p P Q more was now is = tt
heard_then (rows.ReadStatus true) p P Q more was now is = now refl
heard_then (rows.ReadStatus false) p P Q more was now is = cc is
heard_then row p P Q more was now is =
    subst (All Q) (sym (rung_stays row p p.driver.command refl refl))
    (all_more P Q p.driver.rung more (was (sym (bell_stays row p p.driver.command refl refl) ∙ is)))

-- ---- what left the frame list

abbrev frames_out : DriverContent → ℕ → Endpoint → Bool → DriverContent
frames_out d e x on = cond on (record d {
  endpoints = slice_set d.endpoints e (record x { chained = false });
  periodic = record d.periodic { removals = d.periodic.removals ++ removal_of (removed.Endpoint e) ∷ [] };
}) d

-- what holds of each then: of those that were there, and of an endpoint that leaves its frames
module _ (P : Removal → Type 0) where
  abbrev NewGone : List Endpoint → List Endpoint → ℕ → Type 0
  NewGone xs ys e = LeavesFrames xs ys e → P (removal_of (removed.Endpoint e))

  gone_from : (d : DriverContent) (e : ℕ) (x : Endpoint) (on : Bool) → x.chained ≡ on → slice_get d.endpoints e ≡ Some x
      → NewGone d.endpoints (frames_out d e x on).endpoints e → All P d.periodic.removals → All P (frames_out d e x on).periodic.removals
  gone_from d e x true is here new r =
      all_both P d.periodic.removals (removal_of (removed.Endpoint e) ∷ []) r (
        new (record {
          before = x;
          after = record x { chained = false };
          here = here;
          linked = is;
          there = set_here d.endpoints e x
              (record x { chained = false }) here;
          unlinked = refl;
        }),
        tt,
      )
  gone_from d e x false is here new r = r

  left_frames : (d : DriverContent) (e : ℕ) (o : Option Endpoint) → slice_get d.endpoints e ≡ o
      → NewGone d.endpoints (leave_frames d e o).endpoints e
      → All P d.periodic.removals → All P (leave_frames d e o).periodic.removals
  left_frames d e None here new r = r
  left_frames d e (Some x) here new r = gone_from d e x x.chained refl here new r

  finished_by : (d : DriverContent) (e : ℕ) (over : Bool) → NewGone d.endpoints
      (cond over (finished d (unfinished.Unchain e)) d).endpoints e
      → All P d.periodic.removals → All P (cond over (finished d (unfinished.Unchain e)) d).periodic.removals
  finished_by d e true new r = left_frames (no_command d) e (slice_get d.endpoints e) refl new r
  finished_by d e false new r = r

  linked_unchain : (d : DriverContent) (e : ℕ) → NewGone d.endpoints (linked_on d (unfinished.Unchain e)).endpoints e
      → All P d.periodic.removals → All P (linked_on d (unfinished.Unchain e)).periodic.removals
  linked_unchain d e new r =
      let q : PeriodicContent = record d.periodic { list = list_after d (unfinished.Unchain e) } in
      let h : DriverContent = record d { made = length (events_of (unfinished.Unchain e)); periodic = begun_next true q } in
      finished_by h e (is_none h.periodic.list.work) new (subst (All P) (sym (next_removals true q)) r)

  unchain_by : (d : DriverContent) (e : ℕ) (more : Bool) → NewGone d.endpoints
      (cond more (record d { made = suc d.made }) (linked_on d (unfinished.Unchain e))).endpoints e
      → All P d.periodic.removals
      → All P (cond more (record d { made = suc d.made }) (linked_on d (unfinished.Unchain e))).periodic.removals
  unchain_by d e true new r = r
  unchain_by d e false new r = linked_unchain d e new r

  unchained : (d : DriverContent) (e : ℕ) → d.command ≡ Some (unfinished.Unchain e)
      → ((f : ℕ) → NewGone d.endpoints (advance d).endpoints f) → All P d.periodic.removals → All P (advance d).periodic.removals
  unchained d e is =
      subst (λ (o : Option Command). ((f : ℕ) → NewGone d.endpoints (advanced_by d o).endpoints f) → All P d.periodic.removals
      → All P (advanced_by d o).periodic.removals) (sym is)
      (λ new r. unchain_by d e (nat_lt (suc d.made) (length (events_of (unfinished.Unchain e)))) (new e) r)

  -- an accepted cancel of a periodic endpoint with nothing to unlink
  pub cancelled_out : (d : DriverContent) (e : ℕ) (x : Endpoint) (ms : List Member) → slice_get d.endpoints e ≡ Some x
      → NewGone d.endpoints (accepted_unchain d e x ms).endpoints e → All P d.periodic.removals
      → All P (accepted_unchain d e x ms).periodic.removals
  cancelled_out d e x ms here new r =
      let y : Endpoint = record x { cancelled = true; ended = first_end x.ended } in
      let h : DriverContent = with_cancel d e x ms in
      let was : slice_get h.endpoints e ≡ Some y = set_here d.endpoints e x y here in
      finished_by h e (is_none h.periodic.list.work)
      (λ l. new (record {
        before = x;
        after = l.after;
        here = here;
        linked = ap (λ (o : Option Endpoint). is_chained o) (sym was
            ∙ l.here) ∙ l.linked;
        there = l.there;
        unlinked = l.unlinked;
      }))
      (subst (All P) (sym (next_removals true (record d.periodic { queued = ms }))) r)
    where
      is_chained : Option Endpoint → Bool
      is_chained None = false
      is_chained (Some z) = z.chained

-- ---- rows

all_read : (P Q : Removal → Type 0) (n : ℕ) → ((r : Removal) → P r → Q (read_once n r)) → (rs : List Removal) → All P rs
    → All Q (read_again n rs)
all_read P Q n read [] all = tt
all_read P Q n read (r ∷ rs) all = (read r all.0, all_read P Q n read rs all.1)

module _ (Q : Removal → Type 0) where
  unlink_out : (p : Parts) (t : ℕ) (o : Option Transfer) → Q (removal_of (removed.Descriptor t)) → All Q p.driver.periodic.removals
      → All Q (after_unlink p t o).driver.periodic.removals
  unlink_out p t None new r = r
  unlink_out p t (Some x) new r = all_both Q p.driver.periodic.removals (removal_of (removed.Descriptor t) ∷ []) r (new, tt)

  descriptor_out : (p : Parts) (t : ℕ) (o : Option Transfer) → All Q p.driver.periodic.removals
      → All Q (after_descriptor p t o).driver.periodic.removals
  descriptor_out p t None r = r
  descriptor_out p t (Some x) r = all_less Q p.driver.periodic.removals r

  told_removals : (b : Bool) (d told : DriverContent) → told.periodic ≡ d.periodic → (cond b told d).periodic ≡ d.periodic
  told_removals true d told same = same
  told_removals false d told same = refl

  placed_out : (p : Parts) (e : ℕ) (o : Option Endpoint) → All Q p.driver.periodic.removals
      → All Q (after_placed p e o).driver.periodic.removals
  placed_out p e None r = r
  placed_out p e (Some x) r =
      subst (λ (q : PeriodicContent). All Q (drop 1 q.removals))
      (sym (told_removals (is_told x) p.driver (reported p.driver lines.Cancel x.desc.name
      (cancelled_bytes p.driver.notes p.memory e x.queue p.driver.transfers)) refl))
      (all_less Q p.driver.periodic.removals r)

-- an event more of a command that links descriptors leaves what was unlinked
iso_same : (p : Parts) (d : DriverContent) (e t count : ℕ) → d.command ≡ Some (unfinished.Iso e t count)
    → (advance d).periodic.removals ≡ d.periodic.removals
iso_same p d e t count is = removals_stays (rows.Store 0 0 0) (record p { driver = d }) (Some (unfinished.Iso e t count)) is refl

module _ (P Q : Removal → Type 0) (more : (r : Removal) → P r → Q r) where
  abbrev Reading : DriverRow → Parts → Type 0
  Reading row p = (n : ℕ) → frindex_read row p ≡ Some n → (r : Removal) → P r → Q (read_once n r)

  framed : (p : Parts) (e t count : ℕ) → p.driver.command ≡ Some (unfinished.Iso e t count) → Reading rows.Frames p
      → All P p.driver.periodic.removals
      → All Q (framed_by p.driver p.registers.frame_index p.driver.command).periodic.removals
  framed p e t count is read r =
      let n : ℕ = p.registers.frame_index in
      let d : DriverContent = with_notes p.driver n (take count (drop t p.driver.transfers))
      (framed_notes p.driver n e t count (placement_at p.driver e)) in
      subst (λ (o : Option Command). All Q (framed_by p.driver n o).periodic.removals) (sym is)
      (subst (All Q) (sym (iso_same p d e t count is)) (all_read P Q n (read n refl) p.driver.periodic.removals r))

  pub removals_then : (row : DriverRow) (p : Parts) (o : Option Command) → p.driver.command ≡ o
      → ((e : ℕ) → LeavesFrames p.driver.endpoints (after_driver_row row p).driver.endpoints e → Q (removal_of (removed.Endpoint e)))
      → ((t : ℕ) → row ≡ rows.Unlink t → Q (removal_of (removed.Descriptor t))) → Reading row p → All P p.driver.periodic.removals
      → All Q (after_driver_row row p).driver.periodic.removals
  removals_then rows.Lend p (Some (unfinished.Unchain e)) is new unlinks read r =
      unchained Q (record p.driver { book = (lend_taken (holding p.driver.book p.memory)).book }) e is new
      (all_more P Q p.driver.periodic.removals more r)
  removals_then (rows.Store b at v) p (Some (unfinished.Unchain e)) is new unlinks read r = unchained Q p.driver e is new
      (all_more P Q p.driver.periodic.removals more r)
  removals_then rows.LendDescriptors p (Some (unfinished.Unchain e)) is new unlinks read r =
      unchained Q (record p.driver {
        book = (lend_taken (holding p.driver.book
            (linked_by p.driver p.memory p.driver.command))).book;
      }) e is new (all_more P Q p.driver.periodic.removals more r)
  removals_then (rows.Unlink t) p o is new unlinks read r = unlink_out Q p t (slice_get p.driver.transfers t) (unlinks t refl)
      (all_more P Q p.driver.periodic.removals more r)
  removals_then (rows.ReadFrame n) p o is new unlinks read r = all_read P Q n (read n refl) p.driver.periodic.removals r
  removals_then rows.Frames p (Some (unfinished.Iso e t count)) is new unlinks read r = framed p e t count is read r
  removals_then (rows.ReleaseRemoved (removed.Descriptor t)) p o is new unlinks read r = descriptor_out Q p t
      (slice_get p.driver.transfers t) (all_more P Q p.driver.periodic.removals more r)
  removals_then (rows.ReleaseRemoved (removed.Endpoint e)) p o is new unlinks read r = placed_out Q p e (slice_get p.driver.endpoints e)
      (all_more P Q p.driver.periodic.removals more r)
  removals_then row p o is new unlinks read r = subst (All Q) (sym (removals_stays row p o is refl))
      (all_more P Q p.driver.periodic.removals more r)
