-- How many transfers of an endpoint aren't reported.
use Rattle.std.proofs.Common.{◌≡◌, ◌≢◌, ℕ, zero, suc, ◌+◌, ◌-◌, ◌≤◌, ◌==◌, ◌&&◌, not, Bool, true, false, cond, if◌then◌else◌, List, [], ◌∷◌, ◌++◌, length, map, take, drop, set, slice_get, Option, Some, None, ap, refl, sym, ◌∙◌, arith}
use Rattle.std.specs.Prelude.{count_by, nat_lt, is_none}
use Rattle.std.proofs.lemmas.Bool.{true≢false, eqb-true}
use Rattle.std.proofs.lemmas.Option.{same_Some}
use Rattle.std.proofs.lemmas.List.Sums.{sum_by-append, sum_by-cons}
use Rattle.law_common.proofs.Booleans.{and_none}
use Rattle.usb_base.specs.declared.endpoints.EpName.{EpName}
use Rattle.usb_base.specs.declared.endpoints.EndCause.TheVariants.{Stall}
use Rattle.usb_base.specs.declared.reports.What.TheVariants.{Halt}
use Rattle.mem_runs.specs.Book.{Holding, holding, lend_taken}
use Rattle.drv_periodic_table.specs.declared.content.Removed.{Removed}
use Rattle.drv_periodic_table.specs.declared.content.Removed.TheVariants as removed
use Rattle.drv_periodic_table.specs.Linking.{begun_next}
use Rattle.drv_table.specs.declared.content.Endpoint.{Endpoint}
use Rattle.drv_table.specs.declared.content.Transfer.{Transfer}
use Rattle.drv_table.specs.declared.content.Command.{Command}
use Rattle.drv_table.specs.declared.content.Command.TheVariants as unfinished
use Rattle.drv_table.specs.declared.rows.DriverRow.TheVariants as rows
use Rattle.drv_table.specs.declared.rows.Found.TheVariants as founds
use Rattle.drv_table.specs.DriverContent.{DriverContent, waits_for}
use Rattle.drv_table.specs.Harvests.{reported}
use Rattle.drv_table.specs.Parts.{Parts}
use Rattle.drv_table.specs.Commands.{advance, advanced_by, finished, no_command, leave_ring, leave_frames, events_of, links, removes_members, list_after, linked_on, or_finished}
use Rattle.drv_table.specs.FrameChoice.{framed_by, with_notes, framed_notes, placement_at, linked_by}
use Rattle.drv_table.specs.Releases.{after_transfer, freed_by}
use Rattle.drv_table.specs.Removals.{after_unlink, after_descriptor, after_removed}
use Rattle.drv_table.specs.Harvesting.{behind, behind_one}
use Rattle.law_reports.specs.requests.told_requests.Rows.{adds_lines}
use Rattle.law_reports.specs.requests.told_requests.Waiting.{waiting, TransferAddsWaiting, QuietRowsKeepWaiting}
use Rattle.law_reports.proofs.lemmas.requests.lemmas.told_requests.Driver.{one_if, count_in, count_first, one_drop}

-- ---- counts

abbrev count : ℕ → List Transfer → ℕ
count k ys = count_by (waits_for k) ys

count_cons : (k : ℕ) (y : Transfer) (ys : List Transfer) → count k (y ∷ ys) ≡ one_if (waits_for k y) + count k ys
count_cons k y ys = sum_by-cons (λ z. cond (waits_for k z) 1 0) y ys

count_set : (k : ℕ) (ys : List Transfer) (t : ℕ) (y z : Transfer) → slice_get ys t ≡ Some y → count k (set ys t z) + one_if (waits_for k y) ≡ count k ys + one_if (waits_for k z)
count_set k [] zero y z here = absurd cc
count_set k [] (suc t) y z here = absurd cc
count_set k (x ∷ xs) zero y z here =
    let one = count_cons k z xs in
    let two = count_cons k x xs in
    let same : one_if (waits_for k x) ≡ one_if (waits_for k y) = ap (λ (u : Transfer). one_if (waits_for k u)) (same_Some x y here) in
    omega (arith, one, two, same)
count_set k (x ∷ xs) (suc t) y z here =
    let one = count_cons k x (set xs t z) in
    let two = count_cons k x xs in
    let rest = count_set k xs t y z here in
    omega (arith, one, two, rest)

pub transfer_adds_waiting : TransferAddsWaiting
transfer_adds_waiting d c y e is =
    let joined = sum_by-append (λ z. cond (waits_for e z) 1 0) d.transfers (y ∷ []) in
    let last = count_cons e y [] in
    let same : count e c.transfers ≡ count e (d.transfers ++ y ∷ []) = ap (count e) is in
    let none : count e [] ≡ 0 = refl in
    omega (arith, joined, last, same, none)

pub set_same : (k : ℕ) (ys : List Transfer) (t : ℕ) (y z : Transfer) → slice_get ys t ≡ Some y → waits_for k z ≡ waits_for k y → count k (set ys t z) ≡ count k ys
set_same k ys t y z here same = let c = count_set k ys t y z here in let e = ap one_if same in omega (arith, c, e)

pub set_less : (k : ℕ) (ys : List Transfer) (t : ℕ) (y z : Transfer) → slice_get ys t ≡ Some y → waits_for k y ≡ true → waits_for k z ≡ false → suc (count k (set ys t z)) ≡ count k ys
set_less k ys t y z here was now = let c = count_set k ys t y z here in let a = ap one_if was in let b = ap one_if now in omega (arith, c, a, b)

pub map_same : (k : ℕ) (f : Transfer → Transfer) (ys : List Transfer) → ((y : Transfer) → waits_for k (f y) ≡ waits_for k y) → count k (map f ys) ≡ count k ys
map_same k f [] each = refl
map_same k f (y ∷ ys) each =
    let one = count_cons k (f y) (map f ys) in
    let two = count_cons k y ys in
    let same = ap one_if (each y) in
    let rest = map_same k f ys each in
    omega (arith, one, two, same, rest)

pub count_dropped : (k t : ℕ) (ys : List Transfer) (y : Transfer) → slice_get ys t ≡ Some y → waits_for k y ≡ true → suc (count k (drop (suc t) ys)) ≤ count k ys
count_dropped k zero [] y here on = absurd cc
count_dropped k (suc t) [] y here on = absurd cc
count_dropped k zero (x ∷ xs) y here on =
    let one = count_cons k x xs in
    let is : one_if (waits_for k x) ≡ 1 = ap one_if (ap (waits_for k) (same_Some x y here) ∙ on) in
    omega (arith, one, is)
count_dropped k (suc t) (x ∷ xs) y here on =
    let one = count_cons k x xs in
    let rest = count_dropped k t xs y here on in
    omega (arith, one, rest)

-- ---- whose transfer it is

not_of : (i e k : ℕ) → (i == e) ≡ true → e ≢ k → (b : Bool) → (i == k) ≡ b → b ≡ false
not_of i e k own differs true is = absurd (differs (sym (eqb-true i e own) ∙ eqb-true i k is))
not_of i e k own differs false is = refl

-- what waits for one endpoint waits for no other, whatever is reported
pub other_waits : (e k i : ℕ) (r : Bool) → (i == e) ≡ true → e ≢ k → ((i == k) && not r) ≡ false
other_waits e k i r own differs = and_none (i == k) (not r) (not_of i e k own differs (i == k) refl)

pub either : (P : DriverContent → Type 0) (b : Bool) (c d : DriverContent) → (b ≡ true → P c) → P d → P (if b then c else d)
either P true c d h k = h refl
either P false c d h k = k

-- ---- rows that add no line

module _ (k : ℕ) where
  abbrev Same : DriverContent → DriverContent → Type 0
  Same d c = waiting c k ≡ waiting d k

  left_same : (d : DriverContent) (e : ℕ) (o : Option Endpoint) → Same d (leave_ring d e o)
  left_same d e None = refl
  left_same d e (Some x) = either (Same d) x.linked _ d (λ on. refl) refl

  frames_same : (d : DriverContent) (e : ℕ) (o : Option Endpoint) → Same d (leave_frames d e o)
  frames_same d e None = refl
  frames_same d e (Some x) = either (Same d) x.chained _ d (λ on. refl) refl

  finished_same : (d : DriverContent) (c : Command) → Same d (finished d c)
  finished_same d (unfinished.Unlink e b link) = left_same (no_command d) e (slice_get d.endpoints e)
  finished_same d (unfinished.Unchain e) = frames_same (no_command d) e (slice_get d.endpoints e)
  finished_same d _ = refl

  or_finished_same : (d : DriverContent) (c : Command) → Same d (or_finished d c)
  or_finished_same d c = either (Same d) (is_none d.periodic.list.work) (finished d c) d (λ on. finished_same d c) refl

  linked_same : (d : DriverContent) (c : Command) → Same d (linked_on d c)
  linked_same d c = or_finished_same (record d { made = length (events_of c); periodic = begun_next (removes_members c) (record d.periodic { list = list_after d c }) }) c

  advanced_same : (d : DriverContent) (c : Option Command) → Same d (advanced_by d c)
  advanced_same d None = refl
  advanced_same d (Some c) =
      either (Same d) (nat_lt (suc d.made) (length (events_of c))) (record d { made = suc d.made }) (if links c then linked_on d c else finished d c) (λ on. refl)
      (either (Same d) (links c) (linked_on d c) (finished d c) (λ on. linked_same d c) (finished_same d c))

  advance_same : (d : DriverContent) → Same d (advance d)
  advance_same d = advanced_same d d.command

  framed_same : (d : DriverContent) (n : ℕ) (c : Option Command) → Same d (framed_by d n c)
  framed_same d n (Some (unfinished.Iso e t many)) = advance_same (with_notes d n (take many (drop t d.transfers)) (framed_notes d n e t many (placement_at d e)))
  framed_same d n _ = refl

  transfer_same : (p : Parts) (t : ℕ) (o : Option Transfer) (h : Holding) → slice_get p.driver.transfers t ≡ o → Same p.driver (after_transfer p t o h).driver
  transfer_same p t None h here = refl
  transfer_same p t (Some y) h here = set_same k p.driver.transfers t y (record y { released = true }) here refl

  unlink_same : (p : Parts) (t : ℕ) (o : Option Transfer) → Same p.driver (after_unlink p t o).driver
  unlink_same p t None = refl
  unlink_same p t (Some y) = refl

  descriptor_same : (p : Parts) (t : ℕ) (o : Option Transfer) → slice_get p.driver.transfers t ≡ o → Same p.driver (after_descriptor p t o).driver
  descriptor_same p t None here = refl
  descriptor_same p t (Some y) here = set_same k p.driver.transfers t y (record y { released = true }) here refl

  removed_same : (p : Parts) (what : Removed) → adds_lines (rows.ReleaseRemoved what) ≡ false → Same p.driver (after_removed p what).driver
  removed_same p (removed.Descriptor t) quiet = descriptor_same p t (slice_get p.driver.transfers t) refl
  removed_same p (removed.Endpoint e) quiet = absurd (true≢false quiet)

pub quiet_rows_keep_waiting : QuietRowsKeepWaiting
quiet_rows_keep_waiting rows.Lend p k quiet = advance_same k (record p.driver { book = (lend_taken (holding p.driver.book p.memory)).book })
quiet_rows_keep_waiting (rows.Store b at v) p k quiet = advance_same k p.driver
quiet_rows_keep_waiting (rows.ReleaseTransfer t) p k quiet = transfer_same k p t (slice_get p.driver.transfers t) (freed_by p.driver (holding p.driver.book p.memory) (slice_get p.driver.transfers t)) refl
quiet_rows_keep_waiting (rows.ReleaseEndpoint e) p k quiet = absurd (true≢false quiet)
quiet_rows_keep_waiting rows.Frames p k quiet = framed_same k p.driver p.registers.frame_index p.driver.command
quiet_rows_keep_waiting rows.LendDescriptors p k quiet = advance_same k (record p.driver { book = (lend_taken (holding p.driver.book (linked_by p.driver p.memory p.driver.command))).book })
quiet_rows_keep_waiting (rows.Unlink t) p k quiet = unlink_same k p t (slice_get p.driver.transfers t)
quiet_rows_keep_waiting (rows.ReleaseRemoved what) p k quiet = removed_same k p what quiet
quiet_rows_keep_waiting (rows.Harvest e t found) p k quiet = absurd (true≢false quiet)
quiet_rows_keep_waiting _ p k quiet = refl

-- ---- requests behind a stalled one

behind_one_waits : (d : DriverContent) (e : ℕ) (name : EpName) (i : ℕ) (o : Option Transfer) → slice_get d.transfers i ≡ o → waiting (behind_one d e name i o) e + count_in e o ≡ waiting d e
behind_one_waits d e name i None here = omega arith
behind_one_waits d e name i (Some y) here = by (waits_for e y) refl
  where
    by : (b : Bool) → waits_for e y ≡ b
        → waiting
        (if b then
        record (reported d (Halt Stall) name []) {
          transfers = set d.transfers i (record y { reported = true });
          harvested = d.harvested ++ i ∷ [];
        }
        else d) e + one_if b ≡ waiting d e
    by true on = let less = set_less e d.transfers i y (record y { reported = true }) here on (reported_none (y.endpoint == e)) in omega (arith, less)
      where
        reported_none : (a : Bool) → (a && false) ≡ false
        reported_none true = refl
        reported_none false = refl
    by false on = omega arith

pub behind_waits : (d : DriverContent) (e : ℕ) (name : EpName) (i n : ℕ) → waiting (behind d e name i n) e + count e (take n (drop i d.transfers)) ≡ waiting d e
unfolding behind
behind_waits d e name i zero = omega arith
behind_waits d e name i (suc n) =
    let next : DriverContent = behind_one d e name i (slice_get d.transfers i) in
    let one = behind_one_waits d e name i (slice_get d.transfers i) refl in
    let rest = behind_waits next e name (suc i) n in
    let sum = count_first e d.transfers i n in
    let same : count e (take n (drop (suc i) next.transfers)) ≡ count e (take n (drop (suc i) d.transfers)) = ap (λ (ys : List Transfer). count e (take n ys)) (one_drop e name d i (slice_get d.transfers i)) in
    omega (arith, one, rest, sum, same)
