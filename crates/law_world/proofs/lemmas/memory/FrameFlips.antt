-- Which events of the driver take a member out of the frame list: stores of the list alone.
use Rattle.std.proofs.Common.{◌≡◌, ℕ, suc, ◌<◌, ◌≤◌, Bool, true, false, nat_lt, nat_eq}
use Rattle.std.proofs.Common.{if◌then◌else◌, List, [], ◌∷◌, ◌++◌, length, map, filter, slice_get, is_none, Option, Some, None, ap, refl}
use Rattle.std.proofs.Common.{sym, subst, ◌∙◌, ⊎_elim, arith}
use Rattle.std.specs.Prelude.{count_by}
use Rattle.std.specs.List.{AllByRecursion}
use Rattle.std.proofs.lemmas.Bool.{lt-ltb}
use Rattle.std.proofs.lemmas.Option.{same_Some}
use Rattle.law_world.proofs.Common2.{next_led}
use Rattle.law_common.proofs.Booleans.{either_if}
use Rattle.law_common.proofs.Lists.{some_below}
use Rattle.mem_runs.specs.Book.{holding, lend_taken}
use Rattle.drv_chains.specs.declared.members.Descriptor.{Descriptor}
use Rattle.drv_chains.specs.declared.members.Member.{Member}
use Rattle.drv_chains.specs.declared.members.Member.TheVariants.{Once, Each}
use Rattle.drv_chains.specs.declared.members.QueueHead.{QueueHead}
use Rattle.drv_chains.specs.Chains.{Schedule, chain, descriptors_in, is_active, is_the, id_of, behind_the, first_of, successor}
use Rattle.drv_members.specs.Members.{IsKept}
use Rattle.drv_members.specs.Ranks.{is_named, is_called}
use Rattle.drv_members.proofs.Classes.{chain_is}
use Rattle.drv_members.proofs.Splits.{count_first, count_two, count_fewer, none_counted, one_if}
use Rattle.drv_periodic.specs.Periodic.{Periodic, after_store}
use Rattle.drv_periodic_table.specs.Linking.{begun_next}
use Rattle.drv_periodic_table.specs.Periodic.{PeriodicContent}
use Rattle.drv_table.specs.declared.content.Command.{Command}
use Rattle.drv_table.specs.declared.content.Command.TheVariants as unfinished
use Rattle.drv_table.specs.declared.content.Endpoint.{Endpoint}
use Rattle.drv_table.specs.declared.rows.DriverRow.{DriverRow}
use Rattle.drv_table.specs.declared.rows.DriverRow.TheVariants as rows
use Rattle.drv_table.specs.DriverContent.{DriverContent}
use Rattle.drv_table.specs.Commands.{events_of, links, removes_members, no_command, leave_ring, leave_frames, finished, list_after}
use Rattle.drv_table.specs.Commands.{linked_on}
use Rattle.drv_table.specs.Commands.{or_finished, advanced_by, advance}
use Rattle.drv_table.specs.FrameChoice.{with_notes, framed_notes, placement_at, framed_by, linked_by}
use Rattle.drv_table.specs.Parts.{Parts}
use Rattle.drv_table.specs.Rows.{after_driver_row}
use Rattle.claims_driver.specs.Unlinked.{led_in, led}
use Rattle.law_driver.specs.run_owners.Due.{IsDue, IsNextOf, IsLinkOf}
use Rattle.law_footprints.proofs.Fields.{list_stays}
use Rattle.law_footprints.specs.Footprint.{footprint}

-- ---- the command's own events

abbrev list_of : DriverContent → Periodic
list_of d = d.periodic.list

ring_list : (d : DriverContent) (e : ℕ) (o : Option Endpoint) → list_of (leave_ring d e o) ≡ list_of d
ring_list d e None = refl
ring_list d e (Some x) = either_if (λ (f : DriverContent). list_of f ≡ list_of d) x.linked _ d (λ on. refl) (λ on. refl)

frames_list : (d : DriverContent) (e : ℕ) (o : Option Endpoint) → list_of (leave_frames d e o) ≡ list_of d
frames_list d e None = refl
frames_list d e (Some x) = either_if (λ (f : DriverContent). list_of f ≡ list_of d) x.chained _ d (λ on. refl) (λ on. refl)

pub finished_list : (d : DriverContent) (c : Command) → list_of (finished d c) ≡ list_of d
finished_list d (unfinished.Unlink e b link) = ring_list (no_command d) e (slice_get d.endpoints e)
finished_list d (unfinished.Unchain e) = frames_list (no_command d) e (slice_get d.endpoints e)
finished_list d _ = refl

pub ended_list : (d : DriverContent) (c : Command) → list_of (or_finished d c) ≡ list_of d
ended_list d c =
    either_if (λ (f : DriverContent). list_of f ≡ list_of d) (is_none d.periodic.list.work) (finished d c) d (λ e. finished_list d c)
    (λ e. refl)

linked_led : (d : DriverContent) (c : Command) → d.made < length (events_of c) → IsKept d.periodic.list.members.schedule
    → led (linked_on d c) ≡ led d
linked_led d c early kept =
    let q : PeriodicContent = record d.periodic { list = list_after d c } in
    let h : DriverContent = record d { made = length (events_of c); periodic = begun_next (removes_members c) q } in
    let same : list_after d c ≡ d.periodic.list
    = ap (λ (b : Bool). if b then d.periodic.list else after_store d.periodic.list) (lt-ltb d.made (length (events_of c)) early) in
    ap led_in (ended_list h c)
    ∙ next_led (removes_members c) q (subst (λ (p : Periodic). IsKept p.members.schedule) (sym same) kept) ∙ ap led_in same

pub early_led : (d : DriverContent) (c : Command) → d.made < length (events_of c) → IsKept d.periodic.list.members.schedule
    → led (advanced_by d (Some c)) ≡ led d
early_led d c early kept =
    either_if (λ (f : DriverContent). led f ≡ led d) (nat_lt (suc d.made) (length (events_of c))) (record d { made = suc d.made })
    (if links c then linked_on d c else finished d c) (λ more. refl)
    (λ last. either_if (λ (f : DriverContent). led f ≡ led d) (links c) (linked_on d c) (finished d c) (λ on. linked_led d c early kept)
    (λ none. ap led_in (finished_list d c)))

own_led : (d g : DriverContent) (row : DriverRow) (c : Command) → d.command ≡ Some c → slice_get (events_of c) d.made ≡ Some row
    → g.command ≡ d.command → g.made ≡ d.made → list_of g ≡ list_of d → IsKept d.periodic.list.members.schedule → led (advance g) ≡ led d
own_led d g row c is next command made list kept =
    ap (λ (o : Option Command). led (advanced_by g o)) (command ∙ is)
    ∙ early_led g c (let low = some_below (events_of c) d.made row next in omega (arith, made, low))
    (subst (λ (p : Periodic). IsKept p.members.schedule) (sym list) kept) ∙ ap led_in list

framed_led : (d : DriverContent) (n : ℕ) (c : Command) → d.command ≡ Some c → slice_get (events_of c) d.made ≡ Some rows.Frames
    → IsKept d.periodic.list.members.schedule → led (framed_by d n (Some c)) ≡ led d
framed_led d n (unfinished.Iso e t count) is next kept =
    own_led d (with_notes d n _ (framed_notes d n e t count (placement_at d e))) rows.Frames (unfinished.Iso e t count) is next refl refl
    refl kept
framed_led d n (unfinished.Open queue) is next kept = refl
framed_led d n (unfinished.Publish b words) is next kept = refl
framed_led d n (unfinished.Unlink e b link) is next kept = refl
framed_led d n unfinished.Chain is next kept = refl
framed_led d n (unfinished.Unchain e) is next kept = refl

-- ---- each row

-- the list has the same members to which a word may lead, or the event is a store of the list
pub data LedThen (p : Parts) (row : DriverRow) : Type 0 where
  same : led (after_driver_row row p).driver ≡ led p.driver → LedThen p row
  a_link : IsLinkOf p row → LedThen p row
  an_unlink : (t : ℕ) → row ≡ rows.Unlink t → LedThen p row

module _ (p : Parts) (kept : IsKept p.driver.periodic.list.members.schedule) where
  abbrev d : DriverContent
  d = p.driver

  quiet : (row : DriverRow) → (footprint row p.driver.command).list ≡ false → LedThen p row
  quiet row misses = same (ap led_in (list_stays row p p.driver.command refl misses))

  pub row_led : (row : DriverRow) → IsDue p row → LedThen p row
  row_led rows.Lend due =
      same (own_led d (record d { book = (lend_taken (holding d.book p.memory)).book }) rows.Lend due.command due.unfinished due.next
      refl refl refl kept)
  row_led (rows.Store b at v) due =
      ⊎_elim
      (λ (own : IsNextOf p (rows.Store b at v)).
      same (own_led d d (rows.Store b at v) own.command own.unfinished own.next refl refl refl kept))
      (λ (link : IsLinkOf p (rows.Store b at v)). a_link link) due
  row_led rows.LendDescriptors due =
      same (own_led d (record d { book = (lend_taken (holding d.book (linked_by d p.memory d.command))).book }) rows.LendDescriptors
      due.command
      due.unfinished due.next refl refl refl kept)
  row_led rows.Frames due =
      same (ap (λ (o : Option Command). led (framed_by d p.registers.frame_index o)) due.unfinished
      ∙ framed_led d p.registers.frame_index due.command due.unfinished due.next kept)
  row_led (rows.Unlink t) due = an_unlink t refl
  row_led row due = quiet row refl

-- ---- who stands behind a queue head is another one

count_mapped : {X Y : Type 0} (f : Y → Bool) (g : X → Y) (xs : List X) → count_by f (map g xs) ≡ count_by (λ x. f (g x)) xs
count_mapped f g [] = refl
count_mapped f g (x ∷ xs) =
    let one = count_first f (g x) (map g xs) in
    let rest = count_mapped f g xs in
    let two = count_first (λ y. f (g y)) x xs in
    omega (arith, one, rest, two)

behind_by : (m x : Member) (ms : List Member) (b : Bool) → is_the m x ≡ b → count_by (is_the m) (x ∷ ms) ≤ 1
    → (count_by (is_the m) ms ≤ 1 → AllByRecursion (λ y. is_the m y ≡ false) (behind_the m ms))
    → AllByRecursion (λ y. is_the m y ≡ false) (if b then ms else behind_the m ms)
behind_by m x ms true is few rest =
    let one = count_first (is_the m) x ms in
    let this : one_if (is_the m x) ≡ 1 = ap one_if is in
    none_counted (is_the m) ms (omega (arith, one, this, few))
behind_by m x ms false is few rest =
    let one = count_first (is_the m) x ms in
    rest (omega (arith, one, few))

behind_apart : (m : Member) (ms : List Member) → count_by (is_the m) ms ≤ 1 → AllByRecursion (λ x. is_the m x ≡ false) (behind_the m ms)
unfolding behind_the
behind_apart m [] once = tt
behind_apart m (x ∷ xs) once = behind_by m x xs (is_the m x) refl once (behind_apart m xs)

chain_once : (s : Schedule) (m : Member) (f : ℕ) → IsKept s → count_by (is_the m) (chain s f) ≤ 1
chain_once s m f kept =
    let ds : List Descriptor = descriptors_in s f in
    let qs : List QueueHead = filter (is_active f) s.queues in
    let whole : count_by (is_the m) (chain s f) ≡ count_by (is_the m) (map Once ds ++ map Each qs)
    = ap (count_by (is_the m)) (chain_is s f kept) in
    let both = count_two (is_the m) (map Once ds) (map Each qs) in
    let one : count_by (is_the m) (map Once ds) ≡ count_by (is_called (id_of m)) ds = count_mapped (is_the m) Once ds in
    let two : count_by (is_the m) (map Each qs) ≡ count_by (is_named (id_of m)) qs = count_mapped (is_the m) Each qs in
    let few = count_fewer (is_called (id_of m)) (λ d. nat_eq d.frame f) s.descriptors in
    let fewer = count_fewer (is_named (id_of m)) (is_active f) s.queues in
    let most = kept.named (id_of m) in
    omega (arith, whole, both, one, two, few, fewer, most)

first_apart : (m y : Member) (ms : List Member) → AllByRecursion (λ x. is_the m x ≡ false) ms → first_of ms ≡ Some y → is_the m y ≡ false
first_apart m y [] all is = absurd (cc)
first_apart m y (x ∷ xs) all is = subst (λ (z : Member). is_the m z ≡ false) (same_Some x y is) all.0

pub successor_apart : (s : Schedule) (m y : Member) (f : ℕ) → IsKept s → successor s m f ≡ Some y → is_the m y ≡ false
successor_apart s m y f kept is = first_apart m y (behind_the m (chain s f)) (behind_apart m (chain s f) (chain_once s m f kept)) is
