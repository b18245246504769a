-- All that is placed is one of the allowed placements of its endpoint; below a hub their masks are of one form.
use Rattle.std.proofs.Common.{◌≡◌, ℕ, zero, suc, ◌+◌, ◌/◌, ◌<◌, ◌≤◌, Bool, true, false, List, [], ◌∷◌, map, slice_get, Option, Some, None, Result, Ok, Err, refl, sym, subst, ◌∙◌, arith}
use Rattle.std.specs.Prelude.{◌&&◌, nat_le, nat_lt, if◌then◌else◌}
use Rattle.std.specs.List.{AllByRecursion, flat_map}
use Rattle.std.proofs.lemmas.Bool.Decides.{nat_tests}
use Rattle.law_common.proofs.Lists.{all_both, nth_all}
use Rattle.usb_base.specs.declared.commands.Cmd.{Cmd}
use Rattle.usb_base.specs.declared.commands.Cmd.TheVariants as commands
use Rattle.usb_base.specs.declared.endpoints.EpDesc.{EpDesc}
use Rattle.usb_base.specs.declared.packets.Dir.{Dir}
use Rattle.usb_base.specs.declared.packets.Dir.TheVariants.{In, Out}
use Rattle.usb_base.specs.declared.packets.EpKind.{EpKind}
use Rattle.usb_base.specs.declared.packets.EpKind.TheVariants as kinds
use Rattle.usb_base.specs.declared.reports.OfferError.{OfferError}
use Rattle.script_types.specs.declared.scripts.Line.{Line}
use Rattle.script_types.specs.declared.scripts.Line.TheVariants as lines
use Rattle.script_types.specs.declared.scripts.Script.{Script}
use Rattle.bandwidth.specs.declared.placements.Want.{Want}
use Rattle.bandwidth.specs.declared.placements.Placement.{Placement}
use Rattle.bandwidth.specs.Placements.{has, first_in, run, below, frame_period, is_classic, PlacementRow, interrupt_row, iso_in_row, iso_out_row, classic_row, high_row, placement_row, placement_at, in_phase, allowed}
use Rattle.bandwidth.proofs.Microframes.{first_is}
use Rattle.bandwidth.proofs.Spans.{has_mask}
use Rattle.bandwidth.proofs.Admits.{allowed_of_table}
use Rattle.drv_periodic_table.specs.Periodic.{is_periodic}
use Rattle.drv_periodic_table.specs.declared.content.Removed.TheVariants as removed
use Rattle.drv_table.specs.declared.content.Endpoint.{Endpoint}
use Rattle.drv_table.specs.declared.rows.DriverRow.{DriverRow}
use Rattle.drv_table.specs.declared.rows.DriverRow.TheVariants as rows
use Rattle.drv_table.specs.DriverContent.{DriverContent}
use Rattle.drv_table.specs.Accepting.{Offered}
use Rattle.drv_table.specs.Offers.{offered}
use Rattle.drv_table.specs.PeriodicOpens.{asked}
use Rattle.drv_table.specs.Rows.{driver_row}
use Rattle.drv_chains.proofs.Words.{all_kept}
use Rattle.law_admission.specs.Budgets.{Account, account_of, taken_out, account_after}
use Rattle.law_admission.specs.Opens.{OpenAfter}
use Rattle.law_admission.proofs.Events.{events_take_out_what_left}
use Rattle.law_admission.proofs.Commands.{commands_place_the_best}
use Rattle.law_world.specs.steps.receiving_runs.Runs.{KindOfLine, IsKeptBy}
use Rattle.law_world.proofs.lemmas.steps.lemmas.receiving_runs.Runs.{holds_throughout}
use Rattle.bus_wire.specs.Bus.{fixed_of}
use Rattle.bus_world.specs.World.{World, driver_parts, name_in, commanded, commanded_by}
use Rattle.claims_world.specs.FrameHeads.{IsAllowed, AreAllowed}
use Rattle.law_microframes.specs.time.SplitMasks.{HasSplitMasks, AllowedAreSplit, NewIsAllowed, EventsKeepAllowed, CommandsKeepAllowed, ScriptsKeepAllowed}

-- ---- runs of microframes

has_run : (s n m : ℕ) → m < 8 → has (run s n) m ≡ (nat_le s m && nat_lt m (s + n))
has_run s n m h = has_mask (λ k. nat_le s k && nat_lt k (s + n)) m h

in_run : (s n m : ℕ) → (nat_le s m && nat_lt m (s + n)) ≡ true → (s ≤ m) × (m < s + n)
in_run s n m is = (grind (arith, nat_tests), grind (arith, nat_tests))

is_in_run : (s n m : ℕ) → s ≤ m → m < s + n → (nat_le s m && nat_lt m (s + n)) ≡ true
is_in_run s n m low high = grind (arith, nat_tests)

under_run : (s n m : ℕ) → m < s → (nat_le s m && nat_lt m (s + n)) ≡ false
under_run s n m low = grind (arith, nat_tests)

over_run : (s n m : ℕ) → s + n ≤ m → (nat_le s m && nat_lt m (s + n)) ≡ false
over_run s n m high = grind (arith, nat_tests)

runs_apart : (s a t b u : ℕ) → s + a ≤ t → u < 8 → has (run t b) u ≡ true → has (run s a) u ≡ false
runs_apart s a t b u behind small on =
    let at = in_run t b u (sym (has_run t b u small) ∙ on) in
    let low = at.0 in
    has_run s a u small ∙ over_run s a u (omega (arith, low, behind))

none_apart : (s a u : ℕ) → u < 8 → has 0 u ≡ true → has (run s a) u ≡ false
none_apart s a zero small on = absurd (cc)
none_apart s a (suc zero) small on = absurd (cc)
none_apart s a (suc (suc zero)) small on = absurd (cc)
none_apart s a (suc (suc (suc zero))) small on = absurd (cc)
none_apart s a (suc (suc (suc (suc zero)))) small on = absurd (cc)
none_apart s a (suc (suc (suc (suc (suc zero))))) small on = absurd (cc)
none_apart s a (suc (suc (suc (suc (suc (suc zero)))))) small on = absurd (cc)
none_apart s a (suc (suc (suc (suc (suc (suc (suc zero))))))) small on = absurd (cc)
none_apart s a (suc (suc (suc (suc (suc (suc (suc (suc u)))))))) small on = absurd (omega (arith, small))

first_run : (s n : ℕ) → s < 8 → 1 ≤ n → s ≡ first_in (run s n)
first_run s n small some =
    first_is (run s n) s small (λ k less. let below : k < 8 = omega (arith, less, small) in has_run s n k below ∙ under_run s n k less)
    (has_run s n s small ∙ is_in_run s n s (omega arith) (omega (arith, some)))

run_whole : (s n i u : ℕ) → first_in (run s n) ≤ i → i < u → u < 8 → has (run s n) u ≡ true → has (run s n) i ≡ true
run_whole s n i u from less small on =
    let at = in_run s n u (sym (has_run s n u small) ∙ on) in
    let low = at.0 in
    let high = at.1 in
    let first : s ≡ first_in (run s n) = first_run s n (omega (arith, low, small)) (omega (arith, low, high)) in
    let below : i < 8 = omega (arith, less, small) in
    has_run s n i below ∙ is_in_run s n i (omega (arith, first, from)) (omega (arith, less, high))

-- ---- the rows of the table

abbrev MasksIn : PlacementRow → ℕ → ℕ → ℕ → Placement
MasksIn r period phase s = record { period = period; phase = phase; smask = r.smask s; cmask = r.cmask s }

interrupt_split : (period phase s : ℕ) → HasSplitMasks (MasksIn interrupt_row period phase s)
interrupt_split period phase s =
    record {
      apart = λ u small on. runs_apart s 1 (s + 2) 3 u (omega arith) small on;
      whole =
          λ i u from less small on. run_whole s 1 i u from less small on;
    }

in_split : (k period phase s : ℕ) → HasSplitMasks (MasksIn (iso_in_row k) period phase s)
in_split k period phase s =
    record {
      apart = λ u small on. runs_apart s 1 (s + 2) (k + 1) u (omega arith) small on;
      whole =
          λ i u from less small on. run_whole s 1 i u from less small on;
    }

out_split : (k period phase s : ℕ) → HasSplitMasks (MasksIn (iso_out_row k) period phase s)
out_split k period phase s = record
    { apart = λ u small on. none_apart s k u small on; whole = λ i u from less small on. run_whole s k i u from less small on }

classic_split : (kind : EpKind) (dir : Dir) (bytes period phase s : ℕ) → HasSplitMasks (MasksIn (classic_row kind dir bytes) period phase s)
classic_split kinds.Iso In bytes period phase s = in_split ((bytes + 9 + 187) / 188) period phase s
classic_split kinds.Iso Out bytes period phase s = out_split ((bytes + 187) / 188) period phase s
classic_split _ dir bytes period phase s = interrupt_split period phase s

row_split : (w : Want) (phase s : ℕ) → is_classic w.speed ≡ true → HasSplitMasks (placement_at w phase s)
row_split w phase s classic =
    subst (λ (b : Bool). HasSplitMasks (MasksIn (if b then classic_row w.kind w.dir w.max else high_row w.period) w.period phase s))
    (sym classic)
    (classic_split w.kind w.dir w.max w.period phase s)

phase_split : (w : Want) (phase : ℕ) (starts : List ℕ) → is_classic w.speed ≡ true
    → AllByRecursion HasSplitMasks (map (placement_at w phase) starts)
phase_split w phase [] classic = tt
phase_split w phase (s ∷ starts) classic = (row_split w phase s classic, phase_split w phase starts classic)

phases_split : (w : Want) (phases : List ℕ) → is_classic w.speed ≡ true → AllByRecursion HasSplitMasks (flat_map (in_phase w) phases)
phases_split w [] classic = tt
phases_split w (phase ∷ phases) classic =
    all_both HasSplitMasks (in_phase w phase) (flat_map (in_phase w) phases)
    (phase_split w phase (below (placement_row w).starts) classic) (phases_split w phases classic)

all_split : (w : Want) → is_classic w.speed ≡ true → AllByRecursion HasSplitMasks (allowed w)
unfolding allowed
all_split w classic = phases_split w (below (frame_period w.period)) classic

pub allowed_are_split : AllowedAreSplit
allowed_are_split y is classic = nth_all HasSplitMasks (allowed y.want) is.place y.placement (all_split y.want classic) is.at

-- ---- the driver

abbrev InAccount : Account → Type 0
InAccount a = AllByRecursion IsAllowed a.plan.placed

pub new_is_allowed : NewIsAllowed
new_is_allowed s = tt

out_allowed : (a : Account) (e : ℕ) (o : Option Endpoint) → InAccount a → InAccount (taken_out a e o)
out_allowed a e None all = all
out_allowed a e (Some x) all = all_kept IsAllowed _ a.plan.placed all

after_allowed : (row : DriverRow) (d : DriverContent) → AreAllowed d → InAccount (account_after row d)
after_allowed (rows.ReleaseRemoved (removed.Endpoint e)) d all = out_allowed (account_of d) e (slice_get d.endpoints e) all
after_allowed _ d all = all

pub events_keep_allowed : EventsKeepAllowed
events_keep_allowed p all = subst InAccount (sym (events_take_out_what_left (driver_row p) p)) (after_allowed (driver_row p) p.driver all)

open_allowed : (d : DriverContent) (x : EpDesc) (o : Offered) (b : Bool) → AreAllowed d → OpenAfter d x o b → AreAllowed o.driver
open_allowed d x o true all why =
    let here = allowed_of_table d.periodic.plan.rules (asked d x) why.best.place why.placement why.best.at in
    subst InAccount (sym why.account)
    (all_both IsAllowed d.periodic.plan.placed (record { want = asked d x; placement = why.placement } ∷ []) all
    (record { place = here.place; at = here.at }, tt))
open_allowed d x o false all why = subst InAccount (sym why) all

same_plan : (d : DriverContent) (o : Offered) → AreAllowed d → account_of o.driver ≡ account_of d → AreAllowed o.driver
same_plan d o all same = subst InAccount (sym same) all

pub commands_keep_allowed : CommandsKeepAllowed
commands_keep_allowed d m (commands.OpenEp x) o all is =
    open_allowed d x o (is_periodic x.kind) all (commands_place_the_best d m (commands.OpenEp x) o is)
commands_keep_allowed d m (commands.Get name len by) o all is =
    same_plan d o all (commands_place_the_best d m (commands.Get name len by) o is)
commands_keep_allowed d m (commands.Put name bytes by) o all is =
    same_plan d o all (commands_place_the_best d m (commands.Put name bytes by) o is)
commands_keep_allowed d m (commands.Control name setup bytes) o all is =
    same_plan d o all (commands_place_the_best d m (commands.Control name setup bytes) o is)
commands_keep_allowed d m (commands.Iso name count len seed) o all is =
    same_plan d o all (commands_place_the_best d m (commands.Iso name count len seed) o is)
commands_keep_allowed d m (commands.Cancel name) o all is = same_plan d o all (commands_place_the_best d m (commands.Cancel name) o is)
commands_keep_allowed d m (commands.Clear name) o all is = same_plan d o all (commands_place_the_best d m (commands.Clear name) o is)
commands_keep_allowed d m (commands.Reset port) o all is = same_plan d o all (commands_place_the_best d m (commands.Reset port) o is)
commands_keep_allowed d m (commands.Give port) o all is = same_plan d o all (commands_place_the_best d m (commands.Give port) o is)
commands_keep_allowed d m (commands.DiskRead addr lba count) o all is =
    same_plan d o all (commands_place_the_best d m (commands.DiskRead addr lba count) o is)
commands_keep_allowed d m (commands.DiskWrite addr lba bytes) o all is =
    same_plan d o all (commands_place_the_best d m (commands.DiskWrite addr lba bytes) o is)
commands_keep_allowed d m (commands.Revive addr) o all is = same_plan d o all (commands_place_the_best d m (commands.Revive addr) o is)

-- ---- a run

abbrev AnyCommand : Cmd → Type 0
AnyCommand cmd = Unit {0}

any_line : (l : Line) → KindOfLine AnyCommand l
any_line (lines.Order event count) = tt
any_line _ = tt

any_lines : (xs : List (ℕ × Line)) → AllByRecursion (λ x. KindOfLine AnyCommand x.1) xs
any_lines [] = tt
any_lines (x ∷ xs) = (any_line x.1, any_lines xs)

command_allowed : (w : World) (n : ℕ) (cmd : Cmd) → AreAllowed w.driver → AreAllowed (commanded w n cmd).driver
command_allowed w n cmd all = by (offered w.driver w.memory cmd) refl
  where
    by : (r : Result Offered OfferError) → offered w.driver w.memory cmd ≡ r → AreAllowed (commanded_by w n (name_in cmd) r).driver
    by (Err why) is = all
    by (Ok o) is = commands_keep_allowed w.driver w.memory cmd o all is

is_kept : (s : Script) → IsKeptBy (fixed_of s) AnyCommand (λ w. AreAllowed w.driver)
is_kept s = record {
  driver = λ w all. events_keep_allowed (driver_parts w) all;
  controller = λ w all. all;
  command = λ w line cmd can room all. command_allowed w line cmd all;
}

pub scripts_keep_allowed : ScriptsKeepAllowed
scripts_keep_allowed s fit k =
    holds_throughout AnyCommand (λ w. AreAllowed w.driver) s fit (any_lines s.lines) (new_is_allowed s) (is_kept s)
    k
