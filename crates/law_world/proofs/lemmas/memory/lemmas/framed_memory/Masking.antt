-- Each placement that a plan answers has masks of eight bits, and a driver's plan has no others.
use Rattle.std.proofs.Common.{◌≡◌, ℕ, ◌+◌, ◌<◌, Bool, true, false, List, [], ◌∷◌, map, slice_get, Option, Some, None, sym, subst, arith}
use Rattle.std.specs.Prelude.{◌/◌, ◌%◌, ◌&&◌, nat_eq, nat_le, nat_lt, if◌then◌else◌}
use Rattle.std.specs.List.{AllByRecursion, flat_map}
use Rattle.law_common.proofs.Lists.{nth_all, all_kept, all_both}
use Rattle.usb_base.specs.declared.packets.Dir.{Dir}
use Rattle.usb_base.specs.declared.packets.Dir.TheVariants.{In, Out}
use Rattle.usb_base.specs.declared.packets.EpKind.{EpKind}
use Rattle.usb_base.specs.declared.packets.EpKind.TheVariants as kinds
use Rattle.usb_base.specs.declared.endpoints.EpDesc.{EpDesc}
use Rattle.usb_base.specs.declared.commands.Cmd.TheVariants as commands
use Rattle.usb_base.specs.declared.rules.Rules.{Rules}
use Rattle.bandwidth.specs.declared.placements.Want.{Want}
use Rattle.bandwidth.specs.declared.placements.Placement.{Placement}
use Rattle.bandwidth.specs.declared.placements.Placed.{Placed}
use Rattle.bandwidth.specs.Placements.{mask, run, every, below, frame_period, is_classic, PlacementRow, high_row, interrupt_row, iso_in_row, iso_out_row, classic_row, placement_row, placement_at, in_phase, allowed}
use Rattle.bandwidth.specs.Admission.{IsBest}
use Rattle.bandwidth.proofs.Admits.{allowed_of_table}
use Rattle.bandwidth.proofs.Microframes.{mask_whole, mask_bound}
use Rattle.drv_periodic_table.specs.Periodic.{is_periodic}
use Rattle.drv_periodic_table.specs.declared.content.Removed.TheVariants as removed
use Rattle.drv_table.specs.declared.content.Endpoint.{Endpoint}
use Rattle.drv_table.specs.declared.rows.DriverRow.{DriverRow}
use Rattle.drv_table.specs.declared.rows.DriverRow.TheVariants as rows
use Rattle.drv_table.specs.DriverContent.{DriverContent}
use Rattle.drv_table.specs.Accepting.{Offered}
use Rattle.drv_table.specs.Rows.{driver_row}
use Rattle.law_admission.specs.Budgets.{Account, account_of, taken_out, account_after}
use Rattle.drv_table.specs.PeriodicOpens.{asked}
use Rattle.law_admission.specs.Opens.{OpenAfter}
use Rattle.law_admission.proofs.Events.{events_take_out_what_left}
use Rattle.law_admission.proofs.Commands.{commands_place_the_best}
use Rattle.law_world.specs.memory.framed_memory.Masks.{HasMasks, AreMasked, NewIsMasked, EventsKeepMasks, CommandsKeepMasks}

-- ---- the placements of the table

small : (test : ℕ → Bool) → mask test < 256
small test = let below_it = mask_bound test 8 in let whole = mask_whole test in omega (arith, below_it, whole)

abbrev AreSmall : PlacementRow → Type 0
AreSmall r = (s : ℕ) → (r.smask s < 256) × (r.cmask s < 256)

run_small : (s n : ℕ) → run s n < 256
run_small s n = small (λ m. nat_le s m && nat_lt m (s + n))

high_small : (period : ℕ) (b : Bool)
    → AreSmall (if b then record { starts = period; smask = λ s. every period s; cmask = λ s. 0 } else record { starts = 8; smask = λ s. run s 1; cmask = λ s. 0 })
high_small period true s = (small (λ m. nat_eq (m % period) s), omega arith)
high_small period false s = (run_small s 1, omega arith)

interrupt_small : AreSmall interrupt_row
interrupt_small s = (run_small s 1, run_small (s + 2) 3)

in_small : (k : ℕ) → AreSmall (iso_in_row k)
in_small k s = (run_small s 1, run_small (s + 2) (k + 1))

out_small : (k : ℕ) → AreSmall (iso_out_row k)
out_small k s = (run_small s k, omega arith)

classic_small : (kind : EpKind) (dir : Dir) (bytes : ℕ) → AreSmall (classic_row kind dir bytes)
classic_small kinds.Iso In bytes = in_small ((bytes + 9 + 187) / 188)
classic_small kinds.Iso Out bytes = out_small ((bytes + 187) / 188)
classic_small _ dir bytes = interrupt_small

row_small : (w : Want) → AreSmall (placement_row w)
row_small w = by (is_classic w.speed)
  where
    by : (b : Bool) → AreSmall (if b then classic_row w.kind w.dir w.max else high_row w.period)
    by true = classic_small w.kind w.dir w.max
    by false = high_small w.period (nat_lt w.period 8)

phase_masked : (w : Want) (phase : ℕ) (starts : List ℕ) → AllByRecursion HasMasks (map (placement_at w phase) starts)
phase_masked w phase [] = tt
phase_masked w phase (s ∷ starts) = (record { smask = (row_small w s).0; cmask = (row_small w s).1 }, phase_masked w phase starts)

phases_masked : (w : Want) (phases : List ℕ) → AllByRecursion HasMasks (flat_map (in_phase w) phases)
phases_masked w [] = tt
phases_masked w (phase ∷ phases) =
    all_both HasMasks (in_phase w phase) (flat_map (in_phase w) phases) (phase_masked w phase (below (placement_row w).starts))
    (phases_masked w phases)

allowed_masked : (w : Want) → AllByRecursion HasMasks (allowed w)
unfolding allowed
allowed_masked w = phases_masked w (below (frame_period w.period))

best_masked : (rules : Rules) (placed : List Placed) (w : Want) (p : Placement) → IsBest rules placed w p → HasMasks p
best_masked rules placed w p k =
    let here = allowed_of_table rules w k.place p k.at in nth_all HasMasks (allowed w) here.place p (allowed_masked w) here.at

-- ---- the driver

abbrev Masked : Placed → Type 0
Masked y = HasMasks y.placement

abbrev InAccount : Account → Type 0
InAccount a = AllByRecursion Masked a.plan.placed

pub new_is_masked : NewIsMasked
new_is_masked n room = tt

out_masked : (a : Account) (e : ℕ) (o : Option Endpoint) → InAccount a → InAccount (taken_out a e o)
out_masked a e None all = all
out_masked a e (Some x) all = all_kept Masked _ a.plan.placed all

after_masked : (row : DriverRow) (d : DriverContent) → AreMasked d → InAccount (account_after row d)
after_masked (rows.ReleaseRemoved (removed.Endpoint e)) d all = out_masked (account_of d) e (slice_get d.endpoints e) all
after_masked _ d all = all

pub events_keep_masks : EventsKeepMasks
events_keep_masks p all = subst InAccount (sym (events_take_out_what_left (driver_row p) p)) (after_masked (driver_row p) p.driver all)

open_masked : (d : DriverContent) (x : EpDesc) (o : Offered) (b : Bool) → AreMasked d → OpenAfter d x o b → AreMasked o.driver
open_masked d x o true all why =
    subst InAccount (sym why.account)
    (all_both Masked d.periodic.plan.placed (record { want = asked d x; placement = why.placement } ∷ []) all
    (best_masked d.periodic.plan.rules d.periodic.plan.placed (asked d x) why.placement why.best, tt))
open_masked d x o false all why = subst InAccount (sym why) all

same_plan : (d : DriverContent) (o : Offered) → AreMasked d → account_of o.driver ≡ account_of d → AreMasked o.driver
same_plan d o all same = subst InAccount (sym same) all

pub commands_keep_masks : CommandsKeepMasks
commands_keep_masks d m (commands.OpenEp x) o all is = open_masked d x o (is_periodic x.kind) all (commands_place_the_best d m (commands.OpenEp x) o is)
commands_keep_masks d m (commands.Get name len by) o all is =
    same_plan d o all (commands_place_the_best d m (commands.Get name len by) o is)
commands_keep_masks d m (commands.Put name bytes by) o all is =
    same_plan d o all (commands_place_the_best d m (commands.Put name bytes by) o is)
commands_keep_masks d m (commands.Control name setup bytes) o all is = same_plan d o all (commands_place_the_best d m (commands.Control name setup bytes) o is)
commands_keep_masks d m (commands.Iso name count len seed) o all is = same_plan d o all (commands_place_the_best d m (commands.Iso name count len seed) o is)
commands_keep_masks d m (commands.Cancel name) o all is = same_plan d o all (commands_place_the_best d m (commands.Cancel name) o is)
commands_keep_masks d m (commands.Clear name) o all is = same_plan d o all (commands_place_the_best d m (commands.Clear name) o is)
commands_keep_masks d m (commands.Reset port) o all is = same_plan d o all (commands_place_the_best d m (commands.Reset port) o is)
commands_keep_masks d m (commands.Give port) o all is = same_plan d o all (commands_place_the_best d m (commands.Give port) o is)
commands_keep_masks d m (commands.DiskRead addr lba count) o all is = same_plan d o all (commands_place_the_best d m (commands.DiskRead addr lba count) o is)
commands_keep_masks d m (commands.DiskWrite addr lba bytes) o all is = same_plan d o all (commands_place_the_best d m (commands.DiskWrite addr lba bytes) o is)
commands_keep_masks d m (commands.Revive addr) o all is = same_plan d o all (commands_place_the_best d m (commands.Revive addr) o is)
