-- What is placed may be asked for, and is placed as it may be, along a run.
use Rattle.std.proofs.Common.{◌≡◌, ℕ, Bool, true, false, List, [], ◌∷◌, ◌++◌, slice_get, Option, Some, None, Result, Ok, Err, refl, sym, subst}
use Rattle.std.specs.List.{AllByRecursion}
use Rattle.usb_base.specs.declared.commands.Cmd.{Cmd}
use Rattle.usb_base.specs.declared.commands.Cmd.TheVariants as commands
use Rattle.usb_base.specs.declared.endpoints.EpDesc.{EpDesc}
use Rattle.usb_base.specs.declared.reports.OfferError.{OfferError}
use Rattle.script_types.specs.declared.scripts.Line.{Line}
use Rattle.script_types.specs.declared.scripts.Line.TheVariants as lines
use Rattle.script_types.specs.declared.scripts.Script.{Script}
use Rattle.word_mem.specs.Memory.{Mem}
use Rattle.bandwidth.specs.declared.placements.Placed.{Placed}
use Rattle.bandwidth.specs.Placements.{IsWant}
use Rattle.bandwidth.proofs.Admits.{allowed_of_table}
use Rattle.drv_periodic_table.specs.Periodic.{is_periodic, want_of}
use Rattle.drv_periodic_table.specs.declared.content.Removed.TheVariants as removed
use Rattle.drv_table.specs.declared.content.Endpoint.{Endpoint}
use Rattle.drv_table.specs.declared.rows.DriverRow.{DriverRow}
use Rattle.drv_table.specs.declared.rows.DriverRow.TheVariants as rows
use Rattle.drv_table.specs.DriverContent.{DriverContent}
use Rattle.drv_table.specs.Accepting.{Offered}
use Rattle.drv_table.specs.Offers.{IsOffered, offered}
use Rattle.drv_table.specs.Parts.{Parts}
use Rattle.drv_table.specs.PeriodicOpens.{asked}
use Rattle.drv_table.specs.Rows.{driver_row, after_driver_row}
use Rattle.drv_chains.proofs.Words.{all_kept}
use Rattle.law_admission.specs.Budgets.{Account, account_of, taken_out, account_after}
use Rattle.law_admission.specs.Opens.{OpenAfter}
use Rattle.law_admission.proofs.Events.{events_take_out_what_left}
use Rattle.law_admission.proofs.Commands.{commands_place_the_best}
use Rattle.law_world.specs.steps.receiving_runs.Runs.{KindOfLine, IsKeptBy}
use Rattle.law_world.proofs.lemmas.steps.lemmas.receiving_runs.Runs.{holds_throughout}
use Rattle.bus_wire.specs.Bus.{fixed_of}
use Rattle.bus_world.specs.World.{World, driver_parts, name_in, commanded, commanded_by}
use Rattle.law_translator.specs.hub_plans.Laws.{IsPlacedRight}
use Rattle.law_microframes.specs.plans.Laws.{PlacesAreRight, ScriptsPlaceRight}

abbrev pub AnyCommand : Cmd → Type 0
AnyCommand cmd = Unit {0}

any_line : (l : Line) → KindOfLine AnyCommand l
any_line (lines.Order event count) = tt
any_line _ = tt

pub any_lines : (xs : List (ℕ × Line)) → AllByRecursion (λ x. KindOfLine AnyCommand x.1) xs
any_lines [] = tt
any_lines (x ∷ xs) = (any_line x.1, any_lines xs)

abbrev InAccount : Account → Type 0
InAccount a = AllByRecursion IsPlacedRight a.plan.placed

all_joined : (xs ys : List Placed) → AllByRecursion IsPlacedRight xs → AllByRecursion IsPlacedRight ys
    → AllByRecursion IsPlacedRight (xs ++ ys)
all_joined [] ys h k = k
all_joined (x ∷ xs) ys h k = (h.0, all_joined xs ys h.1 k)

out_right : (a : Account) (e : ℕ) (o : Option Endpoint) → InAccount a → InAccount (taken_out a e o)
out_right a e None all = all
out_right a e (Some x) all = all_kept IsPlacedRight _ a.plan.placed all

after_right : (row : DriverRow) (d : DriverContent) → PlacesAreRight d → InAccount (account_after row d)
after_right (rows.ReleaseRemoved (removed.Endpoint e)) d all = out_right (account_of d) e (slice_get d.endpoints e) all
after_right _ d all = all

events_right : (p : Parts) → PlacesAreRight p.driver → PlacesAreRight (after_driver_row (driver_row p) p).driver
events_right p all = subst InAccount (sym (events_take_out_what_left (driver_row p) p)) (after_right (driver_row p) p.driver all)

its_want : (d : DriverContent) (x : EpDesc) → IsWant (want_of 0 x) → IsWant (asked d x)
its_want d x want = record {
  period = want.period;
  frames = want.frames;
  some_bytes = want.some_bytes;
  bytes = want.bytes;
  some_multi = want.some_multi;
  multi = want.multi;
  hub = want.hub;
  tt = want.tt;
}

open_right : (d : DriverContent) (x : EpDesc) (o : Offered) (b : Bool) → is_periodic x.kind ≡ b
    → (is_periodic x.kind ≡ true → IsWant (want_of 0 x)) → PlacesAreRight d → OpenAfter d x o b → PlacesAreRight o.driver
open_right d x o true periodic want all why =
    let here = allowed_of_table d.periodic.plan.rules (asked d x) why.best.place why.placement why.best.at in
    subst InAccount (sym why.account)
    (all_joined d.periodic.plan.placed (record { want = asked d x; placement = why.placement } ∷ []) all
    (record { want = its_want d x (want periodic); place = here.place; at = here.at }, tt))
open_right d x o false periodic want all why = subst InAccount (sym why) all

same_plan : (d : DriverContent) (o : Offered) → PlacesAreRight d → account_of o.driver ≡ account_of d → PlacesAreRight o.driver
same_plan d o all same = subst InAccount (sym same) all

commands_right : (d : DriverContent) (m : Mem) (cmd : Cmd) (o : Offered) → IsOffered d.room cmd → PlacesAreRight d
    → offered d m cmd ≡ Ok o → PlacesAreRight o.driver
commands_right d m (commands.OpenEp x) o room all is =
    open_right d x o (is_periodic x.kind) refl room.3 all (commands_place_the_best d m (commands.OpenEp x) o is)
commands_right d m (commands.Get name len by) o room all is =
    same_plan d o all (commands_place_the_best d m (commands.Get name len by) o is)
commands_right d m (commands.Put name bytes by) o room all is =
    same_plan d o all (commands_place_the_best d m (commands.Put name bytes by) o is)
commands_right d m (commands.Control name setup bytes) o room all is =
    same_plan d o all (commands_place_the_best d m (commands.Control name setup bytes) o is)
commands_right d m (commands.Iso name count len seed) o room all is =
    same_plan d o all (commands_place_the_best d m (commands.Iso name count len seed) o is)
commands_right d m (commands.Cancel name) o room all is = same_plan d o all (commands_place_the_best d m (commands.Cancel name) o is)
commands_right d m (commands.Clear name) o room all is = same_plan d o all (commands_place_the_best d m (commands.Clear name) o is)
commands_right d m (commands.Reset port) o room all is = same_plan d o all (commands_place_the_best d m (commands.Reset port) o is)
commands_right d m (commands.Give port) o room all is = same_plan d o all (commands_place_the_best d m (commands.Give port) o is)
commands_right d m (commands.DiskRead addr lba count) o room all is =
    same_plan d o all (commands_place_the_best d m (commands.DiskRead addr lba count) o is)
commands_right d m (commands.DiskWrite addr lba bytes) o room all is =
    same_plan d o all (commands_place_the_best d m (commands.DiskWrite addr lba bytes) o is)
commands_right d m (commands.Revive addr) o room all is = same_plan d o all (commands_place_the_best d m (commands.Revive addr) o is)

command_right : (w : World) (n : ℕ) (cmd : Cmd) → IsOffered w.driver.room cmd → PlacesAreRight w.driver
    → PlacesAreRight (commanded w n cmd).driver
command_right w n cmd room all = by (offered w.driver w.memory cmd) refl
  where
    by : (r : Result Offered OfferError) → offered w.driver w.memory cmd ≡ r → PlacesAreRight (commanded_by w n (name_in cmd) r).driver
    by (Err why) is = all
    by (Ok o) is = commands_right w.driver w.memory cmd o room all is

is_kept : (s : Script) → IsKeptBy (fixed_of s) AnyCommand (λ w. PlacesAreRight w.driver)
is_kept s = record {
  driver = λ w all. events_right (driver_parts w) all;
  controller = λ w all. all;
  command = λ w line cmd can room all. command_right w line cmd room all;
}

pub scripts_place_right : ScriptsPlaceRight
scripts_place_right s fit k = holds_throughout AnyCommand (λ w. PlacesAreRight w.driver) s fit (any_lines s.lines) tt (is_kept s) k
