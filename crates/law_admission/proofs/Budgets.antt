-- The budgets hold at the opening, and each command and each event keeps them.
use Rattle.std.proofs.Common.{◌≡◌, ℕ, ◌+◌, ◌≤◌, Bool, true, false, List, [], ◌∷◌, ◌++◌, length, slice_get, Option, Some, None, Ok, subst, sym, refl, ap, ◌∙◌, arith}
use Rattle.std.specs.Prelude.{filter, not, nat_eq}
use Rattle.std.proofs.lemmas.List.{length-append}
use Rattle.std.proofs.lemmas.List.Filters.{length-filter_both}
use Rattle.usb_base.specs.declared.endpoints.EpDesc.{EpDesc}
use Rattle.usb_base.specs.declared.commands.Cmd.{Cmd}
use Rattle.usb_base.specs.declared.commands.Cmd.TheVariants as commands
use Rattle.word_mem.specs.Memory.{Mem}
use Rattle.bandwidth.specs.declared.placements.Placed.{Placed}
use Rattle.bandwidth.proofs.Budgets.{fits_fewer, fits_none}
use Rattle.drv_periodic_table.specs.declared.content.Removed.TheVariants as removed
use Rattle.drv_periodic_table.specs.Periodic.{is_periodic}
use Rattle.drv_table.specs.declared.content.Endpoint.{Endpoint}
use Rattle.drv_table.specs.declared.content.Reserve.{Reserve}
use Rattle.drv_table.specs.declared.rows.DriverRow.{DriverRow}
use Rattle.drv_table.specs.declared.rows.DriverRow.TheVariants as rows
use Rattle.drv_table.specs.DriverContent.{DriverContent}
use Rattle.drv_table.specs.Opening.{opening}
use Rattle.drv_table.specs.Accepting.{Offered}
use Rattle.drv_table.specs.Offers.{IsOffered, offered}
use Rattle.drv_table.specs.Parts.{Parts}
use Rattle.drv_table.specs.Rows.{driver_row, after_driver_row}
use Rattle.law_admission.specs.Budgets.{Account, account_of, KeepsBudgets, taken_out, account_after}
use Rattle.drv_table.specs.PeriodicOpens.{asked}
use Rattle.law_admission.specs.Opens.{OpenAfter, AccountAfter}
use Rattle.law_admission.proofs.Events.{events_take_out_what_left}
use Rattle.law_admission.proofs.Commands.{commands_place_the_best}

pub opening_keeps_budgets : (n : ℕ) (room : Reserve) → KeepsBudgets (account_of (opening n room).driver)
opening_keeps_budgets n room = record { fits = fits_none; room = omega arith }

-- ---- a command

one_more : (placed : List Placed) (x : Placed) → length (placed ++ x ∷ []) ≡ length placed + 1
one_more placed x = length-append placed (x ∷ [])

open_kept : (d : DriverContent) (x : EpDesc) (o : Offered) (b : Bool) → 1 ≤ d.room.endpoints → KeepsBudgets (account_of d) → OpenAfter d x o b → KeepsBudgets (account_of o.driver)
open_kept d x o true some old why =
    subst KeepsBudgets (sym why.account)
    (record {
      fits = why.best.fits;
      room = omega (arith, one_more d.periodic.plan.placed (record { want = asked d x; placement = why.placement }), old.room, some);
    })
open_kept d x o false some old why =
    subst KeepsBudgets (sym why) (record { fits = old.fits; room = omega (arith, old.room, some) })

pub commands_keep_budgets : (d : DriverContent) (m : Mem) (cmd : Cmd) (o : Offered) → IsOffered d.room cmd → KeepsBudgets (account_of d) → offered d m cmd ≡ Ok o → KeepsBudgets (account_of o.driver)
commands_keep_budgets d m (commands.OpenEp x) o ok old is =
    open_kept d x o (is_periodic x.kind) ok.0 old (commands_place_the_best d m (commands.OpenEp x) o is)
commands_keep_budgets d m (commands.Get name len by) o ok old is =
    subst KeepsBudgets (sym (commands_place_the_best d m (commands.Get name len by) o is)) old
commands_keep_budgets d m (commands.Put name bytes by) o ok old is =
    subst KeepsBudgets (sym (commands_place_the_best d m (commands.Put name bytes by) o is)) old
commands_keep_budgets d m (commands.Control name setup bytes) o ok old is =
    subst KeepsBudgets (sym (commands_place_the_best d m (commands.Control name setup bytes) o is)) old
commands_keep_budgets d m (commands.Iso name count len seed) o ok old is =
    subst KeepsBudgets (sym (commands_place_the_best d m (commands.Iso name count len seed) o is)) old
commands_keep_budgets d m (commands.Cancel name) o ok old is =
    subst KeepsBudgets (sym (commands_place_the_best d m (commands.Cancel name) o is)) old
commands_keep_budgets d m (commands.Clear name) o ok old is =
    subst KeepsBudgets (sym (commands_place_the_best d m (commands.Clear name) o is)) old
commands_keep_budgets d m (commands.Reset port) o ok old is =
    subst KeepsBudgets (sym (commands_place_the_best d m (commands.Reset port) o is)) old
commands_keep_budgets d m (commands.Give port) o ok old is =
    subst KeepsBudgets (sym (commands_place_the_best d m (commands.Give port) o is)) old
commands_keep_budgets d m (commands.DiskRead addr lba count) o ok old is =
    subst KeepsBudgets (sym (commands_place_the_best d m (commands.DiskRead addr lba count) o is)) old
commands_keep_budgets d m (commands.DiskWrite addr lba bytes) o ok old is =
    subst KeepsBudgets (sym (commands_place_the_best d m (commands.DiskWrite addr lba bytes) o is)) old
commands_keep_budgets d m (commands.Revive addr) o ok old is =
    subst KeepsBudgets (sym (commands_place_the_best d m (commands.Revive addr) o is)) old

-- ---- an event

no_more : (test : Placed → Bool) (placed : List Placed) → length (filter test placed) ≤ length placed
no_more test placed = omega (arith, length-filter_both test (λ x. not (test x)) (λ x. refl) placed)

out_kept : (a : Account) (e : ℕ) (o : Option Endpoint) → KeepsBudgets a → KeepsBudgets (taken_out a e o)
out_kept a e None old = old
out_kept a e (Some x) old = record {
  fits = fits_fewer (λ y. not (nat_eq y.want.id e)) a.plan.placed old.fits;
  room = omega (arith, no_more (λ y. not (nat_eq y.want.id e)) a.plan.placed, old.room);
}

after_kept : (row : DriverRow) (d : DriverContent) → KeepsBudgets (account_of d) → KeepsBudgets (account_after row d)
after_kept (rows.ReleaseRemoved (removed.Endpoint e)) d old = out_kept (account_of d) e (slice_get d.endpoints e) old
after_kept _ d old = old

pub events_keep_budgets : (p : Parts) → KeepsBudgets (account_of p.driver)
    → KeepsBudgets (account_of (after_driver_row (driver_row p) p).driver)
events_keep_budgets p old = subst KeepsBudgets (sym (events_take_out_what_left (driver_row p) p)) (after_kept (driver_row p) p.driver old)

-- ---- placements follow the same rules

open_rules : (d : DriverContent) (x : EpDesc) (o : Offered) (b : Bool) → OpenAfter d x o b → o.driver.periodic.plan.rules ≡ d.periodic.plan.rules
open_rules d x o true why = ap (λ (a : Account). a.plan.rules) why.account
open_rules d x o false why = ap (λ (a : Account). a.plan.rules) why

after_rules : (d : DriverContent) (cmd : Cmd) (o : Offered) → AccountAfter d cmd o → o.driver.periodic.plan.rules ≡ d.periodic.plan.rules
after_rules d (commands.OpenEp x) o why = open_rules d x o (is_periodic x.kind) why
after_rules d _ o why = ap (λ (a : Account). a.plan.rules) why

pub command_rules : (d : DriverContent) (m : Mem) (cmd : Cmd) (o : Offered) → offered d m cmd ≡ Ok o → o.driver.periodic.plan.rules ≡ d.periodic.plan.rules
command_rules d m cmd o is = after_rules d cmd o (commands_place_the_best d m cmd o is)

out_rules : (a : Account) (e : ℕ) (o : Option Endpoint) → (taken_out a e o).plan.rules ≡ a.plan.rules
out_rules a e None = refl
out_rules a e (Some x) = refl

row_rules : (row : DriverRow) (d : DriverContent) → (account_after row d).plan.rules ≡ d.periodic.plan.rules
row_rules (rows.ReleaseRemoved (removed.Endpoint e)) d = out_rules (account_of d) e (slice_get d.endpoints e)
row_rules _ d = refl

pub event_rules : (p : Parts) → (after_driver_row (driver_row p) p).driver.periodic.plan.rules ≡ p.driver.periodic.plan.rules
event_rules p = ap (λ (a : Account). a.plan.rules) (events_take_out_what_left (driver_row p) p) ∙ row_rules (driver_row p) p.driver
