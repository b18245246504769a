-- The plan has the placements of the endpoints: at the opening, after each command and after each event.
use Rattle.std.proofs.Common.{◌≡◌, ℕ, ◌+◌, Bool, true, false, List, [], ◌∷◌, ◌++◌, length, slice_get, Option, Some, None, Ok, refl, ap, sym, subst, ◌∙◌, arith}
use Rattle.std.specs.Prelude.{filter, is_some}
use Rattle.usb_base.specs.declared.endpoints.EpDesc.{EpDesc}
use Rattle.usb_base.specs.declared.commands.Cmd.{Cmd}
use Rattle.usb_base.specs.declared.commands.Cmd.TheVariants as commands
use Rattle.word_mem.specs.Memory.{Mem}
use Rattle.bandwidth.specs.declared.placements.Placement.{Placement}
use Rattle.bandwidth.specs.declared.placements.Placed.{Placed}
use Rattle.drv_periodic_table.specs.declared.content.Removed.TheVariants as removed
use Rattle.drv_periodic_table.specs.Periodic.{is_periodic, want_of}
use Rattle.drv_table.specs.declared.content.Endpoint.{Endpoint}
use Rattle.drv_table.specs.declared.content.Reserve.{Reserve}
use Rattle.drv_table.specs.declared.rows.DriverRow.{DriverRow}
use Rattle.drv_table.specs.declared.rows.DriverRow.TheVariants as rows
use Rattle.drv_table.specs.DriverContent.{DriverContent}
use Rattle.drv_table.specs.Opening.{opening}
use Rattle.drv_table.specs.Accepting.{Offered}
use Rattle.drv_table.specs.Offers.{offered, placed_endpoint}
use Rattle.drv_table.specs.Parts.{Parts}
use Rattle.drv_table.specs.Rows.{driver_row, after_driver_row}
use Rattle.law_driver.specs.run_owners.Due.{IsDue}
use Rattle.claims_driver.specs.Leaving.{HasOwners}
use Rattle.law_driver.proofs.lemmas.run_owners.Reasons.{each_event_is_due}
use Rattle.law_driver.proofs.lemmas.run_owners.Leaves.{first_left}
use Rattle.law_admission.specs.Budgets.{Account, account_of, taken_out, account_after}
use Rattle.law_admission.specs.Opens.{OpenAfter}
use Rattle.law_admission.proofs.Events.{events_take_out_what_left}
use Rattle.law_admission.proofs.Commands.{commands_place_the_best}
use Rattle.law_driver.specs.planned_endpoints.Planned.{placed_by, planned, IsPlanned, IsEndpointOf}
use Rattle.claims_driver.specs.DueMembers.{IsPlannedAt}
use Rattle.law_driver.proofs.lemmas.planned_endpoints.Lists.{other, one_more, has_its_own, comes_of}
use Rattle.law_driver.proofs.lemmas.planned_endpoints.Events.{placements, without_one, placements_after, IfRing, placements_of_event}
use Rattle.law_driver.proofs.lemmas.planned_endpoints.Commands.{KeepsIf, placements_of_command}

pub opening_plan_is_of_its_endpoints : (n : ℕ) (room : Reserve) → IsPlanned (opening n room).driver
opening_plan_is_of_its_endpoints n room = refl

-- ---- a command

same_plan : (d : DriverContent) (o : Offered) → IsPlanned d → account_of o.driver ≡ account_of d → placements o.driver ≡ placements d → IsPlanned o.driver
same_plan d o old plan same = ap (λ (a : Account). a.plan.placed) plan ∙ old ∙ sym same

open_planned : (d : DriverContent) (x : EpDesc) (o : Offered) (b : Bool) → IsPlanned d → OpenAfter d x o b → KeepsIf d b o → IsPlanned o.driver
open_planned d x o true old why keeps =
    let at : 0 + length d.endpoints ≡ length d.endpoints = omega arith in
    ap (λ (a : Account). a.plan.placed) why.account
    ∙ ap (λ (ps : List Placed). ps ++ record { want = want_of (length d.endpoints) x; placement = why.placement } ∷ []) old
    ∙ sym
    (ap (planned 0) why.endpoints
    ∙ one_more 0 d.endpoints (placed_endpoint x why.placement why.queue why.dummy)
    ∙ ap (λ k. planned 0 d.endpoints ++ placed_by k x false (Some why.placement)) at)
open_planned d x o false old why keeps = ap (λ (a : Account). a.plan.placed) why ∙ old ∙ sym keeps

pub commands_keep_the_plan : (d : DriverContent) (m : Mem) (cmd : Cmd) (o : Offered) → IsPlanned d → offered d m cmd ≡ Ok o
    → IsPlanned o.driver
commands_keep_the_plan d m (commands.OpenEp x) o old is =
    open_planned d x o (is_periodic x.kind) old (commands_place_the_best d m (commands.OpenEp x) o is) (placements_of_command d m (commands.OpenEp x) o is)
commands_keep_the_plan d m (commands.Get name len by) o old is =
    same_plan d o old (commands_place_the_best d m (commands.Get name len by) o is)
    (placements_of_command d m (commands.Get name len by) o is)
commands_keep_the_plan d m (commands.Put name bytes by) o old is =
    same_plan d o old (commands_place_the_best d m (commands.Put name bytes by) o is) (placements_of_command d m (commands.Put name bytes by) o is)
commands_keep_the_plan d m (commands.Control name setup bytes) o old is =
    same_plan d o old (commands_place_the_best d m (commands.Control name setup bytes) o is) (placements_of_command d m (commands.Control name setup bytes) o is)
commands_keep_the_plan d m (commands.Iso name count len seed) o old is =
    same_plan d o old (commands_place_the_best d m (commands.Iso name count len seed) o is) (placements_of_command d m (commands.Iso name count len seed) o is)
commands_keep_the_plan d m (commands.Cancel name) o old is =
    same_plan d o old (commands_place_the_best d m (commands.Cancel name) o is) (placements_of_command d m (commands.Cancel name) o is)
commands_keep_the_plan d m (commands.Clear name) o old is =
    same_plan d o old (commands_place_the_best d m (commands.Clear name) o is) (placements_of_command d m (commands.Clear name) o is)
commands_keep_the_plan d m (commands.Reset port) o old is =
    same_plan d o old (commands_place_the_best d m (commands.Reset port) o is) (placements_of_command d m (commands.Reset port) o is)
commands_keep_the_plan d m (commands.Give port) o old is =
    same_plan d o old (commands_place_the_best d m (commands.Give port) o is) (placements_of_command d m (commands.Give port) o is)
commands_keep_the_plan d m (commands.DiskRead addr lba count) o old is =
    same_plan d o old (commands_place_the_best d m (commands.DiskRead addr lba count) o is) (placements_of_command d m (commands.DiskRead addr lba count) o is)
commands_keep_the_plan d m (commands.DiskWrite addr lba bytes) o old is =
    same_plan d o old (commands_place_the_best d m (commands.DiskWrite addr lba bytes) o is) (placements_of_command d m (commands.DiskWrite addr lba bytes) o is)
commands_keep_the_plan d m (commands.Revive addr) o old is =
    same_plan d o old (commands_place_the_best d m (commands.Revive addr) o is) (placements_of_command d m (commands.Revive addr) o is)

-- ---- an event

none_of : (o : Option Placement) → is_some o ≡ false → o ≡ None
none_of None e = refl
none_of (Some p) e = absurd (cc)

pub some_is : (x y : Endpoint) → ◌≡◌ {A = Option Endpoint} (Some x) (Some y) → x ≡ y
some_is x y e = cc

ring_due : (p : Parts) (row : DriverRow) → IsDue p row → HasOwners p.driver → IfRing row p.driver
ring_due p (rows.ReleaseEndpoint e) due has = λ x here.
    let left = first_left e due.first has.orderly in
    let same : left.endpoint ≡ x = some_is left.endpoint x (sym left.here ∙ here) in
    none_of x.placement ((has.orderly.steady e x here).placed ∙ subst (λ (y : Endpoint). is_periodic y.desc.kind ≡ false) same left.ring)
ring_due p _ due has = tt

out_of_plan : (a : Account) (ps : List Placed) (e : ℕ) (o : Option Endpoint) → a.plan.placed ≡ ps → (taken_out a e o).plan.placed ≡ without_one ps e o
out_of_plan a ps e None is = is
out_of_plan a ps e (Some x) is = ap (filter (other e)) is

after_planned : (row : DriverRow) (d : DriverContent) → IsPlanned d → (account_after row d).plan.placed ≡ placements_after row d
after_planned (rows.ReleaseRemoved (removed.Endpoint e)) d old = out_of_plan (account_of d) (placements d) e (slice_get d.endpoints e) old
after_planned _ d old = old

pub events_keep_the_plan : (p : Parts) → HasOwners p.driver → IsPlanned p.driver → IsPlanned (after_driver_row (driver_row p) p).driver
events_keep_the_plan p has old =
    ap (λ (a : Account). a.plan.placed) (events_take_out_what_left (driver_row p) p)
    ∙ after_planned (driver_row p) p.driver old
    ∙ sym (placements_of_event (driver_row p) p (ring_due p (driver_row p) (each_event_is_due p) has))

-- ---- what that says

pub endpoints_count_until_given_back : (d : DriverContent) (e : ℕ) (x : Endpoint) (p : Placement) → IsPlanned d → slice_get d.endpoints e ≡ Some x → x.gone ≡ false → x.placement ≡ Some p → IsPlannedAt d e x p
endpoints_count_until_given_back d e x p is here kept placed =
    let own = has_its_own 0 e e d.endpoints x p (omega arith) here kept placed in
    record { place = own.place; there = ap (λ (ps : List Placed). slice_get ps own.place) is ∙ own.there }

pub what_counts_is_an_endpoint : (d : DriverContent) (i : ℕ) (y : Placed) → IsPlanned d → slice_get d.periodic.plan.placed i ≡ Some y → IsEndpointOf d y
what_counts_is_an_endpoint d i y is at =
    let of = comes_of 0 d.endpoints y i (sym (ap (λ (ps : List Placed). slice_get ps i) is) ∙ at) in
    let id : y.want.id ≡ of.number = omega (arith, of.id) in
    record {
      endpoint = of.endpoint;
      here = ap (slice_get d.endpoints) id ∙ of.here;
      kept = of.kept;
      placement = of.placement;
      want = of.want;
    }
