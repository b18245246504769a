-- What the plan has after an event of the driver: all that it had, but for the placement of the endpoint that is given back.
use Rattle.std.proofs.Common.{◌≡◌, ◌≢◌, ℕ, zero, suc, Bool, true, false, cond, List, [], ◌∷◌, filter, slice_get, Option, Some, None, ap, sym, subst, ◌∙◌}
use Rattle.std.proofs.lemmas.Bool.{false≢true}
use Rattle.std.proofs.lemmas.Option.{same_Some}
use Rattle.law_common.proofs.Numbers.{not_its}
use Rattle.bandwidth.specs.declared.placements.Placement.{Placement}
use Rattle.bandwidth.specs.declared.placements.Placed.{Placed}
use Rattle.drv_periodic_table.specs.declared.content.Removed.TheVariants as removed
use Rattle.drv_table.specs.declared.content.Endpoint.{Endpoint}
use Rattle.drv_table.specs.declared.rows.DriverRow.{DriverRow}
use Rattle.drv_table.specs.declared.rows.DriverRow.TheVariants as rows
use Rattle.drv_table.specs.DriverContent.{DriverContent}
use Rattle.drv_table.specs.Parts.{Parts}
use Rattle.drv_table.specs.Rows.{after_driver_row}
use Rattle.law_admission.specs.Budgets.{Account, account_of, taken_out, account_after}
use Rattle.law_admission.proofs.Events.{events_take_out_what_left}
use Rattle.law_driver.specs.planned_endpoints.Planned.{IsPlanned}
use Rattle.law_driver.proofs.lemmas.planned_endpoints.Laws.{endpoints_count_until_given_back, what_counts_is_an_endpoint}
use Rattle.law_budgets.specs.visit_prices.Spent.{IsAmong, placed_as}

-- ---- lists

further : (y z : Placed) (ys : List Placed) → IsAmong ys y → IsAmong (z ∷ ys) y
further y z ys at = record { place = suc at.place; there = at.there }

here_or : (x y : Placed) (xs ys : List Placed) → (IsAmong ys y → IsAmong xs y) → (i : ℕ) → slice_get (x ∷ ys) i ≡ Some y → IsAmong (x ∷ xs) y
here_or x y xs ys wider zero is = record { place = 0; there = is }
here_or x y xs ys wider (suc i) is = further y x xs (wider (record { place = i; there = is }))

less_by : (x y : Placed) (xs ys : List Placed) (b : Bool) → (IsAmong ys y → IsAmong xs y) → IsAmong (cond b (x ∷ ys) ys) y → IsAmong (x ∷ xs) y
less_by x y xs ys true wider at = here_or x y xs ys wider at.place at.there
less_by x y xs ys false wider at = further y x xs (wider at)

less : (test : Placed → Bool) (xs : List Placed) (y : Placed) → IsAmong (filter test xs) y → IsAmong xs y
less test [] y at = at
less test (x ∷ xs) y at = less_by x y xs (filter test xs) (test x) (λ k. less test xs y k) at

more : (test : Placed → Bool) (xs : List Placed) (y : Placed) (i : ℕ) → slice_get xs i ≡ Some y → test y ≡ true → IsAmong (filter test xs) y
more test [] y i is on = absurd (cc)
more test (x ∷ xs) y zero is on = by (test x) (ap test (same_Some x y is) ∙ on)
  where
    by : (b : Bool) → b ≡ true → IsAmong (cond b (x ∷ filter test xs) (filter test xs)) y
    by true e = record { place = 0; there = is }
    by false e = absurd (false≢true e)
more test (x ∷ xs) y (suc i) is on = by (test x) (more test xs y i is on)
  where
    by : (b : Bool) → IsAmong (filter test xs) y → IsAmong (cond b (x ∷ filter test xs) (filter test xs)) y
    by true k = further y x (filter test xs) k
    by false k = k

-- ---- the account

abbrev Plan : Account → List Placed
Plan a = a.plan.placed

taken_less : (a : Account) (e : ℕ) (o : Option Endpoint) (y : Placed) → IsAmong (Plan (taken_out a e o)) y → IsAmong (Plan a) y
taken_less a e None y at = at
taken_less a e (Some x) y at = less _ a.plan.placed y at

taken_more : (a : Account) (e : ℕ) (o : Option Endpoint) (y : Placed) → y.want.id ≢ e → IsAmong (Plan a) y → IsAmong (Plan (taken_out a e o)) y
taken_more a e None y differs at = at
taken_more a e (Some x) y differs at = more _ a.plan.placed y at.place at.there (not_its y.want.id e differs)

after_less : (row : DriverRow) (d : DriverContent) (y : Placed) → IsAmong (Plan (account_after row d)) y → IsAmong d.periodic.plan.placed y
after_less (rows.ReleaseRemoved (removed.Endpoint e)) d y at = taken_less (account_of d) e (slice_get d.endpoints e) y at
after_less _ d y at = at

after_more : (row : DriverRow) (d : DriverContent) (y : Placed) → (row ≢ rows.ReleaseRemoved (removed.Endpoint y.want.id)) → IsAmong d.periodic.plan.placed y → IsAmong (Plan (account_after row d)) y
after_more (rows.ReleaseRemoved (removed.Endpoint e)) d y other at =
    taken_more (account_of d) e (slice_get d.endpoints e) y (λ same. other (ap (λ (i : ℕ). rows.ReleaseRemoved (removed.Endpoint i)) (sym same))) at
after_more _ d y other at = at

pub row_less : (row : DriverRow) (p : Parts) (y : Placed) → IsAmong (after_driver_row row p).driver.periodic.plan.placed y → IsAmong p.driver.periodic.plan.placed y
row_less row p y at = after_less row p.driver y (subst (λ (a : Account). IsAmong (Plan a) y) (events_take_out_what_left row p) at)

pub row_more : (row : DriverRow) (p : Parts) (y : Placed) → (row ≢ rows.ReleaseRemoved (removed.Endpoint y.want.id)) → IsAmong p.driver.periodic.plan.placed y
    → IsAmong (after_driver_row row p).driver.periodic.plan.placed y
row_more row p y other at =
    subst (λ (a : Account). IsAmong (Plan a) y) (sym (events_take_out_what_left row p)) (after_more row p.driver y other at)

-- ---- who is in the plan wasn't given back

pub planned_kept : (d : DriverContent) (e : ℕ) (x : Endpoint) (y : Placed) → IsPlanned d → IsAmong d.periodic.plan.placed y → y.want.id ≡ e → slice_get d.endpoints e ≡ Some x → x.gone ≡ false
planned_kept d e x y is at id here =
    let k = what_counts_is_an_endpoint d at.place y is at.there in
    ap (λ (z : Endpoint). z.gone) (same_Some x k.endpoint (sym here ∙ ap (slice_get d.endpoints) (sym id) ∙ k.here)) ∙ k.kept

pub in_plan : (d : DriverContent) (e : ℕ) (x : Endpoint) (p : Placement) → IsPlanned d → slice_get d.endpoints e ≡ Some x → x.gone ≡ false → x.placement ≡ Some p
    → IsAmong d.periodic.plan.placed (placed_as e x.desc p)
in_plan d e x p is here kept placed = let at =
    endpoints_count_until_given_back d e x p is here kept placed in record { place = at.place; there = at.there }
