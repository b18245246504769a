-- What a row that gives an endpoint back leaves of the command, and who leaves frames.
use Rattle.std.proofs.Common.{◌≡◌, ℕ, ◌+◌, ◌≤◌, ◌||◌, not, Bool, true, false, List, [], ◌∷◌, slice_get, Option}
use Rattle.std.proofs.Common.{Some, if◌then◌else◌, ap, refl, sym, subst, ◌∙◌, arith}
use Rattle.std.proofs.lemmas.Bool.{eq-eqb}
use Rattle.std.proofs.lemmas.Option.{same_Some}
use Rattle.law_descriptors.proofs.Returning.{none_some}
use Rattle.claims_driver.specs.Leaving.{times, endpoint_before, endpoints_in}
use Rattle.drv_periodic_table.specs.declared.content.Removal.{Removal}
use Rattle.drv_periodic_table.specs.declared.content.Removed.{Removed}
use Rattle.drv_periodic_table.specs.declared.content.Removed.TheVariants as removed
use Rattle.drv_table.specs.declared.content.Endpoint.{Endpoint}
use Rattle.drv_table.specs.declared.rows.DriverRow.TheVariants as rows
use Rattle.drv_table.specs.DriverContent.{DriverContent}
use Rattle.drv_table.specs.Kinds.{is_iso}
use Rattle.drv_table.specs.Releases.{is_told, after_endpoint}
use Rattle.drv_table.specs.Parts.{Parts}
use Rattle.drv_table.specs.Rows.{after_driver_row}
use Rattle.drv_table.specs.Words.{is_control}
use Rattle.law_driver.specs.queued_drivers.Queued.{with_queue, without_queue as without_end, queued_kind, queued_endpoint}

-- ---- who leaves frames is periodic

pub first_removed : (rs : List Removal) (r : Removal) (e : ℕ) → slice_get rs 0 ≡ Some r → r.what ≡ removed.Endpoint e
    → 1 ≤ times e (endpoints_in rs)
first_removed [] r e first is = absurd (none_some r first)
first_removed (u ∷ us) r e first is =
    let same : u ≡ r = same_Some u r first in
    subst (λ (what : Removed). 1 ≤ times e (endpoint_before what (endpoints_in us))) (sym (ap (λ (z : Removal). z.what) same ∙ is))
    (subst (λ (b : Bool). 1 ≤ (if b then 1 else 0) + times e (endpoints_in us)) (sym (eq-eqb e e refl)) (omega arith))

pub periodic_by : (a b c : Bool) → 1 ≤ (if a || b || not c then 0 else 1) → c ≡ true
periodic_by a b true some = refl
periodic_by true b false some = absurd (omega (arith, some))
periodic_by false true false some = absurd (omega (arith, some))
periodic_by false false false some = absurd (omega (arith, some))

-- ---- a control endpoint is told so by its way

pub told_control : (y : Endpoint) → is_control (queued_endpoint y).desc.kind ≡ is_control (queued_kind y.desc.name.way)
told_control y = by (is_iso y.desc.kind)
  where
    by : (b : Bool) → is_control (if b then without_end y else with_queue y).desc.kind ≡ is_control (queued_kind y.desc.name.way)
    by true = refl
    by false = refl

-- ---- no command is unfinished

pub either_command : (b : Bool) (c d : DriverContent) → c.command ≡ d.command → (if b then c else d).command ≡ d.command
either_command true c d same = same
either_command false c d same = refl

pub released_idle : (p : Parts) (e : ℕ) (x : Endpoint) → slice_get p.driver.endpoints e ≡ Some x
    → (after_driver_row (rows.ReleaseEndpoint e) p).driver.command ≡ p.driver.command
released_idle p e x here =
    ap (λ (o : Option Endpoint). (after_endpoint p e o).driver.command) here
    ∙ either_command (is_told x) _ p.driver refl
