-- Two cameras: the first is placed, and beside it the second breaks the budget of each microframe.
use Rattle.std.proofs.Common.{◌≡◌, ℕ, ◌/◌, ◌%◌, ◌≤◌, ◌-◌, List, [], ◌∷◌, slice_get, Option, Some, None, Ok, Err, subst, refl, ap, ◌∙◌, arith, lit≤}
use Rattle.law_admission.proofs.Common.{in_one}
use Rattle.law_common.proofs.Numbers.{either_within}
use Rattle.usb_base.specs.declared.commands.Cmd.TheVariants.{OpenEp}
use Rattle.usb_base.specs.declared.reports.OfferError.TheVariants.{NoPlacement}
use Rattle.word_mem.specs.Memory.{Mem}
use Rattle.usb_base.specs.declared.rules.Rules.{Rules}
use Rattle.bandwidth.specs.declared.placements.Placement.{Placement}
use Rattle.bandwidth.specs.Placements.{allowed, allowed_by, mask, has}
use Rattle.bandwidth.specs.Sums.{Fits, load, price, cost_in, cost_at, is_active}
use Rattle.bandwidth.specs.Admission.{joined, best, chosen}
use Rattle.bandwidth.proofs.Admits.{best_is, best_none}
use Rattle.bandwidth.proofs.Budgets.{load_joined}
use Rattle.drv_periodic_table.specs.Periodic.{want_of}
use Rattle.drv_table.specs.declared.content.Reserve.{Reserve}
use Rattle.drv_table.specs.Opening.{opening}
use Rattle.drv_table.specs.Offers.{offered, planned_open, accepted_iso}
use Rattle.law_admission.specs.Budgets.{account_of, KeepsBudgets}
use Rattle.drv_table.specs.PeriodicOpens.{PassesBefore}
use Rattle.law_admission.specs.Worked.{camera, each_microframe}
use Rattle.law_admission.proofs.Budgets.{opening_keeps_budgets}
use Rattle.law_admission.proofs.Refusals.{asks_best, refused_where_none_fits}

one_place : (rules : Rules) (e num : ℕ) → allowed_by rules (want_of e (camera num)) ≡ each_microframe ∷ []
unfolding allowed_by allowed mask
one_place rules e num = refl

its_place : (rules : Rules) (e num i : ℕ) (p : Placement) → slice_get (allowed_by rules (want_of e (camera num))) i ≡ Some p → p ≡ each_microframe
its_place rules e num i p at = in_one i p (subst (λ (ps : List Placement). slice_get ps i ≡ Some p) (one_place rules e num) at)

-- ---- one fits

its_cost : (e num m : ℕ) → cost_in (want_of e (camera num)) each_microframe m ≤ 61655136
its_cost e num m =
    either_within (has 255 m) 61655136 _ 61655136 (lit≤ tt) (either_within (has 0 m) (price (want_of e (camera num)) 188) 0 61655136 (lit≤ tt) (lit≤ tt))

one_load : (u : ℕ) → load (joined [] (want_of 0 (camera 1)) each_microframe) u ≤ 61655136
one_load u =
    let sum = load_joined [] (want_of 0 (camera 1)) each_microframe u in
    let own : cost_at u (record { want = want_of 0 (camera 1); placement = each_microframe }) ≤ 61655136 =
    either_within (is_active each_microframe (u / 8)) (cost_in (want_of 0 (camera 1)) each_microframe (u % 8)) 0 61655136 (its_cost 0 1 (u % 8)) (lit≤ tt) in
    let none : load [] u ≡ 0 = refl in
    omega (arith, sum, own, none)

one_fits : Fits (joined [] (want_of 0 (camera 1)) each_microframe)
one_fits = record {
  loads = λ u h. omega (arith, one_load u);
  frames = λ hub port f h t k. lit≤ tt;
  bytes = λ hub port u h t k. lit≤ tt;
}

-- ---- the first

opened_new : (n : ℕ) (room : Reserve) → PassesBefore (opening n room).driver (camera 1)
opened_new n room = record { idle = refl; name = refl; kind = refl }

first_of : (rules : Rules) (b : Option Placement) → best rules [] (want_of 0 (camera 1)) ≡ b → b ≡ Some each_microframe
first_of rules None is =
    absurd (best_none rules [] (want_of 0 (camera 1)) is 0 each_microframe (ap (λ (ps : List Placement). slice_get ps 0) (one_place rules 0 1)) one_fits)
first_of rules (Some p) is =
    let good = best_is rules [] (want_of 0 (camera 1)) p is in ap Some (its_place rules 0 1 good.place p good.at)

pub first_accepted : (n : ℕ) (room : Reserve) (m : Mem) → 1 ≤ room.endpoints → offered (opening n room).driver m (OpenEp (camera 1)) ≡ Ok (record { driver = accepted_iso (opening n room).driver (camera 1) each_microframe; memory = m })
first_accepted n room m some =
    asks_best (opening n room).driver m (camera 1) (opening_keeps_budgets n room) some (opened_new n room)
    ∙ ap (λ (b : Option Placement). planned_open (opening n room).driver m (camera 1) (chosen b)) (first_of room.rules (best room.rules [] (want_of 0 (camera 1))) refl)

-- ---- the second

first_kept : (n : ℕ) (room : Reserve) → 1 ≤ room.endpoints → KeepsBudgets (account_of (accepted_iso (opening n room).driver (camera 1) each_microframe))
first_kept n room some = record { fits = one_fits; room = omega (arith, some) }

second_new : (n : ℕ) (room : Reserve) → PassesBefore (accepted_iso (opening n room).driver (camera 1) each_microframe) (camera 2)
second_new n room = record { idle = refl; name = refl; kind = refl }

one_left : (room : Reserve) → 2 ≤ room.endpoints → 1 ≤ room.endpoints - 1
one_left room two = omega (arith, two)

too_much : load (joined (joined [] (want_of 0 (camera 1)) each_microframe) (want_of 1 (camera 2)) each_microframe) 0 ≡ 123310272
too_much = refl

breaks : (p : Placement) → p ≡ each_microframe → Fits (joined (joined [] (want_of 0 (camera 1)) each_microframe) (want_of 1 (camera 2)) p) → ⊥
breaks p is fit =
    let now = subst (λ (q : Placement). Fits (joined (joined [] (want_of 0 (camera 1)) each_microframe) (want_of 1 (camera 2)) q)) is fit in
    let over = now.loads 0 (lit≤ tt) in
    omega (arith, too_much, over)

pub second_refused : (n : ℕ) (room : Reserve) (m : Mem) → 2 ≤ room.endpoints → offered (accepted_iso (opening n room).driver (camera 1) each_microframe) m (OpenEp (camera 2)) ≡ Err NoPlacement
second_refused n room m two =
    (refused_where_none_fits (accepted_iso (opening n room).driver (camera 1) each_microframe) m (camera 2) (first_kept n room (omega (arith, two))) (one_left room two) (second_new n room)).1
    (λ i p at fit. breaks p (its_place room.rules 1 2 i p at) fit)
