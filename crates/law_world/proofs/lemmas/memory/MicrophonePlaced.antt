-- A microphone is placed by a driver that was just built: it has one placement, which fits.
use Rattle.std.proofs.Common.{◌≡◌, ℕ, ◌/◌, ◌%◌, ◌≤◌, List, [], ◌∷◌, slice_get, Option, Some, None, Ok, subst, refl, ap, ◌∙◌, arith, lit≤}
use Rattle.law_admission.proofs.Common.{in_one}
use Rattle.law_common.proofs.Numbers.{either_within}
use Rattle.usb_base.specs.declared.commands.Cmd.TheVariants.{OpenEp}
use Rattle.word_mem.specs.Memory.{Mem}
use Rattle.usb_base.specs.declared.rules.Rules.{Rules}
use Rattle.bandwidth.specs.declared.placements.Placement.{Placement}
use Rattle.bandwidth.specs.Placements.{allowed, allowed_by, mask, has}
use Rattle.bandwidth.specs.Sums.{Fits, load, price, cost_in, cost_at, is_active}
use Rattle.bandwidth.specs.Admission.{joined, best, chosen}
use Rattle.bandwidth.proofs.Admits.{best_is, best_none}
use Rattle.bandwidth.proofs.Budgets.{load_joined}
use Rattle.drv_periodic_table.specs.Periodic.{want_of}
use Rattle.drv_table.specs.declared.content.Reserve.{Reserve}
use Rattle.drv_table.specs.Opening.{opening}
use Rattle.drv_table.specs.Offers.{offered, planned_open, accepted_iso}
use Rattle.drv_table.specs.PeriodicOpens.{PassesBefore}
use Rattle.law_admission.specs.Worked.{each_microframe}
use Rattle.law_admission.proofs.Budgets.{opening_keeps_budgets}
use Rattle.law_admission.proofs.Refusals.{asks_best}
use Rattle.law_world.specs.memory.MicrophoneSamples.{microphone}

one_place : (rules : Rules) → allowed_by rules (want_of 0 microphone) ≡ each_microframe ∷ []
unfolding allowed_by allowed mask
one_place rules = refl

its_place : (rules : Rules) (i : ℕ) (p : Placement) → slice_get (allowed_by rules (want_of 0 microphone)) i ≡ Some p → p ≡ each_microframe
its_place rules i p at = in_one i p (subst (λ (ps : List Placement). slice_get ps i ≡ Some p) (one_place rules) at)

-- ---- it fits

its_cost : (m : ℕ) → cost_in (want_of 0 microphone) each_microframe m ≤ 100000000
its_cost m =
    either_within (has 255 m) (price (want_of 0 microphone) 8) _ 100000000 (lit≤ tt) (either_within (has 0 m) (price (want_of 0 microphone) 8) 0 100000000 (lit≤ tt) (lit≤ tt))

its_load : (u : ℕ) → load (joined [] (want_of 0 microphone) each_microframe) u ≤ 100000000
its_load u =
    let sum = load_joined [] (want_of 0 microphone) each_microframe u in
    let own : cost_at u (record { want = want_of 0 microphone; placement = each_microframe }) ≤ 100000000 =
    either_within (is_active each_microframe (u / 8)) (cost_in (want_of 0 microphone) each_microframe (u % 8)) 0 100000000 (its_cost (u % 8)) (lit≤ tt) in
    let none : load [] u ≡ 0 = refl in
    omega (arith, sum, own, none)

it_fits : Fits (joined [] (want_of 0 microphone) each_microframe)
it_fits = record { loads = λ u h. its_load u; frames = λ hub port f h t k. lit≤ tt; bytes = λ hub port u h t k. lit≤ tt }

-- ---- it is accepted

its_best : (rules : Rules) (b : Option Placement) → best rules [] (want_of 0 microphone) ≡ b → b ≡ Some each_microframe
its_best rules None is = absurd (best_none rules [] (want_of 0 microphone) is 0 each_microframe (ap (λ (ps : List Placement). slice_get ps 0) (one_place rules)) it_fits)
its_best rules (Some p) is = let good = best_is rules [] (want_of 0 microphone) p is in ap Some (its_place rules good.place p good.at)

it_passes : (n : ℕ) (room : Reserve) → PassesBefore (opening n room).driver microphone
it_passes n room = record { idle = refl; name = refl; kind = refl }

pub is_accepted : (n : ℕ) (room : Reserve) (m : Mem) → 1 ≤ room.endpoints → offered (opening n room).driver m (OpenEp microphone) ≡ Ok (record { driver = accepted_iso (opening n room).driver microphone each_microframe; memory = m })
is_accepted n room m some =
    asks_best (opening n room).driver m microphone (opening_keeps_budgets n room) some (it_passes n room)
    ∙ ap (λ (b : Option Placement). planned_open (opening n room).driver m microphone (chosen b)) (its_best room.rules (best room.rules [] (want_of 0 microphone)) refl)
