-- The walk comes to each interrupt endpoint's queue head in its frames.
use Rattle.std.proofs.Common.{◌≡◌, ℕ, ◌*◌, ◌%◌, ◌<◌, true, List, [], Option, Some, None, refl, sym, subst, inl, inr}
use Rattle.std.specs.Prelude.{nat_eq}
use Rattle.std.proofs.lemmas.Bool.{eqb-true, eq-eqb}
use Rattle.law_microframes.proofs.Common.{in_list}
use Rattle.script_types.specs.declared.scripts.Script.{Script}
use Rattle.script_text.specs.Faults.{Spells}
use Rattle.script_fits.proofs.Texts.{spelled_fits}
use Rattle.law_scripts.proofs.lemmas.script_bytes.Texts.{a_text_spells_bytes}
use Rattle.bandwidth.specs.declared.placements.Placement.{Placement}
use Rattle.bandwidth.specs.Placements.{frame_period}
use Rattle.bandwidth.specs.Sums.{is_active}
use Rattle.drv_periodic_table.specs.Periodic.{queue_member}
use Rattle.periodic_walk.specs.declared.chain.ChainRow.{ChainRow}
use Rattle.periodic_walk.specs.declared.state.Hand.{Hand}
use Rattle.periodic_walk.specs.Chain.{chain_row}
use Rattle.hc_core.specs.declared.controller.ControllerRow.{ControllerRow}
use Rattle.hc_core.specs.declared.controller.ControllerRow.TheVariants as rows
use Rattle.bus_world.specs.Budgets.{moment}
use Rattle.bus_world.specs.World.{World, controller_parts, controller_row}
use Rattle.claims_world.specs.Visits.{IsInChain, began, frame_in, fetched_by, visited_too, visits_at, visits_after, visits_next, visited}
use Rattle.claims_world.specs.Visits.{HasVisited}
use Rattle.law_world.specs.memory.Mixed.{IsMixedWorld}
use Rattle.law_world.proofs.lemmas.memory.Carrying.{carrying, both, both_carried}
use Rattle.law_world.proofs.lemmas.memory.FittingTexts.{texts_open_fitting}
use Rattle.law_world.proofs.lemmas.memory.Texts.{texts_fit}
use Rattle.law_world.proofs.lemmas.memory.Together.{texts_stay_mixed}
use Rattle.law_microframes.proofs.lemmas.visits.AheadMoments.{began_is_mixed}
use Rattle.law_microframes.proofs.lemmas.visits.VisitsKept.{texts_visit_each}
use Rattle.law_microframes.proofs.lemmas.visits.VisitTexts.{lines_fit}
use Rattle.claims_world.specs.SoFar.{SoFar, nothing_yet, found_too, found_next, so_far_after, so_far_next, so_far, HasFound}
use Rattle.claims_world.specs.Coming.{IsInItsFrames, ComesToEach}
use Rattle.law_microframes.specs.due.Laws.{TextsComeToEach}
use Rattle.law_microframes.proofs.lemmas.due.FetchedKinds.{begins_there, its_member}
use Rattle.law_microframes.proofs.lemmas.due.Linked.{in_chain_of}

turned : (a b : ℕ) → nat_eq a b ≡ true → nat_eq b a ≡ true
turned a b same = eq-eqb b a (sym (eqb-true a b same))

-- its queue head is linked in each of its frames
pub its_frames_lead : (w : World) (e q : ℕ) (p : Placement) (f : ℕ) → IsMixedWorld w → IsInItsFrames w.driver e q p → f < 1024
    → is_active p f ≡ true → IsInChain w f (32 * q)
its_frames_lead w e q p f k i low active =
    subst (IsInChain w f) (begins_there q)
    (in_chain_of k.standing w f (queue_member q p) k.mixed low (its_member w e q p k i)
    (turned (f % frame_period p.period) p.phase active) i.idle)

-- ---- what was visited was found

record IsFound (n : ℕ) (fs : List (ℕ × World)) : Type 0 where
  world : World
  there : HasFound n world fs

-- those that were found are those that were visited
abbrev AreFound : List ℕ → List (ℕ × World) → Type 0
AreFound vs fs = (n : ℕ) → HasVisited n vs → IsFound n fs

too_found : (o : Option ℕ) (w : World) (vs : List ℕ) (fs : List (ℕ × World)) → AreFound vs fs
    → AreFound (visited_too o vs) (found_too o w fs)
too_found None w vs fs all = all
too_found (Some a) w vs fs all = λ n was. elim was [
  | inl same ↦ record { world = w; there = inl (sym same, refl) }
  | inr more ↦ let f = all n more in record { world = f.world; there = inr f.there }
]

at_found : (hand : Option Hand) (row : ChainRow) (w : World) (vs : List ℕ) (fs : List (ℕ × World)) → AreFound vs fs
    → AreFound (visits_at hand row vs) (found_next hand row w fs)
at_found None row w vs fs all = too_found (fetched_by row) w vs fs all
at_found (Some hand) row w vs fs all = all

after_found : (w : World) (row : ControllerRow) (vs : List ℕ) (t : SoFar) → AreFound vs t.found
    → AreFound (visits_after row (controller_parts w) vs) (so_far_after row w t).found
after_found w rows.Begin vs t all = λ n was. absurd was
after_found w rows.Frame vs t all = at_found w.control.frame.hand (chain_row w.memory w.control.frame.cursor) w vs t.found all
after_found w rows.Idle vs t all = all
after_found w rows.Enter vs t all = all
after_found w rows.Go vs t all = all
after_found w rows.End vs t all = all

visited_is_found : (s : Script) (k : ℕ) → AreFound (visited s k) (so_far s k).found
visited_is_found s k =
    subst (λ (z : List ℕ × SoFar). AreFound z.0 z.1.found) (both_carried visits_next so_far_next s [] nothing_yet k)
    (carrying (both visits_next so_far_next) (λ w orders z. Unit {0}) (λ w z. AreFound z.0 z.1.found) s ([], nothing_yet)
    (record {
      controller = λ w orders z known all. after_found w (controller_row w) z.0 z.1 all;
      driver = λ w orders z known all. all;
      command = λ w n cmd rest z known all. all;
    })
    (λ j. tt) (λ n was. absurd was) k)

-- ---- the law

comes_to_each : (text : List ℕ) (s : Script) → Spells text s → ComesToEach s
comes_to_each text s spelled k e q p past was is active =
    let f : ℕ = frame_in (moment s k).world.control.frame.index in
    let low : f < 1024 = in_list (moment s k).world.control.frame.index in
    let f_is = visited_is_found s k (32 * q)
    (texts_visit_each text s spelled k (32 * q) past
    (its_frames_lead (began s k) e q p f
    (began_is_mixed s (spelled_fits text s spelled) (a_text_spells_bytes text s spelled)
    (lines_fit s.lines (texts_fit text s spelled) (texts_open_fitting text s spelled)) k).mixed
    was low active)
    (its_frames_lead (moment s k).world e q p f (texts_stay_mixed text s spelled k) is low active)) in
    (f_is.world, f_is.there)

pub texts_come_to_each : TextsComeToEach
texts_come_to_each = comes_to_each
