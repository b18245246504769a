-- What is left of a microframe, what was paid and what was made again are together its time: each event of the controller adds to one what it takes from the other.
use Rattle.std.proofs.Common.{◌≡◌, ◌≢◌, ℕ, ◌+◌, Bool, true, false, not, List, [], ◌∷◌, Option, Some, None, ap, refl, sym, subst, ◌∙◌, arith}
use Rattle.std.specs.Prelude.{if◌then◌else◌}
use Rattle.std.proofs.lemmas.List.Sums.{sum_by-cons}
use Rattle.law_controller.proofs.Common.{over_not_periodic}
use Rattle.script_types.specs.declared.scripts.Script.{Script}
use Rattle.word_mem.specs.Memory.{reaches}
use Rattle.op_registers.specs.Events.{after_begin}
use Rattle.periodic_walk.specs.declared.state.Hand.{Hand}
use Rattle.periodic_walk.specs.declared.chain.ChainRow.{ChainRow}
use Rattle.periodic_walk.specs.declared.chain.ChainRow.TheVariants as chains
use Rattle.periodic_walk.specs.Walk.{Walk}
use Rattle.periodic_walk.specs.Chain.{chain_row, chain_walk}
use Rattle.periodic_walk.specs.Place.{FramePlace, HasEffect}
use Rattle.periodic_walk.specs.Rows.{step_of, effect_at, Leads}
use Rattle.hc_core.specs.declared.controller.MicroframePart.TheVariants.{Over, Periodic}
use Rattle.hc_core.specs.declared.controller.ControllerRow.{ControllerRow}
use Rattle.hc_core.specs.declared.controller.ControllerRow.TheVariants as rows
use Rattle.hc_core.specs.declared.controller.HcStep.{HcStep}
use Rattle.hc_core.specs.Controller.{Control, Content, element_address, begun_at, time_of, entered, frame_place, frame_step, hc_step, walk_step, kind_of, HasRow}
use Rattle.bus_wire.specs.Bus.{Bus, Wired, Fixed, fixed_of, is_held, is_allowed}
use Rattle.bus_world.specs.World.{World, controller_parts, controller_row, controller_next, kind_next, commanded, with_turned, turned_by}
use Rattle.bus_world.specs.Budgets.{moment}
use Rattle.law_world.specs.steps.Streaming.{begins_by, transacts_by, wired}
use Rattle.law_world.proofs.lemmas.steps.StreamTurning.{world_has_row}
use Rattle.claims_world.specs.Carried.{carried}
use Rattle.claims_world.specs.Prices.{cost_of}
use Rattle.claims_world.specs.Visits.{TellsMicroframe, fetched_by}
use Rattle.law_world.proofs.lemmas.memory.Carrying.{KeepsCarried, carrying, both, both_carried}
use Rattle.law_microframes.proofs.lemmas.visits.VisitWalking.{async_no}
use Rattle.law_microframes.proofs.lemmas.visits.ReasonParts.{InPart, row_in, command_control, command_bus}
use Rattle.claims_world.specs.WithinLoad.{is_again, begun_too, paid_more, payments_at, payments_after, payments_next, payments, repeats_at, repeats_after, repeats_next, repeats, paid_by_all, LeavesTheRest}
use Rattle.law_microframes.proofs.lemmas.time.ChainFalls.{chain_fetches_begin}
use Rattle.law_microframes.proofs.lemmas.time.PriceTaken.{leads_taken}

-- ---- what is in hand was visited

abbrev HasOne : Option Hand → List (ℕ × ℕ) → Type 0
HasOne None ps = Unit {0}
HasOne (Some hand) [] = ⊥
HasOne (Some hand) (x ∷ ps) = Unit {0}

abbrev HasVisit : Control → List (ℕ × ℕ) → Type 0
HasVisit c ps = c.part ≡ Periodic → HasOne c.frame.hand ps

any_one : (o : Option Hand) (x : ℕ × ℕ) (ps : List (ℕ × ℕ)) → HasOne o (x ∷ ps)
any_one None x ps = tt
any_one (Some hand) x ps = tt

chain_one : (row : ChainRow) (w : Walk) (ps : List (ℕ × ℕ)) → HasOne (chain_walk row w).hand (begun_too (fetched_by row) ps)
chain_one (chains.Queue a q) w ps = tt
chain_one (chains.Itd a v) w ps = tt
chain_one (chains.Sitd a v) w ps = tt
chain_one _ w ps = tt

hand_one : (again : Bool) (hand : Hand) (o : Option Hand) (n : ℕ) (ps : List (ℕ × ℕ)) → HasOne (Some hand) ps
    → HasOne o (if again then ps else paid_more n ps)
hand_one again hand o n [] one = absurd one
hand_one true hand o n (x ∷ ps) one = any_one o x ps
hand_one false hand o n (x ∷ ps) one = any_one o (x.0, x.1 + n) ps

event_one : (p q : FramePlace) (before later : Wired) (o : Option Hand) (step : HcStep) (ps : List (ℕ × ℕ)) → HasOne o ps
    → HasEffect transacts_by (effect_at p o) before q later
    → HasOne q.walk.hand (payments_at o (chain_row p.memory p.walk.cursor) step ps)
event_one p q before later None step ps one made =
    subst (λ (x : FramePlace). HasOne x.walk.hand (begun_too (fetched_by (chain_row p.memory p.walk.cursor)) ps)) (sym made.0)
    (chain_one (chain_row p.memory p.walk.cursor) p.walk ps)
event_one p q before later (Some hand) step ps one made = hand_one (is_again hand) hand q.walk.hand (cost_of step hand) ps one

-- ---- the sum

begun_paid : (o : Option ℕ) (ps : List (ℕ × ℕ)) → paid_by_all (begun_too o ps) ≡ paid_by_all ps
begun_paid None ps = refl
begun_paid (Some a) ps = let y : ℕ × ℕ = (a, 0) in omega (arith, sum_by-cons (λ (z : ℕ × ℕ). z.1) y ps)

more_paid : (n : ℕ) (x : ℕ × ℕ) (ps : List (ℕ × ℕ)) → paid_by_all (paid_more n (x ∷ ps)) ≡ paid_by_all (x ∷ ps) + n
more_paid n x ps =
    let y : ℕ × ℕ = (x.0, x.1 + n) in
    omega (arith, sum_by-cons (λ (z : ℕ × ℕ). z.1) y ps, sum_by-cons (λ (z : ℕ × ℕ). z.1) x ps)

kept_sum : (new old paid sum again : ℕ) → new ≡ old → paid ≡ sum → new + (paid + again) ≡ old + (sum + again)
kept_sum new old paid sum again same is = omega (arith, same, is)

moved_sum : (new old paid sum n again : ℕ) → new + n ≡ old → paid ≡ sum + n → new + (paid + again) ≡ old + (sum + again)
moved_sum new old paid sum n again less is = omega (arith, less, is)

again_sum : (new old sum n again : ℕ) → new + n ≡ old → new + (sum + (again + n)) ≡ old + (sum + again)
again_sum new old sum n again less = omega (arith, less)

-- with a copy in hand
either_sum : (b : Bool) (new old n again : ℕ) (x : ℕ × ℕ) (ps : List (ℕ × ℕ)) → new + n ≡ old
    → new + (paid_by_all (if b then x ∷ ps else paid_more n (x ∷ ps)) + (if b then again + n else again)) ≡ old + (paid_by_all
    (x ∷ ps) + again)
either_sum true new old n again x ps taken = again_sum new old (paid_by_all (x ∷ ps)) n again taken
either_sum false new old n again x ps taken =
    moved_sum new old (paid_by_all (paid_more n (x ∷ ps))) (paid_by_all (x ∷ ps)) n again taken (more_paid n x ps)

-- an event of the walk
walked_sum : (p q : FramePlace) (before later : Wired) (o : Option Hand) (row : ChainRow) (step : HcStep) (ps : List (ℕ × ℕ)) (again : ℕ)
    → p.walk.hand ≡ o → HasOne o ps
    → step ≡ hc_step (step_of p) → Leads transacts_by p before q later
    → q.walk.left + (paid_by_all (payments_at o row step ps) + repeats_at o step again) ≡ p.walk.left + (paid_by_all ps + again)
walked_sum p q before later None row step ps again is one same led =
    kept_sum q.walk.left p.walk.left (paid_by_all (begun_too (fetched_by row) ps)) (paid_by_all ps) again
    (chain_fetches_begin transacts_by p q before later is led).time
    (begun_paid (fetched_by row) ps)
walked_sum p q before later (Some hand) row step [] again is one same led = absurd one
walked_sum p q before later (Some hand) row step (x ∷ ps) again is one same led =
    either_sum (is_again hand) q.walk.left p.walk.left (cost_of step hand) again x ps
    (subst (λ (k : HcStep). q.walk.left + cost_of k hand ≡ p.walk.left) (sym same) (leads_taken transacts_by p q before later hand is led))

-- ---- an event of the controller

abbrev LeavesBy : Fixed → List (ℕ × ℕ) → ℕ → Control → Bus → Type 0
LeavesBy fixed ps again c b = c.part ≡ Periodic → c.frame.left + (paid_by_all ps + again) ≡ time_of (not (is_held fixed.holds b.microframe))

begun_sum : (b allowed : Bool) (c : Content) → c.control.part ≡ Over → (begun_at b allowed c).control.part ≡ Periodic
    → (begun_at b allowed c).control.frame.left + (paid_by_all [] + 0) ≡ time_of allowed
begun_sum true allowed c over on = let e : time_of allowed + (0 + 0) ≡ time_of allowed = omega arith in e
begun_sum false allowed c over on = absurd (over_not_periodic (sym over ∙ on))

begun_one : (b allowed : Bool) (c : Content) → c.control.part ≡ Over → HasVisit (begun_at b allowed c).control []
begun_one true allowed c over = λ on. tt
begun_one false allowed c over = λ on. absurd (over_not_periodic (sym over ∙ on))

module _ (fixed : Fixed) (w : World) (ps : List (ℕ × ℕ)) (again : ℕ) (one : HasVisit w.control ps) where
  abbrev TurnedBy : ControllerRow → Type 0
  TurnedBy row = HasRow begins_by transacts_by row (controller_parts w) (wired fixed w) (turned_by fixed row (controller_parts w) w.bus).content
      (record { fixed = fixed; bus = (turned_by fixed row (controller_parts w) w.bus).bus })

  -- ---- what is in hand

  abbrev VisitAfter : ControllerRow → Type 0
  VisitAfter row = HasVisit (turned_by fixed row (controller_parts w) w.bus).content.control
      (payments_after row (kind_of row (controller_parts w)) (controller_parts w) ps)

  one_by : (row : ControllerRow) → InPart row w.control.part → TurnedBy row → VisitAfter row
  one_by rows.Idle at has = one
  one_by rows.Begin at has =
      begun_one (reaches w.memory (element_address (after_begin w.registers))) (is_allowed fixed w.bus)
      (record (controller_parts w) { registers = after_begin w.registers }) at
  one_by rows.Frame at has = λ on.
      event_one (frame_place (controller_parts w)) (frame_place (turned_by fixed rows.Frame (controller_parts w) w.bus).content) _ _
      w.control.frame.hand
      (hc_step (frame_step (controller_parts w))) ps (one at) has.walked
  one_by rows.Enter at has = λ on. absurd (async_no (walk_step (entered (controller_parts w))) on)
  one_by rows.Go at has = λ on. absurd (async_no (walk_step (controller_parts w)) on)
  one_by rows.End at has = λ on. absurd (over_not_periodic on)

  controller_one : HasVisit (controller_next fixed w).control (payments_after (controller_row w) (kind_next w) (controller_parts w) ps)
  controller_one = one_by (controller_row w) (row_in w) (world_has_row fixed w)

  -- ---- the sum

  module _ (k : LeavesTheRest fixed w ps again) where
    abbrev NumberStays : ControllerRow → Type 0
    NumberStays row = row ≢ rows.Begin → (turned_by fixed row (controller_parts w) w.bus).bus.microframe ≡ w.bus.microframe

    abbrev IsTold : ControllerRow → Type 0
    IsTold row = row ≡ rows.Begin → is_allowed fixed w.bus ≡ not
        (is_held fixed.holds (turned_by fixed row (controller_parts w) w.bus).bus.microframe)

    abbrev LeavesAfter : ControllerRow → Type 0
    LeavesAfter row = LeavesTheRest fixed (with_turned w (turned_by fixed row (controller_parts w) w.bus))
        (payments_after row (kind_of row (controller_parts w)) (controller_parts w) ps)
        (repeats_after row (kind_of row (controller_parts w)) (controller_parts w) again)

    same_time : (n : ℕ) → n ≡ w.bus.microframe
        → time_of (not (is_held fixed.holds w.bus.microframe)) ≡ time_of (not (is_held fixed.holds n))
    same_time n is = ap (λ (i : ℕ). time_of (not (is_held fixed.holds i))) (sym is)

    by_row : (row : ControllerRow) → InPart row w.control.part → TurnedBy row → NumberStays row → IsTold row → LeavesAfter row
    by_row rows.Idle at has stays told = k
    by_row rows.Begin at has stays told = λ on.
        begun_sum (reaches w.memory (element_address (after_begin w.registers))) (is_allowed fixed w.bus)
        (record (controller_parts w) { registers = after_begin w.registers }) at on
        ∙ ap time_of (told refl)
    by_row rows.Frame at has stays told = λ on.
        walked_sum (frame_place (controller_parts w)) (frame_place (turned_by fixed rows.Frame (controller_parts w) w.bus).content) _ _
        w.control.frame.hand
        (chain_row w.memory w.control.frame.cursor) (hc_step (frame_step (controller_parts w))) ps again refl (one at) refl has.walked
        ∙ k at ∙ same_time (turned_by fixed rows.Frame (controller_parts w) w.bus).bus.microframe (stays (λ is. cc))
    by_row rows.Enter at has stays told = λ on. absurd (async_no (walk_step (entered (controller_parts w))) on)
    by_row rows.Go at has stays told = λ on. absurd (async_no (walk_step (controller_parts w)) on)
    by_row rows.End at has stays told = λ on. absurd (over_not_periodic on)

    controller_rest : TellsMicroframe fixed w
        → LeavesTheRest fixed (controller_next fixed w) (payments_after (controller_row w) (kind_next w) (controller_parts w) ps)
        (repeats_after (controller_row w) (kind_next w) (controller_parts w) again)
    controller_rest tells = by_row (controller_row w) (row_in w) (world_has_row fixed w) tells.goes_on tells.begins

-- ---- along a run

record Leaves (fixed : Fixed) (w : World) (z : List (ℕ × ℕ) × ℕ) : Type 0 where
  visit : HasVisit w.control z.0
  rest : LeavesTheRest fixed w z.0 z.1

keeps_rest : (fixed : Fixed) → KeepsCarried (both payments_next repeats_next) fixed (λ w orders z. TellsMicroframe fixed w) (Leaves fixed)
keeps_rest fixed = record {
  controller = λ w orders z tells k. record
      { visit = controller_one fixed w z.0 z.1 k.visit; rest = controller_rest fixed w z.0 z.1 k.visit k.rest tells };
  driver = λ w orders z tells k. record { visit = k.visit; rest = k.rest };
  command = λ w n cmd rest z tells k. record {
    visit = subst (λ (c : Control). HasVisit c z.0) (sym (command_control w n cmd)) k.visit;
    rest = subst (λ (b : Bus). LeavesBy fixed z.0 z.1 (commanded w n cmd).control b) (sym (command_bus w n cmd))
        (subst (λ (c : Control). LeavesBy fixed z.0 z.1 c w.bus) (sym (command_control w n cmd)) k.rest);
  };
}

leaves_along : (s : Script) → ((k : ℕ) → TellsMicroframe (fixed_of s) (moment s k).world) → (k : ℕ)
    → Leaves (fixed_of s) (moment s k).world (carried (both payments_next repeats_next) s ([], 0) k)
leaves_along s known k =
    carrying (both payments_next repeats_next) (λ w orders z. TellsMicroframe (fixed_of s) w) (Leaves (fixed_of s)) s ([], 0)
    (keeps_rest (fixed_of s)) known
    (record { visit = λ on. absurd (over_not_periodic on); rest = λ on. absurd (over_not_periodic on) }) k

pub rest_along : (s : Script) → ((k : ℕ) → TellsMicroframe (fixed_of s) (moment s k).world) → (k : ℕ)
    → LeavesTheRest (fixed_of s) (moment s k).world (payments s k) (repeats s k)
rest_along s known k =
    (subst (Leaves (fixed_of s) (moment s k).world) (both_carried payments_next repeats_next s [] 0 k) (leaves_along s known k)).rest
