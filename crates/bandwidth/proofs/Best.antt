-- Choosing one after another gives the best.
use Rattle.std.proofs.Common.{◌≡◌, ℕ, ◌+◌, Bool, true, false, cond, List, [], ◌∷◌, ◌++◌, map, refl, ap, ◌∙◌, arith, ◌<◌, ◌≤◌}
use Rattle.std.specs.Prelude.{Option, Some, None, ◌&&◌, filter, nat_lt, if◌then◌else◌}
use Rattle.std.specs.List.{flat_map}
use Rattle.std.proofs.lemmas.List.{map-append, append-nil}
use Rattle.std.proofs.lemmas.Grind.{flat_map-append}
use Rattle.bandwidth.specs.declared.placements.Want.{Want}
use Rattle.bandwidth.specs.declared.placements.Placement.{Placement}
use Rattle.bandwidth.specs.declared.placements.Placed.{Placed}
use Rattle.bandwidth.specs.declared.choice.Candidate.{Candidate}
use Rattle.usb_base.specs.declared.rules.Rules.{Rules}
use Rattle.bandwidth.specs.Placements.{below, allowed, allowed_by, is_slack, is_slack_from, in_phase, frame_period, IsWant, placement_row, placement_at}
use Rattle.bandwidth.specs.Admission.{keeps, peak, best, least_by, least_from}
use Rattle.bandwidth.specs.Choice.{candidate, lesser, limit, better, choice, place_in}
use Rattle.std.proofs.lemmas.Bool.Decides.{nat_tests}
use Rattle.bandwidth.proofs.Budgets.{kept_within}
use Rattle.bandwidth.proofs.Microframes.{range_more}
use Rattle.bandwidth.proofs.Spans.{span_of}

choice_append : (rules : Rules) (placed : List Placed) (w : Want) (b : Option Candidate) (ps qs : List Placement) → choice rules placed w b (ps ++ qs) ≡ choice rules placed w (choice rules placed w b ps) qs
unfolding choice
choice_append rules placed w b [] qs = refl
choice_append rules placed w b (p ∷ ps) qs = choice_append rules placed w (better rules placed w b p) ps qs

choice_one : (rules : Rules) (placed : List Placed) (w : Want) (b : Option Candidate) (p : Placement) → choice rules placed w b (p ∷ []) ≡ better rules placed w b p
unfolding choice
choice_one rules placed w b p = refl

pub choice_none : (rules : Rules) (placed : List Placed) (w : Want) (b : Option Candidate) → b ≡ choice rules placed w b []
unfolding choice
choice_none rules placed w b = refl

-- one more of a list of placements by number
pub choice_more : (rules : Rules) (placed : List Placed) (w : Want) (b : Option Candidate) (f : ℕ → Placement) (n : ℕ) → choice rules placed w b (map f (below (n + 1))) ≡ better rules placed w (choice rules placed w b (map f (below n))) (f n)
choice_more rules placed w b f n =
    ap (choice rules placed w b) (ap (map f) (range_more n) ∙ map-append f (below n) (n ∷ []))
    ∙ choice_append rules placed w b (map f (below n)) (f n ∷ [])
    ∙ choice_one rules placed w _ (f n)

-- one more phase
pub choice_phase : (rules : Rules) (placed : List Placed) (w : Want) (b : Option Candidate) (g : ℕ → List Placement) (n : ℕ) → choice rules placed w b (flat_map g (below (n + 1))) ≡ choice rules placed w (choice rules placed w b (flat_map g (below n))) (g n)
choice_phase rules placed w b g n =
    ap (choice rules placed w b)
    (ap (flat_map g) (range_more n)
    ∙ flat_map-append g (below n) (n ∷ [])
    ∙ ap (λ ps. flat_map g (below n) ++ ps) (append-nil (g n)))
    ∙ choice_append rules placed w b (flat_map g (below n)) (g n)

-- one more placement of a choice, by whether it is slack and whether it keeps the budgets
choice_some : (rules : Rules) (placed : List Placed) (w : Want) (p : Placement) (ps : List Placement) → choice rules placed w (Some (candidate placed w p)) ps ≡ Some (candidate placed w (least_from (peak placed w) p (filter (keeps placed w) (filter (is_slack rules w) ps))))
unfolding choice least_from
choice_some rules placed w p [] = refl
choice_some rules placed w p (q ∷ ps) =
    let slack : List Placement = filter (is_slack rules w) ps in
    elim (is_slack rules w q) as (λ t. choice rules placed w (if t && keeps placed w q then lesser (Some (candidate placed w p)) (candidate placed w q) else Some (candidate placed w p)) ps ≡ Some (candidate placed w (least_from (peak placed w) p (filter (keeps placed w) (cond t (q ∷ slack) slack))))) [
      | true ↦
          elim (keeps placed w q) as (λ k. choice rules placed w (if k then lesser (Some (candidate placed w p)) (candidate placed w q) else Some (candidate placed w p)) ps ≡ Some (candidate placed w (least_from (peak placed w) p (cond k (q ∷ filter (keeps placed w) slack) (filter (keeps placed w) slack))))) [
            | true ↦
                elim (nat_lt (peak placed w q) (peak placed w p)) as (λ l. choice rules placed w (if l then Some (candidate placed w q) else Some (candidate placed w p)) ps ≡ Some (candidate placed w (least_from (peak placed w) (if l then q else p) (filter (keeps placed w) slack)))) [
                  | true ↦ choice_some rules placed w q ps
                  | false ↦ choice_some rules placed w p ps
                ]
            | false ↦ choice_some rules placed w p ps
          ]
      | false ↦ choice_some rules placed w p ps
    ]

choice_best : (rules : Rules) (placed : List Placed) (w : Want) (ps : List Placement) → place_in (choice rules placed w None ps) ≡ least_by (peak placed w) (filter (keeps placed w) (filter (is_slack rules w) ps))
unfolding choice least_by
choice_best rules placed w [] = refl
choice_best rules placed w (q ∷ ps) =
    let slack : List Placement = filter (is_slack rules w) ps in
    elim (is_slack rules w q) as (λ t. place_in (choice rules placed w (if t && keeps placed w q then Some (candidate placed w q) else None) ps) ≡ least_by (peak placed w) (filter (keeps placed w) (cond t (q ∷ slack) slack))) [
      | true ↦
          elim (keeps placed w q) as (λ k. place_in (choice rules placed w (if k then Some (candidate placed w q) else None) ps) ≡ least_by (peak placed w) (cond k (q ∷ filter (keeps placed w) slack) (filter (keeps placed w) slack))) [
            | true ↦ ap place_in (choice_some rules placed w q ps)
            | false ↦ choice_best rules placed w ps
          ]
      | false ↦ choice_best rules placed w ps
    ]

pub best_of : (rules : Rules) (placed : List Placed) (w : Want) → place_in (choice rules placed w None (flat_map (in_phase w) (below (frame_period w.period)))) ≡ best rules placed w
unfolding best allowed allowed_by
best_of rules placed w = choice_best rules placed w (flat_map (in_phase w) (below (frame_period w.period)))

-- a placement whose peak passes what would be better changes nothing
passed_test : (a b : ℕ) → b ≤ a → nat_lt a b ≡ false
passed_test a b h = grind (arith, nat_tests)

passed_by : (kept : Bool) (so_far : Option Candidate) (p : Placement) (top : ℕ) → (kept ≡ true → limit so_far < top) → (kept ≡ true → top ≤ 100000000) → so_far ≡ (if kept then lesser so_far (record { placement = p; peak = top }) else so_far)
passed_by false so_far p top h k = refl
passed_by true None p top h k = absurd (omega (arith, h refl, k refl))
passed_by true (Some old) p top h k =
    let off : nat_lt top old.peak ≡ false = passed_test top old.peak (omega (arith, h refl, k refl)) in rw off refl

and_second : (a b : Bool) → (a && b) ≡ true → b ≡ true
and_second true b h = h
and_second false b h = cc

pub passed_over : (rules : Rules) (placed : List Placed) (w : Want) (so_far : Option Candidate) (p : Placement) → (keeps placed w p ≡ true → limit so_far < peak placed w p) → so_far ≡ better rules placed w so_far p
passed_over rules placed w so_far p h =
    let kept : (is_slack rules w p && keeps placed w p) ≡ true → keeps placed w p ≡ true = and_second (is_slack rules w p) (keeps placed w p) in
    passed_by (is_slack rules w p && keeps placed w p) so_far p (peak placed w p) (λ k. h (kept k)) (λ k. kept_within placed w p (kept k))

pub kept_better : (rules : Rules) (placed : List Placed) (w : Want) (so_far : Option Candidate) (p : Placement) (top : ℕ) → is_slack rules w p ≡ true → keeps placed w p ≡ true → top ≡ peak placed w p → lesser so_far (record { placement = p; peak = top }) ≡ better rules placed w so_far p
kept_better rules placed w so_far p top slack kept e = rw (slack, kept, e) refl

-- a placement that isn't slack changes nothing
pub tight_better : (rules : Rules) (placed : List Placed) (w : Want) (so_far : Option Candidate) (p : Placement) → is_slack rules w p ≡ false → so_far ≡ better rules placed w so_far p
tight_better rules placed w so_far p tight = rw tight refl

pub slack_at : (rules : Rules) (w : Want) (phase s : ℕ) → IsWant w → s < (placement_row w).starts → is_slack rules w (placement_at w phase s) ≡ is_slack_from rules w s
slack_at rules w phase s want h = ap (is_slack_from rules w) (span_of w want s h).first
