use Rattle.std.proofs.Common.{◌≡◌, ℕ, ◌+◌, ◌-◌, ◌<◌, ◌≤◌, ◌++◌, subst, sym, ap, ◌∙◌}
use Rattle.drv_search.specs.Search.{found_at, pending}
use Rattle.drv_search.proofs.Steps.{up_end, up_left, up_right}
use Rattle.drv_search.proofs.search.+next_place.Goals as goal

pub returns-then-level-floor-clause-left : goal.returns-then-level-floor-clause-left
returns-then-level-floor-clause-left t c = λ s. up_end s c.args.floor c.args.level c.args.phase c.if-level-floor.true

pub returns-then-phase-half-clause-left : goal.returns-then-phase-half-clause-left
returns-then-phase-half-clause-left t c = λ s.
    let level = c.args.level in
    let floor = c.args.floor in
    let phase = c.args.phase in
    let e = c.frames_of-half.ensures in
    subst (λ (x : ℕ). found_at s (10 - level) level (phase + x) ++ pending s (level - floor) (10 - level) level (phase + x) ≡ pending s (level - floor) (10 - level) level phase) (sym e)
    (up_left s floor level phase c.if-level-floor.false (subst (λ (x : ℕ). phase < x) e c.if-phase-half.true))

pub returns-clause-left : goal.returns-clause-left
returns-clause-left t c = λ s.
    let level = c.args.level in
    let floor = c.args.floor in
    let phase = c.args.phase in
    let e = c.frames_of-half.ensures in
    c.next_place.ensures.left s
    ∙ ap (λ x. pending s (level - 1 - floor) (10 - (level - 1)) (level - 1) (phase - x)) e
    ∙ up_right s floor level phase c.if-level-floor.false c.requires.level (subst (λ (x : ℕ). x ≤ phase) e c.if-phase-half.false)
