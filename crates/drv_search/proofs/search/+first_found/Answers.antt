use Rattle.std.proofs.Common.{◌≡◌, ℕ, ◌+◌, ◌-◌, ◌≤◌, ◌∷◌, ap, sym, ◌∙◌, arith}
use Rattle.drv_search.specs.Search.{pending}
use Rattle.drv_search.proofs.Steps.{down, at_frame}
use Rattle.drv_search.proofs.search.+first_found.Goals as goal

pub returns-then-level-ge10-clause-found : goal.returns-then-level-ge10-clause-found
returns-then-level-ge10-clause-found g t c = λ depth. at_frame (g.C.Classes.schedule c.args.classes.now) c.args.level c.args.phase depth c.if-level-ge10.true (sym c.last.ensures.last ∙ c.in_default.is)

deeper_still : (depth low high : ℕ) → low + 1 ≤ high → depth + 1 + (high - (low + 1)) ≡ depth + (high - low)
deeper_still depth low high h = omega (arith, h)

pub returns-clause-found : goal.returns-clause-found
returns-clause-found g t c = λ depth.
    let s = g.C.Classes.schedule c.args.classes.now in
    let r = c.first_found.result in
    down s c.args.level c.args.phase depth c.if-level-ge10.false c.requires.phase (sym c.last.ensures.last ∙ c.in_default.is)
    ∙ c.first_found.ensures.found (depth + 1)
    ∙ ap (λ n. r.found ∷ pending s n (10 - r.level) r.level c.args.phase) (deeper_still depth c.args.level r.level c.first_found.ensures.not_above)
