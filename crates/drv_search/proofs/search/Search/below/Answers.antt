use Rattle.std.proofs.Common.{◌-◌, ◌≤◌, length, subst, sym}
use Rattle.drv_search.proofs.Steps.{start, start_frame, some_below}
use Rattle.drv_search.proofs.search.Search.below.Goals as goal

pub returns-then-level-ge10-clause-left : goal.returns-then-level-ge10-clause-left
returns-then-level-ge10-clause-left c = λ s. start_frame s c.args.level c.args.phase c.if-level-ge10.true

pub returns-clause-left : goal.returns-clause-left
returns-clause-left c = λ s. start s c.args.level c.args.phase c.if-level-ge10.false c.requires.phase

pub returns-then-level-ge10-clause-some : goal.returns-then-level-ge10-clause-some
returns-then-level-ge10-clause-some c = λ s. subst (λ ws. 1 ≤ length ws) (sym (start_frame s c.args.level c.args.phase c.if-level-ge10.true)) (some_below s (10 - c.args.level) c.args.level c.args.phase)

pub returns-clause-some : goal.returns-clause-some
returns-clause-some c = λ s. subst (λ ws. 1 ≤ length ws) (sym (start s c.args.level c.args.phase c.if-level-ge10.false c.requires.phase)) (some_below s (10 - c.args.level) c.args.level c.args.phase)
