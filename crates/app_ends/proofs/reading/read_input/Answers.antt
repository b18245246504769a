use Rattle.std.proofs.Common.{arith}
use Rattle.std.proofs.lemmas.Grind.{common_steps}
use Rattle.app_ends.proofs.Front.{read_to_the_end, read_to_the_limit, joins_more, left_at_end, left_at_limit, left_in_part, on_err}
use Rattle.app_ends.proofs.reading.read_input.Goals as goal

pub returns-then-len-ge-LIMIT-clause-input : goal.returns-then-len-ge-LIMIT-clause-input
returns-then-len-ge-LIMIT-clause-input g c = read_to_the_limit _ _ _ c.loop-turn.invariant.front (grind (arith, common_steps))

pub returns-then-len-ge-LIMIT-clause-left : goal.returns-then-len-ge-LIMIT-clause-left
returns-then-len-ge-LIMIT-clause-left g c = left_at_limit _ _ _ c.loop-turn.invariant.front (grind (arith, common_steps))

pub returns-then-branch-eq0-clause-input : goal.returns-then-branch-eq0-clause-input
returns-then-branch-eq0-clause-input g c = read_to_the_end _ _ _
    (joins_more _ _ _ _ _ _ c.loop-turn.invariant.front c.in_ok-read_more.ensures.more)
    (c.in_ok-read_more.ensures.more.end c.if-branch-eq0.true)
    (grind (arith, common_steps))

pub returns-then-branch-eq0-clause-left : goal.returns-then-branch-eq0-clause-left
returns-then-branch-eq0-clause-left g c = left_at_end _ _ _
    (joins_more _ _ _ _ _ _ c.loop-turn.invariant.front c.in_ok-read_more.ensures.more)
    (c.in_ok-read_more.ensures.more.end c.if-branch-eq0.true)
    (grind (arith, common_steps))

pub returns-clause-input : goal.returns-clause-input
returns-clause-input g c = read_to_the_limit _ _ _ c.loop-turn.invariant.front (grind (arith, common_steps))

pub returns-clause-left : goal.returns-clause-left
returns-clause-left g c = left_at_limit _ _ _ c.loop-turn.invariant.front (grind (arith, common_steps))

pub returns-in_err-read_more-clause-part : goal.returns-in_err-read_more-clause-part
returns-in_err-read_more-clause-part g c =
    on_err _ _ (left_in_part _ _ _ _ c.loop-turn.invariant.front c.in_err-read_more.ensures.lost)
