use Rattle.std.proofs.Common.{arith, ap, sym, ◌∙◌}
use Rattle.bandwidth.specs.Placements.{is_slack, placement_at}
use Rattle.bandwidth.specs.Choice.{better}
use Rattle.bandwidth.proofs.Best.{passed_over, kept_better, tight_better, slack_at}
use Rattle.bandwidth.proofs.Spans.{placed_is, placed_of}
use Rattle.bandwidth.proofs.search.better_of.Goals as goal

pub kept_peak-requires-clause-place : goal.kept_peak-requires-clause-place
kept_peak-requires-clause-place g c =
    rw c.placed-placement.ensures (placed_of c.args.want.now c.args.shape.now c.args.phase c.requires.want c.requires.phase)

pub returns-in-Some-clause-better : goal.returns-in-Some-clause-better
returns-in-Some-clause-better g c =
    let at = c.placed-placement.ensures ∙ placed_is c.args.want.now c.args.shape.now c.args.phase c.requires.shape in
    let slack =
    ap (is_slack c.args.rules c.args.want.now) at
    ∙ slack_at c.args.rules c.args.want.now c.args.phase _ c.requires.want c.requires.shape.first
    ∙ sym c.is_slack.ensures
    ∙ c.if-not-is_slack.false in
    c.lesser_of.ensures
    ∙ kept_better c.args.rules c.args.accounts.now.placed c.args.want.now c.args.so_far c.placed-placement.result c.in-Some.peak slack c.in-Some.ensures.keeps c.in-Some.ensures.peak
    ∙ ap (λ p. better c.args.rules c.args.accounts.now.placed c.args.want.now c.args.so_far p) at

pub returns-in-None-clause-better : goal.returns-in-None-clause-better
returns-in-None-clause-better g c =
    let at = c.placed-placement.ensures ∙ placed_is c.args.want.now c.args.shape.now c.args.phase c.requires.shape in
    passed_over c.args.rules c.args.accounts.now.placed c.args.want.now c.args.so_far c.placed-placement.result
    (λ kept. rw c.limit_of-limit.ensures at (c.in-None.ensures.none kept))
    ∙ ap (λ p. better c.args.rules c.args.accounts.now.placed c.args.want.now c.args.so_far p) at

pub returns-then-not-is_slack-clause-better : goal.returns-then-not-is_slack-clause-better
returns-then-not-is_slack-clause-better g c =
    let w = c.args.want.now in
    let from = c.args.shape.now.costs.from in
    tight_better c.args.rules c.args.accounts.now.placed w c.args.so_far (placement_at w c.args.phase from)
    (slack_at c.args.rules w c.args.phase from c.requires.want c.requires.shape.first ∙ sym c.is_slack.ensures ∙ c.if-not-is_slack.true)

pub least_peak-least-requires-clause-place : goal.least_peak-least-requires-clause-place
least_peak-least-requires-clause-place g c =
    rw c.placed-placement.ensures (placed_of c.args.want.now c.args.shape.now c.args.phase c.requires.want c.requires.phase)

pub returns-then-limit-least-clause-better : goal.returns-then-limit-least-clause-better
returns-then-limit-least-clause-better g c =
    let w = c.args.want.now in
    let p = c.placed-placement.result in
    let at = c.placed-placement.ensures ∙ placed_is w c.args.shape.now c.args.phase c.requires.shape in
    passed_over c.args.rules c.args.accounts.now.placed w c.args.so_far p
    (λ kept. omega (arith, c.least_peak-least.ensures.peak, c.if-limit-least.true, c.limit_of-limit.ensures))
    ∙ ap (λ p. better c.args.rules c.args.accounts.now.placed w c.args.so_far p) at
