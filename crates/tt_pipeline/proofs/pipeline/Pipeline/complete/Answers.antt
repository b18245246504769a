use Rattle.std.proofs.Common.{sym, ◌∙◌, ap}
use Rattle.tt_pipeline.specs.Starting.{has_key}
use Rattle.tt_pipeline.specs.Answers.{given, answer_from}
use Rattle.tt_pipeline.proofs.Places.{none_there, with_none, set_at, find_none, find_place}
use Rattle.tt_pipeline.proofs.pipeline.Pipeline.complete.Goals as goal

pub returns-in-Some-clause-answer : goal.returns-in-Some-clause-answer
returns-in-Some-clause-answer c =
    let there = find_place (has_key c.args.key.now) c.args.self.now c.in-Some.i c.index_mut.result.now (sym c.place.ensures ∙ c.in-Some.is) (rw c.self.view_is at c.index_mut.ensures.value) in
    c.give.ensures.answer ∙ sym (ap answer_from there)

pub returns-in-Some-clause-after : goal.returns-in-Some-clause-after
returns-in-Some-clause-after c =
    let there = set_at (has_key c.args.key.now) given c.args.self.now c.in-Some.i c.index_mut.result.now (sym c.place.ensures ∙ c.in-Some.is) (rw c.self.view_is at c.index_mut.ensures.value) in
    rw (c.self.view_is, c.give.ensures.after) there

pub returns-in-None-clause-answer : goal.returns-in-None-clause-answer
returns-in-None-clause-answer c =
    sym (ap answer_from (find_none (has_key c.args.key.now) c.args.self.now (none_there (has_key c.args.key.now) c.args.self.now (sym c.place.ensures ∙ c.in-None.is))))

pub returns-in-None-clause-after : goal.returns-in-None-clause-after
returns-in-None-clause-after c =
    with_none (has_key c.args.key.now) given c.args.self.now (none_there (has_key c.args.key.now) c.args.self.now (sym c.place.ensures ∙ c.in-None.is))
