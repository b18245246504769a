use Rattle.std.proofs.Common.{sym, ◌∙◌, length}
use Rattle.std.specs.List.{find}
use Rattle.tt_pipeline.specs.Starting.{has_key}
use Rattle.tt_pipeline.specs.Work.{joined}
use Rattle.tt_pipeline.proofs.Places.{none_there, with_none, set_at, find_place, joins_within}
use Rattle.tt_pipeline.proofs.pipeline.Pipeline.join.Goals as goal

pub join-requires : goal.join-requires
join-requires c =
    let there = find_place (has_key c.args.key.now) c.args.self.now c.in-Some.i c.index_mut.result.now (sym c.place.ensures ∙ c.in-Some.is) (rw c.self.view_is at c.index_mut.ensures.value) in
    joins_within (length c.args.bytes.now) (find (has_key c.args.key.now) c.args.self.now) c.index_mut.result.now there c.requires.room

pub returns-in-Some : goal.returns-in-Some
returns-in-Some c =
    let there = set_at (has_key c.args.key.now) (joined c.args.ask.now c.args.bytes.now) c.args.self.now c.in-Some.i c.index_mut.result.now (sym c.place.ensures ∙ c.in-Some.is) (rw c.self.view_is at c.index_mut.ensures.value) in
    rw (c.self.view_is, c.join.ensures) there

pub returns-in_default : goal.returns-in_default
returns-in_default c =
    with_none (has_key c.args.key.now) (joined c.args.ask.now c.args.bytes.now) c.args.self.now (none_there (has_key c.args.key.now) c.args.self.now (sym c.place.ensures ∙ c.in_default.is))
