use Rattle.std.proofs.Common.{sym, ◌∙◌}
use Rattle.tt_pipeline.specs.Starting.{has_key}
use Rattle.tt_pipeline.proofs.Places.{none_there, remove_at, without_none}
use Rattle.tt_pipeline.proofs.pipeline.Pipeline.take_out.Goals as goal

pub returns-in-Some-clause-after : goal.returns-in-Some-clause-after
returns-in-Some-clause-after c =
    c.remove.ensures.items ∙ (rw c.self.view_is (remove_at (has_key c.args.key.now) c.args.self.now c.in-Some.i (sym c.place.ensures ∙ c.in-Some.is)))

pub returns-in_default-clause-after : goal.returns-in_default-clause-after
returns-in_default-clause-after c =
    without_none (has_key c.args.key.now) c.args.self.now (none_there (has_key c.args.key.now) c.args.self.now (sym c.place.ensures ∙ c.in_default.is))

pub returns-in_default-clause-fewer : goal.returns-in_default-clause-fewer
returns-in_default-clause-fewer c =
    λ there. let not = none_there (has_key c.args.key.now) c.args.self.now (sym c.place.ensures ∙ c.in_default.is) in absurd cc
