use Rattle.std.proofs.Common.{◌≡◌, ◌<◌, length, arith, ap}
use Rattle.tt_pipeline.specs.Starting.{is_there}
use Rattle.tt_pipeline.proofs.Places.{enters_within}
use Rattle.tt_pipeline.proofs.pipeline.Pipeline.enter.Goals as goal

pub push_reserved-requires : goal.push_reserved-requires
push_reserved-requires c =
    let left : length c.take_out.new.self < 256 = enters_within (is_there c.args.key.now c.args.self.now) (length c.args.self.now) (length c.take_out.new.self) c.requires.room c.take_out.ensures.fewer c.take_out.ensures.bound c.take_out.ensures.size in
    let same : length c.self.inside.entries.items ≡ length c.take_out.new.self = ap length c.self.view_is in
    omega arith

pub invariant_of-self : goal.invariant_of-self
invariant_of-self c =
    let left : length c.take_out.new.self < 256 = enters_within (is_there c.args.key.now c.args.self.now) (length c.args.self.now) (length c.take_out.new.self) c.requires.room c.take_out.ensures.fewer c.take_out.ensures.bound c.take_out.ensures.size in
    let same : length c.self.inside.entries.items ≡ length c.take_out.new.self = ap length c.self.view_is in
    (omega arith, omega arith)
