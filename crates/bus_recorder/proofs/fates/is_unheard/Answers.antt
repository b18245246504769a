use Rattle.std.proofs.Common.{◌∙◌}
use Rattle.bus_recorder.proofs.Unheard.{unheard_any}
use Rattle.bus_recorder.proofs.fates.is_unheard.Goals as goal

pub returns : goal.returns
returns c = c.has_line.ensures ∙ unheard_any c.args.fates.now c.args.name.now c.args.below c.args.k
