use Rattle.app_probe.proofs.Ends.{ends_so}
use Rattle.app_probe.proofs.probing.probe.Goals as goal

pub returns-in-Ok-clause-end : goal.returns-in-Ok-clause-end
returns-in-Ok-clause-end c = ends_so c.args.image.now c.args.n c.run.result c.run.ensures
