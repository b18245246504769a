use Rattle.app_forms.proofs.Runs.{run_of}
use Rattle.app_forms.proofs.running.world_of.Goals as goal

pub returns : goal.returns
returns c = run_of c.args.script.now c.in_ok-world.world c.run.new.self c.in_ok-world.ensures.work c.run.ensures.fixed c.run.ensures.run
