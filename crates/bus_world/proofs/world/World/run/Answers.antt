use Rattle.bus_world.proofs.BudgetedAtWork.{run_admits_at_work}
use Rattle.bus_world.proofs.world.World.run.Goals as goal

pub returns-clause-budgets : goal.returns-clause-budgets
returns-clause-budgets c =
    run_admits_at_work c.args.self.now.fixed c.args.self.now.work c.args.script.now.lines c.driver-driver.ensures.budgets c.requires.room c.requires.fits.lines
