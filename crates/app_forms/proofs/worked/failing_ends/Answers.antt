use Rattle.bus_world.specs.RunsAtWork.{IsRunOfAtWork}
use Rattle.app_forms.proofs.Ended.{a_fault_may_end_it}
use Rattle.app_forms.proofs.worked.failing_ends.Goals as goal

pub returns : goal.returns
returns c = a_fault_may_end_it IsRunOfAtWork
