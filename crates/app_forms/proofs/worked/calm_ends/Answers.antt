use Rattle.bus_world.specs.RunsAtWork.{IsRunOfAtWork}
use Rattle.app_forms.proofs.Ended.{memory_may_lack, nothing_is_refused, nothing_is_written}
use Rattle.app_forms.proofs.worked.calm_ends.Goals as goal

pub returns-clause-memory : goal.returns-clause-memory
returns-clause-memory c = memory_may_lack IsRunOfAtWork

pub returns-clause-refused : goal.returns-clause-refused
returns-clause-refused c = λ h. nothing_is_refused IsRunOfAtWork h

pub returns-clause-written : goal.returns-clause-written
returns-clause-written c = λ h. nothing_is_written IsRunOfAtWork h
