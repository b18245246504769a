-- The exit status of the process for each way to end.
use Rattle.std.specs.Prelude.{ℕ}
use Rattle.app_ends.specs.declared.status.Status.{Status}
use Rattle.app_ends.specs.declared.status.Status.TheVariants.{Ok, Words, Refused, ReadFault, WriteFault, Memory}

abbrev pub exit_code : Status → ℕ
exit_code Ok = 0
exit_code Words = 2
exit_code Refused = 3
exit_code ReadFault = 4
exit_code WriteFault = 5
exit_code Memory = 6
