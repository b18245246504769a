use Rattle.std.proofs.Common.{refl}
use Rattle.std.specs.Fmt.{digits}
use Rattle.app_probe_cli.proofs.worked.lines.Goals as goal

pub returns-clause-ran : goal.returns-clause-ran
unfolding digits
returns-clause-ran c = refl

pub returns-clause-failed : goal.returns-clause-failed
unfolding digits
returns-clause-failed c = refl
