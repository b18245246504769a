use Rattle.std.proofs.Common.{refl}
use Rattle.std.specs.Fmt.{digits}
use Rattle.report_load.proofs.worked.all_done.Goals as goal

pub returns : goal.returns
unfolding digits
returns c = refl
