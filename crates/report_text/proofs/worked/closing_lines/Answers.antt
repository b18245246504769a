use Rattle.std.proofs.Common.{refl}
use Rattle.std.specs.Fmt.{digits}
use Rattle.hex.specs.Hex.{encode_with}
use Rattle.report_text.proofs.worked.closing_lines.Goals as goal

pub returns-clause-pending : goal.returns-clause-pending
unfolding digits encode_with
returns-clause-pending c = refl

pub returns-clause-taken : goal.returns-clause-taken
unfolding digits encode_with
returns-clause-taken c = refl

pub returns-clause-taken_none : goal.returns-clause-taken_none
unfolding digits encode_with
returns-clause-taken_none c = refl

pub returns-clause-acted : goal.returns-clause-acted
unfolding digits encode_with
returns-clause-acted c = refl
