use Rattle.std.proofs.Common.{refl}
use Rattle.std.specs.Fmt.{digits}
use Rattle.hex.specs.Hex.{encode_with}
use Rattle.report_text.proofs.worked.report_lines.Goals as goal

pub returns-clause-done : goal.returns-clause-done
unfolding digits encode_with
returns-clause-done c = refl

pub returns-clause-halt : goal.returns-clause-halt
unfolding digits encode_with
returns-clause-halt c = refl

pub returns-clause-miss : goal.returns-clause-miss
unfolding digits encode_with
returns-clause-miss c = refl

pub returns-clause-cancel : goal.returns-clause-cancel
unfolding digits encode_with
returns-clause-cancel c = refl

pub returns-clause-iso : goal.returns-clause-iso
unfolding digits encode_with
returns-clause-iso c = refl

pub returns-clause-refused : goal.returns-clause-refused
unfolding digits encode_with
returns-clause-refused c = refl

pub returns-clause-closed : goal.returns-clause-closed
unfolding digits encode_with
returns-clause-closed c = refl
