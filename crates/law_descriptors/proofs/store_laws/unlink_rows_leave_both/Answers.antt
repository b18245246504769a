use Rattle.law_descriptors.proofs.ListUnlinks.{unlink_rows_leave_both}
use Rattle.law_descriptors.proofs.store_laws.unlink_rows_leave_both.Goals as goal

pub returns : goal.returns
returns c = unlink_rows_leave_both
