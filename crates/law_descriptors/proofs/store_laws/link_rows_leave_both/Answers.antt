use Rattle.law_descriptors.proofs.ListRows.{link_rows_leave_both}
use Rattle.law_descriptors.proofs.store_laws.link_rows_leave_both.Goals as goal

pub returns : goal.returns
returns c = link_rows_leave_both
