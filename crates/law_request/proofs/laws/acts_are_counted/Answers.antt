use Rattle.law_request.proofs.Counts.{transacted_counts, windows_count}
use Rattle.law_request.proofs.laws.acts_are_counted.Goals as goal

pub returns : goal.returns
returns c = record { transaction = transacted_counts; windows = windows_count }
