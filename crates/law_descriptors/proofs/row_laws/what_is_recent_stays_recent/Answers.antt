use Rattle.law_descriptors.proofs.RowStaying.{unlink_is_recent, unchain_is_recent, release_leaves_recent}
use Rattle.law_descriptors.proofs.row_laws.what_is_recent_stays_recent.Goals as goal

pub returns : goal.returns
returns c = record { unlink = unlink_is_recent; unchain = unchain_is_recent; release = release_leaves_recent }
