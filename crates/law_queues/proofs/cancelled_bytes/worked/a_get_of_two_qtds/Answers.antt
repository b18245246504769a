use Rattle.std.proofs.Common.{refl}
use Rattle.qh_qtd.specs.Token.{token_at}
use Rattle.drv_table.specs.Harvests.{buffer_bytes, bytes_now}
use Rattle.drv_table.specs.Releases.{cancelled_bytes}
use Rattle.law_queues.proofs.cancelled_bytes.worked.a_get_of_two_qtds.Goals as goal

pub returns-clause-out : goal.returns-clause-out
returns-clause-out c = refl

pub returns-clause-overlay : goal.returns-clause-overlay
unfolding token_at buffer_bytes bytes_now cancelled_bytes
returns-clause-overlay c = refl

pub returns-clause-token : goal.returns-clause-token
unfolding token_at buffer_bytes bytes_now cancelled_bytes
returns-clause-token c = refl

pub returns-clause-reported : goal.returns-clause-reported
unfolding cancelled_bytes
returns-clause-reported c = refl

pub returns-clause-beside : goal.returns-clause-beside
unfolding cancelled_bytes
returns-clause-beside c = refl
