use Rattle.std.proofs.Common.{refl}
use Rattle.qh_qtd.specs.Token.{token_at}
use Rattle.drv_table.specs.Harvests.{buffer_bytes, bytes_now}
use Rattle.drv_table.specs.Releases.{cancelled_bytes}
use Rattle.law_world.proofs.streams.left_reports.worked.a_cancelled_one_is_told.Goals as goal

pub returns-clause-told : goal.returns-clause-told
unfolding cancelled_bytes bytes_now buffer_bytes token_at
returns-clause-told c = refl
