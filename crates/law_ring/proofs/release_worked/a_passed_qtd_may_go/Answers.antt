use Rattle.law_ring.proofs.ReleaseSampled.{may_go}
use Rattle.law_ring.proofs.release_worked.a_passed_qtd_may_go.Goals as goal

pub returns : goal.returns
returns c = may_go
