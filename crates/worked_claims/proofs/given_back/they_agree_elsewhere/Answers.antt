use Rattle.worked_claims.proofs.GivenBack.{elsewhere_same, there_other}
use Rattle.worked_claims.proofs.given_back.they_agree_elsewhere.Goals as goal

pub returns : goal.returns
returns c = record { elsewhere = elsewhere_same; other = there_other }
