use Rattle.worked_claims.proofs.Owning.{token_is_controllers, link_is_not}
use Rattle.worked_claims.proofs.owners.a_token_is_the_controllers_and_a_link_is_not.Goals as goal

pub returns-clause-token : goal.returns-clause-token
returns-clause-token c = token_is_controllers

pub returns-clause-link : goal.returns-clause-link
returns-clause-link c = link_is_not
