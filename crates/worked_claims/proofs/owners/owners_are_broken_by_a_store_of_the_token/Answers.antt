use Rattle.worked_claims.proofs.Owning.{link_store_leaves, token_store_takes}
use Rattle.worked_claims.proofs.owners.owners_are_broken_by_a_store_of_the_token.Goals as goal

pub returns-clause-link : goal.returns-clause-link
returns-clause-link c = link_store_leaves

pub returns-clause-token : goal.returns-clause-token
returns-clause-token c = token_store_takes
