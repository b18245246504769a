use Rattle.worked_claims.proofs.OwningBytes.{last_byte_is_its_own, byte_behind_is_not}
use Rattle.worked_claims.proofs.owners.owners_are_broken_by_a_byte_past_the_last_one.Goals as goal

pub returns-clause-last : goal.returns-clause-last
returns-clause-last c = last_byte_is_its_own

pub returns-clause-behind : goal.returns-clause-behind
returns-clause-behind c = byte_behind_is_not
