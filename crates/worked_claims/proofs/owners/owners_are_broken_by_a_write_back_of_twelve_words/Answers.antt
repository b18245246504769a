use Rattle.worked_claims.proofs.Owning.{nine_words_are_its_own, twelve_words_are_not}
use Rattle.worked_claims.proofs.owners.owners_are_broken_by_a_write_back_of_twelve_words.Goals as goal

pub returns-clause-nine : goal.returns-clause-nine
returns-clause-nine c = nine_words_are_its_own

pub returns-clause-twelve : goal.returns-clause-twelve
returns-clause-twelve c = twelve_words_are_not
