use Rattle.std.proofs.Common.{refl, inl}
use Rattle.std.specs.Prelude.{[], false}
use Rattle.law_world.proofs.lemmas.steps.RowSampling.{taken_some, never_in, never_beside}
use Rattle.law_world.proofs.steps.row_worked.of_the_words.Goals as goal

pub returns-clause-untaken : goal.returns-clause-untaken
returns-clause-untaken c = record { taker = record { taken = []; expects = false }; is = refl; none = refl; first = refl }

pub returns-clause-taken : goal.returns-clause-taken
returns-clause-taken c = taken_some

pub returns-clause-out : goal.returns-clause-out
returns-clause-out c = inl (refl, refl)

pub returns-clause-no_in : goal.returns-clause-no_in
returns-clause-no_in c = never_in

pub returns-clause-beside : goal.returns-clause-beside
returns-clause-beside c = never_beside
