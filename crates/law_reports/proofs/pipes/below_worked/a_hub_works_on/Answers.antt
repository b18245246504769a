use Rattle.std.proofs.Common.{refl}
use Rattle.law_reports.proofs.lemmas.pipes.lemmas.below_hubs.BelowSampled.{told_one, untaken_told, unput_taken}
use Rattle.law_reports.proofs.pipes.below_worked.a_hub_works_on.Goals as goal

pub returns-clause-later : goal.returns-clause-later
returns-clause-later c = refl

pub returns-clause-told : goal.returns-clause-told
returns-clause-told c = told_one

pub returns-clause-untaken : goal.returns-clause-untaken
returns-clause-untaken c = untaken_told

pub returns-clause-unput : goal.returns-clause-unput
returns-clause-unput c = unput_taken
