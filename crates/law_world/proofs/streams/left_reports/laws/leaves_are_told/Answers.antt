use Rattle.law_world.proofs.lemmas.streams.lemmas.left_reports.Before.{leaves_are_told}
use Rattle.law_world.proofs.streams.left_reports.laws.leaves_are_told.Goals as goal

pub returns : goal.returns
returns c = leaves_are_told
