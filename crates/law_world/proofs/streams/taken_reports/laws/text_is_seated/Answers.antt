use Rattle.law_world.proofs.lemmas.streams.lemmas.taken_reports.Seating.{text_is_seated}
use Rattle.law_world.proofs.streams.taken_reports.laws.text_is_seated.Goals as goal

pub returns : goal.returns
returns c = text_is_seated
