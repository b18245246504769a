use Rattle.law_translator.proofs.lemmas.hub_plans.Places.{places_are_kept}
use Rattle.law_translator.proofs.hub_plans.laws.places_are_kept.Goals as goal

pub returns : goal.returns
returns c = places_are_kept
