use Rattle.law_queues.proofs.lemmas.told_endpoints.Tellings.{keeps_names, adds_refusal}
use Rattle.law_queues.proofs.told_endpoints.laws.names_and_refusals_tell_nothing.Goals as goal

pub returns-clause-names : goal.returns-clause-names
returns-clause-names c = keeps_names

pub returns-clause-refusal : goal.returns-clause-refusal
returns-clause-refusal c = adds_refusal
