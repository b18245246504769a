use Rattle.law_queues.proofs.lemmas.publish_laws.Keeping.{it_goes_on_beside_the_controller}
use Rattle.law_queues.proofs.publish_laws.qtd_laws.it_goes_on_beside_the_controller.Goals as goal

pub returns : goal.returns
returns c = it_goes_on_beside_the_controller
