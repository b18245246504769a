use Rattle.law_microframes.proofs.lemmas.visits.BelongReads.{head_is_read, names_are_apart}
use Rattle.law_microframes.proofs.visits.belonging.a_queue_head_that_is_read_is_that_of_its_endpoint.Goals as goal

pub returns : goal.returns
returns c = record { read = head_is_read; apart = names_are_apart }
