use Rattle.std.proofs.Common.{refl}
use Rattle.link_words.specs.Links.{link_read}
use Rattle.qh_qtd.specs.QueueHead.{qh_at}
use Rattle.law_controller.proofs.aligned_copies.worked.low_bits_are_no_address.Goals as goal

pub returns-clause-link : goal.returns-clause-link
unfolding link_read
returns-clause-link c = refl

pub returns-clause-current : goal.returns-clause-current
unfolding qh_at
returns-clause-current c = refl
