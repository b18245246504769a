use Rattle.std.proofs.Common.{sym, ◌∙◌, arith}
use Rattle.claims_headline.proofs.worked.a_packet_that_comes_again_is_none.Goals as goal

pub returns-clause-again : goal.returns-clause-again
returns-clause-again c s b e q h one = omega (arith, h.known, one)

pub returns-clause-nak : goal.returns-clause-nak
returns-clause-nak c s b e q h n rest is = let never = sym h.packet ∙ is in absurd cc
