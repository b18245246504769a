use Rattle.drv_endpoints.proofs.Words.{bit_set, bit_cleared}
use Rattle.drv_endpoints.proofs.bits.with_bit.Goals as goal

pub returns-then-set : goal.returns-then-set
returns-then-set c = rw c.if-set.true (bit_set c.args.word c.args.e)

pub returns : goal.returns
returns c = rw c.if-set.false (bit_cleared c.args.word c.args.e)
