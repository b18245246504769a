use Rattle.hc_microframe.proofs.Wholes.{ring_begins}
use Rattle.hc_microframe.proofs.stepping.begin_ring.Goals as goal

pub returns-clause-control : goal.returns-clause-control
returns-clause-control c control is = ring_begins c.args.whole.now c.new-whole.result control c.new-whole.ensures is
