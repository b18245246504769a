use Rattle.hc_copy.proofs.Errors.{errors_left}
use Rattle.hc_copy.proofs.transacting.transact.Goals as goal

pub settle-requires-clause-errors : goal.settle-requires-clause-errors
settle-requires-clause-errors g c =
    errors_left g.W.Wire.transacts _ c.args.t.now.host c.args.wire.now c.exchange-outcome.new.wire c.exchange-outcome.new.reply c.exchange-outcome.result c.exchange-outcome.new.host c.exchange-outcome.ensures.one c.requires.can.errors
