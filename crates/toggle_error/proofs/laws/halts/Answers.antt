use Rattle.toggle_error.proofs.Halts.{row_error, stall_halts, babble_halts}
use Rattle.toggle_error.specs.Settle.{settle_row}
use Rattle.toggle_error.proofs.laws.halts.Goals as goal

pub returns-clause-error : goal.returns-clause-error
returns-clause-error c = row_error (settle_row c.args.ask.now c.args.sent c.args.last c.args.reply.now c.args.host.now) c.args.host.now

pub returns-clause-stall : goal.returns-clause-stall
returns-clause-stall c = stall_halts c.args.ask.now c.args.sent c.args.last c.args.reply.now c.args.host.now

pub returns-clause-babble : goal.returns-clause-babble
returns-clause-babble c = babble_halts c.args.ask.now c.args.sent c.args.last c.args.reply.now c.args.host.now
