use Rattle.drv_endpoints.proofs.Words.{none_from, lowest_from, positive}
use Rattle.drv_endpoints.proofs.bits.first_in.Goals as goal

pub returns-then-rest-eq0-clause-none : goal.returns-then-rest-eq0-clause-none
returns-then-rest-eq0-clause-none c = none_from c.args.word c.args.from c.if-rest-eq0.true

pub returns-clause-first : goal.returns-clause-first
returns-clause-first c = lowest_from c.args.word c.args.from c.ranges.word.fits (positive _ c.if-rest-eq0.false)

pub returns-clause-within : goal.returns-clause-within
returns-clause-within c = (lowest_from c.args.word c.args.from c.ranges.word.fits (positive _ c.if-rest-eq0.false)).within
