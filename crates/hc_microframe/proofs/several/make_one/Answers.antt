use Rattle.hc_microframe.proofs.EventsInRow.{makes, asks}
use Rattle.hc_microframe.proofs.several.make_one.Goals as goal

pub returns-clause-made : goal.returns-clause-made
returns-clause-made g c k same =
    makes _ _ c.step-kind.result k _ c.step-kind.new.wire c.is_asked.result c.step-kind.ensures.row c.step-kind.ensures.kind
    c.step-kind.ensures.refused c.is_asked.ensures c.if-is_asked.false same

pub returns-then-is_asked-clause-asks : goal.returns-then-is_asked-clause-asks
returns-then-is_asked-clause-asks g c same =
    asks _ c.args.desk.now c.keep.new.whole _ c.step-kind.new.wire c.is_asked.result c.requires c.step-kind.ensures.row
    c.keep.ensures.registers c.keep.ensures.control c.is_asked.ensures c.if-is_asked.true
