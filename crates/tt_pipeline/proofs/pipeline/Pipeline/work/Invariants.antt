use Rattle.std.proofs.Common.{◌≡◌, ◌+◌, ◌-◌, ◌≤◌, List, ◌++◌, take, drop}
use Rattle.tt_pipeline.specs.declared.entry.Entry.{Entry}
use Rattle.tt_pipeline.specs.Working.{used_by, Works}
use Rattle.tt_pipeline.proofs.pipeline.Pipeline.work.Given as goal

abbrev pub invariant-loop-entry : goal.invariant-loop-entry
invariant-loop-entry g l = record {
  room : l.room ≤ 188;
  used : used_by 188 l.fn.self ≡ (188 - l.room) + used_by l.room (drop l.entry-index l.fn.self);
  same : drop l.entry-index l.entry-items ≡ drop l.entry-index l.fn.self;
  works : (fin : g.row.W.Denot) (rest : List Entry) → Works g.W.Wire.transacts l.room (drop l.entry-index l.fn.self) l.port fin rest → Works g.W.Wire.transacts 188 l.fn.self l.fn.port fin (take l.entry-index l.entry-items ++ rest);
}
