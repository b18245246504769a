use Rattle.std.proofs.Common.{◌≡◌, List, ◌++◌, take, drop}
use Rattle.multi_tt.specs.Translators.{Translator}
use Rattle.multi_tt.specs.Single.{AllWork}
use Rattle.multi_tt.proofs.translators.Translators.microframe.Given as goal

abbrev pub invariant-loop-one : goal.invariant-loop-one
invariant-loop-one g l = record {
  same : drop l.one-index l.one-items ≡ drop l.one-index l.fn.self.all;
  works : (fin : g.row.W.Denot) (rest : List Translator)
      → AllWork g.W.Wire.transacts l.frindex (drop l.one-index l.fn.self.all) l.down fin rest
      → AllWork g.W.Wire.transacts l.frindex l.fn.self.all l.fn.down fin (take l.one-index l.one-items ++ rest);
}
