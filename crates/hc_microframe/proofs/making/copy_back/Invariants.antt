use Rattle.std.proofs.Common.{◌≡◌, length}
use Rattle.std.specs.Prelude.{take}
use Rattle.hc_microframe.proofs.making.copy_back.Given as goal

abbrev pub invariant-loop-place : goal.invariant-loop-place
invariant-loop-place l = record {
  front : take l.place l.words ≡ take l.place l.mem.words;
  length : length l.words ≡ length l.mem.words;
}
