use Rattle.std.proofs.Common.{◌≡◌, ◌≤◌, vec_len}
use Rattle.std.specs.Io.KnownBytes.{Consumes}
use Rattle.app_ends.specs.Input.{input_limit}
use Rattle.app_ends.proofs.reading.read_input.Given as goal

abbrev pub invariant-loop-turn : goal.invariant-loop-turn
invariant-loop-turn g l = record {
  bound : vec_len l.input ≤ input_limit;
  turns : l._turn ≤ vec_len l.input;
  front : Consumes (g.S.Source.left l.fn.source) (g.S.Source.left l.source) l.input.items;
  same : g.S.Source.faults l.source ≡ g.S.Source.faults l.fn.source;
}
