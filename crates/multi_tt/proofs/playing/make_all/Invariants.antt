use Rattle.std.proofs.Common.{◌≡◌, map, drop, true, IsTrue}
use Rattle.std.specs.List.{list_all}
use Rattle.multi_tt.specs.Translators.{opening_of}
use Rattle.multi_tt.specs.Calls.{hub_played}
use Rattle.multi_tt.specs.Played.{call_of, is_short}
use Rattle.multi_tt.proofs.playing.make_all.Given as goal

abbrev pub invariant-loop-call : goal.invariant-loop-call
invariant-loop-call l = record {
  played : hub_played (map call_of (drop l.call-index l.calls)) l.translators ≡ hub_played (map call_of l.calls) (opening_of l.ports true);
  rest : IsTrue (list_all is_short (drop l.call-index l.calls));
}
