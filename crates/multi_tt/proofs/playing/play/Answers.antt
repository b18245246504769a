use Rattle.std.proofs.Common.{map}
use Rattle.multi_tt.specs.Played.{call_of}
use Rattle.multi_tt.proofs.Apart.{ok_each}
use Rattle.multi_tt.proofs.playing.play.Goals as goal

pub returns-clause-each : goal.returns-clause-each
returns-clause-each c = ok_each c.args.ports (map call_of c.args.calls.now) c.make_all.result c.make_all.ensures
