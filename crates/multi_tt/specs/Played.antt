-- Calls with microframes in which nobody answers, as `play` makes them.
use Rattle.std.specs.Prelude.{nat_le, Bool, true, [], length}
use Rattle.multi_tt.specs.declared.playing.TtCall.{TtCall}
use Rattle.multi_tt.specs.declared.playing.TtCall.TheVariants as Asked
use Rattle.multi_tt.specs.Calls.{HubCall, Starts, Completes, Works, Clears, Resets}

-- a start has at most 1,024 bytes
abbrev pub is_short : TtCall → Bool
is_short (Asked.Start ask bytes stuff) = nat_le (length bytes) 1024
is_short _ = true

abbrev pub call_of : TtCall → HubCall
call_of (Asked.Start ask bytes stuff) = Starts ask bytes stuff
call_of (Asked.Complete ask) = Completes ask
call_of (Asked.Silent frindex) = Works frindex []
call_of (Asked.Clear port key) = Clears port key
call_of (Asked.Reset port) = Resets port
