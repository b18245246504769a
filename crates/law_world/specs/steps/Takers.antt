-- The takers of a script, before its first line (USB 2.0, 8.6).
--     takes_of s             the bus of the script has an OUT endpoint of this address and number
--     OpeningIsUntaken       each of them took nothing, and expects DATA0
use Rattle.std.specs.Prelude.{ℕ, Bool, is_some}
use Rattle.script_types.specs.declared.scripts.Script.{Script}
use Rattle.bus_wire.specs.Bus.{opening_wired}
use Rattle.law_ring.specs.Told.{Endpoint}
use Rattle.law_devices.specs.scripted_takers.Takers.{taker_of}
use Rattle.law_world.specs.steps.Outs.{AreUntaken}

abbrev pub takes_of : Script → ℕ → ℕ → Bool
takes_of s addr ep = is_some (taker_of (opening_wired s) addr ep)

abbrev pub OpeningIsUntaken : Type 0
OpeningIsUntaken = (s : Script) (outs : ℕ → Bool) (ends : ℕ → Endpoint) → AreUntaken (takes_of s) taker_of outs ends (opening_wired s)
