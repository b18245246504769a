-- Why the asynchronous part of a microframe ends, and why a queue head that is visited has no transaction, at each moment of a run (EHCI 1.0, 4.8.3, 4.9, 4.10.3 and
-- 4.15.2.4).
--     MixedHasReasons          so it is of a mixed world
--     TextsKeepReasons         the law, of each script that a text spells
use Rattle.std.specs.Prelude.{ℕ, List}
use Rattle.script_types.specs.declared.scripts.Script.{Script}
use Rattle.script_text.specs.Faults.{Spells}
use Rattle.bus_wire.specs.Bus.{Fixed}
use Rattle.bus_world.specs.World.{World}
use Rattle.law_world.specs.memory.Mixed.{IsMixedWorld}
use Rattle.claims_world.specs.Visits.{HasReasons, KeepsReasons}

abbrev pub MixedHasReasons : Type 0
MixedHasReasons = (fixed : Fixed) (w : World) → IsMixedWorld w → HasReasons w

abbrev pub TextsKeepReasons : Type 0
TextsKeepReasons = (text : List ℕ) (s : Script) → Spells text s → KeepsReasons s
