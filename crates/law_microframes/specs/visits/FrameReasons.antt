-- Why a queue head in hand of the walk of the frames has no transaction (EHCI 1.0, 3.6.2, 4.10, 4.10.3, 4.12.2.4 and 4.15.2.4).
--     WorldsPassInFrames       the law of each world
--     MixedVisitsInFrames      the law of mixed worlds
--     TextsKeepFrameReasons    the law, of each script that a text spells
use Rattle.std.specs.Prelude.{ℕ, List}
use Rattle.script_types.specs.declared.scripts.Script.{Script}
use Rattle.script_text.specs.Faults.{Spells}
use Rattle.bus_world.specs.World.{World}
use Rattle.law_world.specs.memory.Mixed.{IsMixedWorld}
use Rattle.claims_world.specs.Visits.{PassesInFramesForAReason, VisitsInFrames, KeepsFrameReasons}

-- ---- of a world

abbrev pub WorldsPassInFrames : Type 0
WorldsPassInFrames = (w : World) → PassesInFramesForAReason w

abbrev pub MixedVisitsInFrames : Type 0
MixedVisitsInFrames = (w : World) → IsMixedWorld w → VisitsInFrames w

-- ---- of a run

abbrev pub TextsKeepFrameReasons : Type 0
TextsKeepFrameReasons = (text : List ℕ) (s : Script) → Spells text s → KeepsFrameReasons s
