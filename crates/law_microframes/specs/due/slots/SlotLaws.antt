-- The laws of the slots of isochronous transfer descriptors.
--     TextsServeSlots     of each script that a text spells: each slot that is fetched active is done in its microframe
use Rattle.std.specs.Prelude.{ℕ, List}
use Rattle.script_types.specs.declared.scripts.Script.{Script}
use Rattle.script_text.specs.Faults.{Spells}
use Rattle.claims_world.specs.Slots.{SlotsAreDone}

abbrev pub TextsServeSlots : Type 0
TextsServeSlots = (text : List ℕ) (s : Script) → Spells text s → SlotsAreDone s
