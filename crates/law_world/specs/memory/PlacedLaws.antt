-- Laws of worlds with endpoints of every kind: everything is in place, and the controller meets no fault.
--     MixedIsAtWork              a mixed world is at work, where each event of the controller leaves it one
--     KeepsMemoryWhileMixed      while the world of a script is mixed, its memory is kept
--     FitsMixed s                what the script opens has numbers that fit their fields, and ways that fit their kinds
--     ScriptsStayMixed           the world of each script of bytes that fits so is mixed at each moment, where each event and each command leaves it so
--     TextsKeepMemory            so the memory of each script is kept that a text spells
use Rattle.std.specs.Prelude.{ℕ, List}
use Rattle.std.specs.List.{AllByRecursion}
use Rattle.script_types.specs.declared.scripts.Line.{Line}
use Rattle.script_types.specs.declared.scripts.Line.TheVariants as lines
use Rattle.script_types.specs.declared.scripts.Script.{Script}
use Rattle.script_text.specs.Faults.{Spells}
use Rattle.script_fits.specs.Fits.{IsFit}
use Rattle.law_scripts.specs.byte_answers.Bytes.{IsByteScript}
use Rattle.bus_wire.specs.Bus.{Fixed}
use Rattle.bus_world.specs.World.{World}
use Rattle.bus_world.specs.Budgets.{moment}
use Rattle.law_world.specs.memory.Mixed.{IsMixedWorld}
use Rattle.law_world.specs.memory.Laws.{OpensMixed}
use Rattle.claims_world.specs.Memory.{IsAtWork, KeepsMemory}

abbrev pub MixedIsAtWork : Type 0
MixedIsAtWork = (fixed : Fixed) (w : World) → IsMixedWorld w → IsAtWork fixed w

abbrev pub KeepsMemoryWhileMixed : Type 0
KeepsMemoryWhileMixed = (s : Script) → ((k : ℕ) → IsMixedWorld (moment s k).world) → KeepsMemory s

abbrev pub MixedLine : Line → Type 0
MixedLine (lines.Command cmd) = OpensMixed cmd
MixedLine _ = Unit {0}

abbrev pub FitsMixed : Script → Type 0
FitsMixed s = AllByRecursion (λ line. MixedLine line.1) s.lines

abbrev pub ScriptsStayMixed : Type 0
ScriptsStayMixed = (s : Script) → IsFit s → IsByteScript s → FitsMixed s → (k : ℕ) → IsMixedWorld (moment s k).world

abbrev pub TextsKeepMemory : Type 0
TextsKeepMemory = (text : List ℕ) (s : Script) → Spells text s → KeepsMemory s
