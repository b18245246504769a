-- What the script of a text opens (EHCI 1.0, 3.3.3, 3.4.2 and 3.6; USB 2.0, 5.3.1.2, 5.5 and 8.3.2).
--     FitsLine line         where the line opens an endpoint, its address has 7 bits, its number 4, and the address of its hub 7 (EHCI 1.0, 3.3.3, 3.4.2; USB 2.0, 8.3.2)
--     FitsOpens s           so does each line of the script
--     TextsFit              so it is of each script that a text spells
--     FittingLine line      where the line opens an endpoint, it has the way of its kind: a control endpoint has both, any other one (USB 2.0, 5.3.1.2 and 5.5)
--     FittingOnly s         so does each that the script opens
--     TextsOpenFitting      so it is of each script that a text spells
use Rattle.std.specs.Prelude.{ℕ, List}
use Rattle.std.specs.List.{AllByRecursion}
use Rattle.script_types.specs.declared.scripts.Line.{Line}
use Rattle.script_types.specs.declared.scripts.Line.TheVariants as lines
use Rattle.script_types.specs.declared.scripts.Script.{Script}
use Rattle.script_text.specs.Faults.{Spells}
use Rattle.law_world.specs.memory.framed_memory.IsochronousLaws.{OpensNumbered}
use Rattle.law_driver.specs.queued_drivers.Commands.{OpensFitting}

-- ---- numbers

abbrev pub FitsLine : Line → Type 0
FitsLine (lines.Command cmd) = OpensNumbered cmd
FitsLine _ = Unit {0}

abbrev pub FitsOpens : Script → Type 0
FitsOpens s = AllByRecursion (λ line. FitsLine line.1) s.lines

abbrev pub TextsFit : Type 0
TextsFit = (text : List ℕ) (s : Script) → Spells text s → FitsOpens s

-- ---- ways

abbrev pub FittingLine : Line → Type 0
FittingLine (lines.Command cmd) = OpensFitting cmd
FittingLine _ = Unit {0}

abbrev pub FittingOnly : Script → Type 0
FittingOnly s = AllByRecursion (λ line. FittingLine line.1) s.lines

abbrev pub TextsOpenFitting : Type 0
TextsOpenFitting = (text : List ℕ) (s : Script) → Spells text s → FittingOnly s
