-- The addresses and numbers of what a script opens (USB 2.0, 8.3.2).
--     NumbersLine line      where the line opens an endpoint, its address has 7 bits and its number 4
--     NumbersOpens s        so does each line of the script
use Rattle.std.specs.List.{AllByRecursion}
use Rattle.script_types.specs.declared.scripts.Line.{Line}
use Rattle.script_types.specs.declared.scripts.Line.TheVariants as lines
use Rattle.script_types.specs.declared.scripts.Script.{Script}
use Rattle.law_driver_ring.specs.walk_members.Reached.{OpensNumbered}

abbrev pub NumbersLine : Line → Type 0
NumbersLine (lines.Command cmd) = OpensNumbered cmd
NumbersLine _ = Unit {0}

abbrev pub NumbersOpens : Script → Type 0
NumbersOpens s = AllByRecursion (λ line. NumbersLine line.1) s.lines
