-- Scripts that clear no halt: their driver is at no job, and no endpoint of theirs is reset.
--     IsPlain s      no line of the script is a clear
use Rattle.std.specs.Prelude.{ℕ, List}
use Rattle.std.specs.List.{AllByRecursion}
use Rattle.usb_base.specs.declared.commands.Cmd.{Cmd}
use Rattle.usb_base.specs.declared.commands.Cmd.TheVariants as commands
use Rattle.script_types.specs.declared.scripts.Line.{Line}
use Rattle.script_types.specs.declared.scripts.Line.TheVariants as lines
use Rattle.script_types.specs.declared.scripts.Script.{Script}

abbrev pub IsPlainCommand : Cmd → Type 0
IsPlainCommand (commands.Clear name) = ⊥
IsPlainCommand _ = Unit {0}

abbrev pub IsPlainLine : Line → Type 0
IsPlainLine (lines.Command cmd) = IsPlainCommand cmd
IsPlainLine _ = Unit {0}

abbrev pub ArePlain : List (ℕ × Line) → Type 0
ArePlain xs = AllByRecursion (λ x. IsPlainLine x.1) xs

abbrev pub IsPlain : Script → Type 0
IsPlain s = ArePlain s.lines
