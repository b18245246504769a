-- The scripts of which clauses speak that aren't of every script.
--     HighPeriodicsOnly s                each periodic endpoint that the script opens is of high speed
use Rattle.std.specs.List.{AllByRecursion}
use Rattle.std.specs.Prelude.{◌≡◌, true}
use Rattle.usb_base.specs.declared.commands.Cmd.{Cmd}
use Rattle.usb_base.specs.declared.commands.Cmd.TheVariants as commands
use Rattle.usb_base.specs.declared.packets.Speed.TheVariants.{High}
use Rattle.script_types.specs.declared.scripts.Line.{Line}
use Rattle.script_types.specs.declared.scripts.Line.TheVariants as lines
use Rattle.script_types.specs.declared.scripts.Script.{Script}
use Rattle.drv_periodic_table.specs.Periodic.{is_periodic}

-- ---- scripts

abbrev pub OpensHighPeriodics : Cmd → Type 0
OpensHighPeriodics (commands.OpenEp x) = is_periodic x.kind ≡ true → x.speed ≡ High
OpensHighPeriodics _ = Unit {0}

abbrev pub HighPeriodicsLine : Line → Type 0
HighPeriodicsLine (lines.Command cmd) = OpensHighPeriodics cmd
HighPeriodicsLine _ = Unit {0}

abbrev pub HighPeriodicsOnly : Script → Type 0
HighPeriodicsOnly s = AllByRecursion (λ line. HighPeriodicsLine line.1) s.lines
