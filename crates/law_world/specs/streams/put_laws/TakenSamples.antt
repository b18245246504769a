-- A script of a device with an OUT endpoint, for worked rows: it is opened, the driver has two events, and then two puts are offered, of which the second comes while
-- the first is unfinished.
--     two_puts             the script
--     first, second        its puts
--     after k              the place of its run after k events and commands
--     in_disorder          a script whose numbers don't rise
use Rattle.std.specs.Prelude.{ℕ, [], ◌∷◌}
use Rattle.usb_base.specs.declared.commands.Cmd.TheVariants.{Put}
use Rattle.script_types.specs.declared.scripts.Event.TheVariants as events
use Rattle.script_types.specs.declared.scripts.Line.{Line}
use Rattle.script_types.specs.declared.scripts.Line.TheVariants as lines
use Rattle.script_types.specs.declared.scripts.Script.{Script}
use Rattle.claims_report.specs.Reports.{WholeReport}
use Rattle.claims_report.specs.Samples.{script_of, commanded, receiver, bulk}
use Rattle.bus_wire.specs.Bus.{fixed_of}
use Rattle.bus_world.specs.Orders.{OrderedWorld}
use Rattle.bus_world.specs.Budgets.{moment}
use Rattle.claims_world.specs.Streams.{report_of}

abbrev pub first : ℕ × Line
first = commanded 7 (Put receiver (1 ∷ 2 ∷ 3 ∷ []) 20480)

abbrev pub second : ℕ × Line
second = commanded 8 (Put receiver (9 ∷ []) 20480)

abbrev pub two_puts : Script
two_puts = script_of (bulk receiver) [] ((6, lines.Order events.D 2) ∷ first ∷ second ∷ [])

abbrev pub after : ℕ → OrderedWorld
after k = moment two_puts k

abbrev pub report_after : ℕ → WholeReport
report_after k = report_of (fixed_of two_puts) (after k).world

abbrev pub in_disorder : Script
in_disorder = script_of (bulk receiver) [] (second ∷ first ∷ [])
