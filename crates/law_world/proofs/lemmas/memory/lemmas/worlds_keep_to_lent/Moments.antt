-- Along the run of a script it holds at each moment.
use Rattle.std.proofs.Common.{ℕ, zero, suc, List, [], ◌∷◌}
use Rattle.script_types.specs.declared.scripts.Event.TheVariants as events
use Rattle.script_types.specs.declared.scripts.Script.{Script}
use Rattle.script_fits.specs.Fits.{IsFit}
use Rattle.bus_wire.specs.Bus.{Fixed, fixed_of}
use Rattle.bus_world.specs.World.{World}
use Rattle.bus_world.specs.Opening.{opening_world}
use Rattle.bus_world.specs.Orders.{Left, Events, Microframes, Answer, Command, OrderedWorld, at_place, orders_of, tick, tick_by, tick_at, ticks}
use Rattle.bus_world.specs.Budgets.{moment}
use Rattle.claims_world.specs.Lent.{KeepsToLentThroughout}
use Rattle.law_world.proofs.lemmas.memory.lemmas.worlds_keep_to_lent.Standing.{IsStanding, next_stands, commanded_stands, opening_stands, keeps_to_lent}

by_stands : (fixed : Fixed) (w : World) (x : Left) (rest : List Left) → IsStanding w → IsStanding (tick_by fixed w x rest).world
by_stands fixed w (Events event (suc n)) rest k = next_stands fixed w event k
by_stands fixed w (Microframes (suc n)) rest k = next_stands fixed w events.C k
by_stands fixed w (Answer ended n) rest k = next_stands fixed w events.D k
by_stands fixed w (Command n cmd) rest k = commanded_stands w n cmd k
by_stands fixed w _ rest k = k

at_stands : (fixed : Fixed) (w : World) (orders : List Left) → IsStanding w → IsStanding (tick_at fixed w orders).world
at_stands fixed w [] k = k
at_stands fixed w (x ∷ rest) k = by_stands fixed w x rest k

pub all_stand : (fixed : Fixed) (p : OrderedWorld) (n : ℕ) → IsStanding p.world → IsStanding (ticks fixed p n).world
unfolding ticks
all_stand fixed p zero k = k
all_stand fixed p (suc n) k = all_stand fixed (tick fixed p) n (at_stands fixed p.world p.orders k)

pub moment_stands : (s : Script) (n : ℕ) → IsFit s → IsStanding (moment s n).world
moment_stands s n fit = all_stand (fixed_of s) (at_place (opening_world s) (orders_of s.lines)) n (opening_stands s fit)

-- each moment of the run of a script that fits
pub each_moment_keeps_to_lent_blocks : (s : Script) → IsFit s → KeepsToLentThroughout s
each_moment_keeps_to_lent_blocks s fit n = keeps_to_lent (fixed_of s) (moment s n).world (moment_stands s n fit)
