-- While the controller runs, no event and no command counts a refusal.
use Rattle.std.proofs.Common.{◌≡◌, ℕ, zero, suc, true, List, [], ◌∷◌, Result, Ok, Err, ◌∙◌, refl}
use Rattle.usb_base.specs.declared.commands.Cmd.{Cmd}
use Rattle.usb_base.specs.declared.reports.OfferError.{OfferError}
use Rattle.script_types.specs.declared.scripts.Event.{Event}
use Rattle.script_types.specs.declared.scripts.Event.TheVariants as events
use Rattle.drv_table.specs.Accepting.{Offered}
use Rattle.drv_table.specs.Offers.{offered}
use Rattle.drv_table.specs.Rows.{driver_row}
use Rattle.bus_wire.specs.Bus.{Fixed, fixed_of}
use Rattle.bus_world.specs.World.{World, driver_parts, next, name_in, commanded_by}
use Rattle.bus_world.specs.Opening.{opening_world}
use Rattle.bus_world.specs.Orders.{Left, Events, Microframes, Answer, Command, OrderedWorld, at_place, orders_of, tick_by, tick_at, tick, ticks}
use Rattle.law_world.proofs.lemmas.memory.lemmas.running_worlds.Errors.{goes_on}
use Rattle.law_world.specs.memory.running_worlds.Running.{NoRefusalWhileItRuns}
use Rattle.law_world.proofs.lemmas.memory.lemmas.running_worlds.UnrefusedRows.{row_same}
use Rattle.law_world.proofs.lemmas.memory.lemmas.running_worlds.UnrefusedCommands.{command_same}

abbrev CountsNone : World → Type 0
CountsNone w = w.memory.foreign ≡ 0

Runs : OrderedWorld → Type 0
Runs p = p.world.registers.run ≡ true

IsUncounted : OrderedWorld → Type 0
IsUncounted p = CountsNone p.world

next_counts : (fixed : Fixed) (w : World) (event : Event) → (next fixed w event).registers.run ≡ true → CountsNone w → CountsNone (next fixed w event)
next_counts fixed w events.D run none = row_same (driver_row (driver_parts w)) (driver_parts w) ∙ none
next_counts fixed w events.C run none = (goes_on fixed w run).count ∙ none

command_counts : (w : World) (n : ℕ) (cmd : Cmd) (r : Result Offered OfferError) → offered w.driver w.memory cmd ≡ r → CountsNone w → CountsNone (commanded_by w n (name_in cmd) r)
command_counts w n cmd (Ok o) is none = command_same w.driver w.memory cmd o is ∙ none
command_counts w n cmd (Err why) is none = none

by_counts : (fixed : Fixed) (w : World) (x : Left) (rest : List Left) → Runs (tick_by fixed w x rest) → CountsNone w → IsUncounted (tick_by fixed w x rest)
unfolding Runs IsUncounted
by_counts fixed w (Events event (suc n)) rest run none = next_counts fixed w event run none
by_counts fixed w (Microframes (suc n)) rest run none = next_counts fixed w events.C run none
by_counts fixed w (Answer ended n) rest run none = next_counts fixed w events.D run none
by_counts fixed w (Command n cmd) rest run none = command_counts w n cmd (offered w.driver w.memory cmd) refl none
by_counts fixed w _ rest run none = none

at_counts : (fixed : Fixed) (w : World) (orders : List Left) → Runs (tick_at fixed w orders) → CountsNone w → IsUncounted (tick_at fixed w orders)
unfolding IsUncounted
at_counts fixed w [] run none = none
at_counts fixed w (x ∷ rest) run none = by_counts fixed w x rest run none

all_counts : (fixed : Fixed) (p : OrderedWorld) (k : ℕ) → ((j : ℕ) → Runs (ticks fixed p j)) → IsUncounted p → IsUncounted (ticks fixed p k)
unfolding ticks IsUncounted
all_counts fixed p zero runs none = none
all_counts fixed p (suc k) runs none = all_counts fixed (tick fixed p) k (λ j. runs (suc j)) (at_counts fixed p.world p.orders (runs 1) none)

pub no_refusal_while_it_runs : NoRefusalWhileItRuns
unfolding Runs IsUncounted
no_refusal_while_it_runs s runs k = all_counts (fixed_of s) (at_place (opening_world s) (orders_of s.lines)) k runs refl
