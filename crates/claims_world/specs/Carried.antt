-- What the run of a script carries along beside its worlds, such as what the walks have visited: an event of the controller changes it, and every other event or command leaves it.
--     carried_next by fixed w event x   what is carried after an event of the world; `by fixed w` tells what the next event of the
--                                       controller makes of it
--     carried_by                        .. after an event or a command; carried_in: .. that the first of these orders asks for
--     carried_from by fixed p x n       .. after n of them
--     carried by s x n                  .. after n events and commands of the run of a script, which begins with x
use Rattle.std.specs.Prelude.{ℕ, zero, suc, List, [], ◌∷◌}
use Rattle.script_types.specs.declared.scripts.Event.{Event}
use Rattle.script_types.specs.declared.scripts.Event.TheVariants as events
use Rattle.script_types.specs.declared.scripts.Script.{Script}
use Rattle.bus_wire.specs.Bus.{Fixed, fixed_of}
use Rattle.bus_world.specs.Opening.{opening_world}
use Rattle.bus_world.specs.Orders.{Left, Events, Microframes, at_place, Answer, Command, OrderedWorld, Plugs, orders_of, tick}
use Rattle.bus_world.specs.World.{World}

abbrev pub carried_next : {X : Type 0} → (Fixed → World → X → X) → Fixed → World → Event → X → X
carried_next by fixed w events.D x = x
carried_next by fixed w events.C x = by fixed w x

abbrev pub carried_by : {X : Type 0} → (Fixed → World → X → X) → Fixed → World → Left → X → X
carried_by by fixed w (Events event zero) x = x
carried_by by fixed w (Events event (suc n)) x = carried_next by fixed w event x
carried_by by fixed w (Microframes zero) x = x
carried_by by fixed w (Microframes (suc n)) x = carried_next by fixed w events.C x
carried_by by fixed w (Answer ended n) x = carried_next by fixed w events.D x
carried_by by fixed w (Command n cmd) x = x
carried_by by fixed w (Plugs there port) x = x

abbrev pub carried_in : {X : Type 0} → (Fixed → World → X → X) → Fixed → World → List Left → X → X
carried_in by fixed w [] x = x
carried_in by fixed w (order ∷ rest) x = carried_by by fixed w order x

unfoldable pub carried_from : {X : Type 0} → (Fixed → World → X → X) → Fixed → OrderedWorld → X → ℕ → X
carried_from by fixed p x zero = x
carried_from by fixed p x (suc n) = carried_from by fixed (tick fixed p) (carried_in by fixed p.world p.orders x) n

abbrev pub carried : {X : Type 0} → (Fixed → World → X → X) → Script → X → ℕ → X
carried by s x n = carried_from by (fixed_of s) (at_place (opening_world s) (orders_of s.lines)) x n
