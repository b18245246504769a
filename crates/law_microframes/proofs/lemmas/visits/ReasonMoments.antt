-- What each event and each command leaves of a world, from one moment of a run to the next.
use Rattle.std.proofs.Common.{◌≡◌, ℕ, zero, suc, ◌+◌, List, [], ◌∷◌, ap, sym, subst, ◌∙◌, arith}
use Rattle.usb_base.specs.declared.commands.Cmd.{Cmd}
use Rattle.script_types.specs.declared.scripts.Event.{Event}
use Rattle.script_types.specs.declared.scripts.Event.TheVariants as events
use Rattle.script_types.specs.declared.scripts.Script.{Script}
use Rattle.bus_wire.specs.Bus.{Fixed, fixed_of}
use Rattle.bus_world.specs.World.{World, next, driver_next, controller_next, commanded}
use Rattle.bus_world.specs.Opening.{opening_world}
use Rattle.bus_world.specs.Orders.{Left, Events, Microframes, Answer, Command, OrderedWorld, at_place, orders_of, tick, tick_by, tick_at, ticks}
use Rattle.bus_world.specs.Budgets.{moment}
use Rattle.bus_world.proofs.Ticks.{ticks_more}

-- how a world stands to the one after it
pub record StepsBy (fixed : Fixed) (R : World → World → Type 0) : Type 0 where
  pub stands : (w : World) → R w w
  pub controller : (w : World) → R w (controller_next fixed w)
  pub driver : (w : World) → R w (driver_next w)
  pub command : (w : World) (n : ℕ) (cmd : Cmd) → R w (commanded w n cmd)

module _ (fixed : Fixed) (R : World → World → Type 0) (by : StepsBy fixed R) where
  next_steps : (w : World) (event : Event) → R w (next fixed w event)
  next_steps w events.C = by.controller w
  next_steps w events.D = by.driver w

  by_steps : (w : World) (x : Left) (rest : List Left) → R w (tick_by fixed w x rest).world
  by_steps w (Events event (suc n)) rest = next_steps w event
  by_steps w (Microframes (suc n)) rest = by.controller w
  by_steps w (Answer ended n) rest = by.driver w
  by_steps w (Command n cmd) rest = by.command w n cmd
  by_steps w _ rest = by.stands w

  at_steps : (w : World) (orders : List Left) → R w (tick_at fixed w orders).world
  at_steps w [] = by.stands w
  at_steps w (x ∷ rest) = by_steps w x rest

pub next_moment : (s : Script) (k : ℕ) → moment s (suc k) ≡ tick (fixed_of s) (moment s k)
unfolding ticks
next_moment s k =
    let e : suc k ≡ k + 1 = omega arith in
    ap (moment s) e ∙ ticks_more (fixed_of s) (at_place (opening_world s) (orders_of s.lines)) k 1

pub moment_steps : (s : Script) (R : World → World → Type 0) → StepsBy (fixed_of s) R → (k : ℕ) → R (moment s k).world (moment s (suc k)).world
moment_steps s R by k =
    subst (λ (p : OrderedWorld). R (moment s k).world p.world) (sym (next_moment s k)) (at_steps (fixed_of s) R by (moment s k).world (moment s k).orders)

-- what they keep holds at each moment
pub holds_along : (s : Script) (P : World → Type 0) → P (opening_world s) → StepsBy (fixed_of s) (λ w v. P w → P v) → (k : ℕ) → P (moment s k).world
unfolding ticks
holds_along s P first by zero = first
holds_along s P first by (suc k) = moment_steps s (λ w v. P w → P v) by k (holds_along s P first by k)
