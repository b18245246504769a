-- A run: the action lines of a script, one event or command at a time.
--     Left, OrderedWorld                what is left of the orders; the world with what is left
--     tick                       one event or command
--     ticks fixed p n            n of them
--     Leads fixed p q            some number of them leads from p to q
use Rattle.std.specs.Prelude.{◌≡◌, ℕ, zero, suc, ◌*◌, ◌⊎◌, Bool, true, false, List, [], ◌∷◌, map}
use Rattle.usb_base.specs.declared.commands.Cmd.{Cmd}
use Rattle.script_types.specs.declared.scripts.Event.{Event}
use Rattle.script_types.specs.declared.scripts.Event.TheVariants as events
use Rattle.script_types.specs.declared.scripts.Line.{Line}
use Rattle.script_types.specs.declared.scripts.Line.TheVariants as lines
use Rattle.hc_core.specs.declared.controller.HcStep.{HcStep}
use Rattle.hc_core.specs.declared.controller.HcStep.TheVariants as steps
use Rattle.bus_wire.specs.Bus.{Fixed}
use Rattle.bus_world.specs.World.{World, next, kind_next, commanded}

-- what is left of an order
pub data Left : Type 0 where
  Events : Event → ℕ → Left  -- so many events of this kind
  Microframes : ℕ → Left  -- turns of the controller and the driver until so many microframes have ended
  Answer : Bool → ℕ → Left  -- the driver's event of a turn, after one of the controller that ended a microframe or didn't; then as above
  Command : ℕ → Cmd → Left  -- the command on this line
  Plugs : Bool → ℕ → Left  -- what belongs to this root port is plugged in or unplugged, which changes nothing yet

abbrev pub left_of : Line → ℕ → Left
left_of (lines.Order event n) line = Events event n
left_of (lines.Micro n) line = Microframes n
left_of (lines.Command cmd) line = Command line cmd
left_of (lines.Plug port) line = Plugs true port
left_of (lines.Unplug port) line = Plugs false port

abbrev pub orders_of : List (ℕ × Line) → List Left
orders_of xs = map (λ x. left_of x.1 x.0) xs

pub record OrderedWorld : Type 0 where
  pub world : World
  pub orders : List Left

abbrev pub is_end : HcStep → Bool
is_end steps.End = true
is_end _ = false

-- a microframe less where one has ended
abbrev pub fewer : Bool → ℕ → ℕ
fewer true (suc n) = n
fewer true zero = zero
fewer false n = n

abbrev pub tick_by : Fixed → World → Left → List Left → OrderedWorld
tick_by fixed w (Events event zero) rest = record { world = w; orders = rest }
tick_by fixed w (Events event (suc n)) rest = record { world = next fixed w event; orders = Events event n ∷ rest }
tick_by fixed w (Microframes zero) rest = record { world = w; orders = rest }
tick_by fixed w (Microframes (suc n)) rest = record { world = next fixed w events.C; orders = Answer (is_end (kind_next w)) (suc n) ∷ rest }
tick_by fixed w (Answer ended n) rest = record { world = next fixed w events.D; orders = Microframes (fewer ended n) ∷ rest }
tick_by fixed w (Command n cmd) rest = record { world = commanded w n cmd; orders = rest }
tick_by fixed w (Plugs there port) rest = record { world = w; orders = rest }

abbrev pub tick_at : Fixed → World → List Left → OrderedWorld
tick_at fixed w [] = record { world = w; orders = [] }
tick_at fixed w (x ∷ rest) = tick_by fixed w x rest

abbrev pub tick : Fixed → OrderedWorld → OrderedWorld
tick fixed p = tick_at fixed p.world p.orders

unfoldable pub ticks : Fixed → OrderedWorld → ℕ → OrderedWorld
ticks fixed p zero = p
ticks fixed p (suc n) = ticks fixed (tick fixed p) n

pub record Leads (fixed : Fixed) (p q : OrderedWorld) : Type 0 where
  pub count : ℕ
  pub there : ticks fixed p count ≡ q

abbrev pub at_place : World → List Left → OrderedWorld
at_place w orders = record { world = w; orders = orders }

-- ---- a microframe that doesn't end

-- the most turns that the program makes in one microframe; the definitions above know no such bound
abbrev pub most_turns : ℕ
most_turns = 67108864

-- From p on, the most turns were made, and the microframe hasn't ended.
pub record IsUnended (fixed : Fixed) (p q : OrderedWorld) : Type 0 where
  pub turns : ℕ
  pub many : turns ≡ most_turns
  pub still : ticks fixed p (2 * turns) ≡ q

-- The run from p on came to a microframe that hasn't ended after the most turns, and stopped there with the world w.
pub record IsOverlong (fixed : Fixed) (p : OrderedWorld) (w : World) : Type 0 where
  pub begun : World  -- where the microframe began, or the orders of microframes did
  pub n : ℕ
  pub rest : List Left
  pub leads : Leads fixed p (at_place begun (Microframes (suc n) ∷ rest))
  pub unended : IsUnended fixed (at_place begun (Microframes (suc n) ∷ rest)) (at_place w (Microframes (suc n) ∷ rest))

-- The run of these orders: every one was carried out, or a microframe hasn't ended after the most turns that the program makes.
abbrev pub IsRun : Fixed → World → List Left → World → Type 0
IsRun fixed w orders end = Leads fixed (at_place w orders) (at_place end []) ⊎ IsOverlong fixed (at_place w orders) end
