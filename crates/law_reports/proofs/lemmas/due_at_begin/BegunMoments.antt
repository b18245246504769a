-- The world that the Begin of a microframe left is one of the moments of a script's run, or that of a Begin before all lines.
use Rattle.std.proofs.Common.{◌≡◌, ◌≢◌, ℕ, zero, suc, List, [], ◌∷◌, ap, refl, sym, subst, ◌∙◌, inl, inr, ◌⊎◌}
use Rattle.usb_base.specs.declared.commands.Cmd.{Cmd}
use Rattle.script_types.specs.declared.scripts.Event.TheVariants as events
use Rattle.script_types.specs.declared.scripts.Script.{Script}
use Rattle.hc_core.specs.declared.controller.ControllerRow.{ControllerRow}
use Rattle.hc_core.specs.declared.controller.ControllerRow.TheVariants as rows
use Rattle.bus_wire.specs.Bus.{Fixed, fixed_of}
use Rattle.bus_world.specs.Budgets.{moment}
use Rattle.bus_world.specs.Opening.{opening_world}
use Rattle.bus_world.specs.Orders.{Left, Events, Microframes, Answer, Command, Plugs, OrderedWorld, tick_at, ticks}
use Rattle.bus_world.specs.World.{World, controller_row, controller_next, driver_next, commanded}
use Rattle.claims_world.specs.Carried.{carried_from, carried_in}
use Rattle.claims_world.specs.DueAtBegin.{begun}
use Rattle.claims_world.specs.Visits.{began_at, began_by, began}
use Rattle.law_world.proofs.lemmas.memory.Carrying.{carried_then}
use Rattle.law_world.proofs.lemmas.memory.LetGo.{moment_then}

module _ (P : World → Type 0) (fixed : Fixed) (b w : World) (was : P (controller_next fixed b)) where
  by_row : (r : ControllerRow) → P (controller_next fixed w) → P (controller_next fixed (began_at r w b))
  by_row rows.Begin now = now
  by_row rows.Idle now = was
  by_row rows.Frame now = was
  by_row rows.Enter now = was
  by_row rows.Go now = was
  by_row rows.End now = was

  by_orders : (orders : List Left) → P (tick_at fixed w orders).world → P (controller_next fixed (carried_in began_by fixed w orders b))
  by_orders [] now = was
  by_orders (Events event zero ∷ rest) now = was
  by_orders (Events events.C (suc n) ∷ rest) now = by_row (controller_row w) now
  by_orders (Events events.D (suc n) ∷ rest) now = was
  by_orders (Microframes zero ∷ rest) now = was
  by_orders (Microframes (suc n) ∷ rest) now = by_row (controller_row w) now
  by_orders (Answer ended n ∷ rest) now = was
  by_orders (Command n cmd ∷ rest) now = was
  by_orders (Plugs there port ∷ rest) now = was

-- what is so at each moment is so as a microframe begins
pub so_as_begun : (P : World → Type 0) (s : Script) → P (controller_next (fixed_of s) (opening_world s))
    → ((k : ℕ) → P (moment s k).world) → (k : ℕ) → P (begun s k)
unfolding ticks carried_from
so_as_begun P s first each zero = first
so_as_begun P s first each (suc k) =
    subst (λ (b : World). P (controller_next (fixed_of s) b)) (sym (carried_then began_by s (opening_world s) k))
    (by_orders P (fixed_of s) (began s k) (moment s k).world (so_as_begun P s first each k) (moment s k).orders
    (subst (λ (o : OrderedWorld). P o.world) (moment_then s k) (each (suc k))))

-- ---- one more event or command

-- a microframe begins with it, or not
pub record BeginsThen (fixed : Fixed) (w later before after : World) : Type 0 where
  pub row : controller_row w ≡ rows.Begin
  pub world : later ≡ controller_next fixed w
  pub begun : after ≡ controller_next fixed w

abbrev pub BeginsNow : Script → ℕ → Type 0
BeginsNow s k = BeginsThen (fixed_of s) (moment s k).world (moment s (suc k)).world (begun s k) (begun s (suc k))

-- what the next event or command is; no microframe begins but with the first
pub data Goes (fixed : Fixed) (w later before after : World) : Type 0 where
  begins : BeginsThen fixed w later before after → Goes fixed w later before after
  by_controller : controller_row w ≢ rows.Begin → later ≡ controller_next fixed w → after ≡ before → Goes fixed w later before after
  by_driver : later ≡ driver_next w → after ≡ before → Goes fixed w later before after
  by_command : (n : ℕ) (cmd : Cmd) → later ≡ commanded w n cmd → after ≡ before → Goes fixed w later before after
  stays : later ≡ w → after ≡ before → Goes fixed w later before after

abbrev pub GoesNow : Script → ℕ → Type 0
GoesNow s k = Goes (fixed_of s) (moment s k).world (moment s (suc k)).world (begun s k) (begun s (suc k))

module _ (fixed : Fixed) (b w : World) where
  abbrev Then : World → World → Type 0
  Then later after = Goes fixed w later (controller_next fixed b) (controller_next fixed after)

  then_row : (r : ControllerRow) → controller_row w ≡ r → Then (controller_next fixed w) (began_at r w b)
  then_row rows.Begin is = begins (record { row = is; world = refl; begun = refl })
  then_row rows.Idle is = by_controller (λ begin. let never : rows.Idle ≡ rows.Begin = sym is ∙ begin in cc never) refl refl
  then_row rows.Frame is = by_controller (λ begin. let never : rows.Frame ≡ rows.Begin = sym is ∙ begin in cc never) refl refl
  then_row rows.Enter is = by_controller (λ begin. let never : rows.Enter ≡ rows.Begin = sym is ∙ begin in cc never) refl refl
  then_row rows.Go is = by_controller (λ begin. let never : rows.Go ≡ rows.Begin = sym is ∙ begin in cc never) refl refl
  then_row rows.End is = by_controller (λ begin. let never : rows.End ≡ rows.Begin = sym is ∙ begin in cc never) refl refl

  then_orders : (orders : List Left) → Then (tick_at fixed w orders).world (carried_in began_by fixed w orders b)
  then_orders [] = stays refl refl
  then_orders (Events event zero ∷ rest) = stays refl refl
  then_orders (Events events.C (suc n) ∷ rest) = then_row (controller_row w) refl
  then_orders (Events events.D (suc n) ∷ rest) = by_driver refl refl
  then_orders (Microframes zero ∷ rest) = stays refl refl
  then_orders (Microframes (suc n) ∷ rest) = then_row (controller_row w) refl
  then_orders (Answer ended n ∷ rest) = by_driver refl refl
  then_orders (Command n cmd ∷ rest) = by_command n cmd refl refl
  then_orders (Plugs there port ∷ rest) = stays refl refl

pub goes_now : (s : Script) (k : ℕ) → GoesNow s k
goes_now s k =
    subst (λ (b : World). Goes (fixed_of s) (moment s k).world (moment s (suc k)).world (begun s k) (controller_next (fixed_of s) b))
    (sym (carried_then began_by s (opening_world s) k))
    (subst (λ (o : OrderedWorld). Goes (fixed_of s) (moment s k).world o.world (begun s k)
    (controller_next (fixed_of s) (carried_in began_by (fixed_of s) (moment s k).world (moment s k).orders (began s k))))
    (sym (moment_then s k)) (then_orders (fixed_of s) (began s k) (moment s k).world (moment s k).orders))

pub begun_then : (s : Script) (k : ℕ) → (begun s (suc k) ≡ begun s k) ⊎ BeginsNow s k
begun_then s k = by (goes_now s k)
  where
    by : GoesNow s k → (begun s (suc k) ≡ begun s k) ⊎ BeginsNow s k
    by (begins n) = inr n
    by (by_controller off world same) = inl same
    by (by_driver world same) = inl same
    by (by_command n cmd world same) = inl same
    by (stays world same) = inl same
