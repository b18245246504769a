-- The run of a script whose driver may be at a job: as Orders has it, by events and commands of a world at work.
--     PlaceAtWork                the world at work with what is left of the orders
--     tick_at_work fixed p       one event or command
--     ticks_at_work fixed p n    n of them
--     moment_at_work s k         the run of a script after k events and commands
--     IsRunAtWork ..             a run of orders: every one was carried out, or a microframe hasn't ended after the most turns
--     IsRunOfAtWork s w          a world after the run of a script
use Rattle.std.specs.Prelude.{◌≡◌, ℕ, zero, suc, ◌*◌, ◌⊎◌, List, [], ◌∷◌}
use Rattle.script_types.specs.declared.scripts.Event.TheVariants as events
use Rattle.script_types.specs.declared.scripts.Script.{Script}
use Rattle.bus_wire.specs.Bus.{Fixed, fixed_of}
use Rattle.bus_world.specs.World.{kind_next}
use Rattle.bus_world.specs.Opening.{opening_world}
use Rattle.bus_world.specs.Orders.{Left, Events, Microframes, Answer, Command, Plugs, OrderedWorld, orders_of, is_end, fewer, most_turns}
use Rattle.bus_world.specs.AtWork.{WorldAtWork, StandingAtWork, jobless, next_at_work, commanded_at_work}

pub record PlaceAtWork : Type 0 where
  pub work : WorldAtWork
  pub orders : List Left

abbrev pub place_at_work : WorldAtWork → List Left → PlaceAtWork
place_at_work w orders = record { work = w; orders = orders }

-- The controller's event that ends a microframe is the same with a job as without.
abbrev pub tick_by_at_work : Fixed → WorldAtWork → Left → List Left → PlaceAtWork
tick_by_at_work fixed w (Events event zero) rest = place_at_work w rest
tick_by_at_work fixed w (Events event (suc n)) rest = place_at_work (next_at_work fixed w event) (Events event n ∷ rest)
tick_by_at_work fixed w (Microframes zero) rest = place_at_work w rest
tick_by_at_work fixed w (Microframes (suc n)) rest =
    place_at_work (next_at_work fixed w events.C) (Answer (is_end (kind_next w.world)) (suc n) ∷ rest)
tick_by_at_work fixed w (Answer ended n) rest = place_at_work (next_at_work fixed w events.D) (Microframes (fewer ended n) ∷ rest)
tick_by_at_work fixed w (Command n cmd) rest = place_at_work (commanded_at_work w n cmd) rest
tick_by_at_work fixed w (Plugs there port) rest = place_at_work w rest

abbrev pub tick_from_at_work : Fixed → WorldAtWork → List Left → PlaceAtWork
tick_from_at_work fixed w [] = place_at_work w []
tick_from_at_work fixed w (x ∷ rest) = tick_by_at_work fixed w x rest

abbrev pub tick_at_work : Fixed → PlaceAtWork → PlaceAtWork
tick_at_work fixed p = tick_from_at_work fixed p.work p.orders

unfoldable pub ticks_at_work : Fixed → PlaceAtWork → ℕ → PlaceAtWork
ticks_at_work fixed p zero = p
ticks_at_work fixed p (suc n) = ticks_at_work fixed (tick_at_work fixed p) n

abbrev pub opening_at_work : Script → WorldAtWork
opening_at_work s = jobless (opening_world s)

abbrev pub standing_at_work : Script → StandingAtWork
standing_at_work s = record { fixed = fixed_of s; work = opening_at_work s }

abbrev pub moment_at_work : Script → ℕ → PlaceAtWork
moment_at_work s k = ticks_at_work (fixed_of s) (place_at_work (opening_at_work s) (orders_of s.lines)) k

-- a place of a run without jobs
abbrev pub jobless_place : OrderedWorld → PlaceAtWork
jobless_place p = place_at_work (jobless p.world) p.orders

-- ---- runs

pub record LeadsAtWork (fixed : Fixed) (p q : PlaceAtWork) : Type 0 where
  pub count : ℕ
  pub there : ticks_at_work fixed p count ≡ q

-- Whatever is ordered after it, carrying out this order leads from the world w to v.
abbrev pub CarriesOutAtWork : Fixed → WorldAtWork → Left → WorldAtWork → Type 0
CarriesOutAtWork fixed w order v = (rest : List Left) → LeadsAtWork fixed (place_at_work w (order ∷ rest)) (place_at_work v rest)

-- Whatever is ordered after it, the first of the microframes that are ordered leads from the world w to v.
abbrev pub EndsAtWork : Fixed → WorldAtWork → WorldAtWork → Type 0
EndsAtWork fixed w v =
    (n : ℕ) (rest : List Left) → LeadsAtWork fixed (place_at_work w (Microframes (suc n) ∷ rest)) (place_at_work v (Microframes n ∷ rest))

-- From p on, the most turns were made, and the microframe hasn't ended.
pub record IsUnendedAtWork (fixed : Fixed) (p q : PlaceAtWork) : Type 0 where
  pub turns : ℕ
  pub many : turns ≡ most_turns
  pub still : ticks_at_work fixed p (2 * turns) ≡ q

-- Whatever is ordered after it, the first of the microframes that are ordered hasn't ended after the most turns, which lead from w to v.
abbrev pub IsMicroframeUnendedAtWork : Fixed → WorldAtWork → WorldAtWork → Type 0
IsMicroframeUnendedAtWork fixed w v =
    (n : ℕ) (rest : List Left)
    → IsUnendedAtWork fixed (place_at_work w (Microframes (suc n) ∷ rest)) (place_at_work v (Microframes (suc n) ∷ rest))

-- The run from p on came to a microframe that hasn't ended after the most turns, and stopped there with the world w.
pub record IsOverlongAtWork (fixed : Fixed) (p : PlaceAtWork) (w : WorldAtWork) : Type 0 where
  pub begun : WorldAtWork  -- where the microframe began, or the orders of microframes did
  pub n : ℕ
  pub rest : List Left
  pub leads : LeadsAtWork fixed p (place_at_work begun (Microframes (suc n) ∷ rest))
  pub unended : IsUnendedAtWork fixed (place_at_work begun (Microframes (suc n) ∷ rest)) (place_at_work w (Microframes (suc n) ∷ rest))

-- Whatever is ordered after it, carrying out this order stops at the world v, in a microframe that doesn't end.
abbrev pub StopsInAtWork : Fixed → WorldAtWork → Left → WorldAtWork → Type 0
StopsInAtWork fixed w order v = (rest : List Left) → IsOverlongAtWork fixed (place_at_work w (order ∷ rest)) v

abbrev pub IsRunAtWork : Fixed → WorldAtWork → List Left → WorldAtWork → Type 0
IsRunAtWork fixed w orders end =
    LeadsAtWork fixed (place_at_work w orders) (place_at_work end []) ⊎ IsOverlongAtWork fixed (place_at_work w orders) end

-- ---- scripts

-- a world after the run of a script: from its opening on, the action lines in their order
pub record IsRunOfAtWork (s : Script) (w : StandingAtWork) : Type 0 where
  pub fixed : w.fixed ≡ fixed_of s
  pub ran : IsRunAtWork (fixed_of s) (opening_at_work s) (orders_of s.lines) w.work
