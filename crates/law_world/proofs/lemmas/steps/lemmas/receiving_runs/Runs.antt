-- What each event and each command of a kind keeps holds at each moment of a run.
use Rattle.std.proofs.Common.{◌≡◌, ℕ, zero, suc, List, [], ◌∷◌, ap, sym, subst, ◌∙◌, refl}
use Rattle.std.specs.List.{AllByRecursion}
use Rattle.usb_base.specs.declared.commands.Cmd.{Cmd}
use Rattle.script_types.specs.declared.scripts.Event.{Event}
use Rattle.script_types.specs.declared.scripts.Event.TheVariants as events
use Rattle.script_types.specs.declared.scripts.Line.{Line}
use Rattle.script_types.specs.declared.scripts.Line.TheVariants as lines
use Rattle.bus_wire.specs.Bus.{Fixed, fixed_of}
use Rattle.drv_table.specs.declared.content.Reserve.{Reserve}
use Rattle.script_fits.specs.Fits.{IsFitCommand, IsFitLine}
use Rattle.bus_world.specs.World.{World, next, commanded}
use Rattle.bus_world.specs.Opening.{opening_world}
use Rattle.bus_world.specs.Orders.{Left, Events, Microframes, Answer, Command, Plugs, OrderedWorld, at_place, left_of, orders_of, fewer, tick, tick_by, tick_at, ticks}
use Rattle.bus_world.specs.Rooms.{needs, needs_line, no_room, with_room, reserve_of, HasRoomFor}
use Rattle.bus_world.proofs.Ways.{next_room}
use Rattle.bus_world.proofs.Rooming.{less_room, rest_room, room_of_all, can_offer, command_leaves}
use Rattle.law_world.specs.steps.receiving_runs.Runs.{KindOfLine, IsKeptBy, HoldsThroughout}

-- ---- what is left of the orders

abbrev needs_left : Left → Reserve
needs_left (Command n cmd) = needs cmd
needs_left _ = no_room

reserve_left : List Left → Reserve
reserve_left [] = no_room
reserve_left (x ∷ xs) = with_room (needs_left x) (reserve_left xs)

abbrev FitsLeft : (Cmd → Type 0) → Left → Type 0
FitsLeft can (Events event n) = Unit {0}
FitsLeft can (Microframes n) = Unit {0}
FitsLeft can (Answer ended n) = Unit {0}
FitsLeft can (Command n cmd) = IsFitCommand cmd × can cmd
FitsLeft can (Plugs there port) = Unit {0}

module _ (fixed : Fixed) (can : Cmd → Type 0) (holds : World → Type 0) (kept : IsKeptBy fixed can holds) where
  record IsReady (w : World) (orders : List Left) : Type 0 where
    held : holds w
    room : HasRoomFor w.driver.room (reserve_left orders)
    fits : AllByRecursion (FitsLeft can) orders

  ends : (w : World) (x : Left) (rest : List Left) → needs_left x ≡ no_room → IsReady w (x ∷ rest) → IsReady w rest
  unfolding reserve_left
  ends w x rest none h = record {
    held = h.held;
    room = rest_room w.driver.room (reserve_left rest) (subst (λ r. HasRoomFor w.driver.room (with_room r (reserve_left rest))) none h.room);
    fits = h.fits.1;
  }

  next_held : (w : World) (event : Event) → holds w → holds (next fixed w event)
  next_held w events.D h = kept.driver w h
  next_held w events.C h = kept.controller w h

  goes_on : (w : World) (event : Event) (x y : Left) (rest : List Left) → needs_left x ≡ no_room → needs_left y ≡ no_room → FitsLeft can y → IsReady w (x ∷ rest) → IsReady (next fixed w event) (y ∷ rest)
  unfolding reserve_left
  goes_on w event x y rest one two fit h = record {
    held = next_held w event h.held;
    room =
        subst (λ r. HasRoomFor r (with_room (needs_left y) (reserve_left rest))) (sym (next_room fixed w event))
        (subst (λ r. HasRoomFor w.driver.room (with_room r (reserve_left rest))) (one ∙ sym two) h.room);
    fits = (fit, h.fits.1);
  }

  command_ready : (w : World) (n : ℕ) (cmd : Cmd) (rest : List Left) → IsReady w (Command n cmd ∷ rest) → IsReady (commanded w n cmd) rest
  unfolding reserve_left
  command_ready w n cmd rest h = record {
    held = kept.command w n cmd h.fits.0.1 (can_offer w.driver.room cmd h.fits.0.0 (less_room w.driver.room (needs cmd) (reserve_left rest) h.room)) h.held;
    room = command_leaves w n cmd (reserve_left rest) h.fits.0.0 h.room;
    fits = h.fits.1;
  }

  IsReadyAt : OrderedWorld → Type 0
  IsReadyAt p = IsReady p.world p.orders

  by_ready : (w : World) (x : Left) (rest : List Left) → IsReady w (x ∷ rest) → IsReadyAt (tick_by fixed w x rest)
  unfolding IsReadyAt
  by_ready w (Events event zero) rest h = ends w (Events event zero) rest refl h
  by_ready w (Events event (suc n)) rest h = goes_on w event (Events event (suc n)) (Events event n) rest refl refl tt h
  by_ready w (Microframes zero) rest h = ends w (Microframes zero) rest refl h
  by_ready w (Microframes (suc n)) rest h = goes_on w events.C (Microframes (suc n)) (Answer _ (suc n)) rest refl refl tt h
  by_ready w (Answer ended n) rest h = goes_on w events.D (Answer ended n) (Microframes (fewer ended n)) rest refl refl tt h
  by_ready w (Command n cmd) rest h = command_ready w n cmd rest h
  by_ready w (Plugs there port) rest h = ends w (Plugs there port) rest refl h

  at_ready : (w : World) (orders : List Left) → IsReady w orders → IsReadyAt (tick_at fixed w orders)
  unfolding IsReadyAt
  at_ready w [] h = h
  at_ready w (x ∷ rest) h = by_ready w x rest h

  all_ready : (p : OrderedWorld) (k : ℕ) → IsReadyAt p → IsReadyAt (ticks fixed p k)
  unfolding ticks IsReadyAt
  all_ready p zero h = h
  all_ready p (suc k) h = all_ready (tick fixed p) k (at_ready p.world p.orders h)

  holds_after : (w : World) (orders : List Left) (k : ℕ) → holds w → HasRoomFor w.driver.room (reserve_left orders) → AllByRecursion (FitsLeft can) orders → holds (ticks fixed (at_place w orders) k).world
  unfolding IsReadyAt
  holds_after w orders k held room fits = (all_ready (at_place w orders) k (record { held = held; room = room; fits = fits })).held

-- ---- the lines of a script

line_needs : (l : Line) (n : ℕ) → needs_left (left_of l n) ≡ needs_line l
line_needs (lines.Order event count) n = refl
line_needs _ n = refl

lines_need : (xs : List (ℕ × Line)) → reserve_left (orders_of xs) ≡ reserve_of xs
unfolding reserve_left
lines_need [] = refl
lines_need (x ∷ xs) =
    ap (λ r. with_room r (reserve_left (orders_of xs))) (line_needs x.1 x.0)
    ∙ ap (with_room (needs_line x.1)) (lines_need xs)

module _ (can : Cmd → Type 0) where
  line_fits : (l : Line) (n : ℕ) → IsFitLine l → KindOfLine can l → FitsLeft can (left_of l n)
  line_fits (lines.Command cmd) n fit only = (fit, only)
  line_fits _ n fit only = tt

  lines_fit : (xs : List (ℕ × Line)) → AllByRecursion (λ x. IsFitLine x.1) xs → AllByRecursion (λ x. KindOfLine can x.1) xs → AllByRecursion (FitsLeft can) (orders_of xs)
  lines_fit [] fit only = tt
  lines_fit (x ∷ xs) fit only = (line_fits x.1 x.0 fit.0 only.0, lines_fit xs fit.1 only.1)

pub holds_throughout : (can : Cmd → Type 0) (holds : World → Type 0) → HoldsThroughout can holds
holds_throughout can holds s fit only held kept k =
    holds_after (fixed_of s) can holds kept (opening_world s) (orders_of s.lines) k held
    (subst (HasRoomFor (opening_world s).driver.room) (sym (lines_need s.lines)) (room_of_all s))
    (lines_fit can s.lines fit.lines only)
