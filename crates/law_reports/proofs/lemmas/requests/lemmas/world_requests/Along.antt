-- What each event and command keeps of worlds, windows and requests holds at each moment of a run.
use Rattle.std.proofs.Common.{◌≡◌, ℕ, zero, suc, ◌+◌, List, [], ◌∷◌, ap, sym, subst, ◌∙◌, refl, arith}
use Rattle.std.specs.List.{AllByRecursion}
use Rattle.usb_base.specs.declared.commands.Cmd.{Cmd}
use Rattle.script_types.specs.declared.scripts.Event.{Event}
use Rattle.script_types.specs.declared.scripts.Event.TheVariants as events
use Rattle.script_types.specs.declared.scripts.Line.{Line}
use Rattle.script_types.specs.declared.scripts.Line.TheVariants as lines
use Rattle.script_types.specs.declared.scripts.Script.{Script}
use Rattle.bus_wire.specs.Bus.{Fixed, fixed_of}
use Rattle.drv_table.specs.declared.content.Reserve.{Reserve}
use Rattle.claims_report.specs.Requests.{Request}
use Rattle.script_fits.specs.Fits.{IsFitCommand, IsFitLine}
use Rattle.bus_world.specs.World.{World, next, commanded}
use Rattle.bus_world.specs.Opening.{opening_world}
use Rattle.bus_world.specs.Orders.{Left, Events, Microframes, Answer, Command, Plugs, OrderedWorld, at_place, left_of, orders_of, fewer, tick, tick_by, tick_at, ticks}
use Rattle.bus_world.specs.Budgets.{moment}
use Rattle.bus_world.specs.Rooms.{needs, needs_line, no_room, with_room, reserve_of, HasRoomFor}
use Rattle.bus_world.proofs.Ticks.{ticks_more}
use Rattle.bus_world.proofs.Ways.{next_room}
use Rattle.bus_world.proofs.Rooming.{less_room, rest_room, room_of_all, can_offer, command_leaves}
use Rattle.claims_world.specs.Requests.{Windows, no_windows, after_one, after_order, windows_tick, windows_at, no_asks, asks_then, asks_by, asks_next, asks_at}
use Rattle.law_reports.specs.requests.world_requests.Along.{KindOfLine, IsKeptWithWindows, HoldsWithWindows}

-- ---- each moment

next_moment : (s : Script) (k : ℕ) → moment s (suc k) ≡ tick (fixed_of s) (moment s k)
unfolding ticks
next_moment s k =
    let e : suc k ≡ k + 1 = omega arith in
    ap (moment s) e ∙ ticks_more (fixed_of s) (at_place (opening_world s) (orders_of s.lines)) k 1

each_moment : (s : Script) (P : OrderedWorld → Windows → (ℕ → Request) → Type 0) → P (at_place (opening_world s) (orders_of s.lines)) no_windows no_asks
    → ((p : OrderedWorld) (v : Windows) (asks : ℕ → Request) → P p v asks → P (tick (fixed_of s) p) (windows_tick (fixed_of s) p v) (asks_next p.world p.orders asks)) → (k : ℕ) → P (moment s k) (windows_at s k) (asks_at s k)
unfolding ticks windows_at asks_at
each_moment s P first step zero = first
each_moment s P first step (suc k) =
    subst (λ (p : OrderedWorld). P p (windows_tick (fixed_of s) (moment s k) (windows_at s k)) (asks_next (moment s k).world (moment s k).orders (asks_at s k))) (sym (next_moment s k))
    (step (moment s k) (windows_at s k) (asks_at s k) (each_moment s P first step k))

-- ---- what is left of the orders

abbrev needs_left : Left → Reserve
needs_left (Command n cmd) = needs cmd
needs_left _ = no_room

reserve_left : List Left → Reserve
reserve_left [] = no_room
reserve_left (x ∷ xs) = with_room (needs_left x) (reserve_left xs)

abbrev FitsLeft : (Cmd → Type 0) → Left → Type 0
FitsLeft can (Events event n) = Unit {0}
FitsLeft can (Microframes n) = Unit {0}
FitsLeft can (Answer ended n) = Unit {0}
FitsLeft can (Command n cmd) = IsFitCommand cmd × can cmd
FitsLeft can (Plugs there port) = Unit {0}

module _ (fixed : Fixed) (can : Cmd → Type 0) (holds : World → Windows → (ℕ → Request) → Type 0) (kept : IsKeptWithWindows fixed can holds) where
  record IsReady (w : World) (orders : List Left) (v : Windows) (asks : ℕ → Request) : Type 0 where
    held : holds w v asks
    room : HasRoomFor w.driver.room (reserve_left orders)
    fits : AllByRecursion (FitsLeft can) orders

  ends : (w : World) (x : Left) (rest : List Left) (v : Windows) (asks : ℕ → Request) → needs_left x ≡ no_room → IsReady w (x ∷ rest) v asks → IsReady w rest v asks
  unfolding reserve_left
  ends w x rest v asks none h = record {
    held = h.held;
    room = rest_room w.driver.room (reserve_left rest) (subst (λ r. HasRoomFor w.driver.room (with_room r (reserve_left rest))) none h.room);
    fits = h.fits.1;
  }

  next_held : (w : World) (event : Event) (v : Windows) (asks : ℕ → Request) → holds w v asks → holds (next fixed w event) (after_one fixed w event v) asks
  next_held w events.D v asks h = kept.driver w v asks h
  next_held w events.C v asks h = kept.controller w v asks h

  goes_on : (w : World) (event : Event) (x y : Left) (rest : List Left) (v : Windows) (asks : ℕ → Request) → needs_left x ≡ no_room → needs_left y ≡ no_room → FitsLeft can y → IsReady w (x ∷ rest) v asks
      → IsReady (next fixed w event) (y ∷ rest) (after_one fixed w event v) asks
  unfolding reserve_left
  goes_on w event x y rest v asks one two fit h = record {
    held = next_held w event v asks h.held;
    room =
        subst (λ r. HasRoomFor r (with_room (needs_left y) (reserve_left rest))) (sym (next_room fixed w event))
        (subst (λ r. HasRoomFor w.driver.room (with_room r (reserve_left rest))) (one ∙ sym two) h.room);
    fits = (fit, h.fits.1);
  }

  command_ready : (w : World) (n : ℕ) (cmd : Cmd) (rest : List Left) (v : Windows) (asks : ℕ → Request) → IsReady w (Command n cmd ∷ rest) v asks
      → IsReady (commanded w n cmd) rest v (asks_then w.driver cmd asks)
  unfolding reserve_left
  command_ready w n cmd rest v asks h = record {
    held = kept.command w n cmd v asks h.fits.0.1 (can_offer w.driver.room cmd h.fits.0.0 (less_room w.driver.room (needs cmd) (reserve_left rest) h.room)) h.held;
    room = command_leaves w n cmd (reserve_left rest) h.fits.0.0 h.room;
    fits = h.fits.1;
  }

  IsReadyAt : OrderedWorld → Windows → (ℕ → Request) → Type 0
  IsReadyAt p v asks = IsReady p.world p.orders v asks

  by_ready : (w : World) (x : Left) (rest : List Left) (v : Windows) (asks : ℕ → Request) → IsReady w (x ∷ rest) v asks → IsReadyAt (tick_by fixed w x rest) (after_order fixed w x v) (asks_by w x asks)
  unfolding IsReadyAt
  by_ready w (Events event zero) rest v asks h = ends w (Events event zero) rest v asks refl h
  by_ready w (Events event (suc n)) rest v asks h = goes_on w event (Events event (suc n)) (Events event n) rest v asks refl refl tt h
  by_ready w (Microframes zero) rest v asks h = ends w (Microframes zero) rest v asks refl h
  by_ready w (Microframes (suc n)) rest v asks h = goes_on w events.C (Microframes (suc n)) (Answer _ (suc n)) rest v asks refl refl tt h
  by_ready w (Answer ended n) rest v asks h = goes_on w events.D (Answer ended n) (Microframes (fewer ended n)) rest v asks refl refl tt h
  by_ready w (Command n cmd) rest v asks h = command_ready w n cmd rest v asks h
  by_ready w (Plugs there port) rest v asks h = ends w (Plugs there port) rest v asks refl h

  at_ready : (w : World) (orders : List Left) (v : Windows) (asks : ℕ → Request) → IsReady w orders v asks
      → IsReadyAt (tick_at fixed w orders) (windows_tick fixed (at_place w orders) v) (asks_next w orders asks)
  unfolding IsReadyAt
  at_ready w [] v asks h = h
  at_ready w (x ∷ rest) v asks h = by_ready w x rest v asks h

  tick_ready : (p : OrderedWorld) (v : Windows) (asks : ℕ → Request) → IsReadyAt p v asks → IsReadyAt (tick fixed p) (windows_tick fixed p v) (asks_next p.world p.orders asks)
  unfolding IsReadyAt
  tick_ready p v asks h = at_ready p.world p.orders v asks h

-- ---- the lines of a script

line_needs : (l : Line) (n : ℕ) → needs_left (left_of l n) ≡ needs_line l
line_needs (lines.Order event count) n = refl
line_needs _ n = refl

lines_need : (xs : List (ℕ × Line)) → reserve_left (orders_of xs) ≡ reserve_of xs
unfolding reserve_left
lines_need [] = refl
lines_need (x ∷ xs) =
    ap (λ r. with_room r (reserve_left (orders_of xs))) (line_needs x.1 x.0)
    ∙ ap (with_room (needs_line x.1)) (lines_need xs)

module _ (can : Cmd → Type 0) where
  line_fits : (l : Line) (n : ℕ) → IsFitLine l → KindOfLine can l → FitsLeft can (left_of l n)
  line_fits (lines.Command cmd) n fit only = (fit, only)
  line_fits _ n fit only = tt

  lines_fit : (xs : List (ℕ × Line)) → AllByRecursion (λ x. IsFitLine x.1) xs → AllByRecursion (λ x. KindOfLine can x.1) xs → AllByRecursion (FitsLeft can) (orders_of xs)
  lines_fit [] fit only = tt
  lines_fit (x ∷ xs) fit only = (line_fits x.1 x.0 fit.0 only.0, lines_fit xs fit.1 only.1)

pub holds_with_windows : (can : Cmd → Type 0) (holds : World → Windows → (ℕ → Request) → Type 0) → HoldsWithWindows can holds
unfolding IsReadyAt
holds_with_windows can holds s fit only held kept k =
    (each_moment s (IsReadyAt (fixed_of s) can holds kept)
    (record {
      held = held;
      room = subst (HasRoomFor (opening_world s).driver.room) (sym (lines_need s.lines)) (room_of_all s);
      fits = lines_fit can s.lines fit.lines only;
    })
    (tick_ready (fixed_of s) can holds kept) k).held
