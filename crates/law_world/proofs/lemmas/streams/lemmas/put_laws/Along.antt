-- What each event and command keeps of worlds and puts holds at each moment of a run; where an event of the controller keeps it in some
-- worlds alone, at each moment before which all worlds were such ones.
use Rattle.std.proofs.Common.{◌≡◌, ℕ, zero, suc, ◌<◌, List, [], ◌∷◌, ap, sym, subst, ◌∙◌, refl, arith}
use Rattle.std.specs.List.{AllByRecursion}
use Rattle.usb_base.specs.declared.commands.Cmd.{Cmd}
use Rattle.script_types.specs.declared.scripts.Event.{Event}
use Rattle.script_types.specs.declared.scripts.Event.TheVariants as events
use Rattle.script_types.specs.declared.scripts.Line.{Line}
use Rattle.script_types.specs.declared.scripts.Line.TheVariants as lines
use Rattle.script_types.specs.declared.scripts.Script.{Script}
use Rattle.bus_wire.specs.Bus.{Fixed, fixed_of}
use Rattle.drv_table.specs.declared.content.Reserve.{Reserve}
use Rattle.script_fits.specs.Fits.{IsFit, IsFitCommand, IsFitLine}
use Rattle.bus_world.specs.Budgets.{moment}
use Rattle.bus_world.specs.World.{World, next, commanded}
use Rattle.bus_world.specs.Opening.{opening_world}
use Rattle.bus_world.specs.Orders.{Left, Events, Microframes, Answer, Command, Plugs, OrderedWorld, at_place, left_of, orders_of, fewer}
use Rattle.bus_world.specs.Orders.{tick, tick_by, tick_at, ticks}
use Rattle.bus_world.specs.Rooms.{needs, needs_line, no_room, with_room, reserve_of, HasRoomFor}
use Rattle.bus_world.proofs.Ways.{next_room}
use Rattle.bus_world.proofs.Rooming.{less_room, rest_room, room_of_all, can_offer, command_leaves}
use Rattle.law_world.specs.steps.receiving_runs.Runs.{KindOfLine}
use Rattle.law_world.specs.streams.put_laws.HeldPuts.{puts_then}
use Rattle.law_world.specs.streams.put_laws.TakenPuts.{no_puts, puts_by, puts_next, puts_tick, puts_at}
use Rattle.law_world.specs.streams.put_laws.TakenLaws.{IsKeptWithPuts, HoldsWithPuts, IsKeptWhile, HoldsWhile}
use Rattle.law_world.proofs.lemmas.streams.lemmas.put_laws.Moments.{next_moment}

-- ---- what is left of the orders

abbrev needs_left : Left → Reserve
needs_left (Command n cmd) = needs cmd
needs_left _ = no_room

reserve_left : List Left → Reserve
reserve_left [] = no_room
reserve_left (x ∷ xs) = with_room (needs_left x) (reserve_left xs)

abbrev FitsLeft : (Cmd → Type 0) → Left → Type 0
FitsLeft can (Events event n) = Unit {0}
FitsLeft can (Microframes n) = Unit {0}
FitsLeft can (Answer ended n) = Unit {0}
FitsLeft can (Command n cmd) = IsFitCommand cmd × can cmd
FitsLeft can (Plugs there port) = Unit {0}

module _ (fixed : Fixed) (can : Cmd → Type 0) (ok : World → Type 0) (holds : World → (ℕ → List ℕ) → Type 0)
    (kept : IsKeptWhile fixed can ok holds) where
  record IsReady (w : World) (orders : List Left) (puts : ℕ → List ℕ) : Type 0 where
    held : holds w puts
    room : HasRoomFor w.driver.room (reserve_left orders)
    fits : AllByRecursion (FitsLeft can) orders

  ends : (w : World) (x : Left) (rest : List Left) (puts : ℕ → List ℕ) → needs_left x ≡ no_room → IsReady w (x ∷ rest) puts → IsReady w rest puts
  unfolding reserve_left
  ends w x rest puts none h = record {
    held = h.held;
    room = rest_room w.driver.room (reserve_left rest) (subst (λ r. HasRoomFor w.driver.room (with_room r (reserve_left rest))) none h.room);
    fits = h.fits.1;
  }

  next_held : (w : World) (event : Event) (puts : ℕ → List ℕ) → ok w → holds w puts → holds (next fixed w event) puts
  next_held w events.D puts fine h = kept.driver w puts h
  next_held w events.C puts fine h = kept.controller w puts fine h

  goes_on : (w : World) (event : Event) (x y : Left) (rest : List Left) (puts : ℕ → List ℕ) → needs_left x ≡ no_room
      → needs_left y ≡ no_room → FitsLeft can y → ok w → IsReady w (x ∷ rest) puts → IsReady (next fixed w event) (y ∷ rest) puts
  unfolding reserve_left
  goes_on w event x y rest puts one two fit fine h = record {
    held = next_held w event puts fine h.held;
    room =
        subst (λ r. HasRoomFor r (with_room (needs_left y) (reserve_left rest))) (sym (next_room fixed w event))
        (subst (λ r. HasRoomFor w.driver.room (with_room r (reserve_left rest))) (one ∙ sym two) h.room);
    fits = (fit, h.fits.1);
  }

  command_ready : (w : World) (n : ℕ) (cmd : Cmd) (rest : List Left) (puts : ℕ → List ℕ) → IsReady w (Command n cmd ∷ rest) puts → IsReady (commanded w n cmd) rest (puts_then w.driver cmd puts)
  unfolding reserve_left
  command_ready w n cmd rest puts h = record {
    held = kept.command w n cmd puts h.fits.0.1 (can_offer w.driver.room cmd h.fits.0.0 (less_room w.driver.room (needs cmd) (reserve_left rest) h.room)) h.held;
    room = command_leaves w n cmd (reserve_left rest) h.fits.0.0 h.room;
    fits = h.fits.1;
  }

  IsReadyAt : OrderedWorld → (ℕ → List ℕ) → Type 0
  IsReadyAt p puts = IsReady p.world p.orders puts

  by_ready : (w : World) (x : Left) (rest : List Left) (puts : ℕ → List ℕ) → ok w → IsReady w (x ∷ rest) puts
      → IsReadyAt (tick_by fixed w x rest) (puts_by w x puts)
  unfolding IsReadyAt
  by_ready w (Events event zero) rest puts fine h = ends w (Events event zero) rest puts refl h
  by_ready w (Events event (suc n)) rest puts fine h = goes_on w event (Events event (suc n)) (Events event n) rest puts refl refl tt fine h
  by_ready w (Microframes zero) rest puts fine h = ends w (Microframes zero) rest puts refl h
  by_ready w (Microframes (suc n)) rest puts fine h =
      goes_on w events.C (Microframes (suc n)) (Answer _ (suc n)) rest puts refl refl tt fine h
  by_ready w (Answer ended n) rest puts fine h =
      goes_on w events.D (Answer ended n) (Microframes (fewer ended n)) rest puts refl refl tt fine h
  by_ready w (Command n cmd) rest puts fine h = command_ready w n cmd rest puts h
  by_ready w (Plugs there port) rest puts fine h = ends w (Plugs there port) rest puts refl h

  at_ready : (w : World) (orders : List Left) (puts : ℕ → List ℕ) → ok w → IsReady w orders puts
      → IsReadyAt (tick_at fixed w orders) (puts_next w orders puts)
  unfolding IsReadyAt
  at_ready w [] puts fine h = h
  at_ready w (x ∷ rest) puts fine h = by_ready w x rest puts fine h

  tick_ready : (p : OrderedWorld) (puts : ℕ → List ℕ) → ok p.world → IsReadyAt p puts → IsReadyAt (tick fixed p) (puts_tick p puts)
  unfolding IsReadyAt
  tick_ready p puts fine h = at_ready p.world p.orders puts fine h

-- ---- the lines of a script

line_needs : (l : Line) (n : ℕ) → needs_left (left_of l n) ≡ needs_line l
line_needs (lines.Order event count) n = refl
line_needs _ n = refl

lines_need : (xs : List (ℕ × Line)) → reserve_left (orders_of xs) ≡ reserve_of xs
unfolding reserve_left
lines_need [] = refl
lines_need (x ∷ xs) =
    ap (λ r. with_room r (reserve_left (orders_of xs))) (line_needs x.1 x.0)
    ∙ ap (with_room (needs_line x.1)) (lines_need xs)

module _ (can : Cmd → Type 0) where
  line_fits : (l : Line) (n : ℕ) → IsFitLine l → KindOfLine can l → FitsLeft can (left_of l n)
  line_fits (lines.Command cmd) n fit only = (fit, only)
  line_fits _ n fit only = tt

  lines_fit : (xs : List (ℕ × Line)) → AllByRecursion (λ x. IsFitLine x.1) xs → AllByRecursion (λ x. KindOfLine can x.1) xs → AllByRecursion (FitsLeft can) (orders_of xs)
  lines_fit [] fit only = tt
  lines_fit (x ∷ xs) fit only = (line_fits x.1 x.0 fit.0 only.0, lines_fit xs fit.1 only.1)

module _ (can : Cmd → Type 0) (ok : World → Type 0) (holds : World → (ℕ → List ℕ) → Type 0) (s : Script) (fit : IsFit s)
    (only : AllByRecursion (λ line. KindOfLine can line.1) s.lines) (held : holds (opening_world s) no_puts)
    (kept : IsKeptWhile (fixed_of s) can ok holds) where
  first : IsReadyAt (fixed_of s) can ok holds kept (at_place (opening_world s) (orders_of s.lines)) no_puts
  unfolding IsReadyAt
  first = record {
    held = held;
    room = subst (HasRoomFor (opening_world s).driver.room) (sym (lines_need s.lines)) (room_of_all s);
    fits = lines_fit can s.lines fit.lines only;
  }

  ready : (k : ℕ) → ((j : ℕ) → j < k → ok (moment s j).world) → IsReadyAt (fixed_of s) can ok holds kept (moment s k) (puts_at s k)
  unfolding ticks puts_at
  ready zero each = first
  ready (suc k) each =
      subst (λ (p : OrderedWorld). IsReadyAt (fixed_of s) can ok holds kept p (puts_tick (moment s k) (puts_at s k)))
      (sym (next_moment s k))
      (tick_ready (fixed_of s) can ok holds kept (moment s k) (puts_at s k) (each k (omega arith))
      (ready k (λ j low. each j (omega (arith, low)))))

  holds_at : (k : ℕ) → ((j : ℕ) → j < k → ok (moment s j).world) → holds (moment s k).world (puts_at s k)
  unfolding IsReadyAt
  holds_at k each = (ready k each).held

pub holds_while : (can : Cmd → Type 0) (ok : World → Type 0) (holds : World → (ℕ → List ℕ) → Type 0) → HoldsWhile can ok holds
holds_while = holds_at

pub holds_with_puts : (can : Cmd → Type 0) (holds : World → (ℕ → List ℕ) → Type 0) → HoldsWithPuts can holds
holds_with_puts can holds s fit only held kept k =
    holds_while can (λ w. Unit {0}) holds s fit only held
    (record { driver = kept.driver; controller = λ w puts all h. kept.controller w puts h; command = kept.command }) k (λ j low. tt)
