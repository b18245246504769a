-- What holds of a world and of what is carried along beside it where a run begins, and is kept by each event and each command, holds at each moment of the run.
use Rattle.std.proofs.Common.{◌≡◌, ℕ, zero, suc, List, [], ◌∷◌, ap, sym, subst, ◌∙◌, refl}
use Rattle.std.specs.List.{AllByRecursion}
use Rattle.usb_base.specs.declared.commands.Cmd.{Cmd}
use Rattle.script_types.specs.declared.scripts.Event.{Event}
use Rattle.script_types.specs.declared.scripts.Event.TheVariants as events
use Rattle.script_types.specs.declared.scripts.Line.{Line}
use Rattle.script_types.specs.declared.scripts.Line.TheVariants as lines
use Rattle.script_types.specs.declared.scripts.Script.{Script}
use Rattle.bus_wire.specs.Bus.{Fixed, fixed_of}
use Rattle.drv_table.specs.declared.content.Reserve.{Reserve}
use Rattle.drv_table.specs.Offers.{IsOffered}
use Rattle.script_fits.specs.Fits.{IsFit, IsFitCommand, IsFitLine}
use Rattle.bus_world.specs.World.{World, next, controller_next, driver_next, commanded}
use Rattle.bus_world.specs.Opening.{opening_world}
use Rattle.bus_world.specs.Orders.{Left, Events, Microframes, Answer, Command, Plugs, OrderedWorld, at_place, left_of, orders_of, fewer, tick, tick_by, tick_at, ticks}
use Rattle.bus_world.specs.Budgets.{moment}
use Rattle.bus_world.specs.Rooms.{needs, needs_line, no_room, with_room, reserve_of, HasRoomFor}
use Rattle.bus_world.proofs.Ways.{next_room}
use Rattle.bus_world.proofs.Rooming.{less_room, rest_room, room_of_all, can_offer, command_leaves}
use Rattle.law_world.specs.memory.Laws.{OpensMixed}
use Rattle.law_world.specs.memory.PlacedLaws.{MixedLine, FitsMixed}
use Rattle.claims_world.specs.Carried.{carried_next, carried_by, carried_in, carried_from, carried}

-- ---- from one moment to the next

module _ {X : Type 0} (by : Fixed → World → X → X) where
  one_more : (fixed : Fixed) (p : OrderedWorld) (x : X) (k : ℕ)
      → carried_from by fixed p x (suc k) ≡ carried_in by fixed (ticks fixed p k).world (ticks fixed p k).orders (carried_from by fixed p x k)
  unfolding ticks carried_from
  one_more fixed p x zero = refl
  one_more fixed p x (suc k) = one_more fixed (tick fixed p) (carried_in by fixed p.world p.orders x) k

  pub carried_then : (s : Script) (x : X) (k : ℕ) → carried by s x (suc k) ≡ carried_in by (fixed_of s) (moment s k).world (moment s k).orders (carried by s x k)
  carried_then s x k = one_more (fixed_of s) (at_place (opening_world s) (orders_of s.lines)) x k

-- ---- the lemma

-- what holds of a world and of what is carried is kept by each event and each command; `known`: what is known of them and of what is left to do
pub record KeepsCarried {X : Type 0} (by : Fixed → World → X → X) (fixed : Fixed) (known : World → List Left → X → Type 0) (holds : World → X → Type 0) : Type 0 where
  pub controller : (w : World) (orders : List Left) (x : X) → known w orders x → holds w x → holds (controller_next fixed w) (by fixed w x)
  pub driver : (w : World) (orders : List Left) (x : X) → known w orders x → holds w x → holds (driver_next w) x
  pub command : (w : World) (n : ℕ) (cmd : Cmd) (rest : List Left) (x : X) → known w (Command n cmd ∷ rest) x → holds w x → holds (commanded w n cmd) x

module _ {X : Type 0} (by : Fixed → World → X → X) (fixed : Fixed) (known : World → List Left → X → Type 0) (holds : World → X → Type 0) (keeps : KeepsCarried by fixed known holds) where
  next_holds : (w : World) (event : Event) (orders : List Left) (x : X) → known w orders x → holds w x → holds (next fixed w event) (carried_next by fixed w event x)
  next_holds w events.D orders x known h = keeps.driver w orders x known h
  next_holds w events.C orders x known h = keeps.controller w orders x known h

  by_holds : (w : World) (order : Left) (rest : List Left) (x : X) → known w (order ∷ rest) x → holds w x → holds (tick_by fixed w order rest).world (carried_by by fixed w order x)
  by_holds w (Events event (suc n)) rest x known h = next_holds w event (Events event (suc n) ∷ rest) x known h
  by_holds w (Microframes (suc n)) rest x known h = next_holds w events.C (Microframes (suc n) ∷ rest) x known h
  by_holds w (Answer ended n) rest x known h = next_holds w events.D (Answer ended n ∷ rest) x known h
  by_holds w (Command n cmd) rest x known h = keeps.command w n cmd rest x known h
  by_holds w _ rest x known h = h

  in_holds : (w : World) (orders : List Left) (x : X) → known w orders x → holds w x → holds (tick_at fixed w orders).world (carried_in by fixed w orders x)
  in_holds w [] x known h = h
  in_holds w (order ∷ rest) x known h = by_holds w order rest x known h

  from_holds : (p : OrderedWorld) (x : X) (k : ℕ) → ((j : ℕ) → known (ticks fixed p j).world (ticks fixed p j).orders (carried_from by fixed p x j)) → holds p.world x → holds (ticks fixed p k).world (carried_from by fixed p x k)
  unfolding ticks carried_from
  from_holds p x zero knows h = h
  from_holds p x (suc k) knows h = from_holds (tick fixed p) (carried_in by fixed p.world p.orders x) k (λ j. knows (suc j)) (in_holds p.world p.orders x (knows zero) h)

pub carrying : {X : Type 0} (by : Fixed → World → X → X) (known : World → List Left → X → Type 0) (holds : World → X → Type 0) (s : Script) (x : X) → KeepsCarried by (fixed_of s) known holds
    → ((k : ℕ) → known (moment s k).world (moment s k).orders (carried by s x k)) → holds (opening_world s) x → (k : ℕ) → holds (moment s k).world (carried by s x k)
carrying by known holds s x keeps knows h k = from_holds by (fixed_of s) known holds keeps (at_place (opening_world s) (orders_of s.lines)) x k knows h

-- ---- two that are carried

abbrev pub both : {X Y : Type 0} → (Fixed → World → X → X) → (Fixed → World → Y → Y) → Fixed → World → X × Y → X × Y
both one two fixed w z = (one fixed w z.0, two fixed w z.1)

module _ {X Y : Type 0} (one : Fixed → World → X → X) (two : Fixed → World → Y → Y) (fixed : Fixed) where
  both_next : (w : World) (event : Event) (x : X) (y : Y) → carried_next (both one two) fixed w event (x, y) ≡ (carried_next one fixed w event x, carried_next two fixed w event y)
  both_next w events.D x y = refl
  both_next w events.C x y = refl

  both_by : (w : World) (order : Left) (x : X) (y : Y) → carried_by (both one two) fixed w order (x, y) ≡ (carried_by one fixed w order x, carried_by two fixed w order y)
  both_by w (Events event zero) x y = refl
  both_by w (Events event (suc n)) x y = both_next w event x y
  both_by w (Microframes zero) x y = refl
  both_by w (Microframes (suc n)) x y = refl
  both_by w (Answer ended n) x y = refl
  both_by w (Command n cmd) x y = refl
  both_by w (Plugs there port) x y = refl

  both_in : (w : World) (orders : List Left) (x : X) (y : Y) → carried_in (both one two) fixed w orders (x, y) ≡ (carried_in one fixed w orders x, carried_in two fixed w orders y)
  both_in w [] x y = refl
  both_in w (order ∷ rest) x y = both_by w order x y

  both_from : (p : OrderedWorld) (x : X) (y : Y) (k : ℕ) → carried_from (both one two) fixed p (x, y) k ≡ (carried_from one fixed p x k, carried_from two fixed p y k)
  unfolding carried_from
  both_from p x y zero = refl
  both_from p x y (suc k) =
      ap (λ (z : X × Y). carried_from (both one two) fixed (tick fixed p) z k) (both_in p.world p.orders x y)
      ∙ both_from (tick fixed p) (carried_in one fixed p.world p.orders x) (carried_in two fixed p.world p.orders y) k

pub both_carried : {X Y : Type 0} (one : Fixed → World → X → X) (two : Fixed → World → Y → Y) (s : Script) (x : X) (y : Y) (k : ℕ)
    → carried (both one two) s (x, y) k ≡ (carried one s x k, carried two s y k)
both_carried one two s x y k = both_from one two (fixed_of s) (at_place (opening_world s) (orders_of s.lines)) x y k

-- ---- a command that is next has its room

-- .. and has numbers and ways that fit
abbrev pub NextIsOffered : World → List Left → Type 0
NextIsOffered w [] = Unit {0}
NextIsOffered w (Events event n ∷ rest) = Unit {0}
NextIsOffered w (Microframes n ∷ rest) = Unit {0}
NextIsOffered w (Answer ended n ∷ rest) = Unit {0}
NextIsOffered w (Command n cmd ∷ rest) = OpensMixed cmd × IsOffered w.driver.room cmd
NextIsOffered w (Plugs there port ∷ rest) = Unit {0}

abbrev needs_left : Left → Reserve
needs_left (Command n cmd) = needs cmd
needs_left _ = no_room

reserve_left : List Left → Reserve
reserve_left [] = no_room
reserve_left (x ∷ xs) = with_room (needs_left x) (reserve_left xs)

abbrev FitsLeft : Left → Type 0
FitsLeft (Events event n) = Unit {0}
FitsLeft (Microframes n) = Unit {0}
FitsLeft (Answer ended n) = Unit {0}
FitsLeft (Command n cmd) = IsFitCommand cmd × OpensMixed cmd
FitsLeft (Plugs there port) = Unit {0}

record IsReady (w : World) (orders : List Left) : Type 0 where
  room : HasRoomFor w.driver.room (reserve_left orders)
  fits : AllByRecursion FitsLeft orders

next_ready : (w : World) (orders : List Left) → IsReady w orders → NextIsOffered w orders
unfolding reserve_left
next_ready w [] h = tt
next_ready w (Events event n ∷ rest) h = tt
next_ready w (Microframes n ∷ rest) h = tt
next_ready w (Answer ended n ∷ rest) h = tt
next_ready w (Command n cmd ∷ rest) h = (h.fits.0.1, can_offer w.driver.room cmd h.fits.0.0 (less_room w.driver.room (needs cmd) (reserve_left rest) h.room))
next_ready w (Plugs there port ∷ rest) h = tt

module _ (fixed : Fixed) where
  ends : (w : World) (x : Left) (rest : List Left) → needs_left x ≡ no_room → IsReady w (x ∷ rest) → IsReady w rest
  unfolding reserve_left
  ends w x rest none h = record {
    room = rest_room w.driver.room (reserve_left rest) (subst (λ r. HasRoomFor w.driver.room (with_room r (reserve_left rest))) none h.room);
    fits = h.fits.1;
  }

  goes_on : (w : World) (event : Event) (x y : Left) (rest : List Left) → needs_left x ≡ no_room → needs_left y ≡ no_room → FitsLeft y → IsReady w (x ∷ rest) → IsReady (next fixed w event) (y ∷ rest)
  unfolding reserve_left
  goes_on w event x y rest one two fit h = record {
    room =
        subst (λ r. HasRoomFor r (with_room (needs_left y) (reserve_left rest))) (sym (next_room fixed w event))
        (subst (λ r. HasRoomFor w.driver.room (with_room r (reserve_left rest))) (one ∙ sym two) h.room);
    fits = (fit, h.fits.1);
  }

  command_ready : (w : World) (n : ℕ) (cmd : Cmd) (rest : List Left) → IsReady w (Command n cmd ∷ rest) → IsReady (commanded w n cmd) rest
  unfolding reserve_left
  command_ready w n cmd rest h = record { room = command_leaves w n cmd (reserve_left rest) h.fits.0.0 h.room; fits = h.fits.1 }

  IsReadyAt : OrderedWorld → Type 0
  IsReadyAt p = IsReady p.world p.orders

  by_ready : (w : World) (x : Left) (rest : List Left) → IsReady w (x ∷ rest) → IsReadyAt (tick_by fixed w x rest)
  unfolding IsReadyAt
  by_ready w (Events event zero) rest h = ends w (Events event zero) rest refl h
  by_ready w (Events event (suc n)) rest h = goes_on w event (Events event (suc n)) (Events event n) rest refl refl tt h
  by_ready w (Microframes zero) rest h = ends w (Microframes zero) rest refl h
  by_ready w (Microframes (suc n)) rest h = goes_on w events.C (Microframes (suc n)) (Answer _ (suc n)) rest refl refl tt h
  by_ready w (Answer ended n) rest h = goes_on w events.D (Answer ended n) (Microframes (fewer ended n)) rest refl refl tt h
  by_ready w (Command n cmd) rest h = command_ready w n cmd rest h
  by_ready w (Plugs there port) rest h = ends w (Plugs there port) rest refl h

  at_ready : (w : World) (orders : List Left) → IsReady w orders → IsReadyAt (tick_at fixed w orders)
  unfolding IsReadyAt
  at_ready w [] h = h
  at_ready w (x ∷ rest) h = by_ready w x rest h

  all_ready : (p : OrderedWorld) (k : ℕ) → IsReadyAt p → IsReadyAt (ticks fixed p k)
  unfolding ticks IsReadyAt
  all_ready p zero h = h
  all_ready p (suc k) h = all_ready (tick fixed p) k (at_ready p.world p.orders h)

  offered_after : (w : World) (orders : List Left) (k : ℕ) → HasRoomFor w.driver.room (reserve_left orders) → AllByRecursion FitsLeft orders
      → NextIsOffered (ticks fixed (at_place w orders) k).world (ticks fixed (at_place w orders) k).orders
  unfolding IsReadyAt
  offered_after w orders k room fits =
      next_ready (ticks fixed (at_place w orders) k).world (ticks fixed (at_place w orders) k).orders (all_ready (at_place w orders) k (record { room = room; fits = fits }))

line_needs : (l : Line) (n : ℕ) → needs_left (left_of l n) ≡ needs_line l
line_needs (lines.Order event count) n = refl
line_needs _ n = refl

lines_need : (xs : List (ℕ × Line)) → reserve_left (orders_of xs) ≡ reserve_of xs
unfolding reserve_left
lines_need [] = refl
lines_need (x ∷ xs) =
    ap (λ r. with_room r (reserve_left (orders_of xs))) (line_needs x.1 x.0)
    ∙ ap (with_room (needs_line x.1)) (lines_need xs)

line_fits : (l : Line) (n : ℕ) → IsFitLine l → MixedLine l → FitsLeft (left_of l n)
line_fits (lines.Command cmd) n fit only = (fit, only)
line_fits _ n fit only = tt

lines_fit : (xs : List (ℕ × Line)) → AllByRecursion (λ x. IsFitLine x.1) xs → AllByRecursion (λ x. MixedLine x.1) xs → AllByRecursion FitsLeft (orders_of xs)
lines_fit [] fit only = tt
lines_fit (x ∷ xs) fit only = (line_fits x.1 x.0 fit.0 only.0, lines_fit xs fit.1 only.1)

pub next_is_offered : (s : Script) → IsFit s → FitsMixed s → (k : ℕ) → NextIsOffered (moment s k).world (moment s k).orders
next_is_offered s fit opens k =
    offered_after (fixed_of s) (opening_world s) (orders_of s.lines) k
    (subst (HasRoomFor (opening_world s).driver.room) (sym (lines_need s.lines)) (room_of_all s))
    (lines_fit s.lines fit.lines opens)
