-- The lines of a script, one after the other, for a world at work: what is left leads where all led, and there is room for its commands.
use Rattle.std.proofs.Common.{◌≡◌, ℕ, ◌+◌, ◌<◌, true, false, List, [], ◌∷◌, length, drop, get_or, ap, sym, ◌∙◌, refl, subst, inl, inr}
use Rattle.std.specs.List.{AllByRecursion}
use Rattle.script_types.specs.declared.scripts.Event.{Event}
use Rattle.script_types.specs.declared.scripts.Line.{Line}
use Rattle.script_types.specs.declared.scripts.Line.TheVariants as lines
use Rattle.usb_base.specs.declared.commands.Cmd.{Cmd}
use Rattle.bus_wire.specs.Bus.{Fixed}
use Rattle.drv_table.specs.declared.content.Reserve.{Reserve}
use Rattle.drv_jobs.specs.JobOffers.{IsOfferedAny}
use Rattle.script_fits.specs.Fits.{IsFitLine}
use Rattle.bus_world.specs.Orders.{Left, Command, Plugs, left_of, orders_of}
use Rattle.bus_world.specs.AtWork.{WorldAtWork, StandingAtWork, next_at_work, room_in, commanded_at_work}
use Rattle.bus_world.specs.RunsAtWork.{PlaceAtWork, LeadsAtWork, place_at_work, IsOverlongAtWork, IsRunAtWork}
use Rattle.bus_world.specs.Rooms.{HasRoomFor, needs_line, with_room, reserve_of}
use Rattle.bus_world.proofs.TicksAtWork.{joined, nothing, one_tick}
use Rattle.bus_world.proofs.Rooming.{less_room, drop_next}
use Rattle.bus_world.proofs.RoomsAtWork.{work_leaves, can_offer_any}
use Rattle.bus_world.proofs.BudgetedAtWork.{next_room}

-- an event leaves what of the driver's reserve is free as it was
pub event_room : (now later : StandingAtWork) (event : Event) → later ≡ record now { work = next_at_work now.fixed now.work event }
    → room_in later.work ≡ room_in now.work
event_room now later event e = ap (λ (s : StandingAtWork). room_in s.work) e ∙ next_room now.fixed now.work event

-- a command is one tick
pub command_done : (now later : StandingAtWork) (n : ℕ) (cmd : Cmd) → later ≡ record now { work = commanded_at_work now.work n cmd }
    → (rest : List Left)
    → LeadsAtWork now.fixed (place_at_work now.work (Command n cmd ∷ rest)) (place_at_work later.work rest)
command_done now later n cmd e rest =
    subst (λ (w : WorldAtWork). LeadsAtWork now.fixed (place_at_work now.work (Command n cmd ∷ rest)) (place_at_work w rest)) (sym (ap
    (λ (s : StandingAtWork). s.work) e))
    (one_tick now.fixed (place_at_work now.work (Command n cmd ∷ rest)))

pub command_line_done : (now later : StandingAtWork) (l : Line) (n : ℕ) (cmd : Cmd) → l ≡ lines.Command cmd
    → later ≡ record now { work = commanded_at_work now.work n cmd } → (rest : List Left)
    → LeadsAtWork now.fixed (place_at_work now.work (left_of l n ∷ rest)) (place_at_work later.work rest)
command_line_done now later l n cmd is e rest =
    subst (λ (x : Line). LeadsAtWork now.fixed (place_at_work now.work (left_of x n ∷ rest)) (place_at_work later.work rest)) (sym is)
    (command_done now later n cmd e rest)

-- so is what is plugged in or unplugged
pub plug_line_done : (now : StandingAtWork) (l : Line) (n port : ℕ) → l ≡ lines.Plug port → (rest : List Left)
    → LeadsAtWork now.fixed (place_at_work now.work (left_of l n ∷ rest)) (place_at_work now.work rest)
plug_line_done now l n port is rest =
    subst (λ (x : Line). LeadsAtWork now.fixed (place_at_work now.work (left_of x n ∷ rest)) (place_at_work now.work rest)) (sym is)
    (one_tick now.fixed (place_at_work now.work (Plugs true port ∷ rest)))

pub unplug_line_done : (now : StandingAtWork) (l : Line) (n port : ℕ) → l ≡ lines.Unplug port → (rest : List Left)
    → LeadsAtWork now.fixed (place_at_work now.work (left_of l n ∷ rest)) (place_at_work now.work rest)
unplug_line_done now l n port is rest =
    subst (λ (x : Line). LeadsAtWork now.fixed (place_at_work now.work (left_of x n ∷ rest)) (place_at_work now.work rest)) (sym is)
    (one_tick now.fixed (place_at_work now.work (Plugs false port ∷ rest)))

pub command_line_room : (now later : StandingAtWork) (l : Line) (n : ℕ) (cmd : Cmd) → l ≡ lines.Command cmd
    → later ≡ record now { work = commanded_at_work now.work n cmd } → IsFitLine l → (r : Reserve)
    → HasRoomFor (room_in now.work) (with_room (needs_line l) r) → HasRoomFor (room_in later.work) r
command_line_room now later l n cmd is e fit r room =
    subst (λ (s : StandingAtWork). HasRoomFor (room_in s.work) r) (sym e)
    (work_leaves now.work n cmd r (subst IsFitLine is fit) (subst (λ (x : Line). HasRoomFor (room_in now.work) (with_room
    (needs_line x) r)) is room))

-- the command of a line that fits may be offered where there is room for it
pub command_line_offers : (room : Reserve) (l : Line) (cmd : Cmd) → l ≡ lines.Command cmd → IsFitLine l
    → HasRoomFor room (needs_line l) → IsOfferedAny room cmd
command_line_offers room l cmd is fit has = can_offer_any room cmd (subst IsFitLine is fit) (subst (λ (x : Line). HasRoomFor room
    (needs_line x)) is has)

-- ---- lines

pub record IsUnderWay (begun now : StandingAtWork) (all left : List (ℕ × Line)) : Type 0 where
  pub fixed : now.fixed ≡ begun.fixed
  pub leads : LeadsAtWork begun.fixed (place_at_work begun.work (orders_of all)) (place_at_work now.work (orders_of left))
  pub room : HasRoomFor (room_in now.work) (reserve_of left)
  pub fits : AllByRecursion (λ x. IsFitLine x.1) left

pub way_begins : (begun : StandingAtWork) (all left : List (ℕ × Line)) → left ≡ all → HasRoomFor (room_in begun.work) (reserve_of all)
    → AllByRecursion (λ x. IsFitLine x.1) all
    → IsUnderWay begun begun all left
way_begins begun all left e room fits =
    subst (IsUnderWay begun begun all) (sym e) (record {
      fixed = refl;
      leads = nothing begun.fixed (place_at_work begun.work
          (orders_of all));
      room = room;
      fits = fits;
    })

-- the next line, and those after it
pub way_at : (begun now : StandingAtWork) (all : List (ℕ × Line)) (i : ℕ) (x : ℕ × Line) → i < length all → x ≡ get_or all i x
    → IsUnderWay begun now all (drop i all)
    → IsUnderWay begun now all (x ∷ drop (i + 1) all)
way_at begun now all i x h e way =
    subst (λ (y : ℕ × Line). IsUnderWay begun now all (y ∷ drop (i + 1) all)) (sym e) (subst (IsUnderWay begun now all)
    (drop_next all i x h) way)

pub line_fits : (begun now : StandingAtWork) (all rest : List (ℕ × Line)) (x : ℕ × Line) → IsUnderWay begun now all (x ∷ rest)
    → IsFitLine x.1
line_fits begun now all rest x way = way.fits.0

pub line_room : (begun now : StandingAtWork) (all rest : List (ℕ × Line)) (x : ℕ × Line) → IsUnderWay begun now all (x ∷ rest)
    → HasRoomFor (room_in now.work) (needs_line x.1)
line_room begun now all rest x way = less_room (room_in now.work) (needs_line x.1) (reserve_of rest) way.room

pub way_more : (begun now later : StandingAtWork) (all rest : List (ℕ × Line)) (x : ℕ × Line) → IsUnderWay begun now all (x ∷ rest)
    → later.fixed ≡ now.fixed
    → ((r : List Left) → LeadsAtWork now.fixed (place_at_work now.work (left_of x.1 x.0 ∷ r)) (place_at_work later.work r))
    → ((r : Reserve) → HasRoomFor (room_in now.work) (with_room (needs_line x.1) r) → HasRoomFor (room_in later.work) r)
    → IsUnderWay begun later all rest
way_more begun now later all rest x way fixed done room = record {
  fixed = fixed ∙ way.fixed;
  leads =
      joined begun.fixed (place_at_work begun.work (orders_of all)) (place_at_work now.work (orders_of (x ∷ rest)))
      (place_at_work later.work (orders_of rest)) way.leads
      (subst (λ (f : Fixed). LeadsAtWork f (place_at_work now.work (orders_of (x ∷ rest))) (place_at_work later.work
      (orders_of rest))) way.fixed (done (orders_of rest)));
  room = room (reserve_of rest) way.room;
  fits = way.fits.1;
}

overlong_after : (fixed : Fixed) (p q : PlaceAtWork) (w : WorldAtWork) → LeadsAtWork fixed p q → IsOverlongAtWork fixed q w
    → IsOverlongAtWork fixed p w
overlong_after fixed p q w h o = record {
  begun = o.begun;
  n = o.n;
  rest = o.rest;
  leads = joined fixed p q _ h o.leads;
  unended = o.unended;
}

pub way_overlong : (begun now later : StandingAtWork) (all rest : List (ℕ × Line)) (x : ℕ × Line) → IsUnderWay begun now all (x ∷ rest)
    → ((r : List Left) → IsOverlongAtWork now.fixed (place_at_work now.work (left_of x.1 x.0 ∷ r)) later.work)
    → IsRunAtWork begun.fixed begun.work (orders_of all) later.work
way_overlong begun now later all rest x way overlong =
    inr
    (overlong_after begun.fixed (place_at_work begun.work (orders_of all)) (place_at_work now.work (orders_of
    (x ∷ rest))) later.work way.leads
    (subst (λ (f : Fixed). IsOverlongAtWork f (place_at_work now.work (orders_of (x ∷ rest))) later.work) way.fixed (overlong
    (orders_of rest))))

pub way_ends : (begun now : StandingAtWork) (all left : List (ℕ × Line)) → left ≡ [] → IsUnderWay begun now all left
    → IsRunAtWork begun.fixed begun.work (orders_of all) now.work
way_ends begun now all left e way = inl (subst (λ (xs : List (ℕ × Line)). LeadsAtWork begun.fixed (place_at_work begun.work
    (orders_of all)) (place_at_work now.work (orders_of xs))) e way.leads)
