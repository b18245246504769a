-- Along the run of a script each frame keeps what is due in it.
use Rattle.std.proofs.Common.{◌≡◌, ℕ, zero, suc, List, [], ◌∷◌, Result, Ok, Err, refl, ap, sym, subst, ◌∙◌}
use Rattle.std.specs.List.{AllByRecursion}
use Rattle.usb_base.specs.declared.commands.Cmd.{Cmd}
use Rattle.usb_base.specs.declared.endpoints.EpName.{EpName}
use Rattle.usb_base.specs.declared.reports.OfferError.{OfferError}
use Rattle.script_types.specs.declared.scripts.Event.{Event}
use Rattle.script_types.specs.declared.scripts.Event.TheVariants as events
use Rattle.script_types.specs.declared.scripts.Line.{Line}
use Rattle.script_types.specs.declared.scripts.Line.TheVariants as lines
use Rattle.script_types.specs.declared.scripts.Script.{Script}
use Rattle.bus_wire.specs.Bus.{Fixed, fixed_of}
use Rattle.drv_table.specs.declared.content.Reserve.{Reserve}
use Rattle.drv_table.specs.Accepting.{Offered}
use Rattle.drv_table.specs.Offers.{IsOffered, offered}
use Rattle.script_text.specs.Faults.{Spells}
use Rattle.script_fits.proofs.Texts.{spelled_fits}
use Rattle.script_fits.specs.Fits.{IsFit, IsFitCommand, IsFitLine}
use Rattle.law_driver.proofs.lemmas.planned_endpoints.Due.{queue_heads_of_a_frame_are_due, a_frame_has_all_queue_heads_that_are_due}
use Rattle.law_driver.proofs.lemmas.iso_frames.Due.{descriptors_of_a_frame_are_due as descriptors_due, an_endpoint_has_one_descriptor_a_frame}
use Rattle.law_driver.proofs.lemmas.in_place.Opened.{opening_is_in_place}
use Rattle.bus_world.specs.World.{World, next, driver_parts, commanded, commanded_by, name_in}
use Rattle.bus_world.specs.Opening.{opening_world}
use Rattle.bus_world.specs.Orders.{Left, Events, Microframes, Answer, Command, Plugs, OrderedWorld, at_place, left_of, orders_of, fewer, tick, tick_by, tick_at, ticks}
use Rattle.bus_world.specs.Rooms.{needs, needs_line, no_room, with_room, reserve_of, room_of_script, HasRoomFor}
use Rattle.bus_world.specs.Budgets.{moment}
use Rattle.bus_world.proofs.Ways.{next_room}
use Rattle.bus_world.proofs.Rooming.{less_room, rest_room, room_of_all, can_offer, command_leaves}
use Rattle.bus_world.proofs.Budgeted.{script_admits}
use Rattle.law_world.proofs.lemmas.memory.lemmas.worlds_keep_to_lent.Standing.{IsStanding, next_stands, commanded_stands, opening_stands}
use Rattle.claims_world.specs.Schedule.{KeepsScheduleThroughout}
use Rattle.law_world.proofs.lemmas.memory.lemmas.world_frames.Contents.{IsWhole, opening_whole, command_whole, event_whole, refused_whole}

-- ---- one event or command

next_whole : (fixed : Fixed) (w : World) (event : Event) → IsWhole w.driver → IsWhole (next fixed w event).driver
next_whole fixed w events.D old = event_whole (driver_parts w) old
next_whole fixed w events.C old = old

answered_whole : (w : World) (n : ℕ) (name : EpName) (cmd : Cmd) (r : Result Offered OfferError) → IsStanding w → IsOffered w.driver.room cmd → IsWhole w.driver → offered w.driver w.memory cmd ≡ r → IsWhole (commanded_by w n name r).driver
answered_whole w n name cmd (Ok o) stands ok old is = command_whole w.driver w.memory cmd o stands.good.stands ok old is
answered_whole w n name cmd (Err why) stands ok old is = refused_whole w.driver n name why old

commanded_whole : (w : World) (n : ℕ) (cmd : Cmd) → IsStanding w → IsOffered w.driver.room cmd → IsWhole w.driver → IsWhole (commanded w n cmd).driver
commanded_whole w n cmd stands ok old = answered_whole w n (name_in cmd) cmd (offered w.driver w.memory cmd) stands ok old refl

-- ---- what is left of the orders

abbrev needs_left : Left → Reserve
needs_left (Command n cmd) = needs cmd
needs_left _ = no_room

reserve_left : List Left → Reserve
reserve_left [] = no_room
reserve_left (x ∷ xs) = with_room (needs_left x) (reserve_left xs)

abbrev FitsLeft : Left → Type 0
FitsLeft (Events event n) = Unit {0}
FitsLeft (Microframes n) = Unit {0}
FitsLeft (Answer ended n) = Unit {0}
FitsLeft (Command n cmd) = IsFitCommand cmd
FitsLeft (Plugs there port) = Unit {0}

record IsReady (w : World) (orders : List Left) : Type 0 where
  stands : IsStanding w
  whole : IsWhole w.driver
  room : HasRoomFor w.driver.room (reserve_left orders)
  fits : AllByRecursion FitsLeft orders

-- an order that needs no room ends, or goes on after an event
ends : (w : World) (x : Left) (rest : List Left) → needs_left x ≡ no_room → IsReady w (x ∷ rest) → IsReady w rest
unfolding reserve_left
ends w x rest none h = record {
  stands = h.stands;
  whole = h.whole;
  room = rest_room w.driver.room (reserve_left rest) (subst (λ r. HasRoomFor w.driver.room (with_room r (reserve_left rest))) none h.room);
  fits = h.fits.1;
}

goes_on : (fixed : Fixed) (w : World) (event : Event) (x y : Left) (rest : List Left) → needs_left x ≡ no_room → needs_left y ≡ no_room → FitsLeft y → IsReady w (x ∷ rest) → IsReady (next fixed w event) (y ∷ rest)
unfolding reserve_left
goes_on fixed w event x y rest one two fit h = record {
  stands = next_stands fixed w event h.stands;
  whole = next_whole fixed w event h.whole;
  room =
      subst (λ r. HasRoomFor r (with_room (needs_left y) (reserve_left rest))) (sym (next_room fixed w event))
      (subst (λ r. HasRoomFor w.driver.room (with_room r (reserve_left rest))) (one ∙ sym two) h.room);
  fits = (fit, h.fits.1);
}

command_ready : (w : World) (n : ℕ) (cmd : Cmd) (rest : List Left) → IsReady w (Command n cmd ∷ rest) → IsReady (commanded w n cmd) rest
unfolding reserve_left
command_ready w n cmd rest h = record {
  stands = commanded_stands w n cmd h.stands;
  whole = commanded_whole w n cmd h.stands (can_offer w.driver.room cmd h.fits.0 (less_room w.driver.room (needs cmd) (reserve_left rest) h.room)) h.whole;
  room = command_leaves w n cmd (reserve_left rest) h.fits.0 h.room;
  fits = h.fits.1;
}

abbrev IsReadyAt : OrderedWorld → Type 0
IsReadyAt p = IsReady p.world p.orders

by_ready : (fixed : Fixed) (w : World) (x : Left) (rest : List Left) → IsReady w (x ∷ rest) → IsReadyAt (tick_by fixed w x rest)
by_ready fixed w (Events event zero) rest h = ends w (Events event zero) rest refl h
by_ready fixed w (Events event (suc n)) rest h = goes_on fixed w event (Events event (suc n)) (Events event n) rest refl refl tt h
by_ready fixed w (Microframes zero) rest h = ends w (Microframes zero) rest refl h
by_ready fixed w (Microframes (suc n)) rest h = goes_on fixed w events.C (Microframes (suc n)) (Answer _ (suc n)) rest refl refl tt h
by_ready fixed w (Answer ended n) rest h = goes_on fixed w events.D (Answer ended n) (Microframes (fewer ended n)) rest refl refl tt h
by_ready fixed w (Command n cmd) rest h = command_ready w n cmd rest h
by_ready fixed w (Plugs there port) rest h = ends w (Plugs there port) rest refl h

at_ready : (fixed : Fixed) (w : World) (orders : List Left) → IsReady w orders → IsReadyAt (tick_at fixed w orders)
at_ready fixed w [] h = h
at_ready fixed w (x ∷ rest) h = by_ready fixed w x rest h

all_ready : (fixed : Fixed) (p : OrderedWorld) (k : ℕ) → IsReadyAt p → IsReadyAt (ticks fixed p k)
unfolding ticks
all_ready fixed p zero h = h
all_ready fixed p (suc k) h = all_ready fixed (tick fixed p) k (at_ready fixed p.world p.orders h)

-- ---- the lines of a script

line_needs : (l : Line) (n : ℕ) → needs_left (left_of l n) ≡ needs_line l
line_needs (lines.Order event count) n = refl
line_needs _ n = refl

lines_need : (xs : List (ℕ × Line)) → reserve_left (orders_of xs) ≡ reserve_of xs
unfolding reserve_left
lines_need [] = refl
lines_need (x ∷ xs) =
    ap (λ r. with_room r (reserve_left (orders_of xs))) (line_needs x.1 x.0)
    ∙ ap (with_room (needs_line x.1)) (lines_need xs)

line_fits : (l : Line) (n : ℕ) → IsFitLine l → FitsLeft (left_of l n)
line_fits (lines.Command cmd) n h = h
line_fits _ n h = tt

lines_fit : (xs : List (ℕ × Line)) → AllByRecursion (λ x. IsFitLine x.1) xs → AllByRecursion FitsLeft (orders_of xs)
lines_fit [] h = tt
lines_fit (x ∷ xs) h = (line_fits x.1 x.0 h.0, lines_fit xs h.1)

opening_ready : (s : Script) → IsFit s → IsReady (opening_world s) (orders_of s.lines)
opening_ready s fit = record {
  stands = opening_stands s fit;
  whole = opening_whole s.words (room_of_script s) (opening_is_in_place s.words (room_of_script s) fit.least fit.most fit.whole_pages).sound.owners;
  room = subst (HasRoomFor (opening_world s).driver.room) (sym (lines_need s.lines)) (room_of_all s);
  fits = lines_fit s.lines fit.lines;
}

-- ---- what that says of frames

pub script_whole : (s : Script) → IsFit s → (k : ℕ) → IsWhole (moment s k).world.driver
script_whole s fit k = (all_ready (fixed_of s) (at_place (opening_world s) (orders_of s.lines)) k (opening_ready s fit)).whole

pub script_scheduled : (s : Script) → IsFit s → KeepsScheduleThroughout s
script_scheduled s fit k f =
    let p : OrderedWorld = moment s k in
    let h : IsWhole p.world.driver = script_whole s fit k in
    record {
      queues = queue_heads_of_a_frame_are_due p.world.driver f h.owners h.listed h.planned h.ordered;
      all = a_frame_has_all_queue_heads_that_are_due p.world.driver f h.owners h.queues h.ordered;
      descriptors = descriptors_due p.world.driver f h.owners h.listed h.planned h.frames;
      one = an_endpoint_has_one_descriptor_a_frame p.world.driver h.owners h.listed h.frames;
      fits = (script_admits s fit k).fits;
    }

pub text_scheduled : (text : List ℕ) (s : Script) → Spells text s → KeepsScheduleThroughout s
text_scheduled text s e = script_scheduled s (spelled_fits text s e)
