-- A bulk or interrupt IN endpoint below a hub stands as it must at each moment of each script before which its hub was spared, and its
-- last complete-splits came in time.
use Rattle.std.proofs.Common.{◌≡◌, ℕ, zero, suc, ◌<◌, Bool, true, false, List, [], ◌∷◌, ap, sym, subst, ◌∙◌, refl, arith}
use Rattle.std.specs.List.{AllByRecursion}
use Rattle.std.proofs.lemmas.Bool.{and_parts, true≢false}
use Rattle.law_world.proofs.Common.{lines_can}
use Rattle.usb_base.specs.declared.commands.Cmd.{Cmd}
use Rattle.usb_base.specs.declared.endpoints.EpDesc.{EpDesc}
use Rattle.usb_base.specs.declared.packets.Dir.TheVariants as Directions
use Rattle.usb_base.specs.declared.packets.EpKind.TheVariants as kinds
use Rattle.usb_base.specs.declared.packets.Way.TheVariants as ways
use Rattle.periodic_walk.specs.declared.state.HeldQueue.{HeldQueue}
use Rattle.script_types.specs.declared.scripts.Event.{Event}
use Rattle.script_types.specs.declared.scripts.Event.TheVariants as events
use Rattle.script_types.specs.declared.scripts.Line.{Line}
use Rattle.script_types.specs.declared.scripts.Line.TheVariants as lines
use Rattle.script_types.specs.declared.scripts.Script.{Script}
use Rattle.script_text.specs.Faults.{Spells}
use Rattle.drv_table.specs.declared.content.Reserve.{Reserve}
use Rattle.script_fits.specs.Fits.{IsFit, IsFitCommand, IsFitLine}
use Rattle.script_fits.proofs.Texts.{spelled_fits}
use Rattle.bus_wire.specs.Bus.{fixed_of}
use Rattle.claims_world.specs.BelowStreams.{has_hub}
use Rattle.law_scripts.specs.byte_answers.Bytes.{IsByteScript}
use Rattle.law_scripts.proofs.lemmas.script_bytes.Texts.{a_text_spells_bytes}
use Rattle.law_world.specs.steps.Streaming.{wired}
use Rattle.law_world.specs.streams.put_laws.HeldPuts.{puts_then}
use Rattle.law_world.specs.streams.put_laws.TakenPuts.{no_puts, puts_next, puts_tick, puts_at}
use Rattle.law_world.specs.steps.receiving_runs.Runs.{KindOfLine}
use Rattle.law_world.proofs.lemmas.streams.lemmas.put_laws.Moments.{next_moment}
use Rattle.law_world.proofs.lemmas.memory.FittingTexts.{texts_open_fitting}
use Rattle.law_world.proofs.lemmas.memory.Texts.{texts_fit}
use Rattle.law_world.proofs.lemmas.memory.Together.{lines_fit}
use Rattle.bus_world.specs.Budgets.{moment}
use Rattle.bus_world.specs.Opening.{opening_world}
use Rattle.bus_world.specs.World.{World, next, controller_next, commanded}
use Rattle.bus_world.specs.Orders.{Left, Events, Microframes, Answer, Command, Plugs, OrderedWorld, left_of, orders_of, fewer}
use Rattle.bus_world.specs.Orders.{tick, tick_at, ticks}
use Rattle.bus_world.specs.Rooms.{needs, needs_line, no_room, with_room, reserve_of, HasRoomFor}
use Rattle.bus_world.proofs.Ways.{next_room}
use Rattle.bus_world.proofs.Rooming.{less_room, rest_room, room_of_all, can_offer, command_leaves}
use Rattle.law_reports.specs.pipes.Declared.{Sides, sides_of}
use Rattle.law_reports.specs.pipes.below_hubs.Behind.{Spots, HasBehind}
use Rattle.law_reports.specs.pipes.below_hubs.BehindLaws.{OpensSpot, OpensSpots, OpensUnsent, spots_of}
use Rattle.claims_world.specs.BelowStreams.{is_in_below}
use Rattle.law_reports.specs.pipes.below_hubs.Inward.{Inlet, is_inlet, IsSpared, renewed, HasInward}
use Rattle.law_reports.specs.pipes.below_hubs.InwardLaws.{OpensInlet, inlet_of, IsInletOf, HasItsInlet, TextsAreInward}
use Rattle.law_reports.specs.pipes.below_hubs.InwardLaws.{IsLateBy, now, before, IsLateSince, begins, waits_on, WorldAsksInTime}
use Rattle.law_reports.specs.pipes.below_hubs.InwardLaws.{IsCompletingLast, CompletesInTime, IsInwardAt}
use Rattle.law_reports.specs.pipes.Piped.{asked_as}
use Rattle.law_below_hubs.specs.HostEvents.{told_key}
use Rattle.law_below_hubs.specs.HostIns.{HasResult}
use Rattle.law_microframes.specs.translators.Fresh.{key_started}
use Rattle.law_reports.proofs.lemmas.pipes.lemmas.below_hubs.LastResults.{texts_have_results}
use Rattle.law_reports.proofs.lemmas.pipes.lemmas.below_hubs.InTime.{late_before}
use Rattle.law_reports.proofs.lemmas.pipes.DeclaredOpens.{texts_declare}
use Rattle.law_reports.proofs.lemmas.pipes.Moments.{lines_both}
use Rattle.law_reports.proofs.lemmas.pipes.Opening.{none_left}
use Rattle.law_reports.proofs.lemmas.pipes.lemmas.below_hubs.BehindMoments.{CanBeBehind, kinds_both, none_there, new_world_is_behind}
use Rattle.law_reports.proofs.lemmas.pipes.lemmas.below_hubs.BelowTexts.{texts_open_spots}
use Rattle.law_reports.proofs.lemmas.pipes.lemmas.below_hubs.InwardMoments.{controller_keeps_inward, driver_keeps_inward}
use Rattle.law_reports.proofs.lemmas.pipes.lemmas.below_hubs.InwardMoments.{command_keeps_inward, renew_inward}
use Rattle.law_reports.proofs.lemmas.pipes.lemmas.below_hubs.InwardTexts.{texts_open_inlets}
use Rattle.law_reports.proofs.lemmas.pipes.lemmas.puts.PaidMoments.{CanBePaid, lines_paid}
use Rattle.law_reports.specs.pipes.below_hubs.BehindLaws.{WorldFindsNoneTold}
use Rattle.law_reports.proofs.lemmas.pipes.lemmas.below_hubs.FreshStarts.{texts_find_none_told}

new_world_is_inward : (s : Script) (x : EpDesc) → IsFit s → IsByteScript s → OpensUnsent s → IsInletOf s x → HasItsInlet s (inlet_of s x)
    → HasInward (fixed_of s) (sides_of s) (spots_of s) (inlet_of s x) (λ n. true) no_puts (opening_world s)
new_world_is_inward s x fit bytes unsent is its =
    let p : HasBehind (fixed_of s) (sides_of s) (spots_of s) no_puts (opening_world s) = new_world_is_behind s fit bytes unsent in
    record {
      standing = p.standing;
      lines = p.lines;
      heads = p.heads;
      piped = p.piped;
      pays = p.pays;
      behind = p.behind;
      inward = record {
        claims = (and_parts (is_in_below x) (has_hub s x.hub x.port) is.claims).0;
        inlets = λ e y here. absurd (none_there s e y here);
        hub = its.hub;
        met = λ e y here way on is_met. absurd (none_there s e y here);
        fresh = λ addr ep on unused. its.unmoved;
        left = none_left s p.lines.acc ways.In (is_inlet (inlet_of s x)) _;
      };
    }

abbrev CanBeInward : Sides → Spots → Inlet → Cmd → Type 0
CanBeInward x o v cmd = CanBeBehind x o cmd × OpensInlet v cmd

-- ---- what is left of the orders

abbrev needs_left : Left → Reserve
needs_left (Command n cmd) = needs cmd
needs_left _ = no_room

reserve_left : List Left → Reserve
reserve_left [] = no_room
reserve_left (x ∷ xs) = with_room (needs_left x) (reserve_left xs)

abbrev FitsLeft : (Cmd → Type 0) → Left → Type 0
FitsLeft can (Events event n) = Unit {0}
FitsLeft can (Microframes n) = Unit {0}
FitsLeft can (Answer ended n) = Unit {0}
FitsLeft can (Command n cmd) = IsFitCommand cmd × can cmd
FitsLeft can (Plugs there port) = Unit {0}

line_needs : (l : Line) (n : ℕ) → needs_left (left_of l n) ≡ needs_line l
line_needs (lines.Order event count) n = refl
line_needs _ n = refl

lines_need : (xs : List (ℕ × Line)) → reserve_left (orders_of xs) ≡ reserve_of xs
unfolding reserve_left
lines_need [] = refl
lines_need (x ∷ xs) =
    ap (λ r. with_room r (reserve_left (orders_of xs))) (line_needs x.1 x.0)
    ∙ ap (with_room (needs_line x.1)) (lines_need xs)

line_fits : (can : Cmd → Type 0) (l : Line) (n : ℕ) → IsFitLine l → KindOfLine can l → FitsLeft can (left_of l n)
line_fits can (lines.Command cmd) n fit only = (fit, only)
line_fits can _ n fit only = tt

all_fit : (can : Cmd → Type 0) (xs : List (ℕ × Line)) → AllByRecursion (λ x. IsFitLine x.1) xs
    → AllByRecursion (λ x. KindOfLine can x.1) xs → AllByRecursion (FitsLeft can) (orders_of xs)
all_fit can [] fit only = tt
all_fit can (x ∷ xs) fit only = (line_fits can x.1 x.0 fit.0 only.0, all_fit can xs fit.1 only.1)

module _ (s : Script) (v : Inlet) (k : ℕ) (at : IsInwardAt s v k) where
  abbrev w : World
  w = (moment s k).world

  abbrev can : Cmd → Type 0
  can = CanBeInward (sides_of s) (spots_of s) v

  -- who isn't in time at moment k
  abbrev timely_now : ℕ → Bool
  timely_now = renewed at.inward.standing at.timely

  now_inward : HasInward (fixed_of s) (sides_of s) (spots_of s) v (renewed at.inward.standing at.timely) (puts_at s k) (moment s k).world
  now_inward = renew_inward (fixed_of s) (sides_of s) (spots_of s) v at.timely (puts_at s k) w at.inward

  still_late : (n : ℕ) → renewed at.inward.standing at.timely n ≡ false → IsLateSince s n (suc k)
  still_late n off =
      let was = late_before (fixed_of s) (sides_of s) at.inward.standing at.inward.lines at.inward.heads w at.inward.piped n at.timely off in
      waits_on k (at.late n was.0) was.1

  -- what the next moment has
  record Next (p : OrderedWorld) (puts : ℕ → List ℕ) : Type 0 where
    timely : ℕ → Bool
    inward : HasInward (fixed_of s) (sides_of s) (spots_of s) v timely puts p.world
    late : (n : ℕ) → timely n ≡ false → p.world ≡ (moment s (suc k)).world → IsLateSince s n (suc k)
    room : HasRoomFor p.world.driver.room (reserve_left p.orders)
    fits : AllByRecursion (FitsLeft (CanBeInward (sides_of s) (spots_of s) v)) p.orders

  module _ (spared : IsSpared v (wired (fixed_of s) (moment s k).world))
      (finds : WorldFindsNoneTold (wired (fixed_of s) (moment s k).world) (moment s k).world) (completes : CompletesInTime s v k)
      (results : (h : HeldQueue) → IsCompletingLast (moment s k).world h
      → key_started h.copy.queue_head ≡ told_key kinds.Interrupt Directions.In (asked_as v.desc) → (i place : ℕ)
      → HasResult (key_started h.copy.queue_head) i place (wired (fixed_of s) (moment s k).world)) where
    asks : WorldAsksInTime v at.timely (wired (fixed_of s) (moment s k).world) (moment s k).world
    asks periodic h last key = (by (at.timely h.copy.at) refl (completes periodic h last key), results h last key v.hub v.place)
      where
        by : (b : Bool) → at.timely h.copy.at ≡ b → (IsLateSince s h.copy.at k → ⊥) → at.timely h.copy.at ≡ true
        by true on never = on
        by false off never = absurd (never (at.late h.copy.at off))

    ends : (x : Left) (rest : List Left) → needs_left x ≡ no_room → HasRoomFor (moment s k).world.driver.room (reserve_left (x ∷ rest))
        → AllByRecursion (FitsLeft (CanBeInward (sides_of s) (spots_of s) v)) (x ∷ rest)
        → Next (record { world = (moment s k).world; orders = rest }) (puts_at s k)
    unfolding reserve_left
    ends x rest none room fits = record {
      timely = timely_now;
      inward = now_inward;
      late = λ n off same. still_late n off;
      room = rest_room w.driver.room (reserve_left rest)
          (subst (λ r. HasRoomFor w.driver.room (with_room r (reserve_left rest))) none room);
      fits = fits.1;
    }

    goes_by : (event : Event) (x y : Left) (rest : List Left) → needs_left x ≡ no_room → needs_left y ≡ no_room
        → FitsLeft (CanBeInward (sides_of s) (spots_of s) v) y
        → HasRoomFor (moment s k).world.driver.room (reserve_left (x ∷ rest))
        → AllByRecursion (FitsLeft (CanBeInward (sides_of s) (spots_of s) v)) (x ∷ rest)
        → Next (record { world = next (fixed_of s) (moment s k).world event; orders = y ∷ rest }) (puts_at s k)
    unfolding reserve_left
    goes_by event x y rest one two fit room fits = by event
      where
        room_then : (e : Event) → HasRoomFor (next (fixed_of s) (moment s k).world e).driver.room
            (with_room (needs_left y) (reserve_left rest))
        room_then e =
            subst (λ r. HasRoomFor r (with_room (needs_left y) (reserve_left rest))) (sym (next_room (fixed_of s) w e))
            (subst (λ r. HasRoomFor w.driver.room (with_room r (reserve_left rest))) (one ∙ sym two) room)

        by : (e : Event) → Next (record { world = next (fixed_of s) (moment s k).world e; orders = y ∷ rest }) (puts_at s k)
        by events.D = record {
          timely = timely_now;
          inward = driver_keeps_inward (fixed_of s) (sides_of s) (spots_of s) v timely_now (puts_at s k) w now_inward;
          late = λ n off same. still_late n off;
          room = room_then events.D;
          fits = (fit, fits.1);
        }
        by events.C =
            let z = controller_keeps_inward (fixed_of s) (sides_of s) (spots_of s) v at.timely (puts_at s k) w spared finds asks
            at.inward in
            record {
              timely = z.later;
              inward = z.inward;
              late = λ n off same. by_late n (z.told n off) (sym same);
              room = room_then events.C;
              fits = (fit, fits.1);
            }
          where
            by_late : (n : ℕ) → IsLateBy (fixed_of s) (sides_of s) (moment s k).world at.timely n
                → (moment s (suc k)).world ≡ controller_next (fixed_of s) (moment s k).world → IsLateSince s n (suc k)
            by_late n (now frame) same = begins k same frame
            by_late n (before off waits) same = waits_on k (at.late n off) waits

    command_by : (n : ℕ) (cmd : Cmd) (rest : List Left) → HasRoomFor (moment s k).world.driver.room (reserve_left (Command n cmd ∷ rest))
        → AllByRecursion (FitsLeft (CanBeInward (sides_of s) (spots_of s) v)) (Command n cmd ∷ rest)
        → Next (record { world = commanded (moment s k).world n cmd; orders = rest })
        (puts_then (moment s k).world.driver cmd (puts_at s k))
    unfolding reserve_left
    command_by n cmd rest room fits =
        let c = fits.0.1 in
        record {
          timely = timely_now;
          inward = command_keeps_inward (fixed_of s) (sides_of s) (spots_of s) v timely_now (puts_at s k) w n cmd c.0.0.0.0 c.0.0.0.1 c.0.1
              c.1 c.0.0.1
              (can_offer w.driver.room cmd fits.0.0 (less_room w.driver.room (needs cmd) (reserve_left rest) room)) now_inward;
          late = λ m off same. still_late m off;
          room = command_leaves w n cmd (reserve_left rest) fits.0.0 room;
          fits = fits.1;
        }

    by_orders : (orders : List Left) → HasRoomFor (moment s k).world.driver.room (reserve_left orders)
        → AllByRecursion (FitsLeft (CanBeInward (sides_of s) (spots_of s) v)) orders
        → Next (tick_at (fixed_of s) (moment s k).world orders) (puts_next (moment s k).world orders (puts_at s k))
    by_orders [] room fits = record {
      timely = timely_now;
      inward = now_inward;
      late = λ n off same. still_late n off;
      room = room;
      fits = fits;
    }
    by_orders (Events event zero ∷ rest) room fits = ends (Events event zero) rest refl room fits
    by_orders (Events event (suc n) ∷ rest) room fits =
        goes_by event (Events event (suc n)) (Events event n) rest refl refl tt room fits
    by_orders (Microframes zero ∷ rest) room fits = ends (Microframes zero) rest refl room fits
    by_orders (Microframes (suc n) ∷ rest) room fits =
        goes_by events.C (Microframes (suc n)) (Answer _ (suc n)) rest refl refl tt room fits
    by_orders (Answer ended n ∷ rest) room fits =
        goes_by events.D (Answer ended n) (Microframes (fewer ended n)) rest refl refl tt room fits
    by_orders (Command n cmd ∷ rest) room fits = command_by n cmd rest room fits
    by_orders (Plugs there port ∷ rest) room fits = ends (Plugs there port) rest refl room fits

-- ---- each moment

record IsReadyAt (s : Script) (v : Inlet) (k : ℕ) : Type 0 where
  at : IsInwardAt s v k
  room : HasRoomFor (moment s k).world.driver.room (reserve_left (moment s k).orders)
  fits : AllByRecursion (FitsLeft (CanBeInward (sides_of s) (spots_of s) v)) (moment s k).orders

module _ (text : List ℕ) (s : Script) (x : EpDesc) (spelled : Spells text s) (is : IsInletOf s x) where
  abbrev v : Inlet
  v = inlet_of s x

  its : HasItsInlet s (inlet_of s x)
  its = texts_open_inlets text s x spelled is

  spots : OpensSpots s × OpensUnsent s
  spots = texts_open_spots text s spelled

  only : AllByRecursion (λ line. KindOfLine (CanBeInward (sides_of s) (spots_of s) (inlet_of s x)) line.1) s.lines
  only =
      let fits = lines_fit s.lines (texts_fit text s spelled) (texts_open_fitting text s spelled) in
      kinds_both (CanBeBehind (sides_of s) (spots_of s)) (OpensInlet v) s.lines
      (kinds_both (CanBePaid (sides_of s)) (OpensSpot (spots_of s)) s.lines
      (lines_paid (sides_of s) s.lines (lines_both (sides_of s) s.lines (lines_can s.lines fits) (texts_declare text s spelled))
      (a_text_spells_bytes text s spelled).lines) spots.0) its.opens

  first : IsReadyAt s (inlet_of s x) 0
  unfolding ticks puts_at
  first = record {
    at = record {
      timely = λ n. true;
      inward = new_world_is_inward s x (spelled_fits text s spelled) (a_text_spells_bytes text s spelled) spots.1 is its;
      late = λ n off. absurd (true≢false off);
    };
    room = subst (HasRoomFor (opening_world s).driver.room) (sym (lines_need s.lines)) (room_of_all s);
    fits = all_fit (CanBeInward (sides_of s) (spots_of s) v) s.lines (spelled_fits text s spelled).lines only;
  }

  ready : (k : ℕ) → ((j : ℕ) → j < k → IsSpared (inlet_of s x) (wired (fixed_of s) (moment s j).world))
      → ((j : ℕ) → j < k → CompletesInTime s (inlet_of s x) j) → IsReadyAt s (inlet_of s x) k
  unfolding ticks puts_at
  ready zero spared completes = first
  ready (suc k) spared completes =
      let r = ready k (λ j low. spared j (omega (arith, low))) (λ j low. completes j (omega (arith, low))) in
      let n : Next s v k r.at (tick (fixed_of s) (moment s k)) (puts_tick (moment s k) (puts_at s k)) =
      by_orders s v k r.at (spared k (omega arith)) (texts_find_none_told text s spelled k) (completes k (omega arith))
      (λ h last key i place. texts_have_results text s x spelled k h last key i place) (moment s k).orders
      r.room r.fits in
      let p : Next s v k r.at (moment s (suc k)) (puts_tick (moment s k) (puts_at s k)) =
      subst (λ (p : OrderedWorld). Next s v k r.at p (puts_tick (moment s k) (puts_at s k))) (sym (next_moment s k)) n in
      record {
        at = record { timely = p.timely; inward = p.inward; late = λ m off. p.late m off refl };
        room = p.room;
        fits = p.fits;
      }

pub texts_are_inward : TextsAreInward
texts_are_inward text s x spelled is k spared completes = (ready text s x spelled is k spared completes).at
