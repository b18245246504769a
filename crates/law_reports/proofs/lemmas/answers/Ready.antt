-- What holds at each moment of a run: the driver's lists are in order and nothing is forgotten, each endpoint has the number of its next
-- packet, and what is
-- still ordered is in its ranges.
use Rattle.std.proofs.Common.{◌≡◌, ℕ, zero, suc, Bool, true, false, List, [], ◌∷◌, length, Option, Some, None, Result, Ok, Err, refl, subst, ◌∙◌}
use Rattle.std.specs.List.{AllByRecursion}
use Rattle.std.proofs.lemmas.List.{length-set}
use Rattle.std.proofs.lemmas.List.{length-replicate}
use Rattle.usb_base.specs.declared.commands.Cmd.{Cmd}
use Rattle.usb_base.specs.declared.commands.Cmd.TheVariants as commands
use Rattle.usb_base.specs.declared.endpoints.EpName.{EpName}
use Rattle.usb_base.specs.declared.packets.Ask.{Ask}
use Rattle.usb_base.specs.declared.reports.OfferError.{OfferError}
use Rattle.script_types.specs.declared.scripts.Event.{Event}
use Rattle.script_types.specs.declared.scripts.Event.TheVariants as events
use Rattle.script_types.specs.declared.scripts.Line.{Line}
use Rattle.script_types.specs.declared.scripts.Line.TheVariants as lines
use Rattle.script_types.specs.declared.scripts.Script.{Script}
use Rattle.script_fits.specs.Fits.{IsFit, IsFitCommand, IsFitLine}
use Rattle.hc_copy.specs.Buffer.{sending}
use Rattle.hc_copy.specs.declared.held.Held.{Held}
use Rattle.hc_copy.specs.declared.held.Transaction.{Transaction}
use Rattle.hc_copy.specs.Transacting.{call_in}
use Rattle.async_walk.specs.Rows.{WalkPlace, at_event, event_row}
use Rattle.async_walk.specs.declared.rows.WalkRow.{WalkRow}
use Rattle.async_walk.specs.declared.rows.WalkRow.TheVariants as walks
use Rattle.periodic_walk.specs.Place.{Effect}
use Rattle.periodic_walk.specs.Place.Effect.{Leaves, Asks}
use Rattle.periodic_walk.specs.Rows.{effect_of}
use Rattle.hc_core.specs.Controller.{Content, entered, frame_place, walk_place}
use Rattle.hc_core.specs.declared.controller.ControllerRow.{ControllerRow}
use Rattle.hc_core.specs.declared.controller.ControllerRow.TheVariants as rows
use Rattle.drv_table.specs.Accepting.{Offered}
use Rattle.drv_table.specs.Offers.{offered}
use Rattle.bus_wire.specs.declared.asked.Asked.{Asked}
use Rattle.bus_wire.specs.Bus.{Bus, Fixed, fixed_of, asked_of, after_at}
use Rattle.bus_wire.specs.Seats.{seats_of}
use Rattle.bus_world.specs.Budgets.{moment}
use Rattle.bus_world.specs.Opening.{opening_world}
use Rattle.bus_world.specs.Orders.{Left, Events, Microframes, Answer, Command, Plugs, OrderedWorld, at_place, left_of, orders_of, tick, tick_by, tick_at, ticks}
use Rattle.bus_world.specs.Rooms.{room_of_script}
use Rattle.bus_world.specs.World.{World, frame_by, sent_by, sends_by, walk_by, turned_by, controller_row, controller_parts, driver_parts, next, commanded, commanded_by, name_in}
use Rattle.claims_driver.specs.Leaving.{IsOrderly}
use Rattle.law_driver.proofs.lemmas.run_owners.Commands.{each_command_has_its_reason}
use Rattle.law_driver.proofs.lemmas.run_owners.Ordered.{accepted_orderly}
use Rattle.law_driver.proofs.lemmas.run_owners.Opened.{opening_has_owners}
use Rattle.law_driver.proofs.lemmas.run_owners.Rows.{row_orderly}
use Rattle.law_resting.specs.Counted.{HasSome, IsCounted}
use Rattle.law_resting.specs.Making.{IsMaking}
use Rattle.law_resting.proofs.Commands.{commands_keep_counts, new_driver_is_counted}
use Rattle.law_resting.proofs.Events.{events_keep_counts}
use Rattle.law_resting.specs.Storing.{IsStoring}
use Rattle.law_resting.proofs.Making.{new_driver_is_making, events_keep_making, commands_keep_making}
use Rattle.law_resting.proofs.Storing.{a_new_driver_is_storing, events_keep_storing, commands_keep_storing}

-- ---- the numbers of packets

abbrev pub HasNumbers : ℕ → Bus → Type 0
HasNumbers n b = length b.high ≡ n

module _ (fixed : Fixed) (n : ℕ) where
  asked_numbers : (b : Bus) (ask : Ask) (out : List ℕ) (o : Option Asked) → HasNumbers n b → HasNumbers n (after_at fixed b ask out o)
  asked_numbers b ask out None old = old
  asked_numbers b ask out (Some e) old = length-set b.high e.place _ ∙ old

  frame_numbers : (b : Bus) (e : Effect) → HasNumbers n b → HasNumbers n (frame_by fixed e b).bus
  frame_numbers b (Leaves p) old = old
  frame_numbers b (Asks ask out left_by) old = asked_numbers b ask out (asked_of fixed b ask) old

  sent_numbers : (b : Bus) (all : Bool) (t : Transaction) (h : Held) (bytes : List ℕ) (p : WalkPlace) → HasNumbers n b
      → HasNumbers n (sent_by fixed all t h bytes p b).bus
  sent_numbers b true t h bytes p old =
      asked_numbers b (call_in t bytes false).ask (call_in t bytes false).out (asked_of fixed b (call_in t bytes false).ask) old
  sent_numbers b false t h bytes p old = old

  held_numbers : (b : Bus) (t : Transaction) (p : WalkPlace) (o : Option Held) → HasNumbers n b → HasNumbers n (sends_by fixed t p o b).bus
  held_numbers b t p None old = old
  held_numbers b t p (Some h) old =
      sent_numbers b (sending t h.queue_head p.memory).all t h (sending t h.queue_head p.memory).bytes
      (record p { memory = (sending t h.queue_head p.memory).memory }) old

  walk_numbers : (b : Bus) (row : WalkRow) (p : WalkPlace) → HasNumbers n b → HasNumbers n (walk_by fixed row p b).bus
  walk_numbers b (walks.Transact t) p old = held_numbers b t p p.walk.held old
  walk_numbers b _ p old = old

  turned_numbers : (row : ControllerRow) (c : Content) (b : Bus) → HasNumbers n b → HasNumbers n (turned_by fixed row c b).bus
  turned_numbers rows.Idle c b old = old
  turned_numbers rows.Begin c b old = old
  turned_numbers rows.Frame c b old = frame_numbers b (effect_of (frame_place c)) old
  turned_numbers rows.Enter c b old = walk_numbers b (event_row (walk_place (entered c))) (at_event (walk_place (entered c))) old
  turned_numbers rows.Go c b old = walk_numbers b (event_row (walk_place c)) (at_event (walk_place c)) old
  turned_numbers rows.End c b old = old

-- ---- the whole

pub record IsReady (n : ℕ) (w : World) : Type 0 where
  pub order : IsOrderly w.driver
  pub counted : IsCounted w.driver
  pub making : IsMaking w.driver
  pub storing : IsStoring w.driver
  pub numbers : HasNumbers n w.bus

next_ready : (fixed : Fixed) (n : ℕ) (w : World) (event : Event) → IsReady n w → IsReady n (next fixed w event)
next_ready fixed n w events.D old = record {
  order = row_orderly (driver_parts w) old.order;
  counted = events_keep_counts (driver_parts w) old.order old.counted;
  making = events_keep_making (driver_parts w) old.making;
  storing = events_keep_storing (driver_parts w) old.storing;
  numbers = old.numbers;
}
next_ready fixed n w events.C old = record {
  order = old.order;
  counted = old.counted;
  making = old.making;
  storing = old.storing;
  numbers = turned_numbers fixed n (controller_row w) (controller_parts w) w.bus old.numbers;
}

some_of : (cmd : Cmd) → IsFitCommand cmd → HasSome cmd
some_of (commands.Iso name count len seed) fit = fit
some_of (commands.OpenEp x) fit = tt
some_of (commands.Get name len by) fit = tt
some_of (commands.Put name bytes by) fit = tt
some_of (commands.Control name setup bytes) fit = tt
some_of (commands.Cancel name) fit = tt
some_of (commands.Clear name) fit = tt
some_of (commands.Reset port) fit = tt
some_of (commands.Give port) fit = tt
some_of (commands.DiskRead addr lba count) fit = tt
some_of (commands.DiskWrite addr lba bytes) fit = tt
some_of (commands.Revive addr) fit = tt

answered_ready : (n : ℕ) (w : World) (line : ℕ) (name : EpName) (cmd : Cmd) (r : Result Offered OfferError) → IsFitCommand cmd → IsReady n w
    → offered w.driver w.memory cmd ≡ r
    → IsReady n (commanded_by w line name r)
answered_ready n w line name cmd (Ok o) fit old is = record {
  order = accepted_orderly w.driver w.memory o (each_command_has_its_reason w.driver w.memory cmd o is) old.order;
  counted = commands_keep_counts w.driver w.memory cmd o old.order old.counted (some_of cmd fit) is;
  making = commands_keep_making w.driver w.memory cmd o is;
  storing = commands_keep_storing w.driver w.memory cmd o old.storing is;
  numbers = old.numbers;
}
answered_ready n w line name cmd (Err why) fit old is = record {
  order = old.order;
  counted = record { counts = old.counted.counts; kinds = old.counted.kinds; bell = old.counted.bell };
  making = old.making;
  storing = old.storing;
  numbers = old.numbers;
}

command_ready : (n : ℕ) (w : World) (line : ℕ) (cmd : Cmd) → IsFitCommand cmd → IsReady n w → IsReady n (commanded w line cmd)
command_ready n w line cmd fit old = answered_ready n w line (name_in cmd) cmd (offered w.driver w.memory cmd) fit old refl

-- ---- what is left of the orders

abbrev FitsLeft : Left → Type 0
FitsLeft (Events event n) = Unit {0}
FitsLeft (Microframes n) = Unit {0}
FitsLeft (Answer ended n) = Unit {0}
FitsLeft (Command n cmd) = IsFitCommand cmd
FitsLeft (Plugs there port) = Unit {0}

record IsReadyAt (n : ℕ) (p : OrderedWorld) : Type 0 where
  ready : IsReady n p.world
  fits : AllByRecursion FitsLeft p.orders

by_ready : (fixed : Fixed) (n : ℕ) (w : World) (x : Left) (rest : List Left) → IsReady n w → AllByRecursion FitsLeft (x ∷ rest)
    → IsReadyAt n (tick_by fixed w x rest)
by_ready fixed n w (Events event zero) rest old fits = record { ready = old; fits = fits.1 }
by_ready fixed n w (Events event (suc i)) rest old fits = record { ready = next_ready fixed n w event old; fits = (tt, fits.1) }
by_ready fixed n w (Microframes zero) rest old fits = record { ready = old; fits = fits.1 }
by_ready fixed n w (Microframes (suc i)) rest old fits = record { ready = next_ready fixed n w events.C old; fits = (tt, fits.1) }
by_ready fixed n w (Answer ended i) rest old fits = record { ready = next_ready fixed n w events.D old; fits = (tt, fits.1) }
by_ready fixed n w (Command line cmd) rest old fits = record { ready = command_ready n w line cmd fits.0 old; fits = fits.1 }
by_ready fixed n w (Plugs there port) rest old fits = record { ready = old; fits = fits.1 }

at_ready : (fixed : Fixed) (n : ℕ) (w : World) (orders : List Left) → IsReady n w → AllByRecursion FitsLeft orders
    → IsReadyAt n (tick_at fixed w orders)
at_ready fixed n w [] old fits = record { ready = old; fits = tt }
at_ready fixed n w (x ∷ rest) old fits = by_ready fixed n w x rest old fits

all_ready : (fixed : Fixed) (n : ℕ) (p : OrderedWorld) (k : ℕ) → IsReadyAt n p → IsReadyAt n (ticks fixed p k)
unfolding ticks
all_ready fixed n p zero old = old
all_ready fixed n p (suc k) old = all_ready fixed n (tick fixed p) k (at_ready fixed n p.world p.orders old.ready old.fits)

-- ---- the lines of a script

line_fits : (l : Line) (n : ℕ) → IsFitLine l → FitsLeft (left_of l n)
line_fits (lines.Command cmd) n h = h
line_fits _ n h = tt

lines_fit : (xs : List (ℕ × Line)) → AllByRecursion (λ x. IsFitLine x.1) xs → AllByRecursion FitsLeft (orders_of xs)
lines_fit [] h = tt
lines_fit (x ∷ xs) h = (line_fits x.1 x.0 h.0, lines_fit xs h.1)

script_ready_at : (s : Script) → IsFit s → (k : ℕ) → IsReadyAt (length (seats_of s)) (moment s k)
script_ready_at s fit k =
    all_ready (fixed_of s) (length (seats_of s)) (at_place (opening_world s) (orders_of s.lines)) k
    (record {
      ready = record {
        order = (opening_has_owners s.words (room_of_script s) fit.least).orderly;
        counted = new_driver_is_counted s.words (room_of_script s);
        making = new_driver_is_making s.words (room_of_script s);
        storing = a_new_driver_is_storing s.words (room_of_script s);
        numbers = length-replicate (length (seats_of s)) 0;
      };
      fits = lines_fit s.lines fit.lines;
    })

pub script_ready : (s : Script) → IsFit s → (k : ℕ) → IsReady (length (seats_of s)) (moment s k).world
script_ready s fit k = (script_ready_at s fit k).ready

-- a command that comes next is in its ranges
pub script_fits_next : (s : Script) → IsFit s → (k n : ℕ) (cmd : Cmd) (rest : List Left) → (moment s k).orders ≡ Command n cmd ∷ rest
    → IsFitCommand cmd
script_fits_next s fit k n cmd rest is = (subst (AllByRecursion FitsLeft) is (script_ready_at s fit k).fits).0
