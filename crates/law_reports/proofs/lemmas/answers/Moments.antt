-- At each moment of a run: commands have their causes, asks are heard, and the driver rests where all is done.
use Rattle.std.proofs.Common.{◌≡◌, ℕ, zero, suc, ◌⊎◌, Bool, true, false, List, [], ◌∷◌, Option, Some, None, Result, Ok, Err, refl, ap, sym, subst, ◌∙◌, inl, inr}
use Rattle.std.specs.Prelude.{if◌then◌else◌}
use Rattle.std.proofs.lemmas.Bool.{false≢true}
use Rattle.std.proofs.lemmas.Option.{same_Some}
use Rattle.usb_base.specs.declared.commands.Cmd.{Cmd}
use Rattle.usb_base.specs.declared.commands.Cmd.TheVariants as commands
use Rattle.usb_base.specs.declared.reports.OfferError.{OfferError}
use Rattle.script_types.specs.declared.scripts.Event.TheVariants as events
use Rattle.script_types.specs.declared.scripts.Script.{Script}
use Rattle.script_fits.specs.Fits.{IsFit, IsFitCommand}
use Rattle.word_mem.specs.Memory.{Mem}
use Rattle.hc_copy.specs.Buffer.{sending}
use Rattle.hc_copy.specs.declared.held.Held.{Held}
use Rattle.hc_copy.specs.declared.held.Transaction.{Transaction}
use Rattle.async_walk.specs.Rows.{WalkPlace, at_event, event_row}
use Rattle.async_walk.specs.declared.rows.WalkRow.{WalkRow}
use Rattle.async_walk.specs.declared.rows.WalkRow.TheVariants as walks
use Rattle.periodic_walk.specs.Place.{Effect}
use Rattle.periodic_walk.specs.Place.Effect.{Leaves, Asks}
use Rattle.periodic_walk.specs.Rows.{effect_of}
use Rattle.hc_core.specs.Controller.{Content, entered, frame_place, walk_place}
use Rattle.hc_core.specs.declared.controller.ControllerRow.{ControllerRow}
use Rattle.hc_core.specs.declared.controller.ControllerRow.TheVariants as rows
use Rattle.drv_table.specs.Accepting.{Offered}
use Rattle.drv_table.specs.DriverContent.{DriverContent}
use Rattle.drv_table.specs.Offers.{offered}
use Rattle.bus_wire.specs.Bus.{Fixed, fixed_of, reply_of, transact_after}
use Rattle.bus_world.specs.Budgets.{moment}
use Rattle.bus_world.specs.Opening.{opening_world}
use Rattle.bus_world.specs.Orders.{Left, Events, Microframes, Answer, Command, OrderedWorld, at_place, orders_of, tick, tick_at, ticks}
use Rattle.bus_world.specs.World.{World, frame_by, sent_by, sends_by, walk_by, turned_by, framed, walked, with_turned, controller_row, controller_parts, controller_next, driver_next, driver_parts, commanded, commanded_by, name_in}
use Rattle.bus_world.proofs.Budgeted.{script_admits}
use Rattle.law_footprints.proofs.Accepted.{accept_frame}
use Rattle.law_footprints.specs.Footprint.{offer_footprint}
use Rattle.law_answers.specs.RefusalLaws.{PlansExactly, IsAnswered}
use Rattle.law_answers.proofs.Causes.{commands_are_answered}
use Rattle.law_hearing.proofs.Heard.{asks_are_heard}
use Rattle.law_hearing.proofs.HeardBelow.{asks_are_heard_below}
use Rattle.law_world.specs.memory.Mixed.{IsMixedWorld}
use Rattle.law_world.proofs.lemmas.memory.lemmas.owned_blocks.Worlds.{each_moment_owns_its_blocks}
use Rattle.law_resting.proofs.Resting.{drivers_rest_when_done}
use Rattle.law_resting.proofs.Turns.{drivers_take_turns}
use Rattle.law_telling.proofs.Lines.{drivers_tell_for_reasons}
use Rattle.law_telling.proofs.Passing.{events_keep_transfers}
use Rattle.claims_world.specs.Owned.{OwnsItsBlocks}
use Rattle.claims_world.specs.Releases.{is_drivers}
use Rattle.claims_world.specs.Told.{WritesForReasons, ReadsRightly, LinesHaveReasons}
use Rattle.claims_world.specs.Heard.{Asking, frame_asking, sent_asking, held_asking, walk_asking, asking_by, is_controllers, HearsRightly, HearsThroughout}
use Rattle.claims_world.specs.Refused.{IsRefused, IsAccepted, CommandsHaveCauses}
use Rattle.claims_world.specs.Rests.{WorksOn, RestsThroughout}
use Rattle.law_reports.proofs.lemmas.answers.Adding.{commands_add_what_they_ask}
use Rattle.law_reports.proofs.lemmas.answers.Seated.{bus_has_endpoints}
use Rattle.law_reports.proofs.lemmas.answers.Ready.{script_ready, script_fits_next}

-- ---- the next moment

last_tick : (fixed : Fixed) (p : OrderedWorld) (k : ℕ) → ticks fixed p (suc k) ≡ tick fixed (ticks fixed p k)
unfolding ticks
last_tick fixed p zero = refl
last_tick fixed p (suc k) = last_tick fixed (tick fixed p) k

pub next_moment : (s : Script) (k : ℕ) → moment s (suc k) ≡ tick (fixed_of s) (moment s k)
next_moment s k = last_tick (fixed_of s) (at_place (opening_world s) (orders_of s.lines)) k

-- ---- commands

untold : (cmd : Cmd) → (offer_footprint cmd).reports ≡ false
untold (commands.OpenEp x) = refl
untold (commands.Get name len by) = refl
untold (commands.Put name bytes by) = refl
untold (commands.Control name setup bytes) = refl
untold (commands.Iso name count len seed) = refl
untold (commands.Cancel name) = refl
untold (commands.Clear name) = refl
untold (commands.Reset port) = refl
untold (commands.Give port) = refl
untold (commands.DiskRead addr lba count) = refl
untold (commands.DiskWrite addr lba bytes) = refl
untold (commands.Revive addr) = refl

same_reports : (d : DriverContent) (m : Mem) (cmd : Cmd) (o : Offered) → offered d m cmd ≡ Ok o → o.driver.reports ≡ d.reports
same_reports d m cmd o is =
    ap (λ (f : DriverContent). f.reports) (accept_frame d m cmd o is)
    ∙ ap (λ (b : Bool). if b then o.driver.reports else d.reports) (untold cmd)

by_answer : (w : World) (n : ℕ) (cmd : Cmd) (r : Result Offered OfferError) → OwnsItsBlocks w → IsFitCommand cmd
    → offered w.driver w.memory cmd ≡ r → IsAnswered w.driver w.memory cmd r
    → IsRefused w n cmd (commanded_by w n (name_in cmd) r) ⊎ IsAccepted w cmd (commanded_by w n (name_in cmd) r)
by_answer w n cmd (Err why) owns fit is cause = inl (record { why = why; cause = cause; told = refl })
by_answer w n cmd (Ok o) owns fit is causes = inr (record {
  causes = causes;
  untold = same_reports w.driver w.memory cmd o is;
  added = commands_add_what_they_ask w.driver w.memory cmd o owns.owners owns.stands fit is;
})

plans : (s : Script) → IsFit s → (k n : ℕ) (cmd : Cmd) (rest : List Left) → (moment s k).orders ≡ Command n cmd ∷ rest
    → PlansExactly (moment s k).world.driver (moment s k).world.memory cmd
plans s fit k n cmd rest is x cmd_is passes =
    (script_admits s fit k).refused n x rest (is ∙ ap (λ (c : Cmd). Command n c ∷ rest) cmd_is) passes

pub script_has_causes : (s : Script) → IsFit s → CommandsHaveCauses s
script_has_causes s fit k n cmd rest is =
    let w = (moment s k).world in
    let new : (moment s (suc k)).world ≡ commanded w n cmd =
    ap (λ (p : OrderedWorld). p.world) (next_moment s k) ∙ ap (λ (os : List Left). (tick_at (fixed_of s) w os).world) is in
    subst (λ (v : World). IsRefused w n cmd v ⊎ IsAccepted w cmd v) (sym new)
    (by_answer w n cmd (offered w.driver w.memory cmd) (each_moment_owns_its_blocks s fit k) (script_fits_next s fit k n cmd rest is) refl
    (commands_are_answered w.driver w.memory cmd (plans s fit k n cmd rest is)))

-- ---- what is heard

module _ (fixed : Fixed) (w : World) where
  abbrev Goes : Asking → World → Type 0
  Goes a new = new ≡ a.onward (reply_of fixed w.bus a.ask a.out) (transact_after fixed w.bus a.ask a.out)

  module _ (a : Asking) where
    none_some : ◌≡◌ {A = Option Asking} None (Some a) → ⊥
    none_some is = cc

    frame_goes : (c : Content) (e : Effect) → frame_asking w c e ≡ Some a → Goes a (with_turned w (framed c (frame_by fixed e w.bus)))
    frame_goes c (Leaves p) is = absurd (none_some is)
    frame_goes c (Asks ask out left_by) is =
        subst (λ (b : Asking). Goes b (with_turned w (framed c (frame_by fixed (Asks ask out left_by) w.bus)))) (same_Some _ a is) refl

    sent_goes : (c : Content) (all : Bool) (t : Transaction) (h : Held) (bytes : List ℕ) (p : WalkPlace)
        → sent_asking w c all t h bytes p ≡ Some a
        → Goes a (with_turned w (walked c (sent_by fixed all t h bytes p w.bus)))
    sent_goes c true t h bytes p is =
        subst (λ (b : Asking). Goes b (with_turned w (walked c (sent_by fixed true t h bytes p w.bus)))) (same_Some _ a is) refl
    sent_goes c false t h bytes p is = absurd (none_some is)

    held_goes : (c : Content) (t : Transaction) (p : WalkPlace) (o : Option Held) → held_asking w c t p o ≡ Some a
        → Goes a (with_turned w (walked c (sends_by fixed t p o w.bus)))
    held_goes c t p None is = absurd (none_some is)
    held_goes c t p (Some h) is =
        sent_goes c (sending t h.queue_head p.memory).all t h (sending t h.queue_head p.memory).bytes
        (record p { memory = (sending t h.queue_head p.memory).memory }) is

    walk_goes : (c : Content) (row : WalkRow) (p : WalkPlace) → walk_asking w c row p ≡ Some a
        → Goes a (with_turned w (walked c (walk_by fixed row p w.bus)))
    walk_goes c (walks.Transact t) p is = held_goes c t p p.walk.held is
    walk_goes c _ p is = absurd (none_some is)

    row_goes : (row : ControllerRow) (c : Content) → asking_by w row c ≡ Some a → Goes a (with_turned w (turned_by fixed row c w.bus))
    row_goes rows.Frame c is = frame_goes c (effect_of (frame_place c)) is
    row_goes rows.Enter c is = walk_goes (entered c) (event_row (walk_place (entered c))) (at_event (walk_place (entered c))) is
    row_goes rows.Go c is = walk_goes c (event_row (walk_place c)) (at_event (walk_place c)) is
    row_goes rows.Idle c is = absurd (none_some is)
    row_goes rows.Begin c is = absurd (none_some is)
    row_goes rows.End c is = absurd (none_some is)

  some_none : (a : Asking) → ◌≡◌ {A = Option Asking} (Some a) None → ⊥
  some_none a is = cc

  frame_quiet : (c : Content) (e : Effect) → frame_asking w c e ≡ None → (frame_by fixed e w.bus).bus ≡ w.bus
  frame_quiet c (Leaves p) is = refl
  frame_quiet c (Asks ask out left_by) is = absurd (some_none _ is)

  sent_quiet : (c : Content) (all : Bool) (t : Transaction) (h : Held) (bytes : List ℕ) (p : WalkPlace)
      → sent_asking w c all t h bytes p ≡ None → (sent_by fixed all t h bytes p w.bus).bus ≡ w.bus
  sent_quiet c true t h bytes p is = absurd (some_none _ is)
  sent_quiet c false t h bytes p is = refl

  held_quiet : (c : Content) (t : Transaction) (p : WalkPlace) (o : Option Held) → held_asking w c t p o ≡ None
      → (sends_by fixed t p o w.bus).bus ≡ w.bus
  held_quiet c t p None is = refl
  held_quiet c t p (Some h) is =
      sent_quiet c (sending t h.queue_head p.memory).all t h (sending t h.queue_head p.memory).bytes
      (record p { memory = (sending t h.queue_head p.memory).memory }) is

  walk_quiet : (c : Content) (row : WalkRow) (p : WalkPlace) → walk_asking w c row p ≡ None → (walk_by fixed row p w.bus).bus ≡ w.bus
  walk_quiet c (walks.Transact t) p is = held_quiet c t p p.walk.held is
  walk_quiet c _ p is = refl

  row_quiet : (row : ControllerRow) (c : Content) → asking_by w row c ≡ None → (row ≡ rows.Begin → ⊥)
      → (turned_by fixed row c w.bus).bus ≡ w.bus
  row_quiet rows.Frame c is other = frame_quiet c (effect_of (frame_place c)) is
  row_quiet rows.Enter c is other = walk_quiet (entered c) (event_row (walk_place (entered c))) (at_event (walk_place (entered c))) is
  row_quiet rows.Go c is other = walk_quiet c (event_row (walk_place c)) (at_event (walk_place c)) is
  row_quiet rows.Idle c is other = refl
  row_quiet rows.Begin c is other = absurd (other refl)
  row_quiet rows.End c is other = refl

-- an event of the controller comes next
controllers_next : (fixed : Fixed) (w : World) (orders : List Left) → is_controllers orders ≡ true
    → (tick_at fixed w orders).world ≡ controller_next fixed w
controllers_next fixed w [] is = absurd (false≢true is)
controllers_next fixed w (Events events.C (suc n) ∷ rest) is = refl
controllers_next fixed w (Microframes (suc n) ∷ rest) is = refl
controllers_next fixed w (_ ∷ rest) is = absurd (false≢true is)

hears : (s : Script) → IsFit s → (k : ℕ) → is_controllers (moment s k).orders ≡ true → HearsRightly s k
hears s fit k turn =
    let w = (moment s k).world in
    let fixed = fixed_of s in
    let new : (moment s (suc k)).world ≡ controller_next fixed w =
    ap (λ (p : OrderedWorld). p.world) (next_moment s k) ∙ controllers_next fixed w (moment s k).orders turn in
    record {
      asks = λ a is. record {
        reply = reply_of fixed w.bus a.ask a.out;
        after = transact_after fixed w.bus a.ask a.out;
        heard = asks_are_heard fixed w.bus a.ask a.out (script_ready s fit k).numbers;
        on = new ∙ row_goes fixed w a (controller_row w) (controller_parts w) is;
      };
      silent = λ is other. ap (λ (v : World). v.bus) new ∙ row_quiet fixed w (controller_row w) (controller_parts w) is other;
      held = refl;
    }

pub script_hears : (s : Script) → IsFit s → HearsThroughout s
script_hears s fit = record {
  fates = refl;
  seats = bus_has_endpoints s;
  each = hears s fit;
  below = λ h floor ask out sizes. asks_are_heard_below (fixed_of s) h floor ask out sizes;
}

-- ---- the driver rests

-- an event of the driver comes next
pub drivers_next : (fixed : Fixed) (w : World) (orders : List Left) → is_drivers orders ≡ true
    → (tick_at fixed w orders).world ≡ driver_next w
drivers_next fixed w [] is = absurd (false≢true is)
drivers_next fixed w (Events events.D (suc n) ∷ rest) is = refl
drivers_next fixed w (Answer ended n ∷ rest) is = refl
drivers_next fixed w (_ ∷ rest) is = absurd (false≢true is)

pub script_rests : (s : Script) → IsFit s → ((k : ℕ) → IsMixedWorld (moment s k).world) → RestsThroughout s
script_rests s fit stay k turn =
    let r = script_ready s fit k in
    let w = (moment s k).world in
    let new : (moment s (suc k)).world ≡ driver_next w =
    ap (λ (p : OrderedWorld). p.world) (next_moment s k) ∙ drivers_next (fixed_of s) w (moment s k).orders turn in
    subst (λ (v : World). WorksOn w v.driver) (sym new) (record {
      rests = drivers_rest_when_done (driver_parts w) r.order r.counted r.making r.storing (stay k).mixed.now.framed.list.list.order;
      turns = drivers_take_turns (driver_parts w) r.order r.counted;
    })

-- ---- its lines

pub script_tells : (s : Script) → IsFit s → LinesHaveReasons s
script_tells s fit = record {
  driver = λ k turn.
      let w = (moment s k).world in
      let new : (moment s (suc k)).world ≡ driver_next w =
      ap (λ (p : OrderedWorld). p.world) (next_moment s k) ∙ drivers_next (fixed_of s) w (moment s k).orders turn in
      subst (λ (v : World). WritesForReasons w v.driver) (sym new) (drivers_tell_for_reasons (driver_parts w));
  kept = λ k turn.
      let w = (moment s k).world in
      let new : (moment s (suc k)).world ≡ driver_next w =
      ap (λ (p : OrderedWorld). p.world) (next_moment s k) ∙ drivers_next (fixed_of s) w (moment s k).orders turn in
      subst (λ (v : World). ReadsRightly w v.driver) (sym new) (events_keep_transfers (driver_parts w));
  controller = λ k turn.
      let w = (moment s k).world in
      ap (λ (p : OrderedWorld). p.world.driver) (next_moment s k) ∙ ap (λ (v : World). v.driver)
      (controllers_next (fixed_of s) w (moment s k).orders turn);
}
