-- What each event of a world, and each command, leaves of what holds of its translators; and so along a run.
use Rattle.std.proofs.Common.{◌≡◌, ℕ, zero, suc, ◌%◌, ◌==◌, Bool, true, false, List, [], ◌∷◌, length, map, replicate, Option, Some, None, Result, Ok, Err, refl, ap, sym, subst, ◌∙◌, inl, inr, if◌then◌else◌}
use Rattle.std.specs.Prelude.{◌&&◌, not, nat_lt}
use Rattle.std.proofs.lemmas.Bool.{cases_Bool, eqb-true, eq-eqb}
use Rattle.usb_base.specs.declared.commands.Cmd.{Cmd}
use Rattle.usb_base.specs.declared.endpoints.EpName.{EpName}
use Rattle.usb_base.specs.declared.packets.Ask.{Ask}
use Rattle.usb_base.specs.declared.reports.OfferError.{OfferError}
use Rattle.script_types.specs.declared.devices.HubText.{HubText}
use Rattle.script_types.specs.declared.scripts.Event.{Event}
use Rattle.script_types.specs.declared.scripts.Event.TheVariants as events
use Rattle.script_types.specs.declared.scripts.Script.{Script}
use Rattle.word_mem.specs.Memory.{Mem, reaches}
use Rattle.op_registers.specs.Events.{after_begin, next_index}
use Rattle.link_words.specs.declared.kinds.Link.{Link}
use Rattle.link_words.specs.declared.kinds.Link.TheVariants as links
use Rattle.link_words.specs.declared.kinds.QtdLink.{QtdLink}
use Rattle.link_words.specs.declared.kinds.QtdLink.TheVariants as qtd_links
use Rattle.qh_qtd.specs.declared.qtd.Qtd.{Qtd}
use Rattle.qh_qtd.specs.declared.queue_head.Qh.{Qh}
use Rattle.mem_queues.specs.Structures.{queue_head_at_address, qtd_at_address}
use Rattle.toggle_error.specs.declared.host.Outcome.{Outcome}
use Rattle.hub_keys.specs.declared.key.Key.{Key}
use Rattle.multi_tt.specs.Translators.{opening as opening_translator}
use Rattle.multi_tt.specs.Single.{is_buffered}
use Rattle.hub_class.specs.HubContent.{HubContent}
use Rattle.hub_class.specs.HubContent as Hubs
use Rattle.hc_copy.specs.declared.held.Held.{Held}
use Rattle.hc_copy.specs.declared.held.Transaction.{Transaction}
use Rattle.hc_copy.specs.declared.held.Visit.{Visit}
use Rattle.hc_copy.specs.declared.held.Visit.TheVariants as visits
use Rattle.hc_copy.specs.Visits.{visit_of}
use Rattle.hc_copy.specs.Buffer.{Reading, sending}
use Rattle.hc_copy.specs.Transacting.{call_in}
use Rattle.async_walk.specs.declared.rows.WalkRow.{WalkRow}
use Rattle.async_walk.specs.declared.rows.WalkRow.TheVariants as walks
use Rattle.async_walk.specs.Naks.{kind_at, planned, may_work}
use Rattle.async_walk.specs.Rows.{WalkPlace, started, fetch_row, ring_row, work_row, taken_row, take_row, visit_row, held_row, cursor_link, row_at, event_row, at_event}
use Rattle.periodic_walk.specs.Place.{Effect}
use Rattle.periodic_walk.specs.Place.Effect.{Leaves, Asks}
use Rattle.periodic_walk.specs.Rows.{effect_of}
use Rattle.hc_core.specs.declared.controller.ControllerRow.{ControllerRow}
use Rattle.hc_core.specs.declared.controller.ControllerRow.TheVariants as rows
use Rattle.hc_core.specs.Controller.{Content, begun_at, element_address, ended, entered, frame_place, walk_place, HasRow}
use Rattle.drv_table.specs.DriverContent.{DriverContent}
use Rattle.drv_table.specs.Accepting.{Offered}
use Rattle.drv_table.specs.Offers.{offered}
use Rattle.law_budgets.specs.visit_prices.Spent.{placed_as}
use Rattle.bus_wire.specs.Bus.{Bus, Fixed, fixed_of, begin_after, transact_after}
use Rattle.bus_world.specs.World.{World, controller_parts, controller_row, controller_next, driver_next, next, name_in, commanded, commanded_by, frame_by, sent_by, sends_by, walk_by, turned_by}
use Rattle.bus_world.specs.Opening.{opening_world}
use Rattle.bus_world.specs.Orders.{Left, Events, Microframes, Answer, Command, Plugs, OrderedWorld, at_place, orders_of, tick, tick_by, tick_at, ticks}
use Rattle.bus_world.specs.Budgets.{moment}
use Rattle.claims_world.specs.Carried.{carried_next, carried_by, carried_in, carried_from}
use Rattle.law_world.specs.steps.Streaming.{begins_by, transacts_by, wired}
use Rattle.law_world.proofs.lemmas.steps.StreamTurning.{world_has_row}
use Rattle.law_world.proofs.lemmas.memory.lemmas.framed_memory.Index.{ring_index, frame_index}
use Rattle.law_translator.specs.Plans.{Fits}
use Rattle.law_translator.specs.Frames.{Frame}
use Rattle.law_microframes.proofs.lemmas.visits.ReasonParts.{command_bus}
use Rattle.law_microframes.proofs.lemmas.time.PaymentIsochronous.{driver_index}
use Rattle.law_translator.specs.hub_plans.HubPlans.{AreKeysApart}
use Rattle.claims_world.specs.HubPlans.{placed_below, key_at, plans_now}
use Rattle.law_microframes.specs.plans.Plans.{HubPlansFitIn}
use Rattle.law_microframes.specs.translators.Watching.{frame_of, AllAt, HubsHold, StartFollows}
use Rattle.claims_world.specs.Pipelines.{port_at, StuffsAtMost}
use Rattle.claims_world.specs.Gaps.{gaps_begun, gaps_after, gaps_next, no_gaps, gaps}
use Rattle.law_microframes.specs.translators.Keeping.{IsOwned, IsRight, WorldKeeps, IsKnown}
use Rattle.law_microframes.proofs.lemmas.translators.Watching.{IsKept}
use Rattle.law_microframes.proofs.lemmas.translators.Hubs.{begins_work, begins_drop, asks_keep}
use Rattle.law_microframes.proofs.lemmas.translators.Kept.{Any, kept_with, hubs_replan}
use Rattle.law_microframes.proofs.lemmas.translators.Placing.{IsPlannedAs, laid_as}
use Rattle.law_microframes.proofs.lemmas.translators.Owned.{StaysOwned, owned_driver, owned_command, owned_begin, next_now, plans_fit, owned_planned}

-- ---- the ring asks of bulk and control endpoints alone

abbrev pub IsBufferedRow : WalkRow → Type 0
IsBufferedRow (walks.Transact t) = is_buffered t.pipe.kind ≡ true
IsBufferedRow _ = Unit {0}

buffered_kind : (b : Bool) → is_buffered (kind_at b) ≡ true
buffered_kind true = refl
buffered_kind false = refl

fetch_buffered : (reclamation : Bool) (a : ℕ) (o : Option Qh) → IsBufferedRow (fetch_row reclamation a o)
fetch_buffered reclamation a None = tt
fetch_buffered reclamation a (Some q) = by (q.head && not reclamation)
  where
    by : (b : Bool) → IsBufferedRow (if b then walks.HeadEnds else walks.Fetch a q)
    by true = tt
    by false = tt

ring_buffered : (m : Mem) (reclamation : Bool) (link : Link) → IsBufferedRow (ring_row m reclamation link)
ring_buffered m reclamation (links.Qh a) = fetch_buffered reclamation a (queue_head_at_address m a)
ring_buffered m reclamation links.End = tt
ring_buffered m reclamation (links.Itd a) = tt
ring_buffered m reclamation (links.Sitd a) = tt
ring_buffered m reclamation (links.Fstn a) = tt

work_buffered : (late : Bool) (q : Qh) → IsBufferedRow (work_row late (planned q))
work_buffered true q = tt
work_buffered false q = buffered_kind q.dtc

taken_buffered : (a : ℕ) (o : Option Qtd) → IsBufferedRow (taken_row a o)
taken_buffered a None = tt
taken_buffered a (Some t) = by t.token.active
  where
    by : (b : Bool) → IsBufferedRow (if b then walks.Advance a t else walks.Skip)
    by true = tt
    by false = tt

take_buffered : (m : Mem) (link : QtdLink) → IsBufferedRow (take_row m link)
take_buffered m qtd_links.End = tt
take_buffered m (qtd_links.To a) = taken_buffered a (qtd_at_address m a)

visit_buffered : (m : Mem) (left : ℕ) (q : Qh) (v : Visit) → IsBufferedRow (visit_row m left q v)
visit_buffered m left q visits.Rest = tt
visit_buffered m left q visits.Work = work_buffered (nat_lt left (planned q).price.0) q
visit_buffered m left q (visits.Take link) = take_buffered m link

held_buffered : (m : Mem) (left : ℕ) (q : Qh) (o : Option Outcome) → IsBufferedRow (held_row m left q o)
held_buffered m left q None = visit_buffered m left q (visit_of (may_work q) q)
held_buffered m left q (Some s) = tt

at_buffered : (p : WalkPlace) (o : Option Held) → IsBufferedRow (row_at p o)
at_buffered p None = ring_buffered p.memory p.registers.reclamation (cursor_link p.registers p.walk.cursor)
at_buffered p (Some h) = held_buffered p.memory p.walk.left h.queue_head h.settled

pub event_buffered : (p : WalkPlace) → IsBufferedRow (event_row p)
event_buffered p = at_buffered (started p) (started p).walk.held

-- ---- FRINDEX after an event of the controller

abbrev pub index_by : ControllerRow → ℕ → ℕ
index_by rows.Begin i = next_index i
index_by _ i = i

module _ (fixed : Fixed) (w : World) where
  abbrev c : Content
  c = controller_parts w

  abbrev n : Content
  n = controller_parts (controller_next fixed w)

  begun_index : (reached allowed : Bool) (x : Content) → (begun_at reached allowed x).registers.frame_index ≡ x.registers.frame_index
  begun_index true allowed x = refl
  begun_index false allowed x = refl

  row_index : (r : ControllerRow) → HasRow begins_by transacts_by r c (wired fixed w) n (wired fixed (controller_next fixed w))
      → n.registers.frame_index ≡ index_by r c.registers.frame_index
  row_index rows.Idle row = ap (λ (x : Content). x.registers.frame_index) row.0
  row_index rows.Begin row =
      ap (λ (x : Content). x.registers.frame_index) row.contents
      ∙ begun_index (reaches c.memory (element_address (after_begin c.registers))) row.allowed
      (record c { registers = after_begin c.registers })
  row_index rows.Frame row =
      frame_index transacts_by (frame_place c) (wired fixed w) (frame_place n) (wired fixed (controller_next fixed w)) row.walked
  row_index rows.Enter row =
      ring_index transacts_by (walk_place (entered c)) (wired fixed w) (walk_place n) (wired fixed (controller_next fixed w)) row.walked
  row_index rows.Go row =
      ring_index transacts_by (walk_place c) (wired fixed w) (walk_place n) (wired fixed (controller_next fixed w)) row.walked
  row_index rows.End row = ap (λ (x : Content). x.registers.frame_index) row.0

  pub index_after : (controller_next fixed w).registers.frame_index ≡ index_by (controller_row w) w.registers.frame_index
  index_after = row_index (controller_row w) (world_has_row fixed w)

-- ---- each event

module _ (most : ℕ) (H : Frame → Type 0) (is : IsKept most Any H) (fixed : Fixed) (few : StuffsAtMost most fixed) where
  abbrev Right : DriverContent → ℕ → ℕ → ℕ → Frame → Type 0
  Right d index hub port = IsRight H d index hub port

  right_kept : (d : DriverContent) (index hub port : ℕ) → IsKept most (IsOwned d index hub port) (Right d index hub port)
  right_kept d index hub port = kept_with most (IsOwned d index hub port) H is

  abbrev Holds : DriverContent → ℕ → (ℕ → ℕ → Key → ℕ) → List HubContent → Type 0
  Holds d index g hs = HubsHold (Right d index) (plans_now d index) (index % 8) g hs

  -- the plans change, and keep what is owned
  change : (d later : DriverContent) (index next now : ℕ) (g : ℕ → ℕ → Key → ℕ) (hs : List HubContent)
      → ((hub port : ℕ) → Fits (plans_now later next hub port))
      → ((hub port : ℕ) (k : Key) (o : IsOwned d index hub port k)
      → IsPlannedAs (plans_now d index hub port) k (placed_as o.number o.desc o.placement))
      → ((hub port : ℕ) (k : Key) (o : IsOwned later next hub port k)
      → IsPlannedAs (plans_now later next hub port) k (placed_as o.number o.desc o.placement))
      → ((hub port : ℕ) (k : Key) (o : IsOwned d index hub port k) → StaysOwned o later next)
      → HubsHold (Right d index) (plans_now d index) now g hs → HubsHold (Right later next) (plans_now later next) now g hs
  change d later index next now g hs fits before after stays all =
      hubs_replan most H is (IsOwned d index) (IsOwned later next) (plans_now d index) (plans_now later next) fits
      (λ hub port k o.
      let s = stays hub port k o in (
        s.still,
        laid_as (plans_now d index hub port) (plans_now later next hub port) k (placed_as o.number o.desc o.placement) (before hub port k o)
            (subst (IsPlannedAs (plans_now later next hub port) k) s.same (after hub port k s.still)),
      )) now g hs all

  -- ---- the controller

  module _ (w : World) (known : IsKnown w) (g : ℕ → ℕ → Key → ℕ) where
    abbrev i : ℕ
    i = w.registers.frame_index

    abbrev d : DriverContent
    d = w.driver

    within_frame : (next_index i % 8 == 0) ≡ false → Holds d i g w.bus.hubs
        → Holds d (next_index i) (gaps_begun w.bus.hubs g) (begin_after fixed (next_index i) w.bus).hubs
    within_frame off all =
        let not : next_index i % 8 ≡ 0 → ⊥ = λ is_none. differs (next_index i % 8) is_none off in
        let changed = change d d i (next_index i) (i % 8) g w.bus.hubs (λ hub port. plans_fit d known.fit (next_index i) hub port)
        (λ hub port k o. owned_planned d known.apart i hub port k o)
        (λ hub port k o. owned_planned d known.apart (next_index i) hub port k o)
        (λ hub port k o. owned_begin d i hub port k o not) all in
        subst (λ (u : ℕ). HubsHold (Right d (next_index i)) (plans_now d (next_index i)) u (gaps_begun w.bus.hubs g)
        (begin_after fixed (next_index i) w.bus).hubs) (sym (next_now i not))
        (begins_work most (IsOwned d (next_index i)) (Right d (next_index i)) (right_kept d (next_index i)) fixed (next_index i)
        (plans_now d (next_index i)) (i % 8) g w.bus off changed)
      where
        differs : (m : ℕ) → m ≡ 0 → (m == 0) ≡ false → ⊥
        differs m is_none off = let on = eq-eqb m 0 is_none in cc

    new_frame : (next_index i % 8 == 0) ≡ true
        → Holds d (next_index i) (gaps_begun w.bus.hubs g) (begin_after fixed (next_index i) w.bus).hubs
    new_frame on =
        subst (λ (u : ℕ). HubsHold (Right d (next_index i)) (plans_now d (next_index i)) u (gaps_begun w.bus.hubs g)
        (begin_after fixed (next_index i) w.bus).hubs) (sym (eqb-true (next_index i % 8) 0 on))
        (begins_drop most (IsOwned d (next_index i)) (Right d (next_index i)) (right_kept d (next_index i)) fixed (next_index i)
        (plans_now d (next_index i)) (gaps_begun w.bus.hubs g) w.bus on (λ hub port. plans_fit d known.fit (next_index i) hub port))

    asked : (ask : Ask) (out : List ℕ)
        → StartFollows (IsOwned d i) (plans_now d i) (i % 8) w.bus.hubs ask (length out) → Holds d i g w.bus.hubs
        → Holds d i g (transact_after fixed w.bus ask out).hubs
    asked ask out follows all =
        asks_keep most (IsOwned d i) (Right d i) (right_kept d i) fixed (plans_now d i) (i % 8) g w.bus ask out follows few all

    in_frames : (e : Effect) → controller_row w ≡ rows.Frame → effect_of (frame_place (controller_parts w)) ≡ e → Holds d i g w.bus.hubs
        → Holds d i g (frame_by fixed e w.bus).bus.hubs
    in_frames (Leaves p) row is all = all
    in_frames (Asks ask out left_by) row is all =
        asked ask out (known.starts ask out (record { row = row; left_by = left_by; asks = is })) all

    in_ring : (t : Transaction) (bytes : List ℕ) → is_buffered t.pipe.kind ≡ true → Holds d i g w.bus.hubs
        → Holds d i g (transact_after fixed w.bus (call_in t bytes false).ask (call_in t bytes false).out).hubs
    in_ring t bytes buffered all =
        asked (call_in t bytes false).ask (call_in t bytes false).out
        (λ hub port part x y h u split piped found here address place there. absurd (both buffered piped)) all
      where
        both : {b : Bool} → b ≡ true → b ≡ false → ⊥
        both one two = cc

    ring_sent : (sent : Bool) (t : Transaction) (h : Held) (bytes : List ℕ) (p : WalkPlace) → is_buffered t.pipe.kind ≡ true
        → Holds d i g w.bus.hubs → Holds d i g (sent_by fixed sent t h bytes p w.bus).bus.hubs
    ring_sent true t h bytes p buffered all = in_ring t bytes buffered all
    ring_sent false t h bytes p buffered all = all

    ring_sends : (t : Transaction) (p : WalkPlace) (o : Option Held) → is_buffered t.pipe.kind ≡ true → Holds d i g w.bus.hubs
        → Holds d i g (sends_by fixed t p o w.bus).bus.hubs
    ring_sends t p None buffered all = all
    ring_sends t p (Some h) buffered all =
        let read : Reading = sending t h.queue_head p.memory in
        ring_sent read.all t h read.bytes (record p { memory = read.memory }) buffered all

    ring_walks : (row : WalkRow) (p : WalkPlace) → IsBufferedRow row → Holds d i g w.bus.hubs
        → Holds d i g (walk_by fixed row p w.bus).bus.hubs
    ring_walks (walks.Transact t) p buffered all = ring_sends t p p.walk.held buffered all
    ring_walks _ p buffered all = all

    turned : (r : ControllerRow) → controller_row w ≡ r → Holds d i g w.bus.hubs
        → Holds d (index_by r i) (gaps_after r w.bus.hubs g) (turned_by fixed r (controller_parts w) w.bus).bus.hubs
    turned rows.Idle row all = all
    turned rows.Begin row all =
        elim (cases_Bool (next_index i % 8 == 0)) [ inl on ↦ new_frame on | inr off ↦ within_frame off all ]
    turned rows.Frame row all = in_frames (effect_of (frame_place (controller_parts w))) row refl all
    turned rows.Enter row all =
        ring_walks (event_row (walk_place (entered (controller_parts w)))) (at_event (walk_place (entered (controller_parts w))))
        (event_buffered (walk_place (entered (controller_parts w)))) all
    turned rows.Go row all =
        ring_walks (event_row (walk_place (controller_parts w))) (at_event (walk_place (controller_parts w)))
        (event_buffered (walk_place (controller_parts w))) all
    turned rows.End row all = all

    pub controller_keeps_up : WorldKeeps H w g → WorldKeeps H (controller_next fixed w) (gaps_next fixed w g)
    controller_keeps_up all =
        subst (λ (j : ℕ). Holds d j (gaps_next fixed w g) (controller_next fixed w).bus.hubs) (sym (index_after fixed w))
        (turned (controller_row w) refl all)

  -- ---- the driver

  pub driver_keeps_up : (w : World) (g : ℕ → ℕ → Key → ℕ) → IsKnown w → HubPlansFitIn (driver_next w).driver
      → ((hub port f : ℕ) → AreKeysApart (key_at (driver_next w).driver) (placed_below hub port f (driver_next w).driver.periodic.plan.placed))
      → WorldKeeps H w g → WorldKeeps H (driver_next w) g
  driver_keeps_up w g known fit apart all =
      subst (λ (j : ℕ). Holds (driver_next w).driver j g w.bus.hubs) (sym (driver_index w))
      (change w.driver (driver_next w).driver w.registers.frame_index w.registers.frame_index (w.registers.frame_index % 8) g w.bus.hubs
      (λ hub port. plans_fit (driver_next w).driver fit w.registers.frame_index hub port)
      (λ hub port k o. owned_planned w.driver known.apart w.registers.frame_index hub port k o)
      (λ hub port k o. owned_planned (driver_next w).driver apart w.registers.frame_index hub port k o)
      (λ hub port k o. owned_driver w hub port k o) all)

  -- ---- a command

  index_by_offer : (w : World) (line : ℕ) (name : EpName) (r : Result Offered OfferError)
      → (commanded_by w line name r).registers.frame_index ≡ w.registers.frame_index
  index_by_offer w line name (Ok o) = refl
  index_by_offer w line name (Err why) = refl

  pub command_keeps_up : (w : World) (line : ℕ) (cmd : Cmd) (g : ℕ → ℕ → Key → ℕ) → IsKnown w → HubPlansFitIn (commanded w line cmd).driver
      → ((hub port f : ℕ) → AreKeysApart (key_at (commanded w line cmd).driver)
      (placed_below hub port f (commanded w line cmd).driver.periodic.plan.placed))
      → WorldKeeps H w g → WorldKeeps H (commanded w line cmd) g
  command_keeps_up w line cmd g known fit apart all =
      let new : World = commanded w line cmd in
      subst (λ (b : Bus). Holds new.driver new.registers.frame_index g b.hubs) (sym (command_bus w line cmd))
      (subst (λ (j : ℕ). Holds new.driver j g w.bus.hubs) (sym (index_by_offer w line (name_in cmd) (offered w.driver w.memory cmd)))
      (change w.driver new.driver w.registers.frame_index w.registers.frame_index (w.registers.frame_index % 8) g w.bus.hubs
      (λ hub port. plans_fit new.driver fit w.registers.frame_index hub port)
      (λ hub port k o. owned_planned w.driver known.apart w.registers.frame_index hub port k o)
      (λ hub port k o. owned_planned new.driver apart w.registers.frame_index hub port k o)
      (λ hub port k o. owned_command w line cmd hub port k o) all))

  -- ---- a run

  next_keeps : (w : World) (event : Event) (g : ℕ → ℕ → Key → ℕ) → IsKnown w → IsKnown (next fixed w event) → WorldKeeps H w g
      → WorldKeeps H (next fixed w event) (carried_next gaps_next fixed w event g)
  next_keeps w events.D g known later all = driver_keeps_up w g known later.fit later.apart all
  next_keeps w events.C g known later all = controller_keeps_up w known g all

  by_keeps : (w : World) (order : Left) (rest : List Left) (g : ℕ → ℕ → Key → ℕ) → IsKnown w → IsKnown (tick_by fixed w order rest).world
      → WorldKeeps H w g → WorldKeeps H (tick_by fixed w order rest).world (carried_by gaps_next fixed w order g)
  by_keeps w (Events event zero) rest g known later all = all
  by_keeps w (Events event (suc n)) rest g known later all = next_keeps w event g known later all
  by_keeps w (Microframes zero) rest g known later all = all
  by_keeps w (Microframes (suc n)) rest g known later all = next_keeps w events.C g known later all
  by_keeps w (Answer ended n) rest g known later all = next_keeps w events.D g known later all
  by_keeps w (Command n cmd) rest g known later all = command_keeps_up w n cmd g known later.fit later.apart all
  by_keeps w (Plugs there port) rest g known later all = all

  in_keeps : (w : World) (orders : List Left) (g : ℕ → ℕ → Key → ℕ) → IsKnown w → IsKnown (tick_at fixed w orders).world → WorldKeeps H w g
      → WorldKeeps H (tick_at fixed w orders).world (carried_in gaps_next fixed w orders g)
  in_keeps w [] g known later all = all
  in_keeps w (order ∷ rest) g known later all = by_keeps w order rest g known later all

  from_keeps : (p : OrderedWorld) (g : ℕ → ℕ → Key → ℕ) (k : ℕ) → ((j : ℕ) → IsKnown (ticks fixed p j).world) → WorldKeeps H p.world g
      → WorldKeeps H (ticks fixed p k).world (carried_from gaps_next fixed p g k)
  unfolding ticks carried_from
  from_keeps p g zero knows all = all
  from_keeps p g (suc k) knows all =
      from_keeps (tick fixed p) (carried_in gaps_next fixed p.world p.orders g) k (λ j. knows (suc j))
      (in_keeps p.world p.orders g (knows 0) (knows 1) all)

-- ---- where a run begins

module _ (most : ℕ) (H : Frame → Type 0) (is : IsKept most Any H) (d : DriverContent) (index : ℕ) (first : index % 8 ≡ 0)
    (fits : (hub port : ℕ) → Fits (plans_now d index hub port)) where
  translators_open : (hub n : ℕ) (port : ℕ → ℕ) (g : ℕ → Key → ℕ)
      → AllAt (λ j t. IsRight H d index hub (port j) (frame_of (plans_now d index hub (port j)) (index % 8) (g j) t))
      (replicate n opening_translator)
  translators_open hub zero port g = tt
  translators_open hub (suc n) port g = (
    (
      subst (λ (u : ℕ). H (record { plan = plans_now d index hub (port 0); now = u; watched = [] })) (sym first)
          (is.opens (plans_now d index hub (port 0)) (fits hub (port 0))),
      tt,
    ),
    translators_open hub n (λ j. port (suc j)) (λ j. g (suc j)),
  )

  pub hubs_open : (hs : List HubText) (g : ℕ → ℕ → Key → ℕ)
      → HubsHold (IsRight H d index) (plans_now d index) (index % 8) g (map Hubs.opening hs)
  hubs_open [] g = tt
  hubs_open (h ∷ hs) g = (
    translators_open (Hubs.opening h).address (if h.multi then length h.attached else 1) (port_at h.multi) (g 0),
    hubs_open hs (λ i. g (suc i)),
  )

pub plans_open : (most : ℕ) (H : Frame → Type 0) → IsKept most Any H → (s : Script) → HubPlansFitIn (opening_world s).driver
    → WorldKeeps H (opening_world s) no_gaps
plans_open most H is s fit =
    hubs_open most H is (opening_world s).driver (opening_world s).registers.frame_index refl
    (λ hub port. plans_fit (opening_world s).driver fit (opening_world s).registers.frame_index hub port) s.hubs no_gaps

known_first : (s : Script) → ((k : ℕ) → IsKnown (moment s k).world) → IsKnown (opening_world s)
unfolding ticks
known_first s knows = knows 0

pub keeps_along : (most : ℕ) (H : Frame → Type 0) → IsKept most Any H → (s : Script) → StuffsAtMost most (fixed_of s)
    → ((k : ℕ) → IsKnown (moment s k).world) → (k : ℕ) → WorldKeeps H (moment s k).world (gaps s k)
keeps_along most H is s few knows k =
    from_keeps most H is (fixed_of s) few (at_place (opening_world s) (orders_of s.lines)) no_gaps k knows
    (plans_open most H is s (known_first s knows).fit)
