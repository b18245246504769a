-- Each event of the driver leaves host and hub of each bulk and control endpoint below a hub as they must stand.
use Rattle.std.proofs.Common.{◌≡◌, ◌≢◌, ℕ, ◌*◌, ◌==◌, Bool, true, false, not, if◌then◌else◌, List, slice_get, Some, ap, refl, sym, subst, ◌∙◌}
use Rattle.std.proofs.Common.{⊎_elim, inl, inr}
use Rattle.std.specs.Prelude.{◌⊎◌}
use Rattle.std.proofs.lemmas.Bool.{cases_eq, eq-eqb, and_parts, false≢true}
use Rattle.law_common.proofs.Booleans.{not_high}
use Rattle.law_common.proofs.Numbers.{same_blocks}
use Rattle.law_world.proofs.Common.{none_some}
use Rattle.usb_base.specs.declared.endpoints.EpDesc.{EpDesc}
use Rattle.usb_base.specs.declared.packets.EpKind.TheVariants as kinds
use Rattle.usb_base.specs.declared.packets.Way.{Way}
use Rattle.usb_base.specs.declared.packets.Way.TheVariants as ways
use Rattle.script_types.specs.declared.scripts.Script.{Script}
use Rattle.bus_wire.specs.Bus.{Wired, Fixed, fixed_of}
use Rattle.toggle_error.specs.declared.host.HostSide.{HostSide}
use Rattle.hc_copy.specs.Planning.{pid_at, host_in}
use Rattle.hc_host_side.specs.HostToken.{host_at}
use Rattle.qh_qtd.specs.declared.qtd.Qtd.{Qtd}
use Rattle.qh_qtd.specs.declared.queue_head.Qh.{Qh}
use Rattle.qh_qtd.specs.declared.token.Token.{Token}
use Rattle.drv_table.specs.declared.content.Command.TheVariants as unfinished
use Rattle.drv_table.specs.declared.content.Endpoint.{Endpoint}
use Rattle.drv_table.specs.Words.{is_control, is_high}
use Rattle.law_driver.specs.queued_drivers.Queued.{queued_endpoint, queued}
use Rattle.law_driver.specs.queued_drivers.Rows.{QueuesAlike}
use Rattle.law_driver_ring.specs.fed_queues.Places.{IsMet}
use Rattle.law_structures.specs.lent_structures.Structures.{Element, StructureSets}
use Rattle.law_structures.proofs.lemmas.lent_structures.Altering.{found_queue}
use Rattle.law_ring.specs.Hand.{Hand, Empty, Copied, Settled, Stale}
use Rattle.law_ring.specs.Told.{Endpoint as Told, endpoint_of}
use Rattle.law_ring.specs.Sparing.{SameOverlay, HasOverlay, SparesHead}
use Rattle.law_queues.specs.open_laws.Queues.{IsOpenThere, open_finished}
use Rattle.law_below_hubs.specs.Awaited.{awaits_in, KeyStands, Asking, Moves, Controls, its_kind, IsCodeOf, RestsIdle, IsAwaiting}
use Rattle.law_below_hubs.specs.HostEvents.{hand_host, told_key}
use Rattle.law_world.specs.steps.Streaming.{wired}
use Rattle.law_world.specs.memory.Mixed.{Standing, IsMixedAt}
use Rattle.law_world.specs.memory.Steps.{HasOpened, QueueStep, opens}
use Rattle.law_world.specs.memory.pipe_steps.Laws.{IsNoOpening}
use Rattle.bus_world.specs.World.{World, driver_next}
use Rattle.law_reports.specs.lines.Lined.{in_hand, Lines}
use Rattle.law_reports.specs.lines.TellingLaws.{IsTellingNext}
use Rattle.law_reports.specs.pipes.Declared.{sides_of}
use Rattle.law_reports.specs.pipes.Piped.{Heads, asked_as, AreFresh, IsPiped}
use Rattle.law_reports.specs.pipes.puts.Paid.{Pays}
use Rattle.law_reports.specs.pipes.below_hubs.Behind.{IsBehind}
use Rattle.law_reports.specs.pipes.below_hubs.BehindLaws.{hub_of, place_of, spots_of}
use Rattle.law_reports.proofs.lemmas.pipes.Across.{WasIn}
use Rattle.law_reports.proofs.lemmas.pipes.Carried.{was_met, fresh_carried}
use Rattle.law_reports.proofs.lemmas.pipes.Driven.{was_end, now_end, opening_then}
use Rattle.law_reports.proofs.lemmas.pipes.DrivenSteps.{none_nearer}
use Rattle.law_reports.proofs.lemmas.pipes.Names.{met_near}
use Rattle.law_reports.proofs.lemmas.pipes.Opened as O
use Rattle.law_reports.proofs.lemmas.pipes.lemmas.below_hubs.BehindDriven.{slow_field}
use Rattle.law_reports.proofs.lemmas.pipes.lemmas.below_hubs.InsSteps.{IsThereIn, none_active}
use Rattle.law_reports.proofs.lemmas.pipes.lemmas.below_hubs.InsSteps as Ins
use Rattle.law_reports.proofs.lemmas.pipes.lemmas.below_hubs.Controlled.{sound_at}
use Rattle.law_reports.proofs.lemmas.pipes.lemmas.below_hubs.Spared.{HostAlike, SparesQueue}
use Rattle.law_reports.proofs.lemmas.pipes.lemmas.below_hubs.Starting.{publishes_start}
use Rattle.law_reports.proofs.lemmas.pipes.lemmas.below_hubs.Steps.{spared}
use Rattle.law_reports.proofs.lemmas.pipes.lemmas.puts.Steps.{IsThereOut}
use Rattle.law_reports.proofs.lemmas.pipes.lemmas.puts.Steps as Outs
use Rattle.law_reports.specs.quiet.Awaiting.{is_buffered, is_buffered_below, asking_of, KeysAt, FreshKeys, AwaitsBy, IsAwaitingAt, every_name}
use Rattle.law_reports.specs.quiet.Awaiting.{AreAwaited, HubsStand}
use Rattle.law_reports.proofs.lemmas.quiet.AwaitedControlled.{kind_is}
use Rattle.law_reports.proofs.lemmas.quiet.AwaitedSteps.{LeavesHost, step_leaves_host}
use Rattle.law_reports.proofs.lemmas.quiet.Heards.{driver_served}

-- ---- a queue head that is spared

module _ (a : Asking) (parts now : StructureSets) (hand later : Hand) (n : ℕ) (wire : Wired) (i place : ℕ) (x : Told)
    (b : IsAwaiting a wire i place parts hand n x) where
  awaiting_spared : HostAlike hand later → SparesHead parts now n
      → ((c : ℕ) (u : Qtd) → now n c ≡ Some (Element u) → u.token.active ≡ true → (parts n c ≡ Some (Element u))
      ⊎ (IsCodeOf a u.token.pid × (u.token.split_state ≡ false))) → IsAwaiting a wire i place now later n x
  awaiting_spared hosts heads asks =
      let o : HasOverlay now n b.queue = heads b.queue b.head in
      let same : hand_host later n o.queue ≡ hand_host hand n b.queue = hosts n o.queue ∙ overlay_same hand n b.queue o.queue o.overlay in
      record {
        queue = o.queue;
        head = o.here;
        is = b.is ∙ sym o.overlay.endpoint;
        below = b.below;
        own = b.own;
        ways = λ c u here on.
            ⊎_elim (λ (was : parts n c ≡ Some (Element u)). b.ways c u was on)
            (λ (new : IsCodeOf a u.token.pid × (u.token.split_state ≡ false)). new.0) (asks c u here on);
        first = λ c u here on.
            ⊎_elim (λ (was : parts n c ≡ Some (Element u)). b.first c u was on)
            (λ (new : IsCodeOf a u.token.pid × (u.token.split_state ≡ false)). new.1) (asks c u here on);
        rests = subst RestsIdle (sym same) b.rests;
        waits = λ on. subst (λ (t : Token). IsCodeOf a t.pid) (sym o.overlay.token)
            (b.waits (ap (λ (host : HostSide). host.waiting) (sym same) ∙ on));
        hub = b.hub;
        keys = λ dir of. subst (λ (t : Token). KeyStands (told_key (its_kind a) dir x) i place wire
            (awaits_in dir (hand_host later n o.queue).waiting (pid_at t.pid))) (sym o.overlay.token)
            (subst (λ (host : HostSide). KeyStands (told_key (its_kind a) dir x) i place wire
            (awaits_in dir host.waiting (pid_at b.queue.token.pid))) (sym same) (b.keys dir of));
      }
    where
      overlay_same : (l : Hand) (m : ℕ) (q r : Qh) → SameOverlay q r → hand_host l m r ≡ hand_host l m q
      overlay_same l m q r alike = by l
        where
          own : host_in r ≡ host_in q
          own = ap (λ (t : Token). host_at t r.max) alike.token ∙ ap (λ (e : Told). host_at q.token e.max) alike.endpoint

          by : (l : Hand) → hand_host l m r ≡ hand_host l m q
          by Empty = own
          by (Copied c) = own
          by (Settled c z) = ap (λ (host : HostSide). if c.at == m then z.host else host) own
          by (Stale k old) = own

-- a control endpoint's, spared or mended
module _ (parts now : StructureSets) (hand later : Hand) (n : ℕ) (wire : Wired) (i place : ℕ) (x : Told)
    (b : IsAwaiting Controls wire i place parts hand n x) where
  control_left : LeavesHost parts now hand later n → IsAwaiting Controls wire i place now later n x
  control_left (inl k) =
      awaiting_spared Controls parts now hand later n wire i place x b k.hosts k.head (λ c u here on.
      ⊎_elim (λ (was : parts n c ≡ Some (Element u)). inl was) (λ (first : u.token.split_state ≡ false). inr (tt, first)) (k.asks c u here on))
  control_left (inr k) =
      let one : b.queue ≡ k.queue = found_queue (parts n n) b.queue k.queue b.head k.was in
      let rested : (hand_host hand n b.queue).waiting ≡ false = b.rests (ap (λ (q : Qh). (hand_host hand n q).active) one ∙ k.idle) in
      let still : k.queue.token.split_state ≡ false =
      ap (λ (host : HostSide). host.waiting) (sym k.before) ∙ ap (λ (q : Qh). (hand_host hand n q).waiting) (sym one) ∙ rested in
      let rests_now : (hand_host later n k.new).waiting ≡ false = ap (λ (host : HostSide). host.waiting) k.host ∙ k.rests still in
      record {
        queue = k.new;
        head = k.head;
        is = b.is ∙ ap endpoint_of one ∙ sym k.endpoint;
        below = b.below;
        own = b.own;
        ways = λ c u here on. tt;
        first = λ c u here on. b.first c u (k.asks c u here) on;
        rests = λ off. rests_now;
        waits = λ on. tt;
        hub = b.hub;
        keys = λ dir of.
            subst (λ (waits : Bool). KeyStands (told_key kinds.Control dir x) i place wire (awaits_in dir waits (pid_at k.new.token.pid)))
            (sym rests_now)
            (subst (λ (waits : Bool). KeyStands (told_key kinds.Control dir x) i place wire (awaits_in dir waits (pid_at b.queue.token.pid)))
            rested (b.keys dir of));
      }

pub slow_buffered : (x : EpDesc) → is_buffered_below x ≡ true → ((asked_as x).speed == 2) ≡ false
slow_buffered x is =
    slow_field x.speed (not_high (is_high x.speed) (sym (and_parts (is_buffered x.kind) (not (is_high x.speed)) is).1))

-- data toggle control is that of control endpoints (3.6.2)
toggles_by : (a : Asking) (x : EpDesc) → x.kind ≡ its_kind a → (asked_as x).dtc ≡ is_control (its_kind a)
toggles_by a x is = ap is_control is

module _ (s : Script) (st : Standing) (m : Lines) (h : Heads) (puts : ℕ → List ℕ) (w : World)
    (k : IsPiped (fixed_of s) (sides_of s) st m h w)
    (pays : Pays (fixed_of s) (sides_of s) st m puts w) (b : IsBehind (fixed_of s) (spots_of s) st m puts w) (a : AreAwaited s st w)
    (hubs : HubsStand s w.bus) where
  abbrev fixed : Fixed
  fixed = fixed_of s

  abbrev new : World
  new = driver_next w

  abbrev wire : Wired
  wire = wired (fixed_of s) w

  fresh_then : ((q : ℕ) → (queued (driver_next w).driver).command ≡ Some (unfinished.Open q)
      → (queued w.driver).command ≡ Some (unfinished.Open q)) → (way : Way)
      → AreFresh w.driver way every_name (FreshKeys s wire way) → AreFresh (driver_next w).driver way every_name (FreshKeys s wire way)
  fresh_then opening way old =
      fresh_carried w.driver (driver_next w).driver (now_end fixed (sides_of s) st m h w k) opening way every_name (FreshKeys s wire way) old

  -- ---- an endpoint that was met stands as it must

  module _ (t : Standing) (step : QueueStep st w (driver_next w) t) (e : ℕ) (z : Endpoint)
      (here : slice_get (driver_next w).driver.endpoints e ≡ Some z) (is : is_buffered_below z.desc ≡ true)
      (near_then : t.near (32 * z.queue) ≡ true) (near : st.near (32 * z.queue) ≡ true) (u : WasIn w.driver.endpoints e z)
      (is_met : IsMet (queued w.driver) e (queued_endpoint u.endpoint)) where
    abbrev y : Endpoint
    y = u.endpoint

    abbrev n : ℕ
    n = 32 * u.endpoint.queue

    was_buffered : is_buffered_below u.endpoint.desc ≡ true
    was_buffered = ap is_buffered_below (sym u.comes.desc) ∙ is

    same : 32 * u.endpoint.queue ≡ 32 * z.queue
    same = ap (λ (q : ℕ). 32 * q) (sym u.comes.queue)

    old : IsAwaitingAt s wire st u.endpoint
    old = a.met e y u.here was_buffered is_met

    is_near : st.near (32 * u.endpoint.queue) ≡ true
    is_near = ap st.near same ∙ near

    still_near : t.near (32 * u.endpoint.queue) ≡ true
    still_near = ap t.near same ∙ near_then

    spared_in : u.endpoint.desc.name.way ≡ ways.In → SparesQueue st.parts t.parts (in_hand st) (in_hand t) (32 * u.endpoint.queue) 1
    spared_in way =
        let is_in : IsThereIn w.driver n = record { number = e; endpoint = y; here = u.here; there = is_met.there; way_is = way; at = refl } in
        spared (λ addr ep. false) (λ addr ep. false) (λ j. j == n) (λ j. false) st.ends st w new k.mixed (Ins.by_way st w k.mixed n is_in)
        (publishes_start w.driver b.first) n 1 is_near (inr (refl, eq-eqb n n refl)) t step still_near

    spared_out : u.endpoint.desc.name.way ≡ ways.Out → SparesQueue st.parts t.parts (in_hand st) (in_hand t) (32 * u.endpoint.queue) 0
    spared_out way =
        let is_out : IsThereOut w.driver n = record { number = e; endpoint = y; here = u.here; there = is_met.there; way_is = way; at = refl } in
        spared (λ addr ep. false) (λ addr ep. false) (λ j. false) (λ j. j == n) st.ends st w new k.mixed
        (Outs.by_way st m w k.mixed k.telling n is_out (pays.outs e y u.here is_met.there way).whole)
        (publishes_start w.driver b.first) n 0 is_near (inl (refl, eq-eqb n n refl)) t step still_near

    data_left : (code : ℕ) → SparesQueue st.parts t.parts (in_hand st) (in_hand t) (32 * u.endpoint.queue) code
        → IsAwaiting (Moves code) wire (hub_of s y.desc.hub) (place_of s y.desc.hub y.desc.port) st.parts (in_hand st) n (asked_as y.desc)
        → IsAwaiting (Moves code) wire (hub_of s y.desc.hub) (place_of s y.desc.hub y.desc.port) t.parts (in_hand t) n (asked_as y.desc)
    data_left code q awaiting =
        awaiting_spared (Moves code) st.parts t.parts (in_hand st) (in_hand t) n wire (hub_of s y.desc.hub)
        (place_of s y.desc.hub y.desc.port) (asked_as y.desc) awaiting q.hosts q.head q.asks

    by_way : (way : Way) → u.endpoint.desc.name.way ≡ way → AwaitsBy s wire st u.endpoint.desc u.endpoint.queue way
        → AwaitsBy s wire t u.endpoint.desc u.endpoint.queue way
    by_way ways.In way awaiting = data_left 1 (spared_in way) awaiting
    by_way ways.Out way awaiting = data_left 0 (spared_out way) awaiting
    by_way ways.Ctl way awaiting =
        control_left st.parts t.parts (in_hand st) (in_hand t) n wire (hub_of s y.desc.hub) (place_of s y.desc.hub y.desc.port)
        (asked_as y.desc) awaiting
        (step_leaves_host st w new k.mixed (publishes_start w.driver b.first) n is_near (sound_at st w k.mixed e y u.here is_met) t step
        still_near)

    -- as it is described then
    pub met_still : IsAwaitingAt s wire t z
    met_still =
        subst (λ (c : EpDesc). AwaitsBy s wire t c z.queue c.name.way) (sym u.comes.desc)
        (subst (λ (q : ℕ). AwaitsBy s wire t u.endpoint.desc q u.endpoint.desc.name.way) (sym u.comes.queue)
        (by_way u.endpoint.desc.name.way refl old))

  -- ---- each step but the end of an open

  module _ (t : Standing) (step : QueueStep st w (driver_next w) t) (other : IsNoOpening step) (mixed : IsMixedAt t (driver_next w)) where
    met_then : (e : ℕ) (z : Endpoint) → slice_get (driver_next w).driver.endpoints e ≡ Some z → is_buffered_below z.desc ≡ true
        → IsMet (queued (driver_next w).driver) e (queued_endpoint z) → IsAwaitingAt s wire t z
    met_then e z here is is_met =
        let near_then : t.near (32 * z.queue) ≡ true = met_near (driver_next w).driver t.near mixed.queues.queues.met e z here is_met in
        let near : st.near (32 * z.queue) ≡ true = none_nearer st w (driver_next w) t step other (32 * z.queue) near_then in
        let was = was_met w.driver (driver_next w).driver st.near t.near k.mixed.now.framed.place.sound.owners k.mixed.queues.queues.met
        mixed.queues.queues.met (λ j u there its_met. was_end fixed (sides_of s) st m h w k j u there) e z here is_met near in
        met_still t step e z here is near_then near was.before was.met

    pub driven_awaited : AreAwaited s t (driver_next w)
    driven_awaited = record {
      served = driver_served s w a.served;
      met = met_then;
      fresh = λ way. fresh_then (opening_then fixed (sides_of s) st m h w k) way (a.fresh way);
    }

  -- ---- the end of an open

  module _ (at : IsOpenThere (queued w.driver) st.parts) (t : Standing)
      (alike : QueuesAlike (open_finished (queued w.driver)) (queued (driver_next w).driver)) (opened : HasOpened st t at.endpoint)
      (mixed : IsMixedAt t (driver_next w)) (next : IsTellingNext st m w (driver_next w) t (opens at t alike opened)) where
    -- the one that was opened
    module _ (e : ℕ) (z : Endpoint) (here : slice_get (driver_next w).driver.endpoints e ≡ Some z) (is : is_buffered_below z.desc ≡ true)
        (is_met : IsMet (queued (driver_next w).driver) e (queued_endpoint z)) (own : 32 * z.queue ≡ 32 * at.endpoint.queue) where
      abbrev y_own : Endpoint
      y_own = O.y fixed (sides_of s) st m h w k at t alike opened mixed next

      desc_is : z.desc ≡ y_own.desc
      desc_is = O.opened_one fixed (sides_of s) st m h w k at t alike opened mixed next e z here is_met own

      abbrev n_own : ℕ
      n_own = 32 * at.endpoint.queue

      its_here : slice_get w.driver.endpoints at.number ≡ Some y_own
      its_here = (O.its fixed (sides_of s) st m h w k at t alike opened mixed next).here

      own_buffered : is_buffered_below y_own.desc ≡ true
      own_buffered = ap is_buffered_below (sym desc_is) ∙ is

      kind_told : y_own.desc.kind ≡ its_kind (asking_of y_own.desc.name.way)
      kind_told = kind_is y_own.desc own_buffered (k.mixed.turns.kinds_fit at.number y_own its_here)

      its_awaiting : AwaitsBy s wire t y_own.desc at.endpoint.queue y_own.desc.name.way
      its_awaiting =
          let new_head = O.head_then fixed (sides_of s) st m h w k at t alike opened mixed next in
          let idle : (hand_host (in_hand t) n_own new_head.named.queue).waiting ≡ false = new_head.starts new_head.named.queue
          new_head.named.head in
          let keys : KeysAt s wire y_own.desc =
          a.fresh y_own.desc.name.way y_own.desc.name.addr y_own.desc.name.num refl
          (O.unused fixed (sides_of s) st m h w k at t alike opened mixed next y_own.desc.name.way refl)
          y_own.desc (a.served at.number y_own its_here).opened own_buffered refl refl refl in
          record {
            queue = new_head.named.queue;
            head = new_head.named.head;
            is = new_head.named.is;
            below = slow_buffered y_own.desc own_buffered;
            own = toggles_by (asking_of y_own.desc.name.way) y_own.desc kind_told;
            ways = λ c u there_it active. none_active st w at c u ((opened.told.parts n_own).elements_were c u there_it) active;
            first = λ c u there_it active. none_active st w at c u ((opened.told.parts n_own).elements_were c u there_it) active;
            rests = λ off. idle;
            waits = λ on. absurd (false≢true (sym idle ∙ on));
            hub = hubs y_own.desc (a.served at.number y_own its_here).opened own_buffered;
            keys = λ dir of. subst (λ (waits : Bool). KeyStands (told_key (its_kind (asking_of y_own.desc.name.way)) dir (asked_as y_own.desc))
                (hub_of s y_own.desc.hub) (place_of s y_own.desc.hub y_own.desc.port) wire
                (awaits_in dir waits (pid_at new_head.named.queue.token.pid))) (sym idle) (keys dir of);
          }

      opened_met : IsAwaitingAt s wire t z
      opened_met =
          subst (λ (c : EpDesc). AwaitsBy s wire t c z.queue c.name.way) (sym desc_is)
          (subst (λ (q : ℕ). AwaitsBy s wire t y_own.desc q y_own.desc.name.way) (sym (same_blocks z.queue at.endpoint.queue own)) its_awaiting)

    met_opened : (e : ℕ) (z : Endpoint) → slice_get (driver_next w).driver.endpoints e ≡ Some z → is_buffered_below z.desc ≡ true
        → IsMet (queued (driver_next w).driver) e (queued_endpoint z) → IsAwaitingAt s wire t z
    met_opened e z here is is_met =
        ⊎_elim (λ (own : 32 * z.queue ≡ 32 * at.endpoint.queue). opened_met e z here is is_met own)
        (λ (differs : 32 * z.queue ≢ 32 * at.endpoint.queue).
        let was = O.met_before fixed (sides_of s) st m h w k at t alike opened mixed next e z here is_met differs in
        let near_then : t.near (32 * z.queue) ≡ true = met_near (driver_next w).driver t.near mixed.queues.queues.met e z here is_met in
        let near : st.near (32 * z.queue) ≡ true =
        O.near_was fixed (sides_of s) st m h w k at t alike opened mixed next (32 * z.queue) near_then differs in
        met_still t (opens at t alike opened) e z here is near_then near was.before was.met)
        (cases_eq (32 * z.queue) (32 * at.endpoint.queue))

    pub opened_awaited : AreAwaited s t (driver_next w)
    opened_awaited = record {
      served = driver_served s w a.served;
      met = met_opened;
      fresh = λ way. fresh_then (λ q is. absurd (none_some (unfinished.Open q) (sym alike.command ∙ is))) way (a.fresh way);
    }
