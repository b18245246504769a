-- Each event of the driver leaves a bulk or interrupt IN endpoint below a hub as it must stand.
use Rattle.std.proofs.Common.{◌≡◌, Bool, ◌≢◌, ℕ, ◌*◌, ◌==◌, true, false, List, [], slice_get, Some, ap, refl, sym}
use Rattle.std.proofs.Common.{subst, ◌∙◌, ⊎_elim}
use Rattle.std.specs.List.{concat}
use Rattle.std.proofs.lemmas.Bool.{cases_eq, cases_Bool, eq-eqb}
use Rattle.law_world.proofs.Common.{begins_both, none_some, no_control}
use Rattle.law_common.proofs.Booleans.{not_high}
use Rattle.law_common.proofs.Numbers.{same_blocks}
use Rattle.std.proofs.lemmas.Bool.{and_parts}
use Rattle.std.specs.Prelude.{◌&&◌, not}
use Rattle.usb_base.specs.declared.endpoints.EpDesc.{EpDesc}
use Rattle.usb_base.specs.declared.packets.Dir.TheVariants as Directions
use Rattle.usb_base.specs.declared.packets.Way.TheVariants as ways
use Rattle.bus_wire.specs.Bus.{Fixed}
use Rattle.claims_base.specs.Prefix.{IsPrefix}
use Rattle.claims_driver.specs.Scripts.{comes_in}
use Rattle.claims_report.specs.Streams.{has_stream}
use Rattle.drv_table.specs.declared.content.Command.TheVariants as unfinished
use Rattle.drv_table.specs.declared.content.Endpoint.{Endpoint}
use Rattle.drv_table.specs.Words.{is_high}
use Rattle.law_driver.specs.endpoint_lives.Lives.{may_meet}
use Rattle.law_driver.specs.queued_drivers.Queued.{queued_endpoint, queued}
use Rattle.law_driver.specs.queued_drivers.Rows.{QueuesAlike}
use Rattle.law_driver_ring.specs.fed_queues.Places.{IsThere, IsMet}
use Rattle.law_queues.specs.leaving_drivers.Told.{told_to}
use Rattle.law_queues.specs.open_laws.Queues.{IsOpenThere, open_finished}
use Rattle.law_ring.specs.Pipes.{IsIn}
use Rattle.law_below_hubs.specs.HostEvents.{hand_host, told_key, IsInBehind}
use Rattle.law_below_hubs.proofs.HostBegins.{in_begins}
use Rattle.law_below_hubs.proofs.HostOpens.{head_opens_in}
use Rattle.law_world.specs.steps.Streaming.{wired}
use Rattle.law_below_hubs.specs.HostIns.{InSide}
use Rattle.law_below_hubs.specs.Splits.{IsAtHub}
use Rattle.law_world.specs.memory.Mixed.{Standing, IsMixedAt}
use Rattle.law_world.specs.memory.Steps.{HasOpened, QueueStep, stays, harvests, returns, lends, stores, mends, begins, opens}
use Rattle.law_world.specs.memory.Steps.{unlinks, narrows}
use Rattle.law_world.specs.memory.Steps.{goes}
use Rattle.law_world.specs.memory.pipe_steps.Laws.{IsNoOpening}
use Rattle.bus_world.specs.World.{World, driver_next}
use Rattle.law_reports.specs.lines.Lined.{in_hand, Lines}
use Rattle.law_reports.specs.lines.TellingLaws.{IsTellingNext}
use Rattle.law_reports.specs.pipes.Declared.{Sides}
use Rattle.law_reports.specs.pipes.Piped.{Heads, asked_as, IsOpening, AreFresh, IsPiped}
use Rattle.law_reports.specs.pipes.puts.Paid.{Pays}
use Rattle.law_reports.specs.pipes.below_hubs.Behind.{Spots, IsBehind}
use Rattle.claims_world.specs.BelowStreams.{is_in_below}
use Rattle.law_reports.specs.pipes.below_hubs.Inward.{Inlet, is_inlet, IsInletBy, AreInlets, Unmoved, Begins, IsInward}
use Rattle.law_reports.proofs.lemmas.pipes.Across.{WasIn}
use Rattle.law_reports.proofs.lemmas.pipes.Carried.{was_met, fresh_carried}
use Rattle.law_reports.proofs.lemmas.pipes.Driven.{was_end, now_end, opening_then}
use Rattle.law_reports.proofs.lemmas.pipes.DrivenSteps.{none_more, none_nearer}
use Rattle.law_reports.proofs.lemmas.pipes.Followed.{unmet_then, gone_then, unmet_opened, gone_returned}
use Rattle.law_reports.proofs.lemmas.pipes.Leaving.{IsNoReturn}
use Rattle.law_reports.proofs.lemmas.pipes.Names.{met_near}
use Rattle.law_reports.proofs.lemmas.pipes.Opened as O
use Rattle.law_reports.proofs.lemmas.pipes.lemmas.below_hubs.BehindDriven.{slow_field}
use Rattle.law_reports.proofs.lemmas.pipes.lemmas.below_hubs.InwardControlled.{in_stream, is_its, in_claimed}
use Rattle.law_reports.proofs.lemmas.pipes.lemmas.below_hubs.InsSteps.{IsThereIn, by_way, none_active}
use Rattle.law_reports.proofs.lemmas.pipes.StartingHeads.{new_first}
use Rattle.law_reports.proofs.lemmas.pipes.lemmas.below_hubs.Starting.{publishes_start}
use Rattle.law_reports.proofs.lemmas.pipes.lemmas.below_hubs.Steps.{step_keeps_in_behind}

-- ---- the speed of one below a hub

pub in_slow : (x : EpDesc) → is_in_below x ≡ true → ((asked_as x).speed == 2) ≡ false
in_slow x is =
    slow_field x.speed (not_high (is_high x.speed)
    (sym (and_parts (not (is_high x.speed)) (comes_in x.name.way)
    (and_parts (has_stream x.kind) (not (is_high x.speed) && comes_in x.name.way) is).1).0))

in_ctl : ways.In ≡ ways.Ctl → ⊥
in_ctl e = cc

pub begins_less : (v : Inlet) (addr ep : ℕ) (bytes more : List ℕ) → IsPrefix bytes more → Begins v more → Begins v bytes
begins_less v addr ep bytes more front all = begins_both bytes more (concat v.packets) front all

module _ (fixed : Fixed) (x : Sides) (o : Spots) (v : Inlet) (timely : ℕ → Bool) (s : Standing) (m : Lines) (h : Heads)
    (puts : ℕ → List ℕ) (w : World) (k : IsPiped fixed x s m h w) (pays : Pays fixed x s m puts w) (b : IsBehind fixed o s m puts w)
    (i : IsInward fixed v timely s m w) where
  abbrev new : World
  new = driver_next w

  -- ---- what moved of it begins what its device sends, wherever it is

  pub in_begun : (e : ℕ) (y : Endpoint) → slice_get w.driver.endpoints e ≡ Some y → y.desc.name.way ≡ ways.In
      → is_inlet v y.desc.name.addr y.desc.name.num ≡ true → IsThere (queued w.driver) (queued_endpoint y)
      → Begins v (concat (m.acc (32 * y.queue)))
  in_begun e y here way on there =
      ⊎_elim (λ (near : may_meet (queued w.driver) e (queued_endpoint y) ≡ true).
      let u = i.met e y here way on (record { there = there; near = near }) in
      in_begins v.packets (told_key v.desc.kind Directions.In (asked_as y.desc)) v.hub v.place (wired fixed w)
      (hand_host (in_hand s) (32 * y.queue) u.queue).toggle (hand_host (in_hand s) (32 * y.queue) u.queue).waiting
      (not (hand_host (in_hand s) (32 * y.queue) u.queue).halted) (timely (32 * y.queue)) (concat (m.acc (32 * y.queue))) u.side)
      (λ (off : may_meet (queued w.driver) e (queued_endpoint y) ≡ false). i.left.unmet e y here way on there off)
      (cases_Bool (may_meet (queued w.driver) e (queued_endpoint y)))

  pub in_streams : (e : ℕ) (y : Endpoint) → slice_get w.driver.endpoints e ≡ Some y → y.desc.name.way ≡ ways.In
      → is_inlet v y.desc.name.addr y.desc.name.num ≡ true → has_stream y.desc.kind ≡ true
  in_streams e y here way on = in_stream y.desc (in_claimed fixed x o v timely s m h puts w k pays b i e y here way on)

  new_begins : (e : ℕ) (y : Endpoint) → slice_get w.driver.endpoints e ≡ Some y → y.desc.name.way ≡ ways.In
      → is_inlet v y.desc.name.addr y.desc.name.num ≡ true → IsOpening w.driver y → Begins v []
  new_begins e y here way on opening = (concat v.packets, refl)

  -- ---- what each event leaves

  inlets_then : AreInlets v (driver_next w).driver
  inlets_then e z here =
      let u : WasIn w.driver.endpoints e z = was_end fixed x s m h w k e z here in
      subst (λ (c : EpDesc). IsInletBy v c c.name.way) (sym u.comes.desc) (i.inlets e u.endpoint u.here)

  fresh_then : ((q : ℕ) → (queued (driver_next w).driver).command ≡ Some (unfinished.Open q)
      → (queued w.driver).command ≡ Some (unfinished.Open q))
      → AreFresh (driver_next w).driver ways.In (is_inlet v) (λ addr ep. Unmoved v (wired fixed w))
  fresh_then opening =
      fresh_carried w.driver (driver_next w).driver (now_end fixed x s m h w k) opening ways.In (is_inlet v)
      (λ addr ep. Unmoved v (wired fixed w)) i.fresh

  abbrev Stands : Standing → List ℕ → ℕ → EpDesc → Type 0
  Stands t known q c = IsInBehind v.desc.kind v.packets (wired fixed w) v.hub v.place (timely (32 * q)) known t.parts (in_hand t)
      (32 * q) (asked_as c)

  -- ---- an endpoint that was met stands as it must

  module _ (t : Standing) (step : QueueStep s w (driver_next w) t) (e : ℕ) (z : Endpoint)
      (here : slice_get (driver_next w).driver.endpoints e ≡ Some z) (way : z.desc.name.way ≡ ways.In)
      (on : is_inlet v z.desc.name.addr z.desc.name.num ≡ true) (near_then : t.near (32 * z.queue) ≡ true)
      (near : s.near (32 * z.queue) ≡ true) (u : WasIn w.driver.endpoints e z)
      (is_met : IsMet (queued w.driver) e (queued_endpoint u.endpoint)) where
    abbrev y : Endpoint
    y = u.endpoint

    its_way : u.endpoint.desc.name.way ≡ ways.In
    its_way = ap (λ (c : EpDesc). c.name.way) (sym u.comes.desc) ∙ way

    its_on : is_inlet v u.endpoint.desc.name.addr u.endpoint.desc.name.num ≡ true
    its_on = ap (λ (c : EpDesc). is_inlet v c.name.addr c.name.num) (sym u.comes.desc) ∙ on

    abbrev n : ℕ
    n = 32 * u.endpoint.queue

    same : 32 * u.endpoint.queue ≡ 32 * z.queue
    same = ap (λ (q : ℕ). 32 * q) (sym u.comes.queue)

    is_in : IsThereIn w.driver (32 * u.endpoint.queue)
    is_in = record { number = e; endpoint = y; here = u.here; there = is_met.there; way_is = its_way; at = refl }

    its_then : Stands t (concat (m.acc (32 * u.endpoint.queue))) u.endpoint.queue u.endpoint.desc
    its_then =
        step_keeps_in_behind v.desc.kind v.packets (λ addr ep. false) (λ addr ep. false) (λ j. j == n) (λ j. false) s.ends s t w new
        (wired fixed w) v.hub v.place (timely n) (concat (m.acc n)) n (asked_as y.desc) k.mixed step (by_way s w k.mixed n is_in)
        (publishes_start w.driver b.first) (eq-eqb n n refl) (ap s.near same ∙ near) (ap t.near same ∙ near_then)
        (i.met e y u.here its_way its_on is_met)

    -- as it is described then
    pub met_still : Stands t (concat (m.acc (32 * z.queue))) z.queue z.desc
    met_still =
        subst (λ (c : EpDesc). Stands t (concat (m.acc (32 * z.queue))) z.queue c) (sym u.comes.desc)
        (subst (λ (q : ℕ). Stands t (concat (m.acc (32 * q))) q y.desc) (sym u.comes.queue) its_then)

  -- ---- each step but the end of an open

  module _ (t : Standing) (step : QueueStep s w (driver_next w) t) (other : IsNoOpening step) (mixed : IsMixedAt t (driver_next w))
      (next : IsTellingNext s m w (driver_next w) t step) where
    met_then : (e : ℕ) (z : Endpoint) → slice_get (driver_next w).driver.endpoints e ≡ Some z → z.desc.name.way ≡ ways.In
        → is_inlet v z.desc.name.addr z.desc.name.num ≡ true → IsMet (queued (driver_next w).driver) e (queued_endpoint z)
        → Stands t (concat (next.lines.acc (32 * z.queue))) z.queue z.desc
    met_then e z here way on is_met =
        let near_then : t.near (32 * z.queue) ≡ true = met_near (driver_next w).driver t.near mixed.queues.queues.met e z here is_met in
        let near : s.near (32 * z.queue) ≡ true = none_nearer s w (driver_next w) t step other (32 * z.queue) near_then in
        let was = was_met w.driver (driver_next w).driver s.near t.near k.mixed.now.framed.place.sound.owners k.mixed.queues.queues.met
        mixed.queues.queues.met (λ j u there its_met. was_end fixed x s m h w k j u there) e z here is_met near in
        subst (λ (acc : ℕ → List (List ℕ)). Stands t (concat (acc (32 * z.queue))) z.queue z.desc)
        (sym (none_more s w (driver_next w) t step other m next.lines next.after))
        (met_still t step e z here way on near_then near was.before was.met)

    pub driven_inward : ((e : ℕ) (z : Endpoint) → slice_get (driver_next w).driver.endpoints e ≡ Some z → z.desc.name.way ≡ ways.In
        → is_inlet v z.desc.name.addr z.desc.name.num ≡ true → z.gone ≡ true
        → Begins v (told_to (driver_next w).driver z.desc.name))
        → IsInward fixed v timely t next.lines (driver_next w)
    driven_inward gone_ins = record {
      claims = i.claims;
      inlets = inlets_then;
      hub = i.hub;
      met = met_then;
      fresh = fresh_then (opening_then fixed x s m h w k);
      left = record {
        unmet = λ e z here is on there off.
            unmet_then fixed x s m h w k ways.In (is_inlet v) (λ addr ep. Begins v) (λ e. in_ctl e) (begins_less v)
            in_streams in_begun new_begins i.left t step next.lines next.after other e z here is on there;
        gone = gone_ins;
      };
    }

    pub gone_left : IsNoReturn step → (e : ℕ) (z : Endpoint) → slice_get (driver_next w).driver.endpoints e ≡ Some z
        → z.desc.name.way ≡ ways.In → is_inlet v z.desc.name.addr z.desc.name.num ≡ true → z.gone ≡ true
        → Begins v (told_to (driver_next w).driver z.desc.name)
    gone_left none =
        gone_then fixed x s m h w k ways.In (is_inlet v) (λ addr ep. Begins v) (λ e. in_ctl e) (begins_less v)
        in_streams in_begun new_begins i.left t step none

  -- ---- the end of an open

  module _ (at : IsOpenThere (queued w.driver) s.parts) (t : Standing)
      (alike : QueuesAlike (open_finished (queued w.driver)) (queued (driver_next w).driver)) (opened : HasOpened s t at.endpoint)
      (mixed : IsMixedAt t (driver_next w)) (next : IsTellingNext s m w (driver_next w) t (opens at t alike opened)) where
    -- the one that was opened
    module _ (e : ℕ) (z : Endpoint) (here : slice_get (driver_next w).driver.endpoints e ≡ Some z) (way : z.desc.name.way ≡ ways.In)
        (on : is_inlet v z.desc.name.addr z.desc.name.num ≡ true)
        (is_met : IsMet (queued (driver_next w).driver) e (queued_endpoint z)) (own : 32 * z.queue ≡ 32 * at.endpoint.queue) where
      abbrev y_own : Endpoint
      y_own = O.y fixed x s m h w k at t alike opened mixed next

      desc_is : z.desc ≡ y_own.desc
      desc_is = O.opened_one fixed x s m h w k at t alike opened mixed next e z here is_met own

      abbrev n_own : ℕ
      n_own = 32 * at.endpoint.queue

      its_here : slice_get w.driver.endpoints at.number ≡ Some y_own
      its_here = (O.its fixed x s m h w k at t alike opened mixed next).here

      own_way : y_own.desc.name.way ≡ ways.In
      own_way = ap (λ (c : EpDesc). c.name.way) (sym desc_is) ∙ way

      own_on : is_inlet v y_own.desc.name.addr y_own.desc.name.num ≡ true
      own_on = ap (λ (c : EpDesc). is_inlet v c.name.addr c.name.num) (sym desc_is) ∙ on

      own_desc : y_own.desc ≡ v.desc
      own_desc = is_its fixed x o v timely s m h puts w k pays b i at.number y_own its_here own_way own_on

      its_claimed : is_in_below y_own.desc ≡ true
      its_claimed = in_claimed fixed x o v timely s m h puts w k pays b i at.number y_own its_here own_way own_on

      ins : IsIn (t.parts (32 * at.endpoint.queue))
      ins a u there_it active = none_active s w at a u ((opened.told.parts n_own).elements_were a u there_it) active

      unmoved : Unmoved v (wired fixed w)
      unmoved =
          i.fresh y_own.desc.name.addr y_own.desc.name.num own_on
          (O.unused fixed x s m h w k at t alike opened mixed next ways.In own_way)

      its_inward : Stands t [] at.endpoint.queue y_own.desc
      its_inward =
          head_opens_in v.desc.kind v.packets (wired fixed w) v.hub v.place (timely n_own) t.parts (in_hand t) n_own (asked_as y_own.desc)
          (O.head_then fixed x s m h w k at t alike opened mixed next).named.queue
          (O.head_then fixed x s m h w k at t alike opened mixed next).named.head
          (O.head_then fixed x s m h w k at t alike opened mixed next).named.is (in_slow y_own.desc its_claimed)
          (no_control y_own.desc.kind (in_stream y_own.desc its_claimed)) ins
          (λ a u there_it active. none_active s w at a u ((opened.told.parts n_own).elements_were a u there_it) active)
          (new_first t n_own (asked_as y_own.desc) (O.head_then fixed x s m h w k at t alike opened mixed next)
          (no_control y_own.desc.kind (in_stream y_own.desc its_claimed))
          (O.head_then fixed x s m h w k at t alike opened mixed next).named.queue
          (O.head_then fixed x s m h w k at t alike opened mixed next).named.head)
          (subst (λ (c : EpDesc). IsAtHub (wired fixed w).bus.hubs (asked_as c).hub (asked_as c).port v.hub v.place) (sym own_desc) i.hub)
          (λ going.
          subst (λ (c : EpDesc). InSide v.packets (told_key v.desc.kind Directions.In (asked_as c)) v.hub v.place
          (wired fixed w) false false going (timely n_own) [])
          (sym own_desc) (unmoved going (timely n_own)))

      none_moved : concat (next.lines.acc (32 * z.queue)) ≡ []
      none_moved = ap (λ (j : ℕ). concat (next.lines.acc j)) own ∙ ap concat next.after.none

      opened_met : Stands t (concat (next.lines.acc (32 * z.queue))) z.queue z.desc
      opened_met =
          subst (λ (bs : List ℕ). Stands t bs z.queue z.desc) (sym none_moved)
          (subst (λ (q : ℕ). Stands t [] q z.desc) (sym (same_blocks z.queue at.endpoint.queue own))
          (subst (λ (c : EpDesc). Stands t [] at.endpoint.queue c) (sym desc_is) its_inward))

    met_opened : (e : ℕ) (z : Endpoint) → slice_get (driver_next w).driver.endpoints e ≡ Some z → z.desc.name.way ≡ ways.In
        → is_inlet v z.desc.name.addr z.desc.name.num ≡ true → IsMet (queued (driver_next w).driver) e (queued_endpoint z)
        → Stands t (concat (next.lines.acc (32 * z.queue))) z.queue z.desc
    met_opened e z here way on is_met =
        ⊎_elim (λ (own : 32 * z.queue ≡ 32 * at.endpoint.queue). opened_met e z here way on is_met own)
        (λ (differs : 32 * z.queue ≢ 32 * at.endpoint.queue).
        let was = O.met_before fixed x s m h w k at t alike opened mixed next e z here is_met differs in
        let near_then : t.near (32 * z.queue) ≡ true = met_near (driver_next w).driver t.near mixed.queues.queues.met e z here is_met in
        let near : s.near (32 * z.queue) ≡ true = O.near_was fixed x s m h w k at t alike opened mixed next (32 * z.queue) near_then differs
        in
        subst (λ (acc : List (List ℕ)). Stands t (concat acc) z.queue z.desc)
        (sym (next.after.moved (32 * z.queue) differs))
        (met_still t (opens at t alike opened) e z here way on near_then near was.before was.met))
        (cases_eq (32 * z.queue) (32 * at.endpoint.queue))

    pub opened_inward : IsInward fixed v timely t next.lines (driver_next w)
    opened_inward = record {
      claims = i.claims;
      inlets = inlets_then;
      hub = i.hub;
      met = met_opened;
      fresh = fresh_then (λ q is. absurd (none_some (unfinished.Open q) (sym alike.command ∙ is)));
      left = record {
        unmet = λ e z here is on there off.
            unmet_opened fixed x s m h w k ways.In (is_inlet v) (λ addr ep. Begins v) (λ e. in_ctl e) (begins_less v)
            in_streams in_begun new_begins i.left t (opens at t alike opened) next.lines at next.after e z here is on there;
        gone = gone_then fixed x s m h w k ways.In (is_inlet v) (λ addr ep. Begins v) (λ e. in_ctl e) (begins_less v)
            in_streams in_begun new_begins i.left t (opens at t alike opened) tt;
      };
    }

  -- ---- any

  pub driver_leaves_inward : (t : Standing) (step : QueueStep s w (driver_next w) t) → IsMixedAt t (driver_next w)
      → (next : IsTellingNext s m w (driver_next w) t step) → IsInward fixed v timely t next.lines (driver_next w)
  driver_leaves_inward t (opens at _ alike opened) mixed next = opened_inward at t alike opened mixed next
  driver_leaves_inward t (goes e y d _ back is) mixed next =
      driven_inward t (goes e y d t back is) tt mixed next
      (gone_returned fixed x s m h w k ways.In (is_inlet v) (λ addr ep. Begins v) (λ e. in_ctl e) (begins_less v)
      in_streams in_begun new_begins i.left t (goes e y d t back is) e y d back is mixed)
  driver_leaves_inward t (stays _ none still) mixed next =
      driven_inward t (stays t none still) tt mixed next (gone_left t (stays t none still) tt mixed next tt)
  driver_leaves_inward t (harvests e u found due later row out) mixed next =
      driven_inward t (harvests e u found due later row out) tt mixed next
      (gone_left t (harvests e u found due later row out) tt mixed next tt)
  driver_leaves_inward t (returns u y v row r) mixed next =
      driven_inward t (returns u y v row r) tt mixed next (gone_left t (returns u y v row r) tt mixed next tt)
  driver_leaves_inward t (lends q words get order out row after) mixed next =
      driven_inward t (lends q words get order out row after) tt mixed next
      (gone_left t (lends q words get order out row after) tt mixed next tt)
  driver_leaves_inward t (stores q words g is) mixed next =
      driven_inward t (stores q words g is) tt mixed next (gone_left t (stores q words g is) tt mixed next tt)
  driver_leaves_inward t (mends at row) mixed next =
      driven_inward t (mends at row) tt mixed next (gone_left t (mends at row) tt mixed next tt)
  driver_leaves_inward t (begins at row alike) mixed next =
      driven_inward t (begins at row alike) tt mixed next (gone_left t (begins at row alike) tt mixed next tt)
  driver_leaves_inward t (unlinks at row) mixed next =
      driven_inward t (unlinks at row) tt mixed next (gone_left t (unlinks at row) tt mixed next tt)
  driver_leaves_inward t (narrows member near row are fewer) mixed next =
      driven_inward t (narrows member near row are fewer) tt mixed next (gone_left t (narrows member near row are fewer) tt mixed next tt)
