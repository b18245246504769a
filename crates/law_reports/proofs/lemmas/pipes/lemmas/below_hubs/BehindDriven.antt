-- Each event of the driver leaves the OUT endpoints with a stream below hubs as they must stand, with what was put to them.
use Rattle.std.proofs.Common.{◌≡◌, ◌≢◌, ℕ, ◌*◌, ◌==◌, true, false, List, [], slice_get, Option, Some, None, ap, refl, sym}
use Rattle.std.proofs.Common.{subst, ◌∙◌, ⊎_elim, inl, inr}
use Rattle.std.specs.Prelude.{◌⊎◌}
use Rattle.std.specs.List.{concat}
use Rattle.std.proofs.lemmas.Bool.{cases_eq, cases_Bool, eq-eqb}
use Rattle.std.proofs.lemmas.List.{append-nil}
use Rattle.law_reports.proofs.Common.{queue_open}
use Rattle.law_world.proofs.Common.{begins_both, begins_all, none_some, no_control, same_queue}
use Rattle.law_common.proofs.Booleans.{not_high}
use Rattle.law_common.proofs.Numbers.{same_blocks}
use Rattle.std.proofs.lemmas.Bool.{and_parts, true≢false}
use Rattle.std.specs.Prelude.{◌&&◌, not}
use Rattle.usb_base.specs.declared.endpoints.EpDesc.{EpDesc}
use Rattle.usb_base.specs.declared.packets.Dir.TheVariants as Directions
use Rattle.usb_base.specs.declared.packets.Speed.{Speed}
use Rattle.usb_base.specs.declared.packets.Speed.TheVariants as speeds
use Rattle.usb_base.specs.declared.packets.Way.TheVariants as ways
use Rattle.hub_keys.specs.declared.key.Key.{Key}
use Rattle.bus_wire.specs.Bus.{Fixed, Wired}
use Rattle.claims_base.specs.Prefix.{IsPrefix}
use Rattle.claims_driver.specs.Scripts.{receives}
use Rattle.claims_report.specs.Streams.{has_stream}
use Rattle.claims_world.specs.BelowStreams.{is_out_below}
use Rattle.drv_table.specs.declared.content.Command.TheVariants as unfinished
use Rattle.drv_table.specs.declared.content.Endpoint.{Endpoint}
use Rattle.drv_table.specs.DriverContent.{DriverContent}
use Rattle.drv_table.specs.Words.{is_high, speed_field}
use Rattle.law_driver.specs.endpoint_lives.Lives.{may_meet}
use Rattle.law_driver.specs.queued_drivers.Queued.{queued_endpoint, queued}
use Rattle.law_driver.specs.queued_drivers.Rows.{QueuesAlike}
use Rattle.law_driver_ring.specs.fed_queues.Places.{IsThere, IsMet}
use Rattle.law_queues.specs.leaving_drivers.Told.{told_to}
use Rattle.law_queues.specs.open_laws.Queues.{IsOpenThere, open_finished}
use Rattle.law_ring.specs.OutPipes.{IsOut}
use Rattle.law_below_hubs.specs.HostEvents.{hand_host, told_key, IsOutBehind}
use Rattle.law_below_hubs.specs.HostOuts.{OutSide}
use Rattle.law_below_hubs.proofs.HostOpens.{head_opens_out}
use Rattle.law_world.specs.steps.Streaming.{wired}
use Rattle.law_world.specs.memory.Mixed.{Standing, IsMixedAt}
use Rattle.law_world.specs.memory.Steps.{HasOpened, QueueStep, stays, harvests, returns, lends, stores, mends, begins, opens}
use Rattle.law_world.specs.memory.Steps.{unlinks, narrows}
use Rattle.law_world.specs.memory.Steps.{goes}
use Rattle.law_world.specs.memory.pipe_steps.Laws.{IsNoOpening}
use Rattle.law_world.specs.streams.put_laws.TakenPuts.{puts_of}
use Rattle.law_world.proofs.lemmas.streams.lemmas.put_laws.Stays.{event_stays}
use Rattle.bus_world.specs.World.{World, driver_parts, driver_next}
use Rattle.law_reports.specs.lines.Lined.{in_hand, Lines}
use Rattle.law_reports.specs.lines.TellingLaws.{IsTellingNext}
use Rattle.law_reports.specs.pipes.Declared.{Sides}
use Rattle.law_reports.specs.pipes.Piped.{Heads, asked_as, IsOpening, AreFresh, AreLeft, IsPiped}
use Rattle.law_reports.specs.pipes.puts.Paid.{Pays}
use Rattle.law_reports.specs.pipes.below_hubs.Behind.{Spots, kind_at, IsSpot, AreSpots, sent_in, IsUnsent}
use Rattle.law_reports.specs.pipes.below_hubs.Behind.{Within, HasLeft}
use Rattle.law_reports.specs.pipes.below_hubs.Behind.{IsMetOut, AreInsRight, IsBehind}
use Rattle.law_reports.proofs.lemmas.quiet.Steps.{driver_publishes}
use Rattle.law_reports.proofs.lemmas.pipes.Across.{WasIn}
use Rattle.law_reports.proofs.lemmas.pipes.Carried.{was_met, fresh_carried}
use Rattle.law_reports.proofs.lemmas.pipes.Driven.{was_end, now_end, opening_then}
use Rattle.law_reports.proofs.lemmas.pipes.DrivenSteps.{none_more, none_nearer}
use Rattle.law_reports.proofs.lemmas.pipes.Followed.{there_by, unmet_then, gone_then, unmet_opened, gone_returned}
use Rattle.law_reports.proofs.lemmas.pipes.Leaving.{IsNoReturn, step_opens}
use Rattle.law_reports.proofs.lemmas.pipes.Names.{queue_same, met_near}
use Rattle.law_reports.proofs.lemmas.pipes.Opened as O
use Rattle.law_reports.proofs.lemmas.pipes.lemmas.below_hubs.BehindControlled.{claimed_stream, spot, claimed, its_name}
use Rattle.law_reports.proofs.lemmas.pipes.lemmas.below_hubs.InsSteps.{step_ins, opened_ins, none_active}
use Rattle.law_reports.proofs.lemmas.pipes.StartingHeads.{new_first}
use Rattle.law_reports.proofs.lemmas.pipes.lemmas.below_hubs.Starting.{publishes_start}
use Rattle.law_reports.proofs.lemmas.pipes.lemmas.below_hubs.Steps.{step_keeps_out_behind}
use Rattle.law_reports.proofs.lemmas.pipes.lemmas.puts.Driving.{puts_alike}
use Rattle.law_reports.proofs.lemmas.pipes.lemmas.puts.Steps.{IsThereOut, by_way}

-- ---- one that left

pub left_as : (o : Spots) (wire : Wired) (A B : ℕ → ℕ → List ℕ → Type 0) (d : DriverContent) (acc : ℕ → List (List ℕ))
    → ((e : ℕ) (z : Endpoint) → slice_get d.endpoints e ≡ Some z → z.desc.name.way ≡ ways.Out
    → (IsThere (queued d) (queued_endpoint z)) ⊎ (z.gone ≡ true) → (bs : List ℕ) → A z.desc.name.addr z.desc.name.num bs
    → B z.desc.name.addr z.desc.name.num bs)
    → AreLeft d acc ways.Out o.has (HasLeft o wire A) → AreLeft d acc ways.Out o.has (HasLeft o wire B)
left_as o wire A B d acc carried k = record {
  unmet = λ e y here way on there off.
      one e y here way (inl there) (concat (acc (32 * y.queue))) (k.unmet e y here way on there off);
  gone = λ e y here way on gone. one e y here way (inr gone) _ (k.gone e y here way on gone);
}
  where
    one : (e : ℕ) (z : Endpoint) → slice_get d.endpoints e ≡ Some z → z.desc.name.way ≡ ways.Out
        → (IsThere (queued d) (queued_endpoint z)) ⊎ (z.gone ≡ true) → (bytes : List ℕ)
        → HasLeft o wire A z.desc.name.addr z.desc.name.num bytes → HasLeft o wire B z.desc.name.addr z.desc.name.num bytes
    one e z here way life bytes l = record {
      toggle = l.toggle;
      waiting = l.waiting;
      known = l.known;
      next = l.next;
      side = l.side;
      begins = l.begins;
      within = carried e z here way life (sent_in l.known l.next) l.within;
    }

pub left_less : (o : Spots) (wire : Wired) (A : ℕ → ℕ → List ℕ → Type 0) (addr ep : ℕ) (bytes more : List ℕ) → IsPrefix bytes more
    → HasLeft o wire A addr ep more → HasLeft o wire A addr ep bytes
left_less o wire A addr ep bytes more front l = record {
  toggle = l.toggle;
  waiting = l.waiting;
  known = l.known;
  next = l.next;
  side = l.side;
  begins = begins_both bytes more l.known front l.begins;
  within = l.within;
}

-- ---- the speed of one below a hub

pub slow_field : (speed : Speed) → is_high speed ≡ false → (speed_field speed == 2) ≡ false
slow_field speeds.High off = absurd (true≢false off)
slow_field speeds.Full off = refl
slow_field speeds.Low off = refl

pub claimed_slow : (x : EpDesc) → is_out_below x ≡ true → ((asked_as x).speed == 2) ≡ false
claimed_slow x is =
    slow_field x.speed (not_high (is_high x.speed)
    (sym (and_parts (not (is_high x.speed)) (not (receives x.name.way))
    (and_parts (has_stream x.kind) (not (is_high x.speed) && not (receives x.name.way)) is).1).0))

out_ctl : ways.Out ≡ ways.Ctl → ⊥
out_ctl e = cc

module _ (fixed : Fixed) (x : Sides) (o : Spots) (s : Standing) (m : Lines) (h : Heads) (puts : ℕ → List ℕ) (w : World)
    (k : IsPiped fixed x s m h w) (pays : Pays fixed x s m puts w) (b : IsBehind fixed o s m puts w) where
  abbrev new : World
  new = driver_next w

  abbrev Left : ℕ → ℕ → List ℕ → Type 0
  Left = HasLeft o (wired fixed w) (Within puts w.driver)

  puts_same : (e : ℕ) → concat (puts_of (queued w.driver) puts e) ≡ concat (puts_of (queued (driver_next w).driver) puts e)
  puts_same e = ap concat (sym (puts_alike w.driver (driver_next w).driver (event_stays (driver_parts w)).owners puts e))

  -- ---- one that is met has left so, too

  pub met_left : (e : ℕ) (y : Endpoint) → slice_get w.driver.endpoints e ≡ Some y → y.desc.name.way ≡ ways.Out
      → o.has y.desc.name.addr y.desc.name.num ≡ true → IsMet (queued w.driver) e (queued_endpoint y)
      → HasLeft o (wired fixed w) (Within puts w.driver) y.desc.name.addr y.desc.name.num (concat (m.acc (32 * y.queue)))
  met_left e y here way on is_met =
      let old = b.met e y here way on is_met in
      let u = old.behind in
      record {
        toggle = (hand_host (in_hand s) (32 * y.queue) u.queue).toggle;
        waiting = (hand_host (in_hand s) (32 * y.queue) u.queue).waiting;
        known = concat (m.acc (32 * y.queue));
        next = u.host.next;
        side = subst (λ (key : Key). OutSide key (o.hub y.desc.name.addr y.desc.name.num) (o.place y.desc.name.addr y.desc.name.num)
            (wired fixed w) (hand_host (in_hand s) (32 * y.queue) u.queue).toggle (hand_host (in_hand s) (32 * y.queue) u.queue).waiting
            (concat (m.acc (32 * y.queue))) u.host.next) (sym (ap (told_key
            (kind_at o y.desc.name.addr y.desc.name.num) Directions.Out) u.is)) u.host.side;
        begins = ([], append-nil (concat (m.acc (32 * y.queue))));
        within = λ f v there its addr num.
            subst (λ (i : ℕ). IsPrefix (sent_in (concat (m.acc (32 * y.queue))) u.host.next) (concat (puts_of (queued w.driver) puts i)))
            (sym (its_name fixed x o s m h puts w k pays b e y here way on f v there its addr num).0) old.within;
      }

  -- .. as what moved of it begins, wherever it is
  pub begun : (e : ℕ) (y : Endpoint) → slice_get w.driver.endpoints e ≡ Some y → y.desc.name.way ≡ ways.Out
      → o.has y.desc.name.addr y.desc.name.num ≡ true → IsThere (queued w.driver) (queued_endpoint y)
      → HasLeft o (wired fixed w) (Within puts w.driver) y.desc.name.addr y.desc.name.num (concat (m.acc (32 * y.queue)))
  begun e y here way on there =
      ⊎_elim (λ (near : may_meet (queued w.driver) e (queued_endpoint y) ≡ true).
      met_left e y here way on (record { there = there; near = near }))
      (λ (off : may_meet (queued w.driver) e (queued_endpoint y) ≡ false). b.left.unmet e y here way on there off)
      (cases_Bool (may_meet (queued w.driver) e (queued_endpoint y)))

  pub streams_are : (e : ℕ) (y : Endpoint) → slice_get w.driver.endpoints e ≡ Some y → y.desc.name.way ≡ ways.Out
      → o.has y.desc.name.addr y.desc.name.num ≡ true → has_stream y.desc.kind ≡ true
  streams_are e y here way on = claimed_stream y.desc (claimed fixed x o s m h puts w k pays b e y here way on)

  pub new_begins : (e : ℕ) (y : Endpoint) → slice_get w.driver.endpoints e ≡ Some y → y.desc.name.way ≡ ways.Out
      → o.has y.desc.name.addr y.desc.name.num ≡ true → IsOpening w.driver y
      → HasLeft o (wired fixed w) (Within puts w.driver) y.desc.name.addr y.desc.name.num []
  new_begins e y here way on opening = record {
    toggle = false;
    waiting = false;
    known = [];
    next = None;
    side = b.fresh y.desc.name.addr y.desc.name.num on
        (λ f v there its addr num.
        subst (IsOpening w.driver) (sym (its_name fixed x o s m h puts w k pays b e y here way on f v there its addr num).1) opening);
    begins = ([], refl);
    within = λ f v there its addr num. begins_all [] (concat (puts_of (queued w.driver) puts f)) refl;
  }

  -- ---- what each event leaves

  within_then : (addr ep : ℕ) (bs : List ℕ) → Within puts w.driver addr ep bs → Within puts (driver_next w).driver addr ep bs
  within_then addr ep bs old e z here way same also =
      let v : WasIn w.driver.endpoints e z = was_end fixed x s m h w k e z here in
      subst (IsPrefix bs) (puts_same e)
      (old e v.endpoint v.here (ap (λ (c : EpDesc). c.name.way) (sym v.comes.desc) ∙ way)
      (ap (λ (c : EpDesc). c.name.addr) (sym v.comes.desc) ∙ same) (ap (λ (c : EpDesc). c.name.num) (sym v.comes.desc) ∙ also))

  spots_then : AreSpots o (driver_next w).driver
  spots_then e z here =
      let v : WasIn w.driver.endpoints e z = was_end fixed x s m h w k e z here in
      subst (IsSpot o) (sym v.comes.desc) (b.spots e v.endpoint v.here)

  fresh_then : ((q : ℕ) → (queued (driver_next w).driver).command ≡ Some (unfinished.Open q)
      → (queued w.driver).command ≡ Some (unfinished.Open q)) → AreFresh (driver_next w).driver ways.Out o.has (IsUnsent o (wired fixed w))
  fresh_then opening =
      fresh_carried w.driver (driver_next w).driver (now_end fixed x s m h w k) opening ways.Out o.has (IsUnsent o (wired fixed w)) b.fresh

  -- ---- an endpoint that was met stands as it must

  module _ (t : Standing) (step : QueueStep s w (driver_next w) t) (e : ℕ) (z : Endpoint)
      (here : slice_get (driver_next w).driver.endpoints e ≡ Some z) (way : z.desc.name.way ≡ ways.Out)
      (on : o.has z.desc.name.addr z.desc.name.num ≡ true) (near_then : t.near (32 * z.queue) ≡ true)
      (near : s.near (32 * z.queue) ≡ true) (v : WasIn w.driver.endpoints e z)
      (is_met : IsMet (queued w.driver) e (queued_endpoint v.endpoint)) where
    abbrev y : Endpoint
    y = v.endpoint

    its_way : v.endpoint.desc.name.way ≡ ways.Out
    its_way = ap (λ (c : EpDesc). c.name.way) (sym v.comes.desc) ∙ way

    its_on : o.has v.endpoint.desc.name.addr v.endpoint.desc.name.num ≡ true
    its_on = ap (λ (c : EpDesc). o.has c.name.addr c.name.num) (sym v.comes.desc) ∙ on

    abbrev n : ℕ
    n = 32 * v.endpoint.queue

    same : 32 * v.endpoint.queue ≡ 32 * z.queue
    same = ap (λ (q : ℕ). 32 * q) (sym v.comes.queue)

    is_out : IsThereOut w.driver (32 * v.endpoint.queue)
    is_out = record { number = e; endpoint = y; here = v.here; there = is_met.there; way_is = its_way; at = refl }

    old : IsMetOut o (wired fixed w) (concat (m.acc (32 * v.endpoint.queue))) (concat (puts_of (queued w.driver) puts e)) s v.endpoint
    old = b.met e y v.here its_way its_on is_met

    its_then : IsMetOut o (wired fixed w) (concat (m.acc (32 * v.endpoint.queue))) (concat (puts_of (queued w.driver) puts e)) t v.endpoint
    its_then =
        let r = step_keeps_out_behind (kind_at o y.desc.name.addr y.desc.name.num) (λ addr ep. false) (λ addr ep. false) (λ i. false)
        (λ i. i == n) s.ends s t w new (wired fixed w)
        (o.hub y.desc.name.addr y.desc.name.num) (o.place y.desc.name.addr y.desc.name.num) (concat (m.acc n)) n (asked_as y.desc) k.mixed
        step (by_way s m w k.mixed k.telling n is_out (pays.outs e y v.here is_met.there its_way).whole)
        (publishes_start w.driver b.first) (eq-eqb n n refl) (ap s.near same ∙ near) (ap t.near same ∙ near_then) old.behind in
        record {
          behind = r.0;
          within = subst (λ (p : Option (List ℕ)). IsPrefix (sent_in (concat (m.acc n)) p) (concat (puts_of (queued w.driver) puts e)))
              (sym r.1) old.within;
        }

    abbrev As : EpDesc → ℕ → List ℕ → Type 0
    As c q all = IsMetOut o (wired fixed w) (concat (m.acc (32 * q))) all t (record z { desc = c; queue = q })

    -- as it is described then
    pub met_still : IsMetOut o (wired fixed w) (concat (m.acc (32 * z.queue))) (concat (puts_of (queued (driver_next w).driver) puts e)) t z
    met_still =
        subst (λ (all : List ℕ). As z.desc z.queue all) (puts_same e)
        (subst (λ (c : EpDesc). As c z.queue (concat (puts_of (queued w.driver) puts e))) (sym v.comes.desc)
        (subst (λ (q : ℕ). As y.desc q (concat (puts_of (queued w.driver) puts e))) (sym v.comes.queue)
        (record { behind = its_then.behind; within = its_then.within })))

  -- ---- each step but the end of an open

  module _ (t : Standing) (step : QueueStep s w (driver_next w) t) (other : IsNoOpening step) (mixed : IsMixedAt t (driver_next w))
      (next : IsTellingNext s m w (driver_next w) t step) where
    ins_then : AreInsRight t (driver_next w).driver
    ins_then e z here there way =
        let v : WasIn w.driver.endpoints e z = was_end fixed x s m h w k e z here in
        let y : Endpoint = v.endpoint in
        let was_there : IsThere (queued w.driver) (queued_endpoint y) =
        there_by fixed x s m h w k e z v there.kept (λ opening.
        there.linked (step_opens s w k.mixed t step other y.queue opening
        ∙ queue_open y.queue (queued_endpoint z).queue (sym v.comes.queue ∙ sym (queue_same z)))) in
        let its_way : y.desc.name.way ≡ ways.In = ap (λ (c : EpDesc). c.name.way) (sym v.comes.desc) ∙ way in
        let same : 32 * z.queue ≡ 32 * y.queue = ap (λ (q : ℕ). 32 * q) v.comes.queue in
        step_ins s w k.mixed (32 * z.queue)
        (record { number = e; endpoint = y; here = v.here; there = was_there; way_is = its_way; at = same })
        (λ a u there_it on. b.ins e y v.here was_there its_way a u (ap (λ (i : ℕ). s.parts i a) (sym same) ∙ there_it) on)
        new t step other

    met_then : (e : ℕ) (z : Endpoint) → slice_get (driver_next w).driver.endpoints e ≡ Some z → z.desc.name.way ≡ ways.Out
        → o.has z.desc.name.addr z.desc.name.num ≡ true → IsMet (queued (driver_next w).driver) e (queued_endpoint z)
        → IsMetOut o (wired fixed w) (concat (next.lines.acc (32 * z.queue))) (concat (puts_of (queued (driver_next w).driver) puts e)) t z
    met_then e z here way on is_met =
        let near_then : t.near (32 * z.queue) ≡ true = met_near (driver_next w).driver t.near mixed.queues.queues.met e z here is_met in
        let near : s.near (32 * z.queue) ≡ true = none_nearer s w (driver_next w) t step other (32 * z.queue) near_then in
        let was = was_met w.driver (driver_next w).driver s.near t.near k.mixed.now.framed.place.sound.owners k.mixed.queues.queues.met
        mixed.queues.queues.met (λ i u there its_met. was_end fixed x s m h w k i u there) e z here is_met near in
        subst (λ (acc : ℕ → List (List ℕ)). IsMetOut o (wired fixed w) (concat (acc (32 * z.queue)))
        (concat (puts_of (queued (driver_next w).driver) puts e)) t z)
        (sym (none_more s w (driver_next w) t step other m next.lines next.after))
        (met_still t step e z here way on near_then near was.before was.met)

    pub driven_behind : ((e : ℕ) (z : Endpoint) → slice_get (driver_next w).driver.endpoints e ≡ Some z → z.desc.name.way ≡ ways.Out
        → o.has z.desc.name.addr z.desc.name.num ≡ true → z.gone ≡ true
        → Left z.desc.name.addr z.desc.name.num (told_to (driver_next w).driver z.desc.name))
        → IsBehind fixed o t next.lines puts (driver_next w)
    driven_behind gone_outs = record {
      ins = ins_then;
      first = driver_publishes s w k.mixed b.first;
      spots = spots_then;
      hubs = b.hubs;
      met = met_then;
      fresh = fresh_then (opening_then fixed x s m h w k);
      left = left_as o (wired fixed w) (Within puts w.driver) (Within puts (driver_next w).driver) (driver_next w).driver next.lines.acc
          (λ e z here way life bs old. within_then z.desc.name.addr z.desc.name.num bs old)
          (record {
            unmet = λ e z here is on there off.
                unmet_then fixed x s m h w k ways.Out o.has Left (λ e. out_ctl e) (left_less o (wired fixed w) (Within puts w.driver))
                streams_are begun new_begins b.left t step next.lines next.after other e z here is on there;
            gone = gone_outs;
          });
    }

    pub gone_left : IsNoReturn step → (e : ℕ) (z : Endpoint) → slice_get (driver_next w).driver.endpoints e ≡ Some z
        → z.desc.name.way ≡ ways.Out → o.has z.desc.name.addr z.desc.name.num ≡ true → z.gone ≡ true
        → HasLeft o (wired fixed w) (Within puts w.driver) z.desc.name.addr z.desc.name.num (told_to (driver_next w).driver z.desc.name)
    gone_left none =
        gone_then fixed x s m h w k ways.Out o.has Left (λ e. out_ctl e) (left_less o (wired fixed w) (Within puts w.driver))
        streams_are begun new_begins b.left t step none

  -- ---- the end of an open

  module _ (at : IsOpenThere (queued w.driver) s.parts) (t : Standing)
      (alike : QueuesAlike (open_finished (queued w.driver)) (queued (driver_next w).driver)) (opened : HasOpened s t at.endpoint)
      (mixed : IsMixedAt t (driver_next w)) (next : IsTellingNext s m w (driver_next w) t (opens at t alike opened)) where
    ins_opened : AreInsRight t (driver_next w).driver
    ins_opened e z here there way =
        let v : WasIn w.driver.endpoints e z = was_end fixed x s m h w k e z here in
        let y : Endpoint = v.endpoint in
        let same : 32 * z.queue ≡ 32 * y.queue = ap (λ (q : ℕ). 32 * q) v.comes.queue in
        opened_ins s w at t opened (32 * z.queue)
        (λ differs.
        let was_there : IsThere (queued w.driver) (queued_endpoint y) =
        there_by fixed x s m h w k e z v there.kept (λ opening.
        differs (same ∙ ap (λ (q : ℕ). 32 * q) (same_queue y.queue at.endpoint.queue (sym opening ∙ at.command)))) in
        λ a u there_it active. b.ins e y v.here was_there (ap (λ (c : EpDesc). c.name.way) (sym v.comes.desc) ∙ way) a u
        (ap (λ (i : ℕ). s.parts i a) (sym same) ∙ there_it) active)

    -- the one that was opened
    module _ (e : ℕ) (z : Endpoint) (here : slice_get (driver_next w).driver.endpoints e ≡ Some z) (way : z.desc.name.way ≡ ways.Out)
        (on : o.has z.desc.name.addr z.desc.name.num ≡ true)
        (is_met : IsMet (queued (driver_next w).driver) e (queued_endpoint z)) (own : 32 * z.queue ≡ 32 * at.endpoint.queue) where
      abbrev y_own : Endpoint
      y_own = O.y fixed x s m h w k at t alike opened mixed next

      desc_is : z.desc ≡ y_own.desc
      desc_is = O.opened_one fixed x s m h w k at t alike opened mixed next e z here is_met own

      abbrev n_own : ℕ
      n_own = 32 * at.endpoint.queue

      its_here : slice_get w.driver.endpoints at.number ≡ Some y_own
      its_here = (O.its fixed x s m h w k at t alike opened mixed next).here

      own_way : y_own.desc.name.way ≡ ways.Out
      own_way = ap (λ (c : EpDesc). c.name.way) (sym desc_is) ∙ way

      own_on : o.has y_own.desc.name.addr y_own.desc.name.num ≡ true
      own_on = ap (λ (c : EpDesc). o.has c.name.addr c.name.num) (sym desc_is) ∙ on

      its_claimed : is_out_below y_own.desc ≡ true
      its_claimed = claimed fixed x o s m h puts w k pays b at.number y_own its_here own_way own_on

      outs : IsOut (t.parts (32 * at.endpoint.queue))
      outs a u there_it active = none_active s w at a u ((opened.told.parts n_own).elements_were a u there_it) active

      abbrev Begins : EpDesc → ℕ → List ℕ → Type 0
      Begins c q known = (u : IsOutBehind (kind_at o c.name.addr c.name.num) (wired fixed w) (o.hub c.name.addr c.name.num)
          (o.place c.name.addr c.name.num) known t.parts
          (in_hand t) (32 * q) (asked_as c)) × (u.host.next ≡ None)

      its_behind : Begins y_own.desc at.endpoint.queue []
      its_behind =
          head_opens_out (kind_at o y_own.desc.name.addr y_own.desc.name.num) (wired fixed w)
          (o.hub y_own.desc.name.addr y_own.desc.name.num) (o.place y_own.desc.name.addr y_own.desc.name.num)
          t.parts
          (in_hand t) n_own (asked_as y_own.desc) (O.head_then fixed x s m h w k at t alike opened mixed next).named.queue
          (O.head_then fixed x s m h w k at t alike opened mixed next).named.head
          (O.head_then fixed x s m h w k at t alike opened mixed next).named.is (claimed_slow y_own.desc its_claimed)
          (no_control y_own.desc.kind (claimed_stream y_own.desc its_claimed)) outs
          (λ a u there_it active. none_active s w at a u ((opened.told.parts n_own).elements_were a u there_it) active)
          (new_first t n_own (asked_as y_own.desc) (O.head_then fixed x s m h w k at t alike opened mixed next)
          (no_control y_own.desc.kind (claimed_stream y_own.desc its_claimed))
          (O.head_then fixed x s m h w k at t alike opened mixed next).named.queue
          (O.head_then fixed x s m h w k at t alike opened mixed next).named.head)
          (b.hubs _ _ _ _ ((spot fixed x o s m h puts w k pays b at.number y_own its_here own_way own_on).hub own_on))
          (b.fresh y_own.desc.name.addr y_own.desc.name.num own_on
          (O.unused fixed x s m h w k at t alike opened mixed next ways.Out own_way))

      none_moved : concat (next.lines.acc (32 * z.queue)) ≡ []
      none_moved = ap (λ (i : ℕ). concat (next.lines.acc i)) own ∙ ap concat next.after.none

      begins_so : Begins z.desc z.queue (concat (next.lines.acc (32 * z.queue)))
      begins_so =
          subst (λ (bs : List ℕ). Begins z.desc z.queue bs) (sym none_moved)
          (subst (λ (q : ℕ). Begins z.desc q []) (sym (same_blocks z.queue at.endpoint.queue own))
          (subst (λ (c : EpDesc). Begins c at.endpoint.queue []) (sym desc_is) its_behind))

      opened_met : IsMetOut o (wired fixed w) (concat (next.lines.acc (32 * z.queue)))
          (concat (puts_of (queued (driver_next w).driver) puts e)) t z
      opened_met = record {
        behind = begins_so.0;
        within = subst (λ (p : Option (List ℕ)). IsPrefix (sent_in (concat (next.lines.acc (32 * z.queue))) p)
            (concat (puts_of (queued (driver_next w).driver) puts e))) (sym begins_so.1)
            (begins_all (concat (next.lines.acc (32 * z.queue))) (concat (puts_of (queued (driver_next w).driver) puts e)) none_moved);
      }

    met_opened : (e : ℕ) (z : Endpoint) → slice_get (driver_next w).driver.endpoints e ≡ Some z → z.desc.name.way ≡ ways.Out
        → o.has z.desc.name.addr z.desc.name.num ≡ true → IsMet (queued (driver_next w).driver) e (queued_endpoint z)
        → IsMetOut o (wired fixed w) (concat (next.lines.acc (32 * z.queue))) (concat (puts_of (queued (driver_next w).driver) puts e)) t z
    met_opened e z here way on is_met =
        ⊎_elim (λ (own : 32 * z.queue ≡ 32 * at.endpoint.queue). opened_met e z here way on is_met own)
        (λ (differs : 32 * z.queue ≢ 32 * at.endpoint.queue).
        let was = O.met_before fixed x s m h w k at t alike opened mixed next e z here is_met differs in
        let near_then : t.near (32 * z.queue) ≡ true = met_near (driver_next w).driver t.near mixed.queues.queues.met e z here is_met in
        let near : s.near (32 * z.queue) ≡ true = O.near_was fixed x s m h w k at t alike opened mixed next (32 * z.queue) near_then differs
        in
        subst (λ (acc : List (List ℕ)). IsMetOut o (wired fixed w) (concat acc)
        (concat (puts_of (queued (driver_next w).driver) puts e)) t z)
        (sym (next.after.moved (32 * z.queue) differs))
        (met_still t (opens at t alike opened) e z here way on near_then near was.before was.met))
        (cases_eq (32 * z.queue) (32 * at.endpoint.queue))

    pub opened_behind : IsBehind fixed o t next.lines puts (driver_next w)
    opened_behind = record {
      ins = ins_opened;
      first = driver_publishes s w k.mixed b.first;
      spots = spots_then;
      hubs = b.hubs;
      met = met_opened;
      fresh = fresh_then (λ q is. absurd (none_some (unfinished.Open q) (sym alike.command ∙ is)));
      left = left_as o (wired fixed w) (Within puts w.driver) (Within puts (driver_next w).driver) (driver_next w).driver next.lines.acc
          (λ e z here way life bs old. within_then z.desc.name.addr z.desc.name.num bs old)
          (record {
            unmet = λ e z here is on there off.
                unmet_opened fixed x s m h w k ways.Out o.has Left (λ e. out_ctl e) (left_less o (wired fixed w) (Within puts w.driver))
                streams_are begun new_begins b.left t (opens at t alike opened) next.lines at next.after e z here is on there;
            gone = gone_then fixed x s m h w k ways.Out o.has Left (λ e. out_ctl e) (left_less o (wired fixed w) (Within puts w.driver))
                streams_are begun new_begins b.left t (opens at t alike opened) tt;
          });
    }

  -- ---- any

  pub driver_leaves_behind : (t : Standing) (step : QueueStep s w (driver_next w) t) → IsMixedAt t (driver_next w)
      → (next : IsTellingNext s m w (driver_next w) t step) → IsBehind fixed o t next.lines puts (driver_next w)
  driver_leaves_behind t (opens at _ alike opened) mixed next = opened_behind at t alike opened mixed next
  driver_leaves_behind t (goes e y d _ back is) mixed next =
      driven_behind t (goes e y d t back is) tt mixed next
      (gone_returned fixed x s m h w k ways.Out o.has Left (λ e. out_ctl e) (left_less o (wired fixed w) (Within puts w.driver))
      streams_are begun new_begins b.left t (goes e y d t back is) e y d back is mixed)
  driver_leaves_behind t (stays _ none still) mixed next =
      driven_behind t (stays t none still) tt mixed next (gone_left t (stays t none still) tt mixed next tt)
  driver_leaves_behind t (harvests e u found due later row out) mixed next =
      driven_behind t (harvests e u found due later row out) tt mixed next
      (gone_left t (harvests e u found due later row out) tt mixed next tt)
  driver_leaves_behind t (returns u y v row r) mixed next =
      driven_behind t (returns u y v row r) tt mixed next (gone_left t (returns u y v row r) tt mixed next tt)
  driver_leaves_behind t (lends q words get order out row after) mixed next =
      driven_behind t (lends q words get order out row after) tt mixed next
      (gone_left t (lends q words get order out row after) tt mixed next tt)
  driver_leaves_behind t (stores q words g is) mixed next =
      driven_behind t (stores q words g is) tt mixed next (gone_left t (stores q words g is) tt mixed next tt)
  driver_leaves_behind t (mends at row) mixed next =
      driven_behind t (mends at row) tt mixed next (gone_left t (mends at row) tt mixed next tt)
  driver_leaves_behind t (begins at row alike) mixed next =
      driven_behind t (begins at row alike) tt mixed next (gone_left t (begins at row alike) tt mixed next tt)
  driver_leaves_behind t (unlinks at row) mixed next =
      driven_behind t (unlinks at row) tt mixed next (gone_left t (unlinks at row) tt mixed next tt)
  driver_leaves_behind t (narrows member near row are fewer) mixed next =
      driven_behind t (narrows member near row are fewer) tt mixed next (gone_left t (narrows member near row are fewer) tt mixed next tt)
