-- Each event of the controller leaves a bulk or interrupt IN endpoint below a hub as it must stand, where its hub is spared.
use Rattle.std.proofs.Common.{◌≡◌, ℕ, ◌*◌, ◌==◌, Bool, true, false, List, [], slice_get, Some, ap, sym, subst}
use Rattle.std.proofs.Common.{◌∙◌}
use Rattle.std.specs.Prelude.{◌&&◌, not}
use Rattle.std.specs.List.{concat}
use Rattle.std.proofs.lemmas.Bool.{and_parts, eqb-true, true≢false}
use Rattle.std.proofs.lemmas.Option.{same_Some}
use Rattle.usb_base.specs.declared.endpoints.EpDesc.{EpDesc}
use Rattle.usb_base.specs.declared.packets.Dir.TheVariants as Directions
use Rattle.usb_base.specs.declared.packets.Way.TheVariants as ways
use Rattle.bus_wire.specs.Bus.{Fixed}
use Rattle.claims_driver.specs.Scripts.{comes_in}
use Rattle.claims_report.specs.Streams.{has_stream}
use Rattle.drv_table.specs.declared.content.Endpoint.{Endpoint}
use Rattle.drv_table.specs.Words.{is_high}
use Rattle.law_driver.specs.queued_drivers.Queued.{queued_endpoint, queued}
use Rattle.law_driver_ring.specs.fed_queues.Places.{IsMet}
use Rattle.law_controller.specs.frame_control.Joined.{joined}
use Rattle.law_descriptors.specs.Both.{parts_now}
use Rattle.law_below_hubs.specs.HostEvents.{told_key, IsInBehind, SparesKeyNow}
use Rattle.law_below_hubs.specs.Splits.{IsAtHub}
use Rattle.law_world.specs.steps.Streaming.{wired}
use Rattle.law_world.specs.memory.Mixed.{Standing}
use Rattle.law_world.specs.memory.Steps.{standing_then, IsMixedControlled}
use Rattle.bus_world.specs.World.{World, controller_next}
use Rattle.law_reports.specs.lines.Lined.{in_hand, Lines}
use Rattle.law_reports.proofs.lemmas.lines.IsoGoing.{told_apart}
use Rattle.law_microframes.specs.visits.WorldPipes.{EventOf}
use Rattle.law_reports.specs.pipes.Declared.{Sides}
use Rattle.law_reports.specs.pipes.Piped.{Heads, asked_as, AreFresh, AreLeft, IsPiped}
use Rattle.law_reports.specs.pipes.puts.Paid.{Pays}
use Rattle.law_reports.specs.pipes.below_hubs.Behind.{Spots, IsBehind}
use Rattle.law_reports.specs.pipes.below_hubs.Controlled.{IsWatched}
use Rattle.claims_world.specs.BelowStreams.{is_in_below}
use Rattle.law_reports.specs.pipes.below_hubs.Inward.{Inlet, is_inlet, IsInletBy, Unmoved, Begins, IsSpared, IsInward}
use Rattle.law_reports.specs.pipes.below_hubs.Inward.{renewed, still_timely}
use Rattle.law_reports.specs.pipes.below_hubs.BehindLaws.{WorldFindsNoneTold}
use Rattle.law_reports.specs.pipes.below_hubs.InwardLaws.{WorldAsksInTime}
use Rattle.law_reports.proofs.lemmas.pipes.lemmas.below_hubs.InTime.{renew, stays_in_time, in_time}
use Rattle.law_reports.proofs.lemmas.pipes.Controlled.{c, z, goes, off, moved_same, unopened_met, unmet_by}
use Rattle.law_reports.proofs.lemmas.pipes.Names.{name_is}
use Rattle.law_reports.proofs.lemmas.pipes.lemmas.below_hubs.BehindControlled.{ask_ways}
use Rattle.law_reports.proofs.lemmas.pipes.lemmas.below_hubs.Controlled.{controller_keeps_in_below, controller_leaves_in}
use Rattle.law_reports.proofs.lemmas.pipes.lemmas.below_hubs.HubStays.{event_keeps_hub}
use Rattle.law_reports.proofs.lemmas.pipes.lemmas.below_hubs.SparedHubs.{spared_hubs_keep_keys}

-- ---- kinds

pub in_stream : (x : EpDesc) → is_in_below x ≡ true → has_stream x.kind ≡ true
in_stream x is = (and_parts (has_stream x.kind) (not (is_high x.speed) && comes_in x.name.way) is).0

pub its_number : (v : Inlet) (addr ep : ℕ) → is_inlet v addr ep ≡ true → (v.desc.name.addr ≡ addr) × (v.desc.name.num ≡ ep)
its_number v addr ep is =
    let both = and_parts (v.desc.name.addr == addr) (v.desc.name.num == ep) is in
    (eqb-true v.desc.name.addr addr both.0, eqb-true v.desc.name.num ep both.1)

module _ (fixed : Fixed) (x : Sides) (o : Spots) (v : Inlet) (timely : ℕ → Bool) (s : Standing) (m : Lines) (h : Heads)
    (puts : ℕ → List ℕ) (w : World) (k : IsPiped fixed x s m h w) (pays : Pays fixed x s m puts w) (b : IsBehind fixed o s m puts w)
    (i : IsInward fixed v timely s m w) where
  -- ---- the endpoint

  module _ (e : ℕ) (y : Endpoint) (here : slice_get w.driver.endpoints e ≡ Some y) (way : y.desc.name.way ≡ ways.In)
      (on : is_inlet v y.desc.name.addr y.desc.name.num ≡ true) where
    pub is_its : y.desc ≡ v.desc
    is_its = subst (IsInletBy v y.desc) way (i.inlets e y here) on

    pub in_claimed : is_in_below y.desc ≡ true
    in_claimed = ap is_in_below is_its ∙ i.claims

    none_control : (f : ℕ) (u : Endpoint) → slice_get w.driver.endpoints f ≡ Some u → u.desc.name.way ≡ ways.Ctl
        → u.desc.name.addr ≡ y.desc.name.addr → u.desc.name.num ≡ y.desc.name.num → ⊥
    none_control f u there ctl addr num =
        true≢false (sym on ∙ ap (λ (a : ℕ). is_inlet v a y.desc.name.num) (sym addr) ∙ ap (is_inlet v u.desc.name.addr) (sym num)
        ∙ subst (IsInletBy v u.desc) ctl (i.inlets f u there))

    in_watched : IsMet (queued w.driver) e (queued_endpoint y) → IsWatched w.driver v.desc.kind ways.In e y
    in_watched is_met = record {
      here = here;
      met = is_met;
      kind_is = ap (λ (d : EpDesc). d.kind) is_its;
      way_is = way;
      alone = none_control;
    }

    -- no other endpoint has its name
    pub in_named : (f : ℕ) (u : Endpoint) → slice_get w.driver.endpoints f ≡ Some u → u.desc.name.way ≡ ways.In
        → u.desc.name.addr ≡ y.desc.name.addr → u.desc.name.num ≡ y.desc.name.num → (f ≡ e) × (u ≡ y)
    in_named f u there its addr num =
        let one : f ≡ e = told_apart w.driver (in_hand s) s.parts m.reported k.telling.told f e u y there here
        (name_is u.desc.name y.desc.name addr num (its ∙ sym way)) in
        (one, same_Some u y (sym there ∙ ap (slice_get w.driver.endpoints) one ∙ here))

  -- ---- an event of the controller

  abbrev new : World
  new = controller_next fixed w

  abbrev event : IsMixedControlled fixed s w
  event = c fixed x s m h w k

  abbrev z_now : EventOf fixed s w (c fixed x s m h w k).event
  z_now = z fixed x s m h w k

  abbrev after : Standing
  after = standing_then s w (c fixed x s m h w k).event

  hub_then : IsAtHub (wired fixed (controller_next fixed w)).bus.hubs (asked_as v.desc).hub (asked_as v.desc).port v.hub v.place
  hub_then =
      event_keeps_hub s.parts (joined s.hand s.frame) (wired fixed w) (wired fixed new) (parts_now s.descs s.parts event.event.now)
      (joined event.event.later event.event.frame_later) (asked_as v.desc).hub (asked_as v.desc).port v.hub v.place z_now i.hub

  abbrev later : ℕ → Bool
  later = still_timely (z fixed x s m h w k) (renewed s timely)

  module _ (spared : IsSpared v (wired fixed w)) (finds : WorldFindsNoneTold (wired fixed w) w)
      (asks : WorldAsksInTime v timely (wired fixed w) w) where
    spares : SparesKeyNow (told_key v.desc.kind Directions.In (asked_as v.desc)) v.hub v.place (wired fixed w) (wired fixed
        (controller_next fixed w))
    spares = spared_hubs_keep_keys v (told_key v.desc.kind Directions.In (asked_as v.desc)) (wired fixed w) (wired fixed new) spared

    -- ---- one that is met

    met_then : (e : ℕ) (y : Endpoint) → slice_get w.driver.endpoints e ≡ Some y → y.desc.name.way ≡ ways.In
        → is_inlet v y.desc.name.addr y.desc.name.num ≡ true → IsMet (queued w.driver) e (queued_endpoint y)
        → IsInBehind v.desc.kind v.packets (wired fixed (controller_next fixed w)) v.hub v.place (still_timely
        (z fixed x s m h w k) (renewed s timely) (32 * y.queue))
        (concat ((goes fixed x s m h w k).moved (32 * y.queue))) (standing_then s w (c fixed x s m h w k).event).parts
        (in_hand (standing_then s w (c fixed x s m h w k).event)) (32 * y.queue) (asked_as y.desc)
    met_then e y here way on is_met =
        let n : ℕ = 32 * y.queue in
        let was : IsInBehind v.desc.kind v.packets (wired fixed w) v.hub v.place (timely (32 * y.queue)) (concat (m.acc (32 * y.queue)))
        s.parts (in_hand s) (32 * y.queue) (asked_as y.desc) = i.met e y here way on is_met in
        let b_now : IsInBehind v.desc.kind v.packets (wired fixed w) v.hub v.place (renewed s timely (32 * y.queue))
        (concat (m.acc (32 * y.queue))) s.parts (in_hand s) (32 * y.queue) (asked_as y.desc) =
        renew v.desc.kind v.packets (wired fixed w) v.hub v.place (timely n) (concat (m.acc n)) s.parts (in_hand s) n (asked_as y.desc)
        was in
        subst (λ (known : List ℕ). IsInBehind v.desc.kind v.packets (wired fixed new) v.hub v.place (later n) known after.parts
        (in_hand after) n (asked_as y.desc))
        (sym ((goes fixed x s m h w k).adds n))
        (controller_keeps_in_below fixed x s m h w k (ask_ways fixed x o s m h puts w k pays b) event z_now e y v.desc.kind
        (in_stream v.desc i.claims)
        (in_watched e y here way on is_met) v.packets v.hub v.place (renewed s timely n) (later n) (concat (m.acc n))
        (in_time fixed v timely s w k.mixed event n (asked_as y.desc) b_now.ins
        (record { queue = b_now.queue; head = b_now.head; is = b_now.is }) b_now.below b_now.hub
        (ap asked_as (is_its e y here way on)) finds asks)
        (subst (λ (d : EpDesc). SparesKeyNow (told_key v.desc.kind Directions.In (asked_as d)) v.hub v.place (wired fixed w)
        (wired fixed new))
        (sym (is_its e y here way on)) spares) b_now
        (stays_in_time s w event.event z_now (renewed s timely) n b_now.queue b_now.head))

    -- ---- before its open none asks it

    none_ctl : (addr ep : ℕ) → is_inlet v addr ep ≡ true → (f : ℕ) (u : Endpoint) → slice_get w.driver.endpoints f ≡ Some u
        → u.desc.name.way ≡ ways.Ctl → u.desc.name.addr ≡ v.desc.name.addr → u.desc.name.num ≡ v.desc.name.num → ⊥
    none_ctl addr ep on f u there ctl same also =
        let n = its_number v addr ep on in
        true≢false (sym on ∙ ap (λ (a : ℕ). is_inlet v a ep) (sym n.0 ∙ sym same) ∙ ap (is_inlet v u.desc.name.addr) (sym n.1 ∙ sym also)
        ∙ subst (IsInletBy v u.desc) ctl (i.inlets f u there))

    fresh_then : AreFresh w.driver ways.In (is_inlet v) (λ addr ep. Unmoved v (wired fixed (controller_next fixed w)))
    fresh_then addr ep on unused going on_time =
        let n = its_number v addr ep on in
        controller_leaves_in fixed x s m h w k (ask_ways fixed x o s m h puts w k pays b) event z_now (asked_as v.desc)
        (record {
          data_apart = λ f u there is_met its same also.
              unopened_met fixed x s m h w k f u (unused f u there its (same ∙ n.0) (also ∙ n.1)) is_met;
          control_apart = λ f u there is_met its same also. none_ctl addr ep on f u there its same also;
          iso_apart = λ f u there iso its same also. true≢false (sym iso ∙ (unused f u there its (same ∙ n.0) (also ∙ n.1)).queue);
        })
        v.desc.kind (in_stream v.desc i.claims) v.packets v.hub v.place false going on_time [] spares
        (i.fresh addr ep on unused going on_time)

    -- ---- one that left

    left_then : AreLeft w.driver (goes fixed x s m h w k).moved ways.In (is_inlet v) (λ addr ep. Begins v)
    left_then = record {
      unmet = λ e y here way on there off_now.
          subst (Begins v)
          (sym (moved_same fixed x s m h w k (32 * y.queue)
          (off fixed x s m h w k e y here there.kept (unmet_by fixed x s m h w k e y off_now))))
          (i.left.unmet e y here way on there off_now);
      gone = λ e y here way on gone. i.left.gone e y here way on gone;
    }

    -- ---- the whole

    pub controlled_inward : IsInward fixed v (still_timely (z fixed x s m h w k) (renewed s timely))
        (standing_then s w (c fixed x s m h w k).event) (record { acc = (goes fixed x s m h w k).moved; reported = m.reported })
        (controller_next fixed w)
    controlled_inward = record {
      claims = i.claims;
      inlets = i.inlets;
      hub = hub_then;
      met = met_then;
      fresh = fresh_then;
      left = left_then;
    }
