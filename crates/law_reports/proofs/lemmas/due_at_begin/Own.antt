-- The endpoint of a device that hears the tokens of a high-speed interrupt endpoint is found there by its own way: the device has a stream
-- for it (USB 2.0, 8.4.1 and 8.6).
use Rattle.std.proofs.Common.{◌≡◌, ◌≢◌, ℕ, ◌*◌, Bool, true, false, List, if◌then◌else◌, slice_get, Option, Some, None, ap, refl, sym, subst}
use Rattle.std.proofs.Common.{◌∙◌, ⊎_elim}
use Rattle.std.specs.Prelude.{◌&&◌, ◌||◌, not}
use Rattle.std.proofs.lemmas.Option.{same_Some}
use Rattle.law_world.proofs.Common.{met_or_not}
use Rattle.usb_base.specs.declared.endpoints.EpName.{EpName}
use Rattle.usb_base.specs.declared.packets.EpKind.{EpKind}
use Rattle.usb_base.specs.declared.packets.EpKind.TheVariants.{Interrupt}
use Rattle.usb_base.specs.declared.packets.Speed.TheVariants.{High}
use Rattle.usb_base.specs.declared.packets.Way.{Way}
use Rattle.usb_base.specs.declared.packets.Way.TheVariants as ways
use Rattle.endpoint_script.specs.declared.endpoint.Endpoint.{Endpoint as DeviceEndpoint}
use Rattle.endpoint_script.specs.declared.endpoint.Role.{Role}
use Rattle.endpoint_script.specs.Device.{place_named, endpoint_at}
use Rattle.drv_periodic_table.specs.Periodic.{is_periodic}
use Rattle.drv_table.specs.declared.content.Command.TheVariants as unfinished
use Rattle.drv_table.specs.declared.content.Endpoint.{Endpoint}
use Rattle.drv_table.specs.Kinds.{is_iso}
use Rattle.drv_table.specs.Words.{is_high}
use Rattle.bus_wire.specs.declared.seats.TokenKind.TheVariants as tokens
use Rattle.bus_wire.specs.Bus.{Fixed}
use Rattle.bus_wire.specs.Seats.{place_for}
use Rattle.claims_report.specs.Streams.{has_stream}
use Rattle.claims_world.specs.Due.{token_by, IsHeardBy}
use Rattle.law_driver.specs.endpoint_lives.Lives.{is_one_of}
use Rattle.law_driver.specs.queued_drivers.Queued.{without_queue, with_queue, queued_endpoint, queued}
use Rattle.law_ring.specs.Bus.{Sender}
use Rattle.law_ring.specs.OutBus.{Taker}
use Rattle.law_ring.specs.Told.{Endpoint as Told}
use Rattle.law_driver_ring.specs.fed_queues.Places.{IsMet}
use Rattle.law_devices.specs.Senders.{sender_of, sender_of_endpoint, sender_of_device, sender_of_owner, sender_of_seat, sender_of_place}
use Rattle.law_devices.specs.scripted_takers.Takers.{taker_of, taker_of_endpoint, taker_of_device, taker_of_owner, taker_of_seat}
use Rattle.law_devices.specs.scripted_takers.Takers.{taker_of_place}
use Rattle.bus_world.specs.World.{World}
use Rattle.law_world.specs.steps.Streaming.{wired}
use Rattle.law_world.specs.memory.Mixed.{Standing}
use Rattle.law_reports.specs.lines.Lined.{in_hand, Lines}
use Rattle.law_reports.specs.pipes.Declared.{Sides, IsDeclaredBy}
use Rattle.law_reports.specs.pipes.Piped.{Heads, IsOpening, IsUnused, IsPiped}
use Rattle.law_reports.proofs.lemmas.lines.IsoGoing.{told_apart}
use Rattle.law_reports.proofs.lemmas.pipes.Begun.{named, on_ins, on_outs}
use Rattle.law_reports.proofs.lemmas.pipes.Names.{name_is}

-- ---- the place of who sends, or takes

abbrev IsSomewhere : Option ℕ → Type 0
IsSomewhere o = (j : ℕ) × (o ≡ Some j)

sends_there : (b : Bool) (es : List DeviceEndpoint) (o : Option ℕ) (u : Sender)
    → (if b then sender_of_endpoint (endpoint_at es o) else None) ≡ Some u → IsSomewhere o
sends_there false es o u is = absurd cc
sends_there true es None u is = absurd cc
sends_there true es (Some j) u is = (j, refl)

takes_there : (b : Bool) (es : List DeviceEndpoint) (o : Option ℕ) (u : Taker)
    → (if b then taker_of_endpoint (endpoint_at es o) else None) ≡ Some u → IsSomewhere o
takes_there false es o u is = absurd cc
takes_there true es None u is = absurd cc
takes_there true es (Some j) u is = (j, refl)

-- ---- of an endpoint

module _ (fixed : Fixed) (x : Sides) (s : Standing) (m : Lines) (h : Heads) (w : World) (k : IsPiped fixed x s m h w) (e : ℕ) (z : Endpoint)
    (here : slice_get w.driver.endpoints e ≡ Some z) (kind : z.desc.kind ≡ Interrupt) (high : z.desc.speed ≡ High) (kept : z.gone ≡ false)
  where
    abbrev name : EpName
    name = z.desc.name

    streams : (has_stream z.desc.kind && is_high z.desc.speed) ≡ true
    streams = ap (λ (a : EpKind). has_stream a && is_high z.desc.speed) kind ∙ ap is_high high

    declared : (way : Way) → z.desc.name.way ≡ way → IsDeclaredBy x z.desc way
    declared way is = subst (IsDeclaredBy x z.desc) is (k.declared e z here)

    -- it is met, unless it is being opened
    met_unless : (queued w.driver).command ≢ Some (unfinished.Open z.queue) → IsMet (queued w.driver) e (queued_endpoint z)
    met_unless unopened =
        let is_met : IsMet (queued w.driver) e (with_queue z) = record {
          there = record { linked = unopened; kept = kept };
          near = ap (λ (b : Bool). (if b then not z.gone else z.linked) || (is_one_of e w.driver.waiting || is_one_of e w.driver.rung))
              (ap is_periodic kind)
              ∙ ap (λ (b : Bool). not b || (is_one_of e w.driver.waiting || is_one_of e w.driver.rung)) kept;
        } in
        subst (IsMet (queued w.driver) e)
        (sym (ap (λ (b : Bool). if b then without_queue z else with_queue z) (ap is_iso kind))) is_met

    -- no other has its name
    unused : (queued w.driver).command ≡ Some (unfinished.Open z.queue) → (way : Way) → z.desc.name.way ≡ way
        → IsUnused w.driver way z.desc.name.addr z.desc.name.num
    unused opens way is f y there its_way addr num =
        let one : f ≡ e = told_apart w.driver (in_hand s) s.parts m.reported k.telling.told f e y z there here
        (name_is y.desc.name z.desc.name addr num (its_way ∙ sym is)) in
        let its : y ≡ z = same_Some y z (sym there ∙ ap (slice_get w.driver.endpoints) one ∙ here) in
        subst (IsOpening w.driver) (sym its) (record { kept = kept; queue = ap is_iso kind; command = opens })

    -- ---- it sends

    record HasSender : Type 0 where
      sender : Sender
      is : sender_of (wired fixed w) z.desc.name.addr z.desc.name.num ≡ Some sender

    has_sender : z.desc.name.way ≡ ways.In → HasSender
    has_sender is =
        let on : x.sends z.desc.name.addr z.desc.name.num ≡ true = declared ways.In is ∙ streams in
        ⊎_elim {C = HasSender}
        (λ (opens : (queued w.driver).command ≡ Some (unfinished.Open z.queue)).
        let u = k.fresh_ins z.desc.name.addr z.desc.name.num on (unused opens ways.In is) in record { sender = u.sender; is = u.is })
        (λ (unopened : (queued w.driver).command ≢ Some (unfinished.Open z.queue)).
        let met : IsMet (queued w.driver) e (queued_endpoint z) = met_unless unopened in
        let p = k.pipes.in_pipes.pipes (32 * z.queue) (on_ins fixed x s m h w k e z here met is on) in
        record {
          sender = p.sender;
          is = ap (λ (u : Told). sender_of (wired fixed w) u.addr u.ep) (sym (named fixed x s m h w k e z here met)) ∙ p.is;
        }) (met_or_not (queued w.driver).command z.queue)

    -- ---- it takes

    record HasTaker : Type 0 where
      taker : Taker
      is : taker_of (wired fixed w) z.desc.name.addr z.desc.name.num ≡ Some taker

    has_taker : z.desc.name.way ≡ ways.Out → HasTaker
    has_taker is =
        let on : x.takes z.desc.name.addr z.desc.name.num ≡ true = declared ways.Out is ∙ streams in
        ⊎_elim {C = HasTaker}
        (λ (opens : (queued w.driver).command ≡ Some (unfinished.Open z.queue)).
        let u = k.fresh_outs z.desc.name.addr z.desc.name.num on (unused opens ways.Out is) in record { taker = u.taker; is = u.is })
        (λ (unopened : (queued w.driver).command ≢ Some (unfinished.Open z.queue)).
        let met : IsMet (queued w.driver) e (queued_endpoint z) = met_unless unopened in
        let p = k.pipes.out_pipes.pipes (32 * z.queue) (on_outs fixed x s m h w k e z here met is on) in
        record {
          taker = p.taker;
          is = ap (λ (u : Told). taker_of (wired fixed w) u.addr u.ep) (sym (named fixed x s m h w k e z here met)) ∙ p.is;
        }) (met_or_not (queued w.driver).command z.queue)

    -- ---- where it stands

    module _ (place : ℕ) (part : Role) (r : IsHeardBy fixed w.bus z.desc.name place part) where
      seat_in : z.desc.name.way ≡ ways.In → place_for fixed.seats z.desc.name.addr z.desc.name.num tokens.In ≡ Some place
      seat_in is = ap (λ (way : Way). place_for fixed.seats z.desc.name.addr z.desc.name.num (token_by way)) (sym is) ∙ r.asked

      seat_out : z.desc.name.way ≡ ways.Out → place_for fixed.seats z.desc.name.addr z.desc.name.num tokens.Out ≡ Some place
      seat_out is = ap (λ (way : Way). place_for fixed.seats z.desc.name.addr z.desc.name.num (token_by way)) (sym is) ∙ r.asked

      by_way : (way : Way) → z.desc.name.way ≡ way → way ≢ ways.Ctl → IsSomewhere (place_named r.device.endpoints z.desc.name.num way)
      by_way ways.In is one =
          let u : HasSender = has_sender is in
          sends_there _ r.device.endpoints (place_named r.device.endpoints z.desc.name.num ways.In) u.sender
          (sym (ap (sender_of_place (wired fixed w) z.desc.name.addr z.desc.name.num) (seat_in is)
          ∙ ap (sender_of_seat w.bus z.desc.name.addr z.desc.name.num) r.seated
          ∙ ap (sender_of_owner w.bus z.desc.name.addr z.desc.name.num) r.owner
          ∙ ap (sender_of_device z.desc.name.addr z.desc.name.num) r.there) ∙ u.is)
      by_way ways.Out is one =
          let u : HasTaker = has_taker is in
          takes_there _ r.device.endpoints (place_named r.device.endpoints z.desc.name.num ways.Out) u.taker
          (sym (ap (taker_of_place (wired fixed w) z.desc.name.addr z.desc.name.num) (seat_out is)
          ∙ ap (taker_of_seat w.bus z.desc.name.addr z.desc.name.num) r.seated
          ∙ ap (taker_of_owner w.bus z.desc.name.addr z.desc.name.num) r.owner
          ∙ ap (taker_of_device z.desc.name.addr z.desc.name.num) r.there) ∙ u.is)
      by_way ways.Ctl is one = absurd (one refl)

      pub own_place : z.desc.name.way ≢ ways.Ctl
          → (j : ℕ) × (place_named r.device.endpoints z.desc.name.num z.desc.name.way ≡ Some j)
      own_place one = by_way z.desc.name.way refl one
