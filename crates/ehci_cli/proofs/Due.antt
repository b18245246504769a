-- A packet that the device of an interrupt IN endpoint at high speed has for an unfinished transfer is due as the microframe begins, and
-- moves in it.
use Rattle.std.proofs.Common.{◌≡◌, ℕ, zero, suc, ◌+◌, ◌*◌, ◌/◌, ◌%◌, ◌<◌, ◌==◌, Bool, true, false, List, length, slice_get, Option, Some, None}
use Rattle.std.proofs.Common.{ap, refl, sym, subst, ◌∙◌, ⊎_elim, arith}
use Rattle.std.specs.Prelude.{◌^◌, slice_index, if◌then◌else◌}
use Rattle.std.proofs.lemmas.Option.{same_Some}
use Rattle.usb_base.specs.declared.endpoints.EpDesc.{EpDesc}
use Rattle.usb_base.specs.declared.endpoints.EpName.{EpName}
use Rattle.usb_base.specs.declared.packets.EpKind.{EpKind}
use Rattle.usb_base.specs.declared.packets.EpKind.TheVariants.{Interrupt}
use Rattle.usb_base.specs.declared.packets.Speed.{Speed}
use Rattle.usb_base.specs.declared.packets.Speed.TheVariants.{High}
use Rattle.usb_base.specs.declared.packets.Way.{Way}
use Rattle.usb_base.specs.declared.packets.Way.TheVariants as ways
use Rattle.script_types.specs.declared.scripts.Script.{Script}
use Rattle.script_text.specs.Faults.{Spells}
use Rattle.dev_control.specs.declared.rows.StageToken.TheVariants as stages
use Rattle.endpoint_script.specs.declared.endpoint.Endpoint.{Endpoint as DeviceEndpoint}
use Rattle.endpoint_script.specs.declared.endpoint.Role.{Role}
use Rattle.endpoint_script.specs.declared.endpoint.Role.TheVariants.{Sends}
use Rattle.endpoint_script.specs.Device.{Device, endpoint_at, or_else, place_named, place_for as place_in_device}
use Rattle.endpoint_script.specs.Sending.{Sending}
use Rattle.word_mem.specs.Memory.{Mem, word_at}
use Rattle.word_mem.specs.Views.{words_at}
use Rattle.word_mem.proofs.Words.{get_or-words_in}
use Rattle.link_words.specs.Layout.{is_set}
use Rattle.qh_qtd.specs.declared.qtd.Qtd.{Qtd}
use Rattle.qh_qtd.specs.declared.queue_head.Qh.{Qh}
use Rattle.qh_qtd.specs.declared.token.Token.{Token}
use Rattle.qh_qtd.specs.QueueHead.{qh_at, qh_words}
use Rattle.mem_queues.specs.Structures.{queue_head_at_address}
use Rattle.hc_copy.specs.declared.held.Held.{Held}
use Rattle.hc_copy.specs.Overlay.{advanced, taken_token}
use Rattle.periodic_walk.specs.declared.state.Hand.{Hand as FramesHand}
use Rattle.hc_core.specs.declared.controller.MicroframePart.{MicroframePart}
use Rattle.hc_core.specs.declared.controller.MicroframePart.TheVariants.{Periodic, Asynchronous}
use Rattle.bus_wire.specs.declared.seats.Owner.{Owner}
use Rattle.bus_wire.specs.declared.seats.Owner.TheVariants as owners
use Rattle.bus_wire.specs.declared.seats.Seat.{Seat}
use Rattle.bus_wire.specs.Bus.{Fixed, fixed_of}
use Rattle.bus_wire.specs.Seats.{place_for}
use Rattle.drv_table.specs.declared.content.Endpoint.{Endpoint}
use Rattle.drv_table.specs.Kinds.{is_iso}
use Rattle.drv_table.specs.Words.{interrupt_head}
use Rattle.bus_world.specs.Budgets.{moment}
use Rattle.bus_world.specs.Orders.{ticks}
use Rattle.bus_world.specs.World.{World}
use Rattle.claims_world.specs.Carried.{carried_from}
use Rattle.claims_world.specs.Due.{ComesTo, goes_on, takes, CanMove, MovesPacket, by_packet, bytes_moved, token_by, stage_by}
use Rattle.claims_world.specs.DueAtBegin.{begun, IsDueAtBegin}
use Rattle.claims_world.specs.FrameHeads.{characteristics_in}
use Rattle.claims_world.specs.SoFar.{so_far, HasMoved}
use Rattle.claims_headline.specs.Pipes.{parity, toggle_of_copy, frame_copy, host_toggle}
use Rattle.claims_headline.specs.Due.{HasPacket, MovesPackets}
use Rattle.app_forms.specs.Scripts.{OfEachPlainScript}
use Rattle.ehci_cli.proofs.Each.{of_each_plain}
use Rattle.law_ring.specs.Hand.{held_of}
use Rattle.law_world.specs.memory.Mixed.{IsMixedWorld}
use Rattle.law_world.proofs.lemmas.memory.Together.{texts_stay_mixed}
use Rattle.law_microframes.specs.visits.Belonging.{HeadsHaveFields}
use Rattle.law_microframes.proofs.lemmas.due.Fields.{head_words}
use Rattle.law_microframes.proofs.lemmas.due.Held.{advanced_token}
use Rattle.law_microframes.proofs.lemmas.visits.BelongQueues.{alive}
use Rattle.law_reports.specs.due_at_begin.Unfinished.{HasUnfinished}
use Rattle.law_reports.proofs.lemmas.due_at_begin.BegunMoments.{so_as_begun, BeginsNow, begun_then}
use Rattle.law_reports.proofs.lemmas.due_at_begin.Moments.{heads_at, texts_do_what_is_due_at_begin}
use Rattle.law_reports.proofs.lemmas.due_at_begin.Stages.{BeginsWalk, begins_walk}
use Rattle.law_reports.proofs.lemmas.due_at_begin.Unfinished.{texts_have_unfinished_due}

-- ---- an interrupt endpoint's queue head keeps its own toggle (EHCI 1.0, 3.6.2)

bit_off : (x : EpDesc) → x.name.addr < 128 → x.name.num < 16
    → slice_index (qh_words (interrupt_head (record x { kind = Interrupt; speed = High }) 0 0 0 0)) 1 / 2 ^ 14 % 2 ≡ 0
unfolding qh_words
bit_off x small few = omega (arith, small, few)

own_toggle : (x : EpDesc) → x.name.addr < 128 → x.name.num < 16 → x.kind ≡ Interrupt → x.speed ≡ High
    → is_set 14 (characteristics_in x) ≡ false
own_toggle x small few kind high =
    ap (λ (k : EpKind). is_set 14 (characteristics_in (record x { kind = k }))) kind
    ∙ ap (λ (v : Speed). is_set 14 (characteristics_in (record x { kind = Interrupt; speed = v }))) high
    ∙ ap (λ (n : ℕ). n == 1) (bit_off x small few)

bit_in_words : (ws : List ℕ) → (qh_at ws).dtc ≡ is_set 14 (slice_index ws 1)
unfolding qh_at
bit_in_words ws = refl

bit_read : (m : Mem) (n : ℕ) (q : Qh) → queue_head_at_address m n ≡ Some q → q.dtc ≡ is_set 14 (word_at m (n + 4))
bit_read m n q read =
    ap (λ (z : Qh). z.dtc) (head_words m n q read) ∙ bit_in_words (words_at m n 12)
    ∙ ap (is_set 14) (get_or-words_in m.words n 12 1 (omega arith))

-- so it does as it takes a qTD (4.10.2)
taken_toggle : (q : Qh) (t : Token) → q.dtc ≡ false → (taken_token q t).toggle ≡ q.token.toggle
taken_toggle q t off = ap (λ (b : Bool). if b then t.toggle else q.token.toggle) off

same_toggle : (m : Mem) (q v : Qh) → q.dtc ≡ false → ComesTo m q v → v.token.toggle ≡ q.token.toggle
same_toggle m q _ off (goes_on ready) = refl
same_toggle m q _ off (takes a t done unhalted link read ready) =
    ap (λ (k : Token). k.toggle) (advanced_token q a t) ∙ taken_toggle q t.token off

-- ---- due, with so many bytes

record IsDueWith (fixed : Fixed) (b : World) (e q bytes : ℕ) : Type 0 where
  due : IsDueAtBegin fixed b e q
  moves : bytes_moved due.due.transfer.ready.answers ≡ bytes

-- ---- its device

high_at : (a b : ℕ) → ◌≡◌ {A = Owner} (owners.High a) (owners.High b) → a ≡ b
high_at a b same = cc

one_sending : (a b : Sending) → ◌≡◌ {A = Role} (Sends a) (Sends b) → a ≡ b
one_sending a b same = cc

own_first : (es : List DeviceEndpoint) (o other : Option ℕ) (x : DeviceEndpoint) → endpoint_at es o ≡ Some x
    → endpoint_at es (or_else o other) ≡ Some x
own_first es None other x found = absurd cc
own_first es (Some k) other x found = found

-- ---- its hands are empty as a microframe begins

no_ring : Asynchronous ≡ Periodic → ⊥
no_ring e = cc

module _ (w : World) (k : IsMixedWorld w) (walk : BeginsWalk w) where
  ring_empty : w.control.walk.held ≡ None
  ring_empty =
      k.mixed.now.framed.runs.ring.held
      ∙ ap held_of (k.mixed.now.framed.runs.between (λ (e : w.control.part ≡ Asynchronous). no_ring (sym e ∙ walk.periodic)))

  by_words : (n : ℕ) (q : Qh) → host_toggle w n q ≡ q.token.toggle
  by_words n q =
      ap (λ (p : MicroframePart). toggle_of_copy n (frame_copy p w.control.frame.hand)
      (toggle_of_copy n w.control.walk.held q.token.toggle)) walk.periodic
      ∙ ap (λ (h : Option FramesHand). toggle_of_copy n (frame_copy Periodic h) (toggle_of_copy n w.control.walk.held q.token.toggle))
      walk.nothing
      ∙ ap (λ (o : Option Held). toggle_of_copy n o q.token.toggle) ring_empty

-- ---- it is ready

module _ (s : Script) (b : World) (e q : ℕ) (h : HasPacket s b e q) (k : IsMixedWorld b) (walk : BeginsWalk b)
    (heads : HeadsHaveFields b.driver b.memory) where
  abbrev x : Endpoint
  x = h.there.endpoint

  abbrev name : EpName
  name = h.there.endpoint.desc.name

  same_place : h.pipe.sender.place ≡ h.place
  same_place =
      same_Some h.pipe.sender.place h.place
      (sym h.pipe.sender.asked
      ∙ ap (λ (way : Way). place_for (fixed_of s).seats x.desc.name.addr x.desc.name.num (token_by way)) (sym h.comes) ∙ h.heard.asked)

  same_seat : h.pipe.sender.seat ≡ h.heard.seat
  same_seat =
      same_Some h.pipe.sender.seat h.heard.seat
      (sym h.pipe.sender.seated ∙ ap (slice_get (fixed_of s).seats) same_place ∙ h.heard.seated)

  same_at : h.pipe.sender.at ≡ h.heard.at
  same_at =
      high_at h.pipe.sender.at h.heard.at (sym h.pipe.sender.owner ∙ ap (λ (z : Seat). z.owner) same_seat ∙ h.heard.owner)

  same_device : h.pipe.sender.device ≡ h.heard.device
  same_device =
      same_Some h.pipe.sender.device h.heard.device
      (sym h.pipe.sender.there ∙ ap (slice_get b.bus.devices) same_at ∙ h.heard.there)

  same_endpoint : h.pipe.sender.endpoint ≡ h.heard.endpoint
  same_endpoint =
      same_Some h.pipe.sender.endpoint h.heard.endpoint
      (sym (own_first h.pipe.sender.device.endpoints (place_named h.pipe.sender.device.endpoints x.desc.name.num ways.In)
      (place_named h.pipe.sender.device.endpoints x.desc.name.num ways.Ctl) h.pipe.sender.endpoint h.pipe.sender.found)
      ∙ ap (λ (d : Device). endpoint_at d.endpoints (place_in_device stages.In d.endpoints x.desc.name.num)) same_device
      ∙ ap (λ (way : Way). endpoint_at h.heard.device.endpoints
      (place_in_device (stage_by way) h.heard.device.endpoints x.desc.name.num)) (sym h.comes)
      ∙ h.heard.found)

  same_sending : h.pipe.sender.sending ≡ h.sending
  same_sending =
      one_sending h.pipe.sender.sending h.sending
      (sym h.pipe.sender.does ∙ ap (λ (z : DeviceEndpoint). z.part) same_endpoint ∙ h.heard.does)

  same_queue : h.pipe.queue ≡ h.queue
  same_queue =
      same_Some h.pipe.queue h.queue
      (sym h.pipe.read ∙ ap (λ (n : ℕ). queue_head_at_address b.memory (32 * n)) h.there.queue ∙ h.read)

  own : h.queue.dtc ≡ false
  own =
      let numbers = k.mixed.numbers e h.there.endpoint h.there.here in
      let kept = alive b.driver k.mixed.now.framed.place.sound.owners e h.there.endpoint h.there.here h.there.chained in
      let fields = heads e h.there.endpoint h.placement h.there.here (ap is_iso h.there.kind) kept h.there.placed in
      bit_read b.memory (32 * q) h.queue h.read
      ∙ ap (λ (n : ℕ). is_set 14 (word_at b.memory (32 * n + 4))) (sym h.there.queue)
      ∙ ap (is_set 14) fields.characteristics
      ∙ own_toggle h.there.endpoint.desc numbers.addr numbers.num h.there.kind h.high

  -- both sides have the toggle of their counts
  agrees : (v : Qh) → ComesTo b.memory h.queue v → h.sending.toggle ≡ v.token.toggle
  agrees v comes =
      ap (λ (z : Sending). z.toggle) (sym same_sending) ∙ h.pipe.sends ∙ ap parity (sym h.known) ∙ sym h.pipe.expects
      ∙ by_words b k walk (32 * h.there.endpoint.queue) h.pipe.queue
      ∙ ap (λ (z : Qh). z.token.toggle) same_queue ∙ sym (same_toggle b.memory h.queue v own comes)

  answers : (v : Qh) → ComesTo b.memory h.queue v
      → (m : MovesPacket h.there.endpoint.desc.name.way v (Sends h.sending)) × (bytes_moved m ≡ length h.bytes)
  answers v comes =
      subst (λ (way : Way). (m : MovesPacket way v (Sends h.sending)) × (bytes_moved m ≡ length h.bytes)) (sym h.comes)
      (by_packet v h.sending h.bytes h.rest h.packet (h.room v comes) (agrees v comes), refl)

  abbrev can_move : (v : Qh) → ComesTo b.memory h.queue v → CanMove (fixed_of s) b.bus h.there.endpoint.desc.name v
  can_move v comes = record {
    place = h.place;
    part = Sends h.sending;
    heard = h.heard;
    answers = (answers v comes).0;
    packet = h.number;
    next = h.next;
    none_lost = h.none_lost;
  }

  is_unfinished : HasUnfinished (fixed_of s) b e q
  is_unfinished = record {
    placement = h.placement;
    there = h.there;
    active = h.active;
    high = h.high;
    bit = h.bit;
    free = h.free;
    queue = h.queue;
    read = h.read;
    unhalted = h.unhalted;
    goes_on = h.goes_on;
    unfinished = h.unfinished;
    ready = can_move;
  }

  -- its packet is due, for some transfer that its queue head comes to
  its_packet : IsDueAtBegin (fixed_of s) b e q → IsDueWith (fixed_of s) b e q (length h.bytes)
  its_packet d = record {
    due = record {
      due = record {
        placement = h.placement;
        there = h.there;
        high = h.high;
        bit = h.bit;
        free = h.free;
        transfer = record {
          queue = h.queue;
          read = h.read;
          works = d.due.transfer.works;
          next = next;
          ready = can_move d.due.transfer.works next;
        };
      };
      active = h.active;
    };
    moves = (answers d.due.transfer.works next).1;
  }
    where
      next : ComesTo b.memory h.queue d.due.transfer.works
      next =
          subst (λ (z : Qh). ComesTo b.memory z d.due.transfer.works)
          (same_Some d.due.transfer.queue h.queue (sym d.due.transfer.read ∙ h.read)) d.due.transfer.next

-- ---- of a run

record IsKnown (w : World) : Type 0 where
  mixed : IsMixedWorld w
  heads : HeadsHaveFields w.driver w.memory

module _ (text : List ℕ) (s : Script) (spelled : Spells text s) where
  known : (k e : ℕ) (x : Endpoint) → slice_get (begun s k).driver.endpoints e ≡ Some x → IsKnown (begun s k)
  known =
      so_as_begun (λ (w : World). (e : ℕ) (x : Endpoint) → slice_get w.driver.endpoints e ≡ Some x → IsKnown w) s
      (λ e x here. absurd cc)
      (λ k e x here. record { mixed = texts_stay_mixed text s spelled k; heads = heads_at text s spelled k })

  begins : (k e : ℕ) (x : Endpoint) → slice_get (begun s k).driver.endpoints e ≡ Some x → BeginsWalk (begun s k)
  unfolding ticks carried_from
  begins zero e x here = absurd cc
  begins (suc k) e x here =
      ⊎_elim {C = BeginsWalk (begun s (suc k))}
      (λ (same : begun s (suc k) ≡ begun s k).
      subst BeginsWalk (sym same) (begins k e x (subst (λ (b : World). slice_get b.driver.endpoints e ≡ Some x) same here)))
      (λ (now : BeginsNow s k).
      subst BeginsWalk (sym now.begun)
      (begins_walk (fixed_of s) (moment s k).world now.row (subst IsMixedWorld now.world (texts_stay_mixed text s spelled (suc k)))))
      (begun_then s k)

  due_with : (k e q : ℕ) (h : HasPacket s (begun s k) e q) → IsDueWith (fixed_of s) (begun s k) e q (length h.bytes)
  due_with k e q h =
      let is = known k e h.there.endpoint h.there.here in
      let walk = begins k e h.there.endpoint h.there.here in
      its_packet s (begun s k) e q h is.mixed walk is.heads
      (texts_have_unfinished_due text s spelled k e q (is_unfinished s (begun s k) e q h is.mixed walk is.heads))

  moves_packets : MovesPackets s
  moves_packets = record {
    due = λ k e q h. (due_with k e q h).due;
    moves = λ k e q past few h off.
        let d = due_with k e q h in
        subst (λ (n : ℕ). HasMoved (32 * q) n (so_far s k).moved) d.moves
        (texts_do_what_is_due_at_begin text s spelled k e q past few d.due off);
  }

pub source_moves_packets : (words : List (List ℕ)) (left : Option (List ℕ)) → OfEachPlainScript MovesPackets words left
source_moves_packets = of_each_plain MovesPackets moves_packets
