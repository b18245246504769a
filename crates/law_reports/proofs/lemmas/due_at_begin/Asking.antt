-- Which endpoint an event of the walk of the frames asks, if any: that of the structure in hand, so none beside it (EHCI 1.0, 3.3.3, 3.4.2,
-- 3.6.2, 4.6 and 4.10.3; USB 2.0, 8.4.1).
use Rattle.std.proofs.Common.{◌≡◌, ◌≢◌, ℕ, ◌+◌, ◌*◌, Bool, true, false, if◌then◌else◌, List, slice_get, Some, ap, refl, sym, subst}
use Rattle.std.proofs.Common.{◌∙◌}
use Rattle.std.specs.Prelude.{◌==◌}
use Rattle.std.proofs.lemmas.Bool.{and_parts, eqb-true, false≢true}
use Rattle.std.proofs.lemmas.Option.{same_Some}
use Rattle.usb_base.specs.declared.endpoints.EpName.{EpName}
use Rattle.usb_base.specs.declared.packets.Ask.{Ask}
use Rattle.usb_base.specs.declared.packets.EpKind.{EpKind}
use Rattle.usb_base.specs.declared.packets.EpKind.TheVariants as kinds
use Rattle.usb_base.specs.declared.packets.EpKind.TheVariants.{Interrupt}
use Rattle.usb_base.specs.declared.packets.Pid.TheVariants as pids
use Rattle.usb_base.specs.declared.packets.Split.{Split}
use Rattle.usb_base.specs.declared.packets.Split.TheVariants.{Plain, Start, Complete}
use Rattle.usb_base.specs.declared.packets.Way.{Way}
use Rattle.usb_base.specs.declared.packets.Way.TheVariants as ways
use Rattle.endpoint_script.specs.declared.endpoint.Role.{Role}
use Rattle.word_mem.specs.Memory.{word_at}
use Rattle.link_words.specs.Layout.{bits}
use Rattle.drv_periodic_table.specs.Descriptors.{is_in}
use Rattle.drv_periodic_table.specs.Periodic.{dir_of}
use Rattle.drv_table.specs.declared.content.Endpoint.{Endpoint}
use Rattle.drv_table.specs.DriverContent.{DriverContent}
use Rattle.drv_table.specs.Kinds.{is_iso}
use Rattle.mem_queues.specs.Structures.{queue_head_at_address}
use Rattle.transactions.specs.Asks.{pinged, token_pid}
use Rattle.hc_copy.specs.Planning.{pid_at, transaction_of}
use Rattle.hc_copy.specs.Transacting.{call_in}
use Rattle.periodic_walk.specs.Walk.{held_address}
use Rattle.periodic_walk.specs.Rows.{step_of}
use Rattle.hc_core.specs.declared.controller.ControllerRow.{ControllerRow}
use Rattle.hc_core.specs.declared.controller.ControllerRow.TheVariants as rows
use Rattle.hc_core.specs.Controller.{frame_place, HasRow, WalksFrame}
use Rattle.bus_wire.specs.declared.seats.Seat.{Seat}
use Rattle.bus_wire.specs.declared.seats.TokenKind.{TokenKind}
use Rattle.bus_wire.specs.declared.seats.TokenKind.TheVariants as tokens
use Rattle.bus_wire.specs.Bus.{Bus, Wired, Fixed, transact_after}
use Rattle.bus_wire.specs.Seats.{place_for, suits, takes_token, token_kind}
use Rattle.claims_base.specs.Controller.{opening_base}
use Rattle.claims_world.specs.Due.{token_by, IsHeardBy}
use Rattle.law_devices.proofs.Places.{position_passes}
use Rattle.law_driver.specs.queued_drivers.Queued.{IsOfWay}
use Rattle.law_structures.specs.lent_structures.Structures.{StructureSets}
use Rattle.law_structures.proofs.lemmas.lent_structures.Reading.{head_read}
use Rattle.law_ring.specs.Effects.{Asks}
use Rattle.law_ring.specs.Hand.{Copy, Copied}
use Rattle.law_ring.specs.Streams.{StreamEffect}
use Rattle.law_ring.specs.Streams.StreamEffect.{same, aside, grows}
use Rattle.law_frames.specs.Met.{AQueue}
use Rattle.law_frames.specs.Frame.{IsInFrame, IsFrameWalk, IsFrame}
use Rattle.law_frames.specs.FrameEffects.{FrameHappens}
use Rattle.law_frames.specs.FrameHand.{FrameHand, Nothing, OfQueue, OfSettled, OfItd, OfSitd, frame_held, queue_hand}
use Rattle.law_frames.specs.FrameStreams.{AsksIso, IsIsoAsk, of_itd, of_sitd}
use Rattle.law_frames.proofs.Telling.{frame_moves_streams}
use Rattle.law_frames.proofs.Walking.{event_happens}
use Rattle.law_controller.specs.frame_control.Both.{RunsBoth}
use Rattle.law_descriptors.specs.Both.{both}
use Rattle.law_descriptors.specs.Meeting.{met}
use Rattle.bus_world.specs.World.{World, controller_parts, controller_row, controller_next}
use Rattle.law_world.specs.steps.Streaming.{begins_by, transacts_by, wired}
use Rattle.law_world.specs.memory.Mixed.{Standing, IsMixedWorld}
use Rattle.law_world.proofs.lemmas.steps.StreamTurning.{world_has_row}
use Rattle.law_world.proofs.lemmas.steps.lemmas.world_bytes.Hearing.{a_bus_of_bytes_is_heard_as_bytes}
use Rattle.law_microframes.specs.time.DataQueues.{pid_of, QueuesSendData}
use Rattle.law_microframes.specs.visits.Belonging.{HaveFields, HeadsHaveFields, IsQueueAt}
use Rattle.law_microframes.proofs.lemmas.due.Fields.{head_first, address_in, number_in}
use Rattle.law_microframes.proofs.lemmas.due.Turning.{in_periodic}
use Rattle.law_microframes.proofs.lemmas.time.DataHeads.{mixed_worlds_read_data}
use Rattle.law_microframes.proofs.lemmas.visits.BelongQueues.{queue_belongs}
use Rattle.law_reports.specs.lines.Lined.{in_hand, Lines}
use Rattle.law_reports.specs.pipes.Declared.{Sides}
use Rattle.law_reports.specs.pipes.Piped.{Heads, IsPiped}
use Rattle.law_reports.proofs.lemmas.lines.IsoGoing.{told_apart}
use Rattle.law_reports.proofs.lemmas.pipes.IsoBeside.{IsNamedIso, itd_named, sitd_named}
use Rattle.law_reports.proofs.lemmas.pipes.Names.{name_is}

-- ---- tokens

in_token : (split : Split) (kind : EpKind) (ping : Bool) → token_kind (token_pid split pids.In (pinged kind ping)) ≡ tokens.In
in_token Plain kind ping = refl
in_token (Start hub port part) kind ping = refl
in_token (Complete hub port) kind ping = refl

pinged_token : (kind : EpKind) (ping : Bool) → token_kind (pinged kind ping) ≡ tokens.Out
pinged_token kinds.Iso ping = refl
pinged_token kinds.Control true = refl
pinged_token kinds.Control false = refl
pinged_token kinds.Bulk true = refl
pinged_token kinds.Bulk false = refl
pinged_token kinds.Interrupt true = refl
pinged_token kinds.Interrupt false = refl

out_token : (split : Split) (kind : EpKind) (ping : Bool) → token_kind (token_pid split pids.Out (pinged kind ping)) ≡ tokens.Out
out_token Plain kind ping = pinged_token kind ping
out_token (Start hub port part) kind ping = refl
out_token (Complete hub port) kind ping = refl

its_token : (way : Way) (split : Split) (kind : EpKind) (ping : Bool) (pid : ℕ) → way ≢ ways.Ctl → pid ≡ pid_of (dir_of way)
    → token_kind (token_pid split (pid_at pid) (pinged kind ping)) ≡ token_by way
its_token ways.In split kind ping pid one is =
    ap (λ (n : ℕ). token_kind (token_pid split (pid_at n) (pinged kind ping))) is ∙ in_token split kind ping
its_token ways.Out split kind ping pid one is =
    ap (λ (n : ℕ). token_kind (token_pid split (pid_at n) (pinged kind ping))) is ∙ out_token split kind ping
its_token ways.Ctl split kind ping pid one is = absurd (one refl)

iso_token : (way : Way) (b : Bool) → way ≢ ways.Ctl → b ≡ is_in way → token_kind (if b then pids.In else pids.Out) ≡ token_by way
iso_token ways.In b one is = ap (λ (c : Bool). token_kind (if c then pids.In else pids.Out)) is
iso_token ways.Out b one is = ap (λ (c : Bool). token_kind (if c then pids.In else pids.Out)) is
iso_token ways.Ctl b one is = absurd (one refl)

-- an endpoint is asked by tokens of its own way alone
pub same_way : (a b : Way) → a ≢ ways.Ctl → b ≢ ways.Ctl → takes_token a (token_by b) ≡ true → a ≡ b
same_way ways.In ways.In one other is = refl
same_way ways.Out ways.Out one other is = refl
same_way ways.In ways.Out one other is = absurd (false≢true is)
same_way ways.Out ways.In one other is = absurd (false≢true is)
same_way ways.Ctl b one other is = absurd (one refl)
same_way ways.In ways.Ctl one other is = absurd (other refl)
same_way ways.Out ways.Ctl one other is = absurd (other refl)

-- ---- what is in hand

copied_is : (hand : FrameHand) (c : Copy) → queue_hand hand ≡ Copied c → held_address (frame_held hand) ≡ Some c.at
copied_is Nothing c is = absurd cc
copied_is (OfQueue b m) c is = let one : b ≡ c = cc in ap (λ (x : Copy). Some x.at) one
copied_is (OfSettled b z m) c is = absurd cc
copied_is (OfItd b) c is = absurd cc
copied_is (OfSitd b) c is = absurd cc

-- the endpoint of an ask, which isn't endpoint e
pub record IsAskOfOther (d : DriverContent) (e : ℕ) (ask : Ask) : Type 0 where
  pub number : ℕ
  pub endpoint : Endpoint
  pub here : slice_get d.endpoints number ≡ Some endpoint
  pub other : number ≢ e
  pub address : ask.addr ≡ endpoint.desc.name.addr
  pub place : ask.ep ≡ endpoint.desc.name.num
  pub one : endpoint.desc.name.way ≢ ways.Ctl
  pub token : token_kind ask.pid ≡ token_by endpoint.desc.name.way

pub data BusGoes (fixed : Fixed) (w : World) (e : ℕ) (b : Bus) : Type 0 where
  is_quiet : b ≡ w.bus → BusGoes fixed w e b
  is_asked : (ask : Ask) (out : List ℕ) → IsAskOfOther w.driver e ask → b ≡ transact_after fixed w.bus ask out → BusGoes fixed w e b

control_only : (way : Way) → is_iso kinds.Control ≡ true → ⊥
control_only way is = false≢true is

module _ (fixed : Fixed) (x : Sides) (s : Standing) (m : Lines) (h : Heads) (w : World) (k : IsPiped fixed x s m h w)
    (heads : HeadsHaveFields w.driver w.memory) (sends : QueuesSendData w.driver w.memory) (row : controller_row w ≡ rows.Frame) where
  abbrev pub all : StructureSets
  all = both s.descs s.parts

  abbrev pub new : World
  new = controller_next fixed w

  runs : RunsBoth opening_base s.member (met w.driver s.recent) (both s.descs s.parts) s.hand s.frame (controller_parts w)
  runs = k.mixed.now.framed.runs

  pub walk : IsFrameWalk (met w.driver s.recent) (both s.descs s.parts) s.frame (frame_place (controller_parts w))
  walk = runs.walk (in_periodic fixed w row)

  pub frame : IsFrame (met w.driver s.recent) (both s.descs s.parts) s.frame (frame_place (controller_parts w))
  frame = record { tells = runs.ring.tells; members = runs.members; walk = walk }

  pub walks : WalksFrame transacts_by (controller_parts w) (wired fixed w) (controller_parts (controller_next fixed w))
      (wired fixed (controller_next fixed w))
  walks =
      subst (λ (r : ControllerRow). HasRow begins_by transacts_by r (controller_parts w) (wired fixed w)
      (controller_parts (controller_next fixed w)) (wired fixed (controller_next fixed w))) row (world_has_row fixed w)

  pub happens : FrameHappens transacts_by (met w.driver s.recent) (both s.descs s.parts) s.frame (wired fixed w)
      (wired fixed (controller_next fixed w)) (frame_place (controller_parts w)) (frame_place (controller_parts (controller_next fixed w)))
      (step_of (frame_place (controller_parts w)))
  happens =
      event_happens transacts_by (met w.driver s.recent) all s.frame (frame_place (controller_parts w)) (wired fixed w)
      (frame_place (controller_parts (controller_next fixed w))) (wired fixed (controller_next fixed w)) frame
      (a_bus_of_bytes_is_heard_as_bytes fixed w k.mixed.bytes (wired fixed (controller_next fixed w))) walks.walked

  stream : StreamEffect (IsIsoAsk (both s.descs s.parts)) transacts_by (both s.descs s.parts) (queue_hand s.frame) (wired fixed w)
      (wired fixed (controller_next fixed w)) happens.now (queue_hand happens.later)
  stream =
      frame_moves_streams transacts_by (met w.driver s.recent) all s.frame (frame_place (controller_parts w)) (wired fixed w)
      (wired fixed (controller_next fixed w)) happens.now happens.later (step_of (frame_place (controller_parts w))) frame happens.effect

  -- ---- whom it asks

  module _ (e : ℕ) (z : Endpoint) (there : slice_get w.driver.endpoints e ≡ Some z) (kind : z.desc.kind ≡ Interrupt)
      (apart : (a : ℕ) → held_address w.control.frame.hand ≡ Some a → 32 * z.queue ≢ a) where
    one_way : (i : ℕ) (y : Endpoint) → slice_get w.driver.endpoints i ≡ Some y → y.desc.kind ≢ kinds.Control → y.desc.name.way ≢ ways.Ctl
    one_way i y here never is =
        never (subst (λ (way : Way). IsOfWay way y.desc.kind) is
        (k.mixed.turns.kinds_fit i y here))

    iso_asked : (addr ep : ℕ) (dir_in : Bool) (ask : Ask) → IsNamedIso w.driver addr ep dir_in → AsksIso addr ep dir_in ask
        → IsAskOfOther w.driver e ask
    iso_asked addr ep dir_in ask i a =
        let one : i.endpoint.desc.name.way ≢ ways.Ctl =
        one_way i.number i.endpoint i.here (λ (is : i.endpoint.desc.kind ≡ kinds.Control). false≢true (ap is_iso (sym is) ∙ i.iso)) in
        record {
          number = i.number;
          endpoint = i.endpoint;
          here = i.here;
          other = λ same.
              let its : i.endpoint ≡ z = same_Some i.endpoint z (sym i.here ∙ ap (slice_get w.driver.endpoints) same ∙ there) in
              false≢true (ap is_iso (sym kind) ∙ ap (λ (y : Endpoint). is_iso y.desc.kind) (sym its) ∙ i.iso);
          address = a.address ∙ i.named.address;
          place = a.number ∙ i.named.number;
          one = one;
          token = ap token_kind a.token ∙ iso_token i.endpoint.desc.name.way dir_in one i.named.way;
        }

    queue_asked : (r : Asks transacts_by (both s.descs s.parts) (queue_hand s.frame) (wired fixed w)
        (wired fixed (controller_next fixed w)) (queue_hand happens.later))
        → IsAskOfOther w.driver e (call_in (transaction_of r.kind r.copy.queue) r.out r.last).ask
    queue_asked r =
        let at : held_address w.control.frame.hand ≡ Some r.copy.at = ap held_address walk.held ∙ copied_is s.frame r.copy r.in_hand in
        let on : met w.driver s.recent r.copy.at ≡ Some AQueue = copied_on s.frame walk.in_hand r.copy r.in_hand in
        let b : IsQueueAt w.driver r.copy.at = queue_belongs s w r.copy.at k.mixed on in
        let y : Endpoint = b.belongs.endpoint in
        let iso : is_iso y.desc.kind ≡ false = ap is_iso b.kind in
        let fields : HaveFields (word_at w.memory (32 * y.queue + 4)) (word_at w.memory (32 * y.queue + 8)) y.desc b.belongs.placement =
        heads b.belongs.number y b.belongs.placement b.belongs.here iso b.belongs.kept b.belongs.placed in
        let read : queue_head_at_address w.memory (32 * y.queue) ≡ Some r.copy.queue =
        ap (queue_head_at_address w.memory) (sym b.name)
        ∙ head_read w.memory all r.copy.at r.copy.at r.copy.queue runs.ring.tells r.here in
        let first = head_first w.memory (32 * y.queue) r.copy.queue read in
        let fit = k.mixed.numbers b.belongs.number y b.belongs.here in
        let mixed : IsMixedWorld w = record { standing = s; mixed = k.mixed } in
        let pid = (mixed_worlds_read_data w mixed sends).heads b.belongs.number y r.copy.queue b.belongs.here b.kind b.belongs.kept read
        r.works in
        let one : y.desc.name.way ≢ ways.Ctl =
        one_way b.belongs.number y b.belongs.here (λ (is : y.desc.kind ≡ kinds.Control). not_both y.desc.kind b.kind is) in
        record {
          number = b.belongs.number;
          endpoint = y;
          here = b.belongs.here;
          other = λ same.
              let its : y ≡ z = same_Some y z (sym b.belongs.here ∙ ap (slice_get w.driver.endpoints) same ∙ there) in
              apart r.copy.at at (ap (λ (v : Endpoint). 32 * v.queue) (sym its) ∙ sym b.name);
          address = first.0 ∙ ap (bits 6 0) fields.characteristics ∙ address_in y.desc fit.addr;
          place = first.1 ∙ ap (bits 11 8) fields.characteristics ∙ number_in y.desc fit.addr fit.num;
          one = one;
          token = its_token y.desc.name.way (transaction_of r.kind r.copy.queue).split r.kind r.copy.queue.token.ping
              r.copy.queue.token.pid one pid;
        }
      where
        not_both : (a : EpKind) → a ≡ kinds.Interrupt → a ≡ kinds.Control → ⊥
        not_both a is other = let no : kinds.Interrupt ≡ kinds.Control = sym is ∙ other in cc

        copied_on : (hand : FrameHand)
            → IsInFrame (met w.driver s.recent) (both s.descs s.parts) w.control.frame.got w.control.frame.reply hand → (c : Copy)
            → queue_hand hand ≡ Copied c → met w.driver s.recent c.at ≡ Some AQueue
        copied_on Nothing in_frame c is = absurd cc
        copied_on (OfQueue y n) in_frame c is =
            let one : y ≡ c = cc in ap (λ (v : Copy). met w.driver s.recent v.at) (sym one) ∙ in_frame.on
        copied_on (OfSettled y z n) in_frame c is = absurd cc
        copied_on (OfItd y) in_frame c is = absurd cc
        copied_on (OfSitd y) in_frame c is = absurd cc

    by_stream : StreamEffect (IsIsoAsk (both s.descs s.parts)) transacts_by (both s.descs s.parts) (queue_hand s.frame) (wired fixed w)
        (wired fixed (controller_next fixed w)) happens.now (queue_hand happens.later) → BusGoes fixed w e (controller_next fixed w).bus
    by_stream (same told quiet) = is_quiet (ap (λ (v : Wired). v.bus) quiet)
    by_stream (aside told ask out reply (of_itd n v here a) made) =
        is_asked ask out
        (iso_asked v.addr v.ep v.dir_in ask (itd_named x s w k.mixed k.declared k.descriptors n v here) a)
        (ap (λ (v : Wired). v.bus) made.1)
    by_stream (aside told ask out reply (of_sitd n v here a) made) =
        is_asked ask out
        (iso_asked v.addr v.ep v.dir_in ask (sitd_named x s w k.mixed k.declared k.descriptors n v here) a)
        (ap (λ (v : Wired). v.bus) made.1)
    by_stream (grows r still g) =
        is_asked (call_in (transaction_of r.kind r.copy.queue) r.out r.last).ask
        (call_in (transaction_of r.kind r.copy.queue) r.out r.last).out (queue_asked r)
        (ap (λ (v : Wired). v.bus) r.made.1)

    pub bus_goes : BusGoes fixed w e (controller_next fixed w).bus
    bus_goes = by_stream stream

    -- it isn't for the place of endpoint e
    pub not_its_place : (ask : Ask) → IsAskOfOther w.driver e ask → (b : Bus) (place : ℕ) (part : Role)
        → IsHeardBy fixed b z.desc.name place part → z.desc.name.way ≢ ways.Ctl
        → place_for fixed.seats ask.addr ask.ep (token_kind ask.pid) ≢ Some place
    not_its_place ask a b place part r one found =
        let suited = position_passes (λ (v : Seat). suits v.name ask.addr ask.ep (token_kind ask.pid)) fixed.seats place r.seat found
        r.seated in
        let p = and_parts (r.seat.name.addr == ask.addr) _ suited in
        let q = and_parts (r.seat.name.num == ask.ep) _ p.1 in
        let addr : z.desc.name.addr ≡ a.endpoint.desc.name.addr =
        ap (λ (n : EpName). n.addr) (sym r.named) ∙ eqb-true r.seat.name.addr ask.addr p.0 ∙ a.address in
        let num : z.desc.name.num ≡ a.endpoint.desc.name.num =
        ap (λ (n : EpName). n.num) (sym r.named) ∙ eqb-true r.seat.name.num ask.ep q.0 ∙ a.place in
        let takes : takes_token z.desc.name.way (token_by a.endpoint.desc.name.way) ≡ true =
        ap (λ (t : TokenKind). takes_token z.desc.name.way t) (sym a.token)
        ∙ ap (λ (n : EpName). takes_token n.way (token_kind ask.pid)) (sym r.named) ∙ q.1 in
        let way : z.desc.name.way ≡ a.endpoint.desc.name.way = same_way z.desc.name.way a.endpoint.desc.name.way one a.one takes in
        a.other (told_apart w.driver (in_hand s) s.parts m.reported k.telling.told a.number e a.endpoint z a.here there
        (name_is a.endpoint.desc.name z.desc.name (sym addr) (sym num) (sym way)))
