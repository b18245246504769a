-- What each event of the driver leaves of a world with what its driver has still to send: the buffers of puts hold their bytes, what the devices took begins their
-- puts, the queue heads of endpoints that have ended are halted, and what is still to be sent stands behind what was reported.
use Rattle.std.proofs.Common.{◌≡◌, ◌≢◌, ℕ, ◌*◌, Bool, true, false, List, [], slice_get, Some, None, ap, refl, sym, subst, ◌∙◌, inl, arith}
use Rattle.std.proofs.lemmas.Bool.{false≢true}
use Rattle.std.proofs.lemmas.Option.{same_Some}
use Rattle.law_world.proofs.Common.{no_command}
use Rattle.law_driver.proofs.Common.{out_way}
use Rattle.async_walk.specs.Rows.{place}
use Rattle.usb_base.specs.declared.endpoints.EpDesc.{EpDesc}
use Rattle.usb_base.specs.declared.packets.EpKind.{EpKind}
use Rattle.usb_base.specs.declared.packets.EpKind.TheVariants as kinds
use Rattle.drv_table.specs.declared.content.Endpoint.{Endpoint}
use Rattle.drv_table.specs.declared.content.Command.{Command}
use Rattle.drv_table.specs.declared.content.Command.TheVariants as unfinished
use Rattle.drv_table.specs.declared.rows.DriverRow.TheVariants as rows
use Rattle.drv_table.specs.declared.rows.Found.{Found}
use Rattle.drv_table.specs.Rows.{driver_row}
use Rattle.drv_table.specs.Words.{is_control, queue_head}
use Rattle.law_driver.specs.run_owners.Due.{IsDue, IsEndpointDue, IsHarvestDue, IsTransferDue}
use Rattle.drv_table.specs.declared.rows.DriverRow.{DriverRow}
use Rattle.claims_driver.specs.Leaving.{HasOwners}
use Rattle.law_driver.proofs.lemmas.run_owners.Reasons.{each_event_is_due}
use Rattle.bus_wire.specs.Bus.{Fixed}
use Rattle.law_devices.specs.declared_controls.Names.{IsNameOf}
use Rattle.claims_report.specs.Streams.{has_stream}
use Rattle.law_ring.specs.Told.{Endpoint as Told, endpoint_of}
use Rattle.law_ring.specs.OutBus.{Taker}
use Rattle.law_devices.specs.scripted_takers.Takers.{taker_of}
use Rattle.claims_base.specs.Controller.{opening_base}
use Rattle.law_driver_ring.specs.Driven.{DrivesRing}
use Rattle.law_driver.specs.chained_transfers.Bulk.{IsDataWay}
use Rattle.claims_driver.specs.Scripts.{receives, comes_in}
use Rattle.law_driver.proofs.lemmas.chained_transfers.Ways.{way_goes_out}
use Rattle.law_driver_ring.specs.fed_queues.Places.{IsThere, HasHead}
use Rattle.law_controller.specs.controlled_streams.Unopened.{IsUnopened}
use Rattle.law_world.specs.steps.Outs.{IsUntaken}
use Rattle.bus_world.specs.World.{World, driver_parts, driver_next}
use Rattle.law_world.specs.steps.Streaming.{Streams, Standing, wired}
use Rattle.law_world.specs.streams.put_laws.HeldPuts.{HoldsPuts}
use Rattle.law_world.specs.streams.put_laws.HeldLaws.{IsReleasedMet}
use Rattle.law_world.specs.streams.put_laws.Sent.{HoldThere}
use Rattle.law_world.proofs.lemmas.streams.lemmas.put_laws.Mends.{mend_is_in_head}
use Rattle.law_world.proofs.lemmas.streams.lemmas.put_laws.Rows.{driver_holds_puts}
use Rattle.law_world.specs.streams.put_laws.Owed.{Owes}
use Rattle.law_world.specs.streams.put_laws.OwedTaken.{TakenBegin, EndedAreStopped}
use Rattle.law_world.proofs.lemmas.streams.lemmas.put_laws.Driver.{driver_owes}
use Rattle.law_world.proofs.lemmas.streams.lemmas.put_laws.TakenRows.{driver_taken}
use Rattle.law_world.proofs.lemmas.streams.lemmas.put_laws.TakenStopped.{alike_stay_stopped}
use Rattle.law_world.specs.streams.Feeding.{there_of}
use Rattle.law_world.specs.streams.Taking.{outs_of}
use Rattle.law_world.proofs.lemmas.streams.Told.{there_on, stream_out, data_way}
use Rattle.law_world.proofs.lemmas.streams.FedMending.{mend_finds}
use Rattle.law_world.proofs.lemmas.streams.Heads.{head_is, head_on, own_toggle}
use Rattle.law_world.proofs.lemmas.streams.TakingAlike.{out_on}
use Rattle.law_world.proofs.lemmas.streams.Returning.{stand}
use Rattle.law_world.proofs.lemmas.streams.Fewer.{are_same}
use Rattle.law_world.proofs.lemmas.streams.Unmet.{UnmetStay}
use Rattle.law_world.proofs.lemmas.streams.FedRows.{row_unmet}
use Rattle.law_world.specs.streams.sending_worlds.LeavingSent.{IsSent}
use Rattle.law_world.specs.streams.sending_worlds.Sending.{IsSending, HasSending, HaveLeftTakers}

-- ---- rows that are no harvest

abbrev pub HarvestsNone : World → Type 0
HarvestsNone w = (e t : ℕ) (found : Found) → driver_row (driver_parts w) ≢ rows.Harvest e t found

-- while a command is unfinished
pub busy_harvests_none : (w : World) (c : Command) → w.driver.command ≡ Some c → HarvestsNone w
busy_harvests_none w c busy e t found row =
    let due : IsHarvestDue (driver_parts w) e t found = subst (IsDue (driver_parts w)) row (each_event_is_due (driver_parts w)) in
    no_command w.driver.command c due.idle busy

-- ---- rows by which no endpoint leaves

pub record IsOrdinary (w : World) : Type 0 where
  pub no_unlink : (e b link : ℕ) → w.driver.command ≢ Some (unfinished.Unlink e b link)
  pub no_clear : driver_row (driver_parts w) ≢ rows.ClearAdvance
  pub no_release : (e : ℕ) → driver_row (driver_parts w) ≢ rows.ReleaseEndpoint e

-- both come while no command is unfinished
pub busy_ordinary : (w : World) (c : Command) → w.driver.command ≡ Some c → ((e b link : ℕ) → c ≢ unfinished.Unlink e b link) → IsOrdinary w
busy_ordinary w c busy other = record {
  no_unlink = λ e b link is. other e b link (same_Some c (unfinished.Unlink e b link) (sym busy ∙ is));
  no_clear = λ row. let due : IsDue (driver_parts w) rows.ClearAdvance = subst (IsDue (driver_parts w)) row (each_event_is_due (driver_parts w)) in no_command w.driver.command c due.0 busy;
  no_release = λ e row. let due : IsEndpointDue (driver_parts w) e = subst (IsDue (driver_parts w)) row (each_event_is_due (driver_parts w)) in no_command w.driver.command c due.idle busy;
}

pub idle_ordinary : (w : World) (row : DriverRow) → driver_row (driver_parts w) ≡ row → w.driver.command ≡ None → row ≢ rows.ClearAdvance → ((e : ℕ) → row ≢ rows.ReleaseEndpoint e) → IsOrdinary w
idle_ordinary w row is idle clears releases = record {
  no_unlink = λ e b link busy. no_command w.driver.command (unfinished.Unlink e b link) idle busy;
  no_clear = λ same. clears (sym is ∙ same);
  no_release = λ e same. releases e (sym is ∙ same);
}

no_unlink_publish : (b e c link : ℕ) (words : List ℕ) → unfinished.Publish b words ≢ unfinished.Unlink e c link
no_unlink_publish b e c link words same = cc

no_unlink_open : (queue e c link : ℕ) → unfinished.Open queue ≢ unfinished.Unlink e c link
no_unlink_open queue e c link same = cc

pub publish_ordinary : (w : World) (b : ℕ) (words : List ℕ) → w.driver.command ≡ Some (unfinished.Publish b words) → IsOrdinary w
publish_ordinary w b words busy = busy_ordinary w (unfinished.Publish b words) busy (λ e c link. no_unlink_publish b e c link words)

pub open_ordinary : (w : World) (queue : ℕ) → w.driver.command ≡ Some (unfinished.Open queue) → IsOrdinary w
open_ordinary w queue busy = busy_ordinary w (unfinished.Open queue) busy (no_unlink_open queue)

-- ---- each event

module _ (fixed : Fixed) (takes : ℕ → ℕ → Bool) (member : ℕ → Bool) (x : Streams) (s : Standing) (puts : ℕ → List ℕ) (w : World) (k : IsSending fixed takes member x s puts w) where
  abbrev pub owners : HasOwners w.driver
  owners = k.whole.feeding.working.place.sound.owners

  abbrev pub drives : DrivesRing opening_base member s.parts s.hand (place w.control.walk w.registers w.memory) w.driver
  drives = record { ring = k.whole.feeding.working.streaming.controlled.ring; driven = k.whole.feeding.working.driven }

  -- each OUT endpoint that is there has its queue head among those of bulk endpoints
  pub there_heads : HoldThere w.driver (there_of w.driver)
  there_heads e z here there sends = there_on w.driver e z here there (stream_out z.desc (k.whole.feeding.turns.asynchronous.endpoints e z here).asynchronous sends)

  -- .. and another number than 0
  pub out_number : (e : ℕ) (z : Endpoint) → slice_get w.driver.endpoints e ≡ Some z → receives z.desc.name.way ≡ false → z.desc.name.num ≢ 0
  out_number e z here sends = by_kind z.desc.kind (stream_out z.desc (k.whole.feeding.turns.asynchronous.endpoints e z here).asynchronous sends) (k.whole.left.named e z here)
    where
      by_kind : (kind : EpKind) → has_stream kind ≡ true → IsNameOf kind z.desc.name → z.desc.name.num ≢ 0
      by_kind kinds.Control on named = absurd (false≢true on)
      by_kind kinds.Iso on named = absurd (false≢true on)
      by_kind kinds.Bulk on named = λ none. let least = named.least in absurd (omega (arith, least, none))
      by_kind kinds.Interrupt on named = λ none. let least = named.least in absurd (omega (arith, least, none))

  released_met : IsReleasedMet (driver_parts w)
  released_met t y z row there here =
      let due : IsTransferDue (driver_parts w) t = subst (IsDue (driver_parts w)) row (each_event_is_due (driver_parts w)) in k.whole.left.owed 0 t y z due.first there here

  pub held_then : IsOrdinary w → HoldsPuts (driver_next w).driver (driver_next w).memory puts
  held_then o =
      driver_holds_puts opening_base member s.parts s.hand w.control.walk (driver_parts w) s.order s.out puts owners k.whole.feeding.turns drives k.whole.feeding.queues.fed
      (λ t row. stand fixed takes member x s w t row k.whole) released_met (λ e b link is. absurd (o.no_unlink e b link is))
      (λ m row. mend_is_in_head (driver_parts w) s.parts s.out (mend_finds fixed member x s w m row k.whole.feeding) m row) (λ e row. absurd (o.no_release e row)) k.held

  -- ---- what devices took

  -- no other endpoint has the name of the one that is being opened
  pub unopened : (e : ℕ) (z : Endpoint) → slice_get w.driver.endpoints e ≡ Some z → w.driver.command ≡ Some (unfinished.Open z.queue) → receives z.desc.name.way ≡ false
      → IsUnopened (outs_of member x.streams x.endpoint) x.endpoint z.desc.name.addr z.desc.name.num
  unopened e z here opens sends n on addr num =
      let queues = k.whole.feeding.queues in
      let out = out_on member x.streams x.endpoint n on in
      let h : HasHead w.driver n = head_is w.driver member x.endpoint n queues.met out.1 in
      let told = queues.streams_are.each h.number h.endpoint h.here h.met in
      let is : x.endpoint n ≡ endpoint_of (queue_head h.endpoint.desc 0 h.endpoint.dummy) = ap x.endpoint h.at ∙ told.1 in
      let too : comes_in h.endpoint.desc.name.way ≡ false = sym told.0 ∙ ap x.streams (sym h.at) ∙ out.0 in
      -- a control endpoint takes the toggle from each qTD
      let off : is_control h.endpoint.desc.kind ≡ false =
      sym (own_toggle w.driver x.streams x.endpoint h.number h.endpoint queues.streams_are h.here h.met) ∙ ap (λ (i : ℕ). (x.endpoint i).dtc) (sym h.at) ∙ (head_on member x.endpoint n out.1).2 in
      let one_way : IsDataWay h.endpoint.desc.name.way = data_way h.endpoint.desc (k.whole.feeding.turns.asynchronous.endpoints h.number h.endpoint h.here).asynchronous off in
      let number : h.number ≡ e =
      k.whole.names h.number e h.endpoint z h.here here (sym (ap (λ (y : Told). y.addr) is) ∙ addr) (sym (ap (λ (y : Told). y.ep) is) ∙ num)
      (way_goes_out h.endpoint.desc.name.way one_way too ∙ sym (out_way z.desc.name.way sends)) in
      let same : h.endpoint ≡ z = same_Some h.endpoint z (sym h.here ∙ ap (slice_get w.driver.endpoints) number ∙ here) in
      h.met.there.linked (opens ∙ ap (λ (y : Endpoint). Some (unfinished.Open y.queue)) (sym same))

  pub nothing_taken : (e : ℕ) (z : Endpoint) (t : Taker) → slice_get w.driver.endpoints e ≡ Some z → w.driver.command ≡ Some (unfinished.Open z.queue) → z.gone ≡ false → receives z.desc.name.way ≡ false
      → taker_of (wired fixed w) z.desc.name.addr z.desc.name.num ≡ Some t → t.taken ≡ []
  nothing_taken e z t here opens kept sends is =
      let u : IsUntaken (taker_of (wired fixed w) z.desc.name.addr z.desc.name.num) =
      k.whole.taking.untaken z.desc.name.addr z.desc.name.num (k.whole.takers e z here opens kept sends) (unopened e z here opens sends) in
      ap (λ (v : Taker). v.taken) (same_Some t u.taker (sym is ∙ u.is)) ∙ u.none

  pub begin_then : TakenBegin taker_of (driver_next w).driver puts (wired fixed (driver_next w))
  begin_then = driver_taken taker_of (driver_parts w) puts (wired fixed w) nothing_taken k.begin

  -- ---- rows that are no harvest

  pub ended_alike : IsOrdinary w → HarvestsNone w → EndedAreStopped (driver_next w).driver s.parts
  ended_alike o none = alike_stay_stopped (driver_parts w) s.parts k.whole.feeding.turns none o.no_release k.ended

  -- `told` tells what was reported of queues that are there, and nothing of one whose open is finished
  pub owes_then : IsOrdinary w → (told : ℕ → List ℕ) → HarvestsNone w
      → ((e : ℕ) (z : Endpoint) → slice_get w.driver.endpoints e ≡ Some z → IsThere w.driver z → told (32 * z.queue) ≡ s.reported (32 * z.queue))
      → ((e : ℕ) (z : Endpoint) → slice_get w.driver.endpoints e ≡ Some z → w.driver.command ≡ Some (unfinished.Open z.queue) → IsThere (driver_next w).driver z → told (32 * z.queue) ≡ [])
      → Owes (driver_next w).driver (driver_next w).memory puts told
  owes_then o told none met opened = driver_owes (driver_parts w) puts s.reported told owners k.whole.feeding.turns none o.no_release met opened k.held (held_then o) k.owes

  -- no open is finished
  pub owes_same : IsOrdinary w → HarvestsNone w
      → ((e : ℕ) (z : Endpoint) → slice_get w.driver.endpoints e ≡ Some z → w.driver.command ≡ Some (unfinished.Open z.queue) → IsThere (driver_next w).driver z → ⊥)
      → Owes (driver_next w).driver (driver_next w).memory puts s.reported
  owes_same o none opens = owes_then o s.reported none (λ e z here met. refl) (λ e z here is met. absurd (opens e z here is met))

  -- ---- endpoints that have left

  pub takers_stay : (new : World) → UnmetStay w.driver new.driver → wired fixed new ≡ wired fixed w → HaveLeftTakers fixed new
  takers_stay new stay same e z here sends off =
      let u = stay e z here off in
      let h = k.left_takers e u.endpoint u.here (sym (ap (λ (y : EpDesc). receives y.name.way) u.desc) ∙ sends) u.unmet in
      record { taker = h.taker; is = ap (λ v. taker_of v z.desc.name.addr z.desc.name.num) same ∙ ap (λ (y : EpDesc). taker_of (wired fixed w) y.name.addr y.name.num) u.desc ∙ h.is }

  pub left_then : IsOrdinary w → HaveLeftTakers fixed (driver_next w)
  left_then o = takers_stay (driver_next w) (row_unmet fixed member x s w o.no_clear o.no_release k.whole.feeding) refl

  -- ---- what is sent, without the rest

  pub sent_of : IsSent fixed puts s w
  sent_of = record { sent = k.sent; ended = k.ended; held = k.held; owes = k.owes; begin = k.begin }

-- the same streams are open
pub has_of : (fixed : Fixed) (takes : ℕ → ℕ → Bool) (member : ℕ → Bool) (x : Streams) (s : Standing) (puts : ℕ → List ℕ) (w : World) → IsSending fixed takes member x s puts w
    → HasSending fixed takes x.stream x.packets puts w
has_of fixed takes member x s puts w k = record {
  member = member;
  streams = x.streams;
  endpoint = x.endpoint;
  standing = s;
  ins = x.stream;
  outs = takes;
  sending = k;
  ins_stay = λ addr ep on. inl on;
  outs_stay = λ addr ep on. inl on;
  ins_were = are_same x.stream;
  outs_were = are_same takes;
}
