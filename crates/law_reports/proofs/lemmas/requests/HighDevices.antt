-- At each event of the controller, in a world with endpoints of every kind, the device of an endpoint stays as it is where no queue head
-- asks it, and no isochronous transaction.
use Rattle.std.proofs.Common.{◌≡◌, ℕ, ◌*◌, ◌≤◌, true, not, slice_get, Some, ap, refl, sym, ◌∙◌}
use Rattle.std.proofs.lemmas.Bool.{false≢true, true≢false, and_parts}
use Rattle.std.proofs.lemmas.Option.{same_Some}
use Rattle.law_world.proofs.Common2.{opened_is}
use Rattle.law_driver.proofs.Common.{of_none, get_queued}
use Rattle.usb_base.specs.declared.packets.Ask.{Ask}
use Rattle.usb_base.specs.declared.packets.EpKind.{EpKind}
use Rattle.usb_base.specs.declared.packets.EpKind.TheVariants as kinds
use Rattle.bus_wire.specs.Bus.{Wired, Fixed}
use Rattle.hc_copy.specs.Planning.{transaction_of}
use Rattle.hc_copy.specs.Transacting.{call_in}
use Rattle.drv_table.specs.declared.content.Endpoint.{Endpoint}
use Rattle.drv_table.specs.DriverContent.{DriverContent}
use Rattle.drv_table.specs.Kinds.{is_iso}
use Rattle.drv_table.specs.Words.{is_control, head_block, opening_head}
use Rattle.law_driver.specs.endpoint_lives.Lives.{may_meet}
use Rattle.law_driver.specs.queued_drivers.Queued.{queued_endpoint, queued}
use Rattle.law_driver.proofs.lemmas.queued_drivers.CommandFields.{name_same}
use Rattle.usb_base.specs.declared.endpoints.EpName.{EpName}
use Rattle.law_driver_ring.specs.fed_queues.Places.{IsMet}
use Rattle.law_ring.specs.Hand.{Hand}
use Rattle.law_ring.specs.Effects.{Asks}
use Rattle.law_ring.specs.Streams.StreamEffect.{same, aside, grows}
use Rattle.law_ring.specs.Told.{endpoint_of}
use Rattle.law_controller.specs.frame_control.Joined.{joined, begun, moved}
use Rattle.law_frames.specs.FrameStreams.{IsIsoAsk, of_itd, of_sitd}
use Rattle.law_descriptors.specs.Both.{both}
use Rattle.law_devices.specs.request_calls.Bus.{IsAskFor}
use Rattle.law_devices.specs.scripted_requests.Controls.{transacts_by}
use Rattle.law_devices.proofs.lemmas.scripted_requests.Asking.{a_scripted_bus_answers_by_stages}
use Rattle.law_devices.proofs.lemmas.scripted_requests.Beginning.{keeps_devices}
use Rattle.law_microframes.proofs.lemmas.visits.AskedHeads.{asked_is_near}
use Rattle.law_microframes.specs.visits.WorldPipes.{EventOf}
use Rattle.claims_report.specs.ControlSides.{Device}
use Rattle.law_devices.specs.Controls.{control_of}
use Rattle.claims_report.specs.Requests.{Request}
use Rattle.claims_world.specs.Requests.{wired, Windows, opens}
use Rattle.bus_world.specs.World.{World, controller_next}
use Rattle.law_world.specs.memory.Mixed.{Standing}
use Rattle.law_reports.specs.lines.Lined.{Lines}
use Rattle.law_reports.specs.pipes.Declared.{Sides as Pipes}
use Rattle.law_reports.specs.pipes.Piped.{Heads, IsPiped}
use Rattle.law_reports.proofs.lemmas.pipes.Controlled.{c, z}
use Rattle.law_reports.proofs.lemmas.pipes.IsoBeside.{IsNamedIso, itd_named, sitd_named}
use Rattle.law_reports.specs.requests.Asking.{Sides, Asking, has_left, IsUnopened}
use Rattle.law_reports.specs.requests.Footing.{IsFooting}
use Rattle.law_reports.specs.requests.TransferEvents.{IsLeftAlone}
use Rattle.law_reports.specs.requests.HighAsking.{told_world, told_standing, told_streams, AreSuited, AsksAt}
use Rattle.law_reports.proofs.lemmas.requests.HighFooting.{real_control}
use Rattle.law_reports.proofs.lemmas.requests.Names.{left_is, not_met, has_device}

-- no isochronous endpoint of the driver has this name
pub NoneIsIso : DriverContent → ℕ → ℕ → Type 0
NoneIsIso d addr num = (e : ℕ) (y : Endpoint) → slice_get d.endpoints e ≡ Some y → is_iso y.desc.kind ≡ true → y.desc.name.addr ≡ addr
    → y.desc.name.num ≡ num → ⊥

pub control_iso : (kind : EpKind) → is_control kind ≡ true → is_iso kind ≡ true → ⊥
control_iso kinds.Control on iso = false≢true iso
control_iso _ on iso = false≢true on

module _ (fixed : Fixed) (x : Pipes) (s : Standing) (m : Lines) (h : Heads) (w : World) (k : IsPiped fixed x s m h w) where
  abbrev new : World
  new = controller_next fixed w

  abbrev wire : Wired
  wire = wired fixed w

  abbrev after : Wired
  after = wired fixed (controller_next fixed w)

  abbrev hand_now : Hand
  hand_now = joined s.hand s.frame

  abbrev event_of : EventOf fixed s w (c fixed x s m h w k).event
  event_of = z fixed x s m h w k

  abbrev hand_then : Hand
  hand_then = joined (c fixed x s m h w k).event.later (c fixed x s m h w k).event.frame_later

  -- an isochronous transaction asks an isochronous endpoint
  iso_other : (addr num : ℕ) (ask : Ask) → NoneIsIso w.driver addr num → IsIsoAsk (both s.descs s.parts) ask → IsAskFor addr num ask → ⊥
  unfolding NoneIsIso
  iso_other addr num ask none (of_itd n v here a) for =
      let i : IsNamedIso w.driver v.addr v.ep v.dir_in = itd_named x s w k.mixed k.declared k.descriptors n v here in
      none i.number i.endpoint i.here i.iso (sym (for.address ∙ a.address ∙ i.named.address)) (sym (for.number ∙ a.number ∙ i.named.number))
  iso_other addr num ask none (of_sitd n v here a) for =
      let i : IsNamedIso w.driver v.addr v.ep v.dir_in = sitd_named x s w k.mixed k.declared k.descriptors n v here in
      none i.number i.endpoint i.here i.iso (sym (for.address ∙ a.address ∙ i.named.address)) (sym (for.number ∙ a.number ∙ i.named.number))

  pub device_waits : (addr num : ℕ) (d : Device) → NoneIsIso w.driver addr num
      → ((q : Asks transacts_by s.parts (joined s.hand s.frame) (wired fixed w) (wired fixed (controller_next fixed w))
      (joined (c fixed x s m h w k).event.later (c fixed x s m h w k).event.frame_later))
      → addr ≡ (endpoint_of q.copy.queue).addr → num ≡ (endpoint_of q.copy.queue).ep → ⊥)
      → control_of (wired fixed w) addr num ≡ Some d → control_of (wired fixed (controller_next fixed w)) addr num ≡ Some d
  device_waits addr num d none unasked is = by event_of
    where
      by : EventOf fixed s w (c fixed x s m h w k).event → control_of (wired fixed (controller_next fixed w)) addr num ≡ Some d
      by (begun index allowed begins_so told) = keeps_devices wire index allowed after addr num d begins_so is
      by (moved (same told quiet)) = ap (λ (v : Wired). control_of v addr num) quiet ∙ is
      by (moved (aside told ask out reply other made)) =
          a_scripted_bus_answers_by_stages.others wire ask out reply after addr num d made is (λ for. iso_other addr num ask none other for)
      by (moved (grows q all g)) =
          a_scripted_bus_answers_by_stages.others wire (call_in (transaction_of q.kind q.copy.queue) q.out q.last).ask
          (call_in (transaction_of q.kind q.copy.queue) q.out q.last).out q.reply after addr num d q.made is
          (λ for. unasked q for.address for.number)

  -- ---- no endpoint of this name is met

  module _ (f : IsFooting s.near (told_streams s) (told_standing s m) (told_world w)) where
    pub device_unmet : (addr num : ℕ) (d : Device) → 1 ≤ addr → NoneIsIso w.driver addr num
        → ((e : ℕ) (y : Endpoint) → slice_get (queued w.driver).endpoints e ≡ Some y → IsMet (queued w.driver) e y → y.desc.name.addr ≡ addr
        → y.desc.name.num ≡ num → ⊥)
        → control_of (wired fixed w) addr num ≡ Some d → control_of (wired fixed (controller_next fixed w)) addr num ≡ Some d
    device_unmet addr num d least none unmet is =
        device_waits addr num d none
        (λ q address number.
        not_met s.near (told_streams s) (told_standing s m) (told_world w) f addr num least unmet q.copy.at (endpoint_of q.copy.queue)
        (asked_is_near s w k.mixed q.copy q.in_hand q.here q.works) (record { queue = q.copy.queue; head = q.here; is = refl }) address
        number)
        is

    -- while it is opened none is met, and none is isochronous
    pub device_unopened : (addr num : ℕ) (d : Device) → 1 ≤ addr → IsUnopened (queued w.driver) addr num
        → control_of (wired fixed w) addr num ≡ Some d → control_of (wired fixed (controller_next fixed w)) addr num ≡ Some d
    unfolding NoneIsIso
    device_unopened addr num d least none is =
        device_unmet addr num d least
        (λ e y here iso address number.
        let t : Endpoint = queued_endpoint y in
        let name : t.desc.name ≡ y.desc.name = name_same y in
        let off = and_parts (opens (queued w.driver).command t.queue) (not t.gone)
        (none e t (get_queued w.driver.endpoints e y here) (ap (λ (n : EpName). n.addr) name ∙ address)
        (ap (λ (n : EpName). n.num) name ∙ number)) in
        false≢true (sym (ap (λ (u : Endpoint). not u.gone) (of_none y iso)) ∙ off.1))
        (λ e y here met address number.
        met.there.linked (opened_is (queued w.driver).command y.queue
        (and_parts (opens (queued w.driver).command y.queue) (not y.gone) (none e y here address number)).0)) is

    -- ---- of a control endpoint

    module _ (g : Sides) (a : Asking) (v : Windows) (asks : ℕ → Request) (head : h.ends (32 * head_block) ≡ endpoint_of opening_head)
        (suited : AreSuited g w.driver) (q : AsksAt g fixed s a v asks w) where
      -- no isochronous endpoint has its name
      pub control_no_iso : (e : ℕ) (y : Endpoint) → slice_get (queued w.driver).endpoints e ≡ Some y → is_control y.desc.kind ≡ true
          → NoneIsIso w.driver y.desc.name.addr y.desc.name.num
      unfolding NoneIsIso
      control_no_iso e y here on i t there iso address number =
          let u : Endpoint = queued_endpoint t in
          let name : u.desc.name ≡ t.desc.name = name_same t in
          let at : e ≡ i = f.apart e i y u here on (get_queued w.driver.endpoints i t there) (ap (λ (n : EpName). n.addr) name ∙ address)
          (ap (λ (n : EpName). n.num) name ∙ number) in
          let one : y ≡ u = same_Some y u
          (sym here ∙ ap (slice_get (queued w.driver).endpoints) at ∙ get_queued w.driver.endpoints i t there) in
          control_iso t.desc.kind
          (real_control g fixed x s m h w k head suited i t there (ap (λ (b : Endpoint). is_control b.desc.kind) (sym one) ∙ on)) iso

      pub left_waits : (e : ℕ) (y : Endpoint) → has_left g (queued w.driver) e ≡ true → slice_get (queued w.driver).endpoints e ≡ Some y
          → IsLeftAlone fixed (told_world w) (controller_next fixed (told_world w)) y
      left_waits e y left here =
          let is = left_is g (queued w.driver) e y here left in
          let device = has_device s.near (told_streams s) (told_standing s m) (told_world w) f g fixed a v asks q e y
          (record { here = here; control = is.0 }) in
          let on : is_control y.desc.kind ≡ true = g.controls y.desc is.0 in
          record {
            device = device.0;
            before = device.1;
            after = device_unmet y.desc.name.addr y.desc.name.num device.0 (q.given e y (record { here = here; control = is.0 })).addressed
                (control_no_iso e y here on)
                (λ i t there met address number.
                let at : e ≡ i = f.apart e i y t here on there address number in
                let one : t ≡ y = same_Some t y (sym there ∙ ap (slice_get (queued w.driver).endpoints) (sym at) ∙ here) in
                true≢false (sym met.near ∙ ap (λ (j : ℕ). may_meet (queued w.driver) j t) (sym at)
                ∙ ap (λ (u : Endpoint). may_meet (queued w.driver) e u) one ∙ is.1))
                device.1;
          }
