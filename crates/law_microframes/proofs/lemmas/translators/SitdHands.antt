-- The start-split of the siTD in hand is one that the plan of its translator calls for, and its endpoint isn't given back in the frame,
-- where of an OUT that was begun the entry lacks its last part (EHCI 1.0, 3.4, 4.6 and 4.12.3; USB 2.0, 11.14 and 11.18).
use Rattle.std.proofs.Common.{◌≡◌, ℕ, ◌%◌, ◌<◌, Bool, true, false, slice_get, Option, Some, None, refl, sym, ap, subst, ◌∙◌, arith, if◌then◌else◌}
use Rattle.std.specs.Prelude.{◌==◌, nat_lt, nat_eq, unwrap_or, position}
use Rattle.std.proofs.lemmas.Bool.{true≢false, lt-ltb, eq-eqb, and_from}
use Rattle.std.proofs.lemmas.Option.{same_Some}
use Rattle.law_driver.proofs.Common.{waits_is}
use Rattle.law_common.proofs.Numbers.{same_blocks}
use Rattle.law_microframes.proofs.Common.{out_dir}
use Rattle.usb_base.specs.declared.endpoints.EpDesc.{EpDesc}
use Rattle.usb_base.specs.declared.packets.Ask.{Ask}
use Rattle.usb_base.specs.declared.packets.DataPart.{DataPart}
use Rattle.usb_base.specs.declared.packets.EpKind.{EpKind}
use Rattle.usb_base.specs.declared.packets.Speed.{Speed}
use Rattle.usb_base.specs.declared.packets.Way.{Way}
use Rattle.script_types.specs.declared.scripts.Script.{Script}
use Rattle.itd_sitd.specs.declared.sitd.Sitd.{Sitd}
use Rattle.multi_tt.specs.Translators.{place_of}
use Rattle.hub_class.specs.HubContent.{HubContent}
use Rattle.hc_iso.specs.declared.held.HeldSitd.{HeldSitd}
use Rattle.hc_iso.specs.declared.held.IsoTransaction.{IsoTransaction}
use Rattle.hc_iso.specs.declared.held.SitdTurn.TheVariants.{Work}
use Rattle.hc_iso.specs.Sitd.{sitd_missed, comes, sitd_turn, part_bytes, sitd_in, sitd_out, sitd_transaction}
use Rattle.bandwidth.specs.declared.placements.Placement.{Placement}
use Rattle.bandwidth.specs.Placements.{is_classic}
use Rattle.bandwidth.specs.Sums.{is_hub, is_active}
use Rattle.drv_periodic_table.specs.Periodic.{note_at}
use Rattle.hc_core.specs.declared.controller.MicroframePart.TheVariants.{Periodic}
use Rattle.drv_table.specs.declared.content.Transfer.{Transfer}
use Rattle.drv_table.specs.Kinds.{is_iso}
use Rattle.drv_table.specs.Words.{is_high}
use Rattle.bus_wire.specs.Bus.{fixed_of, opening_bus}
use Rattle.bus_world.specs.World.{World}
use Rattle.claims_world.specs.FrameHeads.{IsAllowed}
use Rattle.claims_world.specs.Visits.{frame_in}
use Rattle.law_budgets.specs.visit_prices.Spent.{placed_as}
use Rattle.law_driver.specs.queued_drivers.Queued.{IsOfWay, FitsKind}
use Rattle.law_frames.specs.Met.{ASitd}
use Rattle.law_world.specs.memory.Mixed.{Standing, IsMixedAt}
use Rattle.law_translator.specs.hub_plans.HubPlans.{AreKeysApart}
use Rattle.law_translator.specs.hub_plans.Laws.{IsPlacedRight}
use Rattle.law_microframes.specs.plans.Laws.{PlacesAreRight}
use Rattle.law_microframes.specs.visits.Belonging.{placed_of, IsDescriptorAt}
use Rattle.law_microframes.specs.visits.OneDescriptor.{IsActiveSome, AreServed}
use Rattle.law_microframes.specs.time.PaymentLaws.{HasPeriodics}
use Rattle.law_microframes.specs.time.SitdFields.{HaveSitdFields, SitdsStand}
use Rattle.law_microframes.specs.due.repeats.Hearing.{number_of, is_control_way, IsHeardOn}
use Rattle.law_microframes.specs.translators.Watching.{StartFollows}
use Rattle.law_microframes.specs.translators.Keeping.{key_for, IsOwned, EntryLacks}
use Rattle.law_microframes.proofs.lemmas.visits.ActiveStands.{active_is_framed}
use Rattle.law_microframes.proofs.lemmas.time.PaymentFrames.{chained_active}
use Rattle.law_microframes.proofs.lemmas.time.PaymentIsochronous.{one_transfer, iso_now}
use Rattle.law_microframes.proofs.lemmas.time.SitdParts.{works}
use Rattle.law_microframes.proofs.lemmas.time.SplitMasked.{allowed_are_split}
use Rattle.law_microframes.proofs.lemmas.due.lemmas.repeats.Endpoints.{AllStand}
use Rattle.law_microframes.proofs.lemmas.translators.Hands.{numbered}
use Rattle.law_microframes.proofs.lemmas.translators.Owned.{owned_planned}
use Rattle.law_microframes.proofs.lemmas.translators.Placing.{one_of}
use Rattle.law_microframes.proofs.lemmas.translators.SitdStarts.{in_ask, out_ask, in_transaction, out_transaction, in_key, in_follows, out_key, out_follows}
use Rattle.claims_world.specs.HubPlans.{is_below, placed_below, key_at, is_number, plans_now}
use Rattle.claims_world.specs.Pipelines.{port_at}
use Rattle.law_microframes.proofs.lemmas.translators.SitdCopies.{IsCopyOf, copy_of}
use Rattle.usb_base.specs.declared.packets.EpKind.TheVariants as kinds
use Rattle.usb_base.specs.declared.packets.Speed.TheVariants as speeds
use Rattle.usb_base.specs.declared.packets.Split.TheVariants as splits
use Rattle.usb_base.specs.declared.packets.Way.TheVariants as ways
use Rattle.periodic_walk.specs.declared.state.Hand.TheVariants as hands

-- ---- small facts

low_classic : (s : Speed) → is_classic s ≡ true → is_high s ≡ false
low_classic speeds.High is = absurd (true≢false (sym is))
low_classic speeds.Full is = refl
low_classic speeds.Low is = refl

no_control : (x : EpDesc) → FitsKind x → x.kind ≡ kinds.Iso → is_control_way x.name.way ≡ false
no_control x fits kind = by x.name.way x.kind fits kind
  where
    by : (w : Way) (k : EpKind) → IsOfWay w k → k ≡ kinds.Iso → is_control_way w ≡ false
    by ways.In k fits is = refl
    by ways.Out k fits is = refl
    by ways.Ctl k fits is = absurd (let e = sym fits ∙ is in cc)

-- a start-split names its hub
in_names : (v : Sitd) (hub port : ℕ) (part : DataPart) → (in_ask v).split ≡ splits.Start hub port part → (v.hub ≡ hub) × (v.port ≡ port)
in_names v hub port part is = (cc, cc)

out_names : (v : Sitd) (hub port : ℕ) (part : DataPart) → (out_ask v).split ≡ splits.Start hub port part → (v.hub ≡ hub) × (v.port ≡ port)
out_names v hub port part is = (cc, cc)

not_waiting : (v : Sitd) (hub port : ℕ) (part : DataPart) (b : Bool) → v.split_state ≡ b
    → (sitd_in v).ask.split ≡ splits.Start hub port part
    → v.split_state ≡ false
not_waiting v hub port part false is split = is
not_waiting v hub port part true is split = absurd (complete (rw is at split))
  where
    complete : splits.Complete v.hub v.port ≡ splits.Start hub port part → ⊥
    complete e = cc

-- ---- what is in hand

module _ (s : Script) (st : Standing) (w : World) (k : IsMixedAt st w) (sitds : SitdsStand w.driver w.memory w.control)
    (served : AreServed w.driver w.memory) (periodics : HasPeriodics w.driver) (stand : AllStand s w.driver)
    (hears : (x : EpDesc) → IsHeardOn (fixed_of s) (opening_bus s) x → IsHeardOn (fixed_of s) w.bus x)
    (right : PlacesAreRight w.driver)
    (apart : (hub port f : ℕ) → AreKeysApart (key_at w.driver) (placed_below hub port f w.driver.periodic.plan.placed))
    (periodic : w.control.part ≡ Periodic) (index : w.control.frame.index ≡ w.registers.frame_index)
    (h : HeldSitd) (held : w.control.frame.hand ≡ Some (hands.Sitd h)) (unset : h.settled ≡ None)
    (work : sitd_turn (w.registers.frame_index % 8) h.sitd ≡ Work)
    (framed : (q : IsDescriptorAt w.driver h.at) → frame_in w.control.frame.index ≡
    (note_at w.driver.periodic.notes q.transfer.first).frame) where
  c : IsCopyOf st w h
  c =
      copy_of st w k sitds served periodic h held unset
      (works h.sitd.active (sitd_missed (w.registers.frame_index % 8) h.sitd) (comes (w.registers.frame_index % 8) h.sitd) work).0

  abbrev one : IsActiveSome w.driver w.memory h.at
  one = c.one

  abbrev q : IsDescriptorAt w.driver h.at
  q = c.at

  abbrev x : EpDesc
  x = c.at.belongs.endpoint.desc

  abbrev p : Placement
  p = c.at.belongs.placement

  abbrev e : ℕ
  e = c.at.belongs.number

  abbrev fields : HaveSitdFields h.sitd c.at.belongs.endpoint.desc c.at.belongs.placement
  fields = c.fields

  -- its placement is active in this frame
  same_transfer : one.is.transfer ≡ q.transfer
  same_transfer = one_transfer st w h.at k q one.is.number one.is.transfer one.is.here one.is.descriptor one.is.held one.is.at

  active_by : (c : Bool) → q.belongs.endpoint.chained ≡ c
      → is_active q.belongs.placement (note_at w.driver.periodic.notes one.is.transfer.first).frame ≡ true
  active_by c is_c =
      let told = waits_is q.belongs.number q.transfer q.waits in
      let here : slice_get w.driver.endpoints one.is.transfer.endpoint ≡ Some q.belongs.endpoint
      = ap (slice_get w.driver.endpoints) (ap (λ (z : Transfer). z.endpoint) same_transfer ∙ told.0) ∙ q.belongs.here in
      by c is_c here (ap (λ (z : Transfer). z.reported) same_transfer ∙ told.1)
    where
      by : (c : Bool) → q.belongs.endpoint.chained ≡ c → slice_get w.driver.endpoints one.is.transfer.endpoint ≡ Some q.belongs.endpoint
          → one.is.transfer.reported ≡ false
          → is_active q.belongs.placement (note_at w.driver.periodic.notes one.is.transfer.first).frame ≡ true
      by true chained here off =
          chained_active w.driver one.is.number one.is.transfer q.belongs.endpoint q.belongs.placement k.now.in_frames one.is.here
          one.is.descriptor off here (ap is_iso q.kind) q.belongs.placed chained
          (active_is_framed st w one.endpoint one.frame h.at k one.is)
      by false out here off =
          periodics.outside one.is.number one.is.transfer q.belongs.endpoint q.belongs.placement one.is.here one.is.descriptor one.is.held
          off here q.belongs.placed out

  active : is_active q.belongs.placement (frame_in w.registers.frame_index) ≡ true
  active =
      ap (λ (n : ℕ). is_active p (frame_in n)) (sym index) ∙ ap (is_active p) (framed q)
      ∙ ap (λ (z : Transfer). is_active p (note_at w.driver.periodic.notes z.first).frame) (sym same_transfer)
      ∙ active_by q.belongs.endpoint.chained refl

  placed_right : IsPlacedRight (placed_of q.belongs)
  placed_right = one_of IsPlacedRight w.driver.periodic.plan.placed q.belongs.planned.place
      (placed_of q.belongs) right q.belongs.planned.there

  allowed : IsAllowed (placed_as q.belongs.number q.belongs.endpoint.desc q.belongs.placement)
  allowed = record { place = placed_right.place; at = placed_right.at }

  heard : IsHeardOn (fixed_of s) w.bus q.belongs.endpoint.desc
  heard =
      hears x ((stand e q.belongs.endpoint q.belongs.here).heard (low_classic x.speed fields.classic)
      (no_control x (k.turns.kinds_fit e q.belongs.endpoint q.belongs.here) q.kind))

  its_hub : h.sitd.hub ≡ heard.hub
  its_hub = fields.has.named.1.1.0 ∙ ap (λ (o : Option ℕ). unwrap_or o 0) heard.behind

  low_hub : h.sitd.hub < 128
  low_hub = subst (λ (z : HeldSitd). z.sitd.hub < 128) c.same c.copied.range.1.0.1.0

  module _ (hub port j a : ℕ) (content : HubContent) (found : position (λ v. v.address == hub) w.bus.hubs ≡ Some a)
      (here : slice_get w.bus.hubs a ≡ Some content) (address : content.address ≡ hub)
      (place : place_of content.translators.multi port ≡ Some j)
      (names_hub : h.sitd.hub ≡ hub) (names_port : h.sitd.port ≡ port) where
    same_hub : heard.hub ≡ hub
    same_hub = sym its_hub ∙ names_hub

    same_place : heard.translator.place ≡ a
    same_place =
        same_Some heard.translator.place a
        (sym heard.translator.found ∙ ap (λ (n : ℕ). position (λ (v : HubContent). v.address == n) w.bus.hubs) same_hub ∙ found)

    same_content : heard.translator.content ≡ content
    same_content =
        same_Some heard.translator.content content (sym heard.translator.here ∙ ap (slice_get w.bus.hubs) same_place ∙ here)

    its_number : q.belongs.endpoint.desc.tt ≡ port_at content.translators.multi j
    its_number =
        heard.served ∙ ap (λ (v : HubContent). number_of v.translators.multi x.port) same_content
        ∙ ap (number_of content.translators.multi) (sym fields.has.named.1.1.1 ∙ names_port)
        ∙ sym (numbered content.translators.multi port j place)

    in_range : is_number content.address (port_at content.translators.multi j) ≡ true
    in_range =
        let low = low_hub in
        let small = placed_right.want.tt in
        and_from (nat_lt content.address 128) (nat_lt (port_at content.translators.multi j) 16)
        (lt-ltb content.address 128 (omega (arith, address, names_hub, low)))
        (lt-ltb (port_at content.translators.multi j) 16 (omega (arith, its_number, small)))

    is_its_own : is_below content.address (port_at content.translators.multi j) (frame_in w.registers.frame_index)
        (placed_as q.belongs.number q.belongs.endpoint.desc q.belongs.placement) ≡ true
    is_its_own =
        and_from _ (is_active p (frame_in w.registers.frame_index))
        (and_from (is_hub x.hub content.address) (nat_eq x.tt (port_at content.translators.multi j))
        (ap (λ (o : Option ℕ). is_hub o content.address) heard.behind ∙ eq-eqb heard.hub content.address (same_hub ∙ sym address))
        (eq-eqb x.tt (port_at content.translators.multi j) its_number)) active

    owned : IsOwned w.driver w.registers.frame_index content.address (port_at content.translators.multi j)
        (key_for q.belongs.endpoint.desc)
    owned = record {
      number = e;
      endpoint = q.belongs.endpoint;
      desc = x;
      placement = p;
      here = q.belongs.here;
      described = refl;
      planned = q.belongs.planned;
      below = is_its_own;
      numbers = in_range;
      is = refl;
      still_open = (iso_now st w h.at k q ASitd c.is_met).its.still_open;
    }

  -- ---- by the way

  abbrev Fair : Ask → ℕ → Type 0
  Fair ask n =
      StartFollows (IsOwned w.driver w.registers.frame_index) (plans_now w.driver w.registers.frame_index) (w.registers.frame_index % 8)
      w.bus.hubs ask n

  in_fair : h.sitd.dir_in ≡ true → h.sitd.split_state ≡ false → Fair (in_ask h.sitd) 0
  unfolding owned
  in_fair way first hub port part a j content t split piped found here address place there =
      let names = in_names h.sitd hub port part split in
      let o = owned hub port j a content found here address place names.0 names.1 in
      let planned = owned_planned w.driver apart w.registers.frame_index content.address (port_at content.translators.multi j)
      (key_for x) o in
      let key = in_key e x p h.sitd fields.has fields.classic q.kind allowed (allowed_are_split (placed_as e x p) allowed fields.classic)
      (w.registers.frame_index % 8) (omega arith) work _ planned way first in (
        in_follows e x p h.sitd fields.has fields.classic q.kind allowed (allowed_are_split (placed_as e x p) allowed fields.classic)
            (w.registers.frame_index % 8) (omega arith) work _ planned way first t.pipeline,
        subst (IsOwned w.driver w.registers.frame_index content.address (port_at content.translators.multi j)) (sym key) o,
      )

  out_fair : h.sitd.dir_in ≡ false → ((h.sitd.c_prog == 0) ≡ false → EntryLacks w (out_ask h.sitd))
      → Fair (out_ask h.sitd) (part_bytes h.sitd)
  unfolding owned
  out_fair way lacks hub port part a j content t split piped found here address place there =
      let names = out_names h.sitd hub port part split in
      let o = owned hub port j a content found here address place names.0 names.1 in
      let planned = owned_planned w.driver apart w.registers.frame_index content.address (port_at content.translators.multi j)
      (key_for x) o in
      let key = out_key e x p h.sitd fields.has fields.classic q.kind allowed (allowed_are_split (placed_as e x p) allowed fields.classic)
      (w.registers.frame_index % 8) (omega arith) work _ planned way in (
        out_follows e x p h.sitd fields.has fields.classic q.kind allowed (allowed_are_split (placed_as e x p) allowed fields.classic)
            (w.registers.frame_index % 8) (omega arith) work _ planned way t.pipeline
            (λ some n at. lacks some hub port part a j content t n split found here place there at),
        subst (IsOwned w.driver w.registers.frame_index content.address (port_at content.translators.multi j)) (sym key) o,
      )

  pub sitd_fair : (h.sitd.dir_in ≡ false → (h.sitd.c_prog == 0) ≡ false → EntryLacks w (sitd_transaction h.sitd).ask)
      → Fair (sitd_transaction h.sitd).ask (sitd_transaction h.sitd).bytes
  sitd_fair lacks = by h.sitd.dir_in refl
    where
      waits_or_starts : h.sitd.dir_in ≡ true → Fair (sitd_transaction h.sitd).ask (sitd_transaction h.sitd).bytes
      waits_or_starts way hub port part a j content t split =
          let is : sitd_transaction h.sitd ≡ sitd_in h.sitd = ap (λ (b : Bool). if b then sitd_in h.sitd else sitd_out h.sitd) way in
          let first = not_waiting h.sitd hub port part h.sitd.split_state refl
          (ap (λ (z : IsoTransaction). z.ask.split) (sym is) ∙ split) in
          let start = in_transaction h.sitd way first in
          subst (λ (z : IsoTransaction). Fair z.ask z.bytes) (sym start) (in_fair way first) hub port part a j content t split

      by : (b : Bool) → h.sitd.dir_in ≡ b → Fair (sitd_transaction h.sitd).ask (sitd_transaction h.sitd).bytes
      by true way = waits_or_starts way
      by false way =
          let out = out_transaction h.sitd way in
          subst (λ (z : IsoTransaction). Fair z.ask z.bytes) (sym out)
          (out_fair way (λ some. subst (λ (z : IsoTransaction). EntryLacks w z.ask) out (lacks way some)))
