-- What a taker took before the first line of its script.
use Rattle.std.proofs.Common.{◌≡◌, ℕ, Bool, true, false, List, [], map, slice_get, Option, Some, None, option_map, ap, refl, sym, ◌∙◌}
use Rattle.std.specs.Prelude.{is_some}
use Rattle.std.proofs.lemmas.Option.{same_Some, slice_get-map}
use Rattle.usb_base.specs.declared.packets.EpKind.{EpKind}
use Rattle.usb_base.specs.declared.packets.EpKind.TheVariants as Kinds
use Rattle.usb_base.specs.declared.packets.Way.{Way}
use Rattle.usb_base.specs.declared.packets.Way.TheVariants as Ways
use Rattle.script_types.specs.declared.devices.EpText.{EpText}
use Rattle.script_types.specs.declared.scripts.Script.{Script}
use Rattle.endpoint_script.specs.declared.endpoint.Endpoint.{Endpoint}
use Rattle.endpoint_script.specs.declared.endpoint.Role.{Role}
use Rattle.endpoint_script.specs.declared.endpoint.Role.TheVariants.{Takes}
use Rattle.endpoint_script.specs.Device.{Device, opened_part, opened_endpoint, opening}
use Rattle.bus_wire.specs.Bus.{opening_wired}
use Rattle.law_ring.specs.OutBus.{Taker}
use Rattle.law_devices.specs.scripted_takers.Takers.{taker_of}
use Rattle.law_devices.proofs.lemmas.scripted_takers.Asking.{HasTaker, taker_found}
use Rattle.law_world.specs.steps.Outs.{IsUntaken}
use Rattle.law_world.specs.steps.Takers.{OpeningIsUntaken}

-- ---- lists

record WasMapped {X Y : Type 0} (f : X → Y) (xs : List X) (k : ℕ) (y : Y) : Type 0 where
  old : X
  here : slice_get xs k ≡ Some old
  same : f old ≡ y

was_mapped : {X Y : Type 0} (f : X → Y) (xs : List X) (k : ℕ) (y : Y) → slice_get (map f xs) k ≡ Some y → WasMapped f xs k y
was_mapped f xs k y is = by_old (slice_get xs k) refl (sym (slice_get-map f xs k) ∙ is)
  where
    by_old : (o : Option _) → slice_get xs k ≡ o → option_map f o ≡ Some y → WasMapped f xs k y
    by_old None here none = absurd cc
    by_old (Some x) here some = record { old = x; here = here; same = same_Some (f x) y some }

-- ---- the part of an OUT endpoint

abbrev took_in : Role → List ℕ
took_in (Takes z) = z.taken
took_in _ = []

abbrev turned_in : Role → Bool
turned_in (Takes z) = z.toggle
turned_in _ = false

took_none : (way : Way) (kind : EpKind) (t : EpText) → took_in (opened_part way kind t) ≡ []
took_none Ways.Ctl kind t = refl
took_none Ways.In Kinds.Iso t = refl
took_none Ways.In Kinds.Bulk t = refl
took_none Ways.In Kinds.Interrupt t = refl
took_none Ways.In Kinds.Control t = refl
took_none Ways.Out Kinds.Iso t = refl
took_none Ways.Out Kinds.Bulk t = refl
took_none Ways.Out Kinds.Interrupt t = refl
took_none Ways.Out Kinds.Control t = refl

turned_none : (way : Way) (kind : EpKind) (t : EpText) → turned_in (opened_part way kind t) ≡ false
turned_none Ways.Ctl kind t = refl
turned_none Ways.In Kinds.Iso t = refl
turned_none Ways.In Kinds.Bulk t = refl
turned_none Ways.In Kinds.Interrupt t = refl
turned_none Ways.In Kinds.Control t = refl
turned_none Ways.Out Kinds.Iso t = refl
turned_none Ways.Out Kinds.Bulk t = refl
turned_none Ways.Out Kinds.Interrupt t = refl
turned_none Ways.Out Kinds.Control t = refl

-- ---- the whole

opening_taker : (s : Script) (addr ep : ℕ) (x : Taker) → taker_of (opening_wired s) addr ep ≡ Some x → (x.taken ≡ []) × (x.expects ≡ false)
opening_taker s addr ep x is =
    let h : HasTaker (opening_wired s) addr ep x = taker_found (opening_wired s) addr ep x is in
    let d : WasMapped opening s.devices h.device_place h.at.device = was_mapped opening s.devices h.device_place h.at.device h.at.is in
    let es_are : h.at.device.endpoints ≡ map opened_endpoint d.old.eps = ap (λ (z : Device). z.endpoints) (sym d.same) in
    let k = h.at.at.place in
    let t : WasMapped opened_endpoint d.old.eps k h.at.at.endpoint = was_mapped opened_endpoint d.old.eps k h.at.at.endpoint (ap (λ (es : List Endpoint). slice_get es k) (sym es_are) ∙ h.at.at.here) in
    let role : opened_part t.old.desc.name.way t.old.desc.kind t.old ≡ Takes h.at.at.part.taking = ap (λ (z : Endpoint). z.part) t.same ∙ h.at.at.part.is in (
      ap (λ (z : Taker). z.taken) h.at.at.part.taker ∙ sym (ap took_in role) ∙ took_none t.old.desc.name.way t.old.desc.kind t.old,
      ap (λ (z : Taker). z.expects) h.at.at.part.taker ∙ sym (ap turned_in role) ∙ turned_none t.old.desc.name.way t.old.desc.kind t.old,
    )

pub opening_is_untaken : OpeningIsUntaken
opening_is_untaken s outs ends addr ep on unopened = by_taker (taker_of (opening_wired s) addr ep) refl on
  where
    by_taker : (o : Option Taker) → taker_of (opening_wired s) addr ep ≡ o → is_some o ≡ true → IsUntaken (taker_of (opening_wired s) addr ep)
    by_taker None is some = absurd cc
    by_taker (Some x) is some = let both = opening_taker s addr ep x is in record { taker = x; is = is; none = both.0; first = both.1 }
