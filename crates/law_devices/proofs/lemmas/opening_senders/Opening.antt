-- What a sender has at the opening.
use Rattle.std.proofs.Common.{◌≡◌, ◌≢◌, ℕ, zero, suc, ◌==◌, ◌&&◌, Bool, true, false, List, [], ◌∷◌, map, find, position, slice_get, Option, Some, None, option_map, ap, refl, sym, subst, ◌∙◌, arith}
use Rattle.std.specs.List.{AllByRecursion, flat_map}
use Rattle.std.proofs.lemmas.Bool.{eq-eqb, false≢true}
use Rattle.std.proofs.lemmas.Option.{same_Some, slice_get-map, get_or_from_slice_get}
use Rattle.std.proofs.lemmas.List.Quantifiers.{position-Some}
use Rattle.law_common.proofs.Booleans.{and_both}
use Rattle.law_common.proofs.Numbers.{other_number}
use Rattle.usb_base.specs.declared.endpoints.EpName.{EpName}
use Rattle.usb_base.specs.declared.packets.EpKind.{EpKind}
use Rattle.usb_base.specs.declared.packets.EpKind.TheVariants as Kinds
use Rattle.usb_base.specs.declared.packets.Way.{Way}
use Rattle.usb_base.specs.declared.packets.Way.TheVariants as Ways
use Rattle.script_types.specs.declared.devices.EpText.{EpText}
use Rattle.script_types.specs.declared.devices.DeviceText.{DeviceText}
use Rattle.script_types.specs.declared.devices.Item.{Item}
use Rattle.script_types.specs.declared.scripts.Script.{Script}
use Rattle.endpoint_script.specs.declared.endpoint.Endpoint.{Endpoint}
use Rattle.endpoint_script.specs.declared.endpoint.Role.{Role}
use Rattle.endpoint_script.specs.declared.endpoint.Role.TheVariants.{Sends, Streams}
use Rattle.endpoint_script.specs.Items.{packets_of}
use Rattle.endpoint_script.specs.Device.{Device, is_way, is_named, place_named, opened_part, opened_endpoint, opening}
use Rattle.bus_wire.specs.Fates.{is_same_way, is_same_name}
use Rattle.bus_wire.specs.Bus.{opening_wired}
use Rattle.claims_report.specs.Streams.{items_in, items_of}
use Rattle.law_ring.specs.Bus.{Sender}
use Rattle.law_devices.specs.Senders.{sender_of}
use Rattle.law_devices.proofs.Asking.{HasSender, sender_found}
use Rattle.law_devices.specs.opening_senders.Own.{HasOwnDevices}
use Rattle.law_devices.proofs.lemmas.opening_senders.Finding.{first_found, none_found, device_first}

-- ---- lists

record WasMapped {X Y : Type 0} (f : X → Y) (xs : List X) (k : ℕ) (y : Y) : Type 0 where
  old : X
  here : slice_get xs k ≡ Some old
  same : f old ≡ y

was_mapped : {X Y : Type 0} (f : X → Y) (xs : List X) (k : ℕ) (y : Y) → slice_get (map f xs) k ≡ Some y → WasMapped f xs k y
was_mapped f xs k y is = by_old (slice_get xs k) refl (sym (slice_get-map f xs k) ∙ is)
  where
    by_old : (o : Option _) → slice_get xs k ≡ o → option_map f o ≡ Some y → WasMapped f xs k y
    by_old None here none = absurd cc
    by_old (Some x) here some = record { old = x; here = here; same = same_Some (f x) y some }

own_at : (P : EpText → Type 0) (xs : List EpText) (i : ℕ) (t : EpText) → AllByRecursion P xs → slice_get xs i ≡ Some t → P t
own_at P [] zero t k here = absurd cc
own_at P [] (suc i) t k here = absurd cc
own_at P (x ∷ xs) zero t k here = subst P (same_Some x t here) k.0
own_at P (x ∷ xs) (suc i) t k here = own_at P xs i t k.1 here

-- ---- names

ways_same : (way : Way) → is_same_way way Ways.In ≡ is_way way Ways.In
ways_same Ways.In = refl
ways_same _ = refl

in_is : (way : Way) → is_way way Ways.In ≡ true → way ≡ Ways.In
in_is Ways.In is = refl
in_is _ is = absurd (false≢true is)

abbrev in_name : ℕ → ℕ → EpName
in_name addr ep = record { addr = addr; num = ep; way = Ways.In }

-- of a device with this address a text has the name where its endpoint has the number
own_name : (addr ep : ℕ) (t : EpText) → t.desc.name.addr ≡ addr → is_same_name t.desc.name (in_name addr ep) ≡ is_named ep Ways.In (opened_endpoint t)
own_name addr ep t own =
    ap (λ (b : Bool). b && (t.desc.name.num == ep && is_same_way t.desc.name.way Ways.In)) (eq-eqb t.desc.name.addr addr own) ∙ ap (λ (b : Bool). t.desc.name.num == ep && b) (ways_same t.desc.name.way)

other_name : (addr ep : ℕ) (t : EpText) → t.desc.name.addr ≢ addr → is_same_name t.desc.name (in_name addr ep) ≡ false
other_name addr ep t differs = ap (λ (b : Bool). b && (t.desc.name.num == ep && is_same_way t.desc.name.way Ways.In)) (other_number t.desc.name.addr addr differs)

-- ---- the part of an IN endpoint

items_sent : Role → List Item
items_sent (Sends z) = z.items
items_sent _ = []

sent_items : (way : Way) (kind : EpKind) (t : EpText) (r : Role) → way ≡ Ways.In → opened_part way kind t ≡ r → (z : _) → r ≡ Sends z → z.items ≡ t.items
unfolding items_sent
sent_items Ways.In Kinds.Bulk t r in_way is z sends = ap items_sent (sym sends ∙ sym is)
sent_items Ways.In Kinds.Interrupt t r in_way is z sends = ap items_sent (sym sends ∙ sym is)
sent_items Ways.In Kinds.Control t r in_way is z sends = ap items_sent (sym sends ∙ sym is)
sent_items Ways.In Kinds.Iso t r in_way is z sends = absurd (not_sent _ z (is ∙ sends))
  where
    not_sent : (a : _) (b : _) → Streams a ≡ Sends b → ⊥
    not_sent a b e = cc
sent_items Ways.Out kind t r in_way is z sends = absurd cc
sent_items Ways.Ctl kind t r in_way is z sends = absurd cc

-- ---- the whole

pub opening_sends : (s : Script) (addr ep : ℕ) (x : Sender) → HasOwnDevices s → sender_of (opening_wired s) addr ep ≡ Some x → x.left ≡ packets_of (items_of s (record { addr = addr; num = ep; way = Ways.In }))
opening_sends s addr ep x own is =
    let h : HasSender (opening_wired s) addr ep x = sender_found (opening_wired s) addr ep x is in
    let d : WasMapped opening s.devices h.device_place h.at.device = was_mapped opening s.devices h.device_place h.at.device h.at.is in
    let addr_is : addr ≡ d.old.addr = h.at.address ∙ ap (λ (z : Device). z.address) (sym d.same) in
    let es_are : h.at.device.endpoints ≡ map opened_endpoint d.old.eps = ap (λ (z : Device). z.endpoints) (sym d.same) in
    let k = h.at.at.place in
    let named : place_named (map opened_endpoint d.old.eps) ep Ways.In ≡ Some k = ap (λ (es : List Endpoint). place_named es ep Ways.In) (sym es_are) ∙ h.at.at.is in
    let t : WasMapped opened_endpoint d.old.eps k h.at.at.endpoint = was_mapped opened_endpoint d.old.eps k h.at.at.endpoint (ap (λ (es : List Endpoint). slice_get es k) (sym es_are) ∙ h.at.at.here) in
    let first = position-Some (is_named ep Ways.In) (map opened_endpoint d.old.eps) k h.at.at.endpoint named in
    let at_k : slice_get (map opened_endpoint d.old.eps) k ≡ Some h.at.at.endpoint = ap (λ (es : List Endpoint). slice_get es k) (sym es_are) ∙ h.at.at.here in
    let passes : is_named ep Ways.In (opened_endpoint t.old) ≡ true =
    ap (is_named ep Ways.In) (t.same ∙ sym (get_or_from_slice_get (map opened_endpoint d.old.eps) k h.at.at.endpoint h.at.at.endpoint at_k)) ∙ first.1 in
    let mine : (i : ℕ) (u : EpText) → slice_get d.old.eps i ≡ Some u → u.desc.name.addr ≡ addr = λ i u there. own_at (λ z. z.desc.name.addr ≡ d.old.addr) d.old.eps i u (own.own h.device_place d.old d.here) there ∙ sym addr_is in
    let way_in : t.old.desc.name.way ≡ Ways.In = in_is t.old.desc.name.way (and_both (t.old.desc.name.num == ep) (is_way t.old.desc.name.way Ways.In) passes).1 in
    let found : find (λ text. is_same_name text.desc.name (in_name addr ep)) d.old.eps ≡ Some t.old =
    first_found (λ text. is_same_name text.desc.name (in_name addr ep)) d.old.eps k t.old t.here (own_name addr ep t.old (mine k t.old t.here) ∙ passes)
    (λ i u less there.
    own_name addr ep u (mine i u there)
    ∙ ap (is_named ep Ways.In) (sym (get_or_from_slice_get (map opened_endpoint d.old.eps) i (opened_endpoint u) h.at.at.endpoint (slice_get-map opened_endpoint d.old.eps i ∙ ap (option_map opened_endpoint) there))) ∙ first.2 i less) in
    let all : find (λ text. is_same_name text.desc.name (in_name addr ep)) (flat_map (λ device. device.eps) s.devices) ≡ Some t.old =
    device_first (λ text. is_same_name text.desc.name (in_name addr ep)) s.devices h.device_place d.old t.old d.here found
    (λ i e less there.
    none_found (λ text. is_same_name text.desc.name (in_name addr ep)) e.eps
    (λ j u at.
    other_name addr ep u (λ same.
    let alike : i ≡ h.device_place = own.apart i h.device_place e d.old there d.here (sym (own_at (λ z. z.desc.name.addr ≡ e.addr) e.eps j u (own.own i e there) at) ∙ same ∙ addr_is) in
    omega (arith, less, alike)))) in
    ap (λ (z : Sender). z.left) h.at.at.part.sender
    ∙ ap packets_of (sent_items t.old.desc.name.way t.old.desc.kind t.old h.at.at.endpoint.part way_in (ap (λ (z : Endpoint). z.part) t.same) h.at.at.part.sending h.at.at.part.is) ∙ sym (ap (λ (o : Option EpText). packets_of (items_in o)) all)

-- ---- one device

pub one_own : (s : Script) (d : DeviceText) → s.devices ≡ d ∷ [] → AllByRecursion (λ text. text.desc.name.addr ≡ d.addr) d.eps → HasOwnDevices s
one_own s d only own = record {
  own = λ place e here. subst (λ (z : DeviceText). AllByRecursion (λ text. text.desc.name.addr ≡ z.addr) z.eps) (at place e (ap (λ (ds : List DeviceText). slice_get ds place) (sym only) ∙ here)).1 own;
  apart = λ i j e f here there same. (at i e (ap (λ (ds : List DeviceText). slice_get ds i) (sym only) ∙ here)).0 ∙ sym (at j f (ap (λ (ds : List DeviceText). slice_get ds j) (sym only) ∙ there)).0;
}
  where
    at : (i : ℕ) (e : DeviceText) → slice_get (d ∷ []) i ≡ Some e → (i ≡ 0) × (d ≡ e)
    at zero e here = (refl, same_Some d e here)
    at (suc i) e here = absurd (none i here)
      where
        none : (k : ℕ) → slice_get [] k ≡ Some e → ⊥
        none zero is = cc
        none (suc k) is = cc
