-- The device of an interrupt endpoint at high speed has no NYET to answer: it is the endpoint of its line.
use Rattle.std.proofs.Common.{◌≡◌, ℕ, zero, suc, ◌+◌, ◌==◌, cond, Bool, false, ◌&&◌, nat_lt, List, [], ◌∷◌, map, length, find, slice_get, Option}
use Rattle.std.proofs.Common.{Some, None, ap, refl, sym, subst, ◌∙◌, inl, inr}
use Rattle.std.specs.List.{AllByRecursion, list_any, position, position_or_len}
use Rattle.std.specs.Option.{option_map}
use Rattle.std.proofs.lemmas.Bool.{cases_Bool, cond-true, cond-false, eq-eqb}
use Rattle.std.proofs.lemmas.List.{length-map}
use Rattle.std.proofs.lemmas.Option.{same_Some, slice_get-map}
use Rattle.law_common.proofs.Lists.{nth_all}
use Rattle.usb_base.specs.declared.endpoints.EpDesc.{EpDesc}
use Rattle.usb_base.specs.declared.packets.EpKind.TheVariants as kinds
use Rattle.usb_base.specs.declared.packets.Speed.TheVariants.{High}
use Rattle.usb_base.specs.declared.packets.Way.{Way}
use Rattle.usb_base.specs.declared.packets.Way.TheVariants as ways
use Rattle.script_types.specs.declared.devices.DeviceText.{DeviceText}
use Rattle.script_types.specs.declared.devices.EpText.{EpText}
use Rattle.script_types.specs.declared.scripts.Script.{Script}
use Rattle.script_forms.specs.declared.statements.Name.{Name}
use Rattle.script_text.specs.Faults.{Spells}
use Rattle.script_world.specs.Draft.{Draft, Placed, device_of, device_text, is_named, same_way, script_of}
use Rattle.endpoint_script.specs.declared.endpoint.Endpoint.{Endpoint}
use Rattle.endpoint_script.specs.Device.{is_way, place_named}
use Rattle.bus_wire.specs.Bus.{Bus, fixed_of}
use Rattle.claims_world.specs.Quiet.{is_nyet}
use Rattle.law_ring.specs.OutBus.{Taker}
use Rattle.law_devices.proofs.Common.{out_way}
use Rattle.law_devices.proofs.Drafts.{AreApart, IsApart, addresses, IsDeclaredDraft, IsKnownDesc}
use Rattle.law_devices.proofs.Lists.{find_map, find_same, found_first}
use Rattle.law_devices.proofs.Senders.{IsDeclaredAt, empty_declared, second_declared, line_declares}
use Rattle.law_devices.proofs.Texts.{IsScriptOf, spelled_kept}
use Rattle.law_devices.proofs.lemmas.scripted_takers.Asking.{HasTaker}
use Rattle.law_opened.specs.Opened.{IsOpened}
use Rattle.law_opened.proofs.Opened.{declared_by, known, its_name}
use Rattle.law_reports.specs.quiet.Heard.{PartHasHandshakes, HasHandshakes, IsOfText, IsHeardBus}

-- ---- lists

first_of_map : {X Y : Type 0} (p : Y → Bool) (f : X → Y) (xs : List X) → position_or_len p (map f xs) ≡ position_or_len (λ x. p (f x)) xs
first_of_map p f [] = refl
first_of_map p f (x ∷ xs) =
    elim (cases_Bool (p (f x))) [
      | inl on ↦ rw on refl
      | inr off ↦ rw off (ap (λ (n : ℕ). 1 + n) (first_of_map p f xs))
    ]

position_of_map : {X Y : Type 0} (p : Y → Bool) (f : X → Y) (xs : List X) → position p (map f xs) ≡ position (λ x. p (f x)) xs
position_of_map p f xs =
    ap (λ (n : ℕ). cond (nat_lt n (length (map f xs))) (Some n) None) (first_of_map p f xs)
    ∙ ap (λ (n : ℕ). cond (nat_lt (position_or_len (λ x. p (f x)) xs) n) (Some (position_or_len (λ x. p (f x)) xs)) None) (length-map xs f)

off_later : (a : ℕ) (ds : List Placed) (i : ℕ) (d : Placed) → IsApart a (addresses ds) → slice_get ds i ≡ Some d → (a == d.addr) ≡ false
off_later a [] i d apart here = absurd (cc)
off_later a (x ∷ ds) zero d apart here = subst (λ (p : Placed). (a == p.addr) ≡ false) (same_Some x d here) apart.0
off_later a (x ∷ ds) (suc i) d apart here = off_later a ds i d apart.1 here

-- one device has the address
one_device : (a : ℕ) (ds : List Placed) (i : ℕ) (d e : Placed) → AreApart (addresses ds) → slice_get ds i ≡ Some d → d.addr ≡ a
    → device_of ds a ≡ Some e → d ≡ e
one_device a [] i d e apart here is found = absurd (cc)
one_device a (x ∷ ds) zero d e apart here is found =
    let same : x ≡ d = same_Some x d here in
    sym same ∙ same_Some x e (sym (cond-true _ _ _ (eq-eqb x.addr a (ap (λ (p : Placed). p.addr) same ∙ is))) ∙ found)
one_device a (x ∷ ds) (suc i) d e apart here is found =
    one_device a ds i d e apart.1 here is
    (sym (cond-false _ _ _ (ap (λ (n : ℕ). x.addr == n) (sym is) ∙ off_later x.addr ds i d apart.0 here)) ∙ found)

-- ---- the endpoint of a device that was declared

abbrev is_so : ℕ → EpDesc → Bool
is_so num y = y.name.num == num && is_way y.name.way ways.Out

module _ (w : Draft) (h : IsDeclaredDraft w) (name : Name) (x : EpDesc) (k : IsDeclaredAt w.devices name x)
    (way : x.name.way ≡ ways.Out) where
  same_test : (t : EpText) → is_so x.name.num t.desc ≡ is_named name t
  same_test t =
      let n = its_name w h name x k in
      ap (λ (v : Bool). t.desc.name.num == x.name.num && v) (out_way t.desc.name.way)
      ∙ ap (λ (v : Way). t.desc.name.num == x.name.num && same_way t.desc.name.way v) (sym way)
      ∙ ap (λ (m : Name). is_named m t) (sym n)

  tests : (ts : List EpText) → AllByRecursion (λ t. is_so x.name.num t.desc ≡ is_named name t) ts
  tests [] = tt
  tests (t ∷ ts) = (same_test t, tests ts)

  found : find (is_so x.name.num) (map (λ (t : EpText). t.desc) k.device.eps) ≡ Some x
  found =
      find_map (is_so x.name.num) (λ (t : EpText). t.desc) k.device.eps
      ∙ ap (option_map (λ (t : EpText). t.desc)) (find_same (λ (t : EpText). is_so x.name.num t.desc) (is_named name) k.device.eps
      (tests k.device.eps) ∙ k.text_is)
      ∙ ap Some k.desc

  module _ (n : ℕ) (t : DeviceText) (there : slice_get (map device_text w.devices) n ≡ Some t) (addr : t.addr ≡ x.name.addr) where
    its_text : map (λ (e : EpText). e.desc) t.eps ≡ map (λ (e : EpText). e.desc) k.device.eps
    its_text = by (slice_get w.devices n) refl
      where
        by : (o : Option Placed) → slice_get w.devices n ≡ o
            → map (λ (e : EpText). e.desc) t.eps ≡ map (λ (e : EpText). e.desc) k.device.eps
        by None at = absurd (none (sym (slice_get-map device_text w.devices n ∙ ap (option_map device_text) at) ∙ there))
          where
            none : ◌≡◌ {A = Option DeviceText} None (Some t) → ⊥
            none e = cc
        by (Some d) at =
            let is : device_text d ≡ t = same_Some (device_text d) t (sym (slice_get-map device_text w.devices n
            ∙ ap (option_map device_text) at) ∙ there) in
            let own : d ≡ k.device = one_device name.addr w.devices n d k.device h.apart at
            (ap (λ (u : DeviceText). u.addr) is ∙ addr ∙ ap (λ (m : Name). m.addr) (sym (its_name w h name x k))) k.device_is in
            ap (λ (u : DeviceText). map (λ (e : EpText). e.desc) u.eps) (sym is)
            ∙ ap (λ (p : Placed). map (λ (e : EpText). e.desc) p.eps) own

    -- the endpoint of this number and way
    pub its_desc : (es : List Endpoint) (j : ℕ) (e : Endpoint) → map (λ (y : Endpoint). y.desc) es ≡ map (λ (y : EpText). y.desc) t.eps
        → position (λ (y : Endpoint). is_so x.name.num y.desc) es ≡ Some j → slice_get es j ≡ Some e → e.desc ≡ x
    its_desc es j e descs at here =
        let z = found_first (is_so x.name.num) (map (λ (y : EpText). y.desc) k.device.eps) x found in
        let all : map (λ (y : Endpoint). y.desc) es ≡ map (λ (y : EpText). y.desc) k.device.eps = descs ∙ its_text in
        let same : j ≡ z.place = same_Some j z.place (sym at ∙ sym (position_of_map (is_so x.name.num) (λ (y : Endpoint). y.desc) es)
        ∙ ap (position (is_so x.name.num)) all ∙ z.at) in
        same_Some e.desc x
        (ap (option_map (λ (y : Endpoint). y.desc)) (sym here) ∙ sym (slice_get-map (λ (y : Endpoint). y.desc) es j)
        ∙ ap (λ (ds : List EpDesc). slice_get ds j) all ∙ ap (slice_get (map (λ (y : EpText). y.desc) k.device.eps)) same ∙ z.here)

-- ---- of a script

module _ (script : List ℕ) (s : Script) (spelled : Spells script s) (b : Bus) (kept : IsHeardBus s b) (x : EpDesc) (o : IsOpened s x)
    (kind : x.kind ≡ kinds.Interrupt) (high : x.speed ≡ High) (way : x.name.way ≡ ways.Out) where
  drafted : IsScriptOf IsDeclaredDraft s
  drafted = spelled_kept IsDeclaredDraft empty_declared second_declared line_declares script s spelled

  desc_by : (w : Draft) → IsDeclaredDraft w → IsOpened (script_of w) x → (n : ℕ) (t : DeviceText)
      → slice_get (script_of w).devices n ≡ Some t → t.addr ≡ x.name.addr → (es : List Endpoint) (j : ℕ) (e : Endpoint)
      → map (λ (y : Endpoint). y.desc) es ≡ map (λ (y : EpText). y.desc) t.eps
      → position (λ (y : Endpoint). is_so x.name.num y.desc) es ≡ Some j → slice_get es j ≡ Some e → e.desc ≡ x
  desc_by w h opened n t there addr es j e descs at here = by (known w h x opened)
    where
      other : ways.Out ≡ ways.Ctl → ⊥
      other is = cc

      by : IsKnownDesc w.devices x → e.desc ≡ x
      by (inl control) = absurd (other (sym way ∙ control))
      by (inr named) =
          its_desc w h named.name x (declared_by w.devices named.name x (device_of w.devices named.name.addr) refl named.here) way n t there
          addr es j e descs at here

  pub none_waits : (addr num : ℕ) → addr ≡ x.name.addr → num ≡ x.name.num → (u : Taker)
      (f : HasTaker (record { fixed = fixed_of s; bus = b }) addr num u) → list_any is_nyet f.at.at.part.taking.items ≡ false
  none_waits addr num same_addr same_num u f =
      let t : IsOfText s f.at.device = nth_all (IsOfText s) b.devices f.device_place f.at.device kept.devices f.at.is in
      let e : Endpoint = f.at.at.endpoint in
      let desc : e.desc ≡ x =
      subst (λ (z : Script). IsOpened z x → slice_get z.devices t.place ≡ Some t.text → e.desc ≡ x) drafted.is
      (λ opened there. desc_by drafted.draft drafted.holds opened t.place t.text there
      (sym t.address ∙ sym f.at.address ∙ same_addr) f.at.device.endpoints f.at.at.place e t.descs
      (ap (λ (n : ℕ). place_named f.at.device.endpoints n ways.Out) (sym same_num) ∙ f.at.at.is) f.at.at.here) o t.there in
      subst PartHasHandshakes f.at.at.part.is
      (nth_all HasHandshakes f.at.device.endpoints f.at.at.place e t.handshakes f.at.at.here (ap (λ (y : EpDesc). y.kind) desc ∙ kind)
      (ap (λ (y : EpDesc). y.speed) desc ∙ high))
