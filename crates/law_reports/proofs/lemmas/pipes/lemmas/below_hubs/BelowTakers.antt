-- The taker of an OUT endpoint that a script opens, wherever its device is: nothing was taken yet.
use Rattle.std.proofs.Common.{◌≡◌, ℕ, zero, suc, ◌+◌, false, List, [], ◌∷◌, map, Option, Some, None, refl, sym, ap, subst, ◌∙◌, arith}
use Rattle.std.specs.Prelude.{◌==◌, Bool, slice_get}
use Rattle.std.specs.Option.{option_and_then}
use Rattle.std.specs.List.{AllByRecursion}
use Rattle.std.proofs.lemmas.Bool.{and_parts, eqb-true, eq-eqb, true≢false}
use Rattle.law_common.proofs.Lists.{all_both, all_map, nth_all}
use Rattle.usb_base.specs.declared.endpoints.EpDesc.{EpDesc}
use Rattle.usb_base.specs.declared.endpoints.EpName.{EpName}
use Rattle.usb_base.specs.declared.packets.Way.TheVariants as way
use Rattle.script_types.specs.declared.devices.HubText.{HubText}
use Rattle.script_forms.specs.declared.statements.Name.{Name}
use Rattle.script_world.specs.Draft.{Draft, Placed, device_text, script_of}
use Rattle.endpoint_script.specs.Device.{Device, place_named, opened_part, opened_endpoint}
use Rattle.bus_wire.specs.declared.seats.Seat.{Seat}
use Rattle.bus_wire.specs.declared.seats.TokenKind.TheVariants.{Out}
use Rattle.bus_wire.specs.Seats.{suits, owner_at, seat_at, seats_from, hub_seats_from, seat_named, seats_of}
use Rattle.bus_wire.specs.Bus.{opening_bus, opening_wired}
use Rattle.bus_wire.specs.Fates.{is_same_name}
use Rattle.law_devices.specs.declared_controls.Zero.{AreZeroesAlone, IsZeroAlone}
use Rattle.law_devices.specs.scripted_takers.Takers.{taker_of_part, taker_of_device}
use Rattle.law_devices.proofs.Drafts.{IsApart, AreApart, addresses, IsEpOf, HasOwn, IsDeclaredDraft}
use Rattle.law_devices.proofs.Lists.{all_find, all_filter_map, any_found, found_passes, found_first, HasFound, IsFirst}
use Rattle.law_devices.proofs.Senders.{IsDeclaredAt}
use Rattle.law_opened.proofs.RootTakers.{text, first, taker_there, device_there, endpoint_is, any_test, no_hubs, opened}
use Rattle.law_below_hubs.specs.Seated.{device_place, end_seated, end_placed, taker_at}

-- a seat with this address is that of the device at place n
abbrev pub IsPlaced : ℕ → ℕ → Seat → Type 0
IsPlaced a n s = s.name.addr ≡ a → device_place s.owner ≡ Some n

placed_owner : (n : ℕ) (hub : Option ℕ) (port stuff : ℕ) → device_place (owner_at n hub port stuff) ≡ Some n
placed_owner n None port stuff = refl
placed_owner n (Some hub) port stuff = refl

elsewhere : (names : List EpName) (a n k : ℕ) (ds : List Placed) → IsApart a (addresses ds) → AllByRecursion (HasOwn names) ds
    → AllByRecursion (IsPlaced a n) (seats_from k (map device_text ds))
elsewhere names a n k [] h own = tt
elsewhere names a n k (d ∷ ds) h own =
    all_both (IsPlaced a n) (map (seat_at k) d.eps) (seats_from (k + 1) (map device_text ds))
    (all_map (IsEpOf names d.addr d.hub) (IsPlaced a n) (seat_at k) d.eps
    (λ e z same. absurd (true≢false (sym (eq-eqb a d.addr (sym same ∙ z.address)) ∙ h.0))) own.0)
    (elsewhere names a n (k + 1) ds h.1 own.1)

earlier : (names : List EpName) (a n k : ℕ) (d : Placed) → (d.addr == a) ≡ false → HasOwn names d
    → AllByRecursion (IsPlaced a n) (map (seat_at k) d.eps)
earlier names a n k d other own =
    all_map (IsEpOf names d.addr d.hub) (IsPlaced a n) (seat_at k) d.eps
    (λ e z same. absurd (true≢false (sym (eq-eqb d.addr a (sym z.address ∙ same)) ∙ other))) own

own_seats : (names : List EpName) (a n k : ℕ) (d : Placed) → n ≡ k → HasOwn names d
    → AllByRecursion (IsPlaced a n) (map (seat_at k) d.eps)
own_seats names a n k d there own =
    all_map (IsEpOf names d.addr d.hub) (IsPlaced a n) (seat_at k) d.eps
    (λ e z same. placed_owner k e.desc.hub e.desc.port e.stuff ∙ ap (λ (i : ℕ). Some i) (sym there)) own

address_at : (a x : ℕ) (d : Placed) (es : List Placed) (i : ℕ) → d.addr ≡ a → IsApart x (addresses es) → slice_get es i ≡ Some d
    → (x == a) ≡ false
address_at a x d [] i is h e = cc
address_at a x d (y ∷ es) zero is h e =
    let same : y ≡ d = cc in subst (λ b. (x == b) ≡ false) (ap (λ (p : Placed). p.addr) same ∙ is) h.0
address_at a x d (y ∷ es) (suc i) is h e = address_at a x d es i is h.1 e

pub placed_seats : (names : List EpName) (a n k m : ℕ) (ds : List Placed) (d : Placed) → slice_get ds m ≡ Some d → d.addr ≡ a → n ≡ k + m
    → AreApart (addresses ds) → AllByRecursion (HasOwn names) ds → AllByRecursion (IsPlaced a n) (seats_from k (map device_text ds))
placed_seats names a n k m [] d here is there apart own = tt
placed_seats names a n k zero (x ∷ ds) d here is there apart own =
    let same : x ≡ d = cc in
    all_both (IsPlaced a n) (map (seat_at k) x.eps) (seats_from (k + 1) (map device_text ds))
    (own_seats names a n k x (omega (arith, there)) own.0)
    (elsewhere names a n (k + 1) ds (subst (λ b. IsApart b (addresses ds)) (ap (λ (p : Placed). p.addr) same ∙ is) apart.0) own.1)
placed_seats names a n k (suc m) (x ∷ ds) d here is there apart own =
    all_both (IsPlaced a n) (map (seat_at k) x.eps) (seats_from (k + 1) (map device_text ds))
    (earlier names a n k x (address_at a x.addr d ds m is apart.0 here) own.0)
    (placed_seats names a n (k + 1) m ds d here is (omega (arith, there)) apart.1 own.1)

pub hub_placed : (a n k : ℕ) (hs : List HubText) → AllByRecursion (λ h. (h.addr == a) ≡ false) hs
    → AllByRecursion (IsPlaced a n) (hub_seats_from k hs)
hub_placed a n k [] h = tt
hub_placed a n k (x ∷ hs) h = ((λ same. absurd (true≢false (sym (eq-eqb x.addr a same) ∙ h.0))), hub_placed a n (k + 1) hs h.1)

-- ---- an endpoint of a draft

module _ (w : Draft) (h : IsDeclaredDraft w) (name : Name) (x : EpDesc) (k : IsDeclaredAt w.devices name x)
    (isout : k.text.desc.name.way ≡ way.Out) where
  abbrev y : EpDesc
  y = k.text.desc

  abbrev seats : List Seat
  seats = seats_of (script_of w)

  abbrev place : ℕ
  place = (first w h name x k isout).place

  seats_placed : AllByRecursion (IsPlaced k.device.addr place) seats
  seats_placed =
      all_both (IsPlaced k.device.addr place) (hub_seats_from 0 w.hubs) _
      (hub_placed k.device.addr place 0 w.hubs (no_hubs w h name x k isout))
      (all_filter_map (IsPlaced k.device.addr place) (seat_named (seats_from 0 (map device_text w.devices))) w.endpoints
      (λ n. all_find (IsPlaced k.device.addr place) (λ s. is_same_name s.name n) (seats_from 0 (map device_text w.devices))
      (placed_seats w.endpoints k.device.addr place 0 place w.devices k.device (first w h name x k isout).here refl (omega arith) h.apart
      h.own)))

  abbrev test : Seat → Bool
  test s = suits s.name y.name.addr y.name.num Out

  pub taker_is : taker_at (opening_wired (script_of w)) y.name.addr y.name.num ≡ taker_of_part (opened_part y.name.way y.kind k.text)
  taker_is =
      let found : HasFound test seats = any_found test seats (any_test w h name x k isout) in
      let z : IsFirst test seats found.first = found_first test seats found.first found.is in
      let t = found_passes test seats found.first found.is in
      let named = eqb-true found.first.name.addr y.name.addr (and_parts (found.first.name.addr == y.name.addr) _ t).0 in
      let owner = nth_all (IsPlaced k.device.addr place) seats z.place found.first seats_placed z.here
      (named ∙ (text w h name x k isout).address) in
      ap (end_placed taker_of_device (opening_wired (script_of w)).fixed (opening_bus (script_of w)).devices y.name.addr y.name.num) z.at
      ∙ ap (end_seated taker_of_device (opening_bus (script_of w)).devices y.name.addr y.name.num) z.here
      ∙ ap (λ (p : Option ℕ). taker_of_device y.name.addr y.name.num
      (option_and_then (λ i. slice_get (opening_bus (script_of w)).devices i) p)) owner
      ∙ ap (taker_of_device y.name.addr y.name.num) (device_there w h name x k isout) ∙ taker_there w h name x k isout

  -- number 0 is that of a control endpoint alone (5.3.1.2)
  pub no_zero : AreZeroesAlone (opening_bus (script_of w)) → y.name.num ≡ 0 → ⊥
  no_zero alone zero_is =
      let d : Device = opened w h name x k isout in
      let z = found_first (λ e. _) d.endpoints (opened_endpoint k.text) (endpoint_is w h name x k isout) in
      let none : place_named d.endpoints 0 way.Out ≡ None =
      (nth_all IsZeroAlone (opening_bus (script_of w)).devices place d alone (device_there w h name x k isout)).no_out in
      some z.place (sym z.at ∙ ap (λ (n : ℕ). place_named d.endpoints n way.Out) zero_is ∙ none)
    where
      some : (i : ℕ) → ◌≡◌ {A = Option ℕ} (Some i) None → ⊥
      some i e = cc
