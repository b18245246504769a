-- No endpoint of a device behind a hub is a sender or a taker of the high-speed bus.
use Rattle.std.proofs.Common.{◌≡◌, ℕ, ◌+◌, Bool, true, List, [], ◌∷◌, map, Option, Some, None, refl, sym, ap, subst, ◌∙◌, inl, inr}
use Rattle.std.specs.Prelude.{◌==◌, ◌&&◌, find}
use Rattle.std.specs.List.{AllByRecursion}
use Rattle.std.proofs.lemmas.Bool.{and_parts, eqb-true, eq-eqb, true≢false, cases_Bool, cond-true, cond-false}
use Rattle.std.proofs.lemmas.Option.{same_Some}
use Rattle.law_common.proofs.Lists.{all_both, all_map, nth_all}
use Rattle.usb_base.specs.declared.endpoints.EpName.{EpName}
use Rattle.script_types.specs.declared.devices.HubText.{HubText}
use Rattle.script_world.specs.Draft.{Draft, Placed, device_of, device_text, script_of}
use Rattle.bus_wire.specs.declared.seats.Owner.{Owner}
use Rattle.bus_wire.specs.declared.seats.Owner.TheVariants as owners
use Rattle.bus_wire.specs.declared.seats.Seat.{Seat}
use Rattle.bus_wire.specs.declared.seats.TokenKind.TheVariants.{In, Out}
use Rattle.bus_wire.specs.Bus.{Bus, Wired}
use Rattle.bus_wire.specs.Fates.{is_same_name}
use Rattle.bus_wire.specs.Seats.{suits, owner_at, seat_at, seats_from, hub_seats_from, seat_named, seats_of}
use Rattle.law_devices.specs.Senders.{sender_of_owner, sender_of_seat, sender_of_place, sender_of}
use Rattle.law_devices.specs.scripted_takers.Takers.{taker_of_owner, taker_of_seat, taker_of_place, taker_of}
use Rattle.law_devices.proofs.Drafts.{IsApart, AreApart, addresses, IsEpOf, HasOwn, IsDeclaredDraft}
use Rattle.law_devices.proofs.Lists.{all_find, all_filter_map, found_passes, found_first, none_each}
use Rattle.law_devices.proofs.lemmas.declared_controls.Places.{position_none}

-- a seat of this address isn't that of a device on the high-speed bus
abbrev pub IsNotHigh : ℕ → Seat → Type 0
IsNotHigh a s = s.name.addr ≡ a → (n : ℕ) → s.owner ≡ owners.High n → ⊥

-- ---- the seats of hubs

hub_high : (k n : ℕ) → owners.Hub k ≡ owners.High n → ⊥
hub_high k n is = cc

hub_not : (a k : ℕ) (hs : List HubText) → AllByRecursion (IsNotHigh a) (hub_seats_from k hs)
hub_not a k [] = tt
hub_not a k (x ∷ hs) = ((λ same n is. hub_high k n is), hub_not a (k + 1) hs)

-- ---- the seats of devices

record HasHub (d : Placed) : Type 0 where
  hub : ℕ
  is : d.hub ≡ Some hub

abbrev IsBehind : ℕ → Placed → Type 0
IsBehind a d = d.addr ≡ a → HasHub d

below_high : (k h port stuff n : ℕ) → owners.Below k h port stuff ≡ owners.High n → ⊥
below_high k h port stuff n is = cc

behind_high : (k h port stuff n : ℕ) (o : Option ℕ) → o ≡ Some h → owner_at k o port stuff ≡ owners.High n → ⊥
behind_high k h port stuff n o behind is =
    below_high k h port stuff n (sym (ap (λ (hub : Option ℕ). owner_at k hub port stuff) behind) ∙ is)

seats_not : (names : List EpName) (a k : ℕ) (ds : List Placed) → AllByRecursion (IsBehind a) ds → AllByRecursion (HasOwn names) ds
    → AllByRecursion (IsNotHigh a) (seats_from k (map device_text ds))
seats_not names a k [] behind own = tt
seats_not names a k (d ∷ ds) behind own =
    all_both (IsNotHigh a) (map (seat_at k) d.eps) (seats_from (k + 1) (map device_text ds))
    (all_map (IsEpOf names d.addr d.hub) (IsNotHigh a) (seat_at k) d.eps
    (λ e z same n is.
    let b : HasHub d = behind.0 (sym z.address ∙ same) in behind_high k b.hub e.desc.port e.stuff n e.desc.hub (z.behind ∙ b.is) is)
    own.0)
    (seats_not names a (k + 1) ds behind.1 own.1)

others_apart : (a : ℕ) (ds : List Placed) → IsApart a (addresses ds) → AllByRecursion (IsBehind a) ds
others_apart a [] apart = tt
others_apart a (x ∷ ds) apart = ((λ same. absurd (true≢false (sym (eq-eqb a x.addr (sym same)) ∙ apart.0))), others_apart a ds apart.1)

each_behind : (a h : ℕ) (ds : List Placed) (d : Placed) → device_of ds a ≡ Some d → d.hub ≡ Some h → AreApart (addresses ds)
    → AllByRecursion (IsBehind a) ds
each_behind a h [] d here hub apart = tt
each_behind a h (x ∷ ds) d here hub apart =
    elim (cases_Bool (x.addr == a)) [
      | inl t ↦ (
        (λ same. record { hub = h; is = ap (λ (p : Placed). p.hub) (same_Some x d (sym (cond-true _ _ _ t) ∙ here)) ∙ hub }),
        others_apart a ds (subst (λ (b : ℕ). IsApart b (addresses ds)) (eqb-true x.addr a t) apart.0),
      )
      | inr f ↦ (
        (λ same. absurd (true≢false (sym (eq-eqb x.addr a same) ∙ f))),
        each_behind a h ds d (sym (cond-false _ _ _ f) ∙ here) hub apart.1,
      )
    ]

pub behind_not : (w : Draft) (a h : ℕ) (d : Placed) → IsDeclaredDraft w → device_of w.devices a ≡ Some d → d.hub ≡ Some h
    → AllByRecursion (IsNotHigh a) (seats_of (script_of w))
behind_not w a h d k here hub =
    all_both (IsNotHigh a) (hub_seats_from 0 w.hubs) _ (hub_not a 0 w.hubs)
    (all_filter_map (IsNotHigh a) (seat_named (seats_from 0 (map device_text w.devices))) w.endpoints
    (λ name. all_find (IsNotHigh a) (λ s. is_same_name s.name name) (seats_from 0 (map device_text w.devices))
    (seats_not w.endpoints a 0 w.devices (each_behind a h w.devices d here hub k.apart) k.own)))

-- ---- no sender, and no taker

owner_sends : (b : Bus) (addr ep : ℕ) (o : Owner) → ((n : ℕ) → o ≡ owners.High n → ⊥) → sender_of_owner b addr ep o ≡ None
owner_sends b addr ep (owners.High place) none = absurd (none place refl)
owner_sends b addr ep (owners.Hub place) none = refl
owner_sends b addr ep (owners.Below place hub port stuff) none = refl

owner_takes : (b : Bus) (addr ep : ℕ) (o : Owner) → ((n : ℕ) → o ≡ owners.High n → ⊥) → taker_of_owner b addr ep o ≡ None
owner_takes b addr ep (owners.High place) none = absurd (none place refl)
owner_takes b addr ep (owners.Hub place) none = refl
owner_takes b addr ep (owners.Below place hub port stuff) none = refl

module _ (w : Wired) (addr ep : ℕ) (each : AllByRecursion (IsNotHigh addr) w.fixed.seats) where
  abbrev asked_in : Seat → Bool
  asked_in s = suits s.name addr ep In

  abbrev asked_out : Seat → Bool
  asked_out s = suits s.name addr ep Out

  abbrev address_of : (seat : Seat) (b : Bool) → (seat.name.addr == addr && b) ≡ true → seat.name.addr ≡ addr
  address_of seat b passes = eqb-true seat.name.addr addr (and_parts (seat.name.addr == addr) b passes).0

  sender_by : (o : Option Seat) → find asked_in w.fixed.seats ≡ o → sender_of w addr ep ≡ None
  sender_by None is = ap (sender_of_place w addr ep) (position_none asked_in w.fixed.seats (none_each asked_in w.fixed.seats is))
  sender_by (Some seat) is =
      let z = found_first asked_in w.fixed.seats seat is in
      let here = nth_all (IsNotHigh addr) w.fixed.seats z.place seat each z.here
      (address_of seat _ (found_passes asked_in w.fixed.seats seat is)) in
      ap (sender_of_place w addr ep) z.at ∙ ap (sender_of_seat w.bus addr ep) z.here ∙ owner_sends w.bus addr ep seat.owner here

  pub no_sender : sender_of w addr ep ≡ None
  no_sender = sender_by (find asked_in w.fixed.seats) refl

  taker_by : (o : Option Seat) → find asked_out w.fixed.seats ≡ o → taker_of w addr ep ≡ None
  taker_by None is = ap (taker_of_place w addr ep) (position_none asked_out w.fixed.seats (none_each asked_out w.fixed.seats is))
  taker_by (Some seat) is =
      let z = found_first asked_out w.fixed.seats seat is in
      let here = nth_all (IsNotHigh addr) w.fixed.seats z.place seat each z.here
      (address_of seat _ (found_passes asked_out w.fixed.seats seat is)) in
      ap (taker_of_place w addr ep) z.at ∙ ap (taker_of_seat w.bus addr ep) z.here ∙ owner_takes w.bus addr ep seat.owner here

  pub no_taker : taker_of w addr ep ≡ None
  no_taker = taker_by (find asked_out w.fixed.seats) refl
