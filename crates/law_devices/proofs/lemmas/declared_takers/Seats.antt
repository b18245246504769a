-- An OUT endpoint of a device has its seat on the bus of the script.
use Rattle.std.proofs.Common.{◌≡◌, ℕ, zero, suc, ◌+◌, Bool, true, List, [], ◌∷◌, map, Option, Some, None, refl, sym, ap, subst, ◌∙◌, inl, inr}
use Rattle.std.specs.Prelude.{◌==◌, find, filter_map, slice_get}
use Rattle.std.specs.List.{list_any}
use Rattle.std.proofs.lemmas.Bool.{and_from, eq-eqb, or_cases}
use Rattle.std.proofs.lemmas.Option.{same_Some}
use Rattle.law_devices.proofs.Common.{any_here}
use Rattle.law_common.proofs.Booleans.{left_or, right_or}
use Rattle.usb_base.specs.declared.packets.Way.TheVariants as way
use Rattle.usb_base.specs.declared.endpoints.EpName.{EpName}
use Rattle.script_types.specs.declared.devices.EpText.{EpText}
use Rattle.script_world.specs.Draft.{Placed, device_text}
use Rattle.bus_wire.specs.declared.seats.Seat.{Seat}
use Rattle.bus_wire.specs.declared.seats.TokenKind.TheVariants.{Out}
use Rattle.bus_wire.specs.Fates.{is_same_name}
use Rattle.bus_wire.specs.Seats.{suits, takes_token, seat_at, seats_from, seat_named}
use Rattle.law_devices.proofs.Lists.{filter_skips, filter_takes, any_later, any_more, any_found, found_passes}
use Rattle.law_devices.proofs.Seats.{AreSame, same_name}

-- ---- among the seats of its device

any_seat : (p : Seat → Bool) (k m : ℕ) (ds : List Placed) (d : Placed) (r : EpText → Bool) (e : EpText) → slice_get ds m ≡ Some d → find r d.eps ≡ Some e
    → ((i : ℕ) → p (seat_at i e) ≡ true) → list_any p (seats_from k (map device_text ds)) ≡ true
any_seat p k m [] d r e here found t = cc
any_seat p k zero (x ∷ ds) d r e here found t =
    any_more p (map (seat_at k) x.eps) (seats_from (k + 1) (map device_text ds)) (any_here p k x.eps r e (ap (λ (z : Placed). find r z.eps) (same_Some x d here) ∙ found) (t k))
any_seat p k (suc m) (x ∷ ds) d r e here found t =
    any_later p (map (seat_at k) x.eps) (seats_from (k + 1) (map device_text ds)) (any_seat p (k + 1) m ds d r e here found t)

-- ---- and among those in the order of the lines

suits_same : (a b : EpName) → AreSame a b → b.way ≡ way.Out → suits a b.addr b.num Out ≡ true
suits_same a b same isout =
    and_from (a.addr == b.addr) _ (eq-eqb a.addr b.addr same.addr)
    (and_from (a.num == b.num) _ (eq-eqb a.num b.num same.num) (ap (λ w. takes_token w Out) (same.way ∙ isout)))

named_suits : (seats : List Seat) (e : EpName) (names : List EpName) → e.way ≡ way.Out → ((n : EpName) → is_same_name e n ≡ true → list_any (λ s. is_same_name s.name n) seats ≡ true)
    → list_any (is_same_name e) names ≡ true → list_any (λ s. suits s.name e.addr e.num Out) (filter_map (seat_named seats) names) ≡ true
named_suits seats e [] isout has listed = cc
named_suits seats e (n ∷ names) isout has listed =
    elim (or_cases (is_same_name e n) (list_any (is_same_name e) names) listed) [
      | inl t ↦ first t
      | inr t ↦ later (seat_named seats n) refl (named_suits seats e names isout has t)
    ]
  where
    test : Seat → Bool
    test s = suits s.name e.addr e.num Out

    later : (o : Option Seat) → seat_named seats n ≡ o → list_any test (filter_map (seat_named seats) names) ≡ true → list_any test (filter_map (seat_named seats) (n ∷ names)) ≡ true
    later None is t = subst (λ xs. list_any test xs ≡ true) (sym (filter_skips (seat_named seats) n names is)) t
    later (Some s) is t = subst (λ xs. list_any test xs ≡ true) (sym (filter_takes (seat_named seats) n names s is)) (right_or (test s) _ t)

    first : is_same_name e n ≡ true → list_any test (filter_map (seat_named seats) (n ∷ names)) ≡ true
    first t =
        let k = any_found (λ (s : Seat). is_same_name s.name n) seats (has n t) in
        let a = same_name k.first.name n (found_passes (λ (s : Seat). is_same_name s.name n) seats k.first k.is) in
        let b = same_name e n t in
        let same : AreSame k.first.name e = record { addr = a.addr ∙ sym b.addr; num = a.num ∙ sym b.num; way = a.way ∙ sym b.way } in
        subst (λ xs. list_any test xs ≡ true) (sym (filter_takes (seat_named seats) n names k.first k.is)) (left_or (test k.first) _ (suits_same k.first.name e same isout))

pub has_out_seat : (names : List EpName) (m : ℕ) (ds : List Placed) (d : Placed) (r : EpText → Bool) (e : EpText) → slice_get ds m ≡ Some d → find r d.eps ≡ Some e
    → e.desc.name.way ≡ way.Out → list_any (is_same_name e.desc.name) names ≡ true
    → list_any (λ s. suits s.name e.desc.name.addr e.desc.name.num Out) (filter_map (seat_named (seats_from 0 (map device_text ds))) names) ≡ true
has_out_seat names m ds d r e here found isout listed =
    named_suits (seats_from 0 (map device_text ds)) e.desc.name names isout
    (λ n t. any_seat (λ s. is_same_name s.name n) 0 m ds d r e here found (λ i. t)) listed
