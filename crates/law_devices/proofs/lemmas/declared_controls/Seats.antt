-- A control endpoint of a device has its seat on the bus of the script, the same for each token.
use Rattle.std.proofs.Common.{◌≡◌, ℕ, zero, suc, ◌+◌, Bool, true, List, [], ◌∷◌, map, Option, Some, None, refl, sym, ap, subst, ◌∙◌, inl, inr}
use Rattle.std.specs.Prelude.{◌==◌, ◌&&◌, find, filter_map, slice_get}
use Rattle.std.specs.List.{AllByRecursion, list_any}
use Rattle.std.proofs.lemmas.Bool.{and_from, eq-eqb, eqb-true, or_cases, cases_Bool}
use Rattle.std.proofs.lemmas.Option.{same_Some}
use Rattle.law_devices.proofs.Common.{any_here}
use Rattle.law_common.proofs.Lists.{all_both, all_more, all_map}
use Rattle.law_common.proofs.Booleans.{left_or, right_or}
use Rattle.usb_base.specs.declared.packets.Way.TheVariants as way
use Rattle.usb_base.specs.declared.endpoints.EpName.{EpName}
use Rattle.script_types.specs.declared.devices.EpText.{EpText}
use Rattle.script_types.specs.declared.devices.HubText.{HubText}
use Rattle.script_world.specs.Draft.{Draft, Placed, device_text, script_of}
use Rattle.bus_wire.specs.declared.seats.Seat.{Seat}
use Rattle.bus_wire.specs.declared.seats.TokenKind.{TokenKind}
use Rattle.bus_wire.specs.declared.seats.TokenKind.TheVariants.{Setup}
use Rattle.bus_wire.specs.Fates.{is_same_name}
use Rattle.bus_wire.specs.Seats.{suits, takes_token, seat_at, seats_from, hub_seats_from, seats_of, seat_named}
use Rattle.law_devices.proofs.Lists.{all_find, all_filter_map, filter_skips, filter_takes, any_later, any_more, any_found, found_passes}
use Rattle.law_devices.proofs.Seats.{AreSame, same_name}
use Rattle.law_devices.proofs.lemmas.declared_controls.Names.{zero_is}
use Rattle.law_devices.proofs.lemmas.declared_controls.Drafts.{HasName, HasNames, IsToldDraft}

-- ---- among the seats of its device

any_seat : (p : Seat → Bool) (k m : ℕ) (ds : List Placed) (d : Placed) (r : EpText → Bool) (e : EpText) → slice_get ds m ≡ Some d → find r d.eps ≡ Some e
    → ((i : ℕ) → p (seat_at i e) ≡ true) → list_any p (seats_from k (map device_text ds)) ≡ true
any_seat p k m [] d r e here found t = cc
any_seat p k zero (x ∷ ds) d r e here found t =
    any_more p (map (seat_at k) x.eps) (seats_from (k + 1) (map device_text ds)) (any_here p k x.eps r e (ap (λ (z : Placed). find r z.eps) (same_Some x d here) ∙ found) (t k))
any_seat p k (suc m) (x ∷ ds) d r e here found t =
    any_later p (map (seat_at k) x.eps) (seats_from (k + 1) (map device_text ds)) (any_seat p (k + 1) m ds d r e here found t)

-- ---- and among those in the order of the lines

suits_same : (a b : EpName) → AreSame a b → b.way ≡ way.Ctl → suits a b.addr b.num Setup ≡ true
suits_same a b same isctl =
    and_from (a.addr == b.addr) _ (eq-eqb a.addr b.addr same.addr)
    (and_from (a.num == b.num) _ (eq-eqb a.num b.num same.num) (ap (λ w. takes_token w Setup) (same.way ∙ isctl)))

named_suits : (seats : List Seat) (e : EpName) (names : List EpName) → e.way ≡ way.Ctl → ((n : EpName) → is_same_name e n ≡ true → list_any (λ s. is_same_name s.name n) seats ≡ true)
    → list_any (is_same_name e) names ≡ true → list_any (λ s. suits s.name e.addr e.num Setup) (filter_map (seat_named seats) names) ≡ true
named_suits seats e [] isctl has listed = cc
named_suits seats e (n ∷ names) isctl has listed =
    elim (or_cases (is_same_name e n) (list_any (is_same_name e) names) listed) [
      | inl t ↦ first t
      | inr t ↦ later (seat_named seats n) refl (named_suits seats e names isctl has t)
    ]
  where
    test : Seat → Bool
    test s = suits s.name e.addr e.num Setup

    later : (o : Option Seat) → seat_named seats n ≡ o → list_any test (filter_map (seat_named seats) names) ≡ true → list_any test (filter_map (seat_named seats) (n ∷ names)) ≡ true
    later None is t = subst (λ xs. list_any test xs ≡ true) (sym (filter_skips (seat_named seats) n names is)) t
    later (Some s) is t = subst (λ xs. list_any test xs ≡ true) (sym (filter_takes (seat_named seats) n names s is)) (right_or (test s) _ t)

    first : is_same_name e n ≡ true → list_any test (filter_map (seat_named seats) (n ∷ names)) ≡ true
    first t =
        let k = any_found (λ (s : Seat). is_same_name s.name n) seats (has n t) in
        let a = same_name k.first.name n (found_passes (λ (s : Seat). is_same_name s.name n) seats k.first k.is) in
        let b = same_name e n t in
        let same : AreSame k.first.name e = record { addr = a.addr ∙ sym b.addr; num = a.num ∙ sym b.num; way = a.way ∙ sym b.way } in
        subst (λ xs. list_any test xs ≡ true) (sym (filter_takes (seat_named seats) n names k.first k.is)) (left_or (test k.first) _ (suits_same k.first.name e same isctl))

pub has_control_seat : (names : List EpName) (m : ℕ) (ds : List Placed) (d : Placed) (r : EpText → Bool) (e : EpText) → slice_get ds m ≡ Some d → find r d.eps ≡ Some e
    → e.desc.name.way ≡ way.Ctl → list_any (is_same_name e.desc.name) names ≡ true
    → list_any (λ s. suits s.name e.desc.name.addr e.desc.name.num Setup) (filter_map (seat_named (seats_from 0 (map device_text ds))) names) ≡ true
has_control_seat names m ds d r e here found isctl listed =
    named_suits (seats_from 0 (map device_text ds)) e.desc.name names isctl
    (λ n t. any_seat (λ s. is_same_name s.name n) 0 m ds d r e here found (λ i. t)) listed

-- ---- at number 0 each token is for one seat

abbrev IsZeroSeat : Seat → Type 0
IsZeroSeat s = s.name.num ≡ 0 → s.name.way ≡ way.Ctl

hub_zeroes : (k : ℕ) (hs : List HubText) → AllByRecursion IsZeroSeat (hub_seats_from k hs)
hub_zeroes k [] = tt
hub_zeroes k (x ∷ hs) = ((λ _. refl), hub_zeroes (k + 1) hs)

device_zeroes : (k : ℕ) (ds : List Placed) → AllByRecursion HasNames ds → AllByRecursion IsZeroSeat (seats_from k (map device_text ds))
device_zeroes k [] h = tt
device_zeroes k (d ∷ ds) h =
    all_both IsZeroSeat (map (seat_at k) d.eps) (seats_from (k + 1) (map device_text ds))
    (all_map HasName IsZeroSeat (seat_at k) d.eps (λ e z is. zero_is e.desc z is) h.0)
    (device_zeroes (k + 1) ds h.1)

zeroes : (w : Draft) → IsToldDraft w → AllByRecursion IsZeroSeat (seats_of (script_of w))
zeroes w h =
    all_both IsZeroSeat (hub_seats_from 0 w.hubs) _ (hub_zeroes 0 w.hubs)
    (all_filter_map IsZeroSeat (seat_named (seats_from 0 (map device_text w.devices))) w.endpoints
    (λ name. all_find IsZeroSeat (λ s. is_same_name s.name name) (seats_from 0 (map device_text w.devices)) (device_zeroes 0 w.devices h.devices)))

alike : (n : EpName) (addr : ℕ) (kind : TokenKind) → (n.num ≡ 0 → n.way ≡ way.Ctl) → takes_token way.Ctl kind ≡ true → suits n addr 0 kind ≡ suits n addr 0 Setup
alike n addr kind h both =
    ap (λ b. n.addr == addr && b)
    (elim (cases_Bool (n.num == 0)) [
      | inl t ↦ ap (λ b. b && takes_token n.way kind) t ∙ ap (λ v. takes_token v kind) (h (eqb-true n.num 0 t)) ∙ both
          ∙ sym (ap (λ b. b && takes_token n.way Setup) t ∙ ap (λ v. takes_token v Setup) (h (eqb-true n.num 0 t)))
      | inr f ↦ ap (λ b. b && takes_token n.way kind) f ∙ sym (ap (λ b. b && takes_token n.way Setup) f)
    ])

pub seats_alike : (w : Draft) (addr : ℕ) (kind : TokenKind) → IsToldDraft w → takes_token way.Ctl kind ≡ true → AllByRecursion (λ s. suits s.name addr 0 kind ≡ suits s.name addr 0 Setup) (seats_of (script_of w))
seats_alike w addr kind h both =
    all_more IsZeroSeat (λ s. suits s.name addr 0 kind ≡ suits s.name addr 0 Setup) (seats_of (script_of w)) (λ s k. alike s.name addr kind k both) (zeroes w h)
