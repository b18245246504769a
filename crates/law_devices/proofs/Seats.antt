-- The seats of a script's bus: those with the address of a device are that device's.
use Rattle.std.proofs.Common.{◌≡◌, ℕ, zero, suc, ◌+◌, Bool, true, false, List, [], ◌∷◌, map, Option, Some, None, refl, sym, ap, subst, ◌∙◌, inl, inr, arith}
use Rattle.std.specs.Prelude.{◌==◌, ◌&&◌, find, filter_map, slice_get}
use Rattle.std.specs.List.{AllByRecursion, list_any}
use Rattle.std.proofs.lemmas.Bool.{and_parts, and_from, eqb-true, eq-eqb, or_cases, true≢false}
use Rattle.std.proofs.lemmas.Option.{same_Some}
use Rattle.law_devices.proofs.Common.{any_here}
use Rattle.law_common.proofs.Lists.{all_both, all_map}
use Rattle.law_common.proofs.Booleans.{left_or, right_or}
use Rattle.usb_base.specs.declared.packets.Way.{Way}
use Rattle.usb_base.specs.declared.packets.Way.TheVariants as way
use Rattle.usb_base.specs.declared.endpoints.EpName.{EpName}
use Rattle.script_types.specs.declared.devices.EpText.{EpText}
use Rattle.script_types.specs.declared.devices.HubText.{HubText}
use Rattle.script_world.specs.Draft.{Placed, device_text}
use Rattle.bus_wire.specs.declared.seats.Owner.TheVariants.{High}
use Rattle.bus_wire.specs.declared.seats.Seat.{Seat}
use Rattle.bus_wire.specs.declared.seats.TokenKind.TheVariants.{In}
use Rattle.bus_wire.specs.Fates.{is_same_way, is_same_name}
use Rattle.bus_wire.specs.Seats.{suits, takes_token, owner_at, seat_at, seats_from, hub_seats_from, seat_named}
use Rattle.law_devices.proofs.Lists.{all_find, all_filter_map, filter_skips, filter_takes, any_later, any_more, any_found, found_passes}
use Rattle.law_devices.proofs.Drafts.{IsApart, AreApart, addresses, IsEpOf, HasOwn}

-- a seat with this address is the device's at place n
abbrev pub IsAt : ℕ → ℕ → Seat → Type 0
IsAt a n s = s.name.addr ≡ a → s.owner ≡ High n

-- ---- names

ways_equal : (a b : Way) → is_same_way a b ≡ true → a ≡ b
ways_equal way.In way.In e = refl
ways_equal way.In way.Out e = cc
ways_equal way.In way.Ctl e = cc
ways_equal way.Out way.In e = cc
ways_equal way.Out way.Out e = refl
ways_equal way.Out way.Ctl e = cc
ways_equal way.Ctl way.In e = cc
ways_equal way.Ctl way.Out e = cc
ways_equal way.Ctl way.Ctl e = refl

pub record AreSame (a b : EpName) : Type 0 where
  pub addr : a.addr ≡ b.addr
  pub num : a.num ≡ b.num
  pub way : a.way ≡ b.way

pub same_name : (a b : EpName) → is_same_name a b ≡ true → AreSame a b
same_name a b e =
    let p = and_parts (a.addr == b.addr) (a.num == b.num && is_same_way a.way b.way) e in
    let q = and_parts (a.num == b.num) (is_same_way a.way b.way) p.1 in
    record { addr = eqb-true a.addr b.addr p.0; num = eqb-true a.num b.num q.0; way = ways_equal a.way b.way q.1 }

-- ---- whose seats are

-- the devices behind it have other addresses
elsewhere : (names : List EpName) (a n k : ℕ) (ds : List Placed) → IsApart a (addresses ds) → AllByRecursion (HasOwn names) ds → AllByRecursion (IsAt a n) (seats_from k (map device_text ds))
elsewhere names a n k [] h own = tt
elsewhere names a n k (d ∷ ds) h own =
    all_both (IsAt a n) (map (seat_at k) d.eps) (seats_from (k + 1) (map device_text ds))
    (all_map (IsEpOf names d.addr d.hub) (IsAt a n) (seat_at k) d.eps (λ e z same. absurd (true≢false (sym (eq-eqb a d.addr (sym same ∙ z.address)) ∙ h.0))) own.0)
    (elsewhere names a n (k + 1) ds h.1 own.1)

earlier : (names : List EpName) (a n k : ℕ) (d : Placed) → (d.addr == a) ≡ false → HasOwn names d → AllByRecursion (IsAt a n) (map (seat_at k) d.eps)
earlier names a n k d other own =
    all_map (IsEpOf names d.addr d.hub) (IsAt a n) (seat_at k) d.eps (λ e z same. absurd (true≢false (sym (eq-eqb d.addr a (sym z.address ∙ same)) ∙ other))) own

own_seats : (names : List EpName) (a n k : ℕ) (d : Placed) → n ≡ k → d.hub ≡ None → HasOwn names d → AllByRecursion (IsAt a n) (map (seat_at k) d.eps)
own_seats names a n k d there root own =
    all_map (IsEpOf names d.addr d.hub) (IsAt a n) (seat_at k) d.eps (λ e z same. ap (λ hub. owner_at k hub e.desc.port e.stuff) (z.behind ∙ root) ∙ ap High (sym there)) own

pub owners : (names : List EpName) (a n k m : ℕ) (ds : List Placed) (d : Placed) → slice_get ds m ≡ Some d → d.addr ≡ a → n ≡ k + m → d.hub ≡ None → AreApart (addresses ds)
    → AllByRecursion (HasOwn names) ds → AllByRecursion (IsAt a n) (seats_from k (map device_text ds))
owners names a n k m [] d here is there root apart own = tt
owners names a n k zero (x ∷ ds) d here is there root apart own =
    let same : x ≡ d = cc in
    all_both (IsAt a n) (map (seat_at k) x.eps) (seats_from (k + 1) (map device_text ds))
    (own_seats names a n k x (omega (arith, there)) (ap (λ (p : Placed). p.hub) same ∙ root) own.0)
    (elsewhere names a n (k + 1) ds (subst (λ b. IsApart b (addresses ds)) (ap (λ (p : Placed). p.addr) same ∙ is) apart.0) own.1)
owners names a n k (suc m) (x ∷ ds) d here is there root apart own =
    all_both (IsAt a n) (map (seat_at k) x.eps) (seats_from (k + 1) (map device_text ds))
    (earlier names a n k x (address_at ds m apart.0 here) own.0)
    (owners names a n (k + 1) m ds d here is (omega (arith, there)) root apart.1 own.1)
  where
    address_at : (es : List Placed) (i : ℕ) → IsApart x.addr (addresses es) → slice_get es i ≡ Some d → (x.addr == a) ≡ false
    address_at [] i h e = cc
    address_at (y ∷ es) zero h e = let same : y ≡ d = cc in subst (λ b. (x.addr == b) ≡ false) (ap (λ (p : Placed). p.addr) same ∙ is) h.0
    address_at (y ∷ es) (suc i) h e = address_at es i h.1 e

pub hub_owners : (a n k : ℕ) (hs : List HubText) → AllByRecursion (λ h. (h.addr == a) ≡ false) hs → AllByRecursion (IsAt a n) (hub_seats_from k hs)
hub_owners a n k [] h = tt
hub_owners a n k (x ∷ hs) h = ((λ same. absurd (true≢false (sym (eq-eqb x.addr a same) ∙ h.0))), hub_owners a n (k + 1) hs h.1)

pub named_owners : (a n : ℕ) (seats : List Seat) (names : List EpName) → AllByRecursion (IsAt a n) seats → AllByRecursion (IsAt a n) (filter_map (seat_named seats) names)
named_owners a n seats names h = all_filter_map (IsAt a n) (seat_named seats) names (λ name. all_find (IsAt a n) (λ s. is_same_name s.name name) seats h)

-- ---- an endpoint has its seat

any_seat : (p : Seat → Bool) (k m : ℕ) (ds : List Placed) (d : Placed) (r : EpText → Bool) (e : EpText) → slice_get ds m ≡ Some d → find r d.eps ≡ Some e
    → ((i : ℕ) → p (seat_at i e) ≡ true) → list_any p (seats_from k (map device_text ds)) ≡ true
any_seat p k m [] d r e here found t = cc
any_seat p k zero (x ∷ ds) d r e here found t =
    any_more p (map (seat_at k) x.eps) (seats_from (k + 1) (map device_text ds)) (any_here p k x.eps r e (ap (λ (z : Placed). find r z.eps) (same_Some x d here) ∙ found) (t k))
any_seat p k (suc m) (x ∷ ds) d r e here found t =
    any_later p (map (seat_at k) x.eps) (seats_from (k + 1) (map device_text ds)) (any_seat p (k + 1) m ds d r e here found t)

suits_same : (a b : EpName) → AreSame a b → b.way ≡ way.In → suits a b.addr b.num In ≡ true
suits_same a b same isin =
    and_from (a.addr == b.addr) _ (eq-eqb a.addr b.addr same.addr)
    (and_from (a.num == b.num) _ (eq-eqb a.num b.num same.num) (ap (λ w. takes_token w In) (same.way ∙ isin)))

-- where one of the names is that of the endpoint
named_suits : (seats : List Seat) (e : EpName) (names : List EpName) → e.way ≡ way.In → ((n : EpName) → is_same_name e n ≡ true → list_any (λ s. is_same_name s.name n) seats ≡ true)
    → list_any (is_same_name e) names ≡ true → list_any (λ s. suits s.name e.addr e.num In) (filter_map (seat_named seats) names) ≡ true
named_suits seats e [] isin has listed = cc
named_suits seats e (n ∷ names) isin has listed =
    elim (or_cases (is_same_name e n) (list_any (is_same_name e) names) listed) [
      | inl t ↦ first t
      | inr t ↦ later (seat_named seats n) refl (named_suits seats e names isin has t)
    ]
  where
    test : Seat → Bool
    test s = suits s.name e.addr e.num In

    later : (o : Option Seat) → seat_named seats n ≡ o → list_any test (filter_map (seat_named seats) names) ≡ true → list_any test (filter_map (seat_named seats) (n ∷ names)) ≡ true
    later None is t = subst (λ xs. list_any test xs ≡ true) (sym (filter_skips (seat_named seats) n names is)) t
    later (Some s) is t = subst (λ xs. list_any test xs ≡ true) (sym (filter_takes (seat_named seats) n names s is)) (right_or (test s) _ t)

    first : is_same_name e n ≡ true → list_any test (filter_map (seat_named seats) (n ∷ names)) ≡ true
    first t =
        let k = any_found (λ (s : Seat). is_same_name s.name n) seats (has n t) in
        let a = same_name k.first.name n (found_passes (λ (s : Seat). is_same_name s.name n) seats k.first k.is) in
        let b = same_name e n t in
        let same : AreSame k.first.name e = record { addr = a.addr ∙ sym b.addr; num = a.num ∙ sym b.num; way = a.way ∙ sym b.way } in
        subst (λ xs. list_any test xs ≡ true) (sym (filter_takes (seat_named seats) n names k.first k.is)) (left_or (test k.first) _ (suits_same k.first.name e same isin))

pub has_seat : (names : List EpName) (m : ℕ) (ds : List Placed) (d : Placed) (r : EpText → Bool) (e : EpText) → slice_get ds m ≡ Some d → find r d.eps ≡ Some e
    → e.desc.name.way ≡ way.In → list_any (is_same_name e.desc.name) names ≡ true
    → list_any (λ s. suits s.name e.desc.name.addr e.desc.name.num In) (filter_map (seat_named (seats_from 0 (map device_text ds))) names) ≡ true
has_seat names m ds d r e here found isin listed =
    named_suits (seats_from 0 (map device_text ds)) e.desc.name names isin
    (λ n t. any_seat (λ s. is_same_name s.name n) 0 m ds d r e here found (λ i. t)) listed
