-- The endpoints of a bus are those of the script.
use Rattle.std.proofs.Common.{◌≡◌, ℕ, zero, suc, ◌+◌, Bool, true, false, cond, List, [], ◌∷◌, ◌++◌, map, slice_get, Option, Some, None, refl, ap, sym, subst, ◌∙◌, arith}
use Rattle.std.specs.List.{filter_map, cons_option}
use Rattle.std.specs.Prelude.{find}
use Rattle.std.proofs.lemmas.Option.{same_Some}
use Rattle.usb_base.specs.declared.endpoints.EpName.{EpName}
use Rattle.script_types.specs.declared.devices.DeviceText.{DeviceText}
use Rattle.script_types.specs.declared.devices.EpText.{EpText}
use Rattle.script_types.specs.declared.devices.HubText.{HubText}
use Rattle.bus_wire.specs.declared.seats.Owner.{Owner}
use Rattle.bus_wire.specs.declared.seats.Owner.TheVariants.{Hub}
use Rattle.bus_wire.specs.declared.seats.Seat.{Seat}
use Rattle.bus_wire.specs.Fates.{is_same_name}
use Rattle.bus_wire.specs.Seats.{owner_at, seat_at, seats_from, hub_seat, hub_name, hub_seats_from, seat_named, device_seats, seats_of}
use Rattle.claims_answers.specs.Seating.{HasSeat, owner_by, owner_of}
use Rattle.law_reports.specs.answers.Seated.{BusHasEndpoints, AHubIsSeated, NoEndpointsIsWrong}
use Rattle.law_queues.proofs.lemmas.told_endpoints.Names.{same_name_is, name_is_same}

-- ---- lists

record IsIn {X : Type 0} (xs : List X) (x : X) : Type 0 where
  place : ℕ
  there : slice_get xs place ≡ Some x

in_later : {X : Type 0} (y x : X) (xs : List X) → IsIn xs x → IsIn (y ∷ xs) x
in_later y x xs i = record { place = suc i.place; there = i.there }

left_at : {X : Type 0} (x : X) (xs ys : List X) (n : ℕ) → slice_get xs n ≡ Some x → IsIn (xs ++ ys) x
left_at x [] ys zero is = absurd cc
left_at x [] ys (suc n) is = absurd cc
left_at x (z ∷ zs) ys zero is = record { place = 0; there = is }
left_at x (z ∷ zs) ys (suc n) is = in_later z x (zs ++ ys) (left_at x zs ys n is)

in_left : {X : Type 0} (x : X) (xs ys : List X) → IsIn xs x → IsIn (xs ++ ys) x
in_left x xs ys i = left_at x xs ys i.place i.there

in_right : {X : Type 0} (x : X) (xs ys : List X) → IsIn ys x → IsIn (xs ++ ys) x
in_right x [] ys i = i
in_right x (z ∷ xs) ys i = in_later z x (xs ++ ys) (in_right x xs ys i)

-- what is found of an element is among what is found
in_filtered : {X Y : Type 0} (f : X → Option Y) (xs : List X) (n : ℕ) (x : X) (y : Y) → slice_get xs n ≡ Some x → f x ≡ Some y
    → IsIn (filter_map f xs) y
in_filtered f [] zero x y here is = absurd cc
in_filtered f [] (suc n) x y here is = absurd cc
in_filtered f (z ∷ zs) zero x y here is =
    subst (λ o. IsIn (cons_option o (filter_map f zs)) y) (sym (ap f (same_Some z x here) ∙ is)) (record { place = 0; there = refl })
in_filtered f (z ∷ zs) (suc n) x y here is = at (f z) (in_filtered f zs n x y here is)
  where
    at : (o : Option _) → IsIn (filter_map f zs) y → IsIn (cons_option o (filter_map f zs)) y
    at None i = i
    at (Some w) i = in_later w y (filter_map f zs) i

-- one that passes is found, and it is among them
record IsFound {X : Type 0} (p : X → Bool) (xs : List X) : Type 0 where
  one : X
  is : find p xs ≡ Some one
  passes : p one ≡ true
  among : IsIn xs one

found : {X : Type 0} (p : X → Bool) (xs : List X) (n : ℕ) (x : X) → slice_get xs n ≡ Some x → p x ≡ true → IsFound p xs
found p [] zero x here on = absurd cc
found p [] (suc n) x here on = absurd cc
found p (z ∷ zs) zero x here on = record {
  one = z;
  is = ap (λ (b : Bool). cond b (Some z) (find p zs)) (ap p (same_Some z x here) ∙ on);
  passes = ap p (same_Some z x here) ∙ on;
  among = record { place = 0; there = refl };
}
found p (z ∷ zs) (suc n) x here on = first_or p z zs (found p zs n x here on)
  where
    first_or : {X : Type 0} (p : X → Bool) (z : X) (zs : List X) → IsFound p zs → IsFound p (z ∷ zs)
    first_or p z zs f = at (p z) refl
      where
        at : (b : Bool) → p z ≡ b → IsFound p (z ∷ zs)
        at true on = record {
          one = z;
          is = ap (λ (b : Bool). cond b (Some z) (find p zs)) on;
          passes = on;
          among = record { place = 0; there = refl };
        }
        at false off = record {
          one = f.one;
          is = ap (λ (b : Bool). cond b (Some z) (find p zs)) off ∙ f.is;
          passes = f.passes;
          among = in_later z f.one zs f.among;
        }

-- ---- hubs

hub_in : (hs : List HubText) (k n : ℕ) (h : HubText) → slice_get hs n ≡ Some h → IsIn (hub_seats_from k hs) (hub_seat (k + n) h)
hub_in [] k zero h here = absurd cc
hub_in [] k (suc n) h here = absurd cc
hub_in (g ∷ gs) k zero h here =
    let same : k + 0 ≡ k = omega arith in
    record {
      place = 0;
      there = ap (λ (x : HubText). Some (hub_seat k x)) (same_Some g h here)
          ∙ ap (λ (i : ℕ). Some (hub_seat i h)) (sym same);
    }
hub_in (g ∷ gs) k (suc n) h here =
    let same : k + 1 + n ≡ k + suc n = omega arith in
    in_later (hub_seat k g) (hub_seat (k + suc n) h) (hub_seats_from (k + 1) gs)
    (subst (λ (i : ℕ). IsIn (hub_seats_from (k + 1) gs) (hub_seat i h)) same (hub_in gs (k + 1) n h here))

-- ---- endpoints of devices

owner_is : (n : ℕ) (e : EpText) (o : Option ℕ) → owner_at n o e.desc.port e.stuff ≡ owner_by n e o
owner_is n e None = refl
owner_is n e (Some hub) = refl

mapped_in : {X Y : Type 0} (f : X → Y) (xs : List X) (n : ℕ) (x : X) → slice_get xs n ≡ Some x → IsIn (map f xs) (f x)
mapped_in f [] zero x here = absurd cc
mapped_in f [] (suc n) x here = absurd cc
mapped_in f (z ∷ zs) zero x here = record { place = 0; there = ap (λ y. Some (f y)) (same_Some z x here) }
mapped_in f (z ∷ zs) (suc n) x here = in_later (f z) (f x) (map f zs) (mapped_in f zs n x here)

device_in : (ds : List DeviceText) (k n line : ℕ) (d : DeviceText) (e : EpText) → slice_get ds n ≡ Some d → slice_get d.eps line ≡ Some e
    → IsIn (seats_from k ds) (seat_at (k + n) e)
device_in [] k zero line d e here there = absurd cc
device_in [] k (suc n) line d e here there = absurd cc
device_in (c ∷ cs) k zero line d e here there =
    let same : k + 0 ≡ k = omega arith in
    subst (λ (i : ℕ). IsIn (seats_from k (c ∷ cs)) (seat_at i e)) (sym same)
    (in_left (seat_at k e) (map (seat_at k) c.eps) (seats_from (k + 1) cs)
    (mapped_in (seat_at k) c.eps line e (ap (λ (x : DeviceText). slice_get x.eps line) (same_Some c d here) ∙ there)))
device_in (c ∷ cs) k (suc n) line d e here there =
    let same : k + 1 + n ≡ k + suc n = omega arith in
    in_right (seat_at (k + suc n) e) (map (seat_at k) c.eps) (seats_from (k + 1) cs)
    (subst (λ (i : ℕ). IsIn (seats_from (k + 1) cs) (seat_at i e)) same (device_in cs (k + 1) n line d e here there))

-- whose a seat is
record IsOfSome (ds : List DeviceText) (k : ℕ) (x : Seat) : Type 0 where
  number : ℕ
  line : ℕ
  device : DeviceText
  endpoint : EpText
  there : slice_get ds number ≡ Some device
  here : slice_get device.eps line ≡ Some endpoint
  is : x ≡ seat_at (k + number) endpoint

record IsMapped {X Y : Type 0} (f : X → Y) (xs : List X) (y : Y) : Type 0 where
  place : ℕ
  one : X
  there : slice_get xs place ≡ Some one
  is : y ≡ f one

of_mapped : {X Y : Type 0} (f : X → Y) (xs : List X) (n : ℕ) (y : Y) → slice_get (map f xs) n ≡ Some y → IsMapped f xs y
of_mapped f [] zero y is = absurd cc
of_mapped f [] (suc n) y is = absurd cc
of_mapped f (x ∷ xs) zero y is = record { place = 0; one = x; there = refl; is = sym (same_Some (f x) y is) }
of_mapped f (x ∷ xs) (suc n) y is =
    let m = of_mapped f xs n y is in record { place = suc m.place; one = m.one; there = m.there; is = m.is }

-- an element of two lists is one of either
both_at : {X : Type 0} (x : X) (xs ys : List X) (n : ℕ) → slice_get (xs ++ ys) n ≡ Some x → (R : Type 0) → (IsIn xs x → R) →
    (IsIn ys x → R) → R
both_at x [] ys n is R one two = two (record { place = n; there = is })
both_at x (z ∷ zs) ys zero is R one two = one (record { place = 0; there = is })
both_at x (z ∷ zs) ys (suc n) is R one two = both_at x zs ys n is R (λ j. one (in_later z x zs j)) two

of_both : {X : Type 0} (x : X) (xs ys : List X) → IsIn (xs ++ ys) x → (R : Type 0) → (IsIn xs x → R) → (IsIn ys x → R) → R
of_both x xs ys i R one two = both_at x xs ys i.place i.there R one two

of_device : (ds : List DeviceText) (k : ℕ) (x : Seat) → IsIn (seats_from k ds) x → IsOfSome ds k x
of_device [] k x i = absurd (no i.place i.there)
  where
    no : (n : ℕ) → slice_get {X = Seat} [] n ≡ Some x → ⊥
    no zero is = cc
    no (suc n) is = cc
of_device (d ∷ ds) k x i =
    of_both x (map (seat_at k) d.eps) (seats_from (k + 1) ds) i (IsOfSome (d ∷ ds) k x)
    (λ j. let m = of_mapped (seat_at k) d.eps j.place x j.there in let same : k + 0 ≡ k = omega arith in record {
      number = 0;
      line = m.place;
      device = d;
      endpoint = m.one;
      there = refl;
      here = m.there;
      is = m.is ∙ ap (λ (n : ℕ). seat_at n m.one) (sym same);
    })
    (λ j. let m = of_device ds (k + 1) x j in let same : k + 1 + m.number ≡ k + suc m.number = omega arith in record {
      number = suc m.number;
      line = m.line;
      device = m.device;
      endpoint = m.endpoint;
      there = m.there;
      here = m.here;
      is = m.is ∙ ap (λ (n : ℕ). seat_at n m.endpoint) same;
    })

-- ---- all of them

seats_in : (seats : List Seat) (x : Seat) (name : EpName) (owner : Owner) → IsIn seats x → x.name ≡ name → x.owner ≡ owner
    → HasSeat seats name owner
seats_in seats x name owner i named owned = record { place = i.place; seat = x; there = i.there; named = named; owned = owned }

pub bus_has_endpoints : BusHasEndpoints
bus_has_endpoints s = record {
  hubs = λ n h here.
      seats_in (seats_of s) (hub_seat n h) (hub_name h.addr) (Hub n)
      (in_left (hub_seat n h) (hub_seats_from 0 s.hubs) (device_seats s)
      (let same : 0 + n ≡ n = omega arith in
      subst (λ (i : ℕ). IsIn (hub_seats_from 0 s.hubs) (hub_seat i h)) same (hub_in s.hubs 0 n h here))) refl refl;
  devices = λ i n name e listed of.
      let all = seats_from 0 s.devices in
      let its = device_in s.devices 0 n of.line of.device e of.there of.here in
      let f = found (λ (x : Seat). is_same_name x.name name) all its.place (seat_at (0 + n) e) its.there
      (ap (λ (k : EpName). is_same_name k name) of.named ∙ name_is_same name) in
      let named : f.one.name ≡ name = same_name_is f.one.name name f.passes in
      let w = of_device s.devices 0 f.one f.among in
      let placed = in_right f.one (hub_seats_from 0 s.hubs) (device_seats s)
      (in_filtered (seat_named all) s.endpoints i name f.one listed f.is) in
      record {
        number = w.number;
        endpoint = w.endpoint;
        of = record {
          device = w.device;
          there = w.there;
          line = w.line;
          here = w.here;
          named = sym (ap (λ (x : Seat). x.name) w.is) ∙ named;
        };
        seat = seats_in (seats_of s) f.one name (owner_of w.number w.endpoint) placed named
            (ap (λ (x : Seat). x.owner) w.is
            ∙ (let same : 0 + w.number ≡ w.number = omega arith in
            ap (λ (k : ℕ). owner_at k w.endpoint.desc.hub w.endpoint.desc.port w.endpoint.stuff) same)
            ∙ owner_is w.number w.endpoint w.endpoint.desc.hub);
      };
}

-- ---- worked rows

pub a_hub_is_seated : AHubIsSeated
a_hub_is_seated = (
  record { place = 0; seat = _; there = refl; named = refl; owned = refl },
  record { place = 1; seat = _; there = refl; named = refl; owned = refl },
)

pub no_endpoints_is_wrong : NoEndpointsIsWrong
no_endpoints_is_wrong s h hs is seats = none (seats.hubs 0 h (ap (λ (gs : List HubText). slice_get gs 0) is))
  where
    no : (n : ℕ) (x : Seat) → slice_get {X = Seat} [] n ≡ Some x → ⊥
    no zero x there = cc
    no (suc n) x there = cc

    none : HasSeat [] (hub_name h.addr) (Hub 0) → ⊥
    none k = no k.place k.seat k.there
