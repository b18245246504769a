-- An endpoint by its name, and how the report of one that has ended is closed.
use Rattle.std.proofs.Common.{◌≡◌, ℕ, zero, suc, ◌<◌, nat_lt, Bool, true, false, cond, ◌||◌, if◌then◌else◌, List, [], ◌∷◌, length, get_or, position, slice_get, find, ◌==◌, Option, Some, None, ap, refl, sym, ◌∙◌, inl, inr, arith}
use Rattle.std.specs.Prelude.{◌⊎◌, is_none}
use Rattle.std.specs.Option.{option_and_then}
use Rattle.std.specs.List.{flat_map, list_any, position_or_len}
use Rattle.std.proofs.lemmas.Bool.{false≢true}
use Rattle.std.proofs.lemmas.Option.{same_Some, slice_get_within, get_or_from_slice_get}
use Rattle.std.proofs.lemmas.List.Folds.{list_any-append}
use Rattle.std.proofs.lemmas.List.Sums.{position_or_len_is}
use Rattle.law_common.proofs.Numbers.{is_less}
use Rattle.law_common.proofs.Booleans.{none_late}
use Rattle.usb_base.specs.declared.endpoints.EpName.{EpName}
use Rattle.usb_base.specs.declared.packets.EpKind.{EpKind}
use Rattle.usb_base.specs.declared.packets.EpKind.TheVariants as Kinds
use Rattle.usb_base.specs.declared.packets.Way.{Way}
use Rattle.usb_base.specs.declared.packets.Way.TheVariants as Ways
use Rattle.bus_wire.specs.Fates.{is_same_name}
use Rattle.bus_wire.specs.declared.seats.Seat.{Seat}
use Rattle.bus_wire.specs.Bus.{Fixed}
use Rattle.endpoint_script.specs.Device.{Device}
use Rattle.hub_class.specs.HubContent.{HubContent}
use Rattle.claims_report.specs.Reports.{Pending, is_pending}
use Rattle.drv_table.specs.declared.content.Endpoint.{Endpoint}
use Rattle.drv_table.specs.DriverContent.{DriverContent, is_same_name as is_driver_name, opened, pending, ended, endpoint_named}
use Rattle.law_queues.specs.told_endpoints.Telling.{Named, named_of, named_in}
use Rattle.law_queues.proofs.lemmas.told_endpoints.Names.{same_name_is, name_is_same, driver_name}
use Rattle.bus_world.specs.World.{World}
use Rattle.bus_world.specs.Closing.{waiting, hub_of}
use Rattle.claims_world.specs.Streams.{waiting_closing, device_closing, told_closing, opened_closings, seat_closings, closings_of}

-- ---- the endpoint of a name, or none

pub record HasNamed (xs : List Endpoint) (name : EpName) : Type 0 where
  pub number : ℕ
  pub endpoint : Endpoint
  pub here : slice_get xs number ≡ Some endpoint
  pub same : endpoint.desc.name ≡ name

abbrev pub NoneNamed : List Endpoint → EpName → Type 0
NoneNamed xs name = (e : ℕ) (x : Named) → named_in xs e ≡ Some x → is_same_name x.name name ≡ false

pub search : (xs : List Endpoint) (name : EpName) → HasNamed xs name ⊎ NoneNamed xs name
search [] name = inr none
  where
    none : NoneNamed [] name
    none zero x is = absurd cc
    none (suc e) x is = absurd cc
search (y ∷ ys) name = by_first (is_same_name y.desc.name name) refl (search ys name)
  where
    by_first : (b : Bool) → is_same_name y.desc.name name ≡ b → HasNamed ys name ⊎ NoneNamed ys name → HasNamed (y ∷ ys) name ⊎ NoneNamed (y ∷ ys) name
    by_first true is later = inl (record { number = 0; endpoint = y; here = refl; same = same_name_is y.desc.name name is })
    by_first false is (inl k) = inl (record { number = suc k.number; endpoint = k.endpoint; here = k.here; same = k.same })
    by_first false is (inr none) = inr others
      where
        others : NoneNamed (y ∷ ys) name
        others zero x there = ap (λ (z : Named). is_same_name z.name name) (sym (same_Some (named_of y) x there)) ∙ is
        others (suc e) x there = none e x there

-- ---- a driver finds it

got : (xs : List Endpoint) (k : ℕ) (d : Endpoint) → k < length xs → slice_get xs k ≡ Some (get_or xs k d)
got [] k d less = absurd (omega (arith, less))
got (x ∷ xs) zero d less = refl
got (x ∷ xs) (suc k) d less = got xs k d (omega (arith, less))

pub named_is : (d : DriverContent) (name : EpName) (k : HasNamed d.endpoints name) → ((i : ℕ) (y : Endpoint) → slice_get d.endpoints i ≡ Some y → is_same_name y.desc.name name ≡ true → i ≡ k.number) → endpoint_named d name ≡ Some k.endpoint
named_is d name k apart = ap (λ (o : Option ℕ). option_and_then (λ e. slice_get d.endpoints e) o) found ∙ k.here
  where
    within : k.number < length d.endpoints
    within = slice_get_within d.endpoints k.number k.endpoint k.here

    test : Endpoint → Bool
    test y = is_driver_name y.desc.name name

    not_by : (i : ℕ) (b : Bool) → i < k.number → is_driver_name (get_or d.endpoints i k.endpoint).desc.name name ≡ b → b ≡ false
    not_by i false less is = refl
    not_by i true less is =
        let at : slice_get d.endpoints i ≡ Some (get_or d.endpoints i k.endpoint) = got d.endpoints i k.endpoint (let w : k.number < length d.endpoints = slice_get_within d.endpoints k.number k.endpoint k.here in omega (arith, less, w)) in
        let same : i ≡ k.number = apart i (get_or d.endpoints i k.endpoint) at (sym (driver_name (get_or d.endpoints i k.endpoint).desc.name name) ∙ is) in
        absurd (omega (arith, less, same))

    passes : is_driver_name (get_or d.endpoints k.number k.endpoint).desc.name name ≡ true
    passes =
        ap (λ (y : Endpoint). is_driver_name y.desc.name name) (get_or_from_slice_get d.endpoints k.number k.endpoint k.endpoint k.here) ∙ driver_name k.endpoint.desc.name name
        ∙ ap (λ (n : EpName). is_same_name n name) k.same ∙ name_is_same name

    first : position_or_len (λ (y : Endpoint). is_driver_name y.desc.name name) d.endpoints ≡ k.number
    first =
        position_or_len_is (λ (y : Endpoint). is_driver_name y.desc.name name) d.endpoints k.number k.endpoint (let w : k.number < length d.endpoints = within in omega (arith, w))
        (λ i less. not_by i (is_driver_name (get_or d.endpoints i k.endpoint).desc.name name) less refl) (λ less. passes)

    found : position (λ (y : Endpoint). is_driver_name y.desc.name name) d.endpoints ≡ Some k.number
    found =
        ap (λ (i : ℕ). cond (nat_lt i (length d.endpoints)) (Some i) None) first ∙ ap (λ (b : Bool). cond b (Some k.number) None) (is_less k.number (length d.endpoints) within)

-- ---- the lines that close its report

waiting_by : (name other : EpName) (k : ℕ) (b : Bool) → nat_lt 0 k ≡ b → (b ≡ true → is_same_name other name ≡ false) → list_any (is_pending name) (waiting_closing other k) ≡ false
waiting_by name other k true is none = ap (λ (b : Bool). list_any (is_pending name) (if b then Pending other k ∷ [] else [])) is ∙ ap (λ (b : Bool). b || false) (none refl)
waiting_by name other k false is none = ap (λ (b : Bool). list_any (is_pending name) (if b then Pending other k ∷ [] else [])) is

device_none : (name : EpName) (way : Way) (kind : EpKind) (other : EpName) (d : Device) → list_any (is_pending name) (device_closing way kind other d) ≡ false
device_none name Ways.Out Kinds.Bulk other d = refl
device_none name Ways.Out Kinds.Interrupt other d = refl
device_none name Ways.Out Kinds.Control other d = refl
device_none name Ways.Out Kinds.Iso other d = refl
device_none name Ways.Ctl kind other d = refl
device_none name Ways.In kind other d = refl

told_none : (name : EpName) (s : Seat) (o : Option Device) (h : Option HubContent) → list_any (is_pending name) (told_closing s o h) ≡ false
told_none name s None None = refl
told_none name s None (Some h) = refl
told_none name s (Some d) h = device_none name s.name.way s.kind s.name d

module _ (w : World) (name : EpName) (over : is_none (ended w.driver name) ≡ false) where
  none_waits : (other : EpName) → is_same_name other name ≡ true → nat_lt 0 (waiting w.driver other) ≡ false
  none_waits other same =
      ap (λ (n : EpName). nat_lt 0 (waiting w.driver n)) (same_name_is other name same) ∙ ap (λ (b : Bool). nat_lt 0 (if b then pending w.driver name else 0)) over

  waiting_none : (other : EpName) → list_any (is_pending name) (waiting_closing other (waiting w.driver other)) ≡ false
  waiting_none other = waiting_by name other (waiting w.driver other) (nat_lt 0 (waiting w.driver other)) refl (λ some. differs (is_same_name other name) refl some)
    where
      differs : (b : Bool) → is_same_name other name ≡ b → nat_lt 0 (waiting w.driver other) ≡ true → b ≡ false
      differs true is some = absurd (false≢true (sym (none_waits other is) ∙ some))
      differs false is some = refl

  seat_none : (s : Seat) (b : Bool) → list_any (is_pending name) (if b then opened_closings w s else []) ≡ false
  seat_none s false = refl
  seat_none s true =
      list_any-append (is_pending name) (waiting_closing s.name (waiting w.driver s.name)) (told_closing s (find (λ d. d.address == s.name.addr) w.bus.devices) (hub_of w.bus s.name))
      ∙ none_late (list_any (is_pending name) (waiting_closing s.name (waiting w.driver s.name)))
      (list_any (is_pending name) (told_closing s (find (λ d. d.address == s.name.addr) w.bus.devices) (hub_of w.bus s.name)))
      (waiting_none s.name) (told_none name s (find (λ d. d.address == s.name.addr) w.bus.devices) (hub_of w.bus s.name))

  seats_none : (seats : List Seat) → list_any (is_pending name) (flat_map (seat_closings w) seats) ≡ false
  seats_none [] = refl
  seats_none (s ∷ ss) =
      list_any-append (is_pending name) (seat_closings w s) (flat_map (seat_closings w) ss)
      ∙ none_late (list_any (is_pending name) (seat_closings w s)) (list_any (is_pending name) (flat_map (seat_closings w) ss))
      (seat_none s (opened w.driver s.name)) (seats_none ss)

  pub none_pending : (fixed : Fixed) → list_any (is_pending name) (closings_of fixed w) ≡ false
  none_pending fixed = seats_none fixed.seats
