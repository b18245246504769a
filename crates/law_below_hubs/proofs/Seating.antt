-- An end of a pipe wherever its seat is: it is of its device, which a transaction for another endpoint leaves.
use Rattle.std.proofs.Common.{◌≡◌, ◌≢◌, ℕ, List, slice_get, slice_set, Option, Some, None, refl, sym, subst, ap, ◌∙◌, ⊎_elim}
use Rattle.std.specs.Option.{option_and_then}
use Rattle.std.proofs.lemmas.Bool.{cases_eq}
use Rattle.std.proofs.lemmas.Option.{same_Some}
use Rattle.usb_base.specs.declared.packets.Ask.{Ask}
use Rattle.usb_base.specs.declared.packets.Pid.TheVariants as Pids
use Rattle.usb_base.specs.declared.packets.Way.TheVariants as Ways
use Rattle.endpoint_script.specs.Device.{Device, endpoint_asked}
use Rattle.bus_wire.specs.declared.seats.Seat.{Seat}
use Rattle.bus_wire.specs.declared.seats.TokenKind.{TokenKind}
use Rattle.bus_wire.specs.declared.seats.TokenKind.TheVariants as Tokens
use Rattle.bus_wire.specs.declared.who_heard.WhoHeard.{WhoHeard}
use Rattle.bus_wire.specs.Fixed.{Fixed}
use Rattle.bus_wire.specs.Seats.{place_for}
use Rattle.bus_wire.specs.Asking.{device_after, put_at, changed_at}
use Rattle.law_ring.specs.Bus.{Sender}
use Rattle.law_devices.specs.Senders.{sender_of_part, sender_of_device}
use Rattle.law_devices.specs.scripted_takers.Takers.{taker_of_device}
use Rattle.law_devices.proofs.Places.{set_here, set_beside}
use Rattle.law_devices.proofs.Devices.{device_changes, address_after, of_in}
use Rattle.law_devices.proofs.Asking.{IsAtDevice, device_found, device_sender}
use Rattle.law_devices.proofs.lemmas.scripted_takers.Asking as Takers
use Rattle.law_below_hubs.specs.Seated.{device_place, EndOf, end_seated, end_placed, end_in}
use Rattle.law_below_hubs.proofs.Moves.{DevicesMove, same, moved}

-- ---- where it sits

pub record IsSeated {X : Type 0} (of_device : EndOf X) (token : TokenKind) (fixed : Fixed) (devices : List Device) (addr ep : ℕ)
    (s : X) : Type 0 where
  pub place : ℕ
  pub found : place_for fixed.seats addr ep token ≡ Some place
  pub seat : Seat
  pub there : slice_get fixed.seats place ≡ Some seat
  pub n : ℕ
  pub owner : device_place seat.owner ≡ Some n
  pub is : of_device addr ep (slice_get devices n) ≡ Some s

module _ {X : Type 0} (of_device : EndOf X) (token : TokenKind) (nowhere : (addr ep : ℕ) → of_device addr ep None ≡ None) where
  none_some : {s : X} {P : Type 0} → None ≡ Some s → P
  none_some e = absurd cc

  device_by : (fixed : Fixed) (devices : List Device) (addr ep : ℕ) (s : X) (place : ℕ) (seat : Seat) (o : Option ℕ)
      → place_for fixed.seats addr ep token ≡ Some place → slice_get fixed.seats place ≡ Some seat → device_place seat.owner ≡ o
      → of_device addr ep (option_and_then (λ n. slice_get devices n) o) ≡ Some s → IsSeated of_device token fixed devices addr ep s
  device_by fixed devices addr ep s place seat None found there owner is = none_some (sym (nowhere addr ep) ∙ is)
  device_by fixed devices addr ep s place seat (Some n) found there owner is =
      record { place = place; found = found; seat = seat; there = there; n = n; owner = owner; is = is }

  seat_by : (fixed : Fixed) (devices : List Device) (addr ep : ℕ) (s : X) (place : ℕ) (o : Option Seat)
      → place_for fixed.seats addr ep token ≡ Some place → slice_get fixed.seats place ≡ o → end_seated of_device devices addr ep o ≡ Some s
      → IsSeated of_device token fixed devices addr ep s
  seat_by fixed devices addr ep s place None found there is = none_some is
  seat_by fixed devices addr ep s place (Some seat) found there is =
      device_by fixed devices addr ep s place seat (device_place seat.owner) found there refl is

  place_by : (fixed : Fixed) (devices : List Device) (addr ep : ℕ) (s : X) (o : Option ℕ) → place_for fixed.seats addr ep token ≡ o
      → end_placed of_device fixed devices addr ep o ≡ Some s → IsSeated of_device token fixed devices addr ep s
  place_by fixed devices addr ep s None found is = none_some is
  place_by fixed devices addr ep s (Some place) found is = seat_by fixed devices addr ep s place (slice_get fixed.seats place) found refl is

  pub seated : (fixed : Fixed) (devices : List Device) (addr ep : ℕ) (s : X) → end_in of_device token fixed devices addr ep ≡ Some s
      → IsSeated of_device token fixed devices addr ep s
  seated fixed devices addr ep s is = place_by fixed devices addr ep s (place_for fixed.seats addr ep token) refl is

  -- with other devices it depends on its own alone
  pub seated_through : (fixed : Fixed) (devices new : List Device) (addr ep : ℕ) (s : X)
      (h : IsSeated of_device token fixed devices addr ep s)
      → end_in of_device token fixed new addr ep ≡ of_device addr ep (slice_get new h.n)
  seated_through fixed devices new addr ep s h =
      ap (end_placed of_device fixed new addr ep) h.found
      ∙ ap (end_seated of_device new addr ep) h.there
      ∙ ap (λ (o : Option ℕ). of_device addr ep (option_and_then (λ n. slice_get new n) o)) h.owner

  -- ---- what a transaction for another endpoint leaves

  abbrev pub StaysBeside : (Ask → Type 0) → Type 0
  StaysBeside for_it = (devices : List Device) (n addr ep : ℕ) (s : X) (m : ℕ) (row : WhoHeard) (ask : Ask) (out : List ℕ)
      → of_device addr ep (slice_get devices n) ≡ Some s
      → (for_it ask → (addr ≡ ask.addr) × (ep ≡ ask.ep) → ⊥)
      → of_device addr ep (slice_get (changed_at m (device_after row ask out) devices) n) ≡ Some s

  pub others_stay : (for_it : Ask → Type 0) → StaysBeside for_it
      → (fixed : Fixed) (addr ep : ℕ) (s : X) (ask : Ask) (out : List ℕ) (old new : List Device)
      → DevicesMove ask out old new → end_in of_device token fixed old addr ep ≡ Some s
      → (for_it ask → (addr ≡ ask.addr) × (ep ≡ ask.ep) → ⊥)
      → end_in of_device token fixed new addr ep ≡ Some s
  others_stay for_it stays fixed addr ep s ask out old _ same is other = is
  others_stay for_it stays fixed addr ep s ask out old _ (moved m row) is other =
      let h = seated fixed old addr ep s is in
      seated_through fixed old (changed_at m (device_after row ask out) old) addr ep s h ∙ stays old h.n addr ep s m row ask out h.is other

-- ---- senders

abbrev pub IsIn : Ask → Type 0
IsIn ask = ask.pid ≡ Pids.In

sender_kept : (d : Device) (addr ep : ℕ) (s : Sender) (row : WhoHeard) (ask : Ask) (out : List ℕ)
    → sender_of_device addr ep (Some d) ≡ Some s
    → (IsIn ask → (addr ≡ ask.addr) × (ep ≡ ask.ep) → ⊥) → sender_of_device addr ep (Some (device_after row ask out d)) ≡ Some s
sender_kept d addr ep s row ask out is other =
    let at : IsAtDevice addr ep (Some d) s = device_found addr ep (Some d) s is in
    let own : at.device ≡ d = sym (same_Some d at.device at.is) in
    subst (λ (x : Device). sender_of_device addr ep (Some (device_after row ask out x)) ≡ Some s) own
    (let e = at.at in
    let k = device_changes row at.device ask out in
    let not_here : endpoint_asked at.device ask ≡ Some e.place → ⊥ = λ here.
    let i = of_in at.device ask ep e.place e.endpoint e.is e.here here in
    other i.token (at.address ∙ sym i.address, i.number) in
    device_sender (device_after row ask out at.device) addr ep e.place e.endpoint (at.address ∙ sym (address_after row at.device ask out))
    (k.names ep Ways.In ∙ e.is) (k.others e.place not_here ∙ e.here)
    ∙ ap sender_of_part e.part.is ∙ ap (λ (x : Sender). Some x) (sym e.part.sender))

sender_put : (devices : List Device) (n addr ep : ℕ) (s : Sender) (m : ℕ) (row : WhoHeard) (ask : Ask) (out : List ℕ) (o : Option Device)
    → slice_get devices m ≡ o
    → sender_of_device addr ep (slice_get devices n) ≡ Some s → (IsIn ask → (addr ≡ ask.addr) × (ep ≡ ask.ep) → ⊥)
    → sender_of_device addr ep (slice_get (put_at o m (device_after row ask out) devices) n) ≡ Some s
sender_put devices n addr ep s m row ask out None there is other = is
sender_put devices n addr ep s m row ask out (Some x) there is other =
    ⊎_elim (λ (same : n ≡ m).
    let here : slice_get devices n ≡ Some x = ap (slice_get devices) same ∙ there in
    ap (λ (i : ℕ). sender_of_device addr ep (slice_get (slice_set devices m (device_after row ask out x)) i)) same
    ∙ ap (sender_of_device addr ep) (set_here devices m x (device_after row ask out x) there)
    ∙ sender_kept x addr ep s row ask out (sym (ap (sender_of_device addr ep) here) ∙ is) other)
    (λ (differs : n ≢ m). ap (sender_of_device addr ep) (set_beside devices m n (device_after row ask out x) differs) ∙ is) (cases_eq n m)

pub senders_stay : StaysBeside sender_of_device Tokens.In (λ addr ep. refl) IsIn
senders_stay devices n addr ep s m row ask out is other = sender_put devices n addr ep s m row ask out (slice_get devices m) refl is other

-- ---- takers

abbrev pub IsOut : Ask → Type 0
IsOut ask = ask.pid ≡ Pids.Out

pub takers_stay : StaysBeside taker_of_device Tokens.Out (λ addr ep. refl) IsOut
takers_stay devices n addr ep s m row ask out is other =
    let at = Takers.device_found addr ep (slice_get devices n) s is in
    Takers.put_stays devices n addr ep s at row ask out m (slice_get devices m) refl
    (λ same for_it out_is. other out_is (at.address ∙ sym for_it.address, for_it.number))
