-- The bus below a hub and the high-speed bus are buses of the same laws for the ends of all pipes.
use Rattle.std.proofs.Common.{◌≡◌, ℕ, Bool, true, false, ◌&&◌, List, slice_get, Some, if◌then◌else◌, refl, sym, subst, ap, ◌∙◌, ◌⊎◌, inl, inr}
use Rattle.std.specs.Prelude.{◌==◌, unwrap_or}
use Rattle.std.specs.Option.{option_map}
use Rattle.std.proofs.lemmas.Option.{same_Some}
use Rattle.usb_base.specs.declared.packets.Ask.{Ask}
use Rattle.usb_base.specs.declared.packets.Pid.{Pid}
use Rattle.usb_base.specs.declared.packets.Pid.TheVariants as Pids
use Rattle.usb_base.specs.declared.packets.Reply.{Reply}
use Rattle.usb_base.specs.declared.packets.Reply.TheVariants.{Silent}
use Rattle.endpoint_script.specs.Device.{Device}
use Rattle.bus_wire.specs.declared.asked.Answerer.{Answerer}
use Rattle.bus_wire.specs.declared.asked.Answerer.TheVariants as Answerers
use Rattle.bus_wire.specs.declared.seats.Owner.{Owner}
use Rattle.bus_wire.specs.declared.seats.Owner.TheVariants as Owners
use Rattle.bus_wire.specs.declared.seats.TokenKind.TheVariants as Tokens
use Rattle.bus_wire.specs.Fixed.{Fixed}
use Rattle.bus_wire.specs.Seats.{token_kind, place_for}
use Rattle.bus_wire.specs.Below.{Below, hears_at, below_after}
use Rattle.law_ring.specs.Bus.{Sender, IsStreamAsk, HasAnswered, nothing_heard}
use Rattle.law_ring.specs.OutBus.{Taker, IsOutAsk, HasTaken, nothing_taken}
use Rattle.law_devices.specs.Senders.{sender_of_device, sender_of_owner, sender_of_seat, sender_of_place}
use Rattle.law_devices.specs.scripted_takers.Takers.{taker_of_device, taker_of_owner, taker_of_seat, taker_of_place}
use Rattle.law_below_hubs.specs.Raised.{raised_to, raised_seat, raised_bus, raised, transacts_below, sender_below, taker_below}
use Rattle.law_below_hubs.specs.Seated.{device_place, end_in, sender_on, taker_on}
use Rattle.law_below_hubs.specs.Buses.{SendersBelow, TakersBelow}
use Rattle.law_below_hubs.proofs.Raising.{place_same, slice_map, senders_below, takers_below}
use Rattle.law_below_hubs.proofs.Moves.{DevicesMove, moves_below, IsSameBelow, stays_below, unheard_below}
use Rattle.law_below_hubs.proofs.Seating.{IsSeated, seated, seated_through, others_stay, senders_stay, takers_stay}

-- ---- whether a device is asked

not_or_asked : (b : Bool) (device : ℕ)
    → ((if b then Answerers.Device device else Answerers.Nobody) ≡ Answerers.Device device) ⊎
    ((if b then Answerers.Device device else Answerers.Nobody) ≡ Answerers.Nobody)
not_or_asked true device = inl refl
not_or_asked false device = inr refl

pub asked_or_not : (w : Below) (owner : Owner) (n : ℕ) → device_place owner ≡ Some n
    → (hears_at w owner ≡ Answerers.Device n) ⊎ (hears_at w owner ≡ Answerers.Nobody)
asked_or_not w (Owners.High device) n is = inr refl
asked_or_not w (Owners.Hub place) n is = inr refl
asked_or_not w (Owners.Below device hub port stuff) n is =
    let e : device ≡ n = same_Some device n is in
    subst (λ (m : ℕ). (hears_at w (Owners.Below device hub port stuff) ≡ Answerers.Device m) ⊎
    (hears_at w (Owners.Below device hub port stuff) ≡ Answerers.Nobody)) e
    (not_or_asked (hub == w.hub && unwrap_or (slice_get w.enabled port) false) device)

pub heard_same : (w v : Below) (owner : Owner) → v.hub ≡ w.hub → v.enabled ≡ w.enabled → hears_at v owner ≡ hears_at w owner
heard_same w v (Owners.High device) hub enabled = refl
heard_same w v (Owners.Hub place) hub enabled = refl
heard_same w v (Owners.Below device own port stuff) hub enabled =
    ap (λ (h : ℕ). if own == h && unwrap_or (slice_get v.enabled port) false then Answerers.Device device else Answerers.Nobody) hub
    ∙ ap (λ (ports : List Bool). if own == w.hub && unwrap_or
    (slice_get ports port) false then Answerers.Device device else Answerers.Nobody) enabled

pub same_below : (w v : Below) (ask : Ask) (out : List ℕ) → v ≡ below_after w ask out → IsSameBelow w v
same_below w v ask out is = subst (λ (x : Below). IsSameBelow w x) (sym is) (stays_below w ask out)

-- ---- senders below

module _ (addr ep : ℕ) (s : Sender) where
  -- an end that is asked is on the bus that this one is told as
  sender_raised : (w v : Below) (h : IsSeated sender_of_device Tokens.In w.fixed w.floor.devices addr ep s) → v.fixed ≡ w.fixed
      → hears_at v h.seat.owner ≡ Answerers.Device h.n
      → sender_below v addr ep ≡ sender_of_device addr ep (slice_get v.floor.devices h.n)
  sender_raised w v h fixed heard =
      ap (sender_of_place (raised v) addr ep)
      (place_same v addr ep Tokens.In ∙ ap (λ (f : Fixed). place_for f.seats addr ep Tokens.In) fixed ∙ h.found)
      ∙ ap (sender_of_seat (raised_bus v) addr ep)
      (slice_map (raised_seat v) v.fixed.seats h.place ∙ ap (λ (f : Fixed). option_map (raised_seat v) (slice_get f.seats h.place)) fixed
      ∙ ap (option_map (raised_seat v)) h.there)
      ∙ ap (λ (who : Answerer). sender_of_owner (raised_bus v) addr ep (raised_to who)) heard

  sender_there : (w v : Below) (h : IsSeated sender_of_device Tokens.In w.fixed w.floor.devices addr ep s) → v.fixed ≡ w.fixed
      → sender_on v addr ep ≡ sender_of_device addr ep (slice_get v.floor.devices h.n)
  sender_there w v h fixed =
      ap (λ (f : Fixed). end_in sender_of_device Tokens.In f v.floor.devices addr ep) fixed
      ∙ seated_through sender_of_device Tokens.In (λ addr ep. refl) w.fixed w.floor.devices v.floor.devices addr ep s h

sender_asked : (stream : ℕ → ℕ → Bool) (w : Below) (ask : Ask) (out : List ℕ) (reply : Reply) (v : Below) (s : Sender)
    → transacts_below w ask out reply v
    → IsStreamAsk stream ask → sender_on w ask.addr ask.ep ≡ Some s → HasAnswered ask s reply (sender_on v ask.addr ask.ep)
sender_asked stream w ask out reply v s made k sent = by (asked_or_not w h.seat.owner h.n h.owner)
  where
    h : IsSeated sender_of_device Tokens.In w.fixed w.floor.devices ask.addr ask.ep s
    h = seated sender_of_device Tokens.In (λ addr ep. refl) w.fixed w.floor.devices ask.addr ask.ep s sent

    stays : IsSameBelow w v
    stays = same_below w v ask out made.after

    by : (hears_at w h.seat.owner ≡ Answerers.Device h.n) ⊎ (hears_at w h.seat.owner ≡ Answerers.Nobody)
        → HasAnswered ask s reply (sender_on v ask.addr ask.ep)
    by (inl heard) =
        let here : sender_below w ask.addr ask.ep ≡ Some s = sender_raised ask.addr ask.ep s w w h refl heard ∙ h.is in
        let later : sender_on v ask.addr ask.ep ≡ sender_below v ask.addr ask.ep =
        sender_there ask.addr ask.ep s w v h stays.fixed
        ∙ sym (sender_raised ask.addr ask.ep s w v h stays.fixed (heard_same w v h.seat.owner stays.hub stays.enabled ∙ heard)) in
        subst (HasAnswered ask s reply) (sym later) ((senders_below stream).asked w ask out reply v s made k here)
    by (inr none) =
        let found : place_for w.fixed.seats ask.addr ask.ep (token_kind ask.pid) ≡ Some h.place =
        ap (λ (pid : Pid). place_for w.fixed.seats ask.addr ask.ep (token_kind pid)) k.token ∙ h.found in
        let u = unheard_below w ask out h.place h.seat found h.there none in
        let same : v.floor.devices ≡ w.floor.devices = ap (λ (x : Below). x.floor.devices) made.after ∙ u.devices in
        let later : sender_on v ask.addr ask.ep ≡ Some s =
        sender_there ask.addr ask.ep s w v h stays.fixed
        ∙ ap (λ (ds : List Device). sender_of_device ask.addr ask.ep (slice_get ds h.n)) same ∙ h.is in
        subst (λ (r : Reply). HasAnswered ask s r (sender_on v ask.addr ask.ep)) (sym (made.heard ∙ u.silent))
        (record { sender = s; is = later; answers = nothing_heard Silent refl })

pub all_senders_below : SendersBelow
all_senders_below stream = record {
  asked = sender_asked stream;
  others = λ w ask out reply v addr ep s made on sent other.
      let stays = same_below w v ask out made.after in
      let moves : DevicesMove ask out w.floor.devices v.floor.devices =
      subst (λ (x : Below). DevicesMove ask out w.floor.devices x.floor.devices) (sym made.after) (moves_below w ask out) in
      ap (λ (f : Fixed). end_in sender_of_device Tokens.In f v.floor.devices addr ep) stays.fixed
      ∙ others_stay sender_of_device Tokens.In (λ addr ep. refl)
      (λ (ask : Ask). ask.pid ≡ Pids.In) senders_stay w.fixed addr ep s ask out w.floor.devices v.floor.devices moves sent
      (λ token at. other (record
      { plain = made.plain; token = token; on = ap (λ (a : ℕ). stream a ask.ep) (sym at.0) ∙ ap (stream addr) (sym at.1) ∙ on }) at);
}

-- ---- takers below

module _ (addr ep : ℕ) (s : Taker) where
  taker_raised : (w v : Below) (h : IsSeated taker_of_device Tokens.Out w.fixed w.floor.devices addr ep s) → v.fixed ≡ w.fixed
      → hears_at v h.seat.owner ≡ Answerers.Device h.n
      → taker_below v addr ep ≡ taker_of_device addr ep (slice_get v.floor.devices h.n)
  taker_raised w v h fixed heard =
      ap (taker_of_place (raised v) addr ep)
      (place_same v addr ep Tokens.Out ∙ ap (λ (f : Fixed). place_for f.seats addr ep Tokens.Out) fixed ∙ h.found)
      ∙ ap (taker_of_seat (raised_bus v) addr ep)
      (slice_map (raised_seat v) v.fixed.seats h.place ∙ ap (λ (f : Fixed). option_map (raised_seat v) (slice_get f.seats h.place)) fixed
      ∙ ap (option_map (raised_seat v)) h.there)
      ∙ ap (λ (who : Answerer). taker_of_owner (raised_bus v) addr ep (raised_to who)) heard

  taker_there : (w v : Below) (h : IsSeated taker_of_device Tokens.Out w.fixed w.floor.devices addr ep s) → v.fixed ≡ w.fixed
      → taker_on v addr ep ≡ taker_of_device addr ep (slice_get v.floor.devices h.n)
  taker_there w v h fixed =
      ap (λ (f : Fixed). end_in taker_of_device Tokens.Out f v.floor.devices addr ep) fixed
      ∙ seated_through taker_of_device Tokens.Out (λ addr ep. refl) w.fixed w.floor.devices v.floor.devices addr ep s h

taker_asked : (stream : ℕ → ℕ → Bool) (w : Below) (ask : Ask) (out : List ℕ) (reply : Reply) (v : Below) (s : Taker)
    → transacts_below w ask out reply v
    → IsOutAsk stream ask → taker_on w ask.addr ask.ep ≡ Some s → HasTaken ask out s reply (taker_on v ask.addr ask.ep)
taker_asked stream w ask out reply v s made k sent = by (asked_or_not w h.seat.owner h.n h.owner)
  where
    h : IsSeated taker_of_device Tokens.Out w.fixed w.floor.devices ask.addr ask.ep s
    h = seated taker_of_device Tokens.Out (λ addr ep. refl) w.fixed w.floor.devices ask.addr ask.ep s sent

    stays : IsSameBelow w v
    stays = same_below w v ask out made.after

    by : (hears_at w h.seat.owner ≡ Answerers.Device h.n) ⊎ (hears_at w h.seat.owner ≡ Answerers.Nobody)
        → HasTaken ask out s reply (taker_on v ask.addr ask.ep)
    by (inl heard) =
        let here : taker_below w ask.addr ask.ep ≡ Some s = taker_raised ask.addr ask.ep s w w h refl heard ∙ h.is in
        let later : taker_on v ask.addr ask.ep ≡ taker_below v ask.addr ask.ep =
        taker_there ask.addr ask.ep s w v h stays.fixed
        ∙ sym (taker_raised ask.addr ask.ep s w v h stays.fixed (heard_same w v h.seat.owner stays.hub stays.enabled ∙ heard)) in
        subst (HasTaken ask out s reply) (sym later) ((takers_below stream).asked w ask out reply v s made k here)
    by (inr none) =
        let found : place_for w.fixed.seats ask.addr ask.ep (token_kind ask.pid) ≡ Some h.place =
        ap (λ (pid : Pid). place_for w.fixed.seats ask.addr ask.ep (token_kind pid)) k.token ∙ h.found in
        let u = unheard_below w ask out h.place h.seat found h.there none in
        let same : v.floor.devices ≡ w.floor.devices = ap (λ (x : Below). x.floor.devices) made.after ∙ u.devices in
        let later : taker_on v ask.addr ask.ep ≡ Some s =
        taker_there ask.addr ask.ep s w v h stays.fixed
        ∙ ap (λ (ds : List Device). taker_of_device ask.addr ask.ep (slice_get ds h.n)) same ∙ h.is in
        subst (λ (r : Reply). HasTaken ask out s r (taker_on v ask.addr ask.ep)) (sym (made.heard ∙ u.silent))
        (record { taker = s; is = later; takes = nothing_taken Silent refl })

pub all_takers_below : TakersBelow
all_takers_below stream = record {
  asked = taker_asked stream;
  others = λ w ask out reply v addr ep s made on sent other.
      let stays = same_below w v ask out made.after in
      let moves : DevicesMove ask out w.floor.devices v.floor.devices =
      subst (λ (x : Below). DevicesMove ask out w.floor.devices x.floor.devices) (sym made.after) (moves_below w ask out) in
      ap (λ (f : Fixed). end_in taker_of_device Tokens.Out f v.floor.devices addr ep) stays.fixed
      ∙ others_stay taker_of_device Tokens.Out (λ addr ep. refl)
      (λ (ask : Ask). ask.pid ≡ Pids.Out) takers_stay w.fixed addr ep s ask out w.floor.devices v.floor.devices moves sent
      (λ token at. other (record
      { plain = made.plain; token = token; on = ap (λ (a : ℕ). stream a ask.ep) (sym at.0) ∙ ap (stream addr) (sym at.1) ∙ on }) at);
}
