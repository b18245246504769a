-- The high-speed bus is a bus of the same laws for the ends of all pipes: one whose device is below a hub hears no plain ask.
use Rattle.std.proofs.Common.{◌≡◌, ℕ, Bool, true, List, slice_get, Option, Some, None, refl, sym, subst, ap, ◌∙◌, ◌⊎◌, inl, inr}
use Rattle.std.proofs.lemmas.Option.{same_Some}
use Rattle.usb_base.specs.declared.packets.Ask.{Ask}
use Rattle.usb_base.specs.declared.packets.Pid.{Pid}
use Rattle.usb_base.specs.declared.packets.Pid.TheVariants as Pids
use Rattle.usb_base.specs.declared.packets.Reply.{Reply}
use Rattle.usb_base.specs.declared.packets.Reply.TheVariants.{Silent}
use Rattle.usb_base.specs.declared.packets.Split.{Split}
use Rattle.usb_base.specs.declared.packets.Split.TheVariants.{Plain, Start, Complete}
use Rattle.endpoint_script.specs.Device.{Device}
use Rattle.bus_wire.specs.declared.asked.Answerer.{Answerer}
use Rattle.bus_wire.specs.declared.asked.Answerer.TheVariants as Answerers
use Rattle.bus_wire.specs.declared.asked.Asked.{Asked}
use Rattle.bus_wire.specs.declared.who_heard.WhoHeard.{WhoHeard}
use Rattle.bus_wire.specs.declared.seats.Owner.{Owner}
use Rattle.bus_wire.specs.declared.seats.Owner.TheVariants as Owners
use Rattle.bus_wire.specs.declared.seats.TokenKind.TheVariants as Tokens
use Rattle.bus_wire.specs.Fixed.{Fixed}
use Rattle.bus_wire.specs.Seats.{token_kind, place_for}
use Rattle.bus_wire.specs.Bus.{Bus, Wired, hears, hears_plain, asked_of, bus_row, changed_by, after_at, transact_after}
use Rattle.law_ring.specs.Bus.{Sender, IsStreamAsk, HasAnswered, nothing_heard}
use Rattle.law_ring.specs.OutBus.{Taker, IsOutAsk, HasTaken, nothing_taken}
use Rattle.law_devices.specs.Senders.{sender_of_device, sender_of}
use Rattle.law_devices.specs.scripted_takers.Takers.{taker_of_device, taker_of}
use Rattle.law_devices.specs.scripted_requests.Controls.{transacts_by}
use Rattle.law_devices.proofs.Asking.{a_scripted_bus_sends_its_streams, sender_through, who_place, plain_only}
use Rattle.law_devices.proofs.lemmas.scripted_takers.Asking.{a_scripted_bus_takes_its_streams, taker_through}
use Rattle.law_below_hubs.specs.Seated.{device_place, end_in, sender_at, taker_at}
use Rattle.law_below_hubs.specs.Buses.{SendersAbove, TakersAbove}
use Rattle.law_below_hubs.proofs.Moves.{DevicesMove, moves_high, unheard_high}
use Rattle.law_below_hubs.proofs.Seating.{IsSeated, seated, seated_through, others_stay, senders_stay, takers_stay}

-- a plain ask is heard by a device of the high-speed bus, or by nobody
pub high_or_not : (owner : Owner) (n : ℕ) → device_place owner ≡ Some n → (owner ≡ Owners.High n) ⊎ (hears_plain owner ≡ Answerers.Nobody)
high_or_not (Owners.High device) n is = inl (ap (λ (m : ℕ). Owners.High m) (same_Some device n is))
high_or_not (Owners.Hub place) n is = absurd cc
high_or_not (Owners.Below device hub port stuff) n is = inr refl

-- a split transaction asks no device
who_split : (b : Bus) (split : Split) (owner : Owner) (row : WhoHeard) (who : Answerer) (ask : Ask) (out : List ℕ)
    → who ≡ hears b split owner → (split ≡ Plain → ⊥)
    → (changed_by row who ask out b).devices ≡ b.devices
who_split b split owner row (Answerers.Device n) ask out is not_plain = absurd (not_plain (plain_only b split owner n (sym is)))
who_split b split owner row (Answerers.Hub n) ask out is not_plain = refl
who_split b split owner row (Answerers.Translator n stuff) ask out is not_plain = refl
who_split b split owner row Answerers.Nobody ask out is not_plain = refl

split_by : (fixed : Fixed) (b : Bus) (ask : Ask) (out : List ℕ) (o : Option Asked) → asked_of fixed b ask ≡ o → (ask.split ≡ Plain → ⊥)
    → (after_at fixed b ask out o).devices ≡ b.devices
split_by fixed b ask out None is not_plain = refl
split_by fixed b ask out (Some e) is not_plain =
    let k = who_place fixed b ask.split (place_for fixed.seats ask.addr ask.ep (token_kind ask.pid)) e is in
    who_split b ask.split k.owner (bus_row fixed b e ask out) e.who ask out k.is not_plain

pub split_keeps : (fixed : Fixed) (b : Bus) (ask : Ask) (out : List ℕ) → (ask.split ≡ Plain → ⊥)
    → (transact_after fixed b ask out).devices ≡ b.devices
split_keeps fixed b ask out not_plain = split_by fixed b ask out (asked_of fixed b ask) refl not_plain

sender_asked : (stream : ℕ → ℕ → Bool) (w : Wired) (ask : Ask) (out : List ℕ) (reply : Reply) (v : Wired) (s : Sender)
    → transacts_by w ask out reply v
    → IsStreamAsk stream ask → sender_at w ask.addr ask.ep ≡ Some s → HasAnswered ask s reply (sender_at v ask.addr ask.ep)
sender_asked stream w ask out reply v s made k sent = by (high_or_not h.seat.owner h.n h.owner)
  where
    h : IsSeated sender_of_device Tokens.In w.fixed w.bus.devices ask.addr ask.ep s
    h = seated sender_of_device Tokens.In (λ addr ep. refl) w.fixed w.bus.devices ask.addr ask.ep s sent

    there : (b : Bus) → sender_at (record w { bus = b }) ask.addr ask.ep ≡ sender_of_device ask.addr ask.ep (slice_get b.devices h.n)
    there b = seated_through sender_of_device Tokens.In (λ addr ep. refl) w.fixed w.bus.devices b.devices ask.addr ask.ep s h

    by : (h.seat.owner ≡ Owners.High h.n) ⊎ (hears_plain h.seat.owner ≡ Answerers.Nobody)
        → HasAnswered ask s reply (sender_at v ask.addr ask.ep)
    by (inl high) =
        let same : (b : Bus) → sender_at (record w { bus = b }) ask.addr ask.ep ≡ sender_of (record w { bus = b }) ask.addr ask.ep =
        λ b. there b ∙ sym (sender_through w ask.addr ask.ep h.place h.seat h.n b h.found h.there high) in
        let answered : HasAnswered ask s reply (sender_of v ask.addr ask.ep) =
        (a_scripted_bus_sends_its_streams stream).asked w ask out reply v s made k (sym (same w.bus) ∙ sent) in
        let later : sender_at v ask.addr ask.ep ≡ sender_of v ask.addr ask.ep =
        ap (λ (x : Wired). sender_at x ask.addr ask.ep) made.1 ∙ same (transact_after w.fixed w.bus ask out)
        ∙ sym (ap (λ (x : Wired). sender_of x ask.addr ask.ep) made.1) in
        subst (HasAnswered ask s reply) (sym later) answered
    by (inr none) =
        let found : place_for w.fixed.seats ask.addr ask.ep (token_kind ask.pid) ≡ Some h.place =
        ap (λ (pid : Pid). place_for w.fixed.seats ask.addr ask.ep (token_kind pid)) k.token ∙ h.found in
        let u = unheard_high w.fixed w.bus ask out h.place h.seat found h.there
        (ap (λ (split : Split). hears w.bus split h.seat.owner) k.plain ∙ none) in
        let later : sender_at v ask.addr ask.ep ≡ Some s =
        ap (λ (x : Wired). sender_at x ask.addr ask.ep) made.1 ∙ there (transact_after w.fixed w.bus ask out)
        ∙ ap (λ (ds : List Device). sender_of_device ask.addr ask.ep (slice_get ds h.n)) u.devices ∙ h.is in
        subst (λ (r : Reply). HasAnswered ask s r (sender_at v ask.addr ask.ep)) (sym (made.0 ∙ u.silent))
        (record { sender = s; is = later; answers = nothing_heard Silent refl })

-- another one's device isn't asked about it; where the ask names this one and isn't plain, a translator hears it
sender_beside : (stream : ℕ → ℕ → Bool) (w : Wired) (ask : Ask) (out : List ℕ) (addr ep : ℕ) (s : Sender) → stream addr ep ≡ true
    → sender_at w addr ep ≡ Some s
    → (IsStreamAsk stream ask → (addr ≡ ask.addr) × (ep ≡ ask.ep) → ⊥)
    → sender_at (record w { bus = transact_after w.fixed w.bus ask out }) addr ep ≡ Some s
sender_beside stream w ask out addr ep s on sent other =
    by_split ask.split refl
  where
    moves : DevicesMove ask out w.bus.devices (transact_after w.fixed w.bus ask out).devices
    moves = moves_high w.fixed w.bus ask out

    by_split : (split : Split) → ask.split ≡ split → sender_at (record w { bus = transact_after w.fixed w.bus ask out }) addr ep ≡ Some s
    by_split Plain plain =
        others_stay sender_of_device Tokens.In (λ addr ep. refl)
        (λ (ask : Ask). ask.pid ≡ Pids.In) senders_stay w.fixed addr ep s ask out w.bus.devices
        (transact_after w.fixed w.bus ask out).devices moves sent
        (λ token at. other (record
        { plain = plain; token = token; on = ap (λ (a : ℕ). stream a ask.ep) (sym at.0) ∙ ap (stream addr) (sym at.1) ∙ on }) at)
    by_split (Start hub port part) split =
        ap (λ (ds : List Device). end_in sender_of_device Tokens.In w.fixed ds addr ep)
        (split_keeps w.fixed w.bus ask out (λ plain. let z = sym split ∙ plain in cc)) ∙ sent
    by_split (Complete hub port) split =
        ap (λ (ds : List Device). end_in sender_of_device Tokens.In w.fixed ds addr ep)
        (split_keeps w.fixed w.bus ask out (λ plain. let z = sym split ∙ plain in cc)) ∙ sent

pub senders_above : SendersAbove
senders_above stream = record {
  asked = sender_asked stream;
  others = λ w ask out reply v addr ep s made on sent other. ap (λ (x : Wired). sender_at x addr ep) made.1
      ∙ sender_beside stream w ask out addr ep s on sent other;
}

-- ---- takers

taker_asked : (stream : ℕ → ℕ → Bool) (w : Wired) (ask : Ask) (out : List ℕ) (reply : Reply) (v : Wired) (s : Taker)
    → transacts_by w ask out reply v
    → IsOutAsk stream ask → taker_at w ask.addr ask.ep ≡ Some s → HasTaken ask out s reply (taker_at v ask.addr ask.ep)
taker_asked stream w ask out reply v s made k sent = by (high_or_not h.seat.owner h.n h.owner)
  where
    h : IsSeated taker_of_device Tokens.Out w.fixed w.bus.devices ask.addr ask.ep s
    h = seated taker_of_device Tokens.Out (λ addr ep. refl) w.fixed w.bus.devices ask.addr ask.ep s sent

    there : (b : Bus) → taker_at (record w { bus = b }) ask.addr ask.ep ≡ taker_of_device ask.addr ask.ep (slice_get b.devices h.n)
    there b = seated_through taker_of_device Tokens.Out (λ addr ep. refl) w.fixed w.bus.devices b.devices ask.addr ask.ep s h

    by : (h.seat.owner ≡ Owners.High h.n) ⊎ (hears_plain h.seat.owner ≡ Answerers.Nobody)
        → HasTaken ask out s reply (taker_at v ask.addr ask.ep)
    by (inl high) =
        let same : (b : Bus) → taker_at (record w { bus = b }) ask.addr ask.ep ≡ taker_of (record w { bus = b }) ask.addr ask.ep =
        λ b. there b ∙ sym (taker_through w ask.addr ask.ep h.place h.seat h.n b h.found h.there high) in
        let answered : HasTaken ask out s reply (taker_of v ask.addr ask.ep) =
        (a_scripted_bus_takes_its_streams stream).asked w ask out reply v s made k (sym (same w.bus) ∙ sent) in
        let later : taker_at v ask.addr ask.ep ≡ taker_of v ask.addr ask.ep =
        ap (λ (x : Wired). taker_at x ask.addr ask.ep) made.1 ∙ same (transact_after w.fixed w.bus ask out)
        ∙ sym (ap (λ (x : Wired). taker_of x ask.addr ask.ep) made.1) in
        subst (HasTaken ask out s reply) (sym later) answered
    by (inr none) =
        let found : place_for w.fixed.seats ask.addr ask.ep (token_kind ask.pid) ≡ Some h.place =
        ap (λ (pid : Pid). place_for w.fixed.seats ask.addr ask.ep (token_kind pid)) k.token ∙ h.found in
        let u = unheard_high w.fixed w.bus ask out h.place h.seat found h.there
        (ap (λ (split : Split). hears w.bus split h.seat.owner) k.plain ∙ none) in
        let later : taker_at v ask.addr ask.ep ≡ Some s =
        ap (λ (x : Wired). taker_at x ask.addr ask.ep) made.1 ∙ there (transact_after w.fixed w.bus ask out)
        ∙ ap (λ (ds : List Device). taker_of_device ask.addr ask.ep (slice_get ds h.n)) u.devices ∙ h.is in
        subst (λ (r : Reply). HasTaken ask out s r (taker_at v ask.addr ask.ep)) (sym (made.0 ∙ u.silent))
        (record { taker = s; is = later; takes = nothing_taken Silent refl })

-- another one's device isn't asked about it; where the ask names this one and isn't plain, a translator hears it
taker_beside : (stream : ℕ → ℕ → Bool) (w : Wired) (ask : Ask) (out : List ℕ) (addr ep : ℕ) (s : Taker) → stream addr ep ≡ true
    → taker_at w addr ep ≡ Some s
    → (IsOutAsk stream ask → (addr ≡ ask.addr) × (ep ≡ ask.ep) → ⊥)
    → taker_at (record w { bus = transact_after w.fixed w.bus ask out }) addr ep ≡ Some s
taker_beside stream w ask out addr ep s on sent other =
    by_split ask.split refl
  where
    moves : DevicesMove ask out w.bus.devices (transact_after w.fixed w.bus ask out).devices
    moves = moves_high w.fixed w.bus ask out

    by_split : (split : Split) → ask.split ≡ split → taker_at (record w { bus = transact_after w.fixed w.bus ask out }) addr ep ≡ Some s
    by_split Plain plain =
        others_stay taker_of_device Tokens.Out (λ addr ep. refl)
        (λ (ask : Ask). ask.pid ≡ Pids.Out) takers_stay w.fixed addr ep s ask out w.bus.devices
        (transact_after w.fixed w.bus ask out).devices moves sent
        (λ token at. other (record
        { plain = plain; token = token; on = ap (λ (a : ℕ). stream a ask.ep) (sym at.0) ∙ ap (stream addr) (sym at.1) ∙ on }) at)
    by_split (Start hub port part) split =
        ap (λ (ds : List Device). end_in taker_of_device Tokens.Out w.fixed ds addr ep)
        (split_keeps w.fixed w.bus ask out (λ plain. let z = sym split ∙ plain in cc)) ∙ sent
    by_split (Complete hub port) split =
        ap (λ (ds : List Device). end_in taker_of_device Tokens.Out w.fixed ds addr ep)
        (split_keeps w.fixed w.bus ask out (λ plain. let z = sym split ∙ plain in cc)) ∙ sent

pub takers_above : TakersAbove
takers_above stream = record {
  asked = taker_asked stream;
  others = λ w ask out reply v addr ep s made on sent other. ap (λ (x : Wired). taker_at x addr ep) made.1
      ∙ taker_beside stream w ask out addr ep s on sent other;
}
