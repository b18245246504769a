-- A transaction on the bus below a hub is one on the bus that it is told as.
use Rattle.std.proofs.Common.{◌≡◌, ℕ, zero, suc, ◌+◌, ◌-◌, ◌||◌, Bool, true, false, ◌&&◌, not, List, [], ◌∷◌, map, filter, slice_get, slice_set, Option, Some, None, if◌then◌else◌, refl, sym, ap, ◌∙◌}
use Rattle.std.specs.Prelude.{position, length, cond, nat_lt, ◌==◌, unwrap_or}
use Rattle.std.specs.List.{list_any, prefix_len}
use Rattle.std.specs.Option.{option_and_then, option_map}
use Rattle.usb_base.specs.declared.endpoints.EpName.{EpName}
use Rattle.usb_base.specs.declared.packets.Ask.{Ask}
use Rattle.usb_base.specs.declared.packets.Reply.{Reply}
use Rattle.usb_base.specs.declared.packets.Split.{Split}
use Rattle.usb_base.specs.declared.packets.Split.TheVariants.{Plain}
use Rattle.script_types.specs.declared.scripts.FateText.{FateText}
use Rattle.bus_wire.specs.declared.asked.Answerer.{Answerer}
use Rattle.bus_wire.specs.declared.asked.Answerer.TheVariants as Answerers
use Rattle.bus_wire.specs.declared.asked.Asked.{Asked}
use Rattle.bus_wire.specs.declared.asked.Losses.{Losses}
use Rattle.bus_wire.specs.declared.seats.Owner.{Owner}
use Rattle.bus_wire.specs.declared.seats.Owner.TheVariants as Owners
use Rattle.bus_wire.specs.declared.seats.Seat.{Seat}
use Rattle.bus_wire.specs.declared.seats.TokenKind.{TokenKind}
use Rattle.bus_wire.specs.declared.who_heard.WhoHeard.{WhoHeard}
use Rattle.bus_wire.specs.Fates.{is_against, is_bad, is_same_name, bad_numbers}
use Rattle.bus_wire.specs.Fixed.{Fixed}
use Rattle.bus_wire.specs.Seats.{token_kind, suits, place_for}
use Rattle.bus_wire.specs.WhoHeard.{asker_hears, packets_before, later}
use Rattle.bus_wire.specs.Asking.{losses_of, row_for, packet_after}
use Rattle.bus_wire.specs.Below.{Below, hears_at, asked_below_at, asked_below, floor_answer, below_row, devices_after, below_reply_at, below_reply, below_after_at, below_after}
use Rattle.bus_wire.specs.Bus.{Bus, hears_plain, asked_at, asked_of, answer_by, bus_row, changed_by, after_bus_row, reply_at, reply_of, after_at, transact_after}
use Rattle.law_ring.specs.Bus.{IsBus}
use Rattle.law_ring.specs.OutBus.{IsOutBus}
use Rattle.law_devices.specs.request_calls.Bus.{IsControlBus}
use Rattle.law_devices.specs.scripted_requests.Controls.{transacts_by}
use Rattle.law_devices.proofs.Asking.{a_scripted_bus_sends_its_streams}
use Rattle.law_devices.proofs.lemmas.scripted_takers.Asking.{a_scripted_bus_takes_its_streams}
use Rattle.law_devices.proofs.lemmas.scripted_requests.Asking.{a_scripted_bus_answers_by_stages}
use Rattle.law_below_hubs.specs.Raised.{raised_to, raised_seat, raised_fate, raised_fixed, raised_bus, raised, transacts_below, sender_below, taker_below, control_below}

-- ---- lists

prefix_map : {A B : Type 0} (p : B → Bool) (f : A → B) (xs : List A) → prefix_len p (map f xs) ≡ prefix_len (λ (x : A). p (f x)) xs
prefix_map p f [] = refl
prefix_map p f (x ∷ xs) = ap (λ (n : ℕ). cond (p (f x)) (1 + n) 0) (prefix_map p f xs)

length_map : {A B : Type 0} (f : A → B) (xs : List A) → length (map f xs) ≡ length xs
length_map f [] = refl
length_map f (x ∷ xs) = ap suc (length_map f xs)

place_by : ℕ → ℕ → Option ℕ
place_by n size = cond (nat_lt n size) (Some n) None

position_map : {A B : Type 0} (p : B → Bool) (f : A → B) (xs : List A) → position p (map f xs) ≡ position (λ (x : A). p (f x)) xs
unfolding place_by
position_map p f xs =
    ap (λ (n : ℕ). place_by n (length (map f xs))) (prefix_map (λ (y : _). not (p y)) f xs)
    ∙ ap (λ (n : ℕ). place_by (prefix_len (λ (x : _). not (p (f x))) xs) n) (length_map f xs)

pub slice_map : {A B : Type 0} (f : A → B) (xs : List A) (i : ℕ) → slice_get (map f xs) i ≡ option_map f (slice_get xs i)
slice_map f [] i = refl
slice_map f (x ∷ xs) zero = refl
slice_map f (x ∷ xs) (suc i) = slice_map f xs i

-- ---- who is asked

owner_heard : (w : Below) (device hub port stuff : ℕ) (b : Bool)
    → hears_plain (raised_to (if b then Answerers.Device device else Answerers.Nobody))
    ≡ (if b then Answerers.Device device else Answerers.Nobody)
owner_heard w device hub port stuff true = refl
owner_heard w device hub port stuff false = refl

who_heard : (w : Below) (owner : Owner) → hears_plain (raised_to (hears_at w owner)) ≡ hears_at w owner
who_heard w (Owners.High device) = refl
who_heard w (Owners.Hub place) = refl
who_heard w (Owners.Below device hub port stuff) =
    owner_heard w device hub port stuff (hub == w.hub && unwrap_or (slice_get w.enabled port) false)

pub place_same : (w : Below) (addr ep : ℕ) (kind : TokenKind)
    → place_for (raised_fixed w).seats addr ep kind ≡ place_for w.fixed.seats addr ep kind
place_same w addr ep kind = position_map (λ (s : Seat). suits s.name addr ep kind) (raised_seat w) w.fixed.seats

abbrev asked_as : Below → ℕ → Seat → Answerer → Option ℕ → Option Asked
asked_as w place seat who o = option_map (λ (packet : ℕ). record { place = place; name = seat.name; packet = packet; who = who }) o

seat_asked : (w : Below) (place : ℕ) (o : Option Seat)
    → option_and_then (λ (seat : Seat). asked_as w place seat (hears_plain seat.owner) (slice_get w.floor.numbers place))
    (option_map (raised_seat w) o)
    ≡ option_and_then (λ (seat : Seat). asked_as w place seat (hears_at w seat.owner) (slice_get w.floor.numbers place)) o
seat_asked w place None = refl
seat_asked w place (Some seat) =
    ap (λ (who : Answerer). asked_as w place seat who (slice_get w.floor.numbers place)) (who_heard w seat.owner)

place_asked : (w : Below) (place : ℕ) → asked_at (raised_fixed w) (raised_bus w) Plain place ≡ asked_below_at w place
place_asked w place =
    ap (λ (o : Option Seat). option_and_then
    (λ (seat : Seat). asked_as w place seat (hears_plain seat.owner) (slice_get w.floor.numbers place)) o)
    (slice_map (raised_seat w) w.fixed.seats place)
    ∙ seat_asked w place (slice_get w.fixed.seats place)

and_then_same : (f g : ℕ → Option Asked) (o : Option ℕ) → ((n : ℕ) → f n ≡ g n) → option_and_then f o ≡ option_and_then g o
and_then_same f g None same = refl
and_then_same f g (Some n) same = same n

ask_same : (w : Below) (ask : Ask) → ask.split ≡ Plain → asked_of (raised_fixed w) (raised_bus w) ask ≡ asked_below w ask
ask_same w ask plain =
    ap (λ (split : Split). option_and_then (asked_at (raised_fixed w) (raised_bus w) split)
    (place_for (raised_fixed w).seats ask.addr ask.ep (token_kind ask.pid))) plain
    ∙ ap (option_and_then (asked_at (raised_fixed w) (raised_bus w) Plain)) (place_same w ask.addr ask.ep (token_kind ask.pid))
    ∙ and_then_same (asked_at (raised_fixed w) (raised_bus w) Plain) (asked_below_at w)
    (place_for w.fixed.seats ask.addr ask.ep (token_kind ask.pid)) (place_asked w)

-- ---- which packets are lost

against_same : (name : EpName) (f : FateText) → is_against name false (raised_fate f) ≡ is_against name true f
against_same name f = ap (λ (b : Bool). b && (is_bad f.fate && is_same_name f.name name)) (twice f.down)
  where
    twice : (b : Bool) → not (not b) ≡ b
    twice true = refl
    twice false = refl

-- by whether the first fate is against it
numbers_first : (name : EpName) (f : FateText) (fs : List FateText) (b : Bool) → is_against name true f ≡ b
    → map (λ (f : FateText). f.k) (filter (is_against name false) (map raised_fate fs))
    ≡ map (λ (f : FateText). f.k) (filter (is_against name true) fs)
    → map (λ (f : FateText). f.k) (filter (is_against name false) (map raised_fate (f ∷ fs)))
    ≡ map (λ (f : FateText). f.k) (filter (is_against name true) (f ∷ fs))
numbers_first name f fs true is later =
    let h : is_against name false (raised_fate f) ≡ true = against_same name f ∙ is in
    rw (h, is) (ap (λ (ks : List ℕ). f.k ∷ ks) later)
numbers_first name f fs false is later =
    let h : is_against name false (raised_fate f) ≡ false = against_same name f ∙ is in
    rw (h, is) later

numbers_same : (name : EpName) (fs : List FateText) → bad_numbers (map raised_fate fs) name false ≡ bad_numbers fs name true
numbers_same name [] = refl
numbers_same name (f ∷ fs) = numbers_first name f fs (is_against name true f) refl (numbers_same name fs)

abbrev losses_by : List ℕ → Asked → ℕ → Losses
losses_by ns e sent = record {
  sent = list_any (λ (n : ℕ). n == later e.packet 0) ns || list_any (λ (n : ℕ). n == later e.packet (sent - 1)) ns;
  answer = list_any (λ (n : ℕ). n == later e.packet sent) ns;
  acknowledgement = list_any (λ (n : ℕ). n == later e.packet (sent + 1)) ns;
}

losses_same : (w : Below) (e : Asked) (sent : ℕ) → losses_of (raised_fixed w).fates false e sent ≡ losses_of w.fixed.fates true e sent
losses_same w e sent = ap (λ (ns : List ℕ). losses_by ns e sent) (numbers_same e.name w.fixed.fates)

-- ---- what is answered, and what that leaves

answer_same : (w : Below) (who : Answerer) (ask : Ask) (out : List ℕ)
    → answer_by (raised_bus w) who ask out ≡ floor_answer w.floor who ask out
answer_same w (Answerers.Device place) ask out = refl
answer_same w (Answerers.Hub place) ask out = refl
answer_same w (Answerers.Translator place stuff) ask out = refl
answer_same w Answerers.Nobody ask out = refl

row_same : (w : Below) (e : Asked) (ask : Ask) (out : List ℕ) → bus_row (raised_fixed w) (raised_bus w) e ask out ≡ below_row w e ask out
row_same w e ask out =
    ap (λ (losses : Losses). row_for losses ask (answer_by (raised_bus w) e.who ask out)) (losses_same w e (packets_before ask))
    ∙ ap (λ (answer : Reply). row_for (losses_of w.fixed.fates true e (packets_before ask)) ask answer) (answer_same w e.who ask out)

reply_by : (w : Below) (ask : Ask) (out : List ℕ) (o : Option Asked)
    → reply_at (raised_fixed w) (raised_bus w) ask out o ≡ below_reply_at w ask out o
reply_by w ask out None = refl
reply_by w ask out (Some e) =
    ap (λ (row : WhoHeard). asker_hears row (answer_by (raised_bus w) e.who ask out)) (row_same w e ask out)
    ∙ ap (λ (answer : Reply). asker_hears (below_row w e ask out) answer) (answer_same w e.who ask out)

pub reply_same : (w : Below) (ask : Ask) (out : List ℕ) → ask.split ≡ Plain
    → reply_of (raised_fixed w) (raised_bus w) ask out ≡ below_reply w ask out
reply_same w ask out plain =
    ap (reply_at (raised_fixed w) (raised_bus w) ask out) (ask_same w ask plain) ∙ reply_by w ask out (asked_below w ask)

who_same : (w : Below) (row : WhoHeard) (who : Answerer) (place number : ℕ) (ask : Ask) (out : List ℕ)
    → record (changed_by row who ask out (raised_bus w)) { high = slice_set (raised_bus w).high place number }
    ≡ raised_bus (record w
    { floor = record { devices = devices_after row who ask out w.floor.devices; numbers = slice_set w.floor.numbers place number } })
who_same w row (Answerers.Device n) place number ask out = refl
who_same w row (Answerers.Hub n) place number ask out = refl
who_same w row (Answerers.Translator n stuff) place number ask out = refl
who_same w row Answerers.Nobody place number ask out = refl

after_by : (w : Below) (ask : Ask) (out : List ℕ) (o : Option Asked)
    → after_at (raised_fixed w) (raised_bus w) ask out o ≡ raised_bus (below_after_at w ask out o)
after_by w ask out None = refl
after_by w ask out (Some e) =
    ap (λ (row : WhoHeard). after_bus_row row e ask out (raised_bus w)) (row_same w e ask out)
    ∙ who_same w (below_row w e ask out) e.who e.place (packet_after (below_row w e ask out) e ask) ask out

fixed_by : (w : Below) (ask : Ask) (out : List ℕ) (o : Option Asked) → raised_fixed (below_after_at w ask out o) ≡ raised_fixed w
fixed_by w ask out None = refl
fixed_by w ask out (Some e) = refl

pub after_same : (w : Below) (ask : Ask) (out : List ℕ) → ask.split ≡ Plain
    → raised (below_after w ask out) ≡ record (raised w) { bus = transact_after (raised_fixed w) (raised_bus w) ask out }
after_same w ask out plain =
    let a : transact_after (raised_fixed w) (raised_bus w) ask out ≡ raised_bus (below_after w ask out) =
    ap (after_at (raised_fixed w) (raised_bus w) ask out) (ask_same w ask plain) ∙ after_by w ask out (asked_below w ask) in
    ap (λ (f : Fixed). record { fixed = f; bus = raised_bus (below_after w ask out) }) (fixed_by w ask out (asked_below w ask))
    ∙ ap (λ (b : Bus). record { fixed = raised_fixed w; bus = b }) (sym a)

-- ---- a transaction below is one of it

pub raised_transacts : (w : Below) (ask : Ask) (out : List ℕ) (reply : Reply) (v : Below) → transacts_below w ask out reply v
    → transacts_by (raised w) ask out reply (raised v)
raised_transacts w ask out reply v t = (t.heard ∙ sym (reply_same w ask out t.plain), ap raised t.after ∙ after_same w ask out t.plain)

pub senders_below : (stream : ℕ → ℕ → Bool) → IsBus transacts_below stream sender_below
senders_below stream = record {
  asked = λ w ask out reply v s made k sent.
      (a_scripted_bus_sends_its_streams stream).asked (raised w) ask out reply (raised v) s (raised_transacts w ask out reply v made) k
      sent;
  others = λ w ask out reply v addr ep s made on sent other.
      (a_scripted_bus_sends_its_streams stream).others (raised w) ask out reply (raised v) addr ep s
      (raised_transacts w ask out reply v made) on sent other;
}

pub takers_below : (stream : ℕ → ℕ → Bool) → IsOutBus transacts_below stream taker_below
takers_below stream = record {
  asked = λ w ask out reply v s made k sent.
      (a_scripted_bus_takes_its_streams stream).asked (raised w) ask out reply (raised v) s (raised_transacts w ask out reply v made) k
      sent;
  others = λ w ask out reply v addr ep s made on sent other.
      (a_scripted_bus_takes_its_streams stream).others (raised w) ask out reply (raised v) addr ep s
      (raised_transacts w ask out reply v made) on sent other;
}

pub controls_answer_below : IsControlBus transacts_below control_below
controls_answer_below = record {
  asked = λ w ask out reply v e c made k here. a_scripted_bus_answers_by_stages.asked (raised w) ask out reply (raised v) e c
      (raised_transacts w ask out reply v made) k here;
  others = λ w ask out reply v addr num d made here other.
      a_scripted_bus_answers_by_stages.others (raised w) ask out reply (raised v) addr num d (raised_transacts w ask out reply v made) here
      other;
}
