-- Each ask is heard as the lines of the script and the ports of the hubs say.
use Rattle.std.proofs.Common.{◌≡◌, ℕ, ◌+◌, ◌-◌, ◌<◌, Bool, true, false, List, Option, Some, None, option_map, refl, ap, sym, subst, ◌∙◌, inl, inr, arith, ⊎_elim}
use Rattle.std.specs.Prelude.{◌==◌, ◌&&◌, ◌||◌, not, length, position, slice_get, slice_set, if◌then◌else◌}
use Rattle.std.specs.Option.{option_and_then, option_map_or}
use Rattle.std.proofs.lemmas.Bool.{false≢true}
use Rattle.std.proofs.lemmas.List.{set-get_or}
use Rattle.std.proofs.lemmas.Option.{get_or_from_slice_get}
use Rattle.law_common.proofs.Lists.{there_at}
use Rattle.usb_base.specs.Acknowledgement.{acknowledges}
use Rattle.usb_base.specs.declared.packets.Ask.{Ask}
use Rattle.usb_base.specs.declared.packets.Reply.{Reply}
use Rattle.usb_base.specs.declared.packets.Reply.TheVariants as replies
use Rattle.usb_base.specs.declared.packets.Split.{Split}
use Rattle.usb_base.specs.declared.packets.Split.TheVariants.{Plain, Start, Complete}
use Rattle.endpoint_script.specs.Device.{Device, answered, acked_by}
use Rattle.hub_class.specs.HubContent.{HubContent}
use Rattle.hub_class.specs.EndpointZero.{hub_answered, hub_acked}
use Rattle.hub_class.specs.Translating.{transacted}
use Rattle.bus_wire.specs.declared.asked.Answerer.{Answerer}
use Rattle.bus_wire.specs.declared.asked.Answerer.TheVariants as answerers
use Rattle.bus_wire.specs.declared.asked.Asked.{Asked}
use Rattle.bus_wire.specs.declared.asked.Losses.{Losses}
use Rattle.bus_wire.specs.declared.seats.Owner.{Owner}
use Rattle.bus_wire.specs.declared.seats.Owner.TheVariants as owners
use Rattle.bus_wire.specs.declared.seats.Seat.{Seat}
use Rattle.bus_wire.specs.declared.who_heard.WhoHeard.{WhoHeard}
use Rattle.bus_wire.specs.declared.who_heard.WhoHeard.TheVariants as heards
use Rattle.bus_wire.specs.Asking.{losses_of, row_for, packet_after, device_after, hub_after, translator_after, device_answer, hub_answer, translator_answer, put_at}
use Rattle.bus_wire.specs.Bus.{Bus, hears, hears_plain, stuff_of, asked_at, asked_of, answer_by, bus_row, changed_by, after_bus_row, reply_at, reply_of, after_at, transact_after}
use Rattle.bus_wire.specs.Fates.{is_unheard}
use Rattle.bus_wire.specs.Fixed.{Fixed}
use Rattle.bus_wire.specs.Seats.{token_kind, place_for}
use Rattle.bus_wire.specs.WhoHeard.{who_heard, packets_before, packets_of, asker_hears, is_answer, left_by, later}
use Rattle.claims_answers.specs.Hearing.{is_lost, sends, Party, is_packet, Missed, packets, IsExchange, missed, is_for, IsAsked, nobody, device_party, hub_party, translator_party, plain_party, stuffed, named_translator, party, IsTransaction, IsHeard}
use Rattle.law_hearing.specs.HearingLaws.{AsksAreHeard}
use Rattle.law_hearing.proofs.Asked.{lost_is, sends_is, none_asked, IsFirst, first_asked}

-- ---- who heard what

pub silent_or : (r : Reply) → is_packet r ≡ false → r ≡ replies.Silent
silent_or replies.Silent is = refl
silent_or (replies.Bytes pid bytes) is = absurd (false≢true (sym is))
silent_or (replies.Hand pid) is = absurd (false≢true (sym is))

pub packet_is : (r : Reply) → is_packet r ≡ is_answer r
packet_is replies.Silent = refl
packet_is (replies.Bytes pid bytes) = refl
packet_is (replies.Hand pid) = refl

pub unacknowledged : (ask : Ask) (r : Reply) → is_packet r ≡ false → acknowledges ask r ≡ false
unacknowledged ask r is = ap (acknowledges ask) (silent_or r is)

abbrev pub row_of : Missed → Bool → Bool → WhoHeard
row_of m i a = who_heard m.sent i m.answer a m.acknowledgement

module _ {X : Type 0} (ask : Ask) (p : Party X) where
  abbrev Exchanges : Missed → WhoHeard → Type 0
  Exchanges m row = IsExchange m ask p (asker_hears row p.answer) (left_by row p.before p.answered p.acked)

  by_losses : (s u k i a : Bool) → is_packet p.answer ≡ i → acknowledges ask p.answer ≡ a
      → Exchanges (record { sent = s; answer = u; acknowledgement = k }) (who_heard s i u a k)
  by_losses true u k i a some acks = record {
    unsent = λ e. (refl, refl);
    unheard = λ e f. absurd (false≢true (sym e));
    got = λ e f. absurd (false≢true (sym e));
    acked = λ e f g h. absurd (false≢true (sym e));
    unacked = λ e f g. absurd (false≢true (sym e));
  }
  by_losses false u k false a some acks = record {
    unsent = λ e. absurd (false≢true e);
    unheard = λ e f. (refl, refl);
    got = λ e f. sym (silent_or p.answer some);
    acked = λ e f g h. absurd (false≢true (sym (unacknowledged ask p.answer some) ∙ g));
    unacked = λ e f g. refl;
  }
  by_losses false true k true a some acks = record {
    unsent = λ e. absurd (false≢true e);
    unheard = λ e f. (refl, refl);
    got = λ e f. absurd (false≢true (sym f));
    acked = λ e f g h. absurd (false≢true (sym f));
    unacked = λ e f g. absurd (false≢true (sym f));
  }
  by_losses false false k true false some acks = record {
    unsent = λ e. absurd (false≢true e);
    unheard = λ e f. absurd (false≢true f);
    got = λ e f. refl;
    acked = λ e f g h. absurd (false≢true (sym acks ∙ g));
    unacked = λ e f g. refl;
  }
  by_losses false false true true true some acks = record {
    unsent = λ e. absurd (false≢true e);
    unheard = λ e f. absurd (false≢true f);
    got = λ e f. refl;
    acked = λ e f g h. absurd (false≢true (sym h));
    unacked = λ e f g. refl;
  }
  by_losses false false false true true some acks = record {
    unsent = λ e. absurd (false≢true e);
    unheard = λ e f. absurd (false≢true f);
    got = λ e f. refl;
    acked = λ e f g h. refl;
    unacked = λ e f g. absurd (⊎_elim (λ (none : acknowledges ask p.answer ≡ false). false≢true (sym none ∙ acks))
        (λ (lost : false ≡ true). false≢true lost) g);
  }

  pub exchanges : (m : Missed) → Exchanges m (row_of m (is_packet p.answer) (acknowledges ask p.answer))
  exchanges m = by_losses m.sent m.answer m.acknowledgement (is_packet p.answer) (acknowledges ask p.answer) refl refl

-- how many packets were on the bus
pub some_packets : (s u k i a : Bool) (n : ℕ) → (i ≡ false → a ≡ false)
    → n + (if not s && i then (if not u && a then 2 else 1) else 0) ≡ packets_of (who_heard s i u a k) n
some_packets true u k i a n none = omega arith
some_packets false u k false a n none = omega arith
some_packets false true k true a n none = refl
some_packets false false k true false n none = refl
some_packets false false true true true n none = refl
some_packets false false false true true n none = refl

-- ---- what lines say of the packets of one transaction

module _ (fixed : Fixed) (below : Bool) (e : Asked) (ask : Ask) where
  abbrev pub losses : Losses
  losses = losses_of fixed.fates below e (packets_before ask)

  abbrev pub lost : ℕ → Bool
  lost n = is_unheard fixed.fates e.name below (later e.packet n)

  abbrev pub by_counts : ℕ → Missed
  by_counts n = record { sent = lost 0 || lost (n - 1); answer = lost n; acknowledgement = lost (n + 1) }

  abbrev pub four : Bool → Bool → Bool → Bool → Missed
  four a b c d = record { sent = a || b; answer = c; acknowledgement = d }

  abbrev pub told : ℕ → Bool
  told n = is_lost fixed.fates e.name below (later e.packet n)

  told_is : (n : ℕ) → told n ≡ lost n
  told_is n = lost_is e.name below (later e.packet n) fixed.fates

  missed_is : missed fixed.fates e.name below e.packet ask ≡ by_counts (packets_before ask)
  missed_is =
      ap (λ (b : Bool). four b (told (sends ask.split ask.pid - 1)) (told (sends ask.split ask.pid)) (told (sends ask.split ask.pid + 1)))
      (told_is 0)
      ∙ ap (λ (b : Bool). four (lost 0) b (told (sends ask.split ask.pid)) (told (sends ask.split ask.pid + 1)))
      (told_is (sends ask.split ask.pid - 1))
      ∙ ap (λ (b : Bool). four (lost 0) (lost (sends ask.split ask.pid - 1)) b (told (sends ask.split ask.pid + 1)))
      (told_is (sends ask.split ask.pid))
      ∙ ap (λ (b : Bool). four (lost 0) (lost (sends ask.split ask.pid - 1)) (lost (sends ask.split ask.pid)) b)
      (told_is (sends ask.split ask.pid + 1))
      ∙ ap by_counts (sends_is ask.split ask.pid)

  abbrev pub row_here : Reply → WhoHeard
  row_here r = row_of (missed fixed.fates e.name below e.packet ask) (is_packet r) (acknowledges ask r)

  pub row_is : (r p : Reply) → r ≡ p → row_for losses ask r ≡ row_here p
  row_is r p same =
      ap (row_for losses ask) same
      ∙ ap (λ (i : Bool). who_heard losses.sent i losses.answer (acknowledges ask p) losses.acknowledgement) (sym (packet_is p))
      ∙ ap (λ (m : Missed). row_of m (is_packet p) (acknowledges ask p)) (sym missed_is)

  pub count_is : (p : Reply) → later e.packet (packets_of (row_here p) (packets_before ask))
      ≡ later e.packet (packets (missed fixed.fates e.name below e.packet ask) ask p)
  count_is p =
      let m : Missed = missed fixed.fates e.name below e.packet ask in
      ap (λ (n : ℕ). later e.packet (packets_of (row_here p) n)) (sym (sends_is ask.split ask.pid))
      ∙ ap (later e.packet)
      (sym (some_packets m.sent m.answer m.acknowledgement (is_packet p) (acknowledges ask p) (sends ask.split ask.pid)
      (unacknowledged ask p)))

-- ---- whoever is asked

pub set_same : {X : Type 0} (xs : List X) (i : ℕ) (x : X) → slice_get xs i ≡ Some x → slice_set xs i x ≡ xs
set_same xs i x there = ap (slice_set xs i) (sym (get_or_from_slice_get xs i x x there)) ∙ set-get_or xs i x

pub left_alone : {X : Type 0} (row : WhoHeard) (x : X) → x ≡ left_by row x x x
left_alone heards.SentUnheard x = refl
left_alone heards.NoAnswer x = refl
left_alone heards.AnswerUnheard x = refl
left_alone heards.AnswerHeard x = refl
left_alone heards.AckUnheard x = refl
left_alone heards.AckHeard x = refl

-- a change of one of a list, by the row
pub left_at : {X Y : Type 0} (with : List X → Y) (xs : List X) (place : ℕ) (x y z : X) (old : Y) → with xs ≡ old
    → slice_get xs place ≡ Some x
    → (row : WhoHeard)
    → with (slice_set xs place (left_by row x y z)) ≡ left_by row old (with (slice_set xs place y)) (with (slice_set xs place z))
left_at with xs place x y z old is there heards.SentUnheard = ap with (set_same xs place x there) ∙ is
left_at with xs place x y z old is there heards.NoAnswer = refl
left_at with xs place x y z old is there heards.AnswerUnheard = refl
left_at with xs place x y z old is there heards.AnswerHeard = refl
left_at with xs place x y z old is there heards.AckUnheard = refl
left_at with xs place x y z old is there heards.AckHeard = refl

module _ (b : Bus) (ask : Ask) (out : List ℕ) where
  record Same (who : Answerer) (p : Party Bus) : Type 0 where
    answer : answer_by b who ask out ≡ p.answer
    left : (row : WhoHeard) → changed_by row who ask out b ≡ left_by row p.before p.answered p.acked

  none_same : Same answerers.Nobody (nobody b)
  none_same = record { answer = refl; left = λ row. left_alone row b }

  device_same : (place : ℕ) (o : Option Device) → slice_get b.devices place ≡ o
      → Same (answerers.Device place) (device_party b place ask out o)
  device_same place None is = record {
    answer = ap (λ (q : Option Device). device_answer q ask out) is;
    left =
        λ row. ap (λ (q : Option Device). record b { devices = put_at q place (device_after row ask out) b.devices }) is ∙ left_alone row b;
  }
  device_same place (Some d) is = record {
    answer = ap (λ (q : Option Device). device_answer q ask out) is;
    left = λ row. ap (λ (q : Option Device). record b { devices = put_at q place (device_after row ask out) b.devices }) is
        ∙ left_at (λ (xs : List Device). record b { devices = xs }) b.devices place d (answered d ask out)
        (acked_by (answered d ask out) ask) b refl is row;
  }

  hub_same : (place : ℕ) (o : Option HubContent) → slice_get b.hubs place ≡ o → Same (answerers.Hub place) (hub_party b place ask out o)
  hub_same place None is = record {
    answer = ap (λ (q : Option HubContent). hub_answer q ask out) is;
    left = λ row. ap (λ (q : Option HubContent). record b { hubs = put_at q place (hub_after row ask out) b.hubs }) is ∙ left_alone row b;
  }
  hub_same place (Some h) is = record {
    answer = ap (λ (q : Option HubContent). hub_answer q ask out) is;
    left = λ row. ap (λ (q : Option HubContent). record b { hubs = put_at q place (hub_after row ask out) b.hubs }) is
        ∙ left_at (λ (xs : List HubContent). record b { hubs = xs }) b.hubs place h (hub_answered ask out h)
        (hub_acked ask (hub_answered ask out h)) b refl is row;
  }

  translator_same : (place stuff : ℕ) (o : Option HubContent) → slice_get b.hubs place ≡ o
      → Same (answerers.Translator place stuff) (translator_party b place ask out stuff o)
  translator_same place stuff None is = record {
    answer = ap (λ (q : Option HubContent). translator_answer q ask) is;
    left = λ row. ap (λ (q : Option HubContent). record b { hubs = put_at q place (translator_after row ask out stuff) b.hubs }) is ∙
        left_alone row b;
  }
  translator_same place stuff (Some h) is = record {
    answer = ap (λ (q : Option HubContent). translator_answer q ask) is;
    left = λ row. ap (λ (q : Option HubContent). record b { hubs = put_at q place (translator_after row ask out stuff) b.hubs }) is
        ∙ left_at (λ (xs : List HubContent). record b { hubs = xs }) b.hubs place h (transacted ask out stuff h)
        (transacted ask out stuff h) b refl is row;
  }

  plain_same : (owner : Owner) → Same (hears_plain owner) (plain_party b ask out owner)
  plain_same (owners.Hub place) = hub_same place (slice_get b.hubs place) refl
  plain_same (owners.High place) = device_same place (slice_get b.devices place) refl
  plain_same (owners.Below device hub port stuff) = none_same

  named_same : (owner : Owner) (stuff : ℕ) → stuff ≡ stuffed owner → (o : Option ℕ)
      → Same (option_map_or (λ place. answerers.Translator place stuff) o answerers.Nobody) (named_translator b ask out owner o)
  named_same owner stuff is None = none_same
  named_same owner stuff is (Some place) =
      subst (λ (n : ℕ). Same (answerers.Translator place n) (translator_party b place ask out (stuffed owner) (slice_get b.hubs place)))
      (sym is)
      (translator_same place (stuffed owner) (slice_get b.hubs place) refl)

  stuff_is : (owner : Owner) → stuff_of owner ≡ stuffed owner
  stuff_is (owners.Hub place) = refl
  stuff_is (owners.High place) = refl
  stuff_is (owners.Below device hub port stuff) = refl

  party_same : (owner : Owner) (split : Split) → Same (hears b split owner) (party b ask out owner split)
  party_same owner Plain = plain_same owner
  party_same owner (Start hub port part) = named_same owner (stuff_of owner) (stuff_is owner) (position (λ h. h.address == hub) b.hubs)
  party_same owner (Complete hub port) = named_same owner (stuff_of owner) (stuff_is owner) (position (λ h. h.address == hub) b.hubs)

pub asked_here : (fixed : Fixed) (ask : Ask) (place : ℕ) → IsFirst fixed.seats ask place → (seat : Seat)
    → slice_get fixed.seats place ≡ Some seat
    → IsAsked fixed.seats ask place seat
asked_here fixed ask place asked seat there = record {
  there = there;
  asked = sym (ap (λ (s : Seat). is_for ask s.name) (get_or_from_slice_get fixed.seats place seat seat there)) ∙ asked.asked seat;
  first = asked.first;
}

module _ (fixed : Fixed) (b : Bus) (ask : Ask) (out : List ℕ) (sizes : length b.high ≡ length fixed.seats) where
  module _ (place : ℕ) (seat : Seat) (number : ℕ) (first : IsAsked fixed.seats ask place seat) (next : slice_get b.high place ≡ Some number)
      (found : place_for fixed.seats ask.addr ask.ep (token_kind ask.pid) ≡ Some place) where
    abbrev e : Asked
    e = record { place = place; name = seat.name; packet = number; who = hears b ask.split seat.owner }

    abbrev p : Party Bus
    p = party b ask out seat.owner ask.split

    asked_is : asked_of fixed b ask ≡ Some e
    asked_is =
        ap (option_and_then (asked_at fixed b ask.split)) found
        ∙ ap (option_and_then (λ (s : Seat). option_map
        (λ (n : ℕ). let a : Asked = record { place = place; name = s.name; packet = n; who = hears b ask.split s.owner } in a)
        (slice_get b.high place)))
        first.there
        ∙ ap (option_map (λ (n : ℕ). let a : Asked = record
        { place = place; name = seat.name; packet = n; who = hears b ask.split seat.owner } in a)) next

    same : Same b ask out e.who p
    same = party_same b ask out seat.owner ask.split

    row_same : bus_row fixed b e ask out ≡ row_here fixed false e ask p.answer
    row_same = row_is fixed false e ask (answer_by b e.who ask out) p.answer same.answer

    abbrev left_here : Bus
    left_here = left_by (row_here fixed false e ask p.answer) p.before p.answered p.acked

    reply_is : reply_of fixed b ask out ≡ asker_hears (row_here fixed false e ask p.answer) p.answer
    reply_is =
        ap (reply_at fixed b ask out) asked_is
        ∙ ap (λ (row : WhoHeard). asker_hears row (answer_by b e.who ask out)) row_same
        ∙ ap (asker_hears (row_here fixed false e ask p.answer)) same.answer

    after_is : transact_after fixed b ask out ≡ record left_here {
      high = slice_set b.high place (later number (packets (missed fixed.fates seat.name false number ask) ask p.answer));
    }
    after_is =
        ap (after_at fixed b ask out) asked_is
        ∙ ap (λ (row : WhoHeard). after_bus_row row e ask out b) row_same
        ∙ ap (λ (v : Bus). record v { high = slice_set b.high place (packet_after (row_here fixed false e ask p.answer) e ask) })
        (same.left (row_here fixed false e ask p.answer))
        ∙ ap (λ (n : ℕ). record left_here { high = slice_set b.high place n }) (count_is fixed false e ask p.answer)

    transaction : IsTransaction fixed b ask out (reply_of fixed b ask out) (transact_after fixed b ask out)
    transaction = record {
      place = place;
      seat = seat;
      number = number;
      left = left_here;
      asked = first;
      next = next;
      exchange = subst (λ (r : Reply). IsExchange (missed fixed.fates seat.name false number ask) ask p r left_here) (sym reply_is)
          (exchanges ask p (missed fixed.fates seat.name false number ask));
      counted = after_is;
    }

  heard_at : (o : Option ℕ) → place_for fixed.seats ask.addr ask.ep (token_kind ask.pid) ≡ o
      → IsHeard fixed b ask out (reply_of fixed b ask out) (transact_after fixed b ask out)
  heard_at None is =
      inl (
        none_asked fixed.seats ask is,
        (
          ap (λ (q : Option ℕ). reply_at fixed b ask out (option_and_then (asked_at fixed b ask.split) q)) is,
          ap (λ (q : Option ℕ). after_at fixed b ask out (option_and_then (asked_at fixed b ask.split) q)) is,
        ),
      )
  heard_at (Some place) is =
      let asked = first_asked fixed.seats ask place is in
      let seat = there_at fixed.seats place asked.within in
      let number = there_at b.high place (subst (λ (n : ℕ). place < n) (sym sizes) asked.within) in
      inr (transaction place seat.0 number.0 (asked_here fixed ask place asked seat.0 seat.1) number.1 is)

pub asks_are_heard : AsksAreHeard
asks_are_heard fixed b ask out sizes =
    heard_at fixed b ask out sizes (place_for fixed.seats ask.addr ask.ep (token_kind ask.pid)) refl
