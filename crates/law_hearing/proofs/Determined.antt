-- What lines and ports say leaves no choice.
use Rattle.std.proofs.Common.{◌≡◌, ℕ, ◌<◌, ◌≤◌, Bool, true, false, List, refl, ap, sym, subst, ◌∙◌, inl, inr, arith, ⊎_elim}
use Rattle.std.specs.Prelude.{slice_get, slice_set}
use Rattle.std.proofs.lemmas.Bool.{cases_lt, false≢true}
use Rattle.std.proofs.lemmas.Option.{same_Some}
use Rattle.usb_base.specs.Acknowledgement.{acknowledges}
use Rattle.usb_base.specs.declared.packets.Ask.{Ask}
use Rattle.usb_base.specs.declared.packets.Reply.{Reply}
use Rattle.bus_wire.specs.declared.seats.Seat.{Seat}
use Rattle.bus_wire.specs.Bus.{Bus}
use Rattle.bus_wire.specs.Fixed.{Fixed}
use Rattle.bus_wire.specs.WhoHeard.{later}
use Rattle.claims_answers.specs.Hearing.{Missed, Party, IsExchange, missed, packets, party, IsAsked, NoneIsAsked, IsTransaction, IsHeard}
use Rattle.law_hearing.specs.HearingLaws.{OneThingIsHeard}

module _ {X : Type 0} (m : Missed) (ask : Ask) (p : Party X) (r s : Reply) (x y : X) (one : IsExchange m ask p r x)
    (two : IsExchange m ask p s y) where
  answered : m.sent ≡ false → m.answer ≡ false → (a k : Bool) → acknowledges ask p.answer ≡ a → m.acknowledgement ≡ k → x ≡ y
  answered e f true false acks got = one.acked e f acks got ∙ sym (two.acked e f acks got)
  answered e f true true acks lost = one.unacked e f (inr lost) ∙ sym (two.unacked e f (inr lost))
  answered e f false k acks got = one.unacked e f (inl acks) ∙ sym (two.unacked e f (inl acks))

  by_missed : (a b : Bool) → m.sent ≡ a → m.answer ≡ b → (r ≡ s) × (x ≡ y)
  by_missed true b e f = ((one.unsent e).0 ∙ sym (two.unsent e).0, (one.unsent e).1 ∙ sym (two.unsent e).1)
  by_missed false true e f = ((one.unheard e f).0 ∙ sym (two.unheard e f).0, (one.unheard e f).1 ∙ sym (two.unheard e f).1)
  by_missed false false e f =
      (one.got e f ∙ sym (two.got e f), answered e f (acknowledges ask p.answer) m.acknowledgement refl refl)

  pub one_exchange : (r ≡ s) × (x ≡ y)
  one_exchange = by_missed m.sent m.answer refl refl

module _ (seats : List Seat) (ask : Ask) where
  one_place : (i j : ℕ) (s t : Seat) → IsAsked seats ask i s → IsAsked seats ask j t → i ≡ j
  one_place i j s t one two =
      ⊎_elim (λ (lt : i < j). absurd (false≢true (sym (two.first i s lt one.there) ∙ one.asked)))
      (λ (ge : j ≤ i).
      ⊎_elim (λ (lt : j < i). absurd (false≢true (sym (one.first j t lt two.there) ∙ two.asked))) (λ (le : i ≤ j). omega arith)
      (cases_lt j i))
      (cases_lt i j)

module _ (fixed : Fixed) (b : Bus) (ask : Ask) (out : List ℕ) (r s : Reply) (after then : Bus) where
  abbrev left_is : Bus → ℕ → ℕ → Reply → Seat → Bus
  left_is left place number answer seat =
      record left { high = slice_set b.high place (later number (packets (missed fixed.fates seat.name false number ask) ask answer)) }

  transactions : IsTransaction fixed b ask out r after → IsTransaction fixed b ask out s then → (r ≡ s) × (after ≡ then)
  transactions one two = (same.0, one.counted ∙ left_same ∙ sym two.counted)
    where
      place : one.place ≡ two.place
      place = one_place fixed.seats ask one.place two.place one.seat two.seat one.asked two.asked

      seat : one.seat ≡ two.seat
      seat = same_Some one.seat two.seat (sym one.asked.there ∙ ap (slice_get fixed.seats) place ∙ two.asked.there)

      number : one.number ≡ two.number
      number = same_Some one.number two.number (sym one.next ∙ ap (slice_get b.high) place ∙ two.next)

      moved : IsExchange (missed fixed.fates two.seat.name false two.number ask) ask (party b ask out two.seat.owner ask.split) r one.left
      moved =
          subst (λ (n : ℕ). IsExchange (missed fixed.fates two.seat.name false n ask) ask (party b ask out two.seat.owner ask.split) r
          one.left) number
          (subst (λ (v : Seat). IsExchange (missed fixed.fates v.name false one.number ask) ask (party b ask out v.owner ask.split) r
          one.left) seat one.exchange)

      same : (r ≡ s) × (one.left ≡ two.left)
      same = one_exchange (missed fixed.fates two.seat.name false two.number ask) ask (party b ask out two.seat.owner ask.split) r s
          one.left two.left moved two.exchange

      left_same : left_is one.left one.place one.number (party b ask out one.seat.owner ask.split).answer one.seat
          ≡ left_is two.left two.place two.number (party b ask out two.seat.owner ask.split).answer two.seat
      left_same =
          ap (λ (v : Bus). left_is v one.place one.number (party b ask out one.seat.owner ask.split).answer one.seat) same.1
          ∙ ap (λ (i : ℕ). left_is two.left i one.number (party b ask out one.seat.owner ask.split).answer one.seat) place
          ∙ ap (λ (i : ℕ). left_is two.left two.place i (party b ask out one.seat.owner ask.split).answer one.seat) number
          ∙ ap (λ (v : Seat). left_is two.left two.place two.number (party b ask out v.owner ask.split).answer v) seat

  never : IsTransaction fixed b ask out r after → NoneIsAsked fixed.seats ask → ⊥
  never t none = false≢true (sym (none t.place t.seat t.asked.there) ∙ t.asked.asked)

  never_too : IsTransaction fixed b ask out s then → NoneIsAsked fixed.seats ask → ⊥
  never_too t none = false≢true (sym (none t.place t.seat t.asked.there) ∙ t.asked.asked)

  one_heard : IsHeard fixed b ask out r after → IsHeard fixed b ask out s then → (r ≡ s) × (after ≡ then)
  one_heard (inl one) (inl two) = (one.1.0 ∙ sym two.1.0, one.1.1 ∙ sym two.1.1)
  one_heard (inl one) (inr two) = absurd (never_too two one.0)
  one_heard (inr one) (inl two) = absurd (never one two.0)
  one_heard (inr one) (inr two) = transactions one two

pub one_thing_is_heard : OneThingIsHeard
one_thing_is_heard fixed b ask out r s after then = one_heard fixed b ask out r s after then
