-- A copy in hand is got back from its parts.
use Rattle.std.proofs.Common.{◌≡◌, ℕ, ◌+◌, ◌*◌, ◌%◌, ◌^◌, ◌≤◌, ◌<◌, Bool, true, false, ◌==◌, ◌&&◌, ◌||◌, nat_le, nat_lt, List, length, Option, None, Some, Result, Ok, if◌then◌else◌, refl, sym, ap, ◌∙◌}
use Rattle.std.specs.Prelude.{IfSome, is_some, option_map}
use Rattle.std.proofs.lemmas.Bool.{and_parts, and_from, eqb-true, eq-eqb, ltb-true, lt-ltb, leb-true, le-leb}
use Rattle.link_words.specs.declared.refusal.Bad.{Bad}
use Rattle.link_words.specs.Layout.{IsWordInRange, first_bad_bit, ranges_of}
use Rattle.itd_sitd.specs.declared.itd.Itd.{Itd}
use Rattle.itd_sitd.specs.declared.sitd.Sitd.{Sitd}
use Rattle.itd_sitd.specs.Slot.{slot_rows, slot_at, slot_word}
use Rattle.itd_sitd.specs.Itd.{IsItdInRange, itd_words, itd_read}
use Rattle.itd_sitd.specs.Sitd.{sitd_words, sitd_read}
use Rattle.itd_sitd.proofs.ItdLaws.{itd_read-words}
use Rattle.itd_sitd.proofs.SitdLaws.{sitd_read-words}
use Rattle.hc_copy.specs.declared.held.Held.{Held}
use Rattle.hc_iso.specs.declared.held.HeldItd.{HeldItd}
use Rattle.hc_iso.specs.declared.held.HeldSitd.{HeldSitd}
use Rattle.hc_iso.specs.declared.held.IsoEnd.{IsoEnd}
use Rattle.hc_iso.specs.Itd.{IsItdHeld}
use Rattle.hc_iso.specs.Sitd.{IsSitdHeld}
use Rattle.async_walk.specs.Parts.{held_parts, held_from}
use Rattle.async_walk.proofs.Whole.{held_back}
use Rattle.periodic_walk.specs.declared.state.Hand.{Hand}
use Rattle.periodic_walk.specs.declared.state.Hand.TheVariants as hands
use Rattle.periodic_walk.specs.declared.hand_parts.ItdParts.{ItdParts}
use Rattle.periodic_walk.specs.declared.hand_parts.SitdParts.{SitdParts}
use Rattle.periodic_walk.specs.declared.hand_parts.HandParts.{HandParts}
use Rattle.periodic_walk.specs.Walk.{IsInHand}
use Rattle.periodic_walk.specs.HandParts.{itd_parts, itd_of, is_counted, itd_if, itd_by, itd_from, sitd_parts, sitd_by, sitd_from, hand_parts, itd_kept, queue_with, hand_from, in_hand_from}
use Rattle.periodic_walk.proofs.Slots.{slot_back, slot_whole}

-- ---- an iTD

going_is : (o : Option IsoEnd) (rest : ℕ) → (is_some o || nat_le 1 rest) ≡ true → o ≡ None → 1 ≤ rest
going_is None rest e _ = leb-true 1 rest e
going_is (Some x) rest e none = absurd cc

is_going : (o : Option IsoEnd) (rest : ℕ) → (o ≡ None → 1 ≤ rest) → (is_some o || nat_le 1 rest) ≡ true
is_going None rest going = le-leb 1 rest (going refl)
is_going (Some x) rest going = refl

-- a copy whose numbers are in their ranges
itd_is : (h : HeldItd) → IsItdInRange h.itd → IsWordInRange slot_rows h.slot → is_counted h ≡ true → IsItdHeld h
itd_is h range slot counted =
    let f =
    and_parts
    (h.at % 32 == 0 && nat_lt h.number 8 && nat_le (h.made + h.rest) 3 && (is_some h.ended || nat_le 1 h.rest)
    && nat_le h.moved (1024 * h.made))
    (nat_le h.moved h.slot.length) counted in
    let e =
    and_parts (h.at % 32 == 0 && nat_lt h.number 8 && nat_le (h.made + h.rest) 3 && (is_some h.ended || nat_le 1 h.rest))
    (nat_le h.moved (1024 * h.made)) f.0 in
    let d = and_parts (h.at % 32 == 0 && nat_lt h.number 8 && nat_le (h.made + h.rest) 3) (is_some h.ended || nat_le 1 h.rest) e.0 in
    let c = and_parts (h.at % 32 == 0 && nat_lt h.number 8) (nat_le (h.made + h.rest) 3) d.0 in
    let b = and_parts (h.at % 32 == 0) (nat_lt h.number 8) c.0 in
    record {
      aligned = eqb-true (h.at % 32) 0 b.0;
      range = range;
      number = ltb-true h.number 8 b.1;
      slot = slot;
      packets = leb-true (h.made + h.rest) 3 c.1;
      going = going_is h.ended h.rest d.1;
      bytes = leb-true h.moved (1024 * h.made) e.1;
      within = leb-true h.moved h.slot.length f.1;
    }

-- what has these parts is made of them
pub itd_whole : (p : ItdParts) (v : Itd) → p.slot < 2 ^ 32 → IsItdInRange v → itd_words v ≡ p.words
    → first_bad_bit (ranges_of slot_rows) p.slot ≡ None → is_counted (itd_of p v) ≡ true
    → IsItdHeld (itd_of p v) × (itd_parts (itd_of p v) ≡ p)
itd_whole p v small range words free counted =
    let slot = slot_whole p.slot small free in
    (itd_is (itd_of p v) range slot.1 counted, λ i. let q : ItdParts = record p { words = words i; slot = slot.0 i } in q)

-- the numbers of a copy are in their ranges
counted_is : (h : HeldItd) → IsItdHeld h → is_counted h ≡ true
counted_is h is =
    let b = and_from (h.at % 32 == 0) (nat_lt h.number 8) (eq-eqb (h.at % 32) 0 is.aligned) (lt-ltb h.number 8 is.number) in
    let c = and_from (h.at % 32 == 0 && nat_lt h.number 8) (nat_le (h.made + h.rest) 3) b (le-leb (h.made + h.rest) 3 is.packets) in
    let d =
    and_from (h.at % 32 == 0 && nat_lt h.number 8 && nat_le (h.made + h.rest) 3) (is_some h.ended || nat_le 1 h.rest) c
    (is_going h.ended h.rest is.going) in
    let e =
    and_from (h.at % 32 == 0 && nat_lt h.number 8 && nat_le (h.made + h.rest) 3 && (is_some h.ended || nat_le 1 h.rest))
    (nat_le h.moved (1024 * h.made)) d (le-leb h.moved (1024 * h.made) is.bytes) in
    and_from
    (h.at % 32 == 0 && nat_lt h.number 8 && nat_le (h.made + h.rest) 3 && (is_some h.ended || nat_le 1 h.rest)
    && nat_le h.moved (1024 * h.made))
    (nat_le h.moved h.slot.length) e (le-leb h.moved h.slot.length is.within)

itd_same : (h : HeldItd) → IsItdHeld h → itd_of (itd_parts h) h.itd ≡ h
itd_same h is = ap (λ s. let q : HeldItd = record h { slot = s } in q) (slot_back h.slot is.slot).1

itd_again : (h : HeldItd) → IsItdHeld h → itd_from (itd_parts h) ≡ Some h
itd_again h is =
    ap (λ o. itd_by o (itd_read (itd_words h.itd)) (itd_parts h)) (slot_back h.slot is.slot).0
    ∙ ap (λ r. itd_by None r (itd_parts h)) (itd_read-words h.itd is.range)
    ∙ ap (λ q. itd_if (is_counted q) q) (itd_same h is)
    ∙ ap (λ b. itd_if b h) (counted_is h is)

-- a copy is read from its parts
pub itd_back : (p : ItdParts) (h : HeldItd) → IsItdHeld h → itd_parts h ≡ p → itd_from p ≡ Some h
itd_back p h is e = ap itd_from (sym e) ∙ itd_again h is

-- ---- a siTD

sitd_again : (h : HeldSitd) → IsSitdHeld h → sitd_from (sitd_parts h) ≡ Some h
sitd_again h is =
    ap (λ b. sitd_by b (sitd_read (sitd_words h.sitd)) (sitd_parts h)) (eq-eqb (h.at % 32) 0 is.aligned)
    ∙ ap (λ r. sitd_by true r (sitd_parts h)) (sitd_read-words h.sitd is.range)

-- a copy is read from its parts
pub sitd_back : (p : SitdParts) (h : HeldSitd) → IsSitdHeld h → sitd_parts h ≡ p → sitd_from p ≡ Some h
sitd_back p h is e = ap sitd_from (sym e) ∙ sitd_again h is

-- ---- either

hand_back : (got : List ℕ) (h : Hand) → IsInHand got h → hand_from (length got) (hand_parts h) ≡ Some h
hand_back got (hands.Queue h) is = ap (queue_with h.made) (held_back (held_parts h.copy) h.copy is refl)
hand_back got (hands.Itd h) is =
    ap (itd_kept (length got)) (itd_again h is.0)
    ∙ ap (λ (b : Bool). if b then Some (hands.Itd h) else None) (le-leb (length got) h.moved is.1)
hand_back got (hands.Sitd h) is = ap (option_map hands.Sitd) (sitd_again h is)

-- what is in hand is read from its parts
pub in_hand_back : (got : List ℕ) (hand : Option Hand) → IfSome hand (IsInHand got)
    → in_hand_from (length got) (option_map hand_parts hand) ≡ Some hand
in_hand_back got None is = refl
in_hand_back got (Some h) is = ap (option_map Some) (hand_back got h is)
