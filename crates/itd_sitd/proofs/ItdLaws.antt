-- The laws of the words of an isochronous transfer descriptor.
use Rattle.std.proofs.Common.{zero, suc, arith, ◌≡◌, ℕ, ◌^◌, ◌<◌, List, [], ◌∷◌, length, Some, None, Result, Ok, Err, refl, sym, ap, subst, ◌∙◌}
use Rattle.std.specs.Prelude.{slice_index, slice_set, IfOk, IfErr}
use Rattle.std.proofs.lemmas.List.{length-set}
use Rattle.link_words.specs.declared.refusal.Bad.{Bad}
use Rattle.link_words.specs.Layout.{word_of, IsWordInRange, IsInRange, unless_bad}
use Rattle.link_words.specs.declared.fields.LinkBits.{LinkBits}
use Rattle.link_words.specs.Fields.{link_rows}
use Rattle.link_words.specs.Links.{link_of, link_read}
use Rattle.link_words.proofs.Tables.{Says, words_of-says, says-words_of, unless_bad-ok, unless_bad-err}
use Rattle.link_words.proofs.LinkLaws.{link_says, link_same}
use Rattle.itd_sitd.specs.declared.slot.ItdSlot.{ItdSlot}
use Rattle.itd_sitd.specs.declared.itd.Itd.{Itd}
use Rattle.itd_sitd.specs.Slot.{slot_rows, slot_word, slot_at}
use Rattle.itd_sitd.specs.Itd.{slot_of, itd_layout, itd_words, itd_bad, itd_at, itd_read, IsItdInRange}
use Rattle.itd_sitd.proofs.SlotLaws.{slot_says, slot_same, eight_slots}

itd_says : (ws : List ℕ) → Says itd_layout ws (itd_at ws)
unfolding itd_at
itd_says ws =
    (link_says (slice_index ws 0), (slot_says (slice_index ws 1), (slot_says (slice_index ws 2), (slot_says (slice_index ws 3), (slot_says (slice_index ws 4), (slot_says (slice_index ws 5), (slot_says (slice_index ws 6), (slot_says (slice_index ws 7), (slot_says (slice_index ws 8), ((refl, (refl, (refl, tt))), ((refl, (refl, (refl, tt))), ((refl, (refl, tt)), ((refl, tt), ((refl, tt), ((refl, tt), ((refl, tt), tt))))))))))))))))

-- the microframes of a descriptor, by their words
slots_same : (ws : List ℕ) (v : Itd) → length v.slots ≡ 8 → slot_of 0 v ≡ slot_at (slice_index ws 1) → slot_of 1 v ≡ slot_at (slice_index ws 2) → slot_of 2 v ≡ slot_at (slice_index ws 3) → slot_of 3 v ≡ slot_at (slice_index ws 4) → slot_of 4 v ≡ slot_at (slice_index ws 5) → slot_of 5 v ≡ slot_at (slice_index ws 6) → slot_of 6 v ≡ slot_at (slice_index ws 7) → slot_of 7 v ≡ slot_at (slice_index ws 8) → v.slots ≡ (itd_at ws).slots
unfolding itd_at
slots_same ws v eight e0 e1 e2 e3 e4 e5 e6 e7 = eight_slots v.slots eight ∙ λ i. e0 i ∷ e1 i ∷ e2 i ∷ e3 i ∷ e4 i ∷ e5 i ∷ e6 i ∷ e7 i ∷ []

itd_same : (ws : List ℕ) (v : Itd) → length v.slots ≡ 8 → Says itd_layout ws v → v ≡ itd_at ws
unfolding itd_at
itd_same ws v eight (link, (s0, (s1, (s2, (s3, (s4, (s5, (s6, (s7, ((page0, (ep, (addr, _))), ((page1, (dir_in, (max, _))), ((page2, (multi, _)), ((page3, _), ((page4, _), ((page5, _), ((page6, _), _)))))))))))))))) =
    let slots = slots_same ws v eight (slot_same (slice_index ws 1) (slot_of 0 v) s0) (slot_same (slice_index ws 2) (slot_of 1 v) s1) (slot_same (slice_index ws 3) (slot_of 2 v) s2) (slot_same (slice_index ws 4) (slot_of 3 v) s3) (slot_same (slice_index ws 5) (slot_of 4 v) s4) (slot_same (slice_index ws 6) (slot_of 5 v) s5) (slot_same (slice_index ws 7) (slot_of 6 v) s6) (slot_same (slice_index ws 8) (slot_of 7 v) s7) in
    λ i. record {
      link = link_same (slice_index ws 0) v.link link i;
      slots = slots i;
      addr = addr i;
      ep = ep i;
      page0 = page0 i;
      max = max i;
      dir_in = dir_in i;
      page1 = page1 i;
      multi = multi i;
      page2 = page2 i;
      page3 = page3 i;
      page4 = page4 i;
      page5 = page5 i;
      page6 = page6 i;
    }

-- a descriptor that was written is read
pub itd_read-words : (v : Itd) → IsItdInRange v → itd_read (itd_words v) ≡ Ok v
unfolding itd_read itd_bad itd_words
itd_read-words v fit =
    let said = says-words_of itd_layout (itd_words v) v refl fit.fields refl in
    ap (λ bad. unless_bad bad (itd_at (itd_words v))) said.1 ∙ ap Ok (sym (itd_same (itd_words v) v fit.eight said.0))

-- what no reserved bit breaks is written as it was
itd_whole : (ws : List ℕ) → length ws ≡ 16 → ((k : ℕ) → slice_index ws k < 2 ^ 32) → itd_bad ws ≡ None → (itd_words (itd_at ws) ≡ ws) × IsItdInRange (itd_at ws)
unfolding itd_bad itd_words itd_at
itd_whole ws lengths small free =
    let whole = words_of-says itd_layout ws (itd_at ws) refl lengths small (itd_says ws) free in
    (whole.0, record { eight = refl; fields = whole.1 })

-- a descriptor that was read is written as it was
pub itd_words-read : (ws : List ℕ) (v : Itd) → length ws ≡ 16 → ((k : ℕ) → slice_index ws k < 2 ^ 32) → itd_read ws ≡ Ok v → (itd_words v ≡ ws) × IsItdInRange v
unfolding itd_read
itd_words-read ws v lengths small e =
    let answer = unless_bad-ok (itd_bad ws) (itd_at ws) v e in
    subst (λ x. (itd_words x ≡ ws) × IsItdInRange x) answer.1 (itd_whole ws lengths small answer.0)

-- ---- what an answer says

pub itd_accepts : (ws : List ℕ) (r : Result Itd Bad) → length ws ≡ 16 → ((k : ℕ) → slice_index ws k < 2 ^ 32) → r ≡ itd_read ws → IfOk r (λ v. (itd_words v ≡ ws) × IsItdInRange v)
itd_accepts ws (Ok v) lengths small e = itd_words-read ws v lengths small (sym e)
itd_accepts ws (Err bad) lengths small e = tt

pub itd_reads_back : (ws : List ℕ) (r : Result Itd Bad) → r ≡ itd_read ws → (v : Itd) → IsItdInRange v → itd_words v ≡ ws → r ≡ Ok v
itd_reads_back ws r e v fit same = e ∙ ap itd_read (sym same) ∙ itd_read-words v fit

pub itd_refuses : (ws : List ℕ) (r : Result Itd Bad) → r ≡ itd_read ws → IfErr r (λ bad. itd_bad ws ≡ Some bad)
unfolding itd_read
itd_refuses ws (Ok v) e = tt
itd_refuses ws (Err bad) e = unless_bad-err (itd_bad ws) (itd_at ws) bad (sym e)

-- ---- single words of a descriptor

pub itd_words-length : (v : Itd) → length (itd_words v) ≡ 16
unfolding itd_words
itd_words-length v = refl

-- a store of the link's word changes the link alone
pub itd_words-link : (v : Itd) (l : LinkBits) → slice_set (itd_words v) 0 (word_of link_rows l) ≡ itd_words (record v { link = l })
unfolding itd_words
itd_words-link v l = refl

-- where the link leads
pub itd_at-link : (ws : List ℕ) → link_of (itd_at ws).link ≡ link_read (slice_index ws 0)
unfolding itd_at link_read
itd_at-link ws = refl

-- ---- one microframe of a descriptor

words_at : (v : Itd) (a0 a1 a2 a3 a4 a5 a6 a7 s : ItdSlot) (k : ℕ) → k < 8 → itd_words (record v { slots = slice_set (a0 ∷ a1 ∷ a2 ∷ a3 ∷ a4 ∷ a5 ∷ a6 ∷ a7 ∷ []) k s }) ≡ slice_set (itd_words (record v { slots = a0 ∷ a1 ∷ a2 ∷ a3 ∷ a4 ∷ a5 ∷ a6 ∷ a7 ∷ [] })) (suc k) (slot_word s)
unfolding itd_words slot_word
words_at v a0 a1 a2 a3 a4 a5 a6 a7 s (suc (suc (suc (suc (suc (suc (suc (suc k)))))))) l = absurd (omega arith)
words_at v a0 a1 a2 a3 a4 a5 a6 a7 s _ l = refl

-- a store of a microframe's word changes that microframe alone
pub itd_words-slot : (v : Itd) (s : ItdSlot) (k : ℕ) → length v.slots ≡ 8 → k < 8 → itd_words (record v { slots = slice_set v.slots k s }) ≡ slice_set (itd_words v) (suc k) (slot_word s)
itd_words-slot v s k eight within =
    subst (λ (xs : List ItdSlot). itd_words (record v { slots = slice_set xs k s }) ≡ slice_set (itd_words (record v { slots = xs })) (suc k) (slot_word s)) (sym (eight_slots v.slots eight)) (words_at v (slot_of 0 v) (slot_of 1 v) (slot_of 2 v) (slot_of 3 v) (slot_of 4 v) (slot_of 5 v) (slot_of 6 v) (slot_of 7 v) s k within)

fits_at : (v : Itd) (a0 a1 a2 a3 a4 a5 a6 a7 s : ItdSlot) (k : ℕ) → k < 8 → IsInRange itd_layout (record v { slots = a0 ∷ a1 ∷ a2 ∷ a3 ∷ a4 ∷ a5 ∷ a6 ∷ a7 ∷ [] }) → IsWordInRange slot_rows s → IsInRange itd_layout (record v { slots = slice_set (a0 ∷ a1 ∷ a2 ∷ a3 ∷ a4 ∷ a5 ∷ a6 ∷ a7 ∷ []) k s })
fits_at v a0 a1 a2 a3 a4 a5 a6 a7 s zero lt (l, (p0, (p1, (p2, (p3, (p4, (p5, (p6, (p7, rest))))))))) fit = (l, (fit, (p1, (p2, (p3, (p4, (p5, (p6, (p7, rest)))))))))
fits_at v a0 a1 a2 a3 a4 a5 a6 a7 s (suc zero) lt (l, (p0, (p1, (p2, (p3, (p4, (p5, (p6, (p7, rest))))))))) fit = (l, (p0, (fit, (p2, (p3, (p4, (p5, (p6, (p7, rest)))))))))
fits_at v a0 a1 a2 a3 a4 a5 a6 a7 s (suc (suc zero)) lt (l, (p0, (p1, (p2, (p3, (p4, (p5, (p6, (p7, rest))))))))) fit = (l, (p0, (p1, (fit, (p3, (p4, (p5, (p6, (p7, rest)))))))))
fits_at v a0 a1 a2 a3 a4 a5 a6 a7 s (suc (suc (suc zero))) lt (l, (p0, (p1, (p2, (p3, (p4, (p5, (p6, (p7, rest))))))))) fit = (l, (p0, (p1, (p2, (fit, (p4, (p5, (p6, (p7, rest)))))))))
fits_at v a0 a1 a2 a3 a4 a5 a6 a7 s (suc (suc (suc (suc zero)))) lt (l, (p0, (p1, (p2, (p3, (p4, (p5, (p6, (p7, rest))))))))) fit = (l, (p0, (p1, (p2, (p3, (fit, (p5, (p6, (p7, rest)))))))))
fits_at v a0 a1 a2 a3 a4 a5 a6 a7 s (suc (suc (suc (suc (suc zero))))) lt (l, (p0, (p1, (p2, (p3, (p4, (p5, (p6, (p7, rest))))))))) fit = (l, (p0, (p1, (p2, (p3, (p4, (fit, (p6, (p7, rest)))))))))
fits_at v a0 a1 a2 a3 a4 a5 a6 a7 s (suc (suc (suc (suc (suc (suc zero)))))) lt (l, (p0, (p1, (p2, (p3, (p4, (p5, (p6, (p7, rest))))))))) fit = (l, (p0, (p1, (p2, (p3, (p4, (p5, (fit, (p7, rest)))))))))
fits_at v a0 a1 a2 a3 a4 a5 a6 a7 s (suc (suc (suc (suc (suc (suc (suc zero))))))) lt (l, (p0, (p1, (p2, (p3, (p4, (p5, (p6, (p7, rest))))))))) fit = (l, (p0, (p1, (p2, (p3, (p4, (p5, (p6, (fit, rest)))))))))
fits_at v a0 a1 a2 a3 a4 a5 a6 a7 s (suc (suc (suc (suc (suc (suc (suc (suc k)))))))) lt all fit = absurd (omega arith)

-- a descriptor stays in its range with a microframe that is in its own
pub IsItdInRange-slot : (v : Itd) (s : ItdSlot) (k : ℕ) → IsItdInRange v → k < 8 → IsWordInRange slot_rows s → IsItdInRange (record v { slots = slice_set v.slots k s })
IsItdInRange-slot v s k range within fit =
    record {
      eight = length-set v.slots k s ∙ range.eight;
      fields = subst (λ (xs : List ItdSlot). IsInRange itd_layout (record v { slots = slice_set xs k s })) (sym (eight_slots v.slots range.eight)) (fits_at v (slot_of 0 v) (slot_of 1 v) (slot_of 2 v) (slot_of 3 v) (slot_of 4 v) (slot_of 5 v) (slot_of 6 v) (slot_of 7 v) s k within (subst (λ (xs : List ItdSlot). IsInRange itd_layout (record v { slots = xs })) (eight_slots v.slots range.eight) range.fields) fit);
    }

-- each microframe of a descriptor in its range is in its own
pub slot_in_range : (v : Itd) (k : ℕ) → IsItdInRange v → k < 8 → IsWordInRange slot_rows (slot_of k v)
slot_in_range v zero range l = range.fields.1.0
slot_in_range v (suc zero) range l = range.fields.1.1.0
slot_in_range v (suc (suc zero)) range l = range.fields.1.1.1.0
slot_in_range v (suc (suc (suc zero))) range l = range.fields.1.1.1.1.0
slot_in_range v (suc (suc (suc (suc zero)))) range l = range.fields.1.1.1.1.1.0
slot_in_range v (suc (suc (suc (suc (suc zero))))) range l = range.fields.1.1.1.1.1.1.0
slot_in_range v (suc (suc (suc (suc (suc (suc zero)))))) range l = range.fields.1.1.1.1.1.1.1.0
slot_in_range v (suc (suc (suc (suc (suc (suc (suc zero))))))) range l = range.fields.1.1.1.1.1.1.1.1.0
slot_in_range v (suc (suc (suc (suc (suc (suc (suc (suc k)))))))) range l = absurd (omega arith)

-- ---- what was read

pub itd_read-is : (ws : List ℕ) (v : Itd) → itd_read ws ≡ Ok v → v ≡ itd_at ws
unfolding itd_read
itd_read-is ws v e = sym (unless_bad-ok (itd_bad ws) (itd_at ws) v e).1

pub itd_read-link : (ws : List ℕ) (v : Itd) → itd_read ws ≡ Ok v → link_of v.link ≡ link_read (slice_index ws 0)
itd_read-link ws v e = ap (λ x. link_of x.link) (itd_read-is ws v e) ∙ itd_at-link ws

slot_of-at : (ws : List ℕ) (k : ℕ) → k < 8 → slot_of k (itd_at ws) ≡ slot_at (slice_index ws (suc k))
unfolding itd_at
slot_of-at ws (suc (suc (suc (suc (suc (suc (suc (suc k)))))))) l = absurd (omega arith)
slot_of-at ws _ l = refl

pub itd_read-slot : (ws : List ℕ) (v : Itd) (k : ℕ) → itd_read ws ≡ Ok v → k < 8 → slot_of k v ≡ slot_at (slice_index ws (suc k))
itd_read-slot ws v k e within = ap (slot_of k) (itd_read-is ws v e) ∙ slot_of-at ws k within

-- for `using`: that what was written is read, and what single words say and change
pub ruleset itd_laws = (itd_read-words, itd_words-length, itd_words-link, itd_words-slot, itd_at-link)
