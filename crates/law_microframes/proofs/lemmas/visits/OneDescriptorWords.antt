-- Whether something of a descriptor is active, by its words and by the structure that they are.
use Rattle.std.proofs.Common.{◌≡◌, ℕ, zero, suc, ◌+◌, ◌*◌, ◌<◌, Bool, true, false, not, cond, List, [], ◌∷◌, refl, ap, sym, ◌∙◌, arith, get_or}
use Rattle.std.specs.List.{list_any}
use Rattle.std.proofs.lemmas.Bool.{not-true, or_parts}
use Rattle.law_common.proofs.Booleans.{none_late}
use Rattle.word_mem.specs.Memory.{Mem, word_at}
use Rattle.word_mem.proofs.Words.{get_or-words_in}
use Rattle.bandwidth.specs.Placements.{below}
use Rattle.itd_sitd.specs.declared.itd.Itd.{Itd}
use Rattle.itd_sitd.specs.declared.sitd.Sitd.{Sitd}
use Rattle.itd_sitd.specs.Slot.{slot_at}
use Rattle.itd_sitd.specs.Itd.{slot_of, itd_words}
use Rattle.itd_sitd.specs.Sitd.{sitd_at, sitd_words}
use Rattle.itd_sitd.proofs.ItdLaws.{itd_read-words, itd_read-slot}
use Rattle.itd_sitd.proofs.SitdLaws.{sitd_read-words, sitd_read-is}
use Rattle.drv_periodic_table.specs.declared.content.DescriptorNote.{DescriptorNote}
use Rattle.drv_periodic_table.specs.Descriptors.{slot_in, sitd_in, itd_is_active, is_served}
use Rattle.law_structures.specs.lent_structures.Structures.{HoldsIsochronous, HoldsSplitIsochronous}

-- ---- of eight

pub any_none : (p : ℕ → Bool) → ((u : ℕ) → u < 8 → p u ≡ false) → list_any p (below 8) ≡ false
any_none p each =
    none_late (p 0) _ (each 0 (omega arith))
    (none_late (p 1) _ (each 1 (omega arith))
    (none_late (p 2) _ (each 2 (omega arith))
    (none_late (p 3) _ (each 3 (omega arith))
    (none_late (p 4) _ (each 4 (omega arith))
    (none_late (p 5) _ (each 5 (omega arith)) (none_late (p 6) _ (each 6 (omega arith))
    (none_late (p 7) false (each 7 (omega arith)) refl)))))))

pub none_any : (p : ℕ → Bool) → list_any p (below 8) ≡ false → (u : ℕ) → u < 8 → p u ≡ false
none_any p none u few =
    let a0 = or_parts (p 0) _ none in
    let a1 = or_parts (p 1) _ a0.1 in
    let a2 = or_parts (p 2) _ a1.1 in
    let a3 = or_parts (p 3) _ a2.1 in
    let a4 = or_parts (p 4) _ a3.1 in
    let a5 = or_parts (p 5) _ a4.1 in
    let a6 = or_parts (p 6) _ a5.1 in
    let a7 = or_parts (p 7) _ a6.1 in
    by u few a0.0 a1.0 a2.0 a3.0 a4.0 a5.0 a6.0 a7.0
  where
    by : (u : ℕ) → u < 8 → p 0 ≡ false → p 1 ≡ false → p 2 ≡ false → p 3 ≡ false → p 4 ≡ false → p 5 ≡ false → p 6 ≡ false → p 7 ≡ false → p u ≡ false
    by zero few a b c d e f g h = a
    by (suc zero) few a b c d e f g h = b
    by (suc (suc zero)) few a b c d e f g h = c
    by (suc (suc (suc zero))) few a b c d e f g h = d
    by (suc (suc (suc (suc zero)))) few a b c d e f g h = e
    by (suc (suc (suc (suc (suc zero))))) few a b c d e f g h = f
    by (suc (suc (suc (suc (suc (suc zero)))))) few a b c d e f g h = g
    by (suc (suc (suc (suc (suc (suc (suc zero))))))) few a b c d e f g h = h
    by (suc (suc (suc (suc (suc (suc (suc (suc u)))))))) few a b c d e f g h = absurd (omega (arith, few))

-- ---- an iTD in memory (3.3.2)

pub slot_word : (m : Mem) (b u : ℕ) (v : Itd) → HoldsIsochronous m (32 * b) v → u < 8 → slot_in m b u ≡ slot_of u v
slot_word m b u v h few =
    let at : 32 * b + 4 + 4 * u ≡ 32 * b + 4 * suc u = omega arith in
    ap (λ (i : ℕ). slot_at (word_at m i)) at
    ∙ ap slot_at (sym (get_or-words_in m.words (32 * b) 16 (suc u) (omega (arith, few))))
    ∙ ap (λ (ws : List ℕ). slot_at (get_or ws (suc u) 0)) h.words
    ∙ sym (itd_read-slot (itd_words v) v u (itd_read-words v h.range) few)

pub itd_quiet : (m : Mem) (b : ℕ) (v : Itd) → HoldsIsochronous m (32 * b) v → itd_is_active m b ≡ false → (u : ℕ) → u < 8 → (slot_of u v).active ≡ false
itd_quiet m b v h none u few = sym (ap (λ s. s.active) (slot_word m b u v h few)) ∙ none_any (λ u. (slot_in m b u).active) none u few

pub quiet_itd : (m : Mem) (b : ℕ) (v : Itd) → HoldsIsochronous m (32 * b) v → ((u : ℕ) → u < 8 → (slot_of u v).active ≡ false) → itd_is_active m b ≡ false
quiet_itd m b v h each = any_none (λ u. (slot_in m b u).active) (λ u few. ap (λ s. s.active) (slot_word m b u v h few) ∙ each u few)

-- ---- a siTD in memory (3.4.3)

-- its word 3 tells it
abbrev pub split_word : ℕ → Bool
split_word w = (sitd_at (0 ∷ 0 ∷ 0 ∷ w ∷ [])).active

pub sitd_by : (m : Mem) (b : ℕ) → (sitd_in m b).active ≡ split_word (word_at m (32 * b + 12))
unfolding sitd_at
sitd_by m b = refl

words_by : (ws : List ℕ) → (sitd_at ws).active ≡ split_word (get_or ws 3 0)
unfolding sitd_at
words_by ws = refl

pub sitd_held : (m : Mem) (b : ℕ) (v : Sitd) → HoldsSplitIsochronous m (32 * b) v → (sitd_in m b).active ≡ v.active
sitd_held m b v h =
    sitd_by m b
    ∙ ap split_word (sym (get_or-words_in m.words (32 * b) 7 3 (omega arith)))
    ∙ ap (λ (ws : List ℕ). split_word (get_or ws 3 0)) h.words
    ∙ sym (words_by (sitd_words v))
    ∙ ap (λ (x : Sitd). x.active) (sym (sitd_read-is (sitd_words v) v (sitd_read-words v h.range)))

-- ---- by its words alone

pub data Calms (w v : ℕ) : Type 0 where
  same : v ≡ w → Calms w v
  cleared : v ≡ 0 → Calms w v

slot_zero : (slot_at 0).active ≡ false
unfolding slot_at
slot_zero = refl

split_zero : split_word 0 ≡ false
unfolding sitd_at
split_zero = refl

slot_calms : (w v : ℕ) → Calms w v → (slot_at w).active ≡ false → (slot_at v).active ≡ false
slot_calms w v (same is) off = ap (λ (i : ℕ). (slot_at i).active) is ∙ off
slot_calms w v (cleared is) off = ap (λ (i : ℕ). (slot_at i).active) is ∙ slot_zero

split_calms : (w v : ℕ) → Calms w v → split_word w ≡ false → split_word v ≡ false
split_calms w v (same is) off = ap split_word is ∙ off
split_calms w v (cleared is) off = ap split_word is ∙ split_zero

-- each word that tells it is as before, or cleared: words 1 to 8 of an iTD, word 3 of a siTD
pub record AreCalm (split : Bool) (m new : Mem) (b : ℕ) : Type 0 where
  pub slots : split ≡ false → (u : ℕ) → u < 8 → Calms (word_at m (32 * b + 4 + 4 * u)) (word_at new (32 * b + 4 + 4 * u))
  pub state : split ≡ true → Calms (word_at m (32 * b + 12)) (word_at new (32 * b + 12))

pub served_split : (note : DescriptorNote) (m : Mem) (b : ℕ) → note.split ≡ true → is_served note m b ≡ not (sitd_in m b).active
served_split note m b is = ap (λ (s : Bool). not (cond s (sitd_in m b).active (itd_is_active m b))) is

pub served_itd : (note : DescriptorNote) (m : Mem) (b : ℕ) → note.split ≡ false → is_served note m b ≡ not (itd_is_active m b)
served_itd note m b is = ap (λ (s : Bool). not (cond s (sitd_in m b).active (itd_is_active m b))) is

pub served_off : (note : DescriptorNote) (m : Mem) (b : ℕ) → note.split ≡ false → is_served note m b ≡ true → itd_is_active m b ≡ false
served_off note m b is on = not-true (itd_is_active m b) (sym (served_itd note m b is) ∙ on)

pub split_off : (note : DescriptorNote) (m : Mem) (b : ℕ) → note.split ≡ true → is_served note m b ≡ true → (sitd_in m b).active ≡ false
split_off note m b is on = not-true (sitd_in m b).active (sym (served_split note m b is) ∙ on)

pub stays_served : (note now : DescriptorNote) (m new : Mem) (b : ℕ) → now.split ≡ note.split → AreCalm note.split m new b → is_served note m b ≡ true → is_served now new b ≡ true
stays_served note now m new b alike calm on = by note.split refl
  where
    by : (split : Bool) → note.split ≡ split → is_served now new b ≡ true
    by true is =
        let was : split_word (word_at m (32 * b + 12)) ≡ false = sym (sitd_by m b) ∙ split_off note m b is on in
        served_split now new b (alike ∙ is) ∙ ap not (sitd_by new b ∙ split_calms (word_at m (32 * b + 12)) (word_at new (32 * b + 12)) (calm.state is) was)
    by false is =
        let was : itd_is_active m b ≡ false = served_off note m b is on in
        served_itd now new b (alike ∙ is)
        ∙ ap not
        (any_none (λ u. (slot_in new b u).active)
        (λ u few. slot_calms (word_at m (32 * b + 4 + 4 * u)) (word_at new (32 * b + 4 + 4 * u)) (calm.slots is u few) (none_any (λ u. (slot_in m b u).active) was u few)))
