-- Words 3 to 5 of a siTD that is told are written (EHCI 1.0, 3.4.3, 3.4.4 and 4.12.3.3).
use Rattle.std.proofs.Common.{◌≡◌, ℕ, ◌+◌, ◌/◌, ◌%◌, ◌<◌, ◌≤◌, ◌⊎◌, Bool, true, false, List, ◌++◌, length, take, drop, slice_get, if◌then◌else◌, Some, ap, refl, sym, ◌∙◌, ⊎_elim, inl, inr, add_assoc, arith}
use Rattle.std.proofs.lemmas.Bool.{cases_lt}
use Rattle.law_structures.proofs.Common.{block_inside}
use Rattle.word_mem.specs.Memory.{Mem, reaches, is_lent, refused}
use Rattle.word_mem.specs.Views.{words_in, words_at, with_words_in, with_words}
use Rattle.word_mem.specs.declared.blocks.BlockState.{BlockState}
use Rattle.word_mem.proofs.Words.{length-with_words_in, words_in-with_words_in_same, words_in-with_words_in_apart}
use Rattle.itd_sitd.specs.declared.sitd.Sitd.{Sitd}
use Rattle.itd_sitd.specs.Sitd.{sitd_words, IsSitdInRange}
use Rattle.mem_descriptors.specs.Descriptors.{state_words, state_written}
use Rattle.mem_descriptors.proofs.WriteBack.{state_outside, state_states}
use Rattle.law_structures.specs.lent_structures.Structures.{SplitIsochronous, HoldsSplitIsochronous, StructureSets, put, Tells}
use Rattle.law_structures.specs.lent_structures.Changes.{Changes}
use Rattle.law_structures.proofs.lemmas.lent_structures.Telling.{change_is_told}

-- ---- seven words in a row

row_split : (ws : List ℕ) (a : ℕ) → words_in ws a 7 ≡ words_in ws a 3 ++ (words_in ws (a + 12) 3 ++ words_in ws (a + 24) 1)
unfolding words_in
row_split ws a = simp add_assoc

row_front : (ws : List ℕ) (a : ℕ) → take 3 (words_in ws a 7) ≡ words_in ws a 3
unfolding words_in
row_front ws a = refl

row_last : (ws : List ℕ) (a : ℕ) → drop 6 (words_in ws a 7) ≡ words_in ws (a + 24) 1
unfolding words_in
row_last ws a = simp add_assoc

three : (v : Sitd) → length (state_words v) ≡ 3
unfolding sitd_words
three v = refl

whole : (v : Sitd) → take 3 (sitd_words v) ++ (state_words v ++ drop 6 (sitd_words v)) ≡ sitd_words v
unfolding sitd_words
whole v = refl

row_written : (ws : List ℕ) (a : ℕ) (d new : Sitd) → a % 32 ≡ 0 → a / 4 + 7 ≤ length ws → words_in ws a 7 ≡ sitd_words d → take 3 (sitd_words new) ≡ take 3 (sitd_words d)
    → drop 6 (sitd_words new) ≡ drop 6 (sitd_words d) → words_in (with_words_in ws (a + 12) (state_words new)) a 7 ≡ sitd_words new
row_written ws a d new aligned room words front last =
    let st : List ℕ = state_words new in
    let after : List ℕ = with_words_in ws (a + 12) st in
    let long = three new in
    let within : (a + 12) / 4 + length st ≤ length ws = omega (arith, long, room) in
    let first : words_in after a 3 ≡ take 3 (sitd_words new) =
    words_in-with_words_in_apart ws a 3 (a + 12) st (omega (arith, aligned)) within (inl (omega arith)) ∙ sym (row_front ws a) ∙ ap (take 3) words ∙ sym front in
    let middle : words_in after (a + 12) 3 ≡ st =
    ap (words_in after (a + 12)) (sym long) ∙ words_in-with_words_in_same ws (a + 12) st (omega (arith, aligned)) within in
    let end : words_in after (a + 24) 1 ≡ drop 6 (sitd_words new) =
    words_in-with_words_in_apart ws (a + 24) 1 (a + 12) st (omega (arith, aligned)) within (inr (omega (arith, long))) ∙ sym (row_last ws a) ∙ ap (drop 6) words ∙ sym last in
    row_split after a
    ∙ ap (λ (xs : List ℕ). xs ++ (words_in after (a + 12) 3 ++ words_in after (a + 24) 1)) first
    ∙ ap (λ (xs : List ℕ). take 3 (sitd_words new) ++ (xs ++ words_in after (a + 24) 1)) middle
    ∙ ap (λ (xs : List ℕ). take 3 (sitd_words new) ++ (st ++ xs)) end
    ∙ whole new

-- ---- in its block

-- a word outside the block lies before or after the three
beside_one : (a other : ℕ) → a % 32 ≡ 0 → (other / 32 ≡ a / 32 → ⊥) → (other < a + 12) ⊎ (a + 24 ≤ other)
beside_one a other aligned outside =
    ⊎_elim (λ (low : other < a). inl (omega (arith, low)))
    (λ (high : a ≤ other).
    ⊎_elim (λ (inside : other < a + 32). absurd (outside (omega (arith, aligned, high, inside)))) (λ (past : a + 32 ≤ other). inr (omega (arith, past))) (cases_lt other (a + 32))) (cases_lt other a)

size_at : (b : Bool) (m : Mem) (a : ℕ) (ws : List ℕ) → length (if b then with_words m (a + 12) ws else refused m).words ≡ length m.words
size_at true m a ws = length-with_words_in m.words (a + 12) ws
size_at false m a ws = refl

state_changes : (m : Mem) (a : ℕ) (d v : Sitd) → a % 32 ≡ 0 → Changes m (state_written m a (state_words v)) a (SplitIsochronous d)
state_changes m a d v aligned = record {
  states = state_states m a (state_words v);
  size = size_at (reaches m a) m a (state_words v);
  outside = λ other outside. state_outside m a (state_words v) other (omega (arith, aligned)) (three v) (beside_one a other aligned outside);
}

-- ---- the siTD after it

-- the link doesn't stand in these words
relinked_state : (v d : Sitd) → state_words (record v { link = d.link }) ≡ state_words v
unfolding sitd_words
relinked_state v d = refl

relinked_range : (v d : Sitd) → IsSitdInRange d → IsSitdInRange v → IsSitdInRange (record v { link = d.link })
relinked_range v d (link, before) (old, rest) = (link, rest)

-- words 3 to 5 of a copy are written; the others are those in memory
pub state_put : (m : Mem) (parts : StructureSets) (n a : ℕ) (d v : Sitd) → Tells m parts → parts n a ≡ Some (SplitIsochronous d) → IsSitdInRange v
    → take 3 (sitd_words (record v { link = d.link })) ≡ take 3 (sitd_words d) → drop 6 (sitd_words (record v { link = d.link })) ≡ drop 6 (sitd_words d)
    → Tells (state_written m a (state_words v)) (put parts n a (SplitIsochronous (record v { link = d.link })))
state_put m parts n a d v t here range front last =
    let h : HoldsSplitIsochronous m a d = t.each n a (SplitIsochronous d) here in
    let new : Sitd = record v { link = d.link } in
    let room = block_inside m a t.shape h.aligned h.lent in
    let written : state_written m a (state_words v) ≡ with_words m (a + 12) (state_words new) =
    ap (λ (b : Bool). if b then with_words m (a + 12) (state_words v) else refused m) h.lent
    ∙ ap (with_words m (a + 12)) (sym (relinked_state v d)) in
    change_is_told m (state_written m a (state_words v)) parts n a (SplitIsochronous d) (SplitIsochronous new) t here (state_changes m a d v h.aligned) (λ b has. has)
    (record {
      aligned = h.aligned;
      lent = ap (λ (ss : List BlockState). is_lent (slice_get ss (a / 32))) (state_states m a (state_words v)) ∙ h.lent;
      words = ap (λ (x : Mem). words_at x a 7) written ∙ row_written m.words a d new h.aligned (omega (arith, room)) h.words front last;
      range = relinked_range v d h.range range;
    })
