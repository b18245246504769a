-- The driver's runs stand in memory as they did, whatever the controller wrote.
use Rattle.std.proofs.Common.{◌≡◌, ℕ, ◌+◌, ◌*◌, ◌/◌, ◌<◌, ◌≤◌, false, Some, length, slice_get, slice_index, ap, sym, subst, ◌∙◌, arith}
use Rattle.mem_runs.specs.Book.{Book, holding, Stands}
use Rattle.word_mem.specs.declared.blocks.BlockState.TheVariants.{Free}
use Rattle.word_mem.specs.Memory.{Mem, is_lent, reaches}
use Rattle.word_mem.specs.Access.{IsByController}

-- the word at place i of block b
place_block : (b i : ℕ) → i < 8 → 4 * (8 * b + i) / 32 ≡ b
place_block b i h = omega arith

place_word : (b i : ℕ) → 4 * (8 * b + i) / 4 ≡ 8 * b + i
place_word b i = omega arith

-- The driver's book stands in memory, whatever the controller wrote.
pub book_stands : (k : Book) (old new : Mem) → Stands (holding k old) → IsByController old new → Stands (holding k new)
book_stands k old new s by = record {
  held = record {
    each = λ b h. ap (λ ss. slice_get ss b) by.states ∙ s.held.each b (subst (λ ss. b < length ss) by.states h);
    once = s.held.once;
    within = λ b h. s.held.within b (subst (λ ss. length ss ≤ b) by.states h);
  };
  placed = s.placed;
  clean = λ b i free h.
      let was : slice_get old.states b ≡ Some Free = ap (λ ss. slice_get ss b) (sym by.states) ∙ free in
      let out : reaches old (4 * (8 * b + i)) ≡ false = ap (λ n. is_lent (slice_get old.states n)) (place_block b i h) ∙ ap is_lent was in
      ap (λ n. slice_index new.words n) (sym (place_word b i))
      ∙ by.outside (4 * (8 * b + i)) out
      ∙ ap (λ n. slice_index old.words n) (place_word b i)
      ∙ s.clean b i was h;
  sizes = s.sizes ∙ ap length (sym by.states);
  few = s.few;
}
