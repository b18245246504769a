-- What several reads and writes of the controller do, one after another.
use Rattle.std.proofs.Common.{◌≡◌, ℕ, ◌+◌, ◌*◌, ◌/◌, ◌%◌, ◌<◌, ◌≤◌, true, List, length, slice_get, arith, ap, sym, ◌∙◌, ⊎_elim, refl}
use Rattle.std.proofs.lemmas.Bool.{cases_lt, false≢true}
use Rattle.word_mem.specs.Memory.{Mem, is_lent, reaches}
use Rattle.word_mem.specs.Views.{with_words}
use Rattle.word_mem.proofs.Words.{length-with_words_in, get_or-with_words_in_before, get_or-with_words_in_after}
use Rattle.word_mem.specs.Access.{IsByController}

pub by_nothing : (m : Mem) → IsByController m m
by_nothing m = record { states = refl; sizes = refl; outside = λ at apart. refl; counted = omega arith }

pub by_both : (m q t : Mem) → IsByController m q → IsByController q t → IsByController m t
by_both m q t one two =
    record {
      states = two.states ∙ one.states;
      sizes = two.sizes ∙ one.sizes;
      outside = λ at apart.
          two.outside at (ap (λ ss. is_lent (slice_get ss (at / 32))) one.states ∙ apart) ∙ one.outside at apart;
      counted = omega (arith, one.counted, two.counted);
    }

-- words written into a Lent block
pub by_words : (m : Mem) (at : ℕ) (ws : List ℕ) → at % 4 ≡ 0 → at % 32 + 4 * length ws ≤ 32 → at / 4 + length ws ≤ length m.words → reaches m at ≡ true → IsByController m (with_words m at ws)
by_words m at ws aligned one_block within reached =
    record {
      states = refl;
      sizes = length-with_words_in m.words at ws;
      outside = λ other apart.
          ⊎_elim
          (λ (before : other / 4 < at / 4). get_or-with_words_in_before m.words at ws (other / 4) within before)
          (λ (from : at / 4 ≤ other / 4).
          ⊎_elim
          (λ (inside : other / 4 < at / 4 + length ws).
          let same : other / 32 ≡ at / 32 = omega arith in
          absurd (false≢true (sym apart ∙ ap (λ b. is_lent (slice_get m.states b)) same ∙ reached)))
          (λ (after : at / 4 + length ws ≤ other / 4). get_or-with_words_in_after m.words at ws (other / 4) within after)
          (cases_lt (other / 4) (at / 4 + length ws)))
          (cases_lt (other / 4) (at / 4));
      counted = omega arith;
    }
