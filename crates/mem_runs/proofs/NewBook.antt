-- A book of no runs, for memory just built.
use Rattle.std.proofs.Common.{◌≡◌, ℕ, zero, suc, ◌+◌, ◌*◌, ◌/◌, ◌<◌, ◌≤◌, [], length, get_or, replicate, arith, ap, sym, subst, ◌∙◌, ⊎_elim, refl}
use Rattle.std.proofs.lemmas.Bool.{cases_lt}
use Rattle.std.proofs.lemmas.List.{length-replicate, get_or-replicate, get_or_past}
use Rattle.word_mem.specs.Memory.{Mem, fresh}
use Rattle.word_mem.specs.Owners.{IsHeldBy}
use Rattle.word_mem.proofs.Holders.{held_fresh}
use Rattle.word_mem.specs.declared.blocks.BlockState.TheVariants.{Free}
use Rattle.mem_runs.specs.Book.{holding, Stands, IsAt, kept_in, lent_in, slot_of}
use Rattle.mem_runs.specs.declared.slots.Slot.TheVariants.{Empty}

kept_none : (n : ℕ) → kept_in (replicate n Empty) ≡ []
kept_none zero = refl
kept_none (suc n) = kept_none n

lent_none : (n : ℕ) → lent_in (replicate n Empty) ≡ []
lent_none zero = refl
lent_none (suc n) = lent_none n

slot_none : (n b : ℕ) → slot_of (replicate n Empty) b ≡ Empty
slot_none zero b = get_or_past [] b Empty (omega arith)
slot_none (suc n) zero = refl
slot_none (suc n) (suc b) = slot_none n b

all_same : (n i z : ℕ) → get_or (replicate n z) i z ≡ z
all_same n i z =
    ⊎_elim (λ (below : i < n). get_or-replicate n i z z below)
    (λ (past : n ≤ i). get_or_past (replicate n z) i z (omega (arith, length-replicate n z))) (cases_lt i n)

pub stands_new : (n : ℕ) → Stands (holding (record { slots = replicate (n / 8) Empty; taken = [] }) (fresh n))
stands_new n =
    record {
      held =
          subst (λ ks. IsHeldBy (fresh n) ks (lent_in (replicate (n / 8) Empty))) (sym (kept_none (n / 8)))
          (subst (λ ls. IsHeldBy (fresh n) [] ls) (sym (lent_none (n / 8))) (held_fresh n));
      placed = λ b. subst (λ s. IsAt b s) (sym (slot_none (n / 8) b)) tt;
      clean = λ b i free below. all_same n (8 * b + i) 0;
      sizes = omega (arith, length-replicate (n / 8) Empty, length-replicate (n / 8) Free);
      few = omega arith;
    }

-- memory just built, by its own size
pub fresh_again : (m : Mem) (n : ℕ) → m ≡ fresh n → m ≡ fresh (length m.words)
fresh_again m n new =
    let long : length m.words ≡ n = ap (λ (q : Mem). length q.words) new ∙ length-replicate {A = ℕ} n 0 in
    new ∙ ap fresh (sym long)
