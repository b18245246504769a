-- Two runs are lent: their slots, and the states of their blocks.
use Rattle.std.proofs.Common.{◌≡◌, ◌≢◌, ℕ, ◌+◌, ◌<◌, ◌≤◌, ◌⊎◌, List, [], ◌∷◌, length, set, reverse, ap, refl, sym, subst, ◌∙◌, ⊎_elim, inl, inr, arith}
use Rattle.std.proofs.lemmas.Bool.{cases_lt}
use Rattle.std.proofs.lemmas.List.{get_or-set_same, get_or-set_other}
use Rattle.word_mem.specs.Runs.{Run, AreApart}
use Rattle.word_mem.specs.Memory.{Mem, IsShaped, AreAll, with_states}
use Rattle.word_mem.specs.declared.blocks.BlockState.TheVariants.{Kept, Lent}
use Rattle.word_mem.proofs.Frames.{run_within, shaped_states, AreAll-with_states, AreAll-with_states_apart}
use Rattle.word_mem.proofs.Holders.{has_block_from}
use Rattle.mem_runs.specs.declared.slots.Slot.{Slot}
use Rattle.mem_runs.specs.declared.slots.Slot.TheVariants.{Empty, Keeps, Lends}
use Rattle.mem_runs.specs.Book.{Holding, slot_of, slot_at, lend_slot, lend_runs, none_taken, lend_taken, Stands}
use Rattle.mem_runs.proofs.Standing.{keeps_within, keeps_at, keeps_all}
use Rattle.claims_driver.specs.Owners.{SlotHas}
use Rattle.law_driver.proofs.lemmas.run_owners.Apart.{runs_apart}

-- ---- slots

slot_other : (h : Holding) (b c : ℕ) (s : Slot) → c ≢ b → slot_at (lend_slot h b s) c ≡ slot_at h c
slot_other h b c (Keeps r) differs = get_or-set_other h.book.slots b c (Lends r) Empty differs
slot_other h b c _ differs = refl

-- another slot than those of both
pub other_slot : (h : Holding) (a b c : ℕ) → h.book.taken ≡ a ∷ b ∷ [] → c ≢ a → c ≢ b → slot_at (lend_taken h) c ≡ slot_at h c
unfolding lend_runs
other_slot h a b c taken first second =
    let one = lend_slot (none_taken h) b (slot_at (none_taken h) b) in
    ap (λ (bs : List ℕ). slot_at (lend_runs (none_taken h) (reverse bs)) c) taken
    ∙ slot_other one a c (slot_at one a) first ∙ slot_other (none_taken h) b c (slot_at (none_taken h) b) second

-- ---- states

pub kept_apart : (h : Holding) (a b : ℕ) (r s : Run) → Stands h → a ≢ b → slot_of h.book.slots a ≡ Keeps r → slot_of h.book.slots b ≡ Keeps s → AreApart s r
kept_apart h a b r s stands differs one other =
    ⊎_elim (λ (low : s.first + s.blocks ≤ r.first). inl low)
    (λ (over : r.first < s.first + s.blocks).
    ⊎_elim (λ (high : r.first + r.blocks ≤ s.first). inr high)
    (λ (also : s.first < r.first + r.blocks).
    absurd (⊎_elim (λ (before : s.first < r.first). both r.first (omega (arith, before)) over (omega arith) (let p = (keeps_at h a r stands one).1 in omega (arith, p)))
    (λ (after : r.first ≤ s.first). both s.first (omega arith) (let p = (keeps_at h b s stands other).1 in omega (arith, p)) after also) (cases_lt s.first r.first)))
    (le_or s.first (r.first + r.blocks))) (le_or r.first (s.first + s.blocks))
  where
    le_or : (k n : ℕ) → (n ≤ k) ⊎ (k < n)
    le_or k n = ⊎_elim (λ (below : k < n). inr below) (λ (from : n ≤ k). inl from) (cases_lt k n)

    both : (x : ℕ) → s.first ≤ x → x < s.first + s.blocks → r.first ≤ x → x < r.first + r.blocks → ⊥
    both x from_s below_s from_r below_r =
        runs_apart h b a x stands differs (subst (λ (t : Slot). SlotHas t x) (sym other) (has_block_from s x from_s below_s)) (subst (λ (t : Slot). SlotHas t x) (sym one) (has_block_from r x from_r below_r))

-- both runs are Lent
pub record AreBothLent (m : Mem) (r s : Run) : Type 0 where
  pub first : AreAll m Lent r
  pub second : AreAll m Lent s

pub kept_within : (h : Holding) (b : ℕ) (r : Run) → Stands h → slot_of h.book.slots b ≡ Keeps r → r.first + r.blocks ≤ length h.memory.states
kept_within h b r stands is = run_within h.memory Kept r (keeps_all h b r stands is) (keeps_at h b r stands is).1

two_states : (m : Mem) (r s : Run) → IsShaped m → r.first + r.blocks ≤ length m.states → s.first + s.blocks ≤ length m.states → AreApart s r → AreBothLent (with_states (with_states m s Lent) r Lent) r s
two_states m r s shape room also apart =
    let one = with_states m s Lent in
    let shaped = shaped_states m s Lent also shape in
    let many : length one.states ≡ length m.states = let a = shaped.eight_each in let b = shape.eight_each in omega (arith, a, b) in
    let within : r.first + r.blocks ≤ length one.states = omega (arith, many, room) in
    record {
      first = AreAll-with_states one r Lent within;
      second = AreAll-with_states_apart one r Lent s Lent within apart (AreAll-with_states m s Lent also);
    }

pub both_lent : (h : Holding) (a b : ℕ) (r s : Run) → Stands h → IsShaped h.memory → a ≢ b → h.book.taken ≡ a ∷ b ∷ [] → slot_of h.book.slots a ≡ Keeps r → slot_of h.book.slots b ≡ Keeps s → AreBothLent (lend_taken h).memory r s
unfolding lend_runs
both_lent h a b r s stands shape differs taken one other =
    let none = none_taken h in
    let second : slot_at (lend_slot none b (Keeps s)) a ≡ Keeps r = slot_other none b a (Keeps s) differs ∙ one in
    subst (λ (bs : List ℕ). AreBothLent (lend_runs none (reverse bs)).memory r s) (sym taken)
    (subst (λ (t : Slot). AreBothLent (lend_slot (lend_slot none b t) a (slot_at (lend_slot none b t) a)).memory r s) (sym other)
    (subst (λ (t : Slot). AreBothLent (lend_slot (lend_slot none b (Keeps s)) a t).memory r s) (sym second)
    (two_states h.memory r s shape (kept_within h a r stands one) (kept_within h b s stands other) (kept_apart h a b r s stands differs one other))))

-- both slots lend
pub record LendBoth (h : Holding) (a b : ℕ) (r s : Run) : Type 0 where
  pub first : slot_at h a ≡ Lends r
  pub second : slot_at h b ≡ Lends s

pub both_lend : (h : Holding) (a b : ℕ) (r s : Run) → a ≢ b → h.book.taken ≡ a ∷ b ∷ [] → slot_of h.book.slots a ≡ Keeps r → slot_of h.book.slots b ≡ Keeps s → LendBoth (lend_taken h) a b r s
unfolding lend_runs
both_lend h a b r s differs taken one other =
    let none = none_taken h in
    let slots = set h.book.slots b (Lends s) in
    let second : slot_at (lend_slot none b (Keeps s)) a ≡ Keeps r = slot_other none b a (Keeps s) differs ∙ one in
    subst (λ (bs : List ℕ). LendBoth (lend_runs none (reverse bs)) a b r s) (sym taken)
    (subst (λ (t : Slot). LendBoth (lend_slot (lend_slot none b t) a (slot_at (lend_slot none b t) a)) a b r s) (sym other)
    (subst (λ (t : Slot). LendBoth (lend_slot (lend_slot none b (Keeps s)) a t) a b r s) (sym second)
    (record {
      first = get_or-set_same slots a (Lends r) Empty (keeps_within slots a r second);
      second = get_or-set_other slots a b (Lends r) Empty (λ same. differs (sym same)) ∙ get_or-set_same h.book.slots b (Lends s) Empty (keeps_within h.book.slots b s other);
    })))
