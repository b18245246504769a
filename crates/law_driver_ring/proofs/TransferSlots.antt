-- Runs are lent: their slots, and the states of their blocks.
use Rattle.std.proofs.Common.{◌≡◌, ◌≢◌, ℕ, List, [], ◌∷◌, length, reverse, ap, refl, sym, subst, ◌∙◌, ⊎_elim, inl, inr, arith}
use Rattle.std.proofs.lemmas.Bool.{cases_eq}
use Rattle.std.proofs.lemmas.List.{get_or-set_same, get_or-set_other}
use Rattle.law_driver_ring.proofs.Common.{kept_before}
use Rattle.law_driver.proofs.Common.{lends_keeps}
use Rattle.word_mem.specs.Runs.{Run}
use Rattle.word_mem.specs.Memory.{IsShaped, AreAll, with_states}
use Rattle.word_mem.specs.declared.blocks.BlockState.TheVariants.{Lent}
use Rattle.word_mem.proofs.Frames.{shaped_states, AreAll-with_states}
use Rattle.mem_runs.specs.declared.slots.Slot.{Slot}
use Rattle.mem_runs.specs.declared.slots.Slot.TheVariants.{Empty, Keeps, Lends}
use Rattle.mem_runs.specs.Book.{Holding, slot_of, slot_at, lend_slot, lend_runs, none_taken, lend_taken, Stands}
use Rattle.mem_runs.proofs.Standing.{keeps_within}
use Rattle.law_structures.proofs.lemmas.lent_structures.Lending.{lend_leaves}
use Rattle.law_driver_ring.proofs.Lent.{AreWithin, stands_within}
use Rattle.law_driver_ring.proofs.Lists.{IsOneOf, one_reverse, one_reversed}

-- ---- one run is lent

empty_no_lends : (r : Run) → Empty ≡ Lends r → ⊥
empty_no_lends r same = cc

within_one : (h : Holding) (b : ℕ) (s : Slot) → slot_at h b ≡ s → AreWithin h → AreWithin (lend_slot h b s)
within_one h b Empty is within = within
within_one h b (Lends r) is within = within
within_one h b (Keeps r) is within =
    let room = within.each b r is in
    record {
      shape = shaped_states h.memory r Lent room within.shape;
      each = λ c s kept. let low = within.each c s (kept_before h.book.slots b c r s is kept) in
          let many : length (with_states h.memory r Lent).states ≡ length h.memory.states =
          let one = (shaped_states h.memory r Lent room within.shape).eight_each in let two = within.shape.eight_each in omega (arith, one, two) in
          omega (arith, low, many);
    }

-- the run that begins in block c is lent, with all its blocks
pub record IsLentRun (h : Holding) (c : ℕ) (r : Run) : Type 0 where
  pub slot : slot_at h c ≡ Lends r
  pub blocks : AreAll h.memory Lent r

stays_one : (h : Holding) (b : ℕ) (s : Slot) (c : ℕ) (r : Run) → slot_at h b ≡ s → AreWithin h → IsLentRun h c r → IsLentRun (lend_slot h b s) c r
stays_one h b Empty c r is within lent = lent
stays_one h b (Lends q) c r is within lent = lent
stays_one h b (Keeps q) c r is within lent = record {
  slot = get_or-set_other h.book.slots b c (Lends q) Empty (λ same. lends_keeps r q (sym lent.slot ∙ ap (slot_at h) same ∙ is)) ∙ lent.slot;
  blocks = λ k from below. (lend_leaves h.memory q (within.each b q is) within.shape).lent k (lent.blocks k from below);
}

other_one : (h : Holding) (b : ℕ) (s : Slot) (c : ℕ) → c ≢ b → slot_at (lend_slot h b s) c ≡ slot_at h c
other_one h b Empty c differs = refl
other_one h b (Keeps r) c differs = get_or-set_other h.book.slots b c (Lends r) Empty differs
other_one h b (Lends r) c differs = refl

new_one : (h : Holding) (c : ℕ) (r : Run) → slot_at h c ≡ Keeps r → AreWithin h → IsLentRun (lend_slot h c (Keeps r)) c r
new_one h c r is within = record {
  slot = get_or-set_same h.book.slots c (Lends r) Empty (keeps_within h.book.slots c r is);
  blocks = AreAll-with_states h.memory r Lent (within.each c r is);
}

-- ---- some runs are lent

runs_stay : (bs : List ℕ) (h : Holding) (c : ℕ) (r : Run) → AreWithin h → IsLentRun h c r → IsLentRun (lend_runs h bs) c r
unfolding lend_runs
runs_stay [] h c r within lent = lent
runs_stay (b ∷ bs) h c r within lent =
    runs_stay bs (lend_slot h b (slot_at h b)) c r (within_one h b (slot_at h b) refl within) (stays_one h b (slot_at h b) c r refl within lent)

runs_others : (bs : List ℕ) (h : Holding) (c : ℕ) → (IsOneOf c bs → ⊥) → slot_at (lend_runs h bs) c ≡ slot_at h c
unfolding lend_runs
runs_others [] h c none = refl
runs_others (b ∷ bs) h c none = runs_others bs (lend_slot h b (slot_at h b)) c (λ there. none (inr there)) ∙ other_one h b (slot_at h b) c (λ same. none (inl same))

runs_new : (bs : List ℕ) (h : Holding) (c : ℕ) (r : Run) → AreWithin h → IsOneOf c bs → slot_at h c ≡ Keeps r → IsLentRun (lend_runs h bs) c r
unfolding lend_runs
runs_new [] h c r within one is = absurd one
runs_new (b ∷ bs) h c r within one is =
    let s = slot_at h b in
    let next = within_one h b s refl within in
    ⊎_elim
    (λ (same : c ≡ b).
    let at : slot_at h b ≡ Keeps r = ap (slot_at h) (sym same) ∙ is in
    runs_stay bs (lend_slot h b s) c r next
    (subst (λ (i : ℕ). IsLentRun (lend_slot h b s) i r) (sym same) (subst (λ (t : Slot). IsLentRun (lend_slot h b t) b r) (sym at) (new_one h b r at within))))
    (λ (differs : c ≢ b).
    runs_new bs (lend_slot h b s) c r next (⊎_elim (λ (same : c ≡ b). absurd (differs same)) (λ (there : IsOneOf c bs). there) one) (other_one h b s c differs ∙ is))
    (cases_eq c b)

-- ---- what was taken is lent

none_within : (h : Holding) → Stands h → IsShaped h.memory → AreWithin (none_taken h)
none_within h stands shape = let w = stands_within h stands shape in record { shape = w.shape; each = w.each }

pub taken_lent : (h : Holding) (c : ℕ) (r : Run) → Stands h → IsShaped h.memory → IsOneOf c h.book.taken → slot_of h.book.slots c ≡ Keeps r → IsLentRun (lend_taken h) c r
taken_lent h c r stands shape one is = runs_new (reverse h.book.taken) (none_taken h) c r (none_within h stands shape) (one_reverse c h.book.taken one) is

pub others_stay : (h : Holding) (c : ℕ) → (IsOneOf c h.book.taken → ⊥) → slot_at (lend_taken h) c ≡ slot_at h c
others_stay h c none = runs_others (reverse h.book.taken) (none_taken h) c (λ one. none (one_reversed c h.book.taken one))

lends_one : (h : Holding) (b : ℕ) (s : Slot) (c : ℕ) (r : Run) → slot_at h b ≡ s → slot_at h c ≡ Lends r → slot_at (lend_slot h b s) c ≡ Lends r
lends_one h b Empty c r is lent = lent
lends_one h b (Lends q) c r is lent = lent
lends_one h b (Keeps q) c r is lent = get_or-set_other h.book.slots b c (Lends q) Empty (λ same. lends_keeps r q (sym lent ∙ ap (slot_at h) same ∙ is)) ∙ lent

lends_stay : (bs : List ℕ) (h : Holding) (c : ℕ) (r : Run) → slot_at h c ≡ Lends r → slot_at (lend_runs h bs) c ≡ Lends r
unfolding lend_runs
lends_stay [] h c r lent = lent
lends_stay (b ∷ bs) h c r lent = lends_stay bs (lend_slot h b (slot_at h b)) c r (lends_one h b (slot_at h b) c r refl lent)

pub lent_stays : (h : Holding) (c : ℕ) (r : Run) → slot_of h.book.slots c ≡ Lends r → slot_at (lend_taken h) c ≡ Lends r
lent_stays h c r lent = lends_stay (reverse h.book.taken) (none_taken h) c r lent
