-- What a lend leaves of what was Lent.
use Rattle.std.proofs.Common.{◌≡◌, ℕ, ◌+◌, ◌/◌, ◌≤◌, reverse, List, [], ◌∷◌, length, ap, refl, ◌∙◌, arith}
use Rattle.law_driver_ring.proofs.Common.{kept_before}
use Rattle.law_driver_ring.proofs.Common.{leaves_itself}
use Rattle.word_mem.specs.Runs.{Run}
use Rattle.word_mem.specs.Memory.{Mem, IsShaped, is_lent, with_states}
use Rattle.word_mem.specs.declared.blocks.BlockState.TheVariants.{Kept, Lent}
use Rattle.word_mem.proofs.Frames.{run_within, shaped_states, lent_if_reached}
use Rattle.mem_runs.specs.declared.slots.Slot.{Slot}
use Rattle.mem_runs.specs.declared.slots.Slot.TheVariants.{Keeps}
use Rattle.mem_runs.specs.Book.{Holding, slot_of, slot_at, lend_slot, lend_runs, none_taken, lend_taken, Stands}
use Rattle.mem_runs.proofs.Standing.{keeps_at, keeps_all}
use Rattle.law_structures.specs.lent_structures.Changes.{Leaves}
use Rattle.law_structures.proofs.lemmas.lent_structures.Lending.{lend_leaves}

pub leaves_both : (m n o : Mem) → Leaves m n → Leaves n o → Leaves m o
leaves_both m n o one two = record {
  shape = two.shape;
  lent = λ b lent. two.lent b (one.lent b lent);
  words = λ other reached. two.words other (ap is_lent (one.lent (other / 32) (lent_if_reached m other reached))) ∙ one.words other reached;
}

-- each run that is kept lies in memory
pub record AreWithin (h : Holding) : Type 0 where
  pub shape : IsShaped h.memory
  pub each : (b : ℕ) (r : Run) → slot_of h.book.slots b ≡ Keeps r → r.first + r.blocks ≤ length h.memory.states

pub stands_within : (h : Holding) → Stands h → IsShaped h.memory → AreWithin h
stands_within h stands shape = record {
  shape = shape;
  each = λ b r is. run_within h.memory Kept r (keeps_all h b r stands is) (keeps_at h b r stands is).1;
}

-- one run
pub record LendsOn (h g : Holding) : Type 0 where
  pub leaves : Leaves h.memory g.memory
  pub within : AreWithin g

slot_lends : (h : Holding) (b : ℕ) (s : Slot) → slot_at h b ≡ s → AreWithin h → LendsOn h (lend_slot h b s)
slot_lends h b (Keeps r) is within =
    let room = within.each b r is in
    let shape = shaped_states h.memory r Lent room within.shape in
    record {
      leaves = lend_leaves h.memory r room within.shape;
      within = record {
        shape = shape;
        each = λ c s kept. let low = within.each c s (kept_before h.book.slots b c r s is kept) in
            let many : length (with_states h.memory r Lent).states ≡ length h.memory.states = let one = shape.eight_each in let two = within.shape.eight_each in omega (arith, one, two) in
            omega (arith, low, many);
      };
    }
slot_lends h b _ is within = record { leaves = leaves_itself h.memory within.shape; within = within }

runs_lend : (bs : List ℕ) (h : Holding) → AreWithin h → LendsOn h (lend_runs h bs)
unfolding lend_runs
runs_lend [] h within = record { leaves = leaves_itself h.memory within.shape; within = within }
runs_lend (b ∷ bs) h within =
    let one = slot_lends h b (slot_at h b) refl within in
    let rest = runs_lend bs (lend_slot h b (slot_at h b)) one.within in
    record { leaves = leaves_both h.memory (lend_slot h b (slot_at h b)).memory (lend_runs (lend_slot h b (slot_at h b)) bs).memory one.leaves rest.leaves; within = rest.within }

-- what was taken is lent
pub lend_taken_leaves : (h : Holding) → Stands h → IsShaped h.memory → Leaves h.memory (lend_taken h).memory
lend_taken_leaves h stands shape =
    let w = stands_within h stands shape in
    (runs_lend (reverse h.book.taken) (none_taken h) (record { shape = w.shape; each = w.each })).leaves
