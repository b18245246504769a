-- The stored words come in the order of their first frames, each once.
use Rattle.std.proofs.Common.{◌≡◌, ℕ, Bool, true, false, List, [], ◌∷◌, ◌++◌, map, nat_eq, cond, if◌then◌else◌, refl, sym, subst}
use Rattle.std.specs.Prelude.{filter}
use Rattle.std.specs.List.{AllByRecursion, flat_map}
use Rattle.std.proofs.lemmas.Bool.{eqb-true}
use Rattle.drv_chains.specs.declared.members.Member.{Member}
use Rattle.drv_chains.specs.declared.members.Predecessor.{Predecessor}
use Rattle.drv_chains.specs.Order.{ComesFirst, frames, AreInOrder}
use Rattle.drv_chains.specs.Chains.{Schedule, stands_in, predecessor, predecessors, word_met, first_frame}
use Rattle.drv_chains.proofs.Orders.{in_order}

met_all : (P : ℕ → Type 0) (word : Predecessor) (f : ℕ) (rest : List Predecessor) (b : Bool) → nat_eq (first_frame word) f ≡ b → P f → AllByRecursion P (map first_frame rest) → AllByRecursion P (map first_frame ((if b then word ∷ [] else []) ++ rest))
met_all P word f rest true e h k = (subst P (sym (eqb-true (first_frame word) f e)) h, k)
met_all P word f rest false e h k = k

stand_all : (P : ℕ → Type 0) (s : Schedule) (m : Member) (f : ℕ) (fs : List ℕ) (b : Bool) → P f → AllByRecursion P (map first_frame (flat_map (word_met s m) fs)) → AllByRecursion P (map first_frame (flat_map (word_met s m) (cond b (f ∷ fs) fs)))
stand_all P s m f fs true h k = met_all P (predecessor s m f) f (flat_map (word_met s m) fs) (nat_eq (first_frame (predecessor s m f)) f) refl h k
stand_all P s m f fs false h k = k

all_first : (P : ℕ → Type 0) (s : Schedule) (m : Member) (fs : List ℕ) → AllByRecursion P fs → AllByRecursion P (map first_frame (flat_map (word_met s m) (filter (λ f. stands_in f m) fs)))
all_first P s m [] k = tt
all_first P s m (f ∷ fs) k = stand_all P s m f (filter (λ g. stands_in g m) fs) (stands_in f m) k.0 (all_first P s m fs k.1)

met_order : (word : Predecessor) (f : ℕ) (rest : List Predecessor) (b : Bool) → nat_eq (first_frame word) f ≡ b → AllByRecursion (ComesFirst f) (map first_frame rest) → AreInOrder (map first_frame rest) → AreInOrder (map first_frame ((if b then word ∷ [] else []) ++ rest))
unfolding AreInOrder
met_order word f rest true e h k = (subst (λ x. AllByRecursion (ComesFirst x) (map first_frame rest)) (sym (eqb-true (first_frame word) f e)) h, k)
met_order word f rest false e h k = k

stand_order : (s : Schedule) (m : Member) (f : ℕ) (fs : List ℕ) (b : Bool) → AllByRecursion (ComesFirst f) (map first_frame (flat_map (word_met s m) fs)) → AreInOrder (map first_frame (flat_map (word_met s m) fs)) → AreInOrder (map first_frame (flat_map (word_met s m) (cond b (f ∷ fs) fs)))
stand_order s m f fs true h k = met_order (predecessor s m f) f (flat_map (word_met s m) fs) (nat_eq (first_frame (predecessor s m f)) f) refl h k
stand_order s m f fs false h k = k

words_in_order : (s : Schedule) (m : Member) (fs : List ℕ) → AreInOrder fs → AreInOrder (map first_frame (predecessors s m fs))
unfolding AreInOrder predecessors
words_in_order s m [] k = tt
words_in_order s m (f ∷ fs) k = stand_order s m f (filter (λ g. stands_in g m) fs) (stands_in f m) (all_first (ComesFirst f) s m fs k.0) (words_in_order s m fs k.1)

pub stores_in_order : (s : Schedule) (m : Member) (bits : ℕ) → AreInOrder (map first_frame (predecessors s m (frames bits)))
stores_in_order s m bits = words_in_order s m (frames bits) (in_order bits)
