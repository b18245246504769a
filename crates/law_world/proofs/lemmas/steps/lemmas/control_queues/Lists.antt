-- qTDs in their order: without one of them, and before one of them.
use Rattle.std.proofs.Common.{◌≡◌, ◌≢◌, ℕ, Bool, true, false, List, [], ◌∷◌, ◌++◌, ap, ⊎_elim, inl, inr, ◌⊎◌, arith, if◌then◌else◌}
use Rattle.law_queues.proofs.Common.{behind_less}
use Rattle.law_ring.proofs.Common.{among_either}
use Rattle.law_queues.proofs.Common.{lower}
use Rattle.law_ring.specs.Order.{AreAfter, IsSorted, IsAmong}
use Rattle.law_controller.specs.controlled_streams.Returned.{staying}

-- the one at h comes in, or it was among them
pub among_with : (a h : ℕ) (xs ys : List ℕ) → IsAmong a (xs ++ h ∷ ys) → (a ≡ h) ⊎ IsAmong a (xs ++ ys)
among_with a h [] ys (inl is) = inl is
among_with a h [] ys (inr is) = inr is
among_with a h (x ∷ xs) ys (inl is) = inr (inl is)
among_with a h (x ∷ xs) ys (inr is) = ⊎_elim (λ (own : a ≡ h). inl own) (λ (rest : IsAmong a (xs ++ ys)). inr (inr rest)) (among_with a h xs ys is)

-- ---- their order

-- the others aren't this one
pub others_differ : (f : ℕ → ℕ) (h a : ℕ) (xs ys : List ℕ) → IsSorted f (xs ++ h ∷ ys) → IsAmong a (xs ++ ys) → a ≢ h
others_differ f h a xs ys sorted is same =
    ⊎_elim {C = ⊥} (λ (left : IsAmong a xs). let less = lower f h a xs ys sorted left in let e = ap f same in omega (arith, less, e))
    (λ (right : IsAmong a ys). let less = behind_less f h a xs ys sorted right in let e = ap f same in omega (arith, less, e)) (among_either a xs ys is)

-- ---- fewer of them

-- each is among these, in the same order
pub data IsPart : List ℕ → List ℕ → Type 0 where
  ends : IsPart [] []
  keeps : (x : ℕ) (xs ys : List ℕ) → IsPart xs ys → IsPart (x ∷ xs) (x ∷ ys)
  drops : (y : ℕ) (xs ys : List ℕ) → IsPart xs ys → IsPart xs (y ∷ ys)

pub part_among : (a : ℕ) (xs ys : List ℕ) → IsPart xs ys → IsAmong a xs → IsAmong a ys
part_among a _ _ ends is = absurd is
part_among a _ _ (keeps x xs ys part) (inl is) = inl is
part_among a _ _ (keeps x xs ys part) (inr is) = inr (part_among a xs ys part is)
part_among a _ _ (drops y xs ys part) is = inr (part_among a xs ys part is)

part_after : (f : ℕ → ℕ) (h : ℕ) (xs ys : List ℕ) → IsPart xs ys → AreAfter f h ys → AreAfter f h xs
part_after f h _ _ ends after = tt
part_after f h _ _ (keeps x xs ys part) after = (after.0, part_after f h xs ys part after.1)
part_after f h _ _ (drops y xs ys part) after = part_after f h xs ys part after.1

pub part_sorted : (f : ℕ → ℕ) (xs ys : List ℕ) → IsPart xs ys → IsSorted f ys → IsSorted f xs
part_sorted f _ _ ends sorted = tt
part_sorted f _ _ (keeps x xs ys part) sorted = (part_after f x xs ys part sorted.0, part_sorted f xs ys part sorted.1)
part_sorted f _ _ (drops y xs ys part) sorted = part_sorted f xs ys part sorted.1

pub all_part : (xs : List ℕ) → IsPart xs xs
all_part [] = ends
all_part (x ∷ xs) = keeps x xs xs (all_part xs)

pub both_parts : (xs ys us vs : List ℕ) → IsPart xs us → IsPart ys vs → IsPart (xs ++ ys) (us ++ vs)
both_parts _ ys _ vs ends other = other
both_parts _ ys _ vs (keeps x xs us part) other = keeps x (xs ++ ys) (us ++ vs) (both_parts xs ys us vs part other)
both_parts xs ys _ vs (drops y _ us part) other = drops y (xs ++ ys) (us ++ vs) (both_parts xs ys us vs part other)

pub one_less : (h : ℕ) (xs ys : List ℕ) → IsPart (xs ++ ys) (xs ++ h ∷ ys)
one_less h xs ys = both_parts xs ys xs (h ∷ ys) (all_part xs) (drops h ys ys (all_part ys))

pub staying_part : (goes : ℕ → Bool) (xs : List ℕ) → IsPart (staying goes xs) xs
staying_part goes [] = ends
staying_part goes (x ∷ xs) = by (goes x) (staying_part goes xs)
  where
    by : (b : Bool) → IsPart (staying goes xs) xs → IsPart (if b then staying goes xs else x ∷ staying goes xs) (x ∷ xs)
    by true part = drops x (staying goes xs) xs part
    by false part = keeps x (staying goes xs) xs part
