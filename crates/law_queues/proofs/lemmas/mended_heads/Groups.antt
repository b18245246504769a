-- What is left of the stores of stalled queues, once one is made, and where one more queue is stalled.
use Rattle.std.proofs.Common.{◌≡◌, ◌≢◌, ℕ, zero, suc, ◌<◌, List, [], ◌∷◌, ◌++◌, drop, slice_get, Some, ap, ◌∙◌, refl, arith}
use Rattle.std.specs.List.{AllByRecursion}
use Rattle.law_queues.proofs.Common.{first_of}
use Rattle.drv_table.specs.declared.content.Mend.{Mend}
use Rattle.law_queues.specs.mended_heads.Owed.{StalledQueue, mends_at, left_of, all_left, store_due, AreApart}
use Rattle.law_queues.proofs.lemmas.mended_heads.Content.{all_more}

-- ---- one queue more

append_assoc : {X : Type 0} (xs ys zs : List X) → xs ++ (ys ++ zs) ≡ (xs ++ ys) ++ zs
append_assoc [] ys zs = refl
append_assoc (x ∷ xs) ys zs = ap (λ (ws : List _). x ∷ ws) (append_assoc xs ys zs)

append_none : {X : Type 0} (xs : List X) → xs ++ [] ≡ xs
append_none [] = refl
append_none (x ∷ xs) = ap (λ (ws : List _). x ∷ ws) (append_none xs)

pub left_more : (ss : List StalledQueue) (s : StalledQueue) → all_left (ss ++ s ∷ []) ≡ all_left ss ++ left_of s
left_more [] s = append_none (left_of s)
left_more (r ∷ ss) s = ap (λ (ws : List Mend). left_of r ++ ws) (left_more ss s) ∙ append_assoc (left_of r) (all_left ss) (left_of s)

pub apart_more : (ss : List StalledQueue) (s : StalledQueue) → AreApart ss → AllByRecursion (λ r. s.queue ≢ r.queue) ss → AreApart (ss ++ s ∷ [])
apart_more [] s apart all = (tt, tt)
apart_more (r ∷ ss) s apart all = (all_more (λ (q : StalledQueue). q.queue ≢ r.queue) ss s apart.0 all.0, apart_more ss s apart.1 all.1)

-- ---- a store is made

pub first_left : (s : StalledQueue) (ss : List StalledQueue) → s.made < 3 → slice_get (all_left (s ∷ ss)) 0 ≡ Some (store_due s)
first_left s ss below = first_of s.queue s.onward s.made (all_left ss) below

-- the queues that are still owed stores
abbrev pub rest_by : ℕ → StalledQueue → List StalledQueue → List StalledQueue
rest_by zero s ss = record s { made = 1 } ∷ ss
rest_by (suc zero) s ss = record s { made = 2 } ∷ ss
rest_by _ s ss = ss

rest_of : (s : StalledQueue) (ss : List StalledQueue) (made : ℕ) → made < 3 → drop 1 (drop made (mends_at s.queue s.onward) ++ all_left ss) ≡ all_left (rest_by made s ss)
rest_of s ss (suc (suc (suc n))) below = absurd (omega (arith, below))
rest_of s ss _ below = refl

pub rest_left : (s : StalledQueue) (ss : List StalledQueue) → s.made < 3 → drop 1 (all_left (s ∷ ss)) ≡ all_left (rest_by s.made s ss)
rest_left s ss below = rest_of s ss s.made below

-- what is so of the first, with one store more, and of the others
pub rest_all : (P : StalledQueue → Type 0) (s : StalledQueue) (ss : List StalledQueue) (made : ℕ) → made < 3 → (suc made < 3 → P (record s { made = suc made })) → AllByRecursion P ss → AllByRecursion P (rest_by made s ss)
rest_all P s ss (suc (suc n)) below one all = all
rest_all P s ss _ below one all = (one (omega arith), all)

pub rest_apart : (s : StalledQueue) (ss : List StalledQueue) (made : ℕ) → AreApart (s ∷ ss) → AreApart (rest_by made s ss)
rest_apart s ss (suc (suc n)) apart = apart.1
rest_apart s ss _ apart = apart
