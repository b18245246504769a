-- Memory from a base on: what is reached, read and written there is what the memory has at the places from its first word on.
use Rattle.std.proofs.Common.{◌≡◌, ℕ, zero, suc, ◌+◌, ◌-◌, ◌*◌, ◌/◌, ◌%◌, ◌<◌, ◌≤◌, Bool, true, false, cond, List, [], ◌∷◌, ◌++◌, length, replicate, slice_get, slice_index, slice_set, Some, None, arith, refl, ap, sym, ◌∙◌, ⊎_elim}
use Rattle.std.proofs.lemmas.Bool.{cases_lt, false≢true}
use Rattle.std.proofs.lemmas.List.{length-replicate, get_or-append_right, get_or_append_left, set-append_right, length-append}
use Rattle.std.proofs.lemmas.Option.{slice_get_past}
use Rattle.word_mem.specs.Memory.{Mem, is_lent, reaches, word_at, with_word, refused}
use Rattle.word_mem.specs.Access.{IsByController}
use Rattle.word_mem.specs.Views.{words_in, with_words_in, words_at, with_words}
use Rattle.word_mem.specs.declared.blocks.BlockState.{BlockState}
use Rattle.word_mem.specs.declared.blocks.BlockState.TheVariants.{Free}
use Rattle.image_show.specs.Base.{lowered}
use Rattle.app_probe.specs.Window.{from_base, IsWindow}

-- ---- lists with n equal elements before them

got_behind : (n i : ℕ) (x : BlockState) (ys : List BlockState) → n ≤ i → slice_get (replicate n x ++ ys) i ≡ slice_get ys (i - n)
got_behind zero i x ys le = let e : i ≡ i - 0 = omega arith in ap (λ (k : ℕ). slice_get ys k) e
got_behind (suc n) zero x ys le = absurd (omega arith)
got_behind (suc n) (suc i) x ys le =
    let e : i - n ≡ suc i - suc n = omega arith in got_behind n i x ys (omega arith) ∙ ap (λ (k : ℕ). slice_get ys k) e

got_before : (n i : ℕ) (x : BlockState) (ys : List BlockState) → i < n → slice_get (replicate n x ++ ys) i ≡ Some x
got_before zero i x ys lt = absurd (omega arith)
got_before (suc n) zero x ys lt = refl
got_before (suc n) (suc i) x ys lt = got_before n i x ys (omega arith)

-- ---- what is reached

reached_behind : (b : ℕ) (m : Mem) (at : ℕ) → b % 32 ≡ 0 → b ≤ at → reaches (from_base b m) at ≡ reaches m (at - b)
reached_behind b m at based le =
    let e : at / 32 - b / 32 ≡ (at - b) / 32 = omega arith in
    ap is_lent (got_behind (b / 32) (at / 32) Free m.states (omega arith) ∙ ap (λ (k : ℕ). slice_get m.states k) e)

reached_before : (b : ℕ) (m : Mem) (at : ℕ) → b % 32 ≡ 0 → at < b → reaches (from_base b m) at ≡ false
reached_before b m at based lt = ap is_lent (got_before (b / 32) (at / 32) Free m.states (omega arith))

not_reached : (m : Mem) (at : ℕ) → length m.states ≤ at / 32 → reaches m at ≡ false
not_reached m at le = ap is_lent (slice_get_past m.states (at / 32) le)

-- the place of an address from the base on
placed : (b at : ℕ) → b ≤ at → at < 4294967296 → lowered b at ≡ at - b
placed b at le small = omega arith

-- the place of an address below the base is past the last word
placed_past : (b at n : ℕ) → at < b → b + 32 * n < 4294967296 → n ≤ lowered b at / 32
placed_past b at n lt ends = omega arith

pub reached_from : (b : ℕ) (m : Mem) (at : ℕ) → b % 32 ≡ 0 → b + 32 * length m.states < 4294967296 → at < 4294967296
    → reaches (from_base b m) at ≡ reaches m (lowered b at)
reached_from b m at based ends small =
    ⊎_elim
    (λ (lt : at < b). reached_before b m at based lt ∙ sym (not_reached m (lowered b at) (placed_past b at (length m.states) lt ends)))
    (λ (le : b ≤ at). reached_behind b m at based le ∙ ap (reaches m) (sym (placed b at le small)))
    (cases_lt at b)

-- what is reached isn't below the base
from_there : (b : ℕ) (m : Mem) (at : ℕ) → b + 32 * length m.states < 4294967296 → reaches m (lowered b at) ≡ true → b ≤ at
from_there b m at ends reached =
    ⊎_elim (λ (lt : at < b). absurd (false≢true (sym (not_reached m (lowered b at) (placed_past b at (length m.states) lt ends)) ∙ reached)))
    (λ (le : b ≤ at). le) (cases_lt at b)

-- ---- what is read

read_behind : (b : ℕ) (ws : List ℕ) (at : ℕ) → b % 4 ≡ 0 → b ≤ at → slice_index (replicate (b / 4) 0 ++ ws) (at / 4) ≡ slice_index ws ((at - b) / 4)
read_behind b ws at based le =
    let e : at / 4 - b / 4 ≡ (at - b) / 4 = omega arith in
    get_or-append_right (replicate (b / 4) 0) ws (b / 4) (at / 4) 0 (length-replicate {A = ℕ} (b / 4) 0) (omega arith)
    ∙ ap (λ (k : ℕ). slice_index ws k) e

words_behind : (b : ℕ) (ws : List ℕ) (at n : ℕ) → b % 4 ≡ 0 → b ≤ at → words_in (replicate (b / 4) 0 ++ ws) at n ≡ words_in ws (at - b) n
unfolding words_in
words_behind b ws at zero based le = refl
words_behind b ws at (suc n) based le =
    let e : at + 4 - b ≡ at - b + 4 = omega arith in
    ap (λ (w : ℕ). w ∷ words_in (replicate (b / 4) 0 ++ ws) (at + 4) n) (read_behind b ws at based le)
    ∙ ap (λ (rest : List ℕ). slice_index ws ((at - b) / 4) ∷ rest)
    (words_behind b ws (at + 4) n based (omega arith) ∙ ap (λ (k : ℕ). words_in ws k n) e)

-- ---- what is written

set_behind : (b : ℕ) (ws : List ℕ) (at v : ℕ) → b % 4 ≡ 0 → b ≤ at
    → slice_set (replicate (b / 4) 0 ++ ws) (at / 4) v ≡ replicate (b / 4) 0 ++ slice_set ws ((at - b) / 4) v
set_behind b ws at v based le =
    let e : at / 4 - b / 4 ≡ (at - b) / 4 = omega arith in
    set-append_right (replicate (b / 4) 0) ws (b / 4) (at / 4) v (length-replicate {A = ℕ} (b / 4) 0) (omega arith)
    ∙ ap (λ (k : ℕ). replicate (b / 4) 0 ++ slice_set ws k v) e

put_behind : (b : ℕ) (ws : List ℕ) (at : ℕ) (vs : List ℕ) → b % 4 ≡ 0 → b ≤ at
    → with_words_in (replicate (b / 4) 0 ++ ws) at vs ≡ replicate (b / 4) 0 ++ with_words_in ws (at - b) vs
unfolding with_words_in
put_behind b ws at [] based le = refl
put_behind b ws at (v ∷ vs) based le =
    let e : at + 4 - b ≡ at - b + 4 = omega arith in
    ap (λ (xs : List ℕ). with_words_in xs (at + 4) vs) (set_behind b ws at v based le)
    ∙ put_behind b (slice_set ws ((at - b) / 4) v) (at + 4) vs based (omega arith)
    ∙ ap (λ (k : ℕ). replicate (b / 4) 0 ++ with_words_in (slice_set ws ((at - b) / 4) v) k vs) e

-- ---- the controller's accesses, by the place of their address

either_way : {A : Type 0} (r : Bool) (x y z w : A) → (r ≡ true → x ≡ y) → z ≡ w → cond r x z ≡ cond r y w
either_way true x y z w one other = one refl
either_way false x y z w one other = other

same_test : {A : Type 0} (r s : Bool) (x y : A) → r ≡ s → cond r x y ≡ cond s x y
same_test r s x y e = ap (λ (b : Bool). cond b x y) e

there : (b : ℕ) (m : Mem) (at : ℕ) → IsWindow b m at → reaches m (lowered b at) ≡ true → lowered b at ≡ at - b
there b m at w reached = placed b at (from_there b m at w.ends reached) w.small

pub read_from : (b : ℕ) (m : Mem) (at : ℕ) → IsWindow b m at
    → (cond (reaches m (lowered b at)) (Some (word_at m (lowered b at))) None)
    ≡ (cond (reaches (from_base b m) at) (Some (word_at (from_base b m) at)) None)
read_from b m at w =
    either_way (reaches m (lowered b at)) (Some (word_at m (lowered b at))) (Some (word_at (from_base b m) at)) None None
    (λ reached. ap Some (ap (word_at m) (there b m at w reached)
    ∙ sym (read_behind b m.words at (omega (arith, w.based)) (from_there b m at w.ends reached)))) refl
    ∙ same_test _ _ (Some (word_at (from_base b m) at)) None (sym (reached_from b m at w.based w.ends w.small))

pub words_from : (b : ℕ) (m : Mem) (at n : ℕ) (into : List ℕ) → IsWindow b m at
    → (cond (reaches m (lowered b at)) (words_at m (lowered b at) n) into)
    ≡ (cond (reaches (from_base b m) at) (words_at (from_base b m) at n) into)
words_from b m at n into w =
    either_way (reaches m (lowered b at)) (words_at m (lowered b at) n) (words_at (from_base b m) at n) into into
    (λ reached. ap (λ (p : ℕ). words_at m p n) (there b m at w reached)
    ∙ sym (words_behind b m.words at n (omega (arith, w.based)) (from_there b m at w.ends reached))) refl
    ∙ same_test _ _ (words_at (from_base b m) at n) into (sym (reached_from b m at w.based w.ends w.small))

base_of_either : (b : ℕ) (r : Bool) (m n : Mem) → from_base b (cond r m n) ≡ cond r (from_base b m) (from_base b n)
base_of_either b true m n = refl
base_of_either b false m n = refl

pub same_from : (b : ℕ) (m : Mem) (at : ℕ) → IsWindow b m at
    → from_base b (cond (reaches m (lowered b at)) m (refused m))
    ≡ (cond (reaches (from_base b m) at) (from_base b m) (refused (from_base b m)))
same_from b m at w =
    base_of_either b (reaches m (lowered b at)) m (refused m)
    ∙ same_test _ _ (from_base b m) (refused (from_base b m)) (sym (reached_from b m at w.based w.ends w.small))

pub written_from : (b : ℕ) (m : Mem) (at v : ℕ) → IsWindow b m at
    → from_base b (cond (reaches m (lowered b at)) (with_word m (lowered b at) v) (refused m))
    ≡ (cond (reaches (from_base b m) at) (with_word (from_base b m) at v) (refused (from_base b m)))
written_from b m at v w =
    base_of_either b (reaches m (lowered b at)) (with_word m (lowered b at) v) (refused m)
    ∙ either_way (reaches m (lowered b at)) (from_base b (with_word m (lowered b at) v)) (with_word (from_base b m) at v)
    (refused (from_base b m)) (refused (from_base b m))
    (λ reached. ap (λ (p : ℕ). from_base b (with_word m p v)) (there b m at w reached)
    ∙ ap (λ (ws : List ℕ). let x : Mem = record (from_base b m) { words = ws } in x)
    (sym (set_behind b m.words at v (omega (arith, w.based)) (from_there b m at w.ends reached)))) refl
    ∙ same_test _ _ (with_word (from_base b m) at v) (refused (from_base b m)) (sym (reached_from b m at w.based w.ends w.small))

pub put_from : (b : ℕ) (m : Mem) (at : ℕ) (vs : List ℕ) → IsWindow b m at
    → from_base b (cond (reaches m (lowered b at)) (with_words m (lowered b at) vs) (refused m))
    ≡ (cond (reaches (from_base b m) at) (with_words (from_base b m) at vs) (refused (from_base b m)))
put_from b m at vs w =
    base_of_either b (reaches m (lowered b at)) (with_words m (lowered b at) vs) (refused m)
    ∙ either_way (reaches m (lowered b at)) (from_base b (with_words m (lowered b at) vs)) (with_words (from_base b m) at vs)
    (refused (from_base b m)) (refused (from_base b m))
    (λ reached. ap (λ (p : ℕ). from_base b (with_words m p vs)) (there b m at w reached)
    ∙ ap (λ (ws : List ℕ). let x : Mem = record (from_base b m) { words = ws } in x)
    (sym (put_behind b m.words at vs (omega (arith, w.based)) (from_there b m at w.ends reached)))) refl
    ∙ same_test _ _ (with_words (from_base b m) at vs) (refused (from_base b m)) (sym (reached_from b m at w.based w.ends w.small))

-- ---- what the controller may change

word_before : (b : ℕ) (ws vs : List ℕ) (at : ℕ) → b % 32 ≡ 0 → at < b
    → slice_index (replicate (b / 4) 0 ++ ws) (at / 4) ≡ slice_index (replicate (b / 4) 0 ++ vs) (at / 4)
word_before b ws vs at based lt =
    let inside : at / 4 < length (replicate {A = ℕ} (b / 4) 0) = omega (arith, length-replicate {A = ℕ} (b / 4) 0) in
    get_or_append_left (replicate (b / 4) 0) ws 0 (at / 4) inside ∙ sym (get_or_append_left (replicate (b / 4) 0) vs 0 (at / 4) inside)

pub by_from : (b : ℕ) (m n : Mem) → b % 32 ≡ 0 → IsByController m n → IsByController (from_base b m) (from_base b n)
by_from b m n based by = record {
  states = ap (λ (ss : List BlockState). replicate (b / 32) Free ++ ss) by.states;
  sizes = length-append (replicate (b / 4) 0) n.words ∙ ap (λ (k : ℕ). length (replicate {A = ℕ} (b / 4) 0) + k) by.sizes
      ∙ sym (length-append (replicate (b / 4) 0) m.words);
  outside = λ at apart.
      ⊎_elim (λ (lt : at < b). word_before b n.words m.words at based lt)
      (λ (le : b ≤ at).
      read_behind b n.words at (omega (arith, based)) le ∙ by.outside (at - b) (sym (reached_behind b m at based le) ∙ apart)
      ∙ sym (read_behind b m.words at (omega (arith, based)) le))
      (cases_lt at b);
  counted = by.counted;
}

-- the last block that an address can name isn't there
pub not_last : (b : ℕ) (m : Mem) (at : ℕ) → b % 32 ≡ 0 → b + 32 * length m.states < 4294963201 → 4294967264 ≤ at
    → reaches (from_base b m) at ≡ false
not_last b m at based ends past = reached_behind b m at based (omega arith) ∙ not_reached m (at - b) (omega arith)
