-- What lists are.
use Rattle.std.proofs.Common.{ℕ, slice_get, ◌≡◌, Some, [], List, ◌∷◌, zero, subst, suc, get_or, drop, refl, ◌++◌, length, inr, sym, inl, ⊎_elim, ap, ◌<◌, arith, Option, None, ◌∙◌, set, take, ◌≤◌, map, Bool, false, slice_set, option_map, cond, true, ◌≢◌, if◌then◌else◌, replicate}
use Rattle.std.specs.List.{AllByRecursion, concat}
use Rattle.std.proofs.lemmas.Option.{same_Some, get_or_from_slice_get}
use Rattle.std.specs.Prelude.{◌⊎◌, find, filter}
use Rattle.std.proofs.lemmas.List.Folds.{concat-append}
use Rattle.std.proofs.lemmas.List.{append-nil, take-append-le, take_all}
use Rattle.std.proofs.lemmas.Bool.{cond-false}
use Rattle.std.proofs.lemmas.Grind.{common_steps}
use Rattle.std.proofs.Math.Seq.{map-set_same}

pub nothing_at : {X : Type 0} (i : ℕ) (z : X) → slice_get [] i ≡ Some z → ⊥
nothing_at i z e = cc

pub nth_all : {X : Type 0} (P : X → Type 0) (xs : List X) (i : ℕ) (x : X) → AllByRecursion P xs → slice_get xs i ≡ Some x → P x
nth_all P [] i x h e = cc
nth_all P (y ∷ ys) zero x h e = subst P (same_Some y x e) h.0
nth_all P (y ∷ ys) (suc i) x h e = nth_all P ys i x h.1 e

pub next_of : (qtds : List ℕ) (i : ℕ) → get_or (get_or qtds 0 0 ∷ drop 1 qtds) i 0 ≡ get_or qtds i 0
next_of [] zero = refl
next_of [] (suc i) = refl
next_of (q ∷ qtds) zero = refl
next_of (q ∷ qtds) (suc i) = refl

pub all_both : {X : Type 0} (P : X → Type 0) (xs ys : List X) → AllByRecursion P xs → AllByRecursion P ys → AllByRecursion P (xs ++ ys)
all_both P [] ys h k = k
all_both P (x ∷ xs) ys h k = (h.0, all_both P xs ys h.1 k)

pub pushed_last : {X : Type 0} (xs : List X) (x : X) → slice_get (xs ++ x ∷ []) (length xs) ≡ Some x
pushed_last [] x = refl
pushed_last (y ∷ ys) x = pushed_last ys x

pub push_which : {X : Type 0} (xs : List X) (y : X) (i : ℕ) (z : X) → slice_get (xs ++ y ∷ []) i ≡ Some z
    → (slice_get xs i ≡ Some z) ⊎ ((i ≡ length xs) × (z ≡ y))
push_which [] y zero z e = inr (refl, sym (same_Some y z e))
push_which [] y (suc i) z e = absurd (cc)
push_which (x ∷ xs) y zero z e = inl e
push_which (x ∷ xs) y (suc i) z e =
    ⊎_elim (λ (w : slice_get xs i ≡ Some z). inl w) (λ (w : (i ≡ length xs) × (z ≡ y)). inr (ap suc w.0, w.1)) (push_which xs y i z e)

pub some_below : {X : Type 0} (xs : List X) (n : ℕ) (z : X) → slice_get xs n ≡ Some z → n < length xs
some_below [] n z here = absurd (cc)
some_below (y ∷ ys) zero z here = omega arith
some_below (y ∷ ys) (suc n) z here = let rest = some_below ys n z here in omega arith

pub push_there : {X : Type 0} (xs : List X) (x : X) (n : ℕ) (z : X) → slice_get xs n ≡ Some z → slice_get (xs ++ x ∷ []) n ≡ Some z
push_there [] x n z here = absurd (cc)
push_there (y ∷ ys) x zero z here = here
push_there (y ∷ ys) x (suc n) z here = push_there ys x n z here

pub all_more : {X : Type 0} (P Q : X → Type 0) (xs : List X) → ((x : X) → P x → Q x) → AllByRecursion P xs → AllByRecursion Q xs
all_more P Q [] g h = tt
all_more P Q (x ∷ xs) g h = (g x h.0, all_more P Q xs g h.1)

pub shift : (b : ℕ) (qtds : List ℕ) (i : ℕ) → get_or (get_or qtds 0 0 ∷ drop 1 qtds) i 0 ≡ get_or (b ∷ qtds) (suc i) 0
shift b qtds i = next_of qtds i

pub still_there : {X : Type 0} (xs ys : List X) (n : ℕ) (z : X) → slice_get xs n ≡ Some z → slice_get (xs ++ ys) n ≡ Some z
still_there [] ys n z here = absurd (cc)
still_there (x ∷ xs) ys zero z here = here
still_there (x ∷ xs) ys (suc n) z here = still_there xs ys n z here

pub none_there : {X : Type 0} (xs : List X) (x : X) → xs ≡ [] → slice_get xs 0 ≡ Some x → ⊥
none_there xs x none here = let e : ◌≡◌ {A = Option _} None (Some x) = sym (ap (λ ys. slice_get ys 0) none) ∙ here in cc

pub set_same : {X : Type 0} (xs : List X) (e : ℕ) (x : X) → slice_get xs e ≡ Some x → set xs e x ≡ xs
set_same [] e x here = refl
set_same (y ∷ ys) zero x here = ap (λ z. z ∷ ys) (sym (same_Some y x here))
set_same (y ∷ ys) (suc e) x here = ap (λ zs. y ∷ zs) (set_same ys e x here)

pub append_none : (es : List ℕ) → es ++ [] ≡ es
append_none [] = refl
append_none (e ∷ es) = ap (λ fs. e ∷ fs) (append_none es)

pub all_two : {X : Type 0} (P Q : X → Type 0) (xs : List X) → AllByRecursion P xs → AllByRecursion Q xs → AllByRecursion (λ x. P x × Q x) xs
all_two P Q [] h k = tt
all_two P Q (x ∷ xs) h k = ((h.0, k.0), all_two P Q xs h.1 k.1)

pub no_bytes : (bytes : List ℕ) → length bytes ≡ 0 → bytes ≡ []
no_bytes [] k = refl
no_bytes (b ∷ bs) k = absurd cc

pub drop_one : (hs : List ℕ) (i t : ℕ) → slice_get (drop 1 hs) i ≡ Some t → slice_get hs (suc i) ≡ Some t
drop_one [] i t here = here
drop_one (h ∷ hs) i t here = here

pub take_again : (k : ℕ) (xs : List ℕ) → take (length (take k xs)) xs ≡ take k xs
take_again zero xs = refl
take_again (suc k) [] = refl
take_again (suc k) (x ∷ xs) = ap (λ (ys : List ℕ). x ∷ ys) (take_again k xs)

pub drop_first : (xs ys : List ℕ) → drop (length xs) (xs ++ ys) ≡ ys
drop_first [] ys = refl
drop_first (x ∷ xs) ys = drop_first xs ys

pub all_joined : (P : ℕ → Type 0) (ts us : List ℕ) → AllByRecursion P ts → AllByRecursion P us → AllByRecursion P (ts ++ us)
all_joined P [] us one other = other
all_joined P (t ∷ ts) us one other = (one.0, all_joined P ts us one.1 other)

pub there_at : {X : Type 0} (xs : List X) (i : ℕ) → i < length xs → (x : X) × (slice_get xs i ≡ Some x)
there_at [] i h = absurd (omega arith)
there_at (x ∷ xs) zero h = (x, refl)
there_at (x ∷ xs) (suc i) h = there_at xs i (omega arith)

pub none_first : (xs : List ℕ) → slice_get xs 0 ≡ None → xs ≡ []
none_first [] is = refl
none_first (x ∷ xs) is = absurd (cc)

pub concat_last : (acc : List (List ℕ)) (bytes : List ℕ) → concat (acc ++ bytes ∷ []) ≡ concat acc ++ bytes
concat_last acc bytes = concat-append acc (bytes ∷ []) ∙ ap (λ (xs : List ℕ). concat acc ++ xs) (append-nil bytes)

pub filled : (k m : ℕ) (xs zs : List ℕ) → k ≤ m → k ≤ length xs → take k (take m (take k xs ++ zs)) ≡ take k xs
filled zero m xs zs few long = refl
filled (suc k) zero xs zs few long = absurd (omega (arith, few))
filled (suc k) (suc m) [] zs few long = absurd (omega (arith, long))
filled (suc k) (suc m) (x ∷ xs) zs few long = ap (λ (ys : List ℕ). x ∷ ys) (filled k m xs zs (omega (arith, few)) (omega (arith, long)))

pub shorter : (k : ℕ) (xs : List ℕ) → length (take k xs) ≤ k
shorter zero xs = omega arith
shorter (suc k) [] = omega arith
shorter (suc k) (x ∷ xs) = let e = shorter k xs in omega (arith, e)

pub all_map : {X Y : Type 0} (P : X → Type 0) (Q : Y → Type 0) (f : X → Y) (xs : List X) → ((x : X) → P x → Q (f x)) → AllByRecursion P xs
    → AllByRecursion Q (map f xs)
all_map P Q f [] g h = tt
all_map P Q f (x ∷ xs) g h = (g x h.0, all_map P Q f xs g h.1)

pub each_none : {X : Type 0} (p : X → Bool) (xs : List X) → AllByRecursion (λ x. p x ≡ false) xs → find p xs ≡ None
each_none p [] h = refl
each_none p (y ∷ ys) h = cond-false _ _ _ h.0 ∙ each_none p ys h.1

pub all_set : {X : Type 0} (P : X → Type 0) (xs : List X) (i : ℕ) (y : X) → AllByRecursion P xs → P y → AllByRecursion P (slice_set xs i y)
all_set P [] i y h k = tt
all_set P (x ∷ xs) zero y h k = (k, h.1)
all_set P (x ∷ xs) (suc i) y h k = (h.0, all_set P xs i y h.1 k)

pub take_whole : (m : ℕ) (xs : List ℕ) → length xs ≤ m → take m xs ≡ xs
take_whole m xs h = grind (arith, common_steps)

pub nothing_more : (x ys : List ℕ) → ys ≡ [] → x ≡ x ++ ys
nothing_more x ys none = sym (append-nil x) ∙ ap (λ (zs : List ℕ). x ++ zs) (sym none)

pub pushed_there : {X Y : Type 0} (f : X → Y) (xs : List X) (y : X) (i : ℕ) (z : Y) → option_map f (slice_get xs i) ≡ Some z
    → option_map f (slice_get (xs ++ y ∷ []) i) ≡ Some z
pushed_there f [] y i z there = absurd (cc)
pushed_there f (x ∷ xs) y zero z there = there
pushed_there f (x ∷ xs) y (suc i) z there = pushed_there f xs y i z there

pub set_again : {X : Type 0} (xs : List X) (e : ℕ) (x y : X) → set (set xs e x) e y ≡ set xs e y
set_again [] e x y = refl
set_again (z ∷ xs) zero x y = refl
set_again (z ∷ xs) (suc e) x y = ap (λ ys. z ∷ ys) (set_again xs e x y)

pub map_set_same : {X Y : Type 0} (f : X → Y) (xs : List X) (i : ℕ) (x z : X) → slice_get xs i ≡ Some x → f z ≡ f x
    → map f (set xs i z) ≡ map f xs
map_set_same f xs i x z here same = map-set_same f xs i z x (same ∙ sym (ap f (get_or_from_slice_get xs i x x here)))

pub all_at : (P : ℕ → Type 0) (xs : List ℕ) → ((i : ℕ) → i < length xs → P (get_or xs i 0)) → AllByRecursion P xs
all_at P [] each = tt
all_at P (x ∷ xs) each = (each 0 (omega arith), all_at P xs (λ i below. each (suc i) (omega arith)))

pub all_kept : {X : Type 0} (P : X → Type 0) (test : X → Bool) (xs : List X) → AllByRecursion P xs → AllByRecursion P (filter test xs)
all_kept P test [] all = tt
all_kept P test (x ∷ xs) all = at (test x) (all_kept P test xs all.1)
  where
    at : (b : Bool) → AllByRecursion P (filter test xs) → AllByRecursion P (cond b (x ∷ filter test xs) (filter test xs))
    at true rest = (all.0, rest)
    at false rest = rest

pub get_first : (rs : List ℕ) (i : ℕ) → get_or (drop 1 rs) i 0 ≡ get_or rs (suc i) 0
get_first [] i = refl
get_first (r ∷ rs) i = refl

pub set_here : {X : Type 0} (xs : List X) (e : ℕ) (x y : X) → slice_get xs e ≡ Some x → slice_get (set xs e y) e ≡ Some y
set_here [] e x y here = absurd (cc)
set_here (z ∷ xs) zero x y here = refl
set_here (z ∷ xs) (suc e) x y here = set_here xs e x y here

pub set_there : {X : Type 0} (xs : List X) (e i : ℕ) (y : X) → i ≢ e → slice_get (set xs e y) i ≡ slice_get xs i
set_there [] e i y differs = refl
set_there (z ∷ xs) zero zero y differs = absurd (differs refl)
set_there (z ∷ xs) zero (suc i) y differs = refl
set_there (z ∷ xs) (suc e) zero y differs = refl
set_there (z ∷ xs) (suc e) (suc i) y differs = set_there xs e i y (λ same. differs (ap suc same))

pub pushed_new : {X Y : Type 0} (f : X → Y) (xs : List X) (y : X) → option_map f (slice_get (xs ++ y ∷ []) (length xs)) ≡ Some (f y)
pushed_new f [] y = refl
pushed_new f (x ∷ xs) y = pushed_new f xs y

pub more_active : (b : Bool) (n : ℕ) (ks bs : List ℕ) → ks ≡ bs → (if b then n ∷ ks else ks) ≡ (if b then n ∷ bs else bs)
more_active b n ks bs same = ap (λ (xs : List ℕ). if b then n ∷ xs else xs) same

pub last_of_all : {X : Type 0} (P : X → Type 0) (xs : List X) (x : X) → AllByRecursion P (xs ++ x ∷ []) → P x
last_of_all P [] x all = all.0
last_of_all P (y ∷ ys) x all = last_of_all P ys x all.1

pub pushed : (hs : List ℕ) (t i u : ℕ) → slice_get (hs ++ t ∷ []) i ≡ Some u → (slice_get hs i ≡ Some u) ⊎ (u ≡ t)
pushed [] t zero u at = inr (sym (same_Some t u at))
pushed [] t (suc i) u at = absurd (cc)
pushed (h ∷ hs) t zero u at = inl at
pushed (h ∷ hs) t (suc i) u at = pushed hs t i u at

pub pushed_beside : {X : Type 0} (xs : List X) (x : X) (e : ℕ) → e ≢ length xs → slice_get (xs ++ x ∷ []) e ≡ slice_get xs e
pushed_beside [] x zero differs = absurd (differs refl)
pushed_beside [] x (suc e) differs = refl
pushed_beside (y ∷ ys) x zero differs = refl
pushed_beside (y ∷ ys) x (suc e) differs = pushed_beside ys x e (λ is. differs (ap suc is))

pub each_here : {X : Type 0} (P : X → Type 0) (xs : List X) → ((n : ℕ) (x : X) → slice_get xs n ≡ Some x → P x) → AllByRecursion P xs
each_here P [] each = tt
each_here P (x ∷ xs) each = (each 0 x refl, each_here P xs (λ n z here. each (suc n) z here))

pub none_more : (b : Bool) (xs : List (List ℕ)) → (if b then [] ++ xs else xs) ≡ xs
none_more true xs = refl
none_more false xs = refl

pub first_eight : (xs ys : List ℕ) (n : ℕ) → length xs ≡ n → take n (xs ++ ys) ≡ xs
first_eight xs ys n long = take-append-le n xs ys (omega (arith, long)) ∙ take_all n xs (omega (arith, long))

pub small_at : (bytes : List ℕ) (i : ℕ) → AllByRecursion (λ b. b < 256) bytes → get_or bytes i 0 < 256
small_at [] i all = omega arith
small_at (b ∷ bs) zero all = all.0
small_at (b ∷ bs) (suc i) all = small_at bs i all.1

pub small_take : (bytes : List ℕ) (n : ℕ) → AllByRecursion (λ b. b < 256) bytes → AllByRecursion (λ b. b < 256) (take n bytes)
small_take bytes zero all = tt
small_take [] (suc n) all = tt
small_take (b ∷ bs) (suc n) all = (all.0, small_take bs n all.1)

pub small_drop : (bytes : List ℕ) (n : ℕ) → AllByRecursion (λ b. b < 256) bytes → AllByRecursion (λ b. b < 256) (drop n bytes)
small_drop bytes zero all = all
small_drop [] (suc n) all = tt
small_drop (b ∷ bs) (suc n) all = small_drop bs n all.1

pub all_alike : (P : ℕ → Type 0) (n e : ℕ) → P e → AllByRecursion P (replicate n e)
all_alike P zero e h = tt
all_alike P (suc n) e h = (h, all_alike P n e h)

pub first_found : {X : Type 0} (p : X → Bool) (xs : List X) (k : ℕ) (x : X) → slice_get xs k ≡ Some x → p x ≡ true
    → ((i : ℕ) (y : X) → i < k → slice_get xs i ≡ Some y → p y ≡ false) → find p xs ≡ Some x
first_found p [] zero x here is before = absurd cc
first_found p [] (suc k) x here is before = absurd cc
first_found p (y ∷ ys) zero x here is before = ap (λ (b : Bool). if b then Some y else find p ys) (ap p (same_Some y x here) ∙ is) ∙ here
first_found p (y ∷ ys) (suc k) x here is before =
    ap (λ (b : Bool). if b then Some y else find p ys) (before 0 y (omega arith) refl)
    ∙ first_found p ys k x here is (λ i z less there. before (suc i) z (omega (arith, less)) there)

pub set_self : {X : Type 0} (xs : List X) (e : ℕ) (x : X) → slice_get xs e ≡ Some x → xs ≡ set xs e x
set_self [] e x here = refl
set_self (y ∷ ys) zero x here = ap (λ z. z ∷ ys) (same_Some y x here)
set_self (y ∷ ys) (suc e) x here = ap (λ zs. y ∷ zs) (set_self ys e x here)
