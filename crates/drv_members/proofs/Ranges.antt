-- What is known of a queue head in range, and the test of its class by its rank.
use Rattle.std.proofs.Common.{◌≡◌, ℕ, zero, suc, ◌-◌, ◌*◌, ◌%◌, ◌^◌, ◌<◌, ◌≤◌, Bool, true, false, List, [], ◌∷◌, ◌++◌, nat_eq, leb, ltb, inl, inr, mod-eq_of_lt, refl, ap, sym, ◌∙◌, arith}
use Rattle.std.specs.Prelude.{◌||◌, ◌&&◌}
use Rattle.std.specs.List.{AllByRecursion, list_any}
use Rattle.std.proofs.lemmas.Bool.{false≢true, or_cases, eqb-true, and_parts, eq-eqb, eqb-false, ne_eqb, le-leb, lt-leb, ltb-true}
use Rattle.std.proofs.lemmas.Bool.Decides.{nat_tests}
use Rattle.std.proofs.Math.Nat.{pow-le-pow_right}
use Rattle.drv_chains.specs.declared.members.QueueHead.{QueueHead}
use Rattle.drv_chains.specs.Chains.{periods, is_period, frame_period, is_active, at_place}
use Rattle.drv_chains.specs.Classes.{periods_of}
use Rattle.drv_members.specs.Ranks.{rank, rank_of, is_queue, class_low, class_high, is_between}

-- bounds from a list of numbers
any_most : (n m : ℕ) (ps : List ℕ) → AllByRecursion (λ p. p ≤ m) ps → list_any (λ p. nat_eq n p) ps ≡ true → n ≤ m
any_most n m [] h k = absurd (false≢true k)
any_most n m (p ∷ ps) h k = elim (or_cases (nat_eq n p) (list_any (λ q. nat_eq n q) ps) k) [
  | inl a ↦ let e = eqb-true n p a in let l = h.0 in omega (arith, e, l)
  | inr b ↦ any_most n m ps h.1 b
]

any_least : (n m : ℕ) (ps : List ℕ) → AllByRecursion (λ p. m ≤ p) ps → list_any (λ p. nat_eq n p) ps ≡ true → m ≤ n
any_least n m [] h k = absurd (false≢true k)
any_least n m (p ∷ ps) h k = elim (or_cases (nat_eq n p) (list_any (λ q. nat_eq n q) ps) k) [
  | inl a ↦ let e = eqb-true n p a in let l = h.0 in omega (arith, e, l)
  | inr b ↦ any_least n m ps h.1 b
]

all_most : AllByRecursion (λ p. p ≤ 8192) periods
all_most =
    let a1 : 8192 ≤ 8192 = omega arith in
    let a2 : 4096 ≤ 8192 = omega arith in
    let a3 : 2048 ≤ 8192 = omega arith in
    let a4 : 1024 ≤ 8192 = omega arith in
    let a5 : 512 ≤ 8192 = omega arith in
    let a6 : 256 ≤ 8192 = omega arith in
    let a7 : 128 ≤ 8192 = omega arith in
    let a8 : 64 ≤ 8192 = omega arith in
    let a9 : 32 ≤ 8192 = omega arith in
    let a10 : 16 ≤ 8192 = omega arith in
    let a11 : 8 ≤ 8192 = omega arith in
    let a12 : 4 ≤ 8192 = omega arith in
    let a13 : 2 ≤ 8192 = omega arith in
    let a14 : 1 ≤ 8192 = omega arith in
    (a1, (a2, (a3, (a4, (a5, (a6, (a7, (a8, (a9, (a10, (a11, (a12, (a13, (a14, tt))))))))))))))

pub period_most : (q : QueueHead) → is_queue q ≡ true → q.period ≤ 8192
period_most q h = any_most q.period 8192 periods all_most (and_parts (is_period q.period) (ltb q.phase (frame_period q.period)) h).0

frames_most : (p : ℕ) → p ≤ 8192 → frame_period p ≤ 1024
frames_most p h = omega (arith, h)

pub phase_in : (q : QueueHead) → is_queue q ≡ true → q.phase < frame_period q.period
phase_in q h = ltb-true q.phase (frame_period q.period) (and_parts (is_period q.period) (ltb q.phase (frame_period q.period)) h).1

pub phase_most : (q : QueueHead) → is_queue q ≡ true → q.phase < 1024
phase_most q h = let a = phase_in q h in let b = frames_most q.period (period_most q h) in omega (arith, a, b)

small : (a n : ℕ) → a < n → a % n ≡ a
small a n h = mod-eq_of_lt h

-- a queue head's phase is one of its frames
pub own_frame : (q : QueueHead) → is_queue q ≡ true → is_active q.phase q ≡ true
own_frame q h = let e : q.phase % frame_period q.period ≡ q.phase = small q.phase (frame_period q.period) (phase_in q h) in eq-eqb q.phase (q.phase % frame_period q.period) (sym e)

-- ranks
pub longer_first : (q r : QueueHead) → is_queue q ≡ true → is_queue r ≡ true → rank_of q ≤ rank_of r → 8192 - q.period ≤ 8192 - r.period
longer_first q r h k l = let a = phase_most q h in let b = phase_most r k in omega (arith, a, b, l)

by_tests : (a b p f : ℕ) (s t : Bool) → nat_eq a p ≡ s → nat_eq b f ≡ t → a ≤ 8192 → b < 1024 → p ≤ 8192 → f < 1024 → nat_eq (rank a b) (rank p f) ≡ (s && t)
by_tests a b p f true true e k ha hb hp hf = let x = eqb-true a p e in let y = eqb-true b f k in eq-eqb (rank a b) (rank p f) (omega (arith, x, y))
by_tests a b p f true false e k ha hb hp hf = let x = eqb-true a p e in let y = eqb-false b f k in ne_eqb (rank a b) (rank p f) (λ z. y (omega (arith, x, z)))
by_tests a b p f false t e k ha hb hp hf = let x = eqb-false a p e in ne_eqb (rank a b) (rank p f) (λ z. x (omega (arith, z, ha, hb, hp, hf)))

rank_once : (a b p f : ℕ) → a ≤ 8192 → b < 1024 → p ≤ 8192 → f < 1024 → nat_eq (rank a b) (rank p f) ≡ (nat_eq a p && nat_eq b f)
rank_once a b p f ha hb hp hf = by_tests a b p f (nat_eq a p) (nat_eq b f) refl refl ha hb hp hf

one_between : (a r : ℕ) → (leb r a && leb a r) ≡ nat_eq a r
one_between a r = grind (arith, nat_tests)

no_more : (s t : Bool) → (s && t) ≡ ((s && t) || false)
no_more true true = refl
no_more true false = refl
no_more false t = refl

-- a class above the lowest
higher : (level phase : ℕ) (q : QueueHead) → suc level ≤ 10 → phase < 2 ^ suc level → is_queue q ≡ true
    → is_between (class_low (suc level) phase) (class_high (suc level) phase) q ≡ list_any (λ p. at_place p phase q) (periods_of (suc level))
higher level phase q l h k =
    let two : 0 < 2 = omega arith in
    let most : 2 ^ suc level ≤ 2 ^ 10 = pow-le-pow_right two l in
    let p : 8 * 2 ^ suc level ≤ 8192 = omega (arith, most) in
    let f : phase < 1024 = omega (arith, h, most) in
    one_between (rank_of q) (rank (8 * 2 ^ suc level) phase) ∙ rank_once q.period q.phase (8 * 2 ^ suc level) phase (period_most q k) (phase_most q k) p f
    ∙ no_more (nat_eq q.period (8 * 2 ^ suc level)) (nat_eq q.phase phase)

-- the lowest class
shared : (e r a : Bool) → ((e && a) || (r && a)) ≡ ((e || r) && a)
shared true r true = refl
shared true true false = refl
shared true false false = refl
shared false r a = refl

grouped : (a b c : Bool) → (a || (b || c)) ≡ ((a || b) || c)
grouped true b c = refl
grouped false b c = refl

first_true : (a b : Bool) → (a || b) ≡ true → b ≡ false → a ≡ true
first_true true b h e = refl
first_true false b h e = absurd (false≢true (sym e ∙ h))

no_phase : (f p : ℕ) → p ≤ 8 → f < frame_period p → f ≡ 0
no_phase f p m h = omega (arith, m, h)

both_hold : (a b c : Bool) → a ≡ true → b ≡ true → c ≡ true → (a && b) ≡ (true && c)
both_hold a b c e k h = ap (λ x. x && b) e ∙ k ∙ sym h

pub either_phase : (n m f : ℕ) (ps : List ℕ) → list_any (λ p. nat_eq n p && nat_eq m f) ps ≡ (list_any (λ p. nat_eq n p) ps && nat_eq m f)
either_phase n m f [] = refl
either_phase n m f (p ∷ ps) = ap (λ b. (nat_eq n p && nat_eq m f) || b) (either_phase n m f ps) ∙ shared (nat_eq n p) (list_any (λ q. nat_eq n q) ps) (nat_eq m f)

eight_most : AllByRecursion (λ p. p ≤ 8) (8 ∷ 4 ∷ 2 ∷ 1 ∷ [])
eight_most =
    let a1 : 8 ≤ 8 = omega arith in
    let a2 : 4 ≤ 8 = omega arith in
    let a3 : 2 ≤ 8 = omega arith in
    let a4 : 1 ≤ 8 = omega arith in
    (a1, (a2, (a3, (a4, tt))))

abbrev long : List ℕ
long = 8192 ∷ 4096 ∷ 2048 ∷ 1024 ∷ 512 ∷ 256 ∷ 128 ∷ 64 ∷ 32 ∷ 16 ∷ []

long_least : AllByRecursion (λ p. 16 ≤ p) long
long_least =
    let a1 : 16 ≤ 8192 = omega arith in
    let a2 : 16 ≤ 4096 = omega arith in
    let a3 : 16 ≤ 2048 = omega arith in
    let a4 : 16 ≤ 1024 = omega arith in
    let a5 : 16 ≤ 512 = omega arith in
    let a6 : 16 ≤ 256 = omega arith in
    let a7 : 16 ≤ 128 = omega arith in
    let a8 : 16 ≤ 64 = omega arith in
    let a9 : 16 ≤ 32 = omega arith in
    let a10 : 16 ≤ 16 = omega arith in
    (a1, (a2, (a3, (a4, (a5, (a6, (a7, (a8, (a9, (a10, tt))))))))))

any_both : (n : ℕ) (ps qs : List ℕ) → list_any (λ p. nat_eq n p) (ps ++ qs) ≡ (list_any (λ p. nat_eq n p) ps || list_any (λ p. nat_eq n p) qs)
any_both n [] qs = refl
any_both n (p ∷ ps) qs = ap (λ b. nat_eq n p || b) (any_both n ps qs) ∙ grouped (nat_eq n p) (list_any (λ q. nat_eq n q) ps) (list_any (λ q. nat_eq n q) qs)

long_or_not : (n : ℕ) → is_period n ≡ true → list_any (λ p. nat_eq n p) (8 ∷ 4 ∷ 2 ∷ 1 ∷ []) ≡ false → 16 ≤ n
long_or_not n h e = any_least n 16 long long_least (first_true (list_any (λ p. nat_eq n p) long) (list_any (λ p. nat_eq n p) (8 ∷ 4 ∷ 2 ∷ 1 ∷ [])) (sym (any_both n long (8 ∷ 4 ∷ 2 ∷ 1 ∷ [])) ∙ h) e)

lowest_by : (q : QueueHead) (phase : ℕ) (b : Bool) → list_any (λ p. nat_eq q.period p) (8 ∷ 4 ∷ 2 ∷ 1 ∷ []) ≡ b → phase ≡ 0 → is_queue q ≡ true
    → (leb (rank 8 phase) (rank_of q) && leb (rank_of q) (2 ^ 24)) ≡ (b && nat_eq q.phase phase)
lowest_by q phase true e z k =
    let m : q.period ≤ 8 = any_most q.period 8 (8 ∷ 4 ∷ 2 ∷ 1 ∷ []) eight_most e in
    let f = phase_in q k in
    let p : q.phase ≡ 0 = no_phase q.phase q.period m f in
    let low : rank 8 phase ≤ rank_of q = omega (arith, m, p, z) in
    let high : rank_of q ≤ 2 ^ 24 = omega (arith, p) in
    both_hold (leb (rank 8 phase) (rank_of q)) (leb (rank_of q) (2 ^ 24)) (nat_eq q.phase phase) (le-leb (rank 8 phase) (rank_of q) low) (le-leb (rank_of q) (2 ^ 24) high) (eq-eqb q.phase phase (p ∙ sym z))
lowest_by q phase false e z k =
    let m : 16 ≤ q.period = long_or_not q.period (and_parts (is_period q.period) (ltb q.phase (frame_period q.period)) k).0 e in
    let f = phase_most q k in
    let n = period_most q k in
    let low : rank_of q < rank 8 phase = omega (arith, m, f, n, z) in
    ap (λ b. b && leb (rank_of q) (2 ^ 24)) (lt-leb (rank 8 phase) (rank_of q) low)

lowest : (phase : ℕ) (q : QueueHead) → phase < 1 → is_queue q ≡ true → is_between (class_low 0 phase) (class_high 0 phase) q ≡ list_any (λ p. at_place p phase q) (periods_of 0)
lowest phase q h k =
    let z : phase ≡ 0 = omega (arith, h) in
    lowest_by q phase (list_any (λ p. nat_eq q.period p) (8 ∷ 4 ∷ 2 ∷ 1 ∷ [])) refl z k ∙ sym (either_phase q.period q.phase phase (8 ∷ 4 ∷ 2 ∷ 1 ∷ []))

pub class_test : (level phase : ℕ) (q : QueueHead) → level ≤ 10 → phase < 2 ^ level → is_queue q ≡ true → is_between (class_low level phase) (class_high level phase) q ≡ list_any (λ p. at_place p phase q) (periods_of level)
class_test zero phase q l h k = lowest phase q h k
class_test (suc level) phase q l h k = higher level phase q l h k

-- in a frame
place_by : (n f m x : ℕ) (b : Bool) → nat_eq n x ≡ b → (b && nat_eq m (f % frame_period x)) ≡ (b && nat_eq m (f % frame_period n))
place_by n f m x true e = ap (λ y. nat_eq m (f % frame_period y)) (sym (eqb-true n x e))
place_by n f m x false e = refl

one_place : (n f m : ℕ) (x : ℕ) → (nat_eq n x && nat_eq m (f % frame_period x)) ≡ (nat_eq n x && nat_eq m (f % frame_period n))
one_place n f m x = place_by n f m x (nat_eq n x) refl

in_frame : (q : QueueHead) (f : ℕ) (ps : List ℕ) → list_any (λ p. at_place p (f % frame_period p) q) ps ≡ (list_any (λ p. nat_eq q.period p) ps && is_active f q)
in_frame q f [] = refl
in_frame q f (p ∷ ps) =
    ap (λ b. b || list_any (λ r. at_place r (f % frame_period r) q) ps) (one_place q.period f q.phase p) ∙ ap (λ b. (nat_eq q.period p && is_active f q) || b) (in_frame q f ps)
    ∙ shared (nat_eq q.period p) (list_any (λ r. nat_eq q.period r) ps) (is_active f q)

pub frame_test : (f : ℕ) (q : QueueHead) → is_queue q ≡ true → list_any (λ p. at_place p (f % frame_period p) q) periods ≡ is_active f q
frame_test f q k = in_frame q f periods ∙ ap (λ b. b && is_active f q) (and_parts (is_period q.period) (ltb q.phase (frame_period q.period)) k).0
