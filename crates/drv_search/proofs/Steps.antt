-- One step of the search, down and up.
use Rattle.std.proofs.Common.{◌≡◌, ℕ, zero, suc, length, List, ◌+◌, ◌-◌, ◌^◌, ◌<◌, ◌≤◌, [], ◌∷◌, ◌++◌, Some, None, if◌then◌else◌, ap, sym, ◌∙◌, subst, arith}
use Rattle.std.specs.Prelude.{Option}
use Rattle.std.specs.List.{last_or}
use Rattle.std.proofs.lemmas.Bool.{lt-ltb, le-ltb}
use Rattle.std.proofs.lemmas.List.{append_assoc, append-nil, length-append}
use Rattle.std.proofs.Math.Nat.{pow-le-pow_right}
use Rattle.drv_chains.specs.declared.members.QueueHead.{QueueHead}
use Rattle.drv_chains.specs.Chains.{Schedule}
use Rattle.drv_chains.specs.Classes.{members}
use Rattle.drv_search.specs.declared.search.Found.{Found}
use Rattle.drv_search.specs.declared.search.Found.TheVariants.{Last, Frame}
use Rattle.drv_search.specs.Search.{last_found, found_at, found_below, pending}

down_at : (s : Schedule) (left level phase depth : ℕ) → phase < 2 ^ level → last_or None (members s level phase) ≡ None
    → found_at s (suc left) level phase ++ pending s depth (suc left) level phase ≡ found_at s left (suc level) phase ++ pending s (suc depth) left (suc level) phase
unfolding found_below pending
down_at s left level phase depth h none =
    ap (λ o. last_found o (found_at s left (suc level) phase ++ found_at s left (suc level) (phase + 2 ^ level)) ++ pending s depth (suc left) level phase) none
    ∙ append_assoc (found_at s left (suc level) phase) (found_at s left (suc level) (phase + 2 ^ level)) (pending s depth (suc left) level phase)
    ∙ ap (λ b. found_at s left (suc level) phase ++ (if b then found_at s left (suc level) (phase + 2 ^ level) ++ pending s depth (suc left) level phase else pending s depth (suc left) level (phase - 2 ^ level))) (sym (lt-ltb phase (2 ^ level) h))

pub down : (s : Schedule) (level phase depth : ℕ) → level < 10 → phase < 2 ^ level → last_or None (members s level phase) ≡ None
    → found_at s (10 - level) level phase ++ pending s depth (10 - level) level phase ≡ found_at s (10 - (level + 1)) (level + 1) phase ++ pending s (depth + 1) (10 - (level + 1)) (level + 1) phase
down s level phase depth l h none =
    let a : suc (10 - (level + 1)) ≡ 10 - level = omega (arith, l) in
    let b : suc level ≡ level + 1 = omega arith in
    let c : suc depth ≡ depth + 1 = omega arith in
    subst (λ (x : ℕ). found_at s x level phase ++ pending s depth x level phase ≡ found_at s (10 - (level + 1)) (level + 1) phase ++ pending s (depth + 1) (10 - (level + 1)) (level + 1) phase) a
    (subst (λ (y : ℕ). found_at s (suc (10 - (level + 1))) level phase ++ pending s depth (suc (10 - (level + 1))) level phase ≡ found_at s (10 - (level + 1)) y phase ++ pending s (depth + 1) (10 - (level + 1)) y phase) b
    (subst (λ (z : ℕ). found_at s (suc (10 - (level + 1))) level phase ++ pending s depth (suc (10 - (level + 1))) level phase ≡ found_at s (10 - (level + 1)) (suc level) phase ++ pending s z (10 - (level + 1)) (suc level) phase) c
    (down_at s (10 - (level + 1)) level phase depth h none)))

pub at_last : (s : Schedule) (level phase depth : ℕ) (q : QueueHead) → last_or None (members s level phase) ≡ Some q
    → found_at s (10 - level) level phase ++ pending s depth (10 - level) level phase ≡ Last q ∷ pending s (depth + (level - level)) (10 - level) level phase
at_last s level phase depth q e =
    let d : depth ≡ depth + (level - level) = omega arith in
    ap (λ o. last_found o (found_below s (10 - level) level phase) ++ pending s depth (10 - level) level phase) e
    ∙ ap (λ n. Last q ∷ pending s n (10 - level) level phase) d

frame_below : (s : Schedule) (left level phase : ℕ) → left ≡ 0 → found_below s left level phase ≡ Frame phase ∷ []
unfolding found_below
frame_below s left level phase e = ap (λ n. found_below s n level phase) e

pub at_frame : (s : Schedule) (level phase depth : ℕ) → 10 ≤ level → last_or None (members s level phase) ≡ None
    → found_at s (10 - level) level phase ++ pending s depth (10 - level) level phase ≡ Frame phase ∷ pending s (depth + (level - level)) (10 - level) level phase
at_frame s level phase depth l e =
    let d : depth ≡ depth + (level - level) = omega arith in
    let z : 10 - level ≡ 0 = omega (arith, l) in
    ap (λ o. last_found o (found_below s (10 - level) level phase) ++ pending s depth (10 - level) level phase) e
    ∙ ap (λ x. x ++ pending s depth (10 - level) level phase) (frame_below s (10 - level) level phase z)
    ∙ ap (λ n. Frame phase ∷ pending s n (10 - level) level phase) d

-- up
none_pending : (s : Schedule) (depth left level phase : ℕ) → depth ≡ 0 → pending s depth left level phase ≡ []
unfolding pending
none_pending s depth left level phase e = ap (λ n. pending s n left level phase) e

pub up_end : (s : Schedule) (floor level phase : ℕ) → level ≤ floor → [] ≡ pending s (level - floor) (10 - level) level phase
up_end s floor level phase h = let e : level - floor ≡ 0 = omega (arith, h) in sym (none_pending s (level - floor) (10 - level) level phase e)

left_at : (s : Schedule) (depth left level phase : ℕ) → phase < 2 ^ level
    → found_at s left (suc level) (phase + 2 ^ level) ++ pending s (suc depth) left (suc level) (phase + 2 ^ level) ≡ pending s (suc depth) left (suc level) phase
unfolding pending
left_at s depth left level phase h =
    let a : 2 ^ level ≤ phase + 2 ^ level = omega arith in
    let b : phase + 2 ^ level - 2 ^ level ≡ phase = omega arith in
    let high = found_at s left (suc level) (phase + 2 ^ level) in
    ap (λ t. high ++ (if t then found_at s left (suc level) (phase + 2 ^ level + 2 ^ level) ++ pending s depth (suc left) level (phase + 2 ^ level) else pending s depth (suc left) level (phase + 2 ^ level - 2 ^ level))) (le-ltb (phase + 2 ^ level) (2 ^ level) a)
    ∙ ap (λ n. high ++ pending s depth (suc left) level n) b
    ∙ ap (λ t. if t then high ++ pending s depth (suc left) level phase else pending s depth (suc left) level (phase - 2 ^ level)) (sym (lt-ltb phase (2 ^ level) h))

pub up_left : (s : Schedule) (floor level phase : ℕ) → floor < level → phase < 2 ^ (level - 1)
    → found_at s (10 - level) level (phase + 2 ^ (level - 1)) ++ pending s (level - floor) (10 - level) level (phase + 2 ^ (level - 1)) ≡ pending s (level - floor) (10 - level) level phase
up_left s floor level phase f h =
    let a : suc (level - 1) ≡ level = omega (arith, f) in
    let b : suc (level - floor - 1) ≡ level - floor = omega (arith, f) in
    subst (λ (x : ℕ). found_at s (10 - level) x (phase + 2 ^ (level - 1)) ++ pending s (level - floor) (10 - level) x (phase + 2 ^ (level - 1)) ≡ pending s (level - floor) (10 - level) x phase) a
    (subst (λ (d : ℕ). found_at s (10 - level) (suc (level - 1)) (phase + 2 ^ (level - 1)) ++ pending s d (10 - level) (suc (level - 1)) (phase + 2 ^ (level - 1)) ≡ pending s d (10 - level) (suc (level - 1)) phase) b
    (left_at s (level - floor - 1) (10 - level) (level - 1) phase h))

right_at : (s : Schedule) (depth left level phase : ℕ) → 2 ^ level ≤ phase → pending s depth (suc left) level (phase - 2 ^ level) ≡ pending s (suc depth) left (suc level) phase
unfolding pending
right_at s depth left level phase h = ap (λ t. if t then found_at s left (suc level) (phase + 2 ^ level) ++ pending s depth (suc left) level phase else pending s depth (suc left) level (phase - 2 ^ level)) (sym (le-ltb phase (2 ^ level) h))

pub up_right : (s : Schedule) (floor level phase : ℕ) → floor < level → level ≤ 10 → 2 ^ (level - 1) ≤ phase
    → pending s (level - 1 - floor) (10 - (level - 1)) (level - 1) (phase - 2 ^ (level - 1)) ≡ pending s (level - floor) (10 - level) level phase
up_right s floor level phase f l h =
    let a : suc (level - 1) ≡ level = omega (arith, f) in
    let b : suc (level - 1 - floor) ≡ level - floor = omega (arith, f) in
    let c : suc (10 - level) ≡ 10 - (level - 1) = omega (arith, f, l) in
    subst (λ (x : ℕ). pending s (level - 1 - floor) (10 - (level - 1)) (level - 1) (phase - 2 ^ (level - 1)) ≡ pending s (level - floor) (10 - level) x phase) a
    (subst (λ (d : ℕ). pending s (level - 1 - floor) (10 - (level - 1)) (level - 1) (phase - 2 ^ (level - 1)) ≡ pending s d (10 - level) (suc (level - 1)) phase) b
    (subst (λ (n : ℕ). pending s (level - 1 - floor) n (level - 1) (phase - 2 ^ (level - 1)) ≡ pending s (suc (level - 1 - floor)) (10 - level) (suc (level - 1)) phase) c
    (right_at s (level - 1 - floor) (10 - level) (level - 1) phase h)))

-- the start
start_at : (s : Schedule) (left level phase : ℕ) → phase < 2 ^ level → found_at s left (suc level) phase ++ pending s 1 left (suc level) phase ≡ found_below s (suc left) level phase
unfolding found_below pending
start_at s left level phase h =
    ap (λ t. found_at s left (suc level) phase ++ (if t then found_at s left (suc level) (phase + 2 ^ level) ++ [] else [])) (lt-ltb phase (2 ^ level) h)
    ∙ ap (λ x. found_at s left (suc level) phase ++ x) (append-nil (found_at s left (suc level) (phase + 2 ^ level)))

pub start : (s : Schedule) (level phase : ℕ) → level < 10 → phase < 2 ^ level
    → found_at s (10 - (level + 1)) (level + 1) phase ++ pending s (level + 1 - level) (10 - (level + 1)) (level + 1) phase ≡ found_below s (10 - level) level phase
start s level phase l h =
    let a : suc (10 - (level + 1)) ≡ 10 - level = omega (arith, l) in
    let b : suc level ≡ level + 1 = omega arith in
    let c : 1 ≡ level + 1 - level = omega arith in
    subst (λ (x : ℕ). found_at s (10 - (level + 1)) (level + 1) phase ++ pending s (level + 1 - level) (10 - (level + 1)) (level + 1) phase ≡ found_below s x level phase) a
    (subst (λ (y : ℕ). found_at s (10 - (level + 1)) y phase ++ pending s (level + 1 - level) (10 - (level + 1)) y phase ≡ found_below s (suc (10 - (level + 1))) level phase) b
    (subst (λ (z : ℕ). found_at s (10 - (level + 1)) (suc level) phase ++ pending s z (10 - (level + 1)) (suc level) phase ≡ found_below s (suc (10 - (level + 1))) level phase) c
    (start_at s (10 - (level + 1)) level phase h)))

pub start_frame : (s : Schedule) (level phase : ℕ) → 10 ≤ level → Frame phase ∷ pending s (level - level) (10 - level) level phase ≡ found_below s (10 - level) level phase
start_frame s level phase l =
    let z : 10 - level ≡ 0 = omega (arith, l) in
    let d : level - level ≡ 0 = omega arith in
    ap (λ x. Frame phase ∷ x) (none_pending s (level - level) (10 - level) level phase d) ∙ sym (frame_below s (10 - level) level phase z)

-- a phase of a class is one of each class of a longer period
pub deeper : (phase low high : ℕ) → low ≤ high → phase < 2 ^ low → phase < 2 ^ high
deeper phase low high h l = let two : 0 < 2 = omega arith in let p : 2 ^ low ≤ 2 ^ high = pow-le-pow_right two h in omega (arith, l, p)

-- something is found below each class
or_more : (o : Option QueueHead) (others : List Found) → 1 ≤ length others → 1 ≤ length (last_found o others)
or_more None others h = h
or_more (Some q) others h = omega arith

pub some_below : (s : Schedule) (left level phase : ℕ) → 1 ≤ length (found_below s left level phase)
unfolding found_below
some_below s zero level phase = omega arith
some_below s (suc left) level phase =
    let a = or_more (last_or None (members s (suc level) phase)) (found_below s left (suc level) phase) (some_below s left (suc level) phase) in
    let e = length-append (found_at s left (suc level) phase) (found_at s left (suc level) (phase + 2 ^ level)) in
    omega (arith, a, e)
