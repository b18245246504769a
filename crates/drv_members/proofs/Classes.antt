-- In a schedule that is kept in order a class is the queue heads of its ranks, and a frame's queue heads come as they stand.
use Rattle.std.proofs.Common.{◌≡◌, ℕ, zero, suc, ◌+◌, ◌-◌, ◌*◌, ◌%◌, ◌^◌, ◌<◌, ◌≤◌, true, List, [], ◌∷◌, ◌++◌, map, nat_eq, ap, sym, ◌∙◌, arith}
use Rattle.std.specs.Prelude.{filter}
use Rattle.std.specs.List.{AllByRecursion, list_any, flat_map}
use Rattle.std.proofs.lemmas.Bool.{and_parts, eqb-true}
use Rattle.std.proofs.Math.Nat.{pow-le-pow_right}
use Rattle.drv_chains.proofs.Linking.{weaken}
use Rattle.drv_chains.specs.declared.members.QueueHead.{QueueHead}
use Rattle.drv_chains.specs.declared.members.Member.TheVariants.{Once, Each}
use Rattle.drv_chains.specs.Chains.{Schedule, periods, frame_period, is_active, at_place, descriptors_in, queues_in, chain}
use Rattle.drv_chains.specs.Classes.{members, periods_of}
use Rattle.drv_members.specs.Ranks.{rank_of, is_queue, class_low, class_high, is_between}
use Rattle.drv_members.specs.Members.{IsRising, IsKept}
use Rattle.drv_members.proofs.Sorted.{same_pass}
use Rattle.drv_members.proofs.Merge.{Drops, merge_all, rising_by}
use Rattle.drv_members.proofs.Ranges.{period_most, longer_first, class_test, frame_test}

periods_drop : Drops 8193 periods
unfolding Drops
periods_drop =
    let a1 : 8192 < 8193 = omega arith in
    let a2 : 4096 < 8192 = omega arith in
    let a3 : 2048 < 4096 = omega arith in
    let a4 : 1024 < 2048 = omega arith in
    let a5 : 512 < 1024 = omega arith in
    let a6 : 256 < 512 = omega arith in
    let a7 : 128 < 256 = omega arith in
    let a8 : 64 < 128 = omega arith in
    let a9 : 32 < 64 = omega arith in
    let a10 : 16 < 32 = omega arith in
    let a11 : 8 < 16 = omega arith in
    let a12 : 4 < 8 = omega arith in
    let a13 : 2 < 4 = omega arith in
    let a14 : 1 < 2 = omega arith in
    (a1, (a2, (a3, (a4, (a5, (a6, (a7, (a8, (a9, (a10, (a11, (a12, (a13, (a14, tt))))))))))))))

lowest_drop : Drops 9 (8 ∷ 4 ∷ 2 ∷ 1 ∷ [])
unfolding Drops
lowest_drop =
    let a11 : 8 < 9 = omega arith in
    let a12 : 4 < 8 = omega arith in
    let a13 : 2 < 4 = omega arith in
    let a14 : 1 < 2 = omega arith in
    (a11, (a12, (a13, (a14, tt))))

one_drops : (n : ℕ) → Drops (n + 1) (n ∷ [])
unfolding Drops
one_drops n = let a : n < n + 1 = omega arith in (a, tt)

falling : (s : Schedule) → IsKept s → IsRising (λ (q : QueueHead). 8192 - q.period) s.queues
falling s k = rising_by rank_of (λ (q : QueueHead). 8192 - q.period) (λ q. is_queue q ≡ true) s.queues longer_first k.queues k.ranked

rising_at : (n : ℕ) (qs : List QueueHead) → 8192 ≤ n → IsRising (λ (q : QueueHead). 8192 - q.period) qs → AllByRecursion (λ q. is_queue q ≡ true) qs → IsRising (λ (q : QueueHead). n - q.period) qs
rising_at n qs l up h = rising_by (λ (q : QueueHead). 8192 - q.period) (λ (q : QueueHead). n - q.period) (λ q. is_queue q ≡ true) qs (λ x y a b e. let p = period_most x a in let r = period_most y b in omega (arith, l, p, r, e)) h up

period_at : (phase p : ℕ) (q : QueueHead) → at_place p phase q ≡ true → q.period ≡ p
period_at phase p q h = eqb-true q.period p (and_parts (nat_eq q.period p) (nat_eq q.phase phase) h).0

class_parts : (s : Schedule) (level phase : ℕ) → level ≤ 10 → IsKept s → members s level phase ≡ filter (λ q. list_any (λ p. at_place p phase q) (periods_of level)) s.queues
class_parts s zero phase l k = let h : 9 ≤ 8193 = omega arith in let g : 8192 ≤ 8193 = omega arith in merge_all (λ p q. at_place p phase q) (λ q. q.period) 8193 s.queues 9 (8 ∷ 4 ∷ 2 ∷ 1 ∷ []) (period_at phase) h lowest_drop (rising_at 8193 s.queues g (falling s k) k.queues)
class_parts s (suc level) phase l k =
    let n = 8 * 2 ^ suc level in
    let two : 0 < 2 = omega arith in
    let most : 2 ^ suc level ≤ 2 ^ 10 = pow-le-pow_right two l in
    let h : n + 1 ≤ 8193 = omega (arith, most) in
    let g : 8192 ≤ 8193 = omega arith in
    merge_all (λ p q. at_place p phase q) (λ q. q.period) 8193 s.queues (n + 1) (n ∷ []) (period_at phase) h (one_drops n) (rising_at 8193 s.queues g (falling s k) k.queues)

pub class_is : (s : Schedule) (level phase : ℕ) → level ≤ 10 → phase < 2 ^ level → IsKept s → members s level phase ≡ filter (is_between (class_low level phase) (class_high level phase)) s.queues
class_is s level phase l h k =
    class_parts s level phase l k
    ∙ sym (same_pass (is_between (class_low level phase) (class_high level phase)) (λ q. list_any (λ p. at_place p phase q) (periods_of level)) s.queues
    (weaken (λ q. is_queue q ≡ true) (λ q. is_between (class_low level phase) (class_high level phase) q ≡ list_any (λ p. at_place p phase q) (periods_of level)) (λ q e. class_test level phase q l h e) s.queues k.queues))

queues_parts : (s : Schedule) (f : ℕ) → IsKept s → flat_map (queues_in s f) periods ≡ filter (λ q. list_any (λ p. at_place p (f % frame_period p) q) periods) s.queues
queues_parts s f k = let h : 8193 ≤ 8193 = omega arith in let g : 8192 ≤ 8193 = omega arith in merge_all (λ p q. at_place p (f % frame_period p) q) (λ q. q.period) 8193 s.queues 8193 periods (λ p q e. period_at (f % frame_period p) p q e) h periods_drop (rising_at 8193 s.queues g (falling s k) k.queues)

pub chain_is : (s : Schedule) (f : ℕ) → IsKept s → chain s f ≡ map Once (descriptors_in s f) ++ map Each (filter (is_active f) s.queues)
chain_is s f k =
    ap (λ qs. map Once (descriptors_in s f) ++ map Each qs) (queues_parts s f k
    ∙ same_pass (λ q. list_any (λ p. at_place p (f % frame_period p) q) periods) (is_active f) s.queues
    (weaken (λ q. is_queue q ≡ true) (λ q. list_any (λ p. at_place p (f % frame_period p) q) periods ≡ is_active f q) (λ q e. frame_test f q e) s.queues k.queues))
