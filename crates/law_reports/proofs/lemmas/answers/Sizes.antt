-- The qTDs of a new transfer have just the bytes that are asked for.
use Rattle.std.proofs.Common.{◌≡◌, ℕ, zero, suc, ◌+◌, ◌-◌, ◌*◌, ◌≤◌, min, max, nat_eq, not, Bool, true, false, cond, List, [], ◌∷◌, map, ap, refl, ◌∙◌, arith}
use Rattle.std.specs.List.{range_with_len, sum_by}
use Rattle.std.proofs.Math.Nat.{suc-mul}
use Rattle.std.proofs.lemmas.Bool.Decides.{nat_tests}
use Rattle.std.proofs.lemmas.List.Sums.{sum_by-cons}
use Rattle.law_world.proofs.Common.{enough}
use Rattle.usb_base.specs.declared.packets.Way.{Way}
use Rattle.drv_table.specs.declared.content.QtdNote.{QtdNote}
use Rattle.drv_table.specs.Harvests.{note_at}
use Rattle.drv_table.specs.Words.{pieces, cut, request_length, request_stages, setup_stage, data_stage, status_stage, asks_in}
use Rattle.claims_answers.specs.Telling.{qtds_of}
use Rattle.law_driver.specs.chained_transfers.Bulk.{stage_by}
use Rattle.law_driver.proofs.lemmas.chained_transfers.Ways.{stage_told}
use Rattle.law_driver_ring.specs.told_harvests.Held.{told_of}
use Rattle.law_queues.proofs.lemmas.harvest_laws.Stages.{told_in_all}

-- ---- a get or a put

-- what is left is cut, piece by piece
cut_all : (way : Way) (len by a n : ℕ) → len ≤ (a + n) * by
    → told_in_all (map (stage_by way) (map (λ (k : ℕ). min by (len - k * by)) (range_with_len a n))) ≡ len - a * by
cut_all way len by a zero all =
    let same : (a + 0) * by ≡ a * by = ap (λ (i : ℕ). i * by) (let z : a + 0 ≡ a = omega arith in z) in omega (arith, all, same)
cut_all way len by a (suc n) all =
    let same : (a + 1 + n) * by ≡ (a + suc n) * by = ap (λ (i : ℕ). i * by) (let z : a + 1 + n ≡ a + suc n = omega arith in z) in
    let rest = cut_all way len by (a + 1) n (omega (arith, all, same)) in
    let next : (a + 1) * by ≡ a * by + by = ap (λ (i : ℕ). i * by) (let e : a + 1 ≡ suc a = omega arith in e) ∙ suc-mul a by in
    let one = stage_told way (min by (len - a * by)) in
    omega (arith, rest, next, one)

pub cut_sum : (way : Way) (len by : ℕ) → 1 ≤ by → told_in_all (map (stage_by way) (cut len by)) ≡ len
cut_sum way len by some =
    let z = cut_all way len by 0 (max 1 (pieces len by)) (enough len by some) in let none : 0 * by ≡ 0 = omega arith in omega
    (arith, z, none)

-- ---- a request, whose SETUP and status tell no bytes

pub request_sum : (setup : List ℕ) → told_in_all (request_stages setup) ≡ request_length setup
request_sum setup = by_data (nat_eq (request_length setup) 0) refl
  where
    by_data : (b : Bool) → nat_eq (request_length setup) 0 ≡ b
        → told_in_all (cond b (setup_stage ∷ status_stage true ∷ [])
        (setup_stage ∷ data_stage (asks_in setup) (request_length setup) ∷ status_stage (not (asks_in setup)) ∷ [])) ≡ request_length setup
    by_data true is = let none : request_length setup ≡ 0 = grind (arith, nat_tests) in omega (arith, none)
    by_data false is = omega arith

-- ---- as the clause sums them up

pub sum_told : (notes : List QtdNote) (b n : ℕ) → sum_by (λ c. (note_at notes c).told) (qtds_of notes b n) ≡ told_of (note_at notes) b n
sum_told notes b zero = refl
sum_told notes b (suc n) =
    sum_by-cons (λ c. (note_at notes c).told) b (qtds_of notes (note_at notes b).next n)
    ∙ ap (λ (k : ℕ). (note_at notes b).told + k) (sum_told notes (note_at notes b).next n)
