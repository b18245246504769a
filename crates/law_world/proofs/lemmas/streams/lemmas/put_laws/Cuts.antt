-- The qTDs of a put send all its bytes, each its piece (EHCI 1.0, 3.5.3 and 4.10).
use Rattle.std.proofs.Common.{◌≡◌, ℕ, zero, suc, ◌+◌, ◌-◌, ◌*◌, ◌≤◌, ◌<◌, min, max, List, length, drop, map, ap, refl, sym, subst, ◌∙◌, ⊎_elim, arith}
use Rattle.std.specs.List.{range_with_len}
use Rattle.std.proofs.Math.Nat.{suc-mul}
use Rattle.std.proofs.lemmas.Bool.{cases_lt}
use Rattle.std.proofs.lemmas.List.{drop_all, drop-drop, length-drop}
use Rattle.law_world.proofs.Common.{enough}
use Rattle.drv_table.specs.Words.{pieces, out_stage, put_stages}
use Rattle.law_world.specs.streams.put_laws.Held.{AreFilled, PutsAreFilled}

-- what is behind the first piece
rest_behind : (len by a : ℕ) (bytes : List ℕ) → length bytes ≡ len → drop (min by (len - a * by)) (drop (a * by) bytes) ≡ drop ((a + 1) * by) bytes
rest_behind len by a bytes long =
    let next : (a + 1) * by ≡ a * by + by = ap (λ (i : ℕ). i * by) (let e : a + 1 ≡ suc a = omega arith in e) ∙ suc-mul a by in
    let n = min by (len - a * by) in
    drop-drop n (a * by) bytes
    ∙ ⊎_elim
    (λ (last : len - a * by < by). drop_all (a * by + n) bytes (omega (arith, last, long)) ∙ sym (drop_all ((a + 1) * by) bytes (omega (arith, last, long, next))))
    (λ (whole : by ≤ len - a * by). ap (λ (i : ℕ). drop i bytes) (let e : a * by + n ≡ (a + 1) * by = omega (arith, whole, next) in e))
    (cases_lt (len - a * by) by)

filled_from : (len by : ℕ) (bytes : List ℕ) → length bytes ≡ len → (a n : ℕ) → len ≤ (a + n) * by
    → AreFilled (map out_stage (map (λ (k : ℕ). min by (len - k * by)) (range_with_len a n))) (drop (a * by) bytes)
filled_from len by bytes long a zero all =
    drop_all (a * by) bytes (let e : (a + 0) * by ≡ a * by = ap (λ (i : ℕ). i * by) (let z : a + 0 ≡ a = omega arith in z) in omega (arith, all, long, e))
filled_from len by bytes long a (suc n) all =
    let few = length-drop (a * by) bytes in
    let same : (a + 1 + n) * by ≡ (a + suc n) * by = ap (λ (i : ℕ). i * by) (let z : a + 1 + n ≡ a + suc n = omega arith in z) in (
      (λ same. absurd (cc)),
      refl,
      omega (arith, few, long),
      subst (AreFilled (map out_stage (map (λ (k : ℕ). min by (len - k * by)) (range_with_len (a + 1) n)))) (sym (rest_behind len by a bytes long))
          (filled_from len by bytes long (a + 1) n (omega (arith, all, same))),
    )

pub puts_filled : PutsAreFilled
puts_filled bytes by some =
    subst (λ (i : ℕ). AreFilled (put_stages (length bytes) by) (drop i bytes)) (let z : 0 * by ≡ 0 = omega arith in z)
    (filled_from (length bytes) by bytes refl 0 (max 1 (pieces (length bytes) by)) (enough (length bytes) by some))
