-- The fields of a new descriptor are in their ranges, and the bytes of each of its microframes lie in its buffer.
use Rattle.std.proofs.Common.{◌≡◌, ℕ, zero, suc, ◌+◌, ◌-◌, ◌*◌, ◌<◌, ◌≤◌, Bool, true, false, cond, List, get_or, if◌then◌else◌, ap, refl, sym, ◌∙◌, arith}
use Rattle.std.specs.Prelude.{count_by, nat_le}
use Rattle.std.specs.List.{range_with_len}
use Rattle.std.proofs.lemmas.List.FromFn.{length-range_with_len}
use Rattle.std.proofs.lemmas.List.Sums.{sum_by-cons, count_by-le-length}
use Rattle.usb_base.specs.declared.endpoints.EpDesc.{EpDesc}
use Rattle.link_words.specs.Layout.{IsWordInRange}
use Rattle.link_words.specs.Fields.{link_at}
use Rattle.itd_sitd.specs.declared.slot.ItdSlot.{ItdSlot}
use Rattle.itd_sitd.specs.Slot.{slot_rows, no_slot}
use Rattle.itd_sitd.specs.Itd.{slot_of, IsItdInRange}
use Rattle.itd_sitd.specs.Sitd.{IsSitdInRange}
use Rattle.bandwidth.specs.Placements.{has, below}
use Rattle.drv_periodic_table.specs.Descriptors.{slots_before, slots_in, is_in, active_slot, new_slot, new_itd, parts_of, part_count, part_position, new_sitd}
use Rattle.law_descriptors.specs.Written.{HasFields}

-- ---- how many slots stand before a microframe

counted : (p : ℕ → Bool) (a n k : ℕ) → count_by p (range_with_len a (n + k)) ≡ count_by p (range_with_len a n) + count_by p (range_with_len (a + n) k)
counted p a zero k =
    let left : 0 + k ≡ k = omega arith in
    let right : a + 0 ≡ a = omega arith in
    let one = ap (λ (i : ℕ). count_by p (range_with_len a i)) left in
    let two = ap (λ (i : ℕ). count_by p (range_with_len i k)) right in
    omega (arith, one, two)
counted p a (suc n) k =
    let whole : suc n + k ≡ suc (n + k) = omega arith in
    let next : a + 1 + n ≡ a + suc n = omega arith in
    let one = ap (λ (i : ℕ). count_by p (range_with_len a i)) whole in
    let head = sum_by-cons (λ (x : ℕ). cond (p x) 1 0) a (range_with_len (a + 1) (n + k)) in
    let first = sum_by-cons (λ (x : ℕ). cond (p x) 1 0) a (range_with_len (a + 1) n) in
    let rest = counted p (a + 1) n k in
    let at = ap (λ (i : ℕ). count_by p (range_with_len i k)) next in
    omega (arith, one, head, first, rest, at)

-- a slot that is there is one of them all
pub slot_within : (smask u : ℕ) → u < 8 → has smask u ≡ true → slots_before smask u + 1 ≤ slots_in smask
unfolding slots_before
slot_within smask u small on =
    let k = 7 - u in
    let whole : u + suc k ≡ 8 = omega (arith, small) in
    let split = counted (has smask) 0 u (suc k) in
    let at = ap (λ (i : ℕ). count_by (has smask) (range_with_len 0 i)) whole in
    let from = ap (λ (i : ℕ). count_by (has smask) (range_with_len i (suc k))) (let e : 0 + u ≡ u = omega arith in e) in
    let head = sum_by-cons (λ (x : ℕ). cond (has smask x) 1 0) u (range_with_len (u + 1) k) in
    let one = ap {B = ℕ} (λ (b : Bool). cond b 1 0) on in
    omega (arith, split, at, from, head, one)

pub slots_few : (smask : ℕ) → slots_in smask ≤ 8
unfolding slots_before
slots_few smask = count_by-le-length (has smask) (below 8)

-- .. and so are those before any microframe
pub before_few : (smask u : ℕ) → u < 8 → slots_before smask u ≤ 8
unfolding slots_before
before_few smask u small = let most = count_by-le-length (has smask) (below u) in let long = length-range_with_len 0 u in omega (arith, most, long, small)

-- ---- a microframe

slot_range : (b : Bool) (slot : ℕ) (runs : List ℕ) (j : ℕ) → slot ≤ 3072 → j ≤ 24576 → IsWordInRange slot_rows (if b then active_slot slot runs j else no_slot)
slot_range true slot runs j few within = (omega (arith, few), (omega (arith, within), (omega arith, tt)))
slot_range false slot runs j few within = (omega arith, (omega arith, (omega arith, tt)))

-- ---- an iTD

pub itd_range : (x : EpDesc) (smask slot : ℕ) (runs : List ℕ) (l : ℕ) → HasFields x → slot ≤ 3072 → ((u : ℕ) → u < 8 → slots_before smask u * slot ≤ 24576) → ((i : ℕ) → get_or runs i 0 < 32768) → IsItdInRange (record (new_itd x smask slot runs) { link = link_at l })
itd_range x smask slot runs l fits few within low =
    let p0 = low 0 in
    let p1 = low 1 in
    let p2 = low 2 in
    let p3 = low 3 in
    let p4 = low 4 in
    let p5 = low 5 in
    let at : (u : ℕ) → u < 8 → IsWordInRange slot_rows (new_slot smask slot runs u) = λ u small. slot_range (has smask u) slot runs (slots_before smask u * slot) few (within u small) in
    let addr = fits.addr in
    let num = fits.num in
    let most = fits.max in
    let one = fits.multi_least in
    let three = fits.multi_most in
    record {
      eight = refl;
      fields = (
        (omega arith, (omega arith, tt)),
        (
          at 0 (omega arith),
          (
            at 1 (omega arith),
            (
              at 2 (omega arith),
              (
                at 3 (omega arith),
                (
                  at 4 (omega arith),
                  (
                    at 5 (omega arith),
                    (
                      at 6 (omega arith),
                      (
                        at 7 (omega arith),
                        (
                          (omega (arith, p0), (omega (arith, num), (omega (arith, addr), tt))),
                          (
                            (omega (arith, p1), (omega (arith, most), tt)),
                            (
                              (omega (arith, p2), ((omega (arith, three), omega (arith, one)), tt)),
                              ((omega (arith, p3), tt), ((omega (arith, p4), tt), ((omega (arith, p5), tt), ((omega arith, tt), tt)))),
                            ),
                          ),
                        ),
                      ),
                    ),
                  ),
                ),
              ),
            ),
          ),
        ),
      );
    }

-- ---- a siTD

few_parts : (n : ℕ) → n ≤ 1023 → parts_of n < 8
few_parts n few = omega (arith, few)

count_low : (x : EpDesc) (slot : ℕ) → slot ≤ 1023 → part_count x slot < 8
count_low x slot few = by (is_in x.name.way)
  where
    by : (b : Bool) → (if b then 0 else parts_of slot) < 8
    by true = omega arith
    by false = few_parts slot few

position_low : (n : ℕ) → part_position n < 4
position_low n = by (nat_le n 1)
  where
    by : (b : Bool) → (if b then 0 else 1) < 4
    by true = omega arith
    by false = omega arith

pub sitd_range : (x : EpDesc) (smask cmask slot : ℕ) (runs : List ℕ) (l : ℕ) → HasFields x → smask < 256 → cmask < 256 → slot ≤ 1023 → ((i : ℕ) → get_or runs i 0 < 32768) → IsSitdInRange (record (new_sitd x smask cmask slot runs) { link = link_at l })
sitd_range x smask cmask slot runs l fits starts completes few low =
    let p0 = low 0 in
    let addr = fits.addr in
    let num = fits.num in
    let hub = fits.hub in
    let port = fits.port in (
      (omega arith, (omega arith, tt)),
      (
        (omega (arith, port), (omega (arith, hub), (omega (arith, num), (omega (arith, addr), tt)))),
        (
          (completes, (starts, tt)),
          (
            (omega (arith, few), (omega arith, tt)),
            (
              (omega (arith, p0), (omega arith, tt)),
              (
                (omega arith, (position_low (part_count x slot), (count_low x slot few, tt))),
                ((omega arith, tt), tt),
              ),
            ),
          ),
        ),
      ),
    )

-- ---- a slot of an iTD

either_on : (b : Bool) (slot : ℕ) (runs : List ℕ) (j : ℕ) → (if b then active_slot slot runs j else no_slot).active ≡ true → b ≡ true
either_on true slot runs j on = refl
either_on false slot runs j on = on

slots_are : (x : EpDesc) (smask slot : ℕ) (runs : List ℕ) (l u : ℕ) → u < 8 → slot_of u (record (new_itd x smask slot runs) { link = link_at l }) ≡ new_slot smask slot runs u
slots_are x smask slot runs l (suc (suc (suc (suc (suc (suc (suc (suc u)))))))) small = absurd (omega (arith, small))
slots_are x smask slot runs l _ small = refl

-- one that is active is that of its bytes
pub record IsSlotOf (smask slot : ℕ) (runs : List ℕ) (u : ℕ) (s : ItdSlot) : Type 0 where
  pub on : has smask u ≡ true
  pub is : s ≡ active_slot slot runs (slots_before smask u * slot)

pub active_is : (x : EpDesc) (smask slot : ℕ) (runs : List ℕ) (l u : ℕ) → u < 8 → (slot_of u (record (new_itd x smask slot runs) { link = link_at l })).active ≡ true → IsSlotOf smask slot runs u (slot_of u (record (new_itd x smask slot runs) { link = link_at l }))
active_is x smask slot runs l u small active =
    let same = slots_are x smask slot runs l u small in
    let on : has smask u ≡ true = either_on (has smask u) slot runs (slots_before smask u * slot) (ap (λ (s : ItdSlot). s.active) (sym same) ∙ active) in
    record { on = on; is = same ∙ ap (λ (b : Bool). if b then active_slot slot runs (slots_before smask u * slot) else no_slot) on }
