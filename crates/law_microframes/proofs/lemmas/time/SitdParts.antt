-- A transaction of a siTD leaves the parts that are to come within the largest packet, and costs no more than the placement has for its
-- microframe (EHCI 1.0, 4.12.3; USB 2.0, 5.11.3 and 11.18.4).
use Rattle.std.proofs.Common.{◌≡◌, ℕ, zero, suc, ◌+◌, ◌-◌, ◌*◌, ◌/◌, ◌%◌, ◌^◌, ◌<◌, ◌≤◌, inl, inr, min, max, Bool, true, false, refl, ap, sym, subst, ◌∙◌, arith, eqb-true}
use Rattle.std.specs.Prelude.{not, ◌==◌, ◌&&◌, nat_le, if◌then◌else◌}
use Rattle.std.proofs.lemmas.Bool.{and_parts, true≢false, cases_lt}
use Rattle.std.proofs.lemmas.Bool.Decides.{nat_tests}
use Rattle.law_microframes.proofs.Common.{heard_way}
use Rattle.law_common.proofs.Booleans.{or_both, off_by}
use Rattle.usb_base.specs.Cost.{bus_time}
use Rattle.usb_base.specs.declared.packets.Dir.{Dir}
use Rattle.usb_base.specs.declared.packets.Dir.TheVariants as ways
use Rattle.usb_base.specs.declared.packets.EpKind.TheVariants.{Iso}
use Rattle.usb_base.specs.declared.packets.Reply.{Reply}
use Rattle.usb_base.specs.declared.packets.Speed.TheVariants.{High}
use Rattle.itd_sitd.specs.declared.sitd.Sitd.{Sitd}
use Rattle.hc_masks.specs.Masks.{has, is_after_first, is_first, lacks, with_bit}
use Rattle.hc_iso.specs.declared.held.SitdTurn.TheVariants.{Work}
use Rattle.hc_iso.specs.declared.held.SplitHeard.{SplitHeard}
use Rattle.hc_iso.specs.declared.held.SplitHeard.TheVariants as heards
use Rattle.hc_iso.specs.Sitd.{sitd_missed, in_comes, out_comes, comes, turn_at, sitd_turn, after_split_heard, after_complete, after_start, after_part, heard_by, in_after}
use Rattle.bandwidth.specs.declared.placements.Want.{Want}
use Rattle.bandwidth.specs.declared.placements.Placement.{Placement}
use Rattle.bandwidth.specs.declared.placements.Placed.{Placed}
use Rattle.bandwidth.specs.Placements.{first_in, is_classic}
use Rattle.bandwidth.proofs.Microframes.{first_is}
use Rattle.bandwidth.specs.Sums.{cost_in}
use Rattle.drv_periodic_table.specs.Descriptors.{parts_of}
use Rattle.claims_world.specs.Prices.{sitd_bytes}
use Rattle.law_microframes.specs.time.SitdParts.{marks, position_of, is_in, IsInParts, IsSitdOf, PartsStay, PartsAreWithin}
use Rattle.law_microframes.proofs.lemmas.time.SplitHeads.{some_times}

-- ---- marks

odd_at : (n r : ℕ) → n % 2 ≡ r → (r == 1) ≡ false → n % 2 ≡ 0
odd_at n zero is not_odd = is
odd_at n (suc zero) is not_odd = absurd (cc)
odd_at n (suc (suc r)) is not_odd = absurd (omega (arith, is))

even : (n : ℕ) → (n % 2 == 1) ≡ false → n % 2 ≡ 0
even n not_odd = odd_at n (n % 2) refl not_odd

-- by the eight microframes
one_mark : (c u : ℕ) → c < 256 → u < 8 → has c u ≡ false → marks (c + 2 ^ u) ≤ marks c + 1
one_mark c zero small low free = omega (arith, small, even (c / 2 ^ 0) free)
one_mark c (suc zero) small low free = omega (arith, small, even (c / 2 ^ 1) free)
one_mark c (suc (suc zero)) small low free = omega (arith, small, even (c / 2 ^ 2) free)
one_mark c (suc (suc (suc zero))) small low free = omega (arith, small, even (c / 2 ^ 3) free)
one_mark c (suc (suc (suc (suc zero)))) small low free = omega (arith, small, even (c / 2 ^ 4) free)
one_mark c (suc (suc (suc (suc (suc zero))))) small low free = omega (arith, small, even (c / 2 ^ 5) free)
one_mark c (suc (suc (suc (suc (suc (suc zero)))))) small low free = omega (arith, small, even (c / 2 ^ 6) free)
one_mark c (suc (suc (suc (suc (suc (suc (suc zero))))))) small low free = omega (arith, small, even (c / 2 ^ 7) free)
one_mark c (suc (suc (suc (suc (suc (suc (suc (suc u)))))))) small low free = absurd (omega (arith, low))

more_marks : (c u : ℕ) (b : Bool) → has c u ≡ b → c < 256 → u < 8 → marks (if b then c else c + 2 ^ u) ≤ marks c + 1
more_marks c u true is small low = omega arith
more_marks c u false is small low = one_mark c u small low is

marks_more : (c u : ℕ) → c < 256 → u < 8 → marks (with_bit c u) ≤ marks c + 1
marks_more c u small low = more_marks c u (has c u) refl small low

-- a microframe of a stretch that is marked
digit : (d s u i : ℕ) → (s ≤ i → i < u → d ≡ 1) → min u (i + 1) - max s i ≤ d
digit d s u i all =
    elim (cases_lt i u) [
      | inl less ↦
          elim (cases_lt i s) [
            | inl above ↦ omega (arith, above)
            | inr from ↦ let one = all from less in omega (arith, one)
          ]
      | inr over ↦ omega (arith, over)
    ]

one_step : (s u i a d : ℕ) → min u i - s ≤ a → min u (i + 1) - max s i ≤ d → min u (i + 1) - s ≤ a + d
one_step s u i a d before more = omega (arith, before, more)

steps : (s u d0 d1 d2 d3 d4 d5 d6 d7 : ℕ) → u ≤ 8 → min u 1 - max s 0 ≤ d0 → min u 2 - max s 1 ≤ d1 → min u 3 - max s 2 ≤ d2
    → min u 4 - max s 3 ≤ d3 → min u 5 - max s 4 ≤ d4 → min u 6 - max s 5 ≤ d5 → min u 7 - max s 6 ≤ d6 → min u 8 - max s 7 ≤ d7
    → u - s ≤ d0 + (d1 + (d2 + (d3 + (d4 + (d5 + (d6 + d7))))))
steps s u d0 d1 d2 d3 d4 d5 d6 d7 small h0 h1 h2 h3 h4 h5 h6 h7 =
    let s0 : min u 0 - s ≤ 0 = omega arith in
    let s1 : min u 1 - s ≤ 0 + d0 = one_step s u 0 0 d0 s0 h0 in
    let s2 : min u 2 - s ≤ 0 + d0 + d1 = one_step s u 1 (0 + d0) d1 s1 h1 in
    let s3 : min u 3 - s ≤ 0 + d0 + d1 + d2 = one_step s u 2 (0 + d0 + d1) d2 s2 h2 in
    let s4 : min u 4 - s ≤ 0 + d0 + d1 + d2 + d3 = one_step s u 3 (0 + d0 + d1 + d2) d3 s3 h3 in
    let s5 : min u 5 - s ≤ 0 + d0 + d1 + d2 + d3 + d4 = one_step s u 4 (0 + d0 + d1 + d2 + d3) d4 s4 h4 in
    let s6 : min u 6 - s ≤ 0 + d0 + d1 + d2 + d3 + d4 + d5 = one_step s u 5 (0 + d0 + d1 + d2 + d3 + d4) d5 s5 h5 in
    let s7 : min u 7 - s ≤ 0 + d0 + d1 + d2 + d3 + d4 + d5 + d6 = one_step s u 6 (0 + d0 + d1 + d2 + d3 + d4 + d5) d6 s6 h6 in
    let s8 : min u 8 - s ≤ 0 + d0 + d1 + d2 + d3 + d4 + d5 + d6 + d7 = one_step s u 7 (0 + d0 + d1 + d2 + d3 + d4 + d5 + d6) d7 s7 h7 in
    whole u s (min u 8) (omega (arith, small)) s8
  where
    whole : (v r n : ℕ) → n ≡ v → n - r ≤ 0 + d0 + d1 + d2 + d3 + d4 + d5 + d6 + d7
        → v - r ≤ d0 + (d1 + (d2 + (d3 + (d4 + (d5 + (d6 + d7))))))
    whole v r n same most = omega (arith, same, most)

stretch : (c s u : ℕ) → u ≤ 8 → ((i : ℕ) → s ≤ i → i < u → c / 2 ^ i % 2 ≡ 1) → u - s ≤ marks c
stretch c s u small all =
    steps s u (c % 2) (c / 2 % 2) (c / 4 % 2) (c / 8 % 2) (c / 16 % 2) (c / 32 % 2) (c / 64 % 2) (c / 128 % 2) small
    (digit (c % 2) s u 0 (λ from less. let e = all 0 from less in omega (arith, e)))
    (digit (c / 2 % 2) s u 1 (λ from less. all 1 from less))
    (digit (c / 4 % 2) s u 2 (λ from less. all 2 from less))
    (digit (c / 8 % 2) s u 3 (λ from less. all 3 from less))
    (digit (c / 16 % 2) s u 4 (λ from less. all 4 from less))
    (digit (c / 32 % 2) s u 5 (λ from less. all 5 from less))
    (digit (c / 64 % 2) s u 6 (λ from less. all 6 from less))
    (digit (c / 128 % 2) s u 7 (λ from less. all 7 from less))

-- ---- no microframe before this one was missed

marked_too : (a b : Bool) → (a && not b) ≡ false → a ≡ true → b ≡ true
marked_too true true is on = refl
marked_too true false is on = absurd (true≢false is)
marked_too false b is on = absurd (true≢false (sym on))

none_lacking : (mask done u i : ℕ) → lacks mask done u ≡ false → i < u → has mask i ≡ true → has done i ≡ true
unfolding lacks
none_lacking mask done zero i none less own = absurd (omega (arith, less))
none_lacking mask done (suc u) i none less own =
    let parts = or_both (lacks mask done u) (has mask u && not (has done u)) none in
    elim (cases_lt i u) [
      | inl under ↦ none_lacking mask done u i parts.0 under own
      | inr over ↦
          let same : u ≡ i = omega (arith, less, over) in
          subst (λ (k : ℕ). has done k ≡ true) same
          (marked_too (has mask u) (has done u) parts.1 (subst (λ (k : ℕ). has mask k ≡ true) (sym same) own))
    ]

lower_no : (d : ℕ) → d ≡ 0 → (d == 1) ≡ true → ⊥
lower_no d none on = let one : d ≡ 1 = eqb-true d 1 on in omega (arith, none, one)

-- below the first microframe of a mask there is none
no_lower : (m u i : ℕ) → u < 8 → i < u → (m % 2 ^ u == 0) ≡ true → has m i ≡ true → ⊥
no_lower m zero i small less none on = absurd (omega (arith, less))
no_lower m (suc zero) zero small less none on = lower_no (m / 1 % 2) (let e : m % 2 ≡ 0 = eqb-true (m % 2) 0 none in omega (arith, e)) on
no_lower m (suc zero) (suc i) small less none on = absurd (omega (arith, less))
no_lower m (suc (suc zero)) zero small less none on =
    lower_no (m / 1 % 2) (let e : m % 4 ≡ 0 = eqb-true (m % 4) 0 none in omega (arith, e)) on
no_lower m (suc (suc zero)) (suc zero) small less none on =
    lower_no (m / 2 % 2) (let e : m % 4 ≡ 0 = eqb-true (m % 4) 0 none in omega (arith, e)) on
no_lower m (suc (suc zero)) (suc (suc i)) small less none on = absurd (omega (arith, less))
no_lower m (suc (suc (suc zero))) zero small less none on =
    lower_no (m / 1 % 2) (let e : m % 8 ≡ 0 = eqb-true (m % 8) 0 none in omega (arith, e)) on
no_lower m (suc (suc (suc zero))) (suc zero) small less none on =
    lower_no (m / 2 % 2) (let e : m % 8 ≡ 0 = eqb-true (m % 8) 0 none in omega (arith, e)) on
no_lower m (suc (suc (suc zero))) (suc (suc zero)) small less none on =
    lower_no (m / 4 % 2) (let e : m % 8 ≡ 0 = eqb-true (m % 8) 0 none in omega (arith, e)) on
no_lower m (suc (suc (suc zero))) (suc (suc (suc i))) small less none on = absurd (omega (arith, less))
no_lower m (suc (suc (suc (suc zero)))) zero small less none on =
    lower_no (m / 1 % 2) (let e : m % 16 ≡ 0 = eqb-true (m % 16) 0 none in omega (arith, e)) on
no_lower m (suc (suc (suc (suc zero)))) (suc zero) small less none on =
    lower_no (m / 2 % 2) (let e : m % 16 ≡ 0 = eqb-true (m % 16) 0 none in omega (arith, e)) on
no_lower m (suc (suc (suc (suc zero)))) (suc (suc zero)) small less none on =
    lower_no (m / 4 % 2) (let e : m % 16 ≡ 0 = eqb-true (m % 16) 0 none in omega (arith, e)) on
no_lower m (suc (suc (suc (suc zero)))) (suc (suc (suc zero))) small less none on =
    lower_no (m / 8 % 2) (let e : m % 16 ≡ 0 = eqb-true (m % 16) 0 none in omega (arith, e)) on
no_lower m (suc (suc (suc (suc zero)))) (suc (suc (suc (suc i)))) small less none on = absurd (omega (arith, less))
no_lower m (suc (suc (suc (suc (suc zero))))) zero small less none on =
    lower_no (m / 1 % 2) (let e : m % 32 ≡ 0 = eqb-true (m % 32) 0 none in omega (arith, e)) on
no_lower m (suc (suc (suc (suc (suc zero))))) (suc zero) small less none on =
    lower_no (m / 2 % 2) (let e : m % 32 ≡ 0 = eqb-true (m % 32) 0 none in omega (arith, e)) on
no_lower m (suc (suc (suc (suc (suc zero))))) (suc (suc zero)) small less none on =
    lower_no (m / 4 % 2) (let e : m % 32 ≡ 0 = eqb-true (m % 32) 0 none in omega (arith, e)) on
no_lower m (suc (suc (suc (suc (suc zero))))) (suc (suc (suc zero))) small less none on =
    lower_no (m / 8 % 2) (let e : m % 32 ≡ 0 = eqb-true (m % 32) 0 none in omega (arith, e)) on
no_lower m (suc (suc (suc (suc (suc zero))))) (suc (suc (suc (suc zero)))) small less none on =
    lower_no (m / 16 % 2) (let e : m % 32 ≡ 0 = eqb-true (m % 32) 0 none in omega (arith, e)) on
no_lower m (suc (suc (suc (suc (suc zero))))) (suc (suc (suc (suc (suc i))))) small less none on = absurd (omega (arith, less))
no_lower m (suc (suc (suc (suc (suc (suc zero)))))) zero small less none on =
    lower_no (m / 1 % 2) (let e : m % 64 ≡ 0 = eqb-true (m % 64) 0 none in omega (arith, e)) on
no_lower m (suc (suc (suc (suc (suc (suc zero)))))) (suc zero) small less none on =
    lower_no (m / 2 % 2) (let e : m % 64 ≡ 0 = eqb-true (m % 64) 0 none in omega (arith, e)) on
no_lower m (suc (suc (suc (suc (suc (suc zero)))))) (suc (suc zero)) small less none on =
    lower_no (m / 4 % 2) (let e : m % 64 ≡ 0 = eqb-true (m % 64) 0 none in omega (arith, e)) on
no_lower m (suc (suc (suc (suc (suc (suc zero)))))) (suc (suc (suc zero))) small less none on =
    lower_no (m / 8 % 2) (let e : m % 64 ≡ 0 = eqb-true (m % 64) 0 none in omega (arith, e)) on
no_lower m (suc (suc (suc (suc (suc (suc zero)))))) (suc (suc (suc (suc zero)))) small less none on =
    lower_no (m / 16 % 2) (let e : m % 64 ≡ 0 = eqb-true (m % 64) 0 none in omega (arith, e)) on
no_lower m (suc (suc (suc (suc (suc (suc zero)))))) (suc (suc (suc (suc (suc zero))))) small less none on =
    lower_no (m / 32 % 2) (let e : m % 64 ≡ 0 = eqb-true (m % 64) 0 none in omega (arith, e)) on
no_lower m (suc (suc (suc (suc (suc (suc zero)))))) (suc (suc (suc (suc (suc (suc i)))))) small less none on = absurd (omega (arith, less))
no_lower m (suc (suc (suc (suc (suc (suc (suc zero))))))) zero small less none on =
    lower_no (m / 1 % 2) (let e : m % 128 ≡ 0 = eqb-true (m % 128) 0 none in omega (arith, e)) on
no_lower m (suc (suc (suc (suc (suc (suc (suc zero))))))) (suc zero) small less none on =
    lower_no (m / 2 % 2) (let e : m % 128 ≡ 0 = eqb-true (m % 128) 0 none in omega (arith, e)) on
no_lower m (suc (suc (suc (suc (suc (suc (suc zero))))))) (suc (suc zero)) small less none on =
    lower_no (m / 4 % 2) (let e : m % 128 ≡ 0 = eqb-true (m % 128) 0 none in omega (arith, e)) on
no_lower m (suc (suc (suc (suc (suc (suc (suc zero))))))) (suc (suc (suc zero))) small less none on =
    lower_no (m / 8 % 2) (let e : m % 128 ≡ 0 = eqb-true (m % 128) 0 none in omega (arith, e)) on
no_lower m (suc (suc (suc (suc (suc (suc (suc zero))))))) (suc (suc (suc (suc zero)))) small less none on =
    lower_no (m / 16 % 2) (let e : m % 128 ≡ 0 = eqb-true (m % 128) 0 none in omega (arith, e)) on
no_lower m (suc (suc (suc (suc (suc (suc (suc zero))))))) (suc (suc (suc (suc (suc zero))))) small less none on =
    lower_no (m / 32 % 2) (let e : m % 128 ≡ 0 = eqb-true (m % 128) 0 none in omega (arith, e)) on
no_lower m (suc (suc (suc (suc (suc (suc (suc zero))))))) (suc (suc (suc (suc (suc (suc zero)))))) small less none on =
    lower_no (m / 64 % 2) (let e : m % 128 ≡ 0 = eqb-true (m % 128) 0 none in omega (arith, e)) on
no_lower m (suc (suc (suc (suc (suc (suc (suc zero))))))) (suc (suc (suc (suc (suc (suc (suc i))))))) small less none on =
    absurd (omega (arith, less))
no_lower m (suc (suc (suc (suc (suc (suc (suc (suc u)))))))) i small less none on = absurd (omega (arith, small))

twice_not : (b : Bool) → not (not b) ≡ true → b ≡ true
twice_not true is = refl
twice_not false is = absurd (true≢false (sym is))

pub first_here : (m u : ℕ) → u < 8 → is_first m u ≡ true → (has m u ≡ true) × (u ≡ first_in m)
first_here m u small is =
    let parts = and_parts (has m u) (not (is_after_first m u)) is in
    (parts.0, first_is m u small (λ k less. off_by (has m k) (no_lower m u k small less (twice_not (m % 2 ^ u == 0) parts.1))) parts.0)

-- ---- what there is to do

pub works : (a m c : Bool) → turn_at a m c ≡ Work → (a ≡ true) × (m ≡ false) × (c ≡ true)
works true false true is = (refl, refl, refl)
works true false false is = absurd (cc)
works true true c is = absurd (cc)
works false m c is = absurd (cc)

pub so_in : (d a b : Bool) → d ≡ true → (if d then a else b) ≡ true → a ≡ true
so_in true a b is on = on
so_in false a b is on = absurd (true≢false (sym is))

pub so_out : (d a b : Bool) → d ≡ false → (if d then a else b) ≡ true → b ≡ true
so_out true a b is on = absurd (true≢false is)
so_out false a b is on = on

no_bytes : (d s : Bool) (n : ℕ) → d ≡ true → s ≡ false → (if d && not s then 0 else n) ≡ 0
no_bytes true false n way split = refl
no_bytes true true n way split = absurd (true≢false split)
no_bytes false s n way split = absurd (true≢false (sym way))

its_bytes : (d s : Bool) (n : ℕ) → (if d && not s then 0 else n) ≤ n
its_bytes true false n = omega arith
its_bytes true true n = omega arith
its_bytes false s n = omega arith

-- ---- the prices

dearer : (n m : ℕ) → n ≤ m → bus_time High Iso ways.In n ≤ bus_time High Iso ways.In m
dearer n m h = omega (arith, h)

iso_start : (w : Want) (p : Placement) (m : ℕ) → has p.smask m ≡ true → is_classic w.speed ≡ true → w.kind ≡ Iso → w.dir ≡ ways.In
    → 1 ≤ w.multi
    → bus_time High Iso ways.In 0 ≤ cost_in w p m
iso_start w p m own classic kind dir some =
    some_times (bus_time High Iso ways.In 0) w.multi (cost_in w p m) some (rw (own, classic, kind, dir) refl)

iso_complete : (w : Want) (p : Placement) (m : ℕ) → has p.smask m ≡ false → has p.cmask m ≡ true → w.kind ≡ Iso
    → w.dir ≡ ways.In
    → 1 ≤ w.multi
    → bus_time High Iso ways.In (min w.max 188) ≤ cost_in w p m
iso_complete w p m off own kind dir some =
    some_times (bus_time High Iso ways.In (min w.max 188)) w.multi (cost_in w p m) some (rw (off, own, kind, dir) refl)

iso_part : (w : Want) (p : Placement) (m : ℕ) → has p.smask m ≡ true → is_classic w.speed ≡ true → w.kind ≡ Iso → w.dir ≡ ways.Out
    → 1 ≤ w.multi
    → bus_time High Iso ways.In (min 188 (w.max - 188 * (m - first_in p.smask))) ≤ cost_in w p m
iso_part w p m own classic kind dir some =
    some_times (bus_time High Iso ways.In (min 188 (w.max - 188 * (m - first_in p.smask)))) w.multi (cost_in w p m) some
    (rw (own, classic, kind, dir) refl)

-- ---- an OUT's part stands where the placement has it

on_mark : (c i : ℕ) → has c i ≡ true → c / 2 ^ i % 2 ≡ 1
on_mark c i on = eqb-true (c / 2 ^ i % 2) 1 on

pub parts_behind : (mask done u : ℕ) (b : Bool) → ((i : ℕ) → first_in mask ≤ i → i < u → has mask u ≡ true → has mask i ≡ true) → u < 8
    → (not b && lacks mask done u) ≡ false
    → (if b then is_first mask u else has mask u) ≡ true
    → (has mask u ≡ true) × (u - first_in mask ≤ marks done)
parts_behind mask done u true whole small none on =
    let first = first_here mask u small on in
    let same : u ≡ first_in mask = first.1 in
    (first.0, omega (arith, same))
parts_behind mask done u false whole small none on = (
  on,
  stretch done (first_in mask) u (omega (arith, small))
      (λ i from less. on_mark done i (none_lacking mask done u i none less (whole i from less on))),
)

few_bytes : (total most n k : ℕ) → total + 188 * k ≤ most → n ≤ k → min 188 total ≤ min 188 (most - 188 * n)
few_bytes total most n k within less = omega (arith, within, less)

-- ---- by the way

within_out : (x : Placed) (v : Sitd) (u : ℕ) → x.want.dir ≡ ways.Out → IsSitdOf x v → IsInParts v x.want.max → u < 8 → sitd_turn u v ≡ Work
    → bus_time High Iso ways.In (sitd_bytes v) ≤ cost_in x.want x.placement u
within_out x v u dir of parts small turn =
    let way : v.dir_in ≡ false = of.way ∙ ap is_in dir in
    let does = works v.active (sitd_missed u v) (comes u v) turn in
    let on = so_out v.dir_in (in_comes u v) (out_comes u v) way does.2 in
    let none : (not (v.c_prog == 0) && lacks v.smask v.c_prog u) ≡ false =
    subst (λ (b : Bool). ((if b then v.split_state else not (v.c_prog == 0)) && lacks (if b then v.cmask else v.smask) v.c_prog u) ≡ false)
    way does.1 in
    let behind = parts_behind v.smask v.c_prog u (v.c_prog == 0)
    (λ i from less own. subst (λ (mask : ℕ). has mask i ≡ true) (sym of.smask)
    (of.masks.whole i u (subst (λ (mask : ℕ). first_in mask ≤ i) of.smask from) less small
    (subst (λ (mask : ℕ). has mask u ≡ true) of.smask own)))
    small none on in
    let late : u - first_in x.placement.smask ≤ marks v.c_prog =
    subst (λ (mask : ℕ). u - first_in mask ≤ marks v.c_prog) of.smask behind.1 in
    let own : has x.placement.smask u ≡ true = subst (λ (mask : ℕ). has mask u ≡ true) of.smask behind.0 in
    let within = parts.within does.0 way in
    let few = few_bytes v.total x.want.max (u - first_in x.placement.smask) (marks v.c_prog) within late in
    let all = its_bytes v.dir_in v.split_state (min 188 v.total) in
    let cheap = dearer (sitd_bytes v) (min 188 (x.want.max - 188 * (u - first_in x.placement.smask))) (omega (arith, few, all)) in
    let cost = iso_part x.want x.placement u own of.classic of.kind dir of.some in
    omega (arith, cheap, cost)

within_in : (x : Placed) (v : Sitd) (u : ℕ) (split : Bool) → v.split_state ≡ split → x.want.dir ≡ ways.In → IsSitdOf x v
    → IsInParts v x.want.max
    → u < 8
    → sitd_turn u v ≡ Work
    → bus_time High Iso ways.In (sitd_bytes v) ≤ cost_in x.want x.placement u
within_in x v u false same dir of parts small turn =
    let way : v.dir_in ≡ true = of.way ∙ ap is_in dir in
    let does = works v.active (sitd_missed u v) (comes u v) turn in
    let on = so_out v.split_state (has v.cmask u) (has v.smask u) same (so_in v.dir_in (in_comes u v) (out_comes u v) way does.2) in
    let none = no_bytes v.dir_in v.split_state (min 188 v.total) way same in
    let cost = iso_start x.want x.placement u (subst (λ (mask : ℕ). has mask u ≡ true) of.smask on) of.classic of.kind dir of.some in
    subst (λ (n : ℕ). bus_time High Iso ways.In n ≤ cost_in x.want x.placement u) (sym none) cost
within_in x v u true same dir of parts small turn =
    let way : v.dir_in ≡ true = of.way ∙ ap is_in dir in
    let does = works v.active (sitd_missed u v) (comes u v) turn in
    let on = so_in v.split_state (has v.cmask u) (has v.smask u) same (so_in v.dir_in (in_comes u v) (out_comes u v) way does.2) in
    let own : has x.placement.cmask u ≡ true = subst (λ (mask : ℕ). has mask u ≡ true) of.cmask on in
    let fits = parts.fits does.0 in
    let all = its_bytes v.dir_in v.split_state (min 188 v.total) in
    let cheap = dearer (sitd_bytes v) (min x.want.max 188) (omega (arith, fits, all)) in
    let cost = iso_complete x.want x.placement u (of.masks.apart u small own) own of.kind dir of.some in
    omega (arith, cheap, cost)

within_by : (x : Placed) (v : Sitd) (u : ℕ) (dir : Dir) → x.want.dir ≡ dir → IsSitdOf x v → IsInParts v x.want.max → u < 8
    → sitd_turn u v ≡ Work
    → bus_time High Iso ways.In (sitd_bytes v) ≤ cost_in x.want x.placement u
within_by x v u ways.In same of parts small turn = within_in x v u v.split_state refl same of parts small turn
within_by x v u ways.Out same of parts small turn = within_out x v u same of parts small turn

pub parts_are_within : PartsAreWithin
parts_are_within x h u of parts small turn = within_by x h.sitd u x.want.dir refl of parts small turn

-- ---- the parts that are to come

fewer_parts : (total count most done later : ℕ) → count ≡ parts_of total → total + 188 * done ≤ most → later ≤ done + 1 → 2 ≤ count
    → (count - 1 ≡ parts_of (total - min 188 total)) × (total - min 188 total + 188 * later ≤ most)
fewer_parts total count most done later is within more some = (omega (arith, is, some), omega (arith, is, within, more, some))

still : (active : Bool) (count : ℕ) → (active && not (nat_le count 1)) ≡ true → (active ≡ true) × (2 ≤ count)
still active count is =
    let parts = and_parts active (not (nat_le count 1)) is in
    (parts.0, grind (arith, nat_tests, parts.1))

not_last : (n : ℕ) → 2 ≤ n → (n == 2) ≡ false → nat_le (n - 1) 1 ≡ false
not_last n h k = grind (arith, nat_tests)

-- behind a part that isn't the last
next_part : (tp count done : ℕ) → 2 ≤ count → (done == 0) ≡ false
    → (if nat_le count 1 then tp else if count == 2 then 3 else 2) ≡ position_of (done == 0) (count - 1)
next_part tp count done some marked =
    let more : nat_le count 1 ≡ false = grind (arith, nat_tests) in
    rw (more, marked) (by (count == 2) refl)
  where
    by : (b : Bool) → (count == 2) ≡ b → ◌≡◌ {A = ℕ} (if b then 3 else 2) (if nat_le (count - 1) 1 then 3 else 2)
    by true two = let e : count ≡ 2 = eqb-true count 2 two in rw e refl
    by false two = let later : nat_le (count - 1) 1 ≡ false = not_last count some two in rw later refl

no_mark : (u : ℕ) → u < 8 → has 0 u ≡ true → ⊥
no_mark zero small on = cc
no_mark (suc zero) small on = cc
no_mark (suc (suc zero)) small on = cc
no_mark (suc (suc (suc zero))) small on = cc
no_mark (suc (suc (suc (suc zero)))) small on = cc
no_mark (suc (suc (suc (suc (suc zero))))) small on = cc
no_mark (suc (suc (suc (suc (suc (suc zero)))))) small on = cc
no_mark (suc (suc (suc (suc (suc (suc (suc zero))))))) small on = cc
no_mark (suc (suc (suc (suc (suc (suc (suc (suc u)))))))) small on = omega (arith, small)

some_power : (u : ℕ) → 1 ≤ 2 ^ u
some_power zero = omega arith
some_power (suc u) = let p = some_power u in omega (arith, p)

-- a microframe that is marked leaves a mark
some_mark : (c u : ℕ) (b : Bool) → u < 8 → has c u ≡ b → ((if b then c else c + 2 ^ u) == 0) ≡ false
some_mark c u true small on =
    off_by (c == 0) (λ none. no_mark u small (subst (λ (n : ℕ). has n u ≡ true) (eqb-true c 0 none) on))
some_mark c u false small off =
    off_by (c + 2 ^ u == 0) (λ none. let e = eqb-true (c + 2 ^ u) 0 none in let p = some_power u in omega (arith, e, p))

out_stays : (v : Sitd) (most u : ℕ) → IsInParts v most → v.c_prog < 256 → u < 8 → v.dir_in ≡ false → IsInParts (after_part u v) most
unfolding after_part
out_stays v most u parts small low way = record {
  fits = λ active.
      let was = still v.active v.t_count active in
      let fits = parts.fits was.0 in
      omega (arith, fits);
  count = λ active dir.
      let was = still v.active v.t_count active in
      (fewer_parts v.total v.t_count most (marks v.c_prog) (marks (with_bit v.c_prog u)) (parts.count was.0 way) (parts.within was.0 way)
      (marks_more v.c_prog u small low) was.1).0;
  within = λ active dir.
      let was = still v.active v.t_count active in
      (fewer_parts v.total v.t_count most (marks v.c_prog) (marks (with_bit v.c_prog u)) (parts.count was.0 way) (parts.within was.0 way)
      (marks_more v.c_prog u small low) was.1).1;
  position = λ active dir.
      let was = still v.active v.t_count active in
      next_part v.tp v.t_count (with_bit v.c_prog u) was.1 (some_mark v.c_prog u (has v.c_prog u) low refl);
}

heard_fits : (heard : SplitHeard) (v : Sitd) (most : ℕ) → (v.active ≡ true → v.total ≤ most) → (after_split_heard heard v).active ≡ true
    → (after_split_heard heard v).total ≤ most
heard_fits (heards.Data last n) v most fits active =
    let was = and_parts v.active (not last) active in
    let less = fits was.0 in
    omega (arith, less)
heard_fits heards.Later v most fits active = fits active
heard_fits heards.TooLong v most fits active = absurd (true≢false (sym active))
heard_fits heards.Error v most fits active = absurd (true≢false (sym active))
heard_fits heards.Wrong v most fits active = absurd (true≢false (sym active))

complete_stays : (v : Sitd) (most u : ℕ) (heard : SplitHeard) → IsInParts v most → v.dir_in ≡ true
    → IsInParts (after_complete u heard v) most
unfolding after_complete
complete_stays v most u heard parts way = record {
  fits = λ active. heard_fits heard v most parts.fits active;
  count = λ active dir. absurd (true≢false (sym way ∙ sym (heard_way heard v) ∙ dir));
  within = λ active dir. absurd (true≢false (sym way ∙ sym (heard_way heard v) ∙ dir));
  position = λ active dir. absurd (true≢false (sym way ∙ sym (heard_way heard v) ∙ dir));
}

start_stays : (v : Sitd) (most : ℕ) → IsInParts v most → IsInParts (after_start v) most
unfolding after_start
start_stays v most parts = record { fits = parts.fits; count = parts.count; within = parts.within; position = parts.position }

in_stays : (v : Sitd) (most u : ℕ) (reply : Reply) (split : Bool) → IsInParts v most → v.dir_in ≡ true
    → IsInParts (if split then after_complete u (heard_by u v reply) v else after_start v) most
in_stays v most u reply true parts way = complete_stays v most u (heard_by u v reply) parts way
in_stays v most u reply false parts way = start_stays v most parts

stays_by : (v : Sitd) (most u : ℕ) (reply : Reply) (way : Bool) → v.dir_in ≡ way → IsInParts v most → v.c_prog < 256 → u < 8
    → IsInParts (if way then in_after u reply v else after_part u v) most
stays_by v most u reply true is parts small low = in_stays v most u reply v.split_state parts is
stays_by v most u reply false is parts small low = out_stays v most u parts small low is

pub parts_stay : PartsStay
parts_stay v most u reply parts small low turn = stays_by v most u reply v.dir_in refl parts small low
