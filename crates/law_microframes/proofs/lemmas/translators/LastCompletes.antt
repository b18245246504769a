-- Between the last microframe in which something is laid for an interrupt endpoint, or an isochronous IN, and its last complete-split two
-- microframes lie (USB 2.0, 11.18.4; EHCI 1.0, 4.12.2.1 and 4.12.3.1).
use Rattle.std.proofs.Common.{◌≡◌, ℕ, zero, suc, ◌+◌, ◌-◌, ◌/◌, ◌<◌, ◌≤◌, Bool, true, false, map, refl, sym, ap, subst, ◌∙◌, ⊎_elim, arith, if◌then◌else◌}
use Rattle.std.specs.Prelude.{◌&&◌, nat_le, nat_lt}
use Rattle.std.specs.List.{AllByRecursion, flat_map, range_with_len}
use Rattle.std.proofs.lemmas.Bool.{true≢false, cases_lt}
use Rattle.std.proofs.lemmas.Bool.Decides.{nat_tests}
use Rattle.law_translator.proofs.lemmas.hub_plans.Common.{all_joined, one_of}
use Rattle.usb_base.specs.Cost.{byte_times}
use Rattle.usb_base.specs.declared.packets.Dir.{Dir}
use Rattle.usb_base.specs.declared.packets.Dir.TheVariants as dirs
use Rattle.usb_base.specs.declared.packets.EpKind.{EpKind}
use Rattle.usb_base.specs.declared.packets.EpKind.TheVariants as kinds
use Rattle.usb_base.specs.declared.packets.Speed.{Speed}
use Rattle.usb_base.specs.declared.packets.Speed.TheVariants as speeds
use Rattle.bandwidth.specs.declared.placements.Placement.{Placement}
use Rattle.bandwidth.specs.declared.placements.Want.{Want}
use Rattle.bandwidth.specs.Placements.{IsWant, PlacementRow, first_in, run, is_classic, most_bytes, classic_row, high_row, interrupt_row, placement_row, placement_at, frame_period, in_phase, allowed}
use Rattle.bandwidth.proofs.Spans.{span_of, has_mask}
use Rattle.claims_world.specs.HubPlans.{time_in}
use Rattle.law_microframes.specs.translators.Told.{IsLastIn, HasAnswer, LastCompletesAreLate}

-- the last of a run of microframes is no earlier than its end
last_run : (s c u : ℕ) → 1 ≤ c → s + c ≤ 8 → IsLastIn (run s c) u → s + c ≤ u + 1
last_run s c u some fits last =
    ⊎_elim {C = s + c ≤ u + 1}
    (λ (less : u < s + c - 1).
    let low : s + c - 1 < 8 = omega (arith, some, fits) in
    let on : (nat_le s (s + c - 1) && nat_lt (s + c - 1) (s + c)) ≡ true = inside s c some in
    absurd (true≢false (sym on ∙ sym (has_mask (λ m. nat_le s m && nat_lt m (s + c)) (s + c - 1) low) ∙ last.none (s + c - 1) less low)))
    (λ (more : s + c - 1 ≤ u). omega (arith, more))
    (cases_lt u (s + c - 1))
  where
    inside : (s c : ℕ) → 1 ≤ c → (nat_le s (s + c - 1) && nat_lt (s + c - 1) (s + c)) ≡ true
    inside s c some = grind (arith, nat_tests)

-- ---- the byte-times

interrupt_time : (v : Speed) (n : ℕ) → is_classic v ≡ true → n ≤ most_bytes v kinds.Interrupt → byte_times v kinds.Interrupt n ≤ 188
interrupt_time speeds.High n classic few = absurd (true≢false (sym classic))
interrupt_time speeds.Full n classic few = omega (arith, few)
interrupt_time speeds.Low n classic few = omega (arith, few)

iso_time : (v : Speed) (n : ℕ) → is_classic v ≡ true → 1 ≤ n → n ≤ most_bytes v kinds.Iso → byte_times v kinds.Iso n ≡ n + 9
iso_time speeds.High n classic some few = absurd (true≢false (sym classic))
iso_time speeds.Full n classic some few = refl
iso_time speeds.Low n classic some few = absurd (omega (arith, some, few))

-- ---- one that is placed

abbrev IsLate : Want → Placement → Type 0
IsLate w p = (u : ℕ) → IsLastIn p.cmask u → first_in p.smask + (time_in w + 187) / 188 + 2 ≤ u

module _ (w : Want) (want : IsWant w) (classic : is_classic w.speed ≡ true) (phase s : ℕ) (low : s < (placement_row w).starts) where
  first : first_in ((placement_row w).smask s) ≡ s
  first = (span_of w want s low).first

  row_is : (kind : EpKind) (dir : Dir) → w.kind ≡ kind → w.dir ≡ dir → placement_row w ≡ classic_row kind dir w.max
  row_is kind dir one other =
      ap (λ (b : Bool). if b then classic_row w.kind w.dir w.max else high_row w.period) classic
      ∙ ap (λ (k : EpKind). classic_row k w.dir w.max) one ∙ ap (λ (d : Dir). classic_row kind d w.max) other

  interrupt_late : w.kind ≡ kinds.Interrupt → IsLate w (placement_at w phase s)
  interrupt_late kind u last =
      let row : placement_row w ≡ interrupt_row =
      ap (λ (b : Bool). if b then classic_row w.kind w.dir w.max else high_row w.period) classic
      ∙ ap (λ (k : EpKind). classic_row k w.dir w.max) kind in
      let few : s < 4 = subst (λ (r : PlacementRow). s < r.starts) row low in
      let end = last_run (s + 2) 3 u (omega arith) (omega (arith, few)) (subst (λ (r : PlacementRow). IsLastIn (r.cmask s) u) row last) in
      let time = interrupt_time w.speed w.max classic (subst (λ (k : EpKind). w.max ≤ most_bytes w.speed k) kind want.bytes) in
      let same : time_in w ≡ byte_times w.speed kinds.Interrupt w.max = ap (λ (k : EpKind). byte_times w.speed k w.max) kind in
      let at = first in
      omega (arith, end, time, same, at)

  iso_late : w.kind ≡ kinds.Iso → w.dir ≡ dirs.In → IsLate w (placement_at w phase s)
  iso_late kind dir u last =
      let row = row_is kinds.Iso dirs.In kind dir in
      let k : ℕ = (w.max + 9 + 187) / 188 in
      let few : s < 6 - k = subst (λ (r : PlacementRow). s < r.starts) row low in
      let end = last_run (s + 2) (k + 1) u (omega arith) (omega (arith, few))
      (subst (λ (r : PlacementRow). IsLastIn (r.cmask s) u) row last) in
      let same : time_in w ≡ w.max + 9 =
      ap (λ (e : EpKind). byte_times w.speed e w.max) kind
      ∙ iso_time w.speed w.max classic want.some_bytes (subst (λ (e : EpKind). w.max ≤ most_bytes w.speed e) kind want.bytes) in
      let parts : (time_in w + 187) / 188 ≡ k = ap (λ (n : ℕ). (n + 187) / 188) same in
      let at = first in
      omega (arith, end, parts, at)

  row_late : HasAnswer w.kind w.dir → IsLate w (placement_at w phase s)
  row_late answers = by w.kind w.dir refl refl answers
    where
      by : (kind : EpKind) (dir : Dir) → w.kind ≡ kind → w.dir ≡ dir → HasAnswer kind dir → IsLate w (placement_at w phase s)
      by kinds.Interrupt dir one other answers = interrupt_late one
      by kinds.Iso dirs.In one other answers = iso_late one other
      by kinds.Iso dirs.Out one other answers = absurd answers
      by kinds.Bulk dir one other answers = absurd answers
      by kinds.Control dir one other answers = absurd answers

-- ---- all that are allowed

module _ (w : Want) (want : IsWant w) (classic : is_classic w.speed ≡ true) (answers : HasAnswer w.kind w.dir) where
  phase_late : (phase a n : ℕ) → a + n ≤ (placement_row w).starts
      → AllByRecursion (IsLate w) (map (placement_at w phase) (range_with_len a n))
  phase_late phase a zero low = tt
  phase_late phase a (suc n) low =
      (row_late w want classic phase a (omega (arith, low)) answers, phase_late phase (a + 1) n (omega (arith, low)))

  phases_late : (a n : ℕ) → AllByRecursion (IsLate w) (flat_map (in_phase w) (range_with_len a n))
  phases_late a zero = tt
  phases_late a (suc n) =
      all_joined (IsLate w) (in_phase w a) (flat_map (in_phase w) (range_with_len (a + 1) n))
      (phase_late a 0 (placement_row w).starts (omega arith)) (phases_late (a + 1) n)

  allowed_late : AllByRecursion (IsLate w) (allowed w)
  unfolding allowed
  allowed_late = phases_late 0 (frame_period w.period)

pub last_completes_are_late : LastCompletesAreLate
last_completes_are_late y u is classic answers last =
    one_of (IsLate y.want) (allowed y.want) is.place y.placement (allowed_late y.want is.want classic answers) is.at u last
