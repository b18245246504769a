-- The complete-splits of an interrupt endpoint below a hub come after its start-split in the frame (EHCI 1.0, 4.12.2.1; USB 2.0, 11.18).
use Rattle.std.proofs.Common.{◌≡◌, ℕ, ◌+◌, ◌/◌, ◌<◌, ◌≤◌, Bool, true, false, List, [], ◌∷◌, map, slice_get, Some, sym, subst, ◌∙◌, arith}
use Rattle.std.proofs.Common.{ap}
use Rattle.std.specs.Prelude.{◌&&◌, nat_le, nat_lt, if◌then◌else◌}
use Rattle.std.specs.List.{AllByRecursion, flat_map}
use Rattle.std.proofs.lemmas.Bool.Decides.{nat_tests}
use Rattle.law_common.proofs.Lists.{all_both, nth_all}
use Rattle.usb_base.specs.declared.packets.EpKind.{EpKind}
use Rattle.usb_base.specs.declared.packets.EpKind.TheVariants as kinds
use Rattle.script_types.specs.declared.scripts.Script.{Script}
use Rattle.script_text.specs.Faults.{Spells}
use Rattle.bandwidth.specs.declared.placements.Want.{Want}
use Rattle.bandwidth.specs.declared.placements.Placed.{Placed}
use Rattle.bandwidth.specs.declared.placements.Placement.{Placement}
use Rattle.bandwidth.specs.Placements.{has, run, below, frame_period, is_classic, PlacementRow, interrupt_row, classic_row, high_row}
use Rattle.bandwidth.specs.Placements.{placement_row, placement_at, in_phase, allowed}
use Rattle.bandwidth.proofs.Spans.{has_mask}
use Rattle.drv_periodic_table.specs.Periodic.{want_of}
use Rattle.bus_world.specs.Budgets.{moment}
use Rattle.bus_world.specs.World.{World}
use Rattle.claims_world.specs.Coming.{IsInItsFrames}
use Rattle.claims_world.specs.FrameHeads.{IsAllowed, AreAllowed}
use Rattle.law_driver.proofs.lemmas.planned_endpoints.Laws.{endpoints_count_until_given_back}
use Rattle.law_world.specs.memory.Mixed.{IsMixedWorld}
use Rattle.law_microframes.proofs.lemmas.visits.BelongQueues.{alive}

-- ---- runs of microframes

has_run : (s n m : ℕ) → m < 8 → has (run s n) m ≡ (nat_le s m && nat_lt m (s + n))
has_run s n m h = has_mask (λ k. nat_le s k && nat_lt k (s + n)) m h

in_run : (s n m : ℕ) → (nat_le s m && nat_lt m (s + n)) ≡ true → s ≤ m
in_run s n m is = grind (arith, nat_tests)

under_run : (s n m : ℕ) → m < s → (nat_le s m && nat_lt m (s + n)) ≡ false
under_run s n m low = grind (arith, nat_tests)

one_in : (s m : ℕ) → (nat_le s m && nat_lt m (s + 1)) ≡ true → m ≤ s
one_in s m is = grind (arith, nat_tests)

-- ---- the placements of an interrupt endpoint

-- no microframe of the C-mask comes before the second after that of the S-mask, and one alone stands in the S-mask
pub record StartsFirst (p : Placement) : Type 0 where
  pub none : (u v : ℕ) → u < 8 → has p.smask u ≡ true → v ≤ u → has p.cmask v ≡ false
  pub gap : (u v : ℕ) → u < 8 → v < 8 → has p.smask u ≡ true → has p.cmask v ≡ true → u + 2 ≤ v
  pub once : (u v : ℕ) → u < 8 → v < 8 → has p.smask u ≡ true → has p.smask v ≡ true → u ≡ v

abbrev MasksIn : PlacementRow → ℕ → ℕ → ℕ → Placement
MasksIn r period phase s = record { period = period; phase = phase; smask = r.smask s; cmask = r.cmask s }

interrupt_first : (period phase s : ℕ) → StartsFirst (MasksIn interrupt_row period phase s)
interrupt_first period phase s = record {
  none = λ u v small on less.
      let high = one_in s u (sym (has_run s 1 u small) ∙ on) in
      let below : v < 8 = omega (arith, small, less) in
      has_run (s + 2) 3 v below ∙ under_run (s + 2) 3 v (omega (arith, less, high));
  gap = λ u v small low on other.
      let high = one_in s u (sym (has_run s 1 u small) ∙ on) in
      let from = in_run (s + 2) 3 v (sym (has_run (s + 2) 3 v low) ∙ other) in
      omega (arith, high, from);
  once = λ u v small low on other.
      let a = one_in s u (sym (has_run s 1 u small) ∙ on) in
      let b = one_in s v (sym (has_run s 1 v low) ∙ other) in
      let c = in_run s 1 u (sym (has_run s 1 u small) ∙ on) in
      let d = in_run s 1 v (sym (has_run s 1 v low) ∙ other) in
      omega (arith, a, b, c, d);
}

row_first : (w : Want) (phase s : ℕ) → is_classic w.speed ≡ true → w.kind ≡ kinds.Interrupt → StartsFirst (placement_at w phase s)
row_first w phase s classic kind =
    subst (λ (b : Bool). StartsFirst (MasksIn (if b then classic_row w.kind w.dir w.max else high_row w.period) w.period phase s))
    (sym classic)
    (subst (λ (k : EpKind). StartsFirst (MasksIn (classic_row k w.dir w.max) w.period phase s)) (sym kind)
    (interrupt_first w.period phase s))

module _ (w : Want) (classic : is_classic w.speed ≡ true) (kind : w.kind ≡ kinds.Interrupt) where
  phase_first : (phase : ℕ) (starts : List ℕ) → AllByRecursion StartsFirst (map (placement_at w phase) starts)
  phase_first phase [] = tt
  phase_first phase (s ∷ starts) = (row_first w phase s classic kind, phase_first phase starts)

  phases_first : (phases : List ℕ) → AllByRecursion StartsFirst (flat_map (in_phase w) phases)
  phases_first [] = tt
  phases_first (phase ∷ phases) =
      all_both StartsFirst (in_phase w phase) (flat_map (in_phase w) phases)
      (phase_first phase (below (placement_row w).starts)) (phases_first phases)

  all_first : AllByRecursion StartsFirst (allowed w)
  unfolding allowed
  all_first = phases_first (below (frame_period w.period))

-- ---- that of an endpoint in its frames

pub starts_first : (w : World) → IsMixedWorld w → AreAllowed w.driver → (e q : ℕ) (p : Placement) (i : IsInItsFrames w.driver e q p)
    → is_classic i.endpoint.desc.speed ≡ true → StartsFirst p
starts_first w k all e q p i classic =
    let kept : i.endpoint.gone ≡ false = alive w.driver k.mixed.now.framed.place.sound.owners e i.endpoint i.here i.chained in
    let at = endpoints_count_until_given_back w.driver e i.endpoint p k.mixed.now.planned i.here kept i.placed in
    let x : Placed = record { want = want_of e i.endpoint.desc; placement = p } in
    let a : IsAllowed x = nth_all IsAllowed w.driver.periodic.plan.placed at.place x all at.there in
    nth_all StartsFirst (allowed (want_of e i.endpoint.desc)) a.place p
    (all_first (want_of e i.endpoint.desc) classic i.kind) a.at
