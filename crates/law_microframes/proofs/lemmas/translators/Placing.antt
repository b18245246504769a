-- What a translator's plan has of an endpoint that is placed below it; the masks of an interrupt endpoint and of an isochronous IN.
use Rattle.std.proofs.Common.{◌≡◌, ℕ, zero, suc, ◌+◌, ◌<◌, Bool, true, false, cond, List, [], ◌∷◌, ◌++◌, map, filter, slice_get, Some, inl, inr, sym, ap, subst, ◌∙◌, arith}
use Rattle.std.specs.Prelude.{◌&&◌, nat_le, nat_lt, if◌then◌else◌}
use Rattle.std.specs.List.{AllByRecursion, flat_map}
use Rattle.std.proofs.lemmas.Bool.{false≢true}
use Rattle.std.proofs.lemmas.Bool.Decides.{nat_tests}
use Rattle.std.proofs.lemmas.Option.{same_Some}
use Rattle.usb_base.specs.declared.packets.Dir.{Dir}
use Rattle.usb_base.specs.declared.packets.Dir.TheVariants as dirs
use Rattle.usb_base.specs.declared.packets.EpKind.{EpKind}
use Rattle.usb_base.specs.declared.packets.EpKind.TheVariants as kinds
use Rattle.hub_keys.specs.declared.key.Key.{Key}
use Rattle.bandwidth.specs.declared.placements.Want.{Want}
use Rattle.bandwidth.specs.declared.placements.Placement.{Placement}
use Rattle.bandwidth.specs.declared.placements.Placed.{Placed}
use Rattle.bandwidth.specs.Placements.{has, first_in, run, below, frame_period, is_classic, classic_row, high_row, placement_row, placement_at, in_phase, allowed}
use Rattle.bandwidth.proofs.Microframes.{first_is}
use Rattle.bandwidth.proofs.Spans.{has_mask}
use Rattle.claims_world.specs.Plans.{Plan}
use Rattle.law_translator.specs.Premises.{In, IsLaidAs}
use Rattle.law_translator.specs.hub_plans.HubPlans.{AreKeysApart}
use Rattle.claims_world.specs.HubPlans.{is_below, placed_below, time_in, hub_plan}
use Rattle.law_translator.specs.hub_plans.Laws.{IsKeptIn}
use Rattle.law_translator.proofs.lemmas.hub_plans.Places.{places_are_kept}

-- ---- lists

module _ (P : Placed → Type 0) where
  pub one_of : (ys : List Placed) (i : ℕ) (y : Placed) → AllByRecursion P ys → slice_get ys i ≡ Some y → P y
  one_of [] i y all at = absurd cc
  one_of (z ∷ ys) zero y all at = subst P (same_Some z y at) all.0
  one_of (z ∷ ys) (suc i) y all at = one_of ys i y all.1 at

pub record IsPlaceIn (ys : List Placed) (y : Placed) : Type 0 where
  pub place : ℕ
  pub there : slice_get ys place ≡ Some y

filtered : (test : Placed → Bool) (ys : List Placed) (y : Placed) (i : ℕ) → slice_get ys i ≡ Some y → test y ≡ true
    → IsPlaceIn (filter test ys) y
filtered test [] y i at on = absurd cc
filtered test (z ∷ ys) y zero at on = by (test z) (ap test (same_Some z y at) ∙ on)
  where
    by : (b : Bool) → b ≡ true → IsPlaceIn (cond b (z ∷ filter test ys) (filter test ys)) y
    by true e = record { place = 0; there = at }
    by false e = absurd (false≢true e)
filtered test (z ∷ ys) y (suc i) at on = by (test z) (filtered test ys y i at on)
  where
    by : (b : Bool) → IsPlaceIn (filter test ys) y → IsPlaceIn (cond b (z ∷ filter test ys) (filter test ys)) y
    by true k = record { place = suc k.place; there = k.there }
    by false k = k

in_mapped : (key : Placed → Key) (ys : List Placed) (i : ℕ) (y : Placed) → slice_get ys i ≡ Some y → In (key y) (map key ys)
in_mapped key [] i y at = absurd cc
in_mapped key (z ∷ ys) zero y at = inl (ap key (sym (same_Some z y at)))
in_mapped key (z ∷ ys) (suc i) y at = inr (in_mapped key ys i y at)

-- ---- a plan has what is placed, where no two have one key

pub record IsPlannedAs (p : Plan) (k : Key) (y : Placed) : Type 0 where
  pub there : In k p.keys
  pub first : p.first k ≡ first_in y.placement.smask
  pub times : p.times k ≡ time_in y.want

pub planned_as : (key : Placed → Key) (hub port f : ℕ) (placed : List Placed) (i : ℕ) (y : Placed)
    → AreKeysApart key (placed_below hub port f placed) → slice_get placed i ≡ Some y → is_below hub port f y ≡ true
    → IsPlannedAs (hub_plan key hub port f placed) (key y) y
planned_as key hub port f placed i y apart at on =
    let ys : List Placed = placed_below hub port f placed in
    let found : IsPlaceIn ys y = filtered (is_below hub port f) placed y i at on in
    let kept : IsKeptIn key ys y = one_of (IsKeptIn key ys) ys found.place y (places_are_kept key ys apart) found.there in
    record { there = in_mapped key ys found.place y found.there; first = kept.0; times = kept.1 }

pub laid_as : (p q : Plan) (k : Key) (y : Placed) → IsPlannedAs p k y → IsPlannedAs q k y → IsLaidAs p q k
laid_as p q k y a b = record { there = b.there; first = b.first ∙ sym a.first; times = b.times ∙ sym a.times }

-- ---- masks of one microframe

HasOneBit : Placement → Type 0
HasOneBit p = (u : ℕ) → u < 8 → has p.smask u ≡ true → u ≡ first_in p.smask

one_run : (s u : ℕ) → u < 8 → has (run s 1) u ≡ true → u ≡ first_in (run s 1)
one_run s u small on =
    first_is (run s 1) u small
    (λ k less. let low : k < 8 = omega (arith, less, small) in has_mask (λ m. nat_le s m && nat_lt m (s + 1)) k low ∙ before s u k at less)
    on
  where
    at : (nat_le s u && nat_lt u (s + 1)) ≡ true
    at = sym (has_mask (λ m. nat_le s m && nat_lt m (s + 1)) u small) ∙ on

    before : (s u k : ℕ) → (nat_le s u && nat_lt u (s + 1)) ≡ true → k < u → (nat_le s k && nat_lt k (s + 1)) ≡ false
    before s u k is less = grind (arith, nat_tests)

abbrev pub IsOneBit : EpKind → Dir → Type 0
IsOneBit kinds.Interrupt d = Unit {0}
IsOneBit kinds.Iso dirs.In = Unit {0}
IsOneBit _ _ = ⊥

module _ (w : Want) (classic : is_classic w.speed ≡ true) (one : IsOneBit w.kind w.dir) where
  classic_one : (kind : EpKind) (dir : Dir) (n period phase s : ℕ) → IsOneBit kind dir
      → HasOneBit (record {
        period = period;
        phase = phase;
        smask = (classic_row kind dir n).smask s;
        cmask =
            (classic_row kind dir n).cmask s;
      })
  unfolding HasOneBit
  classic_one kinds.Interrupt dir n period phase s is = λ u small on. one_run s u small on
  classic_one kinds.Iso dirs.In n period phase s is = λ u small on. one_run s u small on
  classic_one kinds.Iso dirs.Out n period phase s is = absurd is
  classic_one kinds.Bulk dir n period phase s is = absurd is
  classic_one kinds.Control dir n period phase s is = absurd is

  row_one : (phase s : ℕ) → HasOneBit (placement_at w phase s)
  row_one phase s =
      subst (λ (b : Bool). HasOneBit (record {
        period = w.period;
        phase = phase;
        smask = (if b then classic_row w.kind w.dir w.max else high_row w.period).smask s;
        cmask = (if b then classic_row w.kind w.dir w.max else high_row w.period).cmask s;
      })) (sym classic) (classic_one w.kind w.dir w.max w.period phase s one)

  phase_one : (phase : ℕ) (starts : List ℕ) → AllByRecursion HasOneBit (map (placement_at w phase) starts)
  phase_one phase [] = tt
  phase_one phase (s ∷ starts) = (row_one phase s, phase_one phase starts)

  joined : (xs ys : List Placement) → AllByRecursion HasOneBit xs → AllByRecursion HasOneBit ys → AllByRecursion HasOneBit (xs ++ ys)
  joined [] ys all more = more
  joined (x ∷ xs) ys all more = (all.0, joined xs ys all.1 more)

  phases_one : (phases : List ℕ) → AllByRecursion HasOneBit (flat_map (in_phase w) phases)
  phases_one [] = tt
  phases_one (phase ∷ phases) =
      joined (in_phase w phase) (flat_map (in_phase w) phases) (phase_one phase (below (placement_row w).starts)) (phases_one phases)

  all_one : AllByRecursion HasOneBit (allowed w)
  unfolding allowed
  all_one = phases_one (below (frame_period w.period))

  at_one : (ps : List Placement) (i : ℕ) (p : Placement) → AllByRecursion HasOneBit ps → slice_get ps i ≡ Some p → HasOneBit p
  at_one [] i p all at = absurd cc
  at_one (z ∷ ps) zero p all at = subst HasOneBit (same_Some z p at) all.0
  at_one (z ∷ ps) (suc i) p all at = at_one ps i p all.1 at

  -- a start-split of it is in the first microframe of its S-mask
  pub only_first : (i : ℕ) (p : Placement) → slice_get (allowed w) i ≡ Some p → (u : ℕ) → u < 8 → has p.smask u ≡ true
      → u ≡ first_in p.smask
  unfolding HasOneBit
  only_first i p at u small on = at_one (allowed w) i p all_one at u small on
