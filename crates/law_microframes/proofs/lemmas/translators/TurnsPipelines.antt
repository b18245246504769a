-- Hubs beside those that they become: what holds of each pipeline and of what it becomes holds of the one that a siTD means; and so a
-- microframe that begins leaves what is told of its entries (USB 2.0, 11.18.4 and 11.18.6).
use Rattle.std.proofs.Common.{◌≡◌, ℕ, zero, suc, ◌+◌, Bool, true, false, List, [], ◌∷◌, length, slice_get, Option, Some, None, refl, sym, ap, subst, ◌∙◌}
use Rattle.std.specs.Prelude.{◌==◌, ◌%◌, not, position, nat_lt, if◌then◌else◌}
use Rattle.std.specs.List.{position_or_len}
use Rattle.hub_keys.specs.declared.key.Key.{Key}
use Rattle.tt_pipeline.specs.declared.entry.Entry.{Entry}
use Rattle.tt_pipeline.specs.Working.{budget, kept, entries_after}
use Rattle.multi_tt.specs.Translators.{Translator, place_of}
use Rattle.hub_class.specs.HubContent.{HubContent}
use Rattle.hub_class.specs.Microframe.{wire_of_translator, translators_worked}
use Rattle.bus_wire.specs.Below.{Floor, Below, below_at, below_reply, below_after, floor_left, hubs_worked}
use Rattle.bus_wire.specs.Bus.{Bus, Fixed, floor_of, begin_after}
use Rattle.claims_world.specs.Gaps.{pipeline_in}
use Rattle.law_microframes.specs.translators.Parts.{EachOf, Lacks, IsEven}
use Rattle.law_microframes.specs.translators.Turns.{entries_at, entries_of_hub, entries_by, pipeline_for}
use Rattle.law_microframes.proofs.lemmas.translators.Parts.{work_leaves_lacking, work_makes_even}
use Rattle.law_microframes.proofs.lemmas.translators.Watching.{replies_by, worked_as}

-- ---- beside one another

module _ (R : List Entry → List Entry → Type 0) where
  abbrev pub BesideIn : List Translator → List Translator → Type 0
  BesideIn [] [] = Unit {0}
  BesideIn [] (y ∷ ys) = ⊥
  BesideIn (x ∷ xs) [] = ⊥
  BesideIn (x ∷ xs) (y ∷ ys) = R x.pipeline y.pipeline × BesideIn xs ys

  abbrev pub Beside : List HubContent → List HubContent → Type 0
  Beside [] [] = Unit {0}
  Beside [] (y ∷ ys) = ⊥
  Beside (x ∷ xs) [] = ⊥
  Beside (x ∷ xs) (y ∷ ys) =
      (x.address ≡ y.address) × ((x.translators.multi ≡ y.translators.multi) × (BesideIn x.translators.all y.translators.all × Beside xs ys))

  module _ (none : R [] []) where
    in_translators : (xs ys : List Translator) → BesideIn xs ys → (j : ℕ) → R (pipeline_in xs j) (pipeline_in ys j)
    in_translators [] [] b j = none
    in_translators [] (y ∷ ys) b j = absurd b
    in_translators (x ∷ xs) [] b j = absurd b
    in_translators (x ∷ xs) (y ∷ ys) b zero = b.0
    in_translators (x ∷ xs) (y ∷ ys) b (suc j) = in_translators xs ys b.1 j

    in_hub : (x y : HubContent) → BesideIn x.translators.all y.translators.all → (o : Option ℕ) → R (entries_at o x) (entries_at o y)
    in_hub x y b None = none
    in_hub x y b (Some j) = in_translators x.translators.all y.translators.all b j

    by_place : (hs gs : List HubContent) → Beside hs gs → (i port : ℕ)
        → R (entries_of_hub (slice_get hs i) port) (entries_of_hub (slice_get gs i) port)
    by_place [] [] b i port = none
    by_place [] (y ∷ ys) b i port = absurd b
    by_place (x ∷ xs) [] b i port = absurd b
    by_place (x ∷ xs) (y ∷ ys) b zero port =
        subst (λ (m : Bool). R (entries_at (place_of x.translators.multi port) x) (entries_at (place_of m port) y)) b.1.0
        (in_hub x y b.1.1.0 (place_of x.translators.multi port))
    by_place (x ∷ xs) (y ∷ ys) b (suc i) port = by_place xs ys b.1.1.1 i port

    by_found : (hs gs : List HubContent) → Beside hs gs → (o : Option ℕ) (port : ℕ) → R (entries_by hs o port) (entries_by gs o port)
    by_found hs gs b None port = none
    by_found hs gs b (Some i) port = by_place hs gs b i port

  -- the same hub has the address
  same_length : (hs gs : List HubContent) → Beside hs gs → length hs ≡ length gs
  same_length [] [] b = refl
  same_length [] (y ∷ ys) b = absurd b
  same_length (x ∷ xs) [] b = absurd b
  same_length (x ∷ xs) (y ∷ ys) b = ap suc (same_length xs ys b.1.1.1)

  same_first : (hub : ℕ) (hs gs : List HubContent) → Beside hs gs
      → position_or_len (λ x. x.address == hub) hs ≡ position_or_len (λ x. x.address == hub) gs
  same_first hub [] [] b = refl
  same_first hub [] (y ∷ ys) b = absurd b
  same_first hub (x ∷ xs) [] b = absurd b
  same_first hub (x ∷ xs) (y ∷ ys) b =
      ap (λ (n : ℕ). if not (n == hub) then 1 + position_or_len (λ x. x.address == hub) xs else 0) b.0
      ∙ ap (λ (n : ℕ). if not (y.address == hub) then 1 + n else 0) (same_first hub xs ys b.1.1.1)

  same_position : (hub : ℕ) (hs gs : List HubContent) → Beside hs gs
      → position (λ x. x.address == hub) hs ≡ position (λ x. x.address == hub) gs
  same_position hub hs gs b =
      ap (λ (n : ℕ). if nat_lt n (length hs) then Some n else None) (same_first hub hs gs b)
      ∙ ap (λ (n : ℕ). if nat_lt (position_or_len (λ x. x.address == hub) gs) n then Some (position_or_len (λ x. x.address == hub) gs)
      else None) (same_length hs gs b)

  pub pipelines_beside : R [] [] → (hs gs : List HubContent) → Beside hs gs → (hub port : ℕ)
      → R (pipeline_for hs hub port) (pipeline_for gs hub port)
  pipelines_beside none hs gs b hub port =
      subst (λ (o : Option ℕ). R (pipeline_for hs hub port) (entries_by gs o port)) (same_position hub hs gs b)
      (by_found none hs gs b (position (λ x. x.address == hub) hs) port)

-- ---- a microframe begins

module _ (R : List Entry → List Entry → Type 0) (frindex : ℕ)
    (works : (es : List Entry) (w : Below) → R es (kept frindex (entries_after below_reply below_after budget es w))) where
  translators_beside : (ts : List Translator) (w : Below) → BesideIn R ts (translators_worked below_reply below_after frindex ts w)
  translators_beside [] w = tt
  translators_beside (t ∷ ts) w = (works t.pipeline w, translators_beside ts (wire_of_translator below_reply below_after t w))

  hubs_beside : (fixed : Fixed) (hs : List HubContent) (floor : Floor) → Beside R hs (hubs_worked fixed frindex hs floor)
  hubs_beside fixed [] floor = tt
  hubs_beside fixed (h ∷ hs) floor = (
    refl,
    (refl, (translators_beside h.translators.all (below_at fixed h floor), hubs_beside fixed hs (floor_left fixed h floor))),
  )

  pub begun_beside : R [] [] → (fixed : Fixed) (b : Bus) (hub port : ℕ)
      → R (pipeline_for b.hubs hub port) (pipeline_for (begin_after fixed frindex b).hubs hub port)
  begun_beside none fixed b hub port =
      pipelines_beside R none b.hubs (hubs_worked fixed frindex b.hubs (floor_of b)) (hubs_beside fixed b.hubs (floor_of b)) hub port

-- with a new frame nothing is left
pub begun_empty : (fixed : Fixed) (frindex : ℕ) (b : Bus) (hub port : ℕ) → (frindex % 8 == 0) ≡ true
    → pipeline_for (begin_after fixed frindex b).hubs hub port ≡ []
begun_empty fixed frindex b hub port on =
    begun_beside (λ es fs. fs ≡ []) frindex (λ es w. rw on refl) refl fixed b hub port

module _ (fixed : Fixed) (frindex : ℕ) (b : Bus) (hub port : ℕ) (k : Key) where
  pub begun_lacks : EachOf Lacks k (pipeline_for b.hubs hub port) → EachOf Lacks k (pipeline_for (begin_after fixed frindex b).hubs hub port)
  begun_lacks =
      begun_beside (λ es fs. EachOf Lacks k es → EachOf Lacks k fs) frindex
      (λ es w all. either (frindex % 8 == 0) (entries_after below_reply below_after budget es w)
      (subst (EachOf Lacks k) (sym (worked_as below_reply below_after budget es w))
      (work_leaves_lacking k budget (replies_by below_reply below_after budget es w) es all)))
      (λ all. all) fixed b hub port
    where
      either : (c : Bool) (es : List Entry) → EachOf Lacks k es → EachOf Lacks k (if c then [] else es)
      either true es all = tt
      either false es all = all

  pub begun_even : EachOf IsEven k (pipeline_for (begin_after fixed frindex b).hubs hub port)
  begun_even =
      begun_beside (λ es fs. EachOf IsEven k fs) frindex
      (λ es w. either (frindex % 8 == 0) (entries_after below_reply below_after budget es w)
      (subst (EachOf IsEven k) (sym (worked_as below_reply below_after budget es w))
      (work_makes_even k budget (replies_by below_reply below_after budget es w) es)))
      tt fixed b hub port
    where
      either : (c : Bool) (es : List Entry) → EachOf IsEven k es → EachOf IsEven k (if c then [] else es)
      either true es all = tt
      either false es all = all
