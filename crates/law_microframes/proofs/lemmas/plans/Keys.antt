-- What is placed by a driver has keys of its own, as its endpoints have names; so the plan of each translator fits.
use Rattle.std.proofs.Common.{◌≡◌, ℕ, suc, ◌<◌, ◌≤◌, ◌==◌, Bool, true, false, ◌&&◌, cond, List, [], ◌∷◌, ◌++◌, slice_get, Option, Some, None, refl, ap, sym, subst, ◌∙◌, arith}
use Rattle.std.specs.Prelude.{filter}
use Rattle.std.specs.List.{AllByRecursion}
use Rattle.std.proofs.lemmas.Bool.{and_parts, eqb-true}
use Rattle.law_translator.proofs.Common.{same_dir}
use Rattle.law_driver.proofs.Common.{all_at}
use Rattle.usb_base.specs.declared.endpoints.EpDesc.{EpDesc}
use Rattle.usb_base.specs.declared.packets.EpKind.{EpKind}
use Rattle.usb_base.specs.declared.packets.EpKind.TheVariants as kinds
use Rattle.usb_base.specs.declared.packets.Speed.{Speed}
use Rattle.usb_base.specs.declared.packets.Speed.TheVariants as speeds
use Rattle.usb_base.specs.declared.packets.Way.{Way}
use Rattle.usb_base.specs.declared.packets.Way.TheVariants as ways
use Rattle.script_types.specs.declared.scripts.Script.{Script}
use Rattle.script_text.specs.Faults.{Spells}
use Rattle.script_fits.proofs.Texts.{spelled_fits}
use Rattle.hub_keys.specs.Keys.{is_same_key, is_same_direction, is_same_kind}
use Rattle.hub_keys.specs.declared.key.Key.{Key}
use Rattle.bandwidth.specs.declared.placements.Placed.{Placed}
use Rattle.bandwidth.specs.declared.placements.Placement.{Placement}
use Rattle.bandwidth.specs.declared.placements.Want.{Want}
use Rattle.bandwidth.specs.Placements.{IsWant, most_bytes}
use Rattle.drv_periodic_table.specs.Periodic.{dir_of, want_of}
use Rattle.drv_table.specs.declared.content.Endpoint.{Endpoint}
use Rattle.drv_table.specs.DriverContent.{DriverContent}
use Rattle.bus_world.specs.Budgets.{moment}
use Rattle.bus_world.proofs.Budgeted.{script_admits}
use Rattle.law_driver.specs.planned_endpoints.Planned.{placed_by, planned, IsPlanned, IsEndpointOf}
use Rattle.law_driver.specs.queued_drivers.Queued.{IsOfWay, FitsKind}
use Rattle.law_driver.proofs.lemmas.planned_endpoints.Laws.{what_counts_is_an_endpoint}
use Rattle.law_queues.specs.open_laws.Opens.{AreNamesApart}
use Rattle.law_world.specs.memory.Mixed.{IsMixedWorld}
use Rattle.law_world.proofs.lemmas.memory.Together.{texts_stay_mixed}
use Rattle.law_translator.specs.hub_plans.HubPlans.{AreKeysApart}
use Rattle.claims_world.specs.HubPlans.{is_below, key_by, key_at}
use Rattle.law_translator.specs.hub_plans.Laws.{IsPlacedRight}
use Rattle.law_translator.proofs.lemmas.hub_plans.PlansFit.{hub_plans_fit}
use Rattle.law_microframes.specs.plans.Laws.{PlacesAreRight, TextsPlanHubs}
use Rattle.law_microframes.proofs.lemmas.plans.Right.{scripts_place_right}
use Rattle.law_microframes.proofs.lemmas.plans.Apart.{scripts_name_apart}

-- ---- an endpoint in the plan is no control endpoint

no_bytes : (s : Speed) → most_bytes s kinds.Control ≡ 0
no_bytes speeds.High = refl
no_bytes speeds.Full = refl
no_bytes speeds.Low = refl

not_control : (w : Want) → IsWant w → w.kind ≡ kinds.Control → ⊥
not_control w want is =
    let none : most_bytes w.speed w.kind ≡ 0 = ap (most_bytes w.speed) is ∙ no_bytes w.speed in
    let some = want.some_bytes in
    let most = want.bytes in
    omega (arith, none, some, most)

same_ways : (v w : Way) (k l : EpKind) → IsOfWay v k → IsOfWay w l → (k ≡ kinds.Control → ⊥) → (l ≡ kinds.Control → ⊥)
    → dir_of v ≡ dir_of w → v ≡ w
same_ways ways.Ctl w k l one two none other e = absurd (none one)
same_ways ways.In ways.Ctl k l one two none other e = absurd (other two)
same_ways ways.Out ways.Ctl k l one two none other e = absurd (other two)
same_ways ways.In ways.In k l one two none other e = refl
same_ways ways.Out ways.Out k l one two none other e = refl
same_ways ways.In ways.Out k l one two none other e = absurd (cc)
same_ways ways.Out ways.In k l one two none other e = absurd (cc)

-- ---- two that are placed

record IsOwn (d : DriverContent) (y : Placed) : Type 0 where
  endpoint : Endpoint
  here : slice_get d.endpoints y.want.id ≡ Some endpoint
  want : y.want ≡ want_of y.want.id endpoint.desc
  kind : FitsKind endpoint.desc
  right : IsWant y.want

record IsOneKey (a b : Key) : Type 0 where
  addr : a.addr ≡ b.addr
  ep : a.ep ≡ b.ep
  dir : a.dir ≡ b.dir

one_key : (a b : Key) → is_same_key a b ≡ true → IsOneKey a b
one_key a b e =
    let p = and_parts (a.addr == b.addr && a.ep == b.ep && is_same_direction a.dir b.dir) (is_same_kind a.kind b.kind) e in
    let q = and_parts (a.addr == b.addr && a.ep == b.ep) (is_same_direction a.dir b.dir) p.0 in
    let r = and_parts (a.addr == b.addr) (a.ep == b.ep) q.0 in
    record { addr = eqb-true _ _ r.0; ep = eqb-true _ _ r.1; dir = same_dir a.dir b.dir q.1 }

its_kind : (d : DriverContent) (y : Placed) (own : IsOwn d y) → own.endpoint.desc.kind ≡ kinds.Control → ⊥
its_kind d y own is = not_control y.want own.right (ap (λ (w : Want). w.kind) own.want ∙ is)

its_dir : (d : DriverContent) (y : Placed) (own : IsOwn d y) → y.want.dir ≡ dir_of own.endpoint.desc.name.way
its_dir d y own = ap (λ (w : Want). w.dir) own.want

one_number : (d : DriverContent) (y z : Placed) → AreNamesApart d → IsOwn d y → IsOwn d z
    → is_same_key (key_at d y) (key_at d z) ≡ true → y.want.id ≡ z.want.id
one_number d y z apart a b same =
    let one : key_at d y ≡ key_by (Some a.endpoint) y = ap (λ (o : Option Endpoint). key_by o y) a.here in
    let other : key_at d z ≡ key_by (Some b.endpoint) z = ap (λ (o : Option Endpoint). key_by o z) b.here in
    let at : is_same_key (key_by (Some a.endpoint) y) (key_by (Some b.endpoint) z) ≡ true =
    ap (λ (k : Key). is_same_key k (key_by (Some b.endpoint) z)) (sym one) ∙ ap (is_same_key (key_at d y)) (sym other) ∙ same in
    let k = one_key (key_by (Some a.endpoint) y) (key_by (Some b.endpoint) z) at in
    apart y.want.id z.want.id a.endpoint b.endpoint a.here b.here k.addr k.ep
    (same_ways a.endpoint.desc.name.way b.endpoint.desc.name.way a.endpoint.desc.kind b.endpoint.desc.kind a.kind b.kind
    (its_kind d y a) (its_kind d z b) (sym (its_dir d y a) ∙ k.dir ∙ its_dir d z b))

by_key : (b : Bool) (n m : ℕ) → (b ≡ true → n ≡ m) → n < m → b ≡ false
by_key true n m same less = absurd (let e = same refl in omega (arith, e, less))
by_key false n m same less = refl

-- ---- all of the plan

abbrev Increase : List Placed → Type 0
Increase [] = Unit {0}
Increase (y ∷ ys) = AllByRecursion (λ z. y.want.id < z.want.id) ys × Increase ys

from_on : (n m : ℕ) (ys : List Placed) → n < m → AllByRecursion (λ z. m ≤ z.want.id) ys → AllByRecursion (λ z. n < z.want.id) ys
from_on n m [] less all = tt
from_on n m (y ∷ ys) less all = let at = all.0 in (omega (arith, less, at), from_on n m ys less all.1)

lower : (n : ℕ) (ys : List Placed) → AllByRecursion (λ z. suc n ≤ z.want.id) ys → AllByRecursion (λ z. n ≤ z.want.id) ys
lower n [] all = tt
lower n (y ∷ ys) all = let at = all.0 in (omega (arith, at), lower n ys all.1)

record Grows (n : ℕ) (ys : List Placed) : Type 0 where
  above : AllByRecursion (λ z. n ≤ z.want.id) ys
  increase : Increase ys

one_grows : (n : ℕ) (x : EpDesc) (gone : Bool) (o : Option Placement) (ys : List Placed) → Grows (suc n) ys
    → Grows n (placed_by n x gone o ++ ys)
one_grows n x true o ys g = record { above = lower n ys g.above; increase = g.increase }
one_grows n x false None ys g = record { above = lower n ys g.above; increase = g.increase }
one_grows n x false (Some p) ys g = record {
  above = (omega arith, lower n ys g.above);
  increase = (from_on n (suc n) ys (omega arith) g.above, g.increase);
}

planned_grows : (n : ℕ) (xs : List Endpoint) → Grows n (planned n xs)
planned_grows n [] = record { above = tt; increase = tt }
planned_grows n (x ∷ xs) = one_grows n x.desc x.gone x.placement (planned (suc n) xs) (planned_grows (suc n) xs)

one_apart : (d : DriverContent) (y : Placed) (ys : List Placed) → AreNamesApart d → IsOwn d y → AllByRecursion (IsOwn d) ys
    → AllByRecursion (λ z. y.want.id < z.want.id) ys → AllByRecursion (λ z. is_same_key (key_at d y) (key_at d z) ≡ false) ys
one_apart d y [] apart own all less = tt
one_apart d y (z ∷ ys) apart own all less = (
  by_key (is_same_key (key_at d y) (key_at d z)) y.want.id z.want.id (one_number d y z apart own all.0) less.0,
  one_apart d y ys apart own all.1 less.1,
)

keys_apart : (d : DriverContent) (ys : List Placed) → AreNamesApart d → AllByRecursion (IsOwn d) ys → Increase ys
    → AreKeysApart (key_at d) ys
keys_apart d [] apart all up = tt
keys_apart d (y ∷ ys) apart all up = (one_apart d y ys apart all.0 all.1 up.0, keys_apart d ys apart all.1 up.1)

all_of : (P : Placed → Type 0) (ys : List Placed) → ((i : ℕ) (y : Placed) → slice_get ys i ≡ Some y → P y) → AllByRecursion P ys
all_of P [] each = tt
all_of P (y ∷ ys) each = (each 0 y refl, all_of P ys (λ i z at. each (suc i) z at))

kept_others : (key : Placed → Key) (y : Placed) (test : Placed → Bool) (ys : List Placed)
    → AllByRecursion (λ z. is_same_key (key y) (key z) ≡ false) ys
    → AllByRecursion (λ z. is_same_key (key y) (key z) ≡ false) (filter test ys)
kept_others key y test [] all = tt
kept_others key y test (z ∷ ys) all = by (test z) (kept_others key y test ys all.1)
  where
    by : (b : Bool) → AllByRecursion (λ v. is_same_key (key y) (key v) ≡ false) (filter test ys)
        → AllByRecursion (λ v. is_same_key (key y) (key v) ≡ false) (cond b (z ∷ filter test ys) (filter test ys))
    by true rest = (all.0, rest)
    by false rest = rest

pub kept_apart : (key : Placed → Key) (test : Placed → Bool) (ys : List Placed) → AreKeysApart key ys → AreKeysApart key (filter test ys)
kept_apart key test [] apart = tt
kept_apart key test (y ∷ ys) apart = by (test y) (kept_apart key test ys apart.1)
  where
    by : (b : Bool) → AreKeysApart key (filter test ys) → AreKeysApart key (cond b (y ∷ filter test ys) (filter test ys))
    by true rest = (kept_others key y test ys apart.0, rest)
    by false rest = rest

its_own : (d : DriverContent) (i : ℕ) (y : Placed) → IsPlanned d
    → ((e : ℕ) (x : Endpoint) → slice_get d.endpoints e ≡ Some x → FitsKind x.desc)
    → PlacesAreRight d → slice_get d.periodic.plan.placed i ≡ Some y → IsOwn d y
its_own d i y is kinds_fit right at =
    let own : IsEndpointOf d y = what_counts_is_an_endpoint d i y is at in
    record {
      endpoint = own.endpoint;
      here = own.here;
      want = own.want;
      kind = kinds_fit y.want.id own.endpoint own.here;
      right = (all_at IsPlacedRight d.periodic.plan.placed i y right at).want;
    }

-- ---- a moment

pub texts_plan_apart : (text : List ℕ) (s : Script) → Spells text s → (k : ℕ)
    → AreKeysApart (key_at (moment s k).world.driver) (moment s k).world.driver.periodic.plan.placed
texts_plan_apart text s spelled k =
    let fit = spelled_fits text s spelled in
    let d : DriverContent = (moment s k).world.driver in
    let mixed : IsMixedWorld (moment s k).world = texts_stay_mixed text s spelled k in
    let is : IsPlanned d = mixed.mixed.now.planned in
    let right : PlacesAreRight d = scripts_place_right s fit k in
    let own : AllByRecursion (IsOwn d) d.periodic.plan.placed =
    all_of (IsOwn d) d.periodic.plan.placed (λ i y at. its_own d i y is mixed.mixed.turns.kinds_fit right at) in
    let ys : List Placed = d.periodic.plan.placed in
    let up : Increase ys = subst Increase (sym is) (planned_grows 0 d.endpoints).increase in
    keys_apart d ys (scripts_name_apart s fit k) own up

pub texts_plan_hubs : TextsPlanHubs
texts_plan_hubs text s spelled k hub port f address number frame =
    let fit = spelled_fits text s spelled in
    let d : DriverContent = (moment s k).world.driver in
    hub_plans_fit (key_at d) d.periodic.plan.placed hub port f address number frame (script_admits s fit k).fits
    (scripts_place_right s fit k)
    (kept_apart (key_at d) (is_below hub port f) d.periodic.plan.placed (texts_plan_apart text s spelled k))
