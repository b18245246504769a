-- What stands of control queues stands of a content that tells the same endpoints, where each queue stays.
use Rattle.std.proofs.Common.{◌≡◌, ◌≢◌, ℕ, ◌*◌, Bool, true, ◌||◌, List, set, slice_get, Some, ap, refl, sym, subst, ◌∙◌, ⊎_elim}
use Rattle.law_common.proofs.Lists.{all_more}
use Rattle.drv_table.specs.declared.content.Command.TheVariants as unfinished
use Rattle.drv_table.specs.declared.content.Endpoint.{Endpoint}
use Rattle.drv_table.specs.DriverContent.{DriverContent}
use Rattle.law_driver.specs.endpoint_lives.Lives.{may_meet, is_one_of}
use Rattle.law_structures.specs.lent_structures.Structures.{StructureSets}
use Rattle.law_ring.specs.Front.{LinksRise}
use Rattle.law_ring.specs.Halted.{HaltStops}
use Rattle.law_ring.specs.Order.{IsSorted}
use Rattle.law_driver_ring.specs.fed_queues.Places.{IsThere, IsMet}
use Rattle.law_queues.proofs.lemmas.fed_lends.Asked.{set_which}
use Rattle.law_queues.specs.mended_heads.Owed.{StalledQueue, IsOwed}
use Rattle.law_queues.specs.mended_heads.Waiting.{Waits, MendsStand}
use Rattle.law_queues.proofs.lemmas.mended_heads.Content.{all_both, any_one, OwesAlike, owed_on}
use Rattle.law_world.specs.steps.control_queues.Controls.{ControlsStand}

-- ---- endpoints

-- endpoint i of f, which is x, was there in d
pub record WasThere (d f : DriverContent) (i : ℕ) (x : Endpoint) : Type 0 where
  pub endpoint : Endpoint
  pub here : slice_get d.endpoints i ≡ Some endpoint
  pub there : IsThere d endpoint
  pub queue : x.queue ≡ endpoint.queue
  pub met : IsMet f i x → IsMet d i endpoint

abbrev pub ThereAlike : DriverContent → DriverContent → Type 0
ThereAlike d f = (i : ℕ) (x : Endpoint) → slice_get f.endpoints i ≡ Some x → IsThere f x → WasThere d f i x

-- no other endpoint is being opened
abbrev pub OpensStill : DriverContent → DriverContent → Type 0
OpensStill d f = (q : ℕ) → d.command ≡ Some (unfinished.Open q) → f.command ≡ Some (unfinished.Open q)

pub there_before : (d f : DriverContent) (x z : Endpoint) → OpensStill d f → z.queue ≡ x.queue → z.gone ≡ x.gone → IsThere f z → IsThere d x
there_before d f x z opens queue gone t = record { linked = λ is. t.linked (opens z.queue (is ∙ ap (λ (q : ℕ). Some (unfinished.Open q)) (sym queue))); kept = sym gone ∙ t.kept }

-- the same endpoints, of which none is met more
pub near_there : (d f : DriverContent) → f.endpoints ≡ d.endpoints → OpensStill d f → ((i : ℕ) (x : Endpoint) → may_meet f i x ≡ true → may_meet d i x ≡ true) → ThereAlike d f
near_there d f ends opens near i x here there =
    let t : IsThere d x = there_before d f x x opens refl refl there in
    record { endpoint = x; here = ap (λ (xs : List Endpoint). slice_get xs i) (sym ends) ∙ here; there = t; queue = refl; met = λ m. record { there = t; near = near i x m.near } }

pub met_same : (d f : DriverContent) (i : ℕ) (x z : Endpoint) → z.linked ≡ x.linked → f.waiting ≡ d.waiting → f.rung ≡ d.rung → may_meet f i z ≡ true → may_meet d i x ≡ true
met_same d f i x z linked waiting rung on =
    ap (λ (b : Bool). b || (is_one_of i d.waiting || is_one_of i d.rung)) (sym linked) ∙ ap (λ (es : List ℕ). z.linked || (is_one_of i es || is_one_of i d.rung)) (sym waiting)
    ∙ ap (λ (es : List ℕ). z.linked || (is_one_of i f.waiting || is_one_of i es)) (sym rung) ∙ on

pub same_there : (d f : DriverContent) → f.endpoints ≡ d.endpoints → OpensStill d f → f.waiting ≡ d.waiting → f.rung ≡ d.rung → ThereAlike d f
same_there d f ends opens waiting rung = near_there d f ends opens (λ i x near. met_same d f i x x refl waiting rung near)

-- endpoint e is told anew in its place, and was met if it is; so is each other one
pub told_anew : (d f : DriverContent) (e : ℕ) (x new : Endpoint) → slice_get d.endpoints e ≡ Some x → f.endpoints ≡ set d.endpoints e new → new.queue ≡ x.queue → new.gone ≡ x.gone → OpensStill d f
    → (may_meet f e new ≡ true → may_meet d e x ≡ true) → ((i : ℕ) (z : Endpoint) → i ≢ e → may_meet f i z ≡ true → may_meet d i z ≡ true) → ThereAlike d f
told_anew d f e x new here ends queue gone opens own_near near i z at there =
    ⊎_elim
    (λ (own : (i ≡ e) × (z ≡ new)).
    let t = there_before d f x z opens (ap (λ (y : Endpoint). y.queue) own.1 ∙ queue) (ap (λ (y : Endpoint). y.gone) own.1 ∙ gone) there in
    record {
      endpoint = x;
      here = ap (slice_get d.endpoints) own.0 ∙ here;
      there = t;
      queue = ap (λ (y : Endpoint). y.queue) own.1 ∙ queue;
      met = λ m.
          record {
            there = t;
            near = subst (λ (j : ℕ). may_meet d j x ≡ true) (sym own.0) (own_near (subst (λ (y : Endpoint). may_meet f e y ≡ true) own.1 (subst (λ (j : ℕ). may_meet f j z ≡ true) own.0 m.near)));
          };
    })
    (λ (other : (i ≢ e) × (slice_get d.endpoints i ≡ Some z)).
    let t = there_before d f z z opens refl refl there in
    record { endpoint = z; here = other.1; there = t; queue = refl; met = λ m. record { there = t; near = near i z other.0 m.near } })
    (set_which d.endpoints e i x new z here (ap (λ (xs : List Endpoint). slice_get xs i) (sym ends) ∙ at))

-- .. and the ring is the same
pub told_alike : (d f : DriverContent) (e : ℕ) (x new : Endpoint) → slice_get d.endpoints e ≡ Some x → f.endpoints ≡ set d.endpoints e new → new.queue ≡ x.queue → new.gone ≡ x.gone → new.linked ≡ x.linked → OpensStill d f
    → f.waiting ≡ d.waiting → f.rung ≡ d.rung → ThereAlike d f
told_alike d f e x new here ends queue gone linked opens waiting rung =
    told_anew d f e x new here ends queue gone opens (λ near. met_same d f e x new linked waiting rung near) (λ i z other near. met_same d f i z z refl waiting rung near)

-- ---- queues

module _ (d f : DriverContent) (parts now : StructureSets) (order order_now : ℕ → ℕ → ℕ) (out later : ℕ → List ℕ) where
  abbrev pub KeepRising : Type 0
  KeepRising =
      (i : ℕ) (x : Endpoint) → slice_get d.endpoints i ≡ Some x → IsThere d x → LinksRise (order (32 * x.queue)) (parts (32 * x.queue)) → LinksRise (order_now (32 * x.queue)) (now (32 * x.queue))

  abbrev pub KeepSorted : Type 0
  KeepSorted =
      (i : ℕ) (x : Endpoint) → slice_get d.endpoints i ≡ Some x → IsThere d x → IsSorted (order (32 * x.queue)) (out (32 * x.queue)) → IsSorted (order_now (32 * x.queue)) (later (32 * x.queue))

  abbrev pub KeepStops : Type 0
  KeepStops =
      (i : ℕ) (x : Endpoint) → slice_get d.endpoints i ≡ Some x → IsMet d i x → HaltStops (order (32 * x.queue)) (out (32 * x.queue)) (32 * x.queue) (parts (32 * x.queue))
      → HaltStops (order_now (32 * x.queue)) (later (32 * x.queue)) (32 * x.queue) (now (32 * x.queue))

  pub stand_by : ThereAlike d f → KeepRising → KeepSorted → KeepStops → MendsStand f now later → ControlsStand d parts order out → ControlsStand f now order_now later
  stand_by alike rising sorted stops mends k = record {
    rises = λ i x here there.
        let w = alike i x here there in
        subst (λ (q : ℕ). LinksRise (order_now (32 * q)) (now (32 * q))) (sym w.queue) (rising i w.endpoint w.here w.there (k.rises i w.endpoint w.here w.there));
    sorted = λ i x here there.
        let w = alike i x here there in
        subst (λ (q : ℕ). IsSorted (order_now (32 * q)) (later (32 * q))) (sym w.queue) (sorted i w.endpoint w.here w.there (k.sorted i w.endpoint w.here w.there));
    stops = λ i x here met.
        let w = alike i x here met.there in
        let was = w.met met in
        subst (λ (q : ℕ). HaltStops (order_now (32 * q)) (later (32 * q)) (32 * q) (now (32 * q))) (sym w.queue) (stops i w.endpoint w.here was (k.stops i w.endpoint w.here was));
    mends = mends;
  }

  -- each queue that waits does so still
  pub mends_by : OwesAlike any_one d f → ((s : StalledQueue) → IsOwed d s → Waits s parts out → Waits s now later) → MendsStand d parts out → MendsStand f now later
  mends_by alike waits k = record {
    queues = k.queues;
    are = record {
      mends = alike.mends ∙ k.are.mends;
      owed = all_more (IsOwed d) (IsOwed f) k.queues (λ s owed. owed_on any_one d f s alike.owed owed tt) k.are.owed;
      wait = all_both (IsOwed d) (λ (s : StalledQueue). Waits s parts out) (λ (s : StalledQueue). Waits s now later) k.queues waits k.are.owed k.are.wait;
      apart = k.are.apart;
    };
  }

-- where structures, order and what is out are the same
pub stand_still : (d f : DriverContent) (parts : StructureSets) (order : ℕ → ℕ → ℕ) (out : ℕ → List ℕ) → ThereAlike d f → MendsStand f parts out → ControlsStand d parts order out → ControlsStand f parts order out
stand_still d f parts order out alike mends k =
    stand_by d f parts parts order order out out alike (λ i x here there is. is) (λ i x here there is. is) (λ i x here met is. is) mends k
