-- What is recent stays recent where an endpoint is given back.
use Rattle.std.proofs.Common.{◌≡◌, ◌≢◌, ℕ, zero, suc, ◌*◌, Bool, true, false, not, cond, if◌then◌else◌, List, drop, map, set, Option, Some, option_map, ⊎_elim, inl, ap, refl, sym, subst, ◌∙◌, arith}
use Rattle.std.specs.Prelude.{◌==◌, ◌||◌, slice_get}
use Rattle.std.proofs.lemmas.Bool.{eqb-true, eq-eqb}
use Rattle.std.proofs.lemmas.Option.{same_Some, slice_get-map}
use Rattle.law_queues.proofs.Common.{its_endpoint}
use Rattle.law_descriptors.proofs.Common.{dropped}
use Rattle.law_common.proofs.Lists.{set_there}
use Rattle.drv_periodic_table.specs.declared.content.Removal.{Removal}
use Rattle.drv_periodic_table.specs.declared.content.Removed.{Removed}
use Rattle.drv_periodic_table.specs.declared.content.Removed.TheVariants as removed
use Rattle.drv_periodic_table.specs.Periodic.{PeriodicContent, is_periodic}
use Rattle.drv_table.specs.declared.content.Endpoint.{Endpoint}
use Rattle.drv_table.specs.declared.content.Transfer.{Transfer}
use Rattle.drv_table.specs.DriverContent.{DriverContent, waits_for}
use Rattle.drv_table.specs.Parts.{Parts}
use Rattle.drv_table.specs.Kinds.{is_iso}
use Rattle.drv_table.specs.Releases.{is_told, cancel_told}
use Rattle.drv_table.specs.Removals.{let_go_placed, after_placed}
use Rattle.claims_driver.specs.Owners.{is_descriptor}
use Rattle.claims_driver.specs.Leaving.{leaves_frames, HasOwners}
use Rattle.law_driver.proofs.lemmas.run_owners.Orders.{endpoint_first}
use Rattle.law_driver.proofs.lemmas.run_owners.Released.{AreUntouched, cancel_same}
use Rattle.law_frames.specs.Met.{Kind}
use Rattle.claims_driver.specs.Unlinked.{IsOpenAt}
use Rattle.law_descriptors.specs.Removed.{IsRemovedAt, a_descriptor, a_queue, a_waiting, IsRemovedSince, IsUnchainedNow}
use Rattle.law_descriptors.specs.Recent.{AreRecent}
use Rattle.law_descriptors.specs.Returned.{IsGivenBack}
use Rattle.law_descriptors.specs.Given.{EndpointLeavesRecent}
use Rattle.law_descriptors.proofs.Returning.{not_open, one_of, none_some}
use Rattle.law_descriptors.proofs.Waiting.{later_endpoint, frames_most}

-- ---- a transfer that is let go with its endpoint

pub record IsLetGo (e : ℕ) (y z : Transfer) : Type 0 where
  pub first : z.first ≡ y.first
  pub sort : z.sort ≡ y.sort
  pub waits : (f : ℕ) → f ≢ e → waits_for f y ≡ true → waits_for f z ≡ true

let_go_one : (e : ℕ) (b told : Bool) (y : Transfer) → (b ≡ true → y.endpoint ≡ e) → IsLetGo e y (if b then record y { reported = y.reported || told; released = true } else y)
let_go_one e true told y of = record { first = refl; sort = refl; waits = λ f differs waits. absurd (differs (sym (its_endpoint f y waits) ∙ of refl)) }
let_go_one e false told y of = record { first = refl; sort = refl; waits = λ f differs waits. waits }

let_go_is : (iso : Bool) (e : ℕ) (told : Bool) (y : Transfer) → IsLetGo e y (let_go_placed iso e told y)
let_go_is true e told y = let_go_one e (waits_for e y) told y (its_endpoint e y)
let_go_is false e told y = let_go_one e (y.endpoint == e) told y (eqb-true y.endpoint e)

module _ (xs : List Endpoint) (ts : List Transfer) (e : ℕ) (x : Endpoint) (there : slice_get xs e ≡ Some x) (go : Transfer → Transfer) (each : (y : Transfer) → IsLetGo e y (go y)) where
  went : (t : ℕ) (y : Transfer) → slice_get ts t ≡ Some y → slice_get (map go ts) t ≡ Some (go y)
  went t y at = slice_get-map go ts t ∙ ap (option_map go) at

  -- another removal
  still_at : (n : ℕ) (w : Removed) → (w ≡ removed.Endpoint e → ⊥) → IsRemovedAt xs ts n w → IsRemovedAt (set xs e (record x { gone = true })) (map go ts) n w
  still_at n _ other (a_descriptor t y at is) = a_descriptor t (go y) (went t y at) (is ∙ ap (λ (b : ℕ). 32 * b) (sym (each y).first))
  still_at n _ other (a_queue f z at queued is) = a_queue f z (set_there xs e f (record x { gone = true }) (λ same. other (ap removed.Endpoint same)) ∙ at) queued is
  still_at n _ other (a_waiting f t z y at iso in_list sort waits is) =
      let differs : f ≢ e = λ same. other (ap removed.Endpoint same) in
      a_waiting f t z (go y) (set_there xs e f (record x { gone = true }) differs ∙ at) iso (went t y in_list) (ap is_descriptor (each y).sort ∙ sort) ((each y).waits f differs waits)
      (is ∙ ap (λ (b : ℕ). 32 * b) (sym (each y).first))

module _ (p : Parts) (index e : ℕ) (x : Endpoint) (has : HasOwners p.driver) (why : IsGivenBack p (removed.Endpoint e)) (there : slice_get p.driver.endpoints e ≡ Some x) (go : Transfer → Transfer) (each : (y : Transfer) → IsLetGo e y (go y)) where
  -- it was removed once
  not_again : (k : ℕ) (r : Removal) → slice_get p.driver.periodic.removals (suc k) ≡ Some r → r.what ≡ removed.Endpoint e → ⊥
  not_again k r here what =
      let first = endpoint_first e e p.driver.periodic.removals why.due.removal why.due.first why.due.is in
      let later = later_endpoint e p.driver.periodic.removals k r here what in
      let one : ◌≡◌ {A = ℕ} (cond (e == e) 1 0) 1 = one_of (e == e) (eq-eqb e e refl) in
      let most = has.orderly.removed e in
      let owes_it : leaves_frames (slice_get p.driver.endpoints e) ≡ (if x.chained || x.gone || not (is_periodic x.desc.kind) then 0 else 1) = ap leaves_frames there in
      let once = frames_most (x.chained || x.gone || not (is_periodic x.desc.kind)) in
      omega (arith, first, later, one, most, owes_it, once)

  one_less : (n k : ℕ) (r : Removal) → slice_get p.driver.periodic.removals k ≡ Some r → IsRemovedAt p.driver.endpoints p.driver.transfers n r.what → IsOpenAt index r.boundary
      → IsRemovedSince (set p.driver.endpoints e (record x { gone = true })) (map go p.driver.transfers) (drop 1 p.driver.periodic.removals) index n
  one_less n zero r here what still =
      absurd (not_open index why.due.removal.boundary why.seen (subst (λ (q : Removal). IsOpenAt index q.boundary) (same_Some r why.due.removal (sym here ∙ why.due.first)) still))
  one_less n (suc k) r here what still = record {
    place = k;
    removal = r;
    here = dropped p.driver.periodic.removals k r here;
    what = still_at p.driver.endpoints p.driver.transfers e x there go each n r.what (not_again k r here) what;
    within = still;
  }

  pub recent_on : (recent : ℕ → Option Kind) → AreRecent p.driver index recent → (n : ℕ) (kind : Kind) → recent n ≡ Some kind
      → IsRemovedSince (set p.driver.endpoints e (record x { gone = true })) (map go p.driver.transfers) (drop 1 p.driver.periodic.removals) index n
  recent_on recent are n kind on =
      ⊎_elim (λ (s : IsRemovedSince p.driver.endpoints p.driver.transfers p.driver.periodic.removals index n). one_less n s.place s.removal s.here s.what s.within)
      (λ (now : IsUnchainedNow p.driver.endpoints p.driver.transfers p.driver.command n). absurd (none_some _ (sym why.due.idle ∙ now.command))) (are n kind on)

-- a line of the report tells it or doesn't
with_told : (p : Parts) (index e : ℕ) (x : Endpoint) (go : Transfer → Transfer) (f : DriverContent) → AreUntouched p.driver f → (n : ℕ)
    → IsRemovedSince (set p.driver.endpoints e (record x { gone = true })) (map go p.driver.transfers) (drop 1 p.driver.periodic.removals) index n
    → IsRemovedSince (set f.endpoints e (record x { gone = true })) (map go f.transfers) (drop 1 f.periodic.removals) index n
with_told p index e x go f same n s =
    subst (λ (xs : List Endpoint). IsRemovedSince (set xs e (record x { gone = true })) (map go f.transfers) (drop 1 f.periodic.removals) index n) (sym same.endpoints)
    (subst (λ (ts : List Transfer). IsRemovedSince (set p.driver.endpoints e (record x { gone = true })) (map go ts) (drop 1 f.periodic.removals) index n) (sym same.transfers)
    (subst (λ (q : PeriodicContent). IsRemovedSince (set p.driver.endpoints e (record x { gone = true })) (map go p.driver.transfers) (drop 1 q.removals) index n) (sym same.periodic) s))

pub endpoint_leaves_recent : EndpointLeavesRecent
endpoint_leaves_recent p recent index e x has why there are =
    subst (λ (o : Option Endpoint). AreRecent (after_placed p e o).driver index recent) (sym there)
    (λ n kind on.
    inl
    (with_told p index e x (let_go_placed (is_iso x.desc.kind) e (is_told x)) (cancel_told p.driver p.memory e x) (cancel_same p.driver p.memory e x) n
    (recent_on p index e x has why there (let_go_placed (is_iso x.desc.kind) e (is_told x)) (let_go_is (is_iso x.desc.kind) e (is_told x)) recent are n kind on)))
