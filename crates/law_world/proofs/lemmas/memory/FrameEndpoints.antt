-- What an event of the driver, or a command, leaves of an endpoint: what is out of its frames stays out of them; and no command unlinks a
-- member of the frame list.
use Rattle.std.proofs.Common.{◌≡◌, ◌≢◌, ℕ, true, false, List, [], ◌∷◌, ◌++◌, set}
use Rattle.std.proofs.Common.{slice_get, Some, is_some, ap, refl, sym, subst, ◌∙◌, ⊎_elim}
use Rattle.std.specs.Prelude.{slice_index}
use Rattle.std.proofs.lemmas.Bool.{true≢false, cases_eq}
use Rattle.std.proofs.lemmas.Option.{same_Some}
use Rattle.law_world.proofs.Common2.{linking_led, next_led}
use Rattle.law_common.proofs.Lists.{set_here, set_there, push_there}
use Rattle.word_mem.specs.Memory.{Mem}
use Rattle.drv_chains.specs.declared.members.Member.{Member}
use Rattle.drv_members.specs.Members.{IsKept}
use Rattle.drv_periodic_table.specs.Periodic.{is_periodic, queue_member}
use Rattle.drv_table.specs.declared.content.Command.TheVariants as unfinished
use Rattle.drv_table.specs.declared.content.Endpoint.{Endpoint}
use Rattle.drv_table.specs.DriverContent.{DriverContent}
use Rattle.drv_table.specs.Accepting.{Offered, new_runs}
use Rattle.drv_table.specs.CancelOffers.{with_cancel, endpoint_members}
use Rattle.law_driver.specs.listed_members.Members.{IsListed}
use Rattle.claims_driver.specs.Leaving.{HasOwners}
use Rattle.claims_driver.specs.Unlinked.{led_in, led}
use Rattle.law_driver.proofs.lemmas.queued_drivers.CommandLeaves.{unchained}
use Rattle.law_driver.specs.run_owners.Accepts.{Accepts, opens, chains, places, transfers, describes, cancels, unchains}
use Rattle.law_footprints.specs.Changes.{EndpointChange, off_ring, off_frames, let_go, over, onward, EndpointsStep, same as none_changes}
use Rattle.law_footprints.specs.Changes.{one as one_changes}
use Rattle.law_world.proofs.lemmas.memory.FrameFlips.{ended_list}

-- ---- what an event leaves of an endpoint

pub record Keeps (x y : Endpoint) : Type 0 where
  pub queue : y.queue ≡ x.queue
  pub desc : y.desc ≡ x.desc
  pub placement : y.placement ≡ x.placement
  pub off : x.chained ≡ false → y.chained ≡ false
  pub alive : y.gone ≡ false → x.gone ≡ false

keeps_itself : (x : Endpoint) → Keeps x x
keeps_itself x = record { queue = refl; desc = refl; placement = refl; off = λ o. o; alive = λ a. a }

change_keeps : (x y : Endpoint) → EndpointChange x y → Keeps x y
change_keeps x _ off_ring = record { queue = refl; desc = refl; placement = refl; off = λ o. o; alive = λ a. a }
change_keeps x _ off_frames = record { queue = refl; desc = refl; placement = refl; off = λ o. refl; alive = λ a. a }
change_keeps x _ let_go = record { queue = refl; desc = refl; placement = refl; off = λ o. o; alive = λ bad. absurd (true≢false bad) }
change_keeps x _ (over cause) = record { queue = refl; desc = refl; placement = refl; off = λ o. o; alive = λ a. a }
change_keeps x _ (onward t) = record { queue = refl; desc = refl; placement = refl; off = λ o. o; alive = λ a. a }

pub record Then (ys : List Endpoint) (e : ℕ) (x : Endpoint) : Type 0 where
  pub endpoint : Endpoint
  pub here : slice_get ys e ≡ Some endpoint
  pub keeps : Keeps x endpoint

set_then : (xs : List Endpoint) (i : ℕ) (v y : Endpoint) → slice_get xs i ≡ Some v → Keeps v y → (e : ℕ) (x : Endpoint)
    → slice_get xs e ≡ Some x
    → Then (set xs i y) e x
set_then xs i v y at keeps e x here =
    ⊎_elim
    (λ (same : e ≡ i).
    let one : v ≡ x = same_Some v x (sym at ∙ ap (slice_get xs) (sym same) ∙ here) in
    record {
      endpoint = y;
      here = ap (slice_get (set xs i y)) same ∙ set_here xs i v y at;
      keeps = subst (λ (z : Endpoint). Keeps z y) one keeps;
    })
    (λ (differs : e ≢ i). record { endpoint = x; here = set_there xs i e y differs ∙ here; keeps = keeps_itself x })
    (cases_eq e i)

pub step_then : (xs ys : List Endpoint) → EndpointsStep xs ys → (e : ℕ) (x : Endpoint) → slice_get xs e ≡ Some x → Then ys e x
step_then xs _ none_changes e x here = record { endpoint = x; here = here; keeps = keeps_itself x }
step_then xs _ (one_changes i v y at change) e x here = set_then xs i v y at (change_keeps v y change) e x here

-- ---- .. and a command

pushed_then : (xs ys : List Endpoint) (y : Endpoint) → ys ≡ xs ++ y ∷ [] → (e : ℕ) (x : Endpoint) → slice_get xs e ≡ Some x → Then ys e x
pushed_then xs ys y is e x here = record {
  endpoint = x;
  here = ap (λ (zs : List Endpoint). slice_get zs e) is ∙ push_there xs y e x here;
  keeps = keeps_itself x;
}

set_by : (xs ys : List Endpoint) (i : ℕ) (v y : Endpoint) → slice_get xs i ≡ Some v → ys ≡ set xs i y → Keeps v y → (e : ℕ) (x : Endpoint)
    → slice_get xs e ≡ Some x → Then ys e x
set_by xs ys i v y at is keeps e x here =
    subst (λ (zs : List Endpoint). Then zs e x) (sym is) (set_then xs i v y at keeps e x here)

pub accepted_then : (d : DriverContent) (m : Mem) (o : Offered) → Accepts d m o → HasOwners d → IsListed d → (e : ℕ) (x : Endpoint)
    → slice_get d.endpoints e ≡ Some x → Then o.driver.endpoints e x
accepted_then d m o (opens why) has listed = pushed_then d.endpoints o.driver.endpoints _ (ap (λ (g : Offered). g.driver.endpoints) why.is)
accepted_then d m o (chains why) has listed = pushed_then d.endpoints o.driver.endpoints _ (ap (λ (g : Offered). g.driver.endpoints) why.is)
accepted_then d m o (places why) has listed = pushed_then d.endpoints o.driver.endpoints _ (ap (λ (g : Offered). g.driver.endpoints) why.is)
accepted_then d m o (transfers why) has listed =
    set_by d.endpoints o.driver.endpoints why.number why.endpoint _ why.here (ap (λ (g : Offered). g.driver.endpoints) why.is)
    (record { queue = refl; desc = refl; placement = refl; off = λ q. q; alive = λ a. a })
accepted_then d m o (describes why) has listed =
    set_by d.endpoints o.driver.endpoints why.number why.endpoint _ why.here (ap (λ (g : Offered). g.driver.endpoints) why.is)
    (record { queue = refl; desc = refl; placement = refl; off = λ q. q; alive = λ a. a })
accepted_then d m o (cancels why) has listed =
    set_by d.endpoints o.driver.endpoints why.number why.endpoint _ why.here (ap (λ (g : Offered). g.driver.endpoints) why.is)
    (record { queue = refl; desc = refl; placement = refl; off = λ q. q; alive = λ a. a })
accepted_then d m o (unchains why) has listed =
    let u = unchained d m o why in
    let periodic : is_periodic why.endpoint.desc.kind ≡ true
    = sym (has.orderly.steady why.number why.endpoint why.here).placed ∙ ap is_some why.placed in
    let chained : why.endpoint.chained ≡ true = listed.list.kept why.number why.endpoint why.here periodic why.fresh in
    set_by d.endpoints o.driver.endpoints why.number why.endpoint _ why.here (ap (λ (g : DriverContent). g.endpoints) u.is)
    (record { queue = refl; desc = refl; placement = refl; off = λ q. absurd (true≢false (sym chained ∙ q)); alive = λ a. a })

-- no member is unlinked by it
pub accepted_led : (d : DriverContent) (m : Mem) (o : Offered) → Accepts d m o → IsKept d.periodic.list.members.schedule
    → led o.driver ≡ led d
accepted_led d m o (opens why) kept = ap (λ (g : Offered). led g.driver) why.is
accepted_led d m o (chains why) kept =
    ap (λ (g : Offered). led g.driver) why.is ∙ linking_led d.periodic.list
    (queue_member (slice_index (new_runs d why.holding_after) 0) why.placement) kept
accepted_led d m o (places why) kept = ap (λ (g : Offered). led g.driver) why.is
accepted_led d m o (transfers why) kept = ap (λ (g : Offered). led g.driver) why.is
accepted_led d m o (describes why) kept = ap (λ (g : Offered). led g.driver) why.is
accepted_led d m o (cancels why) kept = ap (λ (g : Offered). led g.driver) why.is
accepted_led d m o (unchains why) kept =
    let ms : List Member = endpoint_members d why.number why.endpoint why.placement in
    ap (λ (g : Offered). led g.driver) why.is
    ∙ ap led_in (ended_list (with_cancel d why.number why.endpoint ms) (unfinished.Unchain why.number))
    ∙ next_led true (record d.periodic { queued = ms }) kept
