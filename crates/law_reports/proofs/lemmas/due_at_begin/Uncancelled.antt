-- An endpoint that isn't cancelled after an event of the driver, or a command, wasn't cancelled before (EHCI 1.0, 4.6 and 4.8).
use Rattle.std.proofs.Common.{◌≡◌, ◌≢◌, ℕ, zero, suc, Bool, true, false, cond, List, [], ◌∷◌, ◌++◌, set, slice_get, Option, Some, None, ap}
use Rattle.std.proofs.Common.{refl, sym, subst, ◌∙◌, ⊎_elim, is_none}
use Rattle.std.proofs.lemmas.Bool.{cases_eq, true≢false}
use Rattle.std.proofs.lemmas.Option.{same_Some}
use Rattle.law_common.proofs.Lists.{set_here, set_there}
use Rattle.law_queues.proofs.Common.{set_which}
use Rattle.word_mem.specs.Memory.{Mem}
use Rattle.drv_chains.specs.declared.members.Member.{Member}
use Rattle.drv_table.specs.declared.content.Endpoint.{Endpoint}
use Rattle.drv_table.specs.Accepting.{Offered}
use Rattle.drv_table.specs.CancelOffers.{endpoint_members, with_cancel, accepted_unchain}
use Rattle.drv_table.specs.Commands.{no_command, leave_frames}
use Rattle.drv_table.specs.DriverContent.{DriverContent}
use Rattle.law_driver.specs.run_owners.Accepts.{Accepts, opens, chains, places, transfers, describes, cancels, unchains}
use Rattle.law_footprints.specs.Changes.{EndpointChange, off_ring, off_frames, let_go, over, onward, EndpointsStep, same, one}

-- ---- of two lists of endpoints

abbrev pub Back : List Endpoint → List Endpoint → Type 0
Back xs ys = (i : ℕ) (y z : Endpoint) → slice_get xs i ≡ Some y → slice_get ys i ≡ Some z → z.cancelled ≡ false → y.cancelled ≡ false

itself_back : (xs : List Endpoint) → Back xs xs
itself_back xs i y z here there off = ap (λ (v : Endpoint). v.cancelled) (same_Some y z (sym here ∙ there)) ∙ off

set_back : (xs : List Endpoint) (e : ℕ) (x v : Endpoint) → slice_get xs e ≡ Some x → (v.cancelled ≡ false → x.cancelled ≡ false)
    → Back xs (set xs e v)
set_back xs e x v at was i y z here there off =
    ⊎_elim
    (λ (own : (i ≡ e) × (z ≡ v)).
    let is : y ≡ x = same_Some y x (sym here ∙ ap (slice_get xs) own.0 ∙ at) in
    ap (λ (u : Endpoint). u.cancelled) is ∙ was (ap (λ (u : Endpoint). u.cancelled) (sym own.1) ∙ off))
    (λ (other : (i ≢ e) × (slice_get xs i ≡ Some z)). itself_back xs i y z here other.1 off)
    (set_which xs e i x v z at there)

within_more : {X : Type 0} (xs ys : List X) (x : X) (i : ℕ) → slice_get xs i ≡ Some x → slice_get (xs ++ ys) i ≡ Some x
within_more [] ys x i here = absurd (cc here)
within_more (v ∷ xs) ys x zero here = here
within_more (v ∷ xs) ys x (suc i) here = within_more xs ys x i here

more_back : (xs ys : List Endpoint) → Back xs (xs ++ ys)
more_back xs ys i y z here there off =
    ap (λ (v : Endpoint). v.cancelled) (same_Some y z (sym (within_more xs ys y i here) ∙ there)) ∙ off

pub record IsAt (xs : List Endpoint) (i : ℕ) : Type 0 where
  pub endpoint : Endpoint
  pub here : slice_get xs i ≡ Some endpoint

set_at : (xs : List Endpoint) (e i : ℕ) (x v y : Endpoint) → slice_get xs e ≡ Some x → slice_get xs i ≡ Some y → IsAt (set xs e v) i
set_at xs e i x v y at here =
    ⊎_elim (λ (own : i ≡ e). record { endpoint = v; here = ap (slice_get (set xs e v)) own ∙ set_here xs e x v at })
    (λ (other : i ≢ e). record { endpoint = y; here = set_there xs e i v other ∙ here }) (cases_eq i e)

-- ---- an event of the driver

kept_cancelled : (x z : Endpoint) → EndpointChange x z → z.cancelled ≡ x.cancelled
kept_cancelled x _ off_ring = refl
kept_cancelled x _ off_frames = refl
kept_cancelled x _ let_go = refl
kept_cancelled x _ (over cause) = refl
kept_cancelled x _ (onward t) = refl

pub step_back : (old new : List Endpoint) → EndpointsStep old new → Back old new
step_back old _ same = itself_back old
step_back old _ (one e x y at change) = set_back old e x y at (λ off. sym (kept_cancelled x y change) ∙ off)

-- ---- a command that is accepted

choose_back : (b : Bool) (f g : DriverContent) → Back g.endpoints f.endpoints → Back g.endpoints (cond b f g).endpoints
choose_back true f g goes = goes
choose_back false f g goes = itself_back g.endpoints

-- where a cancel leaves nothing to unlink the endpoint is out of its frames at once
frames_back : (g : DriverContent) (e : ℕ) (o : Option Endpoint) → slice_get g.endpoints e ≡ o
    → Back g.endpoints (leave_frames g e o).endpoints
frames_back g e None at = itself_back g.endpoints
frames_back g e (Some v) at =
    choose_back v.chained _ g (set_back g.endpoints e v (record v { chained = false }) at (λ off. off))

done_back : (g : DriverContent) (e : ℕ) (b : Bool)
    → Back g.endpoints (cond b (leave_frames (no_command g) e (slice_get g.endpoints e)) g).endpoints
done_back g e true = frames_back (no_command g) e (slice_get g.endpoints e) refl
done_back g e false = itself_back g.endpoints

unchain_back : (d : DriverContent) (e : ℕ) (x : Endpoint) (ms : List Member) → slice_get d.endpoints e ≡ Some x
    → Back d.endpoints (accepted_unchain d e x ms).endpoints
unchain_back d e x ms at i y z here there off =
    let g : DriverContent = with_cancel d e x ms in
    let now : IsAt g.endpoints i = set_at d.endpoints e i x _ y at here in
    set_back d.endpoints e x _ at (λ never. absurd (true≢false never)) i y now.endpoint here now.here
    (done_back g e (is_none g.periodic.list.work) i now.endpoint z now.here there off)

pub accepted_back : (d : DriverContent) (m : Mem) (o : Offered) → Accepts d m o → Back d.endpoints o.driver.endpoints
accepted_back d m o (opens why) = subst (λ (p : Offered). Back d.endpoints p.driver.endpoints) (sym why.is) (more_back d.endpoints _)
accepted_back d m o (chains why) = subst (λ (p : Offered). Back d.endpoints p.driver.endpoints) (sym why.is) (more_back d.endpoints _)
accepted_back d m o (places why) = subst (λ (p : Offered). Back d.endpoints p.driver.endpoints) (sym why.is) (more_back d.endpoints _)
accepted_back d m o (transfers why) =
    subst (λ (p : Offered). Back d.endpoints p.driver.endpoints) (sym why.is)
    (set_back d.endpoints why.number why.endpoint _ why.here (λ off. off))
accepted_back d m o (describes why) =
    subst (λ (p : Offered). Back d.endpoints p.driver.endpoints) (sym why.is)
    (set_back d.endpoints why.number why.endpoint _ why.here (λ off. off))
accepted_back d m o (cancels why) =
    subst (λ (p : Offered). Back d.endpoints p.driver.endpoints) (sym why.is)
    (set_back d.endpoints why.number why.endpoint _ why.here (λ never. absurd (true≢false never)))
accepted_back d m o (unchains why) =
    subst (λ (p : Offered). Back d.endpoints p.driver.endpoints) (sym why.is)
    (unchain_back d why.number why.endpoint (endpoint_members d why.number why.endpoint why.placement) why.here)

-- ---- each endpoint is one still

choose_at : (b : Bool) (f g : DriverContent) (i : ℕ) → IsAt f.endpoints i → IsAt g.endpoints i → IsAt (cond b f g).endpoints i
choose_at true f g i first second = first
choose_at false f g i first second = second

frames_at : (g : DriverContent) (e : ℕ) (o : Option Endpoint) → slice_get g.endpoints e ≡ o → (i : ℕ) → IsAt g.endpoints i
    → IsAt (leave_frames g e o).endpoints i
frames_at g e None at i was = was
frames_at g e (Some v) at i was =
    choose_at v.chained _ g i (set_at g.endpoints e i v (record v { chained = false }) was.endpoint at was.here) was

done_at : (g : DriverContent) (e : ℕ) (b : Bool) (i : ℕ) → IsAt g.endpoints i
    → IsAt (cond b (leave_frames (no_command g) e (slice_get g.endpoints e)) g).endpoints i
done_at g e true i was = frames_at (no_command g) e (slice_get g.endpoints e) refl i was
done_at g e false i was = was

pub accepted_at : (d : DriverContent) (m : Mem) (o : Offered) → Accepts d m o → (i : ℕ) (y : Endpoint) → slice_get d.endpoints i ≡ Some y
    → IsAt o.driver.endpoints i
accepted_at d m o (opens why) i y here =
    subst (λ (p : Offered). IsAt p.driver.endpoints i) (sym why.is) (record { endpoint = y; here = within_more d.endpoints _ y i here })
accepted_at d m o (chains why) i y here =
    subst (λ (p : Offered). IsAt p.driver.endpoints i) (sym why.is) (record { endpoint = y; here = within_more d.endpoints _ y i here })
accepted_at d m o (places why) i y here =
    subst (λ (p : Offered). IsAt p.driver.endpoints i) (sym why.is) (record { endpoint = y; here = within_more d.endpoints _ y i here })
accepted_at d m o (transfers why) i y here =
    subst (λ (p : Offered). IsAt p.driver.endpoints i) (sym why.is) (set_at d.endpoints why.number i why.endpoint _ y why.here here)
accepted_at d m o (describes why) i y here =
    subst (λ (p : Offered). IsAt p.driver.endpoints i) (sym why.is) (set_at d.endpoints why.number i why.endpoint _ y why.here here)
accepted_at d m o (cancels why) i y here =
    subst (λ (p : Offered). IsAt p.driver.endpoints i) (sym why.is) (set_at d.endpoints why.number i why.endpoint _ y why.here here)
accepted_at d m o (unchains why) i y here =
    let g : DriverContent = with_cancel d why.number why.endpoint (endpoint_members d why.number why.endpoint why.placement) in
    subst (λ (p : Offered). IsAt p.driver.endpoints i) (sym why.is)
    (done_at g why.number (is_none g.periodic.list.work) i (set_at d.endpoints why.number i why.endpoint _ y why.here here))
