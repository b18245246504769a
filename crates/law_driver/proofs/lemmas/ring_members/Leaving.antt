-- The links of the endpoints that have left the ring.
use Rattle.std.proofs.Common.{◌≡◌, ◌≢◌, ℕ, zero, suc, ◌<◌, ◌≤◌, true, List, [], ◌∷◌, ◌++◌, take, slice_get, Option, Some, None, option_map, ap, sym, subst, ◌∙◌, ⊎_elim, refl, arith}
use Rattle.std.proofs.lemmas.Bool.{cases_eq}
use Rattle.std.proofs.lemmas.Option.{same_Some}
use Rattle.law_driver.proofs.Common.{leads_now}
use Rattle.drv_table.specs.declared.content.Endpoint.{Endpoint}
use Rattle.drv_table.specs.Words.{head_block, queue_head_link}
use Rattle.claims_driver.specs.Leaving.{times}
use Rattle.law_driver.proofs.lemmas.run_owners.Orders.{one_same}
use Rattle.law_driver.specs.ring_members.Links.{newest_from}
use Rattle.claims_driver.specs.Ring.{IsQueueOf, IsAmong, first, later}
use Rattle.law_driver.specs.ring_members.Words.{AreLinked, step_to, IsTarget, to_head, to_member, to_later, Leaves, AreLeaving}
use Rattle.law_driver.proofs.lemmas.ring_members.Links.{RingOf, ring_of, SameRing, LeadsTo, newest_is}

-- ---- endpoints that stay where they are, and in the ring if they were

pub record GoesOn (ys : List Endpoint) (f : ℕ) (y : Endpoint) : Type 0 where
  pub endpoint : Endpoint
  pub here : slice_get ys f ≡ Some endpoint
  pub queue : endpoint.queue ≡ y.queue
  pub linked : y.linked ≡ true → endpoint.linked ≡ true

abbrev pub GoOn : List Endpoint → List Endpoint → Type 0
GoOn xs ys = (f : ℕ) (y : Endpoint) → slice_get xs f ≡ Some y → GoesOn ys f y

goes_by : (ys : List Endpoint) (f : ℕ) (y : Endpoint) (o : Option Endpoint) → slice_get ys f ≡ o → option_map ring_of o ≡ Some (ring_of y) → GoesOn ys f y
goes_by ys f y None here e = absurd (cc)
goes_by ys f y (Some z) here e =
    let same : ring_of z ≡ ring_of y = same_Some (ring_of z) (ring_of y) e in
    record { endpoint = z; here = here; queue = ap (λ (r : RingOf). r.queue) same; linked = λ on. ap (λ (r : RingOf). r.linked) same ∙ on }

pub same_go_on : (xs ys : List Endpoint) → SameRing xs ys → GoOn xs ys
same_go_on xs ys same = λ f y here. goes_by ys f y (slice_get ys f) refl (same f ∙ ap (option_map ring_of) here)

-- ---- the words and targets stay

target_kept : (xs ys : List Endpoint) (es : List ℕ) (b : ℕ) → GoOn xs ys → IsTarget xs es b → IsTarget ys es b
target_kept xs ys es b on (to_head e) = to_head e
target_kept xs ys es b on (to_member f at linked) =
    let g = on f at.endpoint at.here in to_member f (record { endpoint = g.endpoint; here = g.here; queue = g.queue ∙ at.queue }) (g.linked linked)
target_kept xs ys es b on (to_later f at among) =
    let g = on f at.endpoint at.here in to_later f (record { endpoint = g.endpoint; here = g.here; queue = g.queue ∙ at.queue }) among

pub leaving_kept : (word now : ℕ → ℕ) (xs ys : List Endpoint) (es : List ℕ) → GoOn xs ys → ((f : ℕ) (y : Endpoint) → IsAmong f es → slice_get xs f ≡ Some y → now y.queue ≡ word y.queue) → AreLeaving word xs es → AreLeaving now ys es
leaving_kept word now xs ys [] on same all = tt
leaving_kept word now xs ys (e ∷ es) on same all =
    let g = on e all.0.endpoint all.0.here in (
      record {
        endpoint = g.endpoint;
        here = g.here;
        to = all.0.to;
        link = ap now g.queue ∙ same e all.0.endpoint (first es) all.0.here ∙ all.0.link;
        target = target_kept xs ys es all.0.to on all.0.target;
      },
      leaving_kept word now xs ys es on (λ f y among here. same f y (later e es among) here) all.1,
    )

pub leaving_rest : (word : ℕ → ℕ) (xs : List Endpoint) (es fs : List ℕ) → AreLeaving word xs (es ++ fs) → AreLeaving word xs fs
leaving_rest word xs [] fs all = all
leaving_rest word xs (e ∷ es) fs all = leaving_rest word xs es fs all.1

-- ---- one more leaves

pub among_more : (f : ℕ) (es : List ℕ) (e : ℕ) → IsAmong f es → IsAmong f (es ++ e ∷ [])
among_more f [] e x = elim x [ ]
among_more f (e2 ∷ es) e (first _) = first (es ++ e ∷ [])
among_more f (e2 ∷ es) e (later _ _ rest) = later e2 (es ++ e ∷ []) (among_more f es e rest)

pub among_last : (es : List ℕ) (e : ℕ) → IsAmong e (es ++ e ∷ [])
among_last [] e = first []
among_last (f ∷ es) e = later f (es ++ e ∷ []) (among_last es e)

-- endpoint e is in the ring no more, and all others are as they were
pub record LeavesOne (xs ys : List Endpoint) (e : ℕ) : Type 0 where
  pub itself : (x : Endpoint) → slice_get xs e ≡ Some x → IsQueueOf ys e x.queue
  pub others : (f : ℕ) (y : Endpoint) → f ≢ e → slice_get xs f ≡ Some y → slice_get ys f ≡ Some y

pub queue_still : (xs ys : List Endpoint) (e f b : ℕ) → LeavesOne xs ys e → IsQueueOf xs f b → IsQueueOf ys f b
queue_still xs ys e f b one at =
    ⊎_elim
    (λ (same : f ≡ e).
    let q = one.itself at.endpoint (ap (slice_get xs) (sym same) ∙ at.here) in
    subst (λ k. IsQueueOf ys k b) (sym same) (record { endpoint = q.endpoint; here = q.here; queue = q.queue ∙ at.queue }))
    (λ (differs : f ≢ e). record { endpoint = at.endpoint; here = one.others f at.endpoint differs at.here; queue = at.queue }) (cases_eq f e)

target_left : (xs ys : List Endpoint) (es : List ℕ) (e b : ℕ) → LeavesOne xs ys e → IsTarget xs es b → IsTarget ys (es ++ e ∷ []) b
target_left xs ys es e b one (to_head h) = to_head h
target_left xs ys es e b one (to_member f at linked) =
    ⊎_elim
    (λ (same : f ≡ e). to_later e (subst (λ k. IsQueueOf ys k b) same (queue_still xs ys e f b one at)) (among_last es e))
    (λ (differs : f ≢ e). to_member f (record { endpoint = at.endpoint; here = one.others f at.endpoint differs at.here; queue = at.queue }) linked) (cases_eq f e)
target_left xs ys es e b one (to_later f at among) = to_later f (queue_still xs ys e f b one at) (among_more f es e among)

pub leaving_more : (word now : ℕ → ℕ) (xs ys : List Endpoint) (es : List ℕ) (e : ℕ) → LeavesOne xs ys e → ((f : ℕ) (y : Endpoint) → IsAmong f es → slice_get xs f ≡ Some y → now y.queue ≡ word y.queue) → Leaves now ys [] e → AreLeaving word xs es → AreLeaving now ys (es ++ e ∷ [])
leaving_more word now xs ys [] e one same last all = (last, tt)
leaving_more word now xs ys (f ∷ es) e one same last all =
    let q = queue_still xs ys e f all.0.endpoint.queue one (record { endpoint = all.0.endpoint; here = all.0.here; queue = refl }) in (
      record {
        endpoint = q.endpoint;
        here = q.here;
        to = all.0.to;
        link = ap now q.queue ∙ same f all.0.endpoint (first es) all.0.here ∙ all.0.link;
        target = target_left xs ys es e all.0.to one all.0.target;
      },
      leaving_more word now xs ys es e one (λ g y among here. same g y (later f es among) here) last all.1,
    )

-- ---- where one in the ring leads

pub link_at : (word : ℕ → ℕ) (b : ℕ) (xs : List Endpoint) (e : ℕ) (x : Endpoint) → slice_get xs e ≡ Some x → x.linked ≡ true → AreLinked word b xs → word x.queue ≡ queue_head_link (newest_from b (take e xs))
link_at word b [] e x here on linked = absurd (cc)
link_at word b (y ∷ xs) zero x here on linked =
    let same : y ≡ x = cc in
    subst (λ (z : Endpoint). word z.queue ≡ queue_head_link b) same (leads_now word y b (ap (λ (z : Endpoint). z.linked) same ∙ on) linked.0)
link_at word b (y ∷ xs) (suc e) x here on linked = link_at word (step_to b y) xs e x here on linked.1

pub get_take : (xs : List Endpoint) (e i : ℕ) (y : Endpoint) → slice_get (take e xs) i ≡ Some y → (i < e) × (slice_get xs i ≡ Some y)
get_take xs zero i y here = absurd (cc)
get_take [] (suc e) i y here = absurd (cc)
get_take (x ∷ xs) (suc e) zero y here = (omega arith, here)
get_take (x ∷ xs) (suc e) (suc i) y here = let g = get_take xs e i y here in (omega (arith, g.0), g.1)

-- the endpoint that leaves leads to the head, or to one that stays in the ring
pub last_leaves : (word : ℕ → ℕ) (xs ys : List Endpoint) (e : ℕ) (x : Endpoint) → slice_get xs e ≡ Some x → LeavesOne xs ys e → word x.queue ≡ queue_head_link (newest_from head_block (take e xs)) → Leaves word ys [] e
last_leaves word xs ys e x here one link =
    let q = one.itself x here in
    record {
      endpoint = q.endpoint;
      here = q.here;
      to = newest_from head_block (take e xs);
      link = ap word q.queue ∙ link;
      target = ⊎_elim (λ (h : newest_from head_block (take e xs) ≡ head_block). to_head h)
          (λ (l : LeadsTo (take e xs) (newest_from head_block (take e xs))).
          let g = get_take xs e l.number l.endpoint l.here in
          to_member l.number (record { endpoint = l.endpoint; here = one.others l.number l.endpoint (λ same. omega (arith, same, g.0)) g.1; queue = l.queue }) l.linked)
          (newest_is head_block (take e xs));
    }

-- ---- those that leave are counted

pub among_times : (f : ℕ) (es : List ℕ) → IsAmong f es → 1 ≤ times f es
among_times f [] x = elim x [ ]
among_times f (e ∷ es) (first _) = omega (arith, one_same f)
among_times f (e ∷ es) (later _ _ rest) = omega (arith, among_times f es rest)
