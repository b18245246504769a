use Rattle.std.proofs.Common.{◌≡◌, ℕ, zero, suc, [], ◌∷◌, get_or, slice_get, drop, List, Some, true, false, ap, sym, ◌∙◌, refl, arith}
use Rattle.std.proofs.lemmas.Bool.{false≢true}
use Rattle.std.proofs.lemmas.Option.{same_Some}
use Rattle.drv_table.specs.declared.content.Endpoint.{Endpoint}
use Rattle.drv_table.specs.Offers.{new_endpoint}
use Rattle.law_driver.specs.run_owners.Worked.{bulk}
use Rattle.claims_driver.specs.Ring.{IsAmong, first, later}
use Rattle.claims_driver.specs.Walk.{IsReached, at_head, at_member, at_waiting, at_rung}
use Rattle.law_world.specs.steps.controlled_walks.Worked.{ringing_endpoints, ringing_driver}
use Rattle.law_world.proofs.steps.controlled_walks.worked.an_answered_doorbell.Goals as goal

pub returns-clause-walk : goal.returns-clause-walk
returns-clause-walk c = record { start = refl; cursor = record { block = 128; is = refl; reached = at_head refl }; copy = λ h there. absurd (cc) }

pub returns-clause-bell : goal.returns-clause-bell
returns-clause-bell c = record { quiet = λ is. absurd (cc); answered = λ on. refl; heard = λ is. refl }

pub returns-clause-waiting : goal.returns-clause-waiting
returns-clause-waiting c = at_waiting 1 (record { endpoint = get_or ringing_endpoints 1 (new_endpoint bulk 140 142); here = refl; queue = refl }) (first [])

-- ---- the queue head in block 150

in_ring : (e : ℕ) (x : Endpoint) → slice_get ringing_endpoints e ≡ Some x → x.queue ≡ 150 → x.linked ≡ true → ⊥
in_ring zero x here queue on = let is = ap (λ (z : Endpoint). z.queue) (same_Some _ x here) ∙ queue in omega (arith, is)
in_ring (suc (suc (suc e))) x here queue on = cc
in_ring _ x here queue on = false≢true (ap (λ (z : Endpoint). z.linked) (same_Some _ x here) ∙ on)

one_waits : (e : ℕ) (es : List ℕ) → es ≡ 1 ∷ [] → IsAmong e es → e ≡ 1
one_waits e _ is (first es) = ap (λ (fs : List ℕ). get_or fs 0 0) is
one_waits e _ is (later f es among) = absurd (none e es (ap (λ (fs : List ℕ). drop 1 fs) is) among)
  where
    none : (e : ℕ) (es : List ℕ) → es ≡ [] → IsAmong e es → ⊥
    none e _ empty (first es) = cc
    none e _ empty (later f es among) = cc

one_queue : (x : Endpoint) → slice_get ringing_endpoints 1 ≡ Some x → x.queue ≡ 150 → ⊥
one_queue x here queue = let is = ap (λ (z : Endpoint). z.queue) (same_Some _ x here) ∙ queue in omega (arith, is)

gone : IsReached ringing_driver false 150 → ⊥
gone (at_head h) = omega (arith, h)
gone (at_member e at on) = in_ring e at.endpoint at.here at.queue on
gone (at_waiting e at among) = one_queue at.endpoint (sym (ap (slice_get ringing_endpoints) (one_waits e (1 ∷ []) refl among)) ∙ at.here) at.queue
gone (at_rung e at among on) = false≢true on

pub returns-clause-rung : goal.returns-clause-rung
returns-clause-rung c = gone
