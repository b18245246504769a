-- Which queue heads the walk of the ring may meet stays, whatever a command that is accepted asks for: none comes to the ring by that, and none leaves it yet.
use Rattle.std.proofs.Common.{◌≡◌, ◌≢◌, ℕ, ◌*◌, Bool, List, [], ◌∷◌, ◌++◌, length, set, slice_get, Some, None, ap, sym, subst, ◌∙◌, ⊎_elim, inl, inr, refl}
use Rattle.std.proofs.lemmas.Bool.{cases_eq}
use Rattle.std.proofs.lemmas.Option.{same_Some}
use Rattle.law_common.proofs.Lists.{push_which, push_there, set_here, set_there}
use Rattle.law_world.proofs.Common.{none_some}
use Rattle.drv_table.specs.declared.content.Endpoint.{Endpoint}
use Rattle.drv_table.specs.declared.content.Command.TheVariants as unfinished
use Rattle.drv_table.specs.DriverContent.{DriverContent}
use Rattle.drv_table.specs.Words.{head_block}
use Rattle.law_driver.specs.endpoint_lives.Lives.{may_meet}
use Rattle.law_driver.proofs.lemmas.endpoint_lives.Lives.{met_alike}
use Rattle.law_driver_ring.specs.fed_queues.Places.{IsMet, HasHead, AreMet}
use Rattle.law_driver_ring.proofs.lemmas.fed_queues.Places.{SameLife, same_life, WasLike, SameRing, SameQueues, met_stays}
use Rattle.law_queues.proofs.lemmas.fed_lends.Asked.{set_which}

-- ---- an endpoint more

pub pushed_met : (d f : DriverContent) (new : Endpoint) (member : ℕ → Bool) → d.command ≡ None → f.endpoints ≡ d.endpoints ++ new ∷ [] → f.waiting ≡ d.waiting → f.rung ≡ d.rung
    → ((e : ℕ) (z : Endpoint) → slice_get d.endpoints e ≡ Some z → IsMet d e z → f.command ≢ Some (unfinished.Open z.queue))
    → ((e : ℕ) (z : Endpoint) → slice_get f.endpoints e ≡ Some z → z ≡ new → IsMet f e z → ⊥) → AreMet d member → AreMet f member
pushed_met d f new member idle ends waiting rung apart unmet old = record {
  head = old.head;
  each = λ e z here met.
      ⊎_elim
      (λ (was : slice_get d.endpoints e ≡ Some z).
      old.each e z was (record { there = record { linked = λ is. none_some (unfinished.Open z.queue) (sym idle ∙ is); kept = met.there.kept }; near = sym (near e z) ∙ met.near }))
      (λ (own : (e ≡ length d.endpoints) × (z ≡ new)). absurd (unmet e z here own.1 met))
      (push_which d.endpoints new e z (ap (λ (xs : List Endpoint). slice_get xs e) (sym ends) ∙ here));
  only = λ n on. ⊎_elim (λ (head : n ≡ 32 * head_block). inl head) (λ (h : HasHead d n). inr (head_now n h)) (old.only n on);
}
  where
    near : (e : ℕ) (z : Endpoint) → may_meet f e z ≡ may_meet d e z
    near e z = met_alike d f e z z refl waiting rung

    head_now : (n : ℕ) → HasHead d n → HasHead f n
    head_now n h = record {
      number = h.number;
      endpoint = h.endpoint;
      here = ap (λ (xs : List Endpoint). slice_get xs h.number) ends ∙ push_there d.endpoints new h.number h.endpoint h.here;
      met = record { there = record { linked = apart h.number h.endpoint h.here h.met; kept = h.met.there.kept }; near = near h.number h.endpoint ∙ h.met.near };
      at = h.at;
    }

-- ---- one endpoint is told anew, in its place

pub set_queues : (d f : DriverContent) (e : ℕ) (x z : Endpoint) → slice_get d.endpoints e ≡ Some x → f.endpoints ≡ set d.endpoints e z → SameLife x z → SameRing d f → SameRing f d → SameQueues d f
set_queues d f e x z here ends life ring back = record {
  ring = ring;
  back = back;
  was = λ i y at.
      ⊎_elim
      (λ (own : (i ≡ e) × (y ≡ z)). record { endpoint = x; here = ap (slice_get d.endpoints) own.0 ∙ here; life = subst (λ (v : Endpoint). SameLife x v) (sym own.1) life })
      (λ (other : (i ≢ e) × (slice_get d.endpoints i ≡ Some y)). record { endpoint = y; here = other.1; life = same_life y })
      (set_which d.endpoints e i x z y here (ap (λ (xs : List Endpoint). slice_get xs i) (sym ends) ∙ at));
  is = λ i y at.
      ⊎_elim
      (λ (own : i ≡ e).
      let same : x ≡ y = same_Some x y (sym here ∙ ap (slice_get d.endpoints) (sym own) ∙ at) in
      let own_at : WasLike f i x = record { endpoint = z; here = ap (λ (xs : List Endpoint). slice_get xs i) ends ∙ ap (slice_get (set d.endpoints e z)) own ∙ set_here d.endpoints e x z here; life = record { desc = sym life.desc; queue = sym life.queue; linked = sym life.linked; gone = sym life.gone } } in
      subst (λ (v : Endpoint). WasLike f i v) same own_at)
      (λ (other : i ≢ e). record { endpoint = y; here = ap (λ (xs : List Endpoint). slice_get xs i) ends ∙ set_there d.endpoints e i z other ∙ at; life = same_life y })
      (cases_eq i e);
}

-- no endpoint is being opened before, nor is one by that
pub set_met : (d f : DriverContent) (e : ℕ) (x z : Endpoint) (member : ℕ → Bool) → d.command ≡ None → ((q : ℕ) → f.command ≢ Some (unfinished.Open q)) → slice_get d.endpoints e ≡ Some x
    → f.endpoints ≡ set d.endpoints e z → SameLife x z → f.waiting ≡ d.waiting → f.rung ≡ d.rung → AreMet d member → AreMet f member
set_met d f e x z member idle other here ends life waiting rung old =
    met_stays d f member
    (set_queues d f e x z here ends life
    (record { waiting = waiting; rung = rung; opens = λ q is. absurd (other q is) })
    (record { waiting = sym waiting; rung = sym rung; opens = λ q is. absurd (none_some (unfinished.Open q) (sym idle ∙ is)) })) old
