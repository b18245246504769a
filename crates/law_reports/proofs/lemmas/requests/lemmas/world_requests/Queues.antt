-- What an event records for the requests of one queue.
use Rattle.std.proofs.Common.{◌≡◌, ◌≢◌, ℕ, suc, ◌<◌, ◌==◌, Bool, if◌then◌else◌, List, [], ◌++◌, Option, Some, None, ap, refl, sym, subst, ◌∙◌, ⊎_elim, inl, inr, arith}
use Rattle.std.proofs.lemmas.Bool.{cases_eq, eq-eqb}
use Rattle.law_common.proofs.Lists.{none_more}
use Rattle.law_common.proofs.Numbers.{other_number}
use Rattle.bus_wire.specs.declared.asked.Losses.{Losses}
use Rattle.drv_table.specs.DriverContent.{DriverContent}
use Rattle.law_request.specs.Host.{Setup}
use Rattle.law_request.specs.Line.{transacted}
use Rattle.law_devices.specs.ring_requests.Windows.{Queue, Lines, Transaction, Advance, opened, progressed, stage_of}
use Rattle.claims_report.specs.Controls.{is_at}
use Rattle.claims_world.specs.Requests.{setup_at, endpoint_of, acted_between, Windows, opened_by, acts_in, recorded}
use Rattle.law_reports.specs.requests.world_requests.Recording.{IsNoSetup, AreRecorded}
use Rattle.law_reports.proofs.lemmas.requests.lemmas.world_requests.Acting.{transaction_acts}

-- ---- which window is open

beside_opens : (e t : ℕ) (o before : Option ℕ) → (o ≢ Some e) → (if is_at e o then Some t else before) ≡ before
beside_opens e t None before apart = refl
beside_opens e t (Some k) before apart = ap (λ (b : Bool). if b then Some t else before) (other_number e k (λ same. apart (ap (λ (x : ℕ). Some x) (sym same))))

opens_none : (d : DriverContent) (e : ℕ) (o : Option ℕ) (before : ℕ → Option ℕ) → ((t : ℕ) → o ≡ Some t → endpoint_of d t ≢ Some e) → opened_by d o before e ≡ before e
opens_none d e None before none = refl
opens_none d e (Some t) before none = beside_opens e t (endpoint_of d t) (before e) (none t refl)

pub no_setup_opens : (d : DriverContent) (e a : ℕ) (before : ℕ → Option ℕ) → IsNoSetup d e a → opened_by d (setup_at d a) before e ≡ before e
no_setup_opens d e a before none = opens_none d e (setup_at d a) before none

pub setup_opens : (d : DriverContent) (e a t : ℕ) (before : ℕ → Option ℕ) → setup_at d a ≡ Some t → endpoint_of d t ≡ Some e → opened_by d (setup_at d a) before e ≡ Some t
setup_opens d e a t before is of =
    ap (λ (o : Option ℕ). opened_by d o before e) is ∙ ap (λ (o : Option ℕ). if is_at e o then Some t else before e) of ∙ ap (λ (b : Bool). if b then Some t else before e) (eq-eqb e e refl)

-- ---- the acts

quiet_by : (latest : ℕ → Option ℕ) (acted : ℕ → List (List ℕ)) (t : ℕ) (acts : List (List ℕ)) (o : Option ℕ) → ((e : ℕ) → o ≡ Some e → acted e ≡ []) → acts_in latest acted t acts o ≡ acts
quiet_by latest acted t acts None none = refl
quiet_by latest acted t acts (Some e) none = ap (λ (xs : List (List ℕ)). if is_at t (latest e) then xs ++ acts else acts) (none e refl) ∙ none_more (is_at t (latest e)) acts

pub quiet_acts : (d : DriverContent) (begun : Option ℕ) (acted : ℕ → List (List ℕ)) (w : Windows) (t : ℕ) → ((e : ℕ) → endpoint_of d t ≡ Some e → acted e ≡ []) → (recorded d begun acted w).acts t ≡ w.acts t
quiet_acts d begun acted w t none = quiet_by (opened_by d begun w.opened) acted t (w.acts t) (endpoint_of d t) none

pub open_acts : (d : DriverContent) (acted : ℕ → List (List ℕ)) (w : Windows) (t e : ℕ) → endpoint_of d t ≡ Some e → w.opened e ≡ Some t → (recorded d None acted w).acts t ≡ acted e ++ w.acts t
open_acts d acted w t e of is =
    ap (acts_in (opened_by d None w.opened) acted t (w.acts t)) of ∙ ap (λ (o : Option ℕ). if is_at t o then acted e ++ w.acts t else w.acts t) is
    ∙ ap (λ (b : Bool). if b then acted e ++ w.acts t else w.acts t) (eq-eqb t t refl)

module _ (d : DriverContent) (v : Queue) (e : ℕ) (number : ℕ → ℕ) (latest : ℕ → Option ℕ) (acted : ℕ → List (List ℕ)) (acts : ℕ → List (List ℕ)) (are : (i : ℕ) → i < v.count → endpoint_of d (number i) ≡ Some e) where
  abbrev now : ℕ → List (List ℕ)
  now t = acts_in latest acted t (acts t) (endpoint_of d t)

  now_is : (i : ℕ) → i < v.count → acts_in latest acted (number i) (acts (number i)) (endpoint_of d (number i)) ≡ (if is_at (number i) (latest e) then acted e ++ acts (number i) else acts (number i))
  now_is i few = ap (acts_in latest acted (number i) (acts (number i))) (are i few)

  quiet : acted e ≡ [] → (i : ℕ) → i < v.count → acts_in latest acted (number i) (acts (number i)) (endpoint_of d (number i)) ≡ acts (number i)
  quiet none i few =
      now_is i few ∙ ap (λ (xs : List (List ℕ)). if is_at (number i) (latest e) then xs ++ acts (number i) else acts (number i)) none ∙ none_more (is_at (number i) (latest e)) (acts (number i))

  -- nothing of this queue happens
  pub recorded_stays : (before : Option ℕ) (l : Lines) → l.under < v.count → latest e ≡ before → acted e ≡ [] → AreRecorded v number before acts l
      → AreRecorded v number (latest e) (λ t. acts_in latest acted t (acts t) (endpoint_of d t)) l
  recorded_stays before l within same none k = record {
    begun = λ i upto. quiet none i (omega (arith, within, upto)) ∙ k.begun i upto;
    behind = λ i after few. quiet none i few ∙ k.behind i after few;
    is_open = ⊎_elim (λ (is : before ≡ Some (number l.under)). inl (same ∙ is)) (λ (is : stage_of l ≡ Setup). inr is) k.is_open;
  }

  -- the queue head goes on to the next request
  pub recorded_advances : (before : Option ℕ) (l : Lines) → suc l.under < v.count → latest e ≡ before → acted e ≡ [] → AreRecorded v number before acts l
      → AreRecorded v number (latest e) (λ t. acts_in latest acted t (acts t) (endpoint_of d t)) (progressed v Advance l)
  recorded_advances before l within same none k = record {
    begun = λ i upto.
        ⊎_elim {C = acts_in latest acted (number i) (acts (number i)) (endpoint_of d (number i)) ≡ ((progressed v Advance l).line i).acts}
        (λ (is : i ≡ suc l.under).
        quiet none i (omega (arith, within, upto)) ∙ k.behind i (omega (arith, is)) (omega (arith, within, upto))
        ∙ sym (ap (λ (b : Bool). (if b then opened v i (l.line l.under) else l.line i).acts) (eq-eqb i (suc l.under) is)))
        (λ (differs : i ≢ suc l.under).
        quiet none i (omega (arith, within, upto)) ∙ k.begun i (omega (arith, upto, differs))
        ∙ sym (ap (λ (b : Bool). (if b then opened v i (l.line l.under) else l.line i).acts) (other_number i (suc l.under) differs))) (cases_eq i (suc l.under));
    behind = λ i after few. quiet none i few ∙ k.behind i (omega (arith, after)) few;
    is_open = inr (ap (λ (b : Bool). (if b then opened v (suc l.under) (l.line l.under) else l.line (suc l.under)).host.stage) (eq-eqb (suc l.under) (suc l.under) refl));
  }

  -- a transaction of the request under way, whose window is open
  module _ (losses : Losses) (before : Option ℕ) (l : Lines) (within : l.under < v.count) (own : (i k : ℕ) → i < v.count → k < v.count → number i ≡ number k → i ≡ k) (open_now : latest e ≡ Some (number l.under)) (acted_is : acted e ≡ acted_between (l.line l.under).device (transacted v.endpoint (v.requests l.under) losses (l.line l.under)).device) (k : AreRecorded v number before acts l) where
    is_now : (i : ℕ) → i < v.count → acts_in latest acted (number i) (acts (number i)) (endpoint_of d (number i)) ≡ (if number i == number l.under then acted e ++ acts (number i) else acts (number i))
    is_now i few = now_is i few ∙ ap (λ (o : Option ℕ). if is_at (number i) o then acted e ++ acts (number i) else acts (number i)) open_now

    beside : (i : ℕ) → i < v.count → i ≢ l.under → acts_in latest acted (number i) (acts (number i)) (endpoint_of d (number i)) ≡ acts (number i)
    beside i few differs =
        is_now i few ∙ ap (λ (b : Bool). if b then acted e ++ acts (number i) else acts (number i)) (other_number (number i) (number l.under) (λ same. differs (own i l.under few within same)))

    here : acts_in latest acted (number l.under) (acts (number l.under)) (endpoint_of d (number l.under)) ≡ ((progressed v (Transaction losses) l).line l.under).acts
    here =
        is_now l.under within ∙ ap (λ (b : Bool). if b then acted e ++ acts (number l.under) else acts (number l.under)) (eq-eqb (number l.under) (number l.under) refl)
        ∙ ap (λ (xs : List (List ℕ)). xs ++ acts (number l.under)) acted_is
        ∙ ap (λ (xs : List (List ℕ)). acted_between (l.line l.under).device (transacted v.endpoint (v.requests l.under) losses (l.line l.under)).device ++ xs) (k.begun l.under (omega arith))
        ∙ transaction_acts v.endpoint (v.requests l.under) losses (l.line l.under)
        ∙ sym (ap (λ (b : Bool). (if b then transacted v.endpoint (v.requests l.under) losses (l.line l.under) else l.line l.under).acts) (eq-eqb l.under l.under refl))

    pub recorded_transaction : AreRecorded v number (latest e) (λ t. acts_in latest acted t (acts t) (endpoint_of d t)) (progressed v (Transaction losses) l)
    recorded_transaction = record {
      begun = λ i upto.
          ⊎_elim {C = acts_in latest acted (number i) (acts (number i)) (endpoint_of d (number i)) ≡ ((progressed v (Transaction losses) l).line i).acts}
          (λ (is : i ≡ l.under).
          subst (λ (j : ℕ). acts_in latest acted (number j) (acts (number j)) (endpoint_of d (number j)) ≡ ((progressed v (Transaction losses) l).line j).acts) (sym is) here)
          (λ (differs : i ≢ l.under).
          beside i (omega (arith, within, upto)) differs ∙ k.begun i upto
          ∙ sym (ap (λ (b : Bool). (if b then transacted v.endpoint (v.requests i) losses (l.line i) else l.line i).acts) (other_number i l.under differs))) (cases_eq i l.under);
      behind = λ i after few. beside i few (λ is. omega (arith, after, is)) ∙ k.behind i after few;
      is_open = inl open_now;
    }
