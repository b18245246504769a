-- What a row of the driver, a step of the walk, one more request and the end of the first leave of an endpoint's requests.
use Rattle.std.proofs.Common.{◌≡◌, ◌≢◌, ℕ, suc, ◌*◌, ◌<◌, ◌≤◌, ◌==◌, Bool, true, false, List, Option, Some, if◌then◌else◌, ap, sym, subst, ◌∙◌, ⊎_elim, arith}
use Rattle.std.proofs.lemmas.Bool.{cases_eq, eq-eqb}
use Rattle.std.proofs.lemmas.Option.{same_Some}
use Rattle.law_reports.proofs.Common.{under_rises}
use Rattle.law_common.proofs.Numbers.{other_number}
use Rattle.usb_base.specs.declared.endpoints.EpDesc.{EpDesc}
use Rattle.drv_table.specs.declared.content.QtdNote.{QtdNote}
use Rattle.drv_table.specs.declared.content.Transfer.{Transfer}
use Rattle.drv_table.specs.DriverContent.{DriverContent}
use Rattle.claims_driver.specs.Owners.{note_in, IsPieceOf}
use Rattle.claims_report.specs.Requests.{Request}
use Rattle.law_devices.specs.ring_requests.Laid.{Places}
use Rattle.law_devices.specs.ring_requests.Windows.{Queue, Lines, Step, stepped}
use Rattle.law_devices.specs.request_stores.Published.{with_request, without_first}
use Rattle.law_reports.specs.requests.request_bytes.Fresh.{data_places, other_places, next_of, request_places}
use Rattle.law_reports.specs.requests.driver_requests.Requests.{IsOfEndpoint, IsOfTransfer, IsLaidOut, AreOfEndpoint, AreOfDriver}
use Rattle.law_reports.specs.requests.driver_requests.Rows.{KeepsRequests, number_with}
use Rattle.law_reports.proofs.lemmas.requests.lemmas.driver_requests.Owning.{qtds_case, first_piece, second_piece, third_piece}

-- ---- places

abbrev places_by : Bool → List QtdNote → ℕ → Places
places_by g notes b =
    if g then data_places b (next_of notes b) (next_of notes (next_of notes b)) (next_of notes (next_of notes (next_of notes b))) else other_places b (next_of notes b) (next_of notes (next_of notes b))

-- of each qTD that the request has the next one is the same
with_data_same : (old new : List QtdNote) (b : ℕ) → next_of new b ≡ next_of old b → next_of new (next_of old b) ≡ next_of old (next_of old b)
    → next_of new (next_of old (next_of old b)) ≡ next_of old (next_of old (next_of old b)) → places_by true new b ≡ places_by true old b
with_data_same old new b one two three =
    let second : next_of new (next_of new b) ≡ next_of old (next_of old b) = ap (next_of new) one ∙ two in
    let third : next_of new (next_of new (next_of new b)) ≡ next_of old (next_of old (next_of old b)) = ap (next_of new) second ∙ three in
    ap (λ (i : ℕ). data_places b i (next_of new (next_of new b)) (next_of new (next_of new (next_of new b)))) one
    ∙ ap (λ (i : ℕ). data_places b (next_of old b) i (next_of new (next_of new (next_of new b)))) second
    ∙ ap (λ (i : ℕ). data_places b (next_of old b) (next_of old (next_of old b)) i) third

without_data_same : (old new : List QtdNote) (b : ℕ) → next_of new b ≡ next_of old b → next_of new (next_of old b) ≡ next_of old (next_of old b) → places_by false new b ≡ places_by false old b
without_data_same old new b one two =
    ap (λ (i : ℕ). other_places b i (next_of new (next_of new b))) one ∙ ap (λ (i : ℕ). other_places b (next_of old b) i) (ap (next_of new) one ∙ two)

places_same : (d : DriverContent) (new : List QtdNote) (t : ℕ) (r : Request) (x : Places) → (k : IsLaidOut d t r x)
    → ((b : ℕ) → IsPieceOf (note_in d.notes) k.own.first k.own.qtds b → next_of new b ≡ next_of d.notes b) → request_places new k.own.first r ≡ request_places d.notes k.own.first r
places_same d new t r x k same =
    let b = k.own.first in
    let n = k.own.qtds in
    let note = note_in d.notes in
    let old = d.notes in
    ⊎_elim {C = request_places new b r ≡ request_places old b r}
    (λ none.
    let two : 2 ≤ n = let q = k.qtds in let m = none.1 in omega (arith, q, m) in
    ap (λ (g : Bool). places_by g new b) none.0
    ∙ without_data_same old new b (same b (first_piece note b n (omega (arith, two)))) (same (next_of old b) (second_piece note b n two)) ∙ sym (ap (λ (g : Bool). places_by g old b) none.0))
    (λ some.
    let three : 3 ≤ n = let q = k.qtds in let m = some.1 in omega (arith, q, m) in
    ap (λ (g : Bool). places_by g new b) some.0
    ∙ with_data_same old new b (same b (first_piece note b n (omega (arith, three)))) (same (next_of old b) (second_piece note b n (omega (arith, three)))) (same (next_of old (next_of old b)) (third_piece note b n three))
    ∙ sym (ap (λ (g : Bool). places_by g old b) some.0)) (qtds_case r)

-- ---- a row of the driver

module _ (given : Option ℕ) (d e : DriverContent) (v : Queue) (under n i : ℕ) (number : ℕ → ℕ) (keeps : KeepsRequests given d e i) (others : (k : ℕ) → under ≤ k → k < v.count → given ≢ Some (number k)) (are : AreOfEndpoint d v under n i number) where
  endpoint_now : IsOfEndpoint e v.endpoint n i
  endpoint_now =
      let k = are.endpoint in
      let s = keeps.endpoint k.own k.here in
      record {
        own = s.own;
        here = s.here;
        control = ap (λ (z : EpDesc). z.kind) s.desc ∙ k.control;
        queue = k.queue ∙ sym (ap (λ (b : ℕ). 32 * b) s.queue);
        held = s.gone ∙ k.held;
        address = ap (λ (z : EpDesc). z.name.addr) s.desc ∙ k.address;
        number = ap (λ (z : EpDesc). z.name.num) s.desc ∙ k.number;
      }

  transfer_now : (k : ℕ) → k < v.count → IsOfTransfer e i (number k)
  transfer_now k few =
      let y = are.transfers k few in
      let s = keeps.transfers (number k) y.own y.here y.endpoint in
      record { own = s.own; here = s.here; endpoint = s.endpoint ∙ y.endpoint; sort = s.sort ∙ y.sort }

  laid_now : (k : ℕ) → under ≤ k → k < v.count → IsLaidOut e (number k) (v.requests k) (v.places k)
  laid_now k after few =
      let y = are.transfers k few in
      let z = are.laid k after few in
      let same : y.own ≡ z.own = same_Some y.own z.own (sym y.here ∙ z.here) in
      let at : z.own.endpoint ≡ i = sym (ap (λ (w : Transfer). w.endpoint) same) ∙ y.endpoint in
      let s = keeps.transfers (number k) z.own z.here at in
      record {
        own = s.own;
        here = s.here;
        held = s.held (others k after few) ∙ z.held;
        qtds = s.qtds ∙ z.qtds;
        places = z.places ∙ sym (places_same d e.notes (number k) (v.requests k) (v.places k) z (λ b piece. keeps.notes (number k) b z.own z.here at z.held piece))
            ∙ sym (ap (λ (b : ℕ). request_places e.notes b (v.requests k)) s.first);
      }

pub requests_stay : (given : Option ℕ) (d e : DriverContent) (v : Queue) (under n i : ℕ) (number : ℕ → ℕ) → KeepsRequests given d e i → ((k : ℕ) → under ≤ k → k < v.count → given ≢ Some (number k))
    → AreOfEndpoint d v under n i number → AreOfEndpoint e v under n i number
requests_stay given d e v under n i number keeps others are = record {
  endpoint = endpoint_now given d e v under n i number keeps others are;
  transfers = transfer_now given d e v under n i number keeps others are;
  rising = are.rising;
  laid = laid_now given d e v under n i number keeps others are;
}

-- ---- a step of the walk

later_requests : (d : DriverContent) (v : Queue) (under later n i : ℕ) (number : ℕ → ℕ) → under ≤ later → AreOfEndpoint d v under n i number → AreOfEndpoint d v later n i number
later_requests d v under later n i number rises are =
    record { endpoint = are.endpoint; transfers = are.transfers; rising = are.rising; laid = λ k after few. are.laid k (omega (arith, rises, after)) few }

pub requests_go_on : (d : DriverContent) (windows : ℕ → Bool) (sent : ℕ → Queue) (lines : ℕ → Lines) (step : Option Step) (endpoint : ℕ → ℕ) (number : ℕ → ℕ → ℕ) → AreOfDriver d windows sent lines endpoint number
    → AreOfDriver d windows sent (stepped sent step lines) endpoint number
requests_go_on d windows sent lines step endpoint number are n on =
    later_requests d (sent n) (lines n).under (stepped sent step lines n).under n (endpoint n) (number n) (under_rises sent step lines n) (are n on)

-- ---- one more request

pub number_new : (count t : ℕ) (number : ℕ → ℕ) (k : ℕ) → k ≡ count → number_with count number t k ≡ t
number_new count t number k is = ap (λ (b : Bool). if b then t else number k) (eq-eqb k count is)

pub number_old : (count t : ℕ) (number : ℕ → ℕ) (k : ℕ) → k ≢ count → number_with count number t k ≡ number k
number_old count t number k differs = ap (λ (b : Bool). if b then t else number k) (other_number k count differs)

module _ (d : DriverContent) (v : Queue) (under n i t : ℕ) (number : ℕ → ℕ) (r : Request) (x : Places) (are : AreOfEndpoint d v under n i number) (of : IsOfTransfer d i t) (new : IsLaidOut d t r x) (below : (k : ℕ) → k < v.count → number k < t) where
  transfers_with : (k : ℕ) → k < suc v.count → IsOfTransfer d i (number_with v.count number t k)
  transfers_with k few =
      ⊎_elim {C = IsOfTransfer d i (number_with v.count number t k)} (λ (is : k ≡ v.count). subst (IsOfTransfer d i) (sym (number_new v.count t number k is)) of)
      (λ (differs : k ≢ v.count). subst (IsOfTransfer d i) (sym (number_old v.count t number k differs)) (are.transfers k (omega (arith, few, differs)))) (cases_eq k v.count)

  rising_with : (j k : ℕ) → j < k → k < suc v.count → number_with v.count number t j < number_with v.count number t k
  rising_with j k less few =
      let old : number_with v.count number t j ≡ number j = number_old v.count t number j (λ (is : j ≡ v.count). omega (arith, is, less, few)) in
      ⊎_elim {C = number_with v.count number t j < number_with v.count number t k}
      (λ (is : k ≡ v.count).
      let last = number_new v.count t number k is in
      let low = below j (omega (arith, is, less)) in
      omega (arith, old, last, low))
      (λ (differs : k ≢ v.count).
      let other = number_old v.count t number k differs in
      let low = are.rising j k less (omega (arith, few, differs)) in
      omega (arith, old, other, low)) (cases_eq k v.count)

  laid_with : (k : ℕ) → under ≤ k → k < suc v.count → IsLaidOut d (number_with v.count number t k) (if k == v.count then r else v.requests k) (if k == v.count then x else v.places k)
  laid_with k after few =
      ⊎_elim {C = IsLaidOut d (number_with v.count number t k) (if k == v.count then r else v.requests k) (if k == v.count then x else v.places k)}
      (λ (is : k ≡ v.count).
      subst (λ (b : Bool). IsLaidOut d (if b then t else number k) (if b then r else v.requests k) (if b then x else v.places k)) (sym (eq-eqb k v.count is)) new)
      (λ (differs : k ≢ v.count).
      subst (λ (b : Bool). IsLaidOut d (if b then t else number k) (if b then r else v.requests k) (if b then x else v.places k)) (sym (other_number k v.count differs))
      (are.laid k after (omega (arith, few, differs)))) (cases_eq k v.count)

pub request_comes : (d : DriverContent) (v : Queue) (under n i t : ℕ) (number : ℕ → ℕ) (r : Request) (x : Places) → AreOfEndpoint d v under n i number → IsOfTransfer d i t → IsLaidOut d t r x
    → ((k : ℕ) → k < v.count → number k < t) → AreOfEndpoint d (with_request v r x) under n i (number_with v.count number t)
request_comes d v under n i t number r x are of new below = record {
  endpoint = are.endpoint;
  transfers = transfers_with d v under n i t number r x are of new below;
  rising = rising_with d v under n i t number r x are of new below;
  laid = laid_with d v under n i t number r x are of new below;
}

-- ---- the first goes

pub request_ends : (d : DriverContent) (v : Queue) (under n i : ℕ) (number : ℕ → ℕ) → AreOfEndpoint d v (suc under) n i number → AreOfEndpoint d (without_first v) under n i (λ k. number (suc k))
request_ends d v under n i number are = record {
  endpoint = are.endpoint;
  transfers = λ k few. are.transfers (suc k) (omega (arith, few));
  rising = λ j k less few. are.rising (suc j) (suc k) (omega (arith, less)) (omega (arith, few));
  laid = λ k after few. are.laid (suc k) (omega (arith, after)) (omega (arith, few));
}
