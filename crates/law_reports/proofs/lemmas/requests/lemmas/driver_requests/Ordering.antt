-- The order of an endpoint's requests where one more is accepted, or a transfer of another endpoint.
use Rattle.std.proofs.Common.{◌≡◌, ◌≢◌, ℕ, suc, ◌+◌, ◌<◌, ◌==◌, Bool, true, false, List, [], ◌∷◌, ◌++◌, length, if◌then◌else◌, ap, sym, ◌∙◌, refl, ⊎_elim, arith}
use Rattle.std.proofs.lemmas.Bool.{cases_eq, eq-eqb}
use Rattle.std.proofs.lemmas.Option.{slice_get_within}
use Rattle.law_common.proofs.Lists.{more_active}
use Rattle.law_reports.proofs.Common.{asked_before}
use Rattle.law_common.proofs.Numbers.{other_number}
use Rattle.drv_table.specs.declared.content.Transfer.{Transfer}
use Rattle.drv_table.specs.DriverContent.{DriverContent}
use Rattle.drv_table.specs.Accepting.{Offered}
use Rattle.drv_table.specs.Offers.{new_transfer}
use Rattle.law_driver.specs.run_owners.Accepts.{Transfers}
use Rattle.word_mem.specs.Memory.{Mem}
use Rattle.usb_base.specs.declared.commands.Cmd.{Cmd}
use Rattle.usb_base.specs.declared.commands.Cmd.TheVariants as commands
use Rattle.usb_base.specs.declared.endpoints.EpName.{EpName}
use Rattle.claims_report.specs.Requests.{Request}
use Rattle.law_devices.specs.ring_requests.Laid.{Places}
use Rattle.law_devices.specs.ring_requests.Windows.{Queue}
use Rattle.law_devices.specs.ring_requests.Runs.{first_of}
use Rattle.law_devices.proofs.lemmas.ring_requests.Runs.{first_same}
use Rattle.law_devices.specs.request_stores.Published.{with_request}
use Rattle.claims_world.specs.Requests.{with_ask, asks_then, numbers_from, numbers_of}
use Rattle.law_reports.specs.requests.world_requests.Recording.{AreInOrder}
use Rattle.law_reports.specs.requests.driver_requests.Requests.{AreOfEndpoint}
use Rattle.law_reports.specs.requests.driver_requests.Rows.{number_with}
use Rattle.law_reports.proofs.lemmas.requests.lemmas.driver_requests.Keeping.{number_new, number_old}

-- ---- the numbers of an endpoint's transfers

cons_by : (b : Bool) (n : ℕ) (ks bs cs : List ℕ) → ks ≡ bs ++ cs → (if b then n ∷ ks else ks) ≡ (if b then n ∷ bs else bs) ++ cs
cons_by true n ks bs cs same = ap (λ (xs : List ℕ). n ∷ xs) same
cons_by false n ks bs cs same = same

one_more : (e n : ℕ) (xs : List Transfer) (y : Transfer) → y.endpoint ≡ e → numbers_from e n (xs ++ y ∷ []) ≡ numbers_from e n xs ++ (n + length xs) ∷ []
one_more e n [] y of =
    let zero_more : n ≡ n + 0 = omega arith in
    ap (λ (b : Bool). if b then n ∷ [] else []) (eq-eqb y.endpoint e of) ∙ ap (λ (k : ℕ). k ∷ []) zero_more
one_more e n (x ∷ xs) y of =
    let more : suc n + length xs ≡ n + suc (length xs) = omega arith in
    cons_by (x.endpoint == e) n (numbers_from e (suc n) (xs ++ y ∷ [])) (numbers_from e (suc n) xs) ((n + suc (length xs)) ∷ [])
    (one_more e (suc n) xs y of ∙ ap (λ (k : ℕ). numbers_from e (suc n) xs ++ k ∷ []) more)

none_more : (e n : ℕ) (xs : List Transfer) (y : Transfer) → y.endpoint ≢ e → numbers_from e n (xs ++ y ∷ []) ≡ numbers_from e n xs
none_more e n [] y other = ap (λ (b : Bool). if b then n ∷ [] else []) (other_number y.endpoint e other)
none_more e n (x ∷ xs) y other = more_active (x.endpoint == e) n (numbers_from e (suc n) (xs ++ y ∷ [])) (numbers_from e (suc n) xs) (none_more e (suc n) xs y other)

-- ---- the requests

ask_new : (asks : ℕ → Request) (t : ℕ) (r : Request) (u : ℕ) → u ≡ t → with_ask asks t r u ≡ r
ask_new asks t r u is = ap (λ (b : Bool). if b then r else asks u) (eq-eqb u t is)

ask_old : (asks : ℕ → Request) (t : ℕ) (r : Request) (u : ℕ) → u ≢ t → with_ask asks t r u ≡ asks u
ask_old asks t r u differs = ap (λ (b : Bool). if b then r else asks u) (other_number u t differs)

pub below_new : (d : DriverContent) (v : Queue) (under n i : ℕ) (number : ℕ → ℕ) → AreOfEndpoint d v under n i number → (k : ℕ) → k < v.count → number k < length d.transfers
below_new d v under n i number are k few = let y = are.transfers k few in slice_get_within d.transfers (number k) y.own y.here

pub numbers_more : (d e : DriverContent) (i : ℕ) (y : Transfer) → e.transfers ≡ d.transfers ++ y ∷ [] → y.endpoint ≡ i → numbers_of e i ≡ numbers_of d i ++ length d.transfers ∷ []
numbers_more d e i y more of =
    let none : 0 + length d.transfers ≡ length d.transfers = omega arith in
    ap (numbers_from i 0) more ∙ one_more i 0 d.transfers y of ∙ ap (λ (k : ℕ). numbers_from i 0 d.transfers ++ k ∷ []) none

pub numbers_still : (d e : DriverContent) (i : ℕ) (y : Transfer) → e.transfers ≡ d.transfers ++ y ∷ [] → y.endpoint ≢ i → numbers_of e i ≡ numbers_of d i
numbers_still d e i y more other = ap (numbers_from i 0) more ∙ none_more i 0 d.transfers y other

pub first_more : (number : ℕ → ℕ) (count t : ℕ) → first_of number count ++ t ∷ [] ≡ first_of (number_with count number t) (suc count)
first_more number count t =
    let now = number_with count number t in
    ap (λ (ks : List ℕ). ks ++ t ∷ []) (first_same number now count (λ k few. sym (number_old count t number k (λ (is : k ≡ count). omega (arith, is, few)))))
    ∙ ap (λ (k : ℕ). first_of now count ++ k ∷ []) (sym (number_new count t number count refl))

pub requests_more : (d : DriverContent) (asks : ℕ → Request) (v : Queue) (under n i : ℕ) (number : ℕ → ℕ) (r : Request) → AreOfEndpoint d v under n i number → ((k : ℕ) → k < v.count → asks (number k) ≡ v.requests k)
    → (k : ℕ) → k < suc v.count → with_ask asks (length d.transfers) r (number_with v.count number (length d.transfers) k) ≡ (if k == v.count then r else v.requests k)
requests_more d asks v under n i number r are asked k few =
    let t = length d.transfers in
    let now = number_with v.count number t in
    ⊎_elim {C = with_ask asks t r (now k) ≡ (if k == v.count then r else v.requests k)}
    (λ (is : k ≡ v.count). ask_new asks t r (now k) (number_new v.count t number k is) ∙ sym (ap (λ (b : Bool). if b then r else v.requests k) (eq-eqb k v.count is)))
    (λ (differs : k ≢ v.count).
    let less : k < v.count = omega (arith, few, differs) in
    let low = below_new d v under n i number are k less in
    ap (with_ask asks t r) (number_old v.count t number k differs) ∙ ask_old asks t r (number k) (λ (same : number k ≡ t). omega (arith, low, same)) ∙ asked k less
    ∙ sym (ap (λ (b : Bool). if b then r else v.requests k) (other_number k v.count differs))) (cases_eq k v.count)

-- a request that is accepted
pub order_grows : (d : DriverContent) (m : Mem) (o : Offered) (why : Transfers d m o) (name : EpName) (setup bytes : List ℕ) (asks : ℕ → Request) (v : Queue) (under n : ℕ) (number : ℕ → ℕ) (x : Places)
    → AreOfEndpoint d v under n why.number number → AreInOrder d asks why.number v number
    → AreInOrder o.driver (asks_then d (commands.Control name setup bytes) asks) why.number (with_request v (record { setup = setup; bytes = bytes }) x) (number_with v.count number (length d.transfers))
order_grows d m o why name setup bytes asks v under n number x are order = record {
  numbers = numbers_more d o.driver why.number (new_transfer why.number why.asked why.endpoint.dummy) (ap (λ (g : Offered). g.driver.transfers) why.is) refl
      ∙ ap (λ (ks : List ℕ). ks ++ length d.transfers ∷ []) order.numbers ∙ first_more number v.count (length d.transfers);
  requests = requests_more d asks v under n why.number number (record { setup = setup; bytes = bytes }) are order.requests;
}

-- .. and whatever is accepted of another endpoint
pub order_stays : (d : DriverContent) (m : Mem) (o : Offered) (why : Transfers d m o) (cmd : Cmd) (asks : ℕ → Request) (v : Queue) (under n i : ℕ) (number : ℕ → ℕ) → i ≢ why.number
    → AreOfEndpoint d v under n i number → AreInOrder d asks i v number → AreInOrder o.driver (asks_then d cmd asks) i v number
order_stays d m o why cmd asks v under n i number other are order = record {
  numbers = numbers_still d o.driver i (new_transfer why.number why.asked why.endpoint.dummy) (ap (λ (g : Offered). g.driver.transfers) why.is) (λ same. other (sym same)) ∙ order.numbers;
  requests = λ j few. asked_before d cmd asks (number j) (below_new d v under n i number are j few) ∙ order.requests j few;
}
