-- A transfer that is accepted leaves the requests that there are, and a request comes behind those of its endpoint.
use Rattle.std.proofs.Common.{◌≡◌, ◌≢◌, ℕ, ◌-◌, ◌||◌, Bool, false, List, [], ◌∷◌, length, take, drop, set, get_or, slice_get, Some, None, option_map, ap, sym, subst, ◌∙◌, refl, ⊎_elim}
use Rattle.std.proofs.lemmas.Bool.{cases_eq}
use Rattle.std.proofs.lemmas.Option.{same_Some, slice_get_within}
use Rattle.law_common.proofs.Lists.{pushed_last, still_there, set_here, set_there, drop_first}
use Rattle.word_mem.specs.Memory.{Mem}
use Rattle.mem_runs.specs.Book.{holding, slot_of, Stands}
use Rattle.drv_table.specs.declared.content.QtdNote.{QtdNote}
use Rattle.drv_table.specs.declared.content.Stage.{Stage}
use Rattle.drv_table.specs.declared.content.Endpoint.{Endpoint as DriverEndpoint}
use Rattle.drv_table.specs.declared.content.Transfer.{Transfer}
use Rattle.drv_table.specs.declared.content.Sort.TheVariants as sorts
use Rattle.drv_table.specs.DriverContent.{DriverContent}
use Rattle.drv_table.specs.Words.{needs, request_stages}
use Rattle.drv_table.specs.Accepting.{Offered, new_runs}
use Rattle.drv_table.specs.Offers.{note_stages, with_queued, new_transfer, accepted_transfer}
use Rattle.law_driver.specs.run_owners.Accepts.{Transfers}
use Rattle.claims_driver.specs.Leaving.{HasOwners}
use Rattle.claims_driver.specs.Owners.{Dummy, Element, IsPlaced, note_in, runs_of_endpoint, runs_of_transfer, views_of, IsPieceOf}
use Rattle.law_driver.proofs.lemmas.run_owners.Runs.{placed_run}
use Rattle.law_driver.proofs.lemmas.run_owners.Taking.{runs_taken}
use Rattle.law_driver.proofs.lemmas.run_owners.Chains.{notes_apart}
use Rattle.law_driver.proofs.lemmas.run_owners.Transferred.{are_new, goes_on_alive}
use Rattle.claims_report.specs.Requests.{Request}
use Rattle.law_devices.specs.ring_requests.Windows.{Queue}
use Rattle.law_devices.specs.request_stores.Published.{with_request}
use Rattle.law_reports.specs.requests.request_bytes.Fresh.{next_of, request_places}
use Rattle.law_reports.specs.requests.driver_requests.Requests.{IsOfTransfer, IsLaidOut, AreOfEndpoint}
use Rattle.law_reports.specs.requests.driver_requests.Rows.{EndpointStays, TransferStays, KeepsRequests, number_with}
use Rattle.law_reports.proofs.lemmas.requests.lemmas.driver_requests.Keeping.{requests_stay, request_comes}
use Rattle.law_reports.proofs.lemmas.requests.lemmas.driver_requests.Owning.{piece_placed}

-- ---- one more of a list

none_some : (t : ℕ) → None ≢ Some t
none_some t same = cc

module _ (d : DriverContent) (m : Mem) (o : Offered) (why : Transfers d m o) (has : HasOwners d) (stands : Stands (holding d.book m)) where
  abbrev x : DriverEndpoint
  x = why.endpoint

  abbrev ss : List Stage
  ss = why.asked.stages

  abbrev notes_by : List ℕ → List QtdNote
  notes_by rs = note_stages d.notes ss why.endpoint.dummy (take (length ss) rs) (drop (length ss) rs)

  abbrev given : Offered
  given =
      accepted_transfer d why.number why.endpoint why.asked why.holding_after (get_or (take (length ss) (new_runs d why.holding_after)) (length ss - 1) 0) (notes_by (new_runs d why.holding_after))

  pub endpoint_stays : (i : ℕ) (z : DriverEndpoint) → slice_get d.endpoints i ≡ Some z → EndpointStays given.driver i z
  endpoint_stays i z here =
      let y = with_queued why.endpoint (get_or (take (length ss) (new_runs d why.holding_after)) (length ss - 1) 0) (length d.transfers) in
      ⊎_elim {C = EndpointStays given.driver i z}
      (λ (same : i ≡ why.number).
      let is : why.endpoint ≡ z = same_Some why.endpoint z (sym why.here ∙ ap (slice_get d.endpoints) (sym same) ∙ here) in
      record {
        own = y;
        here = ap (slice_get (set d.endpoints why.number y)) same ∙ set_here d.endpoints why.number why.endpoint y why.here;
        desc = ap (λ (w : DriverEndpoint). w.desc) is;
        queue = ap (λ (w : DriverEndpoint). w.queue) is;
        gone = ap (λ (w : DriverEndpoint). w.gone) is;
      })
      (λ (differs : i ≢ why.number). record { own = z; here = set_there d.endpoints why.number i y differs ∙ here; desc = refl; queue = refl; gone = refl })
      (cases_eq i why.number)

  transfer_stays : (t : ℕ) (y : Transfer) → slice_get d.transfers t ≡ Some y → TransferStays None given.driver t y
  transfer_stays t y here = record {
    own = y;
    here = still_there d.transfers (new_transfer why.number why.asked why.endpoint.dummy ∷ []) t y here;
    endpoint = refl;
    sort = refl;
    first = refl;
    qtds = refl;
    held = λ other. refl;
  }

  -- the inactive qTD at the end of the endpoint's queue, which is the first of the new one
  dummy_placed : IsPlaced (slot_of d.book.slots) has.owner why.endpoint.dummy (Dummy why.number)
  dummy_placed =
      let alive = goes_on_alive why.endpoint why.goes_on (has.orderly.steady why.number why.endpoint why.here) in
      has.owned.each.dummy why.number (runs_of_endpoint why.endpoint) (ap (option_map runs_of_endpoint) why.here) (ap (λ (k : Bool). k || why.endpoint.gone) why.queued ∙ alive)

  notes_stay : (t b : ℕ) (y : Transfer) → slice_get d.transfers t ≡ Some y → y.released ≡ false → IsPieceOf (note_in d.notes) y.first y.qtds b → next_of given.driver.notes b ≡ next_of d.notes b
  notes_stay t b y here held piece =
      let all = runs_taken (holding d.book m) why.holding_after (needs ss) stands why.runs in
      let bs = all.blocks in
      let n = length ss in
      let v = views_of d in
      let new : new_runs d why.holding_after ≡ bs = ap (drop (length d.book.taken)) all.are.taken ∙ drop_first d.book.taken bs in
      let are = are_new ss has.owner why.endpoint.dummy why.number (length d.transfers) why.some all.are dummy_placed in
      let p = piece_placed v.slot has.owner v.note t y.first y.qtds b (has.owned.each.pieces t (runs_of_transfer y) (ap (option_map runs_of_transfer) here) held) piece in
      let differs : b ≢ why.endpoint.dummy = λ same. (let clash : Element t ≡ Dummy why.number = sym p.owned ∙ ap has.owner same ∙ dummy_placed.owned in absurd (cc)) in
      subst (λ (rs : List ℕ). next_of (notes_by rs) b ≡ next_of d.notes b) (sym new)
      (ap (λ (k : QtdNote). k.next) (notes_apart d.notes ss why.endpoint.dummy (take n bs) (drop n bs) b (are.apart b (placed_run b (Element t) p) differs)))

  keeps : (i : ℕ) → KeepsRequests None d o.driver i
  keeps i =
      subst (λ (g : Offered). KeepsRequests None d g.driver i) (sym why.is)
      (record { endpoint = endpoint_stays i; transfers = λ t y here at. transfer_stays t y here; notes = λ t b y here at held piece. notes_stay t b y here held piece })

  stay : (v : Queue) (under n i : ℕ) (number : ℕ → ℕ) → AreOfEndpoint d v under n i number → AreOfEndpoint o.driver v under n i number
  stay v under n i number are = requests_stay None d o.driver v under n i number (keeps i) (λ k after few. none_some (number k)) are

  new_of : why.asked.sort ≡ sorts.Request → IsOfTransfer o.driver why.number (length d.transfers)
  new_of sort =
      subst (λ (g : Offered). IsOfTransfer g.driver why.number (length d.transfers)) (sym why.is) (record {
        own = new_transfer why.number why.asked why.endpoint.dummy;
        here = pushed_last d.transfers (new_transfer why.number why.asked why.endpoint.dummy);
        endpoint = refl;
        sort = sort;
      })

  new_laid : (r : Request) → why.asked.stages ≡ request_stages r.setup → IsLaidOut o.driver (length d.transfers) r (request_places o.driver.notes why.endpoint.dummy r)
  new_laid r stages =
      subst (λ (g : Offered). IsLaidOut g.driver (length d.transfers) r (request_places g.driver.notes why.endpoint.dummy r)) (sym why.is) (record {
        own = new_transfer why.number why.asked why.endpoint.dummy;
        here = pushed_last d.transfers (new_transfer why.number why.asked why.endpoint.dummy);
        held = refl;
        qtds = ap (λ (ks : List Stage). length ks) stages;
        places = refl;
      })

  comes : (r : Request) (v : Queue) (under n : ℕ) (number : ℕ → ℕ) → why.asked.sort ≡ sorts.Request → why.asked.stages ≡ request_stages r.setup → AreOfEndpoint d v under n why.number number
      → AreOfEndpoint o.driver (with_request v r (request_places o.driver.notes why.endpoint.dummy r)) under n why.number (number_with v.count number (length d.transfers))
  comes r v under n number sort stages are =
      request_comes o.driver v under n why.number (length d.transfers) number r (request_places o.driver.notes why.endpoint.dummy r) (stay v under n why.number number are) (new_of sort) (new_laid r stages)
      (λ k few. let y = are.transfers k few in slice_get_within d.transfers (number k) y.own y.here)

pub accepted_requests_stay : (d : DriverContent) (m : Mem) (o : Offered) (v : Queue) (under n i : ℕ) (number : ℕ → ℕ) → Transfers d m o → HasOwners d → Stands (holding d.book m) → AreOfEndpoint d v under n i number
    → AreOfEndpoint o.driver v under n i number
accepted_requests_stay d m o v under n i number why has stands are = stay d m o why has stands v under n i number are

pub accepted_request_comes : (d : DriverContent) (m : Mem) (o : Offered) (why : Transfers d m o) (r : Request) (v : Queue) (under n : ℕ) (number : ℕ → ℕ) → why.asked.sort ≡ sorts.Request
    → why.asked.stages ≡ request_stages r.setup → HasOwners d → Stands (holding d.book m) → AreOfEndpoint d v under n why.number number
    → AreOfEndpoint o.driver (with_request v r (request_places o.driver.notes why.endpoint.dummy r)) under n why.number (number_with v.count number (length d.transfers))
accepted_request_comes d m o why r v under n number sort stages has stands are =
    comes d m o why has stands r v under n number sort stages are
