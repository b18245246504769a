-- The order of an endpoint's requests behind earlier ones.
use Rattle.std.proofs.Common.{◌≡◌, ◌≢◌, ℕ, suc, ◌-◌, ◌<◌, Bool, true, false, List, [], ◌∷◌, ◌++◌, length, map, Option, if◌then◌else◌, ap, sym, ◌∙◌, refl, arith}
use Rattle.std.specs.Prelude.{nat_le}
use Rattle.std.proofs.lemmas.Bool.{leb-true, leb-false}
use Rattle.std.proofs.lemmas.List.{map-append}
use Rattle.law_reports.proofs.Common.{less_one, mapped, asked_before}
use Rattle.usb_base.specs.declared.commands.Cmd.{Cmd}
use Rattle.usb_base.specs.declared.commands.Cmd.TheVariants as commands
use Rattle.usb_base.specs.declared.endpoints.EpName.{EpName}
use Rattle.word_mem.specs.Memory.{Mem}
use Rattle.drv_table.specs.declared.rows.DriverRow.{DriverRow}
use Rattle.drv_table.specs.DriverContent.{DriverContent}
use Rattle.drv_table.specs.Accepting.{Offered}
use Rattle.drv_table.specs.Offers.{new_transfer}
use Rattle.drv_table.specs.Parts.{Parts}
use Rattle.drv_table.specs.Rows.{after_driver_row}
use Rattle.law_driver.specs.run_owners.Accepts.{Transfers}
use Rattle.claims_report.specs.Requests.{Request, Window}
use Rattle.law_devices.specs.ring_requests.Laid.{Places}
use Rattle.law_devices.specs.ring_requests.Windows.{Queue, Lines}
use Rattle.law_devices.specs.ring_requests.Runs.{first_of}
use Rattle.law_devices.proofs.lemmas.ring_requests.Runs.{first_same}
use Rattle.law_devices.specs.request_stores.Published.{with_request, without_first}
use Rattle.claims_world.specs.Requests.{Windows, asks_then, window_at, windows_of}
use Rattle.law_reports.specs.requests.world_requests.Recording.{AreRecorded, AreInOrder, told_at}
use Rattle.law_reports.specs.requests.driver_requests.Requests.{AreOfEndpoint}
use Rattle.law_reports.specs.requests.driver_requests.Rows.{number_with}
use Rattle.law_reports.specs.requests.driver_requests.Behind.{AreBehind}
use Rattle.law_reports.proofs.lemmas.requests.lemmas.driver_requests.Ordering.{numbers_more, numbers_still, first_more, requests_more, below_new}
use Rattle.law_reports.proofs.lemmas.requests.lemmas.driver_requests.RowOrder.{row_numbers}

joined : (xs ys zs : List ℕ) → (xs ++ ys) ++ zs ≡ xs ++ (ys ++ zs)
joined [] ys zs = refl
joined (x ∷ xs) ys zs = ap (λ (ks : List ℕ). x ∷ ks) (joined xs ys zs)

pub none_earlier : (d : DriverContent) (asks : ℕ → Request) (e : ℕ) (v : Queue) (number : ℕ → ℕ) → AreInOrder d asks e v number → AreBehind d asks e [] v number
none_earlier d asks e v number order = record { numbers = order.numbers; requests = order.requests }

-- ---- the first goes

pub first_goes : (d : DriverContent) (asks : ℕ → Request) (e : ℕ) (earlier : List ℕ) (v : Queue) (number : ℕ → ℕ) → 0 < v.count → AreBehind d asks e earlier v number
    → AreBehind d asks e (earlier ++ number 0 ∷ []) (without_first v) (λ k. number (suc k))
first_goes d asks e earlier v number some k = record {
  numbers = k.numbers ∙ ap (λ (ks : List ℕ). earlier ++ ks) (less_one number v.count some) ∙ sym (joined earlier (number 0 ∷ []) (first_of (λ k. number (suc k)) (v.count - 1)));
  requests = λ i few. k.requests (suc i) (omega (arith, few));
}

-- ---- the driver's rows, and what is accepted

pub rows_leave_behind : (p : Parts) (row : DriverRow) (asks : ℕ → Request) (i : ℕ) (earlier : List ℕ) (v : Queue) (number : ℕ → ℕ) → AreBehind p.driver asks i earlier v number
    → AreBehind (after_driver_row row p).driver asks i earlier v number
rows_leave_behind p row asks i earlier v number k = record { numbers = row_numbers p row i ∙ k.numbers; requests = k.requests }

pub accepted_behind : (d : DriverContent) (m : Mem) (o : Offered) (why : Transfers d m o) (name : EpName) (setup bytes : List ℕ) (asks : ℕ → Request) (earlier : List ℕ) (v : Queue) (under n : ℕ) (number : ℕ → ℕ) (x : Places)
    → AreOfEndpoint d v under n why.number number → AreBehind d asks why.number earlier v number
    → AreBehind o.driver (asks_then d (commands.Control name setup bytes) asks) why.number earlier (with_request v (record { setup = setup; bytes = bytes }) x) (number_with v.count number (length d.transfers))
accepted_behind d m o why name setup bytes asks earlier v under n number x are k =
    let t = length d.transfers in
    record {
      numbers = numbers_more d o.driver why.number (new_transfer why.number why.asked why.endpoint.dummy) (ap (λ (g : Offered). g.driver.transfers) why.is) refl ∙ ap (λ (ks : List ℕ). ks ++ t ∷ []) k.numbers
          ∙ joined earlier (first_of number v.count) (t ∷ []) ∙ ap (λ (ks : List ℕ). earlier ++ ks) (first_more number v.count t);
      requests = requests_more d asks v under n why.number number (record { setup = setup; bytes = bytes }) are k.requests;
    }

pub accepted_beside : (d : DriverContent) (m : Mem) (o : Offered) (why : Transfers d m o) (cmd : Cmd) (asks : ℕ → Request) (earlier : List ℕ) (v : Queue) (under n i : ℕ) (number : ℕ → ℕ) → i ≢ why.number
    → AreOfEndpoint d v under n i number → AreBehind d asks i earlier v number → AreBehind o.driver (asks_then d cmd asks) i earlier v number
accepted_beside d m o why cmd asks earlier v under n i number other are k = record {
  numbers = numbers_still d o.driver i (new_transfer why.number why.asked why.endpoint.dummy) (ap (λ (g : Offered). g.driver.transfers) why.is) (λ same. other (sym same)) ∙ k.numbers;
  requests = λ j few. asked_before d cmd asks (number j) (below_new d v under n i number are j few) ∙ k.requests j few;
}

-- ---- what is told

acts_by : (v : Queue) (number : ℕ → ℕ) (latest : Option ℕ) (acts : ℕ → List (List ℕ)) (l : Lines) (i : ℕ) → AreRecorded v number latest acts l → i < v.count → (b : Bool) → nat_le i l.under ≡ b
    → acts (number i) ≡ (if b then (l.line i).acts else [])
acts_by v number latest acts l i k few true is = k.begun i (leb-true i l.under is)
acts_by v number latest acts l i k few false is = k.behind i (leb-false i l.under is) few

abbrev window_with : Request → List (List ℕ) → Window
window_with r acts = record { request = r; acts = acts }

pub told_behind : (d : DriverContent) (asks : ℕ → Request) (w : Windows) (e : ℕ) (earlier : List ℕ) (v : Queue) (number : ℕ → ℕ) (latest : Option ℕ) (l : Lines) → AreBehind d asks e earlier v number
    → AreRecorded v number latest w.acts l → windows_of d asks w e ≡ map (window_at asks w) earlier ++ first_of (told_at v l) v.count
told_behind d asks w e earlier v number latest l order k =
    let f = window_at asks w in
    ap (map f) order.numbers ∙ map-append f earlier (first_of number v.count)
    ∙ ap (λ (ys : List Window). map f earlier ++ ys)
    (mapped f number v.count
    ∙ first_same (λ i. window_at asks w (number i)) (told_at v l) v.count
    (λ i few.
    ap (λ (r : Request). window_with r (w.acts (number i))) (order.requests i few)
    ∙ ap (λ (xs : List (List ℕ)). window_with (v.requests i) xs) (acts_by v number latest w.acts l i k few (nat_le i l.under) refl)))
