-- Each row of the driver leaves the numbers of an endpoint's transfers.
use Rattle.std.proofs.Common.{◌≡◌, ℕ, suc, Bool, true, false, ◌||◌, ◌==◌, if◌then◌else◌, map, List, [], ◌∷◌, slice_get, Option, Some, None, option_map, ap, sym, ◌∙◌, refl}
use Rattle.std.proofs.lemmas.Option.{same_Some, slice_get-map}
use Rattle.law_driver.proofs.Common.{let_go_same}
use Rattle.law_common.proofs.Lists.{more_active}
use Rattle.mem_runs.specs.Book.{Holding}
use Rattle.drv_periodic_table.specs.declared.content.Removed.TheVariants as removed
use Rattle.drv_table.specs.declared.content.Endpoint.{Endpoint}
use Rattle.drv_table.specs.declared.content.Transfer.{Transfer}
use Rattle.drv_table.specs.declared.rows.DriverRow.{DriverRow}
use Rattle.drv_table.specs.declared.rows.DriverRow.TheVariants as rows
use Rattle.drv_table.specs.DriverContent.{DriverContent, waits_for}
use Rattle.drv_table.specs.Parts.{Parts}
use Rattle.drv_table.specs.Kinds.{is_iso}
use Rattle.drv_table.specs.Releases.{is_told, let_go, after_transfer, after_endpoint}
use Rattle.drv_table.specs.Removals.{let_go_placed, after_descriptor, after_placed}
use Rattle.drv_table.specs.Rows.{after_driver_row}
use Rattle.law_driver.proofs.lemmas.run_owners.Stays.{same_view}
use Rattle.claims_report.specs.Requests.{Request}
use Rattle.law_devices.specs.ring_requests.Windows.{Queue}
use Rattle.claims_world.specs.Requests.{numbers_from, numbers_of}
use Rattle.law_reports.specs.requests.world_requests.Recording.{AreInOrder}
use Rattle.law_reports.proofs.lemmas.requests.lemmas.driver_requests.Rows.{TransferView, transfer_view, StayAlike, advanced, lent, framed, unlinks, harvested, told_transfers}

abbrev pub endpoint_at : List Transfer → ℕ → Option ℕ
endpoint_at xs t = option_map (λ y. y.endpoint) (slice_get xs t)

abbrev pub SameEndpoints : List Transfer → List Transfer → Type 0
SameEndpoints xs ys = (t : ℕ) → endpoint_at ys t ≡ endpoint_at xs t

numbers_same : (e n : ℕ) (xs ys : List Transfer) → SameEndpoints xs ys → numbers_from e n ys ≡ numbers_from e n xs
numbers_same e n [] [] same = refl
numbers_same e n [] (y ∷ ys) same = let clash : Some y.endpoint ≡ None = same 0 in absurd (cc)
numbers_same e n (x ∷ xs) [] same = let clash : None ≡ Some x.endpoint = same 0 in absurd (cc)
numbers_same e n (x ∷ xs) (y ∷ ys) same =
    let one : y.endpoint ≡ x.endpoint = same_Some y.endpoint x.endpoint (same 0) in
    ap (λ (k : ℕ). if k == e then n ∷ numbers_from e (suc n) ys else numbers_from e (suc n) ys) one
    ∙ more_active (x.endpoint == e) n (numbers_from e (suc n) ys) (numbers_from e (suc n) xs)
    (numbers_same e (suc n) xs ys (λ t. same (suc t)))

seen_endpoint : (o : Option Transfer) → option_map (λ (w : TransferView). w.endpoint) (option_map transfer_view o) ≡ option_map (λ (y : Transfer). y.endpoint) o
seen_endpoint None = refl
seen_endpoint (Some y) = refl

of_alike : (d e : DriverContent) → StayAlike d e → SameEndpoints d.transfers e.transfers
of_alike d e k t = sym (seen_endpoint (slice_get e.transfers t)) ∙ ap (option_map (λ (w : TransferView). w.endpoint)) (k.transfers t) ∙ seen_endpoint (slice_get d.transfers t)

-- ---- what gives something back

transfer_given : (p : Parts) (t : ℕ) (o : Option Transfer) (h : Holding) → slice_get p.driver.transfers t ≡ o → SameEndpoints p.driver.transfers (after_transfer p t o h).driver.transfers
transfer_given p t None h there k = refl
transfer_given p t (Some x) h there k = same_view (λ (y : Transfer). y.endpoint) p.driver.transfers t x (record x { released = true }) there refl k

descriptor_given : (p : Parts) (t : ℕ) (o : Option Transfer) → slice_get p.driver.transfers t ≡ o → SameEndpoints p.driver.transfers (after_descriptor p t o).driver.transfers
descriptor_given p t None there k = refl
descriptor_given p t (Some x) there k = same_view (λ (y : Transfer). y.endpoint) p.driver.transfers t x (record x { released = true }) there refl k

if_same : (b : Bool) (y z : Transfer) → y.endpoint ≡ z.endpoint → (if b then y else z).endpoint ≡ z.endpoint
if_same true y z same = same
if_same false y z same = refl

let_go_placed_same : (iso : Bool) (e : ℕ) (told : Bool) (y : Transfer) → (let_go_placed iso e told y).endpoint ≡ y.endpoint
let_go_placed_same true e told y = if_same (waits_for e y) (record y { reported = y.reported || told; released = true }) y refl
let_go_placed_same false e told y = let_go_same e told y

mapped_same : (g : Transfer → Transfer) → ((y : Transfer) → (g y).endpoint ≡ y.endpoint) → (o : Option Transfer) → option_map (λ (y : Transfer). y.endpoint) (option_map g o) ≡ option_map (λ (y : Transfer). y.endpoint) o
mapped_same g same None = refl
mapped_same g same (Some y) = ap (λ (k : ℕ). Some k) (same y)

map_same : (g : Transfer → Transfer) (xs ys : List Transfer) → ((y : Transfer) → (g y).endpoint ≡ y.endpoint) → ys ≡ map g xs → SameEndpoints xs ys
map_same g xs ys same is t =
    ap (λ (zs : List Transfer). endpoint_at zs t) is ∙ ap (option_map (λ (y : Transfer). y.endpoint)) (slice_get-map g xs t) ∙ mapped_same g same (slice_get xs t)

endpoint_given : (p : Parts) (e : ℕ) (o : Option Endpoint) → SameEndpoints p.driver.transfers (after_endpoint p e o).driver.transfers
endpoint_given p e None t = refl
endpoint_given p e (Some x) t =
    map_same (let_go e (is_told x)) p.driver.transfers (after_endpoint p e (Some x)).driver.transfers (let_go_same e (is_told x))
    (ap (λ (ys : List Transfer). map (let_go e (is_told x)) ys) (told_transfers p.driver p.memory e x)) t

placed_given : (p : Parts) (e : ℕ) (o : Option Endpoint) → SameEndpoints p.driver.transfers (after_placed p e o).driver.transfers
placed_given p e None t = refl
placed_given p e (Some x) t =
    let g = let_go_placed (is_iso x.desc.kind) e (is_told x) in
    map_same g p.driver.transfers (after_placed p e (Some x)).driver.transfers (let_go_placed_same (is_iso x.desc.kind) e (is_told x)) (ap (λ (ys : List Transfer). map g ys) (told_transfers p.driver p.memory e x)) t

-- ---- each row

pub row_same : (p : Parts) (row : DriverRow) → SameEndpoints p.driver.transfers (after_driver_row row p).driver.transfers
row_same p rows.Lend = of_alike p.driver _ (lent p.driver p.memory)
row_same p (rows.Store b at v) = of_alike p.driver _ (advanced p.driver)
row_same p (rows.ReleaseTransfer t) = transfer_given p t (slice_get p.driver.transfers t) _ refl
row_same p (rows.ReleaseEndpoint e) = endpoint_given p e (slice_get p.driver.endpoints e)
row_same p rows.Frames = of_alike p.driver _ (framed p.driver p.registers.frame_index p.driver.command)
row_same p rows.LendDescriptors = of_alike p.driver _ (lent p.driver _)
row_same p (rows.Unlink t) = of_alike p.driver _ (unlinks p t (slice_get p.driver.transfers t))
row_same p (rows.ReleaseRemoved (removed.Descriptor t)) = descriptor_given p t (slice_get p.driver.transfers t) refl
row_same p (rows.ReleaseRemoved (removed.Endpoint e)) = placed_given p e (slice_get p.driver.endpoints e)
row_same p (rows.Harvest e t found) = of_alike p.driver _ (harvested p.driver p.memory e t found (slice_get p.driver.endpoints e) (slice_get p.driver.transfers t) refl refl)
row_same p _ = λ t. refl

pub row_numbers : (p : Parts) (row : DriverRow) (i : ℕ) → numbers_of (after_driver_row row p).driver i ≡ numbers_of p.driver i
row_numbers p row i = numbers_same i 0 p.driver.transfers (after_driver_row row p).driver.transfers (row_same p row)

pub each_row_keeps_order : (p : Parts) (row : DriverRow) (asks : ℕ → Request) (i : ℕ) (v : Queue) (number : ℕ → ℕ) → AreInOrder p.driver asks i v number → AreInOrder (after_driver_row row p).driver asks i v number
each_row_keeps_order p row asks i v number order = record { numbers = row_numbers p row i ∙ order.numbers; requests = order.requests }
