-- Harvests and returns.
use Rattle.std.proofs.Common.{◌≡◌, ℕ, suc, ◌≤◌, Bool, true, false, if◌then◌else◌, List, [], ◌∷◌, ◌++◌, length, take, drop, set, slice_get, Option, Some, None, refl, sym, subst, ◌∙◌, inl, inr}
use Rattle.std.specs.Prelude.{◌⊎◌, count_by}
use Rattle.std.proofs.lemmas.Bool.{false≢true}
use Rattle.law_reports.proofs.Common.{either_way}
use Rattle.law_resting.proofs.Common.{drop_set}
use Rattle.usb_base.specs.declared.endpoints.EpName.{EpName}
use Rattle.usb_base.specs.declared.endpoints.EndCause.{EndCause}
use Rattle.usb_base.specs.declared.endpoints.EndCause.TheVariants.{Stall}
use Rattle.usb_base.specs.declared.reports.What.TheVariants.{Halt, Iso, Cancel}
use Rattle.word_mem.specs.Memory.{Mem}
use Rattle.mem_runs.specs.Book.{Book, holding}
use Rattle.bus_wire.specs.Fates.{is_same_name}
use Rattle.claims_report.specs.Requests.{Request, Window, left_by}
use Rattle.drv_periodic_table.specs.Descriptors.{told_bytes}
use Rattle.drv_periodic_table.specs.Periodic.{note_at as periodic_note}
use Rattle.drv_table.specs.declared.content.Endpoint.{Endpoint}
use Rattle.drv_table.specs.declared.content.Transfer.{Transfer}
use Rattle.drv_table.specs.declared.rows.Found.{Found}
use Rattle.drv_table.specs.declared.rows.Found.TheVariants as founds
use Rattle.drv_table.specs.DriverContent.{DriverContent, waits_for}
use Rattle.drv_table.specs.Harvests.{moved_bytes, reported, noted, is_stall, end_of}
use Rattle.drv_table.specs.Parts.{Parts}
use Rattle.drv_table.specs.Harvesting.{told_with, stalled, mends_of, after_end, harvested_as, after_harvest, served}
use Rattle.drv_table.specs.Releases.{cancelled_bytes, is_told, gone_with, after_endpoint, free_endpoint}
use Rattle.drv_table.specs.Removals.{removed_with, after_placed, free_placed}
use Rattle.law_reports.specs.requests.told_requests.Told.{RequestsAreToldTo}
use Rattle.law_reports.specs.requests.told_requests.Rows.{OtherHarvestsStay, OtherReturnsStay, IsHarvested, bytes_with, HarvestGoesOn, HarvestEnds, HarvestStalls}
use Rattle.law_reports.proofs.lemmas.requests.lemmas.told_requests.Driver.{own_told, others_stay, other_behind, stalled_are_told}

-- ---- of another endpoint

module _ (name : EpName) (whole : Request → List ℕ) (ws left : List Window) where
  abbrev Told : DriverContent → Type 0
  Told d = RequestsAreToldTo d name whole ws left

  module _ (m : Mem) (e t : ℕ) (x : Endpoint) (unlike : is_same_name x.desc.name name ≡ false) where
    other_stalled : (d : DriverContent) → Told d → Told (stalled d e t x)
    other_stalled d k =
        other_behind e x.desc.name name whole ws left unlike
        (record d {
          harvested = d.harvested ++ t ∷ [];
          endpoints = set d.endpoints e (record x { next = None });
          mends = d.mends ++ mends_of x;
        })
        (suc t) _ k

    other_end : (d : DriverContent) (stall : Bool) (cause : Option EndCause) → Told d → Told (after_end d e t x stall cause)
    other_end d stall (Some cause) k = k
    other_end d true None k = other_stalled d k
    other_end d false None k = k

    other_found : (d : DriverContent) (y : Transfer) (found : Found) → Told d → Told (harvested_as d m e t x y found)
    other_found d y (founds.Served errors) k =
        others_stay d (Iso errors) x.desc.name name (take y.most (told_bytes (periodic_note d.periodic.notes y.first) m y.first)) whole ws left (inl unlike) k
    other_found d y (founds.Ended n what) k =
        other_end (told_with d m t y what x.desc.name (noted d.notes y.place n)) (is_stall what) (end_of x.desc.kind what)
        (others_stay d what x.desc.name name (take y.most (moved_bytes (noted d.notes y.place n) m y.first y.qtds)) whole ws left (inl unlike) k)
    other_found d y _ k = k

  other_harvest : (d : DriverContent) (m : Mem) (e t : ℕ) (found : Found) (x : Option Endpoint) (y : Option Transfer) → ((z : Endpoint) → x ≡ Some z → is_same_name z.desc.name name ≡ false) → Told d
      → Told (after_harvest d m e t found x y)
  other_harvest d m e t found None None unlike k = k
  other_harvest d m e t found None (Some y) unlike k = k
  other_harvest d m e t found (Some x) None unlike k = k
  other_harvest d m e t found (Some x) (Some y) unlike k = either_way Told (waits_for e y) (served (harvested_as d m e t x y found) e) d (other_found m e t x (unlike x refl) d y found k) k

  -- ---- returns

  cancel_told_or : (P : DriverContent → Type 0) (d : DriverContent) (b : Bool) (of : EpName) (bytes : List ℕ) → (b ≡ true → P (reported d Cancel of bytes)) → P d → P (if b then reported d Cancel of bytes else d)
  cancel_told_or P d true of bytes h k = h refl
  cancel_told_or P d false of bytes h k = k

  module _ (p : Parts) (e : ℕ) (x : Endpoint) (other : (is_same_name x.desc.name name ≡ false) ⊎ (is_told x ≡ false)) (k : Told p.driver) where
    not_told : (is_same_name x.desc.name name ≡ false) ⊎ (is_told x ≡ false) → is_told x ≡ true → is_same_name x.desc.name name ≡ false
    not_told (inl unlike) on = unlike
    not_told (inr off) on = absurd (false≢true (sym off ∙ on))

    abbrev bytes : List ℕ
    bytes = cancelled_bytes p.driver.notes p.memory e x.queue p.driver.transfers

    last : is_told x ≡ true → Told (reported p.driver Cancel x.desc.name bytes)
    last on = others_stay p.driver Cancel x.desc.name name bytes whole ws left (inl (not_told other on)) k

    gone_told : (book : Book) → Told (gone_with (if is_told x then reported p.driver Cancel x.desc.name bytes else p.driver) e x (is_told x) book)
    gone_told book = cancel_told_or (λ (d : DriverContent). Told (gone_with d e x (is_told x) book)) p.driver (is_told x) x.desc.name bytes last k

    removed_told : (book : Book) → Told (removed_with (if is_told x then reported p.driver Cancel x.desc.name bytes else p.driver) e x (is_told x) book)
    removed_told book = cancel_told_or (λ (d : DriverContent). Told (removed_with d e x (is_told x) book)) p.driver (is_told x) x.desc.name bytes last k

  endpoint_told : (p : Parts) (e : ℕ) (o : Option Endpoint) → ((x : Endpoint) → o ≡ Some x → (is_same_name x.desc.name name ≡ false) ⊎ (is_told x ≡ false)) → Told p.driver → Told (after_endpoint p e o).driver
  endpoint_told p e None other k = k
  endpoint_told p e (Some x) other k = gone_told p e x (other x refl) k (free_endpoint p.driver e x (holding p.driver.book p.memory)).book

  placed_told : (p : Parts) (e : ℕ) (o : Option Endpoint) → ((x : Endpoint) → o ≡ Some x → (is_same_name x.desc.name name ≡ false) ⊎ (is_told x ≡ false)) → Told p.driver → Told (after_placed p e o).driver
  placed_told p e None other k = k
  placed_told p e (Some x) other k = removed_told p e x (other x refl) k (free_placed p.driver e x (holding p.driver.book p.memory)).book

pub other_harvests_stay : OtherHarvestsStay
other_harvests_stay p e t found name whole ws left unlike k = other_harvest name whole ws left p.driver p.memory e t found (slice_get p.driver.endpoints e) (slice_get p.driver.transfers t) unlike k

pub other_returns_stay : OtherReturnsStay
other_returns_stay p e name whole ws left other k =
    (endpoint_told name whole ws left p e (slice_get p.driver.endpoints e) other k, placed_told name whole ws left p e (slice_get p.driver.endpoints e) other k)

-- ---- of the endpoint itself

module _ (p : Parts) (e t : ℕ) (x : Endpoint) (y : Transfer) (h : IsHarvested p e t x y) (name : EpName) (whole : Request → List ℕ) (ws left : List Window) where
  found_told : (found : Found) → RequestsAreToldTo (harvested_as p.driver p.memory e t x y found) name whole ws left
      → RequestsAreToldTo (after_harvest p.driver p.memory e t found (slice_get p.driver.endpoints e) (slice_get p.driver.transfers t)) name whole ws left
  found_told found k =
      subst (λ (o : Option Endpoint). RequestsAreToldTo (after_harvest p.driver p.memory e t found o (slice_get p.driver.transfers t)) name whole ws left) (sym h.here)
      (subst (λ (o : Option Transfer). RequestsAreToldTo (after_harvest p.driver p.memory e t found (Some x) o) name whole ws left) (sym h.there)
      (subst (λ (b : Bool). RequestsAreToldTo (if b then served (harvested_as p.driver p.memory e t x y found) e else p.driver) name whole ws left) (sym h.waits) k))

pub harvest_goes_on : HarvestGoesOn
harvest_goes_on p e t n x y name whole ws left h k = (found_told p e t x y h name whole ws left founds.Active k, found_told p e t x y h name whole ws left (founds.Moved n) k)

end_told : (d : DriverContent) (e t : ℕ) (x : Endpoint) (cause : Option EndCause) (name : EpName) (whole : Request → List ℕ) (ws left : List Window) → RequestsAreToldTo d name whole ws left → RequestsAreToldTo (after_end d e t x false cause) name whole ws left
end_told d e t x (Some cause) name whole ws left k = k
end_told d e t x None name whole ws left k = k

pub harvest_ends : HarvestEnds
harvest_ends p e t n what x y whole ws left h no_stall plain is k =
    let d = told_with p.driver p.memory t y what x.desc.name (noted p.driver.notes y.place n) in
    found_told p e t x y h x.desc.name whole ws (left_by what left) (founds.Ended n what)
    (subst (λ (b : Bool). RequestsAreToldTo (after_end d e t x b (end_of x.desc.kind what)) x.desc.name whole ws (left_by what left)) (sym no_stall)
    (end_told d e t x (end_of x.desc.kind what) x.desc.name whole ws (left_by what left) (own_told p.driver what x.desc.name (bytes_with p y n) whole ws left plain is k)))

pub harvest_stalls : HarvestStalls
harvest_stalls p e t n x y whole ws rest w h control begins low k =
    let d = told_with p.driver p.memory t y (Halt Stall) x.desc.name (noted p.driver.notes y.place n) in
    let behind_same : drop (suc t) d.transfers ≡ drop (suc t) p.driver.transfers = drop_set p.driver.transfers t (record y { reported = true }) in
    let many = count_by (waits_for e) (drop (suc t) p.driver.transfers) in
    found_told p e t x y h x.desc.name whole ws (drop many rest) (founds.Ended n (Halt Stall))
    (subst (λ (b : Bool). RequestsAreToldTo (after_end d e t x true (if b then None else Some Stall)) x.desc.name whole ws (drop many rest)) (sym control)
    (subst (λ (ys : List Transfer). RequestsAreToldTo (stalled d e t x) x.desc.name whole ws (drop (count_by (waits_for e) ys) rest)) behind_same
    (stalled_are_told d e t x whole ws rest (subst (λ (ys : List Transfer). count_by (waits_for e) ys ≤ length rest) (sym behind_same) low)
    (own_told p.driver (Halt Stall) x.desc.name (bytes_with p y n) whole ws (w ∷ rest) refl begins k))))
