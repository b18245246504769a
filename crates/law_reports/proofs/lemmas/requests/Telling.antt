-- What lines tell of the requests of a control endpoint.
use Rattle.std.proofs.Common.{◌≡◌, ◌≢◌, ℕ, zero, suc, ◌+◌, ◌-◌, ◌==◌, ◌&&◌, not, Bool, true, false, if◌then◌else◌, List, [], ◌∷◌, ◌++◌, length, take, drop, map, ap, refl, sym, subst, ◌∙◌, arith}
use Rattle.std.specs.List.{AllByRecursion}
use Rattle.std.proofs.lemmas.Bool.{eq-eqb, false≢true}
use Rattle.std.proofs.lemmas.List.{map-append, append_assoc, length-append, length-map, length-drop, take-append-drop}
use Rattle.std.proofs.lemmas.Option.{slice_get_within}
use Rattle.law_common.proofs.Numbers.{other_number}
use Rattle.usb_base.specs.declared.endpoints.EpName.{EpName}
use Rattle.usb_base.specs.declared.endpoints.EndCause.TheVariants.{Stall}
use Rattle.usb_base.specs.declared.reports.Report.{Report}
use Rattle.usb_base.specs.declared.reports.What.{What}
use Rattle.usb_base.specs.declared.reports.What.TheVariants as lines
use Rattle.claims_report.specs.Requests.{Request, Window, left_by}
use Rattle.drv_table.specs.declared.content.Transfer.{Transfer}
use Rattle.drv_table.specs.declared.rows.DriverRow.TheVariants as rows
use Rattle.drv_table.specs.declared.rows.Found.TheVariants as founds
use Rattle.drv_table.specs.DriverContent.{DriverContent, waits_for}
use Rattle.drv_table.specs.Rows.{after_driver_row}
use Rattle.claims_world.specs.Requests.{Windows, window_at}
use Rattle.law_reports.proofs.lemmas.requests.lemmas.driver_requests.RowOrder.{row_numbers}
use Rattle.law_reports.proofs.lemmas.requests.lemmas.driver_requests.Ordering.{numbers_more, numbers_still}
use Rattle.claims_world.specs.Pending.{is_cancel}
use Rattle.law_reports.specs.requests.told_requests.Told.{AreToldTo, RequestsAreToldTo}
use Rattle.law_reports.specs.requests.told_requests.Waiting.{waiting}
use Rattle.law_reports.proofs.lemmas.requests.lemmas.told_requests.Harvests.{other_harvests_stay, other_returns_stay, harvest_goes_on, harvest_ends, harvest_stalls}
use Rattle.law_reports.proofs.lemmas.requests.lemmas.told_requests.Quiet.{quiet_rows_keep_lines}
use Rattle.law_reports.proofs.lemmas.requests.lemmas.told_requests.Waiting.{transfer_adds_waiting, quiet_rows_keep_waiting}
use Rattle.law_reports.proofs.lemmas.requests.lemmas.told_requests.WaitingHarvests.{other_harvest_keeps_waiting, other_returns_keep_waiting, harvest_keeps_waiting, harvest_ends_one, harvest_stalls_all, stall_has_windows}
use Rattle.law_reports.proofs.lemmas.requests.lemmas.told_requests.Windows.{windows_grow}
use Rattle.law_reports.proofs.lemmas.requests.Lists.{numbers_all}
use Rattle.law_reports.specs.requests.Telling.{IsTelling, IsUncancelled, TellingIsTold, ActsKeepTelling, QuietRowKeepsTelling, OtherHarvestKeepsTelling, OtherReturnsKeepTelling, HarvestKeepsTelling, HarvestTells, behind, StallTells, AddsTransfer, AcceptedKeepsTelling, OtherAcceptedKeepsTelling}

abbrev at : (ℕ → Request) → Windows → List ℕ → List Window
at asks v ts = map (window_at asks v) ts

-- ---- lists

one_of : (asks : ℕ → Request) (v u : Windows) (t : ℕ) → u.acts t ≡ v.acts t → window_at asks v t ≡ window_at asks u t
one_of asks v u t same = ap (λ (xs : List (List ℕ)). record { request = asks t; acts = xs }) (sym same)

same_windows : (asks : ℕ → Request) (v u : Windows) (ts : List ℕ) → AllByRecursion (λ t. u.acts t ≡ v.acts t) ts → map (window_at asks v) ts ≡ map (window_at asks u) ts
same_windows asks v u [] all = refl
same_windows asks v u (t ∷ ts) all =
    ap (λ (w : Window). w ∷ map (window_at asks v) ts) (one_of asks v u t all.0) ∙ ap (λ (ws : List Window). window_at asks u t ∷ ws) (same_windows asks v u ts all.1)

mapped_drop : (asks : ℕ → Request) (v : Windows) (n : ℕ) (ts : List ℕ) → drop n (map (window_at asks v) ts) ≡ map (window_at asks v) (drop n ts)
mapped_drop asks v zero ts = refl
mapped_drop asks v (suc n) [] = refl
mapped_drop asks v (suc n) (t ∷ ts) = mapped_drop asks v n ts

-- ---- what is told

pub telling_is_told : TellingIsTold
telling_is_told d asks e name whole v reported waits k =
    subst (λ (ws : List Window). RequestsAreToldTo d name whole ws (at asks v waits)) (sym (ap (map (window_at asks v)) k.numbers ∙ map-append (window_at asks v) reported waits)) k.told

pub acts_keep_telling : ActsKeepTelling
acts_keep_telling d asks e name whole v u reported waits going same k = record {
  numbers = k.numbers;
  told = subst (λ (ws : List Window). AreToldTo d.reports d.store name whole (ws ++ at asks u waits) (at asks u waits)) (same_windows asks v u reported same)
      (windows_grow d.reports d.store name whole (at asks v reported) (at asks v waits) (at asks u waits) going k.told);
  wait = k.wait;
}

-- ---- rows

pub quiet_row_keeps_telling : QuietRowKeepsTelling
quiet_row_keeps_telling p row asks e name whole v reported waits quiet k =
    let z = quiet_rows_keep_lines row p quiet in
    record {
      numbers = row_numbers p row e ∙ k.numbers;
      told = subst (λ (s : List ℕ). AreToldTo (after_driver_row row p).driver.reports s name whole (at asks v reported ++ at asks v waits) (at asks v waits)) (sym z.store)
          (subst (λ (ls : List Report). AreToldTo ls p.driver.store name whole (at asks v reported ++ at asks v waits) (at asks v waits)) (sym z.reports) k.told);
      wait = k.wait ∙ sym (quiet_rows_keep_waiting row p e quiet);
    }

pub other_harvest_keeps_telling : OtherHarvestKeepsTelling
other_harvest_keeps_telling p j t found asks e name whole v reported waits differs other k = record {
  numbers = row_numbers p (rows.Harvest j t found) e ∙ k.numbers;
  told = other_harvests_stay p j t found name whole (at asks v reported ++ at asks v waits) (at asks v waits) other k.told;
  wait = k.wait ∙ sym (other_harvest_keeps_waiting p j t found e differs);
}

pub other_returns_keep_telling : OtherReturnsKeepTelling
other_returns_keep_telling p j asks e name whole v reported waits differs other k = record {
  numbers = row_numbers p (rows.ReleaseEndpoint j) e ∙ k.numbers;
  told = (other_returns_stay p j name whole (at asks v reported ++ at asks v waits) (at asks v waits) other k.told).0;
  wait = k.wait ∙ sym (other_returns_keep_waiting p j e differs).0;
}

-- ---- a harvest of the endpoint

pub harvest_keeps_telling : HarvestKeepsTelling
harvest_keeps_telling p t n x y asks e whole v reported waits is k =
    let told = harvest_goes_on p e t n x y x.desc.name whole (at asks v reported ++ at asks v waits) (at asks v waits) is k.told in
    let stay = harvest_keeps_waiting p e t n x y is in (
      record { numbers = row_numbers p (rows.Harvest e t founds.Active) e ∙ k.numbers; told = told.0; wait = k.wait ∙ sym stay.0 },
      record { numbers = row_numbers p (rows.Harvest e t (founds.Moved n)) e ∙ k.numbers; told = told.1; wait = k.wait ∙ sym stay.1 },
    )

left_without : (what : What) (w : Window) (ws : List Window) → is_cancel what ≡ false → left_by what (w ∷ ws) ≡ ws
left_without lines.Cancel w ws none = absurd (false≢true (sym none))
left_without _ w ws none = refl

moved_on : (asks : ℕ → Request) (v : Windows) (xs ys zs : List ℕ) → at asks v xs ++ at asks v (ys ++ zs) ≡ at asks v (xs ++ ys) ++ at asks v zs
moved_on asks v xs ys zs =
    sym (map-append (window_at asks v) xs (ys ++ zs)) ∙ ap (at asks v) (sym (append_assoc xs ys zs)) ∙ map-append (window_at asks v) (xs ++ ys) zs

pub harvest_tells : HarvestTells
harvest_tells p t n what x y asks e first whole v reported rest is no_stall no_refusal no_cancel right k =
    let now : DriverContent = (after_driver_row (rows.Harvest e t (founds.Ended n what)) p).driver in
    let told : RequestsAreToldTo now x.desc.name whole (at asks v reported ++ at asks v (first ∷ rest)) (left_by what (at asks v (first ∷ rest))) =
    harvest_ends p e t n what x y whole (at asks v reported ++ at asks v (first ∷ rest)) (at asks v (first ∷ rest)) is no_stall no_refusal right k.told in
    let one = harvest_ends_one p e t n what x y is no_stall in
    let long = k.wait in
    record {
      numbers = row_numbers p (rows.Harvest e t (founds.Ended n what)) e ∙ k.numbers ∙ sym (append_assoc reported (first ∷ []) rest);
      told = subst (λ (ws : List Window). RequestsAreToldTo now x.desc.name whole ws (at asks v rest)) (moved_on asks v reported (first ∷ []) rest)
          (subst (λ (ws : List Window). RequestsAreToldTo now x.desc.name whole (at asks v reported ++ at asks v (first ∷ rest)) ws) (left_without what (window_at asks v first) (at asks v rest) no_cancel) told);
      wait = omega (arith, long, one);
    }

pub stall_tells : StallTells
stall_tells p t n x y asks e first whole v reported rest is control begins k =
    let now : DriverContent = (after_driver_row (rows.Harvest e t (founds.Ended n (lines.Halt Stall))) p).driver in
    let b : ℕ = behind p e t in
    let few = stall_has_windows p e t x y (window_at asks v first) (at asks v rest) is (length-map (first ∷ rest) (window_at asks v) ∙ k.wait) in
    let told : RequestsAreToldTo now x.desc.name whole (at asks v reported ++ at asks v (first ∷ rest)) (drop b (at asks v rest)) =
    harvest_stalls p e t n x y whole (at asks v reported ++ at asks v (first ∷ rest)) (at asks v rest) (window_at asks v first) is control begins few k.told in
    let all = harvest_stalls_all p e t n x y is control in
    let long = k.wait in
    let size = length-drop b rest in
    record {
      numbers = row_numbers p (rows.Harvest e t (founds.Ended n (lines.Halt Stall))) e ∙ k.numbers ∙ ap (λ (ts : List ℕ). reported ++ first ∷ ts) (sym (take-append-drop b rest))
          ∙ sym (append_assoc reported (first ∷ take b rest) (drop b rest));
      told = subst (λ (ws : List Window). RequestsAreToldTo now x.desc.name whole ws (at asks v (drop b rest)))
          (ap (λ (ts : List ℕ). at asks v reported ++ at asks v (first ∷ ts)) (sym (take-append-drop b rest)) ∙ moved_on asks v reported (first ∷ take b rest) (drop b rest))
          (subst (λ (ws : List Window). RequestsAreToldTo now x.desc.name whole (at asks v reported ++ at asks v (first ∷ rest)) ws) (mapped_drop asks v b rest) told);
      wait = omega (arith, long, all, size);
    }

-- ---- one transfer more

-- what was asked of those before it is the same
asked_same : (asks now : ℕ → Request) (v : Windows) (ts : List ℕ) → AllByRecursion (λ t. now t ≡ asks t) ts → map (window_at asks v) ts ≡ map (window_at now v) ts
asked_same asks now v [] all = refl
asked_same asks now v (t ∷ ts) all =
    ap (λ (r : Request). record { request = r; acts = v.acts t } ∷ map (window_at asks v) ts) (sym all.0) ∙ ap (λ (ws : List Window). window_at now v t ∷ ws) (asked_same asks now v ts all.1)

pub split : (P : ℕ → Type 0) (ts us : List ℕ) → AllByRecursion P (ts ++ us) → AllByRecursion P ts × AllByRecursion P us
split P [] us all = (tt, all)
split P (t ∷ ts) us all = let z = split P ts us all.1 in ((all.0, z.0), z.1)

module _ (d c : DriverContent) (y : Transfer) (asks now : ℕ → Request) (e : ℕ) (name : EpName) (whole : Request → List ℕ) (v : Windows) (reported waits : List ℕ) (adds : AddsTransfer d c y asks now) (going : IsUncancelled name d) (k : IsTelling d asks e name whole v reported waits) where
  asked : AllByRecursion (λ t. now t ≡ asks t) (reported ++ waits)
  asked =
      subst (AllByRecursion (λ t. now t ≡ asks t)) k.numbers
      (numbers_all e 0 d.transfers (λ t. now t ≡ asks t) (λ i z here of. let same : i ≡ 0 + i = omega arith in subst (λ (t : ℕ). now t ≡ asks t) same (adds.asked i (slice_get_within d.transfers i z here))))

  both : AllByRecursion (λ t. now t ≡ asks t) reported × AllByRecursion (λ t. now t ≡ asks t) waits
  both = split (λ t. now t ≡ asks t) reported waits asked

  -- whatever waits then
  told_now : (later : List ℕ) → AreToldTo c.reports c.store name whole (at now v reported ++ at now v later) (at now v later)
  told_now later =
      subst (λ (s : List ℕ). AreToldTo c.reports s name whole (at now v reported ++ at now v later) (at now v later)) (sym adds.store)
      (subst (λ (ls : List Report). AreToldTo ls d.store name whole (at now v reported ++ at now v later) (at now v later)) (sym adds.reports)
      (subst (λ (ws : List Window). AreToldTo d.reports d.store name whole (ws ++ at now v later) (at now v later)) (asked_same asks now v reported both.0)
      (windows_grow d.reports d.store name whole (at asks v reported) (at asks v waits) (at now v later) going k.told)))

  abbrev one_if : Bool → ℕ
  one_if b = if b then 1 else 0

  ended : (z : Bool) → one_if (z && not false) ≡ one_if z
  ended true = refl
  ended false = refl

  waits_by : (z : Bool) → y.reported ≡ false → (y.endpoint == e) ≡ z → one_if (waits_for e y) ≡ one_if z
  waits_by z fresh is = ap (λ (b : Bool). one_if (b && not y.reported)) is ∙ ap (λ (b : Bool). one_if (z && not b)) fresh ∙ ended z

  mine : y.endpoint ≡ e → IsTelling c now e name whole v reported (waits ++ length d.transfers ∷ [])
  mine of =
      let more = transfer_adds_waiting d c y e adds.transfers ∙ ap (λ (j : ℕ). waiting d e + j) (waits_by true adds.fresh (eq-eqb y.endpoint e of)) in
      let size = length-append waits (length d.transfers ∷ []) in
      let long = k.wait in
      record {
        numbers = numbers_more d c e y adds.transfers of ∙ ap (λ (ts : List ℕ). ts ++ length d.transfers ∷ []) k.numbers ∙ append_assoc reported waits (length d.transfers ∷ []);
        told = told_now (waits ++ length d.transfers ∷ []);
        wait = omega (arith, more, size, long);
      }

  others : y.endpoint ≢ e → IsTelling c now e name whole v reported waits
  others other =
      let more = transfer_adds_waiting d c y e adds.transfers ∙ ap (λ (j : ℕ). waiting d e + j) (waits_by false adds.fresh (other_number y.endpoint e other)) in
      let long = k.wait in
      record {
        numbers = numbers_still d c e y adds.transfers other ∙ k.numbers;
        told = told_now waits;
        wait = omega (arith, more, long);
      }

pub accepted_keeps_telling : AcceptedKeepsTelling
accepted_keeps_telling d c y asks now e name whole v reported waits adds going of k = mine d c y asks now e name whole v reported waits adds going k of

pub other_accepted_keeps_telling : OtherAcceptedKeepsTelling
other_accepted_keeps_telling d c y asks now e name whole v reported waits adds going other k = others d c y asks now e name whole v reported waits adds going k other
