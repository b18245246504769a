-- What all lines of a cancelled control endpoint tell, with that of its cancel.
use Rattle.std.proofs.Common.{◌≡◌, ℕ, zero, suc, not, Bool, true, false, List, [], ◌∷◌, ◌++◌, length, drop, map}
use Rattle.std.proofs.Common.{slice_get, Some, ap, refl, sym, subst, ◌∙◌, ⊎_elim}
use Rattle.std.specs.Prelude.{◌⊎◌}
use Rattle.std.proofs.lemmas.List.{append-nil}
use Rattle.std.proofs.lemmas.List.Elements.{filter-append}
use Rattle.law_common.proofs.Booleans.{or_both}
use Rattle.law_driver.proofs.Common.{get_queued}
use Rattle.usb_base.specs.declared.endpoints.EpName.{EpName}
use Rattle.usb_base.specs.declared.reports.Report.{Report}
use Rattle.usb_base.specs.declared.reports.What.{What}
use Rattle.usb_base.specs.declared.reports.What.TheVariants as whats
use Rattle.report_text.specs.ReportText.{bytes_of}
use Rattle.bus_wire.specs.Bus.{Fixed, fixed_of}
use Rattle.bus_world.specs.Budgets.{moment}
use Rattle.claims_report.specs.Requests.{Request, Window, AreBegun, IsTold, left_by, AreTold}
use Rattle.claims_world.specs.Pending.{is_cancel}
use Rattle.claims_world.specs.Requests.{Windows, windows_at, asks_at, numbers_of, window_at, windows_of, is_opening}
use Rattle.drv_table.specs.declared.content.Endpoint.{Endpoint}
use Rattle.drv_table.specs.Words.{is_control}
use Rattle.law_driver.specs.endpoint_lives.Lives.{may_meet}
use Rattle.law_driver.specs.queued_drivers.Queued.{queued_desc, queued_endpoint, queued}
use Rattle.law_driver.proofs.lemmas.queued_drivers.CommandFields.{name_same}
use Rattle.law_queues.specs.told_endpoints.Telling.{lines_in}
use Rattle.bus_world.specs.World.{World}
use Rattle.law_reports.specs.requests.CancelledTold.{before_cancel}
use Rattle.law_reports.specs.pipes.Declared.{Sides as Pipes, sides_of as pipes_of}
use Rattle.law_reports.specs.requests.Asking.{Sides}
use Rattle.law_reports.specs.requests.CancelledTold.{CancelledAreTold}
use Rattle.law_reports.specs.requests.HighGiven.{high_sides_of}
use Rattle.law_reports.specs.requests.LeftTold.{IsCancelTold, CancelsStand, IsToldWhole, TextsTellCancels}
use Rattle.law_reports.specs.requests.Telling.{IsUncancelled}
use Rattle.law_reports.specs.requests.told_requests.Told.{left_after, has_cancel}
use Rattle.law_reports.proofs.lemmas.requests.CancelledLines.{all_before, none_told}
use Rattle.law_reports.proofs.lemmas.requests.CancelledTold.{told as told_as, not_opening, opening_uncancelled, met_uncancelled}
use Rattle.law_reports.proofs.lemmas.requests.CancelledMoments.{texts_tell_of_cancelled}
use Rattle.law_reports.proofs.lemmas.requests.LeftWorlds.{texts_have_cancels}
use Rattle.law_reports.proofs.lemmas.requests.lemmas.told_requests.Lines.{told_then}

-- ---- lists

left_is : (lines : List Report) (ws : List Window) → has_cancel lines ≡ false → left_after lines ws ≡ drop (length lines) ws
left_is [] ws none = refl
left_is (line ∷ rest) ws none =
    let both = or_both (is_cancel line.what) (has_cancel rest) none in
    ap (left_after rest) (one line.what ws both.0) ∙ left_is rest (drop 1 ws) both.1 ∙ dropped (length rest) ws
  where
    one : (what : What) (us : List Window) → is_cancel what ≡ false → left_by what us ≡ drop 1 us
    one whats.Cancel us is = absurd cc
    one whats.Done [] is = refl
    one whats.Done (u ∷ us) is = refl
    one (whats.Halt cause) [] is = refl
    one (whats.Halt cause) (u ∷ us) is = refl
    one _ [] is = refl
    one _ (u ∷ us) is = refl

    dropped : (n : ℕ) (us : List Window) → drop n (drop 1 us) ≡ drop (suc n) us
    dropped zero [] = refl
    dropped (suc n) [] = refl
    dropped n (u ∷ us) = refl

requests_left : (whole : Request → List ℕ) (asks : ℕ → Request) (v : Windows) (n : ℕ) (ts : List ℕ)
    → map (λ (w : Window). whole w.request) (drop n (map (window_at asks v) ts)) ≡ map (λ t. whole (asks t)) (drop n ts)
requests_left whole asks v zero [] = refl
requests_left whole asks v (suc n) [] = refl
requests_left whole asks v zero (t ∷ ts) = ap (λ (xss : List (List ℕ)). whole (asks t) ∷ xss) (requests_left whole asks v zero ts)
requests_left whole asks v (suc n) (t ∷ ts) = requests_left whole asks v n ts

-- ---- an endpoint

module _ (g : Sides) (fixed : Fixed) (p : Pipes) (v : Windows) (asks : ℕ → Request) (w : World) (k : CancelsStand g fixed p v asks w)
    (before : CancelledAreTold g w v asks) (e : ℕ) (z : Endpoint) (here : slice_get w.driver.endpoints e ≡ Some z)
    (control : is_control z.desc.kind ≡ true) (on : g.asks (queued_desc z.desc) ≡ true) (off : z.cancelled ≡ true) where
  abbrev whole : Request → List ℕ
  whole = g.whole z.desc.name

  abbrev ws : List Window
  ws = windows_of w.driver asks v e

  abbrev lines : List Report
  lines = lines_in z.desc.name w.driver.reports

  first_told : AreTold whole w.driver.store ws (before_cancel lines)
  first_told = before.each e z here control on off

  uncancelled_told : IsUncancelled z.desc.name w.driver → IsToldWhole w.driver asks v g.whole e z
  uncancelled_told none = subst (AreTold whole w.driver.store ws) (all_before lines none) first_told

  cancel_told : IsCancelTold w.driver asks e z.desc.name whole → IsToldWhole w.driver asks v g.whole e z
  cancel_told c =
      let only : before_cancel lines ≡ c.before =
      ap before_cancel c.lines ∙ filter-append (λ (line : Report). not (is_cancel line.what)) c.before (c.line ∷ [])
      ∙ ap (λ (ls : List Report). before_cancel c.before ++ ls) (none_told c.line (ap is_cancel c.is)) ∙ append-nil (before_cancel c.before)
      ∙ all_before c.before c.none in
      let left : left_after c.before ws ≡ drop (length c.before) ws = left_is c.before ws c.none in
      subst (AreTold whole w.driver.store ws) (sym c.lines)
      (told_then whole w.driver.store c.before c.line ws (subst (AreTold whole w.driver.store ws) only first_told)
      (subst (λ (what : What). IsTold whole what (bytes_of c.line w.driver.store) (left_after c.before ws)) (sym c.is)
      (subst (λ (us : List Window). AreBegun (bytes_of c.line w.driver.store) (map (λ (u : Window). whole u.request) us)) (sym left)
      (subst (AreBegun (bytes_of c.line w.driver.store)) (sym (requests_left whole asks v (length c.before) (numbers_of w.driver e)))
      c.begun))))

  by_gone : (b : Bool) → z.gone ≡ b → IsToldWhole w.driver asks v g.whole e z
  by_gone true gone =
      ⊎_elim {C = IsToldWhole w.driver asks v g.whole e z} (λ (none : IsUncancelled z.desc.name w.driver). uncancelled_told none)
      (λ (c : IsCancelTold w.driver asks e z.desc.name whole). cancel_told c) (k.told.each e z here control on gone)
  by_gone false kept = uncancelled_told (by_opening (is_opening (queued w.driver) (queued_endpoint z)) refl)
    where
      kept_told : (queued_endpoint z).gone ≡ false
      kept_told = ap (λ (x : Endpoint). x.gone) (told_as g fixed p v asks w k.high e z here control on) ∙ kept

      by_walk : is_opening (queued w.driver) (queued_endpoint z) ≡ false → (b : Bool) → may_meet (queued w.driver) e (queued_endpoint z) ≡ b
          → IsUncancelled z.desc.name w.driver
      by_walk opened true near = met_uncancelled g fixed p v asks w k.high e z here control on opened near
      by_walk opened false unmet =
          subst (λ (n : EpName). IsUncancelled n w.driver) (name_same z)
          (k.left.each e (queued_endpoint z)
          (record {
            here = get_queued w.driver.endpoints e z here;
            there = record { linked = not_opening g fixed p v asks w k.high e z here control on opened kept_told; kept = kept_told };
            unmet = unmet;
          }) (ap (λ (x : Endpoint). g.asks x.desc) (told_as g fixed p v asks w k.high e z here control on) ∙ on)).uncancelled

      by_opening : (b : Bool) → is_opening (queued w.driver) (queued_endpoint z) ≡ b → IsUncancelled z.desc.name w.driver
      by_opening true opens = opening_uncancelled g fixed p v asks w k.high e z here control on opens
      by_opening false opened = by_walk opened (may_meet (queued w.driver) e (queued_endpoint z)) refl

  pub whole_is_told : IsToldWhole w.driver asks v g.whole e z
  whole_is_told = by_gone z.gone refl

pub texts_tell_cancels : TextsTellCancels
texts_tell_cancels text s spelled n e x here control on off =
    whole_is_told (high_sides_of s) (fixed_of s) (pipes_of s) (windows_at s n) (asks_at s n) (moment s n).world
    (texts_have_cancels text s spelled n) (texts_tell_of_cancelled text s spelled n) e x here control on off
