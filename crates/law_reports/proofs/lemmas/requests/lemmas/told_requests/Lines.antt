-- One more line of a report, of the endpoint or of others.
use Rattle.std.proofs.Common.{◌≡◌, ℕ, ◌+◌, ◌≤◌, List, [], ◌∷◌, ◌++◌, length, take, drop, ap, refl, sym, subst, ◌∙◌, arith}
use Rattle.std.proofs.lemmas.List.{length-append}
use Rattle.usb_base.specs.declared.reports.Report.{Report}
use Rattle.report_text.specs.ReportText.{bytes_of, AreStored}
use Rattle.claims_report.specs.Requests.{Request, Window, IsTold, left_by, AreTold}
use Rattle.law_queues.specs.told_endpoints.Telling.{lines_in}
use Rattle.law_queues.proofs.lemmas.told_endpoints.Lines.{stored_more, stored_then, bytes_more, line_of_it, line_of_other, bytes_stored}
use Rattle.law_reports.specs.requests.told_requests.Told.{left_after}
use Rattle.law_reports.specs.requests.told_requests.Steps.{NoneIsTold, LineIsTold, OtherLineIsTold}

-- ---- the lines of one endpoint

-- they tell the same where the store is longer
pub still_told : (whole : Request → List ℕ) (store bytes : List ℕ) (lines : List Report) (ws : List Window) → AreStored lines (length store) → AreTold whole store ws lines → AreTold whole (store ++ bytes) ws lines
still_told whole store bytes [] ws stored told = tt
still_told whole store bytes (line ∷ rest) ws stored told = (
  subst (λ (xs : List ℕ). IsTold whole line.what xs ws) (sym (bytes_more line store bytes stored.0)) told.0,
  still_told whole store bytes rest (left_by line.what ws) stored.1 told.1,
)

pub told_then : (whole : Request → List ℕ) (store : List ℕ) (lines : List Report) (line : Report) (ws : List Window) → AreTold whole store ws lines → IsTold whole line.what (bytes_of line store) (left_after lines ws)
    → AreTold whole store ws (lines ++ line ∷ [])
told_then whole store [] line ws told last = (last, tt)
told_then whole store (first ∷ rest) line ws told last = (told.0, told_then whole store rest line (left_by first.what ws) told.1 last)

left_then : (lines : List Report) (line : Report) (ws : List Window) → left_after (lines ++ line ∷ []) ws ≡ left_by line.what (left_after lines ws)
left_then [] line ws = refl
left_then (first ∷ rest) line ws = left_then rest line (left_by first.what ws)

longer : (store bytes : List ℕ) → length store ≤ length (store ++ bytes)
longer store bytes = let long : length (store ++ bytes) ≡ length store + length bytes = length-append store bytes in omega (arith, long)

-- ---- of a report

pub none_is_told : NoneIsTold
none_is_told reports store name whole ws none = record {
  told = subst (AreTold whole store ws) (sym none) tt;
  rest = ap (λ (ls : List Report). left_after ls ws) none;
  stored = subst (λ (ls : List Report). AreStored ls (length store)) (sym none) tt;
}

pub other_line_is_told : OtherLineIsTold
other_line_is_told reports store bytes name whole ws left line other k =
    let same : lines_in name (reports ++ line ∷ []) ≡ lines_in name reports = line_of_other name reports line other in
    record {
      told = subst (AreTold whole (store ++ bytes) ws) (sym same) (still_told whole store bytes (lines_in name reports) ws k.stored k.told);
      rest = ap (λ (ls : List Report). left_after ls ws) same ∙ k.rest;
      stored = subst (λ (ls : List Report). AreStored ls (length (store ++ bytes))) (sym same) (stored_more (lines_in name reports) (length store) (length (store ++ bytes)) (longer store bytes) k.stored);
    }

pub line_is_told : LineIsTold
line_is_told reports store bytes name whole ws left line adds k = record {
  told = subst (AreTold whole (store ++ bytes) ws) (sym now)
      (told_then whole (store ++ bytes) (lines_in name reports) line ws (still_told whole store bytes (lines_in name reports) ws k.stored k.told)
      (subst (IsTold whole line.what (bytes_of line (store ++ bytes))) (sym k.rest) (subst (λ (xs : List ℕ). IsTold whole line.what xs left) (sym bytes_now) adds.is)));
  rest = ap (λ (ls : List Report). left_after ls ws) now ∙ left_then (lines_in name reports) line ws ∙ ap (left_by line.what) k.rest;
  stored = subst (λ (ls : List Report). AreStored ls (length (store ++ bytes))) (sym now)
      (stored_then (lines_in name reports) line (length (store ++ bytes)) (stored_more (lines_in name reports) (length store) (length (store ++ bytes)) (longer store bytes) k.stored)
      (let from = adds.from in let long = adds.long in let all : length (store ++ bytes) ≡ length store + length bytes = length-append store bytes in omega (arith, from, long, all)));
}
  where
    now : lines_in name (reports ++ line ∷ []) ≡ lines_in name reports ++ line ∷ []
    now = line_of_it name reports line adds.own

    bytes_now : bytes_of line (store ++ bytes) ≡ bytes
    bytes_now = ap (λ (i : ℕ). take line.len (drop i (store ++ bytes))) adds.from ∙ ap (λ (i : ℕ). take i (drop (length store) (store ++ bytes))) adds.long ∙ bytes_stored store bytes
