-- One more line of a report.
use Rattle.std.proofs.Common.{◌≡◌, ℕ, zero, suc, ◌+◌, ◌≤◌, ◌&&◌, ◌||◌, not, Bool, true, false, if◌then◌else◌, List, [], ◌∷◌, ◌++◌, length, take, drop, filter, ap, refl, sym, ◌∙◌, arith}
use Rattle.std.proofs.lemmas.List.{append_assoc, append-nil, take-append-le, take_all}
use Rattle.std.proofs.lemmas.List.Elements.{filter-append}
use Rattle.std.proofs.Math.Seq.{drop-append_seam}
use Rattle.law_common.proofs.Booleans.{or_both}
use Rattle.usb_base.specs.declared.endpoints.EpName.{EpName}
use Rattle.usb_base.specs.declared.reports.Report.{Report}
use Rattle.report_text.specs.ReportText.{bytes_of, AreStored}
use Rattle.claims_report.specs.Reports.{is_end, is_line_of}
use Rattle.claims_report.specs.Streams.{told_in, ends_once}
use Rattle.law_queues.specs.told_endpoints.Telling.{lines_in, has_end}

-- ---- the lines' bytes are stored

kept_by : (b : Bool) (line : Report) (rest : List Report) (n : ℕ) → line.from + line.len ≤ n → AreStored rest n → AreStored (if b then line ∷ rest else rest) n
kept_by true line rest n within k = (within, k)
kept_by false line rest n within k = k

pub stored_filtered : (p : Report → Bool) (lines : List Report) (n : ℕ) → AreStored lines n → AreStored (filter p lines) n
stored_filtered p [] n k = tt
stored_filtered p (line ∷ rest) n k = kept_by (p line) line (filter p rest) n k.0 (stored_filtered p rest n k.1)

pub stored_more : (lines : List Report) (n m : ℕ) → n ≤ m → AreStored lines n → AreStored lines m
stored_more [] n m grows k = tt
stored_more (line ∷ rest) n m grows k = (let a = k.0 in omega (arith, a, grows), stored_more rest n m grows k.1)

pub stored_then : (lines : List Report) (line : Report) (n : ℕ) → AreStored lines n → line.from + line.len ≤ n → AreStored (lines ++ line ∷ []) n
stored_then [] line n k within = (within, tt)
stored_then (first ∷ rest) line n k within = (k.0, stored_then rest line n k.1 within)

drop_front : (i : ℕ) (xs ys : List ℕ) → i ≤ length xs → drop i (xs ++ ys) ≡ drop i xs ++ ys
drop_front zero xs ys within = refl
drop_front (suc i) [] ys within = absurd (omega (arith, within))
drop_front (suc i) (x ∷ xs) ys within = drop_front i xs ys (omega (arith, within))

length_dropped : (i k : ℕ) (xs : List ℕ) → i + k ≤ length xs → k ≤ length (drop i xs)
length_dropped zero k xs within = omega (arith, within)
length_dropped (suc i) k [] within = absurd (omega (arith, within))
length_dropped (suc i) k (x ∷ xs) within = length_dropped i k xs (omega (arith, within))

pub bytes_more : (line : Report) (store more : List ℕ) → line.from + line.len ≤ length store → bytes_of line (store ++ more) ≡ bytes_of line store
bytes_more line store more within =
    ap (take line.len) (drop_front line.from store more (omega (arith, within)))
    ∙ take-append-le line.len (drop line.from store) more (length_dropped line.from line.len store within)

either_more : (b : Bool) (a c x y : List ℕ) → a ≡ c → x ≡ y → a ++ (if b then [] else x) ≡ c ++ (if b then [] else y)
either_more true a c x y first rest = ap (λ (zs : List ℕ). zs ++ []) first
either_more false a c x y first rest = ap (λ (zs : List ℕ). zs ++ x) first ∙ ap (λ (zs : List ℕ). c ++ zs) rest

-- what the lines tell stays where the store is longer
pub told_more : (lines : List Report) (store more : List ℕ) → AreStored lines (length store) → told_in (store ++ more) lines ≡ told_in store lines
told_more [] store more k = refl
told_more (line ∷ rest) store more k =
    either_more (is_end line.what) (bytes_of line (store ++ more)) (bytes_of line store) (told_in (store ++ more) rest) (told_in store rest) (bytes_more line store more k.0) (told_more rest store more k.1)

-- ---- lines, and one behind them

-- none of them ends it
pub told_then : (lines : List Report) (line : Report) (store : List ℕ) → has_end lines ≡ false → told_in store (lines ++ line ∷ []) ≡ told_in store lines ++ bytes_of line store
told_then [] line store none = by_end (is_end line.what)
  where
    by_end : (b : Bool) → bytes_of line store ++ (if b then [] else []) ≡ bytes_of line store
    by_end true = append-nil (bytes_of line store)
    by_end false = append-nil (bytes_of line store)
told_then (first ∷ rest) line store none =
    let both = or_both (is_end first.what) (has_end rest) none in
    ap (λ (b : Bool). bytes_of first store ++ (if b then [] else told_in store (rest ++ line ∷ []))) both.0
    ∙ ap (λ (zs : List ℕ). bytes_of first store ++ zs) (told_then rest line store both.1)
    ∙ sym (append_assoc (bytes_of first store) (told_in store rest) (bytes_of line store))
    ∙ ap (λ (b : Bool). (bytes_of first store ++ (if b then [] else told_in store rest)) ++ bytes_of line store) (sym both.0)

-- so it ends once at most
once_with : (first : Report) (rest : List Report) → is_end first.what ≡ false → ends_once rest ≡ true → ends_once (first ∷ rest) ≡ true
once_with first [] none once = refl
once_with first (second ∷ rest) none once = ap (λ (b : Bool). not b && ends_once (second ∷ rest)) none ∙ once

pub once_without : (lines : List Report) → has_end lines ≡ false → ends_once lines ≡ true
once_without [] none = refl
once_without (first ∷ rest) none =
    let both = or_both (is_end first.what) (has_end rest) none in
    once_with first rest both.0 (once_without rest both.1)

pub once_then : (lines : List Report) (line : Report) → has_end lines ≡ false → ends_once (lines ++ line ∷ []) ≡ true
once_then [] line none = refl
once_then (first ∷ rest) line none =
    let both = or_both (is_end first.what) (has_end rest) none in
    once_with first (rest ++ line ∷ []) both.0 (once_then rest line both.1)

pub none_then : (lines : List Report) (line : Report) → has_end lines ≡ false → is_end line.what ≡ false → has_end (lines ++ line ∷ []) ≡ false
none_then [] line none last = ap (λ (b : Bool). b || false) last
none_then (first ∷ rest) line none last =
    let both = or_both (is_end first.what) (has_end rest) none in
    ap (λ (b : Bool). b || has_end (rest ++ line ∷ [])) both.0 ∙ none_then rest line both.1 last

-- ---- the lines of one endpoint

pub line_of_it : (name : EpName) (reports : List Report) (line : Report) → is_line_of name line ≡ true → lines_in name (reports ++ line ∷ []) ≡ lines_in name reports ++ line ∷ []
line_of_it name reports line is = filter-append (is_line_of name) reports (line ∷ []) ∙ ap (λ (b : Bool). lines_in name reports ++ (if b then line ∷ [] else [])) is

pub line_of_other : (name : EpName) (reports : List Report) (line : Report) → is_line_of name line ≡ false → lines_in name (reports ++ line ∷ []) ≡ lines_in name reports
line_of_other name reports line is =
    filter-append (is_line_of name) reports (line ∷ []) ∙ ap (λ (b : Bool). lines_in name reports ++ (if b then line ∷ [] else [])) is ∙ append-nil (lines_in name reports)

-- the bytes that are stored with a line
pub bytes_stored : (store bytes : List ℕ) → take (length bytes) (drop (length store) (store ++ bytes)) ≡ bytes
bytes_stored store bytes = ap (take (length bytes)) (drop-append_seam store bytes) ∙ take_all (length bytes) bytes (omega arith)
