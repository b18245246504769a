-- A report line by line.
use Rattle.std.proofs.Common.{◌≡◌, ℕ, ◌+◌, ◌<◌, List, [], ◌∷◌, ◌++◌, length, get_or, take, drop, Option, append_assoc, ap, sym, ◌∙◌, subst}
use Rattle.std.specs.Io.KnownBytes.{Appends}
use Rattle.std.proofs.lemmas.List.{take_more, take-append-drop, append-nil}
use Rattle.std.proofs.lemmas.List.Concat.{flat_map-append}
use Rattle.usb_base.specs.declared.reports.Report.{Report}
use Rattle.usb_base.specs.Outside.{AppendsPrefix}
use Rattle.usb_base.proofs.Known.{appends_join}
use Rattle.report_text.specs.ReportText.{report_line, report_text}
use Rattle.report_text.proofs.Prefixes.{prefix_of_first, prefix_of_second}

-- one line more
text_more : (store : List ℕ) (rs : List Report) (i : ℕ) (r : Report) → i < length rs → r ≡ get_or rs i r → report_text (take (i + 1) rs) store ≡ report_text (take i rs) store ++ report_line store r
text_more store rs i r h e =
    ap (λ x. report_text x store) (take_more rs i r h)
    ∙ flat_map-append (report_line store) (take i rs) (get_or rs i r ∷ [])
    ∙ ap (λ x. report_text (take i rs) store ++ x) (append-nil (report_line store (get_or rs i r)) ∙ ap (report_line store) (sym e))

-- the lines so far, the next line, and the others
text_parts : (store : List ℕ) (rs : List Report) (i : ℕ) (r : Report) → i < length rs → r ≡ get_or rs i r → report_text rs store ≡ report_text (take i rs) store ++ (report_line store r ++ report_text (drop (i + 1) rs) store)
text_parts store rs i r h e =
    ap (λ x. report_text x store) (sym (take-append-drop (i + 1) rs))
    ∙ flat_map-append (report_line store) (take (i + 1) rs) (drop (i + 1) rs)
    ∙ ap (λ x. x ++ report_text (drop (i + 1) rs) store) (text_more store rs i r h e)
    ∙ append_assoc (report_text (take i rs) store) (report_line store r) (report_text (drop (i + 1) rs) store)

pub appends_line : (a b c : Option (List ℕ)) (store : List ℕ) (rs : List Report) (i : ℕ) (r : Report) → i < length rs → r ≡ get_or rs i r → Appends a b (report_text (take i rs) store) → Appends b c (report_line store r) → Appends a c (report_text (take (i + 1) rs) store)
appends_line a b c store rs i r h e s k = subst (Appends a c) (sym (text_more store rs i r h e)) (appends_join a b c _ _ s k)

pub prefix_of_line : (a b c : Option (List ℕ)) (store : List ℕ) (rs : List Report) (i : ℕ) (r : Report) → i < length rs → r ≡ get_or rs i r → Appends a b (report_text (take i rs) store) → AppendsPrefix b c (report_line store r) → AppendsPrefix a c (report_text rs store)
prefix_of_line a b c store rs i r h e s k =
    let front : AppendsPrefix b c (report_line store r ++ report_text (drop (i + 1) rs) store) = prefix_of_first b c (report_line store r) (report_text (drop (i + 1) rs) store) k in
    subst (AppendsPrefix a c) (sym (text_parts store rs i r h e)) (prefix_of_second a b c _ _ s front)
