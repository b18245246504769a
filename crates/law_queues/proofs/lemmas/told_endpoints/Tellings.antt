-- What the lines of a report tell, step by step.
use Rattle.std.proofs.Common.{◌≡◌, ◌≢◌, ℕ, ◌+◌, ◌≤◌, ◌&&◌, not, Bool, true, false, List, [], ◌∷◌, ◌++◌, length, take, drop, Option, Some, None, ap, refl, sym, subst, ◌∙◌, ⊎_elim, arith}
use Rattle.std.proofs.lemmas.Bool.{cases_eq, false≢true}
use Rattle.std.proofs.lemmas.Option.{same_Some}
use Rattle.std.proofs.lemmas.List.{append_assoc, append-nil, length-append}
use Rattle.law_queues.proofs.Common2.{not_same}
use Rattle.usb_base.specs.declared.endpoints.EpName.{EpName}
use Rattle.usb_base.specs.declared.endpoints.EndCause.{EndCause}
use Rattle.usb_base.specs.declared.reports.Report.{Report}
use Rattle.report_text.specs.ReportText.{bytes_of}
use Rattle.bus_wire.specs.Fates.{is_same_name}
use Rattle.claims_report.specs.Reports.{is_refusal, is_line_of}
use Rattle.claims_report.specs.Streams.{told_in, ends_once}
use Rattle.law_queues.specs.told_endpoints.Telling.{Named, lines_in, has_end, IsToldTo, TellsEach, SameNames}
use Rattle.law_queues.specs.told_endpoints.Steps.{Grows, Clears, NamesAt, AddsLine, AddsOtherLine}
use Rattle.law_queues.proofs.lemmas.told_endpoints.Names.{same_name_is, name_is_same}
use Rattle.law_queues.proofs.lemmas.told_endpoints.Lines.{stored_filtered, stored_more, stored_then, told_more, told_then, once_then, none_then, line_of_it, line_of_other, bytes_stored}

-- ---- endpoints are named as before

pub keeps_names : (reports : List Report) (store : List ℕ) (named now : ℕ → Option Named) (held told : ℕ → List ℕ) → SameNames named now → TellsEach reports store named held told → TellsEach reports store now held told
keeps_names reports store named now held told same k = record {
  stored = k.stored;
  each = λ e x there on. k.each e x (sym (same e) ∙ there) on;
  only = λ name others. k.only name (λ e x there. others e x (same e ∙ there));
  apart = λ e i x y one two alike. k.apart e i x y (sym (same e) ∙ one) (sym (same i) ∙ two) alike;
}

-- ---- a line of none of them

refused_by : (b : Bool) → b ≡ true → (a : Bool) → (a && not b) ≡ false
refused_by true is true = refl
refused_by true is false = refl
refused_by false is a = absurd (false≢true is)

not_of : (name : EpName) (line : Report) → is_refusal line.what ≡ true → is_line_of name line ≡ false
not_of name line refusal = refused_by (is_refusal line.what) refusal (is_same_name line.name name)

pub adds_refusal : (reports : List Report) (store : List ℕ) (named : ℕ → Option Named) (held told : ℕ → List ℕ) (line : Report) → is_refusal line.what ≡ true → line.from ≡ length store → line.len ≡ 0
    → TellsEach reports store named held told → TellsEach (reports ++ line ∷ []) store named held told
adds_refusal reports store named held told line refusal from none k =
    let same : (name : EpName) → lines_in name (reports ++ line ∷ []) ≡ lines_in name reports = λ name. line_of_other name reports line (not_of name line refusal) in
    record {
      stored = stored_then reports line (length store) k.stored (omega (arith, from, none));
      each = λ e x there on.
          let one = k.each e x there on in
          record {
            sum = ap (λ (lines : List Report). told_in store lines ++ held e) (same x.name) ∙ one.sum;
            going = λ still. ap has_end (same x.name) ∙ one.going still;
            over = λ cause is. ((one.over cause is).0, ap ends_once (same x.name) ∙ (one.over cause is).1);
          };
      only = λ name others. same name ∙ k.only name others;
      apart = k.apart;
    }

-- ---- one more endpoint

pub endpoint_more : (reports : List Report) (store : List ℕ) (named now : ℕ → Option Named) (held told : ℕ → List ℕ) (e : ℕ) (x : Named)
    → named e ≡ None → NamesAt e x named now → ((k : ℕ) (y : Named) → named k ≡ Some y → is_same_name y.name x.name ≡ false)
    → held e ≡ [] → told e ≡ [] → TellsEach reports store named held told → TellsEach reports store now held told
endpoint_more reports store named now held told e x new at others none nothing k = record {
  stored = k.stored;
  each = λ i y there on.
      ⊎_elim (λ (is : i ≡ e).
      let same : x ≡ y = same_Some x y (sym at.here ∙ ap now (sym is) ∙ there) in
      subst (λ (z : Named). IsToldTo reports store z (held i) (told i)) same
      (record {
        sum = ap (λ (lines : List Report). told_in store lines ++ held i) no_lines ∙ ap held is ∙ none ∙ sym nothing ∙ ap told (sym is);
        going = λ going. ap has_end no_lines;
        over = λ cause ended. (ap held is ∙ none, ap ends_once no_lines);
      }))
      (λ (differs : i ≢ e). k.each i y (sym (at.beside i differs) ∙ there) on) (cases_eq i e);
  only = λ name unlike. k.only name (λ i y there. unlike i y (at.beside i (λ is. absent i y is there) ∙ there));
  apart = λ i j y z one two alike.
      ⊎_elim (λ (first : i ≡ e).
      ⊎_elim (λ (second : j ≡ e). first ∙ sym second)
      (λ (differs : j ≢ e).
      let same : x ≡ y = same_Some x y (sym at.here ∙ ap now (sym first) ∙ one) in
      let names : y.name ≡ z.name = same_name_is y.name z.name alike in
      absurd (false≢true (sym (others j z (sym (at.beside j differs) ∙ two)) ∙ ap (λ (n : EpName). is_same_name n x.name) (sym names ∙ ap (λ (w : Named). w.name) (sym same)) ∙ name_is_same x.name))) (cases_eq j e))
      (λ (unlike : i ≢ e).
      ⊎_elim (λ (second : j ≡ e).
      let same : x ≡ z = same_Some x z (sym at.here ∙ ap now (sym second) ∙ two) in
      let names : y.name ≡ z.name = same_name_is y.name z.name alike in
      absurd (false≢true (sym (others i y (sym (at.beside i unlike) ∙ one)) ∙ ap (λ (n : EpName). is_same_name n x.name) (names ∙ ap (λ (w : Named). w.name) (sym same)) ∙ name_is_same x.name)))
      (λ (differs : j ≢ e). k.apart i j y z (sym (at.beside i unlike) ∙ one) (sym (at.beside j differs) ∙ two) alike) (cases_eq j e)) (cases_eq i e);
}
  where
    no_lines : lines_in x.name reports ≡ []
    no_lines = k.only x.name others

    absent : (i : ℕ) (y : Named) → i ≡ e → named i ≡ Some y → ⊥
    absent i y is there = no_name (sym new ∙ ap named (sym is) ∙ there)
      where
        no_name : None ≡ Some y → ⊥
        no_name z = cc

-- .. that goes on
pub open_adds_endpoint : (reports : List Report) (store : List ℕ) (named now : ℕ → Option Named) (held told : ℕ → List ℕ) (e : ℕ) (x : Named) → named e ≡ None → NamesAt e x named now → x.ended ≡ None
    → ((k : ℕ) (y : Named) → named k ≡ Some y → is_same_name y.name x.name ≡ false) → held e ≡ [] → told e ≡ [] → TellsEach reports store named held told → TellsEach reports store now held told
open_adds_endpoint reports store named now held told e x new at still others none nothing k =
    endpoint_more reports store named now held told e x new at others none nothing k

-- ---- more bytes are held back

pub adds_held : (reports : List Report) (store : List ℕ) (named : ℕ → Option Named) (held later told now : ℕ → List ℕ) (e : ℕ) (x : Named) (more : List ℕ) → named e ≡ Some x → x.ended ≡ None
    → Grows e more held later → Grows e more told now → TellsEach reports store named held told → TellsEach reports store named later now
adds_held reports store named held later told now e x more there still grows adds k = record {
  stored = k.stored;
  each = λ i y here on.
      ⊎_elim (λ (is : i ≡ e).
      let same : x ≡ y = same_Some x y (sym there ∙ ap named (sym is) ∙ here) in
      let one : IsToldTo reports store x (held e) (told e) = k.each e x there (ap (λ (w : Named). w.stream) same ∙ on) in
      subst (λ (z : Named). IsToldTo reports store z (later i) (now i)) same
      (record {
        sum = ap (λ (xs : List ℕ). told_in store (lines_in x.name reports) ++ xs) (ap later is ∙ grows.here) ∙ sym (append_assoc (told_in store (lines_in x.name reports)) (held e) more)
            ∙ ap (λ (xs : List ℕ). xs ++ more) one.sum ∙ sym adds.here ∙ ap now (sym is);
        going = one.going;
        over = λ cause ended. absurd (no_end cause (sym still ∙ ended));
      }))
      (λ (differs : i ≢ e).
      subst (λ (xs : List ℕ). IsToldTo reports store y xs (now i)) (sym (grows.beside i differs)) (subst (λ (xs : List ℕ). IsToldTo reports store y (held i) xs) (sym (adds.beside i differs)) (k.each i y here on))) (cases_eq i e);
  only = k.only;
  apart = k.apart;
}
  where
    no_end : (cause : EndCause) → None ≡ Some cause → ⊥
    no_end cause e = cc

-- ---- a line of one of them

-- the endpoint's name before
record WasNamed (named : ℕ → Option Named) (i : ℕ) (u : Named) : Type 0 where
  named_before : Named
  was : named i ≡ Some named_before
  same : named_before.name ≡ u.name

pub line_by : (name : EpName) (line : Report) (a : Bool) → is_same_name line.name name ≡ a → is_refusal line.what ≡ false → is_line_of name line ≡ a
line_by name line a is tells = ap (λ (b : Bool). b && not (is_refusal line.what)) is ∙ ap (λ (b : Bool). a && not b) tells ∙ and_true a
  where
    and_true : (b : Bool) → (b && true) ≡ b
    and_true true = refl
    and_true false = refl

-- what it leaves of the others
pub line_placed : (reports : List Report) (store bytes : List ℕ) (named after : ℕ → Option Named) (held later told now : ℕ → List ℕ) (e : ℕ) (x y : Named) (line : Report) → named e ≡ Some x → NamesAt e y named after
    → y.name ≡ x.name → line.name ≡ x.name → is_refusal line.what ≡ false → line.from ≡ length store → line.len ≡ length bytes → ((i : ℕ) → i ≢ e → later i ≡ held i) → ((i : ℕ) → i ≢ e → now i ≡ told i)
    → (y.stream ≡ true → IsToldTo (reports ++ line ∷ []) (store ++ bytes) y (later e) (now e)) → TellsEach reports store named held told → TellsEach (reports ++ line ∷ []) (store ++ bytes) after later now
line_placed reports store bytes named after held later told now e x y line there at name line_name tells from len held_beside told_beside told_here k = record {
  stored = stored_then reports line (length (store ++ bytes)) (stored_more reports (length store) (length (store ++ bytes)) longer k.stored) (omega (arith, from, len, long));
  each = λ i z here on.
      ⊎_elim (λ (is : i ≡ e).
      let same : y ≡ z = same_Some y z (sym at.here ∙ ap after (sym is) ∙ here) in
      subst (λ (u : Named). IsToldTo (reports ++ line ∷ []) (store ++ bytes) u (later i) (now i)) same
      (subst (λ (j : ℕ). IsToldTo (reports ++ line ∷ []) (store ++ bytes) y (later j) (now j)) (sym is) (told_here (ap (λ (w : Named). w.stream) same ∙ on))))
      (λ (differs : i ≢ e). beside i z differs (sym (at.beside i differs) ∙ here) on) (cases_eq i e);
  only = λ name_of others.
      line_of_other name_of reports line (line_by name_of line false (not_same line.name name_of (is_same_name line.name name_of) refl (λ alike. false≢true (sym (others e y at.here) ∙ ap (λ (n : EpName). is_same_name n name_of) (name ∙ sym line_name) ∙ alike))) tells)
      ∙ k.only name_of (λ i z here. unlike name_of others i z here);
  apart = λ i j u v one_is two_is alike.
      let first = before i u one_is in
      let second = before j v two_is in
      k.apart i j first.named_before second.named_before first.was second.was (ap (λ (n : EpName). is_same_name n second.named_before.name) first.same ∙ ap (is_same_name u.name) second.same ∙ alike);
}
  where
    long : length (store ++ bytes) ≡ length store + length bytes
    long = length-append store bytes

    longer : length store ≤ length (store ++ bytes)
    longer = let z : length (store ++ bytes) ≡ length store + length bytes = length-append store bytes in omega (arith, z)

    before : (i : ℕ) (u : Named) → after i ≡ Some u → WasNamed named i u
    before i u here =
        ⊎_elim (λ (is : i ≡ e).
        record { named_before = x; was = ap named is ∙ there; same = sym name ∙ ap (λ (w : Named). w.name) (same_Some y u (sym at.here ∙ ap after (sym is) ∙ here)) })
        (λ (differs : i ≢ e). record { named_before = u; was = sym (at.beside i differs) ∙ here; same = refl }) (cases_eq i e)

    unlike : (name_of : EpName) → ((i : ℕ) (z : Named) → after i ≡ Some z → is_same_name z.name name_of ≡ false) → (i : ℕ) (z : Named) → named i ≡ Some z → is_same_name z.name name_of ≡ false
    unlike name_of others i z here =
        ⊎_elim (λ (is : i ≡ e).
        ap (λ (n : EpName). is_same_name n name_of) (ap (λ (w : Named). w.name) (same_Some z x (sym here ∙ ap named is ∙ there)) ∙ sym name) ∙ others e y at.here)
        (λ (differs : i ≢ e). others i z (at.beside i differs ∙ here)) (cases_eq i e)

    other_lines : (i : ℕ) (z : Named) → i ≢ e → named i ≡ Some z → lines_in z.name (reports ++ line ∷ []) ≡ lines_in z.name reports
    other_lines i z differs here =
        line_of_other z.name reports line (line_by z.name line false (not_same line.name z.name (is_same_name line.name z.name) refl (λ alike.
        differs (sym (k.apart e i x z there here (ap (λ (n : EpName). is_same_name n z.name) (sym line_name) ∙ alike))))) tells)

    beside : (i : ℕ) (z : Named) → i ≢ e → named i ≡ Some z → z.stream ≡ true → IsToldTo (reports ++ line ∷ []) (store ++ bytes) z (later i) (now i)
    beside i z differs here on =
        let was : IsToldTo reports store z (held i) (told i) = k.each i z here on in
        let same : lines_in z.name (reports ++ line ∷ []) ≡ lines_in z.name reports = other_lines i z differs here in
        record {
          sum = ap (λ (ls : List Report). told_in (store ++ bytes) ls ++ later i) same ∙ ap (λ (xs : List ℕ). told_in (store ++ bytes) (lines_in z.name reports) ++ xs) (held_beside i differs)
              ∙ ap (λ (xs : List ℕ). xs ++ held i) (told_more (lines_in z.name reports) store bytes (stored_filtered (is_line_of z.name) reports (length store) k.stored)) ∙ was.sum ∙ sym (told_beside i differs);
          going = λ goes. ap has_end same ∙ was.going goes;
          over = λ cause ended. (held_beside i differs ∙ (was.over cause ended).0, ap ends_once same ∙ (was.over cause ended).1);
        }

-- its endpoint has a stream
pub adds_bytes : (reports : List Report) (store bytes more : List ℕ) (named after : ℕ → Option Named) (held later told now : ℕ → List ℕ) (e : ℕ) (x y : Named) (line : Report) → named e ≡ Some x → NamesAt e y named after
    → AddsLine e x y line store bytes (held e) more → Clears e held later → Grows e more told now → TellsEach reports store named held told → TellsEach (reports ++ line ∷ []) (store ++ bytes) after later now
adds_bytes reports store bytes more named after held later told now e x y line there at adds clears grows k =
    line_placed reports store bytes named after held later told now e x y line there at adds.named adds.line_named adds.tells adds.from adds.long clears.beside grows.beside
    (λ on.
    let one = k.each e x there (sym adds.alike ∙ on) in
    let none : has_end (lines_in x.name reports) ≡ false = one.going adds.going in
    record {
      sum = ap (λ (n : EpName). told_in (store ++ bytes) (lines_in n (reports ++ line ∷ [])) ++ later e) adds.named ∙ ap (λ (ls : List Report). told_in (store ++ bytes) ls ++ later e) lines_now
          ∙ ap (λ (xs : List ℕ). told_in (store ++ bytes) (lines_in x.name reports ++ line ∷ []) ++ xs) clears.here ∙ append-nil (told_in (store ++ bytes) (lines_in x.name reports ++ line ∷ [])) ∙ told_then (lines_in x.name reports) line (store ++ bytes) none
          ∙ ap (λ (xs : List ℕ). xs ++ bytes_of line (store ++ bytes)) (told_more (lines_in x.name reports) store bytes (stored_filtered (is_line_of x.name) reports (length store) k.stored))
          ∙ ap (λ (xs : List ℕ). told_in store (lines_in x.name reports) ++ xs) (bytes_now ∙ adds.bytes_are)
          ∙ sym (append_assoc (told_in store (lines_in x.name reports)) (held e) more) ∙ ap (λ (xs : List ℕ). xs ++ more) one.sum ∙ sym grows.here;
      going = λ goes. ap has_end named_lines ∙ none_then (lines_in x.name reports) line none (adds.goes_on goes);
      over = λ cause ended. (clears.here, ap ends_once named_lines ∙ once_then (lines_in x.name reports) line none);
    })
    k
  where
    lines_now : lines_in x.name (reports ++ line ∷ []) ≡ lines_in x.name reports ++ line ∷ []
    lines_now = line_of_it x.name reports line (line_by x.name line true (ap (λ (n : EpName). is_same_name n x.name) adds.line_named ∙ name_is_same x.name) adds.tells)

    named_lines : lines_in y.name (reports ++ line ∷ []) ≡ lines_in x.name reports ++ line ∷ []
    named_lines = ap (λ (n : EpName). lines_in n (reports ++ line ∷ [])) adds.named ∙ lines_now

    bytes_now : bytes_of line (store ++ bytes) ≡ bytes
    bytes_now = ap (λ (i : ℕ). take line.len (drop i (store ++ bytes))) adds.from ∙ ap (λ (i : ℕ). take i (drop (length store) (store ++ bytes))) adds.long ∙ bytes_stored store bytes

-- it has none
pub requests_add_no_stream : (reports : List Report) (store bytes : List ℕ) (named after : ℕ → Option Named) (held told : ℕ → List ℕ) (e : ℕ) (x y : Named) (line : Report) → named e ≡ Some x → NamesAt e y named after
    → AddsOtherLine x y line store bytes → TellsEach reports store named held told → TellsEach (reports ++ line ∷ []) (store ++ bytes) after held told
requests_add_no_stream reports store bytes named after held told e x y line there at adds k =
    line_placed reports store bytes named after held held told told e x y line there at adds.named adds.line_named adds.tells adds.from adds.long (λ i differs. refl) (λ i differs. refl)
    (λ on. absurd (false≢true (sym adds.none ∙ on))) k
