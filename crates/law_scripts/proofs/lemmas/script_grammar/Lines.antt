-- Reading a text and spelling it are one.
use Rattle.std.proofs.Common.{◌≡◌, ℕ, ◌≤◌, ◌+◌, ◌⊎◌, Bool, true, false, List, [], ◌∷◌, length, Option, Some, None, Result, Ok, Err, arith, refl, ap, sym, ◌∙◌, inl, inr, subst}
use Rattle.std.specs.Prelude.{codes}
use Rattle.std.specs.List.{find, list_all, list_any}
use Rattle.std.specs.Str.{bytes_eq}
use Rattle.std.proofs.lemmas.Bool.{cases_Bool, cases_eq, cases_lt, eq-eqb, ne_eqb, lt-ltb, le-ltb}
use Rattle.std.proofs.lemmas.Slice.Eq.{bytes_eq-Decides}
use Rattle.script_types.specs.declared.scripts.Script.{Script}
use Rattle.script_forms.specs.declared.causes.TextWhy.{TextWhy}
use Rattle.script_forms.specs.declared.table.FirstWord.{FirstWord}
use Rattle.script_forms.specs.declared.table.FirstWord.TheVariants as F
use Rattle.script_forms.specs.declared.table.Form.{Form}
use Rattle.script_forms.specs.Table.{first_text, first_words, first_of, is_built, built, first_in}
use Rattle.script_forms.specs.Fitting.{form_of}
use Rattle.script_forms.specs.Values.{statement_of}
use Rattle.law_scripts.proofs.lemmas.script_spelling.Furthest.{read_is_form, form_is_read}
use Rattle.script_world.specs.Draft.{Draft, empty, script_of}
use Rattle.script_world.specs.Rows.{cause_of, is_late, after}
use Rattle.script_text.specs.Reading.{lines_in, words_in, says, may_stand, no_bytes, answer, form_read, first_read, words_read, version_read, line_read, onward, lines_read, script_after, text_read, script_read}
use Rattle.law_scripts.specs.script_grammar.Texts.{Tells, SaysVersion, IsVersion, IsSilent, IsTold, LineSpells, LinesSpell, TextSpells}

find_passes : (p : FirstWord → Bool) (fs : List FirstWord) (f : FirstWord) → find p fs ≡ Some f → p f ≡ true
find_passes p [] f e = cc
find_passes p (g ∷ gs) f e = elim (cases_Bool (p g)) [
  | inl t ↦ let k = rw t at e in let s : g ≡ f = cc in ap p (sym s) ∙ t
  | inr t ↦ find_passes p gs f (rw t at e)
]

first_is : (x : List ℕ) (f : FirstWord) → first_of x ≡ Some f → x ≡ first_text f
first_is x f e = (bytes_eq-Decides x (first_text f)).0 (find_passes (λ g. bytes_eq x (first_text g)) first_words f e)

first_read_back : (f : FirstWord) → first_of (first_text f) ≡ Some f
first_read_back F.Mem = refl
first_read_back _ = refl

built_is : (version : ℕ) (o : Option FirstWord) (f : FirstWord) → built version o ≡ Some f → (o ≡ Some f) × (is_built version f ≡ true)
built_is version None f e = cc
built_is version (Some g) f e = elim (cases_Bool (is_built version g)) [
  | inl t ↦ let k = rw t at e in let s : g ≡ f = cc in (ap Some s, ap (is_built version) (sym s) ∙ t)
  | inr t ↦ let k = rw t at e in cc
]

built_back : (version : ℕ) (f : FirstWord) → is_built version f ≡ true → first_in version (first_text f) ≡ Some f
built_back version f e = ap (built version) (first_read_back f) ∙ rw e refl

answer_ok : (c : Option TextWhy) (a v : Draft) → answer c a ≡ Ok v → (c ≡ None) × (v ≡ a)
answer_ok None a v e = (refl, cc)
answer_ok (Some why) a v e = cc

record FormRead (w : Draft) (n : ℕ) (more : List (List ℕ)) (r : Result Form TextWhy) (v : Draft) : Type 0 where
  form : Form
  is : r ≡ Ok form
  allowed : cause_of w (statement_of form more) ≡ None
  new : v ≡ after w n (statement_of form more)

form_ok : (w : Draft) (n : ℕ) (more : List (List ℕ)) (r : Result Form TextWhy) (v : Draft) → form_read w n more r ≡ Ok v → FormRead w n more r v
form_ok w n more (Ok f) v e = let a = answer_ok (cause_of w (statement_of f more)) (after w n (statement_of f more)) v e in record { form = f; is = refl; allowed = a.0; new = a.1 }
form_ok w n more (Err why) v e = cc

record FirstRead (w : Draft) (n : ℕ) (more : List (List ℕ)) (o : Option FirstWord) (v : Draft) : Type 0 where
  first : FirstWord
  is : o ≡ Some first
  early : is_late w first ≡ false
  read : form_read w n more (form_of w.version first more) ≡ Ok v

first_ok : (w : Draft) (n : ℕ) (more : List (List ℕ)) (o : Option FirstWord) (v : Draft) → first_read w n more o ≡ Ok v → FirstRead w n more o v
first_ok w n more None v e = cc
first_ok w n more (Some f) v e = elim (cases_Bool (is_late w f)) [
  | inl t ↦ let k = rw t at e in cc
  | inr t ↦ record { first = f; is = refl; early = t; read = rw t at e }
]

words_ok : (w : Draft) (n : ℕ) (line : List ℕ) (ws : List (List ℕ)) (v : Draft) → words_in line ≡ ws → words_read w n ws ≡ Ok v → Tells w n line v
words_ok w n line [] v i e = cc
words_ok w n line (x ∷ more) v i e = elim (cases_Bool (list_any no_bytes (x ∷ more))) [
  | inl t ↦ let k = rw t at e in cc
  | inr t ↦ let r = first_ok w n more (first_in w.version x) v (rw t at e) in
      let first = built_is w.version (first_of x) r.first r.is in
      let d = form_ok w n more (form_of w.version r.first more) v r.read in
      let s : x ≡ first_text r.first = first_is x r.first first.0 in
      record {
        first = r.first;
        more = more;
        form = d.form;
        words = i ∙ ap (λ y. y ∷ more) s;
        whole = ap (λ y. list_any no_bytes (y ∷ more)) (sym s) ∙ t;
        built = first.1;
        early = r.early;
        spelled = read_is_form w.version r.first more d.form d.is;
        allowed = d.allowed;
        new = d.new;
      }
]

tells_read : (w : Draft) (n : ℕ) (line : List ℕ) (v : Draft) → Tells w n line v → words_read w n (words_in line) ≡ Ok v
tells_read w n line v t =
    ap (words_read w n) t.words
    ∙ rw (t.whole, built_back w.version t.first t.built, t.early, form_is_read w.version t.first t.more t.form t.spelled, t.allowed)
    (ap Ok (sym t.new))

version_ok : (w : Draft) (line : List ℕ) (v : Draft) → version_read w line ≡ Ok v → SaysVersion w line v
version_ok w line v e = elim (cases_Bool (bytes_eq line (codes "ehci 1"))) [
  | inl b ↦ let k = rw (b) at e in inl ((bytes_eq-Decides line (codes "ehci 1")).0 b, cc)
  | inr b ↦ elim (cases_Bool (bytes_eq line (codes "ehci 2"))) [
    | inl c ↦ let k = rw (b, c) at e in inr ((bytes_eq-Decides line (codes "ehci 2")).0 c, cc)
    | inr c ↦ let k = rw (b, c) at e in cc
  ]
]

version_spelled : (w : Draft) (line : List ℕ) (v : Draft) → SaysVersion w line v → version_read w line ≡ Ok v
version_spelled w line v (inl x) = subst (λ (l : List ℕ). version_read w l ≡ Ok v) (sym x.0) (ap Ok (sym x.1))
version_spelled w line v (inr x) = subst (λ (l : List ℕ). version_read w l ≡ Ok v) (sym x.0) (ap Ok (sym x.1))

line_ok : (w : Draft) (n : ℕ) (line : List ℕ) (v : Draft) → line_read w n line ≡ Ok v → LineSpells w n line v
line_ok w n line v e = elim (cases_lt 65535 (length line)) [
  | inl l ↦ let k = rw (lt-ltb 65535 (length line) l) at e in cc
  | inr l ↦ elim (cases_Bool (list_all may_stand line)) [
    | inr p ↦ let k = rw (le-ltb 65535 (length line) l, p) at e in cc
    | inl p ↦ elim (cases_eq n 1) [
      | inl o ↦ let k = rw (le-ltb 65535 (length line) l, p, eq-eqb n 1 o) at e in
          record { short = l; plain = p; kind = inl (record { first = o; version = version_ok w line v k }) }
      | inr o ↦ elim (cases_Bool (says line)) [
        | inl s ↦ let k = rw (le-ltb 65535 (length line) l, p, ne_eqb n 1 o, s) at e in
            record { short = l; plain = p; kind = inr (inr (record { later = o; loud = s; tells = words_ok w n line (words_in line) v refl k })) }
        | inr s ↦ let k = rw (le-ltb 65535 (length line) l, p, ne_eqb n 1 o, s) at e in
            record { short = l; plain = p; kind = inr (inl (record { later = o; silent = s; same = cc })) }
      ]
    ]
  ]
]

line_spelled : (w : Draft) (n : ℕ) (line : List ℕ) (v : Draft) → length line ≤ 65535 → list_all may_stand line ≡ true → IsVersion w n line v ⊎ (IsSilent w n line v ⊎ IsTold w n line v) → line_read w n line ≡ Ok v
line_spelled w n line v l p (inl k) =
    rw (le-ltb 65535 (length line) l, p, eq-eqb n 1 k.first) (version_spelled w line v k.version)
line_spelled w n line v l p (inr (inl k)) = rw (le-ltb 65535 (length line) l, p, ne_eqb n 1 k.later, k.silent) (ap Ok (sym k.same))
line_spelled w n line v l p (inr (inr k)) = rw (le-ltb 65535 (length line) l, p, ne_eqb n 1 k.later, k.loud) (tells_read w n line v k.tells)

record LineRead (w : Draft) (n : ℕ) (r : Result Draft TextWhy) (lines : List (List ℕ)) (v : Draft) : Type 0 where
  next : Draft
  is : r ≡ Ok next
  rest : lines_read next (n + 1) lines ≡ Ok v

onward_ok : (w : Draft) (n : ℕ) (r : Result Draft TextWhy) (lines : List (List ℕ)) (v : Draft) → onward n r (λ u. lines_read u (n + 1) lines) ≡ Ok v → LineRead w n r lines v
onward_ok w n (Ok u) lines v e = record { next = u; is = refl; rest = e }
onward_ok w n (Err why) lines v e = cc

lines_ok : (w : Draft) (n : ℕ) (lines : List (List ℕ)) (v : Draft) → lines_read w n lines ≡ Ok v → LinesSpell w n lines v
lines_ok w n [] v e = cc
lines_ok w n (line ∷ lines) v e = let r = onward_ok w n (line_read w n line) lines v e in (r.next, (line_ok w n line r.next r.is, lines_ok r.next (n + 1) lines v r.rest))

lines_spelled : (w : Draft) (n : ℕ) (lines : List (List ℕ)) (v : Draft) → LinesSpell w n lines v → lines_read w n lines ≡ Ok v
lines_spelled w n [] v h = ap Ok (sym h)
lines_spelled w n (line ∷ lines) v (u, (h, k)) = ap (λ r. onward n r (λ x. lines_read x (n + 1) lines)) (line_spelled w n line u h.short h.plain h.kind) ∙ lines_spelled u (n + 1) lines v k

record TextRead (r : Result Draft (ℕ × TextWhy)) (s : Script) : Type 0 where
  last : Draft
  is : r ≡ Ok last
  script : s ≡ script_of last

after_ok : (r : Result Draft (ℕ × TextWhy)) (s : Script) → script_after r ≡ Ok s → TextRead r s
after_ok (Ok w) s e = record { last = w; is = refl; script = cc }
after_ok (Err fault) s e = cc

text_by : (text : List ℕ) (s : Script) (last : Draft) → text_read text ≡ Ok last → s ≡ script_of last → TextSpells text s
text_by text s last is script = elim (cases_lt 1048576 (length text)) [
  | inl l ↦ let k = rw (lt-ltb 1048576 (length text) l) at is in cc
  | inr l ↦ elim (cases_Bool (no_bytes text)) [
    | inl b ↦
        let k = rw (le-ltb 1048576 (length text) l, b) at is in
        let same : last ≡ empty = cc in
        inl (record { none = b; script = script ∙ ap script_of same })
    | inr b ↦
        let k = rw (le-ltb 1048576 (length text) l, b) at is in
        inr (record { size = l; some = b; last = last; lines = lines_ok empty 1 (lines_in text) last k; script = script })
  ]
]

pub text_ok : (text : List ℕ) (s : Script) → script_read text ≡ Ok s → TextSpells text s
unfolding script_read
text_ok text s e = let r = after_ok (text_read text) s e in text_by text s r.last r.is r.script

empty_short : (text : List ℕ) → no_bytes text ≡ true → length text ≤ 1048576
empty_short [] e = omega arith
empty_short (b ∷ bs) e = cc

pub text_spelled : (text : List ℕ) (s : Script) → TextSpells text s → script_read text ≡ Ok s
unfolding script_read
text_spelled text s (inl h) = rw (le-ltb 1048576 (length text) (empty_short text h.none), h.none) (ap Ok (sym h.script))
text_spelled text s (inr h) = rw (le-ltb 1048576 (length text) h.size, h.some, lines_spelled empty 1 (lines_in text) h.last h.lines) (ap Ok (sym h.script))
