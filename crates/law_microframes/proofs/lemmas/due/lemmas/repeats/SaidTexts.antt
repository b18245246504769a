-- What each line of a text keeps, also by what its form says, holds of the script that the text spells.
use Rattle.std.proofs.Common.{◌≡◌, ℕ, ◌+◌, Bool, true, false, List, [], ◌∷◌, length, Option, Some, None, Result, Ok, Err, refl, subst}
use Rattle.std.specs.Prelude.{nat_lt, not, ◌==◌, codes, if◌then◌else◌}
use Rattle.std.specs.List.{list_all, list_any}
use Rattle.std.specs.Str.{bytes_eq}
use Rattle.std.proofs.lemmas.Bool.{cond_both}
use Rattle.script_types.specs.declared.scripts.Script.{Script}
use Rattle.script_forms.specs.declared.causes.TextWhy.{TextWhy}
use Rattle.script_forms.specs.declared.causes.TextWhy.TheVariants as C
use Rattle.script_forms.specs.declared.table.FirstWord.{FirstWord}
use Rattle.script_forms.specs.declared.table.Form.{Form}
use Rattle.script_forms.specs.declared.statements.Statement.{Statement}
use Rattle.script_forms.specs.Table.{first_in}
use Rattle.script_forms.specs.Fitting.{form_of}
use Rattle.script_forms.specs.Values.{statement_of}
use Rattle.script_world.specs.Draft.{Draft, empty, script_of}
use Rattle.script_world.specs.Ranges.{in_range}
use Rattle.script_world.specs.Rows.{cause_of, is_known, is_twice, has_room, is_late, after}
use Rattle.script_text.specs.Reading.{lines_in, words_in, says, may_stand, no_bytes, answer, said, form_read, first_read, words_read, version_read, line_read, onward, lines_read, script_after}
use Rattle.script_text.specs.Reading.{text_read, script_read}
use Rattle.script_text.specs.Faults.{Spells}
use Rattle.script_fits.proofs.Numbers.{form_is_ranged}
use Rattle.script_fits.proofs.Statements.{IsSaid, form_said}

-- a line that is taken is in range, and says nothing again
pub record IsTaken (w : Draft) (s : Statement) : Type 0 where
  pub ranged : in_range w s ≡ true
  pub new : is_twice w s ≡ false
  pub said : IsSaid s

taken_by : (a b c d : Bool)
    → (if not a then Some C.Range else if not b then Some C.Unknown else if c then Some C.Twice else if not d then Some C.Limit else None)
    ≡ None
    → (a ≡ true) × (c ≡ false)
taken_by false b c d h = cc
taken_by true false c d h = cc
taken_by true true true d h = cc
taken_by true true false d h = (refl, refl)

pub record IsScriptOf (P : Draft → Type 0) (s : Script) : Type 0 where
  pub draft : Draft
  pub holds : P draft
  pub is : script_of draft ≡ s

module _ (P : Draft → Type 0) (at_first : P empty) (second : (w : Draft) → P w → P (record w { version = 2 }))
    (keeps : (w : Draft) (n : ℕ) (s : Statement) → IsTaken w s → P w → P (after w n s)) where
  abbrev Read : {X : Type 0} → Result Draft X → Type 0
  Read (Ok w) = P w
  Read (Err x) = Unit {0}

  answered : (why : Option TextWhy) (v : Draft) → (why ≡ None → P v) → Read (answer why v)
  answered None v h = h refl
  answered (Some why) v h = tt

  said_kept : (w : Draft) (n : ℕ) (s : Statement) → IsSaid s → P w → Read (said w n s)
  said_kept w n s is h =
      answered (cause_of w s) (after w n s) (λ e.
      let t = taken_by (in_range w s) (is_known w s) (is_twice w s) (has_room w s) e in
      keeps w n s (record { ranged = t.0; new = t.1; said = is }) h)

  form_kept : (w : Draft) (n : ℕ) (first : FirstWord) (more : List (List ℕ)) (form : Result Form TextWhy)
      → form_of w.version first more ≡ form → P w → Read (form_read w n more form)
  form_kept w n first more (Ok form) e h =
      said_kept w n (statement_of form more) (form_said form more (form_is_ranged w.version first more form e)) h
  form_kept w n first more (Err why) e h = tt

  first_kept : (w : Draft) (n : ℕ) (more : List (List ℕ)) (first : Option FirstWord) → P w → Read (first_read w n more first)
  first_kept w n more None h = tt
  first_kept w n more (Some first) h =
      cond_both (is_late w first) (Err C.Late) (form_read w n more (form_of w.version first more)) Read
      (λ _. tt) (λ _. form_kept w n first more (form_of w.version first more) refl h)

  words_kept : (w : Draft) (n : ℕ) (ws : List (List ℕ)) → P w → Read (words_read w n ws)
  words_kept w n [] h = tt
  words_kept w n (first ∷ more) h =
      cond_both (list_any no_bytes (first ∷ more)) (Err C.Word) (first_read w n more (first_in w.version first)) Read
      (λ _. tt) (λ _. first_kept w n more (first_in w.version first) h)

  version_kept : (w : Draft) (line : List ℕ) → P w → Read (version_read w line)
  version_kept w line h =
      cond_both (bytes_eq line (codes "ehci 1")) (Ok w) _ Read (λ _. h)
      (λ _. cond_both (bytes_eq line (codes "ehci 2")) (Ok (record w { version = 2 })) (Err C.Version) Read (λ _. second w h) (λ _. tt))

  line_kept : (w : Draft) (n : ℕ) (line : List ℕ) → P w → Read (line_read w n line)
  line_kept w n line h =
      cond_both (nat_lt 65535 (length line)) (Err C.Long) _ Read (λ _. tt)
      (λ _. cond_both (not (list_all may_stand line)) (Err C.Byte) _ Read (λ _. tt)
      (λ _. cond_both (n == 1) (version_read w line) _ Read (λ _. version_kept w line h)
      (λ _. cond_both (says line) (words_read w n (words_in line)) (Ok w) Read (λ _. words_kept w n (words_in line) h) (λ _. h))))

  onward_kept : (n : ℕ) (x : Result Draft TextWhy) (next : Draft → Result Draft (ℕ × TextWhy)) → ((v : Draft) → P v → Read (next v))
      → Read x → Read (onward n x next)
  onward_kept n (Ok w) next g h = g w h
  onward_kept n (Err why) next g h = tt

  lines_kept : (w : Draft) (n : ℕ) (lines : List (List ℕ)) → P w → Read (lines_read w n lines)
  lines_kept w n [] h = h
  lines_kept w n (line ∷ lines) h =
      onward_kept n (line_read w n line) (λ v. lines_read v (n + 1) lines) (λ v k. lines_kept v (n + 1) lines k) (line_kept w n line h)

  text_kept : (text : List ℕ) → Read (text_read text)
  text_kept text =
      cond_both (nat_lt 1048576 (length text)) (Err (0, C.Long)) _ Read (λ _. tt)
      (λ _. cond_both (no_bytes text) (Ok empty) (lines_read empty 1 (lines_in text)) Read (λ _. at_first)
      (λ _. lines_kept empty 1 (lines_in text) at_first))

  abbrev Run : Result Script (ℕ × TextWhy) → Type 0
  Run (Ok s) = IsScriptOf P s
  Run (Err fault) = Unit {0}

  after_text : (x : Result Draft (ℕ × TextWhy)) → Read x → Run (script_after x)
  after_text (Ok w) h = record { draft = w; holds = h; is = refl }
  after_text (Err fault) h = tt

  pub spelled_said : (text : List ℕ) (s : Script) → Spells text s → IsScriptOf P s
  unfolding script_read
  spelled_said text s e = subst Run e (after_text (text_read text) (text_kept text))
