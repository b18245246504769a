-- What holds of a script of no line, and stays at each line, holds of the script that a text spells.
use Rattle.std.proofs.Common.{ℕ, ◌+◌, List, [], ◌∷◌, length, Option, Some, None, Result, Ok, Err, subst}
use Rattle.std.specs.Prelude.{if◌then◌else◌, nat_lt, not, ◌==◌, codes}
use Rattle.std.specs.List.{list_all, list_any}
use Rattle.std.specs.Str.{bytes_eq}
use Rattle.std.proofs.lemmas.Bool.{cond_both}
use Rattle.script_types.specs.declared.scripts.Script.{Script}
use Rattle.script_forms.specs.declared.causes.TextWhy.{TextWhy}
use Rattle.script_forms.specs.declared.causes.TextWhy.TheVariants as C
use Rattle.script_forms.specs.declared.table.FirstWord.{FirstWord}
use Rattle.script_forms.specs.declared.table.Form.{Form}
use Rattle.script_forms.specs.declared.statements.Statement.{Statement}
use Rattle.script_forms.specs.Table.{first_in}
use Rattle.script_forms.specs.Fitting.{form_of}
use Rattle.script_forms.specs.Values.{statement_of}
use Rattle.script_world.specs.Draft.{Draft, empty}
use Rattle.script_world.specs.Rows.{cause_of, is_late, after}
use Rattle.script_text.specs.Reading.{lines_in, words_in, says, may_stand, no_bytes, answer, form_read, first_read, words_read, version_read, line_read, onward, lines_read, script_after}
use Rattle.script_text.specs.Reading.{text_read, script_read}
use Rattle.script_text.specs.Faults.{Spells}
use Rattle.law_scripts.specs.Numbers.{NumbersOpens}
use Rattle.law_scripts.proofs.Drafts.{IsNumberedDraft, after_numbers}

abbrev Keeps : {X : Type 0} → (Draft → Type 0) → Result Draft X → Type 0
Keeps P (Ok w) = P w
Keeps P (Err x) = Unit {0}

module _ (P : Draft → Type 0) (second : (w : Draft) → P w → P (record w { version = 2 })) (kept : (w : Draft) (n : ℕ) (s : Statement) → P w → P (after w n s)) where
  -- ---- a line

  answer_keeps : (why : Option TextWhy) (v : Draft) → P v → Keeps P (answer why v)
  answer_keeps None v h = h
  answer_keeps (Some why) v h = tt

  form_keeps : (w : Draft) (n : ℕ) (more : List (List ℕ)) (form : Result Form TextWhy) → P w → Keeps P (form_read w n more form)
  form_keeps w n more (Ok form) h = answer_keeps (cause_of w (statement_of form more)) (after w n (statement_of form more)) (kept w n (statement_of form more) h)
  form_keeps w n more (Err why) h = tt

  first_keeps : (w : Draft) (n : ℕ) (more : List (List ℕ)) (first : Option FirstWord) → P w → Keeps P (first_read w n more first)
  first_keeps w n more None h = tt
  first_keeps w n more (Some first) h =
      cond_both (is_late w first) (Err C.Late) (form_read w n more (form_of w.version first more)) (Keeps P)
      (λ _. tt) (λ _. form_keeps w n more (form_of w.version first more) h)

  words_keep : (w : Draft) (n : ℕ) (ws : List (List ℕ)) → P w → Keeps P (words_read w n ws)
  words_keep w n [] h = tt
  words_keep w n (first ∷ more) h =
      cond_both (list_any no_bytes (first ∷ more)) (Err C.Word) (first_read w n more (first_in w.version first)) (Keeps P)
      (λ _. tt) (λ _. first_keeps w n more (first_in w.version first) h)

  version_keeps : (w : Draft) (line : List ℕ) → P w → Keeps P (version_read w line)
  version_keeps w line h =
      cond_both (bytes_eq line (codes "ehci 1")) (Ok w) _ (Keeps P) (λ _. h)
      (λ _. cond_both (bytes_eq line (codes "ehci 2")) (Ok (record w { version = 2 })) (Err C.Version) (Keeps P) (λ _. second w h) (λ _. tt))

  line_keeps : (w : Draft) (n : ℕ) (line : List ℕ) → P w → Keeps P (line_read w n line)
  line_keeps w n line h =
      cond_both (nat_lt 65535 (length line)) (Err C.Long) _ (Keeps P) (λ _. tt)
      (λ _. cond_both (not (list_all may_stand line)) (Err C.Byte) _ (Keeps P) (λ _. tt)
      (λ _. cond_both (n == 1) (version_read w line) _ (Keeps P) (λ _. version_keeps w line h)
      (λ _. cond_both (says line) (words_read w n (words_in line)) (Ok w) (Keeps P) (λ _. words_keep w n (words_in line) h) (λ _. h))))

  -- ---- a text

  onward_keeps : (n : ℕ) (x : Result Draft TextWhy) (next : Draft → Result Draft (ℕ × TextWhy)) → ((v : Draft) → P v → Keeps P (next v)) → Keeps P x → Keeps P (onward n x next)
  onward_keeps n (Ok w) next g h = g w h
  onward_keeps n (Err why) next g h = tt

  lines_keep : (w : Draft) (n : ℕ) (lines : List (List ℕ)) → P w → Keeps P (lines_read w n lines)
  lines_keep w n [] h = h
  lines_keep w n (line ∷ lines) h =
      onward_keeps n (line_read w n line) (λ v. lines_read v (n + 1) lines) (λ v k. lines_keep v (n + 1) lines k) (line_keeps w n line h)

  pub text_keeps : (text : List ℕ) → P empty → Keeps P (text_read text)
  text_keeps text h =
      cond_both (nat_lt 1048576 (length text)) (Err (0, C.Long)) _ (Keeps P) (λ _. tt)
      (λ _. cond_both (no_bytes text) (Ok empty) (lines_read empty 1 (lines_in text)) (Keeps P) (λ _. h) (λ _. lines_keep empty 1 (lines_in text) h))

-- ---- its script

empty_numbers : IsNumberedDraft empty
empty_numbers = record { hubs = tt; devices = tt; lines = tt }

second_numbers : (w : Draft) → IsNumberedDraft w → IsNumberedDraft (record w { version = 2 })
second_numbers w h = record { hubs = h.hubs; devices = h.devices; lines = h.lines }

abbrev NumbersRun : Result Script (ℕ × TextWhy) → Type 0
NumbersRun (Ok s) = NumbersOpens s
NumbersRun (Err fault) = Unit {0}

after_text : (x : Result Draft (ℕ × TextWhy)) → Keeps IsNumberedDraft x → NumbersRun (script_after x)
after_text (Ok w) h = h.lines
after_text (Err fault) h = tt

pub a_text_numbers_what_it_opens : (text : List ℕ) (s : Script) → Spells text s → NumbersOpens s
unfolding script_read
a_text_numbers_what_it_opens text s e = subst NumbersRun e (after_text (text_read text) (text_keeps IsNumberedDraft second_numbers after_numbers text empty_numbers))
