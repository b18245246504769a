-- The script that a text spells is of bytes.
use Rattle.std.proofs.Common.{ℕ, ◌+◌, List, [], ◌∷◌, length, Option, Some, None, Result, Ok, Err, subst}
use Rattle.std.specs.Prelude.{if◌then◌else◌, nat_lt, not, ◌==◌, codes}
use Rattle.std.specs.List.{list_all, list_any, AllByRecursion}
use Rattle.std.specs.Str.{bytes_eq}
use Rattle.std.proofs.lemmas.Bool.{cond_both}
use Rattle.law_common.proofs.Lists.{all_map}
use Rattle.script_types.specs.declared.devices.DeviceText.{DeviceText}
use Rattle.script_types.specs.declared.scripts.Script.{Script}
use Rattle.script_forms.specs.declared.causes.TextWhy.{TextWhy}
use Rattle.script_forms.specs.declared.causes.TextWhy.TheVariants as C
use Rattle.script_forms.specs.declared.table.FirstWord.{FirstWord}
use Rattle.script_forms.specs.declared.table.Form.{Form}
use Rattle.script_forms.specs.declared.statements.Statement.{Statement}
use Rattle.script_forms.specs.Table.{first_in}
use Rattle.script_forms.specs.Fitting.{form_of}
use Rattle.script_forms.specs.Values.{statement_of}
use Rattle.script_world.specs.Draft.{Draft, empty, script_of, device_text}
use Rattle.script_world.specs.Rows.{cause_of, is_late, after}
use Rattle.script_text.specs.Reading.{lines_in, words_in, says, may_stand, no_bytes, answer, said, form_read, first_read, words_read, version_read, line_read, onward, lines_read, script_after}
use Rattle.script_text.specs.Reading.{text_read, script_read}
use Rattle.script_text.specs.Faults.{Spells}
use Rattle.law_scripts.specs.byte_answers.Bytes.{IsByteText, IsByteScript}
use Rattle.law_scripts.proofs.lemmas.script_bytes.Statements.{IsByteStatement, form_bytes}
use Rattle.law_scripts.proofs.lemmas.script_bytes.Drafts.{IsBytePlaced, IsByteDraft, after_bytes}

abbrev IsByteRead : {X : Type 0} → Result Draft X → Type 0
IsByteRead (Ok w) = IsByteDraft w
IsByteRead (Err x) = Unit {0}

-- ---- a line

answer_bytes : (why : Option TextWhy) (v : Draft) → IsByteDraft v → IsByteRead (answer why v)
answer_bytes None v h = h
answer_bytes (Some why) v h = tt

said_bytes : (w : Draft) (n : ℕ) (s : Statement) → IsByteStatement s → IsByteDraft w → IsByteRead (said w n s)
said_bytes w n s is h = answer_bytes (cause_of w s) (after w n s) (after_bytes w n s is h)

form_read_bytes : (w : Draft) (n : ℕ) (more : List (List ℕ)) (form : Result Form TextWhy) → IsByteDraft w → IsByteRead (form_read w n more form)
form_read_bytes w n more (Ok form) h = said_bytes w n (statement_of form more) (form_bytes form more) h
form_read_bytes w n more (Err why) h = tt

first_bytes : (w : Draft) (n : ℕ) (more : List (List ℕ)) (first : Option FirstWord) → IsByteDraft w → IsByteRead (first_read w n more first)
first_bytes w n more None h = tt
first_bytes w n more (Some first) h =
    cond_both (is_late w first) (Err C.Late) (form_read w n more (form_of w.version first more)) IsByteRead
    (λ _. tt) (λ _. form_read_bytes w n more (form_of w.version first more) h)

words_bytes : (w : Draft) (n : ℕ) (ws : List (List ℕ)) → IsByteDraft w → IsByteRead (words_read w n ws)
words_bytes w n [] h = tt
words_bytes w n (first ∷ more) h =
    cond_both (list_any no_bytes (first ∷ more)) (Err C.Word) (first_read w n more (first_in w.version first)) IsByteRead
    (λ _. tt) (λ _. first_bytes w n more (first_in w.version first) h)

version_bytes : (w : Draft) (line : List ℕ) → IsByteDraft w → IsByteRead (version_read w line)
version_bytes w line h =
    cond_both (bytes_eq line (codes "ehci 1")) (Ok w) _ IsByteRead (λ _. h)
    (λ _. cond_both (bytes_eq line (codes "ehci 2")) (Ok (record w { version = 2 })) (Err C.Version) IsByteRead
    (λ _. record { devices = h.devices; lines = h.lines }) (λ _. tt))

line_bytes : (w : Draft) (n : ℕ) (line : List ℕ) → IsByteDraft w → IsByteRead (line_read w n line)
line_bytes w n line h =
    cond_both (nat_lt 65535 (length line)) (Err C.Long) _ IsByteRead (λ _. tt)
    (λ _. cond_both (not (list_all may_stand line)) (Err C.Byte) _ IsByteRead (λ _. tt)
    (λ _. cond_both (n == 1) (version_read w line) _ IsByteRead (λ _. version_bytes w line h)
    (λ _. cond_both (says line) (words_read w n (words_in line)) (Ok w) IsByteRead (λ _. words_bytes w n (words_in line) h) (λ _. h))))

-- ---- a text

onward_bytes : (n : ℕ) (x : Result Draft TextWhy) (next : Draft → Result Draft (ℕ × TextWhy)) → ((v : Draft) → IsByteDraft v → IsByteRead (next v)) → IsByteRead x → IsByteRead (onward n x next)
onward_bytes n (Ok w) next g h = g w h
onward_bytes n (Err why) next g h = tt

lines_bytes : (w : Draft) (n : ℕ) (lines : List (List ℕ)) → IsByteDraft w → IsByteRead (lines_read w n lines)
lines_bytes w n [] h = h
lines_bytes w n (line ∷ lines) h =
    onward_bytes n (line_read w n line) (λ v. lines_read v (n + 1) lines) (λ v k. lines_bytes v (n + 1) lines k) (line_bytes w n line h)

empty_bytes : IsByteDraft empty
empty_bytes = record { devices = tt; lines = tt }

text_bytes : (text : List ℕ) → IsByteRead (text_read text)
text_bytes text =
    cond_both (nat_lt 1048576 (length text)) (Err (0, C.Long)) _ IsByteRead (λ _. tt)
    (λ _. cond_both (no_bytes text) (Ok empty) (lines_read empty 1 (lines_in text)) IsByteRead (λ _. empty_bytes) (λ _. lines_bytes empty 1 (lines_in text) empty_bytes))

-- ---- its script

script_bytes : (w : Draft) → IsByteDraft w → IsByteScript (script_of w)
script_bytes w h = record {
  devices = all_map IsBytePlaced (λ (d : DeviceText). AllByRecursion IsByteText d.eps) device_text w.devices (λ d k. k) h.devices;
  lines = h.lines;
}

abbrev IsByteRun : Result Script (ℕ × TextWhy) → Type 0
IsByteRun (Ok s) = IsByteScript s
IsByteRun (Err fault) = Unit {0}

after_text : (x : Result Draft (ℕ × TextWhy)) → IsByteRead x → IsByteRun (script_after x)
after_text (Ok w) h = script_bytes w h
after_text (Err fault) h = tt

pub a_text_spells_bytes : (text : List ℕ) (s : Script) → Spells text s → IsByteScript s
unfolding script_read
a_text_spells_bytes text s e = subst IsByteRun e (after_text (text_read text) (text_bytes text))
