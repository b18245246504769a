-- The script that is drawn for `load` is one of version 1, so it clears no halt: its first line says so, and no other line says another.
use Rattle.std.proofs.Common.{◌≡◌, ℕ, ◌+◌, ◌≤◌, List, [], ◌∷◌, ◌++◌, length, Option, Some, None, Result, Ok, Err, subst, sym, refl, arith}
use Rattle.std.specs.Prelude.{nat_lt, nat_le, not, ◌==◌, ◌&&◌, is_some, codes}
use Rattle.std.specs.List.{list_all, list_any}
use Rattle.std.specs.Option.{option_map_or}
use Rattle.std.proofs.lemmas.Bool.{cond_both, cond-false, ne_eqb}
use Rattle.usb_base.specs.declared.commands.Cmd.TheVariants as cmd
use Rattle.usb_base.specs.declared.endpoints.EpDesc.{EpDesc}
use Rattle.script_types.specs.declared.scripts.Script.{Script}
use Rattle.script_forms.specs.declared.causes.TextWhy.{TextWhy}
use Rattle.script_forms.specs.declared.causes.TextWhy.TheVariants as C
use Rattle.script_forms.specs.declared.table.FirstWord.{FirstWord}
use Rattle.script_forms.specs.declared.table.Form.{Form}
use Rattle.script_forms.specs.declared.statements.Name.{Name}
use Rattle.script_forms.specs.declared.statements.Statement.{Statement}
use Rattle.script_forms.specs.declared.statements.Statement.TheVariants as says_to
use Rattle.script_forms.specs.Table.{first_in}
use Rattle.script_forms.specs.Fitting.{form_of}
use Rattle.script_forms.specs.Values.{statement_of}
use Rattle.script_world.specs.Draft.{Draft, device_of, known}
use Rattle.script_world.specs.Ranges.{within, is_endpoint, is_slots}
use Rattle.script_world.specs.Rows.{cause_of, is_late, is_known, commanded, where_known, control_name, after}
use Rattle.script_text.specs.Reading.{lines_in, words_in, says, may_stand, no_bytes, answer, form_read, first_read}
use Rattle.script_text.specs.Reading.{words_read, version_read}
use Rattle.script_text.specs.Reading.{line_read, onward, lines_read, script_after, text_read, script_read}
use Rattle.script_text.specs.Faults.{Spells}
use Rattle.script_load.specs.declared.parts.LoadPart.TheVariants as parts
use Rattle.script_load.specs.Load.{draws, load_text, all_parts, part_text}
use Rattle.script_load.proofs.Devices.{start, head_read}
use Rattle.bus_world.specs.Plain.{IsPlain}
use Rattle.app_forms.specs.Form.{AreWordsOf}
use Rattle.app_forms.specs.declared.form.Form.TheVariants.{Load}
use Rattle.app_forms.proofs.FirstPlain.{first_scripts_are_plain}

abbrev IsFirst : Draft → Type 0
IsFirst w = w.version ≡ 1

-- ---- what a line says leaves the version

where_first : (w : Draft) (name : Name) (v : Draft) → IsFirst w → IsFirst v → IsFirst (where_known w name v)
where_first w name v h k = cond_both (is_some (known w name)) v w IsFirst (λ _. k) (λ _. h)

open_first : (w : Draft) (n : ℕ) (x : Option EpDesc) → IsFirst w → IsFirst (option_map_or (λ d. commanded w n (cmd.OpenEp d)) x w)
open_first w n None h = h
open_first w n (Some d) h = h

after_first : (w : Draft) (n : ℕ) (s : Statement) → IsFirst w → IsFirst (after w n s)
after_first w n (says_to.Hub addr ports multi) h = cond_both (within 1 127 addr && within 1 15 ports) _ w IsFirst (λ _. h) (λ _. h)
after_first w n (says_to.DevHigh addr) h = cond_both (within 1 127 addr) _ w IsFirst (λ _. h) (λ _. h)
after_first w n (says_to.DevBelow b) h =
    cond_both (within 1 127 b.addr && nat_le b.hub 127 && is_known w (says_to.DevBelow b)) _ w IsFirst (λ _. h) (λ _. h)
after_first w n (says_to.Ep l) h = cond_both (is_endpoint l && is_some (device_of w.devices l.name.addr)) _ w IsFirst (λ _. h) (λ _. h)
after_first w n (says_to.Fate f) h = where_first w f.name _ h h
after_first w n (says_to.Stuff name p) h = cond_both (nat_le p 6) _ w IsFirst (λ _. where_first w name _ h h) (λ _. h)
after_first w n (says_to.Open name) h = open_first w n (known w name) h
after_first w n (says_to.Cancel name) h = where_first w name _ h h
after_first w n (says_to.Clear name) h = where_first w name _ h h
after_first w n (says_to.Get l) h = where_first w l.name _ h h
after_first w n (says_to.Put l) h = where_first w l.name _ h h
after_first w n (says_to.Control c) h = where_first w (control_name c.addr) _ h h
after_first w n (says_to.Iso l) h = cond_both (is_slots l) _ w IsFirst (λ _. where_first w l.name _ h h) (λ _. h)
after_first w n _ h = h

-- ---- lines behind the first

abbrev Reads : {X : Type 0} → Result Draft X → Type 0
Reads (Ok w) = IsFirst w
Reads (Err x) = Unit {0}

answer_first : (why : Option TextWhy) (v : Draft) → IsFirst v → Reads (answer why v)
answer_first None v h = h
answer_first (Some why) v h = tt

form_first : (w : Draft) (n : ℕ) (more : List (List ℕ)) (form : Result Form TextWhy) → IsFirst w → Reads (form_read w n more form)
form_first w n more (Ok form) h =
    answer_first (cause_of w (statement_of form more)) (after w n (statement_of form more)) (after_first w n (statement_of form more) h)
form_first w n more (Err why) h = tt

word_first : (w : Draft) (n : ℕ) (more : List (List ℕ)) (o : Option FirstWord) → IsFirst w → Reads (first_read w n more o)
word_first w n more None h = tt
word_first w n more (Some first) h =
    cond_both (is_late w first) (Err C.Late) (form_read w n more (form_of w.version first more)) Reads (λ _. tt)
    (λ _. form_first w n more (form_of w.version first more) h)

words_first : (w : Draft) (n : ℕ) (ws : List (List ℕ)) → IsFirst w → Reads (words_read w n ws)
words_first w n [] h = tt
words_first w n (first ∷ more) h =
    cond_both (list_any no_bytes (first ∷ more)) (Err C.Word) (first_read w n more (first_in w.version first)) Reads
    (λ _. tt) (λ _. word_first w n more (first_in w.version first) h)

line_first : (w : Draft) (n : ℕ) (line : List ℕ) → 2 ≤ n → IsFirst w → Reads (line_read w n line)
line_first w n line le h =
    cond_both (nat_lt 65535 (length line)) (Err C.Long) _ Reads (λ _. tt)
    (λ _. cond_both (not (list_all may_stand line)) (Err C.Byte) _ Reads (λ _. tt)
    (λ _. subst Reads (sym (cond-false (n == 1) (version_read w line) _ (ne_eqb n 1 (λ e. omega (arith, le, e)))))
    (cond_both (says line) (words_read w n (words_in line)) (Ok w) Reads (λ _. words_first w n (words_in line) h) (λ _. h))))

onward_first : (n : ℕ) (x : Result Draft TextWhy) (next : Draft → Result Draft (ℕ × TextWhy)) → ((v : Draft) → IsFirst v → Reads (next v))
    → Reads x → Reads (onward n x next)
onward_first n (Ok w) next g h = g w h
onward_first n (Err why) next g h = tt

lines_first : (w : Draft) (n : ℕ) (ls : List (List ℕ)) → 2 ≤ n → IsFirst w → Reads (lines_read w n ls)
lines_first w n [] le h = h
lines_first w n (line ∷ ls) le h =
    onward_first n (line_read w n line) (λ v. lines_read v (n + 1) ls) (λ v k. lines_first v (n + 1) ls (omega (arith, le)) k)
    (line_first w n line le h)

-- ---- the text that is drawn

abbrev FirstScript : Result Script (ℕ × TextWhy) → Type 0
FirstScript (Ok s) = s.version ≡ 1
FirstScript (Err fault) = Unit {0}

after_text : (x : Result Draft (ℕ × TextWhy)) → Reads x → FirstScript (script_after x)
after_text (Ok w) h = h
after_text (Err fault) h = tt

abbrev behind_head : List ℕ → List ℕ
behind_head ds =
    part_text parts.Devices ds 20
    ++ (part_text parts.Endpoints ds 40
    ++ (part_text parts.Replies ds 40
    ++ (part_text parts.Opens ds 40 ++ (part_text parts.Transfers ds 40 ++ codes "order m 4000\n"))))

text_first : (ds : List ℕ) → Reads (text_read (all_parts ds))
text_first ds =
    cond_both (nat_lt 1048576 (length (all_parts ds))) (Err (0, C.Long)) _ Reads (λ _. tt)
    (λ _. subst Reads (sym (head_read (behind_head ds))) (lines_first start 5 (lines_in (behind_head ds)) (omega arith) refl))

pub drawn_scripts_are_first : (n : ℕ) (s : Script) → Spells (load_text n) s → s.version ≡ 1
unfolding script_read
drawn_scripts_are_first n s e = subst FirstScript e (after_text (text_read (load_text n)) (text_first (draws n 90)))

pub load_is_plain : (words : List (List ℕ)) (n : ℕ) → AreWordsOf words (Load n) → (s : Script) → Spells (load_text n) s → IsPlain s
load_is_plain words n is s spelled = first_scripts_are_plain (load_text n) s spelled (drawn_scripts_are_first n s spelled)
