-- A script of version 1 clears no halt: its grammar has no line for it.
use Rattle.std.proofs.Common.{◌≡◌, ℕ, ◌+◌, Bool, true, false, List, [], ◌∷◌, ◌++◌, length, Option, Some, None, Result, Ok, Err, ap, sym, subst, refl, ◌∙◌, inl, inr}
use Rattle.std.specs.Prelude.{if◌then◌else◌, nat_lt, nat_le, not, ◌==◌, ◌&&◌, is_some, codes}
use Rattle.std.specs.List.{AllByRecursion, fold, list_all, list_any}
use Rattle.std.specs.Option.{option_map_or}
use Rattle.std.specs.Str.{bytes_eq}
use Rattle.std.proofs.lemmas.Bool.{cond_both, cases_Bool}
use Rattle.usb_base.specs.declared.commands.Cmd.{Cmd}
use Rattle.usb_base.specs.declared.commands.Cmd.TheVariants as cmd
use Rattle.usb_base.specs.declared.endpoints.EpDesc.{EpDesc}
use Rattle.script_types.specs.declared.scripts.Line.{Line}
use Rattle.script_types.specs.declared.scripts.Line.TheVariants as lines
use Rattle.script_types.specs.declared.scripts.Script.{Script}
use Rattle.script_forms.specs.declared.causes.TextWhy.{TextWhy}
use Rattle.script_forms.specs.declared.causes.TextWhy.TheVariants as C
use Rattle.script_forms.specs.declared.fitting.Mark.{Mark}
use Rattle.script_forms.specs.declared.table.FirstWord.{FirstWord}
use Rattle.script_forms.specs.declared.table.FirstWord.TheVariants as F
use Rattle.script_forms.specs.declared.table.Form.{Form}
use Rattle.script_forms.specs.declared.table.Form.TheVariants as forms
use Rattle.script_forms.specs.declared.statements.Name.{Name}
use Rattle.script_forms.specs.declared.statements.Statement.{Statement}
use Rattle.script_forms.specs.declared.statements.Statement.TheVariants as says_to
use Rattle.script_forms.specs.Table.{slots_of, forms_of, first_of, first_in, is_built, built}
use Rattle.script_forms.specs.Fitting.{all_ranged, marked, further, worse, joined, held, verdict, form_of}
use Rattle.script_forms.specs.Values.{statement_of}
use Rattle.script_world.specs.Draft.{Draft, device_of, known, empty, script_of}
use Rattle.script_world.specs.Ranges.{within, is_endpoint, is_slots}
use Rattle.script_world.specs.Rows.{cause_of, is_late, is_known, content_len, bytes_len, counted, put_room, commanded, where_known, control_name, name_of, by_of, after}
use Rattle.script_text.specs.Reading.{lines_in, words_in, says, may_stand, no_bytes, answer, form_read, first_read, words_read, version_read, line_read, onward, lines_read, script_after, text_read, script_read}
use Rattle.script_text.specs.Faults.{Spells}
use Rattle.bus_world.specs.Plain.{IsPlainCommand, IsPlainLine, ArePlain, IsPlain}

-- ---- forms

abbrev pub is_clear_form : Form → Bool
is_clear_form forms.Clear = true
is_clear_form _ = false

abbrev IsNoClear : Form → Type 0
IsNoClear f = is_clear_form f ≡ false

-- those of a first word that version 1 has
forms_plain : (first : FirstWord) → is_built 1 first ≡ true → AllByRecursion IsNoClear (forms_of 1 first)
forms_plain F.Mem e = (refl, tt)
forms_plain F.Hub e = (refl, tt)
forms_plain F.Dev e = (refl, (refl, (refl, tt)))
forms_plain F.Ep e = (refl, (refl, (refl, (refl, tt))))
forms_plain F.Reply e = (refl, (refl, (refl, (refl, (refl, (refl, tt))))))
forms_plain F.Fate e = (refl, tt)
forms_plain F.Hold e = (refl, tt)
forms_plain F.Open e = (refl, tt)
forms_plain F.Cancel e = (refl, tt)
forms_plain F.Get e = (refl, (refl, tt))
forms_plain F.Put e = (refl, (refl, (refl, (refl, tt))))
forms_plain F.Control e = (refl, (refl, tt))
forms_plain F.Iso e = (refl, (refl, tt))
forms_plain F.Order e = (refl, (refl, (refl, tt)))
forms_plain F.Frames e = absurd cc
forms_plain F.Stuff e = absurd cc
forms_plain F.Epoch e = absurd cc
forms_plain F.Clear e = absurd cc
forms_plain F.Park e = absurd cc
forms_plain F.Root e = absurd cc
forms_plain F.Classic e = absurd cc
forms_plain F.Plug e = absurd cc
forms_plain F.Unplug e = absurd cc
forms_plain F.Reset e = absurd cc
forms_plain F.Give e = absurd cc
forms_plain F.Disk e = absurd cc
forms_plain F.Read e = absurd cc
forms_plain F.Write e = absurd cc
forms_plain F.Revive e = absurd cc

-- the form that is found is one of them
abbrev MarksNone : Option Mark → Type 0
MarksNone None = Unit {0}
MarksNone (Some m) = IsNoClear m.form

further_plain : (m n : Mark) → MarksNone (Some m) → MarksNone (Some n) → MarksNone (Some (further m n))
further_plain m n h k =
    cond_both (nat_lt m.at n.at) n (if nat_lt n.at m.at then m else record m { why = worse m.why n.why }) (λ x. MarksNone (Some x)) (λ _. k)
    (λ _. cond_both (nat_lt n.at m.at) m (record m { why = worse m.why n.why }) (λ x. MarksNone (Some x)) (λ _. h) (λ _. h))

joined_plain : (best : Option Mark) (m : Mark) → MarksNone best → MarksNone (Some m) → MarksNone (joined best m)
joined_plain None m h k = k
joined_plain (Some best) m h k = further_plain best m h k

folded_plain : (ws : List (List ℕ)) (best : Option Mark) (fs : List Form) → MarksNone best → AllByRecursion IsNoClear fs
    → MarksNone (fold (held ws) best fs)
folded_plain ws best [] h k = h
folded_plain ws best (f ∷ fs) h k =
    folded_plain ws (held ws best f) fs
    (cond_both (length (slots_of f) == length ws) (joined best (marked f ws)) best MarksNone (λ _. joined_plain best (marked f ws) h k.0)
    (λ _. h)) k.1

abbrev IsNoneIf : Result Form TextWhy → Type 0
IsNoneIf (Ok f) = IsNoClear f
IsNoneIf (Err why) = Unit {0}

verdict_plain : (ws : List (List ℕ)) (best : Option Mark) → MarksNone best → IsNoneIf (verdict ws best)
verdict_plain ws None h = tt
verdict_plain ws (Some m) h =
    cond_both (m.at == length ws) (if all_ranged (slots_of m.form) ws then Ok m.form else Err _) (Err m.why) IsNoneIf
    (λ _. cond_both (all_ranged (slots_of m.form) ws) (Ok m.form) (Err _) IsNoneIf (λ _. h) (λ _. tt))
    (λ _. tt)

form_plain : (version : ℕ) (first : FirstWord) (ws : List (List ℕ)) → version ≡ 1 → is_built version first ≡ true
    → IsNoneIf (form_of version first ws)
unfolding form_of
form_plain version first ws e is =
    verdict_plain ws (fold (held ws) None (forms_of version first))
    (folded_plain ws None (forms_of version first) tt
    (subst (λ v. AllByRecursion IsNoClear (forms_of v first)) (sym e) (forms_plain first (subst (λ v. is_built v first ≡ true) e is))))

-- ---- what a line says

abbrev pub is_clear : Statement → Bool
is_clear (says_to.Clear name) = true
is_clear _ = false

said_plain : (f : Form) (ws : List (List ℕ)) → IsNoClear f → is_clear (statement_of f ws) ≡ false
unfolding statement_of
said_plain forms.Clear ws e = absurd cc
said_plain _ ws e = refl

-- ---- the script so far

abbrev IsFirstPlain : Draft → Type 0
IsFirstPlain w = w.version ≡ 1 → ArePlain w.lines

one_more : (xs : List (ℕ × Line)) (x : ℕ × Line) → ArePlain xs → IsPlainLine x.1 → ArePlain (xs ++ x ∷ [])
one_more [] x h k = (k, tt)
one_more (y ∷ xs) x h k = (h.0, one_more xs x h.1 k)

command_plain : (w : Draft) (n : ℕ) (c : Cmd) → IsPlainCommand c → IsFirstPlain w → IsFirstPlain (commanded w n c)
command_plain w n c plain h = λ e. one_more w.lines (n, lines.Command c) (h e) plain

where_plain : (w : Draft) (name : Name) (v : Draft) → IsFirstPlain w → IsFirstPlain v → IsFirstPlain (where_known w name v)
where_plain w name v h k = cond_both (is_some (known w name)) v w IsFirstPlain (λ _. k) (λ _. h)

open_plain : (w : Draft) (n : ℕ) (x : Option EpDesc) → IsFirstPlain w
    → IsFirstPlain (option_map_or (λ d. commanded w n (cmd.OpenEp d)) x w)
open_plain w n None h = h
open_plain w n (Some d) h = command_plain w n (cmd.OpenEp d) tt h

after_plain : (w : Draft) (n : ℕ) (s : Statement) → (w.version ≡ 1 → is_clear s ≡ false) → IsFirstPlain w → IsFirstPlain (after w n s)
after_plain w n (says_to.Hub addr ports multi) unless h =
    cond_both (within 1 127 addr && within 1 15 ports) _ w IsFirstPlain (λ _. h) (λ _. h)
after_plain w n (says_to.DevHigh addr) unless h = cond_both (within 1 127 addr) _ w IsFirstPlain (λ _. h) (λ _. h)
after_plain w n (says_to.DevBelow b) unless h =
    cond_both (within 1 127 b.addr && nat_le b.hub 127 && is_known w (says_to.DevBelow b)) _ w IsFirstPlain (λ _. h) (λ _. h)
after_plain w n (says_to.Ep l) unless h =
    cond_both (is_endpoint l && is_some (device_of w.devices l.name.addr)) _ w IsFirstPlain (λ _. h) (λ _. h)
after_plain w n (says_to.Fate f) unless h = where_plain w f.name _ h h
after_plain w n (says_to.Stuff name p) unless h = cond_both (nat_le p 6) _ w IsFirstPlain (λ _. where_plain w name _ h h) (λ _. h)
after_plain w n (says_to.Open name) unless h = open_plain w n (known w name) h
after_plain w n (says_to.Cancel name) unless h = where_plain w name _ h (command_plain w n (cmd.Cancel (name_of name)) tt h)
after_plain w n (says_to.Clear name) unless h = where_plain w name _ h (λ e. let same : true ≡ false = unless e in absurd cc)
after_plain w n (says_to.Get l) unless h =
    where_plain w l.name _ h (command_plain (record w { asked = counted w.asked l.len }) n (cmd.Get (name_of l.name) l.len
    (by_of l.by)) tt h)
after_plain w n (says_to.Put l) unless h =
    where_plain w l.name _ h
    (command_plain (record w {
      scripted = counted w.scripted (content_len l.content);
      devices = put_room l.name (content_len l.content) w.devices;
    }) n _ tt h)
after_plain w n (says_to.Control c) unless h =
    where_plain w (control_name c.addr) _ h
    (command_plain (record w { scripted = counted w.scripted (bytes_len c.bytes) }) n _ tt h)
after_plain w n (says_to.Iso l) unless h =
    cond_both (is_slots l) _ w IsFirstPlain
    (λ _. where_plain w l.name _ h (command_plain w n (cmd.Iso (name_of l.name) l.count l.len l.seed) tt h)) (λ _. h)
after_plain w n (says_to.Order event k) unless h = λ e. one_more w.lines (n, lines.Order event k) (h e) tt
after_plain w n (says_to.Micro k) unless h = λ e. one_more w.lines (n, lines.Micro k) (h e) tt
after_plain w n _ unless h = h

-- ---- lines

abbrev Reads : {X : Type 0} → Result Draft X → Type 0
Reads (Ok w) = IsFirstPlain w
Reads (Err x) = Unit {0}

answer_plain : (why : Option TextWhy) (v : Draft) → IsFirstPlain v → Reads (answer why v)
answer_plain None v h = h
answer_plain (Some why) v h = tt

form_read_plain : (w : Draft) (n : ℕ) (more : List (List ℕ)) (form : Result Form TextWhy) → (w.version ≡ 1 → IsNoneIf form) → IsFirstPlain w
    → Reads (form_read w n more form)
form_read_plain w n more (Ok form) unless h =
    answer_plain (cause_of w (statement_of form more)) (after w n (statement_of form more))
    (after_plain w n (statement_of form more) (λ e. said_plain form more (unless e)) h)
form_read_plain w n more (Err why) unless h = tt

first_plain : (w : Draft) (n : ℕ) (more : List (List ℕ)) (o : Option FirstWord) → IsFirstPlain w
    → Reads (first_read w n more (built w.version o))
first_plain w n more None h = tt
first_plain w n more (Some first) h = elim (cases_Bool (is_built w.version first)) [
  | inl t ↦ rw t
      (cond_both (is_late w first) (Err C.Late) (form_read w n more (form_of w.version first more)) Reads (λ _. tt)
      (λ _. form_read_plain w n more (form_of w.version first more) (λ e. form_plain w.version first more e t) h))
  | inr f ↦ rw f tt
]

words_plain : (w : Draft) (n : ℕ) (ws : List (List ℕ)) → IsFirstPlain w → Reads (words_read w n ws)
words_plain w n [] h = tt
words_plain w n (first ∷ more) h =
    cond_both (list_any no_bytes (first ∷ more)) (Err C.Word) (first_read w n more (first_in w.version first)) Reads
    (λ _. tt) (λ _. first_plain w n more (first_of first) h)

version_plain : (w : Draft) (line : List ℕ) → IsFirstPlain w → Reads (version_read w line)
version_plain w line h =
    cond_both (bytes_eq line (codes "ehci 1")) (Ok w) _ Reads (λ _. h)
    (λ _. cond_both (bytes_eq line (codes "ehci 2")) (Ok (record w { version = 2 })) (Err C.Version) Reads
    (λ _ e. absurd cc) (λ _. tt))

line_plain : (w : Draft) (n : ℕ) (line : List ℕ) → IsFirstPlain w → Reads (line_read w n line)
line_plain w n line h =
    cond_both (nat_lt 65535 (length line)) (Err C.Long) _ Reads (λ _. tt)
    (λ _. cond_both (not (list_all may_stand line)) (Err C.Byte) _ Reads (λ _. tt)
    (λ _. cond_both (n == 1) (version_read w line) _ Reads (λ _. version_plain w line h)
    (λ _. cond_both (says line) (words_read w n (words_in line)) (Ok w) Reads (λ _. words_plain w n (words_in line) h) (λ _. h))))

-- ---- a text

onward_plain : (n : ℕ) (x : Result Draft TextWhy) (next : Draft → Result Draft (ℕ × TextWhy))
    → ((v : Draft) → IsFirstPlain v → Reads (next v)) → Reads x → Reads (onward n x next)
onward_plain n (Ok w) next g h = g w h
onward_plain n (Err why) next g h = tt

lines_plain : (w : Draft) (n : ℕ) (ls : List (List ℕ)) → IsFirstPlain w → Reads (lines_read w n ls)
lines_plain w n [] h = h
lines_plain w n (line ∷ ls) h =
    onward_plain n (line_read w n line) (λ v. lines_read v (n + 1) ls) (λ v k. lines_plain v (n + 1) ls k) (line_plain w n line h)

text_plain : (text : List ℕ) → Reads (text_read text)
text_plain text =
    cond_both (nat_lt 1048576 (length text)) (Err (0, C.Long)) _ Reads (λ _. tt)
    (λ _. cond_both (no_bytes text) (Ok empty) (lines_read empty 1 (lines_in text)) Reads (λ _ e. tt)
    (λ _. lines_plain empty 1 (lines_in text) (λ e. tt)))

abbrev PlainScript : Result Script (ℕ × TextWhy) → Type 0
PlainScript (Ok s) = s.version ≡ 1 → IsPlain s
PlainScript (Err fault) = Unit {0}

after_text : (x : Result Draft (ℕ × TextWhy)) → Reads x → PlainScript (script_after x)
after_text (Ok w) h = h
after_text (Err fault) h = tt

pub first_scripts_are_plain : (text : List ℕ) (s : Script) → Spells text s → s.version ≡ 1 → IsPlain s
unfolding script_read
first_scripts_are_plain text s e = subst PlainScript e (after_text (text_read text) (text_plain text))
