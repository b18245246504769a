-- The numbers of the lines of a text rise.
use Rattle.std.proofs.Common.{◌≡◌, ℕ, suc, ◌+◌, ◌<◌, ◌≤◌, List, [], ◌∷◌, ◌++◌, length, Option, Some, None, Result, Ok, Err, ap, sym, subst, refl, inl, inr, ⊎_elim, arith}
use Rattle.std.specs.Prelude.{◌⊎◌, if◌then◌else◌, nat_lt, nat_le, not, ◌==◌, ◌&&◌, is_some, codes}
use Rattle.std.specs.List.{AllByRecursion, list_all, list_any}
use Rattle.std.specs.Option.{option_map_or}
use Rattle.std.specs.Str.{bytes_eq}
use Rattle.std.proofs.lemmas.Bool.{cond_both}
use Rattle.law_common.proofs.Lists.{all_both, all_more}
use Rattle.usb_base.specs.declared.commands.Cmd.{Cmd}
use Rattle.usb_base.specs.declared.commands.Cmd.TheVariants as cmd
use Rattle.usb_base.specs.declared.endpoints.EpDesc.{EpDesc}
use Rattle.script_types.specs.declared.scripts.Line.{Line}
use Rattle.script_types.specs.declared.scripts.Line.TheVariants as lines
use Rattle.script_types.specs.declared.scripts.Script.{Script}
use Rattle.script_forms.specs.declared.causes.TextWhy.{TextWhy}
use Rattle.script_forms.specs.declared.causes.TextWhy.TheVariants as C
use Rattle.script_forms.specs.declared.table.FirstWord.{FirstWord}
use Rattle.script_forms.specs.declared.table.Form.{Form}
use Rattle.script_forms.specs.declared.statements.Name.{Name}
use Rattle.script_forms.specs.declared.statements.Statement.{Statement}
use Rattle.script_forms.specs.declared.statements.Statement.TheVariants as says_to
use Rattle.script_forms.specs.Table.{first_in}
use Rattle.script_forms.specs.Fitting.{form_of}
use Rattle.script_forms.specs.Values.{statement_of}
use Rattle.script_world.specs.Draft.{Draft, device_of, known, empty}
use Rattle.script_world.specs.Ranges.{within, is_endpoint, is_slots}
use Rattle.script_world.specs.Rows.{cause_of, is_late, is_known, content_len, bytes_len, counted, put_room, commanded, where_known, control_name, name_of, after}
use Rattle.script_text.specs.Reading.{lines_in, words_in, says, may_stand, no_bytes, answer, form_read, first_read, words_read, version_read, line_read, onward, lines_read, script_after, text_read, script_read}
use Rattle.script_text.specs.Faults.{Spells}
use Rattle.law_world.specs.streams.put_laws.TakenLines.{RiseFrom, NumbersRise}

-- ---- a line more

-- line n adds itself, or nothing
record IsAdded (n : ℕ) (xs ys : List (ℕ × Line)) : Type 0 where
  line : Line
  is : ys ≡ xs ++ (n, line) ∷ []

abbrev AddsAtMost : Draft → ℕ → Draft → Type 0
AddsAtMost w n v = (v.lines ≡ w.lines) ⊎ IsAdded n w.lines v.lines

command_added : (w v : Draft) (n : ℕ) (c : Cmd) → v.lines ≡ w.lines → AddsAtMost w n (commanded v n c)
command_added w v n c same = inr (record { line = lines.Command c; is = ap (λ (xs : List (ℕ × Line)). xs ++ (n, lines.Command c) ∷ []) same })

where_added : (w : Draft) (n : ℕ) (name : Name) (v : Draft) → AddsAtMost w n v → AddsAtMost w n (where_known w name v)
where_added w n name v h = cond_both (is_some (known w name)) v w (AddsAtMost w n) (λ _. h) (λ _. inl refl)

open_added : (w : Draft) (n : ℕ) (x : Option EpDesc) → AddsAtMost w n (option_map_or (λ d. commanded w n (cmd.OpenEp d)) x w)
open_added w n None = inl refl
open_added w n (Some d) = command_added w w n (cmd.OpenEp d) refl

after_added : (w : Draft) (n : ℕ) (s : Statement) → AddsAtMost w n (after w n s)
after_added w n (says_to.Hub addr ports multi) =
    cond_both (within 1 127 addr && within 1 15 ports) _ w (AddsAtMost w n) (λ _. inl refl) (λ _. inl refl)
after_added w n (says_to.DevHigh addr) = cond_both (within 1 127 addr) _ w (AddsAtMost w n) (λ _. inl refl) (λ _. inl refl)
after_added w n (says_to.DevBelow b) = cond_both (within 1 127 b.addr && nat_le b.hub 127 && is_known w (says_to.DevBelow b)) _ w (AddsAtMost w n) (λ _. inl refl) (λ _. inl refl)
after_added w n (says_to.Ep l) = cond_both (is_endpoint l && is_some (device_of w.devices l.name.addr)) _ w (AddsAtMost w n) (λ _. inl refl) (λ _. inl refl)
after_added w n (says_to.Fate f) = where_added w n f.name _ (inl refl)
after_added w n (says_to.Stuff name p) =
    cond_both (nat_le p 6) _ w (AddsAtMost w n) (λ _. where_added w n name _ (inl refl)) (λ _. inl refl)
after_added w n (says_to.Open name) = open_added w n (known w name)
after_added w n (says_to.Cancel name) = where_added w n name _ (command_added w w n (cmd.Cancel (name_of name)) refl)
after_added w n (says_to.Clear name) = where_added w n name _ (command_added w w n (cmd.Clear (name_of name)) refl)
after_added w n (says_to.Get l) = where_added w n l.name _ (command_added w (record w { asked = counted w.asked l.len }) n _ refl)
after_added w n (says_to.Put l) =
    where_added w n l.name _ (command_added w (record w { scripted = counted w.scripted (content_len l.content); devices = put_room l.name (content_len l.content) w.devices }) n _ refl)
after_added w n (says_to.Control c) = where_added w n (control_name c.addr) _ (command_added w (record w { scripted = counted w.scripted (bytes_len c.bytes) }) n _ refl)
after_added w n (says_to.Iso l) =
    cond_both (is_slots l) _ w (AddsAtMost w n) (λ _. where_added w n l.name _ (command_added w w n (cmd.Iso (name_of l.name) l.count l.len l.seed) refl)) (λ _. inl refl)
after_added w n (says_to.Order event k) = inr (record { line = lines.Order event k; is = refl })
after_added w n (says_to.Micro k) = inr (record { line = lines.Micro k; is = refl })
after_added w n _ = inl refl

-- ---- numbers

rise_push : (a n : ℕ) (line : Line) (xs : List (ℕ × Line)) → a ≤ n → RiseFrom a xs → AllByRecursion (λ (l : ℕ × Line). l.0 < n) xs → RiseFrom a (xs ++ (n, line) ∷ [])
rise_push a n line [] low h k = (low, tt)
rise_push a n line (x ∷ xs) low h k = let first = k.0 in (h.0, rise_push (suc x.0) n line xs (omega (arith, first)) h.1 k.1)

-- the lines before line n
record AreBefore (n : ℕ) (w : Draft) : Type 0 where
  rise : RiseFrom 0 w.lines
  before : AllByRecursion (λ (l : ℕ × Line). l.0 < n) w.lines

later_line : (n : ℕ) (w : Draft) → AreBefore n w → AreBefore (n + 1) w
later_line n w h = record { rise = h.rise; before = all_more (λ (l : ℕ × Line). l.0 < n) (λ (l : ℕ × Line). l.0 < n + 1) w.lines (λ l low. omega (arith, low)) h.before }

after_before : (n : ℕ) (w : Draft) (s : Statement) → AreBefore n w → AreBefore (n + 1) (after w n s)
after_before n w s h = ⊎_elim
    (λ (same : (after w n s).lines ≡ w.lines).
    let k = later_line n w h in
    record {
      rise = subst (RiseFrom 0) (sym same) k.rise;
      before = subst (AllByRecursion (λ (l : ℕ × Line). l.0 < n + 1)) (sym same) k.before;
    })
    (λ (more : IsAdded n w.lines (after w n s).lines).
    let k = later_line n w h in
    record {
      rise = subst (RiseFrom 0) (sym more.is) (rise_push 0 n more.line w.lines (omega arith) h.rise h.before);
      before = subst (AllByRecursion (λ (l : ℕ × Line). l.0 < n + 1)) (sym more.is) (all_both (λ (l : ℕ × Line). l.0 < n + 1) w.lines ((n, more.line) ∷ []) k.before (omega arith, tt));
    }) (after_added w n s)

-- ---- lines

abbrev Read : {X : Type 0} → (Draft → Type 0) → Result Draft X → Type 0
Read P (Ok w) = P w
Read P (Err x) = Unit {0}

abbrev NextRead : {X : Type 0} → ℕ → Result Draft X → Type 0
NextRead n r = Read (AreBefore (n + 1)) r

answer_before : (n : ℕ) (why : Option TextWhy) (v : Draft) → AreBefore (n + 1) v → NextRead n (answer why v)
answer_before n None v h = h
answer_before n (Some why) v h = tt

form_before : (n : ℕ) (w : Draft) (more : List (List ℕ)) (form : Result Form TextWhy) → AreBefore n w → NextRead n (form_read w n more form)
form_before n w more (Ok form) h = answer_before n (cause_of w (statement_of form more)) (after w n (statement_of form more)) (after_before n w (statement_of form more) h)
form_before n w more (Err why) h = tt

first_before : (n : ℕ) (w : Draft) (more : List (List ℕ)) (first : Option FirstWord) → AreBefore n w → NextRead n (first_read w n more first)
first_before n w more None h = tt
first_before n w more (Some first) h =
    cond_both (is_late w first) (Err C.Late) (form_read w n more (form_of w.version first more)) (Read (AreBefore (n + 1)))
    (λ _. tt) (λ _. form_before n w more (form_of w.version first more) h)

words_before : (n : ℕ) (w : Draft) (ws : List (List ℕ)) → AreBefore n w → NextRead n (words_read w n ws)
words_before n w [] h = tt
words_before n w (first ∷ more) h =
    cond_both (list_any no_bytes (first ∷ more)) (Err C.Word) (first_read w n more (first_in w.version first)) (Read (AreBefore (n + 1)))
    (λ _. tt) (λ _. first_before n w more (first_in w.version first) h)

version_before : (n : ℕ) (w : Draft) (line : List ℕ) → AreBefore n w → Read (AreBefore n) (version_read w line)
version_before n w line h =
    cond_both (bytes_eq line (codes "ehci 1")) (Ok w) _ (Read (AreBefore n)) (λ _. h)
    (λ _. cond_both (bytes_eq line (codes "ehci 2")) (Ok (record w { version = 2 })) (Err C.Version) (Read (AreBefore n))
    (λ _. record { rise = h.rise; before = h.before }) (λ _. tt))

line_before : (n : ℕ) (w : Draft) (line : List ℕ) → AreBefore n w → NextRead n (line_read w n line)
line_before n w line h =
    let k = later_line n w h in
    cond_both (nat_lt 65535 (length line)) (Err C.Long) _ (Read (AreBefore (n + 1))) (λ _. tt)
    (λ _. cond_both (not (list_all may_stand line)) (Err C.Byte) _ (Read (AreBefore (n + 1))) (λ _. tt)
    (λ _. cond_both (n == 1) (version_read w line) _ (Read (AreBefore (n + 1))) (λ _. version_before (n + 1) w line k)
    (λ _. cond_both (says line) (words_read w n (words_in line)) (Ok w) (Read (AreBefore (n + 1))) (λ _. words_before n w (words_in line) h) (λ _. k))))

-- the numbers of what is read rise
abbrev Rise : Draft → Type 0
Rise w = RiseFrom 0 w.lines

onward_before : (n : ℕ) (x : Result Draft TextWhy) (next : Draft → Result Draft (ℕ × TextWhy)) → ((v : Draft) → AreBefore (n + 1) v → Read Rise (next v)) → NextRead n x → Read Rise (onward n x next)
onward_before n (Ok w) next g h = g w h
onward_before n (Err why) next g h = tt

lines_before : (n : ℕ) (w : Draft) (ls : List (List ℕ)) → AreBefore n w → Read Rise (lines_read w n ls)
lines_before n w [] h = h.rise
lines_before n w (line ∷ ls) h = onward_before n (line_read w n line) (λ v. lines_read v (n + 1) ls) (λ v k. lines_before (n + 1) v ls k) (line_before n w line h)

text_before : (text : List ℕ) → Read Rise (text_read text)
text_before text =
    cond_both (nat_lt 1048576 (length text)) (Err (0, C.Long)) _ (Read Rise) (λ _. tt)
    (λ _. cond_both (no_bytes text) (Ok empty) (lines_read empty 1 (lines_in text)) (Read Rise) (λ _. tt) (λ _. lines_before 1 empty (lines_in text) (record { rise = tt; before = tt })))

abbrev Run : Result Script (ℕ × TextWhy) → Type 0
Run (Ok s) = NumbersRise s
Run (Err fault) = Unit {0}

after_text : (x : Result Draft (ℕ × TextWhy)) → Read Rise x → Run (script_after x)
after_text (Ok w) h = h
after_text (Err fault) h = tt

pub texts_rise : (text : List ℕ) (s : Script) → Spells text s → NumbersRise s
unfolding script_read
texts_rise text s e = subst Run e (after_text (text_read text) (text_before text))
