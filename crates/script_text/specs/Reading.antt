-- What a text says, line by line, up to its first fault.
use Rattle.std.specs.Prelude.{ℕ, ◌+◌, Bool, true, false, ◌==◌, ◌&&◌, not, nat_le, nat_lt, if◌then◌else◌, List, [], ◌∷◌, length, Option, Some, None, Result, Ok, Err, codes}
use Rattle.std.specs.List.{slice_split, list_all, list_any}
use Rattle.std.specs.Str.{bytes_eq}
use Rattle.script_types.specs.declared.scripts.Script.{Script}
use Rattle.script_forms.specs.declared.causes.TextWhy.{TextWhy}
use Rattle.script_forms.specs.declared.causes.TextWhy.TheVariants as C
use Rattle.script_forms.specs.declared.table.FirstWord.{FirstWord}
use Rattle.script_forms.specs.declared.table.Form.{Form}
use Rattle.script_forms.specs.declared.statements.Statement.{Statement}
use Rattle.script_forms.specs.Table.{first_in}
use Rattle.script_forms.specs.Fitting.{form_of}
use Rattle.script_forms.specs.Values.{statement_of}
use Rattle.script_world.specs.Draft.{Draft, empty, script_of}
use Rattle.script_world.specs.Rows.{cause_of, is_late, after}

-- the lines of a text, each without its line feed, which the last may lack
abbrev pub lines_in : List ℕ → List (List ℕ)
lines_in text = slice_split (λ b. b == 10) text

-- the words of a line, with one space between two of them
abbrev pub words_in : List ℕ → List (List ℕ)
words_in line = slice_split (λ b. b == 32) line

-- an empty line says nothing, and no line that begins with `#`
abbrev pub says : List ℕ → Bool
says [] = false
says (b ∷ bs) = not (b == 35)

-- a byte that a line may have: 20h to 7Eh
abbrev pub may_stand : ℕ → Bool
may_stand b = nat_le 32 b && nat_le b 126

abbrev pub no_bytes : List ℕ → Bool
no_bytes [] = true
no_bytes (b ∷ bs) = false

-- a line's answer: its cause, or the script after it
abbrev pub answer : Option TextWhy → Draft → Result Draft TextWhy
answer None v = Ok v
answer (Some why) v = Err why

-- line n says s
abbrev pub said : Draft → ℕ → Statement → Result Draft TextWhy
said w n s = answer (cause_of w s) (after w n s)

-- the words behind the first fit a form, or don't
abbrev pub form_read : Draft → ℕ → List (List ℕ) → Result Form TextWhy → Result Draft TextWhy
form_read w n more (Ok form) = said w n (statement_of form more)
form_read w n more (Err why) = Err why

-- the first word is one of the version, or isn't
abbrev pub first_read : Draft → ℕ → List (List ℕ) → Option FirstWord → Result Draft TextWhy
first_read w n more None = Err C.Word
first_read w n more (Some first) = if is_late w first then Err C.Late else form_read w n more (form_of w.version first more)

-- the words of line n; a space too many makes an empty word
abbrev pub words_read : Draft → ℕ → List (List ℕ) → Result Draft TextWhy
words_read w n [] = Err C.Word
words_read w n (first ∷ more) = if list_any no_bytes (first ∷ more) then Err C.Word else first_read w n more (first_in w.version first)

-- the first line is the version alone
abbrev pub version_read : Draft → List ℕ → Result Draft TextWhy
version_read w line =
    if bytes_eq line (codes "ehci 1") then Ok w
    else if bytes_eq line (codes "ehci 2") then Ok (record w { version = 2 })
    else Err C.Version

-- line n
abbrev pub line_read : Draft → ℕ → List ℕ → Result Draft TextWhy
line_read w n line =
    if nat_lt 65535 (length line) then Err C.Long
    else if not (list_all may_stand line) then Err C.Byte
    else if n == 1 then version_read w line
    else if says line then words_read w n (words_in line) else Ok w

-- the first line with a cause ends the reading
abbrev pub onward : ℕ → Result Draft TextWhy → (Draft → Result Draft (ℕ × TextWhy)) → Result Draft (ℕ × TextWhy)
onward n (Ok w) next = next w
onward n (Err why) next = Err (n, why)

-- the answer to several lines: their first fault, or the script after them
abbrev pub outcome : Option (ℕ × TextWhy) → Draft → Result Draft (ℕ × TextWhy)
outcome None v = Ok v
outcome (Some fault) v = Err fault

-- the lines from line n on
abbrev pub lines_read : Draft → ℕ → List (List ℕ) → Result Draft (ℕ × TextWhy)
lines_read w n [] = Ok w
lines_read w n (line ∷ lines) = onward n (line_read w n line) (λ v. lines_read v (n + 1) lines)

abbrev pub script_after : Result Draft (ℕ × TextWhy) → Result Script (ℕ × TextWhy)
script_after (Ok w) = Ok (script_of w)
script_after (Err fault) = Err fault

-- the lines of a text that isn't too long
abbrev pub text_read : List ℕ → Result Draft (ℕ × TextWhy)
text_read text = if nat_lt 1048576 (length text) then Err (0, C.Long) else if no_bytes text then Ok empty else lines_read empty 1 (lines_in text)

-- the script that a text says, or its first fault: the number of the first faulty line and its first cause
unfoldable pub script_read : List ℕ → Result Script (ℕ × TextWhy)
script_read text = script_after (text_read text)
