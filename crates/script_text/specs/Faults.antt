-- Scripts and faults of texts, and the lines that tell them.
use Rattle.std.specs.Prelude.{◌≡◌, ℕ, Bool, List, [], ◌∷◌, ◌++◌, take, Option, Some, None, Result, Ok, Err, codes}
use Rattle.std.specs.Result.{result_err}
use Rattle.std.specs.Str.{bytes_eq}
use Rattle.std.specs.Fmt.{decimal}
use Rattle.script_types.specs.declared.scripts.Script.{Script}
use Rattle.script_forms.specs.declared.causes.TextWhy.{TextWhy}
use Rattle.script_forms.specs.declared.causes.TextWhy.TheVariants as C
use Rattle.script_text.specs.declared.parsing.TextError.{TextError}
use Rattle.script_text.specs.declared.parsing.TextError.TheVariants.{Fault, Memory}
use Rattle.report_text.specs.ReportText.{line_text}
use Rattle.script_text.specs.Reading.{script_read}

-- the text spells the script
abbrev pub Spells : List ℕ → Script → Type 0
Spells text s = script_read text ≡ Ok s

-- the number of the first faulty line, 0 for the text as a whole, and its first cause
abbrev pub first_fault : List ℕ → Option (ℕ × TextWhy)
first_fault text = result_err (script_read text)

-- the text spells a script, and has no fault
abbrev pub HasScript : List ℕ → Type 0
HasScript text = (s : Script) × Spells text s × (first_fault text ≡ None)

-- the text has a fault, and spells no script
abbrev pub HasFault : List ℕ → Type 0
HasFault text = (fault : ℕ × TextWhy) × (first_fault text ≡ Some fault) × ((s : Script) → Spells text s → ⊥)

-- an error is this first fault, or want of memory
abbrev pub IsFault : Result Script (ℕ × TextWhy) → TextError → Type 0
IsFault r (Fault line why) = r ≡ Err (line, why)
IsFault r (Memory _) = Unit {0}

abbrev pub IsRight : List ℕ → TextError → Type 0
IsRight text e = IsFault (script_read text) e

-- the word of a cause
abbrev pub cause_word : TextWhy → List ℕ
cause_word C.Long = codes "long"
cause_word C.Byte = codes "byte"
cause_word C.Version = codes "version"
cause_word C.Word = codes "word"
cause_word C.Late = codes "late"
cause_word C.Count = codes "count"
cause_word C.Number = codes "number"
cause_word C.Hex = codes "hex"
cause_word C.Range = codes "range"
cause_word C.Unknown = codes "unknown"
cause_word C.Twice = codes "twice"
cause_word C.Limit = codes "limit"

-- the line of a fault: `line <n>: <cause>`
abbrev pub fault_line : ℕ → TextWhy → List ℕ
fault_line line why = line_text (codes "line" ∷ (decimal line ++ codes ":") ∷ cause_word why ∷ [])

-- what a check of a text writes: `script ok`, or the line of its first fault
abbrev pub check_line : Option (ℕ × TextWhy) → List ℕ
check_line None = line_text (codes "script" ∷ codes "ok" ∷ [])
check_line (Some fault) = fault_line fault.0 fault.1

abbrev pub check_text : List ℕ → List ℕ
check_text text = check_line (first_fault text)

-- an input is an image where its first four bytes are `EHCI`, and else a text
abbrev pub is_image : List ℕ → Bool
is_image input = bytes_eq (take 4 input) (codes "EHCI")
