-- Which words fit which form, and why words fit none.
use Rattle.std.specs.Prelude.{ℕ, suc, Bool, true, false, ◌==◌, ◌&&◌, ◌||◌, nat_le, nat_lt, if◌then◌else◌, List, [], ◌∷◌, length, Option, Some, None, is_some, Result, Ok, Err, slice_get}
use Rattle.std.specs.List.{fold}
use Rattle.std.specs.Option.{option_map_or}
use Rattle.std.specs.Str.{bytes_eq}
use Rattle.script_forms.specs.declared.table.FirstWord.{FirstWord}
use Rattle.script_forms.specs.declared.table.Keyword.TheVariants as K
use Rattle.script_forms.specs.declared.table.Form.{Form}
use Rattle.script_forms.specs.declared.table.Slot.{Slot}
use Rattle.script_forms.specs.declared.table.Slot.TheVariants.{Number, Hex, Setup, Key, Way, Bus, Fate}
use Rattle.script_forms.specs.declared.causes.TextWhy.{TextWhy}
use Rattle.script_forms.specs.declared.causes.TextWhy.TheVariants as C
use Rattle.script_forms.specs.declared.fitting.Mark.{Mark}
use Rattle.script_forms.specs.Table.{keyword_word, slots_of, forms_of}
use Rattle.script_forms.specs.Syntax.{number_of, hex_of, is_setup}

-- a word may stand in a slot, whatever its value
abbrev pub fits : Slot → List ℕ → Bool
fits (Number _ _) w = is_some (number_of w)
fits Hex w = is_some (hex_of w)
fits Setup w = is_setup w
fits (Key k) w = bytes_eq w (keyword_word k)
fits Way w = bytes_eq w (keyword_word K.In) || bytes_eq w (keyword_word K.Out) || bytes_eq w (keyword_word K.Ctl)
fits Bus w = bytes_eq w (keyword_word K.High) || bytes_eq w (keyword_word K.Down)
fits Fate w = bytes_eq w (keyword_word K.Lost) || bytes_eq w (keyword_word K.Damaged)

-- a number is in the range of its slot
abbrev pub is_ranged : Slot → List ℕ → Bool
is_ranged (Number low high) w = option_map_or (λ n. nat_le low n && nat_le n high) (number_of w) false
is_ranged Hex w = true
is_ranged Setup w = true
is_ranged (Key _) w = true
is_ranged Way w = true
is_ranged Bus w = true
is_ranged Fate w = true

abbrev pub all_ranged : List Slot → List (List ℕ) → Bool
all_ranged [] ws = true
all_ranged (s ∷ ss) [] = true
all_ranged (s ∷ ss) (w ∷ ws) = is_ranged s w && all_ranged ss ws

-- how many words fit, from the first on
abbrev pub reach : List Slot → List (List ℕ) → ℕ
reach [] ws = 0
reach (s ∷ ss) [] = 0
reach (s ∷ ss) (w ∷ ws) = if fits s w then suc (reach ss ws) else 0

-- why a word doesn't fit a slot
abbrev pub blame : Option Slot → TextWhy
blame (Some (Number _ _)) = C.Number
blame (Some Hex) = C.Hex
blame (Some Setup) = C.Hex
blame (Some (Key _)) = C.Word
blame (Some Way) = C.Word
blame (Some Bus) = C.Word
blame (Some Fate) = C.Word
blame None = C.Word

-- how far the words fit a form, and why no further
abbrev pub marked : Form → List (List ℕ) → Mark
marked form ws = record { at = reach (slots_of form) ws; why = blame (slice_get (slots_of form) (reach (slots_of form) ws)); form = form }

-- where a hexadecimal text may stand, it is that
abbrev pub worse : TextWhy → TextWhy → TextWhy
worse C.Hex _ = C.Hex
worse _ C.Hex = C.Hex
worse why _ = why

-- the mark that is further; of two at one place the first, with the worse cause
abbrev pub further : Mark → Mark → Mark
further m n = if nat_lt m.at n.at then n else if nat_lt n.at m.at then m else record m { why = worse m.why n.why }

abbrev pub joined : Option Mark → Mark → Option Mark
joined None m = Some m
joined (Some best) m = Some (further best m)

-- the best mark so far after one more form, which counts where it has this number of words
abbrev pub held : List (List ℕ) → Option Mark → Form → Option Mark
held ws best form = if length (slots_of form) == length ws then joined best (marked form ws) else best

-- what the furthest form says
abbrev pub verdict : List (List ℕ) → Option Mark → Result Form TextWhy
verdict ws None = Err C.Count
verdict ws (Some m) = if m.at == length ws then (if all_ranged (slots_of m.form) ws then Ok m.form else Err C.Range) else Err m.why

-- the form of the words behind a first word. Each word is held against those forms of this first word and this number
-- of words that the words before it fit, so the first word that is amiss stands where the furthest form ends
unfoldable pub form_of : ℕ → FirstWord → List (List ℕ) → Result Form TextWhy
form_of version first ws = verdict ws (fold (held ws) None (forms_of version first))
