-- Which words are a form's, said by how its values are spelled, and without reading them.
use Rattle.std.specs.Prelude.{◌≡◌, ℕ, ◌<◌, ◌≤◌, ◌⊎◌, List, [], ◌∷◌, length}
use Rattle.std.specs.List.{AllByRecursion, AllZip}
use Rattle.std.specs.Fmt.{decimal}
use Rattle.script_forms.specs.declared.table.FirstWord.{FirstWord}
use Rattle.script_forms.specs.declared.table.Keyword.TheVariants as K
use Rattle.script_forms.specs.declared.table.Form.{Form}
use Rattle.script_forms.specs.declared.table.Slot.{Slot}
use Rattle.script_forms.specs.declared.table.Slot.TheVariants.{Number, Hex, Setup, Key, Way, Bus, Fate}
use Rattle.script_forms.specs.Table.{keyword_word, slots_of, forms_of}
use Rattle.script_forms.specs.Syntax.{hex_word}

abbrev pub AreBytes : List ℕ → Type 0
AreBytes bytes = AllByRecursion (λ b. b < 256) bytes

-- a number of 32 bits from low to high, in decimal digits
abbrev pub SpellsNumber : ℕ → ℕ → List ℕ → Type 0
SpellsNumber low high w = (n : ℕ) × ((low ≤ n) × ((n ≤ high) × ((n < 4294967296) × (w ≡ decimal n))))

-- bytes, two digits each, or `-`
abbrev pub SpellsBytes : List ℕ → Type 0
SpellsBytes w = (bytes : List ℕ) × (AreBytes bytes × (w ≡ hex_word bytes))

-- eight bytes
abbrev pub SpellsSetup : List ℕ → Type 0
SpellsSetup w = (bytes : List ℕ) × (AreBytes bytes × ((length bytes ≡ 8) × (w ≡ hex_word bytes)))

-- what stands in a slot
abbrev pub Stands : Slot → List ℕ → Type 0
Stands (Number low high) w = SpellsNumber low high w
Stands Hex w = SpellsBytes w
Stands Setup w = SpellsSetup w
Stands (Key k) w = w ≡ keyword_word k
Stands Way w = ((w ≡ keyword_word K.In) ⊎ (w ≡ keyword_word K.Out)) ⊎ (w ≡ keyword_word K.Ctl)
Stands Bus w = (w ≡ keyword_word K.High) ⊎ (w ≡ keyword_word K.Down)
Stands Fate w = (w ≡ keyword_word K.Lost) ⊎ (w ≡ keyword_word K.Damaged)

abbrev pub Among : Form → List Form → Type 0
Among f [] = ⊥
Among f (g ∷ gs) = (f ≡ g) ⊎ Among f gs

-- each word stands in its slot, and the form is one of the first word's in a version of the language
abbrev pub IsForm : ℕ → FirstWord → Form → List (List ℕ) → Type 0
IsForm version first f ws = Among f (forms_of version first) × AllZip Stands (slots_of f) ws
