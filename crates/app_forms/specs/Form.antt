-- The forms of the program: the words of a command line, without the program's own name.
--     words_of form          the words
--     AreWordsOf words form  the words are those of the form
--     AreNoForm words        they are those of none
use Rattle.std.specs.Prelude.{◌≡◌, ℕ, ◌≤◌, List, [], ◌∷◌, codes}
use Rattle.std.specs.Fmt.{decimal}
use Rattle.app_forms.specs.declared.form.Form.{Form}
use Rattle.app_forms.specs.declared.form.Form.TheVariants.{Run, Image, Check, Dump, Load}

abbrev pub words_of : Form → List (List ℕ)
words_of Run = codes "run" ∷ []
words_of Image = codes "image" ∷ []
words_of Check = codes "check" ∷ []
words_of Dump = codes "dump" ∷ []
words_of (Load n) = codes "load" ∷ decimal n ∷ []

-- the number of a load script has at most six digits
abbrev pub IsInRange : Form → Type 0
IsInRange (Load n) = n ≤ 999999
IsInRange _ = Unit {0}

pub record AreWordsOf (words : List (List ℕ)) (form : Form) : Type 0 where
  pub spelled : words ≡ words_of form
  pub ranged : IsInRange form

-- the words are of no form
abbrev pub AreNoForm : List (List ℕ) → Type 0
AreNoForm words = (form : Form) → AreWordsOf words form → ⊥
