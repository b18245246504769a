-- Which texts spell which scripts, line by line, by how values are spelled and without reading them.
use Rattle.std.specs.Prelude.{◌≡◌, ℕ, ◌≤◌, ◌+◌, ◌⊎◌, true, false, List, [], ◌∷◌, length, None, codes}
use Rattle.std.specs.List.{list_all, list_any}
use Rattle.script_types.specs.declared.scripts.Script.{Script}
use Rattle.script_forms.specs.declared.table.FirstWord.{FirstWord}
use Rattle.script_forms.specs.declared.table.Form.{Form}
use Rattle.script_forms.specs.Table.{first_text, is_built}
use Rattle.script_forms.specs.Values.{statement_of}
use Rattle.law_scripts.specs.script_spelling.Spelling.{IsForm}
use Rattle.script_world.specs.Draft.{Draft, empty, script_of}
use Rattle.script_world.specs.Rows.{cause_of, is_late, after}
use Rattle.script_text.specs.Reading.{lines_in, words_in, says, may_stand, no_bytes}

-- line n says something: its words are a first word that the version has and those of one of its forms, and the script before it allows it
pub record Tells (w : Draft) (n : ℕ) (line : List ℕ) (v : Draft) : Type 0 where
  pub first : FirstWord
  pub more : List (List ℕ)
  pub form : Form
  pub words : words_in line ≡ first_text first ∷ more
  pub whole : list_any no_bytes (first_text first ∷ more) ≡ false  -- no word is empty
  pub built : is_built w.version first ≡ true  -- the version has such lines
  pub early : is_late w first ≡ false
  pub spelled : IsForm w.version first form more
  pub allowed : cause_of w (statement_of form more) ≡ None
  pub new : v ≡ after w n (statement_of form more)

-- a version of the language, which the script has from then on
abbrev pub SaysVersion : Draft → List ℕ → Draft → Type 0
SaysVersion w line v = ((line ≡ codes "ehci 1") × (v ≡ w)) ⊎ ((line ≡ codes "ehci 2") × (v ≡ record w { version = 2 }))

-- the first line is the version
pub record IsVersion (w : Draft) (n : ℕ) (line : List ℕ) (v : Draft) : Type 0 where
  pub first : n ≡ 1
  pub version : SaysVersion w line v

-- a later line that is empty or begins with `#`
pub record IsSilent (w : Draft) (n : ℕ) (line : List ℕ) (v : Draft) : Type 0 where
  pub later : n ≡ 1 → ⊥
  pub silent : says line ≡ false
  pub same : v ≡ w

-- a later line that says something
pub record IsTold (w : Draft) (n : ℕ) (line : List ℕ) (v : Draft) : Type 0 where
  pub later : n ≡ 1 → ⊥
  pub loud : says line ≡ true
  pub tells : Tells w n line v

-- line n leads from one script to another
pub record LineSpells (w : Draft) (n : ℕ) (line : List ℕ) (v : Draft) : Type 0 where
  pub short : length line ≤ 65535
  pub plain : list_all may_stand line ≡ true
  pub kind : IsVersion w n line v ⊎ (IsSilent w n line v ⊎ IsTold w n line v)

-- the lines from line n on
abbrev pub LinesSpell : Draft → ℕ → List (List ℕ) → Draft → Type 0
LinesSpell w n [] v = v ≡ w
LinesSpell w n (line ∷ lines) v = (u : Draft) × (LineSpells w n line u × LinesSpell u (n + 1) lines v)

-- a text with lines
pub record IsText (text : List ℕ) (s : Script) : Type 0 where
  pub size : length text ≤ 1048576
  pub some : no_bytes text ≡ false
  pub last : Draft
  pub lines : LinesSpell empty 1 (lines_in text) last
  pub script : s ≡ script_of last

-- the text of no bytes
pub record IsNothing (text : List ℕ) (s : Script) : Type 0 where
  pub none : no_bytes text ≡ true
  pub script : s ≡ script_of empty

abbrev pub TextSpells : List ℕ → Script → Type 0
TextSpells text s = IsNothing text s ⊎ IsText text s
