-- Lists of structures in memory, each of which leads to the next one, and the text that shows such a list.
use Rattle.std.specs.Prelude.{ℕ, zero, suc, Bool, true, false, nat_lt, ◌==◌, if◌then◌else◌, List, [], ◌∷◌, ◌++◌, map, codes, decimal, Option, Some, None, is_some}
use Rattle.std.specs.List.{flat_map, list_any}
use Rattle.image_show.specs.declared.ending.Ending.{Ending}
use Rattle.image_show.specs.declared.ending.Ending.TheVariants as endings
use Rattle.image_show.specs.Text.{hex, line}

-- ---- items that lead to one another

-- the item at a place, from 0: the first one, and then what the one before leads to
abbrev pub item_at : {A : Type 0} → (A → A) → A → ℕ → A
item_at next first zero = first
item_at next first (suc k) = next (item_at next first k)

-- the first k items
abbrev pub items : {A : Type 0} → (A → A) → A → ℕ → List A
items next first zero = []
items next first (suc k) = items next first k ++ item_at next first k ∷ []

-- the first number from k on, of n numbers, of which a test holds; else the one after them
abbrev pub first_from : (ℕ → Bool) → ℕ → ℕ → ℕ
first_from test k zero = k
first_from test k (suc n) = if test k then k else first_from test (suc k) n

-- the first number below n of which a test holds, else n
unfoldable pub first_below : (ℕ → Bool) → ℕ → ℕ
first_below test n = first_from test 0 n

abbrev pub is_in : ℕ → List ℕ → Bool
is_in a addresses = list_any (λ b. b == a) addresses

-- ---- lines

abbrev pub ending_text : Ending → List ℕ
ending_text endings.Silent = []
ending_text endings.End = codes "end"
ending_text endings.Ring = codes "ring"
ending_text (endings.Outside a) = codes "outside at " ++ hex 8 a
ending_text (endings.Loop a) = codes "loop at " ++ hex 8 a
ending_text (endings.Seen a) = codes "seen " ++ hex 8 a
ending_text (endings.Fstn a) = codes "fstn at " ++ hex 8 a
ending_text (endings.Bad a bad) = codes "bad at " ++ hex 8 a ++ codes " word " ++ decimal bad.word ++ codes " bit " ++ decimal bad.bit
ending_text (endings.Kind a) = codes "kind at " ++ hex 8 a

abbrev pub is_silent : Ending → Bool
is_silent endings.Silent = true
is_silent _ = false

-- how a list ends, at the list's indent
abbrev pub ending_line : List ℕ → Ending → List ℕ
ending_line indent ending = if is_silent ending then [] else line (indent ++ ending_text ending)

abbrev pub ending_lines : List ℕ → Option Ending → List ℕ
ending_lines indent None = []
ending_lines indent (Some ending) = ending_line indent ending

-- ---- endings

abbrev pub when : Bool → Ending → Option Ending
when holds ending = if holds then Some ending else None

-- the first ending that there is
abbrev pub first_ending : List (Option Ending) → Option Ending
first_ending [] = None
first_ending (None ∷ later) = first_ending later
first_ending (Some ending ∷ later) = Some ending

-- ---- a list

-- A kind of list, whose links are of type A.
pub record Linked (A : Type 0) : Type 0 where
  pub next : A → A  -- the link of the structure that a link leads to
  pub address : A → ℕ  -- the byte address of that structure
  pub ending : Bool → Bool → A → Option Ending  -- why the list ends at a link: whether it has begun before, and whether the link's structure is already in it
  pub text : A → List ℕ  -- the lines of the structure that a link leads to
  pub indent : List ℕ
  pub most : ℕ  -- the units of 32 bytes in memory: a list has no more structures, since none comes twice

module _ {A : Type 0} (l : Linked A) (first : A) where
  -- the link at a place of the list that begins with `first`
  abbrev pub link_at : ℕ → A
  link_at k = item_at l.next first k

  -- the addresses of its first k structures
  abbrev pub passed : ℕ → List ℕ
  passed k = map l.address (items l.next first k)

  -- why it ends at its link k, from 0, if it does
  unfoldable pub ending_at : ℕ → Option Ending
  ending_at k = l.ending (nat_lt 0 k) (is_in (l.address (link_at k)) (passed k)) (link_at k)

  -- how many structures it shows: those before the first link that ends it
  unfoldable pub count : ℕ
  count = first_below (λ k. is_some (ending_at k)) l.most

  -- its structures, and how it ends
  unfoldable pub list_text : List ℕ
  list_text = flat_map l.text (items l.next first count) ++ ending_lines l.indent (ending_at count)
