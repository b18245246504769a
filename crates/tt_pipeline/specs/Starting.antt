-- What a start-split makes of the pipeline (USB 2.0, 11.18 and 11.21).
--     start_row ask n es      the row of a start with n bytes
--     started ask bytes p es  the entries after it; stuffed bits make its bytes longer by p in 36
use Rattle.std.specs.Prelude.{ℕ, ◌+◌, Bool, ◌||◌, nat_le, nat_lt, if◌then◌else◌, Option, Some, None, List, [], ◌∷◌, ◌++◌, length}
use Rattle.std.specs.List.{find, list_any}
use Rattle.usb_base.specs.declared.packets.Ask.{Ask}
use Rattle.usb_base.specs.declared.packets.DataPart.{DataPart}
use Rattle.usb_base.specs.declared.packets.DataPart.TheVariants.{All, Begin, Middle, End}
use Rattle.hub_keys.specs.Keys.{key_of, is_same_key}
use Rattle.hub_keys.specs.declared.key.Key.{Key}
use Rattle.tt_pipeline.specs.declared.entry.Entry.{Entry}
use Rattle.tt_pipeline.specs.declared.rows.StartRow.{StartRow}
use Rattle.tt_pipeline.specs.declared.rows.StartRow.TheVariants.{Enters, Joins, Forgotten}
use Rattle.tt_pipeline.specs.Work.{asked_part, fresh, joined}

abbrev pub has_key : Key → Entry → Bool
has_key k e = is_same_key e.key k

-- with the first element that passes changed
abbrev pub with_first : {X : Type 0} → (X → Bool) → (X → X) → List X → List X
with_first p f [] = []
with_first p f (x ∷ xs) = if p x then f x ∷ xs else x ∷ with_first p f xs

-- without the first element that passes
abbrev pub without_first : {X : Type 0} → (X → Bool) → List X → List X
without_first p [] = []
without_first p (x ∷ xs) = if p x then xs else x ∷ without_first p xs

-- the entries with that of the key changed
abbrev pub at_key : Key → (Entry → Entry) → List Entry → List Entry
at_key k f es = with_first (has_key k) f es

-- the entries but that of the key
abbrev pub without : Key → List Entry → List Entry
without k es = without_first (has_key k) es

-- the key has an entry
abbrev pub is_there : Key → List Entry → Bool
is_there k es = list_any (has_key k) es

-- a later part of n bytes joins the entry of its key, as long as that stays within 1,024 bytes
abbrev pub later_row : ℕ → Option Entry → StartRow
later_row n None = Forgotten
later_row n (Some e) = if nat_le (e.came.bytes + n) 1024 then Joins else Forgotten

-- any other start makes an entry, where its key has one or there are fewer than 256
abbrev pub first_row : Key → List Entry → StartRow
first_row k es = if is_there k es || nat_lt (length es) 256 then Enters else Forgotten

abbrev pub row_of_part : DataPart → Key → ℕ → List Entry → StartRow
row_of_part All k n es = first_row k es
row_of_part Begin k n es = first_row k es
row_of_part Middle k n es = later_row n (find (has_key k) es)
row_of_part End k n es = later_row n (find (has_key k) es)

abbrev pub start_row : Ask → ℕ → List Entry → StartRow
start_row ask n es = row_of_part (asked_part ask) (key_of ask) n es

-- a new entry stands last in the order of arrival
abbrev pub after_start : StartRow → Ask → List ℕ → ℕ → List Entry → List Entry
after_start Enters ask bytes stuff es = without (key_of ask) es ++ fresh ask bytes stuff ∷ []
after_start Joins ask bytes stuff es = at_key (key_of ask) (joined ask bytes) es
after_start Forgotten ask bytes stuff es = es

abbrev pub started : Ask → List ℕ → ℕ → List Entry → List Entry
started ask bytes stuff es = after_start (start_row ask (length bytes) es) ask bytes stuff es
