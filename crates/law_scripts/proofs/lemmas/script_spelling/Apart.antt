-- Two forms of one first word share no words: somewhere one has a keyword that the other doesn't take.
use Rattle.std.specs.Prelude.{Bool, true, false, not, ◌&&◌, ◌||◌, List, [], ◌∷◌}
use Rattle.std.specs.List.{list_all}
use Rattle.script_forms.specs.declared.table.Form.{Form}
use Rattle.script_forms.specs.declared.table.Slot.{Slot}
use Rattle.script_forms.specs.declared.table.Slot.TheVariants.{Key}
use Rattle.script_forms.specs.Table.{keyword_word, slots_of}
use Rattle.script_forms.specs.Fitting.{fits}

-- the first slot is a keyword that doesn't fit the second
abbrev pub is_apart : Slot → Slot → Bool
is_apart (Key k) s = not (fits s (keyword_word k))
is_apart _ s = false

-- the lists differ in their length, or in some place one slot takes no word of the other
abbrev pub differ : List Slot → List Slot → Bool
differ [] [] = false
differ [] (t ∷ ts) = true
differ (s ∷ ss) [] = true
differ (s ∷ ss) (t ∷ ts) = (is_apart s t || is_apart t s) || differ ss ts

-- each form differs from each later one
abbrev pub all_differ : List Form → Bool
all_differ [] = true
all_differ (f ∷ fs) = list_all (λ g. differ (slots_of f) (slots_of g)) fs && all_differ fs
