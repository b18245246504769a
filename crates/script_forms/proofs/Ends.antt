-- Where words end before the slots.
use Rattle.std.proofs.Common.{◌≡◌, ℕ, ◌≤◌, true, List, [], ◌∷◌, length, drop, refl, ap, ◌∙◌}
use Rattle.std.proofs.lemmas.List.{drop_all}
use Rattle.script_forms.specs.declared.table.Slot.{Slot}
use Rattle.script_forms.specs.Fitting.{reach, all_ranged}

no_words_reach : (ss : List Slot) → reach ss [] ≡ 0
no_words_reach [] = refl
no_words_reach (s ∷ ss) = refl

no_words_ranged : (ss : List Slot) → all_ranged ss [] ≡ true
no_words_ranged [] = refl
no_words_ranged (s ∷ ss) = refl

pub reach_end : (ss : List Slot) (ws : List (List ℕ)) (i : ℕ) → length ws ≤ i → reach (drop i ss) (drop i ws) ≡ 0
reach_end ss ws i h = ap (reach (drop i ss)) (drop_all i ws h) ∙ no_words_reach (drop i ss)

pub ranged_end : (ss : List Slot) (ws : List (List ℕ)) (i : ℕ) → length ws ≤ i → all_ranged (drop i ss) (drop i ws) ≡ true
ranged_end ss ws i h = ap (all_ranged (drop i ss)) (drop_all i ws h) ∙ no_words_ranged (drop i ss)
