-- What a search finds are the words below the class.
use Rattle.std.proofs.Common.{◌≡◌, ℕ, zero, suc, ◌+◌, ◌^◌, List, [], ◌∷◌, ◌++◌, map, Some, None, refl, ap, ◌∙◌}
use Rattle.std.specs.List.{last_or}
use Rattle.std.proofs.lemmas.List.{map-append}
use Rattle.drv_chains.specs.declared.members.QueueHead.{QueueHead}
use Rattle.drv_chains.specs.declared.members.Member.TheVariants.{Each}
use Rattle.drv_chains.specs.declared.members.Predecessor.{Predecessor}
use Rattle.drv_chains.specs.declared.members.Predecessor.TheVariants.{After}
use Rattle.drv_chains.specs.Chains.{Schedule, word_after}
use Rattle.drv_chains.specs.Classes.{members, last_of, words_below}
use Rattle.drv_search.specs.declared.search.Found.{Found}
use Rattle.drv_search.specs.Search.{last_found, found_at, found_below, word_of}

last_word : (s : Schedule) (q : QueueHead) (qs : List QueueHead) (others : List Found) → map (word_of s) (last_found (last_or (Some q) qs) others) ≡ word_after (After (Each q)) (map Each qs) ∷ []
unfolding word_after
last_word s q [] others = refl
last_word s q (r ∷ qs) others = last_word s r qs others

pub last_same : (s : Schedule) (qs : List QueueHead) (others : List Found) (words : List Predecessor) → map (word_of s) others ≡ words → map (word_of s) (last_found (last_or None qs) others) ≡ last_of (map Each qs) words
last_same s [] others words e = e
last_same s (q ∷ qs) others words e = last_word s q qs others

pub found_words : (s : Schedule) (left level phase : ℕ) → map (word_of s) (found_below s left level phase) ≡ words_below s left level phase
unfolding found_below words_below
found_words s zero level phase = refl
found_words s (suc left) level phase =
    map-append (word_of s) (found_at s left (suc level) phase) (found_at s left (suc level) (phase + 2 ^ level))
    ∙ ap (λ x. x ++ map (word_of s) (found_at s left (suc level) (phase + 2 ^ level))) (last_same s (members s (suc level) phase) (found_below s left (suc level) phase) (words_below s left (suc level) phase) (found_words s left (suc level) phase))
    ∙ ap (λ x. last_of (map Each (members s (suc level) phase)) (words_below s left (suc level) phase) ++ x) (last_same s (members s (suc level) (phase + 2 ^ level)) (found_below s left (suc level) (phase + 2 ^ level)) (words_below s left (suc level) (phase + 2 ^ level)) (found_words s left (suc level) (phase + 2 ^ level)))
