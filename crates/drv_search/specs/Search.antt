-- The search of the words right before a class, as a list of what is found.
--     found_at s left level phase      at a class: its last member, or what is found below it
--     found_below s left level phase   below it: in its two halves, where no level is left the frame
--     pending s depth left level phase     what is found after the class (level, phase), below the one that stands `depth` levels above it
--     found_from s depth level phase       what is found at the class, and after it
--     found_then s found depth level phase     this, and what is found after it
--     words_left s search              what a search has still to find
--     IsSearch search                  its level and phase are in range
--     word_of s found                  the word that was found
use Rattle.std.specs.Prelude.{ℕ, zero, suc, ◌+◌, ◌-◌, ◌^◌, ◌<◌, ◌≤◌, nat_lt, if◌then◌else◌, List, [], ◌∷◌, ◌++◌, map, Option, Some, None}
use Rattle.std.specs.List.{last_or}
use Rattle.drv_chains.specs.declared.members.QueueHead.{QueueHead}
use Rattle.drv_chains.specs.declared.members.Member.TheVariants.{Once, Each}
use Rattle.drv_chains.specs.declared.members.Predecessor.{Predecessor}
use Rattle.drv_chains.specs.declared.members.Predecessor.TheVariants.{Element, After}
use Rattle.drv_chains.specs.Chains.{Schedule, descriptors_in, word_after}
use Rattle.drv_chains.specs.Classes.{members}
use Rattle.drv_search.specs.declared.search.Found.{Found}
use Rattle.drv_search.specs.declared.search.Found.TheVariants.{Last, Frame}
use Rattle.drv_search.specs.declared.search.Stage.{Stage}
use Rattle.drv_search.specs.declared.search.Stage.TheVariants.{Ended, AtClass, AtFrame}
use Rattle.drv_search.specs.declared.search.Search.{Search as Place}

abbrev pub last_found : Option QueueHead → List Found → List Found
last_found None others = others
last_found (Some q) others = Last q ∷ []

unfoldable pub found_below : Schedule → ℕ → ℕ → ℕ → List Found
found_below s zero level phase = Frame phase ∷ []
found_below s (suc left) level phase =
    last_found (last_or None (members s (suc level) phase)) (found_below s left (suc level) phase)
    ++ last_found (last_or None (members s (suc level) (phase + 2 ^ level))) (found_below s left (suc level) (phase + 2 ^ level))

abbrev pub found_at : Schedule → ℕ → ℕ → ℕ → List Found
found_at s left level phase = last_found (last_or None (members s level phase)) (found_below s left level phase)

unfoldable pub pending : Schedule → ℕ → ℕ → ℕ → ℕ → List Found
pending s zero left level phase = []
pending s (suc depth) left zero phase = []
pending s (suc depth) left (suc level) phase =
    if nat_lt phase (2 ^ level)
    then found_at s left (suc level) (phase + 2 ^ level) ++ pending s depth (suc left) level phase
    else pending s depth (suc left) level (phase - 2 ^ level)

abbrev pub found_from : Schedule → ℕ → ℕ → ℕ → List Found
found_from s depth level phase = found_at s (10 - level) level phase ++ pending s depth (10 - level) level phase

abbrev pub found_then : Schedule → Found → ℕ → ℕ → ℕ → List Found
found_then s found depth level phase = found ∷ pending s depth (10 - level) level phase

abbrev pub words_in : Schedule → Stage → ℕ → ℕ → ℕ → List Found
words_in s Ended floor level phase = []
words_in s AtClass floor level phase = found_from s (level - floor) level phase
words_in s AtFrame floor level phase = found_then s (Frame phase) (level - floor) level phase

abbrev pub words_left : Schedule → Place → List Found
words_left s p = words_in s p.stage p.floor p.level p.phase

pub record IsSearch (p : Place) : Type 0 where
  pub floor : p.floor ≤ p.level
  pub level : p.level ≤ 10
  pub phase : p.phase < 2 ^ p.level

abbrev pub word_of : Schedule → Found → Predecessor
word_of s (Last q) = After (Each q)
word_of s (Frame f) = word_after (Element f) (map Once (descriptors_in s f))
