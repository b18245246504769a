-- The classes of the interrupt queue heads: one for each pair of a level and a phase below 2 ^ level, those that stand in the same frames
-- (EHCI 1.0, 4.6). A frame's chain is its descriptors and one class a level, the highest level first.
--     members s level phase        the class, in the order of the chain
--     chain_by_classes s f         the chain of frame f of 1,024
--     words_below s left level phase    the words that lead to what follows the class (level, phase), found from the class up: of each
--                                       of the two classes of twice the period its last member's, or where it is empty the words that
--                                       this rule finds there; where no level is left the frame's oldest descriptor's, or its element
--     class_words s left level q   the words that are stored where q is linked or unlinked
use Rattle.std.specs.Prelude.{ℕ, zero, suc, ◌+◌, ◌*◌, ◌%◌, ◌^◌, List, [], ◌∷◌, ◌++◌, map, filter}
use Rattle.std.specs.List.{flat_map}
use Rattle.drv_chains.specs.declared.members.QueueHead.{QueueHead}
use Rattle.drv_chains.specs.declared.members.Member.{Member}
use Rattle.drv_chains.specs.declared.members.Member.TheVariants.{Once, Each}
use Rattle.drv_chains.specs.declared.members.Predecessor.{Predecessor}
use Rattle.drv_chains.specs.declared.members.Predecessor.TheVariants.{Element, After}
use Rattle.drv_chains.specs.Chains.{Schedule, at_place, descriptors_in, word_after, before_the}

-- the periods of a level's queue heads, the longer first
abbrev pub periods_of : ℕ → List ℕ
periods_of zero = 8 ∷ 4 ∷ 2 ∷ 1 ∷ []
periods_of (suc level) = 8 * 2 ^ suc level ∷ []

abbrev pub members : Schedule → ℕ → ℕ → List QueueHead
members s level phase = flat_map (λ period. filter (at_place period phase) s.queues) (periods_of level)

-- the classes of frame f from a level down
unfoldable pub classes_from : Schedule → ℕ → ℕ → List QueueHead
classes_from s zero f = members s 0 0
classes_from s (suc level) f = members s (suc level) (f % 2 ^ suc level) ++ classes_from s level f

abbrev pub chain_by_classes : Schedule → ℕ → List Member
chain_by_classes s f = map Once (descriptors_in s f) ++ map Each (classes_from s 10 f)

-- the word of the last of these, or where there is none the others
abbrev pub last_of : List Member → List Predecessor → List Predecessor
last_of [] others = others
last_of (m ∷ ms) others = word_after (After m) ms ∷ []

unfoldable pub words_below : Schedule → ℕ → ℕ → ℕ → List Predecessor
words_below s zero level phase = word_after (Element phase) (map Once (descriptors_in s phase)) ∷ []
words_below s (suc left) level phase =
    last_of (map Each (members s (suc level) phase)) (words_below s left (suc level) phase)
    ++ last_of (map Each (members s (suc level) (phase + 2 ^ level))) (words_below s left (suc level) (phase + 2 ^ level))

-- the words that are stored where queue head q of the class is linked or unlinked: of the member before it in its class, or where it is
-- the first the words below
abbrev pub class_words : Schedule → ℕ → ℕ → QueueHead → List Predecessor
class_words s left level q = last_of (before_the (Each q) (map Each (members s level q.phase))) (words_below s left level q.phase)
