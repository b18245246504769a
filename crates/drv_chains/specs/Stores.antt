-- The links while a member is linked or unlinked, one store at a time (EHCI 1.0, 4.6).
--     IsChain links word ms        following the links from this word, one comes to these members in order, and then to the end
--     stored links words to        the links once these words lead to `to`
--     is_made s m words f          the store of frame f is among those made: m stands in f, and the word before it is among the words
--     half_linked old new m words f      the chain of frame f while m is linked: the new one where its store is made, else the old one
--     half_unlinked old new m words f    the same while m is unlinked
use Rattle.std.specs.Prelude.{◌≡◌, ℕ, Bool, false, ◌&&◌, nat_eq, if◌then◌else◌, List, [], ◌∷◌, Option, Some, None}
use Rattle.std.specs.List.{list_any}
use Rattle.drv_chains.specs.declared.members.Member.{Member}
use Rattle.drv_chains.specs.declared.members.Member.TheVariants.{Once, Each}
use Rattle.drv_chains.specs.declared.members.Predecessor.{Predecessor}
use Rattle.drv_chains.specs.declared.members.Predecessor.TheVariants.{Element, After}
use Rattle.drv_chains.specs.Chains.{Schedule, stands_in, predecessor, chain}

unfoldable pub IsChain : (Predecessor → Option Member) → Predecessor → List Member → Type 0
IsChain links word [] = links word ≡ None
IsChain links word (m ∷ ms) = (links word ≡ Some m) × IsChain links (After m) ms

abbrev pub is_same : Member → Member → Bool
is_same (Once d) (Once e) = nat_eq d.id e.id && nat_eq d.frame e.frame
is_same (Once d) (Each r) = false
is_same (Each q) (Once e) = false
is_same (Each q) (Each r) = nat_eq q.id r.id && (nat_eq q.period r.period && nat_eq q.phase r.phase)

abbrev pub is_word : Predecessor → Predecessor → Bool
is_word (Element f) (Element g) = nat_eq f g
is_word (Element f) (After m) = false
is_word (After m) (Element g) = false
is_word (After m) (After n) = is_same m n

abbrev pub is_among : List Predecessor → Predecessor → Bool
is_among words word = list_any (λ w. is_word w word) words

abbrev pub stored : (Predecessor → Option Member) → List Predecessor → Option Member → Predecessor → Option Member
stored links words to word = if is_among words word then to else links word

abbrev pub is_made : Schedule → Member → List Predecessor → ℕ → Bool
is_made s m words f = stands_in f m && is_among words (predecessor s m f)

abbrev pub half_linked : Schedule → Schedule → Member → List Predecessor → ℕ → List Member
half_linked old new m words f = if is_made new m words f then chain new f else chain old f

abbrev pub half_unlinked : Schedule → Schedule → Member → List Predecessor → ℕ → List Member
half_unlinked old new m words f = if is_made old m words f then chain new f else chain old f
