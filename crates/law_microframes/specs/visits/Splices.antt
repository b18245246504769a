-- What the next store of a frame list changes (EHCI 1.0, 3.1, 3.3.1 and 4.6): it puts a member between the one before it and the one behind it, or takes one out from
-- between them.
--     passed s w           where the word of the store leads before it: a leaving member, or the one that will be behind a new one
--     IsSplice list s w word p
--                          the next store of what is under way goes to the word p: it leads either where the store lets it lead, or past the member; the member's own
--                          link leads to the one behind it; and the member stands in each frame that has the word
--     NextStoreSplices     so it is with each next store
use Rattle.std.specs.Prelude.{◌≡◌, ◌⊎◌, ℕ, true, false, slice_get, Some, if◌then◌else◌}
use Rattle.drv_chains.specs.declared.members.Predecessor.{Predecessor}
use Rattle.drv_chains.specs.declared.members.Predecessor.TheVariants.{After}
use Rattle.drv_chains.specs.Chains.{Schedule, id_of, stands_in, has_word, successor}
use Rattle.drv_chains.specs.Stores.{is_word}
use Rattle.drv_members.specs.Members.{IsKept, IsMember, is_linked, frame_of}
use Rattle.drv_periodic.specs.declared.work.Work.{Work}
use Rattle.drv_periodic.specs.Periodic.{link_to, address_of, words_of, value_of}
use Rattle.law_frame_words.specs.frame_words.InWords.{IsSpread}
use Rattle.claims_driver.specs.FrameWords.{Begun}

abbrev pub passed : Schedule → Work → ℕ
passed s w = if w.removes then id_of w.member else link_to (successor s w.member (frame_of w.member))

pub record IsSplice (list : ℕ) (s : Schedule) (w : Work) (word : ℕ → ℕ) (p : Predecessor) : Type 0 where
  pub other : is_word p (After w.member) ≡ false
  pub leads : (word (address_of list p) ≡ value_of s w) ⊎ (word (address_of list p) ≡ passed s w)
  pub first : w.made ≡ 0 → word (address_of list p) ≡ passed s w
  pub own : word (address_of list (After w.member)) ≡ link_to (successor s w.member (frame_of w.member))
  pub serves : (f : ℕ) → has_word f p ≡ true → stands_in f w.member ≡ true

abbrev pub NextStoreSplices : Type 0
NextStoreSplices = (list : ℕ) (s : Schedule) (w : Work) (word : ℕ → ℕ) (p : Predecessor) → IsKept s → IsSpread list s → IsMember w.member → is_linked s w.member ≡ true → Begun list s w word
    → slice_get (words_of s w) w.made ≡ Some p → IsSplice list s w word p
