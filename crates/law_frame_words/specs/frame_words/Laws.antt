-- What holds of the words while a list changes.
--     StaysStanding p          the words stand for the list after its next store
--     LeadOn list s w word     while this is under way the words of each frame lead to what is shown
--     BeginsToInsert p m       what is begun with a new member stands for the words as they are
--     BeginsToRemove p m       the same with a member that goes
use Rattle.std.specs.Prelude.{◌≡◌, ℕ, ◌<◌, true, false, None, Some}
use Rattle.drv_chains.specs.declared.members.Member.{Member}
use Rattle.drv_chains.specs.declared.members.Predecessor.TheVariants.{Element, After}
use Rattle.drv_chains.specs.Chains.{Schedule, has_name, id_of, successor}
use Rattle.drv_members.specs.Members.{IsKept, IsMember, is_linked, with_member, frame_of}
use Rattle.drv_periodic.specs.declared.work.Work.{Work}
use Rattle.drv_periodic.specs.declared.work.Store.{Store}
use Rattle.drv_periodic.specs.Periodic.{Periodic, link_to, address_of, next_store, inserting, removing, after_store}
use Rattle.claims_driver.specs.FrameWords.{Leads, IsInOrder, StandFor, Begun}
use Rattle.law_frame_words.specs.frame_words.InWords.{IsSpread, shown, with_value}

abbrev pub StaysStanding : Periodic → Type 0
StaysStanding p = (s : Store) → (word : ℕ → ℕ) → IsInOrder p → IsSpread p.list p.members.schedule → StandFor p word
    → next_store p ≡ Some s → StandFor (after_store p) (with_value word s.at s.value)

abbrev pub LeadOn : ℕ → Schedule → Work → (ℕ → ℕ) → Type 0
LeadOn list s w word = (f : ℕ) → IsKept s → IsSpread list s → IsMember w.member → is_linked s w.member ≡ true
    → Begun list s w word → f < 1024 → Leads list word (Element f) (shown s w f)

-- its own link must lead to the one that will be behind it
abbrev pub BeginsToInsert : Periodic → Member → Type 0
BeginsToInsert p m = (word : ℕ → ℕ) → IsKept p.members.schedule → has_name p.members.schedule (id_of m) ≡ false → p.work ≡ None
    → word (address_of p.list (After m)) ≡ link_to (successor (with_member p.members.schedule m) m (frame_of m))
    → StandFor p word → StandFor (inserting p m) word

abbrev pub BeginsToRemove : Periodic → Member → Type 0
BeginsToRemove p m = (word : ℕ → ℕ) → IsKept p.members.schedule → IsMember m → is_linked p.members.schedule m ≡ true → p.work ≡ None
    → StandFor p word → StandFor (removing p m) word
