-- The chains of the frame list as one reads them from words, while a member is linked or unlinked (EHCI 1.0, 3.1, 3.3.1 and 4.6). What words
-- there are is a function from a byte address to the word there.
--     IsSpread list s             no two members share a block, none lies in the list, and no name is the end's
--     new_of s w                  the schedule before what is under way, and after it
--     shown s w f                 the chain of frame f: the new one where its store was made, else the old one
use Rattle.std.specs.Prelude.{◌≡◌, ℕ, ◌+◌, ◌/◌, ◌<◌, ◌≤◌, ◌⊎◌, true, nat_eq, List, if◌then◌else◌}
use Rattle.drv_chains.specs.declared.members.Member.{Member}
use Rattle.drv_chains.specs.Chains.{Schedule, chain, id_of}
use Rattle.drv_chains.specs.Stores.{is_made}
use Rattle.drv_members.specs.Members.{without_member, is_linked}
use Rattle.drv_periodic.specs.declared.work.Work.{Work}
use Rattle.claims_driver.specs.FrameWords.{made_of, old_of}

pub record IsSpread (list : ℕ) (s : Schedule) : Type 0 where
  pub named : (m : Member) → is_linked s m ≡ true → id_of m ≡ 1 → ⊥
  pub apart : (m : Member) → is_linked s m ≡ true → (id_of m / 32 < list) ⊎ (list + 128 ≤ id_of m / 32)
  pub once : (m n : Member) → is_linked s m ≡ true → is_linked s n ≡ true → id_of m / 32 ≡ id_of n / 32 → m ≡ n

abbrev pub new_of : Schedule → Work → Schedule
new_of s w = if w.removes then without_member s w.member else s

abbrev pub shown : Schedule → Work → ℕ → List Member
shown s w f = if is_made s w.member (made_of s w) f then chain (new_of s w) f else chain (old_of s w) f

-- the words once v is stored at an address
abbrev pub with_value : (ℕ → ℕ) → ℕ → ℕ → ℕ → ℕ
with_value word at v a = if nat_eq a at then v else word a
