-- The frame list of a driver in the words of memory (EHCI 1.0, 3.1, 3.3.1 and 4.6), also while a member is linked or unlinked. What words
-- there are is a function from a byte address to the word there.
--     Leads list word p ms     following the link words from p, one comes to ms in order, and then to the end
--     is_at list at p          the word p has this address
--     set_all list ps v word   the words once those of ps have the value v
--     old_of s w               the schedule before what is under way, and after it
--     Begun p w word           before the first store the words stood for the old schedule and the member's own link led to the one behind
--                              it; since then the first stores were made, and nothing else
--     HasMember s o            what is under way has a member of the schedule
--     IsInOrder p              the members are kept in order, and what is under way has one of them
--     StandFor p word          the words stand for the list: each frame's lead to its chain, or what is under way has begun so
--     ListStands m d           its members are kept in order, and the words of memory stand for it, also while a member is linked or
--                              unlinked
use Rattle.std.specs.List.{list_any}
use Rattle.std.specs.Prelude.{◌≡◌, ℕ, ◌<◌, Bool, true, nat_eq, List, [], ◌∷◌, take, Option, Some, if◌then◌else◌, None}
use Rattle.word_mem.specs.Memory.{Mem, word_at}
use Rattle.drv_chains.specs.declared.members.Member.{Member}
use Rattle.drv_chains.specs.declared.members.Predecessor.{Predecessor}
use Rattle.drv_chains.specs.declared.members.Predecessor.TheVariants.{Element, After}
use Rattle.drv_chains.specs.Chains.{Schedule, id_of, chain, successor}
use Rattle.drv_members.specs.Members.{IsKept, IsMember, without_member, is_linked, frame_of}
use Rattle.drv_periodic.specs.declared.work.Work.{Work}
use Rattle.drv_periodic.specs.Periodic.{Periodic, link_to, words_of, address_of, value_of}
use Rattle.drv_table.specs.DriverContent.{DriverContent}

unfoldable pub Leads : ℕ → (ℕ → ℕ) → Predecessor → List Member → Type 0
Leads list word p [] = word (address_of list p) ≡ 1
Leads list word p (m ∷ ms) = (word (address_of list p) ≡ id_of m) × Leads list word (After m) ms

abbrev pub is_at : ℕ → ℕ → Predecessor → Bool
is_at list at p = nat_eq (address_of list p) at

abbrev pub set_all : ℕ → List Predecessor → ℕ → (ℕ → ℕ) → ℕ → ℕ
set_all list ps v word at = if list_any (is_at list at) ps then v else word at

abbrev pub old_of : Schedule → Work → Schedule
old_of s w = if w.removes then s else without_member s w.member

abbrev pub made_of : Schedule → Work → List Predecessor
made_of s w = take w.made (words_of s w)

abbrev pub AllLead : ℕ → (ℕ → ℕ) → Schedule → Type 0
AllLead list word s = (f : ℕ) → f < 1024 → Leads list word (Element f) (chain s f)

pub record Begun (list : ℕ) (s : Schedule) (w : Work) (word : ℕ → ℕ) : Type 0 where
  pub before : ℕ → ℕ
  pub stood : AllLead list before (old_of s w)
  pub own : before (address_of list (After w.member)) ≡ link_to (successor s w.member (frame_of w.member))
  pub since : (at : ℕ) → word at ≡ set_all list (made_of s w) (value_of s w) before at

abbrev pub StandsBy : ℕ → Schedule → Option Work → (ℕ → ℕ) → Type 0
StandsBy list s None word = AllLead list word s
StandsBy list s (Some w) word = Begun list s w word

abbrev pub StandFor : Periodic → (ℕ → ℕ) → Type 0
StandFor p word = StandsBy p.list p.members.schedule p.work word

-- what is under way has a member of the schedule
abbrev pub HasMember : Schedule → Option Work → Type 0
HasMember s None = Unit {0}
HasMember s (Some w) = IsMember w.member × (is_linked s w.member ≡ true)

pub record IsInOrder (p : Periodic) : Type 0 where
  pub kept : IsKept p.members.schedule
  pub member : HasMember p.members.schedule p.work

pub record ListStands (m : Mem) (d : DriverContent) : Type 0 where
  pub order : IsInOrder d.periodic.list
  pub words : StandFor d.periodic.list (word_at m)
