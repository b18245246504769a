-- What stands in the frame list, as it is kept (EHCI 1.0, 4.6): queue heads by rank, and of one period and phase in the order of opening;
-- descriptors by frame, and of one frame the newest first.
--     Members                  the schedule, and how many queue heads and descriptors it may have
--     IsRising n xs            the number of each is at most that of those behind it
--     IsKept s                 the schedule is in this order, its members are in range, and no two have one name
--     IsMember m               a queue head with a period and a phase, or a descriptor of a frame below 1,024
--     HasRoom m x              there is room for one more of its kind
--     takes m x               x is a member with a new name, and there is room
--     with_member s m          m stands behind all queue heads of no higher rank, or ahead of all descriptors of no lower frame
--     without_member s m       no member has the name of m
--     words_ahead o others     the words that lead to a queue head, by the one ahead of it in its class
--     frame_of m               the first frame of m
--     is_linked s m            m is one of the schedule's
use Rattle.std.specs.Prelude.{◌≡◌, ℕ, ◌+◌, ◌<◌, ◌≤◌, Bool, true, not, ◌&&◌, nat_eq, nat_le, nat_lt, List, [], ◌∷◌, ◌++◌, length, filter, count_by, Option, Some, None, option_map}
use Rattle.std.specs.List.{AllByRecursion, list_any}
use Rattle.usb_base.specs.Limits.{frame_list_length}
use Rattle.drv_chains.specs.declared.members.Descriptor.{Descriptor}
use Rattle.drv_chains.specs.declared.members.QueueHead.{QueueHead}
use Rattle.drv_chains.specs.declared.members.Member.{Member}
use Rattle.drv_chains.specs.declared.members.Member.TheVariants.{Once, Each}
use Rattle.drv_chains.specs.declared.members.Predecessor.{Predecessor}
use Rattle.drv_chains.specs.declared.members.Predecessor.TheVariants.{Element, After}
use Rattle.drv_chains.specs.Chains.{Schedule, of_lists, has_name, id_of}
use Rattle.drv_members.specs.Ranks.{rank_of, is_queue, is_named, is_called}

pub record Members : Type 0 where
  pub schedule : Schedule
  pub queue_room : ℕ
  pub descriptor_room : ℕ

abbrev pub names : Schedule → ℕ → ℕ
names s id = count_by (is_called id) s.descriptors + count_by (is_named id) s.queues

-- the number doesn't fall along the list
unfoldable pub IsRising : {X : Type 0} → (X → ℕ) → List X → Type 0
IsRising n [] = Unit {0}
IsRising n (x ∷ xs) = AllByRecursion (λ y. n x ≤ n y) xs × IsRising n xs

abbrev pub frame_in : Descriptor → ℕ
frame_in d = d.frame

pub record IsKept (s : Schedule) : Type 0 where
  pub ranked : IsRising rank_of s.queues
  pub queues : AllByRecursion (λ q. is_queue q ≡ true) s.queues
  pub framed : IsRising frame_in s.descriptors
  pub frames : AllByRecursion (λ d. frame_in d < frame_list_length) s.descriptors
  pub named : (id : ℕ) → names s id ≤ 1

abbrev pub IsMember : Member → Type 0
IsMember (Once d) = d.frame < frame_list_length
IsMember (Each q) = is_queue q ≡ true

-- of no higher rank than q
abbrev pub is_up_to : ℕ → QueueHead → Bool
is_up_to r x = nat_le (rank_of x) r

abbrev pub with_queue : List QueueHead → QueueHead → List QueueHead
with_queue qs q = filter (is_up_to (rank_of q)) qs ++ q ∷ filter (λ x. not (is_up_to (rank_of q) x)) qs

-- of a lower frame than f
abbrev pub is_below : ℕ → Descriptor → Bool
is_below f x = nat_lt x.frame f

abbrev pub with_descriptor : List Descriptor → Descriptor → List Descriptor
with_descriptor ds d = filter (is_below d.frame) ds ++ d ∷ filter (λ x. not (is_below d.frame x)) ds

abbrev pub with_member : Schedule → Member → Schedule
with_member s (Once d) = of_lists (with_descriptor s.descriptors d) s.queues
with_member s (Each q) = of_lists s.descriptors (with_queue s.queues q)

abbrev pub without_member : Schedule → Member → Schedule
without_member s (Once d) = of_lists (filter (λ x. not (is_called d.id x)) s.descriptors) s.queues
without_member s (Each q) = of_lists s.descriptors (filter (λ x. not (is_named q.id x)) s.queues)

abbrev pub frame_of : Member → ℕ
frame_of (Once d) = d.frame
frame_of (Each q) = q.phase

abbrev pub is_that : Descriptor → Descriptor → Bool
is_that d x = nat_eq x.id d.id && nat_eq x.frame d.frame

abbrev pub is_this : QueueHead → QueueHead → Bool
is_this q x = nat_eq x.id q.id && (nat_eq x.period q.period && nat_eq x.phase q.phase)

abbrev pub is_linked : Schedule → Member → Bool
is_linked s (Once d) = list_any (is_that d) s.descriptors
is_linked s (Each q) = list_any (is_this q) s.queues

-- the words that lead to a queue head: of the one ahead in its class, or else others
abbrev pub words_ahead : Option QueueHead → List Predecessor → List Predecessor
words_ahead None others = others
words_ahead (Some q) others = After (Each q) ∷ []

-- the word of a frame's descriptor, or where there is none its element
abbrev pub word_in_frame : ℕ → Option Descriptor → Predecessor
word_in_frame f None = Element f
word_in_frame f (Some d) = After (Once d)

-- a descriptor, or where there is none a queue head
abbrev pub first_of_both : Option Descriptor → Option QueueHead → Option Member
first_of_both (Some d) q = Some (Once d)
first_of_both None q = option_map Each q

-- the list has room for one more of this kind
abbrev pub HasRoom : Members → Member → Type 0
HasRoom m (Once d) = length m.schedule.descriptors < m.descriptor_room
HasRoom m (Each q) = length m.schedule.queues < m.queue_room

-- the same as tests
abbrev pub is_member : Member → Bool
is_member (Once d) = nat_lt d.frame frame_list_length
is_member (Each q) = is_queue q

abbrev pub has_room : Members → Member → Bool
has_room m (Once d) = nat_lt (length m.schedule.descriptors) m.descriptor_room
has_room m (Each q) = nat_lt (length m.schedule.queues) m.queue_room

abbrev pub takes : Members → Member → Bool
takes m x = is_member x && (not (has_name m.schedule (id_of x)) && has_room m x)

abbrev pub with_schedule : Members → Schedule → Members
with_schedule m s = record m { schedule = s }
