-- The frame list while its members are linked and unlinked, one store at a time (EHCI 1.0, 3.1, 3.3.1 and 4.6). The name of a member is the
-- link word that leads to it: its byte address and its type.
--     Periodic                the block in which the list begins, its members, and what is under way
--     new_list list q d       no member, with room for so many queue heads and descriptors
--     link_to o               the link word that leads to a member, or the end: 1
--     address_of list word    the byte address of a word that has a link; `block_of` is the block in which its structure begins
--     words_of s w            the words that are stored for what is under way, in their order
--     value_of s w            the link word that is stored: a new member's, or that of the one behind the leaving one
--     next_store p            the next store, None where nothing is under way
--     inserting p m           m is in the schedule, and none of its stores is made
--     removing p m            none of the stores that unlink m is made; it stays in the schedule until the last
--     after_store p           what stands after the next store was made
--     progress_of p           whether that is the last store
use Rattle.std.specs.Prelude.{ℕ, ◌+◌, ◌*◌, ◌/◌, ◌%◌, Bool, true, false, nat_lt, List, [], length, slice_get, Option, Some, None, option_map, option_and_then, if◌then◌else◌}
use Rattle.drv_chains.specs.declared.members.Member.{Member}
use Rattle.drv_chains.specs.declared.members.Predecessor.{Predecessor}
use Rattle.drv_chains.specs.declared.members.Predecessor.TheVariants.{Element, After}
use Rattle.drv_chains.specs.Order.{frames}
use Rattle.drv_chains.specs.Chains.{Schedule, of_lists, id_of, predecessors, successor}
use Rattle.drv_members.specs.Members.{Members, with_member, without_member, with_schedule, frame_of}
use Rattle.drv_periodic.specs.declared.work.Work.{Work}
use Rattle.drv_periodic.specs.declared.work.Store.{Store}
use Rattle.drv_periodic.specs.declared.work.Progress.{Progress}
use Rattle.drv_periodic.specs.declared.work.Progress.TheVariants as progresses

pub record Periodic : Type 0 where
  pub list : ℕ
  pub members : Members
  pub work : Option Work

abbrev pub new_list : ℕ → ℕ → ℕ → Periodic
new_list list q d = record { list = list; members = record { schedule = of_lists [] []; queue_room = q; descriptor_room = d }; work = None }

abbrev pub link_to : Option Member → ℕ
link_to None = 1
link_to (Some m) = id_of m

abbrev pub address_of : ℕ → Predecessor → ℕ
address_of list (Element f) = 32 * list + 4 * f
address_of list (After m) = id_of m / 32 * 32

-- the numbers of blocks have 16 bits
abbrev pub block_of : ℕ → Predecessor → ℕ
block_of list (Element f) = list
block_of list (After m) = id_of m / 32 % 65536

abbrev pub words_of : Schedule → Work → List Predecessor
words_of s w = predecessors s w.member (frames 10)

abbrev pub value_of : Schedule → Work → ℕ
value_of s w = if w.removes then link_to (successor s w.member (frame_of w.member)) else id_of w.member

abbrev pub store_at : ℕ → Predecessor → ℕ → Store
store_at list word value = record { block = block_of list word; at = address_of list word; value = value }

abbrev pub store_of : ℕ → Schedule → Work → Option Store
store_of list s w = option_map (λ word. store_at list word (value_of s w)) (slice_get (words_of s w) w.made)

abbrev pub next_store : Periodic → Option Store
next_store p = option_and_then (λ w. store_of p.list p.members.schedule w) p.work

abbrev pub begun : Member → Bool → Work
begun m removes = record { member = m; removes = removes; made = 0 }

abbrev pub inserting : Periodic → Member → Periodic
inserting p m = record p { members = with_schedule p.members (with_member p.members.schedule m); work = Some (begun m false) }

abbrev pub removing : Periodic → Member → Periodic
removing p m = record p { work = Some (begun m true) }

abbrev pub is_more : Schedule → Work → Bool
is_more s w = nat_lt (w.made + 1) (length (words_of s w))

-- the members once the last store is made
abbrev pub members_after : Members → Work → Members
members_after m w = if w.removes then with_schedule m (without_member m.schedule w.member) else m

abbrev pub after_work : Periodic → Option Work → Periodic
after_work p None = p
after_work p (Some w) =
    if is_more p.members.schedule w
    then record p { work = Some (record w { made = w.made + 1 }) }
    else record { list = p.list; members = members_after p.members w; work = None }

abbrev pub after_store : Periodic → Periodic
after_store p = after_work p p.work

abbrev pub progress_by : Schedule → Option Work → Progress
progress_by s None = progresses.Complete
progress_by s (Some w) = if is_more s w then progresses.More else progresses.Complete

abbrev pub progress_of : Periodic → Progress
progress_of p = progress_by p.members.schedule p.work
