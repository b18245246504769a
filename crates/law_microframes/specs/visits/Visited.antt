-- What the walk of the frames has visited in a microframe (EHCI 1.0, 4.6, 4.7 and 4.12), as the run tells it: a microframe that begins leaves nothing, a structure that the
-- walk fetches is one more, and every other event or command leaves it.
--     visited_from fixed p vs n   .. after n events and commands
--     link_held hand          the link of the copy in hand
--     link_ahead hand cursor  the link by which the walk goes on, once the visit is over
--     IsNext ..               one to which the walk may go on: it stands in the frame, and lies below all that was visited
--     WasVisited ..           what was visited stands in the frame, or did when it was unlinked in this microframe
--     IsBehind ..             no structure was visited twice, and what was visited is behind the walk
--     IsActiveAs d n x        where the queue head of an endpoint stands at n, its placement is active in each frame in which x stands
--     IsFramedAs d n x        where a descriptor of the driver's stands at n, x stands in its frame alone
--     IsFirstIn s x           a descriptor comes right behind the element of its frame
--     NewIsFirst p            so does one that is being linked
--     GoesAhead start w kept  to which the walk may go on in this microframe: closed under links; and what is active of them was so in the world start, of the same endpoint and frame
--     StandsIn d f n          the member that begins at n is one to which a word may lead, it stands in frame f, and no store that unlinks
--                             it there was made
--     IsToCome m c n          the walk comes to the structure at n, by the links in memory
--     LinksNot w n            what is being linked in the frame list, if anything, isn't at n
--     GoesBack w new          what the walk comes to in the world `new` it came to in w, and what stands in the frame stood there, unless it
--                             is being linked
--     LeavesNoneOut start m d c left vs
--                             of those that were linked in the frame in the world `start` each may be met; and each that stands there still
--                             was visited, or is to come
--     VisitsGoOn start w vs   so it is in a world whose links lead down, and so are those that are kept and those that were visited; `start` is the world as its microframe began.
--                             Of those that are kept each of which something is active stands in its frame alone
--     IsGoneOn start w new vs     so it is in the world `new`, and from there it goes back to the world w
--     IsVisiting start w vs   .. where nothing of the world is out of place
--     VisitsGoOnAt s start w vs
--                             .. where each of those whose links lead down may be met, and stands or was unlinked in this microframe
use Rattle.std.specs.Prelude.{◌≡◌, ◌≢◌, ℕ, ◌*◌, ◌<◌, ◌⊎◌, Bool, true, false, List, slice_get, Option, Some, None}
use Rattle.std.specs.List.{AllByRecursion}
use Rattle.word_mem.specs.Memory.{Mem}
use Rattle.link_words.specs.declared.kinds.Link.{Link}
use Rattle.link_words.specs.Links.{link_of}
use Rattle.bandwidth.specs.Sums.{is_active}
use Rattle.drv_chains.specs.declared.members.Member.{Member}
use Rattle.drv_chains.specs.declared.members.Member.TheVariants.{Once, Each}
use Rattle.drv_chains.specs.declared.members.Predecessor.TheVariants.{Element}
use Rattle.drv_chains.specs.Chains.{Schedule, stands_in, predecessor}
use Rattle.drv_chains.specs.Stores.{is_made}
use Rattle.drv_members.specs.Members.{is_linked}
use Rattle.drv_periodic.specs.declared.work.Work.{Work}
use Rattle.drv_periodic.specs.Periodic.{Periodic as FrameList}
use Rattle.periodic_walk.specs.declared.state.Hand.{Hand}
use Rattle.periodic_walk.specs.declared.state.Hand.TheVariants as hands
use Rattle.hc_core.specs.declared.controller.MicroframePart.TheVariants.{Periodic}
use Rattle.hc_core.specs.Controller.{Control}
use Rattle.drv_periodic_table.specs.Periodic.{note_at}
use Rattle.drv_table.specs.declared.content.Transfer.{Transfer}
use Rattle.drv_table.specs.DriverContent.{DriverContent}
use Rattle.claims_driver.specs.Owners.{is_descriptor}
use Rattle.claims_driver.specs.FrameWords.{made_of}
use Rattle.claims_driver.specs.Unlinked.{led}
use Rattle.law_frames.specs.Met.{Kind}
use Rattle.law_descriptors.specs.Meeting.{met}
use Rattle.law_descriptors.specs.Recent.{AreRecent}
use Rattle.bus_wire.specs.Bus.{Fixed}
use Rattle.bus_world.specs.World.{World}
use Rattle.bus_world.specs.Orders.{OrderedWorld}
use Rattle.law_world.specs.memory.Mixed.{Standing, IsMixedWorld}
use Rattle.claims_world.specs.Memory.{AreOnce}
use Rattle.claims_world.specs.Carried.{carried_from}
use Rattle.law_microframes.specs.visits.Belonging.{IsQueueAt}
use Rattle.law_microframes.specs.visits.OneDescriptor.{IsActiveDescriptor, IsAloneAs}
use Rattle.law_microframes.specs.visits.Ranks.{name_of, next_of, IsRanked}
use Rattle.claims_world.specs.Visits.{IsLedTo, IsInChain, begins, visits_next, frame_in, HasVisited}

-- ---- what was visited

abbrev pub visited_from : Fixed → OrderedWorld → List ℕ → ℕ → List ℕ
visited_from fixed p vs n = carried_from visits_next fixed p vs n

-- ---- what comes next

abbrev pub link_held : Hand → Link
link_held (hands.Queue h) = link_of h.copy.queue_head.link
link_held (hands.Itd h) = link_of h.itd.link
link_held (hands.Sitd h) = link_of h.sitd.link

abbrev pub link_ahead : Option Hand → Link → Link
link_ahead None cursor = cursor
link_ahead (Some hand) cursor = link_held hand

pub record IsNext (kept : ℕ → Bool) (height : ℕ → ℕ) (who : ℕ → Member) (frame : ℕ) (vs : List ℕ) (k : ℕ) : Type 0 where
  pub is_kept : kept k ≡ true
  pub stands : stands_in frame (who k) ≡ true
  pub below : AllByRecursion (λ v. height k < height v) vs

pub record WasVisited (d : DriverContent) (left : ℕ → Option Kind) (who : ℕ → Member) (frame v : ℕ) : Type 0 where
  pub kind : Kind
  pub is_met : met d left v ≡ Some kind
  pub named : begins (who v) ≡ v
  pub stands : stands_in frame (who v) ≡ true

-- `left` was unlinked in this microframe
pub record IsBehind (d : DriverContent) (left : ℕ → Option Kind) (kept : ℕ → Bool) (height : ℕ → ℕ) (who : ℕ → Member) (c : Control) (vs : List ℕ) : Type 0 where
  pub once : AreOnce vs
  pub were : AllByRecursion (WasVisited d left who (frame_in c.frame.index)) vs
  pub next : (k : ℕ) → c.part ≡ Periodic → name_of (link_ahead c.frame.hand c.frame.cursor) ≡ Some k → IsNext kept height who (frame_in c.frame.index) vs k

-- ---- a world

abbrev pub IsActiveAs : DriverContent → ℕ → Member → Type 0
IsActiveAs d n x = (b : IsQueueAt d n) (f : ℕ) → stands_in f x ≡ true → is_active b.belongs.placement f ≡ true

abbrev pub IsFramedAs : DriverContent → ℕ → Member → Type 0
IsFramedAs d n x = (t : ℕ) (y : Transfer) → slice_get d.transfers t ≡ Some y → is_descriptor y.sort ≡ true → y.released ≡ false
    → n ≡ 32 * y.first
    → (f : ℕ) → stands_in f x ≡ true → f ≡ (note_at d.periodic.notes y.first).frame

-- a descriptor that is being linked comes right behind the element of its frame (4.6)
abbrev pub IsFirstIn : Schedule → Member → Type 0
IsFirstIn s (Once x) = predecessor s (Once x) x.frame ≡ Element x.frame
IsFirstIn s (Each q) = Unit {0}

abbrev pub NewIsFirst : FrameList → Type 0
NewIsFirst p = (x : Work) → p.work ≡ Some x → x.removes ≡ false → IsFirstIn p.members.schedule x.member

pub record GoesAhead (start w : World) (kept : ℕ → Bool) : Type 0 where
  pub ahead : ℕ → Bool
  pub are_kept : (n : ℕ) → ahead n ≡ true → kept n ≡ true
  pub closed : (n k : ℕ) → ahead n ≡ true → next_of w.memory n ≡ Some k → ahead k ≡ true
  pub next : (k : ℕ) → w.control.part ≡ Periodic → name_of (link_ahead w.control.frame.hand w.control.frame.cursor) ≡ Some k → ahead k ≡ true
  pub first : NewIsFirst w.driver.periodic.list
  pub old : (e f n : ℕ) → ahead n ≡ true → IsActiveDescriptor w.driver w.memory e f n → IsActiveDescriptor start.driver start.memory e f n

-- ---- none is left out

pub record StandsIn (d : DriverContent) (f n : ℕ) : Type 0 where
  pub member : Member
  pub at : begins member ≡ n
  pub linked : is_linked (led d) member ≡ true
  pub in_frame : stands_in f member ≡ true
  pub stays : (x : Work) → d.periodic.list.work ≡ Some x → x.removes ≡ true → x.member ≡ member
      → is_made d.periodic.list.members.schedule x.member (made_of d.periodic.list.members.schedule x) f ≡ false

pub record IsToCome (m : Mem) (c : Control) (n : ℕ) : Type 0 where
  pub periodic : c.part ≡ Periodic
  pub leads : IsLedTo m n (name_of (link_ahead c.frame.hand c.frame.cursor))

-- ---- from one world to the next

abbrev pub LinksNot : World → ℕ → Type 0
LinksNot w n = (x : Work) → w.driver.periodic.list.work ≡ Some x → x.removes ≡ false → n ≢ begins x.member

pub record GoesBack (w new : World) : Type 0 where
  pub came : (n : ℕ) → LinksNot w n → IsToCome new.memory new.control n → IsToCome w.memory w.control n
  pub stood : (n : ℕ) → LinksNot w n → StandsIn new.driver (frame_in w.control.frame.index) n
      → StandsIn w.driver (frame_in w.control.frame.index) n

-- `left` was unlinked in this microframe
pub record LeavesNoneOut (start : World) (m : Mem) (d : DriverContent) (c : Control) (left : ℕ → Option Kind) (vs : List ℕ) : Type 0 where
  pub were_met : (n : ℕ) → IsInChain start (frame_in c.frame.index) n → (kind : Kind) × (met d left n ≡ Some kind)
  pub each : (n : ℕ) → IsInChain start (frame_in c.frame.index) n → StandsIn d (frame_in c.frame.index) n → HasVisited n vs ⊎ IsToCome m c n

-- ---- a world, and the visits of its microframe

pub record VisitsGoOn (start w : World) (vs : List ℕ) : Type 0 where
  pub left : ℕ → Option Kind
  pub left_are : AreRecent w.driver w.registers.frame_index left
  pub kept : ℕ → Bool
  pub height : ℕ → ℕ
  pub who : ℕ → Member
  pub ranked : IsRanked w.memory w.driver kept height who
  pub behind : IsBehind w.driver left kept height who w.control vs
  pub active : (n : ℕ) → kept n ≡ true → IsActiveAs w.driver n (who n)
  pub were_active : AllByRecursion (λ v. IsActiveAs w.driver v (who v)) vs
  pub goes : GoesAhead start w kept
  pub alone : (n : ℕ) → kept n ≡ true → IsAloneAs w.driver w.memory n (who n)
  pub none : LeavesNoneOut start w.memory w.driver w.control left vs
  pub framed : (n : ℕ) → kept n ≡ true → IsFramedAs w.driver n (who n)
  pub were_framed : AllByRecursion (λ v. IsFramedAs w.driver v (who v)) vs

-- .. and back, to the world before
pub record IsGoneOn (start w new : World) (vs : List ℕ) : Type 0 where
  pub visits : VisitsGoOn start new vs
  pub back : GoesBack w new

pub record IsVisiting (start w : World) (vs : List ℕ) : Type 0 where
  pub mixed : IsMixedWorld w
  pub visits : VisitsGoOn start w vs

pub record VisitsGoOnAt (s : Standing) (start w : World) (vs : List ℕ) : Type 0 where
  pub visits : VisitsGoOn start w vs
  pub within : (n : ℕ) → visits.kept n ≡ true → (kind : Kind) × (met w.driver s.recent n ≡ Some kind)
  pub left_within : (n : ℕ) → visits.kept n ≡ true → (kind : Kind) × (met w.driver visits.left n ≡ Some kind)
