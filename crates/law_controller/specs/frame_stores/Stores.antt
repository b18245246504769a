-- What a driver does to the structures of the frames while the controller walks them, wherever the walk is and whatever it has in hand (EHCI 1.0, 3.1,
-- 3.3.1, 3.4.1, 3.6.1 and 4.6).
--     HasLink s                   the structure s has a link
--     link_in s                   where it leads
--     linked l s                  s with this link
--     frame_linked n l hand       what is in hand once a link was stored in the structure at n: the copy as it was read, of what stands there now
--     KeepsMet met parts now      each structure that is met is as it was
--     LeavesMet met parts now     so are all structures of such a one
--     LeavesMembers member parts now
--                                 all structures of each queue head of the ring are as they were
--     IsMetFurther met wider      whom the walk may meet is met further on, as what it was, and maybe others are
--     AreMetAmong narrow parts    the links of these structures lead among them
--     IsFrameAmong narrow hand p  the walk and what it has in hand are among them
use Rattle.std.specs.Prelude.{◌≡◌, ℕ, Bool, true, ◌==◌, if◌then◌else◌, Option, Some}
use Rattle.link_words.specs.declared.kinds.Link.{Link}
use Rattle.link_words.specs.declared.kinds.Link.TheVariants as links
use Rattle.link_words.specs.declared.fields.LinkBits.{LinkBits}
use Rattle.link_words.specs.Links.{link_of}
use Rattle.periodic_walk.specs.Place.{FramePlace}
use Rattle.law_structures.specs.lent_structures.Structures.{Structure, QueueHead, Element, Buffer, Table, Isochronous, SplitIsochronous, StructureSets}
use Rattle.law_ring.specs.Stores.{copy_linked}
use Rattle.law_frames.specs.Met.{Kind, AQueue, AnItd, ASitd, LeadsTo}
use Rattle.law_frames.specs.FrameHand.{ItdCopy, SitdCopy, FrameHand, Nothing, OfQueue, OfSettled, OfItd, OfSitd}

-- ---- links

abbrev pub HasLink : Structure → Type 0
HasLink (QueueHead q) = Unit {0}
HasLink (Element t) = ⊥
HasLink (Buffer pages start bytes) = ⊥
HasLink (Table words) = ⊥
HasLink (Isochronous v) = Unit {0}
HasLink (SplitIsochronous v) = Unit {0}

-- of a structure without a link, the end
abbrev pub link_in : Structure → Link
link_in (QueueHead q) = link_of q.link
link_in (Element t) = links.End
link_in (Buffer pages start bytes) = links.End
link_in (Table words) = links.End
link_in (Isochronous v) = link_of v.link
link_in (SplitIsochronous v) = link_of v.link

abbrev pub linked : LinkBits → Structure → Structure
linked l (QueueHead q) = QueueHead (record q { link = l })
linked l (Element t) = Element t
linked l (Buffer pages start bytes) = Buffer pages start bytes
linked l (Table words) = Table words
linked l (Isochronous v) = Isochronous (record v { link = l })
linked l (SplitIsochronous v) = SplitIsochronous (record v { link = l })

-- ---- a link is stored

abbrev pub itd_linked : ℕ → LinkBits → ItdCopy → ItdCopy
itd_linked n l c = record c { itd = if c.held.at == n then record c.itd { link = l } else c.itd }

abbrev pub sitd_linked : ℕ → LinkBits → SitdCopy → SitdCopy
sitd_linked n l c = record c { sitd = if c.held.at == n then record c.sitd { link = l } else c.sitd }

abbrev pub frame_linked : ℕ → LinkBits → FrameHand → FrameHand
frame_linked n l Nothing = Nothing
frame_linked n l (OfQueue c made) = OfQueue (copy_linked n l c) made
frame_linked n l (OfSettled c s made) = OfSettled (copy_linked n l c) s made
frame_linked n l (OfItd c) = OfItd (itd_linked n l c)
frame_linked n l (OfSitd c) = OfSitd (sitd_linked n l c)

-- ---- what stays

-- a structure that is met has its own address for an owner
abbrev pub KeepsMet : (ℕ → Option Kind) → StructureSets → StructureSets → Type 0
KeepsMet met parts now = (n : ℕ) (kind : Kind) → met n ≡ Some kind → now n n ≡ parts n n

abbrev pub LeavesMet : (ℕ → Option Kind) → StructureSets → StructureSets → Type 0
LeavesMet met parts now = (n : ℕ) (kind : Kind) → met n ≡ Some kind → now n ≡ parts n

abbrev pub LeavesMembers : (ℕ → Bool) → StructureSets → StructureSets → Type 0
LeavesMembers member parts now = (n : ℕ) → member n ≡ true → now n ≡ parts n

-- ---- whom the walk may meet

abbrev pub IsMetFurther : (ℕ → Option Kind) → (ℕ → Option Kind) → Type 0
IsMetFurther met wider = (n : ℕ) (kind : Kind) → met n ≡ Some kind → wider n ≡ Some kind

abbrev pub AreMetAmong : (ℕ → Option Kind) → StructureSets → Type 0
AreMetAmong narrow parts = (n : ℕ) (kind : Kind) (s : Structure) → narrow n ≡ Some kind → parts n n ≡ Some s → LeadsTo narrow (link_in s)

abbrev pub IsFrameHandAmong : (ℕ → Option Kind) → FrameHand → Type 0
IsFrameHandAmong narrow Nothing = Unit {0}
IsFrameHandAmong narrow (OfQueue c made) = (narrow c.at ≡ Some AQueue) × LeadsTo narrow (link_of c.link)
IsFrameHandAmong narrow (OfSettled c s made) = (narrow c.at ≡ Some AQueue) × LeadsTo narrow (link_of c.link)
IsFrameHandAmong narrow (OfItd c) = (narrow c.held.at ≡ Some AnItd) × LeadsTo narrow (link_of c.held.itd.link)
IsFrameHandAmong narrow (OfSitd c) = (narrow c.held.at ≡ Some ASitd) × LeadsTo narrow (link_of c.held.sitd.link)

pub record IsFrameAmong (narrow : ℕ → Option Kind) (hand : FrameHand) (p : FramePlace) : Type 0 where
  pub cursor : LeadsTo narrow p.walk.cursor
  pub in_hand : IsFrameHandAmong narrow hand
