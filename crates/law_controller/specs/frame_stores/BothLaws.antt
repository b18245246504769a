-- Laws of a driver beside a ring and the frames under the controller (EHCI 1.0, 4.6 to 4.10), at any moment of a microframe: what it does to the frames
-- leaves the ring, and what it does to the ring leaves the frames.
use Rattle.std.specs.Prelude.{◌≡◌, ◌≢◌, ℕ, ◌+◌, ◌*◌, ◌<◌, Bool, false, List, slice_set, Option, Some, None}
use Rattle.word_mem.specs.Memory.{Mem, with_word}
use Rattle.link_words.specs.declared.fields.LinkBits.{LinkBits}
use Rattle.link_words.specs.Layout.{word_of, IsWordInRange}
use Rattle.link_words.specs.Fields.{link_rows}
use Rattle.link_words.specs.Links.{link_of, link_read, link_fields, IsLinkWord}
use Rattle.async_walk.specs.Rows.{WalkPlace}
use Rattle.hc_core.specs.declared.controller.MicroframePart.TheVariants.{Over, Periodic}
use Rattle.hc_core.specs.Controller.{Content, frame_place, walk_place, began}
use Rattle.law_structures.specs.lent_structures.Structures.{Structure, Table, StructureSets, put, without, Holds, Has, Tells}
use Rattle.law_structures.specs.lent_structures.Changes.{Leaves, IsNew}
use Rattle.law_ring.specs.Hand.{Hand, Empty}
use Rattle.claims_base.specs.Controller.{Base, base_of}
use Rattle.law_ring.specs.Ring.{IsRing}
use Rattle.law_controller.specs.controlled_streams.Control.{FrameList}
use Rattle.law_frames.specs.Met.{Kind, LeadsTo, IsMetAs}
use Rattle.law_frames.specs.FrameHand.{FrameHand, Nothing}
use Rattle.law_controller.specs.frame_control.Both.{LeadToMet, AreMet, AreApart, RunsBoth}
use Rattle.law_controller.specs.frame_stores.Stores.{HasLink, linked, frame_linked, KeepsMet, LeavesMet, LeavesMembers, IsMetFurther, AreMetAmong, IsFrameAmong}

-- ---- stores

-- the link of a structure that isn't of the ring; of one that is met, it leads to another, or ends the chain
abbrev pub LinkStoreLeavesBoth : Type 0
LinkStoreLeavesBoth = (base : Base) (member : ℕ → Bool) (met : ℕ → Option Kind) (parts : StructureSets) (hand : Hand) (frame : FrameHand) (c : Content) (n : ℕ) (s : Structure)
    (l : LinkBits) → RunsBoth base member met parts hand frame c → parts n n ≡ Some s → HasLink s → IsWordInRange link_rows l → member n ≡ false
    → ((kind : Kind) → met n ≡ Some kind → LeadsTo met (link_of l))
    → RunsBoth base member met (put parts n n (linked l s)) hand (frame_linked n l frame) (record c { memory = with_word c.memory n (word_of link_rows l) })

-- the same by the word that is stored
abbrev pub LinkWordLeavesBoth : Type 0
LinkWordLeavesBoth = (base : Base) (member : ℕ → Bool) (met : ℕ → Option Kind) (parts : StructureSets) (hand : Hand) (frame : FrameHand) (c : Content) (n : ℕ) (s : Structure)
    (v : ℕ) → RunsBoth base member met parts hand frame c → parts n n ≡ Some s → HasLink s → IsLinkWord v → member n ≡ false
    → ((kind : Kind) → met n ≡ Some kind → LeadsTo met (link_read v))
    → RunsBoth base member met (put parts n n (linked (link_fields (link_read v)) s)) hand (frame_linked n (link_fields (link_read v)) frame)
    (record c { memory = with_word c.memory n v })

-- an element of the frame list, which leads to one that is met or ends its frame's chain
abbrev pub ListStoreLeavesBoth : Type 0
ListStoreLeavesBoth = (base : Base) (member : ℕ → Bool) (met : ℕ → Option Kind) (parts : StructureSets) (hand : Hand) (frame : FrameHand) (c : Content) (k v : ℕ)
    → RunsBoth base member met parts hand frame c → (list : FrameList parts base) → k < 1024 → LeadsTo met (link_read v)
    → RunsBoth base member met (put parts base.periodic_list_base base.periodic_list_base (Table (slice_set list.words k v))) hand frame
    (record c { memory = with_word c.memory (base.periodic_list_base + 4 * k) v })

-- whatever leaves a ring, where no part of one that is met changes; no store or lend puts a copy in hand
abbrev pub RingStoreLeavesBoth : Type 0
RingStoreLeavesBoth = (base : Base) (member wider : ℕ → Bool) (met : ℕ → Option Kind) (parts now : StructureSets) (hand later : Hand) (frame : FrameHand) (c : Content) (after : Mem)
    → RunsBoth base member met parts hand frame c → IsRing base wider now later (record (walk_place c) { memory = after }) → (hand ≡ Empty → later ≡ Empty)
    → AreApart wider met → LeavesMet met parts now → now base.periodic_list_base ≡ parts base.periodic_list_base
    → RunsBoth base wider met now later frame (record c { memory = after })

-- ---- what else is told

-- a ring, where all that belongs to its queue heads is as it was
abbrev pub OtherOwnersLeaveRing : Type 0
OtherOwnersLeaveRing = (base : Base) (member : ℕ → Bool) (parts now : StructureSets) (hand : Hand) (p : WalkPlace) (after : Mem) → IsRing base member parts hand p
    → Tells after now → LeavesMembers member parts now → IsRing base member now hand (record p { memory = after })

-- each Lent block stays Lent, with its words
abbrev pub RestLeavesBoth : Type 0
RestLeavesBoth = (base : Base) (member : ℕ → Bool) (met : ℕ → Option Kind) (parts : StructureSets) (hand : Hand) (frame : FrameHand) (c : Content) (after : Mem)
    → RunsBoth base member met parts hand frame c → Leaves c.memory after → RunsBoth base member met parts hand frame (record c { memory = after })

-- ---- lends and returns

-- memory is told otherwise, and the ring, the frame list and each structure that is met are as they were; what belongs to one that is met is sound
abbrev pub OtherPartsLeaveBoth : Type 0
OtherPartsLeaveBoth = (base : Base) (member : ℕ → Bool) (met : ℕ → Option Kind) (parts now : StructureSets) (hand : Hand) (frame : FrameHand) (c : Content) (after : Mem)
    → RunsBoth base member met parts hand frame c → Tells after now → LeavesMembers member parts now → AreMet met now → KeepsMet met parts now
    → now base.periodic_list_base base.periodic_list_base ≡ parts base.periodic_list_base base.periodic_list_base
    → RunsBoth base member met now hand frame (record c { memory = after })

-- .. and so is all that belongs to it
abbrev pub UnmetPartsLeaveBoth : Type 0
UnmetPartsLeaveBoth = (base : Base) (member : ℕ → Bool) (met : ℕ → Option Kind) (parts now : StructureSets) (hand : Hand) (frame : FrameHand) (c : Content) (after : Mem)
    → RunsBoth base member met parts hand frame c → Tells after now → LeavesMembers member parts now → LeavesMet met parts now
    → now base.periodic_list_base base.periodic_list_base ≡ parts base.periodic_list_base base.periodic_list_base
    → RunsBoth base member met now hand frame (record c { memory = after })

-- a structure of an owner that is neither of the ring nor met is lent, and another in a block that is Lent
abbrev pub LendLeavesBoth : Type 0
LendLeavesBoth = (base : Base) (member : ℕ → Bool) (met : ℕ → Option Kind) (parts : StructureSets) (hand : Hand) (frame : FrameHand) (c : Content) (n a : ℕ) (s : Structure) (after : Mem)
    → RunsBoth base member met parts hand frame c → Leaves c.memory after → IsNew c.memory after a s → parts n a ≡ None → member n ≡ false → met n ≡ None
    → RunsBoth base member met (put parts n a s) hand frame (record c { memory = after })

abbrev pub AnotherLeavesBoth : Type 0
AnotherLeavesBoth = (base : Base) (member : ℕ → Bool) (met : ℕ → Option Kind) (parts : StructureSets) (hand : Hand) (frame : FrameHand) (c : Content) (n a : ℕ) (s : Structure)
    → RunsBoth base member met parts hand frame c → Holds c.memory a s → ((b k i : ℕ) (u : Structure) → Has a s b → parts k i ≡ Some u → Has i u b → ⊥)
    → parts n a ≡ None → member n ≡ false → met n ≡ None → RunsBoth base member met (put parts n a s) hand frame c

-- a structure of such an owner that is no table isn't told any more
abbrev pub StrangersLeaveBoth : Type 0
StrangersLeaveBoth = (base : Base) (member : ℕ → Bool) (met : ℕ → Option Kind) (parts : StructureSets) (hand : Hand) (frame : FrameHand) (c : Content) (n a : ℕ)
    → RunsBoth base member met parts hand frame c → member n ≡ false → met n ≡ None → ((words : List ℕ) → parts n a ≡ Some (Table words) → ⊥)
    → RunsBoth base member met (without parts n a) hand frame c

-- ---- whom the walk of the frames may meet

-- more are met; they aren't of the ring, and each is sound
abbrev pub MoreAreMetBesideRing : Type 0
MoreAreMetBesideRing = (base : Base) (member : ℕ → Bool) (met wider : ℕ → Option Kind) (parts : StructureSets) (hand : Hand) (frame : FrameHand) (c : Content)
    → RunsBoth base member met parts hand frame c → IsMetFurther met wider
    → ((n : ℕ) (kind : Kind) → wider n ≡ Some kind → met n ≡ None → (member n ≡ false) × IsMetAs wider n (parts n) kind)
    → RunsBoth base member wider parts hand frame c

-- fewer are met, where the elements of the frame list lead among them; in the periodic part, once the walk is among them too
abbrev pub FewerAreMetBoth : Type 0
FewerAreMetBoth = (base : Base) (member : ℕ → Bool) (met narrow : ℕ → Option Kind) (parts : StructureSets) (hand : Hand) (frame : FrameHand) (c : Content)
    → RunsBoth base member met parts hand frame c → IsMetFurther narrow met → AreMetAmong narrow parts → (list : FrameList parts base) → LeadToMet narrow list.words
    → (c.control.part ≡ Periodic → IsFrameAmong narrow frame (frame_place c)) → RunsBoth base member narrow parts hand frame c

-- so outside of the periodic part
abbrev pub FewerAreMetOutside : Type 0
FewerAreMetOutside = (base : Base) (member : ℕ → Bool) (met narrow : ℕ → Option Kind) (parts : StructureSets) (hand : Hand) (frame : FrameHand) (c : Content)
    → RunsBoth base member met parts hand frame c → c.control.part ≢ Periodic → IsMetFurther narrow met → AreMetAmong narrow parts
    → (list : FrameList parts base) → LeadToMet narrow list.words → RunsBoth base member narrow parts hand frame c

-- and where a microframe has just begun: the walk stands at the link of an element (4.6)
abbrev pub BeginIsAtElement : Type 0
BeginIsAtElement = (base : Base) (narrow : ℕ → Option Kind) (parts : StructureSets) (c : Content) (allowed : Bool) → Tells c.memory parts → base_of c.registers ≡ base
    → (list : FrameList parts base) → LeadToMet narrow list.words → IsFrameAmong narrow Nothing (frame_place (began allowed c))

-- so from the begin of a microframe on those alone are met to which an element or a link of theirs leads
abbrev pub BeginMeetsFewer : Type 0
BeginMeetsFewer = (base : Base) (member : ℕ → Bool) (met narrow : ℕ → Option Kind) (parts : StructureSets) (hand : Hand) (frame : FrameHand) (c : Content) (allowed : Bool)
    → RunsBoth base member met parts hand frame c → c.control.part ≡ Over → IsMetFurther narrow met → AreMetAmong narrow parts → (list : FrameList parts base) → LeadToMet narrow list.words
    → RunsBoth base member narrow parts hand Nothing (began allowed c)
