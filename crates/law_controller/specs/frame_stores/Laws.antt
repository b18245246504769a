-- Laws of a driver beside the walk of the frames (EHCI 1.0, 3.1, 3.3.1, 3.4.1, 3.6.1 and 4.6): each of its stores, lends and returns leaves the frames,
-- wherever the walk is and whatever it has in hand; and so whom the walk may meet grows and narrows.
use Rattle.std.specs.Prelude.{◌≡◌, ◌≢◌, ℕ, ◌+◌, ◌*◌, ◌<◌, List, length, slice_set, Option, Some, None}
use Rattle.word_mem.specs.Memory.{Mem, with_word}
use Rattle.link_words.specs.declared.fields.LinkBits.{LinkBits}
use Rattle.link_words.specs.Layout.{word_of, IsWordInRange}
use Rattle.link_words.specs.Fields.{link_rows}
use Rattle.link_words.specs.declared.kinds.Link.{Link}
use Rattle.link_words.specs.Links.{link_of, link_read, link_fields, IsLinkWord}
use Rattle.periodic_walk.specs.Place.{FramePlace}
use Rattle.law_structures.specs.lent_structures.Structures.{Structure, Table, StructureSets, with_structure, put, without_structure, without, Holds, Has, Tells}
use Rattle.law_structures.specs.lent_structures.Changes.{Leaves, IsNew}
use Rattle.law_frames.specs.Met.{Kind, LeadsTo, IsMetAs}
use Rattle.law_frames.specs.FrameHand.{FrameHand}
use Rattle.law_frames.specs.Frame.{IsFrame}
use Rattle.law_controller.specs.frame_control.Both.{AreMet}
use Rattle.law_controller.specs.frame_stores.Stores.{HasLink, link_in, linked, frame_linked, KeepsMet, LeavesMet, IsMetFurther, AreMetAmong, IsFrameAmong}

-- ---- stores

-- the link of a queue head, an iTD or a siTD; of one that is met, it leads to another, or ends the chain
abbrev pub LinkStoreLeavesFrame : Type 0
LinkStoreLeavesFrame = (met : ℕ → Option Kind) (parts : StructureSets) (hand : FrameHand) (p : FramePlace) (n : ℕ) (s : Structure) (l : LinkBits)
    → IsFrame met parts hand p → parts n n ≡ Some s → HasLink s → IsWordInRange link_rows l → ((kind : Kind) → met n ≡ Some kind → LeadsTo met (link_of l))
    → IsFrame met (put parts n n (linked l s)) (frame_linked n l hand) (record p { memory = with_word p.memory n (word_of link_rows l) })

-- the same by the word that is stored
abbrev pub LinkWordLeavesFrame : Type 0
LinkWordLeavesFrame = (met : ℕ → Option Kind) (parts : StructureSets) (hand : FrameHand) (p : FramePlace) (n : ℕ) (s : Structure) (v : ℕ)
    → IsFrame met parts hand p → parts n n ≡ Some s → HasLink s → IsLinkWord v → ((kind : Kind) → met n ≡ Some kind → LeadsTo met (link_read v))
    → IsFrame met (put parts n n (linked (link_fields (link_read v)) s)) (frame_linked n (link_fields (link_read v)) hand) (record p { memory = with_word p.memory n v })

-- then it leads there
abbrev pub StoredLinkLeads : Type 0
StoredLinkLeads = (link : Link) (s : Structure) → HasLink s → link_in (linked (link_fields link) s) ≡ link

-- a word of a table
abbrev pub TableStoreLeavesFrame : Type 0
TableStoreLeavesFrame = (met : ℕ → Option Kind) (parts : StructureSets) (hand : FrameHand) (p : FramePlace) (n : ℕ) (words : List ℕ) (k v : ℕ)
    → IsFrame met parts hand p → parts n n ≡ Some (Table words) → k < length words
    → IsFrame met (put parts n n (Table (slice_set words k v))) hand (record p { memory = with_word p.memory (n + 4 * k) v })

-- ---- lends and returns

-- memory is told otherwise, and each structure that is met is as it was; what belongs to it is sound
abbrev pub OtherPartsLeaveFrame : Type 0
OtherPartsLeaveFrame = (met : ℕ → Option Kind) (parts now : StructureSets) (hand : FrameHand) (p : FramePlace) (after : Mem) → IsFrame met parts hand p
    → Tells after now → AreMet met now → KeepsMet met parts now → IsFrame met now hand (record p { memory = after })

-- .. and so is all that belongs to it
abbrev pub UnmetPartsLeaveFrame : Type 0
UnmetPartsLeaveFrame = (met : ℕ → Option Kind) (parts now : StructureSets) (hand : FrameHand) (p : FramePlace) (after : Mem) → IsFrame met parts hand p
    → Tells after now → LeavesMet met parts now → IsFrame met now hand (record p { memory = after })

-- a structure is lent, and another in a block that is Lent
abbrev pub LendLeavesFrame : Type 0
LendLeavesFrame = (met : ℕ → Option Kind) (parts : StructureSets) (hand : FrameHand) (p : FramePlace) (n a : ℕ) (s : Structure) (after : Mem)
    → IsFrame met parts hand p → Leaves p.memory after → IsNew p.memory after a s → parts n a ≡ None
    → ((kind : Kind) → met n ≡ Some kind → IsMetAs met n (with_structure (parts n) a s) kind) → IsFrame met (put parts n a s) hand (record p { memory = after })

abbrev pub AnotherLeavesFrame : Type 0
AnotherLeavesFrame = (met : ℕ → Option Kind) (parts : StructureSets) (hand : FrameHand) (p : FramePlace) (n a : ℕ) (s : Structure) → IsFrame met parts hand p
    → Holds p.memory a s → ((b k c : ℕ) (u : Structure) → Has a s b → parts k c ≡ Some u → Has c u b → ⊥) → parts n a ≡ None
    → ((kind : Kind) → met n ≡ Some kind → IsMetAs met n (with_structure (parts n) a s) kind) → IsFrame met (put parts n a s) hand p

-- a structure that isn't met isn't told any more
abbrev pub FewerLeaveFrame : Type 0
FewerLeaveFrame = (met : ℕ → Option Kind) (parts : StructureSets) (hand : FrameHand) (p : FramePlace) (n a : ℕ) → IsFrame met parts hand p
    → ((kind : Kind) → met n ≡ Some kind → (n ≢ a) × IsMetAs met n (without_structure (parts n) a) kind) → IsFrame met (without parts n a) hand p

-- nor any structure of an owner that isn't met
abbrev pub StrangersLeaveFrame : Type 0
StrangersLeaveFrame = (met : ℕ → Option Kind) (parts : StructureSets) (hand : FrameHand) (p : FramePlace) (n a : ℕ) → IsFrame met parts hand p
    → met n ≡ None → IsFrame met (without parts n a) hand p

-- ---- whom the walk may meet

-- more are met, and each of these is sound
abbrev pub MoreAreMet : Type 0
MoreAreMet = (met wider : ℕ → Option Kind) (parts : StructureSets) (hand : FrameHand) (p : FramePlace) → IsFrame met parts hand p → IsMetFurther met wider
    → ((n : ℕ) (kind : Kind) → wider n ≡ Some kind → met n ≡ None → IsMetAs wider n (parts n) kind) → IsFrame wider parts hand p

-- fewer are met, once the walk is among them
abbrev pub FewerAreMet : Type 0
FewerAreMet = (met narrow : ℕ → Option Kind) (parts : StructureSets) (hand : FrameHand) (p : FramePlace) → IsFrame met parts hand p → IsMetFurther narrow met
    → AreMetAmong narrow parts → IsFrameAmong narrow hand p → IsFrame narrow parts hand p
