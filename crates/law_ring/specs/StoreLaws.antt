-- Laws of a driver beside the walk of a ring (EHCI 1.0, 4.8, 4.8.1, 4.8.2 and 4.10): each of its stores, lends and returns leaves a ring, wherever
-- the walk is and whatever it has in hand.
use Rattle.std.specs.Prelude.{◌≡◌, ℕ, ◌+◌, ◌*◌, ◌<◌, Bool, true, false, List, slice_set, Some, None}
use Rattle.word_mem.specs.Memory.{Mem, with_word}
use Rattle.link_words.specs.declared.fields.LinkBits.{LinkBits}
use Rattle.link_words.specs.Layout.{word_of}
use Rattle.link_words.specs.Fields.{link_rows}
use Rattle.qh_qtd.specs.declared.qtd.Qtd.{Qtd}
use Rattle.qh_qtd.specs.declared.queue_head.Qh.{Qh}
use Rattle.qh_qtd.specs.Qtd.{qtd_words, IsQtdInRange}
use Rattle.qh_qtd.specs.QueueHead.{qh_words, IsQhInRange}
use Rattle.async_walk.specs.Rows.{WalkPlace}
use Rattle.law_structures.specs.lent_structures.Structures.{Structure, QueueHead, Element, Buffer, Structures, StructureSets, with_structure, put, without_structure, without, Holds, Has, Tells}
use Rattle.law_structures.specs.lent_structures.Changes.{Leaves, IsNew}
use Rattle.law_structures.specs.lent_structures.Sound.{LeadsAmong, IsSoundElement, IsSoundQueue, IsMember}
use Rattle.law_ring.specs.Hand.{Hand}
use Rattle.claims_base.specs.Controller.{Base}
use Rattle.law_ring.specs.Ring.{IsRing}
use Rattle.law_ring.specs.Stores.{KeepsQueueHeads, IsUnnamed, NamesOne, IsUnled, IsUnused, hand_linked, hand_stale, IsWider, IsClosed}
use Rattle.law_ring.specs.Doorbell.{IsAtHead, HasHeads}

-- ---- a member's part

-- an inactive qTD changes, or is added
abbrev pub ElementMayChange : Type 0
ElementMayChange = (member : ℕ → Bool) (n : ℕ) (part : Structures) (a : ℕ) (d new : Qtd) → IsMember member n part → part a ≡ Some (Element d) → d.token.active ≡ false
    → IsSoundElement part new → IsUnnamed part a new → IsMember member n (with_structure part a (Element new))

abbrev pub ElementMayCome : Type 0
ElementMayCome = (member : ℕ → Bool) (n : ℕ) (part : Structures) (a : ℕ) (new : Qtd) → IsMember member n part → part a ≡ None
    → IsSoundElement part new → IsUnnamed part a new → IsMember member n (with_structure part a (Element new))

abbrev pub BufferMayCome : Type 0
BufferMayCome = (member : ℕ → Bool) (n : ℕ) (part : Structures) (a : ℕ) (pages : List ℕ) (k : ℕ) (bs : List ℕ) → IsMember member n part → part a ≡ None
    → NamesOne part a → IsMember member n (with_structure part a (Buffer pages k bs))

-- a qTD is taken away, to which nothing leads and on which the overlay doesn't work, or a buffer that no qTD needs any more
abbrev pub ElementMayGo : Type 0
ElementMayGo = (member : ℕ → Bool) (n : ℕ) (part : Structures) (a : ℕ) (d : Qtd) → (m : IsMember member n part) → part a ≡ Some (Element d)
    → IsUnled part m.queue a → IsMember member n (without_structure part a)

abbrev pub BufferMayGo : Type 0
BufferMayGo = (member : ℕ → Bool) (n : ℕ) (part : Structures) (a : ℕ) (pages : List ℕ) (k : ℕ) (bs : List ℕ) → IsMember member n part
    → part a ≡ Some (Buffer pages k bs) → IsUnused part a → IsMember member n (without_structure part a)

-- ---- stores

-- a word of an inactive qTD
abbrev pub ElementStoreLeavesRing : Type 0
ElementStoreLeavesRing = (base : Base) (member : ℕ → Bool) (parts : StructureSets) (hand : Hand) (p : WalkPlace) (n a : ℕ) (d new : Qtd) (k v : ℕ)
    → IsRing base member parts hand p → parts n a ≡ Some (Element d) → d.token.active ≡ false → k < 8 → qtd_words new ≡ slice_set (qtd_words d) k v
    → IsQtdInRange new → (member n ≡ true → IsSoundElement (parts n) new × IsUnnamed (parts n) a new)
    → IsRing base member (put parts n a (Element new)) hand (record p { memory = with_word p.memory (a + 4 * k) v })

-- the link of a queue head; those that it leads to may come new
abbrev pub LinkStoreLeavesRing : Type 0
LinkStoreLeavesRing = (base : Base) (member wider : ℕ → Bool) (parts : StructureSets) (hand : Hand) (p : WalkPlace) (n : ℕ) (q : Qh) (l : LinkBits)
    → IsRing base member parts hand p → IsWider member wider → parts n n ≡ Some (QueueHead q) → IsQhInRange (record q { link = l })
    → (wider n ≡ true → LeadsAmong wider l) → ((i : ℕ) → wider i ≡ true → member i ≡ false → IsMember wider i (parts i))
    → IsRing base wider (put parts n n (QueueHead (record q { link = l }))) (hand_linked n l hand) (record p { memory = with_word p.memory n (word_of link_rows l) })

-- a word of a queue head that is halted
abbrev pub MendingLeavesRing : Type 0
MendingLeavesRing = (base : Base) (member : ℕ → Bool) (parts : StructureSets) (hand : Hand) (p : WalkPlace) (n : ℕ) (q new : Qh) (k v : ℕ)
    → IsRing base member parts hand p → parts n n ≡ Some (QueueHead q) → q.token.halted ≡ true → k < 12 → qh_words new ≡ slice_set (qh_words q) k v
    → IsQhInRange new → (member n ≡ true → LeadsAmong member new.link × IsSoundQueue (parts n) new)
    → IsRing base member (put parts n n (QueueHead new)) (hand_stale n hand) (record p { memory = with_word p.memory (n + 4 * k) v })

-- ---- lends and returns

-- memory is told otherwise, and each queue head is as it was
abbrev pub OtherPartsLeaveRing : Type 0
OtherPartsLeaveRing = (base : Base) (member : ℕ → Bool) (parts now : StructureSets) (hand : Hand) (p : WalkPlace) (after : Mem) → IsRing base member parts hand p
    → Tells after now → ((n : ℕ) → member n ≡ true → IsMember member n (now n)) → KeepsQueueHeads parts now
    → IsRing base member now hand (record p { memory = after })

-- a structure is lent, and another in a block that is Lent
abbrev pub LendLeavesRing : Type 0
LendLeavesRing = (base : Base) (member : ℕ → Bool) (parts : StructureSets) (hand : Hand) (p : WalkPlace) (n a : ℕ) (s : Structure) (after : Mem)
    → IsRing base member parts hand p → Leaves p.memory after → IsNew p.memory after a s → parts n a ≡ None
    → (member n ≡ true → IsMember member n (with_structure (parts n) a s)) → IsRing base member (put parts n a s) hand (record p { memory = after })

abbrev pub AnotherLeavesRing : Type 0
AnotherLeavesRing = (base : Base) (member : ℕ → Bool) (parts : StructureSets) (hand : Hand) (p : WalkPlace) (n a : ℕ) (s : Structure) → IsRing base member parts hand p
    → Holds p.memory a s → ((b k c : ℕ) (u : Structure) → Has a s b → parts k c ≡ Some u → Has c u b → ⊥) → parts n a ≡ None
    → (member n ≡ true → IsMember member n (with_structure (parts n) a s)) → IsRing base member (put parts n a s) hand p

-- a structure that is no queue head isn't told any more
abbrev pub FewerLeaveRing : Type 0
FewerLeaveRing = (base : Base) (member : ℕ → Bool) (parts : StructureSets) (hand : Hand) (p : WalkPlace) (n a : ℕ) → IsRing base member parts hand p
    → ((q : Qh) → parts n a ≡ Some (QueueHead q) → ⊥) → (member n ≡ true → IsMember member n (without_structure (parts n) a))
    → IsRing base member (without parts n a) hand p

-- nor any structure of an owner that the walk doesn't meet
abbrev pub StrangersLeaveRing : Type 0
StrangersLeaveRing = (base : Base) (member : ℕ → Bool) (parts : StructureSets) (hand : Hand) (p : WalkPlace) (n a : ℕ) → IsRing base member parts hand p
    → member n ≡ false → IsRing base member (without parts n a) hand p

-- ---- the doorbell

-- where it was answered, those that left before are met no more
abbrev pub AnswerLeavesRing : Type 0
AnswerLeavesRing = (base : Base) (member narrow : ℕ → Bool) (parts : StructureSets) (hand : Hand) (new : WalkPlace) → IsRing base member parts hand new → IsAtHead new
    → IsWider narrow member → IsClosed narrow parts → narrow base.async_list_address ≡ true → HasHeads member narrow parts
    → IsRing base narrow parts hand new
