-- What a driver does to a ring of queue heads while the controller walks it, wherever the walk is and whatever it has in hand (EHCI 1.0, 4.8, 4.8.1,
-- 4.8.2 and 4.10).
--     KeepsQueueHeads parts now   each queue head is as it was
--     IsUnnamed part a t          no qTD of the part but the one at a has the buffer of t
--     NamesOne part a             at most one qTD has the buffer at a
--     IsUnled part q a            the overlay of the queue head q doesn't work on the qTD at a and won't go on at it, and no link of another qTD leads to it
--     IsUnused part a             no qTD that waits or is worked on has the buffer at a
--     copy_linked, hand_linked    what is in hand once a link was stored in the queue head at n
--     hand_stale                  and once a word was stored in the queue head at n, which is halted: a copy of it is stale
--     IsWider member wider        whom the walk may meet is met further on, and maybe others
--     IsClosed narrow parts       the links of these queue heads lead among them
--     IsAmong narrow hand p       the walk and what it has in hand are among them
use Rattle.std.specs.Prelude.{◌≡◌, ◌≢◌, ℕ, ◌<◌, Bool, true, false, ◌==◌, List, Some, if◌then◌else◌}
use Rattle.link_words.specs.declared.kinds.QtdLink.TheVariants as qtd_links
use Rattle.link_words.specs.declared.fields.LinkBits.{LinkBits}
use Rattle.link_words.specs.Links.{qtd_link_of}
use Rattle.qh_qtd.specs.declared.qtd.Qtd.{Qtd}
use Rattle.qh_qtd.specs.declared.queue_head.Qh.{Qh}
use Rattle.hc_copy.specs.Visits.{next_pointer}
use Rattle.async_walk.specs.Rows.{WalkPlace}
use Rattle.law_structures.specs.lent_structures.Structures.{QueueHead, Element, Buffer, Structures, StructureSets}
use Rattle.law_structures.specs.lent_structures.Sound.{buffer_name, LeadsAmong}
use Rattle.law_ring.specs.Hand.{Copy, copied_queue, Hand, Empty, Copied, Settled, Stale}
use Rattle.law_ring.specs.Ring.{IsCursorAmong}

abbrev pub KeepsQueueHeads : StructureSets → StructureSets → Type 0
KeepsQueueHeads parts now = (n : ℕ) (q : Qh) → parts n n ≡ Some (QueueHead q) → now n n ≡ Some (QueueHead q)

-- ---- qTDs and buffers

pub record IsBuffer (part : Structures) (a : ℕ) : Type 0 where
  pub pages : List ℕ
  pub start : ℕ
  pub bytes : List ℕ
  pub here : part a ≡ Some (Buffer pages start bytes)

abbrev pub IsUnnamed : Structures → ℕ → Qtd → Type 0
IsUnnamed part a t = (b : ℕ) (u : Qtd) → b ≢ a → part b ≡ Some (Element u) → buffer_name u ≡ buffer_name t → IsBuffer part (buffer_name t) → ⊥

abbrev pub NamesOne : Structures → ℕ → Type 0
NamesOne part a = (b c : ℕ) (t u : Qtd) → part b ≡ Some (Element t) → part c ≡ Some (Element u) → buffer_name t ≡ a → buffer_name u ≡ a → b ≡ c

pub record IsUnled (part : Structures) (q : Qh) (a : ℕ) : Type 0 where
  pub rest : q.token.halted ≡ false → q.token.active ≡ false → qtd_link_of (next_pointer q) ≢ qtd_links.To a
  pub work : q.token.active ≡ true → q.current ≢ a
  pub elements : (b : ℕ) (t : Qtd) → b ≢ a → part b ≡ Some (Element t) → (qtd_link_of t.next ≢ qtd_links.To a) × (qtd_link_of t.alternate ≢ qtd_links.To a)

abbrev pub IsUnused : Structures → ℕ → Type 0
IsUnused part a = (b : ℕ) (t : Qtd) → part b ≡ Some (Element t) → t.token.active ≡ true → 0 < t.token.total → buffer_name t ≢ a

-- ---- a link is stored

abbrev pub copy_linked : ℕ → LinkBits → Copy → Copy
copy_linked n l c = record c { queue = if c.at == n then record c.queue { link = l } else c.queue }

abbrev pub hand_linked : ℕ → LinkBits → Hand → Hand
hand_linked n l Empty = Empty
hand_linked n l (Copied c) = Copied (copy_linked n l c)
hand_linked n l (Settled c s) = Settled (copy_linked n l c) s
hand_linked n l (Stale m q) = Stale m q

-- ---- a halted queue head is mended

abbrev pub hand_stale : ℕ → Hand → Hand
hand_stale n Empty = Empty
hand_stale n (Copied c) = if c.at == n then Stale n (copied_queue c) else Copied c
hand_stale n (Settled c s) = Settled c s
hand_stale n (Stale m q) = Stale m q

-- ---- whom the walk may meet

abbrev pub IsWider : (ℕ → Bool) → (ℕ → Bool) → Type 0
IsWider member wider = (n : ℕ) → member n ≡ true → wider n ≡ true

abbrev pub IsClosed : (ℕ → Bool) → StructureSets → Type 0
IsClosed narrow parts = (n : ℕ) (q : Qh) → narrow n ≡ true → parts n n ≡ Some (QueueHead q) → LeadsAmong narrow q.link

abbrev pub IsHandAmong : (ℕ → Bool) → Hand → Type 0
IsHandAmong narrow Empty = Unit {0}
IsHandAmong narrow (Copied c) = (narrow c.at ≡ true) × LeadsAmong narrow c.link
IsHandAmong narrow (Settled c s) = (narrow c.at ≡ true) × LeadsAmong narrow c.link
IsHandAmong narrow (Stale n q) = (narrow n ≡ true) × LeadsAmong narrow q.link

pub record IsAmong (narrow : ℕ → Bool) (hand : Hand) (p : WalkPlace) : Type 0 where
  pub cursor : IsCursorAmong narrow p
  pub in_hand : IsHandAmong narrow hand
