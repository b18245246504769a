-- What a driver owes to the structures of one queue head, so that the controller never meets what it can't read (EHCI 1.0, 3.5, 3.6 and 4.10):
-- links lead to qTDs that are there, a published qTD has its buffer, and an overlay that works has come from a published qTD. Nothing is said
-- of the order of qTDs, and nothing of how many there are.
--     LeadsOn part l            a link of qTDs ends, or leads to a qTD of the part
--     HasBuffer part t n        the buffer of the qTD t is there, and has n bytes
--     IsReady part t            the qTD t can be taken
--     IsSoundElement part t     its links lead on, and where it is active it can be taken
--     IsWorking part q          the overlay of the queue head q works on a published qTD, has its links, and stands at the bytes that are left
--     IsSoundQueue part q       where it is active it works, and where it rests and isn't halted the link that is followed leads on
--     AreOwn part               no two qTDs have one buffer
--     IsMember member n part    the queue head at n stands in its part, which is sound, and its link leads to a queue head that the walk may meet
use Rattle.std.specs.Prelude.{◌≡◌, ℕ, ◌+◌, ◌<◌, ◌≤◌, Bool, true, false, List, [], ◌∷◌, length, Some}
use Rattle.link_words.specs.declared.kinds.Link.TheVariants as links
use Rattle.link_words.specs.declared.kinds.QtdLink.{QtdLink}
use Rattle.link_words.specs.declared.kinds.QtdLink.TheVariants as qtd_links
use Rattle.link_words.specs.declared.fields.LinkBits.{LinkBits}
use Rattle.link_words.specs.Links.{link_of, qtd_link_of}
use Rattle.qh_qtd.specs.declared.qtd.Qtd.{Qtd}
use Rattle.qh_qtd.specs.declared.queue_head.Qh.{Qh}
use Rattle.mem_bytes.specs.Bytes.{place}
use Rattle.hc_copy.specs.Visits.{next_pointer}
use Rattle.hc_copy.specs.Overlay.{pages_of, buffer_place}
use Rattle.law_structures.specs.lent_structures.Structures.{QueueHead, Element, Buffer, Structures}

-- ---- a qTD

pub record IsElement (part : Structures) (a : ℕ) : Type 0 where
  pub qtd : Qtd
  pub here : part a ≡ Some (Element qtd)

abbrev pub LeadsOn : Structures → QtdLink → Type 0
LeadsOn part qtd_links.End = Unit {0}
LeadsOn part (qtd_links.To a) = IsElement part a

abbrev pub element_pages : Qtd → List ℕ
element_pages t = t.page0 ∷ t.page1 ∷ t.page2 ∷ t.page3 ∷ t.page4 ∷ []

-- the byte address of the first byte of its buffer
abbrev pub buffer_name : Qtd → ℕ
buffer_name t = place (element_pages t) t.offset

pub record HasBuffer (part : Structures) (t : Qtd) (n : ℕ) : Type 0 where
  pub bytes : List ℕ
  pub here : part (buffer_name t) ≡ Some (Buffer (element_pages t) t.offset bytes)
  pub size : length bytes ≡ n

-- it begins in its first page, and where it asks for bytes they have a place
pub record IsReady (part : Structures) (t : Qtd) : Type 0 where
  pub goes_on : t.token.halted ≡ false
  pub start : t.token.c_page ≡ 0
  pub buffer : 0 < t.token.total → HasBuffer part t t.token.total

pub record IsSoundElement (part : Structures) (t : Qtd) : Type 0 where
  pub next : LeadsOn part (qtd_link_of t.next)
  pub alternate : LeadsOn part (qtd_link_of t.alternate)
  pub work : t.token.active ≡ true → IsReady part t

-- ---- the queue head

pub record IsWorking (part : Structures) (q : Qh) : Type 0 where
  pub element : Qtd
  pub here : part q.current ≡ Some (Element element)
  pub published : element.token.active ≡ true
  pub goes_on : q.token.halted ≡ false
  pub pid : q.token.pid ≡ element.token.pid
  pub pages : pages_of q ≡ element_pages element
  pub next : q.next ≡ element.next
  pub alternate : q.alternate ≡ element.alternate
  pub fewer : q.token.total ≤ element.token.total
  pub place : buffer_place q + q.token.total ≡ element.offset + element.token.total

pub record IsSoundQueue (part : Structures) (q : Qh) : Type 0 where
  pub rest : q.token.halted ≡ false → q.token.active ≡ false → LeadsOn part (qtd_link_of (next_pointer q))
  pub work : q.token.active ≡ true → IsWorking part q

-- ---- all of a queue head's structures

abbrev pub AreOwn : Structures → Type 0
AreOwn part = (a b : ℕ) (t u : Qtd) (pages : List ℕ) (k : ℕ) (bs : List ℕ) → part a ≡ Some (Element t) → part b ≡ Some (Element u)
    → buffer_name t ≡ buffer_name u → part (buffer_name t) ≡ Some (Buffer pages k bs) → a ≡ b

-- a link of the ring leads to a queue head that the walk may meet
pub record LeadsAmong (member : ℕ → Bool) (link : LinkBits) : Type 0 where
  pub to : ℕ
  pub leads : link_of link ≡ links.Qh to
  pub on : member to ≡ true

pub record IsMember (member : ℕ → Bool) (n : ℕ) (part : Structures) : Type 0 where
  pub queue : Qh
  pub here : part n ≡ Some (QueueHead queue)
  pub link : LeadsAmong member queue.link
  pub sound : IsSoundQueue part queue
  pub elements : (a : ℕ) (t : Qtd) → part a ≡ Some (Element t) → IsSoundElement part t
  pub own : AreOwn part
