-- Structures of one queue head that differ at most in its link (EHCI 1.0, 3.5 and 3.6), as where the one behind it in the ring or a frame
-- is linked or unlinked.
--     IsRelinked part n q      the queue head q stands at n, with whatever link
--     IsSameQueue n part now   the queue head at n, its qTDs and their buffers are the same in both, but for the link of the queue head
use Rattle.std.specs.Prelude.{◌≡◌, ℕ, List, Some}
use Rattle.link_words.specs.declared.fields.LinkBits.{LinkBits}
use Rattle.qh_qtd.specs.declared.qtd.Qtd.{Qtd}
use Rattle.qh_qtd.specs.declared.queue_head.Qh.{Qh}
use Rattle.law_structures.specs.lent_structures.Structures.{QueueHead, Element, Buffer, Structures}
use Rattle.law_ring.specs.Effects.{bytes_in}

pub record IsRelinked (part : Structures) (n : ℕ) (q : Qh) : Type 0 where
  pub link : LinkBits
  pub here : part n ≡ Some (QueueHead (record q { link = link }))

-- those that are no structures of a queue may differ
pub record IsSameQueue (n : ℕ) (part now : Structures) : Type 0 where
  pub elements : (a : ℕ) (t : Qtd) → part a ≡ Some (Element t) → now a ≡ Some (Element t)
  pub elements_were : (a : ℕ) (t : Qtd) → now a ≡ Some (Element t) → part a ≡ Some (Element t)
  pub buffers : (a : ℕ) (pages : List ℕ) (j : ℕ) (bs : List ℕ) → part a ≡ Some (Buffer pages j bs) → now a ≡ Some (Buffer pages j bs)
  pub buffers_were : (a : ℕ) (pages : List ℕ) (j : ℕ) (bs : List ℕ) → now a ≡ Some (Buffer pages j bs) → part a ≡ Some (Buffer pages j bs)
  pub bytes : (a : ℕ) → bytes_in (now a) ≡ bytes_in (part a)
  pub head : (q : Qh) → part n ≡ Some (QueueHead q) → IsRelinked now n q
  pub head_was : (q : Qh) → now n ≡ Some (QueueHead q) → IsRelinked part n q
