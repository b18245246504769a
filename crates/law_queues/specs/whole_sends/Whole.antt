-- What is sent to an OUT endpoint, by the qTDs of its queue head (EHCI 1.0, 4.10.2 to 4.10.6): the controller ends a qTD once none of its bytes is left,
-- or halts the queue head with it; then it takes the one that comes next. So those that are done stand first, each of them sent whole, and what was
-- sent begins the bytes of all.
--     EndsWhole hand n          a transaction of the queue head at n that isn't written back, where it ends its qTD, halts or leaves no bytes
--     IsFirst order part b      no active qTD stands before the one at b
--     GoesInTurn order part q   the overlay works on the first active qTD, or goes on no later than there
--     AreSentWhole ..           the qTDs of the queue head at n are sent whole, and in turn; `out` are those that are published
--     buffer_at part e          the bytes of the buffer of the qTD at e
--     buffers_of part out       those of these qTDs, one after the other
use Rattle.std.specs.Prelude.{◌≡◌, ℕ, ◌<◌, ◌≤◌, true, false, List, [], ◌∷◌, ◌++◌, Option, Some}
use Rattle.link_words.specs.declared.kinds.QtdLink.TheVariants as qtd_links
use Rattle.link_words.specs.Links.{qtd_link_of}
use Rattle.qh_qtd.specs.declared.qtd.Qtd.{Qtd}
use Rattle.qh_qtd.specs.declared.queue_head.Qh.{Qh}
use Rattle.hc_copy.specs.Visits.{next_pointer}
use Rattle.law_structures.specs.lent_structures.Structures.{Structure, QueueHead, Element, Structures}
use Rattle.law_ring.specs.Hand.{Hand, Empty, Copied, Settled, Stale}
use Rattle.law_ring.specs.Effects.{buffer_of}
use Rattle.law_ring.specs.Order.{IsAmong}

abbrev pub EndsWhole : Hand → ℕ → Type 0
EndsWhole Empty n = Unit {0}
EndsWhole (Copied c) n = Unit {0}
EndsWhole (Settled c z) n = c.at ≡ n → z.host.active ≡ false → z.host.halted ≡ false → z.host.left ≡ 0
EndsWhole (Stale m q) n = Unit {0}

abbrev pub IsFirst : (ℕ → ℕ) → Structures → ℕ → Type 0
IsFirst order part b = (a : ℕ) (t : Qtd) → part a ≡ Some (Element t) → t.token.active ≡ true → order b ≤ order a

pub record GoesInTurn (order : ℕ → ℕ) (part : Structures) (q : Qh) : Type 0 where
  pub work : q.token.active ≡ true → IsFirst order part q.current
  pub rest : (b : ℕ) → q.token.halted ≡ false → q.token.active ≡ false → qtd_link_of (next_pointer q) ≡ qtd_links.To b → IsFirst order part b

pub record AreSentWhole (order : ℕ → ℕ) (out : List ℕ) (hand : Hand) (n : ℕ) (part : Structures) : Type 0 where
  -- a qTD that is done and isn't halted has no bytes left, and the transaction in hand keeps to that
  pub whole : (a : ℕ) (t : Qtd) → part a ≡ Some (Element t) → t.token.active ≡ false → t.token.halted ≡ false → t.token.total ≡ 0
  pub ends : EndsWhole hand n
  -- while the queue head isn't halted none of its qTDs is
  pub goes_on : (q : Qh) (a : ℕ) (t : Qtd) → part n ≡ Some (QueueHead q) → q.token.halted ≡ false → part a ≡ Some (Element t) → t.token.active ≡ false → t.token.halted ≡ false
  -- what stands before a done one is done, and not halted
  pub before : (a b : ℕ) (t u : Qtd) → IsAmong b out → part a ≡ Some (Element t) → part b ≡ Some (Element u) → order a < order b → u.token.active ≡ false
      → (t.token.active ≡ false) × (t.token.halted ≡ false)
  pub turn : (q : Qh) → part n ≡ Some (QueueHead q) → GoesInTurn order part q
  -- the link of an active one leads no further than to the next active one
  pub next : (c a b : ℕ) (t u : Qtd) → part c ≡ Some (Element t) → part a ≡ Some (Element u) → t.token.active ≡ true → u.token.active ≡ true → order c < order a
      → qtd_link_of t.next ≡ qtd_links.To b → order b ≤ order a

-- ---- the bytes of all

abbrev pub bytes_of_element : Structures → Option Structure → List ℕ
bytes_of_element part (Some (Element t)) = buffer_of part t
bytes_of_element part _ = []

abbrev pub buffer_at : Structures → ℕ → List ℕ
buffer_at part e = bytes_of_element part (part e)

abbrev pub buffers_of : Structures → List ℕ → List ℕ
buffers_of part [] = []
buffers_of part (e ∷ es) = buffer_at part e ++ buffers_of part es
