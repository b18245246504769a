-- How far a queue head has gone along its qTDs (EHCI 1.0, 4.10.2): what stands before its front isn't worked on any more, whether it is done or was
-- passed over after a short packet.
--     own_pointer t            the link that is followed once the qTD t is done
--     IsFront order front q    the overlay of the queue head q works on the qTD at the front, or goes on at one from there on
--     IsBehind order front part a
--                              the qTD at a is done, stands before the front, and what it leads to doesn't stand past it
--     IsPassed order front part a
--                              the qTD at a was passed over, and is published still
--     LinksRise order part     links lead to later qTDs only
--     HasFront ..              the front of the queue head at n; of these qTDs those that are done are behind it, nothing was moved of the
--                              others, and those that were passed over are published still
--     LinksWithin order tail part, HasTail order tail front n part
--                              the walk goes no further than the qTD at `tail`, which isn't published
--     FrontGoesOn ..           the same after an event: the front has gone on, and what was behind it is so still
--     FrontIsSpared, FrontIsRenumbered   the laws of a driver's rows
use Rattle.std.specs.Prelude.{◌≡◌, ℕ, ◌<◌, ◌≤◌, ◌⊎◌, Bool, true, false, not, ◌&&◌, ◌==◌, List, length, Some, if◌then◌else◌}
use Rattle.link_words.specs.declared.fields.ShortLink.{ShortLink}
use Rattle.link_words.specs.declared.kinds.QtdLink.TheVariants as qtd_links
use Rattle.link_words.specs.Links.{qtd_link_of}
use Rattle.qh_qtd.specs.declared.qtd.Qtd.{Qtd}
use Rattle.qh_qtd.specs.declared.queue_head.Qh.{Qh}
use Rattle.hc_copy.specs.Visits.{next_pointer}
use Rattle.law_structures.specs.lent_structures.Structures.{QueueHead, Element, Structures, StructureSets}
use Rattle.law_structures.specs.lent_structures.Sound.{IsMember}
use Rattle.law_ring.specs.Effects.{buffer_of}
use Rattle.law_ring.specs.Order.{IsFresh, IsAmong}

abbrev pub own_pointer : Qtd → ShortLink
own_pointer t = if not (t.token.total == 0) && not t.alternate.t then t.alternate else t.next

pub record IsFront (order : ℕ → ℕ) (front : ℕ) (q : Qh) : Type 0 where
  pub work : q.token.active ≡ true → order q.current ≡ front
  pub rest : (b : ℕ) → q.token.halted ≡ false → q.token.active ≡ false → qtd_link_of (next_pointer q) ≡ qtd_links.To b → front ≤ order b

-- a halted one ends its queue, whatever it leads to
pub record IsBehind (order : ℕ → ℕ) (front : ℕ) (part : Structures) (a : ℕ) : Type 0 where
  pub qtd : Qtd
  pub here : part a ≡ Some (Element qtd)
  pub done : qtd.token.active ≡ false
  pub before : order a < front
  pub leads : (b : ℕ) → qtd.token.halted ≡ false → qtd_link_of (own_pointer qtd) ≡ qtd_links.To b → order b ≤ front

pub record IsPassed (order : ℕ → ℕ) (front : ℕ) (part : Structures) (a : ℕ) : Type 0 where
  pub qtd : Qtd
  pub here : part a ≡ Some (Element qtd)
  pub published : qtd.token.active ≡ true
  pub before : order a < front

pub record LinksRise (order : ℕ → ℕ) (part : Structures) : Type 0 where
  pub next : (a : ℕ) (t : Qtd) (b : ℕ) → part a ≡ Some (Element t) → qtd_link_of t.next ≡ qtd_links.To b → order a < order b
  pub alternate : (a : ℕ) (t : Qtd) (b : ℕ) → part a ≡ Some (Element t) → qtd_link_of t.alternate ≡ qtd_links.To b → order a < order b

-- the qTD t at a is done and leads to b, so that the one at e was passed over
pub record Passes (order : ℕ → ℕ) (a b : ℕ) (t : Qtd) (e : ℕ) : Type 0 where
  pub done : t.token.active ≡ false
  pub goes_on : t.token.halted ≡ false
  pub leads : qtd_link_of (own_pointer t) ≡ qtd_links.To b
  pub after : order a < order e
  pub before : order e < order b

pub record HasFront (order : ℕ → ℕ) (front : ℕ) (out : List ℕ) (n : ℕ) (part : Structures) : Type 0 where
  pub queue : (q : Qh) → part n ≡ Some (QueueHead q) → IsFront order front q
  pub behind : (a : ℕ) (t : Qtd) → IsAmong a out → part a ≡ Some (Element t) → t.token.active ≡ false → IsBehind order front part a
  pub fresh : (a : ℕ) (t : Qtd) → IsAmong a out → part a ≡ Some (Element t) → t.token.active ≡ true → IsFresh part t
  pub passes : (a b e : ℕ) (t u : Qtd) → IsAmong a out → IsAmong e out → part a ≡ Some (Element t) → part e ≡ Some (Element u) → Passes order a b t e → u.token.active ≡ true

-- links of published qTDs up to the tail lead no further, and none of these is the tail
pub record LinksWithin (order : ℕ → ℕ) (tail : ℕ) (part : Structures) : Type 0 where
  pub below : (a : ℕ) (t : Qtd) → part a ≡ Some (Element t) → t.token.active ≡ true → order a ≤ order tail → order a < order tail
  pub next : (a b : ℕ) (t : Qtd) → part a ≡ Some (Element t) → t.token.active ≡ true → order a ≤ order tail → qtd_link_of t.next ≡ qtd_links.To b → order b ≤ order tail
  pub alternate : (a b : ℕ) (t : Qtd) → part a ≡ Some (Element t) → t.token.active ≡ true → order a ≤ order tail → qtd_link_of t.alternate ≡ qtd_links.To b → order b ≤ order tail

-- the walk hasn't gone past the tail, and won't
pub record HasTail (order : ℕ → ℕ) (tail front n : ℕ) (part : Structures) : Type 0 where
  pub most : front ≤ order tail
  pub rest : (q : Qh) (b : ℕ) → part n ≡ Some (QueueHead q) → q.token.halted ≡ false → q.token.active ≡ false → qtd_link_of (next_pointer q) ≡ qtd_links.To b → order b ≤ order tail

pub record FrontGoesOn (order : ℕ → ℕ) (front : ℕ) (out : List ℕ) (n : ℕ) (parts now : StructureSets) : Type 0 where
  pub front_now : ℕ
  pub goes_on : front ≤ front_now
  pub has : HasFront order front_now out n (now n)
  pub still : (a : ℕ) → IsBehind order front (parts n) a → IsBehind order front_now (now n) a
  pub passed : (a : ℕ) → IsPassed order front (parts n) a → IsPassed order front_now (now n) a
  pub tail : (c : ℕ) → LinksWithin order c (parts n) → HasTail order c front n (parts n) → HasTail order c front_now n (now n)

-- ---- a driver's rows

-- the overlay is as it was, whatever the link
pub record SameRest (q r : Qh) : Type 0 where
  pub token : r.token ≡ q.token
  pub current : r.current ≡ q.current
  pub next : r.next ≡ q.next
  pub alternate : r.alternate ≡ q.alternate

pub record HadRest (part : Structures) (n : ℕ) (r : Qh) : Type 0 where
  pub queue : Qh
  pub here : part n ≡ Some (QueueHead queue)
  pub rest : SameRest queue r

-- a qTD that was out and is as it was, or one from the front on that was published
abbrev pub IsSparedOrNew : (ℕ → ℕ) → ℕ → List ℕ → Structures → Structures → ℕ → Qtd → Type 0
IsSparedOrNew order front out part now a t =
    (IsAmong a out × (part a ≡ Some (Element t)) × (length (buffer_of now t) ≡ length (buffer_of part t))) ⊎ ((front ≤ order a) × (t.token.active ≡ true) × IsFresh now t)

abbrev pub FrontIsSpared : Type 0
FrontIsSpared = (order : ℕ → ℕ) (front : ℕ) (out out_now : List ℕ) (n : ℕ) (part now : Structures) → HasFront order front out n part
    → ((r : Qh) → now n ≡ Some (QueueHead r) → HadRest part n r)
    → ((a : ℕ) (t : Qtd) → IsAmong a out_now → now a ≡ Some (Element t) → IsSparedOrNew order front out part now a t)
    → HasFront order front out_now n now

-- where each qTD that is there has the order that it had
abbrev pub FrontIsRenumbered : Type 0
FrontIsRenumbered = (member : ℕ → Bool) (order order_now : ℕ → ℕ) (front : ℕ) (out : List ℕ) (n : ℕ) (part : Structures) → IsMember member n part
    → ((a : ℕ) (t : Qtd) → part a ≡ Some (Element t) → order_now a ≡ order a) → HasFront order front out n part → HasFront order_now front out n part
