-- Addresses that the controller follows are multiples of 32 (EHCI 1.0, 3.1, 3.3.1, 3.4.1, 3.5.1, 3.6, 4.6 and 4.8): the low five bits of a link word
-- are no address.
--     IsQueueAligned q    of a queue head: its link, its current qTD, and both links of its overlay
--     IsElementAligned t  of a qTD: both its links
--     IsCopyAligned h     of a queue head in hand: its own address too
--     IsItdAligned h      of an iTD in hand: its own address and its link; its microframe is one of eight
--     IsHandAligned h     of what the walk of a frame's chain has in hand: its link and its own address
--     IsRingAligned w     of the ring's walk: its cursor and its copy in hand
--     IsFrameAligned w    of the frame's walk
--     AreAligned c        of both walks and of ASYNCLISTADDR, where the ring begins
use Rattle.std.specs.Prelude.{◌≡◌, ◌%◌, ◌<◌, IfSome}
use Rattle.link_words.specs.Links.{IsAligned}
use Rattle.qh_qtd.specs.declared.qtd.Qtd.{Qtd}
use Rattle.qh_qtd.specs.declared.queue_head.Qh.{Qh}
use Rattle.hc_copy.specs.declared.held.Held.{Held}
use Rattle.hc_iso.specs.declared.held.HeldItd.{HeldItd}
use Rattle.async_walk.specs.Walk.{Walk, IsCursor}
use Rattle.periodic_walk.specs.declared.state.Hand.{Hand}
use Rattle.periodic_walk.specs.declared.state.Hand.TheVariants as hands
use Rattle.periodic_walk.specs.Walk.{Walk as FrameWalk}
use Rattle.hc_core.specs.Controller.{Content}

pub record IsQueueAligned (q : Qh) : Type 0 where
  pub link : q.link.address % 32 ≡ 0
  pub current : q.current % 32 ≡ 0
  pub next : q.next.address % 32 ≡ 0
  pub alternate : q.alternate.address % 32 ≡ 0

pub record IsElementAligned (t : Qtd) : Type 0 where
  pub next : t.next.address % 32 ≡ 0
  pub alternate : t.alternate.address % 32 ≡ 0

pub record IsCopyAligned (h : Held) : Type 0 where
  pub at : h.at % 32 ≡ 0
  pub queue : IsQueueAligned h.queue_head

pub record IsItdAligned (h : HeldItd) : Type 0 where
  pub at : h.at % 32 ≡ 0
  pub link : h.itd.link.address % 32 ≡ 0
  pub number : h.number < 8

abbrev pub IsHandAligned : Hand → Type 0
IsHandAligned (hands.Queue h) = IsCopyAligned h.copy
IsHandAligned (hands.Itd h) = IsItdAligned h
IsHandAligned (hands.Sitd h) = (h.at % 32 ≡ 0) × (h.sitd.link.address % 32 ≡ 0)

pub record IsRingAligned (w : Walk) : Type 0 where
  pub cursor : IsCursor w.cursor
  pub held : IfSome w.held IsCopyAligned

pub record IsFrameAligned (w : FrameWalk) : Type 0 where
  pub cursor : IsAligned w.cursor
  pub hand : IfSome w.hand IsHandAligned

pub record AreAligned (c : Content) : Type 0 where
  pub frame : IsFrameAligned c.control.frame
  pub ring : IsRingAligned c.control.walk
  pub start : c.registers.async_list_address % 32 ≡ 0
