-- What the walk of the frames has in hand, told by what stands in memory (EHCI 1.0, 3.6.3, 4.6, 4.7.1, 4.10, 4.12.2 and 4.12.3).
--     QueueSettlement         what the transaction of a queue head came to, and what the copy then tells of a split one: its C-prog-mask and FrameTag (3.6.3)
--     came z                  the same without them
--     settled_in c z          the copy's queue head after it
--     ItdCopy, SitdCopy       the copy of an iTD or of a siTD, and what stands in memory now
--     FrameHand               nothing; the copy of a queue head, with how many transactions were made in the visit; one whose transaction isn't written
--                             back; the copy of an iTD; the copy of a siTD
--     frame_held hand         the same as the walk has it
--     queue_hand hand         the same as the walk of a ring would have it: nothing but a queue head
--     fetched_copy, fetched_itd_copy, fetched_sitd_copy
--                             the copy of a structure that was just read
use Rattle.std.specs.Prelude.{ℕ, List, Option, Some, None}
use Rattle.qh_qtd.specs.declared.queue_head.Qh.{Qh}
use Rattle.itd_sitd.specs.declared.itd.Itd.{Itd}
use Rattle.itd_sitd.specs.declared.sitd.Sitd.{Sitd}
use Rattle.toggle_error.specs.declared.host.HostSide.{HostSide}
use Rattle.toggle_error.specs.declared.host.Outcome.{Outcome}
use Rattle.law_ring.specs.Hand.{Copy, copied_queue, Settlement, settled_queue_of, Hand as RingHand, Empty, Copied, Settled}
use Rattle.hc_iso.specs.declared.held.HeldItd.{HeldItd}
use Rattle.hc_iso.specs.declared.held.HeldSitd.{HeldSitd}
use Rattle.hc_iso.specs.Itd.{fetched_itd}
use Rattle.periodic_walk.specs.declared.state.Hand.{Hand}
use Rattle.periodic_walk.specs.declared.state.Hand.TheVariants as hands

-- what the words of the overlay tell of a split transaction is written with them (4.12.2.4.2)
pub record QueueSettlement : Type 0 where
  pub host : HostSide
  pub outcome : Outcome
  pub got : List ℕ
  pub c_prog : ℕ
  pub frame_tag : ℕ

abbrev pub came : QueueSettlement → Settlement
came z = record { host = z.host; outcome = z.outcome; got = z.got }

abbrev pub settled_in : Copy → QueueSettlement → Qh
settled_in c z = record (settled_queue_of c (came z)) { c_prog = z.c_prog; frame_tag = z.frame_tag }

pub record ItdCopy : Type 0 where
  pub held : HeldItd
  pub itd : Itd

pub record SitdCopy : Type 0 where
  pub held : HeldSitd
  pub sitd : Sitd

pub data FrameHand : Type 0 where
  Nothing : FrameHand
  OfQueue : Copy → ℕ → FrameHand
  OfSettled : Copy → QueueSettlement → ℕ → FrameHand
  OfItd : ItdCopy → FrameHand
  OfSitd : SitdCopy → FrameHand

abbrev pub frame_held : FrameHand → Option Hand
frame_held Nothing = None
frame_held (OfQueue c made) = Some (hands.Queue (record { copy = record { at = c.at; queue_head = copied_queue c; settled = None }; made = made }))
frame_held (OfSettled c s made) = Some (hands.Queue (record { copy = record { at = c.at; queue_head = settled_in c s; settled = Some s.outcome }; made = made }))
frame_held (OfItd c) = Some (hands.Itd c.held)
frame_held (OfSitd c) = Some (hands.Sitd c.held)

abbrev pub queue_hand : FrameHand → RingHand
queue_hand Nothing = Empty
queue_hand (OfQueue c made) = Copied c
queue_hand (OfSettled c s made) = Settled c (came s)
queue_hand (OfItd c) = Empty
queue_hand (OfSitd c) = Empty

-- ---- a structure was just read

abbrev pub fetched_copy : ℕ → Qh → Copy
fetched_copy a q = record { at = a; queue = q; link = q.link; naks = q.nak_cnt }

-- in microframe u
abbrev pub fetched_itd_copy : ℕ → ℕ → Itd → ItdCopy
fetched_itd_copy a u v = record { held = fetched_itd a u v; itd = v }

abbrev pub fetched_sitd_copy : ℕ → Sitd → SitdCopy
fetched_sitd_copy a v = record { held = record { at = a; sitd = v; settled = None }; sitd = v }
