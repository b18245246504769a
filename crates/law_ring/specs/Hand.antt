-- What the walk of the ring has in hand, told by what stands in memory (EHCI 1.0, 4.10.1 to 4.10.4).
--     Copy                  a copy of a queue head: where it was read, what stands there now, and what of the copy may differ, its link and its
--                           count of NAKs
--     copied_queue c        the copy's queue head
--     Settlement            what its transaction came to: the host's side after it, the outcome, and the bytes received
--     settled_queue_of c s  the copy's queue head after it
--     Hand                  nothing, a copy that had no transaction yet, one whose transaction isn't written back, or a stale one, which was halted
--                           when it was read, whatever was stored over its queue head since
--     held_of hand          the same as the walk has it
use Rattle.std.specs.Prelude.{ℕ, List, Option, Some, None}
use Rattle.link_words.specs.declared.fields.LinkBits.{LinkBits}
use Rattle.qh_qtd.specs.declared.queue_head.Qh.{Qh}
use Rattle.toggle_error.specs.declared.host.HostSide.{HostSide}
use Rattle.toggle_error.specs.declared.host.Outcome.{Outcome}
use Rattle.hc_copy.specs.declared.held.Held.{Held}
use Rattle.hc_copy.specs.Overlay.{settled_queue}

pub record Copy : Type 0 where
  pub at : ℕ
  pub queue : Qh
  pub link : LinkBits
  pub naks : ℕ

abbrev pub copied_queue : Copy → Qh
copied_queue c = record c.queue { link = c.link; nak_cnt = c.naks }

pub record Settlement : Type 0 where
  pub host : HostSide
  pub outcome : Outcome
  pub got : List ℕ

abbrev pub settled_queue_of : Copy → Settlement → Qh
settled_queue_of c s = settled_queue s.host (copied_queue c)

pub data Hand : Type 0 where
  Empty : Hand
  Copied : Copy → Hand
  Settled : Copy → Settlement → Hand
  Stale : ℕ → Qh → Hand  -- where it was read, and the copy

abbrev pub held_of : Hand → Option Held
held_of Empty = None
held_of (Copied c) = Some (record { at = c.at; queue_head = copied_queue c; settled = None })
held_of (Settled c s) = Some (record { at = c.at; queue_head = settled_queue_of c s; settled = Some s.outcome })
held_of (Stale n q) = Some (record { at = n; queue_head = q; settled = None })
