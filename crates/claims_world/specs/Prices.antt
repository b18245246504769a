-- What a transaction of the walk of the frames costs, told by the copy in hand before it: on the host's bus it is one of high speed, that
-- of a split transaction too, where either way costs the same (USB 2.0, 5.11.3, 8.5 and 11.18; EHCI 1.0, 3.5.3, 3.6.2, 4.7, 4.10.3 and
-- 4.12).
--     left_bytes q       the bytes that an OUT of the queue head q sends: what is left, at most a packet
--     whole_bytes q      the bytes that count where its transaction isn't split: an OUT's own, and none of a PING; of an IN its largest
--                        packet; a SETUP has eight
--     start_bytes q      .. in a start-split, which carries those of an OUT
--     complete_bytes q   .. in a complete-split, which carries those of an IN
--     queue_bytes q      .. in the next transaction of the queue head
--     itd_bytes h        .. in that of an iTD's copy
--     sitd_bytes v       .. in that of a siTD: a part of at most 188, but none in the start-split of an IN
--     price_of hand      the bus time of the next transaction of the copy in hand, in picoseconds
--     cost_of step hand  that of the controller's next event, where it is of this kind: nothing, unless it is a transaction
use Rattle.std.specs.Prelude.{ℕ, ◌-◌, min, not, ◌&&◌, ◌==◌, if◌then◌else◌}
use Rattle.usb_base.specs.Cost.{bus_time}
use Rattle.usb_base.specs.Limits.{byte_times_of_microframe}
use Rattle.usb_base.specs.declared.packets.Dir.TheVariants as ways
use Rattle.usb_base.specs.declared.packets.EpKind.TheVariants.{Interrupt, Iso}
use Rattle.usb_base.specs.declared.packets.Speed.TheVariants.{High}
use Rattle.qh_qtd.specs.declared.queue_head.Qh.{Qh}
use Rattle.itd_sitd.specs.declared.sitd.Sitd.{Sitd}
use Rattle.hc_iso.specs.declared.held.HeldItd.{HeldItd}
use Rattle.periodic_walk.specs.declared.state.Hand.{Hand}
use Rattle.periodic_walk.specs.declared.state.Hand.TheVariants as hands
use Rattle.hc_core.specs.declared.controller.HcStep.{HcStep}
use Rattle.hc_core.specs.declared.controller.HcStep.TheVariants as steps

-- ---- a queue head; the PID code of its token is 0 for OUT, 1 for IN, 2 for SETUP (3.5.3)

abbrev pub left_bytes : Qh → ℕ
left_bytes q = min q.max q.token.total

abbrev pub whole_bytes : Qh → ℕ
whole_bytes q = if q.token.pid == 0 then (if q.token.ping then 0 else left_bytes q) else if q.token.pid == 1 then q.max else 8

abbrev pub start_bytes : Qh → ℕ
start_bytes q = if q.token.pid == 1 then 0 else left_bytes q

abbrev pub complete_bytes : Qh → ℕ
complete_bytes q = if q.token.pid == 1 then q.max else 0

-- below high speed, which is 2, it is split: the split state tells which half comes next (3.6.2, 4.12.2)
abbrev pub queue_bytes : Qh → ℕ
queue_bytes q = if q.eps == 2 then whole_bytes q else if q.token.split_state then complete_bytes q else start_bytes q

-- ---- descriptors

abbrev pub itd_bytes : HeldItd → ℕ
itd_bytes h = if h.itd.dir_in then h.itd.max else min h.itd.max (h.slot.length - h.moved)

abbrev pub sitd_bytes : Sitd → ℕ
sitd_bytes v = if v.dir_in && not v.split_state then 0 else min byte_times_of_microframe v.total

-- ---- the price

abbrev pub price_of : Hand → ℕ
price_of (hands.Queue h) = bus_time High Interrupt ways.In (queue_bytes h.copy.queue_head)
price_of (hands.Itd h) = bus_time High Iso ways.In (itd_bytes h)
price_of (hands.Sitd h) = bus_time High Iso ways.In (sitd_bytes h.sitd)

abbrev pub cost_of : HcStep → Hand → ℕ
cost_of steps.Transact hand = price_of hand
cost_of _ hand = 0
