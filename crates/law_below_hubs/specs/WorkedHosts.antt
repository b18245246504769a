-- The host of the bulk OUT endpoint behind port 1 of hub 9, before its first start-split, once it heard the hub's ACK, and in the
-- microframe after; and that of the IN endpoint, which heard the ACK of its start.
--     Opens, Starts, ResultComes     host, hub and device stand as they must
--     UnsentBreaks                   not where the host sent nothing, and the hub has a packet
--     ReadStarts                     so they do for an IN; `NoStreamBreaks`: not where the device has nothing to send
--     LostWaits                      of an interrupt IN whose device knows that its second packet was taken, the host has the first
--                                    alone, and nothing of the key is in the hub: it waits for a result that is gone
--     LateBreaks, GivenUpBreaks      a host that is in time doesn't stand so; nor does one that gave up, and would start again: it
--                                    would take the third packet for the second
--     fresh, stale                   what a pipeline has of an interrupt OUT's start as it came, and two microframes later
--     FreshIsUntold, StaleBreaks     a start finds nothing that was told in the first; not in the second, whose result was told
--     IsBelow, HighBreaks            its queue head, which rests, is that of an endpoint below the hub; not where it tells high speed
use Rattle.std.specs.Prelude.{ℕ, ◌==◌, Bool, true, false, List, [], ◌∷◌, Some, None, if◌then◌else◌}
use Rattle.usb_base.specs.declared.packets.Ask.{Ask}
use Rattle.usb_base.specs.declared.packets.DataPart.TheVariants.{All}
use Rattle.usb_base.specs.declared.packets.EpKind.TheVariants as Kinds
use Rattle.usb_base.specs.declared.packets.Pid.TheVariants as Packets
use Rattle.usb_base.specs.declared.packets.Reply.TheVariants.{Hand}
use Rattle.hub_keys.specs.Keys.{key_of}
use Rattle.hub_keys.specs.declared.key.Key.{Key}
use Rattle.tt_pipeline.specs.declared.entry.Entry.{Entry}
use Rattle.tt_pipeline.specs.Starting.{started as entered}
use Rattle.tt_pipeline.specs.Worked.{start_of, after_more}
use Rattle.bus_wire.specs.Bus.{opening_wired}
use Rattle.bus_wire.specs.Samples.{opened}
use Rattle.qh_qtd.specs.declared.queue_head.Qh.{Qh}
use Rattle.qh_qtd.specs.Blank.{blank_head}
use Rattle.law_structures.specs.lent_structures.Structures.{QueueHead, Structures, StructureSets}
use Rattle.law_ring.specs.Hand.{Empty}
use Rattle.law_ring.specs.Told.{endpoint_of}
use Rattle.law_translated.specs.KeySlots.{slot_at}
use Rattle.law_below_hubs.specs.HostEvents.{IsOutBehind}
use Rattle.law_below_hubs.specs.HostIns.{InSide}
use Rattle.law_below_hubs.specs.HostOuts.{OutSide, IsUntold}
use Rattle.law_below_hubs.specs.WorkedBelow as inward
use Rattle.law_below_hubs.specs.WorkedPut.{key, put_script, one_byte, started, begun}

-- ---- OUT

abbrev pub Opens : Type 0
Opens = OutSide key 0 0 (opening_wired put_script) false false [] None

abbrev pub Starts : Type 0
Starts = OutSide key 0 0 started false true [] (Some one_byte)

abbrev pub ResultComes : Type 0
ResultComes = OutSide key 0 0 begun false true [] (Some one_byte)

abbrev pub UnsentBreaks : Type 0
UnsentBreaks = OutSide key 0 0 started false true [] None → ⊥

-- ---- IN

abbrev pub ReadStarts : Type 0
ReadStarts = InSide (inward.three_bytes ∷ []) inward.key 0 0 inward.started false true true true []

abbrev pub NoStreamBreaks : Type 0
NoStreamBreaks = InSide [] inward.key 0 0 inward.started false true true true [] → ⊥

-- ---- an interrupt IN

abbrev pub periodic_key : Key
periodic_key = record inward.key { kind = Kinds.Interrupt }

abbrev pub three_packets : List (List ℕ)
three_packets = (7 ∷ []) ∷ (8 ∷ []) ∷ inward.three_bytes ∷ []

abbrev pub LostWaits : Type 0
LostWaits = InSide three_packets periodic_key 0 0 (opened []) true true true false (7 ∷ [])

abbrev pub LateBreaks : Type 0
LateBreaks = InSide three_packets periodic_key 0 0 (opened []) true true true true (7 ∷ []) → ⊥

abbrev pub GivenUpBreaks : Type 0
GivenUpBreaks = (timely : Bool) → InSide three_packets periodic_key 0 0 (opened []) true false true timely (7 ∷ []) → ⊥

-- ---- a pipeline

abbrev pub put_start : Ask
put_start = start_of Kinds.Interrupt Packets.Out All 2 0

abbrev pub fresh : List Entry
fresh = entered put_start one_byte 0 []

abbrev pub stale : List Entry
stale = after_more 2 (Hand Packets.Ack) fresh

abbrev pub FreshIsUntold : Type 0
FreshIsUntold = IsUntold (slot_at true one_byte (key_of put_start) fresh)

abbrev pub StaleBreaks : Type 0
StaleBreaks = IsUntold (slot_at true one_byte (key_of put_start) stale) → ⊥

-- ---- a queue head

abbrev pub queue_at : ℕ → Qh
queue_at speed = record blank_head { addr = 3; ep = 2; eps = speed; max = 64; hub = 9; port = 1 }

abbrev pub part_of : ℕ → Structures
part_of speed a = if a == 64 then Some (QueueHead (queue_at speed)) else None

abbrev pub parts_of : ℕ → StructureSets
parts_of speed n = part_of speed

abbrev pub IsBelow : Type 0
IsBelow = IsOutBehind Kinds.Bulk (opening_wired put_script) 0 0 [] (parts_of 0) Empty 64 (endpoint_of (queue_at 0))

abbrev pub HighBreaks : Type 0
HighBreaks = IsOutBehind Kinds.Bulk (opening_wired put_script) 0 0 [] (parts_of 2) Empty 64 (endpoint_of (queue_at 2)) → ⊥
