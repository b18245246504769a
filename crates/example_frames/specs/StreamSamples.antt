-- Samples of the streams of interrupt endpoints in the frames, for worked rows: the split transaction of `law_frames`'s samples, and the
-- queue head at 0 of an OUT endpoint at high speed, which works on a qTD at 64 of two bytes.
--     in_frames w              the controller in its periodic part, whose walk is so
--     late                     the walk in microframe 3, with the copy in hand that waits for its complete-split
--     out_token, out_queue, out_element, out_part, out_copy
--                              the queue head of the OUT endpoint, its structures, and a copy of it
--     sent                     the two bytes
--     as_interrupt, as_bulk    what its transaction comes to, by what is heard, and what it would come to in a ring
--     refused, acknowledged    .. where that is NYET, and where it is ACK
--     moved_then               the bytes that it moved there
--     out_ask                  what it asks
--     none_taken, both_taken   its device, which took nothing, or both bytes, and expects DATA1
use Rattle.std.specs.Prelude.{ℕ, true, false, List, [], ◌∷◌, None}
use Rattle.usb_base.specs.declared.packets.Ask.{Ask}
use Rattle.usb_base.specs.declared.packets.EpKind.TheVariants.{Interrupt}
use Rattle.usb_base.specs.declared.packets.Pid.TheVariants.{Ack, Nyet}
use Rattle.usb_base.specs.declared.packets.Reply.{Reply}
use Rattle.usb_base.specs.declared.packets.Reply.TheVariants.{Hand}
use Rattle.qh_qtd.specs.Blank.{blank_token, blank_qtd, blank_head}
use Rattle.qh_qtd.specs.declared.token.Token.{Token}
use Rattle.qh_qtd.specs.declared.qtd.Qtd.{Qtd}
use Rattle.qh_qtd.specs.declared.queue_head.Qh.{Qh}
use Rattle.hc_copy.specs.Planning.{transaction_of}
use Rattle.hc_copy.specs.Transacting.{call_in}
use Rattle.periodic_walk.specs.Walk.{Walk}
use Rattle.hc_core.specs.declared.controller.MicroframePart.TheVariants.{Periodic}
use Rattle.hc_core.specs.Controller.{Control, new_control}
use Rattle.law_structures.specs.lent_structures.Structures.{QueueHead, Element, Buffer, Structures, with_structure}
use Rattle.law_structures.specs.lent_structures.StructureSamples.{pages}
use Rattle.law_ring.specs.Hand.{Copy, Settlement}
use Rattle.law_ring.specs.Effects.{settlement_as, settlement}
use Rattle.law_ring.specs.OutBus.{Taker}
use Rattle.law_ring.specs.Streams.{moved_bytes}
use Rattle.law_frames.specs.FrameHand.{fetched_copy}
use Rattle.law_frames.specs.SplitSamples.{completing}

abbrev pub in_frames : Walk → Control
in_frames w = record new_control { part = Periodic; frame = w }

abbrev pub late : Walk
late = record completing { index = 43 }

-- ---- an OUT endpoint

abbrev pub out_token : Token
out_token = record blank_token { active = true; cerr = 3; total = 2 }

abbrev pub out_queue : Qh
out_queue = record blank_head { addr = 5; ep = 2; eps = 2; max = 64; mult = 1; smask = 1; current = 64; token = out_token; offset = 100 }

abbrev pub out_element : Qtd
out_element = record blank_qtd { token = out_token; offset = 100 }

abbrev pub sent : List ℕ
sent = 7 ∷ 9 ∷ []

abbrev pub none : Structures
none a = None

abbrev pub head_part : Structures
head_part = with_structure none 0 (QueueHead out_queue)

abbrev pub element_part : Structures
element_part = with_structure head_part 64 (Element out_element)

abbrev pub out_part : Structures
out_part = with_structure element_part 100 (Buffer pages 100 sent)

abbrev pub out_copy : Copy
out_copy = fetched_copy 0 out_queue

abbrev pub as_interrupt : Reply → Settlement
as_interrupt reply = settlement_as Interrupt out_queue sent false reply

abbrev pub as_bulk : Reply → Settlement
as_bulk reply = settlement out_queue sent reply

abbrev pub refused : Settlement
refused = as_interrupt (Hand Nyet)

abbrev pub acknowledged : Settlement
acknowledged = as_interrupt (Hand Ack)

abbrev pub moved_then : List ℕ
moved_then = moved_bytes out_queue out_element acknowledged sent

abbrev pub out_ask : Ask
out_ask = (call_in (transaction_of Interrupt out_queue) sent false).ask

abbrev pub none_taken : Taker
none_taken = record { taken = []; expects = false }

abbrev pub both_taken : Taker
both_taken = record { taken = sent; expects = true }
