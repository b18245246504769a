-- What a translator hears below, and says above (USB 2.0, 11.17).
use Rattle.std.specs.Prelude.{Option, Some, None}
use Rattle.usb_base.specs.declared.packets.Pid.TheVariants as Packets
use Rattle.usb_base.specs.declared.packets.Reply.{Reply}
use Rattle.usb_base.specs.declared.packets.Reply.TheVariants as Replies
use Rattle.tt_bulk.specs.declared.answers.Answer.{Answer}
use Rattle.tt_bulk.specs.declared.answers.Answer.TheVariants.{Bytes, Ack, Nak, Stall}

-- the device's data, ACK, NAK or STALL; nothing else is an answer of a full- or low-speed device
abbrev pub result_of : Reply → Option Answer
result_of (Replies.Bytes pid bytes) = Some (Bytes pid bytes)
result_of (Replies.Hand Packets.Ack) = Some Ack
result_of (Replies.Hand Packets.Nak) = Some Nak
result_of (Replies.Hand Packets.Stall) = Some Stall
result_of _ = None

abbrev pub reply_of : Answer → Reply
reply_of (Bytes pid bytes) = Replies.Bytes pid bytes
reply_of Ack = Replies.Hand Packets.Ack
reply_of Nak = Replies.Hand Packets.Nak
reply_of Stall = Replies.Hand Packets.Stall
