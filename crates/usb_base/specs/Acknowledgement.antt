-- Which data the host acknowledges to a device (USB 2.0, 8.4.5, 8.5 and 8.6).
--     pid_bits p                  the four bits of a packet identifier (USB 2.0, table 8-1)
--     has_handshake kind          isochronous transactions have no handshake (USB 2.0, 8.5.5)
--     is_taken ask pid n          n bytes of this PID are no babble: they repeat what the host has, or fit what it can take
--     acknowledges ask reply      the host sends ACK for this answer: it is data of a plain IN, with a handshake, that are taken
-- Data that a translator answers have no handshake (USB 2.0, 8.4.2), and a handshake has none.
use Rattle.std.specs.Prelude.{ℕ, Bool, true, false, ◌&&◌, ◌||◌, ◌==◌, not, nat_le, length}
use Rattle.usb_base.specs.declared.packets.Ask.{Ask}
use Rattle.usb_base.specs.declared.packets.EpKind.{EpKind}
use Rattle.usb_base.specs.declared.packets.EpKind.TheVariants.{Control, Iso, Bulk, Interrupt}
use Rattle.usb_base.specs.declared.packets.Pid.{Pid}
use Rattle.usb_base.specs.declared.packets.Pid.TheVariants.{Out, In, Sof, Setup, Data0, Data1, Data2, Mdata, Ack, Nak, Stall, Nyet, Err, Split, Ping}
use Rattle.usb_base.specs.declared.packets.Reply.{Reply}
use Rattle.usb_base.specs.declared.packets.Reply.TheVariants as Replies
use Rattle.usb_base.specs.declared.packets.Split.{Split as Splitting}
use Rattle.usb_base.specs.declared.packets.Split.TheVariants.{Plain, Start, Complete}

abbrev pub pid_bits : Pid → ℕ
pid_bits Out = 0x1
pid_bits In = 0x9
pid_bits Sof = 0x5
pid_bits Setup = 0xd
pid_bits Data0 = 0x3
pid_bits Data1 = 0xb
pid_bits Data2 = 0x7
pid_bits Mdata = 0xf
pid_bits Ack = 0x2
pid_bits Nak = 0xa
pid_bits Stall = 0xe
pid_bits Nyet = 0x6
pid_bits Err = 0xc
pid_bits Split = 0x8
pid_bits Ping = 0x4

abbrev pub has_handshake : EpKind → Bool
has_handshake Control = true
has_handshake Iso = false
has_handshake Bulk = true
has_handshake Interrupt = true

abbrev pub is_plain : Splitting → Bool
is_plain Plain = true
is_plain (Start _ _ _) = false
is_plain (Complete _ _) = false

abbrev pub is_taken : Ask → Pid → ℕ → Bool
is_taken ask pid n = not (pid_bits pid == pid_bits ask.toggle) || nat_le n ask.limit

abbrev pub acknowledges : Ask → Reply → Bool
acknowledges ask (Replies.Bytes pid bytes) =
    is_plain ask.split && (pid_bits ask.pid == pid_bits In) && has_handshake ask.kind && is_taken ask pid (length bytes)
acknowledges ask (Replies.Hand pid) = false
acknowledges ask Replies.Silent = false
