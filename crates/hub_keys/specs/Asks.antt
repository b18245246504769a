-- What a start-split stands for on the bus below a translator (USB 2.0, 11.14 and 11.18).
use Rattle.std.specs.Prelude.{ℕ, ◌+◌, ◌*◌, ◌/◌}
use Rattle.usb_base.specs.Cost.{byte_times}
use Rattle.usb_base.specs.declared.packets.Ask.{Ask}
use Rattle.usb_base.specs.declared.packets.Pid.{Pid}
use Rattle.usb_base.specs.declared.packets.Pid.TheVariants as Packets
use Rattle.usb_base.specs.declared.packets.Split.TheVariants.{Plain}

-- the start's ask made plain, with room for the longest packet
abbrev pub classic_of : Ask → Ask
classic_of ask = record ask { split = Plain; limit = 1024 }

-- the bytes that a transaction is counted with: the limit of an IN, the bytes sent of any other
abbrev pub counted_bytes : Pid → ℕ → ℕ → ℕ
counted_bytes Packets.In limit _ = limit
counted_bytes _ _ sent = sent

-- the byte-times of the transaction of a start that carried this number of bytes
abbrev pub work_of : Ask → ℕ → ℕ
work_of ask sent = byte_times ask.speed ask.kind (counted_bytes ask.pid ask.limit sent)

-- so many byte-times with their stuffed bits (7.1.9), where those make 36 bytes longer by this number
abbrev pub stuffed : ℕ → ℕ → ℕ
stuffed times stuff = times + times * stuff / 36
