-- When a transfer halts (EHCI 1.0, 4.10.3 and 4.15).
use Rattle.std.specs.Prelude.{◌≡◌, ℕ, ◌<◌, Bool, true, false, List, length}
use Rattle.usb_base.specs.declared.packets.Ask.{Ask}
use Rattle.usb_base.specs.declared.packets.Pid.TheVariants as Packets
use Rattle.usb_base.specs.declared.packets.Reply.{Reply}
use Rattle.usb_base.specs.declared.packets.Reply.TheVariants.{Bytes, Hand}
use Rattle.usb_base.specs.declared.packets.Split.{Split}
use Rattle.usb_base.specs.declared.packets.Split.TheVariants.{Plain, Start, Complete}
use Rattle.toggle_error.specs.declared.host.HostSide.{HostSide}
use Rattle.toggle_error.specs.Columns.{expected_pid, limit_of}

-- the device answers a plain ask or a complete-split, the translator a start-split
abbrev pub is_answered : Split → Bool
is_answered Plain = true
is_answered (Start _ _ _) = false
is_answered (Complete _ _) = true

-- the error counter fell from 1 to 0
pub record RanOut (before after : HostSide) : Type 0 where
  pub one : before.cerr ≡ 1
  pub none : after.cerr ≡ 0

-- the device stalled
pub record IsStalled (ask : Ask) (reply : Reply) : Type 0 where
  pub answered : is_answered ask.split ≡ true
  pub stall : reply ≡ Hand Packets.Stall

-- the device sent expected data that the host can't take
pub record IsBabble (ask : Ask) (reply : Reply) (host : HostSide) : Type 0 where
  pub answered : is_answered ask.split ≡ true
  pub asked : ask.pid ≡ Packets.In
  pub bytes : List ℕ
  pub heard : reply ≡ Bytes (expected_pid host.toggle) bytes
  pub long : limit_of host < length bytes
