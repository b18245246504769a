-- The device's half of a pipe: how a bulk or interrupt endpoint stands beside the pipe between host and device, of which an IN
-- endpoint is the sender and an OUT endpoint the receiver (USB 2.0, 8.6).
use Rattle.std.specs.Prelude.{◌≡◌, ℕ, Bool, true, false, List, drop}
use Rattle.std.specs.List.{concat}
use Rattle.usb_base.specs.declared.packets.Pid.{Pid}
use Rattle.usb_base.specs.declared.packets.Pid.TheVariants as Pids
use Rattle.usb_base.specs.declared.packets.Reply.{Reply}
use Rattle.usb_base.specs.declared.packets.Reply.TheVariants.{Hand}
use Rattle.law_pipe.specs.Pipe.{Pipe}
use Rattle.endpoint_script.specs.Items.{packets_of}
use Rattle.endpoint_script.specs.Sending.{Sending}
use Rattle.endpoint_script.specs.Taking.{Taking}

-- The endpoint stands as the sender of the pipe: its toggle is the sender's, and the packets that are left are those after the
-- ones that it knows to be taken.
pub record SendsFor (packets : List (List ℕ)) (w : Pipe (List ℕ)) (s : Sending) : Type 0 where
  pub toggle : s.toggle ≡ w.sends
  pub left : packets_of s.items ≡ drop w.known packets

-- The endpoint stands as the receiver of the pipe: its toggle is the receiver's, and the bytes that it took are those of the
-- packets that the receiver accepted.
pub record TakesFor (w : Pipe (List ℕ)) (t : Taking) : Type 0 where
  pub toggle : t.toggle ≡ w.expects
  pub bytes : t.taken ≡ concat w.accepted

-- the handshakes by which a device acknowledges data (8.4.5)
abbrev pub acknowledges : Pid → Bool
acknowledges Pids.Ack = true
acknowledges Pids.Nyet = true
acknowledges _ = false

abbrev pub is_acknowledged : Reply → Bool
is_acknowledged (Hand pid) = acknowledges pid
is_acknowledged _ = false
