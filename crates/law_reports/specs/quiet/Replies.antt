-- The answers of devices of which a host at high speed counts no error (EHCI 1.0, 4.10.3 and 4.11; USB 2.0, 8.5 and 8.6).
--     is_data pid             the PID of a data packet with a toggle
--     tells kind pid reply    so an endpoint of this kind may answer this token: an IN with data or with NAK or STALL; an OUT with a
--                             handshake, but a NYET of an interrupt endpoint counts as an error; a PING and a SETUP
use Rattle.std.specs.Prelude.{Bool, true, false}
use Rattle.usb_base.specs.declared.packets.EpKind.{EpKind}
use Rattle.usb_base.specs.declared.packets.EpKind.TheVariants.{Control, Bulk}
use Rattle.usb_base.specs.declared.packets.Pid.{Pid}
use Rattle.usb_base.specs.declared.packets.Pid.TheVariants as pids
use Rattle.usb_base.specs.declared.packets.Reply.{Reply}
use Rattle.usb_base.specs.declared.packets.Reply.TheVariants.{Silent, Bytes, Hand}

abbrev pub is_data : Pid → Bool
is_data pids.Data0 = true
is_data pids.Data1 = true
is_data _ = false

-- a NYET is for bulk and control endpoints (8.5.1)
abbrev pub may_wait : EpKind → Bool
may_wait Bulk = true
may_wait Control = true
may_wait _ = false

--                 kind   token     handshake
abbrev pub tells_hand : EpKind → Pid → Pid → Bool
tells_hand kind pids.Out pids.Ack = true
tells_hand kind pids.Out pids.Nyet = may_wait kind
tells_hand kind pids.Ping pids.Ack = true
tells_hand kind pids.Setup pids.Ack = true
tells_hand kind pids.In pids.Nak = true
tells_hand kind pids.Out pids.Nak = true
tells_hand kind pids.Ping pids.Nak = true
tells_hand kind pids.In pids.Stall = true
tells_hand kind pids.Out pids.Stall = true
tells_hand kind pids.Ping pids.Stall = true
tells_hand kind pids.Setup pids.Stall = true
tells_hand kind _ _ = false

abbrev pub tells : EpKind → Pid → Reply → Bool
tells kind pid Silent = false
tells kind pids.In (Bytes pid bytes) = is_data pid
tells kind _ (Bytes pid bytes) = false
tells kind pid (Hand hand) = tells_hand kind pid hand
