-- The controller that has the numbers of a state.
use Rattle.std.proofs.Common.{◌≡◌, ◌≤◌, Option, None, Some, length, refl, sym, ap, ◌∙◌}
use Rattle.std.specs.Prelude.{option_map, take}
use Rattle.usb_base.specs.declared.packets.Pid.{Pid}
use Rattle.usb_base.specs.declared.packets.Pid.TheVariants as pids
use Rattle.usb_base.specs.Acknowledgement.{pid_bits}
use Rattle.async_walk.specs.Walk.{Walk as RingWalk, IsWalk as IsRing, new_walk}
use Rattle.async_walk.specs.Parts.{ring_parts}
use Rattle.async_walk.proofs.Whole.{walk_back as ring_back}
use Rattle.periodic_walk.specs.Walk.{Walk as FrameWalk, IsWalk as IsFrame}
use Rattle.periodic_walk.specs.Parts.{frame_parts}
use Rattle.periodic_walk.proofs.Whole.{walk_back as frame_back}
use Rattle.hc_core.specs.declared.controller.MicroframePart.{MicroframePart}
use Rattle.hc_core.specs.Controller.{Control}
use Rattle.hc_microframe.specs.declared.whole.FrameWords.{FrameWords}
use Rattle.hc_microframe.specs.declared.whole.RingWords.{RingWords}
use Rattle.hc_microframe.specs.declared.whole.Whole.{Whole}
use Rattle.hc_microframe.specs.Answers.{pid_named}
use Rattle.hc_microframe.specs.Numbers.{heard_in, frame_parts_in, frame_in, ring_parts_in, ring_in, part_named, of_walks, control_of}

-- a packet identifier is named by its bits
pub pid_named_again : (pid : Pid) → pid_named (pid_bits pid) ≡ Some pid
pid_named_again pids.Out = refl
pid_named_again pids.In = refl
pid_named_again pids.Sof = refl
pid_named_again pids.Setup = refl
pid_named_again pids.Data0 = refl
pid_named_again pids.Data1 = refl
pid_named_again pids.Data2 = refl
pid_named_again pids.Mdata = refl
pid_named_again pids.Ack = refl
pid_named_again pids.Nak = refl
pid_named_again pids.Stall = refl
pid_named_again pids.Nyet = refl
pid_named_again pids.Err = refl
pid_named_again pids.Split = refl
pid_named_again pids.Ping = refl

-- numbers that say a walk's parts, what it heard and what it received are read as the walk
pub frame_whole : (w : FrameWords) (walk : FrameWalk) → IsFrame walk.cursor walk.hand walk.got → length walk.got ≤ 3072
    → frame_parts_in w ≡ frame_parts walk → heard_in w.heard ≡ walk.reply → take w.got_len w.got ≡ walk.got → frame_in w ≡ Some walk
frame_whole w walk is fits parts heard got =
    frame_back (frame_parts_in w) (heard_in w.heard) (take w.got_len w.got) walk is fits (sym parts) (sym heard) (sym got)

pub ring_whole : (w : RingWords) (walk : RingWalk) → IsRing walk.cursor walk.held → ring_parts_in w ≡ ring_parts walk
    → heard_in w.heard ≡ walk.reply → ring_in w ≡ Some walk
ring_whole w walk is parts heard = ring_back (ring_parts_in w) (heard_in w.heard) walk is (sym parts) (sym heard)

abbrev ring_anew : Control → Control
ring_anew c = record c { walk = new_walk }

-- with a walk of the ring that begins anew
with_new_ring : (part : MicroframePart) (frame : Option FrameWalk) (ring : Option RingWalk) (c : Control)
    → of_walks part frame ring ≡ Some c → of_walks part frame (Some new_walk) ≡ Some (record c { walk = new_walk })
with_new_ring part (Some f) (Some r) c e = ap (option_map ring_anew) e
with_new_ring part (Some f) None c e = absurd cc
with_new_ring part None ring c e = absurd cc

-- the walk of the ring begins anew, and all else stays
pub ring_begins : (s : Whole) (ring : RingWords) (c : Control) → ring_in ring ≡ Some new_walk → control_of s ≡ Some c
    → control_of (record s { ring = ring }) ≡ Some (record c { walk = new_walk })
ring_begins s ring c new is =
    ap (of_walks (part_named s.part) (frame_in s.frame)) new
    ∙ with_new_ring (part_named s.part) (frame_in s.frame) (ring_in s.ring) c is
