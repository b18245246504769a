-- What an event of the walk of the frames does to the streams of the endpoints of queue heads (EHCI 1.0, 4.6, 4.7, 4.10 and 4.12): as in
-- a ring nothing, or one transaction of one endpoint; or one of an isochronous descriptor, which tells nothing of them.
--     AsksIso addr ep dir_in ask   an isochronous transaction of this endpoint
--     IsIsoAsk parts ask           .. of an iTD or a siTD that stands there
--     FrameMovesStreams            each event does so; what is in hand is told as in a ring
use Rattle.std.specs.Prelude.{◌≡◌, ℕ, Bool, List, if◌then◌else◌, Option, Some}
use Rattle.usb_base.specs.declared.packets.Ask.{Ask}
use Rattle.usb_base.specs.declared.packets.EpKind.TheVariants.{Iso}
use Rattle.usb_base.specs.declared.packets.Pid.TheVariants.{In, Out}
use Rattle.usb_base.specs.declared.packets.Reply.{Reply}
use Rattle.itd_sitd.specs.declared.itd.Itd.{Itd}
use Rattle.itd_sitd.specs.declared.sitd.Sitd.{Sitd}
use Rattle.async_walk.specs.declared.state.WalkStep.{WalkStep}
use Rattle.periodic_walk.specs.Place.{FramePlace}
use Rattle.law_structures.specs.lent_structures.Structures.{Isochronous, SplitIsochronous, StructureSets}
use Rattle.law_ring.specs.Streams.{StreamEffect}
use Rattle.law_frames.specs.Met.{Kind}
use Rattle.law_frames.specs.FrameHand.{FrameHand, queue_hand}
use Rattle.law_frames.specs.Frame.{IsFrame}
use Rattle.law_frames.specs.FrameEffects.{FrameEffect}

pub record AsksIso (addr ep : ℕ) (dir_in : Bool) (ask : Ask) : Type 0 where
  pub kind : ask.kind ≡ Iso
  pub address : ask.addr ≡ addr
  pub number : ask.ep ≡ ep
  pub token : ask.pid ≡ (if dir_in then In else Out)

-- 3.3.3 and 3.4.2
pub data IsIsoAsk (parts : StructureSets) (ask : Ask) : Type 0 where
  of_itd : (n : ℕ) (v : Itd) → parts n n ≡ Some (Isochronous v) → AsksIso v.addr v.ep v.dir_in ask → IsIsoAsk parts ask
  of_sitd : (n : ℕ) (v : Sitd) → parts n n ≡ Some (SplitIsochronous v) → AsksIso v.addr v.ep v.dir_in ask → IsIsoAsk parts ask

abbrev pub FrameMovesStreams : {W : Type 0} → (W → Ask → List ℕ → Reply → W → Type 0) → Type 0
FrameMovesStreams {W} transacts = (met : ℕ → Option Kind) (parts : StructureSets) (hand : FrameHand) (p : FramePlace) (wire after : W)
    (now : StructureSets) (later : FrameHand) (kind : WalkStep)
    → IsFrame met parts hand p → FrameEffect transacts parts p.walk hand wire after now later kind
    → StreamEffect (IsIsoAsk parts) transacts parts (queue_hand hand) wire after now (queue_hand later)
