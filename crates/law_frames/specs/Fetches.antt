-- What an event of the walk of the frames reads while nothing is in hand (EHCI 1.0, 4.6 and 4.7.1).
--     ReadsAt parts w l kind later   the link l names a structure that stands there, and later its copy is in hand; or the chain ends there
--     LeavesRead ..                  an event does so, and the walk's cursor leads to what it read
--     CursorIsRead transacts         each event of a frame does so, by its cursor
use Rattle.std.specs.Prelude.{◌≡◌, ℕ, List, Option, Some}
use Rattle.usb_base.specs.declared.packets.Ask.{Ask}
use Rattle.usb_base.specs.declared.packets.Reply.{Reply}
use Rattle.link_words.specs.declared.kinds.Link.{Link}
use Rattle.link_words.specs.declared.kinds.Link.TheVariants as links
use Rattle.qh_qtd.specs.declared.queue_head.Qh.{Qh}
use Rattle.itd_sitd.specs.declared.itd.Itd.{Itd}
use Rattle.itd_sitd.specs.declared.sitd.Sitd.{Sitd}
use Rattle.hc_interrupt.specs.Turns.{microframe_of}
use Rattle.async_walk.specs.declared.state.WalkStep.{WalkStep}
use Rattle.async_walk.specs.declared.state.WalkStep.TheVariants as steps
use Rattle.periodic_walk.specs.Walk.{Walk}
use Rattle.periodic_walk.specs.Place.{FramePlace}
use Rattle.periodic_walk.specs.Rows.{step_of, Leads}
use Rattle.law_structures.specs.lent_structures.Structures.{QueueHead, Isochronous, SplitIsochronous, StructureSets}
use Rattle.law_frames.specs.Met.{Kind}
use Rattle.law_frames.specs.FrameHand.{FrameHand, Nothing, OfQueue, OfItd, OfSitd, frame_held, fetched_copy, fetched_itd_copy, fetched_sitd_copy}
use Rattle.law_frames.specs.Frame.{IsFrame}

-- an iTD is read for the microframe of the walk
pub data ReadsAt (parts : StructureSets) (w : Walk) : Link → WalkStep → FrameHand → Type 0 where
  ends : ReadsAt parts w links.End steps.Ended Nothing
  a_queue : (a : ℕ) (q : Qh) → parts a a ≡ Some (QueueHead q) → ReadsAt parts w (links.Qh a) steps.Fetch (OfQueue (fetched_copy a q) 0)
  an_itd : (a : ℕ) (v : Itd) → parts a a ≡ Some (Isochronous v) → ReadsAt parts w (links.Itd a) steps.Fetch (OfItd (fetched_itd_copy a (microframe_of w.index) v))
  a_sitd : (a : ℕ) (v : Sitd) → parts a a ≡ Some (SplitIsochronous v) → ReadsAt parts w (links.Sitd a) steps.Fetch (OfSitd (fetched_sitd_copy a v))

pub record LeavesRead (parts : StructureSets) (p new : FramePlace) (kind : WalkStep) : Type 0 where
  pub later : FrameHand
  pub reads : ReadsAt parts p.walk p.walk.cursor kind later
  pub in_hand : new.walk.hand ≡ frame_held later
  pub cursor : new.walk.cursor ≡ p.walk.cursor
  pub memory : new.memory ≡ p.memory
  pub registers : new.registers ≡ p.registers

abbrev pub CursorIsRead : {W : Type 0} → (W → Ask → List ℕ → Reply → W → Type 0) → Type 0
CursorIsRead {W} transacts = (met : ℕ → Option Kind) (parts : StructureSets) (p : FramePlace) (wire : W) (new : FramePlace) (after : W) → IsFrame met parts Nothing p
    → Leads transacts p wire new after → LeavesRead parts p new (step_of p)
