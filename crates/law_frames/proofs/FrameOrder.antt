-- An event of the walk of the frames leaves each queue head at a place among its qTDs, and no qTD from its old place on.
use Rattle.std.proofs.Common.{◌≡◌, ℕ, ◌≤◌, List, Option, Some, ap, sym, ◌∙◌}
use Rattle.usb_base.specs.declared.packets.Ask.{Ask}
use Rattle.usb_base.specs.declared.packets.Reply.{Reply}
use Rattle.qh_qtd.specs.declared.qtd.Qtd.{Qtd}
use Rattle.qh_qtd.specs.declared.queue_head.Qh.{Qh}
use Rattle.async_walk.specs.declared.state.WalkStep.{WalkStep}
use Rattle.periodic_walk.specs.Place.{FramePlace}
use Rattle.law_structures.specs.lent_structures.Structures.{QueueHead, Element, Structures, StructureSets}
use Rattle.law_ring.specs.Hand.{Copied, Settled}
use Rattle.law_ring.specs.Order.{IsOrdered}
use Rattle.law_ring.proofs.Adding.{Placed, same_placed, take_placed, take_before, write_placed, write_before}
use Rattle.law_frames.specs.Met.{Kind}
use Rattle.law_frames.specs.FrameHand.{came, settled_in, FrameHand, queue_hand}
use Rattle.law_frames.specs.Frame.{IsFrame}
use Rattle.law_frames.specs.FrameEffects.{WritesOne, of_queue, of_itd, of_sitd, FrameEffect}
use Rattle.law_frames.specs.FrameEffects.FrameEffect.{fetches, passes, ends, takes, makes, writes}
use Rattle.law_frames.proofs.Telling.{taken_there, writes_copy, itd_leaves, sitd_leaves}

module _ {W : Type 0} (transacts : W → Ask → List ℕ → Reply → W → Type 0) (met : ℕ → Option Kind) (parts : StructureSets)
    (hand : FrameHand) (p : FramePlace) (wire after : W) (now : StructureSets) (later : FrameHand) (k : IsFrame met parts hand p)
    (order : ℕ → ℕ) (place n : ℕ) (q : Qh) (head : parts n n ≡ Some (QueueHead q)) where
  unmoved : now n ≡ parts n → IsOrdered order place n (parts n) → Placed order place n now
  unmoved same_one o = same_placed order place n parts now o same_one

  written_placed : WritesOne parts p.walk hand now later → IsOrdered order place n (parts n) → Placed order place n now
  written_placed (of_queue r) o =
      write_placed parts (Settled r.copy (came r.settled)) now (queue_hand later) r.copy (came r.settled) (settled_in r.copy r.settled)
      (writes_copy transacts met parts hand p wire after now later k r) order place n o
  written_placed (of_itd r) o = unmoved (itd_leaves transacts met parts hand p wire after now later k r n q head) o
  written_placed (of_sitd r) o = unmoved (sitd_leaves transacts met parts hand p wire after now later k r n q head) o

  pub frame_placed : (kind : WalkStep) → FrameEffect transacts parts p.walk hand wire after now later kind
      → IsOrdered order place n (parts n) → Placed order place n now
  frame_placed _ (fetches none r all quiet) o = unmoved (ap (λ (ps : StructureSets). ps n) all) o
  frame_placed _ (passes un nothing all quiet) o = unmoved (ap (λ (ps : StructureSets). ps n) all) o
  frame_placed _ (ends none nothing all quiet) o = unmoved (ap (λ (ps : StructureSets). ps n) all) o
  frame_placed _ (takes r quiet) o = take_placed parts (Copied r.copy) now (Copied r.new) order place n r.takes
      (taken_there transacts met parts hand p wire after now later k r) o
  frame_placed _ (makes r all) o = unmoved (ap (λ (ps : StructureSets). ps n) all) o
  frame_placed _ (writes r quiet) o = written_placed r o

  abbrev Before : Type 0
  Before = (a : ℕ) (u : Qtd) → now n a ≡ Some (Element u) → place ≤ order a → parts n a ≡ Some (Element u)

  before_same : now n ≡ parts n → Before
  before_same same_one a u here from = ap (λ (part : Structures). part a) (sym same_one) ∙ here

  written_before : WritesOne parts p.walk hand now later → IsOrdered order place n (parts n) → Before
  written_before (of_queue r) o =
      write_before parts (Settled r.copy (came r.settled)) now (queue_hand later) r.copy (came r.settled) (settled_in r.copy r.settled)
      (writes_copy transacts met parts hand p wire after now later k r) order place n o
  written_before (of_itd r) o = before_same (itd_leaves transacts met parts hand p wire after now later k r n q head)
  written_before (of_sitd r) o = before_same (sitd_leaves transacts met parts hand p wire after now later k r n q head)

  pub frame_before : (kind : WalkStep) → FrameEffect transacts parts p.walk hand wire after now later kind
      → IsOrdered order place n (parts n) → (a : ℕ) (u : Qtd) → now n a ≡ Some (Element u) → place ≤ order a → parts n a ≡ Some (Element u)
  frame_before _ (fetches none r all quiet) o = before_same (ap (λ (ps : StructureSets). ps n) all)
  frame_before _ (passes un nothing all quiet) o = before_same (ap (λ (ps : StructureSets). ps n) all)
  frame_before _ (ends none nothing all quiet) o = before_same (ap (λ (ps : StructureSets). ps n) all)
  frame_before _ (takes r quiet) o = λ a u here from. take_before parts (Copied r.copy) now (Copied r.new) order place n r.takes
      (taken_there transacts met parts hand p wire after now later k r) a u here
  frame_before _ (makes r all) o = before_same (ap (λ (ps : StructureSets). ps n) all)
  frame_before _ (writes r quiet) o = written_before r o
