-- What an event of the periodic part reads and changes, and what one of them is over a wire of which only a relation is known.
use Rattle.std.specs.Prelude.{◌≡◌, ℕ, Bool, true, false, List, None, Some}
use Rattle.usb_base.specs.declared.packets.Ask.{Ask}
use Rattle.usb_base.specs.declared.packets.Reply.{Reply}
use Rattle.word_mem.specs.Memory.{Mem}
use Rattle.link_words.specs.declared.fields.LinkBits.{LinkBits}
use Rattle.link_words.specs.Links.{link_of}
use Rattle.op_registers.specs.RegisterFile.{RegisterFile}
use Rattle.op_registers.specs.Events.{after_fault}
use Rattle.periodic_walk.specs.declared.state.Hand.{Hand}
use Rattle.periodic_walk.specs.Walk.{Walk, stopped}

pub record FramePlace : Type 0 where
  pub walk : Walk
  pub registers : RegisterFile
  pub memory : Mem

abbrev pub place : Walk → RegisterFile → Mem → FramePlace
place w r m = record { walk = w; registers = r; memory = m }

-- a structure was read, which leaves memory so
abbrev pub reading : Mem → FramePlace → FramePlace
reading m p = record p { memory = m }

-- the fault (4.15.2.4)
abbrev pub faulted : FramePlace → FramePlace
faulted p = record p { walk = stopped p.walk; registers = after_fault p.registers }

-- this copy is in hand
abbrev pub holding : Hand → Walk → Walk
holding hand w = record w { hand = Some hand }

-- the visit is over: the copy's link comes next
abbrev pub passed : LinkBits → Walk → Walk
passed link w = record w { cursor = link_of link; hand = None }

abbrev pub passing : LinkBits → FramePlace → FramePlace
passing link p = record p { walk = passed link p.walk }

-- ---- what an event does

-- it leaves this place; or it asks the wire this, once, and leaves what the reply makes of it
pub data Effect : Type 0 where
  Leaves : FramePlace → Effect
  Asks : Ask → List ℕ → (Reply → FramePlace) → Effect

-- by whether all bytes that go out were read: else that is the fault, and nothing is asked
abbrev pub sent : Bool → Ask → List ℕ → (Reply → FramePlace) → FramePlace → Effect
sent true ask out left_by p = Asks ask out left_by
sent false ask out left_by p = Leaves (faulted p)

-- ---- the wire

-- exactly this was asked, once, and the place is what its reply leaves
pub record IsAsked {W : Type 0} (transacts : W → Ask → List ℕ → Reply → W → Type 0) (ask : Ask) (out : List ℕ) (left_by : Reply → FramePlace) (before : W) (new : FramePlace) (after : W) : Type 0 where
  pub reply : Reply
  pub made : transacts before ask out reply after
  pub place : new ≡ left_by reply

abbrev pub HasEffect : {W : Type 0} → (W → Ask → List ℕ → Reply → W → Type 0) → Effect → W → FramePlace → W → Type 0
HasEffect transacts (Leaves p) before new after = (new ≡ p) × (after ≡ before)
HasEffect transacts (Asks ask out left_by) before new after = IsAsked transacts ask out left_by before new after
