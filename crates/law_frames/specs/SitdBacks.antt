-- A siTD in hand over structures in memory (EHCI 1.0, 3.4, 4.12.3): what its transaction sends and receives.
--     IsSitdInHand met parts m reply c   memory is told by these structures, the siTD at hand is sound there, and the copy is one of it
--     transacted u reply c               the copy after its transaction in microframe u
--     missed c                           the copy of which a microframe was missed
--     AreRead part pages from n m        the n bytes from byte `from` of these pages on are read in full, and are those that go out
--     received_by c o reply              the bytes that its transaction received
--     AreReceivedBy parts c o reply into so they are put into its buffer
--     parts_after parts c o reply into    the parts after its write-back
--     IsCounted c o reply                the bytes that it has left then are less by just those that were moved; an IN received these, an OUT none
use Rattle.std.specs.Prelude.{◌≡◌, ℕ, ◌+◌, true, List, length, Option}
use Rattle.usb_base.specs.declared.packets.Reply.{Reply}
use Rattle.word_mem.specs.Memory.{Mem}
use Rattle.hc_copy.specs.Buffer.{bytes_read}
use Rattle.hc_iso.specs.declared.held.SplitOutcome.{SplitOutcome}
use Rattle.hc_iso.specs.Sitd.{sitd_place, sitd_copy, missed_copy}
use Rattle.hc_iso.specs.WriteBack.{sitd_pages, sitd_received, moved_by}
use Rattle.law_structures.specs.lent_structures.Structures.{Structures, StructureSets, Tells}
use Rattle.law_structures.specs.lent_structures.WriteBack.{Received}
use Rattle.law_frames.specs.Met.{Kind, IsMetSitd}
use Rattle.law_frames.specs.FrameHand.{SitdCopy}
use Rattle.law_frames.specs.Frame.{received_of, IsCopiedSitd}
use Rattle.law_frames.specs.FrameEffects.{AreOut, AreReceivedAt, sitd_back, sitd_parts}

pub record IsSitdInHand (met : ℕ → Option Kind) (parts : StructureSets) (m : Mem) (reply : Reply) (c : SitdCopy) : Type 0 where
  pub tells : Tells m parts
  pub is_met : IsMetSitd met c.held.at (parts c.held.at)
  pub copied : IsCopiedSitd met parts reply c

abbrev pub transacted : ℕ → Reply → SitdCopy → SitdCopy
transacted u reply c = record c { held = sitd_copy u reply c.held }

abbrev pub missed : SitdCopy → SitdCopy
missed c = record c { held = missed_copy c.held }

-- and none of them is refused
pub record AreRead (part : Structures) (pages : List ℕ) (from n : ℕ) (m : Mem) : Type 0 where
  pub out : List ℕ
  pub are : AreOut part pages from n out
  pub read : bytes_read pages from n m ≡ record { bytes = out; memory = m; all = true }

abbrev pub received_by : SitdCopy → SplitOutcome → Reply → List ℕ
received_by c o reply = sitd_received c.held.sitd.dir_in o reply

abbrev pub AreReceivedBy : StructureSets → SitdCopy → SplitOutcome → Reply → Received → Type 0
AreReceivedBy parts c o reply into = AreReceivedAt (parts c.held.at) (sitd_pages c.held.sitd) (sitd_place c.held.sitd) (received_by c o reply) into

abbrev pub parts_after : StructureSets → SitdCopy → SplitOutcome → Reply → Received → StructureSets
parts_after parts c o reply into = sitd_parts parts c (moved_by o) (received_by c o reply) into

pub record IsCounted (c : SitdCopy) (o : SplitOutcome) (reply : Reply) : Type 0 where
  pub count : length (received_by c o reply) ≡ received_of c.held.sitd.dir_in (moved_by o)
  pub left : (sitd_back c (moved_by o)).total + moved_by o ≡ c.sitd.total
