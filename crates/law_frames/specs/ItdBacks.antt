-- What a transaction of an iTD in hand sends, and what its write-back leaves of the structures in memory (EHCI 1.0, 3.3.2 and 4.7.1).
--     IsItdSent parts m c      the bytes that go out are those of its buffer, and the controller reads all of them
--     IsItdBack met parts m got c
--                              the bytes received are put into its buffer, the word of its microframe is written, and no write is refused; memory is
--                              told again, the iTD is sound again, and nothing else changed; its microframe notes just the bytes received
--     ItdIsSent, ItdIsWrittenBack  these of each iTD in hand that is met
use Rattle.std.specs.Prelude.{◌≡◌, ◌≢◌, ℕ, ◌+◌, true, List, length, Option}
use Rattle.word_mem.specs.Memory.{Mem}
use Rattle.itd_sitd.specs.Itd.{slot_of}
use Rattle.hc_iso.specs.Itd.{itd_transaction}
use Rattle.hc_iso.specs.WriteBack.{itd_pages, slot_place, itd_sending, itd_written}
use Rattle.law_structures.specs.lent_structures.Structures.{StructureSets, Tells}
use Rattle.law_structures.specs.lent_structures.WriteBack.{Received}
use Rattle.law_frames.specs.Met.{Kind, IsMetItd}
use Rattle.law_frames.specs.FrameHand.{ItdCopy}
use Rattle.law_frames.specs.Frame.{received_of, IsCopiedItd}
use Rattle.law_frames.specs.FrameEffects.{AreOut, AreReceivedAt, itd_back, itd_parts}

pub record IsItdSent (parts : StructureSets) (m : Mem) (c : ItdCopy) : Type 0 where
  pub out : List ℕ
  pub sent : AreOut (parts c.held.at) (itd_pages c.held.itd) (slot_place c.held.slot + c.held.moved) (itd_transaction c.held).bytes out
  pub read : itd_sending (itd_transaction c.held) c.held m ≡ record { bytes = out; memory = m; all = true }

pub record IsItdBack (met : ℕ → Option Kind) (parts : StructureSets) (m : Mem) (got : List ℕ) (c : ItdCopy) : Type 0 where
  pub into : Received
  pub received_is : AreReceivedAt (parts c.held.at) (itd_pages c.held.itd) (slot_place c.held.slot) got into
  pub count : length got ≡ received_of c.held.itd.dir_in (slot_of c.held.number (itd_back c)).length
  pub all : (itd_written c.held got m).all ≡ true
  pub tells : Tells (itd_written c.held got m).memory (itd_parts parts c got into)
  pub met_is : IsMetItd met c.held.at (itd_parts parts c got into c.held.at)
  pub beside : (n : ℕ) → n ≢ c.held.at → itd_parts parts c got into n ≡ parts n

-- its microframe is active
abbrev pub ItdIsSent : Type 0
ItdIsSent = (met : ℕ → Option Kind) (parts : StructureSets) (m : Mem) (got : List ℕ) (c : ItdCopy) → Tells m parts → IsMetItd met c.held.at (parts c.held.at)
    → IsCopiedItd met parts got c → c.held.slot.active ≡ true → IsItdSent parts m c

abbrev pub ItdIsWrittenBack : Type 0
ItdIsWrittenBack = (met : ℕ → Option Kind) (parts : StructureSets) (m : Mem) (got : List ℕ) (c : ItdCopy) → Tells m parts → IsMetItd met c.held.at (parts c.held.at)
    → IsCopiedItd met parts got c → IsItdBack met parts m got c
