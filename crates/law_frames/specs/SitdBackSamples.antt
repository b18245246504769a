-- A siTD of worked rows: an IN in Do-Complete, whose complete-splits come in the microframes 2, 3 and 4, with two bytes left, from byte 96 of page 0 on. It
-- stands at 64 in 1,024 words, and its bytes in the block behind it.
--     sitd, pages, bytes     the siTD, its pages and the bytes of its buffer
--     met                    whom the walk meets
--     memory, parts          the words, and the structures that stand there
--     fetched, heard, moved  its copy, two bytes that came in microframe 2, and the copy then
use Rattle.std.specs.Prelude.{ℕ, true, false, List, [], ◌∷◌, ◌++◌, replicate, ◌==◌, if◌then◌else◌, Option, Some, None}
use Rattle.usb_base.specs.declared.packets.Reply.{Reply}
use Rattle.usb_base.specs.declared.packets.Reply.TheVariants.{Bytes}
use Rattle.usb_base.specs.declared.packets.Pid.TheVariants.{Data0}
use Rattle.word_mem.specs.Memory.{Mem, all_lent}
use Rattle.itd_sitd.specs.declared.sitd.Sitd.{Sitd}
use Rattle.itd_sitd.specs.Sitd.{sitd_words}
use Rattle.law_structures.specs.lent_structures.Structures.{Buffer, SplitIsochronous, StructureSets, put}
use Rattle.law_structures.specs.lent_structures.WriteBack.{Received, Into}
use Rattle.law_frames.specs.Met.{Kind, ASitd}
use Rattle.law_frames.specs.FrameHand.{SitdCopy, fetched_sitd_copy}
use Rattle.law_frames.specs.SitdBacks.{transacted}

abbrev pub sitd : Sitd
sitd = record {
  link = record { t = true; typ = 0; address = 0 };
  addr = 5;
  ep = 3;
  hub = 9;
  port = 2;
  dir_in = true;
  smask = 1;
  cmask = 28;
  split_state = true;
  missed = false;
  xact_err = false;
  babble = false;
  buffer_error = false;
  err = false;
  active = true;
  c_prog = 0;
  total = 2;
  page_select = false;
  ioc = true;
  offset = 96;
  page0 = 0;
  t_count = 0;
  tp = 0;
  page1 = 0;
  back = record { t = true; address = 0 };
}

abbrev pub pages : List ℕ
pages = 0 ∷ 0 ∷ []

abbrev pub bytes : List ℕ
bytes = 7 ∷ 9 ∷ []

abbrev pub met : ℕ → Option Kind
met a = if a == 64 then Some ASitd else None

abbrev pub memory : Mem
memory = all_lent (replicate 16 0 ++ sitd_words sitd ++ 0 ∷ (0x907 ∷ replicate 999 0))

abbrev pub nothing : StructureSets
nothing n a = None

abbrev pub parts : StructureSets
parts = put (put nothing 64 64 (SplitIsochronous sitd)) 64 96 (Buffer pages 96 bytes)

abbrev pub fetched : SitdCopy
fetched = fetched_sitd_copy 64 sitd

abbrev pub heard : Reply
heard = Bytes Data0 (5 ∷ 6 ∷ [])

abbrev pub moved : SitdCopy
moved = transacted 2 heard fetched

abbrev pub into : Received
into = Into pages 96 bytes 0
