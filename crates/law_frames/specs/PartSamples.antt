-- A frame of worked rows: its chain is an iTD at 64, whose microframe 2 is active with two bytes from byte 192 of page 0 on, and then a queue head of an
-- interrupt endpoint at 128, which rests. They stand in 1,024 words, the element that leads to the iTD in the first of them.
--     itd, queue             the two structures
--     bytes                  the bytes of the iTD's buffer
--     met                    whom the walk meets
--     memory, parts          the words, and the structures that stand there
--     begun, at              the walk in microframe 2 of frame 0, before anything was read, and its place
--     in_hand, fetched       what is in hand once the iTD was read, and the walk's place then
--     heard, moved           its two bytes, and the copy once they came
use Rattle.std.specs.Prelude.{ℕ, true, false, List, [], ◌∷◌, ◌++◌, replicate, ◌==◌, if◌then◌else◌, Option, Some, None}
use Rattle.usb_base.specs.declared.packets.Reply.{Reply}
use Rattle.usb_base.specs.declared.packets.Reply.TheVariants.{Bytes}
use Rattle.usb_base.specs.declared.packets.Pid.TheVariants.{Data0}
use Rattle.word_mem.specs.Memory.{Mem, all_lent}
use Rattle.link_words.specs.declared.kinds.Link.TheVariants as links
use Rattle.op_registers.specs.RegisterFile.{reset_file}
use Rattle.qh_qtd.specs.Blank.{blank_head}
use Rattle.qh_qtd.specs.declared.queue_head.Qh.{Qh}
use Rattle.qh_qtd.specs.QueueHead.{qh_words}
use Rattle.itd_sitd.specs.declared.itd.Itd.{Itd}
use Rattle.itd_sitd.specs.Slot.{no_slot}
use Rattle.itd_sitd.specs.Itd.{itd_words}
use Rattle.hc_iso.specs.Itd.{itd_after}
use Rattle.periodic_walk.specs.declared.state.Hand.TheVariants as hands
use Rattle.periodic_walk.specs.Walk.{Walk, new_walk, begun as begun_at}
use Rattle.periodic_walk.specs.Place.{FramePlace, place}
use Rattle.law_structures.specs.lent_structures.Structures.{QueueHead, Buffer, Isochronous, StructureSets, put}
use Rattle.law_frames.specs.Met.{Kind, AQueue, AnItd}
use Rattle.law_frames.specs.FrameHand.{ItdCopy, fetched_itd_copy}

abbrev pub itd : Itd
itd = record {
  link = record { t = false; typ = 1; address = 128 };
  slots = no_slot ∷ no_slot ∷ record no_slot { offset = 192; length = 2; active = true } ∷ no_slot ∷ no_slot ∷ no_slot ∷ no_slot ∷ no_slot ∷ [];
  addr = 5;
  ep = 3;
  page0 = 0;
  max = 64;
  dir_in = true;
  page1 = 0;
  multi = 1;
  page2 = 0;
  page3 = 0;
  page4 = 0;
  page5 = 0;
  page6 = 0;
}

abbrev pub queue : Qh
queue = record blank_head { link = record { t = true; typ = 0; address = 0 }; addr = 5; ep = 1; eps = 2; max = 64; mult = 1; smask = 1 }

abbrev pub bytes : List ℕ
bytes = 7 ∷ 9 ∷ []

abbrev pub pages : List ℕ
pages = replicate 7 0

abbrev pub met : ℕ → Option Kind
met a = if a == 64 then Some AnItd else if a == 128 then Some AQueue else None

abbrev pub memory : Mem
memory = all_lent (64 ∷ replicate 15 0 ++ itd_words itd ++ qh_words queue ++ replicate 4 0 ++ (0x907 ∷ replicate 975 0))

abbrev pub nothing : StructureSets
nothing n a = None

abbrev pub parts : StructureSets
parts = put (put (put nothing 64 64 (Isochronous itd)) 128 128 (QueueHead queue)) 64 192 (Buffer pages 192 bytes)

abbrev pub begun : Walk
begun = begun_at new_walk (links.Itd 64) 2 1000000

abbrev pub at : FramePlace
at = place begun reset_file memory

abbrev pub in_hand : ItdCopy
in_hand = fetched_itd_copy 64 2 itd

abbrev pub fetched : FramePlace
fetched = place (record begun { cursor = links.Itd 64; hand = Some (hands.Itd in_hand.held) }) reset_file memory

abbrev pub heard : Reply
heard = Bytes Data0 (5 ∷ 6 ∷ [])

abbrev pub moved : ItdCopy
moved = record in_hand { held = itd_after heard in_hand.held }
