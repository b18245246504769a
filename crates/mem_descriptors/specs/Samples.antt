-- Small memories for worked rows. Block 0 is Kept, and its words are 7. A structure begins in block 1, at byte address 32. Five
-- refusals were counted.
--     itd_memory ws s t      sixteen words of an iTD in the blocks 1 and 2, of the states s and t
--     sitd_memory ws s       seven words of a siTD in block 1, of the state s; after them one word is 9
--     full_words, full_itd   an iTD of an endpoint that sends up to three packets a microframe, with its microframes 0, 2 and 7 in use
--     split_words, split_sitd  a siTD in the middle of a split transaction
use Rattle.std.specs.Prelude.{ℕ, true, false, List, [], ◌∷◌, ◌++◌, replicate}
use Rattle.word_mem.specs.Memory.{Mem}
use Rattle.word_mem.specs.declared.blocks.BlockState.{BlockState}
use Rattle.word_mem.specs.declared.blocks.BlockState.TheVariants.{Kept}
use Rattle.itd_sitd.specs.declared.slot.ItdSlot.{ItdSlot}
use Rattle.itd_sitd.specs.declared.itd.Itd.{Itd}
use Rattle.itd_sitd.specs.declared.sitd.Sitd.{Sitd}
use Rattle.itd_sitd.specs.Slot.{no_slot}

abbrev pub itd_memory : List ℕ → BlockState → BlockState → Mem
itd_memory ws s t = record { words = replicate 8 7 ++ ws; states = Kept ∷ s ∷ t ∷ []; foreign = 5 }

abbrev pub sitd_memory : List ℕ → BlockState → Mem
sitd_memory ws s = record { words = replicate 8 7 ++ (ws ++ 9 ∷ []); states = Kept ∷ s ∷ []; foreign = 5 }

-- ---- an iTD

abbrev pub full_words : List ℕ
full_words = 0x12340 ∷ 0x8400A123 ∷ 0 ∷ 0x7FFF6FFF ∷ 0 ∷ 0 ∷ 0 ∷ 0 ∷ 0x10000 ∷ 0x1234597F ∷ 0x6789AC00 ∷ 0xBCDEF003 ∷ 0x10000 ∷ 0x20000 ∷ 0xFFFFF000 ∷ 0 ∷ []

abbrev pub first_slot : ItdSlot
first_slot = record {
  offset = 0x123;
  pg = 2;
  ioc = true;
  length = 0x400;
  xact_err = false;
  babble = false;
  buffer_error = false;
  active = true;
}

abbrev pub third_slot : ItdSlot
third_slot = record {
  offset = 0xFFF;
  pg = 6;
  ioc = false;
  length = 0xFFF;
  xact_err = true;
  babble = true;
  buffer_error = true;
  active = false;
}

abbrev pub full_itd : Itd
full_itd = record {
  link = record { t = false; typ = 0; address = 0x12340 };
  slots = first_slot ∷ no_slot ∷ third_slot ∷ no_slot ∷ no_slot ∷ no_slot ∷ no_slot ∷ record no_slot { length = 1 } ∷ [];
  addr = 0x7F;
  ep = 9;
  page0 = 0x12345;
  max = 0x400;
  dir_in = true;
  page1 = 0x6789A;
  multi = 3;
  page2 = 0xBCDEF;
  page3 = 0x10;
  page4 = 0x20;
  page5 = 0xFFFFF;
  page6 = 0;
}

-- ---- a siTD

abbrev pub split_words : List ℕ
split_words = 0x12344 ∷ 0x97160B13 ∷ 0x3C81 ∷ 0xC2BCA586 ∷ 0xABCDE123 ∷ 0x1234500D ∷ 0x20061 ∷ []

abbrev pub split_sitd : Sitd
split_sitd = record {
  link = record { t = false; typ = 2; address = 0x12340 };
  addr = 0x13;
  ep = 0xB;
  hub = 0x16;
  port = 0x17;
  dir_in = true;
  smask = 0x81;
  cmask = 0x3C;
  split_state = true;
  missed = true;
  xact_err = false;
  babble = false;
  buffer_error = false;
  err = false;
  active = true;
  c_prog = 0xA5;
  total = 0x2BC;
  page_select = true;
  ioc = true;
  offset = 0x123;
  page0 = 0xABCDE;
  t_count = 5;
  tp = 1;
  page1 = 0x12345;
  back = record { t = true; address = 0x20060 };
}
