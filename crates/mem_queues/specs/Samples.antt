-- Small memories for worked rows. Block 0 is Kept, and its words are 7. A structure begins in block 1, at byte address 32. Five
-- refusals were counted.
--     head_memory ws s t      twelve words of a queue head in the blocks 1 and 2, of the states s and t; after them four words are 9
--     qtd_memory ws s         eight words of a qTD in block 1, of the state s
--     nine_words              nine words to write as an overlay
--     split_words, split_head        a queue head in the middle of a split transaction: its words, and its fields
--     last_words, last_qtd           an active qTD that ends its list
use Rattle.std.specs.Prelude.{ℕ, true, false, List, [], ◌∷◌, ◌++◌, replicate}
use Rattle.word_mem.specs.Memory.{Mem}
use Rattle.word_mem.specs.declared.blocks.BlockState.{BlockState}
use Rattle.word_mem.specs.declared.blocks.BlockState.TheVariants.{Kept}
use Rattle.qh_qtd.specs.Blank.{blank_token, blank_qtd}
use Rattle.qh_qtd.specs.declared.token.Token.{Token}
use Rattle.qh_qtd.specs.declared.qtd.Qtd.{Qtd}
use Rattle.qh_qtd.specs.declared.queue_head.Qh.{Qh}

abbrev pub head_memory : List ℕ → BlockState → BlockState → Mem
head_memory ws s t = record { words = replicate 8 7 ++ (ws ++ replicate 4 9); states = Kept ∷ s ∷ t ∷ []; foreign = 5 }

abbrev pub qtd_memory : List ℕ → BlockState → Mem
qtd_memory ws s = record { words = replicate 8 7 ++ ws; states = Kept ∷ s ∷ []; foreign = 5 }

abbrev pub nine_words : List ℕ
nine_words = 11 ∷ 12 ∷ 13 ∷ 14 ∷ 15 ∷ 16 ∷ 17 ∷ 18 ∷ 19 ∷ []

abbrev pub split_words : List ℕ
split_words = 0x12344 ∷ 0xA2BCDB93 ∷ 0xCB963C81 ∷ 0x20040 ∷ 0x30061 ∷ 0x40096 ∷ 0x92349E35 ∷ 0xABCDE123 ∷ 0x123450A5 ∷ 0x6789AF6D ∷ 0xFEDCB000 ∷ 0x1000 ∷ []

abbrev pub split_token : Token
split_token = record blank_token {
  ping = true;
  missed = true;
  babble = true;
  buffer_error = true;
  pid = 2;
  cerr = 3;
  c_page = 1;
  ioc = true;
  total = 0x1234;
  toggle = true;
}

abbrev pub split_head : Qh
split_head = record {
  link = record { t = false; typ = 2; address = 0x12340 };
  addr = 0x13;
  inactivate = true;
  ep = 0xB;
  eps = 1;
  dtc = true;
  head = true;
  max = 0x2BC;
  control = false;
  rl = 0xA;
  smask = 0x81;
  cmask = 0x3C;
  hub = 0x16;
  port = 0x17;
  mult = 3;
  current = 0x20040;
  next = record { t = true; address = 0x30060 };
  alternate = record { t = false; address = 0x40080 };
  nak_cnt = 0xB;
  token = split_token;
  offset = 0x123;
  page0 = 0xABCDE;
  c_prog = 0xA5;
  page1 = 0x12345;
  frame_tag = 0xD;
  s_bytes = 0x7B;
  page2 = 0x6789A;
  page3 = 0xFEDCB;
  page4 = 1;
}

abbrev pub last_words : List ℕ
last_words = 1 ∷ 0x2041 ∷ 0x2004D80 ∷ 0x10A00 ∷ 0x20000 ∷ 0x30000 ∷ 0x40000 ∷ 0xFFFFF000 ∷ []

abbrev pub last_token : Token
last_token = record blank_token { active = true; pid = 1; cerr = 3; c_page = 4; total = 0x200 }

abbrev pub last_qtd : Qtd
last_qtd = record blank_qtd {
  alternate = record { t = true; address = 0x2040 };
  token = last_token;
  offset = 0xA00;
  page0 = 0x10;
  page1 = 0x20;
  page2 = 0x30;
  page3 = 0x40;
  page4 = 0xFFFFF;
}
