-- A worked ring in 1,024 words: the halted head at 0, a queue head at 64, its qTD at 128 and a buffer of two bytes from byte 160 of page 0 on. The
-- queue head works on its qTD, the walk is at the start of the ring, and nothing is in hand.
--     head, queue, element, bytes   the structures
--     memory                        with all of them
--     parts, member                 the structures by owner and name, and whom the walk may meet
--     ring                          the place of the walk
use Rattle.std.specs.Prelude.{ℕ, Bool, true, false, ◌||◌, ◌==◌, List, [], ◌∷◌, ◌++◌, replicate, None}
use Rattle.word_mem.specs.Memory.{Mem, all_lent}
use Rattle.op_registers.specs.RegisterFile.{RegisterFile, reset_file}
use Rattle.qh_qtd.specs.Blank.{blank_token, blank_qtd, blank_head}
use Rattle.qh_qtd.specs.declared.token.Token.{Token}
use Rattle.qh_qtd.specs.declared.qtd.Qtd.{Qtd}
use Rattle.qh_qtd.specs.declared.queue_head.Qh.{Qh}
use Rattle.qh_qtd.specs.Qtd.{qtd_words}
use Rattle.qh_qtd.specs.QueueHead.{qh_words}
use Rattle.async_walk.specs.Walk.{new_walk}
use Rattle.async_walk.specs.Rows.{WalkPlace}
use Rattle.law_structures.specs.lent_structures.Structures.{QueueHead, Element, Buffer, StructureSets, put}
use Rattle.claims_base.specs.Controller.{Base}

abbrev pub head : Qh
head = record blank_head {
  link = record { t = false; typ = 1; address = 64 };
  eps = 2;
  head = true;
  max = 64;
  mult = 1;
  token = record blank_token { halted = true };
}

abbrev pub token : Token
token = record blank_token { active = true; pid = 1; cerr = 3; total = 2 }

abbrev pub queue : Qh
queue = record blank_head {
  link = record { t = false; typ = 1; address = 0 };
  addr = 5;
  ep = 1;
  eps = 2;
  max = 512;
  mult = 1;
  current = 128;
  token = token;
  offset = 160;
}

abbrev pub element : Qtd
element = record blank_qtd { token = token; offset = 160 }

abbrev pub bytes : List ℕ
bytes = 7 ∷ 9 ∷ []

abbrev pub pages : List ℕ
pages = 0 ∷ 0 ∷ 0 ∷ 0 ∷ 0 ∷ []

abbrev pub memory : Mem
memory = all_lent (qh_words head ++ replicate 4 0 ++ qh_words queue ++ replicate 4 0 ++ qtd_words element ++ (0x907 ∷ replicate 983 0))

abbrev pub nothing : StructureSets
nothing n a = None

abbrev pub parts : StructureSets
parts = put (put (put (put nothing 0 0 (QueueHead head)) 64 64 (QueueHead queue)) 64 128 (Element element)) 64 160 (Buffer pages 160 bytes)

abbrev pub member : ℕ → Bool
member n = n == 0 || n == 64

abbrev pub base : Base
base = record { run = true; async_enable = true; async_list_address = 0; periodic_enable = false; periodic_list_base = 0; list_size = 0 }

abbrev pub registers : RegisterFile
registers = record reset_file { run = true; async_enable = true }

abbrev pub ring : WalkPlace
ring = record { walk = new_walk; registers = registers; memory = memory }
