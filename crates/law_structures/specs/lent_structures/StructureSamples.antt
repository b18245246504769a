-- A small memory of worked rows: a queue head at 0, its qTD at 64 and a buffer of two bytes from byte 100 of page 0 on, in 1,024 words.
--     queue, element     the queue head, which works on the qTD, and the qTD
--     bytes              the bytes of the buffer
--     memory             with all of them
--     nothing, parts     no structure at all, and those of the queue head
use Rattle.std.specs.Prelude.{ℕ, true, false, List, [], ◌∷◌, ◌++◌, replicate, None}
use Rattle.word_mem.specs.Memory.{Mem, all_lent}
use Rattle.qh_qtd.specs.Blank.{blank_token, blank_qtd, blank_head}
use Rattle.qh_qtd.specs.declared.token.Token.{Token}
use Rattle.qh_qtd.specs.declared.qtd.Qtd.{Qtd}
use Rattle.qh_qtd.specs.declared.queue_head.Qh.{Qh}
use Rattle.qh_qtd.specs.Qtd.{qtd_words}
use Rattle.qh_qtd.specs.QueueHead.{qh_words}
use Rattle.law_structures.specs.lent_structures.Structures.{QueueHead, Element, Buffer, StructureSets, put}

abbrev pub token : Token
token = record blank_token { active = true; pid = 1; cerr = 3; total = 2 }

abbrev pub queue : Qh
queue = record blank_head {
  link = record { t = false; typ = 1; address = 0 };
  addr = 5;
  ep = 1;
  eps = 2;
  max = 512;
  mult = 1;
  current = 64;
  token = token;
  offset = 100;
}

abbrev pub element : Qtd
element = record blank_qtd { token = token; offset = 100 }

abbrev pub bytes : List ℕ
bytes = 7 ∷ 9 ∷ []

abbrev pub pages : List ℕ
pages = 0 ∷ 0 ∷ 0 ∷ 0 ∷ 0 ∷ []

abbrev pub memory : Mem
memory = all_lent (qh_words queue ++ replicate 4 0 ++ qtd_words element ++ (0 ∷ 0x907 ∷ replicate 998 0))

abbrev pub nothing : StructureSets
nothing n a = None

abbrev pub parts : StructureSets
parts = put (put (put nothing 0 0 (QueueHead queue)) 0 64 (Element element)) 0 100 (Buffer pages 100 bytes)
