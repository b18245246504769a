-- Both walks of worked rows, in 2,048 words: the halted head of a ring at 0, whose link leads to itself; the queue head of an interrupt endpoint at 64, which
-- rests, and whose link ends its chain; and from byte 4096 on a frame list, each of whose elements leads to it.
--     head, queue               the queue heads
--     elements                  the words of the frame list
--     memory, parts             the words, and the structures that stand there
--     member, met               whom the walk of the ring meets, and whom the walk of the frames
--     base, registers           both schedules are on
--     opening                   the controller before its first microframe
--     steps_on, is_deaf         a wire that counts microframes, and on which nothing is asked
use Rattle.std.specs.Prelude.{◌≡◌, ℕ, ◌+◌, Bool, true, false, ◌==◌, if◌then◌else◌, List, ◌++◌, replicate, Option, Some, None}
use Rattle.usb_base.specs.declared.packets.Ask.{Ask}
use Rattle.usb_base.specs.declared.packets.Reply.{Reply}
use Rattle.word_mem.specs.Memory.{Mem}
use Rattle.word_mem.specs.declared.blocks.BlockState.TheVariants.{Lent}
use Rattle.op_registers.specs.RegisterFile.{RegisterFile, reset_file}
use Rattle.qh_qtd.specs.Blank.{blank_token, blank_head}
use Rattle.qh_qtd.specs.declared.queue_head.Qh.{Qh}
use Rattle.qh_qtd.specs.QueueHead.{qh_words}
use Rattle.hc_core.specs.Controller.{Content, content, new_control}
use Rattle.law_structures.specs.lent_structures.Structures.{QueueHead, Table, StructureSets, put}
use Rattle.claims_base.specs.Controller.{Base}
use Rattle.law_frames.specs.Met.{Kind, AQueue}

abbrev pub head : Qh
head = record blank_head {
  link = record { t = false; typ = 1; address = 0 };
  eps = 2;
  head = true;
  max = 64;
  mult = 1;
  token = record blank_token { halted = true };
}

abbrev pub queue : Qh
queue = record blank_head { link = record { t = true; typ = 0; address = 0 }; addr = 5; ep = 1; eps = 2; max = 64; mult = 1; smask = 1 }

abbrev pub elements : List ℕ
elements = replicate 1024 66

abbrev pub front : List ℕ
front = qh_words head ++ (replicate 4 0 ++ (qh_words queue ++ replicate 996 0))

abbrev pub memory : Mem
memory = record { words = front ++ elements; states = replicate 256 Lent; foreign = 0 }

abbrev pub nothing : StructureSets
nothing n a = None

abbrev pub parts : StructureSets
parts = put (put (put nothing 0 0 (QueueHead head)) 64 64 (QueueHead queue)) 4096 4096 (Table elements)

abbrev pub member : ℕ → Bool
member n = n == 0

abbrev pub met : ℕ → Option Kind
met n = if n == 64 then Some AQueue else None

abbrev pub base : Base
base = record { run = true; async_enable = true; async_list_address = 0; periodic_enable = true; periodic_list_base = 4096; list_size = 0 }

abbrev pub registers : RegisterFile
registers = record reset_file { run = true; async_enable = true; periodic_enable = true; periodic_list_base = 4096 }

abbrev pub opening : Content
opening = content new_control registers memory

abbrev pub steps_on : ℕ → ℕ → Bool → ℕ → Type 0
steps_on n index allowed later = later ≡ n + 1

abbrev pub is_deaf : ℕ → Ask → List ℕ → Reply → ℕ → Type 0
is_deaf n ask out reply later = ⊥
