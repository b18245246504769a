-- One queue head that rests, and whose its words are (EHCI 1.0, 3.6 and 4.10.4).
--     queue_words    a queue head at the address 0: its link leads to itself, its overlay is neither active nor halted, and no qTD comes
-- next; four
--                    words of 0 after it
--     one_queue      a memory of it, and behind it a frame list that leads nowhere
--     over c m       the content over a memory, between two microframes
--     at_rest c      the content over it, between two microframes
--     working_words, one_working, at_work c
--                    the same of one that works: one byte is still to come in, at the byte address 4096
use Rattle.std.specs.Prelude.{◌≡◌, ℕ, List, [], ◌∷◌, ◌++◌, length, replicate, None}
use Rattle.word_mem.specs.declared.blocks.BlockState.TheVariants.{Lent}
use Rattle.word_mem.specs.Memory.{Mem, with_word}
use Rattle.word_mem.specs.Views.{with_words}
use Rattle.mem_queues.specs.Structures.{overlay_written}
use Rattle.async_walk.specs.declared.state.Cursor.TheVariants.{Start}
use Rattle.hc_core.specs.declared.controller.MicroframePart.TheVariants.{Over}
use Rattle.hc_core.specs.Controller.{Content}
use Rattle.claims_world.specs.Owners.{IsControllers, WritesItsOwn, LeavesControllers}

abbrev pub queue_words : List ℕ
queue_words = 2 ∷ 0x42002101 ∷ 0x40000000 ∷ 0 ∷ 1 ∷ 1 ∷ 0 ∷ 0 ∷ 0 ∷ 0 ∷ 0 ∷ 0 ∷ 0 ∷ 0 ∷ 0 ∷ 0 ∷ []

abbrev pub one_queue : Mem
one_queue = record { words = queue_words ++ replicate 1024 1; states = replicate 130 Lent; foreign = 0 }

abbrev pub over : Content → Mem → Content
over c m = record c {
  memory = m;
  registers = record c.registers { async_list_address = 0; periodic_list_base = 64 };
  control = record c.control { part = Over; walk = record c.control.walk { cursor = Start; held = None } };
}

abbrev pub at_rest : Content → Content
at_rest c = over c one_queue

-- its token is the controller's, its link isn't
abbrev pub TokenIsControllers : Type 0
TokenIsControllers = (c : Content) → IsControllers (at_rest c) 24

abbrev pub LinkIsNot : Type 0
LinkIsNot = (c : Content) → IsControllers (at_rest c) 0 → ⊥

-- a write-back writes nine words
abbrev pub NineWordsAreItsOwn : Type 0
NineWordsAreItsOwn = (c : Content) (ws : List ℕ) → length ws ≡ 9 → WritesItsOwn (at_rest c) (overlay_written one_queue 0 ws)

abbrev pub TwelveWordsAreNot : Type 0
TwelveWordsAreNot = (c : Content) → WritesItsOwn (at_rest c) (with_words one_queue 0 (replicate 12 7)) → ⊥

-- the driver stores links, and no token of an overlay that isn't halted
abbrev pub LinkStoreLeaves : Type 0
LinkStoreLeaves = (c : Content) (v : ℕ) → LeavesControllers (at_rest c) (with_word one_queue 0 v)

abbrev pub TokenStoreTakes : Type 0
TokenStoreTakes = (c : Content) → LeavesControllers (at_rest c) (with_word one_queue 24 0x80) → ⊥

-- ---- one that works

-- the token is active, an IN, with one byte left; the buffer begins at the second page, and where the current qTD should stand none does
abbrev pub working_words : List ℕ
working_words = 2 ∷ 0x42002101 ∷ 0x40000000 ∷ 0x80 ∷ 1 ∷ 1 ∷ 0x10180 ∷ 0x1000 ∷ 0 ∷ 0 ∷ 0 ∷ 0 ∷ 0 ∷ 0 ∷ 0 ∷ 0 ∷ []

abbrev pub one_working : Mem
one_working = record { words = working_words ++ replicate 1024 1; states = replicate 130 Lent; foreign = 0 }

abbrev pub at_work : Content → Content
at_work c = over c one_working

abbrev pub LastByteIsItsOwn : Type 0
LastByteIsItsOwn = (c : Content) (v : ℕ) → WritesItsOwn (at_work c) (with_word one_working 4096 v)

abbrev pub ByteBehindIsNot : Type 0
ByteBehindIsNot = (c : Content) → WritesItsOwn (at_work c) (with_word one_working 4100 7) → ⊥
