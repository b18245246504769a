-- The host when its driver was built (EHCI 1.0, 4.1 and 4.8): the frame list in the first page, each element 00000001h; right after it the
-- head, the halted ring of one; both lent; and the registers written, USBCMD last.
--     opening n room        driver, registers and memory of n words
use Rattle.std.specs.Prelude.{ℕ, ◌/◌, [], ◌∷◌, replicate, slice_set}
use Rattle.usb_base.specs.Limits.{frame_list_length}
use Rattle.word_mem.specs.Runs.{Run}
use Rattle.word_mem.specs.Memory.{Mem, fresh, with_states}
use Rattle.word_mem.specs.Views.{with_words}
use Rattle.word_mem.specs.declared.blocks.BlockState.TheVariants.{Lent}
use Rattle.qh_qtd.specs.QueueHead.{qh_words}
use Rattle.op_registers.specs.RegisterFile.{RegisterFile, reset_file}
use Rattle.op_registers.specs.Table.{after_writes}
use Rattle.mem_runs.specs.Book.{Book}
use Rattle.mem_runs.specs.declared.slots.Slot.TheVariants.{Empty, Lends}
use Rattle.drv_table.specs.declared.content.Reserve.{Reserve}
use Rattle.drv_table.specs.DriverContent.{new_driver}
use Rattle.drv_table.specs.Words.{head_block, opening_head}
use Rattle.drv_table.specs.Parts.{Parts}
use Rattle.drv_table.specs.Leaving.{opening_command}

-- the run of the frame list: a page of 1,024 elements (3.1)
abbrev pub list_run : Run
list_run = record { first = 0; blocks = 128 }

-- the run of the head of the ring: twelve words in two blocks (3.6)
abbrev pub head_run : Run
head_run = record { first = head_block; blocks = 2 }

-- the book with these two runs
abbrev pub opening_book : ℕ → Book
opening_book blocks = record {
  slots = slice_set (slice_set (replicate blocks Empty) 0 (Lends list_run)) head_block (Lends head_run);
  taken = [];
}

-- each element of the frame list ends its frame (3.3)
abbrev pub opening_memory : ℕ → Mem
opening_memory n =
    with_words (with_words (with_states (with_states (fresh n) list_run Lent) head_run Lent) 0 (replicate frame_list_length 1)) 4096 (qh_words opening_head)

-- USBINTR, PERIODICLISTBASE, ASYNCLISTADDR, CONFIGFLAG, USBCMD (2.3)
abbrev pub opening_registers : RegisterFile
opening_registers =
    after_writes reset_file ((0x08, 0) ∷ (0x14, 0) ∷ (0x18, 0x1000) ∷ (0x40, 1) ∷ (0x00, opening_command) ∷ [])

abbrev pub opening : ℕ → Reserve → Parts
opening n room = record {
  driver = new_driver (opening_book (n / 8)) (n / 8) room;
  registers = opening_registers;
  memory = opening_memory n;
}
