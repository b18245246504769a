-- What an event of the driver reads and changes: its content, the registers and the words of memory (EHCI 1.0, 2.3 and 3).
--     Parts   what an event reads and changes
use Rattle.word_mem.specs.Memory.{Mem}
use Rattle.op_registers.specs.RegisterFile.{RegisterFile}
use Rattle.drv_table.specs.DriverContent.{DriverContent}

-- what an event reads and changes
pub record Parts : Type 0 where
  pub driver : DriverContent
  pub registers : RegisterFile
  pub memory : Mem
