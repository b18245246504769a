-- What is said of the controller alone: the registers that no event of it changes, an event that meets no fault, and memory that is the
-- same as far as the controller may look (EHCI 1.0, 2.3.1, 2.3.2, 4.1, 4.8 and 4.15.2.4).
--     Base                  what no event of the walk changes of the registers
--     opening_base          the registers that no event of the walk changes
--     GoesOn ..             Run, Host System Error and the count stay
--     IsSameWhereLent m n   the memories have the same words in Lent blocks, and agree in all but the words of others
use Rattle.std.specs.Prelude.{◌≡◌, ℕ, Bool, true, length}
use Rattle.word_mem.specs.Memory.{Mem, word_at, reaches}
use Rattle.op_registers.specs.RegisterFile.{RegisterFile}

pub record Base : Type 0 where
  pub run : Bool
  pub async_enable : Bool
  pub async_list_address : ℕ
  pub periodic_enable : Bool
  pub periodic_list_base : ℕ
  pub list_size : ℕ

abbrev pub base_of : RegisterFile → Base
base_of r = record {
  run = r.run;
  async_enable = r.async_enable;
  async_list_address = r.async_list_address;
  periodic_enable = r.periodic_enable;
  periodic_list_base = r.periodic_list_base;
  list_size = r.list_size;
}

abbrev pub opening_base : Base
opening_base = record { run = true; async_enable = true; async_list_address = 4096; periodic_enable = true; periodic_list_base = 0; list_size = 0 }

-- r and m are the registers and memory before, s and n those after
pub record GoesOn (r : RegisterFile) (m : Mem) (s : RegisterFile) (n : Mem) : Type 0 where
  pub run : s.run ≡ r.run
  pub error : s.host_system_error ≡ r.host_system_error
  pub count : n.foreign ≡ m.foreign

pub record IsSameWhereLent (m n : Mem) : Type 0 where
  pub states : n.states ≡ m.states
  pub size : length n.words ≡ length m.words
  pub refusals : n.foreign ≡ m.foreign
  pub words : (at : ℕ) → reaches m at ≡ true → word_at n at ≡ word_at m at
