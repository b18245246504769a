-- Memory whose words begin at an address of their own: no word stands below it.
--     from_base base m        this memory, its first word at the byte address `base`, a multiple of 32
--     lent_from base ws       these words from there on, all of them Lent
--     IsWindow base m at      an address, and a base with which each word's address has 32 bits
use Rattle.std.specs.Prelude.{◌≡◌, ℕ, ◌+◌, ◌*◌, ◌/◌, ◌%◌, ◌<◌, List, ◌++◌, length, replicate}
use Rattle.word_mem.specs.Memory.{Mem, all_lent}
use Rattle.word_mem.specs.declared.blocks.BlockState.TheVariants.{Free}

abbrev pub from_base : ℕ → Mem → Mem
from_base base m =
    record { words = replicate (base / 4) 0 ++ m.words; states = replicate (base / 32) Free ++ m.states; foreign = m.foreign }

abbrev pub lent_from : ℕ → List ℕ → Mem
lent_from base ws = from_base base (all_lent ws)

pub record IsWindow (base : ℕ) (m : Mem) (at : ℕ) : Type 0 where
  pub based : base % 32 ≡ 0
  pub ends : base + 32 * length m.states < 4294967296
  pub small : at < 4294967296
