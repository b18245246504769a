-- Words of any number that are lent to the controller, from address 0 on.
--     lent_mem ws n     memory of these words with each whole block of 8 of them Lent, where n accesses were refused
--     most_lent         how many words at most: the last 32 bytes that an address of 32 bits can name are left out
use Rattle.std.specs.Prelude.{ℕ, List}
use Rattle.word_mem.specs.Memory.{Mem, all_lent}

abbrev pub lent_mem : List ℕ → ℕ → Mem
lent_mem ws n = record (all_lent ws) { foreign = n }

abbrev pub most_lent : ℕ
most_lent = 1073741816
