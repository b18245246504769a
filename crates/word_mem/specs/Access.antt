-- What any reads and writes of the controller may do to memory, whatever words it follows (EHCI 1.0, 2.3.2: a host that reaches outside
-- its memory ends in Host System Error).
--     IsByController old new     the states and the sizes stay, no word outside Lent blocks differs, and refusals are only added
use Rattle.std.specs.Prelude.{◌≡◌, ℕ, ◌≤◌, false, length}
use Rattle.word_mem.specs.Memory.{Mem, word_at, reaches}

pub record IsByController (old new : Mem) : Type 0 where
  pub states : new.states ≡ old.states
  pub sizes : length new.words ≡ length old.words
  pub outside : (at : ℕ) → reaches old at ≡ false → word_at new at ≡ word_at old at
  pub counted : old.foreign ≤ new.foreign
