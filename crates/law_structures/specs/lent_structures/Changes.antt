-- What a write leaves of memory that is told by its structures (EHCI 1.0, 3.5, 3.6 and 4.10).
--     Changes m after a s      no state changes, and every word outside the blocks of the structure s at a stays
--     Stays m after a s        the blocks of the structure s at a stay Lent, with their words
--     Leaves m after           each Lent block stays Lent, with its words
--     IsNew m after parts a s  the structure stands in memory after a lend, in blocks that weren't Lent before
--     relinked q c             the queue head c, a copy of one that is q in memory, with the link of q: a write-back doesn't write the link (3.6)
--     overwritten bs j got     the bytes with these in their places from byte j on
use Rattle.std.specs.Prelude.{◌≡◌, ℕ, ◌+◌, ◌/◌, true, List, ◌++◌, length, take, drop, Some}
use Rattle.word_mem.specs.Memory.{Mem, IsShaped, word_at, state_at, reaches}
use Rattle.word_mem.specs.declared.blocks.BlockState.TheVariants.{Lent}
use Rattle.qh_qtd.specs.declared.queue_head.Qh.{Qh}
use Rattle.law_structures.specs.lent_structures.Structures.{Structure, Holds, Has}

pub record Changes (m after : Mem) (a : ℕ) (s : Structure) : Type 0 where
  pub states : after.states ≡ m.states
  pub size : length after.words ≡ length m.words
  pub outside : (other : ℕ) → (Has a s (other / 32) → ⊥) → word_at after other ≡ word_at m other

pub record Stays (m after : Mem) (a : ℕ) (s : Structure) : Type 0 where
  pub lent : (b : ℕ) → Has a s b → state_at m b ≡ Some Lent → state_at after b ≡ Some Lent
  pub words : (other : ℕ) → Has a s (other / 32) → word_at after other ≡ word_at m other

pub record Leaves (m after : Mem) : Type 0 where
  pub shape : IsShaped after
  pub lent : (b : ℕ) → state_at m b ≡ Some Lent → state_at after b ≡ Some Lent
  pub words : (other : ℕ) → reaches m other ≡ true → word_at after other ≡ word_at m other

pub record IsNew (m after : Mem) (a : ℕ) (s : Structure) : Type 0 where
  pub holds : Holds after a s
  pub fresh : (b : ℕ) → Has a s b → state_at m b ≡ Some Lent → ⊥

abbrev pub relinked : Qh → Qh → Qh
relinked q c = record c { link = q.link }

abbrev pub overwritten : List ℕ → ℕ → List ℕ → List ℕ
overwritten bs j got = take j bs ++ (got ++ drop (j + length got) bs)
