-- What an event of the ring's walk may write (EHCI 1.0, 3.5, 3.6, 4.10.2 and 4.10.4 to 4.10.6): words of Lent blocks alone.
--     WritesLent m new     the states of blocks stay, and so does every word that isn't in a Lent block
--     IsPlaced h           the copy in hand was read at a multiple of 32, and the qTD of its transaction stands at one
use Rattle.std.specs.Prelude.{◌≡◌, ℕ, ◌%◌, false, length, Some}
use Rattle.word_mem.specs.Memory.{Mem, word_at, reaches}
use Rattle.toggle_error.specs.declared.host.Outcome.{Outcome}
use Rattle.hc_copy.specs.declared.held.Held.{Held}

pub record WritesLent (m new : Mem) : Type 0 where
  pub states : new.states ≡ m.states
  pub size : length new.words ≡ length m.words
  pub words : (at : ℕ) → reaches m at ≡ false → word_at new at ≡ word_at m at

pub record IsPlaced (h : Held) : Type 0 where
  pub at : h.at % 32 ≡ 0
  pub current : (outcome : Outcome) → h.settled ≡ Some outcome → h.queue_head.current % 32 ≡ 0
