-- Runs of blocks. A block is 8 words (32 bytes: structures stand at multiples of 32, EHCI 1.0, 3), a page 128 blocks (4,096 bytes), and a
-- byte address counts from 0.
--     Run                 a run: the number of its first block, and how many blocks
--     IsRun r             a run that memory can hand out: at least one block, all in one page, below 262,144 words
--     IsInRun r at        the byte address `at` lies in a block of the run
--     HasBlock r b        b is one of the run's blocks
--     AreApart r q        the runs share no block
use Rattle.std.specs.Prelude.{ℕ, ◌+◌, ◌*◌, ◌%◌, ◌<◌, ◌≤◌, ◌⊎◌}

pub record Run : Type 0 where
  pub first : ℕ
  pub blocks : ℕ

pub record IsRun (r : Run) : Type 0 where
  pub some : 1 ≤ r.blocks
  pub one_page : r.first % 128 + r.blocks ≤ 128
  pub within : r.first + r.blocks ≤ 32768

pub record HasBlock (r : Run) (b : ℕ) : Type 0 where
  pub from : r.first ≤ b
  pub below : b < r.first + r.blocks

pub record IsInRun (r : Run) (at : ℕ) : Type 0 where
  pub from : 32 * r.first ≤ at
  pub below : at < 32 * (r.first + r.blocks)

abbrev pub AreApart : Run → Run → Type 0
AreApart r q = (r.first + r.blocks ≤ q.first) ⊎ (q.first + q.blocks ≤ r.first)
