-- Each microframe of a script's run ends (EHCI 1.0, 4.4, 4.6 to 4.8, 4.8.3, 4.10 and 4.10.3; USB 2.0, 5.11.3): the events of the controller
-- in it are no more than were counted before it.
--     least_in_frames         no transaction of the walk of the frames costs less
--     most_blocks             the blocks of the largest memory
--     least_price             the price of a transaction with no bytes at high speed, which isn't isochronous
--     round_length            the events of a round of the ring with no transaction: each queue head visited once, with no more than four
--                             events
--     rounds_ahead left n     the rounds that may still begin: one for each transaction that there is time for, and one for a head that
--                             wasn't read yet
--     ring_whole left         .. before it begins, with so much time left
--     microframe_whole        .. before the microframe begins
--     EndsWithin s k n rest   the microframe that is ordered at moment k, n more behind it, is over after no more turns of the controller
--                             and the driver than that
--     MicroframesEnd s        so is each that a script's run comes to
use Rattle.std.specs.Prelude.{◌≡◌, ℕ, ◌+◌, ◌-◌, suc, ◌/◌, ◌*◌, ◌≤◌, List, ◌∷◌}
use Rattle.script_types.specs.declared.scripts.Script.{Script}
use Rattle.bus_world.specs.Budgets.{moment}
use Rattle.bus_world.specs.Orders.{Left, Microframes}

-- picoseconds
abbrev pub least_in_frames : ℕ
least_in_frames = 600000

-- ---- blocks

abbrev pub most_blocks : ℕ
most_blocks = 32768

-- ---- transactions

abbrev pub least_price : ℕ
least_price = 927769

-- ---- the asynchronous part

abbrev pub round_length : ℕ
round_length = 4 * (most_blocks + 1)

abbrev pub rounds_ahead : ℕ → ℕ → ℕ
rounds_ahead left n = left / least_price + (1 - n)

abbrev pub ring_whole : ℕ → ℕ
ring_whole left = round_length * rounds_ahead left 0 + 4 * most_blocks + 1

-- ---- a microframe

-- its time in picoseconds
abbrev pub microframe_time : ℕ
microframe_time = 125000000

abbrev pub microframe_whole : ℕ
microframe_whole = 4 * most_blocks + 2 * (microframe_time / least_in_frames) + ring_whole microframe_time + 1

pub record EndsWithin (s : Script) (k n : ℕ) (rest : List Left) : Type 0 where
  pub turns : ℕ
  pub few : turns ≤ microframe_whole + 1
  pub over : (moment s (k + 2 * turns)).orders ≡ Microframes n ∷ rest

abbrev pub MicroframesEnd : Script → Type 0
MicroframesEnd s = (k n : ℕ) (rest : List Left) → (moment s k).orders ≡ Microframes (suc n) ∷ rest → EndsWithin s k n rest
