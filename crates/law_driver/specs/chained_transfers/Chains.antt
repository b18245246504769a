-- The qTDs of an endpoint's transfers as one chain (EHCI 1.0, 3.5 and 4.10.2): those of a transfer lead each to the next, its last one to the first
-- of the endpoint's next transfer, or to the inactive qTD at the end of the queue, which is the first of the next transfer to come.
--     piece_at note b i      the block of the qTD number i of a transfer whose first stands in block b
--     end_of v y             the block to which the last qTD of the transfer y leads
--     AreChained v           each transfer that wasn't given back is chained so
use Rattle.std.specs.Prelude.{◌≡◌, ◌≢◌, ℕ, zero, suc, ◌<◌, ◌≤◌, false, Some}
use Rattle.claims_driver.specs.Owners.{EndpointRuns, TransferRuns, NoteRuns, Views}

abbrev pub piece_at : (ℕ → NoteRuns) → ℕ → ℕ → ℕ
piece_at note b zero = b
piece_at note b (suc i) = piece_at note (note b).next i

abbrev pub end_of : Views → TransferRuns → ℕ
end_of v y = piece_at v.note y.first y.qtds

-- no transfer of endpoint e has a number from `from` on and below `to`
abbrev pub NoneFrom : Views → ℕ → ℕ → ℕ → Type 0
NoneFrom v e from to = (k : ℕ) (w : TransferRuns) → from ≤ k → k < to → v.transfer k ≡ Some w → w.endpoint ≢ e

pub record AreChained (v : Views) : Type 0 where
  pub some : (t : ℕ) (y : TransferRuns) → v.transfer t ≡ Some y → y.released ≡ false → 1 ≤ y.qtds
  pub next : (t u : ℕ) (y z : TransferRuns) → v.transfer t ≡ Some y → y.released ≡ false → v.transfer u ≡ Some z → t < u → z.endpoint ≡ y.endpoint
      → NoneFrom v y.endpoint (suc t) u → end_of v y ≡ z.first
  pub last : (t : ℕ) (y : TransferRuns) (x : EndpointRuns) → v.transfer t ≡ Some y → y.released ≡ false → v.endpoint y.endpoint ≡ Some x
      → ((u : ℕ) → NoneFrom v y.endpoint (suc t) u) → end_of v y ≡ x.dummy
