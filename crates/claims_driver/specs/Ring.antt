-- The ring of queue heads as its words tell it (EHCI 1.0, 4.8 and 4.8.1): the head leads to the newest endpoint in the ring, each endpoint
-- to the one before it, and the oldest to the head.
--     members xs              the blocks of the queue heads in the ring, the newest first
--     IsChain word a bs       from block a on, the links lead through the blocks bs to the head
use Rattle.std.specs.Prelude.{◌≡◌, ℕ, ◌*◌, List, [], ◌∷◌, slice_get, Some, if◌then◌else◌}
use Rattle.word_mem.specs.Memory.{Mem, word_at}
use Rattle.drv_table.specs.declared.content.Endpoint.{Endpoint}
use Rattle.drv_table.specs.Words.{head_block, queue_head_link}

abbrev pub link_in : Mem → ℕ → ℕ
link_in m b = word_at m (32 * b)

abbrev pub members_from : List ℕ → List Endpoint → List ℕ
members_from bs [] = bs
members_from bs (x ∷ xs) = members_from (if x.linked then x.queue ∷ bs else bs) xs

abbrev pub members : List Endpoint → List ℕ
members xs = members_from [] xs

abbrev pub IsChain : (ℕ → ℕ) → ℕ → List ℕ → Type 0
IsChain word a [] = word a ≡ queue_head_link head_block
IsChain word a (b ∷ bs) = (word a ≡ queue_head_link b) × IsChain word b bs

-- ---- those that left

-- endpoint e has its queue head in block b
pub record IsQueueOf (xs : List Endpoint) (e b : ℕ) : Type 0 where
  pub endpoint : Endpoint
  pub here : slice_get xs e ≡ Some endpoint
  pub queue : endpoint.queue ≡ b

pub data IsAmong (e : ℕ) : List ℕ → Type 0 where
  first : (es : List ℕ) → IsAmong e (e ∷ es)
  later : (f : ℕ) (es : List ℕ) → IsAmong e es → IsAmong e (f ∷ es)
