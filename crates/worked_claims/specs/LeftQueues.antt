-- Two endpoints that left the ring: the queue head of the first, in block 0, leads to that of the second, in block 1, and this one to the
-- head of the ring. For the first Async Advance was cleared, the second waits for the doorbell.
--     out_at x b              an endpoint that is out of the ring, with its queue head in this block
--     two d x es fs           the driver with both, where these were cleared, and those wait
--     two_words               the words of memory
--     LaterLeads              the links are so where the first left first
--     EarlierBreaks           .. and not where it left last
--     ItselfBreaks            nor where one that left leads to itself
use Rattle.std.specs.Prelude.{ℕ, false, List, [], ◌∷◌, None}
use Rattle.word_mem.specs.Memory.{Mem}
use Rattle.drv_table.specs.declared.content.Endpoint.{Endpoint}
use Rattle.drv_table.specs.DriverContent.{DriverContent}
use Rattle.claims_world.specs.Links.{AreLeft, left_ring}

abbrev pub out_at : Endpoint → ℕ → Endpoint
out_at x b = record x { queue = b; linked = false }

abbrev pub two : DriverContent → Endpoint → List ℕ → List ℕ → DriverContent
two d x es fs = record d { endpoints = out_at x 0 ∷ out_at x 1 ∷ []; command = None; cleared = es; rung = []; waiting = fs }

-- word 0 of each block is the link
abbrev pub two_words : List ℕ
two_words = 34 ∷ 0 ∷ 0 ∷ 0 ∷ 0 ∷ 0 ∷ 0 ∷ 0 ∷ 4098 ∷ []

abbrev pub AreSo : Mem → DriverContent → Type 0
AreSo m d = AreLeft m d (left_ring d)

abbrev pub LaterLeads : Type 0
LaterLeads = (m : Mem) (d : DriverContent) (x : Endpoint) → AreSo (record m { words = two_words }) (two d x (0 ∷ []) (1 ∷ []))

abbrev pub EarlierBreaks : Type 0
EarlierBreaks = (m : Mem) (d : DriverContent) (x : Endpoint) → AreSo (record m { words = two_words }) (two d x (1 ∷ []) (0 ∷ [])) → ⊥

abbrev pub ItselfBreaks : Type 0
ItselfBreaks = (m : Mem) (d : DriverContent) (x : Endpoint) → AreSo (record m { words = 2 ∷ [] }) (two d x (0 ∷ []) []) → ⊥
