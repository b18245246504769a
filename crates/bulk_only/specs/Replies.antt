-- Packets that wait to be sent.
--     Waiting               the packets, and how many bytes they may have together
--     bytes_in packets      how many bytes they have together
--     total ns              the sum of these numbers
--     with_packet p w       p waits behind the others
--     without_first w       the first one was sent
use Rattle.std.specs.Prelude.{ℕ, Bool, true, ◌&&◌, nat_le, ◌+◌, List, [], ◌∷◌, ◌++◌, length, take, drop}

pub record Waiting : Type 0 where
  pub packets : List (List ℕ)
  pub room : ℕ

abbrev pub bytes_in : List (List ℕ) → ℕ
bytes_in [] = 0
bytes_in (p ∷ ps) = length p + bytes_in ps

abbrev pub total : List ℕ → ℕ
total [] = 0
total (n ∷ ns) = n + total ns

abbrev pub with_packet : List ℕ → Waiting → Waiting
with_packet p w = record w { packets = w.packets ++ p ∷ [] }

abbrev pub without_first : Waiting → Waiting
without_first w = record w { packets = drop 1 w.packets }

abbrev pub all_sent : Waiting → Waiting
all_sent w = record w { packets = [] }

-- bytes that stand one behind the other, cut into packets of these lengths
unfoldable pub cut_into : List ℕ → List ℕ → List (List ℕ)
cut_into [] bs = []
cut_into (n ∷ ns) bs = take n bs ∷ cut_into ns (drop n bs)

-- no packet is shorter than a status block
abbrev pub are_long : List ℕ → Bool
are_long [] = true
are_long (n ∷ ns) = nat_le 13 n && are_long ns
