-- What a source and a sink in memory have, and which of their calls fail.
use Rattle.std.specs.Prelude.{ℕ, List, Bool, length, ◌==◌, ◌||◌, nat_le}
use Rattle.std.specs.List.{list_any}

pub record SourceContent : Type 0 where
  pub left : List ℕ  -- the bytes that are left
  pub fails : List ℕ  -- the numbers of the reads that fail
  pub calls : ℕ  -- the number of the next read, which stands at the last value of 64 bits
  pub faults : ℕ  -- how many reads failed

pub record SinkContent : Type 0 where
  pub written : List ℕ  -- the bytes that were written
  pub room : ℕ  -- the most bytes that it takes
  pub fails : List ℕ  -- the numbers of the writes that fail
  pub calls : ℕ  -- the number of the next write, which stands at the last value of 64 bits
  pub faults : ℕ  -- how many writes failed

-- the next read is one of those that fail
abbrev pub reads_fail : SourceContent → Bool
reads_fail s = list_any (λ k. k == s.calls) s.fails

-- the next write finds the room used up, or is one of those that fail
abbrev pub writes_fail : SinkContent → Bool
writes_fail s = nat_le s.room (length s.written) || list_any (λ k. k == s.calls) s.fails
