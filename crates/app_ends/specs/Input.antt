-- The input: all that a source has left, or its first bytes where it has more than the program reads.
--     input_of xs                 the input, where xs is left
--     rest_of xs                  what is left when the input was read
--     ReadsAtMostMore ..          some bytes were moved from the front of what was left; with those of the input they are no more than it can have
--     ReadsMore ..                a read moved n bytes from the front of what was left to the end of the input; it moves none only at the end
use Rattle.std.specs.Prelude.{◌≡◌, ℕ, ◌+◌, ◌≤◌, List, ◌++◌, length, take, drop, Option}
use Rattle.std.specs.Io.KnownBytes.{Consumes, IsAtEnd}

-- a script of 1,048,576 bytes or an image of 262,144 words and 24 bytes, and one byte more
abbrev pub input_limit : ℕ
input_limit = 1048601

unfoldable pub input_of : List ℕ → List ℕ
input_of xs = take input_limit xs

unfoldable pub rest_of : List ℕ → List ℕ
rest_of xs = drop input_limit xs

pub record ReadsMore (before after : Option (List ℕ)) (old new : List ℕ) (n : ℕ) : Type 0 where
  pub moved : List ℕ
  pub count : length moved ≡ n
  pub consumed : Consumes before after moved
  pub appended : new ≡ old ++ moved
  pub end : n ≡ 0 → IsAtEnd after

pub record ReadsAtMostMore (before after : Option (List ℕ)) (old : List ℕ) : Type 0 where
  pub moved : List ℕ
  pub few : length old + length moved ≤ input_limit
  pub consumed : Consumes before after moved
