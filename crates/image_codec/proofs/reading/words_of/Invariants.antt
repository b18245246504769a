use Rattle.std.proofs.Common.{◌≡◌, ◌≤◌, ◌+◌, ◌/◌, ◌++◌, length, vec_len, vec_capacity}
use Rattle.image_codec.specs.Image.{fields_of}
use Rattle.image_codec.proofs.reading.words_of.Given as goal

-- the words so far, and those that the rest is, are all words; and there is room for the rest
abbrev pub invariant-loop-rest : goal.invariant-loop-rest
invariant-loop-rest l = record {
  words : l.words.items ++ fields_of l.rest ≡ fields_of l.bytes;
  room : length l.rest / 4 + vec_len l.words ≤ vec_capacity l.words;
}

abbrev pub decreases-loop-rest : goal.decreases-loop-rest
decreases-loop-rest l = length l.rest
