use Rattle.std.proofs.Common.{◌≡◌, ◌++◌, length}
use Rattle.script_text.specs.Reading.{words_in}
use Rattle.script_text.proofs.lines.words_in.Given as goal

abbrev pub invariant-words : goal.invariant-words
invariant-words l = l.words.items ++ words_in l.rest ≡ words_in l.line

abbrev pub decreases-words : goal.decreases-words
decreases-words l = length l.rest
