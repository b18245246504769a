use Rattle.std.proofs.Common.{◌≡◌, ◌≤◌, ◌+◌, length}
use Rattle.script_text.specs.Reading.{lines_in, lines_read}
use Rattle.script_text.proofs.parsing.read_lines.Given as goal

abbrev pub invariant-lines : goal.invariant-lines
invariant-lines l = record {
  read : lines_read l.draft l.n (lines_in l.rest) ≡ lines_read l.fn.draft 1 (lines_in l.text);
  small : length l.rest + l.n ≤ length l.text + 1;
}

abbrev pub decreases-lines : goal.decreases-lines
decreases-lines l = length l.rest
