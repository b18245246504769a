use Rattle.std.proofs.Common.{◌≡◌, ◌++◌, drop}
use Rattle.bus_wire.specs.Fates.{bad_numbers}
use Rattle.bus_wire.proofs.numbers.numbers_against.Given as goal

abbrev pub invariant-loop-fate : goal.invariant-loop-fate
invariant-loop-fate l = l.numbers.items ++ bad_numbers (drop l.fate-index l.fates) l.name l.below ≡ bad_numbers l.fates l.name l.below
