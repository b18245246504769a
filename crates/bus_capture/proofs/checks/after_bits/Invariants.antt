use Rattle.std.proofs.Common.{◌≡◌, ◌-◌}
use Rattle.bus_capture.specs.Checks.{after_bits}
use Rattle.bus_capture.proofs.checks.after_bits.Given as goal

abbrev pub invariant-loop-bit : goal.invariant-loop-bit
invariant-loop-bit l = after_bits l.polynomial l.r l.rest (l.count - l._bit) ≡ after_bits l.polynomial l.first l.n l.count
