use Rattle.std.proofs.Common.{◌≡◌, drop}
use Rattle.bus_capture.specs.Checks.{after_bytes}
use Rattle.bus_capture.proofs.checks.check16.Given as goal

abbrev pub invariant-loop-byte : goal.invariant-loop-byte
invariant-loop-byte l = after_bytes l.r (drop l.byte-index l.bytes) ≡ after_bytes 65535 l.bytes
