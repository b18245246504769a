use Rattle.std.proofs.Common.{◌≡◌}
use Rattle.script_world.proofs.devices.DeviceDraft.into_text.Given as goal

abbrev pub invariant-loop-ep : goal.invariant-loop-ep
invariant-loop-ep l = l.eps.items ≡ l.yielded
