use Rattle.std.proofs.Common.{◌≡◌, ◌-◌, ◌++◌, map}
use Rattle.std.specs.Simd.{first_chunks}
use Rattle.script_types.specs.declared.devices.Item.TheVariants as item
use Rattle.script_world.specs.Draft.{packets}
use Rattle.script_world.proofs.bytes.push_packets.Given as goal

abbrev pub invariant-loop-k : goal.invariant-loop-k
invariant-loop-k l = l.items.items ++ map item.Bytes (first_chunks l.max (l.count - l.k) l.rest) ≡ l.fn.items.items ++ packets l.max l.bytes
