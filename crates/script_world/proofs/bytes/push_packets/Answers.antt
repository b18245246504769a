use Rattle.std.proofs.Common.{◌+◌, ◌-◌, ◌++◌, map, arith, ap, ◌∙◌}
use Rattle.std.specs.Simd.{first_chunks}
use Rattle.script_types.specs.declared.devices.Item.TheVariants as item
use Rattle.script_world.specs.Draft.{packets}
use Rattle.script_world.proofs.Fills.{put_one, next_piece}
use Rattle.script_world.proofs.bytes.push_packets.Goals as goal

pub loop-k-preserved : goal.loop-k-preserved
loop-k-preserved c =
    let n = c.packet_count-count.result in
    let k = c.loop-k.k in
    let behind = c.split_at.result.1.now in
    put_one c.loop-k.items.items c.push.new.items.items (map item.Bytes (first_chunks c.args.max (n - k) c.loop-k.rest.now)) (map item.Bytes (first_chunks c.args.max (n - (k + 1)) behind)) (c.args.items.now.items ++ packets c.args.max c.args.bytes.now) (item.Bytes c.of.result)
    c.in_ok-push.ensures
    (ap (map item.Bytes) (next_piece c.args.max k n c.min-cut.result c.loop-k.rest.now c.of.result behind (omega arith) c.min-cut.ensures (c.of.ensures ∙ c.in_ok-packet.ensures.items ∙ c.split_at.ensures.front) c.split_at.ensures.back))
    c.loop-k.invariant
