use Rattle.std.proofs.Common.{◌≡◌, take}
use Rattle.std.specs.Prelude.{filter_map}
use Rattle.endpoint_script.specs.Items.{packet_in}
use Rattle.endpoint_script.proofs.iso_sender.packets.Given as goal

abbrev pub invariant-loop-item : goal.invariant-loop-item
invariant-loop-item l = l.packets.items ≡ filter_map packet_in (take l.item-index l.items)
