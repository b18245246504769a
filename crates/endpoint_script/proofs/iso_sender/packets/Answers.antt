use Rattle.std.proofs.Common.{◌++◌, sym, ap, ◌∙◌, arith, ◌<◌, length}
use Rattle.std.specs.Option.{option_to_list}
use Rattle.endpoint_script.specs.Items.{packet_in}
use Rattle.endpoint_script.proofs.Lists.{filter_map_more}
use Rattle.endpoint_script.proofs.iso_sender.packets.Goals as goal

pub loop-item-preserved : goal.loop-item-preserved
loop-item-preserved c =
    let inside : c.loop-item.item-index < length c.args.items.now = omega arith in
    c.in_ok-add_packet.ensures ∙ ap (λ packets. packets ++ option_to_list (packet_in c.item-item.result)) c.loop-item.invariant ∙ sym (filter_map_more packet_in c.args.items.now c.loop-item.item-index c.item-item.result inside c.item-item.is)
