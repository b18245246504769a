use Rattle.std.proofs.Common.{◌++◌, ap, ◌∙◌}
use Rattle.bus_capture.specs.Checks.{check16}
use Rattle.bus_capture.specs.Packets.{handshake_bytes}
use Rattle.bus_packets.specs.Packets.{damaged_check}
use Rattle.bus_packets.proofs.Damage.{damaged_data, in_three}
use Rattle.bus_packets.proofs.records.put_damaged.Goals as goal

pub returns : goal.returns
returns c =
    in_three c.args.to.now.items c.extend_from_slice.new.self.items c.extend_from_slice-2.new.self.items c.extend_from_slice-3.new.self.items (handshake_bytes c.args.pid) c.args.bytes.now
    (damaged_check (check16 c.args.bytes.now)) _
    (c.in_ok-extend_from_slice.ensures.items ∙ ap (λ x. c.args.to.now.items ++ x) c.handshake_bytes.ensures) c.in_ok-extend_from_slice-2.ensures.items
    (c.in_ok-extend_from_slice-3.ensures.items ∙ ap (λ x. c.extend_from_slice-2.new.self.items ++ x) (c.damaged_check.ensures ∙ ap damaged_check c.check16.ensures))
    (damaged_data c.args.pid c.args.bytes.now)
