use Rattle.std.proofs.Common.{◌+◌, length}
use Rattle.bus_capture.specs.Packets.{data_bytes}
use Rattle.bus_packets.specs.Packets.{turned_last}
use Rattle.bus_packets.proofs.Damage.{damaged_length, in_block}
use Rattle.bus_packets.proofs.records.put_damaged_record.Goals as goal

pub returns : goal.returns
returns c =
    in_block c.put_data_tail.result c.args.speed c.args.ps (length c.args.bytes.now + 3) c.args.to.now.items c.put_data_header.new.to.items c.put_damaged.new.to.items c.put_data_tail.new.to.items (turned_last (data_bytes c.args.pid c.args.bytes.now))
    c.in_ok-put_data_header.ensures (damaged_length c.args.pid c.args.bytes.now) c.in_ok-put_damaged.ensures c.put_data_tail.ensures
