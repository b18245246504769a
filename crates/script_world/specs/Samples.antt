-- Lines of worked rows.
--     bulk_line addr num way    the line of a bulk endpoint of a high-speed device
--     iso_line addr num way     the line of an isochronous endpoint
--     two_devices               a script with the devices 3 and 4
--     behind_a_hub              a script with the full-speed device 3 behind hub 9
--     behind_its_own            .. on port 2 of the hub 9 with a translator for each port, where it has an isochronous endpoint
--     stuff_line addr num way p the line of an endpoint's stuffed bits
--     a_bulk                    a script with the device 3, which has a bulk IN endpoint
--     epoch_line addr num way   the line of an endpoint's next epoch
--     begun n w                 n of these lines of that endpoint, one after the other
use Rattle.std.specs.Prelude.{ℕ, zero, suc, true, false}
use Rattle.usb_base.specs.declared.packets.EpKind.TheVariants as kind
use Rattle.usb_base.specs.declared.packets.Speed.TheVariants.{Full}
use Rattle.usb_base.specs.declared.packets.Way.{Way}
use Rattle.usb_base.specs.declared.packets.Way.TheVariants as way
use Rattle.script_forms.specs.declared.statements.Answer.TheVariants as answer
use Rattle.script_forms.specs.declared.statements.Statement.{Statement}
use Rattle.script_forms.specs.declared.statements.Statement.TheVariants as says
use Rattle.script_world.specs.Draft.{Draft, empty}
use Rattle.script_world.specs.Rows.{after}

abbrev pub bulk_line : ℕ → ℕ → Way → Statement
bulk_line addr num way = says.Ep (record { name = record { addr = addr; num = num; way = way }; kind = kind.Bulk; max = 512; period = 0; multi = 1 })

abbrev pub two_devices : Draft
two_devices = after (after empty 2 (says.DevHigh 3)) 3 (says.DevHigh 4)

abbrev pub iso_line : ℕ → ℕ → Way → Statement
iso_line addr num way = says.Ep (record { name = record { addr = addr; num = num; way = way }; kind = kind.Iso; max = 512; period = 8; multi = 1 })

abbrev pub behind_a_hub : Draft
behind_a_hub = after (after empty 2 (says.Hub 9 4 false)) 3 (says.DevBelow (record { addr = 3; speed = Full; hub = 9; port = 1 }))

abbrev pub stuff_line : ℕ → ℕ → Way → ℕ → Statement
stuff_line addr num way p = says.Stuff (record { addr = addr; num = num; way = way }) p

abbrev pub behind_its_own : Draft
behind_its_own =
    after (after (after empty 2 (says.Hub 9 4 true)) 3 (says.DevBelow (record { addr = 3; speed = Full; hub = 9; port = 2 }))) 4
    (iso_line 3 1 way.In)

abbrev pub a_bulk : Draft
a_bulk = after two_devices 4 (bulk_line 3 1 way.In)

abbrev pub epoch_line : ℕ → ℕ → Way → Statement
epoch_line addr num way = says.Reply (record { addr = addr; num = num; way = way }) answer.Epoch

abbrev pub begun : ℕ → Draft → Draft
begun zero w = w
begun (suc n) w = begun n (after w 5 (epoch_line 3 1 way.In))
