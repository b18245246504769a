-- The words of a line.
use Rattle.std.specs.Prelude.{ℕ, zero, suc, ◌+◌, ◌/◌, ◌%◌, ◌^◌, nat_lt, if◌then◌else◌, List, [], ◌∷◌, codes}
use Rattle.usb_base.specs.declared.packets.Fate.{Fate}
use Rattle.usb_base.specs.declared.packets.Fate.TheVariants as fates
use Rattle.usb_base.specs.declared.packets.DataPart.{DataPart}
use Rattle.usb_base.specs.declared.packets.DataPart.TheVariants as parts
use Rattle.usb_base.specs.declared.packets.Pid.{Pid}
use Rattle.usb_base.specs.declared.packets.Pid.TheVariants as pids
use Rattle.hc_core.specs.declared.controller.HcStep.{HcStep}
use Rattle.hc_core.specs.declared.controller.HcStep.TheVariants as steps
use Rattle.drv_table.specs.declared.rows.DriverStep.{DriverStep}
use Rattle.drv_table.specs.declared.rows.DriverStep.TheVariants as turns

-- a hexadecimal digit, in lower case
abbrev pub hex_digit : ℕ → ℕ
hex_digit d = if nat_lt d 10 then 48 + d else 87 + d

-- the last k hexadecimal digits of a number
abbrev pub hex : ℕ → ℕ → List ℕ
hex zero n = []
hex (suc k) n = hex_digit (n / 16 ^ k % 16) ∷ hex k n

-- the name of a packet identifier (USB 2.0, 8.3.1)
abbrev pub pid_word : Pid → List ℕ
pid_word pids.Out = codes "out"
pid_word pids.In = codes "in"
pid_word pids.Sof = codes "sof"
pid_word pids.Setup = codes "setup"
pid_word pids.Data0 = codes "data0"
pid_word pids.Data1 = codes "data1"
pid_word pids.Data2 = codes "data2"
pid_word pids.Mdata = codes "mdata"
pid_word pids.Ack = codes "ack"
pid_word pids.Nak = codes "nak"
pid_word pids.Stall = codes "stall"
pid_word pids.Nyet = codes "nyet"
pid_word pids.Err = codes "err"
pid_word pids.Split = codes "split"
pid_word pids.Ping = codes "ping"

-- behind a packet that didn't get through
abbrev pub fate_word : Fate → List ℕ
fate_word fates.Good = []
fate_word fates.Lost = codes " lost"
fate_word fates.Damaged = codes " damaged"

-- the part of its data that a start-split carries (8.4.2.2)
abbrev pub part_word : DataPart → List ℕ
part_word parts.All = []
part_word parts.Begin = codes "begin "
part_word parts.Middle = codes "middle "
part_word parts.End = codes "end "

-- an event of the controller
abbrev pub step_word : HcStep → List ℕ
step_word steps.Begin = codes "begin"
step_word steps.Fetch = codes "fetch"
step_word steps.Advance = codes "advance"
step_word steps.Transact = codes "transact"
step_word steps.WriteBack = codes "write-back"
step_word steps.Skip = codes "skip"
step_word steps.End = codes "end"
step_word steps.Idle = codes "idle"

-- an event of the driver
abbrev pub driver_word : DriverStep → List ℕ
driver_word turns.Lend = codes "lend"
driver_word turns.Store = codes "store"
driver_word turns.Register = codes "register"
driver_word turns.Harvest = codes "harvest"
driver_word turns.Release = codes "release"
driver_word (turns.Reset _) = codes "reset"
driver_word (turns.ResetDisk _) = codes "reset disk"
driver_word turns.Rest = codes "rest"
