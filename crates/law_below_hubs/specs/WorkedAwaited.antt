-- What the host of the bulk OUT endpoint behind port 1 of hub 9 waits for: nothing before its first start-split, the answer once it heard
-- the ACK of the hub, and what came of it in the microframe after. And what that of a control endpoint there waits for.
--     NoneAwaited, StartAwaited, ResultAwaited     so its key stands
--     UnstartedBreaks                              no answer is awaited of a hub that has nothing of the key
--     RequestAwaited                               the keys of the control endpoint, in the SETUP of a read and in its data
--     OtherTokenBreaks                             an OUT isn't awaited where the SETUP is
use Rattle.std.specs.Prelude.{Some, None}
use Rattle.usb_base.specs.declared.packets.Dir.TheVariants as Directions
use Rattle.usb_base.specs.declared.packets.Pid.TheVariants as Pids
use Rattle.bus_wire.specs.Bus.{opening_wired}
use Rattle.law_below_hubs.specs.Awaited.{KeyStands}
use Rattle.law_below_hubs.specs.WorkedControl as Controls
use Rattle.law_below_hubs.specs.WorkedPut.{key, put_script, started, begun}

abbrev pub NoneAwaited : Type 0
NoneAwaited = KeyStands key 0 0 (opening_wired put_script) None

abbrev pub StartAwaited : Type 0
StartAwaited = KeyStands key 0 0 started (Some Pids.Out)

abbrev pub ResultAwaited : Type 0
ResultAwaited = KeyStands key 0 0 begun (Some Pids.Out)

abbrev pub UnstartedBreaks : Type 0
UnstartedBreaks = KeyStands key 0 0 (opening_wired put_script) (Some Pids.Out) → ⊥

-- ---- a control endpoint

pub record RequestAwaited : Type 0 where
  pub setup : KeyStands (Controls.key Directions.Out) 0 0 Controls.set_up (Some Pids.Setup)
  pub aside : KeyStands (Controls.key Directions.In) 0 0 Controls.set_up None
  pub answer : KeyStands (Controls.key Directions.Out) 0 0 Controls.after_setup (Some Pids.Setup)
  pub told : KeyStands (Controls.key Directions.Out) 0 0 Controls.asked_data None
  pub data_stage : KeyStands (Controls.key Directions.In) 0 0 Controls.after_data (Some Pids.In)

abbrev pub OtherTokenBreaks : Type 0
OtherTokenBreaks = KeyStands (Controls.key Directions.Out) 0 0 Controls.set_up (Some Pids.Out) → ⊥
