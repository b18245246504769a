-- The laws of what is due.
--     TextsComeToEach      of each script that a text spells: the walk of the frames comes to each interrupt endpoint's queue head in its
--                          frames
--     TextsDoWhatIsDue     .. what was due as it came to the queue head is done once the walk is over
--     TextsKeepDue         .. both
--     ReadyTransactionsMove   the transaction of a high-speed queue head moves its packet, where its device is ready and none of its
--                          packets is lost
use Rattle.std.specs.Prelude.{◌≡◌, ℕ, Bool, List, length}
use Rattle.usb_base.specs.declared.endpoints.EpName.{EpName}
use Rattle.script_types.specs.declared.scripts.Script.{Script}
use Rattle.script_text.specs.Faults.{Spells}
use Rattle.qh_qtd.specs.declared.queue_head.Qh.{Qh}
use Rattle.drv_periodic_table.specs.Periodic.{dir_of}
use Rattle.toggle_error.specs.declared.host.Outcome.TheVariants.{Moved}
use Rattle.hc_copy.specs.Transacting.{call_in, outcome_in}
use Rattle.hc_interrupt.specs.Turns.{planned}
use Rattle.bus_wire.specs.Bus.{Bus, Fixed, reply_of}
use Rattle.law_microframes.specs.time.DataQueues.{pid_of}
use Rattle.claims_world.specs.Coming.{ComesToEach}
use Rattle.claims_world.specs.Due.{bytes_moved, CanMove, DueIsDone, KeepsDue}

abbrev pub TextsComeToEach : Type 0
TextsComeToEach = (text : List ℕ) (s : Script) → Spells text s → ComesToEach s

abbrev pub TextsDoWhatIsDue : Type 0
TextsDoWhatIsDue = (text : List ℕ) (s : Script) → Spells text s → DueIsDone s

abbrev pub TextsKeepDue : Type 0
TextsKeepDue = (text : List ℕ) (s : Script) → Spells text s → KeepsDue s

-- ---- of a transaction

-- `out` is what goes out with it; `last` tells nothing of a plain one
abbrev pub ReadyTransactionsMove : Type 0
ReadyTransactionsMove = (fixed : Fixed) (b : Bus) (name : EpName) (v : Qh) (r : CanMove fixed b name v) → v.eps ≡ 2 → v.addr ≡ name.addr
    → v.ep ≡ name.num → v.token.pid ≡ pid_of (dir_of name.way) → (out : List ℕ) → length out ≡ (planned v).bytes → (last : Bool)
    → outcome_in (planned v) out last (reply_of fixed b (call_in (planned v) out last).ask (call_in (planned v) out last).out)
    ≡ Moved (bytes_moved r.answers)
