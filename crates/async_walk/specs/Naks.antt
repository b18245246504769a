-- How NAKs are counted in the ring (EHCI 1.0, 4.9), and of which kind an endpoint of the ring is (3.6.2).
use Rattle.std.specs.Prelude.{ℕ, ◌-◌, Bool, true, false, not, ◌||◌, ◌==◌, if◌then◌else◌}
use Rattle.usb_base.specs.declared.packets.EpKind.{EpKind}
use Rattle.usb_base.specs.declared.packets.EpKind.TheVariants.{Control, Bulk}
use Rattle.usb_base.specs.declared.packets.Pid.TheVariants as pids
use Rattle.usb_base.specs.declared.packets.Reply.{Reply}
use Rattle.usb_base.specs.declared.packets.Reply.TheVariants.{Hand}
use Rattle.qh_qtd.specs.declared.queue_head.Qh.{Qh}
use Rattle.toggle_error.specs.declared.host.Outcome.{Outcome}
use Rattle.toggle_error.specs.declared.host.Outcome.TheVariants as outcomes
use Rattle.hc_copy.specs.declared.held.Held.{Held}
use Rattle.hc_copy.specs.declared.held.Transaction.{Transaction}
use Rattle.hc_copy.specs.Planning.{transaction_of}
use Rattle.async_walk.specs.declared.state.ReloadMode.{ReloadMode}
use Rattle.async_walk.specs.declared.state.ReloadMode.TheVariants.{WaitHead, Reload, WaitStart}

-- ---- the kind of an endpoint of the ring

-- a control endpoint takes its toggle from each qTD (3.6.2, DTC), a bulk endpoint goes on with its own
abbrev pub kind_at : Bool → EpKind
kind_at true = Control
kind_at false = Bulk

-- the transaction that comes next
abbrev pub planned : Qh → Transaction
planned q = transaction_of (kind_at q.dtc) q

-- ---- may it work?

-- NAKs aren't counted, or some are left
abbrev pub may_work : Qh → Bool
may_work q = q.rl == 0 || not (q.nak_cnt == 0)

-- ---- the reload

-- the head of the ring was read
abbrev pub next_mode : ReloadMode → ReloadMode
next_mode WaitHead = Reload
next_mode Reload = WaitStart
next_mode WaitStart = WaitStart

abbrev pub mode_after : Qh → ReloadMode → ReloadMode
mode_after q mode = if q.head then next_mode mode else mode

-- the copy of a queue head that is read in a mode
unfoldable pub reloaded : ReloadMode → Qh → Qh
reloaded Reload q = record q { nak_cnt = q.rl }
reloaded WaitHead q = q
reloaded WaitStart q = q

-- ---- the count

-- a NAK, and a NYET to data that were taken; a NYET to a complete-split is none
abbrev pub counts : Outcome → Reply → Bool
counts outcomes.Nak _ = true
counts (outcomes.Moved _) (Hand pids.Nyet) = true
counts _ _ = false

-- a count of 0 stays, and where RL is 0 nothing is counted
abbrev pub naks_after : Bool → Qh → ℕ
naks_after counted q = if not (q.rl == 0) then (if counted then q.nak_cnt - 1 else q.nak_cnt) else q.nak_cnt

unfoldable pub counted_queue : Bool → Qh → Qh
counted_queue counted q = record q { nak_cnt = naks_after counted q }

abbrev pub counted_copy : Outcome → Reply → Held → Held
counted_copy outcome reply h = record h { queue_head = counted_queue (counts outcome reply) h.queue_head }
