-- What a transaction, a miss and a further transaction of the visit make of the copy of a queue head (EHCI 1.0, 4.10.3 and 4.12.2.4).
use Rattle.std.specs.Prelude.{ℕ, max, Bool, true, false, ◌&&◌, ◌==◌, nat_lt, List, Some, None, if◌then◌else◌}
use Rattle.usb_base.specs.declared.endpoints.EndCause.TheVariants as causes
use Rattle.usb_base.specs.declared.packets.Reply.{Reply}
use Rattle.usb_base.specs.declared.packets.Split.{Split}
use Rattle.usb_base.specs.declared.packets.Split.TheVariants.{Plain, Start, Complete}
use Rattle.qh_qtd.specs.declared.queue_head.Qh.{Qh}
use Rattle.toggle_error.specs.declared.host.Outcome.{Outcome}
use Rattle.toggle_error.specs.declared.host.Outcome.TheVariants as outcomes
use Rattle.hc_masks.specs.Masks.{with_bit}
use Rattle.hc_copy.specs.declared.held.Held.{Held}
use Rattle.hc_copy.specs.declared.held.Transaction.{Transaction}
use Rattle.hc_copy.specs.Overlay.{moved}
use Rattle.hc_copy.specs.Transacting.{copy_after}
use Rattle.hc_copy.specs.WriteBack.{moved_by}
use Rattle.hc_interrupt.specs.Turns.{microframe_of, tag_of, is_last_of}

-- ---- a transaction

-- A start-split begins a split transaction of this frame, with no complete-split made; a complete-split is made in this microframe
-- (4.12.2.4.2).
unfoldable pub with_split : ℕ → Split → Qh → Qh
with_split f Plain q = q
with_split f (Start _ _ _) q = record q { c_prog = 0; frame_tag = tag_of f }
with_split f (Complete _ _) q = record q { c_prog = with_bit q.c_prog (microframe_of f) }

-- the copy after a transaction that sent these bytes had this reply
abbrev pub interrupt_copy : ℕ → Transaction → List ℕ → Reply → Held → Held
interrupt_copy f t out reply h =
    let settled : Held = copy_after t out (is_last_of f h.queue_head) reply h in
    record settled { queue_head = with_split f t.split settled.queue_head }

-- ---- a miss (4.12.2.4.1): the qTD halts, for an OUT as for an IN

unfoldable pub missed_queue : Qh → Qh
missed_queue q = record q { token = record q.token { missed = true; halted = true; active = false } }

abbrev pub missed_copy : Held → Held
missed_copy h = record h { queue_head = missed_queue h.queue_head; settled = Some (outcomes.Halt causes.Miss) }

-- ---- a further transaction of the visit

-- a full packet was moved
abbrev pub is_full : Qh → Outcome → Bool
is_full q (outcomes.Moved n) = n == q.max
is_full q _ = false

-- the answer was silent or wrong, and errors are left or aren't counted
abbrev pub failed : Outcome → Bool
failed outcomes.Error = true
failed _ = false

-- up to Mult transactions in a microframe (3.6.2); 0 counts as 1
abbrev pub most_of : Qh → ℕ
most_of q = max 1 q.mult

-- The visit goes on while the qTD is active. At high speed after a full packet, where this many were made in it; below it after a
-- complete-split that the translator answered with nothing that the host can use (4.12.2.4.2).
abbrev pub goes_on : ℕ → Qh → Outcome → Bool
goes_on made q outcome =
    q.token.active
    && (if q.eps == 2 then is_full q outcome && nat_lt made (most_of q) else q.token.split_state && failed outcome)

-- then the copy is as its words are, with the place moved
abbrev pub again_copy : Outcome → Held → Held
again_copy outcome h = record h { queue_head = moved h.queue_head (moved_by outcome); settled = None }
