-- What one transaction leaves of the host's side of a transfer (EHCI 1.0, 3.5.3, 4.10.3 to 4.12 and 4.15; USB 2.0, 8.5 and 8.6).
--     is_moved o            the outcome says that bytes were moved, maybe none: the toggle turns exactly then
--     Leaves host o after   the host's side after an outcome, beside that before it
--     Brings pid o got      the bytes received: as many as were moved with an IN, and none with another token
--     Settles ..            both, of the transaction of a queue head that sends these bytes and has this reply
use Rattle.std.specs.Prelude.{◌≡◌, ◌≢◌, ℕ, ◌+◌, ◌<◌, ◌≤◌, ◌⊎◌, Bool, true, false, not, List, [], length, if◌then◌else◌}
use Rattle.usb_base.specs.declared.packets.EpKind.{EpKind}
use Rattle.usb_base.specs.declared.packets.Pid.{Pid}
use Rattle.usb_base.specs.declared.packets.Pid.TheVariants.{In}
use Rattle.usb_base.specs.declared.packets.Reply.{Reply}
use Rattle.qh_qtd.specs.declared.queue_head.Qh.{Qh}
use Rattle.toggle_error.specs.declared.host.HostSide.{HostSide}
use Rattle.toggle_error.specs.declared.host.Outcome.{Outcome}
use Rattle.toggle_error.specs.declared.host.Outcome.TheVariants.{Moved}
use Rattle.hc_copy.specs.Planning.{pid_at, host_in, transaction_of}
use Rattle.hc_copy.specs.Transacting.{host_after, outcome_in}
use Rattle.hc_copy.specs.WriteBack.{moved_by, received}

abbrev pub is_moved : Outcome → Bool
is_moved (Moved n) = true
is_moved _ = false

pub record Leaves (host : HostSide) (outcome : Outcome) (after : HostSide) : Type 0 where
  pub left : after.left + moved_by outcome ≡ host.left
  pub packets : after.max ≡ host.max
  pub errors : after.cerr ≤ host.cerr
  pub toggle : after.toggle ≡ (if is_moved outcome then not host.toggle else host.toggle)
  pub went_on : after.active ≡ true → host.active ≡ true
  pub goes_on : host.halted ≡ false → after.active ≡ true → after.halted ≡ false
  pub some_left : after.active ≡ true → (moved_by outcome ≡ 0) ⊎ (0 < after.left)

pub record Brings (pid : Pid) (outcome : Outcome) (got : List ℕ) : Type 0 where
  pub all : pid ≡ In → length got ≡ moved_by outcome
  pub none : pid ≢ In → got ≡ []

pub record Settles (kind : EpKind) (q : Qh) (out : List ℕ) (last : Bool) (reply : Reply) : Type 0 where
  pub host : Leaves (host_in q) (outcome_in (transaction_of kind q) out last reply) (host_after (transaction_of kind q) out last reply)
  pub bytes : Brings (pid_at q.token.pid) (outcome_in (transaction_of kind q) out last reply) (received q (outcome_in (transaction_of kind q) out last reply) reply)
