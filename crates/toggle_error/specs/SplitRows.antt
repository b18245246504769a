-- The settle rows of start-splits and complete-splits (EHCI 1.0, 4.12; USB 2.0, 8.5 and 11.17 to 11.20).
use Rattle.std.specs.Prelude.{Bool, true, false}
use Rattle.usb_base.specs.declared.packets.EpKind.{EpKind}
use Rattle.usb_base.specs.declared.packets.EpKind.TheVariants as Kinds
use Rattle.toggle_error.specs.declared.host.HostSide.{HostSide}
use Rattle.toggle_error.specs.declared.host.Outcome.{Outcome}
use Rattle.toggle_error.specs.declared.host.Outcome.TheVariants.{Nak, Wait}
use Rattle.toggle_error.specs.declared.rows.CompleteRow.{CompleteRow}
use Rattle.toggle_error.specs.declared.rows.CompleteRow.TheVariants.{Pending, NeverCame, Answered, BrokeBelow, Unanswered}
use Rattle.toggle_error.specs.declared.rows.Heard.{Heard}
use Rattle.toggle_error.specs.declared.rows.Heard.TheVariants as Heards
use Rattle.toggle_error.specs.declared.rows.PlainRow.{PlainRow}
use Rattle.toggle_error.specs.declared.rows.PlainRow.TheVariants.{Failed, FailedPinged}
use Rattle.toggle_error.specs.declared.rows.StartRow.{StartRow}
use Rattle.toggle_error.specs.declared.rows.StartRow.TheVariants.{Accepted, Declined, Unheard, Begun}
use Rattle.toggle_error.specs.PlainRows.{erred, error_outcome, plain_outcome, after_plain}

abbrev pub start_row : EpKind → Heard → StartRow
start_row Kinds.Interrupt _ = Begun
start_row _ Heards.Ack = Accepted
start_row _ Heards.Nak = Declined
start_row _ _ = Unheard

abbrev pub start_outcome : StartRow → HostSide → Outcome
start_outcome Accepted _ = Wait
start_outcome Declined _ = Nak
start_outcome Unheard host = error_outcome host
start_outcome Begun _ = Wait

abbrev pub after_start : StartRow → HostSide → HostSide
after_start Accepted host = record host { waiting = true }
after_start Declined host = host
after_start Unheard host = erred host
after_start Begun host = record host { waiting = true }

-- the device's answer is settled as that of the plain ask; what a plain ask takes for an error is no answer here
abbrev pub answered : PlainRow → CompleteRow
answered Failed = Unanswered
answered FailedPinged = Unanswered
answered row = Answered row

-- the row of a complete-split, from the row of the plain ask; `last` tells that its frame has no later one
abbrev pub complete_row : EpKind → Bool → Heard → PlainRow → CompleteRow
complete_row Kinds.Interrupt true Heards.Nyet _ = NeverCame
complete_row _ _ Heards.Nyet _ = Pending
complete_row Kinds.Interrupt _ Heards.Err _ = BrokeBelow
complete_row _ _ _ plain = answered plain

abbrev pub complete_outcome : CompleteRow → HostSide → Outcome
complete_outcome Pending _ = Wait
complete_outcome NeverCame host = error_outcome host
complete_outcome (Answered row) host = plain_outcome row host
complete_outcome BrokeBelow host = error_outcome host
complete_outcome Unanswered host = error_outcome host

abbrev pub after_complete : CompleteRow → HostSide → HostSide
after_complete Pending host = host
after_complete NeverCame host = record (erred host) { waiting = false }
after_complete (Answered row) host = record (after_plain row host) { waiting = false }
after_complete BrokeBelow host = record (erred host) { waiting = false }
after_complete Unanswered host = erred host
