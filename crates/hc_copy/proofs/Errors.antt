-- A transaction counts no error up.
use Rattle.std.proofs.Common.{ℕ, ◌<◌, ◌≤◌, List, sym, subst, arith}
use Rattle.usb_base.specs.declared.packets.Ask.{Ask}
use Rattle.usb_base.specs.declared.packets.Reply.{Reply}
use Rattle.toggle_error.specs.declared.host.HostSide.{HostSide}
use Rattle.toggle_error.specs.declared.host.Outcome.{Outcome}
use Rattle.toggle_error.specs.declared.rows.PlainRow.{PlainRow}
use Rattle.toggle_error.specs.declared.rows.PlainRow.TheVariants.{Received}
use Rattle.toggle_error.specs.declared.rows.StartRow.{StartRow}
use Rattle.toggle_error.specs.declared.rows.StartRow.TheVariants.{Accepted}
use Rattle.toggle_error.specs.declared.rows.CompleteRow.{CompleteRow}
use Rattle.toggle_error.specs.declared.rows.CompleteRow.TheVariants.{Answered}
use Rattle.toggle_error.specs.declared.rows.SettleRow.{SettleRow}
use Rattle.toggle_error.specs.declared.rows.SettleRow.TheVariants.{Plain, Start, Complete}
use Rattle.toggle_error.specs.PlainRows.{after_plain}
use Rattle.toggle_error.specs.SplitRows.{after_start, after_complete}
use Rattle.toggle_error.specs.Settle.{settle_row, after_settle_row, settled}
use Rattle.transactions.specs.Calls.{Call, Exchanges}

plain_keeps : (row : PlainRow) (host : HostSide) → (after_plain row host).cerr ≤ host.cerr
plain_keeps (Received n) host = omega arith
plain_keeps _ host = omega arith

start_keeps : (row : StartRow) (host : HostSide) → (after_start row host).cerr ≤ host.cerr
start_keeps Accepted host = omega arith
start_keeps _ host = omega arith

complete_keeps : (row : CompleteRow) (host : HostSide) → (after_complete row host).cerr ≤ host.cerr
complete_keeps (Answered row) host = plain_keeps row host
complete_keeps _ host = omega arith

row_keeps : (row : SettleRow) (host : HostSide) → (after_settle_row row host).cerr ≤ host.cerr
row_keeps (Plain row) host = plain_keeps row host
row_keeps (Start row) host = start_keeps row host
row_keeps (Complete row) host = complete_keeps row host

pub errors_left : {W : Type 0} (transacts : W → Ask → List ℕ → Reply → W → Type 0) (call : Call) (host : HostSide) (before after : W) (reply : Reply) (outcome : Outcome) (new : HostSide) → Exchanges transacts call host before after reply outcome new → host.cerr < 4 → new.cerr < 4
errors_left transacts call host before after reply outcome new made few =
    let kept : (settled call.ask call.sent call.last reply host).cerr ≤ host.cerr = row_keeps (settle_row call.ask call.sent call.last reply host) host in
    subst (λ (h : HostSide). h.cerr < 4) (sym made.settles) (omega (arith, kept, few))
