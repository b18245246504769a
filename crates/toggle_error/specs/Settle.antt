-- The settle table: which row fits an ask and its reply, what it comes to and what it leaves.
use Rattle.std.specs.Prelude.{ℕ, Bool}
use Rattle.usb_base.specs.declared.packets.Ask.{Ask}
use Rattle.usb_base.specs.declared.packets.EpKind.{EpKind}
use Rattle.usb_base.specs.declared.packets.Reply.{Reply}
use Rattle.usb_base.specs.declared.packets.Split.{Split}
use Rattle.usb_base.specs.declared.packets.Split.TheVariants as Splits
use Rattle.toggle_error.specs.declared.host.HostSide.{HostSide}
use Rattle.toggle_error.specs.declared.host.Outcome.{Outcome}
use Rattle.toggle_error.specs.declared.rows.Heard.{Heard}
use Rattle.toggle_error.specs.declared.rows.PlainRow.{PlainRow}
use Rattle.toggle_error.specs.declared.rows.SettleRow.{SettleRow}
use Rattle.toggle_error.specs.declared.rows.SettleRow.TheVariants.{Plain, Start, Complete}
use Rattle.toggle_error.specs.Columns.{token_of, heard_of}
use Rattle.toggle_error.specs.PlainRows.{plain_row, plain_outcome, after_plain}
use Rattle.toggle_error.specs.SplitRows.{start_row, start_outcome, after_start, complete_row, complete_outcome, after_complete}

abbrev pub row_at : Split → EpKind → Bool → Heard → PlainRow → SettleRow
row_at Splits.Plain _ _ _ plain = Plain plain
row_at (Splits.Start _ _ _) kind _ heard _ = Start (start_row kind heard)
row_at (Splits.Complete _ _) kind last heard plain = Complete (complete_row kind last heard plain)

-- the row that fits
abbrev pub settle_row : Ask → ℕ → Bool → Reply → HostSide → SettleRow
settle_row ask sent last reply host =
    row_at ask.split ask.kind last (heard_of host reply) (plain_row (token_of ask) (heard_of host reply) sent)

abbrev pub outcome_of_row : SettleRow → HostSide → Outcome
outcome_of_row (Plain row) host = plain_outcome row host
outcome_of_row (Start row) host = start_outcome row host
outcome_of_row (Complete row) host = complete_outcome row host

abbrev pub after_settle_row : SettleRow → HostSide → HostSide
after_settle_row (Plain row) host = after_plain row host
after_settle_row (Start row) host = after_start row host
after_settle_row (Complete row) host = after_complete row host

-- what a transaction comes to
abbrev pub outcome_of : Ask → ℕ → Bool → Reply → HostSide → Outcome
outcome_of ask sent last reply host = outcome_of_row (settle_row ask sent last reply host) host

-- the host's side after it
abbrev pub settled : Ask → ℕ → Bool → Reply → HostSide → HostSide
settled ask sent last reply host = after_settle_row (settle_row ask sent last reply host) host
