-- A transaction of an OUT that ends its qTD halts, or leaves no bytes.
use Rattle.std.proofs.Common.{◌≡◌, ◌≢◌, ℕ, ◌-◌, ◌==◌, Bool, true, false, not, ◌&&◌, ◌||◌, List, length, ap, refl, sym, ◌∙◌}
use Rattle.std.proofs.lemmas.Bool.{eqb-true, true≢false}
use Rattle.usb_base.specs.declared.packets.Ask.{Ask}
use Rattle.usb_base.specs.declared.packets.EpKind.{EpKind}
use Rattle.usb_base.specs.declared.packets.EpKind.TheVariants as Kinds
use Rattle.usb_base.specs.declared.packets.Pid.{Pid}
use Rattle.usb_base.specs.declared.packets.Pid.TheVariants as Packets
use Rattle.usb_base.specs.declared.packets.Reply.{Reply}
use Rattle.usb_base.specs.declared.packets.Speed.{Speed}
use Rattle.usb_base.specs.declared.packets.Speed.TheVariants as speeds
use Rattle.usb_base.specs.declared.packets.Split.{Split}
use Rattle.usb_base.specs.declared.packets.Split.TheVariants as Splits
use Rattle.qh_qtd.specs.declared.queue_head.Qh.{Qh}
use Rattle.toggle_error.specs.declared.host.HostSide.{HostSide}
use Rattle.toggle_error.specs.declared.rows.AskToken.{AskToken}
use Rattle.toggle_error.specs.declared.rows.AskToken.TheVariants as tokens
use Rattle.toggle_error.specs.declared.rows.CompleteRow.{CompleteRow}
use Rattle.toggle_error.specs.declared.rows.CompleteRow.TheVariants.{Pending, Answered}
use Rattle.toggle_error.specs.declared.rows.Heard.{Heard}
use Rattle.toggle_error.specs.declared.rows.Heard.TheVariants as Heards
use Rattle.toggle_error.specs.declared.rows.PlainRow.{PlainRow}
use Rattle.toggle_error.specs.declared.rows.PlainRow.TheVariants.{Received, Babbled, Sent, SentLast, Stalled, Failed, FailedPinged}
use Rattle.toggle_error.specs.declared.rows.StartRow.{StartRow}
use Rattle.toggle_error.specs.declared.rows.StartRow.TheVariants.{Unheard}
use Rattle.toggle_error.specs.Columns.{out_token, token_at, token_of, heard_of}
use Rattle.toggle_error.specs.PlainRows.{plain_row, is_last_error, after_plain}
use Rattle.toggle_error.specs.SplitRows.{start_row, after_start, answered, complete_row, after_complete}
use Rattle.toggle_error.specs.Settle.{row_at, after_settle_row}
use Rattle.transactions.specs.Asks.{pinged, token_pid}
use Rattle.transactions.specs.Calls.{moving_of}
use Rattle.hc_copy.specs.Planning.{pid_at, host_in, transaction_of}
use Rattle.hc_copy.specs.Transacting.{call_in}
use Rattle.law_ring.specs.Effects.{settlement_as}

-- ---- only an IN receives

abbrev IsNoIn : PlainRow → Type 0
IsNoIn (Received n) = ⊥
IsNoIn _ = Unit {0}

abbrev IsNoCompleteIn : CompleteRow → Type 0
IsNoCompleteIn (Answered row) = IsNoIn row
IsNoCompleteIn _ = Unit {0}

plain_no_in : (token : AskToken) (heard : Heard) (sent : ℕ) → token ≢ tokens.In → IsNoIn (plain_row token heard sent)
plain_no_in tokens.In heard sent differs = absurd (differs refl)
plain_no_in tokens.Out Heards.Ack sent differs = tt
plain_no_in tokens.PingedOut Heards.Ack sent differs = tt
plain_no_in tokens.Setup Heards.Ack sent differs = tt
plain_no_in tokens.PingedOut Heards.Nyet sent differs = tt
plain_no_in _ Heards.Stall sent differs = tt
plain_no_in _ _ sent differs = tt

answered_no_in : (row : PlainRow) → IsNoIn row → IsNoCompleteIn (answered row)
answered_no_in Failed other = tt
answered_no_in FailedPinged other = tt
answered_no_in _ other = other

complete_no_in : (kind : EpKind) (last : Bool) (heard : Heard) (plain : PlainRow) → IsNoIn plain → IsNoCompleteIn (complete_row kind last heard plain)
complete_no_in Kinds.Interrupt true Heards.Nyet plain other = tt
complete_no_in _ _ Heards.Nyet plain other = tt
complete_no_in Kinds.Interrupt _ Heards.Err plain other = tt
complete_no_in _ _ _ plain other = answered_no_in plain other

-- ---- how a transfer ends

nothing_left : (m : ℕ) (b active : Bool) → (m == 0) ≡ b → active ≡ true → (not b && active) ≡ false → m ≡ 0
nothing_left m true active zero on off = eqb-true m 0 zero
nothing_left m false active zero on off = absurd (true≢false (sym on ∙ off))

erred_halts : (P : Type 0) (last active halted : Bool) → active ≡ true → (not last && active) ≡ false → (last || halted) ≡ false → P
erred_halts P true active halted on off goes = absurd (true≢false goes)
erred_halts P false active halted on off goes = absurd (true≢false (sym on ∙ off))

plain_ends : (row : PlainRow) (host : HostSide) → IsNoIn row → host.active ≡ true → (after_plain row host).active ≡ false → (after_plain row host).halted ≡ false → (after_plain row host).left ≡ 0
plain_ends (Received n) host other on off goes = absurd other
plain_ends (Sent n) host other on off goes = nothing_left (host.left - n) (host.left - n == 0) host.active refl on off
plain_ends (SentLast n) host other on off goes = nothing_left (host.left - n) (host.left - n == 0) host.active refl on off
plain_ends Failed host other on off goes = erred_halts (host.left ≡ 0) (is_last_error host) host.active host.halted on off goes
plain_ends FailedPinged host other on off goes = erred_halts (host.left ≡ 0) (is_last_error host) host.active host.halted on off goes
plain_ends Babbled host other on off goes = absurd (true≢false goes)
plain_ends Stalled host other on off goes = absurd (true≢false goes)
plain_ends _ host other on off goes = absurd (true≢false (sym on ∙ off))

start_ends : (row : StartRow) (host : HostSide) → host.active ≡ true → (after_start row host).active ≡ false → (after_start row host).halted ≡ false → (after_start row host).left ≡ 0
start_ends Unheard host on off goes = erred_halts (host.left ≡ 0) (is_last_error host) host.active host.halted on off goes
start_ends _ host on off goes = absurd (true≢false (sym on ∙ off))

complete_ends : (row : CompleteRow) (host : HostSide) → IsNoCompleteIn row → host.active ≡ true → (after_complete row host).active ≡ false → (after_complete row host).halted ≡ false → (after_complete row host).left ≡ 0
complete_ends Pending host other on off goes = absurd (true≢false (sym on ∙ off))
complete_ends (Answered row) host other on off goes = plain_ends row host other on off goes
complete_ends _ host other on off goes = erred_halts (host.left ≡ 0) (is_last_error host) host.active host.halted on off goes

row_ends : (split : Split) (kind : EpKind) (last : Bool) (heard : Heard) (plain : PlainRow) (host : HostSide) → IsNoIn plain → host.active ≡ true → (after_settle_row (row_at split kind last heard plain) host).active ≡ false → (after_settle_row (row_at split kind last heard plain) host).halted ≡ false
    → (after_settle_row (row_at split kind last heard plain) host).left ≡ 0
row_ends Splits.Plain kind last heard plain host other on off goes = plain_ends plain host other on off goes
row_ends (Splits.Start hub port part) kind last heard plain host other on off goes = start_ends (start_row kind heard) host on off goes
row_ends (Splits.Complete hub port) kind last heard plain host other on off goes = complete_ends (complete_row kind last heard plain) host (complete_no_in kind last heard plain other) on off goes

-- ---- the token of an OUT

out_no_in : (speed : Speed) (kind : EpKind) → out_token speed kind ≢ tokens.In
out_no_in speeds.High Kinds.Bulk e = cc
out_no_in speeds.High Kinds.Control e = cc
out_no_in _ _ e = cc

token_no_in : (pid : Pid) (out : AskToken) → pid ≢ Packets.In → out ≢ tokens.In → token_at pid out ≢ tokens.In
token_no_in Packets.In out differs other e = differs refl
token_no_in Packets.Out out differs other e = other e
token_no_in _ out differs other e = cc

pinged_no_in : (kind : EpKind) (ping : Bool) → pinged kind ping ≢ Packets.In
pinged_no_in Kinds.Iso ping e = cc
pinged_no_in _ true e = cc
pinged_no_in _ false e = cc

pid_no_in : (split : Split) (plain : Pid) → plain ≢ Packets.In → token_pid split Packets.Out plain ≢ Packets.In
pid_no_in Splits.Plain plain differs e = differs e
pid_no_in _ plain differs e = cc

-- ---- a transaction

-- as an endpoint of this kind
module _ (kind : EpKind) (q : Qh) (out : List ℕ) (last : Bool) where
  abbrev asked : Ask
  asked = (call_in (transaction_of kind q) out last).ask

  abbrev sent : ℕ
  sent = moving_of (transaction_of kind q).split (transaction_of kind q).pipe.pid (host_in q) (length out)

  asks_no_in : q.token.pid ≡ 0 → asked.pid ≢ Packets.In
  asks_no_in pid e =
      pid_no_in (transaction_of kind q).split (pinged kind q.token.ping) (pinged_no_in kind q.token.ping)
      (sym (ap (λ (c : ℕ). token_pid (transaction_of kind q).split (pid_at c) (pinged kind q.token.ping)) pid) ∙ e)

  pub ends_whole : (reply : Reply) → q.token.active ≡ true → q.token.pid ≡ 0 → (settlement_as kind q out last reply).host.active ≡ false
      → (settlement_as kind q out last reply).host.halted ≡ false → (settlement_as kind q out last reply).host.left ≡ 0
  ends_whole reply on pid off goes =
      row_ends asked.split asked.kind last (heard_of (host_in q) reply) (plain_row (token_of asked) (heard_of (host_in q) reply) sent)
      (host_in q)
      (plain_no_in (token_of asked) (heard_of (host_in q) reply) sent
      (token_no_in asked.pid (out_token asked.speed asked.kind) (asks_no_in pid) (out_no_in asked.speed asked.kind))) on off goes
