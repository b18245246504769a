-- What an OUT and a PING come to, by what is heard; and that a transfer that ends without moving anything is halted.
use Rattle.std.proofs.Common.{◌≡◌, ◌≢◌, ℕ, ◌==◌, nat_le, Bool, true, false, not, ◌&&◌, ◌||◌, if◌then◌else◌, length, Some, None, ap, refl, sym, subst, ◌∙◌}
use Rattle.std.proofs.lemmas.Bool.{false≢true}
use Rattle.law_common.proofs.Booleans.{is_not}
use Rattle.usb_base.specs.declared.packets.Ask.{Ask}
use Rattle.usb_base.specs.declared.packets.Pid.{Pid}
use Rattle.usb_base.specs.declared.packets.Pid.TheVariants as Packets
use Rattle.usb_base.specs.declared.packets.Reply.{Reply}
use Rattle.usb_base.specs.declared.packets.Reply.TheVariants.{Silent, Bytes, Hand}
use Rattle.usb_base.specs.declared.packets.Split.{Split}
use Rattle.usb_base.specs.declared.packets.Split.TheVariants as Splits
use Rattle.toggle_error.specs.declared.host.HostSide.{HostSide}
use Rattle.toggle_error.specs.declared.host.Outcome.{Outcome}
use Rattle.toggle_error.specs.declared.rows.AskToken.{AskToken}
use Rattle.toggle_error.specs.declared.rows.AskToken.TheVariants as tokens
use Rattle.toggle_error.specs.declared.rows.CompleteRow.{CompleteRow}
use Rattle.toggle_error.specs.declared.rows.CompleteRow.TheVariants.{Pending, Answered}
use Rattle.toggle_error.specs.declared.rows.Heard.{Heard}
use Rattle.toggle_error.specs.declared.rows.Heard.TheVariants as Heards
use Rattle.toggle_error.specs.declared.rows.PlainRow.{PlainRow}
use Rattle.toggle_error.specs.declared.rows.PlainRow.TheVariants.{Received, Babbled, Sent, SentLast, Stalled, Failed, FailedPinged}
use Rattle.toggle_error.specs.declared.rows.SettleRow.{SettleRow}
use Rattle.toggle_error.specs.declared.rows.SettleRow.TheVariants as Rows
use Rattle.toggle_error.specs.declared.rows.StartRow.{StartRow}
use Rattle.toggle_error.specs.declared.rows.StartRow.TheVariants.{Unheard}
use Rattle.toggle_error.specs.Columns.{limit_of, token_of, fitting, heard_data, heard_hand, heard_of}
use Rattle.toggle_error.specs.PlainRows.{plain_row, is_last_error, plain_outcome, after_plain}
use Rattle.toggle_error.specs.SplitRows.{after_start, complete_outcome, after_complete}
use Rattle.toggle_error.specs.Settle.{row_at, outcome_of_row, after_settle_row, outcome_of}
use Rattle.transactions.specs.Asks.{token_pid}
use Rattle.hc_copy.specs.Planning.{pid_at}
use Rattle.law_structures.specs.lent_structures.Settles.{is_moved}
use Rattle.law_structures.proofs.lemmas.lent_structures.Moving.{plain_moves, Moves, row_is}
use Rattle.law_ring.specs.OutBus.{is_acknowledging, is_acknowledgement}

-- ---- an acknowledgement is heard

abbrev acks : Heard → Bool
acks Heards.Ack = true
acks Heards.Nyet = true
acks _ = false

hand_acks : (pid : Pid) → acks (heard_hand pid) ≡ is_acknowledging pid
hand_acks Packets.Ack = refl
hand_acks _ = refl

data_acks : (b : Bool) (pid : Pid) (expected : Heard) → acks expected ≡ false → acks (heard_data b pid expected) ≡ false
data_acks false Packets.Data0 expected off = off
data_acks true Packets.Data1 expected off = off
data_acks _ _ expected off = refl

fitting_acks : (b : Bool) (n : ℕ) → acks (if b then Heards.Fitting n else Heards.TooLong) ≡ false
fitting_acks true n = refl
fitting_acks false n = refl

heard_acks : (host : HostSide) (reply : Reply) → acks (heard_of host reply) ≡ is_acknowledgement reply
heard_acks host Silent = refl
heard_acks host (Hand pid) = hand_acks pid
heard_acks host (Bytes pid bs) = data_acks host.toggle pid (fitting (length bs) (limit_of host)) (fitting_acks (nat_le (length bs) (limit_of host)) (length bs))

pinged_moves : (h : Heard) (sent : ℕ) → plain_moves (plain_row tokens.PingedOut h sent) ≡ (if acks h then Some sent else None)
pinged_moves Heards.Ack sent = refl
pinged_moves _ sent = refl

ping_moves : (h : Heard) (sent : ℕ) → plain_moves (plain_row tokens.Ping h sent) ≡ None
ping_moves Heards.Ack sent = refl
ping_moves _ sent = refl

-- an OUT moves its bytes exactly where it is acknowledged
pub out_moves : (ask : Ask) (sent : ℕ) (last : Bool) (reply : Reply) (host : HostSide) → ask.split ≡ Splits.Plain → token_of ask ≡ tokens.PingedOut → Moves (outcome_of ask sent last reply host) (if is_acknowledgement reply then Some sent else None)
out_moves ask sent last reply host plain token =
    subst (λ (s : Split). Moves (outcome_of_row (row_at s ask.kind last (heard_of host reply) (plain_row (token_of ask) (heard_of host reply) sent)) host) (if is_acknowledgement reply then Some sent else None)) (sym plain)
    (subst (λ (k : AskToken). Moves (outcome_of_row (Rows.Plain (plain_row k (heard_of host reply) sent)) host) (if is_acknowledgement reply then Some sent else None)) (sym token)
    (subst (Moves (outcome_of_row (Rows.Plain (plain_row tokens.PingedOut (heard_of host reply) sent)) host)) (pinged_moves (heard_of host reply) sent ∙ ap (λ (b : Bool). if b then Some sent else None) (heard_acks host reply))
    (row_is (Rows.Plain (plain_row tokens.PingedOut (heard_of host reply) sent)) host)))

-- without a ping state a NYET is no acknowledgement (USB 2.0, 8.5.1)
abbrev acks_plain : Heard → Bool
acks_plain Heards.Ack = true
acks_plain _ = false

plain_out_moves : (h : Heard) (sent : ℕ) → plain_moves (plain_row tokens.Out h sent) ≡ (if acks_plain h then Some sent else None)
plain_out_moves Heards.Ack sent = refl
plain_out_moves _ sent = refl

acks_both : (h : Heard) → acks_plain h ≡ true → acks h ≡ true
acks_both Heards.Ack e = refl
acks_both _ e = absurd (false≢true e)

-- what an OUT moved, where it was heard: only what was acknowledged
pub record OutMoves (o : Outcome) (sent : ℕ) (reply : Reply) : Type 0 where
  pub heard : Bool
  pub moves : Moves o (if heard then Some sent else None)
  pub acked : heard ≡ true → is_acknowledgement reply ≡ true

pub unpinged_moves : (ask : Ask) (sent : ℕ) (last : Bool) (reply : Reply) (host : HostSide) → ask.split ≡ Splits.Plain
    → token_of ask ≡ tokens.Out → OutMoves (outcome_of ask sent last reply host) sent reply
unpinged_moves ask sent last reply host plain token = record {
  heard = acks_plain (heard_of host reply);
  moves = subst (λ (s : Split). Moves (outcome_of_row
      (row_at s ask.kind last (heard_of host reply) (plain_row (token_of ask) (heard_of host reply) sent)) host)
      (if acks_plain (heard_of host reply) then Some sent else None)) (sym plain)
      (subst (λ (k : AskToken). Moves (outcome_of_row (Rows.Plain (plain_row k (heard_of host reply) sent)) host)
      (if acks_plain (heard_of host reply) then Some sent else None)) (sym token)
      (subst (Moves (outcome_of_row (Rows.Plain (plain_row tokens.Out (heard_of host reply) sent)) host))
      (plain_out_moves (heard_of host reply) sent)
      (row_is (Rows.Plain (plain_row tokens.Out (heard_of host reply) sent)) host)));
  acked = λ e. sym (heard_acks host reply) ∙ acks_both (heard_of host reply) e;
}

-- a PING moves nothing
pub ping_none : (ask : Ask) (sent : ℕ) (last : Bool) (reply : Reply) (host : HostSide) → ask.split ≡ Splits.Plain → token_of ask ≡ tokens.Ping → Moves (outcome_of ask sent last reply host) None
ping_none ask sent last reply host plain token =
    subst (λ (s : Split). Moves (outcome_of_row (row_at s ask.kind last (heard_of host reply) (plain_row (token_of ask) (heard_of host reply) sent)) host) None) (sym plain)
    (subst (λ (k : AskToken). Moves (outcome_of_row (Rows.Plain (plain_row k (heard_of host reply) sent)) host) None) (sym token)
    (subst (Moves (outcome_of_row (Rows.Plain (plain_row tokens.Ping (heard_of host reply) sent)) host)) (ping_moves (heard_of host reply) sent)
    (row_is (Rows.Plain (plain_row tokens.Ping (heard_of host reply) sent)) host)))

-- ---- an end without bytes is a halt

erred_stops : (last active halted : Bool) → active ≡ true → (not last && active) ≡ false → (last || halted) ≡ true
erred_stops true active halted on off = refl
erred_stops false active halted on off = absurd (is_not active on off)

plain_stops : (row : PlainRow) (host : HostSide) → host.active ≡ true → is_moved (plain_outcome row host) ≡ false → (after_plain row host).active ≡ false → (after_plain row host).halted ≡ true
plain_stops (Received n) host on moved off = absurd (false≢true (sym moved))
plain_stops (Sent n) host on moved off = absurd (false≢true (sym moved))
plain_stops (SentLast n) host on moved off = absurd (false≢true (sym moved))
plain_stops Failed host on moved off = erred_stops (is_last_error host) host.active host.halted on off
plain_stops FailedPinged host on moved off = erred_stops (is_last_error host) host.active host.halted on off
plain_stops Babbled host on moved off = refl
plain_stops Stalled host on moved off = refl
plain_stops _ host on moved off = absurd (is_not host.active on off)

start_stops : (row : StartRow) (host : HostSide) → host.active ≡ true → (after_start row host).active ≡ false → (after_start row host).halted ≡ true
start_stops Unheard host on off = erred_stops (is_last_error host) host.active host.halted on off
start_stops _ host on off = absurd (is_not host.active on off)

complete_stops : (row : CompleteRow) (host : HostSide) → host.active ≡ true → is_moved (complete_outcome row host) ≡ false → (after_complete row host).active ≡ false → (after_complete row host).halted ≡ true
complete_stops Pending host on moved off = absurd (is_not host.active on off)
complete_stops (Answered row) host on moved off = plain_stops row host on moved off
complete_stops _ host on moved off = erred_stops (is_last_error host) host.active host.halted on off

pub row_stops : (row : SettleRow) (host : HostSide) → host.active ≡ true → is_moved (outcome_of_row row host) ≡ false → (after_settle_row row host).active ≡ false → (after_settle_row row host).halted ≡ true
row_stops (Rows.Plain row) host on moved off = plain_stops row host on moved off
row_stops (Rows.Start row) host on moved off = start_stops row host on off
row_stops (Rows.Complete row) host on moved off = complete_stops row host on moved off

-- ---- which token goes out

pub out_only : (code : ℕ) (x y : Bool) (split : Split) (ping : Pid) → (code == 0) ≡ x → x ≡ false → (code == 1) ≡ y → token_pid split (pid_at code) ping ≢ Packets.Out
out_only code x y split ping zero off one is =
    by y split (sym (ap (λ (b : Bool). token_pid split (if b then Packets.Out else if code == 1 then Packets.In else Packets.Setup) ping) (zero ∙ off) ∙ ap (λ (b : Bool). token_pid split (if b then Packets.In else Packets.Setup) ping) one) ∙ is)
  where
    by : (z : Bool) (s : Split) → token_pid s (if z then Packets.In else Packets.Setup) ping ≡ Packets.Out → ⊥
    by true Splits.Plain e = cc
    by true (Splits.Start hub port part) e = cc
    by true (Splits.Complete hub port) e = cc
    by false Splits.Plain e = cc
    by false (Splits.Start hub port part) e = cc
    by false (Splits.Complete hub port) e = cc
