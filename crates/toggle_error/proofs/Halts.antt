-- Each halt comes exactly for its cause.
use Rattle.std.proofs.Common.{◌≡◌, ℕ, ◌<◌, ◌-◌, ◌==◌, ◌↔◌, Bool, true, false, List, length, nat_le, refl, arith, ap, sym, subst, ◌∙◌, if◌then◌else◌}
use Rattle.std.proofs.lemmas.Bool.{eqb-true, eqb-false, leb-false, lt-leb}
use Rattle.usb_base.specs.declared.endpoints.EndCause.{EndCause}
use Rattle.usb_base.specs.declared.endpoints.EndCause.TheVariants as Ends
use Rattle.usb_base.specs.declared.packets.Ask.{Ask}
use Rattle.usb_base.specs.declared.packets.Split.{Split}
use Rattle.usb_base.specs.declared.packets.Split.TheVariants as Splits
use Rattle.usb_base.specs.declared.packets.EpKind.{EpKind}
use Rattle.usb_base.specs.declared.packets.EpKind.TheVariants as Kinds
use Rattle.usb_base.specs.declared.packets.Pid.{Pid}
use Rattle.usb_base.specs.declared.packets.Pid.TheVariants as Packets
use Rattle.usb_base.specs.declared.packets.Reply.{Reply}
use Rattle.usb_base.specs.declared.packets.Reply.TheVariants.{Silent, Bytes, Hand}
use Rattle.usb_base.specs.declared.packets.Speed.{Speed}
use Rattle.usb_base.specs.declared.packets.Speed.TheVariants.{High}
use Rattle.toggle_error.specs.declared.host.HostSide.{HostSide}
use Rattle.toggle_error.specs.declared.host.Outcome.{Outcome}
use Rattle.toggle_error.specs.declared.host.Outcome.TheVariants.{Error, Halt}
use Rattle.toggle_error.specs.declared.rows.CompleteRow.{CompleteRow}
use Rattle.toggle_error.specs.declared.rows.CompleteRow.TheVariants.{Pending, Answered}
use Rattle.toggle_error.specs.declared.rows.Heard.{Heard}
use Rattle.toggle_error.specs.declared.rows.Heard.TheVariants as Heards
use Rattle.toggle_error.specs.declared.rows.PlainRow.{PlainRow}
use Rattle.toggle_error.specs.declared.rows.PlainRow.TheVariants.{Babbled, Stalled, Failed, FailedPinged}
use Rattle.toggle_error.specs.declared.rows.SettleRow.{SettleRow}
use Rattle.toggle_error.specs.declared.rows.SettleRow.TheVariants as Rows
use Rattle.toggle_error.specs.declared.rows.StartRow.{StartRow}
use Rattle.toggle_error.specs.declared.rows.StartRow.TheVariants.{Unheard}
use Rattle.toggle_error.specs.declared.rows.AskToken.{AskToken}
use Rattle.toggle_error.specs.declared.rows.AskToken.TheVariants.{In}
use Rattle.toggle_error.specs.Columns.{heard_data, heard_hand, heard_of, limit_of, expected_pid, token_at, token_of, out_token}
use Rattle.toggle_error.specs.Halts.{is_answered, RanOut, IsStalled, IsBabble}
use Rattle.toggle_error.specs.PlainRows.{plain_row, error_outcome, plain_outcome, after_plain}
use Rattle.toggle_error.specs.SplitRows.{start_outcome, after_start, answered, complete_row, complete_outcome, after_complete}
use Rattle.toggle_error.specs.Settle.{row_at, outcome_of_row, after_settle_row, outcome_of}

-- how an error halts, by the test of the counter
by_count : (b : Bool) (before after : HostSide) → (b ≡ true → before.cerr ≡ 1) → (b ≡ false → before.cerr ≡ 1 → ⊥) → after.cerr ≡ before.cerr - 1 → ((if b then Halt Ends.Error else Error) ≡ Halt Ends.Error) ↔ RanOut before after
by_count true before after holds not_so falls = (λ _. let one = holds refl in record { one = one; none = omega arith }, λ _. refl)
by_count false before after holds not_so falls = (λ e. cc, λ r. absurd (not_so refl r.one))

error_halts : (before after : HostSide) → after.cerr ≡ before.cerr - 1 → (error_outcome before ≡ Halt Ends.Error) ↔ RanOut before after
error_halts before after falls = by_count (before.cerr == 1) before after (eqb-true before.cerr 1) (eqb-false before.cerr 1) falls

-- an outcome that isn't this halt, where the counter stays
other : (outcome : Outcome) (before after : HostSide) → (outcome ≡ Halt Ends.Error → ⊥) → after.cerr ≡ before.cerr → (outcome ≡ Halt Ends.Error) ↔ RanOut before after
other outcome before after not_so same = (λ e. absurd (not_so e), λ r. absurd (let one = r.one in let none = r.none in omega arith))

plain_error : (row : PlainRow) (host : HostSide) → (plain_outcome row host ≡ Halt Ends.Error) ↔ RanOut host (after_plain row host)
plain_error Failed host = error_halts host _ refl
plain_error FailedPinged host = error_halts host _ refl
plain_error _ host = other _ _ _ (λ e. cc) refl

start_error : (row : StartRow) (host : HostSide) → (start_outcome row host ≡ Halt Ends.Error) ↔ RanOut host (after_start row host)
start_error Unheard host = error_halts host _ refl
start_error _ host = other _ _ _ (λ e. cc) refl

answered_error : (row : PlainRow) (host : HostSide) → (plain_outcome row host ≡ Halt Ends.Error) ↔ RanOut host (record (after_plain row host) { waiting = false })
answered_error Failed host = error_halts host _ refl
answered_error FailedPinged host = error_halts host _ refl
answered_error _ host = other _ _ _ (λ e. cc) refl

complete_error : (row : CompleteRow) (host : HostSide) → (complete_outcome row host ≡ Halt Ends.Error) ↔ RanOut host (after_complete row host)
complete_error Pending host = other _ _ _ (λ e. cc) refl
complete_error (Answered row) host = answered_error row host
complete_error _ host = error_halts host _ refl

pub row_error : (row : SettleRow) (host : HostSide) → (outcome_of_row row host ≡ Halt Ends.Error) ↔ RanOut host (after_settle_row row host)
row_error (Rows.Plain row) host = plain_error row host
row_error (Rows.Start row) host = start_error row host
row_error (Rows.Complete row) host = complete_error row host

-- an error halts for no other cause
count_cause : (b : Bool) (cause : EndCause) → (if b then Halt Ends.Error else Error) ≡ Halt cause → cause ≡ Ends.Error
count_cause true cause e = cc
count_cause false cause e = cc

error_cause : (host : HostSide) (cause : EndCause) → error_outcome host ≡ Halt cause → cause ≡ Ends.Error
error_cause host cause e = count_cause (host.cerr == 1) cause e

start_cause : (row : StartRow) (host : HostSide) (cause : EndCause) → start_outcome row host ≡ Halt cause → cause ≡ Ends.Error
start_cause Unheard host cause e = error_cause host cause e
start_cause _ host cause e = cc

-- a complete-split halts for another cause only as the plain ask does
answered_cause : (row : PlainRow) (host : HostSide) (cause : EndCause) → complete_outcome (answered row) host ≡ Halt cause → plain_outcome row host ≡ Halt cause
answered_cause Failed host cause e = e
answered_cause _ host cause e = e

complete_cause : (kind : EpKind) (last : Bool) (heard : Heard) (row : PlainRow) (host : HostSide) (cause : EndCause) → (cause ≡ Ends.Error → ⊥) → complete_outcome (complete_row kind last heard row) host ≡ Halt cause → plain_outcome row host ≡ Halt cause
complete_cause Kinds.Interrupt true Heards.Nyet row host cause not_so e = absurd (not_so (error_cause host cause e))
complete_cause _ _ Heards.Nyet row host cause not_so e = cc
complete_cause Kinds.Interrupt _ Heards.Err row host cause not_so e = absurd (not_so (error_cause host cause e))
complete_cause _ _ _ row host cause not_so e = answered_cause row host cause e

stalled_row : (row : PlainRow) (host : HostSide) → plain_outcome row host ≡ Halt Ends.Stall → row ≡ Stalled
stalled_row Stalled host e = refl
stalled_row Failed host e = let other_cause = error_cause host Ends.Stall e in cc
stalled_row FailedPinged host e = let other_cause = error_cause host Ends.Stall e in cc
stalled_row _ host e = cc

babbled_row : (row : PlainRow) (host : HostSide) → plain_outcome row host ≡ Halt Ends.Babble → row ≡ Babbled
babbled_row Babbled host e = refl
babbled_row Failed host e = let other_cause = error_cause host Ends.Babble e in cc
babbled_row FailedPinged host e = let other_cause = error_cause host Ends.Babble e in cc
babbled_row _ host e = cc

stalled_heard : (token : AskToken) (heard : Heard) (sent : ℕ) → plain_row token heard sent ≡ Stalled → heard ≡ Heards.Stall
stalled_heard In Heards.Stall sent e = refl
stalled_heard _ Heards.Stall sent e = refl
stalled_heard _ _ sent e = cc

babbled_token : (token : AskToken) (heard : Heard) (sent : ℕ) → plain_row token heard sent ≡ Babbled → token ≡ In
babbled_token In heard sent e = refl
babbled_token _ Heards.Nothing sent e = cc
babbled_token _ _ sent e = cc

babbled_heard : (token : AskToken) (heard : Heard) (sent : ℕ) → plain_row token heard sent ≡ Babbled → heard ≡ Heards.TooLong
babbled_heard In Heards.TooLong sent e = refl
babbled_heard _ Heards.TooLong sent e = refl
babbled_heard _ _ sent e = cc

fits_stall : (b : Bool) (n : ℕ) → (if b then Heards.Fitting n else Heards.TooLong) ≡ Heards.Stall → ⊥
fits_stall true n e = cc
fits_stall false n e = cc

-- data is no STALL
data_stall : (toggle : Bool) (pid : Pid) (heard : Heard) → (heard ≡ Heards.Stall → ⊥) → heard_data toggle pid heard ≡ Heards.Stall → ⊥
data_stall false Packets.Data0 heard not_so e = not_so e
data_stall true Packets.Data1 heard not_so e = not_so e
data_stall _ _ heard not_so e = cc

hand_stall : (pid : Pid) → heard_hand pid ≡ Heards.Stall → pid ≡ Packets.Stall
hand_stall Packets.Stall e = refl
hand_stall _ e = cc

heard_stall : (host : HostSide) (reply : Reply) → heard_of host reply ≡ Heards.Stall → reply ≡ Hand Packets.Stall
heard_stall host Silent e = cc
heard_stall host (Bytes pid bytes) e = absurd (data_stall host.toggle pid _ (fits_stall (nat_le (length bytes) (limit_of host)) (length bytes)) e)
heard_stall host (Hand pid) e = ap Hand (hand_stall pid e)

-- too long is only data of the expected PID above the limit
hand_long : (pid : Pid) → heard_hand pid ≡ Heards.TooLong → ⊥
hand_long Packets.Out e = cc
hand_long _ e = cc

fits_long : (b : Bool) (n : ℕ) → (if b then Heards.Fitting n else Heards.TooLong) ≡ Heards.TooLong → b ≡ false
fits_long true n e = cc
fits_long false n e = refl

data_long : (toggle : Bool) (pid : Pid) (heard : Heard) → heard_data toggle pid heard ≡ Heards.TooLong → (pid ≡ expected_pid toggle) × (heard ≡ Heards.TooLong)
data_long false Packets.Data0 heard e = (refl, e)
data_long true Packets.Data1 heard e = (refl, e)
data_long _ _ heard e = let bad : ⊥ = cc in absurd bad

token_in : (pid : Pid) (speed : Speed) (kind : EpKind) → token_at pid (out_token speed kind) ≡ In → pid ≡ Packets.In
token_in Packets.In _ _ e = refl
token_in Packets.Out High Kinds.Bulk e = cc
token_in Packets.Out High Kinds.Control e = cc
token_in Packets.Out _ _ e = cc
token_in _ _ _ e = cc

-- how a STALL is settled
stall_row : (token : AskToken) (sent : ℕ) → plain_row token Heards.Stall sent ≡ Stalled
stall_row In sent = refl
stall_row _ sent = refl

stall_complete : (kind : EpKind) (last : Bool) → complete_row kind last Heards.Stall Stalled ≡ Answered Stalled
stall_complete Kinds.Interrupt true = refl
stall_complete _ _ = refl

-- how too much data is settled
long_complete : (kind : EpKind) (last : Bool) → complete_row kind last Heards.TooLong Babbled ≡ Answered Babbled
long_complete Kinds.Interrupt true = refl
long_complete _ _ = refl

stall_from : (split : Split) (kind : EpKind) (last : Bool) (token : AskToken) (sent : ℕ) (reply : Reply) (host : HostSide) → outcome_of_row (row_at split kind last (heard_of host reply) (plain_row token (heard_of host reply) sent)) host ≡ Halt Ends.Stall → (is_answered split ≡ true) × (reply ≡ Hand Packets.Stall)
stall_from Splits.Plain kind last token sent reply host e = (refl, heard_stall host reply (stalled_heard token _ sent (stalled_row _ host e)))
stall_from (Splits.Start _ _ _) kind last token sent reply host e = let wrong : Ends.Stall ≡ Ends.Error = start_cause _ host Ends.Stall e in let bad : ⊥ = cc in absurd bad
stall_from (Splits.Complete _ _) kind last token sent reply host e = (refl, heard_stall host reply (stalled_heard token _ sent (stalled_row _ host (complete_cause kind last _ _ host Ends.Stall (λ (w : Ends.Stall ≡ Ends.Error). cc) e))))

stall_to : (split : Split) (kind : EpKind) (last : Bool) (token : AskToken) (sent : ℕ) (host : HostSide) → is_answered split ≡ true → outcome_of_row (row_at split kind last Heards.Stall (plain_row token Heards.Stall sent)) host ≡ Halt Ends.Stall
stall_to Splits.Plain kind last token sent host h = ap (λ row. plain_outcome row host) (stall_row token sent)
stall_to (Splits.Start _ _ _) kind last token sent host h = cc
stall_to (Splits.Complete _ _) kind last token sent host h = ap (λ row. complete_outcome (complete_row kind last Heards.Stall row) host) (stall_row token sent) ∙ ap (λ row. complete_outcome row host) (stall_complete kind last)

pub stall_halts : (ask : Ask) (sent : ℕ) (last : Bool) (reply : Reply) (host : HostSide) → (outcome_of ask sent last reply host ≡ Halt Ends.Stall) ↔ IsStalled ask reply
stall_halts ask sent last reply host = (
  λ e. let both = stall_from ask.split ask.kind last (token_of ask) sent reply host e in record { answered = both.0; stall = both.1 },
  λ s. subst (λ (r : Reply). outcome_of ask sent last r host ≡ Halt Ends.Stall) (sym s.stall) (stall_to ask.split ask.kind last (token_of ask) sent host s.answered),
)

heard_long : (host : HostSide) (reply : Reply) → heard_of host reply ≡ Heards.TooLong → (bytes : List ℕ) × ((reply ≡ Bytes (expected_pid host.toggle) bytes) × (limit_of host < length bytes))
heard_long host Silent e = let bad : ⊥ = cc in absurd bad
heard_long host (Bytes pid bytes) e =
    let both = data_long host.toggle pid _ e in
    (bytes, (ap (λ p. Bytes p bytes) both.0, leb-false (length bytes) (limit_of host) (fits_long (nat_le (length bytes) (limit_of host)) (length bytes) both.1)))
heard_long host (Hand pid) e = absurd (hand_long pid e)

expected_heard : (toggle : Bool) (heard : Heard) → heard_data toggle (expected_pid toggle) heard ≡ heard
expected_heard false heard = refl
expected_heard true heard = refl

long_heard : (host : HostSide) (bytes : List ℕ) → limit_of host < length bytes → heard_of host (Bytes (expected_pid host.toggle) bytes) ≡ Heards.TooLong
long_heard host bytes h = expected_heard host.toggle _ ∙ ap (λ b. if b then Heards.Fitting (length bytes) else Heards.TooLong) (lt-leb (length bytes) (limit_of host) h)

babble_row : (split : Split) (kind : EpKind) (last : Bool) (token : AskToken) (sent : ℕ) (reply : Reply) (host : HostSide) → outcome_of_row (row_at split kind last (heard_of host reply) (plain_row token (heard_of host reply) sent)) host ≡ Halt Ends.Babble → (is_answered split ≡ true) × (plain_row token (heard_of host reply) sent ≡ Babbled)
babble_row Splits.Plain kind last token sent reply host e = (refl, babbled_row _ host e)
babble_row (Splits.Start _ _ _) kind last token sent reply host e = let wrong : Ends.Babble ≡ Ends.Error = start_cause _ host Ends.Babble e in let bad : ⊥ = cc in absurd bad
babble_row (Splits.Complete _ _) kind last token sent reply host e = (refl, babbled_row _ host (complete_cause kind last _ _ host Ends.Babble (λ (w : Ends.Babble ≡ Ends.Error). cc) e))

babble_to : (split : Split) (kind : EpKind) (last : Bool) (token : AskToken) (heard : Heard) (sent : ℕ) (host : HostSide) → is_answered split ≡ true → token ≡ In → heard ≡ Heards.TooLong → outcome_of_row (row_at split kind last heard (plain_row token heard sent)) host ≡ Halt Ends.Babble
babble_to Splits.Plain kind last token heard sent host h t l = simp (t, l)
babble_to (Splits.Start _ _ _) kind last token heard sent host h t l = cc
babble_to (Splits.Complete _ _) kind last token heard sent host h t l = simp (t, l, long_complete)

pub babble_halts : (ask : Ask) (sent : ℕ) (last : Bool) (reply : Reply) (host : HostSide) → (outcome_of ask sent last reply host ≡ Halt Ends.Babble) ↔ IsBabble ask reply host
babble_halts ask sent last reply host = (
  λ e. let both = babble_row ask.split ask.kind last (token_of ask) sent reply host e in
      let found = heard_long host reply (babbled_heard (token_of ask) _ sent both.1) in
      record {
        answered = both.0;
        asked = token_in ask.pid ask.speed ask.kind (babbled_token (token_of ask) _ sent both.1);
        bytes = found.0;
        heard = found.1.0;
        long = found.1.1;
      },
  λ b. subst (λ (r : Reply). outcome_of ask sent last r host ≡ Halt Ends.Babble) (sym b.heard)
      (babble_to ask.split ask.kind last (token_of ask) _ sent host b.answered (ap (λ p. token_at p (out_token ask.speed ask.kind)) b.asked) (long_heard host b.bytes b.long)),
)
