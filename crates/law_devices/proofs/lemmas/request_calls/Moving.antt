-- Which bytes an OUT or a SETUP moved: none, or all that were sent, where a handshake was heard.
use Rattle.std.proofs.Common.{◌≡◌, ℕ, nat_le, Bool, true, false, if◌then◌else◌, List, length, Option, Some, None, ap, refl, sym, subst, ◌∙◌}
use Rattle.std.proofs.lemmas.Bool.{false≢true}
use Rattle.usb_base.specs.declared.packets.Pid.{Pid}
use Rattle.usb_base.specs.declared.packets.Pid.TheVariants as Packets
use Rattle.usb_base.specs.declared.packets.Reply.{Reply}
use Rattle.usb_base.specs.declared.packets.Reply.TheVariants.{Silent, Bytes, Hand}
use Rattle.toggle_error.specs.declared.host.HostSide.{HostSide}
use Rattle.toggle_error.specs.declared.host.Outcome.{Outcome}
use Rattle.toggle_error.specs.declared.host.Outcome.TheVariants.{Moved}
use Rattle.toggle_error.specs.declared.rows.AskToken.{AskToken}
use Rattle.toggle_error.specs.declared.rows.AskToken.TheVariants as tokens
use Rattle.toggle_error.specs.declared.rows.Heard.{Heard}
use Rattle.toggle_error.specs.declared.rows.Heard.TheVariants as Heards
use Rattle.toggle_error.specs.declared.rows.SettleRow.TheVariants as Rows
use Rattle.toggle_error.specs.Columns.{limit_of, heard_data, heard_hand, heard_of}
use Rattle.toggle_error.specs.PlainRows.{plain_row, plain_outcome}
use Rattle.hc_copy.specs.WriteBack.{moved_by}
use Rattle.law_structures.specs.lent_structures.Settles.{is_moved}
use Rattle.law_structures.proofs.lemmas.lent_structures.Moving.{plain_moves, Moves, row_is}
use Rattle.law_request.specs.Host.{got_with}

-- an OUT of a control endpoint, or a SETUP
abbrev pub sending_token : Bool → AskToken
sending_token true = tokens.PingedOut
sending_token false = tokens.Setup

-- nothing moved, or all that was sent
abbrev IsSent : ℕ → Option ℕ → Type 0
IsSent sent None = Unit {0}
IsSent sent (Some n) = n ≡ sent

hand_sent : (out : Bool) (heard : Heard) (sent : ℕ) → IsSent sent (plain_moves (plain_row (sending_token out) heard sent))
hand_sent true Heards.Ack sent = refl
hand_sent true Heards.Nyet sent = refl
hand_sent true _ sent = tt
hand_sent false Heards.Ack sent = refl
hand_sent false _ sent = tt

data_none : (out b : Bool) (pid : Pid) (n : ℕ) (fits : Bool) (sent : ℕ) → plain_moves (plain_row (sending_token out) (heard_data b pid (if fits then Heards.Fitting n else Heards.TooLong)) sent) ≡ None
data_none true false Packets.Data0 n true sent = refl
data_none true false Packets.Data0 n false sent = refl
data_none true true Packets.Data1 n true sent = refl
data_none true true Packets.Data1 n false sent = refl
data_none true _ _ n fits sent = refl
data_none false false Packets.Data0 n true sent = refl
data_none false false Packets.Data0 n false sent = refl
data_none false true Packets.Data1 n true sent = refl
data_none false true Packets.Data1 n false sent = refl
data_none false _ _ n fits sent = refl

not_moved : (o : Outcome) (n : ℕ) → Moves o None → o ≡ Moved n → ⊥
not_moved o n none is = false≢true (sym none.1 ∙ ap is_moved is)

moved_as : (o : Outcome) (n sent : ℕ) (m : Option ℕ) → Moves o m → IsSent sent m → o ≡ Moved n → n ≡ sent
moved_as o n sent None none is e = absurd (not_moved o n none e)
moved_as o n sent (Some k) moves is e = sym (ap moved_by e) ∙ ap moved_by moves ∙ is

-- what was moved is what went out
pub sent_moves : (out : Bool) (host : HostSide) (reply : Reply) (sent n : ℕ) (bytes : List ℕ) → plain_outcome (plain_row (sending_token out) (heard_of host reply) sent) host ≡ Moved n → (got_with reply bytes ≡ bytes) × (n ≡ sent)
sent_moves out host Silent sent n bytes e = (
  refl,
  moved_as (plain_outcome (plain_row (sending_token out) Heards.Nothing sent) host) n sent (plain_moves (plain_row (sending_token out) Heards.Nothing sent)) (row_is (Rows.Plain (plain_row (sending_token out) Heards.Nothing sent)) host)
      (hand_sent out Heards.Nothing sent) e,
)
sent_moves out host (Hand pid) sent n bytes e = (
  refl,
  moved_as (plain_outcome (plain_row (sending_token out) (heard_hand pid) sent) host) n sent (plain_moves (plain_row (sending_token out) (heard_hand pid) sent))
      (row_is (Rows.Plain (plain_row (sending_token out) (heard_hand pid) sent)) host) (hand_sent out (heard_hand pid) sent) e,
)
sent_moves out host (Bytes pid bs) sent n bytes e =
    let heard : Heard = heard_of host (Bytes pid bs) in
    let none : Moves (plain_outcome (plain_row (sending_token out) heard sent) host) None =
    subst (Moves (plain_outcome (plain_row (sending_token out) heard sent) host)) (data_none out host.toggle pid (length bs) (nat_le (length bs) (limit_of host)) sent) (row_is (Rows.Plain (plain_row (sending_token out) heard sent)) host) in
    absurd (not_moved (plain_outcome (plain_row (sending_token out) heard sent) host) n none e)

-- a PING moves nothing, whatever would have been sent
pub ping_row : (heard : Heard) (m n : ℕ) → plain_row tokens.Ping heard m ≡ plain_row tokens.Ping heard n
ping_row Heards.Ack m n = refl
ping_row _ m n = refl

ping_none : (heard : Heard) (n : ℕ) → plain_moves (plain_row tokens.Ping heard n) ≡ None
ping_none Heards.Ack n = refl
ping_none _ n = refl

pub ping_moves : (host : HostSide) (heard : Heard) (sent n : ℕ) → plain_outcome (plain_row tokens.Ping heard sent) host ≡ Moved n → ⊥
ping_moves host heard sent n e =
    not_moved (plain_outcome (plain_row tokens.Ping heard sent) host) n
    (subst (Moves (plain_outcome (plain_row tokens.Ping heard sent) host)) (ping_none heard sent) (row_is (Rows.Plain (plain_row tokens.Ping heard sent)) host)) e
