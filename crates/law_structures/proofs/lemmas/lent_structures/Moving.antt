-- How many bytes a settle row moves, and which row fits.
use Rattle.std.proofs.Common.{◌≡◌, ℕ, ◌-◌, ◌==◌, ◌<◌, ◌≤◌, Bool, true, false, not, ◌&&◌, ◌||◌, nat_le, if◌then◌else◌, List, length, Option, Some, None, ap, refl, sym, ◌∙◌, arith, inl, inr}
use Rattle.std.specs.Prelude.{IfSome}
use Rattle.std.proofs.lemmas.Bool.{leb-true, false≢true}
use Rattle.law_common.proofs.Booleans.{and_both, none_late}
use Rattle.usb_base.specs.declared.packets.EpKind.{EpKind}
use Rattle.usb_base.specs.declared.packets.EpKind.TheVariants as Kinds
use Rattle.usb_base.specs.declared.packets.Pid.{Pid}
use Rattle.usb_base.specs.declared.packets.Pid.TheVariants as Packets
use Rattle.usb_base.specs.declared.packets.Reply.{Reply}
use Rattle.usb_base.specs.declared.packets.Reply.TheVariants.{Silent, Bytes, Hand}
use Rattle.usb_base.specs.declared.packets.Split.{Split}
use Rattle.usb_base.specs.declared.packets.Split.TheVariants as Splits
use Rattle.toggle_error.specs.declared.host.HostSide.{HostSide}
use Rattle.toggle_error.specs.declared.host.Outcome.{Outcome}
use Rattle.toggle_error.specs.declared.host.Outcome.TheVariants as outcomes
use Rattle.toggle_error.specs.declared.rows.AskToken.{AskToken}
use Rattle.toggle_error.specs.declared.rows.AskToken.TheVariants as tokens
use Rattle.toggle_error.specs.declared.rows.CompleteRow.{CompleteRow}
use Rattle.toggle_error.specs.declared.rows.CompleteRow.TheVariants.{Pending, Answered}
use Rattle.toggle_error.specs.declared.rows.Heard.{Heard}
use Rattle.toggle_error.specs.declared.rows.Heard.TheVariants as Heards
use Rattle.toggle_error.specs.declared.rows.PlainRow.{PlainRow}
use Rattle.toggle_error.specs.declared.rows.PlainRow.TheVariants.{Received, Babbled, Sent, SentLast, Stalled, Failed, FailedPinged}
use Rattle.toggle_error.specs.declared.rows.SettleRow.{SettleRow}
use Rattle.toggle_error.specs.declared.rows.SettleRow.TheVariants as Rows
use Rattle.toggle_error.specs.declared.rows.StartRow.{StartRow}
use Rattle.toggle_error.specs.declared.rows.StartRow.TheVariants.{Unheard}
use Rattle.toggle_error.specs.Columns.{limit_of, fitting, heard_data, heard_hand, heard_of}
use Rattle.toggle_error.specs.PlainRows.{plain_row, is_last_error, error_outcome, plain_outcome, after_plain}
use Rattle.toggle_error.specs.SplitRows.{start_outcome, after_start, answered, complete_row, complete_outcome, after_complete}
use Rattle.toggle_error.specs.Settle.{row_at, outcome_of_row, after_settle_row}
use Rattle.hc_copy.specs.WriteBack.{moved_by}
use Rattle.law_structures.specs.lent_structures.Settles.{is_moved, Leaves}

-- ---- how many bytes

abbrev pub plain_moves : PlainRow → Option ℕ
plain_moves (Received n) = Some n
plain_moves (Sent n) = Some n
plain_moves (SentLast n) = Some n
plain_moves _ = None

abbrev complete_moves : CompleteRow → Option ℕ
complete_moves (Answered row) = plain_moves row
complete_moves _ = None

abbrev pub row_moves : SettleRow → Option ℕ
row_moves (Rows.Plain row) = plain_moves row
row_moves (Rows.Start row) = None
row_moves (Rows.Complete row) = complete_moves row

-- the outcome says that so many were moved, or that none were
abbrev pub Moves : Outcome → Option ℕ → Type 0
Moves o None = (moved_by o ≡ 0) × (is_moved o ≡ false)
Moves o (Some n) = o ≡ outcomes.Moved n

error_moves : (host : HostSide) (last : Bool) → is_last_error host ≡ last → Moves (error_outcome host) None
error_moves host true e = rw e (refl, refl)
error_moves host false e = rw e (refl, refl)

plain_is : (row : PlainRow) (host : HostSide) → Moves (plain_outcome row host) (plain_moves row)
plain_is (Received n) host = refl
plain_is (Sent n) host = refl
plain_is (SentLast n) host = refl
plain_is Failed host = error_moves host (is_last_error host) refl
plain_is FailedPinged host = error_moves host (is_last_error host) refl
plain_is _ host = (refl, refl)

start_is : (row : StartRow) (host : HostSide) → Moves (start_outcome row host) None
start_is Unheard host = error_moves host (is_last_error host) refl
start_is _ host = (refl, refl)

complete_is : (row : CompleteRow) (host : HostSide) → Moves (complete_outcome row host) (complete_moves row)
complete_is Pending host = (refl, refl)
complete_is (Answered row) host = plain_is row host
complete_is _ host = error_moves host (is_last_error host) refl

pub row_is : (row : SettleRow) (host : HostSide) → Moves (outcome_of_row row host) (row_moves row)
row_is (Rows.Plain row) host = plain_is row host
row_is (Rows.Start row) host = start_is row host
row_is (Rows.Complete row) host = complete_is row host

-- ---- which row it is

answered_fits : (P : Option ℕ → Type 0) (row : PlainRow) → P None → P (plain_moves row) → P (complete_moves (answered row))
answered_fits P Failed none some = none
answered_fits P FailedPinged none some = none
answered_fits P _ none some = some

complete_fits : (P : Option ℕ → Type 0) (kind : EpKind) (last : Bool) (heard : Heard) (plain : PlainRow) → P None → P (plain_moves plain) → P (complete_moves (complete_row kind last heard plain))
complete_fits P Kinds.Interrupt true Heards.Nyet plain none some = none
complete_fits P _ _ Heards.Nyet plain none some = none
complete_fits P Kinds.Interrupt _ Heards.Err plain none some = none
complete_fits P _ _ _ plain none some = answered_fits P plain none some

pub row_fits : (P : Option ℕ → Type 0) (split : Split) (kind : EpKind) (last : Bool) (heard : Heard) (plain : PlainRow) → P None → P (plain_moves plain) → P (row_moves (row_at split kind last heard plain))
row_fits P Splits.Plain kind last heard plain none some = some
row_fits P (Splits.Start hub port part) kind last heard plain none some = none
row_fits P (Splits.Complete hub port) kind last heard plain none some = complete_fits P kind last heard plain none some

-- what was heard as fitting data
abbrev pub heard_bytes : Heard → Option ℕ
heard_bytes (Heards.Fitting n) = Some n
heard_bytes _ = None

pub plain_fits : (P : Option ℕ → Type 0) (token : AskToken) (heard : Heard) (sent : ℕ) → P None → P (heard_bytes heard) → P (Some sent) → P (plain_moves (plain_row token heard sent))
plain_fits P tokens.In (Heards.Fitting n) sent none got out = got
plain_fits P tokens.Out Heards.Ack sent none got out = out
plain_fits P tokens.PingedOut Heards.Ack sent none got out = out
plain_fits P tokens.Setup Heards.Ack sent none got out = out
plain_fits P tokens.PingedOut Heards.Nyet sent none got out = out
plain_fits P _ Heards.Stall sent none got out = none
plain_fits P _ _ sent none got out = none

pub in_fits : (heard : Heard) (sent : ℕ) → plain_moves (plain_row tokens.In heard sent) ≡ heard_bytes heard
in_fits (Heards.Fitting n) sent = refl
in_fits _ sent = refl

hand_fits : (P : Option ℕ → Type 0) (pid : Pid) → P None → P (heard_bytes (heard_hand pid))
hand_fits P Packets.Ack none = none
hand_fits P _ none = none

data_fits : (P : Option ℕ → Type 0) (b : Bool) (pid : Pid) (expected : Heard) → P None → P (heard_bytes expected) → P (heard_bytes (heard_data b pid expected))
data_fits P false Packets.Data0 expected none some = some
data_fits P true Packets.Data1 expected none some = some
data_fits P _ _ expected none some = none

fitting_fits : (P : Option ℕ → Type 0) (n limit : ℕ) (b : Bool) → nat_le n limit ≡ b → P None → (n ≤ limit → P (Some n)) → P (heard_bytes (if b then Heards.Fitting n else Heards.TooLong))
fitting_fits P n limit true e none some = some (leb-true n limit e)
fitting_fits P n limit false e none some = none

pub heard_fits : (P : Option ℕ → Type 0) (host : HostSide) (reply : Reply) → P None → ((pid : Pid) (bs : List ℕ) → reply ≡ Bytes pid bs → length bs ≤ limit_of host → P (Some (length bs))) → P (heard_bytes (heard_of host reply))
heard_fits P host Silent none some = none
heard_fits P host (Hand pid) none some = hand_fits P pid none
heard_fits P host (Bytes pid bs) none some =
    data_fits P host.toggle pid (fitting (length bs) (limit_of host)) none (fitting_fits P (length bs) (limit_of host) (nat_le (length bs) (limit_of host)) refl none (some pid bs refl))

-- ---- the host's side after it

not_or : (a b : Bool) → (not a && b) ≡ true → (a ≡ false) × (b ≡ true)
not_or false b e = (refl, e)
not_or true b e = absurd (false≢true e)

left_some : (n : ℕ) → not (n == 0) ≡ true → 0 < n
left_some n e = grind (arith, e)

-- nothing moved, and whether it goes on stays
stays : (host : HostSide) (o : Outcome) (after : HostSide) → Moves o None → after.left ≡ host.left → after.max ≡ host.max → after.cerr ≤ host.cerr → after.toggle ≡ host.toggle → (after.active ≡ true → host.active ≡ true) → (host.halted ≡ false → after.active ≡ true → after.halted ≡ false) → Leaves host o after
stays host o after none left packets errors toggle went goes = record {
  left = (let n = none.0 in omega (arith, n, left));
  packets = packets;
  errors = errors;
  toggle = toggle ∙ ap (λ (b : Bool). if b then not host.toggle else host.toggle) (sym none.1);
  went_on = went;
  goes_on = goes;
  some_left = λ on. inl none.0;
}

erred_leaves : (host : HostSide) (after : HostSide) → after.left ≡ host.left → after.max ≡ host.max → after.cerr ≡ host.cerr - 1 → after.toggle ≡ host.toggle → after.active ≡ (not (is_last_error host) && host.active) → after.halted ≡ (is_last_error host || host.halted) → Leaves host (error_outcome host) after
erred_leaves host after left packets errors toggle active halted =
    stays host (error_outcome host) after (error_moves host (is_last_error host) refl) left packets (omega (arith, errors)) toggle
    (λ on. (not_or (is_last_error host) host.active (sym active ∙ on)).1)
    (λ off on. halted ∙ none_late (is_last_error host) host.halted (not_or (is_last_error host) host.active (sym active ∙ on)).0 off)

moves : (host : HostSide) (n : ℕ) (after : HostSide) → n ≤ host.left → after.left ≡ host.left - n → after.max ≡ host.max → after.cerr ≡ host.cerr → after.toggle ≡ not host.toggle → after.halted ≡ host.halted → (after.active ≡ true → (not (host.left - n == 0) ≡ true) × (host.active ≡ true)) → Leaves host (outcomes.Moved n) after
moves host n after within left packets errors toggle halted active = record {
  left = omega (arith, within, left);
  packets = packets;
  errors = omega (arith, errors);
  toggle = toggle;
  went_on = λ on. (active on).1;
  goes_on = λ off on. halted ∙ off;
  some_left = λ on. inr (let some = left_some (host.left - n) (active on).0 in omega (arith, left, some));
}

plain_leaves : (row : PlainRow) (host : HostSide) → IfSome (plain_moves row) (λ n. n ≤ host.left) → Leaves host (plain_outcome row host) (after_plain row host)
plain_leaves (Received n) host within =
    moves host n (after_plain (Received n) host) within refl refl refl refl refl
    (λ on. let both = and_both (nat_le host.max n && not (host.left - n == 0)) host.active on in ((and_both (nat_le host.max n) (not (host.left - n == 0)) both.0).1, both.1))
plain_leaves (Sent n) host within = moves host n (after_plain (Sent n) host) within refl refl refl refl refl (λ on. and_both (not (host.left - n == 0)) host.active on)
plain_leaves (SentLast n) host within = moves host n (after_plain (SentLast n) host) within refl refl refl refl refl (λ on. and_both (not (host.left - n == 0)) host.active on)
plain_leaves Failed host within = erred_leaves host (after_plain Failed host) refl refl refl refl refl refl
plain_leaves FailedPinged host within = erred_leaves host (after_plain FailedPinged host) refl refl refl refl refl refl
plain_leaves Babbled host within = stays host (plain_outcome Babbled host) (after_plain Babbled host) (refl, refl) refl refl (omega arith) refl (λ on. absurd (false≢true on)) (λ off on. absurd (false≢true on))
plain_leaves Stalled host within = stays host (plain_outcome Stalled host) (after_plain Stalled host) (refl, refl) refl refl (omega arith) refl (λ on. absurd (false≢true on)) (λ off on. absurd (false≢true on))
plain_leaves row host within = stays host (plain_outcome row host) (after_plain row host) (refl, refl) refl refl (omega arith) refl (λ on. on) (λ off on. off)

start_leaves : (row : StartRow) (host : HostSide) → Leaves host (start_outcome row host) (after_start row host)
start_leaves Unheard host = erred_leaves host (after_start Unheard host) refl refl refl refl refl refl
start_leaves row host = stays host (start_outcome row host) (after_start row host) (refl, refl) refl refl (omega arith) refl (λ on. on) (λ off on. off)

-- that a complete-split came isn't told here
waited : (host after : HostSide) (o : Outcome) → Leaves host o after → Leaves host o (record after { waiting = false })
waited host after o l = record { left = l.left; packets = l.packets; errors = l.errors; toggle = l.toggle; went_on = l.went_on; goes_on = l.goes_on; some_left = l.some_left }

complete_leaves : (row : CompleteRow) (host : HostSide) → IfSome (complete_moves row) (λ n. n ≤ host.left) → Leaves host (complete_outcome row host) (after_complete row host)
complete_leaves Pending host within = stays host (complete_outcome Pending host) (after_complete Pending host) (refl, refl) refl refl (omega arith) refl (λ on. on) (λ off on. off)
complete_leaves (Answered row) host within = waited host (after_plain row host) (plain_outcome row host) (plain_leaves row host within)
complete_leaves row host within = erred_leaves host (after_complete row host) refl refl refl refl refl refl

pub row_leaves : (row : SettleRow) (host : HostSide) → IfSome (row_moves row) (λ n. n ≤ host.left) → Leaves host (outcome_of_row row host) (after_settle_row row host)
row_leaves (Rows.Plain row) host within = plain_leaves row host within
row_leaves (Rows.Start row) host within = start_leaves row host
row_leaves (Rows.Complete row) host within = complete_leaves row host within
