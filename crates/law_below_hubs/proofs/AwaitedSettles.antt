-- What an answer that suits leaves of the host of a bulk or control endpoint below a hub: it counts no error, and waits for nothing more.
use Rattle.std.proofs.Common.{◌≡◌, ℕ, ◌-◌, ◌==◌, ◌&&◌, not, Bool, true, false, if◌then◌else◌, length, nat_le, arith}
use Rattle.std.proofs.Common.{ap, refl, sym, subst, ◌∙◌, inl, inr}
use Rattle.std.specs.Prelude.{◌⊎◌}
use Rattle.std.proofs.lemmas.Bool.{false≢true, eq-eqb}
use Rattle.usb_base.specs.declared.packets.EpKind.{EpKind}
use Rattle.usb_base.specs.declared.packets.EpKind.TheVariants as Kinds
use Rattle.usb_base.specs.declared.packets.Pid.{Pid}
use Rattle.usb_base.specs.declared.packets.Pid.TheVariants as Pids
use Rattle.usb_base.specs.declared.packets.Reply.{Reply}
use Rattle.usb_base.specs.declared.packets.Reply.TheVariants as Replies
use Rattle.usb_base.specs.declared.packets.Speed.{Speed}
use Rattle.usb_base.specs.declared.packets.Speed.TheVariants as Speeds
use Rattle.toggle_error.specs.declared.host.HostSide.{HostSide}
use Rattle.toggle_error.specs.declared.rows.AskToken.{AskToken}
use Rattle.toggle_error.specs.declared.rows.AskToken.TheVariants as tokens
use Rattle.toggle_error.specs.declared.rows.Heard.{Heard}
use Rattle.toggle_error.specs.declared.rows.Heard.TheVariants as Heards
use Rattle.toggle_error.specs.declared.rows.CompleteRow.{CompleteRow}
use Rattle.toggle_error.specs.declared.rows.PlainRow.{PlainRow}
use Rattle.toggle_error.specs.Columns.{limit_of, out_token, token_at, heard_data, heard_of}
use Rattle.toggle_error.specs.PlainRows.{plain_row}
use Rattle.toggle_error.specs.SplitRows.{complete_row, after_complete}
use Rattle.transactions.specs.Calls.{complete_sent}
use Rattle.hc_copy.specs.Planning.{pid_at}
use Rattle.law_below_hubs.specs.Awaited.{suits, is_toggled, Asking, Moves, Controls, its_kind}

-- ---- what the host counts

-- what an answer leaves of the host's side
pub record Answered (before after : HostSide) : Type 0 where
  pub waiting : after.waiting ≡ false
  pub errors : after.cerr ≡ before.cerr

abbrev out_by : Bool → AskToken
out_by true = tokens.PingedOut
out_by false = tokens.Out

abbrev is_pinged : Speed → Bool
is_pinged Speeds.High = true
is_pinged _ = false

out_is : (a : Asking) (s : Speed) → out_token s (its_kind a) ≡ out_by (is_pinged s)
out_is (Moves code) Speeds.High = refl
out_is (Moves code) Speeds.Full = refl
out_is (Moves code) Speeds.Low = refl
out_is Controls Speeds.High = refl
out_is Controls Speeds.Full = refl
out_is Controls Speeds.Low = refl

abbrev pub Back : EpKind → AskToken → Heard → ℕ → HostSide → HostSide
Back kind token h sent host = after_complete (complete_row kind false h (plain_row token h sent)) host

-- of a transaction through a buffer
abbrev After : AskToken → Heard → ℕ → HostSide → HostSide
After token h sent host = Back Kinds.Bulk token h sent host

buffered_by : (h : Heard) (row : PlainRow) → complete_row Kinds.Control false h row ≡ complete_row Kinds.Bulk false h row
buffered_by Heards.Nyet row = refl
buffered_by Heards.Err row = refl
buffered_by (Heards.Fitting n) row = refl
buffered_by Heards.Repeat row = refl
buffered_by Heards.TooLong row = refl
buffered_by Heards.Ack row = refl
buffered_by Heards.Nak row = refl
buffered_by Heards.Stall row = refl
buffered_by Heards.Nothing row = refl

buffered : (a : Asking) (token : AskToken) (h : Heard) (sent : ℕ) (host : HostSide)
    → Back (its_kind a) token h sent host ≡ After token h sent host
buffered (Moves code) token h sent host = refl
buffered Controls token h sent host = ap (λ (row : CompleteRow). after_complete row host) (buffered_by h (plain_row token h sent))

in_data : (toggle : Bool) (pid : Pid) (short : Bool) (n sent : ℕ) (host : HostSide) → is_toggled pid ≡ true
    → Answered host (After tokens.In (heard_data toggle pid (if short then Heards.Fitting n else Heards.TooLong)) sent host)
in_data false Pids.Data0 true n sent host is = record { waiting = refl; errors = refl }
in_data false Pids.Data0 false n sent host is = record { waiting = refl; errors = refl }
in_data true Pids.Data1 true n sent host is = record { waiting = refl; errors = refl }
in_data true Pids.Data1 false n sent host is = record { waiting = refl; errors = refl }
in_data false Pids.Data1 short n sent host is = record { waiting = refl; errors = refl }
in_data true Pids.Data0 short n sent host is = record { waiting = refl; errors = refl }
in_data _ _ short n sent host is = absurd (cc)

in_answered : (host : HostSide) (reply : Reply) (sent : ℕ) → suits Pids.In reply ≡ true
    → Answered host (After tokens.In (heard_of host reply) sent host)
in_answered host Replies.Silent sent is = absurd (cc)
in_answered host (Replies.Bytes pid bytes) sent is =
    in_data host.toggle pid (nat_le (length bytes) (limit_of host)) (length bytes) sent host is
in_answered host (Replies.Hand Pids.Nak) sent is = record { waiting = refl; errors = refl }
in_answered host (Replies.Hand Pids.Stall) sent is = record { waiting = refl; errors = refl }
in_answered host (Replies.Hand _) sent is = absurd (cc)

out_answered : (b : Bool) (host : HostSide) (reply : Reply) (sent : ℕ) → suits Pids.Out reply ≡ true
    → Answered host (After (out_by b) (heard_of host reply) sent host)
out_answered true host (Replies.Hand Pids.Ack) sent is = record { waiting = refl; errors = refl }
out_answered true host (Replies.Hand Pids.Nak) sent is = record { waiting = refl; errors = refl }
out_answered true host (Replies.Hand Pids.Stall) sent is = record { waiting = refl; errors = refl }
out_answered false host (Replies.Hand Pids.Ack) sent is = record { waiting = refl; errors = refl }
out_answered false host (Replies.Hand Pids.Nak) sent is = record { waiting = refl; errors = refl }
out_answered false host (Replies.Hand Pids.Stall) sent is = record { waiting = refl; errors = refl }
out_answered _ host _ sent is = absurd (cc)

setup_answered : (host : HostSide) (reply : Reply) (sent : ℕ) → suits Pids.Setup reply ≡ true
    → Answered host (After tokens.Setup (heard_of host reply) sent host)
setup_answered host (Replies.Hand Pids.Ack) sent is = record { waiting = refl; errors = refl }
setup_answered host (Replies.Hand Pids.Stall) sent is = record { waiting = refl; errors = refl }
setup_answered host _ sent is = absurd (cc)

-- one that moved all that is left is done
all_moved : (n : ℕ) (active : Bool) → (not (n - n == 0) && active) ≡ true → ⊥
all_moved n active on = false≢true (sym (ap (λ (b : Bool). not b && active) (eq-eqb (n - n) 0 (omega arith))) ∙ on)

setup_whole : (host : HostSide) (reply : Reply) → suits Pids.Setup reply ≡ true → limit_of host ≡ host.left
    → (After tokens.Setup (heard_of host reply) (limit_of host) host).active ≡ true
    → (After tokens.Setup (heard_of host reply) (limit_of host) host).left ≡ host.left
setup_whole host (Replies.Hand Pids.Ack) is whole on =
    absurd (all_moved host.left host.active (ap (λ (n : ℕ). not (host.left - n == 0) && host.active) (sym whole) ∙ on))
setup_whole host (Replies.Hand Pids.Stall) is whole on = absurd (false≢true on)
setup_whole host _ is whole on = absurd (cc)

-- the token of a PID code
pub pid_cases : (code : ℕ) → (pid_at code ≡ Pids.In) ⊎ ((pid_at code ≡ Pids.Out) ⊎ (pid_at code ≡ Pids.Setup))
pid_cases code = by (code == 0) (code == 1)
  where
    by : (b c : Bool)
        → ((if b then Pids.Out else if c then Pids.In else Pids.Setup) ≡ Pids.In)
        ⊎ (((if b then Pids.Out else if c then Pids.In else Pids.Setup) ≡ Pids.Out)
        ⊎ ((if b then Pids.Out else if c then Pids.In else Pids.Setup) ≡ Pids.Setup))
    by true c = inr (inl refl)
    by false true = inl refl
    by false false = inr (inr refl)

pid_answered : (pid : Pid) → (pid ≡ Pids.In) ⊎ ((pid ≡ Pids.Out) ⊎ (pid ≡ Pids.Setup)) → (b : Bool) (host : HostSide) (reply : Reply)
    (sent : ℕ) → suits pid reply ≡ true → Answered host (After (token_at pid (out_by b)) (heard_of host reply) sent host)
pid_answered pid (inl is) b host reply sent fine =
    subst (λ (p : Pid). Answered host (After (token_at p (out_by b)) (heard_of host reply) sent host)) (sym is)
    (in_answered host reply sent (ap (λ (p : Pid). suits p reply) (sym is) ∙ fine))
pid_answered pid (inr (inl is)) b host reply sent fine =
    subst (λ (p : Pid). Answered host (After (token_at p (out_by b)) (heard_of host reply) sent host)) (sym is)
    (out_answered b host reply sent (ap (λ (p : Pid). suits p reply) (sym is) ∙ fine))
pid_answered pid (inr (inr is)) b host reply sent fine =
    subst (λ (p : Pid). Answered host (After (token_at p (out_by b)) (heard_of host reply) sent host)) (sym is)
    (setup_answered host reply sent (ap (λ (p : Pid). suits p reply) (sym is) ∙ fine))

pub code_answered : (a : Asking) (code : ℕ) (s : Speed) (host : HostSide) (reply : Reply) (sent : ℕ) → suits (pid_at code) reply ≡ true
    → Answered host (Back (its_kind a) (token_at (pid_at code) (out_token s (its_kind a))) (heard_of host reply) sent host)
code_answered a code s host reply sent fine =
    subst (Answered host) (sym (buffered a (token_at (pid_at code) (out_token s (its_kind a))) (heard_of host reply) sent host))
    (subst (λ (t : AskToken). Answered host (After (token_at (pid_at code) t) (heard_of host reply) sent host)) (sym (out_is a s))
    (pid_answered (pid_at code) (pid_cases code) (is_pinged s) host reply sent fine))

pub code_whole : (a : Asking) (code : ℕ) (s : Speed) (host : HostSide) (reply : Reply) → suits (pid_at code) reply ≡ true
    → pid_at code ≡ Pids.Setup → limit_of host ≡ host.left
    → (Back (its_kind a) (token_at (pid_at code) (out_token s (its_kind a))) (heard_of host reply) (complete_sent (pid_at code) host)
    host).active ≡ true
    → (Back (its_kind a) (token_at (pid_at code) (out_token s (its_kind a))) (heard_of host reply) (complete_sent (pid_at code) host)
    host).left ≡ host.left
code_whole a code s host reply fine setup whole =
    subst (λ (z : HostSide). z.active ≡ true → z.left ≡ host.left)
    (sym (buffered a (token_at (pid_at code) (out_token s (its_kind a))) (heard_of host reply) (complete_sent (pid_at code) host) host))
    (subst (λ (p : Pid). (After (token_at p (out_token s (its_kind a))) (heard_of host reply) (complete_sent p host) host).active ≡ true
    → (After (token_at p (out_token s (its_kind a))) (heard_of host reply) (complete_sent p host) host).left ≡ host.left) (sym setup)
    (setup_whole host reply (ap (λ (p : Pid). suits p reply) (sym setup) ∙ fine) whole))
