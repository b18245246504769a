-- What the transaction of a queue head leaves, whatever is heard.
use Rattle.std.proofs.Common.{◌≡◌, ℕ, ◌≤◌, Bool, false, List, [], length, Option, ap, refl, sym, subst, ◌∙◌, arith}
use Rattle.std.specs.Prelude.{IfSome}
use Rattle.law_structures.proofs.Common.{few_if, in_token}
use Rattle.usb_base.specs.declared.packets.Ask.{Ask}
use Rattle.usb_base.specs.declared.packets.EpKind.{EpKind}
use Rattle.usb_base.specs.declared.packets.Pid.{Pid}
use Rattle.usb_base.specs.declared.packets.Pid.TheVariants as Packets
use Rattle.usb_base.specs.declared.packets.Reply.{Reply}
use Rattle.usb_base.specs.declared.packets.Reply.TheVariants.{Bytes}
use Rattle.usb_base.specs.declared.packets.Split.{Split}
use Rattle.usb_base.specs.declared.packets.Split.TheVariants as Splits
use Rattle.qh_qtd.specs.declared.queue_head.Qh.{Qh}
use Rattle.toggle_error.specs.declared.host.HostSide.{HostSide}
use Rattle.toggle_error.specs.declared.host.Outcome.{Outcome}
use Rattle.toggle_error.specs.declared.host.Outcome.TheVariants as outcomes
use Rattle.toggle_error.specs.declared.rows.AskToken.{AskToken}
use Rattle.toggle_error.specs.declared.rows.AskToken.TheVariants as tokens
use Rattle.toggle_error.specs.Columns.{heard_of, out_token, token_at, token_of}
use Rattle.toggle_error.specs.PlainRows.{plain_row}
use Rattle.toggle_error.specs.Settle.{row_at, outcome_of_row, settle_row, outcome_of}
use Rattle.transactions.specs.Asks.{ask_of, token_pid, pinged}
use Rattle.transactions.specs.Calls.{got_of, complete_sent, moving_of}
use Rattle.hc_copy.specs.declared.held.Transaction.{Transaction}
use Rattle.hc_copy.specs.Planning.{pid_at, carries, transaction_of}
use Rattle.hc_copy.specs.Transacting.{outcome_in}
use Rattle.hc_copy.specs.WriteBack.{moved_by}
use Rattle.law_structures.specs.lent_structures.Settles.{is_moved, Settles}
use Rattle.law_structures.proofs.lemmas.lent_structures.Moving.{row_moves, Moves, row_is, row_fits, plain_fits, in_fits, heard_fits, row_leaves}

-- ---- what an acknowledgement moves is no more than is left

complete_few : (pid : Pid) (host : HostSide) → complete_sent pid host ≤ host.left
complete_few Packets.Out host = omega arith
complete_few _ host = omega arith

moving_few : (split : Split) (pid : Pid) (host : HostSide) (n : ℕ) → n ≤ host.left → moving_of split pid host n ≤ host.left
moving_few (Splits.Complete hub port) pid host n within = complete_few pid host
moving_few _ pid host n within = within

fits : (ask : Ask) (sent : ℕ) (last : Bool) (reply : Reply) (host : HostSide) → sent ≤ host.left → IfSome (row_moves (settle_row ask sent last reply host)) (λ n. n ≤ host.left)
fits ask sent last reply host within =
    let P : Option ℕ → Type 0 = λ (o : Option ℕ). IfSome o (λ n. n ≤ host.left) in
    row_fits P ask.split ask.kind last (heard_of host reply) (plain_row (token_of ask) (heard_of host reply) sent) tt
    (plain_fits P (token_of ask) (heard_of host reply) sent tt (heard_fits P host reply tt (λ pid bs is few. omega (arith, few))) within)

-- ---- the bytes received

-- other tokens receive none
none_got : (pid : Pid) (o : Outcome) (reply : Reply) → (pid ≡ Packets.In → ⊥) → got_of pid o reply ≡ []
none_got Packets.In o reply other = absurd (other refl)
none_got _ o reply other = refl

no_bytes : (o : Outcome) (reply : Reply) → moved_by o ≡ 0 → is_moved o ≡ false → length (got_of Packets.In o reply) ≡ moved_by o
no_bytes (outcomes.Moved n) reply zero off = cc
no_bytes _ reply zero off = refl

-- what an IN brought, by how many bytes its row moves
abbrev HasBrought : Outcome → Reply → Option ℕ → Type 0
HasBrought o reply x = Moves o x → length (got_of Packets.In o reply) ≡ moved_by o

brought_some : (o : Outcome) (reply : Reply) (pid : Pid) (bs : List ℕ) → reply ≡ Bytes pid bs → o ≡ outcomes.Moved (length bs) → length (got_of Packets.In o reply) ≡ moved_by o
brought_some o reply pid bs is moved = rw moved (rw is refl)

brings : (split : Split) (kind : EpKind) (last : Bool) (reply : Reply) (host : HostSide) (sent : ℕ) → HasBrought (outcome_of_row (row_at split kind last (heard_of host reply) (plain_row tokens.In (heard_of host reply) sent)) host) reply (row_moves (row_at split kind last (heard_of host reply) (plain_row tokens.In (heard_of host reply) sent)))
brings split kind last reply host sent =
    let o : Outcome = outcome_of_row (row_at split kind last (heard_of host reply) (plain_row tokens.In (heard_of host reply) sent)) host in
    let P : Option ℕ → Type 0 = λ (x : Option ℕ). HasBrought o reply x in
    row_fits P split kind last (heard_of host reply) (plain_row tokens.In (heard_of host reply) sent) (λ m. no_bytes o reply m.0 m.1)
    (subst P (sym (in_fits (heard_of host reply) sent)) (heard_fits P host reply (λ m. no_bytes o reply m.0 m.1) (λ pid bs is few m. brought_some o reply pid bs is m)))

in_brings : (ask : Ask) (sent : ℕ) (last : Bool) (reply : Reply) (host : HostSide) → ask.pid ≡ Packets.In → length (got_of Packets.In (outcome_of ask sent last reply host) reply) ≡ moved_by (outcome_of ask sent last reply host)
in_brings ask sent last reply host pid =
    let token : token_of ask ≡ tokens.In = ap (λ (p : Pid). token_at p (out_token ask.speed ask.kind)) pid in
    subst (λ (t : AskToken). length (got_of Packets.In (outcome_of_row (row_at ask.split ask.kind last (heard_of host reply) (plain_row t (heard_of host reply) sent)) host) reply) ≡ moved_by (outcome_of_row (row_at ask.split ask.kind last (heard_of host reply) (plain_row t (heard_of host reply) sent)) host)) (sym token)
    (brings ask.split ask.kind last reply host sent (row_is (row_at ask.split ask.kind last (heard_of host reply) (plain_row tokens.In (heard_of host reply) sent)) host))

-- ---- both

pub a_transaction_settles : (kind : EpKind) (q : Qh) (out : List ℕ) (last : Bool) (reply : Reply) → length out ≡ (transaction_of kind q).bytes → Settles kind q out last reply
a_transaction_settles kind q out last reply long =
    let t : Transaction = transaction_of kind q in
    let sent : ℕ = moving_of t.split t.pipe.pid t.host (length out) in
    let few : length out ≤ t.host.left = let b = few_if (carries t.split t.pipe.pid t.host.ping) t.host in omega (arith, long, b) in
    record {
      host = row_leaves (settle_row (ask_of t.split t.pipe t.host) sent last reply t.host) t.host (fits (ask_of t.split t.pipe t.host) sent last reply t.host (moving_few t.split t.pipe.pid t.host (length out) few));
      bytes = record {
        all = λ is. subst (λ (p : Pid). length (got_of p (outcome_in t out last reply) reply) ≡ moved_by (outcome_in t out last reply)) (sym is)
            (in_brings (ask_of t.split t.pipe t.host) sent last reply t.host (ap (λ (p : Pid). token_pid t.split p (pinged t.pipe.kind t.host.ping)) is ∙ in_token t.split (pinged t.pipe.kind t.host.ping)));
        none = λ other. none_got (pid_at q.token.pid) (outcome_in t out last reply) reply other;
      };
    }
