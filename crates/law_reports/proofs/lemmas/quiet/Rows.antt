-- What the host makes of a reply: no row sets the bit of a missed microframe, and only one that counts an error changes the count.
use Rattle.std.proofs.Common.{◌≡◌, ◌≢◌, ℕ, ◌-◌, nat_le, ◌==◌, Bool, true, false, not, ◌&&◌, if◌then◌else◌, length, ap, refl, sym, ◌∙◌}
use Rattle.std.proofs.lemmas.Bool.{false≢true}
use Rattle.usb_base.specs.declared.packets.Ask.{Ask}
use Rattle.usb_base.specs.declared.packets.EpKind.{EpKind}
use Rattle.usb_base.specs.declared.packets.EpKind.TheVariants as kinds
use Rattle.usb_base.specs.declared.packets.Pid.{Pid}
use Rattle.usb_base.specs.declared.packets.Pid.TheVariants as pids
use Rattle.usb_base.specs.declared.packets.Reply.{Reply}
use Rattle.usb_base.specs.declared.packets.Reply.TheVariants as replies
use Rattle.usb_base.specs.declared.packets.Speed.{Speed}
use Rattle.usb_base.specs.declared.packets.Speed.TheVariants.{High}
use Rattle.usb_base.specs.declared.packets.Split.{Split}
use Rattle.usb_base.specs.declared.packets.Split.TheVariants as splits
use Rattle.toggle_error.specs.declared.host.HostSide.{HostSide}
use Rattle.toggle_error.specs.declared.rows.AskToken.TheVariants as tokens
use Rattle.toggle_error.specs.declared.rows.CompleteRow.{CompleteRow}
use Rattle.toggle_error.specs.declared.rows.CompleteRow.TheVariants.{Answered}
use Rattle.toggle_error.specs.declared.rows.Heard.{Heard}
use Rattle.toggle_error.specs.declared.rows.Heard.TheVariants as heards
use Rattle.toggle_error.specs.declared.rows.PlainRow.{PlainRow}
use Rattle.toggle_error.specs.declared.rows.PlainRow.TheVariants as plains
use Rattle.toggle_error.specs.declared.rows.SettleRow.{SettleRow}
use Rattle.toggle_error.specs.declared.rows.SettleRow.TheVariants.{Plain, Start, Complete}
use Rattle.toggle_error.specs.declared.rows.StartRow.{StartRow}
use Rattle.toggle_error.specs.declared.rows.StartRow.TheVariants.{Accepted}
use Rattle.toggle_error.specs.Columns.{limit_of, heard_data, heard_of, out_token, token_at, token_of}
use Rattle.toggle_error.specs.PlainRows.{plain_row, after_plain}
use Rattle.toggle_error.specs.SplitRows.{after_start, after_complete}
use Rattle.toggle_error.specs.Settle.{row_at, settle_row, after_settle_row, settled}
use Rattle.hc_copy.specs.Planning.{pid_at}
use Rattle.law_reports.specs.quiet.Errors.{Key, HostHasLeft}
use Rattle.law_reports.specs.quiet.Replies.{is_data, tells}

-- ---- a missed microframe

plain_missed : (row : PlainRow) (host : HostSide) → (after_plain row host).missed ≡ host.missed
plain_missed (plains.Received n) host = refl
plain_missed _ host = refl

start_missed : (row : StartRow) (host : HostSide) → (after_start row host).missed ≡ host.missed
start_missed Accepted host = refl
start_missed _ host = refl

complete_missed : (row : CompleteRow) (host : HostSide) → (after_complete row host).missed ≡ host.missed
complete_missed (Answered row) host = plain_missed row host
complete_missed _ host = refl

row_missed : (row : SettleRow) (host : HostSide) → (after_settle_row row host).missed ≡ host.missed
row_missed (Plain row) host = plain_missed row host
row_missed (Start row) host = start_missed row host
row_missed (Complete row) host = complete_missed row host

pub missed_stays : (ask : Ask) (sent : ℕ) (last : Bool) (reply : Reply) (host : HostSide)
    → (settled ask sent last reply host).missed ≡ host.missed
missed_stays ask sent last reply host = row_missed (settle_row ask sent last reply host) host

-- ---- errors

abbrev counts : PlainRow → Bool
counts plains.Failed = true
counts plains.FailedPinged = true
counts _ = false

plain_cerr : (row : PlainRow) (host : HostSide) → counts row ≡ false → (after_plain row host).cerr ≡ host.cerr
plain_cerr (plains.Received n) host none = refl
plain_cerr plains.Repeated host none = refl
plain_cerr plains.Babbled host none = refl
plain_cerr (plains.Sent n) host none = refl
plain_cerr (plains.SentLast n) host none = refl
plain_cerr plains.Refused host none = refl
plain_cerr plains.RefusedPinged host none = refl
plain_cerr plains.Room host none = refl
plain_cerr plains.NoRoom host none = refl
plain_cerr plains.Stalled host none = refl
plain_cerr plains.Failed host none = absurd (cc)
plain_cerr plains.FailedPinged host none = absurd (cc)

-- ---- an answer that counts none

data_heard : (toggle : Bool) (pid : Pid) (short : Bool) (n sent : ℕ) → is_data pid ≡ true
    → counts (plain_row tokens.In (heard_data toggle pid (if short then heards.Fitting n else heards.TooLong)) sent) ≡ false
data_heard false pids.Data0 true n sent is = refl
data_heard false pids.Data0 false n sent is = refl
data_heard true pids.Data1 true n sent is = refl
data_heard true pids.Data1 false n sent is = refl
data_heard false pids.Data1 short n sent is = refl
data_heard true pids.Data0 short n sent is = refl
data_heard _ _ short n sent is = absurd (cc)

in_counts : (kind : EpKind) (host : HostSide) (reply : Reply) (sent : ℕ) → tells kind pids.In reply ≡ true
    → counts (plain_row tokens.In (heard_of host reply) sent) ≡ false
in_counts kind host replies.Silent sent is = absurd (cc)
in_counts kind host (replies.Bytes pid bytes) sent is =
    data_heard host.toggle pid (nat_le (length bytes) (limit_of host)) (length bytes) sent is
in_counts kind host (replies.Hand pids.Nak) sent is = refl
in_counts kind host (replies.Hand pids.Stall) sent is = refl
in_counts kind host (replies.Hand _) sent is = absurd (cc)

out_counts : (kind : EpKind) (host : HostSide) (reply : Reply) (sent : ℕ) → kind ≢ kinds.Iso → tells kind pids.Out reply ≡ true
    → counts (plain_row (out_token High kind) (heard_of host reply) sent) ≡ false
out_counts kinds.Iso host reply sent some is = absurd (some refl)
out_counts kinds.Control host (replies.Hand pids.Ack) sent some is = refl
out_counts kinds.Control host (replies.Hand pids.Nak) sent some is = refl
out_counts kinds.Control host (replies.Hand pids.Stall) sent some is = refl
out_counts kinds.Control host (replies.Hand pids.Nyet) sent some is = refl
out_counts kinds.Bulk host (replies.Hand pids.Ack) sent some is = refl
out_counts kinds.Bulk host (replies.Hand pids.Nak) sent some is = refl
out_counts kinds.Bulk host (replies.Hand pids.Stall) sent some is = refl
out_counts kinds.Bulk host (replies.Hand pids.Nyet) sent some is = refl
out_counts kinds.Interrupt host (replies.Hand pids.Ack) sent some is = refl
out_counts kinds.Interrupt host (replies.Hand pids.Nak) sent some is = refl
out_counts kinds.Interrupt host (replies.Hand pids.Stall) sent some is = refl
out_counts _ host _ sent some is = absurd (cc)

ping_counts : (kind : EpKind) (host : HostSide) (reply : Reply) (sent : ℕ) → tells kind pids.Ping reply ≡ true
    → counts (plain_row tokens.Ping (heard_of host reply) sent) ≡ false
ping_counts kind host (replies.Hand pids.Ack) sent is = refl
ping_counts kind host (replies.Hand pids.Nak) sent is = refl
ping_counts kind host (replies.Hand pids.Stall) sent is = refl
ping_counts kind host _ sent is = absurd (cc)

setup_counts : (kind : EpKind) (host : HostSide) (reply : Reply) (sent : ℕ) → tells kind pids.Setup reply ≡ true
    → counts (plain_row tokens.Setup (heard_of host reply) sent) ≡ false
setup_counts kind host (replies.Hand pids.Ack) sent is = refl
setup_counts kind host (replies.Hand pids.Stall) sent is = refl
setup_counts kind host _ sent is = absurd (cc)

pid_counts : (kind : EpKind) (pid : Pid) (host : HostSide) (reply : Reply) (sent : ℕ) → kind ≢ kinds.Iso → tells kind pid reply ≡ true
    → counts (plain_row (token_at pid (out_token High kind)) (heard_of host reply) sent) ≡ false
pid_counts kind pids.In host reply sent some is = in_counts kind host reply sent is
pid_counts kind pids.Out host reply sent some is = out_counts kind host reply sent some is
pid_counts kind pids.Ping host reply sent some is = ping_counts kind host reply sent is
pid_counts kind pids.Setup host reply sent some is = setup_counts kind host reply sent is
pid_counts kind _ host replies.Silent sent some is = absurd (cc)
pid_counts kind _ host (replies.Bytes pid bytes) sent some is = absurd (cc)
pid_counts kind _ host (replies.Hand pid) sent some is = absurd (cc)

-- ---- a SETUP

-- one that was taken leaves nothing, and else it is whole, or over
setup_by : (heard : Heard) (host : HostSide) → host.left ≡ 8 → (after_plain (plain_row tokens.Setup heard 8) host).active ≡ true
    → (after_plain (plain_row tokens.Setup heard 8) host).left ≡ 8
setup_by heards.Ack host whole active = absurd (done host.left whole active)
  where
    done : (n : ℕ) → n ≡ 8 → (not (n - 8 == 0) && host.active) ≡ true → ⊥
    done n is on = no_more (sym (ap (λ (k : ℕ). not (k - 8 == 0) && host.active) is) ∙ on)
      where
        no_more : (not (8 - 8 == 0) && host.active) ≡ true → ⊥
        no_more e = cc
setup_by heards.Stall host whole active = absurd (false≢true active)
setup_by (heards.Fitting n) host whole active = whole
setup_by heards.TooLong host whole active = whole
setup_by heards.Repeat host whole active = whole
setup_by heards.Nak host whole active = whole
setup_by heards.Nyet host whole active = whole
setup_by heards.Err host whole active = whole
setup_by heards.Nothing host whole active = whole

-- ---- a transaction

module _ (Q : Key → Bool) (x : Key) (pid : ℕ) (ask : Ask) (sent : ℕ) (last : Bool) (reply : Reply) (host : HostSide) where
  plain_is : ask.split ≡ splits.Plain → ask.speed ≡ High → ask.kind ≢ kinds.Iso → tells ask.kind ask.pid reply ≡ true
      → (settled ask sent last reply host).cerr ≡ host.cerr
  plain_is plain high some is =
      ap (λ (s : Split). (after_settle_row (row_at s ask.kind last (heard_of host reply) (plain_row (token_of ask)
      (heard_of host reply) sent)) host).cerr) plain
      ∙ plain_cerr (plain_row (token_of ask) (heard_of host reply) sent) host
      (ap (λ (v : Speed). counts (plain_row (token_at ask.pid (out_token v ask.kind)) (heard_of host reply) sent)) high
      ∙ pid_counts ask.kind ask.pid host reply sent some is)

  setup_is : ask.split ≡ splits.Plain → ask.pid ≡ pids.Setup → sent ≡ 8
      → settled ask sent last reply host ≡ after_plain (plain_row tokens.Setup (heard_of host reply) 8) host
  setup_is plain token whole =
      ap (λ (s : Split). after_settle_row (row_at s ask.kind last (heard_of host reply) (plain_row (token_of ask)
      (heard_of host reply) sent)) host) plain
      ∙ ap (λ (v : Pid). after_plain (plain_row (token_at v (out_token ask.speed ask.kind)) (heard_of host reply) sent) host) token
      ∙ ap (λ (n : ℕ). after_plain (plain_row tokens.Setup (heard_of host reply) n) host) whole

  -- what an active side is left as
  pub answers_count_none : (x.eps ≡ 2 → host.missed ≡ false) → (Q x ≡ true → host.cerr ≢ 0)
      → (Q x ≡ true → (ask.split ≡ splits.Plain) × ((ask.speed ≡ High) × ((ask.kind ≢ kinds.Iso) × (tells ask.kind ask.pid reply ≡ true))))
      → (Q x ≡ true → pid_at pid ≡ pids.Setup → (ask.pid ≡ pids.Setup) × ((sent ≡ 8) × (host.left ≡ 8)))
      → HostHasLeft Q x pid (settled ask sent last reply host)
  answers_count_none met some told whole = record {
    met = λ high. row_missed (settle_row ask sent last reply host) host ∙ met high;
    going = λ on act none. some on (sym (plain_is (told on).0 (told on).1.0 (told on).1.1.0 (told on).1.1.1) ∙ none);
    stopped = λ on act none. some on (sym (plain_is (told on).0 (told on).1.0 (told on).1.1.0 (told on).1.1.1) ∙ none);
    setup = λ on token act.
        let w = whole on token in
        let is = setup_is (told on).0 w.0 w.1.0 in
        ap (λ (z : HostSide). z.left) is
        ∙ setup_by (heard_of host reply) host w.1.1 (ap (λ (z : HostSide). z.active) (sym is) ∙ act);
  }
