-- What a complete-split of a bulk or interrupt IN endpoint comes to for its host, by the reply (EHCI 1.0, 4.12; USB 2.0, 8.6).
use Rattle.std.proofs.Common.{◌≡◌, ℕ, ◌==◌, nat_le, Bool, true, false, if◌then◌else◌, List, length, ap, refl, sym, subst, ◌∙◌}
use Rattle.std.proofs.lemmas.Bool.{false≢true}
use Rattle.usb_base.specs.declared.endpoints.EndCause.TheVariants as Ends
use Rattle.usb_base.specs.declared.packets.EpKind.{EpKind}
use Rattle.usb_base.specs.declared.packets.EpKind.TheVariants as Kinds
use Rattle.usb_base.specs.declared.packets.Pid.{Pid}
use Rattle.usb_base.specs.declared.packets.Pid.TheVariants as Packets
use Rattle.usb_base.specs.declared.packets.Reply.{Reply}
use Rattle.usb_base.specs.declared.packets.Reply.TheVariants.{Silent, Bytes, Hand}
use Rattle.qh_qtd.specs.declared.queue_head.Qh.{Qh}
use Rattle.toggle_error.specs.declared.host.HostSide.{HostSide}
use Rattle.toggle_error.specs.declared.host.Outcome.{Outcome}
use Rattle.toggle_error.specs.declared.host.Outcome.TheVariants.{Moved, Error, Halt}
use Rattle.toggle_error.specs.declared.rows.AskToken.TheVariants as tokens
use Rattle.toggle_error.specs.declared.rows.Heard.{Heard}
use Rattle.toggle_error.specs.declared.rows.Heard.TheVariants as Heards
use Rattle.toggle_error.specs.declared.rows.CompleteRow.{CompleteRow}
use Rattle.toggle_error.specs.declared.rows.PlainRow.{PlainRow}
use Rattle.toggle_error.specs.Columns.{limit_of, heard_hand, heard_of}
use Rattle.toggle_error.specs.PlainRows.{plain_row, is_last_error, error_outcome}
use Rattle.toggle_error.specs.SplitRows.{answered, complete_row, complete_outcome, after_complete}
use Rattle.transactions.specs.Calls.{got_of}
use Rattle.claims_report.specs.Streams.{has_stream}
use Rattle.hc_copy.specs.declared.held.Transaction.{Transaction}
use Rattle.hc_copy.specs.Planning.{pid_at, host_in}
use Rattle.law_pipe.specs.Pipe.{alike}
use Rattle.law_structures.specs.lent_structures.Settles.{is_moved}
use Rattle.law_ring.specs.Hand.{Settlement}
use Rattle.law_ring.specs.Effects.{settlement_as}
use Rattle.law_below_hubs.specs.HubsKeys.{is_second}
use Rattle.law_below_hubs.proofs.HostSettles.{completing, is_completing, settled_by}

abbrev in_outcome : EpKind → Bool → Heard → HostSide → Outcome
in_outcome kind last h host = complete_outcome (complete_row kind last h (plain_row tokens.In h 0)) host

abbrev in_after : EpKind → Bool → Heard → HostSide → HostSide
in_after kind last h host = after_complete (complete_row kind last h (plain_row tokens.In h 0)) host

-- the answers that end it, whatever the kind
abbrev is_ending : Heard → Bool
is_ending (Heards.Fitting n) = true
is_ending Heards.Repeat = true
is_ending Heards.TooLong = true
is_ending Heards.Nak = true
is_ending Heards.Stall = true
is_ending _ = false

-- .. and those that end an interrupt's: an error below, and NYET to the last of a frame (4.12.2.4)
abbrev is_broken : EpKind → Bool → Heard → Bool
is_broken Kinds.Interrupt last Heards.Err = true
is_broken Kinds.Interrupt true Heards.Nyet = true
is_broken _ _ _ = false

error_still : (host : HostSide) → is_moved (error_outcome host) ≡ false
error_still host = by (is_last_error host)
  where
    by : (b : Bool) → is_moved (if b then Halt Ends.Error else Error) ≡ false
    by true = refl
    by false = refl

in_still : (kind : EpKind) (last : Bool) (h : Heard) (host : HostSide) → has_stream kind ≡ true → is_ending h ≡ false
    → is_moved (in_outcome kind last h host) ≡ false
in_still kind last (Heards.Fitting n) host streams off = absurd (false≢true (sym off))
in_still kind last Heards.Repeat host streams off = absurd (false≢true (sym off))
in_still kind last Heards.TooLong host streams off = absurd (false≢true (sym off))
in_still kind last Heards.Nak host streams off = absurd (false≢true (sym off))
in_still kind last Heards.Stall host streams off = absurd (false≢true (sym off))
in_still Kinds.Interrupt true Heards.Nyet host streams off = error_still host
in_still Kinds.Interrupt false Heards.Nyet host streams off = refl
in_still Kinds.Interrupt true _ host streams off = error_still host
in_still Kinds.Interrupt false _ host streams off = error_still host
in_still Kinds.Bulk last Heards.Nyet host streams off = refl
in_still Kinds.Bulk last _ host streams off = error_still host
in_still Kinds.Control last h host streams off = absurd (false≢true streams)
in_still Kinds.Iso last h host streams off = absurd (false≢true streams)

in_waits : (kind : EpKind) (last : Bool) (h : Heard) (host : HostSide) → has_stream kind ≡ true → is_ending h ≡ false
    → is_broken kind last h ≡ false → host.waiting ≡ true → (in_after kind last h host).waiting ≡ true
in_waits kind last (Heards.Fitting n) host streams off whole on = absurd (false≢true (sym off))
in_waits kind last Heards.Repeat host streams off whole on = absurd (false≢true (sym off))
in_waits kind last Heards.TooLong host streams off whole on = absurd (false≢true (sym off))
in_waits kind last Heards.Nak host streams off whole on = absurd (false≢true (sym off))
in_waits kind last Heards.Stall host streams off whole on = absurd (false≢true (sym off))
in_waits Kinds.Interrupt true Heards.Nyet host streams off whole on = absurd (false≢true (sym whole))
in_waits Kinds.Interrupt false Heards.Nyet host streams off whole on = on
in_waits Kinds.Interrupt last Heards.Err host streams off whole on = absurd (false≢true (sym whole))
in_waits Kinds.Interrupt true _ host streams off whole on = on
in_waits Kinds.Interrupt false _ host streams off whole on = on
in_waits Kinds.Bulk last Heards.Nyet host streams off whole on = on
in_waits Kinds.Bulk last _ host streams off whole on = on
in_waits Kinds.Control last h host streams off whole on = absurd (false≢true streams)
in_waits Kinds.Iso last h host streams off whole on = absurd (false≢true streams)

in_ends : (kind : EpKind) (last : Bool) (h : Heard) (host : HostSide) → is_broken kind last h ≡ true
    → (in_after kind last h host).waiting ≡ false
in_ends Kinds.Interrupt true Heards.Err host on = refl
in_ends Kinds.Interrupt false Heards.Err host on = refl
in_ends Kinds.Interrupt true Heards.Nyet host on = refl
in_ends kind last h host on = absurd cc

-- what the table says of an answer that ends it
row_of : (kind : EpKind) (last : Bool) (h : Heard) → has_stream kind ≡ true → is_ending h ≡ true → (p : PlainRow)
    → complete_row kind last h p ≡ answered p
row_of Kinds.Interrupt true (Heards.Fitting n) streams on p = refl
row_of Kinds.Interrupt true Heards.Repeat streams on p = refl
row_of Kinds.Interrupt true Heards.TooLong streams on p = refl
row_of Kinds.Interrupt true Heards.Nak streams on p = refl
row_of Kinds.Interrupt true Heards.Stall streams on p = refl
row_of Kinds.Interrupt false (Heards.Fitting n) streams on p = refl
row_of Kinds.Interrupt false Heards.Repeat streams on p = refl
row_of Kinds.Interrupt false Heards.TooLong streams on p = refl
row_of Kinds.Interrupt false Heards.Nak streams on p = refl
row_of Kinds.Interrupt false Heards.Stall streams on p = refl
row_of Kinds.Bulk last (Heards.Fitting n) streams on p = refl
row_of Kinds.Bulk last Heards.Repeat streams on p = refl
row_of Kinds.Bulk last Heards.TooLong streams on p = refl
row_of Kinds.Bulk last Heards.Nak streams on p = refl
row_of Kinds.Bulk last Heards.Stall streams on p = refl
row_of Kinds.Control last h streams on p = absurd (false≢true streams)
row_of Kinds.Iso last h streams on p = absurd (false≢true streams)
row_of kind last h streams on p = absurd (false≢true on)

unbroken : (kind : EpKind) (last : Bool) → is_broken kind last Heards.Nothing ≡ false
unbroken Kinds.Interrupt true = refl
unbroken Kinds.Interrupt false = refl
unbroken Kinds.Bulk last = refl
unbroken Kinds.Control last = refl
unbroken Kinds.Iso last = refl

unbroken_ack : (kind : EpKind) (last : Bool) → is_broken kind last Heards.Ack ≡ false
unbroken_ack Kinds.Interrupt true = refl
unbroken_ack Kinds.Interrupt false = refl
unbroken_ack Kinds.Bulk last = refl
unbroken_ack Kinds.Control last = refl
unbroken_ack Kinds.Iso last = refl

err_breaks : (kind : EpKind) (last : Bool) → is_broken kind last Heards.Err ≡ true → kind ≡ Kinds.Interrupt
err_breaks Kinds.Interrupt last on = refl
err_breaks Kinds.Bulk last on = absurd (false≢true on)
err_breaks Kinds.Control last on = absurd (false≢true on)
err_breaks Kinds.Iso last on = absurd (false≢true on)

nyet_breaks : (kind : EpKind) (last : Bool) → is_broken kind last Heards.Nyet ≡ true → (kind ≡ Kinds.Interrupt) × (last ≡ true)
nyet_breaks Kinds.Interrupt true on = (refl, refl)
nyet_breaks Kinds.Interrupt false on = absurd (false≢true on)
nyet_breaks Kinds.Bulk last on = absurd (false≢true on)
nyet_breaks Kinds.Control last on = absurd (false≢true on)
nyet_breaks Kinds.Iso last on = absurd (false≢true on)

pub data InSettles (kind : EpKind) (last : Bool) (q : Qh) (z : Settlement) : Reply → Type 0 where
  took : (pid : Pid) (bs : List ℕ) → alike (is_second pid) q.token.toggle ≡ true → z.outcome ≡ Moved (length bs) → z.got ≡ bs
      → z.host.waiting ≡ false → InSettles kind last q z (Bytes pid bs)
  too_long : (pid : Pid) (bs : List ℕ) → alike (is_second pid) q.token.toggle ≡ true → is_moved z.outcome ≡ false
      → z.host.waiting ≡ false → z.host.halted ≡ true → InSettles kind last q z (Bytes pid bs)
  repeated : (pid : Pid) (bs : List ℕ) → alike (is_second pid) q.token.toggle ≡ false → is_moved z.outcome ≡ false
      → z.host.waiting ≡ false → InSettles kind last q z (Bytes pid bs)
  is_refused : is_moved z.outcome ≡ false → z.host.waiting ≡ false → InSettles kind last q z (Hand Packets.Nak)
  is_stalled : is_moved z.outcome ≡ false → z.host.waiting ≡ false → z.host.halted ≡ true → InSettles kind last q z (Hand Packets.Stall)
  broke : kind ≡ Kinds.Interrupt → is_moved z.outcome ≡ false → z.host.waiting ≡ false → InSettles kind last q z (Hand Packets.Err)
  gave_up : kind ≡ Kinds.Interrupt → last ≡ true → is_moved z.outcome ≡ false → z.host.waiting ≡ false
      → InSettles kind last q z (Hand Packets.Nyet)
  goes_on : (r : Reply) → is_moved z.outcome ≡ false → z.host.waiting ≡ true → InSettles kind last q z r

module _ (kind : EpKind) (last : Bool) (q : Qh) (out : List ℕ) (streams : has_stream kind ≡ true) (waits : q.token.split_state ≡ true)
  where
    abbrev z : Reply → Settlement
    z reply = settled_by (completing kind q 1) q out last reply

    abbrev host : HostSide
    host = host_in q

    none_ends : (reply : Reply) → is_ending (heard_of (host_in q) reply) ≡ false → is_broken kind last (heard_of (host_in q) reply) ≡ false
        → InSettles kind last q (z reply) reply
    none_ends reply off whole =
        goes_on reply (in_still kind last (heard_of (host_in q) reply) (host_in q) streams off)
        (in_waits kind last (heard_of (host_in q) reply) (host_in q) streams off whole waits)

    -- what is heard of data, by what they are to the host
    heard_as : (pid : Pid) (bs : List ℕ) (h : Heard) → heard_of (host_in q) (Bytes pid bs) ≡ h
        → InSettles kind last q (record {
          host = in_after kind last h (host_in q);
          outcome = in_outcome kind last h (host_in q);
          got = got_of (pid_at q.token.pid) (in_outcome kind last h (host_in q)) (Bytes pid bs);
        }) (Bytes pid bs)
        → InSettles kind last q (z (Bytes pid bs)) (Bytes pid bs)
    heard_as pid bs h is k =
        subst (λ (x : Heard). InSettles kind last q (record {
          host = in_after kind last x (host_in q);
          outcome = in_outcome kind last x (host_in q);
          got = got_of (pid_at q.token.pid) (in_outcome kind last x (host_in q)) (Bytes pid bs);
        }) (Bytes pid bs)) (sym is) k

    -- what the table says where it ends
    abbrev row_is : (h : Heard) → is_ending h ≡ true
        → complete_row kind last h (plain_row tokens.In h 0) ≡ answered (plain_row tokens.In h 0)
    row_is h on = row_of kind last h streams on (plain_row tokens.In h 0)

    outcome_is : (h : Heard) → is_ending h ≡ true → in_outcome kind last h (host_in q) ≡ complete_outcome
        (answered (plain_row tokens.In h 0)) (host_in q)
    outcome_is h on = ap (λ (r : CompleteRow). complete_outcome r (host_in q)) (row_is h on)

    after_is : (h : Heard) → is_ending h ≡ true → in_after kind last h (host_in q) ≡ after_complete
        (answered (plain_row tokens.In h 0)) (host_in q)
    after_is h on = ap (λ (r : CompleteRow). after_complete r (host_in q)) (row_is h on)

    waiting_is : (h : Heard) → is_ending h ≡ true → (in_after kind last h (host_in q)).waiting ≡ (after_complete
        (answered (plain_row tokens.In h 0)) (host_in q)).waiting
    waiting_is h on = ap (λ (host : HostSide). host.waiting) (after_is h on)

    halted_is : (h : Heard) → is_ending h ≡ true → (in_after kind last h (host_in q)).halted ≡ (after_complete
        (answered (plain_row tokens.In h 0)) (host_in q)).halted
    halted_is h on = ap (λ (host : HostSide). host.halted) (after_is h on)

    still_is : (h : Heard) → is_ending h ≡ true → is_moved (in_outcome kind last h (host_in q)) ≡ is_moved (complete_outcome
        (answered (plain_row tokens.In h 0)) (host_in q))
    still_is h on = ap is_moved (outcome_is h on)

    fits_by : (pid : Pid) (bs : List ℕ) (b : Bool) → q.token.pid ≡ 1 → alike (is_second pid) q.token.toggle ≡ true
        → heard_of (host_in q) (Bytes pid bs) ≡ (if b then Heards.Fitting (length bs) else Heards.TooLong)
        → InSettles kind last q (z (Bytes pid bs)) (Bytes pid bs)
    fits_by pid bs true inward same is =
        let h : Heard = Heards.Fitting (length bs) in
        heard_as pid bs h is
        (took pid bs same (outcome_is h refl)
        (ap (λ (o : Outcome). got_of (pid_at q.token.pid) o (Bytes pid bs)) (outcome_is h refl)
        ∙ ap (λ (code : ℕ). got_of (pid_at code) (Moved (length bs)) (Bytes pid bs)) inward) (waiting_is h refl))
    fits_by pid bs false inward same is =
        heard_as pid bs Heards.TooLong is
        (too_long pid bs same (still_is Heards.TooLong refl) (waiting_is Heards.TooLong refl) (halted_is Heards.TooLong refl))

    repeats : (pid : Pid) (bs : List ℕ) → alike (is_second pid) q.token.toggle ≡ false
        → heard_of (host_in q) (Bytes pid bs) ≡ Heards.Repeat → InSettles kind last q (z (Bytes pid bs)) (Bytes pid bs)
    repeats pid bs differs is =
        heard_as pid bs Heards.Repeat is (repeated pid bs differs (still_is Heards.Repeat refl) (waiting_is Heards.Repeat refl))

    -- data of no toggle are no answer
    nothing_ends : (pid : Pid) (bs : List ℕ) → heard_of (host_in q) (Bytes pid bs) ≡ Heards.Nothing
        → InSettles kind last q (z (Bytes pid bs)) (Bytes pid bs)
    nothing_ends pid bs is =
        none_ends (Bytes pid bs) (ap is_ending is) (ap (is_broken kind last) is ∙ unbroken kind last)

    by_data : (toggle : Bool) (pid : Pid) (bs : List ℕ) → q.token.toggle ≡ toggle → q.token.pid ≡ 1
        → InSettles kind last q (z (Bytes pid bs)) (Bytes pid bs)
    by_data false Packets.Data0 bs is inward =
        fits_by Packets.Data0 bs (nat_le (length bs) (limit_of (host_in q))) inward (ap (alike false) is)
        (ap (λ (b : Bool). heard_of (record (host_in q) { toggle = b }) (Bytes Packets.Data0 bs)) is)
    by_data true Packets.Data1 bs is inward =
        fits_by Packets.Data1 bs (nat_le (length bs) (limit_of (host_in q))) inward (ap (alike true) is)
        (ap (λ (b : Bool). heard_of (record (host_in q) { toggle = b }) (Bytes Packets.Data1 bs)) is)
    by_data false Packets.Data1 bs is inward =
        repeats Packets.Data1 bs (ap (alike true) is)
        (ap (λ (b : Bool). heard_of (record (host_in q) { toggle = b }) (Bytes Packets.Data1 bs)) is)
    by_data true Packets.Data0 bs is inward =
        repeats Packets.Data0 bs (ap (alike false) is)
        (ap (λ (b : Bool). heard_of (record (host_in q) { toggle = b }) (Bytes Packets.Data0 bs)) is)
    by_data false pid bs is inward =
        nothing_ends pid bs (ap (λ (b : Bool). heard_of (record (host_in q) { toggle = b }) (Bytes pid bs)) is)
    by_data true pid bs is inward =
        nothing_ends pid bs (ap (λ (b : Bool). heard_of (record (host_in q) { toggle = b }) (Bytes pid bs)) is)

    -- NYET and ERR, by whether they end it
    by_broken : (b : Bool) (pid : Pid) → is_ending (heard_hand pid) ≡ false → is_broken kind last (heard_hand pid) ≡ b
        → (b ≡ true → InSettles kind last q (z (Hand pid)) (Hand pid)) → InSettles kind last q (z (Hand pid)) (Hand pid)
    by_broken true pid off is ends = ends refl
    by_broken false pid off is ends = none_ends (Hand pid) off is

    by_hand : (pid : Pid) → InSettles kind last q (z (Hand pid)) (Hand pid)
    by_hand Packets.Nak = is_refused (still_is Heards.Nak refl) (waiting_is Heards.Nak refl)
    by_hand Packets.Stall = is_stalled (still_is Heards.Stall refl) (waiting_is Heards.Stall refl) (halted_is Heards.Stall refl)
    by_hand Packets.Err = by_broken (is_broken kind last Heards.Err) Packets.Err refl refl
        (λ on. broke (err_breaks kind last on) (in_still kind last Heards.Err (host_in q) streams refl)
        (in_ends kind last Heards.Err (host_in q) on))
    by_hand Packets.Nyet = by_broken (is_broken kind last Heards.Nyet) Packets.Nyet refl refl
        (λ on. gave_up (nyet_breaks kind last on).0 (nyet_breaks kind last on).1
        (in_still kind last Heards.Nyet (host_in q) streams refl) (in_ends kind last Heards.Nyet (host_in q) on))
    by_hand Packets.Ack = none_ends (Hand Packets.Ack) refl (unbroken_ack kind last)
    by_hand pid = none_ends (Hand pid) refl (unbroken kind last)

    by_reply : (reply : Reply) → q.token.pid ≡ 1 → InSettles kind last q (z reply) reply
    by_reply Silent inward = none_ends Silent refl (unbroken kind last)
    by_reply (Bytes pid bs) inward = by_data q.token.toggle pid bs refl inward
    by_reply (Hand pid) inward = by_hand pid

pub in_settles : (kind : EpKind) (last : Bool) (q : Qh) (out : List ℕ) (reply : Reply) → has_stream kind ≡ true → (q.eps == 2) ≡ false
    → q.token.split_state ≡ true → q.token.pid ≡ 1
    → InSettles kind last q (settlement_as kind q out last reply) reply
in_settles kind last q out reply streams below waits inward =
    subst (λ (t : Transaction). InSettles kind last q (settled_by t q out last reply) reply)
    (sym (is_completing kind q 1 below waits inward))
    (by_reply kind last q out streams waits reply inward)
