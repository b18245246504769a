-- A transaction of a host below a hub that moves nothing brings no bytes; and a host that rests after one, and isn't halted, starts next.
use Rattle.std.proofs.Common.{◌≡◌, ℕ, ◌-◌, ◌==◌, Bool, true, false, if◌then◌else◌, List, [], ◌∷◌, length, take, drop, ap, refl, sym}
use Rattle.std.proofs.Common.{◌∙◌, arith}
use Rattle.std.proofs.lemmas.Bool.{false≢true}
use Rattle.usb_base.specs.declared.packets.EpKind.{EpKind}
use Rattle.usb_base.specs.declared.packets.Reply.{Reply}
use Rattle.qh_qtd.specs.declared.qtd.Qtd.{Qtd}
use Rattle.qh_qtd.specs.declared.queue_head.Qh.{Qh}
use Rattle.toggle_error.specs.Settle.{settle_row}
use Rattle.transactions.specs.Calls.{moving_of}
use Rattle.hc_copy.specs.Overlay.{buffer_place}
use Rattle.hc_copy.specs.Planning.{pid_at, host_in, transaction_of}
use Rattle.hc_copy.specs.Transacting.{call_in}
use Rattle.hc_copy.specs.WriteBack.{moved_by}
use Rattle.claims_report.specs.Streams.{has_stream}
use Rattle.law_structures.specs.lent_structures.Settles.{is_moved, Settles}
use Rattle.law_structures.proofs.lemmas.lent_structures.Settling.{a_transaction_settles}
use Rattle.law_ring.specs.Hand.{Settlement}
use Rattle.law_ring.specs.Effects.{settlement_as}
use Rattle.law_ring.specs.Streams.{moved_bytes}
use Rattle.law_ring.proofs.Common.{by_none}
use Rattle.law_ring.proofs.Stopping.{row_stops}
use Rattle.law_below_hubs.specs.HostIns.{IsInBelow}
use Rattle.law_below_hubs.specs.HostOuts.{IsOutBelow}
use Rattle.law_below_hubs.proofs.HostInSettles.{InSettles, in_settles}
use Rattle.law_below_hubs.proofs.HostInSettles.InSettles.{took, too_long, repeated, is_refused as in_refused, is_stalled as in_stalled, broke, gave_up}
use Rattle.law_below_hubs.proofs.HostInSettles.InSettles.{goes_on as in_goes_on}
use Rattle.law_below_hubs.proofs.HostSettles.{start_settles, OutSettles, out_settles}
use Rattle.law_below_hubs.proofs.HostSettles.OutSettles.{is_acked, moves_none}

-- ---- the bytes of an OUT

pub out_moved : (q : Qh) (t : Qtd) (z : Settlement) (bs : List ℕ) → q.token.pid ≡ 0
    → moved_bytes q t z bs ≡ take (moved_by z.outcome) (drop (buffer_place q - t.offset) bs)
out_moved q t z bs out =
    ap (λ (code : ℕ). if code == 1 then z.got else take (moved_by z.outcome) (drop (buffer_place q - t.offset) bs)) out

pub out_none_moved : (q : Qh) (t : Qtd) (z : Settlement) (bs : List ℕ) → q.token.pid ≡ 0 → is_moved z.outcome ≡ false
    → moved_bytes q t z bs ≡ []
out_none_moved q t z bs out still =
    out_moved q t z bs out ∙ ap (λ (m : ℕ). take m (drop (buffer_place q - t.offset) bs)) (by_none z.outcome still)

-- ---- the bytes of an IN

pub none_of : (xs : List ℕ) → length xs ≡ 0 → xs ≡ []
none_of [] e = refl
none_of (x ∷ xs) e = let z : ⊥ = omega (arith, e) in absurd z

pub in_none_moved : (q : Qh) (t : Qtd) (z : Settlement) (bs : List ℕ) → q.token.pid ≡ 1 → z.got ≡ [] → moved_bytes q t z bs ≡ []
in_none_moved q t z bs inward none =
    ap (λ (code : ℕ). if code == 1 then z.got else take (moved_by z.outcome) (drop (buffer_place q - t.offset) bs)) inward ∙ none

pub in_none_got : (kind : EpKind) (last : Bool) (q : Qh) (out : List ℕ) (reply : Reply) → q.token.pid ≡ 1
    → length out ≡ (transaction_of kind q).bytes → is_moved (settlement_as kind q out last reply).outcome ≡ false
    → (settlement_as kind q out last reply).got ≡ []
in_none_got kind last q out reply inward count still =
    let s : Settles kind q out last reply = a_transaction_settles kind q out last reply count in
    none_of (settlement_as kind q out last reply).got
    (s.bytes.all (ap pid_at inward) ∙ by_none (settlement_as kind q out last reply).outcome still)

-- ---- the host after it

pub own_out_rests : (kind : EpKind) (last : Bool) (q : Qh) (out : List ℕ) (reply : Reply) → has_stream kind ≡ true → IsOutBelow q
    → length out ≡ (transaction_of kind q).bytes → (settlement_as kind q out last reply).host.active ≡ false
    → (settlement_as kind q out last reply).host.halted ≡ false → (settlement_as kind q out last reply).host.waiting ≡ false
own_out_rests kind last q out reply streams at count off going = by (is_moved (settlement_as kind q out last reply).outcome) refl
  where
    never : {A : Type 0} → is_moved (settlement_as kind q out last reply).outcome ≡ true
        → is_moved (settlement_as kind q out last reply).outcome ≡ false → A
    never on still = absurd (false≢true (sym still ∙ on))

    complete : (r : Reply) → is_moved (settlement_as kind q out last reply).outcome ≡ true
        → OutSettles q (settlement_as kind q out last reply) r → (settlement_as kind q out last reply).host.waiting ≡ false
    complete _ on (is_acked outcome idle) = idle
    complete r on (moves_none _ still) = never on still

    by_state : (b : Bool) → q.token.split_state ≡ b → is_moved (settlement_as kind q out last reply).outcome ≡ true
        → (settlement_as kind q out last reply).host.waiting ≡ false
    by_state true state on = complete reply on (out_settles kind last q out reply streams at.below state at.out)
    by_state false state on = never on (start_settles kind last q 0 out reply streams at.below state at.out).still

    by : (b : Bool) → is_moved (settlement_as kind q out last reply).outcome ≡ b
        → (settlement_as kind q out last reply).host.waiting ≡ false
    by true on = by_state q.token.split_state refl on
    by false still =
        absurd (false≢true (sym going ∙ row_stops
        (settle_row (call_in (transaction_of kind q) out last).ask
        (moving_of (transaction_of kind q).split (transaction_of kind q).pipe.pid (host_in q) (length out)) last reply
        (host_in q))
        (host_in q) at.works still off))

pub own_in_rests : (kind : EpKind) (last : Bool) (q : Qh) (out : List ℕ) (reply : Reply) → has_stream kind ≡ true → IsInBelow q
    → q.token.active ≡ true → (settlement_as kind q out last reply).host.active ≡ false
    → (settlement_as kind q out last reply).host.halted ≡ false
    → (settlement_as kind q out last reply).host.waiting ≡ false
own_in_rests kind last q out reply streams at works off going =
    by (is_moved (settlement_as kind q out last reply).outcome) refl
  where
    never : {A : Type 0} → is_moved (settlement_as kind q out last reply).outcome ≡ true
        → is_moved (settlement_as kind q out last reply).outcome ≡ false → A
    never on still = absurd (false≢true (sym still ∙ on))

    complete : (r : Reply) → is_moved (settlement_as kind q out last reply).outcome ≡ true
        → InSettles kind last q (settlement_as kind q out last reply) r → (settlement_as kind q out last reply).host.waiting ≡ false
    complete _ on (took pid bs same outcome got idle) = idle
    complete _ on (too_long pid bs same still idle halted) = idle
    complete _ on (repeated pid bs differs still idle) = idle
    complete _ on (in_refused still idle) = idle
    complete _ on (in_stalled still idle halted) = idle
    complete _ on (broke periodic still idle) = idle
    complete _ on (gave_up periodic at_last still idle) = idle
    complete r on (in_goes_on _ still late) = never on still

    by_state : (b : Bool) → q.token.split_state ≡ b → is_moved (settlement_as kind q out last reply).outcome ≡ true
        → (settlement_as kind q out last reply).host.waiting ≡ false
    by_state true state on = complete reply on (in_settles kind last q out reply streams at.below state at.inward)
    by_state false state on = never on (start_settles kind last q 1 out reply streams at.below state at.inward).still

    by : (b : Bool) → is_moved (settlement_as kind q out last reply).outcome ≡ b
        → (settlement_as kind q out last reply).host.waiting ≡ false
    by true on = by_state q.token.split_state refl on
    by false still =
        absurd (false≢true (sym going ∙ row_stops
        (settle_row (call_in (transaction_of kind q) out last).ask
        (moving_of (transaction_of kind q).split (transaction_of kind q).pipe.pid (host_in q) (length out)) last reply
        (host_in q))
        (host_in q) works still off))
