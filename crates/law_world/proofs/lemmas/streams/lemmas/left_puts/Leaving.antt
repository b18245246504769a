-- Each step of an endpoint's leave.
use Rattle.std.proofs.Common.{◌≡◌, ℕ, ◌*◌, true, List, Option, ap, refl, sym, subst, ◌∙◌, ⊎_elim, inl, inr}
use Rattle.std.specs.List.{concat}
use Rattle.law_queues.proofs.Common.{not_open}
use Rattle.usb_base.specs.declared.endpoints.EpDesc.{EpDesc}
use Rattle.qh_qtd.specs.declared.token.Token.{Token}
use Rattle.drv_table.specs.declared.content.Transfer.{Transfer}
use Rattle.drv_table.specs.DriverContent.{DriverContent}
use Rattle.claims_driver.specs.Scripts.{receives}
use Rattle.law_ring.specs.Sparing.{HasOverlay}
use Rattle.law_ring.specs.OutBus.{Taker}
use Rattle.law_queues.specs.whole_sends.Laws.{IsStopped}
use Rattle.law_driver_ring.specs.fed_queues.Places.{IsThere}
use Rattle.law_queues.specs.leaving_drivers.Before.{IsAsBefore}
use Rattle.law_queues.proofs.lemmas.leaving_drivers.Alike.{there_by, met_before}
use Rattle.law_world.proofs.lemmas.streams.lemmas.put_laws.HeldAlike.{same_holds}
use Rattle.law_world.specs.streams.put_laws.Sent.{OutsWere}
use Rattle.law_world.proofs.lemmas.streams.lemmas.put_laws.SentAlike.{fewer_are_sent}
use Rattle.law_world.specs.streams.put_laws.TakenPuts.{puts_from, puts_of}
use Rattle.law_world.proofs.lemmas.streams.lemmas.put_laws.Rests.{prefix_to}
use Rattle.law_world.proofs.lemmas.streams.lemmas.put_laws.Same.{WereEnds, same_owes}
use Rattle.law_world.specs.streams.left_puts.Leaving.{LeaveHoldsPuts, LeaveOwes, LeaveSends, LeaveStops, LeaveKeepsTaken, KeptStayStopped}

pub leave_holds_puts : LeaveHoldsPuts
leave_holds_puts d f m new puts b same k = same_holds d f m new puts b.transfers b.notes same k

were_ends : (d f : DriverContent) → IsAsBefore d f → WereEnds d f
were_ends d f b e z here =
    let w = b.ends e z here in
    record { endpoint = w.endpoint; here = w.here; queue = w.queue; desc = w.desc; gone = w.gone; ends = w.ends }

pub leave_owes : LeaveOwes
leave_owes d f m new puts reported turns b held still owes =
    same_owes d f m new puts puts reported reported turns (record { ends = were_ends d f b; transfers = b.transfers; notes = b.notes }) (λ t low. refl) held still (λ e x here now before. refl)
    (λ e x here now at_open. absurd (not_open d.command x.queue b.idle at_open)) (λ x is. absurd (not_open f.command x.queue b.idle_now is)) owes

pub leave_sends : LeaveSends
leave_sends d f hand parts order out b near k = fewer_are_sent d f hand parts order out out were (λ e z a here met among. among) k
  where
    were : OutsWere d f
    were e z here met sends =
        let w = b.ends e z here in
        record {
          number = e;
          endpoint = w.endpoint;
          here = w.here;
          met = met_before d f e z w here b near met;
          sends = ap (λ (r : EpDesc). receives r.name.way) (sym w.desc) ∙ sends;
          queue = w.queue;
        }

pub leave_stops : LeaveStops
leave_stops d f parts b ended e z cause here alive sends over =
    let w = b.ends e z here in
    subst (λ (q : ℕ). IsStopped parts (32 * q)) (sym w.queue) (ended e w.endpoint cause w.here (sym w.gone ∙ alive) (ap (λ (r : EpDesc). receives r.name.way) (sym w.desc) ∙ sends) (sym w.ends ∙ over))

pub a_leave_keeps_what_was_taken : {W : Type 0} (taker : W → ℕ → ℕ → Option Taker) → LeaveKeepsTaken taker
a_leave_keeps_what_was_taken taker d f puts wire b k e z s here life sends is =
    let w = b.ends e z here in
    let same : concat (puts_of d puts e) ≡ concat (puts_of f puts e) = ap (λ (ts : List Transfer). concat (puts_from puts e 0 ts)) (sym b.transfers) in
    prefix_to s.taken (concat (puts_of d puts e)) (concat (puts_of f puts e)) same
    (k e w.endpoint s w.here
    (⊎_elim (λ (gone : z.gone ≡ true). inl (sym w.gone ∙ gone)) (λ (there : IsThere f z). inr (there_by d w.endpoint b.idle (sym w.gone ∙ there.kept))) life)
    (ap (λ (r : EpDesc). receives r.name.way) (sym w.desc) ∙ sends) (ap (λ (r : EpDesc). taker wire r.name.addr r.name.num) (sym w.desc) ∙ is))

pub kept_stay_stopped : KeptStayStopped
kept_stay_stopped d parts now spares ended e x cause here alive sends over =
    let k : IsStopped parts (32 * x.queue) = ended e x cause here alive sends over in
    let s : HasOverlay now (32 * x.queue) k.0 = spares e x here alive k.0 k.1 in
    (s.queue, s.here, ap (λ (t : Token). t.active) s.overlay.token ∙ k.2, ap (λ (t : Token). t.halted) s.overlay.token ∙ k.3)
