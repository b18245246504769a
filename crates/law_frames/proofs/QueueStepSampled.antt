-- The worked walk is a frame, before its transaction and after it.
use Rattle.std.proofs.Common.{◌≡◌, ℕ, Bool, true, false, ◌==◌, if◌then◌else◌, ◌<◌, List, slice_index, Some, None, [], ap, refl, sym, subst, ◌∙◌}
use Rattle.std.proofs.lemmas.Bool.{eqb-true}
use Rattle.std.proofs.lemmas.Option.{same_Some}
use Rattle.usb_base.specs.declared.packets.Reply.{Reply}
use Rattle.usb_base.specs.declared.packets.Reply.TheVariants.{Bytes}
use Rattle.hc_copy.specs.declared.held.Held.{Held}
use Rattle.hc_copy.specs.Overlay.{settled_queue}
use Rattle.hc_copy.specs.Buffer.{Reading}
use Rattle.hc_copy.specs.Transacting.{call_in}
use Rattle.hc_copy.specs.WriteBack.{written_back}
use Rattle.hc_interrupt.specs.Turns.{planned, is_last_of}
use Rattle.hc_interrupt.specs.Copies.{with_split}
use Rattle.async_walk.specs.declared.state.WalkStep.TheVariants as steps
use Rattle.periodic_walk.specs.declared.state.Hand.TheVariants as hands
use Rattle.periodic_walk.specs.Place.{FramePlace, Effect, HasEffect, sent}
use Rattle.periodic_walk.specs.Queue.{queue_left_by}
use Rattle.periodic_walk.specs.Rows.{step_of, Leads}
use Rattle.law_ring.specs.Effects.{AreBytesHeard}
use Rattle.law_frames.specs.Met.{Kind, AQueue, IsMetQueue, IsMetAs}
use Rattle.law_frames.specs.FrameHand.{settled_in, OfQueue, OfSettled}
use Rattle.law_frames.specs.Frame.{IsFrame}
use Rattle.law_frames.specs.QueueVisitSamples.{queue, memory, met, parts, copy, settled, heard}
use Rattle.law_frames.specs.QueueVisitLaws.{held_copy}
use Rattle.law_frames.proofs.Making.{transaction_sends_its_bytes, copy_settles}
use Rattle.law_frames.proofs.Writing.{received_same}
use Rattle.law_frames.proofs.QueueVisitSampled.{visit_is, settled_so, back_is}
use Rattle.law_frames.specs.QueueStepSamples.{fetched, made, is_heard}

members_at : (b : Bool) (n : ℕ) (k : Kind) → (n == 0) ≡ b → (if b then Some AQueue else None) ≡ Some k → IsMetAs met n (parts n) k
members_at true n k is on =
    subst (λ (kind : Kind). IsMetAs met n (parts n) kind) (same_Some AQueue k on) (subst (λ (i : ℕ). IsMetQueue met i (parts i)) (sym (eqb-true n 0 is)) visit_is.met_is)
members_at false n k is on = cc

pub before_it : IsFrame met parts (OfQueue copy 0) fetched
before_it = record { tells = visit_is.tells; members = λ n k on. members_at (n == 0) n k refl on; walk = record { cursor = refl; held = refl; in_hand = visit_is.copied } }

pub after_it : IsFrame met parts (OfSettled copy settled 1) made
after_it = record {
  tells = visit_is.tells;
  members = λ n k on. members_at (n == 0) n k refl on;
  walk = record {
    cursor = refl;
    held = ap (λ (x : Held). Some (hands.Queue (record { copy = x; made = 1 }))) (copy_settles 0 copy [] heard);
    in_hand = (visit_is.copied, settled_so);
  };
}

pub transacts_it : step_of fetched ≡ steps.Transact
transacts_it = ap (λ (r : Reading). if r.all then steps.Transact else steps.Fault)
    (transaction_sends_its_bytes met memory parts copy visit_is refl).read

pub writes_it : step_of made ≡ steps.WriteBack
unfolding with_split settled_queue
writes_it =
    ap (λ (got : List ℕ). if (written_back copy.at (settled_in copy settled) settled.outcome got memory).all then steps.WriteBack else steps.Fault) (received_same copy settled heard)
    ∙ ap (λ (b : Bool). if b then steps.WriteBack else steps.Fault) back_is.whole

abbrev heard_in : Reply → List ℕ
heard_in (Bytes pid bs) = bs
heard_in _ = []

pub heard_it : AreBytesHeard is_heard 0 1
heard_it ask out pid bs is i = subst (λ (r : Reply). slice_index (heard_in r) i < 256) (sym is.0) (settled_so.came_to.are_bytes i)

-- what a reading of its bytes leads to
abbrev sent_from : Reading → Effect
sent_from r =
    let there : FramePlace = record fetched { memory = r.memory } in
    sent r.all (call_in (planned queue) r.bytes (is_last_of 0 queue)).ask (call_in (planned queue) r.bytes (is_last_of 0 queue)).out (queue_left_by (planned queue) r.bytes (record { copy = held_copy copy; made = 0 }) there) there

pub leads_it : Leads is_heard fetched 0 made 1
leads_it = subst (λ (r : Reading). HasEffect is_heard (sent_from r) 0 made 1) (sym (transaction_sends_its_bytes met memory parts copy visit_is refl).read) (record { reply = heard; made = (refl, refl); place = refl })
