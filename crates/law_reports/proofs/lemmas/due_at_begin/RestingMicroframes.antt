-- Along a run a queue head that waits as a microframe begins in which there is nothing to do for it stands so until the next one begins
-- (EHCI 1.0, 4.12.2.4).
use Rattle.std.proofs.Common.{◌≡◌, ℕ, zero, suc, ◌*◌, ◌<◌, true, List, Some, ap, sym, subst, ◌∙◌, ⊎_elim}
use Rattle.law_microframes.proofs.Common.{in_list}
use Rattle.script_types.specs.declared.scripts.Script.{Script}
use Rattle.script_text.specs.Faults.{Spells}
use Rattle.qh_qtd.specs.declared.queue_head.Qh.{Qh}
use Rattle.bandwidth.specs.declared.placements.Placement.{Placement}
use Rattle.bandwidth.specs.Sums.{is_active}
use Rattle.mem_queues.specs.Structures.{queue_head_at_address}
use Rattle.hc_interrupt.specs.declared.turns.Turn.TheVariants as turns
use Rattle.hc_interrupt.specs.Turns.{waits, turn_of}
use Rattle.bus_wire.specs.Bus.{fixed_of}
use Rattle.bus_world.specs.Budgets.{moment}
use Rattle.bus_world.specs.Orders.{OrderedWorld, ticks}
use Rattle.bus_world.specs.World.{World, controller_next}
use Rattle.claims_world.specs.Carried.{carried_from}
use Rattle.claims_world.specs.Coming.{IsInItsFrames}
use Rattle.claims_world.specs.DueAtBegin.{begun, IsUncancelled}
use Rattle.claims_world.specs.SoFar.{so_far}
use Rattle.claims_world.specs.Visits.{began, frame_in}
use Rattle.law_world.specs.memory.Mixed.{IsMixedWorld}
use Rattle.law_world.proofs.lemmas.memory.LetGo.{moment_then}
use Rattle.law_world.proofs.lemmas.memory.Together.{texts_stay_mixed}
use Rattle.law_reports.specs.pipes.Declared.{sides_of}
use Rattle.law_reports.proofs.lemmas.due_at_begin.BegunMoments.{BeginsNow, begun_then}
use Rattle.law_reports.proofs.lemmas.due_at_begin.Moments.{known_at, mixed_then, heads_then_at, owned_at}
use Rattle.law_reports.proofs.lemmas.due_at_begin.Resting.{IsResting, is_apart, none_apart}
use Rattle.law_reports.proofs.lemmas.due_at_begin.RestingMoments.{rests_then, uncancelled_then}
use Rattle.law_reports.proofs.lemmas.due_at_begin.SplitTurns.{itself_as_due, waiting_split}
use Rattle.law_reports.proofs.lemmas.due_at_begin.Stages.{begins_walk}
use Rattle.law_reports.proofs.lemmas.due_at_begin.WrittenMoments.{since_at}

-- as a microframe began it waited, and there is nothing to do
pub record RestsFrom (b : World) (e q : ℕ) (p : Placement) (v : Qh) : Type 0 where
  pub frames : IsInItsFrames b.driver e q p
  pub active : is_active p (frame_in b.control.frame.index) ≡ true
  pub read : queue_head_at_address b.memory (32 * q) ≡ Some v
  pub waiting : waits v ≡ true
  pub rests : turn_of b.control.frame.index v ≡ turns.Rest

module _ (text : List ℕ) (s : Script) (spelled : Spells text s) (e q : ℕ) (p : Placement) (v : Qh) where
  pub before_then : (k : ℕ) → IsUncancelled (moment s (suc k)).world.driver e → IsUncancelled (moment s k).world.driver e
  before_then k off =
      uncancelled_then (fixed_of s) (moment s k).world e (moment s k).orders
      (subst (λ (o : OrderedWorld). IsUncancelled o.world.driver e) (moment_then s k) off)

  -- the microframe goes on
  goes_on : (k : ℕ) → RestsFrom (begun s k) e q p v → IsUncancelled (moment s (suc k)).world.driver e
      → IsResting (moment s k).world e q p v → IsResting (moment s (suc k)).world e q p v
  goes_on k x off r =
      let index = (since_at text s spelled k e q p x.frames x.active (before_then k off)).index in
      subst (λ (o : OrderedWorld). IsResting o.world e q p v) (sym (moment_then s k))
      (rests_then (fixed_of s) (sides_of s) (began s k) (moment s k).world (so_far s k) (known_at text s spelled k) e q p v
      (waiting_split v x.waiting).work (frame_in (begun s k).control.frame.index) (in_list (begun s k).control.frame.index) x.active
      (λ on is. ap (λ (i : ℕ). turn_of i v) index ∙ x.rests) (moment s k).orders (mixed_then text s spelled k)
      (heads_then_at text s spelled k) (owned_at text s spelled k)
      (subst (λ (o : OrderedWorld). IsUncancelled o.world.driver e) (moment_then s k) off) r)

  -- it begins
  begins : (k : ℕ) → BeginsNow s k → RestsFrom (begun s (suc k)) e q p v → IsResting (moment s (suc k)).world e q p v
  begins k n x =
      let y : RestsFrom (controller_next (fixed_of s) (moment s k).world) e q p v =
      subst (λ (b : World). RestsFrom b e q p v) n.begun x in
      let l : IsMixedWorld (controller_next (fixed_of s) (moment s k).world) =
      subst IsMixedWorld n.world (texts_stay_mixed text s spelled (suc k)) in
      subst (λ (w : World). IsResting w e q p v) (sym n.world) (record {
        frames = y.frames;
        stands = record { queue = v; read = y.read; due = itself_as_due v };
        hand = is_apart (none_apart (controller_next (fixed_of s) (moment s k).world) (32 * q)
            (begins_walk (fixed_of s) (moment s k).world n.row l).nothing);
      })

  pub rest_at : (k : ℕ) → RestsFrom (begun s k) e q p v → IsUncancelled (moment s k).world.driver e → IsResting (moment s k).world e q p v
  unfolding ticks carried_from
  rest_at zero x off = absurd (cc x.frames.here)
  rest_at (suc k) x off =
      ⊎_elim {C = IsResting (moment s (suc k)).world e q p v}
      (λ (same : begun s (suc k) ≡ begun s k).
      let y : RestsFrom (begun s k) e q p v = subst (λ (b : World). RestsFrom b e q p v) same x in
      goes_on k y off (rest_at k y (before_then k off)))
      (λ (n : BeginsNow s k). begins k n x)
      (begun_then s k)
