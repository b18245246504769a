-- At each moment of a script's run what was due of an interrupt endpoint below a hub as the microframe began is in its stage; so it is done
-- once the walk of the frames is over, and what its transaction left of the bus stands.
use Rattle.std.proofs.Common.{◌≡◌, ◌≢◌, ℕ, zero, suc, ◌≤◌, true, false, List, [], Option, Some, ap, sym, subst, ◌∙◌}
use Rattle.std.proofs.lemmas.Bool.{false≢true}
use Rattle.usb_base.specs.declared.endpoints.EpDesc.{EpDesc}
use Rattle.script_types.specs.declared.scripts.Script.{Script}
use Rattle.script_text.specs.Faults.{Spells}
use Rattle.script_fits.proofs.Texts.{spelled_fits}
use Rattle.qh_qtd.specs.declared.queue_head.Qh.{Qh}
use Rattle.bandwidth.specs.declared.placements.Placement.{Placement}
use Rattle.bandwidth.specs.Sums.{is_active}
use Rattle.hc_masks.specs.Masks.{has}
use Rattle.periodic_walk.specs.declared.state.Hand.{Hand}
use Rattle.periodic_walk.specs.declared.state.Hand.TheVariants as hands
use Rattle.periodic_walk.specs.Walk.{over_at}
use Rattle.hc_core.specs.declared.controller.MicroframePart.TheVariants.{Periodic}
use Rattle.bus_wire.specs.Bus.{Bus, fixed_of}
use Rattle.bus_world.specs.Budgets.{moment}
use Rattle.bus_world.specs.Opening.{opening_world}
use Rattle.bus_world.specs.Orders.{OrderedWorld, tick_at, ticks}
use Rattle.bus_world.specs.World.{World, controller_next}
use Rattle.claims_world.specs.Carried.{carried_from, carried_in}
use Rattle.claims_world.specs.Coming.{IsInItsFrames}
use Rattle.claims_world.specs.DueAtBegin.{begun, IsUncancelled}
use Rattle.claims_world.specs.InTime.{IsInTime}
use Rattle.claims_world.specs.QueuesMade.{QueueMade, made_next, queues_made, HasMade}
use Rattle.claims_world.specs.SoFar.{SoFar, nothing_yet, so_far_next, so_far}
use Rattle.claims_world.specs.Visits.{IsPastFrames, began_by, began, frame_in}
use Rattle.claims_world.specs.WithinLoad.{repeats_next, repeats}
use Rattle.law_world.specs.memory.Mixed.{IsMixedWorld}
use Rattle.law_world.proofs.lemmas.memory.Carrying.{carried_then}
use Rattle.law_world.proofs.lemmas.memory.LetGo.{moment_then}
use Rattle.law_microframes.specs.time.DataQueues.{QueuesSendData}
use Rattle.law_microframes.specs.visits.Belonging.{HeadsHaveFields}
use Rattle.law_microframes.proofs.lemmas.due.Coming.{texts_come_to_each}
use Rattle.law_microframes.proofs.lemmas.due.lemmas.repeats.Endpoints.{texts_stand}
use Rattle.law_microframes.proofs.lemmas.due.lemmas.repeats.RepeatMoments.{texts_are_heard}
use Rattle.law_microframes.proofs.lemmas.time.PaymentTimes.{texts_are_in_time}
use Rattle.law_reports.specs.pipes.Declared.{sides_of}
use Rattle.law_reports.proofs.lemmas.pipes.lemmas.high_streams.Opened.{moments_are_opened}
use Rattle.law_reports.proofs.lemmas.quiet.Served.{its_name}
use Rattle.law_reports.proofs.lemmas.due_at_begin.Moments.{known_at, mixed_then, heads_then_at, owned_at}
use Rattle.law_reports.proofs.lemmas.due_at_begin.Rooms.{rooms_at}
use Rattle.law_reports.proofs.lemmas.due_at_begin.SplitStages.{SplitStage, is_ahead}
use Rattle.law_reports.proofs.lemmas.due_at_begin.SplitStages.{is_held, is_told, is_done}
use Rattle.law_reports.proofs.lemmas.due_at_begin.SplitMoments.{IsDueOf, AreKnown, AreSplitsWaiting, Comes, StaysBeside, GoesAfter}
use Rattle.law_reports.proofs.lemmas.due_at_begin.SplitMoments.{splits_wait_then}

pub are_known : (text : List ℕ) (s : Script) → Spells text s → (k : ℕ) → AreKnown (fixed_of s) (moment s k).world
are_known text s spelled k = record {
  named = λ e y here. (its_name text s spelled y.desc (moments_are_opened s (spelled_fits text s spelled) k e y here)).name;
  sized = λ e y here. let u = texts_stand text s spelled k e y here in record { max = u.max; port = u.port };
  hears = λ e y here low carries. texts_are_heard text s spelled k e y here low carries;
  room = rooms_at text s spelled k;
}

module _ (text : List ℕ) (s : Script) (spelled : Spells text s) (D : World → ℕ → ℕ → Type 0)
    (X : (b : World) (e q : ℕ) → D b e q → EpDesc) (B A : (b : World) (e q : ℕ) → D b e q → Bus → Type 0)
    (P : (b : World) (e q : ℕ) → D b e q → QueueMade → Type 0) (comes : Comes D X B A P (fixed_of s))
    (stays : StaysBeside D X B A P (fixed_of s))
    (after : (k : ℕ) → GoesAfter D X B A P (fixed_of s) (begun s k) (moment s k).world (queues_made s k))
    (none : (e q : ℕ) → D (controller_next (fixed_of s) (opening_world s)) e q → ⊥) where
  abbrev AreAt : World → World → SoFar → List QueueMade → ℕ → Type 0
  AreAt b w t ms again = AreSplitsWaiting D X B A P (fixed_of s) b w t ms again

  timely_at : (k : ℕ) → IsInTime (fixed_of s) (repeats s k) (moment s k).world
  timely_at k = (texts_are_in_time text s spelled).each k

  abbrev then_world : ℕ → World
  then_world k = (tick_at (fixed_of s) (moment s k).world (moment s k).orders).world

  waits_at : (k : ℕ) → AreSplitsWaiting D X B A P (fixed_of s) (began s k) (moment s k).world (so_far s k) (queues_made s k) (repeats s k)
  unfolding ticks carried_from
  waits_at zero = λ few e q d off. absurd (none e q d)
  waits_at (suc k) =
      subst (λ (o : OrderedWorld). AreAt (began s (suc k)) o.world (so_far s (suc k)) (queues_made s (suc k)) (repeats s (suc k)))
      (sym (moment_then s k))
      (subst (λ (t : SoFar). AreAt (began s (suc k)) (then_world k) t (queues_made s (suc k)) (repeats s (suc k)))
      (sym (carried_then so_far_next s nothing_yet k))
      (subst (λ (ms : List QueueMade). AreAt (began s (suc k)) (then_world k)
      (carried_in so_far_next (fixed_of s) (moment s k).world (moment s k).orders (so_far s k)) ms (repeats s (suc k)))
      (sym (carried_then made_next s [] k))
      (subst (λ (again : ℕ). AreAt (began s (suc k)) (then_world k)
      (carried_in so_far_next (fixed_of s) (moment s k).world (moment s k).orders (so_far s k))
      (carried_in made_next (fixed_of s) (moment s k).world (moment s k).orders (queues_made s k)) again)
      (sym (carried_then repeats_next s 0 k))
      (subst (λ (b : World). AreAt b (then_world k)
      (carried_in so_far_next (fixed_of s) (moment s k).world (moment s k).orders (so_far s k))
      (carried_in made_next (fixed_of s) (moment s k).world (moment s k).orders (queues_made s k))
      (carried_in repeats_next (fixed_of s) (moment s k).world (moment s k).orders (repeats s k)))
      (sym (carried_then began_by s (opening_world s) k))
      (splits_wait_then D X B A P (fixed_of s) comes stays (sides_of s) (began s k) (moment s k).world (so_far s k) (queues_made s k)
      (repeats s k) (known_at text s spelled k) (are_known text s spelled k) (timely_at k) (after k) (waits_at k) (moment s k).orders
      (mixed_then text s spelled k)
      (heads_then_at text s spelled k) (owned_at text s spelled k))))))

  -- where the walk is over nothing is in hand
  in_hand_over : (w : World) (hand : Hand) → w.control.part ≡ Periodic → w.control.frame.hand ≡ Some hand → IsPastFrames w → ⊥
  in_hand_over w hand part is past = false≢true (sym (ap (λ (o : Option Hand). over_at o w.control.frame.cursor) is) ∙ past part)

  pub splits_are_left : (k e q : ℕ) → IsPastFrames (moment s k).world → repeats s k ≤ 4000000 → (d : D (begun s k) e q)
      → IsUncancelled (moment s k).world.driver e
      → HasMade (P (begun s k) e q d) (queues_made s k) × A (begun s k) e q d (moment s k).world.bus
  splits_are_left k e q past few d off = let i = waits_at k few e q d off in by i.placement i.queue i.was i.active i.frames i.index i.stage
    where
      by : (p : Placement) (v : Qh) → IsInItsFrames (begun s k).driver e q p
          → is_active p (frame_in (begun s k).control.frame.index) ≡ true → IsInItsFrames (moment s k).world.driver e q p
          → (moment s k).world.control.frame.index ≡ (begun s k).control.frame.index
          → SplitStage (fixed_of s) (X (begun s k) e q d) (B (begun s k) e q d) (A (begun s k) e q d) (moment s k).world (so_far s k)
          (queues_made s k) q (begun s k).control.frame.index p v (P (begun s k) e q d)
          → HasMade (P (begun s k) e q d) (queues_made s k) × A (begun s k) e q d (moment s k).world.bus
      by p v was active frames index (is_ahead a) =
          let c = texts_come_to_each text s spelled k e q p past was frames
          (ap (λ (j : ℕ). is_active p (frame_in j)) index ∙ active) in
          absurd (a.unfound c.0 c.1)
      by p v was active frames index (is_held h) = absurd (in_hand_over (moment s k).world (hands.Queue h.held) h.periodic h.hand past)
      by p v was active frames index (is_told h left) = absurd (in_hand_over (moment s k).world (hands.Queue h.held) h.periodic h.hand past)
      by p v was active frames index (is_done u left) = (u, left)

-- .. where nothing is said of the bus then
module _ (text : List ℕ) (s : Script) (spelled : Spells text s) (D : World → ℕ → ℕ → Type 0)
    (X : (b : World) (e q : ℕ) → D b e q → EpDesc) (B : (b : World) (e q : ℕ) → D b e q → Bus → Type 0)
    (P : (b : World) (e q : ℕ) → D b e q → QueueMade → Type 0) where
  abbrev pub NothingAfter : (b : World) (e q : ℕ) → D b e q → Bus → Type 0
  NothingAfter b e q d c = Unit {0}

  pub splits_are_made : ((b : World) → IsMixedWorld b → HeadsHaveFields b.driver b.memory → QueuesSendData b.driver b.memory → (e q : ℕ)
      (d : D b e q) → IsDueOf (fixed_of s) b e q (X b e q d) (B b e q d) (P b e q d)) → StaysBeside D X B NothingAfter P (fixed_of s)
      → ((e q : ℕ) → D (controller_next (fixed_of s) (opening_world s)) e q → ⊥) → (k e q : ℕ) → IsPastFrames (moment s k).world
      → repeats s k ≤ 4000000 → (d : D (begun s k) e q) → IsUncancelled (moment s k).world.driver e
      → HasMade (P (begun s k) e q d) (queues_made s k)
  splits_are_made comes stays none k e q past few d off =
      (splits_are_left text s spelled D X B NothingAfter P
      (λ b mixed heads sends x y due. (comes b mixed heads sends x y due, λ u same head pid c hears room has out last. tt)) stays
      (λ j x y due on made row left. tt) none k e q past few d off).0
