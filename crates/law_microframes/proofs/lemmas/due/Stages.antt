-- Each event of the controller leaves what is due in a stage between its fetch and its write-back (EHCI 1.0, 4.4, 4.6, 4.10).
use Rattle.std.proofs.Common.{◌≡◌, ◌≢◌, ℕ, ◌*◌, ◌≤◌, List, ◌∷◌, Option, Some, None, ap, refl, sym}
use Rattle.std.proofs.Common.{subst, ◌∙◌, inl, inr, ◌⊎◌, arith}
use Rattle.law_microframes.proofs.Common.{repeats_less, frame_row}
use Rattle.usb_base.specs.declared.endpoints.EpName.{EpName}
use Rattle.toggle_error.specs.declared.host.Outcome.{Outcome}
use Rattle.toggle_error.specs.declared.host.Outcome.TheVariants as outcomes
use Rattle.hc_interrupt.specs.Turns.{microframe_of}
use Rattle.async_walk.specs.declared.state.WalkStep.TheVariants as walks
use Rattle.periodic_walk.specs.declared.chain.ChainRow.{ChainRow}
use Rattle.periodic_walk.specs.declared.state.Hand.{Hand}
use Rattle.periodic_walk.specs.declared.state.Hand.TheVariants as hands
use Rattle.periodic_walk.specs.Chain.{chain_row}
use Rattle.hc_core.specs.declared.controller.ControllerRow.{ControllerRow}
use Rattle.hc_core.specs.declared.controller.ControllerRow.TheVariants as rows
use Rattle.hc_core.specs.declared.controller.HcStep.{HcStep}
use Rattle.hc_core.specs.declared.controller.HcStep.TheVariants as steps
use Rattle.hc_core.specs.Controller.{frame_place}
use Rattle.bus_wire.specs.Bus.{Fixed}
use Rattle.bus_world.specs.World.{World, controller_parts, controller_row, controller_next, kind_next}
use Rattle.claims_world.specs.InTime.{IsInTime}
use Rattle.claims_world.specs.Visits.{fetched_by}
use Rattle.claims_world.specs.WithinLoad.{repeats_at, repeats_after, repeats_next}
use Rattle.law_world.specs.memory.Mixed.{IsMixedWorld}
use Rattle.law_microframes.specs.visits.Belonging.{HeadsHaveFields}
use Rattle.law_microframes.specs.time.DataQueues.{QueuesSendData}
use Rattle.claims_world.specs.SoFar.{SoFar, found_too, found_next, moved_as, moved_at, so_far_after, so_far_next, HasFound, HasMoved}
use Rattle.claims_world.specs.Due.{bytes_moved, IsDueNow}
use Rattle.law_microframes.proofs.lemmas.due.Aside.{IsAside, aside_stays}
use Rattle.law_microframes.proofs.lemmas.due.Fetched.{is_found}
use Rattle.law_microframes.proofs.lemmas.due.Held.{IsToldAt, Stage, is_held, is_told, is_done, held_goes_on}
use Rattle.law_microframes.proofs.lemmas.due.FetchedKinds.{fetched_queue}
use Rattle.law_microframes.proofs.lemmas.due.Turning.{in_periodic, no_fault, kind_is}
use Rattle.law_microframes.proofs.lemmas.due.Visiting.{writes}

-- ---- what is carried

-- of each that was found and due, the stage
abbrev pub AreInStages : Fixed → World → SoFar → ℕ → Type 0
AreInStages fixed w t again = again ≤ 4000000 → (e q : ℕ) (o : World) (due : IsDueNow fixed o e q) → HasFound (32 * q) o t.found
    → Stage fixed w t (32 * q) (microframe_of o.control.frame.index) due.there.endpoint.desc.name (bytes_moved due.transfer.ready.answers)

-- what is known of a moment
pub record IsKnown (fixed : Fixed) (w : World) (again : ℕ) : Type 0 where
  pub mixed : IsMixedWorld w
  pub heads : HeadsHaveFields w.driver w.memory
  pub timely : IsInTime fixed again w
  pub sends : QueuesSendData w.driver w.memory

-- ---- lists

more_as : (n b a : ℕ) (o : Option Outcome) (ms : List (ℕ × ℕ)) → HasMoved n b ms → HasMoved n b (moved_as o a ms)
more_as n b a (Some (outcomes.Moved k)) ms d = inr d
more_as n b a _ ms d = d

more_moved : (n b : ℕ) (hand : Option Hand) (step : HcStep) (ms : List (ℕ × ℕ)) → HasMoved n b ms → HasMoved n b (moved_at hand step ms)
more_moved n b (Some (hands.Queue h)) steps.WriteBack ms d = more_as n b h.copy.at h.copy.settled ms d
more_moved n b _ _ ms d = d

record IsNew (w : World) (n : ℕ) (o : World) (hand : Option Hand) (row : ChainRow) : Type 0 where
  none : hand ≡ None
  address : ℕ
  fetched : fetched_by row ≡ Some address
  at : address ≡ n
  same : w ≡ o

found_by : (w : World) (n : ℕ) (o : World) (row : ChainRow) (a : Option ℕ) (fs : List (ℕ × World)) → fetched_by row ≡ a
    → HasFound n o (found_too a w fs)
    → IsNew w n o None row ⊎ HasFound n o fs
found_by w n o row None fs is old = inr old
found_by w n o row (Some a) fs is (inl new) = inl (record { none = refl; address = a; fetched = is; at = new.0; same = new.1 })
found_by w n o row (Some a) fs is (inr old) = inr old

found_in : (w : World) (n : ℕ) (o : World) (hand : Option Hand) (row : ChainRow) (fs : List (ℕ × World))
    → HasFound n o (found_next hand row w fs)
    → IsNew w n o hand row ⊎ HasFound n o fs
found_in w n o None row fs found = found_by w n o row (fetched_by row) fs refl found
found_in w n o (Some hand) row fs found = inr found

-- ---- an event of the controller

module _ (fixed : Fixed) (w : World) (again : ℕ) (known : IsKnown fixed w again) (t : SoFar) (all : AreInStages fixed w t again) where
  abbrev later : World
  later = controller_next fixed w

  -- with nothing of it in hand it is done
  quiet : (now : SoFar) (r : ControllerRow) → controller_row w ≡ r → r ≢ rows.Frame
      → ((n b : ℕ) → HasMoved n b t.moved → HasMoved n b now.moved)
      → (n u : ℕ) (name : EpName) (bytes : ℕ) → Stage fixed w t n u name bytes → Stage fixed (controller_next fixed w) now n u name bytes
  quiet now r is other more n u name bytes (is_held s) =
      absurd (other (sym is ∙ frame_row w (hands.Queue s.held) known.mixed s.periodic s.hand))
  quiet now r is other more n u name bytes (is_told s) =
      absurd (other (sym is ∙ frame_row w (hands.Queue s.held) known.mixed s.periodic s.hand))
  quiet now r is other more n u name bytes (is_done d) = is_done (more n bytes d)

  quiet_row : (r : ControllerRow) → controller_row w ≡ r → r ≢ rows.Frame → AreInStages fixed (controller_next fixed w) t again
  quiet_row r is other few e q o due found =
      quiet t r is other (λ n b d. d) (32 * q) (microframe_of o.control.frame.index) due.there.endpoint.desc.name
      (bytes_moved due.transfer.ready.answers) (all few e q o due found)

  module _ (row : controller_row w ≡ rows.Frame) where
    abbrev moves : List (ℕ × ℕ)
    moves = moved_at w.control.frame.hand (kind_next w) t.moved

    abbrev now : SoFar
    now = so_far_after rows.Frame w t

    grown : (n u : ℕ) (name : EpName) (bytes : ℕ) → Stage fixed (controller_next fixed w) t n u name bytes
        → Stage fixed (controller_next fixed w) now n u name bytes
    grown n u name bytes (is_held s) = is_held s
    grown n u name bytes (is_told s) = is_told s
    grown n u name bytes (is_done d) = is_done (more_moved n bytes w.control.frame.hand (kind_next w) t.moved d)

    -- its transaction is written back
    written : (n u bytes : ℕ) (s : IsToldAt w n u bytes) → HasMoved n bytes moves
    written n u bytes s =
        let sound = no_fault fixed w row known.mixed in
        let kind : kind_next w ≡ steps.WriteBack =
        kind_is fixed w row walks.WriteBack
        (writes (frame_place (controller_parts w)) s.held s.hand sound (outcomes.Moved bytes) s.settled) in
        let is : moves ≡ (s.held.copy.at, bytes) ∷ t.moved =
        ap (λ (hand : Option Hand). moved_at hand (kind_next w) t.moved) s.hand
        ∙ ap (λ (k : HcStep). moved_at (Some (hands.Queue s.held)) k t.moved) kind
        ∙ ap (λ (o : Option Outcome). moved_as o s.held.copy.at t.moved) s.settled in
        subst (HasMoved n bytes) (sym is) (inl (s.at, refl))

    goes_on : again ≤ 4000000 → (n u : ℕ) (name : EpName) (bytes : ℕ) → Stage fixed w t n u name bytes
        → Stage fixed (controller_next fixed w) now n u name bytes
    goes_on few n u name bytes (is_held s) =
        grown n u name bytes (held_goes_on fixed w n u name bytes known.mixed t s again few known.timely)
    goes_on few n u name bytes (is_told s) = is_done (written n u bytes s)
    goes_on few n u name bytes (is_done d) = is_done (more_moved n bytes w.control.frame.hand (kind_next w) t.moved d)

    -- it was just found
    fetched : (e q : ℕ) (o : World) → w ≡ o → (due : IsDueNow fixed o e q) → w.control.frame.hand ≡ None → (a : ℕ)
        → fetched_by (chain_row w.memory w.control.frame.cursor) ≡ Some a → a ≡ 32 * q
        → Stage fixed (controller_next fixed w) now (32 * q) (microframe_of o.control.frame.index) due.there.endpoint.desc.name
        (bytes_moved due.transfer.ready.answers)
    fetched e q o same =
        subst
        (λ (x : World). (due : IsDueNow fixed x e q) → w.control.frame.hand ≡ None → (a : ℕ)
        → fetched_by (chain_row w.memory w.control.frame.cursor) ≡ Some a → a ≡ 32 * q
        → Stage fixed (controller_next fixed w) now (32 * q) (microframe_of x.control.frame.index) due.there.endpoint.desc.name
        (bytes_moved due.transfer.ready.answers)) same
        (λ due none a is at.
        let queue = fetched_queue w known.mixed (in_periodic fixed w row) e q due.placement due.there a is at in
        is_held (is_found fixed w known.mixed known.heads known.sends e q due row none a queue.head queue.is at))

    frame_goes_on : AreInStages fixed (controller_next fixed w) now (repeats_at w.control.frame.hand (kind_next w) again)
    frame_goes_on few e q o due found =
        let less = repeats_less w.control.frame.hand (kind_next w) again in
        elim (found_in w (32 * q) o w.control.frame.hand (chain_row w.memory w.control.frame.cursor) t.found found) [
          | inl new ↦ fetched e q o new.same due new.none new.address new.fetched new.at
          | inr old ↦ goes_on (omega (arith, few, less)) (32 * q) (microframe_of o.control.frame.index) due.there.endpoint.desc.name
              (bytes_moved due.transfer.ready.answers)
              (all (omega (arith, few, less)) e q o due old)
        ]

  by_row : (r : ControllerRow) → controller_row w ≡ r
      → AreInStages fixed (controller_next fixed w) (so_far_after r w t) (repeats_after r (kind_next w) (controller_parts w) again)
  by_row rows.Begin is = λ few e q o due found. absurd found
  by_row rows.Frame is = frame_goes_on is
  by_row rows.Idle is = quiet_row rows.Idle is (λ same. cc)
  by_row rows.Enter is = quiet_row rows.Enter is (λ same. cc)
  by_row rows.Go is = quiet_row rows.Go is (λ same. cc)
  by_row rows.End is = quiet_row rows.End is (λ same. cc)

  pub controller_goes_on : AreInStages fixed (controller_next fixed w) (so_far_next fixed w t) (repeats_next fixed w again)
  controller_goes_on = by_row (controller_row w) refl

  pub aside_goes_on : (other : World) → IsAside w other → AreInStages fixed other t again
  aside_goes_on other aside few e q o due found =
      aside_stays fixed w other known.mixed aside (32 * q) (microframe_of o.control.frame.index) due.there.endpoint.desc.name
      (bytes_moved due.transfer.ready.answers) t
      (all few e q o due found)
