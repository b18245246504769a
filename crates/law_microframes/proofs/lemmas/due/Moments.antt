-- At each moment of a script's run what was found and due is in its stage; so it is done once the walk of the frames is over.
use Rattle.std.proofs.Common.{◌≡◌, ℕ, zero, suc, ◌*◌, List, [], ◌∷◌, Option, Some, ap, refl, sym, subst, ◌∙◌}
use Rattle.std.proofs.lemmas.Bool.{false≢true}
use Rattle.usb_base.specs.declared.commands.Cmd.{Cmd}
use Rattle.usb_base.specs.declared.endpoints.EpName.{EpName}
use Rattle.script_types.specs.declared.scripts.Event.TheVariants as events
use Rattle.script_types.specs.declared.scripts.Script.{Script}
use Rattle.script_text.specs.Faults.{Spells}
use Rattle.script_fits.proofs.Texts.{spelled_fits}
use Rattle.law_scripts.proofs.lemmas.script_bytes.Texts.{a_text_spells_bytes}
use Rattle.hc_interrupt.specs.Turns.{microframe_of}
use Rattle.periodic_walk.specs.declared.state.Hand.{Hand}
use Rattle.periodic_walk.specs.declared.state.Hand.TheVariants as hands
use Rattle.periodic_walk.specs.Walk.{over_at}
use Rattle.hc_core.specs.declared.controller.MicroframePart.TheVariants.{Periodic}
use Rattle.bus_wire.specs.Bus.{Fixed, fixed_of}
use Rattle.bus_world.specs.Budgets.{moment}
use Rattle.bus_world.specs.Orders.{Left, Events, Microframes, Answer, Command, Plugs, OrderedWorld, tick_at, ticks}
use Rattle.bus_world.specs.World.{World, controller_parts, driver_next, commanded}
use Rattle.claims_world.specs.Carried.{carried_from, carried_in}
use Rattle.claims_world.specs.Owners.{LeavesControllers, is_controllers, KeepsToOwners}
use Rattle.claims_world.specs.Visits.{IsPastFrames}
use Rattle.claims_world.specs.WithinLoad.{repeats_next, repeats}
use Rattle.law_world.proofs.lemmas.memory.Carrying.{carried_then}
use Rattle.law_world.proofs.lemmas.memory.FittingTexts.{texts_open_fitting}
use Rattle.law_world.proofs.lemmas.memory.LetGo.{moment_then}
use Rattle.law_world.proofs.lemmas.memory.OwnMoments.{texts_keep_to_owners}
use Rattle.law_world.proofs.lemmas.memory.Texts.{texts_fit}
use Rattle.law_world.proofs.lemmas.memory.Together.{texts_stay_mixed}
use Rattle.law_microframes.proofs.lemmas.visits.BelongMoments.{scripts_keep_fields}
use Rattle.law_microframes.proofs.lemmas.visits.ReasonParts.{command_control, command_bus}
use Rattle.law_microframes.proofs.lemmas.visits.VisitTexts.{lines_fit}
use Rattle.law_microframes.proofs.lemmas.time.DataMoments.{scripts_send_data}
use Rattle.law_microframes.proofs.lemmas.time.PaymentTimes.{texts_are_in_time}
use Rattle.claims_world.specs.SoFar.{SoFar, nothing_yet, so_far_next, so_far, HasMoved}
use Rattle.claims_world.specs.Due.{bytes_moved, DueIsDone}
use Rattle.law_microframes.specs.due.Laws.{TextsDoWhatIsDue}
use Rattle.law_microframes.proofs.lemmas.due.Held.{Stage, is_held, is_told, is_done}
use Rattle.law_microframes.proofs.lemmas.due.Stages.{AreInStages, IsKnown, controller_goes_on, aside_goes_on}

-- ---- from one moment to the next

module _ (fixed : Fixed) (w : World) (again : ℕ) (known : IsKnown fixed w again) (t : SoFar) (all : AreInStages fixed w t again) where
  by_driver : LeavesControllers (controller_parts w) (driver_next w).memory → AreInStages fixed (driver_next w) t again
  by_driver leaves =
      aside_goes_on fixed w again known t all (driver_next w) (record { control = refl; bus = refl; leaves = leaves })

  by_command : (n : ℕ) (cmd : Cmd) → LeavesControllers (controller_parts w) (commanded w n cmd).memory
      → AreInStages fixed (commanded w n cmd) t again
  by_command n cmd leaves =
      aside_goes_on fixed w again known t all (commanded w n cmd)
      (record { control = command_control w n cmd; bus = command_bus w n cmd; leaves = leaves })

  by_orders : (orders : List Left) → KeepsToOwners (is_controllers orders) (controller_parts w) (tick_at fixed w orders).world.memory
      → AreInStages fixed (tick_at fixed w orders).world (carried_in so_far_next fixed w orders t)
      (carried_in repeats_next fixed w orders again)
  by_orders [] owns = all
  by_orders (Events event zero ∷ rest) owns = all
  by_orders (Events events.C (suc n) ∷ rest) owns = controller_goes_on fixed w again known t all
  by_orders (Events events.D (suc n) ∷ rest) owns = by_driver owns
  by_orders (Microframes zero ∷ rest) owns = all
  by_orders (Microframes (suc n) ∷ rest) owns = controller_goes_on fixed w again known t all
  by_orders (Answer ended n ∷ rest) owns = by_driver owns
  by_orders (Command n cmd ∷ rest) owns = by_command n cmd owns
  by_orders (Plugs there port ∷ rest) owns = all

-- ---- a run

module _ (text : List ℕ) (s : Script) (spelled : Spells text s) where
  known_at : (k : ℕ) → IsKnown (fixed_of s) (moment s k).world (repeats s k)
  known_at k = record {
    mixed = texts_stay_mixed text s spelled k;
    heads = scripts_keep_fields s (spelled_fits text s spelled) (a_text_spells_bytes text s spelled)
        (lines_fit s.lines (texts_fit text s spelled) (texts_open_fitting text s spelled)) k;
    timely = (texts_are_in_time text s spelled).each k;
    sends = scripts_send_data s (spelled_fits text s spelled) (a_text_spells_bytes text s spelled)
        (lines_fit s.lines (texts_fit text s spelled) (texts_open_fitting text s spelled)) k;
  }

  owned_at : (k : ℕ) → KeepsToOwners (is_controllers (moment s k).orders) (controller_parts (moment s k).world)
      (tick_at (fixed_of s) (moment s k).world (moment s k).orders).world.memory
  owned_at k =
      subst (λ (q : OrderedWorld). KeepsToOwners (is_controllers (moment s k).orders) (controller_parts (moment s k).world) q.world.memory)
      (moment_then s k) (texts_keep_to_owners text s spelled k)

  stages_at : (k : ℕ) → AreInStages (fixed_of s) (moment s k).world (so_far s k) (repeats s k)
  unfolding ticks carried_from
  stages_at zero = λ few e q o due found. absurd found
  stages_at (suc k) =
      subst (λ (q : OrderedWorld). AreInStages (fixed_of s) q.world (so_far s (suc k)) (repeats s (suc k))) (sym (moment_then s k))
      (subst (λ (t : SoFar). AreInStages (fixed_of s) (tick_at (fixed_of s) (moment s k).world (moment s k).orders).world t
      (repeats s (suc k)))
      (sym (carried_then so_far_next s nothing_yet k))
      (subst (AreInStages (fixed_of s) (tick_at (fixed_of s) (moment s k).world (moment s k).orders).world
      (carried_in so_far_next (fixed_of s) (moment s k).world (moment s k).orders (so_far s k)))
      (sym (carried_then repeats_next s 0 k))
      (by_orders (fixed_of s) (moment s k).world (repeats s k) (known_at k) (so_far s k) (stages_at k) (moment s k).orders (owned_at k))))

  -- ---- where the walk is over nothing is in hand

  in_hand_over : (w : World) (hand : Hand) → w.control.part ≡ Periodic → w.control.frame.hand ≡ Some hand → IsPastFrames w → ⊥
  in_hand_over w hand part is past = false≢true (sym (ap (λ (o : Option Hand). over_at o w.control.frame.cursor) is) ∙ past part)

  ended : (w : World) (t : SoFar) (n u : ℕ) (name : EpName) (bytes : ℕ) → IsPastFrames w
      → Stage (fixed_of s) w t n u name bytes → HasMoved n bytes t.moved
  ended w t n u name bytes past (is_held h) = absurd (in_hand_over w (hands.Queue h.held) h.periodic h.hand past)
  ended w t n u name bytes past (is_told h) = absurd (in_hand_over w (hands.Queue h.held) h.periodic h.hand past)
  ended w t n u name bytes past (is_done d) = d

  due_is_done : DueIsDone s
  due_is_done k e q o past few due found =
      ended (moment s k).world (so_far s k) (32 * q) (microframe_of o.control.frame.index) due.there.endpoint.desc.name
      (bytes_moved due.transfer.ready.answers) past
      (stages_at k few e q o due found)

pub texts_do_what_is_due : TextsDoWhatIsDue
texts_do_what_is_due = λ text s spelled. due_is_done text s spelled
