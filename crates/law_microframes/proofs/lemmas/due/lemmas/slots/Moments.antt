-- So it is at each moment of each script, and once the walk of the frames is over each slot that was fetched active is done.
use Rattle.std.proofs.Common.{◌≡◌, ℕ, List, Option, Some, None, ap, refl, sym, subst, ◌∙◌}
use Rattle.std.proofs.lemmas.Bool.{false≢true}
use Rattle.script_types.specs.declared.scripts.Script.{Script}
use Rattle.script_text.specs.Faults.{Spells}
use Rattle.periodic_walk.specs.declared.state.Hand.{Hand}
use Rattle.periodic_walk.specs.Walk.{over_at}
use Rattle.hc_core.specs.Controller.{Control}
use Rattle.hc_core.specs.declared.controller.MicroframePart.{MicroframePart}
use Rattle.hc_core.specs.declared.controller.MicroframePart.TheVariants.{Periodic, Asynchronous, Over}
use Rattle.bus_wire.specs.Bus.{Bus, Fixed, fixed_of}
use Rattle.bus_world.specs.Budgets.{moment}
use Rattle.bus_world.specs.World.{World, commanded}
use Rattle.claims_world.specs.Visits.{IsPastFrames, is_held_now}
use Rattle.claims_world.specs.WithinLoad.{repeats_next, repeats}
use Rattle.law_world.proofs.lemmas.memory.Carrying.{carrying, both, both_carried}
use Rattle.law_world.proofs.lemmas.memory.Together.{texts_stay_mixed}
use Rattle.law_microframes.proofs.lemmas.visits.ReasonHeld.{texts_keep_held_time}
use Rattle.law_microframes.proofs.lemmas.visits.ReasonParts.{command_control, command_bus}
use Rattle.law_microframes.proofs.lemmas.time.PaymentTimes.{texts_are_in_time}
use Rattle.claims_world.specs.Slots.{Slots, no_slots, slots_next, slots}
use Rattle.law_microframes.specs.due.slots.SlotLaws.{TextsServeSlots}
use Rattle.law_microframes.proofs.lemmas.due.lemmas.slots.Events.{with_part}
use Rattle.law_microframes.proofs.lemmas.due.lemmas.slots.Worlds.{IsKnown, AreServed, controller_goes_on}

-- an event of the driver and a command leave the walk and the bus
command_goes_on : (fixed : Fixed) (w other : World) (t : Slots) (again : ℕ) → other.control ≡ w.control → other.bus ≡ w.bus
    → AreServed fixed w t again → AreServed fixed other t again
command_goes_on fixed w other t again control bus all free few =
    all (ap (λ (b : Bus). is_held_now fixed (record w { bus = b })) (sym bus) ∙ free) few
    ∙ ap (λ (c : Control). with_part c.part c.frame.hand t.done) (sym control)

pub known_at : (text : List ℕ) (s : Script) → Spells text s → (k : ℕ) → IsKnown (fixed_of s) (moment s k).world (repeats s k)
known_at text s spelled k = record {
  mixed = texts_stay_mixed text s spelled k;
  timely = (texts_are_in_time text s spelled).each k;
  tells = (texts_keep_held_time text s spelled k).tells;
}

served_at : (text : List ℕ) (s : Script) → Spells text s → (k : ℕ) → AreServed (fixed_of s) (moment s k).world (slots s k) (repeats s k)
served_at text s spelled k =
    subst (λ (z : Slots × ℕ). AreServed (fixed_of s) (moment s k).world z.0 z.1) (both_carried slots_next repeats_next s no_slots 0 k)
    (carrying (both slots_next repeats_next) (λ w orders z. IsKnown (fixed_of s) w z.1) (λ w z. AreServed (fixed_of s) w z.0 z.1) s
    (no_slots, 0)
    (record {
      controller = λ w orders z known all. controller_goes_on (fixed_of s) w z.1 known z.0 all;
      driver = λ w orders z known all. all;
      command = λ w n cmd rest z known all.
          command_goes_on (fixed_of s) w (commanded w n cmd) z.0 z.1 (command_control w n cmd) (command_bus w n cmd) all;
    })
    (λ j. subst (λ (z : Slots × ℕ). IsKnown (fixed_of s) (moment s j).world z.1) (sym (both_carried slots_next repeats_next s no_slots 0 j))
    (known_at text s spelled j))
    (λ free few. refl) k)

-- where the walk is over nothing is in hand
past_hand : (w : World) (part : MicroframePart) (hand : Option Hand) (bs ds : List ℕ) → w.control.part ≡ part → w.control.frame.hand ≡ hand
    → IsPastFrames w → bs ≡ with_part part hand ds → bs ≡ ds
past_hand w Periodic None bs ds part is past same = same
past_hand w Periodic (Some hand) bs ds part is past same =
    absurd (false≢true (sym (ap (λ (o : Option Hand). over_at o w.control.frame.cursor) is) ∙ past part))
past_hand w Asynchronous hand bs ds part is past same = same
past_hand w Over hand bs ds part is past same = same

pub texts_serve_slots : TextsServeSlots
texts_serve_slots text s spelled k past free few =
    let w : World = (moment s k).world in
    sym (past_hand w w.control.part w.control.frame.hand (slots s k).active (slots s k).done refl refl past
    (served_at text s spelled k free few))
