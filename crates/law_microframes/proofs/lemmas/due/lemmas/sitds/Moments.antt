-- So it is at each moment of each script, and once the walk of the frames is over each transaction that came is made.
use Rattle.std.proofs.Common.{◌≡◌, ℕ, List, Option, Some, None, ap, refl, sym, subst, ◌∙◌}
use Rattle.std.proofs.lemmas.Bool.{false≢true}
use Rattle.script_types.specs.declared.scripts.Script.{Script}
use Rattle.script_text.specs.Faults.{Spells}
use Rattle.usb_base.specs.declared.packets.Reply.{Reply}
use Rattle.itd_sitd.specs.declared.sitd.Sitd.{Sitd}
use Rattle.hc_interrupt.specs.Turns.{microframe_of}
use Rattle.periodic_walk.specs.declared.state.Hand.{Hand}
use Rattle.periodic_walk.specs.Walk.{over_at}
use Rattle.hc_core.specs.Controller.{Control}
use Rattle.hc_core.specs.declared.controller.MicroframePart.{MicroframePart}
use Rattle.hc_core.specs.declared.controller.MicroframePart.TheVariants.{Periodic, Asynchronous, Over}
use Rattle.bus_wire.specs.Bus.{Bus, Fixed, fixed_of}
use Rattle.bus_world.specs.Budgets.{moment}
use Rattle.bus_world.specs.World.{World, commanded}
use Rattle.claims_world.specs.Sitds.{SitdMade, Sitds, no_sitds, sitds_next, sitds, AreServed}
use Rattle.claims_world.specs.Visits.{IsPastFrames, is_held_now}
use Rattle.claims_world.specs.WithinLoad.{repeats_next, repeats}
use Rattle.law_world.proofs.lemmas.memory.Carrying.{carrying, both, both_carried}
use Rattle.law_microframes.proofs.lemmas.visits.ReasonParts.{command_control, command_bus}
use Rattle.law_microframes.specs.due.sitds.SitdLaws.{TextsServeSitds}
use Rattle.law_microframes.proofs.lemmas.due.lemmas.slots.Moments.{known_at}
use Rattle.law_microframes.proofs.lemmas.due.lemmas.slots.Worlds.{IsKnown}
use Rattle.law_microframes.proofs.lemmas.due.lemmas.sitds.Events.{WithPart}
use Rattle.law_microframes.proofs.lemmas.due.lemmas.sitds.Worlds.{GoOn, controller_goes_on}

-- an event of the driver and a command leave the walk and the bus
command_goes_on : (fixed : Fixed) (w other : World) (t : Sitds) (again : ℕ) → other.control ≡ w.control → other.bus ≡ w.bus
    → GoOn fixed w t again → GoOn fixed other t again
command_goes_on fixed w other t again control bus all free few =
    subst (λ (c : Control). WithPart (microframe_of c.frame.index) c.part c.frame.hand c.frame.reply t.came t.made) (sym control)
    (all (ap (λ (b : Bus). is_held_now fixed (record w { bus = b })) (sym bus) ∙ free) few)

served_at : (text : List ℕ) (s : Script) → Spells text s → (k : ℕ) → GoOn (fixed_of s) (moment s k).world (sitds s k) (repeats s k)
served_at text s spelled k =
    subst (λ (z : Sitds × ℕ). GoOn (fixed_of s) (moment s k).world z.0 z.1) (both_carried sitds_next repeats_next s no_sitds 0 k)
    (carrying (both sitds_next repeats_next) (λ w orders z. IsKnown (fixed_of s) w z.1) (λ w z. GoOn (fixed_of s) w z.0 z.1) s
    (no_sitds, 0)
    (record {
      controller = λ w orders z known all. controller_goes_on (fixed_of s) w z.1 known z.0 all;
      driver = λ w orders z known all. all;
      command = λ w n cmd rest z known all.
          command_goes_on (fixed_of s) w (commanded w n cmd) z.0 z.1 (command_control w n cmd) (command_bus w n cmd) all;
    })
    (λ j. subst (λ (z : Sitds × ℕ). IsKnown (fixed_of s) (moment s j).world z.1) (sym (both_carried sitds_next repeats_next s no_sitds 0 j))
    (known_at text s spelled j))
    (λ free few. tt) k)

-- where the walk is over nothing is in hand
past_hand : (w : World) (u : ℕ) (part : MicroframePart) (hand : Option Hand) (r : Reply) (cs : List (ℕ × Sitd)) (ms : List SitdMade)
    → w.control.part ≡ part → w.control.frame.hand ≡ hand → IsPastFrames w → WithPart u part hand r cs ms → AreServed u cs ms
past_hand w u Periodic None r cs ms part is past served = served
past_hand w u Periodic (Some hand) r cs ms part is past served =
    absurd (false≢true (sym (ap (λ (o : Option Hand). over_at o w.control.frame.cursor) is) ∙ past part))
past_hand w u Asynchronous hand r cs ms part is past served = served
past_hand w u Over hand r cs ms part is past served = served

pub texts_serve_sitds : TextsServeSitds
texts_serve_sitds text s spelled k past free few =
    let w : World = (moment s k).world in
    past_hand w (microframe_of w.control.frame.index) w.control.part w.control.frame.hand w.control.frame.reply (sitds s k).came
    (sitds s k).made refl refl past
    (served_at text s spelled k free few)
