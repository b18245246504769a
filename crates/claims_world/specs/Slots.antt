-- The slots of isochronous transfer descriptors that the walk of the frames comes to in a microframe, and those that are done (EHCI 1.0,
-- 3.3.2, 4.4, 4.6 and 4.7.1): each microframe has a slot of its own, which is done once its transactions were made and it is written back.
--     Slots                  the byte addresses of descriptors that were fetched with the slot of the microframe active, and of those whose
--                            slot was written back, the newest first
--     no_slots               as a microframe begins
--     active_at hand u ..    those after an event of the walk in microframe u: with a copy in hand nothing is fetched
--     done_in hand step ..   .. after an event of this kind with this copy in hand
--     slots_after row w t    both after an event of this row of the controller in the world w
--     slots s k              both after k events and commands of the run of a script
--     SlotsAreDone s         at each moment of the run of a script at which the walk of the frames is over, in a microframe that isn't
--                            held: each slot that was fetched active is done, and no other, where no more than 4 microseconds went for
--                            complete-splits that were made again
use Rattle.std.specs.Prelude.{◌≡◌, ℕ, ◌≤◌, false, List, [], ◌∷◌, Option, Some, None, if◌then◌else◌}
use Rattle.script_types.specs.declared.scripts.Script.{Script}
use Rattle.itd_sitd.specs.Itd.{slot_of}
use Rattle.hc_interrupt.specs.Turns.{microframe_of}
use Rattle.periodic_walk.specs.declared.chain.ChainRow.{ChainRow}
use Rattle.periodic_walk.specs.declared.chain.ChainRow.TheVariants as chains
use Rattle.periodic_walk.specs.declared.state.Hand.{Hand}
use Rattle.periodic_walk.specs.declared.state.Hand.TheVariants as hands
use Rattle.periodic_walk.specs.Chain.{chain_row}
use Rattle.hc_core.specs.declared.controller.ControllerRow.{ControllerRow}
use Rattle.hc_core.specs.declared.controller.ControllerRow.TheVariants as rows
use Rattle.hc_core.specs.declared.controller.HcStep.{HcStep}
use Rattle.hc_core.specs.declared.controller.HcStep.TheVariants as steps
use Rattle.bus_wire.specs.Bus.{Fixed, fixed_of}
use Rattle.bus_world.specs.Budgets.{moment}
use Rattle.bus_world.specs.World.{World, controller_row, kind_next}
use Rattle.claims_world.specs.Carried.{carried}
use Rattle.claims_world.specs.Visits.{IsPastFrames, is_held_now}
use Rattle.claims_world.specs.WithinLoad.{repeats}

pub record Slots : Type 0 where
  pub active : List ℕ
  pub done : List ℕ

abbrev pub no_slots : Slots
no_slots = record { active = []; done = [] }

-- ---- the walk comes to one

abbrev pub active_by : ℕ → ChainRow → List ℕ → List ℕ
active_by u chains.Fault bs = bs
active_by u chains.Ends bs = bs
active_by u (chains.Queue a q) bs = bs
active_by u (chains.Itd a v) bs = if (slot_of u v).active then a ∷ bs else bs
active_by u (chains.Sitd a v) bs = bs

abbrev pub active_at : Option Hand → ℕ → ChainRow → List ℕ → List ℕ
active_at None u row bs = active_by u row bs
active_at (Some hand) u row bs = bs

-- ---- it is written back

abbrev pub done_in : Option Hand → HcStep → List ℕ → List ℕ
done_in (Some (hands.Itd h)) steps.WriteBack ds = h.at ∷ ds
done_in _ step ds = ds

-- ---- along a run

abbrev pub slots_after : ControllerRow → World → Slots → Slots
slots_after rows.Begin w t = no_slots
slots_after rows.Frame w t = record {
  active = active_at w.control.frame.hand (microframe_of w.control.frame.index) (chain_row w.memory w.control.frame.cursor) t.active;
  done = done_in w.control.frame.hand (kind_next w) t.done;
}
slots_after rows.Idle w t = t
slots_after rows.Enter w t = t
slots_after rows.Go w t = t
slots_after rows.End w t = t

abbrev pub slots_next : Fixed → World → Slots → Slots
slots_next fixed w t = slots_after (controller_row w) w t

abbrev pub slots : Script → ℕ → Slots
slots s k = carried slots_next s no_slots k

-- 4,000,000 of the 125,000,000 ps of a microframe
abbrev pub SlotsAreDone : Script → Type 0
SlotsAreDone s = (k : ℕ) → IsPastFrames (moment s k).world → is_held_now (fixed_of s) (moment s k).world ≡ false → repeats s k ≤ 4000000
    → (slots s k).done ≡ (slots s k).active
