-- The transactions of queue heads that the walk of the frames wrote back so far in a microframe (EHCI 1.0, 4.10.3, 4.10.4 and 4.12.2.4), as
-- the run tells it: a microframe that begins leaves none, and every event but one of the walk leaves them.
--     QueueMade              a transaction: the byte address of the queue head, the queue head as the transaction left its copy, with which
--                            it was written back, what the host heard, and what that came to
--     made_as s a q r ms     a visit to the queue head at a ends a transaction, in which the host heard r, and which came to s, with the
--                            copy q: it is one more
--     made_at hand r step ms .. by an event of this kind with this copy in hand: a write-back
--     made_after row w ms    after an event of this row of the controller in the world w
--     made_next fixed w ms   after the next event of the controller of a world
--     queues_made s k        after k events and commands of the run of a script, the newest first
--     HasMade P ms           one of them is so
use Rattle.std.specs.Prelude.{ℕ, ◌⊎◌, List, [], ◌∷◌, Option, Some, None}
use Rattle.usb_base.specs.declared.packets.Reply.{Reply}
use Rattle.script_types.specs.declared.scripts.Script.{Script}
use Rattle.qh_qtd.specs.declared.queue_head.Qh.{Qh}
use Rattle.toggle_error.specs.declared.host.Outcome.{Outcome}
use Rattle.periodic_walk.specs.declared.state.Hand.{Hand}
use Rattle.periodic_walk.specs.declared.state.Hand.TheVariants as hands
use Rattle.hc_core.specs.declared.controller.ControllerRow.{ControllerRow}
use Rattle.hc_core.specs.declared.controller.ControllerRow.TheVariants as rows
use Rattle.hc_core.specs.declared.controller.HcStep.{HcStep}
use Rattle.hc_core.specs.declared.controller.HcStep.TheVariants as steps
use Rattle.bus_wire.specs.Bus.{Fixed}
use Rattle.bus_world.specs.World.{World, controller_row, kind_next}
use Rattle.claims_world.specs.Carried.{carried}

pub record QueueMade : Type 0 where
  pub at : ℕ
  pub queue : Qh
  pub heard : Reply
  pub outcome : Outcome

-- ---- one event

abbrev pub made_as : Option Outcome → ℕ → Qh → Reply → List QueueMade → List QueueMade
made_as None a q r ms = ms
made_as (Some outcome) a q r ms = record { at = a; queue = q; heard = r; outcome = outcome } ∷ ms

abbrev pub made_at : Option Hand → Reply → HcStep → List QueueMade → List QueueMade
made_at (Some (hands.Queue h)) r steps.WriteBack ms = made_as h.copy.settled h.copy.at h.copy.queue_head r ms
made_at _ r step ms = ms

-- ---- along a run

abbrev pub made_after : ControllerRow → World → List QueueMade → List QueueMade
made_after rows.Begin w ms = []
made_after rows.Frame w ms = made_at w.control.frame.hand w.control.frame.reply (kind_next w) ms
made_after rows.Idle w ms = ms
made_after rows.Enter w ms = ms
made_after rows.Go w ms = ms
made_after rows.End w ms = ms

abbrev pub made_next : Fixed → World → List QueueMade → List QueueMade
made_next fixed w ms = made_after (controller_row w) w ms

abbrev pub queues_made : Script → ℕ → List QueueMade
queues_made s k = carried made_next s [] k

abbrev pub HasMade : (QueueMade → Type 0) → List QueueMade → Type 0
HasMade P [] = ⊥
HasMade P (m ∷ ms) = P m ⊎ HasMade P ms
