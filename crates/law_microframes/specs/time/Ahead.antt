-- The most events of the controller that come before a microframe ends (EHCI 1.0, 4.4, 4.6 to 4.8, 4.8.3, 4.10 and 4.10.3; USB 2.0, 5.11.3), told by its part, what is in hand, the
-- time that is left, and what the walks have visited.
--     ring_ahead ..            the events of the asynchronous part that may still come; `n`: how often the head was read since the last transaction
--     chain_ahead ..           .. of the periodic part and all that follows
--     events_ahead c vs rs n   .. by the part of the microframe
--     ahead s k                .. at moment k of a script's run
--     IsWithinTime w           no walk has more time left than a microframe has
--     IsCounted fixed w vs rs n
--                              what is known of a moment: nothing of the world is out of place, the head is read once with no transaction between, there is no more time than a microframe's,
--                              and after the next event the walks have visited no more than the largest memory has blocks
--     RowLowers row            an event of this row that doesn't end the microframe lowers them
--     EachRowLowers            so it is with each row but Idle, which no run has
--     BeginLowers, EndLowers   so it is with a Begin, and with an End
--     NeverIdle                where nothing of the world is out of place, the row isn't Idle
use Rattle.std.specs.Prelude.{◌≡◌, ◌≢◌, ℕ, ◌+◌, ◌-◌, ◌*◌, ◌<◌, ◌≤◌, List, length, Option}
use Rattle.script_types.specs.declared.scripts.Script.{Script}
use Rattle.hc_copy.specs.declared.held.Held.{Held}
use Rattle.periodic_walk.specs.Walk.{Walk as FrameWalk}
use Rattle.hc_core.specs.declared.controller.ControllerRow.{ControllerRow}
use Rattle.hc_core.specs.declared.controller.ControllerRow.TheVariants as rows
use Rattle.hc_core.specs.declared.controller.HcStep.TheVariants as steps
use Rattle.hc_core.specs.declared.controller.MicroframePart.{MicroframePart}
use Rattle.hc_core.specs.declared.controller.MicroframePart.TheVariants.{Over, Periodic, Asynchronous}
use Rattle.hc_core.specs.Controller.{Control}
use Rattle.bus_wire.specs.Bus.{Fixed}
use Rattle.bus_world.specs.World.{World, controller_parts, controller_row, controller_next, kind_next}
use Rattle.bus_world.specs.Budgets.{moment}
use Rattle.law_world.specs.memory.Mixed.{IsMixedWorld}
use Rattle.claims_world.specs.Visits.{visits_after, visited}
use Rattle.law_microframes.specs.time.Rounds.{round_after, round}
use Rattle.claims_world.specs.Microframes.{most_blocks, round_length, rounds_ahead, ring_whole, microframe_whole, microframe_time}
use Rattle.law_microframes.specs.time.HeadReads.{heads_after, heads, HeadsAreFew}
use Rattle.law_microframes.specs.time.VisitSteps.{ring_steps}
use Rattle.law_microframes.specs.time.ChainEvents.{visit_ahead}

-- ---- the asynchronous part

abbrev pub ring_ahead : ℕ → Option Held → List ℕ → ℕ → ℕ
ring_ahead left held rs n = round_length * rounds_ahead left n + 4 * (most_blocks - length rs) + ring_steps held

-- ---- the periodic part

abbrev pub chain_ahead : FrameWalk → List ℕ → ℕ
chain_ahead f vs = 4 * (most_blocks - length vs) + visit_ahead f.hand f.left + ring_whole f.left

-- ---- a microframe

abbrev pub events_in : MicroframePart → Control → List ℕ → List ℕ → ℕ → ℕ
events_in Over c vs rs n = microframe_whole
events_in Periodic c vs rs n = chain_ahead c.frame vs
events_in Asynchronous c vs rs n = ring_ahead c.walk.left c.walk.held rs n

abbrev pub events_ahead : Control → List ℕ → List ℕ → ℕ → ℕ
events_ahead c vs rs n = events_in c.part c vs rs n

unfoldable pub ahead : Script → ℕ → ℕ
ahead s k = events_ahead (moment s k).world.control (visited s k) (round s k) (heads s k)

-- ---- each event lowers them

pub record IsWithinTime (w : World) : Type 0 where
  pub frames : w.control.frame.left ≤ microframe_time
  pub ring : w.control.walk.left ≤ microframe_time

pub record IsCounted (fixed : Fixed) (w : World) (vs rs : List ℕ) (n : ℕ) : Type 0 where
  pub mixed : IsMixedWorld w
  pub heads : HeadsAreFew fixed w n
  pub time : IsWithinTime w
  pub visits : length (visits_after (controller_row w) (controller_parts w) vs) ≤ most_blocks
  pub round : length (round_after (controller_row w) (controller_parts w) rs) ≤ most_blocks

abbrev pub RowLowers : ControllerRow → Type 0
RowLowers row = (fixed : Fixed) (w : World) (vs rs : List ℕ) (n : ℕ) → IsCounted fixed w vs rs n → controller_row w ≡ row → kind_next w ≢ steps.End
    → events_ahead (controller_next fixed w).control (visits_after row (controller_parts w) vs) (round_after row (controller_parts w) rs) (heads_after row (controller_parts w) n)
    < events_ahead w.control vs rs n

abbrev pub EachRowLowers : Type 0
EachRowLowers = (row : ControllerRow) → row ≢ rows.Idle → RowLowers row

abbrev pub BeginLowers : Type 0
BeginLowers = RowLowers rows.Begin

abbrev pub EndLowers : Type 0
EndLowers = RowLowers rows.End

abbrev pub NeverIdle : Type 0
NeverIdle = (w : World) → IsMixedWorld w → controller_row w ≢ rows.Idle
