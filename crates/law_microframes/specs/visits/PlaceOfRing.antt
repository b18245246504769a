-- After an end by time the next microframe goes on at the same place of the ring (EHCI 1.0, 4.8.3, 4.9 and 4.10.3): at the queue head whose transaction had no time,
-- which is read anew. What the driver does between is of no account.
--     RowsKeepPlace fixed w    what each event of the controller leaves of the walk of the ring outside the asynchronous part: an event between leaves all of it, and an end
--                              by time the cursor; an end at the head of the ring leads to the start of the ring
--     WorldsKeepPlace          the law of each event, whatever the world
--     TextsKeepPlaceOfRing     the law of runs, of each script that a text spells
use Rattle.std.specs.Prelude.{◌≡◌, ℕ, List}
use Rattle.script_types.specs.declared.scripts.Script.{Script}
use Rattle.script_text.specs.Faults.{Spells}
use Rattle.async_walk.specs.declared.rows.WalkRow.TheVariants as walks
use Rattle.async_walk.specs.declared.state.Cursor.TheVariants as cursors
use Rattle.async_walk.specs.Walk.{stopped}
use Rattle.async_walk.specs.Rows.{event_row}
use Rattle.hc_core.specs.declared.controller.ControllerRow.TheVariants as rows
use Rattle.hc_core.specs.Controller.{walk_place}
use Rattle.bus_wire.specs.Bus.{Fixed}
use Rattle.bus_world.specs.World.{World, controller_parts, controller_row, controller_next}
use Rattle.claims_world.specs.Visits.{KeepsPlaceOfRing}

-- ---- each event

pub record RowsKeepPlace (fixed : Fixed) (w : World) : Type 0 where
  pub idle : controller_row w ≡ rows.Idle → (controller_next fixed w).control.walk ≡ w.control.walk
  pub begins : controller_row w ≡ rows.Begin → (controller_next fixed w).control.walk ≡ w.control.walk
  pub of_frames : controller_row w ≡ rows.Frame → (controller_next fixed w).control.walk ≡ w.control.walk
  -- the asynchronous part is disabled
  pub disabled : controller_row w ≡ rows.End → (controller_next fixed w).control.walk ≡ stopped w.control.walk
  pub late : controller_row w ≡ rows.Go → event_row (walk_place (controller_parts w)) ≡ walks.OutOfTime
      → (controller_next fixed w).control.walk.cursor ≡ w.control.walk.cursor
  -- the head of the ring was read with Reclamation 0 (4.8.3)
  pub quiet : controller_row w ≡ rows.Go → event_row (walk_place (controller_parts w)) ≡ walks.HeadEnds
      → (controller_next fixed w).control.walk.cursor ≡ cursors.Start

abbrev pub WorldsKeepPlace : Type 0
WorldsKeepPlace = (fixed : Fixed) (w : World) → RowsKeepPlace fixed w

-- ---- a run

abbrev pub TextsKeepPlaceOfRing : Type 0
TextsKeepPlaceOfRing = (text : List ℕ) (s : Script) → Spells text s → KeepsPlaceOfRing s
