-- What the walk of the frames has done so far in a microframe (EHCI 1.0, 4.4, 4.6, 4.10.3 and 4.10.4), as the run tells it: a microframe
-- that begins leaves nothing, and every event but one of the walk leaves it.
--     SoFar                    what it has done, the newest first
--     nothing_yet              as a microframe begins
--     found_too o w fs         the walk came to the structure at this byte address in the world w, if to any
--     found_next hand row w fs .. by a fetch of this row, with this copy in hand: with one nothing is fetched
--     moved_as s a ms          a visit to the queue head at the byte address a ends its transaction, which came to s: it is one more if it
--                              moved bytes
--     moved_at hand step ms    .. by an event of this kind with this copy in hand: a write-back
--     so_far_after row w t     after an event of this row of the controller in the world w
--     so_far_next fixed w t    after the next event of the controller of a world
--     so_far s k               after k events and commands of the run of a script
--     HasFound a o fs          the walk came to the structure at the byte address a in the world o
--     HasMoved a n ms          a transaction of the queue head at a moved n bytes, and was written back
use Rattle.std.specs.Prelude.{◌≡◌, ℕ, ◌⊎◌, List, [], ◌∷◌, Option, Some, None}
use Rattle.script_types.specs.declared.scripts.Script.{Script}
use Rattle.toggle_error.specs.declared.host.Outcome.{Outcome}
use Rattle.toggle_error.specs.declared.host.Outcome.TheVariants as outcomes
use Rattle.periodic_walk.specs.declared.chain.ChainRow.{ChainRow}
use Rattle.periodic_walk.specs.declared.state.Hand.{Hand}
use Rattle.periodic_walk.specs.declared.state.Hand.TheVariants as hands
use Rattle.periodic_walk.specs.Chain.{chain_row}
use Rattle.hc_core.specs.declared.controller.ControllerRow.{ControllerRow}
use Rattle.hc_core.specs.declared.controller.ControllerRow.TheVariants as rows
use Rattle.hc_core.specs.declared.controller.HcStep.{HcStep}
use Rattle.hc_core.specs.declared.controller.HcStep.TheVariants as steps
use Rattle.bus_wire.specs.Bus.{Fixed}
use Rattle.bus_world.specs.World.{World, controller_row, kind_next}
use Rattle.claims_world.specs.Carried.{carried}
use Rattle.claims_world.specs.Visits.{fetched_by}

pub record SoFar : Type 0 where
  pub found : List (ℕ × World)  -- the byte address of a structure to which the walk came, and the world before its fetch
  pub moved : List (ℕ × ℕ)  -- the byte address of a queue head whose transaction was written back, and how many bytes it moved

abbrev pub nothing_yet : SoFar
nothing_yet = record { found = []; moved = [] }

-- ---- the walk comes to a structure

abbrev pub found_too : Option ℕ → World → List (ℕ × World) → List (ℕ × World)
found_too None w fs = fs
found_too (Some a) w fs = (a, w) ∷ fs

abbrev pub found_next : Option Hand → ChainRow → World → List (ℕ × World) → List (ℕ × World)
found_next None row w fs = found_too (fetched_by row) w fs
found_next (Some hand) row w fs = fs

-- ---- a transaction moved bytes

abbrev pub moved_as : Option Outcome → ℕ → List (ℕ × ℕ) → List (ℕ × ℕ)
moved_as (Some (outcomes.Moved n)) a ms = (a, n) ∷ ms
moved_as _ a ms = ms

abbrev pub moved_at : Option Hand → HcStep → List (ℕ × ℕ) → List (ℕ × ℕ)
moved_at (Some (hands.Queue h)) steps.WriteBack ms = moved_as h.copy.settled h.copy.at ms
moved_at _ step ms = ms

-- ---- along a run

abbrev pub so_far_after : ControllerRow → World → SoFar → SoFar
so_far_after rows.Begin w t = nothing_yet
so_far_after rows.Frame w t = record {
  found = found_next w.control.frame.hand (chain_row w.memory w.control.frame.cursor) w t.found;
  moved = moved_at w.control.frame.hand (kind_next w) t.moved;
}
so_far_after rows.Idle w t = t
so_far_after rows.Enter w t = t
so_far_after rows.Go w t = t
so_far_after rows.End w t = t

abbrev pub so_far_next : Fixed → World → SoFar → SoFar
so_far_next fixed w t = so_far_after (controller_row w) w t

abbrev pub so_far : Script → ℕ → SoFar
so_far s k = carried so_far_next s nothing_yet k

abbrev pub HasFound : ℕ → World → List (ℕ × World) → Type 0
HasFound a o [] = ⊥
HasFound a o (f ∷ fs) = ((f.0 ≡ a) × (f.1 ≡ o)) ⊎ HasFound a o fs

abbrev pub HasMoved : ℕ → ℕ → List (ℕ × ℕ) → Type 0
HasMoved a n [] = ⊥
HasMoved a n (m ∷ ms) = ((m.0 ≡ a) × (m.1 ≡ n)) ⊎ HasMoved a n ms
