-- The time that the walk of the frames takes of a microframe is the sum of the prices of its transactions. Those of its transactions but
-- for complete-splits that are made again come to no more than the plan's load there, nor to more than 100 microseconds, at each moment
-- of the run of a script, also while endpoints are opened and cancelled (USB 2.0, 5.9, 5.11.3 and 11.18; EHCI 1.0, 3.3, 3.4, 3.6, 4.6,
-- 4.7, 4.10.3 and 4.12).
--     is_again hand                  a complete-split of the queue head in hand was made in this visit, and is made again at once, since
--                                    nothing that the host can use was heard (4.12.2.4.2)
--     begun_too o ps                 one more visit, to the structure that is fetched so, if any
--     paid_more n ps                 so much more was paid in the newest visit
--     payments_after row step c ps   what was paid after an event of the controller of this kind: the address of each structure and the
--                                    prices of the transactions that were made in its visit, but for those made again; the newest first
--     payments_next fixed w ps       .. after the next event of the controller of a world
--     payments s k                   .. after k events and commands of the run of a script
--     repeats s k                    the prices of the transactions made again in the microframe
--     paid_by_all ps                 all that was paid
--     microframe_in index            the microframe with this FRINDEX, among those of the frame list
--     IsWithinLoad w ps              all that was paid is no more than the load of the microframe, nor than four fifths of it
--     LeavesTheRest fixed w ps n     in the periodic part the time that is left, all that was paid and what was made again are together the
--                                    time of the microframe; a held one has none
--     PaysWithinLoad s               so it is at each moment of the run of a script, and the queue heads in the frames stand for their
--                                    endpoints' descriptions and placements
use Rattle.std.specs.Prelude.{◌≡◌, ℕ, ◌+◌, ◌%◌, ◌≤◌, Bool, false, not, ◌&&◌, ◌==◌, nat_lt, List, [], ◌∷◌, Option, sum_by, Some, None, if◌then◌else◌}
use Rattle.script_types.specs.declared.scripts.Script.{Script}
use Rattle.bandwidth.specs.Sums.{load}
use Rattle.periodic_walk.specs.declared.chain.ChainRow.{ChainRow}
use Rattle.periodic_walk.specs.declared.state.Hand.{Hand}
use Rattle.periodic_walk.specs.declared.state.Hand.TheVariants as hands
use Rattle.periodic_walk.specs.Chain.{chain_row}
use Rattle.hc_core.specs.declared.controller.ControllerRow.{ControllerRow}
use Rattle.hc_core.specs.declared.controller.ControllerRow.TheVariants as rows
use Rattle.hc_core.specs.declared.controller.HcStep.{HcStep}
use Rattle.hc_core.specs.declared.controller.MicroframePart.TheVariants.{Periodic}
use Rattle.hc_core.specs.Controller.{Content, time_of}
use Rattle.bus_wire.specs.Bus.{Fixed, fixed_of}
use Rattle.bus_world.specs.Budgets.{moment}
use Rattle.bus_world.specs.World.{World, controller_parts, controller_row, kind_next}
use Rattle.claims_world.specs.Carried.{carried}
use Rattle.claims_world.specs.FrameHeads.{FrameHeadsStand}
use Rattle.claims_world.specs.Prices.{cost_of}
use Rattle.claims_world.specs.Visits.{fetched_by, is_held_now}

abbrev pub is_again : Hand → Bool
is_again (hands.Queue h) = not (h.copy.queue_head.eps == 2) && nat_lt 0 h.made
is_again (hands.Itd h) = false
is_again (hands.Sitd h) = false

abbrev pub begun_too : Option ℕ → List (ℕ × ℕ) → List (ℕ × ℕ)
begun_too None ps = ps
begun_too (Some a) ps = (a, 0) ∷ ps

abbrev pub paid_more : ℕ → List (ℕ × ℕ) → List (ℕ × ℕ)
paid_more n [] = []
paid_more n (x ∷ ps) = (x.0, x.1 + n) ∷ ps

-- with a copy in hand nothing is fetched
abbrev pub payments_at : Option Hand → ChainRow → HcStep → List (ℕ × ℕ) → List (ℕ × ℕ)
payments_at None row step ps = begun_too (fetched_by row) ps
payments_at (Some hand) row step ps = if is_again hand then ps else paid_more (cost_of step hand) ps

abbrev pub payments_after : ControllerRow → HcStep → Content → List (ℕ × ℕ) → List (ℕ × ℕ)
payments_after rows.Begin step c ps = []
payments_after rows.Frame step c ps = payments_at c.control.frame.hand (chain_row c.memory c.control.frame.cursor) step ps
payments_after rows.Idle step c ps = ps
payments_after rows.Enter step c ps = ps
payments_after rows.Go step c ps = ps
payments_after rows.End step c ps = ps

abbrev pub payments_next : Fixed → World → List (ℕ × ℕ) → List (ℕ × ℕ)
payments_next fixed w ps = payments_after (controller_row w) (kind_next w) (controller_parts w) ps

abbrev pub payments : Script → ℕ → List (ℕ × ℕ)
payments s k = carried payments_next s [] k

-- ---- what is made again

abbrev pub repeats_at : Option Hand → HcStep → ℕ → ℕ
repeats_at None step n = n
repeats_at (Some hand) step n = if is_again hand then n + cost_of step hand else n

abbrev pub repeats_after : ControllerRow → HcStep → Content → ℕ → ℕ
repeats_after rows.Begin step c n = 0
repeats_after rows.Frame step c n = repeats_at c.control.frame.hand step n
repeats_after rows.Idle step c n = n
repeats_after rows.Enter step c n = n
repeats_after rows.Go step c n = n
repeats_after rows.End step c n = n

abbrev pub repeats_next : Fixed → World → ℕ → ℕ
repeats_next fixed w n = repeats_after (controller_row w) (kind_next w) (controller_parts w) n

abbrev pub repeats : Script → ℕ → ℕ
repeats s k = carried repeats_next s 0 k

-- ---- all of them

abbrev pub paid_by_all : List (ℕ × ℕ) → ℕ
paid_by_all ps = sum_by (λ x. x.1) ps

-- FRINDEX has 14 bits, and the frame list 1,024 elements (2.3.4, 4.4)
abbrev pub microframe_in : ℕ → ℕ
microframe_in index = index % 8192

-- ---- a run

pub record IsWithinLoad (w : World) (ps : List (ℕ × ℕ)) : Type 0 where
  pub within : paid_by_all ps ≤ load w.driver.periodic.plan.placed (microframe_in w.control.frame.index)
  pub fifth : paid_by_all ps ≤ 100000000

-- nothing but transactions takes time
abbrev pub LeavesTheRest : Fixed → World → List (ℕ × ℕ) → ℕ → Type 0
LeavesTheRest fixed w ps n = w.control.part ≡ Periodic → w.control.frame.left + (paid_by_all ps + n) ≡ time_of (not (is_held_now fixed w))

pub record PaysWithinLoad (s : Script) : Type 0 where
  pub heads : (k : ℕ) → FrameHeadsStand (moment s k).world.memory (moment s k).world.driver
  pub taken : (k : ℕ) → LeavesTheRest (fixed_of s) (moment s k).world (payments s k) (repeats s k)
  pub load : (k : ℕ) → IsWithinLoad (moment s k).world (payments s k)
