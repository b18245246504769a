-- All that the controller can come to is Lent, wherever it stands (EHCI 1.0, 3, 4.6, 4.8, 4.10 and 4.12).
--     RunsReachLent            where both walks are over structures that memory tells, each place that is reached is Lent
--     TextsReachLent           so it is at each moment of each script that a text spells
use Rattle.std.specs.Prelude.{ℕ, Bool, List, Option}
use Rattle.script_types.specs.declared.scripts.Script.{Script}
use Rattle.script_text.specs.Faults.{Spells}
use Rattle.hc_core.specs.Controller.{Content}
use Rattle.claims_base.specs.Controller.{Base}
use Rattle.claims_world.specs.Reach.{Reached, Reaches, IsLentAt, ReachesLentThroughout}
use Rattle.law_structures.specs.lent_structures.Structures.{StructureSets}
use Rattle.law_ring.specs.Hand.{Hand}
use Rattle.law_frames.specs.Met.{Kind}
use Rattle.law_frames.specs.FrameHand.{FrameHand}
use Rattle.law_controller.specs.frame_control.Both.{RunsBoth}

abbrev pub RunsReachLent : Type 0
RunsReachLent = (base : Base) (member : ℕ → Bool) (met : ℕ → Option Kind) (parts : StructureSets) (hand : Hand) (frame : FrameHand)
    (c : Content) → RunsBoth base member met parts hand frame c
    → (t : Reached) → Reaches c t → IsLentAt c t

abbrev pub TextsReachLent : Type 0
TextsReachLent = (text : List ℕ) (s : Script) → Spells text s → ReachesLentThroughout s
