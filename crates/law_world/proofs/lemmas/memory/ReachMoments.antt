-- At each moment of a script both walks are over structures that memory tells.
use Rattle.std.proofs.Common.{ℕ, List}
use Rattle.script_types.specs.declared.scripts.Script.{Script}
use Rattle.bus_world.specs.Budgets.{moment}
use Rattle.bus_world.specs.World.{World, controller_parts}
use Rattle.claims_base.specs.Controller.{opening_base}
use Rattle.claims_world.specs.Reach.{Reached, Reaches, IsLentAt}
use Rattle.law_descriptors.specs.Both.{both}
use Rattle.law_descriptors.specs.Meeting.{met}
use Rattle.law_world.specs.memory.Mixed.{Standing, IsMixedAt, IsMixedWorld}
use Rattle.law_world.specs.memory.Reach.{TextsReachLent}
use Rattle.law_world.proofs.lemmas.memory.Together.{texts_stay_mixed}
use Rattle.law_world.proofs.lemmas.memory.WaysThere.{runs_reach_lent}

mixed_reaches_lent : (w : World) → IsMixedWorld w → (t : Reached) → Reaches (controller_parts w) t → IsLentAt (controller_parts w) t
mixed_reaches_lent w k =
    let s : Standing = k.standing in
    runs_reach_lent opening_base s.member (met w.driver s.recent) (both s.descs s.parts) s.hand s.frame
    (controller_parts w) k.mixed.now.framed.runs

pub texts_reach_lent : TextsReachLent
texts_reach_lent = λ text s spelled n. mixed_reaches_lent (moment s n).world (texts_stay_mixed text s spelled n)
