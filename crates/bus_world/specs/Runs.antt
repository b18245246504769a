-- A world after the run of a script by a driver without jobs.
--     IsWholeRunOf s w   every line was carried out
use Rattle.std.specs.Prelude.{◌≡◌, []}
use Rattle.script_types.specs.declared.scripts.Script.{Script}
use Rattle.bus_world.specs.Opening.{opening_standing}
use Rattle.bus_world.specs.Orders.{at_place, Leads, orders_of}
use Rattle.bus_world.specs.World.{Standing}

-- ---- scripts

-- a world after the run of a script, all of whose lines were carried out
pub record IsWholeRunOf (s : Script) (w : Standing) : Type 0 where
  pub fixed : w.fixed ≡ (opening_standing s).fixed
  pub led : Leads (opening_standing s).fixed (at_place (opening_standing s).world (orders_of s.lines)) (at_place w.world [])
