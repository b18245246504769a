-- Small worlds and runs that break the clauses of the top call, whatever else they have.
--     dirty               a memory of one Free block, of which a word is 7
--     refused_once        the world, with one refusal counted
--     strange             the driver with no endpoint, and a queue head in frame 0 of its list
--     empty_script        a script of no lines
--     out_of_time         the world in the periodic part of a microframe, with no time left
--     unheld              the bus with no microframe held
--     large, twice        an interrupt endpoint of three packets of 1,024 bytes in each microframe, and two of them placed
--     with_placed         the driver with these placed
use Rattle.std.specs.Prelude.{◌≡◌, ℕ, false, List, [], ◌∷◌, Some, None}
use Rattle.usb_base.specs.declared.packets.Speed.TheVariants.{High}
use Rattle.usb_base.specs.declared.packets.EpKind.TheVariants.{Interrupt}
use Rattle.usb_base.specs.declared.packets.Dir.TheVariants.{Out}
use Rattle.usb_base.specs.declared.rules.Rules.{Rules}
use Rattle.script_types.specs.declared.scripts.Script.{Script}
use Rattle.word_mem.specs.declared.blocks.BlockState.TheVariants.{Free}
use Rattle.word_mem.specs.Memory.{Mem}
use Rattle.bandwidth.specs.declared.placements.Placed.{Placed}
use Rattle.drv_table.specs.DriverContent.{DriverContent}
use Rattle.hc_core.specs.declared.controller.MicroframePart.TheVariants.{Periodic}
use Rattle.bus_wire.specs.Bus.{Fixed}
use Rattle.bus_world.specs.World.{World}
use Rattle.bus_world.specs.Orders.{OrderedWorld, Left}
use Rattle.bus_world.specs.Budgets.{AdmitsExactly}
use Rattle.claims_world.specs.Lent.{KeepsToLent}
use Rattle.claims_world.specs.Memory.{RunsInPlace}
use Rattle.claims_world.specs.Schedule.{IsOnSchedule}
use Rattle.claims_world.specs.Microframes.{EndsWithin}
use Rattle.claims_world.specs.WithinLoad.{IsWithinLoad}
use Rattle.claims_world.specs.InTime.{IsInTime}

abbrev pub dirty : Mem
dirty = record { words = 7 ∷ []; states = Free ∷ []; foreign = 0 }

abbrev pub BreaksLent : Type 0
BreaksLent = (fixed : Fixed) (w : World) → KeepsToLent fixed (record w { memory = dirty }) → ⊥

abbrev pub refused_once : World → World
refused_once w = record w { memory = record w.memory { foreign = 1 } }

abbrev pub BreaksMemory : Type 0
BreaksMemory = (fixed : Fixed) (w : World) → RunsInPlace fixed (refused_once w) → ⊥

abbrev pub strange : DriverContent → DriverContent
strange d = record d {
  endpoints = [];
  periodic = record d.periodic {
    list = record d.periodic.list {
      members = record d.periodic.list.members { schedule = record { descriptors = []; queues = record { id = 4; period = 8; phase = 0 } ∷ [] } };
    };
  };
}

abbrev pub BreaksSchedule : Type 0
BreaksSchedule = (d : DriverContent) → IsOnSchedule (strange d) 0 → ⊥

abbrev pub BreaksMicroframes : Type 0
BreaksMicroframes = (s : Script) → s.lines ≡ [] → (n : ℕ) (rest : List Left) → EndsWithin s 0 n rest → ⊥

abbrev pub BreaksWithinLoad : Type 0
BreaksWithinLoad = (w : World) → IsWithinLoad w ((64, 100000001) ∷ []) → ⊥

abbrev pub out_of_time : World → World
out_of_time w = record w { control = record w.control { part = Periodic; frame = record w.control.frame { left = 0 } } }

abbrev pub unheld : Fixed → Fixed
unheld fixed = record fixed { holds = [] }

abbrev pub BreaksInTime : Type 0
BreaksInTime = (fixed : Fixed) (w : World) → IsInTime (unheld fixed) 0 (out_of_time w) → ⊥

abbrev pub large : ℕ → Placed
large id = record {
  want = record { id = id; speed = High; kind = Interrupt; dir = Out; max = 1024; multi = 3; period = 1; hub = None; tt = 0 };
  placement = record { period = 1; phase = 0; smask = 255; cmask = 0 };
}

abbrev pub twice : List Placed
twice = large 0 ∷ large 1 ∷ []

abbrev pub with_placed : DriverContent → List Placed → DriverContent
with_placed d placed = record d { periodic = record d.periodic { plan = record d.periodic.plan { placed = placed } } }

abbrev pub BreaksBudgets : Type 0
BreaksBudgets = (rules : Rules) (p : OrderedWorld) → AdmitsExactly rules (record p { world = record p.world { driver = with_placed p.world.driver twice } }) → ⊥
