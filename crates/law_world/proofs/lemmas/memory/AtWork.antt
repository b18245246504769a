-- A mixed world is at work, and so is each of a run that stays mixed.
use Rattle.std.proofs.Common.{◌≡◌, ℕ, true, ap}
use Rattle.claims_base.specs.Controller.{Base, base_of, opening_base}
use Rattle.word_mem.specs.Memory.{Mem}
use Rattle.drv_table.specs.DriverContent.{DriverContent}
use Rattle.bus_wire.specs.Bus.{fixed_of}
use Rattle.bus_world.specs.World.{World, controller_next}
use Rattle.bus_world.specs.Budgets.{moment}
use Rattle.law_driver.specs.listed_members.Members.{IsListed}
use Rattle.law_frame_list.specs.list_driver.Keeping.{KeepsItsList}
use Rattle.law_driver.proofs.lemmas.listed_members.Owned.{waiting_descriptors_are_linked}
use Rattle.law_world.proofs.lemmas.memory.lemmas.running_worlds.Errors.{goes_on, no_error}
use Rattle.law_world.proofs.lemmas.memory.lemmas.running_worlds.Counting.{no_refusal_while_it_runs}
use Rattle.law_world.specs.memory.Mixed.{IsMixedWorld}
use Rattle.law_world.specs.memory.Laws.{ControllerKeepsMixed}
use Rattle.claims_world.specs.Memory.{IsAtWork, ReadsFrameList}
use Rattle.law_world.specs.memory.InPlace.{MixedHasAllInPlace}
use Rattle.law_world.specs.memory.PlacedLaws.{MixedIsAtWork, KeepsMemoryWhileMixed}
use Rattle.law_world.proofs.lemmas.memory.Rings.{reads_ring}
use Rattle.law_world.proofs.lemmas.memory.Working.{works}

registers_are : (w : World) → IsMixedWorld w → base_of w.registers ≡ opening_base
registers_are w k = k.mixed.now.framed.runs.ring.registers

-- ---- the driver's structures in memory

pub mixed_has_all_in_place : MixedHasAllInPlace
mixed_has_all_in_place w k = let f = k.mixed.now.framed in record { place = f.place; list = f.list }

reads_frame_list : (m : Mem) (d : DriverContent) → IsListed d → KeepsItsList m d → ReadsFrameList m d
reads_frame_list m d listed list = record {
  begins = listed.list.list;
  all = listed.list.kept;
  waiting = waiting_descriptors_are_linked d listed;
  words = list.list;
}

-- ---- at work

pub mixed_works : ControllerKeepsMixed → MixedIsAtWork
mixed_works controller fixed w k =
    let f = k.mixed.now.framed in
    let before : base_of w.registers ≡ opening_base = registers_are w k in
    let after : base_of (controller_next fixed w).registers ≡ opening_base = registers_are (controller_next fixed w) (controller fixed w k) in
    record {
      ring = reads_ring w.memory w.driver f.place.sound k.mixed.turns;
      list = reads_frame_list w.memory w.driver f.place.sound.listed f.list;
      queue_heads = f.place.fixed;
      registers = before;
      works = works w (ap (λ (b : Base). b.run) before);
      goes_on = goes_on fixed w (ap (λ (b : Base). b.run) after);
    }

pub keeps_while_mixed : ControllerKeepsMixed → KeepsMemoryWhileMixed
keeps_while_mixed controller s mixed k =
    let works_at : (j : ℕ) → IsAtWork (fixed_of s) (moment s j).world = λ j. mixed_works controller (fixed_of s) (moment s j).world (mixed j) in
    let runs : (j : ℕ) → (moment s j).world.registers.run ≡ true = λ j. ap (λ (b : Base). b.run) (works_at j).registers in
    record {
      at_work = works_at k;
      walking = (mixed k).mixed.walking;
      no_error = no_error s runs k;
      unrefused =
          no_refusal_while_it_runs s runs k;
    }
