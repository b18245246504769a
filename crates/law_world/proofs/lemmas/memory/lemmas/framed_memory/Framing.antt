-- Each event of the controller keeps the memory framed.
use Rattle.std.proofs.Common.{ℕ, Bool, List, refl, subst}
use Rattle.law_queues.proofs.Common.{is_on}
use Rattle.usb_base.specs.declared.packets.Ask.{Ask}
use Rattle.usb_base.specs.declared.packets.Reply.{Reply}
use Rattle.law_controller.proofs.lemmas.aligned_copies.Controlling.{each_event_keeps_addresses_aligned}
use Rattle.claims_driver.specs.Owners.{Views, views_of}
use Rattle.law_structures.specs.lent_structures.Structures.{StructureSets}
use Rattle.law_driver_ring.proofs.Sorts.{driven_same}
use Rattle.law_driver_ring.specs.Extents.{KeepExtents, AreInRuns}
use Rattle.law_driver_ring.proofs.Extending.{extents_stay}
use Rattle.law_frames.proofs.Walking.{event_happens}
use Rattle.law_controller.specs.frame_control.Both.{RunsBoth, ControlsBoth}
use Rattle.law_controller.proofs.lemmas.frame_control.Running.{each_event_of_the_controller_over_both}
use Rattle.law_descriptors.specs.Both.{both, parts_now}
use Rattle.law_descriptors.specs.PartLaws.{IsDescribing, AreStill}
use Rattle.law_descriptors.proofs.Stays.{described_stay}
use Rattle.law_descriptors.specs.frame_keeps.Kept.{KeepsParts}
use Rattle.law_descriptors.proofs.lemmas.kept_frames.Both.{events_keep_both}
use Rattle.law_descriptors.specs.list_beside.Links.{IsTold}
use Rattle.law_descriptors.specs.list_beside.Laws.{DriverStays}
use Rattle.law_descriptors.proofs.lemmas.list_beside.Describing.{described_is_told, described_are_kept}
use Rattle.law_descriptors.proofs.lemmas.list_beside.Running.{events_leave_driver}
use Rattle.law_world.specs.memory.framed_memory.Framed.{ControllerKeepsFramed}

pub stay_in_runs : (v : Views) (parts now : StructureSets) → KeepExtents parts now → AreInRuns v parts → AreInRuns v now
stay_in_runs v parts now keep lie = extents_stay v v parts now (record { slots = λ at k has. has; endpoints = λ e. refl; transfers = λ t. refl; notes = λ b. refl }) keep lie

pub controller_keeps_framed : {W : Type 0} (begins : W → ℕ → Bool → W → Type 0) (transacts : W → Ask → List ℕ → Reply → W → Type 0) → ControllerKeepsFramed begins transacts
controller_keeps_framed begins transacts base member met descs parts hand frame c d wire new after k heard row =
    let all : StructureSets = both descs parts in
    let describing : IsDescribing d descs parts = record { owners = k.place.sound.owners; driven = k.driven; described = k.described } in
    let e : ControlsBoth begins transacts base member met all hand frame c.control wire after new =
    each_event_of_the_controller_over_both begins transacts base member met all hand frame c wire new after (event_happens transacts met all frame) k.runs (is_on base k.operating) heard row in
    let told : IsTold base parts all c.memory d = described_is_told base parts descs c.memory d k.place describing k.runs.list k.start in
    let stays : DriverStays c.memory new.memory d = events_leave_driver begins transacts base member met parts all hand frame c d wire new after k.runs told k.aligned row e in
    let keeps : KeepsParts all e.now = events_keep_both begins transacts base member met all hand frame c wire after e.now e.later e.frame_later k.runs e.effect in
    let still : AreStill (views_of d) descs parts e.now = described_stay (views_of d) descs parts e.now k.described (described_are_kept all e.now keeps) in
    record {
      event = e;
      framed = record {
        operating = k.operating;
        start = k.start;
        aligned = each_event_keeps_addresses_aligned begins transacts c wire new after k.aligned row;
        runs = subst (λ (ps : StructureSets). RunsBoth base member met ps e.later e.frame_later new) still.same e.runs;
        place = stays.place;
        list = stays.list k.list;
        driven = driven_same (views_of d) parts (parts_now descs parts e.now) still.sorts k.driven;
        described = still.described;
        extents = stay_in_runs (views_of d) parts (parts_now descs parts e.now) still.extents k.extents;
      };
    }
