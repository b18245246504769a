-- The opening is shared, and each event of the controller and each quiet one of the driver keep it so.
use Rattle.std.proofs.Common.{◌≡◌, ℕ, ◌%◌, ◌≤◌, Bool, true, List, ap, refl, sym, ◌∙◌}
use Rattle.std.proofs.lemmas.List.{length-replicate, get_or-replicate}
use Rattle.law_controller.proofs.Common.{over_not_periodic}
use Rattle.law_queues.proofs.Common.{is_on}
use Rattle.usb_base.specs.declared.packets.Ask.{Ask}
use Rattle.usb_base.specs.declared.packets.Reply.{Reply}
use Rattle.link_words.specs.Links.{link_read}
use Rattle.periodic_walk.specs.Walk.{is_over}
use Rattle.hc_core.specs.Controller.{Control, Content, content, new_control, walk_place, microframe_row, HasRow}
use Rattle.drv_table.specs.declared.content.Reserve.{Reserve}
use Rattle.drv_table.specs.DriverContent.{DriverContent}
use Rattle.drv_table.specs.Opening.{opening}
use Rattle.drv_table.specs.Rows.{driver_row}
use Rattle.claims_driver.specs.Owners.{views_of}
use Rattle.law_structures.specs.lent_structures.Structures.{StructureSets}
use Rattle.law_ring.specs.Hand.{Hand, Empty}
use Rattle.claims_base.specs.Controller.{Base, opening_base}
use Rattle.law_ring.specs.Effects.{AreBytesHeard}
use Rattle.law_controller.specs.controlled_streams.Control.{AreEmpty, IsFrameless, off, empty, IsControlled, ControlEffect, a_microframe, a_step, Controls}
use Rattle.law_controller.proofs.lemmas.controlled_streams.Controlling.{each_event_of_the_controller}
use Rattle.law_controller.proofs.lemmas.controller_writes.Controlling.{each_event_leaves_the_rest}
use Rattle.law_driver_ring.specs.Inventory.{SameSorts}
use Rattle.law_driver_ring.specs.Driven.{DrivesRing, is_quiet}
use Rattle.law_driver_ring.specs.PartOpened.{empty_list, opening_parts, is_head}
use Rattle.law_driver_ring.proofs.Sorts.{same_parts, effect_same, driven_same}
use Rattle.law_driver_ring.proofs.Quiet.{quiet_drives}
use Rattle.law_driver_ring.proofs.PartOpening.{opening_drives}
use Rattle.law_driver.specs.in_place.Run.{IsElsewhere}
use Rattle.law_driver.proofs.lemmas.in_place.Opened.{opening_is_in_place}
use Rattle.law_driver.proofs.lemmas.in_place.Laws.{events_keep_all_in_place}
use Rattle.law_driver.proofs.lemmas.in_place.Elsewhere.{the_controller_keeps_all_in_place}
use Rattle.law_queues.specs.shared_memory.Shared.{IsShared, StaysShared, parts_of, next_parts, after_driver}
use Rattle.law_queues.proofs.lemmas.shared_memory.Elsewhere.{leaves_elsewhere}

-- ---- the opening

all_end : AreEmpty empty_list
unfolding link_read
all_end i below = ap link_read (get_or-replicate 1024 i 1 0 below)

pub the_opening_is_shared : (n : ℕ) (room : Reserve) → 2048 ≤ n → n ≤ 262144 → n % 1024 ≡ 0 → IsShared opening_base is_head opening_parts Empty (content new_control (opening n room).registers (opening n room).memory) (opening n room).driver
the_opening_is_shared n room many few whole =
    let d = opening_drives n room many few whole in
    record {
      operating = record { run = refl; async_enable = refl; periodic_enable = refl };
      place = opening_is_in_place n room many few whole;
      controlled = record {
        ring = d.ring;
        between = λ part. refl;
        list = record { words = empty_list; here = refl; size = length-replicate {A = ℕ} 1024 1 };
        frameless = empty all_end (λ part. absurd (over_not_periodic part));
      };
      driven = d.driven;
    }

-- ---- an event of the controller

pub control_same : {W : Type 0} (begins : W → ℕ → Bool → W → Type 0) (transacts : W → Ask → List ℕ → Reply → W → Type 0) (base : Base) (member : ℕ → Bool) (parts : StructureSets) (hand : Hand) (c : Content) (wire after : W) (now : StructureSets) (later : Hand) → IsControlled base member parts hand c → ControlEffect begins transacts parts hand wire after now later → SameSorts parts now
control_same begins transacts base member parts hand c wire after now later k (a_microframe b) = same_parts parts now b.parts_stay
control_same begins transacts base member parts hand c wire after now later k (a_step w) = effect_same transacts base member parts hand (walk_place c) wire after now later w.kind k.ring w.effect

pub the_controller_writes_elsewhere : {W : Type 0} (begins : W → ℕ → Bool → W → Type 0) (transacts : W → Ask → List ℕ → Reply → W → Type 0) (base : Base) (member : ℕ → Bool) (parts : StructureSets) (hand : Hand) (c : Content) (d : DriverContent) (wire : W) (new : Content) (after : W) → IsShared base member parts hand c d → AreBytesHeard transacts wire after → HasRow begins transacts (microframe_row c.registers c.control) c wire new after → IsElsewhere d c.memory new.memory
the_controller_writes_elsewhere begins transacts base member parts hand c d wire new after k heard row =
    leaves_elsewhere parts c.memory new.memory d (each_event_leaves_the_rest begins transacts base member parts hand c wire new after k.controlled (is_on base k.operating) heard row) k.place k.driven

pub the_controller_keeps_it_shared : {W : Type 0} (begins : W → ℕ → Bool → W → Type 0) (transacts : W → Ask → List ℕ → Reply → W → Type 0) (base : Base) (member : ℕ → Bool) (parts : StructureSets) (hand : Hand) (c : Content) (d : DriverContent) (wire : W) (new : Content) (after : W) → IsShared base member parts hand c d → AreBytesHeard transacts wire after → HasRow begins transacts (microframe_row c.registers c.control) c wire new after → StaysShared base member new d
the_controller_keeps_it_shared begins transacts base member parts hand c d wire new after k heard row =
    let e : Controls begins transacts base member parts hand wire after new = each_event_of_the_controller begins transacts base member parts hand c wire new after k.controlled (is_on base k.operating) heard row in
    record {
      now = e.now;
      later = e.later;
      shared = record {
        operating = k.operating;
        place = the_controller_keeps_all_in_place d c.memory new.memory (the_controller_writes_elsewhere begins transacts base member parts hand c d wire new after k heard row) k.place;
        controlled = e.controlled;
        driven = driven_same (views_of d) parts e.now (control_same begins transacts base member parts hand c wire after e.now e.later k.controlled e.effect) k.driven;
      };
    }

-- ---- a quiet event of the driver

still_frameless : (base : Base) (words : List ℕ) (c new : Content) → new.control ≡ c.control → IsFrameless base words c → IsFrameless base words new
still_frameless base words c new same (off is) = off is
still_frameless base words c new same (empty none over) =
    empty none (λ part. ap (λ (control : Control). is_over control.frame) same ∙ over (sym (ap (λ (control : Control). control.part) same) ∙ part))

pub quiet_events_keep_it_shared : (base : Base) (member : ℕ → Bool) (parts : StructureSets) (hand : Hand) (c : Content) (d : DriverContent) → IsShared base member parts hand c d → is_quiet (driver_row (parts_of c d)) ≡ true → IsShared base member parts hand (after_driver c d) (next_parts c d).driver
quiet_events_keep_it_shared base member parts hand c d k quiet =
    let old : DrivesRing base member parts hand (walk_place c) d = record { ring = k.controlled.ring; driven = k.driven } in
    let new = quiet_drives base member parts hand c.control.walk (parts_of c d) (driver_row (parts_of c d)) k.operating old quiet in
    record {
      operating = k.operating;
      place = events_keep_all_in_place (parts_of c d) k.place;
      controlled = record {
        ring = new.ring;
        between = k.controlled.between;
        list = k.controlled.list;
        frameless = still_frameless base k.controlled.list.words c (after_driver c d) refl k.controlled.frameless;
      };
      driven = new.driven;
    }
