-- What is left of the controller and of a driver where a row gave something back.
use Rattle.std.proofs.Common.{◌≡◌, ℕ, Bool, Option, subst, sym}
use Rattle.drv_table.specs.declared.rows.DriverRow.{DriverRow}
use Rattle.drv_table.specs.DriverContent.{DriverContent}
use Rattle.drv_table.specs.Parts.{Parts}
use Rattle.drv_table.specs.Rows.{driver_row, after_driver_row}
use Rattle.claims_driver.specs.Owners.{views_of}
use Rattle.hc_core.specs.Controller.{Content}
use Rattle.law_structures.specs.lent_structures.Structures.{StructureSets}
use Rattle.law_ring.specs.Hand.{Hand}
use Rattle.claims_base.specs.Controller.{Base}
use Rattle.law_driver.specs.in_place.InPlace.{IsInPlace}
use Rattle.law_driver.proofs.lemmas.in_place.Laws.{events_keep_all_in_place}
use Rattle.law_queues.specs.shared_memory.Shared.{parts_of}
use Rattle.law_frames.specs.Met.{Kind}
use Rattle.law_frames.specs.FrameHand.{FrameHand}
use Rattle.law_controller.specs.frame_control.Both.{RunsBoth}
use Rattle.law_descriptors.specs.Both.{both}
use Rattle.law_descriptors.specs.Told.{IsToldBy}
use Rattle.law_descriptors.specs.Meeting.{met}
use Rattle.law_descriptors.specs.Growing.{AreApartFrom}
use Rattle.law_descriptors.specs.Recent.{AreRecent}
use Rattle.law_world.proofs.lemmas.memory.lemmas.framed_memory.Now.{RowLeaves}

-- what is left, in this place of the driver
pub record LeavesAt (base : Base) (member : ℕ → Bool) (recent : ℕ → Option Kind) (descs now : StructureSets) (hand : Hand) (frame : FrameHand) (c : Content) (q : Parts) : Type 0 where
  pub runs : RunsBoth base member (met q.driver recent) (both descs now) hand frame (record c { registers = q.registers; memory = q.memory })
  pub told : IsToldBy (views_of q.driver) descs now
  pub recent_are : AreRecent q.driver q.registers.frame_index recent
  pub apart : AreApartFrom q.driver recent

pub row_leaves : (base : Base) (member : ℕ → Bool) (recent : ℕ → Option Kind) (descs now : StructureSets) (hand : Hand) (frame : FrameHand) (c : Content) (d : DriverContent) (row : DriverRow) (q : Parts)
    → after_driver_row row (parts_of c d) ≡ q → LeavesAt base member recent descs now hand frame c q → RowLeaves base member recent descs now hand frame c d row
row_leaves base member recent descs now hand frame c d row q is at =
    let l : LeavesAt base member recent descs now hand frame c (after_driver_row row (parts_of c d)) = subst (LeavesAt base member recent descs now hand frame c) (sym is) at in
    record { runs = l.runs; told = l.told; recent_are = l.recent_are; apart = l.apart }

-- everything is in place after the row
pub placed_then : (p q : Parts) (row : DriverRow) → driver_row p ≡ row → after_driver_row row p ≡ q → IsInPlace p.memory p.driver → IsInPlace q.memory q.driver
placed_then p q row is after old =
    subst (λ (r : Parts). IsInPlace r.memory r.driver) after (subst (λ (r : DriverRow). IsInPlace (after_driver_row r p).memory (after_driver_row r p).driver) is (events_keep_all_in_place p old))
