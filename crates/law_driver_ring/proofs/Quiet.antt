-- Rows of the driver that store no word, and events of the ring's walk, over a ring that a driver drives.
use Rattle.std.proofs.Common.{◌≡◌, ℕ, Bool, true, List, refl, sym}
use Rattle.std.proofs.lemmas.Bool.{true≢false}
use Rattle.law_driver_ring.proofs.Common.{cleared_base, rung_same}
use Rattle.usb_base.specs.declared.packets.Ask.{Ask}
use Rattle.usb_base.specs.declared.packets.Reply.{Reply}
use Rattle.async_walk.specs.declared.state.WalkStep.{WalkStep}
use Rattle.async_walk.specs.Walk.{Walk}
use Rattle.async_walk.specs.Rows.{WalkPlace, place}
use Rattle.drv_table.specs.declared.rows.DriverRow.{DriverRow}
use Rattle.drv_table.specs.declared.rows.DriverRow.TheVariants as rows
use Rattle.drv_table.specs.DriverContent.{DriverContent}
use Rattle.drv_table.specs.Parts.{Parts as DriverParts}
use Rattle.drv_table.specs.Rows.{after_driver_row}
use Rattle.claims_driver.specs.Owners.{views_of}
use Rattle.law_structures.specs.lent_structures.Structures.{StructureSets}
use Rattle.law_ring.specs.Hand.{Hand}
use Rattle.claims_base.specs.Controller.{Base, base_of}
use Rattle.law_ring.specs.Effects.{Happens}
use Rattle.law_ring.proofs.Ringing.{ring_at, cursor_same}
use Rattle.law_driver_ring.specs.Inventory.{sorts_of}
use Rattle.law_driver_ring.specs.Driven.{IsOperating, DrivesRing, is_quiet}
use Rattle.law_driver_ring.proofs.Sorts.{effect_same, driven_same}
use Rattle.law_driver_ring.proofs.Viewing.{SameViews, same_views, harvest_views, driven_views}

-- ---- an event of the walk

pub the_walk_leaves_it_driven : {W : Type 0} (transacts : W → Ask → List ℕ → Reply → W → Type 0) (base : Base) (member : ℕ → Bool) (parts : StructureSets) (hand : Hand) (p : WalkPlace) (d : DriverContent) (wire after : W) (new : WalkPlace) (kind : WalkStep) → DrivesRing base member parts hand p d → (h : Happens transacts base member parts hand wire after new kind) → DrivesRing base member h.now h.later new d
the_walk_leaves_it_driven transacts base member parts hand p d wire after new kind k h = record {
  ring = h.ring;
  driven = driven_same (views_of d) parts h.now (effect_same transacts base member parts hand p wire after h.now h.later kind k.ring h.effect) k.driven;
}

-- ---- a row

-- memory stays, the registers keep what the walk goes by, and the views of the content stay
pub record StaysQuiet (p new : DriverParts) : Type 0 where
  pub memory : new.memory ≡ p.memory
  pub registers : base_of new.registers ≡ base_of p.registers
  pub views : SameViews (views_of p.driver) (views_of new.driver)

quiet_row : (base : Base) (row : DriverRow) (p : DriverParts) → IsOperating base → base_of p.registers ≡ base → is_quiet row ≡ true → StaysQuiet p (after_driver_row row p)
quiet_row base rows.ClearAdvance p on same quiet = record { memory = refl; registers = cleared_base p.registers; views = same_views (views_of p.driver) }
quiet_row base rows.RingBell p on same quiet = record { memory = refl; registers = rung_same base p.registers on same; views = same_views (views_of p.driver) }
quiet_row base (rows.ReadStatus heard) p on same quiet = record { memory = refl; registers = refl; views = same_views (views_of p.driver) }
quiet_row base (rows.ReadFrame n) p on same quiet = record { memory = refl; registers = refl; views = same_views (views_of p.driver) }
quiet_row base (rows.Harvest e t found) p on same quiet = record { memory = refl; registers = refl; views = harvest_views p.driver p.memory e t found }
quiet_row base rows.Rest p on same quiet = record { memory = refl; registers = refl; views = same_views (views_of p.driver) }
quiet_row base _ p on same quiet = absurd (true≢false (sym quiet))

pub quiet_drives : (base : Base) (member : ℕ → Bool) (parts : StructureSets) (hand : Hand) (w : Walk) (p : DriverParts) (row : DriverRow) → IsOperating base → DrivesRing base member parts hand (place w p.registers p.memory) p.driver → is_quiet row ≡ true → DrivesRing base member parts hand (place w (after_driver_row row p).registers (after_driver_row row p).memory) (after_driver_row row p).driver
quiet_drives base member parts hand w p row on k quiet =
    let new = after_driver_row row p in
    let s = quiet_row base row p on k.ring.registers quiet in
    let old = place w p.registers p.memory in
    let now = place w new.registers new.memory in
    record {
      ring = ring_at base member parts hand hand old now k.ring s.memory s.registers (cursor_same member old now s.registers refl k.ring.cursor) k.ring.held k.ring.in_hand;
      driven = driven_views (views_of p.driver) (views_of new.driver) (sorts_of parts) s.views k.driven;
    }
