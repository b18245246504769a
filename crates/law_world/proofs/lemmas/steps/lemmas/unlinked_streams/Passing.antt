-- The row that leads past the cancelled endpoint's queue head.
use Rattle.std.proofs.Common.{◌≡◌, ◌≢◌, ℕ, suc, ◌*◌, Bool, false, nat_lt, if◌then◌else◌, slice_get, ap, sym, subst, ◌∙◌, ⊎_elim}
use Rattle.std.proofs.lemmas.Bool.{cases_eq, false≢true}
use Rattle.std.proofs.lemmas.Option.{same_Some}
use Rattle.law_common.proofs.Lists.{set_here, set_there}
use Rattle.async_walk.specs.Walk.{Walk}
use Rattle.async_walk.specs.Rows.{place}
use Rattle.drv_table.specs.declared.content.Endpoint.{Endpoint}
use Rattle.drv_table.specs.declared.content.Command.{Command}
use Rattle.drv_table.specs.declared.content.Command.TheVariants as unfinished
use Rattle.drv_table.specs.declared.rows.DriverRow.{DriverRow}
use Rattle.drv_table.specs.declared.rows.DriverRow.TheVariants as rows
use Rattle.drv_table.specs.DriverContent.{DriverContent}
use Rattle.drv_table.specs.Parts.{Parts as DriverParts}
use Rattle.drv_table.specs.Rows.{row_for, driver_row, after_driver_row}
use Rattle.drv_table.specs.Commands.{command_row, leave_ring, no_command, finished, advanced_by}
use Rattle.drv_table.specs.Words.{queue_head_link}
use Rattle.law_structures.specs.lent_structures.Structures.{StructureSets}
use Rattle.law_ring.specs.Hand.{Hand}
use Rattle.claims_base.specs.Controller.{Base}
use Rattle.law_driver_ring.specs.Driven.{DrivesRing}
use Rattle.law_driver_ring.proofs.Unlinking.{unlink_drives}
use Rattle.law_queues.specs.publish_laws.Stores.{next_of}
use Rattle.law_world.specs.steps.unlinked_streams.Unlinks.{IsAtUnlink, driver_then, parts_unlinked, hand_unlinked, MeetsRing, IsUnlinked, UnlinkRow, UnlinkMeetsRing, UnlinkLeavesRing}

module _ (p : DriverParts) (member : ℕ → Bool) (parts : StructureSets) (k : IsAtUnlink p.driver member parts) where
  abbrev d : DriverContent
  d = p.driver

  abbrev x : Endpoint
  x = k.endpoint

  abbrev command : Command
  command = unfinished.Unlink k.number k.before (queue_head_link k.after)

  pub row_is : driver_row p ≡ rows.Store k.before (32 * k.before) (queue_head_link k.after)
  row_is = ap (row_for p) k.command ∙ ap (command_row command) k.made

  abbrev finished_by : ℕ → DriverContent
  finished_by i = if nat_lt (suc i) 1 then record d { made = suc i } else finished d command

  abbrev left_if : Bool → DriverContent
  left_if b = if b then driver_then d k.number x else no_command d

  pub driver_is : (next_of p).driver ≡ driver_then d k.number x
  driver_is =
      ap (λ (row : DriverRow). (after_driver_row row p).driver) row_is ∙ ap (advanced_by d) k.command ∙ ap finished_by k.made ∙ ap (leave_ring (no_command d) k.number) k.here
      ∙ ap left_if k.linked

  is_unlinked : IsUnlinked p k.number x k.before k.after
  is_unlinked = record {
    row = row_is;
    driver = driver_is;
    left = ap (λ (f : DriverContent). slice_get f.endpoints k.number) driver_is ∙ set_here d.endpoints k.number x (record x { linked = false }) k.here;
    others = λ f differs. ap (λ (g : DriverContent). slice_get g.endpoints f) driver_is ∙ set_there d.endpoints k.number f (record x { linked = false }) differs;
    last = ap (λ (f : DriverContent). f.waiting) driver_is;
    done = ap (λ (f : DriverContent). f.command) driver_is;
  }

  meets : MeetsRing d member → MeetsRing (next_of p).driver member
  meets old = record {
    head = old.head;
    each = λ f y there on.
        ⊎_elim (λ (same : f ≡ k.number).
        let is : record x { linked = false } ≡ y = same_Some (record x { linked = false }) y (sym is_unlinked.left ∙ ap (slice_get (next_of p).driver.endpoints) (sym same) ∙ there) in
        absurd (false≢true (ap (λ (z : Endpoint). z.linked) is ∙ on)))
        (λ (differs : f ≢ k.number). old.each f y (sym (is_unlinked.others f differs) ∙ there) on) (cases_eq f k.number);
  }

  drives_on : (base : Base) (w : Walk) (hand : Hand) → DrivesRing base member parts hand (place w p.registers p.memory) d
      → DrivesRing base member (parts_unlinked parts k.before k.queue k.after) (hand_unlinked hand k.before k.after) (place w (next_of p).registers (next_of p).memory) (next_of p).driver
  drives_on base w hand drives =
      subst (λ (row : DriverRow). DrivesRing base member (parts_unlinked parts k.before k.queue k.after) (hand_unlinked hand k.before k.after) (place w (after_driver_row row p).registers (after_driver_row row p).memory) (after_driver_row row p).driver) (sym row_is)
      (unlink_drives base member parts hand w p k.before x.queue k.after k.queue k.own drives k.can k.met k.head k.leads k.there k.onward)

pub unlink_row : UnlinkRow
unlink_row p member parts k = is_unlinked p member parts k

pub unlink_meets_ring : UnlinkMeetsRing
unlink_meets_ring p member parts k old = meets p member parts k old

pub unlink_leaves_ring : UnlinkLeavesRing
unlink_leaves_ring base w hand p member parts k drives = drives_on p member parts k base w hand drives
