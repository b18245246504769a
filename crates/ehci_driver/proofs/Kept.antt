-- What an event leaves as it is: the registers in those that give blocks back, and the room of the reserve in each.
use Rattle.std.proofs.Common.{◌≡◌, ℕ, zero, suc, Bool, true, false, cond, slice_get, length, take, drop, is_none, nat_lt, Option, Some, None, refl, ◌∙◌}
use Rattle.usb_base.specs.declared.endpoints.EpName.{EpName}
use Rattle.usb_base.specs.declared.endpoints.EndCause.{EndCause}
use Rattle.mem_runs.specs.Book.{Holding, holding}
use Rattle.word_mem.specs.Memory.{Mem}
use Rattle.drv_periodic_table.specs.declared.content.Removed.{Removed}
use Rattle.drv_periodic_table.specs.declared.content.Removed.TheVariants as removed
use Rattle.drv_table.specs.declared.content.Endpoint.{Endpoint}
use Rattle.drv_table.specs.declared.content.Transfer.{Transfer}
use Rattle.drv_table.specs.declared.content.Reserve.{Reserve}
use Rattle.drv_table.specs.declared.content.Command.{Command}
use Rattle.drv_table.specs.declared.content.Command.TheVariants as unfinished
use Rattle.drv_table.specs.declared.rows.DriverRow.{DriverRow}
use Rattle.drv_table.specs.declared.rows.DriverRow.TheVariants as rows
use Rattle.drv_table.specs.declared.rows.Found.{Found}
use Rattle.drv_table.specs.declared.rows.Found.TheVariants as founds
use Rattle.drv_table.specs.DriverContent.{DriverContent, waits_for}
use Rattle.drv_table.specs.Parts.{Parts}
use Rattle.drv_table.specs.Rows.{after_driver_row}
use Rattle.drv_table.specs.Releases.{after_transfer, after_endpoint, cancel_told, is_told, freed_by}
use Rattle.drv_table.specs.Commands.{advanced_by, finished, no_command, leave_ring, events_of, links, linked_on, or_finished, leave_frames}
use Rattle.drv_table.specs.Harvesting.{behind, behind_one, stalled, goes_on, after_end, harvested_as, after_harvest, told_with}
use Rattle.drv_table.specs.FrameChoice.{framed_by, with_notes, framed_notes, placement_at}
use Rattle.drv_table.specs.Removals.{after_unlink, after_removed, after_descriptor, after_placed}
use Rattle.drv_table.specs.Harvests.{noted, is_stall, end_of}

pub transfer_registers : (p : Parts) (t : ℕ) (o : Option Transfer) (h : Holding) → (after_transfer p t o h).registers ≡ p.registers
transfer_registers p t None h = refl
transfer_registers p t (Some x) h = refl

pub endpoint_registers : (p : Parts) (e : ℕ) (o : Option Endpoint) → (after_endpoint p e o).registers ≡ p.registers
endpoint_registers p e None = refl
endpoint_registers p e (Some x) = refl

pub unlink_registers : (p : Parts) (t : ℕ) (o : Option Transfer) → (after_unlink p t o).registers ≡ p.registers
unlink_registers p t None = refl
unlink_registers p t (Some x) = refl

descriptor_registers : (p : Parts) (t : ℕ) (o : Option Transfer) → (after_descriptor p t o).registers ≡ p.registers
descriptor_registers p t None = refl
descriptor_registers p t (Some x) = refl

placed_registers : (p : Parts) (e : ℕ) (o : Option Endpoint) → (after_placed p e o).registers ≡ p.registers
placed_registers p e None = refl
placed_registers p e (Some x) = refl

pub removed_registers : (p : Parts) (what : Removed) → (after_removed p what).registers ≡ p.registers
removed_registers p (removed.Descriptor t) = descriptor_registers p t (slice_get p.driver.transfers t)
removed_registers p (removed.Endpoint e) = placed_registers p e (slice_get p.driver.endpoints e)

-- ---- the room

either : (b : Bool) (x y : DriverContent) (r : Reserve) → x.room ≡ r → y.room ≡ r → (cond b x y).room ≡ r
either true x y r f g = f
either false x y r f g = g

leave_room : (d : DriverContent) (e : ℕ) (o : Option Endpoint) → (leave_ring d e o).room ≡ d.room
leave_room d e None = refl
leave_room d e (Some x) = either x.linked _ d d.room refl refl

frames_room : (d : DriverContent) (e : ℕ) (o : Option Endpoint) → (leave_frames d e o).room ≡ d.room
frames_room d e None = refl
frames_room d e (Some x) = either x.chained _ d d.room refl refl

finished_room : (d : DriverContent) (c : Command) → (finished d c).room ≡ d.room
finished_room d (unfinished.Unlink e b link) = leave_room (no_command d) e (slice_get d.endpoints e)
finished_room d (unfinished.Unchain e) = frames_room (no_command d) e (slice_get d.endpoints e)
finished_room d _ = refl

idle_room : (d : DriverContent) (c : Command) → (or_finished d c).room ≡ d.room
idle_room d c = either (is_none d.periodic.list.work) (finished d c) d d.room (finished_room d c) refl

linked_room : (d : DriverContent) (c : Command) → (linked_on d c).room ≡ d.room
linked_room d c = idle_room _ c

own_room : (d : DriverContent) (c : Command) → (cond (links c) (linked_on d c) (finished d c)).room ≡ d.room
own_room d c = either (links c) (linked_on d c) (finished d c) d.room (linked_room d c) (finished_room d c)

advanced_room : (d : DriverContent) (o : Option Command) → (advanced_by d o).room ≡ d.room
advanced_room d None = refl
advanced_room d (Some c) = either (nat_lt (suc d.made) (length (events_of c))) _ (cond (links c) (linked_on d c) (finished d c)) d.room refl (own_room d c)

framed_room : (d : DriverContent) (n : ℕ) (o : Option Command) → (framed_by d n o).room ≡ d.room
framed_room d n (Some (unfinished.Iso e t count)) = advanced_room (with_notes d n (take count (drop t d.transfers)) (framed_notes d n e t count (placement_at d e))) d.command
framed_room d n _ = refl

unlink_room : (p : Parts) (t : ℕ) (o : Option Transfer) → (after_unlink p t o).driver.room ≡ p.driver.room
unlink_room p t None = refl
unlink_room p t (Some x) = refl

descriptor_room : (p : Parts) (t : ℕ) (o : Option Transfer) → (after_descriptor p t o).driver.room ≡ p.driver.room
descriptor_room p t None = refl
descriptor_room p t (Some x) = refl

transfer_room : (p : Parts) (t : ℕ) (o : Option Transfer) (h : Holding) → (after_transfer p t o h).driver.room ≡ p.driver.room
transfer_room p t None h = refl
transfer_room p t (Some x) h = refl

told_room : (d : DriverContent) (m : Mem) (e : ℕ) (x : Endpoint) → (cancel_told d m e x).room ≡ d.room
told_room d m e x = either (is_told x) _ d d.room refl refl

endpoint_room : (p : Parts) (e : ℕ) (o : Option Endpoint) → (after_endpoint p e o).driver.room ≡ p.driver.room
endpoint_room p e None = refl
endpoint_room p e (Some x) = told_room p.driver p.memory e x

placed_room : (p : Parts) (e : ℕ) (o : Option Endpoint) → (after_placed p e o).driver.room ≡ p.driver.room
placed_room p e None = refl
placed_room p e (Some x) = told_room p.driver p.memory e x

removed_room : (p : Parts) (what : Removed) → (after_removed p what).driver.room ≡ p.driver.room
removed_room p (removed.Descriptor t) = descriptor_room p t (slice_get p.driver.transfers t)
removed_room p (removed.Endpoint e) = placed_room p e (slice_get p.driver.endpoints e)

one_room : (d : DriverContent) (e : ℕ) (name : EpName) (k : ℕ) (o : Option Transfer) → (behind_one d e name k o).room ≡ d.room
one_room d e name k None = refl
one_room d e name k (Some x) = either (waits_for e x) _ d d.room refl refl

behind_room : (d : DriverContent) (e : ℕ) (name : EpName) (k n : ℕ) → (behind d e name k n).room ≡ d.room
unfolding behind
behind_room d e name k zero = refl
behind_room d e name k (suc n) =
    behind_room (behind_one d e name k (slice_get d.transfers k)) e name (suc k) n ∙ one_room d e name k (slice_get d.transfers k)

end_room : (d : DriverContent) (e t : ℕ) (x : Endpoint) (stall : Bool) (o : Option EndCause) → (after_end d e t x stall o).room ≡ d.room
end_room d e t x stall (Some cause) = refl
end_room d e t x stall None = either stall (stalled d e t x) (goes_on d e t x) d.room (behind_room _ e x.desc.name (suc t) _) refl

read_room : (d : DriverContent) (m : Mem) (e t : ℕ) (x : Endpoint) (y : Transfer) (found : Found) → (harvested_as d m e t x y found).room ≡ d.room
read_room d m e t x y (founds.Ended n what) = end_room (told_with d m t y what x.desc.name (noted d.notes y.place n)) e t x (is_stall what) (end_of x.desc.kind what)
read_room d m e t x y _ = refl

harvest_room : (d : DriverContent) (m : Mem) (e t : ℕ) (found : Found) (o : Option Endpoint) (q : Option Transfer) → (after_harvest d m e t found o q).room ≡ d.room
harvest_room d m e t found None q = refl
harvest_room d m e t found (Some x) None = refl
harvest_room d m e t found (Some x) (Some y) = either (waits_for e y) _ d d.room (read_room d m e t x y found) refl

pub row_room : (row : DriverRow) (p : Parts) → (after_driver_row row p).driver.room ≡ p.driver.room
row_room rows.Lend p = advanced_room _ p.driver.command
row_room (rows.Store b at v) p = advanced_room p.driver p.driver.command
row_room (rows.ReleaseTransfer t) p = transfer_room p t (slice_get p.driver.transfers t) (freed_by p.driver (holding p.driver.book p.memory) (slice_get p.driver.transfers t))
row_room (rows.ReleaseEndpoint e) p = endpoint_room p e (slice_get p.driver.endpoints e)
row_room (rows.Harvest e t found) p = harvest_room p.driver p.memory e t found (slice_get p.driver.endpoints e) (slice_get p.driver.transfers t)
row_room rows.Frames p = framed_room p.driver p.registers.frame_index p.driver.command
row_room rows.LendDescriptors p = advanced_room _ p.driver.command
row_room (rows.Unlink t) p = unlink_room p t (slice_get p.driver.transfers t)
row_room (rows.ReleaseRemoved what) p = removed_room p what
row_room _ p = refl
