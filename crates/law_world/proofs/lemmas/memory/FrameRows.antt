-- Events of the frame list leave a world with endpoints of every kind one: descriptors get their frames, are harvested, unlinked and given back, an isochronous endpoint is
-- given back, and members are linked or unlinked while no endpoint of a queue is opened.
use Rattle.std.proofs.Common.{◌≡◌, ℕ, zero, suc, ◌+◌, ◌*◌, Bool, true, false, List, slice_get, Option, Some, None, ap, refl, sym, subst, ◌∙◌, arith}
use Rattle.std.specs.Prelude.{option_map, slice_index}
use Rattle.std.proofs.lemmas.Option.{slice_get-map}
use Rattle.drv_periodic_table.specs.declared.content.Removed.TheVariants as removed
use Rattle.drv_table.specs.declared.content.Endpoint.{Endpoint}
use Rattle.drv_table.specs.declared.content.Transfer.{Transfer}
use Rattle.drv_table.specs.declared.content.Command.{Command}
use Rattle.drv_table.specs.declared.content.Command.TheVariants as unfinished
use Rattle.drv_table.specs.declared.rows.DriverRow.{DriverRow}
use Rattle.drv_table.specs.declared.rows.DriverRow.TheVariants as rows
use Rattle.drv_table.specs.declared.rows.Found.{Found}
use Rattle.drv_table.specs.Kinds.{is_iso}
use Rattle.drv_table.specs.Parts.{Parts}
use Rattle.drv_table.specs.Commands.{store_order, events_of}
use Rattle.drv_table.specs.Rows.{driver_row, after_driver_row}
use Rattle.drv_table.specs.Removals.{after_placed}
use Rattle.claims_driver.specs.Owners.{is_descriptor}
use Rattle.law_driver.specs.run_owners.Due.{IsDue, IsNextOf, IsLinkOf, IsUnlinkDue, IsRemovalDue}
use Rattle.claims_driver.specs.Leaving.{HasOwners}
use Rattle.law_driver.proofs.lemmas.run_owners.Reasons.{each_event_is_due}
use Rattle.law_driver.proofs.lemmas.run_owners.Orders.{times_first, one_same, removed_first, IsOwed, owed}
use Rattle.claims_base.specs.Controller.{opening_base}
use Rattle.law_driver.specs.queued_drivers.Queued.{queued}
use Rattle.law_driver.specs.queued_drivers.Rows.{IsOfFrames, keeps_book}
use Rattle.law_world.specs.memory.framed_memory.Isochronous.{IsFramesCommand}
use Rattle.law_world.proofs.lemmas.memory.lemmas.framed_memory.NowRows.{unlink_keeps_now, link_keeps_now, release_keeps_now, waiting_keeps_now}
use Rattle.law_world.proofs.lemmas.memory.lemmas.framed_memory.Harvesting.{harvest_keeps_now}
use Rattle.law_world.proofs.lemmas.memory.lemmas.framed_memory.ChosenFrames.{frames_keep_now}
use Rattle.bus_world.specs.World.{World, driver_parts, controller_parts, driver_next}
use Rattle.law_world.specs.memory.Mixed.{Standing, IsMixedAt}
use Rattle.law_world.specs.memory.Steps.{IsMixedNext}
use Rattle.law_world.specs.memory.Laws.{RowKeepsMixed}
use Rattle.law_world.proofs.lemmas.memory.Alike.{goes_on_relinked}
use Rattle.law_world.proofs.lemmas.memory.Stepping.{told_same, told_stored}
use Rattle.law_world.proofs.lemmas.memory.FrameNext.{EndsStay, idle_frames, never_publishes, its_owners, frames_mixed, same_dummies, quiet_dummies}
use Rattle.law_world.proofs.lemmas.memory.FrameEnds.{advance_ends, framed_ends, unlink_ends, descriptor_ends, placed_ends, harvest_ends}

-- ---- what a row is of is there

pub unlinked_there : (p : Parts) (t : ℕ) → HasOwners p.driver → IsUnlinkDue p t → IsOwed p.driver.transfers t
unlinked_there p t has due =
    let most = has.orderly.harvests t in
    let first = times_first t t p.driver.periodic.unlinks due.first in
    let one = one_same t in
    owed p.driver.transfers t (slice_get p.driver.transfers t) refl (omega (arith, most, first, one))

descriptor_there : (p : Parts) (t : ℕ) → HasOwners p.driver → IsRemovalDue p (removed.Descriptor t) → IsOwed p.driver.transfers t
descriptor_there p t has due =
    let most = has.orderly.harvests t in
    let first = removed_first t t p.driver.periodic.removals due.removal due.first due.is in
    let one = one_same t in
    owed p.driver.transfers t (slice_get p.driver.transfers t) refl (omega (arith, most, first, one))

-- the next row is this one
module _ (w : World) (row : DriverRow) (is : driver_row (driver_parts w) ≡ row) where
  of_frames : IsOfFrames (driver_parts w) row → IsOfFrames (driver_parts w) (driver_row (driver_parts w))
  of_frames of = subst (IsOfFrames (driver_parts w)) (sym is) of

  row_due : IsDue (driver_parts w) row
  row_due = subst (IsDue (driver_parts w)) is (each_event_is_due (driver_parts w))

  row_ends : EndsStay w.driver.endpoints (after_driver_row row (driver_parts w)).driver.endpoints → EndsStay w.driver.endpoints (driver_next w).driver.endpoints
  row_ends stay = subst (λ (r : DriverRow). EndsStay w.driver.endpoints (after_driver_row r (driver_parts w)).driver.endpoints) (sym is) stay

-- ---- descriptors get their frames

stores_only : (b : ℕ) (words : List ℕ) (o : Option ℕ) → option_map (λ i. rows.Store b (32 * b + 4 * i) (slice_index words i)) o ≡ Some rows.Frames → ⊥
stores_only b words None is = cc
stores_only b words (Some i) is = cc

frames_iso : (c : Command) (made : ℕ) → slice_get (events_of c) made ≡ Some rows.Frames → IsFramesCommand (Some c)
frames_iso (unfinished.Open queue) zero is = absurd (cc)
frames_iso (unfinished.Open queue) (suc zero) is = absurd (cc)
frames_iso (unfinished.Open queue) (suc (suc n)) is = absurd (cc)
frames_iso (unfinished.Publish b words) zero is = absurd (cc)
frames_iso (unfinished.Publish b words) (suc n) is = absurd (stores_only b words (slice_get store_order n) (sym (slice_get-map _ store_order n) ∙ is))
frames_iso (unfinished.Unlink e b link) zero is = absurd (cc)
frames_iso (unfinished.Unlink e b link) (suc n) is = absurd (cc)
frames_iso unfinished.Chain zero is = absurd (cc)
frames_iso unfinished.Chain (suc n) is = absurd (cc)
frames_iso _ made is = tt

pub frames_chosen_mixed : RowKeepsMixed rows.Frames
frames_chosen_mixed s w k is =
    let p : Parts = driver_parts w in
    let of : IsOfFrames p (driver_row p) = of_frames w rows.Frames is tt in
    let due : IsNextOf p rows.Frames = row_due w rows.Frames is in
    let frames : IsFramesCommand w.driver.command = subst IsFramesCommand (sym due.unfinished) (frames_iso due.command w.driver.made due.next) in
    frames_mixed s w k s.recent s.descs s.parts s.hand s.frame (frames_keep_now opening_base s.member s.recent s.descs s.parts s.hand s.frame (controller_parts w) w.driver k.now is) of frames
    (row_ends w rows.Frames is (framed_ends w.driver w.registers.frame_index w.driver.command frames)) (same_dummies s w k of (ap keeps_book is)) k.queues
    (told_same s s.recent s.descs)

-- ---- a descriptor is harvested

pub descriptor_harvested_mixed : (e t : ℕ) (found : Found) (s : Standing) (w : World) → IsMixedAt s w → driver_row (driver_parts w) ≡ rows.Harvest e t found
    → ((y : Transfer) → slice_get w.driver.transfers t ≡ Some y → is_descriptor y.sort ≡ true) → IsMixedNext s w (driver_next w)
descriptor_harvested_mixed e t found s w k is sort =
    let p : Parts = driver_parts w in
    let row : DriverRow = rows.Harvest e t found in
    let of : IsOfFrames p (driver_row p) = of_frames w row is sort in
    frames_mixed s w k s.recent s.descs s.parts s.hand s.frame (harvest_keeps_now opening_base s.member s.recent s.descs s.parts s.hand s.frame (controller_parts w) w.driver e t found k.now is) of
    (idle_frames w.driver.command (row_due w row is).idle) (row_ends w row is (harvest_ends w.driver w.memory e t found (slice_get w.driver.endpoints e) (slice_get w.driver.transfers t) refl))
    (same_dummies s w k of (ap keeps_book is)) k.queues (told_same s s.recent s.descs)

-- ---- .. unlinked

pub unlinked_mixed : (t : ℕ) → RowKeepsMixed (rows.Unlink t)
unlinked_mixed t s w k is =
    let p : Parts = driver_parts w in
    let row : DriverRow = rows.Unlink t in
    let of : IsOfFrames p (driver_row p) = of_frames w row is tt in
    let due : IsUnlinkDue p t = row_due w row is in
    let frames : IsFramesCommand w.driver.command = idle_frames w.driver.command due.idle in
    let at : IsOwed w.driver.transfers t = unlinked_there p t (its_owners s w k) due in
    let u = unlink_keeps_now opening_base s.member s.recent s.descs s.parts s.hand s.frame (controller_parts w) w.driver t at.transfer k.now is at.there in
    let st = u.event.stored in
    frames_mixed s w k _ _ _ s.hand st.frame_later u.framed of frames (row_ends w row is (unlink_ends p t (slice_get w.driver.transfers t))) (same_dummies s w k of (ap keeps_book is))
    (goes_on_relinked opening_base s.descs s.parts s.frame u.event.store.at u.event.store.value st.now st.frame_later (queued w.driver) s.near s.streams s.ends s.order s.out st.stored
    (never_publishes w.driver frames) k.queues) (told_stored s _ _ u.event.store.at u.event.store.value st.now st.frame_later st.stored)

-- ---- .. and given back

pub descriptor_returned_mixed : (t : ℕ) → RowKeepsMixed (rows.ReleaseRemoved (removed.Descriptor t))
descriptor_returned_mixed t s w k is =
    let p : Parts = driver_parts w in
    let row : DriverRow = rows.ReleaseRemoved (removed.Descriptor t) in
    let of : IsOfFrames p (driver_row p) = of_frames w row is tt in
    let due : IsRemovalDue p (removed.Descriptor t) = row_due w row is in
    let at : IsOwed w.driver.transfers t = descriptor_there p t (its_owners s w k) due in
    let now = release_keeps_now opening_base s.member s.recent s.descs s.parts s.hand s.frame (controller_parts w) w.driver t at.transfer k.now is at.there in
    frames_mixed s w k _ _ _ s.hand s.frame now of (idle_frames w.driver.command due.idle) (row_ends w row is (descriptor_ends p t (slice_get w.driver.transfers t))) (quiet_dummies s w k due.idle) k.queues
    (told_same s _ _)

-- an isochronous endpoint, with all that waits there
pub isochronous_returned_mixed : (e : ℕ) (x : Endpoint) (s : Standing) (w : World) → IsMixedAt s w → driver_row (driver_parts w) ≡ rows.ReleaseRemoved (removed.Endpoint e)
    → slice_get w.driver.endpoints e ≡ Some x → is_iso x.desc.kind ≡ true → IsMixedNext s w (driver_next w)
isochronous_returned_mixed e x s w k is here iso =
    let p : Parts = driver_parts w in
    let row : DriverRow = rows.ReleaseRemoved (removed.Endpoint e) in
    let of : IsOfFrames p (driver_row p) = of_frames w row is (λ y there. ap (λ (o : Option Endpoint). is_iso_in o) (sym there ∙ here) ∙ iso) in
    let due : IsRemovalDue p (removed.Endpoint e) = row_due w row is in
    let now = waiting_keeps_now opening_base s.member s.recent s.descs s.parts s.hand s.frame (controller_parts w) w.driver e x k.now is here iso in
    frames_mixed s w k _ _ _ s.hand s.frame now of (idle_frames w.driver.command due.idle)
    (row_ends w row is (subst (λ (o : Option Endpoint). EndsStay w.driver.endpoints (after_placed p e o).driver.endpoints) (sym here) (placed_ends p e x here iso))) (quiet_dummies s w k due.idle) k.queues
    (told_same s _ _)
  where
    is_iso_in : Option Endpoint → Bool
    is_iso_in None = false
    is_iso_in (Some z) = is_iso z.desc.kind

-- ---- members are linked or unlinked, while no endpoint of a queue is opened

no_chain : (c : Command) → IsFramesCommand (Some c) → c ≡ unfinished.Chain → ⊥
no_chain c frames chain = subst (λ (z : Command). IsFramesCommand (Some z)) chain frames

pub stored_mixed : (s : Standing) (w : World) → IsMixedAt s w → IsLinkOf (driver_parts w) (driver_row (driver_parts w)) → IsFramesCommand w.driver.command → IsMixedNext s w (driver_next w)
stored_mixed s w k why frames =
    let p : Parts = driver_parts w in
    let st = why.store in
    let row : DriverRow = rows.Store st.block st.at st.value in
    let its : IsFramesCommand (Some why.command) = subst IsFramesCommand why.unfinished frames in
    let of : IsOfFrames p (driver_row p) = of_frames w row why.is (record { link = subst (IsLinkOf p) why.is why; goes_on = λ chain. absurd (subst IsFramesCommand chain frames) }) in
    let l = link_keeps_now opening_base s.member s.recent s.descs s.parts s.hand s.frame (controller_parts w) w.driver k.now why (λ chain. absurd (no_chain why.command its chain)) in
    frames_mixed s w k _ _ _ s.hand l.event.frame_later l.framed of frames (row_ends w row why.is (advance_ends w.driver frames)) (same_dummies s w k of (ap keeps_book why.is))
    (goes_on_relinked opening_base s.descs s.parts s.frame st.at st.value l.event.now l.event.frame_later (queued w.driver) s.near s.streams s.ends s.order s.out l.event.stored
    (never_publishes w.driver frames) k.queues) (told_stored s _ _ st.at st.value l.event.now l.event.frame_later l.event.stored)
