-- Each event of the driver leaves of an endpoint and a frame at most one descriptor active, and a new world has none.
use Rattle.std.proofs.Common.{◌≡◌, ◌≢◌, ℕ, ◌*◌, ◌/◌, ◌&&◌, not, Bool, true, false, cond, List, [], ◌∷◌, length, slice_get, Option, Some, None, option_map, refl, ap, sym, subst, ◌∙◌, ⊎_elim, arith}
use Rattle.std.specs.Prelude.{option_and_then}
use Rattle.std.specs.List.{AllByRecursion}
use Rattle.std.proofs.lemmas.Bool.{true≢false}
use Rattle.std.proofs.lemmas.Option.{same_Some, slice_get_within}
use Rattle.law_common.proofs.Lists.{all_more, all_both}
use Rattle.word_mem.specs.Memory.{Mem}
use Rattle.mem_runs.specs.Book.{slot_of}
use Rattle.drv_chains.specs.declared.members.Descriptor.{Descriptor}
use Rattle.drv_periodic_table.specs.Periodic.{note_at, descriptor_name}
use Rattle.drv_periodic_table.specs.Descriptors.{is_served}
use Rattle.drv_table.specs.declared.content.Transfer.{Transfer}
use Rattle.drv_table.specs.declared.content.Mend.{Mend}
use Rattle.drv_table.specs.DriverContent.{DriverContent}
use Rattle.drv_table.specs.Words.{head_block}
use Rattle.drv_table.specs.Parts.{Parts}
use Rattle.drv_table.specs.Rows.{driver_row, after_driver_row}
use Rattle.claims_driver.specs.Owners.{Head, QueueHead as HeadOf, Described, IsPlaced, is_descriptor, runs_of_transfer, views_of}
use Rattle.claims_driver.specs.Leaving.{HasOwners}
use Rattle.law_driver.proofs.lemmas.run_owners.Reasons.{each_event_is_due}
use Rattle.law_driver.specs.in_place.InPlace.{IsSound}
use Rattle.law_driver_ring.specs.Inventory.{Sort, OfQueueHead, sort_of, IsDriverOwned, the_list, the_head, a_queue, a_dummy, a_piece, a_buffer}
use Rattle.claims_driver.specs.FrameListMembers.{Placed, placed_of, framed_in, is_chained}
use Rattle.law_driver.specs.listed_members.Members.{IsListed}
use Rattle.law_driver.proofs.lemmas.listed_members.Standing.{descriptor_block}
use Rattle.claims_driver.specs.DueMembers.{framed_to, IsWaitingFor}
use Rattle.law_driver.specs.iso_frames.Frames.{AreInFrames}
use Rattle.law_driver.proofs.lemmas.iso_frames.Due.{an_endpoint_has_one_descriptor_a_frame}
use Rattle.law_queues.specs.mended_heads.Owed.{StalledQueue, left_of, all_left, mends_at}
use Rattle.law_queues.specs.mended_heads.Waiting.{Waits}
use Rattle.bus_world.specs.World.{World, driver_parts, driver_next}
use Rattle.law_scripts.proofs.lemmas.byte_answers.Lists.{all_drop}
use Rattle.law_world.specs.memory.Mixed.{Standing, IsMixedAt}
use Rattle.law_microframes.specs.visits.OneDescriptor.{HasOneActive, NewHasOneActive, DriverKeepsOneActive, IsActiveTransfer, WasActive, ControllerStartsNone, DriverStartsNone}
use Rattle.law_microframes.proofs.lemmas.visits.OneDescriptorWords.{AreCalm, stays_served}
use Rattle.law_microframes.proofs.lemmas.visits.OneDescriptorMet.{still}
use Rattle.law_microframes.proofs.lemmas.visits.OneDescriptorRows.{From}
use Rattle.law_microframes.proofs.lemmas.visits.OneDescriptorDriven.{Follows, one_block, row_follows, row_calm}

-- ---- a new world

pub new_has_one_active : NewHasOneActive
new_has_one_active s fit bytes = record { served = λ t y here. absurd (cc); apart = λ e t u y z off here. absurd (cc) }

-- ---- one that waits

abbrev as_member : DriverContent → Transfer → Descriptor
as_member d y = record { id = descriptor_name (note_at d.periodic.notes y.first) y.first; frame = (note_at d.periodic.notes y.first).frame }

waiting : (d : DriverContent) (e t : ℕ) (y : Transfer) → slice_get d.transfers t ≡ Some y → is_descriptor y.sort ≡ true → y.endpoint ≡ e → y.reported ≡ false → is_chained (framed_in d.endpoints e) ≡ true
    → framed_to d.command d.made (length d.transfers) ≡ length d.transfers → IsWaitingFor d (as_member d y) e
waiting d e t y here sort at untold chained all = record {
  number = t;
  placed = placed;
  here = ap (λ (o : Option Transfer). option_and_then (placed_of d.endpoints) o) here ∙ ap (λ (b : Bool). cond b (Some placed) None) sort;
  framed = (let low = slice_get_within d.transfers t y here in omega (arith, low, all));
  endpoint = at;
  waits =
      ap (λ (b : Bool). not b && is_chained (framed_in d.endpoints y.endpoint)) untold
      ∙ ap (λ (i : ℕ). is_chained (framed_in d.endpoints i)) at ∙ chained;
  is = refl;
}
  where
    placed : Placed
    placed = record { endpoint = y.endpoint; block = y.first; waits = not y.reported && is_chained (framed_in d.endpoints y.endpoint) }

-- ---- what is owed to stalled endpoints

left_all : (P : ℕ → Type 0) (s : StalledQueue) → P s.queue → AllByRecursion (λ w. P w.queue) (left_of s)
left_all P s own = all_drop (λ w. P w.queue) s.made (mends_at s.queue s.onward) (own, (own, (own, tt)))

mends_all : (P : ℕ → Type 0) (ss : List StalledQueue) → AllByRecursion (λ s. P s.queue) ss → AllByRecursion (λ w. P w.queue) (all_left ss)
mends_all P [] all = tt
mends_all P (s ∷ ss) all = all_both (λ w. P w.queue) (left_of s) (all_left ss) (left_all P s all.0) (mends_all P ss all.1)

first_all : {X : Type 0} (P : X → Type 0) (xs : List X) (x : X) → AllByRecursion P xs → slice_get xs 0 ≡ Some x → P x
first_all P [] x all here = absurd (cc)
first_all P (y ∷ ys) x all here = subst P (same_Some y x here) all.0

no_head : (d : DriverContent) (has : HasOwners d) (n a : ℕ) (k : Sort) (q b t : ℕ) (split : Bool) → IsDriverOwned (views_of d) n a k → k ≡ OfQueueHead → a ≡ 32 * q
    → IsPlaced (slot_of d.book.slots) has.owner b (Described split t) → q ≡ b → ⊥
no_head d has _ _ _ q b t split the_list e at placed same = cc
no_head d has _ _ _ q b t split the_head e at placed same =
    let block : head_block ≡ b = omega (arith, at, same) in
    absurd (let c : Head ≡ Described split t = sym has.owned.each.head.owned ∙ ap has.owner block ∙ placed.owned in cc)
no_head d has _ _ _ q b t split (a_queue i x owned lent) e at placed same =
    let block : x.queue ≡ b = omega (arith, at, same) in
    absurd (let c : HeadOf i ≡ Described split t = sym (has.owned.each.queue i x owned.here owned.queued).owned ∙ ap has.owner block ∙ placed.owned in cc)
no_head d has _ _ _ q b t split (a_dummy i x owned lent) e at placed same = cc
no_head d has _ _ _ q b t split (a_piece u c y x i p l) e at placed same = cc
no_head d has _ _ _ q b t split (a_buffer u c f cs y x i p g l) e at placed same = cc

-- ---- what follows

module _ (d : DriverContent) (m : Mem) (new : DriverContent) (then : Mem) (owners : HasOwners d) (listed : IsListed d) (in_frames : AreInFrames d) (old : HasOneActive d m) (follows : Follows d m new)
    (calm : (t : ℕ) (y : Transfer) → slice_get d.transfers t ≡ Some y → is_descriptor y.sort ≡ true → y.released ≡ false → AreCalm (note_at d.periodic.notes y.first).split m then y.first) where
  served_now : (t : ℕ) (z : Transfer) → slice_get new.transfers t ≡ Some z → is_descriptor z.sort ≡ true → z.reported ≡ true → z.released ≡ false → is_served (note_at new.periodic.notes z.first) then z.first ≡ true
  served_now t z here sort told held =
      let f : From d m t z = follows.back t z here sort held in
      let b = f.transfer.first in
      let was : is_served (note_at d.periodic.notes b) m b ≡ true =
      ⊎_elim (λ (r : f.transfer.reported ≡ true). old.served t f.transfer f.here f.descriptor r f.held) (λ (now : is_served (note_at d.periodic.notes b) m b ≡ true). now) (f.told told) in
      subst (λ (i : ℕ). is_served (note_at new.periodic.notes i) then i ≡ true) f.first
      (stays_served (note_at d.periodic.notes b) (note_at new.periodic.notes b) m then b (follows.split b) (calm t f.transfer f.here f.descriptor f.held) was)

  module _ (e t u : ℕ) (y z : Transfer) (off : is_chained (framed_in new.endpoints e) ≡ false) (f : From d m t y) (g : From d m u z) (at_y : y.endpoint ≡ e) (at_z : z.endpoint ≡ e) (un_y : y.reported ≡ false) (un_z : z.reported ≡ false)
      (frame : (note_at d.periodic.notes f.transfer.first).frame ≡ (note_at d.periodic.notes g.transfer.first).frame) where
    outside : is_chained (framed_in d.endpoints e) ≡ false → t ≡ u
    outside off_old =
        old.apart e t u f.transfer g.transfer off_old f.here g.here f.descriptor g.descriptor (f.endpoint ∙ at_y) (g.endpoint ∙ at_z) (f.untold un_y) (g.untold un_z) f.held g.held frame

    inside : is_chained (framed_in d.endpoints e) ≡ true → framed_to d.command d.made (length d.transfers) ≡ length d.transfers → t ≡ u
    inside on all =
        let same : as_member d f.transfer ≡ as_member d g.transfer =
        an_endpoint_has_one_descriptor_a_frame d owners listed in_frames e (as_member d f.transfer) (as_member d g.transfer) (waiting d e t f.transfer f.here f.descriptor (f.endpoint ∙ at_y) (f.untold un_y) on all)
        (waiting d e u g.transfer g.here g.descriptor (g.endpoint ∙ at_z) (g.untold un_z) on all) frame in
        one_block d t u f.transfer g.transfer owners f.here g.here f.descriptor g.descriptor f.held g.held
        (sym (descriptor_block d.periodic f.transfer.first) ∙ ap (λ (x : Descriptor). x.id / 32) same ∙ descriptor_block d.periodic g.transfer.first)

    by_chained : (b : Bool) → is_chained (framed_in d.endpoints e) ≡ b → t ≡ u
    by_chained false is = outside is
    by_chained true is =
        ⊎_elim (λ (off_old : is_chained (framed_in d.endpoints e) ≡ false). outside off_old) (λ (all : framed_to d.command d.made (length d.transfers) ≡ length d.transfers). inside is all) (follows.out e off)

  apart_now : (e t u : ℕ) (y z : Transfer) → is_chained (framed_in new.endpoints e) ≡ false → slice_get new.transfers t ≡ Some y → slice_get new.transfers u ≡ Some z → is_descriptor y.sort ≡ true → is_descriptor z.sort ≡ true
      → y.endpoint ≡ e → z.endpoint ≡ e → y.reported ≡ false → z.reported ≡ false → y.released ≡ false → z.released ≡ false
      → (note_at new.periodic.notes y.first).frame ≡ (note_at new.periodic.notes z.first).frame → t ≡ u
  apart_now e t u y z off one two sort_y sort_z at_y at_z un_y un_z held_y held_z frame =
      let f : From d m t y = follows.back t y one sort_y held_y in
      let g : From d m u z = follows.back u z two sort_z held_z in
      let out : (i : ℕ) → i ≡ e → is_chained (framed_in new.endpoints i) ≡ false = λ i is. ap (λ (j : ℕ). is_chained (framed_in new.endpoints j)) is ∙ off in
      let frame_y = follows.frames t y one sort_y held_y un_y (out y.endpoint at_y) in
      let frame_z = follows.frames u z two sort_z held_z un_z (out z.endpoint at_z) in
      by_chained e t u y z off f g at_y at_z un_y un_z
      (ap (λ (i : ℕ). (note_at d.periodic.notes i).frame) f.first ∙ sym frame_y ∙ frame ∙ frame_z ∙ sym (ap (λ (i : ℕ). (note_at d.periodic.notes i).frame) g.first)) (is_chained (framed_in d.endpoints e)) refl

  pub goes_on : HasOneActive new then
  goes_on = record { served = served_now; apart = apart_now }

-- ---- what is active was so

module _ (d : DriverContent) (m : Mem) (new : DriverContent) (then : Mem) (follows : Follows d m new)
    (calm : (t : ℕ) (y : Transfer) → slice_get d.transfers t ≡ Some y → is_descriptor y.sort ≡ true → y.released ≡ false → AreCalm (note_at d.periodic.notes y.first).split m then y.first) where
  pub was_active : (t : ℕ) (z : Transfer) → IsActiveTransfer new then t z → WasActive d m new t z
  was_active t z a = record {
    transfer = f.transfer;
    was = record { here = f.here; descriptor = f.descriptor; held = f.held; active = by (is_served (note_at d.periodic.notes f.transfer.first) m f.transfer.first) refl };
    endpoint = f.endpoint;
    first = f.first;
    frame = λ low. follows.kept t z a.here a.descriptor a.held low;
  }
    where
      f : From d m t z
      f = follows.back t z a.here a.descriptor a.held

      by : (b : Bool) → is_served (note_at d.periodic.notes f.transfer.first) m f.transfer.first ≡ b → is_served (note_at d.periodic.notes f.transfer.first) m f.transfer.first ≡ false
      by false is = is
      by true is =
          let b = f.transfer.first in
          let now : is_served (note_at new.periodic.notes z.first) then z.first ≡ true =
          subst (λ (i : ℕ). is_served (note_at new.periodic.notes i) then i ≡ true) f.first
          (stays_served (note_at d.periodic.notes b) (note_at new.periodic.notes b) m then b (follows.split b) (calm t f.transfer f.here f.descriptor f.held) is) in
          absurd (true≢false (sym now ∙ a.active))

-- ---- an event of the driver

module _ (s : Standing) (w : World) (k : IsMixedAt s w) where
  abbrev p : Parts
  p = driver_parts w

  sound : IsSound w.memory w.driver
  sound = k.now.framed.place.sound

  off_mends : (t : ℕ) (y : Transfer) → slice_get w.driver.transfers t ≡ Some y → is_descriptor y.sort ≡ true → y.released ≡ false → (v : Mend) → slice_get w.driver.mends 0 ≡ Some v → v.queue ≢ y.first
  off_mends t y here sort held v first =
      let mends = k.queues.controls.mends in
      let placed = (sound.owners.owned.each.described t (runs_of_transfer y) (ap (option_map runs_of_transfer) here) sort held).descriptor in
      let each : AllByRecursion (λ q. q.queue ≢ y.first) mends.queues =
      all_more (λ q. Waits q s.parts s.out) (λ (q : StalledQueue). q.queue ≢ y.first) mends.queues
      (λ q waits. no_head w.driver sound.owners (32 * q.queue) (32 * q.queue) OfQueueHead q.queue y.first t (note_at w.driver.periodic.notes y.first).split
      (k.now.framed.driven.only (32 * q.queue) (32 * q.queue) OfQueueHead (ap (option_map sort_of) waits.stands.here)) refl refl placed) mends.are.wait in
      first_all (λ (x : Mend). x.queue ≢ y.first) w.driver.mends v (subst (AllByRecursion (λ (x : Mend). x.queue ≢ y.first)) (sym mends.are.mends) (mends_all (λ q. q ≢ y.first) mends.queues each)) first

  driver_was : (t : ℕ) (z : Transfer) → IsActiveTransfer (driver_next w).driver (driver_next w).memory t z → WasActive w.driver w.memory (driver_next w).driver t z
  driver_was =
      was_active w.driver w.memory (after_driver_row (driver_row p) p).driver (after_driver_row (driver_row p) p).memory
      (row_follows (driver_row p) p (each_event_is_due p) sound) (λ t y here sort held. row_calm p sound t y here sort held (driver_row p) (each_event_is_due p) (off_mends t y here sort held))

  driver_goes_on : HasOneActive w.driver w.memory → HasOneActive (driver_next w).driver (driver_next w).memory
  driver_goes_on old =
      goes_on w.driver w.memory (after_driver_row (driver_row p) p).driver (after_driver_row (driver_row p) p).memory sound.owners sound.listed k.now.in_frames old
      (row_follows (driver_row p) p (each_event_is_due p) sound) (λ t y here sort held. row_calm p sound t y here sort held (driver_row p) (each_event_is_due p) (off_mends t y here sort held))

pub driver_keeps_one_active : DriverKeepsOneActive
driver_keeps_one_active w mixed old = driver_goes_on mixed.standing w mixed.mixed old

pub driver_starts_none : DriverStartsNone
driver_starts_none w t z mixed a = driver_was mixed.standing w mixed.mixed t z a

pub controller_starts_none : ControllerStartsNone
controller_starts_none fixed w t z mixed a = record {
  transfer = z;
  was = record { here = a.here; descriptor = a.descriptor; held = a.held; active = by (is_served (note_at w.driver.periodic.notes z.first) w.memory z.first) refl };
  endpoint = refl;
  first = refl;
  frame = λ low. refl;
}
  where
    by : (b : Bool) → is_served (note_at w.driver.periodic.notes z.first) w.memory z.first ≡ b → is_served (note_at w.driver.periodic.notes z.first) w.memory z.first ≡ false
    by false is = is
    by true is = absurd (true≢false (sym (still fixed mixed.standing w mixed.mixed t z a.here a.descriptor a.held is) ∙ a.active))
