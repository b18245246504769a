-- Each event of the driver leaves the fields of its siTDs, in memory and in hand: a siTD that it has after the event it had before, and of
-- its words only the link was stored (EHCI 1.0, 3.4, 4.6).
use Rattle.std.proofs.Common.{◌≡◌, ◌≢◌, ℕ, ◌+◌, ◌*◌, ◌/◌, ◌<◌, ◌≤◌, Bool, slice_get, Option, option_map, ap, refl, sym, subst, ◌∙◌, arith}
use Rattle.usb_base.specs.declared.endpoints.EpDesc.{EpDesc}
use Rattle.word_mem.specs.Memory.{word_at}
use Rattle.mem_runs.specs.Book.{holding, Stands, slot_of}
use Rattle.itd_sitd.specs.declared.sitd.Sitd.{Sitd}
use Rattle.drv_periodic_table.specs.Descriptors.{sitd_in}
use Rattle.drv_periodic_table.specs.Periodic.{note_at}
use Rattle.drv_table.specs.declared.content.Mend.{Mend}
use Rattle.drv_table.specs.declared.rows.DriverRow.TheVariants as rows
use Rattle.drv_table.specs.DriverContent.{DriverContent}
use Rattle.drv_table.specs.Parts.{Parts}
use Rattle.drv_table.specs.Rows.{driver_row, after_driver_row}
use Rattle.claims_driver.specs.Owners.{SlotHas, runs_of_transfer, views_of}
use Rattle.law_driver.specs.in_place.InPlace.{IsInPlace}
use Rattle.law_driver.proofs.lemmas.in_place.Laws.{events_keep_all_in_place}
use Rattle.law_driver.proofs.lemmas.ring_members.Aside.{list_apart}
use Rattle.law_driver.proofs.lemmas.ring_members.Placed.{has_first}
use Rattle.law_driver.proofs.lemmas.run_owners.Reasons.{each_event_is_due}
use Rattle.law_driver.proofs.lemmas.run_owners.Runs.{placed_run}
use Rattle.bus_world.specs.World.{World, driver_parts, driver_next}
use Rattle.law_world.specs.memory.Mixed.{IsMixedWorld}
use Rattle.law_microframes.proofs.lemmas.visits.BelongItdRows.{not_mended}
use Rattle.law_microframes.proofs.lemmas.visits.BelongRows.{row_leaves}
use Rattle.law_microframes.proofs.lemmas.visits.BelongSeen.{Seen, IsSeenIn, seen_there, row_seen}
use Rattle.law_microframes.proofs.lemmas.visits.OneDescriptorDriven.{Follows, row_follows}
use Rattle.law_microframes.proofs.lemmas.visits.OneDescriptorRows.{From}
use Rattle.law_microframes.specs.time.SitdFields.{HaveSitdFields, SplitTransfer, SitdsStand, DriverKeepsSitds}
use Rattle.law_microframes.proofs.lemmas.time.SitdWords.{words_stay}

module _ (w : World) (mixed : IsMixedWorld w) (old : SitdsStand w.driver w.memory w.control)
    (j : SplitTransfer (driver_next w).driver) where
  abbrev d : DriverContent
  d = w.driver

  abbrev p : Parts
  p = driver_parts w

  place : IsInPlace w.memory w.driver
  place = mixed.mixed.now.framed.place

  later : IsInPlace (driver_next w).memory (driver_next w).driver
  later = events_keep_all_in_place p place

  pub follows : Follows w.driver w.memory (driver_next w).driver
  follows = row_follows (driver_row p) p (each_event_is_due p) place.sound

  from : From w.driver w.memory j.number j.transfer
  from = follows.back j.number j.transfer j.there j.sort j.held

  of : IsSeenIn w.driver.endpoints j.transfer.endpoint j.endpoint
  of = seen_there (driver_next w).driver.endpoints d.endpoints j.transfer.endpoint j.endpoint
      (sym (row_seen j.transfer.endpoint (driver_row p) p)) j.here

  -- as it was before
  pub before : SplitTransfer w.driver
  before = record {
    number = j.number;
    transfer = from.transfer;
    endpoint = of.endpoint;
    placement = j.placement;
    there = from.here;
    sort = from.descriptor;
    held = from.held;
    split = ap (λ (b : ℕ). (note_at d.periodic.notes b).split) from.first ∙ sym (follows.split j.transfer.first) ∙ j.split;
    here = ap (slice_get d.endpoints) from.endpoint ∙ of.here;
    placed = ap (λ (s : Seen). s.placement) of.same ∙ j.placed;
  }

  abbrev b : ℕ
  b = from.transfer.first

  own_block : (i : ℕ) → i < 7 → (32 * b + 4 * i) / 32 ≡ b
  own_block i small = omega (arith, small)

  inside : (i : ℕ) → i < 7 → SlotHas (slot_of w.driver.book.slots b) ((32 * b + 4 * i) / 32)
  inside i small =
      let run = placed_run b _ (place.sound.owners.owned.each.described j.number (runs_of_transfer from.transfer)
      (ap (option_map runs_of_transfer) from.here) from.descriptor from.held).descriptor in
      subst (SlotHas (slot_of d.book.slots b)) (sym (own_block i small)) (has_first (holding d.book w.memory) b place.sound.stands run)

  inside_then : (i : ℕ) → i < 7 → SlotHas (slot_of (driver_next w).driver.book.slots b) ((32 * b + 4 * i) / 32)
  inside_then i small =
      let run = placed_run j.transfer.first _
      (later.sound.owners.owned.each.described j.number (runs_of_transfer j.transfer)
      (ap (option_map runs_of_transfer) j.there) j.sort j.held).descriptor in
      subst (SlotHas (slot_of (driver_next w).driver.book.slots b)) (sym (own_block i small))
      (subst (λ (c : ℕ). SlotHas (slot_of (driver_next w).driver.book.slots c) c) (sym from.first)
      (has_first (holding (driver_next w).driver.book (driver_next w).memory) j.transfer.first later.sound.stands run))

  no_mend : (m : Mend) → driver_row (driver_parts w) ≡ rows.Mend m → m.queue ≢ b
  no_mend m is same =
      not_mended mixed.standing w mixed.mixed j.number from.transfer from.here from.descriptor from.held
      (record { mend = m; row = is; queue = same })

  word : (i : ℕ) → 1 ≤ i → i < 7 → word_at (driver_next w).memory (32 * b + 4 * i) ≡ word_at w.memory (32 * b + 4 * i)
  word i some small =
      let sound = place.sound in
      let o = sound.owners.owned.each.described j.number (runs_of_transfer from.transfer)
      (ap (option_map runs_of_transfer) from.here) from.descriptor from.held in
      row_leaves p b j.number i ((views_of w.driver).descriptor b).split sound.stands sound.shape sound.owners sound.ring
      (list_apart w.driver w.memory sound.stands sound.shape sound.owners sound.listed) o.descriptor (inside i small) some (driver_row p)
      (each_event_is_due p) no_mend (inside_then i small)

  pub was_first : before.transfer.first ≡ j.transfer.first
  unfolding before
  was_first = from.first

  pub was_number : before.number ≡ j.number
  unfolding before
  was_number = refl

  pub was_word : (i : ℕ) → 1 ≤ i → i < 7
      → word_at (driver_next w).memory (32 * before.transfer.first + 4 * i) ≡ word_at w.memory (32 * before.transfer.first + 4 * i)
  unfolding before
  was_word i some small = word i some small

  of_before : (v : Sitd) → HaveSitdFields v of.endpoint.desc j.placement → HaveSitdFields v j.endpoint.desc j.placement
  of_before v h = subst (λ (x : EpDesc). HaveSitdFields v x j.placement) (ap (λ (s : Seen). s.desc) of.same) h

  in_memory : HaveSitdFields (sitd_in (driver_next w).memory j.transfer.first) j.endpoint.desc j.placement
  unfolding of before
  in_memory =
      let h = old.fields before in
      let stored : HaveSitdFields (sitd_in (driver_next w).memory b) of.endpoint.desc j.placement
      = record { classic = h.classic; has = words_stay _ _ _ _ w.memory (driver_next w).memory b word h.has } in
      subst (λ (c : ℕ). HaveSitdFields (sitd_in (driver_next w).memory c) j.endpoint.desc j.placement) from.first
      (of_before (sitd_in (driver_next w).memory b) stored)

pub driver_keeps_sitds : DriverKeepsSitds
unfolding before of from
driver_keeps_sitds w mixed old = record {
  fields = λ j. in_memory w mixed old j;
  hand = λ j h on is at.
      of_before w mixed old j h.sitd (old.hand (before w mixed old j) h on is
      (at ∙ ap (λ (c : ℕ). 32 * c) (sym (from w mixed old j).first)));
}
