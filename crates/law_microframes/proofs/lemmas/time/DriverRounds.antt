-- A round of the ring goes on with each event of the driver, by which row it is.
use Rattle.std.proofs.Common.{◌≡◌, ℕ, false, slice_get, List, Some, ⊎_elim, refl, sym, subst, ◌∙◌}
use Rattle.mem_runs.specs.Book.{store}
use Rattle.drv_table.specs.declared.content.Command.{Command}
use Rattle.drv_table.specs.declared.content.Command.TheVariants as unfinished
use Rattle.drv_table.specs.declared.rows.DriverRow.{DriverRow}
use Rattle.drv_table.specs.declared.rows.DriverRow.TheVariants as rows
use Rattle.drv_table.specs.DriverContent.{DriverContent}
use Rattle.drv_table.specs.Parts.{Parts}
use Rattle.drv_table.specs.Commands.{events_of, advance}
use Rattle.drv_table.specs.Rows.{driver_row, after_driver_row}
use Rattle.law_driver.specs.run_owners.Due.{IsDue, IsNextOf, IsLinkOf}
use Rattle.claims_driver.specs.Leaving.{HasOwners}
use Rattle.law_driver.proofs.lemmas.run_owners.Laws.{events_keep_owners}
use Rattle.law_driver.proofs.lemmas.run_owners.Reasons.{each_event_is_due}
use Rattle.law_driver.specs.in_place.InPlace.{IsSound}
use Rattle.law_driver.proofs.lemmas.ring_members.Events.{chain_never, iso_never, unchain_never}
use Rattle.law_driver_ring.proofs.lemmas.walk_members.Driving.{Reaches, row_reach}
use Rattle.law_world.proofs.lemmas.steps.lemmas.controlled_walks.Worlds.{driver_keeps_walking}
use Rattle.bus_world.specs.World.{World, driver_parts, driver_next}
use Rattle.law_world.specs.memory.Mixed.{Standing, IsMixedAt}
use Rattle.law_microframes.specs.time.Heights.{LinksFall}
use Rattle.law_microframes.specs.time.Rounds.{RoundsGoOn}
use Rattle.law_microframes.specs.time.RoundLaws.{EachRowKeepsRounds}
use Rattle.law_microframes.proofs.lemmas.time.ReachedBefore.{advance_back, row_back}
use Rattle.law_microframes.proofs.lemmas.time.RingWords.{publish_words, link_words, is_store, other_words}
use Rattle.law_microframes.proofs.lemmas.time.LinksFalling.{falls_on, same_links, behind_on}
use Rattle.law_microframes.proofs.lemmas.time.RingSteps.{open_falls, unlink_falls}

module _ (s : Standing) (w : World) (vs : List ℕ) (k : IsMixedAt s w) (v : RoundsGoOn w vs) where
  abbrev p : Parts
  p = driver_parts w

  abbrev d : DriverContent
  d = w.driver

  abbrev height : ℕ → ℕ
  height = v.height

  sound : IsSound w.memory w.driver
  sound = k.now.framed.place.sound

  -- links still lead down with the same heights
  abbrev FallsBy : DriverRow → Type 0
  FallsBy row = LinksFall (after_driver_row row (driver_parts w)).memory (after_driver_row row (driver_parts w)).driver (after_driver_row row (driver_parts w)).registers.doorbell v.height

  -- ---- a store

  store_falls : (c : Command) (b at x : ℕ) → w.driver.command ≡ Some c → slice_get (events_of c) w.driver.made ≡ Some (rows.Store b at x) → FallsBy (rows.Store b at x)
  store_falls (unfinished.Open q) b at x is next = open_falls p w.registers.doorbell sound v.height v.links_fall q b at x is next
  store_falls (unfinished.Publish f words) b at x is next =
      falls_on w.memory (store d.book w.memory b at x) d (advance d) w.registers.doorbell w.registers.doorbell v.height v.links_fall (advance_back d w.registers.doorbell)
      (same_links w.memory (store d.book w.memory b at x) (advance d) w.registers.doorbell
      (λ q reached. publish_words p w.registers.doorbell f words b at x q is next sound (advance_back d w.registers.doorbell q reached)))
  store_falls (unfinished.Unlink e f link) b at x is next = unlink_falls p w.registers.doorbell sound v.height v.links_fall e f link b at x is next
  store_falls unfinished.Chain b at x is next = absurd (chain_never w.driver.made b at x next)
  store_falls (unfinished.Iso e t count) b at x is next = absurd (iso_never e t count w.driver.made b at x next)
  store_falls (unfinished.Unchain e) b at x is next = absurd (unchain_never e w.driver.made b at x next)

  link_falls : (b at x : ℕ) → IsLinkOf (driver_parts w) (rows.Store b at x) → FallsBy (rows.Store b at x)
  link_falls b at x why =
      falls_on w.memory (store d.book w.memory b at x) d (advance d) w.registers.doorbell w.registers.doorbell v.height v.links_fall (advance_back d w.registers.doorbell)
      (same_links w.memory (store d.book w.memory b at x) (advance d) w.registers.doorbell
      (λ q reached. link_words p w.registers.doorbell b at x q why sound (advance_back d w.registers.doorbell q reached)))

  -- ---- any other row

  other_falls : (row : DriverRow) → driver_row (driver_parts w) ≡ row → is_store row ≡ false → IsDue (driver_parts w) row → FallsBy row
  other_falls row is other due =
      let new : Parts = after_driver_row row p in
      let owners : HasOwners new.driver = subst (λ (r : DriverRow). HasOwners (after_driver_row r p).driver) is (events_keep_owners p sound.owners) in
      falls_on w.memory new.memory d new.driver w.registers.doorbell new.registers.doorbell v.height v.links_fall (row_back row p due k.walking.bell)
      (same_links w.memory new.memory new.driver new.registers.doorbell (other_words row p other due sound k.walking.bell owners))

  by_row : (row : DriverRow) → driver_row (driver_parts w) ≡ row → IsDue (driver_parts w) row → FallsBy row
  by_row (rows.Store b at x) is due =
      ⊎_elim (λ (next : IsNextOf (driver_parts w) (rows.Store b at x)). store_falls next.command b at x next.unfinished next.next)
      (λ (why : IsLinkOf (driver_parts w) (rows.Store b at x)). link_falls b at x why) due
  by_row row is due = other_falls row is refl due

  address : (driver_next w).registers.async_list_address ≡ w.registers.async_list_address
  address = (driver_keeps_walking w k.walking).walk.start ∙ sym k.walking.walk.start

  pub row_rounds : (row : DriverRow) → driver_row (driver_parts w) ≡ row → RoundsGoOn (driver_next w) vs
  row_rounds row is =
      let due : IsDue (driver_parts w) row = subst (IsDue (driver_parts w)) is (each_event_is_due (driver_parts w)) in
      let reach : Reaches d w.registers.doorbell (driver_next w).driver (driver_next w).registers.doorbell
      = subst (λ (r : DriverRow). Reaches d w.registers.doorbell (after_driver_row r p).driver (after_driver_row r p).registers.doorbell) (sym is) (row_reach row p due k.walking.bell) in
      record {
        height = v.height;
        links_fall = subst (λ (r : DriverRow). FallsBy r) (sym is) (by_row row is due);
        behind = behind_on d (driver_next w).driver v.height w.registers (driver_next w).registers w.control.walk vs v.behind address reach;
      }

pub each_row_keeps_rounds : EachRowKeepsRounds
each_row_keeps_rounds row s w vs k v is = row_rounds s w vs k v row is
