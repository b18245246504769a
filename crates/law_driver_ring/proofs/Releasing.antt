-- A transfer's blocks are given back.
use Rattle.std.proofs.Common.{◌≡◌, ◌≢◌, ℕ, ◌*◌, true, false, List, set, Option, Some, option_map, ap, refl, sym, subst, ◌∙◌, ⊎_elim, inl, inr}
use Rattle.std.proofs.lemmas.Bool.{cases_eq, true≢false}
use Rattle.std.proofs.lemmas.Option.{same_Some}
use Rattle.law_common.proofs.Lists.{set_here, set_there}
use Rattle.word_mem.proofs.Holders.{has_block_from}
use Rattle.async_walk.specs.Rows.{place}
use Rattle.mem_runs.specs.Book.{Holding, holding, slot_of, Stands}
use Rattle.mem_runs.specs.declared.slots.Slot.{Slot}
use Rattle.drv_table.specs.declared.content.Transfer.{Transfer}
use Rattle.drv_table.specs.Parts.{Parts as DriverParts}
use Rattle.drv_table.specs.Releases.{free_runs, free_qtds, freed_by, after_transfer}
use Rattle.drv_table.specs.Rows.{after_driver_row}
use Rattle.claims_driver.specs.Owners.{SlotHas, EndpointRuns, TransferRuns, runs_of_transfer, transfer_in, note_in, Views, views_of}
use Rattle.claims_driver.specs.Leaving.{HasOwners}
use Rattle.law_driver.proofs.lemmas.run_owners.Apart.{runs_apart}
use Rattle.law_driver.proofs.lemmas.run_owners.Freeing.{runs_freed}
use Rattle.law_structures.specs.lent_structures.Structures.{StructureSets, Tells}
use Rattle.law_ring.specs.Fewer.{without_those}
use Rattle.law_ring.proofs.Returning.{returns_leave_ring, fewer_are_told}
use Rattle.law_driver_ring.specs.Inventory.{sorts_of, IsLent, IsTransferIn, IsDriven}
use Rattle.law_driver_ring.specs.Driven.{DrivesRing}
use Rattle.law_driver_ring.specs.Extents.{AreInRuns}
use Rattle.law_driver_ring.specs.Released.{blocks_of, goes_of, IsToGo, release_row, ReleaseDrives}
use Rattle.law_driver_ring.proofs.Blocks.{all_one, all_mine, none_mine, mine, qtds_are_runs}
use Rattle.law_driver_ring.proofs.Freeing.{IsLess, runs_less, HaveNone, all_told}
use Rattle.law_driver_ring.proofs.Homes.{home}
use Rattle.law_driver_ring.proofs.ReleaseOwning.{TransferGoes, stays, driven_without, extents_without}

lent_before : (now s : Slot) → IsLess now s → IsLent now → IsLent s
lent_before now s (inl same) lent = subst IsLent same lent
lent_before now s (inr empty) lent = absurd (subst IsLent empty lent)

module _ (p : DriverParts) (t : ℕ) (y : Transfer) (x : EndpointRuns) (go : IsToGo p.driver t y x) (owners : HasOwners p.driver) where
  abbrev before : Holding
  before = holding p.driver.book p.memory

  abbrev blocks : List ℕ
  blocks = blocks_of (note_in p.driver.notes) y.first y.qtds

  abbrev freed : Holding
  freed = free_qtds p.driver.notes before y.first y.qtds

  abbrev after : DriverParts
  after = after_driver_row (release_row t) p

  freed_is : freed ≡ free_runs before blocks
  freed_is = qtds_are_runs p.driver.notes before y.first y.qtds

  after_is : after ≡ after_transfer p t (Some y) freed
  after_is = ap (λ (o : Option Transfer). after_transfer p t o (freed_by p.driver before o)) go.here

  transfer_is : IsTransferIn (views_of p.driver) t (runs_of_transfer y) x
  transfer_is = record { here = ap (option_map runs_of_transfer) go.here; held = go.held; qtds = go.qtds; queue = go.queue }

  abbrev views_now : Views
  views_now = views_of (after_transfer p t (Some y) freed).driver

  other_ones : (u : ℕ) → u ≢ t → transfer_in (set p.driver.transfers t (record y { released = true })) u ≡ transfer_in p.driver.transfers u
  other_ones u differs = ap (option_map runs_of_transfer) (set_there p.driver.transfers t u (record y { released = true }) differs)

  none_held : (z : TransferRuns) → transfer_in (set p.driver.transfers t (record y { released = true })) t ≡ Some z → z.released ≡ false → ⊥
  none_held z there off =
      let is : runs_of_transfer (record y { released = true }) ≡ z = same_Some (runs_of_transfer (record y { released = true })) z (sym (ap (option_map runs_of_transfer) (set_here p.driver.transfers t y (record y { released = true }) go.here)) ∙ there) in
      true≢false (ap (λ (r : TransferRuns). r.released) is ∙ off)

  goes : TransferGoes (views_of p.driver) views_now owners.owner t (runs_of_transfer y) x
  goes = record {
    owned = owners.owned.each;
    here = transfer_is;
    slots = λ c lent.
        lent_before (slot_of (free_runs before blocks).book.slots c) (slot_of p.driver.book.slots c) (runs_less before blocks c) (subst (λ (g : Holding). IsLent (slot_of g.book.slots c)) freed_is lent);
    kept = λ c off.
        ap (λ (g : Holding). slot_of g.book.slots c) freed_is
        ∙ runs_freed before blocks c (none_mine owners.owner t c blocks off (all_mine (slot_of p.driver.book.slots) owners.owner (note_in p.driver.notes) t y.first y.qtds (owners.owned.each.pieces t (runs_of_transfer y) transfer_is.here go.held)));
    endpoints = λ e. refl;
    notes = λ b. refl;
    gone = λ u z there off.
        ⊎_elim (λ (same : u ≡ t). absurd (none_held z (ap (transfer_in (set p.driver.transfers t (record y { released = true }))) (sym same) ∙ there) off))
        (λ (differs : u ≢ t). (differs, sym (other_ones u differs) ∙ there)) (cases_eq u t);
    others = other_ones;
  }

  none_there : (parts : StructureSets) → Stands before → AreInRuns (views_of p.driver) parts → IsDriven (views_of p.driver) (sorts_of parts) → HaveNone before (without_those parts (32 * x.queue) (goes_of p.driver y)) blocks
  none_there parts stands lies driven c r among is n a u k found has inside =
      let h = home before (views_of p.driver) owners.owner parts t (runs_of_transfer y) x (λ i. refl) stands owners.owned.each lies transfer_is n a u k driven found has in
      let here : mine t (owners.owner c) ≡ true = all_one (λ i. mine t (owners.owner i) ≡ true) blocks c (all_mine (slot_of p.driver.book.slots) owners.owner (note_in p.driver.notes) t y.first y.qtds (owners.owned.each.pieces t (runs_of_transfer y) transfer_is.here go.held)) among in
      runs_apart before h.at c k stands (λ same. true≢false (sym here ∙ ap (λ (i : ℕ). mine t (owners.owner i)) same ∙ h.other)) h.has (subst (λ (s : Slot). SlotHas s k) (sym is) (has_block_from r k inside.from inside.below))

pub release_drives : ReleaseDrives
release_drives base member parts hand w p t y x drives owners stands lies go may =
    let n = 32 * x.queue in
    let goes_now = goes_of p.driver y in
    let now = without_those parts n goes_now in
    let view = goes p t y x go owners in
    let all = all_told (holding p.driver.book p.memory) now (blocks_of (note_in p.driver.notes) y.first y.qtds) (none_there p t y x go owners parts stands lies drives.driven)
    (record { stands = stands; told = fewer_are_told p.memory parts n goes_now drives.ring.tells }) in
    let off : goes_now n ≡ false = stays (views_of p.driver) (views_now p t y x go owners) owners.owner t (runs_of_transfer y) x view parts x.queue
    (ap (mine t) (owners.owned.each.queue y.endpoint x go.queue.here go.queue.queued).owned) in
    subst (λ (q : DriverParts). DrivesRing base member now hand (place w q.registers q.memory) q.driver × AreInRuns (views_of q.driver) now) (sym (after_is p t y x go owners)) (
      record {
        ring = returns_leave_ring base member parts hand (place w p.registers p.memory) n goes_now (freed p t y x go owners).memory drives.ring off may
            (subst (λ (g : Holding). Tells g.memory now) (sym (freed_is p t y x go owners)) all.told);
        driven = driven_without (views_of p.driver) (views_now p t y x go owners) owners.owner t (runs_of_transfer y) x view parts drives.driven;
      },
      extents_without (views_of p.driver) (views_now p t y x go owners) owners.owner t (runs_of_transfer y) x view parts lies,
    )
