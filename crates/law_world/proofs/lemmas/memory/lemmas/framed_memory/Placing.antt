-- An endpoint without a queue comes: what memory has for the driver is told as before.
use Rattle.std.proofs.Common.{◌≡◌, ℕ, zero, suc, ◌*◌, ◌||◌, false, true, length, Option, Some, ap, sym, ⊎_elim, ◌∙◌}
use Rattle.std.proofs.lemmas.Bool.{false≢true}
use Rattle.law_common.proofs.Lists.{pushed_there}
use Rattle.usb_base.specs.declared.endpoints.EpDesc.{EpDesc}
use Rattle.bandwidth.specs.declared.placements.Placement.{Placement}
use Rattle.drv_table.specs.declared.content.Endpoint.{Endpoint}
use Rattle.drv_table.specs.DriverContent.{DriverContent}
use Rattle.drv_table.specs.Kinds.{is_iso}
use Rattle.drv_table.specs.Offers.{placed_endpoint, accepted_iso}
use Rattle.claims_driver.specs.Owners.{EndpointRuns, TransferRuns, Views, runs_of_endpoint, endpoint_in, views_of, IsQueueIn}
use Rattle.law_driver.proofs.lemmas.run_owners.Accepted.{push_case}
use Rattle.law_structures.specs.lent_structures.Structures.{StructureSets}
use Rattle.law_driver_ring.specs.Inventory.{Sort, Inventory, AreTold, IsTransferIn, IsDriverOwned, the_list, the_head, a_queue, a_dummy, a_piece, a_buffer, IsDriven}
use Rattle.law_driver_ring.specs.Extents.{AreInRuns}

module _ (d : DriverContent) (x : EpDesc) (p : Placement) (iso : is_iso x.kind ≡ true) where
  abbrev y : Endpoint
  y = placed_endpoint x p 0 0

  abbrev v : Views
  v = views_of d

  abbrev w : Views
  w = views_of (accepted_iso d x p)

  queue_back : (e : ℕ) (r : EndpointRuns) → IsQueueIn w e r → IsQueueIn v e r
  queue_back e r is =
      ⊎_elim (λ (old : endpoint_in d.endpoints e ≡ Some r). record { here = old; queued = is.queued })
      (λ (new : (e ≡ length d.endpoints) × (r ≡ runs_of_endpoint y)).
      absurd (false≢true (sym is.queued ∙ ap (λ (k : EndpointRuns). k.bare) new.1 ∙ ap (λ b. b || false) iso)))
      (push_case runs_of_endpoint d.endpoints y e r is.here)

  queue_on : (e : ℕ) (r : EndpointRuns) → IsQueueIn v e r → IsQueueIn w e r
  queue_on e r is = record { here = pushed_there runs_of_endpoint d.endpoints y e r is.here; queued = is.queued }

  transfer_back : (t : ℕ) (z : TransferRuns) (r : EndpointRuns) → IsTransferIn w t z r → IsTransferIn v t z r
  transfer_back t z r is = record { here = is.here; held = is.held; qtds = is.qtds; queue = queue_back z.endpoint r is.queue }

  transfer_on : (t : ℕ) (z : TransferRuns) (r : EndpointRuns) → IsTransferIn v t z r → IsTransferIn w t z r
  transfer_on t z r is = record { here = is.here; held = is.held; qtds = is.qtds; queue = queue_on z.endpoint r is.queue }

  told_on : (sorts : ℕ → Option Sort) (b n : ℕ) → AreTold v sorts b n → AreTold w sorts b n
  told_on sorts b zero told = tt
  told_on sorts b (suc n) told = (record { element = told.0.element; buffer = told.0.buffer }, told_on sorts (v.note b).next n told.1)

  owned_on : (n a : ℕ) (s : Sort) → IsDriverOwned v n a s → IsDriverOwned w n a s
  owned_on _ _ _ the_list = the_list
  owned_on _ _ _ the_head = the_head
  owned_on _ _ _ (a_queue e r is lent) = a_queue e r (queue_on e r is) lent
  owned_on _ _ _ (a_dummy e r is lent) = a_dummy e r (queue_on e r is) lent
  owned_on _ _ _ (a_piece t b z r is piece lent) = a_piece t b z r (transfer_on t z r is) piece lent
  owned_on _ _ _ (a_buffer t b c cs z r is piece first lent) = a_buffer t b c cs z r (transfer_on t z r is) piece first lent

  pub placed_driven : (sorts : Inventory) → IsDriven v sorts → IsDriven w sorts
  placed_driven sorts k = record {
    list = k.list;
    head = k.head;
    queue = λ e r is lent. k.queue e r (queue_back e r is) lent;
    dummy = λ e r is lent. k.dummy e r (queue_back e r is) lent;
    pieces = λ t z r is. told_on (sorts (32 * r.queue)) z.first z.qtds (k.pieces t z r (transfer_back t z r is));
    only = λ n a s there. owned_on n a s (k.only n a s there);
  }

  pub placed_extents : (parts : StructureSets) → AreInRuns v parts → AreInRuns w parts
  placed_extents parts k = record {
    list = k.list;
    buffers = λ t b c cs z r pages i bs is piece first here j has. k.buffers t b c cs z r pages i bs (transfer_back t z r is) piece first here j has;
  }
