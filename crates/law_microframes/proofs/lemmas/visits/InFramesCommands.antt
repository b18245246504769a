-- A command takes no queue head that may be met, or was visited, for that of another endpoint, nor changes its placement: a new queue head is none of those.
use Rattle.std.proofs.Common.{◌≡◌, ◌≢◌, ℕ, ◌*◌, ◌⊎◌, inl, inr, true, false, slice_get, Option, Some, None, Ok, ap, refl, sym, subst, ◌∙◌, ⊎_elim}
use Rattle.usb_base.specs.declared.commands.Cmd.{Cmd}
use Rattle.usb_base.specs.declared.commands.Cmd.TheVariants as commands
use Rattle.usb_base.specs.declared.endpoints.EpDesc.{EpDesc}
use Rattle.drv_periodic_table.specs.declared.content.Removal.{Removal}
use Rattle.drv_periodic_table.specs.declared.content.Removed.{Removed}
use Rattle.drv_table.specs.declared.content.Transfer.{Transfer}
use Rattle.drv_table.specs.DriverContent.{DriverContent}
use Rattle.drv_table.specs.Accepting.{Offered}
use Rattle.drv_table.specs.Offers.{offered}
use Rattle.claims_driver.specs.Owners.{is_descriptor}
use Rattle.claims_driver.specs.Leaving.{HasOwners}
use Rattle.law_admission.specs.Budgets.{Account, account_of}
use Rattle.law_admission.proofs.Commands.{commands_place_the_best}
use Rattle.law_driver.specs.planned_endpoints.Planned.{IsPlanned}
use Rattle.law_driver.proofs.lemmas.planned_endpoints.Laws.{commands_keep_the_plan}
use Rattle.law_driver.proofs.lemmas.queued_drivers.CommandReasons.{IsNew, in_ring, in_frames, bare, IsReasonOf, reason_of}
use Rattle.law_frames.specs.Met.{Kind, AQueue, AnItd, ASitd}
use Rattle.law_descriptors.specs.Meeting.{standing, or_recent, met}
use Rattle.law_descriptors.specs.Removed.{IsRemovedAt, a_descriptor, a_queue, a_waiting, IsRemovedSince, IsUnchainedNow}
use Rattle.law_descriptors.specs.Recent.{AreRecent}
use Rattle.law_descriptors.proofs.Returning.{none_some}
use Rattle.law_budgets.specs.visit_prices.Spent.{IsAmong}
use Rattle.bus_world.specs.World.{World}
use Rattle.law_world.specs.memory.Mixed.{Standing, IsMixedAt}
use Rattle.law_microframes.specs.visits.Belonging.{placed_of, IsQueueAt, IsStillAt, IsDescriptorAt, IsHarvestedAt}
use Rattle.law_microframes.proofs.lemmas.visits.BelongSeen.{seen_in}
use Rattle.law_microframes.proofs.lemmas.visits.BelongQueues.{queue_by, queue_belongs, removed_held, removed_kept, removed_frames, waiting_held}
use Rattle.law_microframes.proofs.lemmas.visits.BelongDescriptors.{descriptor_belongs}
use Rattle.law_microframes.proofs.lemmas.visits.BelongKeeps.{stays_in, queue_stays}
use Rattle.law_microframes.proofs.lemmas.visits.BelongCommands.{taken_same, described_same, left_same, accepted_belongs}
use Rattle.law_microframes.proofs.lemmas.visits.InFrames.{one_number, one_placed, no_transfer}

-- ---- whose run begins there

-- a descriptor with a run
record HasDescriptorAt (d : DriverContent) (n : ℕ) : Type 0 where
  number : ℕ
  transfer : Transfer
  there : slice_get d.transfers number ≡ Some transfer
  sort : is_descriptor transfer.sort ≡ true
  held : transfer.released ≡ false
  name : n ≡ 32 * transfer.first

abbrev IsHis : DriverContent → ℕ → Type 0
IsHis d n = IsQueueAt d n ⊎ HasDescriptorAt d n

module _ (s : Standing) (w : World) (k : IsMixedAt s w) (n : ℕ) where
  has : HasOwners w.driver
  has = k.now.framed.place.sound.owners

  no_queue : (kind : Kind) → met w.driver s.recent n ≡ Some kind → kind ≢ AQueue → IsHis w.driver n
  no_queue kind is other =
      ⊎_elim (λ (x : IsDescriptorAt w.driver n). inr (record { number = x.number; transfer = x.transfer; there = x.there; sort = x.sort; held = x.held; name = x.name }))
      (λ (x : IsHarvestedAt w.driver n). inr (record { number = x.number; transfer = x.transfer; there = x.there; sort = x.sort; held = x.held; name = x.name }))
      (descriptor_belongs s w n kind k is other)

  his_now : (kind : Kind) → met w.driver s.recent n ≡ Some kind → IsHis w.driver n
  his_now AQueue is = inl (queue_belongs s w n k is)
  his_now AnItd is = no_queue AnItd is (λ same. cc)
  his_now ASitd is = no_queue ASitd is (λ same. cc)

  his_removed : (i : ℕ) (r : Removal) (what : Removed) → slice_get w.driver.periodic.removals i ≡ Some r → r.what ≡ what → IsRemovedAt w.driver.endpoints w.driver.transfers n what → IsHis w.driver n
  his_removed i r _ at is (a_descriptor t y there name) =
      let h = removed_held w.driver has t y i r there at is in inr (record { number = t; transfer = y; there = there; sort = h.1.1; held = h.1.0; name = name })
  his_removed i r _ at is (a_queue e x there queue name) =
      inl (queue_by w.driver has k.now.planned n e x there (removed_kept w.driver has e x i r there at is) (removed_frames w.driver has e x i r there at is) queue name)
  his_removed i r _ at is (a_waiting e t x y in_list iso there sort waits name) =
      inr (record { number = t; transfer = y; there = there; sort = sort; held = waiting_held w.driver has e t x y in_list (removed_kept w.driver has e x i r in_list at is) there waits; name = name })

  module _ (left : ℕ → Option Kind) (are : AreRecent w.driver w.registers.frame_index left) (idle : w.driver.command ≡ None) where
    his : (kind : Kind) → met w.driver left n ≡ Some kind → IsHis w.driver n
    his kind is = by (standing w.driver n) refl is
      where
        by : (o : Option Kind) → standing w.driver n ≡ o → or_recent o (left n) ≡ Some kind → IsHis w.driver n
        by (Some one) stood on = his_now one (ap (λ (o : Option Kind). or_recent o (s.recent n)) stood)
        by None none on =
            ⊎_elim (λ (since : IsRemovedSince w.driver.endpoints w.driver.transfers w.driver.periodic.removals w.registers.frame_index n).
            his_removed since.place since.removal since.removal.what since.here refl since.what)
            (λ (now : IsUnchainedNow w.driver.endpoints w.driver.transfers w.driver.command n). absurd (none_some _ (sym idle ∙ now.command))) (are n kind on)

-- ---- an endpoint is opened

new_idle : (w : World) (o : Offered) (x : EpDesc) → IsNew w.driver w.memory o x → w.driver.command ≡ None
new_idle w o x (in_ring why same) = why.idle
new_idle w o x (in_frames why same) = why.idle
new_idle w o x (bare why same) = why.idle

new_transfers : (w : World) (o : Offered) (x : EpDesc) → IsNew w.driver w.memory o x → o.driver.transfers ≡ w.driver.transfers
new_transfers w o x (in_ring why same) = ap (λ (g : Offered). g.driver.transfers) why.is
new_transfers w o x (in_frames why same) = ap (λ (g : Offered). g.driver.transfers) why.is
new_transfers w o x (bare why same) = ap (λ (g : Offered). g.driver.transfers) why.is

module _ (s : Standing) (w : World) (k : IsMixedAt s w) (left : ℕ → Option Kind) (are : AreRecent w.driver w.registers.frame_index left) where
  opened_back : (x : EpDesc) (o : Offered) → offered w.driver w.memory (commands.OpenEp x) ≡ Ok o → HasOwners o.driver → IsNew w.driver w.memory o x
      → (n : ℕ) (kind : Kind) → met w.driver left n ≡ Some kind → (b : IsQueueAt o.driver n) → IsStillAt b w.driver
  opened_back x o is after why n kind on b =
      let cmd : Cmd = commands.OpenEp x in
      ⊎_elim
      (λ (old : IsQueueAt w.driver n).
      let later : IsPlanned o.driver = commands_keep_the_plan w.driver w.memory cmd o k.now.planned is in
      let still : IsStillAt old o.driver = queue_stays w.driver o.driver n old (accepted_belongs w cmd o n later is old.belongs why) in
      record {
        still = old;
        number = sym still.number ∙ one_number o.driver after n still.still b;
        placed = sym still.placed ∙ one_placed o.driver after n still.still b;
      })
      (λ (y : HasDescriptorAt w.driver n).
      absurd (no_transfer o.driver after n b y.number y.transfer (ap (λ ts. slice_get ts y.number) (new_transfers w o x why) ∙ y.there) y.sort y.held y.name))
      (his s w k n left are (new_idle w o x why) kind on)

  -- the endpoints are seen as they were, and the plan is the same
  same_seen : (o : Offered) → account_of o.driver ≡ account_of w.driver → ((i : ℕ) → seen_in o.driver.endpoints i ≡ seen_in w.driver.endpoints i) → (n : ℕ) (b : IsQueueAt o.driver n) → IsStillAt b w.driver
  same_seen o plan same n b =
      queue_stays o.driver w.driver n b
      (stays_in o.driver w.driver n b.belongs k.now.planned (sym (same b.belongs.number)) (subst (λ (a : Account). IsAmong a.plan.placed (placed_of b.belongs)) plan b.belongs.planned))

  by_reason : (cmd : Cmd) (o : Offered) → offered w.driver w.memory cmd ≡ Ok o → HasOwners o.driver → IsReasonOf w.driver w.memory o cmd
      → (n : ℕ) (kind : Kind) → met w.driver left n ≡ Some kind → (b : IsQueueAt o.driver n) → IsStillAt b w.driver
  by_reason (commands.OpenEp x) o is after why n kind on b = opened_back x o is after why n kind on b
  by_reason (commands.Get name len by) o is after why n kind on b =
      same_seen o (commands_place_the_best w.driver w.memory (commands.Get name len by) o is) (taken_same w.driver w.memory o name _ _ why)
      n b
  by_reason (commands.Put name bytes by) o is after why n kind on b =
      same_seen o (commands_place_the_best w.driver w.memory (commands.Put name bytes by) o is)
      (taken_same w.driver w.memory o name _ _ why) n b
  by_reason (commands.Control name setup bytes) o is after why n kind on b =
      same_seen o (commands_place_the_best w.driver w.memory (commands.Control name setup bytes) o is) (taken_same w.driver w.memory o name _ _ why) n b
  by_reason (commands.Iso name count len seed) o is after why n kind on b =
      same_seen o (commands_place_the_best w.driver w.memory (commands.Iso name count len seed) o is) (described_same w.driver w.memory o why) n b
  by_reason (commands.Cancel name) o is after why n kind on b =
      same_seen o (commands_place_the_best w.driver w.memory (commands.Cancel name) o is) (left_same w.driver w.memory o name why) n b
  by_reason _ o is after why n kind on b = absurd why

  pub command_back : (cmd : Cmd) (o : Offered) → offered w.driver w.memory cmd ≡ Ok o → HasOwners o.driver
      → (n : ℕ) (kind : Kind) → met w.driver left n ≡ Some kind → (b : IsQueueAt o.driver n) → IsStillAt b w.driver
  command_back cmd o is after = by_reason cmd o is after (reason_of w.driver w.memory cmd o is)
