-- Of a descriptor that the walk of the frames may meet, and of which something is active after an event of the driver or a command, it was so before: of the same endpoint, in the same frame.
use Rattle.std.proofs.Common.{◌≡◌, ℕ, ◌*◌, ◌<◌, ◌≤◌, true, List, length, slice_get, Some, ⊎_elim, refl, ap, sym, subst, ◌∙◌, arith}
use Rattle.std.specs.Prelude.{is_none, Ok}
use Rattle.std.proofs.lemmas.Bool.{false≢true}
use Rattle.std.proofs.lemmas.Option.{slice_get_within}
use Rattle.law_common.proofs.Booleans.{either_if}
use Rattle.usb_base.specs.declared.commands.Cmd.{Cmd}
use Rattle.word_mem.specs.Memory.{Mem}
use Rattle.mem_runs.specs.Book.{slot_of}
use Rattle.qh_qtd.specs.declared.queue_head.Qh.{Qh}
use Rattle.drv_periodic_table.specs.Periodic.{note_at}
use Rattle.drv_table.specs.declared.content.Command.TheVariants as unfinished
use Rattle.drv_table.specs.declared.content.Transfer.{Transfer}
use Rattle.drv_table.specs.DriverContent.{DriverContent}
use Rattle.drv_table.specs.Commands.{finished}
use Rattle.drv_table.specs.Accepting.{Offered}
use Rattle.drv_table.specs.Offers.{offered, new_transfer}
use Rattle.drv_table.specs.CancelOffers.{endpoint_members, with_cancel}
use Rattle.claims_driver.specs.LentRuns.{IsLent}
use Rattle.law_driver.specs.run_owners.Accepts.{Accepts, opens, chains, places, transfers, describes, cancels, unchains, Transfers, Unchains}
use Rattle.claims_driver.specs.Owners.{is_descriptor}
use Rattle.claims_driver.specs.DueMembers.{framed_to}
use Rattle.law_structures.specs.lent_structures.Structures.{QueueHead}
use Rattle.law_frames.specs.Met.{Kind}
use Rattle.law_descriptors.specs.Both.{both}
use Rattle.law_descriptors.specs.ListRows.{HasPart}
use Rattle.law_descriptors.specs.Meeting.{met}
use Rattle.bus_world.specs.World.{World, driver_next}
use Rattle.law_world.specs.memory.framed_memory.Isochronous.{AreAwaiting}
use Rattle.law_world.specs.memory.Mixed.{Standing, IsMixedAt}
use Rattle.law_world.proofs.lemmas.memory.lemmas.framed_memory.TakenOn.{commands_keep_awaiting}
use Rattle.law_microframes.specs.visits.OneDescriptor.{IsActiveDescriptor, IsActiveTransfer, WasActive}
use Rattle.law_microframes.proofs.lemmas.visits.OneDescriptor.{lent_framed}
use Rattle.law_microframes.proofs.lemmas.visits.OneDescriptorRows.{done_transfers}
use Rattle.law_microframes.proofs.lemmas.visits.OneDescriptorWorlds.{driver_starts_none}
use Rattle.law_microframes.proofs.lemmas.visits.OneDescriptorOffered.{either_pushed, by_accept}
use Rattle.law_microframes.proofs.lemmas.visits.BelongQueues.{no_descriptor_there}
use Rattle.law_microframes.proofs.lemmas.visits.ActiveStands.{met_is_lent, part_is_lent}

pub is_transfer : (d : DriverContent) (m : Mem) (e f n : ℕ) → (a : IsActiveDescriptor d m e f n) → IsActiveTransfer d m a.number a.transfer
is_transfer d m e f n a = record { here = a.here; descriptor = a.descriptor; held = a.held; active = a.active }

module _ (s : Standing) (w : World) (k : IsMixedAt s w) where
  was_at : (new : DriverContent) (mem : Mem) (e f n : ℕ) (a : IsActiveDescriptor new mem e f n) (was : WasActive w.driver w.memory new a.number a.transfer) → n ≡ 32 * was.transfer.first
  was_at new mem e f n a was = a.at ∙ ap (λ (b : ℕ). 32 * b) (sym was.first)

  -- what is lent has its frame, which stays
  was_lent : (new : DriverContent) (mem : Mem) (e f n : ℕ) (a : IsActiveDescriptor new mem e f n) (was : WasActive w.driver w.memory new a.number a.transfer)
      → IsLent (slot_of w.driver.book.slots was.transfer.first) → IsActiveDescriptor w.driver w.memory e f n
  was_lent new mem e f n a was lent =
      let y : Transfer = was.transfer in
      let low : a.number < framed_to w.driver.command w.driver.made (length w.driver.transfers) = lent_framed w.driver w.memory a.number y k.awaiting was.was.here lent in
      record {
        number = a.number;
        transfer = y;
        here = was.was.here;
        descriptor = was.was.descriptor;
        held = was.was.held;
        lent = lent;
        endpoint = was.endpoint ∙ a.endpoint;
        frame = ap (λ (b : ℕ). (note_at w.driver.periodic.notes b).frame) was.first ∙ (sym (was.frame low) ∙ a.frame);
        at = was_at new mem e f n a was;
        active = was.was.active;
      }

  pub was_as : (new : DriverContent) (mem : Mem) (e f n : ℕ) (kind : Kind) → met w.driver s.recent n ≡ Some kind → (a : IsActiveDescriptor new mem e f n)
      → WasActive w.driver w.memory new a.number a.transfer → IsActiveDescriptor w.driver w.memory e f n
  was_as new mem e f n kind is a was =
      was_lent new mem e f n a was (met_is_lent s w n a.number was.transfer kind k is was.was.here was.was.descriptor was.was.held (was_at new mem e f n a was))

  driver_was : (e f n : ℕ) (a : IsActiveDescriptor (driver_next w).driver (driver_next w).memory e f n) → WasActive w.driver w.memory (driver_next w).driver a.number a.transfer
  driver_was e f n a = driver_starts_none w a.number a.transfer (record { standing = s; mixed = k }) (is_transfer (driver_next w).driver (driver_next w).memory e f n a)

  pub driver_before : (e f n : ℕ) (kind : Kind) → met w.driver s.recent n ≡ Some kind → IsActiveDescriptor (driver_next w).driver (driver_next w).memory e f n → IsActiveDescriptor w.driver w.memory e f n
  driver_before e f n kind is a = was_as (driver_next w).driver (driver_next w).memory e f n kind is a (driver_was e f n a)

  -- .. also where it doesn't stand yet
  pub part_before : (e f n : ℕ) (kind : Kind) → HasPart n (both s.descs s.parts n) kind → IsActiveDescriptor (driver_next w).driver (driver_next w).memory e f n → IsActiveDescriptor w.driver w.memory e f n
  part_before e f n kind part a =
      let was : WasActive w.driver w.memory (driver_next w).driver a.number a.transfer = driver_was e f n a in
      let at : n ≡ 32 * was.transfer.first = was_at (driver_next w).driver (driver_next w).memory e f n a was in
      was_lent (driver_next w).driver (driver_next w).memory e f n a was (part_is_lent s w n a.number was.transfer k was.was.here was.was.descriptor was.was.held at kind part)

  -- none begins where a queue head stands
  pub driver_no_queue : (e f n : ℕ) (q : Qh) → both s.descs s.parts n n ≡ Some (QueueHead q) → IsActiveDescriptor (driver_next w).driver (driver_next w).memory e f n → ⊥
  driver_no_queue e f n q here a =
      let was : WasActive w.driver w.memory (driver_next w).driver a.number a.transfer = driver_was e f n a in
      no_descriptor_there w.driver k.now.framed.place.sound.owners s.descs s.parts k.now.framed.driven k.now.framed.described a.number was.transfer n (QueueHead q) here refl was.was.here was.was.descriptor was.was.held
      (a.at ∙ ap (λ (b : ℕ). 32 * b) (sym was.first))

  -- ---- a command

  -- nor is a descriptor active that was just taken on: it isn't lent yet
  module _ (cmd : Cmd) (o : Offered) (is : offered w.driver w.memory cmd ≡ Ok o) where
    awaits : AreAwaiting o.driver o.memory
    awaits = commands_keep_awaiting w.driver w.memory cmd o k.now.framed.place k.now.planned k.masks k.numbers is

    same_low : (t : ℕ) (y : Transfer) → slice_get o.driver.transfers t ≡ Some y → o.driver.transfers ≡ w.driver.transfers → t < length w.driver.transfers
    same_low t y here same = slice_get_within w.driver.transfers t y (ap (λ (ts : List Transfer). slice_get ts t) (sym same) ∙ here)

    unchained_same : (why : Unchains w.driver w.memory o) → o.driver.transfers ≡ w.driver.transfers
    unchained_same why =
        let f : DriverContent = with_cancel w.driver why.number why.endpoint (endpoint_members w.driver why.number why.endpoint why.placement) in
        ap (λ (g : Offered). g.driver.transfers) why.is
        ∙ either_if (λ (g : DriverContent). g.transfers ≡ w.driver.transfers) (is_none f.periodic.list.work) (finished f (unfinished.Unchain why.number)) f
        (λ on. done_transfers f (unfinished.Unchain why.number)) (λ on. refl)

    pushed_low : (why : Transfers w.driver w.memory o) (t : ℕ) (y : Transfer) → slice_get o.driver.transfers t ≡ Some y → is_descriptor y.sort ≡ true → t < length w.driver.transfers
    pushed_low why t y here sort =
        ⊎_elim (λ (old : slice_get w.driver.transfers t ≡ Some y). slice_get_within w.driver.transfers t y old)
        (λ (new : new_transfer why.number why.asked why.endpoint.dummy ≡ y). absurd (false≢true (sym why.sort ∙ (ap (λ (x : Transfer). is_descriptor x.sort) new ∙ sort))))
        (either_pushed w.driver.transfers (new_transfer why.number why.asked why.endpoint.dummy) t y (ap (λ (g : Offered). slice_get g.driver.transfers t) (sym why.is) ∙ here))

    is_low : Accepts w.driver w.memory o → (e f n : ℕ) (a : IsActiveDescriptor o.driver o.memory e f n) → a.number < length w.driver.transfers
    is_low (opens why) e f n a = same_low a.number a.transfer a.here (ap (λ (g : Offered). g.driver.transfers) why.is)
    is_low (chains why) e f n a = same_low a.number a.transfer a.here (ap (λ (g : Offered). g.driver.transfers) why.is)
    is_low (places why) e f n a = same_low a.number a.transfer a.here (ap (λ (g : Offered). g.driver.transfers) why.is)
    is_low (transfers why) e f n a = pushed_low why a.number a.transfer a.here a.descriptor
    is_low (describes why) e f n a =
        subst (λ (g : Offered). a.number < framed_to g.driver.command g.driver.made (length g.driver.transfers)) why.is (lent_framed o.driver o.memory a.number a.transfer awaits a.here a.lent)
    is_low (cancels why) e f n a = same_low a.number a.transfer a.here (ap (λ (g : Offered). g.driver.transfers) why.is)
    is_low (unchains why) e f n a = same_low a.number a.transfer a.here (unchained_same why)

    not_both : (a b : ℕ) → a < b → b ≤ a → ⊥
    not_both a b less more = omega (arith, less, more)

    pub command_before : (why : Accepts w.driver w.memory o) (e f n : ℕ) (kind : Kind) → met w.driver s.recent n ≡ Some kind → IsActiveDescriptor o.driver o.memory e f n → IsActiveDescriptor w.driver w.memory e f n
    command_before why e f n kind on a =
        ⊎_elim (λ (was : WasActive w.driver w.memory o.driver a.number a.transfer). was_as o.driver o.memory e f n kind on a was)
        (λ (new : length w.driver.transfers ≤ a.number). absurd (not_both a.number (length w.driver.transfers) (is_low why e f n a) new))
        ((by_accept s w k o why).starts a.number a.transfer (is_transfer o.driver o.memory e f n a))
