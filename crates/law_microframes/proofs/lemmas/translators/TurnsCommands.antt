-- Each command goes on with what is told of the isochronous OUTs below hubs: the words of a siTD that there was stay, and of one that it
-- takes on no part was sent (EHCI 1.0, 3.4 and 4.12.3).
use Rattle.std.proofs.Common.{◌≡◌, ℕ, ◌*◌, ◌<◌, ◌≤◌, Bool, true, false, List, length, Result, Ok, Err, option_map, refl, ap, sym, subst, ◌∙◌, ⊎_elim, arith, if◌then◌else◌, ◌⊎◌, inl, slice_get, Some}
use Rattle.std.specs.Prelude.{◌==◌, not}
use Rattle.std.proofs.lemmas.Bool.{cases_lt}
use Rattle.std.proofs.lemmas.Option.{slice_get_within}
use Rattle.law_microframes.proofs.Common.{idle_by}
use Rattle.usb_base.specs.declared.commands.Cmd.{Cmd}
use Rattle.usb_base.specs.declared.endpoints.EpName.{EpName}
use Rattle.usb_base.specs.declared.reports.OfferError.{OfferError}
use Rattle.mem_runs.specs.Book.{slot_of}
use Rattle.drv_periodic_table.specs.Descriptors.{sitd_in, itd_is_active}
use Rattle.drv_periodic_table.specs.Periodic.{note_at}
use Rattle.drv_table.specs.Accepting.{Offered}
use Rattle.drv_table.specs.Offers.{offered}
use Rattle.hub_class.specs.HubContent.{HubContent}
use Rattle.tt_pipeline.specs.declared.entry.Entry.{Entry}
use Rattle.claims_driver.specs.DueMembers.{framed_to}
use Rattle.law_driver.specs.in_place.InPlace.{IsInPlace}
use Rattle.claims_driver.specs.Owners.{HasBlocks, runs_of_transfer}
use Rattle.law_driver.specs.run_owners.Accepts.{Accepts}
use Rattle.law_driver.proofs.lemmas.run_owners.Commands.{each_command_has_its_reason}
use Rattle.law_driver.proofs.lemmas.queued_drivers.CommandReasons.{reason_of, IsReasonOf}
use Rattle.bus_world.specs.World.{World, name_in, commanded_by, commanded}
use Rattle.claims_world.specs.Visits.{frame_in}
use Rattle.law_world.specs.memory.Mixed.{IsMixedWorld}
use Rattle.law_world.proofs.lemmas.memory.LeavesLent.{leaves_lent}
use Rattle.law_microframes.specs.visits.OneDescriptor.{IsActiveTransfer, WasActive}
use Rattle.law_microframes.specs.time.SitdFields.{SplitTransfer}
use Rattle.law_microframes.specs.translators.Parts.{EachOf, Lacks, key_asked}
use Rattle.law_microframes.specs.translators.Turns.{pipeline_for, EntriesAre, IsInHand, OutsGoOn, CommandKeepsOuts}
use Rattle.law_microframes.proofs.lemmas.visits.BelongItdCommands.{HasNoDescriptors, old_words, told_by}
use Rattle.law_microframes.proofs.lemmas.visits.OneDescriptorOffered.{by_accept}
use Rattle.law_microframes.proofs.lemmas.time.SitdCommands.{IsOldSplit, IsNewSplit, refused_split, told_old, iso_split}
use Rattle.law_microframes.proofs.lemmas.translators.Turns.{words_stay}
use Rattle.law_microframes.proofs.lemmas.translators.TurnsNew.{none_sent, awaits_new, unframed_is_new}
use Rattle.drv_table.specs.declared.content.Endpoint.{Endpoint}
use Rattle.law_microframes.proofs.lemmas.visits.BelongCommands.{taken_same, described_same, left_same, opened_new, pushed_seen}
use Rattle.law_microframes.proofs.lemmas.visits.BelongSeen.{seen_in}
use Rattle.law_microframes.proofs.lemmas.translators.TurnsDriven.{came_then, read_then}
use Rattle.usb_base.specs.declared.commands.Cmd.TheVariants as commands

-- ---- one that was there before

module _ (w : World) (mixed : IsMixedWorld w) (o : Offered) (reason : Accepts w.driver w.memory o) (j : SplitTransfer o.driver)
    (k : IsOldSplit w.driver o.driver j) where
  place : IsInPlace w.memory w.driver
  place = mixed.mixed.now.framed.place

  run : HasBlocks 1 (slot_of w.driver.book.slots k.before.transfer.first)
  run = subst (λ (b : Bool). HasBlocks (if b then 1 else 2) (slot_of w.driver.book.slots k.before.transfer.first)) k.before.split
      (place.sound.owners.owned.each.described k.before.number (runs_of_transfer k.before.transfer)
      (ap (option_map runs_of_transfer) k.before.there) k.before.sort k.before.held).descriptor.run

  stored : (P : Entry → Type 0) (hs : List HubContent) → EntriesAre P hs (sitd_in w.memory k.before.transfer.first)
      → EntriesAre P hs (sitd_in o.memory j.transfer.first)
  stored P hs was =
      subst (λ (b : ℕ). EntriesAre P hs (sitd_in o.memory b)) k.first
      (words_stay P hs w.memory o.memory k.before.transfer.first
      (λ i some small. old_words w.driver w.memory o.memory k.before.transfer.first 1 i place (idle_by w.driver w.memory o reason)
      (leaves_lent w.driver w.memory o reason place) run (omega (arith, small))) was)

  -- what is active had its frame
  frame_was : (sitd_in o.memory j.transfer.first).active ≡ true
      → j.number < framed_to w.driver.command w.driver.made (length w.driver.transfers)
      → (note_at w.driver.periodic.notes k.before.transfer.first).frame ≡ (note_at o.driver.periodic.notes j.transfer.first).frame
  frame_was on low =
      ap (λ (b : ℕ). (note_at w.driver.periodic.notes b).frame) k.first
      ∙ ⊎_elim {C = (note_at w.driver.periodic.notes j.transfer.first).frame ≡ (note_at o.driver.periodic.notes j.transfer.first).frame}
      (λ (a : WasActive w.driver w.memory o.driver j.number j.transfer). sym (a.frame low))
      (λ (new : length w.driver.transfers ≤ j.number).
      let within = slice_get_within w.driver.transfers k.before.number k.before.transfer k.before.there in
      let same = k.number in
      absurd (omega (arith, new, within, same)))
      ((by_accept mixed.standing w mixed.mixed o reason).starts j.number j.transfer active)
    where
      active : IsActiveTransfer o.driver o.memory j.number j.transfer
      active = record {
        here = j.there;
        descriptor = j.sort;
        held = j.held;
        active =
            ap (λ (c : Bool). not (if c then (sitd_in o.memory j.transfer.first).active else itd_is_active o.memory j.transfer.first))
            j.split ∙ ap not on;
      }

  pub old_goes : (P : Entry → Type 0) (hs : List HubContent) (f : ℕ) → (note_at o.driver.periodic.notes j.transfer.first).frame ≡ f
      → ((note_at w.driver.periodic.notes k.before.transfer.first).frame ≡ f
      → EntriesAre P hs (sitd_in w.memory k.before.transfer.first))
      → EntriesAre P hs (sitd_in o.memory j.transfer.first)
  old_goes P hs f now was on =
      ⊎_elim {C = (sitd_in o.memory j.transfer.first).dir_in ≡ false → ((sitd_in o.memory j.transfer.first).c_prog == 0) ≡ false
      → EachOf P (key_asked (sitd_in o.memory j.transfer.first))
      (pipeline_for hs (sitd_in o.memory j.transfer.first).hub (sitd_in o.memory j.transfer.first).port)}
      (λ (low : j.number < framed_to w.driver.command w.driver.made (length w.driver.transfers)).
      stored P hs (was (frame_was on low ∙ now)) on)
      (λ (high : framed_to w.driver.command w.driver.made (length w.driver.transfers) ≤ j.number).
      stored P hs (none_sent P hs (sitd_in w.memory k.before.transfer.first) (unframed_is_new w mixed k.before
      (subst (λ (n : ℕ). framed_to w.driver.command w.driver.made (length w.driver.transfers) ≤ n) (sym k.number) high))) on)
      (cases_lt j.number (framed_to w.driver.command w.driver.made (length w.driver.transfers)))

-- ---- a command

-- an endpoint is seen as it was
module _ (w : World) (o : Offered) (e : ℕ) (x : Endpoint) (here : slice_get w.driver.endpoints e ≡ Some x) where
  command_sees : (cmd : Cmd) → IsReasonOf w.driver w.memory o cmd → seen_in o.driver.endpoints e ≡ seen_in w.driver.endpoints e
  command_sees (commands.OpenEp v) why = pushed_seen w.driver o e x (opened_new w.driver w.memory o v why) here
  command_sees (commands.Get name len by) why = taken_same w.driver w.memory o name _ _ why e
  command_sees (commands.Put name bytes by) why = taken_same w.driver w.memory o name _ _ why e
  command_sees (commands.Control name setup bytes) why = taken_same w.driver w.memory o name _ _ why e
  command_sees (commands.Iso name count len seed) why = described_same w.driver w.memory o why e
  command_sees (commands.Cancel name) why = left_same w.driver w.memory o name why e
  command_sees _ why = absurd why

module _ (start w : World) (line : ℕ) (cmd : Cmd) (vs : List ℕ) (mixed : IsMixedWorld w) (k : OutsGoOn start w vs) where
  -- an endpoint is as it was seen
  seen_then : (r : Result Offered OfferError) → offered w.driver w.memory cmd ≡ r → (e : ℕ) (x : Endpoint)
      → slice_get w.driver.endpoints e ≡ Some x
      → seen_in (commanded_by w line (name_in cmd) r).driver.endpoints e ≡ seen_in w.driver.endpoints e
  seen_then (Err why) is e x here = refl
  seen_then (Ok o) is e x here = command_sees w o e x here cmd (reason_of w.driver w.memory cmd o is)

  refused : (why : OfferError) → offered w.driver w.memory cmd ≡ Err why → OutsGoOn start (commanded_by w line (name_in cmd) (Err why)) vs
  refused why is = record {
    there = λ j now out. k.there (refused_split w line (name_in cmd) why j) now out;
    held = λ h on in_hand. k.held h on in_hand;
    came = λ j hub port kind dir.
        came_then start w (commanded_by w line (name_in cmd) (Err why)) vs refl refl refl (seen_then (Err why) is) j hub port
        (k.came j hub port kind dir);
    read = read_then start w (commanded_by w line (name_in cmd) (Err why)) vs refl refl (seen_then (Err why) is) k.read;
  }

  accepted : (o : Offered) → offered w.driver w.memory cmd ≡ Ok o
      → ((j : SplitTransfer o.driver) → IsOldSplit w.driver o.driver j ⊎ IsNewSplit o.driver o.memory j)
      → OutsGoOn start (commanded_by w line (name_in cmd) (Ok o)) vs
  accepted o is each = record {
    there = λ j now out.
        ⊎_elim {C = EntriesAre Lacks w.bus.hubs (sitd_in o.memory j.transfer.first)}
        (λ (old : IsOldSplit w.driver o.driver j).
        old_goes w mixed o (each_command_has_its_reason w.driver w.memory cmd o is) j old Lacks w.bus.hubs
        (frame_in w.registers.frame_index) now
        (λ was. k.there old.before was
        (λ hand. out (subst (λ (b : ℕ). IsInHand w.control (32 * b)) old.first hand))))
        (λ (new : IsNewSplit o.driver o.memory j).
        none_sent Lacks w.bus.hubs (sitd_in o.memory j.transfer.first)
        (awaits_new o.driver o.memory new.number new.first new.awaits new.index j.transfer new.there j.split))
        (each j);
    held = λ h on in_hand. k.held h on in_hand;
    came = λ j hub port kind dir.
        came_then start w (commanded_by w line (name_in cmd) (Ok o)) vs refl refl refl (seen_then (Ok o) is) j hub port
        (k.came j hub port kind dir);
    read = read_then start w (commanded_by w line (name_in cmd) (Ok o)) vs refl refl (seen_then (Ok o) is) k.read;
  }

  told : HasNoDescriptors cmd → OutsGoOn start (commanded w line cmd) vs
  told other = by (offered w.driver w.memory cmd) refl
    where
      by : (r : Result Offered OfferError) → offered w.driver w.memory cmd ≡ r → OutsGoOn start (commanded_by w line (name_in cmd) r) vs
      by (Err why) is = refused why is
      by (Ok o) is =
          let t = told_by w.driver w.memory cmd o other (reason_of w.driver w.memory cmd o is) in
          accepted o is (λ j. inl (told_old w.driver w.memory o mixed.mixed.now.framed.place t j))

-- one that takes on isochronous descriptors
iso_keeps_outs : (start w : World) (line : ℕ) (name : EpName) (count len seed : ℕ) (vs : List ℕ) → IsMixedWorld w
    → OutsGoOn start w vs → OutsGoOn start (commanded w line (commands.Iso name count len seed)) vs
iso_keeps_outs start w line name count len seed vs mixed k = by (offered w.driver w.memory (commands.Iso name count len seed)) refl
  where
    by : (r : Result Offered OfferError) → offered w.driver w.memory (commands.Iso name count len seed) ≡ r
        → OutsGoOn start (commanded_by w line name r) vs
    by (Err why) is = refused start w line (commands.Iso name count len seed) vs mixed k why is
    by (Ok o) is =
        accepted start w line (commands.Iso name count len seed) vs mixed k o is
        (iso_split w name count len seed o mixed is)

pub command_keeps_outs : CommandKeepsOuts
command_keeps_outs start w line (commands.Iso name count len seed) vs mixed k =
    iso_keeps_outs start w line name count len seed vs mixed k
command_keeps_outs start w line (commands.OpenEp x) vs mixed k = told start w line (commands.OpenEp x) vs mixed k tt
command_keeps_outs start w line (commands.Get name len by) vs mixed k = told start w line (commands.Get name len by) vs mixed k tt
command_keeps_outs start w line (commands.Put name bytes by) vs mixed k = told start w line (commands.Put name bytes by) vs mixed k tt
command_keeps_outs start w line (commands.Control name setup bytes) vs mixed k = told start w line (commands.Control name setup bytes) vs mixed k tt
command_keeps_outs start w line (commands.Cancel name) vs mixed k = told start w line (commands.Cancel name) vs mixed k tt
command_keeps_outs start w line (commands.Clear name) vs mixed k = told start w line (commands.Clear name) vs mixed k tt
command_keeps_outs start w line (commands.Reset port) vs mixed k = told start w line (commands.Reset port) vs mixed k tt
command_keeps_outs start w line (commands.Give port) vs mixed k = told start w line (commands.Give port) vs mixed k tt
command_keeps_outs start w line (commands.DiskRead addr lba count) vs mixed k = told start w line (commands.DiskRead addr lba count) vs mixed k tt
command_keeps_outs start w line (commands.DiskWrite addr lba bytes) vs mixed k = told start w line (commands.DiskWrite addr lba bytes) vs mixed k tt
command_keeps_outs start w line (commands.Revive addr) vs mixed k = told start w line (commands.Revive addr) vs mixed k tt
