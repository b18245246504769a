-- Each command leaves what the words of descriptors tell of their endpoints' names, and those of new descriptors tell it, too.
use Rattle.std.proofs.Common.{◌≡◌, ℕ, ◌+◌, ◌*◌, ◌<◌, Bool, true, false, List, length, drop, slice_get, Some, Result, Ok, Err, option_map}
use Rattle.std.proofs.Common.{ap, refl, sym, subst, ◌∙◌, ⊎_elim, arith, if◌then◌else◌}
use Rattle.std.proofs.lemmas.Option.{same_Some}
use Rattle.law_driver.proofs.Common.{drop_old}
use Rattle.law_microframes.proofs.Common.{idle_by}
use Rattle.usb_base.specs.declared.commands.Cmd.{Cmd}
use Rattle.usb_base.specs.declared.commands.Cmd.TheVariants as commands
use Rattle.usb_base.specs.declared.endpoints.EpDesc.{EpDesc}
use Rattle.usb_base.specs.declared.endpoints.EpName.{EpName}
use Rattle.usb_base.specs.declared.reports.OfferError.{OfferError}
use Rattle.word_mem.specs.Memory.{Mem, word_at}
use Rattle.word_mem.specs.Views.{words_at}
use Rattle.mem_runs.specs.Book.{slot_of}
use Rattle.itd_sitd.specs.Itd.{itd_words}
use Rattle.itd_sitd.specs.Sitd.{sitd_words}
use Rattle.law_driver.specs.in_place.InPlace.{IsInPlace}
use Rattle.claims_driver.specs.Owners.{HasBlocks, is_descriptor, runs_of_transfer}
use Rattle.drv_periodic_table.specs.declared.content.DescriptorNote.{DescriptorNote}
use Rattle.drv_periodic_table.specs.Periodic.{note_at}
use Rattle.drv_periodic_table.specs.Descriptors.{new_itd, new_sitd, descriptor_words}
use Rattle.drv_table.specs.declared.content.Endpoint.{Endpoint}
use Rattle.drv_table.specs.declared.content.Transfer.{Transfer}
use Rattle.drv_table.specs.Accepting.{Offered}
use Rattle.drv_table.specs.DriverContent.{DriverContent}
use Rattle.drv_table.specs.IsoOffers.{slots_of}
use Rattle.drv_table.specs.Offers.{offered}
use Rattle.law_driver.specs.run_owners.Accepts.{Accepts}
use Rattle.law_driver.proofs.lemmas.run_owners.Commands.{each_command_has_its_reason}
use Rattle.law_driver.proofs.lemmas.queued_drivers.CommandReasons.{reason_of}
use Rattle.law_descriptors.specs.Written.{HasFields, words_in as words_of_descriptor}
use Rattle.law_descriptors.proofs.Accepted.{made, all_transfers}
use Rattle.law_world.specs.memory.Mixed.{Standing, IsMixedAt}
use Rattle.law_world.specs.memory.framed_memory.Isochronous.{AwaitsLend, AreAwaiting}
use Rattle.law_world.proofs.lemmas.memory.CommandKeeping.{command_keeps_standing}
use Rattle.law_world.proofs.lemmas.memory.LeavesLent.{leaves_lent}
use Rattle.law_microframes.proofs.lemmas.visits.BelongIso.{IsIsoAccepted, is_iso_accepted, IsLater, made_is, IsByRuns, transfer_there, note_was, by_runs}
use Rattle.law_microframes.proofs.lemmas.visits.BelongItdCommands.{HasNoDescriptors, old_words, IsTold, told_by}
use Rattle.law_microframes.proofs.lemmas.visits.BelongSeen.{Seen, seen_in, IsSeenIn, seen_there, seen_set}
use Rattle.bus_world.specs.World.{World, name_in, commanded_by, commanded}
use Rattle.law_reports.specs.pipes.DescriptorNames.{TellsBy, AreDescriptorsNamed, CommandKeepsNames}
use Rattle.law_reports.proofs.lemmas.pipes.NameWords.{ItdTells, SitdTells, new_itd_tells, new_sitd_tells, itd_still, sitd_still, sitd_words_tell}

-- ---- one that was there

module _ (d : DriverContent) (m : Mem) (o : Offered) (place : IsInPlace m d) (reason : Accepts d m o) (t : ℕ) (y : Transfer)
    (there : slice_get d.transfers t ≡ Some y) (sort : is_descriptor y.sort ≡ true) (held : y.released ≡ false) (x : EpDesc) where
  run : HasBlocks (if (note_at d.periodic.notes y.first).split then 1 else 2) (slot_of d.book.slots y.first)
  run = (place.sound.owners.owned.each.described t (runs_of_transfer y) (ap (option_map runs_of_transfer) there) sort held).descriptor.run

  word : (n i : ℕ) → HasBlocks n (slot_of d.book.slots y.first) → i < 8 * n
      → word_at o.memory (32 * y.first + 4 * i) ≡ word_at m (32 * y.first + 4 * i)
  word n i blocks small = old_words d m o.memory y.first n i place (idle_by d m o reason) (leaves_lent d m o reason place) blocks small

  by_split : (split : Bool) → (note_at d.periodic.notes y.first).split ≡ split → TellsBy split m y.first x
      → TellsBy split o.memory y.first x
  by_split false is h =
      itd_still m o.memory y.first x
      (λ i some small. word 2 i (subst (λ (c : Bool). HasBlocks (if c then 1 else 2) (slot_of d.book.slots y.first)) is run) small) h
  by_split true is h =
      sitd_still m o.memory y.first x
      (λ i some small.
      word 1 i (subst (λ (c : Bool). HasBlocks (if c then 1 else 2) (slot_of d.book.slots y.first)) is run) (omega (arith, small))) h

  pub old_tells : TellsBy (note_at d.periodic.notes y.first).split m y.first x
      → TellsBy (note_at d.periodic.notes y.first).split o.memory y.first x
  old_tells h = by_split (note_at d.periodic.notes y.first).split refl h

-- ---- a command that takes on no descriptors

module _ (d : DriverContent) (m : Mem) (o : Offered) (place : IsInPlace m d) (reason : Accepts d m o) (told : IsTold d o)
    (old : AreDescriptorsNamed d m) where
  pub other_named : AreDescriptorsNamed o.driver o.memory
  other_named t z v there sort held here =
      let was = told.transfers_are t z there sort in
      let of : IsSeenIn d.endpoints z.endpoint v = told.endpoints_are z.endpoint v (place.sound.owners.orderly.within t z was) here in
      subst (λ (c : Bool). TellsBy c o.memory z.first v.desc) (sym (told.splits z.first))
      (subst (λ (c : EpDesc). TellsBy (note_at d.periodic.notes z.first).split o.memory z.first c) (ap (λ (u : Seen). u.desc) of.same)
      (old_tells d m o place reason t z was sort held of.endpoint.desc (old t z of.endpoint was sort held of.here)))

-- ---- isochronous descriptors

written_tells : (x : EpDesc) (note : DescriptorNote) (m : Mem) (b : ℕ) → HasFields x → (split : Bool) → note.split ≡ split
    → words_at m (32 * b) (words_of_descriptor note.split) ≡ descriptor_words x note → TellsBy split m b x
written_tells x note m b fits false is words =
    let stand : words_at m (32 * b) 16 ≡ itd_words (new_itd x note.smask note.slot note.buffer) =
    ap (λ (c : Bool). words_at m (32 * b) (words_of_descriptor c)) (sym is) ∙ words
    ∙ ap (λ (c : Bool). if c then sitd_words (new_sitd x note.smask note.cmask note.slot note.buffer)
    else itd_words (new_itd x note.smask note.slot note.buffer)) is in
    subst (λ (ws : List ℕ). ItdTells ws x) (sym stand) (new_itd_tells x note.smask note.slot note.buffer fits)
written_tells x note m b fits true is words =
    let stand : words_at m (32 * b) 7 ≡ sitd_words (new_sitd x note.smask note.cmask note.slot note.buffer) =
    ap (λ (c : Bool). words_at m (32 * b) (words_of_descriptor c)) (sym is) ∙ words
    ∙ ap (λ (c : Bool). if c then sitd_words (new_sitd x note.smask note.cmask note.slot note.buffer)
    else itd_words (new_itd x note.smask note.slot note.buffer)) is in
    sitd_words_tell m b x
    (subst (λ (ws : List ℕ). SitdTells ws x) (sym stand) (new_sitd_tells x note.smask note.cmask note.slot note.buffer fits))

module _ (d : DriverContent) (m : Mem) (o : Offered) (place : IsInPlace m d) (reason : Accepts d m o) (k : IsIsoAccepted d m o)
    (awaiting : AreAwaiting o.driver o.memory) (old : AreDescriptorsNamed d m) where
  abbrev e : ℕ
  e = k.number

  module _ (bs : List ℕ) (by : IsByRuns d m o k bs) where
    endpoint_there : (i : ℕ) (v : Endpoint) → slice_get o.driver.endpoints i ≡ Some v → IsSeenIn d.endpoints i v
    endpoint_there i v there =
        seen_there o.driver.endpoints d.endpoints i v
        (sym (ap (λ (g : Offered). seen_in g.driver.endpoints i) by.is ∙ seen_set d.endpoints e i k.endpoint _ k.here refl)) there

    module _ (t : ℕ) (z : Transfer) (v : Endpoint) (sort : is_descriptor z.sort ≡ true) (held : z.released ≡ false)
        (here : slice_get o.driver.endpoints z.endpoint ≡ Some v) where
      was_named : slice_get d.transfers t ≡ Some z
          → TellsBy (note_at o.driver.periodic.notes z.first).split o.memory z.first v.desc
      was_named was =
          let of : IsSeenIn d.endpoints z.endpoint v = endpoint_there z.endpoint v here in
          subst (λ (c : DescriptorNote). TellsBy c.split o.memory z.first v.desc) (sym (note_was d m o place k bs by t z was sort held))
          (subst (λ (c : EpDesc). TellsBy (note_at d.periodic.notes z.first).split o.memory z.first c) (ap (λ (u : Seen). u.desc) of.same)
          (old_tells d m o place reason t z was sort held of.endpoint.desc (old t z of.endpoint was sort held of.here)))

      new_named : IsLater (made k.number (slots_of k.endpoint k.len) k.count bs) z
          → TellsBy (note_at o.driver.periodic.notes z.first).split o.memory z.first v.desc
      new_named new =
          let none : o.driver.made ≡ 0 = ap (λ (g : Offered). g.driver.made) by.is in
          let a : AwaitsLend o.driver o.memory k.number (length d.transfers) =
          awaiting e (length d.transfers) k.count (ap (λ (g : Offered). g.driver.command) by.is) (omega (arith, none)) in
          let dropped : slice_get (drop (length d.transfers) o.driver.transfers) new.index ≡ Some z =
          ap (λ (g : Offered). slice_get (drop (length d.transfers) g.driver.transfers) new.index) by.is
          ∙ ap (λ (ts : List Transfer). slice_get (drop (length d.transfers) ts) new.index)
          (all_transfers k.after.book e k.endpoint.desc (slots_of k.endpoint k.len) k.count k.seed bs
          (record { notes = d.periodic.notes; transfers = d.transfers; memory = k.after.memory }))
          ∙ ap (λ (ts : List Transfer). slice_get ts new.index) (drop_old d.transfers (made e (slots_of k.endpoint k.len) k.count bs))
          ∙ new.there in
          let at_e : z.endpoint ≡ e = (made_is e (slots_of k.endpoint k.len) k.count bs new.index z new.there).0 in
          let same : a.endpoint ≡ v =
          same_Some a.endpoint v (sym a.here ∙ ap (slice_get o.driver.endpoints) (sym at_e) ∙ here) in
          let note : DescriptorNote = note_at o.driver.periodic.notes z.first in
          subst (λ (c : Endpoint). TellsBy note.split o.memory z.first c.desc) same
          (written_tells a.endpoint.desc note o.memory z.first a.await.fields note.split refl
          (a.await.each new.index z dropped).written.words)

    iso_by : AreDescriptorsNamed o.driver o.memory
    iso_by t z v there sort held here =
        ⊎_elim (λ (was : slice_get d.transfers t ≡ Some z). was_named t z v sort held here was)
        (λ (new : IsLater (made k.number (slots_of k.endpoint k.len) k.count bs) z). new_named t z v sort held here new)
        (transfer_there d m o place k bs by t z there)

  pub iso_named : AreDescriptorsNamed o.driver o.memory
  iso_named = iso_by _ (by_runs d m o place k)

-- ---- any command

module _ (s : Standing) (w : World) (line : ℕ) (k : IsMixedAt s w) (old : AreDescriptorsNamed w.driver w.memory) where
  abbrev Named : EpName → Result Offered OfferError → Type 0
  Named name r = AreDescriptorsNamed (commanded_by w line name r).driver (commanded_by w line name r).memory

  other_by : (cmd : Cmd) → HasNoDescriptors cmd → (r : Result Offered OfferError) → offered w.driver w.memory cmd ≡ r
      → Named (name_in cmd) r
  other_by cmd none (Err why) is = old
  other_by cmd none (Ok o) is =
      other_named w.driver w.memory o k.now.framed.place (each_command_has_its_reason w.driver w.memory cmd o is)
      (told_by w.driver w.memory cmd o none (reason_of w.driver w.memory cmd o is)) old

  iso_offer : (name : EpName) (count len seed : ℕ) (r : Result Offered OfferError)
      → offered w.driver w.memory (commands.Iso name count len seed) ≡ r → IsMixedAt s (commanded_by w line name r) → Named name r
  iso_offer name count len seed (Err why) is mixed = old
  iso_offer name count len seed (Ok o) is mixed =
      iso_named w.driver w.memory o k.now.framed.place
      (each_command_has_its_reason w.driver w.memory (commands.Iso name count len seed) o is)
      (is_iso_accepted w.driver w.memory name count len seed o is) mixed.awaiting old

  by_command : (cmd : Cmd) → IsMixedAt s (commanded w line cmd) → Named (name_in cmd) (offered w.driver w.memory cmd)
  by_command (commands.Iso name count len seed) mixed =
      iso_offer name count len seed (offered w.driver w.memory (commands.Iso name count len seed)) refl mixed
  by_command (commands.OpenEp x) mixed = other_by (commands.OpenEp x) tt (offered w.driver w.memory (commands.OpenEp x)) refl
  by_command (commands.Get name len by) mixed =
      other_by (commands.Get name len by) tt (offered w.driver w.memory (commands.Get name len by)) refl
  by_command (commands.Put name bytes by) mixed =
      other_by (commands.Put name bytes by) tt (offered w.driver w.memory (commands.Put name bytes by)) refl
  by_command (commands.Control name setup bytes) mixed =
      other_by (commands.Control name setup bytes) tt (offered w.driver w.memory (commands.Control name setup bytes)) refl
  by_command (commands.Cancel name) mixed = other_by (commands.Cancel name) tt (offered w.driver w.memory (commands.Cancel name)) refl
  by_command (commands.Clear name) mixed = other_by (commands.Clear name) tt (offered w.driver w.memory (commands.Clear name)) refl
  by_command (commands.Reset port) mixed = other_by (commands.Reset port) tt (offered w.driver w.memory (commands.Reset port)) refl
  by_command (commands.Give port) mixed = other_by (commands.Give port) tt (offered w.driver w.memory (commands.Give port)) refl
  by_command (commands.DiskRead addr lba count) mixed =
      other_by (commands.DiskRead addr lba count) tt (offered w.driver w.memory (commands.DiskRead addr lba count)) refl
  by_command (commands.DiskWrite addr lba bytes) mixed =
      other_by (commands.DiskWrite addr lba bytes) tt (offered w.driver w.memory (commands.DiskWrite addr lba bytes)) refl
  by_command (commands.Revive addr) mixed = other_by (commands.Revive addr) tt (offered w.driver w.memory (commands.Revive addr)) refl

pub command_keeps_names : CommandKeepsNames
command_keeps_names s w line cmd fits room k old = by_command s w line k old cmd (command_keeps_standing s w line cmd fits room k)
