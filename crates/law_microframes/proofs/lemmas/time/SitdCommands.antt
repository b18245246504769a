-- Each command leaves the fields of the driver's siTDs, in memory and in hand, and what it takes on is written with them (EHCI 1.0, 3.4 and
-- 4.12.3).
use Rattle.std.proofs.Common.{◌≡◌, ℕ, zero, suc, ◌+◌, ◌*◌, ◌<◌, ◌≤◌, ◌⊎◌, Bool, true, false, List, length, drop, get_or, slice_get, Some, Result, Ok, Err, option_map, ap, refl, sym, subst, ◌∙◌, ⊎_elim, inl, inr, arith, if◌then◌else◌}
use Rattle.std.proofs.lemmas.Option.{same_Some}
use Rattle.std.proofs.lemmas.List.{get_or-drop, length-append, length-drop}
use Rattle.law_driver.proofs.Common.{drop_old}
use Rattle.law_common.proofs.Numbers.{same_blocks}
use Rattle.law_microframes.proofs.Common.{idle_by}
use Rattle.usb_base.specs.declared.commands.Cmd.{Cmd}
use Rattle.usb_base.specs.declared.commands.Cmd.TheVariants as commands
use Rattle.usb_base.specs.declared.endpoints.EpDesc.{EpDesc}
use Rattle.usb_base.specs.declared.endpoints.EpName.{EpName}
use Rattle.usb_base.specs.declared.reports.OfferError.{OfferError}
use Rattle.word_mem.specs.Memory.{Mem}
use Rattle.word_mem.specs.Views.{words_at}
use Rattle.mem_runs.specs.declared.slots.Slot.TheVariants.{Empty}
use Rattle.mem_runs.specs.Book.{slot_of}
use Rattle.itd_sitd.specs.declared.sitd.Sitd.{Sitd}
use Rattle.itd_sitd.specs.Itd.{itd_words}
use Rattle.itd_sitd.specs.Sitd.{sitd_words}
use Rattle.hc_iso.specs.declared.held.HeldSitd.{HeldSitd}
use Rattle.bandwidth.specs.declared.placements.Placement.{Placement}
use Rattle.bandwidth.specs.Placements.{is_classic}
use Rattle.drv_periodic_table.specs.declared.content.DescriptorNote.{DescriptorNote}
use Rattle.drv_periodic_table.specs.Periodic.{note_at}
use Rattle.drv_periodic_table.specs.Descriptors.{is_in as goes_in, slot_bytes, new_itd, new_sitd, descriptor_words, sitd_in}
use Rattle.periodic_walk.specs.declared.state.Hand.TheVariants as hands
use Rattle.hc_core.specs.declared.controller.MicroframePart.TheVariants.{Periodic}
use Rattle.hc_core.specs.Controller.{Control}
use Rattle.drv_table.specs.declared.content.Endpoint.{Endpoint}
use Rattle.drv_table.specs.declared.content.Slots.{Slots}
use Rattle.drv_table.specs.declared.content.Transfer.{Transfer}
use Rattle.drv_table.specs.DriverContent.{DriverContent, is_same_name}
use Rattle.drv_table.specs.Kinds.{is_iso}
use Rattle.drv_table.specs.Words.{buffer_needs}
use Rattle.drv_table.specs.Accepting.{Offered}
use Rattle.drv_table.specs.IsoOffers.{iso_needs, slots_of, slot_runs, total_of, smask_of, cmask_of, descriptor_transfer}
use Rattle.drv_table.specs.Offers.{offered}
use Rattle.claims_driver.specs.Owners.{HasBlocks, HasRun, is_descriptor, runs_of_transfer}
use Rattle.law_driver.specs.in_place.InPlace.{IsInPlace}
use Rattle.law_driver.specs.run_owners.Accepts.{Accepts}
use Rattle.law_driver.proofs.lemmas.run_owners.Commands.{each_command_has_its_reason}
use Rattle.law_driver.proofs.lemmas.run_owners.Runs.{placed_run}
use Rattle.law_driver.proofs.lemmas.run_owners.Taking.{run_some}
use Rattle.law_driver.proofs.lemmas.queued_drivers.CommandReasons.{reason_of}
use Rattle.law_frames.specs.Frame.{IsCopiedSitd, IsInFrame}
use Rattle.law_frames.specs.Met.{ASitd}
use Rattle.law_descriptors.specs.Both.{both}
use Rattle.law_descriptors.specs.Written.{HasFields, words_in as words_of_descriptor}
use Rattle.law_descriptors.proofs.Accepted.{made, all_transfers}
use Rattle.law_descriptors.specs.Meeting.{met}
use Rattle.law_world.specs.memory.framed_memory.Isochronous.{AwaitsLend}
use Rattle.law_world.proofs.lemmas.memory.lemmas.framed_memory.TakenOn.{commands_keep_awaiting}
use Rattle.bus_world.specs.World.{World, name_in, commanded_by, commanded}
use Rattle.law_world.specs.memory.Mixed.{IsMixedWorld}
use Rattle.law_microframes.specs.visits.Belonging.{IsDescriptorAt, IsHarvestedAt}
use Rattle.law_microframes.proofs.lemmas.visits.BelongDescriptors.{descriptor_belongs}
use Rattle.law_microframes.proofs.lemmas.visits.BelongIso.{IsIsoAccepted, IsIsoOf, is_iso_of, IsLater, made_is, IsByRuns, Noted, transfer_there, note_was, noted, by_runs}
use Rattle.law_world.proofs.lemmas.memory.LeavesLent.{leaves_lent}
use Rattle.law_microframes.proofs.lemmas.visits.BelongItdCommands.{HasNoDescriptors, old_words, IsTold, told_by}
use Rattle.law_microframes.proofs.lemmas.visits.BelongSeen.{Seen, IsSeenIn, seen_there}
use Rattle.law_microframes.specs.time.SitdFields.{sitd_name, IsSitdAs, HaveSitdFields, SplitTransfer, SitdsStand}
use Rattle.law_microframes.proofs.lemmas.time.PaymentIsoCommands.{seen_same}
use Rattle.law_microframes.proofs.lemmas.time.SitdNew.{new_sitd_as}
use Rattle.law_microframes.proofs.lemmas.time.SitdWords.{words_stay}
use Rattle.law_microframes.proofs.lemmas.time.SitdWorlds.{IsSitdFrame, sitd_in_hand}

-- ---- one that was there before

pub record IsOldSplit (d : DriverContent) (new : DriverContent) (j : SplitTransfer new) : Type 0 where
  pub before : SplitTransfer d
  pub number : before.number ≡ j.number
  pub first : before.transfer.first ≡ j.transfer.first
  pub desc : before.endpoint.desc ≡ j.endpoint.desc
  pub placement : before.placement ≡ j.placement

module _ (d : DriverContent) (m : Mem) (c : Control) (o : Offered) (place : IsInPlace m d) (reason : Accepts d m o)
    (old : SitdsStand d m c) (j : SplitTransfer o.driver) (k : IsOldSplit d o.driver j) where
  run : HasBlocks 1 (slot_of d.book.slots k.before.transfer.first)
  run = subst (λ (b : Bool). HasBlocks (if b then 1 else 2) (slot_of d.book.slots k.before.transfer.first)) k.before.split
      (place.sound.owners.owned.each.described k.before.number (runs_of_transfer k.before.transfer)
      (ap (option_map runs_of_transfer) k.before.there) k.before.sort k.before.held).descriptor.run

  of_old : (v : Sitd) → HaveSitdFields v k.before.endpoint.desc k.before.placement → HaveSitdFields v j.endpoint.desc j.placement
  of_old v h = subst (λ (p : Placement). HaveSitdFields v j.endpoint.desc p) k.placement
      (subst (λ (x : EpDesc). HaveSitdFields v x k.before.placement) k.desc h)

  old_fields : HaveSitdFields (sitd_in o.memory j.transfer.first) j.endpoint.desc j.placement
  old_fields =
      let h = old.fields k.before in
      let stored : HaveSitdFields (sitd_in o.memory k.before.transfer.first) k.before.endpoint.desc k.before.placement = record {
        classic = h.classic;
        has = words_stay _ _ _ _ m o.memory k.before.transfer.first
            (λ i later small. old_words d m o.memory k.before.transfer.first 1 i place (idle_by d m o reason)
            (leaves_lent d m o reason place) run (omega (arith, small))) h.has;
      } in
      subst (λ (b : ℕ). HaveSitdFields (sitd_in o.memory b) j.endpoint.desc j.placement) k.first
      (of_old (sitd_in o.memory k.before.transfer.first) stored)

  old_hand : (h : HeldSitd) → c.part ≡ Periodic → c.frame.hand ≡ Some (hands.Sitd h) → h.at ≡ 32 * j.transfer.first
      → HaveSitdFields h.sitd j.endpoint.desc j.placement
  old_hand h on is at = of_old h.sitd (old.hand k.before h on is (at ∙ ap (λ (b : ℕ). 32 * b) (sym k.first)))

-- one that a command takes on
pub record IsNewSplit (new : DriverContent) (m : Mem) (j : SplitTransfer new) : Type 0 where
  pub number : ℕ
  pub first : ℕ
  pub awaits : AwaitsLend new m number first
  pub index : ℕ
  pub there : slice_get (drop first new.transfers) index ≡ Some j.transfer

-- ---- a refused command

abbrev pub refused_split : (w : World) (line : ℕ) (name : EpName) (why : OfferError) → SplitTransfer (commanded_by w line name (Err why)).driver
    → SplitTransfer w.driver
refused_split w line name why j = record {
  number = j.number;
  transfer = j.transfer;
  endpoint = j.endpoint;
  placement = j.placement;
  there = j.there;
  sort = j.sort;
  held = j.held;
  split = j.split;
  here = j.here;
  placed = j.placed;
}

refused_stand : (w : World) (line : ℕ) (name : EpName) (why : OfferError) → SitdsStand w.driver w.memory w.control
    → SitdsStand (commanded_by w line name (Err why)).driver (commanded_by w line name (Err why)).memory (commanded_by w line name (Err why)).control
refused_stand w line name why old = record {
  fields = λ j. old.fields (refused_split w line name why j);
  hand = λ j. old.hand (refused_split w line name why j);
}

-- ---- a command that takes on no descriptors

pub told_old : (d : DriverContent) (m : Mem) (o : Offered) → IsInPlace m d → IsTold d o → (j : SplitTransfer o.driver) → IsOldSplit d o.driver j
told_old d m o place told j =
    let was = told.transfers_are j.number j.transfer j.there j.sort in
    let of : IsSeenIn d.endpoints j.transfer.endpoint j.endpoint =
    told.endpoints_are j.transfer.endpoint j.endpoint (place.sound.owners.orderly.within j.number j.transfer was) j.here in
    record {
      before = record {
        number = j.number;
        transfer = j.transfer;
        endpoint = of.endpoint;
        placement = j.placement;
        there = was;
        sort = j.sort;
        held = j.held;
        split = sym (told.splits j.transfer.first) ∙ j.split;
        here = of.here;
        placed = ap (λ (s : Seen). s.placement) of.same ∙ j.placed;
      };
      number = refl;
      first = refl;
      desc = ap (λ (s : Seen). s.desc) of.same;
      placement = refl;
    }

pub other_keeps_sitds : (w : World) (line : ℕ) (cmd : Cmd) → HasNoDescriptors cmd → IsMixedWorld w → SitdsStand w.driver w.memory w.control
    → SitdsStand (commanded w line cmd).driver (commanded w line cmd).memory (commanded w line cmd).control
other_keeps_sitds w line cmd other k old = by (offered w.driver w.memory cmd) refl
  where
    by : (r : Result Offered OfferError) → offered w.driver w.memory cmd ≡ r
        → SitdsStand (commanded_by w line (name_in cmd) r).driver (commanded_by w line (name_in cmd) r).memory
        (commanded_by w line (name_in cmd) r).control
    by (Err why) is = refused_stand w line (name_in cmd) why old
    by (Ok o) is =
        let place = k.mixed.now.framed.place in
        let reason = each_command_has_its_reason w.driver w.memory cmd o is in
        let told : IsTold w.driver o = told_by w.driver w.memory cmd o other (reason_of w.driver w.memory cmd o is) in
        record {
          fields = λ j. old_fields w.driver w.memory w.control o place reason old j (told_old w.driver w.memory o place told j);
          hand = λ j. old_hand w.driver w.memory w.control o place reason old j (told_old w.driver w.memory o place told j);
        }

-- ---- isochronous descriptors

-- where it begins, a run was taken
taken_first : (P : ℕ → Type 0) (e : ℕ) (s : Slots) (n : ℕ) (rs : List ℕ) (i : ℕ) (y : Transfer) → length (iso_needs s n) ≤ length rs
    → ((j : ℕ) → j < length rs → P (get_or rs j 0))
    → slice_get (made e s n rs) i ≡ Some y → P y.first
taken_first P e s zero rs i y enough all there = absurd (cc)
taken_first P e s (suc n) rs zero y enough all there =
    subst (λ (t : Transfer). P t.first) (same_Some (descriptor_transfer e s (get_or rs 0 0)) y there) (all 0 (omega (arith, enough)))
taken_first P e s (suc n) rs (suc i) y enough all there =
    let long = length-append (buffer_needs (total_of s)) (iso_needs s n) in
    let left = length-drop (suc (slot_runs s)) rs in
    taken_first P e s n (drop (suc (slot_runs s)) rs) i y (omega (arith, enough, long, left))
    (λ j below. subst P (sym (get_or-drop (suc (slot_runs s)) rs j 0)) (all (suc (slot_runs s) + j) (omega (arith, below, left)))) there

-- the slot of an endpoint below a hub, which has one transaction in a microframe
slot_fits : (x : EpDesc) (len : ℕ) → x.multi ≡ 1 → len ≤ x.max * x.multi → slot_bytes x len ≤ x.max
slot_fits x len one most = by (goes_in x.name.way)
  where
    all : x.max * x.multi ≡ x.max
    all = let e : x.max * 1 ≡ x.max = omega arith in ap (λ (n : ℕ). x.max * n) one ∙ e

    by : (b : Bool) → (if b then x.max * x.multi else len) ≤ x.max
    by true = subst (λ (n : ℕ). n ≤ x.max) (sym all) (omega arith)
    by false = subst (λ (n : ℕ). len ≤ n) all most

pub split_words : (x : EpDesc) (note : DescriptorNote) (m : Mem) (b : ℕ) → note.split ≡ true
    → words_at m (32 * b) (words_of_descriptor note.split) ≡ descriptor_words x note
    → words_at m (32 * b) 7 ≡ sitd_words (new_sitd x note.smask note.cmask note.slot note.buffer)
split_words x note m b split words =
    ap (λ (c : Bool). words_at m (32 * b) (words_of_descriptor c)) (sym split) ∙ words
    ∙ ap (λ (c : Bool). if c then sitd_words (new_sitd x note.smask note.cmask note.slot note.buffer) else itd_words
    (new_itd x note.smask note.slot note.buffer)) split

-- of each endpoint: below a hub one transaction in a microframe, and no line asks for more bytes in a slot than its packets can have
abbrev pub CanHaveSlots : DriverContent → EpName → ℕ → Type 0
CanHaveSlots d name len = (e : ℕ) (v : Endpoint) → slice_get d.endpoints e ≡ Some v → is_iso v.desc.kind ≡ true
    → is_classic v.desc.speed ≡ true → is_same_name v.desc.name name ≡ true
    → (v.desc.multi ≡ 1) × (len ≤ v.desc.max * v.desc.multi)

module _ (w : World) (name : EpName) (count len seed : ℕ) (o : Offered) (mixed : IsMixedWorld w)
    (is : offered w.driver w.memory (commands.Iso name count len seed) ≡ Ok o) where
  abbrev d : DriverContent
  d = w.driver

  abbrev m : Mem
  m = w.memory

  place : IsInPlace w.memory w.driver
  place = mixed.mixed.now.framed.place

  reason : Accepts w.driver w.memory o
  reason = each_command_has_its_reason w.driver w.memory (commands.Iso name count len seed) o is

  i : IsIsoOf w.driver w.memory name len o
  i = is_iso_of w.driver w.memory name count len seed o is

  k : IsIsoAccepted w.driver w.memory o
  k = (is_iso_of w.driver w.memory name count len seed o is).accepted

  module _ (bs : List ℕ) (by : IsByRuns w.driver w.memory o k bs) where
    seen_old : (e : ℕ) (x : Endpoint) → slice_get o.driver.endpoints e ≡ Some x → IsSeenIn w.driver.endpoints e x
    seen_old e x here = seen_there o.driver.endpoints d.endpoints e x (sym (seen_same d m o place k e)) here

    was_old : (j : SplitTransfer o.driver) → slice_get w.driver.transfers j.number ≡ Some j.transfer → IsOldSplit w.driver o.driver j
    was_old j was =
        let of = seen_old j.transfer.endpoint j.endpoint j.here in
        record {
          before = record {
            number = j.number;
            transfer = j.transfer;
            endpoint = of.endpoint;
            placement = j.placement;
            there = was;
            sort = j.sort;
            held = j.held;
            split = ap (λ (v : DescriptorNote). v.split) (sym (note_was d m o place k bs by j.number j.transfer was j.sort j.held))
                ∙ j.split;
            here = of.here;
            placed = ap (λ (s : Seen). s.placement) of.same ∙ j.placed;
          };
          number = refl;
          first = refl;
          desc = ap (λ (s : Seen). s.desc) of.same;
          placement = refl;
        }

    -- ---- a new one

    module _ (j : SplitTransfer o.driver) (new : IsLater (made k.number (slots_of k.endpoint k.len) k.count bs) j.transfer) where
      abbrev note : DescriptorNote
      note = note_at o.driver.periodic.notes j.transfer.first

      at_e : j.transfer.endpoint ≡ k.number
      at_e = (made_is k.number (slots_of k.endpoint k.len) k.count bs new.index j.transfer new.there).0

      same_endpoint : (seen_old j.transfer.endpoint j.endpoint j.here).endpoint ≡ k.endpoint
      same_endpoint =
          let of = seen_old j.transfer.endpoint j.endpoint j.here in
          same_Some of.endpoint k.endpoint (sym of.here ∙ ap (slice_get d.endpoints) at_e ∙ k.here)

      desc : j.endpoint.desc ≡ k.endpoint.desc
      desc = sym (ap (λ (s : Seen). s.desc) (seen_old j.transfer.endpoint j.endpoint j.here).same)
          ∙ ap (λ (x : Endpoint). x.desc) same_endpoint

      placed : k.endpoint.placement ≡ Some j.placement
      placed =
          ap (λ (x : Endpoint). x.placement) (sym same_endpoint)
          ∙ ap (λ (s : Seen). s.placement) (seen_old j.transfer.endpoint j.endpoint j.here).same ∙ j.placed

      its_note : Noted (slots_of k.endpoint k.len) (note_at o.driver.periodic.notes j.transfer.first)
      its_note = noted d m o place k bs by j.transfer new

      classic : is_classic k.endpoint.desc.speed ≡ true
      classic = sym its_note.1 ∙ j.split

      awaited : AwaitsLend o.driver o.memory k.number (length w.driver.transfers)
      awaited =
          let none : o.driver.made ≡ 0 = ap (λ (g : Offered). g.driver.made) by.is in
          commands_keep_awaiting d m (commands.Iso name count len seed) o place mixed.mixed.now.planned mixed.mixed.masks
          mixed.mixed.numbers is
          k.number (length d.transfers) k.count
          (ap (λ (g : Offered). g.driver.command) by.is) (omega (arith, none))

      dropped : slice_get (drop (length w.driver.transfers) o.driver.transfers) new.index ≡ Some j.transfer
      dropped =
          ap (λ (g : Offered). slice_get (drop (length d.transfers) g.driver.transfers) new.index) by.is
          ∙ ap (λ (ts : List Transfer). slice_get (drop (length d.transfers) ts) new.index)
          (all_transfers k.after.book k.number k.endpoint.desc (slots_of k.endpoint k.len) k.count k.seed bs
          (record { notes = d.periodic.notes; transfers = d.transfers; memory = k.after.memory }))
          ∙ ap (λ (ts : List Transfer). slice_get ts new.index)
          (drop_old d.transfers (made k.number (slots_of k.endpoint k.len) k.count bs)) ∙ new.there

      slot_most : CanHaveSlots w.driver name len → note.slot ≤ k.endpoint.desc.max
      unfolding k i
      slot_most can =
          let c = can k.number k.endpoint k.here k.iso classic i.named in
          subst (λ (n : ℕ). n ≤ k.endpoint.desc.max) (sym its_note.3)
          (slot_fits k.endpoint.desc k.len c.0 (subst (λ (n : ℕ). n ≤ k.endpoint.desc.max * k.endpoint.desc.multi) (sym i.same) c.1))

      new_fields : CanHaveSlots w.driver name len → HaveSitdFields (sitd_in o.memory j.transfer.first) j.endpoint.desc j.placement
      new_fields can =
          let a = awaited in
          let same_a : a.endpoint.desc ≡ k.endpoint.desc
          = sym (ap (λ (s : Seen). s.desc) (seen_old k.number a.endpoint a.here).same)
          ∙ ap (λ (x : Endpoint). x.desc) (same_Some (seen_old k.number a.endpoint a.here).endpoint k.endpoint
          (sym (seen_old k.number a.endpoint a.here).here ∙ k.here)) in
          let written = (a.await.each new.index j.transfer dropped).written in
          let fits : HasFields k.endpoint.desc = subst HasFields same_a a.await.fields in
          let words : words_at o.memory (32 * j.transfer.first) (words_of_descriptor note.split) ≡ descriptor_words k.endpoint.desc note
          = subst (λ (x : EpDesc). words_at o.memory (32 * j.transfer.first)
          (words_of_descriptor note.split) ≡ descriptor_words x note) same_a written.words in
          let limit : note.slot ≤ 1023 = subst (λ (c : Bool). note.slot ≤ (if c then 1023 else 3072)) j.split written.noted.few in
          let has = new_sitd_as k.endpoint.desc note.smask note.cmask note.slot j.transfer.first note.buffer o.memory fits
          written.noted.smask written.noted.cmask limit (slot_most can)
          (split_words k.endpoint.desc note o.memory j.transfer.first j.split words) in
          let starts : note.smask ≡ j.placement.smask = its_note.0 ∙ ap smask_of placed in
          let completes : note.cmask ≡ j.placement.cmask = its_note.2 ∙ ap cmask_of placed in
          subst (λ (x : EpDesc). HaveSitdFields (sitd_in o.memory j.transfer.first) x j.placement) (sym desc)
          (record {
            classic = classic;
            has =
                subst (λ (c : ℕ). IsSitdAs (sitd_name k.endpoint.desc) j.placement.smask c k.endpoint.desc.max
                (sitd_in o.memory j.transfer.first)) completes
                (subst (λ (s : ℕ). IsSitdAs (sitd_name k.endpoint.desc) s note.cmask k.endpoint.desc.max
                (sitd_in o.memory j.transfer.first)) starts has);
          })

      -- what is in hand is a siTD that was there
      other_hand : (h : HeldSitd) → w.control.part ≡ Periodic → w.control.frame.hand ≡ Some (hands.Sitd h) → h.at ≡ 32 * j.transfer.first
          → ⊥
      other_hand h on in_hand at =
          let s = mixed.standing in
          let now = mixed.mixed.now.framed in
          let walk = now.runs.walk on in
          let f : IsSitdFrame s.frame h = sitd_in_hand s.frame h (sym walk.held ∙ in_hand) in
          let copied : IsCopiedSitd (met w.driver s.recent) (both s.descs s.parts) w.control.frame.reply f.copy
          = subst (IsInFrame (met w.driver s.recent) (both s.descs s.parts) w.control.frame.got w.control.frame.reply) f.is walk.in_hand in
          let is_met : met w.driver s.recent h.at ≡ Some ASitd =
          subst (λ (x : HeldSitd). met w.driver s.recent x.at ≡ Some ASitd) f.held copied.on in
          ⊎_elim (λ (q : IsDescriptorAt w.driver h.at). fresh q.number q.transfer q.there q.sort q.held q.name)
          (λ (q : IsHarvestedAt w.driver h.at). fresh q.number q.transfer q.there q.sort q.held q.name)
          (descriptor_belongs s w h.at ASitd mixed.mixed is_met (λ same. cc))
        where
          fresh : (t : ℕ) (y : Transfer) → slice_get w.driver.transfers t ≡ Some y → is_descriptor y.sort ≡ true → y.released ≡ false
              → h.at ≡ 32 * y.first → ⊥
          fresh t y there sort held name =
              let same : j.transfer.first ≡ y.first = same_blocks j.transfer.first y.first (sym at ∙ name) in
              let has : HasRun (slot_of d.book.slots y.first)
              = placed_run y.first _ (place.sound.owners.owned.each.described t (runs_of_transfer y)
              (ap (option_map runs_of_transfer) there) sort held).descriptor in
              let enough : length (iso_needs (slots_of k.endpoint k.len) k.count) ≤ length bs = (let long = by.taken.long in
              omega (arith, long)) in
              run_some (slot_of d.book.slots y.first) has
              (ap (slot_of d.book.slots) (sym same)
              ∙ taken_first (λ (b : ℕ). slot_of d.book.slots b ≡ Empty) k.number
              (slots_of k.endpoint k.len) k.count bs new.index j.transfer enough (λ q below. by.taken.fresh q below) new.there)

    each_split : (j : SplitTransfer o.driver) → IsOldSplit w.driver o.driver j ⊎ IsNewSplit o.driver o.memory j
    each_split j =
        ⊎_elim {C = IsOldSplit w.driver o.driver j ⊎ IsNewSplit o.driver o.memory j}
        (λ (was : slice_get d.transfers j.number ≡ Some j.transfer). inl (was_old j was))
        (λ (new : IsLater (made k.number (slots_of k.endpoint k.len) k.count bs) j.transfer).
        inr (record { number = k.number; first = length d.transfers; awaits = awaited j new; index = new.index; there = dropped j new }))
        (transfer_there d m o place k bs by j.number j.transfer j.there)

    iso_stand : SitdsStand w.driver w.memory w.control → CanHaveSlots w.driver name len → SitdsStand o.driver o.memory w.control
    iso_stand old can = record {
      fields = λ j.
          ⊎_elim {C = HaveSitdFields (sitd_in o.memory j.transfer.first) j.endpoint.desc j.placement}
          (λ (was : slice_get d.transfers j.number ≡ Some j.transfer). old_fields d m w.control o place reason old j (was_old j was))
          (λ (new : IsLater (made k.number (slots_of k.endpoint k.len) k.count bs) j.transfer). new_fields j new can)
          (transfer_there d m o place k bs by j.number j.transfer j.there);
      hand = λ j h on in_hand at.
          ⊎_elim {C = HaveSitdFields h.sitd j.endpoint.desc j.placement}
          (λ (was : slice_get d.transfers j.number ≡ Some j.transfer). old_hand d m w.control o place reason old j
          (was_old j was) h on in_hand at)
          (λ (new : IsLater (made k.number (slots_of k.endpoint k.len) k.count bs) j.transfer). absurd (other_hand j new h on in_hand at))
          (transfer_there d m o place k bs by j.number j.transfer j.there);
    }

  -- each is one or the other
  pub iso_split : (j : SplitTransfer o.driver) → IsOldSplit w.driver o.driver j ⊎ IsNewSplit o.driver o.memory j
  iso_split = each_split _ (by_runs d m o place k)

  iso_keeps : SitdsStand w.driver w.memory w.control → CanHaveSlots w.driver name len → SitdsStand o.driver o.memory w.control
  iso_keeps old can = iso_stand _ (by_runs d m o place k) old can

pub iso_keeps_sitds : (w : World) (line : ℕ) (name : EpName) (count len seed : ℕ) → IsMixedWorld w → CanHaveSlots w.driver name len
    → SitdsStand w.driver w.memory w.control
    → SitdsStand (commanded w line (commands.Iso name count len seed)).driver (commanded w line (commands.Iso name count len seed)).memory
    (commanded w line (commands.Iso name count len seed)).control
iso_keeps_sitds w line name count len seed mixed can old = by (offered w.driver w.memory (commands.Iso name count len seed)) refl
  where
    by : (r : Result Offered OfferError) → offered w.driver w.memory (commands.Iso name count len seed) ≡ r
        → SitdsStand (commanded_by w line name r).driver (commanded_by w line name r).memory (commanded_by w line name r).control
    by (Err why) is = refused_stand w line name why old
    by (Ok o) is = iso_keeps w name count len seed o mixed is old can
