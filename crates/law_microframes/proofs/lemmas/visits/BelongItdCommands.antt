-- Each command that takes on no isochronous descriptors leaves the iTDs as they stand.
use Rattle.std.proofs.Common.{if◌then◌else◌, ◌≡◌, ℕ, ◌+◌, ◌*◌, ◌/◌, ◌<◌, Bool, true, false, List, [], ◌∷◌, length, slice_get, Option, Some, None, Result, Ok, Err, option_map, ap, refl, sym, subst, ◌∙◌, ⊎_elim, arith}
use Rattle.std.proofs.lemmas.Bool.{true≢false}
use Rattle.law_microframes.proofs.Common.{idle_by}
use Rattle.law_common.proofs.Lists.{push_which}
use Rattle.usb_base.specs.declared.commands.Cmd.{Cmd}
use Rattle.usb_base.specs.declared.commands.Cmd.TheVariants as commands
use Rattle.usb_base.specs.declared.endpoints.EpName.{EpName}
use Rattle.usb_base.specs.declared.endpoints.EpDesc.{EpDesc}
use Rattle.usb_base.specs.declared.reports.OfferError.{OfferError}
use Rattle.word_mem.specs.Memory.{Mem, is_lent, word_at}
use Rattle.word_mem.proofs.Words.{words_in_same}
use Rattle.mem_runs.specs.declared.slots.Slot.{Slot}
use Rattle.mem_runs.specs.declared.slots.Slot.TheVariants as slots
use Rattle.mem_runs.specs.Book.{holding, slot_of}
use Rattle.mem_runs.proofs.Standing.{lends_at, lends_all}
use Rattle.qh_qtd.specs.declared.queue_head.Qh.{Qh}
use Rattle.itd_sitd.specs.Itd.{itd_at}
use Rattle.bandwidth.specs.declared.placements.Placement.{Placement}
use Rattle.drv_periodic_table.specs.Periodic.{note_at}
use Rattle.drv_table.specs.declared.content.Endpoint.{Endpoint}
use Rattle.drv_table.specs.declared.content.Transfer.{Transfer}
use Rattle.drv_table.specs.declared.content.Command.{Command}
use Rattle.drv_table.specs.declared.content.Command.TheVariants as unfinished
use Rattle.drv_table.specs.DriverContent.{DriverContent}
use Rattle.drv_table.specs.Accepting.{Offered}
use Rattle.drv_table.specs.Offers.{Asked, offered, new_transfer}
use Rattle.drv_table.specs.CancelOffers.{with_cancel, endpoint_members}
use Rattle.law_driver.specs.run_owners.Accepts.{Accepts}
use Rattle.claims_driver.specs.Owners.{HasBlocks, DescriptorRuns, is_descriptor, runs_of_transfer}
use Rattle.claims_driver.specs.LentRuns.{still_lends, begins_in}
use Rattle.law_driver.specs.in_place.InPlace.{IsInPlace}
use Rattle.law_driver.proofs.lemmas.run_owners.Commands.{each_command_has_its_reason}
use Rattle.law_driver.proofs.lemmas.run_owners.Stays.{or_done, begun_notes}
use Rattle.law_structures.specs.lent_structures.Changes.{Leaves}
use Rattle.law_driver.proofs.lemmas.queued_drivers.CommandReasons.{IsNew, in_ring, in_frames, bare, IsTakenOn, IsLeft, from_ring, from_frames, IsReasonOf, reason_of}
use Rattle.bus_world.specs.World.{World, name_in, commanded_by, commanded}
use Rattle.law_world.specs.memory.Mixed.{IsMixedWorld}
use Rattle.law_world.proofs.lemmas.memory.LeavesLent.{leaves_lent}
use Rattle.law_microframes.specs.visits.DescriptorFields.{itd_in, HaveItdFields, IsServed, ItdsStand}
use Rattle.law_microframes.proofs.lemmas.visits.BelongSeen.{Seen, IsSeenIn, seen_there}
use Rattle.law_microframes.proofs.lemmas.visits.BelongCommands.{SeesSame, HasPushed, taken_same, left_same, opened_new}
use Rattle.law_microframes.proofs.lemmas.visits.BelongTold.{or_left}

-- it takes on no isochronous descriptors
abbrev pub HasNoDescriptors : Cmd → Type 0
HasNoDescriptors (commands.Iso name count len seed) = ⊥
HasNoDescriptors _ = Unit {0}

-- ---- what is lent stays

-- while no command is unfinished each descriptor is lent, and its words stay
pub old_words : (d : DriverContent) (m new : Mem) (b n i : ℕ) → IsInPlace m d → d.command ≡ None → Leaves m new
    → HasBlocks n (slot_of d.book.slots b) → i < 8 * n
    → word_at new (32 * b + 4 * i) ≡ word_at m (32 * b + 4 * i)
old_words d m new b n i place idle leaves run small = by (slot_of d.book.slots b) refl
  where
    by : (c : Slot) → slot_of d.book.slots b ≡ c → word_at new (32 * b + 4 * i) ≡ word_at m (32 * b + 4 * i)
    by slots.Empty is = absurd (subst (HasBlocks n) is run)
    by (slots.Keeps r) is =
        let none : d.book.taken ≡ [] = place.lent.lent (ap (λ (c : Option Command). still_lends c d.made) idle) in
        absurd (true≢false (sym (place.lent.kept b r is) ∙ ap (begins_in b) none))
    by (slots.Lends r) is =
        let h = holding d.book m in
        let first = (lends_at h b r place.sound.stands is).0 in
        let blocks : r.blocks ≡ n = subst (HasBlocks n) is run in
        leaves.words (32 * b + 4 * i) (ap is_lent
        (lends_all h b r place.sound.stands is ((32 * b + 4 * i) / 32) (omega (arith, first)) (omega (arith, first, blocks, small))))

pub old_stays : (d : DriverContent) (m new : Mem) (t : ℕ) (y : Transfer) → IsInPlace m d → d.command ≡ None → Leaves m new
    → slice_get d.transfers t ≡ Some y → is_descriptor y.sort ≡ true → y.released ≡ false
    → (note_at d.periodic.notes y.first).split ≡ false → itd_in new y.first ≡ itd_in m y.first
old_stays d m new t y place idle leaves there sort held split =
    let run : HasBlocks 2 (slot_of d.book.slots y.first) =
    subst (λ (c : Bool). HasBlocks (if c then 1 else 2) (slot_of d.book.slots y.first)) split
    (place.sound.owners.owned.each.described t (runs_of_transfer y) (ap (option_map runs_of_transfer) there) sort held).descriptor.run in
    ap itd_at (words_in_same m.words new.words (32 * y.first) 16
    (λ i small. old_words d m new y.first 2 i place idle leaves run (omega (arith, small))))

-- ---- what is told of transfers, of descriptors and of their endpoints

-- the descriptors are those that there were, of the same endpoints
pub record IsTold (d : DriverContent) (o : Offered) : Type 0 where
  pub transfers_are : (t : ℕ) (z : Transfer) → slice_get o.driver.transfers t ≡ Some z → is_descriptor z.sort ≡ true
      → slice_get d.transfers t ≡ Some z
  pub splits : (b : ℕ) → (note_at o.driver.periodic.notes b).split ≡ (note_at d.periodic.notes b).split
  pub endpoints_are : (e : ℕ) (x : Endpoint) → e < length d.endpoints → slice_get o.driver.endpoints e ≡ Some x → IsSeenIn d.endpoints e x

module _ (d : DriverContent) (m : Mem) (o : Offered) where
  seen_same : SeesSame d o → (e : ℕ) (x : Endpoint) → e < length d.endpoints → slice_get o.driver.endpoints e ≡ Some x → IsSeenIn d.endpoints e x
  seen_same same e x below here = seen_there o.driver.endpoints d.endpoints e x (sym (same e)) here

  seen_pushed : HasPushed d o → (e : ℕ) (x : Endpoint) → e < length d.endpoints → slice_get o.driver.endpoints e ≡ Some x → IsSeenIn d.endpoints e x
  seen_pushed h e x below here =
      ⊎_elim {C = IsSeenIn d.endpoints e x} (λ (was : slice_get d.endpoints e ≡ Some x). record { endpoint = x; here = was; same = refl })
      (λ (is : (e ≡ length d.endpoints) × (x ≡ h.new)). let same = is.0 in absurd (omega (arith, same, below)))
      (push_which d.endpoints h.new e x (ap (λ (xs : List Endpoint). slice_get xs e) (sym h.endpoints) ∙ here))

  ok_is : {p q : Offered} → ◌≡◌ {A = Result Offered OfferError} (Ok p) (Ok q) → q ≡ p
  ok_is e = cc

  taken_told : (name : EpName) (takes : Endpoint → Bool) (a : Asked) → is_descriptor a.sort ≡ false → IsTakenOn d m o name takes a → IsTold d o
  taken_told name takes a queued why =
      let is = ok_is why.is in
      record {
        transfers_are = λ t z there sort.
            ⊎_elim (λ (was : slice_get d.transfers t ≡ Some z). was)
            (λ (new : (t ≡ length d.transfers) × (z ≡ new_transfer why.number a why.endpoint.dummy)).
            absurd (true≢false (sym sort ∙ ap (λ (c : Transfer). is_descriptor c.sort) new.1 ∙ queued)))
            (push_which d.transfers (new_transfer why.number a why.endpoint.dummy) t z
            (ap (λ (g : Offered). slice_get g.driver.transfers t) (sym is) ∙ there));
        splits = λ b. ap (λ (g : Offered). (note_at g.driver.periodic.notes b).split) is;
        endpoints_are = seen_same (taken_same d m o name takes a why);
      }

  opened_told : (x : EpDesc) → IsNew d m o x → IsTold d o
  opened_told x (in_ring why same) = record {
    transfers_are = λ t z there sort. ap (λ (g : Offered). slice_get g.driver.transfers t) (sym why.is) ∙ there;
    splits = λ b. ap (λ (g : Offered). (note_at g.driver.periodic.notes b).split) why.is;
    endpoints_are = seen_pushed (opened_new d m o x (in_ring why same));
  }
  opened_told x (in_frames why same) = record {
    transfers_are = λ t z there sort. ap (λ (g : Offered). slice_get g.driver.transfers t) (sym why.is) ∙ there;
    splits = λ b. ap (λ (g : Offered). (note_at g.driver.periodic.notes b).split) why.is;
    endpoints_are = seen_pushed (opened_new d m o x (in_frames why same));
  }
  opened_told x (bare why same) = record {
    transfers_are = λ t z there sort. ap (λ (g : Offered). slice_get g.driver.transfers t) (sym why.is) ∙ there;
    splits = λ b. ap (λ (g : Offered). (note_at g.driver.periodic.notes b).split) why.is;
    endpoints_are = seen_pushed (opened_new d m o x (bare why same));
  }

  left_told : (name : EpName) → IsLeft d m o name → IsTold d o
  left_told name (from_ring why named) = record {
    transfers_are = λ t z there sort. ap (λ (g : Offered). slice_get g.driver.transfers t) (sym why.is) ∙ there;
    splits = λ b. ap (λ (g : Offered). (note_at g.driver.periodic.notes b).split) why.is;
    endpoints_are = seen_same (left_same d m o name (from_ring why named));
  }
  left_told name (from_frames why named) =
      let with = with_cancel d why.number why.endpoint (endpoint_members d why.number why.endpoint why.placement) in
      let same = or_left with (unfinished.Unchain why.number) in
      record {
        transfers_are = λ t z there sort.
            ap (λ (ts : List Transfer). slice_get ts t) (sym same) ∙ ap (λ (g : Offered). slice_get g.driver.transfers t) (sym why.is) ∙ there;
        splits = λ b.
            ap (λ (g : Offered). (note_at g.driver.periodic.notes b).split) why.is
            ∙ ap (λ (r : DescriptorRuns). r.split) ((or_done with (unfinished.Unchain why.number)).same.buffers b)
            ∙ ap (λ ns. (note_at ns b).split) (begun_notes true (record d.periodic { queued = endpoint_members d why.number why.endpoint why.placement }));
        endpoints_are = seen_same (left_same d m o name (from_frames why named));
      }

pub told_by : (d : DriverContent) (m : Mem) (cmd : Cmd) (o : Offered) → HasNoDescriptors cmd → IsReasonOf d m o cmd → IsTold d o
told_by d m (commands.OpenEp x) o other why = opened_told d m o x why
told_by d m (commands.Get name len by) o other why = taken_told d m o name _ _ refl why
told_by d m (commands.Put name bytes by) o other why = taken_told d m o name _ _ refl why
told_by d m (commands.Control name setup bytes) o other why = taken_told d m o name _ _ refl why
told_by d m (commands.Iso name count len seed) o other why = absurd other
told_by d m (commands.Cancel name) o other why = left_told d m o name why
told_by d m _ o other why = absurd why

-- ---- they stand

module _ (d : DriverContent) (m : Mem) (o : Offered) (place : IsInPlace m d) (reason : Accepts d m o) (told : IsTold d o) (old : ItdsStand d m) where
  stays : (t : ℕ) (z : Transfer) → slice_get o.driver.transfers t ≡ Some z → is_descriptor z.sort ≡ true → z.released ≡ false → (note_at o.driver.periodic.notes z.first).split ≡ false
      → itd_in o.memory z.first ≡ itd_in m z.first
  stays t z there sort held split =
      old_stays d m o.memory t z place (idle_by d m o reason) (leaves_lent d m o reason place) (told.transfers_are t z there sort) sort held (sym (told.splits z.first) ∙ split)

  accepted_stand : ItdsStand o.driver o.memory
  accepted_stand = record {
    fields = λ t z x p there sort held split here placed.
        let was = told.transfers_are t z there sort in
        let of : IsSeenIn d.endpoints z.endpoint x = told.endpoints_are z.endpoint x (place.sound.owners.orderly.within t z was) here in
        let h = old.fields t z of.endpoint p was sort held (sym (told.splits z.first) ∙ split) of.here (ap (λ (e : Seen). e.placement) of.same ∙ placed) in
        let desc = ap (λ (e : Seen). e.desc) of.same in
        subst (λ v. HaveItdFields v x.desc p) (sym (stays t z there sort held split)) (subst (λ (y : EpDesc). HaveItdFields (itd_in m z.first) y p) desc h);
    served = λ t z there sort reported held split u small.
        subst IsServed (sym (stays t z there sort held split)) (old.served t z (told.transfers_are t z there sort) sort reported held (sym (told.splits z.first) ∙ split)) u small;
  }

pub other_keeps_itds : (w : World) (line : ℕ) (cmd : Cmd) → HasNoDescriptors cmd → IsMixedWorld w → ItdsStand w.driver w.memory
    → ItdsStand (commanded w line cmd).driver (commanded w line cmd).memory
other_keeps_itds w line cmd other k old = by (offered w.driver w.memory cmd) refl
  where
    by : (r : Result Offered OfferError) → offered w.driver w.memory cmd ≡ r → ItdsStand (commanded_by w line (name_in cmd) r).driver (commanded_by w line (name_in cmd) r).memory
    by (Err why) is = record { fields = old.fields; served = old.served }
    by (Ok o) is =
        accepted_stand w.driver w.memory o k.mixed.now.framed.place (each_command_has_its_reason w.driver w.memory cmd o is) (told_by w.driver w.memory cmd o other (reason_of w.driver w.memory cmd o is)) old
