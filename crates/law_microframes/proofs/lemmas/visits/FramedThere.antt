-- The frame in which a descriptor stands that may be met is the one that it was given, whatever the driver does (EHCI 1.0, 4.6 and 4.7).
use Rattle.std.proofs.Common.{◌≡◌, ◌≢◌, ℕ, zero, suc, ◌+◌, ◌*◌, ◌/◌, ◌<◌, ◌≤◌, ◌⊎◌, Bool, true, false, not, ◌&&◌, ◌||◌, inl, inr, List, [], ◌∷◌, ◌++◌, length, drop, slice_get, get_or, Option, Some, None, option_map, if◌then◌else◌, ⊎_elim, ap, refl, sym, subst, ◌∙◌, arith}
use Rattle.std.specs.Prelude.{is_none}
use Rattle.std.proofs.lemmas.Bool.{true≢false, false≢true, not-true, and_parts, eqb-true, cases_lt}
use Rattle.std.proofs.lemmas.Option.{same_Some, slice_get_within}
use Rattle.law_common.proofs.Booleans.{out_owed, either_if}
use Rattle.law_driver.proofs.Common.{once_is, waits_is, blocks_run}
use Rattle.law_frame_list.proofs.Common.{no_descriptor}
use Rattle.law_common.proofs.Numbers.{same_blocks}
use Rattle.drv_chains.specs.declared.members.Descriptor.{Descriptor}
use Rattle.drv_chains.specs.declared.members.QueueHead.{QueueHead as Queue}
use Rattle.drv_chains.specs.declared.members.Member.{Member}
use Rattle.drv_chains.specs.declared.members.Member.TheVariants.{Once, Each}
use Rattle.drv_chains.specs.Chains.{stands_in}
use Rattle.drv_members.specs.Members.{is_linked}
use Rattle.drv_periodic_table.specs.declared.content.Removal.{Removal}
use Rattle.drv_periodic_table.specs.declared.content.Removed.{Removed}
use Rattle.drv_periodic_table.specs.declared.content.Removed.TheVariants as removed
use Rattle.drv_periodic_table.specs.declared.content.DescriptorNote.{DescriptorNote}
use Rattle.drv_periodic_table.specs.Periodic.{is_periodic, note_at, descriptor_name}
use Rattle.drv_table.specs.declared.content.Command.{Command}
use Rattle.drv_table.specs.declared.content.Command.TheVariants as unfinished
use Rattle.drv_table.specs.declared.content.Endpoint.{Endpoint}
use Rattle.drv_table.specs.declared.content.Transfer.{Transfer}
use Rattle.drv_table.specs.DriverContent.{DriverContent, waits_for}
use Rattle.drv_table.specs.Accepting.{Offered}
use Rattle.drv_table.specs.CancelOffers.{endpoint_members, with_cancel}
use Rattle.drv_table.specs.Commands.{finished}
use Rattle.drv_table.specs.Offers.{new_transfer}
use Rattle.drv_table.specs.Rows.{driver_row, after_driver_row}
use Rattle.mem_runs.specs.Book.{slot_of}
use Rattle.claims_driver.specs.DueMembers.{framed_to}
use Rattle.claims_driver.specs.FrameListMembers.{framed_of, framed_in, is_chained}
use Rattle.law_driver.specs.listed_members.Members.{IsDescribing, IsStanding, IsQueueOf, IsListed, IsUnderWay}
use Rattle.claims_driver.specs.Leaving.{leaves_frames, HasOwners}
use Rattle.claims_driver.specs.Owners.{HasRun, is_descriptor, runs_of_transfer, views_of}
use Rattle.law_descriptors.specs.Removed.{IsRemovedAt, a_descriptor, a_queue, a_waiting, IsRemovedSince, IsUnchainedNow}
use Rattle.law_driver.proofs.lemmas.listed_members.Standing.{IsSeen, seen, standing_block}
use Rattle.law_driver.proofs.lemmas.listed_members.Owned.{queue_owned}
use Rattle.law_driver.proofs.lemmas.run_owners.Reasons.{each_event_is_due}
use Rattle.law_driver.proofs.lemmas.run_owners.Stays.{begun_notes}
use Rattle.law_driver.specs.run_owners.Accepts.{Accepts, opens, chains, places, transfers, describes, cancels, unchains, Transfers, Describes, Unchains}
use Rattle.law_frame_list.proofs.lemmas.list_spread.Spreading.{queue_there, standing_there}
use Rattle.law_frames.specs.Met.{Kind}
use Rattle.law_descriptors.specs.Meeting.{standing, or_recent, met}
use Rattle.law_descriptors.specs.Recent.{AreRecent}
use Rattle.law_descriptors.proofs.Returning.{endpoint_counts}
use Rattle.bus_world.specs.World.{World, driver_parts, driver_next}
use Rattle.claims_world.specs.Visits.{begins}
use Rattle.law_world.specs.memory.Mixed.{Standing, IsMixedAt}
use Rattle.law_microframes.specs.visits.Visited.{IsFramedAs}
use Rattle.law_microframes.proofs.lemmas.visits.ActiveStands.{met_is_lent}
use Rattle.law_microframes.proofs.lemmas.visits.BelongQueues.{queue_by, alive, removed_kept, removed_frames, unchained_in, waiting_held, removed_held, endpoint_same}
use Rattle.law_microframes.proofs.lemmas.visits.InFrames.{no_transfer}
use Rattle.law_microframes.proofs.lemmas.visits.OneDescriptor.{lent_framed}
use Rattle.law_microframes.proofs.lemmas.visits.OneDescriptorDriven.{Follows, one_block, row_follows}
use Rattle.law_microframes.proofs.lemmas.visits.LeftOwned.{HasName, has_name}
use Rattle.law_microframes.proofs.lemmas.visits.OneDescriptorOffered.{either_pushed, describes_framed}
use Rattle.law_microframes.proofs.lemmas.visits.OneDescriptorRows.{From, done_transfers, done_notes}

module _ (s : Standing) (w : World) (k : IsMixedAt s w) where
  abbrev d : DriverContent
  d = w.driver

  has : HasOwners w.driver
  has = k.now.framed.place.sound.owners

  listed : IsListed w.driver
  listed = k.now.framed.place.sound.listed

  -- ---- all have their frames but those that an unfinished command takes on

  framed_unless : (t : ℕ) (y : Transfer) → slice_get w.driver.transfers t ≡ Some y
      → ((e first count : ℕ) → w.driver.command ≡ Some (unfinished.Iso e first count) → first ≤ t → ⊥)
      → t < framed_to w.driver.command w.driver.made (length w.driver.transfers)
  framed_unless t y here new = by w.driver.command w.driver.made refl
    where
      low : t < length w.driver.transfers
      low = slice_get_within w.driver.transfers t y here

      by : (c : Option Command) (made : ℕ) → w.driver.command ≡ c → t < framed_to c made (length w.driver.transfers)
      by None made is = low
      by (Some (unfinished.Open queue)) made is = low
      by (Some (unfinished.Publish b words)) made is = low
      by (Some (unfinished.Unlink e b link)) made is = low
      by (Some unfinished.Chain) made is = low
      by (Some (unfinished.Iso e first count)) zero is = ⊎_elim (λ (less : t < first). less)
          (λ (more : first ≤ t). absurd (new e first count is more)) (cases_lt t first)
      by (Some (unfinished.Iso e first count)) (suc made) is = low
      by (Some (unfinished.Unchain e)) made is = low

  -- these wait at the endpoint, which is in its frames
  record IsNew (e : ℕ) (y : Transfer) : Type 0 where
    endpoint : y.endpoint ≡ e
    untold : y.reported ≡ false
    chained : is_chained (framed_in w.driver.endpoints y.endpoint) ≡ true

  new_waits : (e first count t : ℕ) (y : Transfer) → w.driver.command ≡ Some (unfinished.Iso e first count) → first ≤ t
      → slice_get w.driver.transfers t ≡ Some y → IsNew e y
  new_waits e first count t y is more here =
      let r : IsDescribing w.driver e first count = subst (IsUnderWay w.driver) is listed.way in
      let p = r.each t more (slice_get_within w.driver.transfers t y here) in
      let v : IsSeen w.driver.endpoints w.driver.transfers t p.0 = seen w.driver.endpoints w.driver.transfers t p.0 p.1.0 in
      let same : v.transfer ≡ y = same_Some v.transfer y (sym v.there ∙ here) in
      let both = and_parts (not v.transfer.reported) (is_chained (framed_in w.driver.endpoints v.transfer.endpoint))
      (sym v.waits ∙ p.1.1.1) in
      subst (IsNew e) same (record { endpoint = sym v.endpoint ∙ p.1.1.0; untold = not-true v.transfer.reported both.0; chained = both.1 })

  -- ---- what was unlinked isn't new

  module _ (n t : ℕ) (y : Transfer) (here : slice_get w.driver.transfers t ≡ Some y) (sort : is_descriptor y.sort ≡ true)
      (held : y.released ≡ false) (at : n ≡ 32 * y.first)
      (e first count : ℕ) (taking : w.driver.command ≡ Some (unfinished.Iso e first count)) (more : first ≤ t) where
    new : IsNew e y
    new = new_waits e first count t y taking more here

    -- one transfer has the block
    one_there : (u : ℕ) (z : Transfer) → slice_get w.driver.transfers u ≡ Some z → is_descriptor z.sort ≡ true → z.released ≡ false
        → n ≡ 32 * z.first → z ≡ y
    one_there u z there sort_z held_z name =
        let one : u ≡ t = one_block w.driver u t z y has there here sort_z sort held_z held (same_blocks z.first y.first (sym name ∙ at)) in
        same_Some z y (sym there ∙ ap (slice_get w.driver.transfers) one ∙ here)

    removed_old : (i : ℕ) (r : Removal) (what : Removed) → slice_get w.driver.periodic.removals i ≡ Some r → r.what ≡ what
        → IsRemovedAt w.driver.endpoints w.driver.transfers n what → ⊥
    removed_old i r _ there is (a_descriptor u z in_list name) =
        let h = removed_held w.driver has u z i r in_list there is in
        let one : z ≡ y = one_there u z in_list h.1.1 h.1.0 name in
        true≢false (sym h.0 ∙ ap (λ (v : Transfer). v.reported) one ∙ new.untold)
    removed_old i r _ there is (a_queue f x in_list queue name) =
        no_transfer w.driver has n
        (queue_by w.driver has k.now.planned n f x in_list (removed_kept w.driver has f x i r in_list there is)
        (removed_frames w.driver has f x i r in_list there is) queue name) t y here sort held at
    removed_old i r _ there is (a_waiting f u x z in_list iso in_transfers sort_z waits name) =
        let kept = removed_kept w.driver has f x i r in_list there is in
        let one : z ≡ y = one_there u z in_transfers sort_z (waiting_held w.driver has f u x z in_list kept in_transfers waits) name in
        let its : y.endpoint ≡ f = ap (λ (v : Transfer). v.endpoint) (sym one) ∙ (waits_is f z waits).0 in
        let on : x.chained ≡ true
        = ap (λ (o : Option Endpoint). is_chained (option_map framed_of o)) (sym in_list)
        ∙ ap (λ (i : ℕ). is_chained (framed_in w.driver.endpoints i)) (sym its) ∙ new.chained in
        let counts = endpoint_counts f w.driver.periodic.removals i r there is in
        let most = has.orderly.removed f in
        let owes_it : leaves_frames
        (slice_get w.driver.endpoints f) ≡ (if x.chained || x.gone || not (is_periodic x.desc.kind) then 0 else 1) = ap leaves_frames
        in_list in
        true≢false (sym on ∙ out_owed x.chained x.gone (is_periodic x.desc.kind) (omega (arith, counts, most, owes_it)))

    unchained_old : (g : ℕ) → w.driver.command ≡ Some (unfinished.Unchain g) → ⊥
    unchained_old g is = let same : Some (unfinished.Iso e first count) ≡ Some (unfinished.Unchain g) = sym taking ∙ is in cc

    recent_old : (left : ℕ → Option Kind) (kind : Kind) → AreRecent w.driver w.registers.frame_index left → left n ≡ Some kind → ⊥
    recent_old left kind are is =
        ⊎_elim {C = ⊥}
        (λ (since : IsRemovedSince w.driver.endpoints w.driver.transfers w.driver.periodic.removals w.registers.frame_index n).
        removed_old since.place since.removal since.removal.what since.here refl since.what)
        (λ (now : IsUnchainedNow w.driver.endpoints w.driver.transfers w.driver.command n). unchained_old now.endpoint now.command)
        (are n kind is)

  -- ---- so each that may be met has its frame

  pub framed_there : (left : ℕ → Option Kind) (n : ℕ) (kind : Kind) → AreRecent w.driver w.registers.frame_index left
      → met w.driver left n ≡ Some kind → (t : ℕ) (y : Transfer)
      → slice_get w.driver.transfers t ≡ Some y → is_descriptor y.sort ≡ true → y.released ≡ false → n ≡ 32 * y.first
      → t < framed_to w.driver.command w.driver.made (length w.driver.transfers)
  framed_there left n kind are is t y here sort held at = by (standing w.driver n) refl is
    where
      by : (o : Option Kind) → standing w.driver n ≡ o → or_recent o (left n) ≡ Some kind
          → t < framed_to w.driver.command w.driver.made (length w.driver.transfers)
      by (Some one) some on =
          lent_framed w.driver w.memory t y k.awaiting here
          (met_is_lent s w n t y one k (ap (λ (o : Option Kind). or_recent o (s.recent n)) some) here sort held at)
      by None none on = framed_unless t y here
          (λ e first count taking more. recent_old n t y here sort held at e first count taking more left kind are on)

  -- ---- an event of the driver

  follows_framed : (new : DriverContent) (n : ℕ) (x : Member) → Follows w.driver w.memory new
      → ((t : ℕ) (y : Transfer) → slice_get w.driver.transfers t ≡ Some y → is_descriptor y.sort ≡ true → y.released ≡ false
      → n ≡ 32 * y.first
      → t < framed_to w.driver.command w.driver.made (length w.driver.transfers)) → IsFramedAs w.driver n x → IsFramedAs new n x
  follows_framed new n x follows low framed t z here sort held at g stands =
      let f : From w.driver w.memory t z = follows.back t z here sort held in
      let was : n ≡ 32 * f.transfer.first = at ∙ ap (λ (b : ℕ). 32 * b) (sym f.first) in
      let same : (note_at new.periodic.notes z.first).frame ≡ (note_at w.driver.periodic.notes z.first).frame
      = follows.kept t z here sort held (low t f.transfer f.here f.descriptor f.held was) in
      framed t f.transfer f.here f.descriptor f.held was g stands ∙ ap (λ (b : ℕ). (note_at w.driver.periodic.notes b).frame) f.first
      ∙ sym same

  its_follows : Follows w.driver w.memory (driver_next w).driver
  its_follows = row_follows (driver_row (driver_parts w)) (driver_parts w) (each_event_is_due (driver_parts w)) k.now.framed.place.sound

  pub driver_framed : (left : ℕ → Option Kind) (n : ℕ) (kind : Kind) (x : Member) → AreRecent w.driver w.registers.frame_index left
      → met w.driver left n ≡ Some kind
      → IsFramedAs w.driver n x → IsFramedAs (driver_next w).driver n x
  driver_framed left n kind x are is framed = follows_framed (driver_next w).driver n x its_follows (framed_there left n kind are is) framed

  pub lent_stays_framed : (n : ℕ) (x : Member)
      → ((t : ℕ) (y : Transfer) → slice_get w.driver.transfers t ≡ Some y → is_descriptor y.sort ≡ true → y.released ≡ false
      → n ≡ 32 * y.first
      → t < framed_to w.driver.command w.driver.made (length w.driver.transfers)) → IsFramedAs w.driver n x
      → IsFramedAs (driver_next w).driver n x
  lent_stays_framed n x low framed = follows_framed (driver_next w).driver n x its_follows low framed

-- ---- a member of the list

module _ (d : DriverContent) (has : HasOwners d) (listed : IsListed d) (n : ℕ) where
  descriptor_framed : (c : Descriptor) → is_linked d.periodic.list.members.schedule (Once c) ≡ true → begins (Once c) ≡ n
      → IsFramedAs d n (Once c)
  descriptor_framed c on at t y here sort held name g stands =
      let m : IsStanding d (Once c) = standing_there d c listed on in
      let block : m.placed.block ≡ y.first = sym (standing_block d (Once c) m) ∙ same_blocks (c.id / 32) y.first (at ∙ name) in
      let its : record {
        id = descriptor_name
            (note_at d.periodic.notes m.placed.block) m.placed.block;
        frame = (note_at d.periodic.notes m.placed.block).frame;
      } ≡ c = once_is _ c
      m.is in
      sym (eqb-true c.frame g stands) ∙ ap (λ (x : Descriptor). x.frame) (sym its)
      ∙ ap (λ (b : ℕ). (note_at d.periodic.notes b).frame) block

  queue_framed : (q : Queue) → is_linked d.periodic.list.members.schedule (Each q) ≡ true → begins (Each q) ≡ n → IsFramedAs d n (Each q)
  queue_framed q on at t y here sort held name g stands =
      let s : IsQueueOf d q = queue_there d q listed on in
      let o = has.owned.each.described t (runs_of_transfer y) (ap (option_map runs_of_transfer) here) sort held in
      absurd (no_descriptor s.number t ((views_of d).descriptor y.first).split
      (sym (queue_owned d q has s).owned ∙ ap has.owner (same_blocks (q.id / 32) y.first (at ∙ name)) ∙ o.descriptor.owned))

  pub linked_framed : (x : Member) → is_linked d.periodic.list.members.schedule x ≡ true → begins x ≡ n → IsFramedAs d n x
  linked_framed (Once c) on at = descriptor_framed c on at
  linked_framed (Each q) on at = queue_framed q on at

-- ---- a command

same_framed : (d new : DriverContent) (n : ℕ) (x : Member) → new.transfers ≡ d.transfers → new.periodic.notes ≡ d.periodic.notes
    → IsFramedAs d n x → IsFramedAs new n x
same_framed d new n x ts notes framed t y here sort held at g stands =
    framed t y (ap (λ (us : List Transfer). slice_get us t) (sym ts) ∙ here) sort held at g stands
    ∙ ap (λ (ns : List DescriptorNote). (note_at ns y.first).frame) (sym notes)

module _ (s : Standing) (w : World) (k : IsMixedAt s w) (o : Offered) (left : ℕ → Option Kind) (n : ℕ) (kind : Kind) (x : Member)
    (are : AreRecent w.driver w.registers.frame_index left)
    (is : met w.driver left n ≡ Some kind) (framed : IsFramedAs w.driver n x) where
  pushed_framed : (why : Transfers w.driver w.memory o) → IsFramedAs o.driver n x
  pushed_framed why t y here sort held at g stands =
      ⊎_elim
      (λ (old : slice_get w.driver.transfers t ≡ Some y).
      framed t y old sort held at g stands ∙ ap (λ (f : Offered). (note_at f.driver.periodic.notes y.first).frame) (sym why.is))
      (λ (new : new_transfer why.number why.asked why.endpoint.dummy ≡ y). absurd
      (false≢true (sym why.sort ∙ (ap (λ (z : Transfer). is_descriptor z.sort) new ∙ sort))))
      (either_pushed w.driver.transfers (new_transfer why.number why.asked why.endpoint.dummy) t y
      (ap (λ (f : Offered). slice_get f.driver.transfers t) (sym why.is) ∙ here))

  unchained_framed : (why : Unchains w.driver w.memory o) → IsFramedAs o.driver n x
  unchained_framed why =
      let ms : List Member = endpoint_members w.driver why.number why.endpoint why.placement in
      let f : DriverContent = with_cancel w.driver why.number why.endpoint ms in
      let c : Command = unfinished.Unchain why.number in
      let last : Bool = is_none f.periodic.list.work in
      same_framed w.driver o.driver n x
      (ap (λ (g : Offered). g.driver.transfers) why.is
      ∙ either_if (λ (g : DriverContent). g.transfers ≡ w.driver.transfers) last (finished f c) f (λ on. done_transfers f c) (λ off. refl))
      (ap (λ (g : Offered). g.driver.periodic.notes) why.is
      ∙ either_if (λ (g : DriverContent). g.periodic.notes ≡ f.periodic.notes) last (finished f c) f (λ on. done_notes f c) (λ off. refl)
      ∙ begun_notes true (record w.driver.periodic { queued = ms })) framed

  described_framed : (why : Describes w.driver w.memory o) → IsFramedAs o.driver n x
  described_framed why =
      let sound = k.now.framed.place.sound in
      let h : HasName w.driver sound.owners.owner n
      = has_name w.driver left w.registers.frame_index sound.owners sound.listed
      (λ e other. no_command_there w.driver.command e why.idle other) are n kind is in
      describes_framed w.driver w.memory o why sound k.now.framed.place.lent n x
      (λ b at. subst (λ (i : ℕ). HasRun (slot_of w.driver.book.slots i)) (same_blocks h.block b (sym h.at ∙ at))
      (blocks_run h.run.0 (slot_of w.driver.book.slots h.block) h.run.1.1)) framed
    where
      no_command_there : (c : Option Command) (e : ℕ) → c ≡ None → c ≡ Some (unfinished.Unchain e) → ⊥
      no_command_there c e none some = cc

  pub command_framed : Accepts w.driver w.memory o → IsFramedAs o.driver n x
  command_framed (opens why) = same_framed w.driver o.driver n x (ap (λ (f : Offered). f.driver.transfers) why.is)
      (ap (λ (f : Offered). f.driver.periodic.notes) why.is) framed
  command_framed (chains why) = same_framed w.driver o.driver n x (ap (λ (f : Offered). f.driver.transfers) why.is)
      (ap (λ (f : Offered). f.driver.periodic.notes) why.is) framed
  command_framed (places why) = same_framed w.driver o.driver n x (ap (λ (f : Offered). f.driver.transfers) why.is)
      (ap (λ (f : Offered). f.driver.periodic.notes) why.is) framed
  command_framed (transfers why) = pushed_framed why
  command_framed (describes why) = described_framed why
  command_framed (cancels why) = same_framed w.driver o.driver n x (ap (λ (f : Offered). f.driver.transfers) why.is)
      (ap (λ (f : Offered). f.driver.periodic.notes) why.is) framed
  command_framed (unchains why) = unchained_framed why
