-- Each queue head that the walk of the frames may meet is that of an interrupt endpoint, whose placement is in the plan.
use Rattle.std.proofs.Common.{◌≡◌, ℕ, ◌*◌, ◌/◌, ◌≤◌, Bool, true, false, slice_get, Option, Some, None, option_map, ap, refl, sym, subst, ◌∙◌, ⊎_elim, arith, if◌then◌else◌}
use Rattle.std.specs.Prelude.{◌||◌, ◌&&◌, ◌==◌, not, is_some}
use Rattle.std.proofs.lemmas.Bool.{false≢true, true≢false, and_from, eq-eqb}
use Rattle.std.proofs.lemmas.Option.{same_Some}
use Rattle.law_driver.proofs.Common.{waits_is}
use Rattle.law_frame_list.proofs.Common.{no_descriptor}
use Rattle.law_common.proofs.Numbers.{same_blocks}
use Rattle.law_common.proofs.Booleans.{owed_by}
use Rattle.usb_base.specs.declared.packets.EpKind.{EpKind}
use Rattle.usb_base.specs.declared.packets.EpKind.TheVariants as kinds
use Rattle.drv_chains.specs.declared.members.Member.{Member}
use Rattle.drv_chains.specs.declared.members.Member.TheVariants.{Once, Each}
use Rattle.drv_chains.specs.Chains.{Schedule, id_of}
use Rattle.drv_members.specs.Members.{is_linked}
use Rattle.bandwidth.specs.declared.placements.Placement.{Placement}
use Rattle.drv_periodic_table.specs.Periodic.{is_periodic, note_at}
use Rattle.drv_periodic_table.specs.declared.content.Removal.{Removal}
use Rattle.drv_periodic_table.specs.declared.content.Removed.{Removed}
use Rattle.drv_periodic_table.specs.declared.content.Removed.TheVariants as removed
use Rattle.drv_table.specs.declared.content.Endpoint.{Endpoint}
use Rattle.drv_table.specs.declared.content.Transfer.{Transfer}
use Rattle.drv_table.specs.declared.content.Command.TheVariants as unfinished
use Rattle.drv_table.specs.DriverContent.{DriverContent, waits_for}
use Rattle.drv_table.specs.Kinds.{is_iso}
use Rattle.claims_driver.specs.Owners.{Head, Described, is_descriptor, runs_of_transfer, views_of}
use Rattle.claims_driver.specs.Leaving.{owes, leaves_frames, HasOwners}
use Rattle.law_driver.specs.listed_members.Members.{IsQueueOf, IsListed}
use Rattle.law_driver.specs.listed_queues.Queues.{HasQueues}
use Rattle.law_driver.proofs.lemmas.listed_members.Standing.{IsIn, in_frames, IsFramed, framed, queue_block}
use Rattle.law_driver.specs.planned_endpoints.Planned.{IsPlanned}
use Rattle.law_driver.proofs.lemmas.planned_endpoints.Laws.{endpoints_count_until_given_back}
use Rattle.law_frame_list.proofs.lemmas.list_spread.Spreading.{queue_there, members_share_no_block}
use Rattle.law_structures.specs.lent_structures.Structures.{Structure, QueueHead, StructureSets}
use Rattle.law_driver_ring.specs.Inventory.{Sort, OfQueueHead, sort_of, sorts_of, IsDriverOwned, the_head, a_queue as of_a_queue, IsDriven}
use Rattle.law_frames.specs.Met.{Kind, AQueue, IsMetQueue}
use Rattle.law_descriptors.specs.Described.{HasDescriptor, AreDescribed}
use Rattle.law_descriptors.specs.Both.{owns, both}
use Rattle.law_descriptors.specs.Meeting.{kind_of_descriptor, kind_at, standing, or_recent, met}
use Rattle.claims_driver.specs.Unlinked.{led_by}
use Rattle.law_descriptors.specs.Removed.{IsRemovedAt, a_descriptor, a_queue, a_waiting, IsRemovedSince, IsUnchainedNow}
use Rattle.law_descriptors.proofs.Standing.{both_on, both_off, IsAtOwner, on_owner}
use Rattle.law_descriptors.proofs.Finding.{begins_at, member_kind, member_at}
use Rattle.law_descriptors.proofs.Leading.{led_linked, led_spread}
use Rattle.law_descriptors.proofs.Returning.{frames_owed, transfer_counts, endpoint_counts}
use Rattle.bus_world.specs.World.{World}
use Rattle.law_world.specs.memory.Mixed.{Standing, IsMixedAt}
use Rattle.law_microframes.specs.visits.Belonging as belonging
use Rattle.law_microframes.specs.visits.Belonging.{IsQueueAt, QueueBelongs}

-- ---- an endpoint of the plan

pub interrupt_kind : (k : EpKind) → is_periodic k ≡ true → is_iso k ≡ false → k ≡ kinds.Interrupt
interrupt_kind kinds.Interrupt frames queue = refl
interrupt_kind kinds.Iso frames queue = absurd (true≢false queue)
interrupt_kind _ frames queue = absurd (false≢true frames)

pub record HasPlacement (x : Endpoint) : Type 0 where
  pub placement : Placement
  pub is : x.placement ≡ Some placement

pub placement_of : (x : Endpoint) → is_some x.placement ≡ true → HasPlacement x
placement_of x some = by x.placement refl some
  where
    by : (o : Option Placement) → x.placement ≡ o → is_some o ≡ true → HasPlacement x
    by None is on = absurd (false≢true on)
    by (Some p) is on = record { placement = p; is = is }

module _ (d : DriverContent) (has : HasOwners d) (planned : IsPlanned d) (n e : ℕ) (x : Endpoint) (here : slice_get d.endpoints e ≡ Some x) (kept : x.gone ≡ false) (frames : is_periodic x.desc.kind ≡ true) where
  pub its_placement : HasPlacement x
  its_placement = placement_of x ((has.orderly.steady e x here).placed ∙ frames)

  abbrev pub belongs_by : belonging.IsStructureOf d n e x → belonging.BelongsTo d n
  belongs_by structure =
      let p = its_placement in
      let at = endpoints_count_until_given_back d e x p.placement planned here kept p.is in
      record { number = e; endpoint = x; placement = p.placement; here = here; kept = kept; placed = p.is; planned = record { place = at.place; there = at.there }; structure = structure }

  pub queue_by : is_iso x.desc.kind ≡ false → n ≡ 32 * x.queue → IsQueueAt d n
  queue_by queue name =
      let kind = interrupt_kind x.desc.kind frames queue in
      record { belongs = belongs_by (belonging.a_queue kind name); kind = kind; name = name }

-- ---- the driver's endpoints and transfers

pub waits_by : (z : Transfer) → not z.reported ≡ true → waits_for z.endpoint z ≡ true
waits_by z off = and_from (z.endpoint == z.endpoint) (not z.reported) (eq-eqb z.endpoint z.endpoint refl) off

pub endpoint_same : (f e : ℕ) → removed.Endpoint f ≡ removed.Endpoint e → f ≡ e
endpoint_same f e same = cc

module _ (d : DriverContent) (has : HasOwners d) where
  -- an endpoint in its frames wasn't given back
  pub alive : (e : ℕ) (x : Endpoint) → slice_get d.endpoints e ≡ Some x → x.chained ≡ true → x.gone ≡ false
  alive e x here on = by x.gone refl
    where
      by : (b : Bool) → x.gone ≡ b → x.gone ≡ false
      by true gone = absurd (false≢true (sym ((has.orderly.steady e x here).gone gone).1 ∙ on))
      by false kept = kept

  -- nor was one of whom a removal is recorded
  pub removed_kept : (e : ℕ) (x : Endpoint) (k : ℕ) (r : Removal) → slice_get d.endpoints e ≡ Some x → slice_get d.periodic.removals k ≡ Some r → r.what ≡ removed.Endpoint e → x.gone ≡ false
  removed_kept e x k r here at what =
      let counts = endpoint_counts e d.periodic.removals k r at what in
      let most = has.orderly.removed e in
      let owes_it : leaves_frames (slice_get d.endpoints e) ≡ (if x.chained || x.gone || not (is_periodic x.desc.kind) then 0 else 1) = ap leaves_frames here in
      frames_owed x.chained x.gone (is_periodic x.desc.kind) (omega (arith, counts, most, owes_it))

  pub removed_frames : (e : ℕ) (x : Endpoint) (k : ℕ) (r : Removal) → slice_get d.endpoints e ≡ Some x → slice_get d.periodic.removals k ≡ Some r → r.what ≡ removed.Endpoint e → is_periodic x.desc.kind ≡ true
  removed_frames e x k r here at what =
      let counts = endpoint_counts e d.periodic.removals k r at what in
      let most = has.orderly.removed e in
      let owes_it : leaves_frames (slice_get d.endpoints e) ≡ (if x.chained || x.gone || not (is_periodic x.desc.kind) then 0 else 1) = ap leaves_frames here in
      owed x.chained x.gone (is_periodic x.desc.kind) (omega (arith, counts, most, owes_it))
    where
      owed : (c g p : Bool) → 1 ≤ (if c || g || not p then 0 else 1) → p ≡ true
      owed c g true one = refl
      owed true g false one = absurd (omega (arith, one))
      owed false true false one = absurd (omega (arith, one))
      owed false false false one = absurd (omega (arith, one))

  -- an endpoint that is being unlinked is in its frames
  pub unchained_in : HasQueues d → (e : ℕ) (x : Endpoint) → slice_get d.endpoints e ≡ Some x → d.command ≡ Some (unfinished.Unchain e) → x.chained ≡ true
  unchained_in queues e x here is =
      let i : IsIn d.endpoints e = in_frames d.endpoints e (queues.leaving e is) in
      ap (λ (y : Endpoint). y.chained) (same_Some x i.endpoint (sym here ∙ i.here)) ∙ i.chained

  -- a descriptor that waits at an endpoint which wasn't given back has its run
  pub waiting_held : (e t : ℕ) (x : Endpoint) (y : Transfer) → slice_get d.endpoints e ≡ Some x → x.gone ≡ false → slice_get d.transfers t ≡ Some y → waits_for e y ≡ true → y.released ≡ false
  waiting_held e t x y here kept there waits = by y.released refl
    where
      told : (y.endpoint ≡ e) × (y.reported ≡ false)
      told = waits_is e y waits

      by : (b : Bool) → y.released ≡ b → y.released ≡ false
      by false is = is
      by true is = absurd (true≢false (sym (has.orderly.untold t y there is told.1 x (ap (slice_get d.endpoints) told.0 ∙ here)) ∙ kept))

  -- a descriptor of which a removal is recorded was reported, and has its run
  pub removed_held : (t : ℕ) (y : Transfer) (k : ℕ) (r : Removal) → slice_get d.transfers t ≡ Some y → slice_get d.periodic.removals k ≡ Some r → r.what ≡ removed.Descriptor t
      → (y.reported ≡ true) × ((y.released ≡ false) × (is_descriptor y.sort ≡ true))
  removed_held t y k r there at what =
      let counts = transfer_counts t d.periodic.removals k r at what in
      let most = has.orderly.harvests t in
      let owes_it : owes (slice_get d.transfers t) ≡ (if y.reported && not y.released then 1 else 0) = ap owes there in
      let told = owed_by y.reported y.released (omega (arith, counts, most, owes_it)) in
      (told.0, (told.1, has.orderly.unlinked t y (omega (arith, counts)) there))

-- ---- no queue head stands where a descriptor does

not_both : (split : Bool) (part : ℕ → Option Structure) (n : ℕ) (s : Structure) → part n ≡ Some s → sort_of s ≡ OfQueueHead → HasDescriptor split part n → ⊥
not_both true part n s here sort d = let e : s ≡ _ = same_Some s _ (sym here ∙ d.here) in absurd (let f = sym sort ∙ ap sort_of e in cc)
not_both false part n s here sort d = let e : s ≡ _ = same_Some s _ (sym here ∙ d.here) in absurd (let f = sym sort ∙ ap sort_of e in cc)

module _ (d : DriverContent) (has : HasOwners d) (descs parts : StructureSets) (driven : IsDriven (views_of d) (sorts_of parts)) (described : AreDescribed (views_of d) descs) where
  pub not_owned : (t : ℕ) (y : Transfer) (n m a : ℕ) (k : Sort) → slice_get d.transfers t ≡ Some y → is_descriptor y.sort ≡ true → y.released ≡ false → n ≡ 32 * y.first → m ≡ n → k ≡ OfQueueHead
      → IsDriverOwned (views_of d) m a k → ⊥
  not_owned t y n m a k there sort held at same is (the_head) =
      let o = has.owned.each.described t (runs_of_transfer y) (ap (option_map runs_of_transfer) there) sort held in
      head_not t ((views_of d).descriptor y.first).split (sym has.owned.each.head.owned ∙ ap has.owner (same_blocks _ y.first (same ∙ at)) ∙ o.descriptor.owned)
    where
      head_not : (u : ℕ) (split : Bool) → Head ≡ Described split u → ⊥
      head_not u split e = cc
  not_owned t y n m a k there sort held at same is (of_a_queue e x q lent) =
      let o = has.owned.each.described t (runs_of_transfer y) (ap (option_map runs_of_transfer) there) sort held in
      no_descriptor e t ((views_of d).descriptor y.first).split
      (sym (has.owned.each.queue e x q.here q.queued).owned ∙ ap has.owner (same_blocks x.queue y.first (same ∙ at)) ∙ o.descriptor.owned)
  not_owned t y n m a k there sort held at same is _ = absurd cc

  pub no_descriptor_there : (t : ℕ) (y : Transfer) (n : ℕ) (s : Structure) → both descs parts n n ≡ Some s → sort_of s ≡ OfQueueHead → slice_get d.transfers t ≡ Some y → is_descriptor y.sort ≡ true
      → y.released ≡ false → n ≡ 32 * y.first → ⊥
  no_descriptor_there t y n s here of there sort held at = by (owns descs n) refl
    where
      by : (b : Bool) → owns descs n ≡ b → ⊥
      by true on =
          let a : IsAtOwner (views_of d) n = on_owner (views_of d) descs n described on in
          let h : HasDescriptor ((views_of d).descriptor a.transfer.first).split (descs (32 * a.transfer.first)) (32 * a.transfer.first) = described.descriptors a.number a.transfer a.lent in
          not_both ((views_of d).descriptor a.transfer.first).split (descs n) n s (ap (λ (part : ℕ → Option Structure). part n) (sym (both_on descs parts n on)) ∙ here) of
          (subst (λ (i : ℕ). HasDescriptor ((views_of d).descriptor a.transfer.first).split (descs i) i) (sym a.name) h)
      by false off =
          let e : sorts_of parts n n ≡ Some OfQueueHead = ap (λ (part : ℕ → Option Structure). option_map sort_of (part n)) (sym (both_off descs parts n off)) ∙ ap (option_map sort_of) here ∙ ap (λ (k : Sort). Some k) of in
          not_owned t y n n n OfQueueHead there sort held at refl refl (driven.only n n OfQueueHead e)

-- ---- whom the walk may meet

module _ (s : Standing) (w : World) (n : ℕ) (k : IsMixedAt s w) where
  abbrev d : DriverContent
  d = w.driver

  has : HasOwners w.driver
  has = k.now.framed.place.sound.owners

  listed : IsListed w.driver
  listed = k.now.framed.place.sound.listed

  abbrev led : Schedule
  led = led_by w.driver.periodic.list.members.schedule w.driver.periodic.list.work

  -- ---- it stands in the frame list

  no_queue : (split : Bool) → kind_of_descriptor split ≡ AQueue → ⊥
  no_queue true same = cc
  no_queue false same = cc

  by_member : (m : Member) → is_linked led m ≡ true → begins_at m ≡ n → standing w.driver n ≡ Some AQueue → IsQueueAt w.driver n
  by_member (Once c) on begins is =
      let spread = led_spread d.periodic.list.list d.periodic.list.members.schedule d.periodic.list.work (members_share_no_block d w.memory k.now.framed.place.sound.stands has listed) in
      absurd (no_queue (note_at d.periodic.notes (c.id / 32)).split
      (same_Some _ AQueue (sym (member_kind d.periodic d.periodic.list.list led (Once c) spread on) ∙ ap (kind_at d.periodic led) begins ∙ is)))
  by_member (Each q) on begins is =
      let o : IsQueueOf d q = queue_there d q listed (led_linked d.periodic.list.members.schedule d.periodic.list.work (Each q) on) in
      let f : IsFramed d.endpoints o.number o.framed = framed d.endpoints o.number o.framed o.here in
      let x : Endpoint = f.endpoint in
      let chained : x.chained ≡ true = ap (λ z. z.chained) (sym f.is) ∙ o.chained in
      let block : id_of (Each q) / 32 ≡ o.framed.queue = ap (λ m. id_of m / 32) o.is ∙ queue_block o.framed.queue o.place in
      queue_by d has k.now.planned n o.number x f.here (alive d has o.number x f.here chained) ((has.orderly.steady o.number x f.here).frames chained)
      (ap (λ z. z.isochronous) (sym f.is) ∙ o.queued) (sym begins ∙ ap (λ (b : ℕ). 32 * b) block ∙ ap (λ z. 32 * z.queue) f.is)

  -- ---- or was unlinked in this microframe

  module _ (q : Structure) (here : both s.descs s.parts n n ≡ Some q) (of : sort_of q ≡ OfQueueHead) where
    not_there : (t : ℕ) (y : Transfer) → slice_get w.driver.transfers t ≡ Some y → is_descriptor y.sort ≡ true → y.released ≡ false → n ≡ 32 * y.first → ⊥
    not_there t y = no_descriptor_there d has s.descs s.parts k.now.framed.driven k.now.framed.described t y n q here of

    removed_by : (i : ℕ) (r : Removal) (what : Removed) → slice_get w.driver.periodic.removals i ≡ Some r → r.what ≡ what → IsRemovedAt w.driver.endpoints w.driver.transfers n what → IsQueueAt w.driver n
    removed_by i r _ at is (a_descriptor t y there name) = let h = removed_held d has t y i r there at is in absurd (not_there t y there h.1.1 h.1.0 name)
    removed_by i r _ at is (a_queue e x there queue name) =
        queue_by d has k.now.planned n e x there (removed_kept d has e x i r there at is) (removed_frames d has e x i r there at is) queue name
    removed_by i r _ at is (a_waiting e t x y in_list iso there sort waits name) =
        absurd (not_there t y there sort (waiting_held d has e t x y in_list (removed_kept d has e x i r in_list at is) there waits) name)

    unchained_by : (e : ℕ) (what : Removed) → w.driver.command ≡ Some (unfinished.Unchain e) → what ≡ removed.Endpoint e → IsRemovedAt w.driver.endpoints w.driver.transfers n what → IsQueueAt w.driver n
    unchained_by e _ is same (a_descriptor t y there name) = absurd (cc)
    unchained_by e _ is same (a_queue f x there queue name) =
        let own : f ≡ e = endpoint_same f e same in
        let chained = unchained_in d has k.now.framed.place.queues f x there (is ∙ ap (λ (i : ℕ). Some (unfinished.Unchain i)) (sym own)) in
        queue_by d has k.now.planned n f x there (alive d has f x there chained) ((has.orderly.steady f x there).frames chained) queue name
    unchained_by e _ is same (a_waiting f t x y in_list iso there sort waits name) =
        let own : f ≡ e = endpoint_same f e same in
        let chained = unchained_in d has k.now.framed.place.queues f x in_list (is ∙ ap (λ (i : ℕ). Some (unfinished.Unchain i)) (sym own)) in
        absurd (not_there t y there sort (waiting_held d has f t x y in_list (alive d has f x in_list chained) there waits) name)

    of_recent : s.recent n ≡ Some AQueue → IsQueueAt w.driver n
    of_recent is =
        ⊎_elim (λ (since : IsRemovedSince w.driver.endpoints w.driver.transfers w.driver.periodic.removals w.registers.frame_index n).
        removed_by since.place since.removal since.removal.what since.here refl since.what)
        (λ (now : IsUnchainedNow w.driver.endpoints w.driver.transfers w.driver.command n). unchained_by now.endpoint (removed.Endpoint now.endpoint) now.command refl now.what)
        (k.now.recent_are n AQueue is)

  by_kind : (o : Option Kind) → standing w.driver n ≡ o → or_recent o (s.recent n) ≡ Some AQueue → IsMetQueue (met w.driver s.recent) n (both s.descs s.parts n) → IsQueueAt w.driver n
  by_kind (Some kind) at is part =
      let stands : standing w.driver n ≡ Some AQueue = at ∙ is in
      let m = member_at d.periodic led n AQueue stands in
      by_member m.member m.linked m.begins stands
  by_kind None at is part = of_recent (QueueHead part.part_is.queue) part.part_is.here refl is

  met_queue : met w.driver s.recent n ≡ Some AQueue → IsQueueAt w.driver n
  met_queue is = by_kind (standing w.driver n) refl is (k.now.framed.runs.members n AQueue is)

pub queue_belongs : QueueBelongs
queue_belongs s w n k is = met_queue s w n k is
