-- Each descriptor that the walk of the frames may meet is one of an isochronous endpoint whose placement is in the plan, and waits for its harvest; or it was harvested.
use Rattle.std.proofs.Common.{◌≡◌, ◌≢◌, ℕ, ◌*◌, ◌⊎◌, Bool, true, false, slice_get, Option, Some, None, option_map, ap, refl, sym, ◌∙◌, ⊎_elim, inl, inr}
use Rattle.std.specs.Prelude.{◌||◌, not}
use Rattle.std.proofs.lemmas.Bool.{false≢true, and_parts}
use Rattle.std.proofs.lemmas.Option.{same_Some}
use Rattle.law_microframes.proofs.Common.{iso_kind}
use Rattle.law_frame_list.proofs.Common.{no_descriptor}
use Rattle.law_common.proofs.Numbers.{same_blocks}
use Rattle.drv_chains.specs.declared.members.Member.{Member}
use Rattle.drv_chains.specs.declared.members.Member.TheVariants.{Once, Each}
use Rattle.drv_chains.specs.Chains.{Schedule}
use Rattle.drv_members.specs.Members.{is_linked}
use Rattle.drv_periodic_table.specs.Periodic.{is_periodic}
use Rattle.drv_periodic_table.specs.declared.content.Removal.{Removal}
use Rattle.drv_periodic_table.specs.declared.content.Removed.{Removed}
use Rattle.drv_periodic_table.specs.declared.content.Removed.TheVariants as removed
use Rattle.drv_table.specs.declared.content.Endpoint.{Endpoint}
use Rattle.drv_table.specs.declared.content.Transfer.{Transfer}
use Rattle.drv_table.specs.declared.content.Command.TheVariants as unfinished
use Rattle.drv_table.specs.DriverContent.{DriverContent, waits_for}
use Rattle.drv_table.specs.Kinds.{is_iso}
use Rattle.claims_driver.specs.Owners.{is_descriptor, runs_of_endpoint, views_of}
use Rattle.claims_driver.specs.Leaving.{HasOwners}
use Rattle.claims_driver.specs.FrameListMembers.{framed_in, is_chained, is_among}
use Rattle.law_driver.specs.listed_members.Members.{IsStanding, IsListed}
use Rattle.law_driver.proofs.lemmas.listed_members.Standing.{IsSeen, seen, IsIn, in_frames, IsReported, unlinks_reported, standing_block, why_stands}
use Rattle.law_driver.specs.planned_endpoints.Planned.{IsPlanned}
use Rattle.law_frame_list.proofs.lemmas.list_spread.Spreading.{standing_there, members_share_no_block}
use Rattle.law_structures.specs.lent_structures.Structures.{Structure, Isochronous, SplitIsochronous, Structures, StructureSets}
use Rattle.law_driver_ring.specs.Inventory.{Sort, OfIsochronous, OfSplitIsochronous, sort_of, sorts_of, IsDriverOwned, the_list, the_head, a_queue as of_a_queue, a_dummy, a_piece, a_buffer, IsDriven}
use Rattle.law_frames.specs.Met.{Kind, AQueue, AnItd, ASitd, IsMetAs}
use Rattle.law_descriptors.specs.Described.{AreDescribed}
use Rattle.law_descriptors.specs.Both.{owns, both}
use Rattle.law_descriptors.specs.Meeting.{kind_at, standing, or_recent, met}
use Rattle.claims_driver.specs.Unlinked.{led_by}
use Rattle.law_descriptors.specs.Removed.{IsRemovedAt, a_descriptor, a_queue, a_waiting, IsRemovedSince, IsUnchainedNow}
use Rattle.law_descriptors.proofs.Standing.{both_off, IsAtOwner, on_owner}
use Rattle.law_descriptors.proofs.Finding.{begins_at, member_kind, member_at}
use Rattle.law_descriptors.proofs.Leading.{led_linked, led_spread}
use Rattle.bus_world.specs.World.{World}
use Rattle.law_world.specs.memory.Mixed.{Standing, IsMixedAt}
use Rattle.law_microframes.specs.visits.Belonging as belonging
use Rattle.law_microframes.specs.visits.Belonging.{IsDescriptorAt, IsHarvestedAt, DescriptorBelongs}
use Rattle.law_microframes.proofs.lemmas.visits.BelongQueues.{belongs_by, alive, removed_kept, unchained_in, waiting_held, removed_held, endpoint_same, waits_by}

-- ---- a descriptor that waits at an endpoint which wasn't given back

module _ (d : DriverContent) (has : HasOwners d) (planned : IsPlanned d) (n e t : ℕ) (x : Endpoint) (y : Transfer) (here : slice_get d.endpoints e ≡ Some x) (kept : x.gone ≡ false) (iso : is_iso x.desc.kind ≡ true) (there : slice_get d.transfers t ≡ Some y) (sort : is_descriptor y.sort ≡ true) (waits : waits_for e y ≡ true) (name : n ≡ 32 * y.first) where
  pub waiting_by : IsDescriptorAt d n
  waiting_by =
      let kind = iso_kind x.desc.kind iso in
      record {
        belongs = belongs_by d has planned n e x here kept (ap is_periodic kind) (belonging.a_descriptor t y kind there sort waits name);
        kind = kind;
        number = t;
        transfer = y;
        there = there;
        sort = sort;
        waits = waits;
        held = waiting_held d has e t x y here kept there waits;
        name = name;
      }

-- ---- no queue head stands there

abbrev pub is_of_descriptor : Sort → Bool
is_of_descriptor OfIsochronous = true
is_of_descriptor OfSplitIsochronous = true
is_of_descriptor _ = false

module _ (d : DriverContent) (has : HasOwners d) (descs parts : StructureSets) (driven : IsDriven (views_of d) (sorts_of parts)) (described : AreDescribed (views_of d) descs) where
  pub not_driven : (n a : ℕ) (k : Sort) → IsDriverOwned (views_of d) n a k → is_of_descriptor k ≡ true → ⊥
  not_driven _ _ _ the_list is = false≢true is
  not_driven _ _ _ the_head is = false≢true is
  not_driven _ _ _ (of_a_queue e x q lent) is = false≢true is
  not_driven _ _ _ (a_dummy e x q lent) is = false≢true is
  not_driven _ _ _ (a_piece t b y x i p lent) is = false≢true is
  not_driven _ _ _ (a_buffer t b c cs y x i p first lent) is = false≢true is

  pub no_queue_there : (e : ℕ) (x : Endpoint) (n : ℕ) (s : Structure) → both descs parts n n ≡ Some s → is_of_descriptor (sort_of s) ≡ true → slice_get d.endpoints e ≡ Some x
      → (runs_of_endpoint x).bare ≡ false → n ≡ 32 * x.queue → ⊥
  no_queue_there e x n s stands of here bare at = by (owns descs n) refl
    where
      by : (b : Bool) → owns descs n ≡ b → ⊥
      by true on =
          let a : IsAtOwner (views_of d) n = on_owner (views_of d) descs n described on in
          let o = has.owned.each.described a.number a.transfer a.lent.here a.lent.isochronous a.lent.held in
          no_descriptor e a.number ((views_of d).descriptor a.transfer.first).split
          (sym (has.owned.each.queue e (runs_of_endpoint x) (ap (option_map runs_of_endpoint) here) bare).owned ∙ ap has.owner (same_blocks x.queue a.transfer.first (sym at ∙ a.name)) ∙ o.descriptor.owned)
      by false off =
          not_driven n n (sort_of s)
          (driven.only n n (sort_of s) (ap (λ (part : Structures). option_map sort_of (part n)) (sym (both_off descs parts n off)) ∙ ap (option_map sort_of) stands)) of

-- what stands where a descriptor is met
record IsOne (o : Option Structure) : Type 0 where
  structure : Structure
  here : o ≡ Some structure
  of : is_of_descriptor (sort_of structure) ≡ true

one_of : (meets : ℕ → Option Kind) (n : ℕ) (part : Structures) (kind : Kind) → kind ≢ AQueue → IsMetAs meets n part kind → IsOne (part n)
one_of meets n part AQueue not_queue m = absurd (not_queue refl)
one_of meets n part AnItd not_queue m = record { structure = Isochronous m.itd; here = m.here; of = refl }
one_of meets n part ASitd not_queue m = record { structure = SplitIsochronous m.sitd; here = m.here; of = refl }

-- ---- whom the walk may meet

module _ (s : Standing) (w : World) (n : ℕ) (k : IsMixedAt s w) (kind : Kind) (not_queue : kind ≢ AQueue) where
  abbrev d : DriverContent
  d = w.driver

  abbrev AtLast : Type 0
  AtLast = IsDescriptorAt w.driver n ⊎ IsHarvestedAt w.driver n

  has : HasOwners w.driver
  has = k.now.framed.place.sound.owners

  listed : IsListed w.driver
  listed = k.now.framed.place.sound.listed

  abbrev led : Schedule
  led = led_by w.driver.periodic.list.members.schedule w.driver.periodic.list.work

  -- ---- it stands in the frame list

  by_member : (m : Member) → is_linked led m ≡ true → begins_at m ≡ n → standing w.driver n ≡ Some kind → AtLast
  by_member (Each q) on begins is =
      let spread = led_spread d.periodic.list.list d.periodic.list.members.schedule d.periodic.list.work (members_share_no_block d w.memory k.now.framed.place.sound.stands has listed) in
      absurd (not_queue (sym (same_Some AQueue kind (sym (member_kind d.periodic d.periodic.list.list led (Each q) spread on) ∙ ap (kind_at d.periodic led) begins ∙ is))))
  by_member (Once c) on begins is =
      let m : IsStanding d (Once c) = standing_there d c listed (led_linked d.periodic.list.members.schedule d.periodic.list.work (Once c) on) in
      let v : IsSeen d.endpoints d.transfers m.number m.placed = seen d.endpoints d.transfers m.number m.placed m.here in
      let y : Transfer = v.transfer in
      let name : n ≡ 32 * y.first = sym begins ∙ ap (λ (b : ℕ). 32 * b) (standing_block d (Once c) m ∙ v.block) in
      ⊎_elim
      (λ (unlinks : is_among m.number d.periodic.unlinks ≡ true).
      let r : IsReported d.transfers m.number = unlinks_reported d m.number has.orderly unlinks in
      let same : r.transfer ≡ y = same_Some r.transfer y (sym r.there ∙ v.there) in
      inr (record {
        number = m.number;
        transfer = y;
        there = v.there;
        sort = v.sort;
        reported = ap (λ (z : Transfer). z.reported) (sym same) ∙ r.reported;
        held = ap (λ (z : Transfer). z.released) (sym same) ∙ r.released;
        name = name;
      }))
      (λ (waits : m.placed.waits ≡ true).
      let both_are = and_parts (not y.reported) (is_chained (framed_in d.endpoints y.endpoint)) (sym v.waits ∙ waits) in
      let i : IsIn d.endpoints y.endpoint = in_frames d.endpoints y.endpoint both_are.1 in
      let iso : is_iso i.endpoint.desc.kind ≡ true = sym (has.orderly.sorts m.number y i.endpoint v.there i.here) ∙ v.sort in
      inl (waiting_by d has k.now.planned n y.endpoint m.number i.endpoint y i.here (alive d has y.endpoint i.endpoint i.here i.chained) iso v.there v.sort (waits_by y both_are.0) name))
      (why_stands d (Once c) m)

  -- ---- or was unlinked in this microframe

  module _ (q : Structure) (here : both s.descs s.parts n n ≡ Some q) (of : is_of_descriptor (sort_of q) ≡ true) where
    not_there : (e : ℕ) (x : Endpoint) → slice_get w.driver.endpoints e ≡ Some x → is_iso x.desc.kind ≡ false → x.gone ≡ false → n ≡ 32 * x.queue → ⊥
    not_there e x there queue kept = no_queue_there d has s.descs s.parts k.now.framed.driven k.now.framed.described e x n q here of there (ap (λ (b : Bool). b || x.gone) queue ∙ kept)

    removed_by : (i : ℕ) (r : Removal) (what : Removed) → slice_get w.driver.periodic.removals i ≡ Some r → r.what ≡ what → IsRemovedAt w.driver.endpoints w.driver.transfers n what → AtLast
    removed_by i r _ at is (a_descriptor t y there name) =
        let h = removed_held d has t y i r there at is in inr (record { number = t; transfer = y; there = there; sort = h.1.1; reported = h.0; held = h.1.0; name = name })
    removed_by i r _ at is (a_queue e x there queue name) = absurd (not_there e x there queue (removed_kept d has e x i r there at is) name)
    removed_by i r _ at is (a_waiting e t x y in_list iso there sort waits name) =
        inl (waiting_by d has k.now.planned n e t x y in_list (removed_kept d has e x i r in_list at is) iso there sort waits name)

    unchained_by : (e : ℕ) (what : Removed) → w.driver.command ≡ Some (unfinished.Unchain e) → what ≡ removed.Endpoint e → IsRemovedAt w.driver.endpoints w.driver.transfers n what → AtLast
    unchained_by e _ is same (a_descriptor t y there name) = absurd (cc)
    unchained_by e _ is same (a_queue f x there queue name) =
        let own : f ≡ e = endpoint_same f e same in
        let chained = unchained_in d has k.now.framed.place.queues f x there (is ∙ ap (λ (i : ℕ). Some (unfinished.Unchain i)) (sym own)) in
        absurd (not_there f x there queue (alive d has f x there chained) name)
    unchained_by e _ is same (a_waiting f t x y in_list iso there sort waits name) =
        let own : f ≡ e = endpoint_same f e same in
        let chained = unchained_in d has k.now.framed.place.queues f x in_list (is ∙ ap (λ (i : ℕ). Some (unfinished.Unchain i)) (sym own)) in
        inl (waiting_by d has k.now.planned n f t x y in_list (alive d has f x in_list chained) iso there sort waits name)

    of_recent : s.recent n ≡ Some kind → AtLast
    of_recent is =
        ⊎_elim {C = IsDescriptorAt w.driver n ⊎ IsHarvestedAt w.driver n}
        (λ (since : IsRemovedSince w.driver.endpoints w.driver.transfers w.driver.periodic.removals w.registers.frame_index n).
        removed_by since.place since.removal since.removal.what since.here refl since.what)
        (λ (now : IsUnchainedNow w.driver.endpoints w.driver.transfers w.driver.command n). unchained_by now.endpoint (removed.Endpoint now.endpoint) now.command refl now.what)
        (k.now.recent_are n kind is)

  by_kind : (o : Option Kind) → standing w.driver n ≡ o → or_recent o (s.recent n) ≡ Some kind → IsOne (both s.descs s.parts n n) → AtLast
  by_kind (Some other) at is one =
      let stands : standing w.driver n ≡ Some kind = at ∙ is in
      let m = member_at d.periodic led n kind stands in
      by_member m.member m.linked m.begins stands
  by_kind None at is one = of_recent one.structure one.here one.of is

  met_descriptor : met w.driver s.recent n ≡ Some kind → AtLast
  met_descriptor is = by_kind (standing w.driver n) refl is (one_of (met w.driver s.recent) n (both s.descs s.parts n) kind not_queue (k.now.framed.runs.members n kind is))

pub descriptor_belongs : DescriptorBelongs
descriptor_belongs s w n kind k is not_queue = met_descriptor s w n k kind not_queue is
