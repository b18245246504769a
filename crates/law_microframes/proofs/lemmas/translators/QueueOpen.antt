-- The interrupt endpoint of a queue head that the walk of the frames may meet isn't given back as long as FRINDEX has the frame number that
-- it has now (EHCI 1.0, 2.3.4, 4.6 and 4.7).
use Rattle.std.proofs.Common.{◌≡◌, ℕ, ◌*◌, ◌/◌, ◌≤◌, Bool, true, false, not, ◌||◌, if◌then◌else◌, slice_get, Option, Some, None, option_map, ⊎_elim, ap, refl, sym, subst, ◌∙◌, arith}
use Rattle.std.proofs.lemmas.Bool.{true≢false}
use Rattle.std.proofs.lemmas.Option.{same_Some}
use Rattle.law_driver.proofs.Common.{same_endpoint}
use Rattle.law_frame_list.proofs.Common.{no_descriptor}
use Rattle.law_common.proofs.Numbers.{same_blocks}
use Rattle.law_common.proofs.Booleans.{out_owed}
use Rattle.drv_chains.specs.declared.members.Member.{Member}
use Rattle.drv_chains.specs.declared.members.Member.TheVariants.{Once, Each}
use Rattle.drv_chains.specs.Chains.{id_of}
use Rattle.drv_members.specs.Members.{is_linked}
use Rattle.drv_periodic_table.specs.Periodic.{is_periodic}
use Rattle.drv_periodic_table.specs.declared.content.Removal.{Removal}
use Rattle.drv_periodic_table.specs.declared.content.Removed.{Removed}
use Rattle.drv_periodic_table.specs.declared.content.Removed.TheVariants as removed
use Rattle.drv_table.specs.declared.content.Endpoint.{Endpoint}
use Rattle.drv_table.specs.declared.content.Transfer.{Transfer}
use Rattle.drv_table.specs.declared.content.Command.TheVariants as unfinished
use Rattle.drv_table.specs.DriverContent.{DriverContent}
use Rattle.drv_table.specs.Kinds.{is_iso}
use Rattle.claims_driver.specs.Owners.{QueueHead, is_descriptor, runs_of_transfer, runs_of_endpoint, views_of}
use Rattle.claims_driver.specs.Leaving.{times, endpoints_in, leaves_frames, HasOwners}
use Rattle.claims_driver.specs.FrameListMembers.{Framed, framed_of, framed_in}
use Rattle.law_driver.specs.listed_members.Members.{IsStanding, IsQueueOf, IsListed}
use Rattle.claims_driver.specs.Unlinked.{led_by, IsOpenAt}
use Rattle.law_driver.proofs.lemmas.listed_members.Standing.{descriptor_placed, standing_block, why_stands}
use Rattle.law_driver.proofs.lemmas.listed_members.Owned.{queue_owned}
use Rattle.law_frame_list.proofs.lemmas.list_spread.Spreading.{queue_there, standing_there}
use Rattle.law_frames.specs.Met.{Kind}
use Rattle.law_descriptors.specs.Removed.{IsRemovedAt, a_descriptor, a_queue, a_waiting, IsRemovedSince, IsUnchainedNow}
use Rattle.law_descriptors.specs.Meeting.{standing, or_recent, met}
use Rattle.law_descriptors.proofs.Finding.{member_at}
use Rattle.law_descriptors.proofs.Leading.{led_linked}
use Rattle.law_descriptors.proofs.Returning.{endpoint_counts}
use Rattle.law_descriptors.proofs.Waiting.{frames_most}
use Rattle.bus_world.specs.World.{World}
use Rattle.law_world.specs.memory.Mixed.{Standing, IsMixedAt}
use Rattle.law_microframes.specs.visits.Belonging.{IsQueueAt}
use Rattle.law_microframes.proofs.lemmas.visits.BelongQueues.{endpoint_same, alive, removed_kept, unchained_in, waiting_held, removed_held}
use Rattle.law_microframes.proofs.lemmas.time.PaymentIsochronous.{one_removal}
use Rattle.law_microframes.proofs.lemmas.time.PaymentRemovals.{AreOpen}

module _ (s : Standing) (w : World) (n : ℕ) (k : IsMixedAt s w) (b : IsQueueAt w.driver n) where
  abbrev d : DriverContent
  d = w.driver

  abbrev e : ℕ
  e = b.belongs.number

  abbrev x : Endpoint
  x = b.belongs.endpoint

  has : HasOwners w.driver
  has = k.now.framed.place.sound.owners

  listed : IsListed w.driver
  listed = k.now.framed.place.sound.listed

  mine : has.owner b.belongs.endpoint.queue ≡ QueueHead b.belongs.number
  mine =
      (has.owned.each.queue e (runs_of_endpoint x) (ap (option_map runs_of_endpoint) b.belongs.here)
      (ap (λ (c : Bool). c || x.gone) (ap is_iso b.kind) ∙ b.belongs.kept)).owned

  -- no descriptor that wasn't given back begins there
  not_described : (u : ℕ) (z : Transfer) → slice_get w.driver.transfers u ≡ Some z → is_descriptor z.sort ≡ true → z.released ≡ false
      → n ≡ 32 * z.first → ⊥
  not_described u z there sort held at =
      let o = has.owned.each.described u (runs_of_transfer z) (ap (option_map runs_of_transfer) there) sort held in
      no_descriptor e u ((views_of d).descriptor z.first).split
      (sym mine ∙ ap has.owner (same_blocks x.queue z.first (sym b.name ∙ at)) ∙ o.descriptor.owned)

  -- and no queue head of another endpoint
  own_queue : (f : ℕ) (v : Endpoint) → slice_get w.driver.endpoints f ≡ Some v → is_iso v.desc.kind ≡ false → v.gone ≡ false
      → n ≡ 32 * v.queue → f ≡ b.belongs.number
  own_queue f v there queue kept at =
      let o = has.owned.each.queue f (runs_of_endpoint v) (ap (option_map runs_of_endpoint) there)
      (ap (λ (c : Bool). c || v.gone) queue ∙ kept) in
      same_endpoint f e (sym o.owned ∙ ap has.owner (same_blocks v.queue x.queue (sym at ∙ b.name)) ∙ mine)

  module _ (i : ℕ) (r : Removal) (at : slice_get w.driver.periodic.removals i ≡ Some r)
      (what : r.what ≡ removed.Endpoint b.belongs.number) where
    abbrev now : ℕ
    now = w.registers.frame_index

    most : times b.belongs.number (endpoints_in w.driver.periodic.removals)
        ≤ (if b.belongs.endpoint.chained || b.belongs.endpoint.gone || not (is_periodic b.belongs.endpoint.desc.kind) then 0 else 1)
    most =
        let m = has.orderly.removed e in
        let owes_it : leaves_frames (slice_get d.endpoints e) ≡ (if x.chained || x.gone || not (is_periodic x.desc.kind) then 0 else 1)
        = ap leaves_frames b.belongs.here in
        omega (arith, m, owes_it)

    out : b.belongs.endpoint.chained ≡ false
    out =
        let counts = endpoint_counts e d.periodic.removals i r at what in
        let m = most in
        out_owed x.chained x.gone (is_periodic x.desc.kind) (omega (arith, counts, m))

    not_in : (f : ℕ) (v : Endpoint) → slice_get w.driver.endpoints f ≡ Some v → f ≡ b.belongs.number → v.chained ≡ true → ⊥
    not_in f v there same on =
        true≢false (sym on ∙ ap (λ (z : Endpoint). z.chained)
        (same_Some v x (sym there ∙ ap (slice_get d.endpoints) same ∙ b.belongs.here)) ∙ out)

    unlinked_at : (m : Member) → is_linked w.driver.periodic.list.members.schedule m ≡ true → id_of m / 32 ≡ b.belongs.endpoint.queue → ⊥
    unlinked_at (Each q) on block =
        let st : IsQueueOf d q = queue_there d q listed on in
        let same : st.number ≡ e = same_endpoint st.number e (sym (queue_owned d q has st).owned ∙ ap has.owner block ∙ mine) in
        let is : framed_of x ≡ st.framed = same_Some (framed_of x) st.framed
        (sym (ap (option_map framed_of) b.belongs.here) ∙ ap (framed_in d.endpoints) (sym same) ∙ st.here) in
        true≢false (sym st.chained ∙ ap (λ (z : Framed). z.chained) (sym is) ∙ out)
    unlinked_at (Once c) on block =
        let st : IsStanding d (Once c) = standing_there d c listed on in
        let o = descriptor_placed d st.number st.placed has st.here (why_stands d (Once c) st) in
        no_descriptor e st.number _ (sym mine ∙ ap has.owner (sym block ∙ standing_block d (Once c) st) ∙ o.owned)

    removed_by : (j : ℕ) (q : Removal) (u : Removed) → slice_get w.driver.periodic.removals j ≡ Some q → q.what ≡ u
        → IsRemovedAt w.driver.endpoints w.driver.transfers n u
        → IsOpenAt w.registers.frame_index q.boundary → IsOpenAt w.registers.frame_index r.boundary
    removed_by j q _ there is (a_descriptor t z in_list name) still =
        let h = removed_held d has t z j q in_list there is in
        absurd (not_described t z in_list h.1.1 h.1.0 name)
    removed_by j q _ there is (a_queue f v in_list queue name) still =
        let own : f ≡ e = own_queue f v in_list queue (removed_kept d has f v j q in_list there is) name in
        let m = most in
        let least = frames_most (x.chained || x.gone || not (is_periodic x.desc.kind)) in
        subst (λ (c : Removal). IsOpenAt now c.boundary)
        (one_removal e d.periodic.removals j i q r there at (is ∙ ap removed.Endpoint own) what (omega (arith, m, least))) still
    removed_by j q _ there is (a_waiting f t v z in_endpoints iso in_list sort waits name) still =
        let held = waiting_held d has f t v z in_endpoints (removed_kept d has f v j q in_endpoints there is) in_list waits in
        absurd (not_described t z in_list sort held name)

    unchained_by : (f : ℕ) (u : Removed) → w.driver.command ≡ Some (unfinished.Unchain f) → u ≡ removed.Endpoint f
        → IsRemovedAt w.driver.endpoints w.driver.transfers n u → ⊥
    unchained_by f _ is same (a_descriptor t z in_list name) = absurd (cc)
    unchained_by f _ is same (a_queue g v in_list queue name) =
        let own : g ≡ f = endpoint_same g f same in
        let chained = unchained_in d has k.now.framed.place.queues g v in_list
        (is ∙ ap (λ (c : ℕ). Some (unfinished.Unchain c)) (sym own)) in
        not_in g v in_list (own_queue g v in_list queue (alive d has g v in_list chained) name) chained
    unchained_by f _ is same (a_waiting g t v z in_endpoints iso in_list sort waits name) =
        let own : g ≡ f = endpoint_same g f same in
        let chained = unchained_in d has k.now.framed.place.queues g v in_endpoints
        (is ∙ ap (λ (c : ℕ). Some (unfinished.Unchain c)) (sym own)) in
        let held = waiting_held d has g t v z in_endpoints (alive d has g v in_endpoints chained) in_list waits in
        not_described t z in_list sort held name

    of_recent : (kind : Kind) → s.recent n ≡ Some kind → IsOpenAt w.registers.frame_index r.boundary
    of_recent kind is =
        ⊎_elim {C = IsOpenAt w.registers.frame_index r.boundary}
        (λ (since : IsRemovedSince w.driver.endpoints w.driver.transfers w.driver.periodic.removals w.registers.frame_index n).
        removed_by since.place since.removal since.removal.what since.here refl since.what since.within)
        (λ (past : IsUnchainedNow w.driver.endpoints w.driver.transfers w.driver.command n).
        absurd (unchained_by past.endpoint (removed.Endpoint past.endpoint) past.command refl past.what))
        (k.now.recent_are n kind is)

    by_standing : (o : Option Kind) (kind : Kind) → standing w.driver n ≡ o → or_recent o (s.recent n) ≡ Some kind
        → IsOpenAt w.registers.frame_index r.boundary
    by_standing (Some other) kind stands is =
        let m = member_at d.periodic (led_by d.periodic.list.members.schedule d.periodic.list.work) n other stands in
        absurd (unlinked_at m.member (led_linked d.periodic.list.members.schedule d.periodic.list.work m.member m.linked)
        (same_blocks (id_of m.member / 32) x.queue (m.begins ∙ b.name)))
    by_standing None kind stands is = of_recent kind is

  pub queue_open : (kind : Kind) → met w.driver s.recent n ≡ Some kind
      → AreOpen w.registers.frame_index b.belongs.number w.driver.periodic.removals
  queue_open kind is i r at what = by_standing i r at what (standing w.driver n) kind refl is
