-- A descriptor that the walk of the frames may meet, and of which something is active, stands in its frame alone; or it waits at an endpoint that is cancelled, and was unlinked.
use Rattle.std.proofs.Common.{◌≡◌, ◌⊎◌, ℕ, ◌*◌, ◌/◌, Bool, true, false, slice_get, Option, Some, None, option_map, ap, refl, sym, subst, ◌∙◌, ⊎_elim, inl, inr}
use Rattle.std.specs.Prelude.{◌||◌}
use Rattle.std.proofs.lemmas.Bool.{true≢false, eqb-true}
use Rattle.std.proofs.lemmas.Option.{same_Some}
use Rattle.law_driver.proofs.Common.{waits_is}
use Rattle.law_frame_list.proofs.Common.{same_number, no_descriptor}
use Rattle.law_common.proofs.Numbers.{same_blocks}
use Rattle.mem_runs.specs.Book.{slot_of}
use Rattle.drv_chains.specs.declared.members.Member.{Member}
use Rattle.drv_chains.specs.declared.members.Member.TheVariants.{Once, Each}
use Rattle.drv_chains.specs.Chains.{stands_in}
use Rattle.drv_members.specs.Members.{is_linked}
use Rattle.drv_periodic_table.specs.Periodic.{note_at}
use Rattle.drv_periodic_table.specs.declared.content.Removal.{Removal}
use Rattle.drv_periodic_table.specs.declared.content.Removed.{Removed}
use Rattle.drv_periodic_table.specs.declared.content.Removed.TheVariants as removed
use Rattle.drv_table.specs.declared.content.Endpoint.{Endpoint}
use Rattle.drv_table.specs.declared.content.Transfer.{Transfer}
use Rattle.drv_table.specs.declared.content.Command.TheVariants as unfinished
use Rattle.drv_table.specs.DriverContent.{DriverContent, waits_for}
use Rattle.drv_table.specs.Kinds.{is_iso}
use Rattle.law_driver_ring.specs.Inventory.{sort_of}
use Rattle.claims_driver.specs.Owners.{is_descriptor, runs_of_transfer, runs_of_endpoint, views_of, QueueHead as HeadOf}
use Rattle.claims_driver.specs.Leaving.{HasOwners}
use Rattle.claims_driver.specs.LentRuns.{IsLent}
use Rattle.law_driver.specs.listed_members.Members.{IsStanding, IsQueueOf, IsListed}
use Rattle.law_driver.specs.listed_members.Listed.{IsOwnedAs}
use Rattle.law_driver.proofs.lemmas.listed_members.Standing.{standing_block}
use Rattle.law_driver.proofs.lemmas.listed_members.Owned.{queue_owned}
use Rattle.law_frame_list.proofs.lemmas.list_spread.Spreading.{queue_there, standing_there}
use Rattle.law_structures.specs.lent_structures.Structures.{Structure, QueueHead, Isochronous, SplitIsochronous}
use Rattle.law_frames.specs.Met.{Kind, AQueue, AnItd, ASitd, IsMetAs}
use Rattle.law_descriptors.specs.Both.{owns, both}
use Rattle.law_descriptors.specs.Meeting.{standing, or_recent, met}
use Rattle.claims_driver.specs.Unlinked.{led}
use Rattle.law_descriptors.specs.Removed.{IsRemovedAt, a_descriptor, a_queue, a_waiting, IsRemovedSince, IsUnchainedNow}
use Rattle.law_descriptors.specs.ListRows.{HasPart}
use Rattle.law_descriptors.specs.Recent.{AreRecent}
use Rattle.law_descriptors.proofs.Standing.{both_off, IsAtOwner, on_owner}
use Rattle.law_descriptors.proofs.Finding.{IsMemberAt}
use Rattle.law_descriptors.proofs.Leading.{led_linked}
use Rattle.bus_world.specs.World.{World}
use Rattle.law_world.specs.memory.Mixed.{Standing, IsMixedAt}
use Rattle.claims_world.specs.Visits.{begins}
use Rattle.law_microframes.specs.visits.OneDescriptor.{HasOneActive, IsActiveDescriptor}
use Rattle.law_microframes.specs.visits.Began.{StandsAlone, ActiveStands, WaitsLeft, ActiveIsMet, ActiveIsFramed, MetIsLent}
use Rattle.law_microframes.specs.visits.ActiveFrames.{QueueIsNotActive, ScheduledIsAlone}
use Rattle.law_microframes.proofs.lemmas.visits.DriverGoesOn.{member_stands}
use Rattle.law_microframes.proofs.lemmas.visits.OneDescriptor.{lent_framed, active_framed, unreported}
use Rattle.law_microframes.proofs.lemmas.visits.BelongQueues.{endpoint_same, alive, removed_kept, unchained_in, waiting_held, removed_held, no_descriptor_there}
use Rattle.law_microframes.proofs.lemmas.visits.BelongDescriptors.{is_of_descriptor, not_driven}

-- ---- it has its frame

pub active_is_framed : ActiveIsFramed
active_is_framed s w e f n k a = lent_framed w.driver w.memory a.number a.transfer k.awaiting a.here a.lent

-- ---- whose a block is

pub same_run : (d : DriverContent) (has : HasOwners d) (t u n : ℕ) (y z : Transfer) → slice_get d.transfers t ≡ Some y → slice_get d.transfers u ≡ Some z → is_descriptor y.sort ≡ true → is_descriptor z.sort ≡ true
    → y.released ≡ false → z.released ≡ false → n ≡ 32 * y.first → n ≡ 32 * z.first → y ≡ z
same_run d has t u n y z here there sort_y sort_z held_y held_z at_y at_z =
    let one = (has.owned.each.described t (runs_of_transfer y) (ap (option_map runs_of_transfer) here) sort_y held_y).descriptor in
    let two = (has.owned.each.described u (runs_of_transfer z) (ap (option_map runs_of_transfer) there) sort_z held_z).descriptor in
    let same : t ≡ u =
    same_number ((views_of d).descriptor y.first).split ((views_of d).descriptor z.first).split t u
    (sym one.owned ∙ ap has.owner (same_blocks y.first z.first (sym at_y ∙ at_z)) ∙ two.owned) in
    same_Some y z (sym here ∙ ap (slice_get d.transfers) same ∙ there)

no_head_there : (d : DriverContent) (has : HasOwners d) (i t n q : ℕ) (y : Transfer) → has.owner q ≡ HeadOf i → n ≡ 32 * q → slice_get d.transfers t ≡ Some y → is_descriptor y.sort ≡ true → y.released ≡ false
    → n ≡ 32 * y.first → ⊥
no_head_there d has i t n q y owned at here sort held name =
    let one = (has.owned.each.described t (runs_of_transfer y) (ap (option_map runs_of_transfer) here) sort held).descriptor in
    no_descriptor i t ((views_of d).descriptor y.first).split (sym owned ∙ ap has.owner (same_blocks q y.first (sym at ∙ name)) ∙ one.owned)

frame_of : Member → ℕ
frame_of (Once c) = c.frame
frame_of (Each q) = 0

module _ (s : Standing) (w : World) (e f n : ℕ) (k : IsMixedAt s w) (a : IsActiveDescriptor w.driver w.memory e f n) where
  abbrev d : DriverContent
  d = w.driver

  has : HasOwners w.driver
  has = k.now.framed.place.sound.owners

  listed : IsListed w.driver
  listed = k.now.framed.place.sound.listed

  -- ---- it stands in the frame list

  pub in_its_frame : (m : Member) (g : ℕ) → is_linked w.driver.periodic.list.members.schedule m ≡ true → begins m ≡ n → stands_in g m ≡ true → g ≡ f
  unfolding frame_of
  in_its_frame (Each q) g on at stands =
      let o : IsQueueOf d q = queue_there d q listed on in
      let p : IsOwnedAs d has.owner q.id (HeadOf o.number) = queue_owned d q has o in
      absurd (no_head_there d has o.number a.number n (q.id / 32) a.transfer p.owned (sym at) a.here a.descriptor a.held a.at)
  in_its_frame (Once c) g on at stands =
      let o : IsStanding d (Once c) = standing_there d c listed on in
      let block : o.placed.block ≡ a.transfer.first = sym (standing_block d (Once c) o) ∙ same_blocks (c.id / 32) a.transfer.first (at ∙ a.at) in
      let frame : c.frame ≡ f = sym (ap frame_of o.is) ∙ ap (λ (b : ℕ). (note_at d.periodic.notes b).frame) block ∙ a.frame in
      sym (eqb-true c.frame g stands) ∙ frame

  stands_alone : (kind : Kind) → standing w.driver n ≡ Some kind → StandsAlone w.driver n f
  stands_alone kind is =
      let x : IsMemberAt (led d) n = member_stands d n kind is in
      let on = led_linked d.periodic.list.members.schedule d.periodic.list.work x.member x.linked in
      record { member = x.member; linked = x.linked; at = x.begins; alone = λ g stands. in_its_frame x.member g on x.begins stands }

  -- ---- or it was unlinked in this microframe

  module _ (one : HasOneActive w.driver w.memory) where
    -- one that waits at another endpoint is another
    waits_there : (i t : ℕ) (v : Endpoint) (y : Transfer) → slice_get w.driver.endpoints i ≡ Some v → v.gone ≡ false → is_iso v.desc.kind ≡ true → slice_get w.driver.transfers t ≡ Some y
        → is_descriptor y.sort ≡ true → waits_for i y ≡ true → n ≡ 32 * y.first → IsRemovedAt w.driver.endpoints w.driver.transfers n (removed.Endpoint e)
    waits_there i t v y here kept iso there sort waits name =
        let held = waiting_held d has i t v y here kept there waits in
        let same : y ≡ a.transfer = same_run d has t a.number n y a.transfer there a.here sort a.descriptor held a.held name a.at in
        let at : i ≡ e = sym (waits_is i y waits).0 ∙ ap (λ (z : Transfer). z.endpoint) same ∙ a.endpoint in
        subst (λ (j : ℕ). IsRemovedAt d.endpoints d.transfers n (removed.Endpoint j)) at (a_waiting i t v y here iso there sort waits name)

    not_a_queue : (i : ℕ) (v : Endpoint) → slice_get w.driver.endpoints i ≡ Some v → is_iso v.desc.kind ≡ false → v.gone ≡ false → n ≡ 32 * v.queue → ⊥
    not_a_queue i v here queue kept name =
        let o = has.owned.each.queue i (runs_of_endpoint v) (ap (option_map runs_of_endpoint) here) (ap (λ (b : Bool). b || v.gone) queue ∙ kept) in
        no_head_there d has i a.number n v.queue a.transfer o.owned name a.here a.descriptor a.held a.at

    removed_by : (i : ℕ) (r : Removal) (what : Removed) → slice_get w.driver.periodic.removals i ≡ Some r → r.what ≡ what → IsRemovedAt w.driver.endpoints w.driver.transfers n what
        → IsRemovedAt w.driver.endpoints w.driver.transfers n (removed.Endpoint e)
    removed_by i r _ at is (a_descriptor t y there name) =
        let h = removed_held d has t y i r there at is in
        let same : y ≡ a.transfer = same_run d has t a.number n y a.transfer there a.here h.1.1 a.descriptor h.1.0 a.held name a.at in
        absurd (true≢false (sym h.0 ∙ ap (λ (z : Transfer). z.reported) same ∙ unreported d w.memory e f n one (active_framed d w.memory e f n k.awaiting a)))
    removed_by i r _ at is (a_queue g v there queue name) = absurd (not_a_queue g v there queue (removed_kept d has g v i r there at is) name)
    removed_by i r _ at is (a_waiting g t v y in_list iso there sort waits name) = waits_there g t v y in_list (removed_kept d has g v i r in_list at is) iso there sort waits name

    unchained_by : (i : ℕ) (what : Removed) → w.driver.command ≡ Some (unfinished.Unchain i) → what ≡ removed.Endpoint i → IsRemovedAt w.driver.endpoints w.driver.transfers n what
        → IsRemovedAt w.driver.endpoints w.driver.transfers n (removed.Endpoint e)
    unchained_by i _ is same (a_descriptor t y there name) = absurd (cc)
    unchained_by i _ is same (a_queue g v there queue name) =
        let own : g ≡ i = endpoint_same g i same in
        let chained = unchained_in d has k.now.framed.place.queues g v there (is ∙ ap (λ (j : ℕ). Some (unfinished.Unchain j)) (sym own)) in
        absurd (not_a_queue g v there queue (alive d has g v there chained) name)
    unchained_by i _ is same (a_waiting g t v y in_list iso there sort waits name) =
        let own : g ≡ i = endpoint_same g i same in
        let chained = unchained_in d has k.now.framed.place.queues g v in_list (is ∙ ap (λ (j : ℕ). Some (unfinished.Unchain j)) (sym own)) in
        waits_there g t v y in_list (alive d has g v in_list chained) iso there sort waits name

    of_left : (left : ℕ → Option Kind) (kind : Kind) → AreRecent w.driver w.registers.frame_index left → left n ≡ Some kind → IsRemovedAt w.driver.endpoints w.driver.transfers n (removed.Endpoint e)
    of_left left kind are is =
        ⊎_elim (λ (since : IsRemovedSince w.driver.endpoints w.driver.transfers w.driver.periodic.removals w.registers.frame_index n).
        removed_by since.place since.removal since.removal.what since.here refl since.what)
        (λ (now : IsUnchainedNow w.driver.endpoints w.driver.transfers w.driver.command n). unchained_by now.endpoint (removed.Endpoint now.endpoint) now.command refl now.what) (are n kind is)

    by_met : (left : ℕ → Option Kind) (kind : Kind) → AreRecent w.driver w.registers.frame_index left → (o : Option Kind) → standing w.driver n ≡ o → or_recent o (left n) ≡ Some kind
        → StandsAlone w.driver n f ⊎ WaitsLeft w.driver left n e
    by_met left kind are (Some other) at is = inl (stands_alone other at)
    by_met left kind are None at is = inr (record { off = at; kind = kind; is = is; what = of_left left kind are is })

pub active_stands : ActiveStands
active_stands s w e f n kind k is a = stands_alone s w e f n k a kind is

pub queue_is_not_active : QueueIsNotActive
queue_is_not_active s w q e f n k on at a =
    let has = k.now.framed.place.sound.owners in
    let o : IsQueueOf w.driver q = queue_there w.driver q k.now.framed.place.sound.listed on in
    let p : IsOwnedAs w.driver has.owner q.id (HeadOf o.number) = queue_owned w.driver q has o in
    no_head_there w.driver has o.number a.number n (q.id / 32) a.transfer p.owned (sym at) a.here a.descriptor a.held a.at

pub active_is_met : ActiveIsMet
active_is_met s w left e f n kind k one are is a = by_met s w e f n k a one left kind are (standing w.driver n) refl is

pub scheduled_is_alone : ScheduledIsAlone
scheduled_is_alone s w x k on e f g a stands = in_its_frame s w e f (begins x) k a x g on refl stands

-- ---- what is met is lent

module _ (s : Standing) (w : World) (n t : ℕ) (y : Transfer) (k : IsMixedAt s w) (there : slice_get w.driver.transfers t ≡ Some y) (sort : is_descriptor y.sort ≡ true) (held : y.released ≡ false) (name : n ≡ 32 * y.first) where
  abbrev its : HasOwners w.driver
  its = k.now.framed.place.sound.owners

  lent_by : (q : Structure) → both s.descs s.parts n n ≡ Some q → is_of_descriptor (sort_of q) ≡ true → (b : Bool) → owns s.descs n ≡ b → IsLent (slot_of w.driver.book.slots y.first)
  lent_by q here of true on =
      let a : IsAtOwner (views_of w.driver) n = on_owner (views_of w.driver) s.descs n k.now.framed.described on in
      subst (λ (b : ℕ). IsLent (slot_of w.driver.book.slots b)) (same_blocks a.transfer.first y.first (sym a.name ∙ name)) a.lent.lent
  lent_by q here of false off =
      absurd (not_driven w.driver its s.descs s.parts k.now.framed.driven k.now.framed.described n n (sort_of q)
      (k.now.framed.driven.only n n (sort_of q)
      (ap (λ (part : ℕ → Option Structure). option_map sort_of (part n)) (sym (both_off s.descs s.parts n off)) ∙ ap (option_map sort_of) here)) of)

  by_kind : (kind : Kind) → IsMetAs (met w.driver s.recent) n (both s.descs s.parts n) kind → IsLent (slot_of w.driver.book.slots y.first)
  by_kind AQueue m =
      absurd (no_descriptor_there w.driver its s.descs s.parts k.now.framed.driven k.now.framed.described t y n (QueueHead m.part_is.queue) m.part_is.here refl there sort held name)
  by_kind AnItd m = lent_by (Isochronous m.itd) m.here refl (owns s.descs n) refl
  by_kind ASitd m = lent_by (SplitIsochronous m.sitd) m.here refl (owns s.descs n) refl

  -- so is one that stands in its run
  pub part_is_lent : (kind : Kind) → HasPart n (both s.descs s.parts n) kind → IsLent (slot_of w.driver.book.slots y.first)
  part_is_lent AQueue m =
      absurd (no_descriptor_there w.driver its s.descs s.parts k.now.framed.driven k.now.framed.described t y n (QueueHead m.part_is.queue) m.part_is.here refl there sort held name)
  part_is_lent AnItd m = lent_by (Isochronous m.itd) m.here refl (owns s.descs n) refl
  part_is_lent ASitd m = lent_by (SplitIsochronous m.sitd) m.here refl (owns s.descs n) refl

pub met_is_lent : MetIsLent
met_is_lent s w n t y kind k is there sort held name = by_kind s w n t y k there sort held name kind (k.now.framed.runs.members n kind is)
