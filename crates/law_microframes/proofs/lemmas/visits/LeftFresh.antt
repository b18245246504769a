-- A queue head that is in the frame list, or is to be, wasn't unlinked in this microframe: its endpoint is in its frames, so it isn't among what left them.
use Rattle.std.proofs.Common.{◌≡◌, ℕ, ◌*◌, ◌/◌, ◌≤◌, Bool, true, false, not, ◌&&◌, ◌||◌, cond, if◌then◌else◌, slice_get, Option, Some, None, option_map, ⊎_elim, ap, refl, sym, ◌∙◌, arith}
use Rattle.law_driver.proofs.Common.{same_endpoint}
use Rattle.law_frame_list.proofs.Common.{no_descriptor}
use Rattle.law_common.proofs.Numbers.{same_blocks}
use Rattle.law_common.proofs.Booleans.{owed_by}
use Rattle.drv_chains.specs.declared.members.QueueHead.{QueueHead as Queue}
use Rattle.drv_chains.specs.declared.members.Member.TheVariants.{Each}
use Rattle.drv_members.specs.Members.{is_linked}
use Rattle.drv_periodic_table.specs.Periodic.{is_periodic}
use Rattle.drv_periodic_table.specs.declared.content.Removal.{Removal}
use Rattle.drv_periodic_table.specs.declared.content.Removed.{Removed}
use Rattle.drv_periodic_table.specs.declared.content.Removed.TheVariants as removed
use Rattle.drv_table.specs.declared.content.Endpoint.{Endpoint}
use Rattle.drv_table.specs.declared.content.Transfer.{Transfer}
use Rattle.drv_table.specs.declared.content.Command.TheVariants as unfinished
use Rattle.drv_table.specs.DriverContent.{DriverContent}
use Rattle.claims_driver.specs.Owners.{QueueHead, is_descriptor, runs_of_transfer, runs_of_endpoint, views_of}
use Rattle.claims_driver.specs.Leaving.{times, endpoints_in, owes, leaves_frames, HasOwners}
use Rattle.claims_driver.specs.FrameListMembers.{Framed}
use Rattle.law_driver.specs.listed_members.Members.{IsQueueOf, IsListed}
use Rattle.law_driver.proofs.lemmas.listed_members.Standing.{IsFramed, framed}
use Rattle.law_driver.proofs.lemmas.listed_members.Owned.{queue_owned}
use Rattle.law_frame_list.proofs.lemmas.list_spread.Spreading.{queue_there}
use Rattle.law_frames.specs.Met.{Kind}
use Rattle.law_descriptors.specs.Removed.{IsRemovedAt, a_descriptor, a_queue, a_waiting, IsRemovedSince, IsUnchainedNow}
use Rattle.law_descriptors.specs.Recent.{AreRecent}
use Rattle.law_descriptors.proofs.Returning.{frames_owed, transfer_counts, endpoint_counts}
use Rattle.law_microframes.proofs.lemmas.visits.BelongQueues.{waiting_held}

module _ (d : DriverContent) (left : ℕ → Option Kind) (index : ℕ) (q : Queue) (has : HasOwners d) (listed : IsListed d) (on : is_linked d.periodic.list.members.schedule (Each q) ≡ true)
    (stays : (e : ℕ) → d.command ≡ Some (unfinished.Unchain e) → ⊥) where
  s : IsQueueOf d q
  s = queue_there d q listed on

  e : ℕ
  e = s.number

  mine : has.owner (q.id / 32) ≡ QueueHead s.number
  mine = (queue_owned d q has s).owned

  f : IsFramed d.endpoints s.number s.framed
  f = framed d.endpoints s.number s.framed s.here

  chained : f.endpoint.chained ≡ true
  chained = ap (λ (z : Framed). z.chained) (sym f.is) ∙ s.chained

  -- it isn't among what left the frames
  never : (k : ℕ) (r : Removal) → slice_get d.periodic.removals k ≡ Some r → r.what ≡ removed.Endpoint s.number → ⊥
  never k r at what =
      let counts = endpoint_counts s.number d.periodic.removals k r at what in
      let most = has.orderly.removed s.number in
      let none : leaves_frames (slice_get d.endpoints s.number) ≡ 0
      = ap leaves_frames f.here ∙ ap (λ (b : Bool). cond (b || f.endpoint.gone || not (is_periodic f.endpoint.desc.kind)) 0 1) chained in
      omega (arith, counts, most, none)

  not_described : (u : ℕ) (z : Transfer) → slice_get d.transfers u ≡ Some z → is_descriptor z.sort ≡ true → z.released ≡ false → 32 * (q.id / 32) ≡ 32 * z.first → ⊥
  not_described u z there sort held at =
      let o = has.owned.each.described u (runs_of_transfer z) (ap (option_map runs_of_transfer) there) sort held in
      no_descriptor s.number u ((views_of d).descriptor z.first).split (sym mine ∙ ap has.owner (same_blocks (q.id / 32) z.first at) ∙ o.descriptor.owned)

  gone_not : (g : ℕ) (v : Endpoint) → slice_get d.endpoints g ≡ Some v → 1 ≤ times g (endpoints_in d.periodic.removals) → v.gone ≡ false
  gone_not g v at counts =
      let most = has.orderly.removed g in
      let owes_it : leaves_frames (slice_get d.endpoints g) ≡ (if v.chained || v.gone || not (is_periodic v.desc.kind) then 0 else 1) = ap leaves_frames at in
      frames_owed v.chained v.gone (is_periodic v.desc.kind) (omega (arith, counts, most, owes_it))

  removed_not : (k : ℕ) (r : Removal) (w : Removed) → slice_get d.periodic.removals k ≡ Some r → r.what ≡ w → IsRemovedAt d.endpoints d.transfers (32 * (q.id / 32)) w → ⊥
  removed_not k r _ at what (a_descriptor u z in_list n) =
      let counts = transfer_counts u d.periodic.removals k r at what in
      let most = has.orderly.harvests u in
      let owes_it : owes (slice_get d.transfers u) ≡ (if z.reported && not z.released then 1 else 0) = ap owes in_list in
      let told = owed_by z.reported z.released (omega (arith, counts, most, owes_it)) in
      not_described u z in_list (has.orderly.unlinked u z (omega (arith, counts)) in_list) told.1 n
  removed_not k r _ at what (a_queue g v in_list bulk n) =
      let kept : v.gone ≡ false = gone_not g v in_list (endpoint_counts g d.periodic.removals k r at what) in
      let o = has.owned.each.queue g (runs_of_endpoint v) (ap (option_map runs_of_endpoint) in_list) (ap (λ (b : Bool). b || v.gone) bulk ∙ kept) in
      let same : g ≡ s.number = same_endpoint g s.number (sym o.owned ∙ ap has.owner (sym (same_blocks (q.id / 32) v.queue n)) ∙ mine) in
      never k r at (what ∙ ap removed.Endpoint same)
  removed_not k r _ at what (a_waiting g u v z in_endpoints iso in_list is waiting n) =
      let kept : v.gone ≡ false = gone_not g v in_endpoints (endpoint_counts g d.periodic.removals k r at what) in
      not_described u z in_list is (waiting_held d has g u v z in_endpoints kept in_list waiting) n

  pub queue_fresh : AreRecent d index left → left (32 * (q.id / 32)) ≡ None
  queue_fresh are = by (left (32 * (q.id / 32))) refl
    where
      by : (o : Option Kind) → left (32 * (q.id / 32)) ≡ o → o ≡ None
      by None is = refl
      by (Some kind) is =
          absurd (⊎_elim (λ (since : IsRemovedSince d.endpoints d.transfers d.periodic.removals index (32 * (q.id / 32))).
          removed_not since.place since.removal since.removal.what since.here refl since.what)
          (λ (now : IsUnchainedNow d.endpoints d.transfers d.command (32 * (q.id / 32))). stays now.endpoint now.command)
          (are (32 * (q.id / 32)) kind is))
