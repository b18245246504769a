-- The walk of the frames doesn't meet the queue head of an endpoint that is given back next: it isn't linked any more, and of what was unlinked it alone has its block.
use Rattle.std.proofs.Common.{◌≡◌, ℕ, zero, suc, ◌*◌, ◌/◌, ◌≤◌, Bool, true, false, not, ◌&&◌, ◌||◌, ◌==◌, cond, if◌then◌else◌, slice_get, Option, Some, None, option_map, ⊎_elim, ap, refl, sym, subst, ◌∙◌, arith}
use Rattle.std.proofs.lemmas.Bool.{false≢true, true≢false, eq-eqb}
use Rattle.std.proofs.lemmas.Option.{same_Some}
use Rattle.law_driver.proofs.Common.{waits_is, same_endpoint, ring_queue}
use Rattle.law_frame_list.proofs.Common.{no_descriptor}
use Rattle.law_common.proofs.Numbers.{same_blocks}
use Rattle.law_common.proofs.Booleans.{owed_by}
use Rattle.drv_chains.specs.declared.members.Member.{Member}
use Rattle.drv_chains.specs.declared.members.Member.TheVariants.{Once, Each}
use Rattle.drv_chains.specs.Chains.{id_of}
use Rattle.drv_members.specs.Members.{is_linked}
use Rattle.drv_periodic_table.specs.Periodic.{is_periodic}
use Rattle.drv_periodic_table.specs.declared.content.Removal.{Removal}
use Rattle.drv_periodic_table.specs.declared.content.Removed.{Removed}
use Rattle.drv_periodic_table.specs.declared.content.Removed.TheVariants as removed
use Rattle.drv_table.specs.declared.content.Endpoint.{Endpoint}
use Rattle.drv_table.specs.declared.content.Transfer.{Transfer}
use Rattle.drv_table.specs.DriverContent.{DriverContent, waits_for}
use Rattle.drv_table.specs.Parts.{Parts}
use Rattle.drv_table.specs.Kinds.{is_iso}
use Rattle.claims_driver.specs.Owners.{QueueHead, is_descriptor, runs_of_transfer, runs_of_endpoint, views_of}
use Rattle.claims_driver.specs.Leaving.{times, endpoints_in, owes, leaves_frames, HasOwners}
use Rattle.law_driver.proofs.lemmas.run_owners.Orders.{endpoint_first, IsRemoved}
use Rattle.law_driver.proofs.lemmas.run_owners.Leaves.{first_removed}
use Rattle.claims_driver.specs.FrameListMembers.{Framed, framed_of, framed_in}
use Rattle.law_driver.specs.listed_members.Members.{IsStanding, IsQueueOf, IsListed}
use Rattle.law_driver.proofs.lemmas.listed_members.Standing.{descriptor_placed, standing_block, why_stands}
use Rattle.law_driver.proofs.lemmas.listed_members.Owned.{queue_owned}
use Rattle.law_frame_list.proofs.lemmas.list_spread.Spreading.{queue_there, standing_there}
use Rattle.law_frames.specs.Met.{Kind}
use Rattle.claims_driver.specs.Unlinked.{led_by, IsOpenAt}
use Rattle.law_descriptors.specs.Removed.{IsRemovedAt, a_descriptor, a_queue, a_waiting, IsRemovedSince, IsUnchainedNow}
use Rattle.law_descriptors.specs.Meeting.{standing, or_recent, met}
use Rattle.law_descriptors.specs.Recent.{AreRecent}
use Rattle.law_descriptors.specs.Returned.{IsGivenBack}
use Rattle.law_descriptors.proofs.Finding.{member_at}
use Rattle.law_descriptors.proofs.Leading.{led_linked}
use Rattle.law_descriptors.proofs.Returning.{frames_owed, one_of, transfer_counts, endpoint_counts, not_open, none_some}
use Rattle.law_descriptors.proofs.Waiting.{later_endpoint, frames_most}
use Rattle.law_world.specs.memory.framed_memory.Leaving.{InterruptIsUnmet, RingIsUnmet}

-- an endpoint with a queue, out of the frames, of which no removal is recorded that is open still
module _ (d : DriverContent) (recent : ℕ → Option Kind) (index e : ℕ) (x : Endpoint) (has : HasOwners d) (listed : IsListed d) (idle : d.command ≡ None) (here : slice_get d.endpoints e ≡ Some x) (queued : is_iso x.desc.kind ≡ false) (kept : x.gone ≡ false) (out : x.chained ≡ false) (never : (k : ℕ) (r : Removal) → slice_get d.periodic.removals k ≡ Some r → r.what ≡ removed.Endpoint e → IsOpenAt index r.boundary → ⊥) where
  mine : has.owner x.queue ≡ QueueHead e
  mine = (has.owned.each.queue e (runs_of_endpoint x) (ap (option_map runs_of_endpoint) here) (ap (λ (b : Bool). b || x.gone) queued ∙ kept)).owned

  not_described : (u : ℕ) (z : Transfer) → slice_get d.transfers u ≡ Some z → is_descriptor z.sort ≡ true → z.released ≡ false → 32 * x.queue ≡ 32 * z.first → ⊥
  not_described u z there sort held at =
      let o = has.owned.each.described u (runs_of_transfer z) (ap (option_map runs_of_transfer) there) sort held in
      no_descriptor e u ((views_of d).descriptor z.first).split (sym mine ∙ ap has.owner (same_blocks x.queue z.first at) ∙ o.descriptor.owned)

  -- ---- it isn't linked

  unlinked_at : (m : Member) → is_linked d.periodic.list.members.schedule m ≡ true → id_of m / 32 ≡ x.queue → ⊥
  unlinked_at (Each q) on block =
      let s : IsQueueOf d q = queue_there d q listed on in
      let same : s.number ≡ e = same_endpoint s.number e (sym (queue_owned d q has s).owned ∙ ap has.owner block ∙ mine) in
      let is : framed_of x ≡ s.framed = same_Some (framed_of x) s.framed (sym (ap (option_map framed_of) here) ∙ ap (framed_in d.endpoints) (sym same) ∙ s.here) in
      false≢true (sym out ∙ ap (λ (z : Framed). z.chained) is ∙ s.chained)
  unlinked_at (Once k) on block =
      let s : IsStanding d (Once k) = standing_there d k listed on in
      let o = descriptor_placed d s.number s.placed has s.here (why_stands d (Once k) s) in
      no_descriptor e s.number _ (sym mine ∙ ap has.owner (sym block ∙ standing_block d (Once k) s) ∙ o.owned)

  stands_not : (o : Option Kind) → standing d (32 * x.queue) ≡ o → o ≡ None
  stands_not None is = refl
  stands_not (Some kind) is =
      let at = member_at d.periodic (led_by d.periodic.list.members.schedule d.periodic.list.work) (32 * x.queue) kind is in
      absurd (unlinked_at at.member (led_linked d.periodic.list.members.schedule d.periodic.list.work at.member at.linked) (same_blocks (id_of at.member / 32) x.queue at.begins))

  -- ---- nor is it recent

  gone_not : (f : ℕ) (v : Endpoint) → slice_get d.endpoints f ≡ Some v → 1 ≤ times f (endpoints_in d.periodic.removals) → v.gone ≡ false
  gone_not f v at counts =
      let most = has.orderly.removed f in
      let owes_it : leaves_frames (slice_get d.endpoints f) ≡ (if v.chained || v.gone || not (is_periodic v.desc.kind) then 0 else 1) = ap leaves_frames at in
      frames_owed v.chained v.gone (is_periodic v.desc.kind) (omega (arith, counts, most, owes_it))

  -- a descriptor that waits at an endpoint that wasn't given back has its run
  held_by : (f u : ℕ) (v : Endpoint) (z : Transfer) → slice_get d.endpoints f ≡ Some v → v.gone ≡ false → slice_get d.transfers u ≡ Some z → waits_for f z ≡ true → (b : Bool) → z.released ≡ b → z.released ≡ false
  held_by f u v z at on in_list waiting false is = is
  held_by f u v z at on in_list waiting true is =
      let told = waits_is f z waiting in
      absurd (true≢false (sym (has.orderly.untold u z in_list is told.1 v (ap (slice_get d.endpoints) told.0 ∙ at)) ∙ on))

  recent_by : (k : ℕ) (r : Removal) (w : Removed) → slice_get d.periodic.removals k ≡ Some r → r.what ≡ w → IsRemovedAt d.endpoints d.transfers (32 * x.queue) w → IsOpenAt index r.boundary → ⊥
  recent_by k r _ at what (a_descriptor u z in_list n) still =
      let counts = transfer_counts u d.periodic.removals k r at what in
      let most = has.orderly.harvests u in
      let owes_it : owes (slice_get d.transfers u) ≡ (if z.reported && not z.released then 1 else 0) = ap owes in_list in
      let told = owed_by z.reported z.released (omega (arith, counts, most, owes_it)) in
      not_described u z in_list (has.orderly.unlinked u z (omega (arith, counts)) in_list) told.1 n
  recent_by k r _ at what (a_queue f v in_list bulk n) still =
      let on : v.gone ≡ false = gone_not f v in_list (endpoint_counts f d.periodic.removals k r at what) in
      let o = has.owned.each.queue f (runs_of_endpoint v) (ap (option_map runs_of_endpoint) in_list) (ap (λ (b : Bool). b || v.gone) bulk ∙ on) in
      let same : f ≡ e = same_endpoint f e (sym o.owned ∙ ap has.owner (sym (same_blocks x.queue v.queue n)) ∙ mine) in
      never k r at (what ∙ ap removed.Endpoint same) still
  recent_by k r _ at what (a_waiting f u v z in_endpoints iso in_list is waiting n) still =
      let on : v.gone ≡ false = gone_not f v in_endpoints (endpoint_counts f d.periodic.removals k r at what) in
      not_described u z in_list is (held_by f u v z in_endpoints on in_list waiting z.released refl) n

  recent_not : AreRecent d index recent → (o : Option Kind) → recent (32 * x.queue) ≡ o → o ≡ None
  recent_not are None is = refl
  recent_not are (Some kind) is =
      absurd (⊎_elim (λ (since : IsRemovedSince d.endpoints d.transfers d.periodic.removals index (32 * x.queue)).
      recent_by since.place since.removal since.removal.what since.here refl since.what since.within)
      (λ (now : IsUnchainedNow d.endpoints d.transfers d.command (32 * x.queue)). none_some _ (sym idle ∙ now.command))
      (are (32 * x.queue) kind is))

  unmet : AreRecent d index recent → met d recent (32 * x.queue) ≡ None
  unmet are = ap (λ (o : Option Kind). or_recent o (recent (32 * x.queue))) (stands_not (standing d (32 * x.queue)) refl) ∙ recent_not are (recent (32 * x.queue)) refl

-- ---- an interrupt endpoint

module _ (p : Parts) (index e : ℕ) (x : Endpoint) (has : HasOwners p.driver) (why : IsGivenBack p (removed.Endpoint e)) (here : slice_get p.driver.endpoints e ≡ Some x) where
  -- it was removed once, and a later frame was read since
  passed : (k : ℕ) (r : Removal) → slice_get p.driver.periodic.removals k ≡ Some r → r.what ≡ removed.Endpoint e → IsOpenAt index r.boundary → ⊥
  passed zero r at what still =
      let same : r ≡ why.due.removal = same_Some r why.due.removal (sym at ∙ why.due.first) in
      not_open index why.due.removal.boundary why.seen (subst (λ (z : Removal). IsOpenAt index z.boundary) same still)
  passed (suc k) r at what still =
      let first = endpoint_first e e p.driver.periodic.removals why.due.removal why.due.first why.due.is in
      let later = later_endpoint e p.driver.periodic.removals k r at what in
      let one : ◌≡◌ {A = ℕ} (cond (e == e) 1 0) 1 = one_of (e == e) (eq-eqb e e refl) in
      let most = has.orderly.removed e in
      let owes_it : leaves_frames (slice_get p.driver.endpoints e) ≡ (if x.chained || x.gone || not (is_periodic x.desc.kind) then 0 else 1) = ap leaves_frames here in
      let once = frames_most (x.chained || x.gone || not (is_periodic x.desc.kind)) in
      omega (arith, first, later, one, most, owes_it, once)

  removed_is : IsRemoved p.driver.endpoints e
  removed_is = first_removed e why.due.removal why.due.first why.due.is has.orderly

  removed_same : removed_is.endpoint ≡ x
  removed_same = same_Some removed_is.endpoint x (sym removed_is.here ∙ here)

  pub out_of_frames : x.chained ≡ false
  out_of_frames = ap (λ (z : Endpoint). z.chained) (sym removed_same) ∙ removed_is.chained

  pub still_kept : x.gone ≡ false
  still_kept = ap (λ (z : Endpoint). z.gone) (sym removed_same) ∙ removed_is.gone

pub interrupt_is_unmet : InterruptIsUnmet
interrupt_is_unmet p recent index e x has listed are why here queued =
    unmet p.driver recent index e x has listed why.due.idle here queued (still_kept p index e x has why here) (out_of_frames p index e x has why here) (passed p index e x has why here) are

-- ---- an endpoint of the ring

owes_none : (x : Endpoint) → is_periodic x.desc.kind ≡ false → x.chained ≡ false → x.gone ≡ false → leaves_frames (Some x) ≡ 0
owes_none x off out kept =
    ap (λ (b : Bool). cond (b || x.gone || not (is_periodic x.desc.kind)) 0 1) out ∙ ap (λ (b : Bool). cond (b || not (is_periodic x.desc.kind)) 0 1) kept ∙ ap (λ (b : Bool). cond (not b) 0 1) off

pub ring_is_unmet : RingIsUnmet
ring_is_unmet d recent index e x has listed are idle here ring kept =
    unmet d recent index e x has listed idle here (ring_queue x.desc.kind ring) kept out never are
  where
    by : (b : Bool) → x.chained ≡ b → x.chained ≡ false
    by false is = is
    by true is = absurd (true≢false (sym ((has.orderly.steady e x here).frames is) ∙ ring))

    out : x.chained ≡ false
    out = by x.chained refl

    never : (k : ℕ) (r : Removal) → slice_get d.periodic.removals k ≡ Some r → r.what ≡ removed.Endpoint e → IsOpenAt index r.boundary → ⊥
    never k r at what still =
        let counts = endpoint_counts e d.periodic.removals k r at what in
        let most = has.orderly.removed e in
        let none = ap leaves_frames here ∙ owes_none x ring out kept in
        omega (arith, counts, most, none)
