-- A descriptor that waits at an isochronous endpoint which is given back next isn't met: the endpoint left its frames, and was removed first.
use Rattle.std.proofs.Common.{◌≡◌, ℕ, zero, suc, ◌+◌, ◌*◌, ◌/◌, ◌≤◌, Bool, true, false, not, ◌&&◌, cond, if◌then◌else◌, List, [], ◌∷◌, drop, Option, Some, None, ⊎_elim, ap, refl, sym, subst, ◌∙◌, arith}
use Rattle.std.specs.Prelude.{◌||◌, ◌==◌, slice_get, option_map, option_and_then}
use Rattle.std.proofs.lemmas.Bool.{false≢true, true≢false, eq-eqb}
use Rattle.std.proofs.lemmas.Option.{same_Some}
use Rattle.law_driver.proofs.Common.{waits_is}
use Rattle.law_common.proofs.Booleans.{both_not, out_owed, owed_by}
use Rattle.law_frame_list.proofs.Common.{same_number as same_transfer, no_descriptor}
use Rattle.law_common.proofs.Numbers.{same_blocks}
use Rattle.drv_chains.specs.declared.members.Member.{Member}
use Rattle.drv_chains.specs.declared.members.Member.TheVariants.{Once, Each}
use Rattle.drv_chains.specs.Chains.{id_of}
use Rattle.drv_members.specs.Members.{is_linked}
use Rattle.drv_periodic_table.specs.Periodic.{is_periodic}
use Rattle.drv_periodic_table.specs.declared.content.Removal.{Removal}
use Rattle.drv_periodic_table.specs.declared.content.Removed.{Removed}
use Rattle.drv_periodic_table.specs.declared.content.Removed.TheVariants as removed
use Rattle.drv_table.specs.declared.content.Endpoint.{Endpoint}
use Rattle.drv_table.specs.declared.content.Transfer.{Transfer}
use Rattle.drv_table.specs.DriverContent.{waits_for}
use Rattle.drv_table.specs.Parts.{Parts}
use Rattle.drv_table.specs.Kinds.{is_iso}
use Rattle.claims_driver.specs.Owners.{Described, is_descriptor, runs_of_transfer, runs_of_endpoint, views_of}
use Rattle.claims_driver.specs.Leaving.{times, transfers_in, endpoints_in, owes, leaves_frames, HasOwners}
use Rattle.law_driver.proofs.lemmas.run_owners.Orders.{endpoint_first}
use Rattle.claims_driver.specs.FrameListMembers.{Placed, framed_of, placed_of, placed_in, is_chained, framed_in, is_among}
use Rattle.law_driver.specs.listed_members.Members.{IsStanding, IsQueueOf, IsListed}
use Rattle.law_driver.proofs.lemmas.listed_members.Standing.{descriptor_placed, standing_block, why_stands, times_among}
use Rattle.law_driver.proofs.lemmas.listed_members.Owned.{queue_owned}
use Rattle.law_frame_list.proofs.lemmas.list_spread.Spreading.{queue_there, standing_there}
use Rattle.law_frames.specs.Met.{Kind}
use Rattle.claims_driver.specs.Unlinked.{led_by, IsOpenAt}
use Rattle.law_descriptors.specs.Removed.{IsRemovedAt, a_descriptor, a_queue, a_waiting, IsRemovedSince, IsUnchainedNow}
use Rattle.law_descriptors.specs.Meeting.{standing, or_recent, met}
use Rattle.law_descriptors.specs.Recent.{AreRecent}
use Rattle.law_descriptors.specs.Returned.{IsGivenBack}
use Rattle.law_descriptors.proofs.Finding.{member_at}
use Rattle.law_descriptors.proofs.Leading.{led_linked}
use Rattle.law_descriptors.proofs.Returning.{frames_owed, one_of, transfer_counts, endpoint_counts, not_open, none_some}

pub later_endpoint : (e : ℕ) (rs : List Removal) (k : ℕ) (r : Removal) → slice_get rs (suc k) ≡ Some r → r.what ≡ removed.Endpoint e → 1 ≤ times e (endpoints_in (drop 1 rs))
later_endpoint e [] k r here what = absurd cc
later_endpoint e (m ∷ ms) k r here what = endpoint_counts e ms k r here what

pub frames_most : (b : Bool) → (if b then 0 else 1) ≤ 1
frames_most true = omega arith
frames_most false = omega arith

out_waits : (b r c : Bool) (e f : ℕ) (z : Placed) → c ≡ false → (if b then Some (record { endpoint = e; block = f; waits = not r && c }) else None) ≡ Some z → z.waits ≡ false
out_waits true r c e f z out is = ap (λ (x : Placed). x.waits) (sym (same_Some (record { endpoint = e; block = f; waits = not r && c }) z is)) ∙ both_not (not r) c out
out_waits false r c e f z out is = absurd (none_some z is)

some_times : (n : ℕ) (b : Bool) → (n ≤ 0 → b ≡ false) → b ≡ true → 1 ≤ n
some_times zero b none is = absurd (false≢true (sym (none (omega arith)) ∙ is))
some_times (suc n) b none is = omega arith

module _ (p : Parts) (recent : ℕ → Option Kind) (index e t : ℕ) (x : Endpoint) (y : Transfer) (has : HasOwners p.driver) (listed : IsListed p.driver) (why : IsGivenBack p (removed.Endpoint e)) (there : slice_get p.driver.endpoints e ≡ Some x) (here : slice_get p.driver.transfers t ≡ Some y) (sort : is_descriptor y.sort ≡ true) (waits : waits_for e y ≡ true) where
  its_owed : 1 ≤ (if x.chained || x.gone || not (is_periodic x.desc.kind) then 0 else 1)
  its_owed =
      let counts = endpoint_counts e p.driver.periodic.removals 0 why.due.removal why.due.first why.due.is in
      let most = has.orderly.removed e in
      let owes_it : leaves_frames (slice_get p.driver.endpoints e) ≡ (if x.chained || x.gone || not (is_periodic x.desc.kind) then 0 else 1) = ap leaves_frames there in
      omega (arith, counts, most, owes_it)

  stays : x.gone ≡ false
  stays = frames_owed x.chained x.gone (is_periodic x.desc.kind) its_owed

  out : x.chained ≡ false
  out = out_owed x.chained x.gone (is_periodic x.desc.kind) its_owed

  off : (y.endpoint ≡ e) × (y.reported ≡ false)
  off = waits_is e y waits

  -- such a descriptor of an endpoint that wasn't given back has its run
  held_by : (f u : ℕ) (v : Endpoint) (z : Transfer) → slice_get p.driver.endpoints f ≡ Some v → v.gone ≡ false → slice_get p.driver.transfers u ≡ Some z → waits_for f z ≡ true → (b : Bool) → z.released ≡ b → z.released ≡ false
  held_by f u v z at on in_list waiting false is = is
  held_by f u v z at on in_list waiting true is =
      let told = waits_is f z waiting in
      absurd (true≢false (sym (has.orderly.untold u z in_list is told.1 v (ap (slice_get p.driver.endpoints) told.0 ∙ at)) ∙ on))

  record IsOwnedBy (u : ℕ) (z : Transfer) : Type 0 where
    split : Bool
    owned : has.owner z.first ≡ Described split u

  owned_by : (u : ℕ) (z : Transfer) → slice_get p.driver.transfers u ≡ Some z → is_descriptor z.sort ≡ true → z.released ≡ false → IsOwnedBy u z
  owned_by u z in_list is held =
      let o = has.owned.each.described u (runs_of_transfer z) (ap (option_map runs_of_transfer) in_list) is held in
      record { split = ((views_of p.driver).descriptor z.first).split; owned = o.descriptor.owned }

  mine : IsOwnedBy t y
  mine = owned_by t y here sort (held_by e t x y there stays here waits y.released refl)

  same_number : (u : ℕ) (z : Transfer) → IsOwnedBy u z → 32 * y.first ≡ 32 * z.first → u ≡ t
  same_number u z o is = same_transfer o.split mine.split u t (sym o.owned ∙ ap has.owner (sym (same_blocks y.first z.first is)) ∙ mine.owned)

  same_one : (u : ℕ) (z : Transfer) → slice_get p.driver.transfers u ≡ Some z → u ≡ t → z ≡ y
  same_one u z in_list is = same_Some z y (sym in_list ∙ ap (slice_get p.driver.transfers) is ∙ here)

  owed : (u : ℕ) (z : Transfer) → slice_get p.driver.transfers u ≡ Some z → 1 ≤ times u p.driver.periodic.unlinks + times u (transfers_in p.driver.periodic.removals) → (z.reported ≡ true) × (z.released ≡ false)
  owed u z in_list counts =
      let most = has.orderly.harvests u in
      let owes_it : owes (slice_get p.driver.transfers u) ≡ (if z.reported && not z.released then 1 else 0) = ap owes in_list in
      owed_by z.reported z.released (omega (arith, counts, most, owes_it))

  -- ---- it isn't linked

  its_frames : is_chained (framed_in p.driver.endpoints y.endpoint) ≡ false
  its_frames = ap (λ (o : Option Endpoint). is_chained (option_map framed_of o)) (ap (slice_get p.driver.endpoints) off.0 ∙ there) ∙ out

  unlinked_at : (m : Member) → is_linked p.driver.periodic.list.members.schedule m ≡ true → id_of m / 32 ≡ y.first → ⊥
  unlinked_at (Each q) on block =
      let s : IsQueueOf p.driver q = queue_there p.driver q listed on in
      no_descriptor s.number t mine.split (sym (queue_owned p.driver q has s).owned ∙ ap has.owner block ∙ mine.owned)
  unlinked_at (Once k) on block =
      let s : IsStanding p.driver (Once k) = standing_there p.driver k listed on in
      let o = descriptor_placed p.driver s.number s.placed has s.here (why_stands p.driver (Once k) s) in
      let at : s.placed.block ≡ y.first = sym (standing_block p.driver (Once k) s) ∙ block in
      let same : s.number ≡ t = same_transfer _ mine.split s.number t (sym o.owned ∙ ap has.owner at ∙ mine.owned) in
      ⊎_elim (λ (among : is_among s.number p.driver.periodic.unlinks ≡ true).
      let some : 1 ≤ times t p.driver.periodic.unlinks = some_times (times t p.driver.periodic.unlinks) (is_among t p.driver.periodic.unlinks)
      (λ none. times_among t p.driver.periodic.unlinks (is_among t p.driver.periodic.unlinks) refl none) (ap (λ (n : ℕ). is_among n p.driver.periodic.unlinks) (sym same) ∙ among) in
      true≢false (sym (owed t y here (omega (arith, some))).0 ∙ off.1))
      (λ (waiting : s.placed.waits ≡ true).
      false≢true (sym (out_waits (is_descriptor y.sort) y.reported (is_chained (framed_in p.driver.endpoints y.endpoint)) y.endpoint y.first s.placed its_frames
      (ap (option_and_then (placed_of p.driver.endpoints)) (sym here) ∙ ap (placed_in p.driver.endpoints p.driver.transfers) (sym same) ∙ s.here)) ∙ waiting))
      (why_stands p.driver (Once k) s)

  stands_not : (o : Option Kind) → standing p.driver (32 * y.first) ≡ o → o ≡ None
  stands_not None is = refl
  stands_not (Some kind) is =
      let at = member_at p.driver.periodic (led_by p.driver.periodic.list.members.schedule p.driver.periodic.list.work) (32 * y.first) kind is in
      absurd (unlinked_at at.member (led_linked p.driver.periodic.list.members.schedule p.driver.periodic.list.work at.member at.linked) (same_blocks (id_of at.member / 32) y.first at.begins))

  -- ---- nor is it recent

  first_or_later : (k : ℕ) (r : Removal) → slice_get p.driver.periodic.removals k ≡ Some r → r.what ≡ removed.Endpoint e → IsOpenAt index r.boundary → ⊥
  first_or_later zero r at what still =
      let same : r ≡ why.due.removal = same_Some r why.due.removal (sym at ∙ why.due.first) in
      not_open index why.due.removal.boundary why.seen (subst (λ (z : Removal). IsOpenAt index z.boundary) same still)
  first_or_later (suc k) r at what still =
      let first = endpoint_first e e p.driver.periodic.removals why.due.removal why.due.first why.due.is in
      let later = later_endpoint e p.driver.periodic.removals k r at what in
      let one : ◌≡◌ {A = ℕ} (cond (e == e) 1 0) 1 = one_of (e == e) (eq-eqb e e refl) in
      let most = has.orderly.removed e in
      let owes_it : leaves_frames (slice_get p.driver.endpoints e) ≡ (if x.chained || x.gone || not (is_periodic x.desc.kind) then 0 else 1) = ap leaves_frames there in
      let once = frames_most (x.chained || x.gone || not (is_periodic x.desc.kind)) in
      omega (arith, first, later, one, most, owes_it, once)

  gone_not : (f : ℕ) (v : Endpoint) → slice_get p.driver.endpoints f ≡ Some v → 1 ≤ times f (endpoints_in p.driver.periodic.removals) → v.gone ≡ false
  gone_not f v at counts =
      let most = has.orderly.removed f in
      let owes_it : leaves_frames (slice_get p.driver.endpoints f) ≡ (if v.chained || v.gone || not (is_periodic v.desc.kind) then 0 else 1) = ap leaves_frames at in
      frames_owed v.chained v.gone (is_periodic v.desc.kind) (omega (arith, counts, most, owes_it))

  recent_by : (k : ℕ) (r : Removal) (w : Removed) → slice_get p.driver.periodic.removals k ≡ Some r → r.what ≡ w → IsRemovedAt p.driver.endpoints p.driver.transfers (32 * y.first) w → IsOpenAt index r.boundary → ⊥
  recent_by k r _ at what (a_descriptor u z in_list n) still =
      let counts = transfer_counts u p.driver.periodic.removals k r at what in
      let told = owed u z in_list (omega (arith, counts)) in
      let is : is_descriptor z.sort ≡ true = has.orderly.unlinked u z (omega (arith, counts)) in_list in
      let same : u ≡ t = same_number u z (owned_by u z in_list is told.1) n in
      true≢false (sym told.0 ∙ ap (λ (v : Transfer). v.reported) (same_one u z in_list same) ∙ off.1)
  recent_by k r _ at what (a_queue f v in_list queued n) still =
      let on : v.gone ≡ false = gone_not f v in_list (endpoint_counts f p.driver.periodic.removals k r at what) in
      let o = has.owned.each.queue f (runs_of_endpoint v) (ap (option_map runs_of_endpoint) in_list) (ap (λ (b : Bool). b || v.gone) queued ∙ on) in
      no_descriptor f t mine.split (sym o.owned ∙ ap has.owner (sym (same_blocks y.first v.queue n)) ∙ mine.owned)
  recent_by k r _ at what (a_waiting f u v z in_endpoints iso in_list is waiting n) still =
      let on : v.gone ≡ false = gone_not f v in_endpoints (endpoint_counts f p.driver.periodic.removals k r at what) in
      let same : u ≡ t = same_number u z (owned_by u z in_list is (held_by f u v z in_endpoints on in_list waiting z.released refl)) n in
      let own : f ≡ e = sym (waits_is f z waiting).0 ∙ ap (λ (w : Transfer). w.endpoint) (same_one u z in_list same) ∙ off.0 in
      first_or_later k r at (what ∙ ap removed.Endpoint own) still

  recent_not : AreRecent p.driver index recent → (o : Option Kind) → recent (32 * y.first) ≡ o → o ≡ None
  recent_not are None is = refl
  recent_not are (Some kind) is =
      absurd (⊎_elim (λ (since : IsRemovedSince p.driver.endpoints p.driver.transfers p.driver.periodic.removals index (32 * y.first)).
      recent_by since.place since.removal since.removal.what since.here refl since.what since.within)
      (λ (now : IsUnchainedNow p.driver.endpoints p.driver.transfers p.driver.command (32 * y.first)). none_some _ (sym why.due.idle ∙ now.command))
      (are (32 * y.first) kind is))

  unmet : AreRecent p.driver index recent → met p.driver recent (32 * y.first) ≡ None
  unmet are = ap (λ (o : Option Kind). or_recent o (recent (32 * y.first))) (stands_not (standing p.driver (32 * y.first)) refl) ∙ recent_not are (recent (32 * y.first)) refl

pub waiting_are_unmet : (p : Parts) (recent : ℕ → Option Kind) (index e t : ℕ) (x : Endpoint) (y : Transfer) → HasOwners p.driver → IsListed p.driver → AreRecent p.driver index recent → IsGivenBack p (removed.Endpoint e) → slice_get p.driver.endpoints e ≡ Some x → is_iso x.desc.kind ≡ true → slice_get p.driver.transfers t ≡ Some y → is_descriptor y.sort ≡ true → waits_for e y ≡ true → met p.driver recent (32 * y.first) ≡ None
waiting_are_unmet p recent index e t x y has listed are why there iso here sort waits = unmet p recent index e t x y has listed why there here sort waits are
