-- A descriptor that is given back next isn't met: it isn't linked any more, and of what was unlinked it alone has its block.
use Rattle.std.proofs.Common.{◌≡◌, ℕ, zero, suc, ◌+◌, ◌*◌, ◌/◌, ◌≤◌, Bool, true, false, not, ◌&&◌, cond, if◌then◌else◌, List, [], ◌∷◌, drop, Option, Some, None, ⊎_elim, ap, refl, sym, subst, ◌∙◌, arith}
use Rattle.std.specs.Prelude.{◌||◌, ◌==◌, slice_get, option_map, option_and_then}
use Rattle.std.proofs.lemmas.Bool.{false≢true, true≢false, eqb-true, eq-eqb, and_parts}
use Rattle.std.proofs.lemmas.Option.{same_Some}
use Rattle.law_frame_list.proofs.Common.{same_number as same_transfer, no_descriptor}
use Rattle.law_common.proofs.Numbers.{same_blocks}
use Rattle.law_common.proofs.Booleans.{owed_by}
use Rattle.drv_chains.specs.declared.members.Member.{Member}
use Rattle.drv_chains.specs.declared.members.Member.TheVariants.{Once, Each}
use Rattle.drv_chains.specs.Chains.{id_of}
use Rattle.drv_chains.specs.declared.boundary.Boundary.{Boundary}
use Rattle.drv_chains.specs.declared.boundary.Boundary.TheVariants.{Seen}
use Rattle.drv_chains.specs.Boundary.{is_seen}
use Rattle.drv_members.specs.Members.{is_linked}
use Rattle.drv_periodic_table.specs.declared.content.Removal.{Removal}
use Rattle.drv_periodic_table.specs.declared.content.Removed.{Removed}
use Rattle.drv_periodic_table.specs.declared.content.Removed.TheVariants as removed
use Rattle.drv_periodic_table.specs.Periodic.{is_periodic}
use Rattle.drv_table.specs.declared.content.Endpoint.{Endpoint}
use Rattle.drv_table.specs.declared.content.Transfer.{Transfer}
use Rattle.drv_table.specs.DriverContent.{waits_for}
use Rattle.drv_table.specs.Parts.{Parts}
use Rattle.claims_driver.specs.Owners.{Owner, QueueHead, Dummy, Element, Described, Buffer, is_descriptor, runs_of_transfer, runs_of_endpoint, views_of}
use Rattle.claims_driver.specs.Leaving.{times, transfers_in, transfer_before, endpoints_in, endpoint_before, owes, leaves_frames, HasOwners}
use Rattle.law_driver.proofs.lemmas.run_owners.Orders.{removed_first}
use Rattle.claims_driver.specs.FrameListMembers.{Placed, placed_of, placed_in, is_chained, framed_in, is_among}
use Rattle.law_driver.specs.listed_members.Members.{IsStanding, IsQueueOf, IsListed}
use Rattle.law_driver.proofs.lemmas.listed_members.Standing.{descriptor_placed, standing_block, why_stands, times_among}
use Rattle.law_driver.proofs.lemmas.listed_members.Owned.{queue_owned}
use Rattle.law_frame_list.proofs.lemmas.list_spread.Spreading.{queue_there, standing_there}
use Rattle.law_frames.specs.Met.{Kind}
use Rattle.claims_driver.specs.Unlinked.{led_by, IsOpenAt}
use Rattle.law_descriptors.specs.Removed.{IsRemovedAt, a_descriptor, a_queue, a_waiting, IsRemovedSince, IsUnchainedNow}
use Rattle.law_descriptors.specs.Meeting.{standing, or_recent, met}
use Rattle.law_descriptors.specs.Recent.{AreRecent}
use Rattle.law_descriptors.specs.Returned.{IsGivenBack}
use Rattle.law_descriptors.proofs.Finding.{member_at}
use Rattle.law_descriptors.proofs.Leading.{led_linked}

-- ---- whose a block is

number_of : Owner → ℕ
number_of (QueueHead e) = e
number_of (Dummy e) = e
number_of (Element t) = t
number_of (Described split t) = t
number_of (Buffer t) = t
number_of _ = 0

-- ---- what is owed

owed_most : (b : Bool) → (if b then 1 else 0) ≤ 1
owed_most true = omega arith
owed_most false = omega arith

pub frames_owed : (c g p : Bool) → 1 ≤ (if c || g || not p then 0 else 1) → g ≡ false
frames_owed true g p one = absurd (omega (arith, one))
frames_owed false true p one = absurd (omega (arith, one))
frames_owed false false p one = refl

pub one_of : (b : Bool) → b ≡ true → ◌≡◌ {A = ℕ} (cond b 1 0) 1
one_of true is = refl
one_of false is = absurd (false≢true is)

pub transfer_counts : (t : ℕ) (rs : List Removal) (k : ℕ) (r : Removal) → slice_get rs k ≡ Some r → r.what ≡ removed.Descriptor t → 1 ≤ times t (transfers_in rs)
transfer_counts t [] k r here what = absurd cc
transfer_counts t (m ∷ ms) zero r here what =
    let same : m ≡ r = same_Some m r here in
    let is : times t (transfers_in (m ∷ ms)) ≡ cond (t == t) 1 0 + times t (transfers_in ms)
    = ap (λ (w : Removed). times t (transfer_before w (transfers_in ms))) (ap (λ (q : Removal). q.what) same ∙ what) in
    let one : ◌≡◌ {A = ℕ} (cond (t == t) 1 0) 1 = one_of (t == t) (eq-eqb t t refl) in
    omega (arith, is, one)
transfer_counts t (m ∷ ms) (suc k) r here what = before m.what (transfer_counts t ms k r here what)
  where
    before : (w : Removed) → 1 ≤ times t (transfers_in ms) → 1 ≤ times t (transfer_before w (transfers_in ms))
    before (removed.Descriptor u) later = omega (arith, later)
    before (removed.Endpoint e) later = later

pub endpoint_counts : (e : ℕ) (rs : List Removal) (k : ℕ) (r : Removal) → slice_get rs k ≡ Some r → r.what ≡ removed.Endpoint e → 1 ≤ times e (endpoints_in rs)
endpoint_counts e [] k r here what = absurd cc
endpoint_counts e (m ∷ ms) zero r here what =
    let same : m ≡ r = same_Some m r here in
    let is : times e (endpoints_in (m ∷ ms)) ≡ cond (e == e) 1 0 + times e (endpoints_in ms)
    = ap (λ (w : Removed). times e (endpoint_before w (endpoints_in ms))) (ap (λ (q : Removal). q.what) same ∙ what) in
    let one : ◌≡◌ {A = ℕ} (cond (e == e) 1 0) 1 = one_of (e == e) (eq-eqb e e refl) in
    omega (arith, is, one)
endpoint_counts e (m ∷ ms) (suc k) r here what = before m.what (endpoint_counts e ms k r here what)
  where
    before : (w : Removed) → 1 ≤ times e (endpoints_in ms) → 1 ≤ times e (endpoint_before w (endpoints_in ms))
    before (removed.Descriptor u) later = later
    before (removed.Endpoint f) later = omega (arith, later)

-- behind the first
later_counts : (t : ℕ) (rs : List Removal) (k : ℕ) (r : Removal) → slice_get rs (suc k) ≡ Some r → r.what ≡ removed.Descriptor t → 1 ≤ times t (transfers_in (drop 1 rs))
later_counts t [] k r here what = absurd cc
later_counts t (m ∷ ms) k r here what = transfer_counts t ms k r here what

pub not_open : (index : ℕ) (b : Boundary) → is_seen b ≡ true → IsOpenAt index b → ⊥
not_open index Seen seen still = still
not_open index _ seen still = false≢true seen

pub none_some : {A : Type 0} (x : A) → None ≡ Some x → ⊥
none_some x same = cc

reported_waits : (b r c : Bool) (e f : ℕ) (z : Placed) → r ≡ true → (if b then Some (record { endpoint = e; block = f; waits = not r && c }) else None) ≡ Some z → z.waits ≡ false
reported_waits true r c e f z told is = ap (λ (x : Placed). x.waits) (sym (same_Some (record { endpoint = e; block = f; waits = not r && c }) z is)) ∙ ap (λ (b : Bool). not b && c) told
reported_waits false r c e f z told is = absurd (none_some z is)

module _ (p : Parts) (recent : ℕ → Option Kind) (index t : ℕ) (y : Transfer) (has : HasOwners p.driver) (listed : IsListed p.driver) (why : IsGivenBack p (removed.Descriptor t)) (here : slice_get p.driver.transfers t ≡ Some y) where
  -- the transfer of a descriptor, and who owns its block
  record IsOwnedTransfer (u : ℕ) (z : Transfer) : Type 0 where
    split : Bool
    owned : has.owner z.first ≡ Described split u

  owned_transfer : (u : ℕ) (z : Transfer) → slice_get p.driver.transfers u ≡ Some z → is_descriptor z.sort ≡ true → z.released ≡ false → IsOwnedTransfer u z
  owned_transfer u z there sort held =
      let o = has.owned.each.described u (runs_of_transfer z) (ap (option_map runs_of_transfer) there) sort held in
      record { split = ((views_of p.driver).descriptor z.first).split; owned = o.descriptor.owned }

  record IsOwedTransfer (u : ℕ) (z : Transfer) : Type 0 where
    told : z.reported ≡ true
    owned : IsOwnedTransfer u z

  owed_transfer : (u : ℕ) (z : Transfer) → slice_get p.driver.transfers u ≡ Some z → 1 ≤ times u (transfers_in p.driver.periodic.removals) → IsOwedTransfer u z
  owed_transfer u z there counts =
      let most = has.orderly.harvests u in
      let owes_it : owes (slice_get p.driver.transfers u) ≡ (if z.reported && not z.released then 1 else 0) = ap owes there in
      let owed = owed_by z.reported z.released (omega (arith, counts, most, owes_it)) in
      record { told = owed.0; owned = owned_transfer u z there (has.orderly.unlinked u z (omega (arith, counts)) there) owed.1 }

  its_count : 1 ≤ times t (transfers_in p.driver.periodic.removals)
  its_count = transfer_counts t p.driver.periodic.removals 0 why.due.removal why.due.first why.due.is

  mine : IsOwedTransfer t y
  mine = owed_transfer t y here its_count

  -- it is owed once
  only_once : times t p.driver.periodic.unlinks + times t (transfers_in p.driver.periodic.removals) ≤ 1
  only_once =
      let most = has.orderly.harvests t in
      let owes_it : owes (slice_get p.driver.transfers t) ≡ (if y.reported && not y.released then 1 else 0) = ap owes here in
      let one = owed_most (y.reported && not y.released) in
      omega (arith, most, owes_it, one)

  same_number : (u : ℕ) (z : Transfer) → IsOwnedTransfer u z → 32 * y.first ≡ 32 * z.first → u ≡ t
  same_number u z o is = same_transfer o.split mine.owned.split u t (sym o.owned ∙ ap has.owner (sym (same_blocks y.first z.first is)) ∙ mine.owned.owned)

  same_one : (u : ℕ) (z : Transfer) → slice_get p.driver.transfers u ≡ Some z → u ≡ t → z ≡ y
  same_one u z there is = same_Some z y (sym there ∙ ap (slice_get p.driver.transfers) is ∙ here)

  -- ---- it isn't linked

  unlinked_at : (m : Member) → is_linked p.driver.periodic.list.members.schedule m ≡ true → id_of m / 32 ≡ y.first → ⊥
  unlinked_at (Each q) on block =
      let s : IsQueueOf p.driver q = queue_there p.driver q listed on in
      no_descriptor s.number t mine.owned.split (sym (queue_owned p.driver q has s).owned ∙ ap has.owner block ∙ mine.owned.owned)
  unlinked_at (Once k) on block =
      let s : IsStanding p.driver (Once k) = standing_there p.driver k listed on in
      let o = descriptor_placed p.driver s.number s.placed has s.here (why_stands p.driver (Once k) s) in
      let at : s.placed.block ≡ y.first = sym (standing_block p.driver (Once k) s) ∙ block in
      let same : s.number ≡ t = same_transfer _ mine.owned.split s.number t (sym o.owned ∙ ap has.owner at ∙ mine.owned.owned) in
      let none : times t p.driver.periodic.unlinks ≤ 0 = (let once = only_once in let some = its_count in omega (arith, once, some)) in
      ⊎_elim (λ (among : is_among s.number p.driver.periodic.unlinks ≡ true).
      false≢true (sym (times_among t p.driver.periodic.unlinks (is_among t p.driver.periodic.unlinks) refl none) ∙ ap (λ (n : ℕ). is_among n p.driver.periodic.unlinks) (sym same) ∙ among))
      (λ (waits : s.placed.waits ≡ true).
      false≢true (sym (reported_waits (is_descriptor y.sort) y.reported (is_chained (framed_in p.driver.endpoints y.endpoint)) y.endpoint y.first s.placed mine.told
      (ap (option_and_then (placed_of p.driver.endpoints)) (sym here) ∙ ap (placed_in p.driver.endpoints p.driver.transfers) (sym same) ∙ s.here)) ∙ waits))
      (why_stands p.driver (Once k) s)

  stands_not : (o : Option Kind) → standing p.driver (32 * y.first) ≡ o → o ≡ None
  stands_not None is = refl
  stands_not (Some kind) is =
      let at = member_at p.driver.periodic (led_by p.driver.periodic.list.members.schedule p.driver.periodic.list.work) (32 * y.first) kind is in
      absurd (unlinked_at at.member (led_linked p.driver.periodic.list.members.schedule p.driver.periodic.list.work at.member at.linked) (same_blocks (id_of at.member / 32) y.first at.begins))

  -- ---- nor is it recent

  first_or_later : (k : ℕ) (r : Removal) → slice_get p.driver.periodic.removals k ≡ Some r → r.what ≡ removed.Descriptor t → IsOpenAt index r.boundary → ⊥
  first_or_later zero r there what still =
      let same : r ≡ why.due.removal = same_Some r why.due.removal (sym there ∙ why.due.first) in
      not_open index why.due.removal.boundary why.seen (subst (λ (x : Removal). IsOpenAt index x.boundary) same still)
  first_or_later (suc k) r there what still =
      let first = removed_first t t p.driver.periodic.removals why.due.removal why.due.first why.due.is in
      let later = later_counts t p.driver.periodic.removals k r there what in
      let one : ◌≡◌ {A = ℕ} (cond (t == t) 1 0) 1 = one_of (t == t) (eq-eqb t t refl) in
      let once = only_once in
      omega (arith, first, later, one, once)

  held_waiting : (e u : ℕ) (x : Endpoint) (z : Transfer) → slice_get p.driver.endpoints e ≡ Some x → x.gone ≡ false → slice_get p.driver.transfers u ≡ Some z → z.endpoint ≡ e → z.reported ≡ false → (b : Bool) → z.released ≡ b → z.released ≡ false
  held_waiting e u x z there stays at of off false is = is
  held_waiting e u x z there stays at of off true is =
      absurd (true≢false (sym (has.orderly.untold u z at is off x (ap (slice_get p.driver.endpoints) of ∙ there)) ∙ stays))

  gone_not : (e : ℕ) (x : Endpoint) → slice_get p.driver.endpoints e ≡ Some x → 1 ≤ times e (endpoints_in p.driver.periodic.removals) → x.gone ≡ false
  gone_not e x there counts =
      let most = has.orderly.removed e in
      let owes_it : leaves_frames (slice_get p.driver.endpoints e) ≡ (if x.chained || x.gone || not (is_periodic x.desc.kind) then 0 else 1) = ap leaves_frames there in
      frames_owed x.chained x.gone (is_periodic x.desc.kind) (omega (arith, counts, most, owes_it))

  not_told : (e : ℕ) (z : Transfer) → waits_for e z ≡ true → (z.endpoint ≡ e) × (z.reported ≡ false)
  not_told e z is = let a = and_parts (z.endpoint == e) (not z.reported) is in (eqb-true z.endpoint e a.0, turned z.reported a.1)
    where
      turned : (b : Bool) → not b ≡ true → b ≡ false
      turned true is = absurd (false≢true is)
      turned false is = refl

  recent_by : (k : ℕ) (r : Removal) (w : Removed) → slice_get p.driver.periodic.removals k ≡ Some r → r.what ≡ w → IsRemovedAt p.driver.endpoints p.driver.transfers (32 * y.first) w → IsOpenAt index r.boundary → ⊥
  recent_by k r _ there what (a_descriptor u z at n) still =
      let counts = transfer_counts u p.driver.periodic.removals k r there what in
      let same : u ≡ t = same_number u z (owed_transfer u z at counts).owned n in
      first_or_later k r there (what ∙ ap removed.Descriptor same) still
  recent_by k r _ there what (a_queue e x at queued n) still =
      let stays : x.gone ≡ false = gone_not e x at (endpoint_counts e p.driver.periodic.removals k r there what) in
      let o = has.owned.each.queue e (runs_of_endpoint x) (ap (option_map runs_of_endpoint) at) (ap (λ (b : Bool). b || x.gone) queued ∙ stays) in
      no_descriptor e t mine.owned.split (sym o.owned ∙ ap has.owner (sym (same_blocks y.first x.queue n)) ∙ mine.owned.owned)
  recent_by k r _ there what (a_waiting e u x z at iso in_list sort waits n) still =
      let stays : x.gone ≡ false = gone_not e x at (endpoint_counts e p.driver.periodic.removals k r there what) in
      let off = not_told e z waits in
      let held : z.released ≡ false = held_waiting e u x z at stays in_list off.0 off.1 z.released refl in
      let same : u ≡ t = same_number u z (owned_transfer u z in_list sort held) n in
      true≢false (sym mine.told ∙ ap (λ (v : Transfer). v.reported) (sym (same_one u z in_list same)) ∙ off.1)

  recent_not : AreRecent p.driver index recent → (o : Option Kind) → recent (32 * y.first) ≡ o → o ≡ None
  recent_not are None is = refl
  recent_not are (Some kind) is =
      absurd (⊎_elim (λ (since : IsRemovedSince p.driver.endpoints p.driver.transfers p.driver.periodic.removals index (32 * y.first)).
      recent_by since.place since.removal since.removal.what since.here refl since.what since.within)
      (λ (now : IsUnchainedNow p.driver.endpoints p.driver.transfers p.driver.command (32 * y.first)). none_some _ (sym why.due.idle ∙ now.command))
      (are (32 * y.first) kind is))

  unmet : AreRecent p.driver index recent → met p.driver recent (32 * y.first) ≡ None
  unmet are = ap (λ (o : Option Kind). or_recent o (recent (32 * y.first))) (stands_not (standing p.driver (32 * y.first)) refl) ∙ recent_not are (recent (32 * y.first)) refl

pub descriptors_are_unmet : (p : Parts) (recent : ℕ → Option Kind) (index t : ℕ) (y : Transfer) → HasOwners p.driver → IsListed p.driver → AreRecent p.driver index recent → IsGivenBack p (removed.Descriptor t) → slice_get p.driver.transfers t ≡ Some y → met p.driver recent (32 * y.first) ≡ None
descriptors_are_unmet p recent index t y has listed are why here = unmet p recent index t y has listed why here are
