-- Whose the runs of the list's members are: no two of them have one name.
use Rattle.std.proofs.Common.{◌≡◌, ℕ, suc, ◌+◌, ◌*◌, ◌/◌, ◌≤◌, ◌==◌, Bool, true, false, not, ◌&&◌, ◌||◌, cond, List, [], ◌∷◌, slice_get, Option, Some, None, option_map, ap, sym, subst, ◌∙◌, ⊎_elim, inl, inr, refl, arith}
use Rattle.std.specs.Prelude.{◌⊎◌, option_and_then}
use Rattle.std.proofs.lemmas.Bool.{false≢true, and_parts, or_cases, cases_Bool}
use Rattle.std.proofs.lemmas.Option.{same_Some}
use Rattle.law_common.proofs.Booleans.{not_on}
use Rattle.law_driver.proofs.Common.{same_endpoint}
use Rattle.bandwidth.specs.declared.placements.Placement.{Placement}
use Rattle.drv_chains.specs.declared.members.QueueHead.{QueueHead as Queue}
use Rattle.drv_chains.specs.declared.members.Member.{Member}
use Rattle.drv_chains.specs.Chains.{id_of}
use Rattle.mem_runs.specs.Book.{slot_of}
use Rattle.drv_periodic_table.specs.Periodic.{PeriodicContent, note_at, descriptor_member, queue_member}
use Rattle.drv_table.specs.declared.content.Endpoint.{Endpoint}
use Rattle.drv_table.specs.declared.content.Transfer.{Transfer}
use Rattle.drv_table.specs.DriverContent.{DriverContent}
use Rattle.claims_driver.specs.Owners.{Owner, QueueHead, Described, IsPlaced, is_descriptor, runs_of_endpoint, runs_of_transfer}
use Rattle.claims_driver.specs.Leaving.{times, IsOrderly, HasOwners}
use Rattle.law_driver.proofs.lemmas.run_owners.Orders.{owed}
use Rattle.claims_driver.specs.FrameListMembers.{Framed, framed_of, framed_in, is_chained, Placed, placed_of, placed_in, is_among, member_of}
use Rattle.law_driver.specs.listed_members.Members.{IsStanding, IsQueueOf}

-- ---- a descriptor is that of its transfer

pub record IsSeen (xs : List Endpoint) (ts : List Transfer) (t : ℕ) (y : Placed) : Type 0 where
  pub transfer : Transfer
  pub there : slice_get ts t ≡ Some transfer
  pub sort : is_descriptor transfer.sort ≡ true
  pub endpoint : y.endpoint ≡ transfer.endpoint
  pub block : y.block ≡ transfer.first
  pub waits : y.waits ≡ not transfer.reported && is_chained (framed_in xs transfer.endpoint)

pub seen : (xs : List Endpoint) (ts : List Transfer) (t : ℕ) (y : Placed) → placed_in xs ts t ≡ Some y → IsSeen xs ts t y
seen xs ts t y here = at (slice_get ts t) refl here
  where
    of : (z : Transfer) (b : Bool) → slice_get ts t ≡ Some z → is_descriptor z.sort ≡ b → cond b (Some (record { endpoint = z.endpoint; block = z.first; waits = not z.reported && is_chained (framed_in xs z.endpoint) })) None ≡ Some y → IsSeen xs ts t y
    of z false there sort e = absurd (cc)
    of z true there sort e =
        let same : ◌≡◌ {A = Placed} (record { endpoint = z.endpoint; block = z.first; waits = not z.reported && is_chained (framed_in xs z.endpoint) }) y = same_Some _ y e in
        record {
          transfer = z;
          there = there;
          sort = sort;
          endpoint = ap (λ (p : Placed). p.endpoint) (sym same);
          block = ap (λ (p : Placed). p.block) (sym same);
          waits = ap (λ (p : Placed). p.waits) (sym same);
        }

    at : (o : Option Transfer) → slice_get ts t ≡ o → option_and_then (placed_of xs) o ≡ Some y → IsSeen xs ts t y
    at None there e = absurd (cc)
    at (Some z) there e = of z (is_descriptor z.sort) there refl e

-- an endpoint that is in its frames
pub record IsIn (xs : List Endpoint) (e : ℕ) : Type 0 where
  pub endpoint : Endpoint
  pub here : slice_get xs e ≡ Some endpoint
  pub chained : endpoint.chained ≡ true

pub in_frames : (xs : List Endpoint) (e : ℕ) → is_chained (framed_in xs e) ≡ true → IsIn xs e
in_frames xs e on = at (slice_get xs e) refl on
  where
    at : (o : Option Endpoint) → slice_get xs e ≡ o → is_chained (option_map framed_of o) ≡ true → IsIn xs e
    at None here on = absurd (false≢true on)
    at (Some x) here on = record { endpoint = x; here = here; chained = on }

pub record IsFramed (xs : List Endpoint) (e : ℕ) (x : Framed) : Type 0 where
  pub endpoint : Endpoint
  pub here : slice_get xs e ≡ Some endpoint
  pub is : x ≡ framed_of endpoint

pub framed : (xs : List Endpoint) (e : ℕ) (x : Framed) → framed_in xs e ≡ Some x → IsFramed xs e x
framed xs e x here = at (slice_get xs e) refl here
  where
    at : (o : Option Endpoint) → slice_get xs e ≡ o → option_map framed_of o ≡ Some x → IsFramed xs e x
    at None there f = absurd (cc)
    at (Some z) there f = record { endpoint = z; here = there; is = sym (same_Some (framed_of z) x f) }

-- ---- what is to be unlinked was reported, and is owed a release

among_times : (t : ℕ) (ts : List ℕ) → is_among t ts ≡ true → 1 ≤ times t ts
among_times t [] on = absurd (false≢true on)
among_times t (u ∷ ts) on =
    ⊎_elim (λ (same : (u == t) ≡ true). let one : ◌≡◌ {A = ℕ} (cond (u == t) 1 0) 1 = ap (λ b. cond b 1 0) same in omega (arith, one)) (λ (rest : is_among t ts ≡ true). omega (arith, among_times t ts rest)) (or_cases (u == t) (is_among t ts) on)

pub times_among : (t : ℕ) (ts : List ℕ) (b : Bool) → is_among t ts ≡ b → times t ts ≤ 0 → b ≡ false
times_among t ts true on none = absurd (omega (arith, among_times t ts on, none))
times_among t ts false off none = refl

pub record IsReported (ts : List Transfer) (t : ℕ) : Type 0 where
  pub transfer : Transfer
  pub there : slice_get ts t ≡ Some transfer
  pub reported : transfer.reported ≡ true
  pub released : transfer.released ≡ false

pub unlinks_reported : (d : DriverContent) (t : ℕ) → IsOrderly d → is_among t d.periodic.unlinks ≡ true → IsReported d.transfers t
unlinks_reported d t order on =
    let some = among_times t d.periodic.unlinks on in
    let o = owed d.transfers t (slice_get d.transfers t) refl (omega (arith, some, order.harvests t)) in
    record { transfer = o.transfer; there = o.there; reported = o.reported; released = o.released }

not_waiting : (r b : Bool) → r ≡ true → not r && b ≡ false
not_waiting true b on = refl
not_waiting false b on = absurd (false≢true on)

pub unlinks_wait_not : (d : DriverContent) (t : ℕ) (y : Placed) → IsOrderly d → placed_in d.endpoints d.transfers t ≡ Some y → is_among t d.periodic.unlinks ≡ true → y.waits ≡ false
unlinks_wait_not d t y order here on =
    let r = unlinks_reported d t order on in
    let s = seen d.endpoints d.transfers t y here in
    let same : r.transfer ≡ s.transfer = same_Some r.transfer s.transfer (sym r.there ∙ s.there) in
    s.waits ∙ not_waiting s.transfer.reported (is_chained (framed_in d.endpoints s.transfer.endpoint)) (ap (λ (z : Transfer). z.reported) (sym same) ∙ r.reported)

-- ---- none was given back

unreleased : (d : DriverContent) (t : ℕ) (y : Placed) → IsOrderly d → (s : IsSeen d.endpoints d.transfers t y) → (is_among t d.periodic.unlinks ≡ true) ⊎ (y.waits ≡ true) → s.transfer.released ≡ false
unreleased d t y order s why =
    ⊎_elim
    (λ (on : is_among t d.periodic.unlinks ≡ true).
    let r = unlinks_reported d t order on in
    ap (λ (z : Transfer). z.released) (same_Some s.transfer r.transfer (sym s.there ∙ r.there)) ∙ r.released)
    (λ (waits : y.waits ≡ true).
    let both = and_parts (not s.transfer.reported) (is_chained (framed_in d.endpoints s.transfer.endpoint)) (sym s.waits ∙ waits) in
    let x = in_frames d.endpoints s.transfer.endpoint both.1 in
    ⊎_elim
    (λ (back : s.transfer.released ≡ true).
    let gone = order.untold t s.transfer s.there back (not_on s.transfer.reported both.0) x.endpoint x.here in
    absurd (false≢true (sym ((order.steady s.transfer.endpoint x.endpoint x.here).gone gone).1 ∙ x.chained)))
    (λ (off : s.transfer.released ≡ false). off) (cases_Bool s.transfer.released)) why

-- ---- the owners, whatever the book

-- the transfer whose descriptor it is, counted from 1
abbrev pub transfer_of : Owner → ℕ
transfer_of (Described split t) = suc t
transfer_of _ = 0

pub record Owns (d : DriverContent) : Type 0 where
  pub owner : ℕ → Owner
  pub descriptors : (t : ℕ) (y : Placed) → placed_in d.endpoints d.transfers t ≡ Some y → (is_among t d.periodic.unlinks ≡ true) ⊎ (y.waits ≡ true) → transfer_of (owner y.block) ≡ suc t
  pub queues : (e : ℕ) (x : Framed) → framed_in d.endpoints e ≡ Some x → x.chained ≡ true → x.isochronous ≡ false → owner x.queue ≡ QueueHead e
  pub reported : (t : ℕ) (y : Placed) → placed_in d.endpoints d.transfers t ≡ Some y → is_among t d.periodic.unlinks ≡ true → y.waits ≡ false
  pub sorts : (t : ℕ) (y : Placed) (x : Framed) → placed_in d.endpoints d.transfers t ≡ Some y → framed_in d.endpoints y.endpoint ≡ Some x → x.isochronous ≡ true

chained_here : (d : DriverContent) (e : ℕ) (x : Endpoint) → IsOrderly d → slice_get d.endpoints e ≡ Some x → x.chained ≡ true → x.gone ≡ false
chained_here d e x order here on =
    ⊎_elim (λ (g : x.gone ≡ true). absurd (false≢true (sym ((order.steady e x here).gone g).1 ∙ on))) (λ (g : x.gone ≡ false). g) (cases_Bool x.gone)

-- the run of a descriptor that stands
pub descriptor_placed : (d : DriverContent) (t : ℕ) (y : Placed) → (has : HasOwners d) → placed_in d.endpoints d.transfers t ≡ Some y → (is_among t d.periodic.unlinks ≡ true) ⊎ (y.waits ≡ true) → IsPlaced (slot_of d.book.slots) has.owner y.block (Described (note_at d.periodic.notes y.block).split t)
descriptor_placed d t y has here why =
    let s = seen d.endpoints d.transfers t y here in
    subst (λ b. IsPlaced (slot_of d.book.slots) has.owner b (Described (note_at d.periodic.notes b).split t)) (sym s.block)
    (has.owned.each.described t (runs_of_transfer s.transfer) (ap (option_map runs_of_transfer) s.there) s.sort (unreleased d t y has.orderly s why)).descriptor

-- .. and that of a queue head in its frames
pub frames_placed : (d : DriverContent) (e : ℕ) (x : Framed) → (has : HasOwners d) → framed_in d.endpoints e ≡ Some x → x.chained ≡ true → x.isochronous ≡ false → IsPlaced (slot_of d.book.slots) has.owner x.queue (QueueHead e)
frames_placed d e x has here on queued =
    let f = framed d.endpoints e x here in
    let chained : f.endpoint.chained ≡ true = ap (λ (z : Framed). z.chained) (sym f.is) ∙ on in
    let alive = chained_here d e f.endpoint has.orderly f.here chained in
    let iso = ap (λ (z : Framed). z.isochronous) (sym f.is) ∙ queued in
    subst (λ b. IsPlaced (slot_of d.book.slots) has.owner b (QueueHead e)) (ap (λ (z : Framed). z.queue) (sym f.is))
    (has.owned.each.queue e (runs_of_endpoint f.endpoint) (ap (option_map runs_of_endpoint) f.here) (ap (λ b. b || f.endpoint.gone) iso ∙ alive))

pub owns : (d : DriverContent) → HasOwners d → Owns d
owns d has = record {
  owner = has.owner;
  descriptors = λ t y here why. ap transfer_of (descriptor_placed d t y has here why).owned;
  queues = λ e x here on queued. (frames_placed d e x has here on queued).owned;
  reported = λ t y here on. unlinks_wait_not d t y has.orderly here on;
  sorts = λ t y x here at.
      let s = seen d.endpoints d.transfers t y here in
      let f = framed d.endpoints y.endpoint x at in
      ap (λ (z : Framed). z.isochronous) f.is
      ∙ (sym (has.orderly.sorts t s.transfer f.endpoint s.there (ap (slice_get d.endpoints) (sym s.endpoint) ∙ f.here)) ∙ s.sort);
}

-- ---- names

endpoint_number : Owner → ℕ
endpoint_number (QueueHead e) = suc e
endpoint_number _ = 0

-- the block that a name tells
pub descriptor_block : (q : PeriodicContent) (b : ℕ) → id_of (descriptor_member q.notes b) / 32 ≡ b
descriptor_block q b = at (note_at q.notes b).split
  where
    at : (split : Bool) → cond split (32 * b + 4) (32 * b) / 32 ≡ b
    at true = omega arith
    at false = omega arith

pub queue_block : (b : ℕ) (p : Placement) → id_of (queue_member b p) / 32 ≡ b
queue_block b p = omega arith

pub standing_block : (d : DriverContent) (m : Member) → (s : IsStanding d m) → id_of m / 32 ≡ s.placed.block
standing_block d m s = ap (λ (x : Member). id_of x / 32) (sym s.is) ∙ descriptor_block d.periodic s.placed.block

pub why_stands : (d : DriverContent) (m : Member) → (s : IsStanding d m) → (is_among s.number d.periodic.unlinks ≡ true) ⊎ (s.placed.waits ≡ true)
why_stands d m s = ⊎_elim (λ (on : is_among s.number d.periodic.unlinks ≡ true). inl on) (λ w. inr w.0) s.stands

pub standing_owner : (d : DriverContent) (m : Member) → (o : Owns d) → (s : IsStanding d m) → transfer_of (o.owner (id_of m / 32)) ≡ suc s.number
standing_owner d m o s = ap (λ b. transfer_of (o.owner b)) (standing_block d m s) ∙ o.descriptors s.number s.placed s.here (why_stands d m s)

pub queue_owner : (d : DriverContent) (q : Queue) → (o : Owns d) → (s : IsQueueOf d q) → o.owner (q.id / 32) ≡ QueueHead s.number
queue_owner d q o s = ap o.owner (ap (λ (x : Member). id_of x / 32) s.is ∙ queue_block s.framed.queue s.place) ∙ o.queues s.number s.framed s.here s.chained s.queued

-- a descriptor that stands, and one that waits, of one name are one
pub one_number : (d : DriverContent) (m : Member) (t : ℕ) (y : Placed) → Owns d → (s : IsStanding d m) → placed_in d.endpoints d.transfers t ≡ Some y → (is_among t d.periodic.unlinks ≡ true) ⊎ (y.waits ≡ true) → id_of m ≡ id_of (member_of d.periodic y) → s.number ≡ t
one_number d m t y o s here why same =
    let e : suc s.number ≡ suc t =
    sym (standing_owner d m o s) ∙ ap (λ n. transfer_of (o.owner (n / 32))) same ∙ ap (λ b. transfer_of (o.owner b)) (descriptor_block d.periodic y.block) ∙ o.descriptors t y here why in
    omega (arith, e)

pub queue_named_not : (d : DriverContent) (q : Queue) (t : ℕ) (y : Placed) → Owns d → IsQueueOf d q → placed_in d.endpoints d.transfers t ≡ Some y → y.waits ≡ true → q.id ≡ id_of (member_of d.periodic y) → ⊥
queue_named_not d q t y o s here waits same =
    let e : suc t ≡ 0 =
    sym (o.descriptors t y here (inr waits)) ∙ sym (ap (λ b. transfer_of (o.owner b)) (descriptor_block d.periodic y.block)) ∙ sym (ap (λ n. transfer_of (o.owner (n / 32))) same) ∙ ap transfer_of (queue_owner d q o s) in
    omega (arith, e)

-- queue heads of one name are those of one endpoint
pub one_queue : (d : DriverContent) (q : Queue) (e : ℕ) (x : Framed) (p : Placement) → Owns d → (s : IsQueueOf d q) → framed_in d.endpoints e ≡ Some x → x.chained ≡ true → x.isochronous ≡ false → q.id ≡ id_of (queue_member x.queue p) → s.number ≡ e
one_queue d q e x p o s here on queued same =
    same_endpoint s.number e
    (sym (queue_owner d q o s) ∙ ap (λ n. o.owner (n / 32)) same ∙ ap o.owner (queue_block x.queue p) ∙ o.queues e x here on queued)
