-- Members begin in runs of their own owners, which share no block.
use Rattle.std.proofs.Common.{◌≡◌, ◌≢◌, ℕ, ◌+◌, ◌/◌, ◌<◌, ◌≤◌, Bool, true, false, nat_eq, List, [], ◌∷◌, inl, inr, ap, sym, subst, ◌∙◌, ⊎_elim, arith}
use Rattle.std.specs.Prelude.{◌&&◌, nat_le, nat_lt}
use Rattle.std.specs.List.{AllByRecursion, list_any}
use Rattle.std.proofs.lemmas.Bool.{or_cases, and_parts, and_from, eqb-true, le-leb, lt-ltb, cases_lt}
use Rattle.std.proofs.lemmas.Option.{same_Some}
use Rattle.law_driver.proofs.Common.{same_endpoint, that_is}
use Rattle.law_frame_list.proofs.Common.{same_number, no_descriptor}
use Rattle.word_mem.specs.Memory.{Mem}
use Rattle.word_mem.specs.Runs.{Run}
use Rattle.word_mem.specs.Owners.{has_block}
use Rattle.bandwidth.specs.declared.placements.Placement.{Placement}
use Rattle.drv_chains.specs.declared.members.Descriptor.{Descriptor}
use Rattle.drv_chains.specs.declared.members.QueueHead.{QueueHead as Queue}
use Rattle.drv_chains.specs.declared.members.Member.{Member}
use Rattle.drv_chains.specs.declared.members.Member.TheVariants.{Once, Each}
use Rattle.drv_chains.specs.Chains.{id_of}
use Rattle.drv_members.specs.Members.{is_that, is_this, is_linked}
use Rattle.law_frame_words.specs.frame_words.InWords.{IsSpread}
use Rattle.drv_periodic_table.specs.Periodic.{note_at, queue_member}
use Rattle.mem_runs.specs.declared.slots.Slot.{Slot}
use Rattle.mem_runs.specs.declared.slots.Slot.TheVariants as slots
use Rattle.mem_runs.specs.Book.{holding, slot_of, IsAt, Stands}
use Rattle.drv_table.specs.DriverContent.{DriverContent}
use Rattle.claims_driver.specs.Owners.{Owner, FrameList, QueueHead, Dummy, Element, Described, Buffer, HasBlocks, SlotHas, IsRunFor, IsPlaced}
use Rattle.claims_driver.specs.Leaving.{HasOwners}
use Rattle.law_driver.proofs.lemmas.run_owners.Laws.{owners_share_no_block}
use Rattle.claims_driver.specs.FrameListMembers.{Framed, framed_in, Placed, placed_in, member_of}
use Rattle.law_driver.specs.listed_members.Members.{IsStanding, IsQueueOf, IsListed}
use Rattle.law_driver.specs.listed_members.Listed.{IsOwnedAs}
use Rattle.law_driver.proofs.lemmas.listed_members.Owned.{descriptor_owned, queue_owned}
use Rattle.law_driver.proofs.lemmas.listed_members.Standing.{descriptor_placed, standing_block, why_stands}

-- ---- a linked member is one of the driver's

any_all : {X : Type 0} (P : X → Type 0) (same : X → X → Bool) (x : X) (xs : List X) → ((y : X) → same x y ≡ true → y ≡ x) → AllByRecursion P xs → list_any (same x) xs ≡ true → P x
any_all P same x [] is all any = absurd cc
any_all P same x (y ∷ ys) is all any = elim (or_cases (same x y) (list_any (same x) ys) any) [
  | inl here ↦ subst P (is y here) all.0
  | inr later ↦ any_all P same x ys is all.1 later
]

this_one : (q y : Queue) → is_this q y ≡ true → y ≡ q
this_one q y is =
    let one = and_parts (nat_eq y.id q.id) (nat_eq y.period q.period && nat_eq y.phase q.phase) is in
    let two = and_parts (nat_eq y.period q.period) (nat_eq y.phase q.phase) one.1 in
    let a : y.id ≡ q.id = eqb-true y.id q.id one.0 in
    let b : y.period ≡ q.period = eqb-true y.period q.period two.0 in
    let c : y.phase ≡ q.phase = eqb-true y.phase q.phase two.1 in
    ap (λ (i : ℕ). let z : Queue = record y { id = i } in z) a
    ∙ ap (λ (i : ℕ). let z : Queue = record y { id = q.id; period = i } in z) b
    ∙ ap (λ (i : ℕ). let z : Queue = record { id = q.id; period = q.period; phase = i } in z) c

pub queue_there : (d : DriverContent) (q : Queue) → IsListed d → is_linked d.periodic.list.members.schedule (Each q) ≡ true → IsQueueOf d q
queue_there d q listed on = any_all (IsQueueOf d) is_this q d.periodic.list.members.schedule.queues (this_one q) listed.list.members.queues on

pub standing_there : (d : DriverContent) (k : Descriptor) → IsListed d → is_linked d.periodic.list.members.schedule (Once k) ≡ true → IsStanding d (Once k)
standing_there d k listed on = any_all (λ (x : Descriptor). IsStanding d (Once x)) is_that k d.periodic.list.members.schedule.descriptors (that_is k) listed.list.members.descriptors on

-- ---- whose its run is

pub record IsHis (d : DriverContent) (owner : ℕ → Owner) (b : ℕ) : Type 0 where
  pub whose : Owner
  pub placed : IsPlaced (slot_of d.book.slots) owner b whose
  pub other : whose ≢ FrameList
  pub run : (i : ℕ) × ((1 ≤ i) × HasBlocks i (slot_of d.book.slots b))

described_run : (split : Bool) (t : ℕ) (s : Slot) → IsRunFor (Described split t) s → (i : ℕ) × ((1 ≤ i) × HasBlocks i s)
described_run true t s run = (1, (omega arith, run))
described_run false t s run = (2, (omega arith, run))

pub his : (d : DriverContent) (m : Member) → (has : HasOwners d) → IsListed d → is_linked d.periodic.list.members.schedule m ≡ true → IsHis d has.owner (id_of m / 32)
his d (Each q) has listed on =
    let s : IsQueueOf d q = queue_there d q listed on in
    let p : IsOwnedAs d has.owner q.id (QueueHead s.number) = queue_owned d q has s in
    record { whose = QueueHead s.number; placed = p; other = λ same. cc; run = (2, (omega arith, p.run)) }
his d (Once k) has listed on =
    let s : IsStanding d (Once k) = standing_there d k listed on in
    let o = descriptor_owned d k has s in
    let p : IsOwnedAs d has.owner k.id (Described o.0 o.1.0) = o.1.1 in
    record { whose = Described o.0 o.1.0; placed = p; other = λ same. cc; run = described_run o.0 o.1.0 (slot_of d.book.slots (k.id / 32)) p.run }

-- ---- outside the list

block_in : (r : Run) (a n b : ℕ) → r.first ≡ a → r.blocks ≡ n → a ≤ b → b < a + n → has_block r b ≡ true
block_in r a n b first blocks low high = and_from (nat_le r.first b) (nat_lt b (r.first + r.blocks)) (le-leb r.first b (omega (arith, first, low))) (lt-ltb b (r.first + r.blocks) (omega (arith, first, blocks, high)))

pub slot_has : (s : Slot) (a n b : ℕ) → IsAt a s → HasBlocks n s → a ≤ b → b < a + n → SlotHas s b
slot_has slots.Empty a n b at run low high = run
slot_has (slots.Keeps r) a n b at run low high = block_in r a n b at.0 run low high
slot_has (slots.Lends r) a n b at run low high = block_in r a n b at.0 run low high

pub outside : (d : DriverContent) (m : Mem) (b : ℕ) → Stands (holding d.book m) → (has : HasOwners d) → IsHis d has.owner b → 128 ≤ b
outside d m b stands has h =
    ⊎_elim (λ (low : b < 128).
    absurd (owners_share_no_block (holding d.book m) has.owner FrameList h.whose stands (λ same. h.other (sym same)) 0 b b has.owned.each.list h.placed
    (slot_has (slot_of d.book.slots 0) 0 128 b (stands.placed 0) has.owned.each.list.run (omega arith) (omega (arith, low)))
    (slot_has (slot_of d.book.slots b) b h.run.0 b (stands.placed b) h.run.1.1 (omega arith) (let some = h.run.1.0 in omega (arith, some)))))
    (λ (from : 128 ≤ b). from) (cases_lt b 128)

-- ---- each in its own

number_of : Owner → ℕ
number_of (QueueHead e) = e
number_of (Dummy e) = e
number_of (Element t) = t
number_of (Described split t) = t
number_of (Buffer t) = t
number_of _ = 0

same_queue : (d : DriverContent) (q r : Queue) (one : IsQueueOf d q) (two : IsQueueOf d r) → one.number ≡ two.number → Each q ≡ Each r
same_queue d q r one two e =
    let framed : one.framed ≡ two.framed = same_Some one.framed two.framed (sym one.here ∙ ap (framed_in d.endpoints) e ∙ two.here) in
    let place : one.place ≡ two.place = same_Some one.place two.place (sym one.placed ∙ ap (λ (x : Framed). x.placement) framed ∙ two.placed) in
    one.is ∙ ap (λ (x : Framed). queue_member x.queue one.place) framed ∙ ap (λ (p : Placement). queue_member two.framed.queue p) place ∙ sym two.is

same_descriptor : (d : DriverContent) (j k : Descriptor) (one : IsStanding d (Once j)) (two : IsStanding d (Once k)) → one.number ≡ two.number → Once j ≡ Once k
same_descriptor d j k one two e =
    let placed : one.placed ≡ two.placed = same_Some one.placed two.placed (sym one.here ∙ ap (placed_in d.endpoints d.transfers) e ∙ two.here) in
    sym one.is ∙ ap (λ (y : Placed). member_of d.periodic y) placed ∙ two.is

standing_owned : (d : DriverContent) (k : Descriptor) → (has : HasOwners d) → (s : IsStanding d (Once k)) → IsOwnedAs d has.owner k.id (Described (note_at d.periodic.notes s.placed.block).split s.number)
standing_owned d k has s =
    subst (λ b. IsPlaced (slot_of d.book.slots) has.owner b (Described (note_at d.periodic.notes s.placed.block).split s.number)) (sym (standing_block d (Once k) s))
    (descriptor_placed d s.number s.placed has s.here (why_stands d (Once k) s))

own_block : (d : DriverContent) (m n : Member) → HasOwners d → IsListed d → is_linked d.periodic.list.members.schedule m ≡ true → is_linked d.periodic.list.members.schedule n ≡ true → id_of m / 32 ≡ id_of n / 32 → m ≡ n
own_block d (Each q) (Each r) has listed one two e =
    let s : IsQueueOf d q = queue_there d q listed one in
    let t : IsQueueOf d r = queue_there d r listed two in
    let p : IsOwnedAs d has.owner q.id (QueueHead s.number) = queue_owned d q has s in
    let o : IsOwnedAs d has.owner r.id (QueueHead t.number) = queue_owned d r has t in
    same_queue d q r s t (same_endpoint s.number t.number (sym p.owned ∙ ap has.owner e ∙ o.owned))
own_block d (Once j) (Once k) has listed one two e =
    let s : IsStanding d (Once j) = standing_there d j listed one in
    let t : IsStanding d (Once k) = standing_there d k listed two in
    same_descriptor d j k s t (same_number (note_at d.periodic.notes s.placed.block).split (note_at d.periodic.notes t.placed.block).split s.number t.number
    (sym (standing_owned d j has s).owned ∙ ap has.owner e ∙ (standing_owned d k has t).owned))
own_block d (Each q) (Once k) has listed one two e =
    let s : IsQueueOf d q = queue_there d q listed one in
    let p : IsOwnedAs d has.owner q.id (QueueHead s.number) = queue_owned d q has s in
    let b = descriptor_owned d k has (standing_there d k listed two) in
    absurd (no_descriptor s.number b.1.0 b.0 (sym p.owned ∙ ap has.owner e ∙ b.1.1.owned))
own_block d (Once j) (Each r) has listed one two e =
    let t : IsQueueOf d r = queue_there d r listed two in
    let o : IsOwnedAs d has.owner r.id (QueueHead t.number) = queue_owned d r has t in
    let a = descriptor_owned d j has (standing_there d j listed one) in
    absurd (no_descriptor t.number a.1.0 a.0 (sym (sym a.1.1.owned ∙ ap has.owner e ∙ o.owned)))

-- ---- the members

pub members_share_no_block : (d : DriverContent) (m : Mem) → Stands (holding d.book m) → HasOwners d → IsListed d → IsSpread d.periodic.list.list d.periodic.list.members.schedule
members_share_no_block d m stands has listed = record {
  named = λ x on end. let far = outside d m (id_of x / 32) stands has (his d x has listed on) in omega (arith, far, end);
  apart = λ x on. inr (let far = outside d m (id_of x / 32) stands has (his d x has listed on) in let first = listed.list.list in omega (arith, far, first));
  once = λ x y one two e. own_block d x y has listed one two e;
}
