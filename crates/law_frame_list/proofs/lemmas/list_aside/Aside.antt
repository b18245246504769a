-- Whose a member's run is, and what a store into another run leaves.
use Rattle.std.proofs.Common.{◌≡◌, ◌≢◌, ℕ, ◌+◌, ◌*◌, ◌/◌, ◌<◌, true, false, slice_get, Some, ap, sym, ◌∙◌, arith}
use Rattle.std.proofs.lemmas.Bool.{false≢true}
use Rattle.std.proofs.lemmas.Option.{same_Some}
use Rattle.law_driver.proofs.Common.{same_endpoint}
use Rattle.word_mem.specs.Memory.{Mem, word_at}
use Rattle.mem_runs.specs.Book.{holding, slot_of, IsAt, store, Stands}
use Rattle.drv_chains.specs.declared.members.Member.{Member}
use Rattle.drv_chains.specs.declared.members.Member.TheVariants.{Once, Each}
use Rattle.drv_chains.specs.declared.members.Predecessor.TheVariants.{Element as Frame, After}
use Rattle.drv_chains.specs.Chains.{id_of}
use Rattle.drv_members.specs.Members.{is_linked}
use Rattle.drv_periodic.specs.Periodic.{address_of}
use Rattle.drv_periodic_table.specs.Periodic.{is_periodic}
use Rattle.drv_table.specs.declared.content.Endpoint.{Endpoint}
use Rattle.drv_table.specs.DriverContent.{DriverContent}
use Rattle.claims_driver.specs.Owners.{Owner, FrameList, Head, QueueHead, Element, Described, SlotHas}
use Rattle.claims_driver.specs.Leaving.{HasOwners}
use Rattle.claims_driver.specs.FrameListMembers.{Framed}
use Rattle.law_driver.specs.listed_members.Members.{IsQueueOf, IsStanding, IsListed}
use Rattle.law_driver.proofs.lemmas.listed_members.Standing.{framed}
use Rattle.law_driver.proofs.lemmas.listed_members.Owned.{descriptor_owned, queue_owned}
use Rattle.law_driver.proofs.lemmas.ring_members.Stores.{slots_apart, store_elsewhere}
use Rattle.law_frame_words.specs.list_words.Spared.{LeavesList}
use Rattle.law_frame_list.proofs.lemmas.list_spread.Spreading.{IsHis, his, slot_has, queue_there, standing_there}

-- no run of the ring, and no qTD
pub record IsOther (d : DriverContent) (o : Owner) : Type 0 where
  pub head : o ≢ Head
  pub ring : (e : ℕ) (x : Endpoint) → slice_get d.endpoints e ≡ Some x → is_periodic x.desc.kind ≡ false → o ≢ QueueHead e
  pub element : (t : ℕ) → o ≢ Element t

pub record IsOwn (d : DriverContent) (owner : ℕ → Owner) (b : ℕ) : Type 0 where
  pub whose : Owner
  pub owned : owner b ≡ whose
  pub other : IsOther d whose

frames_other : (d : DriverContent) (has : HasOwners d) (e : ℕ) (x : Endpoint) (f : Framed) (number : ℕ) → slice_get d.endpoints e ≡ Some x → is_periodic x.desc.kind ≡ false → (s : Endpoint) → slice_get d.endpoints number ≡ Some s → s.chained ≡ true → number ≡ e → ⊥
frames_other d has e x f number here ring s there chained same =
    let one : s ≡ x = same_Some s x (sym there ∙ ap (slice_get d.endpoints) same ∙ here) in
    false≢true (sym ring ∙ (has.orderly.steady e x here).frames (ap (λ (z : Endpoint). z.chained) (sym one) ∙ chained))

queue_other : (d : DriverContent) → HasOwners d → (n : ℕ) (f : Framed) (s : Endpoint) → slice_get d.endpoints n ≡ Some s → s.chained ≡ true → IsOther d (QueueHead n)
queue_other d has n f s there chained = record {
  head = λ same. absurd (cc);
  ring = λ e x here ring same. frames_other d has e x f n here ring s there chained (same_endpoint n e same);
  element = λ t same. absurd (cc);
}

pub own : (d : DriverContent) (x : Member) → (has : HasOwners d) → IsListed d → is_linked d.periodic.list.members.schedule x ≡ true → IsOwn d has.owner (id_of x / 32)
own d (Each q) has listed on =
    let s : IsQueueOf d q = queue_there d q listed on in
    let f = framed d.endpoints s.number s.framed s.here in
    let chained : f.endpoint.chained ≡ true = ap (λ (z : Framed). z.chained) (sym f.is) ∙ s.chained in
    record { whose = QueueHead s.number; owned = (queue_owned d q has s).owned; other = queue_other d has s.number s.framed f.endpoint f.here chained }
own d (Once k) has listed on =
    let s : IsStanding d (Once k) = standing_there d k listed on in
    let o = descriptor_owned d k has s in
    record {
      whose = Described o.0 o.1.0;
      owned = o.1.1.owned;
      other = record { head = λ same. absurd (cc); ring = λ e x here ring same. absurd (cc); element = λ t same. absurd (cc) };
    }

-- ---- a run that is none of the list's

pub record IsAside (d : DriverContent) (b : ℕ) : Type 0 where
  pub list : 0 ≢ b
  pub members : (x : Member) → is_linked d.periodic.list.members.schedule x ≡ true → id_of x / 32 ≢ b

pub aside_by : (d : DriverContent) (b : ℕ) (o : Owner) → (has : HasOwners d) → IsListed d → has.owner b ≡ o → FrameList ≢ o → ((w : Owner) → IsOther d w → w ≢ o) → IsAside d b
aside_by d b o has listed owned list others = record {
  list = λ same. list (sym has.owned.each.list.owned ∙ ap has.owner same ∙ owned);
  members = λ x on same. let h : IsOwn d has.owner (id_of x / 32) = own d x has listed on in others h.whose h.other (sym h.owned ∙ ap has.owner same ∙ owned);
}

-- ---- the words of the list, by their runs

list_block : (f : ℕ) → f < 1024 → (32 * 0 + 4 * f) / 32 < 128
list_block f below = omega (arith, below)

list_has : (d : DriverContent) (f : ℕ) → ((b : ℕ) → IsAt b (slot_of d.book.slots b)) → HasOwners d → f < 1024 → SlotHas (slot_of d.book.slots 0) ((32 * 0 + 4 * f) / 32)
list_has d f placed has below = slot_has (slot_of d.book.slots 0) 0 128 ((32 * 0 + 4 * f) / 32) (placed 0) has.owned.each.list.run (omega arith) (list_block f below)

member_has : (d : DriverContent) (x : Member) → ((b : ℕ) → IsAt b (slot_of d.book.slots b)) → HasOwners d → IsListed d → is_linked d.periodic.list.members.schedule x ≡ true → SlotHas (slot_of d.book.slots (id_of x / 32)) (id_of x / 32 * 32 / 32)
member_has d x placed has listed on =
    let h : IsHis d has.owner (id_of x / 32) = his d x has listed on in
    let some = h.run.1.0 in
    slot_has (slot_of d.book.slots (id_of x / 32)) (id_of x / 32) h.run.0 (id_of x / 32 * 32 / 32) (placed (id_of x / 32)) h.run.1.1 (omega arith) (omega (arith, some))

-- where the words of all runs are left, those of the list are
pub rest_leaves : (d : DriverContent) (m new : Mem) → ((c at : ℕ) → SlotHas (slot_of d.book.slots c) (at / 32) → word_at new at ≡ word_at m at) → ((b : ℕ) → IsAt b (slot_of d.book.slots b)) → HasOwners d → IsListed d
    → LeavesList d.periodic.list (word_at m) (word_at new)
rest_leaves d m new words placed has listed (Frame f) its =
    let at : address_of d.periodic.list.list (Frame f) ≡ 32 * 0 + 4 * f = ap (λ (l : ℕ). address_of l (Frame f)) listed.list.list in
    ap (word_at new) at ∙ words 0 (32 * 0 + 4 * f) (list_has d f placed has its) ∙ sym (ap (word_at m) at)
rest_leaves d m new words placed has listed (After x) its = words (id_of x / 32) (id_of x / 32 * 32) (member_has d x placed has listed its)

-- and so they are where a store goes elsewhere
pub store_leaves : (d : DriverContent) (m : Mem) (b at v : ℕ) → Stands (holding d.book m) → HasOwners d → IsListed d → IsAside d b → LeavesList d.periodic.list (word_at m) (word_at (store d.book m b at v))
store_leaves d m b at v stands has listed aside (Frame f) its =
    let a : address_of d.periodic.list.list (Frame f) ≡ 32 * 0 + 4 * f = ap (λ (l : ℕ). address_of l (Frame f)) listed.list.list in
    ap (word_at (store d.book m b at v)) a
    ∙ store_elsewhere d.book m b 0 at v (32 * 0 + 4 * f) (slots_apart (holding d.book m) stands) aside.list (list_has d f stands.placed has its)
    ∙ sym (ap (word_at m) a)
store_leaves d m b at v stands has listed aside (After x) its =
    store_elsewhere d.book m b (id_of x / 32) at v (id_of x / 32 * 32) (slots_apart (holding d.book m) stands) (aside.members x its) (member_has d x stands.placed has listed its)
