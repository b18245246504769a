-- The inventory without the structures of an endpoint that was given back.
use Rattle.std.proofs.Common.{◌≡◌, ◌≢◌, ℕ, zero, suc, ◌*◌, Bool, true, false, List, [], ◌∷◌, Option, Some, None, option_map, ap, refl, sym, subst, ◌∙◌, inl, inr, arith}
use Rattle.std.specs.List.{AllByRecursion}
use Rattle.std.proofs.lemmas.Bool.{true≢false}
use Rattle.std.proofs.lemmas.Option.{same_Some}
use Rattle.law_common.proofs.Numbers.{other_number as not_same}
use Rattle.mem_runs.specs.declared.slots.Slot.{Slot}
use Rattle.drv_table.specs.Words.{head_block}
use Rattle.claims_driver.specs.Owners.{Owner, FrameList, Head, QueueHead, Buffer, SlotHas, IsPlaced, EndpointRuns, TransferRuns, NoteRuns, Views, AreOwned, IsPieceOf, IsQueueIn}
use Rattle.law_structures.specs.lent_structures.Structures.{Structure, Buffer as BufferOf, Table, Structures, StructureSets}
use Rattle.law_ring.proofs.Returning.{those_found, those_stay, those_beside}
use Rattle.law_driver_ring.specs.Inventory.{Sort, sort_of, sorts_of, IsLent, IsBufferTold, AreTold, IsTransferIn, IsDriverOwned, the_list, the_head, a_queue, a_dummy, a_piece, a_buffer, IsDriven}
use Rattle.law_driver_ring.specs.Extents.{AreInRuns}
use Rattle.law_driver_ring.proofs.Blocks.{all_one, placed_buffer}
use Rattle.law_world.specs.steps.endpoint_releases.Released.{without_queue}
use Rattle.law_world.proofs.lemmas.steps.lemmas.endpoint_releases.Blocks.{goes_with}

-- ---- what is told of each other owner

pub queue_beside : (parts : StructureSets) (n k : ℕ) → k ≢ n → without_queue parts n k ≡ parts k
queue_beside parts n k differs = those_beside parts n (λ a. true) k differs

-- what is still told is another owner's
pub queue_found : (parts : StructureSets) (n k a : ℕ) (s : Structure) → without_queue parts n k a ≡ Some s → (k ≢ n) × (parts k a ≡ Some s)
queue_found parts n k a s found = (
  λ same. true≢false (those_stay parts n (λ a. true) a s (ap (λ (i : ℕ). without_queue parts n i a) (sym same) ∙ found)),
  those_found parts n (λ a. true) k a s found,
)

pub queues_differ : (v : Views) (owner : ℕ → Owner) (e u : ℕ) (x z : EndpointRuns) → AreOwned v owner → IsQueueIn v e x → IsQueueIn v u z → u ≢ e → 32 * z.queue ≢ 32 * x.queue
queues_differ v owner e u x z owned is other differs same =
    let at : z.queue ≡ x.queue = omega (arith, same) in
    let one : QueueHead u ≡ QueueHead e = sym (owned.queue u z other.here other.queued).owned ∙ ap owner at ∙ (owned.queue e x is.here is.queued).owned in
    differs (same_owner u e one)
  where
    same_owner : (i j : ℕ) → QueueHead i ≡ QueueHead j → i ≡ j
    same_owner i j is = cc

-- ---- views before and after

pub record EndpointGoes (v w : Views) (owner : ℕ → Owner) (e : ℕ) (x : EndpointRuns) (held : ℕ → Bool) : Type 0 where
  pub owned : AreOwned v owner
  pub here : IsQueueIn v e x
  pub slots : (c : ℕ) → IsLent (w.slot c) → IsLent (v.slot c)
  pub kept : (c : ℕ) → goes_with e held (owner c) ≡ false → w.slot c ≡ v.slot c
  pub notes : (b : ℕ) → w.note b ≡ v.note b
  pub back : (u : ℕ) (z : EndpointRuns) → IsQueueIn w u z → (u ≢ e) × IsQueueIn v u z
  pub on : (u : ℕ) (z : EndpointRuns) → u ≢ e → IsQueueIn v u z → IsQueueIn w u z
  pub transfer_back : (u : ℕ) (z : TransferRuns) → w.transfer u ≡ Some z → z.released ≡ false → (z.endpoint ≢ e) × (v.transfer u ≡ Some z)
  pub transfer_on : (u : ℕ) (z : TransferRuns) → v.transfer u ≡ Some z → z.endpoint ≢ e → (held u ≡ false) × (w.transfer u ≡ Some z)

-- ---- the transfers of other endpoints

told_less : (slot now : ℕ → Slot) (sorts : ℕ → Option Sort) (cs : List ℕ) → ((c : ℕ) → IsLent (now c) → IsLent (slot c)) → IsBufferTold slot sorts cs → IsBufferTold now sorts cs
told_less slot now sorts [] fewer told = tt
told_less slot now sorts (c ∷ cs) fewer told = λ lent. told (fewer c lent)

all_less : (v w : Views) (sorts : ℕ → Option Sort) (b n : ℕ) → ((c : ℕ) → IsLent (w.slot c) → IsLent (v.slot c)) → ((c : ℕ) → w.note c ≡ v.note c) → AreTold v sorts b n → AreTold w sorts b n
all_less v w sorts b zero fewer same told = tt
all_less v w sorts b (suc n) fewer same told = (
  record {
    element = λ lent. told.0.element (fewer b lent);
    buffer = subst (λ (r : NoteRuns). IsBufferTold w.slot sorts r.buffer) (sym (same b)) (told_less v.slot w.slot sorts (v.note b).buffer fewer told.0.buffer);
  },
  subst (λ (r : NoteRuns). AreTold w sorts r.next n) (sym (same b)) (all_less v w sorts (v.note b).next n fewer same told.1),
)

module _ (v w : Views) (owner : ℕ → Owner) (e : ℕ) (x : EndpointRuns) (held : ℕ → Bool) (k : EndpointGoes v w owner e x held) (parts : StructureSets) where
  abbrev now : StructureSets
  now = without_queue parts (32 * x.queue)

  same_sort : (n a : ℕ) → n ≢ 32 * x.queue → sorts_of now n a ≡ sorts_of parts n a
  same_sort n a differs = ap (λ (part : Structures). option_map sort_of (part a)) (queue_beside parts (32 * x.queue) n differs)

  -- the queue head's run is the endpoint's
  other_owner : (c : ℕ) (o : Owner) → IsPlaced v.slot owner c o → o ≢ QueueHead e → 32 * c ≢ 32 * x.queue
  other_owner c o is differs same =
      let at : c ≡ x.queue = omega (arith, same) in
      differs (sym is.owned ∙ ap owner at ∙ (k.owned.queue e x k.here.here k.here.queued).owned)

  no_list : FrameList ≢ QueueHead e
  no_list is = cc

  no_head : Head ≢ QueueHead e
  no_head is = cc

  list_beside : 0 ≢ 32 * x.queue
  list_beside same = other_owner 0 FrameList k.owned.list no_list same

  head_beside : 32 * head_block ≢ 32 * x.queue
  head_beside same = other_owner head_block Head k.owned.head no_head same

  pub other_queue : (u : ℕ) (z : EndpointRuns) → IsQueueIn v u z → u ≢ e → 32 * z.queue ≢ 32 * x.queue
  other_queue u z is differs = queues_differ v owner e u x z k.owned k.here is differs

  -- and one at another place is another endpoint's
  pub other_number : (u : ℕ) (z : EndpointRuns) → IsQueueIn v u z → 32 * z.queue ≢ 32 * x.queue → u ≢ e
  other_number u z is differs same = differs (ap (λ (r : EndpointRuns). 32 * r.queue) (same_Some z x (sym is.here ∙ ap v.endpoint same ∙ k.here.here)))

  transfer_back : (u : ℕ) (z : TransferRuns) (r : EndpointRuns) → IsTransferIn w u z r → (z.endpoint ≢ e) × IsTransferIn v u z r
  transfer_back u z r is =
      let was = k.transfer_back u z is.here is.held in
      (was.0, record { here = was.1; held = is.held; qtds = is.qtds; queue = (k.back z.endpoint r is.queue).1 })

  transfer_on : (u : ℕ) (z : TransferRuns) (r : EndpointRuns) → z.endpoint ≢ e → IsTransferIn v u z r → IsTransferIn w u z r
  transfer_on u z r differs is = record { here = (k.transfer_on u z is.here differs).1; held = is.held; qtds = is.qtds; queue = k.on z.endpoint r differs is.queue }

  lent_on : (c : ℕ) → goes_with e held (owner c) ≡ false → IsLent (v.slot c) → IsLent (w.slot c)
  lent_on c off lent = subst IsLent (sym (k.kept c off)) lent

  off_by : (c : ℕ) (o : Owner) → IsPlaced v.slot owner c o → goes_with e held o ≡ false → goes_with e held (owner c) ≡ false
  off_by c o is off = ap (goes_with e held) is.owned ∙ off

  piece_on : (b n c : ℕ) → IsPieceOf v.note b n c → IsPieceOf w.note b n c
  piece_on b zero c is = is
  piece_on b (suc n) c (inl same) = inl same
  piece_on b (suc n) c (inr is) = inr (subst (λ (r : NoteRuns). IsPieceOf w.note r.next n c) (sym (k.notes b)) (piece_on (v.note b).next n c is))

  piece_back : (b n c : ℕ) → IsPieceOf w.note b n c → IsPieceOf v.note b n c
  piece_back b zero c is = is
  piece_back b (suc n) c (inl same) = inl same
  piece_back b (suc n) c (inr is) = inr (piece_back (v.note b).next n c (subst (λ (r : NoteRuns). IsPieceOf w.note r.next n c) (k.notes b) is))

  -- ---- nothing else

  owned_on : (n a : ℕ) (s : Sort) → IsDriverOwned v n a s → n ≢ 32 * x.queue → IsDriverOwned w n a s
  owned_on _ _ _ the_list differs = the_list
  owned_on _ _ _ the_head differs = the_head
  owned_on _ _ _ (a_queue u z is lent) differs =
      let other = other_number u z is differs in
      a_queue u z (k.on u z other is) (lent_on z.queue (off_by z.queue _ (k.owned.queue u z is.here is.queued) (not_same u e other)) lent)
  owned_on _ _ _ (a_dummy u z is lent) differs =
      let other = other_number u z is differs in
      a_dummy u z (k.on u z other is) (lent_on z.dummy (off_by z.dummy _ (k.owned.dummy u z is.here is.queued) (not_same u e other)) lent)
  owned_on _ _ _ (a_piece u b z r is piece lent) differs =
      let other = other_number z.endpoint r is.queue differs in
      let placed = (placed_buffer v.slot owner v.note u z.first z.qtds b (k.owned.pieces u z is.here is.held) piece).0 in
      a_piece u b z r (transfer_on u z r other is) (piece_on z.first z.qtds b piece) (lent_on b (off_by b _ placed (k.transfer_on u z is.here other).0) lent)
  owned_on _ _ _ (a_buffer u b c cs z r is piece first lent) differs =
      let other = other_number z.endpoint r is.queue differs in
      let placed = subst (AllByRecursion (λ i. IsPlaced v.slot owner i (Buffer u))) first (placed_buffer v.slot owner v.note u z.first z.qtds b (k.owned.pieces u z is.here is.held) piece).1 in
      a_buffer u b c cs z r (transfer_on u z r other is) (piece_on z.first z.qtds b piece) (ap (λ (n : NoteRuns). n.buffer) (k.notes b) ∙ first)
      (lent_on c (off_by c (Buffer u) placed.0 (k.transfer_on u z is.here other).0) lent)

  only_on : IsDriven v (sorts_of parts) → (n a : ℕ) (s : Sort) → sorts_of now n a ≡ Some s → IsDriverOwned w n a s
  only_on driven n a s found = by_case (now n a) refl found
    where
      by_case : (o : Option Structure) → now n a ≡ o → option_map sort_of o ≡ Some s → IsDriverOwned w n a s
      by_case None is none = absurd (cc)
      by_case (Some u) is same =
          let was = queue_found parts (32 * x.queue) n a u is in
          owned_on n a s (driven.only n a s (ap (option_map sort_of) was.1 ∙ same)) was.0

  pub driven_without : IsDriven v (sorts_of parts) → IsDriven w (sorts_of now)
  driven_without driven = record {
    list = same_sort 0 0 list_beside ∙ driven.list;
    head = same_sort (32 * head_block) (32 * head_block) head_beside ∙ driven.head;
    queue = λ u z is lent.
        let was = k.back u z is in
        same_sort (32 * z.queue) (32 * z.queue) (other_queue u z was.1 was.0) ∙ driven.queue u z was.1 (k.slots z.queue lent);
    dummy = λ u z is lent.
        let was = k.back u z is in
        same_sort (32 * z.queue) (32 * z.dummy) (other_queue u z was.1 was.0) ∙ driven.dummy u z was.1 (k.slots z.dummy lent);
    pieces = λ u z r is.
        let was = transfer_back u z r is in
        subst (λ (part : Structures). AreTold w (λ a. option_map sort_of (part a)) z.first z.qtds) (sym (queue_beside parts (32 * x.queue) (32 * r.queue) (other_queue z.endpoint r was.1.queue was.0)))
        (all_less v w (sorts_of parts (32 * r.queue)) z.first z.qtds k.slots k.notes (driven.pieces u z r was.1));
    only = only_on driven;
  }

  pub extents_without : AreInRuns v parts → AreInRuns w now
  extents_without lies = record {
    list = λ ws here. lies.list ws (queue_found parts (32 * x.queue) 0 0 (Table ws) here).1;
    buffers = λ u b c cs z r pages j bs is piece first here i has.
        let was = transfer_back u z r is in
        let old_piece : IsPieceOf v.note z.first z.qtds b = piece_back z.first z.qtds b piece in
        let old_first : (v.note b).buffer ≡ c ∷ cs = ap (λ (n : NoteRuns). n.buffer) (sym (k.notes b)) ∙ first in
        let inside = lies.buffers u b c cs z r pages j bs was.1 old_piece old_first (queue_found parts (32 * x.queue) (32 * r.queue) (32 * c) (BufferOf pages j bs) here).1 i has in
        let placed = subst (AllByRecursion (λ g. IsPlaced v.slot owner g (Buffer u))) old_first (placed_buffer v.slot owner v.note u z.first z.qtds b (k.owned.pieces u z was.1.here was.1.held) old_piece).1 in
        let off : goes_with e held (owner inside.at) ≡ false = off_by inside.at (Buffer u) (all_one (λ g. IsPlaced v.slot owner g (Buffer u)) (c ∷ cs) inside.at placed inside.among) (k.transfer_on u z was.1.here was.0).0 in
        record { at = inside.at; among = inside.among; has = subst (λ (s : Slot). SlotHas s i) (sym (k.kept inside.at off)) inside.has };
  }
