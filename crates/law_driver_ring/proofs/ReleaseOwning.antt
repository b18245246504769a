-- The inventory without the structures of a transfer that was given back.
use Rattle.std.proofs.Common.{◌≡◌, ◌≢◌, ℕ, zero, suc, ◌*◌, Bool, true, false, List, [], ◌∷◌, Option, Some, None, option_map, ap, refl, sym, subst, ◌∙◌, inl, inr}
use Rattle.std.specs.List.{AllByRecursion}
use Rattle.std.proofs.lemmas.Bool.{true≢false}
use Rattle.std.proofs.lemmas.Option.{same_Some}
use Rattle.law_common.proofs.Numbers.{other_number}
use Rattle.law_driver_ring.proofs.Common.{piece_among}
use Rattle.mem_runs.specs.declared.slots.Slot.{Slot}
use Rattle.drv_table.specs.Words.{head_block}
use Rattle.claims_driver.specs.Owners.{Owner, Element, Buffer, SlotHas, IsPlaced, ArePieces, EndpointRuns, TransferRuns, NoteRuns, Views, AreOwned, IsPieceOf, IsQueueIn, IsOneOf}
use Rattle.law_structures.specs.lent_structures.Structures.{Structure, Buffer as BufferOf, Table, StructureSets}
use Rattle.law_ring.specs.Fewer.{without_those}
use Rattle.law_ring.proofs.Returning.{those_found, those_stay, those_else}
use Rattle.law_driver_ring.specs.Inventory.{Sort, sort_of, sorts_of, IsLent, IsBufferTold, AreTold, IsTransferIn, IsDriverOwned, the_list, the_head, a_queue, a_dummy, a_piece, a_buffer, IsDriven}
use Rattle.law_driver_ring.specs.Extents.{AreInRuns}
use Rattle.law_driver_ring.specs.Released.{blocks_of, names_one}
use Rattle.law_driver_ring.proofs.Blocks.{all_one, all_mine, none_mine, mine, is_named, is_not_named, buffer_among, placed_buffer}

-- views before and after
pub record TransferGoes (v w : Views) (owner : ℕ → Owner) (t : ℕ) (y : TransferRuns) (x : EndpointRuns) : Type 0 where
  pub owned : AreOwned v owner
  pub here : IsTransferIn v t y x
  pub slots : (c : ℕ) → IsLent (w.slot c) → IsLent (v.slot c)
  pub kept : (c : ℕ) → mine t (owner c) ≡ false → w.slot c ≡ v.slot c
  pub endpoints : (e : ℕ) → w.endpoint e ≡ v.endpoint e
  pub notes : (b : ℕ) → w.note b ≡ v.note b
  pub gone : (u : ℕ) (z : TransferRuns) → w.transfer u ≡ Some z → z.released ≡ false → (u ≢ t) × (v.transfer u ≡ Some z)
  pub others : (u : ℕ) → u ≢ t → w.transfer u ≡ v.transfer u

module _ (v w : Views) (owner : ℕ → Owner) (t : ℕ) (y : TransferRuns) (x : EndpointRuns) (k : TransferGoes v w owner t y x) (parts : StructureSets) where
  abbrev blocks : List ℕ
  blocks = blocks_of v.note y.first y.qtds

  abbrev goes : ℕ → Bool
  goes = names_one blocks

  abbrev now : StructureSets
  now = without_those parts (32 * x.queue) goes

  they_are_mine : AllByRecursion (λ c. mine t (owner c) ≡ true) blocks
  they_are_mine = all_mine v.slot owner v.note t y.first y.qtds (k.owned.pieces t y k.here.here k.here.held)

  -- what another owner has stays
  pub stays : (c : ℕ) → mine t (owner c) ≡ false → goes (32 * c) ≡ false
  stays c off = is_not_named blocks c (none_mine owner t c blocks off they_are_mine)

  same_there : (n c : ℕ) → mine t (owner c) ≡ false → now n (32 * c) ≡ parts n (32 * c)
  same_there n c off = those_else parts (32 * x.queue) goes n (32 * c) (stays c off)

  same_sort : (n c : ℕ) → mine t (owner c) ≡ false → sorts_of now n (32 * c) ≡ sorts_of parts n (32 * c)
  same_sort n c off = ap (option_map sort_of) (same_there n c off)

  queue_back : (e : ℕ) (z : EndpointRuns) → IsQueueIn w e z → IsQueueIn v e z
  queue_back e z is = record { here = sym (k.endpoints e) ∙ is.here; queued = is.queued }

  queue_on : (e : ℕ) (z : EndpointRuns) → IsQueueIn v e z → IsQueueIn w e z
  queue_on e z is = record { here = k.endpoints e ∙ is.here; queued = is.queued }

  transfer_back : (u : ℕ) (z : TransferRuns) (e : EndpointRuns) → IsTransferIn w u z e → (u ≢ t) × IsTransferIn v u z e
  transfer_back u z e is =
      let was = k.gone u z is.here is.held in
      (was.0, record { here = was.1; held = is.held; qtds = is.qtds; queue = queue_back z.endpoint e is.queue })

  transfer_on : (u : ℕ) (z : TransferRuns) (e : EndpointRuns) → u ≢ t → IsTransferIn v u z e → IsTransferIn w u z e
  transfer_on u z e differs is = record { here = k.others u differs ∙ is.here; held = is.held; qtds = is.qtds; queue = queue_on z.endpoint e is.queue }

  lent_on : (c : ℕ) → mine t (owner c) ≡ false → IsLent (v.slot c) → IsLent (w.slot c)
  lent_on c off lent = subst IsLent (sym (k.kept c off)) lent

  off_by : (c : ℕ) (o : Owner) → IsPlaced v.slot owner c o → mine t o ≡ false → mine t (owner c) ≡ false
  off_by c o is off = ap (mine t) is.owned ∙ off

  queue_off : (e : ℕ) (z : EndpointRuns) → IsQueueIn v e z → mine t (owner z.queue) ≡ false
  queue_off e z is = off_by z.queue _ (k.owned.queue e z is.here is.queued) refl

  dummy_off : (e : ℕ) (z : EndpointRuns) → IsQueueIn v e z → mine t (owner z.dummy) ≡ false
  dummy_off e z is = off_by z.dummy _ (k.owned.dummy e z is.here is.queued) refl

  piece_on : (b n c : ℕ) → IsPieceOf v.note b n c → IsPieceOf w.note b n c
  piece_on b zero c is = is
  piece_on b (suc n) c (inl same) = inl same
  piece_on b (suc n) c (inr is) = inr (subst (λ (r : NoteRuns). IsPieceOf w.note r.next n c) (sym (k.notes b)) (piece_on (v.note b).next n c is))

  piece_back : (b n c : ℕ) → IsPieceOf w.note b n c → IsPieceOf v.note b n c
  piece_back b zero c is = is
  piece_back b (suc n) c (inl same) = inl same
  piece_back b (suc n) c (inr is) = inr (piece_back (v.note b).next n c (subst (λ (r : NoteRuns). IsPieceOf w.note r.next n c) (k.notes b) is))

  -- ---- the other transfers

  buffer_told : (u n : ℕ) (cs : List ℕ) → u ≢ t → AllByRecursion (λ c. IsPlaced v.slot owner c (Buffer u)) cs → IsBufferTold v.slot (sorts_of parts n) cs → IsBufferTold w.slot (sorts_of now n) cs
  buffer_told u n [] differs placed told = tt
  buffer_told u n (c ∷ cs) differs placed told = λ lent. same_sort n c (off_by c (Buffer u) placed.0 (other_number u t differs)) ∙ told (k.slots c lent)

  are_told : (u n b m : ℕ) → u ≢ t → ArePieces v.slot owner v.note u b m → AreTold v (sorts_of parts n) b m → AreTold w (sorts_of now n) b m
  are_told u n b zero differs pieces told = tt
  are_told u n b (suc m) differs pieces told = (
    record {
      element = λ lent. same_sort n b (off_by b (Element u) pieces.0.element (other_number u t differs)) ∙ told.0.element (k.slots b lent);
      buffer = subst (λ (r : NoteRuns). IsBufferTold w.slot (sorts_of now n) r.buffer) (sym (k.notes b)) (buffer_told u n (v.note b).buffer differs pieces.0.buffers told.0.buffer);
    },
    subst (λ (r : NoteRuns). AreTold w (sorts_of now n) r.next m) (sym (k.notes b)) (are_told u n (v.note b).next m differs pieces.1 told.1),
  )

  -- ---- nothing else

  -- the transfer of a structure that stays is another
  other_one : (u : ℕ) (z : TransferRuns) (e : EndpointRuns) (c : ℕ) → IsTransferIn v u z e → (IsTransferIn v t y x → z ≡ y → IsOneOf c blocks) → (32 * e.queue ≡ 32 * x.queue → goes (32 * c) ≡ false) → u ≢ t
  other_one u z e c is among stay same =
      let one : z ≡ y = same_Some z y (sym is.here ∙ ap v.transfer same ∙ k.here.here) in
      let queue : e ≡ x = same_Some e x (sym is.queue.here ∙ ap (λ (r : TransferRuns). v.endpoint r.endpoint) one ∙ k.here.queue.here) in
      true≢false (sym (is_named blocks c (among k.here one)) ∙ stay (ap (λ (r : EndpointRuns). 32 * r.queue) queue))

  owned_on : (n a : ℕ) (s : Sort) → IsDriverOwned v n a s → (n ≡ 32 * x.queue → goes a ≡ false) → IsDriverOwned w n a s
  owned_on _ _ _ the_list stay = the_list
  owned_on _ _ _ the_head stay = the_head
  owned_on _ _ _ (a_queue e z is lent) stay = a_queue e z (queue_on e z is) (lent_on z.queue (queue_off e z is) lent)
  owned_on _ _ _ (a_dummy e z is lent) stay = a_dummy e z (queue_on e z is) (lent_on z.dummy (dummy_off e z is) lent)
  owned_on _ _ _ (a_piece u b z e is piece lent) stay =
      let differs : u ≢ t = other_one u z e b is (λ mine_too one. piece_among v.note y.first y.qtds b (subst (λ (r : TransferRuns). IsPieceOf v.note r.first r.qtds b) one piece)) stay in
      let placed = (placed_buffer v.slot owner v.note u z.first z.qtds b (k.owned.pieces u z is.here is.held) piece).0 in
      a_piece u b z e (transfer_on u z e differs is) (piece_on z.first z.qtds b piece) (lent_on b (off_by b (Element u) placed (other_number u t differs)) lent)
  owned_on _ _ _ (a_buffer u b c cs z e is piece first lent) stay =
      let differs : u ≢ t = other_one u z e c is (λ mine_too one. buffer_among v.note y.first y.qtds b c cs (subst (λ (r : TransferRuns). IsPieceOf v.note r.first r.qtds b) one piece) first) stay in
      let placed = subst (AllByRecursion (λ i. IsPlaced v.slot owner i (Buffer u))) first (placed_buffer v.slot owner v.note u z.first z.qtds b (k.owned.pieces u z is.here is.held) piece).1 in
      a_buffer u b c cs z e (transfer_on u z e differs is) (piece_on z.first z.qtds b piece) (ap (λ (r : NoteRuns). r.buffer) (k.notes b) ∙ first) (lent_on c (off_by c (Buffer u) placed.0 (other_number u t differs)) lent)

  only_on : IsDriven v (sorts_of parts) → (n a : ℕ) (s : Sort) → sorts_of now n a ≡ Some s → IsDriverOwned w n a s
  only_on driven n a s found = by_case (now n a) refl found
    where
      by_case : (o : Option Structure) → now n a ≡ o → option_map sort_of o ≡ Some s → IsDriverOwned w n a s
      by_case None is none = absurd (cc)
      by_case (Some u) is same =
          owned_on n a s (driven.only n a s (ap (option_map sort_of) (those_found parts (32 * x.queue) goes n a u is) ∙ same))
          (λ at. those_stay parts (32 * x.queue) goes a u (ap (λ (i : ℕ). now i a) (sym at) ∙ is))

  pub driven_without : IsDriven v (sorts_of parts) → IsDriven w (sorts_of now)
  driven_without driven = record {
    list = same_sort 0 0 (off_by 0 _ k.owned.list refl) ∙ driven.list;
    head = same_sort (32 * head_block) head_block (off_by head_block _ k.owned.head refl) ∙ driven.head;
    queue = λ e z is lent. let was = queue_back e z is in same_sort (32 * z.queue) z.queue (queue_off e z was) ∙ driven.queue e z was (k.slots z.queue lent);
    dummy = λ e z is lent. let was = queue_back e z is in same_sort (32 * z.queue) z.dummy (dummy_off e z was) ∙ driven.dummy e z was (k.slots z.dummy lent);
    pieces = λ u z e is.
        let was = transfer_back u z e is in
        are_told u (32 * e.queue) z.first z.qtds was.0 (k.owned.pieces u z was.1.here was.1.held) (driven.pieces u z e was.1);
    only = only_on driven;
  }

  pub extents_without : AreInRuns v parts → AreInRuns w now
  extents_without lies = record {
    list = λ ws here. lies.list ws (those_found parts (32 * x.queue) goes 0 0 (Table ws) here);
    buffers = λ u b c cs z e pages j bs is piece first here i has.
        let was = transfer_back u z e is in
        let old_piece : IsPieceOf v.note z.first z.qtds b = piece_back z.first z.qtds b piece in
        let old_first : (v.note b).buffer ≡ c ∷ cs = ap (λ (r : NoteRuns). r.buffer) (sym (k.notes b)) ∙ first in
        let inside = lies.buffers u b c cs z e pages j bs was.1 old_piece old_first (those_found parts (32 * x.queue) goes (32 * e.queue) (32 * c) (BufferOf pages j bs) here) i has in
        let placed = subst (AllByRecursion (λ g. IsPlaced v.slot owner g (Buffer u))) old_first (placed_buffer v.slot owner v.note u z.first z.qtds b (k.owned.pieces u z was.1.here was.1.held) old_piece).1 in
        let off : mine t (owner inside.at) ≡ false = off_by inside.at (Buffer u) (all_one (λ g. IsPlaced v.slot owner g (Buffer u)) (c ∷ cs) inside.at placed inside.among) (other_number u t was.0) in
        record { at = inside.at; among = inside.among; has = subst (λ (s : Slot). SlotHas s i) (sym (k.kept inside.at off)) inside.has };
  }
