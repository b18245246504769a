-- The inventory with all that was lent of a transfer.
use Rattle.std.proofs.Common.{◌≡◌, ◌≢◌, ℕ, zero, suc, ◌*◌, ◌⊎◌, List, [], ◌∷◌, Option, Some, None, option_map, ap, refl, sym, subst, ◌∙◌, ⊎_elim, arith}
use Rattle.std.specs.List.{AllByRecursion}
use Rattle.std.proofs.lemmas.Bool.{cases_eq}
use Rattle.std.proofs.lemmas.Option.{same_Some}
use Rattle.law_driver_ring.proofs.Common.{piece_on}
use Rattle.drv_table.specs.Words.{head_block}
use Rattle.claims_driver.specs.Owners.{Owner, FrameList, Head, QueueHead, Dummy, Element, Buffer, IsPlaced, ArePieces, EndpointRuns, TransferRuns, NoteRuns, Views, AreOwned, IsQueueIn}
use Rattle.law_structures.specs.lent_structures.Structures.{Structure, StructureSets}
use Rattle.law_driver_ring.specs.Inventory.{Sort, sort_of, sorts_of, OfElement, IsLent, IsBufferTold, AreTold, IsTransferIn, IsDriverOwned, the_list, the_head, a_queue, a_dummy, a_piece, a_buffer, IsDriven}
use Rattle.law_driver_ring.proofs.Lists.{IsOneOf, one_or_not}

-- ---- what was lent

-- its owner is the transfer, or it is the inactive qTD of its endpoint
pub data IsOwnedBy (owner : ℕ → Owner) (t e c : ℕ) : Type 0 where
  as_element : owner c ≡ Element t → IsOwnedBy owner t e c
  as_dummy : owner c ≡ Dummy e → IsOwnedBy owner t e c
  as_buffer : owner c ≡ Buffer t → IsOwnedBy owner t e c

pub record IsLentOn (v w : Views) (owner : ℕ → Owner) (t : ℕ) (y : TransferRuns) (x : EndpointRuns) (taken : List ℕ) : Type 0 where
  pub owned : AreOwned v owner
  pub here : IsTransferIn v t y x
  pub kept : (c : ℕ) → IsOneOf c taken → IsLent (v.slot c) → ⊥
  pub lent : (c : ℕ) → IsOneOf c taken → IsLent (w.slot c)
  pub others : (c : ℕ) → (IsOneOf c taken → ⊥) → w.slot c ≡ v.slot c
  pub owners : (c : ℕ) → IsOneOf c taken → IsOwnedBy owner t y.endpoint c
  pub endpoints : (i : ℕ) → w.endpoint i ≡ v.endpoint i
  pub transfers : (i : ℕ) → w.transfer i ≡ v.transfer i
  pub notes : (b : ℕ) → w.note b ≡ v.note b

-- an owner of another kind, or of another transfer, has none of it
pub not_taken : (v w : Views) (owner : ℕ → Owner) (t : ℕ) (y : TransferRuns) (x : EndpointRuns) (taken : List ℕ) (c : ℕ) (o : Owner) → IsLentOn v w owner t y x taken → IsPlaced v.slot owner c o → o ≢ Element t → o ≢ Dummy y.endpoint → o ≢ Buffer t → IsOneOf c taken → ⊥
not_taken v w owner t y x taken c o on placed no_element no_dummy no_buffer one = by_owner (on.owners c one)
  where
    by_owner : IsOwnedBy owner t y.endpoint c → ⊥
    by_owner (as_element is) = no_element (sym placed.owned ∙ is)
    by_owner (as_dummy is) = no_dummy (sym placed.owned ∙ is)
    by_owner (as_buffer is) = no_buffer (sym placed.owned ∙ is)

-- ---- runs that were lent before

pub lent_on : (v w : Views) (owner : ℕ → Owner) (t : ℕ) (y : TransferRuns) (x : EndpointRuns) (taken : List ℕ) (c : ℕ) → IsLentOn v w owner t y x taken → IsLent (v.slot c) → IsLent (w.slot c)
lent_on v w owner t y x taken c on lent =
    ⊎_elim (λ (one : IsOneOf c taken). on.lent c one) (λ (none : IsOneOf c taken → ⊥). subst IsLent (sym (on.others c none)) lent) (one_or_not c taken)

lent_back : (v w : Views) (owner : ℕ → Owner) (t : ℕ) (y : TransferRuns) (x : EndpointRuns) (taken : List ℕ) (c : ℕ) → IsLentOn v w owner t y x taken → (IsOneOf c taken → ⊥) → IsLent (w.slot c) → IsLent (v.slot c)
lent_back v w owner t y x taken c on none lent = subst IsLent (on.others c none) lent

queue_back : (v w : Views) (owner : ℕ → Owner) (t : ℕ) (y : TransferRuns) (x : EndpointRuns) (taken : List ℕ) (f : ℕ) (z : EndpointRuns) → IsLentOn v w owner t y x taken → IsQueueIn w f z → IsQueueIn v f z
queue_back v w owner t y x taken f z on is = record { here = sym (on.endpoints f) ∙ is.here; queued = is.queued }

queue_on : (v w : Views) (owner : ℕ → Owner) (t : ℕ) (y : TransferRuns) (x : EndpointRuns) (taken : List ℕ) (f : ℕ) (z : EndpointRuns) → IsLentOn v w owner t y x taken → IsQueueIn v f z → IsQueueIn w f z
queue_on v w owner t y x taken f z on is = record { here = on.endpoints f ∙ is.here; queued = is.queued }

transfer_back : (v w : Views) (owner : ℕ → Owner) (t : ℕ) (y : TransferRuns) (x : EndpointRuns) (taken : List ℕ) (i : ℕ) (u : TransferRuns) (z : EndpointRuns) → IsLentOn v w owner t y x taken → IsTransferIn w i u z → IsTransferIn v i u z
transfer_back v w owner t y x taken i u z on is =
    record { here = sym (on.transfers i) ∙ is.here; held = is.held; qtds = is.qtds; queue = queue_back v w owner t y x taken u.endpoint z on is.queue }

pub transfer_on : (v w : Views) (owner : ℕ → Owner) (t : ℕ) (y : TransferRuns) (x : EndpointRuns) (taken : List ℕ) (i : ℕ) (u : TransferRuns) (z : EndpointRuns) → IsLentOn v w owner t y x taken → IsTransferIn v i u z → IsTransferIn w i u z
transfer_on v w owner t y x taken i u z on is =
    record { here = on.transfers i ∙ is.here; held = is.held; qtds = is.qtds; queue = queue_on v w owner t y x taken u.endpoint z on is.queue }

pub owned_on : (v w : Views) (owner : ℕ → Owner) (t : ℕ) (y : TransferRuns) (x : EndpointRuns) (taken : List ℕ) (n a : ℕ) (k : Sort) → IsLentOn v w owner t y x taken → IsDriverOwned v n a k → IsDriverOwned w n a k
owned_on v w owner t y x taken _ _ _ on the_list = the_list
owned_on v w owner t y x taken _ _ _ on the_head = the_head
owned_on v w owner t y x taken _ _ _ on (a_queue f z is lent) = a_queue f z (queue_on v w owner t y x taken f z on is) (lent_on v w owner t y x taken z.queue on lent)
owned_on v w owner t y x taken _ _ _ on (a_dummy f z is lent) = a_dummy f z (queue_on v w owner t y x taken f z on is) (lent_on v w owner t y x taken z.dummy on lent)
owned_on v w owner t y x taken _ _ _ on (a_piece i b u z is piece lent) =
    a_piece i b u z (transfer_on v w owner t y x taken i u z on is) (piece_on v.note w.note u.first u.qtds b on.notes piece) (lent_on v w owner t y x taken b on lent)
owned_on v w owner t y x taken _ _ _ on (a_buffer i b c cs u z is piece first lent) =
    a_buffer i b c cs u z (transfer_on v w owner t y x taken i u z on is) (piece_on v.note w.note u.first u.qtds b on.notes piece) (ap (λ (r : NoteRuns). r.buffer) (on.notes b) ∙ first) (lent_on v w owner t y x taken c on lent)

-- nothing of it was told before
pub not_owned : (v w : Views) (owner : ℕ → Owner) (t : ℕ) (y : TransferRuns) (x : EndpointRuns) (taken : List ℕ) (n a c : ℕ) (k : Sort) → IsLentOn v w owner t y x taken → IsOneOf c taken → a ≡ 32 * c → IsDriverOwned v n a k → ⊥
not_owned v w owner t y x taken _ _ c _ on one at the_list =
    not_taken v w owner t y x taken 0 FrameList on on.owned.list (λ same. cc) (λ same. cc) (λ same. cc) (subst (λ (i : ℕ). IsOneOf i taken) (let e : c ≡ 0 = omega (arith, at) in e) one)
not_owned v w owner t y x taken _ _ c _ on one at the_head =
    not_taken v w owner t y x taken head_block Head on on.owned.head (λ same. cc) (λ same. cc) (λ same. cc) (subst (λ (i : ℕ). IsOneOf i taken) (let e : c ≡ head_block = omega (arith, at) in e) one)
not_owned v w owner t y x taken _ _ c _ on one at (a_queue f z is lent) = on.kept c one (subst (λ (i : ℕ). IsLent (v.slot i)) (let e : z.queue ≡ c = omega (arith, at) in e) lent)
not_owned v w owner t y x taken _ _ c _ on one at (a_dummy f z is lent) = on.kept c one (subst (λ (i : ℕ). IsLent (v.slot i)) (let e : z.dummy ≡ c = omega (arith, at) in e) lent)
not_owned v w owner t y x taken _ _ c _ on one at (a_piece i b u z is piece lent) = on.kept c one (subst (λ (j : ℕ). IsLent (v.slot j)) (let e : b ≡ c = omega (arith, at) in e) lent)
not_owned v w owner t y x taken _ _ c _ on one at (a_buffer i b k cs u z is piece first lent) = on.kept c one (subst (λ (j : ℕ). IsLent (v.slot j)) (let e : k ≡ c = omega (arith, at) in e) lent)

-- ---- other transfers' qTDs and buffers

element_no_dummy : (t e : ℕ) → Element t ≢ Dummy e
element_no_dummy t e same = cc

element_no_buffer : (t e : ℕ) → Element t ≢ Buffer e
element_no_buffer t e same = cc

one_element : (t i : ℕ) → Element i ≡ Element t → i ≡ t
one_element t i same = cc

one_buffer : (t i : ℕ) → Buffer i ≡ Buffer t → i ≡ t
one_buffer t i same = cc

-- kinds stay but at the new names
abbrev pub SamePlaces : StructureSets → StructureSets → List ℕ → Type 0
SamePlaces parts now taken = (k c : ℕ) → (IsOneOf c taken → ⊥) → sorts_of now k (32 * c) ≡ sorts_of parts k (32 * c)

buffer_on : (v w : Views) (owner : ℕ → Owner) (t : ℕ) (y : TransferRuns) (x : EndpointRuns) (taken : List ℕ) (parts now : StructureSets) (k i : ℕ) (cs : List ℕ) → IsLentOn v w owner t y x taken → SamePlaces parts now taken → i ≢ t → AllByRecursion (λ c. IsPlaced v.slot owner c (Buffer i)) cs → IsBufferTold v.slot (sorts_of parts k) cs → IsBufferTold w.slot (sorts_of now k) cs
buffer_on v w owner t y x taken parts now k i [] on same differs placed told = tt
buffer_on v w owner t y x taken parts now k i (c ∷ cs) on same differs placed told = λ lent.
    let none = not_taken v w owner t y x taken c (Buffer i) on placed.0 (λ e. element_no_buffer t i (sym e)) (λ e. cc) (λ e. differs (one_buffer t i e)) in
    same k c none ∙ told (lent_back v w owner t y x taken c on none lent)

told_on : (v w : Views) (owner : ℕ → Owner) (t : ℕ) (y : TransferRuns) (x : EndpointRuns) (taken : List ℕ) (parts now : StructureSets) (k i b n : ℕ) → IsLentOn v w owner t y x taken → SamePlaces parts now taken → i ≢ t → ArePieces v.slot owner v.note i b n → AreTold v (sorts_of parts k) b n → AreTold w (sorts_of now k) b n
told_on v w owner t y x taken parts now k i b zero on same differs pieces told = tt
told_on v w owner t y x taken parts now k i b (suc n) on same differs pieces told =
    let none = not_taken v w owner t y x taken b (Element i) on pieces.0.element (λ e. differs (one_element t i e)) (element_no_dummy i y.endpoint) (element_no_buffer i t) in (
      record {
        element = λ lent. same k b none ∙ told.0.element (lent_back v w owner t y x taken b on none lent);
        buffer = subst (λ (r : NoteRuns). IsBufferTold w.slot (sorts_of now k) r.buffer) (sym (on.notes b)) (buffer_on v w owner t y x taken parts now k i (v.note b).buffer on same differs pieces.0.buffers told.0.buffer);
      },
      subst (λ (r : NoteRuns). AreTold w (sorts_of now k) r.next n) (sym (on.notes b)) (told_on v w owner t y x taken parts now k i (v.note b).next n on same differs pieces.1 told.1),
    )

-- ---- the inventory

pub record IsToldOn (w : Views) (parts now : StructureSets) (y : TransferRuns) (x : EndpointRuns) (taken : List ℕ) : Type 0 where
  pub same : SamePlaces parts now taken
  pub pieces : AreTold w (sorts_of now (32 * x.queue)) y.first y.qtds
  pub dummy : sorts_of now (32 * x.queue) (32 * x.dummy) ≡ Some OfElement
  pub found : (k a : ℕ) (u : Structure) → now k a ≡ Some u → IsDriverOwned w k a (sort_of u) ⊎ (parts k a ≡ Some u)

pub driven_lent : (v w : Views) (owner : ℕ → Owner) (t : ℕ) (y : TransferRuns) (x : EndpointRuns) (taken : List ℕ) (parts now : StructureSets) → IsLentOn v w owner t y x taken → IsToldOn w parts now y x taken → IsDriven v (sorts_of parts) → IsDriven w (sorts_of now)
driven_lent v w owner t y x taken parts now on told k = record {
  list = told.same 0 0 (not_taken v w owner t y x taken 0 FrameList on on.owned.list (λ e. cc) (λ e. cc) (λ e. cc)) ∙ k.list;
  head = told.same (32 * head_block) head_block (not_taken v w owner t y x taken head_block Head on on.owned.head (λ e. cc) (λ e. cc) (λ e. cc)) ∙ k.head;
  queue = λ f z is lent.
      let was = queue_back v w owner t y x taken f z on is in
      let none = not_taken v w owner t y x taken z.queue (QueueHead f) on (on.owned.queue f z was.here was.queued) (λ e. cc) (λ e. cc) (λ e. cc) in
      told.same (32 * z.queue) z.queue none ∙ k.queue f z was (lent_back v w owner t y x taken z.queue on none lent);
  dummy = λ f z is lent.
      let was = queue_back v w owner t y x taken f z on is in
      ⊎_elim
      (λ (same : f ≡ y.endpoint).
      let runs : z ≡ x = same_Some z x (sym was.here ∙ ap v.endpoint same ∙ on.here.queue.here) in
      subst (λ (r : EndpointRuns). sorts_of now (32 * r.queue) (32 * r.dummy) ≡ Some OfElement) (sym runs) told.dummy)
      (λ (differs : f ≢ y.endpoint).
      let none = not_taken v w owner t y x taken z.dummy (Dummy f) on (on.owned.dummy f z was.here was.queued) (λ e. element_no_dummy t f (sym e)) (λ e. differs (one_dummy f y.endpoint e)) (λ e. cc) in
      told.same (32 * z.queue) z.dummy none ∙ k.dummy f z was (lent_back v w owner t y x taken z.dummy on none lent))
      (cases_eq f y.endpoint);
  pieces = λ i u z is.
      let was = transfer_back v w owner t y x taken i u z on is in
      ⊎_elim
      (λ (same : i ≡ t).
      let runs : u ≡ y = same_Some u y (sym was.here ∙ ap v.transfer same ∙ on.here.here) in
      let queue : z ≡ x = same_Some z x (sym was.queue.here ∙ ap (λ (r : TransferRuns). v.endpoint r.endpoint) runs ∙ on.here.queue.here) in
      subst (λ (r : TransferRuns). AreTold w (sorts_of now (32 * z.queue)) r.first r.qtds) (sym runs)
      (subst (λ (r : EndpointRuns). AreTold w (sorts_of now (32 * r.queue)) y.first y.qtds) (sym queue) told.pieces))
      (λ (differs : i ≢ t). told_on v w owner t y x taken parts now (32 * z.queue) i u.first u.qtds on told.same differs (on.owned.pieces i u was.here was.held) (k.pieces i u z was))
      (cases_eq i t);
  only = λ n a s there. by_case n a s (now n a) refl there;
}
  where
    one_dummy : (f e : ℕ) → Dummy f ≡ Dummy e → f ≡ e
    one_dummy f e same = cc

    by_case : (n a : ℕ) (s : Sort) (o : Option Structure) → now n a ≡ o → option_map sort_of o ≡ Some s → IsDriverOwned w n a s
    by_case n a s None is there = absurd (cc)
    by_case n a s (Some u) is there =
        subst (IsDriverOwned w n a) (same_Some (sort_of u) s there)
        (⊎_elim (λ (new : IsDriverOwned w n a (sort_of u)). new)
        (λ (old : parts n a ≡ Some u). owned_on v w owner t y x taken n a (sort_of u) on (k.only n a (sort_of u) (ap (option_map sort_of) old))) (told.found n a u is))
