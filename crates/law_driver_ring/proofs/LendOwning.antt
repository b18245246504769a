-- The inventory with the two structures of a new endpoint.
use Rattle.std.proofs.Common.{◌≡◌, ◌≢◌, ℕ, zero, suc, ◌*◌, List, [], ◌∷◌, Option, Some, None, option_map, ap, refl, sym, subst, ◌∙◌, ⊎_elim, arith}
use Rattle.std.specs.List.{AllByRecursion}
use Rattle.std.proofs.lemmas.Bool.{cases_eq}
use Rattle.std.proofs.lemmas.Option.{same_Some}
use Rattle.law_driver_ring.proofs.Common.{piece_on}
use Rattle.mem_runs.specs.declared.slots.Slot.{Slot}
use Rattle.qh_qtd.specs.declared.queue_head.Qh.{Qh}
use Rattle.drv_table.specs.Words.{head_block, dummy_qtd}
use Rattle.claims_driver.specs.Owners.{Owner, FrameList, Head, QueueHead, Dummy, Element, Buffer, Described, IsPlaced, ArePieces, EndpointRuns, TransferRuns, NoteRuns, Views, AreOwned, IsQueueIn}
use Rattle.law_structures.specs.lent_structures.Structures.{Structure, QueueHead as QueueHeadOf, Element as ElementOf, StructureSets, put}
use Rattle.law_structures.proofs.lemmas.lent_structures.Names.{put_same, put_else, put_beside, put_found}
use Rattle.law_driver_ring.specs.Inventory.{Sort, sort_of, sorts_of, OfQueueHead, OfElement, IsLent, IsBufferTold, AreTold, IsTransferIn, IsDriverOwned, the_list, the_head, a_queue, a_dummy, a_piece, a_buffer, IsDriven}
use Rattle.law_driver_ring.specs.LendOpened.{opened_parts}

-- ---- runs of owners that differ

abbrev pub kind_of : Owner → ℕ
kind_of FrameList = 0
kind_of Head = 1
kind_of (QueueHead e) = 2
kind_of (Dummy e) = 3
kind_of (Element t) = 4
kind_of (Described split t) = 5
kind_of (Buffer t) = 6

abbrev pub number_of : Owner → ℕ
number_of (QueueHead e) = e
number_of (Dummy e) = e
number_of (Element t) = t
number_of (Described split t) = t
number_of (Buffer t) = t
number_of _ = 0

pub apart_from : (slot : ℕ → Slot) (owner : ℕ → Owner) (b c : ℕ) (o p : Owner) → IsPlaced slot owner b o → IsPlaced slot owner c p → kind_of o ≢ kind_of p → b ≢ c
apart_from slot owner b c o p one two differs same = differs (ap kind_of (sym one.owned ∙ ap owner same ∙ two.owned))

same_number : (slot : ℕ → Slot) (owner : ℕ → Owner) (b c : ℕ) (o p : Owner) → IsPlaced slot owner b o → IsPlaced slot owner c p → b ≡ c → number_of o ≡ number_of p
same_number slot owner b c o p one two same = ap number_of (sym one.owned ∙ ap owner same ∙ two.owned)

-- ---- views after the lend of both

pub record TwoLent (v w : Views) (owner : ℕ → Owner) (e : ℕ) (x : EndpointRuns) : Type 0 where
  pub owned : AreOwned v owner
  pub here : IsQueueIn v e x
  pub queue_kept : IsLent (v.slot x.queue) → ⊥
  pub dummy_kept : IsLent (v.slot x.dummy) → ⊥
  pub queue_lent : IsLent (w.slot x.queue)
  pub dummy_lent : IsLent (w.slot x.dummy)
  pub others : (c : ℕ) → c ≢ x.queue → c ≢ x.dummy → w.slot c ≡ v.slot c
  pub endpoints : (i : ℕ) → w.endpoint i ≡ v.endpoint i
  pub transfers : (t : ℕ) → w.transfer t ≡ v.transfer t
  pub notes : (b : ℕ) → w.note b ≡ v.note b
  pub no_transfer : (t : ℕ) (y : TransferRuns) → v.transfer t ≡ Some y → y.endpoint ≢ e

queue_at : (v : Views) (owner : ℕ → Owner) (e : ℕ) (x : EndpointRuns) → AreOwned v owner → IsQueueIn v e x → IsPlaced v.slot owner x.queue (QueueHead e)
queue_at v owner e x owned is = owned.queue e x is.here is.queued

dummy_at : (v : Views) (owner : ℕ → Owner) (e : ℕ) (x : EndpointRuns) → AreOwned v owner → IsQueueIn v e x → IsPlaced v.slot owner x.dummy (Dummy e)
dummy_at v owner e x owned is = owned.dummy e x is.here is.queued

pub queue_no_dummy : (v : Views) (owner : ℕ → Owner) (e f : ℕ) (x z : EndpointRuns) → AreOwned v owner → IsQueueIn v e x → IsQueueIn v f z → x.queue ≢ z.dummy
queue_no_dummy v owner e f x z owned one two =
    apart_from v.slot owner x.queue z.dummy (QueueHead e) (Dummy f) (queue_at v owner e x owned one) (dummy_at v owner f z owned two) (λ s. omega (arith, s))

-- the endpoints are the same where their queue heads are
one_queue : (v : Views) (owner : ℕ → Owner) (e f : ℕ) (x z : EndpointRuns) → AreOwned v owner → IsQueueIn v e x → IsQueueIn v f z → z.queue ≡ x.queue → f ≡ e
one_queue v owner e f x z owned one two same = same_number v.slot owner z.queue x.queue (QueueHead f) (QueueHead e) (queue_at v owner f z owned two) (queue_at v owner e x owned one) same

one_dummy : (v : Views) (owner : ℕ → Owner) (e f : ℕ) (x z : EndpointRuns) → AreOwned v owner → IsQueueIn v e x → IsQueueIn v f z → z.dummy ≡ x.dummy → f ≡ e
one_dummy v owner e f x z owned one two same = same_number v.slot owner z.dummy x.dummy (Dummy f) (Dummy e) (dummy_at v owner f z owned two) (dummy_at v owner e x owned one) same

one_runs : (v : Views) (e f : ℕ) (x z : EndpointRuns) → IsQueueIn v e x → IsQueueIn v f z → f ≡ e → z ≡ x
one_runs v e f x z one two same = same_Some z x (sym two.here ∙ ap v.endpoint same ∙ one.here)

-- ---- nothing of the endpoint was told

pub no_owned : (v w : Views) (owner : ℕ → Owner) (e : ℕ) (x : EndpointRuns) (n a : ℕ) (k : Sort) → TwoLent v w owner e x → n ≡ 32 * x.queue → IsDriverOwned v n a k → ⊥
no_owned v w owner e x _ _ _ two at the_list =
    apart_from v.slot owner 0 x.queue FrameList (QueueHead e) two.owned.list (queue_at v owner e x two.owned two.here) (λ s. omega (arith, s)) (omega (arith, at))
no_owned v w owner e x _ _ _ two at the_head =
    apart_from v.slot owner head_block x.queue Head (QueueHead e) two.owned.head (queue_at v owner e x two.owned two.here) (λ s. omega (arith, s)) (omega (arith, at))
no_owned v w owner e x _ _ _ two at (a_queue f z is lent) =
    let same : z.queue ≡ x.queue = omega (arith, at) in
    two.queue_kept (subst (λ (c : ℕ). IsLent (v.slot c)) same lent)
no_owned v w owner e x _ _ _ two at (a_dummy f z is lent) =
    let same : z.queue ≡ x.queue = omega (arith, at) in
    two.dummy_kept (subst (λ (r : EndpointRuns). IsLent (v.slot r.dummy)) (one_runs v e f x z two.here is (one_queue v owner e f x z two.owned two.here is same)) lent)
no_owned v w owner e x _ _ _ two at (a_piece t b y z is piece lent) =
    let same : z.queue ≡ x.queue = omega (arith, at) in
    two.no_transfer t y is.here (one_queue v owner e y.endpoint x z two.owned two.here is.queue same)
no_owned v w owner e x _ _ _ two at (a_buffer t b c cs y z is piece first lent) =
    let same : z.queue ≡ x.queue = omega (arith, at) in
    two.no_transfer t y is.here (one_queue v owner e y.endpoint x z two.owned two.here is.queue same)

pub none_there : (v w : Views) (owner : ℕ → Owner) (e : ℕ) (x : EndpointRuns) (parts : StructureSets) (b : ℕ) → TwoLent v w owner e x → IsDriven v (sorts_of parts) → parts (32 * x.queue) b ≡ None
none_there v w owner e x parts b two k = by_case (parts (32 * x.queue) b) refl
  where
    by_case : (o : Option Structure) → parts (32 * x.queue) b ≡ o → o ≡ None
    by_case None is = refl
    by_case (Some s) is = absurd (no_owned v w owner e x (32 * x.queue) b (sort_of s) two refl (k.only (32 * x.queue) b (sort_of s) (ap (option_map sort_of) is)))

-- ---- kinds by name

queue_sort : (parts : StructureSets) (x : EndpointRuns) (q : Qh) → x.queue ≢ x.dummy → sorts_of (opened_parts parts x q) (32 * x.queue) (32 * x.queue) ≡ Some OfQueueHead
queue_sort parts x q differs =
    let one = put parts (32 * x.queue) (32 * x.queue) (QueueHeadOf q) in
    ap (option_map sort_of) (put_else one (32 * x.queue) (32 * x.dummy) (ElementOf dummy_qtd) (32 * x.queue) (λ s. differs (omega (arith, s))) ∙ put_same parts (32 * x.queue) (32 * x.queue) (QueueHeadOf q))

dummy_sort : (parts : StructureSets) (x : EndpointRuns) (q : Qh) → sorts_of (opened_parts parts x q) (32 * x.queue) (32 * x.dummy) ≡ Some OfElement
dummy_sort parts x q =
    let one = put parts (32 * x.queue) (32 * x.queue) (QueueHeadOf q) in
    ap (option_map sort_of) (put_same one (32 * x.queue) (32 * x.dummy) (ElementOf dummy_qtd))

other_sort : (parts : StructureSets) (x : EndpointRuns) (q : Qh) (k b : ℕ) → b ≢ x.queue → b ≢ x.dummy → sorts_of (opened_parts parts x q) k (32 * b) ≡ sorts_of parts k (32 * b)
other_sort parts x q k b first second =
    let n = 32 * x.queue in
    let one = put parts n n (QueueHeadOf q) in
    let no_queue : 32 * b ≢ n = λ s. first (omega (arith, s)) in
    let no_dummy : 32 * b ≢ 32 * x.dummy = λ s. second (omega (arith, s)) in
    ⊎_elim (λ (same : k ≡ n).
    ap (λ (i : ℕ). sorts_of (opened_parts parts x q) i (32 * b)) same
    ∙ ap (option_map sort_of) (put_else one n (32 * x.dummy) (ElementOf dummy_qtd) (32 * b) no_dummy ∙ put_else parts n n (QueueHeadOf q) (32 * b) no_queue)
    ∙ sym (ap (λ (i : ℕ). sorts_of parts i (32 * b)) same))
    (λ (differs : k ≢ n).
    ap (λ (part : ℕ → Option Structure). option_map sort_of (part (32 * b))) (put_beside one n (32 * x.dummy) (ElementOf dummy_qtd) k differs ∙ put_beside parts n n (QueueHeadOf q) k differs)) (cases_eq k n)

-- ---- what was lent

lent_back : (v w : Views) (owner : ℕ → Owner) (e : ℕ) (x : EndpointRuns) (c : ℕ) → TwoLent v w owner e x → c ≢ x.queue → c ≢ x.dummy → IsLent (w.slot c) → IsLent (v.slot c)
lent_back v w owner e x c two first second lent = subst IsLent (two.others c first second) lent

lent_on : (v w : Views) (owner : ℕ → Owner) (e : ℕ) (x : EndpointRuns) (c : ℕ) → TwoLent v w owner e x → IsLent (v.slot c) → IsLent (w.slot c)
lent_on v w owner e x c two lent =
    subst IsLent (sym (two.others c (λ same. two.queue_kept (subst (λ (i : ℕ). IsLent (v.slot i)) same lent)) (λ same. two.dummy_kept (subst (λ (i : ℕ). IsLent (v.slot i)) same lent)))) lent

queue_back : (v w : Views) (owner : ℕ → Owner) (e : ℕ) (x : EndpointRuns) (f : ℕ) (z : EndpointRuns) → TwoLent v w owner e x → IsQueueIn w f z → IsQueueIn v f z
queue_back v w owner e x f z two is = record { here = sym (two.endpoints f) ∙ is.here; queued = is.queued }

queue_on : (v w : Views) (owner : ℕ → Owner) (e : ℕ) (x : EndpointRuns) (f : ℕ) (z : EndpointRuns) → TwoLent v w owner e x → IsQueueIn v f z → IsQueueIn w f z
queue_on v w owner e x f z two is = record { here = two.endpoints f ∙ is.here; queued = is.queued }

transfer_back : (v w : Views) (owner : ℕ → Owner) (e : ℕ) (x : EndpointRuns) (t : ℕ) (y : TransferRuns) (z : EndpointRuns) → TwoLent v w owner e x → IsTransferIn w t y z → IsTransferIn v t y z
transfer_back v w owner e x t y z two is = record { here = sym (two.transfers t) ∙ is.here; held = is.held; qtds = is.qtds; queue = queue_back v w owner e x y.endpoint z two is.queue }

transfer_on : (v w : Views) (owner : ℕ → Owner) (e : ℕ) (x : EndpointRuns) (t : ℕ) (y : TransferRuns) (z : EndpointRuns) → TwoLent v w owner e x → IsTransferIn v t y z → IsTransferIn w t y z
transfer_on v w owner e x t y z two is = record { here = two.transfers t ∙ is.here; held = is.held; qtds = is.qtds; queue = queue_on v w owner e x y.endpoint z two is.queue }

-- qTDs and buffers of transfers stand elsewhere
buffer_on : (v w : Views) (owner : ℕ → Owner) (e : ℕ) (x : EndpointRuns) (parts : StructureSets) (q : Qh) (k t : ℕ) (cs : List ℕ) → TwoLent v w owner e x → AllByRecursion (λ c. IsPlaced v.slot owner c (Buffer t)) cs → IsBufferTold v.slot (sorts_of parts k) cs → IsBufferTold w.slot (sorts_of (opened_parts parts x q) k) cs
buffer_on v w owner e x parts q k t [] two placed told = tt
buffer_on v w owner e x parts q k t (c ∷ cs) two placed told = λ lent.
    let first = apart_from v.slot owner c x.queue (Buffer t) (QueueHead e) placed.0 (queue_at v owner e x two.owned two.here) (λ s. omega (arith, s)) in
    let second = apart_from v.slot owner c x.dummy (Buffer t) (Dummy e) placed.0 (dummy_at v owner e x two.owned two.here) (λ s. omega (arith, s)) in
    other_sort parts x q k c first second ∙ told (lent_back v w owner e x c two first second lent)

told_on : (v w : Views) (owner : ℕ → Owner) (e : ℕ) (x : EndpointRuns) (parts : StructureSets) (q : Qh) (k t b n : ℕ) → TwoLent v w owner e x → ArePieces v.slot owner v.note t b n → AreTold v (sorts_of parts k) b n → AreTold w (sorts_of (opened_parts parts x q) k) b n
told_on v w owner e x parts q k t b zero two pieces told = tt
told_on v w owner e x parts q k t b (suc n) two pieces told =
    let first = apart_from v.slot owner b x.queue (Element t) (QueueHead e) pieces.0.element (queue_at v owner e x two.owned two.here) (λ s. omega (arith, s)) in
    let second = apart_from v.slot owner b x.dummy (Element t) (Dummy e) pieces.0.element (dummy_at v owner e x two.owned two.here) (λ s. omega (arith, s)) in (
      record {
        element = λ lent. other_sort parts x q k b first second ∙ told.0.element (lent_back v w owner e x b two first second lent);
        buffer = subst (λ (r : NoteRuns). IsBufferTold w.slot (sorts_of (opened_parts parts x q) k) r.buffer) (sym (two.notes b)) (buffer_on v w owner e x parts q k t (v.note b).buffer two pieces.0.buffers told.0.buffer);
      },
      subst (λ (r : NoteRuns). AreTold w (sorts_of (opened_parts parts x q) k) r.next n) (sym (two.notes b)) (told_on v w owner e x parts q k t (v.note b).next n two pieces.1 told.1),
    )

-- ---- the inventory

owned_on : (v w : Views) (owner : ℕ → Owner) (e : ℕ) (x : EndpointRuns) (n a : ℕ) (k : Sort) → TwoLent v w owner e x → IsDriverOwned v n a k → IsDriverOwned w n a k
owned_on v w owner e x _ _ _ two the_list = the_list
owned_on v w owner e x _ _ _ two the_head = the_head
owned_on v w owner e x _ _ _ two (a_queue f z is lent) = a_queue f z (queue_on v w owner e x f z two is) (lent_on v w owner e x z.queue two lent)
owned_on v w owner e x _ _ _ two (a_dummy f z is lent) = a_dummy f z (queue_on v w owner e x f z two is) (lent_on v w owner e x z.dummy two lent)
owned_on v w owner e x _ _ _ two (a_piece t b y z is piece lent) =
    a_piece t b y z (transfer_on v w owner e x t y z two is) (piece_on v.note w.note y.first y.qtds b two.notes piece) (lent_on v w owner e x b two lent)
owned_on v w owner e x _ _ _ two (a_buffer t b c cs y z is piece first lent) =
    a_buffer t b c cs y z (transfer_on v w owner e x t y z two is) (piece_on v.note w.note y.first y.qtds b two.notes piece) (ap (λ (r : NoteRuns). r.buffer) (two.notes b) ∙ first) (lent_on v w owner e x c two lent)

-- one of the two, or one that was there
only_on : (v w : Views) (owner : ℕ → Owner) (e : ℕ) (x : EndpointRuns) (parts : StructureSets) (q : Qh) (n a : ℕ) (u : Structure) → TwoLent v w owner e x → IsDriven v (sorts_of parts) → opened_parts parts x q n a ≡ Some u → IsDriverOwned w n a (sort_of u)
only_on v w owner e x parts q n a u two k found =
    let at = 32 * x.queue in
    let one = put parts at at (QueueHeadOf q) in
    let is = queue_on v w owner e x e x two two.here in
    ⊎_elim (λ (new : (n ≡ at) × (a ≡ 32 * x.dummy) × (u ≡ ElementOf dummy_qtd)).
    subst (λ (i : ℕ). IsDriverOwned w i a (sort_of u)) (sym new.0) (subst (λ (i : ℕ). IsDriverOwned w at i (sort_of u)) (sym new.1)
    (subst (λ (s : Structure). IsDriverOwned w at (32 * x.dummy) (sort_of s)) (sym new.2) (a_dummy e x is two.dummy_lent))))
    (λ (before : one n a ≡ Some u).
    ⊎_elim (λ (new : (n ≡ at) × (a ≡ at) × (u ≡ QueueHeadOf q)).
    subst (λ (i : ℕ). IsDriverOwned w i a (sort_of u)) (sym new.0) (subst (λ (i : ℕ). IsDriverOwned w at i (sort_of u)) (sym new.1)
    (subst (λ (s : Structure). IsDriverOwned w at at (sort_of s)) (sym new.2) (a_queue e x is two.queue_lent))))
    (λ (old : parts n a ≡ Some u). owned_on v w owner e x n a (sort_of u) two (k.only n a (sort_of u) (ap (option_map sort_of) old)))
    (put_found parts at at (QueueHeadOf q) n a u before))
    (put_found one at (32 * x.dummy) (ElementOf dummy_qtd) n a u found)

pub driven_two : (v w : Views) (owner : ℕ → Owner) (e : ℕ) (x : EndpointRuns) (parts : StructureSets) (q : Qh) → TwoLent v w owner e x → IsDriven v (sorts_of parts) → IsDriven w (sorts_of (opened_parts parts x q))
driven_two v w owner e x parts q two k =
    let mine = queue_at v owner e x two.owned two.here in
    let end = dummy_at v owner e x two.owned two.here in
    record {
      list =
          other_sort parts x q 0 0 (apart_from v.slot owner 0 x.queue FrameList (QueueHead e) two.owned.list mine (λ s. omega (arith, s)))
          (apart_from v.slot owner 0 x.dummy FrameList (Dummy e) two.owned.list end (λ s. omega (arith, s))) ∙ k.list;
      head =
          other_sort parts x q (32 * head_block) head_block (apart_from v.slot owner head_block x.queue Head (QueueHead e) two.owned.head mine (λ s. omega (arith, s)))
          (apart_from v.slot owner head_block x.dummy Head (Dummy e) two.owned.head end (λ s. omega (arith, s))) ∙ k.head;
      queue = λ f z is lent.
          let was = queue_back v w owner e x f z two is in
          let second = queue_no_dummy v owner f e z x two.owned was two.here in
          ⊎_elim (λ (same : z.queue ≡ x.queue).
          subst (λ (i : ℕ). sorts_of (opened_parts parts x q) (32 * i) (32 * i) ≡ Some OfQueueHead) (sym same) (queue_sort parts x q (queue_no_dummy v owner e e x x two.owned two.here two.here)))
          (λ (first : z.queue ≢ x.queue). other_sort parts x q (32 * z.queue) z.queue first second ∙ k.queue f z was (lent_back v w owner e x z.queue two first second lent)) (cases_eq z.queue x.queue);
      dummy = λ f z is lent.
          let was = queue_back v w owner e x f z two is in
          let first : z.dummy ≢ x.queue = λ s. queue_no_dummy v owner e f x z two.owned two.here was (sym s) in
          ⊎_elim (λ (same : z.dummy ≡ x.dummy).
          subst (λ (r : EndpointRuns). sorts_of (opened_parts parts x q) (32 * r.queue) (32 * r.dummy) ≡ Some OfElement)
          (sym (one_runs v e f x z two.here was (one_dummy v owner e f x z two.owned two.here was same))) (dummy_sort parts x q))
          (λ (second : z.dummy ≢ x.dummy). other_sort parts x q (32 * z.queue) z.dummy first second ∙ k.dummy f z was (lent_back v w owner e x z.dummy two first second lent)) (cases_eq z.dummy x.dummy);
      pieces = λ t y z is.
          let was = transfer_back v w owner e x t y z two is in
          told_on v w owner e x parts q (32 * z.queue) t y.first y.qtds two (two.owned.pieces t y was.here was.held) (k.pieces t y z was);
      only = λ n a s there. by_case n a s (opened_parts parts x q n a) refl there;
    }
  where
    by_case : (n a : ℕ) (s : Sort) (o : Option Structure) → opened_parts parts x q n a ≡ o → option_map sort_of o ≡ Some s → IsDriverOwned w n a s
    by_case n a s None is there = absurd (cc)
    by_case n a s (Some u) is there = subst (IsDriverOwned w n a) (same_Some (sort_of u) s there) (only_on v w owner e x parts q n a u two k is)
