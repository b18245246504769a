-- What is taken for the descriptors of a command has its owners.
use Rattle.std.proofs.Common.{◌≡◌, ◌≢◌, ℕ, zero, suc, ◌+◌, ◌<◌, ◌≤◌, ◌==◌, ◌%◌, Bool, false, List, [], ◌∷◌, ◌++◌, length, take, drop, replicate, get_or, set, slice_get, Option, Some, None, option_map, ap, sym, subst, ◌∙◌, ⊎_elim, refl, arith, length-append, length-take, length-drop}
use Rattle.std.specs.List.{AllByRecursion}
use Rattle.std.proofs.lemmas.Bool.{false≢true}
use Rattle.std.proofs.lemmas.List.{get_or-set_same, get_or-set_other, length-set, get_or-take, get_or-drop}
use Rattle.std.proofs.lemmas.Option.{slice_get_past}
use Rattle.law_common.proofs.Lists.{get_first, drop_first}
use Rattle.law_common.proofs.Numbers.{same_number, other_number}
use Rattle.law_driver.proofs.Common.{blocks_run}
use Rattle.usb_base.specs.declared.endpoints.EpDesc.{EpDesc}
use Rattle.word_mem.specs.Memory.{Mem}
use Rattle.mem_runs.specs.Book.{Book, Holding, holding, Stands, slot_of}
use Rattle.mem_runs.specs.declared.slots.Slot.{Slot}
use Rattle.drv_periodic_table.specs.declared.content.DescriptorNote.{DescriptorNote}
use Rattle.drv_periodic_table.specs.Periodic.{no_descriptor}
use Rattle.drv_table.specs.declared.content.Endpoint.{Endpoint}
use Rattle.drv_table.specs.declared.content.Transfer.{Transfer}
use Rattle.drv_table.specs.declared.content.Slots.{Slots}
use Rattle.drv_table.specs.DriverContent.{DriverContent}
use Rattle.drv_table.specs.Words.{head_block, buffer_needs}
use Rattle.drv_table.specs.Accepting.{Offered, new_runs, first_waiting}
use Rattle.drv_table.specs.IsoOffers.{Descriptors, total_of, slot_runs, descriptor_blocks, iso_needs, descriptor_note, descriptor_transfer, one_descriptor, all_descriptors, entered_iso}
use Rattle.law_driver.specs.run_owners.Accepts.{Describes}
use Rattle.claims_driver.specs.Owners.{Owner, FrameList, Head, QueueHead, Dummy, Element, Described, Buffer, HasBlocks, IsPlaced, EndpointRuns, TransferRuns, runs_of_endpoint, runs_of_transfer, runs_of_descriptor, endpoint_in, transfer_in, note_in, descriptor_in, ArePieces, IsDescribed, Views, views_of, AreOwned, IsOwned}
use Rattle.law_driver.proofs.lemmas.run_owners.Runs.{placed_run, pieces_still, described_still, owned_stays}
use Rattle.law_driver.proofs.lemmas.run_owners.Stays.{same_view}
use Rattle.law_driver.proofs.lemmas.run_owners.Taking.{AreTaken, runs_taken}
use Rattle.law_driver.proofs.lemmas.run_owners.Chains.{few_runs, filled_at}
use Rattle.law_driver.proofs.lemmas.run_owners.Accepted.{push_case, given, given_at, given_not, fresh_differs, still_placed, within_slots}
use Rattle.law_driver.proofs.lemmas.run_owners.Transferred.{one_not}

-- ---- runs that were taken and that nothing tells yet: the spare owner is one of a transfer that there isn't

pub is_spare : ℕ → Owner → Bool
is_spare u (Described split t) = t == u
is_spare u _ = false

-- what isn't spare goes on standing
pub record MovesOn (v w : Views) (owner mine : ℕ → Owner) (u : ℕ) : Type 0 where
  pub placed : (c : ℕ) (o : Owner) → is_spare u o ≡ false → IsPlaced v.slot owner c o → IsPlaced w.slot mine c o
  pub endpoints : (e : ℕ) → w.endpoint e ≡ v.endpoint e
  pub notes : (c : ℕ) → w.note c ≡ v.note c
  pub buffers : (split : Bool) (t c : ℕ) → t ≢ u → IsPlaced v.slot owner c (Described split t) → w.descriptor c ≡ v.descriptor c

moved_pieces : (v w : Views) (owner mine : ℕ → Owner) (u t : ℕ) (y : TransferRuns) → MovesOn v w owner mine u → ArePieces v.slot owner v.note t y.first y.qtds → ArePieces w.slot mine w.note t y.first y.qtds
unfolding is_spare
moved_pieces v w owner mine u t y moves old =
    pieces_still v.slot w.slot owner mine v.note w.note t y.first y.qtds (λ c p. moves.placed c (Element t) refl p) (λ c p. moves.placed c (Buffer t) refl p) (λ c p. moves.notes c) old

moved_descriptor : (v w : Views) (owner mine : ℕ → Owner) (u t : ℕ) (y : TransferRuns) → t ≢ u → MovesOn v w owner mine u → IsDescribed v.slot owner (v.descriptor y.first) t y.first → IsDescribed w.slot mine (w.descriptor y.first) t y.first
unfolding is_spare
moved_descriptor v w owner mine u t y differs moves old =
    described_still v.slot w.slot owner mine (v.descriptor y.first) (w.descriptor y.first) t y.first
    (λ c p. moves.placed c (Described (v.descriptor y.first).split t) (other_number t u differs) p) (λ c p. moves.placed c (Buffer t) refl p) (λ p. moves.buffers (v.descriptor y.first).split t y.first differs p) old

-- with the same transfers
moved_owned : (v w : Views) (owner mine : ℕ → Owner) (u : ℕ) → MovesOn v w owner mine u → ((t : ℕ) → w.transfer t ≡ v.transfer t) → ((t : ℕ) (y : TransferRuns) → v.transfer t ≡ Some y → t ≢ u) → AreOwned v owner → AreOwned w mine
unfolding is_spare
moved_owned v w owner mine u moves transfers differ old = record {
  list = moves.placed 0 FrameList refl old.list;
  head = moves.placed head_block Head refl old.head;
  queue = λ e x there on. moves.placed x.queue (QueueHead e) refl (old.queue e x (sym (moves.endpoints e) ∙ there) on);
  dummy = λ e x there on. moves.placed x.dummy (Dummy e) refl (old.dummy e x (sym (moves.endpoints e) ∙ there) on);
  pieces = λ t y there on. moved_pieces v w owner mine u t y moves (old.pieces t y (sym (transfers t) ∙ there) on);
  described = λ t y there iso on.
      let was = sym (transfers t) ∙ there in
      moved_descriptor v w owner mine u t y (differ t y was) moves (old.described t y was iso on);
}

-- ---- one descriptor

-- what stands before the descriptors that are still to be taken on: their runs are rs, which are spare
pub record AreReady (v : Views) (owner : ℕ → Owner) (u : ℕ) (ns rs : List ℕ) (notes : List DescriptorNote) (transfers : List Transfer) : Type 0 where
  pub each : AreOwned (record v { transfer = transfer_in transfers; descriptor = descriptor_in notes }) owner
  pub spare : (i : ℕ) → i < length rs → owner (get_or rs i 0) ≡ Described false u
  pub distinct : (i j : ℕ) → i < j → j < length rs → get_or rs j 0 ≢ get_or rs i 0
  pub long : length rs ≡ length ns
  pub runs : (i : ℕ) → i < length rs → HasBlocks (get_or ns i 0) (v.slot (get_or rs i 0))
  pub within : (i : ℕ) → i < length rs → get_or rs i 0 < length notes

next_needs : (n i : ℕ) (ns ms : List ℕ) → length ns ≡ n → get_or (ns ++ ms) (n + i) 0 ≡ get_or ms i 0
next_needs zero i [] ms long = let e : 0 + i ≡ i = omega arith in ap (λ k. get_or ms k 0) e
next_needs zero i (k ∷ ns) ms long = absurd (omega (arith, long))
next_needs (suc n) i [] ms long = absurd (omega (arith, long))
next_needs (suc n) i (k ∷ ns) ms long = let e : suc n + i ≡ suc (n + i) = omega arith in ap (λ j. get_or (k ∷ (ns ++ ms)) j 0) e ∙ next_needs n i ns ms (omega (arith, long))

-- a spare block is no block of what is told
not_spare : (owner : ℕ → Owner) (u c r : ℕ) (o : Owner) → is_spare u o ≡ false → owner c ≡ o → owner r ≡ Described false u → r ≢ c
unfolding is_spare
not_spare owner u c r o off is spare same =
    false≢true (sym off ∙ ap (is_spare u) (sym is) ∙ ap (λ k. is_spare u (owner k)) (sym same) ∙ ap (is_spare u) spare ∙ same_number u)

abbrev first_runs : Slots → List ℕ → List ℕ
first_runs s rs = take (slot_runs s) (drop 1 rs)

abbrev next_owner : (ℕ → Owner) → Slots → ℕ → List ℕ → ℕ → Owner
next_owner owner s t rs = given (get_or rs 0 0 ∷ []) (Described s.split t) (given (first_runs s rs) (Buffer t) owner)

-- the runs of the first descriptor, by place
pub record AreFirst (v : Views) (owner : ℕ → Owner) (u t : ℕ) (s : Slots) (rs : List ℕ) : Type 0 where
  pub other : (c : ℕ) → ((i : ℕ) → i < suc (slot_runs s) → get_or rs i 0 ≢ c) → next_owner owner s t rs c ≡ owner c
  pub descriptor : next_owner owner s t rs (get_or rs 0 0) ≡ Described s.split t
  pub buffers : (i : ℕ) → i < slot_runs s → next_owner owner s t rs (get_or rs (suc i) 0) ≡ Buffer t

first_at : (s : Slots) (rs : List ℕ) (i : ℕ) → i < slot_runs s → get_or (first_runs s rs) i 0 ≡ get_or rs (suc i) 0
first_at s rs i below = get_or-take (slot_runs s) (drop 1 rs) i 0 below ∙ get_first rs i

are_first : (v : Views) (owner : ℕ → Owner) (u t n : ℕ) (s : Slots) (rs : List ℕ) (notes : List DescriptorNote) (ts : List Transfer) → AreReady v owner u (iso_needs s (suc n)) rs notes ts → AreFirst v owner u t s rs
are_first v owner u t n s rs notes ts ready = record {
  other = λ c differs.
      given_not (get_or rs 0 0 ∷ []) (Described s.split t) (given (first_runs s rs) (Buffer t) owner) c (one_not (get_or rs 0 0) c (differs 0 (omega arith)))
      ∙ given_not (first_runs s rs) (Buffer t) owner c (λ i below same. differs (suc i) (omega (arith, below, many)) (sym (first_at s rs i (omega (arith, below, many))) ∙ same));
  descriptor = given_at (get_or rs 0 0 ∷ []) (Described s.split t) (given (first_runs s rs) (Buffer t) owner) 0 (omega arith);
  buffers = λ i below.
      given_not (get_or rs 0 0 ∷ []) (Described s.split t) (given (first_runs s rs) (Buffer t) owner) (get_or rs (suc i) 0)
      (one_not (get_or rs 0 0) (get_or rs (suc i) 0) (λ same. ready.distinct 0 (suc i) (omega arith) (omega (arith, below, enough)) (sym same)))
      ∙ ap (given (first_runs s rs) (Buffer t) owner) (sym (first_at s rs i below)) ∙ given_at (first_runs s rs) (Buffer t) owner i (omega (arith, below, many));
}
  where
    enough : length rs ≡ suc (slot_runs s + length (iso_needs s n))
    enough = let a = length-append (buffer_needs (total_of s)) (iso_needs s n) in omega (arith, ready.long, a)

    many : length (first_runs s rs) ≡ slot_runs s
    many = omega (arith, length-take (slot_runs s) (drop 1 rs), length-drop 1 rs, enough)

one_ready : (v : Views) (owner : ℕ → Owner) (u n seed : ℕ) (k : Book) (e : ℕ) (x : EpDesc) (s : Slots) (rs : List ℕ) (a : Descriptors) → total_of s ≤ 24576 → length a.transfers < u → AreReady v owner u (iso_needs s (suc n)) rs a.notes a.transfers
    → AreReady v (next_owner owner s (length a.transfers) rs) u (iso_needs s n) (drop (suc (slot_runs s)) rs) (one_descriptor k e x s seed rs a).notes (one_descriptor k e x s seed rs a).transfers
unfolding is_spare
one_ready v owner u n seed k e x s rs a short below ready =
    let t = length a.transfers in
    let b = get_or rs 0 0 in
    let r = slot_runs s in
    let note = descriptor_note s (drop 1 rs) in
    let mine = next_owner owner s t rs in
    let first = are_first v owner u t n s rs a.notes a.transfers ready in
    let enough : length rs ≡ suc (r + length (iso_needs s n)) = let p = length-append (buffer_needs (total_of s)) (iso_needs s n) in omega (arith, ready.long, p) in
    let v0 : Views = record v { transfer = transfer_in a.transfers; descriptor = descriptor_in a.notes } in
    let v1 : Views = record v { transfer = transfer_in a.transfers; descriptor = descriptor_in (set a.notes b note) } in
    let kept : (c : ℕ) (o : Owner) → is_spare u o ≡ false → IsPlaced v.slot owner c o → IsPlaced v.slot mine c o = λ c o off p.
    record { owned = first.other c (λ i less. not_spare owner u c (get_or rs i 0) o off p.owned (ready.spare i (omega (arith, less, enough)))) ∙ p.owned; run = p.run } in
    let moves : MovesOn v0 v1 owner mine u = record {
      placed = kept;
      endpoints = λ i. refl;
      notes = λ c. refl;
      buffers = λ split i c differs p. ap runs_of_descriptor (get_or-set_other a.notes b c note no_descriptor (λ same. not_spare owner u c b (Described split i) (other_number i u differs) p.owned (ready.spare 0 (omega (arith, enough))) (sym same)));
    } in
    let old = moved_owned v0 v1 owner mine u moves (λ i. refl) known ready.each in
    let new : IsDescribed v.slot mine (descriptor_in (set a.notes b note) b) t b =
    subst (λ (q : DescriptorNote). IsDescribed v.slot mine (runs_of_descriptor q) t b) (sym (get_or-set_same a.notes b note no_descriptor (ready.within 0 (omega (arith, enough)))))
    (record { descriptor = record { owned = first.descriptor; run = ready.runs 0 (omega (arith, enough)) }; buffers = filled_runs mine first.buffers enough }) in
    record {
      each = record {
        list = old.list;
        head = old.head;
        queue = old.queue;
        dummy = old.dummy;
        pieces = λ i y there on.
            ⊎_elim (λ (w : transfer_in a.transfers i ≡ Some y). old.pieces i y w on)
            (λ (w : (i ≡ t) × (y ≡ runs_of_transfer (descriptor_transfer e s b))).
            subst (λ (q : TransferRuns). ArePieces v.slot mine v.note i q.first q.qtds) (sym w.1) tt)
            (push_case runs_of_transfer a.transfers (descriptor_transfer e s b) i y there);
        described = λ i y there iso on.
            ⊎_elim (λ (w : transfer_in a.transfers i ≡ Some y). old.described i y w iso on)
            (λ (w : (i ≡ t) × (y ≡ runs_of_transfer (descriptor_transfer e s b))).
            subst (λ j. IsDescribed v.slot mine (descriptor_in (set a.notes b note) y.first) j y.first) (sym w.0)
            (subst (λ (q : TransferRuns). IsDescribed v.slot mine (descriptor_in (set a.notes b note) q.first) t q.first) (sym w.1) new))
            (push_case runs_of_transfer a.transfers (descriptor_transfer e s b) i y there);
      };
      spare = λ i less.
          let at = get_or-drop (suc r) rs i 0 in
          let many = length-drop (suc r) rs in
          ap mine at
          ∙ first.other (get_or rs (suc r + i) 0) (λ j few same. ready.distinct j (suc r + i) (omega (arith, few)) (omega (arith, less, many, enough)) (sym same))
          ∙ ready.spare (suc r + i) (omega (arith, less, many, enough));
      distinct = λ i j less few same.
          let many = length-drop (suc r) rs in
          ready.distinct (suc r + i) (suc r + j) (omega (arith, less)) (omega (arith, few, many, enough)) (sym (get_or-drop (suc r) rs j 0) ∙ same ∙ get_or-drop (suc r) rs i 0);
      long = omega (arith, length-drop (suc r) rs, enough);
      runs = λ i less.
          let many = length-drop (suc r) rs in
          subst (λ c. HasBlocks (get_or (iso_needs s n) i 0) (v.slot c)) (sym (get_or-drop (suc r) rs i 0))
          (subst (λ m. HasBlocks m (v.slot (get_or rs (suc r + i) 0))) (next_needs (suc r) i (descriptor_blocks s ∷ buffer_needs (total_of s)) (iso_needs s n) refl)
          (ready.runs (suc r + i) (omega (arith, less, many, enough))));
      within = λ i less.
          let many = length-drop (suc r) rs in
          let at = get_or-drop (suc r) rs i 0 in
          let n = length-set a.notes b note in
          let w = ready.within (suc r + i) (omega (arith, less, many, enough)) in
          omega (arith, at, n, w);
    }
  where
    known : (i : ℕ) (y : TransferRuns) → transfer_in a.transfers i ≡ Some y → i ≢ u
    known i y there same =
        let past = slice_get_past a.transfers i (omega (arith, below, same)) in
        let none : transfer_in a.transfers i ≡ None = ap (option_map runs_of_transfer) past in
        let no : None ≡ Some y = sym none ∙ there in
        absurd (cc)

    filled_runs : (mine : ℕ → Owner) → ((i : ℕ) → i < slot_runs s → mine (get_or rs (suc i) 0) ≡ Buffer (length a.transfers)) → length rs ≡ suc (slot_runs s + length (iso_needs s n)) → AllByRecursion (λ c. IsPlaced v.slot mine c (Buffer (length a.transfers))) (runs_of_descriptor (descriptor_note s (drop 1 rs))).buffer
    filled_runs mine buffers enough =
        filled_at (λ c. IsPlaced v.slot mine c (Buffer (length a.transfers))) (slot_runs s) 6 (drop 1 rs) (replicate 6 0) (few_runs 6 (total_of s) short (omega arith)) (omega (arith, length-drop 1 rs, enough))
        (λ i less.
        subst (λ c. IsPlaced v.slot mine c (Buffer (length a.transfers))) (sym (get_first rs i))
        (record { owned = buffers i less; run = blocks_run (get_or (iso_needs s (suc n)) (suc i) 0) (v.slot (get_or rs (suc i) 0)) (ready.runs (suc i) (omega (arith, less, enough))) }))

-- ---- all of them

all_ready : (v : Views) (owner : ℕ → Owner) (u n seed : ℕ) (k : Book) (e : ℕ) (x : EpDesc) (s : Slots) (rs : List ℕ) (a : Descriptors) → total_of s ≤ 24576 → length a.transfers + n ≤ u → AreReady v owner u (iso_needs s n) rs a.notes a.transfers
    → (mine : ℕ → Owner) × AreOwned (record v { transfer = transfer_in (all_descriptors k e x s n seed rs a).transfers; descriptor = descriptor_in (all_descriptors k e x s n seed rs a).notes }) mine
unfolding all_descriptors
all_ready v owner u zero seed k e x s rs a short below ready = (owner, ready.each)
all_ready v owner u (suc n) seed k e x s rs a short below ready =
    let next = one_descriptor k e x s seed rs a in
    let many = length-append a.transfers (descriptor_transfer e s (get_or rs 0 0) ∷ []) in
    all_ready v (next_owner owner s (length a.transfers) rs) u n ((seed + total_of s) % 256) k e x s (drop (suc (slot_runs s)) rs) next short (omega (arith, many, below))
    (one_ready v owner u n seed k e x s rs a short (omega (arith, below)) ready)

all_noted : (n seed : ℕ) (k : Book) (e : ℕ) (x : EpDesc) (s : Slots) (rs : List ℕ) (a : Descriptors) → length (all_descriptors k e x s n seed rs a).notes ≡ length a.notes
unfolding all_descriptors
all_noted zero seed k e x s rs a = refl
all_noted (suc n) seed k e x s rs a =
    all_noted n ((seed + total_of s) % 256) k e x s (drop (suc (slot_runs s)) rs) (one_descriptor k e x s seed rs a) ∙ length-set a.notes (get_or rs 0 0) (descriptor_note s (drop 1 rs))

-- what stood goes on standing where all new runs are spare
spare_ready : {h g : Holding} {ns bs : List ℕ} (d : DriverContent) (owner : ℕ → Owner) (u : ℕ) → AreTaken h g ns bs → h.book.slots ≡ d.book.slots → IsOwned d owner → AreReady (record (views_of d) { slot = slot_of g.book.slots }) (given bs (Described false u) owner) u ns bs d.periodic.notes d.transfers
spare_ready {h = h} {g = g} {ns = ns} {bs = bs} d owner u taken slots old =
    let each = subst (λ (ss : List Slot). AreOwned (record (views_of d) { slot = slot_of ss }) owner) (sym slots) old.each in
    let mine = given bs (Described false u) owner in
    let kept : (c : ℕ) (o : Owner) → IsPlaced (slot_of h.book.slots) owner c o → IsPlaced (slot_of g.book.slots) mine c o = λ c o p.
    still_placed owner mine c o taken (given_not bs (Described false u) owner c (λ i below. fresh_differs i c taken below (placed_run c o p))) p in
    record {
      each = record {
        list = kept 0 FrameList each.list;
        head = kept head_block Head each.head;
        queue = λ e x there on. kept x.queue (QueueHead e) (each.queue e x there on);
        dummy = λ e x there on. kept x.dummy (Dummy e) (each.dummy e x there on);
        pieces = λ t y there on.
            pieces_still (slot_of h.book.slots) (slot_of g.book.slots) owner mine (note_in d.notes) (note_in d.notes) t y.first y.qtds (λ c p. kept c (Element t) p) (λ c p. kept c (Buffer t) p) (λ c p. refl) (each.pieces t y there on);
        described = λ t y there iso on.
            described_still (slot_of h.book.slots) (slot_of g.book.slots) owner mine (descriptor_in d.periodic.notes y.first) (descriptor_in d.periodic.notes y.first) t y.first (λ c p. kept c (Described (descriptor_in d.periodic.notes y.first).split t) p) (λ c p. kept c (Buffer t) p) (λ p. refl) (each.described t y there iso on);
      };
      spare = λ i below. given_at bs (Described false u) owner i below;
      distinct = taken.distinct;
      long = taken.long;
      runs = taken.new;
      within = λ i below.
          let w = within_slots (get_or bs i 0) taken (blocks_run (get_or ns i 0) (slot_of g.book.slots (get_or bs i 0)) (taken.new i below)) in
          let s = ap length slots in
          omega (arith, w, taken.many, old.as_many, s);
    }

-- only the views that differ: the endpoint has another next transfer
with_next : (v : Views) (owner : ℕ → Owner) (xs : List Endpoint) (e : ℕ) (x y : Endpoint) → slice_get xs e ≡ Some x → runs_of_endpoint y ≡ runs_of_endpoint x → v.endpoint ≡ endpoint_in xs → AreOwned v owner → AreOwned (record v { endpoint = endpoint_in (set xs e y) }) owner
with_next v owner xs e x y here same is old =
    owned_stays v (record v { endpoint = endpoint_in (set xs e y) }) owner
    (record {
      runs = λ c o run. run;
      endpoints = λ i. same_view runs_of_endpoint xs e x y here same i ∙ ap (λ (f : ℕ → Option EndpointRuns). f i) (sym is);
      transfers = λ i. refl;
      notes = λ c. refl;
      buffers = λ c. refl;
    }) old

pub describe_owned : (d : DriverContent) (m : Mem) (owner : ℕ → Owner) (o : Offered) → Stands (holding d.book m) → Describes d m o → IsOwned d owner → (mine : ℕ → Owner) × IsOwned o.driver mine
describe_owned d m owner o stands why old =
    let ns = iso_needs why.slots why.count in
    let h = why.holding_after in
    let all = runs_taken (holding d.book m) h ns stands why.runs in
    let bs = all.blocks in
    let u = length d.transfers + why.count in
    let a : Descriptors = record { notes = d.periodic.notes; transfers = d.transfers; memory = h.memory } in
    let new : new_runs d h ≡ bs = ap (drop (length d.book.taken)) all.are.taken ∙ drop_first d.book.taken bs in
    let x = why.endpoint in
    let y : Endpoint = record x { next = first_waiting x.next (length d.transfers) } in
    let v : Views = record (views_of d) { slot = slot_of h.book.slots } in
    let r = all_ready v (given bs (Described false u) owner) u why.count why.seed h.book why.number x.desc why.slots bs a why.short (omega arith) (spare_ready d owner u all.are refl old) in
    let e = all_descriptors h.book why.number x.desc why.slots why.count why.seed bs a in
    let n = all_noted why.count why.seed h.book why.number x.desc why.slots bs a in
    let now : IsOwned (entered_iso d why.number x why.count (total_of why.slots) h.book e).driver r.0 = record {
      each = with_next (record v { transfer = transfer_in e.transfers; descriptor = descriptor_in e.notes }) r.0 d.endpoints why.number x y why.here refl refl r.1;
      sizes = old.sizes ∙ sym all.are.many;
      as_many = n ∙ (old.as_many ∙ sym all.are.many);
    } in (
      r.0,
      subst (λ (f : Offered). IsOwned f.driver r.0) (sym why.is)
          (subst (λ (rs : List ℕ). IsOwned (entered_iso d why.number x why.count (total_of why.slots) h.book (all_descriptors h.book why.number x.desc why.slots why.count why.seed rs a)).driver r.0) (sym new) now),
    )
