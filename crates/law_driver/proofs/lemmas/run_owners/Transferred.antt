-- What is taken for a transfer has its owners: the old inactive qTD becomes the first qTD, and the last new one is inactive.
use Rattle.std.proofs.Common.{◌≡◌, ◌≢◌, ℕ, zero, suc, ◌+◌, ◌-◌, ◌<◌, ◌≤◌, Bool, true, false, ◌||◌, List, [], ◌∷◌, ◌++◌, length, take, drop, replicate, get_or, set, slice_get, Some, None, option_map, ap, sym, subst, ◌∙◌, ⊎_elim, refl, arith, length-append, length-take, length-drop}
use Rattle.std.specs.Prelude.{is_some}
use Rattle.std.specs.List.{AllByRecursion}
use Rattle.std.proofs.lemmas.Bool.{cases_Bool, false≢true}
use Rattle.std.proofs.lemmas.List.{length-replicate, get_or-take, get_or-drop}
use Rattle.law_driver.proofs.Common.{get_case}
use Rattle.law_common.proofs.Lists.{all_at, drop_first}
use Rattle.law_driver.proofs.Common.{blocks_run}
use Rattle.word_mem.specs.Memory.{Mem}
use Rattle.mem_runs.specs.Book.{Holding, holding, Stands, slot_of}
use Rattle.mem_runs.specs.declared.slots.Slot.{Slot}
use Rattle.drv_table.specs.declared.content.Endpoint.{Endpoint}
use Rattle.drv_table.specs.declared.content.Stage.{Stage}
use Rattle.drv_table.specs.DriverContent.{DriverContent}
use Rattle.drv_table.specs.Words.{head_block, needs}
use Rattle.drv_table.specs.Accepting.{Offered, new_runs}
use Rattle.drv_table.specs.Offers.{Asked, note_stages, accepted_transfer, with_queued, new_transfer}
use Rattle.law_driver.specs.run_owners.Accepts.{AreShort, Transfers}
use Rattle.drv_table.specs.Kinds.{is_iso}
use Rattle.claims_driver.specs.Leaving.{IsSteady, IsOrderly}
use Rattle.claims_driver.specs.Owners.{Owner, FrameList, Head, QueueHead, Dummy, Element, Described, Buffer, HasBlocks, HasRun, IsPlaced, EndpointRuns, TransferRuns, is_descriptor, runs_of_endpoint, runs_of_transfer, runs_of_note, endpoint_in, transfer_in, note_in, descriptor_in, ArePieces, Views, views_of, AreOwned, IsOwned}
use Rattle.law_driver.proofs.lemmas.run_owners.Runs.{placed_run, pieces_still, described_still}
use Rattle.law_driver.proofs.lemmas.run_owners.Taking.{AreTaken, runs_taken}
use Rattle.law_driver.proofs.lemmas.run_owners.Chains.{buffers_of, notes_apart, notes_many, pieces_noted}
use Rattle.law_driver.proofs.lemmas.run_owners.Accepted.{push_case, given, given_at, given_not, fresh_differs, still_placed, within_slots}

-- ---- owners differ

number_of : Owner → ℕ
number_of (QueueHead e) = e
number_of (Dummy e) = e
number_of (Element t) = t
number_of (Described split t) = t
number_of (Buffer t) = t
number_of _ = 0

is_dummy : Owner → Bool
is_dummy (Dummy e) = true
is_dummy _ = false

-- a block of an owner that isn't this endpoint's inactive qTD is another block
not_dummy : {slot : ℕ → Slot} {owner : ℕ → Owner} (b c e : ℕ) (o : Owner) → IsPlaced slot owner b (Dummy e) → is_dummy o ≡ false → IsPlaced slot owner c o → c ≢ b
unfolding is_dummy
not_dummy {owner = owner} b c e o dummy not p same =
    false≢true (sym not ∙ sym (ap is_dummy p.owned) ∙ ap (λ k. is_dummy (owner k)) same ∙ ap is_dummy dummy.owned)

other_dummy : {slot : ℕ → Slot} {owner : ℕ → Owner} (b c e i : ℕ) → IsPlaced slot owner b (Dummy e) → i ≢ e → IsPlaced slot owner c (Dummy i) → c ≢ b
unfolding number_of
other_dummy {owner = owner} b c e i dummy differs p same =
    differs (sym (ap number_of p.owned) ∙ ap (λ k. number_of (owner k)) same ∙ ap number_of dummy.owned)

-- ---- the new runs

first_ones : (n i : ℕ) (ys : List ℕ) → i < n → get_or (replicate n 1 ++ ys) i 0 ≡ 1
first_ones zero i ys below = absurd (omega arith)
first_ones (suc n) zero ys below = refl
first_ones (suc n) (suc i) ys below = first_ones n i ys (omega arith)

-- what the new runs are: `b` is the old inactive qTD, and n the number of new ones
pub record AreNew (slot now : ℕ → Slot) (owner mine : ℕ → Owner) (b e t n : ℕ) (qtds runs : List ℕ) : Type 0 where
  pub kept : (c : ℕ) (o : Owner) → c ≢ b → IsPlaced slot owner c o → IsPlaced now mine c o
  pub elements : (i : ℕ) → i < n → IsPlaced now mine (get_or (b ∷ qtds) i 0) (Element t)
  pub dummy : IsPlaced now mine (get_or qtds (n - 1) 0) (Dummy e)
  pub buffers : AllByRecursion (λ c. IsPlaced now mine c (Buffer t)) runs
  pub distinct : (i j : ℕ) → i < j → j < n → get_or (b ∷ qtds) j 0 ≢ get_or (b ∷ qtds) i 0
  pub apart : (c : ℕ) → HasRun (slot c) → c ≢ b → (i : ℕ) → i < n → get_or (b ∷ qtds) i 0 ≢ c

pub new_owners : (owner : ℕ → Owner) (b e t : ℕ) (dummy : ℕ) (qtds runs : List ℕ) → ℕ → Owner
new_owners owner b e t dummy qtds runs = given (dummy ∷ []) (Dummy e) (given (b ∷ qtds) (Element t) (given runs (Buffer t) owner))

pub one_not : (b c : ℕ) → b ≢ c → (i : ℕ) → i < length (b ∷ []) → get_or (b ∷ []) i 0 ≢ c
one_not b c differs zero below = differs
one_not b c differs (suc i) below = absurd (omega arith)

first_not : (b c : ℕ) (qs : List ℕ) → b ≢ c → ((i : ℕ) → i < length qs → get_or qs i 0 ≢ c) → (i : ℕ) → i < length (b ∷ qs) → get_or (b ∷ qs) i 0 ≢ c
first_not b c qs differs each zero below = differs
first_not b c qs differs each (suc i) below = each i (omega arith)

-- the owners of all but the three kinds of new blocks
new_other : (owner : ℕ → Owner) (b e t dummy : ℕ) (qtds runs : List ℕ) (c : ℕ) → dummy ≢ c → b ≢ c → ((i : ℕ) → i < length qtds → get_or qtds i 0 ≢ c) → ((i : ℕ) → i < length runs → get_or runs i 0 ≢ c) → new_owners owner b e t dummy qtds runs c ≡ owner c
unfolding new_owners
new_other owner b e t dummy qtds runs c last first each rest =
    given_not (dummy ∷ []) (Dummy e) (given (b ∷ qtds) (Element t) (given runs (Buffer t) owner)) c (one_not dummy c last)
    ∙ given_not (b ∷ qtds) (Element t) (given runs (Buffer t) owner) c (first_not b c qtds first each)
    ∙ given_not runs (Buffer t) owner c rest

new_dummy : (owner : ℕ → Owner) (b e t dummy : ℕ) (qtds runs : List ℕ) → new_owners owner b e t dummy qtds runs dummy ≡ Dummy e
unfolding new_owners
new_dummy owner b e t dummy qtds runs = given_at (dummy ∷ []) (Dummy e) (given (b ∷ qtds) (Element t) (given runs (Buffer t) owner)) 0 (omega arith)

new_element : (owner : ℕ → Owner) (b e t dummy : ℕ) (qtds runs : List ℕ) (i : ℕ) → i < length (b ∷ qtds) → dummy ≢ get_or (b ∷ qtds) i 0 → new_owners owner b e t dummy qtds runs (get_or (b ∷ qtds) i 0) ≡ Element t
unfolding new_owners
new_element owner b e t dummy qtds runs i below differs =
    given_not (dummy ∷ []) (Dummy e) (given (b ∷ qtds) (Element t) (given runs (Buffer t) owner)) (get_or (b ∷ qtds) i 0) (one_not dummy (get_or (b ∷ qtds) i 0) differs)
    ∙ given_at (b ∷ qtds) (Element t) (given runs (Buffer t) owner) i below

new_buffer : (owner : ℕ → Owner) (b e t dummy : ℕ) (qtds runs : List ℕ) (i : ℕ) → i < length runs → dummy ≢ get_or runs i 0 → b ≢ get_or runs i 0 → ((j : ℕ) → j < length qtds → get_or qtds j 0 ≢ get_or runs i 0) → new_owners owner b e t dummy qtds runs (get_or runs i 0) ≡ Buffer t
unfolding new_owners
new_buffer owner b e t dummy qtds runs i below last first each =
    let c = get_or runs i 0 in
    given_not (dummy ∷ []) (Dummy e) (given (b ∷ qtds) (Element t) (given runs (Buffer t) owner)) c (one_not dummy c last)
    ∙ given_not (b ∷ qtds) (Element t) (given runs (Buffer t) owner) c (first_not b c qtds first each)
    ∙ given_at runs (Buffer t) owner i below

pub are_new : {h g : Holding} {bs : List ℕ} (ss : List Stage) (owner : ℕ → Owner) (b e t : ℕ) → 1 ≤ length ss → AreTaken h g (needs ss) bs → IsPlaced (slot_of h.book.slots) owner b (Dummy e) → AreNew (slot_of h.book.slots) (slot_of g.book.slots) owner (new_owners owner b e t (get_or (take (length ss) bs) (length ss - 1) 0) (take (length ss) bs) (drop (length ss) bs)) b e t (length ss) (take (length ss) bs) (drop (length ss) bs)
are_new {h = h} {g = g} {bs = bs} ss owner b e t some taken was =
    let n = length ss in
    let qtds = take n bs in
    let runs = drop n bs in
    let dummy = get_or qtds (n - 1) 0 in
    let mine = new_owners owner b e t dummy qtds runs in
    let long : length bs ≡ n + length (buffers_of ss) = taken.long ∙ length-append (replicate n 1) (buffers_of ss) ∙ ap (λ k. k + length (buffers_of ss)) (length-replicate n 1) in
    let many : length qtds ≡ n = omega (arith, length-take n bs, long) in
    let rest : length runs + n ≡ length bs = omega (arith, length-drop n bs, long) in
    let qtd : (i : ℕ) → i < n → get_or qtds i 0 ≡ get_or bs i 0 = λ i below. get_or-take n bs i 0 below in
    let run : (i : ℕ) → get_or runs i 0 ≡ get_or bs (n + i) 0 = λ i. get_or-drop n bs i 0 in
    let was_run = placed_run b (Dummy e) was in
    let not_qtd : (c : ℕ) → HasRun (slot_of h.book.slots c) → (i : ℕ) → i < n → get_or qtds i 0 ≢ c = λ c has i below same. fresh_differs i c taken (omega (arith, below, long)) has (sym (qtd i below) ∙ same) in
    let not_run : (c : ℕ) → HasRun (slot_of h.book.slots c) → (i : ℕ) → i < length runs → get_or runs i 0 ≢ c = λ c has i below same. fresh_differs (n + i) c taken (omega (arith, below, rest)) has (sym (run i) ∙ same) in
    let last : n - 1 < n = omega (arith, some) in
    record {
      kept = λ c o differs p.
          let has = placed_run c o p in
          still_placed owner mine c o taken
          (new_other owner b e t dummy qtds runs c (not_qtd c has (n - 1) last) (λ same. differs (sym same)) (λ i below. not_qtd c has i (omega (arith, below, many))) (not_run c has)) p;
      elements = elements;
      dummy = record {
        owned = new_dummy owner b e t dummy qtds runs;
        run = subst (λ c. HasBlocks 1 (slot_of g.book.slots c)) (sym (qtd (n - 1) last))
            (subst (λ k. HasBlocks k (slot_of g.book.slots (get_or bs (n - 1) 0))) (first_ones n (n - 1) (buffers_of ss) last) (taken.new (n - 1) (omega (arith, last, long))));
      };
      buffers = all_at (λ c. IsPlaced (slot_of g.book.slots) mine c (Buffer t)) runs
          (λ i below. record {
            owned = new_buffer owner b e t dummy qtds runs i below
                (λ same. taken.distinct (n - 1) (n + i) (omega (arith, some)) (omega (arith, below, rest)) (sym (run i) ∙ sym same ∙ qtd (n - 1) last))
                (λ same. fresh_differs (n + i) b taken (omega (arith, below, rest)) was_run (sym (run i) ∙ sym same))
                (λ j less same. taken.distinct j (n + i) (omega (arith, less, many)) (omega (arith, below, rest)) (sym (run i) ∙ sym same ∙ qtd j (omega (arith, less, many))));
            run = subst (λ c. HasRun (slot_of g.book.slots c)) (sym (run i)) (blocks_run (get_or (needs ss) (n + i) 0) (slot_of g.book.slots (get_or bs (n + i) 0)) (taken.new (n + i) (omega (arith, below, rest))));
          });
      distinct = distinct;
      apart = λ c has differs. apart c has differs;
    }
  where
    long : length bs ≡ length ss + length (buffers_of ss)
    long = taken.long ∙ length-append (replicate (length ss) 1) (buffers_of ss) ∙ ap (λ k. k + length (buffers_of ss)) (length-replicate (length ss) 1)

    elements : (i : ℕ) → i < length ss → IsPlaced (slot_of g.book.slots) (new_owners owner b e t (get_or (take (length ss) bs) (length ss - 1) 0) (take (length ss) bs) (drop (length ss) bs)) (get_or (b ∷ take (length ss) bs) i 0) (Element t)
    elements zero below = record {
      owned = new_element owner b e t (get_or (take (length ss) bs) (length ss - 1) 0) (take (length ss) bs) (drop (length ss) bs) 0 (omega arith)
          (λ same. fresh_differs (length ss - 1) b taken (omega (arith, some, long)) (placed_run b (Dummy e) was) (sym (get_or-take (length ss) bs (length ss - 1) 0 (omega (arith, some))) ∙ same));
      run = subst (λ (s : Slot). HasBlocks 1 s) (sym (taken.old b (placed_run b (Dummy e) was))) was.run;
    }
    elements (suc i) below = record {
      owned = new_element owner b e t (get_or (take (length ss) bs) (length ss - 1) 0) (take (length ss) bs) (drop (length ss) bs) (suc i) (omega (arith, below, long, length-take (length ss) bs))
          (λ same. taken.distinct i (length ss - 1) (omega (arith, below)) (omega (arith, some, long))
          (sym (get_or-take (length ss) bs (length ss - 1) 0 (omega (arith, some))) ∙ same ∙ get_or-take (length ss) bs i 0 (omega (arith, below))));
      run = subst (λ c. HasBlocks 1 (slot_of g.book.slots c)) (sym (get_or-take (length ss) bs i 0 (omega (arith, below))))
          (subst (λ k. HasBlocks k (slot_of g.book.slots (get_or bs i 0))) (first_ones (length ss) i (buffers_of ss) (omega (arith, below))) (taken.new i (omega (arith, below, long))));
    }

    distinct : (i j : ℕ) → i < j → j < length ss → get_or (b ∷ take (length ss) bs) j 0 ≢ get_or (b ∷ take (length ss) bs) i 0
    distinct i zero less below = λ same. absurd (omega arith)
    distinct zero (suc j) less below = λ same.
        fresh_differs j b taken (omega (arith, below, long)) (placed_run b (Dummy e) was) (sym (get_or-take (length ss) bs j 0 (omega (arith, below))) ∙ same)
    distinct (suc i) (suc j) less below = λ same.
        taken.distinct i j (omega arith) (omega (arith, below, long)) (sym (get_or-take (length ss) bs j 0 (omega (arith, below))) ∙ same ∙ get_or-take (length ss) bs i 0 (omega (arith, below, less)))

    apart : (c : ℕ) → HasRun (slot_of h.book.slots c) → c ≢ b → (i : ℕ) → i < length ss → get_or (b ∷ take (length ss) bs) i 0 ≢ c
    apart c has differs zero below same = differs (sym same)
    apart c has differs (suc i) below same = fresh_differs i c taken (omega (arith, below, long)) has (sym (get_or-take (length ss) bs i 0 (omega (arith, below))) ∙ same)

-- ---- a transfer

-- an endpoint that hasn't ended wasn't given back
pub goes_on_alive : (x : Endpoint) → x.ended ≡ None → IsSteady x → x.gone ≡ false
goes_on_alive x goes steady =
    ⊎_elim (λ (g : x.gone ≡ true). let out = steady.gone g in absurd (false≢true (sym (ap is_some goes) ∙ steady.ended out.0 out.1))) (λ (g : x.gone ≡ false). g) (cases_Bool x.gone)

-- the content once the transfer was accepted, told by its runs
abbrev after_transfer : DriverContent → Holding → ℕ → Endpoint → Asked → List ℕ → Views
after_transfer d g e x a bs = record (views_of d) {
  slot = slot_of g.book.slots;
  endpoint = endpoint_in (set d.endpoints e (with_queued x (get_or (take (length a.stages) bs) (length a.stages - 1) 0) (length d.transfers)));
  transfer = transfer_in (d.transfers ++ new_transfer e a x.dummy ∷ []);
  note = note_in (note_stages d.notes a.stages x.dummy (take (length a.stages) bs) (drop (length a.stages) bs));
}

abbrev owners_after : DriverContent → (ℕ → Owner) → ℕ → Endpoint → Asked → List ℕ → ℕ → Owner
owners_after d owner e x a bs =
    new_owners owner x.dummy e (length d.transfers) (get_or (take (length a.stages) bs) (length a.stages - 1) 0) (take (length a.stages) bs) (drop (length a.stages) bs)

transfer_each : {h g : Holding} {bs : List ℕ} (d : DriverContent) (owner : ℕ → Owner) (e : ℕ) (x : Endpoint) (a : Asked) → AreTaken h g (needs a.stages) bs → h.book.slots ≡ d.book.slots → slice_get d.endpoints e ≡ Some x → is_iso x.desc.kind || x.gone ≡ false → is_descriptor a.sort ≡ false → AreShort a.stages → 1 ≤ length a.stages → IsOwned d owner → AreOwned (after_transfer d g e x a bs) (owners_after d owner e x a bs)
unfolding is_dummy
transfer_each {h = h} {g = g} {bs = bs} d owner e x a taken slots here alive sort short some old =
    let ss = a.stages in
    let n = length ss in
    let qtds = take n bs in
    let runs = drop n bs in
    let dummy = get_or qtds (n - 1) 0 in
    let t = length d.transfers in
    let b = x.dummy in
    let mine = new_owners owner b e t dummy qtds runs in
    let now = slot_of g.book.slots in
    let each = subst (λ (ss : List Slot). AreOwned (record (views_of d) { slot = slot_of ss }) owner) (sym slots) old.each in
    let ring = ap (option_map runs_of_endpoint) here in
    let was = each.dummy e (runs_of_endpoint x) ring alive in
    let new = are_new ss owner b e t some taken was in
    let y = with_queued x dummy t in
    let notes = note_stages d.notes ss b qtds runs in
    let same_notes : (c u : ℕ) → IsPlaced (slot_of h.book.slots) owner c (Element u) → note_in notes c ≡ note_in d.notes c = λ c u p.
    ap runs_of_note (notes_apart d.notes ss b qtds runs c (new.apart c (placed_run c (Element u) p) (not_dummy b c e (Element u) was refl p))) in
    record {
      list = new.kept 0 FrameList (not_dummy b 0 e FrameList was refl each.list) each.list;
      head = new.kept head_block Head (not_dummy b head_block e Head was refl each.head) each.head;
      queue = λ i z there on.
          ⊎_elim
          (λ (w : (i ≡ e) × (z ≡ runs_of_endpoint y)).
          let q = each.queue e (runs_of_endpoint x) ring alive in
          subst (λ j. IsPlaced now mine z.queue (QueueHead j)) (sym w.0)
          (subst (λ (r : EndpointRuns). IsPlaced now mine r.queue (QueueHead e)) (sym w.1) (new.kept x.queue (QueueHead e) (not_dummy b x.queue e (QueueHead e) was refl q) q)))
          (λ (w : (i ≢ e) × (endpoint_in d.endpoints i ≡ Some z)).
          let q = each.queue i z w.1 on in
          new.kept z.queue (QueueHead i) (not_dummy b z.queue e (QueueHead i) was refl q) q)
          (get_case runs_of_endpoint d.endpoints e i x y z here there);
      dummy = λ i z there on.
          ⊎_elim
          (λ (w : (i ≡ e) × (z ≡ runs_of_endpoint y)).
          subst (λ j. IsPlaced now mine z.dummy (Dummy j)) (sym w.0)
          (subst (λ (r : EndpointRuns). IsPlaced now mine r.dummy (Dummy e)) (sym w.1) new.dummy))
          (λ (w : (i ≢ e) × (endpoint_in d.endpoints i ≡ Some z)).
          let q = each.dummy i z w.1 on in
          new.kept z.dummy (Dummy i) (other_dummy b z.dummy e i was w.0 q) q)
          (get_case runs_of_endpoint d.endpoints e i x y z here there);
      pieces = λ u z there on.
          ⊎_elim
          (λ (w : transfer_in d.transfers u ≡ Some z).
          pieces_still (slot_of h.book.slots) now owner mine (note_in d.notes) (note_in notes) u z.first z.qtds
          (λ c p. new.kept c (Element u) (not_dummy b c e (Element u) was refl p) p)
          (λ c p. new.kept c (Buffer u) (not_dummy b c e (Buffer u) was refl p) p)
          (λ c p. same_notes c u p) (each.pieces u z w on))
          (λ (w : (u ≡ t) × (z ≡ runs_of_transfer (new_transfer e a b))).
          subst (λ k. ArePieces now mine (note_in notes) k z.first z.qtds) (sym w.0)
          (subst (λ (r : TransferRuns). ArePieces now mine (note_in notes) t r.first r.qtds) (sym w.1)
          (pieces_noted now mine t d.notes ss b qtds runs short new.elements
          (λ i below. let p = new.elements i below in omega (arith, within_slots (get_or (b ∷ qtds) i 0) taken (placed_run (get_or (b ∷ qtds) i 0) (Element t) p), taken.many, old.sizes, ap length slots))
          new.distinct
          (omega (arith, length-drop n bs, taken.long, length-append (replicate n 1) (buffers_of ss), length-replicate {A = ℕ} n 1))
          new.buffers)))
          (push_case runs_of_transfer d.transfers (new_transfer e a b) u z there);
      described = λ u z there iso on.
          ⊎_elim
          (λ (w : transfer_in d.transfers u ≡ Some z).
          described_still (slot_of h.book.slots) now owner mine (descriptor_in d.periodic.notes z.first) (descriptor_in d.periodic.notes z.first) u z.first
          (λ c p. let o = Described (descriptor_in d.periodic.notes z.first).split u in new.kept c o (not_dummy b c e o was refl p) p)
          (λ c p. new.kept c (Buffer u) (not_dummy b c e (Buffer u) was refl p) p)
          (λ p. refl) (each.described u z w iso on))
          (λ (w : (u ≡ t) × (z ≡ runs_of_transfer (new_transfer e a b))).
          absurd (false≢true (sym sort ∙ ap (λ (r : TransferRuns). r.isochronous) (sym w.1) ∙ iso)))
          (push_case runs_of_transfer d.transfers (new_transfer e a b) u z there);
    }

pub transfer_owned : (d : DriverContent) (m : Mem) (owner : ℕ → Owner) (o : Offered) → Stands (holding d.book m) → Transfers d m o → IsOrderly d → IsOwned d owner → (mine : ℕ → Owner) × IsOwned o.driver mine
transfer_owned d m owner o stands why order old =
    let all = runs_taken (holding d.book m) why.holding_after (needs why.asked.stages) stands why.runs in
    let bs = all.blocks in
    let n = length why.asked.stages in
    let x = why.endpoint in
    let mine = owners_after d owner why.number x why.asked bs in
    let new : new_runs d why.holding_after ≡ bs = ap (drop (length d.book.taken)) all.are.taken ∙ drop_first d.book.taken bs in
    let alive = goes_on_alive x why.goes_on (order.steady why.number x why.here) in
    let now : IsOwned (accepted_transfer d why.number x why.asked why.holding_after (get_or (take n bs) (n - 1) 0) (note_stages d.notes why.asked.stages x.dummy (take n bs) (drop n bs))).driver mine = record {
      each = transfer_each d owner why.number x why.asked all.are refl why.here (ap (λ k. k || x.gone) why.queued ∙ alive) why.sort why.short why.some old;
      sizes = notes_many d.notes why.asked.stages x.dummy (take n bs) (drop n bs) ∙ (old.sizes ∙ sym all.are.many);
      as_many = old.as_many ∙ sym all.are.many;
    } in (
      mine,
      subst (λ (f : Offered). IsOwned f.driver mine) (sym why.is)
          (subst (λ (rs : List ℕ). IsOwned (accepted_transfer d why.number x why.asked why.holding_after (get_or (take n rs) (n - 1) 0) (note_stages d.notes why.asked.stages x.dummy (take n rs) (drop n rs))).driver mine) (sym new) now),
    )
