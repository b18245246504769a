-- The qTDs and buffers of a new transfer aren't lent, but for its first qTD.
use Rattle.std.proofs.Common.{◌≡◌, ◌≢◌, ℕ, zero, suc, ◌+◌, ◌-◌, ◌*◌, ◌<◌, ◌≤◌, Bool, false, ◌||◌, List, [], ◌∷◌, ◌++◌, length, take, drop, set, get_or, replicate, slice_get, Option, Some, option_map, Ok, ap, refl, sym, subst, ◌∙◌, ⊎_elim, inl, inr, arith}
use Rattle.std.proofs.lemmas.List.{get_or-set_same, get_or-drop, get_or-take, length-set, length-append, length-drop, length-replicate}
use Rattle.law_driver.proofs.Common.{last_pushed}
use Rattle.law_common.proofs.Lists.{shift, set_here, set_there, pushed_there}
use Rattle.word_mem.specs.Memory.{Mem}
use Rattle.mem_runs.specs.declared.slots.Slot.{Slot}
use Rattle.mem_runs.specs.Book.{Holding, holding}
use Rattle.drv_table.specs.declared.content.Endpoint.{Endpoint}
use Rattle.drv_table.specs.declared.content.QtdNote.{QtdNote}
use Rattle.drv_table.specs.declared.content.Stage.{Stage}
use Rattle.drv_table.specs.DriverContent.{DriverContent, no_note}
use Rattle.drv_table.specs.Words.{buffer_needs, needs}
use Rattle.drv_table.specs.Harvests.{note_at}
use Rattle.drv_table.specs.Kinds.{is_iso}
use Rattle.drv_table.specs.Offers.{Asked, note_for, runs_of, note_stages, new_transfer, with_queued, accepted_transfer}
use Rattle.drv_table.specs.Accepting.{take_runs}
use Rattle.claims_driver.specs.Owners.{Dummy, Element, NoteRuns, Views, is_descriptor, runs_of_endpoint, runs_of_transfer, runs_of_note, note_in, transfer_in, views_of}
use Rattle.claims_driver.specs.Leaving.{HasOwners}
use Rattle.law_driver.proofs.lemmas.run_owners.Runs.{placed_run}
use Rattle.law_driver.proofs.lemmas.run_owners.Taking.{AreTaken}
use Rattle.law_driver.proofs.lemmas.run_owners.Accepted.{push_case, within_slots}
use Rattle.law_driver.proofs.lemmas.run_owners.Chains.{notes_apart, buffers_of}
use Rattle.law_driver.proofs.lemmas.run_owners.Transferred.{are_new}
use Rattle.law_driver_ring.specs.Inventory.{Sort, OfElement, IsLent, IsBufferTold, AreTold}
use Rattle.law_driver_ring.proofs.Taken.{takes_on, new_not_lent}
use Rattle.law_driver_ring.proofs.Transfers.{one_transfer, OneTransfer}

-- ---- buffers

-- the first run of a buffer whose runs are new
new_buffer : (slot : ℕ → Slot) (sorts : ℕ → Option Sort) (k : ℕ) (runs : List ℕ) → k ≤ length runs → ((i : ℕ) → i < length runs → IsLent (slot (get_or runs i 0)) → ⊥) → IsBufferTold slot sorts (take k (take 5 (take k runs ++ replicate 5 0)))
new_buffer slot sorts zero runs enough new = tt
new_buffer slot sorts (suc k) [] enough new = absurd (omega (arith, enough))
new_buffer slot sorts (suc k) (r ∷ rs) enough new = λ lent. absurd (new 0 (omega arith) lent)

-- ---- the new chain

new_told : (v : Views) (sorts : ℕ → Option Sort) (notes : List QtdNote) (ss : List Stage) (b : ℕ) (qtds runs : List ℕ) → ((i : ℕ) → i < length ss → get_or (b ∷ qtds) i 0 < length notes) → ((i j : ℕ) → i < j → j < length ss → get_or (b ∷ qtds) j 0 ≢ get_or (b ∷ qtds) i 0)
    → (IsLent (v.slot b) → sorts (32 * b) ≡ Some OfElement) → ((i : ℕ) → i < length ss → IsLent (v.slot (get_or qtds i 0)) → ⊥) → ((i : ℕ) → i < length runs → IsLent (v.slot (get_or runs i 0)) → ⊥) → length (buffers_of ss) ≤ length runs
    → ((c : ℕ) → v.note c ≡ note_in (note_stages notes ss b qtds runs) c) → AreTold v sorts b (length ss)
new_told v sorts notes [] b qtds runs within distinct first new_qtds new_runs enough noted = tt
new_told v sorts notes (s ∷ ss) b qtds runs within distinct first new_qtds new_runs enough noted =
    let q = get_or qtds 0 0 in
    let one = set notes b (note_for s q runs) in
    let rest = note_stages one ss q (drop 1 qtds) (drop (runs_of s) runs) in
    let here : note_at rest b ≡ note_for s q runs =
    notes_apart one ss q (drop 1 qtds) (drop (runs_of s) runs) b (λ i below same. distinct 0 (suc i) (omega arith) (omega arith) (sym (shift b qtds i) ∙ same))
    ∙ get_or-set_same notes b (note_for s q runs) no_note (within 0 (omega arith)) in
    let note : v.note b ≡ runs_of_note (note_for s q runs) = noted b ∙ ap runs_of_note here in
    let room = length-append (buffer_needs s.long) (buffers_of ss) in (
      record {
        element = first;
        buffer = subst (λ (r : NoteRuns). IsBufferTold v.slot sorts r.buffer) (sym note) (new_buffer v.slot sorts (runs_of s) runs (omega (arith, room, enough)) new_runs);
      },
      subst (λ (r : NoteRuns). AreTold v sorts r.next (length ss)) (sym note)
          (new_told v sorts one ss q (drop 1 qtds) (drop (runs_of s) runs)
          (λ i below. let n = length-set notes b (note_for s q runs) in let w = within (suc i) (omega arith) in let e = shift b qtds i in omega (arith, n, w, e))
          (λ i j less below same. distinct (suc i) (suc j) (omega arith) (omega arith) (sym (shift b qtds j) ∙ same ∙ shift b qtds i))
          (λ lent. absurd (new_qtds 0 (omega arith) lent))
          (λ i below lent. new_qtds (1 + i) (omega (arith, below)) (subst (λ (k : ℕ). IsLent (v.slot k)) (get_or-drop 1 qtds i 0) lent))
          (λ i below lent. let l = length-drop (runs_of s) runs in new_runs (runs_of s + i) (omega (arith, below, l)) (subst (λ (k : ℕ). IsLent (v.slot k)) (get_or-drop (runs_of s) runs i 0) lent))
          (let l = length-drop (runs_of s) runs in omega (arith, room, enough, l))
          noted),
    )

-- ---- the accepted transfer

element_no_dummy : (t e : ℕ) → Element t ≢ Dummy e
element_no_dummy t e same = cc

pub transfer_one : (d : DriverContent) (m : Mem) (number : ℕ) (x : Endpoint) (a : Asked) (g : Holding) (bs : List ℕ) → (has : HasOwners d) → take_runs (holding d.book m) (needs a.stages) ≡ Ok g → AreTaken (holding d.book m) g (needs a.stages) bs → 1 ≤ length a.stages → slice_get d.endpoints number ≡ Some x → is_iso x.desc.kind || x.gone ≡ false → is_descriptor a.sort ≡ false
    → OneTransfer (views_of d) (views_of (accepted_transfer d number x a g (get_or (take (length a.stages) bs) (length a.stages - 1) 0) (note_stages d.notes a.stages x.dummy (take (length a.stages) bs) (drop (length a.stages) bs))).driver) has.owner number (runs_of_endpoint x) (get_or (take (length a.stages) bs) (length a.stages - 1) 0) (length d.transfers) (length a.stages)
transfer_one d m number x a g bs has runs_are taken some here alive sort =
    let ss = a.stages in
    let n = length ss in
    let b = x.dummy in
    let qtds = take n bs in
    let runs = drop n bs in
    let dummy = get_or qtds (n - 1) 0 in
    let notes = note_stages d.notes ss b qtds runs in
    let y = with_queued x dummy (length d.transfers) in
    let w = views_of (accepted_transfer d number x a g dummy notes).driver in
    let was = has.owned.each.dummy number (runs_of_endpoint x) (ap (option_map runs_of_endpoint) here) alive in
    let new = are_new ss has.owner b number 0 some taken was in
    let long : length bs ≡ n + length (buffers_of ss) = taken.long ∙ length-append (replicate n 1) (buffers_of ss) ∙ ap (λ j. j + length (buffers_of ss)) (length-replicate {A = ℕ} n 1) in
    let rest : length runs + n ≡ length bs = let l = length-drop n bs in omega (arith, l, long) in
    let qtd : (i : ℕ) → i < n → IsLent (w.slot (get_or qtds i 0)) → ⊥ = λ i below lent. new_not_lent i runs_are taken (omega (arith, below, long)) (subst (λ (k : ℕ). IsLent (w.slot k)) (get_or-take n bs i 0 below) lent) in
    let run : (i : ℕ) → i < length runs → IsLent (w.slot (get_or runs i 0)) → ⊥ = λ i below lent. new_not_lent (n + i) runs_are taken (omega (arith, below, rest)) (subst (λ (k : ℕ). IsLent (w.slot k)) (get_or-drop n bs i 0) lent) in
    let is_new : runs_of_transfer (new_transfer number a b) ≡ one_transfer number b n = ap (λ (s : Bool). record (one_transfer number b n) { isochronous = s }) sort in
    record {
      takes = takes_on (holding d.book m) g (needs ss) bs runs_are taken;
      owned = has.owned.each;
      here = ap (option_map runs_of_endpoint) here;
      alive = alive;
      now = ap (option_map runs_of_endpoint) (set_here d.endpoints number x y here);
      others = λ e differs. ap (option_map runs_of_endpoint) (set_there d.endpoints number e y differs);
      dummy_new = qtd (n - 1) (omega (arith, some));
      old = λ t z there. pushed_there runs_of_transfer d.transfers (new_transfer number a b) t z there;
      transfers = λ t z there.
          ⊎_elim (λ (old : transfer_in d.transfers t ≡ Some z). inl old)
          (λ (at : (t ≡ length d.transfers) × (z ≡ runs_of_transfer (new_transfer number a b))). inr (at.0, at.1 ∙ is_new))
          (push_case runs_of_transfer d.transfers (new_transfer number a b) t z there);
      newest = ap (option_map runs_of_transfer) (last_pushed d.transfers (new_transfer number a b)) ∙ ap Some is_new;
      some = some;
      notes = λ c t at. ap runs_of_note (notes_apart d.notes ss b qtds runs c
          (new.apart c (placed_run c (Element t) at) (λ same. element_no_dummy t number (sym at.owned ∙ ap has.owner same ∙ was.owned))));
      new_pieces = λ sorts first.
          new_told w sorts d.notes ss b qtds runs
          (λ i below. let e = within_slots (get_or (b ∷ qtds) i 0) taken (placed_run (get_or (b ∷ qtds) i 0) (Element 0) (new.elements i below)) in let many = taken.many in let sizes = has.owned.sizes in omega (arith, e, many, sizes))
          new.distinct first qtd run (omega (arith, rest, long)) (λ c. refl);
    }
