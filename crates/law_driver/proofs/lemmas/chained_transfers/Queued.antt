-- The chain grows by a transfer that is accepted: the inactive qTD at the end of its queue becomes its first.
use Rattle.std.proofs.Common.{◌≡◌, ◌≢◌, ℕ, zero, suc, ◌-◌, ◌<◌, ◌≤◌, false, ◌||◌, List, [], ◌∷◌, length, take, drop, get_or, set, Some, option_map, ap, sym, subst, ◌∙◌, ⊎_elim, inl, inr, refl, arith}
use Rattle.std.specs.Prelude.{◌⊎◌}
use Rattle.std.proofs.lemmas.List.{get_or-set_same, length-set}
use Rattle.law_driver.proofs.Common.{get_case}
use Rattle.word_mem.specs.Memory.{Mem}
use Rattle.mem_runs.specs.Book.{holding, Stands, slot_of}
use Rattle.mem_runs.specs.declared.slots.Slot.{Slot}
use Rattle.drv_table.specs.declared.content.Endpoint.{Endpoint}
use Rattle.drv_table.specs.declared.content.QtdNote.{QtdNote}
use Rattle.drv_table.specs.declared.content.Stage.{Stage}
use Rattle.drv_table.specs.DriverContent.{DriverContent, no_note}
use Rattle.drv_table.specs.Words.{needs}
use Rattle.drv_table.specs.Harvests.{note_at}
use Rattle.drv_table.specs.Accepting.{Offered, new_runs}
use Rattle.drv_table.specs.Offers.{Asked, runs_of, note_for, note_stages, accepted_transfer, with_queued, new_transfer}
use Rattle.law_driver.specs.run_owners.Accepts.{Transfers}
use Rattle.claims_driver.specs.Leaving.{IsOrderly}
use Rattle.law_common.proofs.Lists.{next_of, drop_first, pushed_there, pushed_last}
use Rattle.claims_driver.specs.Owners.{Owner, Element, Dummy, HasBlocks, EndpointRuns, TransferRuns, IsPlaced, runs_of_endpoint, runs_of_transfer, runs_of_note, endpoint_in, transfer_in, note_in, Views, views_of, AreOwned, IsOwned}
use Rattle.law_driver.proofs.lemmas.run_owners.Runs.{placed_run}
use Rattle.law_driver.proofs.lemmas.run_owners.Taking.{runs_taken}
use Rattle.law_driver.proofs.lemmas.run_owners.Chains.{notes_apart}
use Rattle.law_driver.proofs.lemmas.run_owners.Accepted.{push_case, within_slots}
use Rattle.law_driver.proofs.lemmas.run_owners.Transferred.{are_new, goes_on_alive}
use Rattle.law_driver.specs.chained_transfers.Chains.{piece_at, end_of, NoneFrom, AreChained}
use Rattle.law_driver.proofs.lemmas.chained_transfers.Chained.{pieces_same, within_list}

-- ---- the blocks of the new chain

pub piece_noted : (notes : List QtdNote) (ss : List Stage) (b : ℕ) (qtds runs : List ℕ) → ((i : ℕ) → i < length ss → get_or (b ∷ qtds) i 0 < length notes)
    → ((i j : ℕ) → i < j → j < length ss → get_or (b ∷ qtds) j 0 ≢ get_or (b ∷ qtds) i 0) → (i : ℕ) → i ≤ length ss → piece_at (note_in (note_stages notes ss b qtds runs)) b i ≡ get_or (b ∷ qtds) i 0
piece_noted notes ss b qtds runs within distinct zero below = refl
piece_noted notes [] b qtds runs within distinct (suc i) below = absurd (omega arith)
piece_noted notes (s ∷ ss) b qtds runs within distinct (suc i) below =
    let q = get_or qtds 0 0 in
    let one = set notes b (note_for s q runs) in
    let rest = note_stages one ss q (drop 1 qtds) (drop (runs_of s) runs) in
    let here : note_at rest b ≡ note_for s q runs =
    notes_apart one ss q (drop 1 qtds) (drop (runs_of s) runs) b (λ j less same. distinct 0 (suc j) (omega arith) (omega arith) (sym (next_of qtds j) ∙ same))
    ∙ get_or-set_same notes b (note_for s q runs) no_note (within 0 (omega arith)) in
    ap (λ (n : QtdNote). piece_at (note_in rest) n.next i) here
    ∙ piece_noted one ss q (drop 1 qtds) (drop (runs_of s) runs)
    (λ j less. let n = length-set notes b (note_for s q runs) in let w = within (suc j) (omega arith) in let e = next_of qtds j in omega (arith, n, w, e))
    (λ j k less under same. distinct (suc j) (suc k) (omega arith) (omega arith) (sym (next_of qtds k) ∙ same ∙ next_of qtds j))
    i (omega arith)
    ∙ next_of qtds i

-- ---- the chain

pub not_dummy : {slot : ℕ → Slot} {owner : ℕ → Owner} (b c e t : ℕ) → IsPlaced slot owner b (Dummy e) → IsPlaced slot owner c (Element t) → c ≢ b
not_dummy {owner = owner} b c e t dummy p same = let is : Element t ≡ Dummy e = sym p.owned ∙ ap owner same ∙ dummy.owned in absurd (cc)

-- what a new transfer makes of the views, where b is the old end of the queue
record IsQueued (v w : Views) (slot : ℕ → Slot) (owner : ℕ → Owner) (e b dummy number n : ℕ) : Type 0 where
  owned : AreOwned v owner
  slots : (c : ℕ) → v.slot c ≡ slot c
  was : IsPlaced slot owner b (Dummy e)
  notes : (c u : ℕ) → IsPlaced slot owner c (Element u) → w.note c ≡ v.note c
  new : piece_at w.note b n ≡ dummy
  some : 1 ≤ n
  endpoint : (i : ℕ) (z : EndpointRuns) → w.endpoint i ≡ Some z → ((i ≡ e) × (z.dummy ≡ dummy)) ⊎ ((i ≢ e) × (v.endpoint i ≡ Some z))
  old_end : (x : EndpointRuns) × (v.endpoint e ≡ Some x) × (x.dummy ≡ b)
  transfer : (i : ℕ) (z : TransferRuns) → w.transfer i ≡ Some z → (v.transfer i ≡ Some z) ⊎ ((i ≡ number) × (z ≡ record { endpoint = e; first = b; qtds = n; isochronous = z.isochronous; released = z.released }))
  stays : (i : ℕ) (z : TransferRuns) → v.transfer i ≡ Some z → (i < number) × (w.transfer i ≡ Some z)
  last : (z : TransferRuns) × (w.transfer number ≡ Some z) × (z.endpoint ≡ e)

queued : (v w : Views) (slot : ℕ → Slot) (owner : ℕ → Owner) (e b dummy number n : ℕ) → IsQueued v w slot owner e b dummy number n → AreChained v → AreChained w
queued v w slot owner e b dummy number n q old = record {
  some = λ t y there held.
      ⊎_elim (λ (was : v.transfer t ≡ Some y). old.some t y was held)
      (λ (new : (t ≡ number) × (y ≡ record { endpoint = e; first = b; qtds = n; isochronous = y.isochronous; released = y.released })).
      let many = ap (λ (r : TransferRuns). r.qtds) new.1 in let some = q.some in omega (arith, many, some)) (q.transfer t y there);
  next = next;
  last = last;
}
  where
    end_same : (t : ℕ) (y : TransferRuns) → v.transfer t ≡ Some y → y.released ≡ false → end_of w y ≡ end_of v y
    end_same t y there held = pieces_same v.slot owner v.note w.note t y.first y.qtds (q.owned.pieces t y there held)
        (λ c p. q.notes c t (record { owned = p.owned; run = subst (λ s. HasBlocks 1 s) (q.slots c) p.run })) y.qtds (omega arith)

    none_before : (f from to : ℕ) → NoneFrom w f from to → NoneFrom v f from to
    none_before f from to none k z least below there = none k z least below (q.stays k z there).1

    IsNew : ℕ → TransferRuns → Type 0
    IsNew t y = (t ≡ number) × (y ≡ record { endpoint = e; first = b; qtds = n; isochronous = y.isochronous; released = y.released })

    next : (t u : ℕ) (y z : TransferRuns) → w.transfer t ≡ Some y → y.released ≡ false → w.transfer u ≡ Some z → t < u → z.endpoint ≡ y.endpoint → NoneFrom w y.endpoint (suc t) u → end_of w y ≡ z.first
    next t u y z there held there_u less is none =
        ⊎_elim
        (λ (was : v.transfer t ≡ Some y).
        end_same t y was held
        ∙ ⊎_elim (λ (was_u : v.transfer u ≡ Some z). old.next t u y z was held was_u less is (none_before y.endpoint (suc t) u none))
        (λ (new : IsNew u z).
        let here : y.endpoint ≡ e = sym is ∙ ap (λ (r : TransferRuns). r.endpoint) new.1 in
        old.last t y q.old_end.0 was held (ap v.endpoint here ∙ q.old_end.1)
        (λ k i r least below there_i. let in_v = (q.stays i r there_i).0 in none i r least (omega (arith, in_v, new.0)) (q.stays i r there_i).1)
        ∙ q.old_end.2 ∙ sym (ap (λ (r : TransferRuns). r.first) new.1)) (q.transfer u z there_u))
        (λ (new : IsNew t y).
        ⊎_elim (λ (was_u : v.transfer u ≡ Some z). let in_v = (q.stays u z was_u).0 in absurd (omega (arith, in_v, new.0, less)))
        (λ (new_u : IsNew u z). absurd (omega (arith, new.0, new_u.0, less))) (q.transfer u z there_u))
        (q.transfer t y there)

    last : (t : ℕ) (y : TransferRuns) (x : EndpointRuns) → w.transfer t ≡ Some y → y.released ≡ false → w.endpoint y.endpoint ≡ Some x → ((u : ℕ) → NoneFrom w y.endpoint (suc t) u) → end_of w y ≡ x.dummy
    last t y x there held here none =
        ⊎_elim
        (λ (was : v.transfer t ≡ Some y).
        ⊎_elim
        (λ (own : (y.endpoint ≡ e) × (x.dummy ≡ dummy)).
        let in_v = (q.stays t y was).0 in absurd (none (suc number) number q.last.0 (omega (arith, in_v)) (omega arith) q.last.1 (q.last.2 ∙ sym own.0)))
        (λ (other : (y.endpoint ≢ e) × (v.endpoint y.endpoint ≡ Some x)).
        end_same t y was held ∙ old.last t y x was held other.1 (λ u. none_before y.endpoint (suc t) u (none u))) (q.endpoint y.endpoint x here))
        (λ (new : IsNew t y).
        let at : y.endpoint ≡ e = ap (λ (r : TransferRuns). r.endpoint) new.1 in
        ⊎_elim (λ (own : (y.endpoint ≡ e) × (x.dummy ≡ dummy)). ap (λ (r : TransferRuns). piece_at w.note r.first r.qtds) new.1 ∙ q.new ∙ sym own.1)
        (λ (other : (y.endpoint ≢ e) × (v.endpoint y.endpoint ≡ Some x)). absurd (other.0 at)) (q.endpoint y.endpoint x here))
        (q.transfer t y there)

-- ---- an accepted transfer

pub transfer_chained : (d : DriverContent) (m : Mem) (o : Offered) (owner : ℕ → Owner) → Stands (holding d.book m) → Transfers d m o → IsOrderly d → IsOwned d owner → AreChained (views_of d) → AreChained (views_of o.driver)
transfer_chained d m o owner stands why order old chained =
    let all = runs_taken (holding d.book m) why.holding_after (needs why.asked.stages) stands why.runs in
    let bs = all.blocks in
    let ss = why.asked.stages in
    let n = length ss in
    let x = why.endpoint in
    let e = why.number in
    let qtds = take n bs in
    let runs = drop n bs in
    let new : new_runs d why.holding_after ≡ bs = ap (drop (length d.book.taken)) all.are.taken ∙ drop_first d.book.taken bs in
    let alive = goes_on_alive x why.goes_on (order.steady e x why.here) in
    let was = old.each.dummy e (runs_of_endpoint x) (ap (option_map runs_of_endpoint) why.here) (ap (λ k. k || x.gone) why.queued ∙ alive) in
    let are = are_new ss owner x.dummy e (length d.transfers) why.some all.are was in
    let notes = note_stages d.notes ss x.dummy qtds runs in
    let dummy = get_or qtds (n - 1) 0 in
    let y = new_transfer e why.asked x.dummy in
    let f : ℕ → List QtdNote → Offered = λ c ns. accepted_transfer d e x why.asked why.holding_after c ns in
    let now : AreChained (views_of (f dummy notes).driver) =
    queued (views_of d) (views_of (f dummy notes).driver) (slot_of d.book.slots) owner e x.dummy dummy (length d.transfers) n
    (record {
      owned = old.each;
      slots = λ c. refl;
      was = was;
      notes = λ c u p. ap runs_of_note (notes_apart d.notes ss x.dummy qtds runs c (are.apart c (placed_run c (Element u) p) (not_dummy x.dummy c e u was p)));
      new = piece_noted d.notes ss x.dummy qtds runs
          (λ i below. let p = are.elements i below in omega (arith, within_slots (get_or (x.dummy ∷ qtds) i 0) all.are (placed_run (get_or (x.dummy ∷ qtds) i 0) (Element (length d.transfers)) p), all.are.many, old.sizes))
          are.distinct n (omega arith) ∙ last_of n x.dummy qtds why.some;
      some = why.some;
      endpoint = λ i z there. ends e dummy x (length d.transfers) i z (get_case runs_of_endpoint d.endpoints e i x (with_queued x dummy (length d.transfers)) z why.here there);
      old_end = (runs_of_endpoint x, ap (option_map runs_of_endpoint) why.here, refl);
      transfer = λ i z there. pushed e why.asked x.dummy i z (push_case runs_of_transfer d.transfers y i z there);
      stays = λ i z there. (within_list runs_of_transfer d.transfers i z there, pushed_there runs_of_transfer d.transfers y i z there);
      last = (runs_of_transfer y, ap (option_map runs_of_transfer) (pushed_last d.transfers y), refl);
    }) chained in
    subst (λ (g : Offered). AreChained (views_of g.driver)) (sym why.is)
    (subst (λ (rs : List ℕ). AreChained (views_of (f (get_or (take n rs) (n - 1) 0) (note_stages d.notes ss x.dummy (take n rs) (drop n rs))).driver)) (sym new) now)
  where
    last_of : (n b : ℕ) (qtds : List ℕ) → 1 ≤ n → get_or (b ∷ qtds) n 0 ≡ get_or qtds (n - 1) 0
    last_of zero b qtds some = absurd (omega arith)
    last_of (suc n) b qtds some = let is : suc n - 1 ≡ n = omega arith in sym (ap (λ k. get_or qtds k 0) is)

    ends : (e dummy : ℕ) (x : Endpoint) (t i : ℕ) (z : EndpointRuns) → ((i ≡ e) × (z ≡ runs_of_endpoint (with_queued x dummy t))) ⊎ ((i ≢ e) × (endpoint_in d.endpoints i ≡ Some z))
        → ((i ≡ e) × (z.dummy ≡ dummy)) ⊎ ((i ≢ e) × (endpoint_in d.endpoints i ≡ Some z))
    ends e dummy x t i z (inl own) = inl (own.0, ap (λ (r : EndpointRuns). r.dummy) own.1)
    ends e dummy x t i z (inr other) = inr other

    pushed : (e : ℕ) (a : Asked) (b i : ℕ) (z : TransferRuns) → (transfer_in d.transfers i ≡ Some z) ⊎ ((i ≡ length d.transfers) × (z ≡ runs_of_transfer (new_transfer e a b)))
        → (transfer_in d.transfers i ≡ Some z) ⊎ ((i ≡ length d.transfers) × (z ≡ record { endpoint = e; first = b; qtds = length a.stages; isochronous = z.isochronous; released = z.released }))
    pushed e a b i z (inl old) = inl old
    pushed e a b i z (inr new) = inr (new.0, subst (λ (r : TransferRuns). r ≡ record { endpoint = e; first = b; qtds = length a.stages; isochronous = r.isochronous; released = r.released }) (sym new.1) refl)
