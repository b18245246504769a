-- What is held back where a get, a put or a request is accepted.
use Rattle.std.proofs.Common.{◌≡◌, ◌≢◌, ℕ, zero, suc, ◌-◌, ◌*◌, ◌≤◌, true, false, ◌||◌, List, [], ◌∷◌, ◌++◌, length, map, take, drop, get_or, slice_get, slice_set, Option, Some, None, option_map, ap, refl, sym, subst, ◌∙◌, ⊎_elim, inl, inr, arith}
use Rattle.std.specs.Prelude.{◌⊎◌}
use Rattle.std.proofs.lemmas.Bool.{cases_eq}
use Rattle.std.proofs.lemmas.Option.{same_Some, slice_get_within}
use Rattle.law_queues.proofs.Common.{one_placed, set_which}
use Rattle.law_common.proofs.Lists.{set_here, set_there, drop_first, push_which}
use Rattle.word_mem.specs.Memory.{Mem}
use Rattle.mem_runs.specs.Book.{Holding, holding, Stands, slot_of}
use Rattle.law_structures.specs.lent_structures.Structures.{StructureSets}
use Rattle.law_ring.specs.Hand.{Hand}
use Rattle.claims_report.specs.Streams.{has_stream}
use Rattle.drv_table.specs.declared.content.Endpoint.{Endpoint}
use Rattle.drv_table.specs.declared.content.Transfer.{Transfer}
use Rattle.drv_table.specs.declared.content.QtdNote.{QtdNote}
use Rattle.drv_table.specs.DriverContent.{DriverContent}
use Rattle.drv_table.specs.Words.{cut, needs, request_stages, request_length}
use Rattle.drv_table.specs.Harvests.{note_at}
use Rattle.drv_table.specs.Accepting.{Offered, new_runs, first_waiting}
use Rattle.drv_table.specs.Offers.{Asked, note_stages, accepted_transfer, with_queued, new_transfer}
use Rattle.law_driver.specs.run_owners.Accepts.{Transfers}
use Rattle.claims_driver.specs.Leaving.{HasOwners}
use Rattle.claims_driver.specs.Owners.{Element, runs_of_endpoint, runs_of_transfer, note_in}
use Rattle.law_driver.proofs.lemmas.run_owners.Runs.{placed_run}
use Rattle.law_driver.proofs.lemmas.run_owners.Taking.{runs_taken}
use Rattle.law_driver.proofs.lemmas.run_owners.Chains.{notes_apart}
use Rattle.law_driver.proofs.lemmas.run_owners.Accepted.{within_slots}
use Rattle.law_driver.proofs.lemmas.run_owners.Transferred.{are_new, goes_on_alive}
use Rattle.law_driver.specs.endpoint_lives.Lives.{told_end}
use Rattle.law_driver.specs.chained_transfers.Turns.{IsAtPlace, AreAtPlaces}
use Rattle.law_driver.specs.chained_transfers.Bulk.{stage_by}
use Rattle.law_driver.specs.chained_transfers.Accepted.{IsAsked}
use Rattle.law_driver.specs.chained_transfers.Asynchronous.{IsRequested}
use Rattle.law_driver.proofs.lemmas.chained_transfers.Queued.{not_dummy}
use Rattle.law_driver_ring.specs.told_harvests.Held.{AreHeld, none_held, AreUnmoved, told_of, IsOneFrom}
use Rattle.law_driver_ring.proofs.lemmas.told_harvests.Holding.{held_noted}
use Rattle.law_queues.specs.harvest_laws.Holds.{IsUnderWay, IsToCome, HoldsEach}
use Rattle.law_queues.proofs.lemmas.harvest_laws.Places.{one_sooner, one_later, unmoved_noted}
use Rattle.law_queues.specs.harvest_laws.HeldLaws.{AreThere}
use Rattle.law_queues.proofs.lemmas.harvest_laws.Stages.{AreBlocks, told_in_all, stages_unmoved, stages_told, cut_told, request_told}

-- ---- notes that stay

told_alike : (note now : ℕ → QtdNote) (b i : ℕ) → ((a : ℕ) → IsOneFrom note b i a → now a ≡ note a) → told_of now b i ≡ told_of note b i
told_alike note now b zero same = refl
told_alike note now b (suc i) same =
    let here : now b ≡ note b = same b (inl refl) in
    let one : (now b).told ≡ (note b).told = ap (λ (z : QtdNote). z.told) here in
    let rest : told_of now (now b).next i ≡ told_of note (note b).next i = ap (λ (z : QtdNote). told_of now z.next i) here ∙ told_alike note now (note b).next i (λ a among. same a (inr among)) in
    omega (arith, one, rest)

-- ---- one transfer more

module _ (d : DriverContent) (e : ℕ) (x : Endpoint) (a : Asked) (h : Holding) (dummy : ℕ) (notes : List QtdNote) (hand : Hand) (parts : StructureSets) (held : ℕ → List ℕ) (here : slice_get d.endpoints e ≡ Some x) (there : AreThere d) (places : AreAtPlaces (note_in d.notes) d.transfers)
    (same : (t : ℕ) (y : Transfer) (c : ℕ) → slice_get d.transfers t ≡ Some y → y.released ≡ false → IsOneFrom (note_at d.notes) y.first y.qtds c → note_at notes c ≡ note_at d.notes c)
    (unmoved : AreUnmoved (note_at notes) x.dummy (length a.stages)) (less : told_of (note_at notes) x.dummy (length a.stages) ≤ a.most) (k : HoldsEach d hand parts held) where
  abbrev new : Transfer
  new = new_transfer e a x.dummy

  abbrev end : Endpoint
  end = with_queued x dummy (length d.transfers)

  still_under_way : (t n : ℕ) (y : Transfer) (xs : List ℕ) → slice_get d.transfers t ≡ Some y → y.released ≡ false → IsUnderWay hand parts n (note_at d.notes) y xs → IsUnderWay hand parts n (note_at notes) y xs
  still_under_way t n y xs at kept w =
      let p : IsAtPlace (note_in d.notes) y = places t y at kept in
      let most = p.most in
      record {
        done = held_noted hand parts n (note_at d.notes) (note_at notes) y.first (y.qtds - y.left) y.place xs (λ c one. same t y c at kept (one_sooner (note_at d.notes) y.first (y.qtds - y.left) y.qtds c (omega arith) one)) w.done;
        rest = unmoved_noted (note_at d.notes) (note_at notes) y.place y.left
            (λ c one. same t y c at kept (one_later d.notes y.first (y.qtds - y.left) y.left y.qtds c (omega (arith, most)) (subst (λ (b : ℕ). IsOneFrom (note_at d.notes) b y.left c) p.place one))) w.rest;
      }

  begins : (n : ℕ) → IsUnderWay hand parts n (note_at notes) new []
  begins n = record {
    done = subst (λ (i : ℕ). AreHeld hand parts n (note_at notes) x.dummy i x.dummy []) (let e : 0 ≡ length a.stages - length a.stages = omega arith in e) (none_held x.dummy);
    rest = unmoved;
  }

  newer : (t : ℕ) (y : Transfer) → slice_get d.transfers t ≡ Some y → t ≡ length d.transfers → ⊥
  newer t y at is = let low = slice_get_within d.transfers t y at in omega (arith, low, is)

  which : (t : ℕ) (y : Transfer) → slice_get (d.transfers ++ new ∷ []) t ≡ Some y → (slice_get d.transfers t ≡ Some y) ⊎ ((t ≡ length d.transfers) × (y ≡ new))
  which t y at = push_which d.transfers new t y at

  -- the next one of the endpoint that was asked
  own_next : (o : Option ℕ) (t : ℕ) (y : Transfer) → x.next ≡ o → told_end x ≡ None → has_stream x.desc.kind ≡ true → first_waiting o (length d.transfers) ≡ Some t → slice_get (d.transfers ++ new ∷ []) t ≡ Some y → IsUnderWay hand parts (32 * x.queue) (note_at notes) y (held e)
  own_next None t y is going on first at =
      let number : length d.transfers ≡ t = same_Some (length d.transfers) t first in
      ⊎_elim (λ (old : slice_get d.transfers t ≡ Some y). absurd (newer t y old (sym number)))
      (λ (one : (t ≡ length d.transfers) × (y ≡ new)).
      subst (λ (v : Transfer). IsUnderWay hand parts (32 * x.queue) (note_at notes) v (held e)) (sym one.1) (subst (IsUnderWay hand parts (32 * x.queue) (note_at notes) new) (sym (k.none e x here is on)) (begins (32 * x.queue)))) (which t y at)
  own_next (Some u) t y is going on first at =
      let number : u ≡ t = same_Some u t first in
      let old = there e u x here going is in
      let y_is : y ≡ old.0 = ⊎_elim (λ (was : slice_get d.transfers t ≡ Some y). same_Some y old.0 (sym was ∙ ap (slice_get d.transfers) (sym number) ∙ old.1))
      (λ (one : (t ≡ length d.transfers) × (y ≡ new)). absurd (newer u old.0 old.1 (number ∙ one.0))) (which t y at) in
      subst (λ (v : Transfer). IsUnderWay hand parts (32 * x.queue) (note_at notes) v (held e)) (sym y_is)
      (still_under_way u (32 * x.queue) old.0 (held e) old.1 old.3 (k.next e u x old.0 (record { endpoint = here; going = going; next = is; transfer = old.1 }) on))

  not_none : (o : Option ℕ) (n : ℕ) → first_waiting o n ≡ None → ⊥
  not_none None n is = cc
  not_none (Some t) n is = cc

  next_kept : (o : Option ℕ) (n t : ℕ) → o ≡ Some t → first_waiting o n ≡ Some t
  next_kept None n t is = absurd cc
  next_kept (Some u) n t is = is

  -- what was the next one of its endpoint is so still
  is_next_still : (t : ℕ) (y : Transfer) → ((w : Endpoint) → slice_get (slice_set d.endpoints e end) y.endpoint ≡ Some w → w.next ≡ Some t → ⊥) → (w : Endpoint) → slice_get d.endpoints y.endpoint ≡ Some w → w.next ≡ Some t → ⊥
  is_next_still t y other w at is =
      ⊎_elim (λ (own : y.endpoint ≡ e).
      other end (ap (slice_get (slice_set d.endpoints e end)) own ∙ set_here d.endpoints e x end here)
      (next_kept x.next (length d.transfers) t (ap (λ (v : Endpoint). v.next) (same_Some x w (sym here ∙ ap (slice_get d.endpoints) (sym own) ∙ at)) ∙ is)))
      (λ (differs : y.endpoint ≢ e). other w (set_there d.endpoints e y.endpoint end differs ∙ at) is) (cases_eq y.endpoint e)

  pub taken_holds : HoldsEach (accepted_transfer d e x a h dummy notes).driver hand parts held
  taken_holds = record {
    next = λ f t w y is on.
        ⊎_elim (λ (own : (f ≡ e) × (w ≡ end)).
        subst (λ (g : ℕ). IsUnderWay hand parts (32 * w.queue) (note_at notes) y (held g)) (sym own.0)
        (subst (λ (v : Endpoint). IsUnderWay hand parts (32 * v.queue) (note_at notes) y (held e)) (sym own.1)
        (own_next x.next t y refl (ap told_end (sym own.1) ∙ is.going) (ap (λ (v : Endpoint). has_stream v.desc.kind) (sym own.1) ∙ on) (ap (λ (v : Endpoint). v.next) (sym own.1) ∙ is.next) is.transfer)))
        (λ (other : (f ≢ e) × (slice_get d.endpoints f ≡ Some w)).
        let old = there f t w other.1 is.going is.next in
        ⊎_elim (λ (was : slice_get d.transfers t ≡ Some y).
        still_under_way t (32 * w.queue) y (held f) was (ap (λ (v : Transfer). v.released) (same_Some y old.0 (sym was ∙ old.1)) ∙ old.3) (k.next f t w y (record { endpoint = other.1; going = is.going; next = is.next; transfer = was }) on))
        (λ (one : (t ≡ length d.transfers) × (y ≡ new)). absurd (newer t old.0 old.1 one.0)) (which t y is.transfer)) (set_which d.endpoints e f x end w here is.endpoint);
    none = λ f w at last on.
        ⊎_elim (λ (own : (f ≡ e) × (w ≡ end)). absurd (not_none x.next (length d.transfers) (ap (λ (v : Endpoint). v.next) (sym own.1) ∙ last)))
        (λ (other : (f ≢ e) × (slice_get d.endpoints f ≡ Some w)). k.none f w other.1 last on) (set_which d.endpoints e f x end w here at);
    to_come = λ t y at waits kept other.
        ⊎_elim (λ (was : slice_get d.transfers t ≡ Some y).
        let c : IsToCome (note_at d.notes) y = k.to_come t y was waits kept (is_next_still t y other) in
        record { place = c.place; left = c.left; rest = unmoved_noted (note_at d.notes) (note_at notes) y.first y.qtds (λ i one. same t y i was kept one) c.rest })
        (λ (one : (t ≡ length d.transfers) × (y ≡ new)). subst (λ (v : Transfer). IsToCome (note_at notes) v) (sym one.1) (record { place = refl; left = refl; rest = unmoved })) (which t y at);
    within = λ t y at kept.
        ⊎_elim (λ (was : slice_get d.transfers t ≡ Some y).
        let alike = told_alike (note_at d.notes) (note_at notes) y.first y.qtds (λ i one. same t y i was kept one) in
        let most = k.within t y was kept in
        omega (arith, alike, most))
        (λ (one : (t ≡ length d.transfers) × (y ≡ new)). subst (λ (v : Transfer). told_of (note_at notes) v.first v.qtds ≤ v.most) (sym one.1) less) (which t y at);
  }

-- ---- it is accepted

pub transfer_holds : (d : DriverContent) (m : Mem) (o : Offered) (hand : Hand) (parts : StructureSets) (held : ℕ → List ℕ) (why : Transfers d m o) → told_in_all why.asked.stages ≤ why.asked.most → Stands (holding d.book m) → HasOwners d → AreThere d → AreAtPlaces (note_in d.notes) d.transfers
    → HoldsEach d hand parts held → HoldsEach o.driver hand parts held
transfer_holds d m o hand parts held why few stands owners there places holds =
    let all = runs_taken (holding d.book m) why.holding_after (needs why.asked.stages) stands why.runs in
    let bs = all.blocks in
    let ss = why.asked.stages in
    let n = length ss in
    let x = why.endpoint in
    let e = why.number in
    let qtds = take n bs in
    let runs = drop n bs in
    let made : new_runs d why.holding_after ≡ bs = ap (drop (length d.book.taken)) all.are.taken ∙ drop_first d.book.taken bs in
    let alive = goes_on_alive x why.goes_on (owners.orderly.steady e x why.here) in
    let was = owners.owned.each.dummy e (runs_of_endpoint x) (ap (option_map runs_of_endpoint) why.here) (ap (λ q. q || x.gone) why.queued ∙ alive) in
    let are = are_new ss owners.owner x.dummy e (length d.transfers) why.some all.are was in
    let notes : List QtdNote = note_stages d.notes ss x.dummy qtds runs in
    let blocks : AreBlocks d.notes ss x.dummy qtds = record {
      within = λ i below. let p = are.elements i below in omega (arith, within_slots (get_or (x.dummy ∷ qtds) i 0) all.are (placed_run (get_or (x.dummy ∷ qtds) i 0) (Element (length d.transfers)) p), all.are.many, owners.owned.sizes);
      distinct = are.distinct;
    } in
    let told = stages_told d.notes ss x.dummy qtds runs blocks in
    let now : HoldsEach (accepted_transfer d e x why.asked why.holding_after (get_or qtds (n - 1) 0) notes).driver hand parts held =
    taken_holds d e x why.asked why.holding_after (get_or qtds (n - 1) 0) notes hand parts held why.here there places
    (λ t y c at kept one.
    let p = one_placed (slot_of d.book.slots) owners.owner d.notes t y.first y.qtds c (owners.owned.each.pieces t (runs_of_transfer y) (ap (option_map runs_of_transfer) at) kept) one in
    notes_apart d.notes ss x.dummy qtds runs c (are.apart c (placed_run c (Element t) p) (not_dummy x.dummy c e t was p)))
    (stages_unmoved d.notes ss x.dummy qtds runs blocks) (omega (arith, told, few)) holds in
    subst (λ (g : Offered). HoldsEach g.driver hand parts held) (sym why.is)
    (subst (λ (rs : List ℕ). HoldsEach (accepted_transfer d e x why.asked why.holding_after (get_or (take n rs) (n - 1) 0) (note_stages d.notes ss x.dummy (take n rs) (drop n rs))).driver hand parts held) (sym made) now)

-- a get or a put
pub asked_holds : (d : DriverContent) (m : Mem) (o : Offered) (hand : Hand) (parts : StructureSets) (held : ℕ → List ℕ) → IsAsked d m o → Stands (holding d.book m) → HasOwners d → AreThere d → AreAtPlaces (note_in d.notes) d.transfers
    → HoldsEach d hand parts held → HoldsEach o.driver hand parts held
asked_holds d m o hand parts held k = transfer_holds d m o hand parts held k.transfers
    (let way = k.transfers.endpoint.desc.name.way in
    let asked : k.transfers.asked.stages ≡ map (stage_by way) (cut k.most k.by) = ap (λ (a : Asked). a.stages) k.asked in
    let long = cut_told way k.most k.by in
    let all_told = ap told_in_all asked in
    let most : k.transfers.asked.most ≡ k.most = ap (λ (a : Asked). a.most) k.asked in
    omega (arith, all_told, long, most))

-- a request
pub requested_holds : (d : DriverContent) (m : Mem) (o : Offered) (hand : Hand) (parts : StructureSets) (held : ℕ → List ℕ) → IsRequested d m o → Stands (holding d.book m) → HasOwners d → AreThere d → AreAtPlaces (note_in d.notes) d.transfers
    → HoldsEach d hand parts held → HoldsEach o.driver hand parts held
requested_holds d m o hand parts held k = transfer_holds d m o hand parts held k.transfers
    (let asked : k.transfers.asked.stages ≡ request_stages k.setup = ap (λ (a : Asked). a.stages) k.asked in
    let long = request_told k.setup in
    let all_told = ap told_in_all asked in
    let most : k.transfers.asked.most ≡ request_length k.setup = ap (λ (a : Asked). a.most) k.asked in
    omega (arith, all_told, long, most))
