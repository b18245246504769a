-- A command that is accepted takes no run but those of what it brings: an open, a transfer, a request and a cancel.
use Rattle.std.proofs.Common.{◌≡◌, ◌≢◌, ℕ, zero, suc, ◌+◌, ◌-◌, ◌<◌, ◌≤◌, ◌||◌, Bool, true, false, List, [], ◌∷◌, ◌++◌, length, take, drop, get_or, set, replicate, slice_get, Some, Ok, option_map, ap, refl, sym, subst, ◌∙◌, ⊎_elim, inl, inr, arith, length-append, length-take, length-drop}
use Rattle.std.proofs.lemmas.Bool.{cases_eq, cases_lt}
use Rattle.std.proofs.lemmas.List.{length-replicate}
use Rattle.std.proofs.lemmas.Option.{slice_get_past}
use Rattle.law_common.proofs.Options.{same_Some}
use Rattle.law_descriptors.proofs.Common.{old_there}
use Rattle.law_driver.proofs.Common.{ring_queue}
use Rattle.law_common.proofs.Lists.{set_here, set_there, drop_first, still_there, pushed_last}
use Rattle.word_mem.specs.Memory.{Mem}
use Rattle.mem_runs.specs.Book.{Holding, holding, Stands, slot_of}
use Rattle.mem_runs.specs.declared.slots.Slot.{Slot}
use Rattle.drv_table.specs.declared.content.Endpoint.{Endpoint}
use Rattle.drv_table.specs.declared.content.Transfer.{Transfer}
use Rattle.drv_table.specs.declared.content.Command.TheVariants as unfinished
use Rattle.drv_table.specs.DriverContent.{DriverContent}
use Rattle.drv_table.specs.Words.{needs}
use Rattle.drv_table.specs.Kinds.{is_iso}
use Rattle.drv_table.specs.Accepting.{Offered, take_runs, new_runs}
use Rattle.drv_table.specs.Offers.{Asked, new_endpoint, placed_endpoint, note_stages, accepted_open, accepted_chain, accepted_iso, accepted_transfer, with_queued, new_transfer}
use Rattle.drv_table.specs.CancelOffers.{accepted_cancel, endpoint_members, with_cancel, accepted_unchain}
use Rattle.law_driver.specs.run_owners.Accepts.{AreShort, Opens, Chains, Places, Transfers, Cancels, Unchains}
use Rattle.claims_driver.specs.Owners.{Owner, Dummy, Element, HasRun, IsPlaced, EndpointRuns, TransferRuns, is_descriptor, runs_of_endpoint, runs_of_transfer, runs_of_note, endpoint_in, transfer_in, note_in, Views, views_of, IsOwned, IsOneOf}
use Rattle.claims_driver.specs.Leaving.{owes, IsOrderly, HasOwners}
use Rattle.law_driver.proofs.lemmas.run_owners.Runs.{placed_run}
use Rattle.law_driver.proofs.lemmas.run_owners.Stays.{stays_same, stays_both, endpoint_stays, begun_notes, or_done}
use Rattle.law_driver.proofs.lemmas.run_owners.Taking.{AreTaken, runs_taken}
use Rattle.law_driver.proofs.lemmas.run_owners.Chains.{buffers_of, notes_apart}
use Rattle.law_driver.proofs.lemmas.run_owners.Accepted.{within_slots}
use Rattle.law_driver.proofs.lemmas.run_owners.Transferred.{are_new, goes_on_alive}
use Rattle.law_driver.proofs.lemmas.lent_runs.Books.{or_done_book}
use Rattle.claims_world.specs.Owned.{IsQueued, AreAllOwned}
use Rattle.law_world.specs.memory.owned_blocks.Owned.{AreQueuesHarvested, OwnsAll}
use Rattle.law_world.proofs.lemmas.memory.lemmas.owned_blocks.Whose.{Whose, of_driver, of_endpoint, of_transfer, of_descriptor, queue_blocks, qtd_blocks, blocks_still, endpoint_alike, whose, owned, endpoint_at, place_of}
use Rattle.law_world.proofs.lemmas.memory.lemmas.owned_blocks.Queues.{AreQueues}
use Rattle.law_world.proofs.lemmas.memory.lemmas.owned_blocks.Taken.{takes_only, are_noted, parted}
use Rattle.law_world.proofs.lemmas.memory.lemmas.owned_blocks.Events.{with_book, or_done_harvested}

-- ---- an endpoint is added

abbrev added_views : DriverContent → Holding → Endpoint → Views
added_views d g y = record (views_of d) { slot = slot_of g.book.slots; endpoint = endpoint_in (d.endpoints ++ y ∷ []) }

added_there : (xs : List Endpoint) (y : Endpoint) (e : ℕ) (r : EndpointRuns) → endpoint_in xs e ≡ Some r → endpoint_in (xs ++ y ∷ []) e ≡ Some r
added_there xs y e r there =
    let w = endpoint_at xs e r there in
    ap (option_map runs_of_endpoint) (still_there xs (y ∷ []) e w.endpoint w.here) ∙ ap Some w.runs

added_whose : (d : DriverContent) (g : Holding) (y : Endpoint) (b : ℕ) → Whose (views_of d) b → Whose (added_views d g y) b
added_whose d g y b (of_driver is) = of_driver is
added_whose d g y b (of_endpoint e r is among) = of_endpoint e r (record { here = added_there d.endpoints y e r is.here; queued = is.queued }) among
added_whose d g y b (of_transfer t r is among) = of_transfer t r (record { here = is.here; held = is.held; qtds = is.qtds }) among
added_whose d g y b (of_descriptor t r is among) = of_descriptor t r (record { here = is.here; held = is.held; descriptor = is.descriptor }) among

two_of : (b : ℕ) (bs : List ℕ) → length bs ≡ 2 → IsOneOf b bs → IsOneOf b (get_or bs 0 0 ∷ get_or bs 1 0 ∷ [])
two_of b [] long among = absurd among
two_of b (x ∷ y ∷ []) long among = among
two_of b _ long among = absurd (omega (arith, long))

-- with the two runs that were taken
added_all : (d : DriverContent) (m : Mem) (h : Holding) (y : Endpoint) → Stands (holding d.book m) → take_runs (holding d.book m) (2 ∷ 1 ∷ []) ≡ Ok h → y.queue ≡ get_or (new_runs d h) 0 0 → y.dummy ≡ get_or (new_runs d h) 1 0
    → is_iso y.desc.kind || y.gone ≡ false → AreAllOwned d → (b : ℕ) → HasRun (slot_of h.book.slots b) → Whose (added_views d h y) b
added_all d m h y stands runs queue dummy bare old b run =
    ⊎_elim (λ (was : HasRun (slot_of d.book.slots b)). added_whose d h y b (whose (views_of d) b (old b was)))
    (λ (among : IsOneOf b (new_runs d h)).
    let both = two_of b (new_runs d h) many among in
    of_endpoint (length d.endpoints) (runs_of_endpoint y) (record { here = ap (option_map runs_of_endpoint) (pushed_last d.endpoints y); queued = bare })
    (subst (λ (q : ℕ). IsOneOf b (q ∷ y.dummy ∷ [])) (sym queue) (subst (λ (k : ℕ). IsOneOf b (get_or (new_runs d h) 0 0 ∷ k ∷ [])) (sym dummy) both)))
    (takes_only (holding d.book m) h (2 ∷ 1 ∷ []) runs b run)
  where
    many : length (new_runs d h) ≡ 2
    many =
        let all = runs_taken (holding d.book m) h (2 ∷ 1 ∷ []) stands runs in
        ap length (ap (drop (length d.book.taken)) all.are.taken ∙ drop_first d.book.taken all.blocks) ∙ all.are.long

pub open_owns : (d : DriverContent) (m : Mem) (o : Offered) → Stands (holding d.book m) → Opens d m o → OwnsAll d → OwnsAll o.driver
open_owns d m o stands why old =
    let h = why.holding_after in
    let q = get_or (new_runs d h) 0 0 in
    let k = get_or (new_runs d h) 1 0 in
    let y = new_endpoint why.desc q k in
    let all : AreAllOwned (accepted_open d why.desc h q k).driver = λ b run.
    owned (added_views d h y) b (added_all d m h y stands why.runs refl refl (ap (λ (c : Bool). c || false) (ring_queue why.desc.kind why.ring)) old.all b run) in
    subst (λ (f : Offered). OwnsAll f.driver) (sym why.is) (record { all = all; queues = old.queues })

pub chain_owns : (d : DriverContent) (m : Mem) (o : Offered) → Stands (holding d.book m) → Chains d m o → OwnsAll d → OwnsAll o.driver
chain_owns d m o stands why old =
    let h = why.holding_after in
    let q = get_or (new_runs d h) 0 0 in
    let k = get_or (new_runs d h) 1 0 in
    let y = placed_endpoint why.desc why.placement q k in
    let all : AreAllOwned (accepted_chain d why.desc why.placement h q k).driver = λ b run.
    owned (added_views d h y) b (added_all d m h y stands why.runs refl refl (ap (λ (c : Bool). c || false) why.queued) old.all b run) in
    subst (λ (f : Offered). OwnsAll f.driver) (sym why.is) (record { all = all; queues = old.queues })

-- an isochronous endpoint has no runs of its own
pub place_owns : (d : DriverContent) (m : Mem) (o : Offered) → Places d m o → OwnsAll d → OwnsAll o.driver
place_owns d m o why old =
    let y = placed_endpoint why.desc why.placement 0 0 in
    let all : AreAllOwned (accepted_iso d why.desc why.placement) = λ b run.
    owned (added_views d (holding d.book m) y) b (added_whose d (holding d.book m) y b (whose (views_of d) b (old.all b run))) in
    subst (λ (f : Offered). OwnsAll f.driver) (sym why.is) (record { all = all; queues = old.queues })

-- ---- a cancel

pub cancel_owns : (d : DriverContent) (m : Mem) (o : Offered) → Cancels d m o → OwnsAll d → OwnsAll o.driver
cancel_owns d m o why old =
    subst (λ (f : Offered). OwnsAll f.driver) (sym why.is)
    (with_book d (accepted_cancel d why.number why.endpoint)
    (stays_same d (accepted_cancel d why.number why.endpoint) refl (endpoint_stays d why.number why.endpoint _ why.here refl) (λ i. refl) (λ c. refl) refl refl) refl refl old)

pub unchain_owns : (d : DriverContent) (m : Mem) (o : Offered) → Unchains d m o → OwnsAll d → OwnsAll o.driver
unchain_owns d m o why old =
    let members = endpoint_members d why.number why.endpoint why.placement in
    let e = with_cancel d why.number why.endpoint members in
    let f = accepted_unchain d why.number why.endpoint members in
    subst (λ (g : Offered). OwnsAll g.driver) (sym why.is)
    (with_book d f
    (stays_both d e f
    (stays_same d e refl (endpoint_stays d why.number why.endpoint _ why.here refl) (λ i. refl) (λ c. refl) refl (begun_notes true (record d.periodic { queued = members })))
    (or_done e (unfinished.Unchain why.number)))
    (or_done_book e (unfinished.Unchain why.number)) (or_done_harvested e (unfinished.Unchain why.number)) old)

-- ---- a transfer

abbrev transfer_views : DriverContent → Holding → ℕ → Endpoint → Asked → List ℕ → Views
transfer_views d g e x a bs = record (views_of d) {
  slot = slot_of g.book.slots;
  endpoint = endpoint_in (set d.endpoints e (with_queued x (get_or (take (length a.stages) bs) (length a.stages - 1) 0) (length d.transfers)));
  transfer = transfer_in (d.transfers ++ new_transfer e a x.dummy ∷ []);
  note = note_in (note_stages d.notes a.stages x.dummy (take (length a.stages) bs) (drop (length a.stages) bs));
}

element_dummy : (o : Owner) (u e : ℕ) → o ≡ Element u → o ≡ Dummy e → ⊥
element_dummy o u e one two = cc

-- the new transfer, of endpoint e, takes the inactive qTD as its first, and the last of its new ones is inactive
abbrev new_runs_of : DriverContent → ℕ → Endpoint → Asked → TransferRuns
new_runs_of d e x a = runs_of_transfer (new_transfer e a x.dummy)

record IsChainNew (d : DriverContent) (g : Holding) (e : ℕ) (x : Endpoint) (a : Asked) (bs : List ℕ) : Type 0 where
  here : slice_get d.endpoints e ≡ Some x
  alive : is_iso x.desc.kind || x.gone ≡ false
  sort : is_descriptor a.sort ≡ false
  some : 1 ≤ length a.stages
  long : length bs ≡ length a.stages + length (buffers_of a.stages)
  same : (u : ℕ) (r : TransferRuns) → IsQueued (views_of d) u r → qtd_blocks (transfer_views d g e x a bs) r ≡ qtd_blocks (views_of d) r
  qtd : (i : ℕ) → i < length a.stages → IsOneOf (get_or (x.dummy ∷ take (length a.stages) bs) i 0) (qtd_blocks (transfer_views d g e x a bs) (new_runs_of d e x a))
  buffer : (i : ℕ) → i < length (buffers_of a.stages) → IsOneOf (get_or (drop (length a.stages) bs) i 0) (qtd_blocks (transfer_views d g e x a bs) (new_runs_of d e x a))

chain_new : {h g : Holding} {bs : List ℕ} (d : DriverContent) (owner : ℕ → Owner) (e : ℕ) (x : Endpoint) (a : Asked) → AreTaken h g (needs a.stages) bs → h.book.slots ≡ d.book.slots → slice_get d.endpoints e ≡ Some x → is_iso x.desc.kind || x.gone ≡ false
    → is_descriptor a.sort ≡ false → AreShort a.stages → 1 ≤ length a.stages → IsOwned d owner → IsChainNew d g e x a bs
chain_new {h = h} {g = g} {bs = bs} d owner e x a taken slots here alive sort short some own =
    let ss = a.stages in
    let n = length ss in
    let qtds = take n bs in
    let runs = drop n bs in
    let b = x.dummy in
    let t = length d.transfers in
    let was0 = own.each.dummy e (runs_of_endpoint x) (ap (option_map runs_of_endpoint) here) alive in
    let was : IsPlaced (slot_of h.book.slots) owner b (Dummy e) = subst (λ (zs : List Slot). IsPlaced (slot_of zs) owner b (Dummy e)) (sym slots) was0 in
    let new = are_new ss owner b e t some taken was in
    let long : length bs ≡ n + length (buffers_of ss) = taken.long ∙ length-append (replicate n 1) (buffers_of ss) ∙ ap (λ (k : ℕ). k + length (buffers_of ss)) (length-replicate n 1) in
    let noted = are_noted d.notes ss b qtds runs short
    (λ i below. let p = new.elements i below in omega (arith, within_slots (get_or (b ∷ qtds) i 0) taken (placed_run (get_or (b ∷ qtds) i 0) (Element t) p), taken.many, own.sizes, ap length slots))
    new.distinct (omega (arith, length-drop n bs, long)) in
    record {
      here = here;
      alive = alive;
      sort = sort;
      some = some;
      long = long;
      same = λ u r is.
          blocks_still (slot_of d.book.slots) owner (note_in d.notes) (note_in (note_stages d.notes ss b qtds runs)) u r.first r.qtds
          (λ c p.
          ap runs_of_note
          (notes_apart d.notes ss b qtds runs c
          (new.apart c (subst (λ (zs : List Slot). HasRun (slot_of zs c)) (sym slots) (placed_run c (Element u) p))
          (λ same. element_dummy (owner c) u e p.owned (ap owner same ∙ was.owned)))))
          (own.each.pieces u r is.here is.held);
      qtd = noted.qtd;
      buffer = noted.buffer;
    }

the_new : (d : DriverContent) (g : Holding) (e : ℕ) (x : Endpoint) (a : Asked) (bs : List ℕ) (c : ℕ) → IsChainNew d g e x a bs → IsOneOf c (qtd_blocks (transfer_views d g e x a bs) (new_runs_of d e x a)) → Whose (transfer_views d g e x a bs) c
the_new d g e x a bs c new among =
    of_transfer (length d.transfers) (new_runs_of d e x a) (record { here = ap (option_map runs_of_transfer) (pushed_last d.transfers (new_transfer e a x.dummy)); held = refl; qtds = new.sort }) among

-- what stood
stood_whose : (d : DriverContent) (g : Holding) (e : ℕ) (x : Endpoint) (a : Asked) (bs : List ℕ) (b : ℕ) → IsChainNew d g e x a bs → Whose (views_of d) b → Whose (transfer_views d g e x a bs) b
stood_whose d g e x a bs b new (of_driver is) = of_driver is
stood_whose d g e x a bs b new (of_endpoint u r is among) =
    ⊎_elim (λ (same : u ≡ e). own same (same_Some (runs_of_endpoint x) r (sym (ap (option_map runs_of_endpoint) new.here) ∙ ap (endpoint_in d.endpoints) (sym same) ∙ is.here)) among)
    (λ (differs : u ≢ e).
    endpoint_alike (views_of d) (transfer_views d g e x a bs) u b r (ap (option_map runs_of_endpoint) (set_there d.endpoints e u (with_queued x (get_or (take (length a.stages) bs) (length a.stages - 1) 0) (length d.transfers)) differs)) is among)
    (cases_eq u e)
  where
    own : u ≡ e → runs_of_endpoint x ≡ r → IsOneOf b (queue_blocks r) → Whose (transfer_views d g e x a bs) b
    own same at (inl queue) =
        of_endpoint e (runs_of_endpoint (with_queued x (get_or (take (length a.stages) bs) (length a.stages - 1) 0) (length d.transfers)))
        (record { here = ap (option_map runs_of_endpoint) (set_here d.endpoints e x (with_queued x (get_or (take (length a.stages) bs) (length a.stages - 1) 0) (length d.transfers)) new.here); queued = new.alive })
        (inl (queue ∙ ap (λ (q : EndpointRuns). q.queue) (sym at)))
    own same at (inr (inl last)) =
        the_new d g e x a bs b new
        (subst (λ (c : ℕ). IsOneOf c (qtd_blocks (transfer_views d g e x a bs) (new_runs_of d e x a))) (ap (λ (q : EndpointRuns). q.dummy) at ∙ sym last) (new.qtd 0 (omega (arith, new.some))))
    own same at (inr (inr none)) = absurd none
stood_whose d g e x a bs b new (of_transfer t r is among) =
    of_transfer t r (record { here = old_there d.transfers (new_transfer e a x.dummy ∷ []) t r is.here; held = is.held; qtds = is.qtds }) (subst (IsOneOf b) (sym (new.same t r is)) among)
stood_whose d g e x a bs b new (of_descriptor t r is among) =
    of_descriptor t r (record { here = old_there d.transfers (new_transfer e a x.dummy ∷ []) t r is.here; held = is.held; descriptor = is.descriptor }) among

-- what was taken
taken_whose : (d : DriverContent) (g : Holding) (e : ℕ) (x : Endpoint) (a : Asked) (bs : List ℕ) (b : ℕ) → IsChainNew d g e x a bs → IsOneOf b bs → Whose (transfer_views d g e x a bs) b
taken_whose d g e x a bs b new among = ⊎_elim qtd buffer (parted (length a.stages) b bs among)
  where
    qtd : IsOneOf b (take (length a.stages) bs) → Whose (transfer_views d g e x a bs) b
    qtd one =
        let p = place_of b (take (length a.stages) bs) one in
        let many = length-take (length a.stages) bs in
        ⊎_elim
        (λ (same : p.place ≡ length a.stages - 1).
        let y = with_queued x (get_or (take (length a.stages) bs) (length a.stages - 1) 0) (length d.transfers) in
        of_endpoint e (runs_of_endpoint y) (record { here = ap (option_map runs_of_endpoint) (set_here d.endpoints e x y new.here); queued = new.alive })
        (inr (inl (sym p.is ∙ ap (λ (i : ℕ). get_or (take (length a.stages) bs) i 0) same))))
        (λ (differs : p.place ≢ length a.stages - 1).
        let below = p.below in
        the_new d g e x a bs b new
        (subst (λ (c : ℕ). IsOneOf c (qtd_blocks (transfer_views d g e x a bs) (new_runs_of d e x a))) p.is (new.qtd (suc p.place) (omega (arith, below, many, new.some, new.long, differs)))))
        (cases_eq p.place (length a.stages - 1))

    buffer : IsOneOf b (drop (length a.stages) bs) → Whose (transfer_views d g e x a bs) b
    buffer one =
        let p = place_of b (drop (length a.stages) bs) one in
        let many = length-drop (length a.stages) bs in
        let below = p.below in
        the_new d g e x a bs b new
        (subst (λ (c : ℕ). IsOneOf c (qtd_blocks (transfer_views d g e x a bs) (new_runs_of d e x a))) p.is (new.buffer p.place (omega (arith, below, many, new.long))))

-- none of the new transfers is to be given back
pub pushed_queues : (d : DriverContent) (us : List Transfer) → IsOrderly d → AreQueuesHarvested d → AreQueues d.harvested (d.transfers ++ us)
pushed_queues d us order old t y some there =
    ⊎_elim (λ (low : t < length d.transfers). old t y some (was d.transfers us t low ∙ there))
    (λ (high : length d.transfers ≤ t). let none = ap owes (slice_get_past d.transfers t high) in absurd (omega (arith, none, some, order.harvests t)))
    (cases_lt t (length d.transfers))
  where
    was : (xs ys : List Transfer) (i : ℕ) → i < length xs → transfer_in xs i ≡ transfer_in (xs ++ ys) i
    was [] ys i low = absurd (omega (arith, low))
    was (x ∷ xs) ys zero low = refl
    was (x ∷ xs) ys (suc i) low = was xs ys i (omega (arith, low))

pub transfer_owns : (d : DriverContent) (m : Mem) (o : Offered) → Stands (holding d.book m) → Transfers d m o → HasOwners d → OwnsAll d → OwnsAll o.driver
transfer_owns d m o stands why owners old =
    let h = why.holding_after in
    let a = why.asked in
    let n = length a.stages in
    let x = why.endpoint in
    let all = runs_taken (holding d.book m) h (needs a.stages) stands why.runs in
    let bs = all.blocks in
    let now = new_runs d h in
    let is : now ≡ bs = ap (drop (length d.book.taken)) all.are.taken ∙ drop_first d.book.taken bs in
    let alive = goes_on_alive x why.goes_on (owners.orderly.steady why.number x why.here) in
    let kept : is_iso x.desc.kind || x.gone ≡ false = ap (λ (k : Bool). k || x.gone) why.queued ∙ alive in
    let new = subst (λ (rs : List ℕ). IsChainNew d h why.number x a rs) (sym is) (chain_new d owners.owner why.number x a all.are refl why.here kept why.sort why.short why.some owners.owned) in
    let every : AreAllOwned (accepted_transfer d why.number x a h (get_or (take n now) (n - 1) 0) (note_stages d.notes a.stages x.dummy (take n now) (drop n now))).driver = λ b run.
    owned (transfer_views d h why.number x a now) b
    (⊎_elim (λ (was : HasRun (slot_of d.book.slots b)). stood_whose d h why.number x a now b new (whose (views_of d) b (old.all b was)))
    (λ (among : IsOneOf b now). taken_whose d h why.number x a now b new among)
    (takes_only (holding d.book m) h (needs a.stages) why.runs b run)) in
    subst (λ (f : Offered). OwnsAll f.driver) (sym why.is) (record { all = every; queues = pushed_queues d (new_transfer why.number a x.dummy ∷ []) owners.orderly old.queues })
