-- What is taken for an accepted command has its owners, and all else stands as before.
use Rattle.std.proofs.Common.{◌≡◌, ◌≢◌, ℕ, zero, suc, ◌<◌, ◌==◌, Bool, true, false, ◌||◌, cond, List, [], ◌∷◌, ◌++◌, length, drop, get_or, slice_get, Some, Ok, option_map, ap, sym, subst, ◌∙◌, ⊎_elim, inl, inr, refl, arith}
use Rattle.std.specs.Prelude.{◌⊎◌}
use Rattle.std.proofs.lemmas.Bool.{false≢true}
use Rattle.std.proofs.lemmas.Option.{same_Some}
use Rattle.law_common.proofs.Lists.{drop_first}
use Rattle.law_common.proofs.Numbers.{same_number, other_number}
use Rattle.word_mem.specs.Memory.{Mem}
use Rattle.mem_runs.specs.Book.{Holding, holding, Stands, slot_of}
use Rattle.mem_runs.specs.declared.slots.Slot.{Slot}
use Rattle.mem_runs.specs.declared.slots.Slot.TheVariants.{Empty}
use Rattle.mem_runs.proofs.Changed.{slot_within}
use Rattle.drv_table.specs.DriverContent.{DriverContent}
use Rattle.drv_table.specs.Words.{head_block}
use Rattle.drv_table.specs.Accepting.{Offered, take_runs, new_runs}
use Rattle.drv_table.specs.CancelOffers.{accepted_cancel, endpoint_members, with_cancel, accepted_unchain}
use Rattle.drv_table.specs.Offers.{new_endpoint, placed_endpoint}
use Rattle.drv_table.specs.declared.content.Endpoint.{Endpoint}
use Rattle.drv_table.specs.declared.content.Command.TheVariants as unfinished
use Rattle.law_driver.specs.run_owners.Accepts.{Opens, Chains, Places, Cancels, Unchains}
use Rattle.claims_driver.specs.Owners.{Owner, FrameList, Head, QueueHead, Dummy, Element, Described, Buffer, HasRun, IsRunFor, IsPlaced, EndpointRuns, runs_of_endpoint, endpoint_in, note_in, descriptor_in, Views, views_of, AreOwned, IsOwned}
use Rattle.law_driver.proofs.lemmas.run_owners.Runs.{placed_run, pieces_still, described_still}
use Rattle.law_driver.proofs.lemmas.run_owners.Stays.{stays_same, stays_both, stays_owned, endpoint_stays, begun_notes, or_done}
use Rattle.law_driver.proofs.lemmas.run_owners.Taking.{AreTaken, runs_taken}

-- ---- one more of a list

pub push_case : {X Y : Type 0} (f : X → Y) (xs : List X) (y : X) (i : ℕ) (z : Y) → option_map f (slice_get (xs ++ y ∷ []) i) ≡ Some z → (option_map f (slice_get xs i) ≡ Some z) ⊎ ((i ≡ length xs) × (z ≡ f y))
push_case f [] y zero z e = inr (refl, sym (same_Some (f y) z e))
push_case f [] y (suc i) z e = absurd (cc)
push_case f (x ∷ xs) y zero z e = inl e
push_case f (x ∷ xs) y (suc i) z e =
    ⊎_elim (λ (w : option_map f (slice_get xs i) ≡ Some z). inl w) (λ (w : (i ≡ length xs) × (z ≡ f y)). inr (ap suc w.0, w.1)) (push_case f xs y i z e)

-- ---- the owners of new runs

pub among : ℕ → List ℕ → Bool
among c [] = false
among c (b ∷ bs) = c == b || among c bs

among_at : (bs : List ℕ) (i : ℕ) → i < length bs → among (get_or bs i 0) bs ≡ true
unfolding among
among_at [] i below = absurd (omega arith)
among_at (b ∷ bs) zero below = ap (λ t. t || among b bs) (same_number b)
among_at (b ∷ bs) (suc i) below = or_true (get_or bs i 0 == b) (among (get_or bs i 0) bs) (among_at bs i (omega arith))
  where
    or_true : (p q : Bool) → q ≡ true → p || q ≡ true
    or_true true q e = refl
    or_true false q e = e

among_not : (c : ℕ) (bs : List ℕ) → ((i : ℕ) → i < length bs → get_or bs i 0 ≢ c) → among c bs ≡ false
unfolding among
among_not c [] none = refl
among_not c (b ∷ bs) none =
    ap (λ t. t || among c bs) (other_number c b (λ same. none 0 (omega arith) (sym same))) ∙ among_not c bs (λ i below same. none (suc i) (omega arith) same)

pub given : List ℕ → Owner → (ℕ → Owner) → ℕ → Owner
given bs o owner c = cond (among c bs) o (owner c)

pub given_at : (bs : List ℕ) (o : Owner) (owner : ℕ → Owner) (i : ℕ) → i < length bs → given bs o owner (get_or bs i 0) ≡ o
unfolding given
given_at bs o owner i below = ap (λ t. cond t o (owner (get_or bs i 0))) (among_at bs i below)

pub given_not : (bs : List ℕ) (o : Owner) (owner : ℕ → Owner) (c : ℕ) → ((i : ℕ) → i < length bs → get_or bs i 0 ≢ c) → given bs o owner c ≡ owner c
unfolding given
given_not bs o owner c none = ap (λ t. cond t o (owner c)) (among_not c bs none)

-- ---- what stood goes on standing

no_run : HasRun Empty → ⊥
no_run h = h

pub fresh_differs : {h g : Holding} {ns bs : List ℕ} (i c : ℕ) → AreTaken h g ns bs → i < length bs → HasRun (slot_of h.book.slots c) → get_or bs i 0 ≢ c
fresh_differs {h = h} i c taken below run same =
    no_run (subst HasRun (ap (slot_of h.book.slots) (sym same) ∙ taken.fresh i below) run)

pub still_placed : {h g : Holding} {ns bs : List ℕ} (owner mine : ℕ → Owner) (c : ℕ) (o : Owner) → AreTaken h g ns bs → mine c ≡ owner c → IsPlaced (slot_of h.book.slots) owner c o → IsPlaced (slot_of g.book.slots) mine c o
still_placed owner mine c o taken same p = record {
  owned = same ∙ p.owned;
  run = subst (λ (s : Slot). IsRunFor o s) (sym (taken.old c (placed_run c o p))) p.run;
}

pub within_slots : {h g : Holding} {ns bs : List ℕ} (c : ℕ) → AreTaken h g ns bs → HasRun (slot_of g.book.slots c) → c < length g.book.slots
within_slots {g = g} c taken run = slot_within g.book.slots c (λ none. no_run (subst HasRun none run))

-- ---- an open

-- an endpoint with this queue head and this inactive qTD is added
abbrev pub with_endpoint : DriverContent → Holding → Endpoint → Views
with_endpoint d h y = record (views_of d) { slot = slot_of h.book.slots; endpoint = endpoint_in (d.endpoints ++ y ∷ []) }

pub record IsOpened (d : DriverContent) (h : Holding) (y : ℕ → ℕ → Endpoint) : Type 0 where
  pub mine : ℕ → Owner
  pub each : AreOwned (with_endpoint d h (y (get_or (new_runs d h) 0 0) (get_or (new_runs d h) 1 0))) mine
  pub many : length h.book.slots ≡ length d.book.slots

pub queue_opened : (d : DriverContent) (m : Mem) (owner : ℕ → Owner) (h : Holding) (y : ℕ → ℕ → Endpoint) → ((q k : ℕ) → (y q k).queue ≡ q) → ((q k : ℕ) → (y q k).dummy ≡ k) → Stands (holding d.book m) → take_runs (holding d.book m) (2 ∷ 1 ∷ []) ≡ Ok h → IsOwned d owner → IsOpened d h y
queue_opened d m owner h y queue_is dummy_is stands runs old =
    let all = runs_taken (holding d.book m) h (2 ∷ 1 ∷ []) stands runs in
    let taken = all.are in
    let bs = all.blocks in
    let queue = get_or bs 0 0 in
    let dummy = get_or bs 1 0 in
    let e = length d.endpoints in
    let mine = given (queue ∷ []) (QueueHead e) (given (dummy ∷ []) (Dummy e) owner) in
    let new : new_runs d h ≡ bs = ap (drop (length d.book.taken)) taken.taken ∙ drop_first d.book.taken bs in
    let apart : dummy ≢ queue = taken.distinct 0 1 (omega arith) (omega (arith, taken.long)) in
    let stays : (c : ℕ) (k : Owner) → IsPlaced (slot_of d.book.slots) owner c k → IsPlaced (slot_of h.book.slots) mine c k = λ c k p.
    still_placed owner mine c k taken
    (given_not (queue ∷ []) (QueueHead e) (given (dummy ∷ []) (Dummy e) owner) c (one queue c (fresh_differs 0 c taken (omega (arith, taken.long)) (placed_run c k p)))
    ∙ given_not (dummy ∷ []) (Dummy e) owner c (one dummy c (fresh_differs 1 c taken (omega (arith, taken.long)) (placed_run c k p)))) p in
    let at_queue : IsPlaced (slot_of h.book.slots) mine queue (QueueHead e) = record { owned = given_at (queue ∷ []) (QueueHead e) (given (dummy ∷ []) (Dummy e) owner) 0 (omega arith); run = taken.new 0 (omega (arith, taken.long)) } in
    let at_dummy : IsPlaced (slot_of h.book.slots) mine dummy (Dummy e) = record {
      owned = given_not (queue ∷ []) (QueueHead e) (given (dummy ∷ []) (Dummy e) owner) dummy (one queue dummy (λ same. apart (sym same))) ∙ given_at (dummy ∷ []) (Dummy e) owner 0 (omega arith);
      run = taken.new 1 (omega (arith, taken.long));
    } in
    let now : AreOwned (with_endpoint d h (y queue dummy)) mine = record {
      list = stays 0 FrameList old.each.list;
      head = stays head_block Head old.each.head;
      queue = λ i x there on.
          ⊎_elim (λ (w : endpoint_in d.endpoints i ≡ Some x). stays x.queue (QueueHead i) (old.each.queue i x w on))
          (λ (w : (i ≡ e) × (x ≡ runs_of_endpoint (y queue dummy))).
          subst (λ j. IsPlaced (slot_of h.book.slots) mine x.queue (QueueHead j)) (sym w.0)
          (subst (λ b. IsPlaced (slot_of h.book.slots) mine b (QueueHead e)) (sym (ap (λ (k : EndpointRuns). k.queue) w.1 ∙ queue_is queue dummy)) at_queue))
          (push_case runs_of_endpoint d.endpoints (y queue dummy) i x there);
      dummy = λ i x there on.
          ⊎_elim (λ (w : endpoint_in d.endpoints i ≡ Some x). stays x.dummy (Dummy i) (old.each.dummy i x w on))
          (λ (w : (i ≡ e) × (x ≡ runs_of_endpoint (y queue dummy))).
          subst (λ j. IsPlaced (slot_of h.book.slots) mine x.dummy (Dummy j)) (sym w.0)
          (subst (λ b. IsPlaced (slot_of h.book.slots) mine b (Dummy e)) (sym (ap (λ (k : EndpointRuns). k.dummy) w.1 ∙ dummy_is queue dummy)) at_dummy))
          (push_case runs_of_endpoint d.endpoints (y queue dummy) i x there);
      pieces = λ t z there on.
          pieces_still (slot_of d.book.slots) (slot_of h.book.slots) owner mine (note_in d.notes) (note_in d.notes) t z.first z.qtds (λ c p. stays c (Element t) p) (λ c p. stays c (Buffer t) p) (λ c p. refl) (old.each.pieces t z there on);
      described = λ t z there iso on.
          described_still (slot_of d.book.slots) (slot_of h.book.slots) owner mine (descriptor_in d.periodic.notes z.first) (descriptor_in d.periodic.notes z.first) t z.first (λ c p. stays c (Described (descriptor_in d.periodic.notes z.first).split t) p) (λ c p. stays c (Buffer t) p) (λ p. refl) (old.each.described t z there iso on);
    } in
    record {
      mine = mine;
      each = subst (λ (rs : List ℕ). AreOwned (with_endpoint d h (y (get_or rs 0 0) (get_or rs 1 0))) mine) (sym new) now;
      many = taken.many;
    }
  where
    one : (b c : ℕ) → b ≢ c → (i : ℕ) → i < length (b ∷ []) → get_or (b ∷ []) i 0 ≢ c
    one b c differs zero below = differs
    one b c differs (suc i) below = absurd (omega arith)

pub open_owned : (d : DriverContent) (m : Mem) (owner : ℕ → Owner) (o : Offered) → Stands (holding d.book m) → Opens d m o → IsOwned d owner → (mine : ℕ → Owner) × IsOwned o.driver mine
open_owned d m owner o stands why old =
    let n = queue_opened d m owner why.holding_after (new_endpoint why.desc) (λ q k. refl) (λ q k. refl) stands why.runs old in (
      n.mine,
      subst (λ (f : Offered). IsOwned f.driver n.mine) (sym why.is) (record { each = n.each; sizes = old.sizes ∙ sym n.many; as_many = old.as_many ∙ sym n.many }),
    )

pub chain_owned : (d : DriverContent) (m : Mem) (owner : ℕ → Owner) (o : Offered) → Stands (holding d.book m) → Chains d m o → IsOwned d owner → (mine : ℕ → Owner) × IsOwned o.driver mine
chain_owned d m owner o stands why old =
    let n = queue_opened d m owner why.holding_after (placed_endpoint why.desc why.placement) (λ q k. refl) (λ q k. refl) stands why.runs old in (
      n.mine,
      subst (λ (f : Offered). IsOwned f.driver n.mine) (sym why.is) (record { each = n.each; sizes = old.sizes ∙ sym n.many; as_many = old.as_many ∙ sym n.many }),
    )

-- an isochronous endpoint has no runs of its own
pub place_owned : (d : DriverContent) (m : Mem) (owner : ℕ → Owner) (o : Offered) → Places d m o → IsOwned d owner → IsOwned o.driver owner
place_owned d m owner o why old =
    let y = placed_endpoint why.desc why.placement 0 0 in
    let bare : (i : ℕ) (x : EndpointRuns) → endpoint_in (d.endpoints ++ y ∷ []) i ≡ Some x → x.bare ≡ false → endpoint_in d.endpoints i ≡ Some x = λ i x there on.
    ⊎_elim (λ (w : endpoint_in d.endpoints i ≡ Some x). w)
    (λ (w : (i ≡ length d.endpoints) × (x ≡ runs_of_endpoint y)).
    absurd (false≢true (sym on ∙ ap (λ (k : EndpointRuns). k.bare) w.1 ∙ ap (λ b. b || false) why.isochronous)))
    (push_case runs_of_endpoint d.endpoints y i x there) in
    subst (λ (f : Offered). IsOwned f.driver owner) (sym why.is)
    (record {
      each = record {
        list = old.each.list;
        head = old.each.head;
        queue = λ i x there on. old.each.queue i x (bare i x there on) on;
        dummy = λ i x there on. old.each.dummy i x (bare i x there on) on;
        pieces = old.each.pieces;
        described = old.each.described;
      };
      sizes = old.sizes;
      as_many = old.as_many;
    })

-- ---- a cancel

pub cancel_owned : (d : DriverContent) (m : Mem) (owner : ℕ → Owner) (o : Offered) → Cancels d m o → IsOwned d owner → IsOwned o.driver owner
cancel_owned d m owner o why old =
    subst (λ (f : Offered). IsOwned f.driver owner) (sym why.is)
    (stays_owned d (accepted_cancel d why.number why.endpoint) owner
    (stays_same d (accepted_cancel d why.number why.endpoint) refl (endpoint_stays d why.number why.endpoint _ why.here refl) (λ i. refl) (λ c. refl) refl refl) old)

pub unchain_owned : (d : DriverContent) (m : Mem) (owner : ℕ → Owner) (o : Offered) → Unchains d m o → IsOwned d owner → IsOwned o.driver owner
unchain_owned d m owner o why old =
    let members = endpoint_members d why.number why.endpoint why.placement in
    let e = with_cancel d why.number why.endpoint members in
    subst (λ (f : Offered). IsOwned f.driver owner) (sym why.is)
    (stays_owned d (accepted_unchain d why.number why.endpoint members) owner
    (stays_both d e (accepted_unchain d why.number why.endpoint members)
    (stays_same d e refl (endpoint_stays d why.number why.endpoint _ why.here refl) (λ i. refl) (λ c. refl) refl (begun_notes true (record d.periodic { queued = members })))
    (or_done e (unfinished.Unchain why.number))) old)
