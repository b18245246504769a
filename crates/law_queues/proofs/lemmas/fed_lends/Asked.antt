-- An accepted get or put leaves what is fed, and its first qTD is the one that is to be published.
use Rattle.std.proofs.Common.{◌≡◌, ◌≢◌, ℕ, zero, suc, ◌+◌, ◌-◌, ◌*◌, ◌<◌, ◌≤◌, Bool, true, false, not, ◌&&◌, ◌||◌, ◌==◌, cond, nat_eq, List, [], ◌∷◌, ◌++◌, length, set, take, drop, get_or, slice_get, Option, Some, None, option_map, ap, sym, subst, ◌∙◌, ⊎_elim, inl, inr, refl, arith}
use Rattle.std.specs.Prelude.{◌⊎◌}
use Rattle.std.proofs.lemmas.Bool.{cases_eq, false≢true}
use Rattle.std.proofs.lemmas.Bool.Decides.{nat_tests}
use Rattle.std.proofs.lemmas.Option.{same_Some}
use Rattle.law_common.proofs.Lists.{push_which, some_below, drop_first, set_here, set_there}
use Rattle.law_queues.proofs.Common.{piece_more, none_unpublished, drop_all}
use Rattle.word_mem.specs.Memory.{Mem}
use Rattle.mem_runs.specs.Book.{Holding, holding, Stands, slot_of}
use Rattle.mem_runs.specs.declared.slots.Slot.{Slot}
use Rattle.mem_runs.specs.declared.slots.Slot.TheVariants.{Empty, Keeps, Lends}
use Rattle.drv_table.specs.declared.content.Endpoint.{Endpoint}
use Rattle.drv_table.specs.declared.content.Transfer.{Transfer}
use Rattle.drv_table.specs.declared.content.QtdNote.{QtdNote}
use Rattle.drv_table.specs.declared.content.Command.{Command}
use Rattle.drv_table.specs.declared.content.Command.TheVariants as unfinished
use Rattle.drv_table.specs.DriverContent.{DriverContent}
use Rattle.drv_table.specs.Words.{needs, dummy_qtd}
use Rattle.drv_table.specs.Harvests.{note_at}
use Rattle.drv_table.specs.Accepting.{Offered, new_runs}
use Rattle.drv_table.specs.Offers.{Asked, note_stages, accepted_transfer, with_queued, new_transfer}
use Rattle.law_driver.specs.run_owners.Accepts.{Transfers}
use Rattle.claims_driver.specs.Leaving.{HasOwners}
use Rattle.claims_driver.specs.Owners.{Owner, Element, Dummy, HasRun, IsPlaced, ArePieces, NoteRuns, runs_of_endpoint, runs_of_transfer, runs_of_note, note_in}
use Rattle.law_driver.proofs.lemmas.run_owners.Runs.{placed_run}
use Rattle.law_driver.proofs.lemmas.run_owners.Taking.{runs_taken}
use Rattle.law_driver.proofs.lemmas.run_owners.Chains.{notes_apart}
use Rattle.law_driver.proofs.lemmas.run_owners.Transferred.{are_new, goes_on_alive}
use Rattle.claims_driver.specs.LentRuns.{begins_in, still_lends, AreLent}
use Rattle.law_structures.specs.lent_structures.Structures.{Element as ElementAt, StructureSets}
use Rattle.law_driver_ring.specs.Inventory.{IsLent}
use Rattle.law_driver.specs.chained_transfers.Asynchronous.{OnlyAsynchronous}
use Rattle.law_driver.proofs.lemmas.chained_transfers.BulkAndControl.{not_iso}
use Rattle.law_ring.specs.Told.{Endpoint as Told}
use Rattle.law_driver.specs.chained_transfers.Turns.{AreAtPlaces}
use Rattle.law_driver.specs.chained_transfers.Chains.{piece_at}
use Rattle.law_driver.specs.chained_transfers.Out.{pieces_from, unpublished, passed, out_of_transfer, out_of}
use Rattle.law_driver.proofs.lemmas.chained_transfers.Chained.{pieces_same}
use Rattle.law_driver.proofs.lemmas.chained_transfers.Queued.{not_dummy}
use Rattle.law_driver_ring.specs.fed_queues.Fed.{IsPieceFed, unpublished_of, IsPublished, sized}
use Rattle.law_driver_ring.specs.fed_queues.Places.{IsLast}
use Rattle.law_queues.specs.fed_lends.Commands.{QueuesStand}
use Rattle.law_driver_ring.proofs.lemmas.fed_queues.Places.{SameLife, same_life, WasLike, SameQueues, met_stays, streams_stay}

-- ---- a slot that isn't kept

pub not_taken : (d : DriverContent) (b : ℕ) → AreLent d → d.command ≡ None → HasRun (slot_of d.book.slots b) → IsLent (slot_of d.book.slots b)
not_taken d b lent idle has = by (slot_of d.book.slots b) refl has
  where
    none : d.book.taken ≡ []
    none = lent.lent (ap (λ (c : Option Command). still_lends c d.made) idle)

    by : (s : Slot) → slot_of d.book.slots b ≡ s → HasRun s → IsLent s
    by Empty is has = has
    by (Lends r) is has = tt
    by (Keeps r) is has = let k = lent.kept b r is in let e : begins_in b d.book.taken ≡ false = ap (begins_in b) none in absurd (false≢true (sym e ∙ k))

-- ---- a piece that is placed

pub piece_placed : (slot : ℕ → Slot) (owner : ℕ → Owner) (note : ℕ → NoteRuns) (t b n : ℕ) → ArePieces slot owner note t b n → (i : ℕ) → i < n → IsPlaced slot owner (piece_at note b i) (Element t)
piece_placed slot owner note t b zero all i below = absurd (omega arith)
piece_placed slot owner note t b (suc n) all zero below = all.0.element
piece_placed slot owner note t b (suc n) all (suc i) below = piece_placed slot owner note t (note b).next n all.1 i (omega arith)

-- ---- a driver that has one transfer more, whose qTDs are still to be lent

pub record IsTakenOn (d : DriverContent) (slot : ℕ → Slot) (e : ℕ) (x : Endpoint) (a : Asked) (dummy : ℕ) (notes : List QtdNote) : Type 0 where
  pub idle : d.command ≡ None
  pub here : slice_get d.endpoints e ≡ Some x
  pub alive : x.gone ≡ false
  pub notes_same : (t i : ℕ) (y : Transfer) → slice_get d.transfers t ≡ Some y → y.released ≡ false → i < y.qtds
      → note_at notes (piece_at (note_in d.notes) y.first i) ≡ note_at d.notes (piece_at (note_in d.notes) y.first i)
  pub pieces_are : (t i : ℕ) (y : Transfer) → slice_get d.transfers t ≡ Some y → y.released ≡ false → i ≤ y.qtds → piece_at (note_in notes) y.first i ≡ piece_at (note_in d.notes) y.first i
  pub lists_are : (t i n : ℕ) (y : Transfer) → slice_get d.transfers t ≡ Some y → y.released ≡ false → i + n ≤ y.qtds
      → pieces_from (note_in notes) (piece_at (note_in d.notes) y.first i) n ≡ pieces_from (note_in d.notes) (piece_at (note_in d.notes) y.first i) n
  pub slots : (i : ℕ) (z : Endpoint) → slice_get d.endpoints i ≡ Some z → z.gone ≡ false → slot z.dummy ≡ slot_of d.book.slots z.dummy
  pub first_lent : IsLent (slot_of d.book.slots x.dummy)
  pub kept : IsLent (slot dummy) → ⊥

-- the lists of blocks
pieces_list : (note other : ℕ → NoteRuns) (b n : ℕ) → ((i : ℕ) → i < n → other (piece_at note b i) ≡ note (piece_at note b i)) → pieces_from other b n ≡ pieces_from note b n
pieces_list note other b zero same = refl
pieces_list note other b (suc n) same =
    let here : other b ≡ note b = same 0 (omega arith) in
    ap (λ (r : NoteRuns). 32 * b ∷ pieces_from other r.next n) here
    ∙ ap (λ xs. 32 * b ∷ xs) (pieces_list note other (note b).next n (λ i below. same (suc i) (omega arith)))

abbrev pub dummy_in : ℕ → List ℕ → ℕ
dummy_in n rs = get_or (take n rs) (n - 1) 0

abbrev pub notes_in : DriverContent → Asked → Endpoint → List ℕ → List QtdNote
notes_in d a x rs = note_stages d.notes a.stages x.dummy (take (length a.stages) rs) (drop (length a.stages) rs)

pub taken_on : (d : DriverContent) (m : Mem) (o : Offered) (why : Transfers d m o) → Stands (holding d.book m) → HasOwners d → AreLent d → OnlyAsynchronous d
    → (IsLent (slot_of why.holding_after.book.slots (dummy_in (length why.asked.stages) (new_runs d why.holding_after))) → ⊥)
    → IsTakenOn d (slot_of why.holding_after.book.slots) why.number why.endpoint why.asked (dummy_in (length why.asked.stages) (new_runs d why.holding_after)) (notes_in d why.asked why.endpoint (new_runs d why.holding_after))
taken_on d m o why stands owners lent only =
    let all = runs_taken (holding d.book m) why.holding_after (needs why.asked.stages) stands why.runs in
    let bs = all.blocks in
    let ss = why.asked.stages in
    let n = length ss in
    let x = why.endpoint in
    let e = why.number in
    let qtds = take n bs in
    let runs = drop n bs in
    let new : new_runs d why.holding_after ≡ bs = ap (drop (length d.book.taken)) all.are.taken ∙ drop_first d.book.taken bs in
    let alive = goes_on_alive x why.goes_on (owners.orderly.steady e x why.here) in
    let was = owners.owned.each.dummy e (runs_of_endpoint x) (ap (option_map runs_of_endpoint) why.here) (ap (λ k. k || x.gone) why.queued ∙ alive) in
    let are = are_new ss owners.owner x.dummy e (length d.transfers) why.some all.are was in
    let notes = note_stages d.notes ss x.dummy qtds runs in
    let pieces : (t : ℕ) (y : Transfer) → slice_get d.transfers t ≡ Some y → y.released ≡ false → ArePieces (slot_of d.book.slots) owners.owner (note_in d.notes) t y.first y.qtds =
    λ t y there held. owners.owned.each.pieces t (runs_of_transfer y) (ap (option_map runs_of_transfer) there) held in
    let same : (c t : ℕ) → IsPlaced (slot_of d.book.slots) owners.owner c (Element t) → note_at notes c ≡ note_at d.notes c =
    λ c t p. notes_apart d.notes ss x.dummy qtds runs c (are.apart c (placed_run c (Element t) p) (not_dummy x.dummy c e t was p)) in
    let now : (IsLent (slot_of why.holding_after.book.slots (dummy_in n bs)) → ⊥) → IsTakenOn d (slot_of why.holding_after.book.slots) e x why.asked (dummy_in n bs) (notes_in d why.asked x bs) = λ not. record {
      idle = why.idle;
      here = why.here;
      alive = alive;
      notes_same = λ t i y there held below. same _ t (piece_placed (slot_of d.book.slots) owners.owner (note_in d.notes) t y.first y.qtds (pieces t y there held) i below);
      pieces_are = λ t i y there held below.
          pieces_same (slot_of d.book.slots) owners.owner (note_in d.notes) (note_in notes) t y.first y.qtds (pieces t y there held) (λ c p. ap runs_of_note (same c t p)) i below;
      lists_are = λ t i k y there held below.
          pieces_list (note_in d.notes) (note_in notes) (piece_at (note_in d.notes) y.first i) k
          (λ j less. ap runs_of_note (subst (λ (c : ℕ). note_at notes c ≡ note_at d.notes c) (sym (piece_more (note_in d.notes) y.first i j))
          (same _ t (piece_placed (slot_of d.book.slots) owners.owner (note_in d.notes) t y.first y.qtds (pieces t y there held) (i + j) (omega (arith, below, less))))));
      slots = λ i z there still.
          let s = only.endpoints i z there in
          all.are.old z.dummy (placed_run z.dummy (Dummy i) (owners.owned.each.dummy i (runs_of_endpoint z) (ap (option_map runs_of_endpoint) there) (ap (λ k. k || z.gone) (not_iso z.desc s.asynchronous) ∙ still)));
      first_lent = not_taken d x.dummy lent why.idle (placed_run x.dummy (Dummy e) was);
      kept = not;
    } in
    subst (λ (rs : List ℕ). (IsLent (slot_of why.holding_after.book.slots (dummy_in n rs)) → ⊥) → IsTakenOn d (slot_of why.holding_after.book.slots) e x why.asked (dummy_in n rs) (notes_in d why.asked x rs)) (sym new) now

-- ---- what it leaves

pub set_which : {X : Type 0} (xs : List X) (t k : ℕ) (x y z : X) → slice_get xs t ≡ Some x → slice_get (set xs t y) k ≡ Some z → ((k ≡ t) × (z ≡ y)) ⊎ ((k ≢ t) × (slice_get xs k ≡ Some z))
set_which xs t k x y z here there = ⊎_elim
    (λ (own : k ≡ t). inl (own, sym (same_Some y z (sym (set_here xs t x y here) ∙ ap (slice_get (set xs t y)) (sym own) ∙ there))))
    (λ (other : k ≢ t). inr (other, sym (set_there xs t k y other) ∙ there)) (cases_eq k t)

unpublished_older : (c : Option Command) (made t n q : ℕ) → t < n → cond (nat_eq (suc t) (suc n)) (unpublished c made q) 0 ≡ 0
unpublished_older c made t n q less = by (nat_eq (suc t) (suc n)) refl
  where
    by : (b : Bool) → nat_eq (suc t) (suc n) ≡ b → cond b (unpublished c made q) 0 ≡ 0
    by true is = let e : suc t ≡ suc n = grind (arith, nat_tests) in absurd (omega (arith, e, less))
    by false is = refl

pushed_length : {X : Type 0} (xs : List X) (x : X) → length (xs ++ x ∷ []) ≡ suc (length xs)
pushed_length [] x = refl
pushed_length (y ∷ ys) x = ap suc (pushed_length ys x)

newest_unpublished : (c : Option Command) (made n q : ℕ) → cond (nat_eq (suc n) (suc n)) (unpublished c made q) 0 ≡ unpublished c made q
newest_unpublished c made n q = by (nat_eq (suc n) (suc n)) refl
  where
    by : (b : Bool) → nat_eq (suc n) (suc n) ≡ b → cond b (unpublished c made q) 0 ≡ unpublished c made q
    by true is = refl
    by false is = let e : suc n ≢ suc n = grind (arith, nat_tests) in absurd (e refl)

-- what is out: the older transfers, in full, and nothing of the newest
out_first : (note other : ℕ → NoteRuns) (e : ℕ) (z : Transfer) → (z.released ≡ false → pieces_from other z.place z.left ≡ pieces_from note z.place z.left) → out_of_transfer other e 0 z ≡ out_of_transfer note e 0 z
out_first note other e z same = by z.released refl
  where
    by : (b : Bool) → z.released ≡ b → cond (z.endpoint == e && not z.released) (drop (0 + passed z.reported) (pieces_from other z.place z.left)) [] ≡ cond (z.endpoint == e && not z.released) (drop (0 + passed z.reported) (pieces_from note z.place z.left)) []
    by false is = ap (λ xs. cond (z.endpoint == e && not z.released) (drop (0 + passed z.reported) xs) []) (same is)
    by true is = gone other is ∙ sym (gone note is)
      where
        gone : (n : ℕ → NoteRuns) → z.released ≡ true → cond (z.endpoint == e && not z.released) (drop (0 + passed z.reported) (pieces_from n z.place z.left)) [] ≡ []
        gone n is = ap (λ (b : Bool). cond (z.endpoint == e && not b) (drop (0 + passed z.reported) (pieces_from n z.place z.left)) []) is ∙ off (z.endpoint == e)
          where
            off : (b : Bool) → cond (b && false) (drop (0 + passed z.reported) (pieces_from n z.place z.left)) [] ≡ []
            off true = refl
            off false = refl

pub both_lists : (a b c d : List ℕ) → a ≡ c → b ≡ d → a ++ b ≡ c ++ d
both_lists a b c d one more = ap (λ xs. xs ++ b) one ∙ ap (λ xs. c ++ xs) more

out_older : (note other : ℕ → NoteRuns) (e : ℕ) (c : Option Command) (made : ℕ) (ts : List Transfer) (y : Transfer)
    → ((t : ℕ) (z : Transfer) → slice_get ts t ≡ Some z → z.released ≡ false → pieces_from other z.place z.left ≡ pieces_from note z.place z.left)
    → out_of_transfer other e (unpublished c made y.qtds) y ≡ [] → out_of other e c made (ts ++ y ∷ []) ≡ out_of note e None 0 ts
out_older note other e c made [] y same none = ap (λ xs. xs ++ []) none
out_older note other e c made (z ∷ []) y same none =
    both_lists (out_of_transfer other e 0 z) (out_of other e c made (y ∷ [])) (out_of_transfer note e 0 z) [] (out_first note other e z (same 0 z refl)) (ap (λ xs. xs ++ []) none)
out_older note other e c made (z ∷ w ∷ ts) y same none =
    both_lists (out_of_transfer other e 0 z) (out_of other e c made ((w ∷ ts) ++ y ∷ [])) (out_of_transfer note e 0 z) (out_of note e None 0 (w ∷ ts))
    (out_first note other e z (same 0 z refl)) (out_older note other e c made (w ∷ ts) y (λ t v here. same (suc t) v here) none)

none_of_new : (note : ℕ → NoteRuns) (e : ℕ) (b : Bool) (first n : ℕ) → cond b (drop (n + 0) (pieces_from note first n)) [] ≡ []
none_of_new note e true first n = let k : n + 0 ≡ n = omega arith in ap (λ i. drop i (pieces_from note first n)) k ∙ drop_all note first n
none_of_new note e false first n = refl

-- where no command is unfinished all are out
pub out_idle : (note : ℕ → NoteRuns) (e : ℕ) (c : Option Command) (made : ℕ) (ts : List Transfer) → ((m n : ℕ) → unpublished c m n ≡ 0) → out_of note e c made ts ≡ out_of note e None 0 ts
out_idle note e c made [] none = refl
out_idle note e c made (z ∷ []) none = ap (λ n. out_of_transfer note e n z ++ []) (none made z.qtds)
out_idle note e c made (z ∷ w ∷ ts) none = ap (λ xs. out_of_transfer note e 0 z ++ xs) (out_idle note e c made (w ∷ ts) none)

-- ---- the whole

block_of : Option Command → ℕ
block_of (Some (unfinished.Publish b words)) = b
block_of _ = 0

record WasEnd (d : DriverContent) (i : ℕ) (z : Endpoint) : Type 0 where
  endpoint : Endpoint
  there : slice_get d.endpoints i ≡ Some endpoint
  queue : z.queue ≡ endpoint.queue
  desc : z.desc ≡ endpoint.desc
  linked : z.linked ≡ endpoint.linked
  gone : z.gone ≡ endpoint.gone

pub taken_stands : (d : DriverContent) (e : ℕ) (x : Endpoint) (a : Asked) (h : Holding) (dummy : ℕ) (notes : List QtdNote) (member streams : ℕ → Bool) (ends : ℕ → Told) (parts : StructureSets) (order : ℕ → ℕ → ℕ) (out : ℕ → List ℕ)
    → IsTakenOn d (slot_of h.book.slots) e x a dummy notes → AreAtPlaces (note_in d.notes) d.transfers
    → ((words : List ℕ) → (accepted_transfer d e x a h dummy notes).driver.command ≡ Some (unfinished.Publish x.dummy words) → parts (32 * x.queue) (32 * x.dummy) ≡ Some (ElementAt dummy_qtd) → IsPublished (accepted_transfer d e x a h dummy notes).driver parts x.dummy words)
    → QueuesStand d member streams ends parts order out
    → QueuesStand (accepted_transfer d e x a h dummy notes).driver member streams ends parts order out
unfolding block_of
taken_stands d e x a h dummy notes member streams ends parts order out k places publishes old = record {
  met = met_stays d (accepted_transfer d e x a h dummy notes).driver member same old.met;
  streams_are = streams_stay d (accepted_transfer d e x a h dummy notes).driver streams ends same old.streams_are;
  fed = record {
    dummies = λ i z here alive lent.
        ⊎_elim (λ (own : (i ≡ e) × (z ≡ with_queued x dummy (length d.transfers))).
        absurd (k.kept (subst (λ (r : Endpoint). IsLent (slot_of h.book.slots r.dummy)) own.1 lent)))
        (λ (other : (i ≢ e) × (slice_get d.endpoints i ≡ Some z)). old.fed.dummies i z other.1 alive (subst (λ (s : Slot). IsLent s) (k.slots i z other.1 alive) lent))
        (set_which d.endpoints e i x (with_queued x dummy (length d.transfers)) z k.here here);
    pieces = λ t i y z there held here from below.
        ⊎_elim
        (λ (older : slice_get d.transfers t ≡ Some y).
        let w = was y.endpoint z here in
        let fed = old.fed.pieces t i y w.endpoint older held w.there (zero_from d t y k.idle i) below in
        moved t i y z w older held below fed)
        (λ (new : (t ≡ length d.transfers) × (y ≡ new_transfer e a x.dummy)).
        let all : unpublished_of f t y ≡ y.qtds = newest t y new.0 in
        absurd (omega (arith, all, from, below)))
        (push_which d.transfers (new_transfer e a x.dummy) t y there);
    publishes = λ b words is.
        let at : b ≡ x.dummy = same_block b words is in
        subst (λ (c : ℕ). IsPublished f parts c words) (sym at)
        (publishes words (is ∙ ap (λ (c : ℕ). Some (unfinished.Publish c words)) at) (old.fed.dummies e x k.here k.alive k.first_lent));
  };
  last = record {
    dummies = λ i z here alive lent.
        ⊎_elim (λ (own : (i ≡ e) × (z ≡ with_queued x dummy (length d.transfers))).
        absurd (k.kept (subst (λ (r : Endpoint). IsLent (slot_of h.book.slots r.dummy)) own.1 lent)))
        (λ (other : (i ≢ e) × (slice_get d.endpoints i ≡ Some z)). old.last.dummies i z other.1 alive (subst (λ (s : Slot). IsLent s) (k.slots i z other.1 alive) lent))
        (set_which d.endpoints e i x (with_queued x dummy (length d.transfers)) z k.here here);
    taken = λ b words t y z is none newest_one there first here. first_last b words t y z is newest_one there here;
    sorted = λ b words t y z is some. absurd (omega (arith, some));
  };
  out_are = λ i z here met.
      let w = was i z here in
      ap (λ (q : ℕ). out (32 * q)) w.queue ∙ old.out_are i w.endpoint w.there (record { linked = never w.endpoint.queue; kept = sym w.gone ∙ met.kept })
      ∙ out_idle (note_in d.notes) i d.command d.made d.transfers (λ m n. ap (λ (c : Option Command). unpublished c m n) k.idle)
      ∙ sym (out_older (note_in d.notes) (note_in notes) i (accepted_transfer d e x a h dummy notes).driver.command 0 d.transfers (new_transfer e a x.dummy) (λ t y there held. listed t y there held)
      (none_of_new (note_in notes) i (e == i && true) x.dummy (length a.stages)));
}
  where
    f : DriverContent
    f = (accepted_transfer d e x a h dummy notes).driver

    was : (i : ℕ) (z : Endpoint) → slice_get (set d.endpoints e (with_queued x dummy (length d.transfers))) i ≡ Some z → WasEnd d i z
    was i z here =
        ⊎_elim (λ (own : (i ≡ e) × (z ≡ with_queued x dummy (length d.transfers))).
        record { endpoint = x; there = ap (slice_get d.endpoints) own.0 ∙ k.here; queue = ap (λ (r : Endpoint). r.queue) own.1; desc = ap (λ (r : Endpoint). r.desc) own.1; linked = ap (λ (r : Endpoint). r.linked) own.1; gone = ap (λ (r : Endpoint). r.gone) own.1 })
        (λ (other : (i ≢ e) × (slice_get d.endpoints i ≡ Some z)). record { endpoint = z; there = other.1; queue = refl; desc = refl; linked = refl; gone = refl })
        (set_which d.endpoints e i x (with_queued x dummy (length d.transfers)) z k.here here)

    never : (c : ℕ) → d.command ≡ Some (unfinished.Open c) → ⊥
    never c is = let none : ◌≡◌ {A = Option Command} None (Some (unfinished.Open c)) = sym k.idle ∙ is in cc

    like : (i : ℕ) (z : Endpoint) → slice_get d.endpoints i ≡ Some z → WasLike f i z
    like i z here =
        ⊎_elim
        (λ (own : i ≡ e).
        let same_end : z ≡ x = same_Some z x (sym here ∙ ap (slice_get d.endpoints) own ∙ k.here) in
        record {
          endpoint = with_queued x dummy (length d.transfers);
          here = ap (slice_get (set d.endpoints e (with_queued x dummy (length d.transfers)))) own ∙ set_here d.endpoints e x (with_queued x dummy (length d.transfers)) k.here;
          life = subst (λ (r : Endpoint). SameLife (with_queued x dummy (length d.transfers)) r) (sym same_end) (record { desc = refl; queue = refl; linked = refl; gone = refl });
        })
        (λ (other : i ≢ e). record { endpoint = z; here = set_there d.endpoints e i (with_queued x dummy (length d.transfers)) other ∙ here; life = same_life z }) (cases_eq i e)

    same : SameQueues d (accepted_transfer d e x a h dummy notes).driver
    same = record {
      ring = record { waiting = refl; rung = refl; opens = λ c is. cc };
      back = record { waiting = refl; rung = refl; opens = λ c is. absurd (never c is) };
      was = λ i z here. let w = was i z here in record { endpoint = w.endpoint; here = w.there; life = record { desc = w.desc; queue = w.queue; linked = w.linked; gone = w.gone } };
      is = like;
    }

    zero_from : (c : DriverContent) (t : ℕ) (y : Transfer) → c.command ≡ None → (i : ℕ) → unpublished_of c t y ≤ i
    zero_from c t y idle i = let none = none_unpublished c t y idle in omega (arith, none)

    moved : (t i : ℕ) (y : Transfer) (z : Endpoint) (w : WasEnd d y.endpoint z) → slice_get d.transfers t ≡ Some y → y.released ≡ false → i < y.qtds
        → IsPieceFed y.sort (parts (32 * w.endpoint.queue)) (sized y.sort i (note_at d.notes (piece_at (note_in d.notes) y.first i))) (piece_at (note_in d.notes) y.first i) (piece_at (note_in d.notes) y.first y.qtds)
        → IsPieceFed y.sort (parts (32 * z.queue)) (sized y.sort i (note_at notes (piece_at (note_in notes) y.first i))) (piece_at (note_in notes) y.first i) (piece_at (note_in notes) y.first y.qtds)
    moved t i y z w older held below fed =
        let b = piece_at (note_in d.notes) y.first i in
        let last = piece_at (note_in d.notes) y.first y.qtds in
        let one = subst (λ (n : QtdNote). IsPieceFed y.sort (parts (32 * w.endpoint.queue)) (sized y.sort i n) b last) (sym (k.notes_same t i y older held below)) fed in
        let two = subst (λ (c : ℕ). IsPieceFed y.sort (parts (32 * w.endpoint.queue)) (sized y.sort i (note_at notes c)) c last) (sym (k.pieces_are t i y older held (omega (arith, below)))) one in
        let three = subst (λ (c : ℕ). IsPieceFed y.sort (parts (32 * w.endpoint.queue)) (sized y.sort i (note_at notes (piece_at (note_in notes) y.first i))) (piece_at (note_in notes) y.first i) c) (sym (k.pieces_are t y.qtds y older held (omega arith))) two in
        subst (λ (q : ℕ). IsPieceFed y.sort (parts (32 * q)) (sized y.sort i (note_at notes (piece_at (note_in notes) y.first i))) (piece_at (note_in notes) y.first i) (piece_at (note_in notes) y.first y.qtds)) (sym w.queue) three

    newest : (t : ℕ) (y : Transfer) → t ≡ length d.transfers → unpublished_of f t y ≡ y.qtds
    newest t y at =
        let n = length d.transfers in
        ap (λ (m : ℕ). cond (nat_eq (suc t) m) (unpublished f.command 0 y.qtds) 0) (pushed_length d.transfers (new_transfer e a x.dummy) ∙ ap suc (sym at))
        ∙ newest_unpublished f.command 0 t y.qtds

    same_block : (b : ℕ) (words : List ℕ) → f.command ≡ Some (unfinished.Publish b words) → b ≡ x.dummy
    same_block b words is = ap block_of (sym is)

    first_last : (b : ℕ) (words : List ℕ) (t : ℕ) (y : Transfer) (z : Endpoint) → f.command ≡ Some (unfinished.Publish b words) → suc t ≡ length (d.transfers ++ new_transfer e a x.dummy ∷ [])
        → slice_get (d.transfers ++ new_transfer e a x.dummy ∷ []) t ≡ Some y → slice_get (set d.endpoints e (with_queued x dummy (length d.transfers))) y.endpoint ≡ Some z
        → IsLast (order (32 * z.queue)) (parts (32 * z.queue)) (32 * b)
    first_last b words t y z is newest_one there here =
        let many = pushed_length d.transfers (new_transfer e a x.dummy) in
        ⊎_elim (λ (older : slice_get d.transfers t ≡ Some y). let l = some_below d.transfers t y older in absurd (omega (arith, l, newest_one, many)))
        (λ (new : (t ≡ length d.transfers) × (y ≡ new_transfer e a x.dummy)).
        let at : y.endpoint ≡ e = ap (λ (r : Transfer). r.endpoint) new.1 in
        let w = was y.endpoint z here in
        let same : w.endpoint ≡ x = same_Some w.endpoint x (sym w.there ∙ ap (slice_get d.endpoints) at ∙ k.here) in
        subst (λ (q : ℕ). IsLast (order (32 * q)) (parts (32 * q)) (32 * b)) (sym (w.queue ∙ ap (λ (r : Endpoint). r.queue) same))
        (subst (λ (c : ℕ). IsLast (order (32 * x.queue)) (parts (32 * x.queue)) (32 * c)) (sym (same_block b words is)) (old.last.dummies e x k.here k.alive k.first_lent)))
        (push_which d.transfers (new_transfer e a x.dummy) t y there)

    listed : (t : ℕ) (y : Transfer) → slice_get d.transfers t ≡ Some y → y.released ≡ false → pieces_from (note_in notes) y.place y.left ≡ pieces_from (note_in d.notes) y.place y.left
    listed t y there held =
        let p = places t y there held in
        let some = p.some in
        let most = p.most in
        subst (λ (b : ℕ). pieces_from (note_in notes) b y.left ≡ pieces_from (note_in d.notes) b y.left) (sym p.place) (k.lists_are t (y.qtds - y.left) y.left y there held (omega (arith, most)))
