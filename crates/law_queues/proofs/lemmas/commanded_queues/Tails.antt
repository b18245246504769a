-- Fronts and tails along accepted commands.
use Rattle.std.proofs.Common.{◌≡◌, ◌≢◌, ℕ, ◌+◌, ◌-◌, ◌*◌, ◌==◌, ◌≤◌, Bool, false, cond, if◌then◌else◌, List, length, replicate, take, drop, get_or, slice_get, Some, ap, refl, sym, subst, ◌∙◌, ⊎_elim, arith}
use Rattle.std.proofs.lemmas.Bool.{eq-eqb}
use Rattle.std.proofs.lemmas.List.{get_or-take, length-append, length-replicate}
use Rattle.std.proofs.lemmas.Option.{slice_get_past}
use Rattle.law_queues.proofs.Common.{none_open}
use Rattle.law_common.proofs.Lists.{drop_first, push_which}
use Rattle.law_common.proofs.Numbers.{other_number}
use Rattle.law_driver.proofs.Common.{times_of}
use Rattle.word_mem.specs.Memory.{Mem}
use Rattle.mem_runs.specs.Book.{holding, Stands, slot_of, Holding}
use Rattle.drv_table.specs.declared.content.Endpoint.{Endpoint}
use Rattle.drv_table.specs.declared.content.Transfer.{Transfer}
use Rattle.drv_table.specs.declared.content.QtdNote.{QtdNote}
use Rattle.drv_table.specs.declared.content.Command.TheVariants as unfinished
use Rattle.drv_table.specs.DriverContent.{DriverContent}
use Rattle.drv_table.specs.Words.{needs}
use Rattle.drv_table.specs.Accepting.{Offered, new_runs}
use Rattle.drv_table.specs.Offers.{Asked, new_endpoint, accepted_transfer, with_queued, new_transfer}
use Rattle.law_driver.specs.run_owners.Accepts.{Transfers}
use Rattle.claims_driver.specs.Leaving.{owes, HasOwners}
use Rattle.claims_driver.specs.Owners.{note_in}
use Rattle.law_driver.proofs.lemmas.run_owners.Taking.{runs_taken}
use Rattle.law_driver.proofs.lemmas.run_owners.Chains.{buffers_of}
use Rattle.law_structures.specs.lent_structures.Structures.{StructureSets}
use Rattle.law_driver_ring.specs.Inventory.{IsLent}
use Rattle.law_driver_ring.proofs.Taken.{new_not_lent}
use Rattle.law_driver.specs.chained_transfers.Chains.{piece_at}
use Rattle.law_queues.proofs.lemmas.fed_lends.Asked.{set_which, IsTakenOn, dummy_in, notes_in, taken_on}
use Rattle.law_ring.specs.Front.{IsPassed}
use Rattle.law_queues.specs.released_queues.Fronts.{piece_address}
use Rattle.law_queues.specs.standing_fronts.Along.{WasOwed}
use Rattle.law_queues.specs.standing_fronts.Reaching.{Reaches}
use Rattle.law_queues.specs.commanded_queues.Accepted.{ReachEnds, ReachesOpen, ReachesAsked}
use Rattle.law_driver_ring.specs.fed_queues.Places.{IsMet}
use Rattle.law_driver_ring.proofs.lemmas.fed_queues.Places.{SameLife, same_life, life_back, met_as}
use Rattle.law_driver.specs.endpoint_lives.Lives.{may_meet}
use Rattle.law_driver.proofs.lemmas.endpoint_lives.Lives.{met_alike}

-- ---- contents that tell alike what is to be given back

pub reaches_alike : (d f : DriverContent) (parts : StructureSets) (order : ℕ → ℕ → ℕ) (out : ℕ → List ℕ) (i c : ℕ) (x y : Endpoint) → y.queue ≡ x.queue → f.harvested ≡ d.harvested
    → ((h u : ℕ) (z : Transfer) → slice_get d.harvested h ≡ Some u → slice_get f.transfers u ≡ Some z → z.released ≡ false → WasOwed d f u z)
    → Reaches d (parts (32 * x.queue)) (order (32 * x.queue)) (out (32 * x.queue)) i x c → Reaches f (parts (32 * y.queue)) (order (32 * y.queue)) (out (32 * y.queue)) i y c
reaches_alike d f parts order out i c x y queue harvested owed k =
    let g = k.stands in
    subst (λ (q : ℕ). Reaches f (parts (32 * q)) (order (32 * q)) (out (32 * q)) i (record y { queue = q }) c) (sym queue)
    (record {
      stands = record {
        front = g.front;
        has = g.has;
        ended = λ h u z at there held same.
            let old_at : slice_get d.harvested h ≡ Some u = ap (λ (hs : List ℕ). slice_get hs h) (sym harvested) ∙ at in
            let o = owed h u z old_at there held in
            subst (λ (a : ℕ). order (32 * x.queue) a ≤ g.front) (sym (o.places z.qtds (omega arith) ∙ ap (piece_address d o.transfer) o.qtds))
            (g.ended h u o.transfer old_at o.here (sym o.released ∙ held) (sym o.endpoint ∙ same));
        passed = λ h u j z at there held same from below.
            let old_at : slice_get d.harvested h ≡ Some u = ap (λ (hs : List ℕ). slice_get hs h) (sym harvested) ∙ at in
            let o = owed h u z old_at there held in
            let qtds = o.qtds in
            let left = o.left in
            subst (IsPassed (order (32 * x.queue)) g.front (parts (32 * x.queue))) (sym (o.places j (omega (arith, below))))
            (g.passed h u j o.transfer old_at o.here (sym o.released ∙ held) (sym o.endpoint ∙ same) (omega (arith, from, qtds, left)) (omega (arith, below, qtds)));
      };
      within = k.within;
      tail = k.tail;
    })

-- ---- an open

open_reaches_in : (d f : DriverContent) (x : Endpoint) (parts : StructureSets) (order : ℕ → ℕ → ℕ) (out : ℕ → List ℕ) (i : ℕ) → f.harvested ≡ d.harvested → f.transfers ≡ d.transfers → f.notes ≡ d.notes
    → Reaches d (parts (32 * x.queue)) (order (32 * x.queue)) (out (32 * x.queue)) i x (32 * x.dummy) → Reaches f (parts (32 * x.queue)) (order (32 * x.queue)) (out (32 * x.queue)) i x (32 * x.dummy)
open_reaches_in d f x parts order out i harvested transfers notes k =
    reaches_alike d f parts order out i (32 * x.dummy) x x refl harvested
    (λ h u z at there held. record {
      transfer = z;
      here = ap (λ (ts : List Transfer). slice_get ts u) (sym transfers) ∙ there;
      endpoint = refl;
      released = refl;
      qtds = refl;
      left = refl;
      places = λ j most. ap (λ (ns : List QtdNote). 32 * piece_at (note_in ns) z.first j) notes;
    }) k

pub reaches_open : ReachesOpen
reaches_open d m o parts order out why ends e x here met =
    let w = why in
    let g = w.holding_after in
    let queue : ℕ = get_or (new_runs d g) 0 0 in
    let dummy : ℕ = get_or (new_runs d g) 1 0 in
    let new : Endpoint = new_endpoint w.desc queue dummy in
    let near : may_meet o.driver e x ≡ may_meet d e x = met_alike d o.driver e x x refl (ap (λ (p : Offered). p.driver.waiting) w.is) (ap (λ (p : Offered). p.driver.rung) w.is) in
    ⊎_elim
    (λ (was : slice_get d.endpoints e ≡ Some x).
    open_reaches_in d o.driver x parts order out e (ap (λ (p : Offered). p.driver.harvested) w.is) (ap (λ (p : Offered). p.driver.transfers) w.is) (ap (λ (p : Offered). p.driver.notes) w.is) (ends e x was (record { there = record { linked = λ opens. none_open x.queue (sym w.idle ∙ opens); kept = met.there.kept }; near = sym near ∙ met.near })))
    (λ (is : (e ≡ length d.endpoints) × (x ≡ new)). absurd (met.there.linked (ap (λ (p : Offered). p.driver.command) w.is ∙ ap (λ (y : Endpoint). Some (unfinished.Open y.queue)) (sym is.1))))
    (push_which d.endpoints new e x (ap (λ (p : Offered). slice_get p.driver.endpoints e) (sym w.is) ∙ here))

-- ---- a get, a put or a request

-- what is to be given back is a transfer that there was
none_owed : (d : DriverContent) (h u : ℕ) → HasOwners d → slice_get d.harvested h ≡ Some u → u ≢ length d.transfers
none_owed d h u owners at is =
    let some = times_of d.harvested h u at in
    let most = owners.orderly.harvests u in
    let none : owes (slice_get d.transfers u) ≡ 0 = ap owes (slice_get_past d.transfers u (omega (arith, is))) in
    omega (arith, some, most, none)

module _ (d : DriverContent) (owners : HasOwners d) (e : ℕ) (x : Endpoint) (a : Asked) (h : Holding) (dummy : ℕ) (notes : List QtdNote) (k : IsTakenOn d (slot_of h.book.slots) e x a dummy notes) where
  abbrev f : DriverContent
  f = (accepted_transfer d e x a h dummy notes).driver

  was_owed : (i u : ℕ) (z : Transfer) → slice_get d.harvested i ≡ Some u → slice_get f.transfers u ≡ Some z → z.released ≡ false → WasOwed d f u z
  was_owed i u z at there held =
      ⊎_elim
      (λ (older : slice_get d.transfers u ≡ Some z).
      let same : WasOwed d f u z = record {
        transfer = z;
        here = older;
        endpoint = refl;
        released = refl;
        qtds = refl;
        left = refl;
        places = λ j most. ap (λ (b : ℕ). 32 * b) (k.pieces_are u j z older held most);
      } in same)
      (λ (new : (u ≡ length d.transfers) × (z ≡ new_transfer e a x.dummy)). absurd (none_owed d i u owners at new.0))
      (push_which d.transfers (new_transfer e a x.dummy) u z there)

  was_met : (i : ℕ) (y z : Endpoint) → SameLife y z → IsMet f i z → IsMet d i y
  was_met i y z life met = met_as f d i z y (record { waiting = refl; rung = refl; opens = λ c is. absurd (none_open c (sym k.idle ∙ is)) }) (life_back y z life) met

  taken_reaches_in : (parts : StructureSets) (order : ℕ → ℕ → ℕ) (out : ℕ → List ℕ) → ReachEnds d parts order out → (i : ℕ) (z : Endpoint) → slice_get f.endpoints i ≡ Some z → IsMet f i z
      → Reaches f (parts (32 * z.queue)) (order (32 * z.queue)) (out (32 * z.queue)) i z (32 * (if e == i then x.dummy else z.dummy))
  taken_reaches_in parts order out ends i z here met =
      ⊎_elim
      (λ (own : (i ≡ e) × (z ≡ with_queued x dummy (length d.transfers))).
      let at : slice_get d.endpoints i ≡ Some x = ap (slice_get d.endpoints) own.0 ∙ k.here in
      subst (λ (b : Bool). Reaches f (parts (32 * z.queue)) (order (32 * z.queue)) (out (32 * z.queue)) i z (32 * cond b x.dummy z.dummy)) (sym (eq-eqb e i (sym own.0)))
      (reaches_alike d f parts order out i (32 * x.dummy) x z (ap (λ (y : Endpoint). y.queue) own.1) refl was_owed (ends i x at (was_met i x z (record { desc = ap (λ (y : Endpoint). y.desc) own.1; queue = ap (λ (y : Endpoint). y.queue) own.1; linked = ap (λ (y : Endpoint). y.linked) own.1; gone = ap (λ (y : Endpoint). y.gone) own.1 }) met))))
      (λ (other : (i ≢ e) × (slice_get d.endpoints i ≡ Some z)).
      subst (λ (b : Bool). Reaches f (parts (32 * z.queue)) (order (32 * z.queue)) (out (32 * z.queue)) i z (32 * cond b x.dummy z.dummy)) (sym (other_number e i (λ is. other.0 (sym is))))
      (reaches_alike d f parts order out i (32 * z.dummy) z z refl refl was_owed (ends i z other.1 (was_met i z z (same_life z) met))))
      (set_which d.endpoints e i x (with_queued x dummy (length d.transfers)) z k.here here)

-- the new end of the queue isn't lent yet
end_not_lent : (d : DriverContent) (m : Mem) (o : Offered) (why : Transfers d m o) → Stands (holding d.book m)
    → IsLent (slot_of why.holding_after.book.slots (dummy_in (length why.asked.stages) (new_runs d why.holding_after))) → ⊥
end_not_lent d m o why stands lent =
    let g = why.holding_after in
    let ss = why.asked.stages in
    let n = length ss in
    let some = why.some in
    let all = runs_taken (holding d.book m) g (needs ss) stands why.runs in
    let bs = all.blocks in
    let new : new_runs d g ≡ bs = ap (drop (length d.book.taken)) all.are.taken ∙ drop_first d.book.taken bs in
    let long = all.are.long ∙ length-append (replicate n 1) (buffers_of ss) ∙ ap (λ (j : ℕ). j + length (buffers_of ss)) (length-replicate {A = ℕ} n 1) in
    let last : get_or (take n (new_runs d g)) (n - 1) 0 ≡ get_or bs (n - 1) 0 = ap (λ (rs : List ℕ). get_or (take n rs) (n - 1) 0) new ∙ get_or-take n bs (n - 1) 0 (omega (arith, some)) in
    new_not_lent (n - 1) why.runs all.are (omega (arith, long, some)) (subst (λ (c : ℕ). IsLent (slot_of g.book.slots c)) last lent)

pub reaches_asked : ReachesAsked
reaches_asked d m o parts order out why stands owners lent bulk ends e x here met =
    let w = why in
    let rs = new_runs d w.holding_after in
    let n = length w.asked.stages in
    let k = taken_on d m o w stands owners lent bulk (end_not_lent d m o w stands) in
    subst (λ (g : Offered). Reaches g.driver (parts (32 * x.queue)) (order (32 * x.queue)) (out (32 * x.queue)) e x (32 * (if w.number == e then w.endpoint.dummy else x.dummy))) (sym w.is)
    (taken_reaches_in d owners w.number w.endpoint w.asked w.holding_after (dummy_in n rs) (notes_in d w.asked w.endpoint rs) k parts order out ends e x (ap (λ (g : Offered). slice_get g.driver.endpoints e) (sym w.is) ∙ here) (subst (λ (g : Offered). IsMet g.driver e x) w.is met))
