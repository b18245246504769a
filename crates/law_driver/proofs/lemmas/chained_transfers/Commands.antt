-- An accepted command leaves the transfers chained and in turn, where endpoints leave the ring, and where none does.
use Rattle.std.proofs.Common.{◌≡◌, ◌≢◌, ℕ, ◌-◌, ◌<◌, ◌≤◌, Bool, true, false, ◌||◌, List, [], ◌∷◌, ◌++◌, length, set, take, drop, get_or, slice_get, Option, Some, None, Ok, option_map, ap, sym, subst, ◌∙◌, ⊎_elim, refl, arith}
use Rattle.std.specs.Prelude.{◌⊎◌}
use Rattle.std.proofs.lemmas.Bool.{false≢true}
use Rattle.std.proofs.lemmas.Option.{same_Some}
use Rattle.law_common.proofs.Lists.{push_which, drop_first, set_here, pushed_there, pushed_last}
use Rattle.law_driver.proofs.Common.{times_of}
use Rattle.usb_base.specs.declared.endpoints.EndCause.{EndCause}
use Rattle.usb_base.specs.declared.commands.Cmd.{Cmd}
use Rattle.usb_base.specs.declared.commands.Cmd.TheVariants as commands
use Rattle.word_mem.specs.Memory.{Mem}
use Rattle.mem_runs.specs.Book.{holding, Stands, slot_of}
use Rattle.drv_table.specs.declared.content.Endpoint.{Endpoint}
use Rattle.drv_table.specs.declared.content.Transfer.{Transfer}
use Rattle.drv_table.specs.declared.content.QtdNote.{QtdNote}
use Rattle.drv_table.specs.DriverContent.{DriverContent}
use Rattle.drv_table.specs.Words.{needs}
use Rattle.drv_table.specs.Releases.{ended_by_cancel, is_told}
use Rattle.law_driver.specs.endpoint_lives.Lives.{told_end}
use Rattle.law_driver.proofs.lemmas.endpoint_lives.Lives.{none_told, told_none, by_cancel}
use Rattle.drv_table.specs.Accepting.{Offered, new_runs, first_waiting}
use Rattle.drv_table.specs.Offers.{Asked, offered, new_endpoint, note_stages, accepted_open, accepted_transfer, with_queued, new_transfer}
use Rattle.drv_table.specs.CancelOffers.{first_end, accepted_cancel}
use Rattle.law_driver.specs.run_owners.Accepts.{Transfers, Cancels}
use Rattle.claims_driver.specs.Leaving.{IsOrderly, HasOwners}
use Rattle.claims_driver.specs.Owners.{Owner, Element, runs_of_endpoint, runs_of_transfer, runs_of_note, note_in, transfer_in, TransferRuns, views_of, IsOwned}
use Rattle.law_driver.proofs.lemmas.run_owners.Runs.{placed_run}
use Rattle.law_driver.proofs.lemmas.run_owners.Taking.{runs_taken}
use Rattle.law_driver.proofs.lemmas.run_owners.Chains.{notes_apart}
use Rattle.law_driver.proofs.lemmas.run_owners.Accepted.{push_case}
use Rattle.law_driver.proofs.lemmas.run_owners.Orders.{owed}
use Rattle.law_driver.proofs.lemmas.run_owners.Transferred.{are_new, goes_on_alive}
use Rattle.law_driver.proofs.lemmas.run_owners.Stays.{stays_same, endpoint_stays}
use Rattle.law_driver.specs.chained_transfers.Bulk.{IsBulk, OpensBulk, OpensOrCancelsBulk, sort_by, MovesAs, OnlyBulk}
use Rattle.law_driver.specs.chained_transfers.Accepted.{IsOpened, IsAsked, IsAccepted}
use Rattle.law_driver.specs.chained_transfers.Chains.{piece_at}
use Rattle.law_driver.specs.chained_transfers.Turns.{IsAtPlace, AreAtPlaces, Turn, turn_of, turn_in, AreReportedTo, IsNotGone, AreTurnsOf, AreReturned}
use Rattle.law_driver.specs.chained_transfers.InTurn.{TakesTurns}
use Rattle.law_driver.specs.chained_transfers.Leaving.{IsAcceptedAs, IsStaying, NothingLeaves}
use Rattle.law_driver.specs.AsynchronousScripts.{OpensAsynchronous}
use Rattle.law_driver.specs.chained_transfers.Asynchronous.{StandsAsynchronous, OnlyAsynchronous, IsOpenedAsynchronous, AcceptsAsynchronous}
use Rattle.law_driver.specs.chained_transfers.AsynchronousTurns.{AsynchronousTakesTurns}
use Rattle.law_driver.proofs.lemmas.chained_transfers.BulkAndControl.{bulk_asynchronous, bulk_is_asynchronous, EachBulk, takes_bulk_turns}
use Rattle.law_driver.proofs.lemmas.chained_transfers.Moves.{KeepDescs, descs_set, descs_push, moves_on, moves_same}
use Rattle.law_driver.proofs.lemmas.chained_transfers.Chained.{pieces_same, same_chained, endpoint_chained, within_list}
use Rattle.law_driver.proofs.lemmas.chained_transfers.Queued.{not_dummy, transfer_chained}
use Rattle.law_driver.proofs.lemmas.chained_transfers.Turning.{fewer_turns, IsChangedAt, which, changed_plain}
use Rattle.law_driver.proofs.lemmas.chained_transfers.Ends.{ends_turns, changed_end, changed_stays, WasGone, returned_on, same_turn, same_gone, changed_gone}
use Rattle.law_driver.proofs.lemmas.chained_transfers.Accepting.{asynchronous_command_is_accepted, command_accepted, command_received}
use Rattle.law_driver.proofs.lemmas.chained_transfers.Rows.{ends_set}
use Rattle.law_driver.proofs.lemmas.chained_transfers.Staying.{stands_alive, fresh_stands_linked, linked_stands_alive}

-- ---- an endpoint is opened

opened_turns : (S : ℕ → Type 0) (v : ℕ → Option Turn) (xs : List Endpoint) (x : Endpoint) (hs : List ℕ) → ((t : ℕ) (y : Turn) → v t ≡ Some y → y.endpoint < length xs) → x.next ≡ None → AreTurnsOf S v (slice_get xs) hs → AreTurnsOf S v (slice_get (xs ++ x ∷ [])) hs
opened_turns S v xs x hs within none old = record {
  reported = old.reported;
  released = old.released;
  told = old.told;
  next = λ e y here goes. ⊎_elim (λ (was : slice_get xs e ≡ Some y). old.next e y was goes)
      (λ (new : (e ≡ length xs) × (y ≡ x)).
      subst (λ (o : Option ℕ). AreReportedTo v e o) (sym (ap (λ (z : Endpoint). z.next) new.1 ∙ none))
      (λ u z there of_e. let w = within u z there in absurd (omega (arith, w, of_e, new.0))))
      (push_which xs x e y here);
  owed = λ t y z there here goes. ⊎_elim (λ (was : slice_get xs y.endpoint ≡ Some z). old.owed t y z there was goes)
      (λ (new : (y.endpoint ≡ length xs) × (z ≡ x)). let w = within t y there in absurd (omega (arith, w, new.0)))
      (push_which xs x y.endpoint z here);
  order = old.order;
}

-- no transfer is the new endpoint's
opened_stays : (v : ℕ → Option Turn) (xs : List Endpoint) (x : Endpoint) → ((t : ℕ) (y : Turn) → v t ≡ Some y → y.endpoint < length xs) → (t : ℕ) (y : Turn) → v t ≡ Some y → IsNotGone (slice_get (xs ++ x ∷ [])) y.endpoint → IsNotGone (slice_get xs) y.endpoint
opened_stays v xs x within t y there stays =
    ⊎_elim (λ (was : slice_get xs y.endpoint ≡ Some stays.endpoint). record { endpoint = stays.endpoint; here = was; gone = stays.gone })
    (λ (new : (y.endpoint ≡ length xs) × (stays.endpoint ≡ x)). let w = within t y there in absurd (omega (arith, w, new.0)))
    (push_which xs x y.endpoint stays.endpoint stays.here)

opened_gone : (xs : List Endpoint) (x : Endpoint) → x.gone ≡ false → (k : ℕ) (z : Endpoint) → slice_get (xs ++ x ∷ []) k ≡ Some z → z.gone ≡ true → WasGone (slice_get xs) k z
opened_gone xs x alive k z here gone =
    ⊎_elim (λ (was : slice_get xs k ≡ Some z). same_gone (slice_get xs) k z was gone)
    (λ (new : (k ≡ length xs) × (z ≡ x)). absurd (false≢true (sym alive ∙ ap (λ (r : Endpoint). r.gone) (sym new.1) ∙ gone)))
    (push_which xs x k z here)

open_queue : (d : DriverContent) (m : Mem) (o : Offered) → IsOrderly d → IsOpenedAsynchronous d m o → AsynchronousTakesTurns d → AsynchronousTakesTurns o.driver
open_queue d m o order why old =
    let w = why.opens in
    let q = get_or (new_runs d w.holding_after) 0 0 in
    let f = get_or (new_runs d w.holding_after) 1 0 in
    let x = new_endpoint w.desc q f in
    let r = old.asynchronous in
    let v = turn_in d.transfers in
    let ends = slice_get d.endpoints in
    let ends_now = slice_get (d.endpoints ++ x ∷ []) in
    let now : AsynchronousTakesTurns (accepted_open d w.desc w.holding_after q f).driver = record {
      asynchronous = record {
        endpoints = λ e z here. ⊎_elim (λ (was : slice_get d.endpoints e ≡ Some z). r.endpoints e z was)
            (λ (new : (e ≡ length d.endpoints) × (z ≡ x)).
            subst (λ (y : Endpoint). StandsAsynchronous y) (sym new.1) (record { asynchronous = why.asynchronous; placement = refl; chained = refl; unlinked = λ off. absurd (false≢true (sym off)); ended = λ on. absurd (false≢true on); cancel = λ on. absurd (false≢true on); gone = λ gone. absurd (false≢true gone) }))
            (push_which d.endpoints x e z here);
        moves = moves_same d _ (descs_push d.endpoints x) r.moves;
        command = tt;
        leaver = λ e z is here. absurd (cc);
        unlinks = r.unlinks;
        removals = r.removals;
      };
      chained = endpoint_chained (views_of d) d.endpoints x (λ e. refl) (λ t y there. of_runs t y there (turn_at_runs t y there)) old.chained (slot_of w.holding_after.book.slots);
      turns = record {
        places = old.turns.places;
        turns = fewer_turns (IsNotGone ends) (IsNotGone ends_now) v ends_now d.harvested (opened_stays v d.endpoints x of_turn) (opened_turns (IsNotGone ends) v d.endpoints x d.harvested of_turn refl old.turns.turns);
        returned = returned_on v v ends ends_now (λ k z y there here gone. same_turn v k z there) (opened_gone d.endpoints x refl) old.turns.returned;
      };
    } in
    subst (λ (g : Offered). AsynchronousTakesTurns g.driver) (sym w.is) now
  where
    turn_at_runs : (t : ℕ) (y : TransferRuns) → transfer_in d.transfers t ≡ Some y → (z : Transfer) × (slice_get d.transfers t ≡ Some z) × (y.endpoint ≡ z.endpoint)
    turn_at_runs t y there = by (slice_get d.transfers t) refl there
      where
        by : (o : Option Transfer) → slice_get d.transfers t ≡ o → option_map runs_of_transfer o ≡ Some y → (z : Transfer) × (slice_get d.transfers t ≡ Some z) × (y.endpoint ≡ z.endpoint)
        by None is f = absurd (cc)
        by (Some z) is f = (z, is, sym (ap (λ (r : TransferRuns). r.endpoint) (same_Some (runs_of_transfer z) y f)))

    of_runs : (t : ℕ) (y : TransferRuns) → transfer_in d.transfers t ≡ Some y → (z : Transfer) × (slice_get d.transfers t ≡ Some z) × (y.endpoint ≡ z.endpoint) → y.endpoint < length d.endpoints
    of_runs t y there z = let w = order.within t z.0 z.1 in omega (arith, w, z.2)

    of_turn : (t : ℕ) (y : Turn) → turn_in d.transfers t ≡ Some y → y.endpoint < length d.endpoints
    of_turn t y there = by (slice_get d.transfers t) refl there
      where
        by : (o : Option Transfer) → slice_get d.transfers t ≡ o → option_map turn_of o ≡ Some y → y.endpoint < length d.endpoints
        by None is f = absurd (cc)
        by (Some z) is f = let w = order.within t z is in let e = ap (λ (r : Turn). r.endpoint) (same_Some (turn_of z) y f) in omega (arith, w, e)

-- of a bulk endpoint
open_leaves : (d : DriverContent) (m : Mem) (o : Offered) → IsOrderly d → IsOpened d m o → TakesTurns d → TakesTurns o.driver
open_leaves d m o order why old =
    let w = why.opens in
    let x = new_endpoint w.desc (get_or (new_runs d w.holding_after) 0 0) (get_or (new_runs d w.holding_after) 1 0) in
    takes_bulk_turns o.driver
    (subst (λ (g : Offered). EachBulk g.driver) (sym w.is)
    (λ e z here. ⊎_elim (λ (was : slice_get d.endpoints e ≡ Some z). (old.bulk.endpoints e z was).bulk)
    (λ (new : (e ≡ length d.endpoints) × (z ≡ x)). subst (λ (y : Endpoint). IsBulk y.desc) (sym new.1) why.bulk) (push_which d.endpoints x e z here)))
    (ap (λ (g : Offered). g.driver.mends) w.is ∙ old.bulk.mends)
    (open_queue d m o order (record { opens = w; asynchronous = bulk_asynchronous w.desc why.bulk }) (bulk_is_asynchronous d old))

open_nothing : (d : DriverContent) (m : Mem) (o : Offered) → IsOpened d m o → NothingLeaves d → NothingLeaves o.driver
open_nothing d m o why old =
    let w = why.opens in
    let q = get_or (new_runs d w.holding_after) 0 0 in
    let f = get_or (new_runs d w.holding_after) 1 0 in
    let x = new_endpoint w.desc q f in
    let now : NothingLeaves (accepted_open d w.desc w.holding_after q f).driver = record {
      endpoints = λ e z here. ⊎_elim (λ (was : slice_get d.endpoints e ≡ Some z). old.endpoints e z was)
          (λ (new : (e ≡ length d.endpoints) × (z ≡ x)). subst (λ (y : Endpoint). IsStaying y) (sym new.1) (record { cancelled = refl; linked = refl; gone = refl }))
          (push_which d.endpoints x e z here);
      command = refl;
      waiting = old.waiting;
      rung = old.rung;
      cleared = old.cleared;
    } in
    subst (λ (g : Offered). NothingLeaves g.driver) (sym w.is) now

-- ---- a transfer is accepted

module _ (S : ℕ → Type 0) (v w : ℕ → Option Turn) (ends ends_now : ℕ → Option Endpoint) (hs : List ℕ) (e number : ℕ) (a b : Endpoint) (z : Turn) where
  -- the new one has the next number, and its endpoint goes on with its first unreported one
  record IsNewest : Type 0 where
    turns : (k : ℕ) (y : Turn) → w k ≡ Some y → (v k ≡ Some y) ⊎ ((k ≡ number) × (y ≡ z))
    there : (k : ℕ) (y : Turn) → v k ≡ Some y → (k < number) × (w k ≡ Some y)
    last : w number ≡ Some z
    fresh : (z.endpoint ≡ e) × (z.reported ≡ false) × (z.released ≡ false)
    moved : IsChangedAt ends ends_now e a b
    goes_on : (told_end a ≡ None) × (told_end b ≡ None) × (b.next ≡ first_waiting a.next number)
    listed : (i u : ℕ) → slice_get hs i ≡ Some u → (y : Turn) × (v u ≡ Some y)

  next_of : IsNewest → (k : ℕ) (o : Option ℕ) → AreReportedTo v k o → k ≢ e → AreReportedTo w k o
  next_of n k None old differs = λ u y there of_k.
      ⊎_elim (λ (was : v u ≡ Some y). old u y was of_k)
      (λ (new : (u ≡ number) × (y ≡ z)). absurd (differs (sym of_k ∙ ap (λ (r : Turn). r.endpoint) new.1 ∙ n.fresh.0))) (n.turns u y there)
  next_of n k (Some t) old differs = record {
    transfer = old.transfer;
    here = (n.there t old.transfer old.here).1;
    endpoint = old.endpoint;
    waits = old.waits;
    before = λ u y less there of_k.
        ⊎_elim (λ (was : v u ≡ Some y). old.before u y less was of_k)
        (λ (new : (u ≡ number) × (y ≡ z)). absurd (differs (sym of_k ∙ ap (λ (r : Turn). r.endpoint) new.1 ∙ n.fresh.0))) (n.turns u y there);
  }

  next_here : IsNewest → (o : Option ℕ) → AreReportedTo v e o → AreReportedTo w e (first_waiting o number)
  next_here n None old = record {
    transfer = z;
    here = n.last;
    endpoint = n.fresh.0;
    waits = n.fresh.1;
    before = λ u y less there of_e.
        ⊎_elim (λ (was : v u ≡ Some y). old u y was of_e) (λ (new : (u ≡ number) × (y ≡ z)). absurd (omega (arith, less, new.0))) (n.turns u y there);
  }
  next_here n (Some t) old = record {
    transfer = old.transfer;
    here = (n.there t old.transfer old.here).1;
    endpoint = old.endpoint;
    waits = old.waits;
    before = λ u y less there of_e.
        ⊎_elim (λ (was : v u ≡ Some y). old.before u y less was of_e)
        (λ (new : (u ≡ number) × (y ≡ z)). let l = (n.there t old.transfer old.here).0 in absurd (omega (arith, less, new.0, l))) (n.turns u y there);
  }

  false_true : (c : Bool) → c ≡ false → c ≡ true → ⊥
  false_true c off on = false≢true (sym off ∙ on)

  newest_turns : IsNewest → AreTurnsOf S v ends hs → AreTurnsOf S w ends_now hs
  newest_turns n old = record {
    reported = λ t u y x less here there is told.
        ⊎_elim
        (λ (was : v u ≡ Some x).
        ⊎_elim (λ (was_t : v t ≡ Some y). old.reported t u y x less was_t was is told)
        (λ (new : (t ≡ number) × (y ≡ z)). let l = (n.there u x was).0 in absurd (omega (arith, l, new.0, less))) (n.turns t y here))
        (λ (new : (u ≡ number) × (x ≡ z)). absurd (false_true z.reported n.fresh.1 (sym (ap (λ (r : Turn). r.reported) new.1) ∙ told))) (n.turns u x there);
    released = λ t u y x less here there is gone.
        ⊎_elim
        (λ (was : v u ≡ Some x).
        ⊎_elim (λ (was_t : v t ≡ Some y). old.released t u y x less was_t was is gone)
        (λ (new : (t ≡ number) × (y ≡ z)). let l = (n.there u x was).0 in absurd (omega (arith, l, new.0, less))) (n.turns t y here))
        (λ (new : (u ≡ number) × (x ≡ z)). absurd (false_true z.released n.fresh.2 (sym (ap (λ (r : Turn). r.released) new.1) ∙ gone))) (n.turns u x there);
    told = λ t y here stays gone.
        ⊎_elim (λ (was : v t ≡ Some y). old.told t y was stays gone)
        (λ (new : (t ≡ number) × (y ≡ z)). absurd (false_true z.released n.fresh.2 (sym (ap (λ (r : Turn). r.released) new.1) ∙ gone))) (n.turns t y here);
    next = λ k x here goes.
        ⊎_elim
        (λ (own : (k ≡ e) × (x ≡ b)).
        subst (λ (i : ℕ). AreReportedTo w i x.next) (sym own.0)
        (subst (λ (o : Option ℕ). AreReportedTo w e o) (sym (ap (λ (r : Endpoint). r.next) own.1 ∙ n.goes_on.2)) (next_here n a.next (old.next e a n.moved.was n.goes_on.0))))
        (λ (other : (k ≢ e) × (ends k ≡ Some x)). next_of n k x.next (old.next k x other.1 goes) other.0) (which ends ends_now e a b k x n.moved here);
    owed = λ t y x here at goes told held.
        ⊎_elim
        (λ (was : v t ≡ Some y).
        ⊎_elim
        (λ (own : (y.endpoint ≡ e) × (x ≡ b)). old.owed t y a was (ap ends own.0 ∙ n.moved.was) n.goes_on.0 told held)
        (λ (other : (y.endpoint ≢ e) × (ends y.endpoint ≡ Some x)). old.owed t y x was other.1 goes told held) (which ends ends_now e a b y.endpoint x n.moved at))
        (λ (new : (t ≡ number) × (y ≡ z)). absurd (false_true z.reported n.fresh.1 (sym (ap (λ (r : Turn). r.reported) new.1) ∙ told))) (n.turns t y here);
    order = λ i t u y x at less here there is.
        let l = n.listed i u at in
        let below = (n.there u l.0 l.1).0 in
        ⊎_elim
        (λ (was : v u ≡ Some x).
        ⊎_elim (λ (was_t : v t ≡ Some y). old.order i t u y x at less was_t was is)
        (λ (new : (t ≡ number) × (y ≡ z)). absurd (omega (arith, below, new.0, less))) (n.turns t y here))
        (λ (new : (u ≡ number) × (x ≡ z)). absurd (omega (arith, below, new.0))) (n.turns u x there);
  }

-- the new transfer's place is its first qTD
new_place : (note : ℕ → _) (e : ℕ) (a : Asked) (b : ℕ) → 1 ≤ length a.stages → IsAtPlace note (new_transfer e a b)
new_place note e a b some =
    let zero_left : length a.stages - length a.stages ≡ 0 = omega arith in
    record { some = some; most = omega arith; place = sym (ap (piece_at note b) zero_left) }

asked_places : (d : DriverContent) (m : Mem) (o : Offered) (owner : ℕ → Owner) → Stands (holding d.book m) → Transfers d m o → IsOrderly d → IsOwned d owner → AreAtPlaces (note_in d.notes) d.transfers → AreAtPlaces (note_in o.driver.notes) o.driver.transfers
asked_places d m o owner stands why order old places =
    let all = runs_taken (holding d.book m) why.holding_after (needs why.asked.stages) stands why.runs in
    let bs = all.blocks in
    let ss = why.asked.stages in
    let n = length ss in
    let x = why.endpoint in
    let e = why.number in
    let qtds = take n bs in
    let runs = drop n bs in
    let new : new_runs d why.holding_after ≡ bs = ap (drop (length d.book.taken)) all.are.taken ∙ drop_first d.book.taken bs in
    let alive = goes_on_alive x why.goes_on (order.steady e x why.here) in
    let was = old.each.dummy e (runs_of_endpoint x) (ap (option_map runs_of_endpoint) why.here) (ap (λ k. k || x.gone) why.queued ∙ alive) in
    let are = are_new ss owner x.dummy e (length d.transfers) why.some all.are was in
    let notes = note_stages d.notes ss x.dummy qtds runs in
    let dummy = get_or qtds (n - 1) 0 in
    let y = new_transfer e why.asked x.dummy in
    let f : ℕ → List QtdNote → Offered = λ c ns. accepted_transfer d e x why.asked why.holding_after c ns in
    let now : AreAtPlaces (note_in notes) (d.transfers ++ y ∷ []) = λ t z here held.
    ⊎_elim
    (λ (was_t : slice_get d.transfers t ≡ Some z).
    let p = places t z was_t held in
    let some = p.some in
    let most = p.most in
    record {
      some = p.some;
      most = p.most;
      place = p.place
          ∙ sym (pieces_same (slot_of d.book.slots) owner (note_in d.notes) (note_in notes) t z.first z.qtds (old.each.pieces t (runs_of_transfer z) (ap (option_map runs_of_transfer) was_t) held)
          (λ c q. ap runs_of_note (notes_apart d.notes ss x.dummy qtds runs c (are.apart c (placed_run c (Element t) q) (not_dummy x.dummy c e t was q)))) (z.qtds - z.left) (omega arith));
    })
    (λ (new_t : (t ≡ length d.transfers) × (z ≡ y)). subst (λ (r : Transfer). IsAtPlace (note_in notes) r) (sym new_t.1) (new_place (note_in notes) e why.asked x.dummy why.some))
    (push_which d.transfers y t z here) in
    subst (λ (g : Offered). AreAtPlaces (note_in g.driver.notes) g.driver.transfers) (sym why.is)
    (subst (λ (rs : List ℕ). AreAtPlaces (note_in (f (get_or (take n rs) (n - 1) 0) (note_stages d.notes ss x.dummy (take n rs) (drop n rs))).driver.notes) (f (get_or (take n rs) (n - 1) 0) (note_stages d.notes ss x.dummy (take n rs) (drop n rs))).driver.transfers) (sym new) now)

turn_which : (ts : List Transfer) (y : Transfer) (k : ℕ) (z : Turn) → turn_in (ts ++ y ∷ []) k ≡ Some z → (turn_in ts k ≡ Some z) ⊎ ((k ≡ length ts) × (z ≡ turn_of y))
turn_which ts y k z here = push_case turn_of ts y k z here

-- what tells of turns
abbrev TakeTurns : List Transfer → List Endpoint → List ℕ → Type 0
TakeTurns ts xs hs = AreTurnsOf (IsNotGone (slice_get xs)) (turn_in ts) (slice_get xs) hs × AreReturned (turn_in ts) (slice_get xs)

asked_turns : (d : DriverContent) (m : Mem) (o : Offered) (why : Transfers d m o) → IsOrderly d → why.endpoint.gone ≡ false → TakeTurns d.transfers d.endpoints d.harvested → TakeTurns o.driver.transfers o.driver.endpoints o.driver.harvested
asked_turns d m o why order here_still old = subst (λ (g : Offered). TakeTurns g.driver.transfers g.driver.endpoints g.driver.harvested) (sym why.is) (now _)
  where
    listed : (i u : ℕ) → slice_get d.harvested i ≡ Some u → (z : Turn) × (turn_in d.transfers u ≡ Some z)
    listed i u here =
        let o = owed d.transfers u (slice_get d.transfers u) refl (omega (arith, times_of d.harvested i u here, order.harvests u)) in
        (turn_of o.transfer, ap (option_map turn_of) o.there)

    now : (dummy : ℕ) → TakeTurns (d.transfers ++ new_transfer why.number why.asked why.endpoint.dummy ∷ []) (set d.endpoints why.number (with_queued why.endpoint dummy (length d.transfers))) d.harvested
    now dummy =
        let e = why.number in
        let x = why.endpoint in
        let y = new_transfer e why.asked x.dummy in
        let z = with_queued x dummy (length d.transfers) in
        let v = turn_in d.transfers in
        let w = turn_in (d.transfers ++ y ∷ []) in
        let ends = slice_get d.endpoints in
        let ends_now = slice_get (set d.endpoints e z) in
        let c = changed_plain d.endpoints e x z why.here in
        let newest = newest_turns (IsNotGone ends) v w ends ends_now d.harvested e (length d.transfers) x z (turn_of y)
        (record {
          turns = λ k r there. turn_which d.transfers y k r there;
          there = λ k r there. (within_list turn_of d.transfers k r there, pushed_there turn_of d.transfers y k r there);
          last = ap (option_map turn_of) (pushed_last d.transfers y);
          fresh = (refl, refl, refl);
          moved = c;
          goes_on = (none_told x why.goes_on, none_told z why.goes_on, refl);
          listed = listed;
        }) old.0 in (
          fewer_turns (IsNotGone ends) (IsNotGone ends_now) w ends_now d.harvested (λ t r there stays. changed_stays ends ends_now e x z c refl r.endpoint stays) newest,
          returned_on v w ends ends_now
              (λ k r i there at gone.
              ⊎_elim (λ (was : v k ≡ Some r). same_turn v k r was)
              (λ (new : (k ≡ length d.transfers) × (r ≡ turn_of y)).
              let is : i ≡ z = same_Some i z (sym at ∙ ap (λ (q : Turn). ends_now q.endpoint) new.1 ∙ c.here) in
              absurd (false≢true (sym here_still ∙ ap (λ (q : Endpoint). q.gone) (sym is) ∙ gone)))
              (turn_which d.transfers y k r there))
              (changed_gone ends ends_now e x z c (λ gone. absurd (false≢true (sym here_still ∙ gone)))) old.1,
        )

-- what its endpoint takes
queued_in_turn : (d : DriverContent) (m : Mem) (o : Offered) → Stands (holding d.book m) → HasOwners d → (w : Transfers d m o) → w.asked.sort ≡ sort_by w.endpoint.desc.name.way → AsynchronousTakesTurns d → AsynchronousTakesTurns o.driver
queued_in_turn d m o stands owners w sort old =
    let x = w.endpoint in
    let r = old.asynchronous in
    let places = asked_places d m o owners.owner stands w owners.orderly owners.owned old.turns.places in
    let turns = asked_turns d m o w owners.orderly (stands_alive x (r.endpoints w.number x w.here) w.goes_on) (old.turns.turns, old.turns.returned) in
    let kept : (dummy : ℕ) → KeepDescs d.endpoints (set d.endpoints w.number (with_queued x dummy (length d.transfers))) = λ dummy. descs_set d.endpoints w.number x (with_queued x dummy (length d.transfers)) w.here refl in
    let new_moves : (dummy : ℕ) (notes : List QtdNote) (y : Transfer) → y ≡ new_transfer w.number w.asked x.dummy → MovesAs (accepted_transfer d w.number x w.asked w.holding_after dummy notes).driver y = λ dummy notes y is. record {
      endpoint = with_queued x dummy (length d.transfers);
      here = ap (λ (z : Transfer). slice_get (set d.endpoints w.number (with_queued x dummy (length d.transfers))) z.endpoint) is ∙ set_here d.endpoints w.number x (with_queued x dummy (length d.transfers)) w.here;
      sort = ap (λ (z : Transfer). z.sort) is ∙ sort;
    } in
    let asynchronous : (dummy : ℕ) (notes : List QtdNote) → OnlyAsynchronous (accepted_transfer d w.number x w.asked w.holding_after dummy notes).driver = λ dummy notes. record {
      endpoints = ends_set StandsAsynchronous d.endpoints w.number x (with_queued x dummy (length d.transfers)) w.here
          (λ s. record { asynchronous = s.asynchronous; placement = s.placement; chained = s.chained; unlinked = s.unlinked; ended = s.ended; cancel = s.cancel; gone = s.gone }) r.endpoints;
      moves = λ t y here. ⊎_elim (λ (was : slice_get d.transfers t ≡ Some y). moves_on d _ y y refl refl (kept dummy) (r.moves t y was))
          (λ (new : (t ≡ length d.transfers) × (y ≡ new_transfer w.number w.asked x.dummy)). new_moves dummy notes y new.1)
          (push_which d.transfers (new_transfer w.number w.asked x.dummy) t y here);
      command = tt;
      leaver = λ e z is here. absurd (cc);
      unlinks = r.unlinks;
      removals = r.removals;
    } in
    record {
      asynchronous = subst (λ (g : Offered). OnlyAsynchronous g.driver) (sym w.is) (asynchronous _ _);
      chained = transfer_chained d m o owners.owner stands w owners.orderly owners.owned old.chained;
      turns = record { places = places; turns = turns.0; returned = turns.1 };
    }

moved_in_turn : (d : DriverContent) (m : Mem) (o : Offered) → Stands (holding d.book m) → HasOwners d → IsAsked d m o → AsynchronousTakesTurns d → AsynchronousTakesTurns o.driver
moved_in_turn d m o stands owners why old =
    queued_in_turn d m o stands owners why.transfers (ap (λ (a : Asked). a.sort) why.asked) old

-- a get or put, where all endpoints are bulk ones
pub asked_in_turn : (d : DriverContent) (m : Mem) (o : Offered) → Stands (holding d.book m) → HasOwners d → IsAsked d m o → TakesTurns d → TakesTurns o.driver
asked_in_turn d m o stands owners why old =
    let w = why.transfers in
    let x = w.endpoint in
    let way = x.desc.name.way in
    let each : (dummy e : ℕ) (y : Endpoint) → slice_get (set d.endpoints w.number (with_queued x dummy (length d.transfers))) e ≡ Some y → IsBulk y.desc =
    λ dummy. ends_set (λ (y : Endpoint). IsBulk y.desc) d.endpoints w.number x (with_queued x dummy (length d.transfers)) w.here (λ s. s) (λ e y here. (old.bulk.endpoints e y here).bulk) in
    takes_bulk_turns o.driver (subst (λ (g : Offered). EachBulk g.driver) (sym w.is) (each _)) (ap (λ (g : Offered). g.driver.mends) w.is ∙ old.bulk.mends)
    (queued_in_turn d m o stands owners w (ap (λ (a : Asked). a.sort) why.asked) (bulk_is_asynchronous d old))

asked_nothing : (d : DriverContent) (m : Mem) (o : Offered) → IsAsked d m o → NothingLeaves d → NothingLeaves o.driver
asked_nothing d m o why old =
    let w = why.transfers in
    let x = w.endpoint in
    let now : (dummy : ℕ) (notes : List QtdNote) → NothingLeaves (accepted_transfer d w.number x w.asked w.holding_after dummy notes).driver = λ dummy notes. record {
      endpoints = ends_set IsStaying d.endpoints w.number x (with_queued x dummy (length d.transfers)) w.here (λ s. record { cancelled = s.cancelled; linked = s.linked; gone = s.gone }) old.endpoints;
      command = refl;
      waiting = old.waiting;
      rung = old.rung;
      cleared = old.cleared;
    } in
    subst (λ (g : Offered). NothingLeaves g.driver) (sym w.is) (now _ _)

-- ---- an endpoint is cancelled

-- it has ended now, or had before
first_some : (o : Option EndCause) → first_end o ≢ None
first_some None f = cc
first_some (Some cause) f = cc

-- as far as its report has it, it goes on where it went on before
cancel_goes : (x : Endpoint) → (ended_by_cancel x.ended ≡ true → ⊥) → told_end (record x { cancelled = true; ended = first_end x.ended }) ≡ None → told_end x ≡ None
cancel_goes x never goes = by x.ended refl
  where
    by : (o : Option EndCause) → x.ended ≡ o → told_end x ≡ None
    by None is = none_told x is
    by (Some cause) is = ⊎_elim
        (λ (none : first_end x.ended ≡ None). absurd (first_some x.ended none))
        (λ (told : is_told (record x { cancelled = true; ended = first_end x.ended }) ≡ true).
        let c : ended_by_cancel (first_end x.ended) ≡ true = (by_cancel (record x { cancelled = true; ended = first_end x.ended }) told).cancel in
        absurd (never (ap ended_by_cancel is ∙ (sym (ap (λ (o : Option EndCause). ended_by_cancel (first_end o)) is) ∙ c))))
        (told_none (record x { cancelled = true; ended = first_end x.ended }) goes)

cancel_queue : (d : DriverContent) (m : Mem) (o : Offered) → Cancels d m o → AsynchronousTakesTurns d → AsynchronousTakesTurns o.driver
cancel_queue d m o why old =
    let e = why.number in
    let x = why.endpoint in
    let z : Endpoint = record x { cancelled = true; ended = first_end x.ended } in
    let r = old.asynchronous in
    let s = r.endpoints e x why.here in
    let on = fresh_stands_linked x s why.fresh in
    let kept = linked_stands_alive x s on in
    let v = turn_in d.transfers in
    let ends = slice_get d.endpoints in
    let ends_now = slice_get (set d.endpoints e z) in
    let c = changed_plain d.endpoints e x z why.here in
    let now : AsynchronousTakesTurns (accepted_cancel d e x) = record {
      asynchronous = record {
        endpoints = ends_set StandsAsynchronous d.endpoints e x z why.here
            (λ s. record { asynchronous = s.asynchronous; placement = s.placement; chained = s.chained; unlinked = λ off. refl; ended = λ on. first_some x.ended; cancel = λ on. refl; gone = s.gone }) r.endpoints;
        moves = moves_same d _ (descs_set d.endpoints e x z why.here refl) r.moves;
        command = tt;
        leaver = λ k w is here.
            let own : k ≡ e = sym (same_Some e k is) in
            let same : w ≡ z = same_Some w z (sym here ∙ ap ends_now own ∙ c.here) in
            record { cancelled = ap (λ (i : Endpoint). i.cancelled) same; linked = ap (λ (i : Endpoint). i.linked) same ∙ on };
        unlinks = r.unlinks;
        removals = r.removals;
      };
      chained = same_chained (views_of d) (views_of (accepted_cancel d e x)) (stays_same d (accepted_cancel d e x) refl (endpoint_stays d e x z why.here refl) (λ i. refl) (λ i. refl) refl refl).same old.chained;
      turns = record {
        places = old.turns.places;
        turns = fewer_turns (IsNotGone ends) (IsNotGone ends_now) v ends_now d.harvested (λ t y there stays. changed_stays ends ends_now e x z c refl y.endpoint stays)
            (ends_turns (IsNotGone ends) v ends ends_now d.harvested (changed_end ends ends_now e x z c (λ goes. (cancel_goes x (λ by. absurd (false≢true (sym why.fresh ∙ s.cancel by))) goes, refl))) old.turns.turns);
        returned = returned_on v v ends ends_now (λ k i w there here gone. same_turn v k i there) (changed_gone ends ends_now e x z c (λ gone. absurd (false≢true (sym kept ∙ gone)))) old.turns.returned;
      };
    } in
    subst (λ (g : Offered). AsynchronousTakesTurns g.driver) (sym why.is) now

-- of a bulk endpoint
pub cancel_leaves : (d : DriverContent) (m : Mem) (o : Offered) → Cancels d m o → TakesTurns d → TakesTurns o.driver
cancel_leaves d m o why old =
    let x = why.endpoint in
    let z : Endpoint = record x { cancelled = true; ended = first_end x.ended } in
    takes_bulk_turns o.driver
    (subst (λ (g : Offered). EachBulk g.driver) (sym why.is) (ends_set (λ (y : Endpoint). IsBulk y.desc) d.endpoints why.number x z why.here (λ s. s) (λ e y here. (old.bulk.endpoints e y here).bulk)))
    (ap (λ (g : Offered). g.driver.mends) why.is ∙ old.bulk.mends)
    (cancel_queue d m o why (bulk_is_asynchronous d old))

-- ---- any command

accepts_in_turn : (d : DriverContent) (m : Mem) (o : Offered) (cmd : Cmd) → Stands (holding d.book m) → HasOwners d → AcceptsAsynchronous d m o cmd → AsynchronousTakesTurns d → AsynchronousTakesTurns o.driver
accepts_in_turn d m o (commands.OpenEp x) stands owners why old = open_queue d m o owners.orderly why old
accepts_in_turn d m o (commands.Get name len by) stands owners why old = moved_in_turn d m o stands owners why old
accepts_in_turn d m o (commands.Put name bytes by) stands owners why old = moved_in_turn d m o stands owners why old
accepts_in_turn d m o (commands.Control name setup bytes) stands owners why old = queued_in_turn d m o stands owners why.transfers (ap (λ (a : Asked). a.sort) why.asked ∙ ap sort_by (sym why.way)) old
accepts_in_turn d m o (commands.Cancel name) stands owners why old = cancel_queue d m o why old
accepts_in_turn d m o _ stands owners why old = absurd why

pub commands_keep_asynchronous_turns : (d : DriverContent) (m : Mem) (cmd : Cmd) (o : Offered) → Stands (holding d.book m) → HasOwners d → AsynchronousTakesTurns d → OpensAsynchronous cmd → offered d m cmd ≡ Ok o → AsynchronousTakesTurns o.driver
commands_keep_asynchronous_turns d m cmd o stands owners old only is = accepts_in_turn d m o cmd stands owners (asynchronous_command_is_accepted d m cmd o old.asynchronous only is) old

-- an accepted open, get or put
accepted_leaves : (d : DriverContent) (m : Mem) (o : Offered) → Stands (holding d.book m) → HasOwners d → IsAccepted d m o → TakesTurns d → TakesTurns o.driver
accepted_leaves d m o stands owners why old =
    ⊎_elim (λ (why : IsOpened d m o). open_leaves d m o owners.orderly why old) (λ (why : IsAsked d m o). asked_in_turn d m o stands owners why old) why

accepted_nothing : (d : DriverContent) (m : Mem) (o : Offered) → IsAccepted d m o → NothingLeaves d → NothingLeaves o.driver
accepted_nothing d m o why old = ⊎_elim (λ (why : IsOpened d m o). open_nothing d m o why old) (λ (why : IsAsked d m o). asked_nothing d m o why old) why

leaves_as : (d : DriverContent) (m : Mem) (o : Offered) (cmd : Cmd) → Stands (holding d.book m) → HasOwners d → IsAcceptedAs d m o cmd → TakesTurns d → TakesTurns o.driver
leaves_as d m o (commands.Cancel name) stands owners why old = cancel_leaves d m o why old
leaves_as d m o _ stands owners why old = accepted_leaves d m o stands owners why old

pub is_accepted : (d : DriverContent) (m : Mem) (cmd : Cmd) (o : Offered) → OnlyBulk d → OpensOrCancelsBulk cmd → offered d m cmd ≡ Ok o → IsAcceptedAs d m o cmd
is_accepted d m cmd o bulk only is = command_accepted d m cmd o (λ e x here. let s = bulk.endpoints e x here in (s.bulk, s.placement)) only is

pub commands_keep_turns : (d : DriverContent) (m : Mem) (cmd : Cmd) (o : Offered) → Stands (holding d.book m) → HasOwners d → TakesTurns d → OpensOrCancelsBulk cmd → offered d m cmd ≡ Ok o → TakesTurns o.driver
commands_keep_turns d m cmd o stands owners old only is = leaves_as d m o cmd stands owners (is_accepted d m cmd o old.bulk only is) old

pub command_nothing : (d : DriverContent) (m : Mem) (cmd : Cmd) (o : Offered) → OnlyBulk d → NothingLeaves d → OpensBulk cmd → offered d m cmd ≡ Ok o → NothingLeaves o.driver
command_nothing d m cmd o bulk none only is = accepted_nothing d m o (command_received d m cmd o bulk only is) none
