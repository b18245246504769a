-- A driver whose transfers take turns still does so with an endpoint more that was given back, and with transfers more of such an endpoint.
use Rattle.std.proofs.Common.{◌≡◌, ℕ, suc, ◌<◌, true, false, List, [], ◌∷◌, ◌++◌, length, slice_get, Option, Some, None, option_map, ap, sym, subst, ◌∙◌, ⊎_elim, refl, arith, length-append}
use Rattle.std.specs.Prelude.{◌⊎◌}
use Rattle.std.specs.List.{AllByRecursion}
use Rattle.std.proofs.lemmas.Bool.{false≢true}
use Rattle.std.proofs.lemmas.List.{append-nil, append_assoc}
use Rattle.std.proofs.lemmas.Option.{slice_get_within, same_Some}
use Rattle.law_common.proofs.Lists.{push_which, pushed_there}
use Rattle.mem_runs.specs.Book.{Book, slot_of}
use Rattle.drv_periodic_table.specs.Periodic.{PeriodicContent}
use Rattle.drv_table.specs.declared.content.Reserve.{Reserve}
use Rattle.drv_table.specs.declared.content.Endpoint.{Endpoint}
use Rattle.drv_table.specs.declared.content.Transfer.{Transfer}
use Rattle.drv_table.specs.declared.content.Command.{Command}
use Rattle.drv_table.specs.DriverContent.{DriverContent}
use Rattle.drv_table.specs.Releases.{ended_by_cancel}
use Rattle.claims_driver.specs.Leaving.{leaver}
use Rattle.claims_driver.specs.Owners.{TransferRuns, runs_of_transfer, transfer_in, views_of}
use Rattle.law_driver.proofs.lemmas.run_owners.Accepted.{push_case}
use Rattle.law_driver.specs.chained_transfers.Bulk.{IsBulkCommand, IsToUnlink, sort_by}
use Rattle.law_driver.specs.chained_transfers.Asynchronous.{StandsAsynchronous, OnlyAsynchronous}
use Rattle.law_driver.specs.chained_transfers.AsynchronousTurns.{AsynchronousTakesTurns}
use Rattle.law_driver.specs.chained_transfers.Chains.{NoneFrom, AreChained}
use Rattle.law_driver.specs.chained_transfers.Turns.{Turn, turn_of, turn_in, AreReportedTo, AreTurns}
use Rattle.law_driver.proofs.lemmas.chained_transfers.Moves.{moves_same, descs_push}
use Rattle.law_driver.proofs.lemmas.chained_transfers.Chained.{endpoint_chained, within_list}
use Rattle.law_driver.proofs.lemmas.queued_drivers.CommandFields.{push_get}

-- ---- what turns don't tell

pub turns_alike : (d : DriverContent) (book : Book) (k : Option Command) (made : ℕ) (room : Reserve) (p : PeriodicContent) → IsBulkCommand k
    → ((e : ℕ) (x : Endpoint) → leaver k ≡ Some e → slice_get d.endpoints e ≡ Some x → IsToUnlink x) → p.unlinks ≡ [] → p.removals ≡ []
    → AsynchronousTakesTurns d → AsynchronousTakesTurns (record d { book = book; command = k; made = made; room = room; periodic = p })
turns_alike d book k made room p is leaves unlinks removals old =
    let r = old.asynchronous in
    record {
      asynchronous = record {
        endpoints = r.endpoints;
        moves = λ t y here. let m = r.moves t y here in record { endpoint = m.endpoint; here = m.here; sort = m.sort };
        command = is;
        leaver = leaves;
        unlinks = unlinks;
        removals = removals;
      };
      chained = record { some = old.chained.some; next = old.chained.next; last = old.chained.last };
      turns = record { places = old.turns.places; turns = old.turns.turns; returned = old.turns.returned };
    }

-- ---- places of transfers

pub move_within : (d : DriverContent) → OnlyAsynchronous d → (t : ℕ) (y : Transfer) → slice_get d.transfers t ≡ Some y → y.endpoint < length d.endpoints
move_within d r t y there = let m = r.moves t y there in slice_get_within d.endpoints y.endpoint m.endpoint m.here

runs_within : (d : DriverContent) → OnlyAsynchronous d → (t : ℕ) (y : TransferRuns) → transfer_in d.transfers t ≡ Some y → y.endpoint < length d.endpoints
runs_within d r t y there = by (slice_get d.transfers t) refl there
  where
    by : (o : Option Transfer) → slice_get d.transfers t ≡ o → option_map runs_of_transfer o ≡ Some y → y.endpoint < length d.endpoints
    by None is f = absurd (cc)
    by (Some z) is f = subst (λ (k : TransferRuns). k.endpoint < length d.endpoints) (same_Some (runs_of_transfer z) y f) (move_within d r t z is)

turns_within : (d : DriverContent) → OnlyAsynchronous d → (t : ℕ) (y : Turn) → turn_in d.transfers t ≡ Some y → y.endpoint < length d.endpoints
turns_within d r t y there = by (slice_get d.transfers t) refl there
  where
    by : (o : Option Transfer) → slice_get d.transfers t ≡ o → option_map turn_of o ≡ Some y → y.endpoint < length d.endpoints
    by None is f = absurd (cc)
    by (Some z) is f = subst (λ (k : Turn). k.endpoint < length d.endpoints) (same_Some (turn_of z) y f) (move_within d r t z is)

-- ---- an endpoint more

pub end_turns : (d : DriverContent) (x : Endpoint) → d.command ≡ None → StandsAsynchronous x → x.next ≡ None → AsynchronousTakesTurns d → AsynchronousTakesTurns (record d { endpoints = d.endpoints ++ x ∷ [] })
end_turns d x idle stands none old =
    let r = old.asynchronous in
    let v = turn_in d.transfers in
    let at : (t : ℕ) (y : Turn) → v t ≡ Some y → slice_get (d.endpoints ++ x ∷ []) y.endpoint ≡ slice_get d.endpoints y.endpoint = λ t y there. push_get d.endpoints (x ∷ []) y.endpoint (turns_within d r t y there) in
    let s = old.turns.turns in
    record {
      asynchronous = record {
        endpoints = λ e z here. ⊎_elim (λ (was : slice_get d.endpoints e ≡ Some z). r.endpoints e z was)
            (λ (new : (e ≡ length d.endpoints) × (z ≡ x)). subst (λ (y : Endpoint). StandsAsynchronous y) (sym new.1) stands) (push_which d.endpoints x e z here);
        moves = moves_same d _ (descs_push d.endpoints x) r.moves;
        command = r.command;
        leaver = λ e z is here. let no : None ≡ Some e = sym (ap leaver idle) ∙ is in absurd (cc);
        unlinks = r.unlinks;
        removals = r.removals;
      };
      chained = endpoint_chained (views_of d) d.endpoints x (λ e. refl) (runs_within d r) old.chained (slot_of d.book.slots);
      turns = record {
        places = old.turns.places;
        turns = record {
          reported = s.reported;
          released = s.released;
          told = λ t y there stays. s.told t y there (record { endpoint = stays.endpoint; here = sym (at t y there) ∙ stays.here; gone = stays.gone });
          next = λ e z here goes. ⊎_elim (λ (was : slice_get d.endpoints e ≡ Some z). s.next e z was goes)
              (λ (new : (e ≡ length d.endpoints) × (z ≡ x)).
              subst (λ (o : Option ℕ). AreReportedTo v e o) (sym (ap (λ (y : Endpoint). y.next) new.1 ∙ none))
              (λ u y there of_e. let low = turns_within d r u y there in absurd (omega (arith, low, of_e, new.0)))) (push_which d.endpoints x e z here);
          owed = λ t y z there here. s.owed t y z there (sym (at t y there) ∙ here);
          order = s.order;
        };
        returned = λ t y z there here. old.turns.returned t y z there (sym (at t y there) ∙ here);
      };
    }

-- ---- a transfer more, of an endpoint that was given back

pub record IsGivenTo (d : DriverContent) (e : ℕ) (x : Endpoint) : Type 0 where
  pub idle : d.command ≡ None
  pub here : slice_get d.endpoints e ≡ Some x
  pub gone : x.gone ≡ true
  pub cancel : ended_by_cancel x.ended ≡ true

-- it was given back, and it is of that endpoint
pub record IsGiven (e : ℕ) (x : Endpoint) (y : Transfer) : Type 0 where
  pub endpoint : y.endpoint ≡ e
  pub sort : y.sort ≡ sort_by x.desc.name.way
  pub reported : y.reported ≡ true
  pub released : y.released ≡ true

abbrev pub AreListed : List ℕ → ℕ → Type 0
AreListed hs n = (i u : ℕ) → slice_get hs i ≡ Some u → u < n

module _ (d : DriverContent) (e : ℕ) (x : Endpoint) (y : Transfer) (at : IsGivenTo d e x) (is : IsGiven e x y) (listed : AreListed d.harvested (length d.transfers)) (old : AsynchronousTakesTurns d) where
  abbrev now : List Transfer
  now = d.transfers ++ y ∷ []

  -- the others of the endpoint were given back, too
  others : (t : ℕ) (z : Turn) → turn_in d.transfers t ≡ Some z → z.endpoint ≡ e → (z.released ≡ true) × (z.reported ≡ true)
  others t z there of_e = let r = old.turns.returned t z x there (ap (slice_get d.endpoints) of_e ∙ at.here) at.gone in (r.released, r.told at.cancel)

  abbrev IsIt : ℕ → Turn → Type 0
  IsIt t z = (t ≡ length d.transfers) × (z ≡ turn_of y)

  turn_which : (t : ℕ) (z : Turn) → turn_in now t ≡ Some z → (turn_in d.transfers t ≡ Some z) ⊎ IsIt t z
  turn_which t z there = push_case turn_of d.transfers y t z there

  low : (t : ℕ) (z : Turn) → turn_in d.transfers t ≡ Some z → t < length d.transfers
  low t z there = within_list turn_of d.transfers t z there

  reported_it : (t : ℕ) (z : Turn) → IsIt t z → z.reported ≡ true
  reported_it t z new = ap (λ (r : Turn). r.reported) new.1 ∙ is.reported

  released_it : (t : ℕ) (z : Turn) → IsIt t z → z.released ≡ true
  released_it t z new = ap (λ (r : Turn). r.released) new.1 ∙ is.released

  of_it : (t : ℕ) (z : Turn) → IsIt t z → z.endpoint ≡ e
  of_it t z new = ap (λ (r : Turn). r.endpoint) new.1 ∙ is.endpoint

  -- two of them, one before the other: the first was there
  module _ (P : Turn → Type 0) (t u : ℕ) (a b : Turn) (less : t < u) (here : turn_in now t ≡ Some a) (there : turn_in now u ≡ Some b) (same : b.endpoint ≡ a.endpoint) where
    two_of : (turn_in d.transfers t ≡ Some a → turn_in d.transfers u ≡ Some b → P a) → (turn_in d.transfers t ≡ Some a → a.endpoint ≡ e → P a) → P a
    two_of both one =
        ⊎_elim
        (λ (was : turn_in d.transfers t ≡ Some a).
        ⊎_elim (λ (was_u : turn_in d.transfers u ≡ Some b). both was was_u) (λ (new : IsIt u b). one was (sym same ∙ of_it u b new)) (turn_which u b there))
        (λ (new : IsIt t a).
        ⊎_elim (λ (was_u : turn_in d.transfers u ≡ Some b). let l = low u b was_u in absurd (omega (arith, l, less, new.0)))
        (λ (new_u : IsIt u b). absurd (omega (arith, less, new.0, new_u.0))) (turn_which u b there))
        (turn_which t a here)

  next_on : (k : ℕ) (o : Option ℕ) → AreReportedTo (turn_in d.transfers) k o → AreReportedTo (turn_in now) k o
  next_on k None was = λ u z there of_k. ⊎_elim (λ (one : turn_in d.transfers u ≡ Some z). was u z one of_k) (λ (new : IsIt u z). reported_it u z new) (turn_which u z there)
  next_on k (Some t) was = record {
    transfer = was.transfer;
    here = pushed_there turn_of d.transfers y t was.transfer was.here;
    endpoint = was.endpoint;
    waits = was.waits;
    before = λ u z less there of_k. ⊎_elim (λ (one : turn_in d.transfers u ≡ Some z). was.before u z less one of_k) (λ (new : IsIt u z). reported_it u z new) (turn_which u z there);
  }

  given_order : AreTurns (turn_in now) (slice_get d.endpoints) d.harvested
  given_order =
      let s = old.turns.turns in
      record {
        reported = λ t u a b less here there same told. two_of (λ (z : Turn). z.reported ≡ true) t u a b less here there same (λ was was_u. s.reported t u a b less was was_u same told) (λ was of_e. (others t a was of_e).1);
        released = λ t u a b less here there same gone. two_of (λ (z : Turn). z.released ≡ true) t u a b less here there same (λ was was_u. s.released t u a b less was was_u same gone) (λ was of_e. (others t a was of_e).0);
        told = λ t a here stays gone. ⊎_elim (λ (was : turn_in d.transfers t ≡ Some a). s.told t a was stays gone) (λ (new : IsIt t a). reported_it t a new) (turn_which t a here);
        next = λ k z here goes. next_on k z.next (s.next k z here goes);
        owed = λ t a z here there goes told held. ⊎_elim (λ (was : turn_in d.transfers t ≡ Some a). s.owed t a z was there goes told held)
            (λ (new : IsIt t a). absurd (false≢true (sym held ∙ released_it t a new))) (turn_which t a here);
        order = λ i t u a b in_list less here there same.
            ⊎_elim
            (λ (was_u : turn_in d.transfers u ≡ Some b).
            ⊎_elim (λ (was : turn_in d.transfers t ≡ Some a). s.order i t u a b in_list less was was_u same)
            (λ (new : IsIt t a). let l = low u b was_u in absurd (omega (arith, l, less, new.0))) (turn_which t a here))
            (λ (new : IsIt u b). let l = listed i u in_list in absurd (omega (arith, l, new.0))) (turn_which u b there);
      }

  -- ---- the chain

  runs_which : (t : ℕ) (z : TransferRuns) → transfer_in now t ≡ Some z → z.released ≡ false → transfer_in d.transfers t ≡ Some z
  runs_which t z there held =
      ⊎_elim (λ (was : transfer_in d.transfers t ≡ Some z). was)
      (λ (new : (t ≡ length d.transfers) × (z ≡ runs_of_transfer y)). absurd (false≢true (sym held ∙ (ap (λ (r : TransferRuns). r.released) new.1 ∙ is.released))))
      (push_case runs_of_transfer d.transfers y t z there)

  -- one that wasn't given back is of another endpoint
  held_other : (t : ℕ) (z : TransferRuns) → transfer_in d.transfers t ≡ Some z → z.released ≡ false → z.endpoint ≡ e → ⊥
  held_other t z there held of_e = by (slice_get d.transfers t) refl there
    where
      by : (o : Option Transfer) → slice_get d.transfers t ≡ o → option_map runs_of_transfer o ≡ Some z → ⊥
      by None at f = cc
      by (Some w) at f =
          let same : runs_of_transfer w ≡ z = same_Some (runs_of_transfer w) z f in
          let given = others t (turn_of w) (ap (option_map turn_of) at) (ap (λ (r : TransferRuns). r.endpoint) same ∙ of_e) in
          false≢true (sym held ∙ (sym (ap (λ (r : TransferRuns). r.released) same) ∙ given.0))

  none_before : (k from to : ℕ) → NoneFrom (record (views_of d) { transfer = transfer_in now }) k from to → NoneFrom (views_of d) k from to
  none_before k from to none i z least below there = none i z least below (pushed_there runs_of_transfer d.transfers y i z there)

  given_chained : AreChained (views_of (record d { transfers = now }))
  given_chained = record {
    some = λ t z there held. old.chained.some t z (runs_which t z there held) held;
    next = λ t u z w there held there_u less same none.
        let was = runs_which t z there held in
        ⊎_elim
        (λ (was_u : transfer_in d.transfers u ≡ Some w). old.chained.next t u z w was held was_u less same (none_before z.endpoint (suc t) u none))
        (λ (new : (u ≡ length d.transfers) × (w ≡ runs_of_transfer y)). absurd (held_other t z was held (sym same ∙ (ap (λ (r : TransferRuns). r.endpoint) new.1 ∙ is.endpoint))))
        (push_case runs_of_transfer d.transfers y u w there_u);
    last = λ t z w there held here none. old.chained.last t z w (runs_which t z there held) held here (λ u. none_before z.endpoint (suc t) u (none u));
  }

  -- ---- all of it

  pub given_turns : AsynchronousTakesTurns (record d { transfers = d.transfers ++ y ∷ [] })
  given_turns =
      let r = old.asynchronous in
      record {
        asynchronous = record {
          endpoints = r.endpoints;
          moves = λ t z there. ⊎_elim (λ (was : slice_get d.transfers t ≡ Some z). let m = r.moves t z was in record { endpoint = m.endpoint; here = m.here; sort = m.sort })
              (λ (new : (t ≡ length d.transfers) × (z ≡ y)).
              record { endpoint = x; here = ap (λ (w : Transfer). slice_get d.endpoints w.endpoint) new.1 ∙ (ap (slice_get d.endpoints) is.endpoint ∙ at.here); sort = ap (λ (w : Transfer). w.sort) new.1 ∙ is.sort })
              (push_which d.transfers y t z there);
          command = r.command;
          leaver = r.leaver;
          unlinks = r.unlinks;
          removals = r.removals;
        };
        chained = given_chained;
        turns = record {
          places = λ t z there held. ⊎_elim (λ (was : slice_get d.transfers t ≡ Some z). old.turns.places t z was held)
              (λ (new : (t ≡ length d.transfers) × (z ≡ y)). absurd (false≢true (sym held ∙ (ap (λ (w : Transfer). w.released) new.1 ∙ is.released)))) (push_which d.transfers y t z there);
          turns = given_order;
          returned = λ t a z there here gone. ⊎_elim (λ (was : turn_in d.transfers t ≡ Some a). old.turns.returned t a z was here gone)
              (λ (new : IsIt t a). record { released = released_it t a new; told = λ on. reported_it t a new }) (turn_which t a there);
        };
      }

-- ---- and more of them

listed_more : (hs : List ℕ) (ts : List Transfer) (y : Transfer) → AreListed hs (length ts) → AreListed hs (length (ts ++ y ∷ []))
listed_more hs ts y listed i u here = let l = listed i u here in let m = length-append ts (y ∷ []) in omega (arith, l, m)

pub all_given : (d : DriverContent) (e : ℕ) (x : Endpoint) (ys : List Transfer) → IsGivenTo d e x → AllByRecursion (IsGiven e x) ys → AreListed d.harvested (length d.transfers) → AsynchronousTakesTurns d
    → AsynchronousTakesTurns (record d { transfers = d.transfers ++ ys })
all_given d e x [] at each listed old = subst (λ (ts : List Transfer). AsynchronousTakesTurns (record d { transfers = ts })) (sym (append-nil d.transfers)) old
all_given d e x (y ∷ ys) at each listed old =
    subst (λ (ts : List Transfer). AsynchronousTakesTurns (record d { transfers = ts })) (append_assoc d.transfers (y ∷ []) ys)
    (all_given (record d { transfers = d.transfers ++ y ∷ [] }) e x ys (record { idle = at.idle; here = at.here; gone = at.gone; cancel = at.cancel }) each.1
    (listed_more d.harvested d.transfers y listed) (given_turns d e x y at each.0 listed old))
