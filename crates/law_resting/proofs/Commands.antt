-- An accepted command keeps what is to be given back, and what is next, counted; and a driver that was just built forgets nothing.
use Rattle.std.proofs.Common.{◌≡◌, ◌≢◌, ℕ, zero, suc, ◌+◌, ◌-◌, ◌%◌, ◌<◌, ◌≤◌, Bool, true, false, cond, not, ◌||◌, List, [], ◌∷◌, ◌++◌, length, take, drop, get_or, set, slice_get, Option, Some, None, ap, sym, subst, ◌∙◌, ⊎_elim, refl, arith}
use Rattle.std.specs.Prelude.{is_some}
use Rattle.std.proofs.lemmas.Bool.{cases_lt, cases_eq, false≢true}
use Rattle.std.proofs.lemmas.Option.{same_Some, slice_get_within}
use Rattle.std.proofs.lemmas.Result.{IfOk-at_ok}
use Rattle.law_common.proofs.Lists.{push_which, set_here, pushed_last}
use Rattle.law_driver.proofs.Common.{iso_frames}
use Rattle.usb_base.specs.declared.endpoints.EndCause.{EndCause}
use Rattle.usb_base.specs.declared.endpoints.EpDesc.{EpDesc}
use Rattle.word_mem.specs.Memory.{Mem}
use Rattle.mem_runs.specs.Book.{Book}
use Rattle.bandwidth.specs.declared.placements.Placement.{Placement}
use Rattle.drv_periodic_table.specs.Periodic.{is_periodic}
use Rattle.drv_table.specs.declared.content.Command.{Command}
use Rattle.drv_table.specs.declared.content.Command.TheVariants as unfinished
use Rattle.drv_table.specs.declared.content.Endpoint.{Endpoint}
use Rattle.drv_table.specs.declared.content.Slots.{Slots}
use Rattle.drv_table.specs.declared.content.Transfer.{Transfer}
use Rattle.drv_table.specs.Accepting.{Offered, new_runs, first_waiting}
use Rattle.drv_table.specs.CancelOffers.{first_end, endpoint_members, with_cancel}
use Rattle.drv_table.specs.DriverContent.{DriverContent}
use Rattle.drv_table.specs.IsoOffers.{Descriptors, total_of, slot_runs, descriptor_transfer, one_descriptor, all_descriptors}
use Rattle.drv_table.specs.Offers.{new_endpoint, placed_endpoint, with_queued, new_transfer}
use Rattle.claims_driver.specs.Leaving.{owes, leaves_ring, leaves_frames, leaver, Returns, returns_of, AreOrderly, IsOrderly}
use Rattle.law_driver.specs.run_owners.Accepts.{Accepts, opens, chains, places, transfers, describes, cancels, unchains}
use Rattle.law_driver.proofs.lemmas.run_owners.Commands.{each_command_has_its_reason}
use Rattle.law_driver.proofs.lemmas.run_owners.Goes.{begun_orderly}
use Rattle.law_driver.proofs.lemmas.run_owners.Ordered.{pushed_below}
use Rattle.law_driver.proofs.lemmas.run_owners.Orders.{owes_nothing, set_case, IsLike, endpoint_changed}
use Rattle.law_resting.specs.Counted.{IsFirstUntold, IsNextIn, counted, AreCounted, HasSomeIn, IsCounted, CommandsKeepCounts, NewDriverIsCounted}
use Rattle.law_resting.proofs.Counting.{next_on, IsAs, endpoint_as}
use Rattle.law_resting.proofs.Described.{some_described}
use Rattle.law_resting.proofs.Events.{begun_beside, or_done_counted}

-- ---- one more endpoint

past_is : (f : Option Endpoint → ℕ) (xs : List Endpoint) (y : Endpoint) (i : ℕ) (o : Option Endpoint) → f None ≡ 0 → f (Some y) ≡ 0
    → length xs ≤ i → slice_get (xs ++ y ∷ []) i ≡ o → f o ≡ 0
past_is f xs y i None none new past is = none
past_is f xs y i (Some z) none new past is =
    ⊎_elim (λ (w : slice_get xs i ≡ Some z). absurd (omega (arith, past, slice_get_within xs i z w)))
    (λ (w : (i ≡ length xs) × (z ≡ y)). ap (λ (v : Endpoint). f (Some v)) w.1 ∙ new) (push_which xs y i z is)

endpoint_pushed : {r : Returns} {ts : List Transfer} {xs : List Endpoint} (y : Endpoint) → y.cancelled ≡ false → y.next ≡ None
    → leaves_ring (Some y) ≡ 0 → leaves_frames (Some y) ≡ 0
    → ((t : ℕ) (v : Transfer) → slice_get ts t ≡ Some v → v.endpoint < length xs) → AreCounted r ts xs None → AreCounted r ts (xs ++ y ∷ [])
    None
endpoint_pushed {r = r} {ts = ts} {xs = xs} y fresh idle ring frames within old = record {
  harvests = λ t v z there at goes. old.harvests t v z there (sym (pushed_below xs y v.endpoint (within t v there)) ∙ at) goes;
  leaving = λ i.
      ⊎_elim (λ (below : i < length xs). let now = ap leaves_ring (pushed_below xs y i below) in omega (arith, now, old.leaving i))
      (λ (past : length xs ≤ i). let now = past_is leaves_ring xs y i (slice_get (xs ++ y ∷ []) i) refl ring past refl in omega
      (arith, now)) (cases_lt i (length xs));
  removed = λ i.
      ⊎_elim (λ (below : i < length xs). let now = ap leaves_frames (pushed_below xs y i below) in omega (arith, now, old.removed i))
      (λ (past : length xs ≤ i). let now = past_is leaves_frames xs y i (slice_get (xs ++ y ∷ []) i) refl frames past refl in omega
      (arith, now)) (cases_lt i (length xs));
  cancelled = λ i z there over on.
      ⊎_elim (λ (w : slice_get xs i ≡ Some z). old.cancelled i z w over on)
      (λ (w : (i ≡ length xs) × (z ≡ y)). absurd (false≢true (sym (ap (λ (v : Endpoint). v.cancelled) w.1 ∙ fresh) ∙ over)))
      (push_which xs y i z there);
  next = λ i z there goes.
      ⊎_elim (λ (w : slice_get xs i ≡ Some z). old.next i z w goes)
      (λ (w : (i ≡ length xs) × (z ≡ y)).
      subst (IsNextIn ts i) (sym (ap (λ (v : Endpoint). v.next) w.1 ∙ idle)) (λ u v at of. absurd (omega (arith, within u v at, of, w.0))))
      (push_which xs y i z there);
}

-- ---- one more transfer

-- of another endpoint
next_pushed : (ts : List Transfer) (n : Transfer) (i : ℕ) (o : Option ℕ) → n.endpoint ≢ i → IsNextIn ts i o → IsNextIn (ts ++ n ∷ []) i o
next_pushed ts n i o differs old =
    next_on ts (ts ++ n ∷ []) i o
    (λ u z there at.
    ⊎_elim (λ (w : slice_get ts u ≡ Some z). record { one = z; here = w; endpoint = at; told = λ told. told })
    (λ (w : (u ≡ length ts) × (z ≡ n)). absurd (differs (ap (λ (v : Transfer). v.endpoint) (sym w.1) ∙ at))) (push_which ts n u z there))
    (λ u y there at untold. record {
      one = y;
      here = pushed_below ts n u (slice_get_within ts u y there) ∙ there;
      endpoint = at;
      untold =
          untold;
    }) old

-- of the endpoint itself, where one waits already
next_waiting : (ts : List Transfer) (n : Transfer) (e t : ℕ) → IsFirstUntold ts e t → IsFirstUntold (ts ++ n ∷ []) e t
next_waiting ts n e t old = record {
  transfer = old.transfer;
  here = pushed_below ts n t (slice_get_within ts t old.transfer old.here) ∙ old.here;
  endpoint = old.endpoint;
  untold = old.untold;
  before = λ u z less there at.
      old.before u z less (sym (pushed_below ts n u (omega (arith, less, slice_get_within ts t old.transfer old.here))) ∙ there) at;
}

next_first : (ts : List Transfer) (n : Transfer) (e : ℕ) (o : Option ℕ) → n.endpoint ≡ e → n.reported ≡ false → IsNextIn ts e o
    → IsNextIn (ts ++ n ∷ []) e (first_waiting o (length ts))
next_first ts n e None of untold old = record {
  transfer = n;
  here = pushed_last ts n;
  endpoint = of;
  untold = untold;
  before = λ u z less there at. old u z (sym (pushed_below ts n u less) ∙ there) at;
}
next_first ts n e (Some t) of untold old = next_waiting ts n e t old

-- the endpoint has a transfer that waits
record IsAsking (r : Returns) (ts : List Transfer) (xs : List Endpoint) (l : Option ℕ) (e : ℕ) (x : Endpoint) : Type 0 where
  counts : AreCounted r ts xs l
  here : slice_get xs e ≡ Some x

-- one more transfer of an endpoint whose next one is known with it
transfer_pushed : {r : Returns} {ts : List Transfer} {xs : List Endpoint} {l : Option ℕ} (e : ℕ) (x y : Endpoint) (n : Transfer)
    → slice_get xs e ≡ Some x → n.endpoint ≡ e → n.reported ≡ false → IsAs ts e x (record y { next = x.next })
    → y.cancelled ≡ x.cancelled → (y.ended ≡ None → IsNextIn ts e x.next → IsNextIn (ts ++ n ∷ []) e y.next) → AreCounted r ts xs l →
    AreCounted r (ts ++ n ∷ []) (set xs e y) l
transfer_pushed {r = r} {ts = ts} {xs = xs} {l = l} e x y n here of untold like over next old =
    let between = endpoint_as e x (record y { next = x.next }) here like (λ left on. old.cancelled e x here (sym over ∙ left) on) old in
    record {
      harvests = λ t v z there at goes.
          let at2 : slice_get (set xs e y) v.endpoint ≡ Some z = at in
          ⊎_elim (λ (w : slice_get ts t ≡ Some v).
          set_case (λ j u. j ≡ v.endpoint → u.ended ≡ None → owes (Some v) ≤ counted r t) xs e v.endpoint x y z here at2
          (λ same going. old.harvests t v x w (ap (slice_get xs) (sym same) ∙ here) (like.ended going))
          (λ differs was same going. old.harvests t v z w was going) refl goes)
          (λ (w : (t ≡ length ts) × (v ≡ n)). let none = owes_nothing v (ap (λ (u : Transfer). u.reported) w.1 ∙ untold) in omega
          (arith, none)) (push_which ts n t v there);
      leaving = λ i. omega (arith, same_leaves leaves_ring xs e (record y { next = x.next }) y i refl, between.leaving i);
      removed = λ i. omega (arith, same_leaves leaves_frames xs e (record y { next = x.next }) y i refl, between.removed i);
      cancelled = λ i z there left on.
          set_case (λ j w. w.cancelled ≡ true → (w.linked || w.chained) ≡ true → l ≡ Some j) xs e i x y z here there
          (λ left2 on2. between.cancelled e (record y { next = x.next }) (set_here xs e x (record y { next = x.next }) here) left2 on2)
          (λ differs was. old.cancelled i z was) left on;
      next = λ i z there goes.
          set_case (λ j w. w.ended ≡ None → IsNextIn (ts ++ n ∷ []) j w.next) xs e i x y z here there
          (λ going. next going (old.next e x here (like.ended going)))
          (λ differs was going. next_pushed ts n i z.next (λ same. differs (sym same ∙ of)) (old.next i z was going)) goes;
    }
  where
    same_leaves : (f : Option Endpoint → ℕ) (zs : List Endpoint) (j : ℕ) (a b : Endpoint) (i : ℕ) → f (Some a) ≡ f (Some b)
        → f (slice_get (set zs j b) i) ≡ f (slice_get (set zs j a) i)
    same_leaves f [] j a b i same = refl
    same_leaves f (z ∷ zs) zero a b zero same = sym same
    same_leaves f (z ∷ zs) zero a b (suc i) same = refl
    same_leaves f (z ∷ zs) (suc j) a b zero same = refl
    same_leaves f (z ∷ zs) (suc j) a b (suc i) same = same_leaves f zs j a b i same

-- .. and further ones behind it
transfer_more : {r : Returns} {ts : List Transfer} {xs : List Endpoint} {l : Option ℕ} (e : ℕ) (n : Transfer) → n.endpoint ≡ e
    → n.reported ≡ false
    → ((x : Endpoint) → slice_get xs e ≡ Some x → (t : ℕ) × (x.next ≡ Some t)) → AreCounted r ts xs l → AreCounted r (ts ++ n ∷ []) xs l
transfer_more {r = r} {ts = ts} {xs = xs} e n of untold asks old = record {
  harvests = λ t v z there at goes.
      ⊎_elim (λ (w : slice_get ts t ≡ Some v). old.harvests t v z w at goes)
      (λ (w : (t ≡ length ts) × (v ≡ n)). let none = owes_nothing v (ap (λ (u : Transfer). u.reported) w.1 ∙ untold) in omega (arith, none))
      (push_which ts n t v there);
  leaving = old.leaving;
  removed = old.removed;
  cancelled = old.cancelled;
  next = λ i z there goes.
      ⊎_elim
      (λ (same : i ≡ e).
      let t = asks z (ap (slice_get xs) (sym same) ∙ there) in
      subst (IsNextIn (ts ++ n ∷ []) i) (sym t.1) (next_waiting ts n i t.0 (subst (IsNextIn ts i) t.1 (old.next i z there goes))))
      (λ (differs : i ≢ e). next_pushed ts n i z.next (λ at. differs (sym at ∙ of)) (old.next i z there goes)) (cases_eq i e);
}

more_descriptors : {r : Returns} {xs : List Endpoint} {l : Option ℕ} (k : Book) (e : ℕ) (desc : EpDesc) (s : Slots) (n seed : ℕ)
    (runs : List ℕ) (a : Descriptors) → ((x : Endpoint) → slice_get xs e ≡ Some x → (t : ℕ) × (x.next ≡ Some t))
    → AreCounted r a.transfers xs l → AreCounted r (all_descriptors k e desc s n seed runs a).transfers xs l
unfolding all_descriptors
more_descriptors k e desc s zero seed runs a asks old = old
more_descriptors k e desc s (suc n) seed runs a asks old =
    more_descriptors k e desc s n ((seed + total_of s) % 256) (drop (suc (slot_runs s)) runs) (one_descriptor k e desc s seed runs a) asks
    (transfer_more e (descriptor_transfer e s (get_or runs 0 0)) refl refl asks old)

-- the first of them is the endpoint's next one, where none waits
some_next : (o : Option ℕ) (n : ℕ) → (t : ℕ) × (first_waiting o n ≡ Some t)
some_next None n = (n, refl)
some_next (Some t) n = (t, refl)

descriptors : {r : Returns} {xs : List Endpoint} {l : Option ℕ} (k : Book) (e : ℕ) (s : Slots) (n seed : ℕ) (runs : List ℕ)
    (a : Descriptors) (x : Endpoint) → slice_get xs e ≡ Some x → 1 ≤ n
    → AreCounted r a.transfers xs l → AreCounted r (all_descriptors k e x.desc s n seed runs a).transfers
    (set xs e (record x { next = first_waiting x.next (length a.transfers) })) l
unfolding all_descriptors
descriptors k e s zero seed runs a x here some old = absurd (omega arith)
descriptors {xs = xs} k e s (suc n) seed runs a x here some old =
    let y : Endpoint = record x { next = first_waiting x.next (length a.transfers) } in
    more_descriptors k e x.desc s n ((seed + total_of s) % 256) (drop (suc (slot_runs s)) runs) (one_descriptor k e x.desc s seed runs a)
    (λ z there.
    let is : y ≡ z = same_Some y z (sym (set_here xs e x y here) ∙ there) in
    let t = some_next x.next (length a.transfers) in
    (t.0, ap (λ (w : Endpoint). w.next) (sym is) ∙ t.1))
    (transfer_pushed e x y (descriptor_transfer e s (get_or runs 0 0)) here refl refl
    (record { kind = refl; linked = refl; chained = refl; gone = refl; ended = λ going. going; next = λ going next. next }) refl
    (λ going next. next_first a.transfers (descriptor_transfer e s (get_or runs 0 0)) e x.next refl refl next) old)

-- ---- a cancel

first_some : (o : Option EndCause) → first_end o ≡ None → ⊥
first_some None is = cc
first_some (Some cause) is = cc

cancelled_counted : {r : Returns} {ts : List Transfer} {xs : List Endpoint} (e : ℕ) (x : Endpoint) → slice_get xs e ≡ Some x
    → AreCounted r ts xs None
    → AreCounted r ts (set xs e (record x { cancelled = true; ended = first_end x.ended })) (Some e)
cancelled_counted {xs = xs} e x here old =
    endpoint_as e x (record x { cancelled = true; ended = first_end x.ended }) here
    (record {
      kind = refl;
      linked = refl;
      chained = refl;
      gone = refl;
      ended = λ going. absurd (first_some x.ended going);
      next =
          λ going next. absurd (first_some x.ended going);
    })
    (λ over on. refl)
    (record {
      harvests = old.harvests;
      leaving = old.leaving;
      removed = old.removed;
      cancelled = λ i z there over on. absurd (none_some i (old.cancelled i z there over on));
      next = old.next;
    })
  where
    none_some : (i : ℕ) → ◌≡◌ {A = Option ℕ} None (Some i) → ⊥
    none_some i is = cc

abbrev without_members : DriverContent → ℕ → Endpoint → DriverContent
without_members d e x =
    record d {
      endpoints = set d.endpoints e (record x { cancelled = true; ended = first_end x.ended });
      command = Some (unfinished.Unchain e);
      made = 0;
      room = record d.room { reports = d.room.reports - 1 };
    }

like_cancelled : (x : Endpoint) → IsLike x (record x { cancelled = true; ended = first_end x.ended })
like_cancelled x = record { desc = refl; placement = refl; linked = refl; chained = refl; gone = refl; ended = λ s. some x.ended }
  where
    some : (o : Option EndCause) → is_some (first_end o) ≡ true
    some None = refl
    some (Some cause) = refl

-- ---- any command

module _ (d : DriverContent) (idle : d.command ≡ None) (order : IsOrderly d) (old : IsCounted d) where
  counts : AreCounted (returns_of d) d.transfers d.endpoints None
  counts = subst (λ c. AreCounted (returns_of d) d.transfers d.endpoints (leaver c)) idle old.counts

  periodic_ring : (k : Bool) → k ≡ true → ◌≡◌ {A = ℕ} (cond (false || false || k) 0 1) 0
  periodic_ring true is = refl
  periodic_ring false is = absurd (false≢true is)

  ring_frames : (k : Bool) → k ≡ false → ◌≡◌ {A = ℕ} (cond (false || false || not k) 0 1) 0
  ring_frames true is = absurd (false≢true (sym is))
  ring_frames false is = refl

  new_counted : (x : EpDesc) (queue dummy : ℕ) → is_periodic x.kind ≡ false
      → AreCounted (returns_of d) d.transfers (d.endpoints ++ new_endpoint x queue dummy ∷ []) None
  new_counted x queue dummy ring =
      endpoint_pushed (new_endpoint x queue dummy) refl refl refl (ring_frames (is_periodic x.kind) ring) order.within counts

  placed_counted : (x : EpDesc) (p : Placement) (queue dummy : ℕ) → is_periodic x.kind ≡ true
      → AreCounted (returns_of d) d.transfers (d.endpoints ++ placed_endpoint x p queue dummy ∷ []) None
  placed_counted x p queue dummy frames =
      endpoint_pushed (placed_endpoint x p queue dummy) refl refl (periodic_ring (is_periodic x.kind) frames) refl order.within counts

none_leaves_then : (d : DriverContent) → d.command ≡ None → (e : ℕ) → leaver d.command ≡ Some e → ⊥
none_leaves_then d idle e leaves = none_some (sym (ap leaver idle) ∙ leaves)
  where
    none_some : ◌≡◌ {A = Option ℕ} None (Some e) → ⊥
    none_some w = cc

accepted_counted : (d : DriverContent) (m : Mem) (o : Offered) → Accepts d m o → HasSomeIn o.driver.command → IsOrderly d → IsCounted d
    → IsCounted o.driver
accepted_counted d m o (opens why) some order old =
    subst (λ (f : Offered). IsCounted f.driver) (sym why.is)
    (record { counts = new_counted d why.idle order old why.desc _ _ why.ring; kinds = λ e x leaves here. tt; bell = old.bell })
accepted_counted d m o (chains why) some order old =
    subst (λ (f : Offered). IsCounted f.driver) (sym why.is)
    (record {
      counts = placed_counted d why.idle order old why.desc why.placement _ _ why.periodic;
      kinds = λ e x leaves here. tt;
      bell =
          old.bell;
    })
accepted_counted d m o (places why) some order old =
    subst (λ (f : Offered). IsCounted f.driver) (sym why.is)
    (record {
      counts = subst (λ (c : Option Command). AreCounted (returns_of d) d.transfers
          (d.endpoints ++ placed_endpoint why.desc why.placement 0 0 ∷ []) (leaver c)) (sym why.idle)
          (placed_counted d why.idle order old why.desc why.placement 0 0 (iso_frames why.desc.kind why.isochronous));
      kinds = λ e x leaves here. absurd (none_leaves_then d why.idle e leaves);
      bell = old.bell;
    })
accepted_counted d m o (transfers why) some order old =
    let dummy = get_or (take (length why.asked.stages) (new_runs d why.holding_after)) (length why.asked.stages - 1) 0 in
    let y = with_queued why.endpoint dummy (length d.transfers) in
    subst (λ (f : Offered). IsCounted f.driver) (sym why.is)
    (record {
      counts =
          transfer_pushed why.number why.endpoint y (new_transfer why.number why.asked why.endpoint.dummy) why.here refl refl
          (record { kind = refl; linked = refl; chained = refl; gone = refl; ended = λ going. going; next = λ going next. next }) refl
          (λ going next. next_first d.transfers (new_transfer why.number why.asked why.endpoint.dummy) why.number why.endpoint.next refl
          refl next) (counts d why.idle order old);
      kinds = λ e x leaves here. tt;
      bell = old.bell;
    })
accepted_counted d m o (describes why) some order old =
    let many : 1 ≤ why.count = subst (λ (f : Offered). HasSomeIn f.driver.command) why.is some in
    subst (λ (f : Offered). IsCounted f.driver) (sym why.is)
    (record {
      counts =
          descriptors why.holding_after.book why.number why.slots why.count why.seed (new_runs d why.holding_after)
          (record { notes = d.periodic.notes; transfers = d.transfers; memory = why.holding_after.memory }) why.endpoint why.here many
          (counts d why.idle order old);
      kinds = λ e x leaves here. tt;
      bell = old.bell;
    })
accepted_counted d m o (cancels why) some order old =
    let s = order.steady why.number why.endpoint why.here in
    subst (λ (f : Offered). IsCounted f.driver) (sym why.is)
    (record {
      counts = cancelled_counted why.number why.endpoint why.here (counts d why.idle order old);
      kinds = λ e x leaves here.
          let same : why.number ≡ e = same_Some why.number e leaves in
          let is : record why.endpoint { cancelled = true; ended = first_end why.endpoint.ended } ≡ x =
          same_Some (record why.endpoint { cancelled = true; ended = first_end why.endpoint.ended }) x
          (sym (set_here d.endpoints why.number why.endpoint
          (record why.endpoint { cancelled = true; ended = first_end why.endpoint.ended }) why.here) ∙ ap
          (slice_get (set d.endpoints why.number (record why.endpoint { cancelled = true; ended = first_end why.endpoint.ended })))
          same ∙ here) in
          ap (λ (z : Endpoint). is_periodic z.desc.kind) (sym is) ∙ sym s.placed ∙ ap (λ (p : Option Placement). is_some p) why.ring;
      bell = old.bell;
    })
accepted_counted d m o (unchains why) some order old =
    let s = order.steady why.number why.endpoint why.here in
    let members = endpoint_members d why.number why.endpoint why.placement in
    let f = without_members d why.number why.endpoint in
    let y : Endpoint = record why.endpoint { cancelled = true; ended = first_end why.endpoint.ended } in
    let started : IsCounted f = record {
      counts = cancelled_counted why.number why.endpoint why.here (counts d why.idle order old);
      kinds = λ e x leaves here.
          let same : why.number ≡ e = same_Some why.number e leaves in
          let is : y ≡ x = same_Some y x (sym (set_here d.endpoints why.number why.endpoint y why.here) ∙ ap
          (slice_get (set d.endpoints why.number y)) same ∙ here) in
          ap (λ (z : Endpoint). is_periodic z.desc.kind) (sym is) ∙ sym s.placed ∙ ap (λ (p : Option Placement). is_some p) why.placed;
      bell = old.bell;
    } in
    let ordered : IsOrderly f = cancel_order d why.number why.endpoint why.here order in
    subst (λ (g : Offered). IsCounted g.driver) (sym why.is)
    (or_done_counted (with_cancel d why.number why.endpoint members) (unfinished.Unchain why.number) refl
    (begun_orderly f true 0 (record d.periodic { queued = members }) refl refl ordered)
    (begun_beside f 0 true (record d.periodic { queued = members }) refl refl started))
  where
    cancel_order : (c : DriverContent) (e : ℕ) (x : Endpoint) → slice_get c.endpoints e ≡ Some x → IsOrderly c
        → AreOrderly (returns_of c) c.transfers (set c.endpoints e (record x { cancelled = true; ended = first_end x.ended })) (Some e)
    cancel_order c e x here w =
        let y : Endpoint = record x { cancelled = true; ended = first_end x.ended } in
        let changed = endpoint_changed e x y here (like_cancelled x) w in
        record {
          harvests = changed.harvests;
          leaving = changed.leaving;
          removed = changed.removed;
          steady = changed.steady;
          within = changed.within;
          sorts = changed.sorts;
          unlinked = changed.unlinked;
          untold = changed.untold;
          leaver = λ i z is there.
              let same : i ≡ e = sym (same_Some e i is) in
              ap (λ (v : Endpoint). is_some v.ended)
              (same_Some z y (sym there ∙ ap (slice_get (set c.endpoints e y)) same ∙ set_here c.endpoints e x y here)) ∙
              (like_cancelled_ends x.ended);
        }
      where
        like_cancelled_ends : (q : Option EndCause) → is_some (first_end q) ≡ true
        like_cancelled_ends None = refl
        like_cancelled_ends (Some cause) = refl

idle_of : (d : DriverContent) (m : Mem) (o : Offered) → Accepts d m o → d.command ≡ None
idle_of d m o (opens why) = why.idle
idle_of d m o (chains why) = why.idle
idle_of d m o (places why) = why.idle
idle_of d m o (transfers why) = why.idle
idle_of d m o (describes why) = why.idle
idle_of d m o (cancels why) = why.idle
idle_of d m o (unchains why) = why.idle

pub commands_keep_counts : CommandsKeepCounts
commands_keep_counts d m cmd o order old some is =
    let why = each_command_has_its_reason d m cmd o is in
    accepted_counted d m o why (IfOk-at_ok (λ (f : Offered). HasSomeIn f.driver.command) is
    (some_described d m cmd (idle_of d m o why) some)) order old

pub new_driver_is_counted : NewDriverIsCounted
new_driver_is_counted n room = record {
  counts = record {
    harvests = λ t y x there at goes. absurd (cc);
    leaving = λ e. omega arith;
    removed = λ e. omega arith;
    cancelled = λ e x here over on. absurd (cc);
    next = λ e x here goes. absurd (cc);
  };
  kinds = λ e x leaves here. absurd (cc);
  bell = λ is. refl;
}
