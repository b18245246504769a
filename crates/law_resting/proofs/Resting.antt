-- A driver rests only where all that it was asked for is done.
use Rattle.std.proofs.Common.{◌≡◌, ℕ, zero, suc, get_or, ◌+◌, ◌<◌, ◌≤◌, Bool, true, false, cond, nat_lt, nat_le, not, ◌||◌, ◌&&◌, List, [], ◌∷◌, length, drop, slice_get, Option, Some, None, option_map, unwrap_or, ap, sym, subst, ◌∙◌, ⊎_elim, refl, arith}
use Rattle.std.specs.List.{position_or_len}
use Rattle.std.specs.Prelude.{position, option_and_then, map, slice_index, ◌==◌, ◌*◌, is_some, is_none}
use Rattle.std.proofs.lemmas.Bool.{cases_Bool, false≢true}
use Rattle.std.proofs.lemmas.Bool.Decides.{nat_tests}
use Rattle.std.proofs.lemmas.Option.{same_Some, slice_get-get_or, slice_get-map, slice_get_within, get_or_from_slice_get}
use Rattle.std.proofs.lemmas.List.Quantifiers.{position-Some}
use Rattle.std.proofs.lemmas.List.Sums.{fails_before_first}
use Rattle.law_common.proofs.Numbers.{same_number}
use Rattle.law_common.proofs.Booleans.{both_parts}
use Rattle.law_driver.proofs.Common.{get_drop}
use Rattle.drv_chains.specs.Boundary.{is_seen}
use Rattle.drv_periodic.specs.declared.work.Store.{Store}
use Rattle.drv_periodic.specs.Periodic.{next_store}
use Rattle.drv_periodic_table.specs.declared.content.Removal.{Removal}
use Rattle.drv_periodic_table.specs.Periodic.{is_periodic}
use Rattle.drv_table.specs.declared.content.Bell.{Bell}
use Rattle.drv_table.specs.declared.content.Bell.TheVariants as bells
use Rattle.drv_table.specs.declared.content.Command.{Command}
use Rattle.drv_table.specs.declared.content.Command.TheVariants as unfinished
use Rattle.drv_table.specs.declared.content.Endpoint.{Endpoint}
use Rattle.drv_table.specs.declared.content.Transfer.{Transfer}
use Rattle.drv_table.specs.declared.content.Turn.{Turn}
use Rattle.drv_table.specs.declared.content.Turn.TheVariants as turns
use Rattle.drv_table.specs.declared.rows.DriverRow.{DriverRow}
use Rattle.drv_table.specs.declared.rows.DriverRow.TheVariants as rows
use Rattle.drv_table.specs.declared.rows.Found.{Found}
use Rattle.usb_base.specs.declared.endpoints.EndCause.{EndCause}
use Rattle.drv_table.specs.Commands.{store_order, events_of, links, command_row, link_row}
use Rattle.drv_table.specs.DriverContent.{DriverContent, works, waits_for}
use Rattle.drv_table.specs.Harvesting.{found_of, worker_from, first_of_two, next_worker, reading_row, transfer_row, worker_row, harvest_row}
use Rattle.drv_table.specs.Leaving.{tells_advance, removes, reading_for, bell_row, removal_row, first_row, leaving_row}
use Rattle.drv_table.specs.Parts.{Parts}
use Rattle.drv_table.specs.Rows.{turn_row, row_for}
use Rattle.claims_driver.specs.FrameWords.{IsInOrder}
use Rattle.claims_driver.specs.Leaving.{times, transfers_in, endpoints_in, leaves_ring, leaves_frames, leaver, IsOrderly}
use Rattle.law_driver.proofs.lemmas.run_owners.Orders.{none_at_all, owes_one, out_of_ring, out_of_frames}
use Rattle.law_resting.specs.Counted.{IsFirstUntold, IsNextIn, IsCounted}
use Rattle.law_resting.specs.Making.{IsMaking, DriversRestWhenDone}
use Rattle.law_resting.specs.Storing.{IsStoring}
use Rattle.law_resting.proofs.Words.{work_has_store}
use Rattle.claims_answers.specs.Resting.{IsOfGoing, IsAllDone}

-- ---- which row is none

-- of two rows neither is there
neither : (a b : Option DriverRow) → ((row : DriverRow) → a ≡ Some row → row ≡ rows.Rest → ⊥)
    → ((row : DriverRow) → b ≡ Some row → row ≡ rows.Rest → ⊥) → unwrap_or (first_row a b) rows.Rest ≡ rows.Rest → (a ≡ None) × (b ≡ None)
neither None None one other is = (refl, refl)
neither None (Some row) one other is = absurd (other row refl is)
neither (Some row) b one other is = absurd (one row refl is)

first_none : (a b : Option DriverRow) → first_row a b ≡ None → (a ≡ None) × (b ≡ None)
first_none None b is = (refl, is)
first_none (Some row) b is = absurd (cc)

mapped_none : {X : Type 0} (f : X → DriverRow) (o : Option X) → option_map f o ≡ None → o ≡ None
mapped_none f None is = refl
mapped_none f (Some x) is = absurd (cc)

-- no row of the leaving work, and none of the harvest, is Rest
abbrev IsNoRest : DriverRow → Type 0
IsNoRest rows.Rest = ⊥
IsNoRest _ = Unit {0}

rest_no_rest : (row : DriverRow) → IsNoRest row → row ≡ rows.Rest → ⊥
rest_no_rest row k is = subst IsNoRest is k

mapped_other : {X : Type 0} (f : X → DriverRow) (o : Option X) (row : DriverRow) → ((x : X) → IsNoRest (f x)) → option_map f o ≡ Some row
    → IsNoRest row
mapped_other f None row each is = absurd (cc)
mapped_other f (Some x) row each is = subst IsNoRest (same_Some (f x) row is) (each x)

first_other : (a b : Option DriverRow) (row : DriverRow) → ((r : DriverRow) → a ≡ Some r → IsNoRest r)
    → ((r : DriverRow) → b ≡ Some r → IsNoRest r) → first_row a b ≡ Some row → IsNoRest row
first_other None b row one two is = two row is
first_other (Some r) b row one two is = subst IsNoRest (same_Some r row is) (one r refl)

reading_other : (p : Parts) (a b : Bool) (row : DriverRow) → reading_for p.driver p.registers a b ≡ Some row → IsNoRest row
reading_other p false false row is = absurd (cc)
reading_other p true false row is = subst IsNoRest (same_Some _ row is) tt
reading_other p false true row is = subst IsNoRest (same_Some _ row is) tt
reading_other p true true row is = subst IsNoRest (same_Some _ row is) (at p.driver.periodic.status_next)
  where
    at : (b : Bool) → IsNoRest (cond b (rows.ReadStatus (tells_advance p.registers)) (rows.ReadFrame p.registers.frame_index))
    at true = tt
    at false = tt

bell_other : (p : Parts) (b : Bell) (row : DriverRow) → bell_row p.driver p.registers b ≡ Some row → IsNoRest row
bell_other p bells.Heard row is = subst IsNoRest (same_Some _ row is) tt
bell_other p bells.Rung row is = reading_other p true (removes p.driver) row is
bell_other p bells.Quiet row is = at (nat_lt 0 (length p.driver.waiting)) is
  where
    at : (b : Bool) → cond b (Some rows.RingBell) (reading_for p.driver p.registers false (removes p.driver)) ≡ Some row → IsNoRest row
    at true w = subst IsNoRest (same_Some _ row w) tt
    at false w = reading_other p false (removes p.driver) row w

removal_other : (o : Option Removal) (row : DriverRow) → removal_row o ≡ Some row → IsNoRest row
removal_other None row is = absurd (cc)
removal_other (Some r) row is = at (is_seen r.boundary) is
  where
    at : (b : Bool) → cond b (Some (rows.ReleaseRemoved r.what)) None ≡ Some row → IsNoRest row
    at true w = subst IsNoRest (same_Some _ row w) tt
    at false w = absurd (cc)

leaving_other : (p : Parts) (row : DriverRow) → leaving_row p.driver p.registers ≡ Some row → IsNoRest row
leaving_other p row is =
    first_other _ _ row (λ r w. mapped_other rows.Mend (slice_get p.driver.mends 0) r (λ x. tt) w)
    (λ r w. first_other _ _ r (λ q v. mapped_other rows.ReleaseTransfer (slice_get p.driver.harvested 0) q (λ x. tt) v)
    (λ q v. first_other _ _ q (λ s u. mapped_other rows.Unlink (slice_get p.driver.periodic.unlinks 0) s (λ x. tt) u)
    (λ s u. first_other _ _ s (λ k j. mapped_other rows.ReleaseEndpoint (slice_get p.driver.cleared 0) k (λ x. tt) j)
    (λ k j. first_other _ _ k (λ g h. removal_other (slice_get p.driver.periodic.removals 0) g h) (λ g h. bell_other p p.driver.bell g h) j)
    u) v) w) is

read_other : (p : Parts) (e t : ℕ) (o : Option Transfer) (row : DriverRow) → reading_row p.driver p.memory e t o ≡ Some row → IsNoRest row
read_other p e t None row is = absurd (cc)
read_other p e t (Some y) row is = at (waits_for e y) is
  where
    at : (b : Bool) → cond b (Some (rows.Harvest e t (found_of p.driver p.memory y y.sort))) None ≡ Some row → IsNoRest row
    at true w = subst IsNoRest (same_Some _ row w) tt
    at false w = absurd (cc)

transfer_other : (p : Parts) (e : ℕ) (o : Option ℕ) (row : DriverRow) → transfer_row p.driver p.memory e o ≡ Some row → IsNoRest row
transfer_other p e None row is = absurd (cc)
transfer_other p e (Some t) row is = read_other p e t (slice_get p.driver.transfers t) row is

worker_other : (p : Parts) (o : Option ℕ) (row : DriverRow) → worker_row p.driver p.memory o ≡ Some row → IsNoRest row
worker_other p None row is = absurd (cc)
worker_other p (Some e) row is = transfer_other p e (option_and_then (λ (x : Endpoint). x.next) (slice_get p.driver.endpoints e)) row is

-- ---- nothing is left to be given back

record HasNoLists (d : DriverContent) : Type 0 where
  harvested : (t : ℕ) → times t d.harvested ≡ 0
  unlinks : (t : ℕ) → times t d.periodic.unlinks ≡ 0
  cleared : (e : ℕ) → times e d.cleared ≡ 0
  waiting : (e : ℕ) → times e d.waiting ≡ 0
  rung : (e : ℕ) → times e d.rung ≡ 0
  removals : d.periodic.removals ≡ []

no_elements : {X : Type 0} (xs : List X) → nat_lt 0 (length xs) ≡ false → xs ≡ []
no_elements [] is = refl
no_elements (x ∷ xs) is = let h : length (x ∷ xs) ≤ 0 = grind (arith, nat_tests) in absurd (omega (arith, h))

quiet_lists : (p : Parts) (b : Bell) → p.driver.bell ≡ b → bell_row p.driver p.registers b ≡ None → IsCounted p.driver
    → (p.driver.waiting ≡ []) × (p.driver.rung ≡ []) × (p.driver.periodic.removals ≡ [])
quiet_lists p bells.Heard bell is old = absurd (cc)
quiet_lists p bells.Rung bell is old = absurd (rung (removes p.driver) is)
  where
    rung : (c : Bool) → reading_for p.driver p.registers true c ≡ None → ⊥
    rung true w = cc
    rung false w = cc
quiet_lists p bells.Quiet bell is old = at (nat_lt 0 (length p.driver.waiting)) refl is
  where
    reading : (c : Bool) → nat_lt 0 (length p.driver.periodic.removals) ≡ c → reading_for p.driver p.registers false c ≡ None
        → p.driver.periodic.removals ≡ []
    reading true more w = absurd (cc)
    reading false none w = no_elements p.driver.periodic.removals none

    at : (c : Bool) → nat_lt 0 (length p.driver.waiting) ≡ c
        → cond c (Some rows.RingBell) (reading_for p.driver p.registers false (removes p.driver)) ≡ None
        → (p.driver.waiting ≡ []) × (p.driver.rung ≡ []) × (p.driver.periodic.removals ≡ [])
    at true more w = absurd (cc)
    at false none w = (no_elements p.driver.waiting none, old.bell bell, reading (removes p.driver) refl w)

lists_of : (p : Parts) → leaving_row p.driver p.registers ≡ None → IsCounted p.driver → HasNoLists p.driver
lists_of p is old =
    let a = first_none _ _ is in
    let b = first_none _ _ a.1 in
    let c = first_none _ _ b.1 in
    let e = first_none _ _ c.1 in
    let f = first_none _ _ e.1 in
    let q = quiet_lists p p.driver.bell refl f.1 old in
    record {
      harvested = λ t. none_at_all t p.driver.harvested (mapped_none rows.ReleaseTransfer (slice_get p.driver.harvested 0) b.0);
      unlinks = λ t. none_at_all t p.driver.periodic.unlinks (mapped_none rows.Unlink (slice_get p.driver.periodic.unlinks 0) c.0);
      cleared = λ i. none_at_all i p.driver.cleared (mapped_none rows.ReleaseEndpoint (slice_get p.driver.cleared 0) e.0);
      waiting = λ i. ap (times i) q.0;
      rung = λ i. ap (times i) q.1;
      removals = q.2;
    }

-- ---- nothing is left to be harvested

found_none : (xs : List Endpoint) (z : Endpoint) (j : ℕ) (b : Bool) → nat_lt (position_or_len works xs) (length xs) ≡ b
    → cond b (Some (position_or_len works xs)) None ≡ None → slice_get xs j ≡ Some z → works z ≡ false
found_none xs z j true is none here = absurd (cc)
found_none xs z j false is none here =
    let many : length xs ≤ position_or_len works xs = grind (arith, nat_tests) in
    ap works (sym (get_or_from_slice_get xs j z z here)) ∙ fails_before_first works xs j z
    (omega (arith, many, slice_get_within xs j z here))

-- one that works, and that all do not
record IsWorker (xs : List Endpoint) (e : ℕ) : Type 0 where
  endpoint : Endpoint
  here : slice_get xs e ≡ Some endpoint
  works : works endpoint ≡ true

position_is : (xs : List Endpoint) (i : ℕ) → position works xs ≡ Some i → IsWorker xs i
position_is [] i e = absurd (cc)
position_is (x ∷ xs) i e =
    let at = position-Some works (x ∷ xs) i x e in
    record { endpoint = get_or (x ∷ xs) i x; here = slice_get-get_or (x ∷ xs) i x at.0; works = at.1 }

worker_is : (xs : List Endpoint) (k e : ℕ) → worker_from xs k ≡ Some e → IsWorker xs e
worker_is xs k e found = at (position works (drop k xs)) refl found
  where
    at : (o : Option ℕ) → position works (drop k xs) ≡ o → option_map (λ i. k + i) o ≡ Some e → IsWorker xs e
    at None is f = absurd (cc)
    at (Some i) is f =
        let w = position_is (drop k xs) i is in
        subst (IsWorker xs) (same_Some (k + i) e f)
        (record { endpoint = w.endpoint; here = sym (get_drop xs k i) ∙ w.here; works = w.works })

none_is : (o : Option EndCause) → is_none o ≡ true → o ≡ None
none_is None w = refl
none_is (Some c) w = absurd (false≢true w)

some_is : (o : Option ℕ) → is_some o ≡ true → (t : ℕ) × (o ≡ Some t)
some_is None w = absurd (false≢true w)
some_is (Some t) w = (t, refl)

reads : (p : Parts) (e : ℕ) → IsWorker p.driver.endpoints e → IsCounted p.driver → worker_row p.driver p.memory (Some e) ≡ None → ⊥
reads p e w old is = never (found_of p.driver p.memory f.transfer f.transfer.sort) (sym row_is ∙ is)
  where
    goes : w.endpoint.ended ≡ None
    goes = none_is w.endpoint.ended (both_parts (is_some w.endpoint.next) (is_none w.endpoint.ended) w.works).1

    next : (t : ℕ) × (w.endpoint.next ≡ Some t)
    next = some_is w.endpoint.next (both_parts (is_some w.endpoint.next) (is_none w.endpoint.ended) w.works).0

    f : IsFirstUntold p.driver.transfers e next.0
    f = subst (IsNextIn p.driver.transfers e) next.1 (old.counts.next e w.endpoint w.here goes)

    waits : waits_for e f.transfer ≡ true
    waits = ap (λ (n : ℕ). (n == e) && not f.transfer.reported) f.endpoint
        ∙ ap (λ (b : Bool). b && not f.transfer.reported) (same_number e) ∙
        ap not f.untold

    never : (found : Found) → ◌≡◌ {A = Option DriverRow} (Some (rows.Harvest e next.0 found)) None → ⊥
    never found v = cc

    row_is : worker_row p.driver p.memory (Some e) ≡ Some (rows.Harvest e next.0 (found_of p.driver p.memory f.transfer f.transfer.sort))
    row_is =
        ap (λ (o : Option Endpoint). transfer_row p.driver p.memory e (option_and_then (λ (x : Endpoint). x.next) o)) w.here
        ∙ ap (transfer_row p.driver p.memory e) next.1
        ∙ ap (reading_row p.driver p.memory e next.0) f.here
        ∙ ap (λ (b : Bool). cond b (Some (rows.Harvest e next.0 (found_of p.driver p.memory f.transfer f.transfer.sort))) None) waits

pub none_works : (p : Parts) → harvest_row p.driver p.memory ≡ None → IsCounted p.driver → (e : ℕ) (x : Endpoint)
    → slice_get p.driver.endpoints e ≡ Some x → works x ≡ false
none_works p is old e x here = by (worker_from p.driver.endpoints p.driver.place) (worker_from p.driver.endpoints 0) refl refl is
  where
    last : (o : Option ℕ) → position works (drop 0 p.driver.endpoints) ≡ o → option_map (λ i. 0 + i) o ≡ None → works x ≡ false
    last (Some i) at w = absurd (cc)
    last None at w = found_none p.driver.endpoints x e (nat_lt (position_or_len works p.driver.endpoints) (length p.driver.endpoints)) refl
        (drop_zero p.driver.endpoints at) here
      where
        drop_zero : (xs : List Endpoint) → position works (drop 0 xs) ≡ None → position works xs ≡ None
        drop_zero [] q = q
        drop_zero (y ∷ ys) q = q

    by : (a b : Option ℕ) → worker_from p.driver.endpoints p.driver.place ≡ a → worker_from p.driver.endpoints 0 ≡ b
        → worker_row p.driver p.memory (first_of_two a b) ≡ None → works x ≡ false
    by (Some i) b one two w = absurd (reads p i (worker_is p.driver.endpoints p.driver.place i one) old w)
    by None (Some i) one two w = absurd (reads p i (worker_is p.driver.endpoints 0 i two) old w)
    by None None one two w = last (position works (drop 0 p.driver.endpoints)) refl two

-- ---- all is done

pub not_working : (x : Endpoint) → works x ≡ false → x.ended ≡ None → x.next ≡ None
not_working x off goes = at x.next (sym (ap (λ (o : Option EndCause). is_some x.next && is_none o) goes) ∙ off)
  where
    at : (o : Option ℕ) → is_some o && true ≡ false → o ≡ None
    at None w = refl
    at (Some t) w = absurd (false≢true (sym w))

all_done : (p : Parts) → p.driver.command ≡ None → leaving_row p.driver p.registers ≡ None → harvest_row p.driver p.memory ≡ None
    → IsOrderly p.driver → IsCounted p.driver → IsAllDone p.driver
all_done p idle leaving harvest order old = record {
  cancelled = λ e x here over. gone e x here over (is_periodic x.desc.kind) refl x.gone refl;
  told = told;
  returned = λ t y of. back t y of y.released refl;
}
  where
    none : HasNoLists p.driver
    none = lists_of p leaving old

    none_some : (e : ℕ) → ◌≡◌ {A = Option ℕ} None (Some e) → ⊥
    none_some e w = cc

    out : (e : ℕ) (x : Endpoint) → slice_get p.driver.endpoints e ≡ Some x → x.cancelled ≡ true → (x.linked || x.chained) ≡ false
    out e x here over =
        ⊎_elim (λ (on : (x.linked || x.chained) ≡ true). absurd
        (none_some e (sym (ap leaver idle) ∙ old.counts.cancelled e x here over on)))
        (λ (off : (x.linked || x.chained) ≡ false). off) (cases_Bool (x.linked || x.chained))

    neither_of : (a b : Bool) → a || b ≡ false → (a ≡ false) × (b ≡ false)
    neither_of false b w = (refl, w)
    neither_of true b w = absurd (false≢true (sym w))

    gone : (e : ℕ) (x : Endpoint) → slice_get p.driver.endpoints e ≡ Some x → x.cancelled ≡ true → (k : Bool) → is_periodic x.desc.kind ≡ k
        → (g : Bool) → x.gone ≡ g → x.gone ≡ true
    gone e x here over k kind true is = is
    gone e x here over true kind false is =
        let w = neither_of x.linked x.chained (out e x here over) in
        let frames = ap leaves_frames here ∙ out_of_frames x w.1 is kind in
        let none_left = ap (λ rs. times e (endpoints_in rs)) none.removals in
        absurd (omega (arith, frames, none_left, old.counts.removed e))
    gone e x here over false kind false is =
        let w = neither_of x.linked x.chained (out e x here over) in
        let ring = ap leaves_ring here ∙ out_of_ring x w.0 is kind in
        absurd (omega (arith, ring, none.waiting e, none.rung e, none.cleared e, old.counts.leaving e))

    told : (t : ℕ) (y : Transfer) → IsOfGoing p.driver t y → y.reported ≡ true
    told t y of =
        let next = not_working of.endpoint (none_works p harvest old y.endpoint of.endpoint of.here) of.going in
        (subst (IsNextIn p.driver.transfers y.endpoint) next (old.counts.next y.endpoint of.endpoint of.here of.going)) t y of.there refl

    back : (t : ℕ) (y : Transfer) → IsOfGoing p.driver t y → (b : Bool) → y.released ≡ b → y.released ≡ true
    back t y of true is = is
    back t y of false is =
        let owed = owes_one y (told t y of) is in
        let none_left = ap (λ rs. times t (transfers_in rs)) none.removals in
        absurd (omega (
          arith,
          owed,
          none.harvested t,
          none.unlinks t,
          none_left,
          old.counts.harvests t y of.endpoint of.there of.here
              of.going,
        ))

-- ---- the unfinished command

no_store : (o : Option Store) → link_row o ≡ rows.Rest → o ≡ None
no_store None w = refl
no_store (Some s) w = absurd (cc)

-- the events of a command aren't Rest
command_event : (c : Command) (n : ℕ) → n < length (events_of c) → command_row c n ≡ rows.Rest → ⊥
command_event (unfinished.Open queue) zero less w = cc
command_event (unfinished.Open queue) (suc zero) less w = cc
command_event (unfinished.Open queue) (suc (suc n)) less w = omega (arith, less)
command_event (unfinished.Publish b words) zero less w = cc
command_event (unfinished.Publish b words) (suc n) less w =
    stored (slice_get store_order n) refl w
  where
    stored : (o : Option ℕ) → slice_get store_order n ≡ o
        → unwrap_or (slice_get (map (λ i. rows.Store b (32 * b + 4 * i) (slice_index words i)) store_order) n) rows.Rest ≡ rows.Rest → ⊥
    stored None is v = none_within store_order n is (omega (arith, less))
      where
        none_within : (xs : List ℕ) (k : ℕ) → slice_get xs k ≡ None → k < length xs → ⊥
        none_within [] k q low = omega (arith, low)
        none_within (x ∷ xs) zero q low = cc
        none_within (x ∷ xs) (suc k) q low = none_within xs k q (omega (arith, low))
    stored (Some i) is v =
        let at = slice_get-map (λ i. rows.Store b (32 * b + 4 * i) (slice_index words i)) store_order n ∙ ap
        (option_map (λ i. rows.Store b (32 * b + 4 * i) (slice_index words i))) is in
        store_rest b (32 * b + 4 * i) (slice_index words i) (sym (ap (λ (o : Option DriverRow). unwrap_or o rows.Rest) at) ∙ v)
      where
        store_rest : (k j v : ℕ) → rows.Store k j v ≡ rows.Rest → ⊥
        store_rest k j v q = cc
command_event (unfinished.Unlink e b link) zero less w = cc
command_event (unfinished.Unlink e b link) (suc n) less w = omega (arith, less)
command_event unfinished.Chain zero less w = cc
command_event unfinished.Chain (suc n) less w = omega (arith, less)
command_event (unfinished.Iso e t count) zero less w = cc
command_event (unfinished.Iso e t count) (suc zero) less w = cc
command_event (unfinished.Iso e t count) (suc (suc n)) less w = omega (arith, less)
command_event (unfinished.Unchain e) n less w = omega (arith, less)

unfinished_rests : (p : Parts) (c : Command) → p.driver.command ≡ Some c → IsMaking p.driver → IsStoring p.driver
    → IsInOrder p.driver.periodic.list → row_for p (Some c) ≡ rows.Rest → ⊥
unfinished_rests p c is making storing order rest = by (links c) (nat_le (length (events_of c)) p.driver.made) refl refl rest
  where
    by : (a b : Bool) → links c ≡ a → nat_le (length (events_of c)) p.driver.made ≡ b
        → cond (a && b) (link_row (next_store p.driver.periodic.list)) (command_row c p.driver.made) ≡ rows.Rest → ⊥
    by true true on late w =
        ⊎_elim (λ (less : p.driver.made < length (events_of c)).
        let all : length (events_of c) ≤ p.driver.made = grind (arith, nat_tests) in omega (arith, less, all))
        (λ (under : is_none p.driver.periodic.list.work ≡ false).
        work_has_store p.driver.periodic.list order storing.1 under (no_store (next_store p.driver.periodic.list) w)) (storing.0 c is on)
    by true false on early w =
        let less : p.driver.made < length (events_of c) = grind (arith, nat_tests) in command_event c p.driver.made less w
    by false b off late w = command_event c p.driver.made (making c is off) w

idle_rests : (p : Parts) → p.driver.command ≡ None
    → turn_row p.driver.turn (leaving_row p.driver p.registers) (harvest_row p.driver p.memory) ≡ rows.Rest →
    (leaving_row p.driver p.registers ≡ None) × (harvest_row p.driver p.memory ≡ None)
idle_rests p idle rest = by p.driver.turn rest
  where
    leaving : (row : DriverRow) → leaving_row p.driver p.registers ≡ Some row → row ≡ rows.Rest → ⊥
    leaving row is = rest_no_rest row (leaving_other p row is)

    harvest : (row : DriverRow) → harvest_row p.driver p.memory ≡ Some row → row ≡ rows.Rest → ⊥
    harvest row is = rest_no_rest row (worker_other p (next_worker p.driver) row is)

    by : (t : Turn) → turn_row t (leaving_row p.driver p.registers) (harvest_row p.driver p.memory) ≡ rows.Rest
        → (leaving_row p.driver p.registers ≡ None) × (harvest_row p.driver p.memory ≡ None)
    by turns.Leaving w = neither (leaving_row p.driver p.registers) (harvest_row p.driver p.memory) leaving harvest w
    by turns.Harvest w = let n = neither (harvest_row p.driver p.memory) (leaving_row p.driver p.registers) harvest leaving w in (n.1, n.0)

pub drivers_rest_when_done : DriversRestWhenDone
drivers_rest_when_done p order old making storing list rest =
    let idle = is_idle p.driver.command refl in
    let n = idle_rests p idle (sym (ap (row_for p) idle) ∙ rest) in
    record { commands = idle; done = all_done p idle n.0 n.1 order old }
  where
    is_idle : (o : Option Command) → p.driver.command ≡ o → p.driver.command ≡ None
    is_idle None is = is
    is_idle (Some c) is = absurd (unfinished_rests p c is making storing list (sym (ap (row_for p) is) ∙ rest))
