-- Endpoints without queues, and transfers of them, that come to a driver's content leave its requests as they must stand; so does a change
-- of its command, where none is
-- published and none is opened.
use Rattle.std.proofs.Common.{◌≡◌, ◌≢◌, ℕ, zero, suc, ◌*◌, ◌+◌, ◌==◌, ◌&&◌, not, Bool, true, false, cond, List, [], ◌∷◌, ◌++◌, count_by}
use Rattle.std.proofs.Common.{slice_get, Option, Some, None, option_map, if◌then◌else◌, ap, refl, sym, subst, ◌∙◌, ⊎_elim, inl, inr, arith}
use Rattle.std.specs.Prelude.{◌⊎◌}
use Rattle.std.specs.List.{AllByRecursion}
use Rattle.std.proofs.lemmas.Bool.{false≢true, and_parts}
use Rattle.std.proofs.lemmas.Option.{same_Some}
use Rattle.law_common.proofs.Lists.{all_more, nth_all, still_there}
use Rattle.std.proofs.lemmas.List.Sums.{sum_by-cons}
use Rattle.law_reports.proofs.lemmas.requests.Lists.{all_map}
use Rattle.law_common.proofs.Numbers.{other_number}
use Rattle.law_descriptors.proofs.Returning.{none_some}
use Rattle.law_world.proofs.Common2.{opens_is}
use Rattle.word_mem.specs.Memory.{Mem}
use Rattle.bus_wire.specs.Bus.{Wired}
use Rattle.drv_table.specs.declared.content.Endpoint.{Endpoint}
use Rattle.drv_table.specs.declared.content.Transfer.{Transfer}
use Rattle.drv_table.specs.DriverContent.{DriverContent, waits_for}
use Rattle.law_driver.specs.endpoint_lives.Lives.{may_meet}
use Rattle.law_structures.specs.lent_structures.Structures.{StructureSets}
use Rattle.claims_report.specs.Requests.{Request}
use Rattle.law_ring.specs.Hand.{Hand}
use Rattle.claims_world.specs.Requests.{Windows, opens, is_opening, endpoint_of, numbers_from, numbers_of}
use Rattle.law_reports.specs.requests.Asking.{Sides, Asking, left_with, has_left, IsMetControl, AsksIn}
use Rattle.law_reports.specs.requests.Courses.{queue_in}
use Rattle.law_reports.specs.requests.Records.{IsClosed, IsRecord, IsOnceAt, AreRecords}
use Rattle.law_reports.specs.requests.Counts.{counted_all}
use Rattle.law_reports.specs.requests.driver_requests.Rows.{KeepsRequests}
use Rattle.law_reports.specs.requests.told_requests.Waiting.{waiting}
use Rattle.law_reports.proofs.lemmas.requests.Leaving.{IsQuiet}
use Rattle.law_reports.proofs.lemmas.requests.Releasing.{next_is}
use Rattle.law_reports.proofs.lemmas.requests.lemmas.driver_requests.Keeping.{requests_stay}

-- h, with all of d's queues, and these endpoints and transfers more
abbrev pub more_in : DriverContent → DriverContent → List Endpoint → List Transfer → DriverContent
more_in d h us ts = record h {
  endpoints = d.endpoints ++ us;
  transfers = d.transfers ++ ts;
  notes = d.notes;
  mends = d.mends;
  waiting = d.waiting;
  rung = d.rung;
  reports = d.reports;
  store = d.store;
}

-- an endpoint that was given back, and isn't asked
pub record IsBare (g : Sides) (u : Endpoint) : Type 0 where
  pub gone : u.gone ≡ true
  pub unasked : g.asks u.desc ≡ false

-- a transfer that was reported, of an endpoint that isn't asked
pub record IsBeside (g : Sides) (d : DriverContent) (y : Transfer) : Type 0 where
  pub own : Endpoint
  pub here : slice_get d.endpoints y.endpoint ≡ Some own
  pub unasked : g.asks own.desc ≡ false
  pub reported : y.reported ≡ true

pub found_or : {X : Type 0} (xs ys : List X) (i : ℕ) (x : X) → slice_get (xs ++ ys) i ≡ Some x
    → (slice_get xs i ≡ Some x) ⊎ ((j : ℕ) × slice_get ys j ≡ Some x)
found_or [] ys i x here = inr (i, here)
found_or (z ∷ zs) ys zero x here = inl here
found_or (z ∷ zs) ys (suc i) x here = found_or zs ys i x here

-- transfers of other endpoints have other numbers
numbers_beside : (e n : ℕ) (xs ys : List Transfer) → AllByRecursion (λ y. y.endpoint ≢ e) ys
    → numbers_from e n (xs ++ ys) ≡ numbers_from e n xs
numbers_beside e n [] [] all = refl
numbers_beside e n [] (y ∷ ys) all =
    ap (λ (b : Bool). if b then n ∷ numbers_from e (suc n) ys else numbers_from e (suc n) ys) (other_number y.endpoint e all.0)
    ∙ numbers_beside e (suc n) [] ys all.1
numbers_beside e n (x ∷ xs) ys all =
    ap (λ (ns : List ℕ). if x.endpoint == e then n ∷ ns else ns) (numbers_beside e (suc n) xs ys all)

-- .. and where they were reported, none waits
waits_beside : (e : ℕ) (xs ys : List Transfer) → AllByRecursion (λ y. y.reported ≡ true) ys
    → count_by (waits_for e) (xs ++ ys) ≡ count_by (waits_for e) xs
waits_beside e [] [] all = refl
waits_beside e [] (y ∷ ys) all =
    let first : count_by (waits_for e) (y ∷ ys) ≡ 0 + count_by (waits_for e) ys =
    sum_by-cons (λ z. cond (waits_for e z) 1 0) y ys
    ∙ ap (λ (b : Bool). cond ((y.endpoint == e) && not b) 1 0 + count_by (waits_for e) ys) all.0
    ∙ ap (λ (b : Bool). cond b 1 0 + count_by (waits_for e) ys) (none_of (y.endpoint == e)) in
    let later = waits_beside e [] ys all.1 in
    omega (arith, first, later)
  where
    none_of : (b : Bool) → (b && not true) ≡ false
    none_of true = refl
    none_of false = refl
waits_beside e (x ∷ xs) ys all =
    let one = sum_by-cons (λ z. cond (waits_for e z) 1 0) x (xs ++ ys) in
    let other = sum_by-cons (λ z. cond (waits_for e z) 1 0) x xs in
    let later = waits_beside e xs ys all in
    omega (arith, one, other, later)

module _ (g : Sides) (member : ℕ → Bool) (parts : StructureSets) (hand : Hand) (a : Asking) (v : Windows) (asks : ℕ → Request)
    (d h : DriverContent) (us : List Endpoint) (ts : List Transfer) (m new : Mem) (wire : Wired)
    (q : AsksIn g member parts hand a v asks d m wire) (never : (b : ℕ) → opens d.command b ≡ false) (quiet_was : IsQuiet d)
    (quiet : IsQuiet (more_in d h us ts))
    (none_opens : (b : ℕ) → opens h.command b ≡ false) (bare : AllByRecursion (IsBare g) us) (beside : AllByRecursion (IsBeside g d) ts)
  where
    abbrev f : DriverContent
    f = more_in d h us ts

    old_end : (e : ℕ) (x : Endpoint) → slice_get (d.endpoints ++ us) e ≡ Some x → g.asks x.desc ≡ true → slice_get d.endpoints e ≡ Some x
    old_end e x here on =
        ⊎_elim (λ (old : slice_get d.endpoints e ≡ Some x). old)
        (λ (own : (j : ℕ) × slice_get us j ≡ Some x). absurd (false≢true (sym (nth_all (IsBare g) us own.0 x bare own.1).unasked ∙ on)))
        (found_or d.endpoints us e x here)

    still_end : (e : ℕ) (x : Endpoint) → slice_get d.endpoints e ≡ Some x → slice_get (d.endpoints ++ us) e ≡ Some x
    still_end e x here = still_there d.endpoints us e x here

    still_transfer : (t : ℕ) (y : Transfer) → slice_get d.transfers t ≡ Some y → slice_get (d.transfers ++ ts) t ≡ Some y
    still_transfer t y here = still_there d.transfers ts t y here

    met_was : (e : ℕ) (x : Endpoint) → IsMetControl g (more_in d h us ts) e x → IsMetControl g d e x
    met_was e x k = record {
      is = record { here = old_end e x k.is.here k.is.control; control = k.is.control };
      met = record {
        there =
            record { linked = λ is. false≢true (sym (never x.queue) ∙ opens_is d.command x.queue is); kept = k.met.there.kept };
        near =
            k.met.near;
      };
    }

    keeps : (i : ℕ) → KeepsRequests None d (more_in d h us ts) i
    keeps i = record {
      endpoint = λ x here. record { own = x; here = still_end i x here; desc = refl; queue = refl; gone = refl };
      transfers = λ t y here of. record
          { own = y; here = still_transfer t y here; endpoint = refl; sort = refl; first = refl; qtds = refl; held = λ other. refl };
      notes = λ t b y here of held piece. refl;
    }

    -- ---- transfers

    apart : (e : ℕ) (x : Endpoint) → slice_get d.endpoints e ≡ Some x → g.asks x.desc ≡ true → (ys : List Transfer)
        → AllByRecursion (IsBeside g d) ys
        → AllByRecursion (λ y. y.endpoint ≢ e) ys
    apart e x here on ys all =
        all_more (IsBeside g d) (λ y. y.endpoint ≢ e) ys
        (λ y k same. false≢true
        (sym k.unasked ∙ ap (λ (z : Endpoint). g.asks z.desc) (same_Some k.own x (sym k.here ∙ ap (slice_get d.endpoints) same ∙ here))
        ∙ on)) all

    numbers_same : (e : ℕ) (x : Endpoint) → slice_get d.endpoints e ≡ Some x → g.asks x.desc ≡ true
        → numbers_of (more_in d h us ts) e ≡ numbers_of d e
    numbers_same e x here on = numbers_beside e 0 d.transfers ts (apart e x here on ts beside)

    waiting_same : (e : ℕ) → waiting (more_in d h us ts) e ≡ waiting d e
    waiting_same e = waits_beside e d.transfers ts (all_more (IsBeside g d) (λ y. y.reported ≡ true) ts (λ y k. k.reported) beside)

    owner_still : (t e : ℕ) → endpoint_of d t ≡ Some e → endpoint_of (more_in d h us ts) t ≡ Some e
    owner_still t e of = by (slice_get d.transfers t) refl of
      where
        by : (o : Option Transfer) → slice_get d.transfers t ≡ o → option_map (λ (y : Transfer). y.endpoint) o ≡ Some e
            → endpoint_of (more_in d h us ts) t ≡ Some e
        by None at is = absurd (none_some e is)
        by (Some y) at is = ap (option_map (λ (y : Transfer). y.endpoint)) (still_transfer t y at) ∙ is

    none_was : (t : ℕ) → endpoint_of (more_in d h us ts) t ≡ None → endpoint_of d t ≡ None
    none_was t none = by (endpoint_of d t) refl
      where
        by : (o : Option ℕ) → endpoint_of d t ≡ o → endpoint_of d t ≡ None
        by None at = at
        by (Some e) at = absurd (none_some e (sym none ∙ owner_still t e at))

    recorded : AreRecords (more_in d h us ts) asks a.courses a.numbers (has_left g (more_in d h us ts)) v
    recorded = record {
      each = λ n has.
          let k : IsRecord d asks n (a.courses n) (a.numbers n) v = q.records.each n has in
          let o = k.numbered.own.endpoint in
          let on : g.asks o.own.desc ≡ true = q.asked n o.own has o.here in
          record {
            numbered = record {
              own = requests_stay None d f (a.numbers n).requests 0 n (a.numbers n).endpoint (a.numbers n).number
                  (keeps (a.numbers n).endpoint)
                  (λ i from few is. let none : ◌≡◌ {A = Option ℕ} None (Some ((a.numbers n).number i)) = is in absurd cc) k.numbered.own;
              order = record {
                numbers = numbers_same (a.numbers n).endpoint o.own o.here on
                    ∙ k.numbered.order.numbers;
                requests = k.numbered.order.requests;
              };
              ahead = k.numbered.ahead;
            };
            acts = k.acts;
            closed = all_map (IsClosed d asks (a.numbers n) v) (IsClosed f asks (a.numbers n) v)
                (λ t z. record { of = owner_still t (a.numbers n).endpoint z.of; beside = z.beside; once = z.once }) (a.numbers n).closed
                k.closed;
          };
      left = λ e out. left_by e (slice_get (d.endpoints ++ us) e) refl out;
      none = λ t none. q.records.none t (none_was t none);
    }
      where
        left_by : (e : ℕ) (o : Option Endpoint) → slice_get (d.endpoints ++ us) e ≡ o → left_with g (more_in d h us ts) e o ≡ true
            → AllByRecursion (IsOnceAt asks v) (numbers_of (more_in d h us ts) e)
        left_by e None at out = absurd (false≢true out)
        left_by e (Some x) at out =
            let on : g.asks x.desc ≡ true = (and_parts (g.asks x.desc) (not (may_meet f e x)) out).0 in
            let old : slice_get d.endpoints e ≡ Some x = old_end e x at on in
            subst (AllByRecursion (IsOnceAt asks v)) (sym (numbers_same e x old on)) (q.records.left e (ap (left_with g d e) old ∙ out))

    -- ---- the requests

    pub more_asks : AsksIn g member parts hand a v asks (more_in d h us ts) new wire
    more_asks = record {
      stand = q.stand;
      records = recorded;
      each = λ e x is.
          let k = q.each e x (met_was e x is) in
          record {
            queue = k.queue;
            endpoint = k.endpoint;
            number = k.number;
            tail = k.tail ∙ quiet_was.tail e x ∙ sym (quiet.tail e x);
            count = k.count ∙ ap (λ (b : Bool). if b then suc (queue_in (a.courses (32 * x.queue))).count else
                (queue_in (a.courses (32 * x.queue))).count) (quiet_was.none e ∙ sym (quiet.none e));
            newest = λ on. absurd (false≢true (sym (quiet.none e) ∙ on));
            next = k.next;
            ended = k.ended;
            owed = k.owed;
          };
      asked = λ n x has here.
          let o = (q.records.each n has).numbered.own.endpoint in
          let same : o.own ≡ x = same_Some o.own x (sym (still_end (a.numbers n).endpoint o.own o.here) ∙ here) in
          ap (λ (z : Endpoint). g.asks z.desc) (sym same) ∙ q.asked n o.own has o.here;
      publishing = λ e x is next. absurd (false≢true (sym (quiet.none e) ∙ next));
      read = λ e t x y is going next there.
          let was = met_was e x is in
          let c = q.each e x was in
          let first = next_is (a.numbers (32 * x.queue)).requests.count ((a.numbers (32 * x.queue)).number 0) t
          (sym (c.next going) ∙ next) in
          let of = (q.records.each (32 * x.queue) c.queue).numbered.own.transfers 0 first.0 in
          let old : slice_get d.transfers t ≡ Some of.own = ap (slice_get d.transfers) (sym first.1) ∙ of.here in
          let same : of.own ≡ y = same_Some of.own y (sym (still_transfer t of.own old) ∙ there) in
          q.read e t x y was going next (old ∙ ap (λ (z : Transfer). Some z) same);
      telling = λ e x is.
          let was = met_was e x is in
          let k = q.telling e x was in
          record {
            reported = k.reported;
            untold = k.untold;
            closed = k.closed;
            going = k.going;
            uncancelled = k.uncancelled;
            telling = record {
              numbers = numbers_same e x was.is.here was.is.control ∙ k.telling.numbers;
              told = k.telling.told;
              wait = k.telling.wait ∙ sym (waiting_same e);
            };
          };
      given = λ e x is. q.given e x (record { here = old_end e x is.here is.control; control = is.control });
      counts = λ e x is off.
          let here = old_end e x is.here is.control in
          let k = q.counts e x (record { here = here; control = is.control }) (ap (λ (b : Bool). b && not x.gone) (never x.queue)) in
          record {
            device = k.device;
            is = k.is;
            acted = k.acted
                ∙ sym (ap (λ (ns : List ℕ). counted_all v ns 0) (numbers_same e x here is.control));
          };
      unopened = λ addr num c least none first. q.unopened addr num c least
          (λ e z here one two. absurd (not_opening e z here (none e z (still_end e z here) one two))) first;
      untold = λ name none. q.untold name (λ e z here named. absurd (not_opening e z here (none e z (still_end e z here) named)));
      unmissed = record { structures = q.unmissed.structures; in_hand = q.unmissed.in_hand; first = quiet.first };
    }
      where
        not_opening : (e : ℕ) (z : Endpoint) → slice_get d.endpoints e ≡ Some z → is_opening (more_in d h us ts) z ≡ true → ⊥
        not_opening e z here on = false≢true (sym (ap (λ (b : Bool). b && not z.gone) (none_opens z.queue)) ∙ on)
