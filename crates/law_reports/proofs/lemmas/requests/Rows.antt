-- What the driver's rows and commands leave of what is recorded of requests.
use Rattle.std.proofs.Common.{◌≡◌, ◌≢◌, ℕ, suc, ◌*◌, ◌<◌, ◌≤◌, Bool, true, false, List, [], ◌∷◌, ◌++◌, length, Option, Some, None, ap, refl, sym, subst, ◌∙◌, ⊎_elim, arith}
use Rattle.std.specs.Prelude.{◌⊎◌, option_map, slice_get}
use Rattle.std.specs.List.{AllByRecursion}
use Rattle.std.proofs.lemmas.Bool.{cases_eq, cases_lt, false≢true}
use Rattle.std.proofs.lemmas.Option.{same_Some, slice_get_past}
use Rattle.law_common.proofs.Lists.{still_there}
use Rattle.law_reports.proofs.Common.{asked_before}
use Rattle.usb_base.specs.declared.commands.Cmd.{Cmd}
use Rattle.usb_base.specs.declared.commands.Cmd.TheVariants as commands
use Rattle.usb_base.specs.declared.endpoints.EpName.{EpName}
use Rattle.word_mem.specs.Memory.{Mem}
use Rattle.mem_runs.specs.Book.{holding, Stands}
use Rattle.claims_report.specs.Acts.{IsOnce}
use Rattle.drv_table.specs.declared.content.Endpoint.{Endpoint as DriverEndpoint}
use Rattle.drv_table.specs.declared.content.Transfer.{Transfer}
use Rattle.drv_table.specs.DriverContent.{DriverContent}
use Rattle.drv_table.specs.Accepting.{Offered}
use Rattle.drv_table.specs.Offers.{new_transfer}
use Rattle.drv_table.specs.Rows.{after_driver_row}
use Rattle.law_driver.specs.run_owners.Accepts.{Transfers}
use Rattle.claims_driver.specs.Leaving.{HasOwners}
use Rattle.claims_report.specs.Requests.{Request}
use Rattle.law_devices.specs.ring_requests.Laid.{Places}
use Rattle.law_devices.specs.request_stores.Published.{with_request}
use Rattle.law_devices.proofs.lemmas.request_stores.Publishing.{with_old}
use Rattle.law_reports.specs.requests.request_bytes.Fresh.{request_places}
use Rattle.claims_world.specs.Requests.{endpoint_of, Windows, asks_then, numbers_from, numbers_of}
use Rattle.law_reports.specs.requests.world_requests.Recording.{IsOpened}
use Rattle.law_reports.specs.requests.driver_requests.Requests.{IsOfEndpoint, AreOfEndpoint}
use Rattle.law_reports.specs.requests.driver_requests.Behind.{AreBehind}
use Rattle.law_reports.specs.requests.driver_requests.Rows.{KeepsRequests, number_with, given_by}
use Rattle.law_reports.proofs.lemmas.requests.lemmas.driver_requests.Accepting.{accepted_requests_stay, accepted_request_comes}
use Rattle.law_reports.proofs.lemmas.requests.lemmas.driver_requests.Behind.{rows_leave_behind, accepted_behind, accepted_beside}
use Rattle.law_reports.proofs.lemmas.requests.lemmas.driver_requests.Keeping.{requests_stay, number_new, number_old}
use Rattle.law_reports.proofs.lemmas.requests.lemmas.driver_requests.Ordering.{numbers_still}
use Rattle.law_reports.proofs.lemmas.requests.lemmas.driver_requests.RowOrder.{row_same, row_numbers}
use Rattle.law_reports.proofs.lemmas.requests.lemmas.driver_requests.Rows.{each_row_keeps_requests}
use Rattle.law_reports.specs.requests.Courses.{Course, NoQueue, Asks, Rests, has_queue, queue_in, have_queues}
use Rattle.law_reports.specs.requests.Records.{Numbers, IsAhead, IsOnceAt, AreActs, IsClosed, IsRecord, AreRecords}
use Rattle.law_reports.specs.requests.TransferChanges.{with_numbers, RowKeepsRecords, accepted_in, IsRequestOf, RequestIsAccepted, OtherIsAccepted, AcceptedKeepsRecords}
use Rattle.law_reports.proofs.lemmas.requests.Lists.{all_map, all_both, numbers_are}
use Rattle.law_reports.proofs.lemmas.requests.TransferChanging.{numbers_each}

-- ---- rows

pub row_keeps_records : RowKeepsRecords
row_keeps_records p row asks courses numbers gone v stays gives rec = record {
  each = λ n has.
      let k : IsRecord p.driver asks n (courses n) (numbers n) v = rec.each n has in
      let a : Numbers = numbers n in
      let keeps : KeepsRequests (given_by row) p.driver (after_driver_row row p).driver a.endpoint = each_row_keeps_requests p row a.endpoint (stays n has) in
      record {
        numbered = record {
          own = requests_stay (given_by row) p.driver (after_driver_row row p).driver a.requests 0 n a.endpoint a.number keeps (λ i from. gives n i has) k.numbered.own;
          order = rows_leave_behind p row asks a.endpoint a.closed a.requests a.number k.numbered.order;
          ahead = k.numbered.ahead;
        };
        acts = k.acts;
        closed = all_map (IsClosed p.driver asks a v) (IsClosed (after_driver_row row p).driver asks a v) (λ t z. record { of = row_same p row t ∙ z.of; beside = z.beside; once = z.once }) a.closed k.closed;
      };
  left = λ e out. subst (AllByRecursion (IsOnceAt asks v)) (sym (row_numbers p row e)) (rec.left e out);
  none = λ t none. rec.none t (sym (row_same p row t) ∙ none);
}

-- ---- commands that add no transfer

pub accepted_keeps_records : AcceptedKeepsRecords
accepted_keeps_records d c asks courses numbers gone v keeps same rec = record {
  each = λ n has.
      let k : IsRecord d asks n (courses n) (numbers n) v = rec.each n has in
      let a : Numbers = numbers n in
      record {
        numbered = record {
          own = requests_stay None d c a.requests 0 n a.endpoint a.number (keeps a.endpoint) (λ i from few is. let none : None ≡ Some (a.number i) = is in absurd cc) k.numbered.own;
          order = record { numbers = ap (λ (ts : List Transfer). numbers_from a.endpoint 0 ts) same ∙ k.numbered.order.numbers; requests = k.numbered.order.requests };
          ahead = k.numbered.ahead;
        };
        acts = k.acts;
        closed = all_map (IsClosed d asks a v) (IsClosed c asks a v) (λ t z. record { of = ap (λ (ts : List Transfer). option_map (λ (y : Transfer). y.endpoint) (slice_get ts t)) same ∙ z.of; beside = z.beside; once = z.once }) a.closed k.closed;
      };
  left = λ e out. subst (AllByRecursion (IsOnceAt asks v)) (sym (ap (λ (ts : List Transfer). numbers_from e 0 ts) same)) (rec.left e out);
  none = λ t none. rec.none t (ap (λ (ts : List Transfer). option_map (λ (y : Transfer). y.endpoint) (slice_get ts t)) (sym same) ∙ none);
}

-- ---- one transfer more

some_of : (xs : List Transfer) (t e : ℕ) → option_map (λ (y : Transfer). y.endpoint) (slice_get xs t) ≡ Some e → t < length xs
some_of xs t e of =
    ⊎_elim {C = t < length xs} (λ (less : t < length xs). less)
    (λ (past : length xs ≤ t). absurd (let none : None ≡ Some e = sym (ap (option_map (λ (y : Transfer). y.endpoint)) (slice_get_past xs t past)) ∙ of in cc)) (cases_lt t (length xs))

of_more : (xs ys : List Transfer) (t e : ℕ) → option_map (λ (y : Transfer). y.endpoint) (slice_get xs t) ≡ Some e → option_map (λ (y : Transfer). y.endpoint) (slice_get (xs ++ ys) t) ≡ Some e
of_more xs ys t e of = by (slice_get xs t) refl
  where
    by : (o : Option Transfer) → slice_get xs t ≡ o → option_map (λ (y : Transfer). y.endpoint) (slice_get (xs ++ ys) t) ≡ Some e
    by None here = absurd (let none : None ≡ Some e = sym (ap (option_map (λ (y : Transfer). y.endpoint)) here) ∙ of in cc)
    by (Some z) here = ap (option_map (λ (y : Transfer). y.endpoint)) (still_there xs ys t z here) ∙ sym (ap (option_map (λ (y : Transfer). y.endpoint)) here) ∙ of

module _ (d : DriverContent) (m : Mem) (o : Offered) (why : Transfers d m o) (cmd : Cmd) (asks : ℕ → Request) (courses : ℕ → Course) (numbers : ℕ → Numbers) (gone : ℕ → Bool) (v : Windows) (owners : HasOwners d) (book : Stands (holding d.book m)) (rec : AreRecords d asks courses numbers gone v) where
  abbrev now : ℕ → Request
  now = asks_then d cmd asks

  abbrev added : Transfer
  added = new_transfer why.number why.asked why.endpoint.dummy

  more : o.driver.transfers ≡ d.transfers ++ new_transfer why.number why.asked why.endpoint.dummy ∷ []
  more = ap (λ (g : Offered). g.driver.transfers) why.is

  of_now : (t e : ℕ) → endpoint_of d t ≡ Some e → endpoint_of o.driver t ≡ Some e
  of_now t e of = ap (λ (ts : List Transfer). option_map (λ (y : Transfer). y.endpoint) (slice_get ts t)) more ∙ of_more d.transfers (added ∷ []) t e of

  asked_now : (t e : ℕ) → endpoint_of d t ≡ Some e → asks_then d cmd asks t ≡ asks t
  asked_now t e of = asked_before d cmd asks t (some_of d.transfers t e of)

  once_now : (t e : ℕ) → endpoint_of d t ≡ Some e → IsOnceAt asks v t → IsOnceAt (asks_then d cmd asks) v t
  once_now t e of once = subst (λ (r : Request). IsOnce r.setup (v.acts t)) (sym (asked_now t e of)) once

  -- nothing is recorded of it
  new_none : v.acts (length d.transfers) ≡ []
  new_none = rec.none (length d.transfers) (ap (option_map (λ (y : Transfer). y.endpoint)) (slice_get_past d.transfers (length d.transfers) (omega arith)))

  -- of an endpoint that it isn't of
  beside_recorded : (n : ℕ) (c : Course) (a : Numbers) → a.endpoint ≢ why.number → IsRecord d asks n c a v → IsRecord o.driver (asks_then d cmd asks) n c a v
  beside_recorded n c a other k = record {
    numbered = record {
      own = accepted_requests_stay d m o a.requests 0 n a.endpoint a.number why owners book k.numbered.own;
      order = accepted_beside d m o why cmd asks a.closed a.requests 0 n a.endpoint a.number other k.numbered.own k.numbered.order;
      ahead = k.numbered.ahead;
    };
    acts = k.acts;
    closed = all_map (IsClosed d asks a v) (IsClosed o.driver now a v) (λ t z. record { of = of_now t a.endpoint z.of; beside = z.beside; once = once_now t a.endpoint z.of z.once }) a.closed k.closed;
  }

  left_now : gone why.number ≡ false → (e : ℕ) → gone e ≡ true → AllByRecursion (IsOnceAt (asks_then d cmd asks) v) (numbers_of o.driver e)
  left_now here e out =
      let other : why.number ≢ e = λ same. false≢true (sym here ∙ ap gone same ∙ out) in
      subst (AllByRecursion (IsOnceAt now v)) (sym (numbers_still d o.driver e added more other))
      (all_both (λ t. endpoint_of d t ≡ Some e) (IsOnceAt asks v) (IsOnceAt now v) (λ t of. once_now t e of) (numbers_of d e) (numbers_are d e) (rec.left e out))

  none_now : (t : ℕ) → endpoint_of o.driver t ≡ None → v.acts t ≡ []
  none_now t none = by (endpoint_of d t) refl
    where
      by : (x : Option ℕ) → endpoint_of d t ≡ x → v.acts t ≡ []
      by None is = rec.none t is
      by (Some e) is = absurd (let both : None ≡ Some e = sym none ∙ of_now t e is in cc)

pub other_is_accepted : OtherIsAccepted
other_is_accepted d m o why cmd asks courses numbers gone v owners book other here rec = record {
  each = λ n has. beside_recorded d m o why cmd asks courses numbers gone v owners book rec n (courses n) (numbers n) (other n has) (rec.each n has);
  left = left_now d m o why cmd asks courses numbers gone v owners book rec here;
  none = none_now d m o why cmd asks courses numbers gone v owners book rec;
}

-- ---- a request

module _ (d : DriverContent) (m : Mem) (o : Offered) (why : Transfers d m o) (name : EpName) (setup bytes : List ℕ) (asks : ℕ → Request) (courses : ℕ → Course) (numbers : ℕ → Numbers) (gone : ℕ → Bool) (v : Windows) (n : ℕ) (is : IsRequestOf d m o why setup courses numbers gone n) (rec : AreRecords d asks courses numbers gone v) where
  abbrev cmd : Cmd
  cmd = commands.Control name setup bytes

  abbrev r : Request
  r = record { setup = setup; bytes = bytes }

  abbrev x : Places
  x = request_places o.driver.notes why.endpoint.dummy (record { setup = setup; bytes = bytes })

  abbrev a : Numbers
  a = numbers n

  abbrev t : ℕ
  t = length d.transfers

  k : IsRecord d asks n (courses n) (numbers n) v
  k = rec.each n is.has

  own : AreOfEndpoint d (numbers n).requests 0 n why.number (numbers n).number
  own = subst (λ (e : ℕ). AreOfEndpoint d a.requests 0 n e a.number) is.endpoint k.numbered.own

  order : AreBehind d asks why.number (numbers n).closed (numbers n).requests (numbers n).number
  order = subst (λ (e : ℕ). AreBehind d asks e a.closed a.requests a.number) is.endpoint k.numbered.order

  none_of_new : v.acts (length d.transfers) ≡ []
  none_of_new = new_none d m o why cmd asks courses numbers gone v is.owners is.book rec

  -- what is recorded of it
  acts_with : (i : ℕ) → (i < (numbers n).requests.count → v.acts ((numbers n).number i) ≡ []) → i < suc (numbers n).requests.count
      → v.acts (number_with (numbers n).requests.count (numbers n).number (length d.transfers) i) ≡ []
  acts_with i old few =
      ⊎_elim {C = v.acts (number_with a.requests.count a.number t i) ≡ []} (λ (same : i ≡ a.requests.count). ap v.acts (number_new a.requests.count t a.number i same) ∙ none_of_new)
      (λ (differs : i ≢ a.requests.count). ap v.acts (number_old a.requests.count t a.number i differs) ∙ old (omega (arith, few, differs))) (cases_eq i a.requests.count)

  acts_by : (c : Course) → courses n ≡ c → IsAhead (queue_in c) (numbers n).requests → AreActs c (numbers n) v → AreActs c (accepted_in (numbers n) (length d.transfers) r x) v
  acts_by NoQueue at ahead acts = tt
  acts_by (Rests q b c) at ahead acts = λ i few. acts_with i (acts i) few
  acts_by (Asks q b l) at ahead acts =
      let within = is.within q b l at in
      let few = ahead.few in
      record {
        begun = λ i upto. ap v.acts (number_old a.requests.count t a.number i (λ same. omega (arith, same, upto, within, few))) ∙ acts.begun i upto;
        behind = λ i after less. acts_with i (acts.behind i after) less;
        is_open = subst (λ (j : ℕ). IsOpened (v.opened a.endpoint) j l) (sym (number_old a.requests.count t a.number l.under (λ same. omega (arith, same, within, few)))) acts.is_open;
      }

  ahead_by : IsAhead (queue_in (courses n)) (numbers n).requests → IsAhead (queue_in (courses n)) (with_request (numbers n).requests r x)
  ahead_by ahead =
      let few = ahead.few in
      let same = is.published in
      record {
        endpoint = ahead.endpoint;
        few = omega (arith, few);
        most = omega (arith, same);
        same = λ i less. with_old a.requests r x i (omega (arith, less, few)) ∙ ahead.same i less;
      }

  mine : IsRecord o.driver (asks_then d (commands.Control name setup bytes) asks) n (courses n) (accepted_in (numbers n) (length d.transfers) r x) v
  mine = record {
    numbered = record {
      own = subst (λ (e : ℕ). AreOfEndpoint o.driver (with_request a.requests r x) 0 n e (number_with a.requests.count a.number t)) (sym is.endpoint)
          (accepted_request_comes d m o why r a.requests 0 n a.number is.sort is.stages is.owners is.book own);
      order = subst (λ (e : ℕ). AreBehind o.driver (asks_then d cmd asks) e a.closed (with_request a.requests r x) (number_with a.requests.count a.number t)) (sym is.endpoint)
          (accepted_behind d m o why name setup bytes asks a.closed a.requests 0 n a.number x own order);
      ahead = ahead_by k.numbered.ahead;
    };
    acts = acts_by (courses n) refl k.numbered.ahead k.acts;
    closed = all_map (IsClosed d asks a v) (IsClosed o.driver (asks_then d cmd asks) (accepted_in a t r x) v)
        (λ s z.
        record {
          of = of_now d m o why cmd asks courses numbers gone v is.owners is.book rec s a.endpoint z.of;
          beside = λ i few.
              ⊎_elim {C = s ≢ number_with a.requests.count a.number t i}
              (λ (same : i ≡ a.requests.count) is_it. let less = some_of d.transfers s a.endpoint z.of in let at : s ≡ t = is_it ∙ number_new a.requests.count t a.number i same in omega (arith, less, at))
              (λ (differs : i ≢ a.requests.count) is_it. z.beside i (omega (arith, few, differs)) (is_it ∙ number_old a.requests.count t a.number i differs)) (cases_eq i a.requests.count);
          once = once_now d m o why cmd asks courses numbers gone v is.owners is.book rec s a.endpoint z.of z.once;
        }) a.closed k.closed;
  }

  -- the endpoint of another queue head is another one
  other_endpoint : (j : ℕ) → j ≢ n → have_queues courses j ≡ true → (numbers j).endpoint ≢ why.number
  other_endpoint j differs has same =
      let one : IsOfEndpoint d (numbers j).requests.endpoint j (numbers j).endpoint = (rec.each j has).numbered.own.endpoint in
      let two : IsOfEndpoint d a.requests.endpoint n why.number = own.endpoint in
      let own_is : one.own ≡ two.own = same_Some one.own two.own (sym one.here ∙ ap (slice_get d.endpoints) same ∙ two.here) in
      differs (one.queue ∙ ap (λ (z : DriverEndpoint). 32 * z.queue) own_is ∙ sym two.queue)

  accepted : AreRecords o.driver (asks_then d (commands.Control name setup bytes) asks) courses (with_numbers numbers n (accepted_in (numbers n) (length d.transfers) r x)) gone v
  accepted = record {
    each = numbers_each courses numbers n (accepted_in a t r x) (λ (j : ℕ) (c : Course) (y : Numbers). has_queue c ≡ true → IsRecord o.driver (asks_then d cmd asks) j c y v) (λ has. mine)
        (λ j differs has. beside_recorded d m o why cmd asks courses numbers gone v is.owners is.book rec j (courses j) (numbers j) (other_endpoint j differs has) (rec.each j has));
    left = left_now d m o why cmd asks courses numbers gone v is.owners is.book rec is.here;
    none = none_now d m o why cmd asks courses numbers gone v is.owners is.book rec;
  }

pub request_is_accepted : RequestIsAccepted
request_is_accepted d m o why name setup bytes asks courses numbers gone v n is rec = accepted d m o why name setup bytes asks courses numbers gone v n is rec
