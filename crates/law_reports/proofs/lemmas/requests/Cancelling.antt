-- An endpoint is cancelled: the requests of all control endpoints stand as they did.
use Rattle.std.proofs.Common.{◌≡◌, ◌≢◌, ℕ, suc, ◌-◌, ◌*◌, ◌&&◌, ◌||◌, not, Bool, true, false, List, ◌++◌, length, slice_get, if◌then◌else◌, Option, Some, None, ap, refl, sym, subst, ◌∙◌, ⊎_elim}
use Rattle.std.specs.Prelude.{◌⊎◌}
use Rattle.std.proofs.lemmas.Bool.{cases_eq, false≢true}
use Rattle.std.proofs.lemmas.Option.{same_Some}
use Rattle.law_queues.proofs.Common.{none_open}
use Rattle.law_common.proofs.Lists.{set_here, set_there}
use Rattle.law_reports.proofs.Common.{regone}
use Rattle.usb_base.specs.declared.endpoints.EndCause.{EndCause}
use Rattle.usb_base.specs.declared.endpoints.EpDesc.{EpDesc}
use Rattle.word_mem.specs.Memory.{Mem}
use Rattle.bus_wire.specs.Bus.{Wired}
use Rattle.drv_table.specs.declared.content.Command.{Command}
use Rattle.drv_table.specs.declared.content.Endpoint.{Endpoint}
use Rattle.drv_table.specs.DriverContent.{DriverContent}
use Rattle.drv_table.specs.Harvests.{note_at}
use Rattle.drv_table.specs.CancelOffers.{first_end, accepted_cancel}
use Rattle.drv_table.specs.Releases.{ended_by_cancel}
use Rattle.law_driver.specs.endpoint_lives.Lives.{told_end, is_one_of}
use Rattle.law_driver.specs.chained_transfers.Asynchronous.{OnlyAsynchronous}
use Rattle.law_queues.proofs.lemmas.fed_lends.Asked.{set_which}
use Rattle.law_structures.specs.lent_structures.Structures.{StructureSets}
use Rattle.claims_report.specs.Requests.{Request}
use Rattle.law_ring.specs.Hand.{Hand}
use Rattle.law_devices.specs.Controls.{control_of}
use Rattle.claims_world.specs.Requests.{Windows, opens}
use Rattle.law_reports.specs.requests.driver_requests.Rows.{EndpointStays, KeepsRequests}
use Rattle.law_reports.specs.requests.Courses.{Course, queue_in}
use Rattle.law_reports.proofs.lemmas.requests.Rows.{accepted_keeps_records}
use Rattle.law_devices.specs.ring_requests.Runs.{first_of}
use Rattle.law_queues.specs.standing_fronts.Tails.{tail_block}
use Rattle.law_queues.specs.told_endpoints.Telling.{lines_in}
use Rattle.law_reports.specs.requests.Telling.{IsTelling}
use Rattle.law_reports.specs.requests.told_requests.Told.{has_cancel}
use Rattle.law_reports.specs.requests.Asking.{Sides, IsGiven, Asking, left_with, has_left, is_publishing, HasCourse, IsReadTo, HasTelling, IsMetControl, AsksIn}
use Rattle.usb_base.specs.declared.endpoints.EndCause.TheVariants as causes

-- what its report has of its end stays: its cancel isn't told yet
same_end : (x : Endpoint) (o : Option EndCause) → x.ended ≡ o → (ended_by_cancel o ≡ true → x.cancelled ≡ true) → x.cancelled ≡ false
    → x.gone ≡ false → told_end (record x { cancelled = true; ended = first_end o }) ≡ told_end x
same_end x None is only fresh kept =
    ap (λ (g : Bool). if not g then None else Some causes.Cancel) kept
    ∙ sym (ap (λ (o : Option EndCause). if (ended_by_cancel o && x.cancelled) && not x.gone then None else o) is)
same_end x (Some cause) is only fresh kept =
    let off : ended_by_cancel (Some cause) ≡ false = by (ended_by_cancel (Some cause)) refl in
    ap (λ (b : Bool). if (b && true) && not x.gone then None else Some cause) off
    ∙ sym (ap (λ (o : Option EndCause). if (ended_by_cancel o && x.cancelled) && not x.gone then None else o) is ∙ ap (λ (b : Bool). if (b && x.cancelled) && not x.gone then None else Some cause) off)
  where
    by : (b : Bool) → ended_by_cancel (Some cause) ≡ b → ended_by_cancel (Some cause) ≡ false
    by true on = absurd (false≢true (sym fresh ∙ only on))
    by false off = off

module _ (sides : Sides) (member : ℕ → Bool) (parts : StructureSets) (hand : Hand) (a : Asking) (v : Windows) (asks : ℕ → Request)
    (d : DriverContent) (m : Mem) (wire : Wired) (world : AsksIn sides member parts hand a v asks d m wire)
    (only : OnlyAsynchronous d) (number : ℕ) (x : Endpoint) (idle : d.command ≡ None) (here : slice_get d.endpoints number ≡ Some x) (fresh : x.cancelled ≡ false) where
  abbrev end : Endpoint
  end = record x { cancelled = true; ended = first_end x.ended }

  abbrev leaving : DriverContent
  leaving = accepted_cancel d number x

  which : (i : ℕ) (u : Endpoint) → slice_get (accepted_cancel d number x).endpoints i ≡ Some u
      → ((i ≡ number) × (u ≡ end)) ⊎ ((i ≢ number) × (slice_get d.endpoints i ≡ Some u))
  which i u there = set_which d.endpoints number i x end u here there

  -- what it was before
  record WasControl (i : ℕ) (u : Endpoint) : Type 0 where
    was : Endpoint
    here_was : slice_get d.endpoints i ≡ Some was
    desc : was.desc ≡ u.desc
    queue : was.queue ≡ u.queue
    dummy : was.dummy ≡ u.dummy
    next : was.next ≡ u.next
    linked : was.linked ≡ u.linked
    gone : was.gone ≡ u.gone
    told : u.gone ≡ false → told_end u ≡ told_end was

  was_one : (i : ℕ) (u : Endpoint) → slice_get (accepted_cancel d number x).endpoints i ≡ Some u → WasControl i u
  was_one i u there =
      ⊎_elim {C = WasControl i u}
      (λ (own : (i ≡ number) × (u ≡ end)). subst (λ (z : Endpoint). WasControl i z) (sym own.1) (record {
        was = x;
        here_was = ap (slice_get d.endpoints) own.0 ∙ here;
        desc = refl;
        queue = refl;
        dummy = refl;
        next = refl;
        linked = refl;
        gone = refl;
        told = λ kept. same_end x x.ended refl (only.endpoints number x here).cancel fresh kept;
      }))
      (λ (other : (i ≢ number) × (slice_get d.endpoints i ≡ Some u)). record { was = u; here_was = other.1; desc = refl; queue = refl; dummy = refl; next = refl; linked = refl; gone = refl; told = λ kept. refl })
      (which i u there)

  met_was : (i : ℕ) (u : Endpoint) (is : IsMetControl sides (accepted_cancel d number x) i u)
      → IsMetControl sides d i (was_one i u is.is.here).was
  met_was i u is =
      let b = was_one i u is.is.here in
      record {
        is = record { here = b.here_was; control = ap (λ (z : EpDesc). sides.asks z) b.desc ∙ is.is.control };
        met = record {
          there = record { linked = λ opening. none_open b.was.queue (sym idle ∙ opening); kept = b.gone ∙ is.met.there.kept };
          near = ap (λ (z : Bool). z || (is_one_of i d.waiting || is_one_of i d.rung)) b.linked ∙ is.met.near;
        };
      }

  keeps : (i : ℕ) → KeepsRequests None d (accepted_cancel d number x) i
  keeps i = record {
    endpoint = λ u at.
        ⊎_elim {C = EndpointStays leaving i u}
        (λ (same : i ≡ number).
        let own : x ≡ u = same_Some x u (sym here ∙ ap (slice_get d.endpoints) (sym same) ∙ at) in
        record {
          own = end;
          here = ap (slice_get leaving.endpoints) same ∙ set_here d.endpoints number x end here;
          desc = ap (λ (z : Endpoint). z.desc) own;
          queue = ap (λ (z : Endpoint). z.queue) own;
          gone = ap (λ (z : Endpoint). z.gone) own;
        })
        (λ (differs : i ≢ number). record { own = u; here = set_there d.endpoints number i end differs ∙ at; desc = refl; queue = refl; gone = refl }) (cases_eq i number);
    transfers = λ t y there of. record { own = y; here = there; endpoint = refl; sort = refl; first = refl; qtds = refl; held = λ other. refl };
    notes = λ t b y there of held piece. refl;
  }

  left_before : (i : ℕ) → has_left sides (accepted_cancel d number x) i ≡ true → has_left sides d i ≡ true
  left_before i on =
      ⊎_elim {C = has_left sides d i ≡ true}
      (λ (same : i ≡ number).
      subst (λ (j : ℕ). has_left sides d j ≡ true) (sym same)
      (ap (left_with sides d number) here ∙ sym (ap (left_with sides leaving number) (set_here d.endpoints number x end here)) ∙ subst (λ (j : ℕ). has_left sides leaving j ≡ true) same on))
      (λ (differs : i ≢ number). ap (left_with sides d i) (sym (set_there d.endpoints number i end differs)) ∙ on) (cases_eq i number)

  pub cancelled_asks : AsksIn sides member parts hand a v asks (accepted_cancel d number x) m wire
  cancelled_asks = record {
    stand = world.stand;
    records = regone leaving asks a.courses a.numbers (has_left sides d) (has_left sides leaving) v left_before (accepted_keeps_records d leaving asks a.courses a.numbers (has_left sides d) v keeps refl world.records);
    each = λ i u is.
        let b = was_one i u is.is.here in
        let f : HasCourse sides d i b.was (a.courses (32 * u.queue)) (a.numbers (32 * u.queue)) =
        subst (λ (j : ℕ). HasCourse sides d i b.was (a.courses (32 * j)) (a.numbers (32 * j))) b.queue (world.each i b.was (met_was i u is)) in
        let c : Course = a.courses (32 * u.queue) in
        record {
          queue = f.queue;
          endpoint = f.endpoint ∙ ap sides.endpoint b.desc;
          number = f.number;
          tail = f.tail ∙ ap (λ (z : Option Command). 32 * tail_block z (slice_get d.transfers (length d.transfers - 1)) i b.was.dummy) idle ∙ ap (λ (j : ℕ). 32 * j) b.dummy;
          count = f.count ∙ ap (λ (z : Bool). if z then suc (queue_in c).count else (queue_in c).count) (ap (λ (z : Option Command). is_publishing z (slice_get d.transfers (length d.transfers - 1)) i) idle);
          newest = λ next. absurd (false≢true next);
          next = λ going. sym b.next ∙ f.next (sym (b.told is.met.there.kept) ∙ going);
          ended = λ cause told. f.ended cause (sym (b.told is.met.there.kept) ∙ told);
          owed = λ j g at same. f.owed j g at (same ∙ sym b.queue);
        };
    asked = λ n u has there. let b = was_one (a.numbers n).endpoint u there in ap (λ (z : EpDesc). sides.asks z) (sym b.desc) ∙ world.asked n b.was has b.here_was;
    publishing = λ i u is next. absurd (false≢true next);
    read = λ i t u y is going next there.
        let b = was_one i u is.is.here in
        subst (λ (j : ℕ). IsReadTo hand parts (32 * j) (note_at d.notes) y ((a.numbers (32 * j)).requests.requests 0)) b.queue
        (world.read i t b.was y (met_was i u is) (sym (b.told is.met.there.kept) ∙ going) (b.next ∙ next) there);
    telling = λ i u is.
        let b = was_one i u is.is.here in
        let f : HasTelling d asks i b.was sides.whole v (a.numbers (32 * u.queue)) =
        subst (λ (j : ℕ). HasTelling d asks i b.was sides.whole v (a.numbers (32 * j))) b.queue (world.telling i b.was (met_was i u is)) in
        let waits : List ℕ = f.untold ++ first_of (a.numbers (32 * u.queue)).number (a.numbers (32 * u.queue)).requests.count in
        record {
          reported = f.reported;
          untold = f.untold;
          closed = f.closed;
          going = λ none. f.going (sym (b.told is.met.there.kept) ∙ none);
          uncancelled = ap (λ (z : EpDesc). has_cancel (lines_in z.name d.reports)) (sym b.desc) ∙ f.uncancelled;
          telling = subst (λ (z : EpDesc). IsTelling leaving asks i z.name (sides.whole z.name) v f.reported waits) b.desc
              (record { numbers = f.telling.numbers; told = f.telling.told; wait = f.telling.wait });
        };
    given = λ i u is.
        let b = was_one i u is.here in
        subst (IsGiven sides) b.desc (world.given i b.was (record { here = b.here_was; control = ap (λ (z : EpDesc). sides.asks z) b.desc ∙ is.control }));
    counts = λ i u is off.
        let b = was_one i u is.here in
        let f = world.counts i b.was (record { here = b.here_was; control = ap (λ (z : EpDesc). sides.asks z) b.desc ∙ is.control }) (ap (λ (z : Option Command). opens z b.was.queue && not b.was.gone) idle) in
        record { device = f.device; is = ap (λ (z : EpDesc). control_of wire z.name.addr z.name.num) (sym b.desc) ∙ f.is; acted = f.acted };
    unopened = λ addr num c least none first.
        world.unopened addr num c least
        (λ i z there one two.
        absurd (false≢true
        (⊎_elim {C = false ≡ true} (λ (at : i ≡ number).
        let is : z ≡ x = same_Some z x (sym there ∙ ap (slice_get d.endpoints) at ∙ here) in
        none number end (set_here d.endpoints number x end here) (ap (λ (w : Endpoint). w.desc.name.addr) (sym is) ∙ one) (ap (λ (w : Endpoint). w.desc.name.num) (sym is) ∙ two))
        (λ (differs : i ≢ number). none i z (set_there d.endpoints number i end differs ∙ there) one two) (cases_eq i number)))) first;
    untold = λ name unnamed.
        world.untold name
        (λ i z there named.
        absurd (false≢true
        (⊎_elim {C = false ≡ true} (λ (at : i ≡ number).
        let is : z ≡ x = same_Some z x (sym there ∙ ap (slice_get d.endpoints) at ∙ here) in
        unnamed number end (set_here d.endpoints number x end here) (ap (λ (w : Endpoint). w.desc.name) (sym is) ∙ named))
        (λ (differs : i ≢ number). unnamed i z (set_there d.endpoints number i end differs ∙ there) named) (cases_eq i number))));
    unmissed = record { structures = world.unmissed.structures; in_hand = world.unmissed.in_hand; first = tt };
  }
