-- What a row of the driver that accepts nothing and harvests nothing leaves of a world with the requests of its control endpoints.
use Rattle.std.proofs.Common.{◌≡◌, ◌≢◌, ℕ, suc, ◌-◌, ◌*◌, ◌++◌, Bool, true, false, if◌then◌else◌, List, length, slice_get, Option, Some, None, ap, refl, sym, subst, ◌∙◌}
use Rattle.std.proofs.lemmas.Bool.{false≢true}
use Rattle.std.proofs.lemmas.Option.{same_Some}
use Rattle.usb_base.specs.declared.endpoints.EpDesc.{EpDesc}
use Rattle.usb_base.specs.declared.endpoints.EpName.{EpName}
use Rattle.bus_wire.specs.Bus.{Fixed}
use Rattle.drv_table.specs.declared.content.Command.{Command}
use Rattle.drv_table.specs.declared.content.Endpoint.{Endpoint}
use Rattle.drv_table.specs.declared.content.Mend.{Mend}
use Rattle.drv_table.specs.declared.content.Transfer.{Transfer}
use Rattle.drv_table.specs.DriverContent.{DriverContent}
use Rattle.drv_table.specs.Harvests.{note_at}
use Rattle.drv_table.specs.Parts.{Parts}
use Rattle.law_driver.specs.endpoint_lives.Lives.{told_end, may_meet}
use Rattle.law_queues.specs.told_endpoints.Telling.{lines_in}
use Rattle.law_reports.specs.requests.told_requests.Told.{has_cancel}
use Rattle.claims_report.specs.Requests.{Request}
use Rattle.law_devices.specs.ring_requests.Runs.{first_of}
use Rattle.law_devices.specs.Controls.{control_of}
use Rattle.bus_world.specs.World.{World, with_parts}
use Rattle.law_world.specs.steps.Streaming.{Standing}
use Rattle.claims_world.specs.Requests.{wired, Windows, numbers_of, is_opening}
use Rattle.law_reports.specs.requests.Courses.{Course, queue_in, CoursesStand, have_queues}
use Rattle.law_reports.specs.requests.Records.{Numbers, AreRecords}
use Rattle.law_reports.specs.requests.Counts.{counted_all}
use Rattle.law_reports.specs.requests.Telling.{IsTelling}
use Rattle.law_queues.specs.standing_fronts.Tails.{tail_block, tail_of}
use Rattle.law_reports.specs.requests.Asking.{Sides, IsGiven, Asking, has_left, is_publishing, is_next_of, HasCourse, IsReadTo, HasTelling, IsCounted, IsUnopened, IsUnheard, IsControlOf, IsMetControl, IsAskingWorld}
use Rattle.law_reports.specs.requests.Missed.{NoneMissed, MissesNone, PublishesNoneBy, PublishesNone}
use Rattle.law_reports.proofs.lemmas.requests.Missed.{none_published, open_published, unlink_published, narrow_unmissed, narrow_misses}
use Rattle.drv_table.specs.declared.content.Command.TheVariants as unfinished

-- ---- no transfer is being published

pub record IsQuiet (d : DriverContent) : Type 0 where
  pub none : (e : ℕ) → is_next_of d e ≡ false
  pub tail : (e : ℕ) (x : Endpoint) → tail_of d e x ≡ 32 * x.dummy
  pub first : PublishesNone d

module _ (d : DriverContent) where
  abbrev newest : Option Transfer
  newest = slice_get d.transfers (length d.transfers - 1)

  pub idle_quiet : d.command ≡ None → IsQuiet d
  idle_quiet is = record {
    none = λ e. ap (λ (c : Option Command). is_publishing c newest e) is;
    tail = λ e x. ap (λ (c : Option Command). 32 * tail_block c newest e x.dummy) is;
    first = none_published d is;
  }

  pub open_quiet : (b : ℕ) → d.command ≡ Some (unfinished.Open b) → IsQuiet d
  open_quiet b is = record {
    none = λ e. ap (λ (c : Option Command). is_publishing c newest e) is;
    tail = λ e x. ap (λ (c : Option Command). 32 * tail_block c newest e x.dummy) is;
    first = open_published d b is;
  }

  pub unlink_quiet : (e b link : ℕ) → d.command ≡ Some (unfinished.Unlink e b link) → IsQuiet d
  unlink_quiet f b link is = record {
    none = λ e. ap (λ (c : Option Command). is_publishing c newest e) is;
    tail = λ e x. ap (λ (c : Option Command). 32 * tail_block c newest e x.dummy) is;
    first = unlink_published d f b link is;
  }

  -- of frames
  pub chain_quiet : d.command ≡ Some unfinished.Chain → IsQuiet d
  chain_quiet is = record {
    none = λ e. ap (λ (c : Option Command). is_publishing c newest e) is;
    tail = λ e x. ap (λ (c : Option Command). 32 * tail_block c newest e x.dummy) is;
    first = subst (PublishesNoneBy d.made) (sym is) tt;
  }

  pub iso_quiet : (e t count : ℕ) → d.command ≡ Some (unfinished.Iso e t count) → IsQuiet d
  iso_quiet f t count is = record {
    none = λ e. ap (λ (c : Option Command). is_publishing c newest e) is;
    tail = λ e x. ap (λ (c : Option Command). 32 * tail_block c newest e x.dummy) is;
    first = subst (PublishesNoneBy d.made) (sym is) tt;
  }

  pub unchain_quiet : (e : ℕ) → d.command ≡ Some (unfinished.Unchain e) → IsQuiet d
  unchain_quiet f is = record {
    none = λ e. ap (λ (c : Option Command). is_publishing c newest e) is;
    tail = λ e x. ap (λ (c : Option Command). 32 * tail_block c newest e x.dummy) is;
    first = subst (PublishesNoneBy d.made) (sym is) tt;
  }

-- ---- endpoints

pub record WasEndpoint (d : DriverContent) (e : ℕ) (x : Endpoint) : Type 0 where
  pub was : Endpoint
  pub here : slice_get d.endpoints e ≡ Some was
  pub desc : was.desc ≡ x.desc
  pub queue : was.queue ≡ x.queue
  pub dummy : was.dummy ≡ x.dummy
  pub next : was.next ≡ x.next
  pub cancelled : was.cancelled ≡ x.cancelled
  -- what its report has of its end changes where it is given back
  pub ended : x.gone ≡ false → told_end was ≡ told_end x
  pub kept : x.gone ≡ false → was.gone ≡ false

unfoldable pub same_endpoint : (d c : DriverContent) → c.endpoints ≡ d.endpoints → (e : ℕ) (x : Endpoint) → slice_get c.endpoints e ≡ Some x
    → WasEndpoint d e x
same_endpoint d c same e x here = record {
  was = x;
  here = sym (ap (λ (xs : List Endpoint). slice_get xs e) same) ∙ here;
  desc = refl;
  queue = refl;
  dummy = refl;
  next = refl;
  cancelled = refl;
  ended = λ held. refl;
  kept = λ is. is;
}

pub record IsEndpointStill (c : DriverContent) (e : ℕ) (x : Endpoint) : Type 0 where
  pub now : Endpoint
  pub here : slice_get c.endpoints e ≡ Some now
  pub desc : now.desc ≡ x.desc
  pub queue : now.queue ≡ x.queue

pub record RowLeaves (d c : DriverContent) : Type 0 where
  pub quiet : IsQuiet d
  pub quiet_now : IsQuiet c
  pub was : (e : ℕ) (x : Endpoint) → slice_get c.endpoints e ≡ Some x → WasEndpoint d e x
  pub still : (e : ℕ) (x : Endpoint) → slice_get d.endpoints e ≡ Some x → IsEndpointStill c e x
  pub opening : (e : ℕ) (x : Endpoint) → (here : slice_get c.endpoints e ≡ Some x) → is_opening c x ≡ is_opening d (was e x here).was
  pub linked : (b : ℕ) → c.command ≢ Some (unfinished.Open b) → d.command ≢ Some (unfinished.Open b)
  pub near : (e : ℕ) (x : Endpoint) → (here : slice_get c.endpoints e ≡ Some x) → may_meet c e x ≡ true
      → may_meet d e (was e x here).was ≡ true
  pub mends : (i : ℕ) (m : Mend) → slice_get c.mends i ≡ Some m → (j : ℕ) × slice_get d.mends j ≡ Some m
  pub numbers : (e : ℕ) → numbers_of c e ≡ numbers_of d e

module _ (g : Sides) (d c : DriverContent) (k : RowLeaves d c) where
  pub was_control : (e : ℕ) (x : Endpoint) → (m : IsControlOf g c e x) → IsControlOf g d e (k.was e x m.here).was
  was_control e x m = record { here = (k.was e x m.here).here; control = ap (λ (y : EpDesc). g.asks y) (k.was e x m.here).desc ∙ m.control }

  pub was_met : (e : ℕ) (x : Endpoint) → (m : IsMetControl g c e x) → IsMetControl g d e (k.was e x m.is.here).was
  was_met e x m = record {
    is = was_control e x m.is;
    met = record {
      there = record {
        linked = λ opening. k.linked x.queue m.met.there.linked (opening ∙ ap (λ (b : ℕ). Some (unfinished.Open b)) (k.was e x m.is.here).queue);
        kept = (k.was e x m.is.here).kept m.met.there.kept;
      };
      near = k.near e x m.is.here m.met.near;
    };
  }

  pub course_was : (e : ℕ) (x : Endpoint) (q : Course) (a : Numbers) → (here : slice_get c.endpoints e ≡ Some x) → x.gone ≡ false
      → HasCourse g d e (k.was e x here).was q a → HasCourse g c e x q a
  course_was e x q a here held h =
      let y = k.was e x here in
      record {
        queue = h.queue;
        endpoint = h.endpoint ∙ ap g.endpoint y.desc;
        number = h.number;
        tail = h.tail ∙ k.quiet.tail e y.was ∙ ap (λ (b : ℕ). 32 * b) y.dummy ∙ sym (k.quiet_now.tail e x);
        count = h.count ∙ ap (λ (b : Bool). if b then suc (queue_in q).count else (queue_in q).count) (k.quiet.none e ∙ sym (k.quiet_now.none e));
        newest = λ on. absurd (false≢true (sym (k.quiet_now.none e) ∙ on));
        next = λ none. sym y.next ∙ h.next (y.ended held ∙ none);
        ended = λ cause is. h.ended cause (y.ended held ∙ is);
        owed = λ i m at same. let j = k.mends i m at in h.owed j.0 m j.1 (same ∙ sym y.queue);
      }

  -- the same one is being opened
  opening_was : (e : ℕ) (z : Endpoint) → (here : slice_get d.endpoints e ≡ Some z) → is_opening d z ≡ is_opening c (k.still e z here).now
  opening_was e z here =
      let y = k.still e z here in
      let b : WasEndpoint d e y.now = k.was e y.now y.here in
      ap (is_opening d) (same_Some z b.was (sym here ∙ b.here)) ∙ sym (k.opening e y.now y.here)

  unopened_was : (addr num : ℕ) → IsUnopened c addr num → IsUnopened d addr num
  unopened_was addr num u e z here same one =
      let y = k.still e z here in
      opening_was e z here ∙ u e y.now y.here (ap (λ (t : EpDesc). t.name.addr) y.desc ∙ same) (ap (λ (t : EpDesc). t.name.num) y.desc ∙ one)

  unheard_was : (name : EpName) → IsUnheard c name → IsUnheard d name
  unheard_was name u e x here same = let y = k.still e x here in opening_was e x here ∙ u e y.now y.here (ap (λ (t : EpDesc). t.name) y.desc ∙ same)

-- ---- what is recorded of those that are gone

-- ---- the world

pub record LinesLeave (d c : DriverContent) (asks : ℕ → Request) (v : Windows) (e : ℕ) (name : EpName) (whole : Request → List ℕ) : Type 0 where
  pub lines : lines_in name c.reports ≡ lines_in name d.reports
  pub telling : (reported waits : List ℕ) → IsTelling d asks e name whole v reported waits → IsTelling c asks e name whole v reported waits

module _ (g : Sides) (fixed : Fixed) (member : ℕ → Bool) (s : Standing) (a : Asking) (v : Windows) (asks : ℕ → Request) (w : World)
    (q : Parts) (k : RowLeaves w.driver q.driver) (z : IsAskingWorld g fixed member s a v asks w) where
  module _ (tells : (e : ℕ) (x : Endpoint) → IsMetControl g q.driver e x → LinesLeave w.driver q.driver asks v e x.desc.name (g.whole x.desc.name))
      (lines : (name : EpName) → IsUnheard q.driver name → lines_in name q.driver.reports ≡ lines_in name w.driver.reports) where
    tells_still : (e : ℕ) (x : Endpoint) → (m : IsMetControl g q.driver e x)
        → HasTelling q.driver asks e x g.whole v (a.numbers (32 * x.queue))
    tells_still e x m =
        let y = k.was e x m.is.here in
        let h : HasTelling w.driver asks e y.was g.whole v (a.numbers (32 * x.queue)) =
        subst (λ (b : ℕ). HasTelling w.driver asks e y.was g.whole v (a.numbers (32 * b))) y.queue (z.telling e y.was (was_met g w.driver q.driver k e x m)) in
        let l : LinesLeave w.driver q.driver asks v e x.desc.name (g.whole x.desc.name) = tells e x m in
        record {
          reported = h.reported;
          untold = h.untold;
          closed = h.closed;
          going = λ none. h.going (y.ended m.met.there.kept ∙ none);
          uncancelled = ap has_cancel l.lines ∙ ap (λ (t : EpDesc). has_cancel (lines_in t.name w.driver.reports)) (sym y.desc) ∙ h.uncancelled;
          telling =
              l.telling h.reported (h.untold ++ first_of (a.numbers (32 * x.queue)).number (a.numbers (32 * x.queue)).requests.count)
              (subst (λ (t : EpDesc). IsTelling w.driver asks e t.name (g.whole t.name) v h.reported (h.untold ++ first_of (a.numbers (32 * x.queue)).number (a.numbers (32 * x.queue)).requests.count)) y.desc h.telling);
        }

    counts_still : (e : ℕ) (x : Endpoint) → IsControlOf g q.driver e x → is_opening q.driver x ≡ false
        → IsCounted fixed (with_parts w q) v e x
    counts_still e x m off =
        let y = k.was e x m.here in
        let c = z.counts e y.was (was_control g w.driver q.driver k e x m) (sym (k.opening e x m.here) ∙ off) in
        record {
          device = c.device;
          is = ap (λ (t : EpDesc). control_of (wired fixed w) t.name.addr t.name.num) (sym y.desc) ∙ c.is;
          acted = c.acted ∙ ap (λ (ts : List ℕ). counted_all v ts 0) (sym (k.numbers e));
        }

    -- of the queues and of what is read it is told apart
    pub world_left : (wider : ℕ → Bool) (later : Standing) (courses : ℕ → Course)
        → ((n : ℕ) → have_queues courses n ≡ true → have_queues a.courses n ≡ true)
        → NoneMissed (have_queues a.courses) later.parts → MissesNone (have_queues a.courses) later.hand
        → CoursesStand control_of wider courses later.parts later.hand (wired fixed w)
        → AreRecords q.driver asks courses a.numbers (has_left g q.driver) v
        → ((e : ℕ) (x : Endpoint) → IsMetControl g q.driver e x → HasCourse g q.driver e x (courses (32 * x.queue)) (a.numbers (32 * x.queue)))
        → ((e t : ℕ) (x : Endpoint) (y : Transfer) → IsMetControl g q.driver e x → told_end x ≡ None → x.next ≡ Some t → slice_get q.driver.transfers t ≡ Some y
        → IsReadTo later.hand later.parts (32 * x.queue) (note_at q.driver.notes) y ((a.numbers (32 * x.queue)).requests.requests 0))
        → IsAskingWorld g fixed wider later (record { courses = courses; numbers = a.numbers }) v asks (with_parts w q)
    world_left wider later courses had none none_held stand records each read = record {
      stand = stand;
      records = records;
      each = each;
      asked = λ n y has here.
          let b : WasEndpoint w.driver (a.numbers n).endpoint y = k.was (a.numbers n).endpoint y here in
          subst (λ (t : EpDesc). g.asks t ≡ true) b.desc (z.asked n b.was (had n has) b.here);
      publishing = λ e x m next. absurd (false≢true (sym (k.quiet_now.none e) ∙ next));
      read = read;
      telling = tells_still;
      given = λ e x m. subst (IsGiven g) (k.was e x m.here).desc (z.given e (k.was e x m.here).was (was_control g w.driver q.driver k e x m));
      counts = counts_still;
      unopened = λ addr num c some u first. z.unopened addr num c some (unopened_was g w.driver q.driver k addr num u) first;
      untold = λ name u. lines name u ∙ z.untold name (unheard_was g w.driver q.driver k name u);
      unmissed = record {
        structures = narrow_unmissed (have_queues a.courses) (have_queues courses) later.parts had none;
        in_hand = narrow_misses (have_queues a.courses) (have_queues courses) later.hand had none_held;
        first = k.quiet_now.first;
      };
    }

  -- the same queues
  pub each_still : (e : ℕ) (x : Endpoint) → IsMetControl g q.driver e x
      → HasCourse g q.driver e x (a.courses (32 * x.queue)) (a.numbers (32 * x.queue))
  each_still e x m =
      let y = k.was e x m.is.here in
      course_was g w.driver q.driver k e x (a.courses (32 * x.queue)) (a.numbers (32 * x.queue)) m.is.here m.met.there.kept
      (subst (λ (b : ℕ). HasCourse g w.driver e y.was (a.courses (32 * b)) (a.numbers (32 * b))) y.queue (z.each e y.was (was_met g w.driver q.driver k e x m)))
