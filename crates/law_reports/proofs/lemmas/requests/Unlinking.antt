-- The store by which a cancelled endpoint's queue head leaves the ring leaves the queues of all control endpoints as they stand: the walk may still meet it.
use Rattle.std.proofs.Common.{[], ◌≡◌, ◌≢◌, ℕ, ◌*◌, ◌||◌, ◌&&◌, not, ◌++◌, Bool, true, false, ◌∷◌, slice_get, Option, Some, None, ap, refl, sym, subst, ◌∙◌, ⊎_elim}
use Rattle.std.proofs.lemmas.Bool.{cases_eq, false≢true}
use Rattle.std.proofs.lemmas.Option.{same_Some}
use Rattle.law_reports.proofs.Common.{regone}
use Rattle.bus_wire.specs.Bus.{Fixed}
use Rattle.drv_table.specs.declared.content.Command.{Command}
use Rattle.drv_table.specs.declared.content.Endpoint.{Endpoint}
use Rattle.drv_table.specs.declared.content.Transfer.{Transfer}
use Rattle.drv_table.specs.declared.rows.DriverRow.{DriverRow}
use Rattle.drv_table.specs.DriverContent.{DriverContent}
use Rattle.drv_table.specs.Harvests.{note_at}
use Rattle.drv_table.specs.Parts.{Parts}
use Rattle.drv_table.specs.Rows.{driver_row}
use Rattle.drv_table.specs.Words.{to_queue_head}
use Rattle.law_driver.specs.endpoint_lives.Lives.{is_one_of, told_end, may_meet}
use Rattle.law_driver.proofs.lemmas.endpoint_lives.Lives.{one_of_end, one_of_others}
use Rattle.claims_report.specs.Requests.{Request}
use Rattle.law_devices.specs.Controls.{control_of}
use Rattle.law_driver_ring.proofs.lemmas.told_harvests.Keeping.{spared_is_done}
use Rattle.law_world.specs.steps.unlinked_streams.Unlinks.{IsAtUnlink, driver_then, IsUnlinked}
use Rattle.law_world.proofs.lemmas.steps.lemmas.unlinked_streams.Passing.{unlink_row}
use Rattle.law_world.proofs.lemmas.steps.lemmas.unlinked_streams.Streams.{unlink_spares_heads, unlink_spares_elements, unlink_spares_hand}
use Rattle.bus_world.specs.World.{World, driver_parts}
use Rattle.law_world.specs.steps.Streaming.{Standing}
use Rattle.claims_world.specs.Requests.{wired, Windows, opens}
use Rattle.law_reports.specs.requests.driver_requests.Rows.{given_by, KeepsEndpoint}
use Rattle.law_reports.specs.requests.Courses.{CoursesStand, have_queues}
use Rattle.law_reports.proofs.lemmas.requests.Writing.{link_spares}
use Rattle.law_reports.specs.requests.Records.{AreRecords}
use Rattle.law_reports.proofs.lemmas.requests.Rows.{row_keeps_records}
use Rattle.law_world.specs.streams.Leaving.{unlinked}
use Rattle.law_reports.specs.requests.Asking.{Sides, Asking, left_with, has_left, IsMetControl, IsReadTo, IsAskingWorld, AsksIn}
use Rattle.law_reports.proofs.lemmas.requests.Leaving.{idle_quiet, unlink_quiet, WasEndpoint, IsEndpointStill, RowLeaves, was_met, each_still, world_left}
use Rattle.law_reports.proofs.lemmas.requests.Missed.{writing_misses_none, linked_unmissed}
use Rattle.law_structures.specs.lent_structures.Structures.{QueueHead}
use Rattle.word_mem.specs.Memory.{Mem}
use Rattle.drv_table.specs.declared.content.Command.TheVariants as unfinished

module _ (g : Sides) (fixed : Fixed) (member : ℕ → Bool) (s : Standing) (a : Asking) (v : Windows) (asks : ℕ → Request) (w : World)
    (z : IsAskingWorld g fixed member s a v asks w) (at : IsAtUnlink w.driver member s.parts) (more : Mem) where
  abbrev f : ℕ
  f = at.number

  abbrev own : Endpoint
  own = at.endpoint

  abbrev new : DriverContent
  new = driver_then w.driver at.number at.endpoint

  row : IsUnlinked (driver_parts w) at.number at.endpoint at.before at.after
  row = unlink_row (driver_parts w) member s.parts at

  left_now : slice_get new.endpoints f ≡ Some (record own { linked = false })
  left_now = subst (λ (c : DriverContent). slice_get c.endpoints f ≡ Some (record own { linked = false })) row.driver row.left

  others_now : (e : ℕ) → e ≢ f → slice_get new.endpoints e ≡ slice_get w.driver.endpoints e
  others_now = subst (λ (c : DriverContent). (e : ℕ) → e ≢ f → slice_get c.endpoints e ≡ slice_get w.driver.endpoints e) row.driver row.others

  was_one : (e : ℕ) (y : Endpoint) → slice_get new.endpoints e ≡ Some y → WasEndpoint w.driver e y
  was_one e y here =
      ⊎_elim {C = WasEndpoint w.driver e y}
      (λ (same : e ≡ f).
      let is : record own { linked = false } ≡ y = same_Some (record own { linked = false }) y (sym left_now ∙ ap (slice_get new.endpoints) (sym same) ∙ here) in
      record {
        was = own;
        here = ap (slice_get w.driver.endpoints) same ∙ at.here;
        desc = ap (λ (t : Endpoint). t.desc) is;
        queue = ap (λ (t : Endpoint). t.queue) is;
        dummy = ap (λ (t : Endpoint). t.dummy) is;
        next = ap (λ (t : Endpoint). t.next) is;
        cancelled = ap (λ (t : Endpoint). t.cancelled) is;
        ended = λ held. ap told_end is;
        kept = λ held. ap (λ (t : Endpoint). t.gone) is ∙ held;
      })
      (λ (differs : e ≢ f).
      record { was = y; here = sym (others_now e differs) ∙ here; desc = refl; queue = refl; dummy = refl; next = refl; cancelled = refl; ended = λ held. refl; kept = λ held. held })
      (cases_eq e f)

  still_one : (e : ℕ) (y : Endpoint) → slice_get w.driver.endpoints e ≡ Some y → IsEndpointStill new e y
  still_one e y here =
      ⊎_elim {C = IsEndpointStill new e y}
      (λ (same : e ≡ f).
      let is : own ≡ y = same_Some own y (sym at.here ∙ ap (slice_get w.driver.endpoints) (sym same) ∙ here) in
      record { now = record own { linked = false }; here = ap (slice_get new.endpoints) same ∙ left_now; desc = ap (λ (t : Endpoint). t.desc) is; queue = ap (λ (t : Endpoint). t.queue) is })
      (λ (differs : e ≢ f). record { now = y; here = others_now e differs ∙ here; desc = refl; queue = refl }) (cases_eq e f)

  -- the walk may meet the same queue heads
  near_same : (e : ℕ) (y t : Endpoint) → slice_get new.endpoints e ≡ Some y → slice_get w.driver.endpoints e ≡ Some t
      → may_meet new e y ≡ may_meet w.driver e t
  near_same e y t here there =
      ⊎_elim {C = may_meet new e y ≡ may_meet w.driver e t}
      (λ (same : e ≡ f).
      let is : record own { linked = false } ≡ y = same_Some (record own { linked = false }) y (sym left_now ∙ ap (slice_get new.endpoints) (sym same) ∙ here) in
      let one : own ≡ t = same_Some own t (sym at.here ∙ ap (slice_get w.driver.endpoints) (sym same) ∙ there) in
      let waits : is_one_of e (w.driver.waiting ++ f ∷ []) ≡ true = subst (λ (i : ℕ). is_one_of e (w.driver.waiting ++ i ∷ []) ≡ true) same (one_of_end e w.driver.waiting) in
      ap (may_meet new e) (sym is) ∙ ap (λ (b : Bool). false || (b || is_one_of e w.driver.rung)) waits
      ∙ sym (ap (λ (b : Bool). b || (is_one_of e w.driver.waiting || is_one_of e w.driver.rung)) (ap (λ (i : Endpoint). i.linked) (sym one) ∙ at.linked)))
      (λ (differs : e ≢ f).
      let one : t ≡ y = same_Some t y (sym there ∙ sym (others_now e differs) ∙ here) in
      ap (λ (b : Bool). y.linked || (b || is_one_of e w.driver.rung)) (one_of_others e f w.driver.waiting differs) ∙ ap (may_meet w.driver e) (sym one)) (cases_eq e f)

  no_open : (b : ℕ) → w.driver.command ≡ Some (unfinished.Open b) → ⊥
  no_open b is = let never : ◌≡◌ {A = Option Command} (Some (unfinished.Unlink f at.before _)) (Some (unfinished.Open b)) = sym at.command ∙ is in cc

  leaves : RowLeaves w.driver new
  leaves = record {
    quiet = unlink_quiet w.driver f at.before _ at.command;
    quiet_now = idle_quiet new refl;
    was = was_one;
    still = still_one;
    opening = λ e y here. sym (ap (λ (c : Option Command). opens c (was_one e y here).was.queue && not (was_one e y here).was.gone) at.command);
    linked = λ b off is. no_open b is;
    near = λ e y here on. sym (near_same e y (was_one e y here).was here (was_one e y here).here) ∙ on;
    mends = λ i m there. (i, there);
    numbers = λ e. refl;
  }

  -- ---- what is recorded

  left_by : (e : ℕ) (o : Option Endpoint) → slice_get new.endpoints e ≡ o → left_with g new e o ≡ true → has_left g w.driver e ≡ true
  left_by e None is on = absurd (false≢true on)
  left_by e (Some y) is on =
      let t = was_one e y is in
      ap (left_with g w.driver e) t.here
      ∙ ap (λ (b : Bool). b && not (may_meet w.driver e t.was)) (ap (λ (i : _). g.asks i) t.desc) ∙ ap (λ (b : Bool). g.asks y.desc && not b) (sym (near_same e y t.was is t.here)) ∙ on

  recorded : AreRecords new asks a.courses a.numbers (has_left g new) v
  recorded =
      regone new asks a.courses a.numbers (has_left g w.driver) (has_left g new) v (λ e on. left_by e (slice_get new.endpoints e) refl on)
      (subst (λ (c : DriverContent). AreRecords c asks a.courses a.numbers (has_left g w.driver) v) row.driver
      (row_keeps_records (driver_parts w) (driver_row (driver_parts w)) asks a.courses a.numbers (has_left g w.driver) v
      (λ j has. subst (λ (r : DriverRow). KeepsEndpoint r (a.numbers j).endpoint) (sym row.row) tt)
      (λ j i has few given. let never : ◌≡◌ {A = Option ℕ} None (Some ((a.numbers j).number i)) = ap given_by (sym row.row) ∙ given in cc) z.records))

  -- ---- the queues

  stand : CoursesStand control_of member a.courses (unlinked s at).parts (unlinked s at).hand (wired fixed w)
  stand = link_spares control_of member a.courses s.parts s.hand (wired fixed w) (32 * at.before) at.queue (to_queue_head at.after) at.head z.stand

  reads : (e t : ℕ) (y : Endpoint) (tr : Transfer) → IsMetControl g new e y → told_end y ≡ None → y.next ≡ Some t
      → slice_get w.driver.transfers t ≡ Some tr
      → IsReadTo (unlinked s at).hand (unlinked s at).parts (32 * y.queue) (note_at w.driver.notes) tr ((a.numbers (32 * y.queue)).requests.requests 0)
  unfolding was_one leaves
  reads e t y tr m going next there =
      let i = was_one e y m.is.here in
      let r : IsReadTo s.hand s.parts (32 * y.queue) (note_at w.driver.notes) tr ((a.numbers (32 * y.queue)).requests.requests 0) =
      subst (λ (b : ℕ). IsReadTo s.hand s.parts (32 * b) (note_at w.driver.notes) tr ((a.numbers (32 * b)).requests.requests 0)) i.queue
      (z.read e t i.was tr (was_met g w.driver new leaves e y m) (i.ended m.met.there.kept ∙ going) (i.next ∙ next) there) in
      record {
        setup = r.setup;
        data_at = λ has one.
            let d = r.data_at has one in
            record {
              bytes = d.bytes;
              done =
                  spared_is_done s.hand (unlinked s at).hand s.parts (unlinked s at).parts (32 * y.queue) _ _ d.bytes (unlink_spares_hand s.hand w.driver member s.parts at)
                  (unlink_spares_heads w.driver member s.parts at (32 * y.queue)) (unlink_spares_elements w.driver member s.parts at (32 * y.queue) _) d.done;
            };
        rest = r.rest;
      }

  -- ---- the world

  abbrev parts_now : Parts
  parts_now = record { driver = new; registers = w.registers; memory = more }

  pub unlinked_asks : AsksIn g member (unlinked s at).parts (unlinked s at).hand (record { courses = a.courses; numbers = a.numbers }) v asks (driver_then w.driver at.number at.endpoint) more (wired fixed w)
  unlinked_asks =
      world_left g fixed member s a v asks w parts_now leaves z (λ e y c. record { lines = refl; telling = λ reported waits t. record { numbers = t.numbers; told = t.told; wait = t.wait } }) (λ name u. refl)
      member (unlinked s at) a.courses (λ j has. has)
      (writing_misses_none (have_queues a.courses) s.parts (32 * at.before) (32 * at.before) (QueueHead (record at.queue { link = to_queue_head at.after })) (λ on. z.unmissed.structures.heads (32 * at.before) at.queue on at.head)
      z.unmissed.structures)
      (linked_unmissed (have_queues a.courses) (32 * at.before) (to_queue_head at.after) s.hand z.unmissed.in_hand) stand recorded (each_still g fixed member s a v asks w parts_now leaves z) reads
