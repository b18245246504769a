-- Once Async Advance is cleared no more is told of the queues of the control endpoints that have left the ring.
use Rattle.std.proofs.Common.{[], ◌≡◌, ℕ, ◌*◌, ◌&&◌, not, ◌++◌, if◌then◌else◌, Bool, true, false, slice_get, Option, Some, None, ap, refl, sym, subst, ◌∙◌, ⊎_elim, inl, inr}
use Rattle.std.specs.Prelude.{◌⊎◌}
use Rattle.std.proofs.lemmas.Bool.{false≢true}
use Rattle.law_common.proofs.Booleans.{first_of_both, less_met, is_left}
use Rattle.bus_wire.specs.Bus.{Fixed}
use Rattle.drv_table.specs.declared.content.Endpoint.{Endpoint}
use Rattle.drv_table.specs.declared.content.Transfer.{Transfer}
use Rattle.drv_table.specs.DriverContent.{DriverContent}
use Rattle.drv_table.specs.Harvests.{note_at}
use Rattle.drv_table.specs.Parts.{Parts}
use Rattle.drv_table.specs.Words.{head_block}
use Rattle.law_driver.specs.endpoint_lives.Lives.{told_end, may_meet}
use Rattle.law_driver_ring.specs.fed_queues.Places.{IsMet, HasHead, AreMet}
use Rattle.law_queues.proofs.lemmas.leaving_drivers.Unmet.{gone_are_unmet}
use Rattle.claims_report.specs.Requests.{Request}
use Rattle.law_ring.specs.Stores.{IsWider}
use Rattle.law_devices.specs.Controls.{control_of}
use Rattle.bus_world.specs.World.{World, driver_parts}
use Rattle.law_world.specs.steps.Streaming.{Streams, Standing}
use Rattle.claims_world.specs.Requests.{wired, Windows}
use Rattle.law_reports.specs.requests.Courses.{NoQueue, CoursesStand}
use Rattle.law_reports.specs.requests.Records.{AreRecords}
use Rattle.law_reports.proofs.lemmas.requests.Rows.{row_keeps_records}
use Rattle.law_reports.specs.requests.Asking.{Sides, Asking, left_with, has_left, HasCourse, IsMetControl, IsReadTo, IsAskingWorld, AsksIn}
use Rattle.law_reports.specs.requests.Narrowing.{courses_met, HadQueue, HaveGone}
use Rattle.law_reports.proofs.lemmas.requests.Narrowing.{courses_are_met, records_are_met, had}
use Rattle.law_reports.proofs.lemmas.requests.Leaving.{idle_quiet, same_endpoint, RowLeaves, each_still, world_left}
use Rattle.law_reports.specs.requests.Footing.{IsFooting}
use Rattle.word_mem.specs.Memory.{Mem}
use Rattle.drv_table.specs.declared.content.Bell.TheVariants as bells
use Rattle.drv_table.specs.declared.content.Turn.TheVariants as turns
use Rattle.drv_table.specs.declared.rows.DriverRow.TheVariants as rows

abbrev pub cleared : DriverContent → DriverContent
cleared d = record d { cleared = d.cleared ++ d.rung; rung = []; bell = bells.Quiet; turn = turns.Harvest }

not_both : (a b : Bool) → (a && not b) ≡ true → b ≡ false → a ≡ true
not_both true b on off = refl
not_both false b on off = absurd (false≢true on)

module _ (g : Sides) (fixed : Fixed) (member : ℕ → Bool) (x : Streams) (s : Standing) (a : Asking) (v : Windows) (asks : ℕ → Request)
    (w : World) (k : IsFooting member x s w) (z : IsAskingWorld g fixed member s a v asks w)
    (narrow : ℕ → Bool) (met : AreMet (cleared w.driver) narrow) (idle : w.driver.command ≡ None) (more : Mem) where
  near : (e : ℕ) (y : Endpoint) → may_meet (cleared w.driver) e y ≡ true → may_meet w.driver e y ≡ true
  near e y on = less_met y.linked _ _ on

  leaves : RowLeaves w.driver (cleared w.driver)
  unfolding same_endpoint
  leaves = record {
    quiet = idle_quiet w.driver idle;
    quiet_now = idle_quiet (cleared w.driver) idle;
    was = same_endpoint w.driver (cleared w.driver) refl;
    still = λ e y here. record { now = y; here = here; desc = refl; queue = refl };
    opening = λ e y here. refl;
    linked = λ b off. off;
    near = λ e y here on. near e y on;
    mends = λ i m at. (i, at);
    numbers = λ e. refl;
  }

  met_was : (e : ℕ) (y : Endpoint) → IsMet (cleared w.driver) e y → IsMet w.driver e y
  met_was e y m = record { there = record { linked = m.there.linked; kept = m.there.kept }; near = near e y m.near }

  wider : IsWider narrow member
  wider n on =
      ⊎_elim {C = member n ≡ true} (λ (at : n ≡ 32 * head_block). ap member at ∙ k.queues.met.head)
      (λ (h : HasHead (cleared w.driver) n). ap member h.at ∙ k.queues.met.each h.number h.endpoint h.here (met_was h.number h.endpoint h.met)) (met.only n on)

  stand : CoursesStand control_of narrow (courses_met narrow a.courses) s.parts s.hand (wired fixed w)
  stand = courses_are_met control_of member narrow a.courses s.parts s.hand (wired fixed w) wider z.stand

  -- ---- who is gone

  kept_by : (e : ℕ) (y : Endpoint) → slice_get w.driver.endpoints e ≡ Some y → may_meet w.driver e y ≡ true → (b : Bool) → y.gone ≡ b
      → y.gone ≡ false
  kept_by e y here on true is = absurd (false≢true (sym (gone_are_unmet w.driver e y k.owners here is) ∙ on))
  kept_by e y here on false is = is

  left_by : (e : ℕ) (y : Endpoint) → slice_get w.driver.endpoints e ≡ Some y → g.asks y.desc ≡ true → (b : Bool) → may_meet w.driver e y ≡ b
      → (has_left g w.driver e ≡ true) ⊎ HadQueue a.courses a.numbers e
  left_by e y here control false off = inl (ap (left_with g w.driver e) here ∙ is_left (g.asks y.desc) (may_meet w.driver e y) control off)
  left_by e y here control true on =
      let m : IsMetControl g w.driver e y = record {
        is = record { here = here; control = control };
        met = record { there = record { linked = λ opening. let never : ◌≡◌ {A = Option _} None (Some _) = sym idle ∙ opening in cc; kept = kept_by e y here on y.gone refl }; near = on };
      } in
      let h = z.each e y m in
      inr (record { queue = 32 * y.queue; has = h.queue; is = h.number })

  had_at : (e : ℕ) (o : Option Endpoint) → slice_get w.driver.endpoints e ≡ o → left_with g (cleared w.driver) e o ≡ true
      → (has_left g w.driver e ≡ true) ⊎ HadQueue a.courses a.numbers e
  had_at e None is on = absurd (false≢true on)
  had_at e (Some y) is on = left_by e y is (first_of_both (g.asks y.desc) (not (may_meet (cleared w.driver) e y)) on) (may_meet w.driver e y) refl

  gone : HaveGone (has_left g w.driver) a.courses a.numbers (has_left g (cleared w.driver))
  gone e on = had_at e (slice_get w.driver.endpoints e) refl on

  recorded : AreRecords (cleared w.driver) asks (courses_met narrow a.courses) a.numbers (has_left g (cleared w.driver)) v
  recorded =
      records_are_met control_of (cleared w.driver) asks member narrow a.courses a.numbers (has_left g w.driver) (has_left g (cleared w.driver)) v s.parts s.hand (wired fixed w) gone z.stand
      (row_keeps_records (driver_parts w) rows.ClearAdvance asks a.courses a.numbers (has_left g w.driver) v (λ j has. tt)
      (λ j i has few given. let never : ◌≡◌ {A = Option ℕ} None (Some ((a.numbers j).number i)) = given in cc) z.records)

  -- ---- the world

  abbrev parts_now : Parts
  parts_now = record { driver = cleared w.driver; registers = w.registers; memory = more }

  each : (e : ℕ) (y : Endpoint) → IsMetControl g (cleared w.driver) e y
      → HasCourse g (cleared w.driver) e y (courses_met narrow a.courses (32 * y.queue)) (a.numbers (32 * y.queue))
  each e y m =
      subst (λ (b : Bool). HasCourse g (cleared w.driver) e y (if b then a.courses (32 * y.queue) else NoQueue) (a.numbers (32 * y.queue))) (sym (met.each e y m.is.here m.met))
      (each_still g fixed member s a v asks w parts_now leaves z e y m)

  reads : (e t : ℕ) (y : Endpoint) (tr : Transfer) → IsMetControl g (cleared w.driver) e y → told_end y ≡ None → y.next ≡ Some t
      → slice_get w.driver.transfers t ≡ Some tr
      → IsReadTo s.hand s.parts (32 * y.queue) (note_at w.driver.notes) tr ((a.numbers (32 * y.queue)).requests.requests 0)
  reads e t y tr m going next there = z.read e t y tr (record { is = record { here = m.is.here; control = m.is.control }; met = met_was e y m.met }) going next there

  pub cleared_asks : AsksIn g narrow s.parts s.hand (record { courses = courses_met narrow a.courses; numbers = a.numbers }) v asks (cleared w.driver) more (wired fixed w)
  cleared_asks =
      world_left g fixed member s a v asks w parts_now leaves z (λ e y c. record { lines = refl; telling = λ reported waits t. record { numbers = t.numbers; told = t.told; wait = t.wait } }) (λ name u. refl)
      narrow s (courses_met narrow a.courses) (had narrow a.courses) z.unmissed.structures z.unmissed.in_hand stand recorded each reads
