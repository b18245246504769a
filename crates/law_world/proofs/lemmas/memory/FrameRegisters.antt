-- Events of registers leave a world with endpoints of every kind one: FRINDEX and USBSTS are read, the doorbell is rung, or there is nothing to do.
use Rattle.std.proofs.Common.{◌≡◌, ℕ, Bool, true, ◌||◌, List, [], ◌++◌, ap, refl, sym, subst, ◌∙◌}
use Rattle.law_common.proofs.Booleans.{either_way}
use Rattle.drv_table.specs.declared.content.Endpoint.{Endpoint}
use Rattle.drv_table.specs.declared.rows.DriverRow.{DriverRow}
use Rattle.drv_table.specs.declared.rows.DriverRow.TheVariants as rows
use Rattle.drv_table.specs.DriverContent.{DriverContent}
use Rattle.drv_table.specs.Parts.{Parts}
use Rattle.drv_table.specs.Rows.{driver_row, after_driver_row}
use Rattle.law_driver.specs.endpoint_lives.Lives.{is_one_of}
use Rattle.law_driver.proofs.lemmas.endpoint_lives.Lives.{one_of_joined}
use Rattle.law_driver.specs.run_owners.Due.{IsDue}
use Rattle.law_driver.proofs.lemmas.run_owners.Reasons.{each_event_is_due}
use Rattle.law_driver_ring.specs.fed_queues.Places.{AreMet}
use Rattle.law_driver.specs.queued_drivers.Queued.{queued}
use Rattle.law_driver.specs.queued_drivers.Rows.{IsOfFrames, keeps_book}
use Rattle.law_world.specs.memory.framed_memory.Now.{reads_alone}
use Rattle.law_world.specs.memory.framed_memory.Isochronous.{IsFramesCommand}
use Rattle.law_world.proofs.lemmas.memory.lemmas.framed_memory.Now.{registers_keep_now}
use Rattle.claims_base.specs.Controller.{opening_base}
use Rattle.bus_world.specs.World.{World, driver_parts, controller_parts, with_parts, driver_next}
use Rattle.law_world.specs.memory.Mixed.{QueuesGoOn, Standing, IsMixedAt}
use Rattle.law_world.specs.memory.Steps.{HasNoStep, left_alike, left_by_bell, left_by_status, stays, IsMixedNext}
use Rattle.law_world.specs.memory.Laws.{RowKeepsMixed}
use Rattle.law_driver.proofs.lemmas.queued_drivers.RowFrames.{queues_same}
use Rattle.law_world.proofs.lemmas.memory.RingBasis.{told_row}
use Rattle.law_world.proofs.lemmas.memory.Next.{mixed_next}
use Rattle.law_world.proofs.lemmas.memory.Stepping.{told_same, still_same}
use Rattle.law_world.proofs.lemmas.memory.Alike.{ring_near, goes_on_near}
use Rattle.law_world.proofs.lemmas.memory.FrameNext.{EndsStay, same, idle_frames, none_under_way, frames_mixed, same_dummies}

-- ---- nothing to do

pub rest_mixed : RowKeepsMixed rows.Rest
rest_mixed s w k is =
    subst (λ (row : DriverRow). IsMixedNext s w (with_parts w (after_driver_row row (driver_parts w)))) (sym is)
    (record {
      standing = s;
      step = stays s (left_alike (queues_same (queued w.driver)) (record { reports = refl; store = refl })) (still_same s);
      mixed = k;
    })

-- ---- FRINDEX is read

pub frame_read_mixed : (n : ℕ) → RowKeepsMixed (rows.ReadFrame n)
frame_read_mixed n s w k is =
    let p : Parts = driver_parts w in
    let row : DriverRow = rows.ReadFrame n in
    let of : IsOfFrames p (driver_row p) = subst (IsOfFrames p) (sym is) tt in
    let due : IsDue p row = subst (IsDue p) is (each_event_is_due p) in
    frames_mixed s w k s.recent s.descs s.parts s.hand s.frame
    (registers_keep_now opening_base s.member s.recent s.descs s.parts s.hand s.frame (controller_parts w) w.driver k.now (ap reads_alone is)) of (idle_frames w.driver.command due.0)
    (subst (λ (r : DriverRow). EndsStay w.driver.endpoints (after_driver_row r p).driver.endpoints) (sym is) (same refl)) (same_dummies s w k of (ap keeps_book is)) k.queues
    (told_same s s.recent s.descs)

-- ---- USBSTS is read, and the doorbell is rung

-- who waits is rung for
rung_near : (e : ℕ) (x : Endpoint) (waiting rung : List ℕ) → (x.linked || (is_one_of e [] || is_one_of e (rung ++ waiting))) ≡ (x.linked || (is_one_of e waiting || is_one_of e rung))
rung_near e x waiting rung = ap (λ (b : Bool). x.linked || b) (one_of_joined e rung waiting ∙ either_way (is_one_of e rung) (is_one_of e waiting))

-- such a row changes the doorbell alone
module _ (s : Standing) (w : World) (k : IsMixedAt s w) (row : DriverRow) (is : driver_row (driver_parts w) ≡ row) (reads : reads_alone row ≡ true) (frames : IsFramesCommand w.driver.command) where
  abbrev after : DriverRow → DriverContent
  after r = (after_driver_row r (driver_parts w)).driver

  bell_mixed : HasNoStep w (driver_next w) → AreMet (after row) s.member → QueuesGoOn (queued (after row)) s.near s.streams s.ends s.parts s.order s.out → IsFramesCommand (after row).command → IsMixedNext s w (driver_next w)
  bell_mixed none ring queues later =
      mixed_next s w k s (stays s none (still_same s))
      (registers_keep_now opening_base s.member s.recent s.descs s.parts s.hand s.frame (controller_parts w) w.driver k.now (ap reads_alone is ∙ reads))
      (subst (λ (r : DriverRow). AreMet (after r) s.member) (sym is) ring) (subst (λ (r : DriverRow). QueuesGoOn (queued (after r)) s.near s.streams s.ends s.parts s.order s.out) (sym is) queues)
      (none_under_way (driver_next w).driver (driver_next w).memory s.member s.recent s.parts (driver_next w).driver.command (subst (λ (r : DriverRow). IsFramesCommand (after r).command) (sym is) later))

pub status_read_mixed : (heard : Bool) → RowKeepsMixed (rows.ReadStatus heard)
status_read_mixed heard s w k is =
    let p : Parts = driver_parts w in
    let row : DriverRow = rows.ReadStatus heard in
    let due : IsDue p row = subst (IsDue p) is (each_event_is_due p) in
    let frames : IsFramesCommand w.driver.command = idle_frames w.driver.command due.0 in
    let f : DriverContent = (after_driver_row row p).driver in
    bell_mixed s w k row is refl frames (left_by_status heard (told_row s w k (rows.ReadStatus heard) is tt))
    (ring_near w.driver (after_driver_row (rows.ReadStatus heard) p).driver (λ e x here. refl) s.member k.ring)
    (goes_on_near (queued w.driver) (queued (after_driver_row (rows.ReadStatus heard) p).driver) (λ e x here. refl) (λ e x here kept lent. lent) s.near s.streams s.ends s.parts s.order s.out k.queues) frames

pub doorbell_mixed : RowKeepsMixed rows.RingBell
doorbell_mixed s w k is =
    let p : Parts = driver_parts w in
    let due : IsDue p rows.RingBell = subst (IsDue p) is (each_event_is_due p) in
    let frames : IsFramesCommand w.driver.command = idle_frames w.driver.command due.0 in
    bell_mixed s w k rows.RingBell is refl frames (left_by_bell (told_row s w k rows.RingBell is tt))
    (ring_near w.driver (after_driver_row rows.RingBell p).driver (λ e x here. rung_near e x w.driver.waiting w.driver.rung) s.member k.ring)
    (goes_on_near (queued w.driver) (queued (after_driver_row rows.RingBell p).driver) (λ e x here. rung_near e x w.driver.waiting w.driver.rung) (λ e x here kept lent. lent) s.near s.streams
    s.ends s.parts s.order s.out k.queues) frames
