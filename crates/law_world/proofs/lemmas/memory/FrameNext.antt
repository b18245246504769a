-- A world with endpoints of every kind after an event of the driver that is none of a queue: the walk of the ring meets the same queue heads, and no open or transfer is under way.
use Rattle.std.proofs.Common.{◌≡◌, ◌≢◌, ℕ, ◌*◌, Bool, true, false, cond, ◌||◌, List, set, slice_get, Option, Some, None, ap, refl, sym, subst, ◌∙◌, ⊎_elim, inl, inr, arith}
use Rattle.std.specs.Prelude.{◌⊎◌}
use Rattle.std.proofs.lemmas.Bool.{or_right, cases_eq, false≢true}
use Rattle.std.proofs.lemmas.Option.{same_Some}
use Rattle.law_driver_ring.proofs.Common.{lent_slot}
use Rattle.law_common.proofs.Lists.{set_here, set_there}
use Rattle.law_queues.proofs.Common.{not_one}
use Rattle.law_world.proofs.Common.{none_some}
use Rattle.word_mem.specs.Memory.{Mem}
use Rattle.mem_runs.specs.Book.{slot_of}
use Rattle.mem_runs.specs.declared.slots.Slot.{Slot}
use Rattle.mem_runs.specs.declared.slots.Slot.TheVariants as slots
use Rattle.drv_periodic_table.specs.Periodic.{is_periodic}
use Rattle.drv_table.specs.declared.content.Endpoint.{Endpoint}
use Rattle.drv_table.specs.declared.content.Command.{Command}
use Rattle.drv_table.specs.declared.content.Command.TheVariants as unfinished
use Rattle.drv_table.specs.DriverContent.{DriverContent}
use Rattle.drv_table.specs.Words.{head_block}
use Rattle.drv_table.specs.Parts.{Parts}
use Rattle.drv_table.specs.Rows.{driver_row}
use Rattle.law_driver.specs.endpoint_lives.Lives.{is_one_of, may_meet}
use Rattle.law_driver.proofs.lemmas.endpoint_lives.Lives.{met_alike}
use Rattle.claims_driver.specs.Owners.{HasBlocks, HasRun}
use Rattle.claims_driver.specs.Leaving.{times, leaves_ring, HasOwners}
use Rattle.law_driver.proofs.lemmas.run_owners.Reasons.{each_event_is_due}
use Rattle.claims_driver.specs.LentRuns.{AreLent}
use Rattle.law_driver.proofs.lemmas.lent_runs.Laws.{all_are_lent_between_commands}
use Rattle.law_structures.specs.lent_structures.Structures.{StructureSets}
use Rattle.law_ring.specs.Hand.{Hand}
use Rattle.claims_base.specs.Controller.{opening_base}
use Rattle.law_driver.proofs.lemmas.chained_transfers.Rows.{set_which}
use Rattle.law_driver_ring.specs.fed_queues.Places.{IsMet, HasHead, AreMet}
use Rattle.law_queues.proofs.lemmas.publish_laws.Apart.{dummy_placed}
use Rattle.law_driver.specs.queued_drivers.Queued.{queued, queued_command, QueuesTakeTurns}
use Rattle.law_driver.specs.queued_drivers.Rows.{QueuesAlike, IsOfFrames, keeps_book}
use Rattle.law_driver.proofs.lemmas.queued_drivers.RowOwners.{queued_has_owners}
use Rattle.law_driver.proofs.lemmas.queued_drivers.RowFrames.{frames_leave}
use Rattle.law_frames.specs.Met.{Kind}
use Rattle.law_frames.specs.FrameHand.{FrameHand}
use Rattle.law_world.specs.memory.framed_memory.Now.{IsFramedNow}
use Rattle.law_world.specs.memory.framed_memory.Isochronous.{IsFramesCommand}
use Rattle.bus_world.specs.World.{World, driver_parts, controller_parts, driver_next}
use Rattle.law_world.specs.memory.Mixed.{QueuesGoOn, IsUnderWay, Standing, IsMixedAt}
use Rattle.law_world.specs.memory.Steps.{AreTold, left_by_frames, stays as step_stays, IsMixedNext}
use Rattle.law_world.proofs.lemmas.memory.Next.{mixed_next}
use Rattle.law_world.proofs.lemmas.memory.Alike.{DummiesWereLent, same_lent, goes_on_alike}

-- ---- commands of descriptors, or that unlink members

pub idle_frames : (o : Option Command) → o ≡ None → IsFramesCommand o
idle_frames o idle = subst IsFramesCommand (sym idle) tt

pub not_opening : (o : Option Command) (q : ℕ) → IsFramesCommand o → o ≢ Some (unfinished.Open q)
not_opening None q frames is = cc
not_opening (Some (unfinished.Iso e t count)) q frames is = cc
not_opening (Some (unfinished.Unchain e)) q frames is = cc
not_opening _ q frames is = frames

-- the queues know of no command then
pub none_queued : (xs : List Endpoint) (o : Option Command) → IsFramesCommand o → queued_command xs o ≡ None
none_queued xs None frames = refl
none_queued xs (Some (unfinished.Iso e t count)) frames = refl
none_queued xs (Some (unfinished.Unchain e)) frames = refl
none_queued xs _ frames = absurd frames

queued_none : (xs : List Endpoint) (o : Option Command) → queued_command xs o ≡ None → IsFramesCommand o
queued_none xs None is = tt
queued_none xs (Some (unfinished.Iso e t count)) is = tt
queued_none xs (Some (unfinished.Unchain e)) is = tt
queued_none xs _ is = absurd (cc)

pub frames_still : (d f : DriverContent) → QueuesAlike (queued d) (queued f) → IsFramesCommand d.command → IsFramesCommand f.command
frames_still d f k frames = queued_none f.endpoints f.command (k.command ∙ none_queued d.endpoints d.command frames)

pub never_publishes : (d : DriverContent) → IsFramesCommand d.command → (b : ℕ) (words : List ℕ) → (queued d).command ≢ Some (unfinished.Publish b words)
never_publishes d frames b words is = none_some (unfinished.Publish b words) (sym (none_queued d.endpoints d.command frames) ∙ is)

pub none_under_way : (d : DriverContent) (m : Mem) (member : ℕ → Bool) (recent : ℕ → Option Kind) (parts : StructureSets) (o : Option Command) → IsFramesCommand o
    → IsUnderWay d m member recent parts o
none_under_way d m member recent parts None frames = tt
none_under_way d m member recent parts (Some (unfinished.Iso e t count)) frames = tt
none_under_way d m member recent parts (Some (unfinished.Unchain e)) frames = tt
none_under_way d m member recent parts _ frames = absurd frames

-- ---- whom the walk of the ring meets

-- no periodic endpoint
pub periodic_unmet : (d : DriverContent) (e : ℕ) (x : Endpoint) → HasOwners d → slice_get d.endpoints e ≡ Some x → is_periodic x.desc.kind ≡ true → may_meet d e x ≡ true → ⊥
periodic_unmet d e x has here periodic near = false≢true (sym unmet ∙ near)
  where
    by : (b : Bool) → x.linked ≡ b → x.linked ≡ false
    by false is = is
    by true is = absurd (false≢true (sym ((has.orderly.steady e x here).ring is) ∙ periodic))

    owes_none : leaves_ring (Some x) ≡ 0
    owes_none = ap (λ (b : Bool). cond {A = ℕ} (x.linked || x.gone || b) 0 1) periodic ∙ ap (λ (b : Bool). cond {A = ℕ} b 0 1) (or_right (x.linked || x.gone) true refl)

    none_waits : times e d.waiting ≡ 0
    none_waits = let most = has.orderly.leaving e in let owes = ap leaves_ring here ∙ owes_none in omega (arith, most, owes)

    none_rung : times e d.rung ≡ 0
    none_rung = let most = has.orderly.leaving e in let owes = ap leaves_ring here ∙ owes_none in omega (arith, most, owes)

    unmet : may_meet d e x ≡ false
    unmet =
        ap (λ (b : Bool). b || (is_one_of e d.waiting || is_one_of e d.rung)) (by x.linked refl) ∙ ap (λ (b : Bool). b || is_one_of e d.rung) (not_one e d.waiting none_waits)
        ∙ not_one e d.rung none_rung

-- at most one endpoint is told anew, in its place in the ring, and that of a periodic one may be given back
pub data EndsStay (xs ys : List Endpoint) : Type 0 where
  same : ys ≡ xs → EndsStay xs ys
  one : (e : ℕ) (x z : Endpoint) → slice_get xs e ≡ Some x → ys ≡ set xs e z → z.queue ≡ x.queue → z.linked ≡ x.linked → (z.gone ≡ x.gone) ⊎ (is_periodic x.desc.kind ≡ true) → EndsStay xs ys

record IsMetWith (d : DriverContent) (k q : ℕ) : Type 0 where
  one : Endpoint
  here : slice_get d.endpoints k ≡ Some one
  met : IsMet d k one
  queue : one.queue ≡ q

module _ (d f : DriverContent) (has : HasOwners d) (waiting : f.waiting ≡ d.waiting) (rung : f.rung ≡ d.rung) (frames : IsFramesCommand d.command) (frames_now : IsFramesCommand f.command) where
  met_before : (k : ℕ) (x z : Endpoint) → z.linked ≡ x.linked → x.gone ≡ false → IsMet f k z → IsMet d k x
  met_before k x z linked kept m =
      record { there = record { linked = not_opening d.command x.queue frames; kept = kept }; near = sym (met_alike d f k x z linked waiting rung) ∙ m.near }

  met_then : (k : ℕ) (x z : Endpoint) → z.linked ≡ x.linked → z.gone ≡ false → IsMet d k x → IsMet f k z
  met_then k x z linked kept m =
      record { there = record { linked = not_opening f.command z.queue frames_now; kept = kept }; near = met_alike d f k x z linked waiting rung ∙ m.near }

  back : (ys : List Endpoint) → f.endpoints ≡ ys → EndsStay d.endpoints ys → (k : ℕ) (z : Endpoint) → slice_get ys k ≡ Some z → IsMet f k z → IsMetWith d k z.queue
  back ys are (same is) k z here m =
      record { one = z; here = ap (λ (xs : List Endpoint). slice_get xs k) (sym is) ∙ here; met = met_before k z z refl m.there.kept m; queue = refl }
  back ys are (one e x new at is queue linked gone) k z here m =
      ⊎_elim {C = IsMetWith d k z.queue}
      (λ (own : (k ≡ e) × (z ≡ new)).
      let m_new : IsMet f e new = subst (λ (j : ℕ). IsMet f j new) own.0 (subst (λ (v : Endpoint). IsMet f k v) own.1 m) in
      let kept : x.gone ≡ false =
      ⊎_elim (λ (stays : new.gone ≡ x.gone). sym stays ∙ m_new.there.kept)
      (λ (periodic : is_periodic x.desc.kind ≡ true). absurd (periodic_unmet d e x has at periodic (sym (met_alike d f e x new linked waiting rung) ∙ m_new.near))) gone in
      record {
        one = x;
        here = ap (slice_get d.endpoints) own.0 ∙ at;
        met = subst (λ (j : ℕ). IsMet d j x) (sym own.0) (met_before e x new linked kept m_new);
        queue = sym queue ∙ ap (λ (v : Endpoint). v.queue) (sym own.1);
      })
      (λ (other : slice_get d.endpoints k ≡ Some z). record { one = z; here = other; met = met_before k z z refl m.there.kept m; queue = refl })
      (set_which d.endpoints e k x new z at (ap (λ (xs : List Endpoint). slice_get xs k) (sym is) ∙ here))

  forth : (ys : List Endpoint) → f.endpoints ≡ ys → EndsStay d.endpoints ys → (k : ℕ) (x : Endpoint) → slice_get d.endpoints k ≡ Some x → IsMet d k x → IsMetWith f k x.queue
  forth ys are (same is) k x here m =
      record { one = x; here = ap (λ (xs : List Endpoint). slice_get xs k) (are ∙ is) ∙ here; met = met_then k x x refl m.there.kept m; queue = refl }
  forth ys are (one e old new at is queue linked gone) k x here m =
      ⊎_elim {C = IsMetWith f k x.queue}
      (λ (own : k ≡ e).
      let its : x ≡ old = same_Some x old (sym here ∙ ap (slice_get d.endpoints) own ∙ at) in
      let m_old : IsMet d e old = subst (λ (j : ℕ). IsMet d j old) own (subst (λ (v : Endpoint). IsMet d k v) its m) in
      let kept : new.gone ≡ false =
      ⊎_elim (λ (stays : new.gone ≡ old.gone). stays ∙ m_old.there.kept) (λ (periodic : is_periodic old.desc.kind ≡ true). absurd (periodic_unmet d e old has at periodic m_old.near)) gone in
      record {
        one = new;
        here = ap (λ (xs : List Endpoint). slice_get xs k) (are ∙ is) ∙ ap (slice_get (set d.endpoints e new)) own ∙ set_here d.endpoints e old new at;
        met = subst (λ (j : ℕ). IsMet f j new) (sym own) (met_then e old new linked kept m_old);
        queue = queue ∙ ap (λ (v : Endpoint). v.queue) (sym its);
      })
      (λ (other : k ≢ e).
      record { one = x; here = ap (λ (xs : List Endpoint). slice_get xs k) (are ∙ is) ∙ set_there d.endpoints e k new other ∙ here; met = met_then k x x refl m.there.kept m; queue = refl })
      (cases_eq k e)

  pub ring_stays : (member : ℕ → Bool) → EndsStay d.endpoints f.endpoints → AreMet d member → AreMet f member
  ring_stays member stay old = record {
    head = old.head;
    each = λ k z here m.
        let w = back f.endpoints refl stay k z here m in
        subst (λ (q : ℕ). member (32 * q) ≡ true) w.queue (old.each k w.one w.here w.met);
    only = λ n on.
        ⊎_elim {C = (n ≡ 32 * head_block) ⊎ HasHead f n} (λ (head : n ≡ 32 * head_block). inl head)
        (λ (h : HasHead d n).
        let w = forth f.endpoints refl stay h.number h.endpoint h.here h.met in
        inr (record { number = h.number; endpoint = w.one; here = w.here; met = w.met; at = h.at ∙ ap (λ (q : ℕ). 32 * q) (sym w.queue) })) (old.only n on);
  }

-- ---- dummies

one_run : (s : Slot) → HasBlocks 1 s → HasRun s
one_run slots.Empty has = has
one_run _ has = tt

-- between commands all are lent
pub idle_dummies : (d f : DriverContent) → HasOwners d → QueuesTakeTurns d → AreLent d → d.command ≡ None → DummiesWereLent (queued d) f
idle_dummies d f has turns lent idle e x here kept was =
    let placed = dummy_placed (queued d) (queued_has_owners d has turns) e x here (turns.turns.asynchronous.endpoints e x here) kept in
    lent_slot (slot_of d.book.slots x.dummy) (all_are_lent_between_commands d x.dummy idle lent
    (one_run (slot_of d.book.slots x.dummy) placed.run))

-- ---- the world

module _ (s : Standing) (w : World) (k : IsMixedAt s w) where
  abbrev p : Parts
  p = driver_parts w

  abbrev d : DriverContent
  d = w.driver

  abbrev f : DriverContent
  f = (driver_next w).driver

  pub its_owners : HasOwners w.driver
  its_owners = k.now.framed.place.sound.owners

  -- one of the frames
  pub frames_mixed : (recent : ℕ → Option Kind) (descs parts : StructureSets) (hand : Hand) (frame : FrameHand)
      → IsFramedNow opening_base s.member recent descs parts hand frame (controller_parts (driver_next w)) (driver_next w).driver → IsOfFrames (driver_parts w) (driver_row (driver_parts w))
      → IsFramesCommand w.driver.command → EndsStay w.driver.endpoints (driver_next w).driver.endpoints → DummiesWereLent (queued w.driver) (queued (driver_next w).driver)
      → QueuesGoOn (queued w.driver) s.near s.streams s.ends parts s.order s.out
      → AreTold s (record s { recent = recent; descs = descs; parts = parts; hand = hand; frame = frame }) → IsMixedNext s w (driver_next w)
  frames_mixed recent descs parts hand frame now of frames stay dummies queues told =
      let alike : QueuesAlike (queued d) (queued f) = (frames_leave (driver_row p) p its_owners k.turns (each_event_is_due p) of).queues in
      let frames_now = frames_still d f alike frames in
      let t : Standing = record s { recent = recent; descs = descs; parts = parts; hand = hand; frame = frame } in
      mixed_next s w k t (step_stays t (left_by_frames alike of refl) (record { near = refl; streams = refl; ends = refl; order = refl; out = refl; told = told })) now
      (ring_stays d f its_owners alike.waiting alike.rung frames frames_now s.member stay k.ring)
      (goes_on_alike (queued d) (queued f) s.near s.streams s.ends parts s.order s.out alike dummies queues)
      (none_under_way f (driver_next w).memory s.member recent parts f.command frames_now)

  -- .. that leaves the book
  pub same_dummies : IsOfFrames (driver_parts w) (driver_row (driver_parts w)) → keeps_book (driver_row (driver_parts w)) ≡ true → DummiesWereLent (queued w.driver) (queued (driver_next w).driver)
  same_dummies of keeps =
      same_lent (queued d) (queued f) ((frames_leave (driver_row p) p its_owners k.turns (each_event_is_due p) of).book keeps)

  -- .. between commands
  pub quiet_dummies : w.driver.command ≡ None → DummiesWereLent (queued w.driver) (queued (driver_next w).driver)
  quiet_dummies idle = idle_dummies d (queued f) its_owners k.turns k.now.framed.place.lent idle
