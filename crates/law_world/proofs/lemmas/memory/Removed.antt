-- An interrupt endpoint that left its frames is given back: the world goes on without its queue, which no walk may meet any more (EHCI 1.0, 4.6 and 4.10).
use Rattle.std.proofs.Common.{◌≡◌, ◌≢◌, ℕ, ◌-◌, ◌*◌, ◌==◌, ◌&&◌, ◌||◌, Bool, true, false, cond, List, [], ◌∷◌, length, set, slice_get, Option, Some, None, ap, refl, sym, subst, ◌∙◌, ⊎_elim, inl, inr, arith}
use Rattle.std.specs.Prelude.{not}
use Rattle.std.proofs.lemmas.Bool.{or_right, true≢false, false≢true, cases_eq, and_parts, and_from, false_from_ne_true}
use Rattle.std.proofs.lemmas.Option.{same_Some}
use Rattle.law_world.proofs.Common2.{idle_there}
use Rattle.law_common.proofs.Lists.{set_here, set_there}
use Rattle.law_world.proofs.Common.{times_one, told_same}
use Rattle.law_common.proofs.Booleans.{and_true}
use Rattle.mem_runs.specs.Book.{Book, holding}
use Rattle.drv_periodic_table.specs.Periodic.{is_periodic}
use Rattle.drv_periodic_table.specs.declared.content.Removed.TheVariants as removed
use Rattle.drv_table.specs.declared.content.Command.{Command}
use Rattle.drv_table.specs.declared.content.Endpoint.{Endpoint}
use Rattle.drv_table.specs.declared.rows.DriverRow.{DriverRow}
use Rattle.drv_table.specs.declared.rows.DriverRow.TheVariants as rows
use Rattle.drv_table.specs.DriverContent.{DriverContent}
use Rattle.drv_table.specs.Words.{head_block}
use Rattle.drv_table.specs.Parts.{Parts}
use Rattle.drv_table.specs.Kinds.{is_iso}
use Rattle.drv_table.specs.Releases.{is_told, cancel_told, gone_with, free_endpoint, after_endpoint}
use Rattle.drv_table.specs.Removals.{removed_with, free_placed, after_placed}
use Rattle.drv_table.specs.Rows.{driver_row, after_driver_row}
use Rattle.law_driver.specs.run_owners.Due.{IsRemovalDue}
use Rattle.claims_driver.specs.Leaving.{HasOwners, leaves_ring}
use Rattle.law_driver.proofs.lemmas.run_owners.Leaves.{first_removed}
use Rattle.law_driver.proofs.lemmas.run_owners.Orders.{IsRemoved}
use Rattle.law_driver.proofs.lemmas.run_owners.Released.{cancel_same}
use Rattle.law_driver.specs.endpoint_lives.Lives.{is_one_of, may_meet}
use Rattle.law_driver.proofs.lemmas.endpoint_lives.Lives.{met_alike}
use Rattle.law_structures.specs.lent_structures.Structures.{StructureSets}
use Rattle.law_ring.specs.Front.{LinksRise}
use Rattle.law_ring.specs.Halted.{HaltStops}
use Rattle.law_ring.specs.Told.{Endpoint as Told}
use Rattle.claims_base.specs.Controller.{opening_base}
use Rattle.law_driver.specs.chained_transfers.AsynchronousTurns.{AsynchronousTakesTurns}
use Rattle.law_descriptors.proofs.GivenRow.{row_gives_back_passed}
use Rattle.law_queues.proofs.lemmas.fed_lends.Asked.{set_which}
use Rattle.law_driver_ring.specs.fed_queues.Places.{IsMet, HasHead, AreMet, HaveStreams}
use Rattle.law_frames.specs.Met.{IsQueuePart}
use Rattle.law_world.specs.memory.framed_memory.Now.{FramedNext}
use Rattle.law_world.specs.steps.endpoint_releases.Released.{without_queue, IsToLeave}
use Rattle.law_world.proofs.lemmas.steps.lemmas.endpoint_releases.Owning.{queue_beside}
use Rattle.law_world.proofs.lemmas.memory.lemmas.framed_memory.Leaving.{endpoint_leaves_now}
use Rattle.law_queues.specs.leaving_drivers.Before.{WasSame, UnlinksAtMost, IsAsBefore, NearFewer}
use Rattle.law_world.specs.steps.left_queues.Standing.{IdleTailsStand, AllStand, met_streams}
use Rattle.law_world.proofs.lemmas.steps.lemmas.left_queues.Returned.{endpoint_release_stands}
use Rattle.law_world.proofs.lemmas.steps.lemmas.left_queues.Same.{fed_now, last_now, still_out_now, fronts_now, tails_now}
use Rattle.law_world.proofs.lemmas.steps.lemmas.left_queues.Unmet.{apart_by, off_head_by}
use Rattle.law_queues.proofs.lemmas.mended_heads.Rows.{gives_back, given_mends, given_owes_none}
use Rattle.law_queues.specs.standing_fronts.Reaching.{Reaches}
use Rattle.law_queues.specs.standing_fronts.Tails.{tail_block}
use Rattle.law_descriptors.specs.queue_events.Events.{PartsStand}
use Rattle.law_world.specs.steps.control_queues.Controls.{ControlsStand}
use Rattle.law_driver.specs.queued_drivers.Queued.{with_queue, queued, queued_parts}
use Rattle.law_driver.specs.queued_drivers.Rows.{QueuesAlike, out_by, out_of_frames, IsGivenBackAlike}
use Rattle.law_driver.proofs.lemmas.queued_drivers.RowEvents.{idle_told}
use Rattle.law_driver.proofs.lemmas.queued_drivers.RowLists.{queue_at}
use Rattle.law_driver.proofs.lemmas.queued_drivers.RowOwners.{queued_has_owners}
use Rattle.law_driver.proofs.lemmas.queued_drivers.RowRemovals.{goes_back}
use Rattle.law_driver.proofs.lemmas.listed_members.Unchaining.{elsewhere_on, elsewhere_test}
use Rattle.bus_world.specs.World.{World, driver_parts, controller_parts, driver_next}
use Rattle.law_world.specs.memory.Mixed.{QueuesGoOn, IsUnderWay, Standing, IsMixedAt}
use Rattle.law_world.specs.memory.Steps.{left_its_frames, QueueStep, goes as step_goes, IsMixedNext}
use Rattle.law_world.proofs.lemmas.memory.Next.{mixed_next}
use Rattle.law_world.proofs.lemmas.memory.QueueViews.{told_queue}
use Rattle.law_world.proofs.lemmas.memory.CommandTails.{idle_ends}
use Rattle.law_world.proofs.lemmas.memory.Alike.{same_lent, goes_on_alike}
use Rattle.law_world.proofs.lemmas.memory.ChainReady.{off_ring}

-- ---- an endpoint leaves the ring at once: neither the doorbell nor its answer is waited for

module _ (d : DriverContent) (e : ℕ) (x : Endpoint) (here : slice_get d.endpoints e ≡ Some x) (idle : d.command ≡ None) (linked : x.linked ≡ true) (kept : x.gone ≡ false) (waits : is_one_of e d.waiting ≡ false) (rung : is_one_of e d.rung ≡ false) where
  abbrev left : Endpoint
  left = record x { linked = false }

  abbrev out : DriverContent
  out = record d { endpoints = set d.endpoints e (record x { linked = false }); cleared = e ∷ d.cleared }

  there : slice_get (set d.endpoints e (record x { linked = false })) e ≡ Some (record x { linked = false })
  there = set_here d.endpoints e x left here

  -- an endpoint of either in the other
  same_one : (f : DriverContent) (i : ℕ) (z y : Endpoint) → slice_get f.endpoints i ≡ Some y → z.queue ≡ y.queue → z.dummy ≡ y.dummy → z.desc ≡ y.desc → z.next ≡ y.next → z.gone ≡ y.gone → is_told z ≡ is_told y → z.ended ≡ y.ended → WasSame f i z
  same_one f i z y at queue dummy desc next gone told ended = record {
    endpoint = y;
    here = at;
    queue = queue;
    dummy = dummy;
    desc = desc;
    next = next;
    gone = gone;
    ends = ap (λ (b : Bool). cond b None z.ended) told ∙ ap (λ o. cond (is_told y) None o) ended;
  }

  was : (i : ℕ) (z : Endpoint) → slice_get out.endpoints i ≡ Some z → WasSame d i z
  was i z at =
      ⊎_elim (λ (own : (i ≡ e) × (z ≡ left)).
      subst (λ (y : Endpoint). WasSame d i y) (sym own.1) (same_one d i left x (ap (slice_get d.endpoints) own.0 ∙ here) refl refl refl refl refl refl refl))
      (λ (other : (i ≢ e) × (slice_get d.endpoints i ≡ Some z)). same_one d i z z other.1 refl refl refl refl refl refl refl) (set_which d.endpoints e i x left z here at)

  is_now : (i : ℕ) (z : Endpoint) → slice_get d.endpoints i ≡ Some z → WasSame out i z
  is_now i z at =
      ⊎_elim (λ (own : i ≡ e).
      let is : z ≡ x = same_Some z x (sym at ∙ ap (slice_get d.endpoints) own ∙ here) in
      subst (λ (y : Endpoint). WasSame out i y) (sym is) (same_one out i x left (ap (slice_get out.endpoints) own ∙ there) refl refl refl refl refl refl refl))
      (λ (other : i ≢ e). same_one out i z z (set_there d.endpoints e i left other ∙ at) refl refl refl refl refl refl refl) (cases_eq i e)

  as_before : IsAsBefore d out
  as_before = record {
    book = refl;
    notes = refl;
    transfers = refl;
    harvested = refl;
    reports = refl;
    store = refl;
    idle = subst UnlinksAtMost (sym idle) tt;
    idle_now = subst UnlinksAtMost (sym idle) tt;
    ends = was;
    ends_now = is_now;
  }

  -- it is met no more, and each other one as before
  left_unmet : may_meet out e left ≡ false
  left_unmet = ap (λ (b : Bool). b || is_one_of e d.rung) waits ∙ rung

  was_near : (i : ℕ) (z : Endpoint) → slice_get out.endpoints i ≡ Some z → may_meet out i z ≡ true → (i ≢ e) × (slice_get d.endpoints i ≡ Some z)
  was_near i z at near =
      ⊎_elim (λ (own : (i ≡ e) × (z ≡ left)).
      absurd (true≢false (sym near ∙ ap (λ (j : ℕ). may_meet out j z) own.0 ∙ ap (may_meet out e) own.1 ∙ left_unmet)))
      (λ (other : (i ≢ e) × (slice_get d.endpoints i ≡ Some z)). other) (set_which d.endpoints e i x left z here at)

  fewer : NearFewer d out
  fewer i y z at now near =
      let w = was_near i z now near in
      ap (may_meet d i) (same_Some y z (sym at ∙ w.1)) ∙ near

  met_was : (i : ℕ) (z : Endpoint) → slice_get out.endpoints i ≡ Some z → IsMet out i z → (i ≢ e) × (slice_get d.endpoints i ≡ Some z) × IsMet d i z
  met_was i z at m = let w = was_near i z at m.near in (w.0, w.1, record { there = idle_there d z idle m.there.kept; near = m.near })

  module _ (owners : HasOwners d) (turns : AsynchronousTakesTurns d) where
    abbrev n : ℕ
    n = 32 * x.queue

    abbrev narrow : (ℕ → Bool) → ℕ → Bool
    narrow near i = near i && not (i == 32 * x.queue)

    head_out : (i : ℕ) → i ≢ 32 * x.queue → HasHead d i → HasHead out i
    head_out i differs h =
        let other : h.number ≢ e = λ own. differs (h.at ∙ ap (λ (z : Endpoint). 32 * z.queue) (same_Some h.endpoint x (sym h.here ∙ ap (slice_get d.endpoints) own ∙ here))) in
        record {
          number = h.number;
          endpoint = h.endpoint;
          here = set_there d.endpoints e h.number left other ∙ h.here;
          met = record { there = idle_there out h.endpoint idle h.met.there.kept; near = h.met.near };
          at = h.at;
        }

    its_own : (i : ℕ) (z : Endpoint) → i ≢ e → slice_get d.endpoints i ≡ Some z → z.gone ≡ false → 32 * z.queue ≢ 32 * x.queue
    its_own i z other at alive = apart_by d i e z x owners turns at alive here kept other

    narrow_each : (near : ℕ → Bool) → AreMet d near → (i : ℕ) (z : Endpoint) → slice_get out.endpoints i ≡ Some z → IsMet out i z → narrow near (32 * z.queue) ≡ true
    narrow_each near old i z at m =
        let w = met_was i z at m in
        and_from (near (32 * z.queue)) (not (32 * z.queue == n)) (old.each i z w.1 w.2) (elsewhere_on (32 * z.queue) n (its_own i z w.0 w.1 m.there.kept))

    narrow_met : (near : ℕ → Bool) → AreMet d near → AreMet out (narrow near)
    narrow_met near old = record {
      head = and_from (near (32 * head_block)) (not (32 * head_block == n)) old.head (elsewhere_on (32 * head_block) n (λ same. off_head_by d e x owners turns here kept (sym same)));
      each = narrow_each near old;
      only = λ i on.
          let b = and_parts (near i) (not (i == n)) on in
          ⊎_elim (λ (head : i ≡ 32 * head_block). inl head) (λ (h : HasHead d i). inr (head_out i (elsewhere_test i n b.1) h)) (old.only i b.0);
    }

    narrow_streams : (near streams : ℕ → Bool) (ends : ℕ → Told) → AreMet d near → HaveStreams d streams ends → HaveStreams out (met_streams streams (narrow near)) ends
    narrow_streams near streams ends met old = record {
      each = λ i z at m.
          let w = met_was i z at m in
          let one = old.each i z w.1 w.2 in
          (ap (λ (b : Bool). streams (32 * z.queue) && b) (narrow_each near met i z at m) ∙ and_true (streams (32 * z.queue)) ∙ one.0, one.1);
      only = λ i on.
          let b = and_parts (streams i) (narrow near i) on in
          let c = and_parts (near i) (not (i == n)) b.1 in
          head_out i (elsewhere_test i n c.1) (old.only i b.0);
    }

    out_stands : (near streams : ℕ → Bool) (ends : ℕ → Told) (parts : StructureSets) (order : ℕ → ℕ → ℕ) (outs : ℕ → List ℕ) → QueuesGoOn d near streams ends parts order outs → AllStand out (narrow near) (met_streams streams (narrow near)) ends parts order outs
    out_stands near streams ends parts order outs g =
        let tails : IdleTailsStand d parts order outs = idle_ends d parts order outs idle g.tails in
        record {
          queues = record {
            met = narrow_met near g.queues.met;
            streams_are = narrow_streams near streams ends g.queues.met g.queues.streams_are;
            fed = fed_now d out as_before parts g.queues.fed;
            last = last_now d out as_before parts order g.queues.last;
            out_are = still_out_now d out as_before outs g.queues.out_are;
          };
          fronts = fronts_now d out as_before fewer parts order outs (λ i z at m. (tails i z at m).stands);
          tails = tails_now d out as_before fewer parts order outs tails;
        }

-- ---- what the row leaves

-- endpoint e is gone, and the others are as they were
record IsGoneFrom (d g : DriverContent) (e : ℕ) : Type 0 where
  command : g.command ≡ None
  waiting : g.waiting ≡ d.waiting
  rung : g.rung ≡ d.rung
  others : (i : ℕ) (z : Endpoint) → slice_get g.endpoints i ≡ Some z → z.gone ≡ false → (i ≢ e) × (slice_get d.endpoints i ≡ Some z)
  still : (i : ℕ) (z : Endpoint) → i ≢ e → slice_get d.endpoints i ≡ Some z → slice_get g.endpoints i ≡ Some z

others_by : (xs ys : List Endpoint) (e : ℕ) (x new : Endpoint) → slice_get xs e ≡ Some x → new.gone ≡ true → ys ≡ set xs e new → (i : ℕ) (z : Endpoint) → slice_get ys i ≡ Some z → z.gone ≡ false → (i ≢ e) × (slice_get xs i ≡ Some z)
others_by xs ys e x new here gone is i z at alive =
    ⊎_elim (λ (own : (i ≡ e) × (z ≡ new)). absurd (false≢true (sym alive ∙ ap (λ (y : Endpoint). y.gone) own.1 ∙ gone)))
    (λ (other : (i ≢ e) × (slice_get xs i ≡ Some z)). other) (set_which xs e i x new z here (ap (λ (zs : List Endpoint). slice_get zs i) (sym is) ∙ at))

still_by : (xs ys : List Endpoint) (e : ℕ) (new : Endpoint) → ys ≡ set xs e new → (i : ℕ) (z : Endpoint) → i ≢ e → slice_get xs i ≡ Some z → slice_get ys i ≡ Some z
still_by xs ys e new is i z other at = ap (λ (zs : List Endpoint). slice_get zs i) is ∙ set_there xs e i new other ∙ at

-- ---- the queues without that endpoint's

module _ (d g : DriverContent) (e : ℕ) (x : Endpoint) (here : slice_get d.endpoints e ≡ Some x) (idle : d.command ≡ None) (kept : x.gone ≡ false) (owners : HasOwners d) (turns : AsynchronousTakesTurns d) (gone : IsGoneFrom d g e) where
  was_met : (i : ℕ) (z : Endpoint) → IsMet g i z → IsMet d i z
  was_met i z m = record { there = idle_there d z idle m.there.kept; near = sym (met_alike d g i z z refl gone.waiting gone.rung) ∙ m.near }

  module _ (parts : StructureSets) where
    abbrev now : StructureSets
    now = without_queue parts (32 * x.queue)

    beside : (i : ℕ) (z : Endpoint) → slice_get g.endpoints i ≡ Some z → z.gone ≡ false → without_queue parts (32 * x.queue) (32 * z.queue) ≡ parts (32 * z.queue)
    beside i z at alive =
        let w = gone.others i z at alive in queue_beside parts (32 * x.queue) (32 * z.queue) (apart_by d i e z x owners turns w.1 alive here kept w.0)

    module _ (near narrow streams still_streams : ℕ → Bool) (ends : ℕ → Told) (order : ℕ → ℕ → ℕ) (outs : ℕ → List ℕ) (old : QueuesGoOn d near streams ends parts order outs) (all : AllStand g narrow still_streams ends (without_queue parts (32 * x.queue)) order outs) (none : g.mends ≡ []) where
      controls : ControlsStand g (without_queue parts (32 * x.queue)) order outs
      controls = record {
        rises = λ i z at there. subst (LinksRise (order (32 * z.queue))) (sym (beside i z at there.kept)) (old.controls.rises i z (gone.others i z at there.kept).1 (idle_there d z idle there.kept));
        sorted = λ i z at there. old.controls.sorted i z (gone.others i z at there.kept).1 (idle_there d z idle there.kept);
        stops = λ i z at m.
            subst (HaltStops (order (32 * z.queue)) (outs (32 * z.queue)) (32 * z.queue)) (sym (beside i z at m.there.kept)) (old.controls.stops i z (gone.others i z at m.there.kept).1 (was_met i z m));
        mends = record { queues = []; are = record { mends = none; owed = tt; wait = tt; apart = tt } };
      }

      sound : PartsStand g (without_queue parts (32 * x.queue))
      sound i z at m = subst (IsQueuePart (32 * z.queue)) (sym (beside i z at m.there.kept)) (old.sound i z (gone.others i z at m.there.kept).1 (was_met i z m))

      gone_goes : QueuesGoOn g narrow still_streams ends (without_queue parts (32 * x.queue)) order outs
      gone_goes = record {
        queues = all.queues;
        sound = sound;
        tails = λ i z at m.
            subst (λ (c : Option Command). Reaches g (now (32 * z.queue)) (order (32 * z.queue)) (outs (32 * z.queue)) i z (32 * tail_block c (slice_get g.transfers (length g.transfers - 1)) i z.dummy)) (sym gone.command)
            (all.tails i z at m);
        controls = controls;
      }

-- ---- the walk of the ring never met it

module _ (d f : DriverContent) (e : ℕ) (x : Endpoint) (here : slice_get d.endpoints e ≡ Some x) (idle : d.command ≡ None) (unmet : may_meet d e x ≡ false) (gone : IsGoneFrom d f e) where
  ring_head : (i : ℕ) → HasHead d i → HasHead f i
  ring_head i h =
      let other : h.number ≢ e = λ own.
      true≢false (sym h.met.near ∙ ap (λ (j : ℕ). may_meet d j h.endpoint) own ∙ ap (may_meet d e) (same_Some h.endpoint x (sym h.here ∙ ap (slice_get d.endpoints) own ∙ here)) ∙ unmet) in
      record {
        number = h.number;
        endpoint = h.endpoint;
        here = gone.still h.number h.endpoint other h.here;
        met = record { there = idle_there f h.endpoint gone.command h.met.there.kept; near = met_alike d f h.number h.endpoint h.endpoint refl gone.waiting gone.rung ∙ h.met.near };
        at = h.at;
      }

  ring_then : (member : ℕ → Bool) → AreMet d member → AreMet f member
  ring_then member old = record {
    head = old.head;
    each = λ i z at m.
        old.each i z (gone.others i z at m.there.kept).1 (record { there = idle_there d z idle m.there.kept; near = sym (met_alike d f i z z refl gone.waiting gone.rung) ∙ m.near });
    only = λ i on. ⊎_elim (λ (head : i ≡ 32 * head_block). inl head) (λ (h : HasHead d i). inr (ring_head i h)) (old.only i on);
  }

-- ---- the world

module _ (s : Standing) (w : World) (k : IsMixedAt s w) (e : ℕ) (is : driver_row (driver_parts w) ≡ rows.ReleaseRemoved (removed.Endpoint e)) (x : Endpoint) (here : slice_get w.driver.endpoints e ≡ Some x) (queue : is_iso x.desc.kind ≡ false) where
  abbrev d : DriverContent
  d = w.driver

  abbrev q : DriverContent
  q = queued w.driver

  abbrev p : Parts
  p = driver_parts w

  abbrev row : DriverRow
  row = rows.ReleaseRemoved (removed.Endpoint e)

  abbrev f : DriverContent
  f = (after_driver_row (rows.ReleaseRemoved (removed.Endpoint e)) (driver_parts w)).driver

  abbrev parts : StructureSets
  parts = without_queue s.parts (32 * x.queue)

  owners : HasOwners w.driver
  owners = k.now.framed.place.sound.owners

  due : IsRemovalDue (driver_parts w) (removed.Endpoint e)
  due = (row_gives_back_passed p (removed.Endpoint e) is).due

  one : IsRemoved w.driver.endpoints e
  one = first_removed e due.removal due.first due.is owners.orderly

  same : one.endpoint ≡ x
  same = same_Some one.endpoint x (sym one.here ∙ here)

  frames : is_periodic x.desc.kind ≡ true
  frames = ap (λ (z : Endpoint). is_periodic z.desc.kind) (sym same) ∙ one.frames

  kept : x.gone ≡ false
  kept = ap (λ (z : Endpoint). z.gone) (sym same) ∙ one.gone

  off : x.linked ≡ false
  off = false_from_ne_true x.linked (λ on. true≢false (sym frames ∙ (owners.orderly.steady e x here).ring on))

  -- it waits for no doorbell
  none_owed : leaves_ring (slice_get w.driver.endpoints e) ≡ 0
  none_owed = ap leaves_ring here ∙ ap (λ (b : Bool). cond {A = ℕ} (x.linked || x.gone || b) 0 1) frames ∙ ap (λ (b : Bool). cond {A = ℕ} b 0 1) (or_right (x.linked || x.gone) true refl)

  waits : is_one_of e w.driver.waiting ≡ false
  waits = false_from_ne_true (is_one_of e d.waiting) (λ on. let some = times_one e d.waiting on in let most = owners.orderly.leaving e in let none = none_owed in absurd (omega (arith, some, most, none)))

  rung : is_one_of e w.driver.rung ≡ false
  rung = false_from_ne_true (is_one_of e d.rung) (λ on. let some = times_one e d.rung on in let most = owners.orderly.leaving e in let none = none_owed in absurd (omega (arith, some, most, none)))

  unmet : may_meet w.driver e x ≡ false
  unmet = ap (λ (b : Bool). b || (is_one_of e d.waiting || is_one_of e d.rung)) off ∙ ap (λ (b : Bool). b || is_one_of e d.rung) waits ∙ rung

  -- ---- memory

  off_it : s.member (32 * x.queue) ≡ false
  off_it = off_ring d s.member e x owners k.ring here queue frames kept

  framed : FramedNext opening_base s.member s.recent s.descs (without_queue s.parts (32 * x.queue)) s.hand s.frame (controller_parts w) w.driver
  framed = endpoint_leaves_now opening_base s.member s.recent s.descs s.parts s.hand s.frame (controller_parts w) w.driver e x k.now is here queue off_it

  driver_is : (driver_next w).driver ≡ f
  driver_is = ap (λ (r : DriverRow). (after_driver_row r p).driver) is

  after_is : f ≡ removed_with (cancel_told w.driver w.memory e x) e x (is_told x) (free_placed w.driver e x (holding w.driver.book w.memory)).book
  after_is = ap (λ (o : Option Endpoint). (after_placed p e o).driver) here

  gone_f : IsGoneFrom w.driver f e
  gone_f =
      let r : DriverContent = cancel_told d w.memory e x in
      let b : Book = (free_placed d e x (holding d.book w.memory)).book in
      let same_ends = (cancel_same d w.memory e x).endpoints in
      let ends : (removed_with r e x (is_told x) b).endpoints ≡ set d.endpoints e (record x { gone = true }) = ap (λ (xs : List Endpoint). set xs e (record x { gone = true })) same_ends in
      subst (λ (h : DriverContent). IsGoneFrom d h e) (sym after_is)
      (record {
        command = told_same (λ (h : DriverContent). h.command) _ d (is_told x) refl ∙ due.idle;
        waiting = told_same (λ (h : DriverContent). h.waiting) _ d (is_told x) refl;
        rung = told_same (λ (h : DriverContent). h.rung) _ d (is_told x) refl;
        others = others_by d.endpoints (removed_with r e x (is_told x) b).endpoints e x (record x { gone = true }) here refl ends;
        still = still_by d.endpoints (removed_with r e x (is_told x) b).endpoints e (record x { gone = true }) ends;
      })

  -- ---- its queue

  abbrev y : Endpoint
  y = with_queue x

  told_here : slice_get (queued w.driver).endpoints e ≡ Some (with_queue x)
  told_here = queue_at d.endpoints e x here queue

  told_idle : (queued w.driver).command ≡ None
  told_idle = idle_told d due.idle

  told_linked : (with_queue x).linked ≡ true
  told_linked = ap (λ (b : Bool). cond b (not x.gone) x.linked) frames ∙ ap not kept

  told_owners : HasOwners (queued w.driver)
  told_owners = queued_has_owners d owners k.turns

  abbrev out_y : Endpoint
  out_y = record (with_queue x) { linked = false }

  abbrev out_q : DriverContent
  out_q = record (queued w.driver) { endpoints = set (queued w.driver).endpoints e (record (with_queue x) { linked = false }); cleared = e ∷ (queued w.driver).cleared }

  out_is : out_of_frames (queued w.driver) e ≡ out_q
  out_is = ap (out_by e q) told_here

  abbrev parts_out : Parts
  parts_out = record (queued_parts (driver_parts w)) { driver = out_q }

  back : IsGivenBackAlike (driver_parts w) e
  back = goes_back p e x owners k.turns due here queue

  out_owners : HasOwners out_q
  out_owners = subst HasOwners out_is back.owners

  out_turns : AsynchronousTakesTurns out_q
  out_turns = subst AsynchronousTakesTurns out_is back.turns

  abbrev g : DriverContent
  g = (after_driver_row (rows.ReleaseEndpoint e) parts_out).driver

  queues_alike : QueuesAlike g (queued f)
  queues_alike = subst (λ (o : DriverContent). QueuesAlike (after_driver_row (rows.ReleaseEndpoint e) (record (queued_parts p) { driver = o })).driver (queued f)) out_is back.queues

  book_is : f.book ≡ g.book
  book_is = subst (λ (o : DriverContent). f.book ≡ (after_driver_row (rows.ReleaseEndpoint e) (record (queued_parts p) { driver = o })).driver.book) out_is back.book

  out_here : slice_get (set (queued w.driver).endpoints e (record (with_queue x) { linked = false })) e ≡ Some (record (with_queue x) { linked = false })
  out_here = set_here q.endpoints e y out_y told_here

  leaves : IsToLeave out_q e out_y
  leaves = record { here = out_here; queued = told_queue x; held = kept; first = refl; none_before = due.none_before }

  abbrev fewer_near : ℕ → Bool
  fewer_near n = s.near n && not (n == 32 * x.queue)

  all : AllStand g fewer_near (met_streams s.streams fewer_near) s.ends parts s.order s.out
  all =
      endpoint_release_stands parts_out e out_y fewer_near (met_streams s.streams fewer_near) s.ends s.parts s.order s.out told_idle out_owners out_turns leaves
      (out_stands q e y told_here told_idle told_linked kept waits rung told_owners k.turns.turns s.near s.streams s.ends s.parts s.order s.out k.queues)

  -- ---- the driver of its queues then

  gone_is : g ≡ gone_with (cancel_told out_q w.memory e out_y) e out_y (is_told out_y) (free_endpoint out_q e out_y (holding out_q.book w.memory)).book
  gone_is = ap (λ (o : Option Endpoint). (after_endpoint parts_out e o).driver) out_here

  gone_g : IsGoneFrom (queued w.driver) g e
  gone_g =
      let r : DriverContent = cancel_told out_q w.memory e out_y in
      let b : Book = (free_endpoint out_q e out_y (holding out_q.book w.memory)).book in
      let new : Endpoint = record out_y { gone = true } in
      let same_ends = (cancel_same out_q w.memory e out_y).endpoints in
      let ends : (gone_with r e out_y (is_told out_y) b).endpoints ≡ set out_q.endpoints e new = ap (λ (xs : List Endpoint). set xs e new) same_ends in
      subst (λ (h : DriverContent). IsGoneFrom q h e) (sym gone_is)
      (record {
        command = told_same (λ (h : DriverContent). h.command) _ out_q (is_told out_y) refl ∙ told_idle;
        waiting = told_same (λ (h : DriverContent). h.waiting) _ out_q (is_told out_y) refl;
        rung = told_same (λ (h : DriverContent). h.rung) _ out_q (is_told out_y) refl;
        others = λ i z at alive.
            let one = others_by out_q.endpoints (gone_with r e out_y (is_told out_y) b).endpoints e out_y new out_here refl ends i z at alive in
            (one.0, sym (set_there q.endpoints e i out_y one.0) ∙ one.1);
        still = λ i z other at. still_by out_q.endpoints (gone_with r e out_y (is_told out_y) b).endpoints e new ends i z other (set_there q.endpoints e i out_y other ∙ at);
      })

  no_mends : g.mends ≡ []
  no_mends = given_mends (rows.ReleaseEndpoint e) parts_out refl ∙ given_owes_none p (ap gives_back is)

  goes : QueuesGoOn g fewer_near (met_streams s.streams fewer_near) s.ends parts s.order s.out
  goes = gone_goes q g e y told_here told_idle kept told_owners k.turns.turns gone_g s.parts s.near fewer_near s.streams (met_streams s.streams fewer_near) s.ends s.order s.out k.queues all no_mends

  goes_f : QueuesGoOn (queued f) fewer_near (met_streams s.streams fewer_near) s.ends parts s.order s.out
  goes_f = goes_on_alike g (queued f) fewer_near (met_streams s.streams fewer_near) s.ends parts s.order s.out queues_alike (same_lent g (queued f) book_is) goes

  -- ---- all of it

  ring : AreMet (driver_next w).driver s.member
  ring = subst (λ (h : DriverContent). AreMet h s.member) (sym driver_is) (ring_then d f e x here due.idle unmet gone_f s.member k.ring)

  abbrev after_it : Standing
  after_it = record s { near = fewer_near; streams = met_streams s.streams fewer_near; parts = parts }

  its_step : QueueStep s w (driver_next w) after_it
  its_step =
      step_goes e out_y (out_of_frames q e) after_it
      (record {
        left = left_its_frames is;
        leaves = subst (λ (o : DriverContent). IsToLeave o e out_y) (sym out_is) leaves;
        told = subst
            (λ (h : DriverContent). QueuesAlike (after_driver_row (rows.ReleaseEndpoint e) (record (queued_parts p) { driver = out_of_frames q e })).driver (queued h))
            (sym driver_is) back.queues;
      })
      (record { near = λ m. refl; streams = λ m. refl; ends = refl; order = refl; out = refl; parts = refl; hand = refl; frame = refl })

  removed_world : IsMixedNext s w (driver_next w)
  removed_world =
      mixed_next s w k after_it its_step framed ring
      (subst (λ (h : DriverContent). QueuesGoOn (queued h) fewer_near (met_streams s.streams fewer_near) s.ends parts s.order s.out) (sym driver_is) goes_f)
      (subst (IsUnderWay (driver_next w).driver (driver_next w).memory s.member s.recent parts) (sym (ap (λ (h : DriverContent). h.command) driver_is ∙ gone_f.command)) tt)

pub removed_mixed : (s : Standing) (w : World) (e : ℕ) (x : Endpoint) → IsMixedAt s w → driver_row (driver_parts w) ≡ rows.ReleaseRemoved (removed.Endpoint e) → slice_get w.driver.endpoints e ≡ Some x → is_iso x.desc.kind ≡ false → IsMixedNext s w (driver_next w)
removed_mixed s w e x k is here queue = removed_world s w k e is x here queue
