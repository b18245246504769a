-- Each step of a queue but the end of an open leaves the streams so: the controller moves what moves of them.
use Rattle.std.proofs.Common.{◌≡◌, ℕ, ◌&&◌, true, List, slice_get, Some, refl, sym, subst}
use Rattle.usb_base.specs.declared.packets.Way.TheVariants as ways
use Rattle.bus_wire.specs.Bus.{Fixed}
use Rattle.drv_table.specs.declared.content.Command.TheVariants as unfinished
use Rattle.drv_table.specs.declared.content.Endpoint.{Endpoint}
use Rattle.drv_table.specs.Rows.{driver_row}
use Rattle.law_driver.specs.queued_drivers.Queued.{queued}
use Rattle.law_controller.specs.controlled_streams.Unopened.{IsUntouched}
use Rattle.law_devices.specs.Senders.{sender_of}
use Rattle.law_devices.specs.scripted_takers.Takers.{taker_of}
use Rattle.law_world.specs.steps.Outs.{IsUntaken}
use Rattle.law_world.specs.steps.Streaming.{wired}
use Rattle.law_world.specs.memory.Mixed.{Standing, IsMixedAt}
use Rattle.law_world.specs.memory.Steps.{QueueStep}
use Rattle.law_world.specs.memory.pipe_steps.Laws.{IsNoOpening}
use Rattle.law_world.specs.memory.pipe_steps.Pipes.{PipesStand}
use Rattle.law_world.proofs.lemmas.memory.lemmas.pipe_steps.StepPipes.{each_step_keeps_pipes}
use Rattle.law_reports.specs.lines.Lined.{in_hand, Lines}
use Rattle.law_reports.specs.lines.TellingLaws.{IsTellingNext}
use Rattle.law_reports.proofs.lemmas.lines.Driven.{rows_keep_iso_going}
use Rattle.bus_world.specs.World.{World, driver_parts, driver_next}
use Rattle.law_reports.specs.pipes.Declared.{Sides}
use Rattle.law_reports.specs.pipes.Piped.{Heads, IsPiped}
use Rattle.law_reports.proofs.lemmas.pipes.Across.{WasIn, IsNowIn, was_in, is_now_in, opened_before, row_command, row_ends}
use Rattle.law_reports.proofs.lemmas.pipes.Carried.{fresh_carried, declared_carried, named_carried, by_way_carried}
use Rattle.law_reports.proofs.lemmas.pipes.NamesKept.{driver_keeps_names}
use Rattle.law_reports.proofs.lemmas.pipes.DrivenSteps.{none_more, none_nearer, heads_then}

module _ (fixed : Fixed) (x : Sides) (s : Standing) (m : Lines) (h : Heads) (w : World) (k : IsPiped fixed x s m h w) where
  abbrev new : World
  new = driver_next w

  -- ---- names

  pub was_end : (e : ℕ) (z : Endpoint) → slice_get (driver_next w).driver.endpoints e ≡ Some z → WasIn w.driver.endpoints e z
  was_end = was_in w.driver.endpoints (driver_next w).driver.endpoints (row_ends (driver_row (driver_parts w)) (driver_parts w))

  pub now_end : (e : ℕ) (y : Endpoint) → slice_get w.driver.endpoints e ≡ Some y → IsNowIn (driver_next w).driver.endpoints e y
  now_end = is_now_in w.driver.endpoints (driver_next w).driver.endpoints (row_ends (driver_row (driver_parts w)) (driver_parts w))

  pub opening_then : (q : ℕ) → (queued (driver_next w).driver).command ≡ Some (unfinished.Open q)
      → (queued w.driver).command ≡ Some (unfinished.Open q)
  opening_then = opened_before w.driver (driver_next w).driver (row_ends (driver_row (driver_parts w)) (driver_parts w))
      (row_command (driver_row (driver_parts w)) (driver_parts w))

  -- ---- a step

  -- the queue heads that are met still
  abbrev pub heads_left : Standing → Heads
  heads_left t = record { ins = λ n. h.ins n && t.near n; outs = λ n. h.outs n && t.near n; ends = h.ends }

  module _ (t : Standing) (step : QueueStep s w (driver_next w) t) (other : IsNoOpening step) (mixed : IsMixedAt t (driver_next w))
      (next : IsTellingNext s m w (driver_next w) t step) where
    fewer : (n : ℕ) → t.near n ≡ true → s.near n ≡ true
    fewer = none_nearer s w (driver_next w) t step other

    abbrev Stand : (ℕ → List (List ℕ)) → Type 0
    Stand acc = PipesStand x.sends x.takes x.packets sender_of taker_of t.near (heads_left t).ins (heads_left t).outs h.ends acc t.parts
        (in_hand t) (wired fixed w)

    pub driven : IsPiped fixed x t next.lines (heads_left t) (driver_next w)
    driven = record {
      mixed = mixed;
      telling = next.telling;
      going = rows_keep_iso_going s m w k.mixed k.telling k.going;
      declared = declared_carried x w.driver (driver_next w).driver was_end k.declared;
      descriptors = driver_keeps_names s w k.mixed k.descriptors;
      named = named_carried w.driver (driver_next w).driver s.near t.near k.mixed.now.framed.place.sound.owners k.mixed.queues.queues.met
          mixed.queues.queues.met (λ e z here met. was_end e z here) fewer h.ends k.named;
      by_way = by_way_carried w.driver (driver_next w).driver s.near t.near k.mixed.now.framed.place.sound.owners
          k.mixed.queues.queues.met mixed.queues.queues.met (λ e z here met. was_end e z here) fewer x.sends x.takes h.ins h.outs
          (heads_left t).ins (heads_left t).outs h.ends (λ n. refl) (λ n. refl) k.by_way;
      pipes = subst Stand (sym (none_more s w (driver_next w) t step other m next.lines next.after))
          (each_step_keeps_pipes sender_of taker_of x.sends x.takes x.packets h.ins h.outs (heads_left t).ins (heads_left t).outs h.ends
          m.acc
          (wired fixed w) s t w (driver_next w) k.mixed step other k.by_way (λ n. refl) (λ n. refl) k.pipes);
      new_heads = heads_then s w k.mixed k.new_heads t step other;
      fresh_ins = fresh_carried w.driver (driver_next w).driver now_end opening_then ways.In x.sends
          (λ addr ep. IsUntouched (x.packets addr ep) (sender_of (wired fixed w) addr ep)) k.fresh_ins;
      fresh_outs = fresh_carried w.driver (driver_next w).driver now_end opening_then ways.Out x.takes
          (λ addr ep. IsUntaken (taker_of (wired fixed w) addr ep)) k.fresh_outs;
    }
