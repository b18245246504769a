-- Async Advance is cleared, in a world with endpoints of every kind: the walk of the ring meets those queue heads no more that had left when the doorbell was rung.
use Rattle.std.proofs.Common.{◌≡◌, ◌⊎◌, ℕ, ◌*◌, ◌==◌, ◌||◌, ◌&&◌, Bool, true, false, slice_get, Option, Some, None, ap, refl, sym, subst, ◌∙◌, ⊎_elim, inl, inr}
use Rattle.std.proofs.lemmas.Bool.{eqb-true, eq-eqb, and_parts, and_from, or_cases, or_left, or_right, false≢true}
use Rattle.drv_table.specs.declared.content.Endpoint.{Endpoint}
use Rattle.drv_table.specs.declared.content.Command.{Command}
use Rattle.drv_table.specs.declared.rows.DriverRow.{DriverRow}
use Rattle.drv_table.specs.declared.rows.DriverRow.TheVariants as rows
use Rattle.drv_table.specs.DriverContent.{DriverContent}
use Rattle.drv_table.specs.Parts.{Parts}
use Rattle.drv_table.specs.Rows.{driver_row, after_driver_row}
use Rattle.drv_table.specs.Words.{head_block}
use Rattle.law_driver.specs.endpoint_lives.Lives.{any_at, is_one_of}
use Rattle.law_driver.proofs.lemmas.endpoint_lives.Lives.{any_there, there_any}
use Rattle.claims_driver.specs.Leaving.{HasOwners}
use Rattle.law_ring.specs.Stores.{IsWider}
use Rattle.claims_base.specs.Controller.{opening_base}
use Rattle.law_driver.specs.chained_transfers.AsynchronousTurns.{AsynchronousTakesTurns}
use Rattle.law_driver_ring.specs.fed_queues.Places.{IsMet, HasHead, AreMet}
use Rattle.law_queues.proofs.lemmas.mended_heads.Content.{any_one, alike_same, owed_on}
use Rattle.law_queues.proofs.lemmas.mended_heads.Standing.{stand_on, keeps_same}
use Rattle.law_queues.specs.reached_rings.Reaching.{may_reach, is_reached}
use Rattle.law_queues.specs.leaving_drivers.Before.{IsAsBefore, NearFewer}
use Rattle.law_queues.proofs.lemmas.leaving_drivers.Alike.{there_by}
use Rattle.law_queues.proofs.lemmas.leaving_drivers.Leaving.{clear_is_as_before}
use Rattle.law_world.specs.steps.left_queues.Standing.{met_streams, AllStand}
use Rattle.law_world.proofs.lemmas.steps.lemmas.left_queues.Clearing.{clear_stands}
use Rattle.law_world.specs.steps.control_queues.Controls.{ControlsStand}
use Rattle.law_world.proofs.lemmas.steps.lemmas.control_queues.Alike.{near_there, stand_still}
use Rattle.law_descriptors.specs.queue_events.Events.{PartsStand}
use Rattle.law_world.specs.memory.framed_memory.Now.{FramedNext}
use Rattle.law_world.proofs.lemmas.memory.lemmas.framed_memory.LeavingRing.{clear_narrows_now}
use Rattle.law_driver.specs.queued_drivers.Queued.{queued, queued_parts}
use Rattle.law_driver.proofs.lemmas.queued_drivers.RowEvents.{idle_told}
use Rattle.law_driver.proofs.lemmas.queued_drivers.RowOwners.{queued_has_owners}
use Rattle.bus_world.specs.World.{World, driver_parts, controller_parts, driver_next}
use Rattle.law_world.specs.memory.Mixed.{QueuesGoOn, IsUnderWay, Standing, IsMixedAt}
use Rattle.law_world.specs.memory.Steps.{QueueStep, narrows, IsMixedNext}
use Rattle.law_world.specs.memory.Laws.{RowKeepsMixed}
use Rattle.law_world.proofs.lemmas.memory.Next.{mixed_next}
use Rattle.law_world.proofs.lemmas.memory.RingBasis.{near_ring, due_is, queued_next, told_row}
use Rattle.law_world.proofs.lemmas.memory.CommandTails.{all_stand, tails_stand}

-- ---- whom the walk meets then

module _ (p : Parts) (rings : Bool) (owners : HasOwners p.driver) (idle : p.driver.command ≡ None) where
  abbrev old : DriverContent
  old = p.driver

  abbrev f : DriverContent
  f = (after_driver_row rows.ClearAdvance p).driver

  abbrev narrow : ℕ → Bool
  narrow n = is_reached f rings n

  before : IsAsBefore old f
  before = (clear_is_as_before p idle).0

  near : NearFewer old f
  near = (clear_is_as_before p idle).1

  abbrev is_there : ℕ → ℕ → Endpoint → Bool
  is_there n e x = (n == 32 * x.queue) && may_reach f rings e x

  was_met : (e : ℕ) (x : Endpoint) → slice_get old.endpoints e ≡ Some x → IsMet f e x → IsMet old e x
  was_met e x here m = record { there = there_by old x before.idle m.there.kept; near = near e x x here here m.near }

  -- none is rung any more
  narrow_each : (e : ℕ) (x : Endpoint) → slice_get f.endpoints e ≡ Some x → IsMet f e x → narrow (32 * x.queue) ≡ true
  narrow_each e x here m =
      let n = 32 * x.queue in
      or_right (n == 32 * head_block) (any_at (is_there n) f.endpoints) (there_any (is_there n) f.endpoints e x here (and_from (n == n) (may_reach f rings e x) (eq-eqb n n refl) m.near))

  narrow_only : (n : ℕ) → narrow n ≡ true → (n ≡ 32 * head_block) ⊎ HasHead f n
  narrow_only n on =
      ⊎_elim (λ (head : (n == 32 * head_block) ≡ true). inl (eqb-true n (32 * head_block) head))
      (λ (any : any_at (is_there n) f.endpoints ≡ true).
      let r = any_there (is_there n) f.endpoints any in
      let b = and_parts (n == 32 * r.endpoint.queue) (may_reach f rings r.number r.endpoint) r.is in
      inr (record {
        number = r.number;
        endpoint = r.endpoint;
        here = r.here;
        met = record { there = there_by f r.endpoint before.idle_now (near_ring old r.number r.endpoint owners r.here (near r.number r.endpoint r.endpoint r.here r.here b.1)).1; near = b.1 };
        at = eqb-true n (32 * r.endpoint.queue) b.0;
      }))
      (or_cases (n == 32 * head_block) (any_at (is_there n) f.endpoints) on)

  narrow_met : AreMet f narrow
  narrow_met = record {
    head = or_left (32 * head_block == 32 * head_block) (any_at (is_there (32 * head_block)) f.endpoints) (eq-eqb (32 * head_block) (32 * head_block) refl);
    each = narrow_each;
    only = narrow_only;
  }

  narrow_fewer : (member : ℕ → Bool) → AreMet old member → IsWider narrow member
  narrow_fewer member m n on =
      ⊎_elim (λ (head : n ≡ 32 * head_block). ap member head ∙ m.head)
      (λ (h : HasHead f n). ap member h.at ∙ m.each h.number h.endpoint h.here (was_met h.number h.endpoint h.here h.met)) (narrow_only n on)

-- ---- the world

less_near : (a b c : Bool) → a || (b || false) ≡ true → a || (b || c) ≡ true
less_near true b c on = refl
less_near false true c on = refl
less_near false false c on = absurd (false≢true on)

abbrev after_clear : Parts → DriverRow → ℕ → Bool
after_clear p row n = is_reached (after_driver_row row p).driver (after_driver_row row p).registers.doorbell n

module _ (s : Standing) (w : World) (k : IsMixedAt s w) (row : driver_row (driver_parts w) ≡ rows.ClearAdvance) where
  abbrev p : Parts
  p = driver_parts w

  abbrev d : DriverContent
  d = w.driver

  abbrev q : DriverContent
  q = queued d

  abbrev owners : HasOwners d
  owners = k.now.framed.place.sound.owners

  abbrev turns : AsynchronousTakesTurns q
  turns = k.turns.turns

  quiet : d.command ≡ None
  quiet = (due_is s w k rows.ClearAdvance row).0

  -- ---- memory

  abbrev rings_then : Bool
  rings_then = (after_driver_row rows.ClearAdvance (driver_parts w)).registers.doorbell

  abbrev narrower : ℕ → Bool
  narrower = after_clear (driver_parts w) (driver_row (driver_parts w))

  fewer : IsWider narrower s.member
  fewer = subst (λ (r : DriverRow). IsWider (after_clear p r) s.member) (sym row) (narrow_fewer p rings_then owners quiet s.member k.ring)

  ring : AreMet (driver_next w).driver narrower
  ring = subst (λ (r : DriverRow). AreMet (after_driver_row r p).driver (after_clear p r)) (sym row) (narrow_met p rings_then owners quiet)

  framed : FramedNext opening_base narrower s.recent s.descs s.parts s.hand s.frame (controller_parts w) d
  framed = clear_narrows_now opening_base s.member narrower s.recent s.descs s.parts s.hand s.frame (controller_parts w) d k.now row k.walking.walk k.walking.bell fewer (λ n. refl)

  none : (driver_next w).driver.command ≡ None
  none = ap (λ (r : DriverRow). (after_driver_row r p).driver.command) row ∙ quiet

  -- ---- queues

  abbrev g : DriverContent
  g = (after_driver_row rows.ClearAdvance (queued_parts (driver_parts w))).driver

  next_is : g ≡ queued (driver_next w).driver
  next_is = queued_next s w k rows.ClearAdvance row tt

  told_idle : q.command ≡ None
  told_idle = idle_told d quiet

  abbrev nearer : ℕ → Bool
  nearer n = is_reached (after_driver_row rows.ClearAdvance (queued_parts (driver_parts w))).driver false n

  all : AllStand g nearer (met_streams s.streams nearer) s.ends s.parts s.order s.out
  all =
      clear_stands (queued_parts p) s.near nearer s.streams s.ends s.parts s.order s.out false told_idle (queued_has_owners d owners k.turns) turns (λ n. refl)
      (all_stand q s.near s.streams s.ends s.parts s.order s.out told_idle k.queues)

  sound : PartsStand g s.parts
  sound e y at met =
      k.queues.sound e y at
      (record { there = record { linked = met.there.linked; kept = met.there.kept }; near = less_near y.linked (is_one_of e q.waiting) (is_one_of e q.rung) met.near })

  controls : ControlsStand g s.parts s.order s.out
  controls =
      stand_still q g s.parts s.order s.out (near_there q g refl (λ b is. is) (λ i y on. less_near y.linked (is_one_of i q.waiting) (is_one_of i q.rung) on))
      (stand_on q g s.parts s.parts s.out s.out refl (λ u owed. owed_on any_one q g u (alike_same any_one q g refl refl refl).owed owed tt) (λ u owed. keeps_same s.parts s.out (32 * u.queue)) k.queues.controls.mends)
      k.queues.controls

  go : QueuesGoOn g nearer (met_streams s.streams nearer) s.ends s.parts s.order s.out
  go = record { queues = all.queues; sound = sound; tails = tails_stand g s.parts s.order s.out told_idle all.tails; controls = controls }

  abbrev after_it : Standing
  after_it = record s { member = narrower; near = nearer; streams = met_streams s.streams nearer }

  its_step : QueueStep s w (driver_next w) after_it
  its_step =
      narrows narrower nearer (told_row s w k rows.ClearAdvance row tt) (λ n. refl)
      (narrow_fewer (queued_parts p) false (queued_has_owners d owners k.turns) told_idle s.near k.queues.queues.met)

  cleared_next : IsMixedNext s w (driver_next w)
  cleared_next =
      mixed_next s w k after_it its_step framed ring
      (subst (λ (f : DriverContent). QueuesGoOn f nearer (met_streams s.streams nearer) s.ends s.parts s.order s.out) next_is go)
      (subst (λ (c : Option Command). IsUnderWay (driver_next w).driver (driver_next w).memory narrower s.recent s.parts c) (sym none) tt)

pub clear_mixed : RowKeepsMixed rows.ClearAdvance
clear_mixed s w k row = cleared_next s w k row
