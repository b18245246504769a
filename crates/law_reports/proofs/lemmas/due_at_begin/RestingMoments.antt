-- Along a run a queue head that waits for its complete-splits stands as it did while none of them comes; so that the next one is due as its
-- microframe begins (EHCI 1.0, 4.12.2.4).
use Rattle.std.proofs.Common.{◌≡◌, ◌≢◌, ℕ, zero, suc, ◌+◌, ◌*◌, ◌<◌, Bool, true, false, if◌then◌else◌, List, [], ◌∷◌, Some, ap, refl, sym}
use Rattle.std.proofs.Common.{subst, ◌∙◌, arith}
use Rattle.std.specs.Prelude.{◌==◌, ◌&&◌, not}
use Rattle.std.proofs.lemmas.Bool.{true≢false}
use Rattle.law_microframes.proofs.Common.{in_list}
use Rattle.usb_base.specs.declared.commands.Cmd.{Cmd}
use Rattle.usb_base.specs.declared.packets.Speed.{Speed}
use Rattle.usb_base.specs.declared.packets.Speed.TheVariants as speeds
use Rattle.script_types.specs.declared.scripts.Event.TheVariants as events
use Rattle.script_types.specs.declared.scripts.Script.{Script}
use Rattle.script_text.specs.Faults.{Spells}
use Rattle.word_mem.specs.Memory.{word_at}
use Rattle.qh_qtd.specs.declared.queue_head.Qh.{Qh}
use Rattle.bandwidth.specs.declared.placements.Placement.{Placement}
use Rattle.bandwidth.specs.Placements.{is_classic}
use Rattle.bandwidth.specs.Sums.{is_active}
use Rattle.drv_table.specs.Words.{speed_field}
use Rattle.hc_interrupt.specs.declared.turns.Turn.TheVariants as turns
use Rattle.hc_interrupt.specs.Turns.{waits, turn_of}
use Rattle.periodic_walk.specs.Walk.{Walk, held_address, is_over}
use Rattle.hc_core.specs.declared.controller.ControllerRow.TheVariants as rows
use Rattle.hc_core.specs.declared.controller.MicroframePart.TheVariants.{Over, Periodic, Asynchronous}
use Rattle.hc_core.specs.declared.controller.MicroframePart.{MicroframePart}
use Rattle.hc_core.specs.Controller.{enter_row, part_row}
use Rattle.op_registers.specs.RegisterFile.{RegisterFile}
use Rattle.law_controller.proofs.Common.{over_not_periodic, asynchronous_not_periodic}
use Rattle.bus_wire.specs.Bus.{Fixed, fixed_of}
use Rattle.bus_world.specs.Budgets.{moment}
use Rattle.bus_world.specs.Orders.{Left, Events, Microframes, Answer, Command, Plugs, OrderedWorld, tick_at}
use Rattle.bus_world.specs.World.{World, controller_parts, controller_row, controller_next, driver_next, commanded}
use Rattle.claims_world.specs.Due.{IsActiveToken}
use Rattle.claims_world.specs.DueAtBegin.{IsUncancelled}
use Rattle.claims_world.specs.Owners.{LeavesControllers, is_controllers, KeepsToOwners}
use Rattle.claims_world.specs.SoFar.{SoFar, so_far}
use Rattle.claims_world.specs.SplitsAtBegin.{IsCompleteDue}
use Rattle.claims_world.specs.Visits.{began, frame_in}
use Rattle.law_world.specs.memory.Mixed.{IsMixedWorld}
use Rattle.law_world.proofs.lemmas.memory.Controller.{controller_keeps_mixed}
use Rattle.law_world.proofs.lemmas.memory.LetGo.{moment_then}
use Rattle.law_microframes.specs.visits.Belonging.{HeadsHaveFields}
use Rattle.law_microframes.proofs.lemmas.due.Aside.{IsAside}
use Rattle.law_microframes.proofs.lemmas.visits.BelongReads.{HasReadFields, read_fields}
use Rattle.law_microframes.proofs.lemmas.visits.ReasonParts.{command_control, command_bus}
use Rattle.law_reports.specs.due_at_begin.SplitsFollow.{IsWaitingIn, WaitsAs, RestsAtVisits, IsOutOfHand, IsItsTurn, TextsFollowStarts}
use Rattle.law_reports.specs.pipes.Declared.{Sides, sides_of}
use Rattle.law_reports.proofs.lemmas.due_at_begin.Aside.{its_words}
use Rattle.law_reports.proofs.lemmas.due_at_begin.InFrames.{IsStillIn, driver_uncancelled, driver_in_frames, command_uncancelled}
use Rattle.law_reports.proofs.lemmas.due_at_begin.InFrames.{command_in_frames}
use Rattle.law_reports.proofs.lemmas.due_at_begin.Moments.{IsKnown, known_at, mixed_then, heads_then_at, owned_at}
use Rattle.law_reports.proofs.lemmas.due_at_begin.Resting.{is_apart, IsResting, controller_rests, aside_rests}
use Rattle.law_reports.proofs.lemmas.due_at_begin.StartedMoments.{starts_wait}
use Rattle.law_reports.proofs.lemmas.due_at_begin.SplitTurns.{itself_as_due, waits_same, missed_same, waiting_split}

-- ---- one event or command

module _ (fixed : Fixed) (x : Sides) (b w : World) (t : SoFar) (k : IsKnown fixed x b w t) (e q : ℕ) (p : Placement) (v : Qh)
    (work : IsActiveToken v.token) (f : ℕ) (low : f < 1024) (active : is_active p f ≡ true)
    (rests : w.control.part ≡ Periodic → held_address w.control.frame.hand ≡ Some (32 * q) → turn_of w.control.frame.index v ≡ turns.Rest)
  where
    by_controller : IsResting w e q p v → IsResting (controller_next fixed w) e q p v
    by_controller = controller_rests fixed x b w t k (controller_keeps_mixed fixed w k.mixed) e q p v work rests

    by_aside : (later : World) → IsMixedWorld later → HeadsHaveFields later.driver later.memory → IsAside w later
        → ((r : IsResting w e q p v) → IsStillIn later e q p r.frames.endpoint.desc) → IsResting w e q p v → IsResting later e q p v
    by_aside later l heads_then aside still r =
        let s : IsStillIn later e q p r.frames.endpoint.desc = still r in
        aside_rests fixed w later k.mixed l aside k.heads heads_then e q p v work f low active r s.frames s.same

    by_driver : IsMixedWorld (driver_next w) → HeadsHaveFields (driver_next w).driver (driver_next w).memory
        → LeavesControllers (controller_parts w) (driver_next w).memory → IsUncancelled (driver_next w).driver e → IsResting w e q p v
        → IsResting (driver_next w) e q p v
    by_driver l heads_then leaves off =
        by_aside (driver_next w) l heads_then (record { control = refl; bus = refl; leaves = leaves })
        (λ r. driver_in_frames w k.mixed e q p l r.frames off)

    by_command : (n : ℕ) (cmd : Cmd) → IsMixedWorld (commanded w n cmd)
        → HeadsHaveFields (commanded w n cmd).driver (commanded w n cmd).memory
        → LeavesControllers (controller_parts w) (commanded w n cmd).memory → IsUncancelled (commanded w n cmd).driver e
        → IsResting w e q p v → IsResting (commanded w n cmd) e q p v
    by_command n cmd l heads_then leaves off =
        by_aside (commanded w n cmd) l heads_then
        (record { control = command_control w n cmd; bus = command_bus w n cmd; leaves = leaves })
        (λ r. command_in_frames w k.mixed n cmd e q p l r.frames off)

    pub rests_then : (orders : List Left) → IsMixedWorld (tick_at fixed w orders).world
        → HeadsHaveFields (tick_at fixed w orders).world.driver (tick_at fixed w orders).world.memory
        → KeepsToOwners (is_controllers orders) (controller_parts w) (tick_at fixed w orders).world.memory
        → IsUncancelled (tick_at fixed w orders).world.driver e → IsResting w e q p v → IsResting (tick_at fixed w orders).world e q p v
    rests_then [] l heads_then owns off r = r
    rests_then (Events event zero ∷ rest) l heads_then owns off r = r
    rests_then (Events events.C (suc n) ∷ rest) l heads_then owns off r = by_controller r
    rests_then (Events events.D (suc n) ∷ rest) l heads_then owns off r = by_driver l heads_then owns off r
    rests_then (Microframes zero ∷ rest) l heads_then owns off r = r
    rests_then (Microframes (suc n) ∷ rest) l heads_then owns off r = by_controller r
    rests_then (Answer ended n ∷ rest) l heads_then owns off r = by_driver l heads_then owns off r
    rests_then (Command n cmd ∷ rest) l heads_then owns off r = by_command n cmd l heads_then owns off r
    rests_then (Plugs there port ∷ rest) l heads_then owns off r = r

-- what isn't cancelled then wasn't before
pub uncancelled_then : (fixed : Fixed) (w : World) (e : ℕ) (orders : List Left) → IsUncancelled (tick_at fixed w orders).world.driver e
    → IsUncancelled w.driver e
uncancelled_then fixed w e [] off = off
uncancelled_then fixed w e (Events event zero ∷ rest) off = off
uncancelled_then fixed w e (Events events.C (suc n) ∷ rest) off = off
uncancelled_then fixed w e (Events events.D (suc n) ∷ rest) off = driver_uncancelled w e off
uncancelled_then fixed w e (Microframes zero ∷ rest) off = off
uncancelled_then fixed w e (Microframes (suc n) ∷ rest) off = off
uncancelled_then fixed w e (Answer ended n ∷ rest) off = driver_uncancelled w e off
uncancelled_then fixed w e (Command n cmd ∷ rest) off = command_uncancelled w n cmd e off
uncancelled_then fixed w e (Plugs there port ∷ rest) off = off

-- ---- a run

pub classic : (x : Speed) → (speed_field x == 2) ≡ false → is_classic x ≡ true
classic speeds.High is = absurd (true≢false is)
classic speeds.Full is = refl
classic speeds.Low is = refl

pub out_apart : (w : World) (n : ℕ) → IsOutOfHand w n → (a : ℕ) → w.control.part ≡ Periodic → held_address w.control.frame.hand ≡ Some a
    → n ≢ a
out_apart w n out a on is same = out on (is ∙ ap Some (sym same))

-- as a microframe begins the part of the frames isn't under way
enter_begin : (b : Bool) → enter_row b ≡ rows.Begin → ⊥
enter_begin true is = cc
enter_begin false is = cc

frame_begin : (goes b : Bool) → (if goes then rows.Frame else enter_row b) ≡ rows.Begin → ⊥
frame_begin true b is = cc
frame_begin false b is = enter_begin b is

part_begin : (r : RegisterFile) (f : Walk) (part : MicroframePart) → part_row r f part ≡ rows.Begin → part ≢ Periodic
part_begin r f Over is on = over_not_periodic on
part_begin r f Asynchronous is on = asynchronous_not_periodic on
part_begin r f Periodic is on = frame_begin (r.periodic_enable && not (is_over f)) r.async_enable is

pub begin_part : (run : Bool) (r : RegisterFile) (f : Walk) (part : MicroframePart)
    → (if run then part_row r f part else rows.Idle) ≡ rows.Begin → part ≢ Periodic
begin_part true r f part is = part_begin r f part is
begin_part false r f part is = cc

module _ (text : List ℕ) (s : Script) (spelled : Spells text s) (i e q : ℕ) (v : Qh) (out : IsOutOfHand (moment s i).world (32 * q))
    (x : IsWaitingIn (moment s i).world e q v) where
  abbrev p : Placement
  p = x.placement

  first : IsResting (moment s i).world e q x.placement v
  first = record {
    frames = x.there;
    stands = record { queue = v; read = x.read; due = itself_as_due v };
    hand = is_apart (out_apart (moment s i).world (32 * q) out);
  }

  abbrev RestsAt : ℕ → Type 0
  RestsAt k = IsResting (moment s k).world e q x.placement v

  one_more : (k : ℕ) → ((moment s k).world.control.part ≡ Periodic → held_address (moment s k).world.control.frame.hand ≡ Some (32 * q)
      → turn_of (moment s k).world.control.frame.index v ≡ turns.Rest)
      → IsUncancelled (moment s (suc k)).world.driver e → IsResting (moment s k).world e q x.placement v
      → IsResting (moment s (suc k)).world e q x.placement v
  one_more k rests off r =
      subst (λ (o : OrderedWorld). IsResting o.world e q x.placement v) (sym (moment_then s k))
      (rests_then (fixed_of s) (sides_of s) (began s k) (moment s k).world (so_far s k) (known_at text s spelled k) e q x.placement v
      (waiting_split v x.waiting).work (frame_in (moment s i).world.control.frame.index)
      (in_list (moment s i).world.control.frame.index) x.active rests (moment s k).orders (mixed_then text s spelled k)
      (heads_then_at text s spelled k) (owned_at text s spelled k)
      (subst (λ (o : OrderedWorld). IsUncancelled o.world.driver e) (moment_then s k) off) r)

  before : (k : ℕ) → IsUncancelled (moment s (suc k)).world.driver e → IsUncancelled (moment s k).world.driver e
  before k off =
      uncancelled_then (fixed_of s) (moment s k).world e (moment s k).orders
      (subst (λ (o : OrderedWorld). IsUncancelled o.world.driver e) (moment_then s k) off)

  resting : (n : ℕ) → RestsAtVisits s i n q v → IsUncancelled (moment s (i + n)).world.driver e
      → IsResting (moment s (i + n)).world e q x.placement v
  resting zero rests off = subst (λ (k : ℕ). RestsAt k) (let same : i ≡ i + 0 = omega arith in same) first
  resting (suc n) rests off =
      let same : i + suc n ≡ suc (i + n) = omega arith in
      let off_then : IsUncancelled (moment s (suc (i + n))).world.driver e =
      subst (λ (k : ℕ). IsUncancelled (moment s k).world.driver e) same off in
      subst (λ (k : ℕ). RestsAt k) (sym same)
      (one_more (i + n) (rests n (omega arith)) off_then
      (resting n (λ j less. rests j (omega (arith, less))) (before (i + n) off_then)))

  -- ---- it waits

  pub waits_as : (w : World) → IsResting w e q x.placement v → WaitsAs w e q x.placement v
  waits_as w r = record {
    there = r.frames;
    queue = r.stands.queue;
    read = r.stands.read;
    waiting = waits_same v r.stands.queue r.stands.due ∙ x.waiting;
    token = r.stands.due.token;
    progress = r.stands.due.progress;
    frame = r.stands.due.tag;
  }

  -- ---- its complete-split is due

  module _ (n : ℕ) (rests : RestsAtVisits s i n q v) (off : IsUncancelled (moment s (i + n)).world.driver e)
      (row : controller_row (moment s (i + n)).world ≡ rows.Begin)
      (turn : IsItsTurn (fixed_of s) (controller_next (fixed_of s) (moment s (i + n)).world) x.placement v) where
    abbrev w : World
    w = (moment s (i + n)).world

    abbrev fixed : Fixed
    fixed = fixed_of s

    known : IsKnown (fixed_of s) (sides_of s) (began s (i + n)) (moment s (i + n)).world (so_far s (i + n))
    known = known_at text s spelled (i + n)

    r : IsResting (moment s (i + n)).world e q x.placement v
    r = resting n rests off

    begins : IsResting (controller_next (fixed_of s) (moment s (i + n)).world) e q x.placement v
    begins =
        by_controller fixed (sides_of s) (began s (i + n)) w (so_far s (i + n)) known e q x.placement v (waiting_split v x.waiting).work
        (frame_in (moment s i).world.control.frame.index) (in_list (moment s i).world.control.frame.index) x.active
        (λ on is. absurd (begin_part w.registers.run w.registers w.control.frame w.control.part row on)) r

    slow : is_classic r.frames.endpoint.desc.speed ≡ true
    slow =
        let h : Qh = r.stands.queue in
        let read : HasReadFields (word_at w.memory (32 * q + 4)) (word_at w.memory (32 * q + 8)) h =
        read_fields w.memory (32 * q) h r.stands.read in
        let fields = its_words w known.mixed known.heads e q x.placement r.frames in
        classic r.frames.endpoint.desc.speed
        (ap (λ (n : ℕ). n == 2) (sym (read.eps ∙ fields.speed)) ∙ ap (λ (n : ℕ). n == 2) r.stands.due.eps
        ∙ (waiting_split v x.waiting).low)

    pub completes : IsCompleteDue (fixed_of s) (controller_next (fixed_of s) (moment s (i + n)).world) e q
    completes = record {
      split = record {
        placement = x.placement;
        there = r.frames;
        active = turn.active;
        classic = slow;
        free = turn.free;
        queue = begins.stands.queue;
        read = begins.stands.read;
      };
      waiting = waits_same v begins.stands.queue begins.stands.due ∙ x.waiting;
      unmissed = missed_same (controller_next fixed w).control.frame.index v begins.stands.queue begins.stands.due ∙ turn.unmissed;
      bit = turn.bit;
    }

-- ---- the law

pub texts_follow_starts : TextsFollowStarts
texts_follow_starts = λ text s spelled. record {
  starts = starts_wait text s spelled;
  stay = λ i n e q v out x rests off.
      waits_as text s spelled i e q v out x (moment s (i + n)).world (resting text s spelled i e q v out x n rests off);
  follow = λ i n e q v out x rests off row turn. completes text s spelled i e q v out x n rests off row turn;
}
