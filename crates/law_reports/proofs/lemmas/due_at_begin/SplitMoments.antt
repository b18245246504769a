-- Each event and each command leaves what was due of an interrupt endpoint below a hub as the microframe began in its stage, until it is
-- done.
use Rattle.std.proofs.Common.{◌≡◌, ◌≢◌, ℕ, zero, suc, ◌*◌, ◌≤◌, Bool, true, false, List, [], ◌∷◌, Option, Some, None, ap, refl, sym}
use Rattle.std.proofs.Common.{subst, ◌∙◌}
use Rattle.std.proofs.Common.{slice_get, ⊎_elim, arith}
use Rattle.law_microframes.proofs.Common.{in_list, repeats_less, frame_row}
use Rattle.usb_base.specs.declared.commands.Cmd.{Cmd}
use Rattle.usb_base.specs.declared.endpoints.EpDesc.{EpDesc}
use Rattle.usb_base.specs.declared.packets.EpKind.TheVariants.{Interrupt}
use Rattle.script_types.specs.declared.scripts.Event.TheVariants as events
use Rattle.qh_qtd.specs.declared.queue_head.Qh.{Qh}
use Rattle.bandwidth.specs.declared.placements.Placement.{Placement}
use Rattle.bandwidth.specs.Sums.{is_active}
use Rattle.hc_masks.specs.Masks.{has}
use Rattle.drv_periodic_table.specs.Periodic.{is_periodic, dir_of}
use Rattle.drv_table.specs.declared.content.Endpoint.{Endpoint}
use Rattle.drv_table.specs.Words.{is_high}
use Rattle.hc_interrupt.specs.declared.turns.Turn.TheVariants as turns
use Rattle.hc_interrupt.specs.Turns.{microframe_of, turn_of}
use Rattle.periodic_walk.specs.declared.state.Hand.TheVariants as hands
use Rattle.periodic_walk.specs.declared.state.HeldQueue.{HeldQueue}
use Rattle.periodic_walk.specs.Walk.{held_address}
use Rattle.hc_core.specs.declared.controller.ControllerRow.{ControllerRow}
use Rattle.hc_core.specs.declared.controller.ControllerRow.TheVariants as rows
use Rattle.hc_core.specs.declared.controller.MicroframePart.TheVariants.{Periodic}
use Rattle.hc_core.specs.Controller.{Control}
use Rattle.bus_wire.specs.Bus.{Bus, Fixed, is_held as may_not_be_used}
use Rattle.bus_world.specs.Orders.{Left, Events, Microframes, Answer, Command, Plugs, tick_at}
use Rattle.bus_world.specs.World.{World, controller_parts, controller_row, controller_next, driver_next, commanded, kind_next}
use Rattle.claims_world.specs.Carried.{carried_in}
use Rattle.claims_world.specs.Coming.{IsInItsFrames}
use Rattle.claims_world.specs.DueAtBegin.{IsUncancelled}
use Rattle.claims_world.specs.InTime.{IsInTime}
use Rattle.claims_world.specs.Owners.{LeavesControllers, is_controllers, KeepsToOwners}
use Rattle.claims_world.specs.QueuesMade.{QueueMade, made_as, made_at, made_after, made_next, HasMade}
use Rattle.claims_world.specs.SoFar.{SoFar, nothing_yet, so_far_after, so_far_next}
use Rattle.claims_world.specs.Visits.{began_at, began_by, frame_in, is_held_now}
use Rattle.claims_world.specs.WithinLoad.{repeats_at, repeats_after, repeats_next}
use Rattle.law_world.specs.steps.Streaming.{begins_by, transacts_by, wired}
use Rattle.law_world.specs.memory.Mixed.{Standing, IsMixedWorld}
use Rattle.law_world.specs.streams.Left.{AreNamed}
use Rattle.law_world.proofs.lemmas.steps.StreamTurning.{world_has_row}
use Rattle.law_microframes.specs.due.repeats.Hearing.{is_control_way, IsHeardOn}
use Rattle.law_microframes.specs.time.DataQueues.{pid_of, way_of, GoesBy, QueuesSendData}
use Rattle.law_microframes.specs.visits.Belonging.{HeadsHaveFields, a_queue}
use Rattle.law_microframes.proofs.lemmas.due.Aside.{IsAside, goes_still}
use Rattle.law_microframes.proofs.lemmas.due.lemmas.repeats.AskedHeads.{no_control}
use Rattle.law_microframes.proofs.lemmas.time.DataControlled.{controller_keeps_data}
use Rattle.law_microframes.proofs.lemmas.time.DataHeads.{mixed_worlds_read_data}
use Rattle.law_microframes.proofs.lemmas.visits.BelongQueues.{alive, belongs_by}
use Rattle.law_microframes.proofs.lemmas.visits.NoneLeftWalking.{index_stays}
use Rattle.law_microframes.proofs.lemmas.visits.ReasonParts.{command_control, command_bus}
use Rattle.law_reports.specs.lines.Lined.{Lines}
use Rattle.law_reports.specs.pipes.Declared.{Sides}
use Rattle.law_reports.specs.pipes.Piped.{Heads, IsPiped}
use Rattle.law_reports.proofs.lemmas.due_at_begin.Ahead.{HasWork}
use Rattle.law_reports.proofs.lemmas.due_at_begin.Aside.{aside_work}
use Rattle.law_reports.proofs.lemmas.due_at_begin.Asking.{BusGoes}
use Rattle.law_reports.proofs.lemmas.due_at_begin.InFrames.{IsStillIn, driver_uncancelled, driver_in_frames, command_uncancelled}
use Rattle.law_reports.proofs.lemmas.due_at_begin.InFrames.{command_in_frames}
use Rattle.law_reports.proofs.lemmas.due_at_begin.Moments.{IsKnown}
use Rattle.law_reports.proofs.lemmas.due_at_begin.SplitStages.{IsTransactionDue, HaveRoom, Brings, IsSplitHeld, IsSplitTold, SplitStage}
use Rattle.law_reports.proofs.lemmas.due_at_begin.SplitStages.{is_ahead}
use Rattle.law_reports.proofs.lemmas.due_at_begin.SplitStages.{is_held, is_told, is_done, more_made, split_held, split_written, split_ahead}
use Rattle.law_reports.proofs.lemmas.due_at_begin.SplitHeads.{AreSized}
use Rattle.law_reports.proofs.lemmas.due_at_begin.SplitTurns.{take_turn}
use Rattle.law_reports.proofs.lemmas.due_at_begin.Stages.{past_frames, begins_walk}
use Rattle.law_reports.proofs.lemmas.due_at_begin.Written.{written_bus}

-- ---- due of an endpoint as a microframe begins

pub record IsDueOf (fixed : Fixed) (b : World) (e q : ℕ) (x : EpDesc) (B : Bus → Type 0) (P : QueueMade → Type 0) : Type 0 where
  pub placement : Placement
  pub there : IsInItsFrames b.driver e q placement
  pub desc : there.endpoint.desc ≡ x
  pub low : is_high x.speed ≡ false
  pub active : is_active placement (frame_in b.control.frame.index) ≡ true
  pub free : is_held_now fixed b ≡ false
  pub queue : Qh
  pub overlay : Bool
  pub work : HasWork b.memory (32 * q) queue overlay
  pub bit : overlay ≡ false → has placement.smask (microframe_of b.control.frame.index) ≡ true
  pub due : IsTransactionDue fixed x B b.control.frame.index (32 * q) queue P
  pub bus : B b.bus

-- ---- what is carried: of what was due as the microframe of the world b began, in the world w of the same microframe

pub record IsSplitWaiting (fixed : Fixed) (b w : World) (t : SoFar) (ms : List QueueMade) (e q : ℕ) (x : EpDesc) (B A : Bus → Type 0)
    (P : QueueMade → Type 0) : Type 0 where
  pub placement : Placement
  pub was : IsInItsFrames b.driver e q placement
  pub active : is_active placement (frame_in b.control.frame.index) ≡ true
  pub frames : IsInItsFrames w.driver e q placement
  pub desc : frames.endpoint.desc ≡ x
  pub low : is_high x.speed ≡ false
  pub index : w.control.frame.index ≡ b.control.frame.index
  pub queue : Qh
  pub due : IsTransactionDue fixed x B b.control.frame.index (32 * q) queue P
  pub brings : Brings fixed x B A queue
  pub stage : SplitStage fixed x B A w t ms q b.control.frame.index placement queue P

-- what is known of the endpoints of a moment beside `IsKnown`
pub record AreKnown (fixed : Fixed) (w : World) : Type 0 where
  pub named : AreNamed w.driver
  pub sized : AreSized w.driver
  pub hears : (e : ℕ) (y : Endpoint) → slice_get w.driver.endpoints e ≡ Some y → is_high y.desc.speed ≡ false
      → is_control_way y.desc.name.way ≡ false → IsHeardOn fixed w.bus y.desc
  pub room : HaveRoom w.bus

-- .. of all that is due so
module _ (D : World → ℕ → ℕ → Type 0) (X : (b : World) (e q : ℕ) → D b e q → EpDesc)
    (B A : (b : World) (e q : ℕ) → D b e q → Bus → Type 0) (P : (b : World) (e q : ℕ) → D b e q → QueueMade → Type 0) where
  abbrev pub AreSplitsWaiting : Fixed → World → World → SoFar → List QueueMade → ℕ → Type 0
  AreSplitsWaiting fixed b w t ms again =
      again ≤ 4000000 → (e q : ℕ) (d : D (controller_next fixed b) e q) → IsUncancelled w.driver e
      → IsSplitWaiting fixed (controller_next fixed b) w t ms e q (X (controller_next fixed b) e q d) (B (controller_next fixed b) e q d)
      (A (controller_next fixed b) e q d) (P (controller_next fixed b) e q d)

  -- what is due comes so
  abbrev pub Comes : Fixed → Type 0
  Comes fixed =
      (b : World) → IsMixedWorld b → HeadsHaveFields b.driver b.memory → QueuesSendData b.driver b.memory → (e q : ℕ) (d : D b e q)
      → (i : IsDueOf fixed b e q (X b e q d) (B b e q d) (P b e q d)) × Brings fixed (X b e q d) (B b e q d) (A b e q d) i.queue

  -- an event of the controller leaves what holds of the bus since its transaction was written back
  abbrev pub GoesAfter : Fixed → World → World → List QueueMade → Type 0
  GoesAfter fixed b w ms =
      (e q : ℕ) (d : D b e q) → IsUncancelled w.driver e → HasMade (P b e q d) ms → controller_row w ≢ rows.Begin → A b e q d w.bus
      → A b e q d (controller_next fixed w).bus

  -- an event of the walk of the frames at another structure leaves what has to hold of the bus
  abbrev pub StaysBeside : Fixed → Type 0
  StaysBeside fixed =
      (x : Sides) (s : Standing) (m : Lines) (h : Heads) (w : World) → IsPiped fixed x s m h w → AreNamed w.driver → (b : World) (e q : ℕ)
      (d : D b e q) (y : Endpoint) → slice_get w.driver.endpoints e ≡ Some y → y.desc.kind ≡ Interrupt → y.desc ≡ X b e q d → (c : Bus)
      → BusGoes fixed w e c → B b e q d w.bus → B b e q d c

  module _ (fixed : Fixed) (comes : Comes fixed) (stays : StaysBeside fixed)
      (x : Sides) (b w : World) (t : SoFar) (ms : List QueueMade) (again : ℕ) (k : IsKnown fixed x b w t) (are : AreKnown fixed w)
      (timely : IsInTime fixed again w) (after : GoesAfter fixed (controller_next fixed b) w ms)
      (all : AreSplitsWaiting fixed b w t ms again) where
    abbrev new : World
    new = controller_next fixed w

    index_on : controller_row w ≢ rows.Begin → (controller_next fixed w).control.frame.index ≡ w.control.frame.index
    index_on other =
        index_stays begins_by transacts_by (controller_parts w) (wired fixed w) (controller_parts new) (wired fixed new) (controller_row w)
        other
        (world_has_row fixed w)

    -- ---- the walk of the frames

    module _ (row : controller_row w ≡ rows.Frame) where
      abbrev moves : List QueueMade
      moves = made_at w.control.frame.hand w.control.frame.reply (kind_next w) ms

      module _ (y : EpDesc) (low : is_high y.speed ≡ false) (C E : Bus → Type 0) where
        abbrev After : ℕ → ℕ → Placement → Qh → (QueueMade → Type 0) → Type 0
        After q f p v R = SplitStage fixed y C E (controller_next fixed w) (so_far_after rows.Frame w t) moves q f p v R

        -- it stands on the bus
        heard_now : (e q : ℕ) (p : Placement) (i : IsInItsFrames w.driver e q p) → i.endpoint.desc ≡ y → IsHeardOn fixed w.bus y
        heard_now e q p i its =
            subst (IsHeardOn fixed w.bus) its
            (are.hears e i.endpoint i.here (ap (λ (d : EpDesc). is_high d.speed) its ∙ low)
            (no_control i.endpoint.desc (k.mixed.mixed.turns.kinds_fit e i.endpoint i.here) i.kind))

        -- the copy in hand asks by its way
        pid_now : (e q : ℕ) (p : Placement) (i : IsInItsFrames w.driver e q p) → i.endpoint.desc ≡ y → (h : HeldQueue)
            → w.control.part ≡ Periodic → w.control.frame.hand ≡ Some (hands.Queue h) → h.copy.at ≡ 32 * q
            → h.copy.queue_head.token.active ≡ true → h.copy.queue_head.token.pid ≡ pid_of (dir_of y.name.way)
        pid_now e q p i its h on hand at active =
            let owners = k.mixed.mixed.now.framed.place.sound.owners in
            let goes : GoesBy w.driver (32 * i.endpoint.queue) (way_of i.endpoint) = record {
              at = record {
                belongs = belongs_by w.driver owners k.mixed.mixed.now.planned (32 * i.endpoint.queue) e i.endpoint i.here
                    (alive w.driver owners e i.endpoint i.here i.chained) (ap is_periodic i.kind) (a_queue i.kind refl);
                kind = i.kind;
                name = refl;
              };
              way = refl;
            } in
            (mixed_worlds_read_data w k.mixed k.sends).copies h (way_of i.endpoint)
            (subst (λ (n : ℕ). GoesBy w.driver n (way_of i.endpoint)) (ap (λ (n : ℕ). 32 * n) i.queue ∙ sym at) goes) on hand active
            ∙ ap (λ (d : EpDesc). pid_of (dir_of d.name.way)) its

        frame_stage : again ≤ 4000000 → (e q f : ℕ) (p : Placement) (v : Qh) (R : QueueMade → Type 0) (i : IsInItsFrames w.driver e q p)
            → i.endpoint.desc ≡ y
            → ((s : Standing) (m : Lines) (h : Heads) → IsPiped fixed x s m h w → (c : Bus) → BusGoes fixed w e c → C w.bus → C c)
            → IsTransactionDue fixed y C f (32 * q) v R → Brings fixed y C E v
            → (HasMade R ms → E w.bus → E (controller_next fixed w).bus) → SplitStage fixed y C E w t ms q f p v R → After q f p v R
        frame_stage few e q f p v R i its beside d brings goes (is_ahead a) =
            let g = k.followed in
            let tells = k.tells (λ is. let never : rows.Frame ≡ rows.Begin = sym row ∙ is in cc never) in
            split_ahead fixed x g.standing g.lines g.heads w g.followed.piped k.heads k.sends row tells e q p i
            (ap (λ (d : EpDesc). is_high d.speed) its ∙ low) (are.sized e i.endpoint i.here) y its C E
            (beside g.standing g.lines g.heads g.followed.piped) f v R t moves a
        frame_stage few e q f p v R i its beside d brings goes (is_held s) =
            ⊎_elim {C = After q f p v R} (λ (u : IsSplitHeld fixed y C (controller_next fixed w) (32 * q) f v). is_held u)
            (λ (u : IsSplitTold (controller_next fixed w) R × E (controller_next fixed w).bus). is_told u.0 u.1)
            (split_held fixed y C w k.mixed q f v R d E brings s (pid_now e q p i its s.held s.periodic s.hand s.at) (heard_now e q p i its)
            are.room again few timely)
        frame_stage few e q f p v R i its beside d brings goes (is_told s left) =
            let g = k.followed in
            is_done (split_written fixed y C w k.mixed q f v R d row ms s)
            (subst E (sym (written_bus fixed x g.standing g.lines g.heads w g.followed.piped k.heads k.sends row s.held s.hand s.outcome
            s.settled)) left)
        frame_stage few e q f p v R i its beside d brings goes (is_done u left) =
            is_done (more_made R w.control.frame.hand w.control.frame.reply (kind_next w) ms u) (goes u left)

      frame_goes : AreSplitsWaiting fixed b (controller_next fixed w) (so_far_after rows.Frame w t) moves
          (repeats_at w.control.frame.hand (kind_next w) again)
      frame_goes few e q d off =
          let less = repeats_less w.control.frame.hand (kind_next w) again in
          let little : again ≤ 4000000 = omega (arith, few, less) in
          let old = all little e q d off in
          record {
            placement = old.placement;
            was = old.was;
            active = old.active;
            frames = old.frames;
            desc = old.desc;
            low = old.low;
            index = index_on (λ is. let never : rows.Frame ≡ rows.Begin = sym row ∙ is in cc never) ∙ old.index;
            queue = old.queue;
            due = old.due;
            brings = old.brings;
            stage = frame_stage (X (controller_next fixed b) e q d) old.low (B (controller_next fixed b) e q d)
                (A (controller_next fixed b) e q d) little e q (controller_next fixed b).control.frame.index old.placement old.queue
                (P (controller_next fixed b) e q d) old.frames old.desc
                (λ s m h piped c goes had. stays x s m h w piped are.named (controller_next fixed b) e q d old.frames.endpoint
                old.frames.here old.frames.kind old.desc c goes had)
                old.due old.brings
                (λ made left. after e q d off made (λ is. let never : rows.Frame ≡ rows.Begin = sym row ∙ is in cc never) left) old.stage;
          }

    -- ---- once the walk of the frames is over it came to each

    past_goes : controller_row w ≢ rows.Frame → controller_row w ≢ rows.Begin
        → AreSplitsWaiting fixed b (controller_next fixed w) t ms again
    past_goes off_frames off_begin few e q d off =
        let old = all few e q d off in
        record {
          placement = old.placement;
          was = old.was;
          active = old.active;
          frames = old.frames;
          desc = old.desc;
          low = old.low;
          index = index_on off_begin ∙ old.index;
          queue = old.queue;
          due = old.due;
          brings = old.brings;
          stage = over old.placement old.queue old.was old.active old.frames old.index old.stage;
        }
      where
        over : (p : Placement) (v : Qh) → IsInItsFrames (controller_next fixed b).driver e q p
            → is_active p (frame_in (controller_next fixed b).control.frame.index) ≡ true → IsInItsFrames w.driver e q p
            → w.control.frame.index ≡ (controller_next fixed b).control.frame.index
            → SplitStage fixed (X (controller_next fixed b) e q d) (B (controller_next fixed b) e q d) (A (controller_next fixed b) e q d)
            w t ms q (controller_next fixed b).control.frame.index p v (P (controller_next fixed b) e q d)
            → SplitStage fixed (X (controller_next fixed b) e q d) (B (controller_next fixed b) e q d) (A (controller_next fixed b) e q d)
            (controller_next fixed w) t ms q (controller_next fixed b).control.frame.index p v (P (controller_next fixed b) e q d)
        over p v was active frames index (is_ahead a) =
            let c = k.comes e q p (past_frames w k.mixed off_frames) was frames
            (ap (λ (i : ℕ). is_active p (frame_in i)) index ∙ active) in
            absurd (a.unfound c.0 c.1)
        over p v was active frames index (is_held s) = absurd (off_frames (frame_row w (hands.Queue s.held) k.mixed s.periodic s.hand))
        over p v was active frames index (is_told s left) = absurd (off_frames (frame_row w (hands.Queue s.held) k.mixed s.periodic s.hand))
        over p v was active frames index (is_done u left) = is_done u (after e q d off u off_begin left)

    -- ---- a microframe begins

    begin_goes : controller_row w ≡ rows.Begin → IsMixedWorld (controller_next fixed w)
        → HeadsHaveFields (controller_next fixed w).driver (controller_next fixed w).memory → (again_then : ℕ)
        → AreSplitsWaiting fixed w (controller_next fixed w) nothing_yet [] again_then
    begin_goes row l heads_then again_then few e q d off =
        let c = comes (controller_next fixed w) l heads_then (controller_keeps_data fixed w k.mixed k.sends) e q d in
        let n : IsDueOf fixed (controller_next fixed w) e q (X (controller_next fixed w) e q d) (B (controller_next fixed w) e q d)
        (P (controller_next fixed w) e q d) = c.0 in
        let g = begins_walk fixed w row l in
        record {
          placement = n.placement;
          was = n.there;
          active = n.active;
          frames = n.there;
          desc = n.desc;
          low = n.low;
          index = refl;
          queue = n.queue;
          due = n.due;
          brings = c.1;
          stage = is_ahead (record {
            periodic = g.periodic;
            index = refl;
            free = n.free;
            unfound = λ o was. was;
            apart = λ a is. absurd (none_held a (sym (ap held_address g.nothing) ∙ is));
            overlay = n.overlay;
            work = n.work;
            bit = n.bit;
            bus = n.bus;
          });
        }
      where
        none_held : (a : ℕ) → ◌≡◌ {A = Option ℕ} None (Some a) → ⊥
        none_held a is = cc

    by_row : (r : ControllerRow) → controller_row w ≡ r → IsMixedWorld (controller_next fixed w)
        → HeadsHaveFields (controller_next fixed w).driver (controller_next fixed w).memory
        → AreSplitsWaiting fixed (began_at r w b) (controller_next fixed w) (so_far_after r w t) (made_after r w ms)
        (repeats_after r (kind_next w) (controller_parts w) again)
    by_row rows.Begin is l heads_then = begin_goes is l heads_then 0
    by_row rows.Frame is l heads_then = frame_goes is
    by_row rows.Idle is l heads_then = past_goes (λ row. let never : rows.Idle ≡ rows.Frame = sym is ∙ row in cc never)
        (λ row. let never : rows.Idle ≡ rows.Begin = sym is ∙ row in cc never)
    by_row rows.Enter is l heads_then = past_goes (λ row. let never : rows.Enter ≡ rows.Frame = sym is ∙ row in cc never)
        (λ row. let never : rows.Enter ≡ rows.Begin = sym is ∙ row in cc never)
    by_row rows.Go is l heads_then = past_goes (λ row. let never : rows.Go ≡ rows.Frame = sym is ∙ row in cc never)
        (λ row. let never : rows.Go ≡ rows.Begin = sym is ∙ row in cc never)
    by_row rows.End is l heads_then = past_goes (λ row. let never : rows.End ≡ rows.Frame = sym is ∙ row in cc never)
        (λ row. let never : rows.End ≡ rows.Begin = sym is ∙ row in cc never)

    by_controller : IsMixedWorld (controller_next fixed w)
        → HeadsHaveFields (controller_next fixed w).driver (controller_next fixed w).memory
        → AreSplitsWaiting fixed (began_by fixed w b) (controller_next fixed w) (so_far_next fixed w t) (made_next fixed w ms)
        (repeats_next fixed w again)
    by_controller l heads_then = by_row (controller_row w) refl l heads_then

    -- ---- the driver

    module _ (later : World) (l : IsMixedWorld later) (heads_then : HeadsHaveFields later.driver later.memory) (aside : IsAside w later)
        (back : (e : ℕ) → IsUncancelled later.driver e → IsUncancelled w.driver e)
        (still : (e q : ℕ) (p : Placement) (i : IsInItsFrames w.driver e q p) → IsUncancelled later.driver e
        → IsStillIn later e q p i.endpoint.desc) where
      aside_stage : (y : EpDesc) (C E : Bus → Type 0) (e q f : ℕ) (p : Placement) (v : Qh) (R : QueueMade → Type 0)
          (i : IsInItsFrames w.driver e q p) (j : IsInItsFrames later.driver e q p) → j.endpoint.desc ≡ i.endpoint.desc
          → is_active p (frame_in f) ≡ true → SplitStage fixed y C E w t ms q f p v R → SplitStage fixed y C E later t ms q f p v R
      aside_stage y C E e q f p v R i j same active (is_ahead a) = is_ahead (record {
        periodic = ap (λ (c : Control). c.part) aside.control ∙ a.periodic;
        index = ap (λ (c : Control). c.frame.index) aside.control ∙ a.index;
        free = ap (λ (z : Bus). may_not_be_used fixed.holds z.microframe) aside.bus ∙ a.free;
        unfound = a.unfound;
        apart = λ n is. a.apart n (ap (λ (c : Control). held_address c.frame.hand) (sym aside.control) ∙ is);
        overlay = a.overlay;
        work = aside_work fixed w later k.mixed l aside k.heads heads_then e q p i j same (frame_in f) (in_list f) active v a.overlay
            a.work;
        bit = a.bit;
        bus = subst C (sym aside.bus) a.bus;
      })
      aside_stage y C E e q f p v R i j same active (is_held s) = is_held (record {
        periodic = ap (λ (c : Control). c.part) aside.control ∙ s.periodic;
        index = ap (λ (c : Control). c.frame.index) aside.control ∙ s.index;
        held = s.held;
        hand = ap (λ (c : Control). c.frame.hand) aside.control ∙ s.hand;
        at = s.at;
        fresh = s.fresh;
        free = ap (λ (z : Bus). may_not_be_used fixed.holds z.microframe) aside.bus ∙ s.free;
        works = s.works;
        goes = goes_still fixed w later k.mixed aside s.held s.periodic s.hand s.fresh
            (λ a idle unhalted leads. ap (λ (i : ℕ). turn_of i s.held.copy.queue_head) s.index
            ∙ take_turn f s.held.copy.queue_head idle unhalted (s.bit idle) ∙ ap turns.Take leads) s.works s.goes;
        due = s.due;
        bit = s.bit;
        head = s.head;
        bus = subst C (sym aside.bus) s.bus;
      })
      aside_stage y C E e q f p v R i j same active (is_told s left) = is_told (record {
        periodic = ap (λ (c : Control). c.part) aside.control ∙ s.periodic;
        held = s.held;
        hand = ap (λ (c : Control). c.frame.hand) aside.control ∙ s.hand;
        outcome = s.outcome;
        settled = s.settled;
        made = s.made;
        so = s.so;
        is = λ ns.
            ap (λ (c : Control). made_as s.held.copy.settled s.held.copy.at s.held.copy.queue_head c.frame.reply ns) aside.control
            ∙ s.is ns;
      }) (subst E (sym aside.bus) left)
      aside_stage y C E e q f p v R i j same active (is_done u left) = is_done u (subst E (sym aside.bus) left)

      aside_goes : AreSplitsWaiting fixed b later t ms again
      aside_goes few e q d off =
          let old = all few e q d (back e off) in
          let s = still e q old.placement old.frames off in
          record {
            placement = old.placement;
            was = old.was;
            active = old.active;
            frames = s.frames;
            desc = s.same ∙ old.desc;
            low = old.low;
            index = ap (λ (c : Control). c.frame.index) aside.control ∙ old.index;
            queue = old.queue;
            due = old.due;
            brings = old.brings;
            stage = aside_stage (X (controller_next fixed b) e q d) (B (controller_next fixed b) e q d) (A (controller_next fixed b) e q d)
                e q (controller_next fixed b).control.frame.index old.placement old.queue (P (controller_next fixed b) e q d) old.frames
                s.frames s.same old.active old.stage;
          }

    by_driver : IsMixedWorld (driver_next w) → HeadsHaveFields (driver_next w).driver (driver_next w).memory
        → LeavesControllers (controller_parts w) (driver_next w).memory → AreSplitsWaiting fixed b (driver_next w) t ms again
    by_driver l heads_then leaves =
        aside_goes (driver_next w) l heads_then (record { control = refl; bus = refl; leaves = leaves })
        (λ e off. driver_uncancelled w e off)
        (λ e q p i off. driver_in_frames w k.mixed e q p l i off)

    by_command : (n : ℕ) (cmd : Cmd) → IsMixedWorld (commanded w n cmd)
        → HeadsHaveFields (commanded w n cmd).driver (commanded w n cmd).memory
        → LeavesControllers (controller_parts w) (commanded w n cmd).memory → AreSplitsWaiting fixed b (commanded w n cmd) t ms again
    by_command n cmd l heads_then leaves =
        aside_goes (commanded w n cmd) l heads_then
        (record { control = command_control w n cmd; bus = command_bus w n cmd; leaves = leaves })
        (λ e off. command_uncancelled w n cmd e off)
        (λ e q p i off. command_in_frames w k.mixed n cmd e q p l i off)

    -- ---- one more

    pub splits_wait_then : (orders : List Left) → IsMixedWorld (tick_at fixed w orders).world
        → HeadsHaveFields (tick_at fixed w orders).world.driver (tick_at fixed w orders).world.memory
        → KeepsToOwners (is_controllers orders) (controller_parts w) (tick_at fixed w orders).world.memory
        → AreSplitsWaiting fixed (carried_in began_by fixed w orders b) (tick_at fixed w orders).world
        (carried_in so_far_next fixed w orders t) (carried_in made_next fixed w orders ms) (carried_in repeats_next fixed w orders again)
    splits_wait_then [] l heads_then owns = all
    splits_wait_then (Events event zero ∷ rest) l heads_then owns = all
    splits_wait_then (Events events.C (suc n) ∷ rest) l heads_then owns = by_controller l heads_then
    splits_wait_then (Events events.D (suc n) ∷ rest) l heads_then owns = by_driver l heads_then owns
    splits_wait_then (Microframes zero ∷ rest) l heads_then owns = all
    splits_wait_then (Microframes (suc n) ∷ rest) l heads_then owns = by_controller l heads_then
    splits_wait_then (Answer ended n ∷ rest) l heads_then owns = by_driver l heads_then owns
    splits_wait_then (Command n cmd ∷ rest) l heads_then owns = by_command n cmd l heads_then owns
    splits_wait_then (Plugs there port ∷ rest) l heads_then owns = all
