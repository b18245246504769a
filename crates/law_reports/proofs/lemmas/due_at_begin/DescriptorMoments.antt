-- At each moment of a script's run an isochronous descriptor of which something was due as the microframe began is ahead of the walk of the
-- frames as it was, linked, or the walk came to it; so the walk came to it once it is over, while no cancel of its endpoint is accepted
-- (EHCI 1.0, 3.1, 4.4 and 4.6).
use Rattle.std.proofs.Common.{◌≡◌, ◌≢◌, ℕ, zero, suc, ◌+◌, ◌*◌, Bool, true, false, List, [], ◌∷◌, Option, Some, None, ap}
use Rattle.std.proofs.Common.{refl, sym, subst, ◌∙◌, ⊎_elim, inl, inr, arith}
use Rattle.std.proofs.lemmas.Bool.{true≢false, cases_eq}
use Rattle.std.proofs.lemmas.Option.{same_Some}
use Rattle.law_common.proofs.Options.{none_some}
use Rattle.law_microframes.proofs.Common.{in_list}
use Rattle.usb_base.specs.declared.commands.Cmd.{Cmd}
use Rattle.script_types.specs.declared.scripts.Script.{Script}
use Rattle.script_text.specs.Faults.{Spells}
use Rattle.word_mem.specs.Memory.{Mem, reaches}
use Rattle.drv_chains.specs.declared.members.Member.{Member}
use Rattle.drv_chains.specs.declared.members.Member.TheVariants.{Once, Each}
use Rattle.drv_members.specs.Members.{is_linked}
use Rattle.claims_driver.specs.Unlinked.{led}
use Rattle.op_registers.specs.Events.{after_begin}
use Rattle.periodic_walk.specs.declared.chain.ChainRow.{ChainRow}
use Rattle.periodic_walk.specs.declared.state.Hand.{Hand}
use Rattle.periodic_walk.specs.Chain.{chain_row}
use Rattle.periodic_walk.specs.Walk.{held_address}
use Rattle.hc_core.specs.declared.controller.ControllerRow.{ControllerRow}
use Rattle.hc_core.specs.Controller.{Control, Content, begun_at, element_address}
use Rattle.bus_wire.specs.Bus.{Fixed, fixed_of, is_allowed}
use Rattle.bus_world.specs.Budgets.{moment}
use Rattle.bus_world.specs.Opening.{opening_world}
use Rattle.bus_world.specs.Orders.{Left, Events, Microframes, Answer, Command, Plugs, OrderedWorld, tick_at, ticks}
use Rattle.bus_world.specs.World.{World, controller_parts, controller_row, controller_next, driver_next, commanded, with_turned, turned_by}
use Rattle.claims_base.specs.Controller.{Base}
use Rattle.claims_world.specs.Carried.{carried, carried_from, carried_in}
use Rattle.claims_world.specs.DueAtBegin.{begun, IsUncancelled}
use Rattle.claims_world.specs.Owners.{LeavesControllers, is_controllers, KeepsToOwners}
use Rattle.claims_world.specs.Visits.{IsPastFrames, IsInChain, IsLedTo, next_of, HasVisited, began_at, began_by, began, frame_in}
use Rattle.claims_world.specs.Visits.{fetched_by, visited_too, visits_at, visits_after, visits_next, visited}
use Rattle.law_world.specs.steps.Streaming.{begins_by, transacts_by, wired}
use Rattle.law_world.specs.memory.Mixed.{IsMixedWorld}
use Rattle.law_world.proofs.lemmas.memory.Carrying.{carried_then}
use Rattle.law_world.proofs.lemmas.memory.LetGo.{moment_then}
use Rattle.law_world.proofs.lemmas.memory.OwnMoments.{texts_keep_to_owners}
use Rattle.law_world.proofs.lemmas.memory.Together.{texts_stay_mixed}
use Rattle.law_world.proofs.lemmas.steps.StreamTurning.{world_has_row}
use Rattle.law_microframes.proofs.lemmas.visits.NoneLeftWalking.{index_stays}
use Rattle.law_microframes.proofs.lemmas.visits.NoneLeftWorlds.{in_chain_stands}
use Rattle.law_microframes.proofs.lemmas.visits.ReasonParts.{command_control}
use Rattle.law_microframes.proofs.lemmas.visits.VisitsKept.{texts_visit_each}
use Rattle.claims_world.specs.SlotsAtBegin.{IsLinkedAs, IsDescriptorOfEndpoint, StaysDue, uncancelled, stays_linked}
use Rattle.law_reports.proofs.lemmas.due_at_begin.Elsewhere.{apart_then}
use Rattle.law_reports.proofs.lemmas.due_at_begin.Reached.{structure_at}
use Rattle.law_reports.proofs.lemmas.due_at_begin.Stages.{past_frames}
use Rattle.script_fits.proofs.Texts.{spelled_fits}
use Rattle.law_scripts.proofs.lemmas.script_bytes.Texts.{a_text_spells_bytes}
use Rattle.law_world.proofs.lemmas.memory.Controller.{controller_keeps_mixed}
use Rattle.law_world.proofs.lemmas.memory.FittingTexts.{texts_open_fitting}
use Rattle.law_world.proofs.lemmas.memory.Texts.{texts_fit}
use Rattle.law_microframes.specs.visits.OneDescriptor.{HasOneActive, IsActiveSome}
use Rattle.law_microframes.proofs.lemmas.visits.OneDescriptorMoments.{each_moment_has_one_active}
use Rattle.law_microframes.proofs.lemmas.visits.VisitTexts.{lines_fit}
use Rattle.law_reports.proofs.lemmas.due_at_begin.DescriptorThere.{uncancelled_before, owner_then, linked_then}
use Rattle.script_types.specs.declared.scripts.Event.TheVariants as events
use Rattle.hc_core.specs.declared.controller.ControllerRow.TheVariants as rows

-- ---- what is carried

-- it is linked, and of the endpoint of which it was in the world b
pub record IsHere (split : Bool) (b w : World) (n : ℕ) : Type 0 where
  pub linked : IsLinkedAs (structure_at split) w n
  pub owner : (e : ℕ) → IsDescriptorOfEndpoint b.driver e n → IsDescriptorOfEndpoint w.driver e n

pub record IsKnown (b w : World) (vs : List ℕ) : Type 0 where
  pub mixed : IsMixedWorld w
  pub comes : (n : ℕ) → IsPastFrames w → IsInChain b (frame_in w.control.frame.index) n
      → IsInChain w (frame_in w.control.frame.index) n → HasVisited n vs

-- ---- what is fetched is found

off_too : (n : ℕ) (f : Option ℕ) (vs : List ℕ) → (f ≡ Some n → ⊥) → (HasVisited n vs → ⊥) → HasVisited n (visited_too f vs) → ⊥
off_too n None vs off none was = none was
off_too n (Some a) vs off none (inl new) = off (ap Some (sym new))
off_too n (Some a) vs off none (inr old) = none old

off_at : (n : ℕ) (hand : Option Hand) (row : ChainRow) (vs : List ℕ) → (hand ≡ None → fetched_by row ≡ Some n → ⊥)
    → (HasVisited n vs → ⊥) → HasVisited n (visits_at hand row vs) → ⊥
off_at n None row vs off none was = off_too n (fetched_by row) vs (off refl) none was
off_at n (Some hand) row vs off none was = none was

some_none : (b : Hand) → ◌≡◌ {A = Option Hand} (Some b) None → ⊥
some_none b is = cc

-- ---- its microframe begins

record HasBegun (c d : Content) : Type 0 where
  nothing : d.control.frame.hand ≡ None
  memory : d.memory ≡ c.memory
  list : d.registers.periodic_list_base ≡ c.registers.periodic_list_base

begun_so : (b allowed : Bool) (c : Content) → (begun_at b allowed c).registers.run ≡ true → HasBegun c (begun_at b allowed c)
begun_so true allowed c run = record { nothing = refl; memory = refl; list = refl }
begun_so false allowed c run = absurd (true≢false (sym run))

-- Of descriptors of this sort something is due as a microframe begins; what their words tell of it stands while the walk is elsewhere; and
-- what is carried along a run has found them once the walk came to them.
module _ (split : Bool) (T : Type 0) (start : T) (after : ControllerRow → World → T → T) (Due : World → ℕ → Type 0)
    (Stands : (b : World) (n : ℕ) → Due b n → Mem → Type 0) (Found : (b : World) (n : ℕ) → Due b n → T → Type 0) where
  abbrev Linked : World → ℕ → Type 0
  Linked w n = IsLinkedAs (structure_at split) w n

  pub record AreFollowed : Type 0 where
    pub linked : (b : World) (n : ℕ) → Due b n → Linked b n
    pub begins : (b : World) → IsMixedWorld b → (n : ℕ) (d : Due b n) → Stands b n d b.memory
    pub active : (w : World) → IsMixedWorld w → (b : World) (n : ℕ) (d : Due b n) → Linked w n → Stands b n d w.memory
        → IsActiveSome w.driver w.memory n
    pub walked : (fixed : Fixed) (w : World) → IsMixedWorld w → controller_row w ≡ rows.Frame → (b : World) (n : ℕ) (d : Due b n)
        → Linked w n → ((a : ℕ) → held_address w.control.frame.hand ≡ Some a → n ≢ a) → Stands b n d w.memory
        → Stands b n d (controller_next fixed w).memory
    pub comes : (fixed : Fixed) (w : World) → IsMixedWorld w → controller_row w ≡ rows.Frame → (b : World) (n : ℕ) (d : Due b n) (t : T)
        → Linked w n → Stands b n d w.memory → w.control.frame.index ≡ b.control.frame.index → w.control.frame.hand ≡ None
        → fetched_by (chain_row w.memory w.control.frame.cursor) ≡ Some n → Found b n d (after rows.Frame w t)
    pub more : (row : ControllerRow) → row ≢ rows.Begin → (w b : World) (n : ℕ) (d : Due b n) (t : T) → Found b n d t
        → Found b n d (after row w t)
    pub driven : (w : World) → IsMixedWorld w → IsMixedWorld (driver_next w)
        → LeavesControllers (controller_parts w) (driver_next w).memory → (b : World) (n : ℕ) (d : Due b n) → Linked w n
        → Linked (driver_next w) n → Stands b n d w.memory → Stands b n d (driver_next w).memory
    pub offered : (w : World) → IsMixedWorld w → (line : ℕ) (cmd : Cmd)
        → LeavesControllers (controller_parts w) (commanded w line cmd).memory → (b : World) (n : ℕ) (d : Due b n) → Linked w n
        → Stands b n d w.memory → Stands b n d (commanded w line cmd).memory

  abbrev next : Fixed → World → T → T
  next fixed w t = after (controller_row w) w t

  pub record IsAhead (b w : World) (vs : List ℕ) (n : ℕ) (d : Due b n) : Type 0 where
    pub unvisited : HasVisited n vs → ⊥
    pub apart : (a : ℕ) → held_address w.control.frame.hand ≡ Some a → n ≢ a
    pub stands : Stands b n d w.memory
    pub here : IsHere split b w n

  pub data Waits (b w : World) (vs : List ℕ) (t : T) (n : ℕ) (d : Due b n) : Type 0 where
    is_ahead : IsAhead b w vs n d → Waits b w vs t n d
    is_found : Found b n d t → Waits b w vs t n d

  pub record IsWaiting (b now w : World) (vs : List ℕ) (t : T) (n : ℕ) (d : Due now n) : Type 0 where
    pub was : IsInChain b (frame_in now.control.frame.index) n
    pub index : w.control.frame.index ≡ now.control.frame.index
    pub waits : Waits now w vs t n d

  -- from one world to the next, where it is ahead, and something of it active
  abbrev StaysHere : (ℕ → Type 0) → World → World → World → Type 0
  StaysHere Q b w later = (n : ℕ) → Q n → IsHere split b w n → IsActiveSome w.driver w.memory n → IsHere split b later n

  abbrev AllWait : (ℕ → Type 0) → Fixed → World → World → List ℕ → T → Type 0
  AllWait P fixed b w vs t = (n : ℕ) (d : Due (controller_next fixed b) n) → P n → IsWaiting b (controller_next fixed b) w vs t n d

  module _ (z : AreFollowed) (P Q : ℕ → Type 0) (fixed : Fixed) (b w : World) (vs : List ℕ) (t : T) (k : IsKnown b w vs)
      (all : AllWait P fixed b w vs t) where
    abbrev new : World
    new = controller_next fixed w

    index_on : controller_row w ≢ rows.Begin → (controller_next fixed w).control.frame.index ≡ w.control.frame.index
    index_on other =
        index_stays begins_by transacts_by (controller_parts w) (wired fixed w) (controller_parts new) (wired fixed new) (controller_row w)
        other
        (world_has_row fixed w)

    -- ---- the walk of the frames

    module _ (row : controller_row w ≡ rows.Frame) (n : ℕ) (d : Due (controller_next fixed b) n)
        (index : w.control.frame.index ≡ (controller_next fixed b).control.frame.index)
        (q : Q n) (stays : StaysHere Q (controller_next fixed b) w (controller_next fixed w)) where
      abbrev Then : Type 0
      Then =
          Waits (controller_next fixed b) (controller_next fixed w) (visits_after rows.Frame (controller_parts w) vs)
          (after rows.Frame w t) n d

      goes_ahead : IsAhead (controller_next fixed b) w vs n d
          → (w.control.frame.hand ≡ None → fetched_by (chain_row w.memory w.control.frame.cursor) ≡ Some n → ⊥)
          → IsAhead (controller_next fixed b) (controller_next fixed w) (visits_after rows.Frame (controller_parts w) vs) n d
      goes_ahead a off = record {
        unvisited = off_at n w.control.frame.hand (chain_row w.memory w.control.frame.cursor) vs off a.unvisited;
        apart = apart_then fixed w k.mixed row n a.apart off;
        stands = z.walked fixed w k.mixed row (controller_next fixed b) n d a.here.linked a.apart a.stands;
        here = stays n q a.here (z.active w k.mixed (controller_next fixed b) n d a.here.linked a.stands);
      }

      by_fetch : IsAhead (controller_next fixed b) w vs n d → w.control.frame.hand ≡ None → (f : Option ℕ)
          → fetched_by (chain_row w.memory w.control.frame.cursor) ≡ f → Then
      by_fetch a none None is = is_ahead (goes_ahead a (λ held fetched. none_some n (sym is ∙ fetched)))
      by_fetch a none (Some x) is =
          ⊎_elim {C = Then}
          (λ (at : x ≡ n). is_found (z.comes fixed w k.mixed row (controller_next fixed b) n d t a.here.linked a.stands index none
          (is ∙ ap Some at)))
          (λ (off : x ≢ n). is_ahead (goes_ahead a (λ held fetched. off (same_Some x n (sym is ∙ fetched))))) (cases_eq x n)

      by_hand : IsAhead (controller_next fixed b) w vs n d → (hand : Option Hand) → w.control.frame.hand ≡ hand → Then
      by_hand a None is = by_fetch a is (fetched_by (chain_row w.memory w.control.frame.cursor)) refl
      by_hand a (Some x) is = is_ahead (goes_ahead a (λ none fetched. some_none x (sym is ∙ none)))

      one_goes : Waits (controller_next fixed b) w vs t n d → Then
      one_goes (is_ahead a) = by_hand a w.control.frame.hand refl
      one_goes (is_found f) =
          is_found (z.more rows.Frame (λ is. let never : rows.Frame ≡ rows.Begin = is in cc never) w (controller_next fixed b) n d t f)

    frame_goes : controller_row w ≡ rows.Frame → ((n : ℕ) → Q n → P n)
        → StaysHere Q (controller_next fixed b) w (controller_next fixed w)
        → AllWait Q fixed b (controller_next fixed w) (visits_after rows.Frame (controller_parts w) vs) (after rows.Frame w t)
    frame_goes row back stays n d q =
        let old = all n d (back n q) in
        let other : controller_row w ≢ rows.Begin = λ is. let never : rows.Frame ≡ rows.Begin = sym row ∙ is in cc never in
        record { was = old.was; index = index_on other ∙ old.index; waits = one_goes row n d old.index q stays old.waits }

    past_goes : (r : ControllerRow) → r ≢ rows.Begin → controller_row w ≢ rows.Frame → controller_row w ≢ rows.Begin
        → ((n : ℕ) → Q n → P n) → AllWait Q fixed b (controller_next fixed w) vs (after r w t)
    past_goes r other off_frames off_begin back n d q =
        let old = all n d (back n q) in
        record { was = old.was; index = index_on off_begin ∙ old.index; waits = over old.waits old.index old.was }
      where
        over : Waits (controller_next fixed b) w vs t n d → w.control.frame.index ≡ (controller_next fixed b).control.frame.index
            → IsInChain b (frame_in (controller_next fixed b).control.frame.index) n
            → Waits (controller_next fixed b) (controller_next fixed w) vs (after r w t) n d
        over (is_found f) index was = is_found (z.more r other w (controller_next fixed b) n d t f)
        over (is_ahead a) index was =
            absurd (a.unvisited (k.comes n (past_frames w k.mixed off_frames)
            (subst (λ (i : ℕ). IsInChain b (frame_in i) n) (sym index) was) a.here.linked.chain))

    -- ---- a microframe begins

    module _ (row : controller_row w ≡ rows.Begin) (l : IsMixedWorld (controller_next fixed w)) where
      abbrev stepped : Content
      stepped = record (controller_parts w) { registers = after_begin w.registers }

      abbrev left : Content
      left = begun_at (reaches w.memory (element_address (after_begin w.registers))) (is_allowed fixed w.bus) stepped

      next_is : controller_next fixed w ≡ with_turned w (turned_by fixed rows.Begin (controller_parts w) w.bus)
      next_is = ap (λ (r : ControllerRow). with_turned w (turned_by fixed r (controller_parts w) w.bus)) row

      has_begun : HasBegun stepped left
      has_begun =
          begun_so (reaches w.memory (element_address (after_begin w.registers))) (is_allowed fixed w.bus) stepped
          (ap (λ (v : World). v.registers.run) (sym next_is) ∙ ap (λ (x : Base). x.run) l.mixed.now.framed.runs.ring.registers)

      memory_same : (controller_next fixed w).memory ≡ w.memory
      memory_same = ap (λ (v : World). v.memory) next_is ∙ has_begun.memory

      list_same : (controller_next fixed w).registers.periodic_list_base ≡ w.registers.periodic_list_base
      list_same = ap (λ (v : World). v.registers.periodic_list_base) next_is ∙ has_begun.list

      chain_before : (f n : ℕ) → IsInChain (controller_next fixed w) f n → IsInChain w f n
      chain_before f n way =
          subst (λ (m : Mem). IsLedTo m n (next_of m (w.registers.periodic_list_base + 4 * f))) memory_same
          (subst (λ (x : ℕ). IsLedTo (controller_next fixed w).memory n (next_of (controller_next fixed w).memory (x + 4 * f))) list_same
          way)

      begin_goes : (again : T) → AllWait Q fixed w (controller_next fixed w) [] again
      begin_goes again n d q = record {
        was = chain_before (frame_in new.control.frame.index) n (z.linked new n d).chain;
        index = refl;
        waits = is_ahead (record {
          unvisited = λ was. was;
          apart = λ a is. absurd (none_some a
              (sym (ap held_address (ap (λ (v : World). v.control.frame.hand) next_is ∙ has_begun.nothing)) ∙ is));
          stands = z.begins new l n d;
          here = record { linked = z.linked new n d; owner = λ e of. of };
        });
      }

    abbrev ControllerStays : Type 0
    ControllerStays =
        (controller_next fixed w).control.frame.index ≡ w.control.frame.index
        → StaysHere Q (controller_next fixed b) w (controller_next fixed w)

    by_row : (r : ControllerRow) → controller_row w ≡ r → IsMixedWorld (controller_next fixed w)
        → (began_at r w b ≡ b → (n : ℕ) → Q n → P n) → (began_at r w b ≡ b → ControllerStays)
        → AllWait Q fixed (began_at r w b) (controller_next fixed w) (visits_after r (controller_parts w) vs) (after r w t)
    by_row rows.Begin is l back stays = begin_goes is l (after rows.Begin w t)
    by_row rows.Frame is l back stays =
        frame_goes is (back refl)
        (stays refl (index_on (λ row. let never : rows.Frame ≡ rows.Begin = sym is ∙ row in cc never)))
    by_row rows.Idle is l back stays =
        past_goes rows.Idle (λ same. let never : rows.Idle ≡ rows.Begin = same in cc never)
        (λ row. let never : rows.Idle ≡ rows.Frame = sym is ∙ row in cc never)
        (λ row. let never : rows.Idle ≡ rows.Begin = sym is ∙ row in cc never) (back refl)
    by_row rows.Enter is l back stays =
        past_goes rows.Enter (λ same. let never : rows.Enter ≡ rows.Begin = same in cc never)
        (λ row. let never : rows.Enter ≡ rows.Frame = sym is ∙ row in cc never)
        (λ row. let never : rows.Enter ≡ rows.Begin = sym is ∙ row in cc never) (back refl)
    by_row rows.Go is l back stays =
        past_goes rows.Go (λ same. let never : rows.Go ≡ rows.Begin = same in cc never)
        (λ row. let never : rows.Go ≡ rows.Frame = sym is ∙ row in cc never)
        (λ row. let never : rows.Go ≡ rows.Begin = sym is ∙ row in cc never) (back refl)
    by_row rows.End is l back stays =
        past_goes rows.End (λ same. let never : rows.End ≡ rows.Begin = same in cc never)
        (λ row. let never : rows.End ≡ rows.Frame = sym is ∙ row in cc never)
        (λ row. let never : rows.End ≡ rows.Begin = sym is ∙ row in cc never) (back refl)

    -- ---- the driver

    aside_goes : (later : World) → later.control ≡ w.control
        → ((n : ℕ) (d : Due (controller_next fixed b) n) → Linked w n → Linked later n → Stands (controller_next fixed b) n d w.memory
        → Stands (controller_next fixed b) n d later.memory)
        → ((n : ℕ) → Q n → P n) → StaysHere Q (controller_next fixed b) w later → AllWait Q fixed b later vs t
    aside_goes later control keeps back stays n d q =
        let old = all n d (back n q) in
        record { was = old.was; index = ap (λ (c : Control). c.frame.index) control ∙ old.index; waits = still old.waits }
      where
        ahead_still : IsAhead (controller_next fixed b) w vs n d → IsHere split (controller_next fixed b) later n
            → Waits (controller_next fixed b) later vs t n d
        ahead_still a here = is_ahead (record {
          unvisited = a.unvisited;
          apart = λ x is. a.apart x (ap (λ (c : Control). held_address c.frame.hand) (sym control) ∙ is);
          stands = keeps n d a.here.linked here.linked a.stands;
          here = here;
        })

        still : Waits (controller_next fixed b) w vs t n d → Waits (controller_next fixed b) later vs t n d
        still (is_found f) = is_found f
        still (is_ahead a) = ahead_still a (stays n q a.here (z.active w k.mixed (controller_next fixed b) n d a.here.linked a.stands))

    stays_so : ((n : ℕ) → Q n → P n) → AllWait Q fixed b w vs t
    stays_so back n d q = all n d (back n q)

    by_driver : IsMixedWorld (driver_next w) → LeavesControllers (controller_parts w) (driver_next w).memory → ((n : ℕ) → Q n → P n)
        → StaysHere Q (controller_next fixed b) w (driver_next w) → AllWait Q fixed b (driver_next w) vs t
    by_driver l owns back stays =
        aside_goes (driver_next w) refl (λ n d was here. z.driven w k.mixed l owns (controller_next fixed b) n d was here) back stays

    by_orders : (orders : List Left) → IsMixedWorld (tick_at fixed w orders).world
        → KeepsToOwners (is_controllers orders) (controller_parts w) (tick_at fixed w orders).world.memory
        → (carried_in began_by fixed w orders b ≡ b → (n : ℕ) → Q n → P n)
        → (carried_in began_by fixed w orders b ≡ b → (tick_at fixed w orders).world.control.frame.index ≡ w.control.frame.index
        → StaysHere Q (controller_next fixed b) w (tick_at fixed w orders).world)
        → AllWait Q fixed (carried_in began_by fixed w orders b) (tick_at fixed w orders).world (carried_in visits_next fixed w orders vs)
        (carried_in next fixed w orders t)
    by_orders [] l owns back stays = stays_so (back refl)
    by_orders (Events event zero ∷ rest) l owns back stays = stays_so (back refl)
    by_orders (Events events.C (suc n) ∷ rest) l owns back stays = by_row (controller_row w) refl l back stays
    by_orders (Events events.D (suc n) ∷ rest) l owns back stays = by_driver l owns (back refl) (stays refl refl)
    by_orders (Microframes zero ∷ rest) l owns back stays = stays_so (back refl)
    by_orders (Microframes (suc n) ∷ rest) l owns back stays = by_row (controller_row w) refl l back stays
    by_orders (Answer ended n ∷ rest) l owns back stays = by_driver l owns (back refl) (stays refl refl)
    by_orders (Command n cmd ∷ rest) l owns back stays =
        aside_goes (commanded w n cmd) (command_control w n cmd)
        (λ i d was here. z.offered w k.mixed n cmd owns (controller_next fixed b) i d was) (back refl)
        (stays refl (ap (λ (c : Control). c.frame.index) (command_control w n cmd)))
    by_orders (Plugs there port ∷ rest) l owns back stays = stays_so (back refl)

  -- ---- a run

  module _ (z : AreFollowed) (text : List ℕ) (s : Script) (spelled : Spells text s) where
    known_at : (k : ℕ) → IsKnown (began s k) (moment s k).world (visited s k)
    known_at k = record {
      mixed = texts_stay_mixed text s spelled k;
      comes = λ n past was is. texts_visit_each text s spelled k n past was is;
    }

    mixed_then : (k : ℕ) → IsMixedWorld (tick_at (fixed_of s) (moment s k).world (moment s k).orders).world
    mixed_then k = subst (λ (o : OrderedWorld). IsMixedWorld o.world) (moment_then s k) (texts_stay_mixed text s spelled (suc k))

    owned_at : (k : ℕ) → KeepsToOwners (is_controllers (moment s k).orders) (controller_parts (moment s k).world)
        (tick_at (fixed_of s) (moment s k).world (moment s k).orders).world.memory
    owned_at k =
        subst
        (λ (o : OrderedWorld). KeepsToOwners (is_controllers (moment s k).orders) (controller_parts (moment s k).world) o.world.memory)
        (moment_then s k) (texts_keep_to_owners text s spelled k)

    one_at : (k : ℕ) → HasOneActive (moment s k).world.driver (moment s k).world.memory
    one_at k =
        (each_moment_has_one_active s (spelled_fits text s spelled) (a_text_spells_bytes text s spelled)
        (lines_fit s.lines (texts_fit text s spelled) (texts_open_fitting text s spelled)) k).one

    -- which microframe it is stays
    began_same : (k : ℕ) → carried_in began_by (fixed_of s) (moment s k).world (moment s k).orders (began s k) ≡ began s k
        → began s (suc k) ≡ began s k
    began_same k same = carried_then began_by s (opening_world s) k ∙ same

    went_back : (k : ℕ) → carried_in began_by (fixed_of s) (moment s k).world (moment s k).orders (began s k) ≡ began s k → (n : ℕ)
        → StaysDue (structure_at split) s (suc k) n → StaysDue (structure_at split) s k n
    went_back k same n (stays_linked all) = stays_linked (λ j low is. all j (omega (arith, low)) (is ∙ sym (began_same k same)))
    went_back k same n (uncancelled e of off) =
        uncancelled e (subst (λ (b : World). IsDescriptorOfEndpoint (controller_next (fixed_of s) b).driver e n) (began_same k same) of)
        (uncancelled_before (fixed_of s) (moment s k).world (texts_stay_mixed text s spelled k) e (moment s k).orders
        (subst (λ (o : OrderedWorld). IsUncancelled o.world.driver e) (moment_then s k) off))

    stays_at : (k : ℕ) → carried_in began_by (fixed_of s) (moment s k).world (moment s k).orders (began s k) ≡ began s k
        → (tick_at (fixed_of s) (moment s k).world (moment s k).orders).world.control.frame.index ≡ (moment s k).world.control.frame.index
        → StaysHere (StaysDue (structure_at split) s (suc k)) (begun s k) (moment s k).world
        (tick_at (fixed_of s) (moment s k).world (moment s k).orders).world
    stays_at k same index n q here active = record {
      linked = linked q;
      owner = λ e of. owner_then (fixed_of s) (moment s k).world (texts_stay_mixed text s spelled k) split n (moment s k).orders
          (mixed_then k) (linked q) e (here.owner e of);
    }
      where
        linked : StaysDue (structure_at split) s (suc k) n → Linked (tick_at (fixed_of s) (moment s k).world (moment s k).orders).world n
        linked (stays_linked all) =
            subst (λ (o : OrderedWorld). Linked o.world n) (moment_then s k) (all (suc k) (omega arith) refl)
        linked (uncancelled e of off) =
            linked_then (fixed_of s) (moment s k).world (texts_stay_mixed text s spelled k) split n (one_at k) here.linked active e
            (here.owner e (subst (λ (b : World). IsDescriptorOfEndpoint (controller_next (fixed_of s) b).driver e n) (began_same k same)
            of))
            (moment s k).orders (mixed_then k) index
            (subst (λ (o : OrderedWorld). IsUncancelled o.world.driver e) (moment_then s k) off)

    -- at first nothing is linked
    none_at_first : (n : ℕ) → Due (begun s 0) n → ⊥
    unfolding ticks carried_from
    none_at_first n d =
        let k : IsMixedWorld (begun s 0) = controller_keeps_mixed (fixed_of s) (opening_world s) (texts_stay_mixed text s spelled 0) in
        let x = in_chain_stands k.standing (begun s 0) (frame_in (begun s 0).control.frame.index) n k.mixed
        (in_list (begun s 0).control.frame.index) (z.linked (begun s 0) n d).chain in
        unlinked x.member x.linked
      where
        unlinked : (m : Member) → is_linked (led (opening_world s).driver) m ≡ true → ⊥
        unlinked (Once v) on = absurd cc
        unlinked (Each v) on = absurd cc

    abbrev carried_so : ℕ → T
    carried_so k = carried next s start k

    abbrev AreAt : ℕ → World → World → List ℕ → T → Type 0
    AreAt k b w vs t = AllWait (StaysDue (structure_at split) s k) (fixed_of s) b w vs t

    abbrev then_world : ℕ → World
    then_world k = (tick_at (fixed_of s) (moment s k).world (moment s k).orders).world

    waiting_at : (k : ℕ) → AreAt k (began s k) (moment s k).world (visited s k) (carried_so k)
    unfolding ticks carried_from
    waiting_at zero = λ n d stays. absurd (none_at_first n d)
    waiting_at (suc k) =
        subst (λ (o : OrderedWorld). AreAt (suc k) (began s (suc k)) o.world (visited s (suc k)) (carried_so (suc k)))
        (sym (moment_then s k))
        (subst (λ (t : T). AreAt (suc k) (began s (suc k)) (then_world k) (visited s (suc k)) t)
        (sym (carried_then next s start k))
        (subst (λ (vs : List ℕ). AreAt (suc k) (began s (suc k)) (then_world k) vs
        (carried_in next (fixed_of s) (moment s k).world (moment s k).orders (carried_so k)))
        (sym (carried_then visits_next s [] k))
        (subst (λ (b : World). AreAt (suc k) b (then_world k)
        (carried_in visits_next (fixed_of s) (moment s k).world (moment s k).orders (visited s k))
        (carried_in next (fixed_of s) (moment s k).world (moment s k).orders (carried_so k)))
        (sym (carried_then began_by s (opening_world s) k))
        (by_orders z (StaysDue (structure_at split) s k) (StaysDue (structure_at split) s (suc k)) (fixed_of s) (began s k)
        (moment s k).world (visited s k) (carried_so k)
        (known_at k) (waiting_at k) (moment s k).orders (mixed_then k) (owned_at k) (went_back k) (stays_at k)))))

    found_by : (k n : ℕ) (d : Due (begun s k) n) → IsPastFrames (moment s k).world
        → IsInChain (began s k) (frame_in (moment s k).world.control.frame.index) n
        → Waits (begun s k) (moment s k).world (visited s k) (carried_so k) n d → Found (begun s k) n d (carried_so k)
    found_by k n d past was (is_found f) = f
    found_by k n d past was (is_ahead a) =
        absurd (a.unvisited (texts_visit_each text s spelled k n past was a.here.linked.chain))

    -- the walk came to it
    pub record IsFound (k n : ℕ) (d : Due (begun s k) n) : Type 0 where
      pub index : (moment s k).world.control.frame.index ≡ (begun s k).control.frame.index
      pub found : Found (begun s k) n d (carried next s start k)

    pub what_is_due_is_found : (k n : ℕ) (d : Due (begun s k) n) → IsPastFrames (moment s k).world → StaysDue (structure_at split) s k n
        → IsFound k n d
    what_is_due_is_found k n d past stays =
        let i = waiting_at k n d stays in
        record {
          index = i.index;
          found = found_by k n d past (subst (λ (x : ℕ). IsInChain (began s k) (frame_in x) n) (sym i.index) i.was) i.waits;
        }
