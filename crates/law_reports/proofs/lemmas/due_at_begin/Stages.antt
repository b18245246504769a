-- From the Begin of its microframe on, what is due of an interrupt endpoint is ahead of the walk of the frames as it was, until the walk
-- comes to its queue head (EHCI 1.0, 4.4, 4.6, 4.7 and 4.10).
use Rattle.std.proofs.Common.{◌≡◌, ◌≢◌, ℕ, ◌*◌, ◌<◌, Bool, true, false, if◌then◌else◌, List, slice_get, Option, Some, None, ap, refl}
use Rattle.std.proofs.Common.{sym, subst, ◌∙◌, ⊎_elim, inl, inr}
use Rattle.std.specs.Prelude.{◌&&◌, not}
use Rattle.std.proofs.lemmas.Bool.{cases_Bool, cases_eq, true≢false}
use Rattle.std.proofs.lemmas.Option.{same_Some}
use Rattle.usb_base.specs.declared.endpoints.EpDesc.{EpDesc}
use Rattle.usb_base.specs.declared.packets.Speed.TheVariants.{High}
use Rattle.word_mem.specs.Memory.{reaches}
use Rattle.bandwidth.specs.declared.placements.Placement.{Placement}
use Rattle.bandwidth.specs.Placements.{has}
use Rattle.bandwidth.specs.Sums.{is_active}
use Rattle.drv_table.specs.declared.content.Endpoint.{Endpoint}
use Rattle.hc_interrupt.specs.Turns.{microframe_of}
use Rattle.op_registers.specs.Events.{after_begin}
use Rattle.periodic_walk.specs.declared.chain.ChainRow.{ChainRow}
use Rattle.periodic_walk.specs.declared.state.Hand.{Hand}
use Rattle.periodic_walk.specs.Chain.{chain_row}
use Rattle.periodic_walk.specs.Walk.{is_over, held_address}
use Rattle.hc_core.specs.declared.controller.ControllerRow.{ControllerRow}
use Rattle.hc_core.specs.declared.controller.ControllerRow.TheVariants as rows
use Rattle.hc_core.specs.declared.controller.MicroframePart.TheVariants.{Periodic}
use Rattle.hc_core.specs.Controller.{Control, Content, begun_at, element_address, enter_row, part_row}
use Rattle.bus_wire.specs.Bus.{Bus, Fixed, is_held as may_not_be_used, is_allowed}
use Rattle.bus_world.specs.World.{World, controller_parts, controller_row, controller_next, with_turned, turned_by}
use Rattle.claims_base.specs.Controller.{Base, base_of, opening_base}
use Rattle.claims_world.specs.Coming.{IsInItsFrames}
use Rattle.claims_world.specs.Due.{bytes_moved, IsDueNow}
use Rattle.claims_world.specs.DueAtBegin.{IsDueAtBegin}
use Rattle.claims_world.specs.SoFar.{SoFar, nothing_yet, found_too, found_next, so_far_after, HasFound}
use Rattle.claims_world.specs.Visits.{IsPastFrames, is_held_now, fetched_by}
use Rattle.law_world.specs.memory.Mixed.{Standing, IsMixedWorld}
use Rattle.law_microframes.specs.time.DataQueues.{QueuesSendData}
use Rattle.law_microframes.specs.visits.Belonging.{HeadsHaveFields}
use Rattle.law_microframes.proofs.lemmas.due.Aside.{IsAside}
use Rattle.law_reports.specs.lines.Lined.{Lines}
use Rattle.law_reports.specs.pipes.Declared.{Sides}
use Rattle.law_reports.specs.pipes.Piped.{Heads, IsPiped}
use Rattle.law_reports.proofs.lemmas.due_at_begin.Ahead.{HasYet}
use Rattle.law_reports.proofs.lemmas.due_at_begin.Aside.{aside_yet}
use Rattle.law_reports.proofs.lemmas.due_at_begin.Walked.{walked_yet, part_stays, index_same, apart_then}

-- ---- ahead of the walk

pub record IsAhead (fixed : Fixed) (w : World) (t : SoFar) (e q : ℕ) (desc : EpDesc) (u bytes : ℕ) : Type 0 where
  pub periodic : w.control.part ≡ Periodic
  pub index : w.control.frame.index ≡ u
  pub free : is_held_now fixed w ≡ false
  pub unfound : (o : World) → HasFound (32 * q) o t.found → ⊥
  pub apart : (a : ℕ) → held_address w.control.frame.hand ≡ Some a → 32 * q ≢ a
  pub same : (y : Endpoint) → slice_get w.driver.endpoints e ≡ Some y → y.desc ≡ desc
  pub yet : HasYet fixed w desc.name (32 * q) bytes

-- the walk came to it, and it was due then
pub record WasFound (fixed : Fixed) (t : SoFar) (e q bytes : ℕ) : Type 0 where
  pub world : World
  pub there : HasFound (32 * q) world t.found
  pub due : IsDueNow fixed world e q
  pub moves : bytes_moved due.transfer.ready.answers ≡ bytes

pub data Waits (fixed : Fixed) (w : World) (t : SoFar) (e q : ℕ) (desc : EpDesc) (u bytes : ℕ) : Type 0 where
  is_ahead : IsAhead fixed w t e q desc u bytes → Waits fixed w t e q desc u bytes
  was_found : WasFound fixed t e q bytes → Waits fixed w t e q desc u bytes

-- ---- what was found

module _ (n : ℕ) (w : World) (fs : List (ℕ × World)) where
  too_unfound : (f : Option ℕ) → (f ≡ Some n → ⊥) → ((o : World) → HasFound n o fs → ⊥) → (o : World) → HasFound n o (found_too f w fs) → ⊥
  too_unfound None off none o was = none o was
  too_unfound (Some a) off none o (inl new) = off (ap Some new.0)
  too_unfound (Some a) off none o (inr old) = none o old

  pub unfound_next : (hand : Option Hand) (row : ChainRow) → (hand ≡ None → fetched_by row ≡ Some n → ⊥)
      → ((o : World) → HasFound n o fs → ⊥) → (o : World) → HasFound n o (found_next hand row w fs) → ⊥
  unfound_next None row off none o was = too_unfound (fetched_by row) (off refl) none o was
  unfound_next (Some hand) row off none o was = none o was

  too_more : (f : Option ℕ) (o : World) → HasFound n o fs → HasFound n o (found_too f w fs)
  too_more None o was = was
  too_more (Some a) o was = inr was

  more_next : (hand : Option Hand) (row : ChainRow) (o : World) → HasFound n o fs → HasFound n o (found_next hand row w fs)
  more_next None row o was = too_more (fetched_by row) o was
  more_next (Some hand) row o was = was

  new_next : (hand : Option Hand) (row : ChainRow) → hand ≡ None → fetched_by row ≡ Some n → HasFound n w (found_next hand row w fs)
  new_next hand row none is =
      subst (λ (h : Option Hand). HasFound n w (found_next h row w fs)) (sym none)
      (subst (λ (f : Option ℕ). HasFound n w (found_too f w fs)) (sym is) (inl (refl, refl)))

-- ---- an event of the walk of the frames

module _ (fixed : Fixed) (x : Sides) (s : Standing) (m : Lines) (h : Heads) (w : World) (k : IsPiped fixed x s m h w)
    (heads : HeadsHaveFields w.driver w.memory) (sends : QueuesSendData w.driver w.memory) (row : controller_row w ≡ rows.Frame)
    (tells : (controller_next fixed w).bus.microframe ≡ w.bus.microframe)
    (e q : ℕ) (p : Placement) (i : IsInItsFrames w.driver e q p) (desc : EpDesc) (high : desc.speed ≡ High) (u bytes : ℕ)
    (bit : has p.smask (microframe_of u) ≡ true) (t : SoFar) where
  abbrev n : ℕ
  n = 32 * q

  abbrev now : SoFar
  now = so_far_after rows.Frame w t

  module _ (a : IsAhead fixed w t e q desc u bytes) where
    desc_is : i.endpoint.desc ≡ desc
    desc_is = a.same i.endpoint i.here

    yet_here : HasYet fixed w i.endpoint.desc.name (32 * q) bytes
    yet_here = subst (λ (d : EpDesc). HasYet fixed w d.name (32 * q) bytes) (sym desc_is) a.yet

    come_to : w.control.frame.hand ≡ None → fetched_by (chain_row w.memory w.control.frame.cursor) ≡ Some (32 * q)
        → WasFound fixed now e q bytes
    come_to none is =
        let y : HasYet fixed w i.endpoint.desc.name (32 * q) bytes = yet_here in
        record {
          world = w;
          there = new_next n w t.found w.control.frame.hand (chain_row w.memory w.control.frame.cursor) none is;
          due = record {
            placement = p;
            there = i;
            high = ap (λ (d : EpDesc). d.speed) desc_is ∙ high;
            bit = ap (λ (j : ℕ). has p.smask (microframe_of j)) a.index ∙ bit;
            free = a.free;
            transfer = record { queue = y.queue; read = y.read; works = y.works; next = y.next; ready = y.can.ready };
          };
          moves = y.can.moves;
        }

    goes_ahead : (w.control.frame.hand ≡ None → fetched_by (chain_row w.memory w.control.frame.cursor) ≡ Some (32 * q) → ⊥)
        → IsAhead fixed (controller_next fixed w) now e q desc u bytes
    goes_ahead off = record {
      periodic = part_stays fixed x s m h w k heads sends row e q p i a.apart;
      index = index_same fixed x s m h w k heads sends row e q p i a.apart ∙ a.index;
      free = ap (may_not_be_used fixed.holds) tells ∙ a.free;
      unfound = unfound_next n w t.found w.control.frame.hand (chain_row w.memory w.control.frame.cursor) off a.unfound;
      apart = apart_then fixed x s m h w k heads sends row e q p i a.apart off;
      same = a.same;
      yet = subst (λ (d : EpDesc). HasYet fixed (controller_next fixed w) d.name (32 * q) bytes) desc_is
          (walked_yet fixed x s m h w k heads sends row e q p i a.apart (ap (λ (d : EpDesc). d.speed) desc_is ∙ high) bytes yet_here);
    }

    none_some : (b : ℕ) → ◌≡◌ {A = Option ℕ} None (Some b) → ⊥
    none_some b is = cc

    some_none : (b : Hand) → ◌≡◌ {A = Option Hand} (Some b) None → ⊥
    some_none b is = cc

    by_fetch : w.control.frame.hand ≡ None → (f : Option ℕ) → fetched_by (chain_row w.memory w.control.frame.cursor) ≡ f
        → Waits fixed (controller_next fixed w) now e q desc u bytes
    by_fetch none None is = is_ahead (goes_ahead (λ held fetched. none_some n (sym is ∙ fetched)))
    by_fetch none (Some b) is =
        ⊎_elim {C = Waits fixed (controller_next fixed w) now e q desc u bytes}
        (λ (here : b ≡ 32 * q). was_found (come_to none (is ∙ ap Some here)))
        (λ (off : b ≢ 32 * q). is_ahead (goes_ahead (λ held fetched. off (same_Some b n (sym is ∙ fetched)))))
        (cases_eq b (32 * q))

    by_hand : (hand : Option Hand) → w.control.frame.hand ≡ hand → Waits fixed (controller_next fixed w) now e q desc u bytes
    by_hand None is = by_fetch is (fetched_by (chain_row w.memory w.control.frame.cursor)) refl
    by_hand (Some b) is = is_ahead (goes_ahead (λ none fetched. some_none b (sym is ∙ none)))

  found_on : WasFound fixed t e q bytes → WasFound fixed now e q bytes
  found_on f = record {
    world = f.world;
    there = more_next n w t.found w.control.frame.hand (chain_row w.memory w.control.frame.cursor) f.world f.there;
    due = f.due;
    moves = f.moves;
  }

  pub frame_waits : Waits fixed w t e q desc u bytes
      → Waits fixed (controller_next fixed w) (so_far_after rows.Frame w t) e q desc u bytes
  frame_waits (is_ahead a) = by_hand a w.control.frame.hand refl
  frame_waits (was_found f) = was_found (found_on f)

-- ---- in its part another event comes only once the walk is over

module _ (w : World) (k : IsMixedWorld w) (other : controller_row w ≢ rows.Frame) where
  row_when : w.control.part ≡ Periodic → is_over w.control.frame ≡ false → controller_row w ≡ rows.Frame
  row_when part goes =
      let base : base_of w.registers ≡ opening_base = k.mixed.now.framed.runs.ring.registers in
      ap (λ (b : Bool). if b then part_row w.registers w.control.frame w.control.part else rows.Idle) (ap (λ (b : Base). b.run) base)
      ∙ ap (part_row w.registers w.control.frame) part
      ∙ ap (λ (b : Bool). if b && not (is_over w.control.frame) then rows.Frame else enter_row w.registers.async_enable)
      (ap (λ (b : Base). b.periodic_enable) base)
      ∙ ap (λ (b : Bool). if not b then rows.Frame else enter_row w.registers.async_enable) goes

  pub past_frames : IsPastFrames w
  past_frames part =
      ⊎_elim (λ (over : is_over w.control.frame ≡ true). over)
      (λ (goes : is_over w.control.frame ≡ false). absurd (other (row_when part goes))) (cases_Bool (is_over w.control.frame))

-- ---- its microframe begins

pub record BeginsWalk (v : World) : Type 0 where
  pub periodic : v.control.part ≡ Periodic
  pub nothing : v.control.frame.hand ≡ None

record HasBegun (c : Content) : Type 0 where
  periodic : c.control.part ≡ Periodic
  nothing : c.control.frame.hand ≡ None

begun_so : (b allowed : Bool) (c : Content) → (begun_at b allowed c).registers.run ≡ true → HasBegun (begun_at b allowed c)
begun_so true allowed c run = record { periodic = refl; nothing = refl }
begun_so false allowed c run = absurd (true≢false (sym run))

module _ (fixed : Fixed) (w : World) (row : controller_row w ≡ rows.Begin) (k : IsMixedWorld (controller_next fixed w)) where
  abbrev stepped : Content
  stepped = record (controller_parts w) { registers = after_begin w.registers }

  abbrev left : Content
  left = begun_at (reaches w.memory (element_address (after_begin w.registers))) (is_allowed fixed w.bus) stepped

  next_is : controller_next fixed w ≡ with_turned w (turned_by fixed rows.Begin (controller_parts w) w.bus)
  next_is = ap (λ (r : ControllerRow). with_turned w (turned_by fixed r (controller_parts w) w.bus)) row

  runs : left.registers.run ≡ true
  runs =
      ap (λ (v : World). v.registers.run) (sym next_is) ∙ ap (λ (b : Base). b.run) k.mixed.now.framed.runs.ring.registers

  has_begun : HasBegun left
  has_begun = begun_so (reaches w.memory (element_address (after_begin w.registers))) (is_allowed fixed w.bus) stepped runs

  pub begins_walk : BeginsWalk (controller_next fixed w)
  begins_walk = record {
    periodic = ap (λ (v : World). v.control.part) next_is ∙ has_begun.periodic;
    nothing = ap (λ (v : World). v.control.frame.hand) next_is ∙ has_begun.nothing;
  }

  pub begins_ahead : (e q : ℕ) (d : IsDueAtBegin fixed (controller_next fixed w) e q)
      → IsAhead fixed (controller_next fixed w) nothing_yet e q d.due.there.endpoint.desc
      (controller_next fixed w).control.frame.index (bytes_moved d.due.transfer.ready.answers)
  begins_ahead e q d =
      let name = d.due.there.endpoint.desc.name in
      let ready = d.due.transfer.ready in
      record {
        periodic = begins_walk.periodic;
        index = refl;
        free = d.due.free;
        unfound = λ o was. was;
        apart = λ a is. absurd (none_held a
            (sym (ap held_address begins_walk.nothing) ∙ is));
        same = λ y here. ap (λ (v : Endpoint). v.desc) (same_Some y d.due.there.endpoint (sym here ∙ d.due.there.here));
        yet = record {
          queue = d.due.transfer.queue;
          read = d.due.transfer.read;
          works = d.due.transfer.works;
          next = d.due.transfer.next;
          can = record { ready = ready; moves = refl };
        };
      }
    where
      none_held : (a : ℕ) → ◌≡◌ {A = Option ℕ} None (Some a) → ⊥
      none_held a is = cc

-- ---- an event of the driver, or a command

module _ (fixed : Fixed) (w later : World) (k : IsMixedWorld w) (l : IsMixedWorld later) (aside : IsAside w later)
    (heads : HeadsHaveFields w.driver w.memory) (heads_then : HeadsHaveFields later.driver later.memory) (e q : ℕ) (p : Placement)
    (i : IsInItsFrames w.driver e q p) (j : IsInItsFrames later.driver e q p) (same : j.endpoint.desc ≡ i.endpoint.desc)
    (f : ℕ) (low : f < 1024) (active : is_active p f ≡ true) (desc : EpDesc) (u bytes : ℕ) (t : SoFar) where
  aside_ahead : IsAhead fixed w t e q desc u bytes → IsAhead fixed later t e q desc u bytes
  aside_ahead a = record {
    periodic = ap (λ (c : Control). c.part) aside.control ∙ a.periodic;
    index = ap (λ (c : Control). c.frame.index) aside.control ∙ a.index;
    free = ap (λ (b : Bus). may_not_be_used fixed.holds b.microframe) aside.bus ∙ a.free;
    unfound = a.unfound;
    apart = λ b is. a.apart b (ap (λ (c : Control). held_address c.frame.hand) (sym aside.control) ∙ is);
    same = λ y here. ap (λ (v : Endpoint). v.desc) (same_Some y j.endpoint (sym here ∙ j.here)) ∙ same ∙ a.same i.endpoint i.here;
    yet = aside_yet fixed w later k l aside heads heads_then e q p i j same f low active desc.name bytes a.yet;
  }

  pub aside_waits : Waits fixed w t e q desc u bytes → Waits fixed later t e q desc u bytes
  aside_waits (is_ahead a) = is_ahead (aside_ahead a)
  aside_waits (was_found g) = was_found g
