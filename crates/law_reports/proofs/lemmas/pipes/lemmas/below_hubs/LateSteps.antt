-- A host that waits too long comes to no complete-split of the frame: an event of the controller, by its row (EHCI 1.0, 4.4, 4.6, 4.10 and
-- 4.12.2.4.1).
use Rattle.std.proofs.Common.{◌≡◌, ◌≢◌, ℕ, zero, suc, ◌+◌, ◌*◌, ◌/◌, ◌%◌, ◌^◌, ◌<◌, ◌⊎◌}
use Rattle.std.proofs.Common.{Bool, true, false, inl, inr, List, [], ◌∷◌, Option, Some, None}
use Rattle.std.proofs.Common.{⊎_elim, ap, refl, sym, subst, ◌∙◌, arith}
use Rattle.std.proofs.lemmas.Bool.{true≢false, false≢true, cases_eq}
use Rattle.std.proofs.lemmas.Option.{same_Some}
use Rattle.script_types.specs.declared.scripts.Script.{Script}
use Rattle.script_text.specs.Faults.{Spells}
use Rattle.script_fits.proofs.Texts.{spelled_fits}
use Rattle.law_common.proofs.Options.{none_some}
use Rattle.word_mem.specs.Memory.{Mem, word_at, reaches}
use Rattle.mem_queues.specs.Structures.{queue_head_at_address}
use Rattle.mem_descriptors.specs.Descriptors.{itd_at_address, sitd_at_address}
use Rattle.qh_qtd.specs.declared.queue_head.Qh.{Qh}
use Rattle.itd_sitd.specs.declared.itd.Itd.{Itd}
use Rattle.itd_sitd.specs.declared.sitd.Sitd.{Sitd}
use Rattle.async_walk.specs.declared.state.WalkStep.TheVariants as steps
use Rattle.periodic_walk.specs.Place.{FramePlace, HasEffect}
use Rattle.periodic_walk.specs.Rows.{step_at, effect_at}
use Rattle.law_structures.specs.lent_structures.Structures.{Structure, Structures, QueueHead, Isochronous, SplitIsochronous}
use Rattle.law_frames.specs.Met.{AnItd, ASitd, LeadsTo}
use Rattle.law_descriptors.specs.Both.{both}
use Rattle.law_descriptors.specs.Meeting.{met}
use Rattle.link_words.specs.declared.kinds.Link.{Link}
use Rattle.link_words.specs.declared.kinds.Link.TheVariants as links
use Rattle.op_registers.specs.RegisterFile.{levels_of}
use Rattle.op_registers.specs.Events.{next_index, after_begin}
use Rattle.periodic_walk.specs.declared.chain.ChainRow.{ChainRow}
use Rattle.periodic_walk.specs.declared.chain.ChainRow.TheVariants as chains
use Rattle.periodic_walk.specs.declared.state.Hand.{Hand}
use Rattle.periodic_walk.specs.declared.state.Hand.TheVariants as hands
use Rattle.periodic_walk.specs.Walk.{over_at, is_over, held_address}
use Rattle.periodic_walk.specs.Chain.{queue_fetch, itd_fetch, sitd_fetch, chain_row, chain_walk, chain_step}
use Rattle.hc_core.specs.declared.controller.ControllerRow.{ControllerRow}
use Rattle.hc_core.specs.declared.controller.ControllerRow.TheVariants as rows
use Rattle.hc_core.specs.declared.controller.MicroframePart.TheVariants.{Periodic}
use Rattle.hc_core.specs.Controller.{Content, Control, element_address, begun_at, frame_place, part_after, HasRow}
use Rattle.bus_wire.specs.Bus.{fixed_of, is_allowed}
use Rattle.claims_base.specs.Controller.{Base}
use Rattle.bus_world.specs.Budgets.{moment}
use Rattle.bus_world.specs.World.{World, controller_parts, controller_row, controller_next, with_turned, turned_by}
use Rattle.law_reports.proofs.lemmas.due_at_begin.FrameIndex.{begins_index, shows_index, has_index}
use Rattle.claims_world.specs.Visits.{IsInChain, IsLedTo, IsPastFrames, HasVisited, next_of, name_of}
use Rattle.claims_world.specs.Visits.{frame_in, fetched_by, visited_too, visits_at, visits_after, began, visited}
use Rattle.law_scripts.proofs.lemmas.script_bytes.Texts.{a_text_spells_bytes}
use Rattle.law_world.specs.memory.Mixed.{Standing, IsMixedAt, IsMixedWorld}
use Rattle.law_world.specs.steps.Streaming.{begins_by, transacts_by, wired}
use Rattle.law_world.proofs.lemmas.memory.Controller.{controller_keeps_mixed}
use Rattle.law_world.proofs.lemmas.memory.FittingTexts.{texts_open_fitting}
use Rattle.law_world.proofs.lemmas.memory.Texts.{texts_fit}
use Rattle.law_world.proofs.lemmas.steps.StreamTurning.{world_has_row}
use Rattle.law_microframes.specs.visits.Visited.{LinksNot, IsToCome, IsVisiting, VisitsGoOnAt, link_ahead}
use Rattle.law_microframes.proofs.Common.{in_list}
use Rattle.law_microframes.proofs.lemmas.translators.FrameIndex.{HasFrameIndex}
use Rattle.law_microframes.proofs.lemmas.visits.NoneLeftWalking.{index_stays}
use Rattle.law_microframes.proofs.lemmas.visits.VisitMeeting.{visits_meet_now}
use Rattle.law_microframes.proofs.lemmas.visits.VisitTexts.{lines_fit}
use Rattle.law_microframes.proofs.lemmas.visits.VisitsKept.{scripts_visit, texts_visit_each}
use Rattle.law_reports.specs.pipes.Declared.{sides_of}
use Rattle.law_reports.specs.pipes.below_hubs.InwardLaws.{WaitsAt}
use Rattle.law_reports.specs.pipes.below_hubs.Late.{IsHeldAt, IsAtFirst, IsLeftBehind, MissesFrame}
use Rattle.law_microframes.proofs.lemmas.due.Turning.{in_periodic}
use Rattle.law_reports.proofs.lemmas.due_at_begin.Asking.{walks}
use Rattle.law_reports.proofs.lemmas.pipes.lemmas.below_hubs.LateMissed.{its_parts, misses_then}
use Rattle.law_reports.proofs.lemmas.due_at_begin.Stages.{past_frames, begins_walk}
use Rattle.law_microframes.specs.time.DataQueues.{QueuesSendData}
use Rattle.law_microframes.specs.visits.Belonging.{HeadsHaveFields}
use Rattle.law_microframes.proofs.lemmas.visits.BelongMoments.{scripts_keep_fields}
use Rattle.law_microframes.proofs.lemmas.time.DataMoments.{scripts_send_data}
use Rattle.law_reports.proofs.lemmas.pipes.lemmas.below_hubs.LateAside.{chain_back}
use Rattle.law_reports.proofs.lemmas.pipes.lemmas.below_hubs.LateLinks.{HasLateHead, late_head, late_links_not}
use Rattle.law_reports.proofs.lemmas.pipes.lemmas.below_hubs.LateWalk.{HasInHand, comes_back}

-- ---- the link to what is fetched

itd_link : (a : ℕ) (o : Option Itd) (c : ℕ) (v : Itd) → itd_fetch a o ≡ chains.Itd c v → a ≡ c
itd_link a None c v is = absurd cc
itd_link a (Some x) c v is = cc

queue_itd : (a : ℕ) (o : Option Qh) (c : ℕ) (v : Itd) → queue_fetch a o ≡ chains.Itd c v → ⊥
queue_itd a None c v is = cc
queue_itd a (Some x) c v is = cc

sitd_itd : (a : ℕ) (o : Option Sitd) (c : ℕ) (v : Itd) → sitd_fetch a o ≡ chains.Itd c v → ⊥
sitd_itd a None c v is = cc
sitd_itd a (Some x) c v is = cc

by_itd : (m : Mem) (link : Link) (c : ℕ) (v : Itd) → chain_row m link ≡ chains.Itd c v → link ≡ links.Itd c
by_itd m links.End c v is = absurd cc
by_itd m (links.Itd a) c v is = ap links.Itd (itd_link a (itd_at_address m a) c v is)
by_itd m (links.Qh a) c v is = absurd (queue_itd a (queue_head_at_address m a) c v is)
by_itd m (links.Sitd a) c v is = absurd (sitd_itd a (sitd_at_address m a) c v is)
by_itd m (links.Fstn a) c v is = absurd cc

sitd_link : (a : ℕ) (o : Option Sitd) (c : ℕ) (v : Sitd) → sitd_fetch a o ≡ chains.Sitd c v → a ≡ c
sitd_link a None c v is = absurd cc
sitd_link a (Some x) c v is = cc

queue_sitd : (a : ℕ) (o : Option Qh) (c : ℕ) (v : Sitd) → queue_fetch a o ≡ chains.Sitd c v → ⊥
queue_sitd a None c v is = cc
queue_sitd a (Some x) c v is = cc

itd_sitd : (a : ℕ) (o : Option Itd) (c : ℕ) (v : Sitd) → itd_fetch a o ≡ chains.Sitd c v → ⊥
itd_sitd a None c v is = cc
itd_sitd a (Some x) c v is = cc

by_sitd : (m : Mem) (link : Link) (c : ℕ) (v : Sitd) → chain_row m link ≡ chains.Sitd c v → link ≡ links.Sitd c
by_sitd m links.End c v is = absurd cc
by_sitd m (links.Itd a) c v is = absurd (itd_sitd a (itd_at_address m a) c v is)
by_sitd m (links.Qh a) c v is = absurd (queue_sitd a (queue_head_at_address m a) c v is)
by_sitd m (links.Sitd a) c v is = ap links.Sitd (sitd_link a (sitd_at_address m a) c v is)
by_sitd m (links.Fstn a) c v is = absurd cc

record IsFetchedHead (r : ChainRow) (n : ℕ) : Type 0 where
  head : Qh
  is : r ≡ chains.Queue n head

no_itd : (v : Itd) (q : Qh) → ◌≡◌ {A = Option Structure} (Some (Isochronous v)) (Some (QueueHead q)) → ⊥
no_itd v q e = cc

no_sitd : (v : Sitd) (q : Qh) → ◌≡◌ {A = Option Structure} (Some (SplitIsochronous v)) (Some (QueueHead q)) → ⊥
no_sitd v q e = cc

-- ---- FRINDEX

same_frame : (i : ℕ) → 0 < (i + 1) % 16384 % 8 → (i + 1) % 16384 / 8 % 1024 ≡ i / 8 % 1024
same_frame i some = omega (arith, some)

above : (i : ℕ) → i ≢ 0 → 0 < i
above zero some = absurd (some refl)
above (suc i) some = omega arith

-- ---- the element of a frame, as a microframe begins: memory and the list stay

abbrev LedIn : World → Content → Type 0
LedIn w c = (f n : ℕ) → IsLedTo c.memory n (next_of c.memory (c.registers.periodic_list_base + 4 * f)) → IsInChain w f n

abbrev CameIn : World → Content → Type 0
CameIn w c = (n : ℕ) → IsToCome c.memory c.control n → IsInChain w (frame_in c.control.frame.index) n

module _ (w : World) where
  abbrev stepped : Content
  stepped = record (controller_parts w) { registers = after_begin w.registers }

  led_in : (reached allowed : Bool) → (begun_at reached allowed stepped).registers.run ≡ true → LedIn w (begun_at reached allowed stepped)
  led_in true allowed run = λ f n led. led
  led_in false allowed run = absurd (false≢true run)

  came_in : w.registers.list_size ≡ 0 → (reached allowed : Bool) → (begun_at reached allowed stepped).registers.run ≡ true
      → CameIn w (begun_at reached allowed stepped)
  came_in size true allowed run = λ n t.
      subst (λ (m : ℕ). IsLedTo w.memory n (next_of w.memory ((after_begin w.registers).periodic_list_base
      + 4 * ((after_begin w.registers).frame_index / 8 % 2 ^ levels_of m)))) size t.leads
  came_in size false allowed run = absurd (false≢true run)

-- ---- at a moment

module _ (text : List ℕ) (s : Script) (spelled : Spells text s) (k n : ℕ) where
  abbrev w : World
  w = (moment s k).world

  abbrev new : World
  new = controller_next (fixed_of s) (moment s k).world

  visiting : IsVisiting (began s k) (moment s k).world (visited s k)
  visiting =
      scripts_visit s (spelled_fits text s spelled) (a_text_spells_bytes text s spelled)
      (lines_fit s.lines (texts_fit text s spelled) (texts_open_fitting text s spelled)) k

  -- ---- the row Begin

  module _ (row : controller_row (moment s k).world ≡ rows.Begin) (mixed : IsMixedWorld (moment s k).world)
      (index_then : HasFrameIndex (controller_next (fixed_of s) (moment s k).world)) where
    then_mixed : IsMixedWorld (controller_next (fixed_of s) (moment s k).world)
    then_mixed = controller_keeps_mixed (fixed_of s) w mixed

    past : IsPastFrames (moment s k).world
    past = past_frames w mixed (λ frame. let never : rows.Begin ≡ rows.Frame = sym row ∙ frame in cc never)

    -- what was in hand was put down
    none_held : IsHeldAt (moment s k).world n → ⊥
    none_held held =
        true≢false (sym (past held.part) ∙ ap (λ (o : Option Hand). over_at o w.control.frame.cursor) held.in_hand)

    -- it isn't linked in the frame of the microframe that ends
    pub out : WaitsAt (fixed_of s) (sides_of s) (moment s k).world n
        → MissesFrame (fixed_of s) (sides_of s) (began s k) (moment s k).world (visited s k) n
        → IsInChain (moment s k).world (frame_in (moment s k).world.control.frame.index) n → ⊥
    out late m led =
        ⊎_elim (λ (zero : w.control.frame.index % 8 ≡ 0).
        let f = m.first zero in
        ⊎_elim (λ (held : IsHeldAt (moment s k).world n). none_held held)
        (λ (never : WaitsAt (fixed_of s) (sides_of s) (moment s k).world n → ⊥). never late)
        (f.visited (texts_visit_each text s spelled k n past (f.linked led) led)))
        (λ (some : w.control.frame.index % 8 ≢ 0). (m.later some).unlinked led) (cases_eq (w.control.frame.index % 8) 0)

    -- ---- the next microframe

    abbrev c : Content
    c = begun_at (reaches (moment s k).world.memory (element_address (after_begin (moment s k).world.registers)))
        (is_allowed (fixed_of s) (moment s k).world.bus) (stepped (moment s k).world)

    next_is : controller_next (fixed_of s) (moment s k).world
        ≡ with_turned (moment s k).world (turned_by (fixed_of s) rows.Begin (controller_parts (moment s k).world) (moment s k).world.bus)
    next_is = ap (λ (r : ControllerRow). with_turned w (turned_by (fixed_of s) r (controller_parts w) w.bus)) row

    runs : c.registers.run ≡ true
    runs =
        ap (λ (v : World). v.registers.run) (sym next_is)
        ∙ ap (λ (b : Base). b.run) then_mixed.mixed.now.framed.runs.ring.registers

    parts_are : controller_parts (controller_next (fixed_of s) (moment s k).world) ≡ c
    parts_are = ap controller_parts next_is

    led_then : (f : ℕ) → IsInChain (controller_next (fixed_of s) (moment s k).world) f n → IsInChain (moment s k).world f n
    led_then f led =
        led_in w _ (is_allowed (fixed_of s) w.bus) runs f n
        (subst (λ (d : Content). IsLedTo d.memory n (next_of d.memory (d.registers.periodic_list_base + 4 * f))) parts_are led)

    came_then : IsToCome new.memory new.control n → IsInChain w (frame_in new.control.frame.index) n
    came_then t =
        subst (λ (d : Content). IsInChain w (frame_in d.control.frame.index) n) (sym parts_are)
        (came_in w (ap (λ (b : Base). b.list_size) mixed.mixed.now.framed.runs.ring.registers) _ (is_allowed (fixed_of s) w.bus) runs n (subst (λ (d : Content). IsToCome d.memory d.control n) parts_are t))

    index_next : new.control.frame.index ≡ next_index w.control.frame.index
    index_next = begins_index (fixed_of s) w (shows_index text s spelled k) row then_mixed index_then

    -- b: the world itself
    pub begins_misses : (next_index (moment s k).world.control.frame.index % 8 ≢ 0
        → IsInChain (moment s k).world (frame_in (moment s k).world.control.frame.index) n → ⊥)
        → MissesFrame (fixed_of s) (sides_of s) (moment s k).world (controller_next (fixed_of s) (moment s k).world) [] n
    begins_misses out_now = record {
      first = λ zero. record { linked = λ led. led_then (frame_in new.control.frame.index) led; visited = λ was. absurd was };
      later = λ some.
          (let some_next : next_index w.control.frame.index % 8 ≢ 0 = λ zero. some (ap (λ (i : ℕ). i % 8) index_next ∙ zero) in
          let same : frame_in new.control.frame.index ≡ frame_in w.control.frame.index =
          ap frame_in index_next ∙ same_frame w.control.frame.index (above (next_index w.control.frame.index % 8) some_next) in
          let never : IsInChain w (frame_in new.control.frame.index) n → ⊥ =
          λ led. out_now some_next (subst (λ (f : ℕ). IsInChain w f n) same led) in
          record {
            unlinked = λ led. never (led_then (frame_in new.control.frame.index) led);
            unreached = λ t. never (came_then t);
            unheld = λ part held.
                none_some n (sym (ap held_address (begins_walk (fixed_of s) w row then_mixed).nothing) ∙ held);
          });
    }

  -- ---- another row

  module _ (other : controller_row (moment s k).world ≢ rows.Begin) (late : WaitsAt (fixed_of s) (sides_of s) (moment s k).world n)
      (m : MissesFrame (fixed_of s) (sides_of s) (began s k) (moment s k).world (visited s k) n) where
    off : LinksNot (moment s k).world n
    off = late_links_not text s spelled (sides_of s) k n late

    heads : HeadsHaveFields (moment s k).world.driver (moment s k).world.memory
    heads =
        scripts_keep_fields s (spelled_fits text s spelled) (a_text_spells_bytes text s spelled)
        (lines_fit s.lines (texts_fit text s spelled) (texts_open_fitting text s spelled)) k

    sends : QueuesSendData (moment s k).world.driver (moment s k).world.memory
    sends =
        scripts_send_data s (spelled_fits text s spelled) (a_text_spells_bytes text s spelled)
        (lines_fit s.lines (texts_fit text s spelled) (texts_open_fitting text s spelled)) k

    mixed : IsMixedWorld (moment s k).world
    mixed = record { standing = late.standing; mixed = late.piped.mixed }

    mixed_on : IsMixedWorld (controller_next (fixed_of s) (moment s k).world)
    mixed_on = controller_keeps_mixed (fixed_of s) w mixed

    g : VisitsGoOnAt late.standing (began s k) (moment s k).world (visited s k)
    g = visits_meet_now late.standing (began s k) w (visited s k) late.piped.mixed visiting.visits

    index_same : (controller_next (fixed_of s) (moment s k).world).control.frame.index ≡ (moment s k).world.control.frame.index
    index_same =
        index_stays begins_by transacts_by (controller_parts w) (wired (fixed_of s) w) (controller_parts new) (wired (fixed_of s) new)
        (controller_row w) other (world_has_row (fixed_of s) w)

    led_back : IsInChain (controller_next (fixed_of s) (moment s k).world)
        (frame_in (controller_next (fixed_of s) (moment s k).world).control.frame.index) n
        → IsInChain (moment s k).world (frame_in (moment s k).world.control.frame.index) n
    led_back led =
        chain_back late.standing mixed_on.standing w new (frame_in w.control.frame.index) n late.piped.mixed mixed_on.mixed
        (in_list w.control.frame.index) off (λ h. h) (subst (λ (i : ℕ). IsInChain new (frame_in i) n) index_same led)

    back : IsToCome new.memory new.control n ⊎ HasInHand new n → IsToCome w.memory w.control n ⊎ HasInHand w n
    back =
        comes_back (fixed_of s) (sides_of s) late.standing late.lines late.heads (began s k) w (visited s k) late.piped heads sends g n other

    behind_then : IsLeftBehind (moment s k).world n → IsLeftBehind (controller_next (fixed_of s) (moment s k).world) n
    behind_then p = record {
      unlinked = λ led. p.unlinked (led_back led);
      unreached = λ t.
          ⊎_elim (λ (u : IsToCome w.memory w.control n). p.unreached u) (λ (u : HasInHand w n). p.unheld u.part u.held) (back (inl t));
      unheld = λ part held.
          ⊎_elim (λ (u : IsToCome w.memory w.control n). p.unreached u) (λ (u : HasInHand w n). p.unheld u.part u.held)
          (back (inr (record { part = part; held = held })));
    }

    -- ---- in microframe 0: it is fetched, and then found missed

    its : HasLateHead late.standing n
    its = late_head late.standing n late.late

    head_both : both late.standing.descs late.standing.parts n n ≡ Some (QueueHead its.queue)
    head_both =
        ap (λ (ps : Structures). ps n) (its_parts late.standing w late.piped.mixed n its.queue its.head) ∙ its.head

    fetched_kind : (r : ChainRow) → chain_row w.memory w.control.frame.cursor ≡ r → fetched_by r ≡ Some n → w.control.part ≡ Periodic
        → IsFetchedHead r n
    fetched_kind chains.Fault is at part = absurd (none_some n at)
    fetched_kind chains.Ends is at part = absurd (none_some n at)
    fetched_kind (chains.Queue a q) is at part = record { head = q; is = ap (λ (b : ℕ). chains.Queue b q) (same_Some a n at) }
    fetched_kind (chains.Itd a v) is at part =
        let walks = late.piped.mixed.now.framed.runs.walk part in
        let link : w.control.frame.cursor ≡ links.Itd a = by_itd w.memory w.control.frame.cursor a v is in
        let one : met w.driver late.standing.recent a ≡ Some AnItd =
        subst (LeadsTo (met w.driver late.standing.recent)) link walks.cursor in
        let its_own = late.piped.mixed.now.framed.runs.members a AnItd one in
        let there : both late.standing.descs late.standing.parts n n ≡ Some (Isochronous its_own.itd) =
        subst (λ (i : ℕ). both late.standing.descs late.standing.parts i i ≡ Some (Isochronous its_own.itd)) (same_Some a n at) its_own.here in
        absurd (no_itd its_own.itd its.queue (sym there ∙ head_both))
    fetched_kind (chains.Sitd a v) is at part =
        let walks = late.piped.mixed.now.framed.runs.walk part in
        let link : w.control.frame.cursor ≡ links.Sitd a = by_sitd w.memory w.control.frame.cursor a v is in
        let one : met w.driver late.standing.recent a ≡ Some ASitd =
        subst (LeadsTo (met w.driver late.standing.recent)) link walks.cursor in
        let its_own = late.piped.mixed.now.framed.runs.members a ASitd one in
        let there : both late.standing.descs late.standing.parts n n ≡ Some (SplitIsochronous its_own.sitd) =
        subst (λ (i : ℕ). both late.standing.descs late.standing.parts i i ≡ Some (SplitIsochronous its_own.sitd)) (same_Some a n at) its_own.here in
        absurd (no_sitd its_own.sitd its.queue (sym there ∙ head_both))

    fetched_held : (row : controller_row (moment s k).world ≡ rows.Frame) → w.control.frame.hand ≡ None
        → fetched_by (chain_row w.memory w.control.frame.cursor) ≡ Some n → IsHeldAt (controller_next (fixed_of s) (moment s k).world) n
    fetched_held row none at =
        let part : w.control.part ≡ Periodic = in_periodic (fixed_of s) w row in
        let f = fetched_kind (chain_row w.memory w.control.frame.cursor) refl at part in
        let go = walks (fixed_of s) (sides_of s) late.standing late.lines late.heads w late.piped heads sends row in
        let made : HasEffect transacts_by (effect_at (frame_place (controller_parts w)) None) (wired (fixed_of s) w)
        (frame_place (controller_parts new)) (wired (fixed_of s) new) =
        subst (λ (o : Option Hand). HasEffect transacts_by (effect_at (frame_place (controller_parts w)) o) (wired (fixed_of s) w)
        (frame_place (controller_parts new)) (wired (fixed_of s) new)) none go.walked in
        record {
          part = go.part ∙ ap (λ (o : Option Hand). part_after Periodic (step_at (frame_place (controller_parts w)) o)) none
              ∙ ap (λ (r : ChainRow). part_after Periodic (chain_step r)) f.is;
          held = _;
          in_hand = ap (λ (v : FramePlace). v.walk.hand) made.0 ∙ ap (λ (r : ChainRow). (chain_walk r w.control.frame).hand) f.is;
          at = refl;
          unsettled = refl;
        }

    abbrev Then : List ℕ → Type 0
    Then vs = HasVisited n vs
        → IsHeldAt (controller_next (fixed_of s) (moment s k).world) n
        ⊎ (WaitsAt (fixed_of s) (sides_of s) (controller_next (fixed_of s) (moment s k).world) n → ⊥)

    module _ (zero : (moment s k).world.control.frame.index % 8 ≡ 0) where
      was_held : HasVisited n (visited s k) → IsHeldAt (moment s k).world n
      was_held was =
          ⊎_elim (λ (held : IsHeldAt (moment s k).world n). held)
          (λ (never : WaitsAt (fixed_of s) (sides_of s) (moment s k).world n → ⊥). absurd (never late)) ((m.first zero).visited was)

      misses : (row : controller_row (moment s k).world ≡ rows.Frame) → IsHeldAt (moment s k).world n
          → WaitsAt (fixed_of s) (sides_of s) (controller_next (fixed_of s) (moment s k).world) n → ⊥
      misses row held = misses_then (fixed_of s) (sides_of s) w n late heads sends row held zero

      by_fetch : (row : controller_row (moment s k).world ≡ rows.Frame) → w.control.frame.hand ≡ None → (o : Option ℕ)
          → fetched_by (chain_row w.memory w.control.frame.cursor) ≡ o → Then (visited_too o (visited s k))
      by_fetch row none None at = λ was. inr (misses row (was_held was))
      by_fetch row none (Some a) at = λ was.
          ⊎_elim {C = IsHeldAt new n ⊎ (WaitsAt (fixed_of s) (sides_of s) new n → ⊥)}
          (λ (same : n ≡ a). inl (fetched_held row none (at ∙ ap (λ (i : ℕ). Some i) (sym same))))
          (λ (older : HasVisited n (visited s k)). inr (misses row (was_held older))) was

      by_hand : (row : controller_row (moment s k).world ≡ rows.Frame) → (o : Option Hand) → w.control.frame.hand ≡ o
          → Then (visits_at o (chain_row w.memory w.control.frame.cursor) (visited s k))
      by_hand row None none = by_fetch row none (fetched_by (chain_row w.memory w.control.frame.cursor)) refl
      by_hand row (Some hand) some = λ was. inr (misses row (was_held was))

      idle_row : controller_row (moment s k).world ≢ rows.Frame → Then (visited s k)
      idle_row off_frames was =
          let held : IsHeldAt w n = was_held was in
          absurd (true≢false (sym (past_frames w mixed off_frames held.part)
          ∙ ap (λ (o : Option Hand). over_at o w.control.frame.cursor) held.in_hand))

      by_row : (r : ControllerRow) → controller_row (moment s k).world ≡ r → r ≢ rows.Begin → Then (visits_after r (controller_parts w) (visited s k))
      by_row rows.Begin is off_begin = absurd (off_begin refl)
      by_row rows.Frame is off_begin = by_hand is w.control.frame.hand refl
      by_row rows.Idle is off_begin = idle_row (λ frame. let never : rows.Idle ≡ rows.Frame = sym is ∙ frame in cc never)
      by_row rows.Enter is off_begin = idle_row (λ frame. let never : rows.Enter ≡ rows.Frame = sym is ∙ frame in cc never)
      by_row rows.Go is off_begin = idle_row (λ frame. let never : rows.Go ≡ rows.Frame = sym is ∙ frame in cc never)
      by_row rows.End is off_begin = idle_row (λ frame. let never : rows.End ≡ rows.Frame = sym is ∙ frame in cc never)

    pub goes_on_misses : MissesFrame (fixed_of s) (sides_of s) (began s k) (controller_next (fixed_of s) (moment s k).world)
        (visits_after (controller_row (moment s k).world) (controller_parts (moment s k).world) (visited s k)) n
    goes_on_misses = record {
      first = λ zero.
          (let was : w.control.frame.index % 8 ≡ 0 = sym (ap (λ (i : ℕ). i % 8) index_same) ∙ zero in
          record {
            linked = λ led.
                subst (λ (i : ℕ). IsInChain (began s k) (frame_in i) n) (sym index_same) ((m.first was).linked (led_back led));
            visited = by_row was (controller_row w) refl other;
          });
      later = λ some. behind_then (m.later (λ zero. some (ap (λ (i : ℕ). i % 8) index_same ∙ zero)));
    }
