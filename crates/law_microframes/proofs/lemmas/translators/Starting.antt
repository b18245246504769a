-- Each start-split of an interrupt endpoint follows its plan, at each moment of a script that a text spells; so the translators keep up.
use Rattle.std.proofs.Common.{◌≡◌, ℕ, ◌%◌, ◌==◌, ◌≤◌, arith, true, List, ◌∷◌, length, Option, Some, sym, ap, subst, ◌∙◌, ⊎_elim}
use Rattle.law_common.proofs.Numbers.{few_bytes}
use Rattle.usb_base.specs.declared.endpoints.EpDesc.{EpDesc}
use Rattle.usb_base.specs.declared.packets.Ask.{Ask}
use Rattle.usb_base.specs.declared.packets.EpKind.TheVariants as kinds
use Rattle.usb_base.specs.declared.packets.DataPart.{DataPart}
use Rattle.usb_base.specs.declared.packets.Split.TheVariants as splits
use Rattle.script_types.specs.declared.scripts.Script.{Script}
use Rattle.script_text.specs.Faults.{Spells}
use Rattle.script_fits.proofs.Texts.{spelled_fits}
use Rattle.law_scripts.proofs.lemmas.script_bytes.Texts.{a_text_spells_bytes}
use Rattle.word_mem.specs.Memory.{Mem}
use Rattle.mem_bytes.proofs.Loads.{length-bytes_at}
use Rattle.qh_qtd.specs.declared.queue_head.Qh.{Qh}
use Rattle.hc_copy.specs.Buffer.{sending}
use Rattle.hc_copy.specs.Overlay.{pages_of, buffer_place}
use Rattle.hc_copy.specs.Planning.{queue_pipe, carries}
use Rattle.hc_interrupt.specs.Turns.{microframe_of, planned, is_last_of}
use Rattle.hc_iso.specs.declared.held.HeldSitd.{HeldSitd}
use Rattle.hc_iso.specs.Sitd.{sitd_turn, sitd_transaction, sitd_place}
use Rattle.hc_iso.specs.WriteBack.{sitd_pages}
use Rattle.bandwidth.specs.Sums.{is_active}
use Rattle.periodic_walk.specs.declared.state.Hand.{Hand}
use Rattle.periodic_walk.specs.declared.state.Hand.TheVariants as hands
use Rattle.periodic_walk.specs.declared.state.HeldQueue.{HeldQueue}
use Rattle.periodic_walk.specs.Rows.{effect_of}
use Rattle.hc_core.specs.declared.controller.MicroframePart.TheVariants.{Periodic}
use Rattle.hc_core.specs.declared.controller.ControllerRow.{ControllerRow}
use Rattle.hc_core.specs.Controller.{frame_place}
use Rattle.drv_table.specs.DriverContent.{DriverContent}
use Rattle.bus_wire.specs.Bus.{fixed_of, opening_bus}
use Rattle.bus_world.specs.World.{World, controller_parts}
use Rattle.bus_world.specs.Budgets.{moment}
use Rattle.claims_world.specs.Visits.{frame_in, visited}
use Rattle.claims_world.specs.WithinLoad.{payments}
use Rattle.law_ring.specs.Hand.{Copy, copied_queue}
use Rattle.law_frames.specs.FrameHand.{FrameHand, OfQueue, OfSettled, frame_held}
use Rattle.law_frames.specs.Frame.{IsCopiedQueue, IsFrameWalk, IsInFrame}
use Rattle.law_descriptors.specs.Both.{both}
use Rattle.law_descriptors.specs.Meeting.{met}
use Rattle.law_world.specs.memory.Mixed.{Standing, IsMixedAt, IsMixedWorld}
use Rattle.law_world.proofs.lemmas.memory.FittingTexts.{texts_open_fitting}
use Rattle.law_world.proofs.lemmas.memory.Texts.{texts_fit}
use Rattle.law_world.proofs.lemmas.memory.Together.{texts_stay_mixed}
use Rattle.law_translator.specs.hub_plans.HubPlans.{AreKeysApart}
use Rattle.claims_world.specs.HubPlans.{is_below, placed_below, key_at, plans_now}
use Rattle.law_microframes.specs.plans.Laws.{PlacesAreRight}
use Rattle.law_microframes.specs.visits.Began.{began}
use Rattle.law_microframes.specs.visits.Belonging.{IsQueueAt, HeadsHaveFields}
use Rattle.law_microframes.specs.visits.InFrames.{AreInTheirFrames}
use Rattle.law_microframes.specs.time.DataQueues.{ReadsData}
use Rattle.law_microframes.specs.time.Payments.{names_in}
use Rattle.law_microframes.specs.time.PaymentLaws.{IsHandPaid, IsPassing, ArePaidByHand}
use Rattle.law_microframes.specs.due.repeats.Hearing.{IsHeardOn}
use Rattle.law_microframes.specs.translators.Watching.{StartFollows}
use Rattle.law_microframes.specs.translators.Keeping.{IsOwned, AsksInFrames, StartsFollow, SitdsFollow, IsKnown}
use Rattle.law_microframes.specs.translators.Laws.{InterruptsFollow}
use Rattle.law_microframes.proofs.lemmas.plans.Keys.{kept_apart, texts_plan_apart, texts_plan_hubs}
use Rattle.law_microframes.proofs.lemmas.plans.Right.{scripts_place_right}
use Rattle.law_microframes.proofs.lemmas.visits.BelongMoments.{scripts_keep_fields}
use Rattle.law_microframes.proofs.lemmas.visits.InFramesMoments.{scripts_stay_in_frames}
use Rattle.law_microframes.proofs.lemmas.visits.ReasonParts.{InPart, row_in}
use Rattle.law_microframes.proofs.lemmas.visits.VisitTexts.{lines_fit}
use Rattle.law_microframes.proofs.lemmas.time.DataHeads.{scripts_read_data}
use Rattle.law_microframes.proofs.lemmas.time.PaymentMoments.{ArePaidIn, payments_are_of_visits, scripts_are_paid}
use Rattle.law_microframes.proofs.lemmas.time.SlotTexts.{texts_fit_slots}
use Rattle.law_microframes.proofs.lemmas.due.lemmas.repeats.AskedHeads.{same_hand}
use Rattle.law_microframes.proofs.lemmas.due.lemmas.repeats.BusMoments.{each_bus_hears}
use Rattle.law_microframes.proofs.lemmas.due.lemmas.repeats.Endpoints.{AllStand, texts_stand}
use Rattle.law_microframes.proofs.lemmas.translators.Asking.{QueueAsks, SitdAsks, walk_asking, asked_so}
use Rattle.law_microframes.proofs.lemmas.translators.FrameIndex.{scripts_have_index}
use Rattle.law_microframes.proofs.lemmas.translators.Hands.{starts_split, works_in, held_as, copy_follows}

no_start : (hub port : ℕ) (part : DataPart) → splits.Plain ≡ splits.Start hub port part → ⊥
no_start hub port part e = cc

-- no more is sent than goes into a packet
sending_most : (q : Qh) (m : Mem) → length (sending (planned q) q m).bytes ≤ q.max
sending_most q m =
    let n = length-bytes_at m (pages_of q) (buffer_place q) (planned q).bytes in
    let most = few_bytes (carries (planned q).split (planned q).pipe.pid (planned q).host.ping) q.max q.token.total in
    omega (arith, n, most)

-- ---- a moment

module _ (s : Script) (st : Standing) (w : World) (k : IsMixedAt st w) (fields : HeadsHaveFields w.driver w.memory) (reads : ReadsData w)
    (stand : AllStand s w.driver)
    (hears : (x : EpDesc) → IsHeardOn (fixed_of s) (opening_bus s) x → IsHeardOn (fixed_of s) w.bus x)
    (right : PlacesAreRight w.driver)
    (apart : (hub port f : ℕ) → AreKeysApart (key_at w.driver) (placed_below hub port f w.driver.periodic.plan.placed))
    (in_frame : (h : HeldQueue) → w.control.frame.hand ≡ Some (hands.Queue h) → (b : IsQueueAt w.driver h.copy.at)
    → is_active b.belongs.placement (frame_in w.control.frame.index) ≡ true)
    (periodic : w.control.part ≡ Periodic) (index : w.control.frame.index ≡ w.registers.frame_index) where
  abbrev Fair : Ask → List ℕ → Type 0
  Fair ask out =
      StartFollows (IsOwned w.driver w.registers.frame_index) (plans_now w.driver w.registers.frame_index) (w.registers.frame_index % 8)
      w.bus.hubs ask (length out)

  copy_asks : (c : Copy) (made : ℕ) → w.control.frame.hand ≡ Some
      (hands.Queue (held_as s st w k fields reads stand hears right apart periodic index c made))
      → IsCopiedQueue (met w.driver st.recent) (both st.descs st.parts) c
      → QueueAsks Fair (held_as s st w k fields reads stand hears right apart periodic index c made) w.control.frame.index
  copy_asks c made held is m unset work hub port part a j content t split piped found here address place there =
      let z = (starts_split (c.queue.eps == 2) c.queue.token.split_state
      (queue_pipe kinds.Interrupt (copied_queue c)) hub port part split).0
      in
      let turn = works_in w.control.frame.index (copied_queue c) z.1 work in
      copy_follows s st w k fields reads stand hears right apart periodic index c
      (record { held = made; hand = held; copied = is; low = z.0; first = z.1; on = turn.1; bit = turn.0 })
      (λ b. in_frame (held_as s st w k fields reads stand hears right apart periodic index c made) held b)
      (sending (planned (copied_queue c)) (copied_queue c) m).bytes (is_last_of w.control.frame.index (copied_queue c))
      (sending_most (copied_queue c) m) hub port part a j content t split piped found here address place there

  by_hand : (h : HeldQueue) (frame : FrameHand) → w.control.frame.hand ≡ frame_held frame → w.control.frame.hand ≡ Some (hands.Queue h)
      → IsInFrame (met w.driver st.recent) (both st.descs st.parts) w.control.frame.got w.control.frame.reply frame
      → QueueAsks Fair h w.control.frame.index
  by_hand h (OfQueue c made) told held is =
      subst (λ (z : HeldQueue). QueueAsks Fair z w.control.frame.index)
      (same_hand h (held_as s st w k fields reads stand hears right apart periodic index c made) (sym told ∙ held))
      (copy_asks c made told is)
  by_hand h (OfSettled c z made) told held is =
      λ m unset work. absurd (let same = same_hand h _ (sym told ∙ held) in let e = ap (λ (z : HeldQueue). z.copy.settled) same
      ∙ unset in cc)
  by_hand h _ told held is = absurd (let e = sym told ∙ held in cc)

  pub queue_asks : (h : HeldQueue) → w.control.frame.hand ≡ Some (hands.Queue h) → QueueAsks Fair h w.control.frame.index
  queue_asks h held =
      let walk : IsFrameWalk (met w.driver st.recent) (both st.descs st.parts) st.frame
      (frame_place (controller_parts w)) = k.now.framed.runs.walk periodic in
      by_hand h st.frame walk.held held walk.in_hand

  sitd_asks : SitdsFollow w → (h : HeldSitd) → w.control.frame.hand ≡ Some (hands.Sitd h)
      → SitdAsks Fair h (microframe_of w.control.frame.index)
  sitd_asks sitds h held m unset work =
      let n = length-bytes_at m (sitd_pages h.sitd) (sitd_place h.sitd) (sitd_transaction h.sitd).bytes in
      let turn = ap (λ (u : ℕ). sitd_turn (u % 8) h.sitd) (sym index) ∙ work in
      subst (λ (u : ℕ). StartFollows (IsOwned w.driver w.registers.frame_index) (plans_now w.driver w.registers.frame_index)
      (w.registers.frame_index % 8) w.bus.hubs (sitd_transaction h.sitd).ask u) (sym n) (sitds h periodic held unset turn)

  pub all_follow : SitdsFollow w → (ask : Ask) (out : List ℕ) → AsksInFrames w ask out → Fair ask out
  all_follow sitds ask out a =
      asked_so Fair (effect_of (frame_place (controller_parts w))) ask out a.left_by a.asks
      (walk_asking Fair (frame_place (controller_parts w)) w.control.frame.hand
      (λ ask out plain hub port part x j h t split piped found here address place there.
      absurd (no_start hub port part (sym plain ∙ split)))
      (λ h held. queue_asks h held) (λ h held. sitd_asks sitds h held))

-- ---- a script

hand_paid : {b : World} {d : DriverContent} {now index : ℕ} (h : HeldQueue) (o : Option Hand) (ps : List (ℕ × ℕ)) → o ≡ Some (hands.Queue h)
    → ArePaidByHand b d now index o ps → IsHandPaid b d now index (hands.Queue h) ps
hand_paid {b} {d} {now} {index} h o ps is paid =
    ⊎_elim {C = IsHandPaid b d now index (hands.Queue h) ps} (λ (one : IsHandPaid b d now index (hands.Queue h) ps). one)
    (λ (none : IsPassing (hands.Queue h) ps). absurd none.idle) (subst (λ (z : Option Hand). ArePaidByHand b d now index z ps) is paid)

visited_first : (w : World) (vs : List ℕ) (ps : List (ℕ × ℕ)) (a paid : ℕ) (rest : List (ℕ × ℕ)) → names_in ps ≡ vs → ps ≡ (a, paid) ∷ rest
    → AreInTheirFrames w vs → (b : IsQueueAt w.driver a) → is_active b.belongs.placement (frame_in w.control.frame.index) ≡ true
visited_first w vs ps a paid rest names are in_frames =
    (subst (AreInTheirFrames w) (sym (sym (ap names_in are) ∙ names)) in_frames).0

module _ (text : List ℕ) (s : Script) (spelled : Spells text s) (k : ℕ) where
  abbrev o : World
  o = (moment s k).world

  moment_frames : o.control.part ≡ Periodic → (h : HeldQueue) → o.control.frame.hand ≡ Some (hands.Queue h)
      → (b : IsQueueAt o.driver h.copy.at) → is_active b.belongs.placement (frame_in o.control.frame.index) ≡ true
  moment_frames periodic h held =
      let bytes = a_text_spells_bytes text s spelled in
      let opens = lines_fit s.lines (texts_fit text s spelled) (texts_open_fitting text s spelled) in
      let paid : ArePaidIn (began s k) o (payments s k) = scripts_are_paid s (spelled_fits text s spelled) bytes opens
      (texts_fit_slots text s spelled) k in
      let one = hand_paid h o.control.frame.hand (payments s k) held (paid.hand periodic) in
      let each = visited_first o (visited s k) (payments s k) one.address one.paid one.rest (payments_are_of_visits s k) one.are
      (scripts_stay_in_frames s (spelled_fits text s spelled) bytes opens k) in
      subst (λ (a : ℕ). (b : IsQueueAt o.driver a) → is_active b.belongs.placement (frame_in o.control.frame.index) ≡ true)
      (sym one.at) each

  pub moment_apart : (hub port f : ℕ) → AreKeysApart (key_at o.driver) (placed_below hub port f o.driver.periodic.plan.placed)
  moment_apart hub port f =
      kept_apart (key_at o.driver) (is_below hub port f) o.driver.periodic.plan.placed (texts_plan_apart text s spelled k)

  -- each queue head in hand asks as its plan calls for
  pub moment_queue_asks : o.control.part ≡ Periodic → (h : HeldQueue) → o.control.frame.hand ≡ Some (hands.Queue h)
      → QueueAsks (λ ask out. StartFollows (IsOwned o.driver o.registers.frame_index) (plans_now o.driver o.registers.frame_index)
      (o.registers.frame_index % 8) o.bus.hubs ask (length out)) h o.control.frame.index
  moment_queue_asks periodic =
      let fit = spelled_fits text s spelled in
      let bytes = a_text_spells_bytes text s spelled in
      let opens = lines_fit s.lines (texts_fit text s spelled) (texts_open_fitting text s spelled) in
      let mixed : IsMixedWorld o = texts_stay_mixed text s spelled k in
      queue_asks s mixed.standing o mixed.mixed (scripts_keep_fields s fit bytes opens k) (scripts_read_data s fit bytes opens k)
      (texts_stand text s spelled k) (λ x heard. each_bus_hears s x heard k) (scripts_place_right s fit k) moment_apart
      (moment_frames periodic) periodic (scripts_have_index s fit k periodic)

  pub moment_starts : SitdsFollow o → StartsFollow o
  moment_starts sitds ask out a =
      let fit = spelled_fits text s spelled in
      let bytes = a_text_spells_bytes text s spelled in
      let opens = lines_fit s.lines (texts_fit text s spelled) (texts_open_fitting text s spelled) in
      let mixed : IsMixedWorld o = texts_stay_mixed text s spelled k in
      let periodic : o.control.part ≡ Periodic = subst (λ (r : ControllerRow). InPart r o.control.part) a.row (row_in o) in
      all_follow s mixed.standing o mixed.mixed (scripts_keep_fields s fit bytes opens k) (scripts_read_data s fit bytes opens k)
      (texts_stand text s spelled k) (λ x heard. each_bus_hears s x heard k) (scripts_place_right s fit k) moment_apart
      (moment_frames periodic)
      periodic (scripts_have_index s fit k periodic) sitds ask out a

  pub moment_known : SitdsFollow o → IsKnown o
  moment_known sitds = record { fit = texts_plan_hubs text s spelled k; apart = moment_apart; starts = moment_starts sitds }

pub interrupts_follow : InterruptsFollow
interrupts_follow text s spelled k sitds = moment_starts text s spelled k sitds
