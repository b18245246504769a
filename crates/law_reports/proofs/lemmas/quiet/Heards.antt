-- At each moment of each script whose packets on the high-speed bus all get through, no queue of an endpoint there has used up its errors.
use Rattle.std.proofs.Common.{◌≡◌, ◌≢◌, ℕ, Bool, true, false, List, [], ◌∷◌, length, slice_get, Some, Result}
use Rattle.std.proofs.Common.{Ok, Err, ap, refl, sym, subst, ◌∙◌, ⊎_elim, inl, inr}
use Rattle.std.specs.List.{AllByRecursion}
use Rattle.std.proofs.lemmas.Option.{same_Some}
use Rattle.usb_base.specs.declared.commands.Cmd.{Cmd}
use Rattle.usb_base.specs.declared.endpoints.EpDesc.{EpDesc}
use Rattle.usb_base.specs.declared.endpoints.EpName.{EpName}
use Rattle.usb_base.specs.declared.packets.Ask.{Ask}
use Rattle.usb_base.specs.declared.packets.EpKind.{EpKind}
use Rattle.usb_base.specs.declared.packets.EpKind.TheVariants as kinds
use Rattle.usb_base.specs.declared.packets.Reply.{Reply}
use Rattle.usb_base.specs.declared.packets.Way.TheVariants as ways
use Rattle.usb_base.specs.declared.reports.OfferError.{OfferError}
use Rattle.script_types.specs.declared.scripts.Line.{Line}
use Rattle.script_types.specs.declared.scripts.Line.TheVariants as lines
use Rattle.script_types.specs.declared.scripts.Script.{Script}
use Rattle.script_fits.specs.Fits.{IsFit}
use Rattle.script_fits.proofs.Texts.{spelled_fits}
use Rattle.script_text.specs.Faults.{Spells}
use Rattle.bus_wire.specs.Bus.{Fixed, fixed_of, reply_of}
use Rattle.qh_qtd.specs.declared.queue_head.Qh.{Qh}
use Rattle.toggle_error.specs.Settle.{settled}
use Rattle.hc_copy.specs.Planning.{host_in, transaction_of}
use Rattle.hc_copy.specs.Transacting.{call_in}
use Rattle.hc_interrupt.specs.Turns.{is_last_of}
use Rattle.async_walk.specs.Naks.{kind_at}
use Rattle.claims_world.specs.Quiet.{IsHeardAbove}
use Rattle.drv_table.specs.declared.content.Endpoint.{Endpoint}
use Rattle.drv_table.specs.Accepting.{Offered}
use Rattle.drv_table.specs.DriverContent.{DriverContent}
use Rattle.drv_table.specs.Kinds.{is_iso}
use Rattle.drv_table.specs.Offers.{IsOffered, offered}
use Rattle.drv_table.specs.Rows.{driver_row}
use Rattle.law_driver.proofs.lemmas.queued_drivers.CommandReasons.{reason_of}
use Rattle.law_structures.specs.lent_structures.Structures.{QueueHead, Structures}
use Rattle.law_ring.specs.Hand.{Hand, Empty}
use Rattle.law_ring.specs.Effects.{settlement, Makes}
use Rattle.law_ring.specs.OutBus.{Taker}
use Rattle.law_common.proofs.Lists.{nothing_at, push_which}
use Rattle.law_frames.specs.Frame.{IsCopiedQueue}
use Rattle.law_frames.specs.FrameHand.{FrameHand}
use Rattle.law_frames.specs.FrameHand.FrameHand.{Nothing as NoneHeld}
use Rattle.law_frames.specs.FrameEffects.{frame_settlement, MakesOfQueue}
use Rattle.law_controller.specs.frame_control.Joined.{joined}
use Rattle.law_descriptors.specs.Both.{both}
use Rattle.law_descriptors.specs.Meeting.{met}
use Rattle.law_devices.proofs.lemmas.scripted_takers.Asking.{HasTaker}
use Rattle.law_microframes.specs.visits.Belonging.{IsQueueAt}
use Rattle.law_microframes.proofs.lemmas.visits.AskedHeads.{asked_is_near}
use Rattle.law_microframes.proofs.lemmas.visits.BelongQueues.{queue_belongs}
use Rattle.law_scripts.proofs.lemmas.script_bytes.Texts.{a_text_spells_bytes}
use Rattle.law_scripts.specs.byte_answers.Bytes.{IsByteScript}
use Rattle.law_world.specs.steps.receiving_runs.Runs.{KindOfLine}
use Rattle.law_world.specs.steps.Streaming.{transacts_by, wired}
use Rattle.law_world.specs.memory.Mixed.{Standing, IsMixedAt}
use Rattle.law_world.specs.memory.Opens.{OpensMixed}
use Rattle.law_world.specs.memory.Steps.{IsEventOf, IsMixedNext, standing_then, QueueStep}
use Rattle.law_world.specs.memory.Steps.{stays, harvests, returns, lends, stores, mends, begins, opens, unlinks, narrows, goes}
use Rattle.law_world.specs.memory.pipe_steps.Laws.{IsNoOpening}
use Rattle.law_world.proofs.Common.{lines_can}
use Rattle.law_world.proofs.lemmas.steps.lemmas.receiving_runs.Runs.{holds_throughout}
use Rattle.law_world.proofs.lemmas.memory.Driving.{driver_tells_step}
use Rattle.law_world.proofs.lemmas.memory.FittingTexts.{texts_open_fitting}
use Rattle.law_world.proofs.lemmas.memory.Texts.{texts_fit}
use Rattle.law_world.proofs.lemmas.memory.Together.{lines_fit}
use Rattle.law_reports.specs.lines.TellingLaws.{IsTellingNext}
use Rattle.law_reports.proofs.lemmas.lines.Driven.{driver_keeps_telling}
use Rattle.law_reports.specs.pipes.Declared.{sides_of}
use Rattle.law_reports.specs.pipes.Piped.{IsPiped}
use Rattle.law_reports.specs.pipes.PipedLaws.{OpensDeclared}
use Rattle.law_reports.proofs.lemmas.pipes.Accepted.{EndsThen, one_more as one_endpoint_more, one_anew, ends_then, was_anew}
use Rattle.law_reports.proofs.lemmas.pipes.Across.{WasIn, was_in, row_ends}
use Rattle.law_reports.proofs.lemmas.pipes.Commanded.{commanded_piped}
use Rattle.law_reports.proofs.lemmas.pipes.Controlled.{c as controlled_event, controlled}
use Rattle.law_reports.proofs.lemmas.pipes.DeclaredOpens.{texts_declare}
use Rattle.law_reports.proofs.lemmas.pipes.Driven.{heads_left, driven}
use Rattle.law_reports.proofs.lemmas.pipes.Names.{IsMetHead, same_number, kept_as}
use Rattle.law_reports.proofs.lemmas.pipes.Opened.{opened_piped}
use Rattle.law_reports.proofs.lemmas.pipes.Opening.{new_standing, no_lines, no_heads, new_piped}
use Rattle.law_reports.specs.quiet.Errors.{key_of, TokenHasLeft, HostHasLeft}
use Rattle.law_reports.specs.quiet.Heard.{is_high_asked, IsServed, AreServed, IsHeardBus, IsHeardWorld}
use Rattle.law_reports.specs.quiet.Laws.{HasErrorsLeft}
use Rattle.law_reports.proofs.lemmas.quiet.Answers.{MayWait}
use Rattle.law_reports.proofs.lemmas.quiet.Asked.{of_endpoint, fast, addr_is, ep_is, served, is_told, is_plain, is_fast, is_whole}
use Rattle.law_reports.proofs.lemmas.quiet.BusEvents.{opening_keeps_bus}
use Rattle.law_reports.proofs.lemmas.quiet.BusWorlds.{controller_keeps_bus}
use Rattle.law_reports.proofs.lemmas.quiet.Rows.{answers_count_none}
use Rattle.law_reports.proofs.lemmas.quiet.Served.{OpensServed, speed_is, texts_serve}
use Rattle.law_reports.proofs.lemmas.quiet.Steps.{command_publishes}
use Rattle.law_reports.proofs.lemmas.quiet.Waiting.{none_waits}
use Rattle.law_reports.proofs.lemmas.quiet.Worlds.{driver_leaves_errors, off, event_leaves_errors, head_alone}
use Rattle.bus_world.specs.Budgets.{moment}
use Rattle.bus_world.specs.Opening.{opening_world}
use Rattle.bus_world.specs.World.{World, driver_parts, driver_next, controller_next, name_in, commanded_by, commanded}

-- ---- a transaction

module _ (text : List ℕ) (s : Script) (spelled : Spells text s) (above : IsHeardAbove s) (w : World) (k : IsHeardWorld s w) where
  abbrev st : Standing
  st = k.standing

  abbrev fixed : Fixed
  fixed = fixed_of s

  mixed : IsMixedAt st w
  mixed = k.piped.mixed

  abbrev event : IsEventOf (fixed_of s) k.standing w
  event = (controlled_event (fixed_of s) (sides_of s) k.standing k.lines k.heads w k.piped).event

  pub own_here : (n : ℕ) (q : Qh) → both st.descs st.parts n n ≡ Some (QueueHead q) → st.parts n n ≡ Some (QueueHead q)
  own_here n q here = ap (λ (part : Structures). part n) (sym (off is_high_asked (fixed_of s) st w mixed event k.left n q here))
      ∙ here

  token_at : (n : ℕ) (q : Qh) → both st.descs st.parts n n ≡ Some (QueueHead q) → TokenHasLeft is_high_asked (key_of q) q.token
  token_at n q here = (k.left.parts n).head q (own_here n q here)

  abbrev MayAlways : (q : Qh) → EpKind → EpDesc → Type 0
  MayAlways q kind x = x.name.way ≡ ways.Out → (u : Taker) (h : HasTaker (wired (fixed_of s) w) q.addr q.ep u)
      → MayWait kind h.at.at.part.taking.items

  -- whichever walk makes it
  module _ (n : ℕ) (q : Qh) (here : both st.descs st.parts n n ≡ Some (QueueHead q)) (near : st.near n ≡ true)
      (active : q.token.active ≡ true)
      (kind : EpKind) (some : kind ≢ kinds.Iso) (out : List ℕ) (last : Bool) (long : length out ≡ (transaction_of kind q).bytes)
      (may : (on : is_high_asked (key_of q) ≡ true)
      → MayAlways q kind (of_endpoint text s spelled above w k n q on near (own_here n q here)).endpoint.desc) where
    abbrev ask : Ask
    ask = (call_in (transaction_of kind q) out last).ask

    abbrev reply : Reply
    reply = reply_of (fixed_of s) w.bus ask (call_in (transaction_of kind q) out last).out

    pub answered : HostHasLeft is_high_asked (key_of q) q.token.pid
        (settled ask (call_in (transaction_of kind q) out last).sent last reply (host_in q))
    answered =
        let t : TokenHasLeft is_high_asked (key_of q) q.token = token_at n q here in
        let own = own_here n q here in
        answers_count_none is_high_asked (key_of q) q.token.pid ask (call_in (transaction_of kind q) out last).sent last reply
        (host_in q) t.met
        (λ on. t.going on active)
        (λ on. (
          is_plain text s spelled above w k n q on near own active kind out last long (λ setup. t.setup on setup active) (may on),
          (
            is_fast text s spelled above w k n q on near own active kind out last long (λ setup. t.setup on setup active) (may on),
            (some, is_told text s spelled above w k n q on near own active kind out last long (λ setup. t.setup on setup active) (may on)),
          ),
        ))
        (λ on setup. is_whole text s spelled above w k n q on near own active kind out last long (λ pid. t.setup on pid active)
        (may on) setup)

  -- ---- in the ring

  ring_kind : (b : Bool) → kind_at b ≢ kinds.Iso
  ring_kind true is = cc
  ring_kind false is = cc

  ring_may : (b : Bool) (xs : List _) → MayWait (kind_at b) xs
  ring_may true xs = inl refl
  ring_may false xs = inl refl

  rings : st.frame ≡ NoneHeld
      → (m : Makes transacts_by (both st.descs st.parts) st.hand (wired (fixed_of s) w)
      (wired (fixed_of s) (controller_next (fixed_of s) w)) event.later)
      → both st.descs st.parts m.copy.at m.copy.at ≡ Some (QueueHead m.copy.queue)
      → HostHasLeft is_high_asked (key_of m.copy.queue) m.copy.queue.token.pid (settlement m.copy.queue m.out m.reply).host
  rings empty m here =
      let q = m.copy.queue in
      let near : st.near m.copy.at ≡ true = asked_is_near st w mixed m.copy
      (ap (λ (f : FrameHand). joined st.hand f) empty ∙ m.in_hand) (own_here m.copy.at q here) m.works in
      subst (λ (r : Reply). HostHasLeft is_high_asked (key_of q) q.token.pid (settlement q m.out r).host) (sym m.made.0)
      (answered m.copy.at q here near m.works (kind_at q.dtc) (ring_kind q.dtc) m.out false m.sent.all
      (λ on way u h. ring_may q.dtc h.at.at.part.taking.items))

  -- ---- in the frames

  frames : st.hand ≡ Empty
      → (m : MakesOfQueue transacts_by (both st.descs st.parts) w.control.frame st.frame (wired (fixed_of s) w) (wired (fixed_of s)
      (controller_next (fixed_of s) w)) event.frame_later)
      → IsCopiedQueue (met w.driver st.recent) (both st.descs st.parts) m.copy
      → HostHasLeft is_high_asked (key_of m.copy.queue) m.copy.queue.token.pid (frame_settlement w.control.frame.index m.copy.queue m.out
      m.reply).host
  frames empty m copied =
      let q = m.copy.queue in
      let own = own_here m.copy.at q copied.here in
      let near : st.near m.copy.at ≡ true = asked_is_near st w mixed m.copy
      (ap (λ (h : Hand). joined h st.frame) empty ∙ ap (joined Empty) m.in_hand) own m.works in
      let of : IsQueueAt w.driver m.copy.at = queue_belongs st w m.copy.at mixed copied.on in
      subst (λ (r : Reply). HostHasLeft is_high_asked (key_of q) q.token.pid (frame_settlement w.control.frame.index q m.out r).host)
      (sym m.asked.0)
      (answered m.copy.at q copied.here near m.works kinds.Interrupt (λ e. cc) m.out (is_last_of w.control.frame.index q) m.sent.count
      (λ on way u h.
      let e : IsMetHead w.driver m.copy.at = of_endpoint text s spelled above w k m.copy.at q on near own in
      let same : e.number ≡ of.belongs.number =
      same_number w.driver mixed.now.framed.place.sound.owners e.number of.belongs.number e.endpoint of.belongs.endpoint e.here
      of.belongs.here (kept_as e.endpoint e.met.there.kept) (of.belongs.kept, ap is_iso of.kind) (sym e.at ∙ of.name) in
      let one : e.endpoint ≡ of.belongs.endpoint =
      same_Some e.endpoint of.belongs.endpoint (sym e.here ∙ ap (slice_get w.driver.endpoints) same ∙ of.belongs.here) in
      inr
      (none_waits text s spelled w.bus k.bus e.endpoint.desc (served text s spelled above w k m.copy.at q on near own).opened
      (ap (λ (v : Endpoint). v.desc.kind) one ∙ of.kind)
      (speed_is e.endpoint.desc.speed (fast text s spelled above w k m.copy.at q on near own)) way q.addr q.ep
      (addr_is text s spelled above w k m.copy.at q on near own) (ep_is text s spelled above w k m.copy.at q on near own) u h)))

  -- ---- an event of the controller

  pub controller_heard : IsHeardWorld s (controller_next (fixed_of s) w)
  controller_heard = record {
    standing = standing_then st w event;
    lines = _;
    heads = k.heads;
    piped = controlled (fixed_of s) (sides_of s) k.standing k.lines k.heads w k.piped;
    left = event_leaves_errors is_high_asked (fixed_of s) st w mixed event k.left rings frames;
    served = k.served;
    bus = controller_keeps_bus s w k.bus;
  }

-- ---- an event of the driver

pub driver_served : (s : Script) (w : World) → AreServed s w.driver → AreServed s (driver_next w).driver
driver_served s w k e z here =
    let v : WasIn w.driver.endpoints e z = was_in w.driver.endpoints (driver_next w).driver.endpoints
    (row_ends (driver_row (driver_parts w)) (driver_parts w)) e z here in
    subst (IsServed s) (sym v.comes.desc) (k e v.endpoint v.here)

module _ (s : Script) (w : World) (k : IsHeardWorld s w) where
  abbrev piped : IsPiped (fixed_of s) (sides_of s) k.standing k.lines k.heads w
  piped = k.piped

  left_then : (t : Standing) → QueueStep k.standing w (driver_next w) t → HasErrorsLeft is_high_asked t (driver_next w)
  left_then t step = driver_leaves_errors is_high_asked k.standing w t k.piped.mixed step k.left

  by_other : (t : Standing) (step : QueueStep k.standing w (driver_next w) t) → IsNoOpening step → IsMixedAt t (driver_next w)
      → IsTellingNext k.standing k.lines w (driver_next w) t step → IsHeardWorld s (driver_next w)
  by_other t step other mixed next = record {
    standing = t;
    lines = next.lines;
    heads = heads_left (fixed_of s) (sides_of s) k.standing k.lines k.heads w k.piped t;
    piped = driven (fixed_of s) (sides_of s) k.standing k.lines k.heads w k.piped t step other mixed next;
    left = left_then t step;
    served = driver_served s w k.served;
    bus = k.bus;
  }

  by_step : (t : Standing) (step : QueueStep k.standing w (driver_next w) t) → IsMixedAt t (driver_next w)
      → IsTellingNext k.standing k.lines w (driver_next w) t step → IsHeardWorld s (driver_next w)
  by_step t (opens at _ alike opened) mixed next = record {
    standing = t;
    lines = next.lines;
    heads = _;
    piped = opened_piped (fixed_of s) (sides_of s) k.standing k.lines k.heads w k.piped at t alike opened mixed next;
    left = left_then t (opens at t alike opened);
    served = driver_served s w k.served;
    bus = k.bus;
  }
  by_step t (stays _ none still) mixed next = by_other t (stays t none still) tt mixed next
  by_step t (harvests e u found due later row out) mixed next = by_other t (harvests e u found due later row out) tt mixed next
  by_step t (returns u y v row r) mixed next = by_other t (returns u y v row r) tt mixed next
  by_step t (lends b words get order out row behind) mixed next = by_other t (lends b words get order out row behind) tt mixed next
  by_step t (stores b words g is) mixed next = by_other t (stores b words g is) tt mixed next
  by_step t (mends at row) mixed next = by_other t (mends at row) tt mixed next
  by_step t (begins at row alike) mixed next = by_other t (begins at row alike) tt mixed next
  by_step t (unlinks at row) mixed next = by_other t (unlinks at row) tt mixed next
  by_step t (narrows member near row are fewer) mixed next = by_other t (narrows member near row are fewer) tt mixed next
  by_step t (goes e y d _ back is) mixed next = by_other t (goes e y d t back is) tt mixed next

  pub driver_heard : IsHeardWorld s (driver_next w)
  driver_heard =
      let n : IsMixedNext k.standing w (driver_next w) = driver_tells_step k.standing w k.piped.mixed in
      by_step n.standing n.step n.mixed
      (driver_keeps_telling k.standing k.lines w n.standing n.step k.piped.mixed n.mixed k.piped.telling k.piped.going)

-- ---- a command

accepted_served : (s : Script) (d f : DriverContent) (cmd : Cmd) → OpensServed s cmd → EndsThen d f cmd → AreServed s d → AreServed s f
accepted_served s d f cmd can (one_endpoint_more x is_open ends kept newest tells) old e z here =
    ⊎_elim (λ (was : slice_get d.endpoints e ≡ Some z). old e z was)
    (λ (own : (e ≡ length d.endpoints) × (z ≡ x)).
    subst (λ (v : Endpoint). IsServed s v.desc) (sym own.1) (subst (OpensServed s) is_open can))
    (push_which d.endpoints x e z (ap (λ (xs : List Endpoint). slice_get xs e) (sym ends) ∙ here))
accepted_served s d f cmd can (one_anew i y v at ends comes gone never tells) old e z here =
    let w : WasIn d.endpoints e z = was_anew d.endpoints i y v at comes e z
    (ap (λ (xs : List Endpoint). slice_get xs e) (sym ends) ∙ here) in
    subst (IsServed s) (sym w.comes.desc) (old e w.endpoint w.here)

pub command_by : (s : Script) (w : World) (n : ℕ) (cmd : Cmd) (name : EpName) (r : Result Offered OfferError)
    → offered w.driver w.memory cmd ≡ r
    → OpensServed s cmd → AreServed s w.driver → AreServed s (commanded_by w n name r).driver
command_by s w n cmd name (Ok o) is can old =
    accepted_served s w.driver o.driver cmd can (ends_then w.driver w.memory o cmd (reason_of w.driver w.memory cmd o is)) old
command_by s w n cmd name (Err why) is can old = old

bus_by : (s : Script) (w : World) (n : ℕ) (name : EpName) (r : Result Offered OfferError) → IsHeardBus s w.bus
    → IsHeardBus s (commanded_by w n name r).bus
bus_by s w n name (Ok o) k = k
bus_by s w n name (Err why) k = k

module _ (s : Script) (w : World) (k : IsHeardWorld s w) where
  pub command_heard : (line : ℕ) (cmd : Cmd) → OpensMixed cmd → OpensDeclared (sides_of s) cmd → OpensServed s cmd
      → IsOffered w.driver.room cmd → IsHeardWorld s (commanded w line cmd)
  command_heard line cmd fits declares can room = record {
    standing = k.standing;
    lines = k.lines;
    heads = k.heads;
    piped = commanded_piped (fixed_of s) (sides_of s) k.standing k.lines k.heads w k.piped line cmd fits declares room;
    left = record {
      parts = k.left.parts;
      in_hand = k.left.in_hand;
      first = command_publishes w line cmd k.left.first;
    };
    served = command_by s w line cmd (name_in cmd) (offered w.driver w.memory cmd) refl can k.served;
    bus = bus_by s w line (name_in cmd) (offered w.driver w.memory cmd) k.bus;
  }

-- ---- before the first line, and at each moment

new_world_heard : (s : Script) → IsFit s → IsByteScript s → IsHeardAbove s → IsHeardWorld s (opening_world s)
new_world_heard s fit bytes above = record {
  standing = new_standing;
  lines = no_lines;
  heads = no_heads;
  piped = new_piped s fit bytes;
  left = record { parts = head_alone is_high_asked refl; in_hand = tt; first = tt };
  served = λ e y here. absurd (nothing_at e y here);
  bus = opening_keeps_bus s above;
}

abbrev CanBe : Script → Cmd → Type 0
CanBe s cmd = OpensMixed cmd × (OpensDeclared (sides_of s) cmd × OpensServed s cmd)

line_all : (s : Script) (l : Line) → KindOfLine OpensMixed l → KindOfLine (OpensDeclared (sides_of s)) l → KindOfLine (OpensServed s) l
    → KindOfLine (CanBe s) l
line_all s (lines.Command cmd) one two three = (one, (two, three))
line_all s _ one two three = tt

lines_all : (s : Script) (ls : List (ℕ × Line)) → AllByRecursion (λ l. KindOfLine OpensMixed l.1) ls
    → AllByRecursion (λ l. KindOfLine (OpensDeclared (sides_of s)) l.1) ls → AllByRecursion (λ l. KindOfLine (OpensServed s) l.1) ls
    → AllByRecursion (λ l. KindOfLine (CanBe s) l.1) ls
lines_all s [] one two three = tt
lines_all s (l ∷ ls) one two three = (line_all s l.1 one.0 two.0 three.0, lines_all s ls one.1 two.1 three.1)

pub texts_are_heard : (text : List ℕ) (s : Script) → Spells text s → IsHeardAbove s → (j : ℕ) → IsHeardWorld s (moment s j).world
texts_are_heard text s spelled above j =
    let fit : IsFit s = spelled_fits text s spelled in
    holds_throughout (CanBe s) (IsHeardWorld s) s fit
    (lines_all s s.lines (lines_can s.lines (lines_fit s.lines (texts_fit text s spelled) (texts_open_fitting text s spelled)))
    (texts_declare text s spelled) (texts_serve text s spelled))
    (new_world_heard s fit (a_text_spells_bytes text s spelled) above)
    (record {
      driver = λ w k. driver_heard s w k;
      controller = λ w k. controller_heard text s spelled above w k;
      command = λ w line cmd can room k. command_heard s w k line cmd can.0 can.1.0 can.1.1 room;
    }) j
