-- An event of the controller but the Begin of a microframe leaves the entry of an interrupt endpoint in the pipeline of its translator, in
-- a microframe that isn't in its S-mask (EHCI 1.0, 4.8, 4.10 and 4.12.2.4; USB 2.0, 11.14, 11.18 and 11.24.2).
use Rattle.std.proofs.Common.{◌≡◌, ◌≢◌, ℕ, ◌*◌, Bool, true, false, if◌then◌else◌, List, Option, Some, None, ap, refl, sym, subst, ◌∙◌}
use Rattle.std.proofs.Common.{⊎_elim, inl, inr, ◌⊎◌}
use Rattle.std.specs.Prelude.{◌==◌, ◌&&◌}
use Rattle.std.proofs.lemmas.Bool.{cases_eq, true≢false}
use Rattle.std.proofs.lemmas.Option.{same_Some}
use Rattle.law_common.proofs.Options.{none_some}
use Rattle.usb_base.specs.declared.packets.Ask.{Ask}
use Rattle.usb_base.specs.declared.packets.DataPart.{DataPart}
use Rattle.usb_base.specs.declared.packets.EpKind.{EpKind}
use Rattle.usb_base.specs.declared.packets.EpKind.TheVariants.{Iso, Interrupt}
use Rattle.usb_base.specs.declared.packets.Reply.{Reply}
use Rattle.usb_base.specs.declared.packets.Reply.TheVariants.{Silent}
use Rattle.usb_base.specs.declared.packets.Split.{Split}
use Rattle.usb_base.specs.declared.packets.Split.TheVariants as splits
use Rattle.hub_keys.specs.Keys.{key_of, is_same_key, is_same_kind, is_same_direction}
use Rattle.hub_keys.specs.declared.key.Key.{Key}
use Rattle.multi_tt.specs.Single.{is_buffered}
use Rattle.itd_sitd.specs.declared.sitd.Sitd.{Sitd}
use Rattle.toggle_error.specs.declared.host.Outcome.{Outcome}
use Rattle.qh_qtd.specs.declared.queue_head.Qh.{Qh}
use Rattle.bandwidth.specs.declared.placements.Placement.{Placement}
use Rattle.bandwidth.specs.Placements.{has}
use Rattle.mem_queues.specs.Structures.{queue_head_at_address}
use Rattle.hc_copy.specs.Buffer.{Reading, sending}
use Rattle.hc_copy.specs.Planning.{queue_pipe}
use Rattle.hc_copy.specs.Transacting.{call_in}
use Rattle.hc_copy.specs.declared.held.Held.{Held}
use Rattle.hc_copy.specs.declared.held.Transaction.{Transaction}
use Rattle.hc_interrupt.specs.Turns.{microframe_of, planned}
use Rattle.hc_iso.specs.Sitd.{sitd_in, sitd_out, sitd_transaction}
use Rattle.async_walk.specs.Rows.{WalkPlace, event_row, at_event}
use Rattle.async_walk.specs.declared.rows.WalkRow.{WalkRow}
use Rattle.async_walk.specs.declared.rows.WalkRow.TheVariants as walks
use Rattle.periodic_walk.specs.declared.state.Hand.{Hand}
use Rattle.periodic_walk.specs.declared.state.Hand.TheVariants as hands
use Rattle.periodic_walk.specs.declared.state.HeldQueue.{HeldQueue}
use Rattle.hc_iso.specs.declared.held.HeldSitd.{HeldSitd}
use Rattle.hc_iso.specs.declared.held.IsoTransaction.{IsoTransaction}
use Rattle.periodic_walk.specs.Place.{Effect, FramePlace}
use Rattle.periodic_walk.specs.Place.Effect.{Leaves, Asks}
use Rattle.periodic_walk.specs.Rows.{effect_of}
use Rattle.periodic_walk.specs.Walk.{held_address}
use Rattle.hc_core.specs.declared.controller.ControllerRow.{ControllerRow}
use Rattle.hc_core.specs.declared.controller.ControllerRow.TheVariants as rows
use Rattle.hc_core.specs.Controller.{entered, walk_place, frame_place}
use Rattle.bus_wire.specs.Bus.{Bus, Fixed}
use Rattle.bus_world.specs.World.{World, controller_parts, controller_row, controller_next, sent_by, sends_by, walk_by, frame_by}
use Rattle.bus_world.specs.World.{turned_by, with_turned}
use Rattle.claims_base.specs.Controller.{opening_base}
use Rattle.claims_world.specs.Coming.{IsInItsFrames}
use Rattle.law_structures.proofs.lemmas.lent_structures.Reading.{head_read}
use Rattle.law_frames.specs.Frame.{IsInFrame}
use Rattle.law_frames.specs.FrameHand.{FrameHand, Nothing, OfQueue, OfSettled, OfItd, OfSitd, frame_held, settled_in}
use Rattle.law_descriptors.specs.Both.{both}
use Rattle.law_descriptors.specs.Meeting.{met}
use Rattle.law_world.specs.memory.Mixed.{Standing}
use Rattle.law_world.specs.streams.Left.{AreNamed}
use Rattle.law_microframes.specs.time.DataQueues.{QueuesSendData}
use Rattle.law_microframes.specs.translators.Results.{key_for, pipeline_for}
use Rattle.law_microframes.specs.visits.Belonging.{HeadsHaveFields}
use Rattle.law_microframes.proofs.lemmas.translators.Asking as asking
use Rattle.law_microframes.proofs.lemmas.translators.Hands.{starts_split, works_in}
use Rattle.law_microframes.proofs.lemmas.translators.Worlds.{IsBufferedRow, event_buffered}
use Rattle.law_reports.specs.lines.Lined.{Lines}
use Rattle.law_reports.specs.pipes.Declared.{Sides}
use Rattle.law_reports.specs.pipes.Piped.{Heads, IsPiped}
use Rattle.law_reports.proofs.lemmas.due_at_begin.Asking.{BusGoes, is_quiet, is_asked, bus_goes, walk, all}
use Rattle.law_reports.proofs.lemmas.due_at_begin.EntryKept.{AreSpared, asks_stage}
use Rattle.law_reports.proofs.lemmas.due_at_begin.EntryStages.{HasStaged}
use Rattle.law_reports.proofs.lemmas.due_at_begin.HeadMasks.{masks_hold}
use Rattle.law_reports.proofs.lemmas.due_at_begin.PipelinesLeft.{AreHubsZero}
use Rattle.law_reports.proofs.lemmas.due_at_begin.ResultDue.{other_key}

-- ---- the ring

module _ (m : ℕ) (k : Key) (fixed : Fixed) (hub port : ℕ) where
  abbrev Of : Bus → Type 0
  Of b = HasStaged m k (pipeline_for b.hubs hub port)

  both_ways : {c : Bool} → c ≡ true → c ≡ false → ⊥
  both_ways one two = cc

  sent_stage : (sent : Bool) (t : Transaction) (h : Held) (bytes : List ℕ) (p : WalkPlace) (b : Bus) → is_buffered t.pipe.kind ≡ true
      → AreSpared hub b.hubs → Of b → Of (sent_by fixed sent t h bytes p b).bus
  sent_stage true t h bytes p b buffered spared had =
      asks_stage m k fixed b (call_in t bytes false).ask (call_in t bytes false).out
      (λ at place part split piped. absurd (both_ways buffered piped)) hub port spared had
  sent_stage false t h bytes p b buffered spared had = had

  sends_stage : (t : Transaction) (p : WalkPlace) (o : Option Held) (b : Bus) → is_buffered t.pipe.kind ≡ true → AreSpared hub b.hubs
      → Of b → Of (sends_by fixed t p o b).bus
  sends_stage t p None b buffered spared had = had
  sends_stage t p (Some h) b buffered spared had =
      let read : Reading = sending t h.queue_head p.memory in
      sent_stage read.all t h read.bytes (record p { memory = read.memory }) b buffered spared had

  walk_stage : (row : WalkRow) (p : WalkPlace) (b : Bus) → IsBufferedRow row → AreSpared hub b.hubs → Of b → Of (walk_by fixed row p b).bus
  walk_stage (walks.Transact t) p b buffered spared had = sends_stage t p p.walk.held b buffered spared had
  walk_stage _ p b buffered spared had = had

  walked_stage : (p : WalkPlace) (b : Bus) → AreSpared hub b.hubs → Of b → Of (walk_by fixed (event_row p) (at_event p) b).bus
  walked_stage p b spared had = walk_stage (event_row p) (at_event p) b (event_buffered p) spared had

  -- ---- the walk of the frames, where no start-split of the key is made

  abbrev pub StartsNone : Ask → List ℕ → Type 0
  StartsNone ask out =
      (at place : ℕ) (part : DataPart) → ask.split ≡ splits.Start at place part → is_buffered ask.kind ≡ false
      → is_same_key (key_of ask) k ≡ false

  effect_stage : (e : Effect) (b : Bus) → asking.Asking StartsNone e → AreSpared hub b.hubs → Of b → Of (frame_by fixed e b).bus
  effect_stage (Leaves p) b none spared had = had
  effect_stage (Asks ask out left_by) b none spared had = asks_stage m k fixed b ask out none hub port spared had

  -- ---- by rows

  module _ (w : World) (spared : AreSpared hub w.bus.hubs) where
    is_new : (r : ControllerRow) → controller_row w ≡ r → with_turned w (turned_by fixed r (controller_parts w) w.bus) ≡ controller_next fixed w
    is_new r row = ap (λ (x : ControllerRow). with_turned w (turned_by fixed x (controller_parts w) w.bus)) (sym row)

    of_new : (r : ControllerRow) → controller_row w ≡ r → Of (turned_by fixed r (controller_parts w) w.bus).bus
        → Of (controller_next fixed w).bus
    of_new r row had = subst (λ (x : World). Of x.bus) (is_new r row) had

    pub walk_of_frames_stage : controller_row w ≡ rows.Frame → asking.Asking StartsNone (effect_of (frame_place (controller_parts w)))
        → HasStaged m k (pipeline_for w.bus.hubs hub port) → HasStaged m k (pipeline_for (controller_next fixed w).bus.hubs hub port)
    walk_of_frames_stage row none had =
        of_new rows.Frame row (effect_stage (effect_of (frame_place (controller_parts w))) w.bus none spared had)

    row_stage : (r : ControllerRow) → controller_row w ≡ r → r ≢ rows.Begin → r ≢ rows.Frame → Of w.bus → Of (controller_next fixed w).bus
    row_stage rows.Begin row off other had = absurd (off refl)
    row_stage rows.Frame row off other had = absurd (other refl)
    row_stage rows.Idle row off other had = of_new rows.Idle row had
    row_stage rows.Enter row off other had = of_new rows.Enter row (walked_stage (walk_place (entered (controller_parts w))) w.bus spared had)
    row_stage rows.Go row off other had = of_new rows.Go row (walked_stage (walk_place (controller_parts w)) w.bus spared had)
    row_stage rows.End row off other had = of_new rows.End row had

    pub past_stage : controller_row w ≢ rows.Begin → controller_row w ≢ rows.Frame → HasStaged m k (pipeline_for w.bus.hubs hub port)
        → HasStaged m k (pipeline_for (controller_next fixed w).bus.hubs hub port)
    past_stage off other had = row_stage (controller_row w) refl off other had

-- ---- whom the walk of the frames starts

plain_is : (s : Split) (at place : ℕ) (part : DataPart) → s ≡ splits.Plain → s ≡ splits.Start at place part → ⊥
plain_is s at place part one two = let never : splits.Plain ≡ splits.Start at place part = sym one ∙ two in cc never

iso_kind : (v : Sitd) → (sitd_transaction v).ask.kind ≡ Iso
iso_kind v = by v.dir_in
  where
    inward : (b : Bool) (start complete : IsoTransaction) → start.ask.kind ≡ Iso → complete.ask.kind ≡ Iso
        → (if b then complete else start).ask.kind ≡ Iso
    inward true start complete one two = two
    inward false start complete one two = one

    by : (b : Bool) → (if b then sitd_in v else sitd_out v).ask.kind ≡ Iso
    by true = inward v.split_state _ _ refl refl
    by false = refl

and_false : (a b : Bool) → b ≡ false → (a && b) ≡ false
and_false true b off = off
and_false false b off = refl

other_kind : (a b : EpKind) → a ≡ Iso → b ≡ Interrupt → is_same_kind a b ≡ false
other_kind a b one two = ap (λ (x : EpKind). is_same_kind x b) one ∙ ap (is_same_kind Iso) two

module _ (fixed : Fixed) (x : Sides) (s : Standing) (l : Lines) (h : Heads) (w : World) (k : IsPiped fixed x s l h w)
    (heads : HeadsHaveFields w.driver w.memory) (sends : QueuesSendData w.driver w.memory) (row : controller_row w ≡ rows.Frame)
    (e q : ℕ) (p : Placement) (i : IsInItsFrames w.driver e q p) where
  -- the copy in hand has the masks of the placement
  module _ (g : HeldQueue) (in_hand : w.control.frame.hand ≡ Some (hands.Queue g)) (fresh : g.copy.settled ≡ None)
      (at : g.copy.at ≡ 32 * q) where
    here : frame_held s.frame ≡ Some (hands.Queue g)
    here = sym (walk fixed x s l h w k heads sends row).held ∙ in_hand

    queue_is : (a b : HeldQueue) → ◌≡◌ {A = Option Hand} (Some (hands.Queue a)) (Some (hands.Queue b)) → a ≡ b
    queue_is a b same = cc

    by_hand : (f : FrameHand) → s.frame ≡ f
        → IsInFrame (met w.driver s.recent) (both s.descs s.parts) w.control.frame.got w.control.frame.reply f
        → g.copy.queue_head.smask ≡ p.smask
    by_hand Nothing is known = let never : ◌≡◌ {A = Option Hand} None (Some (hands.Queue g)) = ap frame_held (sym is) ∙ here in absurd (cc never)
    by_hand (OfQueue c n) is known =
        let held : HeldQueue = record { copy = record { at = c.at; queue_head = record c.queue { link = c.link; nak_cnt = c.naks }; settled = None }; made = n } in
        let same : held ≡ g = queue_is held g (ap frame_held (sym is) ∙ here) in
        let read : queue_head_at_address w.memory c.at ≡ Some c.queue =
        head_read w.memory (all fixed x s l h w k heads sends row) c.at c.at c.queue k.mixed.now.framed.runs.ring.tells known.here in
        let there : c.at ≡ 32 * q = ap (λ (y : HeldQueue). y.copy.at) same ∙ at in
        ap (λ (y : HeldQueue). y.copy.queue_head.smask) (sym same)
        ∙ (masks_hold w (record { standing = s; mixed = k.mixed }) heads e q p i c.queue
        (ap (queue_head_at_address w.memory) (sym there) ∙ read)).smask
    by_hand (OfSettled c z n) is known =
        let held : HeldQueue = record { copy = record { at = c.at; queue_head = settled_in c z; settled = Some z.outcome }; made = n } in
        let same : held ≡ g = queue_is held g (ap frame_held (sym is) ∙ here) in
        let never : ◌≡◌ {A = Option Outcome} (Some z.outcome) None = ap (λ (y : HeldQueue). y.copy.settled) same ∙ fresh in absurd (cc never)
    by_hand (OfItd c) is known =
        let never : ◌≡◌ {A = Option Hand} (Some (hands.Itd c.held)) (Some (hands.Queue g)) = ap frame_held (sym is) ∙ here in absurd (cc never)
    by_hand (OfSitd c) is known =
        let never : ◌≡◌ {A = Option Hand} (Some (hands.Sitd c.held)) (Some (hands.Queue g)) = ap frame_held (sym is) ∙ here in absurd (cc never)

    own_smask : g.copy.queue_head.smask ≡ p.smask
    own_smask = by_hand s.frame refl (walk fixed x s l h w k heads sends row).in_hand

  -- ---- while another endpoint's structure is in hand

  module _ (zeroes : AreHubsZero fixed) (named : AreNamed w.driver) (m hub port : ℕ) (spared : AreSpared hub w.bus.hubs) where
    abbrev its_key : Key
    its_key = key_for i.endpoint.desc

    abbrev ItsEntry : Bus → Type 0
    ItsEntry b = HasStaged m (key_for i.endpoint.desc) (pipeline_for b.hubs hub port)

    by_goes : BusGoes fixed w e (controller_next fixed w).bus → ItsEntry w.bus → ItsEntry (controller_next fixed w).bus
    by_goes (is_quiet bus) had = subst ItsEntry (sym bus) had
    by_goes (is_asked ask out other bus) had =
        subst ItsEntry (sym bus)
        (asks_stage m its_key fixed w.bus ask out
        (λ a place part is piped. other_key fixed zeroes x s l h w k named e i.endpoint i.here i.kind Silent ask other) hub port spared had)

    pub apart_stage : ((a : ℕ) → held_address w.control.frame.hand ≡ Some a → 32 * q ≢ a)
        → HasStaged m (key_for i.endpoint.desc) (pipeline_for w.bus.hubs hub port)
        → HasStaged m (key_for i.endpoint.desc) (pipeline_for (controller_next fixed w).bus.hubs hub port)
    apart_stage apart had =
        by_goes (bus_goes fixed x s l h w k heads sends row e i.endpoint i.here i.kind
        (λ a is same. apart a is (ap (λ (b : ℕ). 32 * b) (sym i.queue) ∙ same))) had

  -- ---- in a microframe that isn't in its S-mask

  module _ (zeroes : AreHubsZero fixed) (named : AreNamed w.driver) (unstarted : has p.smask (microframe_of w.control.frame.index) ≡ false)
      (m hub port : ℕ) (spared : AreSpared hub w.bus.hubs) where
    abbrev key : Key
    key = key_for i.endpoint.desc

    abbrev Its : Bus → Type 0
    Its b = HasStaged m (key_for i.endpoint.desc) (pipeline_for b.hubs hub port)

    queue_none : (g : HeldQueue) → w.control.frame.hand ≡ Some (hands.Queue g) → g.copy.at ≡ 32 * q
        → asking.QueueAsks (StartsNone m (key_for i.endpoint.desc) fixed hub port) g w.control.frame.index
    queue_none g in_hand at mem fresh turn a place part is piped =
        let z : Qh = g.copy.queue_head in
        let split = starts_split (z.eps == 2) z.token.split_state (queue_pipe Interrupt z) a place part is in
        let bit = (works_in w.control.frame.index z split.0.1 turn).0 in
        absurd (true≢false (sym bit
        ∙ ap (λ (mask : ℕ). has mask (microframe_of w.control.frame.index)) (own_smask g in_hand fresh at) ∙ unstarted))

    sitd_none : (g : HeldSitd) → asking.SitdAsks (StartsNone m (key_for i.endpoint.desc) fixed hub port) g
        (microframe_of w.control.frame.index)
    sitd_none g mem fresh turn a place part is piped =
        and_false _ _ (other_kind (sitd_transaction g.sitd).ask.kind i.endpoint.desc.kind (iso_kind g.sitd) i.kind)

    own_none : held_address w.control.frame.hand ≡ Some (32 * q)
        → asking.Asking (StartsNone m (key_for i.endpoint.desc) fixed hub port) (effect_of (frame_place (controller_parts w)))
    own_none own =
        asking.walk_asking (StartsNone m key fixed hub port) (frame_place (controller_parts w)) w.control.frame.hand
        (λ ask out plain a place part is piped. absurd (plain_is ask.split a place part plain is))
        (λ g in_hand.
        queue_none g in_hand (same_Some g.copy.at (32 * q) (ap held_address (sym in_hand) ∙ own)))
        (λ g in_hand. sitd_none g)

    by_address : (o : Option ℕ) → held_address w.control.frame.hand ≡ o → Its w.bus → Its (controller_next fixed w).bus
    by_address None is had = apart_stage zeroes named m hub port spared (λ a there. absurd (none_some a (sym is ∙ there))) had
    by_address (Some a) is had =
        ⊎_elim {C = Its (controller_next fixed w).bus}
        (λ (own : a ≡ 32 * q).
        walk_of_frames_stage m key fixed hub port w spared row (own_none (is ∙ ap Some own)) had)
        (λ (off : a ≢ 32 * q).
        apart_stage zeroes named m hub port spared (λ c there same. off (same_Some a c (sym is ∙ there) ∙ sym same)) had)
        (cases_eq a (32 * q))

    pub frame_stage : HasStaged m (key_for i.endpoint.desc) (pipeline_for w.bus.hubs hub port)
        → HasStaged m (key_for i.endpoint.desc) (pipeline_for (controller_next fixed w).bus.hubs hub port)
    frame_stage had = by_address (held_address w.control.frame.hand) refl had
