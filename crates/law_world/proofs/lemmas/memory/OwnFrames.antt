-- A word that the next event leaves of what the walk of the frames has in hand stays.
use Rattle.std.proofs.Common.{◌≡◌, ◌≢◌, ℕ, ◌+◌, ◌*◌, ◌/◌, ◌≤◌, ◌<◌, Bool, true, false, not, ◌&&◌, if◌then◌else◌, List, [], length, Option}
use Rattle.std.proofs.Common.{None, Some, ap, refl, sym, subst, ◌∙◌, arith}
use Rattle.std.specs.Prelude.{IfSome, ◌==◌, nat_lt}
use Rattle.std.proofs.lemmas.Bool.{and_parts}
use Rattle.law_common.proofs.Booleans.{not_on}
use Rattle.law_frames.proofs.Common.{missing}
use Rattle.usb_base.specs.declared.packets.Ask.{Ask}
use Rattle.usb_base.specs.declared.packets.Pid.{Pid}
use Rattle.usb_base.specs.declared.packets.Pid.TheVariants as pids
use Rattle.usb_base.specs.declared.packets.Reply.{Reply}
use Rattle.usb_base.specs.declared.endpoints.EndCause.{EndCause}
use Rattle.usb_base.specs.declared.endpoints.EndCause.TheVariants as causes
use Rattle.word_mem.specs.Memory.{Mem, reaches, refused}
use Rattle.link_words.specs.declared.kinds.Link.{Link}
use Rattle.link_words.specs.declared.kinds.Link.TheVariants as links
use Rattle.link_words.specs.declared.kinds.QtdLink.{QtdLink}
use Rattle.link_words.specs.declared.kinds.QtdLink.TheVariants as qtd_links
use Rattle.link_words.specs.Links.{qtd_link_of}
use Rattle.qh_qtd.specs.declared.qtd.Qtd.{Qtd}
use Rattle.qh_qtd.specs.declared.queue_head.Qh.{Qh}
use Rattle.itd_sitd.specs.declared.sitd.Sitd.{Sitd}
use Rattle.toggle_error.specs.declared.host.Outcome.{Outcome}
use Rattle.toggle_error.specs.declared.host.Outcome.TheVariants as outcomes
use Rattle.transactions.specs.Calls.{got_of}
use Rattle.mem_queues.specs.Structures.{qtd_at_address, reaches_queue_head}
use Rattle.mem_descriptors.specs.Descriptors.{reaches_itd}
use Rattle.hc_masks.specs.Masks.{has}
use Rattle.hc_copy.specs.declared.held.Held.{Held}
use Rattle.hc_copy.specs.declared.held.Transaction.{Transaction}
use Rattle.hc_copy.specs.Visits.{visit_at, next_pointer}
use Rattle.hc_copy.specs.Planning.{pid_at}
use Rattle.hc_copy.specs.Overlay.{advanced, pages_of, buffer_place}
use Rattle.hc_copy.specs.Buffer.{Writing, sending}
use Rattle.hc_copy.specs.WriteBack.{received, overlay_after}
use Rattle.hc_interrupt.specs.declared.turns.Turn.{Turn}
use Rattle.hc_interrupt.specs.declared.turns.Turn.TheVariants as turns
use Rattle.hc_interrupt.specs.Turns.{turn_of, planned, waits, is_missed, complete_turn, start_turn, microframe_of}
use Rattle.hc_interrupt.specs.Copies.{missed_queue}
use Rattle.hc_iso.specs.declared.held.HeldItd.{HeldItd}
use Rattle.hc_iso.specs.declared.held.HeldSitd.{HeldSitd}
use Rattle.hc_iso.specs.declared.held.IsoEnd.{IsoEnd}
use Rattle.hc_iso.specs.declared.held.IsoTransaction.{IsoTransaction}
use Rattle.hc_iso.specs.declared.held.SitdTurn.{SitdTurn}
use Rattle.hc_iso.specs.declared.held.SitdTurn.TheVariants as sitd_turns
use Rattle.hc_iso.specs.declared.held.SplitOutcome.{SplitOutcome}
use Rattle.hc_iso.specs.declared.held.SplitOutcome.TheVariants as split_outcomes
use Rattle.hc_iso.specs.Itd.{itd_transaction}
use Rattle.hc_iso.specs.Sitd.{missed_copy, missed_sitd, sitd_place, sitd_turn, sitd_missed, comes, sitd_transaction}
use Rattle.hc_iso.specs.WriteBack.{itd_pages, slot_place, itd_sending, itd_written, sitd_pages, sitd_sending, sitd_received}
use Rattle.periodic_walk.specs.declared.queue.QueueRow.{QueueRow}
use Rattle.periodic_walk.specs.declared.queue.QueueRow.TheVariants as queue_rows
use Rattle.periodic_walk.specs.declared.itd.ItdRow.{ItdRow}
use Rattle.periodic_walk.specs.declared.itd.ItdRow.TheVariants as itd_rows
use Rattle.periodic_walk.specs.declared.sitd.SitdRow.{SitdRow}
use Rattle.periodic_walk.specs.declared.sitd.SitdRow.TheVariants as sitd_rows
use Rattle.periodic_walk.specs.declared.state.HeldQueue.{HeldQueue}
use Rattle.periodic_walk.specs.declared.state.Hand.{Hand}
use Rattle.periodic_walk.specs.declared.state.Hand.TheVariants as hands
use Rattle.periodic_walk.specs.Place.{FramePlace, reading, faulted, holding, Effect, HasEffect, sent}
use Rattle.periodic_walk.specs.Place.Effect.{Leaves, Asks}
use Rattle.periodic_walk.specs.Chain.{chain_read}
use Rattle.periodic_walk.specs.Queue.{take_read, turn_read, settled_read, settled_row, turn_row, take_row, taken_row, queue_read}
use Rattle.periodic_walk.specs.Queue.{queue_effect, with_queue, took, missed}
use Rattle.periodic_walk.specs.Queue.{miss_outcome, wrote, wrote_at, writing}
use Rattle.periodic_walk.specs.Itd.{ended_row, itd_effect, wrote_at as itd_wrote_at}
use Rattle.periodic_walk.specs.Sitd.{settled_row as sitd_settled_row, turn_row as sitd_turn_row, sitd_effect, wrote_at as sitd_wrote_at}
use Rattle.periodic_walk.specs.Sitd.{wrote as sitd_wrote, writing as sitd_writing}
use Rattle.periodic_walk.specs.Rows.{effect_at, effect_of, Leads}
use Rattle.law_controller.specs.event_places.Places.{IsBesideBytes}
use Rattle.law_controller.proofs.lemmas.event_places.Writing.{Stays, stays_if, read_stays, overlay_after_stays, bytes_beside, back_stays}
use Rattle.law_controller.proofs.lemmas.event_places.Writing.{itd_back_stays}
use Rattle.law_controller.proofs.lemmas.event_places.Writing.{sitd_back_stays}
use Rattle.law_world.proofs.lemmas.memory.OwnPlaces.{IsQueueLeft, IsItdLeft, IsSitdLeft, IsHandLeft}

-- ---- a qTD is taken where the overlay isn't halted, and a complete-split is missed where it works (4.12.2.4.1)

take_goes : (w missed there may halted active : Bool) (l : QtdLink) (a : QtdLink)
    → (if w then complete_turn missed there else start_turn (visit_at may halted active l)) ≡ turns.Take a → halted ≡ false
take_goes w missed there may false active l a is = refl
take_goes true true there may true active l a is = absurd (cc is)
take_goes true false true may true active l a is = absurd (cc is)
take_goes true false false may true active l a is = absurd (cc is)
take_goes false missed there false true active l a is = absurd (cc is)
take_goes false missed there true true active l a is = absurd (cc is)

pub take_is : (f : ℕ) (q : Qh) (a : QtdLink) → turn_of f q ≡ turns.Take a → q.token.halted ≡ false
take_is f q a is =
    take_goes (waits q) (is_missed f q) (has q.cmask (microframe_of f)) (has q.smask (microframe_of f)) q.token.halted q.token.active
    (qtd_link_of (next_pointer q)) a is

miss_waits : (w missed there may halted active : Bool) (l : QtdLink)
    → (if w then complete_turn missed there else start_turn (visit_at may halted active l)) ≡ turns.Miss → w ≡ true
miss_waits true missed there may halted active l is = refl
miss_waits false missed there false halted active l is = absurd (cc is)
miss_waits false missed there true true active l is = absurd (cc is)
miss_waits false missed there true false true l is = absurd (cc is)
miss_waits false missed there true false false l is = absurd (cc is)

miss_is : (f : ℕ) (q : Qh) → turn_of f q ≡ turns.Miss → (q.token.active ≡ true) × (q.token.halted ≡ false)
miss_is f q is =
    let w : waits q ≡ true =
    miss_waits (waits q) (is_missed f q) (has q.cmask (microframe_of f)) (has q.smask (microframe_of f)) q.token.halted q.token.active
    (qtd_link_of (next_pointer q)) is
    in
    let one = and_parts (not (q.eps == 2)) (q.token.split_state && (q.token.active && not q.token.halted)) w in
    let two = and_parts q.token.split_state (q.token.active && not q.token.halted) one.1 in
    let three = and_parts q.token.active (not q.token.halted) two.1 in
    (three.0, not_on q.token.halted three.1)

-- a miss brings no bytes
no_bytes : (pid : Pid) (cause : EndCause) (reply : Reply) → length (got_of pid (outcomes.Halt cause) reply) ≡ 0
no_bytes pids.In cause reply = refl
no_bytes _ cause reply = refl

module _ (at : ℕ) where
  abbrev EffectStays : Mem → Effect → Type 0
  EffectStays m (Leaves p) = Stays at m p.memory
  EffectStays m (Asks ask out left_by) = (reply : Reply) → Stays at m (left_by reply).memory

  sent_stays : (m : Mem) (b : Bool) (ask : Ask) (out : List ℕ) (left_by : Reply → FramePlace) (p : FramePlace)
      → ((reply : Reply) → Stays at m (left_by reply).memory) → Stays at m p.memory → EffectStays m (sent b ask out left_by p)
  sent_stays m true ask out left_by p asked stuck = asked
  sent_stays m false ask out left_by p asked stuck = stuck

  -- ---- what is read

  chain_reads : (m : Mem) (l : Link) → Stays at m (chain_read m l)
  chain_reads m (links.Itd a) = stays_if at m m (refused m) (reaches_itd m a) refl refl
  chain_reads m (links.Qh a) = stays_if at m m (refused m) (reaches_queue_head m a) refl refl
  chain_reads m (links.Sitd a) = stays_if at m m (refused m) (reaches m a) refl refl
  chain_reads m _ = refl

  take_reads : (m : Mem) (l : QtdLink) → Stays at m (take_read m l)
  take_reads m qtd_links.End = refl
  take_reads m (qtd_links.To a) = stays_if at m m (refused m) (reaches m a) refl refl

  turn_reads : (m : Mem) (turn : Turn) → Stays at m (turn_read m turn)
  turn_reads m (turns.Take l) = take_reads m l
  turn_reads m _ = refl

  settled_reads : (m : Mem) (f : ℕ) (q : Qh) (o : Option Outcome) → Stays at m (settled_read m f q o)
  settled_reads m f q None = turn_reads m (turn_of f q)
  settled_reads m f q (Some outcome) = refl

  -- ---- a queue head

  took_stays : (h : HeldQueue) (a : ℕ) (t : Qtd) (p : FramePlace) (reply : Reply) → h.copy.queue_head.token.halted ≡ false
      → IsQueueLeft h.copy reply at
      → Stays at p.memory (took h a t p).memory
  took_stays h a t p reply goes is = by (reaches_queue_head p.memory h.copy.at)
    where
      new : Qh
      new = advanced h.copy.queue_head a t

      stays : Stays at p.memory (overlay_after p.memory h.copy.at new)
      stays = overlay_after_stays at p.memory h.copy.at new (is.overlay (λ none. goes))

      by : (b : Bool)
          → Stays at p.memory (if b then record p {
            memory = overlay_after p.memory h.copy.at new;
            walk = holding
                (hands.Queue (with_queue h new)) p.walk;
          } else faulted (record p { memory = overlay_after p.memory h.copy.at new })).memory
      by true = stays
      by false = stays

  wrote_by : (m : Mem) (b : Bool) (h : HeldQueue) (outcome : Outcome) (p : FramePlace) → Stays at m p.memory
      → Stays at m (wrote_at b h outcome p).memory
  wrote_by m true h outcome p stays = stays
  wrote_by m false h outcome p stays = stays

  wrote_stays : (h : HeldQueue) (outcome : Outcome) (p : FramePlace) → ((i : ℕ) → i < 9 → at / 4 ≢ (h.copy.at + 12 + 4 * i) / 4)
      → at / 4 ≢ (h.copy.queue_head.current + 8) / 4
      → IsBesideBytes (pages_of h.copy.queue_head) (buffer_place h.copy.queue_head)
      (length (received h.copy.queue_head outcome p.walk.reply)) at
      → Stays at p.memory (wrote h outcome p).memory
  wrote_stays h outcome p overlay token bytes =
      let q : Qh = h.copy.queue_head in
      let w : Writing = writing h.copy outcome p.walk.reply p.memory in
      wrote_by p.memory w.all h outcome (record p { memory = w.memory })
      (back_stays at h.copy.at q outcome (received q outcome p.walk.reply) p.memory overlay token bytes)

  missed_places : (q : Qh) → ((missed_queue q).current ≡ q.current)
  unfolding missed_queue
  missed_places q = refl

  none_missed : (q : Qh) (reply : Reply) (pages : List ℕ) (k : ℕ) → IsBesideBytes pages k
      (length (received (missed_queue q) miss_outcome reply)) at
  none_missed q reply pages k i below =
      let none = no_bytes (pid_at (missed_queue q).token.pid) causes.Miss reply in
      absurd (omega (arith, below, none))

  timed_stays : (late : Bool) (t : Transaction) (h : HeldQueue) (p : FramePlace)
      → EffectStays p.memory (queue_effect (if late then queue_rows.Skip else queue_rows.Transact t) h p)
  timed_stays true t h p = refl
  timed_stays false t h p =
      let stays = read_stays at (pages_of h.copy.queue_head) (buffer_place h.copy.queue_head) t.bytes p.memory in
      sent_stays p.memory (sending t h.copy.queue_head p.memory).all _ _ _ _ (λ reply. stays) stays

  active_stays : (active : Bool) (a : ℕ) (t : Qtd) (h : HeldQueue) (p : FramePlace) (reply : Reply) → h.copy.queue_head.token.halted ≡ false
      → IsQueueLeft h.copy reply at
      → EffectStays p.memory (queue_effect (if active then queue_rows.Advance a t else queue_rows.Skip) h p)
  active_stays true a t h p reply goes is = took_stays h a t p reply goes is
  active_stays false a t h p reply goes is = refl

  taken_stays : (o : Option Qtd) (a : ℕ) (h : HeldQueue) (p : FramePlace) (reply : Reply) → h.copy.queue_head.token.halted ≡ false
      → IsQueueLeft h.copy reply at
      → EffectStays p.memory (queue_effect (taken_row a o) h p)
  taken_stays None a h p reply goes is = refl
  taken_stays (Some t) a h p reply goes is = active_stays t.token.active a t h p reply goes is

  take_stays : (m : Mem) (l : QtdLink) (h : HeldQueue) (p : FramePlace) (reply : Reply) → h.copy.queue_head.token.halted ≡ false
      → IsQueueLeft h.copy reply at
      → EffectStays p.memory (queue_effect (take_row m l) h p)
  take_stays m qtd_links.End h p reply goes is = refl
  take_stays m (qtd_links.To a) h p reply goes is = taken_stays (qtd_at_address m a) a h p reply goes is

  turn_stays : (turn : Turn) (h : HeldQueue) (m : Mem) (left f : ℕ) (p : FramePlace) → turn_of f h.copy.queue_head ≡ turn
      → IsQueueLeft h.copy p.walk.reply at
      → EffectStays p.memory (queue_effect (turn_row m left h.copy.queue_head turn) h p)
  turn_stays turns.Rest h m left f p same is = refl
  turn_stays turns.Work h m left f p same is = timed_stays (nat_lt left (planned h.copy.queue_head).price.0) (planned h.copy.queue_head) h p
  turn_stays turns.Miss h m left f p same is =
      let works = miss_is f h.copy.queue_head same in
      wrote_stays (missed h) miss_outcome p (is.overlay (λ none. works.1))
      (λ e. is.token (λ none. works) (e ∙ ap (λ (c : ℕ). (c + 8) / 4) (missed_places h.copy.queue_head)))
      (none_missed h.copy.queue_head p.walk.reply (pages_of (missed_queue h.copy.queue_head))
      (buffer_place (missed_queue h.copy.queue_head)))
  turn_stays (turns.Take l) h m left f p same is = take_stays m l h p p.walk.reply (take_is f h.copy.queue_head l same) is

  some_none : {X : Type 0} (o : Option X) (x : X) → o ≡ Some x → o ≡ None → ⊥
  some_none o x some none = cc (some, none)

  queue_stays : (o : Option Outcome) (h : HeldQueue) (m : Mem) (left f : ℕ) (p : FramePlace) → h.copy.settled ≡ o
      → IsQueueLeft h.copy p.walk.reply at
      → EffectStays p.memory (queue_effect (settled_row m left f h.copy.queue_head o) h p)
  queue_stays None h m left f p same is = turn_stays (turn_of f h.copy.queue_head) h m left f p refl is
  queue_stays (Some outcome) h m left f p same is =
      wrote_stays h outcome p (is.overlay (λ none. absurd (some_none h.copy.settled outcome same none)))
      (is.token (λ none. absurd (some_none h.copy.settled outcome same none))) (is.bytes outcome same)

  -- ---- an iTD

  itd_wrote_by : (m : Mem) (b : Bool) (h : HeldItd) (ended : IsoEnd) (p : FramePlace) → Stays at m p.memory
      → Stays at m (itd_wrote_at b h ended p).memory
  itd_wrote_by m true h ended p stays = stays
  itd_wrote_by m false h ended p stays = stays

  open_stays : (active late : Bool) (t : IsoTransaction) (h : HeldItd) (p : FramePlace)
      → EffectStays p.memory (itd_effect (if active then (if late then itd_rows.Skip else itd_rows.Transact t) else itd_rows.Skip) h p)
  open_stays false late t h p = refl
  open_stays true true t h p = refl
  open_stays true false t h p =
      let stays = read_stays at (itd_pages h.itd) (slot_place h.slot + h.moved) t.bytes p.memory in
      sent_stays p.memory (itd_sending t h p.memory).all _ _ _ _ (λ reply. stays) stays

  itd_stays : (o : Option IsoEnd) (left : ℕ) (h : HeldItd) (p : FramePlace) → h.ended ≡ o → IsItdLeft h p.walk.got at
      → EffectStays p.memory (itd_effect (ended_row left h o) h p)
  itd_stays None left h p same is = open_stays h.slot.active (nat_lt left (itd_transaction h).price.0) (itd_transaction h) h p
  itd_stays (Some ended) left h p same is =
      let w : Writing = itd_written h p.walk.got p.memory in
      itd_wrote_by p.memory w.all h ended (record p { memory = w.memory })
      (itd_back_stays at h p.walk.got p.memory (is.slot ended same) (is.bytes ended same))

  -- ---- a siTD

  sitd_wrote_by : (m : Mem) (b : Bool) (h : HeldSitd) (outcome : SplitOutcome) (p : FramePlace) → Stays at m p.memory
      → Stays at m (sitd_wrote_at b h outcome p).memory
  sitd_wrote_by m true h outcome p stays = stays
  sitd_wrote_by m false h outcome p stays = stays

  sitd_wrote_stays : (h : HeldSitd) (outcome : SplitOutcome) (p : FramePlace) → ((i : ℕ) → i < 3 → at / 4 ≢ (h.at + 12 + 4 * i) / 4)
      → IsBesideBytes (sitd_pages h.sitd) (sitd_place h.sitd) (length (sitd_received h.sitd.dir_in outcome p.walk.reply)) at
      → Stays at p.memory (sitd_wrote h outcome p).memory
  sitd_wrote_stays h outcome p state bytes =
      let w : Writing = sitd_writing h outcome p.walk.reply p.memory in
      sitd_wrote_by p.memory w.all h outcome (record p { memory = w.memory })
      (sitd_back_stays at h.at h.sitd outcome (sitd_received h.sitd.dir_in outcome p.walk.reply) p.memory state bytes)

  none_failed : (dir_in : Bool) (reply : Reply) → length (sitd_received dir_in split_outcomes.Failed reply) ≡ 0
  none_failed true reply = refl
  none_failed false reply = refl

  sitd_timed_stays : (late : Bool) (t : IsoTransaction) (h : HeldSitd) (p : FramePlace)
      → EffectStays p.memory (sitd_effect (if late then sitd_rows.Skip else sitd_rows.Transact t) h p)
  sitd_timed_stays true t h p = refl
  sitd_timed_stays false t h p =
      let stays = read_stays at (sitd_pages h.sitd) (sitd_place h.sitd) t.bytes p.memory in
      sent_stays p.memory (sitd_sending t h.sitd p.memory).all _ _ _ _ (λ reply. stays) stays

  sitd_turn_stays : (turn : SitdTurn) (left u : ℕ) (h : HeldSitd) (p : FramePlace) → sitd_turn u h.sitd ≡ turn
      → IsSitdLeft h p.walk.reply at
      → EffectStays p.memory (sitd_effect (sitd_turn_row left h.sitd turn) h p)
  sitd_turn_stays sitd_turns.Rest left u h p same is = refl
  sitd_turn_stays sitd_turns.Work left u h p same is = sitd_timed_stays (nat_lt left (sitd_transaction h.sitd).price.0)
      (sitd_transaction h.sitd) h p
  sitd_turn_stays sitd_turns.Miss left u h p same is =
      sitd_wrote_stays (missed_copy h) split_outcomes.Failed p (is.state
      (λ none. missing h.sitd.active (sitd_missed u h.sitd) (comes u h.sitd) same))
      (λ i below. let none = none_failed (missed_sitd h.sitd).dir_in p.walk.reply in absurd (omega (arith, below, none)))

  sitd_stays : (o : Option SplitOutcome) (left u : ℕ) (h : HeldSitd) (p : FramePlace) → h.settled ≡ o → IsSitdLeft h p.walk.reply at
      → EffectStays p.memory (sitd_effect (sitd_settled_row left u h.sitd o) h p)
  sitd_stays None left u h p same is = sitd_turn_stays (sitd_turn u h.sitd) left u h p refl is
  sitd_stays (Some outcome) left u h p same is =
      sitd_wrote_stays h outcome p (is.state (λ none. absurd (some_none h.settled outcome same none))) (is.bytes outcome same)

  -- ---- an event

  after_reading : (m read : Mem) (e : Effect) → Stays at m read → EffectStays read e → EffectStays m e
  after_reading m read (Leaves p) one two = two ∙ one
  after_reading m read (Asks ask out left_by) one two = λ reply. two reply ∙ one

  hand_stays : (p : FramePlace) (o : Option Hand) → IfSome o (IsHandLeft p.walk.got p.walk.reply at) → EffectStays p.memory (effect_at p o)
  hand_stays p None is = chain_reads p.memory p.walk.cursor
  hand_stays p (Some (hands.Queue h)) is =
      after_reading p.memory (queue_read p h)
      (queue_effect (settled_row p.memory p.walk.left p.walk.index h.copy.queue_head h.copy.settled) h (reading (queue_read p h) p))
      (settled_reads p.memory p.walk.index h.copy.queue_head h.copy.settled)
      (queue_stays h.copy.settled h p.memory p.walk.left p.walk.index (reading (queue_read p h) p) refl is)
  hand_stays p (Some (hands.Itd h)) is = itd_stays h.ended p.walk.left h p refl is
  hand_stays p (Some (hands.Sitd h)) is = sitd_stays h.settled p.walk.left (microframe_of p.walk.index) h p refl is

  effect_stays : {W : Type 0} (transacts : W → Ask → List ℕ → Reply → W → Type 0) (m : Mem) (e : Effect) (before : W) (new : FramePlace)
      (after : W) → EffectStays m e → HasEffect transacts e before new after → Stays at m new.memory
  effect_stays transacts m (Leaves p) before new after stays has = subst (λ (x : FramePlace). Stays at m x.memory) (sym has.0) stays
  effect_stays transacts m (Asks ask out left_by) before new after stays has = subst (λ (x : FramePlace). Stays at m x.memory)
      (sym has.place) (stays has.reply)

pub frame_left : {W : Type 0} (transacts : W → Ask → List ℕ → Reply → W → Type 0) (at : ℕ) (p : FramePlace) (before : W) (new : FramePlace)
    (after : W)
    → IfSome p.walk.hand (IsHandLeft p.walk.got p.walk.reply at) → Leads transacts p before new after → Stays at p.memory new.memory
frame_left transacts at p before new after is leads = effect_stays at transacts p.memory (effect_of p) before new after
    (hand_stays at p p.walk.hand is) leads
