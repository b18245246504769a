-- A word beside the places of what is in hand stays, whatever event of the walk of a frame's chain comes.
use Rattle.std.proofs.Common.{◌≡◌, ℕ, ◌+◌, ◌/◌, ◌≤◌, Bool, true, false, if◌then◌else◌, List, length, Option, None, Some, ap, refl, sym, subst, ◌∙◌, arith}
use Rattle.std.specs.Prelude.{IfSome}
use Rattle.usb_base.specs.declared.packets.Ask.{Ask}
use Rattle.usb_base.specs.declared.packets.Reply.{Reply}
use Rattle.usb_base.specs.declared.packets.Reply.TheVariants as replies
use Rattle.word_mem.specs.Memory.{Mem, reaches, refused}
use Rattle.link_words.specs.declared.kinds.Link.{Link}
use Rattle.link_words.specs.declared.kinds.Link.TheVariants as links
use Rattle.link_words.specs.declared.kinds.QtdLink.{QtdLink}
use Rattle.link_words.specs.declared.kinds.QtdLink.TheVariants as qtd_links
use Rattle.qh_qtd.specs.declared.qtd.Qtd.{Qtd}
use Rattle.qh_qtd.specs.declared.queue_head.Qh.{Qh}
use Rattle.itd_sitd.specs.declared.sitd.Sitd.{Sitd}
use Rattle.toggle_error.specs.declared.host.Outcome.{Outcome}
use Rattle.mem_queues.specs.Structures.{reaches_queue_head}
use Rattle.mem_descriptors.specs.Descriptors.{reaches_itd}
use Rattle.hc_copy.specs.Overlay.{advanced, pages_of, buffer_place}
use Rattle.hc_copy.specs.Buffer.{Writing, sending}
use Rattle.hc_copy.specs.WriteBack.{received, overlay_after}
use Rattle.hc_interrupt.specs.declared.turns.Turn.{Turn}
use Rattle.hc_interrupt.specs.declared.turns.Turn.TheVariants as turns
use Rattle.hc_interrupt.specs.Turns.{turn_of}
use Rattle.hc_interrupt.specs.Copies.{missed_queue}
use Rattle.hc_iso.specs.declared.held.HeldItd.{HeldItd}
use Rattle.hc_iso.specs.declared.held.HeldSitd.{HeldSitd}
use Rattle.hc_iso.specs.declared.held.IsoEnd.{IsoEnd}
use Rattle.hc_iso.specs.declared.held.SplitOutcome.{SplitOutcome}
use Rattle.hc_iso.specs.declared.held.SplitOutcome.TheVariants as split_outcomes
use Rattle.hc_iso.specs.Sitd.{missed_copy, missed_sitd, sitd_place}
use Rattle.hc_iso.specs.WriteBack.{itd_pages, slot_place, itd_sending, itd_written, sitd_pages, sitd_sending, sitd_received, bytes_of}
use Rattle.periodic_walk.specs.declared.queue.QueueRow.{QueueRow}
use Rattle.periodic_walk.specs.declared.queue.QueueRow.TheVariants as queue_rows
use Rattle.periodic_walk.specs.declared.itd.ItdRow.{ItdRow}
use Rattle.periodic_walk.specs.declared.itd.ItdRow.TheVariants as itd_rows
use Rattle.periodic_walk.specs.declared.sitd.SitdRow.{SitdRow}
use Rattle.periodic_walk.specs.declared.sitd.SitdRow.TheVariants as sitd_rows
use Rattle.periodic_walk.specs.declared.state.HeldQueue.{HeldQueue}
use Rattle.periodic_walk.specs.declared.state.Hand.{Hand}
use Rattle.periodic_walk.specs.declared.state.Hand.TheVariants as hands
use Rattle.periodic_walk.specs.Place.{FramePlace, reading, faulted, holding, Effect, HasEffect, sent}
use Rattle.periodic_walk.specs.Place.Effect.{Leaves, Asks}
use Rattle.periodic_walk.specs.Chain.{chain_read}
use Rattle.periodic_walk.specs.Queue.{take_read, turn_read, settled_read, queue_row, queue_read, queue_effect, with_queue, took, missed, miss_outcome, wrote, wrote_at, writing}
use Rattle.periodic_walk.specs.Itd.{itd_row, itd_effect, wrote_at as itd_wrote_at}
use Rattle.periodic_walk.specs.Sitd.{sitd_row, sitd_effect, wrote_at as sitd_wrote_at, wrote as sitd_wrote, writing as sitd_writing}
use Rattle.periodic_walk.specs.Rows.{effect_at, effect_of, Leads}
use Rattle.law_controller.specs.event_places.Places.{heard, IsBesideBytes, IsBesideQueue, IsBesideItd, IsBesideSitd, IsBesideHand}
use Rattle.law_controller.proofs.lemmas.event_places.Writing.{Stays, stays_if, read_stays, overlay_after_stays, bytes_beside, back_stays, itd_back_stays, sitd_back_stays}
use Rattle.law_controller.proofs.lemmas.event_places.Ringing.{received_few}

-- no more bytes are received than were heard
bytes_few : (reply : Reply) → length (bytes_of reply) ≤ heard reply
bytes_few replies.Silent = omega arith
bytes_few _ = omega arith

split_few : (dir_in : Bool) (outcome : SplitOutcome) (reply : Reply) → length (sitd_received dir_in outcome reply) ≤ heard reply
split_few true (split_outcomes.Moved n) reply = bytes_few reply
split_few true split_outcomes.Nothing reply = omega arith
split_few true split_outcomes.Failed reply = omega arith
split_few false outcome reply = omega arith

module _ (at : ℕ) where
  abbrev EffectStays : Mem → Effect → Type 0
  EffectStays m (Leaves p) = Stays at m p.memory
  EffectStays m (Asks ask out left_by) = (reply : Reply) → Stays at m (left_by reply).memory

  sent_stays : (m : Mem) (b : Bool) (ask : Ask) (out : List ℕ) (left_by : Reply → FramePlace) (p : FramePlace) → ((reply : Reply) → Stays at m (left_by reply).memory) → Stays at m p.memory → EffectStays m (sent b ask out left_by p)
  sent_stays m true ask out left_by p asked stuck = asked
  sent_stays m false ask out left_by p asked stuck = stuck

  -- ---- what is read

  chain_reads : (m : Mem) (l : Link) → Stays at m (chain_read m l)
  chain_reads m (links.Itd a) = stays_if at m m (refused m) (reaches_itd m a) refl refl
  chain_reads m (links.Qh a) = stays_if at m m (refused m) (reaches_queue_head m a) refl refl
  chain_reads m (links.Sitd a) = stays_if at m m (refused m) (reaches m a) refl refl
  chain_reads m _ = refl

  take_reads : (m : Mem) (l : QtdLink) → Stays at m (take_read m l)
  take_reads m qtd_links.End = refl
  take_reads m (qtd_links.To a) = stays_if at m m (refused m) (reaches m a) refl refl

  turn_reads : (m : Mem) (turn : Turn) → Stays at m (turn_read m turn)
  turn_reads m (turns.Take l) = take_reads m l
  turn_reads m _ = refl

  settled_reads : (m : Mem) (f : ℕ) (q : Qh) (o : Option Outcome) → Stays at m (settled_read m f q o)
  settled_reads m f q None = turn_reads m (turn_of f q)
  settled_reads m f q (Some outcome) = refl

  -- ---- a queue head

  took_stays : (h : HeldQueue) (a : ℕ) (t : Qtd) (p : FramePlace) (n : ℕ) → IsBesideQueue h.copy n at → Stays at p.memory (took h a t p).memory
  took_stays h a t p n is = by (reaches_queue_head p.memory h.copy.at)
    where
      new : Qh
      new = advanced h.copy.queue_head a t

      stays : Stays at p.memory (overlay_after p.memory h.copy.at new)
      stays = overlay_after_stays at p.memory h.copy.at new is.overlay

      by : (b : Bool)
          → Stays at p.memory (if b then record p { memory = overlay_after p.memory h.copy.at new; walk = holding (hands.Queue (with_queue h new)) p.walk } else faulted (record p { memory = overlay_after p.memory h.copy.at new })).memory
      by true = stays
      by false = stays

  wrote_by : (m : Mem) (b : Bool) (h : HeldQueue) (outcome : Outcome) (p : FramePlace) → Stays at m p.memory → Stays at m (wrote_at b h outcome p).memory
  wrote_by m true h outcome p stays = stays
  wrote_by m false h outcome p stays = stays

  wrote_stays : (h : HeldQueue) (outcome : Outcome) (p : FramePlace) → IsBesideQueue h.copy (heard p.walk.reply) at → Stays at p.memory (wrote h outcome p).memory
  wrote_stays h outcome p is =
      let q : Qh = h.copy.queue_head in
      let w : Writing = writing h.copy outcome p.walk.reply p.memory in
      wrote_by p.memory w.all h outcome (record p { memory = w.memory })
      (back_stays at h.copy.at q outcome (received q outcome p.walk.reply) p.memory is.overlay is.token
      (bytes_beside (pages_of q) (buffer_place q) (heard p.walk.reply) (length (received q outcome p.walk.reply)) at (received_few q outcome p.walk.reply) is.bytes))

  missed_places : (q : Qh) → ((missed_queue q).current ≡ q.current) × (pages_of (missed_queue q) ≡ pages_of q) × (buffer_place (missed_queue q) ≡ buffer_place q)
  unfolding missed_queue
  missed_places q = (refl, refl, refl)

  missed_beside : (h : HeldQueue) (n : ℕ) → IsBesideQueue h.copy n at → IsBesideQueue (missed h).copy n at
  missed_beside h n is =
      let same = missed_places h.copy.queue_head in
      record {
        overlay = is.overlay;
        token = λ e. is.token (e ∙ ap (λ (c : ℕ). (c + 8) / 4) same.0);
        bytes = subst (λ (pages : List ℕ). IsBesideBytes pages (buffer_place (missed_queue h.copy.queue_head)) n at) (sym same.1)
            (subst (λ (k : ℕ). IsBesideBytes (pages_of h.copy.queue_head) k n at) (sym same.2) is.bytes);
      }

  queue_stays : (row : QueueRow) (h : HeldQueue) (p : FramePlace) → IsBesideQueue h.copy (heard p.walk.reply) at → EffectStays p.memory (queue_effect row h p)
  queue_stays (queue_rows.Advance a t) h p is = took_stays h a t p (heard p.walk.reply) is
  queue_stays (queue_rows.Transact t) h p is =
      let stays = read_stays at (pages_of h.copy.queue_head) (buffer_place h.copy.queue_head) t.bytes p.memory in
      sent_stays p.memory (sending t h.copy.queue_head p.memory).all _ _ _ _ (λ reply. stays) stays
  queue_stays queue_rows.Miss h p is = wrote_stays (missed h) miss_outcome p (missed_beside h (heard p.walk.reply) is)
  queue_stays (queue_rows.WriteBack outcome) h p is = wrote_stays h outcome p is
  queue_stays _ h p is = refl

  -- ---- an iTD

  itd_wrote_by : (m : Mem) (b : Bool) (h : HeldItd) (ended : IsoEnd) (p : FramePlace) → Stays at m p.memory → Stays at m (itd_wrote_at b h ended p).memory
  itd_wrote_by m true h ended p stays = stays
  itd_wrote_by m false h ended p stays = stays

  itd_stays : (row : ItdRow) (h : HeldItd) (p : FramePlace) → IsBesideItd h (length p.walk.got) at → EffectStays p.memory (itd_effect row h p)
  itd_stays itd_rows.Skip h p is = refl
  itd_stays (itd_rows.Transact t) h p is =
      let stays = read_stays at (itd_pages h.itd) (slot_place h.slot + h.moved) t.bytes p.memory in
      sent_stays p.memory (itd_sending t h p.memory).all _ _ _ _ (λ reply. stays) stays
  itd_stays (itd_rows.WriteBack ended) h p is =
      let w : Writing = itd_written h p.walk.got p.memory in
      itd_wrote_by p.memory w.all h ended (record p { memory = w.memory }) (itd_back_stays at h p.walk.got p.memory is.slot is.bytes)

  -- ---- a siTD

  sitd_wrote_by : (m : Mem) (b : Bool) (h : HeldSitd) (outcome : SplitOutcome) (p : FramePlace) → Stays at m p.memory → Stays at m (sitd_wrote_at b h outcome p).memory
  sitd_wrote_by m true h outcome p stays = stays
  sitd_wrote_by m false h outcome p stays = stays

  sitd_wrote_stays : (h : HeldSitd) (outcome : SplitOutcome) (p : FramePlace) → IsBesideSitd h (heard p.walk.reply) at → Stays at p.memory (sitd_wrote h outcome p).memory
  sitd_wrote_stays h outcome p is =
      let w : Writing = sitd_writing h outcome p.walk.reply p.memory in
      let got : List ℕ = sitd_received h.sitd.dir_in outcome p.walk.reply in
      sitd_wrote_by p.memory w.all h outcome (record p { memory = w.memory })
      (sitd_back_stays at h.at h.sitd outcome got p.memory is.state
      (bytes_beside (sitd_pages h.sitd) (sitd_place h.sitd) (heard p.walk.reply) (length got) at (split_few h.sitd.dir_in outcome p.walk.reply) is.bytes))

  sitd_missed_places : (v : Sitd) → (sitd_pages (missed_sitd v) ≡ sitd_pages v) × (sitd_place (missed_sitd v) ≡ sitd_place v)
  unfolding missed_sitd
  sitd_missed_places v = (refl, refl)

  sitd_missed_beside : (h : HeldSitd) (n : ℕ) → IsBesideSitd h n at → IsBesideSitd (missed_copy h) n at
  sitd_missed_beside h n is =
      let same = sitd_missed_places h.sitd in
      record {
        state = is.state;
        bytes = subst (λ (pages : List ℕ). IsBesideBytes pages (sitd_place (missed_sitd h.sitd)) n at) (sym same.0) (subst (λ (k : ℕ). IsBesideBytes (sitd_pages h.sitd) k n at) (sym same.1) is.bytes);
      }

  sitd_stays : (row : SitdRow) (h : HeldSitd) (p : FramePlace) → IsBesideSitd h (heard p.walk.reply) at → EffectStays p.memory (sitd_effect row h p)
  sitd_stays sitd_rows.Skip h p is = refl
  sitd_stays (sitd_rows.Transact t) h p is =
      let stays = read_stays at (sitd_pages h.sitd) (sitd_place h.sitd) t.bytes p.memory in
      sent_stays p.memory (sitd_sending t h.sitd p.memory).all _ _ _ _ (λ reply. stays) stays
  sitd_stays sitd_rows.Miss h p is = sitd_wrote_stays (missed_copy h) split_outcomes.Failed p (sitd_missed_beside h (heard p.walk.reply) is)
  sitd_stays (sitd_rows.WriteBack outcome) h p is = sitd_wrote_stays h outcome p is

  -- ---- an event

  after_reading : (m read : Mem) (e : Effect) → Stays at m read → EffectStays read e → EffectStays m e
  after_reading m read (Leaves p) one two = two ∙ one
  after_reading m read (Asks ask out left_by) one two = λ reply. two reply ∙ one

  hand_stays : (p : FramePlace) (o : Option Hand) → IfSome o (IsBesideHand p.walk.got (heard p.walk.reply) at) → EffectStays p.memory (effect_at p o)
  hand_stays p None is = chain_reads p.memory p.walk.cursor
  hand_stays p (Some (hands.Queue h)) is =
      after_reading p.memory (queue_read p h) (queue_effect (queue_row p h) h (reading (queue_read p h) p))
      (settled_reads p.memory p.walk.index h.copy.queue_head h.copy.settled) (queue_stays (queue_row p h) h (reading (queue_read p h) p) is)
  hand_stays p (Some (hands.Itd h)) is = itd_stays (itd_row p.walk.left h) h p is
  hand_stays p (Some (hands.Sitd h)) is = sitd_stays (sitd_row p h) h p is

  effect_stays : {W : Type 0} (transacts : W → Ask → List ℕ → Reply → W → Type 0) (m : Mem) (e : Effect) (before : W) (new : FramePlace) (after : W) → EffectStays m e → HasEffect transacts e before new after → Stays at m new.memory
  effect_stays transacts m (Leaves p) before new after stays has = subst (λ (x : FramePlace). Stays at m x.memory) (sym has.0) stays
  effect_stays transacts m (Asks ask out left_by) before new after stays has = subst (λ (x : FramePlace). Stays at m x.memory) (sym has.place) (stays has.reply)

pub frame_stays : {W : Type 0} (transacts : W → Ask → List ℕ → Reply → W → Type 0) (at : ℕ) (p : FramePlace) (before : W) (new : FramePlace) (after : W) → IfSome p.walk.hand (IsBesideHand p.walk.got (heard p.walk.reply) at)
    → Leads transacts p before new after → Stays at p.memory new.memory
frame_stays transacts at p before new after is leads = effect_stays at transacts p.memory (effect_of p) before new after (hand_stays at p p.walk.hand is) leads
