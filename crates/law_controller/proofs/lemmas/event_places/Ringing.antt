-- A word beside the places of the copy in hand stays, whatever event of the ring's walk comes.
use Rattle.std.proofs.Common.{◌≡◌, ℕ, ◌≤◌, Bool, true, false, if◌then◌else◌, List, length, Option, None, Some, refl, sym, subst, ◌∙◌, arith}
use Rattle.std.specs.Prelude.{IfSome}
use Rattle.usb_base.specs.declared.packets.Ask.{Ask}
use Rattle.usb_base.specs.declared.packets.Pid.{Pid}
use Rattle.usb_base.specs.declared.packets.Pid.TheVariants as pids
use Rattle.usb_base.specs.declared.packets.Reply.{Reply}
use Rattle.usb_base.specs.declared.packets.Reply.TheVariants as replies
use Rattle.word_mem.specs.Memory.{Mem, reaches, refused}
use Rattle.link_words.specs.declared.kinds.Link.{Link}
use Rattle.link_words.specs.declared.kinds.Link.TheVariants as links
use Rattle.link_words.specs.declared.kinds.QtdLink.{QtdLink}
use Rattle.link_words.specs.declared.kinds.QtdLink.TheVariants as qtd_links
use Rattle.qh_qtd.specs.declared.qtd.Qtd.{Qtd}
use Rattle.qh_qtd.specs.declared.queue_head.Qh.{Qh}
use Rattle.toggle_error.specs.declared.host.Outcome.{Outcome}
use Rattle.toggle_error.specs.declared.host.Outcome.TheVariants as outcomes
use Rattle.transactions.specs.Calls.{got_of}
use Rattle.mem_queues.specs.Structures.{reaches_queue_head}
use Rattle.hc_copy.specs.declared.held.Held.{Held}
use Rattle.hc_copy.specs.declared.held.Transaction.{Transaction}
use Rattle.hc_copy.specs.declared.held.Visit.{Visit}
use Rattle.hc_copy.specs.declared.held.Visit.TheVariants as visits
use Rattle.hc_copy.specs.Visits.{visit_of}
use Rattle.hc_copy.specs.Planning.{pid_at}
use Rattle.hc_copy.specs.Overlay.{advanced, pages_of, buffer_place}
use Rattle.hc_copy.specs.Buffer.{Reading, Writing, sending}
use Rattle.hc_copy.specs.WriteBack.{received, overlay_after}
use Rattle.async_walk.specs.declared.rows.WalkRow.{WalkRow}
use Rattle.async_walk.specs.declared.rows.WalkRow.TheVariants as rows
use Rattle.async_walk.specs.Naks.{may_work}
use Rattle.async_walk.specs.Rows.{WalkPlace, cursor_link, ring_read, take_read, visit_read, held_read, read_at, started, faulted, took, wrote, wrote_place, wrote_settled, writing, SentAt, Sends, Leads, at_event, event_row}
use Rattle.law_controller.specs.event_places.Places.{heard, IsBesideQueue}
use Rattle.law_controller.proofs.lemmas.event_places.Writing.{Stays, stays_if, read_stays, overlay_after_stays, bytes_beside, back_stays}

-- no more bytes are received than were heard
got_few : (pid : Pid) (outcome : Outcome) (reply : Reply) → length (got_of pid outcome reply) ≤ heard reply
got_few pids.In (outcomes.Moved n) (replies.Bytes pid bytes) = omega arith
got_few pids.In (outcomes.Moved n) replies.Silent = omega arith
got_few pids.In (outcomes.Moved n) (replies.Hand pid) = omega arith
got_few pids.In outcomes.Discarded reply = omega arith
got_few pids.In outcomes.Nak reply = omega arith
got_few pids.In outcomes.Wait reply = omega arith
got_few pids.In outcomes.Error reply = omega arith
got_few pids.In (outcomes.Halt cause) reply = omega arith
got_few pids.Out outcome reply = omega arith
got_few pids.Sof outcome reply = omega arith
got_few pids.Setup outcome reply = omega arith
got_few pids.Data0 outcome reply = omega arith
got_few pids.Data1 outcome reply = omega arith
got_few pids.Data2 outcome reply = omega arith
got_few pids.Mdata outcome reply = omega arith
got_few pids.Ack outcome reply = omega arith
got_few pids.Nak outcome reply = omega arith
got_few pids.Stall outcome reply = omega arith
got_few pids.Nyet outcome reply = omega arith
got_few pids.Err outcome reply = omega arith
got_few pids.Split outcome reply = omega arith
got_few pids.Ping outcome reply = omega arith

pub received_few : (q : Qh) (outcome : Outcome) (reply : Reply) → length (received q outcome reply) ≤ heard reply
received_few q outcome reply = got_few (pid_at q.token.pid) outcome reply

-- ---- what it reads

module _ (at : ℕ) where
  ring_reads : (m : Mem) (l : Link) → Stays at m (ring_read m l)
  ring_reads m (links.Qh a) = stays_if at m m (refused m) (reaches_queue_head m a) refl refl
  ring_reads m _ = refl

  take_reads : (m : Mem) (l : QtdLink) → Stays at m (take_read m l)
  take_reads m qtd_links.End = refl
  take_reads m (qtd_links.To a) = stays_if at m m (refused m) (reaches m a) refl refl

  visit_reads : (m : Mem) (v : Visit) → Stays at m (visit_read m v)
  visit_reads m (visits.Take l) = take_reads m l
  visit_reads m _ = refl

  held_reads : (m : Mem) (q : Qh) (o : Option Outcome) → Stays at m (held_read m q o)
  held_reads m q None = visit_reads m (visit_of (may_work q) q)
  held_reads m q (Some s) = refl

  event_reads : (p : WalkPlace) (o : Option Held) → Stays at p.memory (read_at p o)
  event_reads p None = ring_reads p.memory (cursor_link p.registers p.walk.cursor)
  event_reads p (Some h) = held_reads p.memory h.queue_head h.settled

  -- ---- what stands after a row

  abbrev Goes : WalkPlace → WalkPlace → Type 0
  Goes p new = Stays at p.memory new.memory

  goes_to : (p new expected : WalkPlace) → new ≡ expected → Goes p expected → Goes p new
  goes_to p new expected is stays = subst (Goes p) (sym is) stays

  took_stays : (a : ℕ) (t : Qtd) (p : WalkPlace) (o : Option Held) → IfSome o (λ h. IsBesideQueue h (heard p.walk.reply) at) → Goes p (took a t p o)
  took_stays a t p None is = refl
  took_stays a t p (Some h) is = by (reaches_queue_head p.memory h.at)
    where
      stays : Stays at p.memory (overlay_after p.memory h.at (advanced h.queue_head a t))
      stays = overlay_after_stays at p.memory h.at (advanced h.queue_head a t) is.overlay

      by : (b : Bool)
          → Goes p (if b then record p { memory = overlay_after p.memory h.at (advanced h.queue_head a t); walk = record p.walk { held = Some (record h { queue_head = advanced h.queue_head a t }) } }
          else faulted (record p { memory = overlay_after p.memory h.at (advanced h.queue_head a t) }))
      by true = stays
      by false = stays

  wrote_by : (p q : WalkPlace) (b : Bool) (head : Qh) (outcome : Outcome) → Goes p q → Goes p (wrote_place b head outcome q)
  wrote_by p q true head outcome stays = stays
  wrote_by p q false head outcome stays = stays

  settled_stays : (p : WalkPlace) (h : Held) (o : Option Outcome) → IsBesideQueue h (heard p.walk.reply) at → Goes p (wrote_settled p h o)
  settled_stays p h None is = refl
  settled_stays p h (Some outcome) is =
      let w : Writing = writing h outcome p.walk.reply p.memory in
      wrote_by p (record p { memory = w.memory }) w.all h.queue_head outcome
      (back_stays at h.at h.queue_head outcome (received h.queue_head outcome p.walk.reply) p.memory is.overlay is.token
      (bytes_beside (pages_of h.queue_head) (buffer_place h.queue_head) (heard p.walk.reply) (length (received h.queue_head outcome p.walk.reply)) at (received_few h.queue_head outcome p.walk.reply) is.bytes))

  wrote_stays : (p : WalkPlace) (o : Option Held) → IfSome o (λ h. IsBesideQueue h (heard p.walk.reply) at) → Goes p (wrote p o)
  wrote_stays p None is = refl
  wrote_stays p (Some h) is = settled_stays p h h.settled is

  sending_stays : (t : Transaction) (q : Qh) (m : Mem) → Stays at m (sending t q m).memory
  sending_stays t q m = read_stays at (pages_of q) (buffer_place q) t.bytes m

  sent_stays : {W : Type 0} (transacts : W → Ask → List ℕ → Reply → W → Type 0) (p new : WalkPlace) (before after : W) (b : Bool) (t : Transaction) (h : Held) (read : Reading) → Stays at p.memory read.memory
      → SentAt transacts b t h read p before new after → Goes p new
  sent_stays transacts p new before after true t h read stays sent = goes_to p new _ sent.place stays
  sent_stays transacts p new before after false t h read stays sent = goes_to p new (faulted (record p { memory = read.memory })) sent.0 stays

  sends_stay : {W : Type 0} (transacts : W → Ask → List ℕ → Reply → W → Type 0) (p new : WalkPlace) (before after : W) (t : Transaction) (o : Option Held) → Sends transacts t p o before new after → Goes p new
  sends_stay transacts p new before after t None sends = goes_to p new p sends.0 refl
  sends_stay transacts p new before after t (Some h) sends =
      sent_stays transacts p new before after (sending t h.queue_head p.memory).all t h (sending t h.queue_head p.memory) (sending_stays t h.queue_head p.memory) sends

  row_stays : {W : Type 0} (transacts : W → Ask → List ℕ → Reply → W → Type 0) (p new : WalkPlace) (before after : W) (row : WalkRow) → IfSome p.walk.held (λ h. IsBesideQueue h (heard p.walk.reply) at)
      → Leads transacts row p before new after → Goes p new
  row_stays transacts p new before after (rows.Advance a t) is leads = goes_to p new (took a t p p.walk.held) leads.0 (took_stays a t p p.walk.held is)
  row_stays transacts p new before after (rows.Transact t) is leads = sends_stay transacts p new before after t p.walk.held leads
  row_stays transacts p new before after rows.WriteBack is leads = goes_to p new (wrote p p.walk.held) leads.0 (wrote_stays p p.walk.held is)
  row_stays transacts p new before after _ is leads = goes_to p new _ leads.0 refl

-- ---- an event

pub ring_stays : {W : Type 0} (transacts : W → Ask → List ℕ → Reply → W → Type 0) (at : ℕ) (p : WalkPlace) (before : W) (new : WalkPlace) (after : W) → IfSome p.walk.held (λ h. IsBesideQueue h (heard p.walk.reply) at)
    → Leads transacts (event_row p) (at_event p) before new after → Stays at p.memory new.memory
ring_stays transacts at p before new after is leads = row_stays at transacts (at_event p) new before after (event_row p) is leads ∙ event_reads at (started p) p.walk.held
