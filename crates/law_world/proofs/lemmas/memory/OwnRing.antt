-- A word that the next event leaves of what the ring's walk has in hand stays.
use Rattle.std.proofs.Common.{◌≡◌, ◌≢◌, ℕ, ◌+◌, ◌*◌, ◌/◌, ◌<◌, Bool, true, false, if◌then◌else◌, List, length, Option, None, Some, refl}
use Rattle.std.proofs.Common.{sym, subst, ◌∙◌}
use Rattle.std.specs.Prelude.{IfSome}
use Rattle.usb_base.specs.declared.packets.Ask.{Ask}
use Rattle.usb_base.specs.declared.packets.Reply.{Reply}
use Rattle.word_mem.specs.Memory.{Mem, reaches, refused}
use Rattle.link_words.specs.declared.kinds.Link.{Link}
use Rattle.link_words.specs.declared.kinds.Link.TheVariants as links
use Rattle.link_words.specs.declared.kinds.QtdLink.{QtdLink}
use Rattle.link_words.specs.declared.kinds.QtdLink.TheVariants as qtd_links
use Rattle.link_words.specs.Links.{qtd_link_of}
use Rattle.qh_qtd.specs.declared.qtd.Qtd.{Qtd}
use Rattle.qh_qtd.specs.declared.queue_head.Qh.{Qh}
use Rattle.toggle_error.specs.declared.host.Outcome.{Outcome}
use Rattle.mem_queues.specs.Structures.{reaches_queue_head}
use Rattle.hc_copy.specs.declared.held.Held.{Held}
use Rattle.hc_copy.specs.declared.held.Transaction.{Transaction}
use Rattle.hc_copy.specs.declared.held.Visit.{Visit}
use Rattle.hc_copy.specs.declared.held.Visit.TheVariants as visits
use Rattle.hc_copy.specs.Visits.{visit_at, visit_of, next_pointer}
use Rattle.hc_copy.specs.Overlay.{advanced, pages_of, buffer_place}
use Rattle.hc_copy.specs.Buffer.{Reading, Writing, sending}
use Rattle.hc_copy.specs.WriteBack.{received, overlay_after}
use Rattle.async_walk.specs.declared.rows.WalkRow.{WalkRow}
use Rattle.async_walk.specs.declared.rows.WalkRow.TheVariants as rows
use Rattle.async_walk.specs.Naks.{may_work}
use Rattle.async_walk.specs.Rows.{WalkPlace, cursor_link, ring_read, take_read, visit_read, held_read, read_at, started, faulted, took}
use Rattle.async_walk.specs.Rows.{wrote, wrote_place}
use Rattle.async_walk.specs.Rows.{wrote_settled, writing, visit_row, held_row, row_at, SentAt, Sends, Leads, at_event, event_row}
use Rattle.law_controller.specs.event_places.Places.{IsBesideBytes}
use Rattle.law_controller.proofs.lemmas.event_places.Writing.{Stays, stays_if, read_stays, overlay_after_stays, back_stays}
use Rattle.law_world.proofs.lemmas.memory.OwnPlaces.{IsQueueLeft}

-- ---- a qTD is taken where the overlay isn't halted

goes_by : (m : Mem) (left : ℕ) (q : Qh) (may halted active : Bool) (l : QtdLink) (a : ℕ) (t : Qtd)
    → visit_row m left q (visit_at may halted active l) ≡ rows.Advance a t → halted ≡ false
goes_by m left q may false active l a t is = refl
goes_by m left q false true active l a t is = absurd (cc is)
goes_by m left q true true active l a t is = absurd (cc is)

held_goes : (m : Mem) (left : ℕ) (q : Qh) (o : Option Outcome) (a : ℕ) (t : Qtd) → held_row m left q o ≡ rows.Advance a t
    → q.token.halted ≡ false
held_goes m left q None a t is = goes_by m left q (may_work q) q.token.halted q.token.active (qtd_link_of (next_pointer q)) a t is
held_goes m left q (Some s) a t is = absurd (cc is)

abbrev GoesOn : WalkPlace → Option Held → WalkRow → Type 0
GoesOn p o row = (a : ℕ) (t : Qtd) → row ≡ rows.Advance a t → IfSome o (λ (h : Held). h.queue_head.token.halted ≡ false)

row_goes : (p : WalkPlace) (o : Option Held) → GoesOn p o (row_at p o)
row_goes p None a t is = tt
row_goes p (Some h) a t is = held_goes p.memory p.walk.left h.queue_head h.settled a t is

module _ (at : ℕ) where
  -- ---- what it reads

  ring_reads : (m : Mem) (l : Link) → Stays at m (ring_read m l)
  ring_reads m (links.Qh a) = stays_if at m m (refused m) (reaches_queue_head m a) refl refl
  ring_reads m _ = refl

  take_reads : (m : Mem) (l : QtdLink) → Stays at m (take_read m l)
  take_reads m qtd_links.End = refl
  take_reads m (qtd_links.To a) = stays_if at m m (refused m) (reaches m a) refl refl

  visit_reads : (m : Mem) (v : Visit) → Stays at m (visit_read m v)
  visit_reads m (visits.Take l) = take_reads m l
  visit_reads m _ = refl

  held_reads : (m : Mem) (q : Qh) (o : Option Outcome) → Stays at m (held_read m q o)
  held_reads m q None = visit_reads m (visit_of (may_work q) q)
  held_reads m q (Some s) = refl

  event_reads : (p : WalkPlace) (o : Option Held) → Stays at p.memory (read_at p o)
  event_reads p None = ring_reads p.memory (cursor_link p.registers p.walk.cursor)
  event_reads p (Some h) = held_reads p.memory h.queue_head h.settled

  -- ---- what stands after a row

  abbrev Goes : WalkPlace → WalkPlace → Type 0
  Goes p new = Stays at p.memory new.memory

  goes_to : (p new expected : WalkPlace) → new ≡ expected → Goes p expected → Goes p new
  goes_to p new expected is stays = subst (Goes p) (sym is) stays

  took_stays : (a : ℕ) (t : Qtd) (p : WalkPlace) (o : Option Held) → IfSome o (λ (h : Held). h.queue_head.token.halted ≡ false)
      → IfSome o (λ h. IsQueueLeft h p.walk.reply at) → Goes p (took a t p o)
  took_stays a t p None goes is = refl
  took_stays a t p (Some h) goes is = by (reaches_queue_head p.memory h.at)
    where
      stays : Stays at p.memory (overlay_after p.memory h.at (advanced h.queue_head a t))
      stays = overlay_after_stays at p.memory h.at (advanced h.queue_head a t) (is.overlay (λ none. goes))

      by : (b : Bool)
          → Goes p (if b then record p {
            memory = overlay_after p.memory h.at
                (advanced h.queue_head a t);
            walk = record p.walk { held = Some (record h { queue_head = advanced h.queue_head a t }) };
          }
          else faulted (record p { memory = overlay_after p.memory h.at (advanced h.queue_head a t) }))
      by true = stays
      by false = stays

  wrote_by : (p q : WalkPlace) (b : Bool) (head : Qh) (outcome : Outcome) → Goes p q → Goes p (wrote_place b head outcome q)
  wrote_by p q true head outcome stays = stays
  wrote_by p q false head outcome stays = stays

  some_none : (o : Option Outcome) (s : Outcome) → o ≡ Some s → o ≡ None → ⊥
  some_none o s some none = cc (some, none)

  settled_stays : (p : WalkPlace) (h : Held) (o : Option Outcome) → h.settled ≡ o → IsQueueLeft h p.walk.reply at
      → Goes p (wrote_settled p h o)
  settled_stays p h None same is = refl
  settled_stays p h (Some outcome) same is =
      let w : Writing = writing h outcome p.walk.reply p.memory in
      wrote_by p (record p { memory = w.memory }) w.all h.queue_head outcome
      (back_stays at h.at h.queue_head outcome (received h.queue_head outcome p.walk.reply) p.memory
      (is.overlay (λ none. absurd (some_none h.settled outcome same none)))
      (is.token (λ none. absurd (some_none h.settled outcome same none)))
      (is.bytes outcome same))

  wrote_stays : (p : WalkPlace) (o : Option Held) → IfSome o (λ h. IsQueueLeft h p.walk.reply at) → Goes p (wrote p o)
  wrote_stays p None is = refl
  wrote_stays p (Some h) is = settled_stays p h h.settled refl is

  sending_stays : (t : Transaction) (q : Qh) (m : Mem) → Stays at m (sending t q m).memory
  sending_stays t q m = read_stays at (pages_of q) (buffer_place q) t.bytes m

  sent_stays : {W : Type 0} (transacts : W → Ask → List ℕ → Reply → W → Type 0) (p new : WalkPlace) (before after : W) (b : Bool)
      (t : Transaction) (h : Held) (read : Reading) → Stays at p.memory read.memory
      → SentAt transacts b t h read p before new after → Goes p new
  sent_stays transacts p new before after true t h read stays sent = goes_to p new _ sent.place stays
  sent_stays transacts p new before after false t h read stays sent = goes_to p new
      (faulted (record p { memory = read.memory })) sent.0 stays

  sends_stay : {W : Type 0} (transacts : W → Ask → List ℕ → Reply → W → Type 0) (p new : WalkPlace) (before after : W) (t : Transaction)
      (o : Option Held) → Sends transacts t p o before new after → Goes p new
  sends_stay transacts p new before after t None sends = goes_to p new p sends.0 refl
  sends_stay transacts p new before after t (Some h) sends =
      sent_stays transacts p new before after (sending t h.queue_head p.memory).all t h (sending t h.queue_head p.memory)
      (sending_stays t h.queue_head p.memory) sends

  row_stays : {W : Type 0} (transacts : W → Ask → List ℕ → Reply → W → Type 0) (p new : WalkPlace) (before after : W) (row : WalkRow)
      → GoesOn p p.walk.held row
      → IfSome p.walk.held (λ h. IsQueueLeft h p.walk.reply at) → Leads transacts row p before new after → Goes p new
  row_stays transacts p new before after (rows.Advance a t) goes is leads =
      goes_to p new (took a t p p.walk.held) leads.0 (took_stays a t p p.walk.held (goes a t refl) is)
  row_stays transacts p new before after (rows.Transact t) goes is leads = sends_stay transacts p new before after t p.walk.held leads
  row_stays transacts p new before after rows.WriteBack goes is leads = goes_to p new (wrote p p.walk.held) leads.0
      (wrote_stays p p.walk.held is)
  row_stays transacts p new before after _ goes is leads = goes_to p new _ leads.0 refl

pub ring_left : {W : Type 0} (transacts : W → Ask → List ℕ → Reply → W → Type 0) (at : ℕ) (p : WalkPlace) (before : W) (new : WalkPlace)
    (after : W)
    → IfSome p.walk.held (λ h. IsQueueLeft h p.walk.reply at) → Leads transacts (event_row p) (at_event p) before new after
    → Stays at p.memory new.memory
ring_left transacts at p before new after is leads =
    row_stays at transacts (at_event p) new before after (event_row p) (row_goes (started p) p.walk.held) is leads
    ∙ event_reads at (started p) p.walk.held
