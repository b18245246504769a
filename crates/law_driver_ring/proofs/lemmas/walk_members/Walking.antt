-- Each event of the walk keeps its cursor and its copy among the queue heads that it may meet.
use Rattle.std.proofs.Common.{◌≡◌, ℕ, ◌+◌, ◌*◌, Bool, true, false, not, ◌&&◌, cond, nat_lt, List, Option, Some, None, ap, sym, subst, ◌∙◌, ⊎_elim, inl, inr, refl}
use Rattle.std.specs.Prelude.{◌⊎◌}
use Rattle.std.proofs.lemmas.Bool.{false≢true}
use Rattle.std.proofs.lemmas.Option.{same_Some}
use Rattle.law_driver_ring.proofs.Common.{head_address}
use Rattle.law_driver.proofs.Common.{among_later}
use Rattle.usb_base.specs.declared.packets.Ask.{Ask}
use Rattle.usb_base.specs.declared.packets.Reply.{Reply}
use Rattle.word_mem.specs.Memory.{Mem, word_at}
use Rattle.link_words.specs.Layout.{is_set}
use Rattle.link_words.specs.Fields.{link_at}
use Rattle.link_words.specs.declared.kinds.Link.{Link}
use Rattle.link_words.specs.declared.kinds.Link.TheVariants as links
use Rattle.link_words.specs.declared.kinds.QtdLink.TheVariants as qtd_links
use Rattle.link_words.specs.Links.{link_of}
use Rattle.op_registers.specs.RegisterFile.{RegisterFile}
use Rattle.op_registers.specs.Events.{after_reclamation, after_fault}
use Rattle.qh_qtd.specs.declared.queue_head.Qh.{Qh}
use Rattle.qh_qtd.specs.declared.qtd.Qtd.{Qtd}
use Rattle.toggle_error.specs.declared.host.HostSide.{HostSide}
use Rattle.toggle_error.specs.declared.host.Outcome.{Outcome}
use Rattle.mem_queues.specs.Structures.{queue_head_at_address, qtd_at_address, reaches_queue_head}
use Rattle.hc_copy.specs.declared.held.Held.{Held}
use Rattle.hc_copy.specs.declared.held.Transaction.{Transaction}
use Rattle.hc_copy.specs.declared.held.Visit.{Visit}
use Rattle.hc_copy.specs.declared.held.Visit.TheVariants as visits
use Rattle.hc_copy.specs.Visits.{visit_of}
use Rattle.hc_copy.specs.Overlay.{advanced, settled_queue}
use Rattle.hc_copy.specs.Buffer.{Reading, sending}
use Rattle.async_walk.specs.declared.rows.WalkRow.{WalkRow}
use Rattle.async_walk.specs.declared.rows.WalkRow.TheVariants as rows
use Rattle.async_walk.specs.declared.state.Cursor.{Cursor}
use Rattle.async_walk.specs.declared.state.Cursor.TheVariants as cursors
use Rattle.async_walk.specs.declared.state.ReloadMode.{ReloadMode}
use Rattle.async_walk.specs.declared.state.ReloadMode.TheVariants.{Reload}
use Rattle.async_walk.specs.Walk.{Walk, new_walk, begun, stopped}
use Rattle.drv_table.specs.declared.content.Reserve.{Reserve}
use Rattle.drv_table.specs.Opening.{opening}
use Rattle.hc_copy.specs.WriteBack.{overlay_after, raised}
use Rattle.async_walk.specs.Naks.{may_work, planned, mode_after, reloaded, counted_queue}
use Rattle.async_walk.specs.Rows.{WalkPlace, started, at_event, event_row, fetch_row, ring_row, work_row, taken_row, visit_row, held_row, cursor_link, row_at, fetched_registers, passed_walk, faulted, took, wrote, wrote_settled, wrote_place, writing, Sends, SentAt, Leads, ring_copy}
use Rattle.drv_table.specs.DriverContent.{DriverContent}
use Rattle.drv_table.specs.Words.{head_block}
use Rattle.claims_driver.specs.Ring.{link_in}
use Rattle.law_driver.specs.ring_members.Words.{IsRing}
use Rattle.claims_driver.specs.InPlace.{AreFixed}
use Rattle.claims_driver.specs.Walk.{IsReached, at_head, at_member, at_waiting, at_rung, LeadsOn, IsCopyIn, IsWalkIn}
use Rattle.law_driver_ring.specs.walk_members.Reached.{AreNoHeads}
use Rattle.law_driver_ring.proofs.lemmas.walk_members.Leading.{WordLeads, head_leads, reached_leads, among_front}
use Rattle.law_driver_ring.proofs.lemmas.walk_members.Decoding.{read_link, read_head, link_decoded}

-- ---- what is read

-- a queue head that is read leads on
read_leads : (m : Mem) (d : DriverContent) (rings : Bool) (b : ℕ) (q : Qh) → queue_head_at_address m (32 * b) ≡ Some q → WordLeads d rings (link_in m b) → LeadsOn d rings (link_of q.link)
read_leads m d rings b q there l = record {
  block = l.to;
  is = ap link_of (read_link m b q there ∙ ap link_at l.link) ∙ link_decoded l.to;
  reached = l.reached;
}

-- the head alone has the bit H
fixed_at : (m : Mem) (d : DriverContent) (rings : Bool) (b : ℕ) → AreFixed m d → AreNoHeads d → IsReached d rings b → (b ≡ head_block) ⊎ (is_set 15 (word_at m (32 * b + 4)) ≡ false)
fixed_at m d rings b fixed none (at_head h) = inl h
fixed_at m d rings b fixed none (at_member e at on) =
    inr (subst (λ k. is_set 15 (word_at m (32 * k + 4)) ≡ false) at.queue (ap (is_set 15) (fixed.each e at.endpoint at.here (inl on)).characteristics ∙ none e at.endpoint at.here))
fixed_at m d rings b fixed none (at_waiting e at among) =
    inr (subst (λ k. is_set 15 (word_at m (32 * k + 4)) ≡ false) at.queue (ap (is_set 15) (fixed.each e at.endpoint at.here (inr (among_later e d.rung d.waiting among))).characteristics ∙ none e at.endpoint at.here))
fixed_at m d rings b fixed none (at_rung e at among on) =
    inr (subst (λ k. is_set 15 (word_at m (32 * k + 4)) ≡ false) at.queue (ap (is_set 15) (fixed.each e at.endpoint at.here (inr (among_front e d.rung d.waiting among))).characteristics ∙ none e at.endpoint at.here))

-- ---- which row it is

-- what a fetch finds: a queue head that may be met, whose link leads on also once the doorbell is answered
record Finds (d : DriverContent) (r : RegisterFile) (a : ℕ) (q : Qh) : Type 0 where
  block : ℕ
  at : a ≡ 32 * block
  reached : IsReached d (fetched_registers q.head r).doorbell block
  next : LeadsOn d (fetched_registers q.head r).doorbell (link_of q.link)

abbrev IsRowIn : DriverContent → RegisterFile → Option Held → WalkRow → Type 0
IsRowIn d r held (rows.Fetch a q) = Finds d r a q
IsRowIn d r held rows.HeadEnds = held ≡ None
IsRowIn d r held rows.Fault = Unit {0}
IsRowIn d r held rows.Skip = Unit {0}
IsRowIn d r held rows.OutOfTime = Unit {0}
IsRowIn d r held (rows.Advance a t) = Unit {0}
IsRowIn d r held (rows.Transact t) = Unit {0}
IsRowIn d r held rows.WriteBack = Unit {0}

finds_by : (m : Mem) (d : DriverContent) (r : RegisterFile) (b : ℕ) (q : Qh) (on : Bool) → q.head ≡ on → queue_head_at_address m (32 * b) ≡ Some q → IsReached d r.doorbell b → IsRing (link_in m) d → AreFixed m d → AreNoHeads d → Finds d r (32 * b) q
finds_by m d r b q false off there reached ring fixed none = record {
  block = b;
  at = refl;
  reached = subst (λ (h : Bool). IsReached d (fetched_registers h r).doorbell b) (sym off) reached;
  next = subst (λ (h : Bool). LeadsOn d (fetched_registers h r).doorbell (link_of q.link)) (sym off) (read_leads m d r.doorbell b q there (reached_leads (link_in m) d r.doorbell b ring reached));
}
finds_by m d r b q true on there reached ring fixed none =
    ⊎_elim
    (λ (h : b ≡ head_block). record {
      block = b;
      at = refl;
      reached = at_head h;
      next = read_leads m d (fetched_registers q.head r).doorbell b q there
          (subst (λ k. WordLeads d (fetched_registers q.head r).doorbell (link_in m k)) (sym h) (head_leads (link_in m) d (fetched_registers q.head r).doorbell ring));
    })
    (λ (off : is_set 15 (word_at m (32 * b + 4)) ≡ false). absurd (false≢true (sym off ∙ sym (read_head m b q there) ∙ on)))
    (fixed_at m d r.doorbell b fixed none reached)

fetched_in : (m : Mem) (d : DriverContent) (r : RegisterFile) (held : Option Held) (recl : Bool) (b : ℕ) (o : Option Qh) → held ≡ None → queue_head_at_address m (32 * b) ≡ o → IsReached d r.doorbell b → IsRing (link_in m) d → AreFixed m d → AreNoHeads d → IsRowIn d r held (fetch_row recl (32 * b) o)
fetched_in m d r held recl b None empty there reached ring fixed none = tt
fetched_in m d r held recl b (Some q) empty there reached ring fixed none = at (q.head && not recl)
  where
    at : (x : Bool) → IsRowIn d r held (cond x rows.HeadEnds (rows.Fetch (32 * b) q))
    at true = empty
    at false = finds_by m d r b q q.head refl there reached ring fixed none

taken_in : (d : DriverContent) (r : RegisterFile) (held : Option Held) (a : ℕ) (o : Option Qtd) → IsRowIn d r held (taken_row a o)
taken_in d r held a None = tt
taken_in d r held a (Some t) = at t.token.active
  where
    at : (x : Bool) → IsRowIn d r held (cond x (rows.Advance a t) rows.Skip)
    at true = tt
    at false = tt

visit_in : (d : DriverContent) (r : RegisterFile) (held : Option Held) (m : Mem) (left : ℕ) (q : Qh) (v : Visit) → IsRowIn d r held (visit_row m left q v)
visit_in d r held m left q visits.Rest = tt
visit_in d r held m left q visits.Work = at (nat_lt left (planned q).price.0)
  where
    at : (x : Bool) → IsRowIn d r held (work_row x (planned q))
    at true = tt
    at false = tt
visit_in d r held m left q (visits.Take qtd_links.End) = tt
visit_in d r held m left q (visits.Take (qtd_links.To a)) = taken_in d r held a (qtd_at_address m a)

held_in : (d : DriverContent) (r : RegisterFile) (held : Option Held) (m : Mem) (left : ℕ) (q : Qh) (s : Option Outcome) → IsRowIn d r held (held_row m left q s)
held_in d r held m left q None = visit_in d r held m left q (visit_of (may_work q) q)
held_in d r held m left q (Some s) = tt

row_in : (p : WalkPlace) (d : DriverContent) (o : Option Held) → p.walk.held ≡ o → IsWalkIn d p.registers p.walk → IsRing (link_in p.memory) d → AreFixed p.memory d → AreNoHeads d → IsRowIn d p.registers p.walk.held (row_at p o)
row_in p d None empty walk ring fixed none =
    subst (λ (l : Link). IsRowIn d p.registers p.walk.held (ring_row p.memory p.registers.reclamation l)) (sym walk.cursor.is)
    (fetched_in p.memory d p.registers p.walk.held p.registers.reclamation walk.cursor.block (queue_head_at_address p.memory (32 * walk.cursor.block)) empty refl walk.cursor.reached ring fixed none)
row_in p d (Some h) there walk ring fixed none = held_in d p.registers p.walk.held p.memory p.walk.left h.queue_head h.settled

-- ---- what stays of a copy and of the registers

reloaded_link : (mode : ReloadMode) (q : Qh) → (reloaded mode q).link ≡ q.link
unfolding reloaded
reloaded_link Reload q = refl
reloaded_link _ q = refl

advanced_link : (q : Qh) (a : ℕ) (t : Qtd) → (advanced q a t).link ≡ q.link
unfolding advanced
advanced_link q a t = refl

counted_link : (b : Bool) (host : HostSide) (q : Qh) → (counted_queue b (settled_queue host q)).link ≡ q.link
unfolding counted_queue settled_queue
counted_link b host q = refl

raised_same : (q : Qh) (o : Outcome) (r : RegisterFile) → ((raised q o r).doorbell ≡ r.doorbell) × ((raised q o r).async_list_address ≡ r.async_list_address)
unfolding raised
raised_same q o r = (refl, refl)

-- a copy of the same queue head, with the same link
same_copy : (d : DriverContent) (rings : Bool) (h : Held) (k : Held) → k.at ≡ h.at → k.queue_head.link ≡ h.queue_head.link → IsCopyIn d rings h → IsCopyIn d rings k
same_copy d rings h k at link c = record {
  block = c.block;
  at = at ∙ c.at;
  reached = c.reached;
  next = record { block = c.next.block; is = ap link_of link ∙ c.next.is; reached = c.next.reached };
}

-- the walk with another copy in hand, and registers in which the doorbell and the ring's address are as before
with_copy : (d : DriverContent) (r s : RegisterFile) (w v : Walk) → s.doorbell ≡ r.doorbell → s.async_list_address ≡ r.async_list_address → v.cursor ≡ w.cursor → ((h : Held) → v.held ≡ Some h → IsCopyIn d r.doorbell h) → IsWalkIn d r w → IsWalkIn d s v
with_copy d r s w v bell address cursor copy old = record {
  start = address ∙ old.start;
  cursor = subst (λ (b : Bool). LeadsOn d b (cursor_link s v.cursor)) (sym bell)
      (record { block = old.cursor.block; is = ap (cursor_link s) cursor ∙ same_link w.cursor ∙ old.cursor.is; reached = old.cursor.reached });
  copy = λ h there. subst (λ (b : Bool). IsCopyIn d b h) (sym bell) (copy h there);
}
  where
    same_link : (c : Cursor) → cursor_link s c ≡ cursor_link r c
    same_link cursors.Start = ap links.Qh address
    same_link (cursors.At link) = refl

-- the cursor goes on to where the copy leads
passed_in : (d : DriverContent) (r : RegisterFile) (w : Walk) (o : Option Held) → w.held ≡ o → IsWalkIn d r w → IsWalkIn d r (passed_walk w o)
passed_in d r w None there old = old
passed_in d r w (Some h) there old = record {
  start = old.start;
  cursor = (old.copy h there).next;
  copy = λ k now. absurd (cc);
}

none_in : (d : DriverContent) (rings : Bool) (h : Held) → None ≡ Some h → IsCopyIn d rings h
none_in d rings h e = absurd (cc)

fault_in : (d : DriverContent) (p : WalkPlace) → IsWalkIn d p.registers p.walk → IsWalkIn d (faulted p).registers (faulted p).walk
fault_in d p old = with_copy d p.registers (after_fault p.registers) p.walk (stopped p.walk) refl refl refl (λ h there. none_in d p.registers.doorbell h there) old

fetched_address : (h : Bool) (r : RegisterFile) → (fetched_registers h r).async_list_address ≡ r.async_list_address
fetched_address false r = refl
fetched_address true r = head_address (after_reclamation r false) r.doorbell

took_in : (d : DriverContent) (p : WalkPlace) (a : ℕ) (t : Qtd) (o : Option Held) → p.walk.held ≡ o → IsWalkIn d p.registers p.walk → IsWalkIn d (took a t p o).registers (took a t p o).walk
took_in d p a t None there old = old
took_in d p a t (Some h) there old = at (reaches_queue_head p.memory h.at)
  where
    new : Held
    new = record h { queue_head = advanced h.queue_head a t }

    copied : IsWalkIn d p.registers (record p.walk { held = Some (record h { queue_head = advanced h.queue_head a t }) })
    copied = with_copy d p.registers p.registers p.walk (record p.walk { held = Some (record h { queue_head = advanced h.queue_head a t }) }) refl refl refl
        (λ k now. subst (λ (z : Held). IsCopyIn d p.registers.doorbell z) (same_Some (record h { queue_head = advanced h.queue_head a t }) k now)
        (same_copy d p.registers.doorbell h (record h { queue_head = advanced h.queue_head a t }) refl (advanced_link h.queue_head a t) (old.copy h there))) old

    at : (b : Bool) → IsWalkIn d (cond b (record p { memory = overlay_after p.memory h.at (advanced h.queue_head a t); walk = record p.walk { held = Some (record h { queue_head = advanced h.queue_head a t }) } }) (faulted (record p { memory = overlay_after p.memory h.at (advanced h.queue_head a t) }))).registers (cond b (record p { memory = overlay_after p.memory h.at (advanced h.queue_head a t); walk = record p.walk { held = Some (record h { queue_head = advanced h.queue_head a t }) } }) (faulted (record p { memory = overlay_after p.memory h.at (advanced h.queue_head a t) }))).walk
    at true = copied
    at false = fault_in d (record p { memory = overlay_after p.memory h.at (advanced h.queue_head a t) }) old

wrote_in_by : (d : DriverContent) (p : WalkPlace) (b : Bool) (q : Qh) (outcome : Outcome) → IsWalkIn d p.registers p.walk → IsWalkIn d (wrote_place b q outcome p).registers (wrote_place b q outcome p).walk
wrote_in_by d p true q outcome old =
    let s = raised_same q outcome p.registers in
    passed_in d (raised q outcome p.registers) p.walk p.walk.held refl (with_copy d p.registers (raised q outcome p.registers) p.walk p.walk s.0 s.1 refl old.copy old)
wrote_in_by d p false q outcome old = fault_in d p old

wrote_in : (d : DriverContent) (p : WalkPlace) (o : Option Held) → IsWalkIn d p.registers p.walk → IsWalkIn d (wrote p o).registers (wrote p o).walk
wrote_in d p None old = old
wrote_in d p (Some h) old = by h.settled
  where
    by : (s : Option Outcome) → IsWalkIn d (wrote_settled p h s).registers (wrote_settled p h s).walk
    by None = old
    by (Some outcome) =
        wrote_in_by d (record p { memory = (writing h outcome p.walk.reply p.memory).memory }) (writing h outcome p.walk.reply p.memory).all h.queue_head outcome old

-- ---- what stands after a row

sends_in : {W : Type 0} (transacts : W → Ask → List ℕ → Reply → W → Type 0) (d : DriverContent) (p : WalkPlace) (t : Transaction) (o : Option Held) (before : W) (new : WalkPlace) (after : W) → p.walk.held ≡ o → IsWalkIn d p.registers p.walk → Sends transacts t p o before new after → IsWalkIn d new.registers new.walk
sends_in transacts d p t None before new after there old leads = subst (λ (n : WalkPlace). IsWalkIn d n.registers n.walk) (sym leads.0) old
sends_in transacts d p t (Some h) before new after there old leads = by (sending t h.queue_head p.memory).all leads
  where
    read : Reading
    read = sending t h.queue_head p.memory

    by : (b : Bool) → SentAt transacts b t h (sending t h.queue_head p.memory) p before new after → IsWalkIn d new.registers new.walk
    by true made =
        subst (λ (n : WalkPlace). IsWalkIn d n.registers n.walk) (sym made.place)
        (with_copy d p.registers (after_reclamation p.registers true) p.walk _ refl refl refl
        (λ k now. subst (λ (z : Held). IsCopyIn d p.registers.doorbell z) (same_Some (ring_copy t (sending t h.queue_head p.memory).bytes made.reply h) k now)
        (same_copy d p.registers.doorbell h (ring_copy t (sending t h.queue_head p.memory).bytes made.reply h) refl (counted_link _ _ h.queue_head) (old.copy h there))) old)
    by false made = subst (λ (n : WalkPlace). IsWalkIn d n.registers n.walk) (sym made.0) (fault_in d (record p { memory = (sending t h.queue_head p.memory).memory }) old)

leads_in : {W : Type 0} (transacts : W → Ask → List ℕ → Reply → W → Type 0) (d : DriverContent) (row : WalkRow) (p : WalkPlace) (before : W) (new : WalkPlace) (after : W) → IsRowIn d p.registers p.walk.held row → IsWalkIn d p.registers p.walk → Leads transacts row p before new after → IsWalkIn d new.registers new.walk
leads_in transacts d rows.Fault p before new after is old leads = subst (λ (n : WalkPlace). IsWalkIn d n.registers n.walk) (sym leads.0) (fault_in d p old)
leads_in transacts d rows.HeadEnds p before new after is old leads =
    subst (λ (n : WalkPlace). IsWalkIn d n.registers n.walk) (sym leads.0)
    (let same = head_address p.registers p.registers.doorbell in
    record {
      start = same ∙ old.start;
      cursor = record { block = head_block; is = ap links.Qh (same ∙ old.start); reached = at_head refl };
      copy = λ h there. none_in d _ h (sym is ∙ there);
    })
leads_in transacts d (rows.Fetch a q) p before new after is old leads =
    subst (λ (n : WalkPlace). IsWalkIn d n.registers n.walk) (sym leads.0)
    (record {
      start = fetched_address q.head p.registers ∙ old.start;
      cursor = record { block = is.block; is = ap links.Qh is.at; reached = is.reached };
      copy = λ h there.
          subst (λ (z : Held). IsCopyIn d (fetched_registers q.head p.registers).doorbell z) (same_Some (record { at = a; queue_head = reloaded (mode_after q p.walk.mode) q; settled = None }) h there)
          (record {
            block = is.block;
            at = is.at;
            reached = is.reached;
            next = record { block = is.next.block; is = ap link_of (reloaded_link (mode_after q p.walk.mode) q) ∙ is.next.is; reached = is.next.reached };
          });
    })
leads_in transacts d rows.Skip p before new after is old leads = subst (λ (n : WalkPlace). IsWalkIn d n.registers n.walk) (sym leads.0) (passed_in d p.registers p.walk p.walk.held refl old)
leads_in transacts d rows.OutOfTime p before new after is old leads =
    subst (λ (n : WalkPlace). IsWalkIn d n.registers n.walk) (sym leads.0)
    (with_copy d p.registers p.registers p.walk (stopped p.walk) refl refl refl (λ h there. none_in d p.registers.doorbell h there) old)
leads_in transacts d (rows.Advance a t) p before new after is old leads = subst (λ (n : WalkPlace). IsWalkIn d n.registers n.walk) (sym leads.0) (took_in d p a t p.walk.held refl old)
leads_in transacts d (rows.Transact t) p before new after is old leads = sends_in transacts d p t p.walk.held before new after refl old leads
leads_in transacts d rows.WriteBack p before new after is old leads = subst (λ (n : WalkPlace). IsWalkIn d n.registers n.walk) (sym leads.0) (wrote_in d p p.walk.held old)

-- the first event of a microframe leaves the doorbell and the address
started_in : (d : DriverContent) (p : WalkPlace) → IsWalkIn d p.registers p.walk → IsWalkIn d (started p).registers (started p).walk
started_in d p old = with_copy d p.registers (started p).registers p.walk (started p).walk (by p.walk.first).0 (by p.walk.first).1 refl old.copy old
  where
    by : (b : Bool) → ((cond b (after_reclamation p.registers true) p.registers).doorbell ≡ p.registers.doorbell) × ((cond b (after_reclamation p.registers true) p.registers).async_list_address ≡ p.registers.async_list_address)
    by true = (refl, refl)
    by false = (refl, refl)

pub event_in : {W : Type 0} (transacts : W → Ask → List ℕ → Reply → W → Type 0) (d : DriverContent) (p : WalkPlace) (before : W) (new : WalkPlace) (after : W) → IsRing (link_in p.memory) d → AreFixed p.memory d → AreNoHeads d → IsWalkIn d p.registers p.walk → Leads transacts (event_row p) (at_event p) before new after → IsWalkIn d new.registers new.walk
event_in transacts d p before new after ring fixed none old leads =
    let s = started_in d p old in
    leads_in transacts d (event_row p) (at_event p) before new after (row_in (started p) d p.walk.held refl s ring fixed none) s leads

-- ---- before the first event, and between microframes

pub between_in : (d : DriverContent) (r s : RegisterFile) (w : Walk) (left : ℕ) → s.doorbell ≡ r.doorbell → s.async_list_address ≡ r.async_list_address → IsWalkIn d r w → IsWalkIn d s (stopped w) × IsWalkIn d s (begun w left)
between_in d r s w left bell address old =
    (with_copy d r s w (stopped w) bell address refl (λ h there. none_in d r.doorbell h there) old, with_copy d r s w (begun w left) bell address refl (λ h there. none_in d r.doorbell h there) old)

pub opening_in : (n : ℕ) (room : Reserve) → IsWalkIn (opening n room).driver (opening n room).registers new_walk
opening_in n room = record {
  start = refl;
  cursor = record { block = head_block; is = refl; reached = at_head refl };
  copy = λ h there. absurd (cc);
}
