-- Each event of the walk of the ring goes on with its round, unless it is the fault, at which the controller stops (EHCI 1.0, 4.8, 4.8.2, 4.8.3, 4.10 and 4.15.2.4).
use Rattle.std.proofs.Common.{◌≡◌, ◌≢◌, ℕ, ◌+◌, ◌*◌, ◌<◌, ◌==◌, Bool, true, false, not, ◌&&◌, cond, nat_lt, List, [], ◌∷◌, Option, Some, None, ap, refl, sym, subst, ◌∙◌, ⊎_elim, inl, inr, if◌then◌else◌}
use Rattle.std.specs.Prelude.{◌⊎◌}
use Rattle.std.specs.List.{AllByRecursion}
use Rattle.std.proofs.lemmas.Bool.{false≢true, eqb-true, eq-eqb}
use Rattle.std.proofs.lemmas.Option.{same_Some}
use Rattle.law_microframes.proofs.Common.{all_higher}
use Rattle.law_ring.proofs.Common.{same_cursor}
use Rattle.law_driver_ring.proofs.Common.{head_address}
use Rattle.law_driver.proofs.Common.{among_later}
use Rattle.usb_base.specs.declared.packets.Ask.{Ask}
use Rattle.usb_base.specs.declared.packets.Reply.{Reply}
use Rattle.word_mem.specs.Memory.{Mem, word_at}
use Rattle.link_words.specs.Layout.{is_set}
use Rattle.link_words.specs.declared.kinds.Link.{Link}
use Rattle.link_words.specs.declared.kinds.Link.TheVariants as links
use Rattle.link_words.specs.declared.kinds.QtdLink.TheVariants as qtd_links
use Rattle.link_words.specs.Links.{link_of, link_read}
use Rattle.op_registers.specs.RegisterFile.{RegisterFile}
use Rattle.op_registers.specs.Events.{after_reclamation}
use Rattle.qh_qtd.specs.declared.queue_head.Qh.{Qh}
use Rattle.qh_qtd.specs.declared.qtd.Qtd.{Qtd}
use Rattle.toggle_error.specs.declared.host.HostSide.{HostSide}
use Rattle.toggle_error.specs.declared.host.Outcome.{Outcome}
use Rattle.mem_queues.specs.Structures.{queue_head_at_address, qtd_at_address, reaches_queue_head}
use Rattle.hc_copy.specs.declared.held.Held.{Held}
use Rattle.hc_copy.specs.declared.held.Transaction.{Transaction}
use Rattle.hc_copy.specs.declared.held.Visit.{Visit}
use Rattle.hc_copy.specs.declared.held.Visit.TheVariants as visits
use Rattle.hc_copy.specs.Visits.{visit_of}
use Rattle.hc_copy.specs.Overlay.{advanced, settled_queue}
use Rattle.hc_copy.specs.Buffer.{sending}
use Rattle.hc_copy.specs.WriteBack.{overlay_after, raised}
use Rattle.async_walk.specs.declared.rows.WalkRow.{WalkRow}
use Rattle.async_walk.specs.declared.rows.WalkRow.TheVariants as rows
use Rattle.async_walk.specs.declared.state.ReloadMode.{ReloadMode}
use Rattle.async_walk.specs.declared.state.ReloadMode.TheVariants.{Reload}
use Rattle.async_walk.specs.Walk.{Walk, stopped}
use Rattle.async_walk.specs.Naks.{may_work, planned, mode_after, reloaded, counted_queue}
use Rattle.async_walk.specs.Rows.{WalkPlace, started, at_event, event_row, fetch_row, ring_row, work_row, taken_row, visit_row, held_row, cursor_link, row_at, head_read, fetched_registers, fetched_walk, passed_walk, restarted, faulted, took, wrote, wrote_settled, wrote_place, writing, Sends, SentAt, Leads, ring_copy}
use Rattle.drv_table.specs.DriverContent.{DriverContent}
use Rattle.drv_table.specs.Words.{head_block}
use Rattle.claims_driver.specs.InPlace.{AreFixed}
use Rattle.claims_driver.specs.Walk.{IsReached, at_head, at_member, at_waiting, at_rung, LeadsOn, IsCopyIn, IsWalkIn}
use Rattle.law_driver_ring.specs.walk_members.Reached.{AreNoHeads}
use Rattle.law_driver_ring.proofs.lemmas.walk_members.Leading.{among_front}
use Rattle.law_driver_ring.proofs.lemmas.walk_members.Decoding.{read_link, read_head}
use Rattle.law_queues.specs.reached_rings.Reaching.{is_reached}
use Rattle.law_queues.proofs.lemmas.reached_rings.Computing.{is_reached_reached}
use Rattle.law_microframes.specs.visits.Ranks.{name_of, next_of}
use Rattle.law_microframes.specs.time.Heights.{head_at, LinksFall, AreFalling}
use Rattle.law_microframes.specs.time.Rounds.{round_read, dropped, round_by, link_from, link_ahead, IsNewest, IsBehind}

-- ---- the same in hand, and the same cursor

-- the same queue head is in hand, with the same link
abbrev SameHand : Option Held → Option Held → Type 0
SameHand None None = Unit {0}
SameHand None (Some k) = ⊥
SameHand (Some h) None = ⊥
SameHand (Some h) (Some k) = (k.at ≡ h.at) × (k.queue_head.link ≡ h.queue_head.link)

same_hand : (o : Option Held) → SameHand o o
same_hand None = tt
same_hand (Some h) = (refl, refl)

link_from_same : (o p : Option Held) (l m : Link) → SameHand o p → m ≡ l → link_from p m ≡ link_from o l
link_from_same None None l m same cursor = cursor
link_from_same None (Some k) l m same cursor = absurd same
link_from_same (Some h) None l m same cursor = absurd same
link_from_same (Some h) (Some k) l m same cursor = ap link_of same.1

none_some : {A : Type 0} (x : A) → None ≡ Some x → ⊥
none_some x e = cc

-- ---- the head alone has the bit H

fixed_at : (m : Mem) (d : DriverContent) (rings : Bool) (b : ℕ) → AreFixed m d → AreNoHeads d → IsReached d rings b → (b ≡ head_block) ⊎ (is_set 15 (word_at m (32 * b + 4)) ≡ false)
fixed_at m d rings b fixed none (at_head h) = inl h
fixed_at m d rings b fixed none (at_member e at on) =
    inr (subst (λ k. is_set 15 (word_at m (32 * k + 4)) ≡ false) at.queue (ap (is_set 15) (fixed.each e at.endpoint at.here (inl on)).characteristics ∙ none e at.endpoint at.here))
fixed_at m d rings b fixed none (at_waiting e at among) =
    inr
    (subst (λ k. is_set 15 (word_at m (32 * k + 4)) ≡ false) at.queue
    (ap (is_set 15) (fixed.each e at.endpoint at.here (inr (among_later e d.rung d.waiting among))).characteristics ∙ none e at.endpoint at.here))
fixed_at m d rings b fixed none (at_rung e at among on) =
    inr
    (subst (λ k. is_set 15 (word_at m (32 * k + 4)) ≡ false) at.queue
    (ap (is_set 15) (fixed.each e at.endpoint at.here (inr (among_front e d.rung d.waiting among))).characteristics ∙ none e at.endpoint at.here))

-- what a fetch finds
record Finds (m : Mem) (d : DriverContent) (r : RegisterFile) (walk : Walk) (a : ℕ) (q : Qh) : Type 0 where
  empty : walk.held ≡ None
  cursor : cursor_link r walk.cursor ≡ links.Qh a
  reached : is_reached d r.doorbell a ≡ true
  next : (k : ℕ) → link_of q.link ≡ links.Qh k → next_of m a ≡ Some k
  other : a ≢ head_at → q.head ≡ false

abbrev FoundBy : Mem → DriverContent → RegisterFile → Walk → WalkRow → Type 0
FoundBy m d r walk (rows.Fetch a q) = Finds m d r walk a q
FoundBy m d r walk rows.HeadEnds = walk.held ≡ None
FoundBy m d r walk rows.OutOfTime = (h : Held) × (walk.held ≡ Some h)
FoundBy m d r walk rows.Fault = Unit {0}
FoundBy m d r walk rows.Skip = Unit {0}
FoundBy m d r walk (rows.Advance a t) = Unit {0}
FoundBy m d r walk (rows.Transact t) = Unit {0}
FoundBy m d r walk rows.WriteBack = Unit {0}

next_read : (m : Mem) (b k : ℕ) (q : Qh) → queue_head_at_address m (32 * b) ≡ Some q → link_of q.link ≡ links.Qh k → next_of m (32 * b) ≡ Some k
unfolding link_read
next_read m b k q there leads = ap name_of (ap link_of (sym (read_link m b q there)) ∙ leads)

no_head : (m : Mem) (d : DriverContent) (rings : Bool) (b : ℕ) (q : Qh) → queue_head_at_address m (32 * b) ≡ Some q → AreFixed m d → AreNoHeads d → IsReached d rings b → 32 * b ≢ head_at → q.head ≡ false
no_head m d rings b q there fixed none reached other =
    ⊎_elim (λ (h : b ≡ head_block). absurd (other (ap (λ (x : ℕ). 32 * x) h))) (λ (off : is_set 15 (word_at m (32 * b + 4)) ≡ false). read_head m b q there ∙ off)
    (fixed_at m d rings b fixed none reached)

module _ (p : WalkPlace) (d : DriverContent) (walk : IsWalkIn d p.registers p.walk) (fixed : AreFixed p.memory d) (none : AreNoHeads d) where
  abbrev Found : WalkRow → Type 0
  Found row = FoundBy p.memory d p.registers p.walk row

  fetched_found : (b : ℕ) (o : Option Qh) → p.walk.held ≡ None → cursor_link p.registers p.walk.cursor ≡ links.Qh (32 * b) → queue_head_at_address p.memory (32 * b) ≡ o
      → IsReached d p.registers.doorbell b → Found (fetch_row p.registers.reclamation (32 * b) o)
  fetched_found b None empty cursor there reached = tt
  fetched_found b (Some q) empty cursor there reached = at (q.head && not p.registers.reclamation)
    where
      at : (x : Bool) → FoundBy p.memory d p.registers p.walk (cond x rows.HeadEnds (rows.Fetch (32 * b) q))
      at true = empty
      at false = record {
        empty = empty;
        cursor = cursor;
        reached = is_reached_reached d p.registers.doorbell b reached;
        next = λ k leads. next_read p.memory b k q there leads;
        other = λ other. no_head p.memory d p.registers.doorbell b q there fixed none reached other;
      }

  taken_found : (a : ℕ) (o : Option Qtd) → Found (taken_row a o)
  taken_found a None = tt
  taken_found a (Some t) = at t.token.active
    where
      at : (x : Bool) → FoundBy p.memory d p.registers p.walk (cond x (rows.Advance a t) rows.Skip)
      at true = tt
      at false = tt

  visit_found : (h : Held) → p.walk.held ≡ Some h → (left : ℕ) (q : Qh) (v : Visit) → Found (visit_row p.memory left q v)
  visit_found h there left q visits.Rest = tt
  visit_found h there left q visits.Work = at (nat_lt left (planned q).price.0)
    where
      at : (x : Bool) → FoundBy p.memory d p.registers p.walk (work_row x (planned q))
      at true = (h, there)
      at false = tt
  visit_found h there left q (visits.Take qtd_links.End) = tt
  visit_found h there left q (visits.Take (qtd_links.To a)) = taken_found a (qtd_at_address p.memory a)

  held_found : (h : Held) → p.walk.held ≡ Some h → (left : ℕ) (q : Qh) (s : Option Outcome) → Found (held_row p.memory left q s)
  held_found h there left q None = visit_found h there left q (visit_of (may_work q) q)
  held_found h there left q (Some s) = tt

  row_found : (o : Option Held) → p.walk.held ≡ o → Found (row_at p o)
  row_found None empty =
      subst (λ (l : Link). FoundBy p.memory d p.registers p.walk (ring_row p.memory p.registers.reclamation l)) (sym walk.cursor.is)
      (fetched_found walk.cursor.block (queue_head_at_address p.memory (32 * walk.cursor.block)) empty walk.cursor.is refl walk.cursor.reached)
  row_found (Some h) there = held_found h there p.walk.left h.queue_head h.settled

-- ---- what stays of a copy and of the registers

reloaded_link : (mode : ReloadMode) (q : Qh) → (reloaded mode q).link ≡ q.link
unfolding reloaded
reloaded_link Reload q = refl
reloaded_link _ q = refl

advanced_link : (q : Qh) (a : ℕ) (t : Qtd) → (advanced q a t).link ≡ q.link
unfolding advanced
advanced_link q a t = refl

counted_link : (b : Bool) (host : HostSide) (q : Qh) → (counted_queue b (settled_queue host q)).link ≡ q.link
unfolding counted_queue settled_queue
counted_link b host q = refl

raised_same : (q : Qh) (o : Outcome) (r : RegisterFile) → ((raised q o r).doorbell ≡ r.doorbell) × ((raised q o r).async_list_address ≡ r.async_list_address)
unfolding raised
raised_same q o r = (refl, refl)

-- ---- the round goes on

module _ (d : DriverContent) (height : ℕ → ℕ) where
  -- unless the controller has stopped
  abbrev GoesOn : WalkPlace → List ℕ → Type 0
  GoesOn p vs = p.registers.run ≡ true → IsBehind d height p.registers p.walk vs

  newest_same : (r s : RegisterFile) (w v : Walk) (vs : List ℕ) (o p : Option Held) → w.held ≡ o → v.held ≡ p → SameHand o p → cursor_link s v.cursor ≡ cursor_link r w.cursor
      → IsBehind d height r w vs → (h : Held) → v.held ≡ Some h → IsNewest s v h vs
  newest_same r s w v vs None None old new same cursor b h there = absurd (none_some h (sym new ∙ there))
  newest_same r s w v vs None (Some k) old new same cursor b h there = absurd same
  newest_same r s w v vs (Some g) None old new same cursor b h there = absurd same
  newest_same r s w v vs (Some g) (Some k) old new same cursor b h there =
      let n : IsNewest r w g vs = b.in_hand g old in
      let at : g.at ≡ h.at = sym same.0 ∙ ap (λ (x : Held). x.at) (same_Some k h (sym new ∙ there)) in
      record { before = n.before; newest = n.newest ∙ ap (λ (a : ℕ). a ∷ n.before) at; cursor = cursor ∙ (n.cursor ∙ ap links.Qh at) }

  pub stays_behind : (r s : RegisterFile) (w v : Walk) (vs : List ℕ) → s.doorbell ≡ r.doorbell → s.async_list_address ≡ r.async_list_address → v.cursor ≡ w.cursor → SameHand w.held v.held
      → IsBehind d height r w vs → IsBehind d height s v vs
  stays_behind r s w v vs bell address cursor same b =
      let link : cursor_link s v.cursor ≡ cursor_link r w.cursor = ap (cursor_link s) cursor ∙ same_cursor r s w.cursor address in
      record {
        falling = b.falling;
        reached = subst (λ (x : Bool). AllByRecursion (λ n. is_reached d x n ≡ true) vs) (sym bell) b.reached;
        next = λ k is other. b.next k (sym (link_from_same w.held v.held (cursor_link r w.cursor) (cursor_link s v.cursor) same link) ∙ is) other;
        in_hand = newest_same r s w v vs w.held v.held refl refl same link b;
      }

  -- with the same walk
  pub registers_behind : (r s : RegisterFile) (w : Walk) (vs : List ℕ) → s.doorbell ≡ r.doorbell → s.async_list_address ≡ r.async_list_address → IsBehind d height r w vs → IsBehind d height s w vs
  registers_behind r s w vs bell address b = stays_behind r s w w vs bell address refl (same_hand w.held) b

  -- nothing is in hand, and it is let go
  pub empty_behind : (r : RegisterFile) (w v : Walk) (vs : List ℕ) → w.held ≡ None → v.held ≡ None → v.cursor ≡ w.cursor → IsBehind d height r w vs → IsBehind d height r v vs
  empty_behind r w v vs old new cursor b = stays_behind r r w v vs refl refl cursor (subst (λ (o : Option Held). SameHand o v.held) (sym old) (subst (SameHand None) (sym new) tt)) b

  -- the cursor goes on to where the copy leads
  passed_on : (r : RegisterFile) (w : Walk) (o : Option Held) (vs : List ℕ) → w.held ≡ o → IsBehind d height r w vs → IsBehind d height r (passed_walk w o) vs
  passed_on r w None vs there b = b
  passed_on r w (Some h) vs there b = record {
    falling = b.falling;
    reached = b.reached;
    next = λ k is other. b.next k (ap (λ (o : Option Held). link_from o (cursor_link r w.cursor)) there ∙ is) other;
    in_hand = λ g now. absurd (none_some g now);
  }

  fault_on : (p : WalkPlace) (vs : List ℕ) → GoesOn (faulted p) vs
  fault_on p vs on = absurd (false≢true on)

  took_on : (p : WalkPlace) (a : ℕ) (t : Qtd) (o : Option Held) (vs : List ℕ) → p.walk.held ≡ o → IsBehind d height p.registers p.walk vs → GoesOn (took a t p o) vs
  took_on p a t None vs there b = λ on. b
  took_on p a t (Some h) vs there b = at (reaches_queue_head p.memory h.at)
    where
      at : (x : Bool)
          → GoesOn (cond x (record p { memory = overlay_after p.memory h.at (advanced h.queue_head a t); walk = record p.walk { held = Some (record h { queue_head = advanced h.queue_head a t }) } })
          (faulted (record p { memory = overlay_after p.memory h.at (advanced h.queue_head a t) }))) vs
      at true on =
          stays_behind p.registers p.registers p.walk (record p.walk { held = Some (record h { queue_head = advanced h.queue_head a t }) }) vs refl refl refl
          (subst (λ (o : Option Held). SameHand o (Some (record h { queue_head = advanced h.queue_head a t }))) (sym there) (refl, advanced_link h.queue_head a t)) b
      at false on = absurd (false≢true on)

  wrote_at : (p : WalkPlace) (x : Bool) (q : Qh) (outcome : Outcome) (vs : List ℕ) → IsBehind d height p.registers p.walk vs → GoesOn (wrote_place x q outcome p) vs
  wrote_at p true q outcome vs b on =
      let s = raised_same q outcome p.registers in
      passed_on (raised q outcome p.registers) p.walk p.walk.held vs refl (registers_behind p.registers (raised q outcome p.registers) p.walk vs s.0 s.1 b)
  wrote_at p false q outcome vs b on = absurd (false≢true on)

  wrote_on : (p : WalkPlace) (o : Option Held) (vs : List ℕ) → IsBehind d height p.registers p.walk vs → GoesOn (wrote p o) vs
  wrote_on p None vs b = λ on. b
  wrote_on p (Some h) vs b = by h.settled
    where
      by : (s : Option Outcome) → GoesOn (wrote_settled p h s) vs
      by None = λ on. b
      by (Some outcome) =
          wrote_at (record p { memory = (writing h outcome p.walk.reply p.memory).memory }) (writing h outcome p.walk.reply p.memory).all h.queue_head outcome vs b

  sends_on : {W : Type 0} (transacts : W → Ask → List ℕ → Reply → W → Type 0) (p : WalkPlace) (t : Transaction) (o : Option Held) (vs : List ℕ) (before : W) (new : WalkPlace) (after : W)
      → p.walk.held ≡ o → IsBehind d height p.registers p.walk vs → Sends transacts t p o before new after → GoesOn new vs
  sends_on transacts p t None vs before new after there b leads = subst (λ (n : WalkPlace). GoesOn n vs) (sym leads.0) (λ on. b)
  sends_on transacts p t (Some h) vs before new after there b leads = by (sending t h.queue_head p.memory).all leads
    where
      by : (x : Bool) → SentAt transacts x t h (sending t h.queue_head p.memory) p before new after → GoesOn new vs
      by true made =
          subst (λ (n : WalkPlace). GoesOn n vs) (sym made.place)
          (λ on. stays_behind p.registers (after_reclamation p.registers true) p.walk _ vs refl refl refl
          (subst (λ (o : Option Held). SameHand o (Some (ring_copy t (sending t h.queue_head p.memory).bytes made.reply h))) (sym there) (refl, counted_link _ _ h.queue_head)) b)
      by false made = subst (λ (n : WalkPlace). GoesOn n vs) (sym made.0) (λ on. absurd (false≢true on))

  -- ---- the head of the ring is read, or another queue head

  fetched_bell : (r : RegisterFile) (x : Bool) → x ≡ false → (fetched_registers x r).doorbell ≡ r.doorbell
  fetched_bell r false is = refl
  fetched_bell r true is = absurd (false≢true (sym is))

  module _ (m : Mem) (p : WalkPlace) (falls : LinksFall m d p.registers.doorbell height) (a : ℕ) (q : Qh) (found : Finds m d p.registers p.walk a q) (vs : List ℕ)
      (b : IsBehind d height p.registers p.walk vs) where
    abbrev now : RegisterFile
    now = fetched_registers q.head p.registers

    abbrev later : Walk
    later = fetched_walk a q p.walk

    lower : (k : ℕ) → link_ahead (fetched_registers q.head p.registers) (fetched_walk a q p.walk) ≡ links.Qh k → k ≢ head_at → height k < height a
    lower k is other = falls.falls a k found.reached (found.next k (sym (ap link_of (reloaded_link (mode_after q p.walk.mode) q)) ∙ is)) other

    newest : (before : List ℕ) (xs : List ℕ) → xs ≡ a ∷ before → (h : Held) → (fetched_walk a q p.walk).held ≡ Some h → IsNewest (fetched_registers q.head p.registers) (fetched_walk a q p.walk) h xs
    newest before xs is h there =
        let at : a ≡ h.at = ap (λ (x : Held). x.at) (same_Some (record { at = a; queue_head = reloaded (mode_after q p.walk.mode) q; settled = None }) h there) in
        record { before = before; newest = is ∙ ap (λ (x : ℕ). x ∷ before) at; cursor = ap links.Qh at }

    head_on : a ≡ head_at → IsBehind d height (fetched_registers q.head p.registers) (fetched_walk a q p.walk) (head_at ∷ [])
    head_on is = record {
      falling = (tt, tt);
      reached = (refl, tt);
      next = λ k ahead other. (subst (λ (x : ℕ). height k < height x) is (lower k ahead other), tt);
      in_hand = newest [] (head_at ∷ []) (ap (λ (x : ℕ). x ∷ []) (sym is));
    }

    other_on : a ≢ head_at → IsBehind d height (fetched_registers q.head p.registers) (fetched_walk a q p.walk) (a ∷ vs)
    other_on other =
        let bell : (fetched_registers q.head p.registers).doorbell ≡ p.registers.doorbell = fetched_bell p.registers q.head (found.other other) in
        let below : AllByRecursion (λ v. height a < height v) vs
        = b.next a (ap (λ (o : Option Held). link_from o (cursor_link p.registers p.walk.cursor)) found.empty ∙ found.cursor) other in
        record {
          falling = (below, b.falling);
          reached = subst (λ (x : Bool). AllByRecursion (λ n. is_reached d x n ≡ true) (a ∷ vs)) (sym bell) (found.reached, b.reached);
          next = λ k ahead different. (lower k ahead different, all_higher height k a vs (lower k ahead different) below);
          in_hand = newest vs (a ∷ vs) refl;
        }

    read_by : (x : Bool) → (a == head_at) ≡ x → IsBehind d height (fetched_registers q.head p.registers) (fetched_walk a q p.walk) (if x then head_at ∷ [] else a ∷ vs)
    read_by true is = head_on (eqb-true a head_at is)
    read_by false is = other_on (λ same. false≢true (sym is ∙ eq-eqb a head_at same))

    fetch_on : IsBehind d height (fetched_registers q.head p.registers) (fetched_walk a q p.walk) (round_read a vs)
    fetch_on = read_by (a == head_at) refl

  -- the head is read, and the part ends
  head_ends : (p : WalkPlace) → IsWalkIn d p.registers p.walk → p.walk.held ≡ None → IsBehind d height (head_read p.registers) (restarted p.walk) (head_at ∷ [])
  head_ends p walk empty = record {
    falling = (tt, tt);
    reached = (refl, tt);
    next = λ k ahead other.
        absurd
        (other
        (sym (link_name _ k (sym (ap (λ (o : Option Held). link_from o (links.Qh (head_read p.registers).async_list_address)) empty) ∙ ahead))
        ∙ (head_address p.registers p.registers.doorbell ∙ walk.start)));
    in_hand = λ h there. absurd (none_some h (sym empty ∙ there));
  }
    where
      link_name : (x k : ℕ) → links.Qh x ≡ links.Qh k → x ≡ k
      link_name x k e = cc

  -- no time is left: the visit isn't one
  late_on : (p : WalkPlace) (h : Held) (vs : List ℕ) → p.walk.held ≡ Some h → IsBehind d height p.registers p.walk vs → IsBehind d height p.registers (stopped p.walk) (dropped vs)
  late_on p h vs there b =
      let n : IsNewest p.registers p.walk h vs = b.in_hand h there in
      let falling : AreFalling height (h.at ∷ n.before) = subst (AreFalling height) n.newest b.falling in
      let reached : AllByRecursion (λ v. is_reached d p.registers.doorbell v ≡ true) (h.at ∷ n.before)
      = subst (AllByRecursion (λ v. is_reached d p.registers.doorbell v ≡ true)) n.newest b.reached in
      subst (λ (xs : List ℕ). IsBehind d height p.registers (stopped p.walk) (dropped xs)) (sym n.newest)
      (record {
        falling = falling.1;
        reached = reached.1;
        next = λ k ahead other. subst (λ (x : ℕ). AllByRecursion (λ v. height x < height v) n.before) (link_name h.at k (sym n.cursor ∙ ahead)) falling.0;
        in_hand = λ g now. absurd (none_some g now);
      })
    where
      link_name : (x k : ℕ) → links.Qh x ≡ links.Qh k → x ≡ k
      link_name x k e = cc

  -- ---- each row

  module _ {W : Type 0} (transacts : W → Ask → List ℕ → Reply → W → Type 0) where
    leads_on : (m : Mem) (row : WalkRow) (p : WalkPlace) (vs : List ℕ) (before : W) (new : WalkPlace) (after : W) → LinksFall m d p.registers.doorbell height → IsWalkIn d p.registers p.walk
        → FoundBy m d p.registers p.walk row → IsBehind d height p.registers p.walk vs → Leads transacts row p before new after → GoesOn new (round_by row vs)
    leads_on m rows.Fault p vs before new after falls walk found b leads = subst (λ (n : WalkPlace). GoesOn n vs) (sym leads.0) (fault_on p vs)
    leads_on m rows.HeadEnds p vs before new after falls walk found b leads = subst (λ (n : WalkPlace). GoesOn n (head_at ∷ [])) (sym leads.0) (λ on. head_ends p walk found)
    leads_on m (rows.Fetch a q) p vs before new after falls walk found b leads =
        subst (λ (n : WalkPlace). GoesOn n (round_read a vs)) (sym leads.0) (λ on. fetch_on m p falls a q found vs b)
    leads_on m rows.Skip p vs before new after falls walk found b leads = subst (λ (n : WalkPlace). GoesOn n vs) (sym leads.0) (λ on. passed_on p.registers p.walk p.walk.held vs refl b)
    leads_on m rows.OutOfTime p vs before new after falls walk found b leads = subst (λ (n : WalkPlace). GoesOn n (dropped vs)) (sym leads.0) (λ on. late_on p found.0 vs found.1 b)
    leads_on m (rows.Advance a t) p vs before new after falls walk found b leads = subst (λ (n : WalkPlace). GoesOn n vs) (sym leads.0) (took_on p a t p.walk.held vs refl b)
    leads_on m (rows.Transact t) p vs before new after falls walk found b leads = sends_on transacts p t p.walk.held vs before new after refl b leads
    leads_on m rows.WriteBack p vs before new after falls walk found b leads = subst (λ (n : WalkPlace). GoesOn n vs) (sym leads.0) (wrote_on p p.walk.held vs b)

    started_same : (r : RegisterFile) (x : Bool) → ((cond x (after_reclamation r true) r).doorbell ≡ r.doorbell) × ((cond x (after_reclamation r true) r).async_list_address ≡ r.async_list_address)
    started_same r true = (refl, refl)
    started_same r false = (refl, refl)

    started_in : (p : WalkPlace) → IsWalkIn d p.registers p.walk → IsWalkIn d (started p).registers (started p).walk
    started_in p walk =
        let same = started_same p.registers p.walk.first in
        record {
          start = same.1 ∙ walk.start;
          cursor = subst (λ (x : Bool). LeadsOn d x (cursor_link (started p).registers p.walk.cursor)) (sym same.0)
              (record { block = walk.cursor.block; is = same_cursor p.registers (started p).registers p.walk.cursor same.1 ∙ walk.cursor.is; reached = walk.cursor.reached });
          copy = λ h there. subst (λ (x : Bool). IsCopyIn d x h) (sym same.0) (walk.copy h there);
        }

    pub event_on : (p : WalkPlace) (vs : List ℕ) (before : W) (new : WalkPlace) (after : W) → LinksFall p.memory d p.registers.doorbell height → IsWalkIn d p.registers p.walk → AreFixed p.memory d → AreNoHeads d → IsBehind d height p.registers p.walk vs → Leads transacts (event_row p) (at_event p) before new after
        → new.registers.run ≡ true → IsBehind d height new.registers new.walk (round_by (event_row p) vs)
    event_on p vs before new after falls walk fixed none b leads =
        let same = started_same p.registers p.walk.first in
        leads_on p.memory (event_row p) (at_event p) vs before new after (subst (λ (x : Bool). LinksFall p.memory d x height) (sym same.0) falls) (started_in p walk)
        (row_found (started p) d (started_in p walk) fixed none p.walk.held refl)
        (stays_behind p.registers (started p).registers p.walk (started p).walk vs same.0 same.1 refl (same_hand p.walk.held) b) leads
