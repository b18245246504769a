-- Each event, by what is in hand.
use Rattle.std.proofs.Common.{◌≡◌, ℕ, nat_lt, Bool, true, false, if◌then◌else◌, List, Some, ap, refl, subst, ◌∙◌}
use Rattle.usb_base.specs.declared.packets.Ask.{Ask}
use Rattle.usb_base.specs.declared.packets.Reply.{Reply}
use Rattle.link_words.specs.declared.kinds.QtdLink.{QtdLink}
use Rattle.link_words.specs.declared.kinds.QtdLink.TheVariants as qtd_links
use Rattle.link_words.specs.Links.{qtd_link_of}
use Rattle.qh_qtd.specs.declared.qtd.Qtd.{Qtd}
use Rattle.qh_qtd.specs.declared.queue_head.Qh.{Qh}
use Rattle.hc_copy.specs.declared.held.Visit.{Visit}
use Rattle.hc_copy.specs.declared.held.Visit.TheVariants as visits
use Rattle.hc_copy.specs.Visits.{next_pointer, visit_of}
use Rattle.async_walk.specs.declared.rows.WalkRow.TheVariants as rows
use Rattle.async_walk.specs.Naks.{may_work, planned}
use Rattle.async_walk.specs.Rows.{WalkPlace, started, row_at, walk_row, work_row, taken_row, take_row, visit_row, read_at, take_read, visit_read, was_read, at_event, event_row, step_of, Leads}
use Rattle.law_structures.specs.lent_structures.Structures.{Element, StructureSets}
use Rattle.law_structures.proofs.lemmas.lent_structures.Reading.{element_read, element_not_refused}
use Rattle.law_structures.specs.lent_structures.Sound.{LeadsOn, IsWorking, IsSoundQueue, IsMember}
use Rattle.law_structures.proofs.lemmas.lent_structures.Altering.{found_queue}
use Rattle.law_ring.specs.Hand.{Copy, copied_queue, Hand, Empty, Copied, Settled, Stale}
use Rattle.claims_base.specs.Controller.{Base}
use Rattle.law_ring.specs.Ring.{IsRing}
use Rattle.law_ring.specs.Effects.{AreBytesHeard, Happens}
use Rattle.law_ring.proofs.Ringing.{ring_started, same_memory, happens_at}
use Rattle.law_ring.proofs.Fetching.{empty_event}
use Rattle.law_ring.proofs.Visiting.{VisitOf, rests, works, takes, visit_found, halted_rests, skip_event, late_event, stale_event}
use Rattle.law_ring.proofs.Taking.{take_event}
use Rattle.law_ring.proofs.Making.{make_event}
use Rattle.law_ring.proofs.Writing.{write_event}

module _ {W : Type 0} (transacts : W → Ask → List ℕ → Reply → W → Type 0) (base : Base) (member : ℕ → Bool) (parts : StructureSets) (wire after : W) where
  -- the queue head of the copy in hand is sound
  copied_sound : (s : WalkPlace) (c : Copy) → IsRing base member parts (Copied c) s → IsSoundQueue (parts c.at) c.queue
  copied_sound s c k =
      let m : IsMember member c.at (parts c.at) = k.members c.at k.in_hand.on in
      subst (IsSoundQueue (parts c.at)) (found_queue (parts c.at c.at) m.queue c.queue m.here k.in_hand.here) m.sound

  -- the qTD that would be taken is active, or not
  taken_by : (s new : WalkPlace) (c : Copy) (a : ℕ) (t : Qtd) (b : Bool) → t.token.active ≡ b → IsRing base member parts (Copied c) s → c.queue.token.halted ≡ false → c.queue.token.active ≡ false → qtd_link_of (next_pointer c.queue) ≡ qtd_links.To a → parts c.at a ≡ Some (Element t) → Leads transacts (if b then rows.Advance a t else rows.Skip) s wire new after → Happens transacts base member parts (Copied c) wire after new (step_of (if b then rows.Advance a t else rows.Skip) s)
  taken_by s new c a t true on k off idle leads here lead = take_event transacts base member parts wire after s new c a t k off idle leads here on lead
  taken_by s new c a t false on k off idle leads here lead = skip_event transacts base member parts wire after s new c k lead

  take_by : (s new : WalkPlace) (c : Copy) (l : QtdLink) → qtd_link_of (next_pointer c.queue) ≡ l → LeadsOn (parts c.at) l → IsRing base member parts (Copied c) s → c.queue.token.halted ≡ false → c.queue.token.active ≡ false → walk_row s ≡ take_row s.memory l → read_at s s.walk.held ≡ take_read s.memory l
      → Leads transacts (walk_row s) (was_read s) wire new after → Happens transacts base member parts (Copied c) wire after new (step_of (walk_row s) (was_read s))
  take_by s new c qtd_links.End leads on k off idle row read lead =
      happens_at transacts base member parts (Copied c) wire after s new rows.Skip row (same_memory s (read_at s s.walk.held) read) (skip_event transacts base member parts wire after s new c k) lead
  take_by s new c (qtd_links.To a) leads on k off idle row read lead =
      happens_at transacts base member parts (Copied c) wire after s new (taken_row a (Some on.qtd))
      (row ∙ ap (taken_row a) (element_read s.memory parts c.at a on.qtd k.tells on.here))
      (same_memory s (read_at s s.walk.held) (read ∙ element_not_refused s.memory parts c.at a on.qtd k.tells on.here))
      (taken_by s new c a on.qtd on.qtd.token.active refl k off idle leads on.here) lead

  work_by : (s new : WalkPlace) (c : Copy) (b : Bool) → IsRing base member parts (Copied c) s → AreBytesHeard transacts wire after → c.queue.token.active ≡ true → Leads transacts (work_row b (planned (copied_queue c))) s wire new after → Happens transacts base member parts (Copied c) wire after new (step_of (work_row b (planned (copied_queue c))) s)
  work_by s new c true k heard on lead = late_event transacts base member parts wire after s new c k lead
  work_by s new c false k heard on lead =
      let m : IsMember member c.at (parts c.at) = k.members c.at k.in_hand.on in
      let w : IsWorking (parts c.at) c.queue = (copied_sound s c k).work on in
      make_event transacts base member parts wire after s new c k heard on w ((m.elements c.queue.current w.element w.here).work w.published) lead

  visit_by : (s new : WalkPlace) (c : Copy) (v : Visit) → VisitOf (copied_queue c) v → IsRing base member parts (Copied c) s → AreBytesHeard transacts wire after → walk_row s ≡ visit_row s.memory s.walk.left (copied_queue c) v → read_at s s.walk.held ≡ visit_read s.memory v
      → Leads transacts (walk_row s) (was_read s) wire new after → Happens transacts base member parts (Copied c) wire after new (step_of (walk_row s) (was_read s))
  visit_by s new c v rests k heard row read lead =
      happens_at transacts base member parts (Copied c) wire after s new rows.Skip row (same_memory s (read_at s s.walk.held) read) (skip_event transacts base member parts wire after s new c k) lead
  visit_by s new c v (works off on) k heard row read lead =
      happens_at transacts base member parts (Copied c) wire after s new (work_row (nat_lt s.walk.left (planned (copied_queue c)).price.0) (planned (copied_queue c))) row (same_memory s (read_at s s.walk.held) read)
      (work_by s new c (nat_lt s.walk.left (planned (copied_queue c)).price.0) k heard on) lead
  visit_by s new c v (takes off idle) k heard row read lead =
      take_by s new c (qtd_link_of (next_pointer (copied_queue c))) refl
      ((copied_sound s c k).rest off idle) k off idle row read lead

  one_event : (s new : WalkPlace) (hand : Hand) → IsRing base member parts hand s → AreBytesHeard transacts wire after → Leads transacts (walk_row s) (was_read s) wire new after → Happens transacts base member parts hand wire after new (step_of (walk_row s) (was_read s))
  one_event s new Empty k heard lead = empty_event transacts base member parts wire after s new k lead
  one_event s new (Copied c) k heard lead =
      let x : Qh = copied_queue c in
      visit_by s new c (visit_of (may_work x) x) (visit_found x (may_work x) x.token.halted x.token.active refl refl) k heard (ap (row_at s) k.held) (ap (read_at s) k.held) lead
  one_event s new (Settled c z) k heard lead =
      happens_at transacts base member parts (Settled c z) wire after s new rows.WriteBack (ap (row_at s) k.held) (same_memory s (read_at s s.walk.held) (ap (read_at s) k.held))
      (write_event transacts base member parts wire after s new c z k) lead
  one_event s new (Stale n q) k heard lead =
      let rest : visit_of (may_work q) q ≡ visits.Rest = halted_rests q (may_work q) q.token.halted q.token.active (qtd_link_of (next_pointer q)) k.in_hand.halted in
      happens_at transacts base member parts (Stale n q) wire after s new rows.Skip (ap (row_at s) k.held ∙ ap (visit_row s.memory s.walk.left q) rest)
      (same_memory s (read_at s s.walk.held) (ap (read_at s) k.held ∙ ap (visit_read s.memory) rest)) (stale_event transacts base member parts wire after s new n q k) lead

pub each_event : {W : Type 0} (transacts : W → Ask → List ℕ → Reply → W → Type 0) (base : Base) (member : ℕ → Bool) (parts : StructureSets) (hand : Hand) (p : WalkPlace) (wire : W) (new : WalkPlace) (after : W) → IsRing base member parts hand p → AreBytesHeard transacts wire after
    → Leads transacts (event_row p) (at_event p) wire new after → Happens transacts base member parts hand wire after new (step_of (event_row p) (at_event p))
each_event transacts base member parts hand p wire new after k heard lead = one_event transacts base member parts wire after (started p) new hand (ring_started base member parts hand p k) heard lead
