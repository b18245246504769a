-- The copy in hand takes a published qTD: its overlay is written, and then works on that qTD.
use Rattle.std.proofs.Common.{◌≡◌, ◌≢◌, ℕ, Bool, true, false, if◌then◌else◌, List, take, Some, None, ap, refl, sym, subst, ◌∙◌, arith}
use Rattle.std.proofs.lemmas.Bool.{true≢false}
use Rattle.usb_base.specs.declared.packets.Ask.{Ask}
use Rattle.usb_base.specs.declared.packets.Reply.{Reply}
use Rattle.link_words.specs.declared.kinds.QtdLink.TheVariants as qtd_links
use Rattle.link_words.specs.Links.{qtd_link_of}
use Rattle.qh_qtd.specs.declared.qtd.Qtd.{Qtd}
use Rattle.qh_qtd.specs.declared.queue_head.Qh.{Qh}
use Rattle.qh_qtd.specs.QueueHead.{qh_words, IsQhInRange}
use Rattle.hc_copy.specs.Visits.{next_pointer}
use Rattle.hc_copy.specs.Overlay.{advanced}
use Rattle.hc_copy.specs.WriteBack.{overlay_after}
use Rattle.hc_copy.proofs.Ranges.{advanced_in_range}
use Rattle.async_walk.specs.declared.rows.WalkRow.TheVariants as rows
use Rattle.async_walk.specs.declared.state.WalkStep.{WalkStep}
use Rattle.async_walk.specs.declared.state.WalkStep.TheVariants as steps
use Rattle.async_walk.specs.Rows.{WalkPlace, step_of, Leads, took, took_step, faulted}
use Rattle.law_structures.specs.lent_structures.Structures.{QueueHead, Element, Structures, StructureSets, put, HoldsElement, Tells}
use Rattle.law_structures.specs.lent_structures.Changes.{relinked}
use Rattle.law_structures.proofs.lemmas.lent_structures.Names.{put_here, put_beside, put_same, put_else}
use Rattle.law_structures.proofs.lemmas.lent_structures.Reading.{head_reached}
use Rattle.law_structures.proofs.lemmas.lent_structures.Writing.{overlay_is_told}
use Rattle.law_structures.specs.lent_structures.Sound.{IsReady, IsSoundElement, IsWorking, IsSoundQueue, LeadsAmong, IsMember}
use Rattle.law_structures.specs.lent_structures.Alters.{Alters}
use Rattle.law_structures.proofs.lemmas.lent_structures.Altering.{found_queue, no_two, a_queue_head_alters_nothing}
use Rattle.law_structures.proofs.lemmas.lent_structures.Members.{an_altered_part_is_sound}
use Rattle.law_ring.specs.Hand.{Copy, copied_queue, Copied}
use Rattle.claims_base.specs.Controller.{Base}
use Rattle.law_ring.specs.Ring.{IsRing}
use Rattle.law_ring.specs.Effects.{taken, Happens}
use Rattle.law_ring.specs.Effects.Effect.{takes}
use Rattle.law_ring.proofs.Ringing.{cursor_same, members_after}

-- ---- the queue head that is written

front_advanced : (c : Copy) (a : ℕ) (t : Qtd) → take 3 (qh_words (relinked c.queue (advanced (copied_queue c) a t))) ≡ take 3 (qh_words c.queue)
unfolding advanced qh_words
front_advanced c a t = refl

advanced_relinked : (c : Copy) (a : ℕ) (t : Qtd) → relinked c.queue (advanced (copied_queue c) a t) ≡ advanced c.queue a t
unfolding advanced
advanced_relinked c a t = refl

-- and the copy of it
taken_copy : (c : Copy) (a : ℕ) (t : Qtd) → advanced (copied_queue c) a t ≡ copied_queue (taken c a t)
unfolding advanced
taken_copy c a t = refl

link_advanced : (q : Qh) (a : ℕ) (t : Qtd) → (advanced q a t).link ≡ q.link
unfolding advanced
link_advanced q a t = refl

-- ---- it works on the qTD

working : (part now : Structures) (q : Qh) (a : ℕ) (t : Qtd) → now a ≡ Some (Element t) → t.token.active ≡ true → IsReady part t → IsWorking now (advanced q a t)
unfolding advanced
working part now q a t here on ready = record {
  element = t;
  here = here;
  published = on;
  goes_on = ready.goes_on;
  pid = refl;
  pages = refl;
  next = refl;
  alternate = refl;
  fewer = omega arith;
  place = (let start = ready.start in omega (arith, start));
}

sound_advanced : (part now : Structures) (q : Qh) (a : ℕ) (t : Qtd) → now a ≡ Some (Element t) → t.token.active ≡ true → IsSoundElement part t → IsSoundQueue now (advanced q a t)
unfolding advanced
sound_advanced part now q a t here on sound = record {
  rest = λ off idle. absurd (true≢false (sym on ∙ idle));
  work = λ works. working part now q a t here on (sound.work on);
}

module _ {W : Type 0} (transacts : W → Ask → List ℕ → Reply → W → Type 0) (base : Base) (member : ℕ → Bool) (parts : StructureSets) (wire after : W) where
  abbrev taken_place : WalkPlace → Copy → ℕ → Qtd → WalkPlace
  taken_place s c a t = record s {
    memory = overlay_after s.memory c.at (advanced (copied_queue c) a t);
    walk = record s.walk { held = Some (record { at = c.at; queue_head = advanced (copied_queue c) a t; settled = None }) };
  }

  took_is : (s : WalkPlace) (c : Copy) (a : ℕ) (t : Qtd) → IsRing base member parts (Copied c) s → took a t s s.walk.held ≡ taken_place s c a t
  took_is s c a t k =
      let written : WalkPlace = record s { memory = overlay_after s.memory c.at (advanced (copied_queue c) a t) } in
      ap (took a t s) k.held
      ∙ ap (λ (b : Bool). if b then taken_place s c a t else faulted written) (head_reached s.memory parts c.at c.at c.queue k.tells k.in_hand.here)

  took_kind : (s : WalkPlace) (c : Copy) → IsRing base member parts (Copied c) s → took_step s.memory s.walk.held ≡ steps.Advance
  took_kind s c k =
      ap (took_step s.memory) k.held ∙ ap (λ (b : Bool). if b then steps.Advance else steps.Fault) (head_reached s.memory parts c.at c.at c.queue k.tells k.in_hand.here)

  abbrev taken_parts : Copy → ℕ → Qtd → StructureSets
  taken_parts c a t = put parts c.at c.at (QueueHead (advanced c.queue a t))

  taken_range : (s : WalkPlace) (c : Copy) (a : ℕ) (t : Qtd) → IsRing base member parts (Copied c) s → parts c.at a ≡ Some (Element t) → IsQhInRange (advanced (copied_queue c) a t)
  taken_range s c a t k here =
      let h : HoldsElement s.memory a t = k.tells.each c.at a (Element t) here in
      advanced_in_range (copied_queue c) a t k.in_hand.range h.aligned h.range

  taken_tells : (s : WalkPlace) (c : Copy) (a : ℕ) (t : Qtd) → IsRing base member parts (Copied c) s → parts c.at a ≡ Some (Element t) → Tells (overlay_after s.memory c.at (advanced (copied_queue c) a t)) (taken_parts c a t)
  unfolding overlay_after
  taken_tells s c a t k here =
      subst (λ (q : Qh). Tells (overlay_after s.memory c.at (advanced (copied_queue c) a t)) (put parts c.at c.at (QueueHead q))) (advanced_relinked c a t)
      (overlay_is_told s.memory parts c.at c.at c.queue (advanced (copied_queue c) a t) k.tells k.in_hand.here (taken_range s c a t k here) (front_advanced c a t))

  taken_member : (s : WalkPlace) (c : Copy) (a : ℕ) (t : Qtd) → IsRing base member parts (Copied c) s → parts c.at a ≡ Some (Element t) → t.token.active ≡ true → IsMember member c.at (taken_parts c a t c.at)
  taken_member s c a t k here on =
      let m : IsMember member c.at (parts c.at) = k.members c.at k.in_hand.on in
      let same : m.queue ≡ c.queue = found_queue (parts c.at c.at) m.queue c.queue m.here k.in_hand.here in
      let new : Qh = advanced c.queue a t in
      let alters : Alters (parts c.at) (taken_parts c a t c.at) = subst (Alters (parts c.at)) (sym (put_here parts c.at c.at (QueueHead new))) (a_queue_head_alters_nothing (parts c.at) c.at c.queue new k.in_hand.here) in
      let there = alters.element a t here in
      an_altered_part_is_sound member c.at (parts c.at) (taken_parts c a t c.at) new m alters (put_same parts c.at c.at (QueueHead new))
      (subst (LeadsAmong member) (sym (link_advanced c.queue a t)) (subst (λ (q : Qh). LeadsAmong member q.link) same m.link))
      (sound_advanced (parts c.at) (taken_parts c a t c.at) c.queue a t (still_there c a t (λ e. no_head c a t k.in_hand.here here e) here) on (m.elements a t here))
    where
      still_there : (c : Copy) (a : ℕ) (t : Qtd) → a ≢ c.at → parts c.at a ≡ Some (Element t) → taken_parts c a t c.at a ≡ Some (Element t)
      still_there c a t differs here = put_else parts c.at c.at (QueueHead (advanced c.queue a t)) a differs ∙ here

      no_head : (c : Copy) (a : ℕ) (t : Qtd) → parts c.at c.at ≡ Some (QueueHead c.queue) → parts c.at a ≡ Some (Element t) → a ≡ c.at → ⊥
      no_head c a t head element same = no_two (parts c.at) a c.at (Element t) (QueueHead c.queue) element head (λ e. cc) same

  taken_ring : (s : WalkPlace) (c : Copy) (a : ℕ) (t : Qtd) → IsRing base member parts (Copied c) s → parts c.at a ≡ Some (Element t) → t.token.active ≡ true → IsRing base member (taken_parts c a t) (Copied (taken c a t)) (taken_place s c a t)
  taken_ring s c a t k here on = record {
    tells = taken_tells s c a t k here;
    members = members_after member parts (taken_parts c a t) c.at (λ n differs. put_beside parts c.at c.at (QueueHead (advanced c.queue a t)) n differs) (taken_member s c a t k here on) k.members;
    registers = k.registers;
    start = k.start;
    cursor = cursor_same member s (taken_place s c a t) refl refl k.cursor;
    held = ap (λ (x : Qh). Some (record { at = c.at; queue_head = x; settled = None })) (taken_copy c a t);
    in_hand = record {
      on = k.in_hand.on;
      here = put_same parts c.at c.at (QueueHead (advanced c.queue a t));
      link = k.in_hand.link;
      range = subst IsQhInRange (taken_copy c a t) (taken_range s c a t k here);
    };
  }

  pub take_event : (s new : WalkPlace) (c : Copy) (a : ℕ) (t : Qtd) → IsRing base member parts (Copied c) s → c.queue.token.halted ≡ false → c.queue.token.active ≡ false → qtd_link_of (next_pointer c.queue) ≡ qtd_links.To a → parts c.at a ≡ Some (Element t) → t.token.active ≡ true → Leads transacts (rows.Advance a t) s wire new after → Happens transacts base member parts (Copied c) wire after new (step_of (rows.Advance a t) s)
  take_event s new c a t k off idle leads here on lead =
      subst (λ (step : WalkStep). Happens transacts base member parts (Copied c) wire after new step) (sym (took_kind s c k))
      (record {
        now = taken_parts c a t;
        later = Copied (taken c a t);
        ring = subst (IsRing base member (taken_parts c a t) (Copied (taken c a t))) (sym (lead.0 ∙ took_is s c a t k)) (taken_ring s c a t k here on);
        effect = takes (record { copy = c; in_hand = refl; idle = idle; goes_on = off; element = a; qtd = t; leads = leads; here = here; published = on; now_is = refl; later_is = refl }) lead.1;
      })
