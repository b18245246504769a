-- The queue head that is met is the one of which there is a copy; and a visit in which a qTD is taken.
use Rattle.std.proofs.Common.{◌≡◌, ℕ, true, take, Option, Some, ap, refl, sym, subst, ◌∙◌, arith}
use Rattle.std.proofs.lemmas.Bool.{true≢false}
use Rattle.word_mem.specs.Memory.{Mem}
use Rattle.link_words.specs.declared.fields.LinkBits.{LinkBits}
use Rattle.link_words.specs.Links.{link_of}
use Rattle.qh_qtd.specs.declared.qtd.Qtd.{Qtd}
use Rattle.qh_qtd.specs.declared.queue_head.Qh.{Qh}
use Rattle.qh_qtd.specs.QueueHead.{qh_words, IsQhInRange}
use Rattle.hc_copy.specs.Overlay.{advanced}
use Rattle.hc_copy.specs.WriteBack.{overlay_after}
use Rattle.hc_copy.proofs.Ranges.{advanced_in_range}
use Rattle.law_structures.specs.lent_structures.Structures.{QueueHead, Element, Structures, StructureSets, put, HoldsElement, Tells}
use Rattle.law_structures.specs.lent_structures.Changes.{relinked}
use Rattle.law_structures.proofs.lemmas.lent_structures.Names.{put_here, put_beside, put_same, put_else}
use Rattle.law_structures.proofs.lemmas.lent_structures.WrittenBack.{advance_is_told}
use Rattle.law_structures.specs.lent_structures.Sound.{IsReady, IsSoundElement, IsWorking, IsSoundQueue}
use Rattle.law_structures.specs.lent_structures.Alters.{Alters}
use Rattle.law_structures.proofs.lemmas.lent_structures.Altering.{found_queue, no_two, a_queue_head_alters_nothing}
use Rattle.law_ring.specs.Hand.{Copy, copied_queue, Hand, Copied}
use Rattle.law_ring.specs.Effects.{taken, Takes}
use Rattle.law_frames.specs.Met.{Kind, LeadsTo, IsQueuePart, IsMetQueue}
use Rattle.law_frames.proofs.Queues.{an_altered_queue_part_is_sound}
use Rattle.law_frames.specs.Visits.{IsQueueVisit, IsOnlyAt}

-- ---- the queue head

queue_same : (met : ℕ → Option Kind) (m : Mem) (parts : StructureSets) (c : Copy) (v : IsQueueVisit met m parts c) → v.met_is.part_is.queue ≡ c.queue
queue_same met m parts c v = found_queue (parts c.at c.at) v.met_is.part_is.queue c.queue v.met_is.part_is.here v.copied.here

pub sound_there : (met : ℕ → Option Kind) (m : Mem) (parts : StructureSets) (c : Copy) → IsQueueVisit met m parts c → IsSoundQueue (parts c.at) c.queue
sound_there met m parts c v = subst (IsSoundQueue (parts c.at)) (queue_same met m parts c v) v.met_is.part_is.sound

pub link_there : (met : ℕ → Option Kind) (m : Mem) (parts : StructureSets) (c : Copy) → IsQueueVisit met m parts c → LeadsTo met (link_of c.queue.link)
link_there met m parts c v = subst (λ (q : Qh). LeadsTo met (link_of q.link)) (queue_same met m parts c v) v.met_is.link

-- another queue head in its place, with the same link
pub met_after : (met : ℕ → Option Kind) (m : Mem) (parts : StructureSets) (c : Copy) (now : Structures) (new : Qh) → IsQueueVisit met m parts c → Alters (parts c.at) now → now c.at ≡ Some (QueueHead new) → new.link ≡ c.queue.link → IsSoundQueue now new → IsMetQueue met c.at now
met_after met m parts c now new v alters here link sound =
    let still : IsQueuePart c.at now = an_altered_queue_part_is_sound c.at (parts c.at) now new v.met_is.part_is alters here sound in
    record {
      part_is = record { queue = new; here = here; sound = sound; elements = still.elements; own = still.own };
      link = subst (λ (l : LinkBits). LeadsTo met (link_of l)) (sym link) (link_there met m parts c v);
    }

-- ---- a qTD is taken

advanced_relinked : (c : Copy) (a : ℕ) (t : Qtd) → relinked c.queue (advanced (copied_queue c) a t) ≡ advanced c.queue a t
unfolding advanced
advanced_relinked c a t = refl

-- and the copy of it
pub taken_copy : (c : Copy) (a : ℕ) (t : Qtd) → advanced (copied_queue c) a t ≡ copied_queue (taken c a t)
unfolding advanced
taken_copy c a t = refl

link_advanced : (q : Qh) (a : ℕ) (t : Qtd) → (advanced q a t).link ≡ q.link
unfolding advanced
link_advanced q a t = refl

copy_front : (c : Copy) → take 3 (qh_words (relinked c.queue (copied_queue c))) ≡ take 3 (qh_words c.queue)
unfolding qh_words
copy_front c = refl

-- it works on the qTD
working : (part now : Structures) (q : Qh) (a : ℕ) (t : Qtd) → now a ≡ Some (Element t) → t.token.active ≡ true → IsReady part t → IsWorking now (advanced q a t)
unfolding advanced
working part now q a t here on ready = record {
  element = t;
  here = here;
  published = on;
  goes_on = ready.goes_on;
  pid = refl;
  pages = refl;
  next = refl;
  alternate = refl;
  fewer = omega arith;
  place = (let start = ready.start in omega (arith, start));
}

sound_advanced : (part now : Structures) (q : Qh) (a : ℕ) (t : Qtd) → now a ≡ Some (Element t) → t.token.active ≡ true → IsSoundElement part t → IsSoundQueue now (advanced q a t)
unfolding advanced
sound_advanced part now q a t here on sound = record {
  rest = λ off idle. absurd (true≢false (sym on ∙ idle));
  work = λ works. working part now q a t here on (sound.work on);
}

abbrev pub taken_parts : StructureSets → Copy → ℕ → Qtd → StructureSets
taken_parts parts c a t = put parts c.at c.at (QueueHead (advanced c.queue a t))

-- the qTD stands where it stood
still_there : (parts : StructureSets) (c : Copy) (a : ℕ) (t : Qtd) → parts c.at c.at ≡ Some (QueueHead c.queue) → parts c.at a ≡ Some (Element t) → taken_parts parts c a t c.at a ≡ Some (Element t)
still_there parts c a t head here =
    put_else parts c.at c.at (QueueHead (advanced c.queue a t)) a (no_two (parts c.at) a c.at (Element t) (QueueHead c.queue) here head (λ e. cc)) ∙ here

taken_range : (m : Mem) (parts : StructureSets) (c : Copy) (a : ℕ) (t : Qtd) → Tells m parts → IsQhInRange (copied_queue c) → parts c.at a ≡ Some (Element t) → IsQhInRange (advanced (copied_queue c) a t)
taken_range m parts c a t tells range here =
    let h : HoldsElement m a t = tells.each c.at a (Element t) here in
    advanced_in_range (copied_queue c) a t range h.aligned h.range

taken_tells : (met : ℕ → Option Kind) (m : Mem) (parts : StructureSets) (c : Copy) (a : ℕ) (t : Qtd) → IsQueueVisit met m parts c → parts c.at a ≡ Some (Element t) → Tells (overlay_after m c.at (advanced (copied_queue c) a t)) (taken_parts parts c a t)
taken_tells met m parts c a t v here =
    subst (λ (q : Qh). Tells (overlay_after m c.at (advanced (copied_queue c) a t)) (put parts c.at c.at (QueueHead q))) (advanced_relinked c a t)
    (advance_is_told m parts c.at c.at c.queue (copied_queue c) a t v.tells (record { head = v.copied.here; range = v.copied.range; front = copy_front c }) here)

taken_met : (met : ℕ → Option Kind) (m : Mem) (parts : StructureSets) (c : Copy) (a : ℕ) (t : Qtd) → IsQueueVisit met m parts c → parts c.at a ≡ Some (Element t) → t.token.active ≡ true → IsMetQueue met c.at (taken_parts parts c a t c.at)
taken_met met m parts c a t v here on =
    let new : Qh = advanced c.queue a t in
    met_after met m parts c (taken_parts parts c a t c.at) new v
    (subst (Alters (parts c.at)) (sym (put_here parts c.at c.at (QueueHead new)))
    (a_queue_head_alters_nothing (parts c.at) c.at c.queue new v.copied.here))
    (put_same parts c.at c.at (QueueHead new)) (link_advanced c.queue a t)
    (sound_advanced (parts c.at) (taken_parts parts c a t c.at) c.queue a t (still_there parts c a t v.copied.here here) on (v.met_is.part_is.elements a t here))

pub taken_visit : (met : ℕ → Option Kind) (m : Mem) (parts : StructureSets) (c : Copy) (a : ℕ) (t : Qtd) → IsQueueVisit met m parts c → parts c.at a ≡ Some (Element t) → t.token.active ≡ true → IsQueueVisit met (overlay_after m c.at (advanced (copied_queue c) a t)) (taken_parts parts c a t) (taken c a t)
taken_visit met m parts c a t v here on = record {
  tells = taken_tells met m parts c a t v here;
  met_is = taken_met met m parts c a t v here on;
  copied = record {
    on = v.copied.on;
    here = put_same parts c.at c.at (QueueHead (advanced c.queue a t));
    link = v.copied.link;
    range = subst IsQhInRange (taken_copy c a t) (taken_range m parts c a t v.tells v.copied.range here);
  };
}

pub taken_only : (parts : StructureSets) (c : Copy) (a : ℕ) (t : Qtd) → IsOnlyAt c.at parts (taken_parts parts c a t)
taken_only parts c a t k differs = put_beside parts c.at c.at (QueueHead (advanced c.queue a t)) k differs

-- ---- as it is told

abbrev copy_in : Hand → Copy → Copy
copy_in (Copied c) other = c
copy_in hand other = other

same_copy : (c d : Copy) → Copied c ≡ Copied d → c ≡ d
same_copy c d e = ap (λ (h : Hand). copy_in h c) e

now_taken : (parts now : StructureSets) (c new : Copy) (k : Takes parts (Copied c) now (Copied new)) → now ≡ taken_parts parts c k.element k.qtd
now_taken parts now c new k = k.now_is ∙ ap (λ (x : Copy). taken_parts parts x k.element k.qtd) (sym (same_copy c k.copy k.in_hand))

new_taken : (parts now : StructureSets) (c new : Copy) (k : Takes parts (Copied c) now (Copied new)) → new ≡ taken c k.element k.qtd
new_taken parts now c new k =
    same_copy new (taken k.copy k.element k.qtd) k.later_is ∙ ap (λ (x : Copy). taken x k.element k.qtd) (sym (same_copy c k.copy k.in_hand))

pub advance_stays : (met : ℕ → Option Kind) (m : Mem) (parts now : StructureSets) (c new : Copy) → IsQueueVisit met m parts c → (k : Takes parts (Copied c) now (Copied new)) → IsQueueVisit met (overlay_after m c.at (advanced (copied_queue c) k.element k.qtd)) now new
advance_stays met m parts now c new v k =
    let after : Mem = overlay_after m c.at (advanced (copied_queue c) k.element k.qtd) in
    subst (λ (ps : StructureSets). IsQueueVisit met after ps new) (sym (now_taken parts now c new k))
    (subst (IsQueueVisit met after (taken_parts parts c k.element k.qtd)) (sym (new_taken parts now c new k))
    (taken_visit met m parts c k.element k.qtd v (subst (λ (x : Copy). parts x.at k.element ≡ Some (Element k.qtd)) (sym (same_copy c k.copy k.in_hand)) k.here) k.published))

pub advance_is_only_there : (parts now : StructureSets) (c new : Copy) → Takes parts (Copied c) now (Copied new) → IsOnlyAt c.at parts now
advance_is_only_there parts now c new k =
    subst (IsOnlyAt c.at parts) (sym (now_taken parts now c new k)) (taken_only parts c k.element k.qtd)
