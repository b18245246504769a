-- A part without some of its qTDs and buffers.
use Rattle.std.proofs.Common.{◌≡◌, ℕ, Bool, true, false, if◌then◌else◌, Option, Some, None, ap, refl, ◌∙◌}
use Rattle.law_ring.proofs.Common.{fewer_some, own_fewer}
use Rattle.link_words.specs.declared.kinds.QtdLink.{QtdLink}
use Rattle.link_words.specs.declared.kinds.QtdLink.TheVariants as qtd_links
use Rattle.link_words.specs.Links.{qtd_link_of}
use Rattle.qh_qtd.specs.declared.qtd.Qtd.{Qtd}
use Rattle.qh_qtd.specs.declared.queue_head.Qh.{Qh}
use Rattle.hc_copy.specs.Visits.{next_pointer}
use Rattle.law_structures.specs.lent_structures.Structures.{Structure, Element, Structures}
use Rattle.law_structures.specs.lent_structures.Sound.{LeadsOn, buffer_name, HasBuffer, IsReady, IsSoundElement, IsWorking, IsSoundQueue, IsMember}
use Rattle.law_ring.specs.Fewer.{fewer_structures, MayGo}

pub stays : (goes : ℕ → Bool) (part : Structures) (a : ℕ) → goes a ≡ false → fewer_structures goes part a ≡ part a
stays goes part a off = ap (λ (b : Bool). if b then None else part a) off

by_test : (b : Bool) (o : Option Structure) (s : Structure) → (if b then None else o) ≡ Some s → (b ≡ false) × (o ≡ Some s)
by_test false o s found = (refl, found)
by_test true o s found = absurd (cc)

leads_fewer : (goes : ℕ → Bool) (part : Structures) (l : QtdLink) → ((b : ℕ) → l ≡ qtd_links.To b → goes b ≡ false) → LeadsOn part l → LeadsOn (fewer_structures goes part) l
leads_fewer goes part qtd_links.End off leads = tt
leads_fewer goes part (qtd_links.To b) off leads = record { qtd = leads.qtd; here = stays goes part b (off b refl) ∙ leads.here }

buffer_fewer : (goes : ℕ → Bool) (part : Structures) (t : Qtd) (n : ℕ) → goes (buffer_name t) ≡ false → HasBuffer part t n → HasBuffer (fewer_structures goes part) t n
buffer_fewer goes part t n off has = record { bytes = has.bytes; here = stays goes part (buffer_name t) off ∙ has.here; size = has.size }

element_fewer : (goes : ℕ → Bool) (n : ℕ) (part : Structures) (q : Qh) (a : ℕ) (t : Qtd) → MayGo goes n part q → part a ≡ Some (Element t) → goes a ≡ false → IsSoundElement part t → IsSoundElement (fewer_structures goes part) t
element_fewer goes n part q a t may here off sound = record {
  next = leads_fewer goes part (qtd_link_of t.next) (λ b to. may.next a b t here off to) sound.next;
  alternate = leads_fewer goes part (qtd_link_of t.alternate) (λ b to. may.alternate a b t here off to) sound.alternate;
  work = λ on.
      let ready : IsReady part t = sound.work on in
      record { goes_on = ready.goes_on; start = ready.start; buffer = λ some. buffer_fewer goes part t t.token.total (may.buffer a t here off on some) (ready.buffer some) };
}

queue_fewer : (goes : ℕ → Bool) (n : ℕ) (part : Structures) (q : Qh) → MayGo goes n part q → IsSoundQueue part q → IsSoundQueue (fewer_structures goes part) q
queue_fewer goes n part q may sound = record {
  rest = λ off idle. leads_fewer goes part (qtd_link_of (next_pointer q)) (λ b to. may.rest b off idle to) (sound.rest off idle);
  work = λ on.
      let w : IsWorking part q = sound.work on in
      record {
        element = w.element;
        here = stays goes part q.current (may.work on) ∙ w.here;
        published = w.published;
        goes_on = w.goes_on;
        pid = w.pid;
        pages = w.pages;
        next = w.next;
        alternate = w.alternate;
        fewer = w.fewer;
        place = w.place;
      };
}

pub part_may_lose : (member : ℕ → Bool) (n : ℕ) (part : Structures) (goes : ℕ → Bool) → (m : IsMember member n part) → MayGo goes n part m.queue → IsMember member n (fewer_structures goes part)
part_may_lose member n part goes m may = record {
  queue = m.queue;
  here = stays goes part n may.head ∙ m.here;
  link = m.link;
  sound = queue_fewer goes n part m.queue may m.sound;
  elements = λ a t found.
      let there = fewer_some goes part a (Element t) found in
      element_fewer goes n part m.queue a t may there.1 there.0 (m.elements a t there.1);
  own = own_fewer goes part m.own;
}
