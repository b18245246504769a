-- What a part of a member's structures owes once a qTD or a buffer is put there, or taken away.
use Rattle.std.proofs.Common.{◌≡◌, ◌≢◌, ℕ, Bool, true, false, List, Some, None, ap, sym, subst, ◌∙◌, ⊎_elim, ◌⊎◌, inl, inr}
use Rattle.std.proofs.lemmas.Bool.{cases_eq}
use Rattle.std.proofs.lemmas.Option.{same_Some}
use Rattle.law_ring.proofs.Common.{none_some, buffer_before, element_not_buffer, element_not_head, changed_active, nothing_there, leads_without, buffer_beside, leads_beside_buffer}
use Rattle.law_structures.proofs.Common.{element_is}
use Rattle.link_words.specs.declared.kinds.QtdLink.{QtdLink}
use Rattle.link_words.specs.declared.kinds.QtdLink.TheVariants as qtd_links
use Rattle.link_words.specs.Links.{qtd_link_of}
use Rattle.qh_qtd.specs.declared.qtd.Qtd.{Qtd}
use Rattle.qh_qtd.specs.declared.queue_head.Qh.{Qh}
use Rattle.hc_copy.specs.Visits.{next_pointer}
use Rattle.law_structures.specs.lent_structures.Structures.{Structure, QueueHead, Element, Buffer, Structures, with_structure, without_structure}
use Rattle.law_structures.proofs.lemmas.lent_structures.Names.{with_here, with_there, gone_here, gone_there}
use Rattle.law_structures.specs.lent_structures.Sound.{IsElement, LeadsOn, element_pages, buffer_name, HasBuffer, IsSoundElement, IsSoundQueue, AreOwn, IsMember}
use Rattle.law_structures.proofs.lemmas.lent_structures.Altering.{no_two}
use Rattle.law_ring.specs.Stores.{IsUnnamed, NamesOne, IsUnled, IsUnused}

-- ---- a part that has all that another has

-- each qTD, which may have changed, and each buffer
pub record Spans (part now : Structures) : Type 0 where
  pub element : (a : ℕ) (t : Qtd) → part a ≡ Some (Element t) → IsElement now a
  pub buffer : (a : ℕ) (pages : List ℕ) (k : ℕ) (bs : List ℕ) → part a ≡ Some (Buffer pages k bs) → now a ≡ Some (Buffer pages k bs)

leads_spanned : (part now : Structures) (l : QtdLink) → Spans part now → LeadsOn part l → LeadsOn now l
leads_spanned part now qtd_links.End spans leads = tt
leads_spanned part now (qtd_links.To a) spans leads = spans.element a leads.qtd leads.here

has_spanned : (part now : Structures) (t : Qtd) (n : ℕ) → Spans part now → HasBuffer part t n → HasBuffer now t n
has_spanned part now t n spans has = record { bytes = has.bytes; here = spans.buffer (buffer_name t) (element_pages t) t.offset has.bytes has.here; size = has.size }

pub sound_spanned : (part now : Structures) (t : Qtd) → Spans part now → IsSoundElement part t → IsSoundElement now t
sound_spanned part now t spans sound = record {
  next = leads_spanned part now (qtd_link_of t.next) spans sound.next;
  alternate = leads_spanned part now (qtd_link_of t.alternate) spans sound.alternate;
  work = λ on. let ready = sound.work on in record { goes_on = ready.goes_on; start = ready.start; buffer = λ some. has_spanned part now t t.token.total spans (ready.buffer some) };
}

-- the queue head, where active qTDs stay as they are
pub queue_spanned : (part now : Structures) (q : Qh) → Spans part now → ((a : ℕ) (t : Qtd) → part a ≡ Some (Element t) → t.token.active ≡ true → now a ≡ Some (Element t)) → IsSoundQueue part q → IsSoundQueue now q
queue_spanned part now q spans active sound = record {
  rest = λ off idle. leads_spanned part now (qtd_link_of (next_pointer q)) spans (sound.rest off idle);
  work = λ on. let w = sound.work on in record {
    element = w.element;
    here = active q.current w.element w.here w.published;
    published = w.published;
    goes_on = w.goes_on;
    pid = w.pid;
    pages = w.pages;
    next = w.next;
    alternate = w.alternate;
    fewer = w.fewer;
    place = w.place;
  };
}

-- ---- kinds

pub found_with : (part : Structures) (a b : ℕ) (s t : Structure) → with_structure part a s b ≡ Some t → ((b ≡ a) × (s ≡ t)) ⊎ ((b ≢ a) × (part b ≡ Some t))
found_with part a b s t found =
    ⊎_elim (λ (same : b ≡ a). inl (same, same_Some s t (sym (with_here part a s) ∙ ap (with_structure part a s) (sym same) ∙ found)))
    (λ (differs : b ≢ a). inr (differs, sym (with_there part a s b differs) ∙ found)) (cases_eq b a)

-- ---- an inactive qTD changes

changed_spans : (part : Structures) (a : ℕ) (d new : Qtd) → part a ≡ Some (Element d) → Spans part (with_structure part a (Element new))
changed_spans part a d new at = record {
  element = λ b t here.
      ⊎_elim (λ (same : b ≡ a). record { qtd = new; here = ap (with_structure part a (Element new)) same ∙ with_here part a (Element new) })
      (λ (differs : b ≢ a). record { qtd = t; here = with_there part a (Element new) b differs ∙ here }) (cases_eq b a);
  buffer = λ b pages k bs here. with_there part a (Element new) b (element_not_buffer part a b d pages k bs at here) ∙ here;
}

new_own : (part : Structures) (a : ℕ) (new : Qtd) → IsUnnamed part a new → AreOwn part → AreOwn (with_structure part a (Element new))
new_own part a new unnamed own b c t u pages k bs one other same there =
    let buffer = buffer_before part a (buffer_name t) new pages k bs there in
    ⊎_elim (λ (first : (b ≡ a) × (Element new ≡ Element t)).
    let is_new : new ≡ t = element_is new t first.1 in
    ⊎_elim (λ (second : (c ≡ a) × (Element new ≡ Element u)). first.0 ∙ sym second.0)
    (λ (second : (c ≢ a) × (part c ≡ Some (Element u))).
    absurd (unnamed c u second.0 second.1 (sym same ∙ ap buffer_name (sym is_new)) (record { pages = pages; start = k; bytes = bs; here = ap part (ap buffer_name is_new) ∙ buffer })))
    (found_with part a c (Element new) (Element u) other))
    (λ (first : (b ≢ a) × (part b ≡ Some (Element t))).
    ⊎_elim (λ (second : (c ≡ a) × (Element new ≡ Element u)).
    let is_new : new ≡ u = element_is new u second.1 in
    absurd (unnamed b t first.0 first.1 (same ∙ ap buffer_name (sym is_new)) (record { pages = pages; start = k; bytes = bs; here = ap part (ap buffer_name is_new ∙ sym same) ∙ buffer })))
    (λ (second : (c ≢ a) × (part c ≡ Some (Element u))). own b c t u pages k bs first.1 second.1 same buffer)
    (found_with part a c (Element new) (Element u) other))
    (found_with part a b (Element new) (Element t) one)

pub member_stored : (member : ℕ → Bool) (n : ℕ) (part : Structures) (a : ℕ) (d new : Qtd) → IsMember member n part → part a ≡ Some (Element d) → d.token.active ≡ false → IsSoundElement part new → IsUnnamed part a new → IsMember member n (with_structure part a (Element new))
member_stored member n part a d new m at off sound unnamed =
    let now = with_structure part a (Element new) in
    let spans = changed_spans part a d new at in
    record {
      queue = m.queue;
      here = with_there part a (Element new) n (element_not_head part a n d m.queue at m.here) ∙ m.here;
      link = m.link;
      sound = queue_spanned part now m.queue spans (changed_active part a d new at off) m.sound;
      elements = λ b t found.
          ⊎_elim (λ (is : (b ≡ a) × (Element new ≡ Element t)). subst (IsSoundElement now) (element_is new t is.1) (sound_spanned part now new spans sound))
          (λ (there : (b ≢ a) × (part b ≡ Some (Element t))). sound_spanned part now t spans (m.elements b t there.1)) (found_with part a b (Element new) (Element t) found);
      own = new_own part a new unnamed m.own;
    }

-- ---- a qTD or a buffer is added at a name that nothing has

added_spans : (part : Structures) (a : ℕ) (s : Structure) → part a ≡ None → Spans part (with_structure part a s)
added_spans part a s none = record {
  element = λ b t here. record { qtd = t; here = with_there part a s b (nothing_there part a b (Element t) none here) ∙ here };
  buffer = λ b pages k bs here. with_there part a s b (nothing_there part a b (Buffer pages k bs) none here) ∙ here;
}

pub member_element_added : (member : ℕ → Bool) (n : ℕ) (part : Structures) (a : ℕ) (new : Qtd) → IsMember member n part → part a ≡ None → IsSoundElement part new → IsUnnamed part a new → IsMember member n (with_structure part a (Element new))
member_element_added member n part a new m none sound unnamed =
    let now = with_structure part a (Element new) in
    let spans = added_spans part a (Element new) none in
    record {
      queue = m.queue;
      here = with_there part a (Element new) n (nothing_there part a n (QueueHead m.queue) none m.here) ∙ m.here;
      link = m.link;
      sound = queue_spanned part now m.queue spans (λ b t here on. with_there part a (Element new) b (nothing_there part a b (Element t) none here) ∙ here) m.sound;
      elements = λ b t found.
          ⊎_elim (λ (is : (b ≡ a) × (Element new ≡ Element t)). subst (IsSoundElement now) (element_is new t is.1) (sound_spanned part now new spans sound))
          (λ (there : (b ≢ a) × (part b ≡ Some (Element t))). sound_spanned part now t spans (m.elements b t there.1)) (found_with part a b (Element new) (Element t) found);
      own = new_own part a new unnamed m.own;
    }

-- a qTD of a part with another buffer is one of the part
element_before : (part : Structures) (a b : ℕ) (pages : List ℕ) (k : ℕ) (bs : List ℕ) (t : Qtd) → with_structure part a (Buffer pages k bs) b ≡ Some (Element t) → part b ≡ Some (Element t)
element_before part a b pages k bs t found =
    ⊎_elim (λ (is : (b ≡ a) × (Buffer pages k bs ≡ Element t)). cc) (λ (there : (b ≢ a) × (part b ≡ Some (Element t))). there.1)
    (found_with part a b (Buffer pages k bs) (Element t) found)

buffer_own : (part : Structures) (a : ℕ) (pages : List ℕ) (k : ℕ) (bs : List ℕ) → NamesOne part a → AreOwn part → AreOwn (with_structure part a (Buffer pages k bs))
buffer_own part a pages k bs one_name own b c t u ps j ds one other same there =
    let first = element_before part a b pages k bs t one in
    let second = element_before part a c pages k bs u other in
    ⊎_elim (λ (is : (buffer_name t ≡ a) × (Buffer pages k bs ≡ Buffer ps j ds)). one_name b c t u first second is.0 (sym same ∙ is.0))
    (λ (before : (buffer_name t ≢ a) × (part (buffer_name t) ≡ Some (Buffer ps j ds))). own b c t u ps j ds first second same before.1)
    (found_with part a (buffer_name t) (Buffer pages k bs) (Buffer ps j ds) there)

pub member_buffer_added : (member : ℕ → Bool) (n : ℕ) (part : Structures) (a : ℕ) (pages : List ℕ) (k : ℕ) (bs : List ℕ) → IsMember member n part → part a ≡ None → NamesOne part a → IsMember member n (with_structure part a (Buffer pages k bs))
member_buffer_added member n part a pages k bs m none one_name =
    let now = with_structure part a (Buffer pages k bs) in
    let spans = added_spans part a (Buffer pages k bs) none in
    record {
      queue = m.queue;
      here = with_there part a (Buffer pages k bs) n (nothing_there part a n (QueueHead m.queue) none m.here) ∙ m.here;
      link = m.link;
      sound = queue_spanned part now m.queue spans (λ b t here on. with_there part a (Buffer pages k bs) b (nothing_there part a b (Element t) none here) ∙ here) m.sound;
      elements = λ b t found. sound_spanned part now t spans (m.elements b t (element_before part a b pages k bs t found));
      own = buffer_own part a pages k bs one_name m.own;
    }

-- ---- a qTD or a buffer is taken away

pub found_without : (part : Structures) (a b : ℕ) (t : Structure) → without_structure part a b ≡ Some t → (b ≢ a) × (part b ≡ Some t)
found_without part a b t found =
    ⊎_elim (λ (same : b ≡ a). absurd (none_some (without_structure part a b) t (ap (without_structure part a) same ∙ gone_here part a) found))
    (λ (differs : b ≢ a). (differs, sym (gone_there part a b differs) ∙ found)) (cases_eq b a)

fewer_own : (part : Structures) (a : ℕ) → AreOwn part → AreOwn (without_structure part a)
fewer_own part a own b c t u pages k bs one other same there =
    own b c t u pages k bs (found_without part a b (Element t) one).1 (found_without part a c (Element u) other).1 same (found_without part a (buffer_name t) (Buffer pages k bs) there).1

pub member_element_gone : (member : ℕ → Bool) (n : ℕ) (part : Structures) (a : ℕ) (d : Qtd) → (m : IsMember member n part) → part a ≡ Some (Element d) → IsUnled part m.queue a → IsMember member n (without_structure part a)
member_element_gone member n part a d m at unled = record {
  queue = m.queue;
  here = gone_there part a n (element_not_head part a n d m.queue at m.here) ∙ m.here;
  link = m.link;
  sound = record {
    rest = λ off idle. leads_without part a (qtd_link_of (next_pointer m.queue)) (unled.rest off idle) (m.sound.rest off idle);
    work = λ on. let w = m.sound.work on in record {
      element = w.element;
      here = gone_there part a m.queue.current (unled.work on) ∙ w.here;
      published = w.published;
      goes_on = w.goes_on;
      pid = w.pid;
      pages = w.pages;
      next = w.next;
      alternate = w.alternate;
      fewer = w.fewer;
      place = w.place;
    };
  };
  elements = λ b t found.
      let there = found_without part a b (Element t) found in
      let led = unled.elements b t there.0 there.1 in
      let sound = m.elements b t there.1 in
      record {
        next = leads_without part a (qtd_link_of t.next) led.0 sound.next;
        alternate = leads_without part a (qtd_link_of t.alternate) led.1 sound.alternate;
        work = λ on. let ready = sound.work on in record { goes_on = ready.goes_on; start = ready.start; buffer = λ some. buffer_beside part a d t t.token.total at (ready.buffer some) };
      };
  own = fewer_own part a m.own;
}

pub member_buffer_gone : (member : ℕ → Bool) (n : ℕ) (part : Structures) (a : ℕ) (pages : List ℕ) (k : ℕ) (bs : List ℕ) → IsMember member n part → part a ≡ Some (Buffer pages k bs) → IsUnused part a → IsMember member n (without_structure part a)
member_buffer_gone member n part a pages k bs m at unused = record {
  queue = m.queue;
  here = gone_there part a n (no_two part n a (QueueHead m.queue) (Buffer pages k bs) m.here at (λ e. cc)) ∙ m.here;
  link = m.link;
  sound = record {
    rest = λ off idle. leads_beside_buffer part a pages k bs (qtd_link_of (next_pointer m.queue)) at (m.sound.rest off idle);
    work = λ on. let w = m.sound.work on in record {
      element = w.element;
      here = gone_there part a m.queue.current (λ same. element_not_buffer part m.queue.current a w.element pages k bs w.here at (sym same)) ∙ w.here;
      published = w.published;
      goes_on = w.goes_on;
      pid = w.pid;
      pages = w.pages;
      next = w.next;
      alternate = w.alternate;
      fewer = w.fewer;
      place = w.place;
    };
  };
  elements = λ b t found.
      let there = found_without part a b (Element t) found in
      let sound = m.elements b t there.1 in
      record {
        next = leads_beside_buffer part a pages k bs (qtd_link_of t.next) at sound.next;
        alternate = leads_beside_buffer part a pages k bs (qtd_link_of t.alternate) at sound.alternate;
        work = λ on. let ready = sound.work on in record {
          goes_on = ready.goes_on;
          start = ready.start;
          buffer = λ some. let has = ready.buffer some in record {
            bytes = has.bytes;
            here = gone_there part a (buffer_name t) (unused b t there.1 on some) ∙ has.here;
            size = has.size;
          };
        };
      };
  own = fewer_own part a m.own;
}
