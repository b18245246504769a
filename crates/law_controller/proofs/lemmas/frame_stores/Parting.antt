-- What the part of a queue head that is met owes once a qTD or a buffer is put there, or taken away, as in a ring.
use Rattle.std.proofs.Common.{◌≡◌, ◌≢◌, ℕ, ◌+◌, ◌*◌, ◌<◌, Bool, false, List, set, Option, Some, None, ap, sym, subst, ◌∙◌, ⊎_elim}
use Rattle.std.proofs.lemmas.Bool.{cases_eq}
use Rattle.std.proofs.lemmas.Option.{same_Some}
use Rattle.law_controller.proofs.Common.{new_own}
use Rattle.law_ring.proofs.Common.{element_not_buffer, element_not_head, changed_active, nothing_there, leads_without, buffer_beside, leads_beside_buffer}
use Rattle.law_structures.proofs.Common.{element_is}
use Rattle.link_words.specs.Links.{qtd_link_of}
use Rattle.word_mem.specs.Memory.{with_word}
use Rattle.qh_qtd.specs.declared.qtd.Qtd.{Qtd}
use Rattle.qh_qtd.specs.Qtd.{qtd_words, IsQtdInRange}
use Rattle.hc_copy.specs.Visits.{next_pointer}
use Rattle.periodic_walk.specs.Place.{FramePlace}
use Rattle.hc_core.specs.Controller.{Content}
use Rattle.law_structures.specs.lent_structures.Structures.{Structure, QueueHead, Element, Buffer, Table, Structures, StructureSets, with_structure, put, without_structure}
use Rattle.law_structures.proofs.lemmas.lent_structures.Names.{with_here, with_there, gone_there, put_beside, put_else}
use Rattle.law_structures.proofs.lemmas.lent_structures.Writing.{word_put_element}
use Rattle.law_structures.specs.lent_structures.Sound.{buffer_name, IsSoundElement, AreOwn}
use Rattle.law_structures.proofs.lemmas.lent_structures.Altering.{no_two}
use Rattle.law_ring.specs.Hand.{Hand}
use Rattle.claims_base.specs.Controller.{Base}
use Rattle.law_ring.specs.Stores.{IsUnnamed, NamesOne, IsUnled, IsUnused}
use Rattle.law_ring.proofs.Parting.{Spans, sound_spanned, queue_spanned, found_with, found_without}
use Rattle.law_frames.specs.Met.{Kind, IsMetQueue, IsMetAs}
use Rattle.law_frames.specs.FrameHand.{FrameHand}
use Rattle.law_frames.specs.Frame.{IsFrame}
use Rattle.law_controller.specs.frame_control.Both.{AreMet, RunsBoth}
use Rattle.law_controller.proofs.lemmas.frame_stores.Linking.{met_put}
use Rattle.law_controller.proofs.lemmas.frame_stores.Framing.{there, keeps_put, other_parts_leave_frame}
use Rattle.law_controller.proofs.lemmas.frame_stores.Beside.{members_put, other_parts_leave_both}

-- ---- an inactive qTD changes

changed_spans : (part : Structures) (a : ℕ) (d new : Qtd) → part a ≡ Some (Element d) → Spans part (with_structure part a (Element new))
changed_spans part a d new at = record {
  element = λ b t here.
      ⊎_elim (λ (same : b ≡ a). record { qtd = new; here = ap (with_structure part a (Element new)) same ∙ with_here part a (Element new) })
      (λ (differs : b ≢ a). record { qtd = t; here = with_there part a (Element new) b differs ∙ here }) (cases_eq b a);
  buffer = λ b pages k bs here. with_there part a (Element new) b (element_not_buffer part a b d pages k bs at here) ∙ here;
}

pub met_element_may_change : (met : ℕ → Option Kind) (n : ℕ) (part : Structures) (a : ℕ) (d new : Qtd) → IsMetQueue met n part → part a ≡ Some (Element d) → d.token.active ≡ false → IsSoundElement part new → IsUnnamed part a new → IsMetQueue met n (with_structure part a (Element new))
met_element_may_change met n part a d new m at off sound unnamed =
    let now = with_structure part a (Element new) in
    let spans = changed_spans part a d new at in
    record {
      part_is = record {
        queue = m.part_is.queue;
        here = with_there part a (Element new) n (element_not_head part a n d m.part_is.queue at m.part_is.here) ∙ m.part_is.here;
        sound = queue_spanned part now m.part_is.queue spans (changed_active part a d new at off) m.part_is.sound;
        elements = λ b t found.
            ⊎_elim (λ (is : (b ≡ a) × (Element new ≡ Element t)). subst (IsSoundElement now) (element_is new t is.1) (sound_spanned part now new spans sound))
            (λ (there : (b ≢ a) × (part b ≡ Some (Element t))). sound_spanned part now t spans (m.part_is.elements b t there.1)) (found_with part a b (Element new) (Element t) found);
        own = new_own part a new unnamed m.part_is.own;
      };
      link = m.link;
    }

-- ---- a qTD or a buffer is added at a name that nothing has

added_spans : (part : Structures) (a : ℕ) (s : Structure) → part a ≡ None → Spans part (with_structure part a s)
added_spans part a s none = record {
  element = λ b t here. record { qtd = t; here = with_there part a s b (nothing_there part a b (Element t) none here) ∙ here };
  buffer = λ b pages k bs here. with_there part a s b (nothing_there part a b (Buffer pages k bs) none here) ∙ here;
}

pub met_element_may_come : (met : ℕ → Option Kind) (n : ℕ) (part : Structures) (a : ℕ) (new : Qtd) → IsMetQueue met n part → part a ≡ None → IsSoundElement part new → IsUnnamed part a new → IsMetQueue met n (with_structure part a (Element new))
met_element_may_come met n part a new m none sound unnamed =
    let now = with_structure part a (Element new) in
    let spans = added_spans part a (Element new) none in
    record {
      part_is = record {
        queue = m.part_is.queue;
        here = with_there part a (Element new) n (nothing_there part a n (QueueHead m.part_is.queue) none m.part_is.here) ∙ m.part_is.here;
        sound = queue_spanned part now m.part_is.queue spans (λ b t here on. with_there part a (Element new) b (nothing_there part a b (Element t) none here) ∙ here) m.part_is.sound;
        elements = λ b t found.
            ⊎_elim (λ (is : (b ≡ a) × (Element new ≡ Element t)). subst (IsSoundElement now) (element_is new t is.1) (sound_spanned part now new spans sound))
            (λ (there : (b ≢ a) × (part b ≡ Some (Element t))). sound_spanned part now t spans (m.part_is.elements b t there.1)) (found_with part a b (Element new) (Element t) found);
        own = new_own part a new unnamed m.part_is.own;
      };
      link = m.link;
    }

-- a qTD of a part with another buffer is one of the part
element_before : (part : Structures) (a b : ℕ) (pages : List ℕ) (k : ℕ) (bs : List ℕ) (t : Qtd) → with_structure part a (Buffer pages k bs) b ≡ Some (Element t) → part b ≡ Some (Element t)
element_before part a b pages k bs t found =
    ⊎_elim (λ (is : (b ≡ a) × (Buffer pages k bs ≡ Element t)). cc) (λ (there : (b ≢ a) × (part b ≡ Some (Element t))). there.1)
    (found_with part a b (Buffer pages k bs) (Element t) found)

buffer_own : (part : Structures) (a : ℕ) (pages : List ℕ) (k : ℕ) (bs : List ℕ) → NamesOne part a → AreOwn part → AreOwn (with_structure part a (Buffer pages k bs))
buffer_own part a pages k bs one_name own b c t u ps j ds one other same there =
    let first = element_before part a b pages k bs t one in
    let second = element_before part a c pages k bs u other in
    ⊎_elim (λ (is : (buffer_name t ≡ a) × (Buffer pages k bs ≡ Buffer ps j ds)). one_name b c t u first second is.0 (sym same ∙ is.0))
    (λ (before : (buffer_name t ≢ a) × (part (buffer_name t) ≡ Some (Buffer ps j ds))). own b c t u ps j ds first second same before.1)
    (found_with part a (buffer_name t) (Buffer pages k bs) (Buffer ps j ds) there)

pub met_buffer_may_come : (met : ℕ → Option Kind) (n : ℕ) (part : Structures) (a : ℕ) (pages : List ℕ) (k : ℕ) (bs : List ℕ) → IsMetQueue met n part → part a ≡ None → NamesOne part a → IsMetQueue met n (with_structure part a (Buffer pages k bs))
met_buffer_may_come met n part a pages k bs m none one_name =
    let now = with_structure part a (Buffer pages k bs) in
    let spans = added_spans part a (Buffer pages k bs) none in
    record {
      part_is = record {
        queue = m.part_is.queue;
        here = with_there part a (Buffer pages k bs) n (nothing_there part a n (QueueHead m.part_is.queue) none m.part_is.here) ∙ m.part_is.here;
        sound = queue_spanned part now m.part_is.queue spans (λ b t here on. with_there part a (Buffer pages k bs) b (nothing_there part a b (Element t) none here) ∙ here) m.part_is.sound;
        elements = λ b t found. sound_spanned part now t spans (m.part_is.elements b t (element_before part a b pages k bs t found));
        own = buffer_own part a pages k bs one_name m.part_is.own;
      };
      link = m.link;
    }

-- ---- a qTD or a buffer is taken away

fewer_own : (part : Structures) (a : ℕ) → AreOwn part → AreOwn (without_structure part a)
fewer_own part a own b c t u pages k bs one other same there =
    own b c t u pages k bs (found_without part a b (Element t) one).1 (found_without part a c (Element u) other).1 same (found_without part a (buffer_name t) (Buffer pages k bs) there).1

pub met_element_may_go : (met : ℕ → Option Kind) (n : ℕ) (part : Structures) (a : ℕ) (d : Qtd) → (m : IsMetQueue met n part) → part a ≡ Some (Element d) → IsUnled part m.part_is.queue a → IsMetQueue met n (without_structure part a)
met_element_may_go met n part a d m at unled = record {
  part_is = record {
    queue = m.part_is.queue;
    here = gone_there part a n (element_not_head part a n d m.part_is.queue at m.part_is.here) ∙ m.part_is.here;
    sound = record {
      rest = λ off idle. leads_without part a (qtd_link_of (next_pointer m.part_is.queue)) (unled.rest off idle) (m.part_is.sound.rest off idle);
      work = λ on. let w = m.part_is.sound.work on in record {
        element = w.element;
        here = gone_there part a m.part_is.queue.current (unled.work on) ∙ w.here;
        published = w.published;
        goes_on = w.goes_on;
        pid = w.pid;
        pages = w.pages;
        next = w.next;
        alternate = w.alternate;
        fewer = w.fewer;
        place = w.place;
      };
    };
    elements = λ b t found.
        let there = found_without part a b (Element t) found in
        let led = unled.elements b t there.0 there.1 in
        let sound = m.part_is.elements b t there.1 in
        record {
          next = leads_without part a (qtd_link_of t.next) led.0 sound.next;
          alternate = leads_without part a (qtd_link_of t.alternate) led.1 sound.alternate;
          work = λ on. let ready = sound.work on in record { goes_on = ready.goes_on; start = ready.start; buffer = λ some. buffer_beside part a d t t.token.total at (ready.buffer some) };
        };
    own = fewer_own part a m.part_is.own;
  };
  link = m.link;
}

pub met_buffer_may_go : (met : ℕ → Option Kind) (n : ℕ) (part : Structures) (a : ℕ) (pages : List ℕ) (k : ℕ) (bs : List ℕ) → IsMetQueue met n part → part a ≡ Some (Buffer pages k bs) → IsUnused part a → IsMetQueue met n (without_structure part a)
met_buffer_may_go met n part a pages k bs m at unused = record {
  part_is = record {
    queue = m.part_is.queue;
    here = gone_there part a n (no_two part n a (QueueHead m.part_is.queue) (Buffer pages k bs) m.part_is.here at (λ e. cc)) ∙ m.part_is.here;
    sound = record {
      rest = λ off idle. leads_beside_buffer part a pages k bs (qtd_link_of (next_pointer m.part_is.queue)) at (m.part_is.sound.rest off idle);
      work = λ on. let w = m.part_is.sound.work on in record {
        element = w.element;
        here = gone_there part a m.part_is.queue.current (λ same. element_not_buffer part m.part_is.queue.current a w.element pages k bs w.here at (sym same)) ∙ w.here;
        published = w.published;
        goes_on = w.goes_on;
        pid = w.pid;
        pages = w.pages;
        next = w.next;
        alternate = w.alternate;
        fewer = w.fewer;
        place = w.place;
      };
    };
    elements = λ b t found.
        let there = found_without part a b (Element t) found in
        let sound = m.part_is.elements b t there.1 in
        record {
          next = leads_beside_buffer part a pages k bs (qtd_link_of t.next) at sound.next;
          alternate = leads_beside_buffer part a pages k bs (qtd_link_of t.alternate) at sound.alternate;
          work = λ on. let ready = sound.work on in record {
            goes_on = ready.goes_on;
            start = ready.start;
            buffer = λ some. let has = ready.buffer some in record {
              bytes = has.bytes;
              here = gone_there part a (buffer_name t) (unused b t there.1 on some) ∙ has.here;
              size = has.size;
            };
          };
        };
    own = fewer_own part a m.part_is.own;
  };
  link = m.link;
}

-- ---- a word of a qTD

element_apart : (o : Option Structure) (s : Structure) (d : Qtd) → ((t : Qtd) → s ≢ Element t) → o ≡ Some s → o ≡ Some (Element d) → ⊥
element_apart o s d other one two = other d (same_Some s (Element d) (sym one ∙ two))

met_apart : (met : ℕ → Option Kind) (parts : StructureSets) (n a : ℕ) (d : Qtd) (kind : Kind) → AreMet met parts → parts n a ≡ Some (Element d) → met n ≡ Some kind → n ≢ a
met_apart met parts n a d kind members at on same =
    let is = there met n (parts n) kind (members n kind on) in
    element_apart (parts n n) is.structure d is.no_element is.here (ap (parts n) same ∙ at)

pub element_store_leaves_frame : (met : ℕ → Option Kind) (parts : StructureSets) (hand : FrameHand) (p : FramePlace) (n a : ℕ) (d new : Qtd) (k v : ℕ) → IsFrame met parts hand p → parts n a ≡ Some (Element d) → k < 8 → qtd_words new ≡ set (qtd_words d) k v → IsQtdInRange new → ((kind : Kind) → met n ≡ Some kind → IsMetAs met n (with_structure (parts n) a (Element new)) kind) → IsFrame met (put parts n a (Element new)) hand (record p { memory = with_word p.memory (a + 4 * k) v })
element_store_leaves_frame met parts hand p n a d new k v frame at below is range owes =
    other_parts_leave_frame met parts (put parts n a (Element new)) hand p (with_word p.memory (a + 4 * k) v) frame
    (word_put_element p.memory parts n a d new k v frame.tells at below is range) (met_put met parts n a (Element new) owes frame.members)
    (keeps_put met parts n a (Element new) (λ kind on. met_apart met parts n a d kind frame.members at on))

table_apart : (o : Option Structure) (d : Qtd) (words : List ℕ) → o ≡ Some (Element d) → o ≡ Some (Table words) → ⊥
table_apart o d words element table = cc

list_stays : (parts : StructureSets) (n a : ℕ) (d new : Qtd) (b : ℕ) (words : List ℕ) → parts n a ≡ Some (Element d) → parts b b ≡ Some (Table words) → put parts n a (Element new) b b ≡ parts b b
list_stays parts n a d new b words at here =
    ⊎_elim (λ (owner : b ≡ n).
    ap (λ (j : ℕ). put parts n a (Element new) j j) owner
    ∙ put_else parts n a (Element new) n (λ (same : n ≡ a). table_apart (parts n n) d words (ap (parts n) same ∙ at) (ap (λ (j : ℕ). parts j j) (sym owner) ∙ here))
    ∙ ap (λ (j : ℕ). parts j j) (sym owner))
    (λ (differs : b ≢ n). ap (λ (part : Structures). part b) (put_beside parts n a (Element new) b differs)) (cases_eq b n)

pub element_store_leaves_both : (base : Base) (member : ℕ → Bool) (met : ℕ → Option Kind) (parts : StructureSets) (hand : Hand) (frame : FrameHand) (c : Content) (n a : ℕ) (d new : Qtd) (k v : ℕ) → RunsBoth base member met parts hand frame c → parts n a ≡ Some (Element d) → k < 8 → qtd_words new ≡ set (qtd_words d) k v → IsQtdInRange new → member n ≡ false → ((kind : Kind) → met n ≡ Some kind → IsMetAs met n (with_structure (parts n) a (Element new)) kind) → RunsBoth base member met (put parts n a (Element new)) hand frame (record c { memory = with_word c.memory (a + 4 * k) v })
element_store_leaves_both base member met parts hand frame c n a d new k v runs at below is range off owes =
    other_parts_leave_both base member met parts (put parts n a (Element new)) hand frame c (with_word c.memory (a + 4 * k) v) runs
    (word_put_element c.memory parts n a d new k v runs.ring.tells at below is range) (members_put member parts n a (Element new) off)
    (met_put met parts n a (Element new) owes runs.members) (keeps_put met parts n a (Element new) (λ kind on. met_apart met parts n a d kind runs.members at on))
    (list_stays parts n a d new base.periodic_list_base runs.list.words at runs.list.here)
