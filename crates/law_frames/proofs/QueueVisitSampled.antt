-- The worked visit is one, and its two bytes are written back.
use Rattle.std.proofs.Common.{◌≡◌, ℕ, zero, suc, ◌<◌, slice_index, Some, List, [], refl, sym, subst, ◌∙◌, ⊎_elim, arith}
use Rattle.std.proofs.lemmas.Bool.{true≢false}
use Rattle.law_structures.proofs.Common.{element_is}
use Rattle.usb_base.specs.declared.packets.Reply.{Reply}
use Rattle.usb_base.specs.declared.packets.Reply.TheVariants.{Bytes}
use Rattle.qh_qtd.specs.declared.qtd.Qtd.{Qtd}
use Rattle.qh_qtd.specs.QueueHead.{qh_words, IsQhInRange}
use Rattle.law_structures.specs.lent_structures.Structures.{QueueHead, Element, Buffer, put, Tells}
use Rattle.law_structures.specs.lent_structures.StructureSamples.{queue as first, element, bytes, pages, memory as small, nothing, parts as small_parts}
use Rattle.law_structures.proofs.lemmas.lent_structures.Names.{put_found}
use Rattle.law_structures.proofs.lemmas.lent_structures.Writing.{word_put_queue}
use Rattle.law_structures.proofs.lemmas.lent_structures.StructureSampled.{queue_range as first_range, sample_told}
use Rattle.law_structures.specs.lent_structures.Sound.{IsSoundElement, IsSoundQueue}
use Rattle.law_frames.specs.Frame.{IsQueueSettled}
use Rattle.law_frames.specs.Met.{IsMetQueue}
use Rattle.law_frames.specs.Visits.{IsQueueVisit, IsWrittenBack}
use Rattle.law_frames.specs.QueueVisitSamples.{queue, memory, parts, met, copy, heard, settled}
use Rattle.law_frames.proofs.Making.{settles}
use Rattle.law_frames.proofs.Writing.{write_back_keeps_visit}

-- ---- the structures stand in memory

queue_range : IsQhInRange queue
queue_range = let (link, (chars, (caps, rest))) = first_range in (link, (chars, ((omega arith, (omega arith, (omega arith, (omega arith, (omega arith, tt))))), rest)))

told : Tells memory parts
unfolding qh_words
told = word_put_queue small small_parts 0 0 first queue 2 0x40000001 sample_told refl (omega arith) refl queue_range

-- the qTD at 64 alone
pub record IsTheOne (a : ℕ) (t : Qtd) : Type 0 where
  pub at : a ≡ 64
  pub is : t ≡ element

pub the_first : (n a : ℕ) (t : Qtd) → small_parts n a ≡ Some (Element t) → IsTheOne a t
the_first n a t found =
    ⊎_elim (λ (is : (n ≡ 0) × (a ≡ 100) × (Element t ≡ Buffer pages 100 bytes)). cc)
    (λ (second : put (put nothing 0 0 (QueueHead first)) 0 64 (Element element) n a ≡ Some (Element t)).
    ⊎_elim (λ (is : (n ≡ 0) × (a ≡ 64) × (Element t ≡ Element element)). record { at = is.1; is = element_is t element is.2 })
    (λ (third : put nothing 0 0 (QueueHead first) n a ≡ Some (Element t)).
    ⊎_elim (λ (is : (n ≡ 0) × (a ≡ 0) × (Element t ≡ QueueHead first)). cc) (λ (there : nothing n a ≡ Some (Element t)). cc)
    (put_found nothing 0 0 (QueueHead first) n a (Element t) third))
    (put_found (put nothing 0 0 (QueueHead first)) 0 64 (Element element) n a (Element t) second))
    (put_found (put (put nothing 0 0 (QueueHead first)) 0 64 (Element element)) 0 100 (Buffer pages 100 bytes) n a (Element t) found)

the_one : (n a : ℕ) (t : Qtd) → parts n a ≡ Some (Element t) → IsTheOne a t
the_one n a t found =
    ⊎_elim (λ (is : (n ≡ 0) × (a ≡ 0) × (Element t ≡ QueueHead queue)). cc) (the_first n a t) (put_found small_parts 0 0 (QueueHead queue) n a (Element t) found)

element_sound : IsSoundElement (parts 0) element
element_sound = record { next = tt; alternate = tt; work = λ on. record { goes_on = refl; start = refl; buffer = λ some. record { bytes = bytes; here = refl; size = refl } } }

queue_sound : IsSoundQueue (parts 0) queue
queue_sound = record {
  rest = λ off idle. absurd (true≢false idle);
  work = λ on. record {
    element = element;
    here = refl;
    published = refl;
    goes_on = refl;
    pid = refl;
    pages = refl;
    next = refl;
    alternate = refl;
    fewer = omega arith;
    place = refl;
  };
}

queue_met : IsMetQueue met 0 (parts 0)
queue_met = record {
  part_is = record {
    queue = queue;
    here = refl;
    sound = queue_sound;
    elements = λ a t found. subst (IsSoundElement (parts 0)) (sym (the_one 0 a t found).is) element_sound;
    own = λ a b t u ps k bs one other same there. (the_one 0 a t one).at ∙ sym (the_one 0 b u other).at;
  };
  link = refl;
}

pub visit_is : IsQueueVisit met memory parts copy
visit_is = record { tells = told; met_is = queue_met; copied = record { on = refl; here = refl; link = refl; range = queue_range } }

-- the bytes that were heard
abbrev pub heard_in : Reply → List ℕ
heard_in (Bytes pid bs) = bs
heard_in _ = []

pub two_small : (i : ℕ) → slice_index (heard_in heard) i < 256
two_small (suc zero) = omega arith
two_small _ = omega arith

pub settled_so : IsQueueSettled queue heard settled
settled_so = settles 0 queue [] heard refl (omega arith) (omega arith) refl (λ pid bs same i. subst (λ (r : Reply). slice_index (heard_in r) i < 256) same (two_small i))

pub back_is : IsWrittenBack met memory parts copy settled
back_is = write_back_keeps_visit met memory parts copy settled heard visit_is settled_so
