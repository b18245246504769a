-- A queue head's part without some of its qTDs and buffers is sound, and its links lead on.
use Rattle.std.proofs.Common.{ℕ, Bool, Some, ◌∙◌}
use Rattle.law_queues.proofs.Common.{leads_fewer}
use Rattle.law_ring.proofs.Common.{fewer_some}
use Rattle.link_words.specs.Links.{qtd_link_of}
use Rattle.qh_qtd.specs.declared.qtd.Qtd.{Qtd}
use Rattle.hc_copy.specs.Visits.{next_pointer}
use Rattle.law_structures.specs.lent_structures.Structures.{Element, Buffer, Structures, StructureSets}
use Rattle.law_structures.specs.lent_structures.Sound.{buffer_name, IsReady, IsWorking}
use Rattle.law_ring.specs.Fewer.{fewer_structures, without_those, MayGo}
use Rattle.law_ring.specs.Front.{LinksRise}
use Rattle.law_ring.proofs.Returning.{those_found}
use Rattle.law_ring.proofs.ReleaseGoing.{stays}
use Rattle.law_frames.specs.Met.{IsQueuePart}

pub fewer_rise : (parts : StructureSets) (n : ℕ) (goes : ℕ → Bool) (order : ℕ → ℕ) (m : ℕ) → LinksRise order (parts m) → LinksRise order (without_those parts n goes m)
fewer_rise parts n goes order m r = record {
  next = λ a t b found to. r.next a t b (those_found parts n goes m a (Element t) found) to;
  alternate = λ a t b found to. r.alternate a t b (those_found parts n goes m a (Element t) found) to;
}

pub part_fewer : (n : ℕ) (part : Structures) (goes : ℕ → Bool) → (k : IsQueuePart n part) → MayGo goes n part k.queue → IsQueuePart n (fewer_structures goes part)
part_fewer n part goes k may = record {
  queue = k.queue;
  here = stays goes part n may.head ∙ k.here;
  sound = record {
    rest = λ off idle. leads_fewer goes part (qtd_link_of (next_pointer k.queue)) (λ b to. may.rest b off idle to) (k.sound.rest off idle);
    work = λ on.
        let w : IsWorking part k.queue = k.sound.work on in
        record {
          element = w.element;
          here = stays goes part k.queue.current (may.work on) ∙ w.here;
          published = w.published;
          goes_on = w.goes_on;
          pid = w.pid;
          pages = w.pages;
          next = w.next;
          alternate = w.alternate;
          fewer = w.fewer;
          place = w.place;
        };
  };
  elements = λ a t found.
      let there = fewer_some goes part a (Element t) found in
      let sound = k.elements a t there.1 in
      record {
        next = leads_fewer goes part (qtd_link_of t.next) (λ b to. may.next a b t there.1 there.0 to) sound.next;
        alternate = leads_fewer goes part (qtd_link_of t.alternate) (λ b to. may.alternate a b t there.1 there.0 to) sound.alternate;
        work = λ on.
            let ready : IsReady part t = sound.work on in
            record {
              goes_on = ready.goes_on;
              start = ready.start;
              buffer = λ some.
                  let has = ready.buffer some in
                  record { bytes = has.bytes; here = stays goes part (buffer_name t) (may.buffer a t there.1 there.0 on some) ∙ has.here; size = has.size };
            };
      };
  own = λ a b t u pages i bs one other same there.
      k.own a b t u pages i bs (fewer_some goes part a (Element t) one).1 (fewer_some goes part b (Element u) other).1 same (fewer_some goes part (buffer_name t) (Buffer pages i bs) there).1;
}
