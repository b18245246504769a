-- A queue head stands in the place of one: what is told of the queues stays.
use Rattle.std.proofs.Common.{◌≡◌, ◌≢◌, ℕ, ◌*◌, List, length, Some, ap, sym, ◌∙◌, ⊎_elim}
use Rattle.std.proofs.lemmas.Bool.{cases_eq}
use Rattle.std.proofs.lemmas.Option.{same_Some}
use Rattle.qh_qtd.specs.declared.qtd.Qtd.{Qtd}
use Rattle.qh_qtd.specs.declared.queue_head.Qh.{Qh}
use Rattle.drv_table.specs.declared.content.Command.TheVariants as unfinished
use Rattle.drv_table.specs.declared.content.QtdNote.{QtdNote}
use Rattle.drv_table.specs.declared.content.Sort.{Sort}
use Rattle.drv_table.specs.DriverContent.{DriverContent}
use Rattle.drv_table.specs.Harvests.{note_at}
use Rattle.drv_table.specs.Words.{dummy_qtd}
use Rattle.claims_driver.specs.Owners.{note_in}
use Rattle.law_structures.specs.lent_structures.Structures.{Structure, QueueHead, Element, Buffer, Structures, StructureSets, put}
use Rattle.law_structures.proofs.lemmas.lent_structures.Names.{put_beside, put_same, put_else, put_found}
use Rattle.law_structures.specs.lent_structures.Sound.{element_pages, buffer_name, HasBuffer}
use Rattle.law_ring.specs.Effects.{bytes_in}
use Rattle.law_driver.specs.chained_transfers.Chains.{piece_at}
use Rattle.law_driver_ring.specs.fed_queues.Fed.{IsPieceFed, AreFed, sized}
use Rattle.law_driver_ring.specs.fed_queues.Places.{AreLast}
use Rattle.law_queues.specs.open_laws.Queues.{HeadKeepsQueues}

module _ (parts : StructureSets) (n : ℕ) (old new : Qh) (head : parts n n ≡ Some (QueueHead old)) where
  abbrev now : StructureSets
  now = put parts n n (QueueHead new)

  is_head : (m a : ℕ) → m ≡ n → a ≡ n → parts m a ≡ Some (QueueHead old)
  is_head m a owner name = ap (λ (i : ℕ). parts i a) owner ∙ ap (parts n) name ∙ head

  stays : (m a : ℕ) (s : Structure) → ((q : Qh) → s ≢ QueueHead q) → parts m a ≡ Some s → now m a ≡ Some s
  stays m a s other is =
      ⊎_elim (λ (owner : m ≡ n).
      ⊎_elim (λ (name : a ≡ n). absurd (other old (same_Some s (QueueHead old) (sym is ∙ is_head m a owner name))))
      (λ (differs : a ≢ n). ap (λ (i : ℕ). now i a) owner ∙ put_else parts n n (QueueHead new) a differs ∙ ap (λ (i : ℕ). parts i a) (sym owner) ∙ is) (cases_eq a n))
      (λ (differs : m ≢ n). ap (λ (part : Structures). part a) (put_beside parts n n (QueueHead new) m differs) ∙ is) (cases_eq m n)

  bytes_stay : (m a : ℕ) → bytes_in (now m a) ≡ bytes_in (parts m a)
  bytes_stay m a =
      ⊎_elim (λ (owner : m ≡ n).
      ⊎_elim (λ (name : a ≡ n). ap (λ (i : ℕ). bytes_in (now i a)) owner ∙ ap (λ (i : ℕ). bytes_in (now n i)) name ∙ ap bytes_in (put_same parts n n (QueueHead new)) ∙ sym (ap bytes_in (is_head m a owner name)))
      (λ (differs : a ≢ n). ap (λ (i : ℕ). bytes_in (now i a)) owner ∙ ap bytes_in (put_else parts n n (QueueHead new) a differs) ∙ ap (λ (i : ℕ). bytes_in (parts i a)) (sym owner)) (cases_eq a n))
      (λ (differs : m ≢ n). ap (λ (part : Structures). bytes_in (part a)) (put_beside parts n n (QueueHead new) m differs)) (cases_eq m n)

  no_element : (t : Qtd) (q : Qh) → Element t ≢ QueueHead q
  no_element t q same = cc

  no_buffer : (pages : List ℕ) (j : ℕ) (bs : List ℕ) (q : Qh) → Buffer pages j bs ≢ QueueHead q
  no_buffer pages j bs q same = cc

  pub element_before : (m a : ℕ) (t : Qtd) → now m a ≡ Some (Element t) → parts m a ≡ Some (Element t)
  element_before m a t is =
      ⊎_elim (λ (put_there : (m ≡ n) × (a ≡ n) × (Element t ≡ QueueHead new)). absurd (no_element t new put_there.2))
      (λ (was : parts m a ≡ Some (Element t)). was) (put_found parts n n (QueueHead new) m a (Element t) is)

  fed_now : (sort : Sort) (m : ℕ) (note : QtdNote) (b end : ℕ) → IsPieceFed sort (parts m) note b end → IsPieceFed sort (now m) note b end
  fed_now sort m note b end g = record {
    qtd = g.qtd;
    here = stays m (32 * b) (Element g.qtd) (no_element g.qtd) g.here;
    noted = g.noted;
    buffer = λ some.
        let has : HasBuffer (parts m) g.qtd note.told = g.buffer some in
        record { bytes = has.bytes; here = stays m (buffer_name g.qtd) (Buffer (element_pages g.qtd) g.qtd.offset has.bytes) (no_buffer (element_pages g.qtd) g.qtd.offset has.bytes) has.here; size = has.size };
    long = ap length (bytes_stay m (buffer_name g.qtd)) ∙ g.long;
    places = g.places;
    fresh = g.fresh;
    blank = g.blank;
  }

  -- while no transfer is being published
  fed_still : (d : DriverContent) → ((b : ℕ) (words : List ℕ) → d.command ≢ Some (unfinished.Publish b words)) → AreFed d parts → AreFed d now
  fed_still d none k = record {
    dummies = λ e y there kept lent. stays (32 * y.queue) (32 * y.dummy) (Element dummy_qtd) (no_element dummy_qtd) (k.dummies e y there kept lent);
    pieces = λ t j y z there held here from below.
        fed_now y.sort (32 * z.queue) (sized y.sort j (note_at d.notes (piece_at (note_in d.notes) y.first j))) (piece_at (note_in d.notes) y.first j) (piece_at (note_in d.notes) y.first y.qtds)
        (k.pieces t j y z there held here from below);
    publishes = λ b words command. absurd (none b words command);
  }

  last_still : (d : DriverContent) (order : ℕ → ℕ → ℕ) → AreLast d parts order → AreLast d now order
  last_still d order k = record {
    dummies = λ e y there kept lent a t is differs. k.dummies e y there kept lent a t (element_before (32 * y.queue) a t is) differs;
    taken = λ b words t y z command made newest there first here a u is differs. k.taken b words t y z command made newest there first here a u (element_before (32 * z.queue) a u is) differs;
    sorted = k.sorted;
  }

pub head_keeps_queues : HeadKeepsQueues
head_keeps_queues d member streams ends parts order out n old new head none k = record {
  met = k.met;
  streams_are = k.streams_are;
  fed = fed_still parts n old new head d none k.fed;
  last = last_still parts n old new head d order k.last;
  out_are = k.out_are;
}
