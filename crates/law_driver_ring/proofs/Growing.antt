-- A member's part with more structures, of which each qTD is sound and has a buffer of its own.
use Rattle.std.proofs.Common.{◌≡◌, ℕ, ◌⊎◌, Bool, Some, ⊎_elim}
use Rattle.qh_qtd.specs.declared.qtd.Qtd.{Qtd}
use Rattle.law_structures.specs.lent_structures.Structures.{Structure, QueueHead, Element, Buffer, Structures}
use Rattle.law_structures.specs.lent_structures.Sound.{IsSoundElement, AreOwn, IsMember}
use Rattle.law_ring.proofs.Parting.{Spans, sound_spanned, queue_spanned}

-- all that stood stands still
abbrev pub StillHas : Structures → Structures → Type 0
StillHas part now = (a : ℕ) (s : Structure) → part a ≡ Some s → now a ≡ Some s

pub spans_grown : (part now : Structures) → StillHas part now → Spans part now
spans_grown part now still = record {
  element = λ a t here. record { qtd = t; here = still a (Element t) here };
  buffer = λ a pages k bs here. still a (Buffer pages k bs) here;
}

pub member_grown : (member : ℕ → Bool) (n : ℕ) (part now : Structures) → StillHas part now → ((a : ℕ) (t : Qtd) → now a ≡ Some (Element t) → (part a ≡ Some (Element t)) ⊎ IsSoundElement now t) → AreOwn now → IsMember member n part → IsMember member n now
member_grown member n part now still elements own m =
    let spans = spans_grown part now still in
    record {
      queue = m.queue;
      here = still n (QueueHead m.queue) m.here;
      link = m.link;
      sound = queue_spanned part now m.queue spans (λ a t here on. still a (Element t) here) m.sound;
      elements = λ a t found. ⊎_elim (λ (old : part a ≡ Some (Element t)). sound_spanned part now t spans (m.elements a t old)) (λ (new : IsSoundElement now t). new) (elements a t found);
      own = own;
    }
