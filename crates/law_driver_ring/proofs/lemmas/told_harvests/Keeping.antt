-- What is done stays done, and so does what is told of it.
use Rattle.std.proofs.Common.{◌≡◌, ℕ, ◌*◌, false, List, Some, ap, sym, subst, ◌∙◌}
use Rattle.usb_base.specs.declared.packets.Ask.{Ask}
use Rattle.usb_base.specs.declared.packets.Reply.{Reply}
use Rattle.qh_qtd.specs.declared.qtd.Qtd.{Qtd}
use Rattle.law_structures.specs.lent_structures.Structures.{Element, StructureSets}
use Rattle.law_ring.specs.Hand.{Hand}
use Rattle.law_ring.specs.Told.{Told}
use Rattle.law_ring.specs.Streams.{StreamEffect}
use Rattle.law_ring.specs.Streams.StreamEffect.{same, aside, grows}
use Rattle.law_ring.specs.Sparing.{SameHand, SparesHead, SparesElement}
use Rattle.law_ring.proofs.SparedSparing.{spared_is_told}
use Rattle.law_driver_ring.specs.told_harvests.Held.{IsDone}
use Rattle.law_driver_ring.proofs.lemmas.told_harvests.Done.{apart_from_done}

pub events_keep_what_is_done : {W : Type 0} {Beside : Ask → Type 0} (transacts : W → Ask → List ℕ → Reply → W → Type 0)
    (parts : StructureSets) (hand : Hand) (wire after : W) (now : StructureSets) (later : Hand) (n b k : ℕ) (x : List ℕ)
    → ((a : ℕ) (t : Qtd) → parts n a ≡ Some (Element t) → t.token.active ≡ false → now n a ≡ Some (Element t))
    → StreamEffect Beside transacts parts hand wire after now later → IsDone hand parts n b k x → IsDone later now n b k x
events_keep_what_is_done transacts parts hand wire after now later n b k x idle (same s quiet) d = record {
  qtd = d.qtd;
  here = idle (32 * b) d.qtd d.here d.off;
  off = d.off;
  told = s.bytes n (32 * b) x d.told;
  count = d.count;
}
events_keep_what_is_done transacts parts hand wire after now later n b k x idle (aside s ask out answer beside made) d =
    record {
      qtd = d.qtd;
      here = idle (32 * b) d.qtd d.here d.off;
      off = d.off;
      told = s.bytes n (32 * b) x d.told;
      count = d.count;
    }
events_keep_what_is_done transacts parts hand wire after now later n b k x idle (grows m all g) d = record {
  qtd = d.qtd;
  here = idle (32 * b) d.qtd d.here d.off;
  off = d.off;
  told = subst (λ (ps : StructureSets). Told later ps n (32 * b) x) (sym all)
      (g.other_bytes n (32 * b) x (λ both. not_current both.0 both.1) d.told);
  count = d.count;
}
  where
    not_current : n ≡ m.copy.at → 32 * b ≡ m.copy.queue.current → ⊥
    not_current at current =
        apart_from_done m.copy.at (parts m.copy.at) m.copy.queue (32 * b) d.qtd m.part_is m.here
        (ap (λ (i : ℕ). parts i (32 * b)) (sym at) ∙ d.here) d.off m.works (sym current)

pub spared_is_done : (hand later : Hand) (parts now : StructureSets) (n b k : ℕ) (x : List ℕ) → SameHand hand later → SparesHead parts now n → SparesElement parts now n (32 * b) → IsDone hand parts n b k x → IsDone later now n b k x
spared_is_done hand later parts now n b k x alike head element d = record {
  qtd = d.qtd;
  here = element.element d.qtd d.here;
  off = d.off;
  told = spared_is_told hand later parts now n (32 * b) x alike head element d.told;
  count = d.count;
}
