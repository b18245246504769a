-- An event alters no more of each queue head's structures than the controller may.
use Rattle.std.proofs.Common.{◌≡◌, ◌≢◌, ℕ, Bool, List, length, Option, Some, ap, refl, sym, subst, ◌∙◌, ⊎_elim}
use Rattle.std.proofs.lemmas.Bool.{cases_eq}
use Rattle.usb_base.specs.declared.packets.Ask.{Ask}
use Rattle.usb_base.specs.declared.packets.Reply.{Reply}
use Rattle.hc_copy.specs.Overlay.{advanced}
use Rattle.async_walk.specs.declared.state.WalkStep.{WalkStep}
use Rattle.law_structures.specs.lent_structures.Structures.{Structure, QueueHead, Buffer, Structures, StructureSets, put}
use Rattle.law_structures.proofs.lemmas.lent_structures.Names.{put_here, put_beside}
use Rattle.law_structures.specs.lent_structures.WriteBack.{CanBeWritten}
use Rattle.law_structures.specs.lent_structures.Alters.{Alters}
use Rattle.law_structures.proofs.lemmas.lent_structures.Altering.{unaltered, a_queue_head_alters_nothing}
use Rattle.law_ring.specs.Hand.{settled_queue_of, Hand}
use Rattle.law_ring.specs.Ring.{IsCopied, IsSettled, IsInHand}
use Rattle.law_ring.specs.Effects.{bytes_in, received_into, Effect}
use Rattle.law_ring.specs.Effects.Effect.{reads, passes, ends, takes, makes, writes_back}
use Rattle.law_ring.proofs.Writing.{settled_copy, settled_range, all_parts, all_alters, all_beside}

-- ---- an event alters no more than it may

same_alters : (parts now : StructureSets) (n : ℕ) → now ≡ parts → Alters (parts n) (now n)
same_alters parts now n same = subst (λ (ps : StructureSets). Alters (parts n) (ps n)) (sym same) (unaltered (parts n))

one_alters : (parts now : StructureSets) (a : ℕ) → Alters (parts a) (now a) → ((n : ℕ) → n ≢ a → now n ≡ parts n) → (n : ℕ) → Alters (parts n) (now n)
one_alters parts now a at others n =
    ⊎_elim (λ (same : n ≡ a). subst (λ (k : ℕ). Alters (parts k) (now k)) (sym same) at)
    (λ (differs : n ≢ a). subst (Alters (parts n)) (sym (others n differs)) (unaltered (parts n))) (cases_eq n a)

pub effect_alters : {W : Type 0} (transacts : W → Ask → List ℕ → Reply → W → Type 0) (member : ℕ → Bool) (parts : StructureSets) (hand : Hand) (reply : Reply) (wire after : W) (now : StructureSets) (later : Hand) (kind : WalkStep) → IsInHand member parts reply hand → Effect transacts parts hand wire after now later kind → (n : ℕ) → Alters (parts n) (now n)
effect_alters transacts member parts hand reply wire after now later kind in_hand (reads k all quiet) n = same_alters parts now n all
effect_alters transacts member parts hand reply wire after now later kind in_hand (passes k all quiet) n = same_alters parts now n all
effect_alters transacts member parts hand reply wire after now later kind in_hand (ends k all quiet) n = same_alters parts now n all
effect_alters transacts member parts hand reply wire after now later kind in_hand (makes k all) n = same_alters parts now n all
effect_alters transacts member parts hand reply wire after now later kind in_hand (takes k quiet) n =
    let copied : IsCopied member parts k.copy = subst (IsInHand member parts reply) k.in_hand in_hand in
    let new : Structure = QueueHead (advanced k.copy.queue k.element k.qtd) in
    subst (λ (ps : StructureSets). Alters (parts n) (ps n)) (sym k.now_is)
    (one_alters parts (put parts k.copy.at k.copy.at new) k.copy.at
    (subst (Alters (parts k.copy.at)) (sym (put_here parts k.copy.at k.copy.at new)) (a_queue_head_alters_nothing (parts k.copy.at) k.copy.at k.copy.queue (advanced k.copy.queue k.element k.qtd) copied.here))
    (λ i differs. put_beside parts k.copy.at k.copy.at new i differs) n)
effect_alters transacts member parts hand reply wire after now later kind in_hand (writes_back k quiet) n =
    let both : IsCopied member parts k.copy × IsSettled k.copy.queue reply k.settled = subst (IsInHand member parts reply) k.in_hand in_hand in
    let can : CanBeWritten parts k.copy.at k.copy.at k.copy.queue (settled_queue_of k.copy k.settled) k.settled.got (received_into (parts k.copy.at) k.copy.queue k.element k.settled.got) k.element = record {
      copy = record { head = both.0.here; range = settled_range k.copy k.settled reply both.0.range both.1; front = (settled_copy k.copy k.settled).front };
      element = ap (parts k.copy.at) (settled_copy k.copy k.settled).current ∙ k.here;
      received = k.received_is;
    } in
    subst (λ (ps : StructureSets). Alters (parts n) (ps n)) (sym k.now_is)
    (one_alters parts (all_parts parts k.copy k.settled (received_into (parts k.copy.at) k.copy.queue k.element k.settled.got) k.element) k.copy.at (all_alters parts k.copy k.settled k.element (received_into (parts k.copy.at) k.copy.queue k.element k.settled.got) can)
    (λ i differs. all_beside parts k.copy k.settled k.element (received_into (parts k.copy.at) k.copy.queue k.element k.settled.got) i differs) n)

-- ---- how many bytes a buffer has

lengths_by : (part now : Structures) (a : ℕ) (o p : Option Structure) → part a ≡ o → now a ≡ p → Alters part now → length (bytes_in p) ≡ length (bytes_in o)
lengths_by part now a o (Some (Buffer pages k cs)) was is alters =
    let had = alters.buffer_before a pages k cs is in sym had.size ∙ ap length (sym (ap bytes_in (sym was ∙ had.here)))
lengths_by part now a (Some (Buffer pages k bs)) p was is alters =
    let has = alters.buffer a pages k bs was in ap length (ap bytes_in (sym is ∙ has.here)) ∙ has.size
lengths_by part now a _ _ was is alters = refl

pub length_still : (part now : Structures) (a : ℕ) → Alters part now → length (bytes_in (now a)) ≡ length (bytes_in (part a))
length_still part now a alters = lengths_by part now a (part a) (now a) refl refl alters
