-- Steps that change links alone.
use Rattle.std.proofs.Common.{◌≡◌, ℕ, ◌*◌, Bool, Some, ⊎_elim, inl}
use Rattle.qh_qtd.specs.declared.qtd.Qtd.{Qtd}
use Rattle.qh_qtd.specs.declared.queue_head.Qh.{Qh}
use Rattle.drv_table.specs.DriverContent.{DriverContent}
use Rattle.drv_table.specs.Words.{to_queue_head}
use Rattle.law_structures.specs.lent_structures.Structures.{QueueHead, Element, StructureSets}
use Rattle.law_structures.proofs.lemmas.lent_structures.Names.{put_found}
use Rattle.law_ring.specs.Hand.{Hand}
use Rattle.law_ring.specs.Told.{Endpoint as Told}
use Rattle.law_ring.proofs.SparedSparing.{spared_endpoint}
use Rattle.law_controller.specs.frame_control.Joined.{joined}
use Rattle.law_frames.specs.FrameHand.{FrameHand}
use Rattle.law_world.specs.steps.unlinked_streams.Unlinks.{IsAtUnlink, parts_unlinked, hand_unlinked}
use Rattle.law_world.proofs.lemmas.steps.lemmas.unlinked_streams.Streams.{unlink_spares_heads, unlink_spares_elements}
use Rattle.law_world.specs.memory.Mixed.{Standing}
use Rattle.law_world.specs.memory.Steps.{AreTold}
use Rattle.law_world.specs.memory.pipe_steps.Laws.{StaysTellsOneHand}
use Rattle.law_world.proofs.lemmas.memory.StepTelling.{spares_head, spares_element, tells_same}
use Rattle.law_world.proofs.lemmas.memory.lemmas.pipe_steps.Hands.{TellsAlike, alike_linked, stays_alike, ring_alike}
use Rattle.law_world.proofs.lemmas.memory.lemmas.pipe_steps.Sparing.{Spares}

-- nothing is told otherwise
pub stays_spares : (sends takes : ℕ → ℕ → Bool) (ins outs : ℕ → Bool) (ends : ℕ → Told) (s t : Standing) → AreTold s t
    → Spares sends takes s.near ins outs ends s.parts t.parts (joined s.hand s.frame) (joined t.hand t.frame)
stays_spares sends takes ins outs ends s t k =
    let alike : TellsAlike (joined s.hand s.frame) (joined t.hand t.frame) = stays_alike s.hand t.hand s.frame t.frame k.hand k.frame in
    record {
      hands = alike.hands;
      unmoved = λ n on. alike.unmoved n;
      named = λ n x met has. spared_endpoint s.parts t.parts n x (spares_head s.parts t.parts k.parts n) has;
      heads = λ n met on. spares_head s.parts t.parts k.parts n;
      work = λ n q met on here active. spares_element s.parts t.parts k.parts n q.current;
      asks = λ n a u met here active. inl ((k.parts n).elements_were a u here);
    }

pub stays_tells_one_hand : StaysTellsOneHand
stays_tells_one_hand s t k =
    let alike : TellsAlike (joined s.hand s.frame) (joined t.hand t.frame) = stays_alike s.hand t.hand s.frame t.frame k.hand k.frame in
    tells_same s.parts t.parts k.parts (joined s.hand s.frame) (joined t.hand t.frame) alike.hands

-- a queue head leaves the ring
module _ (d : DriverContent) (near : ℕ → Bool) (parts : StructureSets) (k : IsAtUnlink d near parts) where
  abbrev now : StructureSets
  now = parts_unlinked parts k.before k.queue k.after

  no_head : (q : Qh) (u : Qtd) → Element u ≡ QueueHead q → ⊥
  no_head q u e = cc

  was : (n a : ℕ) (u : Qtd) → now n a ≡ Some (Element u) → parts n a ≡ Some (Element u)
  was n a u found =
      ⊎_elim
      (λ (is : (n ≡ 32 * k.before) × (a ≡ 32 * k.before) × (Element u ≡ QueueHead (record k.queue { link = to_queue_head k.after }))).
      absurd (no_head (record k.queue { link = to_queue_head k.after }) u is.2)) (λ (before : parts n a ≡ Some (Element u)). before)
      (put_found parts (32 * k.before) (32 * k.before) (QueueHead (record k.queue { link = to_queue_head k.after })) n a (Element u) found)

  pub unlink_spares : (sends takes : ℕ → ℕ → Bool) (ins outs : ℕ → Bool) (ends : ℕ → Told) (hand : Hand) (frame : FrameHand)
      → Spares sends takes near ins outs ends parts (parts_unlinked parts k.before k.queue k.after) (joined hand frame)
      (joined (hand_unlinked hand k.before k.after) frame)
  unlink_spares sends takes ins outs ends hand frame =
      let alike : TellsAlike (joined hand frame) (joined (hand_unlinked hand k.before k.after) frame) =
      ring_alike hand (hand_unlinked hand k.before k.after) frame (alike_linked (32 * k.before) (to_queue_head k.after) hand) in
      record {
        hands = alike.hands;
        unmoved = λ n on. alike.unmoved n;
        named = λ n x met has. spared_endpoint parts now n x (unlink_spares_heads d near parts k n) has;
        heads = λ n met on. unlink_spares_heads d near parts k n;
        work = λ n q met on here active. unlink_spares_elements d near parts k n q.current;
        asks = λ n a u met here active. inl (was n a u here);
      }
