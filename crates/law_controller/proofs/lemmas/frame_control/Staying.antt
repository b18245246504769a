-- The parts of which an event of the ring's walk changes nothing.
use Rattle.std.proofs.Common.{◌≡◌, ◌≢◌, ℕ, Bool, true, List, ap, subst, ◌∙◌}
use Rattle.usb_base.specs.declared.packets.Ask.{Ask}
use Rattle.usb_base.specs.declared.packets.Reply.{Reply}
use Rattle.hc_copy.specs.Overlay.{advanced}
use Rattle.hc_copy.specs.WriteBack.{moved_by}
use Rattle.async_walk.specs.declared.state.WalkStep.{WalkStep}
use Rattle.async_walk.specs.Rows.{WalkPlace}
use Rattle.law_structures.specs.lent_structures.Structures.{QueueHead, StructureSets}
use Rattle.law_structures.proofs.lemmas.lent_structures.Names.{put_beside}
use Rattle.law_structures.proofs.lemmas.lent_structures.Found.{back_beside}
use Rattle.law_ring.specs.Hand.{Copy, Settlement, settled_queue_of, Hand, Copied, Settled}
use Rattle.claims_base.specs.Controller.{Base}
use Rattle.law_ring.specs.Ring.{IsCopied, IsSettled, IsInHand, IsRing}
use Rattle.law_ring.specs.Effects.{received_into, Effect, reads, passes, ends, takes, makes, writes_back}

-- ---- by an event of the ring's walk, those of what is no queue head of the ring

copied_on : (base : Base) (member : ℕ → Bool) (parts : StructureSets) (hand : Hand) (p : WalkPlace) (c : Copy) → IsRing base member parts hand p → hand ≡ Copied c → member c.at ≡ true
copied_on base member parts hand p c k is = let copied : IsCopied member parts c = subst (IsInHand member parts p.walk.reply) is k.in_hand in copied.on

settled_on : (base : Base) (member : ℕ → Bool) (parts : StructureSets) (hand : Hand) (p : WalkPlace) (c : Copy) (s : Settlement) → IsRing base member parts hand p → hand ≡ Settled c s → member c.at ≡ true
settled_on base member parts hand p c s k is = let both : IsCopied member parts c × IsSettled c.queue p.walk.reply s = subst (IsInHand member parts p.walk.reply) is k.in_hand in both.0.on

pub ring_leaves : {W : Type 0} (transacts : W → Ask → List ℕ → Reply → W → Type 0) (base : Base) (member : ℕ → Bool) (parts : StructureSets) (hand : Hand) (p : WalkPlace) (wire after : W) (now : StructureSets) (later : Hand) (kind : WalkStep) (n : ℕ)
    → IsRing base member parts hand p → Effect transacts parts hand wire after now later kind → ((a : ℕ) → member a ≡ true → n ≢ a) → now n ≡ parts n
ring_leaves transacts base member parts hand p wire after now later _ n k (reads r same quiet) other = ap (λ (x : StructureSets). x n) same
ring_leaves transacts base member parts hand p wire after now later _ n k (passes r same quiet) other = ap (λ (x : StructureSets). x n) same
ring_leaves transacts base member parts hand p wire after now later _ n k (ends r same quiet) other = ap (λ (x : StructureSets). x n) same
ring_leaves transacts base member parts hand p wire after now later _ n k (makes r same) other = ap (λ (x : StructureSets). x n) same
ring_leaves transacts base member parts hand p wire after now later _ n k (takes r quiet) other =
    ap (λ (x : StructureSets). x n) r.now_is
    ∙ put_beside parts r.copy.at r.copy.at (QueueHead (advanced r.copy.queue r.element r.qtd)) n (other r.copy.at (copied_on base member parts hand p r.copy k r.in_hand))
ring_leaves transacts base member parts hand p wire after now later _ n k (writes_back r quiet) other =
    ap (λ (x : StructureSets). x n) r.now_is
    ∙ back_beside parts r.copy.at r.copy.at r.copy.queue (settled_queue_of r.copy r.settled) (moved_by r.settled.outcome) r.settled.got (received_into (parts r.copy.at) r.copy.queue r.element r.settled.got) r.element n
    (other r.copy.at (settled_on base member parts hand p r.copy r.settled k r.in_hand))
