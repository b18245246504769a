-- The controller leaves a new endpoint, which it doesn't meet yet.
use Rattle.std.proofs.Common.{◌≡◌, ◌≢◌, ℕ, ◌+◌, ◌*◌, ◌/◌, Bool, false, List, ap, sym, subst, ◌∙◌, arith}
use Rattle.std.proofs.lemmas.Bool.{true≢false}
use Rattle.law_driver_ring.proofs.Common.{settled_there, not_reached}
use Rattle.usb_base.specs.declared.packets.Ask.{Ask}
use Rattle.usb_base.specs.declared.packets.Reply.{Reply}
use Rattle.word_mem.proofs.Words.{words_in_same}
use Rattle.hc_copy.specs.Overlay.{advanced}
use Rattle.hc_copy.specs.WriteBack.{moved_by}
use Rattle.async_walk.specs.declared.state.WalkStep.{WalkStep}
use Rattle.async_walk.specs.Rows.{WalkPlace}
use Rattle.law_structures.specs.lent_structures.Structures.{QueueHead, StructureSets}
use Rattle.law_structures.proofs.lemmas.lent_structures.Names.{put_beside}
use Rattle.law_structures.proofs.lemmas.lent_structures.Found.{back_beside}
use Rattle.law_ring.specs.Hand.{Copy, settled_queue_of, Hand, Copied}
use Rattle.claims_base.specs.Controller.{Base}
use Rattle.law_ring.specs.Ring.{IsCopied, IsInHand, IsRing}
use Rattle.law_ring.specs.Effects.{received_into, Effect, reads, passes, ends, takes, makes, writes_back}
use Rattle.law_driver_ring.specs.Beside.{OpenedStays}
use Rattle.law_driver_ring.proofs.LendOpening.{two_runs}

pub opened_stays : OpenedStays
opened_stays d m new e x q opened has stands same =
    let runs = two_runs d m e x q opened has stands in
    let f = runs.first in
    let n = runs.two in
    let s = runs.second in
    let k = runs.one in
    record {
      here = opened.here;
      taken = opened.taken;
      queue_kept = opened.queue_kept;
      dummy_kept = opened.dummy_kept;
      no_transfer = opened.no_transfer;
      queue_words =
          words_in_same m.words new.words (32 * x.queue) 12
          (λ i below. same (32 * x.queue + 4 * i) (not_reached m (32 * x.queue + 4 * i) (runs.queue_kept ((32 * x.queue + 4 * i) / 32) (omega (arith, f)) (omega (arith, f, n, below)))))
          ∙ opened.queue_words;
      dummy_words =
          words_in_same m.words new.words (32 * x.dummy) 8
          (λ i below. same (32 * x.dummy + 4 * i) (not_reached m (32 * x.dummy + 4 * i) (runs.dummy_kept ((32 * x.dummy + 4 * i) / 32) (omega (arith, s)) (omega (arith, s, k, below)))))
          ∙ opened.dummy_words;
      range = opened.range;
    }

-- ---- of whom the walk doesn't meet nothing changes

not_met : (member : ℕ → Bool) (parts : StructureSets) (c : Copy) (n : ℕ) → IsCopied member parts c → member n ≡ false → n ≢ c.at
not_met member parts c n copied off same = true≢false (sym copied.on ∙ ap member (sym same) ∙ off)

copied_there : (base : Base) (member : ℕ → Bool) (parts : StructureSets) (hand : Hand) (p : WalkPlace) (c : Copy) → IsRing base member parts hand p → hand ≡ Copied c → IsCopied member parts c
copied_there base member parts hand p c k is = subst (IsInHand member parts p.walk.reply) is k.in_hand

pub stranger_stays : {W : Type 0} (transacts : W → Ask → List ℕ → Reply → W → Type 0) (base : Base) (member : ℕ → Bool) (parts : StructureSets) (hand : Hand) (p : WalkPlace) (wire after : W) (now : StructureSets) (later : Hand) (kind : WalkStep) (n : ℕ) → IsRing base member parts hand p → Effect transacts parts hand wire after now later kind → member n ≡ false → now n ≡ parts n
stranger_stays transacts base member parts hand p wire after now later _ n k (reads r same quiet) off = ap (λ (x : StructureSets). x n) same
stranger_stays transacts base member parts hand p wire after now later _ n k (passes r same quiet) off = ap (λ (x : StructureSets). x n) same
stranger_stays transacts base member parts hand p wire after now later _ n k (ends r same quiet) off = ap (λ (x : StructureSets). x n) same
stranger_stays transacts base member parts hand p wire after now later _ n k (makes r same) off = ap (λ (x : StructureSets). x n) same
stranger_stays transacts base member parts hand p wire after now later _ n k (takes r quiet) off =
    let differs = not_met member parts r.copy n (copied_there base member parts hand p r.copy k r.in_hand) off in
    ap (λ (x : StructureSets). x n) r.now_is ∙ put_beside parts r.copy.at r.copy.at (QueueHead (advanced r.copy.queue r.element r.qtd)) n differs
stranger_stays transacts base member parts hand p wire after now later _ n k (writes_back r quiet) off =
    let differs = not_met member parts r.copy n (settled_there base member parts hand p r.copy r.settled k r.in_hand) off in
    ap (λ (x : StructureSets). x n) r.now_is
    ∙ back_beside parts r.copy.at r.copy.at r.copy.queue (settled_queue_of r.copy r.settled) (moved_by r.settled.outcome) r.settled.got (received_into (parts r.copy.at) r.copy.queue r.element r.settled.got) r.element n differs
