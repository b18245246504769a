-- Each event of the walk leaves how far each structure reaches.
use Rattle.std.proofs.Common.{◌≡◌, ℕ, zero, suc, ◌*◌, List, ap, refl, sym, subst, ◌∙◌, inl, inr, arith}
use Rattle.law_driver_ring.proofs.Common.{extents_same, extents_both, extents_put, extents_buffer}
use Rattle.usb_base.specs.declared.packets.Ask.{Ask}
use Rattle.usb_base.specs.declared.packets.Reply.{Reply}
use Rattle.mem_bytes.specs.Bytes.{place}
use Rattle.qh_qtd.specs.declared.qtd.Qtd.{Qtd}
use Rattle.qh_qtd.specs.declared.queue_head.Qh.{Qh}
use Rattle.hc_copy.specs.Overlay.{advanced, moved}
use Rattle.hc_copy.specs.WriteBack.{moved_by}
use Rattle.claims_driver.specs.Owners.{NoteRuns, IsPieceOf}
use Rattle.law_structures.specs.lent_structures.Structures.{QueueHead, Element, StructureSets, put}
use Rattle.law_structures.specs.lent_structures.Changes.{relinked, overwritten}
use Rattle.law_structures.proofs.lemmas.lent_structures.Storing.{length-overwritten}
use Rattle.law_structures.specs.lent_structures.WriteBack.{Received, Nothing, Into, IsReceived, received_parts, qtd_after}
use Rattle.law_ring.specs.Hand.{settled_queue_of}
use Rattle.law_ring.specs.Effects.{received_into}
use Rattle.law_ring.specs.Effects.Effect.{reads, passes, ends, takes, makes, writes_back}
use Rattle.law_driver_ring.specs.Inventory.{IsTransferIn}
use Rattle.law_driver_ring.specs.Extents.{KeepExtents, ExtentsStay, WalkKeepsExtents}

-- ---- what stays of the bounds

piece_same : (note other : ℕ → NoteRuns) (b n c : ℕ) → ((k : ℕ) → other k ≡ note k) → IsPieceOf other b n c → IsPieceOf note b n c
piece_same note other b zero c same is = is
piece_same note other b (suc n) c same (inl is) = inl is
piece_same note other b (suc n) c same (inr is) = inr (piece_same note other (note b).next n c same (subst (λ (r : NoteRuns). IsPieceOf other r.next n c) (same b) is))

pub extents_stay : ExtentsStay
extents_stay v w parts now runs keep lies = record {
  list = λ ws here. let was = keep.tables 0 0 ws here in let size = was.size in let most = lies.list was.words was.here in omega (arith, size, most);
  buffers = λ t b c cs y x pages k bs is piece first here j has.
      let was = keep.buffers (32 * x.queue) (32 * c) pages k bs here in
      let before : IsTransferIn v t y x = record {
        here = sym (runs.transfers t) ∙ is.here;
        held = is.held;
        qtds = is.qtds;
        queue = record { here = sym (runs.endpoints y.endpoint) ∙ is.queue.here; queued = is.queue.queued };
      } in
      let inside = lies.buffers t b c cs y x pages k was.bytes before (piece_same v.note w.note y.first y.qtds b runs.notes piece) (ap (λ (r : NoteRuns). r.buffer) (sym (runs.notes b)) ∙ first) was.here j
      (has.0, (let size = was.size in let below = has.1 in omega (arith, size, below)), has.2) in
      record { at = inside.at; among = inside.among; has = runs.slots inside.at j inside.has };
}

-- ---- one structure is put

itself : (parts : StructureSets) → KeepExtents parts parts
itself parts = record { buffers = λ n a pages k bs here. record { bytes = bs; here = here; size = refl }; tables = λ n a ws here. record { words = ws; here = here; size = refl } }

pub head_put : (parts : StructureSets) (m b : ℕ) (q : Qh) → KeepExtents parts (put parts m b (QueueHead q))
head_put parts m b q = extents_put parts m b (QueueHead q) (λ pages k bs e. cc) (λ ws e. cc)

pub element_put : (parts : StructureSets) (m b : ℕ) (t : Qtd) → KeepExtents parts (put parts m b (Element t))
element_put parts m b t = extents_put parts m b (Element t) (λ pages k bs e. cc) (λ ws e. cc)

received_keeps : (parts : StructureSets) (n : ℕ) (c : Qh) (got : List ℕ) (r : Received) → IsReceived (parts n) c got r → KeepExtents parts (received_parts parts n got r)
received_keeps parts n c got Nothing is = itself parts
received_keeps parts n c got (Into pages k bs j) is = extents_buffer parts n (place pages k) pages k bs (overwritten bs j got) is.buffer (length-overwritten bs j got is.fits)

-- ---- an event

pub walk_keeps_extents : {W : Type 0} (transacts : W → Ask → List ℕ → Reply → W → Type 0) → WalkKeepsExtents transacts
walk_keeps_extents transacts member parts hand reply wire after now later kind in_hand (reads r all quiet) = extents_same parts now all
walk_keeps_extents transacts member parts hand reply wire after now later kind in_hand (passes r all quiet) = extents_same parts now all
walk_keeps_extents transacts member parts hand reply wire after now later kind in_hand (ends r all quiet) = extents_same parts now all
walk_keeps_extents transacts member parts hand reply wire after now later kind in_hand (makes m all) = extents_same parts now all
walk_keeps_extents transacts member parts hand reply wire after now later kind in_hand (takes t quiet) =
    subst (KeepExtents parts) (sym t.now_is) (head_put parts t.copy.at t.copy.at (advanced t.copy.queue t.element t.qtd))
walk_keeps_extents transacts member parts hand reply wire after now later kind in_hand (writes_back w quiet) =
    let x : Qh = settled_queue_of w.copy w.settled in
    let r : Received = received_into (parts w.copy.at) w.copy.queue w.element w.settled.got in
    let one : StructureSets = received_parts parts w.copy.at w.settled.got r in
    let two : StructureSets = put one w.copy.at w.copy.at (QueueHead (relinked w.copy.queue (moved x (moved_by w.settled.outcome)))) in
    subst (KeepExtents parts) (sym w.now_is)
    (extents_both parts one (put two w.copy.at x.current (Element (qtd_after (moved x (moved_by w.settled.outcome)) w.element)))
    (received_keeps parts w.copy.at x w.settled.got r w.received_is)
    (extents_both one two (put two w.copy.at x.current (Element (qtd_after (moved x (moved_by w.settled.outcome)) w.element)))
    (head_put one w.copy.at w.copy.at (relinked w.copy.queue (moved x (moved_by w.settled.outcome))))
    (element_put two w.copy.at x.current (qtd_after (moved x (moved_by w.settled.outcome)) w.element))))
