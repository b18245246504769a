-- Lemmas that several files need.
use Rattle.std.proofs.Common.{None, ◌≡◌, Some, ap, ℕ, List, ◌≢◌, ◌∙◌, ◌<◌, arith, Bool, true, refl, false, sym, ◌≤◌}
use Rattle.std.proofs.lemmas.List.{get_or-set_other}
use Rattle.mem_bytes.specs.Bytes.{place}
use Rattle.itd_sitd.specs.Itd.{slot_of}
use Rattle.itd_sitd.specs.Slot.{no_slot}
use Rattle.itd_sitd.specs.declared.itd.Itd.{Itd}
use Rattle.itd_sitd.specs.declared.sitd.Sitd.{Sitd}
use Rattle.qh_qtd.specs.declared.queue_head.Qh.{Qh}
use Rattle.hc_copy.specs.declared.held.Transaction.{Transaction}
use Rattle.hc_copy.specs.Planning.{carries}
use Rattle.hc_interrupt.specs.Turns.{microframe_of, planned}
use Rattle.hc_iso.specs.WriteBack.{done_slot}
use Rattle.hc_iso.specs.Sitd.{turn_at}
use Rattle.periodic_walk.specs.Walk.{Walk}
use Rattle.law_structures.specs.lent_structures.Structures.{StructureSets, Structure, Buffer, Isochronous, SplitIsochronous, QueueHead}
use Rattle.law_structures.specs.lent_structures.WriteBack.{Received, received_parts, Nothing, Into}
use Rattle.law_structures.proofs.lemmas.lent_structures.Names.{put_else, names_differ}
use Rattle.law_structures.specs.lent_structures.Changes.{overwritten}
use Rattle.law_structures.proofs.Common.{few_if}
use Rattle.law_frames.specs.Met.{Kind}
use Rattle.law_frames.specs.FrameHand.{SitdCopy, ItdCopy}
use Rattle.law_frames.specs.FrameEffects.{IsWrittenFrom, made, missed, AreReceivedAt, itd_back}
use Rattle.hc_iso.specs.declared.held.SitdTurn.TheVariants as turns

pub none_some : (k : Kind) → None ≡ Some k → ⊥
none_some k e = cc

pub written_from : (w : Walk) (copy back : SitdCopy) → IsWrittenFrom w copy back → back.held.at ≡ copy.held.at
written_from w copy back (made is) = ap (λ (c : SitdCopy). c.held.at) is
written_from w copy back (missed unsettled turn is) = ap (λ (c : SitdCopy). c.held.at) is

pub received_else : (parts : StructureSets) (n : ℕ) (pages : List ℕ) (from : ℕ) (got : List ℕ) (r : Received) (b : ℕ) (s : Structure)
    → AreReceivedAt (parts n) pages from got r → parts n b ≡ Some s
    → ((ps : List ℕ) (k : ℕ) (bs : List ℕ) → s ≢ Buffer ps k bs) → received_parts parts n got r n b ≡ Some s
received_else parts n pages from got Nothing b s none here other = here
received_else parts n pages from got (Into into k bs j) b s is here other =
    put_else parts n (place into k) (Buffer into k (overwritten bs j got)) b
    (names_differ (parts n) b (place into k) s (Buffer into k bs) here is.buffer (other into k bs)) ∙ here

pub early_below : (f : ℕ) → microframe_of f < 8
early_below f = omega arith

pub slot_same : (c : ItdCopy) (u : ℕ) → u ≢ c.held.number → slot_of u (itd_back c) ≡ slot_of u c.itd
slot_same c u differs = get_or-set_other c.itd.slots c.held.number u (done_slot c.held) no_slot differs

pub itd_is_no_buffer : (v : Itd) (pages : List ℕ) (k : ℕ) (bs : List ℕ) → Isochronous v ≢ Buffer pages k bs
itd_is_no_buffer v pages k bs same = cc

pub sitd_is_no_buffer : (v : Sitd) (pages : List ℕ) (k : ℕ) (bs : List ℕ) → SplitIsochronous v ≢ Buffer pages k bs
sitd_is_no_buffer v pages k bs same = cc

pub missing : (b lost now : Bool) → turn_at b lost now ≡ turns.Miss → b ≡ true
missing true lost now is = refl
missing false lost now is = cc

pub no_itd : (parts : StructureSets) (n : ℕ) (q : Qh) (c : ItdCopy) → parts n n ≡ Some (QueueHead q)
    → parts c.held.at c.held.at ≡ Some (Isochronous c.itd) → n ≢ c.held.at
no_itd parts n q c here there same = let e : Some (QueueHead q) ≡ Some (Isochronous c.itd) = sym here ∙ ap (λ (i : ℕ). parts i i) same
    ∙ there in cc

pub no_sitd : (parts : StructureSets) (n : ℕ) (q : Qh) (c : SitdCopy) → parts n n ≡ Some (QueueHead q)
    → parts c.held.at c.held.at ≡ Some (SplitIsochronous c.sitd) → n ≢ c.held.at
no_sitd parts n q c here there same = let e : Some (QueueHead q) ≡ Some (SplitIsochronous c.sitd) = sym here
    ∙ ap (λ (i : ℕ). parts i i) same ∙ there in cc

pub bytes_few : (q : Qh) → (planned q).bytes ≤ q.token.total
bytes_few q = let t : Transaction = planned q in few_if (carries t.split t.pipe.pid t.host.ping) t.host
