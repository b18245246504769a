-- What is told is read, and the controller isn't refused.
use Rattle.std.proofs.Common.{◌≡◌, ℕ, ◌+◌, ◌/◌, ◌<◌, ◌≤◌, Bool, true, List, length, take, drop, get_or, Some, None, if◌then◌else◌, ap, sym, subst, ◌∙◌, arith}
use Rattle.std.specs.Result.{result_ok}
use Rattle.std.proofs.lemmas.List.{places, length-take, length-drop}
use Rattle.std.proofs.lemmas.Option.{slice_get_within}
use Rattle.word_mem.specs.Memory.{Mem, IsShaped, reaches, refused}
use Rattle.word_mem.specs.Views.{words_at, byte_at}
use Rattle.word_mem.specs.declared.blocks.BlockState.TheVariants.{Lent}
use Rattle.word_mem.proofs.Frames.{lent_if_reached}
use Rattle.mem_bytes.specs.Bytes.{place, bytes_at, all_reached, AreReached, AreThere}
use Rattle.mem_bytes.proofs.Reach.{all_reached_if}
use Rattle.mem_bytes.proofs.Loads.{bytes_at_is, get_or-bytes_at}
use Rattle.qh_qtd.specs.declared.qtd.Qtd.{Qtd}
use Rattle.qh_qtd.specs.declared.queue_head.Qh.{Qh}
use Rattle.qh_qtd.specs.Qtd.{qtd_read}
use Rattle.qh_qtd.specs.QueueHead.{qh_read}
use Rattle.qh_qtd.proofs.QhLaws.{qh_read-words}
use Rattle.qh_qtd.proofs.QtdLaws.{qtd_read-words}
use Rattle.itd_sitd.specs.declared.itd.Itd.{Itd}
use Rattle.itd_sitd.specs.declared.sitd.Sitd.{Sitd}
use Rattle.itd_sitd.specs.Itd.{itd_read}
use Rattle.itd_sitd.specs.Sitd.{sitd_read}
use Rattle.itd_sitd.proofs.ItdLaws.{itd_read-words}
use Rattle.itd_sitd.proofs.SitdLaws.{sitd_read-words}
use Rattle.mem_queues.specs.Structures.{qtd_at_address, qtd_was_read, reaches_queue_head, queue_head_at_address, queue_head_was_read}
use Rattle.mem_descriptors.specs.Descriptors.{itd_at_address, itd_was_read, sitd_at_address, sitd_was_read}
use Rattle.law_structures.specs.lent_structures.Structures.{StructureSets, QueueHead, Element, Buffer, Isochronous, SplitIsochronous, HoldsQueueHead, HoldsElement, HoldsBuffer, HoldsIsochronous, HoldsSplitIsochronous, AreSeparate, Tells}

-- ---- structures of words

pub head_there : (m : Mem) (a : ℕ) (q : Qh) → HoldsQueueHead m a q → queue_head_at_address m a ≡ Some q
head_there m a q h =
    ap (λ (b : Bool). if b then result_ok (qh_read (words_at m a 12)) else None) h.lent
    ∙ ap (λ ws. result_ok (qh_read ws)) h.words ∙ ap result_ok (qh_read-words q h.range)

pub element_there : (m : Mem) (a : ℕ) (t : Qtd) → HoldsElement m a t → qtd_at_address m a ≡ Some t
element_there m a t h =
    ap (λ (b : Bool). if b then result_ok (qtd_read (words_at m a 8)) else None) h.lent
    ∙ ap (λ ws. result_ok (qtd_read ws)) h.words ∙ ap result_ok (qtd_read-words t h.range)

pub itd_there : (m : Mem) (a : ℕ) (v : Itd) → HoldsIsochronous m a v → itd_at_address m a ≡ Some v
itd_there m a v h =
    ap (λ (b : Bool). if b then result_ok (itd_read (words_at m a 16)) else None) h.lent
    ∙ ap (λ ws. result_ok (itd_read ws)) h.words ∙ ap result_ok (itd_read-words v h.range)

pub sitd_there : (m : Mem) (a : ℕ) (v : Sitd) → HoldsSplitIsochronous m a v → sitd_at_address m a ≡ Some v
sitd_there m a v h =
    ap (λ (b : Bool). if b then result_ok (sitd_read (words_at m a 7)) else None) h.lent
    ∙ ap (λ ws. result_ok (sitd_read ws)) h.words ∙ ap result_ok (sitd_read-words v h.range)

pub head_read : (m : Mem) (parts : StructureSets) (n a : ℕ) (q : Qh) → Tells m parts → parts n a ≡ Some (QueueHead q) → queue_head_at_address m a ≡ Some q
head_read m parts n a q t here = head_there m a q (t.each n a (QueueHead q) here)

pub head_reached : (m : Mem) (parts : StructureSets) (n a : ℕ) (q : Qh) → Tells m parts → parts n a ≡ Some (QueueHead q) → reaches_queue_head m a ≡ true
head_reached m parts n a q t here = let h : HoldsQueueHead m a q = t.each n a (QueueHead q) here in h.lent

pub head_not_refused : (m : Mem) (parts : StructureSets) (n a : ℕ) (q : Qh) → Tells m parts → parts n a ≡ Some (QueueHead q) → queue_head_was_read m a ≡ m
head_not_refused m parts n a q t here = ap (λ (b : Bool). if b then m else refused m) (head_reached m parts n a q t here)

pub element_read : (m : Mem) (parts : StructureSets) (n a : ℕ) (d : Qtd) → Tells m parts → parts n a ≡ Some (Element d) → qtd_at_address m a ≡ Some d
element_read m parts n a d t here = element_there m a d (t.each n a (Element d) here)

pub element_reached : (m : Mem) (parts : StructureSets) (n a : ℕ) (d : Qtd) → Tells m parts → parts n a ≡ Some (Element d) → reaches m a ≡ true
element_reached m parts n a d t here = let h : HoldsElement m a d = t.each n a (Element d) here in h.lent

pub element_not_refused : (m : Mem) (parts : StructureSets) (n a : ℕ) (d : Qtd) → Tells m parts → parts n a ≡ Some (Element d) → qtd_was_read m a ≡ m
element_not_refused m parts n a d t here = ap (λ (b : Bool). if b then m else refused m) (element_reached m parts n a d t here)

pub itd_read_there : (m : Mem) (parts : StructureSets) (n a : ℕ) (v : Itd) → Tells m parts → parts n a ≡ Some (Isochronous v) → itd_at_address m a ≡ Some v
itd_read_there m parts n a v t here = itd_there m a v (t.each n a (Isochronous v) here)

pub itd_not_refused : (m : Mem) (parts : StructureSets) (n a : ℕ) (v : Itd) → Tells m parts → parts n a ≡ Some (Isochronous v) → itd_was_read m a ≡ m
itd_not_refused m parts n a v t here = let h : HoldsIsochronous m a v = t.each n a (Isochronous v) here in ap (λ (b : Bool). if b then m else refused m) h.lent

pub sitd_read_there : (m : Mem) (parts : StructureSets) (n a : ℕ) (v : Sitd) → Tells m parts → parts n a ≡ Some (SplitIsochronous v) → sitd_at_address m a ≡ Some v
sitd_read_there m parts n a v t here = sitd_there m a v (t.each n a (SplitIsochronous v) here)

pub sitd_not_refused : (m : Mem) (parts : StructureSets) (n a : ℕ) (v : Sitd) → Tells m parts → parts n a ≡ Some (SplitIsochronous v) → sitd_was_read m a ≡ m
sitd_not_refused m parts n a v t here = let h : HoldsSplitIsochronous m a v = t.each n a (SplitIsochronous v) here in ap (λ (b : Bool). if b then m else refused m) h.lent

-- ---- buffers

-- n bytes from byte j of a buffer on
pub part_reached : (m : Mem) (a : ℕ) (pages : List ℕ) (k : ℕ) (bs : List ℕ) (j n : ℕ) → HoldsBuffer m a pages k bs → j + n ≤ length bs → AreReached m pages (k + j) n
part_reached m a pages k bs j n h within = λ i below.
    let e : k + (j + i) ≡ k + j + i = omega arith in
    subst (λ (x : ℕ). reaches m (place pages x) ≡ true) e (h.lent (j + i) (omega (arith, within, below)))

pub part_there : (m : Mem) (a : ℕ) (pages : List ℕ) (k : ℕ) (bs : List ℕ) (j n : ℕ) → IsShaped m → HoldsBuffer m a pages k bs → j + n ≤ length bs → AreThere m pages (k + j) n
part_there m a pages k bs j n shape h within = λ i below.
    let inside = slice_get_within m.states (place pages (k + j + i) / 32) Lent (lent_if_reached m (place pages (k + j + i)) (part_reached m a pages k bs j n h within i below)) in
    omega (arith, inside, shape.eight_each)

pub part_separate : (pages : List ℕ) (k m j n : ℕ) → AreSeparate pages k m → j + n ≤ m → AreSeparate pages (k + j) n
part_separate pages k m j n separate within = λ i h one other same.
    let e : k + (j + i) ≡ k + j + i = omega arith in
    let f : k + (j + h) ≡ k + j + h = omega arith in
    let both : j + i ≡ j + h = separate (j + i) (j + h) (omega (arith, within, one)) (omega (arith, within, other)) (ap (place pages) e ∙ same ∙ sym (ap (place pages) f)) in
    omega (arith, both)

pub part_bytes : (m : Mem) (a : ℕ) (pages : List ℕ) (k : ℕ) (bs : List ℕ) (j n : ℕ) → HoldsBuffer m a pages k bs → j + n ≤ length bs → bytes_at m pages (k + j) n ≡ take n (drop j bs)
part_bytes m a pages k bs j n h within =
    bytes_at_is m pages (k + j) (take n (drop j bs)) n (let l = length-take n (drop j bs) in let d = length-drop j bs in omega (arith, l, d, within))
    (λ i below.
    let e : k + (j + i) ≡ k + j + i = omega arith in
    let inside : j + i < length bs = omega (arith, within, below) in
    let part : get_or (take n (drop j bs)) i 0 ≡ get_or bs (j + i) 0 = grind (arith, places) in
    ap (λ (x : ℕ). byte_at m (place pages x)) (sym e) ∙ sym (get_or-bytes_at m pages k (length bs) (j + i) 0 inside) ∙ ap (λ xs. get_or xs (j + i) 0) h.bytes ∙ sym part)

pub bytes_there : (m : Mem) (parts : StructureSets) (n a : ℕ) (pages : List ℕ) (k : ℕ) (bs : List ℕ) → Tells m parts → parts n a ≡ Some (Buffer pages k bs) → bytes_at m pages k (length bs) ≡ bs
bytes_there m parts n a pages k bs t here = let h : HoldsBuffer m a pages k bs = t.each n a (Buffer pages k bs) here in h.bytes

pub bytes_part : (m : Mem) (parts : StructureSets) (n a : ℕ) (pages : List ℕ) (k : ℕ) (bs : List ℕ) (j c : ℕ) → Tells m parts → parts n a ≡ Some (Buffer pages k bs) → j + c ≤ length bs → bytes_at m pages (k + j) c ≡ take c (drop j bs)
bytes_part m parts n a pages k bs j c t here within = part_bytes m a pages k bs j c (t.each n a (Buffer pages k bs) here) within

pub bytes_reached : (m : Mem) (parts : StructureSets) (n a : ℕ) (pages : List ℕ) (k : ℕ) (bs : List ℕ) (j c : ℕ) → Tells m parts → parts n a ≡ Some (Buffer pages k bs) → j + c ≤ length bs → all_reached m pages (k + j) c ≡ true
bytes_reached m parts n a pages k bs j c t here within = all_reached_if m pages (k + j) c (part_reached m a pages k bs j c (t.each n a (Buffer pages k bs) here) within)
