-- What the parts have at each name after a write-back.
use Rattle.std.proofs.Common.{◌≡◌, ◌≢◌, ℕ, List, Some, refl, sym, ◌∙◌}
use Rattle.mem_bytes.specs.Bytes.{place}
use Rattle.qh_qtd.specs.declared.qtd.Qtd.{Qtd}
use Rattle.qh_qtd.specs.declared.queue_head.Qh.{Qh}
use Rattle.hc_copy.specs.Overlay.{moved}
use Rattle.law_structures.specs.lent_structures.Structures.{QueueHead, Element, Buffer, StructureSets, put}
use Rattle.law_structures.specs.lent_structures.Changes.{relinked, overwritten}
use Rattle.law_structures.proofs.lemmas.lent_structures.Names.{names_differ, put_same, put_else, put_beside}
use Rattle.law_structures.specs.lent_structures.WriteBack.{Received, Nothing, Into, received_parts, CanBeWritten, qtd_after, parts_back}
use Rattle.law_structures.proofs.lemmas.lent_structures.WrittenBack.{head_is_no_buffer, element_is_no_buffer, element_is_no_head, received_else}

-- ---- another owner

pub received_beside : (parts : StructureSets) (n : ℕ) (got : List ℕ) (r : Received) (i : ℕ) → i ≢ n → received_parts parts n got r i ≡ parts i
received_beside parts n got Nothing i differs = refl
received_beside parts n got (Into pages k bs j) i differs = put_beside parts n (place pages k) (Buffer pages k (overwritten bs j got)) i differs

pub back_beside : (parts : StructureSets) (n a : ℕ) (q c : Qh) (count : ℕ) (got : List ℕ) (r : Received) (t : Qtd) (i : ℕ) → i ≢ n → parts_back parts n a q c count got r t i ≡ parts i
back_beside parts n a q c count got r t i differs =
    put_beside (put (received_parts parts n got r) n a (QueueHead (relinked q (moved c count)))) n c.current (Element (qtd_after (moved c count) t)) i differs
    ∙ put_beside (received_parts parts n got r) n a (QueueHead (relinked q (moved c count))) i differs ∙ received_beside parts n got r i differs

-- ---- the owner

pub back_element : (parts : StructureSets) (n a : ℕ) (q c : Qh) (count : ℕ) (got : List ℕ) (r : Received) (t : Qtd) → parts_back parts n a q c count got r t n c.current ≡ Some (Element (qtd_after (moved c count) t))
back_element parts n a q c count got r t = put_same (put (received_parts parts n got r) n a (QueueHead (relinked q (moved c count)))) n c.current (Element (qtd_after (moved c count) t))

pub back_head : (parts : StructureSets) (n a : ℕ) (q c : Qh) (count : ℕ) (got : List ℕ) (r : Received) (t : Qtd) → CanBeWritten parts n a q c got r t → parts_back parts n a q c count got r t n a ≡ Some (QueueHead (relinked q (moved c count)))
back_head parts n a q c count got r t can =
    put_else (put (received_parts parts n got r) n a (QueueHead (relinked q (moved c count)))) n c.current (Element (qtd_after (moved c count) t)) a
    (λ same. names_differ (parts n) c.current a (Element t) (QueueHead q) can.element can.copy.head (element_is_no_head t q) (sym same))
    ∙ put_same (received_parts parts n got r) n a (QueueHead (relinked q (moved c count)))

-- a name that is neither the queue head's nor the qTD's
beside_both : (parts : StructureSets) (n a : ℕ) (q c : Qh) (count : ℕ) (got : List ℕ) (r : Received) (t : Qtd) (b : ℕ) → b ≢ a → b ≢ c.current → parts_back parts n a q c count got r t n b ≡ received_parts parts n got r n b
beside_both parts n a q c count got r t b head element =
    put_else (put (received_parts parts n got r) n a (QueueHead (relinked q (moved c count)))) n c.current (Element (qtd_after (moved c count) t)) b element
    ∙ put_else (received_parts parts n got r) n a (QueueHead (relinked q (moved c count))) b head

pub back_buffer : (parts : StructureSets) (n a : ℕ) (q c : Qh) (count : ℕ) (got pages : List ℕ) (k : ℕ) (bs : List ℕ) (j : ℕ) (t : Qtd) → CanBeWritten parts n a q c got (Into pages k bs j) t → parts_back parts n a q c count got (Into pages k bs j) t n (place pages k) ≡ Some (Buffer pages k (overwritten bs j got))
back_buffer parts n a q c count got pages k bs j t can =
    beside_both parts n a q c count got (Into pages k bs j) t (place pages k)
    (λ same. names_differ (parts n) a (place pages k) (QueueHead q) (Buffer pages k bs) can.copy.head can.received.buffer (head_is_no_buffer q pages k bs) (sym same))
    (λ same. names_differ (parts n) c.current (place pages k) (Element t) (Buffer pages k bs) can.element can.received.buffer (element_is_no_buffer t pages k bs) (sym same))
    ∙ put_same parts n (place pages k) (Buffer pages k (overwritten bs j got))

-- another qTD, and another buffer
pub back_other_element : (parts : StructureSets) (n a : ℕ) (q c : Qh) (count : ℕ) (got : List ℕ) (r : Received) (t : Qtd) (b : ℕ) (u : Qtd) → CanBeWritten parts n a q c got r t → parts n b ≡ Some (Element u) → b ≢ c.current → parts_back parts n a q c count got r t n b ≡ Some (Element u)
back_other_element parts n a q c count got r t b u can here differs =
    beside_both parts n a q c count got r t b (names_differ (parts n) b a (Element u) (QueueHead q) here can.copy.head (element_is_no_head u q)) differs
    ∙ received_else parts n c got r b (Element u) can.received here (element_is_no_buffer u)

-- the name of the buffer that the bytes are put into
abbrev pub IsNotInto : Received → ℕ → Type 0
IsNotInto Nothing b = Unit {0}
IsNotInto (Into pages k bs j) b = b ≢ place pages k

received_other : (parts : StructureSets) (n : ℕ) (got : List ℕ) (r : Received) (b : ℕ) → IsNotInto r b → received_parts parts n got r n b ≡ parts n b
received_other parts n got Nothing b other = refl
received_other parts n got (Into pages k bs j) b other = put_else parts n (place pages k) (Buffer pages k (overwritten bs j got)) b other

pub back_else : (parts : StructureSets) (n a : ℕ) (q c : Qh) (count : ℕ) (got : List ℕ) (r : Received) (t : Qtd) (b : ℕ) → b ≢ a → b ≢ c.current → IsNotInto r b → parts_back parts n a q c count got r t n b ≡ parts n b
back_else parts n a q c count got r t b head element other = beside_both parts n a q c count got r t b head element ∙ received_other parts n got r b other

pub back_other_buffer : (parts : StructureSets) (n a : ℕ) (q c : Qh) (count : ℕ) (got : List ℕ) (r : Received) (t : Qtd) (b : ℕ) (pages : List ℕ) (k : ℕ) (bs : List ℕ) → CanBeWritten parts n a q c got r t → parts n b ≡ Some (Buffer pages k bs) → IsNotInto r b → parts_back parts n a q c count got r t n b ≡ Some (Buffer pages k bs)
back_other_buffer parts n a q c count got r t b pages k bs can here other =
    back_else parts n a q c count got r t b
    (λ same. names_differ (parts n) a b (QueueHead q) (Buffer pages k bs) can.copy.head here (head_is_no_buffer q pages k bs) (sym same))
    (λ same. names_differ (parts n) c.current b (Element t) (Buffer pages k bs) can.element here (element_is_no_buffer t pages k bs) (sym same)) other
    ∙ here
