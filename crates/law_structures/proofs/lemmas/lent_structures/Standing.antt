-- A structure goes on standing where its blocks stay Lent and their words stay, and its blocks are Lent.
use Rattle.std.proofs.Common.{◌≡◌, ℕ, ◌+◌, ◌*◌, ◌/◌, ◌%◌, ◌<◌, ◌≤◌, true, ◌&&◌, List, length, Some, ap, refl, sym, ◌∙◌, arith, ⊎_elim, inl, inr}
use Rattle.std.proofs.lemmas.Bool.{cases_lt}
use Rattle.law_common.proofs.Booleans.{and_both, both_true}
use Rattle.law_common.proofs.Numbers.{in_one}
use Rattle.word_mem.specs.Memory.{Mem, state_at, reaches, is_lent}
use Rattle.word_mem.specs.declared.blocks.BlockState.TheVariants.{Lent}
use Rattle.word_mem.proofs.Frames.{lent_if_reached}
use Rattle.word_mem.proofs.Words.{words_in_same}
use Rattle.mem_bytes.specs.Bytes.{place}
use Rattle.mem_bytes.proofs.Frames.{bytes_at_same}
use Rattle.qh_qtd.specs.declared.qtd.Qtd.{Qtd}
use Rattle.qh_qtd.specs.declared.queue_head.Qh.{Qh}
use Rattle.itd_sitd.specs.declared.itd.Itd.{Itd}
use Rattle.itd_sitd.specs.declared.sitd.Sitd.{Sitd}
use Rattle.law_structures.specs.lent_structures.Structures.{Structure, QueueHead, Element, Buffer, Table, Isochronous, SplitIsochronous, HoldsQueueHead, HoldsElement, HoldsBuffer, HoldsTable, HoldsIsochronous, HoldsSplitIsochronous, Holds, IsOneOfTwo, Has}
use Rattle.law_structures.specs.lent_structures.Changes.{Stays}

-- the controller reaches the words of a Lent block, and no others
pub reaches_if : (m : Mem) (at : ℕ) → state_at m (at / 32) ≡ Some Lent → reaches m at ≡ true
reaches_if m at lent = ap is_lent lent

pub reached_still : (m after : Mem) (at : ℕ) → (state_at m (at / 32) ≡ Some Lent → state_at after (at / 32) ≡ Some Lent) → reaches m at ≡ true → reaches after at ≡ true
reached_still m after at still reached = reaches_if after at (still (lent_if_reached m at reached))

-- the blocks of words in a row
pub in_two : (a k : ℕ) → a % 32 ≡ 0 → k < 16 → IsOneOfTwo a ((a + 4 * k) / 32)
in_two a k aligned below =
    ⊎_elim (λ (low : k < 8). inl (omega (arith, aligned, low))) (λ (high : 8 ≤ k). inr (omega (arith, aligned, high, below))) (cases_lt k 8)

pub second_block : (a : ℕ) → (a + 32) / 32 ≡ a / 32 + 1
second_block a = omega arith

-- ---- its blocks are Lent

two_lent : (m : Mem) (a b : ℕ) → reaches m a ≡ true → reaches m (a + 32) ≡ true → IsOneOfTwo a b → state_at m b ≡ Some Lent
two_lent m a b first second (inl is) = ap (state_at m) is ∙ lent_if_reached m a first
two_lent m a b first second (inr is) = ap (state_at m) (is ∙ sym (second_block a)) ∙ lent_if_reached m (a + 32) second

pub holds_lent : (m : Mem) (a : ℕ) (s : Structure) (b : ℕ) → Holds m a s → Has a s b → state_at m b ≡ Some Lent
holds_lent m a (Element t) b h has = ap (state_at m) has ∙ lent_if_reached m a h.lent
holds_lent m a (Buffer pages k bs) b h (i, below, is) = ap (state_at m) is ∙ lent_if_reached m (place pages (k + i)) (h.lent i below)
holds_lent m a (Table ws) b h (i, below, is) = ap (state_at m) is ∙ lent_if_reached m (a + 4 * i) (h.lent i below)
holds_lent m a (SplitIsochronous v) b h has = ap (state_at m) has ∙ lent_if_reached m a h.lent
holds_lent m a _ b h has = let two = and_both (reaches m a) (reaches m (a + 32)) h.lent in two_lent m a b two.0 two.1 has

-- ---- it goes on standing

two_still : (m after : Mem) (a : ℕ) → ((b : ℕ) → IsOneOfTwo a b → state_at m b ≡ Some Lent → state_at after b ≡ Some Lent) → (reaches m a && reaches m (a + 32)) ≡ true → (reaches after a && reaches after (a + 32)) ≡ true
two_still m after a lent reached =
    let two = and_both (reaches m a) (reaches m (a + 32)) reached in
    both_true (reaches after a) (reaches after (a + 32)) (reached_still m after a (lent (a / 32) (inl refl)) two.0)
    (reached_still m after (a + 32) (lent ((a + 32) / 32) (inr (second_block a))) two.1)

head_still : (m after : Mem) (a : ℕ) (q : Qh) → Stays m after a (QueueHead q) → HoldsQueueHead m a q → HoldsQueueHead after a q
head_still m after a q stays h = record {
  aligned = h.aligned;
  lent = two_still m after a stays.lent h.lent;
  words = words_in_same m.words after.words a 12 (λ k below. stays.words (a + 4 * k) (in_two a k h.aligned (omega (arith, below)))) ∙ h.words;
  range = h.range;
}

element_still : (m after : Mem) (a : ℕ) (t : Qtd) → Stays m after a (Element t) → HoldsElement m a t → HoldsElement after a t
element_still m after a t stays h = record {
  aligned = h.aligned;
  lent = reached_still m after a (stays.lent (a / 32) refl) h.lent;
  words = words_in_same m.words after.words a 8 (λ k below. stays.words (a + 4 * k) (in_one a k h.aligned below)) ∙ h.words;
  range = h.range;
}

buffer_still : (m after : Mem) (a : ℕ) (pages : List ℕ) (k : ℕ) (bs : List ℕ) → Stays m after a (Buffer pages k bs) → HoldsBuffer m a pages k bs → HoldsBuffer after a pages k bs
buffer_still m after a pages k bs stays h = record {
  name = h.name;
  within = h.within;
  separate = h.separate;
  lent = λ i below. reached_still m after (place pages (k + i)) (stays.lent (place pages (k + i) / 32) (i, below, refl)) (h.lent i below);
  bytes = bytes_at_same m after pages k (length bs) (λ i below. stays.words (place pages (k + i)) (i, below, refl)) ∙ h.bytes;
}

table_still : (m after : Mem) (a : ℕ) (ws : List ℕ) → Stays m after a (Table ws) → HoldsTable m a ws → HoldsTable after a ws
table_still m after a ws stays h = record {
  aligned = h.aligned;
  lent = λ i below. reached_still m after (a + 4 * i) (stays.lent ((a + 4 * i) / 32) (i, below, refl)) (h.lent i below);
  words = words_in_same m.words after.words a (length ws) (λ i below. stays.words (a + 4 * i) (i, below, refl)) ∙ h.words;
}

isochronous_still : (m after : Mem) (a : ℕ) (v : Itd) → Stays m after a (Isochronous v) → HoldsIsochronous m a v → HoldsIsochronous after a v
isochronous_still m after a v stays h = record {
  aligned = h.aligned;
  lent = two_still m after a stays.lent h.lent;
  words = words_in_same m.words after.words a 16 (λ k below. stays.words (a + 4 * k) (in_two a k h.aligned below)) ∙ h.words;
  range = h.range;
}

split_still : (m after : Mem) (a : ℕ) (v : Sitd) → Stays m after a (SplitIsochronous v) → HoldsSplitIsochronous m a v → HoldsSplitIsochronous after a v
split_still m after a v stays h = record {
  aligned = h.aligned;
  lent = reached_still m after a (stays.lent (a / 32) refl) h.lent;
  words = words_in_same m.words after.words a 7 (λ k below. stays.words (a + 4 * k) (in_one a k h.aligned (omega (arith, below)))) ∙ h.words;
  range = h.range;
}

pub holds_still : (m after : Mem) (a : ℕ) (s : Structure) → Stays m after a s → Holds m a s → Holds after a s
holds_still m after a (QueueHead q) stays h = head_still m after a q stays h
holds_still m after a (Element t) stays h = element_still m after a t stays h
holds_still m after a (Buffer pages k bs) stays h = buffer_still m after a pages k bs stays h
holds_still m after a (Table ws) stays h = table_still m after a ws stays h
holds_still m after a (Isochronous v) stays h = isochronous_still m after a v stays h
holds_still m after a (SplitIsochronous v) stays h = split_still m after a v stays h
