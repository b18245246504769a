-- The words that are kept stay in memory, where memory is told before and after.
use Rattle.std.proofs.Common.{◌≡◌, ℕ, ◌+◌, ◌-◌, ◌*◌, ◌<◌, ◌≤◌, List, length, take, drop, get_or, Some, ap, refl, sym, ◌∙◌, ⊎_elim, arith}
use Rattle.std.specs.Prelude.{◌⊎◌}
use Rattle.std.proofs.lemmas.List.{get_or-take, get_or-drop}
use Rattle.word_mem.specs.Memory.{Mem, word_at}
use Rattle.word_mem.specs.Views.{words_at}
use Rattle.word_mem.proofs.Words.{get_or-words_in}
use Rattle.qh_qtd.specs.declared.token.Token.{Token}
use Rattle.qh_qtd.specs.declared.qtd.Qtd.{Qtd}
use Rattle.qh_qtd.specs.declared.queue_head.Qh.{Qh}
use Rattle.qh_qtd.specs.Qtd.{qtd_words}
use Rattle.qh_qtd.specs.QueueHead.{qh_words}
use Rattle.itd_sitd.specs.declared.itd.Itd.{Itd}
use Rattle.itd_sitd.specs.declared.sitd.Sitd.{Sitd}
use Rattle.itd_sitd.specs.Itd.{itd_words}
use Rattle.itd_sitd.specs.Sitd.{sitd_words}
use Rattle.law_structures.specs.lent_structures.Structures.{QueueHead, Element, Table, Isochronous, SplitIsochronous, HoldsQueueHead, HoldsElement, HoldsTable, HoldsIsochronous, HoldsSplitIsochronous, StructureSets, Tells}
use Rattle.law_structures.specs.lent_structures.Alters.{IsAfter, HasElementAfter}
use Rattle.law_controller.specs.controlled_streams.Kept.{bare, HasHeadAfter}
use Rattle.law_controller.specs.controller_writes.Leaving.{LeavesRest}
use Rattle.law_descriptors.specs.frame_keeps.Kept.{slotless, stateless, HasItdAfter, HasSitdAfter, KeepsParts}
use Rattle.law_descriptors.specs.frame_keeps.Leaving.{LeavesWord, LeavesStructures, IsWithin}
use Rattle.law_descriptors.specs.frame_keeps.Laws.{KeptIsLeft}

-- ---- words of what stands in memory

told_word : (m : Mem) (a n i : ℕ) (ws : List ℕ) → words_at m a n ≡ ws → i < n → word_at m (a + 4 * i) ≡ get_or ws i 0
told_word m a n i ws is below = sym (get_or-words_in m.words a n i below) ∙ ap (λ (xs : List ℕ). get_or xs i 0) is

word_left : (m new : Mem) (a n i : ℕ) (vs ws : List ℕ) → words_at m a n ≡ vs → words_at new a n ≡ ws → i < n → get_or ws i 0 ≡ get_or vs i 0 → LeavesWord m new a i
word_left m new a n i vs ws one two below same = told_word new a n i ws two below ∙ same ∙ sym (told_word m a n i vs one below)

front_same : (k i : ℕ) (vs ws : List ℕ) → take k ws ≡ take k vs → i < k → get_or ws i 0 ≡ get_or vs i 0
front_same k i vs ws same below = sym (get_or-take k ws i 0 below) ∙ ap (λ (xs : List ℕ). get_or xs i 0) same ∙ get_or-take k vs i 0 below

rest_same : (k i : ℕ) (vs ws : List ℕ) → drop k ws ≡ drop k vs → k ≤ i → get_or ws i 0 ≡ get_or vs i 0
rest_same k i vs ws same from =
    let e : k + (i - k) ≡ i = omega (arith, from) in
    sym (ap (λ (j : ℕ). get_or ws j 0) e)
    ∙ sym (get_or-drop k ws (i - k) 0)
    ∙ ap (λ (xs : List ℕ). get_or xs (i - k) 0) same
    ∙ get_or-drop k vs (i - k) 0
    ∙ ap (λ (j : ℕ). get_or vs j 0) e

-- the first k of n words, and those from word j on
ends_left : (m new : Mem) (a n k j i : ℕ) (vs ws : List ℕ) → words_at m a n ≡ vs → words_at new a n ≡ ws → k ≤ n → take k ws ≡ take k vs → drop j ws ≡ drop j vs → (i < k) ⊎ ((j ≤ i) × (i < n)) → LeavesWord m new a i
ends_left m new a n k j i vs ws one two within front rest why =
    ⊎_elim (λ (low : i < k). word_left m new a n i vs ws one two (omega (arith, low, within)) (front_same k i vs ws front low))
    (λ (high : (j ≤ i) × (i < n)). word_left m new a n i vs ws one two high.1 (rest_same j i vs ws rest high.0)) why

-- ---- the words of each kind

bare_front : (q : Qh) → take 3 (qh_words (bare q)) ≡ take 3 (qh_words q)
unfolding qh_words
bare_front q = refl

head_front : (q r : Qh) → bare r ≡ bare q → take 3 (qh_words r) ≡ take 3 (qh_words q)
head_front q r same = sym (bare_front r) ∙ ap (λ (x : Qh). take 3 (qh_words x)) same ∙ bare_front q

token_front : (t : Qtd) (k : Token) → take 2 (qtd_words (record t { token = k })) ≡ take 2 (qtd_words t)
unfolding qtd_words
token_front t k = refl

token_rest : (t : Qtd) (k : Token) → drop 3 (qtd_words (record t { token = k })) ≡ drop 3 (qtd_words t)
unfolding qtd_words
token_rest t k = refl

element_front : (t u : Qtd) → IsAfter t u → take 2 (qtd_words u) ≡ take 2 (qtd_words t)
element_front t u after = ap (λ (x : Qtd). take 2 (qtd_words x)) after.is ∙ token_front t after.token

element_rest : (t u : Qtd) → IsAfter t u → drop 3 (qtd_words u) ≡ drop 3 (qtd_words t)
element_rest t u after = ap (λ (x : Qtd). drop 3 (qtd_words x)) after.is ∙ token_rest t after.token

slotless_front : (v : Itd) → take 1 (itd_words (slotless v)) ≡ take 1 (itd_words v)
unfolding itd_words
slotless_front v = refl

slotless_rest : (v : Itd) → drop 9 (itd_words (slotless v)) ≡ drop 9 (itd_words v)
unfolding itd_words
slotless_rest v = refl

itd_front : (v w : Itd) → slotless w ≡ slotless v → take 1 (itd_words w) ≡ take 1 (itd_words v)
itd_front v w same = sym (slotless_front w) ∙ ap (λ (x : Itd). take 1 (itd_words x)) same ∙ slotless_front v

itd_rest : (v w : Itd) → slotless w ≡ slotless v → drop 9 (itd_words w) ≡ drop 9 (itd_words v)
itd_rest v w same = sym (slotless_rest w) ∙ ap (λ (x : Itd). drop 9 (itd_words x)) same ∙ slotless_rest v

stateless_front : (v : Sitd) → take 3 (sitd_words (stateless v)) ≡ take 3 (sitd_words v)
unfolding sitd_words
stateless_front v = refl

stateless_rest : (v : Sitd) → drop 6 (sitd_words (stateless v)) ≡ drop 6 (sitd_words v)
unfolding sitd_words
stateless_rest v = refl

sitd_front : (v w : Sitd) → stateless w ≡ stateless v → take 3 (sitd_words w) ≡ take 3 (sitd_words v)
sitd_front v w same = sym (stateless_front w) ∙ ap (λ (x : Sitd). take 3 (sitd_words x)) same ∙ stateless_front v

sitd_rest : (v w : Sitd) → stateless w ≡ stateless v → drop 6 (sitd_words w) ≡ drop 6 (sitd_words v)
sitd_rest v w same = sym (stateless_rest w) ∙ ap (λ (x : Sitd). drop 6 (sitd_words x)) same ∙ stateless_rest v

-- ---- all of them

module _ (parts now : StructureSets) (m new : Mem) (before : Tells m parts) (after : Tells new now) (keeps : KeepsParts parts now) where
  head_left : (n a : ℕ) (q : Qh) (i : ℕ) → parts n a ≡ Some (QueueHead q) → i < 3 → LeavesWord m new a i
  head_left n a q i here below =
      let f : HasHeadAfter (now n) a q = (keeps n).queues.head a q here in
      let g : HoldsQueueHead m a q = before.each n a (QueueHead q) here in
      let h : HoldsQueueHead new a f.queue = after.each n a (QueueHead f.queue) f.here in
      word_left m new a 12 i (qh_words q) (qh_words f.queue) g.words h.words (omega (arith, below)) (front_same 3 i (qh_words q) (qh_words f.queue) (head_front q f.queue f.same) below)

  element_left : (n a : ℕ) (t : Qtd) (i : ℕ) → parts n a ≡ Some (Element t) → (i < 2) ⊎ ((3 ≤ i) × (i < 8)) → LeavesWord m new a i
  element_left n a t i here why =
      let f : HasElementAfter (now n) a t = (keeps n).queues.alters.element a t here in
      let g : HoldsElement m a t = before.each n a (Element t) here in
      let h : HoldsElement new a f.qtd = after.each n a (Element f.qtd) f.here in
      ends_left m new a 8 2 3 i (qtd_words t) (qtd_words f.qtd) g.words h.words (omega arith) (element_front t f.qtd f.after) (element_rest t f.qtd f.after) why

  itd_left : (n a : ℕ) (v : Itd) (i : ℕ) → parts n a ≡ Some (Isochronous v) → (i < 1) ⊎ ((9 ≤ i) × (i < 16)) → LeavesWord m new a i
  itd_left n a v i here why =
      let f : HasItdAfter (now n) a v = (keeps n).itd a v here in
      let g : HoldsIsochronous m a v = before.each n a (Isochronous v) here in
      let h : HoldsIsochronous new a f.itd = after.each n a (Isochronous f.itd) f.here in
      ends_left m new a 16 1 9 i (itd_words v) (itd_words f.itd) g.words h.words (omega arith) (itd_front v f.itd f.after.same) (itd_rest v f.itd f.after.same) why

  sitd_left : (n a : ℕ) (v : Sitd) (i : ℕ) → parts n a ≡ Some (SplitIsochronous v) → (i < 3) ⊎ ((6 ≤ i) × (i < 7)) → LeavesWord m new a i
  sitd_left n a v i here why =
      let f : HasSitdAfter (now n) a v = (keeps n).sitd a v here in
      let g : HoldsSplitIsochronous m a v = before.each n a (SplitIsochronous v) here in
      let h : HoldsSplitIsochronous new a f.sitd = after.each n a (SplitIsochronous f.sitd) f.here in
      ends_left m new a 7 3 6 i (sitd_words v) (sitd_words f.sitd) g.words h.words (omega arith) (sitd_front v f.sitd f.after.same) (sitd_rest v f.sitd f.after.same) why

  table_left : (n a : ℕ) (ws : List ℕ) (i : ℕ) → parts n a ≡ Some (Table ws) → i < length ws → LeavesWord m new a i
  table_left n a ws i here below =
      let g : HoldsTable m a ws = before.each n a (Table ws) here in
      let h : HoldsTable new a ws = after.each n a (Table ws) ((keeps n).table a ws here) in
      word_left m new a (length ws) i ws ws g.words h.words below refl

pub kept_is_left : KeptIsLeft
kept_is_left parts now m new lent before after keeps = record {
  lent = lent;
  heads = head_left parts now m new before after keeps;
  elements = element_left parts now m new before after keeps;
  itds = itd_left parts now m new before after keeps;
  sitds = sitd_left parts now m new before after keeps;
  tables = table_left parts now m new before after keeps;
}

-- ---- some of them

pub some_left : (some parts : StructureSets) (m new : Mem) → IsWithin some parts → LeavesStructures parts m new → LeavesStructures some m new
some_left some parts m new within leaves = record {
  lent = leaves.lent;
  heads = λ n a q i here below. leaves.heads n a q i (within n a (QueueHead q) here) below;
  elements = λ n a t i here why. leaves.elements n a t i (within n a (Element t) here) why;
  itds = λ n a v i here why. leaves.itds n a v i (within n a (Isochronous v) here) why;
  sitds = λ n a v i here why. leaves.sitds n a v i (within n a (SplitIsochronous v) here) why;
  tables = λ n a ws i here below. leaves.tables n a ws i (within n a (Table ws) here) below;
}

pub rest_left : (parts : StructureSets) (m new : Mem) → LeavesStructures parts m new → LeavesRest parts m new
rest_left parts m new leaves = record { lent = leaves.lent; heads = leaves.heads }
