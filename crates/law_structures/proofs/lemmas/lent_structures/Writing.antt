-- Words written in structures that are told: one word, the overlay of a queue head, and the token of a qTD (EHCI 1.0, 3.5, 3.6 and 4.10).
use Rattle.std.proofs.Common.{◌≡◌, ℕ, ◌+◌, ◌*◌, ◌/◌, ◌%◌, ◌<◌, ◌≤◌, ◌⊎◌, Bool, true, ◌&&◌, List, ◌++◌, zero, suc, ◌∷◌, length, take, set, slice_get, ◌-◌, get_or, if◌then◌else◌, Some, ap, refl, sym, subst, ◌∙◌, ⊎_elim, inl, inr, zero-add, suc-add, arith}
use Rattle.std.proofs.lemmas.Bool.{cases_lt}
use Rattle.std.proofs.lemmas.List.{length-set, get_or-set_other, take-append-drop}
use Rattle.std.proofs.lemmas.Option.{slice_get_within}
use Rattle.law_structures.proofs.Common.{nine_words, block_inside}
use Rattle.law_common.proofs.Lists.{first_eight}
use Rattle.law_common.proofs.Booleans.{and_both}
use Rattle.law_common.proofs.Numbers.{in_one}
use Rattle.word_mem.specs.Memory.{Mem, IsShaped, reaches, is_lent, refused, with_word}
use Rattle.word_mem.specs.Views.{words_in, words_at, with_words_in, with_words}
use Rattle.word_mem.specs.declared.blocks.BlockState.{BlockState}
use Rattle.word_mem.specs.declared.blocks.BlockState.TheVariants.{Lent}
use Rattle.word_mem.proofs.Frames.{lent_if_reached}
use Rattle.word_mem.proofs.Words.{length-words_in, words_in-set_inside, words_in-with_words_in_same, words_in-with_words_in_apart}
use Rattle.link_words.specs.Layout.{IsWordInRange}
use Rattle.qh_qtd.specs.declared.token.Token.{Token}
use Rattle.qh_qtd.specs.declared.qtd.Qtd.{Qtd}
use Rattle.qh_qtd.specs.declared.queue_head.Qh.{Qh}
use Rattle.qh_qtd.specs.Token.{token_rows, token_word}
use Rattle.qh_qtd.specs.Qtd.{qtd_words, IsQtdInRange}
use Rattle.qh_qtd.specs.QueueHead.{qh_words, IsQhInRange}
use Rattle.qh_qtd.proofs.QtdLaws.{qtd_words-token}
use Rattle.itd_sitd.specs.declared.itd.Itd.{Itd}
use Rattle.itd_sitd.specs.declared.sitd.Sitd.{Sitd}
use Rattle.itd_sitd.specs.Itd.{itd_words, IsItdInRange}
use Rattle.itd_sitd.specs.Sitd.{sitd_words, IsSitdInRange}
use Rattle.mem_queues.specs.Structures.{reaches_queue_head, overlay_words, overlay_written, token_written}
use Rattle.mem_queues.proofs.WriteBack.{overlay_outside, overlay_states, overlay_size}
use Rattle.law_structures.specs.lent_structures.Structures.{Structure, StructureSets, QueueHead, Element, Table, Isochronous, SplitIsochronous, HoldsQueueHead, HoldsElement, HoldsTable, HoldsIsochronous, HoldsSplitIsochronous, IsOneOfTwo, put, Has, Tells}
use Rattle.law_structures.specs.lent_structures.Changes.{Changes, relinked}
use Rattle.law_structures.proofs.lemmas.lent_structures.Standing.{in_two}
use Rattle.law_structures.proofs.lemmas.lent_structures.Telling.{change_is_told}

-- ---- one word

same_word_block : (a b : ℕ) → a / 4 ≡ b / 4 → b / 32 ≡ a / 32
same_word_block a b same = omega (arith, same)

-- a word of a structure is written
pub word_changes : (m : Mem) (a : ℕ) (s : Structure) (at v : ℕ) → Has a s (at / 32) → Changes m (with_word m at v) a s
word_changes m a s at v has = record {
  states = refl;
  size = length-set m.words (at / 4) v;
  outside = λ other outside. get_or-set_other m.words (at / 4) (other / 4) v 0
      (λ same. outside (subst (Has a s) (sym (same_word_block at other (sym same))) has));
}

two_inside : (m : Mem) (a : ℕ) → IsShaped m → a % 32 ≡ 0 → (reaches m a && reaches m (a + 32)) ≡ true → a / 4 + 16 ≤ length m.words
two_inside m a shape aligned reached =
    let two = and_both (reaches m a) (reaches m (a + 32)) reached in
    let room = block_inside m (a + 32) shape (omega (arith, aligned)) two.1 in
    omega (arith, room)

-- words in a row with word k written
row_written : (m : Mem) (a n k v : ℕ) (ws new : List ℕ) → a % 32 ≡ 0 → k < n → a / 4 + n ≤ length m.words → words_at m a n ≡ ws → new ≡ set ws k v → words_at (with_word m (a + 4 * k) v) a n ≡ new
row_written m a n k v ws new aligned below room words is =
    words_in-set_inside m.words a n k v (omega (arith, aligned)) below room ∙ ap (λ xs. set xs k v) words ∙ sym is

pub word_put_queue : (m : Mem) (parts : StructureSets) (n a : ℕ) (q new : Qh) (k v : ℕ) → Tells m parts → parts n a ≡ Some (QueueHead q) → k < 12 → qh_words new ≡ set (qh_words q) k v → IsQhInRange new → Tells (with_word m (a + 4 * k) v) (put parts n a (QueueHead new))
word_put_queue m parts n a q new k v t here below is range =
    let h : HoldsQueueHead m a q = t.each n a (QueueHead q) here in
    change_is_told m (with_word m (a + 4 * k) v) parts n a (QueueHead q) (QueueHead new) t here
    (word_changes m a (QueueHead q) (a + 4 * k) v (in_two a k h.aligned (omega (arith, below)))) (λ b has. has)
    (record {
      aligned = h.aligned;
      lent = h.lent;
      words = row_written m a 12 k v (qh_words q) (qh_words new) h.aligned below (let room = two_inside m a t.shape h.aligned h.lent in omega (arith, room)) h.words is;
      range = range;
    })

pub word_put_element : (m : Mem) (parts : StructureSets) (n a : ℕ) (d new : Qtd) (k v : ℕ) → Tells m parts → parts n a ≡ Some (Element d) → k < 8 → qtd_words new ≡ set (qtd_words d) k v → IsQtdInRange new → Tells (with_word m (a + 4 * k) v) (put parts n a (Element new))
word_put_element m parts n a d new k v t here below is range =
    let h : HoldsElement m a d = t.each n a (Element d) here in
    change_is_told m (with_word m (a + 4 * k) v) parts n a (Element d) (Element new) t here
    (word_changes m a (Element d) (a + 4 * k) v (in_one a k h.aligned below)) (λ b has. has)
    (record {
      aligned = h.aligned;
      lent = h.lent;
      words = row_written m a 8 k v (qtd_words d) (qtd_words new) h.aligned below (block_inside m a t.shape h.aligned h.lent) h.words is;
      range = range;
    })

pub word_put_isochronous : (m : Mem) (parts : StructureSets) (n a : ℕ) (d new : Itd) (k v : ℕ) → Tells m parts → parts n a ≡ Some (Isochronous d) → k < 16 → itd_words new ≡ set (itd_words d) k v → IsItdInRange new → Tells (with_word m (a + 4 * k) v) (put parts n a (Isochronous new))
word_put_isochronous m parts n a d new k v t here below is range =
    let h : HoldsIsochronous m a d = t.each n a (Isochronous d) here in
    change_is_told m (with_word m (a + 4 * k) v) parts n a (Isochronous d) (Isochronous new) t here
    (word_changes m a (Isochronous d) (a + 4 * k) v (in_two a k h.aligned below)) (λ b has. has)
    (record {
      aligned = h.aligned;
      lent = h.lent;
      words = row_written m a 16 k v (itd_words d) (itd_words new) h.aligned below (two_inside m a t.shape h.aligned h.lent) h.words is;
      range = range;
    })

pub word_put_split : (m : Mem) (parts : StructureSets) (n a : ℕ) (d new : Sitd) (k v : ℕ) → Tells m parts → parts n a ≡ Some (SplitIsochronous d) → k < 7 → sitd_words new ≡ set (sitd_words d) k v → IsSitdInRange new → Tells (with_word m (a + 4 * k) v) (put parts n a (SplitIsochronous new))
word_put_split m parts n a d new k v t here below is range =
    let h : HoldsSplitIsochronous m a d = t.each n a (SplitIsochronous d) here in
    change_is_told m (with_word m (a + 4 * k) v) parts n a (SplitIsochronous d) (SplitIsochronous new) t here
    (word_changes m a (SplitIsochronous d) (a + 4 * k) v (in_one a k h.aligned (omega (arith, below)))) (λ b has. has)
    (record {
      aligned = h.aligned;
      lent = h.lent;
      words = row_written m a 7 k v (sitd_words d) (sitd_words new) h.aligned below (let room = block_inside m a t.shape h.aligned h.lent in omega (arith, room)) h.words is;
      range = range;
    })

-- the words of a table lie in memory
table_inside : (m : Mem) (a : ℕ) (ws : List ℕ) (k : ℕ) → IsShaped m → HoldsTable m a ws → k < length ws → a / 4 + length ws ≤ length m.words
table_inside m a ws k shape h below =
    let last = length ws - 1 in
    let reached = h.lent last (omega (arith, below)) in
    let inside = slice_get_within m.states ((a + 4 * last) / 32) Lent (lent_if_reached m (a + 4 * last) reached) in
    omega (arith, inside, shape.eight_each, below, h.aligned)

pub word_put_table : (m : Mem) (parts : StructureSets) (n a : ℕ) (ws : List ℕ) (k v : ℕ) → Tells m parts → parts n a ≡ Some (Table ws) → k < length ws → Tells (with_word m (a + 4 * k) v) (put parts n a (Table (set ws k v)))
word_put_table m parts n a ws k v t here below =
    let h : HoldsTable m a ws = t.each n a (Table ws) here in
    let long : length (set ws k v) ≡ length ws = length-set ws k v in
    change_is_told m (with_word m (a + 4 * k) v) parts n a (Table ws) (Table (set ws k v)) t here
    (word_changes m a (Table ws) (a + 4 * k) v (k, below, refl))
    (λ b has. (has.0, let inside = has.1 in omega (arith, inside, long), has.2))
    (record {
      aligned = h.aligned;
      lent = λ i inside. h.lent i (omega (arith, inside, long));
      words =
          ap (words_in (set m.words ((a + 4 * k) / 4) v) a) long
          ∙ words_in-set_inside m.words a (length ws) k v h.aligned below (table_inside m a ws k t.shape h below) ∙ ap (λ xs. set xs k v) h.words;
    })

-- ---- the token of a qTD

with_token_in_range : (d : Qtd) (t : Token) → IsQtdInRange d → IsWordInRange token_rows t → IsQtdInRange (record d { token = t })
with_token_in_range d t (next, (alternate, (token, later))) range = (next, (alternate, (range, later)))

pub token_is_told : (m : Mem) (parts : StructureSets) (n a : ℕ) (d : Qtd) (new : Token) → Tells m parts → parts n a ≡ Some (Element d) → IsWordInRange token_rows new → Tells (token_written m a new) (put parts n a (Element (record d { token = new })))
token_is_told m parts n a d new t here range =
    let h : HoldsElement m a d = t.each n a (Element d) here in
    let written : token_written m a new ≡ with_word m (a + 8) (token_word new) = ap (λ (b : Bool). if b then with_word m (a + 8) (token_word new) else refused m) h.lent in
    subst (λ (x : Mem). Tells x (put parts n a (Element (record d { token = new })))) (sym written)
    (word_put_element m parts n a d (record d { token = new }) 2 (token_word new) t here (omega arith) (sym (qtd_words-token d new)) (with_token_in_range d new h.range range))

-- ---- the overlay of a queue head

words_in-add : (ws : List ℕ) (at n k : ℕ) → words_in ws at (n + k) ≡ words_in ws at n ++ words_in ws (at + 4 * n) k
unfolding words_in
words_in-add ws at zero k = let e : at ≡ at + 4 * 0 = omega arith in ap (words_in ws at) (zero-add k) ∙ ap (λ (b : ℕ). words_in ws b k) e
words_in-add ws at (suc n) k =
    let e : at + 4 + 4 * n ≡ at + 4 * suc n = omega arith in
    ap (words_in ws at) (suc-add n k) ∙ ap (λ xs. get_or ws (at / 4) 0 ∷ xs) (words_in-add ws (at + 4) n k ∙ ap (λ (b : ℕ). words_in ws (at + 4) n ++ words_in ws b k) e)

first_three : (m : Mem) (a : ℕ) (q : Qh) → words_at m a 12 ≡ qh_words q → words_at m a 3 ≡ take 3 (qh_words q)
first_three m a q words =
    sym (ap (take 3) (words_in-add m.words a 3 9) ∙ first_eight (words_in m.words a 3) (words_in m.words (a + 12) 9) 3 (length-words_in m.words a 3)) ∙ ap (take 3) words

-- the words of a queue head with this overlay
head_words_back : (m : Mem) (a : ℕ) (q : Qh) → IsShaped m → a % 32 ≡ 0 → reaches_queue_head m a ≡ true → words_at m a 3 ≡ take 3 (qh_words q) → words_at (overlay_written m a (overlay_words q)) a 12 ≡ qh_words q
head_words_back m a q shape aligned reached front =
    let both = and_both (reaches m a) (reaches m (a + 32)) reached in
    let ws = overlay_words q in
    let five = with_words m (a + 12) (take 5 ws) in
    let written : overlay_written m a ws ≡ with_words m (a + 12) ws =
    ap (λ (b : Bool). if b then (if reaches m (a + 32) then with_words m (a + 12) ws else refused five) else refused m) both.0
    ∙ ap (λ (b : Bool). if b then with_words m (a + 12) ws else refused five) both.1 in
    let room = two_inside m a shape aligned reached in
    let nine = nine_words q in
    let within : (a + 12) / 4 + length ws ≤ length m.words = omega (arith, nine, room) in
    ap (λ (x : Mem). words_at x a 12) written
    ∙ words_in-add (with_words_in m.words (a + 12) ws) a 3 9
    ∙ ap (λ xs. xs ++ words_in (with_words_in m.words (a + 12) ws) (a + 12) 9) (words_in-with_words_in_apart m.words a 3 (a + 12) ws (omega (arith, aligned)) within (inl (omega arith)) ∙ front)
    ∙ ap (λ xs. take 3 (qh_words q) ++ xs) (ap (words_in (with_words_in m.words (a + 12) ws) (a + 12)) (sym nine) ∙ words_in-with_words_in_same m.words (a + 12) ws (omega (arith, aligned)) within)
    ∙ take-append-drop 3 (qh_words q)

-- the link doesn't stand in the overlay
pub overlay_relinked : (q c : Qh) → overlay_words (relinked q c) ≡ overlay_words c
unfolding qh_words
overlay_relinked q c = refl

relinked_in_range : (q c : Qh) → IsQhInRange q → IsQhInRange c → IsQhInRange (relinked q c)
relinked_in_range q c (link, before) (old, rest) = (link, rest)

-- a word outside both blocks lies before or after the overlay
beside_two : (a other : ℕ) → a % 32 ≡ 0 → (IsOneOfTwo a (other / 32) → ⊥) → (other < a + 12) ⊎ (a + 48 ≤ other)
beside_two a other aligned outside =
    ⊎_elim (λ (low : other < a). inl (omega (arith, low)))
    (λ (high : a ≤ other).
    ⊎_elim (λ (first : other < a + 32). absurd (outside (inl (omega (arith, aligned, high, first)))))
    (λ (later : a + 32 ≤ other).
    ⊎_elim (λ (second : other < a + 64). absurd (outside (inr (omega (arith, aligned, later, second)))))
    (λ (past : a + 64 ≤ other). inr (omega (arith, past))) (cases_lt other (a + 64))) (cases_lt other (a + 32))) (cases_lt other a)

lent_same : (m after : Mem) (a : ℕ) → after.states ≡ m.states → (reaches m a && reaches m (a + 32)) ≡ true → (reaches after a && reaches after (a + 32)) ≡ true
lent_same m after a states lent = ap (λ (ss : List BlockState). is_lent (slice_get ss (a / 32)) && is_lent (slice_get ss ((a + 32) / 32))) states ∙ lent

overlay_changes : (m : Mem) (a : ℕ) (q c : Qh) → a % 32 ≡ 0 → Changes m (overlay_written m a (overlay_words c)) a (QueueHead q)
overlay_changes m a q c aligned = record {
  states = overlay_states m a (overlay_words c);
  size = overlay_size m a (overlay_words c);
  outside = λ other outside. overlay_outside m a (overlay_words c) other (omega (arith, aligned)) (nine_words c) (beside_two a other aligned outside);
}

-- Words 3 to 11 of a copy are written; the link stays the one in memory.
pub overlay_is_told : (m : Mem) (parts : StructureSets) (n a : ℕ) (q c : Qh) → Tells m parts → parts n a ≡ Some (QueueHead q) → IsQhInRange c → take 3 (qh_words (relinked q c)) ≡ take 3 (qh_words q) → Tells (overlay_written m a (overlay_words c)) (put parts n a (QueueHead (relinked q c)))
overlay_is_told m parts n a q c t here range front =
    let h : HoldsQueueHead m a q = t.each n a (QueueHead q) here in
    let after = overlay_written m a (overlay_words c) in
    change_is_told m after parts n a (QueueHead q) (QueueHead (relinked q c)) t here (overlay_changes m a q c h.aligned) (λ b has. has)
    (record {
      aligned = h.aligned;
      lent = lent_same m after a (overlay_states m a (overlay_words c)) h.lent;
      words = ap (λ ws. words_at (overlay_written m a ws) a 12) (sym (overlay_relinked q c)) ∙ head_words_back m a (relinked q c) t.shape h.aligned h.lent (first_three m a q h.words ∙ sym front);
      range = relinked_in_range q c h.range range;
    })
