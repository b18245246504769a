-- What is written back: it stands there and is read from there, and every other word stays.
use Rattle.std.proofs.Common.{◌≡◌, ℕ, zero, suc, ◌+◌, ◌*◌, ◌/◌, ◌%◌, ◌^◌, ◌<◌, ◌≤◌, ◌⊎◌, List, [], ◌∷◌, ◌++◌, Bool, true, false, ◌&&◌, if◌then◌else◌, Option, Some, None, Result, Ok, Err, length, take, get_or, set, slice_index, arith, ap, refl, sym, ◌∙◌, ⊎_elim, inl, inr, zero-add, suc-add}
use Rattle.std.specs.Result.{result_ok}
use Rattle.std.proofs.lemmas.Bool.{false≢true}
use Rattle.std.proofs.lemmas.List.{get_or-set_other, length-set, length-take-le, length-drop, take-append-drop, take-append-le, take_all}
use Rattle.std.proofs.lemmas.Option.{slice_get_within, same_Some}
use Rattle.word_mem.specs.Memory.{Mem, IsShaped, word_at, reaches, refused, with_word}
use Rattle.word_mem.specs.Views.{words_in, with_words_in, words_at, with_words}
use Rattle.word_mem.specs.declared.blocks.BlockState.TheVariants.{Lent}
use Rattle.word_mem.proofs.Frames.{lent_if_reached}
use Rattle.word_mem.proofs.Words.{length-words_in, length-with_words_in, words_in-set_inside, words_in-with_words_in_same, words_in-with_words_in_apart}
use Rattle.link_words.specs.declared.refusal.Bad.{Bad}
use Rattle.link_words.specs.Layout.{IsWordInRange}
use Rattle.qh_qtd.specs.declared.token.Token.{Token}
use Rattle.qh_qtd.specs.declared.qtd.Qtd.{Qtd}
use Rattle.qh_qtd.specs.declared.queue_head.Qh.{Qh}
use Rattle.qh_qtd.specs.Token.{token_rows, token_word}
use Rattle.qh_qtd.specs.Qtd.{IsQtdInRange, qtd_words, qtd_read}
use Rattle.qh_qtd.specs.QueueHead.{IsQhInRange, qh_words, qh_read}
use Rattle.qh_qtd.proofs.QtdLaws.{qtd_words-read, qtd_words-token, qtd_read-words}
use Rattle.qh_qtd.proofs.QhLaws.{qh_read-words, qh_words-read, qh_words-length}
use Rattle.mem_queues.specs.Structures.{qtd_at_address, qtd_was_read, reaches_queue_head, queue_head_at_address, queue_head_was_read, overlay_words, overlay_written, token_written}

-- ---- words elsewhere

-- one of two or three memories
both_ways : {A : Type 0} (P : A → Type 0) (b : Bool) (x y : A) → P x → P y → P (if b then x else y)
both_ways P true x y one other = one
both_ways P false x y one other = other

elsewhere : (ws : List ℕ) (at : ℕ) (new : List ℕ) (i : ℕ) → (i < at / 4) ⊎ (at / 4 + length new ≤ i) → get_or (with_words_in ws at new) i 0 ≡ get_or ws i 0
unfolding with_words_in
elsewhere ws at [] i apart = refl
elsewhere ws at (v ∷ vs) i apart =
    let later : (i < (at + 4) / 4) ⊎ ((at + 4) / 4 + length vs ≤ i) = ⊎_elim (λ (low : i < at / 4). inl (omega arith)) (λ (high : at / 4 + suc (length vs) ≤ i). inr (omega arith)) apart in
    elsewhere (set ws (at / 4) v) (at + 4) vs i later
    ∙ get_or-set_other ws (at / 4) i v 0
    (λ same. ⊎_elim (λ (low : i < at / 4). absurd (omega (arith, same))) (λ (high : at / 4 + suc (length vs) ≤ i). absurd (omega (arith, same))) apart)

pub overlay_outside : (m : Mem) (a : ℕ) (ws : List ℕ) (other : ℕ) → a % 4 ≡ 0 → length ws ≡ 9 → (other < a + 12) ⊎ (a + 48 ≤ other) → word_at (overlay_written m a ws) other ≡ word_at m other
overlay_outside m a ws other aligned nine apart =
    let P = λ (q : Mem). word_at q other ≡ word_at m other in
    let five : length (take 5 ws) ≡ 5 = length-take-le 5 ws (omega arith) in
    let all : (other / 4 < (a + 12) / 4) ⊎ ((a + 12) / 4 + length ws ≤ other / 4) = ⊎_elim (λ (low : other < a + 12). inl (omega arith)) (λ (high : a + 48 ≤ other). inr (omega arith)) apart in
    let some : (other / 4 < (a + 12) / 4) ⊎ ((a + 12) / 4 + length (take 5 ws) ≤ other / 4) = ⊎_elim (λ (low : other < a + 12). inl (omega arith)) (λ (high : a + 48 ≤ other). inr (omega (arith, five))) apart in
    both_ways P (reaches m a) (if reaches m (a + 32) then with_words m (a + 12) ws else refused (with_words m (a + 12) (take 5 ws))) (refused m)
    (both_ways P (reaches m (a + 32)) (with_words m (a + 12) ws) (refused (with_words m (a + 12) (take 5 ws)))
    (elsewhere m.words (a + 12) ws (other / 4) all) (elsewhere m.words (a + 12) (take 5 ws) (other / 4) some)) refl

pub overlay_states : (m : Mem) (a : ℕ) (ws : List ℕ) → (overlay_written m a ws).states ≡ m.states
overlay_states m a ws =
    let P = λ (q : Mem). q.states ≡ m.states in
    both_ways P (reaches m a) (if reaches m (a + 32) then with_words m (a + 12) ws else refused (with_words m (a + 12) (take 5 ws))) (refused m)
    (both_ways P (reaches m (a + 32)) (with_words m (a + 12) ws) (refused (with_words m (a + 12) (take 5 ws))) refl refl) refl

pub overlay_size : (m : Mem) (a : ℕ) (ws : List ℕ) → length (overlay_written m a ws).words ≡ length m.words
overlay_size m a ws =
    let P = λ (q : Mem). length q.words ≡ length m.words in
    both_ways P (reaches m a) (if reaches m (a + 32) then with_words m (a + 12) ws else refused (with_words m (a + 12) (take 5 ws))) (refused m)
    (both_ways P (reaches m (a + 32)) (with_words m (a + 12) ws) (refused (with_words m (a + 12) (take 5 ws)))
    (length-with_words_in m.words (a + 12) ws) (length-with_words_in m.words (a + 12) (take 5 ws))) refl

pub token_outside : (m : Mem) (a : ℕ) (t : Token) (other : ℕ) → a % 4 ≡ 0 → (other < a + 8) ⊎ (a + 12 ≤ other) → word_at (token_written m a t) other ≡ word_at m other
token_outside m a t other aligned apart =
    both_ways (λ (q : Mem). word_at q other ≡ word_at m other) (reaches m a) (with_word m (a + 8) (token_word t)) (refused m)
    (get_or-set_other m.words ((a + 8) / 4) (other / 4) (token_word t) 0
    (λ same. ⊎_elim (λ (low : other < a + 8). absurd (omega (arith, same))) (λ (high : a + 12 ≤ other). absurd (omega (arith, same))) apart)) refl

pub token_states : (m : Mem) (a : ℕ) (t : Token) → (token_written m a t).states ≡ m.states
token_states m a t = both_ways (λ (q : Mem). q.states ≡ m.states) (reaches m a) (with_word m (a + 8) (token_word t)) (refused m) refl refl

pub token_size : (m : Mem) (a : ℕ) (t : Token) → length (token_written m a t).words ≡ length m.words
token_size m a t =
    both_ways (λ (q : Mem). length q.words ≡ length m.words) (reaches m a) (with_word m (a + 8) (token_word t)) (refused m)
    (length-set m.words ((a + 8) / 4) (token_word t)) refl

pub words_read : (m : Mem) (a : ℕ) → (qtd_was_read m a).words ≡ m.words
words_read m a = both_ways (λ (q : Mem). q.words ≡ m.words) (reaches m a) m (refused m) refl refl

pub states_read : (m : Mem) (a : ℕ) → (qtd_was_read m a).states ≡ m.states
states_read m a = both_ways (λ (q : Mem). q.states ≡ m.states) (reaches m a) m (refused m) refl refl

pub words_head_read : (m : Mem) (a : ℕ) → (queue_head_was_read m a).words ≡ m.words
words_head_read m a = both_ways (λ (q : Mem). q.words ≡ m.words) (reaches_queue_head m a) m (refused m) refl refl

pub states_head_read : (m : Mem) (a : ℕ) → (queue_head_was_read m a).states ≡ m.states
states_head_read m a = both_ways (λ (q : Mem). q.states ≡ m.states) (reaches_queue_head m a) m (refused m) refl refl

-- ---- reading what was written

words_in-add : (ws : List ℕ) (at n k : ℕ) → words_in ws at (n + k) ≡ words_in ws at n ++ words_in ws (at + 4 * n) k
unfolding words_in
words_in-add ws at zero k = let e : at ≡ at + 4 * 0 = omega arith in ap (words_in ws at) (zero-add k) ∙ ap (λ (b : ℕ). words_in ws b k) e
words_in-add ws at (suc n) k =
    let e : at + 4 + 4 * n ≡ at + 4 * suc n = omega arith in
    ap (words_in ws at) (suc-add n k) ∙ ap (λ xs. get_or ws (at / 4) 0 ∷ xs) (words_in-add ws (at + 4) n k ∙ ap (λ (b : ℕ). words_in ws (at + 4) n ++ words_in ws b k) e)

if_some : {A : Type 0} (b : Bool) (o : Option A) (v : A) → (if b then o else None) ≡ Some v → (b ≡ true) × (o ≡ Some v)
if_some true o v e = (refl, e)
if_some false o v e = absurd (cc)

from_ok : {A : Type 0} (r : Result A Bad) (v : A) → result_ok r ≡ Some v → r ≡ Ok v
from_ok (Ok x) v e = ap Ok (same_Some x v e)
from_ok (Err bad) v e = absurd (cc)

and_both : (b c : Bool) → (b && c) ≡ true → (b ≡ true) × (c ≡ true)
and_both true c e = (refl, e)
and_both false c e = absurd (false≢true e)

take_front : (xs ys : List ℕ) (n : ℕ) → length xs ≡ n → take n (xs ++ ys) ≡ xs
take_front xs ys n long = take-append-le n xs ys (omega arith) ∙ take_all n xs (omega arith)

words_small : (ws : List ℕ) (at n : ℕ) → ((i : ℕ) → get_or ws i 0 < 2 ^ 32) → (k : ℕ) → get_or (words_in ws at n) k 0 < 2 ^ 32
unfolding words_in
words_small ws at zero small k = omega arith
words_small ws at (suc n) small zero = small (at / 4)
words_small ws at (suc n) small (suc k) = words_small ws (at + 4) n small k

-- the words of a Lent block lie in memory
block_inside : (m : Mem) (a : ℕ) → IsShaped m → a % 32 ≡ 0 → reaches m a ≡ true → a / 4 + 8 ≤ length m.words
block_inside m a shape aligned reached =
    let inside = slice_get_within m.states (a / 32) Lent (lent_if_reached m a reached) in
    omega (arith, inside, shape.eight_each)

-- the twelve words of a queue head with this overlay written
overlay_stands : (m : Mem) (a : ℕ) (ws : List ℕ) → IsShaped m → a % 32 ≡ 0 → length ws ≡ 9 → reaches m (a + 32) ≡ true → words_at (with_words m (a + 12) ws) a 12 ≡ words_at m a 3 ++ ws
overlay_stands m a ws shape aligned nine reached =
    let room = block_inside m (a + 32) shape (omega arith) reached in
    let within : (a + 12) / 4 + length ws ≤ length m.words = omega (arith, nine, room) in
    words_in-add (with_words_in m.words (a + 12) ws) a 3 9
    ∙ ap (λ xs. xs ++ words_in (with_words_in m.words (a + 12) ws) (a + 12) 9)
    (words_in-with_words_in_apart m.words a 3 (a + 12) ws (omega arith) within (inl (omega arith)))
    ∙ ap (λ xs. words_in m.words a 3 ++ xs)
    (ap (words_in (with_words_in m.words (a + 12) ws) (a + 12)) (sym nine) ∙ words_in-with_words_in_same m.words (a + 12) ws (omega arith) within)

pub head_written_back : (m : Mem) (a : ℕ) (q : Qh) → IsShaped m → a % 32 ≡ 0 → IsQhInRange q → reaches_queue_head m a ≡ true → words_at m a 3 ≡ take 3 (qh_words q) → queue_head_at_address (overlay_written m a (overlay_words q)) a ≡ Some q
head_written_back m a q shape aligned range reached front =
    let both = and_both (reaches m a) (reaches m (a + 32)) reached in
    let ws = overlay_words q in
    let nine : length ws ≡ 9 = omega (arith, length-drop 3 (qh_words q), qh_words-length q) in
    let five = with_words m (a + 12) (take 5 ws) in
    let written : overlay_written m a ws ≡ with_words m (a + 12) ws =
    ap (λ (b : Bool). if b then (if reaches m (a + 32) then with_words m (a + 12) ws else refused five) else refused m) both.0
    ∙ ap (λ (b : Bool). if b then with_words m (a + 12) ws else refused five) both.1 in
    let words : words_at (with_words m (a + 12) ws) a 12 ≡ qh_words q =
    overlay_stands m a ws shape aligned nine both.1 ∙ ap (λ xs. xs ++ ws) front ∙ take-append-drop 3 (qh_words q) in
    ap (λ (x : Mem). queue_head_at_address x a) written
    ∙ ap (λ (b : Bool). if b then result_ok (qh_read (words_at (with_words m (a + 12) ws) a 12)) else None) reached
    ∙ ap (λ xs. result_ok (qh_read xs)) words
    ∙ ap result_ok (qh_read-words q range)

-- a queue head that stands there has another overlay
pub head_stepped : (m : Mem) (a : ℕ) (before q : Qh) → IsShaped m → ((i : ℕ) → slice_index m.words i < 2 ^ 32) → a % 32 ≡ 0 → IsQhInRange q → queue_head_at_address m a ≡ Some before → take 3 (qh_words q) ≡ take 3 (qh_words before) → queue_head_at_address (overlay_written m a (overlay_words q)) a ≡ Some q
head_stepped m a before q shape small aligned range there front =
    let found = if_some (reaches_queue_head m a) (result_ok (qh_read (words_at m a 12))) before there in
    let read = from_ok (qh_read (words_at m a 12)) before found.1 in
    let fits : (k : ℕ) → get_or (words_at m a 12) k 0 < 2 ^ 32 = words_small m.words a 12 small in
    let was = qh_words-read (words_at m a 12) before (length-words_in m.words a 12) fits read in
    let three : take 3 (words_at m a 12) ≡ words_at m a 3 =
    ap (take 3) (words_in-add m.words a 3 9) ∙ take_front (words_in m.words a 3) (words_in m.words (a + 12) 9) 3 (length-words_in m.words a 3) in
    head_written_back m a q shape aligned range found.0 (sym three ∙ ap (take 3) (sym was.0) ∙ sym front)

-- a qTD that stands there has another token, and else the same fields
with_token_in_range : (d : Qtd) (t : Token) → IsQtdInRange d → IsWordInRange token_rows t → IsQtdInRange (record d { token = t })
with_token_in_range d t (next, (alternate, (token, later))) range = (next, (alternate, (range, later)))

pub token_written_back : (m : Mem) (a : ℕ) (t : Token) (d : Qtd) → IsShaped m → ((i : ℕ) → slice_index m.words i < 2 ^ 32) → a % 32 ≡ 0 → IsWordInRange token_rows t → qtd_at_address m a ≡ Some d → qtd_at_address (token_written m a t) a ≡ Some (record d { token = t })
token_written_back m a t d shape small aligned range there =
    let found = if_some (reaches m a) (result_ok (qtd_read (words_at m a 8))) d there in
    let read = from_ok (qtd_read (words_at m a 8)) d found.1 in
    let fits : (k : ℕ) → get_or (words_at m a 8) k 0 < 2 ^ 32 = words_small m.words a 8 small in
    let was = qtd_words-read (words_at m a 8) d (length-words_in m.words a 8) fits read in
    let room = block_inside m a shape aligned found.0 in
    let written : token_written m a t ≡ with_word m (a + 8) (token_word t) =
    ap (λ (b : Bool). if b then with_word m (a + 8) (token_word t) else refused m) found.0 in
    let words : words_at (with_word m (a + 8) (token_word t)) a 8 ≡ qtd_words (record d { token = t }) =
    words_in-set_inside m.words a 8 2 (token_word t) (omega arith) (omega arith) room
    ∙ ap (λ xs. set xs 2 (token_word t)) (sym was.0) ∙ qtd_words-token d t in
    ap (λ (x : Mem). qtd_at_address x a) written
    ∙ ap (λ (b : Bool). if b then result_ok (qtd_read (words_at (with_word m (a + 8) (token_word t)) a 8)) else None) found.0
    ∙ ap (λ xs. result_ok (qtd_read xs)) words
    ∙ ap result_ok (qtd_read-words (record d { token = t }) (with_token_in_range d t was.1 range))
