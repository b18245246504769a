-- What is written back: it stands there and is read from there, and every other word stays.
use Rattle.std.proofs.Common.{◌≡◌, ℕ, zero, suc, ◌+◌, ◌*◌, ◌/◌, ◌%◌, ◌^◌, ◌<◌, ◌≤◌, ◌⊎◌, List, [], ◌∷◌, Bool, true, false, ◌&&◌, if◌then◌else◌, Option, Some, None, Result, Ok, Err, length, get_or, set, slice_index, arith, ap, refl, sym, ◌∙◌, ⊎_elim, inl, inr}
use Rattle.std.specs.Prelude.{slice_set}
use Rattle.std.specs.Result.{result_ok}
use Rattle.std.proofs.lemmas.Bool.{false≢true, cases_lt}
use Rattle.std.proofs.lemmas.List.{get_or-set_other}
use Rattle.std.proofs.lemmas.Option.{slice_get_within, same_Some}
use Rattle.word_mem.specs.Memory.{Mem, IsShaped, word_at, reaches, refused, with_word}
use Rattle.word_mem.specs.Views.{words_in, with_words_in, words_at, with_words}
use Rattle.word_mem.specs.declared.blocks.BlockState.TheVariants.{Lent}
use Rattle.word_mem.proofs.Frames.{lent_if_reached}
use Rattle.word_mem.proofs.Words.{length-words_in, words_in-set_inside}
use Rattle.link_words.specs.declared.refusal.Bad.{Bad}
use Rattle.link_words.specs.Layout.{IsWordInRange}
use Rattle.itd_sitd.specs.declared.slot.ItdSlot.{ItdSlot}
use Rattle.itd_sitd.specs.declared.itd.Itd.{Itd}
use Rattle.itd_sitd.specs.Slot.{slot_rows, slot_word}
use Rattle.itd_sitd.specs.Itd.{itd_words, itd_read}
use Rattle.itd_sitd.proofs.ItdLaws.{itd_read-words, itd_words-read, itd_words-slot, IsItdInRange-slot}
use Rattle.mem_descriptors.specs.Descriptors.{reaches_itd, itd_at_address, itd_was_read, sitd_was_read, slot_address, slot_written, state_written}
use Rattle.mem_descriptors.proofs.TwoBlocks.{reaches-same_block}

-- ---- words elsewhere

-- one of two memories
both_ways : {A : Type 0} (P : A → Type 0) (b : Bool) (x y : A) → P x → P y → P (if b then x else y)
both_ways P true x y one other = one
both_ways P false x y one other = other

elsewhere : (ws : List ℕ) (at : ℕ) (new : List ℕ) (i : ℕ) → (i < at / 4) ⊎ (at / 4 + length new ≤ i) → get_or (with_words_in ws at new) i 0 ≡ get_or ws i 0
unfolding with_words_in
elsewhere ws at [] i apart = refl
elsewhere ws at (v ∷ vs) i apart =
    let later : (i < (at + 4) / 4) ⊎ ((at + 4) / 4 + length vs ≤ i) = ⊎_elim (λ (low : i < at / 4). inl (omega arith)) (λ (high : at / 4 + suc (length vs) ≤ i). inr (omega arith)) apart in
    elsewhere (set ws (at / 4) v) (at + 4) vs i later
    ∙ get_or-set_other ws (at / 4) i v 0
    (λ same. ⊎_elim (λ (low : i < at / 4). absurd (omega (arith, same))) (λ (high : at / 4 + suc (length vs) ≤ i). absurd (omega (arith, same))) apart)

pub slot_outside : (m : Mem) (a k : ℕ) (s : ItdSlot) (other : ℕ) → a % 4 ≡ 0 → (other < slot_address a k) ⊎ (slot_address a k + 4 ≤ other) → word_at (slot_written m a k s) other ≡ word_at m other
slot_outside m a k s other aligned apart =
    both_ways (λ (q : Mem). word_at q other ≡ word_at m other) (reaches m (slot_address a k)) (with_word m (slot_address a k) (slot_word s)) (refused m)
    (get_or-set_other m.words (slot_address a k / 4) (other / 4) (slot_word s) 0
    (λ same. ⊎_elim (λ (low : other < slot_address a k). absurd (omega (arith, same))) (λ (high : slot_address a k + 4 ≤ other). absurd (omega (arith, same))) apart)) refl

pub slot_states : (m : Mem) (a k : ℕ) (s : ItdSlot) → (slot_written m a k s).states ≡ m.states
slot_states m a k s = both_ways (λ (q : Mem). q.states ≡ m.states) (reaches m (slot_address a k)) (with_word m (slot_address a k) (slot_word s)) (refused m) refl refl

pub state_outside : (m : Mem) (a : ℕ) (ws : List ℕ) (other : ℕ) → a % 4 ≡ 0 → length ws ≡ 3 → (other < a + 12) ⊎ (a + 24 ≤ other) → word_at (state_written m a ws) other ≡ word_at m other
state_outside m a ws other aligned three apart =
    let place : (other / 4 < (a + 12) / 4) ⊎ ((a + 12) / 4 + length ws ≤ other / 4) = ⊎_elim (λ (low : other < a + 12). inl (omega arith)) (λ (high : a + 24 ≤ other). inr (omega arith)) apart in
    both_ways (λ (q : Mem). word_at q other ≡ word_at m other) (reaches m a) (with_words m (a + 12) ws) (refused m)
    (elsewhere m.words (a + 12) ws (other / 4) place) refl

pub state_states : (m : Mem) (a : ℕ) (ws : List ℕ) → (state_written m a ws).states ≡ m.states
state_states m a ws = both_ways (λ (q : Mem). q.states ≡ m.states) (reaches m a) (with_words m (a + 12) ws) (refused m) refl refl

pub itd_words_read : (m : Mem) (a : ℕ) → (itd_was_read m a).words ≡ m.words
itd_words_read m a = both_ways (λ (q : Mem). q.words ≡ m.words) (reaches_itd m a) m (refused m) refl refl

pub itd_states_read : (m : Mem) (a : ℕ) → (itd_was_read m a).states ≡ m.states
itd_states_read m a = both_ways (λ (q : Mem). q.states ≡ m.states) (reaches_itd m a) m (refused m) refl refl

pub sitd_words_read : (m : Mem) (a : ℕ) → (sitd_was_read m a).words ≡ m.words
sitd_words_read m a = both_ways (λ (q : Mem). q.words ≡ m.words) (reaches m a) m (refused m) refl refl

pub sitd_states_read : (m : Mem) (a : ℕ) → (sitd_was_read m a).states ≡ m.states
sitd_states_read m a = both_ways (λ (q : Mem). q.states ≡ m.states) (reaches m a) m (refused m) refl refl

-- ---- reading what was written

if_some : {A : Type 0} (b : Bool) (o : Option A) (v : A) → (if b then o else None) ≡ Some v → (b ≡ true) × (o ≡ Some v)
if_some true o v e = (refl, e)
if_some false o v e = absurd (cc)

from_ok : {A : Type 0} (r : Result A Bad) (v : A) → result_ok r ≡ Some v → r ≡ Ok v
from_ok (Ok x) v e = ap Ok (same_Some x v e)
from_ok (Err bad) v e = absurd (cc)

and_both : (b c : Bool) → (b && c) ≡ true → (b ≡ true) × (c ≡ true)
and_both true c e = (refl, e)
and_both false c e = absurd (false≢true e)

words_small : (ws : List ℕ) (at n : ℕ) → ((i : ℕ) → get_or ws i 0 < 2 ^ 32) → (k : ℕ) → get_or (words_in ws at n) k 0 < 2 ^ 32
unfolding words_in
words_small ws at zero small k = omega arith
words_small ws at (suc n) small zero = small (at / 4)
words_small ws at (suc n) small (suc k) = words_small ws (at + 4) n small k

-- the words of a Lent block lie in memory
block_inside : (m : Mem) (a : ℕ) → IsShaped m → a % 32 ≡ 0 → reaches m a ≡ true → a / 4 + 8 ≤ length m.words
block_inside m a shape aligned reached =
    let inside = slice_get_within m.states (a / 32) Lent (lent_if_reached m a reached) in
    omega (arith, inside, shape.eight_each)

-- a microframe's word lies in a Lent block where both blocks are
slot_reached_at : (m : Mem) (a k : ℕ) → a % 32 ≡ 0 → k < 8 → reaches m a ≡ true → reaches m (a + 32) ≡ true → (k < 7) ⊎ (k ≡ 7) → reaches m (slot_address a k) ≡ true
slot_reached_at m a k aligned low first second (inl early) =
    let same : a / 32 ≡ slot_address a k / 32 = omega arith in
    reaches-same_block m a (slot_address a k) same ∙ first
slot_reached_at m a k aligned low first second (inr late) =
    let same : (a + 32) / 32 ≡ slot_address a k / 32 = omega (arith, late) in
    reaches-same_block m (a + 32) (slot_address a k) same ∙ second

last_or_before : (k : ℕ) → k < 8 → (k < 7) ⊎ (k ≡ 7)
last_or_before k low = ⊎_elim (λ (below : k < 7). inl below) (λ (above : 7 ≤ k). inr (omega arith)) (cases_lt k 7)

pub slot_written_back : (m : Mem) (a k : ℕ) (s : ItdSlot) (v : Itd) → IsShaped m → ((i : ℕ) → slice_index m.words i < 2 ^ 32) → a % 32 ≡ 0 → k < 8 → IsWordInRange slot_rows s → itd_at_address m a ≡ Some v → itd_at_address (slot_written m a k s) a ≡ Some (record v { slots = slice_set v.slots k s })
slot_written_back m a k s v shape small aligned low range there =
    let found = if_some (reaches_itd m a) (result_ok (itd_read (words_at m a 16))) v there in
    let both = and_both (reaches m a) (reaches m (a + 32)) found.0 in
    let read = from_ok (itd_read (words_at m a 16)) v found.1 in
    let fits : (i : ℕ) → get_or (words_at m a 16) i 0 < 2 ^ 32 = words_small m.words a 16 small in
    let was = itd_words-read (words_at m a 16) v (length-words_in m.words a 16) fits read in
    let room = block_inside m (a + 32) shape (omega arith) both.1 in
    let new : Itd = record v { slots = slice_set v.slots k s } in
    let reached = slot_reached_at m a k aligned low both.0 both.1 (last_or_before k low) in
    let written : slot_written m a k s ≡ with_word m (slot_address a k) (slot_word s) =
    ap (λ (b : Bool). if b then with_word m (slot_address a k) (slot_word s) else refused m) reached in
    let place : a + (4 + 4 * k) ≡ a + 4 * suc k = omega arith in
    let words : words_at (with_word m (slot_address a k) (slot_word s)) a 16 ≡ itd_words new =
    ap (λ (b : ℕ). words_at (with_word m b (slot_word s)) a 16) place
    ∙ words_in-set_inside m.words a 16 (suc k) (slot_word s) (omega arith) (omega arith) (omega (arith, room))
    ∙ ap (λ xs. set xs (suc k) (slot_word s)) (sym was.0) ∙ sym (itd_words-slot v s k was.1.eight low) in
    ap (λ (x : Mem). itd_at_address x a) written
    ∙ ap (λ (b : Bool). if b then result_ok (itd_read (words_at (with_word m (slot_address a k) (slot_word s)) a 16)) else None) found.0
    ∙ ap (λ xs. result_ok (itd_read xs)) words
    ∙ ap result_ok (itd_read-words new (IsItdInRange-slot v s k was.1 low range))
