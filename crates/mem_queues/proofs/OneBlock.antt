-- The words of one block: the controller reaches all of them or none, and what reading and writing them one after another is.
use Rattle.std.proofs.Common.{◌≡◌, ℕ, ◌+◌, ◌*◌, ◌/◌, ◌%◌, ◌<◌, List, [], ◌∷◌, Bool, true, if◌then◌else◌, length, take, drop, get_or, slice_get, arith, ap, sym, ◌∙◌, add_assoc}
use Rattle.std.proofs.lemmas.List.{length-take-le, take-append-drop}
use Rattle.std.proofs.lemmas.Option.{slice_get_within}
use Rattle.word_mem.specs.Memory.{Mem, IsShaped, reaches, is_lent, refused}
use Rattle.word_mem.specs.Views.{words_in, with_words_in, words_at, with_words}
use Rattle.word_mem.specs.declared.blocks.BlockState.TheVariants.{Lent}
use Rattle.word_mem.proofs.Frames.{lent_if_reached}
use Rattle.word_mem.proofs.Words.{with_words_in-append}
use Rattle.qh_qtd.specs.declared.queue_head.Qh.{Qh}
use Rattle.qh_qtd.specs.QueueHead.{qh_words}
use Rattle.mem_queues.specs.Structures.{overlay_words, overlay_written}

-- a word of the block that begins at `at`
pub reaches-same_block : (m : Mem) (at other : ℕ) → at / 32 ≡ other / 32 → reaches m other ≡ reaches m at
reaches-same_block m at other same = ap (λ b. is_lent (slice_get m.states b)) (sym same)

-- the fourth word of a block
pub fourth_reached : (m : Mem) (at : ℕ) → at % 32 ≡ 0 → reaches m (at + 12) ≡ reaches m at
fourth_reached m at aligned =
    let same : at / 32 ≡ (at + 12) / 32 = omega arith in
    reaches-same_block m at (at + 12) same

-- memory has at most 1,048,576 bytes
pub reached_low : (m : Mem) (at : ℕ) → IsShaped m → reaches m at ≡ true → at < 1048576
reached_low m at shape reached =
    let inside = slice_get_within m.states (at / 32) Lent (lent_if_reached m at reached) in
    omega (arith, inside, shape.at_most, shape.eight_each)

pub twelve_words : (m : Mem) (at : ℕ) → words_at m at 12 ≡ get_or (words_at m at 8) 0 0 ∷ get_or (words_at m at 8) 1 0 ∷ get_or (words_at m at 8) 2 0 ∷ get_or (words_at m at 8) 3 0 ∷ get_or (words_at m at 8) 4 0 ∷ get_or (words_at m at 8) 5 0 ∷ get_or (words_at m at 8) 6 0 ∷ get_or (words_at m at 8) 7 0 ∷ get_or (words_at m (at + 32) 4) 0 0 ∷ get_or (words_at m (at + 32) 4) 1 0 ∷ get_or (words_at m (at + 32) 4) 2 0 ∷ get_or (words_at m (at + 32) 4) 3 0 ∷ []
unfolding words_in
twelve_words m at = simp add_assoc

-- nine words, five of them and then four
pub nine_written : (m : Mem) (at : ℕ) (ws : List ℕ) → length ws ≡ 9 → with_words (with_words m (at + 12) (take 5 ws)) (at + 32) (drop 5 ws) ≡ with_words m (at + 12) ws
nine_written m at ws long =
    let five : length (take 5 ws) ≡ 5 = length-take-le 5 ws (omega arith) in
    let second : at + 12 + 4 * length (take 5 ws) ≡ at + 32 = omega (arith, five) in
    ap (λ (xs : List ℕ). let q : Mem = record m { words = xs } in q)
    (ap (λ a. with_words_in (with_words_in m.words (at + 12) (take 5 ws)) a (drop 5 ws)) (sym second)
    ∙ sym (with_words_in-append m.words (at + 12) (take 5 ws) (drop 5 ws))
    ∙ ap (with_words_in m.words (at + 12)) (take-append-drop 5 ws))

-- five words written in the first block, and then four in the second if that is Lent
pub overlay_in_two : (m first last : Mem) (at second : ℕ) (ws later : List ℕ) → length ws ≡ 9 → reaches m at ≡ true → first ≡ (if reaches m at then with_words m (at + 12) (take 5 ws) else refused m) → second ≡ at + 32 → later ≡ drop 5 ws → last ≡ (if reaches first second then with_words first second later else refused first) → last ≡ overlay_written m at ws
overlay_in_two m first last at second ws later long reached first_is second_is later_is last_is =
    let five = with_words m (at + 12) (take 5 ws) in
    let both = if reaches m (at + 32) then with_words m (at + 12) ws else refused five in
    let written : first ≡ five = first_is ∙ ap (λ (b : Bool). if b then five else refused m) reached in
    last_is
    ∙ ap (λ (q : Mem). if reaches q second then with_words q second later else refused q) written
    ∙ ap (λ (s : ℕ). if reaches m s then with_words five s later else refused five) second_is
    ∙ ap (λ (xs : List ℕ). if reaches m (at + 32) then with_words five (at + 32) xs else refused five) later_is
    ∙ ap (λ (q : Mem). if reaches m (at + 32) then q else refused five) (nine_written m at ws long)
    ∙ sym (ap (λ (b : Bool). if b then both else refused m) reached)

-- the words of a queue head from the fourth on
pub overlay_is : (q : Qh) (ws : List ℕ) → ws ≡ qh_words q → take 9 (drop 3 ws) ≡ overlay_words q
unfolding qh_words
overlay_is q ws is = ap (λ (xs : List ℕ). take 9 (drop 3 xs)) is
