-- What a harvest reads is what is told.
use Rattle.std.proofs.Common.{◌≡◌, ℕ, ◌+◌, ◌-◌, ◌*◌, ◌≤◌, Bool, true, false, cond, List, length, take, map, get_or, Option, Some, None, ap, refl, sym, ◌∙◌, arith}
use Rattle.std.specs.List.{range_with_len}
use Rattle.std.specs.Result.{result_ok}
use Rattle.std.proofs.lemmas.Option.{same_Some}
use Rattle.std.proofs.lemmas.List.FromFn.{get_or-map-range_with_len, length-map-range_with_len}
use Rattle.law_driver_ring.proofs.Common.{moved_is}
use Rattle.word_mem.specs.Memory.{Mem, reaches}
use Rattle.word_mem.specs.Views.{words_at, byte_at}
use Rattle.word_mem.proofs.Words.{get_or-words_in}
use Rattle.mem_bytes.specs.Bytes.{bytes_at}
use Rattle.mem_bytes.proofs.Loads.{bytes_at_is}
use Rattle.link_words.specs.Layout.{unless_bad}
use Rattle.link_words.specs.declared.refusal.Bad.{Bad}
use Rattle.qh_qtd.specs.declared.token.Token.{Token}
use Rattle.qh_qtd.specs.declared.qtd.Qtd.{Qtd}
use Rattle.qh_qtd.specs.Token.{token_at}
use Rattle.qh_qtd.specs.Qtd.{qtd_read, qtd_at, qtd_bad}
use Rattle.law_structures.specs.lent_structures.Structures.{Element, Buffer, StructureSets, Tells}
use Rattle.law_structures.proofs.lemmas.lent_structures.Reading.{element_read, bytes_part}
use Rattle.law_structures.specs.lent_structures.Sound.{element_pages, buffer_name, IsMember}
use Rattle.law_ring.specs.Hand.{Hand}
use Rattle.law_ring.specs.Effects.{bytes_in, buffer_of}
use Rattle.law_ring.specs.Told.{Told}
use Rattle.law_ring.proofs.Ordering.{a_done_qtd_is_told_by_memory}
use Rattle.drv_table.specs.declared.content.QtdNote.{QtdNote}
use Rattle.drv_table.specs.Harvests.{token_in, moved_of, buffer_address, buffer_bytes}
use Rattle.law_driver_ring.specs.harvested_streams.Harvested.{IsNoted}

-- ---- the token

unless_is : (o : Option Bad) (q r : Qtd) → result_ok (unless_bad o q) ≡ Some r → q ≡ r
unless_is None q r e = same_Some q r e
unless_is (Some bad) q r e = absurd (cc)

read_is : (ws : List ℕ) (q : Qtd) → result_ok (qtd_read ws) ≡ Some q → qtd_at ws ≡ q
unfolding qtd_read
read_is ws q e = unless_is (qtd_bad ws) (qtd_at ws) q e

there_is : (b : Bool) (ws : List ℕ) (q : Qtd) → cond b (result_ok (qtd_read ws)) None ≡ Some q → qtd_at ws ≡ q
there_is true ws q e = read_is ws q e
there_is false ws q e = absurd (cc)

token_in_words : (ws : List ℕ) → (qtd_at ws).token ≡ token_at (get_or ws 2 0)
unfolding qtd_at
token_in_words ws = refl

pub token_is_read : (m : Mem) (parts : StructureSets) (n b : ℕ) (t : Qtd) → Tells m parts → parts n (32 * b) ≡ Some (Element t) → token_in m b ≡ t.token
token_is_read m parts n b t tells here =
    let same = there_is (reaches m (32 * b)) (words_at m (32 * b) 8) t (element_read m parts n (32 * b) t tells here) in
    sym (ap token_at (get_or-words_in m.words (32 * b) 8 2 (omega arith))) ∙ sym (token_in_words (words_at m (32 * b) 8)) ∙ ap (λ (z : Qtd). z.token) same

-- ---- the bytes

bytes_noted : (m : Mem) (t : Qtd) (bs : List ℕ) (note : QtdNote) (k : ℕ) → IsNoted note t bs → k ≤ length bs → bytes_at m (element_pages t) t.offset k ≡ buffer_bytes m note k
unfolding buffer_bytes
bytes_noted m t bs note k noted within =
    bytes_at_is m (element_pages t) t.offset (map (λ (j : ℕ). byte_at m (buffer_address note j)) (range_with_len 0 k)) k (length-map-range_with_len (λ (j : ℕ). byte_at m (buffer_address note j)) 0 k)
    (λ i below.
    let z : 0 + i ≡ i = omega arith in
    ap (byte_at m) (sym (noted.places i (omega (arith, below, within)))) ∙ sym (get_or-map-range_with_len (λ (j : ℕ). byte_at m (buffer_address note j)) 0 k i i 0 below z))

pub bytes_are_read : (m : Mem) (parts : StructureSets) (n : ℕ) (t : Qtd) (bs : List ℕ) (note : QtdNote) (k : ℕ) → Tells m parts → parts n (buffer_name t) ≡ Some (Buffer (element_pages t) t.offset bs) → IsNoted note t bs → k ≤ length bs → buffer_bytes m note k ≡ take k bs
bytes_are_read m parts n t bs note k tells here noted within =
    let z : t.offset + 0 ≡ t.offset = omega arith in
    sym (bytes_noted m t bs note k noted within) ∙ ap (λ (i : ℕ). bytes_at m (element_pages t) i k) (sym z)
    ∙ bytes_part m parts n (buffer_name t) (element_pages t) t.offset bs 0 k tells here (omega (arith, within))

-- ---- a done qTD

pub done_is_harvested : (member : ℕ → Bool) (m : Mem) (parts : StructureSets) (hand : Hand) (n b : ℕ) (t : Qtd) (bs : List ℕ) (note : QtdNote) (x : List ℕ) → Tells m parts → IsMember member n (parts n)
    → parts n (32 * b) ≡ Some (Element t) → parts n (buffer_name t) ≡ Some (Buffer (element_pages t) t.offset bs) → IsNoted note t bs → (token_in m b).active ≡ false
    → Told hand parts n (32 * b) x → buffer_bytes m note (moved_of note.told (token_in m b).total) ≡ x
done_is_harvested member m parts hand n b t bs note x tells k here buffer noted off told =
    let token : token_in m b ≡ t.token = token_is_read m parts n b t tells here in
    let count : moved_of note.told (token_in m b).total ≡ length bs - t.token.total =
    moved_is note.told (token_in m b).total ∙ ap (λ (i : ℕ). i - (token_in m b).total) noted.told ∙ ap (λ (z : Token). length bs - z.total) token in
    let are : buffer_of (parts n) t ≡ bs = ap bytes_in buffer in
    ap (buffer_bytes m note) count ∙ bytes_are_read m parts n t bs note (length bs - t.token.total) tells buffer noted (omega arith)
    ∙ ap (λ (xs : List ℕ). take (length xs - t.token.total) xs) (sym are)
    ∙ sym (a_done_qtd_is_told_by_memory member parts hand n (32 * b) t x k here (ap (λ (z : Token). z.active) (sym token) ∙ off) told)
