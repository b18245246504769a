-- The bytes that a put holds from its place on are those of its put behind those of the qTDs before.
use Rattle.std.proofs.Common.{◌≡◌, ℕ, zero, suc, ◌+◌, ◌-◌, ◌<◌, ◌≤◌, List, [], ◌++◌, length, take, drop, ap, refl, sym, ◌∙◌, arith}
use Rattle.std.proofs.lemmas.List.{append_assoc, take-append-drop, length-append, length-take, ext_get_or, places}
use Rattle.std.proofs.lemmas.List.FromFn.{get_or-map-range_with_len, length-map-range_with_len}
use Rattle.std.proofs.Math.Seq.{drop-append_seam}
use Rattle.std.specs.Prelude.{get_or}
use Rattle.claims_base.specs.Prefix.{IsPrefix}
use Rattle.word_mem.specs.Memory.{Mem}
use Rattle.word_mem.specs.Views.{byte_at}
use Rattle.drv_table.specs.declared.content.QtdNote.{QtdNote}
use Rattle.drv_table.specs.declared.content.Transfer.{Transfer}
use Rattle.drv_table.specs.Harvests.{note_at, buffer_address, buffer_bytes}
use Rattle.claims_driver.specs.Owners.{note_in}
use Rattle.law_driver.specs.chained_transfers.Chains.{piece_at}
use Rattle.law_driver.specs.chained_transfers.Turns.{IsAtPlace}
use Rattle.law_world.specs.streams.put_laws.Held.{held_bytes}
use Rattle.law_world.specs.streams.put_laws.HeldPuts.{told_before, piece_of}
use Rattle.law_world.proofs.lemmas.streams.lemmas.put_laws.HeldAlike.{SameNote}

-- ---- one buffer

pub bytes_long : (m : Mem) (note : QtdNote) (n : ℕ) → length (buffer_bytes m note n) ≡ n
unfolding buffer_bytes
bytes_long m note n = length-map-range_with_len (λ j. byte_at m (buffer_address note j)) 0 n

byte_in : (m : Mem) (note : QtdNote) (n i : ℕ) → i < n → get_or (buffer_bytes m note n) i 0 ≡ byte_at m (buffer_address note i)
unfolding buffer_bytes
byte_in m note n i below = let z : 0 + i ≡ i = omega arith in get_or-map-range_with_len (λ j. byte_at m (buffer_address note j)) 0 n i i 0 below z

first_bytes : (m : Mem) (note : QtdNote) (n k : ℕ) → k ≤ n → take k (buffer_bytes m note n) ≡ buffer_bytes m note k
first_bytes m note n k few =
    let bs = buffer_bytes m note n in
    let long = bytes_long m note n in
    let size = length-take k bs in
    let short = bytes_long m note k in
    ext_get_or 0 (take k bs) (buffer_bytes m note k) (let e : length (take k bs) ≡ length (buffer_bytes m note k) = omega (arith, size, long, short, few) in e)
    (λ i inside.
    let below : i < k = omega (arith, inside, size) in
    let at : get_or (take k bs) i 0 ≡ get_or bs i 0 = grind (arith, places) in
    at ∙ byte_in m note n i (omega (arith, below, few)) ∙ sym (byte_in m note k i below))

pub begins_buffer : (m : Mem) (note : QtdNote) (n k : ℕ) → k ≤ n → IsPrefix (buffer_bytes m note k) (buffer_bytes m note n)
begins_buffer m note n k few =
    let bs = buffer_bytes m note n in
    (drop k bs, ap (λ (xs : List ℕ). xs ++ drop k bs) (sym (first_bytes m note n k few)) ∙ take-append-drop k bs)

pub no_bytes : (m : Mem) (note : QtdNote) → buffer_bytes m note 0 ≡ []
unfolding buffer_bytes
no_bytes m note = refl

-- ---- the buffers of a put

pub held_long : (m : Mem) (notes : List QtdNote) (b n : ℕ) → length (held_bytes m notes b n) ≡ told_before notes b n
unfolding held_bytes told_before
held_long m notes b zero = refl
held_long m notes b (suc n) =
    let note = note_at notes b in
    let here = bytes_long m note note.told in
    let rest = held_long m notes note.next n in
    let both = length-append (buffer_bytes m note note.told) (held_bytes m notes note.next n) in
    omega (arith, here, rest, both)

pub held_split : (m : Mem) (notes : List QtdNote) (b i n : ℕ) → held_bytes m notes b (i + n) ≡ held_bytes m notes b i ++ held_bytes m notes (piece_at (note_in notes) b i) n
unfolding held_bytes
held_split m notes b zero n = ap (held_bytes m notes b) (let e : 0 + n ≡ n = omega arith in e)
held_split m notes b (suc i) n =
    let note = note_at notes b in
    let bs = buffer_bytes m note note.told in
    ap (held_bytes m notes b) (let e : suc i + n ≡ suc (i + n) = omega arith in e) ∙ ap (λ (xs : List ℕ). bs ++ xs) (held_split m notes note.next i n) ∙ sym (append_assoc bs (held_bytes m notes note.next i) (held_bytes m notes (piece_at (note_in notes) note.next i) n))

-- from its place on
pub held_left : (m : Mem) (notes : List QtdNote) (y : Transfer) (bytes : List ℕ) → IsAtPlace (note_in notes) y → held_bytes m notes y.first y.qtds ≡ bytes
    → held_bytes m notes y.place y.left ≡ piece_of notes y.first (y.qtds - y.left) bytes
held_left m notes y bytes at all =
    let i = y.qtds - y.left in
    let most = at.most in
    let sum : y.qtds ≡ i + y.left = omega (arith, most) in
    let before = held_bytes m notes y.first i in
    let rest = held_bytes m notes y.place y.left in
    let split : bytes ≡ before ++ rest =
    sym all ∙ ap (held_bytes m notes y.first) sum ∙ held_split m notes y.first i y.left ∙ ap (λ (b : ℕ). before ++ held_bytes m notes b y.left) (sym at.place) in
    sym (ap (drop (told_before notes y.first i)) split ∙ ap (λ (k : ℕ). drop k (before ++ rest)) (sym (held_long m notes y.first i)) ∙ drop-append_seam before rest)

pub told_same : (notes now : List QtdNote) (b n : ℕ) → ((i : ℕ) → i < n → SameNote (note_at notes (piece_at (note_in notes) b i)) (note_at now (piece_at (note_in notes) b i))) → told_before now b n ≡ told_before notes b n
unfolding told_before
told_same notes now b zero each = refl
told_same notes now b (suc n) each =
    let k : SameNote (note_at notes b) (note_at now b) = each 0 (omega arith) in
    let told = k.told in
    let rest : told_before now (note_at now b).next n ≡ told_before notes (note_at notes b).next n =
    ap (λ (i : ℕ). told_before now i n) k.next ∙ told_same notes now (note_at notes b).next n (λ i below. each (suc i) (omega (arith, below))) in
    omega (arith, told, rest)

pub pieces_same : (notes now : List QtdNote) (b n : ℕ) → ((i : ℕ) → i < n → SameNote (note_at notes (piece_at (note_in notes) b i)) (note_at now (piece_at (note_in notes) b i)))
    → piece_at (note_in now) b n ≡ piece_at (note_in notes) b n
pieces_same notes now b zero each = refl
pieces_same notes now b (suc n) each =
    ap (λ (i : ℕ). piece_at (note_in now) i n) (each 0 (omega arith)).next ∙ pieces_same notes now (note_at notes b).next n (λ i below. each (suc i) (omega (arith, below)))

pub held_first : (m : Mem) (notes : List QtdNote) (b n : ℕ) → held_bytes m notes b (suc n) ≡ buffer_bytes m (note_at notes b) (note_at notes b).told ++ held_bytes m notes (note_at notes b).next n
unfolding held_bytes
held_first m notes b n = refl

pub held_none : (m : Mem) (notes : List QtdNote) (b : ℕ) → held_bytes m notes b 0 ≡ []
unfolding held_bytes
held_none m notes b = refl
