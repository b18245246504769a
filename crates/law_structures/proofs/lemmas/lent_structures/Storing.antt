-- Bytes put into a buffer that is told (EHCI 1.0, 4.10.6).
use Rattle.std.proofs.Common.{◌≡◌, ◌≢◌, ℕ, zero, suc, ◌+◌, ◌-◌, ◌*◌, ◌/◌, ◌<◌, ◌≤◌, List, [], ◌∷◌, ◌++◌, length, take, drop, get_or, Some, ap, refl, sym, subst, ◌∙◌, ⊎_elim, arith}
use Rattle.std.proofs.lemmas.Bool.{cases_lt}
use Rattle.std.proofs.lemmas.List.{places, length-take, length-drop, length-append}
use Rattle.word_mem.specs.Memory.{Mem, IsShaped}
use Rattle.word_mem.specs.Views.{byte_at}
use Rattle.mem_bytes.specs.Bytes.{place, put_byte, put_bytes, with_bytes, AreThere}
use Rattle.mem_bytes.proofs.Stores.{length-put_byte, length-put_bytes}
use Rattle.mem_bytes.proofs.Loads.{bytes_at_is, get_or-bytes_at}
use Rattle.mem_bytes.proofs.Frames.{byte_put, word_at-with_bytes, byte_at-with_bytes}
use Rattle.law_structures.specs.lent_structures.Structures.{StructureSets, Buffer, HoldsBuffer, AreSeparate, put, Tells}
use Rattle.law_structures.specs.lent_structures.Changes.{Changes, overwritten}
use Rattle.law_structures.proofs.lemmas.lent_structures.Reading.{part_separate, part_there}
use Rattle.law_structures.proofs.lemmas.lent_structures.Telling.{change_is_told}

pub length-overwritten : (bs : List ℕ) (j : ℕ) (got : List ℕ) → j + length got ≤ length bs → length (overwritten bs j got) ≡ length bs
length-overwritten bs j got within =
    let t = length-take j bs in
    let d = length-drop (j + length got) bs in
    let a = length-append (take j bs) (got ++ drop (j + length got) bs) in
    let b = length-append got (drop (j + length got) bs) in
    omega (arith, t, d, a, b, within)

-- ---- a byte just stored

next_there : (pages : List ℕ) (k n limit : ℕ) → ((i : ℕ) → i < suc n → place pages (k + i) < limit) → (i : ℕ) → i < n → place pages (k + 1 + i) < limit
next_there pages k n limit each i below = let e : k + suc i ≡ k + 1 + i = omega arith in subst (λ j. place pages j < limit) e (each (suc i) (omega (arith, below)))

byte_stored : (m : Mem) (pages : List ℕ) (k : ℕ) (bs : List ℕ) (i : ℕ) → AreSeparate pages k (length bs) → AreThere m pages k (length bs) → ((j : ℕ) → get_or bs j 0 < 256) → i < length bs → byte_at (with_bytes m pages k bs) (place pages (k + i)) ≡ get_or bs i 0
unfolding put_bytes
byte_stored m pages k [] i separate there small inside = absurd (omega (arith, inside))
byte_stored m pages k (b ∷ bs) zero separate there small inside =
    let now = record m { words = put_byte m.words (place pages k) b } in
    let z : k + 0 ≡ k = omega arith in
    let first = there 0 (omega arith) in
    let here : place pages k / 4 < length m.words = omega (arith, subst (λ j. place pages j < 4 * length m.words) z first) in
    ap (λ j. byte_at (with_bytes now pages (k + 1) bs) (place pages j)) z
    ∙ byte_at-with_bytes now pages (k + 1) bs (place pages k) (λ j. small (suc j))
    (λ j below e.
    let f : k + suc j ≡ k + 1 + j = omega arith in
    let same : suc j ≡ 0 = separate (suc j) 0 (omega (arith, below)) (omega arith) (ap (place pages) f ∙ e ∙ sym (ap (place pages) z)) in
    omega (arith, same))
    ∙ byte_put m (place pages k) b here (small 0)
byte_stored m pages k (b ∷ bs) (suc i) separate there small inside =
    let now = record m { words = put_byte m.words (place pages k) b } in
    let e : k + suc i ≡ k + 1 + i = omega arith in
    let long = length-put_byte m.words (place pages k) b in
    ap (λ j. byte_at (with_bytes now pages (k + 1) bs) (place pages j)) e
    ∙ byte_stored now pages (k + 1) bs i (part_separate pages k (suc (length bs)) 1 (length bs) separate (omega arith))
    (λ j below. rw long (next_there pages k (length bs) (4 * length m.words) there j below)) (λ j. small (suc j)) (omega (arith, inside))

-- ---- the buffer with them

-- a byte of the buffer after bytes were put from byte j on
byte_after : (m : Mem) (a : ℕ) (pages : List ℕ) (k : ℕ) (bs : List ℕ) (j : ℕ) (got : List ℕ) (i : ℕ) → IsShaped m → HoldsBuffer m a pages k bs → j + length got ≤ length bs → ((h : ℕ) → get_or got h 0 < 256) → i < length bs → byte_at (with_bytes m pages (k + j) got) (place pages (k + i)) ≡ get_or (overwritten bs j got) i 0
byte_after m a pages k bs j got i shape h within small inside =
    let after = with_bytes m pages (k + j) got in
    let was : byte_at m (place pages (k + i)) ≡ get_or bs i 0 = sym (get_or-bytes_at m pages k (length bs) i 0 inside) ∙ ap (λ xs. get_or xs i 0) h.bytes in
    let beside : ((g : ℕ) → g < length got → j + g ≢ i) → byte_at after (place pages (k + i)) ≡ get_or bs i 0 =
    λ apart. byte_at-with_bytes m pages (k + j) got (place pages (k + i)) small
    (λ g below e. let f : k + (j + g) ≡ k + j + g = omega arith in
    apart g below (h.separate (j + g) i (omega (arith, within, below)) inside (ap (place pages) f ∙ e))) ∙ was in
    ⊎_elim (λ (low : i < j).
    let part : get_or (overwritten bs j got) i 0 ≡ get_or bs i 0 = grind (arith, places) in
    beside (λ g below e. omega (arith, low, e)) ∙ sym part)
    (λ (high : j ≤ i).
    ⊎_elim (λ (among : i < j + length got).
    let place_of_it : k + j + (i - j) ≡ k + i = omega (arith, high) in
    let part : get_or (overwritten bs j got) i 0 ≡ get_or got (i - j) 0 = grind (arith, places) in
    ap (λ x. byte_at after (place pages x)) (sym place_of_it)
    ∙ byte_stored m pages (k + j) got (i - j) (part_separate pages k (length bs) j (length got) h.separate within) (part_there m a pages k bs j (length got) shape h within) small (omega (arith, among, high))
    ∙ sym part)
    (λ (past : j + length got ≤ i).
    let part : get_or (overwritten bs j got) i 0 ≡ get_or bs i 0 = grind (arith, places) in
    beside (λ g below e. omega (arith, past, below, e)) ∙ sym part) (cases_lt i (j + length got))) (cases_lt i j)

buffer_after : (m : Mem) (a : ℕ) (pages : List ℕ) (k : ℕ) (bs : List ℕ) (j : ℕ) (got : List ℕ) → IsShaped m → HoldsBuffer m a pages k bs → j + length got ≤ length bs → ((h : ℕ) → get_or got h 0 < 256) → HoldsBuffer (with_bytes m pages (k + j) got) a pages k (overwritten bs j got)
buffer_after m a pages k bs j got shape h within small =
    let long : length (overwritten bs j got) ≡ length bs = length-overwritten bs j got within in
    record {
      name = h.name;
      within = omega (arith, long, h.within);
      separate = subst (AreSeparate pages k) (sym long) h.separate;
      lent = λ i below. h.lent i (omega (arith, long, below));
      bytes = bytes_at_is (with_bytes m pages (k + j) got) pages k (overwritten bs j got) (length (overwritten bs j got)) refl
          (λ i below. byte_after m a pages k bs j got i shape h within small (omega (arith, long, below)));
    }

same_block : (a b : ℕ) → a / 4 ≡ b / 4 → a / 32 ≡ b / 32
same_block a b same = omega (arith, same)

bytes_change : (m : Mem) (a : ℕ) (pages : List ℕ) (k : ℕ) (bs : List ℕ) (j : ℕ) (got : List ℕ) → j + length got ≤ length bs → Changes m (with_bytes m pages (k + j) got) a (Buffer pages k bs)
bytes_change m a pages k bs j got within = record {
  states = refl;
  size = length-put_bytes m.words pages (k + j) got;
  outside = λ other outside. word_at-with_bytes m pages (k + j) got other
      (λ i below same.
      let e : k + (j + i) ≡ k + j + i = omega arith in
      outside (j + i, omega (arith, within, below), sym (ap (λ x. place pages x / 32) e ∙ same_block (place pages (k + j + i)) other same)));
}

pub bytes_are_told : (m : Mem) (parts : StructureSets) (n a : ℕ) (pages : List ℕ) (k : ℕ) (bs : List ℕ) (j : ℕ) (got : List ℕ) → Tells m parts → parts n a ≡ Some (Buffer pages k bs) → j + length got ≤ length bs → ((h : ℕ) → get_or got h 0 < 256) → Tells (with_bytes m pages (k + j) got) (put parts n a (Buffer pages k (overwritten bs j got)))
bytes_are_told m parts n a pages k bs j got t here within small =
    change_is_told m (with_bytes m pages (k + j) got) parts n a (Buffer pages k bs) (Buffer pages k (overwritten bs j got)) t here
    (bytes_change m a pages k bs j got within)
    (λ b has. (has.0, let below = has.1 in let long = length-overwritten bs j got within in omega (arith, below, long), has.2))
    (buffer_after m a pages k bs j got t.shape (t.each n a (Buffer pages k bs) here) within small)
