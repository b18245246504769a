-- The rows of a command block: more bytes, fewer bytes, and what a row has allowed.
use Rattle.std.proofs.Common.{◌≡◌, ◌≤◌, ◌<◌, ◌+◌, ◌%◌, ◌==◌, ℕ, zero, suc, Bool, true, false, ◌&&◌, nat_le, take, List, [], ◌∷◌, ◌++◌, length, get_or, drop, min, refl, ap, sym, ◌∙◌, arith}
use Rattle.std.proofs.lemmas.Bool.{and_parts, and_from, leb-true, leb-false, le-leb, eqb-true}
use Rattle.std.proofs.lemmas.List.{drop_more, take-append-drop, length-take}
use Rattle.bulk_only.proofs.Lists.{take_whole, same_byte}
use Rattle.bulk_only.specs.declared.rows.BlockRow.{BlockRow}
use Rattle.bulk_only.specs.declared.rows.BlockRow.TheVariants.{Is, Any, DataLength, Flags, Code, Blocks}
use Rattle.bulk_only.specs.declared.rows.Seen.{Seen}
use Rattle.bulk_only.specs.Blocks.{byte, command_of}
use Rattle.bulk_only.specs.Commands.{block_of}
use Rattle.bulk_only.specs.Fronts.{allows, sees, fits_rows, is_front, command_rows, nothing_seen}

-- a front part of bytes that are allowed is allowed
pub fewer_fit : (rows : List BlockRow) (seen : Seen) (xs ys : List ℕ) → fits_rows rows seen (xs ++ ys) ≡ true → fits_rows rows seen xs ≡ true
fewer_fit [] seen xs ys h = refl
fewer_fit (row ∷ rows) seen [] ys h = refl
fewer_fit (row ∷ rows) seen (x ∷ xs) ys h =
    let parts = and_parts (allows row seen x) (fits_rows rows (sees row seen x) (xs ++ ys)) h in
    and_from _ _ parts.0 (fewer_fit rows (sees row seen x) xs ys parts.1)

-- bytes behind the last row don't count
pub more_fit : (rows : List BlockRow) (seen : Seen) (xs ys : List ℕ) → length rows ≤ length xs → fits_rows rows seen (xs ++ ys) ≡ fits_rows rows seen xs
more_fit [] seen xs ys h = refl
more_fit (row ∷ rows) seen [] ys h = absurd (omega arith)
more_fit (row ∷ rows) seen (x ∷ xs) ys h = ap (λ t. allows row seen x && t) (more_fit rows (sees row seen x) xs ys (omega arith))

-- what the rows before row i have told
abbrev pub seen_at : List BlockRow → Seen → List ℕ → ℕ → Seen
seen_at [] seen bs i = seen
seen_at (row ∷ rows) seen [] i = seen
seen_at (row ∷ rows) seen (b ∷ bs) zero = seen
seen_at (row ∷ rows) seen (b ∷ bs) (suc i) = seen_at rows (sees row seen b) bs i

pub row_holds : (rows : List BlockRow) (seen : Seen) (bs : List ℕ) (i : ℕ) → i < length rows → i < length bs → fits_rows rows seen bs ≡ true
    → allows (get_or rows i Any) (seen_at rows seen bs i) (get_or bs i 0) ≡ true
row_holds [] seen bs i h k f = absurd (omega arith)
row_holds (row ∷ rows) seen [] i h k f = absurd (omega arith)
row_holds (row ∷ rows) seen (b ∷ bs) zero h k f = (and_parts (allows row seen b) (fits_rows rows (sees row seen b) bs) f).0
row_holds (row ∷ rows) seen (b ∷ bs) (suc i) h k f =
    row_holds rows (sees row seen b) bs i (omega arith) (omega arith) (and_parts (allows row seen b) (fits_rows rows (sees row seen b) bs) f).1

-- no row tells of more than 40 blocks
half_bound : (row : BlockRow) (seen : Seen) (b : ℕ) → allows row seen b ≡ true → seen.half_blocks ≤ 80 → (sees row seen b).half_blocks ≤ 80
half_bound (Is n) seen b h k = k
half_bound Any seen b h k = k
half_bound DataLength seen b h k = leb-true b 80 (and_parts (nat_le 2 b) (nat_le b 80) (and_parts (nat_le 2 b && nat_le b 80) (b % 2 == 0) h).0).1
half_bound Flags seen b h k = k
half_bound Code seen b h k = k
half_bound Blocks seen b h k = k

half_bounds : (rows : List BlockRow) (seen : Seen) (bs : List ℕ) (i : ℕ) → fits_rows rows seen bs ≡ true → seen.half_blocks ≤ 80
    → (seen_at rows seen bs i).half_blocks ≤ 80
half_bounds [] seen bs i f k = k
half_bounds (row ∷ rows) seen [] i f k = k
half_bounds (row ∷ rows) seen (b ∷ bs) zero f k = k
half_bounds (row ∷ rows) seen (b ∷ bs) (suc i) f k =
    let parts = and_parts (allows row seen b) (fits_rows rows (sees row seen b) bs) f in
    half_bounds rows (sees row seen b) bs i parts.1 (half_bound row seen b parts.0 k)

-- a command block is of 40 blocks at most
pub at_most_40 : (bs : List ℕ) → 31 ≤ length bs → is_front bs ≡ true → (command_of bs).blocks ≤ 40
unfolding is_front
at_most_40 bs h f =
    let high : byte bs 22 ≡ 0 = eqb-true (byte bs 22) 0 (row_holds command_rows nothing_seen bs 22 (omega arith) (omega arith) f) in
    let half : (seen_at command_rows nothing_seen bs 23).half_blocks ≤ 80 = half_bounds command_rows nothing_seen bs 23 f (omega arith) in
    let low : byte bs 23 + byte bs 23 ≡ (seen_at command_rows nothing_seen bs 23).half_blocks
    = eqb-true (byte bs 23 + byte bs 23) _ (row_holds command_rows nothing_seen bs 23 (omega arith) (omega arith) f) in
    omega (arith, high, half, low)

-- one row further
pub fits_step : (rows : List BlockRow) (seen : Seen) (bs : List ℕ) (i : ℕ) (row : BlockRow) → i < length rows → i < length bs
    → fits_rows (drop i rows) seen (drop i bs)
    ≡ (allows (get_or rows i row) seen (get_or bs i 0) && fits_rows (drop (i + 1) rows) (sees (get_or rows i row) seen (get_or bs i 0)) (drop (i + 1) bs))
fits_step rows seen bs i row h k = rw (drop_more rows i row h) (rw (drop_more bs i 0 k) refl)

drop_nothing : (i : ℕ) (seen : Seen) (bs : List ℕ) → fits_rows (drop i []) seen bs ≡ true
drop_nothing zero seen bs = refl
drop_nothing (suc i) seen bs = refl

no_bytes : (rows : List BlockRow) (seen : Seen) (i : ℕ) → fits_rows rows seen (drop i []) ≡ true
no_bytes [] seen i = refl
no_bytes (row ∷ rows) seen zero = refl
no_bytes (row ∷ rows) seen (suc i) = refl

pub fits_end : (rows : List BlockRow) (seen : Seen) (bs : List ℕ) (i : ℕ) → min (length rows) (length bs) ≤ i → fits_rows (drop i rows) seen (drop i bs) ≡ true
fits_end [] seen bs i h = drop_nothing i seen (drop i bs)
fits_end (row ∷ rows) seen [] zero h = refl
fits_end (row ∷ rows) seen [] (suc i) h = no_bytes (drop i rows) seen (suc i)
fits_end (row ∷ rows) seen (b ∷ bs) zero h = absurd (omega arith)
fits_end (row ∷ rows) seen (b ∷ bs) (suc i) h = fits_end rows seen bs i (omega arith)

-- the first 31 bytes tell
front_by : (bs : List ℕ) (b : Bool) → nat_le 31 (length bs) ≡ b → is_front (take 31 bs) ≡ is_front bs
unfolding is_front
front_by bs false h = ap (fits_rows command_rows nothing_seen) (take_whole 31 bs (let k = leb-false 31 (length bs) h in omega arith))
front_by bs true h =
    let k = leb-true 31 (length bs) h in
    let long : length command_rows ≤ length (take 31 bs) = rw (length-take 31 bs) (omega arith) in
    sym (more_fit command_rows nothing_seen (take 31 bs) (drop 31 bs) long) ∙ ap (fits_rows command_rows nothing_seen) (take-append-drop 31 bs)

pub front_of_head : (bs : List ℕ) → is_front (take 31 bs) ≡ is_front bs
front_of_head bs = front_by bs (nat_le 31 (length bs)) refl

long_by : (bs : List ℕ) (b : Bool) → nat_le 31 (length bs) ≡ b → nat_le 31 (length (take 31 bs)) ≡ nat_le 31 (length bs)
long_by bs false h = ap (λ t. nat_le 31 (length t)) (take_whole 31 bs (let k = leb-false 31 (length bs) h in omega arith))
long_by bs true h = le-leb 31 (length (take 31 bs)) (rw (length-take 31 bs) (let k = leb-true 31 (length bs) h in omega arith)) ∙ sym h

long_head : (bs : List ℕ) → nat_le 31 (length (take 31 bs)) ≡ nat_le 31 (length bs)
long_head bs = long_by bs (nat_le 31 (length bs)) refl

pub command_of_head : (bs : List ℕ) → command_of (take 31 bs) ≡ command_of bs
command_of_head bs = simp (same_byte bs 4 (omega arith), same_byte bs 5 (omega arith), same_byte bs 6 (omega arith), same_byte bs 7 (omega arith), same_byte bs 12 (omega arith), same_byte bs 17 (omega arith), same_byte bs 18 (omega arith), same_byte bs 19 (omega arith), same_byte bs 20 (omega arith), same_byte bs 22 (omega arith), same_byte bs 23 (omega arith)) refl

pub block_of_head : (bs : List ℕ) → block_of (take 31 bs) ≡ block_of bs
unfolding block_of
block_of_head bs = rw (long_head bs) (rw (front_of_head bs) (rw (command_of_head bs) refl))
