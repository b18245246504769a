-- How many bytes packets have together, and packets that stand one behind the other.
use Rattle.std.proofs.Common.{◌≡◌, ◌≤◌, ◌<◌, ◌+◌, ◌-◌, ◌*◌, ℕ, zero, suc, Bool, true, false, nat_le, List, [], ◌∷◌, ◌++◌, length, take, drop, replicate, get_or, slice_get, Some, None, option_map, refl, ap, sym, ◌∙◌, arith, length-drop, append_assoc}
use Rattle.std.proofs.lemmas.List.{length-replicate, length-take-le, take-append-le, drop-append-le}
use Rattle.std.proofs.lemmas.Bool.{leb-true, le-leb, and_parts, and_from}
use Rattle.bulk_only.specs.declared.command_block.CommandBlock.{CommandBlock}
use Rattle.bulk_only.specs.declared.command_block.Operation.{Operation}
use Rattle.bulk_only.specs.declared.command_block.Operation.TheVariants.{Read, Write}
use Rattle.bulk_only.specs.Blocks.{block_size, data_length}
use Rattle.bulk_only.specs.Replies.{bytes_in, cut_into, total, are_long}
use Rattle.bulk_only.specs.Contents.{block_at, blocks_from, zero_blocks, opening_byte, opening_from, passes, data_packets, sent_by}
use Rattle.bulk_only.proofs.Lists.{take_whole}

pub bytes_in_both : (ps qs : List (List ℕ)) → bytes_in (ps ++ qs) ≡ bytes_in ps + bytes_in qs
bytes_in_both [] qs = omega arith
bytes_in_both (p ∷ ps) qs =
    let e : bytes_in (ps ++ qs) ≡ bytes_in ps + bytes_in qs = bytes_in_both ps qs in
    let s : length p + (bytes_in ps + bytes_in qs) ≡ length p + bytes_in ps + bytes_in qs = omega arith in
    ap (λ n. length p + n) e ∙ s

pub bytes_in_one : (ps : List (List ℕ)) (p : List ℕ) → bytes_in (ps ++ p ∷ []) ≡ bytes_in ps + length p
bytes_in_one ps p = bytes_in_both ps (p ∷ []) ∙ ap (λ n. bytes_in ps + n) (let e : length p + 0 ≡ length p = omega arith in e)

-- packets cut from bytes have as many bytes
pub bytes_in_cut : (ns bs : List ℕ) → total ns ≤ length bs → bytes_in (cut_into ns bs) ≡ total ns
unfolding cut_into
bytes_in_cut [] bs h = refl
bytes_in_cut (n ∷ ns) bs h =
    let all : n + total ns ≤ length bs = h in
    let one : length (take n bs) ≡ n = length-take-le n bs (omega arith) in
    let rest : bytes_in (cut_into ns (drop n bs)) ≡ total ns = bytes_in_cut ns (drop n bs) (rw (length-drop n bs) (omega arith)) in
    ap (λ k. k + bytes_in (cut_into ns (drop n bs))) one ∙ ap (λ k. n + k) rest

-- one packet more behind the others
pub cut_more : (ns bs packet : List ℕ) → total ns ≡ length bs → cut_into (ns ++ length packet ∷ []) (bs ++ packet) ≡ cut_into ns bs ++ packet ∷ []
unfolding cut_into
cut_more [] [] packet h = ap (λ t. t ∷ []) (take_whole (length packet) packet (omega arith))
cut_more [] (b ∷ bs) packet h = absurd (omega arith)
cut_more (n ∷ ns) bs packet h =
    let all : n + total ns ≡ length bs = h in
    let one : take n (bs ++ packet) ≡ take n bs = take-append-le n bs packet (omega arith) in
    let behind : drop n (bs ++ packet) ≡ drop n bs ++ packet = drop-append-le n bs packet (omega arith) in
    let left : total ns ≡ length (drop n bs) = rw (length-drop n bs) (omega arith) in
    ap (λ t. t ∷ cut_into (ns ++ length packet ∷ []) (drop n (bs ++ packet))) one
    ∙ ap (λ t. take n bs ∷ t) (ap (λ u. cut_into (ns ++ length packet ∷ []) u) behind ∙ cut_more ns (drop n bs) packet left)

-- the first packet, and those behind it
pub cut_first : (ns bs : List ℕ) → slice_get (cut_into ns bs) 0 ≡ option_map (λ n. take n bs) (slice_get ns 0)
unfolding cut_into
cut_first [] bs = refl
cut_first (n ∷ ns) bs = refl

pub cut_rest : (n : ℕ) (ns bs : List ℕ) → drop 1 (cut_into (n ∷ ns) bs) ≡ cut_into ns (drop n bs)
unfolding cut_into
cut_rest n ns bs = refl

pub no_cut : (bs : List ℕ) → cut_into [] bs ≡ []
unfolding cut_into
no_cut bs = refl

opening_step : (k n : ℕ) → k < n → opening_from k (n - k) ≡ opening_byte k ∷ opening_from (k + 1) (n - (k + 1))
opening_step k n h =
    let e : n - k ≡ suc (n - (k + 1)) = omega arith in
    let f : suc k ≡ k + 1 = omega arith in
    ap (λ m. opening_from k m) e ∙ ap (λ j. opening_byte k ∷ opening_from j (n - (k + 1))) f

-- one byte more, as the disk is first
pub one_byte_more : (xs : List ℕ) (k n : ℕ) → k < n → (xs ++ opening_byte k ∷ []) ++ opening_from (k + 1) (n - (k + 1)) ≡ xs ++ opening_from k (n - k)
one_byte_more xs k n h = append_assoc xs (opening_byte k ∷ []) (opening_from (k + 1) (n - (k + 1))) ∙ ap (λ t. xs ++ t) (sym (opening_step k n h))

-- one packet more of a read
pub one_block_more : (bytes : List ℕ) (lba k n : ℕ) (ps : List (List ℕ)) → k < n
    → (ps ++ block_at bytes (lba + k) ∷ []) ++ blocks_from bytes (lba + (k + 1)) (n - (k + 1)) ≡ ps ++ blocks_from bytes (lba + k) (n - k)
one_block_more bytes lba k n ps h =
    let e : n - k ≡ suc (n - (k + 1)) = omega arith in
    let f : suc (lba + k) ≡ lba + (k + 1) = omega arith in
    append_assoc ps (block_at bytes (lba + k) ∷ []) (blocks_from bytes (lba + (k + 1)) (n - (k + 1)))
    ∙ ap (λ t. ps ++ t) (sym (ap (λ m. blocks_from bytes (lba + k) m) e ∙ ap (λ j. block_at bytes (lba + k) ∷ blocks_from bytes j (n - (k + 1))) f))

pub one_zero_more : (k n : ℕ) (ps : List (List ℕ)) → k < n
    → (ps ++ replicate block_size 0 ∷ []) ++ zero_blocks (n - (k + 1)) ≡ ps ++ zero_blocks (n - k)
one_zero_more k n ps h =
    let e : n - k ≡ suc (n - (k + 1)) = omega arith in
    append_assoc ps (replicate block_size 0 ∷ []) (zero_blocks (n - (k + 1))) ∙ ap (λ t. ps ++ t) (sym (ap (λ m. zero_blocks m) e))

-- blocks have 512 bytes each
bytes_of_blocks : (bytes : List ℕ) (lba n : ℕ) → block_size * (lba + n) ≤ length bytes → bytes_in (blocks_from bytes lba n) ≡ block_size * n
bytes_of_blocks bytes lba zero h = refl
bytes_of_blocks bytes lba (suc n) h =
    let one : length (block_at bytes lba) ≡ block_size
    = length-take-le block_size (drop (block_size * lba) bytes) (rw (length-drop (block_size * lba) bytes) (omega arith)) in
    let rest : bytes_in (blocks_from bytes (suc lba) n) ≡ block_size * n = bytes_of_blocks bytes (suc lba) n (omega arith) in
    let s : block_size + block_size * n ≡ block_size * suc n = omega arith in
    ap (λ k. k + bytes_in (blocks_from bytes (suc lba) n)) one ∙ ap (λ k. block_size + k) rest ∙ s

bytes_of_zeros : (n : ℕ) → bytes_in (zero_blocks n) ≡ block_size * n
bytes_of_zeros zero = refl
bytes_of_zeros (suc n) =
    let one : length {A = ℕ} (replicate block_size 0) ≡ block_size = length-replicate {A = ℕ} block_size 0 in
    let rest : bytes_in (zero_blocks n) ≡ block_size * n = bytes_of_zeros n in
    let s : block_size + block_size * n ≡ block_size * suc n = omega arith in
    ap (λ k. k + bytes_in (zero_blocks n)) one ∙ ap (λ k. block_size + k) rest ∙ s

data_by : (bytes : List ℕ) (c : CommandBlock) (o : Operation) (b : Bool) → passes bytes c ≡ b → bytes_in (data_packets o b bytes c) ≡ sent_by o (data_length c)
data_by bytes c Write b h = refl
data_by bytes c Read true h = bytes_of_blocks bytes c.lba c.blocks (leb-true (block_size * (c.lba + c.blocks)) (length bytes) h)
data_by bytes c Read false h = bytes_of_zeros c.blocks

pub bytes_of_data : (bytes : List ℕ) (c : CommandBlock) → bytes_in (data_packets c.operation (passes bytes c) bytes c) ≡ sent_by c.operation (data_length c)
bytes_of_data bytes c = data_by bytes c c.operation (passes bytes c) refl

-- packets that wait behind bytes that were sent
pub size_of_waiting : (ns bs : List ℕ) (sent : ℕ) → sent + total ns ≡ length bs → bytes_in (cut_into ns (drop sent bs)) ≡ total ns
size_of_waiting ns bs sent h = bytes_in_cut ns (drop sent bs) (rw (length-drop sent bs) (omega arith))

pub first_packet : (ns bs : List ℕ) (d : ℕ) → 0 < length ns → slice_get (cut_into ns bs) 0 ≡ Some (take (get_or ns 0 d) bs)
unfolding cut_into
first_packet [] bs d h = absurd (omega arith)
first_packet (n ∷ ns) bs d h = refl

pub no_packet : (ns bs : List ℕ) → (0 < length ns → ⊥) → slice_get (cut_into ns bs) 0 ≡ None
unfolding cut_into
no_packet [] bs h = refl
no_packet (n ∷ ns) bs h = absurd (h (omega arith))

pub no_first : (ns ms bs : List ℕ) → length ns ≡ 0 → length ms ≡ 0 → cut_into ms bs ≡ drop 1 (cut_into ns bs)
unfolding cut_into
no_first [] [] bs h k = refl
no_first (n ∷ ns) ms bs h k = absurd (omega arith)
no_first [] (m ∷ ms) bs h k = absurd (omega arith)

pub first_fits : (ns : List ℕ) (d : ℕ) → 0 < length ns → get_or ns 0 d ≤ total ns
first_fits [] d h = absurd (omega arith)
first_fits (n ∷ ns) d h = let e : n ≤ n + total ns = omega arith in e

pub total_more : (ns : List ℕ) (n : ℕ) → total (ns ++ n ∷ []) ≡ total ns + n
total_more [] n = omega arith
total_more (m ∷ ns) n = ap (λ k. m + k) (total_more ns n) ∙ (let s : m + (total ns + n) ≡ m + total ns + n = omega arith in s)

pub long_more : (ns : List ℕ) (n : ℕ) → are_long ns ≡ true → 13 ≤ n → are_long (ns ++ n ∷ []) ≡ true
long_more [] n h k = and_from (nat_le 13 n) true (le-leb 13 n k) refl
long_more (m ∷ ns) n h k = let p = and_parts (nat_le 13 m) (are_long ns) h in and_from _ _ p.0 (long_more ns n p.1 k)

pub few_packets : (ns : List ℕ) → are_long ns ≡ true → 13 * length ns ≤ total ns
few_packets [] h = omega arith
few_packets (n ∷ ns) h =
    let p = and_parts (nat_le 13 n) (are_long ns) h in
    let one = leb-true 13 n p.0 in
    let rest = few_packets ns p.1 in
    let e : 13 * suc (length ns) ≤ n + total ns = omega arith in e
