-- Bytes that count up, word by word.
use Rattle.std.proofs.Common.{◌≡◌, ℕ, suc, ◌+◌, ◌-◌, ◌*◌, ◌/◌, ◌<◌, ◌≤◌, List, get_or, arith, ap, sym, ◌∙◌}
use Rattle.word_mem.specs.Memory.{Mem}
use Rattle.mem_runs.specs.Book.{Book, store}
use Rattle.drv_periodic_table.specs.Descriptors.{buffer_address, seeded_word, write_seeded}

pub seeded_next : (k : Book) (m : Mem) (runs : List ℕ) (seed total w n : ℕ) → w < n → write_seeded k (store k m (get_or runs (4 * w / 4096) 0) (buffer_address runs (4 * w)) (seeded_word seed total (4 * w))) runs seed total (4 * (w + 1)) (n - (w + 1)) ≡ write_seeded k m runs seed total (4 * w) (n - w)
seeded_next k m runs seed total w n below =
    let more : n - w ≡ suc (n - (w + 1)) = omega arith in
    let at : 4 * (w + 1) ≡ 4 * w + 4 = omega arith in
    ap (λ i. write_seeded k (store k m (get_or runs (4 * w / 4096) 0) (buffer_address runs (4 * w)) (seeded_word seed total (4 * w))) runs seed total i (n - (w + 1))) at
    ∙ sym (ap (λ c. write_seeded k m runs seed total (4 * w) c) more)

pub seeded_all : (k : Book) (m : Mem) (runs : List ℕ) (seed total w n : ℕ) → n ≤ w → write_seeded k m runs seed total (4 * w) (n - w) ≡ m
seeded_all k m runs seed total w n all = let e : n - w ≡ 0 = omega arith in ap (λ c. write_seeded k m runs seed total (4 * w) c) e
