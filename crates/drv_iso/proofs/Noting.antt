-- How many runs a buffer has, and what is noted of them.
use Rattle.std.proofs.Common.{◌≡◌, ℕ, ◌+◌, ◌/◌, ◌<◌, nat_lt, cond, List, [], ◌∷◌, ◌++◌, length, take, drop, replicate, get_or, arith, ap, sym, ◌∙◌}
use Rattle.std.proofs.lemmas.List.{length-replicate}
use Rattle.drv_periodic_table.specs.declared.content.DescriptorNote.{DescriptorNote}
use Rattle.drv_table.specs.declared.content.Slots.{Slots}
use Rattle.drv_table.specs.Words.{buffer_needs}
use Rattle.drv_table.specs.IsoOffers.{descriptor_note, slot_runs}
use Rattle.drv_queues.proofs.Taking.{whole_pages}
use Rattle.drv_queues.proofs.Noted.{picks, is_pick, padded}

pub count_runs : (n : ℕ) → 4096 < n → length (buffer_needs n) ≡ (n + 4095) / 4096
count_runs n long = ap (length {A = ℕ}) (whole_pages n long) ∙ length-replicate ((n + 4095) / 4096) 128

pub noted : (s : Slots) (from c : ℕ) (runs : List ℕ) (v0 v1 v2 v3 v4 v5 : ℕ) → c ≡ slot_runs s → v0 ≡ cond (nat_lt 0 c) (get_or runs (from + 0) 0) 0 → v1 ≡ cond (nat_lt 1 c) (get_or runs (from + 1) 0) 0 → v2 ≡ cond (nat_lt 2 c) (get_or runs (from + 2) 0) 0 → v3 ≡ cond (nat_lt 3 c) (get_or runs (from + 3) 0) 0 → v4 ≡ cond (nat_lt 4 c) (get_or runs (from + 4) 0) 0 → v5 ≡ cond (nat_lt 5 c) (get_or runs (from + 5) 0) 0 → ◌≡◌ {A = DescriptorNote} (record { frame = 0; split = s.split; smask = s.smask; cmask = s.cmask; slot = s.slot; buffer = v0 ∷ v1 ∷ v2 ∷ v3 ∷ v4 ∷ v5 ∷ []; runs = c }) (descriptor_note s (drop from runs))
noted s from c runs v0 v1 v2 v3 v4 v5 count e0 e1 e2 e3 e4 e5 =
    let p0 = is_pick c from 0 v0 runs e0 in
    let p1 = is_pick c from 1 v1 runs e1 in
    let p2 = is_pick c from 2 v2 runs e2 in
    let p3 = is_pick c from 3 v3 runs e3 in
    let p4 = is_pick c from 4 v4 runs e4 in
    let p5 = is_pick c from 5 v5 runs e5 in
    let all : v0 ∷ v1 ∷ v2 ∷ v3 ∷ v4 ∷ v5 ∷ [] ≡ picks 6 0 c (drop from runs) = cc in
    let list : v0 ∷ v1 ∷ v2 ∷ v3 ∷ v4 ∷ v5 ∷ [] ≡ take 6 (take c (drop from runs) ++ replicate 6 0) = all ∙ sym (padded 6 6 c (drop from runs) (omega arith)) in
    ap (λ l. record { frame = 0; split = s.split; smask = s.smask; cmask = s.cmask; slot = s.slot; buffer = l; runs = c }) list
    ∙ ap (λ n. record { frame = 0; split = s.split; smask = s.smask; cmask = s.cmask; slot = s.slot; buffer = take 6 (take n (drop from runs) ++ replicate 6 0); runs = n }) count
