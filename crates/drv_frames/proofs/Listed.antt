-- New descriptors, one more.
use Rattle.std.proofs.Common.{◌≡◌, ℕ, suc, ◌+◌, ◌-◌, ◌*◌, ◌%◌, ◌<◌, ◌≤◌, List, drop, arith, ap, sym, ◌∙◌}
use Rattle.std.proofs.lemmas.List.{drop-drop}
use Rattle.mem_runs.specs.Book.{Book}
use Rattle.usb_base.specs.declared.endpoints.EpDesc.{EpDesc}
use Rattle.drv_table.specs.declared.content.Slots.{Slots}
use Rattle.drv_table.specs.IsoOffers.{Descriptors, all_descriptors, one_descriptor, slot_runs, total_of}

pub listed_more : (k : Book) (e : ℕ) (x : EpDesc) (s : Slots) (n i seed each : ℕ) (runs : List ℕ) (a : Descriptors) → i < n → each ≡ 1 + slot_runs s → all_descriptors k e x s (n - (i + 1)) ((seed + total_of s) % 256) (drop (each * (i + 1)) runs) (one_descriptor k e x s seed (drop (each * i) runs) a) ≡ all_descriptors k e x s (n - i) seed (drop (each * i) runs) a
unfolding all_descriptors
listed_more k e x s n i seed each runs a below size =
    let more : n - i ≡ suc (n - (i + 1)) = omega arith in
    let one : each * (i + 1) ≡ each * i + suc (slot_runs s) = omega arith in
    let rest : drop (each * (i + 1)) runs ≡ drop (suc (slot_runs s)) (drop (each * i) runs) = ap (λ j. drop j runs) one ∙ sym (drop-drop (suc (slot_runs s)) (each * i) runs) in
    ap (λ rs. all_descriptors k e x s (n - (i + 1)) ((seed + total_of s) % 256) rs (one_descriptor k e x s seed (drop (each * i) runs) a)) rest
    ∙ ap (λ c. all_descriptors k e x s c seed (drop (each * i) runs) a) (sym more)

pub listed_all : (k : Book) (e : ℕ) (x : EpDesc) (s : Slots) (n i seed : ℕ) (runs : List ℕ) (a : Descriptors) → n ≤ i → all_descriptors k e x s (n - i) seed runs a ≡ a
unfolding all_descriptors
listed_all k e x s n i seed runs a past = let none : n - i ≡ 0 = omega arith in ap (λ c. all_descriptors k e x s c seed runs a) none

pub listed_start : (k : Book) (e : ℕ) (x : EpDesc) (s : Slots) (n seed each : ℕ) (runs : List ℕ) (a : Descriptors) → all_descriptors k e x s (n - 0) seed (drop (each * 0) runs) a ≡ all_descriptors k e x s n seed runs a
listed_start k e x s n seed each runs a =
    let zero_of : each * 0 ≡ 0 = omega arith in
    let whole : n - 0 ≡ n = omega arith in
    ap (λ j. all_descriptors k e x s (n - 0) seed (drop j runs) a) zero_of ∙ ap (λ c. all_descriptors k e x s c seed runs a) whole
