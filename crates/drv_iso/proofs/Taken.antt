-- The runs of descriptors, one after the other.
use Rattle.std.proofs.Common.{◌≡◌, ℕ, suc, ◌+◌, ◌-◌, ◌<◌, ◌≤◌, [], ◌∷◌, replicate, Result, Ok, Err, arith, ap, sym, ◌∙◌}
use Rattle.usb_base.specs.declared.reports.OfferError.{OfferError}
use Rattle.mem_runs.specs.Book.{Holding}
use Rattle.drv_table.specs.declared.content.Slots.{Slots}
use Rattle.drv_table.specs.Words.{buffer_needs}
use Rattle.drv_table.specs.Accepting.{take_runs}
use Rattle.drv_table.specs.IsoOffers.{iso_needs, descriptor_blocks, total_of}
use Rattle.drv_queues.proofs.Taking.{found_all, missing_all}

pub first_found : (h g : Holding) (b n : ℕ) (r : Result Holding OfferError) → take_runs h (replicate 1 b) ≡ Ok g → take_runs g (buffer_needs n) ≡ r → take_runs h (b ∷ buffer_needs n) ≡ r
first_found h g b n r one rest = found_all h g (b ∷ []) (buffer_needs n) one ∙ rest

pub first_missing : (h : Holding) (why : OfferError) (b n : ℕ) → take_runs h (replicate 1 b) ≡ Err why → take_runs h (b ∷ buffer_needs n) ≡ Err why
first_missing h why b n none = missing_all h why (b ∷ []) (buffer_needs n) none

pub one_found : (h g : Holding) (s : Slots) (n k : ℕ) → k < n → take_runs h (descriptor_blocks s ∷ buffer_needs (total_of s)) ≡ Ok g → take_runs g (iso_needs s (n - (k + 1))) ≡ take_runs h (iso_needs s (n - k))
one_found h g s n k below all =
    let e : n - k ≡ suc (n - (k + 1)) = omega arith in
    sym (ap (λ c. take_runs h (iso_needs s c)) e ∙ found_all h g (descriptor_blocks s ∷ buffer_needs (total_of s)) (iso_needs s (n - (k + 1))) all)

pub one_missing : (h : Holding) (why : OfferError) (s : Slots) (n k : ℕ) → k < n → take_runs h (descriptor_blocks s ∷ buffer_needs (total_of s)) ≡ Err why → take_runs h (iso_needs s (n - k)) ≡ Err why
one_missing h why s n k below none =
    let e : n - k ≡ suc (n - (k + 1)) = omega arith in
    ap (λ c. take_runs h (iso_needs s c)) e ∙ missing_all h why (descriptor_blocks s ∷ buffer_needs (total_of s)) (iso_needs s (n - (k + 1))) none

pub all_found : (h : Holding) (s : Slots) (n k : ℕ) → n ≤ k → take_runs h (iso_needs s (n - k)) ≡ Ok h
all_found h s n k all = let e : n - k ≡ 0 = omega arith in ap (λ c. take_runs h (iso_needs s c)) e
