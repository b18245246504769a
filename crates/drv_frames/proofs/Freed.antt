-- The blocks of outstanding descriptors, one more.
use Rattle.std.proofs.Common.{◌≡◌, ℕ, suc, ◌+◌, ◌<◌, ◌≤◌, cond, List, ◌∷◌, length, get_or, drop, arith, ap, sym, ◌∙◌}
use Rattle.std.proofs.Math.Seq.{drop-cons}
use Rattle.std.proofs.lemmas.List.{drop_all}
use Rattle.mem_runs.specs.Book.{Holding}
use Rattle.drv_periodic_table.specs.declared.content.DescriptorNote.{DescriptorNote}
use Rattle.drv_table.specs.declared.content.Transfer.{Transfer}
use Rattle.drv_table.specs.DriverContent.{waits_for}
use Rattle.drv_table.specs.Removals.{free_descriptor, free_descriptors}

pub drop_one : (ts : List Transfer) (i : ℕ) (d : Transfer) → i < length ts → drop i ts ≡ get_or ts i d ∷ drop (i + 1) ts
drop_one ts i d below = drop-cons ts i d below ∙ ap (λ j. get_or ts i d ∷ drop j ts) (let e : suc i ≡ i + 1 = omega arith in e)

pub waiting_more : (notes : List DescriptorNote) (e : ℕ) (h : Holding) (ts : List Transfer) (i : ℕ) (d : Transfer) → i < length ts → free_descriptors notes e (cond (waits_for e (get_or ts i d)) (free_descriptor notes h (get_or ts i d).first) h) (drop (i + 1) ts) ≡ free_descriptors notes e h (drop i ts)
unfolding free_descriptors
waiting_more notes e h ts i d below = ap (λ xs. free_descriptors notes e h xs) (sym (drop_one ts i d below))

pub waiting_all : (notes : List DescriptorNote) (e : ℕ) (h : Holding) (ts : List Transfer) (i : ℕ) → length ts ≤ i → free_descriptors notes e h (drop i ts) ≡ h
unfolding free_descriptors
waiting_all notes e h ts i past = ap (λ xs. free_descriptors notes e h xs) (drop_all i ts past)
