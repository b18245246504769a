-- Runs that are given back, one more.
use Rattle.std.proofs.Common.{◌≡◌, ℕ, suc, ◌+◌, ◌-◌, ◌<◌, ◌≤◌, cond, List, ◌∷◌, length, get_or, drop, arith, ap, sym, ◌∙◌}
use Rattle.std.proofs.Math.Seq.{drop-cons}
use Rattle.mem_runs.specs.Book.{Holding, release_run}
use Rattle.drv_table.specs.declared.content.QtdNote.{QtdNote}
use Rattle.drv_table.specs.declared.content.Transfer.{Transfer}
use Rattle.drv_table.specs.Releases.{free_runs, free_qtd, free_qtds, free_transfers, is_held_of}
use Rattle.drv_table.specs.Harvests.{note_at}
use Rattle.drv_harvests.proofs.Lists.{drop_past}

pub runs_more : (h : Holding) (bs : List ℕ) (i : ℕ) → i < length bs → free_runs (release_run h (get_or bs i 0)) (drop (suc i) bs) ≡ free_runs h (drop i bs)
runs_more h bs i below = ap (λ xs. free_runs h xs) (sym (drop-cons bs i 0 below))

pub runs_all : (h : Holding) (bs : List ℕ) (i : ℕ) → length bs ≤ i → free_runs h (drop i bs) ≡ h
runs_all h bs i past = ap (λ xs. free_runs h xs) (drop_past bs i past)

pub qtds_more : (notes : List QtdNote) (h : Holding) (b n i : ℕ) → i < n → free_qtds notes (free_qtd h b (note_at notes b)) (note_at notes b).next (n - (i + 1)) ≡ free_qtds notes h b (n - i)
unfolding free_qtds
qtds_more notes h b n i below = let e : n - i ≡ suc (n - (i + 1)) = omega arith in ap (λ k. free_qtds notes h b k) (sym e)

pub qtds_all : (notes : List QtdNote) (h : Holding) (b n i : ℕ) → n ≤ i → free_qtds notes h b (n - i) ≡ h
unfolding free_qtds
qtds_all notes h b n i past = let e : n - i ≡ 0 = omega arith in ap (λ k. free_qtds notes h b k) e

drop_cons : (ts : List Transfer) (i : ℕ) (d : Transfer) → i < length ts → drop i ts ≡ get_or ts i d ∷ drop (i + 1) ts
drop_cons ts i d below = drop-cons ts i d below ∙ ap (λ j. get_or ts i d ∷ drop j ts) (let e : suc i ≡ i + 1 = omega arith in e)

pub transfers_more : (notes : List QtdNote) (e : ℕ) (h : Holding) (ts : List Transfer) (i : ℕ) (d : Transfer) → i < length ts → free_transfers notes e (cond (is_held_of e (get_or ts i d)) (free_qtds notes h (get_or ts i d).first (get_or ts i d).qtds) h) (drop (i + 1) ts) ≡ free_transfers notes e h (drop i ts)
unfolding free_transfers
transfers_more notes e h ts i d below = ap (λ xs. free_transfers notes e h xs) (sym (drop_cons ts i d below))

pub transfers_all : (notes : List QtdNote) (e : ℕ) (h : Holding) (ts : List Transfer) (i : ℕ) → length ts ≤ i → free_transfers notes e h (drop i ts) ≡ h
unfolding free_transfers
transfers_all notes e h ts i past = ap (λ xs. free_transfers notes e h xs) (drop_past ts i past)
