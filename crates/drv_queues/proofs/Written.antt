-- The qTDs of a transfer, written one by one.
use Rattle.std.proofs.Common.{◌≡◌, ℕ, suc, ◌+◌, ◌-◌, ◌*◌, ◌<◌, ◌≤◌, false, nat_eq, List, [], ◌∷◌, length, drop, slice_get, Some, arith, ap, sym, ◌∙◌, refl}
use Rattle.std.proofs.lemmas.Bool.Decides.{nat_tests}
use Rattle.std.proofs.lemmas.List.{drop_all, length-drop}
use Rattle.word_mem.specs.Memory.{Mem}
use Rattle.mem_runs.specs.Book.{Book, store_words}
use Rattle.drv_table.specs.declared.content.Stage.{Stage}
use Rattle.drv_table.specs.declared.content.QtdNote.{QtdNote}
use Rattle.drv_table.specs.Harvests.{note_at}
use Rattle.drv_table.specs.Offers.{stage_words, write_stages, is_last, first_of}
use Rattle.drv_queues.proofs.Taking.{drop_at}

no_more : (ss : List Stage) → is_last ss ≡ nat_eq (length ss) 0
no_more [] = refl
no_more (s ∷ ss) = let e : nat_eq (suc (length ss)) 0 ≡ false = grind (arith, nat_tests) in sym e

last_of : (ss : List Stage) (k n : ℕ) → n ≡ length ss → k < n → nat_eq (k + 1) n ≡ is_last (drop (k + 1) ss)
last_of ss k n long below =
    let e : nat_eq (k + 1) n ≡ nat_eq (length ss - (k + 1)) 0 = grind (arith, nat_tests) in
    e ∙ (ap (λ i. nat_eq i 0) (sym (length-drop (k + 1) ss)) ∙ sym (no_more (drop (k + 1) ss)))

pub written_next : (k : Book) (m : Mem) (notes : List QtdNote) (dummy b : ℕ) (ss : List Stage) (i : ℕ) (s : Stage) (n : ℕ) → slice_get ss i ≡ Some s → n ≡ length ss → i < n → write_stages k (store_words k m b (32 * b) (stage_words notes s b dummy (nat_eq (i + 1) n))) notes dummy (drop (i + 1) ss) (note_at notes b).next ≡ write_stages k m notes dummy (drop i ss) b
written_next k m notes dummy b ss i s n there long below =
    ap (λ l. write_stages k (store_words k m b (32 * b) (stage_words notes s b dummy l)) notes dummy (drop (i + 1) ss) (note_at notes b).next) (last_of ss i n long below)
    ∙ sym (ap (λ l. write_stages k m notes dummy l b) (drop_at ss i s there))

pub written_all : (k : Book) (m : Mem) (notes : List QtdNote) (dummy b : ℕ) (ss : List Stage) (i : ℕ) → length ss ≤ i → write_stages k m notes dummy (drop i ss) b ≡ m
written_all k m notes dummy b ss i all = ap (λ l. write_stages k m notes dummy l b) (drop_all i ss all)

pub first_here : (ss : List Stage) (s : Stage) → slice_get ss 0 ≡ Some s → first_of ss ≡ s
first_here [] s there = absurd (cc)
first_here (x ∷ xs) s there = cc
