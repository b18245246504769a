-- An accepted command leaves a book that stands in the memory.
use Rattle.std.proofs.Common.{◌≡◌, ℕ, ◌-◌, ◌*◌, List, [], ◌∷◌, length, take, drop, get_or, sym, subst, Ok}
use Rattle.word_mem.specs.Memory.{Mem}
use Rattle.mem_runs.specs.Book.{Book, Holding, holding, store_words}
use Rattle.qh_qtd.specs.Qtd.{qtd_words}
use Rattle.qh_qtd.specs.QueueHead.{qh_words}
use Rattle.drv_periodic_table.specs.Periodic.{queue_member}
use Rattle.drv_periodic_table.specs.Linking.{new_link}
use Rattle.drv_table.specs.declared.content.Command.TheVariants as unfinished
use Rattle.drv_table.specs.DriverContent.{DriverContent}
use Rattle.drv_table.specs.Harvests.{note_at}
use Rattle.drv_table.specs.Words.{queue_head, interrupt_head, dummy_qtd, needs}
use Rattle.drv_table.specs.Accepting.{Offered, new_runs, newest_of, take_runs}
use Rattle.drv_table.specs.Offers.{note_stages, write_stages}
use Rattle.drv_table.specs.IsoOffers.{iso_needs}
use Rattle.drv_table.specs.CancelOffers.{endpoint_members, with_cancel}
use Rattle.law_driver.specs.run_owners.Accepts.{Accepts, opens, chains, places, transfers, describes, cancels, unchains}
use Rattle.law_driver.proofs.lemmas.run_owners.Taking.{runs_taken}
use Rattle.law_driver.proofs.lemmas.lent_runs.Books.{or_done_book}
use Rattle.law_driver.proofs.lemmas.ring_members.Accepted.{shaped_taken}
use Rattle.law_driver.specs.in_place.InPlace.{IsGood}
use Rattle.law_driver.proofs.lemmas.in_place.Good.{words_good, stages_good, sent_good, descriptors_good}

taken_good : (h g : Holding) (ns : List ℕ) → IsGood h.book h.memory → take_runs h ns ≡ Ok g → IsGood g.book g.memory
taken_good h g ns good runs =
    let t = runs_taken h g ns good.stands runs in
    record { stands = t.are.stands; shape = shaped_taken t.are good.stands good.shape }

two_good : (k : Book) (m : Mem) (b c : ℕ) (vs ws : List ℕ) → IsGood k m → IsGood k (store_words k (store_words k m b (32 * b) vs) c (32 * c) ws)
two_good k m b c vs ws good = words_good k (store_words k m b (32 * b) vs) c (32 * c) ws (words_good k m b (32 * b) vs good)

pub accepted_good : (d : DriverContent) (m : Mem) (o : Offered) → Accepts d m o → IsGood d.book m → IsGood o.driver.book o.memory
accepted_good d m o (opens why) good =
    let h = why.holding_after in
    let b = get_or (new_runs d h) 0 0 in
    let c = get_or (new_runs d h) 1 0 in
    subst (λ (f : Offered). IsGood f.driver.book f.memory) (sym why.is)
    (two_good h.book h.memory b c (qh_words (queue_head why.desc (newest_of d.endpoints) c)) (qtd_words dummy_qtd) (taken_good (holding d.book m) h (2 ∷ 1 ∷ []) good why.runs))
accepted_good d m o (chains why) good =
    let h = why.holding_after in
    let b = get_or (new_runs d h) 0 0 in
    let c = get_or (new_runs d h) 1 0 in
    subst (λ (f : Offered). IsGood f.driver.book f.memory) (sym why.is)
    (two_good h.book h.memory b c (qh_words (interrupt_head why.desc why.placement.smask why.placement.cmask (new_link d.periodic.list (queue_member b why.placement)) c)) (qtd_words dummy_qtd)
    (taken_good (holding d.book m) h (2 ∷ 1 ∷ []) good why.runs))
accepted_good d m o (places why) good = subst (λ (f : Offered). IsGood f.driver.book f.memory) (sym why.is) good
accepted_good d m o (transfers why) good =
    let h = why.holding_after in
    let ss = why.asked.stages in
    let x = why.endpoint in
    let qtds = take (length ss) (new_runs d h) in
    let dummy = get_or qtds (length ss - 1) 0 in
    let notes = note_stages d.notes ss x.dummy qtds (drop (length ss) (new_runs d h)) in
    let first = taken_good (holding d.book m) h (needs ss) good why.runs in
    let second = stages_good h.book notes dummy (drop 1 ss) h.memory (note_at notes x.dummy).next first in
    let third = words_good h.book (write_stages h.book h.memory notes dummy (drop 1 ss) (note_at notes x.dummy).next) dummy (32 * dummy) (qtd_words dummy_qtd) second in
    subst (λ (f : Offered). IsGood f.driver.book f.memory) (sym why.is)
    (sent_good h.book notes ss (store_words h.book (write_stages h.book h.memory notes dummy (drop 1 ss) (note_at notes x.dummy).next) dummy (32 * dummy) (qtd_words dummy_qtd)) x.dummy why.asked.bytes third)
accepted_good d m o (describes why) good =
    let h = why.holding_after in
    subst (λ (f : Offered). IsGood f.driver.book f.memory) (sym why.is)
    (descriptors_good h.book why.number why.endpoint.desc why.slots why.count why.seed (new_runs d h) (record { notes = d.periodic.notes; transfers = d.transfers; memory = h.memory })
    (taken_good (holding d.book m) h (iso_needs why.slots why.count) good why.runs))
accepted_good d m o (cancels why) good = subst (λ (f : Offered). IsGood f.driver.book f.memory) (sym why.is) good
accepted_good d m o (unchains why) good =
    let e = with_cancel d why.number why.endpoint (endpoint_members d why.number why.endpoint why.placement) in
    subst (λ (f : Offered). IsGood f.driver.book f.memory) (sym why.is)
    (subst (λ (k : Book). IsGood k m) (sym (or_done_book e (unfinished.Unchain why.number))) good)
