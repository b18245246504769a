-- An accepted command takes runs, which are kept until it lends them.
use Rattle.std.proofs.Common.{[], ◌∷◌, sym, subst}
use Rattle.std.proofs.lemmas.Bool.{false≢true}
use Rattle.word_mem.specs.Memory.{Mem}
use Rattle.mem_runs.specs.Book.{holding}
use Rattle.drv_table.specs.declared.content.Command.TheVariants as unfinished
use Rattle.drv_table.specs.DriverContent.{DriverContent}
use Rattle.drv_table.specs.Words.{needs}
use Rattle.drv_table.specs.Accepting.{Offered}
use Rattle.drv_table.specs.IsoOffers.{iso_needs}
use Rattle.drv_table.specs.CancelOffers.{endpoint_members, with_cancel, accepted_unchain}
use Rattle.law_driver.specs.run_owners.Accepts.{Accepts, opens, chains, places, transfers, describes, cancels, unchains}
use Rattle.claims_driver.specs.LentRuns.{AreLent}
use Rattle.law_driver.proofs.lemmas.lent_runs.Slots.{keeps_taken}
use Rattle.law_driver.proofs.lemmas.lent_runs.Books.{or_done_book}
use Rattle.law_driver.proofs.lemmas.lent_runs.Goes.{settled, idle_none}

pub accepted_lent : (d : DriverContent) (m : Mem) (o : Offered) → Accepts d m o → AreLent d → AreLent o.driver
accepted_lent d m o (opens why) old =
    subst (λ (f : Offered). AreLent f.driver) (sym why.is)
    (record { kept = keeps_taken (holding d.book m) why.holding_after (2 ∷ 1 ∷ []) old.kept why.runs; lent = λ off. absurd (false≢true (sym off)) })
accepted_lent d m o (chains why) old =
    subst (λ (f : Offered). AreLent f.driver) (sym why.is)
    (record { kept = keeps_taken (holding d.book m) why.holding_after (2 ∷ 1 ∷ []) old.kept why.runs; lent = λ off. absurd (false≢true (sym off)) })
accepted_lent d m o (places why) old =
    subst (λ (f : Offered). AreLent f.driver) (sym why.is) (record { kept = old.kept; lent = old.lent })
accepted_lent d m o (transfers why) old =
    subst (λ (f : Offered). AreLent f.driver) (sym why.is)
    (record { kept = keeps_taken (holding d.book m) why.holding_after (needs why.asked.stages) old.kept why.runs; lent = λ off. absurd (false≢true (sym off)) })
accepted_lent d m o (describes why) old =
    subst (λ (f : Offered). AreLent f.driver) (sym why.is)
    (record { kept = keeps_taken (holding d.book m) why.holding_after (iso_needs why.slots why.count) old.kept why.runs; lent = λ off. absurd (false≢true (sym off)) })
accepted_lent d m o (cancels why) old =
    subst (λ (f : Offered). AreLent f.driver) (sym why.is) (record { kept = old.kept; lent = λ off. idle_none d why.idle old })
accepted_lent d m o (unchains why) old =
    let e = with_cancel d why.number why.endpoint (endpoint_members d why.number why.endpoint why.placement) in
    subst (λ (f : Offered). AreLent f.driver) (sym why.is)
    (settled d (accepted_unchain d why.number why.endpoint (endpoint_members d why.number why.endpoint why.placement)) (or_done_book e (unfinished.Unchain why.number)) (idle_none d why.idle old) old)
