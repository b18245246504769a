-- What accepted commands leave, by their reasons.
use Rattle.std.proofs.Common.{◌≡◌, ℕ, ◌-◌, List, [], ◌∷◌, length, take, drop, get_or, option_map, ap, sym, subst, ◌∙◌}
use Rattle.law_common.proofs.Lists.{drop_first}
use Rattle.word_mem.specs.Memory.{Mem, IsShaped}
use Rattle.mem_runs.specs.Book.{holding, Stands}
use Rattle.drv_table.specs.DriverContent.{DriverContent}
use Rattle.drv_table.specs.Words.{needs}
use Rattle.drv_table.specs.Accepting.{Offered, new_runs}
use Rattle.drv_table.specs.Offers.{note_stages, accepted_open, accepted_transfer}
use Rattle.law_driver.specs.run_owners.Accepts.{Opens, Transfers}
use Rattle.claims_driver.specs.Owners.{runs_of_endpoint}
use Rattle.claims_driver.specs.Leaving.{HasOwners}
use Rattle.law_driver.proofs.lemmas.run_owners.Taking.{runs_taken}
use Rattle.law_driver.proofs.lemmas.run_owners.Transferred.{goes_on_alive}
use Rattle.law_driver.proofs.lemmas.ring_members.Placed.{has_queue}
use Rattle.law_structures.specs.lent_structures.Changes.{Leaves}
use Rattle.law_driver_ring.specs.PartLaws.{AreIn}
use Rattle.law_driver_ring.proofs.PartAccepting.{open_leaves, get_leaves}

pub opens_leave : (d : DriverContent) (m : Mem) (o : Offered) → Opens d m o → Stands (holding d.book m) → IsShaped m → Leaves m o.memory
opens_leave d m o why stands shape =
    let all = runs_taken (holding d.book m) why.holding_after (2 ∷ 1 ∷ []) stands why.runs in
    let new : new_runs d why.holding_after ≡ all.blocks = ap (drop (length d.book.taken)) all.are.taken ∙ drop_first d.book.taken all.blocks in
    subst (λ (f : Offered). Leaves m f.memory) (sym why.is)
    (subst (λ (rs : List ℕ). Leaves m (accepted_open d why.desc why.holding_after (get_or rs 0 0) (get_or rs 1 0)).memory) (sym new)
    (open_leaves d m why.desc why.holding_after all.blocks stands shape all.are))

pub receiving_leaves : (d : DriverContent) (m : Mem) (o : Offered) (why : Transfers d m o) → AreIn why.asked.stages → HasOwners d → Stands (holding d.book m) → IsShaped m → Leaves m o.memory
receiving_leaves d m o why all_in has stands shape =
    let n = length why.asked.stages in
    let x = why.endpoint in
    let all = runs_taken (holding d.book m) why.holding_after (needs why.asked.stages) stands why.runs in
    let new : new_runs d why.holding_after ≡ all.blocks = ap (drop (length d.book.taken)) all.are.taken ∙ drop_first d.book.taken all.blocks in
    let alive = has_queue x why.queued (goes_on_alive x why.goes_on (has.orderly.steady why.number x why.here)) in
    let was = has.owned.each.dummy why.number (runs_of_endpoint x) (ap (option_map runs_of_endpoint) why.here) alive in
    subst (λ (f : Offered). Leaves m f.memory) (sym why.is)
    (subst (λ (rs : List ℕ). Leaves m (accepted_transfer d why.number x why.asked why.holding_after (get_or (take n rs) (n - 1) 0) (note_stages d.notes why.asked.stages x.dummy (take n rs) (drop n rs))).memory) (sym new)
    (get_leaves d m why.number x why.asked why.holding_after all.blocks has.owner stands shape all.are why.some has.owned.sizes was all_in))
