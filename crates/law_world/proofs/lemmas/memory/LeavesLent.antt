-- Each accepted command leaves what is Lent.
use Rattle.std.proofs.Common.{◌≡◌, ℕ, List, [], ◌∷◌, length, drop, get_or, ap, sym, subst, ◌∙◌}
use Rattle.law_common.proofs.Lists.{drop_first}
use Rattle.law_driver_ring.proofs.Common.{leaves_itself}
use Rattle.word_mem.specs.Memory.{Mem}
use Rattle.mem_runs.specs.Book.{holding}
use Rattle.drv_table.specs.DriverContent.{DriverContent}
use Rattle.drv_table.specs.Accepting.{Offered, new_runs}
use Rattle.drv_table.specs.Offers.{accepted_open, accepted_chain}
use Rattle.law_driver.specs.run_owners.Accepts.{Accepts, opens, chains, places, transfers, describes, cancels, unchains}
use Rattle.law_driver.specs.in_place.InPlace.{IsInPlace}
use Rattle.law_driver.proofs.lemmas.run_owners.Taking.{AreTaken, runs_taken}
use Rattle.law_driver_ring.proofs.PartAccepting.{open_leaves}
use Rattle.law_driver_ring.proofs.Sending.{transfer_leaves}
use Rattle.law_descriptors.proofs.CommandAccepting.{describes_leaves}
use Rattle.law_structures.specs.lent_structures.Changes.{Leaves}
use Rattle.law_world.proofs.lemmas.memory.lemmas.framed_memory.Chained.{chain_leaves}

pub leaves_lent : (d : DriverContent) (m : Mem) (o : Offered) → Accepts d m o → IsInPlace m d → Leaves m o.memory
leaves_lent d m o (opens why) place =
    let all = runs_taken (holding d.book m) why.holding_after (2 ∷ 1 ∷ []) place.sound.stands why.runs in
    let new : new_runs d why.holding_after ≡ all.blocks = ap (drop (length d.book.taken)) all.are.taken
    ∙ drop_first d.book.taken all.blocks in
    subst (λ (f : Offered). Leaves m f.memory) (sym why.is)
    (subst (λ (rs : List ℕ). Leaves m (accepted_open d why.desc why.holding_after (get_or rs 0 0) (get_or rs 1 0)).memory) (sym new)
    (open_leaves d m why.desc why.holding_after all.blocks place.sound.stands place.sound.shape all.are))
leaves_lent d m o (chains why) place =
    let all = runs_taken (holding d.book m) why.holding_after (2 ∷ 1 ∷ []) place.sound.stands why.runs in
    let new : new_runs d why.holding_after ≡ all.blocks = ap (drop (length d.book.taken)) all.are.taken
    ∙ drop_first d.book.taken all.blocks in
    subst (λ (f : Offered). Leaves m f.memory) (sym why.is)
    (subst (λ (rs : List ℕ). Leaves m (accepted_chain d why.desc why.placement why.holding_after (get_or rs 0 0) (get_or rs 1 0)).memory)
    (sym new)
    (chain_leaves d m why.desc why.placement why.holding_after all.blocks place.sound.stands place.sound.shape all.are))
leaves_lent d m o (places why) place = subst (λ (f : Offered). Leaves m f.memory) (sym why.is) (leaves_itself m place.sound.shape)
leaves_lent d m o (transfers why) place = transfer_leaves d m o why place.sound.owners place.sound.stands place.sound.shape
leaves_lent d m o (describes why) place = describes_leaves d m o why place.sound.stands place.sound.shape
leaves_lent d m o (cancels why) place = subst (λ (f : Offered). Leaves m f.memory) (sym why.is) (leaves_itself m place.sound.shape)
leaves_lent d m o (unchains why) place = subst (λ (f : Offered). Leaves m f.memory) (sym why.is) (leaves_itself m place.sound.shape)
