-- The tail of each queue stands where a transfer is to be lent, and once it is lent.
use Rattle.std.proofs.Common.{◌≡◌, ◌≢◌, ℕ, ◌-◌, ◌*◌, ◌==◌, Bool, false, cond, List, length, slice_get, Option, Some, option_map, ap, refl, sym, subst, ◌∙◌, ⊎_elim, arith}
use Rattle.std.proofs.lemmas.Bool.{cases_eq, eq-eqb}
use Rattle.std.proofs.lemmas.Option.{same_Some}
use Rattle.law_common.proofs.Numbers.{other_number}
use Rattle.word_mem.specs.Memory.{Mem}
use Rattle.mem_runs.specs.Book.{slot_of}
use Rattle.drv_table.specs.declared.content.Endpoint.{Endpoint}
use Rattle.drv_table.specs.declared.content.Transfer.{Transfer}
use Rattle.drv_table.specs.declared.content.Command.{Command}
use Rattle.drv_table.specs.declared.content.Command.TheVariants as unfinished
use Rattle.drv_table.specs.DriverContent.{DriverContent}
use Rattle.drv_table.specs.Words.{dummy_qtd}
use Rattle.claims_driver.specs.Owners.{Owner, Dummy, Element as ElementOwner, Buffer as BufferOwner, runs_of_endpoint, runs_of_transfer}
use Rattle.claims_driver.specs.Leaving.{HasOwners}
use Rattle.law_driver.proofs.lemmas.run_owners.Runs.{placed_run}
use Rattle.claims_driver.specs.LentRuns.{AreLent}
use Rattle.law_structures.specs.lent_structures.Structures.{Element, StructureSets}
use Rattle.law_structures.specs.lent_structures.Sound.{IsElement}
use Rattle.law_driver_ring.specs.Inventory.{IsLent}
use Rattle.law_driver.specs.chained_transfers.Asynchronous.{OnlyAsynchronous}
use Rattle.law_driver_ring.specs.fed_queues.Fed.{AreFed}
use Rattle.law_driver_ring.proofs.Lists.{IsOneOf}
use Rattle.law_driver_ring.proofs.TransferOwning.{IsOwnedBy, as_element, as_dummy, as_buffer}
use Rattle.law_driver_ring.proofs.TransferLending.{taken_owner}
use Rattle.law_queues.specs.fed_lends.ToLend.{IsToBeLent}
use Rattle.law_queues.proofs.lemmas.fed_lends.Names.{first_stands}
use Rattle.law_queues.proofs.lemmas.fed_lends.Fed.{bare_is}
use Rattle.law_queues.proofs.lemmas.lent_fronts.Extents.{lent_already}
use Rattle.law_queues.specs.standing_fronts.Tails.{tail_block, tail_of}

-- ---- the inactive qTD of another endpoint

no_element : (e t : ℕ) → Dummy e ≡ ElementOwner t → ⊥
no_element e t same = cc

one_dummy : (e f : ℕ) → Dummy e ≡ Dummy f → e ≡ f
one_dummy e f same = cc

no_buffer : (e t : ℕ) → Dummy e ≡ BufferOwner t → ⊥
no_buffer e t same = cc

-- what is to be lent is the transfer's, or its endpoint's
no_other_dummy : (owner : ℕ → Owner) (t e f c : ℕ) → e ≢ f → owner c ≡ Dummy e → IsOwnedBy owner t f c → ⊥
no_other_dummy owner t e f c differs owned (as_element is) = no_element e t (sym owned ∙ is)
no_other_dummy owner t e f c differs owned (as_dummy is) = differs (one_dummy e f (sym owned ∙ is))
no_other_dummy owner t e f c differs owned (as_buffer is) = no_buffer e t (sym owned ∙ is)

other_dummy_lent : (d : DriverContent) (m : Mem) (b : ℕ) (words : List ℕ) (e : ℕ) (x : Endpoint) → (k : IsToBeLent d m b words) → HasOwners d → AreLent d → OnlyAsynchronous d
    → slice_get d.endpoints e ≡ Some x → x.gone ≡ false → e ≢ k.transfer.endpoint → IsLent (slot_of d.book.slots x.dummy)
other_dummy_lent d m b words e x k has lent only here kept differs =
    let placed = has.owned.each.dummy e (runs_of_endpoint x) (ap (option_map runs_of_endpoint) here) (bare_is d e x only here kept) in
    let none : IsOneOf x.dummy d.book.taken → ⊥ = λ one. no_other_dummy has.owner k.number e k.transfer.endpoint x.dummy differs placed.owned
    (taken_owner d m k.number (runs_of_transfer k.transfer) (runs_of_endpoint k.endpoint) k.stage k.further x.dummy k.awaits has one) in
    lent_already {d = d} lent x.dummy (slot_of d.book.slots x.dummy) refl (placed_run x.dummy (Dummy e) placed) none

-- ---- each tail

pub tail_stands : (d : DriverContent) (m : Mem) (b : ℕ) (words : List ℕ) (parts : StructureSets) (e : ℕ) (x : Endpoint) → (k : IsToBeLent d m b words) → HasOwners d → AreLent d → OnlyAsynchronous d
    → AreFed d parts → slice_get d.endpoints e ≡ Some x → x.gone ≡ false → IsElement (parts (32 * x.queue)) (tail_of d e x)
tail_stands d m b words parts e x k has lent only fed here kept =
    let newest = k.newest in
    let number : length d.transfers - 1 ≡ k.number = omega (arith, newest) in
    let last : slice_get d.transfers (length d.transfers - 1) ≡ Some k.transfer = ap (slice_get d.transfers) number ∙ k.there in
    let tail : tail_of d e x ≡ 32 * cond (k.transfer.endpoint == e) b x.dummy =
    ap (λ (c : Option Command). 32 * tail_block c (slice_get d.transfers (length d.transfers - 1)) e x.dummy) k.command
    ∙ ap (λ (y : Option Transfer). 32 * tail_block (Some (unfinished.Publish b words)) y e x.dummy) last in
    subst (IsElement (parts (32 * x.queue))) (sym tail)
    (⊎_elim
    (λ (same : k.transfer.endpoint ≡ e).
    let is : x ≡ k.endpoint = same_Some x k.endpoint (sym here ∙ ap (slice_get d.endpoints) (sym same) ∙ k.here) in
    let first : parts (32 * x.queue) (32 * b) ≡ Some (Element dummy_qtd) =
    ap (λ (z : Endpoint). parts (32 * z.queue) (32 * b)) is ∙ ap (λ (c : ℕ). parts (32 * k.endpoint.queue) (32 * c)) (sym k.first) ∙ first_stands d m b words parts k fed in
    let at : 32 * cond (k.transfer.endpoint == e) b x.dummy ≡ 32 * b = ap (λ (c : Bool). 32 * cond c b x.dummy) (eq-eqb k.transfer.endpoint e same) in
    record { qtd = dummy_qtd; here = ap (parts (32 * x.queue)) at ∙ first })
    (λ (differs : k.transfer.endpoint ≢ e).
    let dummy = fed.dummies e x here kept (other_dummy_lent d m b words e x k has lent only here kept (λ same. differs (sym same))) in
    let at : 32 * cond (k.transfer.endpoint == e) b x.dummy ≡ 32 * x.dummy = ap (λ (c : Bool). 32 * cond c b x.dummy) (other_number k.transfer.endpoint e differs) in
    record { qtd = dummy_qtd; here = ap (parts (32 * x.queue)) at ∙ dummy })
    (cases_eq k.transfer.endpoint e))
