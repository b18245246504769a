-- The next store that a stalled control endpoint is owed, as the queues of any driver tell it. What is next by turns is no part of their content: told of a driver whose
-- turn is that of leaving, the row is the same.
--     turned d               that driver
--     its, mend_at           the row, and what is next of the stores that are owed
--     OwedAlike              an endpoint that is owed stores, as the queues tell it, is one of the driver
use Rattle.std.proofs.Common.{◌≡◌, ℕ, true, false, List, map, slice_get, Option, Some, None, option_map, ap, refl, sym, subst, ◌∙◌, ⊎_elim}
use Rattle.std.proofs.lemmas.Bool.{cases_Bool, true≢false, false≢true}
use Rattle.law_driver.proofs.Common.{same_control, of_queue, of_none}
use Rattle.usb_base.specs.declared.packets.EpKind.{EpKind}
use Rattle.usb_base.specs.declared.packets.EpKind.TheVariants as kinds
use Rattle.word_mem.specs.Memory.{Mem}
use Rattle.op_registers.specs.RegisterFile.{RegisterFile}
use Rattle.mem_runs.specs.Book.{holding, Stands}
use Rattle.drv_periodic_table.specs.Periodic.{is_periodic}
use Rattle.drv_table.specs.declared.content.Endpoint.{Endpoint}
use Rattle.drv_table.specs.declared.content.Transfer.{Transfer}
use Rattle.drv_table.specs.declared.content.Mend.{Mend}
use Rattle.drv_table.specs.declared.content.Turn.TheVariants as turns
use Rattle.drv_table.specs.declared.rows.DriverRow.{DriverRow}
use Rattle.drv_table.specs.declared.rows.DriverRow.TheVariants as rows
use Rattle.drv_table.specs.DriverContent.{DriverContent}
use Rattle.drv_table.specs.Words.{is_control}
use Rattle.drv_table.specs.Parts.{Parts}
use Rattle.drv_table.specs.Kinds.{is_iso}
use Rattle.drv_table.specs.Leaving.{first_row}
use Rattle.drv_table.specs.Rows.{turn_row, row_for, driver_row}
use Rattle.law_driver.specs.endpoint_lives.Lives.{told_end}
use Rattle.claims_driver.specs.Owners.{is_descriptor, views_of}
use Rattle.claims_driver.specs.Leaving.{HasOwners}
use Rattle.claims_driver.specs.LentRuns.{AreLent}
use Rattle.law_structures.specs.lent_structures.Structures.{StructureSets}
use Rattle.law_driver_ring.specs.Inventory.{sorts_of, IsDriven}
use Rattle.law_driver.specs.chained_transfers.AsynchronousTurns.{AsynchronousTakesTurns}
use Rattle.law_queues.specs.mended_heads.Owed.{StalledQueue, GoesOnAt, IsOwed}
use Rattle.law_queues.specs.mended_heads.Waiting.{Waits, MendsStand}
use Rattle.law_queues.specs.mended_heads.Mended.{IsAtMend}
use Rattle.law_queues.proofs.lemmas.mended_heads.Content.{KeepFirsts, goes_on_still, any_one, alike_same}
use Rattle.law_queues.proofs.lemmas.mended_heads.Row.{mend_is_due}
use Rattle.law_world.proofs.lemmas.steps.lemmas.control_queues.Alike.{mends_by}
use Rattle.law_driver.specs.queued_drivers.Queued.{with_queue, queued_endpoint, queued_transfer, queued, QueuesTakeTurns}
use Rattle.law_driver.proofs.lemmas.queued_drivers.RowLists.{transfer_told, descriptor_told, IsMapped, mapped}

-- ---- turns

abbrev pub turned : DriverContent → DriverContent
turned d = record d { turn = turns.Leaving }

abbrev pub turned_parts : DriverContent → RegisterFile → Mem → Parts
turned_parts d r m = record { driver = turned d; registers = r; memory = m }

leads : (o : Option Mend) (w : Mend) (rest harvest : Option DriverRow) → o ≡ Some w → turn_row turns.Leaving (first_row (option_map rows.Mend o) rest) harvest ≡ rows.Mend w
leads o w rest harvest is = ap (λ (i : Option Mend). turn_row turns.Leaving (first_row (option_map rows.Mend i) rest) harvest) is

pub its_row : (d : DriverContent) (r : RegisterFile) (m : Mem) (w : Mend) → d.command ≡ None → slice_get d.mends 0 ≡ Some w → driver_row (turned_parts d r m) ≡ rows.Mend w
its_row d r m w idle first = ap (row_for (turned_parts d r m)) idle ∙ leads (slice_get d.mends 0) w _ _ first

-- what stands of the one stands of the other
pub mends_turned : (d : DriverContent) (parts : StructureSets) (out : ℕ → List ℕ) → MendsStand d parts out → MendsStand (turned d) parts out
mends_turned d parts out k =
    mends_by d (turned d) parts parts (λ n a. a) (λ n a. a) out out (alike_same any_one d (turned d) refl refl refl) (λ s owed (waits : Waits s parts out). waits) k

pub mend_at : (d : DriverContent) (r : RegisterFile) (m : Mem) (w : Mend) (parts : StructureSets) (out : ℕ → List ℕ) → d.command ≡ None → slice_get d.mends 0 ≡ Some w → Stands (holding d.book m)
    → HasOwners d → AreLent d → AsynchronousTakesTurns d → IsDriven (views_of d) (sorts_of parts) → MendsStand d parts out → IsAtMend (turned_parts d r m) parts out
mend_at d r m w parts out idle first stands owners lent turns driven mends =
    mend_is_due (turned_parts d r m) parts out w (its_row d r m w idle first) stands
    (record { owner = owners.owner; owned = record { each = owners.owned.each; sizes = owners.owned.sizes; as_many = owners.owned.as_many }; orderly = owners.orderly })
    (record { kept = lent.kept; lent = lent.lent }) turns.chained (record { places = turns.turns.places; turns = turns.turns.turns; returned = turns.turns.returned }) driven (mends_turned d parts out mends)

-- ---- a control endpoint of the driver

pub of_ring : (k : EpKind) → is_control k ≡ true → is_periodic k ≡ false
of_ring kinds.Interrupt is = absurd (false≢true is)
of_ring kinds.Iso is = absurd (false≢true is)
of_ring _ is = refl

-- one that isn't given back has a queue
pub has_queue : (x z : Endpoint) → queued_endpoint x ≡ z → z.gone ≡ false → is_iso x.desc.kind ≡ false
has_queue x z is kept = ⊎_elim
    (λ (iso : is_iso x.desc.kind ≡ true). absurd (true≢false (ap (λ (y : Endpoint). y.gone) (sym (of_none x iso) ∙ is) ∙ kept)))
    (λ (off : is_iso x.desc.kind ≡ false). off) (cases_Bool (is_iso x.desc.kind))

first_told : (xs : List Endpoint) (y : Transfer) → (queued_transfer xs y).first ≡ y.first
first_told xs y = ⊎_elim
    (λ (is : is_descriptor y.sort ≡ true). ap (λ (z : Transfer). z.first) (descriptor_told xs y is))
    (λ (off : is_descriptor y.sort ≡ false). ap (λ (z : Transfer). z.first) (transfer_told xs y off)) (cases_Bool (is_descriptor y.sort))

firsts_were : (xs : List Endpoint) (ts : List Transfer) → KeepFirsts (map (queued_transfer xs) ts) ts
firsts_were xs ts t y here =
    let w : IsMapped (queued_transfer xs) ts t y = mapped (queued_transfer xs) ts t y here in
    record { transfer = w.one; here = w.here; first = sym (first_told xs w.one) ∙ ap (λ (z : Transfer). z.first) w.is }

pub owed_of : (d : DriverContent) (s : StalledQueue) → QueuesTakeTurns d → IsOwed (turned (queued d)) s → IsOwed d s
owed_of d s turns o =
    let w : IsMapped queued_endpoint d.endpoints o.number o.endpoint = mapped queued_endpoint d.endpoints o.number o.endpoint o.here in
    let off : is_iso w.one.desc.kind ≡ false = has_queue w.one o.endpoint w.is o.kept in
    let same : with_queue w.one ≡ o.endpoint = sym (of_queue w.one off) ∙ w.is in
    record {
      number = o.number;
      endpoint = w.one;
      here = w.here;
      control = sym (same_control w.one.desc.name.way w.one.desc.kind (turns.kinds_fit o.number w.one w.here)) ∙ ap (λ (z : Endpoint). is_control z.desc.kind) same ∙ o.control;
      kept = ap (λ (z : Endpoint). z.gone) same ∙ o.kept;
      going = ap told_end same ∙ o.going;
      queue = ap (λ (z : Endpoint). z.queue) same ∙ o.queue;
      onward = goes_on_still (map (queued_transfer d.endpoints) d.transfers) d.transfers w.one.dummy s.onward w.one.next (firsts_were d.endpoints d.transfers)
          (subst (λ (z : Endpoint). GoesOnAt (map (queued_transfer d.endpoints) d.transfers) z.dummy z.next s.onward) (sym same) o.onward);
      some = o.some;
    }
