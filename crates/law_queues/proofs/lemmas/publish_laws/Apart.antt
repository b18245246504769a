-- The qTD that is being published stands in a block of its own.
use Rattle.std.proofs.Common.{◌≡◌, ◌≢◌, ℕ, zero, suc, ◌<◌, ◌≤◌, ◌||◌, Bool, false, List, [], length, slice_get, Option, Some, option_map, ap, refl, sym, ◌∙◌, arith}
use Rattle.std.proofs.lemmas.Bool.{false≢true}
use Rattle.std.proofs.lemmas.Option.{slice_get_within}
use Rattle.mem_runs.specs.declared.slots.Slot.{Slot}
use Rattle.mem_runs.specs.declared.slots.Slot.TheVariants as slots
use Rattle.mem_runs.specs.Book.{slot_of}
use Rattle.drv_table.specs.declared.content.Endpoint.{Endpoint}
use Rattle.drv_table.specs.declared.content.Transfer.{Transfer}
use Rattle.drv_table.specs.declared.content.Command.{Command}
use Rattle.drv_table.specs.declared.content.Command.TheVariants as unfinished
use Rattle.drv_table.specs.DriverContent.{DriverContent}
use Rattle.claims_driver.specs.Owners.{Owner, QueueHead, Dummy, Element, HasBlocks, IsPlaced, ArePieces, NoteRuns, runs_of_endpoint, runs_of_transfer, note_in}
use Rattle.claims_driver.specs.Leaving.{HasOwners}
use Rattle.claims_driver.specs.LentRuns.{AreLent, begins_in, still_lends}
use Rattle.law_driver_ring.specs.Inventory.{IsLent}
use Rattle.law_driver.specs.chained_transfers.Chains.{piece_at}
use Rattle.law_driver.specs.chained_transfers.Asynchronous.{StandsAsynchronous}
use Rattle.law_driver.proofs.lemmas.chained_transfers.BulkAndControl.{not_iso}

-- ---- whose the blocks are

-- an endpoint of the ring has a queue
pub bare_not : (x : Endpoint) → StandsAsynchronous x → x.gone ≡ false → (runs_of_endpoint x).bare ≡ false
bare_not x k kept = ap (λ (iso : Bool). iso || x.gone) (not_iso x.desc k.asynchronous) ∙ kept

pub dummy_placed : (d : DriverContent) (h : HasOwners d) (e : ℕ) (x : Endpoint) → slice_get d.endpoints e ≡ Some x → StandsAsynchronous x → x.gone ≡ false → IsPlaced (slot_of d.book.slots) h.owner x.dummy (Dummy e)
dummy_placed d h e x here stands kept = h.owned.each.dummy e (runs_of_endpoint x) (ap (option_map runs_of_endpoint) here) (bare_not x stands kept)

pub queue_placed : (d : DriverContent) (h : HasOwners d) (e : ℕ) (x : Endpoint) → slice_get d.endpoints e ≡ Some x → StandsAsynchronous x → x.gone ≡ false → IsPlaced (slot_of d.book.slots) h.owner x.queue (QueueHead e)
queue_placed d h e x here stands kept = h.owned.each.queue e (runs_of_endpoint x) (ap (option_map runs_of_endpoint) here) (bare_not x stands kept)

pieces_placed : (slot : ℕ → Slot) (owner : ℕ → Owner) (note : ℕ → NoteRuns) (t b n i : ℕ) → i < n → ArePieces slot owner note t b n → IsPlaced slot owner (piece_at note b i) (Element t)
pieces_placed slot owner note t b zero i below k = absurd (omega (arith, below))
pieces_placed slot owner note t b (suc n) zero below k = k.0.element
pieces_placed slot owner note t b (suc n) (suc i) below k = pieces_placed slot owner note t (note b).next n i (omega (arith, below)) k.1

pub piece_placed : (d : DriverContent) (h : HasOwners d) (t i : ℕ) (y : Transfer) → slice_get d.transfers t ≡ Some y → y.released ≡ false → i < y.qtds → IsPlaced (slot_of d.book.slots) h.owner (piece_at (note_in d.notes) y.first i) (Element t)
piece_placed d h t i y there held below =
    pieces_placed (slot_of d.book.slots) h.owner (note_in d.notes) t y.first y.qtds i below (h.owned.each.pieces t (runs_of_transfer y) (ap (option_map runs_of_transfer) there) held)

-- ---- two blocks

same_dummy : (owner : ℕ → Owner) (b c e t : ℕ) → owner b ≡ Dummy e → owner c ≡ Element t → c ≢ b
same_dummy owner b c e t dummy element same = other (sym element ∙ ap owner same ∙ dummy)
  where
    other : Element t ≡ Dummy e → ⊥
    other z = cc

abbrev number_of : Owner → ℕ
number_of (Element t) = t
number_of (QueueHead e) = e
number_of o = 0

pub dummy_apart : {slot : ℕ → Slot} {owner : ℕ → Owner} (b c e t : ℕ) → IsPlaced slot owner b (Dummy e) → IsPlaced slot owner c (Element t) → b ≢ c
dummy_apart {owner = owner} b c e t dummy element same = same_dummy owner b c e t dummy.owned element.owned (sym same)

pub pieces_apart : {slot : ℕ → Slot} {owner : ℕ → Owner} (b c t u : ℕ) → t ≢ u → IsPlaced slot owner b (Element t) → IsPlaced slot owner c (Element u) → b ≢ c
pieces_apart {owner = owner} b c t u differs one other same = differs (ap number_of (sym one.owned ∙ ap owner same ∙ other.owned))

pub queues_same : {slot : ℕ → Slot} {owner : ℕ → Owner} (b c e f : ℕ) → b ≡ c → IsPlaced slot owner b (QueueHead e) → IsPlaced slot owner c (QueueHead f) → e ≡ f
queues_same {owner = owner} b c e f same one other = ap number_of (sym one.owned ∙ ap owner same ∙ other.owned)

-- ---- all runs are lent

none_lends : (b : ℕ) (words : List ℕ) (k : ℕ) → k < 8 → still_lends (Some (unfinished.Publish b words)) (suc k) ≡ false
none_lends b words (suc (suc (suc (suc (suc (suc (suc (suc k)))))))) below = absurd (omega (arith, below))
none_lends b words _ below = refl

lends_by : (d : DriverContent) (c : ℕ) (s : Slot) → slot_of d.book.slots c ≡ s → AreLent d → d.book.taken ≡ [] → HasBlocks 1 s → IsLent s
lends_by d c slots.Empty is lent none run = absurd run
lends_by d c (slots.Keeps r) is lent none run = absurd (false≢true (ap (begins_in c) (sym none) ∙ lent.kept c r is))
lends_by d c (slots.Lends r) is lent none run = tt

pub all_lent : (d : DriverContent) (b : ℕ) (words : List ℕ) (k c : ℕ) → d.command ≡ Some (unfinished.Publish b words) → d.made ≡ suc k → k < 8 → AreLent d → HasBlocks 1 (slot_of d.book.slots c) → IsLent (slot_of d.book.slots c)
all_lent d b words k c command made below lent run =
    let none : d.book.taken ≡ [] =
    lent.lent (ap (λ (o : Option Command). still_lends o d.made) command ∙ ap (still_lends (Some (unfinished.Publish b words))) made ∙ none_lends b words k below) in
    lends_by d c (slot_of d.book.slots c) refl lent none run

-- ---- a number of the list

pub newest_only : (d : DriverContent) (t k : ℕ) (y : Transfer) → suc t ≡ length d.transfers → suc t ≤ k → slice_get d.transfers k ≡ Some y → ⊥
newest_only d t k y last over there = let below = slice_get_within d.transfers k y there in omega (arith, last, over, below)
