-- The blocks of an endpoint, and whose they are.
use Rattle.std.proofs.Common.{◌≡◌, ◌≢◌, ℕ, zero, suc, ◌==◌, Bool, true, false, if◌then◌else◌, List, [], ◌∷◌, ◌++◌, slice_get, Option, Some, None, ap, refl, sym, ◌∙◌}
use Rattle.std.specs.List.{AllByRecursion}
use Rattle.std.proofs.lemmas.Bool.{true≢false}
use Rattle.law_driver_ring.proofs.Common.{runs_joined}
use Rattle.law_common.proofs.Lists.{all_joined}
use Rattle.mem_runs.specs.Book.{Holding}
use Rattle.mem_runs.specs.declared.slots.Slot.{Slot}
use Rattle.drv_table.specs.declared.content.Endpoint.{Endpoint}
use Rattle.drv_table.specs.declared.content.Transfer.{Transfer}
use Rattle.drv_table.specs.declared.content.QtdNote.{QtdNote}
use Rattle.drv_table.specs.DriverContent.{DriverContent}
use Rattle.drv_table.specs.Releases.{free_runs, free_qtds, free_transfers, free_endpoint, is_held_of}
use Rattle.claims_driver.specs.Owners.{Owner, QueueHead, Dummy, Element, Buffer, IsPlaced, ArePieces, NoteRuns, note_in}
use Rattle.law_driver.proofs.lemmas.run_owners.Runs.{all_still}
use Rattle.law_driver_ring.specs.Released.{blocks_of}
use Rattle.law_driver_ring.proofs.Blocks.{qtds_are_runs}
use Rattle.law_world.specs.steps.endpoint_releases.Released.{held_blocks, endpoint_blocks}

-- ---- whose they are

-- it is a transfer of endpoint e that wasn't given back
abbrev pub held_at : ℕ → Option Transfer → Bool
held_at e None = false
held_at e (Some y) = is_held_of e y

-- the owners whose runs are given back, with the transfers of these numbers
abbrev pub goes_with : ℕ → (ℕ → Bool) → Owner → Bool
goes_with e held (QueueHead u) = u == e
goes_with e held (Dummy u) = u == e
goes_with e held (Element t) = held t
goes_with e held (Buffer t) = held t
goes_with e held _ = false

pieces_go : (slot : ℕ → Slot) (owner : ℕ → Owner) (note : ℕ → NoteRuns) (e : ℕ) (held : ℕ → Bool) (t b n : ℕ) → held t ≡ true → ArePieces slot owner note t b n → AllByRecursion (λ c. goes_with e held (owner c) ≡ true) (blocks_of note b n)
pieces_go slot owner note e held t b zero on pieces = tt
pieces_go slot owner note e held t b (suc n) on pieces = (
  ap (goes_with e held) pieces.0.element.owned ∙ on,
  all_joined (λ c. goes_with e held (owner c) ≡ true) (note b).buffer (blocks_of note (note b).next n)
      (all_still {P = λ c. IsPlaced slot owner c (Buffer t)} {Q = λ c. goes_with e held (owner c) ≡ true} (note b).buffer (λ c is. ap (goes_with e held) is.owned ∙ on) pieces.0.buffers)
      (pieces_go slot owner note e held t (note b).next n on pieces.1),
)

-- each of these transfers with its number
one_goes : (P : ℕ → Type 0) (b : Bool) (cs ds : List ℕ) → (b ≡ true → AllByRecursion P cs) → AllByRecursion P ds → AllByRecursion P ((if b then cs else []) ++ ds)
one_goes P true cs ds each rest = all_joined P cs ds (each refl) rest
one_goes P false cs ds each rest = rest

pub transfers_go : (slot : ℕ → Slot) (owner : ℕ → Owner) (note : ℕ → NoteRuns) (e : ℕ) (held : ℕ → Bool) (ts : List Transfer)
    → ((i : ℕ) (y : Transfer) → slice_get ts i ≡ Some y → is_held_of e y ≡ true → (t : ℕ) × (held t ≡ true) × ArePieces slot owner note t y.first y.qtds)
    → AllByRecursion (λ c. goes_with e held (owner c) ≡ true) (held_blocks note e ts)
transfers_go slot owner note e held [] each = tt
transfers_go slot owner note e held (y ∷ ts) each =
    one_goes (λ c. goes_with e held (owner c) ≡ true) (is_held_of e y) (blocks_of note y.first y.qtds) (held_blocks note e ts)
    (λ on. let p = each zero y refl on in pieces_go slot owner note e held p.0 y.first y.qtds p.1 p.2)
    (transfers_go slot owner note e held ts (λ i z there on. each (suc i) z there on))

-- a block of another owner is none of them
pub none_goes : (owner : ℕ → Owner) (e : ℕ) (held : ℕ → Bool) (c : ℕ) (cs : List ℕ) → goes_with e held (owner c) ≡ false → AllByRecursion (λ b. goes_with e held (owner b) ≡ true) cs → AllByRecursion (λ b. c ≢ b) cs
none_goes owner e held c cs off all =
    all_still {P = λ b. goes_with e held (owner b) ≡ true} {Q = λ b. c ≢ b} cs (λ b on same. true≢false (sym on ∙ ap (λ (i : ℕ). goes_with e held (owner i)) (sym same) ∙ off)) all

-- ---- all of their runs are given back

held_runs : (b : Bool) (h g : Holding) (bs cs : List ℕ) → g ≡ free_runs h bs → free_runs (if b then g else h) cs ≡ free_runs h ((if b then bs else []) ++ cs)
held_runs true h g bs cs is = ap (λ (k : Holding). free_runs k cs) is ∙ sym (runs_joined h bs cs)
held_runs false h g bs cs is = refl

transfers_are_runs : (notes : List QtdNote) (e : ℕ) (h : Holding) (ts : List Transfer) → free_transfers notes e h ts ≡ free_runs h (held_blocks (note_in notes) e ts)
unfolding free_transfers
transfers_are_runs notes e h [] = refl
transfers_are_runs notes e h (y ∷ ts) =
    transfers_are_runs notes e (if is_held_of e y then free_qtds notes h y.first y.qtds else h) ts
    ∙ held_runs (is_held_of e y) h (free_qtds notes h y.first y.qtds) (blocks_of (note_in notes) y.first y.qtds) (held_blocks (note_in notes) e ts) (qtds_are_runs notes h y.first y.qtds)

pub endpoint_is_runs : (d : DriverContent) (e : ℕ) (x : Endpoint) (h : Holding) → free_endpoint d e x h ≡ free_runs h (endpoint_blocks d e x)
endpoint_is_runs d e x h = transfers_are_runs d.notes e (free_runs h (x.queue ∷ x.dummy ∷ [])) d.transfers
