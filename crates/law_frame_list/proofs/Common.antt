-- Lemmas that several files need.
use Rattle.std.proofs.Common.{ℕ, slice_get, ◌≡◌, Some, zero, refl, suc, Bool, Option, ◌%◌, ◌<◌, arith, subst, ◌+◌, ◌*◌, ◌^◌, ◌==◌, ◌/◌, List, drop, ap, ◌∷◌, ◌∙◌, [], ◌≤◌, if◌then◌else◌, length}
use Rattle.std.specs.List.{AllByRecursion}
use Rattle.std.proofs.lemmas.Bool.{le-leb}
use Rattle.word_mem.specs.Memory.{Mem}
use Rattle.mem_runs.specs.declared.slots.Slot.{Slot}
use Rattle.mem_runs.specs.declared.slots.Slot.TheVariants.{Empty}
use Rattle.mem_runs.specs.Book.{slot_of}
use Rattle.mem_runs.proofs.Standing.{keeps_within, lends_within}
use Rattle.law_common.proofs.Booleans.{either}
use Rattle.drv_chains.specs.Chains.{Schedule, first_of}
use Rattle.drv_chains.specs.declared.members.Member.{Member}
use Rattle.drv_chains.specs.declared.members.Predecessor.{Predecessor}
use Rattle.drv_chains.specs.declared.members.Predecessor.TheVariants.{Element, After}
use Rattle.drv_periodic.specs.Periodic.{next_store, address_of}
use Rattle.link_words.specs.Layout.{word_of, high_bits, bits, flag}
use Rattle.link_words.specs.Fields.{link_rows, link_at}
use Rattle.drv_table.specs.Commands.{events_of, link_row, command_row}
use Rattle.drv_table.specs.DriverContent.{DriverContent}
use Rattle.drv_table.specs.declared.content.Endpoint.{Endpoint}
use Rattle.drv_table.specs.Releases.{cancel_told, is_told}
use Rattle.drv_table.specs.Parts.{Parts}
use Rattle.drv_table.specs.declared.content.Transfer.{Transfer}
use Rattle.drv_table.specs.Rows.{driver_row, row_for}
use Rattle.drv_table.specs.declared.content.Command.{Command}
use Rattle.claims_driver.specs.Owners.{SlotHas, HasRun, Described, QueueHead, HasBlocks}
use Rattle.law_frame_list.specs.list_closed.Closed.{IsInFrame, IsNext}
use Rattle.mem_runs.specs.declared.slots.Slot.TheVariants as slots
use Rattle.drv_table.specs.declared.content.Command.TheVariants as unfinished
use Rattle.drv_table.specs.declared.rows.DriverRow.TheVariants as rows

pub has_run : (s : Slot) (k : ℕ) → SlotHas s k → HasRun s
has_run Empty k has = has
has_run _ k has = tt

pub frames_first : (e t count n : ℕ) → slice_get (events_of (unfinished.Iso e t count)) n ≡ Some rows.Frames → n ≡ 0
frames_first e t count zero is = refl
frames_first e t count (suc zero) is = absurd (cc)
frames_first e t count (suc (suc n)) is = absurd (cc)

pub same_number : (one two : Bool) (t u : ℕ) → Described one t ≡ Described two u → t ≡ u
same_number one two t u same = cc

pub told_command : (d : DriverContent) (m : Mem) (e : ℕ) (x : Endpoint) → (cancel_told d m e x).command ≡ d.command
told_command d m e x = either (λ (f : DriverContent). f.command ≡ d.command) (is_told x) _ d refl refl

pub link_again : (w : ℕ) → w % 32 < 8 → word_of link_rows (link_at w) ≡ w
link_again w small = by (w % 2) refl (omega arith)
  where
    by : (n : ℕ) → w % 2 ≡ n → n < 2 → word_of link_rows (link_at w) ≡ w
    by zero e below = subst (λ (k : ℕ). high_bits 5 w + (0 + (bits 2 1 w * 2 ^ 1 + (flag (k == 1) * 2 ^ 0 + 0))) ≡ w)
        (let f : 0 ≡ w / 2 ^ 0 % 2 = omega (arith, e) in f) (omega (arith, e, small))
    by (suc zero) e below =
        subst (λ (k : ℕ). high_bits 5 w + (0 + (bits 2 1 w * 2 ^ 1 + (flag (k == 1) * 2 ^ 0 + 0))) ≡ w)
        (let f : 1 ≡ w / 2 ^ 0 % 2 = omega (arith, e) in f) (omega (arith, e, small))
    by (suc (suc n)) e below = absurd (omega (arith, below))

pub no_descriptor : (e t : ℕ) (split : Bool) → QueueHead e ≡ Described split t → ⊥
no_descriptor e t split same = cc

pub dropped_at : (t i : ℕ) (ts : List Transfer) → slice_get (drop t ts) i ≡ slice_get ts (t + i)
dropped_at zero i ts = let e : i ≡ 0 + i = omega arith in ap (slice_get ts) e
dropped_at (suc t) i [] = refl
dropped_at (suc t) i (y ∷ ts) = let e : suc (t + i) ≡ suc t + i = omega arith in dropped_at t i ts ∙ ap (slice_get (y ∷ ts)) e

pub first_next : (s : Schedule) (f : ℕ) (ms : List Member) → AllByRecursion (IsInFrame s f) ms → IsNext s f (first_of ms)
first_next s f [] all = tt
first_next s f (m ∷ ms) all = all.0

pub row_is : (p : Parts) (e first count : ℕ) → p.driver.command ≡ Some (unfinished.Iso e first count) → 2 ≤ p.driver.made
    → driver_row p ≡ link_row (next_store p.driver.periodic.list)
row_is p e first count is late =
    ap (λ (o : Option Command). row_for p o) is
    ∙ ap (λ (b : Bool). if b then link_row (next_store p.driver.periodic.list) else command_row (unfinished.Iso e first count)
    p.driver.made) (le-leb 2 p.driver.made late)

pub within_by : (ss : List Slot) (b n : ℕ) (s : Slot) → slot_of ss b ≡ s → HasBlocks n s → b < length ss
within_by ss b n slots.Empty is run = absurd run
within_by ss b n (slots.Keeps r) is run = keeps_within ss b r is
within_by ss b n (slots.Lends r) is run = lends_within ss b r is

pub aligned : (list : ℕ) (w : Predecessor) → address_of list w % 4 ≡ 0
aligned list (Element f) = omega arith
aligned list (After x) = omega arith

pub none_queued : (x : Member) (xs : List Member) → ◌≡◌ {A = List Member} [] (x ∷ xs) → ⊥
none_queued x xs is = cc
