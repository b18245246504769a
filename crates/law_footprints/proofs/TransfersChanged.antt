-- Each row changes the transfers in the ways of specs/Changes.antt.
use Rattle.std.proofs.Common.{◌≡◌, ℕ, zero, suc, ◌-◌, ◌==◌, Bool, true, false, cond, List, [], ◌∷◌, map, length, set, slice_get, Option, Some, None, refl, sym, subst}
use Rattle.std.proofs.lemmas.Option.{same_Some}
use Rattle.usb_base.specs.declared.endpoints.EndCause.{EndCause}
use Rattle.usb_base.specs.declared.endpoints.EpName.{EpName}
use Rattle.word_mem.specs.Memory.{Mem}
use Rattle.mem_runs.specs.Book.{Holding, holding}
use Rattle.drv_periodic_table.specs.declared.content.Removed.TheVariants as removed
use Rattle.drv_table.specs.declared.content.Command.{Command}
use Rattle.drv_table.specs.declared.content.Endpoint.{Endpoint}
use Rattle.drv_table.specs.declared.content.Transfer.{Transfer}
use Rattle.drv_table.specs.declared.rows.DriverRow.{DriverRow}
use Rattle.drv_table.specs.declared.rows.DriverRow.TheVariants as rows
use Rattle.drv_table.specs.declared.rows.Found.{Found}
use Rattle.drv_table.specs.declared.rows.Found.TheVariants as founds
use Rattle.drv_table.specs.DriverContent.{DriverContent, waits_for}
use Rattle.drv_table.specs.Harvests.{noted, end_of, is_stall}
use Rattle.drv_table.specs.Harvesting.{told_with, behind_one, behind, after_end, harvested_as, served, after_harvest}
use Rattle.drv_table.specs.Kinds.{is_iso}
use Rattle.drv_table.specs.Parts.{Parts}
use Rattle.drv_table.specs.Releases.{let_go, is_told, freed_by, after_transfer, after_endpoint}
use Rattle.drv_table.specs.Removals.{let_go_waiting, let_go_placed, after_descriptor, after_placed}
use Rattle.drv_table.specs.Rows.{after_driver_row}
use Rattle.law_footprints.specs.Changes.{TransferChange, EachPair, TransfersStep, stays, moved, told, given_back, with_endpoint}
use Rattle.law_footprints.proofs.Frame.{frame, cancel_stays}

-- ---- lists of which each element changes in ways that R has

module _ (R : Transfer → Transfer → Type 0) (alike : (x : Transfer) → R x x) where
  all_alike : (xs : List Transfer) → EachPair R xs xs
  all_alike [] = tt
  all_alike (x ∷ xs) = (alike x, all_alike xs)

  one_set : (xs : List Transfer) (t : ℕ) (x y : Transfer) → slice_get xs t ≡ Some x → R x y → EachPair R xs (set xs t y)
  one_set [] t x y here change = absurd (cc)
  one_set (v ∷ xs) zero x y here change = (subst (λ (w : Transfer). R w y) (sym (same_Some v x here)) change, all_alike xs)
  one_set (v ∷ xs) (suc t) x y here change = (alike v, one_set xs t x y here change)

  each_mapped : (g : Transfer → Transfer) → ((x : Transfer) → R x (g x)) → (xs : List Transfer) → EachPair R xs (map g xs)
  each_mapped g change [] = tt
  each_mapped g change (x ∷ xs) = (change x, each_mapped g change xs)

wider : (R S : Transfer → Transfer → Type 0) → ((x y : Transfer) → R x y → S x y)
    → (xs ys : List Transfer) → EachPair R xs ys → EachPair S xs ys
wider R S to [] [] each = tt
wider R S to (x ∷ xs) (y ∷ ys) (here, more) = (to x y here, wider R S to xs ys more)
wider R S to [] (y ∷ ys) each = absurd each
wider R S to (x ∷ xs) [] each = absurd each

along : (R : Transfer → Transfer → Type 0) → ((x y z : Transfer) → R x y → R y z → R x z)
    → (xs ys zs : List Transfer) → EachPair R xs ys → EachPair R ys zs → EachPair R xs zs
along R then [] [] [] one two = tt
along R then (x ∷ xs) (y ∷ ys) (z ∷ zs) (here, more) (next, rest) = (then x y z here next, along R then xs ys zs more rest)
along R then [] (y ∷ ys) zs one two = absurd one
along R then (x ∷ xs) [] zs one two = absurd one
along R then [] [] (z ∷ zs) one two = absurd two
along R then (x ∷ xs) (y ∷ ys) [] one two = absurd two

-- ---- lines of the report: one for a transfer that ends, and one for each request behind a stalled one

data Tells (x : Transfer) : Transfer → Type 0 where
  silent : Tells x x
  made_line : Tells x (record x { reported = true })

abbrev Lines : List Transfer → List Transfer → Type 0
Lines xs ys = EachPair (λ (x y : Transfer). Tells x y) xs ys

same_line : (x : Transfer) → Tells x x
same_line x = silent

lines_joined : (x y z : Transfer) → Tells x y → Tells y z → Tells x z
lines_joined x _ z silent more = more
lines_joined x _ _ made_line silent = made_line
lines_joined x _ _ made_line made_line = made_line

line_made : (x y : Transfer) → Tells x y → TransferChange x y
line_made x _ silent = stays
line_made x _ made_line = told

abbrev Told : DriverContent → DriverContent → Type 0
Told d new = Lines d.transfers new.transfers

silent_all : (ts : List Transfer) → Lines ts ts
silent_all ts = all_alike (λ (x y : Transfer). Tells x y) same_line ts

line_at : (ts : List Transfer) (t : ℕ) (x : Transfer) → slice_get ts t ≡ Some x → Lines ts (set ts t (record x { reported = true }))
line_at ts t x here = one_set (λ (x y : Transfer). Tells x y) same_line ts t x (record x { reported = true }) here made_line

lines_after : (xs ys zs : List Transfer) → Lines xs ys → Lines ys zs → Lines xs zs
lines_after xs ys zs one two = along (λ (x y : Transfer). Tells x y) lines_joined xs ys zs one two

either_told : (d x y : DriverContent) (b : Bool) → Told d x → Told d y → Told d (cond b x y)
either_told d x y true this that = this
either_told d x y false this that = that

one_behind : (d : DriverContent) (e : ℕ) (name : EpName) (k : ℕ) (o : Option Transfer) → slice_get d.transfers k ≡ o
    → Told d (behind_one d e name k o)
one_behind d e name k None here = silent_all d.transfers
one_behind d e name k (Some x) here = either_told d _ d (waits_for e x) (line_at d.transfers k x here) (silent_all d.transfers)

all_behind : (d : DriverContent) (e : ℕ) (name : EpName) (k n : ℕ) → Told d (behind d e name k n)
unfolding behind
all_behind d e name k zero = silent_all d.transfers
all_behind d e name k (suc n) =
    let next = behind_one d e name k (slice_get d.transfers k) in
    lines_after d.transfers next.transfers (behind next e name (suc k) n).transfers
    (one_behind d e name k (slice_get d.transfers k) refl) (all_behind next e name (suc k) n)

ended : (d : DriverContent) (e t : ℕ) (x : Endpoint) (stall : Bool) (o : Option EndCause) → Told d (after_end d e t x stall o)
ended d e t x stall (Some cause) = silent_all d.transfers
ended d e t x true None = all_behind _ e x.desc.name (suc t) (length d.transfers - suc t)
ended d e t x false None = silent_all d.transfers

-- ---- a harvest

abbrev Goes : DriverContent → DriverContent → Type 0
Goes d new = TransfersStep d.transfers new.transfers

all_stay : (ts : List Transfer) → TransfersStep ts ts
all_stay ts = all_alike (λ (x y : Transfer). TransferChange x y) (λ (x : Transfer). stays) ts

each_changed : (g : Transfer → Transfer) → ((x : Transfer) → TransferChange x (g x)) → (ts : List Transfer) → TransfersStep ts (map g ts)
each_changed g change ts = each_mapped (λ (x y : Transfer). TransferChange x y) (λ (x : Transfer). stays) g change ts

change_at : (ts : List Transfer) (t : ℕ) (x y : Transfer) → slice_get ts t ≡ Some x → TransferChange x y → TransfersStep ts (set ts t y)
change_at ts t x y here change = one_set (λ (x y : Transfer). TransferChange x y) (λ (x : Transfer). stays) ts t x y here change

either : (d x y : DriverContent) (b : Bool) → Goes d x → Goes d y → Goes d (cond b x y)
either d x y true this that = this
either d x y false this that = that

read : (d : DriverContent) (m : Mem) (e t : ℕ) (x : Endpoint) (y : Transfer) (found : Found) → slice_get d.transfers t ≡ Some y
    → Goes d (harvested_as d m e t x y found)
read d m e t x y founds.Active here = all_stay d.transfers
read d m e t x y (founds.Moved n) here = change_at d.transfers t y _ here (moved _ _)
read d m e t x y (founds.Served errors) here = change_at d.transfers t y _ here told
read d m e t x y (founds.Ended n what) here =
    let line = told_with d m t y what x.desc.name (noted d.notes y.place n) in
    let done = after_end line e t x (is_stall what) (end_of x.desc.kind what) in
    wider (λ (x y : Transfer). Tells x y) (λ (x y : Transfer). TransferChange x y) line_made d.transfers done.transfers
    (lines_after d.transfers line.transfers done.transfers (line_at d.transfers t y here)
    (ended line e t x (is_stall what) (end_of x.desc.kind what)))

harvested : (d : DriverContent) (m : Mem) (e t : ℕ) (found : Found) (o : Option Endpoint) (q : Option Transfer)
    → slice_get d.transfers t ≡ q → Goes d (after_harvest d m e t found o q)
harvested d m e t found (Some x) (Some y) here =
    either d (served (harvested_as d m e t x y found) e) d (waits_for e y) (read d m e t x y found here) (all_stay d.transfers)
harvested d m e t found o q here = all_stay d.transfers

-- ---- what is given back

chosen : (x y z : Transfer) (b : Bool) → TransferChange x y → TransferChange x z → TransferChange x (cond b y z)
chosen x y z true this that = this
chosen x y z false this that = that

goes_with : (e : ℕ) (line : Bool) (x : Transfer) → TransferChange x (let_go e line x)
goes_with e line x = chosen x _ x (x.endpoint == e) (with_endpoint line) stays

waits_with : (e : ℕ) (line : Bool) (x : Transfer) → TransferChange x (let_go_waiting e line x)
waits_with e line x = chosen x _ x (waits_for e x) (with_endpoint line) stays

leaves_with : (iso : Bool) (e : ℕ) (line : Bool) (x : Transfer) → TransferChange x (let_go_placed iso e line x)
leaves_with true e line x = waits_with e line x
leaves_with false e line x = goes_with e line x

endpoint_gone : (p : Parts) (e : ℕ) (o : Option Endpoint) → Goes p.driver (after_endpoint p e o).driver
endpoint_gone p e None = all_stay p.driver.transfers
endpoint_gone p e (Some x) =
    let go = let_go e (is_told x) in
    subst (λ (d : DriverContent). TransfersStep p.driver.transfers (map go d.transfers)) (sym (cancel_stays p.driver p.memory e x))
    (each_changed go (goes_with e (is_told x)) p.driver.transfers)

placed_gone : (p : Parts) (e : ℕ) (o : Option Endpoint) → Goes p.driver (after_placed p e o).driver
placed_gone p e None = all_stay p.driver.transfers
placed_gone p e (Some x) =
    let go = let_go_placed (is_iso x.desc.kind) e (is_told x) in
    subst (λ (d : DriverContent). TransfersStep p.driver.transfers (map go d.transfers)) (sym (cancel_stays p.driver p.memory e x))
    (each_changed go (leaves_with (is_iso x.desc.kind) e (is_told x)) p.driver.transfers)

transfer_freed : (p : Parts) (t : ℕ) (o : Option Transfer) (h : Holding) → slice_get p.driver.transfers t ≡ o
    → Goes p.driver (after_transfer p t o h).driver
transfer_freed p t None h here = all_stay p.driver.transfers
transfer_freed p t (Some x) h here = change_at p.driver.transfers t x _ here given_back

descriptor_freed : (p : Parts) (t : ℕ) (o : Option Transfer) → slice_get p.driver.transfers t ≡ o
    → Goes p.driver (after_descriptor p t o).driver
descriptor_freed p t None here = all_stay p.driver.transfers
descriptor_freed p t (Some x) here = change_at p.driver.transfers t x _ here given_back

-- ---- any event

pub transfers_step : (row : DriverRow) (p : Parts) (o : Option Command) → p.driver.command ≡ o
    → TransfersStep p.driver.transfers (after_driver_row row p).driver.transfers
transfers_step (rows.Harvest e t found) p o is =
    harvested p.driver p.memory e t found (slice_get p.driver.endpoints e) (slice_get p.driver.transfers t) refl
transfers_step (rows.ReleaseTransfer t) p o is =
    let x = slice_get p.driver.transfers t in
    transfer_freed p t x (freed_by p.driver (holding p.driver.book p.memory) x) refl
transfers_step (rows.ReleaseEndpoint e) p o is = endpoint_gone p e (slice_get p.driver.endpoints e)
transfers_step (rows.ReleaseRemoved (removed.Descriptor t)) p o is = descriptor_freed p t (slice_get p.driver.transfers t) refl
transfers_step (rows.ReleaseRemoved (removed.Endpoint e)) p o is = placed_gone p e (slice_get p.driver.endpoints e)
transfers_step row p o is =
    subst (λ (q : Parts). TransfersStep p.driver.transfers q.driver.transfers) (sym (frame row p o is)) (all_stay p.driver.transfers)
