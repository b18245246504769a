-- Which events leave the book, the unfinished command and how far it is.
use Rattle.std.proofs.Common.{◌≡◌, ℕ, zero, suc, ◌-◌, Bool, true, false, cond, nat_lt, [], ◌∷◌, ◌++◌, length, set, slice_get, Option, Some, None, ◌∙◌, refl}
use Rattle.std.specs.Prelude.{is_none}
use Rattle.usb_base.specs.declared.endpoints.EpName.{EpName}
use Rattle.usb_base.specs.declared.endpoints.EndCause.{EndCause}
use Rattle.word_mem.specs.Memory.{Mem}
use Rattle.mem_runs.specs.Book.{Book}
use Rattle.drv_periodic_table.specs.Linking.{begun_next}
use Rattle.drv_table.specs.declared.content.Endpoint.{Endpoint}
use Rattle.drv_table.specs.declared.content.Transfer.{Transfer}
use Rattle.drv_table.specs.declared.content.Command.{Command}
use Rattle.drv_table.specs.declared.content.Command.TheVariants as unfinished
use Rattle.drv_table.specs.declared.rows.Found.{Found}
use Rattle.drv_table.specs.declared.rows.Found.TheVariants as founds
use Rattle.drv_table.specs.DriverContent.{DriverContent, waits_for}
use Rattle.drv_table.specs.Harvests.{noted, is_stall, end_of}
use Rattle.drv_table.specs.Commands.{events_of, links, removes_members, leave_ring, leave_frames, no_command, finished, list_after, or_finished, linked_on, advanced_by, advance}
use Rattle.drv_table.specs.Harvesting.{served, told_with, goes_on, behind_one, behind, stalled, mends_of, after_end, harvested_as, after_harvest}
use Rattle.drv_table.specs.Releases.{cancel_told, is_told}

-- ---- the command goes on

either_book : (k : Book) (d e : DriverContent) (b : Bool) → d.book ≡ k → e.book ≡ k → (cond b d e).book ≡ k
either_book k d e true one two = one
either_book k d e false one two = two

ring_book : (d : DriverContent) (e : ℕ) (o : Option Endpoint) → (leave_ring d e o).book ≡ d.book
ring_book d e None = refl
ring_book d e (Some x) = either_book d.book _ d x.linked refl refl

frames_book : (d : DriverContent) (e : ℕ) (o : Option Endpoint) → (leave_frames d e o).book ≡ d.book
frames_book d e None = refl
frames_book d e (Some x) = either_book d.book _ d x.chained refl refl

done_book : (d : DriverContent) (c : Command) → (finished d c).book ≡ d.book
done_book d (unfinished.Unlink e b link) = ring_book (no_command d) e (slice_get d.endpoints e)
done_book d (unfinished.Unchain e) = frames_book (no_command d) e (slice_get d.endpoints e)
done_book d _ = refl

pub or_done_book : (d : DriverContent) (c : Command) → (or_finished d c).book ≡ d.book
or_done_book d c = either_book d.book (finished d c) d (is_none d.periodic.list.work) (done_book d c) refl

linked_book : (d : DriverContent) (c : Command) → (linked_on d c).book ≡ d.book
linked_book d c = or_done_book (record d { made = length (events_of c); periodic = begun_next (removes_members c) (record d.periodic { list = list_after d c }) }) c

pub later_book : (d : DriverContent) (c : Command) → (cond (links c) (linked_on d c) (finished d c)).book ≡ d.book
later_book d c = either_book d.book (linked_on d c) (finished d c) (links c) (linked_book d c) (done_book d c)

went_book : (d : DriverContent) (o : Option Command) → (advanced_by d o).book ≡ d.book
went_book d None = refl
went_book d (Some c) =
    either_book d.book (record d { made = suc d.made }) (cond (links c) (linked_on d c) (finished d c)) (nat_lt (suc d.made) (length (events_of c))) refl (later_book d c)

pub advance_book : (d : DriverContent) → (advance d).book ≡ d.book
advance_book d = went_book d d.command

-- ---- harvest

pub record SameBook (d e : DriverContent) : Type 0 where
  pub book : e.book ≡ d.book
  pub command : e.command ≡ d.command
  pub made : e.made ≡ d.made

same : (d : DriverContent) → SameBook d d
same d = record { book = refl; command = refl; made = refl }

both : (d e f : DriverContent) → SameBook d e → SameBook e f → SameBook d f
both d e f one two = record { book = two.book ∙ one.book; command = two.command ∙ one.command; made = two.made ∙ one.made }

either : (d x y : DriverContent) (b : Bool) → SameBook d x → SameBook d y → SameBook d (cond b x y)
either d x y true one two = one
either d x y false one two = two

one_behind : (d : DriverContent) (e : ℕ) (name : EpName) (k : ℕ) (o : Option Transfer) → SameBook d (behind_one d e name k o)
one_behind d e name k None = same d
one_behind d e name k (Some y) = either d _ d (waits_for e y) (record { book = refl; command = refl; made = refl }) (same d)

all_behind : (d : DriverContent) (e : ℕ) (name : EpName) (k n : ℕ) → SameBook d (behind d e name k n)
unfolding behind
all_behind d e name k zero = same d
all_behind d e name k (suc n) =
    both d (behind_one d e name k (slice_get d.transfers k)) (behind (behind_one d e name k (slice_get d.transfers k)) e name (suc k) n)
    (one_behind d e name k (slice_get d.transfers k)) (all_behind (behind_one d e name k (slice_get d.transfers k)) e name (suc k) n)

stalled_book : (d : DriverContent) (e t : ℕ) (x : Endpoint) → SameBook d (stalled d e t x)
stalled_book d e t x =
    let now = record d { harvested = d.harvested ++ t ∷ []; endpoints = set d.endpoints e (record x { next = None }); mends = d.mends ++ mends_of x } in
    both d now (stalled d e t x) (record { book = refl; command = refl; made = refl }) (all_behind now e x.desc.name (suc t) (length d.transfers - suc t))

ended_book : (d : DriverContent) (e t : ℕ) (x : Endpoint) (stall : Bool) (o : Option EndCause) → SameBook d (after_end d e t x stall o)
ended_book d e t x stall (Some cause) = record { book = refl; command = refl; made = refl }
ended_book d e t x stall None = either d (stalled d e t x) (goes_on d e t x) stall (stalled_book d e t x) (record { book = refl; command = refl; made = refl })

read_book : (d : DriverContent) (m : Mem) (e t : ℕ) (x : Endpoint) (y : Transfer) (found : Found) → SameBook d (harvested_as d m e t x y found)
read_book d m e t x y founds.Active = same d
read_book d m e t x y (founds.Ended n what) =
    let told = told_with d m t y what x.desc.name (noted d.notes y.place n) in
    both d told (after_end told e t x (is_stall what) (end_of x.desc.kind what)) (record { book = refl; command = refl; made = refl }) (ended_book told e t x (is_stall what) (end_of x.desc.kind what))
read_book d m e t x y _ = record { book = refl; command = refl; made = refl }

pub harvest_book : (d : DriverContent) (m : Mem) (e t : ℕ) (found : Found) (o : Option Endpoint) (q : Option Transfer) → SameBook d (after_harvest d m e t found o q)
harvest_book d m e t found None q = same d
harvest_book d m e t found (Some x) None = same d
harvest_book d m e t found (Some x) (Some y) =
    let read = harvested_as d m e t x y found in
    either d (served read e) d (waits_for e y) (both d read (served read e) (read_book d m e t x y found) (record { book = refl; command = refl; made = refl })) (same d)

pub told_book : (d : DriverContent) (m : Mem) (e : ℕ) (x : Endpoint) → SameBook d (cancel_told d m e x)
told_book d m e x = either d _ d (is_told x) (record { book = refl; command = refl; made = refl }) (same d)
