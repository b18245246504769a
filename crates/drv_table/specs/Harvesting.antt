-- The harvest (EHCI 1.0, 3.5.3, 3.6.3 and 4.10): the endpoint whose turn it is, what is found of its next transfer, and what stands after
-- it was read.
use Rattle.std.specs.Prelude.{ℕ, zero, ◌+◌, ◌-◌, suc, ◌*◌, Bool, true, nat_le, [], List, position, ◌++◌, ◌∷◌, take, length, slice_get, drop, Option, slice_set, Some, if◌then◌else◌, None, option_and_then, option_map}
use Rattle.usb_base.specs.declared.endpoints.EndCause.{EndCause}
use Rattle.usb_base.specs.declared.endpoints.EndCause.TheVariants as causes
use Rattle.usb_base.specs.declared.endpoints.EpName.{EpName}
use Rattle.usb_base.specs.declared.reports.What.{What}
use Rattle.usb_base.specs.declared.reports.What.TheVariants as lines
use Rattle.word_mem.specs.Memory.{Mem}
use Rattle.drv_periodic_table.specs.declared.content.DescriptorNote.{DescriptorNote}
use Rattle.drv_periodic_table.specs.Descriptors.{is_served, errors_in, told_bytes}
use Rattle.drv_periodic_table.specs.Periodic.{note_at as periodic_note}
use Rattle.drv_table.specs.declared.content.Endpoint.{Endpoint}
use Rattle.drv_table.specs.declared.content.Mend.{Mend}
use Rattle.drv_table.specs.declared.content.QtdNote.{QtdNote}
use Rattle.drv_table.specs.declared.content.Sort.{Sort}
use Rattle.drv_table.specs.declared.content.Sort.TheVariants as sorts
use Rattle.drv_table.specs.declared.content.Transfer.{Transfer}
use Rattle.drv_table.specs.declared.content.Turn.TheVariants as turns
use Rattle.drv_table.specs.declared.rows.DriverRow.{DriverRow}
use Rattle.drv_table.specs.declared.rows.DriverRow.TheVariants as rows
use Rattle.drv_table.specs.declared.rows.Found.{Found}
use Rattle.drv_table.specs.declared.rows.Found.TheVariants as founds
use Rattle.drv_table.specs.DriverContent.{works, DriverContent, waits_for, next_after}
use Rattle.drv_table.specs.Harvests.{found_in, note_at, end_of, token_in, moved_bytes, noted, is_stall, reported}

-- ---- harvest

-- the first endpoint with something to harvest, from number k on, and round to the first
abbrev pub worker_from : List Endpoint → ℕ → Option ℕ
worker_from xs k = option_map (λ i. k + i) (position works (drop k xs))

-- the first of two numbers that there is
abbrev pub first_of_two : Option ℕ → Option ℕ → Option ℕ
first_of_two (Some e) later = Some e
first_of_two None later = later

-- the next endpoint with something to harvest: endpoints take turns, from the place of the last one on (this program's)
abbrev pub next_worker : DriverContent → Option ℕ
next_worker d = first_of_two (worker_from d.endpoints d.place) (worker_from d.endpoints 0)

-- the slots of a descriptor
abbrev pub descriptor_found : DescriptorNote → Mem → ℕ → Found
descriptor_found note m b = if is_served note m b then founds.Served (errors_in note m b) else founds.Active

-- one token of a transfer with qTDs, the slots of a descriptor
abbrev pub found_of : DriverContent → Mem → Transfer → Sort → Found
found_of d m x sorts.Descriptor = descriptor_found (periodic_note d.periodic.notes x.first) m x.first
found_of d m x sort = found_in sort (nat_le x.left 1) (note_at d.notes x.place) (token_in m x.place)

-- what is found of a transfer that waits for its harvest at the endpoint is one event
abbrev pub reading_row : DriverContent → Mem → ℕ → ℕ → Option Transfer → Option DriverRow
reading_row d m e t None = None
reading_row d m e t (Some x) =
    if waits_for e x then Some (rows.Harvest e t (found_of d m x x.sort)) else None

-- .. of the transfer of this number, if there is one
abbrev pub transfer_row : DriverContent → Mem → ℕ → Option ℕ → Option DriverRow
transfer_row d m e None = None
transfer_row d m e (Some t) = reading_row d m e t (slice_get d.transfers t)

-- .. of the first transfer of the endpoint that isn't harvested
abbrev pub worker_row : DriverContent → Mem → Option ℕ → Option DriverRow
worker_row d m None = None
worker_row d m (Some e) = transfer_row d m e (option_and_then (λ x. x.next) (slice_get d.endpoints e))

-- the event of the harvest, if there is something to harvest
abbrev pub harvest_row : DriverContent → Mem → Option DriverRow
harvest_row d m = worker_row d m (next_worker d)

-- ---- what stands after a harvest

-- the endpoint had its turn: the next one is behind it, and the leaving work is next (this program's)
abbrev pub served : DriverContent → ℕ → DriverContent
served d e = record d { place = suc e; turn = turns.Leaving }

-- a qTD is done, and the one behind it of its transfer is next (4.10)
abbrev pub moved_on : DriverContent → ℕ → Transfer → ℕ → DriverContent
moved_on d t x moved =
    record d {
      notes = noted d.notes x.place moved;
      transfers = slice_set d.transfers t (record x { place = (note_at d.notes x.place).next; left = x.left - 1 });
    }

-- the transfer is reported with the bytes that were moved in it
abbrev pub told_with : DriverContent → Mem → ℕ → Transfer → What → EpName → List QtdNote → DriverContent
told_with d m t x what name notes =
    record (reported d what name (take x.most (moved_bytes notes m x.first x.qtds))) {
      notes = notes;
      transfers = slice_set d.transfers t (record x { reported = true });
    }

-- its blocks are to be given back, and the endpoint goes on with its next transfer
abbrev pub goes_on : DriverContent → ℕ → ℕ → Endpoint → DriverContent
goes_on d e t x =
    record d {
      harvested = d.harvested ++ t ∷ [];
      endpoints = slice_set d.endpoints e (record x { next = next_after d.transfers e t });
    }

-- the request k, queued behind a stalled one of the endpoint, ends with it
abbrev pub behind_one : DriverContent → ℕ → EpName → ℕ → Option Transfer → DriverContent
behind_one d e name k None = d
behind_one d e name k (Some x) =
    if waits_for e x then
    record (reported d (lines.Halt causes.Stall) name []) {
      transfers = slice_set d.transfers k (record x { reported = true });
      harvested = d.harvested ++ k ∷ [];
    }
    else d

-- the same of n requests from number k on, in their order
unfoldable pub behind : DriverContent → ℕ → EpName → ℕ → ℕ → DriverContent
behind d e name k zero = d
behind d e name k (suc n) = behind (behind_one d e name k (slice_get d.transfers k)) e name (suc k) n

-- The stores of a stalled endpoint, words 4 to 6 of its queue head: the overlay leads to the dummy, has no alternate, and is neither
-- active nor halted (3.6.3).
abbrev pub mends_of : Endpoint → List Mend
mends_of x =
    (record { queue = x.queue; at = 32 * x.queue + 16; value = 32 * x.dummy })
    ∷ (record { queue = x.queue; at = 32 * x.queue + 20; value = 1 })
    ∷ (record { queue = x.queue; at = 32 * x.queue + 24; value = 0 })
    ∷ []

-- a control endpoint that answered STALL: the request ends and those behind it, and the stores are owed that let it go on (3.6.3; USB 2.0,
-- 8.5.3.4)
abbrev pub stalled : DriverContent → ℕ → ℕ → Endpoint → DriverContent
stalled d e t x =
    behind
    (record d {
      harvested = d.harvested ++ t ∷ [];
      endpoints = slice_set d.endpoints e (record x { next = None });
      mends = d.mends ++ mends_of x;
    })
    e x.desc.name (suc t) (length d.transfers - suc t)

-- A descriptor is reported with the bytes of its slots, and is to be unlinked.
abbrev pub descriptor_told : DriverContent → Mem → ℕ → ℕ → Endpoint → Transfer → ℕ → DriverContent
descriptor_told d m e t x y errors =
    record (reported d (lines.Iso errors) x.desc.name (take y.most (told_bytes (periodic_note d.periodic.notes y.first) m y.first))) {
      transfers = slice_set d.transfers t (record y { reported = true });
      endpoints = slice_set d.endpoints e (record x { next = next_after d.transfers e t });
      periodic = record d.periodic { unlinks = d.periodic.unlinks ++ t ∷ [] };
    }

-- A halted endpoint that has ended keeps its blocks until it is cancelled.
abbrev pub after_end : DriverContent → ℕ → ℕ → Endpoint → Bool → Option EndCause → DriverContent
after_end d e t x stall (Some cause) = record d { endpoints = slice_set d.endpoints e (record x { ended = Some cause }) }
after_end d e t x stall None = if stall then stalled d e t x else goes_on d e t x

-- what stands after each thing that may be found of a transfer: nothing is done, a qTD or a descriptor is, or the transfer ended (3.5.3 and
-- 4.7)
abbrev pub harvested_as : DriverContent → Mem → ℕ → ℕ → Endpoint → Transfer → Found → DriverContent
harvested_as d m e t x y founds.Active = d
harvested_as d m e t x y (founds.Moved n) = moved_on d t y n
harvested_as d m e t x y (founds.Served errors) = descriptor_told d m e t x y errors
harvested_as d m e t x y (founds.Ended n what) =
    after_end (told_with d m t y what x.desc.name (noted d.notes y.place n)) e t x (is_stall what) (end_of x.desc.kind what)

-- what stands after the event of the harvest: the transfer was read, and its endpoint had its turn
abbrev pub after_harvest : DriverContent → Mem → ℕ → ℕ → Found → Option Endpoint → Option Transfer → DriverContent
after_harvest d m e t found (Some x) (Some y) = if waits_for e y then served (harvested_as d m e t x y found) e else d
after_harvest d m e t found _ _ = d
