-- What leaves the frame list (EHCI 1.0, 4.6 and 4.7): the store that unlinks a harvested descriptor, and what is given back of descriptors
-- and of periodic endpoints.
use Rattle.std.specs.Prelude.{ℕ, ◌+◌, Bool, true, ◌||◌, [], List, ◌++◌, ◌∷◌, take, slice_get, drop, map, Option, slice_set, Some, if◌then◌else◌, None}
use Rattle.word_mem.specs.Memory.{Mem}
use Rattle.mem_runs.specs.Book.{holding, Holding, Book, store}
use Rattle.drv_periodic.specs.declared.work.Store.{Store}
use Rattle.drv_periodic.specs.Periodic.{Periodic, next_store, after_store}
use Rattle.bandwidth.specs.Admission.{without}
use Rattle.drv_periodic_table.specs.declared.content.DescriptorNote.{DescriptorNote}
use Rattle.drv_periodic_table.specs.declared.content.Removed.{Removed}
use Rattle.drv_periodic_table.specs.declared.content.Removed.TheVariants as removed
use Rattle.drv_periodic_table.specs.Linking.{unlinking}
use Rattle.drv_periodic_table.specs.Periodic.{PeriodicContent, descriptor_member, note_at as periodic_note}
use Rattle.drv_table.specs.declared.content.Endpoint.{Endpoint}
use Rattle.drv_table.specs.declared.content.Transfer.{Transfer}
use Rattle.drv_table.specs.declared.content.Turn.TheVariants as turns
use Rattle.drv_table.specs.Commands.{removal_of}
use Rattle.drv_table.specs.DriverContent.{DriverContent, waits_for}
use Rattle.drv_table.specs.Kinds.{is_iso}
use Rattle.drv_table.specs.Parts.{Parts}
use Rattle.drv_table.specs.Releases.{cancel_told, free_endpoint, free_runs, is_told, let_go}

-- ---- what stands after an event of the leaving work

-- the same of a transfer that still waits for its harvest
abbrev pub let_go_waiting : ℕ → Bool → Transfer → Transfer
let_go_waiting e told t = if waits_for e t then record t { reported = t.reported || told; released = true } else t

-- of an isochronous endpoint what was reported is unlinked and given back by itself
abbrev pub let_go_placed : Bool → ℕ → Bool → Transfer → Transfer
let_go_placed iso e told t = if iso then let_go_waiting e told t else let_go e told t

-- ---- what left the frame list

-- the store of a link, where there is one
abbrev pub stored_link : Book → Mem → Option Store → Mem
stored_link k m None = m
stored_link k m (Some s) = store k m s.block s.at s.value

-- with the unlinking of the transfer's descriptor begun
abbrev pub descriptor_leaving : DriverContent → Transfer → Periodic
descriptor_leaving d x = unlinking d.periodic.list (descriptor_member d.periodic.notes x.first)

-- A descriptor has one word before it, so one store unlinks it.
abbrev pub after_unlink : Parts → ℕ → Option Transfer → Parts
after_unlink p t None = p
after_unlink p t (Some x) =
    record p {
      driver = record p.driver {
        turn = turns.Harvest;
        periodic = record p.driver.periodic {
          list = after_store (descriptor_leaving p.driver x);
          unlinks = drop 1 p.driver.periodic.unlinks;
          removals = p.driver.periodic.removals ++ removal_of (removed.Descriptor t) ∷ [];
        };
      };
      memory = stored_link p.driver.book p.memory (next_store (descriptor_leaving p.driver x));
    }

-- the blocks of a descriptor and of its buffer
abbrev pub free_descriptor : List DescriptorNote → Holding → ℕ → Holding
free_descriptor notes h b = free_runs h (b ∷ take (periodic_note notes b).runs (periodic_note notes b).buffer)

-- the first of what was unlinked is given back
abbrev pub less_removed : PeriodicContent → PeriodicContent
less_removed q = record q { removals = drop 1 q.removals }

-- what stands after the release of a descriptor that left the frame list
abbrev pub after_descriptor : Parts → ℕ → Option Transfer → Parts
after_descriptor p t None = p
after_descriptor p t (Some x) =
    let h = free_descriptor p.driver.periodic.notes (holding p.driver.book p.memory) x.first in
    record p {
      driver = record p.driver {
        book = h.book;
        transfers = slice_set p.driver.transfers t (record x { released = true });
        turn = turns.Harvest;
        periodic = less_removed p.driver.periodic;
      };
      memory = h.memory;
    }

-- the blocks of each outstanding descriptor of an isochronous endpoint
unfoldable pub free_descriptors : List DescriptorNote → ℕ → Holding → List Transfer → Holding
free_descriptors notes e h [] = h
free_descriptors notes e h (t ∷ ts) = free_descriptors notes e (if waits_for e t then free_descriptor notes h t.first else h) ts

-- what is given back with a periodic endpoint: its descriptors, or its queue head with its transfers
abbrev pub free_placed : DriverContent → ℕ → Endpoint → Holding → Holding
free_placed d e x h = if is_iso x.desc.kind then free_descriptors d.periodic.notes e h d.transfers else free_endpoint d e x h

-- its placement is taken out of the plan (USB 2.0, 5.11.3)
abbrev pub unplaced : PeriodicContent → ℕ → PeriodicContent
unplaced q e = record q { plan = without q.plan e; removals = drop 1 q.removals }

-- a periodic endpoint that left its frames was given back
abbrev pub removed_with : DriverContent → ℕ → Endpoint → Bool → Book → DriverContent
removed_with d e x told book =
    record d {
      book = book;
      endpoints = slice_set d.endpoints e (record x { gone = true });
      transfers = map (let_go_placed (is_iso x.desc.kind) e told) d.transfers;
      turn = turns.Harvest;
      periodic = unplaced d.periodic e;
    }

-- what stands after the release of a periodic endpoint
abbrev pub after_placed : Parts → ℕ → Option Endpoint → Parts
after_placed p e None = p
after_placed p e (Some x) =
    let h = free_placed p.driver e x (holding p.driver.book p.memory) in
    record p { driver = removed_with (cancel_told p.driver p.memory e x) e x (is_told x) h.book; memory = h.memory }

-- what stands after the release of what was unlinked from the frame list, a descriptor or an endpoint (4.6)
abbrev pub after_removed : Parts → Removed → Parts
after_removed p (removed.Descriptor t) = after_descriptor p t (slice_get p.driver.transfers t)
after_removed p (removed.Endpoint e) = after_placed p e (slice_get p.driver.endpoints e)
