-- What is given back of transfers with qTDs and of endpoints with a queue head (EHCI 1.0, 4.8.2 and 4.10): their runs, and the line that
-- tells of a cancel.
use Rattle.std.specs.Prelude.{ℕ, zero, ◌+◌, suc, Bool, ◌==◌, true, ◌&&◌, not, false, ◌||◌, [], List, ◌++◌, ◌∷◌, take, drop, map, Option, slice_set, Some, if◌then◌else◌, None}
use Rattle.usb_base.specs.declared.endpoints.EndCause.{EndCause}
use Rattle.usb_base.specs.declared.endpoints.EndCause.TheVariants as causes
use Rattle.usb_base.specs.declared.reports.What.TheVariants as lines
use Rattle.word_mem.specs.Memory.{Mem}
use Rattle.mem_runs.specs.Book.{holding, Holding, Book, release_run}
use Rattle.drv_table.specs.declared.content.Endpoint.{Endpoint}
use Rattle.drv_table.specs.declared.content.QtdNote.{QtdNote}
use Rattle.drv_table.specs.declared.content.Transfer.{Transfer}
use Rattle.drv_table.specs.declared.content.Turn.TheVariants as turns
use Rattle.drv_table.specs.DriverContent.{DriverContent, waits_for}
use Rattle.drv_table.specs.Harvests.{note_at, reported, bytes_now}
use Rattle.drv_table.specs.Parts.{Parts}

-- ---- what stands after an event of the leaving work

-- the runs that begin in these blocks are given back
abbrev pub free_runs : Holding → List ℕ → Holding
free_runs h [] = h
free_runs h (b ∷ bs) = free_runs (release_run h b) bs

-- the blocks of a qTD and of its buffer
abbrev pub free_qtd : Holding → ℕ → QtdNote → Holding
free_qtd h b note = free_runs h (b ∷ take note.runs note.buffer)

-- those of n qTDs from block b on
unfoldable pub free_qtds : List QtdNote → Holding → ℕ → ℕ → Holding
free_qtds notes h b zero = h
free_qtds notes h b (suc n) = free_qtds notes (free_qtd h b (note_at notes b)) (note_at notes b).next n

-- a harvested transfer was given back with these runs
abbrev pub after_transfer : Parts → ℕ → Option Transfer → Holding → Parts
after_transfer p t None h = p
after_transfer p t (Some x) h =
    record p {
      driver = record p.driver {
        book = h.book;
        transfers = slice_set p.driver.transfers t (record x { released = true });
        harvested = drop 1 p.driver.harvested;
        turn = turns.Harvest;
      };
      memory = h.memory;
    }

-- its qTDs and their buffers are Free, and hold zeros
abbrev pub freed_by : DriverContent → Holding → Option Transfer → Holding
freed_by d h None = h
freed_by d h (Some x) = free_qtds d.notes h x.first x.qtds

-- the transfer is the endpoint's, and wasn't given back
abbrev pub is_held_of : ℕ → Transfer → Bool
is_held_of e t = t.endpoint == e && not t.released

-- the blocks of each transfer of the endpoint that has some
unfoldable pub free_transfers : List QtdNote → ℕ → Holding → List Transfer → Holding
free_transfers notes e h [] = h
free_transfers notes e h (t ∷ ts) =
    free_transfers notes e (if is_held_of e t then free_qtds notes h t.first t.qtds else h) ts

-- the queue head, the qTD at the end of the queue and all transfers of the endpoint are given back
abbrev pub free_endpoint : DriverContent → ℕ → Endpoint → Holding → Holding
free_endpoint d e x h = free_transfers d.notes e (free_runs h (x.queue ∷ x.dummy ∷ [])) d.transfers

-- all bytes moved of its transfers that aren't reported, joined
unfoldable pub cancelled_bytes : List QtdNote → Mem → ℕ → ℕ → List Transfer → List ℕ
cancelled_bytes notes m e queue [] = []
cancelled_bytes notes m e queue (t ∷ ts) =
    (if waits_for e t then take t.most (bytes_now notes m queue t.first t.qtds t.left) else []) ++ cancelled_bytes notes m e queue ts

-- a cancel ended the endpoint, and nothing before
abbrev pub ended_by_cancel : Option EndCause → Bool
ended_by_cancel (Some causes.Cancel) = true
ended_by_cancel _ = false

-- a line of the report tells the release of an endpoint that is leaving; one that had ended before has no second line
abbrev pub is_told : Endpoint → Bool
is_told x = ended_by_cancel x.ended && x.cancelled && not x.gone

-- the line of the report that tells of a cancel, with the bytes that were moved and not reported
abbrev pub cancel_told : DriverContent → Mem → ℕ → Endpoint → DriverContent
cancel_told d m e x =
    if is_told x then reported d lines.Cancel x.desc.name (cancelled_bytes d.notes m e x.queue d.transfers) else d

-- a transfer of the endpoint is given back with it, and counts as reported where a line tells of the cancel
abbrev pub let_go : ℕ → Bool → Transfer → Transfer
let_go e told t = if t.endpoint == e then record t { reported = t.reported || told; released = true } else t

-- an endpoint that left the ring was given back
abbrev pub gone_with : DriverContent → ℕ → Endpoint → Bool → Book → DriverContent
gone_with d e x told book =
    record d {
      book = book;
      endpoints = slice_set d.endpoints e (record x { gone = true });
      transfers = map (let_go e told) d.transfers;
      cleared = drop 1 d.cleared;
      turn = turns.Harvest;
    }

-- what stands after the release of an endpoint that left the ring (4.8.2)
abbrev pub after_endpoint : Parts → ℕ → Option Endpoint → Parts
after_endpoint p e None = p
after_endpoint p e (Some x) =
    let h = free_endpoint p.driver e x (holding p.driver.book p.memory) in
    record p { driver = gone_with (cancel_told p.driver p.memory e x) e x (is_told x) h.book; memory = h.memory }
