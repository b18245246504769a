-- What the driver has (EHCI 1.0, 4.8 to 4.10). Endpoints and transfers have numbers, from 0, in the order of opening and of acceptance;
-- structures are told by the block of 32 bytes in which they begin. An interrupt or isochronous endpoint has its placement beside `desc`;
-- isochronous descriptors stand as transfers do, and the plan, the frame list and what leaves it in a record of their own.
--     DriverContent        the content
--     new_driver           what it has when it was built
--     is_same_name a b     the names are the same
--     endpoint_of d name   the number of the endpoint with this name
--     works e              the endpoint has a transfer to harvest
--     waits_for e t        the transfer is the endpoint's and isn't reported
--     busy, pending, opened, ended      what the calls of these names answer
use Rattle.std.specs.Prelude.{ℕ, suc, ◌+◌, ◌==◌, Bool, true, false, not, ◌&&◌, List, [], ◌∷◌, replicate, drop, count_by, position, slice_get, Option, Some, None, is_some, is_none, option_map, option_and_then}
use Rattle.usb_base.specs.declared.endpoints.EpName.{EpName}
use Rattle.usb_base.specs.declared.endpoints.EndCause.{EndCause}
use Rattle.usb_base.specs.declared.packets.Way.{Way}
use Rattle.usb_base.specs.declared.packets.Way.TheVariants as ways
use Rattle.usb_base.specs.declared.reports.Report.{Report}
use Rattle.mem_runs.specs.Book.{Book}
use Rattle.drv_periodic_table.specs.Periodic.{PeriodicContent, new_periodic}
use Rattle.drv_table.specs.declared.content.Reserve.{Reserve}
use Rattle.drv_table.specs.declared.content.Endpoint.{Endpoint}
use Rattle.drv_table.specs.declared.content.Transfer.{Transfer}
use Rattle.drv_table.specs.declared.content.QtdNote.{QtdNote}
use Rattle.drv_table.specs.declared.content.Mend.{Mend}
use Rattle.drv_table.specs.declared.content.Command.{Command}
use Rattle.drv_table.specs.declared.content.Turn.{Turn}
use Rattle.drv_table.specs.declared.content.Turn.TheVariants as turns
use Rattle.drv_table.specs.declared.content.Bell.{Bell}
use Rattle.drv_table.specs.declared.content.Bell.TheVariants as bells

pub record DriverContent : Type 0 where
  pub book : Book  -- its runs of blocks
  pub endpoints : List Endpoint
  pub transfers : List Transfer
  pub notes : List QtdNote  -- by block: what it knows of the qTD there
  pub command : Option Command  -- the unfinished command
  pub made : ℕ  -- how many events of it were made
  pub turn : Turn
  pub place : ℕ  -- the number of the endpoint at which the next harvest begins to look
  pub mends : List Mend  -- stores that stalled control endpoints are owed, in their order
  pub harvested : List ℕ  -- transfers whose blocks are to be given back, in the order of harvest
  pub waiting : List ℕ  -- endpoints that left the ring since the last doorbell, in the order of their stores
  pub rung : List ℕ  -- those that had left before the pending doorbell
  pub cleared : List ℕ  -- those whose Async Advance was cleared: their blocks are to be given back
  pub bell : Bell
  pub reports : List Report
  pub store : List ℕ  -- the bytes of all reports
  pub room : Reserve
  pub periodic : PeriodicContent  -- what it has of periodic endpoints alone

-- of a block with no qTD nothing is noted
abbrev pub no_note : QtdNote
no_note = record { next = 0; buffer = 0 ∷ 0 ∷ 0 ∷ 0 ∷ 0 ∷ []; runs = 0; told = 0; moved = 0 }

-- built with this room, with its book, for a memory of n blocks
abbrev pub new_driver : Book → ℕ → Reserve → DriverContent
new_driver book n room = record {
  book = book;
  endpoints = [];
  transfers = [];
  notes = replicate n no_note;
  command = None;
  made = 0;
  turn = turns.Leaving;
  place = 0;
  mends = [];
  harvested = [];
  waiting = [];
  rung = [];
  cleared = [];
  bell = bells.Quiet;
  reports = [];
  store = [];
  room = room;
  periodic = new_periodic n room.endpoints room.transfers room.rules;
}

-- ---- endpoints by name

-- the ways of two endpoints are the same (USB 2.0, 5.3.1)
abbrev pub is_same_way : Way → Way → Bool
is_same_way ways.In ways.In = true
is_same_way ways.Out ways.Out = true
is_same_way ways.Ctl ways.Ctl = true
is_same_way _ _ = false

abbrev pub is_same_name : EpName → EpName → Bool
is_same_name a b = a.addr == b.addr && a.num == b.num && is_same_way a.way b.way

abbrev pub endpoint_of : DriverContent → EpName → Option ℕ
endpoint_of d name = position (λ e. is_same_name e.desc.name name) d.endpoints

-- the endpoint with this name, if there is one
abbrev pub endpoint_named : DriverContent → EpName → Option Endpoint
endpoint_named d name = option_and_then (λ e. slice_get d.endpoints e) (endpoint_of d name)

-- ---- what waits for harvest

abbrev pub works : Endpoint → Bool
works e = is_some e.next && is_none e.ended

abbrev pub waits_for : ℕ → Transfer → Bool
waits_for e t = t.endpoint == e && not t.reported

-- the endpoint's first transfer after number t that isn't harvested
abbrev pub next_after : List Transfer → ℕ → ℕ → Option ℕ
next_after ts e t = option_map (λ i. suc t + i) (position (waits_for e) (drop (suc t) ts))

-- ---- what the calls answer

abbrev pub busy : DriverContent → Bool
busy d = is_some d.command

-- how many transfers of the endpoint with this number aren't reported yet
abbrev pub pending_of : DriverContent → Option ℕ → ℕ
pending_of d None = 0
pending_of d (Some e) = count_by (waits_for e) d.transfers

abbrev pub pending : DriverContent → EpName → ℕ
pending d name = pending_of d (endpoint_of d name)

abbrev pub opened : DriverContent → EpName → Bool
opened d name = is_some (endpoint_of d name)

abbrev pub ended : DriverContent → EpName → Option EndCause
ended d name = option_and_then (λ e. e.ended) (endpoint_named d name)
