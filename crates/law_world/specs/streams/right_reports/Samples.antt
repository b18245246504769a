-- A script of a device with an IN endpoint and an OUT endpoint, one that cancels its endpoint, and reports of them, for worked rows.
use Rattle.std.specs.Prelude.{ℕ, List, [], ◌∷◌}
use Rattle.usb_base.specs.declared.commands.Cmd.TheVariants.{OpenEp, Get, Put, Cancel}
use Rattle.usb_base.specs.declared.endpoints.EndCause.TheVariants as causes
use Rattle.usb_base.specs.declared.packets.Speed.TheVariants.{High}
use Rattle.usb_base.specs.declared.reports.What.TheVariants.{Done, Halt}
use Rattle.script_types.specs.declared.devices.Item.TheVariants.{Bytes}
use Rattle.script_types.specs.declared.scripts.Script.{Script}
use Rattle.claims_report.specs.Reports.{WholeReport}
use Rattle.claims_report.specs.Samples.{script_of, commanded, line_of, report_of, sender, receiver, bulk}

-- one packet is to come, and one is to go
abbrev pub both_ways : Script
both_ways = record {
  words = 2048;
  hubs = [];
  devices = record {
    addr = 3;
    speed = High;
    eps = record { desc = bulk sender; items = Bytes (1 ∷ 2 ∷ []) ∷ []; room = 0; stuff = 0; clears = 0 } ∷ record { desc = bulk receiver; items = []; room = 0; stuff = 0; clears = 0 } ∷ [];
  } ∷ [];
  endpoints = sender ∷ receiver ∷ [];
  fates = [];
  holds = [];
  lines = commanded 5 (OpenEp (bulk sender)) ∷ commanded 6 (OpenEp (bulk receiver)) ∷ commanded 7 (Get sender 2 20480) ∷ commanded 8 (Put receiver (9 ∷ []) 20480) ∷ [];
  version = 1;
  frames = 1024;
  park = 0;
  roots = [];
  classics = [];
  disks = [];
}

-- both are told to be done: what came, and what went; none tells that it was taken
abbrev pub told_by : List ℕ → WholeReport
told_by store = report_of (line_of sender Done 0 2 ∷ line_of receiver Done 2 1 ∷ []) store []

-- a get of two bytes, and the endpoint is cancelled
abbrev pub cancelling : Script
cancelling = script_of (bulk sender) (Bytes (1 ∷ 2 ∷ []) ∷ []) (commanded 6 (Get sender 2 20480) ∷ commanded 7 (Cancel sender) ∷ [])

-- its line tells how many bytes had come
abbrev pub halted_by : List ℕ → ℕ → WholeReport
halted_by store len = report_of (line_of sender (Halt causes.Cancel) 0 len ∷ []) store []
