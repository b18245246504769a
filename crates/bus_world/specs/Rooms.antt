-- The room that a driver needs for the commands of a script: what each command uses, accepted or refused.
--     needs cmd             what a command uses
--     reserve_of lines      the room for all commands of these lines
--     rules_of s            what the frame list, the placements and the visits follow, by the version of the language
--     room_of_script s      the room for all commands of a script
--     HasRoomFor room r     there is as much room as r, in each of its numbers
use Rattle.std.specs.Prelude.{ℕ, ◌+◌, ◌*◌, ◌≤◌, nat_eq, nat_le, List, [], ◌∷◌, length, if◌then◌else◌}
use Rattle.usb_base.specs.declared.commands.Cmd.{Cmd}
use Rattle.usb_base.specs.declared.commands.Cmd.TheVariants as commands
use Rattle.usb_base.specs.Limits.{longest_qtd}
use Rattle.script_types.specs.declared.scripts.Line.{Line}
use Rattle.script_types.specs.declared.scripts.Line.TheVariants as lines
use Rattle.drv_table.specs.declared.content.Reserve.{Reserve}
use Rattle.drv_table.specs.Words.{request_length}
use Rattle.usb_base.specs.declared.rules.Rules.{Rules}
use Rattle.usb_base.specs.Rules.{first_rules}
use Rattle.script_types.specs.declared.scripts.Script.{Script}

abbrev pub no_room : Reserve
no_room = record { endpoints = 0; transfers = 0; reports = 0; report_bytes = 0; rules = first_rules }

-- A transfer has one line of the report, with all its bytes; a longer one than 20,480 bytes is refused.
abbrev pub transfer_room : ℕ → Reserve
transfer_room n = record { endpoints = 0; transfers = 1; reports = 1; report_bytes = if nat_le n longest_qtd then n else 0; rules = first_rules }

-- A descriptor has one line of the report; its slots have at most 8 times 3,072 bytes.
abbrev pub iso_room : ℕ → Reserve
iso_room n = record { endpoints = 0; transfers = n; reports = n; report_bytes = 24576 * n; rules = first_rules }

abbrev pub needs : Cmd → Reserve
needs (commands.OpenEp desc) = record no_room { endpoints = 1; reports = 1 }
needs (commands.Get name len by) = transfer_room len
needs (commands.Put name bytes by) = transfer_room (length bytes)
needs (commands.Control name setup bytes) = transfer_room (request_length setup)
needs (commands.Iso name count len seed) = iso_room count
needs (commands.Cancel name) = record no_room { reports = 1 }
needs (commands.Clear name) = record no_room { transfers = 1; reports = 2 }
needs _ = record no_room { reports = 1 }

abbrev pub needs_line : Line → Reserve
needs_line (lines.Command cmd) = needs cmd
needs_line _ = no_room

abbrev pub with_room : Reserve → Reserve → Reserve
with_room a b = record {
  endpoints = a.endpoints + b.endpoints;
  transfers = a.transfers + b.transfers;
  reports = a.reports + b.reports;
  report_bytes = a.report_bytes + b.report_bytes;
  rules = a.rules;
}

abbrev pub reserve_of : List (ℕ × Line) → Reserve
reserve_of [] = no_room
reserve_of (x ∷ xs) = with_room (needs_line x.1) (reserve_of xs)

-- in version 2 the worst case of bit stuffing counts
abbrev pub rules_of : Script → Rules
rules_of s = record first_rules { stuffed = nat_eq s.version 2 }

abbrev pub room_of_script : Script → Reserve
room_of_script s = record (reserve_of s.lines) { rules = rules_of s }

pub record HasRoomFor (room r : Reserve) : Type 0 where
  pub endpoints : r.endpoints ≤ room.endpoints
  pub transfers : r.transfers ≤ room.transfers
  pub reports : r.reports ≤ room.reports
  pub report_bytes : r.report_bytes ≤ room.report_bytes
