-- Scripts that make requests to the hub of a scanner, and a queue that sets one up, for worked rows.
--     asks_line setup          the line that makes the request of these setup bytes to the hub 9
--     asked setup              the scanner's script, which opens endpoint 0 of its hub first and makes this request
--     setup_at bytes pid       the structures of a queue head with one active qTD of this PID code, whose buffer has these bytes
use Rattle.std.specs.Prelude.{ℕ, true, List, [], ◌∷◌, Some}
use Rattle.usb_base.specs.declared.commands.Cmd.TheVariants as commands
use Rattle.script_types.specs.declared.scripts.Line.{Line}
use Rattle.script_types.specs.declared.scripts.Line.TheVariants as lines
use Rattle.script_types.specs.declared.scripts.Script.{Script}
use Rattle.qh_qtd.specs.Blank.{blank_token, blank_qtd}
use Rattle.qh_qtd.specs.declared.qtd.Qtd.{Qtd}
use Rattle.law_structures.specs.lent_structures.Structures.{Element, Buffer, Structures, with_structure}
use Rattle.law_queues.specs.whole_sends.Samples.{pages, no_part}
use Rattle.law_reports.specs.pipes.below_hubs.Samples.{sheet, sheet_name, scanner, hub_control}

abbrev pub asks_line : List ℕ → Line
asks_line setup = lines.Command (commands.Control hub_control.name setup [])

abbrev pub asked : List ℕ → Script
asked setup = record scanner {
  lines = (5, lines.Command (commands.OpenEp hub_control))
      ∷ (6, asks_line setup)
      ∷ (7, lines.Command (commands.OpenEp (sheet (Some 9) 4)))
      ∷ (8, lines.Command (commands.Get sheet_name 16 512))
      ∷ [];
}

abbrev pub element : ℕ → Qtd
element pid = record blank_qtd { token = record blank_token { active = true; cerr = 3; total = 8; pid = pid }; offset = 512 }

abbrev pub setup_at : List ℕ → ℕ → Structures
setup_at bytes pid = with_structure (with_structure no_part 128 (Element (element pid))) 512 (Buffer pages 512 bytes)
