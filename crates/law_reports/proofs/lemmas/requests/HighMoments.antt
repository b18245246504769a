-- At each moment of each script the requests of its control endpoints at high speed stand as they must.
use Rattle.std.proofs.Common.{ℕ, List, [], ◌∷◌}
use Rattle.std.specs.List.{AllByRecursion}
use Rattle.usb_base.specs.declared.commands.Cmd.{Cmd}
use Rattle.script_types.specs.declared.scripts.Line.{Line}
use Rattle.script_types.specs.declared.scripts.Line.TheVariants as lines
use Rattle.script_types.specs.declared.scripts.Script.{Script}
use Rattle.script_text.specs.Faults.{Spells}
use Rattle.script_fits.proofs.Texts.{spelled_fits}
use Rattle.bus_wire.specs.Bus.{fixed_of}
use Rattle.claims_report.specs.Requests.{Request}
use Rattle.claims_world.specs.Requests.{Windows}
use Rattle.bus_world.specs.World.{World}
use Rattle.law_scripts.specs.byte_answers.Bytes.{IsByteCommand, IsByteLine, IsByteScript}
use Rattle.law_scripts.proofs.lemmas.script_bytes.Texts.{a_text_spells_bytes}
use Rattle.law_world.proofs.Common.{lines_can}
use Rattle.law_world.specs.memory.Opens.{OpensMixed}
use Rattle.law_world.specs.steps.receiving_runs.Runs as runs
use Rattle.law_world.proofs.lemmas.memory.FittingTexts.{texts_open_fitting}
use Rattle.law_world.proofs.lemmas.memory.Texts.{texts_fit}
use Rattle.law_world.proofs.lemmas.memory.Together.{lines_fit}
use Rattle.law_reports.specs.pipes.Declared.{sides_of as pipes_of}
use Rattle.law_reports.specs.pipes.PipedLaws.{OpensDeclared}
use Rattle.law_reports.proofs.lemmas.pipes.DeclaredOpens.{texts_declare}
use Rattle.law_reports.specs.requests.world_requests.Along.{KindOfLine}
use Rattle.law_reports.proofs.lemmas.requests.lemmas.world_requests.Along.{holds_with_windows}
use Rattle.law_reports.specs.requests.HighAsking.{SuitsCommand, HasHighAsks}
use Rattle.law_reports.specs.requests.HighGiven.{high_sides_of, SuitsLine}
use Rattle.law_reports.specs.requests.HighLaws.{TextsHaveHighAsks}
use Rattle.law_reports.proofs.lemmas.requests.HighController.{controller_keeps_high_asks}
use Rattle.law_reports.proofs.lemmas.requests.HighGiven.{texts_suit}
use Rattle.law_reports.proofs.lemmas.requests.HighOpening.{new_world_high_asks}
use Rattle.law_reports.proofs.lemmas.requests.HighWorld.{driver_keeps_high_asks, command_keeps_high_asks}

pub record CanHigh (s : Script) (cmd : Cmd) : Type 0 where
  pub fits : OpensMixed cmd
  pub declares : OpensDeclared (pipes_of s) cmd
  pub suits : SuitsCommand (high_sides_of s) cmd
  pub bytes : IsByteCommand cmd

line_high : (s : Script) (line : Line) → runs.KindOfLine OpensMixed line → runs.KindOfLine (OpensDeclared (pipes_of s)) line
    → SuitsLine (high_sides_of s) line → IsByteLine line → KindOfLine (CanHigh s) line
line_high s (lines.Command cmd) fits declares suits bytes = record { fits = fits; declares = declares; suits = suits; bytes = bytes }
line_high s _ fits declares suits bytes = tt

lines_high : (s : Script) (ls : List (ℕ × Line)) → AllByRecursion (λ l. runs.KindOfLine OpensMixed l.1) ls
    → AllByRecursion (λ l. runs.KindOfLine (OpensDeclared (pipes_of s)) l.1) ls → AllByRecursion (λ l. SuitsLine (high_sides_of s) l.1) ls
    → AllByRecursion (λ l. IsByteLine l.1) ls → AllByRecursion (λ l. KindOfLine (CanHigh s) l.1) ls
lines_high s [] fits declares suits bytes = tt
lines_high s (l ∷ ls) fits declares suits bytes =
    (line_high s l.1 fits.0 declares.0 suits.0 bytes.0, lines_high s ls fits.1 declares.1 suits.1 bytes.1)

-- each line of a text
pub high_lines : (text : List ℕ) (s : Script) → Spells text s → AllByRecursion (λ l. KindOfLine (CanHigh s) l.1) s.lines
high_lines text s spelled =
    lines_high s s.lines (lines_can s.lines (lines_fit s.lines (texts_fit text s spelled) (texts_open_fitting text s spelled)))
    (texts_declare text s spelled) (texts_suit text s spelled) (a_text_spells_bytes text s spelled).lines

pub texts_have_high_asks : TextsHaveHighAsks
texts_have_high_asks text s spelled n =
    let bytes : IsByteScript s = a_text_spells_bytes text s spelled in
    holds_with_windows (CanHigh s)
    (λ (w : World) (v : Windows) (asks : ℕ → Request). HasHighAsks (high_sides_of s) (fixed_of s) (pipes_of s) v asks w) s (spelled_fits text s spelled)
    (high_lines text s spelled)
    (new_world_high_asks s (high_sides_of s) (spelled_fits text s spelled) bytes (λ addr num c first. first))
    (record {
      driver = λ w v asks h. driver_keeps_high_asks (high_sides_of s) (fixed_of s) (pipes_of s) v asks w h;
      controller = λ w v asks h. controller_keeps_high_asks (high_sides_of s) (fixed_of s) (pipes_of s) v asks w (λ speed on. on) h;
      command = λ w line cmd v asks can room h.
          command_keeps_high_asks (high_sides_of s) (fixed_of s) (pipes_of s) v asks w line cmd can.fits can.declares can.suits can.bytes
          room h;
    }) n
