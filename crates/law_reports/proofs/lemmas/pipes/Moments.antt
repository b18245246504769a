-- Each moment of each script has its streams so: before the first line nothing moved, and each event and each command leaves them so.
use Rattle.std.proofs.Common.{ℕ, List, [], ◌∷◌}
use Rattle.usb_base.specs.declared.commands.Cmd.{Cmd}
use Rattle.script_types.specs.declared.scripts.Line.{Line}
use Rattle.script_types.specs.declared.scripts.Line.TheVariants as lines
use Rattle.script_types.specs.declared.scripts.Script.{Script}
use Rattle.std.specs.List.{AllByRecursion}
use Rattle.law_world.proofs.Common.{lines_can}
use Rattle.bus_wire.specs.Bus.{Fixed, fixed_of}
use Rattle.bus_world.specs.World.{World, driver_next}
use Rattle.law_world.specs.steps.receiving_runs.Runs.{KindOfLine, IsKeptBy}
use Rattle.law_world.proofs.lemmas.steps.lemmas.receiving_runs.Runs.{holds_throughout}
use Rattle.law_world.specs.memory.Mixed.{Standing, IsMixedAt}
use Rattle.law_world.specs.memory.Opens.{OpensMixed}
use Rattle.law_world.specs.memory.Steps.{IsMixedNext, QueueStep}
use Rattle.law_world.specs.memory.Steps.{stays, harvests, returns, lends, stores, mends, begins, opens, unlinks, narrows, goes}
use Rattle.law_world.specs.memory.pipe_steps.Laws.{IsNoOpening}
use Rattle.law_world.proofs.lemmas.memory.Driving.{driver_tells_step}
use Rattle.law_scripts.proofs.lemmas.script_bytes.Texts.{a_text_spells_bytes}
use Rattle.script_fits.proofs.Texts.{spelled_fits}
use Rattle.law_world.proofs.lemmas.memory.FittingTexts.{texts_open_fitting}
use Rattle.law_world.proofs.lemmas.memory.Texts.{texts_fit}
use Rattle.law_world.proofs.lemmas.memory.Together.{lines_fit}
use Rattle.law_reports.specs.lines.Lined.{Lines}
use Rattle.law_reports.specs.lines.TellingLaws.{IsTellingNext}
use Rattle.law_reports.proofs.lemmas.lines.Driven.{driver_keeps_telling}
use Rattle.law_reports.specs.pipes.Declared.{Sides, sides_of}
use Rattle.law_reports.specs.pipes.Piped.{Heads, IsPiped, HasPiped}
use Rattle.law_reports.specs.pipes.PipedLaws.{OpensDeclared, ControllerKeepsPiped, DriverKeepsPiped, CommandKeepsPiped, ScriptsArePiped}
use Rattle.law_reports.specs.pipes.PipedLaws.{TextsArePiped}
use Rattle.law_reports.proofs.lemmas.pipes.Commanded.{commanded_piped}
use Rattle.law_reports.proofs.lemmas.pipes.Controlled.{controlled}
use Rattle.law_reports.proofs.lemmas.pipes.DeclaredOpens.{texts_declare}
use Rattle.law_reports.proofs.lemmas.pipes.Driven.{heads_left, driven}
use Rattle.law_reports.proofs.lemmas.pipes.Opened.{opened_piped}
use Rattle.law_reports.proofs.lemmas.pipes.Opening.{new_world_is_piped}

-- ---- an event of the driver

module _ (fixed : Fixed) (x : Sides) (s : Standing) (m : Lines) (h : Heads) (w : World) (k : IsPiped fixed x s m h w) where
  by_other : (t : Standing) (step : QueueStep s w (driver_next w) t) → IsNoOpening step → IsMixedAt t (driver_next w)
      → IsTellingNext s m w (driver_next w) t step → HasPiped fixed x (driver_next w)
  by_other t step other mixed next = record {
    standing = t;
    lines = next.lines;
    heads = heads_left fixed x s m h w k t;
    piped = driven fixed x s m h w k t step other mixed next;
  }

  by_step : (t : Standing) (step : QueueStep s w (driver_next w) t) → IsMixedAt t (driver_next w)
      → IsTellingNext s m w (driver_next w) t step → HasPiped fixed x (driver_next w)
  by_step t (opens at _ alike opened) mixed next =
      record { standing = t; lines = next.lines; heads = _; piped = opened_piped fixed x s m h w k at t alike opened mixed next }
  by_step t (stays _ none still) mixed next = by_other t (stays t none still) tt mixed next
  by_step t (harvests e u found due later row out) mixed next = by_other t (harvests e u found due later row out) tt mixed next
  by_step t (returns u y v row r) mixed next = by_other t (returns u y v row r) tt mixed next
  by_step t (lends b words get order out row behind) mixed next = by_other t (lends b words get order out row behind) tt mixed next
  by_step t (stores b words g is) mixed next = by_other t (stores b words g is) tt mixed next
  by_step t (mends at row) mixed next = by_other t (mends at row) tt mixed next
  by_step t (begins at row alike) mixed next = by_other t (begins at row alike) tt mixed next
  by_step t (unlinks at row) mixed next = by_other t (unlinks at row) tt mixed next
  by_step t (narrows member near row are fewer) mixed next = by_other t (narrows member near row are fewer) tt mixed next
  by_step t (goes e y d _ back is) mixed next = by_other t (goes e y d t back is) tt mixed next

pub driver_keeps_piped : DriverKeepsPiped
driver_keeps_piped fixed x w k =
    let n : IsMixedNext k.standing w (driver_next w) = driver_tells_step k.standing w k.piped.mixed in
    by_step fixed x k.standing k.lines k.heads w k.piped n.standing n.step n.mixed
    (driver_keeps_telling k.standing k.lines w n.standing n.step k.piped.mixed n.mixed k.piped.telling k.piped.going)

-- ---- the controller, and commands

pub controller_keeps_piped : ControllerKeepsPiped
controller_keeps_piped fixed x w k = record {
  standing = _;
  lines = _;
  heads = k.heads;
  piped = controlled fixed x k.standing k.lines k.heads w k.piped;
}

pub command_keeps_piped : CommandKeepsPiped
command_keeps_piped fixed x w line cmd fits declares room k = record {
  standing = k.standing;
  lines = k.lines;
  heads = k.heads;
  piped = commanded_piped fixed x k.standing k.lines k.heads w k.piped line cmd fits declares room;
}

-- ---- each moment

abbrev pub CanBe : Sides → Cmd → Type 0
CanBe x cmd = OpensMixed cmd × OpensDeclared x cmd

is_kept : (s : Script) → IsKeptBy (fixed_of s) (CanBe (sides_of s)) (HasPiped (fixed_of s) (sides_of s))
is_kept s = record {
  driver = λ w k. driver_keeps_piped (fixed_of s) (sides_of s) w k;
  controller = λ w k. controller_keeps_piped (fixed_of s) (sides_of s) w k;
  command = λ w line cmd can room k. command_keeps_piped (fixed_of s) (sides_of s) w line cmd can.0 can.1 room k;
}

line_both : (x : Sides) (line : Line) → KindOfLine OpensMixed line → KindOfLine (OpensDeclared x) line → KindOfLine (CanBe x) line
line_both x (lines.Command cmd) one two = (one, two)
line_both x _ one two = tt

pub lines_both : (x : Sides) (ls : List (ℕ × Line)) → AllByRecursion (λ l. KindOfLine OpensMixed l.1) ls
    → AllByRecursion (λ l. KindOfLine (OpensDeclared x) l.1) ls → AllByRecursion (λ l. KindOfLine (CanBe x) l.1) ls
lines_both x [] one two = tt
lines_both x (l ∷ ls) one two = (line_both x l.1 one.0 two.0, lines_both x ls one.1 two.1)

pub scripts_are_piped : ScriptsArePiped
scripts_are_piped s fit bytes fits declares k =
    holds_throughout (CanBe (sides_of s)) (HasPiped (fixed_of s) (sides_of s)) s fit
    (lines_both (sides_of s) s.lines (lines_can s.lines fits) declares) (new_world_is_piped s fit bytes) (is_kept s) k

pub texts_are_piped : TextsArePiped
texts_are_piped text s spelled =
    scripts_are_piped s (spelled_fits text s spelled) (a_text_spells_bytes text s spelled)
    (lines_fit s.lines (texts_fit text s spelled) (texts_open_fitting text s spelled)) (texts_declare text s spelled)
