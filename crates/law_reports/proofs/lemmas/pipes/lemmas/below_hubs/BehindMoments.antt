-- The OUT endpoints with a stream below hubs stand as they must at each moment of each script.
use Rattle.std.proofs.Common.{◌≡◌, ℕ, List, [], ◌∷◌, slice_get, Some}
use Rattle.std.specs.List.{AllByRecursion}
use Rattle.law_world.proofs.Common.{lines_can}
use Rattle.usb_base.specs.declared.commands.Cmd.{Cmd}
use Rattle.usb_base.specs.declared.packets.Way.TheVariants as ways
use Rattle.script_types.specs.declared.scripts.Line.{Line}
use Rattle.script_types.specs.declared.scripts.Line.TheVariants as lines
use Rattle.script_types.specs.declared.scripts.Script.{Script}
use Rattle.script_fits.proofs.Texts.{spelled_fits}
use Rattle.bus_wire.specs.Bus.{Fixed, fixed_of}
use Rattle.drv_table.specs.declared.content.Endpoint.{Endpoint}
use Rattle.law_scripts.proofs.lemmas.script_bytes.Texts.{a_text_spells_bytes}
use Rattle.law_world.specs.steps.receiving_runs.Runs.{KindOfLine}
use Rattle.law_world.specs.memory.Steps.{IsMixedNext}
use Rattle.law_world.specs.steps.Streaming.{wired}
use Rattle.law_world.specs.streams.put_laws.TakenLaws.{IsKeptWhile}
use Rattle.law_world.specs.streams.put_laws.TakenPuts.{no_puts}
use Rattle.law_world.proofs.lemmas.memory.Driving.{driver_tells_step}
use Rattle.law_world.proofs.lemmas.memory.FittingTexts.{texts_open_fitting}
use Rattle.law_world.proofs.lemmas.memory.Texts.{texts_fit}
use Rattle.law_world.proofs.lemmas.memory.Together.{lines_fit}
use Rattle.law_world.proofs.lemmas.streams.lemmas.put_laws.Along.{holds_while}
use Rattle.law_reports.specs.lines.Lined.{Lines}
use Rattle.law_reports.specs.lines.TellingLaws.{IsTellingNext}
use Rattle.law_reports.proofs.lemmas.lines.Driven.{driver_keeps_telling}
use Rattle.law_reports.specs.pipes.Declared.{Sides, sides_of}
use Rattle.law_reports.specs.pipes.Piped.{Heads, IsPiped}
use Rattle.law_reports.specs.pipes.puts.Paid.{Pays, HasPaid}
use Rattle.law_reports.specs.pipes.below_hubs.Behind.{Spots, IsBehind, HasBehind}
use Rattle.law_reports.specs.pipes.below_hubs.BehindLaws.{WorldFindsNoneTold, OpensSpot, ControllerKeepsBehind, DriverKeepsBehind}
use Rattle.law_reports.specs.pipes.below_hubs.BehindLaws.{CommandKeepsBehind}
use Rattle.law_reports.specs.pipes.below_hubs.BehindLaws.{spots_of, OpensUnsent, NewWorldIsBehind, ScriptsAreBehind, TextsAreBehind}
use Rattle.law_reports.proofs.lemmas.pipes.Commanded.{commanded_piped}
use Rattle.law_reports.proofs.lemmas.pipes.Controlled.{controlled}
use Rattle.law_reports.proofs.lemmas.pipes.DeclaredOpens.{texts_declare}
use Rattle.law_reports.proofs.lemmas.pipes.Driven.{heads_left, driven}
use Rattle.law_reports.proofs.lemmas.pipes.Moments.{lines_both}
use Rattle.law_reports.proofs.lemmas.pipes.Opened.{heads_opened, opened_piped}
use Rattle.law_reports.proofs.lemmas.pipes.Opening.{none_left}
use Rattle.law_reports.proofs.lemmas.pipes.lemmas.below_hubs.BehindCommanded.{commanded_behind}
use Rattle.law_reports.proofs.lemmas.pipes.lemmas.below_hubs.BehindControlled.{controlled_behind}
use Rattle.law_reports.proofs.lemmas.pipes.lemmas.below_hubs.BehindDriven.{driver_leaves_behind}
use Rattle.law_reports.proofs.lemmas.pipes.lemmas.below_hubs.BelowTexts.{texts_open_spots}
use Rattle.law_reports.proofs.lemmas.pipes.lemmas.puts.Commanded.{commanded_pays}
use Rattle.law_reports.proofs.lemmas.pipes.lemmas.puts.DrivenPays.{driven_pays}
use Rattle.law_reports.proofs.lemmas.pipes.lemmas.puts.Event.{controlled_pays}
use Rattle.law_reports.proofs.lemmas.pipes.lemmas.puts.PaidMoments.{CanBePaid, lines_paid, new_world_is_paid}
use Rattle.bus_world.specs.Opening.{opening_world}
use Rattle.bus_world.specs.World.{World, driver_next}
use Rattle.law_world.specs.memory.Mixed.{Standing, IsMixedAt}
use Rattle.law_world.specs.memory.Steps.{QueueStep, stays, harvests, returns, lends, stores, mends, begins, opens, unlinks, narrows, goes}
use Rattle.law_world.specs.memory.pipe_steps.Laws.{IsNoOpening}
use Rattle.law_reports.proofs.lemmas.pipes.lemmas.below_hubs.FreshStarts.{texts_find_none_told}

-- ---- each event and each command

pub controller_keeps_behind : ControllerKeepsBehind
controller_keeps_behind fixed x o puts w finds k = record {
  standing = _;
  lines = _;
  heads = k.heads;
  piped = controlled fixed x k.standing k.lines k.heads w k.piped;
  pays = controlled_pays fixed x k.standing k.lines k.heads puts w k.piped k.pays;
  behind = controlled_behind fixed x o k.standing k.lines k.heads puts w k.piped k.pays k.behind finds;
}

module _ (fixed : Fixed) (x : Sides) (o : Spots) (s : Standing) (m : Lines) (h : Heads) (puts : ℕ → List ℕ) (w : World)
    (k : IsPiped fixed x s m h w) (pays : Pays fixed x s m puts w) (b : IsBehind fixed o s m puts w) where
  by_other : (t : Standing) (step : QueueStep s w (driver_next w) t) → IsNoOpening step → IsMixedAt t (driver_next w)
      → IsTellingNext s m w (driver_next w) t step → HasBehind fixed x o puts (driver_next w)
  by_other t step other mixed next = record {
    standing = t;
    lines = next.lines;
    heads = heads_left fixed x s m h w k t;
    piped = driven fixed x s m h w k t step other mixed next;
    pays = driven_pays fixed x s m h puts w k pays t step mixed next;
    behind = driver_leaves_behind fixed x o s m h puts w k pays b t step mixed next;
  }

  by_step : (t : Standing) (step : QueueStep s w (driver_next w) t) → IsMixedAt t (driver_next w)
      → IsTellingNext s m w (driver_next w) t step → HasBehind fixed x o puts (driver_next w)
  by_step t (opens at _ alike opened) mixed next = record {
    standing = t;
    lines = next.lines;
    heads = heads_opened fixed x s m h w k at t alike opened mixed next;
    piped = opened_piped fixed x s m h w k at t alike opened mixed next;
    pays = driven_pays fixed x s m h puts w k pays t (opens at t alike opened) mixed next;
    behind = driver_leaves_behind fixed x o s m h puts w k pays b t (opens at t alike opened) mixed next;
  }
  by_step t (stays _ none still) mixed next = by_other t (stays t none still) tt mixed next
  by_step t (harvests e u found due later row out) mixed next = by_other t (harvests e u found due later row out) tt mixed next
  by_step t (returns u y v row r) mixed next = by_other t (returns u y v row r) tt mixed next
  by_step t (lends q words get order out row after) mixed next = by_other t (lends q words get order out row after) tt mixed next
  by_step t (stores q words g is) mixed next = by_other t (stores q words g is) tt mixed next
  by_step t (mends at row) mixed next = by_other t (mends at row) tt mixed next
  by_step t (begins at row alike) mixed next = by_other t (begins at row alike) tt mixed next
  by_step t (unlinks at row) mixed next = by_other t (unlinks at row) tt mixed next
  by_step t (narrows member near row are fewer) mixed next = by_other t (narrows member near row are fewer) tt mixed next
  by_step t (goes e y d _ back is) mixed next = by_other t (goes e y d t back is) tt mixed next

pub driver_keeps_behind : DriverKeepsBehind
driver_keeps_behind fixed x o puts w k =
    let n : IsMixedNext k.standing w (driver_next w) = driver_tells_step k.standing w k.piped.mixed in
    by_step fixed x o k.standing k.lines k.heads puts w k.piped k.pays k.behind n.standing n.step n.mixed
    (driver_keeps_telling k.standing k.lines w n.standing n.step k.piped.mixed n.mixed k.piped.telling k.piped.going)

pub command_keeps_behind : CommandKeepsBehind
command_keeps_behind fixed x o puts w line cmd fits declares spotted bytes room k = record {
  standing = k.standing;
  lines = k.lines;
  heads = k.heads;
  piped = commanded_piped fixed x k.standing k.lines k.heads w k.piped line cmd fits declares room;
  pays = commanded_pays fixed x k.standing k.lines k.heads puts w k.piped k.pays line cmd fits declares bytes room;
  behind = commanded_behind fixed x o k.standing k.lines k.heads puts w k.piped k.pays k.behind line cmd fits declares spotted room;
}

-- ---- each moment

pub none_there : (s : Script) (e : ℕ) (y : Endpoint) → slice_get (opening_world s).driver.endpoints e ≡ Some y → ⊥
none_there s e y here = cc

pub new_behind : (s : Script) (st : Standing) (m : Lines) → OpensUnsent s
    → IsBehind (fixed_of s) (spots_of s) st m no_puts (opening_world s)
new_behind s st m unsent = record {
  ins = λ e y here there way. absurd (none_there s e y here);
  first = tt;
  spots = λ e y here. absurd (none_there s e y here);
  hubs = λ hub port i place at. at;
  met = λ e y here way on is_met. absurd (none_there s e y here);
  fresh = λ addr ep on unused. unsent addr ep on;
  left = none_left s m.acc ways.Out (spots_of s).has _;
}

pub new_world_is_behind : NewWorldIsBehind
new_world_is_behind s fit bytes unsent =
    let p : HasPaid (fixed_of s) (sides_of s) no_puts (opening_world s) = new_world_is_paid s fit bytes in
    record {
      standing = p.standing;
      lines = p.lines;
      heads = p.heads;
      piped = p.piped;
      pays = p.pays;
      behind = new_behind s p.standing p.lines unsent;
    }

abbrev pub CanBeBehind : Sides → Spots → Cmd → Type 0
CanBeBehind x o cmd = CanBePaid x cmd × OpensSpot o cmd

-- what a command can be, and what it opens
kind_both : (A B : Cmd → Type 0) (line : Line) → KindOfLine A line → KindOfLine B line → KindOfLine (λ cmd. A cmd × B cmd) line
kind_both A B (lines.Command cmd) can one = (can, one)
kind_both A B _ can one = tt

pub kinds_both : (A B : Cmd → Type 0) (ls : List (ℕ × Line)) → AllByRecursion (λ l. KindOfLine A l.1) ls
    → AllByRecursion (λ l. KindOfLine B l.1) ls → AllByRecursion (λ l. KindOfLine (λ cmd. A cmd × B cmd) l.1) ls
kinds_both A B [] can ones = tt
kinds_both A B (l ∷ ls) can ones = (kind_both A B l.1 can.0 ones.0, kinds_both A B ls can.1 ones.1)

is_kept : (s : Script)
    → IsKeptWhile (fixed_of s) (CanBeBehind (sides_of s) (spots_of s)) (λ w. WorldFindsNoneTold (wired (fixed_of s) w) w)
    (λ w puts. HasBehind (fixed_of s) (sides_of s) (spots_of s) puts w)
is_kept s = record {
  driver = λ w puts k. driver_keeps_behind (fixed_of s) (sides_of s) (spots_of s) puts w k;
  controller = λ w puts finds k. controller_keeps_behind (fixed_of s) (sides_of s) (spots_of s) puts w finds k;
  command = λ w line cmd puts can room k.
      command_keeps_behind (fixed_of s) (sides_of s) (spots_of s) puts w line cmd can.0.0.0 can.0.0.1 can.1 can.0.1 room k;
}

pub scripts_are_behind : ScriptsAreBehind
scripts_are_behind s fit bytes fits declares spots unsent finds k =
    holds_while (CanBeBehind (sides_of s) (spots_of s)) (λ w. WorldFindsNoneTold (wired (fixed_of s) w) w) (λ w puts. HasBehind
    (fixed_of s) (sides_of s) (spots_of s) puts w) s fit
    (kinds_both (CanBePaid (sides_of s)) (OpensSpot (spots_of s)) s.lines
    (lines_paid (sides_of s) s.lines (lines_both (sides_of s) s.lines (lines_can s.lines fits) declares) bytes.lines) spots)
    (new_world_is_behind s fit bytes unsent) (is_kept s) k (λ j low. finds j)

pub texts_are_behind : TextsAreBehind
texts_are_behind text s spelled =
    let t = texts_open_spots text s spelled in
    scripts_are_behind s (spelled_fits text s spelled) (a_text_spells_bytes text s spelled)
    (lines_fit s.lines (texts_fit text s spelled) (texts_open_fitting text s spelled)) (texts_declare text s spelled) t.0 t.1
    (texts_find_none_told text s spelled)
