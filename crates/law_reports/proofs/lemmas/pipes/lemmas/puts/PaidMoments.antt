-- What the device of each OUT endpoint at high speed took begins what was put to it, at each moment; so the streams are right.
use Rattle.std.proofs.Common.{◌≡◌, ℕ, true, false, List, [], ◌∷◌, slice_get, Some, ap, ◌∙◌, ⊎_elim}
use Rattle.std.specs.Prelude.{◌⊎◌}
use Rattle.std.specs.List.{AllByRecursion, concat}
use Rattle.law_reports.proofs.Common.{none_there}
use Rattle.law_driver.proofs.Common.{out_way, get_queued}
use Rattle.law_world.proofs.Common.{lines_can, begins_all}
use Rattle.usb_base.specs.declared.commands.Cmd.{Cmd}
use Rattle.usb_base.specs.declared.endpoints.EpName.{EpName}
use Rattle.script_types.specs.declared.scripts.Line.{Line}
use Rattle.script_types.specs.declared.scripts.Line.TheVariants as lines
use Rattle.script_types.specs.declared.scripts.Script.{Script}
use Rattle.script_fits.proofs.Texts.{spelled_fits}
use Rattle.bus_wire.specs.Bus.{Fixed, fixed_of}
use Rattle.claims_base.specs.Prefix.{IsPrefix}
use Rattle.claims_driver.specs.Scripts.{receives}
use Rattle.law_world.specs.steps.receiving_runs.Runs.{KindOfLine}
use Rattle.drv_table.specs.declared.content.Command.TheVariants as unfinished
use Rattle.drv_table.specs.declared.content.Endpoint.{Endpoint}
use Rattle.drv_table.specs.DriverContent.{DriverContent}
use Rattle.law_driver.specs.queued_drivers.Queued.{queued_endpoint, queued}
use Rattle.law_driver.proofs.lemmas.queued_drivers.CommandFields.{name_same}
use Rattle.law_driver_ring.specs.fed_queues.Places.{IsThere}
use Rattle.law_ring.specs.OutBus.{Taker}
use Rattle.law_devices.specs.scripted_takers.Takers.{taker_of}
use Rattle.law_scripts.specs.byte_answers.Bytes.{IsByteCommand, IsByteLine}
use Rattle.law_scripts.proofs.lemmas.script_bytes.Texts.{a_text_spells_bytes}
use Rattle.law_world.specs.steps.Streaming.{wired}
use Rattle.law_world.specs.memory.Steps.{IsMixedNext}
use Rattle.law_world.specs.streams.put_laws.TakenLaws.{IsKeptWithPuts}
use Rattle.law_world.specs.streams.put_laws.TakenPuts.{no_puts, puts_of, puts_at}
use Rattle.law_world.proofs.lemmas.memory.Driving.{driver_tells_step}
use Rattle.law_world.proofs.lemmas.memory.FittingTexts.{texts_open_fitting}
use Rattle.law_world.proofs.lemmas.memory.Texts.{texts_fit}
use Rattle.law_world.proofs.lemmas.memory.Together.{lines_fit}
use Rattle.law_world.proofs.lemmas.streams.lemmas.put_laws.Along.{holds_with_puts}
use Rattle.law_world.proofs.lemmas.streams.lemmas.put_laws.Rests.{prefix_to}
use Rattle.law_world.proofs.lemmas.streams.lemmas.put_laws.Same.{life_or}
use Rattle.law_reports.specs.lines.Lined.{Lines}
use Rattle.law_reports.specs.lines.TellingLaws.{IsTellingNext}
use Rattle.law_reports.proofs.lemmas.lines.Driven.{driver_keeps_telling}
use Rattle.law_reports.specs.pipes.Declared.{Sides, sides_of}
use Rattle.law_reports.specs.pipes.Piped.{Heads, IsPiped, HasPiped}
use Rattle.law_reports.specs.pipes.high_streams.Reports.{IsHigh}
use Rattle.law_reports.proofs.lemmas.pipes.Commanded.{commanded_piped}
use Rattle.law_reports.proofs.lemmas.pipes.Controlled.{controlled}
use Rattle.law_reports.proofs.lemmas.pipes.DeclaredOpens.{texts_declare}
use Rattle.law_reports.proofs.lemmas.pipes.Driven.{heads_left, driven}
use Rattle.law_reports.proofs.lemmas.pipes.Moments.{CanBe, lines_both}
use Rattle.law_reports.proofs.lemmas.pipes.Names.{queue_same, kept_as}
use Rattle.law_reports.proofs.lemmas.pipes.Opened.{heads_opened, opened_piped}
use Rattle.law_reports.proofs.lemmas.pipes.Opening.{new_world_is_piped}
use Rattle.law_world.specs.memory.Mixed.{Standing, IsMixedAt}
use Rattle.law_world.specs.memory.Steps.{QueueStep, stays, harvests, returns, lends, stores, mends, begins, opens, unlinks, narrows, goes}
use Rattle.law_world.specs.memory.pipe_steps.Laws.{IsNoOpening}
use Rattle.law_reports.specs.pipes.puts.Paid.{Pays, HasPaid}
use Rattle.law_reports.specs.pipes.puts.PaidLaws.{NewWorldIsPaid, ControllerKeepsPaid, DriverKeepsPaid, CommandKeepsPaid, ScriptsArePaid}
use Rattle.law_reports.specs.pipes.puts.PaidLaws.{TextsArePaid, TextsTakeWhatWasPut, TextsSendHighOuts, TextsEndHighStreams}
use Rattle.law_reports.specs.pipes.puts.PaidLaws.{TextsKeepAllHighStreams}
use Rattle.claims_world.specs.HighStreams.{AreHighSentStreams, AreHighStreams}
use Rattle.claims_world.specs.HighStreams.{HighOutsAreSent, HighStreamsEndRight}
use Rattle.law_reports.proofs.lemmas.pipes.lemmas.high_streams.AfterRuns.{after_run, at_end, texts_keep_high_streams}
use Rattle.law_reports.proofs.lemmas.pipes.lemmas.puts.Commanded.{commanded_pays}
use Rattle.law_reports.proofs.lemmas.pipes.lemmas.puts.DrivenPays.{driven_pays}
use Rattle.law_reports.proofs.lemmas.pipes.lemmas.puts.Driving.{puts_real, none_taken}
use Rattle.law_reports.proofs.lemmas.pipes.lemmas.puts.Event.{controlled_pays, is_watched}
use Rattle.law_reports.proofs.lemmas.pipes.lemmas.puts.HighTakers.{taken_begins_streams, taken_ends_right, high_takes}
use Rattle.bus_world.specs.Budgets.{moment}
use Rattle.bus_world.specs.Opening.{opening_world}
use Rattle.bus_world.specs.World.{World, driver_next}

-- ---- each event and each command

pub controller_keeps_paid : ControllerKeepsPaid
controller_keeps_paid fixed x puts w k = record {
  standing = _;
  lines = _;
  heads = k.heads;
  piped = controlled fixed x k.standing k.lines k.heads w k.piped;
  pays = controlled_pays fixed x k.standing k.lines k.heads puts w k.piped k.pays;
}

module _ (fixed : Fixed) (x : Sides) (s : Standing) (m : Lines) (h : Heads) (puts : ℕ → List ℕ) (w : World)
    (k : IsPiped fixed x s m h w) (pays : Pays fixed x s m puts w) where
  by_other : (t : Standing) (step : QueueStep s w (driver_next w) t) → IsNoOpening step → IsMixedAt t (driver_next w)
      → IsTellingNext s m w (driver_next w) t step → HasPaid fixed x puts (driver_next w)
  by_other t step other mixed next = record {
    standing = t;
    lines = next.lines;
    heads = heads_left fixed x s m h w k t;
    piped = driven fixed x s m h w k t step other mixed next;
    pays = driven_pays fixed x s m h puts w k pays t step mixed next;
  }

  by_step : (t : Standing) (step : QueueStep s w (driver_next w) t) → IsMixedAt t (driver_next w)
      → IsTellingNext s m w (driver_next w) t step → HasPaid fixed x puts (driver_next w)
  by_step t (opens at _ alike opened) mixed next = record {
    standing = t;
    lines = next.lines;
    heads = heads_opened fixed x s m h w k at t alike opened mixed next;
    piped = opened_piped fixed x s m h w k at t alike opened mixed next;
    pays = driven_pays fixed x s m h puts w k pays t (opens at t alike opened) mixed next;
  }
  by_step t (stays _ none still) mixed next = by_other t (stays t none still) tt mixed next
  by_step t (harvests e u found due later row out) mixed next = by_other t (harvests e u found due later row out) tt mixed next
  by_step t (returns u y v row r) mixed next = by_other t (returns u y v row r) tt mixed next
  by_step t (lends q words get order out row behind) mixed next = by_other t (lends q words get order out row behind) tt mixed next
  by_step t (stores q words g is) mixed next = by_other t (stores q words g is) tt mixed next
  by_step t (mends at row) mixed next = by_other t (mends at row) tt mixed next
  by_step t (begins at row alike) mixed next = by_other t (begins at row alike) tt mixed next
  by_step t (unlinks at row) mixed next = by_other t (unlinks at row) tt mixed next
  by_step t (narrows member near row are fewer) mixed next = by_other t (narrows member near row are fewer) tt mixed next
  by_step t (goes e y d _ back is) mixed next = by_other t (goes e y d t back is) tt mixed next

pub driver_keeps_paid : DriverKeepsPaid
driver_keeps_paid fixed x puts w k =
    let n : IsMixedNext k.standing w (driver_next w) = driver_tells_step k.standing w k.piped.mixed in
    by_step fixed x k.standing k.lines k.heads puts w k.piped k.pays n.standing n.step n.mixed
    (driver_keeps_telling k.standing k.lines w n.standing n.step k.piped.mixed n.mixed k.piped.telling k.piped.going)

pub command_keeps_paid : CommandKeepsPaid
command_keeps_paid fixed x puts w line cmd fits declares bytes room k = record {
  standing = k.standing;
  lines = k.lines;
  heads = k.heads;
  piped = commanded_piped fixed x k.standing k.lines k.heads w k.piped line cmd fits declares room;
  pays = commanded_pays fixed x k.standing k.lines k.heads puts w k.piped k.pays line cmd fits declares bytes room;
}

-- ---- each moment

none_queued : (s : Script) (e : ℕ) (y : Endpoint) → slice_get (queued (opening_world s).driver).endpoints e ≡ Some y → ⊥
none_queued s e y here = cc

no_transfer : (s : Script) (t : ℕ) (y : _) → slice_get (queued (opening_world s).driver).transfers t ≡ Some y → ⊥
no_transfer s t y here = cc

pub new_pays : (s : Script) (st : Standing) (m : Lines) → Pays (fixed_of s) (sides_of s) st m no_puts (opening_world s)
new_pays s st m = record {
  outs = λ e y here there way. absurd (none_there s e y here);
  ended = λ e y cause here alive sends over. absurd (none_queued s e y here);
  held = record { each = λ t y there put held. absurd (no_transfer s t y there) };
  owes = record {
    going = λ e y here there sends goes. absurd (none_queued s e y here);
    over = λ e y cause here there sends over. absurd (none_queued s e y here);
    opening = λ e t y v here alive is there. absurd (none_queued s e y here);
    last = λ t v y there here sends goes is held. absurd (no_transfer s t v there);
  };
  begin = λ e y u here life sends is. absurd (none_queued s e y here);
  takers = λ e y here way on. absurd (none_there s e y here);
}

pub new_world_is_paid : NewWorldIsPaid
new_world_is_paid s fit bytes =
    let p : HasPiped (fixed_of s) (sides_of s) (opening_world s) = new_world_is_piped s fit bytes in
    record {
      standing = p.standing;
      lines = p.lines;
      heads = p.heads;
      piped = p.piped;
      pays = new_pays s p.standing p.lines;
    }

abbrev pub CanBePaid : Sides → Cmd → Type 0
CanBePaid x cmd = CanBe x cmd × IsByteCommand cmd

line_paid : (x : Sides) (line : Line) → KindOfLine (CanBe x) line → IsByteLine line → KindOfLine (CanBePaid x) line
line_paid x (lines.Command cmd) can bytes = (can, bytes)
line_paid x _ can bytes = tt

pub lines_paid : (x : Sides) (ls : List (ℕ × Line)) → AllByRecursion (λ l. KindOfLine (CanBe x) l.1) ls
    → AllByRecursion (λ l. IsByteLine l.1) ls
    → AllByRecursion (λ l. KindOfLine (CanBePaid x) l.1) ls
lines_paid x [] can bytes = tt
lines_paid x (l ∷ ls) can bytes = (line_paid x l.1 can.0 bytes.0, lines_paid x ls can.1 bytes.1)

is_kept : (s : Script) → IsKeptWithPuts (fixed_of s) (CanBePaid (sides_of s)) (λ w puts. HasPaid (fixed_of s) (sides_of s) puts w)
is_kept s = record {
  driver = λ w puts k. driver_keeps_paid (fixed_of s) (sides_of s) puts w k;
  controller = λ w puts k. controller_keeps_paid (fixed_of s) (sides_of s) puts w k;
  command = λ w line cmd puts can room k. command_keeps_paid (fixed_of s) (sides_of s) puts w line cmd can.0.0 can.0.1 can.1 room k;
}

pub scripts_are_paid : ScriptsArePaid
scripts_are_paid s fit bytes fits declares k =
    holds_with_puts (CanBePaid (sides_of s)) (λ w puts. HasPaid (fixed_of s) (sides_of s) puts w) s fit
    (lines_paid (sides_of s) s.lines (lines_both (sides_of s) s.lines (lines_can s.lines fits) declares) bytes.lines)
    (new_world_is_paid s fit bytes) (is_kept s) k

pub texts_are_paid : TextsArePaid
texts_are_paid text s spelled =
    scripts_are_paid s (spelled_fits text s spelled) (a_text_spells_bytes text s spelled)
    (lines_fit s.lines (texts_fit text s spelled) (texts_open_fitting text s spelled)) (texts_declare text s spelled)

-- ---- what was taken begins what was put

module _ (s : Script) (puts : ℕ → List ℕ) (w : World) (a : HasPaid (fixed_of s) (sides_of s) puts w) where
  abbrev d : DriverContent
  d = queued w.driver

  pub paid_begins : (e : ℕ) (y : Endpoint) (u : Taker) → slice_get w.driver.endpoints e ≡ Some y → IsHigh s y.desc
      → receives y.desc.name.way ≡ false → taker_of (wired (fixed_of s) w) y.desc.name.addr y.desc.name.num ≡ Some u
      → IsPrefix u.taken (concat (puts_of w.driver puts e))
  paid_begins e y u here high leaves is =
      let x : Sides = sides_of s in
      let z : Endpoint = queued_endpoint y in
      let takes : x.takes y.desc.name.addr y.desc.name.num ≡ true =
      high_takes s a.standing a.lines a.heads w a.piped e y here high leaves in
      ⊎_elim
      (λ (at_open : ((queued w.driver).command ≡ Some (unfinished.Open (queued_endpoint y).queue)) × ((queued_endpoint y).gone ≡ false)).
      let its = kept_as y at_open.1 in
      begins_all u.taken (concat (puts_of w.driver puts e))
      (none_taken (fixed_of s) x a.standing a.lines a.heads puts w a.piped a.pays e y here (out_way y.desc.name.way leaves) takes
      (record {
        kept = its.0;
        queue = its.1;
        command = at_open.0 ∙ ap (λ (q : ℕ). Some (unfinished.Open q)) (queue_same y);
      }) u is))
      (λ (before : ((queued_endpoint y).gone ≡ true) ⊎ IsThere (queued w.driver) (queued_endpoint y)).
      prefix_to u.taken (concat (puts_of d puts e)) (concat (puts_of w.driver puts e)) (ap concat (puts_real w.driver puts e))
      (a.pays.begin e z u (get_queued w.driver.endpoints e y here) before (ap (λ (name : EpName). receives name.way) (name_same y) ∙ leaves)
      (is_watched (taker_of (wired (fixed_of s) w) z.desc.name.addr z.desc.name.num) (x.takes z.desc.name.addr z.desc.name.num) u
      (ap (λ (name : EpName). x.takes name.addr name.num) (name_same y) ∙ takes)
      (ap (λ (name : EpName). taker_of (wired (fixed_of s) w) name.addr name.num) (name_same y) ∙ is))))
      (life_or (queued w.driver) (queued_endpoint y))

pub texts_take_what_was_put : TextsTakeWhatWasPut
texts_take_what_was_put text s spelled k = paid_begins s (puts_at s k) (moment s k).world (texts_are_paid text s spelled k)

pub texts_send_high_outs : TextsSendHighOuts
texts_send_high_outs text s spelled = taken_begins_streams text s spelled (texts_take_what_was_put text s spelled)

pub texts_end_high_streams : TextsEndHighStreams
texts_end_high_streams text s spelled = taken_ends_right text s spelled (texts_take_what_was_put text s spelled)

-- .. at each moment and after the run
pub texts_keep_all_high_streams : TextsKeepAllHighStreams
texts_keep_all_high_streams text s spelled =
    let sent : HighOutsAreSent s = texts_send_high_outs text s spelled in
    let end : HighStreamsEndRight s = texts_end_high_streams text s spelled in
    record {
      kept = texts_keep_high_streams text s spelled;
      sent_throughout = sent;
      at_the_end = end;
      sent = after_run (AreHighSentStreams s) s sent;
      all = at_end (AreHighStreams s) s end;
    }
