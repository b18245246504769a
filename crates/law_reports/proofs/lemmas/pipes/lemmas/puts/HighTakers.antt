-- Each OUT endpoint at high speed has its taker on the bus; and where what these took begins what was put, the streams are right.
use Rattle.std.proofs.Common.{◌≡◌, ◌≢◌, ℕ, ◌*◌, true, false, slice_get, Some, ap, sym, subst, ◌∙◌, ⊎_elim}
use Rattle.std.specs.List.{concat}
use Rattle.std.proofs.lemmas.Bool.{and_from, cases_Bool}
use Rattle.std.proofs.lemmas.Option.{same_Some}
use Rattle.law_driver.proofs.Common.{out_way, of_queue}
use Rattle.law_world.proofs.Common.{met_or_not}
use Rattle.law_reports.proofs.Common.{no_iso}
use Rattle.usb_base.specs.declared.packets.Way.{Way}
use Rattle.usb_base.specs.declared.packets.Way.TheVariants as ways
use Rattle.script_types.specs.declared.scripts.Script.{Script}
use Rattle.bus_wire.specs.Bus.{fixed_of}
use Rattle.claims_report.specs.Streams.{told_in, has_stream}
use Rattle.claims_driver.specs.Scripts.{receives}
use Rattle.drv_table.specs.declared.content.Command.TheVariants as unfinished
use Rattle.drv_table.specs.declared.content.Endpoint.{Endpoint}
use Rattle.drv_table.specs.Kinds.{is_iso}
use Rattle.drv_table.specs.Words.{is_high}
use Rattle.law_driver.specs.queued_drivers.Queued.{queued_endpoint, queued}
use Rattle.law_driver_ring.specs.fed_queues.Places.{IsThere}
use Rattle.law_devices.specs.scripted_takers.Takers.{taker_of}
use Rattle.law_queues.specs.told_endpoints.Telling.{lines_in}
use Rattle.law_world.specs.steps.Outs.{IsUntaken}
use Rattle.law_world.specs.steps.Streaming.{wired}
use Rattle.law_world.specs.streams.put_laws.TakenPuts.{puts_at}
use Rattle.law_world.specs.streams.sending_worlds.ReportLaws.{HasNamedTaker}
use Rattle.law_world.proofs.lemmas.streams.lemmas.put_laws.Ends.{streams_are_of_puts}
use Rattle.law_world.proofs.lemmas.streams.lemmas.put_laws.Rising.{texts_rise}
use Rattle.law_world.proofs.lemmas.streams.lemmas.taken_reports.Turning.{run_keeps_seats}
use Rattle.law_world.specs.memory.Mixed.{Standing}
use Rattle.law_reports.specs.lines.Lined.{in_hand, Lines}
use Rattle.law_reports.proofs.lemmas.lines.IsoGoing.{told_apart}
use Rattle.law_reports.specs.pipes.Declared.{sides_of, IsDeclaredBy}
use Rattle.law_reports.specs.pipes.Piped.{Heads, IsOpening, IsUnused, HasTakenAtLeast, IsPiped, IsFollowed, HasFollowed}
use Rattle.law_reports.proofs.lemmas.pipes.Begun.{outs_begun}
use Rattle.law_reports.proofs.lemmas.pipes.FollowedMoments.{texts_are_followed}
use Rattle.law_reports.proofs.lemmas.pipes.Names.{queue_same, name_is}
use Rattle.bus_world.specs.Budgets.{moment}
use Rattle.bus_world.specs.Opening.{opening_world}
use Rattle.bus_world.specs.Orders.{at_place, orders_of}
use Rattle.bus_world.specs.World.{World}
use Rattle.law_reports.specs.pipes.high_streams.Names.{HasItsNames}
use Rattle.law_reports.specs.pipes.high_streams.Reports.{IsHigh, TakersBegin, HasHighReport}
use Rattle.law_reports.proofs.lemmas.pipes.lemmas.high_streams.Joining.{piped_ins_begin, piped_outs_begin}
use Rattle.law_reports.proofs.lemmas.pipes.lemmas.high_streams.Names.{texts_have_names}
use Rattle.law_reports.proofs.lemmas.pipes.lemmas.high_streams.Opened.{moments_are_opened}
use Rattle.law_reports.proofs.lemmas.pipes.lemmas.high_streams.Reporting.{high_reports_are_sent, high_reports_end_right}
use Rattle.law_reports.specs.pipes.puts.Takers.{TakenBeginsPuts, FollowedHaveTakers, TextsHaveTakers, TakenBeginsStreams}
use Rattle.law_reports.specs.pipes.puts.Takers.{TakenEndsRight}

-- its devices have a taker for each that was opened
pub high_takes : (s : Script) (t : Standing) (m : Lines) (h : Heads) (w : World) → IsPiped (fixed_of s) (sides_of s) t m h w → (e : ℕ)
    (y : Endpoint) → slice_get w.driver.endpoints e ≡ Some y → IsHigh s y.desc → receives y.desc.name.way ≡ false
    → (sides_of s).takes y.desc.name.addr y.desc.name.num ≡ true
high_takes s t m h w k e y here high leaves =
    subst (λ (v : Way). IsDeclaredBy (sides_of s) y.desc v) (out_way y.desc.name.way leaves) (k.declared e y here)
    ∙ and_from (has_stream y.desc.kind) (is_high y.desc.speed) high.stream (ap is_high high.speed)

module _ (s : Script) (t : Standing) (m : Lines) (h : Heads) (w : World) (f : IsFollowed (fixed_of s) (sides_of s) t m h w) (e : ℕ)
    (y : Endpoint) (here : slice_get w.driver.endpoints e ≡ Some y) (high : IsHigh s y.desc)
    (leaves : receives y.desc.name.way ≡ false) where
  abbrev k : IsPiped (fixed_of s) (sides_of s) t m h w
  k = f.piped

  way : y.desc.name.way ≡ ways.Out
  way = out_way y.desc.name.way leaves

  takes : (sides_of s).takes y.desc.name.addr y.desc.name.num ≡ true
  takes = high_takes s t m h w f.piped e y here high leaves

  its_queue : is_iso y.desc.kind ≡ false
  its_queue = no_iso y.desc.kind high.stream

  at_least : (bytes : _) → HasTakenAtLeast (taker_of (wired (fixed_of s) w) y.desc.name.addr y.desc.name.num) bytes
      → HasNamedTaker (fixed_of s) w y.desc.name
  at_least bytes b = record { taker = b.taker; is = b.is }

  -- ---- it is being opened

  -- no other endpoint has its name
  unused : IsOpening w.driver y → IsUnused w.driver ways.Out y.desc.name.addr y.desc.name.num
  unused opening i v there its same also =
      let one : i ≡ e = told_apart w.driver (in_hand t) t.parts m.reported k.telling.told i e v y there here
      (name_is v.desc.name y.desc.name same also (its ∙ sym way)) in
      subst (IsOpening w.driver) (same_Some y v (sym here ∙ ap (slice_get w.driver.endpoints) (sym one) ∙ there)) opening

  opening_taker : IsOpening w.driver y → HasNamedTaker (fixed_of s) w y.desc.name
  opening_taker opening =
      let u : IsUntaken (taker_of (wired (fixed_of s) w) y.desc.name.addr y.desc.name.num) =
      k.fresh_outs y.desc.name.addr y.desc.name.num takes (unused opening) in
      record { taker = u.taker; is = u.is }

  -- ---- it is there, or was given back

  pub its_taker : HasNamedTaker (fixed_of s) w y.desc.name
  its_taker =
      ⊎_elim
      (λ (gone : y.gone ≡ true).
      at_least (told_in w.driver.store (lines_in y.desc.name w.driver.reports)) (f.left_outs.gone e y here way takes gone))
      (λ (kept : y.gone ≡ false).
      ⊎_elim
      (λ (opens : (queued w.driver).command ≡ Some (unfinished.Open (queued_endpoint y).queue)).
      opening_taker (record {
        kept = kept;
        queue = its_queue;
        command = opens ∙ ap (λ (q : ℕ). Some (unfinished.Open q)) (queue_same y);
      }))
      (λ (linked : (queued w.driver).command ≢ Some (unfinished.Open (queued_endpoint y).queue)).
      let there : IsThere (queued w.driver) (queued_endpoint y) =
      record { linked = linked; kept = ap (λ (v : Endpoint). v.gone) (of_queue y its_queue) ∙ kept } in
      at_least (concat (m.acc (32 * y.queue)))
      (outs_begun (fixed_of s) (sides_of s) t m h w f.piped f.left_outs e y here way takes there))
      (met_or_not (queued w.driver).command (queued_endpoint y).queue)) (cases_Bool y.gone)

pub followed_have_takers : FollowedHaveTakers
followed_have_takers s w f e y here high leaves = its_taker s f.standing f.lines f.heads w f.followed e y here high leaves

pub texts_have_takers : TextsHaveTakers
texts_have_takers text s spelled k = followed_have_takers s (moment s k).world (texts_are_followed text s spelled k)

-- ---- where what was taken begins what was put

module _ (s : Script) (names : HasItsNames s) (all : (k : ℕ) → HasFollowed (fixed_of s) (sides_of s) (moment s k).world)
    (begins : TakenBeginsPuts s) (i : ℕ) where
  abbrev pub report_at : HasHighReport s (moment s i).world
  report_at = record {
    told = record {
      standing = (all i).standing;
      lines = (all i).lines;
      mixed = (all i).followed.piped.mixed;
      telling = (all i).followed.piped.telling;
      going = (all i).followed.piped.going;
    };
    opened = moments_are_opened s names.fit i;
    once = names.once;
    fits = names.ways;
    seated = run_keeps_seats s (fixed_of s) (at_place (opening_world s) (orders_of s.lines)) i names.seated;
  }

  pub takers_at : TakersBegin s (puts_at s i) (moment s i).world
  takers_at = record { takers = followed_have_takers s (moment s i).world (all i); begin = begins i }

pub taken_begins_streams : TakenBeginsStreams
taken_begins_streams text s spelled begins i =
    let names : HasItsNames s = texts_have_names text s spelled in
    high_reports_are_sent s (moment s i) (puts_at s i) (report_at s names (texts_are_followed text s spelled) begins i)
    (takers_at s names (texts_are_followed text s spelled) begins i) (streams_are_of_puts s (texts_rise text s spelled) i)

pub taken_ends_right : TakenEndsRight
taken_ends_right text s spelled begins i none =
    let names : HasItsNames s = texts_have_names text s spelled in
    let all = texts_are_followed text s spelled in
    high_reports_end_right s (moment s i) (puts_at s i) (report_at s names all begins i)
    (piped_ins_begin s (all i).standing (all i).lines (all i).heads (moment s i).world names.own (all i).followed)
    (piped_outs_begin s (all i).standing (all i).lines (all i).heads (moment s i).world (all i).followed)
    (takers_at s names all begins i) (streams_are_of_puts s (texts_rise text s spelled) i) none
