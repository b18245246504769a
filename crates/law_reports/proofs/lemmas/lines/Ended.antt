-- No line follows the end of an endpoint whose data go one way, and nothing of it is pending then.
use Rattle.std.proofs.Common.{◌≡◌, ◌≢◌, ℕ, Bool, true, false, List, [], slice_get, Option, Some, None, option_map, ap, refl, sym, subst, ◌∙◌, ⊎_elim}
use Rattle.std.specs.Prelude.{◌&&◌, not, if◌then◌else◌, is_some, is_none, option_and_then}
use Rattle.std.specs.List.{list_any}
use Rattle.std.proofs.lemmas.Bool.{cases_Bool, false≢true}
use Rattle.std.proofs.lemmas.Option.{slice_get-map, same_Some}
use Rattle.law_reports.proofs.Common.{one_way}
use Rattle.law_driver.proofs.Common.{get_queued}
use Rattle.usb_base.specs.declared.endpoints.EndCause.{EndCause}
use Rattle.usb_base.specs.declared.endpoints.EpName.{EpName}
use Rattle.usb_base.specs.declared.packets.Way.TheVariants as ways
use Rattle.usb_base.specs.declared.reports.Report.{Report}
use Rattle.bus_wire.specs.Bus.{Fixed, fixed_of}
use Rattle.bus_wire.specs.Fates.{is_same_name}
use Rattle.claims_report.specs.Reports.{is_end, is_pending}
use Rattle.claims_report.specs.Streams.{ends_once, ends_whole, has_stream}
use Rattle.claims_world.specs.Streams.{closings_of, report_of}
use Rattle.claims_world.specs.Ends.{IsEndedOnce}
use Rattle.drv_table.specs.declared.content.Endpoint.{Endpoint}
use Rattle.drv_table.specs.DriverContent.{DriverContent, ended}
use Rattle.drv_table.specs.Kinds.{is_iso}
use Rattle.law_driver.specs.endpoint_lives.Lives.{told_end}
use Rattle.law_driver.proofs.lemmas.endpoint_lives.Lives.{told_some}
use Rattle.law_driver.specs.queued_drivers.Queued.{queued_kind, with_queue, without_queue, queued_endpoint, queued}
use Rattle.law_driver.proofs.lemmas.queued_drivers.CommandFields.{name_same}
use Rattle.law_queues.specs.told_endpoints.Telling.{Named, named_of, named_in, lines_in, has_end, IsToldTo}
use Rattle.law_queues.proofs.lemmas.told_endpoints.Lines.{once_without}
use Rattle.law_world.proofs.lemmas.streams.lemmas.right_reports.Named.{HasNamed, NoneNamed, search, named_is, none_pending}
use Rattle.bus_world.specs.Budgets.{moment}
use Rattle.bus_world.specs.World.{World}
use Rattle.law_reports.specs.lines.Lined.{in_hand}
use Rattle.law_reports.specs.lines.TellingLaws.{IsToldWorld, ScriptsEndOnce, TextsEndOnce}
use Rattle.law_reports.proofs.lemmas.lines.IsoGoing.{told_apart}
use Rattle.law_reports.proofs.lemmas.lines.Telling.{scripts_are_told, texts_are_told}

queued_way : (x : Endpoint) (b : Bool) → is_iso x.desc.kind ≡ b → (queued_endpoint x).desc.kind ≡ queued_kind x.desc.name.way
queued_way x true is = ap (λ (b : Bool). (if b then without_queue x else with_queue x).desc.kind) is
queued_way x false is = ap (λ (b : Bool). (if b then without_queue x else with_queue x).desc.kind) is

not_both : (b : Bool) → not (b && false) ≡ true
not_both true = refl
not_both false = refl

module _ (fixed : Fixed) (w : World) (k : IsToldWorld w) where
  abbrev d : DriverContent
  d = w.driver

  -- nothing is told of a name that no endpoint has
  nothing : (name : EpName) → lines_in name w.driver.reports ≡ [] → IsEndedOnce (report_of fixed w) name
  nothing name none = record {
    once = ap ends_once none;
    whole = ap (λ (ls : List Report). not (list_any (λ line. is_end line.what) ls && list_any (is_pending name) (closings_of fixed w)))
        none;
  }

  module _ (e : ℕ) (x : Endpoint) (here : slice_get w.driver.endpoints e ≡ Some x) (other : x.desc.name.way ≢ ways.Ctl) where
    named_at : named_in (queued w.driver).endpoints e ≡ Some (named_of (queued_endpoint x))
    named_at = ap (option_map named_of) (get_queued w.driver.endpoints e x here)

    streams : has_stream (queued_endpoint x).desc.kind ≡ true
    streams = ap has_stream (queued_way x (is_iso x.desc.kind) refl) ∙ one_way x.desc.name.way other

    told_to : IsToldTo w.driver.reports w.driver.store (named_of (queued_endpoint x)) (k.telling.told.held e) (k.telling.told.told e)
    told_to = k.telling.told.tells.each e (named_of (queued_endpoint x)) named_at streams

    -- its lines are those of its name
    same_lines : lines_in (queued_endpoint x).desc.name w.driver.reports ≡ lines_in x.desc.name w.driver.reports
    same_lines = ap (λ (n : EpName). lines_in n w.driver.reports) (name_same x)

    once : (end : Option EndCause) → told_end (queued_endpoint x) ≡ end → ends_once (lines_in x.desc.name w.driver.reports) ≡ true
    once None is = once_without (lines_in x.desc.name w.driver.reports) (sym (ap has_end same_lines) ∙ told_to.going is)
    once (Some cause) is = sym (ap ends_once same_lines) ∙ (told_to.over cause is).1

    -- no line ends it yet
    open_whole : has_end (lines_in x.desc.name w.driver.reports) ≡ false → ends_whole (report_of fixed w) x.desc.name ≡ true
    open_whole none = ap (λ (b : Bool). not (b && list_any (is_pending x.desc.name) (closings_of fixed w))) none

    -- it has ended
    ended_is : ended w.driver x.desc.name ≡ x.ended
    ended_is =
        ap (λ (o : Option Endpoint). option_and_then (λ y. y.ended) o)
        (named_is w.driver x.desc.name (record { number = e; endpoint = x; here = here; same = refl })
        (λ i y at alike. told_apart w.driver (in_hand k.standing) k.standing.parts k.lines.reported k.telling.told i e y x at here alike))

    over_whole : is_some x.ended ≡ true → ends_whole (report_of fixed w) x.desc.name ≡ true
    over_whole over =
        ap (λ (b : Bool). not (list_any (λ line. is_end line.what) (lines_in x.desc.name w.driver.reports) && b))
        (none_pending w x.desc.name (ap is_none ended_is ∙ none_of x.ended over) fixed)
        ∙ not_both (list_any (λ line. is_end line.what) (lines_in x.desc.name w.driver.reports))
      where
        none_of : (o : Option EndCause) → is_some o ≡ true → is_none o ≡ false
        none_of (Some c) is = refl
        none_of None is = absurd (false≢true is)

    -- of an isochronous endpoint
    iso_whole : is_iso x.desc.kind ≡ true → ends_whole (report_of fixed w) x.desc.name ≡ true
    iso_whole iso =
        ⊎_elim (λ (gone : x.gone ≡ true).
        let steady = k.mixed.now.framed.place.sound.owners.orderly.steady e x here in
        over_whole (steady.ended (steady.gone gone).0 (steady.gone gone).1))
        (λ (kept : x.gone ≡ false). open_whole (k.going e x here iso kept)) (cases_Bool x.gone)

    -- of one with a queue
    queue_end : is_iso x.desc.kind ≡ false → told_end (queued_endpoint x) ≡ told_end x
    queue_end queue = ap (λ (b : Bool). told_end (if b then without_queue x else with_queue x)) queue

    queue_whole : is_iso x.desc.kind ≡ false → (end : Option EndCause) → told_end x ≡ end
        → ends_whole (report_of fixed w) x.desc.name ≡ true
    queue_whole queue None is = open_whole (sym (ap has_end same_lines) ∙ told_to.going (queue_end queue ∙ is))
    queue_whole queue (Some cause) is = over_whole (ap is_some (told_some x cause is).ended)

    pub ends_once_there : IsEndedOnce (report_of fixed w) x.desc.name
    ends_once_there = record {
      once = once (told_end (queued_endpoint x)) refl;
      whole = ⊎_elim (λ (iso : is_iso x.desc.kind ≡ true). iso_whole iso)
          (λ (queue : is_iso x.desc.kind ≡ false). queue_whole queue (told_end x) refl) (cases_Bool (is_iso x.desc.kind));
    }

  -- nor does an endpoint as its queues tell it
  none_queued : (name : EpName) → NoneNamed w.driver.endpoints name → (e : ℕ) (y : Named) → named_in (queued w.driver).endpoints e ≡ Some y
      → is_same_name y.name name ≡ false
  none_queued name none e y here = by (slice_get w.driver.endpoints e) refl
    where
      none_some : None ≡ Some y → ⊥
      none_some is = cc

      by : (o : Option Endpoint) → slice_get w.driver.endpoints e ≡ o → is_same_name y.name name ≡ false
      by None at =
          absurd (none_some (sym (ap (option_map named_of) (slice_get-map queued_endpoint w.driver.endpoints e
          ∙ ap (option_map queued_endpoint) at)) ∙ here))
      by (Some x) at =
          let same : named_of (queued_endpoint x) ≡ y =
          same_Some (named_of (queued_endpoint x)) y (sym (ap (option_map named_of) (get_queued w.driver.endpoints e x at)) ∙ here) in
          ap (λ (n : Named). is_same_name n.name name) (sym same) ∙ ap (λ (n : EpName). is_same_name n name) (name_same x)
          ∙ none e (named_of x) (ap (option_map named_of) at)

  pub ended_once : (name : EpName) → name.way ≢ ways.Ctl → IsEndedOnce (report_of fixed w) name
  ended_once name other =
      ⊎_elim
      (λ (h : HasNamed w.driver.endpoints name).
      subst (IsEndedOnce (report_of fixed w)) h.same
      (ends_once_there h.number h.endpoint h.here (λ is. other (ap (λ (n : EpName). n.way) (sym h.same) ∙ is))))
      (λ (none : NoneNamed w.driver.endpoints name). nothing name (k.telling.told.tells.only name (none_queued name none)))
      (search w.driver.endpoints name)

pub scripts_end_once : ScriptsEndOnce
scripts_end_once s fit bytes opens k name other = ended_once (fixed_of s) (moment s k).world (scripts_are_told s fit bytes opens k) name
    other

pub texts_end_once : TextsEndOnce
texts_end_once text s spelled k name other = ended_once (fixed_of s) (moment s k).world (texts_are_told text s spelled k) name other
