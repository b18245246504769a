-- The IN streams of the report are right.
use Rattle.std.proofs.Common.{◌≡◌, ℕ, Bool, true, false, not, ◌&&◌, if◌then◌else◌, List, [], ◌∷◌, ◌++◌, filter, filter_map, slice_get, Option, Some, None, ap, refl, sym, subst, ◌∙◌, ⊎_elim}
use Rattle.std.specs.Prelude.{is_none}
use Rattle.std.specs.Option.{option_map, option_and_then}
use Rattle.std.specs.List.{AllByRecursion, concat, list_any, cons_option}
use Rattle.std.proofs.lemmas.List.{append_assoc, append-nil}
use Rattle.law_common.proofs.Booleans.{and_right}
use Rattle.law_driver.proofs.Common.{in_way}
use Rattle.usb_base.specs.declared.endpoints.EndCause.{EndCause}
use Rattle.usb_base.specs.declared.endpoints.EpDesc.{EpDesc}
use Rattle.usb_base.specs.declared.endpoints.EpName.{EpName}
use Rattle.usb_base.specs.declared.packets.EpKind.{EpKind}
use Rattle.usb_base.specs.declared.packets.Way.{Way}
use Rattle.usb_base.specs.declared.packets.Way.TheVariants as Ways
use Rattle.script_types.specs.declared.scripts.Script.{Script}
use Rattle.endpoint_script.specs.Items.{packets_of}
use Rattle.claims_base.specs.Prefix.{IsPrefix}
use Rattle.usb_base.specs.declared.reports.Report.{Report}
use Rattle.bus_wire.specs.Bus.{Fixed}
use Rattle.claims_report.specs.Reports.{WholeReport, is_end, is_pending}
use Rattle.claims_report.specs.Streams.{opened, has_stream, items_of, stream_by, told, told_in, ends_once, ends_whole, AreBytesRight, IsRightStream}
use Rattle.drv_table.specs.declared.content.Endpoint.{Endpoint}
use Rattle.drv_table.specs.DriverContent.{DriverContent, ended}
use Rattle.law_queues.specs.told_endpoints.Telling.{named_of, named_in, lines_in, IsToldTo, TellsEach}
use Rattle.law_queues.proofs.lemmas.told_endpoints.Lines.{once_without}
use Rattle.law_driver.specs.endpoint_lives.Lives.{told_end}
use Rattle.law_driver.proofs.lemmas.endpoint_lives.Lives.{told_some, told_gone}
use Rattle.bus_world.specs.World.{World}
use Rattle.claims_world.specs.Streams.{closings_of, report_of}
use Rattle.law_world.specs.streams.Asynchronous.{AreRightInStreams}
use Rattle.law_world.specs.streams.right_reports.Laws.{BeginsEach}
use Rattle.law_world.proofs.lemmas.streams.lemmas.right_reports.Named.{HasNamed, NoneNamed, search, named_is, none_pending}
use Rattle.claims_driver.specs.Scripts.{comes_in}
use Rattle.law_driver.specs.AsynchronousScripts.{IsKindOf}
use Rattle.law_driver.specs.chained_transfers.Bulk.{IsDataWay}
use Rattle.law_driver.specs.chained_transfers.Asynchronous.{StandsAsynchronous, OnlyAsynchronous}

-- ---- lists

all_kept : {X : Type 0} (P : X → Type 0) (p : X → Bool) (xs : List X) → ((x : X) → p x ≡ true → P x) → AllByRecursion P (filter p xs)
all_kept P p [] gives = tt
all_kept P p (x ∷ xs) gives = kept (p x) refl (all_kept P p xs gives)
  where
    kept : (b : Bool) → p x ≡ b → AllByRecursion P (filter p xs) → AllByRecursion P (if b then x ∷ filter p xs else filter p xs)
    kept true is rest = (gives x is, rest)
    kept false is rest = rest

pub all_mapped : {X Y : Type 0} (P : X → Type 0) (Q : Y → Type 0) (h : X → Option Y) (xs : List X) → ((x : X) (y : Y) → P x → h x ≡ Some y → Q y) → AllByRecursion P xs → AllByRecursion Q (filter_map h xs)
all_mapped P Q h [] gives k = tt
all_mapped P Q h (x ∷ xs) gives k = with_first (h x) refl (all_mapped P Q h xs gives k.1)
  where
    with_first : (o : Option _) → h x ≡ o → AllByRecursion Q (filter_map h xs) → AllByRecursion Q (cons_option o (filter_map h xs))
    with_first None is rest = rest
    with_first (Some y) is rest = (gives x y k.0 is, rest)

-- ---- what is opened

all_right : (s : Script) (r : WholeReport) → ((desc : EpDesc) → comes_in desc.name.way ≡ true → IsRightStream s r desc.name) → AreRightInStreams s r
all_right s r each =
    all_kept (λ desc. IsRightStream s r desc.name) (λ desc. has_stream desc.kind && comes_in desc.name.way) (opened s r)
    (λ desc is. each desc (and_right (has_stream desc.kind) (comes_in desc.name.way) is))

-- ---- one endpoint

-- an endpoint of data has a stream
pub has_data : (way : Way) (kind : EpKind) → IsKindOf way kind → IsDataWay way → has_stream kind ≡ true
has_data Ways.Ctl kind is moves = absurd moves
has_data _ kind is moves = ap has_stream is

pub in_stream : (d : DriverContent) (e : ℕ) (x : Endpoint) → OnlyAsynchronous d → slice_get d.endpoints e ≡ Some x → x.desc.name.way ≡ Ways.In → has_stream x.desc.kind ≡ true
in_stream d e x only here way = has_data x.desc.name.way x.desc.kind (only.endpoints e x here).asynchronous.kind (subst IsDataWay (sym way) tt)

bytes_right : (s : Script) (r : WholeReport) (name : EpName) → name.way ≡ Ways.In → IsPrefix (told r name) (concat (packets_of (items_of s name))) → AreBytesRight name.way s r name
bytes_right s r name is k = subst (λ (way : Way). AreBytesRight way s r name) (sym is) (subst (λ (way : Way). IsPrefix (told r name) (stream_by way s r name)) (sym is) k)

module _ (s : Script) (fixed : Fixed) (w : World) (held told_each : ℕ → List ℕ) (tells : TellsEach w.driver.reports w.driver.store (named_in w.driver.endpoints) held told_each) (only : OnlyAsynchronous w.driver) (begins : BeginsEach s w told_each) where
  abbrev r : WholeReport
  r = report_of fixed w

  nothing_told : (name : EpName) → name.way ≡ Ways.In → lines_in name w.driver.reports ≡ [] → IsRightStream s r name
  nothing_told name way none = record {
    bytes = bytes_right s r name way (concat (packets_of (items_of s name)), ap (λ (ls : List Report). told_in w.driver.store ls ++ concat (packets_of (items_of s name))) none);
    once = ap ends_once none;
    whole = ap (λ (ls : List Report). not (list_any (λ line. is_end line.what) ls && list_any (is_pending name) (closings_of fixed w))) none;
  }

  not_both : (b : Bool) → not (b && false) ≡ true
  not_both true = refl
  not_both false = refl

  is_told : (k : ℕ) (x : Endpoint) → slice_get w.driver.endpoints k ≡ Some x → x.desc.name.way ≡ Ways.In → (o : Option EndCause) → told_end x ≡ o → IsRightStream s r x.desc.name
  is_told k x here way o is = record {
    bytes = bytes_right s r x.desc.name way (held k ++ front.0, sym (append_assoc (told r x.desc.name) (held k) front.0) ∙ ap (λ (xs : List ℕ). xs ++ front.0) t.sum ∙ front.1);
    once = once_by o is;
    whole = whole_by o is;
  }
    where
      t : IsToldTo w.driver.reports w.driver.store (named_of x) (held k) (told_each k)
      t = tells.each k (named_of x) (ap (option_map named_of) here) (in_stream w.driver k x only here way)

      front : IsPrefix (told_each k) (concat (packets_of (items_of s x.desc.name)))
      front = begins k x here (ap comes_in way)

      once_by : (end : Option EndCause) → told_end x ≡ end → ends_once (lines_in x.desc.name w.driver.reports) ≡ true
      once_by None still = once_without (lines_in x.desc.name w.driver.reports) (t.going still)
      once_by (Some cause) over = (t.over cause over).1

      named : HasNamed w.driver.endpoints x.desc.name
      named = record { number = k; endpoint = x; here = here; same = refl }

      ended_is : (end : Option EndCause) → x.ended ≡ end → ended w.driver x.desc.name ≡ end
      ended_is end same =
          ap (λ (e : Option Endpoint). option_and_then (λ y. y.ended) e) (named_is w.driver x.desc.name named (λ i y at alike. tells.apart i k (named_of y) (named_of x) (ap (option_map named_of) at) (ap (option_map named_of) here) alike)) ∙ same

      whole_by : (end : Option EndCause) → told_end x ≡ end → ends_whole r x.desc.name ≡ true
      whole_by None still = ap (λ (b : Bool). not (b && list_any (is_pending x.desc.name) (closings_of fixed w))) (t.going still)
      whole_by (Some cause) over =
          ap (λ (b : Bool). not (list_any (λ line. is_end line.what) (lines_in x.desc.name w.driver.reports) && b)) (none_pending w x.desc.name (ap is_none (ended_is (Some cause) (told_some x cause over).ended)) fixed)
          ∙ not_both (list_any (λ line. is_end line.what) (lines_in x.desc.name w.driver.reports))

  one_right : (name : EpName) → name.way ≡ Ways.In → IsRightStream s r name
  one_right name way =
      ⊎_elim (λ (k : HasNamed w.driver.endpoints name).
      subst (IsRightStream s r) k.same (is_told k.number k.endpoint k.here (ap (λ (n : EpName). n.way) k.same ∙ way) (told_end k.endpoint) refl))
      (λ (none : NoneNamed w.driver.endpoints name). nothing_told name way (tells.only name none)) (search w.driver.endpoints name)

-- an endpoint that was given back has ended, and nothing of it is held back
pub gone_told : (d : DriverContent) (held told : ℕ → List ℕ) (e : ℕ) (x : Endpoint) → OnlyAsynchronous d → has_stream x.desc.kind ≡ true → TellsEach d.reports d.store (named_in d.endpoints) held told → slice_get d.endpoints e ≡ Some x → x.gone ≡ true
    → told e ≡ told_in d.store (lines_in x.desc.name d.reports)
gone_told d held told e x only on tells here gone = by x.ended refl
  where
    life : StandsAsynchronous x
    life = only.endpoints e x here

    by : (o : Option EndCause) → x.ended ≡ o → told e ≡ told_in d.store (lines_in x.desc.name d.reports)
    by None is = absurd (life.ended (life.unlinked (life.gone gone)) is)
    by (Some cause) is =
        let to : IsToldTo d.reports d.store (named_of x) (held e) (told e) = tells.each e (named_of x) (ap (option_map named_of) here) on in
        let none : held e ≡ [] = (to.over cause (told_gone x gone ∙ is)).0 in
        sym to.sum ∙ ap (λ (xs : List ℕ). told_in d.store (lines_in x.desc.name d.reports) ++ xs) none ∙ append-nil (told_in d.store (lines_in x.desc.name d.reports))

pub report_is_right : (s : Script) (fixed : Fixed) (w : World) (held told : ℕ → List ℕ) → OnlyAsynchronous w.driver → TellsEach w.driver.reports w.driver.store (named_in w.driver.endpoints) held told → BeginsEach s w told → AreRightInStreams s (report_of fixed w)
report_is_right s fixed w held told only tells begins = all_right s (report_of fixed w) (λ desc comes. one_right s fixed w held told tells only begins desc.name (in_way desc.name.way comes))
