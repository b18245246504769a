-- Where each endpoint is one of the asynchronous schedule at high speed, each with a stream is claimed.
use Rattle.std.proofs.Common.{◌≡◌, Bool, true, false, if◌then◌else◌, ◌&&◌, not, List, [], ◌∷◌, filter, filter_map, Some, None, ap, refl}
use Rattle.std.proofs.Common.{subst, ◌∙◌}
use Rattle.std.specs.List.{AllByRecursion}
use Rattle.std.proofs.lemmas.Option.{same_Some}
use Rattle.law_common.proofs.Booleans.{and_on}
use Rattle.usb_base.specs.declared.commands.Cmd.{Cmd}
use Rattle.usb_base.specs.declared.commands.Cmd.TheVariants as commands
use Rattle.usb_base.specs.declared.endpoints.EpDesc.{EpDesc}
use Rattle.script_types.specs.declared.scripts.Line.{Line}
use Rattle.script_types.specs.declared.scripts.Line.TheVariants as lines
use Rattle.script_types.specs.declared.scripts.Script.{Script}
use Rattle.bus_wire.specs.Bus.{fixed_of}
use Rattle.claims_report.specs.Reports.{WholeReport, taken}
use Rattle.claims_report.specs.Streams.{is_refused, command_in, accepted_in, open_in, opened, stream, has_stream, IsRightStream}
use Rattle.claims_driver.specs.Scripts.{comes_in, receives}
use Rattle.law_driver.specs.AsynchronousScripts.{IsAsynchronous, OpensAsynchronous, AsynchronousLine, AsynchronousOnly}
use Rattle.claims_world.specs.Streams.{report_of, IsTakenStream, IsTakenSent}
use Rattle.drv_table.specs.Words.{is_high}
use Rattle.law_world.proofs.lemmas.streams.lemmas.right_reports.Right.{all_mapped}
use Rattle.bus_world.specs.Budgets.{moment}
use Rattle.claims_world.specs.HighStreams.{claimed}
use Rattle.law_world.specs.streams.Asynchronous.{AreTakenStreams, AreSentStreams, KeepsStreamsThroughout}
use Rattle.claims_report.specs.Samples.{AreRightStreams}
use Rattle.claims_world.specs.HighStreams.{KeepsAllHighStreams}
use Rattle.law_reports.specs.pipes.high_streams.Older.{HighSaysAll, HighSaysAsMuch, HighKeepsAll}
use Rattle.law_reports.proofs.lemmas.pipes.lemmas.high_streams.AfterRuns.{after_run, at_end}

accepted_by : (b : Bool) (l : Line) (cmd : Cmd) → AsynchronousLine l → (if b then None else command_in l) ≡ Some cmd → OpensAsynchronous cmd
accepted_by true l cmd k is = absurd cc
accepted_by false (lines.Command c) cmd k is = subst OpensAsynchronous (same_Some c cmd is) k
accepted_by false (lines.Order event n) cmd k is = absurd cc
accepted_by false (lines.Micro n) cmd k is = absurd cc
accepted_by false (lines.Plug n) cmd k is = absurd cc
accepted_by false (lines.Unplug n) cmd k is = absurd cc

opens_by : (cmd : Cmd) (desc : EpDesc) → OpensAsynchronous cmd → open_in cmd ≡ Some desc → IsAsynchronous desc
opens_by (commands.OpenEp x) desc k is = subst IsAsynchronous (same_Some x desc is) k
opens_by _ desc k is = absurd cc

opened_high : (s : Script) (r : WholeReport) → AsynchronousOnly s → AllByRecursion IsAsynchronous (opened s r)
opened_high s r only =
    all_mapped OpensAsynchronous IsAsynchronous open_in (filter_map (accepted_in r) s.lines) opens_by
    (all_mapped (λ line. AsynchronousLine line.1) OpensAsynchronous (accepted_in r) s.lines
    (λ line cmd k is. accepted_by (is_refused r line.0) line.1 cmd k is) only)

same_filter : {X : Type 0} (P : X → Type 0) (p q : X → Bool) (xs : List X) → ((x : X) → P x → p x ≡ q x) → AllByRecursion P xs
    → filter p xs ≡ filter q xs
same_filter P p q [] same k = refl
same_filter {X} P p q (x ∷ xs) same k =
    ap (λ (b : Bool). if b then x ∷ filter p xs else filter p xs) (same x k.0)
    ∙ ap (λ (ys : List X). if q x then x ∷ ys else ys) (same_filter P p q xs same k.1)

all_high : (s : Script) (x : EpDesc) → IsAsynchronous x → claimed s x ≡ has_stream x.kind
all_high s x k = and_on (has_stream x.kind) (is_high x.speed) (ap is_high k.speed)

-- of such a report the same endpoints are kept by both
module _ (s : Script) (only : AsynchronousOnly s) (r : WholeReport) (so : EpDesc → Type 0) (p : EpDesc → Bool) where
  pub both_kept : AllByRecursion so (filter (λ x. claimed s x && p x) (opened s r))
      → AllByRecursion so (filter (λ x. has_stream x.kind && p x) (opened s r))
  both_kept k =
      subst (AllByRecursion so)
      (same_filter IsAsynchronous (λ x. claimed s x && p x) (λ x. has_stream x.kind && p x) (opened s r)
      (λ x high. ap (λ (b : Bool). b && p x) (all_high s x high)) (opened_high s r only)) k

all_kept : (s : Script) (only : AsynchronousOnly s) (r : WholeReport) (so : EpDesc → Type 0)
    → AllByRecursion so (filter (claimed s) (opened s r)) → AllByRecursion so (filter (λ x. has_stream x.kind) (opened s r))
all_kept s only r so k =
    subst (AllByRecursion so)
    (same_filter IsAsynchronous (claimed s) (λ x. has_stream x.kind) (opened s r) (all_high s) (opened_high s r only)) k

pub high_says_as_much : HighSaysAsMuch
high_says_as_much s only = record {
  ins = λ k i.
      let r : WholeReport = report_of (fixed_of s) (moment s i).world in
      both_kept s only r (λ x. IsRightStream s (report_of (fixed_of s) (moment s i).world) x.name) (λ x. comes_in x.name.way) (k i);
  taken = λ k i.
      let r : WholeReport = report_of (fixed_of s) (moment s i).world in
      both_kept s only r (λ x. IsTakenStream (report_of (fixed_of s) (moment s i).world) x.name) (λ x. not (receives x.name.way)) (k i);
  sent = λ k i.
      both_kept s only (report_of (fixed_of s) (moment s i).world)
      (λ x. IsTakenSent (taken (report_of (fixed_of s) (moment s i).world) x.name)
      (stream s (report_of (fixed_of s) (moment s i).world) x.name)) (λ x. not (receives x.name.way)) (k i);
  all = λ k i none.
      all_kept s only (report_of (fixed_of s) (moment s i).world)
      (λ x. IsRightStream s (report_of (fixed_of s) (moment s i).world) x.name) (k i none);
}

-- ---- all of the older clause

older_throughout : (s : Script) → AsynchronousOnly s → KeepsAllHighStreams s → KeepsStreamsThroughout s
older_throughout s only k =
    let says : HighSaysAll s = high_says_as_much s only in
    record {
      ins = says.ins k.kept.throughout.ins;
      taken = says.taken k.kept.throughout.taken;
      sent = says.sent k.sent_throughout;
      at_the_end = says.all k.at_the_end;
    }

pub high_keeps_all : HighKeepsAll
high_keeps_all s only k =
    let older : KeepsStreamsThroughout s = older_throughout s only k in
    record {
      throughout = older;
      taken = after_run (AreTakenStreams s) s older.taken;
      sent = after_run (AreSentStreams s) s older.sent;
      all = at_end (AreRightStreams s) s older.at_the_end;
      printed = k.kept.printed;
    }
