-- Lemmas that several files need.
use Rattle.std.proofs.Common.{◌≢◌, ◌≡◌, true, refl, ℕ, List, Option, Some, ap, option_map, ◌∙◌, false, slice_get, None, Bool, suc, ◌∷◌, zero, ◌++◌, [], ◌<◌, ◌-◌, arith, if◌then◌else◌, ◌&&◌, ◌≤◌, map, ◌==◌, length}
use Rattle.std.proofs.lemmas.Bool.{false≢true, eqb-true}
use Rattle.std.specs.List.{AllByRecursion}
use Rattle.std.proofs.lemmas.List.{map-append}
use Rattle.usb_base.specs.declared.packets.Way.{Way}
use Rattle.usb_base.specs.declared.packets.EpKind.{EpKind}
use Rattle.usb_base.specs.declared.endpoints.EndCause.{EndCause}
use Rattle.usb_base.specs.declared.commands.Cmd.{Cmd}
use Rattle.script_types.specs.declared.scripts.Script.{Script}
use Rattle.claims_report.specs.Streams.{has_stream}
use Rattle.claims_report.specs.Requests.{Request}
use Rattle.claims_report.specs.Acts.{IsOnce}
use Rattle.qh_qtd.specs.declared.queue_head.Qh.{Qh}
use Rattle.drv_table.specs.declared.content.Command.{Command}
use Rattle.drv_table.specs.DriverContent.{DriverContent}
use Rattle.drv_table.specs.declared.content.Transfer.{Transfer}
use Rattle.drv_table.specs.Kinds.{is_iso}
use Rattle.drv_table.specs.declared.content.Endpoint.{Endpoint}
use Rattle.drv_table.specs.declared.content.QtdNote.{QtdNote}
use Rattle.bus_world.specs.Opening.{opening_world}
use Rattle.law_structures.specs.lent_structures.Structures.{Structure, QueueHead}
use Rattle.law_driver.specs.queued_drivers.Queued.{queued_kind}
use Rattle.law_driver_ring.specs.told_harvests.Held.{AreUnmoved}
use Rattle.law_devices.specs.ring_requests.Windows.{Step, Queue, Lines, stepped, Progress, progressed, Transaction, Advance}
use Rattle.law_devices.specs.ring_requests.Runs.{first_of}
use Rattle.claims_world.specs.Requests.{endpoint_of, Windows, window_at, asks_then}
use Rattle.law_reports.specs.requests.driver_requests.Requests.{IsOfTransfer}
use Rattle.law_reports.specs.requests.Courses.{Course, queue_in, NoQueue, has_queue}
use Rattle.law_reports.specs.requests.Records.{Numbers, AreRecords, IsOnceAt}
use Rattle.law_reports.specs.requests.QueueEvents.{course_after, line_after}
use Rattle.usb_base.specs.declared.packets.Way.TheVariants as ways
use Rattle.usb_base.specs.declared.packets.EpKind.TheVariants as kinds
use Rattle.usb_base.specs.declared.commands.Cmd.TheVariants as commands
use Rattle.drv_table.specs.declared.content.Command.TheVariants as unfinished

pub one_way : (way : Way) → way ≢ ways.Ctl → has_stream (queued_kind way) ≡ true
one_way ways.Ctl other = absurd (other refl)
one_way _ other = refl

pub publish_open : (b : ℕ) (words : List ℕ) (q : ℕ)
    → ◌≡◌ {A = Option Command} (Some (unfinished.Publish b words)) (Some (unfinished.Open q)) → ⊥
publish_open b words q e = cc

pub of_transfer : (d : DriverContent) (e t : ℕ) → IsOfTransfer d e t → endpoint_of d t ≡ Some e
of_transfer d e t k = ap (option_map (λ (y : Transfer). y.endpoint)) k.here ∙ ap (λ (i : ℕ). Some i) k.endpoint

pub no_iso : (kind : EpKind) → has_stream kind ≡ true → is_iso kind ≡ false
no_iso kinds.Iso is = absurd (false≢true is)
no_iso _ is = refl

pub queue_open : (b c : ℕ) → b ≡ c → Some (unfinished.Open b) ≡ Some (unfinished.Open c)
queue_open b c is = ap (λ (q : ℕ). Some (unfinished.Open q)) is

pub none_there : (s : Script) (e : ℕ) (y : Endpoint) → slice_get (opening_world s).driver.endpoints e ≡ Some y → ⊥
none_there s e y here = cc

pub none_opens : {q : ℕ} → ◌≡◌ {A = Option Command} None (Some (unfinished.Open q)) → ⊥
none_opens same = cc

pub regone : (d : DriverContent) (asks : ℕ → Request) (courses : ℕ → Course) (numbers : ℕ → Numbers) (gone later : ℕ → Bool) (v : Windows)
    → ((i : ℕ) → later i ≡ true → gone i ≡ true) → AreRecords d asks courses numbers gone v
    → AreRecords d asks courses numbers later v
regone d asks courses numbers gone later v fewer rec = record { each = rec.each; left = λ e on. rec.left e (fewer e on); none = rec.none }

pub queue_still : (step : Option Step) (n : ℕ) (c : Course) → queue_in (course_after step n c) ≡ queue_in c
queue_still step n NoQueue = refl
queue_still step n _ = refl

pub has_still : (step : Option Step) (n : ℕ) (c : Course) → has_queue (course_after step n c) ≡ has_queue c
has_still step n NoQueue = refl
has_still step n _ = refl

pub from_first : (f : ℕ → ℕ) (n : ℕ) → first_of f (suc n) ≡ f 0 ∷ first_of (λ k. f (suc k)) n
from_first f zero = refl
from_first f (suc n) = ap (λ (ks : List ℕ). ks ++ f (suc n) ∷ []) (from_first f n)

pub less_one : (f : ℕ → ℕ) (n : ℕ) → 0 < n → first_of f n ≡ f 0 ∷ first_of (λ k. f (suc k)) (n - 1)
less_one f zero some = absurd (omega (arith, some))
less_one f (suc n) some = let same : n ≡ suc n - 1 = omega arith in from_first f n ∙ ap (λ (k : ℕ). f 0 ∷ first_of (λ k. f (suc k)) k) same

pub told_by : (a b c : Bool) (o : Option EndCause) → b ≡ false → (if a && b && c then None else o) ≡ o
told_by a true c o is = absurd cc
told_by true false c o is = refl
told_by false false c o is = refl

pub first_unmoved : (note : ℕ → QtdNote) (b i : ℕ) → 1 ≤ i → AreUnmoved note b i → (note b).moved ≡ 0
first_unmoved note b zero some k = absurd (omega (arith, some))
first_unmoved note b (suc i) some k = k.0

pub either_way : (P : DriverContent → Type 0) (b : Bool) (c d : DriverContent) → P c → P d → P (if b then c else d)
either_way P true c d h k = h
either_way P false c d h k = k

pub windows_once : (asks : ℕ → Request) (v : Windows) (ts : List ℕ) → AllByRecursion (IsOnceAt asks v) ts
    → AllByRecursion (λ w. IsOnce w.request.setup w.acts) (map (window_at asks v) ts)
windows_once asks v [] all = tt
windows_once asks v (t ∷ ts) all = (all.0, windows_once asks v ts all.1)

pub one_head : (q h : Qh) → ◌≡◌ {A = Option Structure} (Some (QueueHead q)) (Some (QueueHead h)) → q ≡ h
one_head q h same = cc

pub stepped_is : (sent : ℕ → Queue) (lines : ℕ → Lines) (n : ℕ) (step : Option Step)
    → stepped sent step lines n ≡ line_after step n (sent n) (lines n)
stepped_is sent lines n None = refl
stepped_is sent lines n (Some s) = refl

pub mapped : {A B : Type 0} (f : A → B) (xs : ℕ → A) (n : ℕ) → map f (first_of xs n) ≡ first_of (λ i. f (xs i)) n
mapped f xs zero = refl
mapped {A} {B} f xs (suc n) = map-append f (first_of xs n) (xs n ∷ []) ∙ ap (λ (ys : List B). ys ++ f (xs n) ∷ []) (mapped f xs n)

pub progress_rises : (v : Queue) (p : Progress) (l : Lines) → l.under ≤ (progressed v p l).under
progress_rises v (Transaction losses) l = omega arith
progress_rises v Advance l = omega arith

pub rises_if : (v : Queue) (p : Progress) (l : Lines) (b : Bool) → l.under ≤ (if b then progressed v p l else l).under
rises_if v p l true = progress_rises v p l
rises_if v p l false = omega arith

pub under_rises : (sent : ℕ → Queue) (step : Option Step) (lines : ℕ → Lines) (n : ℕ) → (lines n).under ≤ (stepped sent step lines n).under
under_rises sent None lines n = omega arith
under_rises sent (Some s) lines n = rises_if (sent n) s.is (lines n) (n == s.at)

pub asked_before : (d : DriverContent) (cmd : Cmd) (asks : ℕ → Request) (t : ℕ) → t < length d.transfers → asks_then d cmd asks t ≡ asks t
asked_before d (commands.Control name setup bytes) asks t low = at (t == length d.transfers) refl
  where
    at : (b : Bool) → (t == length d.transfers) ≡ b → (if b then record { setup = setup; bytes = bytes } else asks t) ≡ asks t
    at false is = refl
    at true is = let same = eqb-true t (length d.transfers) is in absurd (omega (arith, low, same))
asked_before d (commands.OpenEp x) asks t low = refl
asked_before d (commands.Get name len by) asks t low = refl
asked_before d (commands.Put name bytes by) asks t low = refl
asked_before d (commands.Iso name count len seed) asks t low = refl
asked_before d (commands.Cancel name) asks t low = refl
asked_before d _ asks t low = refl
