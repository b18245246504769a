-- What is recorded of requests before they are begun, and what is told of them.
use Rattle.std.proofs.Common.{◌≡◌, ◌≢◌, ℕ, suc, ◌<◌, ◌≤◌, Bool, true, false, List, [], map, Option, if◌then◌else◌, ap, refl, sym, subst, ◌∙◌, ⊎_elim, inl, inr, arith}
use Rattle.std.specs.Prelude.{nat_le}
use Rattle.std.proofs.lemmas.Bool.{cases_eq, leb-true, leb-false}
use Rattle.law_reports.proofs.Common.{mapped, under_rises}
use Rattle.dev_control.specs.Stages.{Stages}
use Rattle.claims_report.specs.Acts.{IsOnce}
use Rattle.claims_report.specs.Requests.{Request, Window}
use Rattle.law_request.proofs.Steps.{window_is_right}
use Rattle.claims_report.specs.ControlSides.{Device}
use Rattle.drv_table.specs.DriverContent.{DriverContent}
use Rattle.law_structures.specs.lent_structures.Structures.{StructureSets}
use Rattle.law_ring.specs.Hand.{Hand}
use Rattle.law_devices.specs.ring_requests.Windows.{Queue, Lines, lines_at, IsQueue, Step, stepped}
use Rattle.law_devices.specs.ring_requests.Runs.{first_of}
use Rattle.law_devices.proofs.lemmas.ring_requests.Runs.{first_same}
use Rattle.claims_world.specs.Requests.{Windows, window_at, windows_of}
use Rattle.law_reports.specs.requests.world_requests.Recording.{AreFound, AreRecorded, AreInOrder, told_at}

-- ---- before they are begun

pub recorded_at_first : (v : Queue) (number : ℕ → ℕ) (latest : Option ℕ) (acts : ℕ → List (List ℕ)) (ping : Bool) (c : Stages) → 0 < v.count → ((i : ℕ) → i < v.count → acts (number i) ≡ []) → AreRecorded v number latest acts (lines_at v ping c)
recorded_at_first v number latest acts ping c some none =
    record { begun = λ i upto. none i (omega (arith, some, upto)); behind = λ i after few. none i few; is_open = inr refl }

pub recorded_of_more : (v more : Queue) (number : ℕ → ℕ) (latest : Option ℕ) (acts : ℕ → List (List ℕ)) (l : Lines) → AreRecorded v number latest acts l → more.count ≡ suc v.count → acts (number v.count) ≡ []
    → AreRecorded more number latest acts l
recorded_of_more v more number latest acts l k count none = record {
  begun = k.begun;
  behind = λ i after few.
      ⊎_elim {C = acts (number i) ≡ []} (λ (is : i ≡ v.count). ap (λ (j : ℕ). acts (number j)) is ∙ none) (λ (differs : i ≢ v.count). k.behind i after (omega (arith, few, count, differs)))
      (cases_eq i v.count);
  is_open = k.is_open;
}

-- ---- what is told

module _ (v : Queue) (number : ℕ → ℕ) (latest : Option ℕ) (acts : ℕ → List (List ℕ)) (l : Lines) (i : ℕ) (k : AreRecorded v number latest acts l) (few : i < v.count) where
  by_test : (b : Bool) → nat_le i l.under ≡ b → acts (number i) ≡ (if b then (l.line i).acts else [])
  by_test true is = k.begun i (leb-true i l.under is)
  by_test false is = k.behind i (leb-false i l.under is) few

  acts_of : acts (number i) ≡ (if nat_le i l.under then (l.line i).acts else [])
  acts_of = by_test (nat_le i l.under) refl

  module _ (hand : Hand) (parts : StructureSets) (n : ℕ) (o : Option Device) (q : IsQueue v l hand parts n o) where
    line_once : i ≤ l.under → IsOnce (v.requests i).setup (l.line i).acts
    line_once upto =
        ⊎_elim {C = IsOnce (v.requests i).setup (l.line i).acts}
        (λ (same : i ≡ l.under). subst (λ (j : ℕ). IsOnce (v.requests j).setup (l.line j).acts) (sym same) (window_is_right v.endpoint (v.requests l.under) (l.line l.under) q.window.stands).once)
        (λ (differs : i ≢ l.under). (window_is_right v.endpoint (v.requests i) (l.line i) (q.finished i (omega (arith, upto, differs))).stands).once) (cases_eq i l.under)

    once_by : (b : Bool) → nat_le i l.under ≡ b → IsOnce (v.requests i).setup (acts (number i))
    once_by true is = subst (IsOnce (v.requests i).setup) (sym (k.begun i (leb-true i l.under is))) (line_once (leb-true i l.under is))
    once_by false is = inl (k.behind i (leb-false i l.under is) few)

abbrev window_with : Request → List (List ℕ) → Window
window_with r acts = record { request = r; acts = acts }

pub told_windows : (d : DriverContent) (asks : ℕ → Request) (w : Windows) (e : ℕ) (v : Queue) (number : ℕ → ℕ) (latest : Option ℕ) (l : Lines) → AreInOrder d asks e v number → AreRecorded v number latest w.acts l
    → windows_of d asks w e ≡ first_of (told_at v l) v.count
told_windows d asks w e v number latest l order k =
    ap (map (window_at asks w)) order.numbers ∙ mapped (window_at asks w) number v.count
    ∙ first_same (λ i. window_at asks w (number i)) (told_at v l) v.count
    (λ i few.
    ap (λ (r : Request). window_with r (w.acts (number i))) (order.requests i few)
    ∙ ap (λ (xs : List (List ℕ)). window_with (v.requests i) xs) (acts_of v number latest w.acts l i k few))

pub told_once : (v : Queue) (l : Lines) (number : ℕ → ℕ) (latest : Option ℕ) (acts : ℕ → List (List ℕ)) (hand : Hand) (parts : StructureSets) (n i : ℕ) (o : Option Device) → IsQueue v l hand parts n o
    → AreRecorded v number latest acts l → i < v.count → IsOnce (v.requests i).setup (acts (number i))
told_once v l number latest acts hand parts n i o q k few = once_by v number latest acts l i k few hand parts n o q (nat_le i l.under) refl

-- ---- the requests that aren't done

pub found_stays : (d : DriverContent) (windows : ℕ → Bool) (sent : ℕ → Queue) (lines : ℕ → Lines) (number : ℕ → ℕ → ℕ) (step : Option Step) → AreFound d windows sent lines number → AreFound d windows sent (stepped sent step lines) number
found_stays d windows sent lines number step k n i on after few = k n i on (let rises = under_rises sent step lines n in omega (arith, rises, after)) few
