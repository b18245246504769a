-- What is recorded of the sample's requests.
use Rattle.std.proofs.Common.{◌≡◌, ℕ, zero, suc, ◌<◌, ◌≤◌, ◌==◌, Bool, true, false, [], None, if◌then◌else◌, refl, sym, subst, inl, inr, arith}
use Rattle.std.proofs.lemmas.Bool.{eqb-true, false≢true}
use Rattle.law_devices.specs.request_stores.Published.{without_first}
use Rattle.law_devices.specs.ring_requests.Samples.{asked}
use Rattle.law_devices.specs.ring_requests.Windows.{Queue, Lines}
use Rattle.claims_world.specs.Requests.{endpoint_of, Windows, no_windows}
use Rattle.law_reports.specs.requests.driver_requests.Samples.{driver, requests, begun}
use Rattle.law_reports.proofs.lemmas.requests.lemmas.driver_requests.Sampling.{are_of_driver}
use Rattle.law_reports.specs.requests.Courses.{Course, NoQueue, Asks, has_queue}
use Rattle.law_reports.specs.requests.QueueChanges.{lines_behind}
use Rattle.law_reports.specs.requests.Records.{Numbers, IsNumbered, AreActs, IsRecord, AreRecords}
use Rattle.law_reports.specs.requests.TransferSamples.{courses, both, one, none_gone, first_acted, first_done, then_next}
use Rattle.law_reports.proofs.lemmas.requests.TransferChanging.{first_is_closed}

-- ---- its one queue head

has_one : (b : Bool) (c : Course) → has_queue (if b then c else NoQueue) ≡ true → b ≡ true
has_one true c on = refl
has_one false c on = absurd (false≢true on)

are_records : (q : Queue) (l : Lines) (a : Numbers) (v : Windows) → IsRecord driver asked 4160 (Asks q 4416 l) a v → ((t : ℕ) → endpoint_of driver t ≡ None → v.acts t ≡ [])
    → AreRecords driver asked (courses q l) (λ n. a) none_gone v
are_records q l a v k none = record {
  each = λ n on. subst (λ (n : ℕ). IsRecord driver asked n (courses q l n) a v) (sym (eqb-true n 4160 (has_one (n == 4160) (Asks q 4416 l) on))) k;
  left = λ e off. absurd (false≢true off);
  none = none;
}

numbered : (l : Lines) → IsNumbered driver asked 4160 (Asks requests 4416 l) both
numbered l = record {
  own = are_of_driver 4160 refl;
  order = record { numbers = refl; requests = λ i few. refl };
  ahead = record { endpoint = refl; few = omega arith; most = omega arith; same = λ i few. refl };
}

both_record : (l : Lines) (v : Windows) → AreActs (Asks requests 4416 l) both v → IsRecord driver asked 4160 (Asks requests 4416 l) both v
both_record l v acts = record { numbered = numbered l; acts = acts; closed = tt }

none_acted : (t : ℕ) → endpoint_of driver t ≡ None → first_acted.acts t ≡ []
none_acted (suc (suc t)) none = refl
none_acted _ none = absurd (cc)

-- ---- before the first is begun

pub begun_recorded : AreRecords driver asked (courses requests begun) (λ n. both) none_gone no_windows
begun_recorded =
    are_records requests begun both no_windows (both_record begun no_windows (record { begun = λ i upto. refl; behind = λ i after few. refl; is_open = inr refl })) (λ t none. refl)

-- ---- once it is done

upto_first : (i : ℕ) → i ≤ 0 → first_acted.acts i ≡ (first_done.line i).acts
upto_first zero upto = refl
upto_first (suc i) upto = absurd (omega (arith, upto))

behind_first : (i : ℕ) → 0 < i → i < 2 → first_acted.acts i ≡ []
behind_first zero after few = absurd (omega (arith, after))
behind_first (suc zero) after few = refl
behind_first (suc (suc i)) after few = absurd (omega (arith, few))

done_acts : AreActs (Asks requests 4416 first_done) both first_acted
done_acts = record { begun = upto_first; behind = behind_first; is_open = inl refl }

pub done_recorded : AreRecords driver asked (courses requests first_done) (λ n. both) none_gone first_acted
done_recorded = are_records requests first_done both first_acted (both_record first_done first_acted done_acts) none_acted

-- ---- once the second is begun

upto_second : (i : ℕ) → i ≤ 1 → first_acted.acts i ≡ (then_next.line i).acts
upto_second (suc (suc i)) upto = absurd (omega (arith, upto))
upto_second _ upto = refl

next_acts : AreActs (Asks requests 4416 then_next) both first_acted
next_acts = record { begun = upto_second; behind = λ i after few. absurd (omega (arith, after, few)); is_open = inr refl }

next_record : IsRecord driver asked 4160 (Asks requests 4416 then_next) both first_acted
next_record = both_record then_next first_acted next_acts

pub next_recorded : AreRecords driver asked (courses requests then_next) (λ n. both) none_gone first_acted
next_recorded = are_records requests then_next both first_acted next_record none_acted

pub closed_recorded : AreRecords driver asked (courses (without_first requests) (lines_behind requests then_next)) (λ n. one) none_gone first_acted
closed_recorded =
    are_records (without_first requests) (lines_behind requests then_next) one first_acted (first_is_closed driver asked 4160 4416 requests then_next both first_acted (omega arith) refl next_record) none_acted
