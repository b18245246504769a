-- The two requests of the sample are transfers of its driver, and laid out.
use Rattle.std.proofs.Common.{◌≡◌, ◌≢◌, ℕ, zero, suc, ◌<◌, ◌≤◌, Some, refl, sym, subst, ◌∙◌, arith}
use Rattle.std.proofs.lemmas.Bool.{eqb-true, false≢true}
use Rattle.std.proofs.lemmas.Option.{same_Some}
use Rattle.drv_table.specs.declared.content.Transfer.{Transfer}
use Rattle.law_request.specs.Host.{Stage, Setup}
use Rattle.law_request.specs.Windows.{IsRequest}
use Rattle.law_devices.specs.ring_requests.Laid.{place_at, AreApart, AreOthers}
use Rattle.law_devices.specs.ring_requests.Samples.{asked}
use Rattle.law_devices.specs.ring_requests.Windows.{AreChained, AreSent}
use Rattle.law_reports.specs.requests.driver_requests.Requests.{IsOfTransfer, IsLaidOut, AreOfEndpoint, AreOfDriver, HaveQtds, AreUnderWay}
use Rattle.law_reports.specs.requests.driver_requests.Samples.{endpoint, first, second, driver, is_queue, stand_at, requests, begun}

below_two : (P : ℕ → Type 0) (i : ℕ) → P 0 → P 1 → i < 2 → P i
below_two P zero one two few = one
below_two P (suc zero) one two few = two
below_two P (suc (suc i)) one two few = absurd (omega (arith, few))

-- ---- they are the driver's

are_transfers : (i : ℕ) → i < 2 → IsOfTransfer driver 0 i
are_transfers i few =
    below_two (IsOfTransfer driver 0) i (record { own = first; here = refl; endpoint = refl; sort = refl }) (record { own = second; here = refl; endpoint = refl; sort = refl }) few

are_laid : (i : ℕ) → i < 2 → IsLaidOut driver i (asked i) (stand_at i)
are_laid i few =
    below_two (λ (i : ℕ). IsLaidOut driver i (asked i) (stand_at i)) i (record { own = first; here = refl; held = refl; qtds = refl; places = refl })
    (record { own = second; here = refl; held = refl; qtds = refl; places = refl }) few

are_of_endpoint : AreOfEndpoint driver requests 0 4160 0 (λ i. i)
are_of_endpoint = record {
  endpoint = record { own = endpoint; here = refl; control = refl; queue = refl; held = refl; address = refl; number = refl };
  transfers = are_transfers;
  rising = λ i k less few. less;
  laid = λ i after few. are_laid i few;
}

pub are_of_driver : AreOfDriver driver is_queue (λ n. requests) (λ n. begun) (λ n. 0) (λ n i. i)
are_of_driver n on = subst (λ (n : ℕ). AreOfEndpoint driver requests 0 n 0 (λ i. i)) (sym (eqb-true n 4160 on)) are_of_endpoint

pub under_way : AreUnderWay is_queue (λ n. requests) (λ n. begun)
under_way n on = omega arith

pub have_qtds : HaveQtds driver
have_qtds zero y here sort held = subst (λ (y : Transfer). 1 ≤ y.qtds) (same_Some first y here) (omega arith)
have_qtds (suc zero) y here sort held = subst (λ (y : Transfer). 1 ≤ y.qtds) (same_Some second y here) (omega arith)
have_qtds (suc (suc t)) y here sort held = absurd (cc)

-- ---- what is fixed of them

both_chained : AreChained requests
both_chained i few = subst (λ (i : ℕ). (stand_at i).behind ≡ Some (stand_at (suc i)).setup) (let none : 0 ≡ i = omega (arith, few) in none) refl

first_low : (s : Stage) → place_at (stand_at 0) s ≤ 4288
first_low Setup = omega arith
first_low _ = omega arith

second_high : (s : Stage) → 4320 ≤ place_at (stand_at 1) s
second_high Setup = omega arith
second_high _ = omega arith

first_second : AreOthers (stand_at 0) (stand_at 1)
first_second s t same = let low = first_low s in let high = second_high t in omega (arith, same, low, high)

second_first : AreOthers (stand_at 1) (stand_at 0)
second_first s t same = first_second t s (sym same)

are_others : (i k : ℕ) → i < 2 → k < 2 → i ≢ k → AreOthers (stand_at i) (stand_at k)
are_others i k few fewer differs =
    below_two (λ (i : ℕ). (k : ℕ) → k < 2 → i ≢ k → AreOthers (stand_at i) (stand_at k)) i
    (λ k fewer. below_two (λ (k : ℕ). 0 ≢ k → AreOthers (stand_at 0) (stand_at k)) k (λ differs. absurd (differs refl)) (λ differs. first_second) fewer)
    (λ k fewer. below_two (λ (k : ℕ). 1 ≢ k → AreOthers (stand_at 1) (stand_at k)) k (λ differs. second_first) (λ differs. absurd (differs refl)) fewer) few k fewer differs

pub both_sent : AreSent is_queue is_queue (λ n. requests)
both_sent = record {
  members = λ n on. on;
  requests = λ n i on few. below_two (λ (i : ℕ). IsRequest (asked i)) i (record { setup = refl; bytes = λ off. absurd (false≢true (sym off)) }) (record { setup = refl; bytes = λ off. absurd (false≢true (sym off)) }) few;
  whole = λ n on. omega arith;
  places = λ n i on few.
      below_two (λ (i : ℕ). AreApart (stand_at i)) i (record { setup_data = λ is. omega (arith, is); setup_status = λ is. omega (arith, is); data_status = λ is. omega (arith, is) })
      (record { setup_data = λ is. omega (arith, is); setup_status = λ is. omega (arith, is); data_status = λ is. omega (arith, is) }) few;
  others = λ n i k on few fewer differs. are_others i k few fewer differs;
  chained = λ n on. both_chained;
  apart = λ n k on one same same_too. eqb-true n 4160 on ∙ sym (eqb-true k 4160 one);
}
