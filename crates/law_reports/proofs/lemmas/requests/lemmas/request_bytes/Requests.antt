-- The stages of a control request (USB 2.0, 8.5.3 and 9.3), and what they send.
use Rattle.std.proofs.Common.{◌≡◌, ℕ, zero, suc, ◌≤◌, ◌⊎◌, Bool, true, false, not, nat_eq, if◌then◌else◌, List, [], ◌∷◌, ◌++◌, length, take, drop, ap, refl, sym, subst, ◌∙◌, ⊎_elim, inl, inr, arith}
use Rattle.std.specs.List.{AllByRecursion}
use Rattle.std.proofs.lemmas.Bool.{true≢false}
use Rattle.std.proofs.lemmas.List.{take_all, length-append}
use Rattle.law_common.proofs.Lists.{first_eight}
use Rattle.word_mem.specs.Memory.{Mem}
use Rattle.drv_table.specs.declared.content.QtdNote.{QtdNote}
use Rattle.drv_table.specs.declared.content.Stage.{Stage}
use Rattle.drv_table.specs.Words.{request_length, asks_in, setup_stage, data_stage, status_stage, request_stages}
use Rattle.drv_table.specs.Harvests.{note_at, buffer_bytes}
use Rattle.drv_table.specs.Offers.{sends}
use Rattle.dev_control.specs.Stages.{is_read, wanted_of}
use Rattle.claims_report.specs.Requests.{Request}
use Rattle.law_request.specs.Host.{has_data}
use Rattle.law_request.specs.Windows.{IsRequest}
use Rattle.law_reports.specs.requests.request_bytes.Held.{RequestIsHeld}
use Rattle.law_reports.proofs.lemmas.requests.lemmas.request_bytes.Sending.{AreGiven, AreSentFrom}

abbrev pub no_data : List Stage
no_data = setup_stage ∷ status_stage true ∷ []

abbrev pub with_data : List ℕ → List Stage
with_data setup = setup_stage ∷ data_stage (asks_in setup) (request_length setup) ∷ status_stage (not (asks_in setup)) ∷ []

pub request_case : (r : Request) → ((has_data r ≡ false) × (request_stages r.setup ≡ no_data)) ⊎ ((has_data r ≡ true) × (request_stages r.setup ≡ with_data r.setup))
request_case r = by (nat_eq (request_length r.setup) 0) refl
  where
    by : (b : Bool) → nat_eq (request_length r.setup) 0 ≡ b → ((has_data r ≡ false) × (request_stages r.setup ≡ no_data)) ⊎ ((has_data r ≡ true) × (request_stages r.setup ≡ with_data r.setup))
    by true is = inl (ap not is, ap (λ (t : Bool). if t then no_data else with_data r.setup) is)
    by false is = inr (ap not is, ap (λ (t : Bool). if t then no_data else with_data r.setup) is)

-- ---- their PIDs

few_pid : (b : Bool) → (if b then 1 else 0) ≤ 2
few_pid true = omega arith
few_pid false = omega arith

pub request_pids : (r : Request) → AllByRecursion (λ s. s.pid ≤ 2) (request_stages r.setup)
request_pids r =
    ⊎_elim (λ none. subst (λ (ss : List Stage). AllByRecursion (λ s. s.pid ≤ 2) ss) (sym none.1) (omega arith, (omega arith, tt)))
    (λ some. subst (λ (ss : List Stage). AllByRecursion (λ s. s.pid ≤ 2) ss) (sym some.1) (omega arith, (few_pid (asks_in r.setup), (few_pid (not (asks_in r.setup)), tt))))
    (request_case r)

-- ---- what they send

data_out : (r : Request) → is_read r.setup ≡ false → sends (data_stage (asks_in r.setup) (request_length r.setup)) ≡ wanted_of r.setup
data_out r out = ap (λ (b : Bool). sends (data_stage b (request_length r.setup))) out

data_in : (r : Request) → is_read r.setup ≡ true → sends (data_stage (asks_in r.setup) (request_length r.setup)) ≡ 0
data_in r read = ap (λ (b : Bool). sends (data_stage b (request_length r.setup))) read

nothing : (b : Bool) → sends (status_stage b) ≡ 0
nothing true = refl
nothing false = refl

behind_eight : (xs ys : List ℕ) (n : ℕ) → length xs ≡ n → drop n (xs ++ ys) ≡ ys
behind_eight [] ys zero long = refl
behind_eight [] ys (suc n) long = absurd (omega (arith, long))
behind_eight (x ∷ xs) ys zero long = absurd (omega (arith, long))
behind_eight (x ∷ xs) ys (suc n) long = behind_eight xs ys n (omega (arith, long))

status_given : (b : Bool) (bytes : List ℕ) → AreGiven (status_stage b ∷ []) bytes
status_given b bytes = (let e = nothing b in omega (arith, e), tt)

data_few : (r : Request) → IsRequest r → sends (data_stage (asks_in r.setup) (request_length r.setup)) ≤ length r.bytes
data_few r is = by (is_read r.setup) refl
  where
    by : (b : Bool) → is_read r.setup ≡ b → sends (data_stage (asks_in r.setup) (request_length r.setup)) ≤ length r.bytes
    by true read = let e = data_in r read in omega (arith, e)
    by false out = let e = data_out r out in let l = is.bytes out in omega (arith, e, l)

eight_given : (r : Request) → IsRequest r → 8 ≤ length (r.setup ++ r.bytes)
eight_given r is = let l = length-append r.setup r.bytes in let s = is.setup in omega (arith, l, s)

pub request_given : (r : Request) → IsRequest r → AreGiven (request_stages r.setup) (r.setup ++ r.bytes)
request_given r is =
    ⊎_elim
    (λ (none : (has_data r ≡ false) × (request_stages r.setup ≡ no_data)).
    subst (λ (ss : List Stage). AreGiven ss (r.setup ++ r.bytes)) (sym none.1) (eight_given r is, status_given true (drop 8 (r.setup ++ r.bytes))))
    (λ (some : (has_data r ≡ true) × (request_stages r.setup ≡ with_data r.setup)).
    subst (λ (ss : List Stage). AreGiven ss (r.setup ++ r.bytes)) (sym some.1) (
      eight_given r is,
      subst (AreGiven (data_stage (asks_in r.setup) (request_length r.setup) ∷ status_stage (not (asks_in r.setup)) ∷ [])) (sym (behind_eight r.setup r.bytes 8 is.setup))
          (data_few r is, status_given (not (asks_in r.setup)) (drop (sends (data_stage (asks_in r.setup) (request_length r.setup))) r.bytes)),
    ))
    (request_case r)

-- ---- what stands in its buffers

with_data_held : (m : Mem) (notes : List QtdNote) (b : ℕ) (r : Request) → IsRequest r → AreSentFrom m notes (with_data r.setup) b (r.setup ++ r.bytes) → RequestIsHeld m notes b r
with_data_held m notes b r is sent = record {
  setup = sent.0 ∙ first_eight r.setup r.bytes 8 is.setup;
  sent = λ some out.
      let note = note_at notes (note_at notes b).next in
      let long = is.bytes out in
      ap (buffer_bytes m note) (sym (data_out r out)) ∙ sent.1.0 ∙ ap (λ (n : ℕ). take n (drop 8 (r.setup ++ r.bytes))) (data_out r out)
      ∙ ap (take (wanted_of r.setup)) (behind_eight r.setup r.bytes 8 is.setup) ∙ take_all (wanted_of r.setup) r.bytes (omega (arith, long));
}

no_data_held : (m : Mem) (notes : List QtdNote) (b : ℕ) (r : Request) → IsRequest r → has_data r ≡ false → AreSentFrom m notes no_data b (r.setup ++ r.bytes) → RequestIsHeld m notes b r
no_data_held m notes b r is none sent = record {
  setup = sent.0 ∙ first_eight r.setup r.bytes 8 is.setup;
  sent = λ some out. absurd (true≢false (sym some ∙ none));
}

pub request_held : (m : Mem) (notes : List QtdNote) (b : ℕ) (r : Request) → IsRequest r → AreSentFrom m notes (request_stages r.setup) b (r.setup ++ r.bytes) → RequestIsHeld m notes b r
request_held m notes b r is sent =
    ⊎_elim
    (λ (none : (has_data r ≡ false) × (request_stages r.setup ≡ no_data)).
    no_data_held m notes b r is none.0 (subst (λ (ss : List Stage). AreSentFrom m notes ss b (r.setup ++ r.bytes)) none.1 sent))
    (λ (some : (has_data r ≡ true) × (request_stages r.setup ≡ with_data r.setup)).
    with_data_held m notes b r is (subst (λ (ss : List Stage). AreSentFrom m notes ss b (r.setup ++ r.bytes)) some.1 sent))
    (request_case r)
