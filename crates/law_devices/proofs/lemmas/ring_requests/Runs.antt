-- Each transaction of the request under way, and each advance to the next one, is one of the run of an endpoint's requests.
use Rattle.std.proofs.Common.{◌≡◌, ℕ, zero, suc, ◌<◌, Bool, if◌then◌else◌, List, [], ◌∷◌, ◌++◌, map, ap, refl, sym, ◌∙◌, arith}
use Rattle.std.proofs.lemmas.Bool.{eq-eqb}
use Rattle.std.proofs.lemmas.List.{map-append}
use Rattle.law_common.proofs.Numbers.{other_number}
use Rattle.dev_control.specs.Stages.{Stages}
use Rattle.bus_wire.specs.declared.asked.Losses.{Losses}
use Rattle.claims_report.specs.Requests.{Request}
use Rattle.law_request.specs.Host.{Endpoint}
use Rattle.law_request.specs.Line.{Line, line_at, transacted}
use Rattle.law_request.specs.Windows.{Turn, after_all, window_of, windows, left_after, counted_in}
use Rattle.law_request.proofs.Counts.{windows_count}
use Rattle.law_devices.specs.ring_requests.Windows.{Queue, Lines, lines_at, Progress, Transaction, Advance, opened, progressed}
use Rattle.law_devices.specs.ring_requests.Runs.{first_of, IsRun, turns_of}

-- ---- lists

pub first_same : {A : Type 0} (f g : ℕ → A) (n : ℕ) → ((i : ℕ) → i < n → f i ≡ g i) → first_of f n ≡ first_of g n
first_same f g zero same = refl
first_same {A} f g (suc n) same =
    ap (λ (xs : List A). xs ++ f n ∷ []) (first_same f g n (λ i less. same i (omega (arith, less)))) ∙ ap (λ (x : A). first_of g n ++ x ∷ []) (same n (omega (arith)))

after_more : (e : Endpoint) (r : Request) (xs : List Losses) (x : Losses) (l : Line) → after_all e r (xs ++ x ∷ []) l ≡ transacted e r x (after_all e r xs l)
after_more e r [] x l = refl
after_more e r (y ∷ ys) x l = after_more e r ys x (transacted e r y l)

windows_more : (e : Endpoint) (ts : List Turn) (t : Turn) (c : Stages) → windows e (ts ++ t ∷ []) c ≡ windows e ts c ++ window_of e t (left_after e ts c) ∷ []
windows_more e [] t c = refl
windows_more e (u ∷ us) t c = ap (λ (ls : List Line). window_of e u c ∷ ls) (windows_more e us t (window_of e u c).device)

left_more : (e : Endpoint) (ts : List Turn) (t : Turn) (c : Stages) → left_after e (ts ++ t ∷ []) c ≡ (window_of e t (left_after e ts c)).device
left_more e [] t c = refl
left_more e (u ∷ us) t c = left_more e us t (window_of e u c).device

-- ---- the run

pub run_begins : (v : Queue) (ping : Bool) (c : Stages) → IsRun v c (lines_at v ping c)
run_begins v ping c = record { earlier = []; last = record { request = v.requests 0; ping = ping; losses = [] }; requests = refl; request = refl; lines = refl; line = refl }

pub run_windows : (v : Queue) (c : Stages) (l : Lines) (k : IsRun v c l) → windows v.endpoint (turns_of k) c ≡ first_of l.line (suc l.under)
run_windows v c l k =
    windows_more v.endpoint k.earlier k.last c
    ∙ ap (λ (ls : List Line). ls ++ window_of v.endpoint k.last (left_after v.endpoint k.earlier c) ∷ []) k.lines
    ∙ ap (λ (x : Line). first_of l.line l.under ++ x ∷ []) (sym k.line)

pub run_requests : (v : Queue) (c : Stages) (l : Lines) (k : IsRun v c l) → map (λ (t : Turn). t.request) (turns_of k) ≡ first_of v.requests (suc l.under)
run_requests v c l k =
    map-append (λ (t : Turn). t.request) k.earlier (k.last ∷ [])
    ∙ ap (λ (rs : List Request). rs ++ k.last.request ∷ []) k.requests
    ∙ ap (λ (r : Request). first_of v.requests l.under ++ r ∷ []) k.request

left_is : (v : Queue) (c : Stages) (l : Lines) (k : IsRun v c l) → left_after v.endpoint (turns_of k) c ≡ (l.line l.under).device
left_is v c l k = left_more v.endpoint k.earlier k.last c ∙ ap (λ (x : Line). x.device) (sym k.line)

pub run_counts : (v : Queue) (c : Stages) (l : Lines) → IsRun v c l → (l.line l.under).device.acted ≡ counted_in (first_of l.line (suc l.under)) c.acted
run_counts v c l k =
    ap (λ (d : Stages). d.acted) (sym (left_is v c l k)) ∙ windows_count v.endpoint (turns_of k) c ∙ ap (λ (ls : List Line). counted_in ls c.acted) (run_windows v c l k)

pub run_goes_on : (v : Queue) (c : Stages) (l : Lines) (p : Progress) → IsRun v c l → IsRun v c (progressed v p l)
run_goes_on v c l (Transaction losses) k = record {
  earlier = k.earlier;
  last = record k.last { losses = k.last.losses ++ losses ∷ [] };
  requests = k.requests;
  request = k.request;
  lines = k.lines
      ∙ first_same l.line (progressed v (Transaction losses) l).line l.under
      (λ i less. ap (λ (b : Bool). if b then transacted v.endpoint (v.requests i) losses (l.line i) else l.line i) (sym (other_number i l.under (λ is. omega (arith, less, is)))));
  line = ap (λ (b : Bool). if b then transacted v.endpoint (v.requests l.under) losses (l.line l.under) else l.line l.under) (eq-eqb l.under l.under refl)
      ∙ ap (λ (x : Line). transacted v.endpoint (v.requests l.under) losses x) k.line
      ∙ ap (λ (r : Request). transacted v.endpoint r losses (window_of v.endpoint k.last (left_after v.endpoint k.earlier c))) (sym k.request)
      ∙ sym (after_more v.endpoint k.last.request k.last.losses losses (line_at v.endpoint k.last.request k.last.ping (left_after v.endpoint k.earlier c)));
}
run_goes_on v c l Advance k = record {
  earlier = turns_of k;
  last = record { request = v.requests (suc l.under); ping = (l.line l.under).host.side.ping; losses = [] };
  requests = run_requests v c l k;
  request = refl;
  lines = run_windows v c l k
      ∙ first_same l.line (progressed v Advance l).line (suc l.under)
      (λ i less. ap (λ (b : Bool). if b then opened v i (l.line l.under) else l.line i) (sym (other_number i (suc l.under) (λ is. omega (arith, less, is)))));
  line = ap (λ (b : Bool). if b then opened v (suc l.under) (l.line l.under) else l.line (suc l.under)) (eq-eqb (suc l.under) (suc l.under) refl)
      ∙ ap (λ (d : Stages). line_at v.endpoint (v.requests (suc l.under)) (l.line l.under).host.side.ping d) (sym (left_is v c l k));
}
