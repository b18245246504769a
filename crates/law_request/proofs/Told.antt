-- What windows have come to is what a right report tells of their requests.
use Rattle.std.proofs.Common.{◌≡◌, ℕ, ◌+◌, ◌≤◌, if◌then◌else◌, List, [], ◌∷◌, length, inl, inr, refl, sym, ap, ◌∙◌, arith}
use Rattle.std.specs.Prelude.{min, map, filter}
use Rattle.std.specs.List.{concat, AllByRecursion}
use Rattle.law_common.proofs.Numbers.{kept_number, capped}
use Rattle.usb_base.specs.declared.endpoints.EndCause.{EndCause}
use Rattle.usb_base.specs.declared.reports.What.TheVariants as Tells
use Rattle.dev_control.specs.Stages.{Stages}
use Rattle.claims_report.specs.Acts.{IsOnce}
use Rattle.law_device.specs.Acts.{counted}
use Rattle.claims_report.specs.Requests.{Request, Window, IsTold, is_some_act, has_acted}
use Rattle.law_request.specs.Host.{Endpoint, Done}
use Rattle.law_request.specs.Line.{Line}
use Rattle.law_request.specs.Windows.{Turn, IsRight, AreRight, data_of, window_of, windows, left_after, counted_in, told_window, told_windows}
use Rattle.law_request.proofs.Counts.{windows_count}

pub done_told : (e : Endpoint) (r : Request) (l : Line) (ws : List Window) → IsRight e r l → l.host.stage ≡ Done → IsTold (data_of e) Tells.Done l.host.moved (told_window r l ∷ ws)
done_told e r l ws x h = (x.done_once h, x.done_whole h)

pub halt_told : (e : Endpoint) (r : Request) (l : Line) (cause : EndCause) (ws : List Window) → IsRight e r l → IsTold (data_of e) (Tells.Halt cause) l.host.moved (told_window r l ∷ ws)
halt_told e r l cause ws x = x.begins

pub cancel_told : (e : Endpoint) (ts : List Turn) (c : Stages) → AreRight e ts c
    → IsTold (data_of e) Tells.Cancel (concat (map (λ l. l.host.moved) (windows e ts c))) (told_windows e ts c)
cancel_told e [] c x = refl
cancel_told e (t ∷ ts) c x =
    ((window_of e t c).host.moved, concat (map (λ l. l.host.moved) (windows e ts (window_of e t c).device)), refl, x.0.begins, cancel_told e ts (window_of e t c).device x.1)

pub acts_told : (e : Endpoint) (ts : List Turn) (c : Stages) → AreRight e ts c → AllByRecursion (λ w. IsOnce w.request.setup w.acts) (told_windows e ts c)
acts_told e [] c x = tt
acts_told e (t ∷ ts) c x = (x.0.once, acts_told e ts (window_of e t c).device x.1)

-- ---- the count

abbrev number_of : List (List ℕ) → ℕ
number_of acts = if is_some_act acts then 1 else 0

filter_counts : (r : Request) (acts : List (List ℕ)) (ws : List Window)
    → length (filter has_acted (record { request = r; acts = acts } ∷ ws)) ≡ number_of acts + length (filter has_acted ws)
filter_counts r [] ws = omega arith
filter_counts r (a ∷ more) ws = omega arith

once_counts : (setup : List ℕ) (acts : List (List ℕ)) (n : ℕ) → IsOnce setup acts → n ≤ 4294967295 → counted acts n ≡ min (n + number_of acts) 4294967295
once_counts setup acts n o h = elim o [
  | inl e ↦ ap (λ x. counted x n) e ∙ kept_number n 4294967295 h ∙ ap (λ x. min (n + number_of x) 4294967295) (sym e)
  | inr e ↦ ap (λ x. counted x n) e ∙ ap (λ x. min (n + number_of x) 4294967295) (sym e)
]

below : (n most : ℕ) → min n most ≤ most
below n most = omega arith

counted_told : (e : Endpoint) (ts : List Turn) (c : Stages) (n : ℕ) → AreRight e ts c → n ≤ 4294967295
    → counted_in (windows e ts c) n ≡ min (n + length (filter has_acted (told_windows e ts c))) 4294967295
counted_told e [] c n x h = kept_number n 4294967295 h
counted_told e (t ∷ ts) c n x h =
    let l : Line = window_of e t c in
    let k : ℕ = length (filter has_acted (told_windows e ts l.device)) in
    let m : ℕ = min (n + number_of l.acts) 4294967295 in
    ap (counted_in (windows e ts l.device)) (once_counts t.request.setup l.acts n x.0.once h)
    ∙ counted_told e ts l.device m x.1 (below (n + number_of l.acts) 4294967295)
    ∙ capped n (number_of l.acts) k 4294967295
    ∙ ap (λ y. min (n + y) 4294967295) (sym (filter_counts t.request l.acts (told_windows e ts l.device)))

pub count_told : (e : Endpoint) (ts : List Turn) (c : Stages) → AreRight e ts c → c.acted ≤ 4294967295
    → (left_after e ts c).acted ≡ min (c.acted + length (filter has_acted (told_windows e ts c))) 4294967295
count_told e ts c x h = windows_count e ts c ∙ counted_told e ts c c.acted x h
