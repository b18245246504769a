-- The windows of an endpoint's requests are those of a run (USB 2.0, 8.5.3): one after the other, each on the device as the one before it left it.
--     first_of f n               the first n
--     IsRun v c l                so are the windows of the requests that were begun, from the device c on
--     turns_of k                 each of these requests, with the packets that were lost
use Rattle.std.specs.Prelude.{◌≡◌, ℕ, zero, suc, List, [], ◌∷◌, ◌++◌, map}
use Rattle.dev_control.specs.Stages.{Stages}
use Rattle.law_request.specs.Windows.{Turn, window_of, windows, left_after}
use Rattle.law_devices.specs.ring_requests.Windows.{Queue, Lines}

abbrev pub first_of : {A : Type 0} → (ℕ → A) → ℕ → List A
first_of f zero = []
first_of f (suc n) = first_of f n ++ f n ∷ []

-- `last` is the request under way
pub record IsRun (v : Queue) (c : Stages) (l : Lines) : Type 0 where
  pub earlier : List Turn
  pub last : Turn
  pub requests : map (λ t. t.request) earlier ≡ first_of v.requests l.under
  pub request : last.request ≡ v.requests l.under
  pub lines : windows v.endpoint earlier c ≡ first_of l.line l.under
  pub line : l.line l.under ≡ window_of v.endpoint last (left_after v.endpoint earlier c)

abbrev pub turns_of : {v : Queue} {c : Stages} {l : Lines} → IsRun v c l → List Turn
turns_of k = k.earlier ++ k.last ∷ []
