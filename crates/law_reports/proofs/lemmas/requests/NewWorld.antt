-- A new world has no endpoint and no request.
use Rattle.std.proofs.Common.{[], ◌≡◌, ℕ, zero, suc, Bool, true, slice_get, refl, false}
use Rattle.std.proofs.lemmas.Bool.{false≢true}
use Rattle.law_queues.proofs.Common.{no_endpoint}
use Rattle.script_types.specs.declared.scripts.Script.{Script}
use Rattle.bus_wire.specs.Bus.{fixed_of}
use Rattle.drv_table.specs.declared.content.Endpoint.{Endpoint as DriverEndpoint}
use Rattle.drv_table.specs.DriverContent.{DriverContent}
use Rattle.law_ring.specs.Told.{Endpoint as Told, HasEndpoint}
use Rattle.bus_world.specs.Opening.{opening_world}
use Rattle.law_world.specs.steps.Streaming.{Standing}
use Rattle.claims_world.specs.Requests.{no_windows, no_asks}
use Rattle.law_reports.specs.requests.Courses.{NoQueue, nobody}
use Rattle.law_reports.specs.requests.Records.{Numbers}
use Rattle.law_reports.specs.requests.Asking.{Sides, Asking, left_with, IsAskingWorld}
use Rattle.law_reports.specs.requests.AskingLaws.{IsFirst}
use Rattle.law_reports.specs.requests.Missed.{MissesNone}
use Rattle.law_ring.specs.Hand.{Hand, Empty, Copied, Settled, Stale}

none_left : (g : Sides) (d : DriverContent) (e : ℕ) → left_with g d e (slice_get {X = DriverEndpoint} [] e) ≡ true → ⊥
none_left g d zero on = false≢true on
none_left g d (suc e) on = false≢true on

-- no queue is asked
none_in_hand : (hand : Hand) → MissesNone (λ n. false) hand
none_in_hand Empty = tt
none_in_hand (Copied c) = λ on. absurd (false≢true on)
none_in_hand (Settled c s) = λ on. absurd (false≢true on)
none_in_hand (Stale n q) = tt

abbrev no_numbers : Numbers
no_numbers = record { endpoint = 0; closed = []; requests = nobody; number = λ i. i }

abbrev pub none_asked : Asking
none_asked = record { courses = λ n. NoQueue; numbers = λ n. no_numbers }

module _ (s : Script) (g : Sides) (first : IsFirst s g) (member : ℕ → Bool) (ends : ℕ → Told) (standing : Standing)
    (named : (n : ℕ) → member n ≡ true → HasEndpoint standing.parts n (ends n)) where
  pub new_asking : IsAskingWorld g (fixed_of s) member standing (record { courses = λ n. NoQueue; numbers = λ n. record { endpoint = 0; closed = []; requests = nobody; number = λ i. i } }) no_windows no_asks (opening_world s)
  new_asking = record {
    stand = record {
      each = λ n. tt;
      members = λ n has. absurd (false≢true has);
      apart = λ n i has other address number. absurd (false≢true has);
      others = λ n met none. record { own = ends n; has = named n met; other = λ i has address number. false≢true has };
    };
    records = record {
      each = λ n has. absurd (false≢true has);
      left = λ e left. absurd (none_left g (opening_world s).driver e left);
      none = λ t none. refl;
    };
    each = λ e z is. absurd (no_endpoint e z is.is.here);
    asked = λ n z has here. absurd (false≢true has);
    publishing = λ e z is on. absurd (no_endpoint e z is.is.here);
    read = λ e t z y is going next here. absurd (no_endpoint e z is.is.here);
    telling = λ e z is. absurd (no_endpoint e z is.is.here);
    given = λ e z is. absurd (no_endpoint e z is.here);
    counts = λ e z is off. absurd (no_endpoint e z is.here);
    unopened = λ addr num c least none is. first addr num c is;
    untold = λ name unnamed. refl;
    unmissed = record {
      structures = record { heads = λ n p has here. absurd (false≢true has); elements = λ n b t has here. absurd (false≢true has) };
      in_hand = none_in_hand standing.hand;
      first = tt;
    };
  }
