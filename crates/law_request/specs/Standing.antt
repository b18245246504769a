-- How host and device stand to each other in the window of a request, stage by stage (USB 2.0, 8.5.3 and 8.6).
--     Stands e r l               they stand so; each transaction keeps it, and it says that the window is right
use Rattle.std.specs.Prelude.{◌≡◌, ℕ, ◌+◌, ◌==◌, ◌⊎◌, min, Bool, true, false, not, List, [], ◌∷◌, ◌++◌, length, Option, Some}
use Rattle.dev_control.specs.declared.control.Request.{Request as UnderWay}
use Rattle.dev_control.specs.Stages.{is_read, wanted_of}
use Rattle.claims_report.specs.Acts.{IsOnce}
use Rattle.claims_base.specs.Prefix.{IsPrefix}
use Rattle.claims_report.specs.Requests.{Request}
use Rattle.law_request.specs.Host.{Endpoint, Stage, Setup, Data, Status, Done, Halted}
use Rattle.law_request.specs.Line.{Line}
use Rattle.law_request.specs.Windows.{data_of}

-- what the two sides' agreement depends on
pub record Sight : Type 0 where
  pub moved : List ℕ  -- the host: the bytes that moved, its toggle, the bytes that are left, and whether the qTD goes on
  pub toggle : Bool
  pub left : ℕ
  pub active : Bool
  pub request : Option UnderWay  -- the device: the request under way
  pub acts : List (List ℕ)

abbrev pub sight_of : Line → Sight
sight_of l = record {
  moved = l.host.moved;
  toggle = l.host.side.toggle;
  left = l.host.side.left;
  active = l.host.side.active;
  request = l.device.request;
  acts = l.acts;
}

-- before the device's ACK of the SETUP was heard: the device may be anywhere
pub record IsBefore (v : Sight) : Type 0 where
  pub moved : v.moved ≡ []
  pub left : v.left ≡ 8
  pub acts : v.acts ≡ []

-- the device has this request under way, so far in its data, with this toggle
abbrev pub under_way : Request → ℕ → Bool → Bool → Option UnderWay
under_way r at turn done = Some (record { setup = r.setup; moved = at; toggle = turn; done = done })

-- In the data stage of a read the device is at the host's place, or one packet behind, of which it hasn't heard that it was received.
pub record ComesIn (e : Endpoint) (r : Request) (v : Sight) : Type 0 where
  pub at : ℕ
  pub turn : Bool
  pub under : v.request ≡ under_way r at turn false
  pub acts : v.acts ≡ []
  pub active : v.active ≡ true
  pub later : List ℕ
  pub whole : v.moved ++ later ≡ data_of e r
  pub left : v.left + length v.moved ≡ wanted_of r.setup
  pub near : ((at ≡ length v.moved) × (v.toggle ≡ turn)) ⊎ ((at + e.max ≡ length v.moved) × (v.toggle ≡ not turn))

-- In that of a write the device is at the host's place, or one packet ahead, of which the host hasn't heard that it was taken.
pub record GoesOut (e : Endpoint) (r : Request) (v : Sight) : Type 0 where
  pub at : ℕ
  pub turn : Bool
  pub under : v.request ≡ under_way r at turn false
  pub acts : v.acts ≡ []
  pub active : v.active ≡ true
  pub later : List ℕ
  pub whole : v.moved ++ later ≡ r.bytes
  pub left : v.left ≡ length later
  pub near : ((at ≡ length v.moved) × (v.toggle ≡ turn)) ⊎ ((at ≡ length v.moved + min e.max v.left) × (v.toggle ≡ not turn))

-- all data moved, and the device acted or hasn't yet
pub record IsAtStatus (e : Endpoint) (r : Request) (v : Sight) : Type 0 where
  pub at : ℕ
  pub turn : Bool
  pub done : Bool
  pub under : v.request ≡ under_way r at turn done
  pub moved : v.moved ≡ data_of e r
  pub toggle : v.toggle ≡ true
  pub left : v.left ≡ 0
  pub acts : ((done ≡ false) × (v.acts ≡ [])) ⊎ ((done ≡ true) × (v.acts ≡ r.setup ∷ []))

pub record IsDone (e : Endpoint) (r : Request) (v : Sight) : Type 0 where
  pub moved : v.moved ≡ data_of e r
  pub acts : v.acts ≡ r.setup ∷ []

pub record IsEnded (e : Endpoint) (r : Request) (v : Sight) : Type 0 where
  pub begins : IsPrefix v.moved (data_of e r)
  pub once : IsOnce r.setup v.acts

abbrev pub Moves : Bool → Endpoint → Request → Sight → Type 0
Moves true e r v = ComesIn e r v
Moves false e r v = GoesOut e r v

-- a data stage, which a request with a wLength of 0 doesn't have
pub record IsMoving (e : Endpoint) (r : Request) (v : Sight) : Type 0 where
  pub wanted : (wanted_of r.setup == 0) ≡ false
  pub way : Moves (is_read r.setup) e r v

abbrev pub StandsAt : Endpoint → Request → Stage → Sight → Type 0
StandsAt e r Setup v = IsBefore v
StandsAt e r Data v = IsMoving e r v
StandsAt e r Status v = IsAtStatus e r v
StandsAt e r Done v = IsDone e r v
StandsAt e r (Halted cause) v = IsEnded e r v

pub record Stands (e : Endpoint) (r : Request) (l : Line) : Type 0 where
  pub host_max : l.host.side.max ≡ e.max
  pub device_max : l.device.max ≡ e.max
  pub stage : StandsAt e r l.host.stage (sight_of l)
