-- When a control endpoint acts on a request, along a run (USB 2.0, 8.5.3).
use Rattle.std.specs.Option.{option_to_list}
use Rattle.std.specs.Prelude.{◌≡◌, ℕ, ◌⊎◌, Bool, true, ◌&&◌, not, List, [], ◌∷◌, Option, Some, if◌then◌else◌, None}
use Rattle.dev_control.specs.declared.control.Request.{Request}
use Rattle.dev_control.specs.Stages.{setup_of}

-- whether the request under way was acted on; where there is none, nothing is left to act on
abbrev pub done_of : Option Request → Bool
done_of None = true
done_of (Some u) = u.done

-- the setup bytes of the requests that are acted on at an event: that of the request under way, at its first answered status
abbrev pub acts_if : Bool → Option Request → List (List ℕ)
acts_if acts u = if acts && not (done_of u) then option_to_list (setup_of u) else []

-- it acts at most once, and only on these setup bytes
abbrev pub IsOnce : List ℕ → List (List ℕ) → Type 0
IsOnce setup acts = (acts ≡ []) ⊎ (acts ≡ setup ∷ [])
