-- What holds of the requests of a script's control endpoints at high speed, at each moment of its run (EHCI 1.0, 4.10; USB 2.0, 8.5.3).
--     TextsKeepRequests        the law
use Rattle.std.specs.Prelude.{ℕ, List}
use Rattle.script_types.specs.declared.scripts.Script.{Script}
use Rattle.script_text.specs.Faults.{Spells}
use Rattle.claims_world.specs.Requests.{KeepsRequests}

abbrev pub TextsKeepRequests : Type 0
TextsKeepRequests = (text : List ℕ) (s : Script) → Spells text s → KeepsRequests s
