-- The laws of split isochronous transfer descriptors.
--     TextsServeSitds     of each script that a text spells: each transaction of a siTD to which the walk of the frames comes is made in
--                         its microframe
use Rattle.std.specs.Prelude.{ℕ, List}
use Rattle.script_types.specs.declared.scripts.Script.{Script}
use Rattle.script_text.specs.Faults.{Spells}
use Rattle.claims_world.specs.Sitds.{SitdsAreServed}

abbrev pub TextsServeSitds : Type 0
TextsServeSitds = (text : List ℕ) (s : Script) → Spells text s → SitdsAreServed s
