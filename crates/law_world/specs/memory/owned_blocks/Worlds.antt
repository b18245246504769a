-- Which blocks of memory are Lent at each moment of a script (EHCI 1.0, 3, 4.8.2 and 4.10).
--     EachMomentOwnsItsBlocks    the law
use Rattle.script_types.specs.declared.scripts.Script.{Script}
use Rattle.script_fits.specs.Fits.{IsFit}
use Rattle.claims_world.specs.Owned.{OwnsItsBlocksThroughout}

abbrev pub EachMomentOwnsItsBlocks : Type 0
EachMomentOwnsItsBlocks = (s : Script) → IsFit s → OwnsItsBlocksThroughout s
