-- A script for worked rows: it opens the endpoint of a keyboard at port 1 of hub 9, which it doesn't have.
use Rattle.std.specs.Prelude.{[]}
use Rattle.script_types.specs.declared.scripts.Script.{Script}
use Rattle.law_opened.specs.Samples.{beside_split}

abbrev pub lacks_hub : Script
lacks_hub = record beside_split { hubs = [] }
