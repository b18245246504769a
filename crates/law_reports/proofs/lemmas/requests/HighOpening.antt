-- A new world, with endpoints of every kind to come, has no request.
use Rattle.script_types.specs.declared.scripts.Script.{Script}
use Rattle.bus_wire.specs.Bus.{fixed_of}
use Rattle.law_common.proofs.Lists.{nothing_at}
use Rattle.bus_world.specs.Opening.{opening_world}
use Rattle.law_reports.specs.pipes.Declared.{sides_of}
use Rattle.law_reports.specs.pipes.Piped.{HasPiped}
use Rattle.law_reports.specs.requests.Asking.{Sides}
use Rattle.law_reports.specs.requests.HighAsking.{told_standing, AreSuited}
use Rattle.law_reports.specs.requests.HighLaws.{NewWorldHighAsks}
use Rattle.law_reports.proofs.lemmas.pipes.Opening.{new_world_is_piped, new_head}
use Rattle.law_reports.proofs.lemmas.requests.HighFooting.{named_by}
use Rattle.law_reports.proofs.lemmas.requests.NewWorld.{none_asked, new_asking}

none_suited : (s : Script) (g : Sides) → AreSuited g (opening_world s).driver
none_suited s g e x here = absurd (nothing_at e x here)

pub new_world_high_asks : NewWorldHighAsks
new_world_high_asks s g fit bytes first =
    let k : HasPiped (fixed_of s) (sides_of s) (opening_world s) = new_world_is_piped s fit bytes in
    record {
      standing = k.standing;
      lines = k.lines;
      heads = k.heads;
      piped = k.piped;
      head = new_head s fit bytes;
      suited = none_suited s g;
      silent = λ t y there. absurd (nothing_at t y there);
      asking = none_asked;
      world = new_asking s g first k.standing.near k.heads.ends (told_standing k.standing k.lines)
          (named_by g (fixed_of s) (sides_of s) k.standing k.lines k.heads (opening_world s) k.piped (new_head s fit bytes)
          (none_suited s g));
    }
