use Rattle.claims_headline.specs.Headline.IsOfStreams.{at_high_speed, out_below_hub, in_below_hub}
use Rattle.claims_headline.proofs.worked.a_keyboard_behind_a_hub_is_none.Goals as goal

pub returns : goal.returns
returns c (at_high_speed e) = absurd cc
returns c (out_below_hub e) = absurd cc
returns c (in_below_hub e left) = absurd cc
