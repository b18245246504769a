use Rattle.law_below_hubs.proofs.RequestViews.{below_is_asked, asked_is_below, rest_is_at_rest, at_rest_is_below, at_rest_is_left}
use Rattle.law_below_hubs.proofs.requests.requests_below_are_asked_alike.Goals as goal

pub returns : goal.returns
returns c = record {
  asked = below_is_asked;
  below = asked_is_below;
  rests = rest_is_at_rest;
  rests_below = at_rest_is_below;
  left_below = at_rest_is_left;
}
