use Rattle.std.proofs.Common.{[], ◌∷◌, length, refl, ap, arith}
use Rattle.claims_headline.specs.Headline.IsOfStreams.{at_high_speed}
use Rattle.claims_headline.proofs.worked.what_is_told_begins_the_stream.Goals as goal

pub returns : goal.returns
returns c = record {
  begun = (λ is. record { bytes = (3 ∷ [], refl); once = refl; whole = refl }, tt);
  not_twice = λ h. omega (arith, ap length (h.0 (at_high_speed refl)).bytes.1);
  not_passed = λ h. let e = (h.0 (at_high_speed refl)).bytes.1 in cc;
}
