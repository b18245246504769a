use Rattle.std.specs.Prelude.{true}
use Rattle.std.proofs.Common.{refl, arith}
use Rattle.bandwidth.specs.Placements.{allowed, mask}
use Rattle.hc_iso.specs.Samples.{split_in}
use Rattle.claims_world.specs.FrameHeads.{IsAllowed}
use Rattle.law_microframes.specs.time.SitdParts.{IsInParts}
use Rattle.law_microframes.proofs.lemmas.time.SplitMasked.{allowed_are_split}
use Rattle.law_microframes.specs.worked_visits.Samples.{placed_microphone}
use Rattle.law_microframes.proofs.worked_visits.parts.a_microphone_is_in_hand.Goals as goal

is_allowed : IsAllowed placed_microphone
unfolding allowed mask
is_allowed = record { place = 0; at = refl }

pub returns-clause-descriptor : goal.returns-clause-descriptor
returns-clause-descriptor c = record {
  classic = refl;
  kind = refl;
  some = omega arith;
  masks = allowed_are_split placed_microphone is_allowed refl;
  way = refl;
  smask = refl;
  cmask = refl;
  prog = omega arith;
}

pub returns-clause-held : goal.returns-clause-held
returns-clause-held c = record {
  descriptor = record {
    classic = refl;
    kind = refl;
    some = omega arith;
    masks = allowed_are_split placed_microphone is_allowed refl;
    way = refl;
    smask = refl;
    cmask = refl;
    prog = omega arith;
  };
  parts = record { fits = λ on. omega arith; count = λ on out. absurd (cc); within = λ on out. absurd (cc); position = λ on out. absurd (cc) };
  none = λ made. refl;
  one = omega arith;
}

pub returns-clause-longer : goal.returns-clause-longer
returns-clause-longer c = λ (is : IsInParts (split_in true 301) 300). let many = is.fits refl in absurd (omega (arith, many))
