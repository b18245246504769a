use Rattle.std.proofs.Common.{refl, arith}
use Rattle.bandwidth.specs.Placements.{allowed, mask, first_in}
use Rattle.claims_world.specs.FrameHeads.{IsAllowed}
use Rattle.hc_iso.specs.Samples.{split_out}
use Rattle.law_microframes.specs.time.SitdParts.{IsInParts}
use Rattle.law_microframes.proofs.lemmas.time.SplitMasked.{allowed_are_split}
use Rattle.law_microframes.specs.worked_visits.Samples.{placed_speaker}
use Rattle.law_microframes.proofs.worked_visits.splits.a_speaker_has_its_parts.Goals as goal

is_allowed : IsAllowed placed_speaker
unfolding allowed mask
is_allowed = record { place = 1; at = refl }

pub returns-clause-descriptor : goal.returns-clause-descriptor
returns-clause-descriptor c = record {
  classic = refl;
  kind = refl;
  some = omega arith;
  masks = allowed_are_split placed_speaker is_allowed refl;
  way = refl;
  smask = refl;
  cmask = refl;
  prog = omega arith;
}

pub returns-clause-fresh : goal.returns-clause-fresh
returns-clause-fresh c = record { fits = λ on. omega arith; count = λ on way. refl; within = λ on way. omega arith; position = λ on way. refl }

pub returns-clause-second : goal.returns-clause-second
returns-clause-second c = record { fits = λ on. omega arith; count = λ on way. refl; within = λ on way. omega arith; position = λ on way. refl }

pub returns-clause-marked : goal.returns-clause-marked
returns-clause-marked c = λ (is : IsInParts (record (split_out 400 3 1) { c_prog = 2 }) 400). let many = is.within refl refl in
    absurd (omega (arith, many))

pub returns-clause-costs : goal.returns-clause-costs
unfolding first_in
returns-clause-costs c = refl
