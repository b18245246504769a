use Rattle.std.specs.Prelude.{◌≡◌, true, false}
use Rattle.std.proofs.Common.{refl, arith}
use Rattle.bandwidth.specs.Placements.{allowed, mask}
use Rattle.bandwidth.specs.Worked.{placed}
use Rattle.claims_world.specs.FrameHeads.{IsAllowed}
use Rattle.hc_interrupt.specs.Samples.{split_in, erred}
use Rattle.law_microframes.specs.time.SplitCharges.{IsSplitHeadOf}
use Rattle.law_microframes.proofs.lemmas.time.SplitMasked.{allowed_are_split}
use Rattle.law_microframes.specs.worked_visits.Samples.{placed_keyboard}
use Rattle.law_microframes.proofs.worked_visits.splits.a_keyboard_is_in_hand.Goals as goal

is_allowed : IsAllowed placed_keyboard
unfolding allowed mask
is_allowed = record { place = 0; at = refl }

head : IsSplitHeadOf placed_keyboard (split_in false 0)
head = record {
  classic = refl;
  kind = refl;
  some = omega arith;
  masks = allowed_are_split placed_keyboard is_allowed refl;
  below = refl;
  max =
      refl;
  smask = refl;
  cmask = refl;
}

head_erred : IsSplitHeadOf placed_keyboard (erred true 4)
head_erred = record {
  classic = refl;
  kind = refl;
  some = omega arith;
  masks = allowed_are_split placed_keyboard is_allowed refl;
  below = refl;
  max =
      refl;
  smask = refl;
  cmask = refl;
}

pub returns-clause-head : goal.returns-clause-head
returns-clause-head c = head

pub returns-clause-start : goal.returns-clause-start
returns-clause-start c = record { head = head; pid = λ on. refl; none = λ made. refl; one = omega arith }

pub returns-clause-complete : goal.returns-clause-complete
unfolding mask
returns-clause-complete c = record { head = head_erred; pid = λ on. refl; none = λ made. absurd (omega (arith, made)); one = omega arith }

pub returns-clause-other : goal.returns-clause-other
returns-clause-other c = λ (is : IsSplitHeadOf (record placed_keyboard { placement = placed 8 0 0x01 0x38 }) (split_in false 0)). absurd
    (omega (arith, is.cmask))
