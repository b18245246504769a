use Rattle.std.specs.Prelude.{◌≡◌, ℕ, ◌&&◌, ◌==◌, true, false}
use Rattle.std.specs.List.{AllByRecursion}
use Rattle.std.proofs.Common.{refl, true≢false}
use Rattle.law_common.proofs.Lists.{nth_all}
use Rattle.bandwidth.specs.declared.placements.Placement.{Placement}
use Rattle.bandwidth.specs.Placements.{allowed, mask}
use Rattle.bandwidth.specs.Worked.{keyboard, placed}
use Rattle.claims_world.specs.FrameHeads.{IsAllowed}
use Rattle.law_microframes.specs.worked_visits.Samples.{placed_keyboard}
use Rattle.law_microframes.proofs.worked_visits.splits.a_keyboard_is_allowed.Goals as goal

-- the four that it may have: none is without a start-split, and none has it in microframe 2 alone and the same C-mask
all_start : AllByRecursion (λ (p : Placement). (p.smask == 0) ≡ false) (allowed keyboard)
unfolding allowed mask
all_start = (refl, (refl, (refl, (refl, tt))))

all_apart : AllByRecursion (λ (p : Placement). ((p.smask == 4) && (p.cmask == 28)) ≡ false) (allowed keyboard)
unfolding allowed mask
all_apart = (refl, (refl, (refl, (refl, tt))))

pub returns-clause-allowed : goal.returns-clause-allowed
unfolding allowed mask
returns-clause-allowed c = record { place = 0; at = refl }

pub returns-clause-without : goal.returns-clause-without
returns-clause-without c = λ is. true≢false
    (nth_all (λ (p : Placement). (p.smask == 0) ≡ false) (allowed keyboard) is.place (placed 8 0 0 0x1C) all_start is.at)

pub returns-clause-twice : goal.returns-clause-twice
returns-clause-twice c = λ is. true≢false
    (nth_all (λ (p : Placement). ((p.smask == 4) && (p.cmask == 28)) ≡ false) (allowed keyboard) is.place (placed 8 0 0x04 0x1C)
    all_apart is.at)
