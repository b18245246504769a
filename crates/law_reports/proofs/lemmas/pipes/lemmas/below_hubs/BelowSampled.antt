-- The worked rows of bulk endpoints below hubs.
use Rattle.std.proofs.Common.{[], ◌∷◌, Some, refl}
use Rattle.claims_world.specs.Streams.{IsToldTaken, IsTakenSent}
use Rattle.law_reports.specs.pipes.below_hubs.DeafLaws.{IsUnopenedHub}
use Rattle.law_reports.specs.pipes.below_hubs.Samples.{sheet, scanner, asks_hub}

pub told_one : IsToldTaken (7 ∷ []) (Some (7 ∷ 8 ∷ []))
told_one = (8 ∷ [], refl)

pub untaken_told : IsToldTaken (7 ∷ 8 ∷ []) (Some (7 ∷ [])) → ⊥
untaken_told (rest, is) = cc

pub unput_taken : IsTakenSent (Some (7 ∷ 9 ∷ [])) (7 ∷ 8 ∷ []) → ⊥
unput_taken (rest, is) = cc

pub scanner_unopened : IsUnopenedHub scanner (sheet (Some 9) 4)
scanner_unopened a is = ((λ addr num. cc), (tt, tt))

pub hub_opened : IsUnopenedHub asks_hub (sheet (Some 9) 4) → ⊥
hub_opened none = (none 9 refl).0 refl refl
