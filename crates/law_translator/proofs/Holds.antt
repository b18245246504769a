-- A frame of which each entry has what it is owed.
use Rattle.law_translator.specs.Plans.{Fits}
use Rattle.law_translator.specs.Frames.{Frame}
use Rattle.law_translator.proofs.Keys.{Distinct, AllIn}
use Rattle.law_translator.proofs.Sums.{Sorted}
use Rattle.law_translator.proofs.Work.{keys_of, AllOwe}

pub record Holds (f : Frame) : Type 0 where
  pub fits : Fits f.plan
  pub sorted : Sorted f.plan (keys_of f.watched)
  pub distinct : Distinct (keys_of f.watched)
  pub members : AllIn (keys_of f.watched) f.plan.keys
  pub owe : AllOwe f.plan f.now f.watched
