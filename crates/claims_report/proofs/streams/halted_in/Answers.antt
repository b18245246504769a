use Rattle.std.proofs.Common.{[], ◌∷◌, refl}
use Rattle.std.proofs.Math.Bool.{false≢true}
use Rattle.claims_report.proofs.streams.halted_in.Goals as goal

pub returns : goal.returns
returns c = record {
  told = refl;
  ended = refl;
  right = (record { bytes = (4 ∷ [], refl); once = refl; whole = refl }, tt);
  not_after = λ h. false≢true h.0.once;
}
