use Rattle.std.proofs.Common.{refl, ap}
use Rattle.std.proofs.lemmas.Bool.{true≢false}
use Rattle.usb_base.specs.declared.packets.DataPart.TheVariants.{Middle}
use Rattle.law_microframes.proofs.translators.worked.a_speaker_lacks_its_last_part.Goals as goal

pub returns-clause-twice : goal.returns-clause-twice
returns-clause-twice c = λ lacks. let e = ap (λ b. b.parts) (lacks 9 2 Middle 0 0 _ _ _ refl refl refl refl refl refl).1 in cc

pub returns-clause-over : goal.returns-clause-over
returns-clause-over c = λ lacks. true≢false (lacks 9 2 Middle 0 0 _ _ _ refl refl refl refl refl refl).0
