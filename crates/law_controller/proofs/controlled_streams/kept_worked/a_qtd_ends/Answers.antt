use Rattle.std.proofs.Common.{refl, false}
use Rattle.law_structures.specs.lent_structures.Structures.{Element}
use Rattle.law_structures.specs.lent_structures.StructureSamples.{element, token, parts}
use Rattle.law_structures.specs.lent_structures.Alters.{IsAfter}
use Rattle.law_controller.proofs.lemmas.controlled_streams.Keeping.{kept_element, kept_put}
use Rattle.law_controller.proofs.controlled_streams.kept_worked.a_qtd_ends.Goals as goal

ended : IsAfter element (record element { token = record token { active = false } })
ended = record { token = record token { active = false }; is = refl; active = λ on. cc }

pub returns : goal.returns
returns c = kept_put parts 0 64 (Element (record element { token = record token { active = false } })) (kept_element (parts 0) 64 element (record element { token = record token { active = false } }) refl refl ended)
