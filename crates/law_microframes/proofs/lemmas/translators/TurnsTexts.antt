-- The translators keep up along the run of each script that a text spells.
use Rattle.std.proofs.Common.{ℕ, List}
use Rattle.script_types.specs.declared.scripts.Script.{Script}
use Rattle.script_text.specs.Faults.{Spells}
use Rattle.bus_wire.specs.Bus.{fixed_of}
use Rattle.bus_world.specs.Budgets.{moment}
use Rattle.claims_world.specs.Plans.{Plan}
use Rattle.claims_world.specs.Watched.{Watched}
use Rattle.claims_world.specs.KeepsUp.{AllKeepUp, AllKeepUpStuffed}
use Rattle.claims_world.specs.Answered.{AllAnswered}
use Rattle.claims_world.specs.Pipelines.{StuffsAtMost, EachPipeline}
use Rattle.claims_world.specs.Gaps.{gaps}
use Rattle.law_microframes.specs.translators.Laws.{AlongRuns, TextsKeepTranslators}
use Rattle.law_microframes.proofs.lemmas.translators.Promises.{keep_up, answer_in_time, stuffed_keep_up, stuffed_answer_in_time}
use Rattle.law_microframes.proofs.lemmas.translators.SitdFollowing.{sitds_follow}
use Rattle.law_microframes.proofs.lemmas.translators.Starting.{moment_known}
use Rattle.law_microframes.proofs.lemmas.translators.StuffTexts.{texts_have_few_stuffed_bits}
use Rattle.law_microframes.proofs.lemmas.translators.TurnsRuns.{texts_lack}

along_texts : (most : ℕ) (P : Plan → ℕ → List Watched → Type 0) → AlongRuns most P → (text : List ℕ) (s : Script) → Spells text s
    → StuffsAtMost most (fixed_of s) → (k : ℕ) → EachPipeline P (moment s k).world (gaps s k)
along_texts most P runs text s spelled few k =
    runs s few (λ j. moment_known text s spelled j (sitds_follow text s spelled j (texts_lack text s spelled j))) k

pub texts_keep_translators : TextsKeepTranslators
texts_keep_translators text s spelled = record {
  work = λ few. along_texts 0 AllKeepUp keep_up text s spelled few;
  answers = λ few. along_texts 0 (AllAnswered 1) answer_in_time text s spelled few;
  stuffed_work = along_texts 6 AllKeepUpStuffed stuffed_keep_up text s spelled (texts_have_few_stuffed_bits text s spelled);
  stuffed_answers = along_texts 6 (AllAnswered 2) stuffed_answer_in_time text s spelled (texts_have_few_stuffed_bits text s spelled);
}
