-- What holds of a translator is what is promised of it.
use Rattle.std.proofs.Common.{ℕ, ◌%◌, List}
use Rattle.hub_keys.specs.declared.key.Key.{Key}
use Rattle.bus_world.specs.World.{World}
use Rattle.bus_world.specs.Budgets.{moment}
use Rattle.claims_world.specs.Plans.{Plan}
use Rattle.law_translator.specs.Frames.{Frame}
use Rattle.claims_world.specs.Watched.{Watched}
use Rattle.claims_world.specs.KeepsUp.{AllKeepUp, AllKeepUpStuffed}
use Rattle.claims_world.specs.Answered.{AllAnswered}
use Rattle.law_translator.proofs.Holds.{Holds}
use Rattle.law_translator.proofs.Keeps.{all_kept}
use Rattle.law_translator.proofs.KeepsStuffed.{HoldsStuffed}
use Rattle.law_translator.proofs.KeepsStuffed as Bits
use Rattle.law_translator.proofs.Answered.{all_owed, all_settled}
use Rattle.law_microframes.specs.translators.Watching.{frame_of, HubHolds}
use Rattle.claims_world.specs.Pipelines.{port_at, EachPipeline}
use Rattle.law_microframes.specs.translators.Keeping.{IsRight, WorldKeeps}
use Rattle.claims_world.specs.HubPlans.{plans_now}
use Rattle.claims_world.specs.Gaps.{gaps}
use Rattle.law_microframes.specs.translators.Laws.{AlongRuns, EntriesStayOwned}
use Rattle.law_microframes.proofs.lemmas.translators.Watching.{IsKept}
use Rattle.law_microframes.proofs.lemmas.translators.Hubs.{at_get}
use Rattle.law_microframes.proofs.lemmas.translators.Kept.{Any, holds_kept, stuffed_kept}
use Rattle.law_microframes.proofs.lemmas.translators.Owned.{owned_driver, owned_command, owned_begin}
use Rattle.law_microframes.proofs.lemmas.translators.Worlds.{keeps_along}

promised : (H : Frame → Type 0) (P : Plan → ℕ → List Watched → Type 0) (w : World) (g : ℕ → ℕ → Key → ℕ)
    → ((f : Frame) → H f → P f.plan f.now f.watched) → WorldKeeps H w g → EachPipeline P w g
promised H P w g says all i j h t here there =
    let hub = at_get (λ n x. HubHolds (IsRight H w.driver w.registers.frame_index) (plans_now w.driver w.registers.frame_index)
    (w.registers.frame_index % 8) (g n) x) w.bus.hubs i h all here in
    let one = at_get (λ n x. IsRight H w.driver w.registers.frame_index h.address (port_at h.translators.multi n)
    (frame_of (plans_now w.driver w.registers.frame_index h.address (port_at h.translators.multi n)) (w.registers.frame_index % 8)
    (g i n) x))
    h.translators.all j t hub there in
    says (frame_of (plans_now w.driver w.registers.frame_index h.address (port_at h.translators.multi j)) (w.registers.frame_index % 8)
    (g i j) t) one.0

pub along_runs : (most : ℕ) (H : Frame → Type 0) (P : Plan → ℕ → List Watched → Type 0) → IsKept most Any H
    → ((f : Frame) → H f → P f.plan f.now f.watched) → AlongRuns most P
along_runs most H P is says s few knows k =
    promised H P (moment s k).world (gaps s k) says (keeps_along most H is s few knows k)

pub keep_up : AlongRuns 0 AllKeepUp
keep_up = along_runs 0 Holds AllKeepUp holds_kept (λ f h. all_kept f.plan f.now f.watched h.owe)

pub answer_in_time : AlongRuns 0 (AllAnswered 1)
answer_in_time = along_runs 0 Holds (AllAnswered 1) holds_kept (λ f h. all_owed f.plan f.now f.watched h.owe)

pub stuffed_keep_up : AlongRuns 6 AllKeepUpStuffed
stuffed_keep_up =
    along_runs 6 HoldsStuffed AllKeepUpStuffed stuffed_kept (λ f h. Bits.all_settled f.plan f.now f.watched h.comes h.settles)

pub stuffed_answer_in_time : AlongRuns 6 (AllAnswered 2)
stuffed_answer_in_time =
    along_runs 6 HoldsStuffed (AllAnswered 2) stuffed_kept (λ f h. all_settled f.plan f.now f.watched h.comes h.settles)

pub entries_stay_owned : EntriesStayOwned
entries_stay_owned = record {
  driver = λ w hub port k o. (owned_driver w hub port k o).still;
  command = λ w line cmd hub port k o. (owned_command w line cmd hub port k o).still;
  begins = λ d index hub port k o within. (owned_begin d index hub port k o within).still;
}
