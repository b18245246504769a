-- Clause `translators`: each translator keeps up with its plan, along each run (USB 2.0, 11.14, 11.18 and 11.18.4; EHCI 1.0, 4.12).
--     KeepsTranslators s      at each moment of the run, each entry of the pipeline of each translator has had the byte-times that its plan
--                             lays for it in the microframes before the last, less 188 for each microframe that brought no part, or all
--                             that its start-splits call for; and an interrupt's result, and the last bytes of an isochronous IN, are
--                             there one microframe after the last in which something is laid for it. With stuffed bits, of which an
--                             endpoint has at most six in 36, what is laid whole is done and answered one microframe later
use Rattle.std.specs.Prelude.{ℕ}
use Rattle.script_types.specs.declared.scripts.Script.{Script}
use Rattle.bus_wire.specs.Bus.{fixed_of}
use Rattle.bus_world.specs.Budgets.{moment}
use Rattle.claims_world.specs.Answered.{AllAnswered}
use Rattle.claims_world.specs.Gaps.{gaps}
use Rattle.claims_world.specs.KeepsUp.{AllKeepUp, AllKeepUpStuffed}
use Rattle.claims_world.specs.Pipelines.{EachPipeline, StuffsAtMost}

pub record KeepsTranslators (s : Script) : Type 0 where
  -- where no endpoint has stuffed bits
  pub work : StuffsAtMost 0 (fixed_of s) → (k : ℕ) → EachPipeline AllKeepUp (moment s k).world (gaps s k)
  pub answers : StuffsAtMost 0 (fixed_of s) → (k : ℕ) → EachPipeline (AllAnswered 1) (moment s k).world (gaps s k)
  pub stuffed_work : (k : ℕ) → EachPipeline AllKeepUpStuffed (moment s k).world (gaps s k)
  pub stuffed_answers : (k : ℕ) → EachPipeline (AllAnswered 2) (moment s k).world (gaps s k)
