-- What a call for one event, or for several, tells a caller that keeps answers and their bytes in lists.
--     kind_number k     the number of a kind of event
--     Steps ..          an event of this number over these answers leaves this state and these words
--     HoldsUp ..        it asks this, and there is no answer to it
--     Runs ..           n events that took so many of the answers leave this state and these words, in the midst of a microframe
--     RunsOver ..       the same, and the last of them is the last of its microframe
--     RunsToAsk ..      n events took all answers, and the next asks this
use Rattle.std.specs.Prelude.{◌≡◌, ℕ, ◌-◌, List, length, Some}
use Rattle.hc_core.specs.declared.controller.HcStep.{HcStep}
use Rattle.hc_core.specs.declared.controller.HcStep.TheVariants as steps
use Rattle.hc_microframe.specs.declared.answers.Answer.{Answer}
use Rattle.hc_microframe.specs.declared.answers.AskWords.{AskWords}
use Rattle.hc_microframe.specs.declared.answers.Wanted.{Wanted}
use Rattle.hc_microframe.specs.declared.whole.Whole.{Whole}
use Rattle.hc_microframe.specs.Answers.{Told, told}
use Rattle.hc_microframe.specs.Calls.{IsTold}
use Rattle.hc_microframe.specs.Stepping.{IsStepped, IsHeldUp}
use Rattle.hc_microframe.specs.Several.{IsRun, IsRunOver, IsRunHeldUp}

abbrev pub kind_number : HcStep → ℕ
kind_number steps.Idle = 0
kind_number steps.Begin = 1
kind_number steps.Fetch = 2
kind_number steps.Advance = 3
kind_number steps.Transact = 4
kind_number steps.WriteBack = 5
kind_number steps.Skip = 6
kind_number steps.End = 7

pub record Steps (s : Whole) (words : List ℕ) (answers : List Answer) (bytes : List ℕ) (n : ℕ) (new : Whole) (left : List ℕ) : Type 0 where
  pub kind : HcStep
  pub after : Told
  pub made : IsStepped s words (told answers bytes) kind new left after
  pub number_is : n ≡ kind_number kind

pub record HoldsUp (s : Whole) (words : List ℕ) (answers : List Answer) (bytes : List ℕ) (ask : AskWords) (out : List ℕ) : Type 0 where
  pub after : Told
  pub wanted : Wanted
  pub made : IsHeldUp s words (told answers bytes) after
  pub first : after.wanted ≡ Some wanted
  pub is_told : IsTold wanted ask out

pub record Runs (s : Whole) (words : List ℕ) (answers : List Answer) (bytes : List ℕ) (n used : ℕ) (new : Whole) (left : List ℕ)
    : Type 0 where
  pub after : Told
  pub made : IsRun s words (told answers bytes) n new left after
  pub taken : used ≡ length answers - length after.answers

pub record RunsOver (s : Whole) (words : List ℕ) (answers : List Answer) (bytes : List ℕ) (n used : ℕ) (new : Whole) (left : List ℕ)
    : Type 0 where
  pub after : Told
  pub made : IsRunOver s words (told answers bytes) n new left after
  pub taken : used ≡ length answers - length after.answers

pub record RunsToAsk (s : Whole) (words : List ℕ) (answers : List Answer) (bytes : List ℕ) (n used : ℕ) (new : Whole) (left : List ℕ)
    (ask : AskWords) (out : List ℕ) : Type 0 where
  pub after : Told
  pub wanted : Wanted
  pub made : IsRunHeldUp s words (told answers bytes) n new left after
  pub first : after.wanted ≡ Some wanted
  pub is_told : IsTold wanted ask out
  pub taken : used ≡ length answers
