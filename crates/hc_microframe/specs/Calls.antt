-- What a call tells a caller that keeps answers and their bytes in lists.
--     IsTold w ask out     what is wanted, in numbers, with the bytes that are sent at the beginning of `out`
--     Makes ..             a microframe over these answers leaves this state and these words
--     Asks ..              its n-th event asks this, and there is no answer to it
use Rattle.std.specs.Prelude.{◌≡◌, ℕ, List, length, take, Some}
use Rattle.hc_microframe.specs.declared.answers.Answer.{Answer}
use Rattle.hc_microframe.specs.declared.answers.AskWords.{AskWords}
use Rattle.hc_microframe.specs.declared.answers.Wanted.{Wanted}
use Rattle.hc_microframe.specs.declared.state.State.{State}
use Rattle.hc_microframe.specs.Answers.{Told, told, words_of_ask}
use Rattle.hc_microframe.specs.Microframe.{IsMade, IsWanted}

pub record IsTold (w : Wanted) (ask : AskWords) (out : List ℕ) : Type 0 where
  pub ask_is : ask ≡ words_of_ask w
  pub sent : take (length w.out) out ≡ w.out

pub record Makes (s : State) (words : List ℕ) (answers : List Answer) (bytes : List ℕ) (n : ℕ) (new : State) (left : List ℕ) : Type 0 where
  pub after : Told
  pub made : IsMade s words (told answers bytes) n new left after

pub record Asks (s : State) (words : List ℕ) (answers : List Answer) (bytes : List ℕ) (n : ℕ) (ask : AskWords) (out : List ℕ) : Type 0 where
  pub after : Told
  pub wanted : Wanted
  pub made : IsWanted s words (told answers bytes) n after
  pub first : after.wanted ≡ Some wanted
  pub is_told : IsTold wanted ask out
