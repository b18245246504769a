-- What a call tells, from what the desk has.
use Rattle.std.proofs.Common.{◌≡◌, ℕ, ◌-◌, true, List, length, Option, None, Some, refl, arith, ap}
use Rattle.std.specs.Prelude.{is_some, IfSome}
use Rattle.hc_microframe.specs.declared.answers.Answer.{Answer}
use Rattle.hc_microframe.specs.declared.answers.AskWords.{AskWords}
use Rattle.hc_microframe.specs.declared.answers.Wanted.{Wanted}
use Rattle.hc_microframe.specs.declared.state.State.{State}
use Rattle.hc_microframe.specs.Answers.{Told, told}
use Rattle.hc_microframe.specs.Microframe.{IsWanted}
use Rattle.hc_microframe.specs.Calls.{IsTold, Asks}
use Rattle.hc_microframe.specs.declared.whole.Whole.{Whole}
use Rattle.hc_microframe.specs.Stepping.{IsHeldUp}
use Rattle.hc_microframe.specs.Several.{IsRunHeldUp}
use Rattle.hc_microframe.specs.EventCalls.{HoldsUp, RunsToAsk}

asks_this : (s : State) (words : List ℕ) (answers : List Answer) (bytes : List ℕ) (n : ℕ) (after : Told) (ask : AskWords) (out : List ℕ)
    (wanted : Option Wanted) → IsWanted s words (told answers bytes) n after → after.wanted ≡ wanted → is_some wanted ≡ true
    → IfSome wanted (λ w. IsTold w ask out) → Asks s words answers bytes n ask out
asks_this s words answers bytes n after ask out None made is some tells = absurd cc
asks_this s words answers bytes n after ask out (Some w) made is some tells =
    record { after = after; wanted = w; made = made; first = is; is_told = tells }

pub asks : (s : State) (words : List ℕ) (answers : List Answer) (bytes : List ℕ) (n : ℕ) (after : Told) (ask : AskWords) (out : List ℕ)
    → IsWanted s words (told answers bytes) n after → IfSome after.wanted (λ w. IsTold w ask out) → Asks s words answers bytes n ask out
asks s words answers bytes n after ask out made tells =
    asks_this s words answers bytes n after ask out after.wanted made refl made.wanted tells

holds_this : (s : Whole) (words : List ℕ) (answers : List Answer) (bytes : List ℕ) (after : Told) (ask : AskWords) (out : List ℕ)
    (wanted : Option Wanted) → IsHeldUp s words (told answers bytes) after → after.wanted ≡ wanted → is_some wanted ≡ true
    → IfSome wanted (λ w. IsTold w ask out) → HoldsUp s words answers bytes ask out
holds_this s words answers bytes after ask out None made is some tells = absurd cc
holds_this s words answers bytes after ask out (Some w) made is some tells =
    record { after = after; wanted = w; made = made; first = is; is_told = tells }

pub holds_up : (s : Whole) (words : List ℕ) (answers : List Answer) (bytes : List ℕ) (after : Told) (ask : AskWords) (out : List ℕ)
    → IsHeldUp s words (told answers bytes) after → IfSome after.wanted (λ w. IsTold w ask out) → HoldsUp s words answers bytes ask out
holds_up s words answers bytes after ask out made tells =
    holds_this s words answers bytes after ask out after.wanted made refl made.wanted tells

run_holds_this : (s : Whole) (words : List ℕ) (answers : List Answer) (bytes : List ℕ) (n used : ℕ) (new : Whole) (left : List ℕ)
    (after : Told) (ask : AskWords) (out : List ℕ) (wanted : Option Wanted) → IsRunHeldUp s words (told answers bytes) n new left after
    → used ≡ length answers → after.wanted ≡ wanted → is_some wanted ≡ true → IfSome wanted (λ w. IsTold w ask out)
    → RunsToAsk s words answers bytes n used new left ask out
run_holds_this s words answers bytes n used new left after ask out None made taken is some tells = absurd cc
run_holds_this s words answers bytes n used new left after ask out (Some w) made taken is some tells =
    record { after = after; wanted = w; made = made; first = is; is_told = tells; taken = taken }

-- all answers were taken
pub runs_to_ask : (s : Whole) (words : List ℕ) (answers : List Answer) (bytes : List ℕ) (n used : ℕ) (new : Whole) (left : List ℕ)
    (after : Told) (ask : AskWords) (out : List ℕ) → IsRunHeldUp s words (told answers bytes) n new left after
    → used ≡ length answers - length after.answers → IfSome after.wanted (λ w. IsTold w ask out)
    → RunsToAsk s words answers bytes n used new left ask out
runs_to_ask s words answers bytes n used new left after ask out made is tells =
    run_holds_this s words answers bytes n used new left after ask out after.wanted made
    (omega (arith, is, ap (λ (rest : List Answer). length rest) made.made.all_taken)) refl made.made.wanted tells
