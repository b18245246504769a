use Rattle.std.proofs.Common.{◌≡◌, ℕ, sym, arith}
use Rattle.std.proofs.lemmas.Bool.{true≢false}
use Rattle.link_words.specs.declared.kinds.QtdLink.TheVariants as qtd_links
use Rattle.law_ring.specs.Front.{IsFront}
use Rattle.law_queues.specs.idle_tails.Worked.{halted, at_rest, goes_on}
use Rattle.law_queues.proofs.idle_tails.worked.fronts_of_overlays.Goals as goal

no_link : (b : ℕ) → qtd_links.End ≡ qtd_links.To b → ⊥
no_link b is = cc

same_link : (b c : ℕ) → qtd_links.To b ≡ qtd_links.To c → b ≡ c
same_link b c is = cc

halted_front : (front : ℕ) → IsFront (λ a. a) front halted
halted_front front = record { work = λ on. absurd (true≢false (sym on)); rest = λ b off idle to. absurd (true≢false off) }

resting_front : (front : ℕ) → IsFront (λ a. a) front at_rest
resting_front front = record { work = λ on. absurd (true≢false (sym on)); rest = λ b off idle to. absurd (no_link b to) }

next_front : IsFront (λ a. a) 4256 goes_on
next_front = record { work = λ on. absurd (true≢false (sym on)); rest = λ b off idle to. let same : 4256 ≡ b = same_link 4256 b to in omega (arith, same) }

pub returns : goal.returns
returns c = record { halted = halted_front; at_rest = resting_front; goes_on = next_front }
