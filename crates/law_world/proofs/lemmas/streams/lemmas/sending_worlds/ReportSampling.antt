-- What the worked rows need.
use Rattle.std.proofs.Common.{◌≡◌, ℕ, zero, suc, false, List, [], ◌∷◌, slice_get, Some, None, subst, refl}
use Rattle.std.specs.List.{concat}
use Rattle.std.proofs.lemmas.Option.{same_Some}
use Rattle.word_mem.specs.Memory.{filled}
use Rattle.word_mem.specs.Views.{with_words_in}
use Rattle.word_mem.specs.Free.{lowest_run}
use Rattle.qh_qtd.specs.Qtd.{qtd_words}
use Rattle.qh_qtd.specs.QueueHead.{qh_words}
use Rattle.mem_runs.specs.Book.{lend_runs, store_words}
use Rattle.claims_base.specs.Prefix.{IsPrefix}
use Rattle.drv_table.specs.declared.content.Endpoint.{Endpoint}
use Rattle.bus_wire.specs.Bus.{fixed_of}
use Rattle.law_ring.specs.OutBus.{Taker}
use Rattle.law_devices.specs.scripted_takers.Takers.{taker_of}
use Rattle.claims_report.specs.Reports.{taken}
use Rattle.claims_report.specs.Samples.{receiver}
use Rattle.claims_driver.specs.Scripts.{receives}
use Rattle.bus_world.specs.Orders.{ticks}
use Rattle.law_world.specs.steps.Streaming.{wired}
use Rattle.claims_world.specs.Streams.{report_of}
use Rattle.law_world.specs.streams.Asynchronous.{AreSentStreams}
use Rattle.law_world.specs.streams.put_laws.TakenPuts.{puts_of, puts_at}
use Rattle.law_world.specs.streams.put_laws.TakenSamples.{two_puts, report_after}
use Rattle.law_world.specs.streams.sending_worlds.ReportLaws.{HaveTheirTakers, TakesPuts}
use Rattle.law_world.specs.streams.sending_worlds.ReportSamples.{once_took}

-- ---- bytes

pub nine_seven : (xs : List ℕ) → 9 ∷ xs ≡ 7 ∷ 9 ∷ [] → ⊥
nine_seven xs same = cc

pub eight_nine : (xs : List ℕ) → 8 ∷ xs ≡ 9 ∷ [] → ⊥
eight_nine xs same = cc

pub nine_one : (xs : List ℕ) → 9 ∷ xs ≡ 1 ∷ 2 ∷ 3 ∷ [] → ⊥
nine_one xs same = cc

pub two_one : (x y z : ℕ) (xs : List ℕ) → x ∷ y ∷ xs ≡ z ∷ [] → ⊥
two_one x y z xs same = cc

pub one_none : (x : ℕ) (xs : List ℕ) → x ∷ xs ≡ [] → ⊥
one_none x xs same = cc

-- ---- one endpoint

-- what is so of it is so of all
only_one : (P : ℕ → Endpoint → Type 0) (y : Endpoint) → P 0 y → (e : ℕ) (x : Endpoint) → slice_get (y ∷ []) e ≡ Some x → P e x
only_one P y h zero x here = subst (P 0) (same_Some y x here) h
only_one P y h (suc zero) x here = absurd (cc)
only_one P y h (suc (suc e)) x here = absurd (cc)

taker_takes : (s t : Taker) (bytes : List ℕ) → IsPrefix s.taken bytes → Some s ≡ Some t → IsPrefix t.taken bytes
taker_takes s t bytes h same = subst (λ (z : Taker). IsPrefix z.taken bytes) (same_Some s t same) h

-- ---- the run

pub unopened : (taken (report_after 0) receiver ≡ None) × AreSentStreams two_puts (report_after 0)
unfolding ticks
unopened = (refl, (tt, tt))

pub takers : HaveTheirTakers (fixed_of two_puts) (once_took (1 ∷ 2 ∷ []))
unfolding ticks lowest_run filled with_words_in store_words lend_runs qh_words qtd_words
takers = only_one _ _ (λ sends. record { taker = record { taken = 1 ∷ 2 ∷ []; expects = false }; is = refl })

-- what this taker of the endpoint took begins the endpoint's puts
abbrev TakesOf : Taker → ℕ → Endpoint → Type 0
TakesOf t e x = receives x.desc.name.way ≡ false → taker_of (wired (fixed_of two_puts) (once_took (1 ∷ 2 ∷ []))) x.desc.name.addr x.desc.name.num ≡ Some t
    → IsPrefix t.taken (concat (puts_of (once_took (1 ∷ 2 ∷ [])).driver (puts_at two_puts 6) e))

pub takes : TakesPuts (fixed_of two_puts) (once_took (1 ∷ 2 ∷ [])) (puts_at two_puts 6)
unfolding ticks puts_at lowest_run filled with_words_in store_words lend_runs qh_words qtd_words
takes e x t here = only_one (TakesOf t) _ (λ sends is. taker_takes (record { taken = 1 ∷ 2 ∷ []; expects = false }) t (1 ∷ 2 ∷ 3 ∷ []) (3 ∷ [], refl) is) e x here

puts_are : concat (puts_of (once_took (9 ∷ [])).driver (puts_at two_puts 6) 0) ≡ 1 ∷ 2 ∷ 3 ∷ []
unfolding ticks puts_at lowest_run filled with_words_in store_words lend_runs qh_words qtd_words
puts_are = refl

pub others : TakesPuts (fixed_of two_puts) (once_took (9 ∷ [])) (puts_at two_puts 6) → ⊥
unfolding ticks lowest_run filled with_words_in store_words lend_runs qh_words qtd_words
others k =
    let begins = subst (λ (xs : List ℕ). IsPrefix {A = ℕ} (9 ∷ []) xs) puts_are (k 0 _ (record { taken = 9 ∷ []; expects = false }) refl refl refl) in
    nine_one begins.0 begins.1

pub sent :
    (taken (report_of (fixed_of two_puts) (once_took (1 ∷ 2 ∷ []))) receiver ≡ Some (1 ∷ 2 ∷ []))
    × AreSentStreams two_puts (report_of (fixed_of two_puts) (once_took (1 ∷ 2 ∷ [])))
unfolding ticks lowest_run filled with_words_in store_words lend_runs qh_words qtd_words
sent = (refl, ((3 ∷ [], refl), tt))

pub unsent : AreSentStreams two_puts (report_of (fixed_of two_puts) (once_took (9 ∷ []))) → ⊥
unfolding ticks lowest_run filled with_words_in store_words lend_runs qh_words qtd_words
unsent k = nine_one k.0.0 k.0.1
