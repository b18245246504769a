use Rattle.std.proofs.Common.{◌≡◌, ℕ, true, false, List, [], ◌∷◌, length, ap, refl, sym, ◌∙◌, arith}
use Rattle.std.proofs.Math.Bool.{false≢true}
use Rattle.word_mem.specs.Memory.{Mem}
use Rattle.qh_qtd.specs.declared.queue_head.Qh.{Qh}
use Rattle.claims_headline.specs.Pipes.{next_packet, AreNear}
use Rattle.claims_headline.specs.Pipes.AreNear.{level, ahead, halted}
use Rattle.claims_headline.proofs.worked.a_device_is_level_or_one_packet_ahead.Goals as goal

twice : (m : Mem) (q : Qh) → AreNear m q true (1 ∷ 2 ∷ []) (record { items = []; toggle = true; taken = 1 ∷ 2 ∷ 1 ∷ 2 ∷ []; room = 9 }) → ⊥
twice m q (level same all) = omega (arith, ap length all)
twice m q (ahead turned all on) = false≢true (sym turned)
twice m q (halted packet turned all off halted_now) = false≢true (sym turned)

none : (m : Mem) (q : Qh) → q.token.active ≡ true → next_packet m q ≡ 3 ∷ []
    → AreNear m q true (1 ∷ 2 ∷ []) (record { items = []; toggle = false; taken = 1 ∷ 2 ∷ []; room = 9 }) → ⊥
none m q on is (level same all) = false≢true same
none m q on is (ahead turned all active) =
    let one = ap (λ (xs : List ℕ). length xs) is in
    let both = ap (λ (xs : List ℕ). length xs) all in
    omega (arith, one, both)
none m q on is (halted packet turned all off halted_now) = false≢true (sym off ∙ on)

pub returns : goal.returns
returns c = record {
  level = λ m q. level refl refl;
  ahead = λ m q on is. ahead refl (ap (λ (xs : List ℕ). 1 ∷ 2 ∷ xs) (sym is)) on;
  not_twice = twice;
  not_turned = none;
}
