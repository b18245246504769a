-- No queue head without an S-mask works in the frames (EHCI 1.0, 3.6.2 and 4.12.2).
use Rattle.std.proofs.Common.{◌≡◌, ℕ, ◌==◌, Bool, true, false, not, ◌||◌, if◌then◌else◌, ap, refl, sym, ◌∙◌, arith, suc, ◌<◌}
use Rattle.qh_qtd.specs.declared.queue_head.Qh.{Qh}
use Rattle.hc_copy.specs.Visits.{visit_of}
use Rattle.hc_masks.specs.Masks.{has, is_after_first, lacks}
use Rattle.hc_interrupt.specs.declared.turns.Turn.TheVariants as queue_turns
use Rattle.hc_interrupt.specs.Turns.{turn_of, complete_turn, start_turn, waits, is_missed, microframe_of, tag_of}

none_masked : (u : ℕ) → u < 8 → has 0 u ≡ false
none_masked (suc (suc (suc (suc (suc (suc (suc (suc u)))))))) small = absurd (omega (arith, small))
none_masked _ small = refl

none_first : (u : ℕ) → u < 8 → is_after_first 0 u ≡ false
none_first (suc (suc (suc (suc (suc (suc (suc (suc u)))))))) small = absurd (omega (arith, small))
none_first _ small = refl

pub works_masked : (f : ℕ) (q : Qh) → q.smask ≡ 0 → turn_of f q ≡ queue_turns.Work → ⊥
works_masked f q none is = by (waits q) refl
  where
    small : microframe_of f < 8
    small = omega arith

    or_true : (tag lacking : Bool) → (not tag || (not false || lacking)) ≡ true
    or_true true lacking = refl
    or_true false lacking = refl

    missed : is_missed f q ≡ true
    missed =
        ap (λ (n : ℕ). not (q.frame_tag == tag_of f) || (not (is_after_first n (microframe_of f)) || lacks q.cmask q.c_prog (microframe_of f)))
        none
        ∙ ap (λ (b : Bool). not (q.frame_tag == tag_of f) || (not b || lacks q.cmask q.c_prog (microframe_of f)))
        (none_first (microframe_of f) small)
        ∙ or_true (q.frame_tag == tag_of f) (lacks q.cmask q.c_prog (microframe_of f))

    unmasked : has q.smask (microframe_of f) ≡ false
    unmasked = ap (λ (n : ℕ). has n (microframe_of f)) none ∙ none_masked (microframe_of f) small

    no_miss : (b : Bool) → complete_turn true b ≡ queue_turns.Work → ⊥
    no_miss b e = cc

    no_rest : start_turn (visit_of false q) ≡ queue_turns.Work → ⊥
    no_rest e = cc

    by : (b : Bool) → waits q ≡ b → ⊥
    by true on =
        no_miss (has q.cmask (microframe_of f))
        (sym (ap (λ (b : Bool). if b then complete_turn (is_missed f q) (has q.cmask (microframe_of f))
        else start_turn (visit_of (has q.smask (microframe_of f)) q)) on
        ∙ ap (λ (b : Bool). complete_turn b (has q.cmask (microframe_of f))) missed) ∙ is)
    by false on =
        no_rest
        (sym (ap (λ (b : Bool). if b then complete_turn (is_missed f q) (has q.cmask (microframe_of f))
        else start_turn (visit_of (has q.smask (microframe_of f)) q)) on
        ∙ ap (λ (b : Bool). start_turn (visit_of b q)) unmasked) ∙ is)
