-- Each half of a transaction of an IN pipe keeps how its ends stand.
use Rattle.std.proofs.Common.{◌≡◌, ℕ, ◌+◌, Bool, true, false, not, List, [], ◌∷◌, ◌++◌, length, slice_get, Some, ◌⊎◌, inl, inr, refl, sym, subst, ap, ◌∙◌, arith}
use Rattle.law_pipe.specs.Pipe.{alike, toggle_after}
use Rattle.law_pipe.proofs.Agreement.{toggle_turns}
use Rattle.law_translated.specs.Lift.{Way, Buffered, Piped, Keeps, at_rest, AllAlone, none, more, OnlyAlone}
use Rattle.law_translated.specs.InPipes.{Ask, Reply, Data, Nak, Stall, Err, Line, in_opening, Is, Alone, Works, Hears, Spared, dead, in_halves, IsNear, IsUnheard, IsGone, Counts, Answered, in_claims, KeepsPipe, PipeAgrees, StrandedOnlyEnds}
use Rattle.law_translated.specs.InPipes.Alone.{errs, ends}
use Rattle.law_translated.specs.InPipes.Works.{unacknowledged, acknowledged, refuses, stalls}
use Rattle.law_translated.specs.InPipes.Hears.{takes, is_long, drops, waits, stops, fails}
use Rattle.law_translated.proofs.Lifting.{step_keeps, run_keeps, holds_gone, stranded_stays}
use Rattle.law_translated.proofs.Streams.{head_is_next, rest_is_left, one_more_known, longer, next_in_order, parity_turns, same_alike, next_unlike, never_both, begins}

-- ---- counts

pub near_after : (p q c n : ℕ) → n ≡ p + 1 → c ≡ p → (q ≡ c) ⊎ (q ≡ c + 1) → IsNear n q
near_after p q c n e h (inl d) = inr (omega (arith, e, h, d))
near_after p q c n e h (inr d) = inl (omega (arith, e, h, d))

pub near_still : (p q c : ℕ) → c + 1 ≡ p → (q ≡ c) ⊎ (q ≡ c + 1) → IsNear p q
near_still p q c h (inl d) = inr (omega (arith, h, d))
near_still p q c h (inr d) = inl (omega (arith, h, d))

near_gone : (p q : ℕ) → IsNear p q → IsGone p q
near_gone p q (inl e) = inr (inl e)
near_gone p q (inr e) = inl e

unheard_gone : (p q c : ℕ) → (c ≡ p) ⊎ (c + 1 ≡ p) → (q ≡ c) ⊎ (q ≡ c + 1) → IsGone p q
unheard_gone p q c (inl e) (inl d) = inr (inl (omega (arith, e, d)))
unheard_gone p q c (inl e) (inr d) = inr (inr (omega (arith, e, d)))
unheard_gone p q c (inr e) (inl d) = inl (omega (arith, e, d))
unheard_gone p q c (inr e) (inr d) = inr (inl (omega (arith, e, d)))

on_is : {P : Type 0} → false ≡ true → P
on_is e = absurd (cc)

module _ (packets : List (List ℕ)) where
  abbrev C : (ℕ → ℕ → Type 0) → Line → Type 0
  C = Counts packets

  abbrev Unheard : Bool → List ℕ → ℕ → ℕ → Type 0
  Unheard t x p q = IsUnheard packets t x p q

  -- where the counts stay
  turns_to : (so other : ℕ → ℕ → Type 0) (s : Line) → (n : C so s)
      → (so (length s.accepted) n.known → other (length s.accepted) n.known) → C other s
  turns_to so other s n f = record {
    known = n.known;
    count = n.count;
    left = n.left;
    sends_parity = n.sends_parity;
    expects_parity = n.expects_parity;
    in_order = n.in_order;
    stand = λ on. f (n.stand on);
  }

  -- of a host that has ended nothing is said but the order
  ended : (so other : ℕ → ℕ → Type 0) (s : Line) → C so s → C other (record s { going = false })
  ended so other s n = record {
    known = n.known;
    count = n.count;
    left = n.left;
    sends_parity = n.sends_parity;
    expects_parity = n.expects_parity;
    in_order = n.in_order;
    stand = λ on. on_is on;
  }

  by_itself : (so : ℕ → ℕ → Type 0) (s t : Line) → Alone s t → C so s → C so t
  by_itself so s _ errs n = n
  by_itself so s _ ends n = ended so so s n

  alone_answered : (s t : Line) (a : Ask) (r : Reply) → Alone s t → Answered packets s a r → Answered packets t a r
  alone_answered s t a (Data u x) e n = by_itself (Unheard u x) s t e n
  alone_answered s t a Nak e n = by_itself IsNear s t e n
  alone_answered s t a Stall e n = by_itself IsNear s t e n
  alone_answered s t a Err e n = by_itself IsNear s t e n

  -- ---- the device's half

  works : (s t : Line) (a : Ask) (r : Reply) → Is s a → C IsNear s → Works s a r t → Answered packets t a r
  works s _ _ _ i n (unacknowledged x rest l) =
      turns_to IsNear (Unheard s.sends x) s n
      (λ near. record {
        c = n.known;
        packet = head_is_next packets n.known x rest (sym l ∙ n.left);
        parity = n.sends_parity;
        host = near;
        device = inl refl;
      })
  works s _ _ _ i n (acknowledged x rest l) = record {
    known = n.known + 1;
    count = one_more_known s.left x rest n.known (length packets) l n.count;
    left = rest_is_left packets n.known x rest (sym l ∙ n.left);
    sends_parity = ap not n.sends_parity ∙ sym (toggle_turns n.known);
    expects_parity = n.expects_parity;
    in_order = n.in_order;
    stand = λ on. record {
      c = n.known;
      packet = head_is_next packets n.known x rest (sym l ∙ n.left);
      parity = n.sends_parity;
      host = n.stand on;
      device = inr refl;
    };
  }
  works s _ _ _ i n refuses = n
  works s _ _ _ i n stalls = n

  dead_answered : (way : Way) (s : Line) (a : Ask) → Is s a → C IsNear s → Answered packets s a (dead way)
  dead_answered Buffered s a i n = n
  dead_answered Piped s a i n = n

  -- ---- the host's half

  -- it takes the packet that it expects
  hears_going : (t : Bool) (x : List ℕ) (s : Line) (n : C (Unheard t x) s) → alike t s.expects ≡ true → s.going ≡ true
      → C IsNear (record s { accepted = s.accepted ++ x ∷ []; expects = not s.expects })
  hears_going t x s n same on =
      let u : Unheard t x (length s.accepted) n.known = n.stand on in
      elim u.host [
        | inl e ↦ record {
          known = n.known;
          count = n.count;
          left = n.left;
          sends_parity = n.sends_parity;
          expects_parity = parity_turns s.accepted x s.expects n.expects_parity;
          in_order = next_in_order packets s.accepted x (subst (λ k. slice_get packets k ≡ Some x) e u.packet) n.in_order;
          stand = λ still. near_after (length s.accepted) n.known u.c (length (s.accepted ++ x ∷ [])) (longer s.accepted x) e u.device;
        }
        | inr e ↦ never_both (alike t s.expects) same (next_unlike t s.expects u.c u.parity (n.expects_parity ∙ ap toggle_after (sym e)))
      ]

  -- it drops the one that it has
  drops_going : (t : Bool) (x : List ℕ) (s : Line) (n : C (Unheard t x) s) → alike t s.expects ≡ false
      → Unheard t x (length s.accepted) n.known
      → IsNear (length s.accepted) n.known
  drops_going t x s n differs u = elim u.host [
    | inl e ↦ never_both (alike t s.expects) (same_alike t s.expects u.c u.parity (n.expects_parity ∙ ap toggle_after (sym e))) differs
    | inr e ↦ near_still (length s.accepted) n.known u.c e u.device
  ]

  hears : (s t : Line) (a : Ask) (r : Reply) → Answered packets s a r → Hears s a r t → C IsNear t
  hears s _ _ _ n (takes u x on same) = hears_going u x s n same on
  hears s _ _ _ n (is_long u x same) = ended (Unheard u x) IsNear s n
  hears s _ _ _ n (drops u x differs) = turns_to (Unheard u x) IsNear s n (λ v. drops_going u x s n differs v)
  hears s _ _ _ n waits = n
  hears s _ _ _ n stops = ended IsNear IsNear s n
  hears s _ _ _ n fails = n

  -- ---- what goes

  lost : (s : Line) (a : Ask) (r : Reply) → Answered packets s a r → C IsGone s
  lost s a (Data t x) n = turns_to (Unheard t x) IsGone s n (λ u. unheard_gone (length s.accepted) n.known u.c u.host u.device)
  lost s a Nak n = turns_to IsNear IsGone s n (λ near. near_gone (length s.accepted) n.known near)
  lost s a Stall n = turns_to IsNear IsGone s n (λ near. near_gone (length s.accepted) n.known near)
  lost s a Err n = turns_to IsNear IsGone s n (λ near. near_gone (length s.accepted) n.known near)

  spared : (s : Line) (a : Ask) (r : Reply) → Spared a r → Answered packets s a r → C IsNear s
  spared s a (Data t x) p n = absurd p
  spared s a Nak p n = n
  spared s a Stall p n = n
  spared s a Err p n = n

  pub in_keeps : Keeps in_halves (in_claims packets)
  in_keeps = record {
    alone_is = λ s t a e i. tt;
    alone_stands = λ s t e n. by_itself IsNear s t e n;
    alone_answered = alone_answered;
    alone_gone = λ s t e n. by_itself IsGone s t e n;
    works = works;
    quiet = λ s t a i n q. subst (C IsNear) (sym q) n;
    quiet_is = λ s t a i q. tt;
    dead = dead_answered;
    hears = hears;
    spared = spared;
    lost = lost;
    none = λ s n. turns_to IsNear IsGone s n (λ near. near_gone (length s.accepted) n.known near);
  }

  pub pipe_kept : KeepsPipe packets
  pipe_kept = step_keeps in_halves (in_claims packets) in_keeps

  pub opening_counts : C IsNear (in_opening packets)
  opening_counts = record {
    known = 0;
    count = omega arith;
    left = refl;
    sends_parity = refl;
    expects_parity = refl;
    in_order = refl;
    stand = λ on. inl refl;
  }

  pub pipe_agrees : PipeAgrees packets
  pipe_agrees way x run =
      let h = run_keeps in_halves (in_claims packets) in_keeps way (at_rest (in_opening packets)) x run
      (record { at = opening_counts; aside = tt }) in
      record { holds = h; begins = begins packets x.line.accepted (holds_gone in_halves (in_claims packets) in_keeps way x h).in_order }

-- ---- a host whose result is gone

alone_accepted : (s t : Line) → AllAlone in_halves s t → t.accepted ≡ s.accepted
alone_accepted s _ (none _) = refl
alone_accepted s t (more _ _ _ errs rest) = alone_accepted s t rest
alone_accepted s t (more _ _ _ ends rest) = alone_accepted (record s { going = false }) t rest

alone_left : (s t : Line) → AllAlone in_halves s t → t.left ≡ s.left
alone_left s _ (none _) = refl
alone_left s t (more _ _ _ errs rest) = alone_left s t rest
alone_left s t (more _ _ _ ends rest) = alone_left (record s { going = false }) t rest

pub only_ends : StrandedOnlyEnds
only_ends way x y run h =
    let o : OnlyAlone in_halves x y = stranded_stays in_halves way x y run h in
    record { stranded = o.stranded; accepted = alone_accepted x.line y.line o.alone; left = alone_left x.line y.line o.alone }
