-- Each half of a transaction of an OUT pipe keeps how its ends stand.
use Rattle.std.proofs.Common.{◌≡◌, ℕ, Bool, true, false, List, [], ◌∷◌, ◌++◌, length, ◌⊎◌, inl, inr, refl, sym, subst, ap, ◌∙◌}
use Rattle.std.proofs.lemmas.List.{append_assoc}
use Rattle.std.proofs.lemmas.List.Folds.{concat-append}
use Rattle.std.specs.List.{concat}
use Rattle.law_translated.proofs.Common.{ahead_ended}
use Rattle.law_pipe.specs.Pipe.{alike, toggle_after}
use Rattle.claims_base.specs.Prefix.{IsPrefix}
use Rattle.law_translated.specs.Lift.{Way, Buffered, Piped, Keeps, at_rest, AllAlone, none, more, OnlyAlone}
use Rattle.law_translated.specs.OutPipes.{Ask, Out, Reply, Ack, Nak, Stall, Err, Line, out_opening, IsNext, Is, Alone, with_taken, Works, Quiet, with_known, Hears, dead, out_halves, IsAhead, Agrees, IfAck, Answered, out_claims, KeepsPipe, PipeAgrees, StrandedOnlyEnds}
use Rattle.law_translated.specs.OutPipes.Alone.{errs, ends, puts}
use Rattle.law_translated.specs.OutPipes.Works.{accepts, drops, refuses, stalls}
use Rattle.law_translated.specs.OutPipes.Quiet.{unheard, accepts_unheard}
use Rattle.law_translated.specs.OutPipes.Hears.{learns, waits, stops, fails}
use Rattle.law_translated.proofs.Lifting.{step_keeps, run_keeps, holds_gone, stranded_stays}
use Rattle.law_translated.proofs.Streams.{longer, parity_turns, same_alike, next_unlike, never_both}

-- ---- the host by itself

ahead_put : (s : Line) (x : List ℕ) → IsAhead s → IsAhead (record s { rest = s.rest ++ x ∷ [] })
ahead_put s x h = record { next = h.next; later = h.later ++ x ∷ []; rest = ap (λ r. r ++ x ∷ []) h.rest; taken = h.taken }

alone_ahead : (s t : Line) → Alone s t → IsAhead s → IsAhead t
alone_ahead s _ errs h = h
alone_ahead s _ ends h = ahead_ended s false h
alone_ahead s _ (puts x) h = ahead_put s x h

near_of : (s t : Line) → t.taken ≡ s.taken → t.known ≡ s.known → (IsAhead s → IsAhead t) → (s.taken ≡ s.known) ⊎ IsAhead s
    → (t.taken ≡ t.known) ⊎ IsAhead t
near_of s t e f g (inl h) = inl (e ∙ h ∙ sym f)
near_of s t e f g (inr h) = inr (g h)

pub alone_agrees : (s t : Line) → Alone s t → Agrees s → Agrees t
alone_agrees s _ errs h = h
alone_agrees s _ ends h = record {
  near = near_of s (record s { going = false }) refl refl (ahead_ended s false) h.near;
  sends_parity = h.sends_parity;
  expects_parity = h.expects_parity;
}
alone_agrees s _ (puts x) h = record {
  near = near_of s (record s { rest = s.rest ++ x ∷ [] }) refl refl (ahead_put s x) h.near;
  sends_parity = h.sends_parity;
  expects_parity = h.expects_parity;
}

pub alone_next : (s t : Line) (u : Bool) (x : List ℕ) → Alone s t → IsNext s u x → IsNext t u x
alone_next s _ u x errs h = h
alone_next s _ u x ends h = record { parity = h.parity; later = h.later; rest = h.rest }
alone_next s _ u x (puts y) h = record { parity = h.parity; later = h.later ++ y ∷ []; rest = ap (λ r. r ++ y ∷ []) h.rest }

alone_is : (s t : Line) (a : Ask) → Alone s t → Is s a → Is t a
alone_is s t (Out u x) e i = alone_next s t u x e i

if_ack : (r : Reply) {P Q : Type 0} → (P → Q) → IfAck r P → IfAck r Q
if_ack Ack f h = f h
if_ack Nak f h = h
if_ack Stall f h = h
if_ack Err f h = h

alone_answered : (s t : Line) (a : Ask) (r : Reply) → Alone s t → Answered s a r → Answered t a r
alone_answered s t a r e h = record {
  is = alone_is s t a e h.is;
  agrees = alone_agrees s t e h.agrees;
  ahead = if_ack r (alone_ahead s t e) h.ahead;
}

-- ---- the device's half

-- a packet that the device expects is one that it hasn't
level_of : (s : Line) (t : Bool) (x : List ℕ) → IsNext s t x → Agrees s → alike t s.expects ≡ true → s.taken ≡ s.known
level_of s t x n h same = elim h.near [
  | inl e ↦ e
  | inr f ↦ never_both (alike t s.expects) same
      (next_unlike t s.expects (length s.known) (n.parity ∙ h.sends_parity)
      (h.expects_parity ∙ ap (λ xs. toggle_after (length xs)) f.taken ∙ ap toggle_after (longer s.known f.next)))
]

-- one with the other toggle it has
ahead_of : (s : Line) (t : Bool) (x : List ℕ) → IsNext s t x → Agrees s → alike t s.expects ≡ false → IsAhead s
ahead_of s t x n h differs = elim h.near [
  | inl e ↦ never_both (alike t s.expects)
      (same_alike t s.expects (length s.known) (n.parity ∙ h.sends_parity)
      (h.expects_parity ∙ ap (λ xs. toggle_after (length xs)) e)) differs
  | inr f ↦ f
]

taken_ahead : (s : Line) (t : Bool) (x : List ℕ) → IsNext s t x → s.taken ≡ s.known → IsAhead (with_taken x s)
taken_ahead s t x n e = record { next = x; later = n.later; rest = n.rest; taken = ap (λ xs. xs ++ x ∷ []) e }

taken_agrees : (s : Line) (t : Bool) (x : List ℕ) → IsNext s t x → Agrees s → s.taken ≡ s.known → Agrees (with_taken x s)
taken_agrees s t x n h e = record {
  near = inr (taken_ahead s t x n e);
  sends_parity = h.sends_parity;
  expects_parity = parity_turns s.taken x s.expects h.expects_parity;
}

taken_next : (s : Line) (t : Bool) (x : List ℕ) → IsNext s t x → IsNext (with_taken x s) t x
taken_next s t x n = record { parity = n.parity; later = n.later; rest = n.rest }

pub works : (s t : Line) (a : Ask) (r : Reply) → Is s a → Agrees s → Works s a r t → Answered t a r
works s _ _ _ i h (accepts u x same) =
    let level : s.taken ≡ s.known = level_of s u x i h same in
    record { is = taken_next s u x i; agrees = taken_agrees s u x i h level; ahead = taken_ahead s u x i level }
works s _ _ _ i h (drops u x differs) = record { is = i; agrees = h; ahead = ahead_of s u x i h differs }
works s _ _ _ i h (refuses u x) = record { is = i; agrees = h; ahead = tt }
works s _ _ _ i h (stalls u x) = record { is = i; agrees = h; ahead = tt }

pub quiet : (s t : Line) (a : Ask) → Is s a → Agrees s → Quiet s a t → Agrees t
quiet s _ _ i h (unheard u x) = h
quiet s _ _ i h (accepts_unheard u x same) = taken_agrees s u x i h (level_of s u x i h same)

pub quiet_is : (s t : Line) (a : Ask) → Is s a → Quiet s a t → Is t a
quiet_is s _ _ i (unheard u x) = i
quiet_is s _ _ i (accepts_unheard u x same) = taken_next s u x i

dead_answered : (way : Way) (s : Line) (a : Ask) → Is s a → Agrees s → Answered s a (dead way)
dead_answered Buffered s a i h = record { is = i; agrees = h; ahead = tt }
dead_answered Piped s a i h = record { is = i; agrees = h; ahead = tt }

-- ---- the host's half

first_same : (x y : List ℕ) (xs ys : List (List ℕ)) → x ∷ xs ≡ y ∷ ys → x ≡ y
first_same x y xs ys e = cc

pub learns_agrees : (s : Line) (x : List ℕ) (later : List (List ℕ)) → s.rest ≡ x ∷ later → Agrees s → IsAhead s
    → Agrees (with_known x later s)
learns_agrees s x later e h f = record {
  near = inl (f.taken ∙ ap (λ y. s.known ++ y ∷ []) (first_same f.next x f.later later (sym f.rest ∙ e)));
  sends_parity = parity_turns s.known x s.sends h.sends_parity;
  expects_parity = h.expects_parity;
}

hears : (s t : Line) (a : Ask) (r : Reply) → Answered s a r → Hears s a r t → Agrees t
hears s _ _ _ h (learns u x later e) = learns_agrees s x later e h.agrees h.ahead
hears s _ _ _ h (waits u x) = h.agrees
hears s _ _ _ h (stops u x) = alone_agrees s (record s { going = false }) ends h.agrees
hears s _ _ _ h (fails u x) = h.agrees

pub out_keeps : Keeps out_halves out_claims
out_keeps = record {
  alone_is = alone_is;
  alone_stands = alone_agrees;
  alone_answered = alone_answered;
  alone_gone = alone_agrees;
  works = works;
  quiet = quiet;
  quiet_is = quiet_is;
  dead = dead_answered;
  hears = hears;
  spared = λ s a r p h. h.agrees;
  lost = λ s a r h. h.agrees;
  none = λ s h. h;
}

-- ---- the pipe

pub pipe_kept : KeepsPipe
pipe_kept = step_keeps out_halves out_claims out_keeps

packets_begin : (xs ys : List (List ℕ)) → IsPrefix (concat xs) (concat (xs ++ ys))
packets_begin xs ys = (concat ys, sym (concat-append xs ys))

pub taken_begins : (s : Line) → Agrees s → IsPrefix (concat s.taken) (concat (s.known ++ s.rest))
taken_begins s h = elim h.near [
  | inl e ↦ subst (λ xs. IsPrefix (concat xs) (concat (s.known ++ s.rest))) (sym e) (packets_begin s.known s.rest)
  | inr f ↦ subst (λ xs. IsPrefix (concat xs) (concat (s.known ++ s.rest))) (sym f.taken)
      (subst (λ ys. IsPrefix (concat (s.known ++ f.next ∷ [])) (concat (s.known ++ ys))) (sym f.rest)
      (subst (λ ys. IsPrefix (concat (s.known ++ f.next ∷ [])) (concat ys)) (append_assoc s.known (f.next ∷ []) f.later)
      (packets_begin (s.known ++ f.next ∷ []) f.later)))
]

pub pipe_agrees : PipeAgrees
pipe_agrees way x run =
    let opening : Agrees out_opening = record { near = inl refl; sends_parity = refl; expects_parity = refl } in
    let h = run_keeps out_halves out_claims out_keeps way (at_rest out_opening) x run (record { at = opening; aside = tt }) in
    let a : Agrees x.line = holds_gone out_halves out_claims out_keeps way x h in
    record { holds = h; agrees = a; begins = taken_begins x.line a }

-- ---- a host whose result is gone

alone_known : (s t : Line) → AllAlone out_halves s t → t.known ≡ s.known
alone_known s _ (none _) = refl
alone_known s t (more _ _ _ errs rest) = alone_known s t rest
alone_known s t (more _ _ _ ends rest) = alone_known (record s { going = false }) t rest
alone_known s t (more _ _ _ (puts x) rest) = alone_known (record s { rest = s.rest ++ x ∷ [] }) t rest

alone_taken : (s t : Line) → AllAlone out_halves s t → t.taken ≡ s.taken
alone_taken s _ (none _) = refl
alone_taken s t (more _ _ _ errs rest) = alone_taken s t rest
alone_taken s t (more _ _ _ ends rest) = alone_taken (record s { going = false }) t rest
alone_taken s t (more _ _ _ (puts x) rest) = alone_taken (record s { rest = s.rest ++ x ∷ [] }) t rest

pub only_ends : StrandedOnlyEnds
only_ends way x y run h =
    let o : OnlyAlone out_halves x y = stranded_stays out_halves way x y run h in
    record { stranded = o.stranded; known = alone_known x.line y.line o.alone; taken = alone_taken x.line y.line o.alone }
