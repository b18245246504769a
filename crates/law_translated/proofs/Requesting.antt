-- Each half of a transaction of a control request without data keeps its window.
use Rattle.std.proofs.Common.{◌≡◌, ◌+◌, Bool, true, false, inl, inr, if◌then◌else◌, refl, sym, subst, ◌∙◌, arith}
use Rattle.law_translated.specs.Lift.{Keeps, at_rest}
use Rattle.law_translated.specs.Requests.{Token, Setup, Status, Reply, Ack, Nak, Stall, Stage, AtSetup, AtStatus, Done, Line, request_opening, token_at, Is, Alone, confirmed, Works, Quiet, next, Hears, request_halves, HasRequest, HasActed, StandsAt, AnsweredAt, IsRight, request_claims, KeepsWindow, WindowIsRight}
use Rattle.law_translated.specs.Requests.Alone.{goes_or_ends}
use Rattle.law_translated.specs.Requests.Works.{takes, confirms, refuses, stalls}
use Rattle.law_translated.specs.Requests.Quiet.{unheard, takes_unheard, confirms_unheard}
use Rattle.law_translated.specs.Requests.Hears.{goes_on, waits, halts}
use Rattle.law_translated.proofs.Lifting.{step_keeps, run_keeps, holds_gone}
use Rattle.law_translated.proofs.Streams.{never_both}

-- ---- the host by itself

same_request : (s : Line) (b : Bool) → HasRequest s → HasRequest (record s { going = b })
same_request s b h = record { has = h.has; acts = h.acts }

stands_by : (g : Stage) (s : Line) (b : Bool) → StandsAt g s → StandsAt g (record s { going = b })
stands_by AtSetup s b h = h
stands_by AtStatus s b h = same_request s b h
stands_by Done s b h = h

answered_by : (g : Stage) (r : Reply) (s : Line) (b : Bool) → AnsweredAt g r s → AnsweredAt g r (record s { going = b })
answered_by AtSetup Ack s b h = h
answered_by AtSetup Nak s b h = h
answered_by AtSetup Stall s b h = h
answered_by AtStatus Ack s b h = record { has = h.has; acted = h.acted; acts = h.acts }
answered_by AtStatus Nak s b h = same_request s b h
answered_by AtStatus Stall s b h = same_request s b h
answered_by Done r s b h = absurd h

alone_is : (s t : Line) (a : Token) → Alone s t → Is s a → Is t a
alone_is s _ a (goes_or_ends b) i = i

alone_stands : (s t : Line) → Alone s t → StandsAt s.stage s → StandsAt t.stage t
alone_stands s _ (goes_or_ends b) h = stands_by s.stage s b h

alone_answered : (s t : Line) (a : Token) (r : Reply) → Alone s t → AnsweredAt s.stage r s → AnsweredAt t.stage r t
alone_answered s _ a r (goes_or_ends b) h = answered_by s.stage r s b h

alone_right : (s t : Line) → Alone s t → IsRight s → IsRight t
alone_right s _ (goes_or_ends b) h = record { once = h.once; done = h.done }

-- ---- the device's half

-- it acts once
once_by : (s : Line) (b : Bool) → s.acted ≡ b → HasRequest s → (if b then s.acts else s.acts + 1) ≡ 1
once_by s true e h = elim h.acts [
  | inl f ↦ never_both s.acted e f.0
  | inr g ↦ g.1
]
once_by s false e h = elim h.acts [
  | inl f ↦ omega (arith, f.1)
  | inr g ↦ never_both s.acted g.0 e
]

confirmed_acted : (s : Line) → HasRequest s → HasActed (confirmed s)
confirmed_acted s h = record { has = h.has; acted = refl; acts = once_by s s.acted refl h }

acted_request : (s : Line) → HasActed s → HasRequest s
acted_request s h = record { has = h.has; acts = inr (h.acted, h.acts) }

setup_not_status : {P : Type 0} → Setup ≡ Status → P
setup_not_status e = absurd (cc)

status_not_setup : {P : Type 0} → Status ≡ Setup → P
status_not_setup e = absurd (cc)

works_by : (g : Stage) (s t : Line) (a : Token) (r : Reply) → token_at g a → StandsAt g s → Works s a r t → AnsweredAt g r t
works_by AtSetup s _ _ _ i h takes = (h, refl, refl)
works_by AtSetup s _ _ _ i h (confirms has) = status_not_setup i
works_by AtSetup s _ _ _ i h refuses = h
works_by AtSetup s _ _ _ i h stalls = h
works_by AtStatus s _ _ _ i h takes = setup_not_status i
works_by AtStatus s _ _ _ i h (confirms has) = confirmed_acted s h
works_by AtStatus s _ _ _ i h refuses = h
works_by AtStatus s _ _ _ i h stalls = h
works_by Done s t a r i h w = absurd i

works_stage : (s t : Line) (a : Token) (r : Reply) → Works s a r t → t.stage ≡ s.stage
works_stage s _ _ _ takes = refl
works_stage s _ _ _ (confirms has) = refl
works_stage s _ _ _ refuses = refl
works_stage s _ _ _ stalls = refl

works : (s t : Line) (a : Token) (r : Reply) → Is s a → StandsAt s.stage s → Works s a r t → AnsweredAt t.stage r t
works s t a r i h w = subst (λ g. AnsweredAt g r t) (sym (works_stage s t a r w)) (works_by s.stage s t a r i h w)

quiet_by : (g : Stage) (s t : Line) (a : Token) → token_at g a → StandsAt g s → Quiet s a t → StandsAt g t
quiet_by g s _ _ i h (unheard a) = h
quiet_by AtSetup s _ _ i h takes_unheard = h
quiet_by AtSetup s _ _ i h (confirms_unheard has) = status_not_setup i
quiet_by AtStatus s _ _ i h takes_unheard = setup_not_status i
quiet_by AtStatus s _ _ i h (confirms_unheard has) = acted_request (confirmed s) (confirmed_acted s h)
quiet_by Done s _ _ i h takes_unheard = absurd i
quiet_by Done s _ _ i h (confirms_unheard has) = absurd i

quiet_stage : (s t : Line) (a : Token) → Quiet s a t → t.stage ≡ s.stage
quiet_stage s _ _ (unheard a) = refl
quiet_stage s _ _ takes_unheard = refl
quiet_stage s _ _ (confirms_unheard has) = refl

quiet : (s t : Line) (a : Token) → Is s a → StandsAt s.stage s → Quiet s a t → StandsAt t.stage t
quiet s t a i h q = subst (λ g. StandsAt g t) (sym (quiet_stage s t a q)) (quiet_by s.stage s t a i h q)

quiet_is : (s t : Line) (a : Token) → Is s a → Quiet s a t → Is t a
quiet_is s t a i q = subst (λ g. token_at g a) (sym (quiet_stage s t a q)) i

dead_by : (g : Stage) (s : Line) (a : Token) → token_at g a → StandsAt g s → AnsweredAt g Stall s
dead_by AtSetup s a i h = h
dead_by AtStatus s a i h = h
dead_by Done s a i h = absurd i

-- ---- the host's half

hears_by : (g : Stage) (s t : Line) (a : Token) (r : Reply) → s.stage ≡ g → AnsweredAt g r s → Hears s a r t → StandsAt t.stage t
hears_by AtSetup s _ _ _ e h (goes_on a) =
    subst (λ x. StandsAt (next x) (record s { stage = next s.stage })) (sym e) (record { has = h.1; acts = inl (h.2, h.0) })
hears_by AtSetup s _ _ _ e h (waits a) = subst (λ x. StandsAt x s) (sym e) h
hears_by AtSetup s _ _ _ e h (halts a) = subst (λ x. StandsAt x (record s { going = false })) (sym e) h
hears_by AtStatus s _ _ _ e h (goes_on a) = subst (λ x. StandsAt (next x) (record s { stage = next s.stage })) (sym e) h.acts
hears_by AtStatus s _ _ _ e h (waits a) = subst (λ x. StandsAt x s) (sym e) h
hears_by AtStatus s _ _ _ e h (halts a) = subst (λ x. StandsAt x (record s { going = false })) (sym e) (same_request s false h)
hears_by Done s t a r e h k = absurd h

-- ---- what goes, and what is said of the window

setup_not_done : {P : Type 0} → AtSetup ≡ Done → P
setup_not_done e = absurd (cc)

status_not_done : {P : Type 0} → AtStatus ≡ Done → P
status_not_done e = absurd (cc)

right_by : (g : Stage) (s : Line) → s.stage ≡ g → StandsAt g s → IsRight s
right_by AtSetup s e h = record { once = inl h; done = λ d. setup_not_done (sym e ∙ d) }
right_by AtStatus s e h = record { once = elim h.acts [ inl f ↦ inl f.1 | inr f ↦ inr f.1 ]; done = λ d. status_not_done (sym e ∙ d) }
right_by Done s e h = record { once = inr h; done = λ d. h }

-- what stood before the answer was heard
answered_stands : (g : Stage) (r : Reply) (s : Line) → AnsweredAt g r s → StandsAt g s
answered_stands AtSetup Ack s h = h.0
answered_stands AtSetup Nak s h = h
answered_stands AtSetup Stall s h = h
answered_stands AtStatus Ack s h = acted_request s h
answered_stands AtStatus Nak s h = h
answered_stands AtStatus Stall s h = h
answered_stands Done r s h = absurd h

pub request_keeps : Keeps request_halves request_claims
request_keeps = record {
  alone_is = alone_is;
  alone_stands = alone_stands;
  alone_answered = alone_answered;
  alone_gone = alone_right;
  works = works;
  quiet = quiet;
  quiet_is = quiet_is;
  dead = λ way s a i h. dead_by s.stage s a i h;
  hears = λ s t a r h k. hears_by s.stage s t a r refl h k;
  spared = λ s a r p h. answered_stands s.stage r s h;
  lost = λ s a r h. right_by s.stage s refl (answered_stands s.stage r s h);
  none = λ s h. right_by s.stage s refl h;
}

pub keeps_window : KeepsWindow
keeps_window = step_keeps request_halves request_claims request_keeps

pub window_is_right : WindowIsRight
window_is_right way has acted x run =
    holds_gone request_halves request_claims request_keeps way x
    (run_keeps request_halves request_claims request_keeps way (at_rest (request_opening has acted)) x run
    (record { at = refl; aside = tt }))
