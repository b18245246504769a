-- Where each half of a transaction keeps how host and device stand to each other, so does each event with a translator between them.
use Rattle.std.proofs.Common.{◌≡◌, refl, sym, subst, ap, ◌∙◌}
use Rattle.law_translated.specs.Lift.{Way, Buffered, Piped, Wait, Idle, Waits, Late, Slot, Empty, Asked, Hidden, There, Told, Split, IsQuiet, result, told, gone_wait, Halves, IsSpared, Step, stays, goes, Claims, Keeps, At, Holds, StepsKeep, RunsKeep, IsStranded, AllAlone, none, more, OnlyAlone, StrandedStays}
use Rattle.law_translated.specs.Lift.Step.{alone, plain, half_plain, starts, half_starts, repeats, starts_none, gives_up, tells, half_tells, works, is_quiet, gives_dead, shows, forgets, drops, clears, forgets_aside, turns}

module _ {S A R : Type 0} (m : Halves S A R) (c : Claims S A R) where
  abbrev Ats : Way → Slot A R → Wait → S → Type 0
  Ats = At m c

  by_itself : Keeps m c → (way : Way) (b : Slot A R) (u : Wait) (s t : S) → m.Alone s t → Ats way b u s → Ats way b u t
  by_itself k way Empty Idle s t e a = k.alone_stands s t e a
  by_itself k way Empty Waits s t e a = k.alone_stands s t e a
  by_itself k way Empty Late s t e a = k.alone_gone s t e a
  by_itself k Buffered (Asked x) Idle s t e a = (k.alone_is s t x e a.0, k.alone_stands s t e a.1)
  by_itself k Piped (Asked x) Idle s t e a = absurd a
  by_itself k way (Asked x) Waits s t e a = (k.alone_is s t x e a.0, k.alone_stands s t e a.1)
  by_itself k way (Asked x) Late s t e a = absurd a
  by_itself k way (Hidden x r) Idle s t e a = absurd a
  by_itself k Buffered (Hidden x r) Waits s t e a = absurd a
  by_itself k Piped (Hidden x r) Waits s t e a = k.alone_answered s t x r e a
  by_itself k way (Hidden x r) Late s t e a = absurd a
  by_itself k Buffered (There x r) Idle s t e a = k.alone_answered s t x r e a
  by_itself k Piped (There x r) Idle s t e a = absurd a
  by_itself k way (There x r) Waits s t e a = k.alone_answered s t x r e a
  by_itself k way (There x r) Late s t e a = absurd a
  by_itself k way (Told x r) Idle s t e a = k.alone_stands s t e a
  by_itself k way (Told x r) Waits s t e a = k.alone_answered s t x r e a
  by_itself k way (Told x r) Late s t e a = absurd a

  -- of a slot of which nothing is to come, while the host doesn't wait
  quiet_stands : (way : Way) (b : Slot A R) (s : S) → IsQuiet b → Ats way b Idle s → c.Stands s
  quiet_stands way Empty s q a = a
  quiet_stands way (Asked x) s q a = absurd q
  quiet_stands way (Hidden x r) s q a = absurd q
  quiet_stands way (There x r) s q a = absurd q
  quiet_stands way (Told x r) s q a = a

  turned : (way : Way) (b : Slot A R) (s : S) → IsQuiet b → c.Stands s → Ats way b Idle s
  turned way Empty s q a = a
  turned way (Asked x) s q a = absurd q
  turned way (Hidden x r) s q a = absurd q
  turned way (There x r) s q a = absurd q
  turned way (Told x r) s q a = a

  found : (way : Way) (b : Slot A R) (s : S) → (IsQuiet b → ⊥) → Ats way b Idle s → Ats way b Waits s
  found way Empty s q a = absurd (q tt)
  found Buffered (Asked x) s q a = a
  found Piped (Asked x) s q a = absurd a
  found way (Hidden x r) s q a = absurd a
  found Buffered (There x r) s q a = a
  found Piped (There x r) s q a = absurd a
  found way (Told x r) s q a = absurd (q tt)

  given : (way : Way) (b : Slot A R) (s : S) → Ats way b Waits s → Ats way (told b) Waits s
  given way Empty s a = a
  given way (Asked x) s a = a
  given way (Hidden x r) s a = a
  given way (There x r) s a = a
  given way (Told x r) s a = a

  -- the transaction of a slot that is asked
  record CanWork (way : Way) (x : A) (u : Wait) (s : S) : Type 0 where
    is : m.Is s x
    stands : c.Stands s
    gets : (t : S) (r : R) → c.Answered t x r → Ats way (result way x r) u t
    rests : (t : S) → m.Is t x → c.Stands t → Ats way (Asked x) u t

  can_work : (way : Way) (x : A) (u : Wait) (s : S) → Ats way (Asked x) u s → CanWork way x u s
  can_work Buffered x Idle s a = record { is = a.0; stands = a.1; gets = λ t r h. h; rests = λ t i h. (i, h) }
  can_work Piped x Idle s a = absurd a
  can_work Buffered x Waits s a = record { is = a.0; stands = a.1; gets = λ t r h. h; rests = λ t i h. (i, h) }
  can_work Piped x Waits s a = record { is = a.0; stands = a.1; gets = λ t r h. h; rests = λ t i h. (i, h) }
  can_work way x Late s a = absurd a

  shown : (way : Way) (x : A) (r : R) (u : Wait) (s : S) → Ats way (Hidden x r) u s → Ats way (There x r) u s
  shown way x r Idle s a = absurd a
  shown Buffered x r Waits s a = absurd a
  shown Piped x r Waits s a = a
  shown way x r Late s a = absurd a

  -- what the translator has of the key goes
  cleared : Keeps m c → (way : Way) (b : Slot A R) (u : Wait) (s : S) → IsSpared m.Spared b u → Ats way b u s
      → Ats way Empty (gone_wait u) s
  cleared k way Empty Idle s p a = a
  cleared k way Empty Waits s p a = k.none s a
  cleared k way Empty Late s p a = a
  cleared k Buffered (Asked x) Idle s p a = a.1
  cleared k Piped (Asked x) Idle s p a = absurd a
  cleared k way (Asked x) Waits s p a = k.none s a.1
  cleared k way (Asked x) Late s p a = absurd a
  cleared k way (Hidden x r) Idle s p a = absurd a
  cleared k Buffered (Hidden x r) Waits s p a = absurd a
  cleared k Piped (Hidden x r) Waits s p a = k.lost s x r a
  cleared k way (Hidden x r) Late s p a = absurd a
  cleared k Buffered (There x r) Idle s p a = k.spared s x r p a
  cleared k Piped (There x r) Idle s p a = absurd a
  cleared k way (There x r) Waits s p a = k.lost s x r a
  cleared k way (There x r) Late s p a = absurd a
  cleared k way (Told x r) Idle s p a = a
  cleared k way (Told x r) Waits s p a = k.lost s x r a
  cleared k way (Told x r) Late s p a = absurd a

  -- a host that doesn't wait has nothing of a pipeline, but what was told
  piped_spared : (b : Slot A R) (u : Wait) (s : S) → Ats Piped b u s → IsSpared m.Spared b u
  piped_spared Empty u s a = tt
  piped_spared (Asked x) u s a = tt
  piped_spared (Hidden x r) u s a = tt
  piped_spared (There x r) Idle s a = absurd a
  piped_spared (There x r) Waits s a = tt
  piped_spared (There x r) Late s a = tt
  piped_spared (Told x r) u s a = tt

  dropped : Keeps m c → (b : Slot A R) (u : Wait) (s : S) → Ats Piped b u s → Ats Piped Empty (gone_wait u) s
  dropped k b u s a = cleared k Piped b u s (piped_spared b u s a) a

  -- the answer that a slot gives
  told_answer : (way : Way) (b : Slot A R) (x : A) (r : R) (s : S) → told b ≡ Told x r → Ats way b Waits s → c.Answered s x r
  told_answer way Empty x r s e a = absurd (cc)
  told_answer way (Asked y) x r s e a = absurd (cc)
  told_answer way (Hidden y z) x r s e a = absurd (cc)
  told_answer way (There y z) x r s e a = subst (λ b. Ats way b Waits s) e a
  told_answer way (Told y z) x r s e a = subst (λ b. Ats way b Waits s) e a

  -- ---- events

  abbrev H : Way → Split S A R → Type 0
  H = Holds m c

  idle_at : (way : Way) (x : Split S A R) → x.wait ≡ Idle → H way x → Ats way x.here Idle x.line
  idle_at way x idle h = subst (λ u. Ats way x.here u x.line) idle h.at

  waits_at : (way : Way) (x : Split S A R) → x.wait ≡ Waits → H way x → Ats way x.here Waits x.line
  waits_at way x waits h = subst (λ u. Ats way x.here u x.line) waits h.at

  rest_stands : (way : Way) (x : Split S A R) → x.wait ≡ Idle → x.here ≡ Empty → H way x → c.Stands x.line
  rest_stands way x idle empty h = subst (λ b. Ats way b Idle x.line) empty (idle_at way x idle h)

  at_rest_again : (way : Way) (x : Split S A R) (t : S) → x.wait ≡ Idle → x.here ≡ Empty → c.Stands t → Ats way x.here x.wait t
  at_rest_again way x t idle empty h = subst (λ u. Ats way x.here u t) (sym idle) (subst (λ b. Ats way b Idle t) (sym empty) h)

  working : (way : Way) (x : Split S A R) (a : A) → x.here ≡ Asked a → H way x → CanWork way a x.wait x.line
  working way x a is h = can_work way a x.wait x.line (subst (λ b. Ats way b x.wait x.line) is h.at)

  pub step_keeps : Keeps m c → StepsKeep m c
  step_keeps k way x _ (alone t e) h = record { at = by_itself k way x.here x.wait x.line t e h.at; aside = h.aside }
  step_keeps k way x _ (plain a r t u idle empty is work heard) h =
      let after : c.Stands u = k.hears t u a r (k.works x.line t a r is (rest_stands way x idle empty h) work) heard in
      record { at = at_rest_again way x u idle empty after; aside = h.aside }
  step_keeps k way x _ (half_plain a t idle empty is quiet) h =
      record { at = at_rest_again way x t idle empty (k.quiet x.line t a is (rest_stands way x idle empty h) quiet); aside = h.aside }
  step_keeps k way x _ (starts a idle is quiet) h =
      record { at = (is, quiet_stands way x.here x.line quiet (idle_at way x idle h)); aside = h.aside }
  step_keeps k way x _ (half_starts a buffered idle is quiet) h =
      let stands : c.Stands x.line = quiet_stands way x.here x.line quiet (idle_at way x idle h) in
      record {
        at = subst (λ u. Ats way (Asked a) u x.line) (sym idle) (subst (λ v. Ats v (Asked a) Idle x.line) (sym buffered) (is, stands));
        aside = h.aside;
      }
  step_keeps k way x _ (repeats idle busy) h = record { at = found way x.here x.line busy (idle_at way x idle h); aside = h.aside }
  step_keeps k way x _ (starts_none piped idle empty) h =
      record { at = subst (λ b. Ats way b Waits x.line) (sym empty) (rest_stands way x idle empty h); aside = h.aside }
  step_keeps k way x _ (gives_up piped waits empty) h =
      let stands : c.Stands x.line = subst (λ b. Ats way b Waits x.line) empty (waits_at way x waits h) in
      record { at = subst (λ b. Ats way b Idle x.line) (sym empty) stands; aside = h.aside }
  step_keeps k way x _ (tells a r t waits is heard) h =
      record { at = k.hears x.line t a r (told_answer way x.here a r x.line is (waits_at way x waits h)) heard; aside = h.aside }
  step_keeps k way x _ (half_tells waits) h =
      record {
        at = subst (λ u. Ats way (told x.here) u x.line) (sym waits)
            (given way x.here x.line (waits_at way x waits h));
        aside = h.aside;
      }
  step_keeps k way x _ (works a r t is work) h =
      let can : CanWork way a x.wait x.line = working way x a is h in
      record { at = can.gets t r (k.works x.line t a r can.is can.stands work); aside = h.aside }
  step_keeps k way x _ (is_quiet a t is quiet) h =
      let can : CanWork way a x.wait x.line = working way x a is h in
      record {
        at =
            subst (λ b. Ats way b x.wait t) (sym is)
            (can.rests t (k.quiet_is x.line t a can.is quiet) (k.quiet x.line t a can.is can.stands quiet));
        aside = h.aside;
      }
  step_keeps k way x _ (gives_dead a is) h =
      let can : CanWork way a x.wait x.line = working way x a is h in
      record { at = can.gets x.line (m.dead way) (k.dead way x.line a can.is can.stands); aside = h.aside }
  step_keeps k way x _ (shows a r is) h =
      record { at = shown way a r x.wait x.line (subst (λ b. Ats way b x.wait x.line) is h.at); aside = h.aside }
  step_keeps k way x _ (forgets a r is) h =
      record { at = cleared k way (Told a r) x.wait x.line tt (subst (λ b. Ats way b x.wait x.line) is h.at); aside = h.aside }
  step_keeps k way x _ (drops piped) h =
      record {
        at = subst (λ v. Ats v Empty (gone_wait x.wait) x.line) (sym piped)
            (dropped k x.here x.wait x.line (subst (λ v. Ats v x.here x.wait x.line) piped h.at));
        aside = h.aside;
      }
  step_keeps k way x _ (clears spared) h = record { at = cleared k way x.here x.wait x.line spared h.at; aside = h.aside }
  step_keeps k way x _ forgets_aside h = record { at = h.at; aside = tt }
  step_keeps k way x _ (turns idle quiet) h =
      record {
        at = subst (λ u. Ats way x.aside u x.line) (sym idle)
            (turned way x.aside x.line h.aside (quiet_stands way x.here x.line quiet (idle_at way x idle h)));
        aside = quiet;
      }

  pub run_keeps : Keeps m c → RunsKeep m c
  run_keeps k way x _ (stays _) h = h
  run_keeps k way x z (goes _ y _ step rest) h = run_keeps k way y z rest (step_keeps k way x y step h)

  -- whatever is in the slot, nothing worse stands than that an answer is gone
  at_gone : Keeps m c → (way : Way) (b : Slot A R) (u : Wait) (s : S) → Ats way b u s → c.Gone s
  at_gone k way Empty Idle s h = k.none s h
  at_gone k way Empty Waits s h = k.none s h
  at_gone k way Empty Late s h = h
  at_gone k Buffered (Asked a) Idle s h = k.none s h.1
  at_gone k Piped (Asked a) Idle s h = absurd h
  at_gone k way (Asked a) Waits s h = k.none s h.1
  at_gone k way (Asked a) Late s h = absurd h
  at_gone k way (Hidden a r) Idle s h = absurd h
  at_gone k Buffered (Hidden a r) Waits s h = absurd h
  at_gone k Piped (Hidden a r) Waits s h = k.lost s a r h
  at_gone k way (Hidden a r) Late s h = absurd h
  at_gone k Buffered (There a r) Idle s h = k.lost s a r h
  at_gone k Piped (There a r) Idle s h = absurd h
  at_gone k way (There a r) Waits s h = k.lost s a r h
  at_gone k way (There a r) Late s h = absurd h
  at_gone k way (Told a r) Idle s h = k.none s h
  at_gone k way (Told a r) Waits s h = k.lost s a r h
  at_gone k way (Told a r) Late s h = absurd h

  pub holds_gone : Keeps m c → (way : Way) (x : Split S A R) → H way x → c.Gone x.line
  holds_gone k way x h = at_gone k way x.here x.wait x.line h.at

-- ---- a host that waits for an answer which is gone

late_not_idle : {P : Type 0} → Late ≡ Idle → P
late_not_idle e = absurd (cc)

late_not_waits : {P : Type 0} → Late ≡ Waits → P
late_not_waits e = absurd (cc)

module _ {S A R : Type 0} (m : Halves S A R) where
  abbrev nothing : Slot A R
  nothing = Empty

  none_asked : {P : Type 0} (a : A) → nothing ≡ Asked a → P
  none_asked a e = absurd (cc)

  none_hidden : {P : Type 0} (a : A) (r : R) → nothing ≡ Hidden a r → P
  none_hidden a r e = absurd (cc)

  none_told : {P : Type 0} (a : A) (r : R) → nothing ≡ Told a r → P
  none_told a r e = absurd (cc)

  -- one event
  record Stays (x y : Split S A R) : Type 0 where
    stranded : IsStranded y
    line : AllAlone m x.line y.line

  gone_late : (u : Wait) → u ≡ Late → gone_wait u ≡ Late
  gone_late u e = ap gone_wait e

  step_stays : (way : Way) (x y : Split S A R) → Step m way x y → IsStranded x → Stays x y
  step_stays way x _ (alone t e) h = record { stranded = record { late = h.late; empty = h.empty }; line = more x.line t t e (none t) }
  step_stays way x _ (plain a r t u idle empty is work heard) h = late_not_idle (sym h.late ∙ idle)
  step_stays way x _ (half_plain a t idle empty is quiet) h = late_not_idle (sym h.late ∙ idle)
  step_stays way x _ (starts a idle is quiet) h = late_not_idle (sym h.late ∙ idle)
  step_stays way x _ (half_starts a buffered idle is quiet) h = late_not_idle (sym h.late ∙ idle)
  step_stays way x _ (repeats idle busy) h = late_not_idle (sym h.late ∙ idle)
  step_stays way x _ (starts_none piped idle empty) h = late_not_idle (sym h.late ∙ idle)
  step_stays way x _ (gives_up piped waits empty) h = late_not_waits (sym h.late ∙ waits)
  step_stays way x _ (tells a r t waits is heard) h = late_not_waits (sym h.late ∙ waits)
  step_stays way x _ (half_tells waits) h = late_not_waits (sym h.late ∙ waits)
  step_stays way x _ (works a r t is work) h = none_asked a (sym h.empty ∙ is)
  step_stays way x _ (is_quiet a t is quiet) h = none_asked a (sym h.empty ∙ is)
  step_stays way x _ (gives_dead a is) h = none_asked a (sym h.empty ∙ is)
  step_stays way x _ (shows a r is) h = none_hidden a r (sym h.empty ∙ is)
  step_stays way x _ (forgets a r is) h = none_told a r (sym h.empty ∙ is)
  step_stays way x _ (drops piped) h = record { stranded = record { late = gone_late x.wait h.late; empty = refl }; line = none x.line }
  step_stays way x _ (clears spared) h = record { stranded = record { late = gone_late x.wait h.late; empty = refl }; line = none x.line }
  step_stays way x _ forgets_aside h = record { stranded = record { late = h.late; empty = h.empty }; line = none x.line }
  step_stays way x _ (turns idle quiet) h = late_not_idle (sym h.late ∙ idle)

  joined : (s t u : S) → AllAlone m s t → AllAlone m t u → AllAlone m s u
  joined s _ u (none _) rest = rest
  joined s t u (more _ v _ first then) rest = more s v u first (joined v t u then rest)

  pub stranded_stays : StrandedStays m
  stranded_stays way x _ (stays _) h = record { stranded = h; alone = none x.line }
  stranded_stays way x z (goes _ y _ step rest) h =
      let first : Stays x y = step_stays way x y step h in
      let then : OnlyAlone m y z = stranded_stays way y z rest first.stranded in
      record { stranded = then.stranded; alone = joined x.line y.line z.line first.line then.alone }
