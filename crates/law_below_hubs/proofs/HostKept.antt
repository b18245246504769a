-- How an OUT pipe below a hub stands is kept by each event of the machine with a translator between its ends, and where its host leaves
-- what the translator has.
use Rattle.std.proofs.Common.{◌≡◌, Bool, true, false, refl, sym, subst}
use Rattle.law_translated.specs.Lift.{Way, Wait, Idle, Waits, Late, Slot, Empty, Asked, Hidden, There, Told, IsQuiet, result, told}
use Rattle.law_translated.specs.Lift.{Buffered, Piped, gone_wait, Step, Run, stays, goes}
use Rattle.law_translated.specs.Lift.Step.{alone, plain, half_plain, starts, half_starts, repeats, starts_none, gives_up, tells}
use Rattle.law_translated.specs.Lift.Step.{half_tells, works, is_quiet, gives_dead, shows, forgets, drops, clears, forgets_aside, turns}
use Rattle.law_translated.specs.OutPipes.{Line, Ask as Sent, Reply as Heard, Is, Alone, Agrees, Answered, out_halves, OutSplit}
use Rattle.law_translated.proofs.Sending.{out_keeps}
use Rattle.law_below_hubs.specs.HostOuts.{OutAt}

-- ---- one slot

pub agrees : (s : Slot Sent Heard) (b : Bool) (l : Line) → OutAt s b l → Agrees l
agrees Empty b l h = h
agrees (Asked a) b l h = h.1
agrees (Hidden a r) b l h = h.agrees
agrees (There a r) b l h = h.agrees
agrees (Told a r) true l h = h.agrees
agrees (Told a r) false l h = h

-- the host leaves what it waited for
pub leaves : (s : Slot Sent Heard) (b : Bool) (l : Line) → OutAt s b l → OutAt s false l
leaves Empty b l h = h
leaves (Asked a) b l h = h
leaves (Hidden a r) b l h = h
leaves (There a r) b l h = h
leaves (Told a r) b l h = agrees (Told a r) b l h

pub given : (s : Slot Sent Heard) (b : Bool) (l : Line) → OutAt s b l → OutAt (told s) b l
given Empty b l h = h
given (Asked a) b l h = h
given (Hidden a r) b l h = h
given (There a r) true l h = h
given (There a r) false l h = h.agrees
given (Told a r) b l h = h

pub by_itself : (s : Slot Sent Heard) (b : Bool) (l m : Line) → Alone l m → OutAt s b l → OutAt s b m
by_itself Empty b l m e h = out_keeps.alone_stands l m e h
by_itself (Asked a) b l m e h = (out_keeps.alone_is l m a e h.0, out_keeps.alone_stands l m e h.1)
by_itself (Hidden a r) b l m e h = out_keeps.alone_answered l m a r e h
by_itself (There a r) b l m e h = out_keeps.alone_answered l m a r e h
by_itself (Told a r) true l m e h = out_keeps.alone_answered l m a r e h
by_itself (Told a r) false l m e h = out_keeps.alone_stands l m e h

-- nothing is to come of it, or it is asked for: it isn't told
busy_waits : (s : Slot Sent Heard) (b : Bool) (l : Line) → (IsQuiet s → ⊥) → OutAt s b l → OutAt s true l
busy_waits Empty b l busy h = h
busy_waits (Asked a) b l busy h = h
busy_waits (Hidden a r) b l busy h = h
busy_waits (There a r) b l busy h = h
busy_waits (Told a r) b l busy h = absurd (busy tt)

shown_at : (way : Way) (a : Sent) (r : Heard) (b : Bool) (l : Line) → Answered l a r → OutAt (result way a r) b l
shown_at Buffered a r b l h = h
shown_at Piped a r b l h = h

-- the answer that a slot gives
pub told_answer : (s : Slot Sent Heard) (a : Sent) (r : Heard) (l : Line) → told s ≡ Told a r → OutAt s true l → Answered l a r
told_answer Empty a r l e h = absurd cc
told_answer (Asked c) a r l e h = absurd cc
told_answer (Hidden c t) a r l e h = absurd cc
told_answer (There c t) a r l e h = subst (λ s. OutAt s true l) e h
told_answer (Told c t) a r l e h = subst (λ s. OutAt s true l) e h

-- ---- an event

abbrev pub is_waiting : Wait → Bool
is_waiting Idle = false
is_waiting Waits = true
is_waiting Late = true

pub gone_waiting : (u : Wait) → is_waiting (gone_wait u) ≡ is_waiting u
gone_waiting Idle = refl
gone_waiting Waits = refl
gone_waiting Late = refl

pub record OutHolds (x : OutSplit) : Type 0 where
  pub at : OutAt x.here (is_waiting x.wait) x.line
  pub aside : IsQuiet x.aside

at_asked : (x : OutSplit) (a : Sent) → x.here ≡ Asked a → OutHolds x → Is x.line a × Agrees x.line
at_asked x a is h = subst (λ s. OutAt s (is_waiting x.wait) x.line) is h.at

at_waiting : (x : OutSplit) → x.wait ≡ Waits → OutHolds x → OutAt x.here true x.line
at_waiting x is h = subst (λ u. OutAt x.here (is_waiting u) x.line) is h.at

its : (x : OutSplit) → OutHolds x → Agrees x.line
its x h = agrees x.here (is_waiting x.wait) x.line h.at

empty_at : (x : OutSplit) (b : Bool) (m : Line) → x.here ≡ Empty → Agrees m → OutAt x.here b m
empty_at x b m is h = subst (λ s. OutAt s b m) (sym is) h

pub step_kept : (way : Way) (x y : OutSplit) → Step out_halves way x y → OutHolds x → OutHolds y
step_kept way x _ (alone t e) h = record { at = by_itself x.here (is_waiting x.wait) x.line t e h.at; aside = h.aside }
step_kept way x _ (plain a r t u idle empty is work heard) h =
    let after : Agrees u = out_keeps.hears t u a r (out_keeps.works x.line t a r is (its x h) work) heard in
    record { at = empty_at x (is_waiting x.wait) u empty after; aside = h.aside }
step_kept way x _ (half_plain a t idle empty is quiet) h =
    record { at = empty_at x (is_waiting x.wait) t empty (out_keeps.quiet x.line t a is (its x h) quiet); aside = h.aside }
step_kept way x _ (starts a idle is quiet) h = record { at = (is, its x h); aside = h.aside }
step_kept way x _ (half_starts a buffered idle is quiet) h = record { at = (is, its x h); aside = h.aside }
step_kept way x _ (repeats idle busy) h =
    record { at = busy_waits x.here (is_waiting x.wait) x.line busy h.at; aside = h.aside }
step_kept way x _ (starts_none piped idle empty) h = record { at = empty_at x true x.line empty (its x h); aside = h.aside }
step_kept way x _ (gives_up piped waits empty) h = record { at = empty_at x false x.line empty (its x h); aside = h.aside }
step_kept way x _ (tells a r t waits is heard) h =
    record { at = out_keeps.hears x.line t a r (told_answer x.here a r x.line is (at_waiting x waits h)) heard; aside = h.aside }
step_kept way x _ (half_tells waits) h = record { at = given x.here (is_waiting x.wait) x.line h.at; aside = h.aside }
step_kept way x _ (works a r t is work) h =
    let k = at_asked x a is h in
    record { at = shown_at way a r (is_waiting x.wait) t (out_keeps.works x.line t a r k.0 k.1 work); aside = h.aside }
step_kept way x _ (is_quiet a t is quiet) h =
    let k = at_asked x a is h in
    record {
      at = subst (λ s. OutAt s (is_waiting x.wait) t) (sym is)
          (out_keeps.quiet_is x.line t a k.0 quiet, out_keeps.quiet x.line t a k.0 k.1 quiet);
      aside = h.aside;
    }
step_kept way x _ (gives_dead a is) h =
    let k = at_asked x a is h in
    record { at = shown_at way a (out_halves.dead way) (is_waiting x.wait) x.line (out_keeps.dead way x.line a k.0 k.1); aside = h.aside }
step_kept way x _ (shows a r is) h =
    record { at = subst (λ s. OutAt s (is_waiting x.wait) x.line) is h.at; aside = h.aside }
step_kept way x _ (forgets a r is) h = record { at = its x h; aside = h.aside }
step_kept way x _ (drops piped) h = record { at = its x h; aside = h.aside }
step_kept way x _ (clears spared) h = record { at = its x h; aside = h.aside }
step_kept way x _ forgets_aside h = record { at = h.at; aside = tt }
step_kept way x _ (turns idle quiet) h = record { at = turned x.aside h.aside; aside = quiet }
  where
    turned : (s : Slot Sent Heard) → IsQuiet s → OutAt s (is_waiting x.wait) x.line
    turned s q = subst (λ u. OutAt s (is_waiting u) x.line) (sym idle) (by s q)
      where
        by : (t : Slot Sent Heard) → IsQuiet t → OutAt t false x.line
        by Empty q = its x h
        by (Asked a) q = absurd q
        by (Hidden a r) q = absurd q
        by (There a r) q = absurd q
        by (Told a r) q = its x h

pub run_kept : (way : Way) (x y : OutSplit) → Run out_halves way x y → OutHolds x → OutHolds y
run_kept way x _ (stays _) h = h
run_kept way x z (goes _ y _ step rest) h = run_kept way y z rest (step_kept way x y step h)
