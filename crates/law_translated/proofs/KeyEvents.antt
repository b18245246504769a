-- Each call on a translator as events of the machine with a translator between host and device.
use Rattle.std.proofs.Common.{◌≡◌, ℕ, ◌⊎◌, inl, inr, Bool, true, false, List, refl, sym, subst, ap, ◌∙◌}
use Rattle.std.specs.Prelude.{◌%◌, ◌==◌, if◌then◌else◌}
use Rattle.usb_base.specs.declared.packets.Ask.{Ask}
use Rattle.usb_base.specs.declared.packets.Pid.TheVariants as Pids
use Rattle.usb_base.specs.declared.packets.Reply.{Reply}
use Rattle.usb_base.specs.declared.packets.Reply.TheVariants.{Hand}
use Rattle.hub_keys.specs.Keys.{key_of}
use Rattle.hub_keys.specs.declared.key.Key.{Key}
use Rattle.tt_bulk.specs.Contents.{Taken}
use Rattle.tt_bulk.specs.Rows.{is_cleared_by}
use Rattle.law_translated.specs.Lift.{Way, Buffered, Piped, Wait, Idle, Waits, Slot, Empty, Asked, Hidden, There, Told, IsQuiet, IsSpared, Split, told, result, gone_wait, Halves, Step, Run, stays, goes}
use Rattle.law_translated.specs.Lift.Step.{starts, half_starts, repeats, starts_none, tells, half_tells, works, is_quiet, gives_dead, shows, forgets, drops, clears}
use Rattle.law_translated.specs.KeySlots.{KeySlot}
use Rattle.law_translated.specs.KeySteps.{OwnStart, OtherStart, dead_reply, KeyTurn, OfOthers, none, more, Showing, left_slot}
use Rattle.law_translated.specs.KeySteps.OwnStart.{starts as own_starts, repeats as own_repeats, is_full as own_is_full, replaces as own_replaces, starts_none as own_starts_none}
use Rattle.law_translated.specs.KeySteps.OtherStart.{stays as other_stays, forgets as other_forgets}
use Rattle.law_translated.specs.KeySteps.KeyTurn.{rests as turn_rests, works as turn_works, is_quiet as turn_is_quiet, gives_dead as turn_gives_dead}
use Rattle.law_translated.specs.KeySteps.Showing.{stays as shown_stays, shows as shown_shows}
use Rattle.law_translated.specs.KeyLaws.{IsAskedFor}
use Rattle.law_translated.specs.KeyEvents.{mapped, left_wait, with_slot, StartEvents, CompleteEvents, ClearEvents, Follows, WorkEvents, EventsOf}

module _ {S B Q : Type 0} (m : Halves S B Q) (f : Taken → B) (g : Reply → Q) where
  abbrev At : S → Wait → KeySlot → Slot B Q → Split S B Q
  At = with_slot m f g

  one : (way : Way) (x y : Split S B Q) → Step m way x y → Run m way x y
  one way x y s = goes x y y s (stays y)

  run_then : (way : Way) (x y z : Split S B Q) → Run m way x y → Run m way y z → Run m way x z
  run_then way x y z (stays a) b = b
  run_then way x y z (goes a c d step rest) b = goes a c z step (run_then way c d z rest b)

  quiet_mapped : (s : KeySlot) → IsQuiet s → IsQuiet (mapped f g s)
  quiet_mapped Empty q = tt
  quiet_mapped (Asked a) q = q
  quiet_mapped (Hidden a r) q = q
  quiet_mapped (There a r) q = q
  quiet_mapped (Told a r) q = tt

  busy_mapped : (s : KeySlot) → (IsQuiet s → ⊥) → IsQuiet (mapped f g s) → ⊥
  busy_mapped Empty q h = q tt
  busy_mapped (Asked a) q h = h
  busy_mapped (Hidden a r) q h = h
  busy_mapped (There a r) q h = h
  busy_mapped (Told a r) q h = q tt

  told_mapped : (s : KeySlot) → told (mapped f g s) ≡ mapped f g (told s)
  told_mapped Empty = refl
  told_mapped (Asked a) = refl
  told_mapped (Hidden a r) = refl
  told_mapped (There a r) = refl
  told_mapped (Told a r) = refl

  result_mapped : (way : Way) (a : Taken) (r : Reply) → mapped f g (result way a r) ≡ result way (f a) (g r)
  result_mapped Buffered a r = refl
  result_mapped Piped a r = refl

  -- ---- starts

  start_heard : (a : Taken) (s : KeySlot) (r : Reply) (new : KeySlot) (l : S) (aside : Slot B Q) → OwnStart Buffered a s r new
      → r ≡ Hand Pids.Ack → m.Is l (f a)
      → Step m Buffered (At l Idle s aside) (At l Waits new aside)
  start_heard a s _ _ l aside (own_starts quiet) h is = starts (f a) refl is (quiet_mapped s quiet)
  start_heard a s _ _ l aside (own_repeats way busy) h is = repeats refl (busy_mapped s busy)
  start_heard a s _ _ l aside (own_is_full way empty) h is = absurd cc
  start_heard a s _ _ l aside (own_replaces way busy) h is = absurd cc
  start_heard a s _ _ l aside (own_starts_none way empty) h is = absurd cc

  start_unheard : (a : Taken) (s : KeySlot) (r : Reply) (new : KeySlot) (l : S) (aside : Slot B Q) → OwnStart Buffered a s r new
      → m.Is l (f a)
      → Run m Buffered (At l Idle s aside) (At l Idle new aside)
  start_unheard a s _ _ l aside (own_starts quiet) is = one Buffered _ _ (half_starts (f a) refl refl is (quiet_mapped s quiet))
  start_unheard a s _ _ l aside (own_repeats way busy) is = stays _
  start_unheard a s _ _ l aside (own_is_full way empty) is = stays _
  start_unheard a s _ _ l aside (own_replaces way busy) is = absurd cc
  start_unheard a s _ _ l aside (own_starts_none way empty) is = absurd cc

  start_periodic : (a : Taken) (s : KeySlot) (r : Reply) (new : KeySlot) (l : S) (aside : Slot B Q) → OwnStart Piped a s r new
      → m.Is l (f a) → IsQuiet s
      → Step m Piped (At l Idle s aside) (At l Waits new aside)
  start_periodic a s _ _ l aside (own_starts quiet) is q = starts (f a) refl is (quiet_mapped s quiet)
  start_periodic a s _ _ l aside (own_repeats way busy) is q = absurd cc
  start_periodic a s _ _ l aside (own_is_full way empty) is q = absurd cc
  start_periodic a s _ _ l aside (own_replaces way busy) is q = absurd (busy q)
  start_periodic a s _ _ l aside (own_starts_none way empty) is q = starts_none refl refl (ap (mapped f g) empty)

  start_other : (way : Way) (s new : KeySlot) (l : S) (u : Wait) (aside : Slot B Q) → OtherStart way s new
      → (later : Wait) × Run m way (At l u s aside) (At l later new aside) × ((later ≡ u) ⊎ (later ≡ gone_wait u))
  start_other way s _ l u aside other_stays = (u, stays _, inl refl)
  start_other way s _ l u aside (other_forgets a r buffered is) =
      (gone_wait u, one way _ _ (forgets (f a) (g r) (ap (mapped f g) is)), inr refl)

  pub start_events : StartEvents m f g
  start_events = record {
    heard = λ a s new l aside start is. start_heard a s (Hand Pids.Ack) new l aside start refl is;
    unheard = start_unheard;
    periodic = start_periodic;
    other = start_other;
  }

  -- ---- complete-splits and clears

  tell : (way : Way) (a : Taken) (r : Reply) (s t : KeySlot) (l k : S) (aside : Slot B Q) → told s ≡ t → t ≡ Told a r
      → m.Hears l (f a) (g r) k
      → Step m way (At l Waits s aside) (At k Idle t aside)
  tell way a r s t l k aside is at hears =
      subst (λ (x : KeySlot). Step m way (At l Waits s aside) (At k Idle x aside)) (sym at)
      (tells (f a) (g r) k refl (told_mapped s ∙ ap (mapped f g) (is ∙ at)) hears)

  tell_half : (way : Way) (s : KeySlot) (l : S) (aside : Slot B Q) → Step m way (At l Waits s aside) (At l Waits (told s) aside)
  tell_half way s l aside =
      subst (λ (x : Slot B Q). Step m way (At l Waits s aside) (record { line = l; wait = Waits; here = x; aside = aside }))
      (told_mapped s) (half_tells refl)

  pub complete_events : CompleteEvents m f g
  complete_events = record {
    heard = λ way a r s l t aside at hears. tell way a r s (told s) l t aside refl at hears;
    unheard = tell_half;
  }

  cut : (way : Way) (b : Bool) (s : KeySlot) (l : S) (u : Wait) (aside : Slot B Q) → IsSpared m.Spared (mapped f g s) u
      → (later : Wait) × Run m way (At l u s aside) (At l later (if b then Empty else s) aside) × ((later ≡ u) ⊎ (later ≡ gone_wait u))
  cut way true s l u aside spared = (gone_wait u, one way _ _ (clears spared), inr refl)
  cut way false s l u aside spared = (u, stays _, inl refl)

  pub clear_events : ClearEvents m f g
  clear_events Buffered c k s l u aside spared = cut Buffered (is_cleared_by c k) s l u aside spared
  clear_events Piped c k s l u aside spared = (u, stays _, inl refl)

  pub events_of : EventsOf m f g
  events_of = record { starts = start_events; completes = complete_events; clears = clear_events }

  -- ---- the work of a microframe

  module _ {W : Type 0} (transacts : W → Ask → List ℕ → Reply → W → Type 0) (way : Way) (k : Key) (stands : W → S → Type 0)
      (h : Follows m f g transacts way k stands) where
    pub beside : (l : S) (w v : W) → OfOthers transacts k w v → stands w l → stands v l
    beside l w v (none x) at = at
    beside l w v (more a b c ask out r apart made rest) at = beside l b c rest (h.others a l ask out r b apart at made)

    record Goes (s : KeySlot) (l : S) (u : Wait) (aside : Slot B Q) (new : KeySlot) (after : W) : Type 0 where
      line : S
      shown : stands after line
      run : Run m way (At l u s aside) (At line u new aside)

    asked : (s : KeySlot) (a : Taken) → s ≡ Asked a → IsAskedFor k s → key_of a.ask ≡ k
    asked s a is for_it = subst (λ (x : KeySlot). IsAskedFor k x) is for_it

    turn : (s : KeySlot) (before : W) (new : KeySlot) (after : W) (l : S) (u : Wait) (aside : Slot B Q)
        → KeyTurn transacts way s before new after → IsAskedFor k s
        → stands before l → Goes s l u aside new after
    turn s before _ _ l u aside turn_rests for_it at = record { line = l; shown = at; run = stays _ }
    turn s before _ _ l u aside (turn_works a r after is made heard) for_it at =
        let t = h.works before l a r after (asked s a is for_it) at made heard in
        record {
          line = t.0;
          shown = t.2;
          run = one way _ _ (subst
              (λ (x : Slot B Q). Step m way (At l u s aside) (record { line = t.0; wait = u; here = x; aside = aside }))
              (sym (result_mapped way a r))
              (works (f a) (g r) t.0 (ap (mapped f g) is) t.1));
        }
    turn s before _ _ l u aside (turn_is_quiet a r after buffered is made silent) for_it at =
        let t = h.quiet before l a r after (asked s a is for_it) at made silent in
        record { line = t.0; shown = t.2; run = one way _ _ (is_quiet (f a) t.0 (ap (mapped f g) is) t.1) }
    turn s before _ _ l u aside (turn_gives_dead a r after is made silent) for_it at =
        let t = h.quiet before l a r after (asked s a is for_it) at made silent in
        let dead : result way (f a) (m.dead way) ≡ mapped f g (result way a (dead_reply way)) =
        ap (λ (q : Q). result way (f a) q) (sym h.dead) ∙ sym (result_mapped way a (dead_reply way)) in
        record {
          line = t.0;
          shown = t.2;
          run = run_then way _ (At t.0 u s aside) _ (one way _ _ (is_quiet (f a) t.0 (ap (mapped f g) is) t.1))
              (one way _ _ (subst (λ (x : Slot B Q). Step m way (At t.0 u s aside)
              (record { line = t.0; wait = u; here = x; aside = aside })) dead
              (gives_dead (f a) (ap (mapped f g) is))));
        }

    shown_run : (made seen : KeySlot) (l : S) (u : Wait) (aside : Slot B Q) → Showing way made seen
        → Run m way (At l u made aside) (At l u seen aside)
    shown_run made _ l u aside shown_stays = stays _
    shown_run made _ l u aside (shown_shows a r piped is) = one way _ _ (shows (f a) (g r) (ap (mapped f g) is))

  dropped : (b : Bool) (s : KeySlot) (l : S) (u : Wait) (aside : Slot B Q)
      → Run m Piped (At l u s aside) (At l (if b then gone_wait u else u) (if b then Empty else s) aside)
  dropped true s l u aside = one Piped _ _ (drops refl)
  dropped false s l u aside = stays _

  left_run : (way : Way) (frindex : ℕ) (s : KeySlot) (l : S) (u : Wait) (aside : Slot B Q)
      → Run m way (At l u s aside) (At l (left_wait way frindex u) (left_slot way frindex s) aside)
  left_run Buffered frindex s l u aside = stays _
  left_run Piped frindex s l u aside = dropped (frindex % 8 == 0) s l u aside

  pub work_events : {W : Type 0} (transacts : W → Ask → List ℕ → Reply → W → Type 0) → WorkEvents m f g transacts
  work_events transacts way k frindex stands h s before new after w for_it l u aside at =
      let t = w.turns in
      let first = beside transacts way k stands h l before t.first t.earlier at in
      let z = turn transacts way k stands h s t.first w.made t.second l u aside t.turn for_it first in
      let last = beside transacts way k stands h z.line t.second after t.later z.shown in
      record {
        line = z.line;
        shown = last;
        run = subst (λ (x : KeySlot). Run m way (At l u s aside) (At z.line (left_wait way frindex u) x aside)) (sym w.leaves)
            (run_then way _ (At z.line u w.seen aside) _
            (run_then way _ (At z.line u w.made aside) _ z.run
            (shown_run transacts way k stands h w.made w.seen z.line u aside w.shows))
            (left_run way frindex w.seen z.line u aside));
      }
