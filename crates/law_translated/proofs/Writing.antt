-- Each half of a transaction of a control write keeps its window.
use Rattle.std.proofs.Common.{◌≡◌, ℕ, ◌+◌, Bool, true, false, List, [], ◌∷◌, ◌++◌, length, inl, inr, if◌then◌else◌, refl, sym, subst, ap, ◌∙◌, arith}
use Rattle.std.proofs.lemmas.List.{append_assoc, append-nil}
use Rattle.std.specs.List.{concat}
use Rattle.law_translated.proofs.Common.{ahead_ended}
use Rattle.law_pipe.specs.Pipe.{toggle_after}
use Rattle.claims_base.specs.Prefix.{IsPrefix}
use Rattle.law_translated.specs.Lift.{Keeps, at_rest}
use Rattle.law_translated.specs.OutPipes as out
use Rattle.law_translated.specs.OutPipes.{Line as Pipe, IsNext, IsAhead, Agrees, Answered, with_taken, with_known}
use Rattle.law_translated.specs.Writes.{Token, Setup, Data, Status, Reply, Ack, Nak, Stall, Stage, AtSetup, AtData, AtStatus, Done, Line, token_at, Is, Alone, emptied, took, confirmed, Works, Quiet, opened, learned, Hears, write_halves, InData, IsTaken, AtEnd, HasActed, HasBegun, StandsAt, AnsweredAt, IsRight, write_claims, KeepsWrite, WriteIsRight}
use Rattle.law_translated.specs.Writes.Alone.{goes_or_ends}
use Rattle.law_translated.specs.Writes.Works.{takes, accepts, drops, confirms, refuses, stalls}
use Rattle.law_translated.specs.Writes.Quiet.{unheard, takes_unheard, accepts_unheard, confirms_unheard}
use Rattle.law_translated.specs.Writes.Hears.{begins, learns, learns_last, ends, waits, halts}
use Rattle.law_translated.proofs.Lifting.{step_keeps, run_keeps, holds_gone}
use Rattle.law_translated.proofs.Streams.{never_both}
use Rattle.law_translated.proofs.Sending as sending

-- ---- tokens

no_data : {P : Type 0} (t : Bool) (x : List ℕ) → Data t x ≡ Setup → P
no_data t x e = absurd (cc)

data_no_status : {P : Type 0} (t : Bool) (x : List ℕ) → Data t x ≡ Status → P
data_no_status t x e = absurd (cc)

setup_status : {P : Type 0} → Setup ≡ Status → P
setup_status e = absurd (cc)

status_setup : {P : Type 0} → Status ≡ Setup → P
status_setup e = absurd (cc)

-- ---- the host by itself

going_agrees : (p : Pipe) (b : Bool) → Agrees p → Agrees (record p { going = b })
going_agrees p b h = record {
  near = elim h.near [
    | inl e ↦ inl e
    | inr f ↦ inr (record { next = f.next; later = f.later; rest = f.rest; taken = f.taken })
  ];
  sends_parity = h.sends_parity;
  expects_parity = h.expects_parity;
}

going_token : (p : Pipe) (b : Bool) (g : Stage) (a : Token) → token_at g p a → token_at g (record p { going = b }) a
going_token p b AtSetup a i = i
going_token p b AtData Setup i = absurd i
going_token p b AtData (Data t x) i = record { parity = i.parity; later = i.later; rest = i.rest }
going_token p b AtData Status i = absurd i
going_token p b AtStatus a i = i
going_token p b Done a i = absurd i

alone_is : (s t : Line) (a : Token) → Alone s t → Is s a → Is t a
alone_is s _ a (goes_or_ends b) i = going_token s.pipe b s.stage a i

module _ (packets : List (List ℕ)) where
  abbrev At : Stage → Line → Type 0
  At = StandsAt packets

  abbrev On : Stage → Reply → Line → Type 0
  On = AnsweredAt packets

  abbrev D : Line → Type 0
  D = InData packets

  abbrev with_going : Line → Bool → Line
  with_going s b = record s { pipe = record s.pipe { going = b } }

  going_data : (s : Line) (b : Bool) → D s → D (with_going s b)
  going_data s b h = record { has = h.has; acted = h.acted; acts = h.acts; whole = h.whole; agrees = going_agrees s.pipe b h.agrees }

  going_end : (s : Line) (b : Bool) → AtEnd packets s → AtEnd packets (with_going s b)
  going_end s b h = record { has = h.has; taken = h.taken; acts = h.acts }

  stands_by : (g : Stage) (s : Line) (b : Bool) → At g s → At g (with_going s b)
  stands_by AtSetup s b h = h
  stands_by AtData s b h = going_data s b h
  stands_by AtStatus s b h = going_end s b h
  stands_by Done s b h = h

  answered_by : (g : Stage) (r : Reply) (s : Line) (b : Bool) → On g r s → On g r (with_going s b)
  answered_by AtSetup Ack s b h = record { acts = h.acts; has = h.has; acted = h.acted; none = h.none; expects = h.expects }
  answered_by AtSetup Nak s b h = h
  answered_by AtSetup Stall s b h = h
  answered_by AtData Ack s b h = record { data_stage = going_data s b h.data_stage; ahead = ahead_ended s.pipe b h.ahead }
  answered_by AtData Nak s b h = going_data s b h
  answered_by AtData Stall s b h = going_data s b h
  answered_by AtStatus Ack s b h = record { has = h.has; taken = h.taken; acted = h.acted; acts = h.acts }
  answered_by AtStatus Nak s b h = going_end s b h
  answered_by AtStatus Stall s b h = going_end s b h
  answered_by Done r s b h = absurd h

  alone_stands : (s t : Line) → Alone s t → At s.stage s → At t.stage t
  alone_stands s _ (goes_or_ends b) h = stands_by s.stage s b h

  alone_answered : (s t : Line) (a : Token) (r : Reply) → Alone s t → Is s a × On s.stage r s → Is t a × On t.stage r t
  alone_answered s _ a r (goes_or_ends b) h = (going_token s.pipe b s.stage a h.0, answered_by s.stage r s b h.1)

  alone_right : (s t : Line) → Alone s t → IsRight packets s → IsRight packets t
  alone_right s _ (goes_or_ends b) h = record { once = h.once; done = h.done; begins = h.begins }

  -- ---- the device's half

  once_by : (s : Line) (b : Bool) → s.acted ≡ b → AtEnd packets s → (if b then s.acts else s.acts + 1) ≡ 1
  once_by s true e h = elim h.acts [
    | inl f ↦ never_both s.acted e f.0
    | inr g ↦ g.1
  ]
  once_by s false e h = elim h.acts [
    | inl f ↦ omega (arith, f.1)
    | inr g ↦ never_both s.acted g.0 e
  ]

  confirmed_acted : (s : Line) → AtEnd packets s → HasActed packets (confirmed s)
  confirmed_acted s h = record { has = h.has; taken = h.taken; acted = refl; acts = once_by s s.acted refl h }

  acted_end : (s : Line) → HasActed packets s → AtEnd packets s
  acted_end s h = record { has = h.has; taken = h.taken; acts = inr (h.acted, h.acts) }

  took_data : (s : Line) (x : List ℕ) → Agrees (with_taken x s.pipe) → D s → D (took x s)
  took_data s x k h = record { has = h.has; acted = h.acted; acts = h.acts; whole = h.whole; agrees = k }

  works_by : (g : Stage) (s t : Line) (a : Token) (r : Reply) → token_at g s.pipe a → At g s → Works s a r t
      → token_at g t.pipe a × On g r t
  works_by AtSetup s _ _ _ i h takes = (i, record { acts = h; has = refl; acted = refl; none = refl; expects = refl })
  works_by AtSetup s _ _ _ i h (accepts t x same) = no_data t x i
  works_by AtSetup s _ _ _ i h (drops t x differs) = no_data t x i
  works_by AtSetup s _ _ _ i h confirms = status_setup i
  works_by AtSetup s _ _ _ i h (refuses a) = (i, h)
  works_by AtSetup s _ _ _ i h (stalls a) = (i, h)
  works_by AtData s _ _ _ i h takes = absurd i
  works_by AtData s _ _ _ i h (accepts t x same) =
      let k : Answered (with_taken x s.pipe) (out.Out t x) out.Ack = sending.works s.pipe (with_taken x s.pipe)
      (out.Out t x) out.Ack i h.agrees (out.Works.accepts t x same) in
      (k.is, record { data_stage = took_data s x k.agrees h; ahead = k.ahead })
  works_by AtData s _ _ _ i h (drops t x differs) =
      let k : Answered s.pipe (out.Out t x) out.Ack = sending.works s.pipe s.pipe (out.Out t x) out.Ack i h.agrees
      (out.Works.drops t x differs) in
      (i, record { data_stage = h; ahead = k.ahead })
  works_by AtData s _ _ _ i h confirms = absurd i
  works_by AtData s _ _ _ i h (refuses a) = (i, h)
  works_by AtData s _ _ _ i h (stalls a) = (i, h)
  works_by AtStatus s _ _ _ i h takes = setup_status i
  works_by AtStatus s _ _ _ i h (accepts t x same) = data_no_status t x i
  works_by AtStatus s _ _ _ i h (drops t x differs) = data_no_status t x i
  works_by AtStatus s _ _ _ i h confirms = (i, confirmed_acted s h)
  works_by AtStatus s _ _ _ i h (refuses a) = (i, h)
  works_by AtStatus s _ _ _ i h (stalls a) = (i, h)
  works_by Done s t a r i h w = absurd i

  works_stage : (s t : Line) (a : Token) (r : Reply) → Works s a r t → t.stage ≡ s.stage
  works_stage s _ _ _ takes = refl
  works_stage s _ _ _ (accepts t x same) = refl
  works_stage s _ _ _ (drops t x differs) = refl
  works_stage s _ _ _ confirms = refl
  works_stage s _ _ _ (refuses a) = refl
  works_stage s _ _ _ (stalls a) = refl

  works : (s t : Line) (a : Token) (r : Reply) → Is s a → At s.stage s → Works s a r t → Is t a × On t.stage r t
  works s t a r i h w = subst (λ (g : Stage). token_at g t.pipe a × On g r t) (sym (works_stage s t a r w)) (works_by s.stage s t a r i h w)

  quiet_by : (g : Stage) (s t : Line) (a : Token) → token_at g s.pipe a → At g s → Quiet s a t → token_at g t.pipe a × At g t
  quiet_by g s _ _ i h (unheard a) = (i, h)
  quiet_by AtSetup s _ _ i h takes_unheard = (i, h)
  quiet_by AtSetup s _ _ i h (accepts_unheard t x same) = no_data t x i
  quiet_by AtSetup s _ _ i h confirms_unheard = status_setup i
  quiet_by AtData s _ _ i h takes_unheard = absurd i
  quiet_by AtData s _ _ i h (accepts_unheard t x same) = (
    sending.quiet_is s.pipe (with_taken x s.pipe) (out.Out t x) i (out.Quiet.accepts_unheard t x same),
    took_data s x (sending.quiet s.pipe (with_taken x s.pipe) (out.Out t x) i h.agrees (out.Quiet.accepts_unheard t x same)) h,
  )
  quiet_by AtData s _ _ i h confirms_unheard = absurd i
  quiet_by AtStatus s _ _ i h takes_unheard = setup_status i
  quiet_by AtStatus s _ _ i h (accepts_unheard t x same) = data_no_status t x i
  quiet_by AtStatus s _ _ i h confirms_unheard = (i, acted_end (confirmed s) (confirmed_acted s h))
  quiet_by Done s _ _ i h takes_unheard = absurd i
  quiet_by Done s _ _ i h (accepts_unheard t x same) = absurd i
  quiet_by Done s _ _ i h confirms_unheard = absurd i

  quiet_stage : (s t : Line) (a : Token) → Quiet s a t → t.stage ≡ s.stage
  quiet_stage s _ _ (unheard a) = refl
  quiet_stage s _ _ takes_unheard = refl
  quiet_stage s _ _ (accepts_unheard t x same) = refl
  quiet_stage s _ _ confirms_unheard = refl

  quiet_both : (s t : Line) (a : Token) → Is s a → At s.stage s → Quiet s a t → Is t a × At t.stage t
  quiet_both s t a i h q = subst (λ (g : Stage). token_at g t.pipe a × At g t) (sym (quiet_stage s t a q)) (quiet_by s.stage s t a i h q)

  took_token : (g : Stage) (p : Pipe) (x : List ℕ) (a : Token) → token_at g p a → token_at g (with_taken x p) a
  took_token AtSetup p x a i = i
  took_token AtData p x Setup i = absurd i
  took_token AtData p x (Data t y) i = record { parity = i.parity; later = i.later; rest = i.rest }
  took_token AtData p x Status i = absurd i
  took_token AtStatus p x a i = i
  took_token Done p x a i = absurd i

  emptied_token : (g : Stage) (p : Pipe) (a : Token) → token_at g p a → token_at g (emptied p) a
  emptied_token AtSetup p a i = i
  emptied_token AtData p Setup i = absurd i
  emptied_token AtData p (Data t y) i = record { parity = i.parity; later = i.later; rest = i.rest }
  emptied_token AtData p Status i = absurd i
  emptied_token AtStatus p a i = i
  emptied_token Done p a i = absurd i

  quiet_is : (s t : Line) (a : Token) → Is s a → Quiet s a t → Is t a
  quiet_is s _ _ i (unheard a) = i
  quiet_is s _ _ i takes_unheard = emptied_token s.stage s.pipe Setup i
  quiet_is s _ _ i (accepts_unheard t x same) = took_token s.stage s.pipe x (Data t x) i
  quiet_is s _ _ i confirms_unheard = i

  dead_by : (g : Stage) (s : Line) (a : Token) → token_at g s.pipe a → At g s → On g Stall s
  dead_by AtSetup s a i h = h
  dead_by AtData s a i h = h
  dead_by AtStatus s a i h = h
  dead_by Done s a i h = absurd i

  -- ---- the host's half

  begun_data : (s : Line) → HasBegun packets s → D (record s { stage = AtData; pipe = opened packets s.pipe })
  begun_data s h = record {
    has = h.has;
    acted = h.acted;
    acts = h.acts;
    whole = refl;
    agrees =
        record { near = inl h.none; sends_parity = refl; expects_parity = h.expects ∙ ap (λ xs. toggle_after (length xs)) (sym h.none) };
  }

  learned_whole : (s : Line) (x : List ℕ) (later : List (List ℕ)) → s.pipe.rest ≡ x ∷ later → s.pipe.known ++ s.pipe.rest ≡ packets
      → (s.pipe.known ++ x ∷ []) ++ later ≡ packets
  learned_whole s x later e w = append_assoc s.pipe.known (x ∷ []) later ∙ ap (λ ys. s.pipe.known ++ ys) (sym e) ∙ w

  learned_data : (s : Line) (x : List ℕ) (later : List (List ℕ)) → s.pipe.rest ≡ x ∷ later → IsTaken packets s
      → D (learned packets x later s)
  learned_data s x later e h = record {
    has = h.data_stage.has;
    acted = h.data_stage.acted;
    acts = h.data_stage.acts;
    whole = learned_whole s x later e h.data_stage.whole;
    agrees = sending.learns_agrees s.pipe x later e h.data_stage.agrees h.ahead;
  }

  none_ahead : (p : Pipe) → p.rest ≡ [] → IsAhead p → ⊥
  none_ahead p e f = let z : [] ≡ f.next ∷ f.later = sym e ∙ f.rest in cc

  -- after the last packet the device has all
  all_taken : (s : Line) → s.pipe.rest ≡ [] → D s → s.pipe.taken ≡ packets
  all_taken s e h = elim h.agrees.near [
    | inl f ↦ f ∙ sym (append-nil s.pipe.known) ∙ ap (λ ys. s.pipe.known ++ ys) (sym e) ∙ h.whole
    | inr f ↦ absurd (none_ahead s.pipe e f)
  ]

  learned_end : (s : Line) (x : List ℕ) → s.pipe.rest ≡ x ∷ [] → IsTaken packets s
      → AtEnd packets (record (learned packets x [] s) { stage = AtStatus })
  learned_end s x e h =
      let d : D (learned packets x [] s) = learned_data s x [] e h in
      record { has = d.has; taken = all_taken (learned packets x [] s) refl d; acts = inl (d.acted, d.acts) }

  hears_by : (g : Stage) (s t : Line) (a : Token) (r : Reply) → s.stage ≡ g → token_at g s.pipe a → On g r s → Hears packets s a r t
      → At t.stage t
  hears_by AtSetup s _ _ _ e i h begins = begun_data s h
  hears_by AtSetup s _ _ _ e i h (learns t x y later k) = no_data t x i
  hears_by AtSetup s _ _ _ e i h (learns_last t x k) = no_data t x i
  hears_by AtSetup s _ _ _ e i h ends = status_setup i
  hears_by AtSetup s _ _ _ e i h (waits a) = subst (λ g. At g s) (sym e) h
  hears_by AtSetup s _ _ _ e i h (halts a) = subst (λ g. At g (with_going s false)) (sym e) h
  hears_by AtData s _ _ _ e i h begins = absurd i
  hears_by AtData s _ _ _ e i h (learns t x y later k) =
      subst (λ g. At g (learned packets x (y ∷ later) s)) (sym e) (learned_data s x (y ∷ later) k h)
  hears_by AtData s _ _ _ e i h (learns_last t x k) = learned_end s x k h
  hears_by AtData s _ _ _ e i h ends = absurd i
  hears_by AtData s _ _ _ e i h (waits a) = subst (λ g. At g s) (sym e) h
  hears_by AtData s _ _ _ e i h (halts a) = subst (λ g. At g (with_going s false)) (sym e) (going_data s false h)
  hears_by AtStatus s _ _ _ e i h begins = setup_status i
  hears_by AtStatus s _ _ _ e i h (learns t x y later k) = data_no_status t x i
  hears_by AtStatus s _ _ _ e i h (learns_last t x k) = data_no_status t x i
  hears_by AtStatus s _ _ _ e i h ends = (h.acts, h.taken)
  hears_by AtStatus s _ _ _ e i h (waits a) = subst (λ g. At g s) (sym e) h
  hears_by AtStatus s _ _ _ e i h (halts a) = subst (λ g. At g (with_going s false)) (sym e) (going_end s false h)
  hears_by Done s t a r e i h k = absurd h

  -- ---- what goes, and what is said of the window

  whole_begins : (s : Line) → s.pipe.taken ≡ packets → IsPrefix (concat s.pipe.taken) (concat packets)
  whole_begins s e = subst (λ xs. IsPrefix (concat s.pipe.taken) (concat xs)) e ([], append-nil (concat s.pipe.taken))

  not_done : (g : Stage) (s : Line) (P : Type 0) → s.stage ≡ g → (g ≡ Done → ⊥) → s.stage ≡ Done → P
  not_done g s P e n d = absurd (n (sym e ∙ d))

  abbrev AllDone : Line → Type 0
  AllDone s = (s.acts ≡ 1) × (s.pipe.taken ≡ packets)

  right_by : (g : Stage) (s : Line) → s.stage ≡ g → At g s → IsRight packets s
  right_by AtSetup s e h = record { once = inl h; done = not_done AtSetup s (AllDone s) e (λ d. cc); begins = λ n. absurd (n e) }
  right_by AtData s e h = record {
    once = inl h.acts;
    done = not_done AtData s (AllDone s) e (λ d. cc);
    begins = λ n. subst (λ xs. IsPrefix (concat s.pipe.taken) (concat xs)) h.whole (sending.taken_begins s.pipe h.agrees);
  }
  right_by AtStatus s e h = record {
    once = elim h.acts [ inl f ↦ inl f.1 | inr f ↦ inr f.1 ];
    done = not_done AtStatus s (AllDone s) e (λ d. cc);
    begins = λ n. whole_begins s h.taken;
  }
  right_by Done s e h = record { once = inr h.0; done = λ d. h; begins = λ n. whole_begins s h.1 }

  -- what stood before the answer was heard
  answered_stands : (g : Stage) (r : Reply) (s : Line) → On g r s → At g s
  answered_stands AtSetup Ack s h = h.acts
  answered_stands AtSetup Nak s h = h
  answered_stands AtSetup Stall s h = h
  answered_stands AtData Ack s h = h.data_stage
  answered_stands AtData Nak s h = h
  answered_stands AtData Stall s h = h
  answered_stands AtStatus Ack s h = acted_end s h
  answered_stands AtStatus Nak s h = h
  answered_stands AtStatus Stall s h = h
  answered_stands Done r s h = absurd h

  pub write_keeps : Keeps (write_halves packets) (write_claims packets)
  write_keeps = record {
    alone_is = alone_is;
    alone_stands = alone_stands;
    alone_answered = alone_answered;
    alone_gone = alone_right;
    works = works;
    quiet = λ s t a i h q. (quiet_both s t a i h q).1;
    quiet_is = quiet_is;
    dead = λ way s a i h. (i, dead_by s.stage s a i h);
    hears = λ s t a r h k. hears_by s.stage s t a r refl h.0 h.1 k;
    spared = λ s a r p h. answered_stands s.stage r s h.1;
    lost = λ s a r h. right_by s.stage s refl (answered_stands s.stage r s h.1);
    none = λ s h. right_by s.stage s refl h;
  }

  pub write_kept : KeepsWrite packets
  write_kept = step_keeps (write_halves packets) (write_claims packets) write_keeps

  pub write_right : WriteIsRight packets
  write_right way s x e n run =
      let at : At s.stage s = subst (λ (g : Stage). At g s) (sym e) n in
      holds_gone (write_halves packets) (write_claims packets) write_keeps way x
      (run_keeps (write_halves packets) (write_claims packets) write_keeps way (at_rest s) x run (record { at = at; aside = tt }))
