-- Each half of a transaction of a control read keeps its window.
use Rattle.std.proofs.Common.{◌≡◌, ℕ, ◌+◌, Bool, true, false, not, List, [], ◌∷◌, ◌++◌, length, take, slice_get, Some, ◌⊎◌, inl, inr, if◌then◌else◌, refl, sym, subst, ap, ◌∙◌, arith}
use Rattle.std.proofs.lemmas.List.{take_all}
use Rattle.law_pipe.specs.Pipe.{alike, toggle_after}
use Rattle.law_pipe.proofs.Agreement.{toggle_turns}
use Rattle.law_translated.specs.Lift.{Keeps, at_rest}
use Rattle.law_translated.specs.InPipes.{IsNear, IsUnheard}
use Rattle.law_translated.specs.Reads.{Token, Setup, Data, Status, Reply, Ack, Nak, Stall, Bytes, Stage, AtSetup, AtData, AtStatus, Done, Line, token_at, Is, Alone, confirmed, Spared, Works, Quiet, Hears, read_halves, OnlyLast, InData, AtEnd, HasActed, IsNew, HasBegun, StandsAt, AnsweredAt, IsRight, read_claims, KeepsRead, ReadIsRight}
use Rattle.law_translated.specs.Reads.Alone.{goes_or_ends}
use Rattle.law_translated.specs.Reads.Works.{takes, unacknowledged, acknowledged, confirms, refuses, stalls}
use Rattle.law_translated.specs.Reads.Quiet.{unheard, takes_unheard, confirms_unheard}
use Rattle.law_translated.specs.Reads.Hears.{begins, gets, gets_last, drops, ends, waits, halts}
use Rattle.law_translated.proofs.Lifting.{step_keeps, run_keeps, holds_gone}
use Rattle.law_translated.proofs.Streams.{head_is_next, rest_is_left, longer, next_in_order, parity_turns, same_alike, next_unlike, never_both}
use Rattle.law_translated.proofs.Receiving.{near_after, near_still}

setup_data : Setup ≡ Data → ⊥
setup_data e = cc

setup_status : Setup ≡ Status → ⊥
setup_status e = cc

data_setup : Data ≡ Setup → ⊥
data_setup e = cc

data_status : Data ≡ Status → ⊥
data_status e = cc

status_setup : Status ≡ Setup → ⊥
status_setup e = cc

status_data : Status ≡ Data → ⊥
status_data e = cc

alone_is : (s t : Line) (a : Token) → Alone s t → Is s a → Is t a
alone_is s _ a (goes_or_ends b) i = i

module _ (packets : List (List ℕ)) (short : List ℕ → Bool) where
  abbrev D : (ℕ → ℕ → Type 0) → Line → Type 0
  D = InData packets short

  abbrev W : Line → Token → Reply → Line → Type 0
  W = Works packets short

  abbrev At : Stage → Line → Type 0
  At = StandsAt packets short

  abbrev On : Stage → Reply → Line → Type 0
  On = AnsweredAt packets short

  abbrev Unheard : Bool → List ℕ → ℕ → ℕ → Type 0
  Unheard t x p q = IsUnheard packets t x p q

  -- ---- the host by itself

  going_data : (so : ℕ → ℕ → Type 0) (s : Line) (b : Bool) → D so s → D so (record s { going = b })
  going_data so s b n = record {
    has = n.has;
    acted = n.acted;
    acts = n.acts;
    known = n.known;
    left = n.left;
    sends_parity = n.sends_parity;
    expects_parity = n.expects_parity;
    in_order = n.in_order;
    stand = n.stand;
  }

  going_end : (s : Line) (b : Bool) → AtEnd packets short s → AtEnd packets short (record s { going = b })
  going_end s b n = record { whole = n.whole; acts = n.acts }

  going_new : (s : Line) (b : Bool) → IsNew packets short s → IsNew packets short (record s { going = b })
  going_new s b n = record { acts = n.acts; none = n.none }

  stands_by : (g : Stage) (s : Line) (b : Bool) → At g s → At g (record s { going = b })
  stands_by AtSetup s b h = going_new s b h
  stands_by AtData s b h = going_data IsNear s b h
  stands_by AtStatus s b h = going_end s b h
  stands_by Done s b h = h

  answered_by : (g : Stage) (r : Reply) (s : Line) (b : Bool) → On g r s → On g r (record s { going = b })
  answered_by AtSetup Ack s b h = record { new = going_new s b h.new; has = h.has; left = h.left; sends = h.sends; acted = h.acted }
  answered_by AtSetup Nak s b h = going_new s b h
  answered_by AtSetup Stall s b h = going_new s b h
  answered_by AtSetup (Bytes t x) s b h = absurd h
  answered_by AtData Ack s b h = absurd h
  answered_by AtData Nak s b h = going_data IsNear s b h
  answered_by AtData Stall s b h = going_data IsNear s b h
  answered_by AtData (Bytes t x) s b h = going_data (Unheard t x) s b h
  answered_by AtStatus Ack s b h = record { whole = h.whole; acted = h.acted; acts = h.acts }
  answered_by AtStatus Nak s b h = going_end s b h
  answered_by AtStatus Stall s b h = going_end s b h
  answered_by AtStatus (Bytes t x) s b h = absurd h
  answered_by Done r s b h = absurd h

  alone_stands : (s t : Line) → Alone s t → At s.stage s → At t.stage t
  alone_stands s _ (goes_or_ends b) h = stands_by s.stage s b h

  alone_answered : (s t : Line) (a : Token) (r : Reply) → Alone s t → Is s a × On s.stage r s → Is t a × On t.stage r t
  alone_answered s _ a r (goes_or_ends b) h = (h.0, answered_by s.stage r s b h.1)

  alone_right : (s t : Line) → Alone s t → IsRight packets short s → IsRight packets short t
  alone_right s _ (goes_or_ends b) h = record { once = h.once; done = h.done; begins = h.begins }

  -- ---- the device's half

  once_by : (s : Line) (b : Bool) → s.acted ≡ b → AtEnd packets short s → (if b then s.acts else s.acts + 1) ≡ 1
  once_by s true e h = elim h.acts [
    | inl f ↦ never_both s.acted e f.0
    | inr g ↦ g.1
  ]
  once_by s false e h = elim h.acts [
    | inl f ↦ omega (arith, f.1)
    | inr g ↦ never_both s.acted g.0 e
  ]

  confirmed_acted : (s : Line) → AtEnd packets short s → HasActed packets short (confirmed s)
  confirmed_acted s h = record { whole = h.whole; acted = refl; acts = once_by s s.acted refl h }

  acted_end : (s : Line) → HasActed packets short s → AtEnd packets short s
  acted_end s h = record { whole = h.whole; acts = inr (h.acted, h.acts) }

  -- the packet that it sends
  next_sent : (s : Line) (x : List ℕ) (rest : List (List ℕ)) (q : ℕ) → s.left ≡ x ∷ rest → (h : D IsNear s)
      → (q ≡ h.known) ⊎ (q ≡ h.known + 1)
      → Unheard s.sends x (length s.accepted) q
  next_sent s x rest q l h device = record {
    c = h.known;
    packet = head_is_next packets h.known x rest (sym l ∙ h.left);
    parity = h.sends_parity;
    host = h.stand;
    device = device;
  }

  works_by : (g : Stage) (s t : Line) (a : Token) (r : Reply) → token_at g a → At g s → W s a r t → On g r t
  works_by AtSetup s _ _ _ i h takes =
      record { new = record { acts = h.acts; none = h.none }; has = refl; left = refl; sends = refl; acted = refl }
  works_by AtSetup s _ _ _ i h (unacknowledged x rest l) = absurd (data_setup i)
  works_by AtSetup s _ _ _ i h (acknowledged x rest l) = absurd (data_setup i)
  works_by AtSetup s _ _ _ i h confirms = absurd (status_setup i)
  works_by AtSetup s _ _ _ i h (refuses a) = h
  works_by AtSetup s _ _ _ i h (stalls a) = h
  works_by AtData s _ _ _ i h takes = absurd (setup_data i)
  works_by AtData s _ _ _ i h (unacknowledged x rest l) = record {
    has = h.has;
    acted = h.acted;
    acts = h.acts;
    known = h.known;
    left = h.left;
    sends_parity = h.sends_parity;
    expects_parity = h.expects_parity;
    in_order = h.in_order;
    stand = next_sent s x rest h.known l h (inl refl);
  }
  works_by AtData s _ _ _ i h (acknowledged x rest l) = record {
    has = h.has;
    acted = h.acted;
    acts = h.acts;
    known = h.known + 1;
    left = rest_is_left packets h.known x rest (sym l ∙ h.left);
    sends_parity = ap not h.sends_parity ∙ sym (toggle_turns h.known);
    expects_parity = h.expects_parity;
    in_order = h.in_order;
    stand = next_sent s x rest (h.known + 1) l h (inr refl);
  }
  works_by AtData s _ _ _ i h confirms = absurd (status_data i)
  works_by AtData s _ _ _ i h (refuses a) = h
  works_by AtData s _ _ _ i h (stalls a) = h
  works_by AtStatus s _ _ _ i h takes = absurd (setup_status i)
  works_by AtStatus s _ _ _ i h (unacknowledged x rest l) = absurd (data_status i)
  works_by AtStatus s _ _ _ i h (acknowledged x rest l) = absurd (data_status i)
  works_by AtStatus s _ _ _ i h confirms = confirmed_acted s h
  works_by AtStatus s _ _ _ i h (refuses a) = h
  works_by AtStatus s _ _ _ i h (stalls a) = h
  works_by Done s t a r i h w = absurd i

  works_stage : (s t : Line) (a : Token) (r : Reply) → W s a r t → t.stage ≡ s.stage
  works_stage s _ _ _ takes = refl
  works_stage s _ _ _ (unacknowledged x rest l) = refl
  works_stage s _ _ _ (acknowledged x rest l) = refl
  works_stage s _ _ _ confirms = refl
  works_stage s _ _ _ (refuses a) = refl
  works_stage s _ _ _ (stalls a) = refl

  works : (s t : Line) (a : Token) (r : Reply) → Is s a → At s.stage s → W s a r t → Is t a × On t.stage r t
  works s t a r i h w =
      let e : t.stage ≡ s.stage = works_stage s t a r w in
      (subst (λ (g : Stage). token_at g a) (sym e) i, subst (λ (g : Stage). On g r t) (sym e) (works_by s.stage s t a r i h w))

  quiet_by : (g : Stage) (s t : Line) (a : Token) → token_at g a → At g s → Quiet packets short s a t → At g t
  quiet_by g s _ _ i h (unheard a) = h
  quiet_by AtSetup s _ _ i h takes_unheard = record { acts = h.acts; none = h.none }
  quiet_by AtSetup s _ _ i h confirms_unheard = absurd (status_setup i)
  quiet_by AtData s _ _ i h takes_unheard = absurd (setup_data i)
  quiet_by AtData s _ _ i h confirms_unheard = absurd (status_data i)
  quiet_by AtStatus s _ _ i h takes_unheard = absurd (setup_status i)
  quiet_by AtStatus s _ _ i h confirms_unheard = acted_end (confirmed s) (confirmed_acted s h)
  quiet_by Done s _ _ i h takes_unheard = absurd i
  quiet_by Done s _ _ i h confirms_unheard = absurd i

  quiet_stage : (s t : Line) (a : Token) → Quiet packets short s a t → t.stage ≡ s.stage
  quiet_stage s _ _ (unheard a) = refl
  quiet_stage s _ _ takes_unheard = refl
  quiet_stage s _ _ confirms_unheard = refl

  quiet : (s t : Line) (a : Token) → Is s a → At s.stage s → Quiet packets short s a t → At t.stage t
  quiet s t a i h q = subst (λ (g : Stage). At g t) (sym (quiet_stage s t a q)) (quiet_by s.stage s t a i h q)

  quiet_is : (s t : Line) (a : Token) → Is s a → Quiet packets short s a t → Is t a
  quiet_is s t a i q = subst (λ (g : Stage). token_at g a) (sym (quiet_stage s t a q)) i

  dead_by : (g : Stage) (s : Line) (a : Token) → token_at g a → At g s → On g Stall s
  dead_by AtSetup s a i h = h
  dead_by AtData s a i h = h
  dead_by AtStatus s a i h = h
  dead_by Done s a i h = absurd i

  -- ---- the host's half

  -- the packet that it expects is the next one
  next_is : (t : Bool) (x : List ℕ) (s : Line) → alike t s.expects ≡ true → (n : D (Unheard t x) s) → n.stand.c ≡ length s.accepted
  next_is t x s same n = elim n.stand.host [
    | inl e ↦ e
    | inr e ↦ never_both (alike t s.expects) same
        (next_unlike t s.expects n.stand.c n.stand.parity (n.expects_parity ∙ ap toggle_after (sym e)))
  ]

  in_order_then : (t : Bool) (x : List ℕ) (s : Line) → alike t s.expects ≡ true → (n : D (Unheard t x) s)
      → s.accepted ++ x ∷ [] ≡ take (length (s.accepted ++ x ∷ [])) packets
  in_order_then t x s same n =
      next_in_order packets s.accepted x (subst (λ k. slice_get packets k ≡ Some x) (next_is t x s same n) n.stand.packet) n.in_order

  all_then : OnlyLast packets short → (t : Bool) (x : List ℕ) (s : Line) → alike t s.expects ≡ true → short x ≡ true
      → (n : D (Unheard t x) s)
      → s.accepted ++ x ∷ [] ≡ packets
  all_then only t x s same last n =
      let at : n.stand.c + 1 ≡ length packets = only n.stand.c x n.stand.packet last in
      let size : length (s.accepted ++ x ∷ []) ≡ length packets = longer s.accepted x ∙ ap (λ k. k + 1) (sym (next_is t x s same n)) ∙ at in
      in_order_then t x s same n ∙ take_all (length (s.accepted ++ x ∷ [])) packets (omega (arith, size))

  got : (t : Bool) (x : List ℕ) (s : Line) → alike t s.expects ≡ true → (n : D (Unheard t x) s)
      → D IsNear (record s { accepted = s.accepted ++ x ∷ []; expects = not s.expects })
  got t x s same n = record {
    has = n.has;
    acted = n.acted;
    acts = n.acts;
    known = n.known;
    left = n.left;
    sends_parity = n.sends_parity;
    expects_parity = parity_turns s.accepted x s.expects n.expects_parity;
    in_order = in_order_then t x s same n;
    stand =
        near_after (length s.accepted) n.known n.stand.c (length (s.accepted ++ x ∷ [])) (longer s.accepted x)
        (next_is t x s same n) n.stand.device;
  }

  dropped : (t : Bool) (x : List ℕ) (s : Line) → alike t s.expects ≡ false → (n : D (Unheard t x) s) → D IsNear s
  dropped t x s differs n = record {
    has = n.has;
    acted = n.acted;
    acts = n.acts;
    known = n.known;
    left = n.left;
    sends_parity = n.sends_parity;
    expects_parity = n.expects_parity;
    in_order = n.in_order;
    stand = elim n.stand.host [
      | inl f ↦ never_both (alike t s.expects)
          (same_alike t s.expects n.stand.c n.stand.parity (n.expects_parity ∙ ap toggle_after (sym f))) differs
      | inr f ↦ near_still (length s.accepted) n.known n.stand.c f n.stand.device
    ];
  }

  begun_data : (s : Line) → HasBegun packets short s → D IsNear (record s { stage = AtData; accepted = []; expects = false })
  begun_data s h = record {
    has = h.has;
    acted = h.acted;
    acts = h.new.acts;
    known = 0;
    left = h.left;
    sends_parity = h.sends;
    expects_parity = refl;
    in_order = refl;
    stand = inl refl;
  }

  hears_by : OnlyLast packets short → (g : Stage) (s t : Line) (a : Token) (r : Reply) → s.stage ≡ g → token_at g a → On g r s
      → Hears packets short s a r t → At t.stage t
  hears_by only AtSetup s _ _ _ e i h begins = begun_data s h
  hears_by only AtSetup s _ _ _ e i h (gets t x same full) = absurd h
  hears_by only AtSetup s _ _ _ e i h (gets_last t x same last) = absurd h
  hears_by only AtSetup s _ _ _ e i h (drops t x differs) = absurd h
  hears_by only AtSetup s _ _ _ e i h ends = absurd (status_setup i)
  hears_by only AtSetup s _ _ _ e i h (waits a) = subst (λ g. At g s) (sym e) h
  hears_by only AtSetup s _ _ _ e i h (halts a) = subst (λ g. At g (record s { going = false })) (sym e) (going_new s false h)
  hears_by only AtData s _ _ _ e i h begins = absurd h
  hears_by only AtData s _ _ _ e i h (gets t x same full) =
      subst (λ g. At g (record s { accepted = s.accepted ++ x ∷ []; expects = not s.expects })) (sym e) (got t x s same h)
  hears_by only AtData s _ _ _ e i h (gets_last t x same last) =
      record { whole = all_then only t x s same last h; acts = inl (h.acted, h.acts) }
  hears_by only AtData s _ _ _ e i h (drops t x differs) = subst (λ g. At g s) (sym e) (dropped t x s differs h)
  hears_by only AtData s _ _ _ e i h ends = absurd h
  hears_by only AtData s _ _ _ e i h (waits a) = subst (λ g. At g s) (sym e) h
  hears_by only AtData s _ _ _ e i h (halts a) = subst (λ g. At g (record s { going = false })) (sym e) (going_data IsNear s false h)
  hears_by only AtStatus s _ _ _ e i h begins = absurd (setup_status i)
  hears_by only AtStatus s _ _ _ e i h (gets t x same full) = absurd h
  hears_by only AtStatus s _ _ _ e i h (gets_last t x same last) = absurd h
  hears_by only AtStatus s _ _ _ e i h (drops t x differs) = absurd h
  hears_by only AtStatus s _ _ _ e i h ends = (h.acts, h.whole)
  hears_by only AtStatus s _ _ _ e i h (waits a) = subst (λ g. At g s) (sym e) h
  hears_by only AtStatus s _ _ _ e i h (halts a) = subst (λ g. At g (record s { going = false })) (sym e) (going_end s false h)
  hears_by only Done s t a r e i h k = absurd h

  -- ---- what goes, and what is said of the window

  whole_begins : (s : Line) → s.accepted ≡ packets → s.accepted ≡ take (length s.accepted) packets
  whole_begins s e =
      e ∙ sym (take_all (length s.accepted) packets (let z : length s.accepted ≡ length packets = ap length e in omega (arith, z)))

  none_begins : (s : Line) → s.accepted ≡ [] → s.accepted ≡ take (length s.accepted) packets
  none_begins s e = subst (λ xs. xs ≡ take (length xs) packets) (sym e) refl

  not_done : (g : Stage) (s : Line) (P : Type 0) → s.stage ≡ g → (g ≡ Done → ⊥) → s.stage ≡ Done → P
  not_done g s P e n d = absurd (n (sym e ∙ d))

  abbrev AllDone : Line → Type 0
  AllDone s = (s.acts ≡ 1) × (s.accepted ≡ packets)

  right_by : (g : Stage) (s : Line) → s.stage ≡ g → At g s → IsRight packets short s
  right_by AtSetup s e h = record { once = inl h.acts; done = not_done AtSetup s (AllDone s) e (λ d. cc); begins = none_begins s h.none }
  right_by AtData s e h = record { once = inl h.acts; done = not_done AtData s (AllDone s) e (λ d. cc); begins = h.in_order }
  right_by AtStatus s e h = record {
    once = elim h.acts [ inl f ↦ inl f.1 | inr f ↦ inr f.1 ];
    done = not_done AtStatus s (AllDone s) e (λ d. cc);
    begins = whole_begins s h.whole;
  }
  right_by Done s e h = record { once = inr h.0; done = λ d. h; begins = whole_begins s h.1 }

  lost_by : (g : Stage) (r : Reply) (s : Line) → s.stage ≡ g → On g r s → IsRight packets short s
  lost_by AtSetup Ack s e h = right_by AtSetup s e h.new
  lost_by AtSetup Nak s e h = right_by AtSetup s e h
  lost_by AtSetup Stall s e h = right_by AtSetup s e h
  lost_by AtSetup (Bytes t x) s e h = absurd h
  lost_by AtData Ack s e h = absurd h
  lost_by AtData Nak s e h = right_by AtData s e h
  lost_by AtData Stall s e h = right_by AtData s e h
  lost_by AtData (Bytes t x) s e h = record { once = inl h.acts; done = not_done AtData s (AllDone s) e (λ d. cc); begins = h.in_order }
  lost_by AtStatus Ack s e h = right_by AtStatus s e (acted_end s h)
  lost_by AtStatus Nak s e h = right_by AtStatus s e h
  lost_by AtStatus Stall s e h = right_by AtStatus s e h
  lost_by AtStatus (Bytes t x) s e h = absurd h
  lost_by Done r s e h = absurd h

  spared_by : (g : Stage) (a : Token) (r : Reply) (s : Line) → Spared a r → On g r s → At g s
  spared_by g a (Bytes t x) s p h = absurd p
  spared_by AtSetup a Ack s p h = h.new
  spared_by AtSetup a Nak s p h = h
  spared_by AtSetup a Stall s p h = h
  spared_by AtData a Ack s p h = absurd h
  spared_by AtData a Nak s p h = h
  spared_by AtData a Stall s p h = h
  spared_by AtStatus a Ack s p h = acted_end s h
  spared_by AtStatus a Nak s p h = h
  spared_by AtStatus a Stall s p h = h
  spared_by Done a Ack s p h = absurd h
  spared_by Done a Nak s p h = absurd h
  spared_by Done a Stall s p h = absurd h

  pub read_keeps : OnlyLast packets short → Keeps (read_halves packets short) (read_claims packets short)
  read_keeps only = record {
    alone_is = alone_is;
    alone_stands = alone_stands;
    alone_answered = alone_answered;
    alone_gone = alone_right;
    works = works;
    quiet = quiet;
    quiet_is = quiet_is;
    dead = λ way s a i h. (i, dead_by s.stage s a i h);
    hears = λ s t a r h k. hears_by only s.stage s t a r refl h.0 h.1 k;
    spared = λ s a r p h. spared_by s.stage a r s p h.1;
    lost = λ s a r h. lost_by s.stage r s refl h.1;
    none = λ s h. right_by s.stage s refl h;
  }

  pub read_kept : KeepsRead packets short
  read_kept only = step_keeps (read_halves packets short) (read_claims packets short) (read_keeps only)

  pub read_right : ReadIsRight packets short
  read_right only way s x e n run =
      let at : At s.stage s = subst (λ (g : Stage). At g s) (sym e) n in
      holds_gone (read_halves packets short) (read_claims packets short) (read_keeps only) way x
      (run_keeps (read_halves packets short) (read_claims packets short) (read_keeps only) way (at_rest s) x run
      (record { at = at; aside = tt }))
