-- A word that leads to a queue head in one frame leads to it in each frame whose chain has the word.
use Rattle.std.proofs.Common.{◌≡◌, ℕ, ◌%◌, ◌<◌, Bool, true, false, List, [], ◌∷◌, ◌++◌, map, nat_eq, ◌⊎◌, inl, inr, cond, if◌then◌else◌, refl, ap, sym, ◌∙◌, subst, arith}
use Rattle.std.specs.Prelude.{◌||◌, filter}
use Rattle.std.specs.List.{AllByRecursion, list_any}
use Rattle.std.proofs.lemmas.Bool.{eqb-true, and_parts, false≢true}
use Rattle.drv_chains.specs.declared.members.Descriptor.{Descriptor}
use Rattle.drv_chains.specs.declared.members.QueueHead.{QueueHead}
use Rattle.drv_chains.specs.declared.members.Member.{Member}
use Rattle.drv_chains.specs.declared.members.Member.TheVariants.{Once, Each}
use Rattle.drv_chains.specs.declared.members.Predecessor.{Predecessor}
use Rattle.drv_chains.specs.declared.members.Predecessor.TheVariants.{Element, After}
use Rattle.drv_chains.specs.Chains.{periods, frame_period, is_active, at_place, word_after, has_word}
use Rattle.drv_chains.proofs.Bits.{halved}

-- the word after the members of two lists
pub word_after_both : (word : Predecessor) (a b : List Member) → word_after word (a ++ b) ≡ word_after (word_after word a) b
unfolding word_after
word_after_both word [] b = refl
word_after_both word (m ∷ a) b = word_after_both (After m) a b

-- what holds of a word and of all members' words holds of the word after them
pub holds_after : (P : Predecessor → Type 0) (word : Predecessor) (ms : List Member) → P word → AllByRecursion P (map After ms) → P (word_after word ms)
unfolding word_after
holds_after P word [] h k = h
holds_after P word (m ∷ ms) h k = holds_after P (After m) ms k.0 k.1

-- what holds of each that passes holds of all that are kept
kept_or_not : {X Y : Type 0} (P : Y → Type 0) (t : X → Y) (test : X → Bool) (x : X) (xs : List X) (b : Bool) → test x ≡ b → ((y : X) → test y ≡ true → P (t y)) → AllByRecursion P (map t (filter test xs)) → AllByRecursion P (map t (cond b (x ∷ filter test xs) (filter test xs)))
kept_or_not P t test x xs true e h k = (h x e, k)
kept_or_not P t test x xs false e h k = k

pub of_kept : {X Y : Type 0} (P : Y → Type 0) (t : X → Y) (test : X → Bool) → ((y : X) → test y ≡ true → P (t y)) → (xs : List X) → AllByRecursion P (map t (filter test xs))
of_kept P t test h [] = tt
of_kept P t test h (x ∷ xs) = kept_or_not P t test x xs (test x) refl h (of_kept P t test h xs)

-- what holds of all holds of those that are kept
keeps_or_not : {X : Type 0} (P : X → Type 0) (x : X) (xs : List X) (b : Bool) → P x → AllByRecursion P xs → AllByRecursion P (cond b (x ∷ xs) xs)
keeps_or_not P x xs true h k = (h, k)
keeps_or_not P x xs false h k = k

pub all_kept : {X : Type 0} (P : X → Type 0) (test : X → Bool) (xs : List X) → AllByRecursion P xs → AllByRecursion P (filter test xs)
all_kept P test [] k = tt
all_kept P test (x ∷ xs) k = keeps_or_not P x (filter test xs) (test x) k.0 (all_kept P test xs k.1)

-- the two frames have one word, or frame f doesn't have the word of frame g
abbrev pub Agree : ℕ → ℕ → ℕ → Predecessor → Predecessor → Type 0
Agree f g period w v = (has_word f v ≡ false) ⊎ ((v ≡ w) × (f % frame_period period ≡ g % frame_period period))

abbrev pub SameWithin : ℕ → ℕ → Type 0
SameWithin period next = (f g : ℕ) → f % frame_period period ≡ g % frame_period period → f % frame_period next ≡ g % frame_period next

-- each period is followed by shorter ones, whose frames the longer one's are among
unfoldable pub Falls : ℕ → List ℕ → Type 0
Falls period [] = Unit
Falls period (next ∷ rest) = SameWithin period next × ((next < period) × Falls next rest)

abbrev pub queues_at : List QueueHead → ℕ → ℕ → List Member
queues_at qs period f = map Each (filter (at_place period (f % frame_period period)) qs)

-- a queue head of another frame of the period isn't in this one
other_frame : (f g period : ℕ) → nat_eq (g % frame_period period) (f % frame_period period) ≡ false → (q : QueueHead) → at_place period (g % frame_period period) q ≡ true → is_active f q ≡ false
other_frame f g period d q h =
    let both = and_parts (nat_eq q.period period) (nat_eq q.phase (g % frame_period period)) h in
    let e : q.period ≡ period = eqb-true q.period period both.0 in
    let k : q.phase ≡ g % frame_period period = eqb-true q.phase (g % frame_period period) both.1 in
    ap (λ x. nat_eq x (f % frame_period q.period)) k ∙ ap (λ x. nat_eq (g % frame_period period) (f % frame_period x)) e ∙ d

start_or_end : (w v : Predecessor) (ms : List Member) → (word_after v ms ≡ v) ⊎ (word_after v ms ≡ word_after w ms)
unfolding word_after
start_or_end w v [] = inl refl
start_or_end w v (m ∷ ms) = inr refl

one_phase : (f g next : ℕ) (w v : Predecessor) (qs : List QueueHead) → f % frame_period next ≡ g % frame_period next → has_word f v ≡ false → Agree f g next (word_after w (queues_at qs next f)) (word_after v (queues_at qs next g))
one_phase f g next w v qs e h =
    let same : queues_at qs next g ≡ queues_at qs next f = ap (λ x. map Each (filter (at_place next x) qs)) (sym e) in
    elim (start_or_end w v (queues_at qs next g)) [
      | inl s ↦ inl (ap (λ x. has_word f x) s ∙ h)
      | inr s ↦ inr (s ∙ ap (λ x. word_after w x) same, e)
    ]

-- the words of the members, of which each is known
pub after_all : (P : Predecessor → Type 0) (ms : List Member) → AllByRecursion (λ m. P (After m)) ms → AllByRecursion P (map After ms)
after_all P [] k = tt
after_all P (m ∷ ms) k = (k.0, after_all P ms k.1)

two_phases : (f g next : ℕ) (w v : Predecessor) (qs : List QueueHead) (b : Bool) → nat_eq (g % frame_period next) (f % frame_period next) ≡ b → has_word f v ≡ false → Agree f g next (word_after w (queues_at qs next f)) (word_after v (queues_at qs next g))
two_phases f g next w v qs true d h = one_phase f g next w v qs (sym (eqb-true (g % frame_period next) (f % frame_period next) d)) h
two_phases f g next w v qs false d h =
    inl (holds_after (λ x. has_word f x ≡ false) v (queues_at qs next g) h
    (after_all (λ x. has_word f x ≡ false) (queues_at qs next g)
    (of_kept (λ m. has_word f (After m) ≡ false) Each (at_place next (g % frame_period next)) (other_frame f g next d) qs)))

-- one period more
pub agree_next : (f g period next : ℕ) (w v : Predecessor) (qs : List QueueHead) → SameWithin period next → Agree f g period w v → Agree f g next (word_after w (queues_at qs next f)) (word_after v (queues_at qs next g))
agree_next f g period next w v qs within a = elim a [
  | inl h ↦ two_phases f g next w v qs (nat_eq (g % frame_period next) (f % frame_period next)) refl h
  | inr s ↦
      let e : f % frame_period next ≡ g % frame_period next = within f g s.1 in
      inr (ap (λ x. word_after x (queues_at qs next g)) s.0 ∙ ap (λ x. word_after w (map Each (filter (at_place next x) qs))) (sym e), e)
]

-- the descriptors of a frame are in no other
pub agree_start : (f g period : ℕ) (ds : List Descriptor) (b : Bool) → nat_eq g f ≡ b → Agree f g period (word_after (Element f) (map Once (filter (λ d. nat_eq d.frame f) ds))) (word_after (Element g) (map Once (filter (λ d. nat_eq d.frame g) ds)))
agree_start f g period ds true e =
    let s : g ≡ f = eqb-true g f e in
    inr (ap (λ x. word_after (Element x) (map Once (filter (λ d. nat_eq d.frame x) ds))) s, ap (λ x. x % frame_period period) (sym s))
agree_start f g period ds false e =
    inl (holds_after (λ x. has_word f x ≡ false) (Element g) (map Once (filter (λ d. nat_eq d.frame g) ds)) e
    (after_all (λ x. has_word f x ≡ false) (map Once (filter (λ d. nat_eq d.frame g) ds))
    (of_kept (λ m. has_word f (After m) ≡ false) Once (λ d. nat_eq d.frame g) (λ d h. ap (λ x. nat_eq x f) (eqb-true d.frame g h) ∙ e) ds)))

-- what stands ahead of a new queue head between others, and behind it
unfoldable pub ahead_in : List QueueHead → List QueueHead → QueueHead → ℕ → List ℕ → List Member
ahead_in xs ys q f [] = []
ahead_in xs ys q f (p ∷ ps) = if nat_eq q.period p then queues_at xs p f else queues_at (xs ++ ys) p f ++ ahead_in xs ys q f ps

unfoldable pub all_in : List QueueHead → ℕ → List ℕ → List Member
all_in qs f [] = []
all_in qs f (p ∷ ps) = queues_at qs p f ++ all_in qs f ps

unfoldable pub behind_in : List QueueHead → List QueueHead → QueueHead → ℕ → List ℕ → List Member
behind_in xs ys q f [] = []
behind_in xs ys q f (p ∷ ps) = if nat_eq q.period p then queues_at ys p f ++ all_in (xs ++ ys) f ps else behind_in xs ys q f ps

-- the periods reach this one: what the words agree on there
agree_or : (f g p : ℕ) (b : Bool) (w v : Predecessor) (xs qs : List QueueHead) (more_f more_g : List Member) (last : ℕ) → (b ≡ true → Agree f g last (word_after w (queues_at xs p f)) (word_after v (queues_at xs p g)))
    → (b ≡ false → Agree f g last (word_after (word_after w (queues_at qs p f)) more_f) (word_after (word_after v (queues_at qs p g)) more_g))
    → Agree f g last (word_after w (if b then queues_at xs p f else queues_at qs p f ++ more_f)) (word_after v (if b then queues_at xs p g else queues_at qs p g ++ more_g))
agree_or f g p true w v xs qs more_f more_g last now later_on = now refl
agree_or f g p false w v xs qs more_f more_g last now later_on =
    subst (λ (x : Predecessor). Agree f g last x (word_after v (queues_at qs p g ++ more_g))) (sym (word_after_both w (queues_at qs p f) more_f))
    (subst (λ (x : Predecessor). Agree f g last (word_after (word_after w (queues_at qs p f)) more_f) x) (sym (word_after_both v (queues_at qs p g) more_g)) (later_on refl))

no_period : (p : ℕ) → list_any (λ x. nat_eq p x) [] ≡ true → ⊥
no_period p h = false≢true h

pub later : (a b : Bool) → (a || b) ≡ true → a ≡ false → b ≡ true
later true b h e = absurd (false≢true (sym e))
later false b h e = h

pub agree_ahead : (xs ys : List QueueHead) (q : QueueHead) (f g : ℕ) (ps : List ℕ) (period : ℕ) (w v : Predecessor) → Falls period ps → list_any (λ p. nat_eq q.period p) ps ≡ true → Agree f g period w v
    → Agree f g q.period (word_after w (ahead_in xs ys q f ps)) (word_after v (ahead_in xs ys q g ps))
unfolding Falls ahead_in
agree_ahead xs ys q f g [] period w v falls here a = absurd (false≢true here)
agree_ahead xs ys q f g (p ∷ ps) period w v falls here a =
    agree_or f g p (nat_eq q.period p) w v xs (xs ++ ys) (ahead_in xs ys q f ps) (ahead_in xs ys q g ps) q.period
    (λ e. subst (λ (x : ℕ). Agree f g x (word_after w (queues_at xs p f)) (word_after v (queues_at xs p g))) (sym (eqb-true q.period p e)) (agree_next f g period p w v xs falls.0 a))
    (λ e. agree_ahead xs ys q f g ps p (word_after w (queues_at (xs ++ ys) p f)) (word_after v (queues_at (xs ++ ys) p g)) falls.1.1
    (later (nat_eq q.period p) (list_any (λ x. nat_eq q.period x) ps) here e) (agree_next f g period p w v (xs ++ ys) falls.0 a))

-- the periods fall
pub periods_fall : Falls 16384 periods
unfolding Falls
periods_fall = (
  λ f g e. halved 10 f g e,
  (
    omega arith,
    (
      λ f g e. halved 9 f g e,
      (
        omega arith,
        (
          λ f g e. halved 8 f g e,
          (
            omega arith,
            (
              λ f g e. halved 7 f g e,
              (
                omega arith,
                (
                  λ f g e. halved 6 f g e,
                  (
                    omega arith,
                    (
                      λ f g e. halved 5 f g e,
                      (
                        omega arith,
                        (
                          λ f g e. halved 4 f g e,
                          (
                            omega arith,
                            (
                              λ f g e. halved 3 f g e,
                              (
                                omega arith,
                                (
                                  λ f g e. halved 2 f g e,
                                  (
                                    omega arith,
                                    (
                                      λ f g e. halved 1 f g e,
                                      (
                                        omega arith,
                                        (
                                          λ f g e. halved 0 f g e,
                                          (
                                            omega arith,
                                            (
                                              λ f g e. e,
                                              (
                                                omega arith,
                                                (
                                                  λ f g e. e,
                                                  (
                                                    omega arith,
                                                    (
                                                      λ f g e. e,
                                                      (
                                                        omega arith,
                                                        tt,
                                                      ),
                                                    ),
                                                  ),
                                                ),
                                              ),
                                            ),
                                          ),
                                        ),
                                      ),
                                    ),
                                  ),
                                ),
                              ),
                            ),
                          ),
                        ),
                      ),
                    ),
                  ),
                ),
              ),
            ),
          ),
        ),
      ),
    ),
  ),
)
