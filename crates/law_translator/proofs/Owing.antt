-- What is owed to an entry, and how it stands after its turn.
use Rattle.std.proofs.Common.{◌≡◌, ℕ, ◌+◌, ◌-◌, ◌*◌, ◌<◌, ◌≤◌, min, true, false, refl, sym, ◌∙◌, ap, subst, inl, inr, ◌⊎◌, arith, eq-eqb}
use Rattle.std.specs.Prelude.{◌==◌, nat_lt}
use Rattle.std.proofs.lemmas.Bool.{lt-ltb}
use Rattle.usb_base.specs.declared.packets.Ask.{Ask}
use Rattle.usb_base.specs.declared.packets.Speed.TheVariants.{High}
use Rattle.hub_keys.specs.Asks.{work_of, stuffed}
use Rattle.hub_keys.specs.declared.key.Key.{Key}
use Rattle.tt_pipeline.specs.declared.entry.Brought.{Brought}
use Rattle.tt_pipeline.specs.Work.{nothing_brought, called, called_unstuffed, is_due}
use Rattle.claims_world.specs.Plans.{Plan, laid}
use Rattle.claims_world.specs.Watched.{Watched, gap_between, gap_of}
use Rattle.law_translator.proofs.Numbers.{Ready, Done, ready_even, even_more, even_same}

-- what had come before microframe u, with g microframes without a part
pub data Came (p : Plan) (k : Key) (ask : Ask) (b : Brought) (g u : ℕ) : Type 0 where
  unseen : (is : b ≡ nothing_brought) (none : g ≡ 0) (ahead : u ≤ p.first k) → Came p k ask b g u
  partial : (lacks : b.whole ≡ false) (some : 0 < b.parts) (count : 188 * b.parts + 188 * g ≡ 188 * (u - p.first k)) (bytes : b.bytes ≡ 188 * b.parts) (begun : p.first k < u) → Came p k ask b g u
  ended : (whole : b.whole ≡ true) (fits : work_of ask b.bytes + 188 * g ≤ p.times k) (begun : p.first k < u) → Came p k ask b g u

-- what came in one microframe: nothing, or a part that is laid; g is the count after it
pub data Grew (p : Plan) (k : Key) (ask : Ask) (a b : Brought) (g : ℕ) : Type 0 where
  same : (is : b ≡ a) → Grew p k ask a b g
  more : (lacked : a.whole ≡ false) (fits : called ask b + 188 * g ≤ p.times k) (rises : called ask a ≤ called ask b) (no_gap : gap_between a b ≡ 0) → Grew p k ask a b g

abbrev pub Seen : Brought → Type 0
Seen b = (b.whole ≡ true) ⊎ (0 < b.parts)

abbrev pub before_gaps : Watched → ℕ
before_gaps w = w.gaps + gap_of w.entry

abbrev pub came_gaps : Watched → ℕ
came_gaps w = w.gaps + gap_of w.entry + gap_between w.entry.before w.entry.came

-- what came of an entry, of at most so many stuffed bits in 36; its classic transaction isn't due
pub record Coming (most : ℕ) (p : Plan) (now : ℕ) (w : Watched) : Type 0 where
  pub heard : Came p w.entry.key w.entry.ask w.entry.heard w.gaps (now - 1)
  pub before : Came p w.entry.key w.entry.ask w.entry.before (before_gaps w) now
  pub came : Came p w.entry.key w.entry.ask w.entry.came (came_gaps w) (now + 1)
  pub seen : Seen w.entry.came
  pub grew : Grew p w.entry.key w.entry.ask w.entry.heard w.entry.before (before_gaps w)
  pub grows : Grew p w.entry.key w.entry.ask w.entry.before w.entry.came (came_gaps w)
  pub within : called w.entry.ask w.entry.came ≤ p.times w.entry.key
  pub bits : w.entry.stuff ≤ most
  pub plain : 0 < w.entry.came.parts → (n : ℕ) → work_of w.entry.ask n ≡ n + 9
  pub classic : w.entry.ask.speed ≡ High → ⊥
  pub asked : is_due w.entry ≡ false

-- and what was worked for it, where there are no stuffed bits
pub record Owing (p : Plan) (now : ℕ) (w : Watched) : Type 0 where
  pub comes : Coming 0 p now w
  pub below : w.entry.done ≤ called_unstuffed w.entry
  pub kept : min (laid p w.entry.key (now - 1)) (called_unstuffed w.entry + 188 * w.gaps) ≤ w.entry.done + 188 * w.gaps
  pub even : w.entry.heard.whole ≡ false → w.entry.done ≡ called_unstuffed w.entry

-- ---- small facts

pub called_partial : (ask : Ask) (b : Brought) → b.whole ≡ false → called ask b ≡ 188 * b.parts
called_partial ask b h = rw h refl

pub called_ended : (ask : Ask) (b : Brought) → b.whole ≡ true → called ask b ≡ work_of ask b.bytes
called_ended ask b h = rw h refl

pub gap_whole : (a b : Brought) → a.whole ≡ true → gap_between a b ≡ 0
gap_whole a b h = rw h refl

gap_itself : (b : Brought) → b.whole ≡ false → 0 < b.parts → gap_between b b ≡ 1
gap_itself b h some =
    let lt : nat_lt 0 b.parts ≡ true = lt-ltb 0 b.parts some in
    let eq : (b.parts == b.parts) ≡ true = eq-eqb _ _ refl in
    rw (h, lt, eq) refl

no_bits : (times : ℕ) → stuffed times 0 ≡ times
no_bits times = omega arith

-- without stuffed bits the byte-times are as they were
pub unstuffed_same : (times stuff : ℕ) → stuff ≡ 0 → stuffed times stuff ≡ times
unstuffed_same times stuff none = subst (λ (n : ℕ). stuffed times n ≡ times) (sym none) (no_bits times)

pub no_stuff : (p : Plan) (now : ℕ) (w : Watched) → Coming 0 p now w → w.entry.stuff ≡ 0
no_stuff p now w o = omega (arith, o.bits)

pub not_both : (b : Brought) → b.whole ≡ true → b.whole ≡ false → ⊥
not_both b h i = cc

module _ (p : Plan) (k : Key) (ask : Ask) where
  pub calls_more : (a b : Brought) (g : ℕ) → Grew p k ask a b g → called ask a ≤ called ask b
  calls_more a b g (same is) = let e : called ask b ≡ called ask a = ap (λ (x : Brought). called ask x) is in omega arith
  calls_more a b g (more lacked fits rises no_gap) = rises

  -- a microframe in which nothing came
  pub once_more : (b : Brought) (g u : ℕ) → Seen b → Came p k ask b g u → Came p k ask b (g + gap_between b b) (u + 1)
  once_more b g u seen (unseen is none ahead) =
      let w : b.whole ≡ false = ap (λ (x : Brought). x.whole) is in
      let n : b.parts ≡ 0 = ap (λ (x : Brought). x.parts) is in
      elim seen [ inl h ↦ absurd (not_both b h w) | inr h ↦ absurd (omega arith) ]
  once_more b g u seen (partial lacks some count bytes begun) =
      rw (gap_itself b lacks some) (partial lacks some (omega arith) bytes (omega arith))
  once_more b g u seen (ended whole fits begun) =
      rw (gap_whole b b whole) (ended whole (omega arith) (omega arith))

  -- what came in the microframe that is worked now
  ready_more : (a b : Brought) (g now d : ℕ) → Came p k ask a g (now - 1) → a.whole ≡ false → called ask b + 188 * g ≤ p.times k
      → called ask a ≤ called ask b → d ≡ called ask a → Ready (p.times k) (p.first k) now (called ask b) d g
  ready_more a b g now d (unseen is none ahead) lacked fits rises even = record {
    below = omega arith;
    kept = omega arith;
    fits = λ _. fits;
  }
  ready_more a b g now d (partial lacks some count bytes begun) lacked fits rises even =
      let c = called_partial ask a lacks in
      record { below = omega arith; kept = omega arith; fits = λ _. fits }
  ready_more a b g now d (ended whole _ _) lacked fits rises even = absurd (not_both a whole lacked)

  ready_same : (a : Brought) (g now d : ℕ) → Came p k ask a g (now - 1) → d ≤ called ask a
      → min (laid p k (now - 1)) (called ask a + 188 * g) ≤ d + 188 * g → (a.whole ≡ false → d ≡ called ask a)
      → Ready (p.times k) (p.first k) now (called ask a) d (g + gap_between a a)
  ready_same a g now d (unseen is none ahead) below kept even =
      ready_even _ _ _ _ _ _ (even (ap (λ (x : Brought). x.whole) is))
  ready_same a g now d (partial lacks some count bytes begun) below kept even = ready_even _ _ _ _ _ _ (even lacks)
  ready_same a g now d (ended whole fits begun) below kept even =
      let c = called_ended ask a whole in
      rw (gap_whole a a whole) (record { below = below; kept = omega arith; fits = λ _. omega arith })

  pub ready : (a b : Brought) (g now d : ℕ) → Came p k ask a g (now - 1) → Grew p k ask a b (g + gap_between a b) → d ≤ called ask a
      → min (laid p k (now - 1)) (called ask a + 188 * g) ≤ d + 188 * g → (a.whole ≡ false → d ≡ called ask a)
      → Ready (p.times k) (p.first k) now (called ask b) d (g + gap_between a b)
  ready a b g now d came (same is) below kept even =
      subst (λ (x : Brought). Ready (p.times k) (p.first k) now (called ask x) d (g + gap_between a x)) (sym is) (ready_same a g now d came below kept even)
  ready a b g now d came (more lacked fits rises no_gap) below kept even =
      let e : g + gap_between a b ≡ g = omega (arith, no_gap) in
      rw e (ready_more a b g now d came lacked (rw e at fits) rises (even lacked))

  -- an entry that lacks its last has had all that it calls for
  pub even_after : (a b : Brought) (g g' now d room : ℕ) → Grew p k ask a b g' → Came p k ask b g' now
      → (a.whole ≡ false → d ≡ called ask a) → Done (p.times k) (p.first k) now (called ask b) (d + min room (called ask b - d)) g'
      → b.whole ≡ false → d + min room (called ask b - d) ≡ called ask b
  even_after a b g g' now d room (same is) came even done lacks =
      let e : called ask b ≡ called ask a = ap (λ (x : Brought). called ask x) is in
      let w : a.whole ≡ false = sym (ap (λ (x : Brought). x.whole) is) ∙ lacks in
      even_same (called ask b) d room (even w ∙ sym e)
  even_after a b g g' now d room (more lacked fits rises no_gap) (unseen is none ahead) even done lacks =
      let c : called ask b ≡ 0 = ap (λ (x : Brought). called ask x) is in
      even_same (called ask b) d room (omega (arith, even lacked))
  even_after a b g g' now d room (more lacked fits rises no_gap) (partial _ some count bytes begun) even done lacks =
      let c = called_partial ask b lacks in
      even_more (p.times k) (p.first k) now (called ask b) _ g' done (omega arith) fits
  even_after a b g g' now d room (more lacked fits rises no_gap) (ended whole _ _) even done lacks = absurd (not_both b whole lacks)
