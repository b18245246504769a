-- The work of a microframe keeps up with what is laid.
use Rattle.std.proofs.Common.{◌≡◌, ℕ, ◌+◌, ◌-◌, ◌*◌, ◌<◌, ◌≤◌, min, Bool, true, false, List, [], ◌∷◌, refl, sym, ◌∙◌, ap, subst, inl, inr, arith}
use Rattle.usb_base.specs.declared.packets.Reply.{Reply}
use Rattle.usb_base.specs.declared.packets.Speed.TheVariants.{High}
use Rattle.hub_keys.specs.Asks.{work_of}
use Rattle.hub_keys.specs.declared.key.Key.{Key}
use Rattle.tt_pipeline.specs.declared.entry.Entry.{Entry}
use Rattle.tt_pipeline.specs.Work.{called, called_unstuffed, is_due, moved, answered}
use Rattle.tt_pipeline.specs.Working.{used_at, first_reply, later_replies}
use Rattle.law_translator.specs.Plans.{Fits}
use Rattle.claims_world.specs.Plans.{Plan, laid}
use Rattle.law_translator.specs.Frames.{worked_one, worked_all}
use Rattle.claims_world.specs.Watched.{Watched}
use Rattle.law_translator.proofs.Keys.{Distinct, AllIn}
use Rattle.law_translator.proofs.Sums.{due_at, total, later, Sorted}
use Rattle.law_translator.proofs.Numbers.{Ready, Done, work_one, work_used}
use Rattle.law_translator.proofs.Owing.{Came, Grew, same, Seen, Coming, Owing, before_gaps, came_gaps, once_more, ready, even_after, unstuffed_same, no_stuff}

-- an entry before its turn
pub ready_for : (p : Plan) (now : ℕ) (w : Watched) → Owing p now w
    → Ready (p.times w.entry.key) (p.first w.entry.key) now (called w.entry.ask w.entry.before) w.entry.done (before_gaps w)
ready_for p now w o =
    ready p w.entry.key w.entry.ask w.entry.heard w.entry.before w.gaps now w.entry.done o.comes.heard o.comes.grew o.below o.kept o.even

-- all of what came but that the transaction was made
record Standing (most : ℕ) (p : Plan) (now : ℕ) (w : Watched) : Type 0 where
  heard : Came p w.entry.key w.entry.ask w.entry.heard w.gaps (now - 1)
  before : Came p w.entry.key w.entry.ask w.entry.before (before_gaps w) now
  came : Came p w.entry.key w.entry.ask w.entry.came (came_gaps w) (now + 1)
  seen : Seen w.entry.came
  grew : Grew p w.entry.key w.entry.ask w.entry.heard w.entry.before (before_gaps w)
  grows : Grew p w.entry.key w.entry.ask w.entry.before w.entry.came (came_gaps w)
  within : called w.entry.ask w.entry.came ≤ p.times w.entry.key
  bits : w.entry.stuff ≤ most
  plain : 0 < w.entry.came.parts → (n : ℕ) → work_of w.entry.ask n ≡ n + 9
  classic : w.entry.ask.speed ≡ High → ⊥

-- the answer to its transaction changes nothing else
coming_of : (most : ℕ) (p : Plan) (now : ℕ) (m : Entry) (g : ℕ) (reply : Reply) (b : Bool) → is_due m ≡ b
    → Standing most p now (record { entry = m; gaps = g }) → Coming most p now (record { entry = answered b reply m; gaps = g })
coming_of most p now m g reply true is o = record {
  heard = o.heard;
  before = o.before;
  came = o.came;
  seen = o.seen;
  grew = o.grew;
  grows = o.grows;
  within = o.within;
  bits = o.bits;
  plain = o.plain;
  classic = o.classic;
  asked = refl;
}
coming_of most p now m g reply false is o = record {
  heard = o.heard;
  before = o.before;
  came = o.came;
  seen = o.seen;
  grew = o.grew;
  grows = o.grows;
  within = o.within;
  bits = o.bits;
  plain = o.plain;
  classic = o.classic;
  asked = is;
}

-- what came stands a microframe later
pub turn_comes : (most : ℕ) (p : Plan) (now room : ℕ) (reply : Reply) (w : Watched) → Coming most p now w
    → Coming most p (now + 1) (worked_one room reply w)
turn_comes most p now room reply w o =
    let m : Entry = moved room w.entry in
    let back : now ≡ now + 1 - 1 = omega arith in
    let heard = subst (λ (u : ℕ). Came p w.entry.key w.entry.ask w.entry.before (before_gaps w) u) back o.before in
    let standing : Standing most p (now + 1) (record { entry = m; gaps = before_gaps w }) = record {
      heard = heard;
      before = o.came;
      came = once_more p w.entry.key w.entry.ask w.entry.came (came_gaps w) (now + 1) o.seen o.came;
      seen = o.seen;
      grew = o.grows;
      grows = same refl;
      within = o.within;
      bits = o.bits;
      plain = o.plain;
      classic = o.classic;
    }
    in coming_of most p (now + 1) m (before_gaps w) reply (is_due m) refl standing

pub done_answered : (b : Bool) (reply : Reply) (m : Entry) → (answered b reply m).done ≡ m.done
done_answered true reply m = refl
done_answered false reply m = refl

-- the byte-times that it takes
used_one : (room : ℕ) (w : Watched) → w.entry.stuff ≡ 0
    → used_at room w.entry ≡ min room (called w.entry.ask w.entry.before - w.entry.done)
used_one room w none = ap (λ (n : ℕ). min room (n - w.entry.done)) (unstuffed_same (called w.entry.ask w.entry.before) w.entry.stuff none)

owing_of : (p : Plan) (now : ℕ) (m : Entry) (g : ℕ) (reply : Reply) (b : Bool)
    → Coming 0 p now (record { entry = answered b reply m; gaps = g })
    → m.done ≤ called_unstuffed m → min (laid p m.key (now - 1)) (called_unstuffed m + 188 * g) ≤ m.done + 188 * g
    → (m.heard.whole ≡ false → m.done ≡ called_unstuffed m) → Owing p now (record { entry = answered b reply m; gaps = g })
owing_of p now m g reply true comes below kept even = record { comes = comes; below = below; kept = kept; even = even }
owing_of p now m g reply false comes below kept even = record { comes = comes; below = below; kept = kept; even = even }

-- an entry's turn, in a room for what is due
turn_keeps : (p : Plan) (now room : ℕ) (reply : Reply) (w : Watched) → Owing p now w → due_at p w.entry.key now ≤ room
    → Owing p (now + 1) (worked_one room reply w)
turn_keeps p now room reply w o fits =
    let m : Entry = moved room w.entry in
    let raw = work_one _ _ _ _ _ _ room (ready_for p now w o) fits in
    let taken : m.done ≡ w.entry.done + min room (called w.entry.ask w.entry.before - w.entry.done) = ap (λ (n : ℕ). w.entry.done + n) (used_one room w (no_stuff p now w o.comes)) in
    let done : Done (p.times w.entry.key) (p.first w.entry.key) now (called w.entry.ask w.entry.before) m.done (before_gaps w) =
    subst (λ (n : ℕ). Done (p.times w.entry.key) (p.first w.entry.key) now (called w.entry.ask w.entry.before) n (before_gaps w)) (sym taken) raw
    in
    let even = λ (lacks : w.entry.before.whole ≡ false).
    taken ∙ even_after p w.entry.key w.entry.ask w.entry.heard w.entry.before w.gaps (before_gaps w) now w.entry.done room o.comes.grew o.comes.before o.even raw lacks
    in
    let back : now ≡ now + 1 - 1 = omega arith in
    let kept = subst (λ (u : ℕ). min (laid p w.entry.key u) (called w.entry.ask w.entry.before + 188 * before_gaps w) ≤ m.done + 188 * before_gaps w) back done.kept in
    owing_of p (now + 1) m (before_gaps w) reply (is_due m) (turn_comes 0 p now room reply w o.comes) done.below kept even

abbrev pub keys_of : List Watched → List Key
keys_of [] = []
keys_of (w ∷ ws) = w.entry.key ∷ keys_of ws

abbrev pub All : (Watched → Type 0) → List Watched → Type 0
All P [] = Unit {0}
All P (w ∷ ws) = P w × All P ws

abbrev pub AllOwe : Plan → ℕ → List Watched → Type 0
AllOwe p now ws = All (Owing p now) ws

pub key_answered : (b : Bool) (reply : Reply) (m : Entry) → (answered b reply m).key ≡ m.key
key_answered true reply m = refl
key_answered false reply m = refl

pub keys_worked : (room : ℕ) (replies : List Reply) (ws : List Watched) → keys_of (worked_all room replies ws) ≡ keys_of ws
keys_worked room replies [] = refl
keys_worked room replies (w ∷ ws) =
    let here : (answered (is_due (moved room w.entry)) (first_reply replies) (moved room w.entry)).key ≡ w.entry.key = key_answered (is_due (moved room w.entry)) (first_reply replies) (moved room w.entry) in
    let rest = keys_worked (room - used_at room w.entry) (later_replies replies) ws in
    cc

-- an entry that is laid whole takes no more than what is due
used_within : (p : Plan) (now room : ℕ) (w : Watched) → Owing p now w → p.times w.entry.key ≤ laid p w.entry.key now
    → used_at room w.entry ≤ due_at p w.entry.key now
used_within p now room w o whole =
    subst (λ (n : ℕ). n ≤ due_at p w.entry.key now) (sym (used_one room w (no_stuff p now w o.comes))) (work_used _ _ _ _ _ _ room (ready_for p now w o) whole)

first_fits : (a b room : ℕ) → a + b ≤ room → a ≤ room
first_fits a b room h = omega arith

none_left : (a b room u : ℕ) → a + b ≤ room → b ≡ 0 → b ≤ room - u
none_left a b room u h e = omega arith

rest_fits : (a b room u : ℕ) → a + b ≤ room → u ≤ a → b ≤ room - u
rest_fits a b room u h l = omega arith

-- the turns of all entries, in a room for what is due to them
pub work_keeps : (p : Plan) → Fits p → (now room : ℕ) (replies : List Reply) (ws : List Watched) → AllOwe p now ws
    → Sorted p (keys_of ws) → Distinct (keys_of ws) → AllIn (keys_of ws) p.keys → total (λ k. due_at p k now) (keys_of ws) ≤ room
    → AllOwe p (now + 1) (worked_all room replies ws)
work_keeps p fits now room replies [] owe sorted distinct members within = tt
work_keeps p fits now room replies (w ∷ ws) owe sorted distinct members within =
    let sum : ℕ = total (λ k. due_at p k now) (keys_of ws) in
    let here = first_fits (due_at p w.entry.key now) sum room within in
    let rest : sum ≤ room - used_at room w.entry =
    elim (later p fits now w.entry.key (keys_of ws) members.0 members.1 distinct.0 sorted.0) [
      | inl none ↦ none_left (due_at p w.entry.key now) sum room (used_at room w.entry) within none
      | inr whole ↦
          rest_fits (due_at p w.entry.key now) sum room (used_at room w.entry) within (used_within p now room w owe.0 whole)
    ]
    in (
      turn_keeps p now room (first_reply replies) w owe.0 here,
      work_keeps p fits now (room - used_at room w.entry) (later_replies replies) ws owe.1 sorted.1 distinct.1 members.1 rest,
    )
