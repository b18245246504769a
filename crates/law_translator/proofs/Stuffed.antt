-- The work of a microframe keeps the fronts, and settles what is laid whole.
use Rattle.std.proofs.Common.{◌≡◌, ℕ, ◌+◌, ◌-◌, ◌*◌, ◌/◌, ◌<◌, ◌≤◌, min, Bool, true, false, List, [], ◌∷◌, refl, sym, ap, inl, inr, ◌⊎◌, arith}
use Rattle.std.proofs.lemmas.Bool.{cases_lt}
use Rattle.usb_base.specs.declared.packets.Reply.{Reply}
use Rattle.hub_keys.specs.declared.key.Key.{Key}
use Rattle.tt_pipeline.specs.declared.entry.Entry.{Entry}
use Rattle.tt_pipeline.specs.Work.{called, called_unstuffed, called_for, is_due, moved, answered}
use Rattle.tt_pipeline.specs.Working.{used_at, first_reply, later_replies}
use Rattle.law_translator.specs.Plans.{Fits}
use Rattle.claims_world.specs.Plans.{Plan, laid}
use Rattle.law_translator.specs.Premises.{In}
use Rattle.law_translator.specs.Frames.{worked_one, worked_all}
use Rattle.claims_world.specs.Watched.{Watched}
use Rattle.law_translator.proofs.Fronts.{weight, weight_of, excess_of, Fronts, bits_grow, gain, paid, excess_grows, calls_stay, calls_begun}
use Rattle.law_translator.proofs.Keys.{Distinct, AllIn}
use Rattle.law_translator.proofs.Owing.{Coming, before_gaps, calls_more}
use Rattle.law_translator.proofs.Sums.{due_at, total, whole_before, AllLater, Sorted}
use Rattle.law_translator.proofs.Work.{keys_of, All}

-- what is done of an entry of stuffed bits
pub record Settles (p : Plan) (now : ℕ) (w : Watched) : Type 0 where
  pub below : w.entry.done ≤ called_for w.entry
  pub settled : now ≤ 8 → p.times w.entry.key ≤ laid p w.entry.key (now - 2) → w.entry.done ≡ called_for w.entry

-- ---- the answer to a transaction changes none of the numbers

weight_answered : (b : Bool) (reply : Reply) (m : Entry) (g : ℕ)
    → weight_of (record { entry = answered b reply m; gaps = g }) ≡ weight (called_unstuffed m) (called_unstuffed m * m.stuff) m.done
weight_answered true reply m g = refl
weight_answered false reply m g = refl

excess_answered : (b : Bool) (reply : Reply) (p : Plan) (v : ℕ) (m : Entry) (g : ℕ)
    → excess_of p v (record { entry = answered b reply m; gaps = g }) ≡ excess_of p v (record { entry = m; gaps = g })
excess_answered true reply p v m g = refl
excess_answered false reply p v m g = refl

settles_answered : (b : Bool) (reply : Reply) (p : Plan) (now : ℕ) (m : Entry) (g : ℕ) → Settles p now (record { entry = m; gaps = g })
    → Settles p now (record { entry = answered b reply m; gaps = g })
settles_answered true reply p now m g s = record { below = s.below; settled = s.settled }
settles_answered false reply p now m g s = s

-- ---- the numbers of an entry's turn

record Turned (p : Plan) (now room : ℕ) (w : Watched) : Type 0 where
  rises : called_unstuffed w.entry ≤ called w.entry.ask w.entry.before
  bits : called w.entry.ask w.entry.before * w.entry.stuff + 6 * called_unstuffed w.entry ≤ called_unstuffed w.entry * w.entry.stuff + 6 * called w.entry.ask w.entry.before
  more : called_unstuffed w.entry * w.entry.stuff ≤ called w.entry.ask w.entry.before * w.entry.stuff
  few : called w.entry.ask w.entry.before * w.entry.stuff ≤ 6 * called w.entry.ask w.entry.before
  fits : called w.entry.ask w.entry.before ≤ p.times w.entry.key

few_bits : (e n : ℕ) → n ≤ 6 → e * n ≤ 6 * e
few_bits e n h = let g = (bits_grow 0 e n (omega arith) h).1 in omega arith

turned_of : (p : Plan) (now room : ℕ) (w : Watched) → Coming 6 p now w → Turned p now room w
turned_of p now room w o =
    let r : called_unstuffed w.entry ≤ called w.entry.ask w.entry.before = calls_more p w.entry.key w.entry.ask w.entry.heard
    w.entry.before _ o.grew in
    let s : called w.entry.ask w.entry.before ≤ called w.entry.ask w.entry.came = calls_more p w.entry.key w.entry.ask w.entry.before
    w.entry.came _ o.grows in
    let g = bits_grow (called_unstuffed w.entry) (called w.entry.ask w.entry.before) w.entry.stuff r o.bits in
    record { rises = r; bits = g.1; more = g.0; few = few_bits _ _ o.bits; fits = omega (arith, o.within) }

-- ---- fronts

less_room : (a a' o o' b b' e e' d u m room : ℕ) → room ≤ 188 → m ≤ room → a' + 36 * (188 - room) + 42 * b ≤ a + 42 * b' + 42 * d
    → o' + 36 * m + 42 * e ≤ o + 42 * e' + 42 * u
    → a' + o' + 36 * (188 - (room - m)) + 42 * (b + e) ≤ a + o + 42 * (b' + e') + 42 * (d + u)
less_room a a' o o' b b' e e' d u m room top taken h i = omega arith

still_paid : (a o l n : ℕ) → a ≤ 6 * l → o ≤ 6 * n → a + o ≤ 6 * (l + n)
still_paid a o l n h i = omega arith

-- where all was paid, or the microframe is full
front_of : (a a' b b' d l rest_d rest_l now room : ℕ) → room ≤ 188 → a' + 36 * (188 - room) + 42 * b ≤ a + 42 * b' + 42 * d
    → a ≤ 1128 * (now - 1) + 42 * b → (a' ≤ 6 * l) ⊎ ((room ≡ 0) × (0 < now)) → d + rest_d ≤ 188 → l + rest_l ≤ 188 * now
    → a' ≤ 1128 * now + 42 * b'
front_of a a' b b' d l rest_d rest_l now room top gained old (inl p) due laid = omega arith
front_of a a' b b' d l rest_d rest_l now room top gained old (inr (none, some)) due laid = omega arith

one_paid : (m n room : ℕ) → m ≡ min room n → (n ≤ m) ⊎ (room - m ≡ 0 × 0 < n)
one_paid m n room h =
    elim (cases_lt room n) [ inl l ↦ inr (omega arith, omega arith) | inr g ↦ inl (omega arith) ]

some_called : (e y d : ℕ) → y ≤ 6 * e → 0 < e + y / 36 - d → 0 < e
some_called e y d few some = omega arith

shift : (a b c : ℕ) → a + (b + c) ≡ a + b + c
shift a b c = omega arith

pub fronts_keep : (p : Plan) (now room : ℕ) (replies : List Reply) (ws : List Watched) (a a' b b' d l : ℕ) → All (Coming 6 p now) ws
    → All (Settles p now) ws → Fronts p (now - 1) a b ws
    → room ≤ 188 → a' + 36 * (188 - room) + 42 * b ≤ a + 42 * b' + 42 * d → (a' ≤ 6 * l) ⊎ ((room ≡ 0) × (0 < now))
    → d + total (λ k. due_at p k now) (keys_of ws) ≤ 188 → l + total (λ k. laid p k now) (keys_of ws) ≤ 188 * now
    → Fronts p now a' b' (worked_all room replies ws)
fronts_keep p now room replies [] a a' b b' d l comes settles fronts top gained state due laid_by = tt
fronts_keep p now room replies (w ∷ ws) a a' b b' d l comes settles fronts top gained state due laid_by =
    let o : Coming 6 p now w = comes.0 in
    let t = turned_of p now room w o in
    let m : Entry = moved room w.entry in
    let used : ℕ = used_at room w.entry in
    let reply : Reply = first_reply replies in
    let after : Watched = worked_one room reply w in
    let o_is : weight_of after ≡ weight (called_unstuffed m) (called_unstuffed m * m.stuff) m.done = weight_answered (is_due m) reply m
    (before_gaps w) in
    let e_is : excess_of p now after ≡ excess_of p now (record { entry = m; gaps = before_gaps w }) = excess_answered (is_due m) reply p
    now m (before_gaps w) in
    let grows = excess_grows p w.entry.key w.entry.ask w.entry.heard w.entry.before w.gaps now o.heard o.grew in
    let one : weight_of after + 36 * used + 42 * excess_of p (now - 1) w ≤ weight_of w + 42 * excess_of p now after + 42 * due_at p
    w.entry.key now =
    rw (o_is, e_is) (gain _ _ _ _ _ used _ _ _ t.rises t.bits settles.0.below (omega arith) grows)
    in
    let begun : 0 < called w.entry.ask w.entry.before → p.first w.entry.key < now = λ some. calls_begun p w.entry.key w.entry.ask
    w.entry.before (before_gaps w) now o.before some in
    let gained' = less_room a a' _ _ b b' _ _ d _ used room top (omega arith) gained one in
    let state' : (a' + weight_of after ≤ 6 * (l + laid p w.entry.key now)) ⊎ ((room - used ≡ 0) × (0 < now)) =
    elim state [
      | inl fine ↦ elim (one_paid used (called_for (record m { done = 0 }) - w.entry.done) room refl) [
        | inl all ↦ inl (still_paid a' _ l _ fine (rw o_is (paid (p.times w.entry.key) (p.first w.entry.key) now
            (called w.entry.ask w.entry.before) _ w.entry.done used t.fits t.few begun all)))
        | inr (full, some) ↦ let s = begun (some_called _ _ _ t.few some) in inr (full, omega arith)
      ]
      | inr (none, some) ↦ inr (omega arith, some)
    ]
    in
    let due' : d + due_at p w.entry.key now + total (λ k. due_at p k now) (keys_of ws) ≤ 188 = rw
    (← shift d (due_at p w.entry.key now) (total (λ k. due_at p k now) (keys_of ws))) due in
    let laid' : l + laid p w.entry.key now + total (λ k. laid p k now) (keys_of ws) ≤ 188 * now = rw
    (← shift l (laid p w.entry.key now) (total (λ k. laid p k now) (keys_of ws))) laid_by in (
      front_of _ _ _ _ _ _ _ _ now (room - used) (omega arith) gained' fronts.0 state' due' laid',
      fronts_keep p now (room - used) (later_replies replies) ws _ _ _ _ _ _ comes.1 settles.1 fronts.1 (omega arith) gained' state' due'
          laid',
    )

-- ---- what is laid whole

-- an earlier one is laid whole where anything of a later one is
whole_earlier : (p : Plan) → Fits p → (v : ℕ) (k x : Key) → In k p.keys → In x p.keys → (k ≡ x → ⊥) → p.first k ≤ p.first x
    → 0 < p.times x → p.times x ≤ laid p x v → p.times k ≤ laid p k v
whole_earlier p fits v k x mk mx apart before some all =
    let h = whole_before p fits (p.first x + 1) k x mk mx apart before (first_due (p.times x) (p.first x) some) in
    by_then (p.times k) (p.first k) (p.times x) (p.first x) v some all h
  where
    first_due : (a s : ℕ) → 0 < a → 0 < min a (188 * (s + 1 - s)) - min a (188 * (s + 1 - 1 - s))
    first_due a s h = omega arith

    by_then : (a s b t v : ℕ) → 0 < b → b ≤ min b (188 * (v - t)) → a ≤ min a (188 * (t + 1 - s)) → a ≤ min a (188 * (v - s))
    by_then a s b t v h i j = omega arith

first_of_all : (p : Plan) (k x : Key) (ks : List Key) → AllLater p k ks → In x ks → p.first k ≤ p.first x
first_of_all p k x [] later m = absurd m
first_of_all p k x (y ∷ ys) later (inl e) = rw e later.0
first_of_all p k x (y ∷ ys) later (inr m) = first_of_all p k x ys later.1 m

in_all : (x : Key) (ks ys : List Key) → AllIn ks ys → In x ks → In x ys
in_all x [] ys all m = absurd m
in_all x (k ∷ ks) ys all (inl e) = rw e all.0
in_all x (k ∷ ks) ys all (inr m) = in_all x ks ys all.1 m

-- where these keys are later ones: what was used in this microframe was owed, and nothing is in excess
abbrev AreEarlier : Plan → ℕ → ℕ → ℕ → ℕ → List Key → Type 0
AreEarlier p v room a b ks = (x : Key) → In x ks → 0 < p.times x → p.times x ≤ laid p x v → (36 * (188 - room) ≤ a) × (b ≡ 0)

settle_one : (c e x y d a b f room now : ℕ) → c ≡ e → x ≡ y → d ≤ c + x / 36 → now ≤ 7 → room ≤ 188 → 36 * (188 - room) ≤ a → b ≡ 0
    → f ≡ 0 → a + (36 * c + x - 36 * d) ≤ 1128 * (now - 1) + 42 * (b + f)
    → d + min room (e + y / 36 - d) ≡ e + y / 36
settle_one c e x y d a b f room now same bits below when top used none nil h = omega arith

no_excess : (a l c g : ℕ) → a ≤ l → min a (c + 188 * g) - l ≡ 0
no_excess a l c g h = omega arith

more_used : (c e x y d a m room : ℕ) → c ≡ e → x ≡ y → d ≤ c + x / 36 → room ≤ 188 → 36 * (188 - room) ≤ a → m ≤ room
    → m ≤ e + y / 36 - d → 36 * (188 - (room - m)) ≤ a + (36 * c + x - 36 * d)
more_used c e x y d a m room same bits below top used fits some = omega arith

below_after : (c e x y d room : ℕ) → c ≤ e → x ≤ y → d ≤ c + x / 36 → d + min room (e + y / 36 - d) ≤ e + y / 36
below_after c e x y d room h i j = omega arith

nothing_called : (e y d : ℕ) → e ≤ 0 → y ≤ 6 * e → d ≤ e + y / 36 → d ≡ e + y / 36
nothing_called e y d h i j = omega arith

two_back : (a s now : ℕ) → a ≤ min a (188 * (now + 1 - 2 - s)) → a ≤ min a (188 * (now - 1 - s))
two_back a s now h = omega arith

pub settle_keep : (p : Plan) → Fits p → (now room : ℕ) (replies : List Reply) (ws : List Watched) (a b : ℕ) → All (Coming 6 p now) ws
    → All (Settles p now) ws → Fronts p (now - 1) a b ws
    → Sorted p (keys_of ws) → Distinct (keys_of ws) → AllIn (keys_of ws) p.keys → room ≤ 188
    → AreEarlier p (now - 1) room a b (keys_of ws)
    → All (Settles p (now + 1)) (worked_all room replies ws)
settle_keep p fits now room replies [] a b comes settles fronts sorted distinct members top earlier = tt
settle_keep p fits now room replies (w ∷ ws) a b comes settles fronts sorted distinct members top earlier =
    let o : Coming 6 p now w = comes.0 in
    let t = turned_of p now room w o in
    let m : Entry = moved room w.entry in
    let used : ℕ = used_at room w.entry in
    let k : Key = w.entry.key in
    let here : Settles p now w = settles.0 in
    let calls : p.times k ≤ laid p k (now - 1) → called w.entry.ask w.entry.before ≡ called_unstuffed w.entry = λ all. calls_stay p k
    w.entry.ask w.entry.heard w.entry.before w.gaps now o.heard o.grew all in
    let bits : p.times k ≤ laid p k (now - 1) → called_unstuffed w.entry * w.entry.stuff ≡ called w.entry.ask
    w.entry.before * w.entry.stuff = λ all. ap (λ (n : ℕ). n * w.entry.stuff) (sym (calls all)) in
    let below : m.done ≤ called_for m = below_after _ _ _ _ w.entry.done room t.rises t.more here.below in
    let stood : Settles p (now + 1) (record { entry = m; gaps = before_gaps w }) = record {
      below = below;
      settled = λ when all_.
          let all = two_back (p.times k) (p.first k) now all_ in
          elim (cases_lt 0 (p.times k)) [
            | inl some ↦
                let q = earlier k (inl refl) some all in
                settle_one (called_unstuffed w.entry) (called w.entry.ask w.entry.before) _ _ w.entry.done a b (excess_of p (now - 1) w)
                room now (sym (calls all)) (bits all) here.below (omega arith) top q.0 q.1 (no_excess _ _ _ _ all) fronts.0
            | inr none ↦ nothing_called _ _ _ (omega (arith, t.fits)) t.few below
          ];
    }
    in
    let next : AreEarlier p (now - 1) (room - used) (a + weight_of w) (b + excess_of p (now - 1) w) (keys_of ws) = λ x mx some whole.
    let q = earlier x (inr mx) some whole in
    let all : p.times k ≤ laid p k (now - 1) = whole_earlier p fits (now - 1) k x members.0 (in_all x (keys_of ws) p.keys members.1 mx)
    (λ e. distinct.0 (rw e mx)) (first_of_all p k x (keys_of ws) sorted.0 mx) some whole in
    let none : excess_of p (now - 1) w ≡ 0 = no_excess _ _ _ _ all in (
      more_used (called_unstuffed w.entry) (called w.entry.ask w.entry.before) _ _ w.entry.done a used room (sym (calls all)) (bits all)
          here.below top q.0 (omega arith) (omega arith),
      omega (arith, q.1, none),
    )
    in (
      settles_answered (is_due m) (first_reply replies) p (now + 1) m (before_gaps w) stood,
      settle_keep p fits now (room - used) (later_replies replies) ws _ _ comes.1 settles.1 fronts.1 sorted.1 distinct.1 members.1
          (omega arith) next,
    )
