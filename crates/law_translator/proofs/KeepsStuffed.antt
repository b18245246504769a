-- The law over all events, with stuffed bits.
use Rattle.std.proofs.Common.{◌≡◌, ℕ, ◌+◌, ◌-◌, ◌*◌, ◌≤◌, true, List, [], ◌∷◌, ◌++◌, length, refl, sym, ◌∙◌, ap, subst, inl, inr, arith}
use Rattle.law_common.proofs.Booleans.{on_or_off}
use Rattle.usb_base.specs.declared.packets.Ask.{Ask}
use Rattle.usb_base.specs.declared.packets.Reply.{Reply}
use Rattle.hub_keys.specs.Asks.{stuffed}
use Rattle.hub_keys.specs.Keys.{key_of, is_same_key}
use Rattle.hub_keys.specs.declared.key.Key.{Key}
use Rattle.tt_pipeline.specs.declared.entry.Brought.{Brought}
use Rattle.tt_pipeline.specs.declared.entry.Entry.{Entry}
use Rattle.tt_pipeline.specs.declared.rows.AnswerRow.{AnswerRow}
use Rattle.tt_pipeline.specs.declared.rows.AnswerRow.TheVariants as Rows
use Rattle.tt_pipeline.specs.declared.rows.StartRow.{StartRow}
use Rattle.tt_pipeline.specs.declared.rows.StartRow.TheVariants.{Enters, Joins, Forgotten}
use Rattle.tt_pipeline.specs.Answers.{given, given_at, answer_row}
use Rattle.tt_pipeline.specs.Starting.{start_row, with_first, without_first}
use Rattle.tt_pipeline.specs.Work.{called, called_unstuffed, fresh, joined}
use Rattle.tt_pipeline.specs.Working.{used_at, first_reply, later_replies}
use Rattle.law_translator.specs.Plans.{Fits}
use Rattle.claims_world.specs.Plans.{Plan, laid}
use Rattle.law_translator.specs.Frames.{Event, Start, Complete, Work, Drop, Replan, Clear, Frame, entries_of, is_of, changed, begun, worked_all, next, run, opening}
use Rattle.claims_world.specs.Watched.{Watched}
use Rattle.law_translator.specs.Premises.{FollowsRow, Fair, FairAll, AllLaidAs}
use Rattle.claims_world.specs.KeepsUp.{KeepsUpStuffed, AllKeepUpStuffed}
use Rattle.law_translator.proofs.Fronts.{weight, excess, weight_of, excess_of, Fronts}
use Rattle.law_translator.proofs.Keys.{Distinct, AllIn, same_key, distinct_snoc, all_in_snoc}
use Rattle.law_translator.proofs.Owing.{Came, unseen, partial, ended, Coming}
use Rattle.law_translator.proofs.Replans.{coming_all_as, sorted_as, members_as}
use Rattle.law_translator.proofs.Results.{result_is_there}
use Rattle.law_translator.proofs.Starts.{fresh_comes, join_comes, given_comes, all_given, all_joined, all_without, all_snoc, keys_given, keys_joined, keys_without, keys_snoc, all_begun, distinct_without, members_without, sorted_without, by_without, absent}
use Rattle.law_translator.proofs.Stuffed.{Settles, fronts_keep, settle_keep}
use Rattle.law_translator.proofs.Sums.{due_fits, laid_fits, Sorted, sorted_snoc}
use Rattle.law_translator.proofs.Work.{keys_of, All, keys_worked, turn_comes}

pub record HoldsStuffed (f : Frame) : Type 0 where
  pub fits : Fits f.plan
  pub sorted : Sorted f.plan (keys_of f.watched)
  pub distinct : Distinct (keys_of f.watched)
  pub members : AllIn (keys_of f.watched) f.plan.keys
  pub comes : All (Coming 6 f.plan f.now) f.watched
  pub settles : All (Settles f.plan f.now) f.watched
  pub fronts : Fronts f.plan (f.now - 1) 0 0 f.watched

pub stuffed_opening : (p : Plan) → Fits p → HoldsStuffed (opening p)
stuffed_opening p fits = record { fits = fits; sorted = tt; distinct = tt; members = tt; comes = tt; settles = tt; fronts = tt }

-- ---- fronts of lists that change

module _ (p : Plan) (v : ℕ) where
  fronts_changed : (k : Key) (f : Entry → Entry) (a b : ℕ) (ws : List Watched)
      → ((w : Watched) → (weight_of (changed f w) ≡ weight_of w) × (excess_of p v (changed f w) ≡ excess_of p v w))
      → Fronts p v a b ws → Fronts p v a b (with_first (is_of k) (changed f) ws)
  fronts_changed k f a b [] same fronts = tt
  fronts_changed k f a b (w ∷ ws) same fronts =
      elim (on_or_off (is_of k w)) [
        | inl t ↦ let s = same w in rw (t, s.0, s.1) fronts
        | inr n ↦ rw n (fronts.0, fronts_changed k f (a + weight_of w) (b + excess_of p v w) ws same fronts.1)
      ]

  fronts_snoc : (a b : ℕ) (ws : List Watched) (w : Watched) → a ≤ 1128 * v + 42 * b → weight_of w ≡ 0 → Fronts p v a b ws
      → Fronts p v a b (ws ++ w ∷ [])
  fronts_snoc a b [] w base none fronts = (omega (arith, base, none), tt)
  fronts_snoc a b (x ∷ xs) w base none fronts =
      (fronts.0, fronts_snoc (a + weight_of x) (b + excess_of p v x) xs w fronts.0 none fronts.1)

  fronts_without : (k : Key) (a b : ℕ) (ws : List Watched) → All (λ w. is_of k w ≡ true → (weight_of w ≡ 0) × (excess_of p v w ≡ 0)) ws
      → Fronts p v a b ws → Fronts p v a b (without_first (is_of k) ws)
  fronts_without k a b [] none fronts = tt
  fronts_without k a b (w ∷ ws) none fronts =
      elim (on_or_off (is_of k w)) [
        | inl t ↦
            let n = none.0 t in
            let a_is : a + weight_of w ≡ a = omega (arith, n.0) in
            let b_is : b + excess_of p v w ≡ b = omega (arith, n.1) in
            rw t (rw (a_is, b_is) at fronts.1)
        | inr f ↦ rw f (fronts.0, fronts_without k (a + weight_of w) (b + excess_of p v w) ws none.1 fronts.1)
      ]

-- ---- complete-splits

given_same : (p : Plan) (v : ℕ) (w : Watched) (r : AnswerRow)
    → (weight_of (changed (given_at r) w) ≡ weight_of w) × (excess_of p v (changed (given_at r) w) ≡ excess_of p v w)
given_same p v w Rows.NotYet = (refl, refl)
given_same p v w Rows.Result = (refl, refl)
given_same p v w Rows.Unheard = (refl, refl)
given_same p v w Rows.More = (refl, refl)
given_same p v w Rows.Last = (refl, refl)

given_settles : (p : Plan) (now : ℕ) (w : Watched) (r : AnswerRow) → Settles p now w → Settles p now (changed (given_at r) w)
given_settles p now w Rows.NotYet s = s
given_settles p now w Rows.Result s = s
given_settles p now w Rows.Unheard s = s
given_settles p now w Rows.More s = record { below = s.below; settled = s.settled }
given_settles p now w Rows.Last s = record { below = s.below; settled = s.settled }

-- ---- starts

nothing_stuffed : (n : ℕ) → stuffed 0 n ≡ 0
nothing_stuffed n = omega arith

fresh_settles : (p : Plan) (now : ℕ) (ask : Ask) (bytes : List ℕ) (stuff : ℕ)
    → Settles p now (record { entry = fresh ask bytes stuff; gaps = 0 })
fresh_settles p now ask bytes stuff = record { below = omega arith; settled = λ when all. sym (nothing_stuffed stuff) }

fresh_weight : (ask : Ask) (bytes : List ℕ) (stuff : ℕ) → weight_of (record { entry = fresh ask bytes stuff; gaps = 0 }) ≡ 0
fresh_weight ask bytes stuff = omega arith

-- an entry that began in this microframe
none_called : (p : Plan) (now : ℕ) (w : Watched) → now ≤ p.first w.entry.key → Coming 6 p now w
    → (called_unstuffed w.entry ≡ 0) × (w.gaps ≡ 0)
none_called p now w late o = by w.entry.heard o.heard
  where
    by : (b : Brought) → Came p w.entry.key w.entry.ask b w.gaps (now - 1) → (called w.entry.ask b ≡ 0) × (w.gaps ≡ 0)
    by b (unseen is none ahead) = (ap (λ (x : Brought). called w.entry.ask x) is, none)
    by b (partial lacks some count bytes here) = absurd (omega arith)
    by b (ended whole fits here) = absurd (omega arith)

nothing_owed : (c s d : ℕ) → c ≡ 0 → weight c (c * s) d ≡ 0
nothing_owed c s d h = rw h (omega arith)

nothing_beyond : (a l c g : ℕ) → c ≡ 0 → g ≡ 0 → excess a l c g ≡ 0
nothing_beyond a l c g h i = omega arith

nothing_yet : (p : Plan) (now : ℕ) (k : Key) (ws : List Watched) → now ≡ p.first k → All (Coming 6 p now) ws
    → All (λ w. is_of k w ≡ true → (weight_of w ≡ 0) × (excess_of p (now - 1) w ≡ 0)) ws
nothing_yet p now k [] time comes = tt
nothing_yet p now k (w ∷ ws) time comes = (
  λ is.
      let key : w.entry.key ≡ k = same_key w.entry.key k is in
      let late : now ≤ p.first w.entry.key = rw key (omega (arith, time)) in
      let n = none_called p now w late comes.0 in (
        nothing_owed (called_unstuffed w.entry) w.entry.stuff w.entry.done n.0,
        nothing_beyond (p.times w.entry.key)
            (laid p w.entry.key (now - 1)) (called_unstuffed w.entry) w.gaps n.0 n.1,
      ),
  nothing_yet p now k ws time comes.1,
)

-- the keys stay, and what is owed
same_keys : (f : Frame) (now : ℕ) (ws : List Watched) → HoldsStuffed f → keys_of ws ≡ keys_of f.watched → All (Coming 6 f.plan now) ws
    → All (Settles f.plan now) ws
    → Fronts f.plan (now - 1) 0 0 ws → HoldsStuffed (record f { now = now; watched = ws })
same_keys f now ws h e comes settles fronts = record {
  fits = h.fits;
  sorted = rw e h.sorted;
  distinct = rw e h.distinct;
  members = rw e h.members;
  comes = comes;
  settles = settles;
  fronts = fronts;
}

start_keeps : (row : StartRow) (f : Frame) (ask : Ask) (bytes : List ℕ) (stuff : ℕ) → stuff ≤ 6 → HoldsStuffed f
    → FollowsRow row f.plan f.now ask (length bytes) (entries_of f.watched)
    → HoldsStuffed (record f { watched = begun row ask bytes stuff f.watched })
start_keeps Enters f ask bytes stuff bits h follows =
    let k : Key = key_of ask in
    let left : List Watched = without_first (is_of k) f.watched in
    let new : Watched = record { entry = fresh ask bytes stuff; gaps = 0 } in
    let e : keys_of left ≡ without_first (λ x. is_same_key x k) (keys_of f.watched) = keys_without k f.watched in
    let all : keys_of (left ++ new ∷ []) ≡ without_first (λ x. is_same_key x k) (keys_of f.watched) ++ k ∷ [] =
    keys_snoc left new ∙ ap (λ (ks : List Key). ks ++ k ∷ []) e
    in
    record {
      fits = h.fits;
      sorted =
          rw all (sorted_snoc f.plan f.now k _ (sorted_without (λ x. is_same_key x k) f.plan _ h.sorted)
          (by_without (λ x. is_same_key x k) f.plan f.now _ (all_begun 6 f.plan f.now f.watched h.comes)) follows.on_time);
      distinct = rw all (distinct_snoc k _ (distinct_without (λ x. is_same_key x k) _ h.distinct) (absent k _ h.distinct));
      members = rw all (all_in_snoc k _ f.plan.keys (members_without (λ x. is_same_key x k) _ f.plan.keys h.members) follows.placed);
      comes =
          all_snoc (Coming 6 f.plan f.now) left new (all_without (Coming 6 f.plan f.now) k f.watched h.comes)
          (fresh_comes 6 f.plan f.now ask bytes stuff bits follows);
      settles =
          all_snoc (Settles f.plan f.now) left new (all_without (Settles f.plan f.now) k f.watched h.settles)
          (fresh_settles f.plan f.now ask bytes stuff);
      fronts =
          fronts_snoc f.plan (f.now - 1) 0 0 left new (omega arith) (fresh_weight ask bytes stuff)
          (fronts_without f.plan (f.now - 1) k 0 0 f.watched (nothing_yet f.plan f.now k f.watched follows.on_time h.comes) h.fronts);
    }
start_keeps Joins f ask bytes stuff bits h follows =
    same_keys f f.now _ h (keys_joined (key_of ask) ask bytes f.watched)
    (all_joined (Coming 6 f.plan f.now) f.plan f.now ask bytes f.watched (λ w t o l. join_comes 6 f.plan f.now ask bytes w t o l)
    h.comes follows) (all_joined (Settles f.plan f.now) f.plan f.now ask bytes f.watched
    (λ w t s l. record { below = s.below; settled = s.settled }) h.settles follows) (fronts_changed f.plan (f.now - 1)
    (key_of ask) (joined ask bytes) 0 0 f.watched (λ w. (refl, refl)) h.fronts)
start_keeps Forgotten f ask bytes stuff bits h follows = h

-- ---- the other events

all_turned : (p : Plan) (now room : ℕ) (replies : List Reply) (ws : List Watched) → All (Coming 6 p now) ws
    → All (Coming 6 p (now + 1)) (worked_all room replies ws)
all_turned p now room replies [] comes = tt
all_turned p now room replies (w ∷ ws) comes = (
  turn_comes 6 p now room (first_reply replies) w comes.0,
  all_turned p now (room - used_at room w.entry) (later_replies replies) ws
      comes.1,
)

work_keeps : (f : Frame) (replies : List Reply) → HoldsStuffed f → HoldsStuffed (next f (Work replies))
work_keeps f replies h =
    let back : f.now ≡ f.now + 1 - 1 = omega arith in
    let due = due_fits f.plan h.fits f.now (keys_of f.watched) h.members h.distinct in
    let by_now = laid_fits f.plan h.fits f.now (keys_of f.watched) h.members h.distinct in
    let fronts = fronts_keep f.plan f.now 188 replies f.watched 0 0 0 0 0 0 h.comes h.settles h.fronts (omega arith) (omega arith)
    (inl (omega arith)) (omega (arith, due)) (omega (arith, by_now)) in
    same_keys f (f.now + 1) _ h (keys_worked 188 replies f.watched) (all_turned f.plan f.now 188 replies f.watched h.comes)
    (settle_keep f.plan h.fits f.now 188 replies f.watched 0 0 h.comes h.settles h.fronts h.sorted h.distinct h.members (omega arith)
    (λ x m some all. (omega arith, refl))) (subst (λ (v : ℕ). Fronts f.plan v 0 0 (worked_all 188 replies f.watched)) back fronts)

settles_as : (p q : Plan) (now : ℕ) (ws : List Watched) → AllLaidAs p q ws → All (Settles p now) ws → All (Settles q now) ws
settles_as p q now [] l s = tt
settles_as p q now (w ∷ ws) l s =
    (record { below = s.0.below; settled = rw (l.0.first, l.0.times) s.0.settled }, settles_as p q now ws l.1 s.1)

fronts_as : (p q : Plan) (v a b : ℕ) (ws : List Watched) → AllLaidAs p q ws → Fronts p v a b ws → Fronts q v a b ws
fronts_as p q v a b [] l fronts = tt
fronts_as p q v a b (w ∷ ws) l fronts =
    let e : excess_of q v w ≡ excess_of p v w = rw (l.0.first, l.0.times) refl in
    rw e (fronts.0, fronts_as p q v (a + weight_of w) (b + excess_of p v w) ws l.1 fronts.1)

pub stuffed_keeps : (f : Frame) (event : Event) → HoldsStuffed f → Fair 6 event f → HoldsStuffed (next f event)
stuffed_keeps f (Start ask bytes stuff) h fair =
    start_keeps (start_row ask (length bytes) (entries_of f.watched)) f ask bytes stuff fair.0 h fair.1
stuffed_keeps f (Complete key) h fair =
    same_keys f f.now _ h (keys_given key f.watched) (all_given (Coming 6 f.plan f.now) key f.watched
    (λ w o. given_comes 6 f.plan f.now w (answer_row w.entry) o) h.comes) (all_given (Settles f.plan f.now) key f.watched
    (λ w s. given_settles f.plan f.now w (answer_row w.entry) s) h.settles) (fronts_changed f.plan (f.now - 1) key given 0 0
    f.watched (λ w. given_same f.plan (f.now - 1) w (answer_row w.entry)) h.fronts)
stuffed_keeps f (Work replies) h fair = work_keeps f replies h
stuffed_keeps f (Drop plan) h fair = stuffed_opening plan fair
stuffed_keeps f (Replan plan) h fair = record {
  fits = fair.0;
  sorted = sorted_as f.plan plan f.watched fair.1 h.sorted;
  distinct = h.distinct;
  members = members_as f.plan plan f.watched fair.1;
  comes = coming_all_as 6 f.plan plan f.now f.watched fair.1 h.comes;
  settles = settles_as f.plan plan f.now f.watched fair.1 h.settles;
  fronts = fronts_as f.plan plan (f.now - 1) 0 0 f.watched fair.1 h.fronts;
}
stuffed_keeps f Clear h fair = record { fits = h.fits; sorted = tt; distinct = tt; members = tt; comes = tt; settles = tt; fronts = tt }

pub stuffed_keeps_all : (events : List Event) (f : Frame) → HoldsStuffed f → FairAll 6 events f → HoldsStuffed (run events f)
stuffed_keeps_all [] f h fair = h
stuffed_keeps_all (event ∷ events) f h fair = stuffed_keeps_all events (next f event) (stuffed_keeps f event h fair.0) fair.1

-- ---- what is promised

pub settled_kept : (p : Plan) (now : ℕ) (w : Watched) → Coming 6 p now w → Settles p now w → KeepsUpStuffed p now w
settled_kept p now w o s = record {
  no_more = s.below;
  whole = s.settled;
  answered = λ kind whole when all. result_is_there 6 p now w o (s.settled when all) kind whole;
}

pub all_settled : (p : Plan) (now : ℕ) (ws : List Watched) → All (Coming 6 p now) ws → All (Settles p now) ws → AllKeepUpStuffed p now ws
all_settled p now [] comes settles = tt
all_settled p now (w ∷ ws) comes settles = (settled_kept p now w comes.0 settles.0, all_settled p now ws comes.1 settles.1)

pub keeps_up_with_bits : (p : Plan) → Fits p → (events : List Event) → FairAll 6 events (opening p)
    → AllKeepUpStuffed (run events (opening p)).plan (run events (opening p)).now (run events (opening p)).watched
keeps_up_with_bits p fits events fair =
    let h = stuffed_keeps_all events (opening p) (stuffed_opening p fits) fair in
    all_settled _ _ _ h.comes h.settles
