-- The law over all events.
use Rattle.std.proofs.Common.{◌≡◌, ℕ, ◌+◌, ◌-◌, ◌*◌, ◌≤◌, min, true, List, [], ◌∷◌, ◌++◌, length, sym, ◌∙◌, ap, subst, arith}
use Rattle.usb_base.specs.declared.packets.Ask.{Ask}
use Rattle.hub_keys.specs.Asks.{work_of}
use Rattle.hub_keys.specs.Keys.{key_of, is_same_key}
use Rattle.hub_keys.specs.declared.key.Key.{Key}
use Rattle.tt_pipeline.specs.declared.entry.Brought.{Brought}
use Rattle.tt_pipeline.specs.declared.rows.StartRow.{StartRow}
use Rattle.tt_pipeline.specs.declared.rows.StartRow.TheVariants.{Enters, Joins, Forgotten}
use Rattle.tt_pipeline.specs.Starting.{start_row, without_first}
use Rattle.tt_pipeline.specs.Work.{called, called_unstuffed, called_for, fresh}
use Rattle.law_translator.specs.Plans.{Fits}
use Rattle.claims_world.specs.Plans.{Plan, laid}
use Rattle.law_translator.specs.Frames.{Event, Start, Complete, Work, Drop, Replan, Clear, Frame, entries_of, is_of, begun, next, run, opening}
use Rattle.claims_world.specs.Watched.{Watched}
use Rattle.law_translator.specs.Premises.{FollowsRow, Fair, FairAll}
use Rattle.claims_world.specs.KeepsUp.{KeepsUp, AllKeepUp}
use Rattle.law_translator.proofs.Keys.{distinct_snoc, all_in_snoc}
use Rattle.law_translator.proofs.Sums.{due_fits, sorted_snoc}
use Rattle.law_translator.proofs.Owing.{Came, unseen, partial, ended, Owing, called_ended, unstuffed_same, no_stuff, not_both}
use Rattle.law_translator.proofs.Work.{keys_of, AllOwe, keys_worked, work_keeps}
use Rattle.law_translator.proofs.Holds.{Holds}
use Rattle.law_translator.proofs.Replans.{replanned}
use Rattle.law_translator.proofs.Results.{result_is_there}
use Rattle.law_translator.proofs.Starts.{fresh_owes, complete_all, join_all, comes_of, all_without, all_snoc, keys_given, keys_joined, keys_without, keys_snoc, all_begun, distinct_without, members_without, sorted_without, by_without, absent}

pub opening_holds : (p : Plan) → Fits p → Holds (opening p)
opening_holds p fits = record { fits = fits; sorted = tt; distinct = tt; members = tt; owe = tt }

-- the keys stay
same_keys : (f : Frame) (now : ℕ) (ws : List Watched) → Holds f → keys_of ws ≡ keys_of f.watched → AllOwe f.plan now ws
    → Holds (record f { now = now; watched = ws })
same_keys f now ws h e owe = record {
  fits = h.fits;
  sorted = rw e h.sorted;
  distinct = rw e h.distinct;
  members = rw e h.members;
  owe = owe;
}

start_keeps : (row : StartRow) (f : Frame) (ask : Ask) (bytes : List ℕ) (stuff : ℕ) → stuff ≤ 0 → Holds f
    → FollowsRow row f.plan f.now ask (length bytes) (entries_of f.watched)
    → Holds (record f { watched = begun row ask bytes stuff f.watched })
start_keeps Enters f ask bytes stuff none h follows =
    let k : Key = key_of ask in
    let left : List Watched = without_first (is_of k) f.watched in
    let e : keys_of left ≡ without_first (λ x. is_same_key x k) (keys_of f.watched) = keys_without k f.watched in
    let all : keys_of (left ++ record { entry = fresh ask bytes stuff; gaps = 0 } ∷ []) ≡ without_first (λ x. is_same_key x k)
    (keys_of f.watched) ++ k ∷ [] =
    keys_snoc left (record { entry = fresh ask bytes stuff; gaps = 0 }) ∙ ap (λ (ks : List Key). ks ++ k ∷ []) e
    in
    record {
      fits = h.fits;
      sorted =
          rw all (sorted_snoc f.plan f.now k _ (sorted_without (λ x. is_same_key x k) f.plan _ h.sorted)
          (by_without (λ x. is_same_key x k) f.plan f.now _ (all_begun 0 f.plan f.now f.watched
          (comes_of f.plan f.now f.watched h.owe))) follows.on_time);
      distinct = rw all (distinct_snoc k _ (distinct_without (λ x. is_same_key x k) _ h.distinct) (absent k _ h.distinct));
      members = rw all (all_in_snoc k _ f.plan.keys (members_without (λ x. is_same_key x k) _ f.plan.keys h.members) follows.placed);
      owe =
          all_snoc (Owing f.plan f.now) left _ (all_without (Owing f.plan f.now) k f.watched h.owe)
          (fresh_owes f.plan f.now ask bytes stuff none follows);
    }
start_keeps Joins f ask bytes stuff none h follows =
    same_keys f f.now _ h (keys_joined (key_of ask) ask bytes f.watched) (join_all f.plan f.now ask bytes f.watched h.owe follows)
start_keeps Forgotten f ask bytes stuff none h follows = h

pub keeps : (f : Frame) (event : Event) → Holds f → Fair 0 event f → Holds (next f event)
keeps f (Start ask bytes stuff) h fair =
    start_keeps (start_row ask (length bytes) (entries_of f.watched)) f ask bytes stuff fair.0 h fair.1
keeps f (Complete key) h fair =
    same_keys f f.now _ h (keys_given key f.watched) (complete_all f.plan f.now key f.watched h.owe)
keeps f (Work replies) h fair =
    same_keys f (f.now + 1) _ h (keys_worked 188 replies f.watched) (work_keeps f.plan h.fits f.now 188 replies f.watched h.owe h.sorted
    h.distinct h.members (due_fits f.plan h.fits f.now (keys_of f.watched) h.members h.distinct))
keeps f (Drop plan) h fair = opening_holds plan fair
keeps f (Replan plan) h fair = replanned f plan h fair.0 fair.1
keeps f Clear h fair = record { fits = h.fits; sorted = tt; distinct = tt; members = tt; owe = tt }

pub keeps_all : (events : List Event) (f : Frame) → Holds f → FairAll 0 events f → Holds (run events f)
keeps_all [] f h fair = h
keeps_all (event ∷ events) f h fair = keeps_all events (next f event) (keeps f event h fair.0) fair.1

-- ---- what is owed is what is promised

whole_done : (p : Plan) (k : Key) (ask : Ask) (b : Brought) (g now d : ℕ) → b.whole ≡ true → Came p k ask b g (now - 1)
    → d ≤ called ask b → min (laid p k (now - 1)) (called ask b + 188 * g) ≤ d + 188 * g → p.times k ≤ laid p k (now - 1)
    → d ≡ called ask b
whole_done p k ask b g now d whole (unseen is none ahead) below kept all =
    absurd (not_both b whole (ap (λ (x : Brought). x.whole) is))
whole_done p k ask b g now d whole (partial lacks _ _ _ _) below kept all = absurd (not_both b whole lacks)
whole_done p k ask b g now d whole (ended _ fits begun) below kept all =
    let c : called ask b ≡ work_of ask b.bytes = called_ended ask b whole in
    done_of (p.times k) (188 * (now - 1 - p.first k)) (called ask b) d g below kept all (omega arith)
  where
    done_of : (a l c d g : ℕ) → d ≤ c → min (min a l) (c + 188 * g) ≤ d + 188 * g → a ≤ min a l → c + 188 * g ≤ a → d ≡ c
    done_of a l c d g below kept all fits = omega arith

pub owed_kept : (p : Plan) (now : ℕ) (w : Watched) → Owing p now w → KeepsUp p now w
owed_kept p now w o =
    let plain : called_for w.entry ≡ called_unstuffed w.entry = unstuffed_same (called_unstuffed w.entry) w.entry.stuff
    (no_stuff p now w o.comes) in
    let below : w.entry.done ≤ called_for w.entry = subst (λ (n : ℕ). w.entry.done ≤ n) (sym plain) o.below in
    let kept = subst (λ (n : ℕ). min (laid p w.entry.key (now - 1)) (n + 188 * w.gaps) ≤ w.entry.done + 188 * w.gaps) (sym plain) o.kept
    in
    let whole = λ (h : w.entry.heard.whole ≡ true) (all : p.times w.entry.key ≤ laid p w.entry.key (now - 1)).
    whole_done p w.entry.key w.entry.ask w.entry.heard w.gaps now w.entry.done h o.comes.heard o.below o.kept all ∙ sym plain
    in
    record {
      enough = kept;
      no_more = below;
      whole = whole;
      answered = λ kind h all. result_is_there 0 p now w o.comes (whole h all) kind h;
    }

pub all_kept : (p : Plan) (now : ℕ) (ws : List Watched) → AllOwe p now ws → AllKeepUp p now ws
all_kept p now [] owe = tt
all_kept p now (w ∷ ws) owe = (owed_kept p now w owe.0, all_kept p now ws owe.1)

pub keeps_up_with_plans : (p : Plan) → Fits p → (events : List Event) → FairAll 0 events (opening p)
    → AllKeepUp (run events (opening p)).plan (run events (opening p)).now (run events (opening p)).watched
keeps_up_with_plans p fits events fair = all_kept _ _ _ (keeps_all events (opening p) (opening_holds p fits) fair).owe
