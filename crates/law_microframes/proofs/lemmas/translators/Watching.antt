-- Each event of a pipeline, watched by a count for each key.
use Rattle.std.proofs.Common.{◌≡◌, ℕ, ◌+◌, ◌-◌, ◌*◌, ◌≤◌, Bool, true, false, List, [], ◌∷◌, ◌++◌, length, Some, refl, sym, ◌∙◌, ap, subst, inl, inr, arith}
use Rattle.std.specs.Prelude.{◌||◌, not, nat_lt}
use Rattle.std.specs.List.{AllByRecursion, find}
use Rattle.std.proofs.lemmas.Bool.{cases_Bool}
use Rattle.law_translator.proofs.Common.{same_key as itself}
use Rattle.usb_base.specs.declared.packets.Ask.{Ask}
use Rattle.usb_base.specs.declared.packets.Reply.{Reply}
use Rattle.hub_keys.specs.Keys.{key_of, is_same_key}
use Rattle.hub_keys.specs.declared.key.Key.{Key}
use Rattle.tt_pipeline.specs.declared.entry.Brought.{Brought}
use Rattle.tt_pipeline.specs.declared.entry.Entry.{Entry}
use Rattle.tt_pipeline.specs.declared.rows.AnswerRow.{AnswerRow}
use Rattle.tt_pipeline.specs.declared.rows.AnswerRow.TheVariants as rows
use Rattle.tt_pipeline.specs.declared.rows.StartRow.{StartRow}
use Rattle.tt_pipeline.specs.declared.rows.StartRow.TheVariants.{Enters, Joins, Forgotten}
use Rattle.tt_pipeline.specs.Answers.{answer_row, given_at, given}
use Rattle.tt_pipeline.specs.Starting.{has_key, with_first, without_first, without, at_key, start_row, after_start, started}
use Rattle.tt_pipeline.specs.Work.{fresh, joined, moved, is_due, answered, called}
use Rattle.tt_pipeline.specs.Working.{budget, used_at, turned, turned_all, first_reply, later_replies, reply_at, wire_turned, entries_after}
use Rattle.law_translator.specs.Plans.{Fits}
use Rattle.claims_world.specs.Plans.{Plan}
use Rattle.law_translator.specs.Frames.{Event, Start, Complete, Work, Replan, Clear, Frame, is_of, changed, begun, worked_all, next, opening, entries_of}
use Rattle.claims_world.specs.Watched.{Watched, gap_between, gap_of}
use Rattle.law_translator.specs.Premises.{In, Fair, Follows, AllLaidAs}
use Rattle.law_translator.proofs.Keys.{Distinct, same_key}
use Rattle.law_translator.proofs.Owing.{Grew, same, more, Coming, called_partial}
use Rattle.law_translator.proofs.Work.{keys_of, All}
use Rattle.claims_world.specs.Gaps.{is_seen, gaps_at, watched_one, watched_of, gaps_more, gaps_worked}

-- ---- what is kept by the events of a frame

abbrev pub StartIsOwn : (Key → Type 0) → Event → Type 0
StartIsOwn Q (Start ask bytes stuff) = Q (key_of ask)
StartIsOwn Q _ = Unit {0}

-- where Q tells of the key of each start
pub record IsKept (most : ℕ) (Q : Key → Type 0) (H : Frame → Type 0) : Type 0 where
  pub opens : (p : Plan) → Fits p → H (opening p)
  pub keeps : (f : Frame) (event : Event) → H f → Fair most event f → StartIsOwn Q event → H (next f event)
  pub distinct : (f : Frame) → H f → Distinct (keys_of f.watched)
  pub comes : (f : Frame) → H f → All (Coming most f.plan f.now) f.watched

-- ---- the entries are those that are watched

pub entries_back : (g : Key → ℕ) (es : List Entry) → entries_of (watched_of g es) ≡ es
entries_back g [] = refl
entries_back g (e ∷ es) = ap (λ (xs : List Entry). e ∷ xs) (entries_back g es)

snoc_watched : (g : Key → ℕ) (es : List Entry) (e : Entry) → watched_of g (es ++ e ∷ []) ≡ watched_of g es ++ watched_one g e ∷ []
snoc_watched g [] e = refl
snoc_watched g (x ∷ xs) e = ap (λ (ws : List Watched). watched_one g x ∷ ws) (snoc_watched g xs e)

without_watched : (g : Key → ℕ) (k : Key) (es : List Entry)
    → without_first (is_of k) (watched_of g es) ≡ watched_of g (without_first (has_key k) es)
without_watched g k [] = refl
without_watched g k (e ∷ es) =
    elim (cases_Bool (has_key k e)) [
      | inl on ↦ rw on refl
      | inr off ↦ rw off (ap (λ (ws : List Watched). watched_one g e ∷ ws) (without_watched g k es))
    ]

with_watched : (g : Key → ℕ) (k : Key) (f : Entry → Entry) (es : List Entry) → ((e : Entry) → gaps_at g (f e) ≡ gaps_at g e)
    → with_first (is_of k) (changed f) (watched_of g es) ≡ watched_of g (with_first (has_key k) f es)
with_watched g k f [] stays = refl
with_watched g k f (e ∷ es) stays =
    elim (cases_Bool (has_key k e)) [
      | inl on ↦ rw on (ap (λ (n : ℕ). record { entry = f e; gaps = n } ∷ watched_of g es) (sym (stays e)))
      | inr off ↦ rw off (ap (λ (ws : List Watched). watched_one g e ∷ ws) (with_watched g k f es stays))
    ]

given_gaps : (g : Key → ℕ) (row : AnswerRow) (e : Entry) → gaps_at g (given_at row e) ≡ gaps_at g e
given_gaps g rows.NotYet e = refl
given_gaps g rows.Result e = refl
given_gaps g rows.Unheard e = refl
given_gaps g rows.More e = refl
given_gaps g rows.Last e = refl

begun_watched : (g : Key → ℕ) (row : StartRow) (ask : Ask) (bytes : List ℕ) (stuff : ℕ) (es : List Entry)
    → begun row ask bytes stuff (watched_of g es) ≡ watched_of g (after_start row ask bytes stuff es)
begun_watched g Enters ask bytes stuff es =
    ap (λ (ws : List Watched). ws ++ record { entry = fresh ask bytes stuff; gaps = 0 } ∷ []) (without_watched g (key_of ask) es)
    ∙ sym (snoc_watched g (without (key_of ask) es) (fresh ask bytes stuff))
begun_watched g Joins ask bytes stuff es = with_watched g (key_of ask) (joined ask bytes) es (λ e. refl)
begun_watched g Forgotten ask bytes stuff es = refl

-- ---- gaps at the work of a microframe

turned_gaps : (g : Key → ℕ) (b : Bool) (reply : Reply) (m : Entry) → gaps_at g (answered b reply m) ≡ gaps_at g m
turned_gaps g true reply m = refl
turned_gaps g false reply m = refl

unseen_parts : (whole : Bool) (n : ℕ) → (whole || nat_lt 0 n) ≡ false → (whole ≡ false) × (nat_lt 0 n ≡ false)
unseen_parts false n e = (refl, e)
unseen_parts true n e = absurd cc

-- what wasn't seen earlier
not_earlier : (p : Plan) (k : Key) (ask : Ask) (a b : Brought) (n : ℕ) → Grew p k ask a b n → is_seen b ≡ false → is_seen a ≡ false
not_earlier p k ask a b n (same is) none = ap is_seen (sym is) ∙ none
not_earlier p k ask a b n (more lacked fits rises no_gap) none =
    let u = unseen_parts b.whole b.parts none in
    let c = called_partial ask a lacked in
    let d = called_partial ask b u.0 in
    elim (cases_Bool (nat_lt 0 a.parts)) [
      | inl on ↦ absurd (no_parts a.parts b.parts (called ask a) (called ask b) on u.1 c d rises)
      | inr off ↦ rw (lacked, off) refl
    ]
  where
    no_parts : (i j c d : ℕ) → nat_lt 0 i ≡ true → nat_lt 0 j ≡ false → c ≡ 188 * i → d ≡ 188 * j → c ≤ d → ⊥
    no_parts i j c d on off ci dj le = grind arith

no_gap_unseen : (a b : Brought) → is_seen a ≡ false → gap_between a b ≡ 0
no_gap_unseen a b none =
    let u = unseen_parts a.whole a.parts none in
    elim (cases_Bool (not b.whole)) [ inl on ↦ rw (u.0, on, u.1) refl | inr off ↦ rw (u.0, off) refl ]

module _ (g h : Key → ℕ) where
  -- .. counted by the entry that is found at its key
  gaps_moved : (room : ℕ) (reply : Reply) (e : Entry) → h e.key ≡ gaps_at g e + gap_of e
      → (is_seen e.before ≡ false → is_seen e.heard ≡ false)
      → gaps_at h (turned room reply e) ≡ gaps_at g e + gap_of e
  gaps_moved room reply e counted earlier =
      turned_gaps h (is_due (moved room e)) reply (moved room e) ∙ elim (cases_Bool (is_seen e.before)) [
        | inl on ↦ rw on counted
        | inr off ↦
            let n = no_gap_unseen e.heard e.before (earlier off) in
            let z : gaps_at g e ≡ 0 = rw (earlier off) refl in
            rw off (omega (arith, n, z))
      ]

  abbrev IsCounted : Entry → Type 0
  IsCounted e = (h e.key ≡ gaps_at g e + gap_of e) × (is_seen e.before ≡ false → is_seen e.heard ≡ false)

  work_watched : (room : ℕ) (replies : List Reply) (es : List Entry) → AllByRecursion IsCounted es
      → worked_all room replies (watched_of g es) ≡ watched_of h (turned_all room replies es)
  work_watched room replies [] all = refl
  work_watched room replies (e ∷ es) all =
      ap (λ (n : ℕ). record { entry = turned room (first_reply replies) e; gaps = n } ∷ worked_all (room - used_at room e)
      (later_replies replies) (watched_of g es))
      (sym (gaps_moved room (first_reply replies) e all.0.0 all.0.1))
      ∙ ap (λ (ws : List Watched). watched_one h (turned room (first_reply replies) e) ∷ ws)
      (work_watched (room - used_at room e) (later_replies replies) es all.1)

-- ---- each entry is found at its key

abbrev IsFoundIn : List Entry → Entry → Type 0
IsFoundIn es e = find (has_key e.key) es ≡ Some e

others : (g : Key → ℕ) (k : Key) (es : List Entry) → (In k (keys_of (watched_of g es)) → ⊥)
    → AllByRecursion (λ e. is_same_key k e.key ≡ false) es
others g k [] none = tt
others g k (e ∷ es) none = (
  elim (cases_Bool (is_same_key k e.key)) [ inl on ↦ absurd (none (inl (same_key k e.key on))) | inr off ↦ off ],
  others g k es (λ m. none (inr m)),
)

found_later : (x : Entry) (xs es : List Entry) → AllByRecursion (IsFoundIn xs) es → AllByRecursion (λ e. is_same_key x.key e.key ≡ false) es
    → AllByRecursion (IsFoundIn (x ∷ xs)) es
found_later x xs [] all off = tt
found_later x xs (e ∷ es) all off = (rw off.0 all.0, found_later x xs es all.1 off.1)

each_found : (g : Key → ℕ) (es : List Entry) → Distinct (keys_of (watched_of g es)) → AllByRecursion (IsFoundIn es) es
each_found g [] d = tt
each_found g (e ∷ es) d = (rw (itself e.key) refl, found_later e es es (each_found g es d.1) (others g e.key es d.0))

counted_all : (most : ℕ) (p : Plan) (now : ℕ) (g : Key → ℕ) (all es : List Entry) → AllByRecursion (IsFoundIn all) es
    → All (Coming most p now) (watched_of g es) → AllByRecursion (IsCounted g (gaps_worked g all)) es
counted_all most p now g all [] found comes = tt
counted_all most p now g all (e ∷ es) found comes = (
  (ap (gaps_more g) found.0, not_earlier p e.key e.ask e.heard e.before _ comes.0.grew),
  counted_all most p now g all es found.1 comes.1,
)

-- ---- the work over a wire is an event

module _ {W : Type 0} (reply_of : W → Ask → List ℕ → Reply) (wire_after : W → Ask → List ℕ → W) where
  abbrev pub replies_by : ℕ → List Entry → W → List Reply
  replies_by room [] w = []
  replies_by room (e ∷ es) w =
      reply_at reply_of wire_after room e w ∷ replies_by (room - used_at room e) es (wire_turned reply_of wire_after room e w)

  pub worked_as : (room : ℕ) (es : List Entry) (w : W) → entries_after reply_of wire_after room es w ≡ turned_all room
      (replies_by room es w) es
  worked_as room [] w = refl
  worked_as room (e ∷ es) w =
      ap (λ (xs : List Entry). turned room (reply_at reply_of wire_after room e w) e ∷ xs)
      (worked_as (room - used_at room e) es (wire_turned reply_of wire_after room e w))

-- ---- each event

module _ (most : ℕ) (Q : Key → Type 0) (H : Frame → Type 0) (is : IsKept most Q H) where
  module _ (p : Plan) (now : ℕ) (g : Key → ℕ) (es : List Entry) where
    abbrev Here : Type 0
    Here = H (record { plan = p; now = now; watched = watched_of g es })

    pub starts_keep : (ask : Ask) (bytes : List ℕ) (stuff : ℕ) → stuff ≤ most → Follows p now ask (length bytes) es → Q (key_of ask) → Here
        → H (record { plan = p; now = now; watched = watched_of g (started ask bytes stuff es) })
    starts_keep ask bytes stuff few follows own h =
        let back = entries_back g es in
        let fair = subst (λ (xs : List Entry). Follows p now ask (length bytes) xs) (sym back) follows in
        let one = is.keeps _ (Start ask bytes stuff) h (few, fair) own in
        let row : start_row ask (length bytes) (entries_of (watched_of g es)) ≡ start_row ask (length bytes) es = ap
        (start_row ask (length bytes)) back in
        let same = ap (λ (r : StartRow). begun r ask bytes stuff (watched_of g es)) row
        ∙ begun_watched g (start_row ask (length bytes) es) ask bytes stuff es in
        subst (λ (ws : List Watched). H (record { plan = p; now = now; watched = ws })) same one

    pub completes_keep : (k : Key) → Here → H (record { plan = p; now = now; watched = watched_of g (at_key k given es) })
    completes_keep k h =
        subst (λ (ws : List Watched). H (record { plan = p; now = now; watched = ws }))
        (with_watched g k given es (λ e. given_gaps g (answer_row e) e)) (is.keeps _ (Complete k) h tt tt)

    pub clears_keep : Here → H (record { plan = p; now = now; watched = [] })
    clears_keep h = is.keeps _ Clear h tt tt

    pub works_keep : (replies : List Reply) → Here
        → H (record { plan = p; now = now + 1; watched = watched_of (gaps_worked g es) (turned_all budget replies es) })
    works_keep replies h =
        let found = each_found g es (is.distinct _ h) in
        let all = counted_all most p now g es es found (is.comes _ h) in
        subst (λ (ws : List Watched). H (record { plan = p; now = now + 1; watched = ws }))
        (work_watched g (gaps_worked g es) budget replies es all) (is.keeps _ (Work replies) h tt tt)

    -- the plan changes, and lays what has an entry as before
    pub replans_keep : (q : Plan) → Fits q → AllLaidAs p q (watched_of g es) → Here
        → H (record { plan = q; now = now; watched = watched_of g es })
    replans_keep q fits laid h = is.keeps _ (Replan q) h (fits, laid) tt
