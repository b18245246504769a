-- What starts and complete-splits make of what is owed.
use Rattle.std.proofs.Common.{◌≡◌, ℕ, ◌+◌, ◌-◌, ◌*◌, ◌<◌, ◌≤◌, min, Bool, true, false, if◌then◌else◌, List, [], ◌∷◌, ◌++◌, length, refl, sym, ◌∙◌, ap, subst, inl, inr, arith, zero-add}
use Rattle.std.specs.Prelude.{◌&&◌, ◌==◌}
use Rattle.std.specs.List.{find}
use Rattle.std.proofs.lemmas.Bool.{eqb-true}
use Rattle.law_common.proofs.Booleans.{on_or_off}
use Rattle.law_translator.proofs.Common.{same_key as itself}
use Rattle.usb_base.specs.declared.packets.Ask.{Ask}
use Rattle.usb_base.specs.declared.packets.EpKind.{EpKind}
use Rattle.usb_base.specs.declared.packets.EpKind.TheVariants.{Iso}
use Rattle.usb_base.specs.declared.packets.DataPart.{DataPart}
use Rattle.usb_base.specs.declared.packets.DataPart.TheVariants.{All, Begin, Middle, End}
use Rattle.usb_base.specs.declared.packets.Pid.{Pid}
use Rattle.usb_base.specs.declared.packets.Pid.TheVariants as Packets
use Rattle.usb_base.specs.declared.packets.Speed.TheVariants.{Full, High}
use Rattle.usb_base.specs.declared.packets.Split.{Split}
use Rattle.usb_base.specs.Cost.{byte_times}
use Rattle.hub_keys.specs.Asks.{work_of, counted_bytes}
use Rattle.hub_keys.specs.Keys.{key_of, is_same_key}
use Rattle.hub_keys.specs.declared.key.Key.{Key}
use Rattle.tt_pipeline.specs.declared.entry.Brought.{Brought}
use Rattle.tt_pipeline.specs.declared.entry.Entry.{Entry}
use Rattle.tt_pipeline.specs.declared.entry.Exchange.{Exchange}
use Rattle.tt_pipeline.specs.declared.entry.Exchange.TheVariants.{Ahead, Made}
use Rattle.tt_pipeline.specs.declared.rows.AnswerRow.{AnswerRow}
use Rattle.tt_pipeline.specs.declared.rows.AnswerRow.TheVariants as Rows
use Rattle.tt_pipeline.specs.Answers.{given, given_at, answer_row}
use Rattle.tt_pipeline.specs.Starting.{has_key, with_first, without_first}
use Rattle.tt_pipeline.specs.Work.{part_at, asked_part, nothing_brought, brought_by, one_more_part, fresh, joined, appended, called, unstuffed_done, is_ripe, is_ahead, is_iso_out}
use Rattle.claims_world.specs.Plans.{Plan}
use Rattle.law_translator.specs.Frames.{entries_of, is_of, changed}
use Rattle.claims_world.specs.Watched.{Watched, gap_between}
use Rattle.law_translator.specs.Premises.{In, FirstPart, IsFirst, LaterPart, IsLater, LaterOf}
use Rattle.law_translator.proofs.Keys.{Distinct, AllIn, same_key}
use Rattle.law_translator.proofs.Sums.{AllLater, Sorted, AllBy}
use Rattle.law_translator.proofs.Owing.{Came, unseen, partial, ended, same, more, Seen, Coming, Owing, before_gaps, came_gaps, called_partial, not_both}
use Rattle.law_translator.proofs.Work.{keys_of, All as Alls, AllOwe}

-- ---- a first start

-- a start that carries a first part is an isochronous OUT, whose byte-times at full speed are 9 more than its bytes
begins_plain : (kind : EpKind) (pid : Pid) (split : Split) (limit n : ℕ) → part_at kind pid split ≡ Begin
    → byte_times Full kind (counted_bytes pid limit n) ≡ n + 9
begins_plain Iso Packets.In split limit n h = absurd cc
begins_plain Iso _ split limit n h = refl
begins_plain _ pid split limit n h = absurd cc

plain_of : (ask : Ask) → asked_part ask ≡ Begin → ask.speed ≡ Full → (n : ℕ) → work_of ask n ≡ n + 9
plain_of ask h speed n = rw speed (begins_plain ask.kind ask.pid ask.split ask.limit n h)

not_ripe : (b : Bool) (e : Entry) → e.heard.whole ≡ false → e.done ≡ 0 → is_ripe b e ≡ false
not_ripe true e w d = rw w refl
not_ripe false e w d = rw d refl

abbrev fresh_with : DataPart → Ask → List ℕ → ℕ → Watched
fresh_with part ask bytes stuff =
    record { entry = record (fresh ask bytes stuff) { came = brought_by part (length bytes) nothing_brought }; gaps = 0 }

fresh_by : (most : ℕ) (p : Plan) (now : ℕ) (ask : Ask) (bytes : List ℕ) (stuff : ℕ) (part : DataPart) → stuff ≤ most
    → asked_part ask ≡ part
    → now ≡ p.first (key_of ask) → (ask.speed ≡ High → ⊥) → FirstPart part p (key_of ask) ask (length bytes)
    → Coming most p now (fresh_with part ask bytes stuff)
fresh_by most p now ask bytes stuff All bits is time classic fits =
    let n : ℕ = length bytes in
    let z : work_of ask (0 + n) ≤ p.times (key_of ask) = rw (zero-add n) fits in
    record {
      heard = unseen refl refl (omega arith);
      before = unseen refl refl (omega arith);
      came = ended refl (omega arith) (omega arith);
      seen = inl refl;
      grew = same refl;
      grows = more refl (omega arith) (omega arith) refl;
      within = z;
      bits = bits;
      plain = λ some. absurd (omega arith);
      classic = classic;
      asked = not_ripe (is_iso_out ask.kind ask.pid) (fresh_with All ask bytes stuff).entry refl refl;
    }
fresh_by most p now ask bytes stuff Begin bits is time classic (speed, size, fits) =
    record {
      heard = unseen refl refl (omega arith);
      before = unseen refl refl (omega arith);
      came = partial refl (omega arith) (omega arith) (omega arith) (omega arith);
      seen = inr (omega arith);
      grew = same refl;
      grows = more refl (omega arith) (omega arith) refl;
      within = omega arith;
      bits = bits;
      plain = λ _. plain_of ask is speed;
      classic = classic;
      asked = not_ripe (is_iso_out ask.kind ask.pid) (fresh_with Begin ask bytes stuff).entry refl refl;
    }
fresh_by most p now ask bytes stuff Middle bits is time classic fits = absurd fits
fresh_by most p now ask bytes stuff End bits is time classic fits = absurd fits

pub fresh_comes : (most : ℕ) (p : Plan) (now : ℕ) (ask : Ask) (bytes : List ℕ) (stuff : ℕ) → stuff ≤ most
    → IsFirst p now ask (length bytes)
    → Coming most p now (record { entry = fresh ask bytes stuff; gaps = 0 })
fresh_comes most p now ask bytes stuff bits h =
    fresh_by most p now ask bytes stuff (asked_part ask) bits refl h.on_time h.classic h.part

nothing_laid : (a s u : ℕ) → u ≤ s → min (min a (188 * (u - s))) (188 * 0 + 188 * 0) ≤ 0 + 188 * 0
nothing_laid a s u h = omega arith

pub fresh_owes : (p : Plan) (now : ℕ) (ask : Ask) (bytes : List ℕ) (stuff : ℕ) → stuff ≤ 0 → IsFirst p now ask (length bytes)
    → Owing p now (record { entry = fresh ask bytes stuff; gaps = 0 })
fresh_owes p now ask bytes stuff none h = record {
  comes = fresh_comes 0 p now ask bytes stuff none h;
  below = omega arith;
  kept = let t = h.on_time in nothing_laid (p.times (key_of ask)) (p.first (key_of ask)) (now - 1) (omega arith);
  even = λ _. refl;
}

-- ---- a later part

due_same : (parts : Bool) (bytes : List ℕ) (x : Exchange) (e : Entry) → (is_ahead x && is_ripe parts e) ≡ false
    → (is_ahead (appended bytes x) && is_ripe parts e) ≡ false
due_same parts bytes (Ahead sent) e h = h
due_same parts bytes (Made reply) e h = refl

ripe_same : (parts : Bool) (e : Entry) (b : Brought) (x : Exchange)
    → is_ripe parts (record e { came = b; exchange = x }) ≡ is_ripe parts e
ripe_same true e b x = refl
ripe_same false e b x = refl

abbrev joined_with : DataPart → List ℕ → Watched → Watched
joined_with part bytes w = record w {
  entry = record w.entry { came = brought_by part (length bytes) w.entry.came; exchange = appended bytes w.entry.exchange };
}

parts_rise : (a b : Brought) → a.whole ≡ false → a.parts < b.parts → gap_between a b ≡ 0
parts_rise a b lacks less =
    elim (on_or_off (b.parts == a.parts)) [
      | inl t ↦ let e = eqb-true b.parts a.parts t in absurd (omega arith)
      | inr f ↦ gap_off _ (b.parts == a.parts) f
    ]
  where
    and_false : (x y : Bool) → y ≡ false → (x && y) ≡ false
    and_false true y h = h
    and_false false y h = refl

    gap_off : (x y : Bool) → y ≡ false → ◌≡◌ {A = ℕ} (if x && y then 1 else 0) 0
    gap_off x y h = rw (and_false x y h) refl

whole_rises : (a b : Brought) → a.whole ≡ false → b.whole ≡ true → gap_between a b ≡ 0
whole_rises a b lacks whole = rw (lacks, whole) refl

record Part_of (p : Plan) (now : ℕ) (w : Watched) : Type 0 where
  lacks : w.entry.before.whole ≡ false
  some : 0 < w.entry.before.parts
  count : 188 * w.entry.before.parts + 188 * before_gaps w ≡ 188 * (now - p.first w.entry.key)
  bytes : w.entry.before.bytes ≡ 188 * w.entry.before.parts
  begun : p.first w.entry.key < now
  parts : w.entry.came.parts ≡ w.entry.before.parts
  came_bytes : w.entry.came.bytes ≡ w.entry.before.bytes

part_by : (p : Plan) (now : ℕ) (w : Watched) → w.entry.came.whole ≡ false → w.entry.came ≡ w.entry.before → Seen w.entry.came
    → Came p w.entry.key w.entry.ask w.entry.before (before_gaps w) now → Part_of p now w
part_by p now w lacks one seen (unseen is none ahead) =
    let n : w.entry.came.parts ≡ 0 = ap (λ (x : Brought). x.parts) (one ∙ is) in
    elim seen [ inl h ↦ absurd (not_both w.entry.came h lacks) | inr h ↦ absurd (omega arith) ]
part_by p now w lacks one seen (partial lacked some count bytes begun) = record {
  lacks = lacked;
  some = some;
  count = count;
  bytes = bytes;
  begun = begun;
  parts = ap (λ (x : Brought). x.parts) one;
  came_bytes = ap (λ (x : Brought). x.bytes) one;
}
part_by p now w lacks one seen (ended whole fits begun) =
    let h : w.entry.came.whole ≡ true = ap (λ (x : Brought). x.whole) one ∙ whole in
    absurd (not_both w.entry.came h lacks)

rises_by_one : (n : ℕ) → n ≤ 7 → one_more_part n ≡ n + 1
rises_by_one n h = omega arith

few : (parts g now s : ℕ) → 188 * parts + 188 * g ≡ 188 * (now - s) → now < 8 → parts ≤ 7
few parts g now s h l = omega arith

join_middle : (most : ℕ) (p : Plan) (now : ℕ) (bytes : List ℕ) (w : Watched) → Coming most p now w → Part_of p now w → now < 8
    → length bytes ≡ 188 → 188 * (now - p.first w.entry.key) + 188 ≤ p.times w.entry.key → w.entry.came.whole ≡ false
    → Coming most p now (joined_with Middle bytes w)
join_middle most p now bytes w o h within size fits lacks =
    let new : Brought = brought_by Middle (length bytes) w.entry.came in
    let q : w.entry.before.parts ≤ 7 = few _ (before_gaps w) now (p.first w.entry.key) h.count within in
    let q' : w.entry.came.parts ≤ 7 = omega (arith, h.parts) in
    let r : new.parts ≡ w.entry.came.parts + 1 = rises_by_one w.entry.came.parts q' in
    let gap : gap_between w.entry.before new ≡ 0 = parts_rise w.entry.before new h.lacks (omega (arith, h.parts)) in
    let c : called w.entry.ask new ≡ 188 * new.parts = called_partial w.entry.ask new lacks in
    let c' : called w.entry.ask w.entry.before ≡ 188 * w.entry.before.parts = called_partial w.entry.ask w.entry.before h.lacks in
    let g : before_gaps w + gap_between w.entry.before new ≡ before_gaps w = omega arith in
    record {
      heard = o.heard;
      before = o.before;
      came =
          rw g (partial lacks (omega arith) (middle_count _ _ _ _ _ h.count (r ∙ ap (λ n. n + 1) h.parts) h.begun)
          (middle_bytes _ _ _ _ _ h.bytes h.came_bytes size (r ∙ ap (λ n. n + 1) h.parts)) (omega (arith, h.begun)));
      seen = inr (omega arith);
      grew = o.grew;
      grows =
          more h.lacks (rw (g, c) (middle_fits _ _ _ _ _ _ h.count (r ∙ ap (λ n. n + 1) h.parts) fits))
          (rw (c, c') (omega (arith, h.parts))) gap;
      within = rw c (middle_within _ _ _ _ _ _ h.count (r ∙ ap (λ n. n + 1) h.parts) fits);
      bits = o.bits;
      plain = λ _. o.plain (omega (arith, h.parts, h.some));
      classic = o.classic;
      asked =
          rw (ripe_same (is_iso_out w.entry.ask.kind w.entry.ask.pid) w.entry new (appended bytes w.entry.exchange))
          (due_same (is_iso_out w.entry.ask.kind w.entry.ask.pid) bytes w.entry.exchange w.entry o.asked);
    }
  where
    middle_count : (b g now s n : ℕ) → 188 * b + 188 * g ≡ 188 * (now - s) → n ≡ b + 1 → s < now → 188 * n + 188 * g ≡ 188 * (now + 1 - s)
    middle_count b g now s n h i l = omega arith

    middle_bytes : (bb b cb size n : ℕ) → bb ≡ 188 * b → cb ≡ bb → size ≡ 188 → n ≡ b + 1 → cb + size ≡ 188 * n
    middle_bytes bb b cb size n h i j k = omega arith

    middle_within : (b g now s n a : ℕ) → 188 * b + 188 * g ≡ 188 * (now - s) → n ≡ b + 1 → 188 * (now - s) + 188 ≤ a → 188 * n ≤ a
    middle_within b g now s n a h i l = omega arith

    middle_fits : (b g now s n a : ℕ) → 188 * b + 188 * g ≡ 188 * (now - s) → n ≡ b + 1 → 188 * (now - s) + 188 ≤ a
        → 188 * n + 188 * g ≤ a
    middle_fits b g now s n a h i l = omega arith

join_end : (most : ℕ) (p : Plan) (now : ℕ) (bytes : List ℕ) (w : Watched) → Coming most p now w → Part_of p now w
    → 188 * (now - p.first w.entry.key) + (length bytes + 9) ≤ p.times w.entry.key → Coming most p now (joined_with End bytes w)
join_end most p now bytes w o h fits =
    let new : Brought = brought_by End (length bytes) w.entry.came in
    let gap : gap_between w.entry.before new ≡ 0 = whole_rises w.entry.before new h.lacks refl in
    let c' : called w.entry.ask w.entry.before ≡ 188 * w.entry.before.parts = called_partial w.entry.ask w.entry.before h.lacks in
    let size : work_of w.entry.ask new.bytes ≡ new.bytes + 9 = o.plain (omega (arith, h.parts, h.some)) new.bytes in
    let g : before_gaps w + gap_between w.entry.before new ≡ before_gaps w = omega arith in
    let within : work_of w.entry.ask new.bytes + 188 * before_gaps w ≤ p.times w.entry.key =
    rw size (end_fits _ _ _ _ _ _ _ _ h.count h.bytes h.came_bytes fits)
    in
    record {
      heard = o.heard;
      before = o.before;
      came = rw g (ended refl within (omega (arith, h.begun)));
      seen = inl refl;
      grew = o.grew;
      grows = more h.lacks (rw g within) (rw (c', size) (end_rises _ _ _ _ h.bytes h.came_bytes)) gap;
      within = omega (arith, within);
      bits = o.bits;
      plain = o.plain;
      classic = o.classic;
      asked =
          rw (ripe_same (is_iso_out w.entry.ask.kind w.entry.ask.pid) w.entry new (appended bytes w.entry.exchange))
          (due_same (is_iso_out w.entry.ask.kind w.entry.ask.pid) bytes w.entry.exchange w.entry o.asked);
    }
  where
    end_fits : (b g now s bb cb n a : ℕ) → 188 * b + 188 * g ≡ 188 * (now - s) → bb ≡ 188 * b → cb ≡ bb → 188 * (now - s) + (n + 9) ≤ a
        → cb + n + 9 + 188 * g ≤ a
    end_fits b g now s bb cb n a h i j l = omega arith

    end_rises : (b bb cb n : ℕ) → bb ≡ 188 * b → cb ≡ bb → 188 * b ≤ cb + n + 9
    end_rises b bb cb n h i = omega arith

join_by : (most : ℕ) (p : Plan) (now : ℕ) (bytes : List ℕ) (w : Watched) (part : DataPart) → Coming most p now w
    → w.entry.came.whole ≡ false → w.entry.came ≡ w.entry.before → now < 8 → LaterPart part p now w.entry.key (length bytes)
    → Coming most p now (joined_with part bytes w)
join_by most p now bytes w All o lacks one within h = absurd h
join_by most p now bytes w Begin o lacks one within h = absurd h
join_by most p now bytes w Middle o lacks one within (size, fits) =
    join_middle most p now bytes w o (part_by p now w lacks one o.seen o.before) within size fits lacks
join_by most p now bytes w End o lacks one within h = join_end most p now bytes w o (part_by p now w lacks one o.seen o.before) h

pub join_comes : (most : ℕ) (p : Plan) (now : ℕ) (ask : Ask) (bytes : List ℕ) (w : Watched) → has_key (key_of ask) w.entry ≡ true
    → Coming most p now w → IsLater p now ask (length bytes) w.entry → Coming most p now (changed (joined ask bytes) w)
join_comes most p now ask bytes w is o h =
    let key : w.entry.key ≡ key_of ask = same_key w.entry.key (key_of ask) is in
    let part = subst (λ (k : Key). LaterPart (asked_part ask) p now k (length bytes)) (sym key) h.part in
    join_by most p now bytes w (asked_part ask) o h.lacks h.one h.within part

pub join_owes : (p : Plan) (now : ℕ) (ask : Ask) (bytes : List ℕ) (w : Watched) → has_key (key_of ask) w.entry ≡ true → Owing p now w
    → IsLater p now ask (length bytes) w.entry → Owing p now (changed (joined ask bytes) w)
join_owes p now ask bytes w is o h = record {
  comes = join_comes 0 p now ask bytes w is o.comes h;
  below = o.below;
  kept = o.kept;
  even = o.even;
}

-- ---- a complete-split

ripe_given : (parts : Bool) (e : Entry) (n : ℕ) (b : Bool) → is_ripe parts (record e { delivered = n; ended = b }) ≡ is_ripe parts e
ripe_given true e n b = refl
ripe_given false e n b = refl

given_by : (most : ℕ) (p : Plan) (now : ℕ) (w : Watched) (n : ℕ) (b : Bool) → Coming most p now w
    → Coming most p now (record w { entry = record w.entry { delivered = n; ended = b } })
given_by most p now w n b o = record {
  heard = o.heard;
  before = o.before;
  came = o.came;
  seen = o.seen;
  grew = o.grew;
  grows = o.grows;
  within = o.within;
  bits = o.bits;
  plain = o.plain;
  classic = o.classic;
  asked = rw (ripe_given (is_iso_out w.entry.ask.kind w.entry.ask.pid) w.entry n b) o.asked;
}

pub given_comes : (most : ℕ) (p : Plan) (now : ℕ) (w : Watched) (r : AnswerRow) → Coming most p now w
    → Coming most p now (record w { entry = given_at r w.entry })
given_comes most p now w Rows.NotYet o = o
given_comes most p now w Rows.Result o = o
given_comes most p now w Rows.Unheard o = o
given_comes most p now w Rows.More o = given_by most p now w (unstuffed_done w.entry - 9) w.entry.ended o
given_comes most p now w Rows.Last o = given_by most p now w w.entry.delivered true o

given_owes : (p : Plan) (now : ℕ) (w : Watched) (r : AnswerRow) → Owing p now w → Owing p now (record w { entry = given_at r w.entry })
given_owes p now w Rows.NotYet o = o
given_owes p now w Rows.Result o = o
given_owes p now w Rows.Unheard o = o
given_owes p now w Rows.More o = record { comes = given_comes 0 p now w Rows.More o.comes; below = o.below; kept = o.kept; even = o.even }
given_owes p now w Rows.Last o = record { comes = given_comes 0 p now w Rows.Last o.comes; below = o.below; kept = o.kept; even = o.even }

pub key_given : (r : AnswerRow) (e : Entry) → (given_at r e).key ≡ e.key
key_given Rows.NotYet e = refl
key_given Rows.Result e = refl
key_given Rows.Unheard e = refl
key_given Rows.More e = refl
key_given Rows.Last e = refl

-- ---- all entries

module _ (P : Watched → Type 0) where
  pub all_given : (k : Key) (ws : List Watched) → ((w : Watched) → P w → P (changed given w)) → Alls P ws
      → Alls P (with_first (is_of k) (changed given) ws)
  all_given k [] step all = tt
  all_given k (w ∷ ws) step all =
      elim (on_or_off (is_of k w)) [
        | inl t ↦ rw t (step w all.0, all.1)
        | inr f ↦ rw f (all.0, all_given k ws step all.1)
      ]

  pub all_joined : (p : Plan) (now : ℕ) (ask : Ask) (bytes : List ℕ) (ws : List Watched)
      → ((w : Watched) → has_key (key_of ask) w.entry ≡ true → P w → IsLater p now ask (length bytes) w.entry
      → P (changed (joined ask bytes) w)) → Alls P ws → LaterOf p now ask (length bytes) (find (has_key (key_of ask)) (entries_of ws))
      → Alls P (with_first (is_of (key_of ask)) (changed (joined ask bytes)) ws)
  all_joined p now ask bytes [] step all h = tt
  all_joined p now ask bytes (w ∷ ws) step all h =
      elim (on_or_off (is_of (key_of ask) w)) [
        | inl t ↦ rw t (step w t all.0 (rw t at h), all.1)
        | inr f ↦ rw f (all.0, all_joined p now ask bytes ws step all.1 (rw f at h))
      ]

  pub all_without : (k : Key) (ws : List Watched) → Alls P ws → Alls P (without_first (is_of k) ws)
  all_without k [] all = tt
  all_without k (w ∷ ws) all =
      elim (on_or_off (is_of k w)) [
        | inl t ↦ rw t all.1
        | inr f ↦ rw f (all.0, all_without k ws all.1)
      ]

  pub all_snoc : (ws : List Watched) (w : Watched) → Alls P ws → P w → Alls P (ws ++ w ∷ [])
  all_snoc [] w all one = (one, tt)
  all_snoc (x ∷ xs) w all one = (all.0, all_snoc xs w all.1 one)

pub complete_all : (p : Plan) (now : ℕ) (k : Key) (ws : List Watched) → AllOwe p now ws
    → AllOwe p now (with_first (is_of k) (changed given) ws)
complete_all p now k ws owe = all_given (Owing p now) k ws (λ w o. given_owes p now w (answer_row w.entry) o) owe

pub join_all : (p : Plan) (now : ℕ) (ask : Ask) (bytes : List ℕ) (ws : List Watched) → AllOwe p now ws
    → LaterOf p now ask (length bytes) (find (has_key (key_of ask)) (entries_of ws))
    → AllOwe p now (with_first (is_of (key_of ask)) (changed (joined ask bytes)) ws)
join_all p now ask bytes ws owe h = all_joined (Owing p now) p now ask bytes ws (λ w t o l. join_owes p now ask bytes w t o l) owe h

pub comes_of : (p : Plan) (now : ℕ) (ws : List Watched) → AllOwe p now ws → Alls (Coming 0 p now) ws
comes_of p now [] owe = tt
comes_of p now (w ∷ ws) owe = (owe.0.comes, comes_of p now ws owe.1)

-- ---- their keys

pub keys_given : (k : Key) (ws : List Watched) → keys_of (with_first (is_of k) (changed given) ws) ≡ keys_of ws
keys_given k [] = refl
keys_given k (w ∷ ws) =
    elim (on_or_off (is_of k w)) [
      | inl t ↦ rw t (ap (λ (x : Key). x ∷ keys_of ws) (key_given (answer_row w.entry) w.entry))
      | inr f ↦ rw f (ap (λ (xs : List Key). w.entry.key ∷ xs) (keys_given k ws))
    ]

pub keys_joined : (k : Key) (ask : Ask) (bytes : List ℕ) (ws : List Watched)
    → keys_of (with_first (is_of k) (changed (joined ask bytes)) ws) ≡ keys_of ws
keys_joined k ask bytes [] = refl
keys_joined k ask bytes (w ∷ ws) =
    elim (on_or_off (is_of k w)) [
      | inl t ↦ rw t refl
      | inr f ↦ rw f (ap (λ (xs : List Key). w.entry.key ∷ xs) (keys_joined k ask bytes ws))
    ]

pub keys_without : (k : Key) (ws : List Watched)
    → keys_of (without_first (is_of k) ws) ≡ without_first (λ x. is_same_key x k) (keys_of ws)
keys_without k [] = refl
keys_without k (w ∷ ws) =
    elim (on_or_off (is_of k w)) [
      | inl t ↦ rw t refl
      | inr f ↦ rw f (ap (λ (xs : List Key). w.entry.key ∷ xs) (keys_without k ws))
    ]

pub keys_snoc : (ws : List Watched) (w : Watched) → keys_of (ws ++ w ∷ []) ≡ keys_of ws ++ w.entry.key ∷ []
keys_snoc [] w = refl
keys_snoc (x ∷ xs) w = ap (λ (ks : List Key). x.entry.key ∷ ks) (keys_snoc xs w)

begun_by : (p : Plan) (k : Key) (ask : Ask) (b : Brought) (g now : ℕ) → Seen b → Came p k ask b g (now + 1) → p.first k ≤ now
begun_by p k ask b g now seen (unseen is none ahead) =
    let w : b.whole ≡ false = ap (λ (x : Brought). x.whole) is in
    let n : b.parts ≡ 0 = ap (λ (x : Brought). x.parts) is in
    elim seen [ inl h ↦ absurd (not_both b h w) | inr h ↦ absurd (omega arith) ]
begun_by p k ask b g now seen (partial lacks some count bytes begun) = omega arith
begun_by p k ask b g now seen (ended whole fits begun) = omega arith

pub all_begun : (most : ℕ) (p : Plan) (now : ℕ) (ws : List Watched) → Alls (Coming most p now) ws → AllBy p now (keys_of ws)
all_begun most p now [] all = tt
all_begun most p now (w ∷ ws) all =
    (begun_by p w.entry.key w.entry.ask w.entry.came (came_gaps w) now all.0.seen all.0.came, all_begun most p now ws all.1)

module _ (t : Key → Bool) where
  in_without : (j : Key) (ks : List Key) → In j (without_first t ks) → In j ks
  in_without j [] m = m
  in_without j (x ∷ xs) m =
      elim (on_or_off (t x)) [
        | inl on ↦ inr (rw on at m)
        | inr off ↦ elim (rw off at m) [ inl e ↦ inl e | inr n ↦ inr (in_without j xs n) ]
      ]

  pub distinct_without : (ks : List Key) → Distinct ks → Distinct (without_first t ks)
  distinct_without [] d = tt
  distinct_without (x ∷ xs) d =
      elim (on_or_off (t x)) [
        | inl on ↦ rw on d.1
        | inr off ↦ rw off ((λ m. d.0 (in_without x xs m)), distinct_without xs d.1)
      ]

  pub members_without : (ks ys : List Key) → AllIn ks ys → AllIn (without_first t ks) ys
  members_without [] ys all = tt
  members_without (x ∷ xs) ys all =
      elim (on_or_off (t x)) [
        | inl on ↦ rw on all.1
        | inr off ↦ rw off (all.0, members_without xs ys all.1)
      ]

  later_without : (p : Plan) (k : Key) (ks : List Key) → AllLater p k ks → AllLater p k (without_first t ks)
  later_without p k [] all = tt
  later_without p k (x ∷ xs) all =
      elim (on_or_off (t x)) [
        | inl on ↦ rw on all.1
        | inr off ↦ rw off (all.0, later_without p k xs all.1)
      ]

  pub sorted_without : (p : Plan) (ks : List Key) → Sorted p ks → Sorted p (without_first t ks)
  sorted_without p [] s = tt
  sorted_without p (x ∷ xs) s =
      elim (on_or_off (t x)) [
        | inl on ↦ rw on s.1
        | inr off ↦ rw off (later_without p x xs s.0, sorted_without p xs s.1)
      ]

  pub by_without : (p : Plan) (u : ℕ) (ks : List Key) → AllBy p u ks → AllBy p u (without_first t ks)
  by_without p u [] all = tt
  by_without p u (x ∷ xs) all =
      elim (on_or_off (t x)) [
        | inl on ↦ rw on all.1
        | inr off ↦ rw off (all.0, by_without p u xs all.1)
      ]

pub absent : (k : Key) (ks : List Key) → Distinct ks → In k (without_first (λ x. is_same_key x k) ks) → ⊥
absent k [] d m = m
absent k (x ∷ xs) d m =
    elim (on_or_off (is_same_key x k)) [
      | inl on ↦ let e : x ≡ k = same_key x k on in d.0 (subst (λ (j : Key). In j xs) (sym e) (rw on at m))
      | inr off ↦
          elim (rw off at m) [
            | inl e ↦ let i : is_same_key x k ≡ true = rw (← e) (itself k) in absurd cc
            | inr n ↦ absent k xs d.1 n
          ]
    ]
