-- What events leave of the entry of an isochronous OUT whose parts come in turn.
use Rattle.std.proofs.Common.{◌≡◌, ℕ, ◌+◌, ◌-◌, if◌then◌else◌, Bool, true, false, List, [], ◌∷◌, ◌++◌, length, Option, Some, None, refl, sym, ap, subst, ◌∙◌, inl, inr}
use Rattle.std.specs.Prelude.{◌==◌, ◌&&◌, ◌||◌, not, nat_le, nat_lt}
use Rattle.std.specs.List.{find}
use Rattle.std.proofs.lemmas.Bool.{and_parts, or_parts, cases_Bool, cond_both, true≢false}
use Rattle.usb_base.specs.declared.packets.Ask.{Ask}
use Rattle.usb_base.specs.declared.packets.DataPart.{DataPart}
use Rattle.usb_base.specs.declared.packets.DataPart.TheVariants as parts
use Rattle.usb_base.specs.declared.packets.Reply.{Reply}
use Rattle.hub_keys.specs.Keys.{key_of, is_same_key}
use Rattle.hub_keys.specs.declared.key.Key.{Key}
use Rattle.itd_sitd.specs.declared.sitd.Sitd.{Sitd}
use Rattle.hc_iso.specs.Sitd.{sent_part, sitd_after, after_part}
use Rattle.tt_pipeline.specs.declared.entry.Entry.{Entry}
use Rattle.tt_pipeline.specs.declared.rows.StartRow.{StartRow}
use Rattle.tt_pipeline.specs.declared.rows.StartRow.TheVariants.{Enters, Joins, Forgotten}
use Rattle.tt_pipeline.specs.declared.rows.AnswerRow.{AnswerRow}
use Rattle.tt_pipeline.specs.declared.rows.AnswerRow.TheVariants as Rows
use Rattle.tt_pipeline.specs.Answers.{answer_row, given_at, given}
use Rattle.std.proofs.lemmas.Option.{same_Some}
use Rattle.law_common.proofs.Lists.{all_both}
use Rattle.tt_pipeline.specs.Starting.{has_key, with_first, without_first, without, is_there, start_row, row_of_part, later_row, after_start, started}
use Rattle.tt_pipeline.specs.Work.{asked_part, brought_by, nothing_brought, fresh, joined, moved, is_due, answered}
use Rattle.tt_pipeline.specs.Working.{used_at, first_reply, later_replies}
use Rattle.law_translator.proofs.Keys.{same_key}
use Rattle.law_microframes.specs.time.SitdParts.{position_of, IsInParts}
use Rattle.law_microframes.specs.translators.Parts.{EachOf, Lacks, IsEven, IsOnce, PartsGoOn, OtherStartsLeave, WorkLeavesLacking, WorkMakesEven, CompletesLeave, FoundLacks}
use Rattle.law_microframes.proofs.lemmas.translators.SitdStarts.{out_ask, out_transaction}

-- ---- lists

pub none_each : (P : Entry → Type 0) (k : Key) (es : List Entry) → is_there k es ≡ false → EachOf P k es
none_each P k [] none = tt
none_each P k (e ∷ es) none =
    elim (cases_Bool (has_key k e)) [
      | inl on ↦ absurd (true≢false (sym (rw on refl) ∙ none))
      | inr off ↦ ((λ t. absurd (true≢false (sym t ∙ off))), none_each P k es (rw off at none))
    ]

pub each_without : (P : Entry → Type 0) (k : Key) (p : Entry → Bool) (es : List Entry) → EachOf P k es → EachOf P k (without_first p es)
each_without P k p [] all = tt
each_without P k p (e ∷ es) all =
    cond_both (p e) es (e ∷ without_first p es) (EachOf P k) (λ _. all.1) (λ _. (all.0, each_without P k p es all.1))

each_changed : (P : Entry → Type 0) (k : Key) (p : Entry → Bool) (f : Entry → Entry) (es : List Entry)
    → ((e : Entry) → p e ≡ true → has_key k (f e) ≡ true → (has_key k e ≡ true → P e) → P (f e)) → EachOf P k es
    → EachOf P k (with_first p f es)
each_changed P k p f [] step all = tt
each_changed P k p f (e ∷ es) step all =
    cond_both (p e) (f e ∷ es) (e ∷ with_first p f es) (EachOf P k) (λ on. ((λ t. step e on t all.0), all.1))
    (λ _. (all.0, each_changed P k p f es step all.1))

pub each_last : (P : Entry → Type 0) (k : Key) (es : List Entry) (e : Entry) → EachOf P k es → (has_key k e ≡ true → P e)
    → EachOf P k (es ++ e ∷ [])
each_last P k es e all one = all_both (λ x. has_key k x ≡ true → P x) es (e ∷ []) all (one, tt)

-- ---- a start of another key

pub other_starts : (P : Entry → Type 0) → OtherStartsLeave P
other_starts P k ask bytes stuff es apart all = by (start_row ask (length bytes) es)
  where
    by : (row : StartRow) → EachOf P k (after_start row ask bytes stuff es)
    by Enters =
        each_last P k (without (key_of ask) es) (fresh ask bytes stuff) (each_without P k (has_key (key_of ask)) es all)
        (λ on. absurd (true≢false (sym on ∙ apart)))
    by Joins =
        each_changed P k (has_key (key_of ask)) (joined ask bytes) es
        (λ e own on was. absurd (true≢false (sym on ∙ ap (λ (z : Key). is_same_key z k) (same_key e.key (key_of ask) own) ∙ apart))) all
    by Forgotten = all

-- ---- its own parts

begins : (ask : Ask) (bytes : List ℕ) (stuff : ℕ) (es : List Entry) → asked_part ask ≡ parts.Begin → IsOnce (key_of ask) es
    → EachOf Lacks (key_of ask) (started ask bytes stuff es)
begins ask bytes stuff es is once =
    let k : Key = key_of ask in
    subst (λ (part : DataPart). EachOf Lacks k (after_start (row_of_part part k (length bytes) es) ask bytes stuff es)) (sym is)
    (cond_both (is_there k es || nat_lt (length es) 256) Enters Forgotten (λ row. EachOf Lacks k (after_start row ask bytes stuff es))
    (λ _. each_last Lacks k (without k es) (fresh ask bytes stuff) (none_each Lacks k (without k es) once)
    (λ _. ap (λ (part : DataPart). (brought_by part (length bytes) nothing_brought).whole) is))
    (λ none. none_each Lacks k es (or_parts (is_there k es) (nat_lt (length es) 256) none).0))

-- the first one makes an entry that lacks its last
pub enters : (ask : Ask) (bytes : List ℕ) (stuff : ℕ) (es : List Entry) → asked_part ask ≡ parts.Begin → EachOf Lacks (key_of ask) es
    → EachOf Lacks (key_of ask) (started ask bytes stuff es)
enters ask bytes stuff es is all =
    let k : Key = key_of ask in
    subst (λ (part : DataPart). EachOf Lacks k (after_start (row_of_part part k (length bytes) es) ask bytes stuff es)) (sym is)
    (cond_both (is_there k es || nat_lt (length es) 256) Enters Forgotten (λ row. EachOf Lacks k (after_start row ask bytes stuff es))
    (λ _. each_last Lacks k (without k es) (fresh ask bytes stuff) (each_without Lacks k (has_key k) es all)
    (λ _. ap (λ (part : DataPart). (brought_by part (length bytes) nothing_brought).whole) is))
    (λ none. all))

pub goes : (ask : Ask) (bytes : List ℕ) (stuff : ℕ) (es : List Entry) → asked_part ask ≡ parts.Middle → EachOf Lacks (key_of ask) es
    → EachOf Lacks (key_of ask) (started ask bytes stuff es)
goes ask bytes stuff es is all =
    let k : Key = key_of ask in
    subst (λ (part : DataPart). EachOf Lacks k (after_start (row_of_part part k (length bytes) es) ask bytes stuff es)) (sym is)
    (by (later_row (length bytes) (find (has_key k) es)) refl)
  where
    by : (row : StartRow) → later_row (length bytes) (find (has_key (key_of ask)) es) ≡ row
        → EachOf Lacks (key_of ask) (after_start row ask bytes stuff es)
    by Enters e = absurd (never (find (has_key (key_of ask)) es) e)
      where
        never : (o : Option Entry) → later_row (length bytes) o ≡ Enters → ⊥
        never None e = cc
        never (Some x) e = cond_both (nat_le (x.came.bytes + length bytes) 1024) Joins Forgotten (λ row. row ≡ Enters → ⊥)
            (λ _ z. cc) (λ _ z. cc) e
    by Joins e =
        each_changed Lacks (key_of ask) (has_key (key_of ask)) (joined ask bytes) es
        (λ x own on was. ap (λ (part : DataPart). (brought_by part (length bytes) x.came).whole) is ∙ was own) all
    by Forgotten e = all

more_left : (b : Bool) (n : ℕ) → (b && not (nat_le n 1)) ≡ true → nat_le n 1 ≡ false
more_left b n h = by (nat_le n 1) (and_parts b (not (nat_le n 1)) h).1
  where
    by : (c : Bool) → not c ≡ true → c ≡ false
    by true e = absurd (true≢false (sym e))
    by false e = refl

pub part_of : (first : Bool) (v : Sitd) → v.tp ≡ position_of first v.t_count → nat_le v.t_count 1 ≡ false
    → sent_part v.tp ≡ (if first then parts.Begin else parts.Middle)
part_of true v tp more = let p : v.tp ≡ 1 = tp ∙ rw more refl in ap sent_part p
part_of false v tp more = let p : v.tp ≡ 2 = tp ∙ rw more refl in ap sent_part p

own_part : (v : Sitd) (most stuff : ℕ) (bytes : List ℕ) (es : List Entry) → IsInParts v most → v.active ≡ true → v.dir_in ≡ false
    → nat_le v.t_count 1 ≡ false → IsOnce (key_of (out_ask v)) es → ((v.c_prog == 0) ≡ false → EachOf Lacks (key_of (out_ask v)) es)
    → EachOf Lacks (key_of (out_ask v)) (started (out_ask v) bytes stuff es)
own_part v most stuff bytes es of active way more once lacks =
    let at = of.position active way in
    elim (cases_Bool (v.c_prog == 0)) [
      | inl none ↦ begins (out_ask v) bytes stuff es (part_of true v (at ∙ ap (λ (b : Bool). position_of b v.t_count) none) more) once
      | inr some ↦
          goes (out_ask v) bytes stuff es (part_of false v (at ∙ ap (λ (b : Bool). position_of b v.t_count) some) more) (lacks some)
    ]

pub still_left : (v : Sitd) (u : ℕ) (reply : Reply) → v.dir_in ≡ false → (sitd_after u reply v).active ≡ true → nat_le v.t_count 1 ≡ false
unfolding after_part
still_left v u reply way on = more_left v.active v.t_count (rw way at on)

pub parts_go_on : PartsGoOn
parts_go_on v most u stuff bytes reply es of active way on once lacks =
    let out = out_transaction v way in
    let own = own_part v most stuff bytes es of active way (still_left v u reply way on)
    (subst (λ z. IsOnce (key_of z.ask) es) out once)
    (λ some. subst (λ z. EachOf Lacks (key_of z.ask) es) out (lacks some)) in
    subst (λ z. EachOf Lacks (key_of z.ask) (started z.ask bytes stuff es)) (sym out) own

-- ---- the work of a microframe

-- an entry that is answered is the same but for its exchange
answered_lacks : (k : Key) (b : Bool) (reply : Reply) (m : Entry) → (has_key k m ≡ true → Lacks m)
    → has_key k (answered b reply m) ≡ true → Lacks (answered b reply m)
answered_lacks k true reply m h on = h on
answered_lacks k false reply m h on = h on

answered_even : (b : Bool) (reply : Reply) (m : Entry) → IsEven m → IsEven (answered b reply m)
answered_even true reply m h = h
answered_even false reply m h = h

pub work_leaves_lacking : WorkLeavesLacking
work_leaves_lacking k room replies [] all = tt
work_leaves_lacking k room replies (e ∷ es) all = (
  answered_lacks k (is_due (moved room e)) (first_reply replies) (moved room e) all.0,
  work_leaves_lacking k (room - used_at room e) (later_replies replies) es all.1,
)

pub work_makes_even : WorkMakesEven
work_makes_even k room replies [] = tt
work_makes_even k room replies (e ∷ es) = (
  λ on. answered_even (is_due (moved room e)) (first_reply replies) (moved room e) refl,
  work_makes_even k (room - used_at room e) (later_replies replies) es,
)

-- ---- a complete-split

given_lacks : (k : Key) (r : AnswerRow) (e : Entry) → (has_key k e ≡ true → Lacks e) → has_key k (given_at r e) ≡ true
    → Lacks (given_at r e)
given_lacks k Rows.NotYet e h on = h on
given_lacks k Rows.Result e h on = h on
given_lacks k Rows.Unheard e h on = h on
given_lacks k Rows.More e h on = h on
given_lacks k Rows.Last e h on = h on

given_even : (k : Key) (r : AnswerRow) (e : Entry) → (has_key k e ≡ true → IsEven e) → has_key k (given_at r e) ≡ true
    → IsEven (given_at r e)
given_even k Rows.NotYet e h on = h on
given_even k Rows.Result e h on = h on
given_even k Rows.Unheard e h on = h on
given_even k Rows.More e h on = h on
given_even k Rows.Last e h on = h on

pub completes_lack : CompletesLeave Lacks
completes_lack k asked es all =
    each_changed Lacks k (has_key asked) given es (λ e own on was. given_lacks k (answer_row e) e was on) all

pub completes_even : CompletesLeave IsEven
completes_even k asked es all =
    each_changed IsEven k (has_key asked) given es (λ e own on was. given_even k (answer_row e) e was on) all

-- ---- the entry of the key

each_found : (P : Entry → Type 0) (k : Key) (es : List Entry) (e : Entry) → EachOf P k es → find (has_key k) es ≡ Some e → P e
each_found P k [] e all at = cc
each_found P k (x ∷ xs) e all at =
    elim (cases_Bool (has_key k x)) [
      | inl on ↦ subst P (same_Some x e (rw on at at)) (all.0 on)
      | inr off ↦ each_found P k xs e all.1 (rw off at at)
    ]

pub found_lacks : FoundLacks
found_lacks k es e lacks even at = (each_found Lacks k es e lacks at, each_found IsEven k es e even at)
