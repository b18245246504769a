-- Lemmas that several files need.
use Rattle.std.proofs.Common.{ℕ, ◌≡◌, true, false, ◌==◌, not, Bool, refl, Result, Ok, Option, None, Some, List, slice_get, ◌++◌, ◌∷◌, length, [], ◌≤◌, zero, ◌+◌, ap, cond, arith, suc, ◌/◌, sym, ◌≢◌, unwrap_or, drop, ◌∙◌, inr, inl, subst, nat_eq, ◌||◌, Err, replicate, map, option_map, ◌&&◌, get_or, set, ⊎_elim}
use Rattle.std.proofs.lemmas.Bool.{and_parts, eqb-true, false≢true, eq-eqb, cond_both, cases_eq}
use Rattle.std.specs.Prelude.{is_none, option_and_then, ◌⊎◌, is_some, position}
use Rattle.std.proofs.lemmas.Option.{same_Some, slice_get-map, slice_get-get_or}
use Rattle.std.proofs.lemmas.List.{length-set, get_or-set_other, length-replicate}
use Rattle.std.proofs.lemmas.Bool.Decides.{nat_tests}
use Rattle.std.specs.List.{AllByRecursion, list_any}
use Rattle.std.proofs.lemmas.List.Quantifiers.{position-Some}
use Rattle.std.proofs.lemmas.List.Folds.{list_any-append}
use Rattle.usb_base.specs.declared.reports.OfferError.{OfferError}
use Rattle.usb_base.specs.declared.packets.EpKind.{EpKind}
use Rattle.usb_base.specs.declared.packets.Way.{Way}
use Rattle.usb_base.specs.declared.endpoints.EpName.{EpName}
use Rattle.usb_base.specs.declared.endpoints.EpDesc.{EpDesc}
use Rattle.usb_base.specs.declared.endpoints.EndCause.{EndCause}
use Rattle.usb_base.specs.declared.commands.Cmd.{Cmd}
use Rattle.word_mem.specs.Memory.{Mem, with_word, word_at}
use Rattle.word_mem.specs.Runs.{Run}
use Rattle.word_mem.specs.declared.blocks.BlockState.{BlockState}
use Rattle.word_mem.specs.declared.blocks.BlockState.TheVariants.{Lent, Free}
use Rattle.word_mem.specs.Views.{with_words_in}
use Rattle.word_mem.proofs.Words.{length-with_words_in}
use Rattle.word_mem.proofs.Holders.{has_block_from}
use Rattle.mem_runs.specs.Book.{Holding, Book, store, can_store, slot_of, lend_slot}
use Rattle.mem_runs.specs.declared.slots.Slot.TheVariants.{Lends, Keeps, Empty}
use Rattle.mem_runs.proofs.Standing.{lent_not_free, in_run_from}
use Rattle.mem_runs.specs.declared.slots.Slot.{Slot}
use Rattle.law_common.proofs.Numbers.{leaves_none, other_number}
use Rattle.law_common.proofs.Booleans.{one_most, left_or, right_or}
use Rattle.law_common.proofs.Lists.{set_here, set_there}
use Rattle.drv_chains.specs.declared.members.Member.{Member}
use Rattle.drv_chains.specs.declared.members.Member.TheVariants.{Once, Each}
use Rattle.drv_chains.specs.declared.members.Descriptor.{Descriptor}
use Rattle.drv_chains.specs.declared.members.QueueHead.{QueueHead as Queue}
use Rattle.drv_members.specs.Members.{is_member, IsMember, is_that}
use Rattle.drv_periodic.specs.declared.work.Work.{Work}
use Rattle.bandwidth.specs.declared.placements.Placed.{Placed as Counted}
use Rattle.drv_periodic_table.specs.Periodic.{is_periodic}
use Rattle.drv_table.specs.declared.content.Transfer.{Transfer}
use Rattle.drv_table.specs.DriverContent.{waits_for, DriverContent}
use Rattle.drv_table.specs.Accepting.{Offered}
use Rattle.drv_table.specs.Words.{is_control, queue_head_link}
use Rattle.drv_table.specs.Kinds.{is_iso}
use Rattle.drv_table.specs.Harvesting.{behind_one}
use Rattle.drv_table.specs.Releases.{let_go, cancel_told, is_told, after_transfer}
use Rattle.drv_table.specs.declared.content.Endpoint.{Endpoint}
use Rattle.drv_table.specs.Parts.{Parts}
use Rattle.drv_table.specs.Offers.{offered_open, offered_next, is_queued}
use Rattle.drv_table.specs.declared.content.Command.{Command}
use Rattle.drv_table.specs.Commands.{events_of}
use Rattle.law_admission.proofs.Events.{either}
use Rattle.claims_driver.specs.Owners.{QueueHead, FrameList, Described, NoteRuns, HasRun, SlotHas, HasBlocks}
use Rattle.claims_driver.specs.Leaving.{times, leaves_ring, leaves_frames}
use Rattle.claims_driver.specs.Scripts.{receives, comes_in}
use Rattle.law_driver.specs.AsynchronousScripts.{IsKindOf}
use Rattle.claims_driver.specs.Ring.{IsAmong, later}
use Rattle.claims_driver.specs.LentRuns.{IsLent}
use Rattle.claims_driver.specs.FrameListMembers.{is_among as is_in}
use Rattle.law_driver.specs.chained_transfers.Chains.{piece_at}
use Rattle.law_driver.specs.queued_drivers.Queued.{IsOfWay, queued_kind, queued_endpoint, with_queue, without_queue}
use Rattle.law_driver.specs.ring_members.Words.{LeadsFrom}
use Rattle.usb_base.specs.declared.packets.EpKind.TheVariants as kinds
use Rattle.usb_base.specs.declared.packets.Way.TheVariants as ways
use Rattle.usb_base.specs.declared.reports.OfferError.TheVariants as errors
use Rattle.drv_table.specs.declared.content.Command.TheVariants as unfinished
use Rattle.drv_table.specs.declared.rows.DriverRow.TheVariants as rows

pub waits_is : (e : ℕ) (z : Transfer) → waits_for e z ≡ true → (z.endpoint ≡ e) × (z.reported ≡ false)
waits_is e z is = let a = and_parts (z.endpoint == e) (not z.reported) is in (eqb-true z.endpoint e a.0, turned z.reported a.1)
  where
    turned : (b : Bool) → not b ≡ true → b ≡ false
    turned true is = absurd (false≢true is)
    turned false is = refl

pub ok_is : (o p : Offered) → ◌≡◌ {A = Result Offered OfferError} (Ok o) (Ok p) → p ≡ o
ok_is o p e = cc

pub same_endpoint : (e k : ℕ) → QueueHead e ≡ QueueHead k → e ≡ k
same_endpoint e k is = cc

pub no_work : (o : Option Work) → is_none o ≡ true → o ≡ None
no_work None e = refl
no_work (Some w) e = absurd cc

pub last_pushed : (ts : List Transfer) (z : Transfer) → slice_get (ts ++ z ∷ []) (length ts) ≡ Some z
last_pushed [] z = refl
last_pushed (t ∷ ts) z = last_pushed ts z

pub ok_same : (h g : Holding) → ◌≡◌ {A = Result Holding OfferError} (Ok h) (Ok g) → h ≡ g
ok_same h g e = cc

pub control_kind : (k : EpKind) → is_control k ≡ true → is_iso k ≡ false
control_kind kinds.Iso e = absurd (false≢true e)
control_kind _ e = refl

pub times_of : (ts : List ℕ) (i t : ℕ) → slice_get ts i ≡ Some t → 1 ≤ times t ts
times_of [] i t there = absurd (cc)
times_of (u ∷ ts) zero t there =
    let same : u ≡ t = same_Some u t there in
    let one : times t (u ∷ ts) ≡ 1 + times t ts = ap (λ (c : Bool). cond c 1 0 + times t ts) (eq-eqb u t same) in
    omega (arith, one)
times_of (u ∷ ts) (suc i) t there = let rest = times_of ts i t there in omega (arith, rest)

pub stored_many : (k : Book) (m : Mem) (b at v : ℕ) → length (store k m b at v).words ≡ length m.words
stored_many k m b at v = by (can_store (slot_of k.slots b) at)
  where
    by : (can : Bool) → length (cond can (with_word m at v) m).words ≡ length m.words
    by true = length-set m.words (at / 4) v
    by false = refl

pub out_way : (way : Way) → receives way ≡ false → way ≡ ways.Out
out_way ways.Out is = refl
out_way _ is = absurd (false≢true (sym is))

pub in_way : (way : Way) → comes_in way ≡ true → way ≡ ways.In
in_way ways.In is = refl
in_way _ is = absurd cc

pub one_behind : (d : DriverContent) (e : ℕ) (name : EpName) (k : ℕ) (o : Option Transfer)
    → (behind_one d e name k o).endpoints ≡ d.endpoints
one_behind d e name k None = refl
one_behind d e name k (Some x) = either (λ (f : DriverContent). f.endpoints) (waits_for e x) _ d d.endpoints refl refl

pub let_go_same : (e : ℕ) (told : Bool) (y : Transfer) → (let_go e told y).endpoint ≡ y.endpoint
let_go_same e told y = cond_both (y.endpoint == e) _ y (λ (z : Transfer). z.endpoint ≡ y.endpoint) (λ _. refl) (λ _. refl)

pub maybe : (m : Mem) (at v other : ℕ) (can : Bool) → at / 4 ≢ other / 4 → word_at (cond can (with_word m at v) m) other ≡ word_at m other
maybe m at v other true differs = get_or-set_other m.words (at / 4) (other / 4) v 0 (λ same. differs (sym same))
maybe m at v other false differs = refl

pub one_command : (f : DriverContent) (e : ℕ) (name : EpName) (k : ℕ) (o : Option Transfer) → (behind_one f e name k o).command ≡ f.command
one_command f e name k None = refl
one_command f e name k (Some v) = either (λ (g : DriverContent). g.command) (waits_for e v) _ f f.command refl refl

pub pushed : (xs : List Endpoint) (x : Endpoint) (e : ℕ) (y : Endpoint) → slice_get xs e ≡ Some y → slice_get (xs ++ x ∷ []) e ≡ Some y
pushed [] x e y here = absurd cc
pushed (v ∷ vs) x zero y here = here
pushed (v ∷ vs) x (suc e) y here = pushed vs x e y here

pub newest_get : (xs : List Endpoint) (z : Endpoint) → slice_get (xs ++ z ∷ []) (length xs) ≡ Some z
newest_get [] z = refl
newest_get (v ∷ vs) z = newest_get vs z

pub not_list : (split : Bool) (t : ℕ) → FrameList ≡ Described split t → ⊥
not_list split t same = cc

pub there_by : (xs : List Endpoint) (o : Option ℕ) (x : Endpoint) → option_and_then (λ e. slice_get xs e) o ≡ Some x
    → slice_get xs (unwrap_or o 0) ≡ Some x
there_by xs None x e = absurd (cc)
there_by xs (Some k) x e = e

pub lends_keeps : (r q : Run) → Lends r ≡ Keeps q → ⊥
lends_keeps r q is = cc

pub told_endpoints : (d : DriverContent) (m : Mem) (e : ℕ) (x : Endpoint) → (cancel_told d m e x).endpoints ≡ d.endpoints
told_endpoints d m e x = either (λ (f : DriverContent). f.endpoints) (is_told x) _ d d.endpoints refl refl

pub is_one : (m : Member) → is_member m ≡ true → IsMember m
is_one (Once d) e = grind (arith, nat_tests, e)
is_one (Each q) e = e

pub among_later : (f : ℕ) (es fs : List ℕ) → IsAmong f fs → IsAmong f (es ++ fs)
among_later f [] fs a = a
among_later f (e ∷ es) fs a = later e (es ++ fs) (among_later f es fs a)

pub get_drop : (xs : List Endpoint) (k i : ℕ) → slice_get (drop k xs) i ≡ slice_get xs (k + i)
get_drop [] zero i = refl
get_drop [] (suc k) i = refl
get_drop (x ∷ xs) zero i = let e : i ≡ 0 + i = omega arith in ap (slice_get (x ∷ xs)) e
get_drop (x ∷ xs) (suc k) i = let e : suc k + i ≡ suc (k + i) = omega arith in get_drop xs k i ∙ ap (slice_get (x ∷ xs)) (sym e)

pub drop_old : (ts us : List Transfer) → drop (length ts) (ts ++ us) ≡ us
drop_old [] us = refl
drop_old (t ∷ ts) us = drop_old ts us

pub not_both : ◌≡◌ {A = Option BlockState} (Some Lent) (Some Free) → ⊥
not_both same = lent_not_free (same_Some Lent Free same)

pub control_way : (way : Way) (k : EpKind) → IsKindOf way k → is_control k ≡ true → way ≡ ways.Ctl
control_way ways.Ctl k kind is = refl
control_way _ k kind is = absurd (false≢true (sym (ap is_control kind) ∙ is))

pub two_kinds : (way : Way) (k : EpKind) → IsKindOf way k → (k ≡ kinds.Bulk) ⊎ (k ≡ kinds.Control)
two_kinds ways.Ctl k is = inr is
two_kinds _ k is = inl is

pub transfer_mends : (p : Parts) (t : ℕ) (o : Option Transfer) (h : Holding) → (after_transfer p t o h).driver.mends ≡ p.driver.mends
transfer_mends p t None h = refl
transfer_mends p t (Some y) h = refl

pub piece_next : (note : ℕ → NoteRuns) (b i : ℕ) → piece_at note b (suc i) ≡ (note (piece_at note b i)).next
piece_next note b zero = refl
piece_next note b (suc i) = piece_next note (note b).next i

pub once_is : (k l : Descriptor) → ◌≡◌ {A = Member} (Once k) (Once l) → k ≡ l
once_is k l e = cc

pub all_at : (P : Counted → Type 0) (ps : List Counted) (i : ℕ) (y : Counted) → AllByRecursion P ps → slice_get ps i ≡ Some y → P y
all_at P [] i y h e = absurd (cc)
all_at P (z ∷ ps) zero y h e = subst P (same_Some z y e) h.0
all_at P (z ∷ ps) (suc i) y h e = all_at P ps i y h.1 e

pub lent_by : (s : Slot) → HasRun s → ((r : Run) → s ≡ Keeps r → ⊥) → IsLent s
lent_by Empty run none = run
lent_by (Keeps r) run none = none r refl
lent_by (Lends r) run none = tt

pub that_is : (k x : Descriptor) → is_that k x ≡ true → x ≡ k
that_is k x h =
    let b = and_parts (nat_eq x.id k.id) (nat_eq x.frame k.frame) h in
    ap (λ (n : ℕ). record { id = n; frame = x.frame }) (eqb-true x.id k.id b.0)
    ∙ ap (λ (n : ℕ). record { id = k.id; frame = n }) (eqb-true x.frame k.frame b.1)

pub among_first : (t : ℕ) (ts : List ℕ) → slice_get ts 0 ≡ Some t → is_in t ts ≡ true
among_first t [] here = absurd (cc)
among_first t (u ∷ ts) here = let same : u ≡ t = cc in ap (λ b. b || list_any (λ v. v == t) ts) (eq-eqb u t same)

pub again_none : (d : DriverContent) (m : Mem) (x : EpDesc) (o : Offered) (old : Endpoint) (c : Option EndCause) → old.ended ≡ c
    → offered_open d m x (Some old) ≡ Ok o → ⊥
again_none d m x o old (Some cause) is f =
    let e : offered_open d m x (Some old) ≡ Err (errors.Closed cause) = ap (λ (k : Option EndCause). by k) is in cc
  where
    by : Option EndCause → Result Offered OfferError
    by k = elim k [ Some cause ↦ Err (errors.Closed cause) | None ↦ Err errors.AlreadyOpen ]
again_none d m x o old None is f =
    let e : offered_open d m x (Some old) ≡ Err errors.AlreadyOpen = ap (λ (k : Option EndCause). by k) is in cc
  where
    by : Option EndCause → Result Offered OfferError
    by k = elim k [ Some cause ↦ Err (errors.Closed cause) | None ↦ Err errors.AlreadyOpen ]

pub each_is : (q r : Queue) → ◌≡◌ {A = Member} (Each q) (Each r) → q ≡ r
each_is q r e = cc

pub words_many : (n : ℕ) → length (with_words_in (replicate n 0) 0 (replicate 1024 1)) ≡ n
words_many n = length-with_words_in (replicate n 0) 0 (replicate 1024 1) ∙ length-replicate {A = ℕ} n 0

pub control_told : (way : Way) (kind : EpKind) → IsOfWay way kind → is_control kind ≡ true → is_control (queued_kind way) ≡ true
control_told ways.Ctl kind fits on = refl
control_told ways.In kinds.Control fits on = absurd fits
control_told ways.In _ fits on = absurd (false≢true on)
control_told ways.Out kinds.Control fits on = absurd fits
control_told ways.Out _ fits on = absurd (false≢true on)

pub of_queue : (x : Endpoint) → is_iso x.desc.kind ≡ false → queued_endpoint x ≡ with_queue x
of_queue x is = ap (λ (b : Bool). cond b (without_queue x) (with_queue x)) is

pub of_none : (x : Endpoint) → is_iso x.desc.kind ≡ true → queued_endpoint x ≡ without_queue x
of_none x is = ap (λ (b : Bool). cond b (without_queue x) (with_queue x)) is

pub kind_in_ring : (way : Way) → is_periodic (queued_kind way) ≡ false
kind_in_ring ways.In = refl
kind_in_ring _ = refl

pub ring_queue : (k : EpKind) → is_periodic k ≡ false → is_iso k ≡ false
ring_queue kinds.Iso off = absurd (false≢true (sym off))
ring_queue _ off = refl

pub iso_frames : (k : EpKind) → is_iso k ≡ true → is_periodic k ≡ true
iso_frames kinds.Iso is = refl
iso_frames _ is = absurd (false≢true is)

pub get_queued : (xs : List Endpoint) (e : ℕ) (x : Endpoint) → slice_get xs e ≡ Some x
    → slice_get (map queued_endpoint xs) e ≡ Some (queued_endpoint x)
get_queued xs e x here = slice_get-map queued_endpoint xs e ∙ ap (option_map queued_endpoint) here

pub busy_idle : (d : DriverContent) (m : Mem) (cmd : Cmd) (o : Offered) (c : Option Command) → d.command ≡ c
    → cond (is_some c) (Err errors.Busy) (offered_next d m cmd) ≡ Ok o → c ≡ None
busy_idle d m cmd o (Some c) is f = absurd (cc)
busy_idle d m cmd o None is f = refl

pub none_made : (made : ℕ) → slice_get (events_of unfinished.Chain) made ≡ Some rows.Lend → made ≡ 0
none_made zero e = refl
none_made (suc n) e = absurd (cc)

pub same_control : (way : Way) (k : EpKind) → IsOfWay way k → is_control (queued_kind way) ≡ is_control k
same_control ways.Ctl k fits = ap is_control (sym fits)
same_control ways.In kinds.Iso fits = refl
same_control ways.In kinds.Bulk fits = refl
same_control ways.In kinds.Interrupt fits = refl
same_control ways.Out kinds.Iso fits = refl
same_control ways.Out kinds.Bulk fits = refl
same_control ways.Out kinds.Interrupt fits = refl
same_control _ kinds.Control fits = absurd fits

pub all_got : (P : Transfer → Type 0) (ts : List Transfer) → ((i : ℕ) (y : Transfer) → slice_get ts i ≡ Some y → P y) → AllByRecursion P ts
all_got P [] each = tt
all_got P (y ∷ ts) each = (each 0 y refl, all_got P ts (λ i z there. each (suc i) z there))

pub lend_never : (f b link made : ℕ) → slice_get (events_of (unfinished.Unlink f b link)) made ≡ Some rows.Lend → ⊥
lend_never f b link zero e = cc
lend_never f b link (suc n) e = cc

pub stored_as : (P : Mem → Type 0) (k : Book) (m : Mem) (b c at to v w : ℕ) → b ≡ c → at ≡ to → v ≡ w → P (store k m c to w)
    → P (store k m b at v)
stored_as P k m b c at to v w one two three p =
    subst (λ x. P (store k m x at v)) (sym one) (subst (λ x. P (store k m c x v)) (sym two)
    (subst (λ x. P (store k m c to x)) (sym three) p))

pub lent_slot : (h : Holding) (b : ℕ) (s : Slot) → (lend_slot h b s).memory.words ≡ h.memory.words
lent_slot h b Empty = refl
lent_slot h b _ = refl

pub leads_now : (word : ℕ → ℕ) (x : Endpoint) (b : ℕ) → x.linked ≡ true → LeadsFrom word x.linked x.queue b
    → word x.queue ≡ queue_head_link b
leads_now word x b on leads = subst (λ (t : Bool). LeadsFrom word t x.queue b) on leads

pub stores_in : (s : Slot) (at : ℕ) → can_store s at ≡ true → SlotHas s (at / 32)
stores_in Empty at on = absurd (cc)
stores_in (Keeps r) at on = let is = in_run_from r at on in let from = is.from in let below =
    is.below in has_block_from r (at / 32) (omega (arith, from)) (omega (arith, below))
stores_in (Lends r) at on = let is = in_run_from r at on in let from = is.from in let below =
    is.below in has_block_from r (at / 32) (omega (arith, from)) (omega (arith, below))

pub queue_kind : (k : EpKind) (b : Bool) → is_queued k && b ≡ true → is_iso k ≡ false
queue_kind kinds.Iso b e = absurd (false≢true e)
queue_kind _ b e = refl

pub found_there : (xs : List Endpoint) (p : Endpoint → Bool) (e : ℕ) → position p xs ≡ Some e → (y : Endpoint) × (slice_get xs e ≡ Some y)
found_there [] p e f = absurd (cc)
found_there (x ∷ xs) p e f =
    let at = position-Some p (x ∷ xs) e x f in (get_or (x ∷ xs) e x, slice_get-get_or (x ∷ xs) e x at.0)

pub either_way : (P : DriverContent → Type 0) (b : Bool) (x y : DriverContent) → P x → P y → P (cond b x y)
either_way P true x y one two = one
either_way P false x y one two = two

pub gone_was : (go : Transfer → Transfer) (ts : List Transfer) (t : ℕ) (o : Option Transfer) (z : Transfer) → slice_get ts t ≡ o
    → option_map go o ≡ Some z → (y : Transfer) × (slice_get ts t ≡ Some y) × (go y ≡ z)
gone_was go ts t None z there is = absurd (cc)
gone_was go ts t (Some y) z there is = (y, there, same_Some (go y) z is)

pub not_in_ring : (x : Endpoint) → is_periodic x.desc.kind ≡ true → leaves_ring (Some x) ≡ 0
not_in_ring x frames = leaves_none x.linked x.gone (is_periodic x.desc.kind) frames

pub blocks_run : (n : ℕ) (s : Slot) → HasBlocks n s → HasRun s
blocks_run n Empty h = h
blocks_run n _ h = tt

pub ring_most : (o : Option Endpoint) → leaves_ring o ≤ 1
ring_most None = omega arith
ring_most (Some x) = one_most (x.linked || x.gone || is_periodic x.desc.kind)

pub any_left : {X : Type 0} (f : X → Bool) (xs ys : List X) → list_any f xs ≡ true → list_any f (xs ++ ys) ≡ true
any_left f xs ys is = list_any-append f xs ys ∙ left_or (list_any f xs) (list_any f ys) is

pub any_right : {X : Type 0} (f : X → Bool) (xs ys : List X) → list_any f ys ≡ true → list_any f (xs ++ ys) ≡ true
any_right f xs ys is = list_any-append f xs ys ∙ right_or (list_any f xs) (list_any f ys) is

pub get_case : {X Y : Type 0} (f : X → Y) (xs : List X) (e i : ℕ) (x y : X) (z : Y) → slice_get xs e ≡ Some x
    → option_map f (slice_get (set xs e y) i) ≡ Some z → ((i ≡ e) × (z ≡ f y)) ⊎ ((i ≢ e) × (option_map f (slice_get xs i) ≡ Some z))
get_case f xs e i x y z here there =
    ⊎_elim (λ (same : i ≡ e). inl (
      same,
      sym (same_Some (f y) z
          (sym (ap (option_map f) (ap (slice_get (set xs e y)) same ∙ set_here xs e x y here)) ∙ there)),
    ))
    (λ (differs : i ≢ e). inr (differs, sym (ap (option_map f) (set_there xs e i y differs)) ∙ there)) (cases_eq i e)

pub others_wait : (e : ℕ) (y : Transfer) → y.endpoint ≢ e → waits_for e y ≡ false
others_wait e y differs = ap (λ (b : Bool). b && not y.reported) (other_number y.endpoint e differs)

pub frames_most : (o : Option Endpoint) → leaves_frames o ≤ 1
frames_most None = omega arith
frames_most (Some x) = one_most (x.chained || x.gone || not (is_periodic x.desc.kind))
