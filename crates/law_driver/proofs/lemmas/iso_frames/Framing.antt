-- The frames of new descriptors are chosen: they follow those of the endpoint that wait, one period after the other.
use Rattle.std.proofs.Common.{◌≡◌, ◌≢◌, ℕ, zero, suc, ◌+◌, ◌<◌, ◌≤◌, ◌&&◌, not, Bool, true, false, cond, nat_lt, List, [], ◌∷◌, ◌++◌, length, map, set, take, drop, slice_get, Option, Some, None, option_map, refl, ap, sym, subst, ◌∙◌, ⊎_elim, arith, inr}
use Rattle.std.specs.Prelude.{option_and_then}
use Rattle.std.specs.List.{AllByRecursion, fold}
use Rattle.std.proofs.lemmas.Bool.{cases_eq, cases_lt}
use Rattle.std.proofs.lemmas.List.{length-set, length-drop, length-take, get_or-set_other, get_or_past}
use Rattle.std.proofs.lemmas.Grind.{get_or-set_at}
use Rattle.std.proofs.lemmas.Option.{same_Some, slice_get_within}
use Rattle.law_common.proofs.Lists.{all_both}
use Rattle.bandwidth.specs.declared.placements.Placement.{Placement}
use Rattle.bandwidth.specs.Placements.{IsPlace}
use Rattle.bandwidth.specs.Sums.{is_active}
use Rattle.mem_runs.specs.declared.slots.Slot.{Slot}
use Rattle.mem_runs.specs.declared.slots.Slot.TheVariants.{Empty}
use Rattle.mem_runs.specs.Book.{slot_of}
use Rattle.drv_periodic_table.specs.declared.content.DescriptorNote.{DescriptorNote}
use Rattle.drv_periodic_table.specs.Periodic.{no_descriptor, note_at}
use Rattle.drv_periodic_table.specs.Frames.{frames_from, first_frame}
use Rattle.drv_table.specs.declared.content.Endpoint.{Endpoint}
use Rattle.drv_table.specs.declared.content.Transfer.{Transfer}
use Rattle.drv_table.specs.declared.content.Command.{Command}
use Rattle.drv_table.specs.declared.content.Command.TheVariants as unfinished
use Rattle.drv_table.specs.DriverContent.{DriverContent, waits_for}
use Rattle.drv_table.specs.Commands.{linked_on, advanced_by}
use Rattle.drv_table.specs.FrameChoice.{with_frames, last_waiting, last_frame, framed_notes, with_notes, placement_at, framed_by}
use Rattle.claims_driver.specs.Owners.{HasRun, Described, is_descriptor}
use Rattle.claims_driver.specs.Leaving.{HasOwners}
use Rattle.law_driver.proofs.lemmas.run_owners.Runs.{placed_run}
use Rattle.law_driver.proofs.lemmas.run_owners.Harvest.{waits_is}
use Rattle.claims_driver.specs.FrameListMembers.{Framed, framed_of, framed_in, is_chained, Placed, placed_of, placed_in}
use Rattle.law_driver.specs.listed_members.Members.{IsDescribing, IsUnderWay, IsListed}
use Rattle.law_driver.proofs.lemmas.listed_members.Standing.{seen, framed, Owns, owns, transfer_of, descriptor_placed}
use Rattle.law_driver.specs.iso_frames.Steps.{StepsTo, AreInStep}
use Rattle.law_driver.specs.iso_frames.Frames.{mark, before, waiting_from, frame_in, frames_of, IsStepped, AreStepped}
use Rattle.claims_driver.specs.DueMembers.{framed_to}
use Rattle.law_driver.proofs.lemmas.iso_frames.Steps.{LastOf, joined, first_active, later_active}
use Rattle.law_driver.proofs.lemmas.iso_frames.Waiting.{same_waiting, none_waiting, more_waiting, mark_is, mark_off, marked}
use Rattle.law_driver.proofs.lemmas.iso_frames.Harvested.{get_dropped, waits_not}

-- ---- lists

pub all_range : (P : Transfer → Type 0) (first count : ℕ) (xs : List Transfer) → ((t : ℕ) (y : Transfer) → slice_get xs t ≡ Some y → first ≤ t → P y) → AllByRecursion P (take count (drop first xs))
all_range P zero zero xs each = tt
all_range P zero (suc count) [] each = tt
all_range P zero (suc count) (x ∷ xs) each = (each 0 x refl (omega arith), all_range P zero count xs (λ t y there low. each (suc t) y there (omega arith)))
all_range P (suc first) zero [] each = tt
all_range P (suc first) (suc count) [] each = tt
all_range P (suc first) count (x ∷ xs) each = all_range P first count xs (λ t y there low. each (suc t) y there (omega (arith, low)))

-- their blocks are those of transfers k, k + 1 and so on
abbrev pub Rising : (ℕ → ℕ) → ℕ → List Transfer → Type 0
Rising owner k [] = Unit {0}
Rising owner k (y ∷ ys) = (owner y.first ≡ k) × Rising owner (suc k) ys

rising_range : (owner : ℕ → ℕ) (base first count : ℕ) (xs : List Transfer) → ((t : ℕ) (y : Transfer) → slice_get xs t ≡ Some y → first ≤ t → owner y.first ≡ base + t) → Rising owner (base + first) (take count (drop first xs))
rising_range owner base zero zero xs each = tt
rising_range owner base zero (suc count) [] each = tt
rising_range owner base zero (suc count) (x ∷ xs) each =
    let one : suc base + 0 ≡ suc (base + 0) = omega arith in
    (each 0 x refl (omega arith), subst (λ k. Rising owner k (take count xs)) one (rising_range owner (suc base) zero count xs (λ t y there low. let e = each (suc t) y there (omega arith) in omega (arith, e))))
rising_range owner base (suc first) zero [] each = tt
rising_range owner base (suc first) (suc count) [] each = tt
rising_range owner base (suc first) count (x ∷ xs) each =
    let one : suc base + first ≡ base + suc first = omega arith in
    subst (λ k. Rising owner k (take count (drop first xs))) one (rising_range owner (suc base) first count xs (λ t y there low. let e = each (suc t) y there (omega (arith, low)) in omega (arith, e)))

rising_apart : (owner : ℕ → ℕ) (k j c : ℕ) (ys : List Transfer) → Rising owner k ys → j < k → owner c ≡ j → AllByRecursion (λ (z : Transfer). c ≢ z.first) ys
rising_apart owner k j c [] h low is = tt
rising_apart owner k j c (y ∷ ys) h low is =
    ((λ same. let e = ap owner same in let own = h.0 in omega (arith, e, own, is, low)), rising_apart owner (suc k) j c ys h.1 (omega (arith, low)) is)

-- ---- the notes

frames_elsewhere : (p : Placement) (ts : List Transfer) (f : ℕ) (notes : List DescriptorNote) (c : ℕ) → AllByRecursion (λ (y : Transfer). c ≢ y.first) ts → note_at (with_frames p ts f notes) c ≡ note_at notes c
unfolding with_frames
frames_elsewhere p [] f notes c all = refl
frames_elsewhere p (y ∷ ts) f notes c all =
    frames_elsewhere p ts (frames_from p f 1) (set notes y.first (record (note_at notes y.first) { frame = f })) c all.1
    ∙ get_or-set_other notes y.first c (record (note_at notes y.first) { frame = f }) no_descriptor all.0

-- so many frames from f on
frames_list : Placement → ℕ → List Transfer → List ℕ
frames_list p f [] = []
frames_list p f (y ∷ ys) = f ∷ frames_list p (frames_from p f 1) ys

list_steps : (p : Placement) (f : ℕ) (ys : List Transfer) → AreInStep p (frames_list p f ys)
unfolding frames_list
list_steps p f (y ∷ z ∷ zs) = (refl, list_steps p (frames_from p f 1) (z ∷ zs))
list_steps p f _ = tt

list_active : (p : Placement) (f : ℕ) (ys : List Transfer) → IsPlace p → is_active p f ≡ true → AllByRecursion (λ g. is_active p g ≡ true) (frames_list p f ys)
unfolding frames_list
list_active p f [] place on = tt
list_active p f (y ∷ ys) place on = (on, list_active p (frames_from p f 1) ys place (later_active p f place on))

abbrev pub blocks_of : List Transfer → List ℕ
blocks_of ts = map (λ (y : Transfer). y.first) ts

chosen : (p : Placement) (owner : ℕ → ℕ) (k f : ℕ) (ts : List Transfer) (notes : List DescriptorNote) → Rising owner k ts → AllByRecursion (λ (y : Transfer). y.first < length notes) ts → map (frame_in (with_frames p ts f notes)) (blocks_of ts) ≡ frames_list p f ts
unfolding with_frames frames_list
chosen p owner k f [] notes rising small = refl
chosen p owner k f (y ∷ ys) notes rising small =
    let v : DescriptorNote = record (note_at notes y.first) { frame = f } in
    let now : List DescriptorNote = set notes y.first v in
    let many : length now ≡ length notes = length-set notes y.first v in
    let own : note_at (with_frames p ys (frames_from p f 1) now) y.first ≡ v =
    frames_elsewhere p ys (frames_from p f 1) now y.first (rising_apart owner (suc k) k y.first ys rising.1 (omega arith) rising.0) ∙ get_or-set_at notes y.first y.first v no_descriptor refl small.0 in
    ap (λ (n : DescriptorNote). n.frame ∷ map (frame_in (with_frames p ys (frames_from p f 1) now)) (blocks_of ys)) own
    ∙ ap (λ fs. f ∷ fs) (chosen p owner (suc k) (frames_from p f 1) ys now rising.1 (subst (λ n. AllByRecursion (λ (z : Transfer). z.first < n) ys) (sym many) small.1))

-- ---- the last frame before them

abbrev last_or : Option ℕ → List ℕ → Option ℕ
last_or o [] = o
last_or o (b ∷ bs) = last_or (Some b) bs

shift : (v : ℕ → Option Placed) (e a n : ℕ) → waiting_from v e (suc a) n ≡ waiting_from (λ t. v (suc t)) e a n
unfolding waiting_from
shift v e a zero = refl
shift v e a (suc n) = ap (before (mark e (v (suc a)))) (shift v e (suc a) n)

or_mark : Option ℕ → Option ℕ → Option ℕ
or_mark None o = o
or_mark (Some b) o = Some b

last_before : (m o : Option ℕ) (bs : List ℕ) → last_or o (before m bs) ≡ last_or (or_mark m o) bs
unfolding or_mark
last_before None o bs = refl
last_before (Some b) o bs = refl

abbrev first_in : Transfer → ℕ
first_in y = y.first

-- how a transfer is marked
abbrev MarksAs : List Endpoint → ℕ → Transfer → Type 0
MarksAs xs e z = mark e (placed_of xs z) ≡ cond (waits_for e z) (Some z.first) None

one_last : (e : ℕ) (acc : Option Transfer) (z : Transfer) (b : Bool) → option_map first_in (cond b (Some z) acc) ≡ or_mark (cond b (Some z.first) None) (option_map first_in acc)
unfolding or_mark
one_last e acc z true = refl
one_last e acc z false = refl

fold_last : (xs : List Endpoint) (e : ℕ) (ts : List Transfer) (acc : Option Transfer) → AllByRecursion (MarksAs xs e) ts
    → option_map first_in (fold (λ last t. cond (waits_for e t) (Some t) last) acc ts) ≡ last_or (option_map first_in acc) (waiting_from (placed_in xs ts) e 0 (length ts))
unfolding waiting_from
fold_last xs e [] acc all = refl
fold_last xs e (z ∷ zs) acc all =
    fold_last xs e zs (cond (waits_for e z) (Some z) acc) all.1
    ∙ ap (λ o. last_or o (waiting_from (placed_in xs zs) e 0 (length zs))) (one_last e acc z (waits_for e z) ∙ ap (λ m. or_mark m (option_map first_in acc)) (sym all.0))
    ∙ sym (last_before (mark e (placed_of xs z)) (option_map first_in acc) (waiting_from (placed_in xs zs) e 0 (length zs)))
    ∙ ap (λ bs. last_or (option_map first_in acc) (before (mark e (placed_of xs z)) bs)) (sym (shift (placed_in xs (z ∷ zs)) e 0 (length zs)))

framed_last : (notes : List DescriptorNote) (o : Option Transfer) → option_map (λ (x : Transfer). (note_at notes x.first).frame) o ≡ option_map (frame_in notes) (option_map first_in o)
framed_last notes None = refl
framed_last notes (Some y) = refl

last_some : (b : ℕ) (bs : List ℕ) → last_or (Some b) bs ≡ Some (LastOf b bs)
last_some b [] = refl
last_some b (c ∷ cs) = last_some c cs

last_mapped : (g : ℕ → ℕ) (b : ℕ) (bs : List ℕ) → LastOf (g b) (map g bs) ≡ g (LastOf b bs)
last_mapped g b [] = refl
last_mapped g b (c ∷ cs) = last_mapped g c cs

-- the frames behind those of these blocks
behind_last : (p : Placement) (n : ℕ) (notes : List DescriptorNote) (bs : List ℕ) (ts : List Transfer) → AreInStep p (map (frame_in notes) bs)
    → AreInStep p (map (frame_in notes) bs ++ frames_list p (first_frame p n (option_map (frame_in notes) (last_or None bs))) ts)
unfolding frames_list
behind_last p n notes [] ts old = list_steps p (first_frame p n None) ts
behind_last p n notes (b ∷ bs) [] old = subst (AreInStep p) (sym (nothing_more (map (frame_in notes) (b ∷ bs)))) old
  where
    nothing_more : (fs : List ℕ) → fs ++ [] ≡ fs
    nothing_more [] = refl
    nothing_more (f ∷ fs) = ap (λ gs. f ∷ gs) (nothing_more fs)
behind_last p n notes (b ∷ bs) (y ∷ ys) old =
    let is : first_frame p n (option_map (frame_in notes) (last_or (Some b) bs)) ≡ frames_from p (LastOf (frame_in notes b) (map (frame_in notes) bs)) 1 =
    ap (λ o. first_frame p n (option_map (frame_in notes) o)) (last_some b bs) ∙ ap (λ f. frames_from p f 1) (sym (last_mapped (frame_in notes) b bs)) in
    joined p (frame_in notes b) (first_frame p n (option_map (frame_in notes) (last_or (Some b) bs))) (map (frame_in notes) bs)
    (frames_list p (frames_from p (first_frame p n (option_map (frame_in notes) (last_or (Some b) bs))) 1) ys) old is
    (steps_behind _ (list_steps p (first_frame p n (option_map (frame_in notes) (last_or (Some b) bs))) (y ∷ ys)))
  where
    steps_behind : (f : ℕ) → AreInStep p (frames_list p f (y ∷ ys)) → StepsTo p f (frames_list p (frames_from p f 1) ys)
    steps_behind f h = h

last_active : (p : Placement) (notes : List DescriptorNote) (bs : List ℕ) (f : ℕ) → AllByRecursion (λ g. is_active p g ≡ true) (map (frame_in notes) bs) → option_map (frame_in notes) (last_or None bs) ≡ Some f → is_active p f ≡ true
last_active p notes [] f all e = absurd (cc)
last_active p notes (b ∷ bs) f all e = one b bs all (same_Some (frame_in notes (LastOf b bs)) f (sym (ap (option_map (frame_in notes)) (last_some b bs)) ∙ e))
  where
    one : (c : ℕ) (cs : List ℕ) → AllByRecursion (λ g. is_active p g ≡ true) (map (frame_in notes) (c ∷ cs)) → frame_in notes (LastOf c cs) ≡ f → is_active p f ≡ true
    one c [] all is = subst (λ g. is_active p g ≡ true) is all.0
    one c (k ∷ ks) all is = one k ks all.1 is

-- ---- the marks of new ones, and the frames of old ones

pub same_frames : (v : ℕ → Option Placed) (g h : ℕ → ℕ) (e a n : ℕ) → ((t b : ℕ) → a ≤ t → t < a + n → mark e (v t) ≡ Some b → h b ≡ g b) → map h (waiting_from v e a n) ≡ map g (waiting_from v e a n)
unfolding waiting_from
same_frames v g h e a zero same = refl
same_frames v g h e a (suc n) same = at (mark e (v a)) refl (same_frames v g h e (suc a) n (λ t b low high is. same t b (omega (arith, low)) (omega (arith, high)) is))
  where
    at : (m : Option ℕ) → mark e (v a) ≡ m → map h (waiting_from v e (suc a) n) ≡ map g (waiting_from v e (suc a) n) → map h (before m (waiting_from v e (suc a) n)) ≡ map g (before m (waiting_from v e (suc a) n))
    at None is rest = rest
    at (Some b) is rest = ap (λ k. k ∷ map h (waiting_from v e (suc a) n)) (same a b (omega arith) (omega arith) is) ∙ ap (λ ks. g b ∷ ks) rest

pub new_waiting : (v : ℕ → Option Placed) (e a : ℕ) (ts : List Transfer) → ((i : ℕ) (y : Transfer) → slice_get ts i ≡ Some y → mark e (v (a + i)) ≡ Some y.first) → waiting_from v e a (length ts) ≡ blocks_of ts
unfolding waiting_from
new_waiting v e a [] each = refl
new_waiting v e a (y ∷ ys) each =
    let here : a + 0 ≡ a = omega arith in
    ap (λ m. before m (waiting_from v e (suc a) (length ys))) (ap (λ t. mark e (v t)) (sym here) ∙ each 0 y refl)
    ∙ ap (λ bs. y.first ∷ bs) (new_waiting v e (suc a) ys (λ i z there. let at : suc a + i ≡ a + suc i = omega arith in ap (λ t. mark e (v t)) at ∙ each (suc i) z there))

pub taken_get : {X : Type 0} (n : ℕ) (xs : List X) (i : ℕ) → i < n → slice_get (take n xs) i ≡ slice_get xs i
taken_get zero xs i low = absurd (omega (arith, low))
taken_get (suc n) [] i low = refl
taken_get (suc n) (x ∷ xs) zero low = refl
taken_get (suc n) (x ∷ xs) (suc i) low = taken_get n xs i (omega (arith, low))

has_slot : (ss : List Slot) (b : ℕ) → HasRun (slot_of ss b) → b < length ss
has_slot ss b run =
    ⊎_elim (λ (low : b < length ss). low) (λ (past : length ss ≤ b). absurd (subst HasRun (get_or_past ss b Empty past) run)) (cases_lt b (length ss))

marks_as : (xs : List Endpoint) (e : ℕ) (z : Transfer) → is_chained (framed_in xs e) ≡ true → (z.endpoint ≡ e → is_descriptor z.sort ≡ true) → MarksAs xs e z
marks_as xs e z chained sort = at (waits_for e z) refl
  where
    own : Placed
    own = record { endpoint = z.endpoint; block = z.first; waits = not z.reported && is_chained (framed_in xs z.endpoint) }

    at : (b : Bool) → waits_for e z ≡ b → mark e (placed_of xs z) ≡ cond b (Some z.first) None
    at false off = waits_not xs e z off
    at true on =
        let w = waits_is e z on in
        ap (λ b. mark e (cond b (Some own) None)) (sort w.endpoint)
        ∙ mark_is e own w.endpoint (ap (λ b. not b && is_chained (framed_in xs z.endpoint)) w.reported ∙ (ap (λ k. is_chained (framed_in xs k)) w.endpoint ∙ chained))

-- ---- endpoints that are framed

pub record IsFramedAt (d : DriverContent) (e : ℕ) (x : Framed) : Type 0 where
  pub endpoint : Endpoint
  pub here : slice_get d.endpoints e ≡ Some endpoint
  pub is : x ≡ framed_of endpoint

pub framed_at : (d : DriverContent) (e : ℕ) (x : Framed) → framed_in d.endpoints e ≡ Some x → IsFramedAt d e x
framed_at d e x here = let f = framed d.endpoints e x here in record { endpoint = f.endpoint; here = f.here; is = f.is }

all_range_taken : (xs : List Endpoint) (e n : ℕ) (us : List Transfer) → ((t : ℕ) (z : Transfer) → slice_get us t ≡ Some z → MarksAs xs e z) → AllByRecursion (MarksAs xs e) (take n us)
all_range_taken xs e n us each = all_range (MarksAs xs e) 0 n us (λ t z there low. each t z there)

-- ---- the row

pub frames_stepped : (d : DriverContent) (n e0 first count : ℕ) → d.command ≡ Some (unfinished.Iso e0 first count) → d.made ≡ 0 → HasOwners d → IsListed d
    → ((e : ℕ) (x : Framed) (p : Placement) → framed_in d.endpoints e ≡ Some x → x.chained ≡ true → x.placement ≡ Some p → IsPlace p) → AreStepped d → AreStepped (framed_by d n (Some (unfinished.Iso e0 first count)))
frames_stepped d n e0 first count is none has listed places old = subst AreStepped (sym same) now
  where
    c : Command
    c = unfinished.Iso e0 first count

    ts : List Transfer
    ts = take count (drop first d.transfers)

    notes : List DescriptorNote
    notes = framed_notes d n e0 first count (placement_at d e0)

    f : DriverContent
    f = with_notes d n ts notes

    g : DriverContent
    g = record f { made = 1 }

    same : framed_by d n (Some c) ≡ g
    same = ap (advanced_by f) is ∙ ap (λ k. cond (nat_lt (suc k) 2) (record f { made = suc k }) (linked_on f c)) none

    own : Owns d
    own = owns d has

    key : ℕ → ℕ
    key b = transfer_of (own.owner b)

    v : ℕ → Option Placed
    v = placed_in d.endpoints d.transfers

    way : IsDescribing d e0 first count
    way = subst (λ (k : Option Command). IsUnderWay d k) is listed.way

    new : (t : ℕ) (y : Transfer) → slice_get d.transfers t ≡ Some y → first ≤ t → (q : Placed) × ((v t ≡ Some q) × ((q.endpoint ≡ e0) × (q.waits ≡ true)))
    new t y there low = way.each t low (slice_get_within d.transfers t y there)

    new_block : (t : ℕ) (y : Transfer) → (there : slice_get d.transfers t ≡ Some y) → (low : first ≤ t) → (new t y there low).0.block ≡ y.first
    new_block t y there low =
        let q = new t y there low in
        let s = seen d.endpoints d.transfers t q.0 q.1.0 in
        s.block ∙ ap (λ (z : Transfer). z.first) (same_Some s.transfer y (sym s.there ∙ there))

    new_mark : (t : ℕ) (y : Transfer) → slice_get d.transfers t ≡ Some y → first ≤ t → mark e0 (v t) ≡ Some y.first
    new_mark t y there low =
        let q = new t y there low in
        ap (mark e0) q.1.0 ∙ mark_is e0 q.0 q.1.1.0 q.1.1.1 ∙ ap Some (new_block t y there low)

    new_key : (t : ℕ) (y : Transfer) → slice_get d.transfers t ≡ Some y → first ≤ t → key y.first ≡ suc t
    new_key t y there low =
        let q = new t y there low in
        sym (ap key (new_block t y there low)) ∙ own.descriptors t q.0 q.1.0 (inr q.1.1.1)

    rising : Rising key (1 + first) ts
    rising = rising_range key 1 first count d.transfers (λ t y there low. let k = new_key t y there low in omega (arith, k))

    small : AllByRecursion (λ (y : Transfer). y.first < length d.periodic.notes) ts
    small =
        all_range (λ (y : Transfer). y.first < length d.periodic.notes) first count d.transfers
        (λ t y there low.
        let q = new t y there low in
        let run = descriptor_placed d t q.0 has q.1.0 (inr q.1.1.1) in
        let block = new_block t y there low in
        let in_slots = has_slot d.book.slots q.0.block (placed_run q.0.block (Described (note_at d.periodic.notes q.0.block).split t) run) in
        let many = has.owned.as_many in
        omega (arith, block, in_slots, many))

    long : length ts ≡ count
    long =
        let a = length-take count (drop first d.transfers) in
        let b = length-drop first d.transfers in
        omega (arith, a, b, way.all)

    -- a descriptor that waited keeps its note
    kept : (e t b : ℕ) → t < first → mark e (v t) ≡ Some b → AllByRecursion (λ (z : Transfer). b ≢ z.first) ts
    kept e t b low m =
        let k = marked e b (v t) m in
        let owned = own.descriptors t k.placed k.is (inr k.waits) in
        rising_apart key (1 + first) (suc t) b ts rising (omega (arith, low)) (ap key (sym k.block) ∙ owned)

    noted_as : (o : Option Placement) (b : ℕ) → AllByRecursion (λ (z : Transfer). b ≢ z.first) ts → note_at (framed_notes d n e0 first count o) b ≡ note_at d.periodic.notes b
    noted_as None b off = refl
    noted_as (Some p) b off = frames_elsewhere p ts (first_frame p n (last_frame d e0 first)) d.periodic.notes b off

    old_frames : (e : ℕ) → map (frame_in notes) (waiting_from v e 0 first) ≡ map (frame_in d.periodic.notes) (waiting_from v e 0 first)
    old_frames e =
        same_frames v (frame_in d.periodic.notes) (frame_in notes) e 0 first
        (λ t b low high m. ap (λ (k : DescriptorNote). k.frame) (noted_as (placement_at d e0) b (kept e t b (omega (arith, high)) m)))

    cut_d : framed_to d.command d.made (length d.transfers) ≡ first
    cut_d = ap (λ (o : Option Command). framed_to o d.made (length d.transfers)) is ∙ ap (λ k. framed_to (Some c) k (length d.transfers)) none

    cut_g : framed_to g.command g.made (length g.transfers) ≡ first + count
    cut_g = ap (λ (o : Option Command). framed_to o 1 (length d.transfers)) is ∙ way.all

    was : (e : ℕ) → frames_of d e ≡ map (frame_in d.periodic.notes) (waiting_from v e 0 first)
    was e = ap (λ k. map (frame_in d.periodic.notes) (waiting_from v e 0 k)) cut_d

    mapped_both : (h : ℕ → ℕ) (xs ys : List ℕ) → map h (xs ++ ys) ≡ map h xs ++ map h ys
    mapped_both h [] ys = refl
    mapped_both h (x ∷ xs) ys = ap (λ zs. h x ∷ zs) (mapped_both h xs ys)

    are : (e : ℕ) → frames_of g e ≡ frames_of d e ++ map (frame_in notes) (waiting_from v e first count)
    are e =
        let at : 0 + first ≡ first = omega arith in
        ap (λ k. map (frame_in notes) (waiting_from v e 0 k)) cut_g ∙ ap (map (frame_in notes)) (more_waiting v e 0 first count)
        ∙ mapped_both (frame_in notes) (waiting_from v e 0 first) (waiting_from v e (0 + first) count)
        ∙ ap (λ k. map (frame_in notes) (waiting_from v e 0 first) ++ map (frame_in notes) (waiting_from v e k count)) at
        ∙ ap (λ fs. fs ++ map (frame_in notes) (waiting_from v e first count)) (old_frames e ∙ sym (was e))

    -- of another endpoint no frame is chosen
    none_new : (e : ℕ) → e ≢ e0 → waiting_from v e first count ≡ []
    none_new e off =
        none_waiting v e first count
        (λ t low high.
        let q = way.each t low (omega (arith, high, way.all)) in
        ap (mark e) q.1.0 ∙ mark_off e q.0 (λ hit. off (sym hit ∙ q.1.1.0)))

    nothing_more : (fs : List ℕ) → fs ++ [] ≡ fs
    nothing_more [] = refl
    nothing_more (h ∷ hs) = ap (λ gs. h ∷ gs) (nothing_more hs)

    same_else : (e : ℕ) → e ≢ e0 → frames_of g e ≡ frames_of d e
    same_else e off = are e ∙ ap (λ bs. frames_of d e ++ map (frame_in notes) bs) (none_new e off) ∙ nothing_more (frames_of d e)

    of : (e : ℕ) (p : Placement) → AreInStep p (frames_of g e) → AllByRecursion (λ h. is_active p h ≡ true) (frames_of g e) → IsStepped d e p → IsStepped g e p
    of e p steps active h = record { steps = steps; active = active; few = h.few; bound = h.bound; next = h.next }

    new_blocks : waiting_from v e0 first count ≡ blocks_of ts
    new_blocks =
        ap (waiting_from v e0 first) (sym long)
        ∙ new_waiting v e0 first ts
        (λ i y there.
        let low = slice_get_within ts i y there in
        new_mark (first + i) y (sym (sym there ∙ taken_get count (drop first d.transfers) i (omega (arith, low, long)) ∙ get_dropped first d.transfers i)) (omega arith))

    -- the frames of the endpoint's descriptors
    own_frames : (x : Framed) (p : Placement) → framed_in d.endpoints e0 ≡ Some x → x.isochronous ≡ true → x.chained ≡ true → x.placement ≡ Some p
        → frames_of g e0 ≡ map (frame_in d.periodic.notes) (waiting_from v e0 0 first) ++ frames_list p (first_frame p n (option_map (frame_in d.periodic.notes) (last_or None (waiting_from v e0 0 first)))) ts
    own_frames x p here iso chained placed =
        are e0 ∙ ap (λ fs. fs ++ map (frame_in notes) (waiting_from v e0 first count)) (was e0)
        ∙ ap (λ bs. map (frame_in d.periodic.notes) (waiting_from v e0 0 first) ++ map (frame_in notes) bs) new_blocks
        ∙ ap (λ o. map (frame_in d.periodic.notes) (waiting_from v e0 0 first) ++ map (frame_in (framed_notes d n e0 first count o)) (blocks_of ts)) at
        ∙ ap (λ fs. map (frame_in d.periodic.notes) (waiting_from v e0 0 first) ++ fs) (chosen p key (1 + first) (first_frame p n (last_frame d e0 first)) ts d.periodic.notes rising small)
        ∙ ap (λ o. map (frame_in d.periodic.notes) (waiting_from v e0 0 first) ++ frames_list p (first_frame p n o) ts) last
      where
        s : IsFramedAt d e0 x
        s = framed_at d e0 x here

        at : placement_at d e0 ≡ Some p
        at = ap (option_and_then (λ (z : Endpoint). z.placement)) s.here ∙ (ap (λ (w : Framed). w.placement) (sym s.is) ∙ placed)

        us : List Transfer
        us = take first d.transfers

        us_long : length us ≡ first
        us_long = let a = length-take first d.transfers in omega (arith, a, way.all)

        chain : is_chained (framed_in d.endpoints e0) ≡ true
        chain = ap is_chained here ∙ chained

        sort : (t : ℕ) (z : Transfer) → slice_get d.transfers t ≡ Some z → z.endpoint ≡ e0 → is_descriptor z.sort ≡ true
        sort t z there hit =
            has.orderly.sorts t z s.endpoint there (ap (slice_get d.endpoints) hit ∙ s.here) ∙ (ap (λ (w : Framed). w.isochronous) (sym s.is) ∙ iso)

        all_marked : AllByRecursion (MarksAs d.endpoints e0) us
        all_marked = all_range_taken d.endpoints e0 first d.transfers (λ t z there. marks_as d.endpoints e0 z chain (sort t z there))

        last : last_frame d e0 first ≡ option_map (frame_in d.periodic.notes) (last_or None (waiting_from v e0 0 first))
        last =
            framed_last d.periodic.notes (last_waiting e0 us)
            ∙ ap (option_map (frame_in d.periodic.notes))
            (fold_last d.endpoints e0 us None all_marked
            ∙ ap (λ k. last_or None (waiting_from (placed_in d.endpoints us) e0 0 k)) us_long
            ∙ ap (last_or None) (same_waiting v (placed_in d.endpoints us) e0 0 first (λ t low high. ap (λ (o : Option Transfer). mark e0 (option_and_then (placed_of d.endpoints) o)) (taken_get first d.transfers t (omega (arith, high))))))

    now : AreStepped g
    now e x p here iso chained placed =
        let h = old e x p here iso chained placed in
        ⊎_elim
        (λ (hit : e ≡ e0).
        let here0 : framed_in d.endpoints e0 ≡ Some x = ap (framed_in d.endpoints) (sym hit) ∙ here in
        let h0 : IsStepped d e0 p = subst (λ k. IsStepped d k p) hit h in
        let fs = own_frames x p here0 iso chained placed in
        let old_steps : AreInStep p (map (frame_in d.periodic.notes) (waiting_from v e0 0 first)) = subst (AreInStep p) (was e0) h0.steps in
        let old_active = subst (AllByRecursion (λ k. is_active p k ≡ true)) (was e0) h0.active in
        let place = places e x p here chained placed in
        let first_on = first_active p n (option_map (frame_in d.periodic.notes) (last_or None (waiting_from v e0 0 first))) place
        (λ k is_last. last_active p d.periodic.notes (waiting_from v e0 0 first) k old_active is_last) in
        subst (λ k. IsStepped g k p) (sym hit)
        (of e0 p (subst (AreInStep p) (sym fs) (behind_last p n d.periodic.notes (waiting_from v e0 0 first) ts old_steps))
        (subst (AllByRecursion (λ k. is_active p k ≡ true)) (sym fs)
        (all_both (λ k. is_active p k ≡ true) (map (frame_in d.periodic.notes) (waiting_from v e0 0 first)) (frames_list p _ ts) old_active
        (list_active p _ ts place first_on))) h0))
        (λ (miss : e ≢ e0).
        let fs = same_else e miss in
        of e p (subst (AreInStep p) (sym fs) h.steps) (subst (AllByRecursion (λ k. is_active p k ≡ true)) (sym fs) h.active) h) (cases_eq e e0)
