-- There is still room in the frame list's part for what is owed, as one transfer or endpoint changes.
use Rattle.std.proofs.Common.{◌≡◌, ℕ, ◌+◌, ◌-◌, ◌≤◌, ◌<◌, Bool, true, false, cond, List, [], ◌∷◌, ◌++◌, length, set, map, filter, take, drop, zero, suc, is_none, nat_eq, not, ◌||◌, slice_get, Some, arith, ap, sym, subst, ◌∙◌, refl}
use Rattle.std.proofs.lemmas.Bool.{ne_eqb}
use Rattle.std.proofs.lemmas.List.{length-set, length_push}
use Rattle.std.proofs.lemmas.List.Sums.{sum_by_push}
use Rattle.bandwidth.specs.declared.placements.Placed.{Placed}
use Rattle.std.specs.List.{list_any}
use Rattle.bandwidth.specs.Admission.{Admissions, without}
use Rattle.drv_chains.specs.declared.members.Member.{Member}
use Rattle.drv_periodic.specs.Periodic.{Periodic}
use Rattle.drv_periodic_table.specs.declared.content.DescriptorNote.{DescriptorNote}
use Rattle.drv_periodic_table.specs.Periodic.{PeriodicContent, read_again}
use Rattle.drv_periodic_table.specs.Linking.{with_first, begun_next}
use Rattle.drv_periodic_table.specs.declared.content.Removal.{Removal}
use Rattle.drv_frames_content.specs.Part.{Held, with_periodic, with_list, with_queued, with_notes, with_removals}
use Rattle.drv_table.specs.declared.content.Endpoint.{Endpoint}
use Rattle.drv_table.specs.declared.content.Transfer.{Transfer}
use Rattle.drv_table.specs.declared.content.Reserve.{Reserve}
use Rattle.ehci_driver.specs.Rooms.{HasFrameRooms, unreported, chained, AreBefore}
use Rattle.drv_table.specs.Releases.{let_go}
use Rattle.ehci_driver.proofs.Counts.{counted, told_once, kept_lines}
use Rattle.ehci_driver.proofs.Gone.{fewer_lines, same_long}

-- ---- how many have a place

pub kept_chained : (xs : List Endpoint) (e : ℕ) (x y : Endpoint) → slice_get xs e ≡ Some x → y.chained ≡ x.chained → chained (set xs e y) ≡ chained xs
kept_chained xs e x y there same =
    let f : ◌≡◌ {A = ℕ} (cond y.chained 1 0) (cond x.chained 1 0) = ap (λ b. cond b 1 0) same in
    omega (arith, counted (λ (u : Endpoint). cond u.chained 1 0) xs e x y there, f)

pub left_frames : (xs : List Endpoint) (e : ℕ) (x : Endpoint) → slice_get xs e ≡ Some x → x.chained ≡ true → chained (set xs e (record x { chained = false })) + 1 ≡ chained xs
left_frames xs e x there on =
    let one : ◌≡◌ {A = ℕ} (cond x.chained 1 0) 1 = ap (λ b. cond b 1 0) on in
    omega (arith, counted (λ (u : Endpoint). cond u.chained 1 0) xs e x (record x { chained = false }) there, one)

one_more : (xs : List Endpoint) (y : Endpoint) → chained (xs ++ y ∷ []) ≡ chained xs + cond y.chained 1 0
one_more xs y = sum_by_push (λ (u : Endpoint). cond u.chained 1 0) xs y

-- ---- placements of endpoints below a number

pub before_same : (n m : ℕ) (ps : List Placed) → m ≡ n → AreBefore n ps → AreBefore m ps
before_same n m ps same all = subst (λ (k : ℕ). AreBefore k ps) (sym same) all

pub before_more : (n m : ℕ) (ps : List Placed) → m ≡ n + 1 → AreBefore n ps → AreBefore m ps
before_more n m [] more all = tt
before_more n m (p ∷ ps) more all = (omega (arith, more, all.0), before_more n m ps more all.1)

pub before_new : (n : ℕ) (ps : List Placed) (p : Placed) → p.want.id < n → AreBefore n ps → AreBefore n (ps ++ p ∷ [])
before_new n [] p below all = (below, tt)
before_new n (q ∷ ps) p below all = (all.0, before_new n ps p below all.1)

-- ---- nothing more is owed

pub frames_kept : {xs : List Endpoint} {ts : List Transfer} {room : Reserve} {held : Held} (ys : List Endpoint) (us : List Transfer) → HasFrameRooms xs ts room held → length ys ≡ length xs → chained ys ≤ chained xs → length us ≡ length ts → unreported us ≤ unreported ts → HasFrameRooms ys us room held
frames_kept {xs = xs} {ts = ts} ys us rooms many chains long lines = record {
  few_endpoints = omega (arith, many, rooms.few_endpoints);
  for_queued = omega (arith, long, rooms.for_queued);
  for_plan = rooms.for_plan;
  placed_before = before_same _ _ _ many rooms.placed_before;
  for_unlinks = omega (arith, lines, rooms.for_unlinks);
  for_removals = omega (arith, lines, chains, rooms.for_removals);
}

-- endpoints that were written
pub frames_written : {ts : List Transfer} {room : Reserve} {held : Held} (xs ys : List Endpoint) → ys ≡ xs → HasFrameRooms xs ts room held → HasFrameRooms ys ts room held
frames_written xs ys same rooms = rw (same) rooms

-- one endpoint changes elsewhere
pub frames_endpoint : {xs : List Endpoint} {ts : List Transfer} {room : Reserve} {held : Held} (ys : List Endpoint) (e : ℕ) (x y : Endpoint) → HasFrameRooms xs ts room held → ys ≡ set xs e y → slice_get xs e ≡ Some x → y.chained ≡ x.chained → HasFrameRooms ys ts room held
frames_endpoint {xs = xs} {ts = ts} ys e x y rooms is there same =
    let chains = kept_chained xs e x y there same in
    frames_written (set xs e y) ys is (frames_kept (set xs e y) ts rooms (length-set xs e y) (omega (arith, chains)) refl (omega arith))

-- a cancel: one line less
pub frames_cancelled : {xs : List Endpoint} {ts : List Transfer} {room : Reserve} {held : Held} (ys : List Endpoint) (e n : ℕ) (x y : Endpoint) → HasFrameRooms xs ts room held → ys ≡ set xs e y → slice_get xs e ≡ Some x → y.chained ≡ x.chained → HasFrameRooms ys ts (record room { reports = n }) held
frames_cancelled ys e n x y rooms is there same =
    let kept = frames_endpoint ys e x y rooms is there same in
    record {
      few_endpoints = kept.few_endpoints;
      for_queued = kept.for_queued;
      for_plan = kept.for_plan;
      placed_before = kept.placed_before;
      for_unlinks = kept.for_unlinks;
      for_removals = kept.for_removals;
    }

-- one transfer changes, in which its line stays
pub frames_transfer : {xs : List Endpoint} {ts : List Transfer} {room : Reserve} {held : Held} (t : ℕ) (x y : Transfer) → HasFrameRooms xs ts room held → slice_get ts t ≡ Some x → y.reported ≡ x.reported → HasFrameRooms xs (set ts t y) room held
frames_transfer {xs = xs} {ts = ts} t x y rooms there same =
    let lines = kept_lines ts t x y there same in
    frames_kept xs (set ts t y) rooms refl (omega arith) (length-set ts t y) (omega (arith, lines))

-- a transfer gets its line
pub frames_line : {xs : List Endpoint} {ts : List Transfer} {room : Reserve} {held : Held} (t : ℕ) (x : Transfer) → HasFrameRooms xs ts room held → slice_get ts t ≡ Some x → x.reported ≡ false → HasFrameRooms xs (set ts t (record x { reported = true })) room held
frames_line {xs = xs} {ts = ts} t x rooms there fresh =
    let once = told_once ts t x there fresh in
    frames_kept xs (set ts t (record x { reported = true })) rooms refl (omega arith) (length-set ts t (record x { reported = true })) (omega (arith, once))

-- the same, and its endpoint changes elsewhere
pub frames_told : {xs : List Endpoint} {ts : List Transfer} {room : Reserve} {held : Held} (ys : List Endpoint) (t : ℕ) (x : Transfer) (e : ℕ) (old y : Endpoint) → HasFrameRooms xs ts room held → slice_get ts t ≡ Some x → x.reported ≡ false → ys ≡ set xs e y → slice_get xs e ≡ Some old → y.chained ≡ old.chained → HasFrameRooms ys (set ts t (record x { reported = true })) room held
frames_told ys t x e old y rooms there fresh is here same = frames_endpoint ys e old y (frames_line t x rooms there fresh) is here same

-- an endpoint is given back, and its transfers let their blocks go
pub frames_gone : {xs : List Endpoint} {ts : List Transfer} {room : Reserve} {held : Held} (ys : List Endpoint) (us : List Transfer) (e : ℕ) (told : Bool) (x : Endpoint) → HasFrameRooms xs ts room held → ys ≡ set xs e (record x { gone = true }) → slice_get xs e ≡ Some x → us ≡ map (let_go e told) ts → HasFrameRooms ys us room held
frames_gone {xs = xs} {ts = ts} ys us e told x rooms is here all =
    let chains = kept_chained xs e x (record x { gone = true }) here refl in
    let lines : unreported us ≤ unreported ts = omega (arith, ap unreported all, fewer_lines e told ts) in
    frames_written (set xs e (record x { gone = true })) ys is
    (frames_kept (set xs e (record x { gone = true })) us rooms (length-set xs e (record x { gone = true })) (omega (arith, chains)) (ap (length {A = Transfer}) all ∙ same_long e told ts) lines)

-- ---- a new endpoint, and a new transfer

one_at_most : (b : Bool) → cond b 1 0 ≤ 1
one_at_most true = omega arith
one_at_most false = omega arith

pub frames_opened : {xs : List Endpoint} {ts : List Transfer} {room : Reserve} {held : Held} (ys : List Endpoint) (y : Endpoint) → HasFrameRooms xs ts room held → 1 ≤ room.endpoints → ys ≡ xs ++ y ∷ [] → HasFrameRooms ys ts (record room { endpoints = room.endpoints - 1 }) held
frames_opened {xs = xs} {ts = ts} {room = room} ys y rooms some these =
    let long : length ys ≡ length xs + 1 = ap (length {A = Endpoint}) these ∙ length_push xs y in
    let chains : chained ys ≡ chained xs + cond y.chained 1 0 = ap chained these ∙ one_more xs y in
    let one = one_at_most y.chained in
    record {
      few_endpoints = omega (arith, long, some, rooms.few_endpoints);
      for_queued = rooms.for_queued;
      for_plan = omega (arith, some, rooms.for_plan);
      placed_before = before_more _ _ _ long rooms.placed_before;
      for_unlinks = rooms.for_unlinks;
      for_removals = omega (arith, chains, one, some, rooms.for_removals);
    }

one_line : (ts : List Transfer) (t : Transfer) → unreported (ts ++ t ∷ []) ≡ unreported ts + cond t.reported 0 1
one_line ts t = sum_by_push (λ (u : Transfer). cond u.reported 0 1) ts t

one_line_at_most : (b : Bool) → cond b 0 1 ≤ 1
one_line_at_most true = omega arith
one_line_at_most false = omega arith

pub frames_entered : {xs : List Endpoint} {ts : List Transfer} {room : Reserve} {held : Held} (ys : List Endpoint) (us : List Transfer) (t : Transfer) (left : Reserve) (e : ℕ) (old y : Endpoint) → HasFrameRooms xs ts room held → 1 ≤ room.transfers → us ≡ ts ++ t ∷ [] → ys ≡ set xs e y → slice_get xs e ≡ Some old → y.chained ≡ old.chained → left.endpoints ≡ room.endpoints → left.transfers ≡ room.transfers - 1 → HasFrameRooms ys us left held
frames_entered {xs = xs} {ts = ts} {room = room} ys us t left e old y rooms some these is here same r0 r1 =
    let many = length-set xs e y in
    let long : length us ≡ length ts + 1 = ap (length {A = Transfer}) these ∙ length_push ts t in
    let lines : unreported us ≡ unreported ts + cond t.reported 0 1 = ap unreported these ∙ one_line ts t in
    let one = one_line_at_most t.reported in
    let chains = kept_chained xs e old y here same in
    frames_written (set xs e y) ys is (record {
      few_endpoints = omega (arith, many, r0, rooms.few_endpoints);
      for_queued = omega (arith, long, r1, some, rooms.for_queued);
      for_plan = omega (arith, r0, rooms.for_plan);
      placed_before = before_same _ _ _ many rooms.placed_before;
      for_unlinks = omega (arith, lines, one, r1, some, rooms.for_unlinks);
      for_removals = omega (arith, lines, one, r0, r1, some, chains, rooms.for_removals);
    })

-- ---- the part changes

-- what is owed by a part stays
pub record Keeps (h g : Held) : Type 0 where
  pub plan : g.periodic.plan ≡ h.periodic.plan
  pub unlinks : length g.periodic.unlinks ≡ length h.periodic.unlinks
  pub removals : length g.periodic.removals ≤ length h.periodic.removals
  pub queued_room : g.queued_room ≡ h.queued_room
  pub unlink_room : g.unlink_room ≡ h.unlink_room
  pub removal_room : g.removal_room ≡ h.removal_room

pub frames_held : {xs : List Endpoint} {ts : List Transfer} {room : Reserve} {h : Held} (g : Held) → HasFrameRooms xs ts room h → Keeps h g → HasFrameRooms xs ts room g
frames_held {xs = xs} {ts = ts} {room = room} g rooms k = record {
  few_endpoints = rooms.few_endpoints;
  for_queued = omega (arith, k.queued_room, rooms.for_queued);
  for_plan = subst (λ (a : Admissions). length a.placed + room.endpoints ≤ a.room) (sym k.plan) rooms.for_plan;
  placed_before = subst (λ (a : Admissions). AreBefore (length xs) a.placed) (sym k.plan) rooms.placed_before;
  for_unlinks = omega (arith, k.unlinks, k.unlink_room, rooms.for_unlinks);
  for_removals = omega (arith, k.unlinks, k.removals, k.removal_room, rooms.for_removals);
}

-- a new placed endpoint
pub frames_placed : {xs : List Endpoint} {ts : List Transfer} {room : Reserve} {h : Held} (ys : List Endpoint) (y : Endpoint) (g : Held) (p : Placed) → HasFrameRooms xs ts room h → 1 ≤ room.endpoints → ys ≡ xs ++ y ∷ [] → g.periodic.plan ≡ record h.periodic.plan { placed = h.periodic.plan.placed ++ p ∷ [] } → p.want.id ≡ length xs → g.periodic.unlinks ≡ h.periodic.unlinks → g.periodic.removals ≡ h.periodic.removals → g.queued_room ≡ h.queued_room → g.unlink_room ≡ h.unlink_room → g.removal_room ≡ h.removal_room → HasFrameRooms ys ts (record room { endpoints = room.endpoints - 1 }) g
frames_placed {xs = xs} {ts = ts} {room = room} {h = h} ys y g p rooms some these plan own unlinks removals r0 r1 r2 =
    let opened = frames_opened ys y rooms some these in
    let long : length ys ≡ length xs + 1 = ap (length {A = Endpoint}) these ∙ length_push xs y in
    let more = length_push h.periodic.plan.placed p in
    let u = ap (length {A = ℕ}) unlinks in
    let r = ap (length {A = Removal}) removals in
    record {
      few_endpoints = opened.few_endpoints;
      for_queued = omega (arith, r0, opened.for_queued);
      for_plan = subst (λ (a : Admissions). length a.placed + (room.endpoints - 1) ≤ a.room) (sym plan) (omega (arith, more, some, rooms.for_plan));
      placed_before = subst (λ (a : Admissions). AreBefore (length ys) a.placed) (sym plan) (before_new (length ys) h.periodic.plan.placed p (omega (arith, own, long)) opened.placed_before);
      for_unlinks = omega (arith, u, r1, opened.for_unlinks);
      for_removals = omega (arith, u, r, r2, opened.for_removals);
    }

-- an endpoint leaves its frames
pub frames_left : {xs : List Endpoint} {ts : List Transfer} {room : Reserve} {h : Held} (ys : List Endpoint) (e : ℕ) (x : Endpoint) (r : Removal) → HasFrameRooms xs ts room h → ys ≡ set xs e (record x { chained = false }) → slice_get xs e ≡ Some x → x.chained ≡ true → HasFrameRooms ys ts room (record h { periodic = record h.periodic { removals = h.periodic.removals ++ r ∷ [] } })
frames_left {xs = xs} {ts = ts} {room = room} {h = h} ys e x r rooms is here on =
    let y : Endpoint = record x { chained = false } in
    let less = left_frames xs e x here on in
    let many = length-set xs e y in
    let one = length_push h.periodic.removals r in
    frames_written (set xs e y) ys is (record {
      few_endpoints = omega (arith, many, rooms.few_endpoints);
      for_queued = rooms.for_queued;
      for_plan = rooms.for_plan;
      placed_before = before_same _ _ _ many rooms.placed_before;
      for_unlinks = rooms.for_unlinks;
      for_removals = omega (arith, one, less, rooms.for_removals);
    })

pub can_leave : {xs : List Endpoint} {ts : List Transfer} {room : Reserve} {h : Held} (e : ℕ) (x : Endpoint) → HasFrameRooms xs ts room h → slice_get xs e ≡ Some x → x.chained ≡ true → length h.periodic.removals < h.removal_room
can_leave {xs = xs} e x rooms here on = omega (arith, left_frames xs e x here on, rooms.for_removals)

-- a descriptor gets its line, and is to be unlinked
pub frames_served : {xs : List Endpoint} {ts : List Transfer} {room : Reserve} {h : Held} (ys : List Endpoint) (t : ℕ) (x : Transfer) (e : ℕ) (old y : Endpoint) → HasFrameRooms xs ts room h → slice_get ts t ≡ Some x → x.reported ≡ false → ys ≡ set xs e y → slice_get xs e ≡ Some old → y.chained ≡ old.chained → HasFrameRooms ys (set ts t (record x { reported = true })) room (record h { periodic = record h.periodic { unlinks = h.periodic.unlinks ++ t ∷ [] } })
frames_served {xs = xs} {ts = ts} {room = room} {h = h} ys t x e old y rooms there fresh is here same =
    let once = told_once ts t x there fresh in
    let chains = kept_chained xs e old y here same in
    let many = length-set xs e y in
    let long = length-set ts t (record x { reported = true }) in
    let one = length_push h.periodic.unlinks t in
    frames_written (set xs e y) ys is (record {
      few_endpoints = omega (arith, many, rooms.few_endpoints);
      for_queued = omega (arith, long, rooms.for_queued);
      for_plan = rooms.for_plan;
      placed_before = before_same _ _ _ many rooms.placed_before;
      for_unlinks = omega (arith, one, once, rooms.for_unlinks);
      for_removals = omega (arith, one, once, chains, rooms.for_removals);
    })

pub can_serve : {xs : List Endpoint} {ts : List Transfer} {room : Reserve} {h : Held} (t : ℕ) (x : Transfer) → HasFrameRooms xs ts room h → slice_get ts t ≡ Some x → x.reported ≡ false → length h.periodic.unlinks < h.unlink_room
can_serve {ts = ts} t x rooms there fresh = omega (arith, told_once ts t x there fresh, rooms.for_unlinks)

-- a descriptor that waits is unlinked
pub frames_unlinked : {xs : List Endpoint} {ts : List Transfer} {room : Reserve} {h : Held} (g : Held) → HasFrameRooms xs ts room h → g.periodic.plan ≡ h.periodic.plan → length g.periodic.unlinks + 1 ≡ length h.periodic.unlinks → length g.periodic.removals ≡ length h.periodic.removals + 1 → g.queued_room ≡ h.queued_room → g.unlink_room ≡ h.unlink_room → g.removal_room ≡ h.removal_room → HasFrameRooms xs ts room g
frames_unlinked {xs = xs} {ts = ts} {room = room} g rooms plan unlinks removals r0 r1 r2 = record {
  few_endpoints = rooms.few_endpoints;
  for_queued = omega (arith, r0, rooms.for_queued);
  for_plan = subst (λ (a : Admissions). length a.placed + room.endpoints ≤ a.room) (sym plan) rooms.for_plan;
  placed_before = subst (λ (a : Admissions). AreBefore (length xs) a.placed) (sym plan) rooms.placed_before;
  for_unlinks = omega (arith, unlinks, r1, rooms.for_unlinks);
  for_removals = omega (arith, unlinks, removals, r2, rooms.for_removals);
}

-- ---- changes of the part that owe nothing

pub keeps_both : {h g k : Held} → Keeps h g → Keeps g k → Keeps h k
keeps_both one two = record {
  plan = two.plan ∙ one.plan;
  unlinks = two.unlinks ∙ one.unlinks;
  removals = omega (arith, one.removals, two.removals);
  queued_room = two.queued_room ∙ one.queued_room;
  unlink_room = two.unlink_room ∙ one.unlink_room;
  removal_room = two.removal_room ∙ one.removal_room;
}

pub keeps_queued : (h : Held) (ms : List Member) → Keeps h (with_queued h ms)
keeps_queued h ms = record { plan = refl; unlinks = refl; removals = omega arith; queued_room = refl; unlink_room = refl; removal_room = refl }

pub keeps_list : (h : Held) (l : Periodic) → Keeps h (with_list h l)
keeps_list h l = record { plan = refl; unlinks = refl; removals = omega arith; queued_room = refl; unlink_room = refl; removal_room = refl }

pub keeps_notes : (h : Held) (notes : List DescriptorNote) → Keeps h (with_notes h notes)
keeps_notes h notes = record { plan = refl; unlinks = refl; removals = omega arith; queued_room = refl; unlink_room = refl; removal_room = refl }

same_long_removals : (n : ℕ) (rs : List Removal) → length (read_again n rs) ≡ length rs
same_long_removals n [] = refl
same_long_removals n (r ∷ rs) = ap suc (same_long_removals n rs)

pub keeps_read : (h : Held) (n : ℕ) → Keeps h (with_removals h (read_again n h.periodic.removals))
keeps_read h n = record { plan = refl; unlinks = refl; removals = omega (arith, same_long_removals n h.periodic.removals); queued_room = refl; unlink_room = refl; removal_room = refl }

less_long : (rs : List Removal) → length (drop 1 rs) ≤ length rs
less_long [] = omega arith
less_long (r ∷ rs) = omega arith

pub keeps_less : (h : Held) → Keeps h (with_removals h (drop 1 h.periodic.removals))
keeps_less h = record { plan = refl; unlinks = refl; removals = omega (arith, less_long h.periodic.removals); queued_room = refl; unlink_room = refl; removal_room = refl }

keeps_first : (b : Bool) (h : Held) (ms : List Member) → Keeps h (with_periodic h (with_first b h.periodic ms))
keeps_first b h [] = record { plan = refl; unlinks = refl; removals = omega arith; queued_room = refl; unlink_room = refl; removal_room = refl }
keeps_first b h (m ∷ ms) = record { plan = refl; unlinks = refl; removals = omega arith; queued_room = refl; unlink_room = refl; removal_room = refl }

keeps_either : (h : Held) (t : Bool) (p q : PeriodicContent) → Keeps h (with_periodic h p) → Keeps h (with_periodic h q) → Keeps h (with_periodic h (cond t p q))
keeps_either h true p q one other = one
keeps_either h false p q one other = other

pub keeps_begun : (b : Bool) (h : Held) → Keeps h (with_periodic h (begun_next b h.periodic))
keeps_begun b h = keeps_either h (is_none h.periodic.list.work) (with_first b h.periodic h.periodic.queued) h.periodic (keeps_first b h h.periodic.queued) (keeps_list h h.periodic.list)

-- a placement leaves the plan
fewer_one : (f : Placed → Bool) (p : Placed) (ps : List Placed) (b : Bool) → length (filter f ps) ≤ length ps → length (cond b (p ∷ filter f ps) (filter f ps)) ≤ suc (length ps)
fewer_one f p ps true few = omega (arith, few)
fewer_one f p ps false few = omega (arith, few)

fewer_placed : (f : Placed → Bool) (ps : List Placed) → length (filter f ps) ≤ length ps
fewer_placed f [] = omega arith
fewer_placed f (p ∷ ps) = fewer_one f p ps (f p) (fewer_placed f ps)

before_one : (n : ℕ) (f : Placed → Bool) (p : Placed) (ps : List Placed) (b : Bool) → p.want.id < n → AreBefore n (filter f ps) → AreBefore n (cond b (p ∷ filter f ps) (filter f ps))
before_one n f p ps true below rest = (below, rest)
before_one n f p ps false below rest = rest

before_fewer : (n : ℕ) (f : Placed → Bool) (ps : List Placed) → AreBefore n ps → AreBefore n (filter f ps)
before_fewer n f [] all = tt
before_fewer n f (p ∷ ps) all = before_one n f p ps (f p) all.0 (before_fewer n f ps all.1)

pub frames_withdrawn : {xs : List Endpoint} {ts : List Transfer} {room : Reserve} {h : Held} (id : ℕ) → HasFrameRooms xs ts room h → HasFrameRooms xs ts room (with_periodic h (record h.periodic { plan = without h.periodic.plan id }))
frames_withdrawn {xs = xs} {h = h} id rooms = record {
  few_endpoints = rooms.few_endpoints;
  for_queued = rooms.for_queued;
  for_plan = omega (arith, fewer_placed (λ (x : Placed). not (nat_eq x.want.id id)) h.periodic.plan.placed, rooms.for_plan);
  placed_before = before_fewer (length xs) (λ (x : Placed). not (nat_eq x.want.id id)) h.periodic.plan.placed rooms.placed_before;
  for_unlinks = rooms.for_unlinks;
  for_removals = rooms.for_removals;
}

-- a new number isn't placed
differs : (a b : ℕ) → a < b → nat_eq a b ≡ false
differs a b below = ne_eqb a b (λ (same : a ≡ b). omega (arith, below, same))

pub fresh_number : (n : ℕ) (ps : List Placed) → AreBefore n ps → list_any (λ (x : Placed). nat_eq x.want.id n) ps ≡ false
fresh_number n [] all = refl
fresh_number n (p ∷ ps) all =
    let off : nat_eq p.want.id n ≡ false = differs p.want.id n all.0 in
    ap (λ (b : Bool). b || list_any (λ (x : Placed). nat_eq x.want.id n) ps) off ∙ fresh_number n ps all.1

pub one_less : (xs : List ℕ) → 1 ≤ length xs → length (drop 1 xs) + 1 ≡ length xs
one_less [] some = absurd (omega (arith, some))
one_less (x ∷ xs) some = omega arith

short_take : (n : ℕ) (xs : List Transfer) → length (take n xs) ≤ length xs
short_take zero xs = omega arith
short_take (suc n) [] = omega arith
short_take (suc n) (x ∷ xs) = omega (arith, short_take n xs)

short_drop : (n : ℕ) (xs : List Transfer) → length (drop n xs) ≤ length xs
short_drop zero xs = omega arith
short_drop (suc n) [] = omega arith
short_drop (suc n) (x ∷ xs) = omega (arith, short_drop n xs)

pub short_span : (n t : ℕ) (xs : List Transfer) → length (take n (drop t xs)) ≤ length xs
short_span n t xs = omega (arith, short_take n (drop t xs), short_drop t xs)
